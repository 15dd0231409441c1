-- Paths that lead to the same items.
use Rattle.std.proofs.Common.{◌≡◌, ℕ, suc, ◌+◌, List, [], ◌∷◌, Some, refl, sym, add-one, arith}
use Rattle.lp_repr.specs.Closure.{next_symbol, given as core_given, opened}
use Rattle.lp_repr.specs.declared.numbering.SymbolNumber.{SymbolNumber}
use Rattle.lp_repr.specs.declared.numbering.Rule.{Rule}
use Rattle.lp_repr.specs.declared.lr1.Token.{Token}
use Rattle.lp_states.specs.ItemSets.{IsCore, IsLookahead, Moved, MovedOn}
use Rattle.lp_states.specs.Paths.{IsViable, LeadAlike}
use Rattle.lp_states.proofs.Closures.{InClosure-more, InLookaheads-more, given_behind}

module _ (rules : List Rule) (start : ℕ) where
  pub alike_itself : (u : List SymbolNumber) → LeadAlike rules start u u
  alike_itself u = record { cores = λ p d. (λ h. h, λ h. h); lookaheads = λ p d t. (λ h. h, λ h. h) }

  pub alike_back : (u v : List SymbolNumber) → LeadAlike rules start u v → LeadAlike rules start v u
  alike_back u v h = record { cores = λ p d. ((h.cores p d).1, (h.cores p d).0); lookaheads = λ p d t. ((h.lookaheads p d t).1, (h.lookaheads p d t).0) }

  pub alike_both : (u v w : List SymbolNumber) → LeadAlike rules start u v → LeadAlike rules start v w → LeadAlike rules start u w
  alike_both u v w h g = record { cores = λ p d. (λ x. (g.cores p d).0 ((h.cores p d).0 x), λ x. (h.cores p d).1 ((g.cores p d).1 x)); lookaheads = λ p d t. (λ x. (g.lookaheads p d t).0 ((h.lookaheads p d t).0 x), λ x. (h.lookaheads p d t).1 ((g.lookaheads p d t).1 x)) }

  moved_more : (x : SymbolNumber) (u v : List SymbolNumber) → ((p d : ℕ) → IsCore rules start u p d → IsCore rules start v p d) → (p d : ℕ) → Moved rules x (IsCore rules start u) p d → Moved rules x (IsCore rules start v) p d
  moved_more x u v f p d m = (m.0, m.1, f p m.0 m.2, m.3)

  moved_on_more : (x : SymbolNumber) (u v : List SymbolNumber) → ((p d : ℕ) (t : Token) → IsLookahead rules start u p d t → IsLookahead rules start v p d t) → (p d : ℕ) (t : Token) → MovedOn rules x (IsLookahead rules start u) p d t → MovedOn rules x (IsLookahead rules start v) p d t
  moved_on_more x u v f p d t m = (m.0, m.1, f p m.0 t m.2, m.3)

  -- one symbol more
  pub alike_more : (x : SymbolNumber) (u v : List SymbolNumber) → LeadAlike rules start u v → LeadAlike rules start (x ∷ u) (x ∷ v)
  alike_more x u v h = record {
    cores = λ p d. (λ c. InClosure-more (moved_more x u v (λ q e. (h.cores q e).0)) c, λ c. InClosure-more (moved_more x v u (λ q e. (h.cores q e).1)) c);
    lookaheads = λ p d t. (λ c. InLookaheads-more (moved_more x u v (λ q e. (h.cores q e).0)) (moved_on_more x u v (λ q e s. (h.lookaheads q e s).0)) c, λ c. InLookaheads-more (moved_more x v u (λ q e. (h.cores q e).1)) (moved_on_more x v u (λ q e s. (h.lookaheads q e s).1)) c);
  }

  pub viable_alike : (u v : List SymbolNumber) → LeadAlike rules start u v → IsViable rules start u → IsViable rules start v
  viable_alike u v h w = (w.0, w.1, (h.cores w.0 w.1).0 w.2)

  -- some item of a path was moved over its last symbol
  some_moved : (x : SymbolNumber) (u : List SymbolNumber) (p d : ℕ) → IsCore rules start (x ∷ u) p d → (q : ℕ) × (e : ℕ) × IsCore rules start u q e × (next_symbol rules q e ≡ Some x)
  some_moved x u p d (core_given p' d' m) = (p', m.0, m.2, m.3)
  some_moved x u q z (opened p d n q' c e l) = some_moved x u p d c

  pub moved_item : (x : SymbolNumber) (u : List SymbolNumber) → IsViable rules start (x ∷ u) → (q : ℕ) × (e : ℕ) × IsCore rules start u q e × (next_symbol rules q e ≡ Some x)
  moved_item x u v = some_moved x u v.0 v.1 v.2

  pub viable_before : (x : SymbolNumber) (u : List SymbolNumber) → IsViable rules start (x ∷ u) → IsViable rules start u
  viable_before x u v = let m = moved_item x u v in (m.0, m.1, m.2)

  pub viable_moved : (x : SymbolNumber) (u : List SymbolNumber) (q e : ℕ) → IsCore rules start u q e → next_symbol rules q e ≡ Some x → IsViable rules start (x ∷ u)
  viable_moved x u q e c n = (q, e + 1, core_given q (e + 1) (e, refl, c, n))

  -- the empty path leads to other items than all others
  pub begun_apart : (x : SymbolNumber) (u : List SymbolNumber) → IsViable rules start (x ∷ u) → LeadAlike rules start [] (x ∷ u) → ⊥
  begun_apart x u v h =
      let m = moved_item x u v in
      let c : IsCore rules start (x ∷ u) m.0 (suc m.1) = core_given m.0 (suc m.1) (m.1, sym (add-one m.1), m.2, m.3) in
      let b = given_behind ((h.cores m.0 (suc m.1)).1 c) in
      omega (arith, b.1)
