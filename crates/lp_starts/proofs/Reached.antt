-- What stands after a path is in range: dots, symbols and lookaheads.
use Rattle.std.proofs.Common.{◌≡◌, ℕ, suc, ◌+◌, ◌<◌, ◌≤◌, List, [], ◌∷◌, length, drop, Option, Some, None, slice_get, refl, sym, ap, ◌∙◌, ⊎_elim, subst, arith}
use Rattle.std.specs.Option.{option_map, option_and_then, unwrap_or}
use Rattle.std.proofs.lemmas.Option.{same_Some, none-some, slice_get_within, slice_get_cases}
use Rattle.lp_repr.specs.Closure.{next_symbol, InClosure, given as core_given, opened}
use Rattle.lp_repr.specs.ValidTables.{IsTokenInRange}
use Rattle.lp_repr.specs.declared.numbering.Rule.{Rule}
use Rattle.lp_repr.specs.declared.numbering.SymbolNumber.{SymbolNumber}
use Rattle.lp_repr.specs.declared.numbering.SymbolNumber.TheVariants as symbol
use Rattle.lp_repr.specs.declared.lr1.Token.{Token}
use Rattle.lp_sets.specs.FirstSets.{BeginsWith, here, inside, behind}
use Rattle.lp_states.specs.ItemSets.{word_after, InLookaheads, given, begun, passed, IsBegun, Moved, MovedOn, IsCore, IsLookahead}
use Rattle.lp_starts.proofs.Lists.{dropped_at}

-- ---- dots
module _ (rules : List Rule) (start : ℕ) where
  abbrev pub InRange : ℕ → ℕ → Type 0
  InRange p d = (r : Rule) × (slice_get rules p ≡ Some r) × (d ≤ length r.right)

  next_from : (o : Option Rule) (d : ℕ) (x : SymbolNumber) → option_and_then (λ (r : Rule). slice_get r.right d) o ≡ Some x → (r : Rule) × (o ≡ Some r) × (d < length r.right)
  next_from None d x h = cc
  next_from (Some r) d x h = (r, refl, slice_get_within r.right d x h)

  closure_in_range : (G : ℕ → ℕ → Type 0) → ((p d : ℕ) → G p d → InRange p d) → (p d : ℕ) → InClosure rules G p d → InRange p d
  closure_in_range G f p d (core_given p' d' g) = f p' d' g
  closure_in_range G f q z (opened p d n q' c e l) = (l.0, l.1, omega arith)

  moved_in_range : (x : SymbolNumber) (Items : ℕ → ℕ → Type 0) (p d : ℕ) → Moved rules x Items p d → InRange p d
  moved_in_range x Items p d m =
      let w = next_from (slice_get rules p) m.0 x m.3 in
      (w.0, w.1, omega (arith, w.2, m.1))

  pub core_in_range : (path : List SymbolNumber) (p d : ℕ) → IsCore rules start path p d → InRange p d
  core_in_range [] p d c = closure_in_range (IsBegun rules start) (λ q e b. (b.0.0, b.0.1, omega (arith, b.1))) p d c
  core_in_range (x ∷ u) p d c = closure_in_range (Moved rules x (IsCore rules start u)) (moved_in_range x (IsCore rules start u)) p d c

  past_from : (o : Option Rule) (r : Rule) (d : ℕ) → option_and_then (λ (s : Rule). slice_get s.right d) o ≡ None → o ≡ Some r → length r.right ≤ d
  past_from None r d h e = cc
  past_from (Some s) r d h e =
      let same = same_Some s r e in
      ⊎_elim (λ w. absurd (none-some w.0 (sym h ∙ ap (λ (y : Rule). slice_get y.right d) same ∙ w.2))) (λ w. w.0) (slice_get_cases r.right d).1

  -- the dot of a complete item stands at the end
  pub at_end : (path : List SymbolNumber) (p d : ℕ) → IsCore rules start path p d → next_symbol rules p d ≡ None → (r : Rule) × (slice_get rules p ≡ Some r) × (d ≡ length r.right)
  at_end path p d c none =
      let w = core_in_range path p d c in
      let past : length w.0.right ≤ d = past_from (slice_get rules p) w.0 d none w.1 in
      (w.0, w.1, omega (arith, w.2))

-- ---- symbols
-- the number of a symbol is below the count of its kind
abbrev pub IsSymbolInRange : ℕ → ℕ → SymbolNumber → Type 0
IsSymbolInRange terminals nonterminals (symbol.Terminal k) = k < terminals
IsSymbolInRange terminals nonterminals (symbol.Nonterminal k) = k < nonterminals

abbrev pub IsWordInRange : ℕ → ℕ → List SymbolNumber → Type 0
IsWordInRange terminals nonterminals word = (i : ℕ) (x : SymbolNumber) → slice_get word i ≡ Some x → IsSymbolInRange terminals nonterminals x

-- each symbol of the productions is
abbrev pub AreInRange : ℕ → ℕ → List Rule → Type 0
AreInRange terminals nonterminals rules = (p : ℕ) (r : Rule) → slice_get rules p ≡ Some r → IsWordInRange terminals nonterminals r.right

word_from : (o : Option Rule) (d i : ℕ) (x : SymbolNumber) → slice_get (unwrap_or (option_map (λ (r : Rule). drop (d + 1) r.right) o) []) i ≡ Some x → (r : Rule) × (o ≡ Some r) × (k : ℕ) × (slice_get r.right k ≡ Some x)
word_from None d i x e = cc
word_from (Some r) d i x e = let w = dropped_at (d + 1) r.right i x e in (r, refl, w.0, w.1)

symbol_from : (o : Option Rule) (d : ℕ) (x : SymbolNumber) → option_and_then (λ (r : Rule). slice_get r.right d) o ≡ Some x → (r : Rule) × (o ≡ Some r) × (slice_get r.right d ≡ Some x)
symbol_from None d x e = cc
symbol_from (Some r) d x e = (r, refl, e)

module _ (rules : List Rule) (terminals nonterminals : ℕ) (are : AreInRange terminals nonterminals rules) where
  pub next_in_range : (p d : ℕ) (x : SymbolNumber) → next_symbol rules p d ≡ Some x → IsSymbolInRange terminals nonterminals x
  next_in_range p d x e = let w = symbol_from (slice_get rules p) d x e in are p w.0 w.1 d x w.2

  -- ---- lookaheads
  after_in_range : (p d : ℕ) → IsWordInRange terminals nonterminals (word_after rules p d)
  after_in_range p d i x e = let w = word_from (slice_get rules p) d i x e in are p w.0 w.1 w.2 x w.3

  begins_in_range : (word : List SymbolNumber) (k : ℕ) → BeginsWith rules word k → IsWordInRange terminals nonterminals word → k < terminals
  begins_in_range word k (here k' rest) h = h 0 (symbol.Terminal k') refl
  begins_in_range word k (inside n p k' r rest at left b) h = begins_in_range r.right k' b (are p r at)
  begins_in_range word k (behind n k' rest d b) h = begins_in_range rest k' b (λ i x e. h (suc i) x e)

  closure_tokens : (G : ℕ → ℕ → Type 0) (On : ℕ → ℕ → Token → Type 0) → ((p d : ℕ) (t : Token) → On p d t → IsTokenInRange terminals t) → (p d : ℕ) (t : Token) → InLookaheads rules G On p d t → IsTokenInRange terminals t
  closure_tokens G On f p d t (given p' d' t' o) = f p' d' t' o
  closure_tokens G On f q z t (begun p d n q' k c e l b) =
      begins_in_range (word_after rules p d) k b (after_in_range p d)
  closure_tokens G On f q z t (passed p d n q' t' i e l w) = closure_tokens G On f p d t' i

  pub lookahead_in_range : (start : ℕ) (path : List SymbolNumber) (p d : ℕ) (t : Token) → IsLookahead rules start path p d t → IsTokenInRange terminals t
  lookahead_in_range start [] p d t h =
      closure_tokens (IsBegun rules start) _ (λ q e s b. subst (IsTokenInRange terminals) (sym b.1) tt) p d t h
  lookahead_in_range start (x ∷ u) p d t h =
      closure_tokens (Moved rules x (IsCore rules start u)) (MovedOn rules x (IsLookahead rules start u)) (λ q e s m. lookahead_in_range start u q m.0 s m.2) p d t h
