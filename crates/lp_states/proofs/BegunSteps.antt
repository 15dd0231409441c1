-- The beginning, production by production.
use Rattle.std.proofs.Common.{◌≡◌, ◌≢◌, ℕ, ◌+◌, ◌<◌, ◌≤◌, ◌↔◌, ◌⊎◌, true, List, Option, Some, None, IsSome, refl, sym, ap, ◌∙◌, ⊎_elim, inl, inr, subst, arith}
use Rattle.std.proofs.lemmas.Bool.{cases_lt, cases_eq}
use Rattle.std.proofs.lemmas.Option.{same_Some, none-some}
use Rattle.lp_repr.specs.Closure.{HasLeft}
use Rattle.lp_repr.specs.declared.numbering.Rule.{Rule}
use Rattle.lp_repr.specs.declared.lr1.Token.{Token}
use Rattle.lp_repr.specs.declared.lr1.Token.TheVariants.{Terminal, Eof}
use Rattle.lp_sets.specs.declared.tokens.TokenSet.{TokenSet}
use Rattle.lp_sets.specs.TokenSets.{HasToken}
use Rattle.lp_sets.specs.Members.{Has}
use Rattle.lp_states.specs.ItemSets.{IsBegun}
use Rattle.lp_states.specs.ItemMaps.{ItemMap, item_cmp, lookaheads_at, Stands, StandsOn, IsPut, IsStartKernel}
use Rattle.lp_states.proofs.Closures.{is_some_from}
use Rattle.lp_states.proofs.ClosureSteps.{put_elsewhere, put_there}

-- the start's productions below a number
pub record BegunBelow (rules : List Rule) (start k : ℕ) (kernel : ItemMap) : Type 0 where
  pub cores : (p d : ℕ) → Stands kernel p d ↔ ((p < k) × IsBegun rules start p d)
  pub lookaheads : (p d : ℕ) (t : Token) → StandsOn kernel p d t ↔ ((p < k) × IsBegun rules start p d × (t ≡ Eof))

module _ (rules : List Rule) (start : ℕ) where
  pub begun_none : (k : ℕ) (kernel : ItemMap) → ((p d : ℕ) → lookaheads_at kernel p d ≡ None) → ((p : ℕ) → HasLeft rules p start → k ≤ p) → BegunBelow rules start k kernel
  begun_none k kernel none from = record {
    cores = λ p d. (λ h. let e : IsSome {T = TokenSet} None = subst (λ (o : Option TokenSet). IsSome o) (none p d) h in cc, λ h. absurd (omega (arith, h.0, from p h.1.0)));
    lookaheads = λ p d t. (λ h. absurd (none-some h.0 (sym (none p d) ∙ h.1)), λ h. absurd (omega (arith, h.0, from p h.1.0)));
  }

  pub begun_all : (k : ℕ) (kernel : ItemMap) → ((p : ℕ) → HasLeft rules p start → p < k) → BegunBelow rules start k kernel → IsStartKernel rules start kernel
  begun_all k kernel below h = record {
    cores = λ p d. (λ s. ((h.cores p d).0 s).1, λ b. (h.cores p d).1 (below p b.0, b));
    lookaheads = λ p d t. (λ s. let w = (h.lookaheads p d t).0 s in (w.1, w.2), λ b. (h.lookaheads p d t).1 (below p b.0.0, b.0, b.1));
  }

  module _ (k : ℕ) (old new : ItemMap) (v : TokenSet) (ends : (t : Token) → HasToken v t ↔ (t ≡ Eof)) (put : IsPut item_cmp old new (k, 0) v) (left : HasLeft rules k start) (so_far : BegunBelow rules start k old) where
    place_cases : (p d : ℕ) → ((p ≡ k) × (d ≡ 0)) ⊎ ((k ≡ p) → (d ≡ 0) → ⊥)
    place_cases p d =
        ⊎_elim (λ (e : p ≡ k). ⊎_elim (λ (f : d ≡ 0). inl (e, f)) (λ (f : d ≢ 0). inr (λ a b. f b)) (cases_eq d 0)) (λ (e : p ≢ k). inr (λ a b. e (sym a))) (cases_eq p k)

    there : (p d : ℕ) → p ≡ k → d ≡ 0 → lookaheads_at new p d ≡ Some v
    there p d e f = ap (λ (m : ℕ). lookaheads_at new m d) e ∙ ap (λ (m : ℕ). lookaheads_at new k m) f ∙ put_there old new k v put

    begun_there : (p d : ℕ) → p ≡ k → d ≡ 0 → (p < k + 1) × IsBegun rules start p d
    begun_there p d e f = (omega arith, (subst (λ m. HasLeft rules m start) (sym e) left, f))

    below_from : (p d : ℕ) → ((k ≡ p) → (d ≡ 0) → ⊥) → p < k + 1 → d ≡ 0 → p < k
    below_from p d other l f =
        ⊎_elim (λ (b : p < k). b) (λ (b : k ≤ p). let e : k ≡ p = omega arith in absurd (other e f)) (cases_lt p k)

    cores_more : (p d : ℕ) → Stands new p d ↔ ((p < k + 1) × IsBegun rules start p d)
    cores_more p d =
        ⊎_elim (λ w. (λ h. begun_there p d w.0 w.1, λ h. is_some_from (lookaheads_at new p d) v (there p d w.0 w.1))) (λ (other : (k ≡ p) → (d ≡ 0) → ⊥). let same = put_elsewhere old new k v put p d other in (λ h. let w = (so_far.cores p d).0 (subst (λ (o : Option TokenSet). IsSome o) same h) in let l : p < k = w.0 in (omega arith, w.1), λ h. subst (λ (o : Option TokenSet). IsSome o) (sym same) ((so_far.cores p d).1 (below_from p d other h.0 h.1.1, h.1)))) (place_cases p d)

    lookaheads_more : (p d : ℕ) (t : Token) → StandsOn new p d t ↔ ((p < k + 1) × IsBegun rules start p d × (t ≡ Eof))
    lookaheads_more p d t =
        ⊎_elim (λ w. let b = begun_there p d w.0 w.1 in (λ h. (b.0, b.1, (ends t).0 (subst (λ s. HasToken s t) (same_Some h.0 v (sym h.1 ∙ there p d w.0 w.1)) h.2)), λ h. (v, there p d w.0 w.1, (ends t).1 h.2))) (λ (other : (k ≡ p) → (d ≡ 0) → ⊥). let same = put_elsewhere old new k v put p d other in (λ h. let w = (so_far.lookaheads p d t).0 (h.0, sym same ∙ h.1, h.2) in let l : p < k = w.0 in (omega arith, w.1, w.2), λ h. let w = (so_far.lookaheads p d t).1 (below_from p d other h.0 h.1.1, h.1, h.2) in (w.0, same ∙ w.1, w.2))) (place_cases p d)

    pub begun_more : BegunBelow rules start (k + 1) new
    begun_more = record { cores = cores_more; lookaheads = lookaheads_more }

-- the end of input alone
pub ends_only : (s : TokenSet) → ((t : Token) → HasToken s t → ⊥) → (v : TokenSet) → v.terminals ≡ s.terminals → v.end ≡ true → (t : Token) → HasToken v t ↔ (t ≡ Eof)
ends_only s none v e f (Terminal n) = (λ h. absurd (none (Terminal n) (subst (λ m. Has m n) e h)), λ h. cc)
ends_only s none v e f Eof = (λ h. refl, λ h. f)
