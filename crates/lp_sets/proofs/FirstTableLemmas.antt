-- Tables that are sound and closed know all.
use Rattle.std.proofs.Common.{◌≡◌, ◌≢◌, ℕ, zero, suc, ◌+◌, ◌<◌, ◌≤◌, ◌⊎◌, ◌^◌, Bool, true, false, ◌&&◌, ◌||◌, cond, eqb, List, [], ◌∷◌, ◌++◌, Some, slice_get, get_or, refl, sym, ap, ◌∙◌, ⊎_elim, inl, inr, subst, arith, bit_or}
use Rattle.std.proofs.lemmas.Bool.{cases_eq, cases_lt}
use Rattle.std.proofs.lemmas.Option.{same_Some}
use Rattle.std.proofs.lemmas.Bool.Decides.{nat_tests}
use borrow.Author.Tests.{eqb-true, eq-eqb}
use Rattle.std.proofs.lemmas.Nat.Bits.{bit_at-pow_same, bit_at-pow_other, bit_at-zero}
use Rattle.lp_repr.specs.declared.numbering.SymbolNumber.{SymbolNumber}
use Rattle.lp_repr.specs.declared.numbering.SymbolNumber.TheVariants.{Terminal, Nonterminal}
use Rattle.lp_repr.specs.declared.numbering.Rule.{Rule}
use Rattle.lp_sets.specs.Members.{Has, has}
use Rattle.lp_sets.specs.FirstSets.{DerivesEmpty, nothing, vanishing, BeginsWith, here, inside, behind}
use Rattle.lp_sets.specs.FirstTables.{vanishes, first_terminals, IsSoundEmpty, IsClosedEmpty, AreSoundFirsts, AreClosedFirsts, AreFirsts}
use Rattle.lp_sets.proofs.TokenLists.{Has-or}

-- ---- members
pub Has-pow : (k n : ℕ) → Has (2 ^ k) n → n ≡ k
Has-pow k n h = ⊎_elim (λ (e : n ≡ k). e) (λ (ne : n ≢ k). absurd (omega (arith, h, bit_at-pow_other k n ne))) (cases_eq n k)

pub no_member : (n : ℕ) → Has 0 n → ⊥
no_member n h = omega (arith, h, bit_at-zero n)

pub Has-from_test : (s n : ℕ) → has s n ≡ true → Has s n
Has-from_test s n h = grind (arith, nat_tests)

pub test_from_Has : (s n : ℕ) → Has s n → has s n ≡ true
test_from_Has s n h = grind (arith, nat_tests)

both_true : (a b : Bool) → (a && b) ≡ true → (a ≡ true) × (b ≡ true)
both_true true b h = (refl, h)
both_true false b h = cc

true_both : (a b : Bool) → a ≡ true → b ≡ true → (a && b) ≡ true
true_both true b h g = g
true_both false b h g = cc

-- ---- words
derives_cons : {rules : List Rule} {n : ℕ} {rest : List SymbolNumber} → DerivesEmpty rules (Nonterminal n ∷ []) → DerivesEmpty rules rest → DerivesEmpty rules (Nonterminal n ∷ rest)
derives_cons {rest = rest} (vanishing n p r _ get left d none) e = vanishing n p r rest get left d e

begins_more : {rules : List Rule} {n t : ℕ} {rest : List SymbolNumber} → BeginsWith rules (Nonterminal n ∷ []) t → BeginsWith rules (Nonterminal n ∷ rest) t
begins_more {rest = rest} (inside n p t r _ get left b) = inside n p t r rest get left b
begins_more {rest = rest} (behind n t _ d b) = elim b [ ]

module _ (rules : List Rule) (empty : ℕ) where
  -- ---- the empty word
  pub derives_from_vanishes : IsSoundEmpty rules empty → (xs : List SymbolNumber) → vanishes empty xs ≡ true → DerivesEmpty rules xs
  derives_from_vanishes sound [] h = nothing
  derives_from_vanishes sound (Terminal t ∷ xs) h = cc
  derives_from_vanishes sound (Nonterminal n ∷ xs) h =
      let p = both_true (has empty n) (vanishes empty xs) h in
      derives_cons (sound n (Has-from_test empty n p.0)) (derives_from_vanishes sound xs p.1)

  pub vanishes_from_derives : IsClosedEmpty rules empty → (xs : List SymbolNumber) → DerivesEmpty rules xs → vanishes empty xs ≡ true
  vanishes_from_derives closed xs nothing = refl
  vanishes_from_derives closed xs (vanishing n p r rest get left d e) =
      let here_too : Has empty n = subst (λ k. Has empty k) left (closed p r get (vanishes_from_derives closed r.right d)) in
      true_both (has empty n) (vanishes empty rest) (test_from_Has empty n here_too) (vanishes_from_derives closed rest e)

  pub IsSoundEmpty-more : (p : ℕ) (r : Rule) → slice_get rules p ≡ Some r → IsSoundEmpty rules empty → vanishes empty r.right ≡ true → IsSoundEmpty rules (bit_or empty (2 ^ r.left))
  IsSoundEmpty-more p r get sound v n h =
      ⊎_elim (sound n) (λ (m : Has (2 ^ r.left) n). vanishing n p r [] get (sym (Has-pow r.left n m)) (derives_from_vanishes sound r.right v) nothing) ((Has-or empty (2 ^ r.left) n).0 h)

  -- ---- first terminals
  module _ (sets : List ℕ) where
    begins_behind : IsSoundEmpty rules empty → (n : ℕ) (xs : List SymbolNumber) (t : ℕ) (b : Bool) → has empty n ≡ b → (Has (first_terminals empty sets xs) t → BeginsWith rules xs t) → Has (cond b (first_terminals empty sets xs) 0) t → BeginsWith rules (Nonterminal n ∷ xs) t
    begins_behind sound n xs t true e rest h = behind n t xs (sound n (Has-from_test empty n e)) (rest h)
    begins_behind sound n xs t false e rest h = absurd (no_member t h)

    pub begins_from_firsts : IsSoundEmpty rules empty → AreSoundFirsts rules sets → (xs : List SymbolNumber) (t : ℕ) → Has (first_terminals empty sets xs) t → BeginsWith rules xs t
    begins_from_firsts sound firsts [] t h = absurd (no_member t h)
    begins_from_firsts sound firsts (Terminal u ∷ xs) t h = subst (λ k. BeginsWith rules (Terminal k ∷ xs) t) (Has-pow u t h) (here t xs)
    begins_from_firsts sound firsts (Nonterminal n ∷ xs) t h =
        ⊎_elim (λ (m : Has (get_or sets n 0) t). begins_more (firsts n t m)) (λ m. begins_behind sound n xs t (has empty n) refl (begins_from_firsts sound firsts xs t) m) ((Has-or (get_or sets n 0) (cond (has empty n) (first_terminals empty sets xs) 0) t).0 h)

    pub firsts_from_begins : IsClosedEmpty rules empty → AreClosedFirsts rules empty sets → (xs : List SymbolNumber) (t : ℕ) → BeginsWith rules xs t → Has (first_terminals empty sets xs) t
    firsts_from_begins closed firsts xs u (here t rest) = bit_at-pow_same t
    firsts_from_begins closed firsts xs u (inside n p t r rest get left b) =
        (Has-or (get_or sets n 0) (cond (has empty n) (first_terminals empty sets rest) 0) t).1 (inl (subst (λ k. Has (get_or sets k 0) t) left (firsts p t r get (firsts_from_begins closed firsts r.right t b))))
    firsts_from_begins closed firsts xs u (behind n t rest d b) =
        let v = both_true (has empty n) true (vanishes_from_derives closed (Nonterminal n ∷ []) d) in
        (Has-or (get_or sets n 0) (cond (has empty n) (first_terminals empty sets rest) 0) t).1 (inr (subst (λ (c : Bool). Has (cond c (first_terminals empty sets rest) 0) t) (sym v.0) (firsts_from_begins closed firsts rest t b)))

    pub AreFirsts-from_closed : IsSoundEmpty rules empty → IsClosedEmpty rules empty → AreSoundFirsts rules sets → AreClosedFirsts rules empty sets → AreFirsts rules empty sets
    AreFirsts-from_closed sound closed firsts all = record {
      derives = λ xs. (derives_from_vanishes sound xs, vanishes_from_derives closed xs);
      begins = λ xs t. (begins_from_firsts sound firsts xs t, firsts_from_begins closed all xs t);
    }

    first_more : (p : ℕ) (r : Rule) → slice_get rules p ≡ Some r → IsSoundEmpty rules empty → AreSoundFirsts rules sets → (n t : ℕ) (b : Bool) → eqb n r.left ≡ b → Has (cond b (bit_or (get_or sets n 0) (first_terminals empty sets r.right)) (get_or sets n 0)) t → BeginsWith rules (Nonterminal n ∷ []) t
    first_more p r get sound firsts n t true e h =
        ⊎_elim (firsts n t) (λ m. inside n p t r [] get (sym (eqb-true n r.left e)) (begins_from_firsts sound firsts r.right t m)) ((Has-or (get_or sets n 0) (first_terminals empty sets r.right) t).0 h)
    first_more p r get sound firsts n t false e h = firsts n t h

    -- one production more
    pub AreSoundFirsts-more : (p : ℕ) (r : Rule) (new : List ℕ) → slice_get rules p ≡ Some r → IsSoundEmpty rules empty → AreSoundFirsts rules sets → ((n : ℕ) → get_or new n 0 ≡ cond (eqb n r.left) (bit_or (get_or sets n 0) (first_terminals empty sets r.right)) (get_or sets n 0)) → AreSoundFirsts rules new
    AreSoundFirsts-more p r new get sound firsts is n t h =
        first_more p r get sound firsts n t (eqb n r.left) refl (subst (λ s. Has s t) (is n) h)

-- tables with the same sets say the same
pub first_terminals-same : (empty : ℕ) (old new : List ℕ) → ((n : ℕ) → get_or new n 0 ≡ get_or old n 0) → (xs : List SymbolNumber) → first_terminals empty new xs ≡ first_terminals empty old xs
first_terminals-same empty old new same [] = refl
first_terminals-same empty old new same (Terminal t ∷ xs) = refl
first_terminals-same empty old new same (Nonterminal n ∷ xs) =
    ap (λ (s : ℕ). bit_or s (cond (has empty n) (first_terminals empty new xs) 0)) (same n) ∙ ap (λ (s : ℕ). bit_or (get_or old n 0) (cond (has empty n) s 0)) (first_terminals-same empty old new same xs)

-- ---- one production of a round
neither : (a b : Bool) → (a || b) ≡ false → (a ≡ false) × (b ≡ false)
neither true b h = cc
neither false b h = (refl, h)

module _ (rules : List Rule) (k : ℕ) (r : Rule) (at : slice_get rules k ≡ Some r) where
  sound_by : (old : ℕ) (b : Bool) → vanishes old r.right ≡ b → IsSoundEmpty rules old → IsSoundEmpty rules (cond b (bit_or old (2 ^ r.left)) old)
  sound_by old true e sound = IsSoundEmpty-more rules old k r at sound e
  sound_by old false e sound = sound

  -- the production at this place, or one before
  placed : (p : ℕ) (q : Rule) → p < k + 1 → slice_get rules p ≡ Some q → (p < k) ⊎ (r ≡ q)
  placed p q l get =
      ⊎_elim (λ (b : p < k). inl b) (λ (b : k ≤ p). let e : k ≡ p = omega arith in inr (same_Some r q (sym at ∙ ap (slice_get rules) e ∙ get))) (cases_lt p k)

  empty_at : (old new : ℕ) → new ≡ cond (vanishes old r.right) (bit_or old (2 ^ r.left)) old → new ≡ old → (p : ℕ) (q : Rule) → p < k + 1 → slice_get rules p ≡ Some q → vanishes new q.right ≡ true → (p < k → slice_get rules p ≡ Some q → vanishes old q.right ≡ true → Has old q.left) → Has new q.left
  empty_at old new is same p q l get v before =
      let u : vanishes old q.right ≡ true = ap (λ (s : ℕ). vanishes s q.right) (sym same) ∙ v in
      ⊎_elim (λ (b : p < k). subst (λ s. Has s q.left) (sym same) (before b get u)) (λ (e : r ≡ q). let t : vanishes old r.right ≡ true = ap (λ (x : Rule). vanishes old x.right) e ∙ u in let n : new ≡ bit_or old (2 ^ r.left) = is ∙ ap (λ (b : Bool). cond b (bit_or old (2 ^ r.left)) old) t in subst (λ (x : Rule). Has new x.left) e (subst (λ s. Has s r.left) (sym n) ((Has-or old (2 ^ r.left) r.left).1 (inr (bit_at-pow_same r.left))))) (placed p q l get)

  pub empty_more : (old new : ℕ) (grew more : Bool) → IsSoundEmpty rules old → (grew ≡ false → (p : ℕ) (q : Rule) → p < k → slice_get rules p ≡ Some q → vanishes old q.right ≡ true → Has old q.left) → new ≡ cond (vanishes old r.right) (bit_or old (2 ^ r.left)) old → (more ≡ false → new ≡ old) → IsSoundEmpty rules new × ((grew || more) ≡ false → (p : ℕ) (q : Rule) → p < k + 1 → slice_get rules p ≡ Some q → vanishes new q.right ≡ true → Has new q.left)
  empty_more old new grew more sound closed is same = (
    subst (λ s. IsSoundEmpty rules s) (sym is) (sound_by old (vanishes old r.right) refl sound),
    λ g p q l get v. let w = neither grew more g in empty_at old new is (same w.1) p q l get v (closed w.0 p q),
  )

  firsts_at : (empty : ℕ) (old new : List ℕ) → ((n : ℕ) → get_or new n 0 ≡ cond (eqb n r.left) (bit_or (get_or old n 0) (first_terminals empty old r.right)) (get_or old n 0)) → ((n : ℕ) → get_or new n 0 ≡ get_or old n 0) → (p t : ℕ) (q : Rule) → p < k + 1 → slice_get rules p ≡ Some q → Has (first_terminals empty new q.right) t → (p < k → slice_get rules p ≡ Some q → Has (first_terminals empty old q.right) t → Has (get_or old q.left 0) t) → Has (get_or new q.left 0) t
  firsts_at empty old new is same p t q l get v before =
      let u : Has (first_terminals empty old q.right) t = subst (λ s. Has s t) (first_terminals-same empty old new same q.right) v in
      ⊎_elim (λ (b : p < k). subst (λ s. Has s t) (sym (same q.left)) (before b get u)) (λ (e : r ≡ q). let w : Has (first_terminals empty old r.right) t = subst (λ (x : Rule). Has (first_terminals empty old x.right) t) (sym e) u in let n : get_or new r.left 0 ≡ bit_or (get_or old r.left 0) (first_terminals empty old r.right) = is r.left ∙ ap (λ (b : Bool). cond b (bit_or (get_or old r.left 0) (first_terminals empty old r.right)) (get_or old r.left 0)) (eq-eqb r.left r.left refl) in subst (λ (x : Rule). Has (get_or new x.left 0) t) e (subst (λ s. Has s t) (sym n) ((Has-or (get_or old r.left 0) (first_terminals empty old r.right) t).1 (inr w)))) (placed p q l get)

  pub firsts_more : (empty : ℕ) (old new : List ℕ) (grew more : Bool) → IsSoundEmpty rules empty → AreSoundFirsts rules old → (grew ≡ false → (p t : ℕ) (q : Rule) → p < k → slice_get rules p ≡ Some q → Has (first_terminals empty old q.right) t → Has (get_or old q.left 0) t) → ((n : ℕ) → get_or new n 0 ≡ cond (eqb n r.left) (bit_or (get_or old n 0) (first_terminals empty old r.right)) (get_or old n 0)) → (more ≡ false → (n : ℕ) → get_or new n 0 ≡ get_or old n 0) → AreSoundFirsts rules new × ((grew || more) ≡ false → (p t : ℕ) (q : Rule) → p < k + 1 → slice_get rules p ≡ Some q → Has (first_terminals empty new q.right) t → Has (get_or new q.left 0) t)
  firsts_more empty old new grew more sound firsts closed is same = (
    AreSoundFirsts-more rules empty old k r new at sound firsts is,
    λ g p t q l get v. let w = neither grew more g in firsts_at empty old new is (same w.1) p t q l get v (closed w.0 p t q),
  )

-- an empty set more
pub get_or-push_zero : (xs : List ℕ) (n : ℕ) → get_or (xs ++ 0 ∷ []) n 0 ≡ get_or xs n 0
get_or-push_zero [] zero = refl
get_or-push_zero [] (suc n) = refl
get_or-push_zero (x ∷ xs) zero = refl
get_or-push_zero (x ∷ xs) (suc n) = get_or-push_zero xs n
