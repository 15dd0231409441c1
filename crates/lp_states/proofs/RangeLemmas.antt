-- The productions of a nonterminal are a range.
use Rattle.std.proofs.Common.{◌≡◌, ℕ, zero, suc, ◌+◌, ◌-◌, ◌<◌, ◌≤◌, ◌↔◌, List, [], ◌∷◌, ◌++◌, map, length, get_or, Option, Some, None, slice_get, slice_index, refl, sym, ap, ◌∙◌, ⊎_elim, add-one, arith}
use Rattle.std.specs.Option.{option_map}
use Rattle.std.specs.BTreeMap.{values}
use Rattle.std.proofs.lemmas.Bool.{cases_lt}
use Rattle.std.proofs.lemmas.List.{get_or_past}
use Rattle.std.proofs.lemmas.Option.{same_Some}
use Rattle.lp_repr.specs.Closure.{HasLeft}
use Rattle.lp_repr.specs.Numbering.{rules_from, rules_of, rule_of, firsts_from}
use Rattle.lp_repr.specs.declared.repr.Grammar.{Grammar}
use Rattle.lp_repr.specs.declared.repr.Production.{Production}
use Rattle.lp_repr.specs.declared.repr.NonterminalData.{NonterminalData}
use Rattle.lp_repr.specs.declared.numbering.Rule.{Rule}
use Rattle.lp_states.specs.Ranges.{left_of, AreRanges}

-- ---- the nonterminal of a production
left_from : (o : Option Rule) (n : ℕ) → option_map (λ (r : Rule). r.left) o ≡ Some n → (r : Rule) × (o ≡ Some r) × (r.left ≡ n)
left_from None n h = cc
left_from (Some r) n h = (r, refl, same_Some r.left n h)

pub HasLeft-from_left_of : (rules : List Rule) (p n : ℕ) → left_of rules p ≡ Some n → HasLeft rules p n
HasLeft-from_left_of rules p n h = left_from (slice_get rules p) n h

pub left_of_from_HasLeft : (rules : List Rule) (p n : ℕ) → HasLeft rules p n → left_of rules p ≡ Some n
left_of_from_HasLeft rules p n h = ap (option_map (λ (r : Rule). r.left)) h.1 ∙ ap Some h.2

-- ---- productions of one nonterminal before those of the others
left_here : (g : Grammar) (k : ℕ) (ps : List Production) (rest : List Rule) (q : ℕ) → q < length ps → left_of (map (rule_of g k) ps ++ rest) q ≡ Some k
left_here g k [] rest q l = absurd (omega arith)
left_here g k (p ∷ ps) rest zero l = refl
left_here g k (p ∷ ps) rest (suc q) l = left_here g k ps rest q (omega arith)

left_later : (g : Grammar) (k : ℕ) (ps : List Production) (rest : List Rule) (q : ℕ) → length ps ≤ q → left_of (map (rule_of g k) ps ++ rest) q ≡ left_of rest (q - length ps)
left_later g k [] rest q l = ap (left_of rest) (omega arith)
left_later g k (p ∷ ps) rest zero l = absurd (omega arith)
left_later g k (p ∷ ps) rest (suc q) l =
    let e : q - length ps ≡ suc q - length (p ∷ ps) = omega arith in
    left_later g k ps rest q (omega arith) ∙ ap (left_of rest) e

left_at_least : (g : Grammar) (k : ℕ) (ds : List NonterminalData) (q l : ℕ) → left_of (rules_from g k ds) q ≡ Some l → k ≤ l
left_at_least g k [] q l h = cc
left_at_least g k (d ∷ ds) q l h =
    ⊎_elim (λ (b : q < length d.productions). let e : k ≡ l = same_Some k l (sym (left_here g k d.productions (rules_from g (k + 1) ds) q b) ∙ h) in omega arith) (λ (b : length d.productions ≤ q). let e : k + 1 ≤ l = left_at_least g (k + 1) ds (q - length d.productions) l (sym (left_later g k d.productions (rules_from g (k + 1) ds) q b) ∙ h) in omega arith) (cases_lt q (length d.productions))

-- ---- first numbers
first_is : (b : ℕ) (ds : List NonterminalData) → get_or (firsts_from b ds) 0 0 ≡ b
first_is b [] = refl
first_is b (d ∷ ds) = refl

first_at_least : (b : ℕ) (ds : List NonterminalData) (n p : ℕ) → get_or (firsts_from b ds) n 0 ≤ p → p < get_or (firsts_from b ds) (suc n) 0 → b ≤ p
first_at_least b [] zero p l h = l
first_at_least b [] (suc n) p l h = absurd (omega arith)
first_at_least b (d ∷ ds) zero p l h = l
first_at_least b (d ∷ ds) (suc n) p l h =
    let e : b + length d.productions ≤ p = first_at_least (b + length d.productions) ds n p l h in
    omega arith

-- ---- ranges
in_range_left : (g : Grammar) (k b : ℕ) (ds : List NonterminalData) (n q : ℕ) → get_or (firsts_from b ds) n 0 ≤ b + q → b + q < get_or (firsts_from b ds) (suc n) 0 → left_of (rules_from g k ds) q ≡ Some (k + n)
in_range_left g k b [] n q l h = absurd (omega arith)
in_range_left g k b (d ∷ ds) zero q l h =
    let f = first_is (b + length d.productions) ds in
    let e : k ≡ k + 0 = omega arith in
    left_here g k d.productions (rules_from g (k + 1) ds) q (omega arith) ∙ ap Some e
in_range_left g k b (d ∷ ds) (suc n) q l h =
    let m = length d.productions in
    let past : b + m ≤ b + q = first_at_least (b + m) ds n (b + q) l h in
    let e : b + q ≡ (b + m) + (q - m) = omega arith in
    let f : (k + 1) + n ≡ k + suc n = omega arith in
    left_later g k d.productions (rules_from g (k + 1) ds) q (omega arith)
    ∙ in_range_left g (k + 1) (b + m) ds n (q - m) (rw e at l) (rw e at h)
    ∙ ap Some f

left_in_range : (g : Grammar) (k b : ℕ) (ds : List NonterminalData) (n q : ℕ) → left_of (rules_from g k ds) q ≡ Some (k + n) → (get_or (firsts_from b ds) n 0 ≤ b + q) × (b + q < get_or (firsts_from b ds) (suc n) 0)
left_in_range g k b [] n q h = cc
left_in_range g k b (d ∷ ds) zero q h =
    let f = first_is (b + length d.productions) ds in
    ⊎_elim (λ (l : q < length d.productions). (omega arith, omega arith)) (λ (l : length d.productions ≤ q). let e : k + 1 ≤ k + 0 = left_at_least g (k + 1) ds (q - length d.productions) (k + 0) (sym (left_later g k d.productions (rules_from g (k + 1) ds) q l) ∙ h) in absurd (omega arith)) (cases_lt q (length d.productions))
left_in_range g k b (d ∷ ds) (suc n) q h =
    ⊎_elim (λ (l : q < length d.productions). let e : k ≡ k + suc n = same_Some k (k + suc n) (sym (left_here g k d.productions (rules_from g (k + 1) ds) q l) ∙ h) in absurd (omega arith)) (λ (l : length d.productions ≤ q). let e : (b + length d.productions) + (q - length d.productions) ≡ b + q = omega arith in let f : k + suc n ≡ (k + 1) + n = omega arith in let r = left_in_range g (k + 1) (b + length d.productions) ds n (q - length d.productions) (sym (left_later g k d.productions (rules_from g (k + 1) ds) q l) ∙ h ∙ ap Some f) in (rw e at r.0, rw e at r.1)) (cases_lt q (length d.productions))

-- the productions of a grammar by number
pub rules_ranges : (g : Grammar) → AreRanges (rules_of g) (firsts_from 0 (values g.nonterminals))
rules_ranges g n p =
    let e : 0 + p ≡ p = omega arith in
    let f : 0 + n ≡ n = omega arith in
    (λ h. rw f at (in_range_left g 0 0 (values g.nonterminals) n p (rw e h.0) (rw (e, ← add-one n) h.1)), λ h. let r = left_in_range g 0 0 (values g.nonterminals) n p (rw f h) in (rw e at r.0, rw (add-one n) (rw e at r.1)))

pub past_range : (xs : List ℕ) (rules : List Rule) (n p : ℕ) → AreRanges rules xs → length xs ≤ n + 1 → HasLeft rules p n → ⊥
past_range xs rules n p h l has =
    let r = (h n p).1 (left_of_from_HasLeft rules p n has) in
    omega (arith, r.1, get_or_past xs (n + 1) 0 l)

pub range_of : (rules : List Rule) (xs : List ℕ) (n a b : ℕ) → AreRanges rules xs → a ≡ slice_index xs n → b ≡ slice_index xs (n + 1) → (p : ℕ) → ((a ≤ p) × (p < b)) ↔ HasLeft rules p n
range_of rules xs n a b h e f p =
    rw (e, f) (λ r. HasLeft-from_left_of rules p n ((h n p).0 r), λ l. (h n p).1 (left_of_from_HasLeft rules p n l))
