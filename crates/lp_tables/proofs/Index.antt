-- The productions of a nonterminal have the numbers from its own entry of the index up to the next one.
use Rattle.std.proofs.Common.{◌≡◌, ◌↔◌, ◌⊎◌, ℕ, ◌+◌, ◌-◌, ◌<◌, ◌≤◌, zero, suc, List, [], ◌∷◌, ◌++◌, length, map, refl, arith, add-one, sym, ap, ◌∙◌, subst, Some, None, slice_get, ⊎_elim}
use Rattle.std.specs.BTreeMap.{values}
use Rattle.std.proofs.lemmas.Bool.{cases_lt}
use Rattle.std.proofs.lemmas.List.{length-map}
use Rattle.std.proofs.lemmas.Option.{same_Some}
use Rattle.lp_repr.specs.Closure.{HasLeft}
use Rattle.lp_repr.specs.Numbering.{rule_of, rules_from, rules_of, firsts_from}
use Rattle.lp_repr.specs.declared.numbering.Rule.{Rule}
use Rattle.lp_repr.specs.declared.repr.Grammar.{Grammar}
use Rattle.lp_repr.specs.declared.repr.NonterminalData.{NonterminalData}
use Rattle.lp_repr.specs.declared.repr.Production.{Production}
use Rattle.lp_tables.specs.Numbers.{IsIndex}

-- elements of two lists, one after the other
get_left : {X : Type 0} (xs ys : List X) (i : ℕ) → i < length xs → slice_get (xs ++ ys) i ≡ slice_get xs i
get_left [] ys i less = absurd (omega arith)
get_left (x ∷ xs) ys zero less = refl
get_left (x ∷ xs) ys (suc i) less = get_left xs ys i (omega arith)

get_right : {X : Type 0} (xs ys : List X) (i : ℕ) → length xs ≤ i → slice_get (xs ++ ys) i ≡ slice_get ys (i - length xs)
get_right [] ys i past = ap (slice_get ys) (let e : i ≡ i - 0 = omega arith in e)
get_right (x ∷ xs) ys zero past = absurd (omega arith)
get_right (x ∷ xs) ys (suc i) past = get_right xs ys i (omega arith) ∙ ap (slice_get ys) (let e : i - length xs ≡ suc i - suc (length xs) = omega arith in e)

-- the productions of one nonterminal stand under it
all_under : (g : Grammar) (k : ℕ) (ps : List Production) (q : ℕ) (r : Rule) → slice_get (map (rule_of g k) ps) q ≡ Some r → r.left ≡ k
all_under g k [] q r e = let no : None ≡ Some r = e in cc
all_under g k (p ∷ ps) zero r e = let same : rule_of g k p ≡ r = same_Some (rule_of g k p) r e in sym (ap (λ (x : Rule). x.left) same)
all_under g k (p ∷ ps) (suc q) r e = all_under g k ps q r e

some_under : (g : Grammar) (k : ℕ) (ps : List Production) (q : ℕ) → q < length ps → (r : Rule) × (slice_get (map (rule_of g k) ps) q ≡ Some r)
some_under g k [] q less = absurd (omega arith)
some_under g k (p ∷ ps) zero less = (rule_of g k p, refl)
some_under g k (p ∷ ps) (suc q) less = some_under g k ps q (omega arith)

-- an index begins with the number from which it counts, and has none below
begins_at : (m : ℕ) (ds : List NonterminalData) → slice_get (firsts_from m ds) 0 ≡ Some m
begins_at m [] = refl
begins_at m (d ∷ ds) = refl

none_below : (m : ℕ) (ds : List NonterminalData) (j a : ℕ) → slice_get (firsts_from m ds) j ≡ Some a → m ≤ a
none_below m [] zero a e = let same : m ≡ a = cc in omega arith
none_below m [] (suc j) a e = let no : None ≡ Some a = e in cc
none_below m (d ∷ ds) zero a e = let same : m ≡ a = cc in omega arith
none_below m (d ∷ ds) (suc j) a e = let more = none_below (m + length d.productions) ds j a e in omega arith

-- the entries around a production, of nonterminals that are counted from k and productions from m
abbrev Between : List ℕ → ℕ → ℕ → Type 0
Between firsts j q = (a : ℕ) × (b : ℕ) × (slice_get firsts j ≡ Some a) × (slice_get firsts (suc j) ≡ Some b) × (a ≤ q) × (q < b)

to_entries : (g : Grammar) (k m : ℕ) (ds : List NonterminalData) (q n : ℕ) → HasLeft (rules_from g k ds) q n → (j : ℕ) × (n ≡ k + j) × Between (firsts_from m ds) j (m + q)
to_entries g k m [] q n h = let no : None ≡ Some h.0 = h.1 in cc
to_entries g k m (d ∷ ds) q n h =
    let ps = d.productions in
    let size : length (map (rule_of g k) ps) ≡ length ps = length-map ps (rule_of g k) in
    ⊎_elim
    (λ less.
    let at : slice_get (map (rule_of g k) ps) q ≡ Some h.0 = sym (get_left (map (rule_of g k) ps) (rules_from g (k + 1) ds) q (omega arith)) ∙ h.1 in
    let left : (h.0).left ≡ k = all_under g k ps q h.0 at in
    (0, omega (arith, left, h.2), (m, m + length ps, refl, begins_at (m + length ps) ds, omega arith, omega arith)))
    (λ past.
    let at : slice_get (rules_from g (k + 1) ds) (q - length (map (rule_of g k) ps)) ≡ Some h.0 = sym (get_right (map (rule_of g k) ps) (rules_from g (k + 1) ds) q (omega arith)) ∙ h.1 in
    let more = to_entries g (k + 1) (m + length ps) ds (q - length (map (rule_of g k) ps)) n (h.0, at, h.2) in
    let b = more.2 in
    let low : b.0 ≤ (m + length ps) + (q - length (map (rule_of g k) ps)) = b.4 in
    let high : (m + length ps) + (q - length (map (rule_of g k) ps)) < b.1 = b.5 in
    (suc more.0, let e : n ≡ (k + 1) + more.0 = more.1 in omega arith, (b.0, b.1, b.2, b.3, omega arith, omega arith))) (cases_lt q (length ps))

from_entries : (g : Grammar) (k m : ℕ) (ds : List NonterminalData) (q j : ℕ) → Between (firsts_from m ds) j (m + q) → HasLeft (rules_from g k ds) q (k + j)
from_entries g k m [] q j h = let no : None ≡ Some h.1 = h.3 in cc
from_entries g k m (d ∷ ds) q zero h =
    let ps = d.productions in
    let size : length (map (rule_of g k) ps) ≡ length ps = length-map ps (rule_of g k) in
    let end : m + length ps ≡ h.1 = same_Some (m + length ps) h.1 (sym (begins_at (m + length ps) ds) ∙ h.3) in
    let less : q < length ps = (let high : m + q < h.1 = h.5 in omega arith) in
    let here = some_under g k ps q less in
    (here.0, get_left (map (rule_of g k) ps) (rules_from g (k + 1) ds) q (omega arith) ∙ here.1, let left = all_under g k ps q here.0 here.1 in omega (arith, left))
from_entries g k m (d ∷ ds) q (suc j) h =
    let ps = d.productions in
    let size : length (map (rule_of g k) ps) ≡ length ps = length-map ps (rule_of g k) in
    let above : m + length ps ≤ h.0 = none_below (m + length ps) ds j h.0 h.2 in
    let low : h.0 ≤ m + q = h.4 in
    let high : m + q < h.1 = h.5 in
    let there = from_entries g (k + 1) (m + length ps) ds (q - length (map (rule_of g k) ps)) j (h.0, h.1, h.2, h.3, omega arith, omega arith) in
    (there.0, get_right (map (rule_of g k) ps) (rules_from g (k + 1) ds) q (omega arith) ∙ there.1, let left = there.2 in omega (arith, left))

pub is_index : (g : Grammar) → IsIndex (rules_of g) (firsts_from 0 (values g.nonterminals))
is_index g = λ q n. (
  λ h.
      let p = to_entries g 0 0 (values g.nonterminals) q n h in
      let same : p.0 ≡ n = (let e : n ≡ 0 + p.0 = p.1 in omega arith) in
      let b = p.2 in
      let low : b.0 ≤ 0 + q = b.4 in
      let high : 0 + q < b.1 = b.5 in
      (b.0, b.1, subst (λ i. slice_get (firsts_from 0 (values g.nonterminals)) i ≡ Some b.0) same b.2, rw add-one (subst (λ i. slice_get (firsts_from 0 (values g.nonterminals)) (suc i) ≡ Some b.1) same b.3), omega arith, omega arith),
  λ b.
      let low : b.0 ≤ q = b.4 in
      let high : q < b.1 = b.5 in
      let next : slice_get (firsts_from 0 (values g.nonterminals)) (suc n) ≡ Some b.1 = rw add-one at b.3 in
      let h = from_entries g 0 0 (values g.nonterminals) q n (b.0, b.1, b.2, next, omega arith, omega arith) in
      (h.0, h.1, let e : (h.0).left ≡ 0 + n = h.2 in omega arith),
)

-- what a look-up in the index tells
pub none_of : (rules : List Rule) (firsts : List ℕ) (n : ℕ) → IsIndex rules firsts → (slice_get firsts n ≡ None) ⊎ (slice_get firsts (n + 1) ≡ None) → (q : ℕ) → HasLeft rules q n ↔ ((0 ≤ q) × (q < 0))
none_of rules firsts n h none = λ q. (
  λ l.
      let b = (h q n).0 l in
      absurd (⊎_elim (λ e. let no : Some b.0 ≡ None = sym b.2 ∙ e in let never : ⊥ = cc in never) (λ e. let no : Some b.1 ≡ None = sym b.3 ∙ e in let never : ⊥ = cc in never) none),
  λ l. absurd (let high : q < 0 = l.1 in omega arith),
)

pub these_of : (rules : List Rule) (firsts : List ℕ) (n a b : ℕ) → IsIndex rules firsts → slice_get firsts n ≡ Some a → slice_get firsts (n + 1) ≡ Some b → (q : ℕ) → HasLeft rules q n ↔ ((a ≤ q) × (q < b))
these_of rules firsts n a b h e f = λ q. (
  λ l.
      let p = (h q n).0 l in
      let first : p.0 ≡ a = same_Some p.0 a (sym p.2 ∙ e) in
      let end : p.1 ≡ b = same_Some p.1 b (sym p.3 ∙ f) in
      let low : p.0 ≤ q = p.4 in
      let high : q < p.1 = p.5 in
      (omega arith, omega arith),
  λ l. (h q n).1 (a, b, e, f, l.0, l.1),
)
