-- Tests of numbers, and that they are in range.
use Rattle.std.proofs.Common.{◌≡◌, ◌↔◌, ℕ, ◌<◌, ◌≤◌, Bool, false, List, length, refl, sym, subst, Option, Some, None, IsTrue, nat_lt, nat_le, slice_get}
use Rattle.std.specs.List.{AllByRecursion, list_all}
use Rattle.std.specs.Option.{option_map_or}
use Rattle.std.proofs.lemmas.Bool.{false≢true, and_parts, and_from, ltb-true, lt-ltb, leb-true, le-leb}
use Rattle.std.proofs.lemmas.Option.{same_Some}
use Rattle.lp_repr.specs.ValidTables.{IsItemInRange, IsTokenInRange}
use Rattle.lp_repr.specs.declared.lr1.Item.{Item}
use Rattle.lp_repr.specs.declared.lr1.Token.{Token}
use Rattle.lp_repr.specs.declared.lr1.Token.TheVariants.{Terminal, Eof}
use Rattle.lp_repr.specs.declared.numbering.Rule.{Rule}
use Rattle.lp_tables.specs.Ranges.{is_dot, is_token, is_reduction}
use Rattle.lp_tables.proofs.Lists.{all_tests}

dot_in : (o : Option Rule) (d : ℕ) → IsTrue (option_map_or (λ (r : Rule). nat_le d (length r.right)) o false) ↔ ((r : Rule) × (o ≡ Some r) × (d ≤ length r.right))
dot_in None d = (λ no. absurd (false≢true no), λ h. let never : None ≡ Some h.0 = h.1 in cc)
dot_in (Some r) d = (λ yes. (r, refl, leb-true d (length r.right) yes), λ h. le-leb d (length r.right) (subst (λ (x : Rule). d ≤ length x.right) (sym (same_Some r h.0 h.1)) h.2))

token_in : (n : ℕ) (t : Token) → IsTrue (is_token n t) ↔ IsTokenInRange n t
token_in n (Terminal k) = (λ yes. ltb-true k n yes, λ less. lt-ltb k n less)
token_in n Eof = (λ _. tt, λ _. refl)

reduction_in : (p n : ℕ) (r : List Token × ℕ) → IsTrue (is_reduction p n r) ↔ ((r.1 < p) × AllByRecursion (IsTokenInRange n) r.0)
reduction_in p n r =
    let tokens = all_tests (is_token n) (IsTokenInRange n) (token_in n) r.0 in
    (λ yes. let parts = and_parts (nat_lt r.1 p) (list_all (is_token n) r.0) yes in (ltb-true r.1 p parts.0, tokens.0 parts.1), λ h. and_from (nat_lt r.1 p) (list_all (is_token n) r.0) (lt-ltb r.1 p h.0) (tokens.1 h.1))

pub items_in : (rules : List Rule) (items : List Item) (b : Bool) → b ≡ list_all (λ (i : Item). is_dot rules i.production i.index) items → IsTrue b ↔ AllByRecursion (IsItemInRange rules) items
items_in rules items b e =
    subst (λ c. IsTrue c ↔ AllByRecursion (IsItemInRange rules) items) (sym e) (all_tests (λ (i : Item). is_dot rules i.production i.index) (IsItemInRange rules) (λ i. dot_in (slice_get rules i.production) i.index) items)

pub reductions_in : (p n : ℕ) (rs : List (List Token × ℕ)) (b : Bool) → b ≡ list_all (is_reduction p n) rs → IsTrue b ↔ AllByRecursion (λ (r : List Token × ℕ). (r.1 < p) × AllByRecursion (IsTokenInRange n) r.0) rs
reductions_in p n rs b e =
    subst (λ c. IsTrue c ↔ AllByRecursion (λ (r : List Token × ℕ). (r.1 < p) × AllByRecursion (IsTokenInRange n) r.0) rs) (sym e) (all_tests (is_reduction p n) (λ r. (r.1 < p) × AllByRecursion (IsTokenInRange n) r.0) (reduction_in p n) rs)
