-- The entries of the printed tables are what the machine's states do.
use Rattle.std.proofs.Common.{◌≡◌, ℕ, zero, suc, ◌+◌, ◌*◌, ◌<◌, pos, Bool, true, false, cond, List, [], ◌∷◌, ◌++◌, length, map, Option, Some, None, refl, sym, ap, ◌∙◌, arith}
use Rattle.std.specs.Prelude.{slice_get, if◌then◌else◌, ◌==◌}
use Rattle.std.specs.Option.{option_map}
use Rattle.std.specs.List.{list_any, position_from, range_with_len}
use Rattle.std.specs.Ordering.{nat_cmp}
use Rattle.std.specs.BTreeMap.{get}
use Rattle.std.proofs.lemmas.Bool.Decides.{nat_tests}
use Rattle.std.proofs.lemmas.Iterator.Adapters.{position_from-zero}
use Rattle.std.proofs.lemmas.List.{length-map}
use Rattle.std.proofs.lemmas.Option.{slice_get-map}
use Rattle.lp_repr.specs.declared.lr1.Lr1State.{Lr1State}
use Rattle.lp_repr.specs.declared.lr1.Token.{Token}
use Rattle.lp_repr.specs.declared.lr1.Token.TheVariants.{Terminal, Eof}
use Rattle.lp_machine.specs.declared.lookup.Act.{Act}
use Rattle.lp_machine.specs.declared.lookup.Act.TheVariants.{ReduceBy, NoAction}
use Rattle.lp_machine.specs.Lookup.{same_token, reduction_act, reduction_at, reduction_in, shift_or, act_in, act_at}
use Rattle.lp_parts.specs.Entries.{is_terminal, is_eof, first_of_two, reduced_on, entry_of, action_entry, end_entry, action_row, action_entries, end_entries}
use Rattle.lp_code_laws.proofs.Ends.Lists.{get_first}
use Rattle.lp_turn_laws.specs.Alike.Answered.{entry}

-- what a production reduces by, if there is one
abbrev reducing : Option ℕ → Act
reducing None = NoAction
reducing (Some production) = ReduceBy production

module _ (token : Token) (test : Token → Bool) (same : (t : Token) → same_token t token ≡ test t) where
  abbrev has : List Token × ℕ → Bool
  has r = list_any (λ t. same_token t token) r.0

  any_same : (ts : List Token) → list_any (λ t. same_token t token) ts ≡ list_any test ts
  any_same [] = refl
  any_same (t ∷ ts) = cc (same t, any_same ts)

  -- the first reduction that has the token, among the last of all
  first_among : (all rs : List (List Token × ℕ)) (k : ℕ) → ((j : ℕ) → slice_get all (k + j) ≡ slice_get rs j) → reduction_at all (position_from has k rs) ≡ reducing (reduced_on test rs)
  first_among all [] k rest = refl
  first_among all (r ∷ rs) k rest =
      let none : k + 0 ≡ k = omega arith in
      by (list_any test r.0) (any_same r.0) (ap (slice_get all) (sym none) ∙ rest 0) (first_among all rs (k + 1) (λ j. (let next : (k + 1) + j ≡ k + suc j = omega arith in ap (slice_get all) next ∙ rest (suc j))))
    where
      by : (b : Bool) → has r ≡ b → slice_get all k ≡ Some r → reduction_at all (position_from has (k + 1) rs) ≡ reducing (reduced_on test rs)
          → reduction_at all (cond (has r) (Some k) (position_from has (k + 1) rs)) ≡ reducing (first_of_two (if b then Some r.1 else None) (reduced_on test rs))
      by true e here later = ap (λ (x : Bool). reduction_at all (cond x (Some k) (position_from has (k + 1) rs))) e ∙ ap reduction_act here
      by false e here later = ap (λ (x : Bool). reduction_at all (cond x (Some k) (position_from has (k + 1) rs))) e ∙ later

  reduction_is : (rs : List (List Token × ℕ)) → reduction_in rs token ≡ reducing (reduced_on test rs)
  reduction_is rs = ap (reduction_at rs) (position_from-zero has rs) ∙ first_among rs rs 0 (λ j. (let none : 0 + j ≡ j = omega arith in ap (slice_get rs) none))

  entry_is : (rs : List (List Token × ℕ)) (o : Option ℕ) → entry (shift_or o (reduction_in rs token)) ≡ entry_of o (reduced_on test rs)
  entry_is rs (Some to) = (let next : suc to ≡ to + 1 = omega arith in ap pos next)
  entry_is rs None = ap entry (reduction_is rs) ∙ by (reduced_on test rs)
    where
      by : (o : Option ℕ) → entry (reducing o) ≡ entry_of None o
      by None = refl
      by (Some p) = refl

same_number : (i j : ℕ) → (j == i) ≡ (i == j)
same_number i j = grind (arith, nat_tests)

terminal_same : (i : ℕ) (t : Token) → same_token t (Terminal i) ≡ is_terminal i t
terminal_same i (Terminal j) = same_number i j
terminal_same i Eof = refl

eof_same : (t : Token) → same_token t Eof ≡ is_eof t
eof_same (Terminal j) = refl
eof_same Eof = refl

pub action_is : (s : Lr1State) (i : ℕ) → entry (act_in (Some s) (Terminal i)) ≡ action_entry s i
action_is s i = entry_is (Terminal i) (is_terminal i) (terminal_same i) s.reductions (get nat_cmp s.shifts i)

pub end_is : (s : Lr1State) → entry (act_in (Some s) Eof) ≡ end_entry s
end_is s = entry_is Eof is_eof eof_same s.reductions None

-- ---- where they stand
pub end_at : (states : List Lr1State) (q : ℕ) (s : Lr1State) → slice_get states q ≡ Some s → slice_get (end_entries states) q ≡ Some (entry (act_at states q Eof))
end_at states q s at =
    slice_get-map end_entry states q ∙ ap (option_map end_entry) at ∙ ap Some (sym (ap (λ (o : Option Lr1State). entry (act_in o Eof)) at ∙ end_is s))

pub get_behind : {X : Type 0} (xs ys : List X) (j : ℕ) → slice_get (xs ++ ys) (length xs + j) ≡ slice_get ys j
get_behind [] ys j = (let none : 0 + j ≡ j = omega arith in ap (slice_get ys) none)
get_behind (x ∷ xs) ys j = (let next : suc (length xs) + j ≡ suc (length xs + j) = omega arith in ap (slice_get (x ∷ (xs ++ ys))) next ∙ get_behind xs ys j)

ranged : {X : Type 0} (f : ℕ → X) (a n i : ℕ) → i < n → slice_get (map f (range_with_len a n)) i ≡ Some (f (a + i))
ranged f a zero i lt = absurd (omega arith)
ranged f a (suc n) zero lt = (let none : a ≡ a + 0 = omega arith in ap (λ k. Some (f k)) none)
ranged f a (suc n) (suc i) lt = (let next : (a + 1) + i ≡ a + suc i = omega arith in ranged f (a + 1) n i (omega arith) ∙ ap (λ k. Some (f k)) next)

range_length : (a n : ℕ) → length (range_with_len a n) ≡ n
range_length a zero = refl
range_length a (suc n) = ap suc (range_length (a + 1) n)

row_length : (n : ℕ) (s : Lr1State) → length (action_row n s) ≡ n
row_length n s = length-map (range_with_len 0 n) (action_entry s) ∙ range_length 0 n

place_more : (m n q i : ℕ) → m ≡ n → suc q * n + i ≡ m + (q * n + i)
place_more m n q i is = omega arith

pub action_at : (states : List Lr1State) (n q i : ℕ) (s : Lr1State) → slice_get states q ≡ Some s → i < n → slice_get (action_entries n states) (q * n + i) ≡ Some (entry (act_at states q (Terminal i)))
action_at [] n q i s at lt = absurd cc
action_at (x ∷ states) n zero i s at lt =
    let first : 0 * n + i ≡ i = omega arith in
    let none : 0 + i ≡ i = omega arith in
    ap (slice_get (action_row n x ++ action_entries n states)) first
    ∙ get_first (action_row n x) (action_entries n states) i (ranged (action_entry x) 0 n i lt)
    ∙ ap (λ k. Some (action_entry x k)) none ∙ ap Some (sym (action_is x i))
action_at (x ∷ states) n (suc q) i s at lt =
    ap (slice_get (action_row n x ++ action_entries n states)) (place_more (length (action_row n x)) n q i (row_length n x))
    ∙ get_behind (action_row n x) (action_entries n states) (q * n + i)
    ∙ action_at states n q i s at lt
