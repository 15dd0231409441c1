-- The arguments of a reduction's action: the parameters, then its symbols, or the place of none.
use Rattle.std.proofs.Common.{◌≡◌, ℕ, zero, suc, ◌+◌, ◌-◌, ◌<◌, ◌≤◌, ◌^◌, Bool, true, false, List, [], ◌∷◌, ◌++◌, map, length, refl, ap, ◌∙◌, arith}
use Rattle.std.specs.Prelude.{nat_le, if◌then◌else◌}
use Rattle.std.specs.List.{range_with_len}
use Rattle.std.proofs.lemmas.Bool.Decides.{nat_tests}
use Rattle.lp_repr.specs.declared.repr.Grammar.{Grammar}
use Rattle.lp_repr.specs.declared.values.Loc.{Loc}
use Rattle.lp_driver.specs.Values.{Spanned, Value}
use Rattle.lp_core.specs.Val.{Val}
use Rattle.lp_question_laws.specs.Tables.Acts.{symbol_val, arguments}
use Rattle.lp_maker.specs.Slots.{Names}
use Rattle.lp_parts.specs.Texts.{arguments_of, comma_list}
use Rattle.lp_table.specs.ReductionLines.{symbol_name, span_arguments}
use Rattle.lp_ascent.specs.CallLines.{slot_list}
use Rattle.lp_ascent.specs.ReduceLines.{popped_arguments}
use Rattle.lp_code_laws.specs.Slots.Shows.{Shows}
use Rattle.lp_question_laws.specs.Reductions.Outer.{IsOuter}
use Rattle.lp_question_laws.specs.Reductions.Arguments.{ShowAll, names_in}
use Rattle.lp_question_laws.proofs.Reductions.Keys.{symbol_keys, argument_keys, AllOuter}
use Rattle.lp_question_laws.proofs.Reductions.Texts.{IsPrefix, AllKeys, names_of, slots_named, place_named}

-- ---- their names
module _ (g : Grammar) (prefix : IsPrefix g.prefix) (keys : AllKeys g.prefix (names_of g.parameters)) where
  -- some symbols from a slot on
  pub some_named : (first n end : ℕ) → first + n ≡ end → 0 < n → end ≤ 2 ^ 64 → names_in g.prefix (popped_arguments g first end) ≡ names_of g.parameters ++ symbol_keys first n
  some_named first zero end is some small = absurd (omega (arith, some))
  some_named first (suc k) end is some small =
      let more : nat_le end first ≡ false = grind (arith, nat_tests) in
      let many : end - first ≡ suc k = omega (arith, is) in
      ap (λ (b : Bool). names_in g.prefix (arguments_of g.parameters ++ (if b then span_arguments g.prefix else slot_list g.prefix first end))) more
      ∙ ap (λ (i : ℕ). names_in g.prefix (arguments_of g.parameters ++ comma_list (map (symbol_name g.prefix) (range_with_len first i)))) many
      ∙ slots_named g.prefix prefix g.parameters first k keys (omega (arith, is, small))

  -- none
  pub none_named : (first end : ℕ) → first ≡ end → names_in g.prefix (popped_arguments g first end) ≡ names_of g.parameters ++ argument_keys 0
  none_named first end is =
      let past : nat_le end first ≡ true = grind (arith, nat_tests) in
      ap (λ (b : Bool). names_in g.prefix (arguments_of g.parameters ++ (if b then span_arguments g.prefix else slot_list g.prefix first end))) past ∙ place_named g.prefix prefix g.parameters keys

-- ---- what they hold
-- names that no line binds show in a later place what they showed
pub show_outer : (names later : Names) (env after : List Val) (qs : List (List ℕ)) (vs : List Val) → AllOuter qs → ((q : List ℕ) (v : Val) → IsOuter q → Shows names env q v → Shows later after q v) → ShowAll names env qs vs → ShowAll later after qs vs
show_outer names later env after [] [] o h g = tt
show_outer names later env after [] (v ∷ vs) o h g = absurd g
show_outer names later env after (q ∷ qs) [] o h g = absurd g
show_outer names later env after (q ∷ qs) (v ∷ vs) o h g = (h q v o.0 g.0, g.1, show_outer names later env after qs vs o.1 h g.2)

-- some symbols are the arguments behind the parameters
pub some_arguments : (given : List Val) (xs : List (Spanned Value)) (place : Loc × Loc) → 0 < length xs → arguments given xs place ≡ given ++ map symbol_val xs
some_arguments given [] place some = absurd (omega (arith, some))
some_arguments given (x ∷ xs) place some = refl
