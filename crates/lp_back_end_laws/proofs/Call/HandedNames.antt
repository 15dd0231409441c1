-- The names in a printed call of a state's function: the grammar's parameters, the token source, the list of states and slots.
use Rattle.std.proofs.Common.{◌≡◌, ℕ, zero, suc, ◌+◌, ◌-◌, ◌<◌, ◌≤◌, ◌^◌, Bool, false, List, [], ◌∷◌, ◌++◌, length, map, codes, Some, refl, ap, ◌∙◌, subst, arith, slice_get}
use Rattle.std.specs.List.{range_with_len}
use Rattle.lp_repr.specs.declared.repr.Grammar.{Grammar}
use Rattle.lp_core.specs.Effect.{set_value}
use Rattle.lp_core.specs.Val.{Val}
use Rattle.lp_question_laws.proofs.Gotos.Whole.{IsWhole}
use Rattle.lp_maker.specs.Slots.{Names}
use Rattle.lp_code_laws.specs.Slots.Shows.{Shows}
use Rattle.lp_parts.specs.Texts.{comma_list}
use Rattle.lp_table.specs.ReductionLines.{symbol_name}
use Rattle.lp_ascent.specs.CallLines.{call_of, with_symbol}
use Rattle.lp_ascent.specs.Slots.{Layout, count_of, layout_at}
use Rattle.lp_question_laws.proofs.Tokens.Captures.{word_lacks, wordy}
use Rattle.lp_question_laws.proofs.Tokens.FormOf.{AllWord}
use Rattle.lp_question_laws.specs.Reductions.Arguments.{ShowAll, names_in}
use Rattle.lp_question_laws.specs.Reductions.Outer.{sym_name}
use Rattle.lp_question_laws.proofs.Reductions.Keys.{symbol_keys}
use Rattle.lp_question_laws.proofs.Reductions.Texts.{AllKeys, IsPrefix, names_of, both_named, parameters_named, symbols_apart, symbols_plain}
use Rattle.lp_back_end_laws.proofs.Call.Transitions.{call_keys}

pub plain_prefix : (prefix : List ℕ) → AllWord prefix → IsPrefix prefix
plain_prefix prefix w = record { wordy = wordy prefix w; no_comma = word_lacks 44 prefix refl w }

-- slots from a number on
pub slots_named : (prefix : List ℕ) → AllWord prefix → (first n : ℕ) → 0 < n → first + n ≤ 2 ^ 64 → names_in prefix (comma_list (map (symbol_name prefix) (range_with_len first n))) ≡ symbol_keys first n
slots_named prefix w first zero some le = absurd (omega (arith, some))
slots_named prefix w first (suc n) some le =
    both_named prefix [] (symbol_name prefix first) (map (symbol_name prefix) (range_with_len (first + 1) n)) tt (symbols_apart prefix (plain_prefix prefix w) first n le)
    ∙ symbols_plain prefix (plain_prefix prefix w) first (suc n) le

module _ (g : Grammar) (ls : List Layout) (l : Layout) (to : ℕ) (after : Bool) where
  pub call_whole : IsWhole (call_of g ls l to after)
  unfolding call_of
  call_whole = refl

-- what a shift hands on
pub shift_keys : (g : Grammar) (ls : List Layout) (l : Layout) (to : ℕ) → AllWord g.prefix → AllKeys g.prefix (names_of g.parameters) → 0 < count_of (layout_at ls to) → count_of (layout_at ls to) ≤ count_of l + 1 → count_of l < 2 ^ 64
    → call_keys g.prefix (call_of g ls l to false) ≡ (names_of g.parameters ++ codes "~tokens" ∷ codes "~states" ∷ []) ++ symbol_keys (with_symbol l - count_of (layout_at ls to)) (count_of (layout_at ls to))
unfolding call_of
shift_keys g ls l to w keys some within small =
    let k = layout_at ls to in
    let first : ℕ = with_symbol l - count_of k in
    let many : with_symbol l - first ≡ count_of k = omega (arith, within) in
    ap (λ qs. (qs ++ codes "~tokens" ∷ codes "~states" ∷ []) ++ names_in g.prefix (comma_list (map (symbol_name g.prefix) (range_with_len first (with_symbol l - first))))) (parameters_named g.prefix g.parameters keys)
    ∙ ap (λ qs. (names_of g.parameters ++ codes "~tokens" ∷ codes "~states" ∷ []) ++ qs)
    (ap (λ n. names_in g.prefix (comma_list (map (symbol_name g.prefix) (range_with_len first n)))) many ∙ slots_named g.prefix w first (count_of k) some (omega (arith, within, small)))

-- symbols that show values, one by one
pub each_shown : (names : Names) (env : List Val) (k : ℕ) (us : List Val) → ((i : ℕ) (u : Val) → slice_get us i ≡ Some u → Shows names env (sym_name (k + i)) u × (set_value u ≡ Some u)) → ShowAll names env (symbol_keys k (length us)) us
each_shown names env k [] h = tt
each_shown names env k (u ∷ us) h =
    let none : k + 0 ≡ k = omega arith in
    let first = h 0 u refl in (
      subst (λ j. Shows names env (sym_name j) u) none first.0,
      first.1,
      each_shown names env (k + 1) us (λ i x at. (let next : k + suc i ≡ (k + 1) + i = omega arith in let r = h (suc i) x at in (subst (λ j. Shows names env (sym_name j) x) next r.0, r.1))),
    )
