-- The names by which a goto's call of a state's function reads its arguments: behind the lists the lookahead, and then the slots.
use Rattle.std.proofs.Common.{◌≡◌, ℕ, zero, suc, ◌+◌, ◌-◌, ◌<◌, ◌≤◌, ◌^◌, true, List, [], ◌∷◌, ◌++◌, map, codes, refl, sym, ap, ◌∙◌, arith, append_assoc}
use Rattle.std.specs.List.{range_with_len}
use Rattle.lp_repr.specs.declared.repr.Grammar.{Grammar}
use Rattle.lp_table.specs.ReductionLines.{symbol_name}
use Rattle.lp_parts.specs.Texts.{comma_list}
use Rattle.lp_maker.specs.Texts.{plain}
use Rattle.lp_question_laws.proofs.Gotos.Cuts.{Apart}
use Rattle.lp_question_laws.proofs.Gotos.GotoCode.{lacks-append}
use Rattle.lp_question_laws.proofs.Gotos.LinkHeaders.{prefixed_plain, lacks_by}
use Rattle.lp_question_laws.proofs.Tokens.FormOf.{AllWord}
use Rattle.lp_question_laws.specs.Reductions.Arguments.{names_in}
use Rattle.lp_question_laws.proofs.Reductions.Keys.{symbol_keys}
use Rattle.lp_question_laws.proofs.Reductions.Texts.{AllKeys, IsPrefix, names_of, both_named, parameters_named, symbols_apart, symbols_plain, unjoined}
use Rattle.lp_ascent.specs.CallLines.{with_symbol, call_with}
use Rattle.lp_ascent.specs.Slots.{Layout, count_of}
use Rattle.lp_back_end_laws.proofs.Call.HandedNames.{plain_prefix}
use Rattle.lp_back_end_laws.proofs.Call.Transitions.{call_keys}

module _ (prefix : List ℕ) (h : IsPrefix prefix) where
  abbrev ahead : List ℕ
  ahead = prefix ++ codes "lookahead"

  with_lookahead : (first n : ℕ) → first + suc n ≤ 2 ^ 64 → names_in prefix (prefix ++ (codes "lookahead, " ++ comma_list (map (symbol_name prefix) (range_with_len first (suc n))))) ≡ codes "~lookahead" ∷ symbol_keys first (suc n)
  with_lookahead first n le =
      let t = symbol_name prefix first in
      let ts = map (symbol_name prefix) (range_with_len (first + 1) n) in
      let apart : Apart 44 ahead (t ∷ ts) = (lacks-append 44 prefix (codes "lookahead") h.no_comma (lacks_by 44 (codes "lookahead") refl), symbols_apart prefix h first n le) in
      ap (λ s. names_in prefix s) (sym (append_assoc prefix (codes "lookahead") (codes ", " ++ comma_list (t ∷ ts))) ∙ sym (unjoined ahead t ts))
      ∙ both_named prefix [] ahead (t ∷ ts) tt apart
      ∙ ap (λ q. q ∷ map (plain prefix) (t ∷ ts)) (prefixed_plain prefix (codes "lookahead") (lacks-append 38 prefix (codes "lookahead") h.wordy.no_and (lacks_by 38 (codes "lookahead") refl)))
      ∙ ap (λ qs. codes "~lookahead" ∷ qs) (symbols_plain prefix h first (suc n) le)

  handed_by : (first k n : ℕ) → k ≡ n → 0 < n → first + n ≤ 2 ^ 64 → names_in prefix (prefix ++ (codes "lookahead, " ++ comma_list (map (symbol_name prefix) (range_with_len first k)))) ≡ codes "~lookahead" ∷ symbol_keys first n
  handed_by first k zero is some few = absurd (omega (arith, some))
  handed_by first k (suc n) is some few = ap (λ i. names_in prefix (prefix ++ (codes "lookahead, " ++ comma_list (map (symbol_name prefix) (range_with_len first i))))) is ∙ with_lookahead first n few

-- the names of the call's arguments
pub goto_keys : (g : Grammar) (l callee : Layout) (to : ℕ) → AllWord g.prefix → AllKeys g.prefix (names_of g.parameters) → 0 < count_of callee → count_of callee ≤ count_of l + 1 → count_of l < 2 ^ 64
    → call_keys g.prefix (call_with g l callee to true) ≡ (names_of g.parameters ++ codes "~tokens" ∷ codes "~states" ∷ []) ++ codes "~lookahead" ∷ symbol_keys (with_symbol l - count_of callee) (count_of callee)
goto_keys g l callee to word keys some within few =
    let first : ℕ = with_symbol l - count_of callee in
    ap (λ qs. (qs ++ codes "~tokens" ∷ codes "~states" ∷ []) ++ names_in g.prefix (g.prefix ++ (codes "lookahead, " ++ comma_list (map (symbol_name g.prefix) (range_with_len first (with_symbol l - first)))))) (parameters_named g.prefix g.parameters keys)
    ∙ ap (λ qs. (names_of g.parameters ++ codes "~tokens" ∷ codes "~states" ∷ []) ++ qs) (handed_by g.prefix (plain_prefix g.prefix word) first (with_symbol l - first) (count_of callee) (omega (arith, within)) some (omega (arith, within, few)))
