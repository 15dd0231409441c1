use Rattle.std.proofs.Common.{◌≡◌, ◌+◌, cond, map, ap, ◌∙◌}
use Rattle.std.specs.List.{list_any}
use Rattle.std.specs.Prelude.{count_by}
use Rattle.std.specs.Map.Iter.{deref}
use Rattle.lp_lower.specs.ActionNumbers.{is_lookahead, is_lookbehind, is_error, uses_lookahead, uses_lookbehind, uses_error, lookahead_action, lookbehind_action, first_action}
use Rattle.lp_lower.specs.Symbols.{symbols_of}
use Rattle.lp_syntax.specs.declared.plain.PlainRule.{PlainRule}
use Rattle.lp_syntax.specs.declared.plain.PlainSymbol.{PlainSymbol}
use Rattle.lp_lower.proofs.Framed.{frame_alike}
use Rattle.lp_lower.proofs.frame.make_frame.Goals as goal

pub returns : goal.returns
returns c =
    let g = c.args.plain.now in
    let all : map deref c.as_slice-symbols.result.now ≡ symbols_of g = ap (map deref) c.as_slice-symbols.ensures.value ∙ c.in_ok-all.ensures in
    let ahead : c.uses_lookahead-ahead.result ≡ uses_lookahead g = c.uses_lookahead-ahead.ensures ∙ ap (list_any (λ (s : PlainSymbol). is_lookahead s.kind)) all in
    let behind : c.uses_lookbehind-behind.result ≡ uses_lookbehind g = c.uses_lookbehind-behind.ensures ∙ ap (list_any (λ (s : PlainSymbol). is_lookbehind s.kind)) all in
    let error : c.uses_error-error.result ≡ uses_error g = c.uses_error-error.ensures ∙ ap (list_any (λ (s : PlainSymbol). is_error s.kind)) all in
    let starts : c.in_ok-lookahead.lookahead ≡ lookahead_action g = c.in_ok-lookahead.ensures ∙ ap (count_by (λ (r : PlainRule). r.public)) c.as_slice.ensures in
    let next : c.in_ok-lookbehind.lookbehind ≡ lookbehind_action g = c.in_ok-lookbehind.ensures ∙ (ap (λ n. n + cond c.uses_lookahead-ahead.result 1 0) starts ∙ ap (λ b. lookahead_action g + cond b 1 0) ahead) in
    let first : c.in_ok-first.first ≡ first_action g = c.in_ok-first.ensures ∙ (ap (λ n. n + cond c.uses_lookbehind-behind.result 1 0) next ∙ ap (λ b. lookbehind_action g + cond b 1 0) behind) in
    frame_alike _ _ _ _ _ _ _ _ _ _ _ _ ahead behind error starts next first
