use Rattle.std.proofs.Common.{◌≡◌, ◌<◌, ◌||◌, length, sym, ap, ◌∙◌, arith}
use Rattle.std.proofs.Math.ListN.{get_or}
use Rattle.std.specs.List.{list_any}
use Rattle.std.proofs.lemmas.List.{take_all}
use Rattle.lp_lower.specs.ActionNumbers.{is_replaced_target}
use Rattle.lp_lower.specs.Naming.{target}
use Rattle.lp_syntax.specs.declared.plain.PlainSymbol.{PlainSymbol}
use Rattle.lp_lower.proofs.RepeatSteps.{any_more}
use Rattle.lp_lower.proofs.Walking.{any_here}
use Rattle.lp_lower.proofs.expand.is_replaced.Goals as goal

pub returns-then-is_replaced_kind : goal.returns-then-is_replaced_kind
returns-then-is_replaced_kind c =
    let g = c.args.names.now.plain.now in
    let symbols = c.args.alternative.now.symbols in
    let s = c.symbol-item.result in
    let i = c.loop-symbol.symbol-index in
    let less : i < length symbols = omega (arith, ap length c.as_slice-symbol-items.ensures) in
    let at : get_or symbols i s ≡ s = ap (λ l. get_or l i s) (sym c.as_slice-symbol-items.ensures) ∙ sym c.symbol-item.is in
    sym (any_here (λ (x : PlainSymbol). is_replaced_target g (target g x.kind)) symbols i s less at (sym c.is_replaced_kind.ensures ∙ c.if-is_replaced_kind.true))

pub loop-symbol-preserved : goal.loop-symbol-preserved
loop-symbol-preserved c =
    let g = c.args.names.now.plain.now in
    let symbols = c.args.alternative.now.symbols in
    let s = c.symbol-item.result in
    let i = c.loop-symbol.symbol-index in
    let less : i < length symbols = omega (arith, ap length c.as_slice-symbol-items.ensures) in
    let at : get_or symbols i s ≡ s = ap (λ l. get_or l i s) (sym c.as_slice-symbol-items.ensures) ∙ sym c.symbol-item.is in
    any_more (λ (x : PlainSymbol). is_replaced_target g (target g x.kind)) symbols i s less at
    ∙ (ap (λ b. b || is_replaced_target g (target g s.kind)) c.loop-symbol.invariant ∙ (sym c.is_replaced_kind.ensures ∙ c.if-is_replaced_kind.false))

pub returns : goal.returns
returns c =
    let g = c.args.names.now.plain.now in
    let symbols = c.args.alternative.now.symbols in
    let i = c.loop-symbol.symbol-index in
    let test = λ (x : PlainSymbol). is_replaced_target g (target g x.kind) in
    sym (ap (list_any test) (sym (take_all i symbols (omega (arith, ap length c.as_slice-symbol-items.ensures)))) ∙ c.loop-symbol.invariant)
