use Rattle.std.proofs.Common.{refl, sym, ◌∙◌, rules, tests}
use denote.Ref.{Bor}
use Rattle.std.specs.Map.Iter.{deref}
use Rattle.std.proofs.lemmas.Iterator.{YieldsList-from_slice}
use Rattle.std.proofs.lemmas.Iterator.Search.{any_from_yields_List}
use Rattle.lp_lower.specs.ActionNumbers.{is_lookbehind}
use Rattle.lp_syntax.specs.declared.plain.PlainSymbol.{PlainSymbol}
use Rattle.lp_lower.proofs.RepeatSteps.{any_of_images}
use Rattle.lp_lower.proofs.frame.uses_lookbehind.Goals as goal

pub returns : goal.returns
returns c =
    let symbols = c.args.symbols.now in
    any_from_yields_List (λ (s : Bor PlainSymbol). is_lookbehind s.now.kind) _ _ c.any.result c.any.ensures.ran (YieldsList-from_slice symbols cc) (λ x b q k. search (rules, tests))
    ∙ sym (any_of_images deref (λ (s : PlainSymbol). is_lookbehind s.kind) (λ (s : Bor PlainSymbol). is_lookbehind s.now.kind) (λ x. refl) symbols)
