-- What a question costs is small beside the symbols of productions and of inlined actions.
use Rattle.std.proofs.Common.{◌+◌, ◌≤◌, List, [], ◌∷◌, arith}
use Rattle.std.proofs.lemmas.List.Sums.{sum_by-cons}
use Rattle.lp_repr.specs.Numbering.{productions_of}
use Rattle.lp_repr.specs.declared.repr.ActionFnDefn.{ActionFnDefn}
use Rattle.lp_repr.specs.declared.repr.ActionFnDefnKind.{ActionFnDefnKind}
use Rattle.lp_repr.specs.declared.repr.ActionFnDefnKind.TheVariants.{User, Lookaround, Inline}
use Rattle.lp_repr.specs.declared.repr.Grammar.{Grammar}
use Rattle.lp_repr.specs.declared.repr.Production.{Production}
use Rattle.lp_question_laws.specs.Reductions.Premises.{longest, reduction_cost}
use Rattle.lp_question_laws.specs.Actions.Nesting.{action_cost, actions_size, size_of}
use Rattle.lp_agreement.proofs.Composed.Agreement.{IsCost}
use Rattle.lp_agreement.proofs.Composed.Weights.{inlined_symbols, steps_of_actions, symbols_of}

longest_within : (ps : List Production) → longest ps ≤ symbols_of ps
longest_within [] = omega arith
longest_within (p ∷ ps) = (let h = longest_within ps in omega (arith, h))

size_within : (k : ActionFnDefnKind) → size_of k ≤ 2 + inlined_symbols k
size_within (User patterns types code) = omega arith
size_within (Lookaround place) = omega arith
size_within (Inline outer symbols) = omega arith

pub sizes_within : (actions : List ActionFnDefn) → actions_size actions ≤ steps_of_actions actions
sizes_within [] = omega arith
sizes_within (a ∷ actions) =
    let e = sum_by-cons (λ (x : ActionFnDefn). size_of x.kind) a actions in
    let one = size_within a.kind in
    let h = sizes_within actions in
    omega (arith, e, one, h)

pub reduction_is_cost : (g : Grammar) → IsCost g (reduction_cost g (action_cost g))
reduction_is_cost g =
    let p = longest_within (productions_of g) in
    let a = sizes_within g.action_fn_defns in
    record { some = omega arith; few = omega (arith, p, a) }
