use Rattle.std.proofs.Common.{◌≤◌, ◌++◌, [], ◌∷◌, List, length, slice_index_or, sym, ap, ◌∙◌, append_assoc, append-nil, arith}
use Rattle.lp_repr.specs.declared.numbering.SymbolNumber.{SymbolNumber}
use Rattle.lp_states.specs.declared.builder.Origin.{Origin}
use Rattle.lp_states.specs.declared.builder.Origin.TheVariants.{Start, After}
use Rattle.lp_states.specs.Building.{paths_of}
use Rattle.lp_states.proofs.BuilderSteps.{length_paths}
use Rattle.lp_states.proofs.Named.{back_after, back_stop, back_start, back_past, origin_at}
use Rattle.lp_states.proofs.builder.Builder.step_back.Goals as goal

pub returns-in-None-clause-path : goal.returns-in-None-clause-path
returns-in-None-clause-path c =
    let os = c.args.self.now.origins.items in
    let past : length (paths_of os) ≤ c.args.at = omega (arith, length_paths [] os, c.in-None.ensures.lookup.3, ap (λ (xs : List Origin). length xs) c.deref.ensures.value) in
    ap (λ (xs : List SymbolNumber). c.args.backwards.now.items ++ xs) (sym (back_past os c.args.at past))

pub returns-in-Start-clause-path : goal.returns-in-Start-clause-path
returns-in-Start-clause-path c =
    let os = c.args.self.now.origins.items in
    let found = origin_at os c.deref.result.now c.args.at c.in-Some.origin.now Start c.deref.ensures.value c.in-Some.ensures.lookup.3.0 c.in-Some.ensures.lookup.1 c.in-Start.is in
    ap (λ (xs : List SymbolNumber). c.args.backwards.now.items ++ xs) (sym (back_start os c.args.at found))

pub returns-then-from-at-clause-path : goal.returns-then-from-at-clause-path
returns-then-from-at-clause-path c =
    let os = c.args.self.now.origins.items in
    let before = c.args.backwards.now.items in
    let i = c.in-After.from in
    let x = c.in-After.symbol in
    let rest : List SymbolNumber = slice_index_or (paths_of os) i [] in
    let found = origin_at os c.deref.result.now c.args.at c.in-Some.origin.now (After i x) c.deref.ensures.value c.in-Some.ensures.lookup.3.0 c.in-Some.ensures.lookup.1 c.in-After.is in
    ap (λ (xs : List SymbolNumber). xs ++ rest) c.in_ok-push-in-After.ensures.items ∙ append_assoc before (x ∷ []) rest ∙ ap (λ (xs : List SymbolNumber). before ++ xs) (sym (back_after os c.args.at i x found c.if-from-at.true))

pub returns-else-from-at-clause-path : goal.returns-else-from-at-clause-path
returns-else-from-at-clause-path c =
    let os = c.args.self.now.origins.items in
    let before = c.args.backwards.now.items in
    let i = c.in-After.from in
    let x = c.in-After.symbol in
    let found = origin_at os c.deref.result.now c.args.at c.in-Some.origin.now (After i x) c.deref.ensures.value c.in-Some.ensures.lookup.3.0 c.in-Some.ensures.lookup.1 c.in-After.is in
    append-nil c.push.new.self.items ∙ c.in_ok-push-in-After.ensures.items ∙ ap (λ (xs : List SymbolNumber). before ++ xs) (sym (back_stop os c.args.at i x found c.if-from-at.false))
