use Rattle.std.proofs.Common.{◌<◌, ◌≤◌, [], List, length, take, slice_index_or, subst, arith}
use Rattle.std.proofs.lemmas.List.{take_more, take_all}
use Rattle.lp_repr.specs.declared.numbering.SymbolNumber.{SymbolNumber}
use Rattle.lp_states.specs.Naming.{IsSpelled, AreSpelled}
use Rattle.lp_states.specs.Building.{paths_of}
use Rattle.lp_states.proofs.BuilderSteps.{length_paths}
use Rattle.lp_states.proofs.NamingSteps.{zip_push}
use Rattle.lp_states.proofs.builder.Builder.paths.Goals as goal

pub loop-state-preserved : goal.loop-state-preserved
loop-state-preserved c =
    let self = c.args.self.now in
    let paths = paths_of self.origins.items in
    let n = c.loop-state.state in
    let within : n < length paths = omega (arith, c.loop-state-test.true, c.len-state-end.ensures, length_paths [] self.origins.items, self.origins.ok.0) in
    rw (c.in_ok-push.ensures.items, take_more paths n [] within) (zip_push (IsSpelled c.args.names.now) c.loop-state.paths.items (take n paths) c.in_ok-path.field-0 (slice_index_or paths n []) c.loop-state.invariant c.in_ok-path.ensures)

pub returns : goal.returns
returns c =
    let self = c.args.self.now in
    let paths = paths_of self.origins.items in
    let n = c.loop-state.state in
    let all : length paths ≤ n = omega (arith, c.loop-state-test.false, c.len-state-end.ensures, length_paths [] self.origins.items, self.origins.ok.0) in
    subst (λ (us : List (List SymbolNumber)). AreSpelled c.args.names.now c.loop-state.paths.items us) (take_all n paths all) c.loop-state.invariant
