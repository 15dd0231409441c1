use Rattle.std.proofs.Common.{◌≡◌, ◌-◌, length, subst, arith}
use Rattle.lp_repr.specs.Numbering.{rules_of}
use Rattle.lp_states.specs.declared.builder.Stop.{Stop}
use Rattle.lp_states.specs.Building.{IsStopped}
use Rattle.lp_states.proofs.Faults.{fault_conflict, fault_many}
use Rattle.lp_states.proofs.builder.Builder.fault.Goals as goal

pub returns-in_ok-path-in-Conflict : goal.returns-in_ok-path-in-Conflict
returns-in_ok-path-in-Conflict c =
    let g = c.args.grammar.now in
    let self = c.args.self.now in
    let names = c.in_ok-names-in-Conflict in
    let last : c.saturating_sub-last.result ≡ length self.origins.items - 1 = omega (arith, c.saturating_sub-last.ensures, c.len.ensures, self.origins.ok.0) in
    λ start n number stopped. fault_conflict g start n number self names.names names.ensures.rightly names.ensures.all c.in_ok-path-in-Conflict.path c.in-Conflict.token c.saturating_sub-last.result (subst (λ (s : Stop). IsStopped (rules_of g) n self s) c.in-Conflict.is stopped) c.in_ok-path-in-Conflict.ensures last

pub returns-in_ok-paths-in-TooMany : goal.returns-in_ok-paths-in-TooMany
returns-in_ok-paths-in-TooMany c =
    let g = c.args.grammar.now in
    let self = c.args.self.now in
    let names = c.in_ok-names-in-TooMany in
    λ start n number stopped. fault_many g start n number self names.names names.ensures.rightly names.ensures.all c.in_ok-paths-in-TooMany.paths (subst (λ (s : Stop). IsStopped (rules_of g) n self s) c.in-TooMany.is stopped) c.in_ok-paths-in-TooMany.ensures
