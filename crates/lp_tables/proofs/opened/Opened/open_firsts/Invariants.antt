use Rattle.std.proofs.Common.{◌≡◌, ◌+◌, not, vec_len}
use Rattle.std.specs.List.{count_by}
use Rattle.lp_tables.specs.Walk.{Marks}
use Rattle.lp_tables.proofs.Walks.{FirstsIn}
use Rattle.lp_tables.proofs.opened.Opened.open_firsts.Given as goal

abbrev pub invariant-loop-production : goal.invariant-loop-production
invariant-loop-production l = record {
  count :
      count_by not l.self.opened.items + vec_len l.self.work
      ≡ count_by not l.initial.self.opened.items + vec_len l.initial.self.work;
  marks : Marks l.initial.self l.self (FirstsIn l.rules.all.items l.initial.production l.end l.production);
}
