-- The arguments so far: those that were there, and what the names so far hold.
use Rattle.std.proofs.Common.{◌≡◌, ◌++◌, map}
use Rattle.lp_maker.specs.Making.{read_written}
use Rattle.lp_maker.proofs.maker.Maker.read_each.Given as goal

abbrev pub invariant-loop-name : goal.invariant-loop-name
invariant-loop-name l =
    l.args.items ≡ l.initial.args.items ++ map (read_written l.self.prefix.now l.scope) (map (λ name. name.now) l.yielded)
