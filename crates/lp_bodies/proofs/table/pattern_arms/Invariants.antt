-- The arms of the patterns that are left, after those so far.
use Rattle.std.proofs.Common.{◌≡◌, map}
use Rattle.lp_view.specs.Elements.{patterns, patterns_left}
use Rattle.lp_maker.specs.Making.{making}
use Rattle.lp_bodies.specs.Arms.{gathered, no_arms}
use Rattle.lp_bodies.specs.Tables.{pattern_arms, reading_of}
use Rattle.lp_bodies.proofs.table.pattern_arms.Given as goal

abbrev pub invariant-loop-pattern : goal.invariant-loop-pattern
invariant-loop-pattern l =
    pattern_arms l.variant l.token (map (λ name. name.now) l.names) (reading_of (gathered l.arms) (making l.maker)) (patterns_left l.pattern-iterator) ≡ pattern_arms l.variant l.token (map (λ name. name.now) l.names) (reading_of no_arms (making l.fn.maker)) (patterns l.text)
