-- The tests of the numbers that are left, after those so far.
use Rattle.std.proofs.Common.{◌≡◌, drop, map}
use Rattle.lp_bodies.specs.Arms.{gathered}
use Rattle.lp_bodies.specs.Tables.{number_cases}
use Rattle.lp_bodies.proofs.table.number_cases.Given as goal

abbrev pub invariant-loop-text : goal.invariant-loop-text
invariant-loop-text l =
    number_cases (gathered l.arms) (map (λ text. text.now) (drop l.text-index l.texts)) ≡ number_cases (gathered l.fn.arms) (map (λ text. text.now) l.texts)
