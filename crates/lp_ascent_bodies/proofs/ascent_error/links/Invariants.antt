-- The closures so far.
use Rattle.std.proofs.Common.{◌≡◌}
use Rattle.lp_maker.specs.Making.{making}
use Rattle.lp_ascent_bodies.specs.AscentErrors.{chaining_of, links, no_links}
use Rattle.lp_ascent_bodies.proofs.ascent_error.links.Given as goal

abbrev pub invariant-loop-others : goal.invariant-loop-others
invariant-loop-others l = chaining_of l.last (making l.maker) ≡ links l.end l.others (no_links (making l.fn.maker))
