-- Lines of a body that were run.
use Rattle.std.specs.Prelude.{ℕ}
use Rattle.lp_core.specs.Datum.{Unset}
use Rattle.lp_core.specs.Val.{Val, Plain}
use Rattle.lp_core.specs.Tree.{trees_of}
use Rattle.lp_core.specs.Store.{Program}
use Rattle.lp_bodies.specs.Lines.{Lines}
use Rattle.lp_code_laws.specs.Ends.Ends.{Moment, Sequence, Giving, EndsIn}

-- the lines so far lead from one moment to another
pub record Ran (p : Program) (l : Lines) (start : Moment) (k : ℕ) (m : Moment) : Type 0 where
  pub value : Val
  pub ends : EndsIn p (Sequence (trees_of l.parts) (Plain Unset)) start k (Giving value m)
