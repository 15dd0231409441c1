use Rattle.std.proofs.Common.{◌≡◌, ℕ, List, take, map, ap, sym, ◌∙◌}
use Rattle.std.proofs.lemmas.List.{take-map}
use Rattle.lp_core.specs.declared.cell.Cell.{Cell}
use Rattle.lp_core.specs.Val.{Val}
use Rattle.lp_core.specs.Store.{Held, UserCall, calls_of, held}
use Rattle.lp_core.specs.Flow.{Flow, Gives}
use Rattle.lp_core.proofs.machine.leave.Goals as goal

-- the cells that the caller had
abbrev given : Val → List Val → ℕ → List UserCall → ℕ → List Held → Flow
given v env taken calls left cells = Gives v (record { store = record { env = env; cells = cells; taken = taken }; calls = calls; left = left })

kept : (v : Val) (env : List Val) (taken left n : ℕ) (calls : List UserCall) (cells fewer : List Cell) → fewer ≡ take n cells → given v env taken calls left (map held fewer) ≡ given v env taken calls left (take n (map held cells))
kept v env taken left n calls cells fewer is =
    ap (given v env taken calls left) (ap (map held) is ∙ sym (take-map held n cells))

pub returns : goal.returns
returns c = λ v left. kept v c.args.env.items c.args.world.now.taken left c.args.cells (calls_of c.args.world.now) c.args.world.now.cells.items c.truncate.new.self.items c.truncate.ensures.items
