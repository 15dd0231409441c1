use Rattle.lp_machine.proofs.DriverMoves.{turns_move}
use Rattle.lp_machine.proofs.laws.turns.Goals as goal

pub returns : goal.returns
returns c = turns_move
