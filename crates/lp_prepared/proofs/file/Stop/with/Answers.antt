use Rattle.std.proofs.Common.{Some, refl}
use Rattle.lp_prepared.proofs.LinesTold.{told_line}
use Rattle.lp_prepared.proofs.Telling.{answered_with, holds, told_with}
use Rattle.lp_prepared.proofs.TextTold.{text_with}
use Rattle.lp_prepared.proofs.file.Stop.with.Goals as goal

pub returns-in_default : goal.returns-in_default
returns-in_default c =
    let h = holds c.args.grammar c.args.status c.in_default.not-Memory in
    record {
      status = refl;
      grammar = h;
      answered = answered_with c.args.grammar c.args.status c.in_default.not-Memory;
      told = λ g l t o. told_with c.args.grammar g c.args.status (Some c.args.grammar) l t o h;
      text = λ text p o. text_with c.args.grammar c.args.status (Some c.args.grammar) text h p o;
      line = λ g left tail l i t. told_line c.args.grammar g left tail c.args.status (Some c.args.grammar) l i t h;
    }
