use Rattle.std.proofs.Common.{subst}
use Rattle.lp_program.specs.Choosing.{IsRefused}
use Rattle.lp_program.specs.declared.read.reader.ReadFault.TheVariants.{NoForm}
use Rattle.lp_prepared.proofs.generated.read_back.Goals as goal

pub unreachable-requires : goal.unreachable-requires
unreachable-requires c =
    let line = c.in-Err-NoForm.field-0-0 in
    let refused : IsRefused c.args.text.now (NoForm line) = subst (IsRefused c.args.text.now) c.in-Err-NoForm.field-0-is c.in-Err-NoForm.ensures.refused in
    c.requires line refused
