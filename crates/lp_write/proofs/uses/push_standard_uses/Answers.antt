use Rattle.lp_write.proofs.Texts.{three-pairs}
use Rattle.lp_write.proofs.uses.push_standard_uses.Goals as goal

pub returns : goal.returns
returns c =
    rw (c.in_ok-util_use.ensures, c.in_ok-machine_use.ensures, c.in_ok-alloc_use.ensures) at
    (three-pairs _ _ _ _ _ _ _ _ _ _ c.in_ok-push_use.ensures c.in_ok-push_use-2.ensures c.in_ok-push_use-3.ensures)
