use Rattle.std.proofs.Common.{Some, ap, refl, sym, ◌∙◌}
use Rattle.lp_reading.specs.Heads.{next_use}
use Rattle.lp_types.proofs.Steps.{no_memory, part_fails, read_then}
use Rattle.lp_types.specs.Left.{left}
use Rattle.lp_types.specs.Reading.{Read}
use Rattle.lp_reading.proofs.read_head.next_use.Goals as goal

pub returns-in-None : goal.returns-in-None
unfolding next_use
returns-in-None c = read_then _ _ _ _ _ c.in-None.ensures refl

pub returns-in_err-expect-in-Some : goal.returns-in_err-expect-in-Some
unfolding next_use
returns-in_err-expect-in-Some c = part_fails _ _ _ _ _ _ _ c.in_err-expect-in-Some.ensures c.from_residual.ensures.1 (read_then _ _ _ _ _ c.in-Some.ensures refl)

pub returns-in_err-copy-in-Some : goal.returns-in_err-copy-in-Some
returns-in_err-copy-in-Some c = no_memory _ _ _ _ c.from_residual-in_err-copy-in-Some.ensures.1

pub returns-in_ok-copy-in-Some : goal.returns-in_ok-copy-in-Some
unfolding next_use
returns-in_ok-copy-in-Some c = read_then _ _ _ _ _ c.in-Some.ensures (read_then _ _ _ _ _ c.in_ok-expect-in-Some.ensures (ap (λ text. Read (Some text) (left c.expect.new.self)) (sym (c.in_ok-copy-in-Some.ensures ∙ c.trim.ensures.trim))))
