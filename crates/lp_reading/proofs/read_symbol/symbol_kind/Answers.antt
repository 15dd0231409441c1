use Rattle.std.proofs.Common.{ap, refl, sym}
use Rattle.lp_reading.specs.Symbols.{symbol_kind}
use Rattle.lp_syntax.specs.declared.plain.PlainKind.TheVariants as plain
use Rattle.lp_types.proofs.Steps.{answers_as, no_memory, read_then}
use Rattle.lp_types.specs.Left.{left}
use Rattle.lp_types.specs.Reading.{Read}
use Rattle.lp_reading.proofs.read_symbol.symbol_kind.Goals as goal

pub returns-in_err-name-in-Some : goal.returns-in_err-name-in-Some
returns-in_err-name-in-Some c = no_memory _ _ _ _ c.from_residual.ensures.1

pub returns-in_ok-name-in-Some : goal.returns-in_ok-name-in-Some
unfolding symbol_kind
returns-in_ok-name-in-Some c = read_then _ _ _ _ _ c.in-Some.ensures (ap (λ name. Read (plain.Name name) (left c.takes.new.self)) (sym c.in_ok-name-in-Some.ensures))

pub returns-in-None : goal.returns-in-None
unfolding symbol_kind
returns-in-None c = answers_as _ _ _ _ _ c.literal_or_sign.ensures (read_then _ _ _ _ _ c.in-None.ensures refl)
