use Rattle.std.proofs.Common.{arith, sym, ◌∙◌}
use Rattle.lp_texts.specs.Names.{is_wrong_terminal}
use Rattle.lp_texts.proofs.FirstPlaces.{no_place}
use Rattle.lp_texts.proofs.NamePlaces.{terminal_behind}
use Rattle.lp_texts.proofs.names.terminal_fault.Goals as goal

pub returns-then-is_wrong_terminal : goal.returns-then-is_wrong_terminal
returns-then-is_wrong_terminal c = (sym c.is_wrong_terminal.ensures ∙ c.if-is_wrong_terminal.true, c.loop-i.invariant)

pub returns : goal.returns
returns c = no_place (is_wrong_terminal c.args.text.now) c.loop-i.i c.loop-i.invariant (λ j far. terminal_behind c.args.text.now j (omega arith))
