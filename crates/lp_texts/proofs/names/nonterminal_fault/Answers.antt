use Rattle.std.proofs.Common.{arith, sym, ◌∙◌}
use Rattle.lp_tok.specs.Signs.{line_feed}
use Rattle.lp_texts.specs.Names.{stands}
use Rattle.lp_texts.proofs.FirstPlaces.{no_place}
use Rattle.lp_texts.proofs.NamePlaces.{stands_behind}
use Rattle.lp_texts.proofs.names.nonterminal_fault.Goals as goal

pub returns-then-stands : goal.returns-then-stands
returns-then-stands c = (sym c.stands.ensures ∙ c.if-stands.true, c.loop-i.invariant)

pub returns : goal.returns
returns c = no_place (stands line_feed c.args.text.now) c.loop-i.i c.loop-i.invariant (λ j far. stands_behind line_feed c.args.text.now j (omega arith))
