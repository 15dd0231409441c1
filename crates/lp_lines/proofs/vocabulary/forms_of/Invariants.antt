use Rattle.std.proofs.Common.{◌≡◌, map, take}
use Rattle.lp_repr.specs.Numbering.{terminals_of}
use Rattle.lp_lines.specs.Vocabularies.{form_in}
use Rattle.lp_lines.proofs.vocabulary.forms_of.Given as goal

-- the forms so far
abbrev pub invariant-loop-terminal : goal.invariant-loop-terminal
invariant-loop-terminal l =
    l.forms.items ≡ map (form_in l.grammar) (take l.terminal-index (terminals_of l.grammar))
