-- The variants so far, and those to come.
use Rattle.std.proofs.Common.{◌≡◌, ◌++◌, map}
use Rattle.lp_build.specs.Ascent.{return_row}
use Rattle.lp_repr.specs.Numbering.{nonterminals_of}
use Rattle.lp_ascent.specs.AnswerLines.{answer_row}
use Rattle.lp_ascent.proofs.answers.answer_variants.Given as goal

abbrev pub invariant-loop-name : goal.invariant-loop-name
invariant-loop-name l =
    map return_row l.variants.items ++ map (answer_row l.shared.grammar.now) l.name-iterator
    ≡ map (answer_row l.shared.grammar.now) (nonterminals_of l.shared.grammar.now)
