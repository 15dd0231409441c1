use Rattle.std.proofs.Common.{◌∙◌, length, sym, ap, Some, None}
use Rattle.lp_repr.specs.Numbering.{terminals_of, nonterminals_of}
use Rattle.lp_valid.specs.Places.{EachPasses}
use Rattle.lp_valid.specs.TerminalRules.{terminal_has_type, nonterminal_has_type}
use Rattle.lp_valid.proofs.FirstFailing.{first_from_position, fails_within, first_of_two, after_those}
use Rattle.lp_valid.proofs.grammars.failing_types.Goals as goal

pub returns-in-Some : goal.returns-in-Some
returns-in-Some c =
    let g = c.args.grammar.now in
    let first = first_from_position (terminal_has_type g) (terminals_of g) (Some c.in-Some.place) c.in-Some.ensures in
    first_of_two (length (terminals_of g)) (EachPasses (terminal_has_type g) (terminals_of g)) (EachPasses (nonterminal_has_type g) (nonterminals_of g)) c.in-Some.place (fails_within (terminal_has_type g) (terminals_of g) c.in-Some.place first.0) first

pub returns : goal.returns
returns c =
    let g = c.args.grammar.now in
    after_those _ (length (terminals_of g)) (EachPasses (terminal_has_type g) (terminals_of g)) (EachPasses (nonterminal_has_type g) (nonterminals_of g)) _ c.after.result (ap length c.as_slice-before.ensures)
    (first_from_position (terminal_has_type g) (terminals_of g) None (sym c.in_default.is ∙ c.failing_terminal_type.ensures))
    (first_from_position (nonterminal_has_type g) (nonterminals_of g) c.failing_nonterminal_type.result c.failing_nonterminal_type.ensures)
    c.after.ensures
