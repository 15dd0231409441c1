-- What is read of the lines, seen through their bytes, by the grammar's own vocabulary.
use Rattle.std.proofs.Common.{◌≡◌, List, map, ap, subst, ◌∙◌, Some, IfOk, IfErr, Option}
use Rattle.lp_lines.specs.declared.token_line.TokenLine.{TokenLine}
use Rattle.lp_lines.specs.Scan.{all_some}
use Rattle.lp_lines.specs.TokenLines.{line_of, lines_of, RefusesLine}
use Rattle.lp_lines.specs.Vocabularies.{vocabulary_of}
use Rattle.lp_lines.proofs.Each.{map_seen}
use Rattle.lp_lines.proofs.token_line.read_token_lines.Goals as goal

pub returns-clause-read : goal.returns-clause-read
returns-clause-read c =
    let e = map_seen (line_of c.in_ok-vocabulary.vocabulary) (line_of (vocabulary_of c.args.grammar.now)) (λ line. line.now) c.as_slice.result.now (lines_of c.args.tail.now) (ap line_of c.in_ok-vocabulary.ensures) (ap (map (λ line. line.now)) c.as_slice.ensures.value ∙ c.in_ok-lines.ensures) in
    let P : List (Option TokenLine) → Type 0 = λ read. IfOk c.lines-2.result (λ list. all_some read ≡ Some list.items) in
    subst P e c.lines-2.ensures.read

pub returns-clause-refused : goal.returns-clause-refused
returns-clause-refused c =
    let e = map_seen (line_of c.in_ok-vocabulary.vocabulary) (line_of (vocabulary_of c.args.grammar.now)) (λ line. line.now) c.as_slice.result.now (lines_of c.args.tail.now) (ap line_of c.in_ok-vocabulary.ensures) (ap (map (λ line. line.now)) c.as_slice.ensures.value ∙ c.in_ok-lines.ensures) in
    let P : List (Option TokenLine) → Type 0 = λ read. IfErr c.lines-2.result (RefusesLine read) in
    subst P e c.lines-2.ensures.refused
