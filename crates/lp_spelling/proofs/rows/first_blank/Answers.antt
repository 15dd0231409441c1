use Rattle.std.proofs.Common.{sym, ◌∙◌, rules}
use Rattle.std.proofs.lemmas.Str.{IsCharBoundary-start}
use Rattle.lp_spelling.proofs.Tables.{blank_none, blank_some, char_cut}
use Rattle.lp_spelling.proofs.rows.first_blank.Goals as goal

pub returns-in-None : goal.returns-in-None
returns-in-None c = record {
  value = sym (blank_none c.args.text.now (search rules));
  cut = IsCharBoundary-start c.args.text.now c.utf8.text;
}

pub returns-in-Some : goal.returns-in-Some
returns-in-Some c =
    let front = sym c.chars-chars.ensures.rest ∙ c.in-Some.ensures.steps.0 in
    record {
      value = c.char_blank.ensures ∙ sym (blank_some c.args.text.now _ c.in-Some.c c.utf8.text front);
      cut = char_cut c.args.text.now _ c.in-Some.c c.char_blank.result c.utf8.text front c.char_blank.ensures;
    }
