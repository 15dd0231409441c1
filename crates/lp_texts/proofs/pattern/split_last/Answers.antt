use Rattle.std.proofs.Common.{◌++◌, encode_utf8, sym, ap, ◌∙◌}
use Rattle.lp_texts.proofs.Words.{last_char}
use Rattle.lp_texts.proofs.pattern.split_last.Goals as goal

pub returns-in-Some : goal.returns-in-Some
returns-in-Some c =
    last_char c.args.text.now c.as_str.result.now c.in-Some.last c.utf8.text c.as_str.utf8
    (sym c.chars-chars.ensures.rest ∙ c.in-Some.ensures.steps ∙ ap (λ r. r ++ encode_utf8 c.in-Some.last) (sym c.as_str.ensures))
