use Rattle.std.proofs.Common.{ap, sym, ◌∙◌}
use Rattle.std.specs.Str.{chars}
use Rattle.std.proofs.lemmas.Str.{encodes-chars}
use Rattle.lp_tok.specs.Scans.{from_char}
use Rattle.lp_tok.proofs.Unescaped.{stands_itself}
use Rattle.lp_tok.proofs.escapes.apply_string_escapes.Goals as goal

-- no `\` is there, so the text stands for itself
pub returns-then-is_done-clause-value : goal.returns-then-is_done-clause-value
returns-then-is_done-clause-value c =
    let none = ap (from_char 92) (sym c.whole-rest.ensures.value) ∙ sym c.from_char.ensures.value ∙ c.is_done.ensures.0 c.if-is_done.true in
    (chars c.args.code.now, stands_itself _ none, sym (encodes-chars _ c.utf8.code))
