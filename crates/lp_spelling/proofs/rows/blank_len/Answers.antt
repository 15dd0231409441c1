use Rattle.std.proofs.Common.{ap, ◌∙◌, subst}
use Rattle.std.specs.Str.{IsCharBoundary}
use Rattle.std.proofs.lemmas.Str.{IsCharBoundary-from_rest}
use Rattle.lp_spelling.specs.TableReading.{blank_len}
use Rattle.lp_spelling.proofs.rows.blank_len.Goals as goal

pub returns : goal.returns
returns c = record {
  value = c.first_blank.ensures.value ∙ ap blank_len c.split_at.ensures.back;
  next = IsCharBoundary-from_rest c.args.text.now c.args.at c.first_blank.result c.requires.0
      (subst (λ t. IsCharBoundary t c.first_blank.result) c.split_at.ensures.back c.first_blank.ensures.cut);
}
