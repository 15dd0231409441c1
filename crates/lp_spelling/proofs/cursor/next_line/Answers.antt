use Rattle.std.proofs.Common.{◌+◌, arith, drop, refl, ap, sym, ◌∙◌, subst}
use Rattle.std.specs.Str.{IsCharBoundary}
use Rattle.std.proofs.lemmas.List.{drop_all}
use Rattle.std.proofs.lemmas.Str.{IsCharBoundary-end}
use Rattle.lp_spelling.proofs.Counting.{behind_at, next_boundary}
use Rattle.lp_spelling.proofs.cursor.next_line.Goals as goal

pub returns-then-end-text : goal.returns-then-end-text
returns-then-end-text c =
    let text = c.args.text.now in
    let from = c.args.from in
    let e = c.line_end-end.ensures.place in
    record {
      rest = ap (λ i. drop (i + 1) text) e ∙ sym (behind_at text _ from refl);
      cut = subst (λ i. IsCharBoundary text (i + 1)) (sym e) (next_boundary text from c.utf8.text (omega (arith, e)));
      after = omega (arith, e);
    }

pub returns-else-end-text : goal.returns-else-end-text
returns-else-end-text c =
    let text = c.args.text.now in
    let from = c.args.from in
    let e = c.line_end-end.ensures.place in
    record {
      rest = drop_all _ text (omega arith) ∙ sym (behind_at text _ from refl ∙ drop_all _ text (omega (arith, e)));
      cut = IsCharBoundary-end text;
      after = c.requires;
    }
