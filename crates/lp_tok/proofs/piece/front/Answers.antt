use Rattle.std.proofs.Common.{◌++◌, sym, ap, ◌∙◌, take, take-append-drop}
use Rattle.std.proofs.lemmas.Str.{IsUtf8-take}
use Rattle.lp_tok.proofs.Lefts.{between_front}
use Rattle.lp_tok.proofs.piece.front.Goals as goal

-- the text is its front and the end
pub returns-clause-text : goal.returns-clause-text
returns-clause-text c =
    let cut = c.place_in.ensures in
    let split = sym (take-append-drop c.place_in.result c.args.text.now) ∙ ap (λ x. take c.place_in.result c.args.text.now ++ x) cut.rest in
    c.split_at.ensures.front ∙ between_front _ _ _ split (IsUtf8-take _ _ c.utf8.text cut.boundary)

pub returns-clause-bytes : goal.returns-clause-bytes
returns-clause-bytes c =
    let cut = c.place_in.ensures in
    sym (take-append-drop c.place_in.result c.args.text.now)
    ∙ ap (λ x. take c.place_in.result c.args.text.now ++ x) cut.rest
    ∙ ap (λ x. x ++ c.args.rest.now) (sym c.split_at.ensures.front)
