use Rattle.std.proofs.Common.{◌≡◌, ◌++◌, [], ◌∷◌, ℕ, List, map, ap, ◌∙◌}
use Rattle.std.proofs.lemmas.List.{map-append}
use Rattle.std.specs.Borrow.{Bor}
use Rattle.lp_maker.proofs.Pieces.{piece_last, piece_more}
use Rattle.lp_maker.proofs.texts.push_piece.Goals as goal

pub returns-in-None-clause-pieces : goal.returns-in-None-clause-pieces
returns-in-None-clause-pieces c =
    piece_last c.args.left c.args.separator.now c.args.rest.now (map (λ (x : Bor (List ℕ)). x.now) c.args.pieces.now.items) c.requires c.in-None.ensures

pub returns-in_ok-push-in-Some-clause-pieces : goal.returns-in_ok-push-in-Some-clause-pieces
returns-in_ok-push-in-Some-clause-pieces c =
    let shown : Bor (List ℕ) → List ℕ = λ x. x.now in
    let old = c.args.pieces.now.items in
    let cut = c.in-Some.cut in
    let new : map shown c.push.new.self.items ≡ map shown old ++ cut.0.now ∷ [] = ap (map shown) c.in_ok-push-in-Some.ensures.items ∙ map-append shown old (cut.0 ∷ []) in
    piece_more c.args.left c.args.separator.now c.args.rest.now cut.0.now cut.1.now (map shown old) (map shown c.push.new.self.items) c.requires c.in-Some.ensures new
