-- The pieces of a text, one after another.
use Rattle.std.proofs.Common.{◌≡◌, ℕ, zero, suc, ◌-◌, ◌<◌, List, [], ◌∷◌, ◌++◌, Option, Some, None, ap, ◌∙◌, append_assoc, arith}
use Rattle.lp_maker.specs.Texts.{cut_at, last_piece, pieces_within, pieces_around}

-- where there is no cut, the rest is the last piece
pub piece_last : (n : ℕ) (p s : List ℕ) (done : List (List ℕ)) → 0 < n → None ≡ cut_at p s → done ++ pieces_within 0 p s ≡ done ++ pieces_within n p s
piece_last zero p s done pos e = absurd (omega arith)
piece_last (suc n) p s done pos e =
    ap (λ (o : Option (List ℕ × List ℕ)). done ++ pieces_around (λ t. pieces_within n p t) s o) e

-- a piece more
pub piece_more : (n : ℕ) (p s a b : List ℕ) (old new : List (List ℕ)) → 0 < n → Some (a, b) ≡ cut_at p s → new ≡ old ++ a ∷ [] → new ++ pieces_within (n - 1) p b ≡ old ++ pieces_within n p s
piece_more zero p s a b old new pos e h = absurd (omega arith)
piece_more (suc n) p s a b old new pos e h =
    let k : suc n - 1 ≡ n = omega arith in
    ap (λ m. new ++ pieces_within m p b) k
    ∙ ap (λ (xs : List (List ℕ)). xs ++ pieces_within n p b) h
    ∙ append_assoc old (a ∷ []) (pieces_within n p b)
    ∙ ap (λ (o : Option (List ℕ × List ℕ)). old ++ pieces_around (λ t. pieces_within n p t) s o) e

-- no cut more
pub piece_end : (n : ℕ) (p s : List ℕ) (done all : List (List ℕ)) → n ≡ 0 → done ++ pieces_within n p s ≡ all → done ++ last_piece s ≡ all
piece_end zero p s done all e h = h
piece_end (suc n) p s done all e h = absurd (omega arith)
