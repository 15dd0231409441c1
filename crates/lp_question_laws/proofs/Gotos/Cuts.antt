-- Joined texts are cut where they were joined, where no piece holds the first byte of what joins them.
use Rattle.std.proofs.Common.{◌≡◌, ℕ, zero, suc, ◌+◌, ◌<◌, ◌≤◌, false, ◌&&◌, List, [], ◌∷◌, ◌++◌, length, take, drop, Some, None, refl, ap, sym, ◌∙◌, arith, append_assoc, append-nil, length-append}
use Rattle.std.specs.Prelude.{if◌then◌else◌, eqb}
use Rattle.std.specs.Option.{option_map}
use Rattle.std.specs.List.{join_by, flat_map}
use Rattle.std.proofs.lemmas.Bool.{ne_eqb}
use Rattle.std.proofs.Math.Seq.{take-append_seam, drop-append_seam, drop-append-add}
use Rattle.std.specs.Cmp.Lexicographic.{pointwise}
use Rattle.lp_maker.specs.Texts.{begins, first_place, around, cut_at, last_piece, pieces_within, pieces_around, pieces}
use Rattle.lp_maker.proofs.Cuts.{has_front}
use Rattle.lp_question_laws.proofs.Gotos.Digits.{Lacks}

pub lacks_front : (c : ℕ) (cs s : List ℕ) → Lacks c s → begins (c ∷ cs) s ≡ false
lacks_front c cs [] l = refl
lacks_front c cs (b ∷ bs) l = ap (λ t. t && pointwise eqb cs (take (length cs) bs)) (ne_eqb c b (λ e. l.0 (sym e)))

place_none : (c : ℕ) (cs s : List ℕ) → Lacks c s → first_place (c ∷ cs) s ≡ None
place_none c cs [] l = refl
place_none c cs (b ∷ bs) l =
    ap (λ t. if t then Some 0 else option_map suc (first_place (c ∷ cs) bs)) (lacks_front c cs (b ∷ bs) l)
    ∙ ap (option_map suc) (place_none c cs bs l.1)

pub cut_none : (c : ℕ) (cs s : List ℕ) → Lacks c s → cut_at (c ∷ cs) s ≡ None
cut_none c cs s l = ap (option_map (around (length (c ∷ cs)) s)) (place_none c cs s l)

lacks_over : (c : ℕ) (cs x y : List ℕ) (b : ℕ) → (b ≡ c → ⊥) → begins (c ∷ cs) (b ∷ x) ≡ false
lacks_over c cs x y b h = ap (λ t. t && pointwise eqb cs (take (length cs) x)) (ne_eqb c b (λ e. h (sym e)))

place_at : (c : ℕ) (cs a b : List ℕ) → Lacks c a → first_place (c ∷ cs) (a ++ ((c ∷ cs) ++ b)) ≡ Some (length a)
place_at c cs [] b l = ap (λ t. if t then Some 0 else option_map suc (first_place (c ∷ cs) (cs ++ b))) (has_front (c ∷ cs) ((c ∷ cs) ++ b) b refl)
place_at c cs (x ∷ a) b l =
    ap (λ t. if t then Some 0 else option_map suc (first_place (c ∷ cs) (a ++ ((c ∷ cs) ++ b)))) (lacks_over c cs (a ++ ((c ∷ cs) ++ b)) b x l.0)
    ∙ ap (option_map suc) (place_at c cs a b l.1)

pub cut_joined : (c : ℕ) (cs a b : List ℕ) → Lacks c a → cut_at (c ∷ cs) (a ++ ((c ∷ cs) ++ b)) ≡ Some (a, b)
cut_joined c cs a b l =
    ap (option_map (around (length (c ∷ cs)) (a ++ ((c ∷ cs) ++ b)))) (place_at c cs a b l)
    ∙ ap (λ t. Some (t, drop (length a + length (c ∷ cs)) (a ++ ((c ∷ cs) ++ b)))) (take-append_seam a ((c ∷ cs) ++ b))
    ∙ ap (λ t. Some (a, t)) (drop-append-add a ((c ∷ cs) ++ b) (length (c ∷ cs)) ∙ drop-append_seam (c ∷ cs) b)

-- pieces that can be joined so: none holds the byte, and the last one isn't empty
abbrev pub Apart : ℕ → List ℕ → List (List ℕ) → Type 0
Apart c t [] = Lacks c t × (0 < length t)
Apart c t (u ∷ us) = Lacks c t × Apart c u us

abbrev pub joined : List ℕ → List (List ℕ) → List ℕ
joined separator texts = join_by (λ text. text) separator texts

last_whole : (t : List ℕ) → 0 < length t → last_piece t ≡ t ∷ []
last_whole [] h = absurd (omega arith)
last_whole (b ∷ bs) h = refl

-- one piece, and what follows it
unjoined : (c : ℕ) (cs t u : List ℕ) (us : List (List ℕ)) → joined (c ∷ cs) (t ∷ u ∷ us) ≡ t ++ ((c ∷ cs) ++ joined (c ∷ cs) (u ∷ us))
unjoined c cs t u us = ap (λ r. t ++ r) (append_assoc (c ∷ cs) u (flat_map (λ y. (c ∷ cs) ++ y) us))

pieces_of_joined : (n c : ℕ) (cs t : List ℕ) (ts : List (List ℕ)) → length ts ≤ n → Apart c t ts → pieces_within n (c ∷ cs) (joined (c ∷ cs) (t ∷ ts)) ≡ t ∷ ts
pieces_of_joined zero c cs t [] h a = ap (λ s. last_piece s) (append-nil t) ∙ last_whole t a.1
pieces_of_joined (suc n) c cs t [] h a =
    ap (λ s. pieces_within (suc n) (c ∷ cs) s) (append-nil t)
    ∙ ap (pieces_around (λ t. pieces_within n (c ∷ cs) t) t) (cut_none c cs t a.0) ∙ last_whole t a.1
pieces_of_joined zero c cs t (u ∷ us) h a = absurd (omega arith)
pieces_of_joined (suc n) c cs t (u ∷ us) h a =
    let r = joined (c ∷ cs) (u ∷ us) in
    ap (λ s. pieces_within (suc n) (c ∷ cs) s) (unjoined c cs t u us)
    ∙ ap (pieces_around (λ t. pieces_within n (c ∷ cs) t) (t ++ ((c ∷ cs) ++ r))) (cut_joined c cs t r a.0)
    ∙ ap (λ ps. t ∷ ps) (pieces_of_joined n c cs u us (omega arith) a.1)

joined_long : (c : ℕ) (cs t : List ℕ) (ts : List (List ℕ)) → length ts ≤ length (joined (c ∷ cs) (t ∷ ts))
joined_long c cs t [] = omega arith
joined_long c cs t (u ∷ us) =
    let rest : length us ≤ length (joined (c ∷ cs) (u ∷ us)) = joined_long c cs u us in
    let whole : length (joined (c ∷ cs) (t ∷ u ∷ us)) ≡ length t + length ((c ∷ cs) ++ joined (c ∷ cs) (u ∷ us)) = ap length (unjoined c cs t u us) ∙ length-append t ((c ∷ cs) ++ joined (c ∷ cs) (u ∷ us)) in
    let inner : length (cs ++ joined (c ∷ cs) (u ∷ us)) ≡ length cs + length (joined (c ∷ cs) (u ∷ us)) = length-append cs (joined (c ∷ cs) (u ∷ us)) in
    omega arith

-- the pieces of joined texts are these texts
pub pieces_joined : (c : ℕ) (cs t : List ℕ) (ts : List (List ℕ)) → Apart c t ts → pieces (c ∷ cs) (joined (c ∷ cs) (t ∷ ts)) ≡ t ∷ ts
pieces_joined c cs t ts a = pieces_of_joined (length (joined (c ∷ cs) (t ∷ ts))) c cs t ts (joined_long c cs t ts) a
