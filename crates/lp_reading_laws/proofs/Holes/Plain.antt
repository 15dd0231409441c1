-- Texts of plain bytes: no quotes, brackets, `;`, `/` or line ends. They are texts of one line.
use Rattle.std.proofs.Common.{◌≡◌, ℕ, ◌==◌, zero, suc, Bool, true, false, not, ◌&&◌, List, [], ◌∷◌, drop, Some, refl, sym, ap, ◌∙◌, subst, ltb}
use Rattle.std.specs.Prelude.{slice_get}
use Rattle.std.specs.List.{list_all, list_any}
use Rattle.std.specs.Char.{is_whitespace}
use Rattle.std.specs.Str.{chars}
use Rattle.std.proofs.lemmas.Bool.{and_parts, and_left, or_from, cond-false, ne_eqb, both_ways}
use Rattle.lp_texts.specs.Quotes.{Piece, Single, Unended, piece}
use Rattle.lp_texts.specs.Brackets.{Onward, step_over, open_after, Leads, leads_none, leads_one, opens, closes}
use Rattle.lp_texts.specs.OneLine.{IsOneLine, IsWrong, begins, ends_line, is_wrong}
use Rattle.lp_texts.specs.OneLine.IsWrong.{blank, line_end, outside, open_quote, open_bracket}

abbrev pub is_plain : ℕ → Bool
is_plain b = ltb b 128 && not (list_any (λ c. b == c) (10 ∷ 13 ∷ 34 ∷ 39 ∷ 40 ∷ 41 ∷ 47 ∷ 59 ∷ 91 ∷ 93 ∷ 123 ∷ 125 ∷ []))

not_it : (c : ℕ) → is_plain c ≡ false → (b : ℕ) → is_plain b ≡ true → (b == c) ≡ false
not_it c n b h = ne_eqb b c (λ e. both_ways (is_plain c) n (sym (ap is_plain e) ∙ h))

closes_none : (b : ℕ) → is_plain b ≡ true → closes b ≡ false
closes_none b h = or_from (b == 41) _ (not_it 41 refl b h) (or_from (b == 93) _ (not_it 93 refl b h) (not_it 125 refl b h))

opens_none : (b : ℕ) → is_plain b ≡ true → opens b ≡ false
opens_none b h = or_from (b == 40) _ (not_it 40 refl b h) (or_from (b == 91) _ (not_it 91 refl b h) (not_it 123 refl b h))

piece_plain : (c : ℕ) (cs : List ℕ) → is_plain c ≡ true → piece (c ∷ cs) ≡ Single c cs
piece_plain c cs h = cond-false (c == 34) _ _ (not_it 34 refl c h) ∙ cond-false (c == 39) _ _ (not_it 39 refl c h)

open_plain : (c : ℕ) → is_plain c ≡ true → open_after [] c ≡ []
open_plain c h = cond-false (opens c) _ _ (opens_none c h) ∙ cond-false (closes c) _ _ (closes_none c h)

step_plain : (text before mid within : List ℕ) → list_all is_plain text ≡ true → before ≡ [] → step_over before (piece text) ≡ Onward mid within → (list_all is_plain mid ≡ true) × (within ≡ [])
step_plain [] before mid within h e f = absurd cc
step_plain (c ∷ cs) before mid within h e f =
    let p = and_parts (is_plain c) (list_all is_plain cs) h in
    let at : step_over before (piece (c ∷ cs)) ≡ Onward cs []
    = ap (λ (b : List ℕ). step_over b (piece (c ∷ cs))) e ∙ ap (λ (x : Piece). step_over [] x) (piece_plain c cs p.0) ∙ ap (λ (x : List ℕ). Onward cs x) (open_plain c p.0) in
    let same : Onward cs [] ≡ Onward mid within = sym at ∙ f in
    let m : cs ≡ mid = cc in
    let w : [] ≡ within = cc in
    (subst (λ (x : List ℕ). list_all is_plain x ≡ true) m p.1, sym w)

leads_plain : (text before rest brackets : List ℕ) → Leads text before rest brackets → list_all is_plain text ≡ true → before ≡ [] → (list_all is_plain rest ≡ true) × (brackets ≡ [])
leads_plain _ _ _ _ (leads_none text before) h e = (h, e)
leads_plain _ _ _ _ (leads_one text before mid within rest brackets first more) h e =
    let q = step_plain text before mid within h e first in
    leads_plain mid within rest brackets more q.0 q.1

plain_at : (t : List ℕ) (i c : ℕ) → list_all is_plain t ≡ true → slice_get t i ≡ Some c → is_plain c ≡ true
plain_at [] i c h e = absurd cc
plain_at (b ∷ t) zero c h e =
    let same : b ≡ c = cc in
    ap is_plain (sym same) ∙ (and_parts (is_plain b) (list_all is_plain t) h).0
plain_at (b ∷ t) (suc i) c h e = plain_at t i c (and_parts (is_plain b) (list_all is_plain t) h).1 e

plain_drop : (i : ℕ) (t : List ℕ) → list_all is_plain t ≡ true → list_all is_plain (drop i t) ≡ true
plain_drop zero t h = h
plain_drop (suc i) [] h = refl
plain_drop (suc i) (b ∷ t) h = plain_drop i t (and_parts (is_plain b) (list_all is_plain t) h).1

not_wrong : (brackets : List ℕ) (c : ℕ) (cs : List ℕ) → is_plain c ≡ true → is_wrong false brackets c cs ≡ false
not_wrong brackets c cs h =
    or_from _ _ (and_left (c == 47) _ (not_it 47 refl c h))
    (or_from _ _ (and_left _ _ (or_from (c == 59) _ (not_it 59 refl c h) refl)) (and_left (closes c) _ (closes_none c h)))

unended_not : (rest : List ℕ) → list_all is_plain rest ≡ true → piece rest ≡ Unended → ⊥
unended_not [] h u = cc
unended_not (c ∷ cs) h u =
    let at : Single c cs ≡ Unended = sym (piece_plain c cs (and_parts (is_plain c) (list_all is_plain cs) h).0) ∙ u in
    cc

pub one_line : (t : List ℕ) → list_all is_plain t ≡ true → begins is_whitespace (chars t) ≡ false → IsOneLine t
one_line t h s i w = wrong_not t h s i w
  where
    wrong_not : (t : List ℕ) → list_all is_plain t ≡ true → begins is_whitespace (chars t) ≡ false → (i : ℕ) → IsWrong false t i → ⊥
    wrong_not t h s i (blank e y) = both_ways (begins is_whitespace (chars t)) s y
    wrong_not t h s i (line_end c e y) =
        let p = plain_at t i c h e in
        both_ways (ends_line c) (or_from (c == 10) _ (not_it 10 refl c p) (not_it 13 refl c p)) y
    wrong_not t h s i (outside c cs brackets e l y) =
        let q : list_all is_plain (c ∷ cs) ≡ true = subst (λ (x : List ℕ). list_all is_plain x ≡ true) e (plain_drop i t h) in
        both_ways (is_wrong false brackets c cs) (not_wrong brackets c cs (and_parts (is_plain c) (list_all is_plain cs) q).0) y
    wrong_not t h s i (open_quote rest brackets e l u) = unended_not rest (leads_plain t [] rest brackets l h refl).0 u
    wrong_not t h s i (open_bracket c brackets e l) = let none : c ∷ brackets ≡ [] = (leads_plain t [] [] (c ∷ brackets) l h refl).1 in cc
