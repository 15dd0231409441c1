-- Texts that the check of texts lets pass may stand in their holes.
use Rattle.std.proofs.Common.{◌≡◌, ℕ, ◌+◌, ◌-◌, ◌==◌, suc, Bool, true, false, not, ◌&&◌, List, [], ◌∷◌, ◌++◌, length, drop, codes, refl, sym, ap, ◌∙◌, subst, arith, eqb, ltb, eq-eqb, length-append}
use Rattle.std.specs.List.{starts_with, ends_with}
use Rattle.std.specs.Str.{bytes_eq}
use Rattle.std.proofs.lemmas.Bool.{and_from, or_from, or_left, or_right, cond-false, eqb-true, ne_eqb, le-ltb, not_from_false, false_from_ne_true, both_ways}
use Rattle.lp_tok.specs.Signs.{line_feed, bang, hash, left_bracket, right_bracket}
use Rattle.lp_texts.specs.Names.{stands, differs_from_front, is_wrong_last}
use Rattle.lp_texts.specs.OneLine.{begins}
use Rattle.lp_spelling.specs.HoleEnds.{first_at, place}
use Rattle.lp_spelling.specs.Fillings.{holds, has_shape, line_part, Fits}
use Rattle.lp_reading_laws.specs.Printing.Laws.{LinesFill, AttributesFill, TerminalsFill}

pub lines_fill : LinesFill
unfolding Fits has_shape line_part
lines_fill prefix text u h = ((u, (refl, h)), (u, (refl, h)))

-- a text that holds no other
no_place : (test : List ℕ → Bool) (t : List ℕ) → ((i : ℕ) → test (drop i t) ≡ true → ⊥) → first_at test t ≡ length t
unfolding first_at
no_place test [] f = refl
no_place test (b ∷ t) f = cond-false (test (b ∷ t)) _ _ (false_from_ne_true (test (b ∷ t)) (f 0)) ∙ ap suc (no_place test t (λ i. f (suc i)))

holds_not : (b : ℕ) (s t : List ℕ) → ((i : ℕ) → starts_with eqb (drop i t) (b ∷ s) ≡ true → ⊥) → holds (b ∷ s) t ≡ false
unfolding holds
holds_not b s t f =
    let none : place (b ∷ s) t ≡ length t = no_place (λ x. starts_with eqb x (b ∷ s)) t f in
    or_from (length (b ∷ s) == 0) (ltb (place (b ∷ s) t) (length t)) (ne_eqb (length (b ∷ s)) 0 (λ e. omega (arith, e))) (le-ltb (place (b ∷ s) t) (length t) (omega (arith, none)))

starts_one : (b : ℕ) (t : List ℕ) → starts_with eqb t (b ∷ []) ≡ true → begins (λ c. c == b) t ≡ true
starts_one b [] h = absurd (both_ways false refl h)
starts_one b (c ∷ t) h = let q = Rattle.std.proofs.lemmas.Bool.and_parts (eqb b c) true h in eq-eqb c b (sym (eqb-true b c q.0))

no_feed : (t : List ℕ) → ((i : ℕ) → stands line_feed t i ≡ true → ⊥) → holds (codes "\n") t ≡ false
no_feed t f = holds_not 10 [] t (λ i h. f i (starts_one 10 (drop i t) h))

pub terminals_fill : TerminalsFill
unfolding Fits has_shape line_part
terminals_fill prefix text u h =
    let feeds : holds (codes "\n") text ≡ false = no_feed text (λ i y. h i (or_left (stands line_feed text i) _ y)) in
    let marks : holds (codes "\"###") text ≡ false = holds_not 34 (codes "###") text (λ i y. h i (or_right (stands line_feed text i) _ y)) in
    (u, (and_from (not (holds (codes "\n") text)) _ (not_from_false (holds (codes "\n") text) feeds) (not_from_false (holds (codes "\"###") text) marks), tt))

-- attributes
record Fronted (text : List ℕ) : Type 0 where
  rest : List ℕ
  is : text ≡ codes "#![" ++ rest

standing : (b i : ℕ) (text : List ℕ) → (not (stands b text i) ≡ true → ⊥) → stands b text i ≡ true
standing b i text f = Rattle.std.proofs.lemmas.Bool.true_from_ne_false (stands b text i) (λ n. f (not_from_false (stands b text i) n))

fronted : (text : List ℕ) → stands hash text 0 ≡ true → stands bang text 1 ≡ true → stands left_bracket text 2 ≡ true → Fronted text
fronted [] a b c = absurd (both_ways false refl a)
fronted (x ∷ []) a b c = absurd (both_ways false refl b)
fronted (x ∷ y ∷ []) a b c = absurd (both_ways false refl c)
fronted (x ∷ y ∷ z ∷ t) a b c = record {
  rest = t;
  is = ap (λ n. n ∷ y ∷ z ∷ t) (eqb-true x hash a) ∙ ap (λ n. hash ∷ n ∷ z ∷ t) (eqb-true y bang b) ∙ ap (λ n. hash ∷ bang ∷ n ∷ t) (eqb-true z left_bracket c);
}

last_one : (b : ℕ) (text : List ℕ) → stands b text (length text - 1) ≡ true → ends_with eqb text (b ∷ []) ≡ true
last_one b [] h = absurd (both_ways false refl h)
last_one b (x ∷ text) h = ap (λ t. bytes_eq (b ∷ []) t) (one_left text x) ∙ only b (last_of text x) (ap (begins (λ c. c == b)) (sym (one_left text x)) ∙ h)
  where
    last_of : List ℕ → ℕ → ℕ
    last_of [] y = y
    last_of (z ∷ zs) y = last_of zs z

    one_left : (t : List ℕ) (y : ℕ) → drop (length (y ∷ t) - 1) (y ∷ t) ≡ last_of t y ∷ []
    one_left [] y = refl
    one_left (z ∷ t) y =
        let more : length (y ∷ z ∷ t) - 1 ≡ suc (length (z ∷ t) - 1) = omega arith in
        ap (λ n. drop n (y ∷ z ∷ t)) more ∙ one_left t z

    only : (c d : ℕ) → begins (λ e. e == c) (d ∷ []) ≡ true → bytes_eq (c ∷ []) (d ∷ []) ≡ true
    only c d k = and_from (eqb c d) true (eq-eqb c d (sym (eqb-true d c k))) refl

pub attributes_fill : AttributesFill
unfolding Fits has_shape line_part
attributes_fill prefix text u h =
    let first : stands hash text 0 ≡ true = standing hash 0 text (λ y. h 0 (or_left (differs_from_front text 0) _ (or_left ((0 == 0) && not (stands hash text 0)) _ y))) in
    let second : stands bang text 1 ≡ true = standing bang 1 text (λ y.
    h 1 (or_left (differs_from_front text 1) _ (or_right ((1 == 0) && not (stands hash text 1)) _ (or_left ((1 == 1) && not (stands bang text 1)) _ y)))) in
    let third : stands left_bracket text 2 ≡ true = standing left_bracket 2 text (λ y.
    h 2 (or_left (differs_from_front text 2) _ (or_right ((2 == 0) && not (stands hash text 2)) _ (or_right ((2 == 1) && not (stands bang text 2)) ((2 == 2) && not (stands left_bracket text 2)) y)))) in
    let front = fronted text first second third in
    let spelled : length text ≡ length (codes "#![" ++ front.rest) = ap length front.is in
    let size = length-append (codes "#![") front.rest in
    let starts : starts_with eqb text (codes "#![") ≡ true = subst (λ x. starts_with eqb x (codes "#![") ≡ true) (sym front.is) refl in
    let last : ℕ = length text - 1 in
    let there : last + 1 ≡ length text = omega (arith, spelled, size) in
    let ends : ends_with eqb text (codes "]") ≡ true = last_one right_bracket text (standing right_bracket last text (λ y.
    h last (or_right (differs_from_front text last) _ (or_right (stands line_feed text last) (is_wrong_last text last && starts_with eqb text (codes "#!["))
    (and_from (is_wrong_last text last) _ (and_from (last + 1 == length text) _ (eq-eqb (last + 1) (length text) there) y) starts))))) in
    let feeds : holds (codes "\n") text ≡ false = no_feed text (λ i y. h i (or_right (differs_from_front text i) _ (or_left (stands line_feed text i) _ y))) in
    (u, (and_from (starts_with eqb text (codes "#![")) _ starts (and_from (ends_with eqb text (codes "]")) _ ends (not_from_false (holds (codes "\n") text) feeds)), tt))
