-- Holes that end at the first place where the parts go on.
use Rattle.std.proofs.Common.{◌≡◌, ℕ, ◌-◌, ◌==◌, true, false, not, ◌||◌, List, [], ◌∷◌, ◌++◌, length, get_or, drop, codes, refl, sym, ap, subst, arith, eqb, ⊎_elim}
use Rattle.std.specs.List.{starts_with, ends_with}
use Rattle.std.proofs.lemmas.Bool.{and_parts, or_cases, or_parts, not-true, both_ways, false_from_ne_true}
use Rattle.lp_form.specs.Templates.{Piece}
use Rattle.lp_form.specs.declared.template.Kind.TheVariants as kind
use Rattle.lp_form.specs.declared.template.Slot.{Slot}
use Rattle.lp_form.specs.declared.template.Slot.TheVariants.{Nothing, Prefix, Hole}
use Rattle.lp_spelling.specs.Lines.{line_of}
use Rattle.lp_spelling.specs.HoleEnds.{first_at, is_somewhere, is_word, goes_on}
use Rattle.lp_spelling.specs.Fillings.{is_joined, are_parameters, holds, without_end}
use Rattle.lp_reading_laws.specs.Holes.LineTests.{is_without, and_sign, next_has, is_prefix_slot, is_prefix_next, is_mark, is_marked}
use Rattle.lp_reading_laws.specs.Holes.Found.{are_words}
use Rattle.lp_reading_laws.proofs.Holes.Places.{first_behind, not_in, not_across, marked_across, ended_across}
use Rattle.lp_reading_laws.proofs.Holes.Holding.{words_without, without-append, held_not, comma_last, empty_is}
use Rattle.lp_reading_laws.proofs.Holes.Asking.{AreMet, asks_text, kind_asks}
use Rattle.lp_reading_laws.proofs.Holes.GoingOn.{goes_here, line_begins, goes_front, goes_prefix, goes_whole}

-- the first place at which the parts go on
abbrev FirstFound : List ℕ → List (List ℕ) → List Piece → List ℕ → Type 0
FirstFound prefix holes parts x = first_at (goes_on prefix parts) (x ++ line_of prefix holes parts) ≡ length x

-- the next literal text has a byte that the hole's text doesn't have
pub byte_first : (c : ℕ) (prefix : List ℕ) (holes : List (List ℕ)) (x : List ℕ) (parts : List Piece) → next_has c parts ≡ true → is_without c x ≡ true → FirstFound prefix holes parts x
byte_first c prefix holes x [] h f = absurd (both_ways false refl h)
byte_first c prefix holes x (p ∷ ps) h f =
    let line : List ℕ = line_of prefix holes (p ∷ ps) in
    first_behind (goes_on prefix (p ∷ ps)) x line (goes_here prefix holes (p ∷ ps)) (λ i lt.
    goes_front prefix p ps (drop i (x ++ line)) (not_in c p.0 x line (not-true (is_without c p.0) h) f (line_begins prefix holes p ps) i lt))

-- the prefix follows, and the hole's text neither holds it nor ends with a byte of it
empty_first : (prefix : List ℕ) (holes : List (List ℕ)) (parts : List Piece) → FirstFound prefix holes parts []
empty_first prefix holes parts = first_behind (goes_on prefix parts) [] (line_of prefix holes parts) (goes_here prefix holes parts) (λ i lt. absurd (omega arith))

held_nowhere : (s x : List ℕ) → holds s x ≡ false → is_somewhere (λ t. starts_with eqb t s) x ≡ false
unfolding holds
held_nowhere s x h = (or_parts (length s == 0) _ h).1

prefix_at : (prefix : List ℕ) (holes : List (List ℕ)) (x t : List ℕ) (s : Slot) (ps : List Piece) → t ≡ [] → is_prefix_slot s ≡ true → are_words prefix ≡ true → get_or x (length x - 1) 0 ≡ 32 →
    holds prefix x ≡ false → FirstFound prefix holes ((t, s) ∷ ps) x
prefix_at prefix holes x t Nothing ps e s w last none = absurd (both_ways false refl s)
prefix_at prefix holes x t (Hole k) ps e s w last none = absurd (both_ways false refl s)
prefix_at prefix holes x t Prefix ps e s w last none =
    let parts : List Piece = (t, Prefix) ∷ ps in
    let line : List ℕ = line_of prefix holes parts in
    let at : (y : List ℕ) → goes_on prefix parts y ≡ true → starts_with eqb y prefix ≡ true
    = λ y g. subst (λ (z : List ℕ). starts_with eqb (drop (length z) y) prefix ≡ true) e (goes_prefix prefix t ps y g) in
    let begins : starts_with eqb line prefix ≡ true = at line (goes_here prefix holes parts) in
    first_behind (goes_on prefix parts) x line (goes_here prefix holes parts) (λ i lt. false_from_ne_true _ (λ g.
    both_ways (starts_with eqb (drop i (x ++ line)) prefix)
    (not_across prefix x line (held_nowhere prefix x none) (ended_across is_word prefix x line w (ap is_word last)) i lt)
    (at (drop i (x ++ line)) g)))

prefix_first : (prefix : List ℕ) (holes : List (List ℕ)) (x : List ℕ) (parts : List Piece) → is_prefix_next parts ≡ true → are_words prefix ≡ true → get_or x (length x - 1) 0 ≡ 32 →
    holds prefix x ≡ false → FirstFound prefix holes parts x
prefix_first prefix holes x [] h w last none = absurd (both_ways false refl h)
prefix_first prefix holes x (p ∷ ps) h w last none =
    let q = and_parts (length p.0 == 0) (is_prefix_slot p.1) h in
    prefix_at prefix holes x p.0 p.1 ps (empty_is p.0 q.0) q.1 w last none

pub parameters_first : (prefix : List ℕ) (holes : List (List ℕ)) (x : List ℕ) (parts : List Piece) → are_words prefix ≡ true → are_parameters prefix x ≡ true →
    (next_has and_sign parts || is_prefix_next parts) ≡ true → FirstFound prefix holes parts x
parameters_first prefix holes x parts w f t =
    ⊎_elim
    (λ e. subst (λ (y : List ℕ). FirstFound prefix holes parts y) (sym (empty_is x e)) (empty_first prefix holes parts))
    (λ k.
    let p = and_parts (ends_with eqb x (codes ", ")) _ k in
    let q = and_parts (is_joined prefix _ (codes ", ") (without_end (codes ", ") x)) _ p.1 in
    let r = and_parts (not (holds prefix x)) (not (holds (codes "&") x)) q.1 in
    ⊎_elim
    (λ a. byte_first and_sign prefix holes x parts a (held_not 38 x r.1))
    (λ b. prefix_first prefix holes x parts b w (comma_last x p.0) (not-true (holds prefix x) r.0))
    (or_cases (next_has and_sign parts) (is_prefix_next parts) t))
    (or_cases (length x == 0) _ f)

-- the text that follows has the prefix in its middle, and a first byte that is not in it again
mark_first : (prefix : List ℕ) (holes : List (List ℕ)) (n : ℕ) (t : List ℕ) (s : Slot) (ps : List Piece) → are_words prefix ≡ true → is_mark t s ps ≡ true → AreMet prefix holes (asks_text n t s ps) →
    FirstFound prefix holes ((t, s) ∷ ps) (get_or holes n [])
mark_first prefix holes n [] s ps w h m = absurd (both_ways false refl h)
mark_first prefix holes n (c ∷ t) Nothing ps w h m = absurd (both_ways false refl h)
mark_first prefix holes n (c ∷ t) (Hole k) ps w h m = absurd (both_ways false refl h)
mark_first prefix holes n (c ∷ t) Prefix [] w h m = absurd (both_ways false refl h)
mark_first prefix holes n (c ∷ t) Prefix (q ∷ ps) w h m =
    let x : List ℕ = get_or holes n [] in
    let p = and_parts (not (is_word c)) _ h in
    let r = and_parts (is_without c t) (is_without c q.0) p.1 in
    let s : List ℕ = t ++ (prefix ++ q.0) in
    let once : is_without c s ≡ true = without-append c t (prefix ++ q.0) r.0 (without-append c prefix q.0 (words_without c prefix (not-true (is_word c) p.0) w) r.1) in
    let parts : List Piece = (c ∷ t, Prefix) ∷ q ∷ ps in
    let line : List ℕ = line_of prefix holes parts in
    let begins : starts_with eqb line (c ∷ s) ≡ true = goes_whole prefix (c ∷ t) q ps line (goes_here prefix holes parts) in
    first_behind (goes_on prefix parts) x line (goes_here prefix holes parts) (λ i lt. false_from_ne_true _ (λ g.
    both_ways (starts_with eqb (drop i (x ++ line)) (c ∷ s))
    (not_across (c ∷ s) x line (held_nowhere (c ∷ s) x m.0) (marked_across c s x line once begins) i lt)
    (goes_whole prefix (c ∷ t) q ps (drop i (x ++ line)) g)))

pub text_first : (prefix : List ℕ) (holes : List (List ℕ)) (n : ℕ) (parts : List Piece) → are_words prefix ≡ true → is_marked parts ≡ true → AreMet prefix holes (kind_asks kind.Text n parts) →
    FirstFound prefix holes parts (get_or holes n [])
text_first prefix holes n [] w h m = absurd (both_ways false refl h)
text_first prefix holes n (p ∷ ps) w h m = mark_first prefix holes n p.0 p.1 ps w h m
