-- Where the parts of a line go on.
use Rattle.std.proofs.Common.{◌≡◌, ℕ, ◌<◌, true, false, List, [], ◌∷◌, ◌++◌, length, get_or, drop, refl, ap, ◌∙◌, eqb, append_assoc}
use Rattle.std.specs.List.{starts_with}
use Rattle.std.proofs.lemmas.Bool.{and_parts, and_from, and_left}
use Rattle.std.proofs.lemmas.List.{drop_at}
use Rattle.lp_form.specs.Templates.{Piece}
use Rattle.lp_form.specs.declared.template.Kind.{Kind}
use Rattle.lp_form.specs.declared.template.Slot.{Slot}
use Rattle.lp_form.specs.declared.template.Slot.TheVariants.{Nothing, Prefix, Hole}
use Rattle.lp_spelling.specs.Lines.{slot_text, line_of}
use Rattle.lp_spelling.specs.HoleEnds.{goes_on, slot_goes_on}
use Rattle.lp_spelling.specs.Fillings.{Fills}
use Rattle.lp_spelling.specs.LineReading.{kind_of}
use Rattle.lp_spelling.proofs.Reading.{starts_again}
use Rattle.lp_reading_laws.proofs.Holes.Places.{begins_both}

-- all holes of these kinds are filled
abbrev pub AllFill : List ℕ → List Kind → List (List ℕ) → Type 0
AllFill prefix kinds holes = (k : ℕ) → k < length kinds → Fills prefix (kind_of kinds k) (get_or holes k [])

-- the parts go on where they are spelled
goes_slot : (prefix : List ℕ) (holes : List (List ℕ)) (t : List ℕ) (s : Slot) (ps : List Piece) → slot_goes_on prefix s ((t, s) ∷ ps) (slot_text prefix holes s ++ line_of prefix holes ps) ≡ true
unfolding line_of
goes_slot prefix holes t Nothing ps = refl
goes_slot prefix holes t Prefix [] = and_from (starts_with eqb (prefix ++ []) prefix) true (starts_again prefix []) refl
goes_slot prefix holes t Prefix (q ∷ ps) =
    let rest : List ℕ = slot_text prefix holes q.1 ++ line_of prefix holes ps in
    let line : List ℕ = (q.0 ++ slot_text prefix holes q.1) ++ line_of prefix holes ps in
    let e : drop (length prefix) (prefix ++ line) ≡ q.0 ++ rest = drop_at prefix line (length prefix) refl ∙ append_assoc q.0 (slot_text prefix holes q.1) (line_of prefix holes ps) in
    and_from (starts_with eqb (prefix ++ line) prefix) _ (starts_again prefix line) (ap (λ x. starts_with eqb x q.0) e ∙ starts_again q.0 rest)
goes_slot prefix holes t (Hole k) ps = refl

pub goes_here : (prefix : List ℕ) (holes : List (List ℕ)) (ps : List Piece) → goes_on prefix ps (line_of prefix holes ps) ≡ true
unfolding line_of
goes_here prefix holes [] = refl
goes_here prefix holes (p ∷ ps) =
    let slot : List ℕ = slot_text prefix holes p.1 in
    let line : List ℕ = line_of prefix holes ps in
    let e : (p.0 ++ slot) ++ line ≡ p.0 ++ (slot ++ line) = append_assoc p.0 slot line in
    let d : drop (length p.0) (p.0 ++ (slot ++ line)) ≡ slot ++ line = drop_at p.0 (slot ++ line) (length p.0) refl in
    ap (goes_on prefix (p ∷ ps)) e
    ∙ and_from (starts_with eqb (p.0 ++ (slot ++ line)) p.0) _ (starts_again p.0 (slot ++ line)) (ap (slot_goes_on prefix p.1 (p ∷ ps)) d ∙ goes_slot prefix holes p.0 p.1 ps)

pub line_begins : (prefix : List ℕ) (holes : List (List ℕ)) (p : Piece) (ps : List Piece) → starts_with eqb (line_of prefix holes (p ∷ ps)) p.0 ≡ true
line_begins prefix holes p ps = (and_parts (starts_with eqb (line_of prefix holes (p ∷ ps)) p.0) _ (goes_here prefix holes (p ∷ ps))).0

pub goes_front : (prefix : List ℕ) (p : Piece) (ps : List Piece) (t : List ℕ) → starts_with eqb t p.0 ≡ false → goes_on prefix (p ∷ ps) t ≡ false
goes_front prefix p ps t h = and_left (starts_with eqb t p.0) _ h

pub goes_prefix : (prefix t : List ℕ) (ps : List Piece) (y : List ℕ) → goes_on prefix ((t, Prefix) ∷ ps) y ≡ true → starts_with eqb (drop (length t) y) prefix ≡ true
goes_prefix prefix t ps y g = (and_parts (starts_with eqb (drop (length t) y) prefix) _ (and_parts (starts_with eqb y t) _ g).1).0

pub goes_whole : (prefix t : List ℕ) (q : Piece) (ps : List Piece) (y : List ℕ) → goes_on prefix ((t, Prefix) ∷ q ∷ ps) y ≡ true → starts_with eqb y (t ++ (prefix ++ q.0)) ≡ true
goes_whole prefix t q ps y g =
    let a = and_parts (starts_with eqb y t) _ g in
    let b = and_parts (starts_with eqb (drop (length t) y) prefix) _ a.1 in
    begins_both t (prefix ++ q.0) y a.0 (begins_both prefix q.0 (drop (length t) y) b.0 b.1)

pub line_split : (prefix : List ℕ) (holes : List (List ℕ)) (p : Piece) (ps : List Piece) → line_of prefix holes (p ∷ ps) ≡ p.0 ++ (slot_text prefix holes p.1 ++ line_of prefix holes ps)
unfolding line_of
line_split prefix holes p ps = append_assoc p.0 (slot_text prefix holes p.1) (line_of prefix holes ps)
