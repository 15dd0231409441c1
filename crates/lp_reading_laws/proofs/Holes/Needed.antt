-- What is asked is needed: holes that are found again meet it.
use Rattle.std.proofs.Common.{◌≡◌, ℕ, ◌+◌, ◌==◌, ◌<◌, ◌≤◌, zero, suc, Bool, true, false, not, ◌&&◌, ◌||◌, List, [], ◌∷◌, ◌++◌, length, get_or, take, drop, codes, Option, Some, refl, sym, ap, ◌∙◌, subst, arith, eqb, ltb, inl, inr, ⊎_elim, append_assoc, length-append}
use Rattle.std.specs.List.{starts_with}
use Rattle.std.specs.Str.{bytes_eq}
use Rattle.std.proofs.lemmas.Bool.{false≢true, and_parts, and_from, or_cases, cases_Bool, cond-true, cond-false, eqb-true, eq-eqb, ltb-true, not-true, both_ways, false_from_ne_true}
use Rattle.std.proofs.lemmas.List.{drop_at, drop-append-le, get_or-take, get_or_append_left, get_or_push, length-take-le}
use Rattle.std.proofs.lemmas.Slice.Eq.{bytes_eq-Decides}
use Rattle.lp_form.specs.Templates.{Piece, steps_of, holes_of}
use Rattle.lp_form.specs.Templates as template
use Rattle.lp_form.specs.declared.part.Part.{Part}
use Rattle.lp_form.specs.declared.part.Part.TheVariants as part
use Rattle.lp_form.specs.declared.template.Kind.{Kind}
use Rattle.lp_form.specs.declared.template.Kind.TheVariants as kind
use Rattle.lp_form.specs.declared.template.Slot.{Slot}
use Rattle.lp_form.specs.declared.template.Slot.TheVariants.{Nothing, Prefix, Hole}
use Rattle.lp_spelling.specs.Lines.{slot_text, line_of}
use Rattle.lp_spelling.specs.HoleEnds.{first_at, place, goes_on, ends_symbols, is_alone, kind_len, hole_len}
use Rattle.lp_spelling.specs.Fillings.{holds}
use Rattle.lp_spelling.specs.LineReading.{◌>>=◌, after, kind_of, new_at, slot_at, line_at}
use Rattle.lp_spelling.specs.LineHoles.{known_after, known_in, SlotFound, is_apart}
use Rattle.lp_spelling.proofs.Exact.{known_small, slot_exact}
use Rattle.lp_spelling.proofs.Fitting.{first_passes}
use Rattle.lp_spelling.proofs.Reading.{after_again, next_slot, line_extends}
use Rattle.lp_reading_laws.specs.Holes.LineTests.{is_comma, is_mark, is_marked, is_listed, is_told_by, is_told, are_told, steps_told}
use Rattle.lp_reading_laws.specs.Holes.Parted.{IsParted}
use Rattle.lp_reading_laws.specs.Holes.Found.{are_words, LinesFound}
use Rattle.lp_reading_laws.proofs.Holes.Places.{begins_more}
use Rattle.lp_reading_laws.proofs.Holes.Holding.{holds_first}
use Rattle.lp_reading_laws.proofs.Holes.GoingOn.{AllFill}
use Rattle.lp_reading_laws.proofs.Holes.Asking.{Asks, AreMet, asks_text, asks_symbols, kind_asks, slot_asks, line_asks, steps_ask}
use Rattle.lp_reading_laws.proofs.Holes.Lines.{slot_found}

-- places
first_small : (test : List ℕ → Bool) (t : List ℕ) → first_at test t ≤ length t
unfolding first_at
first_small test [] = omega arith
first_small test (b ∷ t) = elim (cases_Bool (test (b ∷ t))) [
  | inl y ↦
      let e : first_at test (b ∷ t) ≡ 0 = cond-true (test (b ∷ t)) _ _ y in
      omega (arith, e)
  | inr n ↦
      let e : first_at test (b ∷ t) ≡ suc (first_at test t) = cond-false (test (b ∷ t)) _ _ n in
      let le = first_small test t in
      omega (arith, e, le)
]

first_before : (test : List ℕ → Bool) (t : List ℕ) (i : ℕ) → i < length t → test (drop i t) ≡ true → first_at test t ≤ i
unfolding first_at
first_before test [] i lt h = absurd (omega arith)
first_before test (b ∷ t) zero lt h =
    let e : first_at test (b ∷ t) ≡ 0 = cond-true (test (b ∷ t)) _ _ h in
    omega (arith, e)
first_before test (b ∷ t) (suc i) lt h =
    let le = first_before test t i (omega arith) h in
    elim (cases_Bool (test (b ∷ t))) [
      | inl y ↦
          let e : first_at test (b ∷ t) ≡ 0 = cond-true (test (b ∷ t)) _ _ y in
          omega (arith, e)
      | inr n ↦
          let e : first_at test (b ∷ t) ≡ suc (first_at test t) = cond-false (test (b ∷ t)) _ _ n in
          omega (arith, e, le)
    ]

begins_parts : (s t text : List ℕ) → starts_with eqb text (s ++ t) ≡ true → (starts_with eqb text s ≡ true) × (starts_with eqb (drop (length s) text) t ≡ true)
begins_parts [] t text h = (refl, h)
begins_parts (a ∷ s) t [] h = absurd (false≢true h)
begins_parts (a ∷ s) t (b ∷ text) h =
    let p = and_parts (eqb a b) (starts_with eqb text (s ++ t)) h in
    let q = begins_parts s t text p.1 in
    (and_from (eqb a b) (starts_with eqb text s) p.0 q.0, q.1)

-- a type that ends where the parts go on doesn't hold their front
goes_from : (prefix t : List ℕ) (q : Piece) (ps : List Piece) (y : List ℕ) → starts_with eqb y (t ++ (prefix ++ q.0)) ≡ true → goes_on prefix ((t, Prefix) ∷ q ∷ ps) y ≡ true
goes_from prefix t q ps y h =
    let a = begins_parts t (prefix ++ q.0) y h in
    let b = begins_parts prefix q.0 (drop (length t) y) a.1 in
    and_from (starts_with eqb y t) _ a.0 (and_from (starts_with eqb (drop (length t) y) prefix) _ b.0 b.1)

mark_back : (prefix : List ℕ) (holes : List (List ℕ)) (n : ℕ) (t : List ℕ) (s : Slot) (ps : List Piece) → is_mark t s ps ≡ true →
    first_at (goes_on prefix ((t, s) ∷ ps)) (get_or holes n [] ++ line_of prefix holes ((t, s) ∷ ps)) ≡ length (get_or holes n []) → AreMet prefix holes (asks_text n t s ps)
mark_back prefix holes n [] s ps h e = absurd (both_ways false refl h)
mark_back prefix holes n (c ∷ t) Nothing ps h e = absurd (both_ways false refl h)
mark_back prefix holes n (c ∷ t) (Hole k) ps h e = absurd (both_ways false refl h)
mark_back prefix holes n (c ∷ t) Prefix [] h e = absurd (both_ways false refl h)
mark_back prefix holes n (c ∷ t) Prefix (q ∷ ps) h e =
    let x : List ℕ = get_or holes n [] in
    let s : List ℕ = c ∷ (t ++ (prefix ++ q.0)) in
    let parts : List Piece = (c ∷ t, Prefix) ∷ q ∷ ps in
    let line : List ℕ = line_of prefix holes parts in
    let none : holds s x ≡ false
    = false_from_ne_true _ (λ y.
    let i : ℕ = place s x in
    let lt : i < length x = ltb-true (place s x) (length x) (holds_first c (t ++ (prefix ++ q.0)) x y) in
    let there : starts_with eqb (drop i x) s ≡ true = first_passes (λ u. starts_with eqb u s) x lt in
    let d : drop i (x ++ line) ≡ drop i x ++ line = drop-append-le i x line (omega (arith, lt)) in
    let goes : goes_on prefix parts (drop i (x ++ line)) ≡ true
    = goes_from prefix (c ∷ t) q ps (drop i (x ++ line)) (ap (λ (u : List ℕ). starts_with eqb u s) d ∙ begins_more s (drop i x) line there) in
    let size : length (x ++ line) ≡ length x + length line = length-append x line in
    let le = first_before (goes_on prefix parts) (x ++ line) i (omega (arith, lt, size)) goes in
    omega (arith, lt, le, e)) in
    (none, tt)

text_back : (prefix : List ℕ) (holes : List (List ℕ)) (n : ℕ) (parts : List Piece) → is_marked parts ≡ true →
    first_at (goes_on prefix parts) (get_or holes n [] ++ line_of prefix holes parts) ≡ length (get_or holes n []) → AreMet prefix holes (kind_asks kind.Text n parts)
text_back prefix holes n [] h e = absurd (both_ways false refl h)
text_back prefix holes n (p ∷ ps) h e = mark_back prefix holes n p.0 p.1 ps h e

-- no symbol goes on behind symbols that end
ends_there : (prefix x r : List ℕ) → 0 < length r → first_at (ends_symbols prefix) (x ++ r) ≡ length x → ends_symbols prefix r ≡ true
ends_there prefix x r some e =
    let size : length (x ++ r) ≡ length x + length r = length-append x r in
    let passes : ends_symbols prefix (drop (first_at (ends_symbols prefix) (x ++ r)) (x ++ r)) ≡ true = first_passes (ends_symbols prefix) (x ++ r) (omega (arith, e, size, some)) in
    let d : drop (first_at (ends_symbols prefix) (x ++ r)) (x ++ r) ≡ r = drop_at x r (first_at (ends_symbols prefix) (x ++ r)) (sym e) in
    subst (λ (u : List ℕ). ends_symbols prefix u ≡ true) d passes

comma_back : (prefix : List ℕ) (holes : List (List ℕ)) (x t : List ℕ) (s : Slot) (ps : List Piece) → is_comma t s ps ≡ true →
    first_at (ends_symbols prefix) (x ++ line_of prefix holes ((t, s) ∷ ps)) ≡ length x → AreMet prefix holes (asks_symbols s)
unfolding line_of
comma_back prefix holes x t Nothing ps h e = tt
comma_back prefix holes x t Prefix ps h e = tt
comma_back prefix holes x t (Hole j) ps h e =
    let text : List ℕ = get_or holes j [] in
    let line : List ℕ = line_of prefix holes ps in
    let q = and_parts (bytes_eq t (codes ", ")) (is_apart ps) h in
    let comma : t ≡ codes ", " = (bytes_eq-Decides t (codes ", ")).0 q.0 in
    let whole : (t ++ text) ++ line ≡ 44 ∷ 32 ∷ (text ++ line) = ap (λ (y : List ℕ). (y ++ text) ++ line) comma in
    let at : first_at (ends_symbols prefix) (x ++ (44 ∷ 32 ∷ (text ++ line))) ≡ length x = subst (λ (y : List ℕ). first_at (ends_symbols prefix) (x ++ y) ≡ length x) whole e in
    let ends : ends_symbols prefix (44 ∷ 32 ∷ (text ++ line)) ≡ true = ends_there prefix x (44 ∷ 32 ∷ (text ++ line)) (omega arith) at in
    let none : starts_with eqb (text ++ line) prefix ≡ false = not-true (starts_with eqb (text ++ line) prefix) ends in
    (false_from_ne_true _ (λ y. both_ways (starts_with eqb (text ++ line) prefix) none (begins_more prefix text line y)), tt)

symbols_back : (prefix : List ℕ) (holes : List (List ℕ)) (n : ℕ) (x : List ℕ) (parts : List Piece) → is_listed parts ≡ true →
    first_at (ends_symbols prefix) (x ++ line_of prefix holes parts) ≡ length x → AreMet prefix holes (kind_asks kind.Symbols n parts)
symbols_back prefix holes n x [] h e = absurd (both_ways false refl h)
symbols_back prefix holes n x (p ∷ ps) h e = comma_back prefix holes x p.0 p.1 ps h e

-- a hole that is as long as its kind says, where that is within the text
kind_back : (prefix : List ℕ) (kinds : List Kind) (holes : List (List ℕ)) (k : Kind) (n : ℕ) (parts : List Piece) → is_told_by kinds k parts ≡ true →
    (kind_len prefix k parts (get_or holes n [] ++ line_of prefix holes parts) ≤ length (get_or holes n [] ++ line_of prefix holes parts) →
    kind_len prefix k parts (get_or holes n [] ++ line_of prefix holes parts) ≡ length (get_or holes n [])) → AreMet prefix holes (kind_asks k n parts)
unfolding kind_len
kind_back prefix kinds holes kind.Text n parts t g =
    text_back prefix holes n parts t (g (first_small (goes_on prefix parts) (get_or holes n [] ++ line_of prefix holes parts)))
kind_back prefix kinds holes kind.Symbols n parts t g =
    symbols_back prefix holes n (get_or holes n []) parts t (g (first_small (ends_symbols prefix) (get_or holes n [] ++ line_of prefix holes parts)))
kind_back prefix kinds holes _ n parts t g = tt

-- the next hole, as it is read
taken_is : (holes : List (List ℕ)) (n m : ℕ) (y : List ℕ) (more : List (List ℕ)) → n < m → n ≤ length holes → take m holes ≡ (take n holes ++ y ∷ []) ++ more → y ≡ get_or holes n []
taken_is holes n m y more lt le e =
    let size : length (take n holes) ≡ n = length-take-le n holes le in
    let pushed : length (take n holes ++ y ∷ []) ≡ length (take n holes) + 1 = length-append (take n holes) (y ∷ []) in
    let a : get_or ((take n holes ++ y ∷ []) ++ more) n [] ≡ get_or (take n holes ++ y ∷ []) n [] = get_or_append_left (take n holes ++ y ∷ []) more [] n (omega (arith, size, pushed)) in
    let b : get_or (take n holes ++ y ∷ []) n [] ≡ y = get_or_push (take n holes) y [] n size in
    sym (a ∙ b) ∙ ap (λ (z : List (List ℕ)). get_or z n []) (sym e) ∙ get_or-take m holes n [] lt

new_back : (prefix : List ℕ) (kinds : List Kind) (holes : List (List ℕ)) (n m : ℕ) (parts : List Piece) → n < m → n ≤ length holes → is_alone n parts ≡ false →
    (new_at prefix kinds n parts (take n holes) (get_or holes n [] ++ line_of prefix holes parts) >>= λ x. line_at prefix kinds parts x.0 x.1) ≡ Some (take m holes) →
    kind_len prefix (kind_of kinds n) parts (get_or holes n [] ++ line_of prefix holes parts) ≤ length (get_or holes n [] ++ line_of prefix holes parts) →
    kind_len prefix (kind_of kinds n) parts (get_or holes n [] ++ line_of prefix holes parts) ≡ length (get_or holes n [])
unfolding new_at hole_len
new_back prefix kinds holes n m parts lt le others h small =
    let text : List ℕ = get_or holes n [] ++ line_of prefix holes parts in
    let size : ℕ = kind_len prefix (kind_of kinds n) parts text in
    let len : hole_len prefix (kind_of kinds n) n parts (take n holes) text ≡ size = cond-false (is_alone n parts) _ _ others in
    let known : List (List ℕ) = take n holes in
    let go : line_at prefix kinds parts (known ++ take size text ∷ []) (drop size text) ≡ Some (take m holes)
    = ap (λ i. line_at prefix kinds parts (known ++ take i text ∷ []) (drop i text)) (sym len) ∙ h in
    let more = line_extends prefix kinds parts (known ++ take size text ∷ []) (drop size text) (take m holes) go in
    let is : take size text ≡ get_or holes n [] = taken_is holes n m (take size text) more.0 lt le more.1 in
    sym (length-take-le size text small) ∙ ap length is

known_more : (s : Slot) (n : ℕ) → n ≤ known_after s n
known_more Nothing n = omega arith
known_more Prefix n = omega arith
known_more (Hole k) n = elim (cases_Bool (k == n)) [
  | inl y ↦ let e : known_after (Hole k) n ≡ suc n = cond-true (k == n) (suc n) n y in omega (arith, e)
  | inr z ↦ let e : known_after (Hole k) n ≡ n = cond-false (k == n) (suc n) n z in omega (arith, e)
]

known_grows : (parts : List Piece) (n : ℕ) → n ≤ known_in parts n
known_grows [] n = omega arith
known_grows (p ∷ parts) n =
    let a = known_more p.1 n in
    let b = known_grows parts (known_after p.1 n) in
    omega (arith, a, b)

-- what a slot asks, where the line is read as its holes from the slot on
abbrev ReadsFrom : List ℕ → List Kind → List (List ℕ) → ℕ → Slot → List Piece → Type 0
ReadsFrom prefix kinds holes n s parts =
    (slot_at prefix kinds s parts (take n holes) (slot_text prefix holes s ++ line_of prefix holes parts) >>= λ x. line_at prefix kinds parts x.0 x.1) ≡ Some (take (known_in parts (known_after s n)) holes)

next_back : (prefix : List ℕ) (kinds : List Kind) (holes : List (List ℕ)) (n : ℕ) (parts : List Piece) → n < length kinds → length kinds ≤ length holes →
    (is_alone n parts || is_told_by kinds (kind_of kinds n) parts) ≡ true → ReadsFrom prefix kinds holes n (Hole n) parts → is_alone n parts ≡ false → AreMet prefix holes (kind_asks (kind_of kinds n) n parts)
next_back prefix kinds holes n parts lt le t r others =
    let told : is_told_by kinds (kind_of kinds n) parts ≡ true = sym (ap (λ b. b || is_told_by kinds (kind_of kinds n) parts) others) ∙ t in
    let text : List ℕ = get_or holes n [] ++ line_of prefix holes parts in
    let known : known_after (Hole n) n ≡ suc n = cond-true (n == n) (suc n) n (eq-eqb n n refl) in
    let grows = known_grows parts (known_after (Hole n) n) in
    let size : n ≡ length (take n holes) = sym (length-take-le n holes (omega (arith, lt, le))) in
    let new : (new_at prefix kinds n parts (take n holes) text >>= λ x. line_at prefix kinds parts x.0 x.1) ≡ Some (take (known_in parts (known_after (Hole n) n)) holes)
    = ap (λ (o : Option (List (List ℕ) × List ℕ)). o >>= λ x. line_at prefix kinds parts x.0 x.1) (sym (next_slot prefix kinds n parts (take n holes) text size)) ∙ r in
    kind_back prefix kinds holes (kind_of kinds n) n parts told (new_back prefix kinds holes n (known_in parts (known_after (Hole n) n)) parts (omega (arith, known, grows)) (omega (arith, lt, le)) others new)

hole_back : (prefix : List ℕ) (kinds : List Kind) (holes : List (List ℕ)) (n k : ℕ) (parts : List Piece) → length kinds ≤ length holes → is_told kinds n (Hole k) parts ≡ true →
    ReadsFrom prefix kinds holes n (Hole k) parts → AreMet prefix holes (slot_asks kinds n (Hole k) parts)
hole_back prefix kinds holes n k parts le t r = elim (cases_Bool ((k == n) && not (is_alone n parts))) [
  | inr z ↦ subst (λ a. AreMet prefix holes a) (sym (cond-false ((k == n) && not (is_alone n parts)) (kind_asks (kind_of kinds n) n parts) [] z)) tt
  | inl y ↦
      let p = and_parts (k == n) (not (is_alone n parts)) y in
      let same : k ≡ n = eqb-true k n p.0 in
      let q : (ltb n (length kinds) && (is_alone n parts || is_told_by kinds (kind_of kinds n) parts)) ≡ true
      = ⊎_elim
      (λ l. let lt = ltb-true k n l in absurd (omega (arith, lt, same)))
      (λ h. (and_parts (k == n) _ h).1)
      (or_cases (ltb k n) _ t) in
      let c = and_parts (ltb n (length kinds)) _ q in
      let at : ReadsFrom prefix kinds holes n (Hole n) parts = subst (λ j. ReadsFrom prefix kinds holes n (Hole j) parts) same r in
      let met = next_back prefix kinds holes n parts (ltb-true n (length kinds) c.0) le c.1 at (not-true (is_alone n parts) p.1) in
      subst (λ a. AreMet prefix holes a) (sym (cond-true ((k == n) && not (is_alone n parts)) (kind_asks (kind_of kinds n) n parts) [] y)) met
]

slot_back : (prefix : List ℕ) (kinds : List Kind) (holes : List (List ℕ)) (n : ℕ) (s : Slot) (parts : List Piece) → length kinds ≤ length holes → is_told kinds n s parts ≡ true →
    ReadsFrom prefix kinds holes n s parts → AreMet prefix holes (slot_asks kinds n s parts)
slot_back prefix kinds holes n Nothing parts le t r = tt
slot_back prefix kinds holes n Prefix parts le t r = tt
slot_back prefix kinds holes n (Hole k) parts le t r = hole_back prefix kinds holes n k parts le t r

met_all : (prefix : List ℕ) (holes : List (List ℕ)) (a b : List Asks) → AreMet prefix holes a → AreMet prefix holes b → AreMet prefix holes (a ++ b)
met_all prefix holes [] b m k = k
met_all prefix holes (x ∷ a) b m k = (m.0, met_all prefix holes a b m.1 k)

line_back : (prefix : List ℕ) (kinds : List Kind) (holes : List (List ℕ)) (n : ℕ) (parts : List Piece) → are_words prefix ≡ true → length kinds ≤ length holes → AllFill prefix kinds holes → n ≤ length holes →
    are_told kinds n parts ≡ true → line_at prefix kinds parts (take n holes) (line_of prefix holes parts) ≡ Some (take (known_in parts n) holes) →
    AreMet prefix holes (line_asks kinds n parts) × (known_in parts n ≤ length holes)
unfolding line_at line_of
line_back prefix kinds holes n [] w le f small t r = (tt, small)
line_back prefix kinds holes n (p ∷ parts) w le f small t r =
    let text : List ℕ = slot_text prefix holes p.1 in
    let line : List ℕ = line_of prefix holes parts in
    let a = and_parts (is_told kinds n p.1 parts) _ t in
    let front : after p.0 ((p.0 ++ text) ++ line) ≡ Some (text ++ line) = ap (after p.0) (append_assoc p.0 text line) ∙ after_again p.0 (text ++ line) in
    let from : ReadsFrom prefix kinds holes n p.1 parts
    = ap (λ (o : Option (List ℕ)). (o >>= λ rest. slot_at prefix kinds p.1 parts (take n holes) rest) >>= λ x. line_at prefix kinds parts x.0 x.1) (sym front) ∙ r in
    let met = slot_back prefix kinds holes n p.1 parts le a.0 from in
    let found : SlotFound prefix kinds holes n p.1 parts = slot_found prefix kinds holes n p.1 parts w le f a.0 met in
    let next : line_at prefix kinds parts (take (known_after p.1 n) holes) line ≡ Some (take (known_in parts (known_after p.1 n)) holes)
    = ap (λ (o : Option (List (List ℕ) × List ℕ)). o >>= λ x. line_at prefix kinds parts x.0 x.1) (sym (slot_exact prefix kinds holes n p.1 parts small found)) ∙ from in
    let rest = line_back prefix kinds holes (known_after p.1 n) parts w le f (known_small prefix kinds holes n p.1 parts small found) a.1 next in
    (met_all prefix holes (slot_asks kinds n p.1 parts) (line_asks kinds (known_after p.1 n) parts) met rest.0, rest.1)

pub steps_back : (prefix : List ℕ) (kinds : List Kind) (holes : List (List ℕ)) (n : ℕ) (steps : List template.Line) → are_words prefix ≡ true → length kinds ≤ length holes → AllFill prefix kinds holes →
    n ≤ length holes → steps_told kinds n steps ≡ true → LinesFound prefix kinds holes n steps → AreMet prefix holes (steps_ask kinds n steps)
unfolding LinesFound
steps_back prefix kinds holes n [] w le f small t h = tt
steps_back prefix kinds holes n (s ∷ steps) w le f small t h =
    let a = and_parts (are_told kinds n s.1) _ t in
    let b = line_back prefix kinds holes n s.1 w le f small a.0 h.0 in
    met_all prefix holes (line_asks kinds n s.1) (steps_ask kinds (known_in s.1 n) steps) b.0 (steps_back prefix kinds holes (known_in s.1 n) steps w le f b.1 a.1 h.1)

-- what is met is what the seven parts are asked
pub met_parted : (prefix : List ℕ) (p : Part) (holes : List (List ℕ)) → AreMet prefix holes (steps_ask (holes_of p) 0 (steps_of p)) → IsParted prefix p holes
unfolding steps_of holes_of is_alone
met_parted prefix part.StateFn holes m = m.0
met_parted prefix part.ToTripleLocatedWhere holes m = m.0
met_parted prefix part.ToTripleLocated holes m = m.0
met_parted prefix part.ToTriplePlainWhere holes m = m.0
met_parted prefix part.ToTriplePlain holes m = m.0
met_parted prefix part.Pop holes m = m.0
met_parted prefix part.Transition holes m = m.0
met_parted prefix _ holes m = tt
