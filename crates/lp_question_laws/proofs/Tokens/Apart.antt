-- Holes of a pattern stand apart where the printed patterns are filled as they may be, and no word goes on behind a hole.
use Rattle.std.proofs.Common.{◌≡◌, ℕ, zero, suc, ◌+◌, ◌<◌, ◌^◌, ◌==◌, Bool, true, false, not, ◌||◌, List, [], ◌∷◌, ◌++◌, length, Some, refl, sym, ap, ◌∙◌, arith, codes, decimal, nat_eq, append_assoc, if◌then◌else◌}
use Rattle.std.specs.Prelude.{slice_get, nat_lt}
use Rattle.std.specs.Char.{is_ascii_alphanumeric}
use Rattle.std.specs.List.{flat_map, prefix_len, starts_with}
use Rattle.std.specs.Str.{chars}
use Rattle.std.specs.Str.Parse.{AllDigits}
use Rattle.std.proofs.Math.Seq.{drop-append_seam}
use Rattle.std.proofs.lemmas.Bool.{eqb-true, or_left, and_parts, not-true}
use Rattle.std.proofs.lemmas.Bool.Decides.{nat_tests}
use Rattle.std.proofs.lemmas.Fmt.{decimal_is_IsNumeral}
use Rattle.std.proofs.lemmas.Str.Parse.{digit_from_value}
use Rattle.std.specs.Int.{IsInRange}
use Rattle.unicode_ident.specs.Ident.{is_xid_continue}
use Rattle.unicode_ident.proofs.IdentLemmas.{is_xid_continue-ascii}
use Rattle.lp_reading_laws.proofs.Printing.Fronts.{ascii_begins}
use Rattle.lp_texts.specs.OneLine as line
use Rattle.lp_build.specs.Built.{barred}
use Rattle.lp_spelling.specs.Fillings.{is_numbered, is_capture, is_fitting, fits_behind, are_filled, without_front}
use Rattle.lp_spelling.specs.HoleEnds.{is_digit, is_word}
use Rattle.lp_maker.proofs.Cuts.{has_front}
use Rattle.lp_table.specs.TokenLines.{capture_name, pieces_from, named_pieces}
use Rattle.lp_question_laws.specs.Tokens.Told.{StandsNowhere, EndsApart, BeginsApart, AreApart}
use Rattle.lp_question_laws.proofs.Tokens.FormOf.{underscored}
use Rattle.lp_question_laws.proofs.Tokens.Known.{or_second}
use Rattle.lp_question_laws.proofs.Tokens.Barred.{unbarred}

-- the byte before a place
abbrev pub last_byte : ℕ → List ℕ → ℕ
last_byte l [] = l
last_byte l (c ∷ cs) = last_byte c cs

abbrev pub NoWordAt : List ℕ → Type 0
NoWordAt [] = Unit {0}
NoWordAt (c ∷ cs) = is_word c ≡ false

-- what fits goes on fitting
fits_later : (prefix : List ℕ) (l : ℕ) (a b : List ℕ) → fits_behind prefix l (a ++ b) ≡ true → fits_behind prefix (last_byte l a) b ≡ true
unfolding fits_behind
fits_later prefix l [] b h = h
fits_later prefix l (c ∷ cs) b h = fits_later prefix c cs b (and_parts (is_fitting prefix l (c ∷ (cs ++ b))) (fits_behind prefix c (cs ++ b)) h).1

-- ---- one of several patterns
-- a pattern in front of what is no word
pub record Filled (prefix p : List ℕ) : Type 0 where
  pub before : ℕ
  pub behind : List ℕ
  pub apart_before : is_word before ≡ false
  pub apart_behind : NoWordAt behind
  pub fits : fits_behind prefix before (p ++ behind) ≡ true

bars_over : (prefix : List ℕ) (l : ℕ) (rest : List ℕ) → fits_behind prefix l (32 ∷ 124 ∷ 32 ∷ rest) ≡ true → fits_behind prefix 32 rest ≡ true
unfolding fits_behind
bars_over prefix l rest h =
    let a = (and_parts (is_fitting prefix l (32 ∷ 124 ∷ 32 ∷ rest)) (fits_behind prefix 32 (124 ∷ 32 ∷ rest)) h).1 in
    let b = (and_parts (is_fitting prefix 32 (124 ∷ 32 ∷ rest)) (fits_behind prefix 124 (32 ∷ rest)) a).1 in
    (and_parts (is_fitting prefix 124 (32 ∷ rest)) (fits_behind prefix 32 rest) b).1

filled_from : (prefix : List ℕ) (l : ℕ) (ps : List (List ℕ)) (i : ℕ) (p : List ℕ) → is_word l ≡ false → slice_get ps i ≡ Some p → fits_behind prefix l (barred ps) ≡ true → Filled prefix p
filled_from prefix l [] i p out at h = absurd cc
filled_from prefix l (q ∷ []) zero p out at h =
    let same : q ≡ p = cc in
    record { before = l; behind = []; apart_before = out; apart_behind = tt; fits = ap (λ t. fits_behind prefix l (t ++ [])) (sym same) ∙ h }
filled_from prefix l (q ∷ []) (suc i) p out at h = absurd cc
filled_from prefix l (q ∷ r ∷ qs) zero p out at h =
    let same : q ≡ p = cc in
    record { before = l; behind = 32 ∷ 124 ∷ 32 ∷ barred (r ∷ qs); apart_before = out; apart_behind = refl; fits = ap (fits_behind prefix l) (ap (λ t. t ++ (32 ∷ 124 ∷ 32 ∷ barred (r ∷ qs))) (sym same) ∙ sym (unbarred q r qs)) ∙ h }
filled_from prefix l (q ∷ r ∷ qs) (suc i) p out at h =
    filled_from prefix 32 (r ∷ qs) i p refl at (bars_over prefix (last_byte l q) (barred (r ∷ qs)) (fits_later prefix l q (32 ∷ 124 ∷ 32 ∷ barred (r ∷ qs)) (ap (fits_behind prefix l) (sym (unbarred q r qs)) ∙ h)))

pub filled_at : (prefix : List ℕ) (ps : List (List ℕ)) (i : ℕ) (p : List ℕ) → slice_get ps i ≡ Some p → are_filled prefix (barred ps) ≡ true → Filled prefix p
unfolding are_filled
filled_at prefix ps i p at h = filled_from prefix 0 ps i p refl at h

-- ---- a hole in it
-- where the prefix stands in a text, no word stands before it, and a capture's name goes on behind it
pub record HoleHere (l : ℕ) (x : List ℕ) : Type 0 where
  pub before : is_word l ≡ false
  pub capture : is_capture x ≡ true

hole_here : (prefix : List ℕ) (l : ℕ) (x : List ℕ) → 0 < length prefix → fits_behind prefix l (prefix ++ x) ≡ true → HoleHere l x
unfolding fits_behind
hole_here [] l x some h = absurd (omega arith)
hole_here (c ∷ cs) l x some h =
    let prefix = c ∷ cs in
    let here : is_fitting prefix l (prefix ++ x) ≡ true = (and_parts (is_fitting prefix l (prefix ++ x)) (fits_behind prefix c (cs ++ x)) h).0 in
    let starts : starts_with nat_eq (prefix ++ x) prefix ≡ true = has_front prefix (prefix ++ x) x refl in
    let r = and_parts (not (is_word l)) (is_capture (without_front prefix (prefix ++ x))) (or_second (not (starts_with nat_eq (prefix ++ x) prefix)) _ (ap not starts) here) in
    record { before = not-true (is_word l) r.0; capture = ap is_capture (sym (drop-append_seam prefix x)) ∙ r.1 }

ends_by : (l : ℕ) (q : List ℕ) → is_word (last_byte l q) ≡ false → EndsApart q
ends_by l [] h = tt
ends_by l (c ∷ []) h = h
ends_by l (c ∷ d ∷ cs) h = ends_by c (d ∷ cs) h

-- digits are counted alike
pub digit_word : (c : ℕ) → IsInRange 48 57 c → (is_digit c ≡ true) × (is_word c ≡ true)
digit_word c h = (let d : is_digit c ≡ true = grind (arith, nat_tests) in (d, or_left (is_digit c) _ d))

counted : (test : ℕ → Bool) (ds y : List ℕ) → AllDigits 10 ds → ((c : ℕ) → IsInRange 48 57 c → test c ≡ true) → prefix_len test (ds ++ y) ≡ length ds + prefix_len test y
counted test [] y a pass = omega arith
counted test (d ∷ ds) y a pass = ap (λ b. if b then 1 + prefix_len test (ds ++ y) else 0) (pass d (digit_from_value d a.0)) ∙ (let rest = counted test ds y a.1 pass in omega (arith, rest))

-- behind a capture's number no word goes on but by a digit
behind_number : (k : ℕ) (y : List ℕ) → k < 2 ^ 64 → is_capture (codes "tok" ++ (decimal k ++ y)) ≡ true → prefix_len is_digit y ≡ prefix_len is_word y
behind_number k y small h =
    let t = decimal k ++ y in
    let number : is_numbered t ≡ true = (and_parts (starts_with nat_eq (codes "tok" ++ t) (codes "tok")) (is_numbered t) h).1 in
    let same : prefix_len is_digit t ≡ prefix_len is_word t = eqb-true _ _ (and_parts (nat_lt 0 (prefix_len is_word t)) (prefix_len is_digit t == prefix_len is_word t) number).1 in
    let digits = (decimal_is_IsNumeral k small).0.1 in
    let a = counted is_digit (decimal k) y digits (λ c r. (digit_word c r).0) in
    let b = counted is_word (decimal k) y digits (λ c r. (digit_word c r).1) in
    omega (arith, same, a, b)

no_word_first : (c : ℕ) (y : List ℕ) → prefix_len is_digit (c ∷ y) ≡ prefix_len is_word (c ∷ y) → is_digit c ≡ false → is_word c ≡ false
no_word_first c y h no_digit = by (is_word c) refl
  where
    by : (b : Bool) → is_word c ≡ b → is_word c ≡ false
    by false e = e
    by true e =
        let none : prefix_len is_digit (c ∷ y) ≡ 0 = ap (λ b. if b then 1 + prefix_len is_digit y else 0) no_digit in
        let some : prefix_len is_word (c ∷ y) ≡ 1 + prefix_len is_word y = ap (λ b. if b then 1 + prefix_len is_word y else 0) e in
        absurd (omega (arith, h, none, some))

-- ---- no word goes on behind a hole
abbrev pub HolesFree : List (List ℕ) → Type 0
HolesFree [] = Unit {0}
HolesFree (q ∷ []) = Unit {0}
HolesFree (q ∷ p ∷ ps) = (line.begins is_xid_continue (chars (underscored (p ∷ ps))) ≡ false) × HolesFree (p ∷ ps)

no_digit : (c : ℕ) (x : List ℕ) → line.begins is_xid_continue (chars (c ∷ x)) ≡ false → is_digit c ≡ false
no_digit c x h = by (is_digit c) refl
  where
    by : (b : Bool) → is_digit c ≡ b → is_digit c ≡ false
    by false e = e
    by true e =
        let small : c < 128 = grind (arith, nat_tests) in
        let letter : is_ascii_alphanumeric c ≡ true = grind (arith, nat_tests) in
        let bad : true ≡ false = sym (ap (λ b. b || (c == 95)) letter) ∙ sym (is_xid_continue-ascii c small) ∙ sym (ascii_begins is_xid_continue c x small) ∙ h in
        absurd cc

no_hole : (x : List ℕ) → line.begins is_xid_continue (chars (95 ∷ x)) ≡ false → ⊥
no_hole x h =
    let bad : true ≡ false = sym (is_xid_continue-ascii 95 (omega arith)) ∙ sym (ascii_begins is_xid_continue 95 x (omega arith)) ∙ h in
    absurd cc

begins_by : (prefix p : List ℕ) (ps : List (List ℕ)) (k : ℕ) (r : List ℕ) → NoWordAt r → line.begins is_xid_continue (chars (underscored (p ∷ ps))) ≡ false → prefix_len is_digit ((p ++ pieces_from prefix k ps) ++ r) ≡ prefix_len is_word ((p ++ pieces_from prefix k ps) ++ r) → BeginsApart p ps
begins_by prefix [] [] k r out free h = refl
begins_by prefix [] (p ∷ ps) k r out free h = absurd (no_hole (p ++ flat_map (λ y. codes "_" ++ y) ps) free)
begins_by prefix (c ∷ cs) ps k r out free h = no_word_first c ((cs ++ pieces_from prefix k ps) ++ r) h (no_digit c (cs ++ flat_map (λ y. codes "_" ++ y) ps) free)

-- pieces nowhere hold the prefix
abbrev pub AllNowhere : List ℕ → List (List ℕ) → Type 0
AllNowhere prefix [] = Unit {0}
AllNowhere prefix (p ∷ ps) = StandsNowhere prefix p × AllNowhere prefix ps

pieces_apart : (prefix : List ℕ) (k : ℕ) (q : List ℕ) (ps : List (List ℕ)) (l : ℕ) (r : List ℕ) → 0 < length prefix → k + length ps < 2 ^ 64 → NoWordAt r → AllNowhere prefix (q ∷ ps) → HolesFree (q ∷ ps) → fits_behind prefix l ((q ++ pieces_from prefix k ps) ++ r) ≡ true → AreApart prefix (q ∷ ps)
pieces_apart prefix k q [] l r some small out nowhere free h = nowhere.0
pieces_apart prefix k q (p ∷ ps) l r some small out nowhere free h =
    let y = (p ++ pieces_from prefix (k + 1) ps) ++ r in
    let text : (q ++ pieces_from prefix k (p ∷ ps)) ++ r ≡ q ++ (prefix ++ (codes "tok" ++ (decimal k ++ y))) =
    append_assoc q (pieces_from prefix k (p ∷ ps)) r
    ∙ ap (λ t. q ++ t) (ap (λ t. t ++ r) (append_assoc (capture_name prefix k) p (pieces_from prefix (k + 1) ps))
    ∙ append_assoc (capture_name prefix k) (p ++ pieces_from prefix (k + 1) ps) r
    ∙ append_assoc prefix (codes "tok" ++ decimal k) y
    ∙ ap (λ t. prefix ++ t) (append_assoc (codes "tok") (decimal k) y)) in
    let here = hole_here prefix (last_byte l q) (codes "tok" ++ (decimal k ++ y)) some (fits_later prefix l q (prefix ++ (codes "tok" ++ (decimal k ++ y))) (ap (fits_behind prefix l) (sym text) ∙ h)) in
    let whole : fits_behind prefix l ((q ++ capture_name prefix k) ++ y) ≡ true =
    ap (fits_behind prefix l) (append_assoc q (capture_name prefix k) y ∙ ap (λ t. q ++ t) (append_assoc prefix (codes "tok" ++ decimal k) y ∙ ap (λ t. prefix ++ t) (append_assoc (codes "tok") (decimal k) y)) ∙ sym text) ∙ h in
    let rest = fits_later prefix l (q ++ capture_name prefix k) y whole in (
      nowhere.0,
      ends_by l q here.before,
      begins_by prefix p ps (k + 1) r out free.0 (behind_number k y (omega arith) here.capture),
      pieces_apart prefix (k + 1) p ps (last_byte l (q ++ capture_name prefix k)) r some (omega arith) out nowhere.1 free.1 rest,
    )

-- the holes of a filled pattern
pub holes_apart : (prefix : List ℕ) (pieces : List (List ℕ)) → 0 < length prefix → length pieces < 2 ^ 64 → AllNowhere prefix pieces → HolesFree pieces → Filled prefix (named_pieces prefix pieces) → AreApart prefix pieces
holes_apart prefix [] some small nowhere free f = tt
holes_apart prefix (q ∷ ps) some small nowhere free f = pieces_apart prefix 0 q ps f.before f.behind some (omega arith) f.apart_behind nowhere free f.fits
