-- What std says of texts at the front of texts and inside them, as functions.
use Rattle.std.proofs.Common.{◌≡◌, ℕ, zero, suc, ◌+◌, ◌<◌, ◌≤◌, Bool, true, false, List, [], ◌∷◌, ◌++◌, length, take, drop, Option, Some, None, refl, ap, sym, ◌∙◌, arith}
use Rattle.std.specs.Prelude.{if◌then◌else◌, MatchOption}
use Rattle.std.specs.Borrow.{Bor}
use Rattle.std.specs.Option.{option_map, option_copied}
use Rattle.std.specs.Str.Pattern.{FindsText, FindsTextPrefix, LacksTextAt, SplitsAroundMatch, StripsPrefix}
use Rattle.std.proofs.lemmas.Slice.Eq.{bytes_eq-Decides}
use Rattle.std.proofs.lemmas.Str.Pattern.{starts_text}
use Rattle.lp_maker.specs.Texts.{begins, after_front, first_place, around, cut_at}

-- a text begins with another, or it doesn't
pub lacks_front : (p s : List ℕ) → LacksTextAt p s 0 → begins p s ≡ false
lacks_front p s h = sym (starts_text false p s h)

front_taken : (p rest : List ℕ) → p ≡ take (length p) (p ++ rest)
front_taken [] rest = refl
front_taken (b ∷ bs) rest = ap (λ (xs : List ℕ). b ∷ xs) (front_taken bs rest)

pub has_front : (p s rest : List ℕ) → s ≡ p ++ rest → begins p s ≡ true
has_front p s rest e = (bytes_eq-Decides p (take (length p) s)).1 (front_taken p rest ∙ ap (λ (xs : List ℕ). take (length p) xs) (sym e))

-- what `strip_prefix` gives
pub stripped : (p s : List ℕ) (r : Option (Bor (List ℕ))) → MatchOption r (FindsTextPrefix p s None) (λ x. StripsPrefix (FindsTextPrefix p) s x.now) → option_copied r ≡ after_front p s
stripped p s None h = sym (ap (λ (b : Bool). if b then Some (drop (length p) s) else None) (lacks_front p s h))
stripped p s (Some x) h =
    let at : begins p s ≡ true = has_front p s (drop h.0 s) h.1.1 in
    let same : x.now ≡ drop (length p) s = h.2 ∙ ap (λ (n : ℕ). drop n s) h.1.0 in
    ap Some same ∙ sym (ap (λ (b : Bool). if b then Some (drop (length p) s) else None) at)

-- a text stands nowhere in another
pub found_none : (p s : List ℕ) → ((i : ℕ) → i ≤ length s → LacksTextAt p s i) → first_place p s ≡ None
found_none p [] h = ap (λ (b : Bool). if b then Some 0 else None) (lacks_front p [] (h 0 (omega arith)))
found_none p (b ∷ bs) h =
    ap (λ (t : Bool). if t then Some 0 else option_map suc (first_place p bs)) (lacks_front p (b ∷ bs) (h 0 (omega arith)))
    ∙ ap (option_map suc) (found_none p bs (λ i le. h (suc i) (omega arith)))

-- a text first stands at a place of another
pub found_some : (p s rest : List ℕ) (i : ℕ) → ((k : ℕ) → k < i → LacksTextAt p s k) → drop i s ≡ p ++ rest → i ≤ length s → first_place p s ≡ Some i
found_some p [] rest zero h e le = ap (λ (b : Bool). if b then Some 0 else None) (has_front p [] rest e)
found_some p [] rest (suc i) h e le = absurd (omega arith)
found_some p (b ∷ bs) rest zero h e le = ap (λ (t : Bool). if t then Some 0 else option_map suc (first_place p bs)) (has_front p (b ∷ bs) rest e)
found_some p (b ∷ bs) rest (suc i) h e le =
    ap (λ (t : Bool). if t then Some 0 else option_map suc (first_place p bs)) (lacks_front p (b ∷ bs) (h 0 (omega arith)))
    ∙ ap (option_map suc) (found_some p bs rest i (λ k l. h (suc k) (omega arith)) e (omega arith))

-- what `split_once` gives
pub cut_found : (p s : List ℕ) (r : Option (Bor (List ℕ) × Bor (List ℕ))) → MatchOption r (FindsText p s None) (λ x. SplitsAroundMatch (FindsText p) s x.0.now x.1.now) → option_map (λ x. (x.0.now, x.1.now)) r ≡ cut_at p s
cut_found p s None h = sym (ap (option_map (around (length p) s)) (found_none p s h))
cut_found p s (Some x) h =
    let le : h.0 ≤ length s = omega (arith, h.5, h.7) in
    let place : first_place p s ≡ Some h.0 = found_some p s (drop h.1 s) h.0 h.2.0 h.2.1.split le in
    let back : x.1.now ≡ drop (h.0 + length p) s = h.4 ∙ ap (λ (n : ℕ). drop n s) h.2.1.ends in
    let one : List ℕ → Option (List ℕ × List ℕ) = λ a. Some (a, x.1.now) in
    let two : List ℕ → Option (List ℕ × List ℕ) = λ b. Some (take h.0 s, b) in
    ap one h.3 ∙ ap two back ∙ sym (ap (option_map (around (length p) s)) place)
