-- Symbols end where the prefix follows no comma.
use Rattle.std.proofs.Common.{◌≡◌, ℕ, ◌+◌, zero, suc, true, false, not, ◌&&◌, List, [], ◌∷◌, ◌++◌, length, get_or, codes, refl, sym, ap, ◌∙◌, subst, arith, eqb, inl, inr, append_assoc, length-append}
use Rattle.std.specs.List.{list_all, starts_with}
use Rattle.std.specs.Str.{bytes_eq}
use Rattle.std.proofs.lemmas.Bool.{and_parts, and_left, and_right, cases_Bool, cond-true, cond-false, ne_eqb, both_ways}
use Rattle.std.proofs.lemmas.Slice.Eq.{bytes_eq-Decides}
use Rattle.lp_form.specs.Templates.{Piece}
use Rattle.lp_form.specs.declared.template.Kind.TheVariants as kind
use Rattle.lp_form.specs.declared.template.Slot.{Slot}
use Rattle.lp_form.specs.declared.template.Slot.TheVariants.{Nothing, Prefix, Hole}
use Rattle.lp_spelling.specs.Lines.{line_of}
use Rattle.lp_spelling.specs.HoleEnds.{first_at, is_word, ends_symbols}
use Rattle.lp_spelling.specs.Fillings.{is_name, is_own, is_element, joined_within, is_joined, holds, part_before, part_behind}
use Rattle.lp_spelling.specs.LineHoles.{is_apart}
use Rattle.lp_spelling.proofs.Exact.{Stops, apart}
use Rattle.lp_reading_laws.specs.Holes.LineTests.{is_comma, is_listed}
use Rattle.lp_reading_laws.specs.Holes.Found.{are_words}
use Rattle.lp_reading_laws.proofs.Holes.Places.{begins_more}
use Rattle.lp_reading_laws.proofs.Holes.Holding.{own_words, split_held}
use Rattle.lp_reading_laws.proofs.Holes.Asking.{AreMet, asks_symbols, kind_asks}

-- symbols end at the first comma behind which none goes on
skip_words : (prefix y r : List ℕ) → list_all is_word y ≡ true → first_at (ends_symbols prefix) (y ++ r) ≡ length y + first_at (ends_symbols prefix) r
unfolding first_at
skip_words prefix [] r h = omega arith
skip_words prefix (b ∷ y) r h =
    let p = and_parts (is_word b) (list_all is_word y) h in
    let no : ends_symbols prefix (b ∷ (y ++ r)) ≡ false = and_left _ _ (and_left (eqb 44 b) _ (ne_eqb 44 b (λ e. both_ways (is_word 44) refl (ap is_word e ∙ p.0)))) in
    let ih = skip_words prefix y r p.1 in
    cond-false (ends_symbols prefix (b ∷ (y ++ r))) _ _ no ∙ omega (arith, ih)

symbols_begin : (n : ℕ) (prefix : List ℕ) (e : _) (x : List ℕ) → ((y : List ℕ) → is_element prefix e y ≡ true → is_own prefix y ≡ true) → joined_within n prefix e (codes ", ") x ≡ true → starts_with eqb x prefix ≡ true
unfolding joined_within
symbols_begin zero prefix e x o h = absurd (both_ways false refl h)
symbols_begin (suc n) prefix e x o h = elim (cases_Bool (holds (codes ", ") x)) [
  | inl y ↦
      let front : List ℕ = part_before (codes ", ") x in
      let behind : List ℕ = codes ", " ++ part_behind (codes ", ") x in
      let p = and_parts (is_element prefix e front) _ (sym (cond-true (holds (codes ", ") x) _ _ y) ∙ h) in
      let split : x ≡ front ++ behind = split_held 44 (codes " ") x y in
      ap (λ (t : List ℕ). starts_with eqb t prefix) split ∙ begins_more prefix front behind (and_parts (starts_with eqb front prefix) (is_name front) (o front p.0)).0
  | inr z ↦ (and_parts (starts_with eqb x prefix) (is_name x) (o x (sym (cond-false (holds (codes ", ") x) _ _ z) ∙ h))).0
]

symbol_step : (prefix x y r : List ℕ) → list_all is_word x ≡ true → starts_with eqb y prefix ≡ true → first_at (ends_symbols prefix) (y ++ r) ≡ length y →
    first_at (ends_symbols prefix) ((x ++ (44 ∷ 32 ∷ y)) ++ r) ≡ length (x ++ (44 ∷ 32 ∷ y))
unfolding first_at
symbol_step prefix x y r w b ih =
    let a : (x ++ (44 ∷ 32 ∷ y)) ++ r ≡ x ++ (44 ∷ 32 ∷ (y ++ r)) = append_assoc x (44 ∷ 32 ∷ y) r in
    let s : first_at (ends_symbols prefix) (x ++ (44 ∷ 32 ∷ (y ++ r))) ≡ length x + first_at (ends_symbols prefix) (44 ∷ 32 ∷ (y ++ r)) = skip_words prefix x (44 ∷ 32 ∷ (y ++ r)) w in
    let goes : ends_symbols prefix (44 ∷ 32 ∷ (y ++ r)) ≡ false = ap not (begins_more prefix y r b) in
    let one : first_at (ends_symbols prefix) (44 ∷ 32 ∷ (y ++ r)) ≡ suc (first_at (ends_symbols prefix) (32 ∷ (y ++ r))) = cond-false (ends_symbols prefix (44 ∷ 32 ∷ (y ++ r))) _ _ goes in
    let two : first_at (ends_symbols prefix) (32 ∷ (y ++ r)) ≡ suc (first_at (ends_symbols prefix) (y ++ r)) = refl in
    let size : length (x ++ (44 ∷ 32 ∷ y)) ≡ length x + length (44 ∷ 32 ∷ y) = length-append x (44 ∷ 32 ∷ y) in
    ap (first_at (ends_symbols prefix)) a ∙ omega (arith, s, one, two, size)

symbols_end : (prefix x w : List ℕ) → list_all is_word x ≡ true → starts_with eqb w prefix ≡ false → first_at (ends_symbols prefix) (x ++ (44 ∷ 32 ∷ w)) ≡ length x
unfolding first_at
symbols_end prefix x w h none =
    let s : first_at (ends_symbols prefix) (x ++ (44 ∷ 32 ∷ w)) ≡ length x + first_at (ends_symbols prefix) (44 ∷ 32 ∷ w) = skip_words prefix x (44 ∷ 32 ∷ w) h in
    let ends : ends_symbols prefix (44 ∷ 32 ∷ w) ≡ true = ap not none in
    let here : first_at (ends_symbols prefix) (44 ∷ 32 ∷ w) ≡ 0 = cond-true (ends_symbols prefix (44 ∷ 32 ∷ w)) _ _ ends in
    omega (arith, s, here)

symbols_within : (n : ℕ) (prefix : List ℕ) (e : _) (x w : List ℕ) → ((y : List ℕ) → is_element prefix e y ≡ true → is_own prefix y ≡ true) → starts_with eqb w prefix ≡ false → joined_within n prefix e (codes ", ") x ≡ true →
    first_at (ends_symbols prefix) (x ++ (44 ∷ 32 ∷ w)) ≡ length x
unfolding joined_within
symbols_within zero prefix e x w o none h = absurd (both_ways false refl h)
symbols_within (suc n) prefix e x w o none h = elim (cases_Bool (holds (codes ", ") x)) [
  | inl y ↦
      let front : List ℕ = part_before (codes ", ") x in
      let behind : List ℕ = part_behind (codes ", ") x in
      let p = and_parts (is_element prefix e front) (joined_within n prefix e (codes ", ") behind) (sym (cond-true (holds (codes ", ") x) _ _ y) ∙ h) in
      let split : x ≡ front ++ (44 ∷ 32 ∷ behind) = split_held 44 (codes " ") x y in
      let next : first_at (ends_symbols prefix) (behind ++ (44 ∷ 32 ∷ w)) ≡ length behind = symbols_within n prefix e behind w o none p.1 in
      subst (λ (t : List ℕ). first_at (ends_symbols prefix) (t ++ (44 ∷ 32 ∷ w)) ≡ length t) (sym split)
      (symbol_step prefix front behind (44 ∷ 32 ∷ w) (own_words prefix front (o front p.0)) (symbols_begin n prefix e behind o p.1) next)
  | inr z ↦ symbols_end prefix x w (own_words prefix x (o x (sym (cond-false (holds (codes ", ") x) _ _ z) ∙ h))) none
]

begins_as_none : (prefix h z : List ℕ) → list_all is_word prefix ≡ true → Stops is_word z → starts_with eqb h prefix ≡ false → starts_with eqb (h ++ z) prefix ≡ false
begins_as_none [] h z w s n = n
begins_as_none (a ∷ p) [] [] w s n = n
begins_as_none (a ∷ p) [] (b ∷ z) w s n = and_left (eqb a b) _ (ne_eqb a b (λ e. both_ways (is_word b) s (ap is_word (sym e) ∙ (and_parts (is_word a) (list_all is_word p) w).0)))
begins_as_none (a ∷ p) (b ∷ h) z w s n = elim (cases_Bool (eqb a b)) [
  | inl y ↦
      let rest : starts_with eqb h p ≡ false = sym (ap (λ x. x && starts_with eqb h p) y) ∙ n in
      and_right (eqb a b) _ (begins_as_none p h z (and_parts (is_word a) (list_all is_word p) w).1 s rest)
  | inr z ↦ and_left (eqb a b) _ z
]

abbrev SymbolsFound : List ℕ → List (List ℕ) → List Piece → List ℕ → Type 0
SymbolsFound prefix holes parts x = first_at (ends_symbols prefix) (x ++ line_of prefix holes parts) ≡ length x

comma_first : (prefix : List ℕ) (holes : List (List ℕ)) (e : _) (x t : List ℕ) (s : Slot) (ps : List Piece) → are_words prefix ≡ true → ((y : List ℕ) → is_element prefix e y ≡ true → is_own prefix y ≡ true) → is_joined prefix e (codes ", ") x ≡ true → is_comma t s ps ≡ true →
    AreMet prefix holes (asks_symbols s) → SymbolsFound prefix holes ((t, s) ∷ ps) x
unfolding line_of is_joined
comma_first prefix holes e x t Nothing ps w o f h m = absurd (both_ways false refl h)
comma_first prefix holes e x t Prefix ps w o f h m = absurd (both_ways false refl h)
comma_first prefix holes e x t (Hole j) ps w o f h m =
    let text : List ℕ = get_or holes j [] in
    let line : List ℕ = line_of prefix holes ps in
    let q = and_parts (bytes_eq t (codes ", ")) (is_apart ps) h in
    let comma : t ≡ codes ", " = (bytes_eq-Decides t (codes ", ")).0 q.0 in
    let whole : (t ++ text) ++ line ≡ 44 ∷ 32 ∷ (text ++ line) = ap (λ (y : List ℕ). (y ++ text) ++ line) comma in
    let none : starts_with eqb (text ++ line) prefix ≡ false = begins_as_none prefix text line w (apart prefix holes ps q.1).0 m.0 in
    ap (λ (y : List ℕ). first_at (ends_symbols prefix) (x ++ y)) whole ∙ symbols_within (length x) prefix e x (text ++ line) o none f

pub symbols_first : (prefix : List ℕ) (holes : List (List ℕ)) (n : ℕ) (e : _) (x : List ℕ) (parts : List Piece) → are_words prefix ≡ true → ((y : List ℕ) → is_element prefix e y ≡ true → is_own prefix y ≡ true) → is_joined prefix e (codes ", ") x ≡ true → is_listed parts ≡ true →
    AreMet prefix holes (kind_asks kind.Symbols n parts) → SymbolsFound prefix holes parts x
symbols_first prefix holes n e x [] w o f h m = absurd (both_ways false refl h)
symbols_first prefix holes n e x (p ∷ ps) w o f h m = comma_first prefix holes e x p.0 p.1 ps w o f h m
