-- A line that is spelled by its pieces has their signs, and ends with their last literal text.
use Rattle.std.proofs.Common.{◌≡◌, ℕ, ◌<◌, true, List, [], ◌∷◌, ◌++◌, length, map, get_or, drop, codes, inl, inr, refl, sym, ◌∙◌, ap, subst, eqb, ltb, append_assoc, append-nil}
use Rattle.std.specs.List.{starts_with}
use Rattle.std.proofs.lemmas.Bool.{and_parts, cases_Bool, cond-true, cond-false, ltb-true}
use Rattle.lp_form.specs.declared.template.Kind.{Kind}
use Rattle.lp_form.specs.declared.template.Kind.TheVariants as kind
use Rattle.lp_form.specs.declared.template.Slot.{Slot}
use Rattle.lp_form.specs.declared.template.Slot.TheVariants.{Nothing, Prefix, Hole}
use Rattle.lp_form.specs.Templates.{Piece}
use Rattle.lp_spelling.specs.Lines.{slot_text, line_of}
use Rattle.lp_spelling.specs.Fillings.{has_shape, Fits, Fills}
use Rattle.lp_spelling.specs.LineReading.{kind_of}
use Rattle.lp_spelling.proofs.Reading.{starts_ok}
use Rattle.lp_reading_laws.specs.FirstLines.Signs.{Sign, Shows, kind_signs, slot_signs, signs}
use Rattle.lp_reading_laws.specs.FirstLines.Signs.Sign.{byte, unknown}
use Rattle.lp_reading_laws.specs.FirstLines.ApartTests.{end_text}

-- a slot's hole, where it has a kind, is filled
abbrev pub SlotFills : List ℕ → List Kind → List (List ℕ) → Slot → Type 0
SlotFills prefix kinds holes Nothing = Unit {0}
SlotFills prefix kinds holes Prefix = Unit {0}
SlotFills prefix kinds holes (Hole k) = k < length kinds → Fills prefix (kind_of kinds k) (get_or holes k [])

abbrev pub PartsFill : List ℕ → List Kind → List (List ℕ) → List Piece → Type 0
PartsFill prefix kinds holes [] = Unit {0}
PartsFill prefix kinds holes (p ∷ parts) = SlotFills prefix kinds holes p.1 × PartsFill prefix kinds holes parts

pub shows_text : (prefix t : List ℕ) (s : List Sign) (x : List ℕ) → Shows prefix s x → Shows prefix (map byte t ++ s) (t ++ x)
unfolding Shows
shows_text prefix [] s x h = h
shows_text prefix (b ∷ t) s x h = (t ++ x, refl, shows_text prefix t s x h)

-- a text that begins with another shows it, and then anything
begins_so : (prefix t text x : List ℕ) → starts_with eqb text t ≡ true → Shows prefix (map byte t ++ unknown ∷ []) (text ++ x)
unfolding Shows
begins_so prefix t text x h =
    let e : text ++ x ≡ t ++ (drop (length t) text ++ x) = ap (λ (y : List ℕ). y ++ x) (starts_ok t text h) ∙ append_assoc t (drop (length t) text) x in
    subst (λ (y : List ℕ). Shows prefix (map byte t ++ unknown ∷ []) y) (sym e) (shows_text prefix t (unknown ∷ []) (drop (length t) text ++ x) tt)

kind_shows : (prefix : List ℕ) (k : Kind) (more : List Sign) (text x : List ℕ) → Fills prefix k text → Shows prefix more x → Shows prefix (kind_signs k more) (text ++ x)
unfolding Shows Fits has_shape
kind_shows prefix kind.Attribute more text x f h = begins_so prefix (codes "#![") text x (and_parts (starts_with eqb text (codes "#![")) _ f.1.0).0
kind_shows prefix kind.Literal more text x f h =
    let some = and_parts (ltb 1 (length text)) _ f.1.0 in
    begins_so prefix (codes "\"") text x (and_parts (starts_with eqb text (codes "\"")) _ some.1).0
kind_shows prefix k more text x f h = (text, x, refl, f, h)

slot_shows : (prefix : List ℕ) (kinds : List Kind) (holes : List (List ℕ)) (slot : Slot) (more : List Sign) (x : List ℕ) → SlotFills prefix kinds holes slot → Shows prefix more x →
    Shows prefix (slot_signs kinds slot more) (slot_text prefix holes slot ++ x)
unfolding Shows
slot_shows prefix kinds holes Nothing more x f h = h
slot_shows prefix kinds holes Prefix more x f h = (x, refl, h)
slot_shows prefix kinds holes (Hole k) more x f h = elim (cases_Bool (ltb k (length kinds))) [
  | inl y ↦
      subst (λ (s : List Sign). Shows prefix s (get_or holes k [] ++ x)) (sym (cond-true (ltb k (length kinds)) _ _ y))
      (kind_shows prefix (kind_of kinds k) more (get_or holes k []) x (f (ltb-true k (length kinds) y)) h)
  | inr n ↦ subst (λ (s : List Sign). Shows prefix s (get_or holes k [] ++ x)) (sym (cond-false (ltb k (length kinds)) _ _ n)) tt
]

line_shows : (prefix : List ℕ) (kinds : List Kind) (holes : List (List ℕ)) (parts : List Piece) → PartsFill prefix kinds holes parts → Shows prefix (signs kinds parts) (line_of prefix holes parts)
unfolding Shows line_of
line_shows prefix kinds holes [] f = refl
line_shows prefix kinds holes (p ∷ parts) f =
    let line : List ℕ = line_of prefix holes parts in
    let e : (p.0 ++ slot_text prefix holes p.1) ++ line ≡ p.0 ++ (slot_text prefix holes p.1 ++ line) = append_assoc p.0 (slot_text prefix holes p.1) line in
    let slot = slot_shows prefix kinds holes p.1 (signs kinds parts) line f.0 (line_shows prefix kinds holes parts f.1) in
    subst (λ (y : List ℕ). Shows prefix (signs kinds (p ∷ parts)) y) (sym e) (shows_text prefix p.0 (slot_signs kinds p.1 (signs kinds parts)) (slot_text prefix holes p.1 ++ line) slot)

-- a text that ends with another
abbrev pub EndsWith : List ℕ → List ℕ → Type 0
EndsWith end x = (front : List ℕ) × (x ≡ front ++ end)

ends_more : (a end x : List ℕ) → EndsWith end x → EndsWith end (a ++ x)
ends_more a end x h = (a ++ h.0, ap (λ (y : List ℕ). a ++ y) h.1 ∙ sym (append_assoc a h.0 end))

line_ends : (prefix : List ℕ) (holes : List (List ℕ)) (parts : List Piece) → EndsWith (end_text parts) (line_of prefix holes parts)
unfolding line_of
line_ends prefix holes [] = ([], refl)
line_ends prefix holes ((text, Nothing) ∷ []) = ([], append-nil (text ++ []) ∙ append-nil text)
line_ends prefix holes ((text, Prefix) ∷ []) = ((text ++ prefix) ++ [], sym (append-nil _))
line_ends prefix holes ((text, Hole k) ∷ []) = ((text ++ get_or holes k []) ++ [], sym (append-nil _))
line_ends prefix holes ((text, Nothing) ∷ q ∷ parts) = ends_more (text ++ []) (end_text (q ∷ parts)) (line_of prefix holes (q ∷ parts)) (line_ends prefix holes (q ∷ parts))
line_ends prefix holes ((text, Prefix) ∷ q ∷ parts) = ends_more (text ++ prefix) (end_text (q ∷ parts)) (line_of prefix holes (q ∷ parts)) (line_ends prefix holes (q ∷ parts))
line_ends prefix holes ((text, Hole k) ∷ q ∷ parts) = ends_more (text ++ get_or holes k []) (end_text (q ∷ parts)) (line_of prefix holes (q ∷ parts)) (line_ends prefix holes (q ∷ parts))

-- a line of these pieces
pub record IsLine (prefix : List ℕ) (kinds : List Kind) (parts : List Piece) (x : List ℕ) : Type 0 where
  pub end : EndsWith (end_text parts) x
  pub shown : Shows prefix (signs kinds parts) x

pub is_line : (prefix : List ℕ) (kinds : List Kind) (holes : List (List ℕ)) (parts : List Piece) → PartsFill prefix kinds holes parts → IsLine prefix kinds parts (line_of prefix holes parts)
is_line prefix kinds holes parts f = record { end = line_ends prefix holes parts; shown = line_shows prefix kinds holes parts f }
