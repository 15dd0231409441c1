-- Lines that are spelled part by part.
use Rattle.std.proofs.Common.{◌≡◌, ℕ, ◌+◌, ◌≤◌, List, [], ◌∷◌, ◌++◌, length, drop, Option, Some, None, Bor, refl, sym, ◌∙◌, ap, arith, append_assoc, append-nil, length-append}
use Rattle.std.specs.Option.{MatchOption, IfSome}
use Rattle.std.specs.Str.Pattern.{FindsTextPrefix}
use Rattle.std.proofs.lemmas.List.{get_or_append_left}
use Rattle.lp_form.specs.declared.template.Slot.{Slot}
use Rattle.lp_form.specs.declared.template.Slot.TheVariants.{Nothing, Prefix, Hole}
use Rattle.lp_form.specs.Templates.{Piece}
use Rattle.lp_spelling.specs.Lines.{slot_text, line_of, IsTold, AreTold, TakesSlot, TakesParts}

-- what is left of a text whose front is off
pub front_off : (front text : List ℕ) (r : Option (Bor (List ℕ))) →
    MatchOption r (FindsTextPrefix front text None) (λ x. (n : ℕ) × FindsTextPrefix front text (Some n) × (x.now ≡ drop n text) × (length x.now + n ≡ length text)) →
    IfSome r (λ x. text ≡ front ++ x.now)
front_off front text None h = tt
front_off front text (Some x) h = h.1.1 ∙ ap (λ y. front ++ y) (sym h.2)

-- more holes change nothing in a slot that is told
slot_stays : (prefix : List ℕ) (known more : List (List ℕ)) (slot : Slot) → IsTold (length known) slot →
    slot_text prefix (known ++ more) slot ≡ slot_text prefix known slot
slot_stays prefix known more Nothing h = refl
slot_stays prefix known more Prefix h = refl
slot_stays prefix known more (Hole k) h = get_or_append_left known more [] k h

-- more holes change nothing in parts that are told
pub line_stays : (prefix : List ℕ) (known more : List (List ℕ)) (parts : List Piece) → AreTold (length known) parts →
    line_of prefix (known ++ more) parts ≡ line_of prefix known parts
unfolding line_of AreTold
line_stays prefix known more [] h = refl
line_stays prefix known more (p ∷ ps) h =
    ap (λ x. (p.0 ++ x) ++ line_of prefix (known ++ more) ps) (slot_stays prefix known more p.1 h.0)
    ∙ ap (λ x. (p.0 ++ slot_text prefix known p.1) ++ x) (line_stays prefix known more ps h.1)

-- one part more
line_more : (prefix : List ℕ) (known : List (List ℕ)) (parts : List Piece) (p : Piece) →
    line_of prefix known (parts ++ p ∷ []) ≡ line_of prefix known parts ++ (p.0 ++ slot_text prefix known p.1)
unfolding line_of
line_more prefix known [] p = append-nil _
line_more prefix known (q ∷ qs) p =
    ap (λ x. (q.0 ++ slot_text prefix known q.1) ++ x) (line_more prefix known qs p)
    ∙ sym (append_assoc (q.0 ++ slot_text prefix known q.1) (line_of prefix known qs) (p.0 ++ slot_text prefix known p.1))

told_more : (n m : ℕ) (slot : Slot) → n ≤ m → IsTold n slot → IsTold m slot
told_more n m Nothing l h = tt
told_more n m Prefix l h = tt
told_more n m (Hole k) l h = omega arith

told_then : (n m : ℕ) (parts : List Piece) (p : Piece) → n ≤ m → AreTold n parts → IsTold m p.1 → AreTold m (parts ++ p ∷ [])
unfolding AreTold
told_then n m [] p l h i = (i, tt)
told_then n m (q ∷ qs) p l h i = (told_more n m q.1 l h.0, told_then n m qs p l h.1 i)

-- no part at all
pub takes_none : (prefix : List ℕ) (known : List (List ℕ)) (text : List ℕ) → TakesParts prefix [] known known text text
unfolding line_of AreTold
takes_none prefix known text = record { more = []; known = sym (append-nil known); told = tt; spelled = refl }

-- parts, a literal text, and what follows it
pub takes_more : (prefix : List ℕ) (parts : List Piece) (p : Piece) (old mid new : List (List ℕ)) (text rest after left : List ℕ) →
    TakesParts prefix parts old mid text rest → rest ≡ p.0 ++ after → TakesSlot prefix p.1 mid new after left →
    TakesParts prefix (parts ++ p ∷ []) old new text left
takes_more prefix parts p old mid new text rest after left a e s =
    let fits : length mid ≤ length new = omega (arith, ap length s.known, length-append mid s.more) in
    let same : line_of prefix new parts ≡ line_of prefix mid parts = ap (λ x. line_of prefix x parts) s.known ∙ line_stays prefix mid s.more parts a.told in
    let rest_is : rest ≡ (p.0 ++ slot_text prefix new p.1) ++ left = e ∙ ap (λ x. p.0 ++ x) s.spelled ∙ sym (append_assoc p.0 (slot_text prefix new p.1) left) in
    record {
      more = a.more ++ s.more;
      known = s.known ∙ ap (λ x. x ++ s.more) a.known ∙ append_assoc old a.more s.more;
      told = told_then (length mid) (length new) parts p fits a.told s.told;
      spelled = a.spelled ∙ ap (λ x. x ++ rest) (sym same) ∙ ap (λ x. line_of prefix new parts ++ x) rest_is
          ∙ sym (append_assoc (line_of prefix new parts) (p.0 ++ slot_text prefix new p.1) left)
          ∙ ap (λ x. x ++ left) (sym (line_more prefix new parts p));
    }

-- one piece after another, with what is left to write
pub two_pieces : (old mid new text slot rest all : List ℕ) → mid ≡ old ++ text → new ≡ mid ++ slot → old ++ ((text ++ slot) ++ rest) ≡ all → new ++ rest ≡ all
two_pieces old mid new text slot rest all p q r =
    let mid_is : ((old ++ text) ++ slot) ++ rest ≡ old ++ ((text ++ slot) ++ rest) = simp append_assoc in
    ap (λ x. x ++ rest) (q ∙ ap (λ x. x ++ slot) p) ∙ mid_is ∙ r
