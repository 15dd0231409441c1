-- A line that was read is read again, by the holes that are known then.
use Rattle.std.proofs.Common.{◌≡◌, ℕ, ◌<◌, ◌==◌, inl, inr, List, [], ◌∷◌, ◌++◌, length, get_or, take, drop, Option, Some, None, refl, sym, ap, ◌∙◌, arith, ltb, subst, append_assoc, append-nil, length-append, take-append-drop}
use Rattle.std.proofs.lemmas.Bool.{cases_lt, cond-true, cond-false, lt-ltb, le-ltb}
use Rattle.std.proofs.lemmas.List.{get_or_append_left}
use Rattle.std.proofs.Math.Seq.{get_or-append_seam}
use Rattle.lp_form.specs.Templates.{Piece}
use Rattle.lp_form.specs.declared.template.Kind.{Kind}
use Rattle.lp_form.specs.declared.template.Slot.{Slot}
use Rattle.lp_form.specs.declared.template.Slot.TheVariants.{Nothing, Prefix, Hole}
use Rattle.lp_spelling.specs.HoleEnds.{hole_len}
use Rattle.lp_spelling.specs.LineReading.{◌>>=◌, after, kind_of, cut_at, new_at, slot_at, part_at, line_at}
use Rattle.lp_spelling.proofs.Reading.{after_again, bind_some, guard_some}

-- what is known after a part of a line, and the text behind it
abbrev Known : Type 0
Known = List (List ℕ) × List ℕ

-- of a slot: what is known grows, and where all that is known at last is known before, the same text is left
record SlotAgain (prefix : List ℕ) (kinds : List Kind) (slot : Slot) (parts : List Piece) (known : List (List ℕ)) (text : List ℕ) (x : Known) : Type 0 where
  more : List (List ℕ)
  grows : x.0 ≡ known ++ more
  again : (last : List (List ℕ)) → slot_at prefix kinds slot parts (x.0 ++ last) text ≡ Some (x.0 ++ last, x.1)

-- with what is known, what is left
abbrev with_known : List (List ℕ) → Option (List ℕ) → Option Known
with_known known o = o >>= λ rest. Some (known, rest)

-- a text that is known
text_again : (front text : List ℕ) (known : List (List ℕ)) (x : Known) → with_known known (after front text) ≡ Some x →
    (x.0 ≡ known) × ((all : List (List ℕ)) → with_known all (after front text) ≡ Some (all, x.1))
text_again front text known x e = of_after front text known x (after front text) e
  where
    of_after : (front text : List ℕ) (known : List (List ℕ)) (x : Known) (o : Option (List ℕ)) → with_known known o ≡ Some x →
        (x.0 ≡ known) × ((all : List (List ℕ)) → with_known all o ≡ Some (all, x.1))
    of_after front text known x None e = absurd cc
    of_after front text known x (Some rest) e =
        let pair : Known = (known, rest) in
        let same : pair ≡ x = cc in
        (sym (ap (λ (y : Known). y.0) same), λ all. ap (λ (y : Known). Some (all, y.1)) same)

-- a hole that is known is one of those that are known later
hole_known : (prefix : List ℕ) (kinds : List Kind) (k : ℕ) (parts : List Piece) (known : List (List ℕ)) (text : List ℕ) → k < length known →
    slot_at prefix kinds (Hole k) parts known text ≡ with_known known (after (get_or known k []) text)
unfolding slot_at
hole_known prefix kinds k parts known text lt = cond-true (ltb k (length known)) _ _ (lt-ltb k (length known) lt)

hole_far : (prefix : List ℕ) (kinds : List Kind) (k : ℕ) (parts : List Piece) (known : List (List ℕ)) (text : List ℕ) → length known < k → slot_at prefix kinds (Hole k) parts known text ≡ None
unfolding slot_at
hole_far prefix kinds k parts known text gt = cond-false (ltb k (length known)) _ _ (le-ltb k (length known) (omega arith)) ∙ cond-true (ltb (length known) k) _ _ (lt-ltb (length known) k gt)

hole_new : (prefix : List ℕ) (kinds : List Kind) (k : ℕ) (parts : List Piece) (known : List (List ℕ)) (text : List ℕ) → k ≡ length known →
    slot_at prefix kinds (Hole k) parts known text ≡ cut_at (hole_len prefix (kind_of kinds k) k parts known text) known text
unfolding slot_at new_at
hole_new prefix kinds k parts known text e = cond-false (ltb k (length known)) _ _ (le-ltb k (length known) (omega arith)) ∙ cond-false (ltb (length known) k) _ _ (le-ltb (length known) k (omega arith))

known_again : (prefix : List ℕ) (kinds : List Kind) (k : ℕ) (parts : List Piece) (known : List (List ℕ)) (text : List ℕ) (x : Known) → k < length known → slot_at prefix kinds (Hole k) parts known text ≡ Some x →
    SlotAgain prefix kinds (Hole k) parts known text x
known_again prefix kinds k parts known text x lt e =
    let t = text_again (get_or known k []) text known x (sym (hole_known prefix kinds k parts known text lt) ∙ e) in
    record {
      more = [];
      grows = t.0 ∙ sym (append-nil known);
      again = λ last.
          let all : List (List ℕ) = x.0 ++ last in
          let size = ap length t.0 in
          let longer = length-append x.0 last in
          let hole : get_or all k [] ≡ get_or known k [] = get_or_append_left x.0 last [] k (omega (arith, size, lt)) ∙ ap (λ (y : List (List ℕ)). get_or y k []) t.0 in
          hole_known prefix kinds k parts all text (omega (arith, size, longer, lt)) ∙ ap (λ (y : List ℕ). with_known all (after y text)) hole ∙ t.1 all;
    }

new_again : (prefix : List ℕ) (kinds : List Kind) (k : ℕ) (parts : List Piece) (known : List (List ℕ)) (text : List ℕ) (x : Known) → k ≡ length known → slot_at prefix kinds (Hole k) parts known text ≡ Some x →
    SlotAgain prefix kinds (Hole k) parts known text x
new_again prefix kinds k parts known text x at e =
    let n : ℕ = hole_len prefix (kind_of kinds k) k parts known text in
    let cut : Known = (known ++ take n text ∷ [], drop n text) in
    let found : Some cut ≡ Some x = sym (hole_new prefix kinds k parts known text at) ∙ e in
    let same : cut ≡ x = cc in
    subst (λ (y : Known). SlotAgain prefix kinds (Hole k) parts known text y) same (record {
      more = take n text ∷ [];
      grows = refl;
      again = λ last.
          let all : List (List ℕ) = (known ++ take n text ∷ []) ++ last in
          let whole : all ≡ known ++ take n text ∷ last = append_assoc known (take n text ∷ []) last in
          let size = ap length whole ∙ length-append known (take n text ∷ last) in
          let hole : get_or all k [] ≡ take n text
          = ap (λ (y : List (List ℕ)). get_or y k []) whole ∙ ap (λ i. get_or (known ++ take n text ∷ last) i []) at ∙ get_or-append_seam known (take n text) last [] in
          let read : after (take n text) text ≡ Some (drop n text) = ap (after (take n text)) (sym (take-append-drop n text)) ∙ after_again (take n text) (drop n text) in
          hole_known prefix kinds k parts all text (omega (arith, size, at)) ∙ ap (λ (y : List ℕ). with_known all (after y text)) hole
          ∙ ap (with_known all) read;
    })

slot_again : (prefix : List ℕ) (kinds : List Kind) (slot : Slot) (parts : List Piece) (known : List (List ℕ)) (text : List ℕ) (x : Known) → slot_at prefix kinds slot parts known text ≡ Some x → SlotAgain prefix kinds slot parts known text x
unfolding slot_at
slot_again prefix kinds Nothing parts known text x e =
    let pair : Known = (known, text) in
    let same : pair ≡ x = cc in
    subst (λ (y : Known). SlotAgain prefix kinds Nothing parts known text y) same (record { more = []; grows = sym (append-nil known); again = λ last. refl })
slot_again prefix kinds Prefix parts known text x e =
    let t = text_again prefix text known x e in
    record { more = []; grows = t.0 ∙ sym (append-nil known); again = λ last. t.1 (x.0 ++ last) }
slot_again prefix kinds (Hole k) parts known text x e = elim (cases_lt k (length known)) [
  | inl lt ↦ known_again prefix kinds k parts known text x lt e
  | inr ge ↦ elim (cases_lt (length known) k) [
    | inl far ↦ (let never : None ≡ Some x = sym (hole_far prefix kinds k parts known text far) ∙ e in absurd cc)
    | inr at ↦ new_again prefix kinds k parts known text x (omega (arith, ge, at)) e
  ]
]

-- of a line: the holes that are known at last are those that were known, and more; the line is read again where they are known
record LineAgain (prefix : List ℕ) (kinds : List Kind) (pieces : List Piece) (known holes : List (List ℕ)) (line : List ℕ) : Type 0 where
  more : List (List ℕ)
  grows : holes ≡ known ++ more
  again : line_at prefix kinds pieces holes line ≡ Some holes

abbrev line_behind : List ℕ → List Kind → List Piece → Option Known → Option (List (List ℕ))
line_behind prefix kinds parts o = o >>= λ x. line_at prefix kinds parts x.0 x.1

lines_again : (prefix : List ℕ) (kinds : List Kind) (pieces : List Piece) (known holes : List (List ℕ)) (line : List ℕ) → line_at prefix kinds pieces known line ≡ Some holes → LineAgain prefix kinds pieces known holes line
unfolding line_at
lines_again prefix kinds [] known holes line e =
    let over = guard_some (length line == 0) (Some known) holes e in
    let same : known ≡ holes = cc in
    subst (λ (h : List (List ℕ)). LineAgain prefix kinds [] known h line) same (record { more = []; grows = sym (append-nil known); again = cond-true (length line == 0) (Some known) None over.0 })
lines_again prefix kinds (p ∷ parts) known holes line e =
    let read = bind_some (part_at prefix kinds p parts known line) (λ (x : Known). line_at prefix kinds parts x.0 x.1) holes e in
    let x : Known = read.0 in
    let front = bind_some (after p.0 line) (λ (y : List ℕ). slot_at prefix kinds p.1 parts known y) x read.1 in
    let rest : List ℕ = front.0 in
    let slot : SlotAgain prefix kinds p.1 parts known rest x = slot_again prefix kinds p.1 parts known rest x front.2 in
    let others : LineAgain prefix kinds parts x.0 holes x.1 = lines_again prefix kinds parts x.0 holes x.1 read.2 in
    record {
      more = slot.more ++ others.more;
      grows = others.grows ∙ ap (λ (h : List (List ℕ)). h ++ others.more) slot.grows ∙ append_assoc known slot.more others.more;
      again =
          ap (λ (o : Option (List ℕ)). line_behind prefix kinds parts (o >>= λ y. slot_at prefix kinds p.1 parts holes y)) front.1
          ∙ ap (λ (h : List (List ℕ)). line_behind prefix kinds parts (slot_at prefix kinds p.1 parts h rest)) others.grows
          ∙ ap (line_behind prefix kinds parts) (slot.again others.more)
          ∙ ap (λ (h : List (List ℕ)). line_at prefix kinds parts h x.1) (sym others.grows)
          ∙ others.again;
    }

-- a line is read again by what was told of it
pub line_again : (prefix : List ℕ) (kinds : List Kind) (pieces : List Piece) (known holes : List (List ℕ)) (line : List ℕ) → line_at prefix kinds pieces known line ≡ Some holes → line_at prefix kinds pieces holes line ≡ Some holes
line_again prefix kinds pieces known holes line e = (lines_again prefix kinds pieces known holes line e).again
