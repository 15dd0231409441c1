-- A line that is read tells as many holes as its pieces say.
use Rattle.std.proofs.Common.{◌≡◌, ℕ, ◌+◌, ◌==◌, suc, true, List, [], ◌∷◌, ◌++◌, length, get_or, take, drop, Some, None, sym, ◌∙◌, ap, arith, ltb, ⊎_elim, length-append}
use Rattle.std.proofs.lemmas.Bool.{cond-true, cond-false, eq-eqb, ne_eqb, ltb-true, ltb-false}
use Rattle.lp_form.specs.declared.template.Kind.{Kind}
use Rattle.lp_form.specs.declared.template.Slot.{Slot}
use Rattle.lp_form.specs.declared.template.Slot.TheVariants.{Nothing, Prefix, Hole}
use Rattle.lp_form.specs.Templates.{Piece}
use Rattle.lp_spelling.specs.HoleEnds.{hole_len}
use Rattle.lp_spelling.specs.LineHoles.{known_after, known_in}
use Rattle.lp_spelling.specs.LineReading.{after, kind_of, new_at, slot_at, part_at, line_at}
use Rattle.lp_spelling.proofs.Reading.{bind_some, guard_some, chosen}

-- what is known, of an answer
known_is : {A B : Type 0} (a : A) (b : B) (x : A × B) → Some (a, b) ≡ Some x → a ≡ x.0
known_is a b x h = let e : (a, b) ≡ x = cc in ap (λ y. y.0) e

new_counts : (prefix : List ℕ) (kinds : List Kind) (k : ℕ) (parts : List Piece) (known : List (List ℕ)) (text : List ℕ) (x : List (List ℕ) × List ℕ) → k ≡ length known →
    new_at prefix kinds k parts known text ≡ Some x → length x.0 ≡ known_after (Hole k) (length known)
unfolding new_at
new_counts prefix kinds k parts known text x is h =
    let n : ℕ = hole_len prefix (kind_of kinds k) k parts known text in
    let e = known_is (known ++ take n text ∷ []) (drop n text) x h in
    let size : length x.0 ≡ length known + 1 = ap length (sym e) ∙ length-append known (take n text ∷ []) in
    let next : known_after (Hole k) (length known) ≡ suc (length known) = cond-true (k == length known) (suc (length known)) (length known) (eq-eqb k (length known) is) in
    omega (arith, size, next)

slot_counts : (prefix : List ℕ) (kinds : List Kind) (slot : Slot) (parts : List Piece) (known : List (List ℕ)) (text : List ℕ) (x : List (List ℕ) × List ℕ) →
    slot_at prefix kinds slot parts known text ≡ Some x → length x.0 ≡ known_after slot (length known)
unfolding slot_at
slot_counts prefix kinds Nothing parts known text x h = ap length (sym (known_is known text x h))
slot_counts prefix kinds Prefix parts known text x h =
    let b = bind_some (after prefix text) (λ rest. Some (known, rest)) x h in
    ap length (sym (known_is known b.0 x b.2))
slot_counts prefix kinds (Hole k) parts known text x h =
    ⊎_elim
    (λ p.
    let b = bind_some (after (get_or known k []) text) (λ rest. Some (known, rest)) x p.1 in
    let lt = ltb-true k (length known) p.0 in
    let size = ap length (known_is known b.0 x b.2) in
    let same : known_after (Hole k) (length known) ≡ length known = cond-false (k == length known) (suc (length known)) (length known) (ne_eqb k (length known) (λ i. omega (arith, i, lt))) in
    omega (arith, size, same))
    (λ p.
    ⊎_elim
    (λ q. cc (q.1))
    (λ q.
    let a = ltb-false k (length known) p.0 in
    let b = ltb-false (length known) k q.0 in
    new_counts prefix kinds k parts known text x (omega (arith, a, b)) q.1)
    (chosen (ltb (length known) k) None (new_at prefix kinds k parts known text) (Some x) p.1))
    (chosen (ltb k (length known)) _ _ (Some x) h)

-- a line tells so many holes
pub line_counts : (prefix : List ℕ) (kinds : List Kind) (parts : List Piece) (known : List (List ℕ)) (text : List ℕ) (holes : List (List ℕ)) →
    line_at prefix kinds parts known text ≡ Some holes → length holes ≡ known_in parts (length known)
unfolding line_at
line_counts prefix kinds [] known text holes h =
    let p : ((length text == 0) ≡ true) × (Some known ≡ Some holes) = guard_some (length text == 0) (Some known) holes h in
    let e : known ≡ holes = cc in
    ap length (sym e)
line_counts prefix kinds (p ∷ parts) known text holes h =
    let b = bind_some (part_at prefix kinds p parts known text) (λ x. line_at prefix kinds parts x.0 x.1) holes h in
    let a = bind_some (after p.0 text) (λ rest. slot_at prefix kinds p.1 parts known rest) b.0 b.1 in
    line_counts prefix kinds parts b.0.0 b.0.1 holes b.2 ∙ ap (known_in parts) (slot_counts prefix kinds p.1 parts known a.0 b.0 a.2)
