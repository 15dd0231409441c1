-- What settles in a text with a line feed and more behind it.
use Rattle.std.proofs.Common.{◌≡◌, ℕ, ◌+◌, ◌-◌, ◌<◌, ◌≤◌, zero, suc, inl, inr, List, [], ◌∷◌, ◌++◌, length, refl, sym, ap, ◌∙◌, subst, arith, append_assoc, length-append}
use Rattle.std.specs.Str.{IsUtf8, chars, trim_start}
use Rattle.std.proofs.lemmas.Bool.{both_ways, cases_Bool}
use Rattle.std.proofs.lemmas.List.{append_cancel_left, append_cancel_right}
use Rattle.lp_spelling.specs.Counting.{feeds, is_skipped, settled}
use Rattle.lp_spelling.proofs.Counting.{settled_none}
use Rattle.lp_local.specs.Agreeing.{first_lines, Agree, lines_before}
use Rattle.lp_local.proofs.Agreeing.{before_rest, agree_front, feed_front, split_first}
use Rattle.lp_local.proofs.Settling.{skips_first, counts_first, skips_last, counts_last, SettledShared, settled_shared}

-- what is told of a text: with a line feed and more behind it, what settles has them behind it; where nothing settles, that of the rest does
abbrev JoinsWith : List ℕ → List ℕ → Type 0
JoinsWith t r = (0 < length (settled t) → settled (t ++ 10 ∷ r) ≡ settled t ++ 10 ∷ r) × (settled t ≡ [] → settled (t ++ 10 ∷ r) ≡ settled r)

last_joins : (t r : List ℕ) → 0 < length t → feeds t ≡ 0 → JoinsWith t r
last_joins t r some none = elim (cases_Bool (is_skipped (trim_start t))) [
  | inl y ↦ (λ more. (let e = ap length (skips_last t some none y) in absurd (omega (arith, e, more))), λ e. skips_first t r none y)
  | inr n ↦
      let here : settled t ≡ trim_start t = counts_last t some none n in
      let on : settled (t ++ 10 ∷ r) ≡ settled t ++ 10 ∷ r = counts_first t r none n ∙ ap (λ (x : List ℕ). x ++ 10 ∷ r) (sym here) in
      (λ more. on, λ e. absurd (both_ways (is_skipped (trim_start t)) n (ap is_skipped (sym here ∙ e))))
]

no_text : trim_start [] ≡ []
unfolding trim_start chars
no_text = refl

within_joins : (m : ℕ) (t r : List ℕ) → length t ≤ m → JoinsWith t r
within_joins m [] r le = (λ more. (let e = ap length settled_none in absurd (omega (arith, e, more))), λ e. skips_first [] r refl (ap is_skipped no_text))
within_joins zero (b ∷ t) r le = absurd (omega arith)
within_joins (suc m) (b ∷ t) r le = elim (split_first (b ∷ t)) [
  | inl none ↦ last_joins (b ∷ t) r (omega arith) none
  | inr f ↦
      let size : length (b ∷ t) ≡ length f.line + length (10 ∷ f.rest) = ap length f.whole ∙ length-append f.line (10 ∷ f.rest) in
      let next = within_joins m f.rest r (omega (arith, size, le)) in
      let whole : (b ∷ t) ++ 10 ∷ r ≡ f.line ++ 10 ∷ (f.rest ++ 10 ∷ r) = ap (λ (x : List ℕ). x ++ 10 ∷ r) f.whole ∙ append_assoc f.line (10 ∷ f.rest) (10 ∷ r) in
      elim (cases_Bool (is_skipped (trim_start f.line))) [
        | inl y ↦
            let here : settled (b ∷ t) ≡ settled f.rest = ap settled f.whole ∙ skips_first f.line f.rest f.within y in
            let there : settled ((b ∷ t) ++ 10 ∷ r) ≡ settled (f.rest ++ 10 ∷ r) = ap settled whole ∙ skips_first f.line (f.rest ++ 10 ∷ r) f.within y in
            (λ more. there ∙ next.0 (subst (λ (x : List ℕ). 0 < length x) here more) ∙ ap (λ (x : List ℕ). x ++ 10 ∷ r) (sym here), λ e. there ∙ next.1 (sym here ∙ e))
        | inr n ↦
            let here : settled (b ∷ t) ≡ trim_start f.line ++ 10 ∷ f.rest = ap settled f.whole ∙ counts_first f.line f.rest f.within n in
            let there : settled ((b ∷ t) ++ 10 ∷ r) ≡ trim_start f.line ++ 10 ∷ (f.rest ++ 10 ∷ r) = ap settled whole ∙ counts_first f.line (f.rest ++ 10 ∷ r) f.within n in
            let some : length (settled (b ∷ t)) ≡ length (trim_start f.line) + length (10 ∷ f.rest) = ap length here ∙ length-append (trim_start f.line) (10 ∷ f.rest) in (
              λ more. there ∙ sym (append_assoc (trim_start f.line) (10 ∷ f.rest) (10 ∷ r)) ∙ ap (λ (x : List ℕ). x ++ 10 ∷ r) (sym here),
              λ e. (let none = ap length e in absurd (omega (arith, some, none))),
            )
      ]
]

-- what settles in a text settles with a line feed and more behind it
pub settled_on : (t r : List ℕ) → 0 < length (settled t) → settled (t ++ 10 ∷ r) ≡ settled t ++ 10 ∷ r
settled_on t r more = (within_joins (length t) t r (omega arith)).0 more

-- where nothing settles, what is behind the line feed does
pub settled_past : (t r : List ℕ) → settled t ≡ [] → settled (t ++ 10 ∷ r) ≡ settled r
settled_past t r e = (within_joins (length t) t r (omega arith)).1 e

agree_none : (a b : List ℕ) → Agree 0 a b
unfolding first_lines
agree_none [] [] = refl
agree_none [] (d ∷ b) = refl
agree_none (c ∷ a) [] = refl
agree_none (c ∷ a) (d ∷ b) = refl

-- the same line settles, whatever stands behind its line feed
pub settled_again : (front line r q : List ℕ) → IsUtf8 (front ++ (line ++ 10 ∷ r)) → feeds line ≡ 0 → settled (front ++ (line ++ 10 ∷ r)) ≡ line ++ 10 ∷ r → settled (front ++ (line ++ 10 ∷ q)) ≡ line ++ 10 ∷ q
settled_again front line r q u none e =
    let a : List ℕ = front ++ (line ++ 10 ∷ r) in
    let b : List ℕ = front ++ (line ++ 10 ∷ q) in
    let n : ℕ = suc (feeds front) in
    let size = length-append line (10 ∷ r) in
    let some : 0 < length (settled a) = subst (λ (x : List ℕ). 0 < length x) (sym e) (omega (arith, size)) in
    let whole : a ≡ front ++ settled a = ap (λ (x : List ℕ). front ++ x) (sym e) in
    let before : lines_before a (settled a) ≡ feeds front = before_rest front (settled a) a whole in
    let one : 1 ≡ n - feeds front = omega arith in
    let all : 1 ≡ 1 - feeds line = omega (arith, none) in
    let last : Agree 1 (line ++ 10 ∷ r) (line ++ 10 ∷ q) = agree_front 1 line (10 ∷ r) (10 ∷ q) (omega (arith, none)) (subst (λ i. Agree i (10 ∷ r) (10 ∷ q)) all (feed_front 0 r q (agree_none r q))) in
    let agree : Agree n a b = agree_front n front (line ++ 10 ∷ r) (line ++ 10 ∷ q) (omega arith) (subst (λ i. Agree i (line ++ 10 ∷ r) (line ++ 10 ∷ q)) one last) in
    let s : SettledShared n a b = settled_shared n a b u some (omega (arith, before)) agree in
    let same : s.front ≡ front = append_cancel_right s.front front (settled a) (sym s.a_is ∙ whole) in
    sym (append_cancel_left front (line ++ 10 ∷ q) (settled b) (s.b_is ∙ ap (λ (x : List ℕ). x ++ settled b) same))
