-- What one character does to the end of a string, and a string to the end of an attribute.
use Rattle.std.proofs.Common.{◌≡◌, ℕ, ◌+◌, ◌-◌, ◌<◌, List, [], ◌∷◌, refl, sym, ap, ◌∙◌, inl, inr, zero, suc, arith}
use Rattle.std.specs.Prelude.{Some, None, option_and_then, if◌then◌else◌, ◌==◌}
use Rattle.std.proofs.lemmas.Bool.{ne_eqb, eq-eqb}
use Rattle.std.proofs.lemmas.Bool.Decides.{eqb_tells}
use Rattle.lp_tok.specs.Scans.{past, past_any, from_unescaped, past_hashes, after_comment, after_attribute, String, NoString}

-- a character that is neither the quote nor a `\` is passed
pub unescaped_plain : (q c : ℕ) (cs : List ℕ) → (c ≡ q → ⊥) → (c ≡ 92 → ⊥) → from_unescaped q (c ∷ cs) ≡ from_unescaped q cs
unescaped_plain q c [] other plain = rw (ne_eqb c q other) refl
unescaped_plain q c (d ∷ cs) other plain = rw (ne_eqb c q other, ne_eqb c 92 plain) refl

-- a `\` is passed with the character after it
pub unescaped_escape : (q c : ℕ) (cs : List ℕ) → (c ≡ q → ⊥) → c ≡ 92 → from_unescaped q (c ∷ cs) ≡ from_unescaped q (past_any cs)
unescaped_escape q c [] other escape = rw (ne_eqb c q other) refl
unescaped_escape q c (d ∷ cs) other escape = rw (ne_eqb c q other, eq-eqb c 92 escape) refl

-- a string in an attribute ends at its next quote that no `\` escapes
pub attribute_string : (n : ℕ) (cs : List ℕ) → after_attribute String n cs ≡ option_and_then (after_attribute NoString n) (past 34 (from_unescaped 34 cs))
attribute_string n [] = refl
attribute_string n (c ∷ []) = elim (eqb_tells c 34) [
  | inl h ↦ rw h.0 (rw h.0 refl)
  | inr h ↦ elim (eqb_tells c 92) [ inl k ↦ rw (h.0, k.0) refl | inr k ↦ rw (h.0, k.0) refl ]
]
attribute_string n (c ∷ d ∷ cs) = elim (eqb_tells c 34) [
  | inl h ↦ rw h.0 (rw h.0 refl)
  | inr h ↦ elim (eqb_tells c 92) [ inl k ↦ rw (h.0, k.0) (attribute_string n cs) | inr k ↦ rw (h.0, k.0) (attribute_string n (d ∷ cs)) ]
]

-- a character that means nothing in an attribute is passed
pub attribute_other : (n c : ℕ) (cs : List ℕ) → (c ≡ 34 → ⊥) → (c ≡ 91 → ⊥) → (c ≡ 93 → ⊥) → (c ≡ 10 → ⊥) → after_attribute NoString n (c ∷ cs) ≡ after_attribute NoString n cs
attribute_other n c cs quote left right line = rw (ne_eqb c 34 quote, ne_eqb c 91 left, ne_eqb c 93 right, ne_eqb c 10 line) refl

-- what comes first, where something follows it
pub past_some : (c : ℕ) (cs r : List ℕ) → Some r ≡ past c cs → cs ≡ c ∷ r
past_some c [] r found = cc
past_some c (d ∷ cs) r found = elim (eqb_tells d c) [
  | inl h ↦ let same = rw h.0 at found in let e : d ≡ c = h.1 in cc
  | inr h ↦ let none = rw h.0 at found in absurd cc
]

-- a `/` with no `*` after it is passed
pub comment_slash : (n : ℕ) (cs : List ℕ) → None ≡ past 42 cs → after_comment n (47 ∷ cs) ≡ after_comment n cs
comment_slash n [] none = refl
comment_slash n (d ∷ cs) none = elim (eqb_tells d 42) [
  | inl h ↦ let some = rw h.0 at none in absurd cc
  | inr h ↦ rw h.0 refl
]

-- a `*` with no `/` after it is passed
pub comment_star : (n : ℕ) (cs : List ℕ) → None ≡ past 47 cs → after_comment n (42 ∷ cs) ≡ after_comment n cs
comment_star n [] none = refl
comment_star n (d ∷ cs) none = elim (eqb_tells d 47) [
  | inl h ↦ let some = rw h.0 at none in absurd cc
  | inr h ↦ rw h.0 refl
]

-- any other character is passed
pub comment_other : (n c : ℕ) (cs : List ℕ) → (c ≡ 47 → ⊥) → (c ≡ 42 → ⊥) → after_comment n (c ∷ cs) ≡ after_comment n cs
comment_other n c [] slash star = refl
comment_other n c (d ∷ cs) slash star = rw (ne_eqb c 47 slash, ne_eqb c 42 star) refl

-- the marks of a comment, at what is left
module _ (n c : ℕ) (here next : List ℕ) (first : here ≡ c ∷ next) where
  pub mark_opens : (after : List ℕ) → c ≡ 47 → Some after ≡ past 42 next → after_comment n here ≡ after_comment (n + 1) after
  mark_opens after slash found = ap (after_comment n) (first ∙ (λ i. slash i ∷ past_some 42 next after found i))

  pub mark_closes : (after : List ℕ) → c ≡ 42 → Some after ≡ past 47 next → after_comment n here ≡ (if n == 0 then Some after else after_comment (n - 1) after)
  mark_closes after star found = ap (after_comment n) (first ∙ (λ i. star i ∷ past_some 47 next after found i))

  pub mark_slash : c ≡ 47 → None ≡ past 42 next → after_comment n here ≡ after_comment n next
  mark_slash slash none = ap (after_comment n) (first ∙ (λ i. slash i ∷ next)) ∙ comment_slash n next none

  pub mark_star : c ≡ 42 → None ≡ past 47 next → after_comment n here ≡ after_comment n next
  mark_star star none = ap (after_comment n) (first ∙ (λ i. star i ∷ next)) ∙ comment_star n next none

  pub mark_other : (c ≡ 47 → ⊥) → (c ≡ 42 → ⊥) → after_comment n here ≡ after_comment n next
  mark_other slash star = ap (after_comment n) first ∙ comment_other n c next slash star

-- a string and a bracket in an attribute, at what is left
module _ (n c : ℕ) (here next : List ℕ) (first : here ≡ c ∷ next) where
  pub attribute_passes : (end after : List ℕ) → c ≡ 34 → end ≡ from_unescaped 34 next → Some after ≡ past 34 end → after_attribute NoString n here ≡ after_attribute NoString n after
  attribute_passes end after is found closes = ap (after_attribute NoString n) (first ∙ (λ i. is i ∷ next)) ∙ attribute_string n next ∙ ap (λ e. option_and_then (after_attribute NoString n) (past 34 e)) (sym found) ∙ ap (option_and_then (after_attribute NoString n)) (sym closes)

  pub attribute_opens : c ≡ 91 → after_attribute NoString n here ≡ after_attribute NoString (n + 1) next
  attribute_opens is = ap (after_attribute NoString n) (first ∙ (λ i. is i ∷ next))

-- hashes, one at a time
pub past_hashes_some : (n : ℕ) (cs r : List ℕ) → 0 < n → Some r ≡ past 35 cs → past_hashes n cs ≡ past_hashes (n - 1) r
past_hashes_some zero cs r some found = absurd (omega arith)
past_hashes_some (suc n) cs r some found = let less : suc n - 1 ≡ n = omega arith in rw (past_some 35 cs r found, less) refl

pub past_hashes_none : (n : ℕ) (cs : List ℕ) → 0 < n → None ≡ past 35 cs → past_hashes n cs ≡ None
past_hashes_none zero cs some none = absurd (omega arith)
past_hashes_none (suc n) [] some none = refl
past_hashes_none (suc n) (c ∷ cs) some none = elim (eqb_tells c 35) [
  | inl h ↦ let found = rw h.0 at none in absurd cc
  | inr h ↦ rw h.0 refl
]

pub past_hashes_zero : (n : ℕ) (cs : List ℕ) → (0 < n → ⊥) → past_hashes n cs ≡ Some cs
past_hashes_zero zero cs none = refl
past_hashes_zero (suc n) cs none = absurd (none (omega arith))
