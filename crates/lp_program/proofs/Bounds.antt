-- The line that a refusal names is at most one past the last: past it nothing more is told.
use Rattle.std.proofs.Common.{◌≡◌, ℕ, zero, suc, ◌+◌, ◌-◌, ◌^◌, ◌<◌, ◌==◌, min, true, inl, inr, List, [], ◌∷◌, ◌++◌, length, take, refl, sym, ap, ◌∙◌, arith, subst}
use Rattle.std.proofs.lemmas.Bool.{cases_Bool, cases_lt, cond_both, cond-true, cond-false}
use Rattle.std.proofs.lemmas.List.{nil_from_length}
use Rattle.lp_form.specs.declared.part.Part.TheVariants as part
use Rattle.lp_spelling.specs.Counting.{feeds}
use Rattle.lp_spelling.specs.LineNumbers.{line_number, is_ended, past_last}
use Rattle.lp_local.specs.Agreeing.{first_lines, Agree}
use Rattle.lp_local.proofs.Agreeing.{agree_all, agree_back, agree_past, agree_same, feeds-append, feeds_feed, feeds_text, past_more}
use Rattle.lp_program.specs.declared.read.reader.ReadFault.TheVariants as fault
use Rattle.lp_program.specs.Choosing.{HasNumbers, IsRefused}
use Rattle.lp_program.specs.Starting.{BegunBefore, IsBegun, Starts}
use Rattle.lp_program.specs.Starting.Goal.{one_part}
use Rattle.lp_program.proofs.Fronts.{lines_again_of}
use Rattle.lp_program.proofs.Prefixes.{numbers_fit}
use Rattle.lp_program.proofs.UseBegun.{ended_last}

-- a text of less than n line feeds has no more than n lines
all_lines : (n : ℕ) (t : List ℕ) → feeds t < n → first_lines n t ≡ t
all_lines n t lt = sym (agree_all n t (first_lines n t) lt (sym (lines_again_of n t)))

-- one that ends with a line feed has no more lines than line feeds
feed_lines : (x : List ℕ) → first_lines (suc (feeds x)) (x ++ 10 ∷ []) ≡ x ++ 10 ∷ []
unfolding first_lines
feed_lines [] = refl
feed_lines (b ∷ x) = elim (cases_Bool (b == 10)) [
  | inl y ↦
      let n : ℕ = feeds (b ∷ x) in
      let count = feeds_feed b x y in
      let k : n ≡ suc (feeds x) = omega (arith, count) in
      ap (λ i. b ∷ first_lines i (x ++ 10 ∷ [])) (cond-true (b == 10) n (suc n) y ∙ k) ∙ ap (λ (t : List ℕ). b ∷ t) (feed_lines x)
  | inr z ↦
      let n : ℕ = feeds (b ∷ x) in
      let count = feeds_text b x z in
      let k : suc n ≡ suc (feeds x) = omega (arith, count) in
      ap (λ i. b ∷ first_lines i (x ++ 10 ∷ [])) (cond-false (b == 10) n (suc n) z ∙ k) ∙ ap (λ (t : List ℕ). b ∷ t) (feed_lines x)
]

no_text : (n : ℕ) → first_lines n [] ≡ []
unfolding first_lines
no_text zero = refl
no_text (suc n) = refl

ended_lines : (t : List ℕ) → is_ended t ≡ true → first_lines (feeds t) t ≡ t
ended_lines t ends = elim (cases_lt 0 (length t)) [
  | inr none ↦
      let e : t ≡ [] = nil_from_length t (omega (arith, none)) in
      ap (first_lines (feeds t)) e ∙ no_text (feeds t) ∙ sym e
  | inl some ↦
      let x : List ℕ = take (length t - 1) t in
      let whole : t ≡ x ++ 10 ∷ [] = ended_last t ends some in
      let parts : feeds t ≡ feeds x + 1 = ap feeds whole ∙ feeds-append x (10 ∷ []) in
      let count : feeds t ≡ suc (feeds x) = omega (arith, parts) in
      ap (λ i. first_lines i t) count ∙ ap (first_lines (suc (feeds x))) whole ∙ feed_lines x ∙ sym whole
]

-- the lines before one past the last are all
last_lines : (text : List ℕ) → past_last text < 2 ^ 64 - 1 → first_lines (past_last text - 1) text ≡ text
last_lines text small = elim (cases_Bool (is_ended text)) [
  | inl ends ↦
      let at : past_last text ≡ line_number (feeds text) = cond-true (is_ended text) (line_number (feeds text)) (line_number (line_number (feeds text))) ends in
      let count : past_last text - 1 ≡ feeds text = omega (arith, at, small) in
      ap (λ k. first_lines k text) count ∙ ended_lines text ends
  | inr open_ ↦
      let at : past_last text ≡ line_number (line_number (feeds text)) = cond-false (is_ended text) (line_number (feeds text)) (line_number (line_number (feeds text))) open_ in
      all_lines (past_last text - 1) text (omega (arith, at, small))
]

-- it is past all line feeds
counted : (text : List ℕ) → past_last text < 2 ^ 64 - 1 → feeds text + 1 < 2 ^ 64
counted text =
    cond_both (is_ended text) (line_number (feeds text)) (line_number (line_number (feeds text))) (λ (k : ℕ). k < 2 ^ 64 - 1 → feeds text + 1 < 2 ^ 64) (λ y h. omega arith) (λ z h. omega arith)

-- as much begins before it as before any line behind
pub begun_within : (text : List ℕ) (looked line : ℕ) → looked < 2 ^ 64 → line ≡ min looked (past_last text) → BegunBefore looked text → IsBegun text (fault.NoForm line)
begun_within text looked line small at b = (omega (arith, at), before)
  where
    same : first_lines (looked - 1) text ≡ first_lines (line - 1) text
    same = elim (cases_lt (past_last text) looked) [
      | inr le ↦ (let e : looked - 1 ≡ line - 1 = omega (arith, le, at) in ap (λ k. first_lines k text) e)
      | inl lt ↦
          let few : past_last text < 2 ^ 64 - 1 = omega (arith, lt, small) in
          let more = past_more text (counted text few) in
          let e : past_last text - 1 ≡ line - 1 = omega (arith, lt, at) in
          all_lines (looked - 1) text (omega (arith, lt, more)) ∙ sym (last_lines text few) ∙ ap (λ k. first_lines k text) e
    ]

    before : BegunBefore line text
    before = (b.0, b.1, b.2, subst (λ (t : List ℕ). Starts b.0 (one_part part.Program) t) same b.3)

-- and no other text has the same lines up to it
further : (text other : List ℕ) (looked line : ℕ) → length text < 2 ^ 64 → HasNumbers text → line ≡ min looked (past_last text) → Agree line other text → Agree looked other text
further text other looked line size numbers at agree = elim (cases_lt (past_last text) looked) [
  | inr le ↦ (let e : line ≡ looked = omega (arith, le, at) in subst (λ k. Agree k other text) e agree)
  | inl lt ↦ agree_same looked other text (sym (agree_past line text other (numbers_fit text size numbers) (omega (arith, lt, at)) (agree_back line other text agree)))
]

pub refused_within : (text : List ℕ) (looked line : ℕ) → length text < 2 ^ 64 → line ≡ min looked (past_last text) → IsRefused text (fault.NoForm looked) → IsRefused text (fault.NoForm line)
refused_within text looked line size at refused numbers =
    let r = refused numbers in
    (r.0, r.1, λ other v agree program same chosen. r.2 other v (further text other looked line size numbers at agree) program same chosen)
