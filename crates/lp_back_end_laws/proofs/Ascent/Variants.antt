-- Names that have numbers in a row have different numbers.
use Rattle.std.proofs.Common.{◌≡◌, ℕ, ◌+◌, ◌<◌, Bool, true, false, cond, List, [], ◌∷◌, length, Option, Some, None, refl, ap, sym, subst, ◌∙◌, arith}
use Rattle.std.specs.declared.cmp.Ordering.{Ordering}
use Rattle.std.specs.declared.cmp.Ordering.TheVariants.{Less, Equal, Greater}
use Rattle.std.specs.BTreeMap.{insert_entry}
use Rattle.std.specs.Ordering.{match_ordering, is_eq}
use Rattle.std.specs.Str.{bytes_eq}
use Rattle.std.proofs.lemmas.Slice.Eq.{bytes_eq-Decides}
use Rattle.lp_maker.specs.Making.{text_cmp, number_in, numbered_by, first_numbered}
use Rattle.lp_question_laws.proofs.Gotos.LinkMaps.{numbered_here, numbered_other, told_apart}
use Rattle.lp_back_end_laws.proofs.Ascent.Grows.{numbered_all}

pub record AreInRow (es : List (List ℕ × ℕ)) : Type 0 where
  pub few : (q : List ℕ) (k : ℕ) → number_in q es ≡ Some k → k < length es
  pub apart : (q r : List ℕ) (k : ℕ) → number_in q es ≡ Some k → number_in r es ≡ Some k → q ≡ r

-- a name without a number isn't the first, nor one of the others
new_behind : (v : List ℕ) (e : List ℕ × ℕ) (es : List (List ℕ × ℕ)) → number_in v (e ∷ es) ≡ None → (is_eq (text_cmp v e.0) ≡ false) × (number_in v es ≡ None)
new_behind v e es h = by (is_eq (text_cmp v e.0)) refl
  where
    by : (b : Bool) → is_eq (text_cmp v e.0) ≡ b → (is_eq (text_cmp v e.0) ≡ false) × (number_in v es ≡ None)
    by true is = let bad : Some e.1 ≡ None = sym (ap (λ (c : Bool). cond c (Some e.1) (number_in v es)) is) ∙ h in absurd cc
    by false is = (is, sym (ap (λ (c : Bool). cond c (Some e.1) (number_in v es)) is) ∙ h)

-- a new name makes them one more
put_length : (v : List ℕ) (n : ℕ) (es : List (List ℕ × ℕ)) → number_in v es ≡ None → length (insert_entry text_cmp es v n) ≡ length es + 1
put_length v n [] h = refl
put_length v n (e ∷ es) h = by (text_cmp v e.0) refl (put_length v n es (new_behind v e es h).1)
  where
    by : (o : Ordering) → text_cmp v e.0 ≡ o → length (insert_entry text_cmp es v n) ≡ length es + 1 → length (match_ordering o ((v, n) ∷ e ∷ es) ((e.0, n) ∷ es) (e ∷ insert_entry text_cmp es v n)) ≡ length (e ∷ es) + 1
    by Less is l = omega arith
    by Equal is l = absurd (let bad : true ≡ false = sym (ap is_eq is) ∙ (new_behind v e es h).0 in cc)
    by Greater is l = omega (arith, l)

-- one name more
module _ (v : List ℕ) (es : List (List ℕ × ℕ)) (row : AreInRow es) (new : number_in v es ≡ None) where
  abbrev more : List (List ℕ × ℕ)
  more = insert_entry text_cmp es v (length es)

  same : first_numbered v (length es) es ≡ more
  same = ap (numbered_by v (length es) es) new

  longer : length more ≡ length es + 1
  longer = put_length v (length es) es new

  -- it has the next number, the others theirs
  its_number : number_in v more ≡ Some (length es)
  its_number = sym (ap (number_in v) same) ∙ numbered_here v (length es) es new

  other_number : (q : List ℕ) → bytes_eq q v ≡ false → number_in q more ≡ number_in q es
  other_number q e = sym (ap (number_in q) same) ∙ numbered_other q v (length es) es (told_apart q v e)

  few_by : (q : List ℕ) (k : ℕ) (b : Bool) → bytes_eq q v ≡ b → number_in q more ≡ Some k → k < length more
  few_by q k true e h =
      let is : Some (length es) ≡ Some k = sym its_number ∙ ap (λ (x : List ℕ). number_in x more) (sym ((bytes_eq-Decides q v).0 e)) ∙ h in
      let number : length es ≡ k = cc in
      omega (arith, longer, number)
  few_by q k false e h = (let less = row.few q k (sym (other_number q e) ∙ h) in omega (arith, longer, less))

  apart_by : (q r : List ℕ) (k : ℕ) (a b : Bool) → bytes_eq q v ≡ a → bytes_eq r v ≡ b → number_in q more ≡ Some k → number_in r more ≡ Some k → q ≡ r
  apart_by q r k true true e d h i = (bytes_eq-Decides q v).0 e ∙ sym ((bytes_eq-Decides r v).0 d)
  apart_by q r k true false e d h i =
      let is : Some (length es) ≡ Some k = sym its_number ∙ ap (λ (x : List ℕ). number_in x more) (sym ((bytes_eq-Decides q v).0 e)) ∙ h in
      let number : length es ≡ k = cc in
      let less = row.few r k (sym (other_number r d) ∙ i) in
      absurd (omega (arith, number, less))
  apart_by q r k false true e d h i =
      let is : Some (length es) ≡ Some k = sym its_number ∙ ap (λ (x : List ℕ). number_in x more) (sym ((bytes_eq-Decides r v).0 d)) ∙ i in
      let number : length es ≡ k = cc in
      let less = row.few q k (sym (other_number q e) ∙ h) in
      absurd (omega (arith, number, less))
  apart_by q r k false false e d h i = row.apart q r k (sym (other_number q e) ∙ h) (sym (other_number r d) ∙ i)

  row_more : AreInRow (first_numbered v (length es) es)
  row_more = subst AreInRow (sym same) (record { few = λ q k h. few_by q k (bytes_eq q v) refl h; apart = λ q r k h i. apart_by q r k (bytes_eq q v) (bytes_eq r v) refl refl h i })

pub row_first : (v : List ℕ) (es : List (List ℕ × ℕ)) → AreInRow es → AreInRow (first_numbered v (length es) es)
row_first v es row = by (number_in v es) refl
  where
    by : (o : Option ℕ) → number_in v es ≡ o → AreInRow (first_numbered v (length es) es)
    by None new = row_more v es row new
    by (Some n) old = subst AreInRow (sym (ap (numbered_by v (length es) es) old)) row

pub row_all : (vs : List (List ℕ)) (es : List (List ℕ × ℕ)) → AreInRow es → AreInRow (numbered_all vs es)
row_all [] es row = row
row_all (v ∷ vs) es row = row_all vs (first_numbered v (length es) es) (row_first v es row)

pub row_none : AreInRow []
row_none = record { few = λ q k h. absurd cc; apart = λ q r k h i. absurd cc }
