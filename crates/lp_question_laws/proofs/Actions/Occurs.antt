-- Where the name of the parse errors' crate can stand in a text: nowhere, or in front of `::E`.
use Rattle.std.proofs.Common.{◌≡◌, ℕ, suc, ◌<◌, Bool, true, false, not, ◌||◌, List, [], ◌∷◌, ◌++◌, length, codes, Some, None, refl, ap, sym, subst, ◌∙◌, arith, append_assoc, length-append, if◌then◌else◌}
use Rattle.std.specs.Prelude.{eqb, is_some}
use Rattle.std.specs.List.{list_all, flat_map, join_by}
use Rattle.std.specs.Option.{option_map}
use Rattle.std.proofs.lemmas.Bool.{and_parts, eqb-true}
use Rattle.std.proofs.lemmas.List.{append_cancel_left}
use Rattle.lp_maker.specs.Texts.{begins, first_place, around, holds}
use Rattle.lp_maker.proofs.Cuts.{has_front}
use Rattle.lp_spelling.specs.HoleEnds.{is_word}
use Rattle.lp_question_laws.proofs.Gotos.Digits.{Lacks}
use Rattle.lp_valid.specs.PrefixRules.{holds_prefix, lacks}

-- a text begins with no word byte, or is empty; it ends with none
abbrev pub StartsOut : List ℕ → Type 0
StartsOut [] = Unit {0}
StartsOut (c ∷ cs) = is_word c ≡ false

abbrev pub EndsOut : List ℕ → Type 0
EndsOut [] = Unit {0}
EndsOut (c ∷ []) = is_word c ≡ false
EndsOut (c ∷ d ∷ cs) = EndsOut (d ∷ cs)

-- what stands in front
pub front_is : (front s : List ℕ) → begins front s ≡ true → (rest : List ℕ) × (s ≡ front ++ rest)
front_is [] s h = (s, refl)
front_is (x ∷ xs) [] h = absurd (let bad : false ≡ true = h in cc)
front_is (x ∷ xs) (y ∷ ys) h =
    let p = and_parts (eqb x y) (begins xs ys) h in
    let r = front_is xs ys p.1 in
    (r.0, ap (λ z. z ∷ ys) (sym (eqb-true x y p.0)) ∙ ap (λ l. x ∷ l) r.1)

no_word : (x y : ℕ) → y ≡ x → is_word x ≡ true → is_word y ≡ false → ⊥
no_word x y e is other = let bad : true ≡ false = sym is ∙ ap is_word (sym e) ∙ other in cc

-- words that stand in two texts with no word byte between them stand in the first
split_right : (v s t r : List ℕ) → list_all is_word v ≡ true → StartsOut t → s ++ t ≡ v ++ r → (k : List ℕ) × (s ≡ v ++ k) × (r ≡ k ++ t)
split_right [] s t r words out e = (s, refl, sym e)
split_right (x ∷ v) [] [] r words out e = absurd (let bad : true ≡ false = cc in cc)
split_right (x ∷ v) [] (c ∷ t) r words out e = absurd (no_word x c (let h : c ≡ x = cc in h) (and_parts (is_word x) (list_all is_word v) words).0 out)
split_right (x ∷ v) (y ∷ s) t r words out e =
    let same : y ≡ x = cc in
    let rest : s ++ t ≡ v ++ r = cc in
    let k = split_right v s t r (and_parts (is_word x) (list_all is_word v) words).1 out rest in
    (k.0, ap (λ z. z ∷ s) same ∙ ap (λ l. x ∷ l) k.1, k.2)

split_left : (v : List ℕ) (y : ℕ) (s t r : List ℕ) → list_all is_word v ≡ true → EndsOut (y ∷ s) → (y ∷ s) ++ t ≡ v ++ r → (k : List ℕ) × (y ∷ s ≡ v ++ k) × (r ≡ k ++ t)
split_left [] y s t r words out e = (y ∷ s, refl, sym e)
split_left (x ∷ v) y [] t r words out e = absurd (no_word x y (let h : y ≡ x = cc in h) (and_parts (is_word x) (list_all is_word v) words).0 out)
split_left (x ∷ v) y (z ∷ s) t r words out e =
    let same : y ≡ x = cc in
    let rest : (z ∷ s) ++ t ≡ v ++ r = cc in
    let k = split_left v z s t r (and_parts (is_word x) (list_all is_word v) words).1 out rest in
    (k.0, ap (λ u. u ∷ z ∷ s) same ∙ ap (λ l. x ∷ l) k.1, k.2)

ends_later : (c : ℕ) (cs : List ℕ) → EndsOut (c ∷ cs) → EndsOut cs
ends_later c [] h = tt
ends_later c (d ∷ cs) h = h

lacks_behind : (c : ℕ) (a b : List ℕ) → Lacks c (a ++ b) → Lacks c b
lacks_behind c [] b h = h
lacks_behind c (x ∷ a) b h = lacks_behind c a b h.1

module _ (w : List ℕ) (words : list_all is_word w ≡ true) where
  -- wherever it stands, `::E` follows
  abbrev pub Follows : List ℕ → Type 0
  Follows s = (r : List ℕ) → s ≡ w ++ r → (q : List ℕ) × (r ≡ codes "::E" ++ q)

  abbrev pub IsFree : List ℕ → Type 0
  IsFree [] = Unit {0}
  IsFree (c ∷ cs) = Follows (c ∷ cs) × IsFree cs

  -- two texts with no word byte between them
  pub free_right : (s t : List ℕ) → IsFree s → IsFree t → StartsOut t → IsFree (s ++ t)
  free_right [] t h g out = g
  free_right (c ∷ cs) t h g out = (
    (λ r e. (let k = split_right w (c ∷ cs) t r words out e in let q = h.0 k.0 k.1 in (q.0 ++ t, k.2 ∙ ap (λ l. l ++ t) q.1))),
    free_right cs t h.1 g out,
  )

  pub free_left : (s t : List ℕ) → IsFree s → IsFree t → EndsOut s → IsFree (s ++ t)
  free_left [] t h g out = g
  free_left (c ∷ cs) t h g out = (
    (λ r e. (let k = split_left w c cs t r words out e in let q = h.0 k.0 k.1 in (q.0 ++ t, k.2 ∙ ap (λ l. l ++ t) q.1))),
    free_left cs t h.1 g (ends_later c cs out),
  )

  -- each of some texts
  abbrev pub AllFree : List (List ℕ) → Type 0
  AllFree [] = Unit {0}
  AllFree (t ∷ ts) = IsFree t × AllFree ts

  module _ (c : ℕ) (cs : List ℕ) (between : IsFree (c ∷ cs)) (first : is_word c ≡ false) (last : EndsOut (c ∷ cs)) where
    behind_starts : (ts : List (List ℕ)) → StartsOut (flat_map (λ y. (c ∷ cs) ++ y) ts)
    behind_starts [] = tt
    behind_starts (t ∷ ts) = first

    behind_free : (ts : List (List ℕ)) → AllFree ts → IsFree (flat_map (λ y. (c ∷ cs) ++ y) ts)
    behind_free [] h = tt
    behind_free (t ∷ ts) h = free_right ((c ∷ cs) ++ t) (flat_map (λ y. (c ∷ cs) ++ y) ts) (free_left (c ∷ cs) t between h.0 last) (behind_free ts h.1) (behind_starts ts)

    -- joined texts
    pub joined_free : (ts : List (List ℕ)) → AllFree ts → IsFree (join_by (λ t. t) (c ∷ cs) ts)
    joined_free [] h = tt
    joined_free (t ∷ ts) h = free_right t (flat_map (λ y. (c ∷ cs) ++ y) ts) h.0 (behind_free ts h.1) (behind_starts ts)

  -- it stands at the front of itself, and nowhere further on
  suffix_free : (s t : List ℕ) → length s < length w → IsFree t → StartsOut t → IsFree (s ++ t)
  suffix_free [] t less h out = h
  suffix_free (c ∷ cs) t less h out = (
    (λ r e. absurd (let k = split_right w (c ∷ cs) t r words out e in let l = ap length k.1 in let m = length-append w k.0 in omega (arith, less, l, m))),
    suffix_free cs t (omega (arith, less)) h out,
  )

  itself_free : (s t q : List ℕ) → w ≡ s → t ≡ codes "::E" ++ q → IsFree t → StartsOut t → IsFree (s ++ t)
  itself_free [] t q is followed h out = h
  itself_free (c ∷ cs) t q is followed h out = (
    (λ r e. (q, append_cancel_left w r t (sym e ∙ ap (λ l. l ++ t) (sym is)) ∙ followed)),
    suffix_free cs t (let l = ap length is in omega (arith, l)) h out,
  )

  pub name_free : (t q : List ℕ) → t ≡ codes "::E" ++ q → IsFree t → StartsOut t → IsFree (w ++ t)
  name_free t q followed h out = itself_free w t q refl followed h out

module _ (prefix : List ℕ) (words : list_all is_word (prefix ++ codes "lalrpop_util") ≡ true) where
  abbrev pub crate_name : List ℕ
  crate_name = prefix ++ codes "lalrpop_util"

  -- a text without the prefix
  pub clear_free : (s : List ℕ) → lacks prefix s ≡ true → IsFree crate_name words s
  clear_free [] h = tt
  clear_free (c ∷ cs) h = (
    (λ r e. absurd (here (has_front prefix (c ∷ cs) (codes "lalrpop_util" ++ r) (e ∙ append_assoc prefix (codes "lalrpop_util") r)))),
    clear_free cs (by (begins prefix (c ∷ cs)) (holds_prefix prefix cs) h),
  )
    where
      by : (a b : Bool) → not (a || b) ≡ true → not b ≡ true
      by true b e = absurd (let bad : false ≡ true = e in cc)
      by false b e = e

      no_begin : (a b : Bool) → not (a || b) ≡ true → a ≡ true → ⊥
      no_begin true b e is = (let bad : false ≡ true = e in cc)
      no_begin false b e is = (let bad : false ≡ true = is in cc)

      here : begins prefix (c ∷ cs) ≡ true → ⊥
      here is = no_begin (begins prefix (c ∷ cs)) (holds_prefix prefix cs) h is

  -- a text without `_`
  pub lacking_free : (s : List ℕ) → Lacks 95 s → IsFree crate_name words s
  lacking_free [] h = tt
  lacking_free (c ∷ cs) h = ((λ r e. absurd (there r (subst (Lacks 95) (e ∙ append_assoc prefix (codes "lalrpop_util") r) h))), lacking_free cs h.1)
    where
      there : (r : List ℕ) → Lacks 95 (prefix ++ (codes "lalrpop_util" ++ r)) → ⊥
      there r l = (lacks_behind 95 prefix (codes "lalrpop_util" ++ r) l).1.1.1.1.1.1.1.0 refl

  -- such a text holds no parse error
  sought_is : prefix ++ codes "lalrpop_util::ParseError<" ≡ crate_name ++ codes "::ParseError<"
  sought_is = sym (append_assoc prefix (codes "lalrpop_util") (codes "::ParseError<"))

  no_front : (s : List ℕ) → Follows crate_name words s → begins (prefix ++ codes "lalrpop_util::ParseError<") s ≡ false
  no_front s f = by (begins (prefix ++ codes "lalrpop_util::ParseError<") s) refl
    where
      by : (b : Bool) → begins (prefix ++ codes "lalrpop_util::ParseError<") s ≡ b → b ≡ false
      by true e =
          let r = front_is (prefix ++ codes "lalrpop_util::ParseError<") s e in
          let q = f (codes "::ParseError<" ++ r.0) (r.1 ∙ ap (λ l. l ++ r.0) sought_is ∙ append_assoc crate_name (codes "::ParseError<") r.0) in
          let p_byte : ℕ = 80 in
          let e_byte : ℕ = 69 in
          let bad : p_byte ≡ e_byte = (let h = q.1 in cc) in
          absurd (omega (arith, bad))
      by false e = refl

  empty_front : Follows crate_name words []
  empty_front r e = absurd (let l = ap length e in let k = length-append crate_name r in let m = length-append prefix (codes "lalrpop_util") in omega (arith, l, k, m))

  nowhere : (s : List ℕ) → IsFree crate_name words s → first_place (prefix ++ codes "lalrpop_util::ParseError<") s ≡ None
  nowhere [] h = ap (λ b. if b then Some 0 else None) (no_front [] empty_front)
  nowhere (c ∷ cs) h = ap (λ b. if b then Some 0 else option_map suc (first_place (prefix ++ codes "lalrpop_util::ParseError<") cs)) (no_front (c ∷ cs) h.0) ∙ ap (option_map suc) (nowhere cs h.1)

  pub free_holds : (s : List ℕ) → IsFree crate_name words s → holds (prefix ++ codes "lalrpop_util::ParseError<") s ≡ false
  free_holds s h = ap (λ o. is_some (option_map (around (length (prefix ++ codes "lalrpop_util::ParseError<")) s) o)) (nowhere s h)
