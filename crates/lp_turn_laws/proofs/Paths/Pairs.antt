-- Related lists under pushes and cuts, as of the symbols of a path and what stands for them.
use Rattle.std.proofs.Common.{◌≡◌, ℕ, zero, suc, ◌-◌, List, [], ◌∷◌, ◌++◌, length, map, take, drop, refl, ap, subst, arith}
use Rattle.lp_turn_laws.specs.Paths.Ends.{IsEnd}
use Rattle.lp_turn_laws.specs.Paths.Pairs.{Pairs}
use Rattle.lp_turn_laws.specs.Paths.Stacks.{under}

module _ {A B : Type 0} (R : A → B → Type 0) where
  -- they are of one length
  pub pairs_length : (xs : List A) (ys : List B) → Pairs R xs ys → length xs ≡ length ys
  pairs_length [] [] h = refl
  pairs_length [] (y ∷ ys) h = absurd h
  pairs_length (x ∷ xs) [] h = absurd h
  pairs_length (x ∷ xs) (y ∷ ys) h = ap suc (pairs_length xs ys h.1)

  -- two such pairs of lists are joined
  pub pairs_append : (xs us : List A) (ys vs : List B) → Pairs R xs ys → Pairs R us vs → Pairs R (xs ++ us) (ys ++ vs)
  pairs_append [] us [] vs h k = k
  pairs_append [] us (y ∷ ys) vs h k = absurd h
  pairs_append (x ∷ xs) us [] vs h k = absurd h
  pairs_append (x ∷ xs) us (y ∷ ys) vs h k = (h.0, pairs_append xs us ys vs h.1 k)

  -- one more on each
  pub pairs_push : (xs : List A) (ys : List B) (x : A) (y : B) → Pairs R xs ys → R x y → Pairs R (xs ++ x ∷ []) (ys ++ y ∷ [])
  pairs_push xs ys x y h r = pairs_append xs (x ∷ []) ys (y ∷ []) h (r, tt)

  -- the first elements
  pub pairs_take : (k : ℕ) (xs : List A) (ys : List B) → Pairs R xs ys → Pairs R (take k xs) (take k ys)
  pairs_take zero xs ys h = tt
  pairs_take (suc k) [] [] h = tt
  pairs_take (suc k) [] (y ∷ ys) h = absurd h
  pairs_take (suc k) (x ∷ xs) [] h = absurd h
  pairs_take (suc k) (x ∷ xs) (y ∷ ys) h = (h.0, pairs_take k xs ys h.1)

  -- the others
  pub pairs_drop : (k : ℕ) (xs : List A) (ys : List B) → Pairs R xs ys → Pairs R (drop k xs) (drop k ys)
  pairs_drop zero xs ys h = h
  pairs_drop (suc k) [] [] h = tt
  pairs_drop (suc k) [] (y ∷ ys) h = absurd h
  pairs_drop (suc k) (x ∷ xs) [] h = absurd h
  pairs_drop (suc k) (x ∷ xs) (y ∷ ys) h = pairs_drop k xs ys h.1

  -- what is left under the last n
  pub pairs_under : (n : ℕ) (xs : List A) (ys : List B) → Pairs R xs ys → Pairs R (under n xs) (under n ys)
  pairs_under n xs ys h = subst (λ (k : ℕ). Pairs R (under n xs) (take (k - n) ys)) (pairs_length xs ys h) (pairs_take (length xs - n) xs ys h)

  -- the last n
  pub pairs_last : (n : ℕ) (xs : List A) (ys : List B) → Pairs R xs ys → Pairs R (drop (length xs - n) xs) (drop (length ys - n) ys)
  pairs_last n xs ys h = subst (λ (k : ℕ). Pairs R (drop (length xs - n) xs) (drop (k - n) ys)) (pairs_length xs ys h) (pairs_drop (length xs - n) xs ys h)

  -- an end of the one, with as many of the other
  pub pairs_end : (us xs : List A) (ys : List B) → IsEnd us xs → Pairs R xs ys → Pairs R us (drop (length ys - length us) ys)
  pairs_end us xs ys e h =
      let l = pairs_length xs ys h in
      let c = e.count in
      let k : e.before ≡ length ys - length us = omega arith in
      subst (λ (i : ℕ). Pairs R us (drop i ys)) k (subst (λ (vs : List A). Pairs R vs (drop e.before ys)) e.same (pairs_drop e.before xs ys h))

-- related to the images
pub pairs_map : {A B C : Type 0} (R : C → B → Type 0) (f : A → C) (xs : List A) (ys : List B) → Pairs (λ x y. R (f x) y) xs ys → Pairs R (map f xs) ys
pairs_map R f [] [] h = tt
pairs_map R f [] (y ∷ ys) h = absurd h
pairs_map R f (x ∷ xs) [] h = absurd h
pairs_map R f (x ∷ xs) (y ∷ ys) h = (h.0, pairs_map R f xs ys h.1)
