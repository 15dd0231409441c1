-- One write after another.
use Rattle.std.proofs.Common.{◌≡◌, ℕ, ◌+◌, ◌-◌, ◌≤◌, List, [], ◌∷◌, ◌++◌, length, take, drop, Option, Some, None, refl, sym, ap, ◌∙◌, arith, append_assoc, length-append, zero, suc, zero-add, suc-add, replicate}
use Rattle.std.proofs.Math.Seq.{take-append-add}
use Rattle.std.proofs.lemmas.List.{take-append-le, take-append-drop}
use Rattle.std.proofs.lemmas.Grind.{common_steps}
use Rattle.lp_write.specs.Sinks.{Told, Took, Refused, Rose, RisesBy, appended, Broke}

pub append-none : (xs : List ℕ) → xs ≡ xs ++ []
append-none [] = refl
append-none (x ∷ xs) = ap (λ r. x ∷ r) (append-none xs)

pub appended-none : (held : Option (List ℕ)) → held ≡ appended held []
appended-none None = refl
appended-none (Some bytes) = ap (λ r. Some r) (append-none bytes)

pub appended-then : (held : Option (List ℕ)) (xs ys : List ℕ) → appended (appended held xs) ys ≡ appended held (xs ++ ys)
appended-then None xs ys = refl
appended-then (Some bytes) xs ys = ap (λ r. Some r) (append_assoc bytes xs ys)

pub rises-none : (a : Option ℕ) → RisesBy 0 a a
rises-none None = tt
rises-none (Some k) = omega arith

pub rises-then : (m n : ℕ) (a b c : Option ℕ) → RisesBy m a b → RisesBy n b c → RisesBy (m + n) a c
rises-then m n a b None p q = tt
rises-then m n None None (Some z) p q = absurd q
rises-then m n None (Some y) (Some z) p q = absurd p
rises-then m n (Some x) None (Some z) p q = absurd q
rises-then m n (Some x) (Some y) (Some z) p q = omega arith

-- a sink that was left alone took nothing
pub took-none : (a : Told) → Took a a []
took-none a = record {
  held = appended-none a.held;
  taken = rises-none a.taken;
  faults = omega arith;
}

-- what two calls took, one after the other
pub took-then : (a b c : Told) (xs ys : List ℕ) → Took a b xs → Took b c ys → Took a c (xs ++ ys)
took-then a b c xs ys p q = record {
  held = p-held;
  taken = rw (length-append xs ys) (rises-then (length xs) (length ys) a.taken b.taken c.taken p.taken q.taken);
  faults = omega (arith, p.faults, q.faults);
} where
  p-held : c.held ≡ appended a.held (xs ++ ys)
  p-held = rw (q.held, p.held) (appended-then a.held xs ys)

-- a refused write after what was taken
pub took-refused : (a b c : Told) (xs : List ℕ) → Took a b xs → Refused b c → Took a c xs
took-refused a b c xs p q = record {
  held = rw (q.held, p.held) refl;
  taken = rw q.taken p.taken;
  faults = omega (arith, p.faults, q.faults);
}

-- a count that rose last rose in all
pub rose-last : (a b c : ℕ) → a ≤ b → Rose b c → Rose a c
rose-last a b c p q = omega arith

pub rose-first : (a b c : ℕ) → Rose a b → b ≤ c → Rose a c
rose-first a b c p q = omega arith

-- what was taken before a call that broke off counts too
pub broke-then : (a b c : Told) (xs ys : List ℕ) → Took a b xs → Broke b c ys → Broke a c (xs ++ ys)
broke-then a b c xs ys p q = record {
  count = length xs + q.count;
  short = rw (length-append xs ys) (omega (arith, q.short));
  took = rw (take-append-add xs ys q.count) (took-then a b c xs (take q.count ys) p q.took);
  rose = rose-last a.faults b.faults c.faults p.faults q.rose;
}

-- a call that broke off within its first bytes broke off
pub broke-more : (a b : Told) (xs ys : List ℕ) → Broke a b xs → Broke a b (xs ++ ys)
broke-more a b xs ys p = record {
  count = p.count;
  short = rw (length-append xs ys) (omega (arith, p.short));
  took = (let h : p.count ≤ length xs = omega (arith, p.short) in rw (take-append-le p.count xs ys h) p.took);
  rose = p.rose;
}

pub blanks-split : (m n : ℕ) → replicate {A = ℕ} (m + n) 32 ≡ replicate m 32 ++ replicate n 32
blanks-split zero n = rw (zero-add n) refl
blanks-split (suc m) n = rw (suc-add m n) (ap (λ r. 32 ∷ r) (blanks-split m n))

-- the front of what begins with n elements
pub front-kept : (n : ℕ) (ys zs : List ℕ) → n ≤ length ys → take n (take n ys ++ zs) ≡ take n ys
front-kept zero ys zs h = refl
front-kept (suc n) [] zs h = absurd (omega arith)
front-kept (suc n) (y ∷ ys) zs h = ap (λ r. y ∷ r) (front-kept n ys zs (omega arith))

pub drop-twice : (m n : ℕ) (xs : List ℕ) → drop (m + n) xs ≡ drop n (drop m xs)
drop-twice zero n xs = rw (zero-add n) refl
drop-twice (suc m) n [] = rw (suc-add m n) (grind (arith, common_steps))
drop-twice (suc m) n (x ∷ xs) = rw (suc-add m n) (drop-twice m n xs)

-- what a read put in front of a buffer, and what is left
pub given-front : (xs buf : List ℕ) (at n : ℕ) → n ≤ length (drop at xs) →
    drop at xs ≡ take n (take n (drop at xs) ++ drop n buf) ++ drop (at + n) xs
given-front xs buf at n h =
    rw (front-kept n (drop at xs) (drop n buf) h, drop-twice at n xs) (sym (take-append-drop n (drop at xs)))

pub blanks-took : (a b c : Told) (count left n : ℕ) → left ≤ count → n ≤ left →
    Took a b (replicate (count - left) 32) → Took b c (replicate n 32) → Took a c (replicate (count - (left - n)) 32)
blanks-took a b c count left n h k p q =
    let e : count - (left - n) ≡ (count - left) + n = omega arith in
    rw (e, blanks-split (count - left) n) (took-then a b c _ _ p q)

pub blanks-broke : (a b c : Told) (count left n : ℕ) → left ≤ count → n ≤ left →
    Took a b (replicate (count - left) 32) → Broke b c (replicate n 32) → Broke a c (replicate count 32)
blanks-broke a b c count left n h k p q =
    let e : count ≡ ((count - left) + n) + (left - n) = omega arith in
    let split : replicate {A = ℕ} count 32 ≡ (replicate (count - left) 32 ++ replicate n 32) ++ replicate (left - n) 32 =
    ap (λ m. replicate m 32) e ∙ blanks-split ((count - left) + n) (left - n) ∙ ap (λ r. r ++ replicate (left - n) 32) (blanks-split (count - left) n) in
    rw split (broke-more a c _ _ (broke-then a b c _ _ p q))
