-- Things that stand twice, one after the other.
use Rattle.std.proofs.Common.{◌≡◌, ℕ, ◌+◌, ◌<◌, Bool, true, false, not, cond, ◌||◌, List, [], ◌∷◌, ◌++◌, length, map, take, drop, Option, Some, Result, Ok, Err, IfOk, refl, sym, ap, ◌∙◌}
use Rattle.std.proofs.Math.ListN.{get_or}
use Rattle.std.specs.List.{list_any}
use Rattle.std.proofs.lemmas.List.{map-append, take_more, drop_more}
use Rattle.lp_lower.specs.Places.{least, least_of}
use Rattle.lp_lower.proofs.Leasts.{least-none, least_before_if}
use Rattle.lp_lower.specs.Repeats.{repeats_after, repeats}

-- some image passes
pub any_of_images : {X Y : Type 0} (f : X → Y) (p : Y → Bool) (q : X → Bool) → ((x : X) → p (f x) ≡ q x) → (xs : List X) → list_any p (map f xs) ≡ list_any q xs
any_of_images f p q h [] = refl
any_of_images f p q h (x ∷ xs) = rw (h x, any_of_images f p q h xs) refl

repeats_after-map : {X Y : Type 0} (f : X → Y) (p : Y → Y → Bool) (q : X → X → Bool) → ((a b : X) → p (f a) (f b) ≡ q a b) → (seen xs : List X) → repeats_after p (map f seen) (map f xs) ≡ map f (repeats_after q seen xs)
repeats_after-map f p q h seen [] = refl
repeats_after-map f p q h seen (x ∷ xs) =
    let rest : repeats_after p (map f seen ++ f x ∷ []) (map f xs) ≡ map f (repeats_after q (seen ++ x ∷ []) xs) = ap (λ s. repeats_after p s (map f xs)) (sym (map-append f seen (x ∷ []))) ∙ repeats_after-map f p q h (seen ++ x ∷ []) xs in
    ap (λ b. cond b (f x ∷ []) [] ++ repeats_after p (map f seen ++ f x ∷ []) (map f xs)) (any_of_images f (λ y. p y (f x)) (λ y. q y x) (λ y. h y x) seen)
    ∙ ap (λ r. cond (list_any (λ y. q y x) seen) (f x ∷ []) [] ++ r) rest
    ∙ elim (list_any (λ y. q y x) seen) as (λ b. cond b (f x ∷ []) [] ++ map f (repeats_after q (seen ++ x ∷ []) xs) ≡ map f (cond b (x ∷ []) [] ++ repeats_after q (seen ++ x ∷ []) xs)) [
      | true ↦ refl
      | false ↦ refl
    ]

-- those of images
pub repeats-map : {X Y : Type 0} (f : X → Y) (p : Y → Y → Bool) (q : X → X → Bool) → ((a b : X) → p (f a) (f b) ≡ q a b) → (xs : List X) → repeats p (map f xs) ≡ map f (repeats q xs)
repeats-map f p q h xs = repeats_after-map f p q h [] xs

-- of keys that are the same where the things are, beside their places
project : {X K : Type 0} (key : X → K) (place : X → ℕ) (xs : List X) → map (λ (k : K × ℕ). k.1) (map (λ x. (key x, place x)) xs) ≡ map place xs
project key place [] = refl
project key place (x ∷ xs) = ap (λ ys. place x ∷ ys) (project key place xs)

pub keys_alike : {X K : Type 0} (key : X → K) (place : X → ℕ) (p : K → K → Bool) (same : X → X → Bool) → ((a b : X) → p (key a) (key b) ≡ same a b) → (xs : List X) → map (λ (k : K × ℕ). k.1) (repeats (λ (a b : K × ℕ). p a.0 b.0) (map (λ x. (key x, place x)) xs)) ≡ map place (repeats same xs)
keys_alike {X} {K} key place p same agree xs =
    ap (map (λ (k : K × ℕ). k.1)) (repeats-map (λ x. (key x, place x)) (λ (a b : K × ℕ). p a.0 b.0) same agree xs) ∙ project key place (repeats same xs)

-- an answer that is told by an equal one
pub told : {E A : Type 0} (r : Result A E) (a b : A) → a ≡ b → IfOk r (λ p. p ≡ a) → IfOk r (λ p. p ≡ b)
told (Ok p) a b e h = h ∙ e
told (Err x) a b e h = tt

or_false : (b c : Bool) → (b || (c || false)) ≡ (b || c)
or_false b true = refl
or_false b false = refl

pub or_assoc : (a b c : Bool) → (a || (b || c)) ≡ ((a || b) || c)
or_assoc true b c = refl
or_assoc false b c = refl

-- some thing passes, with one more
pub any_push : {X : Type 0} (p : X → Bool) (xs : List X) (x : X) → list_any p (xs ++ x ∷ []) ≡ (list_any p xs || p x)
any_push p [] x = or_false false (p x)
any_push p (y ∷ ys) x = ap (λ b. p y || b) (any_push p ys x) ∙ or_assoc (p y) (list_any p ys) (p x)

pub any_more : {X : Type 0} (p : X → Bool) (xs : List X) (i : ℕ) (x : X) → i < length xs → get_or xs i x ≡ x → list_any p (take (i + 1) xs) ≡ (list_any p (take i xs) || p x)
any_more p xs i x h at = ap (list_any p) (take_more xs i x h ∙ ap (λ y. take i xs ++ y ∷ []) at) ∙ any_push p (take i xs) x

-- what a set with one more key has
pub one_more : (c a b : Bool) → c ≡ cond a true b → c ≡ (b || a)
one_more c true true e = e
one_more c true false e = e
one_more c false true e = e
one_more c false false e = e

-- what an answer on a new key says of the keys before it
pub was_there : (f b : Bool) → f ≡ not b → f ≡ false → b ≡ true
was_there f true e h = refl
was_there f false e h = let no_way : true ≡ false = sym e ∙ h in cc

pub was_new : (f b : Bool) → f ≡ not b → f ≡ true → b ≡ false
was_new f true e h = let no_way : false ≡ true = sym e ∙ h in cc
was_new f false e h = refl

-- a place that is taken where the next thing was there before
pub repeat_step : {X : Type 0} (same : X → X → Bool) (place : X → ℕ) (xs : List X) (i : ℕ) (x : X) → i < length xs → get_or xs i x ≡ x → (b : Bool) → list_any (λ y. same y x) (take i xs) ≡ b → (found new whole : Option ℕ) → new ≡ cond b (least found (Some (place x))) found → least found (least_of (map place (repeats_after same (take i xs) (drop i xs)))) ≡ whole → least new (least_of (map place (repeats_after same (take (i + 1) xs) (drop (i + 1) xs)))) ≡ whole
repeat_step {X} same place xs i x h at b there found new whole is was =
    let seen = take i xs in
    let rest = drop (i + 1) xs in
    let e : drop i xs ≡ x ∷ rest = drop_more xs i x h ∙ ap (λ y. y ∷ rest) at in
    let f : take (i + 1) xs ≡ seen ++ x ∷ [] = take_more xs i x h ∙ ap (λ y. seen ++ y ∷ []) at in
    let later = repeats_after same (seen ++ x ∷ []) rest in
    let split : map place (repeats_after same seen (drop i xs)) ≡ cond b (place x ∷ []) [] ++ map place later =
    ap (λ ys. map place (repeats_after same seen ys)) e
    ∙ (ap (λ c. map place (cond c (x ∷ []) [] ++ later)) there ∙ elim b as (λ c. map place (cond c (x ∷ []) [] ++ later) ≡ cond c (place x ∷ []) [] ++ map place later) [
      | true ↦ refl
      | false ↦ refl
    ])
    in
    ap (λ s. least new (least_of (map place (repeats_after same s rest)))) f
    ∙ least_before_if b found new whole (place x ∷ []) (map place later) (is ∙ ap (λ o. cond b (least found o) found) (sym (least-none (Some (place x))))) (ap (λ ps. least found (least_of ps)) (sym split) ∙ was)
