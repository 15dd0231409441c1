-- Loops that go over a list and number what they meet.
use Rattle.std.proofs.Common.{◌≡◌, ℕ, ◌+◌, ◌<◌, ◌≤◌, zero, suc, Bool, true, false, cond, ◌||◌, List, [], ◌∷◌, ◌++◌, length, map, take, drop, refl, sym, ap, ◌∙◌, arith, append_assoc, append-nil}
use Rattle.std.proofs.Math.ListN.{get_or}
use Rattle.std.specs.BTreeMap.{insert_entry}
use Rattle.std.specs.Prelude.{filter, sum_by}
use Rattle.std.specs.List.{list_any}
use Rattle.std.proofs.lemmas.List.{map-append, take_more, drop_all}
use Rattle.std.proofs.lemmas.List.Sums.{sum_by-append}
use Rattle.std.specs.declared.cmp.Ordering.{Ordering}
use Rattle.lp_lower.specs.Productions.{put_all}
use Rattle.lp_lower.proofs.Putting.{next_drop, put_all-append}

-- what is appended for one more element, where what is to come is numbered on
pub walk_step : {A X : Type 0} (F : ℕ → List A → List X) (f : ℕ → A → List X) (count : A → ℕ) → ((n : ℕ) (a : A) (rest : List A) → F n (a ∷ rest) ≡ f n a ++ F (n + count a) rest) → (xs : List A) (i : ℕ) (a : A) → i < length xs → get_or xs i a ≡ a → (n m : ℕ) → m ≡ n + count a → (old new whole : List X) → new ≡ old ++ f n a → old ++ F n (drop i xs) ≡ whole → new ++ F m (drop (i + 1) xs) ≡ whole
walk_step F f count split xs i a h at n m next old new whole is was =
    let rest = drop (i + 1) xs in
    ap (λ l. l ++ F m rest) is
    ∙ (ap (λ k. (old ++ f n a) ++ F k rest) next
    ∙ (append_assoc old (f n a) (F (n + count a) rest)
    ∙ (ap (λ l. old ++ l) (sym (split n a rest)) ∙ (ap (λ l. old ++ F n l) (sym (next_drop xs i a h at)) ∙ was))))

-- the same, where entries are put into a map
pub put_walk_step : {A K X : Type 0} (cmp : K → K → Ordering) (F : ℕ → List A → List (K × X)) (f : ℕ → A → List (K × X)) (count : A → ℕ) → ((n : ℕ) (a : A) (rest : List A) → F n (a ∷ rest) ≡ f n a ++ F (n + count a) rest) → (xs : List A) (i : ℕ) (a : A) → i < length xs → get_or xs i a ≡ a → (n m : ℕ) → m ≡ n + count a → (old new whole : List (K × X)) → new ≡ put_all cmp old (f n a) → put_all cmp old (F n (drop i xs)) ≡ whole → put_all cmp new (F m (drop (i + 1) xs)) ≡ whole
put_walk_step cmp F f count split xs i a h at n m next old new whole is was =
    let rest = drop (i + 1) xs in
    ap (λ l. put_all cmp l (F m rest)) is
    ∙ (ap (λ k. put_all cmp (put_all cmp old (f n a)) (F k rest)) next
    ∙ (sym (put_all-append cmp old (f n a) (F (n + count a) rest))
    ∙ (ap (put_all cmp old) (sym (split n a rest)) ∙ (ap (λ l. put_all cmp old (F n l)) (sym (next_drop xs i a h at)) ∙ was))))

-- what is put for one more element that passes
pub put_filtered : {A K X : Type 0} (cmp : K → K → Ordering) (f : A → K × X) (p : A → Bool) (xs : List A) (i : ℕ) (x : A) → i < length xs → get_or xs i x ≡ x → (b : Bool) → p x ≡ b → (old new whole : List (K × X)) → new ≡ cond b (insert_entry cmp old (f x).0 (f x).1) old → put_all cmp old (map f (filter p (drop i xs))) ≡ whole → put_all cmp new (map f (filter p (drop (i + 1) xs))) ≡ whole
put_filtered cmp f p xs i x h at b passes old new whole is was =
    let rest = filter p (drop (i + 1) xs) in
    ap (λ l. put_all cmp l (map f rest)) is
    ∙ (elim b as (λ c. put_all cmp (cond c (insert_entry cmp old (f x).0 (f x).1) old) (map f rest) ≡ put_all cmp old (map f (cond c (x ∷ rest) rest))) [
      | true ↦ refl
      | false ↦ refl
    ]
    ∙ (ap (λ c. put_all cmp old (map f (cond c (x ∷ rest) rest))) (sym passes) ∙ (ap (λ l. put_all cmp old (map f (filter p l))) (sym (next_drop xs i x h at)) ∙ was)))

-- what is put for one more element
pub put_mapped : {A K X : Type 0} (cmp : K → K → Ordering) (f : A → K × X) (xs : List A) (i : ℕ) (x : A) → i < length xs → get_or xs i x ≡ x → (old new whole : List (K × X)) → new ≡ insert_entry cmp old (f x).0 (f x).1 → put_all cmp old (map f (drop i xs)) ≡ whole → put_all cmp new (map f (drop (i + 1) xs)) ≡ whole
put_mapped cmp f xs i x h at old new whole is was =
    ap (λ l. put_all cmp l (map f (drop (i + 1) xs))) is ∙ (ap (λ l. put_all cmp old (map f l)) (sym (next_drop xs i x h at)) ∙ was)

-- what four steps append
pub in_a_row : {X : Type 0} (m1 m2 m3 m4 s l k r : List X) → m1 ≡ s → m2 ≡ m1 ++ l → m3 ≡ m2 ++ k → m4 ≡ m3 ++ r → m4 ≡ s ++ (l ++ (k ++ r))
in_a_row m1 m2 m3 m4 s l k r a b c d = d ∙ (ap (λ x. x ++ r) (c ∙ ap (λ x. x ++ k) (b ∙ ap (λ x. x ++ l) a)) ∙ (append_assoc (s ++ l) k r ∙ append_assoc s l (k ++ r)))

-- after the last element nothing is to come
pub walk_end : {A X : Type 0} (F : List A → List X) → F [] ≡ [] → (xs : List A) (i : ℕ) → length xs ≤ i → (all whole : List X) → all ++ F (drop i xs) ≡ whole → all ≡ whole
walk_end F none xs i h all whole was = sym (append-nil all) ∙ (ap (λ l. all ++ l) (sym (ap F (drop_all i xs h) ∙ none)) ∙ was)

-- the same, where entries are put into a map
pub put_walk_end : {A K X : Type 0} (cmp : K → K → Ordering) (F : List A → List (K × X)) → F [] ≡ [] → (xs : List A) (i : ℕ) → length xs ≤ i → (all whole : List (K × X)) → put_all cmp all (F (drop i xs)) ≡ whole → all ≡ whole
put_walk_end cmp F none xs i h all whole was = ap (put_all cmp all) (sym (ap F (drop_all i xs h) ∙ none)) ∙ was

-- what is appended for one more element that passes
pub filtered_step : {A X : Type 0} (f : A → X) (p : A → Bool) (xs : List A) (i : ℕ) (x : A) → i < length xs → get_or xs i x ≡ x → (old new whole : List X) → new ≡ old ++ cond (p x) (f x ∷ []) [] → old ++ map f (filter p (drop i xs)) ≡ whole → new ++ map f (filter p (drop (i + 1) xs)) ≡ whole
filtered_step f p xs i x h at old new whole is was =
    let rest = filter p (drop (i + 1) xs) in
    ap (λ l. l ++ map f rest) is
    ∙ (elim (p x) as (λ b. (old ++ cond b (f x ∷ []) []) ++ map f rest ≡ old ++ map f (cond b (x ∷ rest) rest)) [
      | true ↦ append_assoc old (f x ∷ []) (map f rest)
      | false ↦ ap (λ l. l ++ map f rest) (append-nil old)
    ]
    ∙ (ap (λ l. old ++ map f (filter p l)) (sym (next_drop xs i x h at)) ∙ was))

-- images alike, with one more element
pub mapped_more : {A B C : Type 0} (f : A → C) (g : B → C) (xs : List B) (i : ℕ) (x : B) → i < length xs → get_or xs i x ≡ x → (old new : List A) (y : A) → new ≡ old ++ y ∷ [] → f y ≡ g x → map f old ≡ map g (take i xs) → map f new ≡ map g (take (i + 1) xs)
mapped_more f g xs i x h at old new y is same was =
    ap (map f) is
    ∙ (map-append f old (y ∷ [])
    ∙ (ap (λ l. l ++ f y ∷ []) was
    ∙ (ap (λ z. map g (take i xs) ++ z ∷ []) same
    ∙ sym (ap (map g) (take_more xs i x h ∙ ap (λ z. take i xs ++ z ∷ []) at) ∙ map-append g (take i xs) (x ∷ [])))))

-- the same, after others, for the elements of an iterator
pub mapped_push : {A B C : Type 0} (f : A → C) (g : B → C) (start : List C) (old new : List A) (y : A) (xs : List B) (x : B) → new ≡ old ++ y ∷ [] → f y ≡ g x → map f old ≡ start ++ map g xs → map f new ≡ start ++ map g (xs ++ x ∷ [])
mapped_push f g start old new y xs x is same was =
    ap (map f) is
    ∙ (map-append f old (y ∷ [])
    ∙ (ap (λ l. l ++ f y ∷ []) was
    ∙ (ap (λ z. (start ++ map g xs) ++ z ∷ []) same
    ∙ (append_assoc start (map g xs) (g x ∷ []) ∙ ap (λ l. start ++ l) (sym (map-append g xs (x ∷ [])))))))

-- a sum with one more element
pub summed_more : {X : Type 0} (f : X → ℕ) (xs : List X) (i : ℕ) (x : X) → i < length xs → get_or xs i x ≡ x → (old new more : ℕ) → new ≡ old + more → more ≡ f x → old ≡ sum_by f (take i xs) → new ≡ sum_by f (take (i + 1) xs)
summed_more f xs i x h at old new more is same was =
    let split : sum_by f (take (i + 1) xs) ≡ sum_by f (take i xs ++ x ∷ []) = ap (sum_by f) (take_more xs i x h ∙ ap (λ y. take i xs ++ y ∷ []) at) in
    let both = sum_by-append f (take i xs) (x ∷ []) in
    omega (arith, split, both, is, same, was)

or_true : (b : Bool) → (b || true) ≡ true
or_true true = refl
or_true false = refl

-- an element that passes
pub any_here : {X : Type 0} (p : X → Bool) (xs : List X) (i : ℕ) (x : X) → i < length xs → get_or xs i x ≡ x → p x ≡ true → list_any p xs ≡ true
any_here p [] i x h at passes = absurd (omega arith)
any_here p (y ∷ ys) zero x h at passes = ap (λ b. b || list_any p ys) (ap p at ∙ passes)
any_here p (y ∷ ys) (suc i) x h at passes = ap (λ b. p y || b) (any_here p ys i x (omega arith) at passes) ∙ or_true (p y)
