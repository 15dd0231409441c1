-- What is put into maps, one entry after the other.
use Rattle.std.proofs.Common.{◌≡◌, ℕ, ◌+◌, ◌<◌, Bool, true, false, cond, List, [], ◌∷◌, ◌++◌, length, map, drop, refl, sym, ap, ◌∙◌, append-nil}
use Rattle.std.proofs.Math.ListN.{get_or}
use Rattle.std.specs.BTreeMap.{insert_entry}
use Rattle.std.specs.declared.cmp.Ordering.{Ordering}
use Rattle.std.specs.declared.cmp.Ordering.TheVariants.{Less, Equal, Greater}
use Rattle.std.specs.Ordering.{match_ordering}
use Rattle.std.proofs.lemmas.List.{drop_more}
use Rattle.lp_lower.specs.Productions.{put_all}

-- the elements from a place on
pub next_drop : {X : Type 0} (xs : List X) (i : ℕ) (x : X) → i < length xs → get_or xs i x ≡ x → drop i xs ≡ x ∷ drop (i + 1) xs
next_drop xs i x h at = drop_more xs i x h ∙ ap (λ y. y ∷ drop (i + 1) xs) at

pub put_all-append : {K X : Type 0} (cmp : K → K → Ordering) (es xs ys : List (K × X)) → put_all cmp es (xs ++ ys) ≡ put_all cmp (put_all cmp es xs) ys
put_all-append cmp es [] ys = refl
put_all-append cmp es (x ∷ xs) ys = put_all-append cmp (insert_entry cmp es x.0 x.1) xs ys

map-ordering : {A B : Type 0} (f : List A → List B) (o : Ordering) (a b c : List A) → f (match_ordering o a b c) ≡ match_ordering o (f a) (f b) (f c)
map-ordering f Less a b c = refl
map-ordering f Equal a b c = refl
map-ordering f Greater a b c = refl

-- an entry, its value seen by f
pub insert_entry-map : {K X Y : Type 0} (cmp : K → K → Ordering) (f : X → Y) (es : List (K × X)) (k : K) (v : X) → map (λ (e : K × X). (e.0, f e.1)) (insert_entry cmp es k v) ≡ insert_entry cmp (map (λ (e : K × X). (e.0, f e.1)) es) k (f v)
insert_entry-map cmp f [] k v = refl
insert_entry-map {K} {X} {Y} cmp f (e ∷ es) k v =
    let seen = map (λ (e : K × X). (e.0, f e.1)) in
    map-ordering seen (cmp k e.0) ((k, v) ∷ e ∷ es) ((e.0, v) ∷ es) (e ∷ insert_entry cmp es k v)
    ∙ ap (λ l. match_ordering (cmp k e.0) ((k, f v) ∷ (e.0, f e.1) ∷ seen es) ((e.0, f v) ∷ seen es) ((e.0, f e.1) ∷ l)) (insert_entry-map cmp f es k v)

-- one entry more where it is to be put
pub put_last : {K X : Type 0} (cmp : K → K → Ordering) (xs : List (K × X)) (k : K) (v : X) (b : Bool) (m : List (K × X)) → m ≡ cond b (insert_entry cmp (put_all cmp [] xs) k v) (put_all cmp [] xs) → m ≡ put_all cmp [] (xs ++ cond b ((k, v) ∷ []) [])
put_last cmp xs k v true m is = is ∙ sym (put_all-append cmp [] xs ((k, v) ∷ []))
put_last cmp xs k v false m is = is ∙ ap (put_all cmp []) (sym (append-nil xs))
