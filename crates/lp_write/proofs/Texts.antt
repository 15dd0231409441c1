-- Texts of the elements of a list, one after another.
use Rattle.std.proofs.Common.{◌≡◌, ℕ, ◌+◌, ◌<◌, List, [], ◌∷◌, ◌++◌, length, get_or, take, map, sym, ap, ◌∙◌, refl, append_assoc, Option, Some, None, codes}
use Rattle.std.specs.List.{AllZip}
use Rattle.std.specs.Fmt.{signed_decimal}
use Rattle.std.proofs.lemmas.List.{take_more, map-append}
use Rattle.std.proofs.lemmas.Slice.Zip.{all_zipped_more}
use Rattle.lp_write.specs.Texts.{IsShownAs}
use Rattle.lp_write.specs.Rows.{AreEntryTexts}
use Rattle.std.specs.Prelude.{ℤ}

-- the elements so far, and the next one
pub take-next : {X : Type 0} (xs : List X) (i : ℕ) (x : X) → x ≡ get_or xs i x → i < length xs → take (i + 1) xs ≡ take i xs ++ x ∷ []
take-next xs i x e h = take_more xs i x h ∙ ap (λ z. take i xs ++ z ∷ []) (sym e)

-- a text of one more element
pub zip-more : {X Y : Type 0} (R : X → Y → Type 0) (xs : List X) (ys : List Y) (i : ℕ) (x : X) (y : Y) → x ≡ get_or xs i x → i < length xs →
    AllZip R (take i xs) ys → R x y → AllZip R (take (i + 1) xs) (ys ++ y ∷ [])
zip-more R xs ys i x y e h p q = rw (take-next xs i x e h) (all_zipped_more R (take i xs) ys x y p q)

-- texts behind others, and one more
pub behind-more : (start old new added : List (List ℕ)) (text : List ℕ) → old ≡ start ++ added → new ≡ old ++ text ∷ [] →
    new ≡ start ++ (added ++ text ∷ [])
behind-more start old new added text p q = q ∙ ap (λ z. z ++ text ∷ []) p ∙ append_assoc start added (text ∷ [])

-- a text for each element behind others, and one more
pub each-behind : {X : Type 0} (f : X → List ℕ) (xs : List X) (i : ℕ) (x : X) (start old new : List (List ℕ)) (text : List ℕ) →
    x ≡ get_or xs i x → i < length xs → old ≡ start ++ map f (take i xs) → text ≡ f x → new ≡ old ++ text ∷ [] →
    new ≡ start ++ map f (take (i + 1) xs)
each-behind f xs i x start old new text e h p s q =
    behind-more start old new (map f (take i xs)) text p q ∙ ap (λ z. start ++ z) more where
      more : map f (take i xs) ++ text ∷ [] ≡ map f (take (i + 1) xs)
      more = ap (λ y. map f (take i xs) ++ y ∷ []) s ∙ sym (ap (map f) (take-next xs i x e h) ∙ map-append f (take i xs) (x ∷ []))

-- three pairs of texts behind others
pub three-pairs : (a b c d : List (List ℕ)) (p q r s t u : List ℕ) → b ≡ a ++ p ∷ q ∷ [] → c ≡ b ++ r ∷ s ∷ [] → d ≡ c ++ t ∷ u ∷ [] →
    d ≡ a ++ (p ∷ q ∷ r ∷ s ∷ t ∷ u ∷ [])
three-pairs a b c d p q r s t u x y z =
    z ∙ ap (λ l. l ++ t ∷ u ∷ []) (y ∙ ap (λ l. l ++ r ∷ s ∷ []) x ∙ append_assoc a (p ∷ q ∷ []) (r ∷ s ∷ []))
    ∙ append_assoc a (p ∷ q ∷ r ∷ s ∷ []) (t ∷ u ∷ [])

-- a value has a text that it may be shown as
pub a-text : (stated : Option (List ℕ)) → (text : List ℕ) × IsShownAs stated text
a-text None = ([], tt)
a-text (Some text) = (text, refl)

-- so has each number of a row, with its comment
pub entry-texts : {C : Type 0} (output : C → Option (List ℕ)) (row : List (ℤ × C)) → (texts : List (List ℕ)) × AreEntryTexts output row texts
entry-texts output [] = ([], tt)
entry-texts output (entry ∷ row) =
    let comment = a-text (output entry.1) in
    let rest = entry-texts output row in
    ((signed_decimal entry.0 ++ (codes ", " ++ comment.0)) ∷ rest.0, ((comment.0, comment.1, refl), rest.1))
