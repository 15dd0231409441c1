-- A loop that writes elements with `, ` between them.
use Rattle.std.proofs.Common.{◌≡◌, ℕ, ◌+◌, ◌<◌, List, [], ◌∷◌, ◌++◌, length, take, get_or, codes, refl, sym, ap, ◌∙◌}
use Rattle.std.proofs.lemmas.List.{append-nil, append_assoc, flat_map_more, take_more}
use Rattle.std.proofs.Output.{has_written_append, has_written_of_eq}
use Rattle.std.specs.declared.fmt.Formatter.{Formatter}
use Rattle.std.specs.Fmt.{HasWritten, IsPlainFormatter}
use Rattle.std.specs.List.{flat_map, join_by}

-- what stands before the next element
abbrev pub separator_after : {X : Type 0} → List X → List ℕ
separator_after [] = []
separator_after (x ∷ xs) = codes ", "

separator_push : {X : Type 0} (xs : List X) (x : X) → separator_after (xs ++ x ∷ []) ≡ codes ", "
separator_push [] x = refl
separator_push (y ∷ ys) x = refl

join_push : {X : Type 0} (shown : X → List ℕ) (xs : List X) (x : X) → join_by shown (codes ", ") xs ++ (separator_after xs ++ shown x) ≡ join_by shown (codes ", ") (xs ++ x ∷ [])
join_push shown [] x = sym (append-nil (shown x))
join_push shown (y ∷ ys) x =
    append_assoc (shown y) (flat_map (λ z. codes ", " ++ shown z) ys) (codes ", " ++ shown x)
    ∙ ap (λ l. shown y ++ l) (flat_map_more (λ z. codes ", " ++ shown z) [] ys x)

-- one more element is written
pub joined_more : {X W : Type 0} (took : W → List ℕ → W → Type 0) (shown : X → List ℕ) (xs : List X) (i : ℕ) (x : X) (separator : List ℕ) (f g h k : Formatter W) →
    x ≡ get_or xs i x → i < length xs →
    (separator ≡ separator_after (take i xs)) × (IsPlainFormatter f → HasWritten took f (join_by shown (codes ", ") (take i xs)) g) →
    (IsPlainFormatter g → HasWritten took g separator h) →
    (IsPlainFormatter h → HasWritten took h (shown x) k) →
    (codes ", " ≡ separator_after (take (i + 1) xs)) × (IsPlainFormatter f → HasWritten took f (join_by shown (codes ", ") (take (i + 1) xs)) k)
joined_more took shown xs i x separator f g h k at lt before between after =
    let next : take (i + 1) xs ≡ take i xs ++ x ∷ [] = take_more xs i x lt ∙ ap (λ z. take i xs ++ z ∷ []) (sym at) in
    let e = ap (λ t. join_by shown (codes ", ") (take i xs) ++ (t ++ shown x)) before.0 ∙ join_push shown (take i xs) x ∙ ap (join_by shown (codes ", ")) (sym next) in (
      sym (ap separator_after next ∙ separator_push (take i xs) x),
      λ plain. let a = before.1 plain in let b = between a.plain in has_written_of_eq _ _ _ _ _ e (has_written_append _ _ _ _ _ _ a (has_written_append _ _ _ _ _ _ b (after b.plain))),
    )
