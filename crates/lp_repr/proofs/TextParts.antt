-- Texts compared part by part.
use Rattle.std.proofs.Common.{◌≡◌, ℕ, List, [], ◌∷◌, ◌++◌, length, take, drop, Bool, true, false, refl, sym, ap, ◌∙◌}
use Rattle.std.specs.Prelude.{nat_eq, ◌&&◌, codes}
use Rattle.lp_repr.specs.Names.{same_text}

both_assoc : (a b c : Bool) → (a && (b && c)) ≡ ((a && b) && c)
both_assoc true b c = refl
both_assoc false b c = refl

-- a text is two texts in a row: the first is its beginning, and the second is the rest
pub same_text_split : (s p q : List ℕ) → same_text s (p ++ q) ≡ (same_text (take (length p) s) p && same_text (drop (length p) s) q)
same_text_split s [] q = refl
same_text_split [] (a ∷ p) q = refl
same_text_split (x ∷ s) (a ∷ p) q =
    ap (λ (b : Bool). nat_eq x a && b) (same_text_split s p q)
    ∙ both_assoc (nat_eq x a) (same_text (take (length p) s) p) (same_text (drop (length p) s) q)

-- a text that begins with a hole goes on after it
after_hole : (s p r : List ℕ) → same_text (take 1 s) (codes "_") ≡ true → same_text s ((codes "_" ++ p) ++ r) ≡ same_text (drop 1 s) (p ++ r)
after_hole s p r e = same_text_split s (codes "_") (p ++ r) ∙ ap (λ (b : Bool). b && same_text (drop 1 s) (p ++ r)) e

-- where the piece does not stand after the hole, the texts differ
pub piece_missing : (s h p r : List ℕ) → same_text (take 1 s) (codes "_") ≡ true → h ≡ drop 1 s → same_text (take (length p) h) p ≡ false → same_text s ((codes "_" ++ p) ++ r) ≡ false
piece_missing s h p r e f none =
    after_hole s p r e
    ∙ ap (λ (l : List ℕ). same_text l (p ++ r)) (sym f)
    ∙ same_text_split h p r
    ∙ ap (λ (b : Bool). b && same_text (drop (length p) h) r) none

-- where it does, the rest decides
pub piece_taken : (s h t p r : List ℕ) → same_text (take 1 s) (codes "_") ≡ true → h ≡ drop 1 s → same_text (take (length p) h) p ≡ true → t ≡ drop (length p) h → same_text s ((codes "_" ++ p) ++ r) ≡ same_text t r
piece_taken s h t p r e f some g =
    after_hole s p r e
    ∙ ap (λ (l : List ℕ). same_text l (p ++ r)) (sym f)
    ∙ same_text_split h p r
    ∙ ap (λ (b : Bool). b && same_text (drop (length p) h) r) some
    ∙ ap (λ (l : List ℕ). same_text l r) (sym g)
