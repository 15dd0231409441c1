-- A cut that stops in front of a text stops in front of each text that begins alike.
use Rattle.std.proofs.Common.{◌≡◌, ℕ, List, [], ◌∷◌, ◌++◌, refl, sym, ap, ◌∙◌, subst, inl, inr, append_assoc}
use Rattle.std.proofs.lemmas.List.{append_cancel_right}
use Rattle.lp_tok.specs.declared.tok.ErrorCode.TheVariants.{ExpectedStringLiteral}
use Rattle.lp_tok.specs.CodePieces.{Whole, Fault, Nothing, kind_of, code_piece}
use Rattle.lp_tok.specs.Cut.{Splits, splits_none, splits_one, IsEnder, MayEnd, StopsAt, BreaksAt}
use Rattle.lp_local.specs.Beginning.{BeginsAs}
use Rattle.lp_local.proofs.Scanning.{nothing_begins, begins_behind}
use Rattle.lp_local.proofs.Piecing.{Told, piece_told, fault_told, IsUncounted, piece_class}

-- pieces up to a place
record Parted (splits : List ℕ → List ℕ → Type 0) (cs rest : List ℕ) : Type 0 where
  front : List ℕ
  whole : cs ≡ front ++ rest
  again : (y : List ℕ) → BeginsAs rest y → splits (front ++ y) y

splits_told : (cs rest : List ℕ) (ks : List _) → Splits cs ks rest → Parted (λ x y. Splits x ks y) cs rest
splits_told _ _ _ (splits_none cs) = record { front = []; whole = refl; again = λ y b. splits_none y }
splits_told cs rest _ (splits_one _ next _ k ks p s) =
    let t : Told code_piece (Whole k) cs next = piece_told k cs next p in
    let u : Parted (λ x y. Splits x ks y) next rest = splits_told next rest ks s in
    record {
      front = t.front ++ u.front;
      whole = t.whole ∙ ap (λ (x : List ℕ). t.front ++ x) u.whole ∙ sym (append_assoc t.front u.front rest);
      again = λ y b.
          let begun : BeginsAs next (u.front ++ y) = subst (λ (x : List ℕ). BeginsAs x (u.front ++ y)) (sym u.whole) (begins_behind u.front rest y b) in
          subst (λ (x : List ℕ). Splits x (k ∷ ks) y) (sym (append_assoc t.front u.front y))
          (splits_one (t.front ++ (u.front ++ y)) (u.front ++ y) y k ks (t.again (u.front ++ y) begun) (u.again y b));
    }

-- a cut may end where a text begins alike
uncounted_goes : (k : _) (next : List ℕ) → IsUncounted (Whole k next) → IsEnder k → ⊥
uncounted_goes k next h e = subst IsEnder h e

end_told : (c d : ℕ) (cs y : List ℕ) → c ≡ d → MayEnd (c ∷ cs) → MayEnd (d ∷ y)
end_told c d cs y b m = elim (piece_class c) [
  | inl u ↦ elim m [
    | inl s ↦ absurd (uncounted_goes s.0 s.1 (subst IsUncounted s.2 (u cs)) s.3)
    | inr n ↦ absurd (subst IsUncounted n (u cs))
  ]
  | inr w ↦ elim m [
    | inl s ↦ (
        let found : Whole (kind_of c) cs ≡ Whole s.0 s.1 = sym (w cs) ∙ s.2 in
        let kind : kind_of c ≡ s.0 = cc in
        inl (kind_of c, y, ap (λ x. code_piece (x ∷ y)) (sym b) ∙ w y, subst IsEnder (sym kind) s.3))
    | inr n ↦ (let never : Whole (kind_of c) cs ≡ Nothing = sym (w cs) ∙ n in absurd cc)
  ]
]

may_end_told : (rest y : List ℕ) → BeginsAs rest y → MayEnd rest → MayEnd y
may_end_told [] y b m = subst MayEnd (sym (nothing_begins y b)) m
may_end_told (c ∷ cs) [] b m = absurd b
may_end_told (c ∷ cs) (d ∷ y) b m = end_told c d cs y b m

pub stops_told : (front rest y : List ℕ) → BeginsAs rest y → StopsAt (front ++ rest) rest → StopsAt (front ++ y) y
stops_told front rest y b s =
    let t : Parted (λ u v. Splits u s.0 v) (front ++ rest) rest = splits_told (front ++ rest) rest s.0 s.1.splits in
    let same : t.front ≡ front = append_cancel_right t.front front rest (sym t.whole) in
    (s.0, record { splits = subst (λ (x : List ℕ). Splits (x ++ y) s.0 y) same (t.again y b); goes_on = s.1.goes_on }, s.2, may_end_told rest y b s.3)

-- and one that breaks at `r#`, where neither a raw string nor a word follows, breaks there in each text that begins alike
pub breaks_told : (front next y : List ℕ) → BeginsAs next y → BreaksAt (front ++ next) ExpectedStringLiteral next → BreaksAt (front ++ y) ExpectedStringLiteral y
breaks_told front next y b s =
    let t : Parted (λ u v. Splits u s.0 v) (front ++ next) s.1 = splits_told (front ++ next) s.1 s.0 s.2.splits in
    let p : Told code_piece (Fault ExpectedStringLiteral) s.1 next = fault_told s.1 next s.3 in
    let mid : List ℕ = p.front ++ y in
    let begun : BeginsAs s.1 mid = subst (λ (x : List ℕ). BeginsAs x mid) (sym p.whole) (begins_behind p.front next y b) in
    let same : t.front ++ p.front ≡ front = append_cancel_right (t.front ++ p.front) front next (append_assoc t.front p.front next ∙ sym (ap (λ (x : List ℕ). t.front ++ x) p.whole) ∙ sym t.whole) in
    let whole : t.front ++ mid ≡ front ++ y = sym (append_assoc t.front p.front y) ∙ ap (λ (x : List ℕ). x ++ y) same in
    subst (λ (x : List ℕ). BreaksAt x ExpectedStringLiteral y) whole (s.0, mid, record { splits = t.again mid begun; goes_on = s.2.goes_on }, p.again y b)
