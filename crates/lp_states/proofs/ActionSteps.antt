-- The actions of entries, entry by entry.
use Rattle.std.proofs.Common.{◌≡◌, ℕ, ◌⊎◌, ◌↔◌, ◌^◌, false, IsTrue, List, [], ◌∷◌, Option, Some, None, refl, sym, ap, ◌∙◌, ⊎_elim, inl, inr, subst, bit_or}
use Rattle.std.specs.Option.{is_some}
use Rattle.std.proofs.lemmas.Nat.Bits.{bit_at-pow_same}
use Rattle.lp_repr.specs.Closure.{next_symbol}
use Rattle.lp_repr.specs.declared.numbering.Rule.{Rule}
use Rattle.lp_repr.specs.declared.numbering.SymbolNumber.TheVariants as symbol
use Rattle.lp_repr.specs.declared.lr1.Token.{Token}
use Rattle.lp_repr.specs.declared.lr1.Token.TheVariants.{Terminal, Eof}
use Rattle.lp_sets.specs.declared.tokens.TokenSet.{TokenSet}
use Rattle.lp_sets.specs.Members.{Has}
use Rattle.lp_sets.specs.TokenSets.{HasToken, union_of, common_of}
use Rattle.lp_sets.proofs.TokenLists.{Has-or, HasToken-union, HasToken-common}
use Rattle.lp_sets.proofs.FirstTableLemmas.{Has-pow}
use Rattle.lp_states.specs.Actions.{Entry, ShiftsAt, ReducesAt, Shifted, Reduced, ReducedTwice, ActsTwice}

-- one terminal more
pub has_inserted : (s new : TokenSet) (n : ℕ) → new.terminals ≡ bit_or s.terminals (2 ^ n) → new.end ≡ s.end → (t : Token) → HasToken new t ↔ (HasToken s t ⊎ (t ≡ Terminal n))
has_inserted s new n e g (Terminal m) =
    (λ h. ⊎_elim (λ (x : Has s.terminals m). inl x) (λ (x : Has (2 ^ n) m). inr (ap Terminal (Has-pow n m x))) ((Has-or s.terminals (2 ^ n) m).0 (subst (λ k. Has k m) e h)), λ h. subst (λ k. Has k m) (sym e) ((Has-or s.terminals (2 ^ n) m).1 (⊎_elim (λ (x : Has s.terminals m). inl x) (λ (x : Terminal m ≡ Terminal n). let q : n ≡ m = cc in inr (subst (λ k. Has (2 ^ n) k) q (bit_at-pow_same n))) h)))
has_inserted s new n e g Eof =
    (λ h. inl (subst IsTrue g h), λ h. ⊎_elim (λ (x : IsTrue s.end). subst IsTrue (sym g) x) (λ (x : Eof ≡ Terminal n). cc) h)

module _ (rules : List Rule) (e : Entry) (es : List Entry) (t : Token) where
  -- ---- shifts
  pub shifted_more : (s new : TokenSet) (n : ℕ) → next_symbol rules e.0.0 e.0.1 ≡ Some (symbol.Terminal n) → (HasToken new t ↔ (HasToken s t ⊎ (t ≡ Terminal n))) → (HasToken new t ⊎ Shifted rules es t) ↔ (HasToken s t ⊎ Shifted rules (e ∷ es) t)
  shifted_more s new n next h =
      (λ a. ⊎_elim (λ (x : HasToken new t). ⊎_elim (λ (y : HasToken s t). inl y) (λ (y : t ≡ Terminal n). inr (inl (n, y, next))) (h.0 x)) (λ (x : Shifted rules es t). inr (inr x)) a, λ a. ⊎_elim (λ (x : HasToken s t). inl (h.1 (inl x))) (λ (x : ShiftsAt rules e t ⊎ Shifted rules es t). ⊎_elim (λ (y : ShiftsAt rules e t). let f : Some (symbol.Terminal y.0) ≡ Some (symbol.Terminal n) = sym y.2 ∙ next in let q : y.0 ≡ n = cc in inl (h.1 (inr (y.1 ∙ ap Terminal q)))) (λ (y : Shifted rules es t). inr y) x) a)

  pub shifted_other : (s : TokenSet) → ((n : ℕ) → next_symbol rules e.0.0 e.0.1 ≡ Some (symbol.Terminal n) → ⊥) → (HasToken s t ⊎ Shifted rules es t) ↔ (HasToken s t ⊎ Shifted rules (e ∷ es) t)
  shifted_other s none =
      (λ a. ⊎_elim (λ (x : HasToken s t). inl x) (λ (x : Shifted rules es t). inr (inr x)) a, λ a. ⊎_elim (λ (x : HasToken s t). inl x) (λ (x : ShiftsAt rules e t ⊎ Shifted rules es t). ⊎_elim (λ (y : ShiftsAt rules e t). absurd (none y.0 y.2)) (λ (y : Shifted rules es t). inr y) x) a)

-- ---- two actions: the tokens that were found, and what the entries that are left give with those that have one action
abbrev pub TwiceLeft : List Rule → TokenSet → TokenSet → List Entry → Token → Type 0
TwiceLeft rules twice once es t = HasToken twice t ⊎ ((HasToken once t × Reduced rules es t) ⊎ ReducedTwice rules es t)

module _ (rules : List Rule) (e : Entry) (es : List Entry) (twice once : TokenSet) (t : Token) where
  twice_to : next_symbol rules e.0.0 e.0.1 ≡ None → TwiceLeft rules twice once (e ∷ es) t → TwiceLeft rules (union_of twice (common_of once e.1)) (union_of once e.1) es t
  twice_to none h =
      ⊎_elim (λ (a : HasToken twice t). inl ((HasToken-union twice (common_of once e.1) t).1 (inl a))) (λ (b : (HasToken once t × Reduced rules (e ∷ es) t) ⊎ ReducedTwice rules (e ∷ es) t). ⊎_elim (λ (c : HasToken once t × Reduced rules (e ∷ es) t). ⊎_elim (λ (r : ReducesAt rules e t). inl ((HasToken-union twice (common_of once e.1) t).1 (inr ((HasToken-common once e.1 t).1 (c.0, r.1))))) (λ (r : Reduced rules es t). inr (inl ((HasToken-union once e.1 t).1 (inl c.0), r))) c.1) (λ (d : (ReducesAt rules e t × Reduced rules es t) ⊎ ReducedTwice rules es t). ⊎_elim (λ (x : ReducesAt rules e t × Reduced rules es t). inr (inl ((HasToken-union once e.1 t).1 (inr x.0.1), x.1))) (λ (x : ReducedTwice rules es t). inr (inr x)) d) b) h

  twice_from : next_symbol rules e.0.0 e.0.1 ≡ None → TwiceLeft rules (union_of twice (common_of once e.1)) (union_of once e.1) es t → TwiceLeft rules twice once (e ∷ es) t
  twice_from none h =
      ⊎_elim (λ (a : HasToken (union_of twice (common_of once e.1)) t). ⊎_elim (λ (x : HasToken twice t). inl x) (λ (x : HasToken (common_of once e.1) t). let w = (HasToken-common once e.1 t).0 x in inr (inl (w.0, inl (none, w.1)))) ((HasToken-union twice (common_of once e.1) t).0 a)) (λ (b : (HasToken (union_of once e.1) t × Reduced rules es t) ⊎ ReducedTwice rules es t). ⊎_elim (λ (c : HasToken (union_of once e.1) t × Reduced rules es t). ⊎_elim (λ (x : HasToken once t). inr (inl (x, inr c.1))) (λ (x : HasToken e.1 t). inr (inr (inl ((none, x), c.1)))) ((HasToken-union once e.1 t).0 c.0)) (λ (d : ReducedTwice rules es t). inr (inr (inr d))) b) h

  pub twice_more : next_symbol rules e.0.0 e.0.1 ≡ None → TwiceLeft rules twice once (e ∷ es) t ↔ TwiceLeft rules (union_of twice (common_of once e.1)) (union_of once e.1) es t
  twice_more none = (twice_to none, twice_from none)

  pub twice_other : (next_symbol rules e.0.0 e.0.1 ≡ None → ⊥) → TwiceLeft rules twice once (e ∷ es) t ↔ TwiceLeft rules twice once es t
  twice_other some =
      (λ h. ⊎_elim (λ (a : HasToken twice t). inl a) (λ (b : (HasToken once t × Reduced rules (e ∷ es) t) ⊎ ReducedTwice rules (e ∷ es) t). ⊎_elim (λ (c : HasToken once t × Reduced rules (e ∷ es) t). ⊎_elim (λ (r : ReducesAt rules e t). absurd (some r.0)) (λ (r : Reduced rules es t). inr (inl (c.0, r))) c.1) (λ (d : (ReducesAt rules e t × Reduced rules es t) ⊎ ReducedTwice rules es t). ⊎_elim (λ (x : ReducesAt rules e t × Reduced rules es t). absurd (some x.0.0)) (λ (x : ReducedTwice rules es t). inr (inr x)) d) b) h, λ h. ⊎_elim (λ (a : HasToken twice t). inl a) (λ (b : (HasToken once t × Reduced rules es t) ⊎ ReducedTwice rules es t). ⊎_elim (λ (c : HasToken once t × Reduced rules es t). inr (inl (c.0, inr c.1))) (λ (d : ReducedTwice rules es t). inr (inr (inr d))) b) h)

pub both_ways : {A B C : Type 0} → A ↔ B → B ↔ C → A ↔ C
both_ways f g = (λ a. g.0 (f.0 a), λ c. f.1 (g.1 c))

-- nothing was found, and those with one action are shifted
pub twice_begun : (rules : List Rule) (twice once : TokenSet) (es : List Entry) (t : Token) → (HasToken twice t → ⊥) → HasToken once t ↔ Shifted rules es t → TwiceLeft rules twice once es t ↔ ActsTwice rules es t
twice_begun rules twice once es t none shifts =
    (λ h. ⊎_elim (λ (a : HasToken twice t). absurd (none a)) (λ (b : (HasToken once t × Reduced rules es t) ⊎ ReducedTwice rules es t). ⊎_elim (λ (c : HasToken once t × Reduced rules es t). inl (shifts.0 c.0, c.1)) (λ (c : ReducedTwice rules es t). inr c) b) h, λ h. inr (⊎_elim (λ (c : Shifted rules es t × Reduced rules es t). inl (shifts.1 c.0, c.1)) (λ (c : ReducedTwice rules es t). inr c) h))

-- nothing is left
pub twice_found : (rules : List Rule) (twice once : TokenSet) (es : List Entry) (t : Token) → TwiceLeft rules twice once [] t ↔ ActsTwice rules es t → HasToken twice t ↔ ActsTwice rules es t
twice_found rules twice once es t h =
    (λ a. h.0 (inl a), λ a. ⊎_elim (λ (x : HasToken twice t). x) (λ (b : (HasToken once t × Reduced rules [] t) ⊎ ReducedTwice rules [] t). ⊎_elim (λ (c : HasToken once t × Reduced rules [] t). absurd c.1) (λ (c : ReducedTwice rules [] t). absurd c) b) (h.1 a))

pub shifted_found : (rules : List Rule) (s : TokenSet) (es : List Entry) (t : Token) → (HasToken s t ⊎ Shifted rules [] t) ↔ Shifted rules es t → HasToken s t ↔ Shifted rules es t
shifted_found rules s es t h =
    (λ a. h.0 (inl a), λ a. ⊎_elim (λ (x : HasToken s t). x) (λ (x : Shifted rules [] t). absurd x) (h.1 a))

pub shifted_begun : (rules : List Rule) (s : TokenSet) (es : List Entry) (t : Token) → (HasToken s t → ⊥) → (HasToken s t ⊎ Shifted rules es t) ↔ Shifted rules es t
shifted_begun rules s es t none =
    (λ h. ⊎_elim (λ (a : HasToken s t). absurd (none a)) (λ (x : Shifted rules es t). x) h, λ x. inr x)

pub none_from : {X : Type 0} (o : Option X) → is_some o ≡ false → o ≡ None
none_from None h = refl
none_from (Some x) h = cc
