-- A walk along a word of symbols.
use Rattle.std.proofs.Common.{◌≡◌, ℕ, suc, ◌+◌, ◌<◌, ◌^◌, Bool, true, false, ◌&&◌, cond, List, ◌∷◌, length, get_or, drop, sym, ap, ◌∙◌, add-one, bit_or}
use Rattle.std.proofs.Math.Seq.{drop-cons}
use Rattle.lp_repr.specs.declared.numbering.SymbolNumber.{SymbolNumber}
use Rattle.lp_repr.specs.declared.numbering.SymbolNumber.TheVariants.{Terminal, Nonterminal}
use Rattle.lp_sets.specs.Members.{has}
use Rattle.lp_sets.specs.FirstTables.{vanishes, first_terminals}
use Rattle.lp_sets.proofs.Words.{or_assoc, or_zero}

-- what a function of the word gives from a place on
at_place : {B : Type 0} (f : List SymbolNumber → B) (xs : List SymbolNumber) (k : ℕ) (d x : SymbolNumber) → k < length xs → get_or xs k d ≡ x → f (drop k xs) ≡ f (x ∷ drop (k + 1) xs)
at_place f xs k d x l e =
    ap f (drop-cons xs k d l ∙ ap (λ (y : SymbolNumber). y ∷ drop (suc k) xs) e) ∙ ap (λ (n : ℕ). f (x ∷ drop n xs)) (sym (add-one k))

module _ (e : ℕ) (xs : List SymbolNumber) (k : ℕ) (within : k < length xs) (d : SymbolNumber) where
  pub vanishes-terminal : (t : ℕ) → get_or xs k d ≡ Terminal t → vanishes e (drop k xs) ≡ false
  vanishes-terminal t at = at_place (vanishes e) xs k d (Terminal t) within at

  pub vanishes-other : (n : ℕ) → get_or xs k d ≡ Nonterminal n → false ≡ has e n → vanishes e (drop k xs) ≡ false
  vanishes-other n at no_member = at_place (vanishes e) xs k d (Nonterminal n) within at ∙ ap (λ (b : Bool). b && vanishes e (drop (k + 1) xs)) (sym no_member)

  pub vanishes-more : (n : ℕ) → get_or xs k d ≡ Nonterminal n → true ≡ has e n → vanishes e (drop k xs) ≡ vanishes e (drop (k + 1) xs)
  vanishes-more n at member = at_place (vanishes e) xs k d (Nonterminal n) within at ∙ ap (λ (b : Bool). b && vanishes e (drop (k + 1) xs)) (sym member)

  pub first-terminal : (sets : List ℕ) (s t : ℕ) → get_or xs k d ≡ Terminal t → bit_or s (2 ^ t) ≡ bit_or s (first_terminals e sets (drop k xs))
  first-terminal sets s t at = ap (bit_or s) (sym (at_place (first_terminals e sets) xs k d (Terminal t) within at))

  pub first-other : (sets : List ℕ) (s n : ℕ) → get_or xs k d ≡ Nonterminal n → false ≡ has e n → bit_or s (get_or sets n 0) ≡ bit_or s (first_terminals e sets (drop k xs))
  first-other sets s n at no_member =
      ap (bit_or s) (sym (at_place (first_terminals e sets) xs k d (Nonterminal n) within at ∙ ap (λ (b : Bool). bit_or (get_or sets n 0) (cond b (first_terminals e sets (drop (k + 1) xs)) 0)) (sym no_member) ∙ or_zero (get_or sets n 0)))

  pub first-more : (sets : List ℕ) (s n : ℕ) → get_or xs k d ≡ Nonterminal n → true ≡ has e n → bit_or (bit_or s (get_or sets n 0)) (first_terminals e sets (drop (k + 1) xs)) ≡ bit_or s (first_terminals e sets (drop k xs))
  first-more sets s n at member =
      or_assoc s (get_or sets n 0) (first_terminals e sets (drop (k + 1) xs))
      ∙ ap (bit_or s) (sym (at_place (first_terminals e sets) xs k d (Nonterminal n) within at ∙ ap (λ (b : Bool). bit_or (get_or sets n 0) (cond b (first_terminals e sets (drop (k + 1) xs)) 0)) (sym member)))
