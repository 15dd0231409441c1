-- The variant of each symbol is one of those that there are.
use Rattle.std.proofs.Common.{◌≡◌, ℕ, zero, suc, ◌<◌, ◌≤◌, Bool, true, false, if◌then◌else◌, List, [], ◌∷◌, ◌++◌, length, Option, Some, None, slice_get, refl, ap, ◌∙◌, arith, length-append}
use Rattle.std.specs.Prelude.{nat_lt, position, unwrap_or}
use Rattle.std.proofs.lemmas.Bool.Decides.{nat_tests}
use Rattle.std.proofs.lemmas.List.{length-map}
use Rattle.std.proofs.lemmas.List.Quantifiers.{position-Some}
use Rattle.lp_repr.specs.Numbering.{nonterminals_of, terminals_of}
use Rattle.lp_repr.specs.TypeOrder.{type_eq}
use Rattle.lp_repr.specs.declared.numbering.SymbolNumber.{SymbolNumber}
use Rattle.lp_repr.specs.declared.numbering.SymbolNumber.TheVariants.{Terminal, Nonterminal}
use Rattle.lp_repr.specs.declared.repr.Grammar.{Grammar}
use Rattle.lp_repr.specs.declared.repr.TypeRepr.{TypeRepr}
use Rattle.lp_parts.specs.Variants.{variant_number, with_type, with_types, variant_numbers, variant_types, terminal_types, nonterminal_types, terminal_variants, nonterminal_variants, terminal_type, nonterminal_type}
use Rattle.lp_table.specs.Pieces.{variant_types_shown}
use Rattle.lp_repr.specs.ShownTypes.{type_text}
use Rattle.lp_table.specs.ReductionLines.{variant_at}
use Rattle.lp_turn_laws.proofs.Paths.Reductions.{at_within}
use Rattle.lp_question_laws.proofs.Reductions.Rules.{InRange}

-- a place among types, or their count
number_most : (types : List TypeRepr) (ty : TypeRepr) → variant_number types ty ≤ length types
number_most types ty = by (position (type_eq ty) types) refl
  where
    by : (o : Option ℕ) → position (type_eq ty) types ≡ o → unwrap_or o (length types) ≤ length types
    by None e = omega arith
    by (Some k) e = let f = position-Some (type_eq ty) types k ty e in omega (arith, f.0)

with_more : (types : List TypeRepr) (ty : TypeRepr) → (length types ≤ length (with_type types ty)) × (variant_number types ty < length (with_type types ty))
with_more types ty = by (nat_lt (variant_number types ty) (length types)) refl
  where
    by : (b : Bool) → nat_lt (variant_number types ty) (length types) ≡ b → (length types ≤ length (if b then types else types ++ ty ∷ [])) × (variant_number types ty < length (if b then types else types ++ ty ∷ []))
    by true e = (omega arith, grind (arith, nat_tests))
    by false e = (omega (arith, length-append types (ty ∷ [])), omega (arith, length-append types (ty ∷ []), number_most types ty))

types_grow : (types others : List TypeRepr) → length types ≤ length (with_types types others)
types_grow types [] = omega arith
types_grow types (ty ∷ others) = omega (arith, (with_more types ty).0, types_grow (with_type types ty) others)

-- each number is below the count in the end
numbers_below : (types others : List TypeRepr) (n k : ℕ) → slice_get (variant_numbers types others) n ≡ Some k → k < length (with_types types others)
numbers_below types [] n k is = cc
numbers_below types (ty ∷ others) zero k is =
    let same : variant_number types ty ≡ k = cc in
    omega (arith, same, (with_more types ty).1, types_grow (with_type types ty) others)
numbers_below types (ty ∷ others) (suc n) k is = numbers_below (with_type types ty) others n k is

numbers_length : (types others : List TypeRepr) → length (variant_numbers types others) ≡ length others
numbers_length types [] = refl
numbers_length types (ty ∷ others) = ap suc (numbers_length (with_type types ty) others)

module _ (g : Grammar) where
  terminal_below : (n : ℕ) → n < length (terminals_of g) → unwrap_or (slice_get (terminal_variants g) n) 0 < length (variant_types g)
  unfolding terminal_variants variant_types
  terminal_below n lt =
      let many : length (variant_numbers [] (terminal_types g)) ≡ length (terminals_of g) = numbers_length [] (terminal_types g) ∙ length-map (terminals_of g) (terminal_type g) in
      let k = at_within (variant_numbers [] (terminal_types g)) n (omega (arith, lt, many)) in
      let below = numbers_below [] (terminal_types g) n k.0 k.1 in
      let same : unwrap_or (slice_get (variant_numbers [] (terminal_types g)) n) 0 ≡ k.0 = ap (λ o. unwrap_or o 0) k.1 in
      omega (arith, same, below, types_grow (with_types [] (terminal_types g)) (nonterminal_types g))

  nonterminal_below : (n : ℕ) → n < length (nonterminals_of g) → unwrap_or (slice_get (nonterminal_variants g) n) 0 < length (variant_types g)
  unfolding nonterminal_variants variant_types
  nonterminal_below n lt =
      let first = with_types [] (terminal_types g) in
      let many : length (variant_numbers first (nonterminal_types g)) ≡ length (nonterminals_of g) = numbers_length first (nonterminal_types g) ∙ length-map (nonterminals_of g) (nonterminal_type g) in
      let k = at_within (variant_numbers first (nonterminal_types g)) n (omega (arith, lt, many)) in
      let below = numbers_below first (nonterminal_types g) n k.0 k.1 in
      let same : unwrap_or (slice_get (variant_numbers first (nonterminal_types g)) n) 0 ≡ k.0 = ap (λ o. unwrap_or o 0) k.1 in
      omega (arith, same, below)

  -- that of a symbol
  pub variant_below : (x : SymbolNumber) → InRange g x → variant_at g (Some x) < length (variant_types g)
  variant_below (Terminal n) h = terminal_below n h
  variant_below (Nonterminal n) h = nonterminal_below n h

  -- and its type is printed
  pub variant_shown : (k : ℕ) → k < length (variant_types g) → (ty : List ℕ) × (slice_get (variant_types_shown g) k ≡ Some ty)
  variant_shown k lt = at_within (variant_types_shown g) k (omega (arith, lt, length-map (variant_types g) type_text))
