-- Combinations as expanded alternatives, one after the other.
use Rattle.std.proofs.Common.{◌≡◌, ℕ, ◌+◌, List, [], ◌∷◌, ◌++◌, length, sym, ap, ◌∙◌, append_assoc, length-append, arith}
use Rattle.lp_lower.specs.Expansion.{expanded_from}
use Rattle.lp_lower.specs.declared.combine.Combination.{Combination}
use Rattle.lp_lower.specs.declared.combine.Expanded.{Expanded}

abbrev pub numbered : ℕ → Combination → Expanded
numbered action c = record { action = action; fallible = c.fallible; symbols = c.symbols }

expanded_from-push : (n : ℕ) (cs : List Combination) (c : Combination) → expanded_from n (cs ++ c ∷ []) ≡ expanded_from n cs ++ numbered (n + length cs) c ∷ []
expanded_from-push n [] c = let e : n ≡ n + 0 = omega arith in ap (λ k. numbered k c ∷ []) e
expanded_from-push n (d ∷ cs) c =
    let e : n + 1 + length cs ≡ n + length (d ∷ cs) = omega arith in
    ap (λ l. numbered n d ∷ l) (expanded_from-push (n + 1) cs c ∙ ap (λ k. expanded_from (n + 1) cs ++ numbered k c ∷ []) e)

-- the number of the next one, and those so far after what stood there
pub record IsNumbered (start : List Expanded) (first : ℕ) (all : List Expanded) (action : ℕ) (cs : List Combination) : Type 0 where
  pub number : action ≡ first + length cs
  pub same : all ≡ start ++ expanded_from first cs

pub numbered_more : (start : List Expanded) (first : ℕ) (all : List Expanded) (action : ℕ) (cs : List Combination) (c : Combination) (new : List Expanded) (next : ℕ) → new ≡ all ++ numbered action c ∷ [] → next ≡ action + 1 → IsNumbered start first all action cs → IsNumbered start first new next (cs ++ c ∷ [])
numbered_more start first all action cs c new next is next_is was =
    let size : length (cs ++ c ∷ []) ≡ length cs + 1 = length-append cs (c ∷ []) in
    record {
      number = omega (arith, was.number, size);
      same =
          is
          ∙ (ap (λ l. l ++ numbered action c ∷ []) was.same
          ∙ (ap (λ k. (start ++ expanded_from first cs) ++ numbered k c ∷ []) was.number
          ∙ (append_assoc start (expanded_from first cs) (numbered (first + length cs) c ∷ []) ∙ ap (λ l. start ++ l) (sym (expanded_from-push first cs c)))));
    }
