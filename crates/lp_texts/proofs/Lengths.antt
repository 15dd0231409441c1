-- What follows a piece is shorter than the text.
use Rattle.std.proofs.Common.{ℕ, ◌<◌, ◌≤◌, true, false, cond, eqb, List, [], ◌∷◌, length, Option, Some, None, IfSome, arith}
use Rattle.lp_tok.specs.Signs.{quote, apostrophe, backslash}
use Rattle.lp_tok.specs.Scans.{from_char, from_unescaped, past}
use Rattle.lp_texts.specs.Quotes.{Piece, Quote, Unended, Single, Nothing, goes_on, after_character, quote_piece, character_piece, apostrophe_piece, piece}

past_le : (n c : ℕ) (cs : List ℕ) → length cs ≤ n → IfSome (past c cs) (λ after. length after < n)
past_le n c [] h = tt
past_le n c (d ∷ cs) h = elim (eqb d c) as (λ b. IfSome (cond b (Some cs) None) (λ after. length after < n)) [ true ↦ omega arith | false ↦ tt ]

from_char_le : (c : ℕ) (cs : List ℕ) → length (from_char c cs) ≤ length cs
from_char_le c [] = omega arith
from_char_le c (d ∷ cs) = elim (eqb d c) as (λ b. length (cond b (d ∷ cs) (from_char c cs)) ≤ length (d ∷ cs)) [ true ↦ omega arith | false ↦ omega (arith, from_char_le c cs) ]

from_unescaped_le : (q : ℕ) (cs : List ℕ) → length (from_unescaped q cs) ≤ length cs
from_unescaped_le q [] = omega arith
from_unescaped_le q (c ∷ []) = elim (eqb c q) as (λ b. length (cond b (c ∷ []) []) ≤ length (c ∷ [])) [ true ↦ omega arith | false ↦ omega arith ]
from_unescaped_le q (c ∷ d ∷ cs) =
    elim (eqb c q) as (λ b. length (cond b (c ∷ d ∷ cs) (cond (eqb c backslash) (from_unescaped q cs) (from_unescaped q (d ∷ cs)))) ≤ length (c ∷ d ∷ cs)) [
      | true ↦ omega arith
      | false ↦ elim (eqb c backslash) as (λ b. length (cond b (from_unescaped q cs) (from_unescaped q (d ∷ cs))) ≤ length (c ∷ d ∷ cs)) [
        | true ↦ omega (arith, from_unescaped_le q cs)
        | false ↦ omega (arith, from_unescaped_le q (d ∷ cs))
      ]
    ]

after_character_le : (cs : List ℕ) → length (after_character cs) ≤ length cs
after_character_le [] = omega arith
after_character_le (c ∷ cs) = elim (goes_on c) as (λ b. length (cond b (after_character cs) (c ∷ cs)) ≤ length (c ∷ cs)) [ true ↦ omega (arith, after_character_le cs) | false ↦ omega arith ]

-- a piece of so many bytes leaves fewer
abbrev pub LeavesFewer : ℕ → Piece → Type 0
LeavesFewer n (Quote after) = length after < n
LeavesFewer n Unended = Unit {0}
LeavesFewer n (Single c after) = length after < n
LeavesFewer n Nothing = Unit {0}

quote_fewer : (n : ℕ) (o : Option (List ℕ)) → IfSome o (λ after. length after < n) → LeavesFewer n (quote_piece o)
quote_fewer n None h = tt
quote_fewer n (Some after) h = h

character_fewer : (n : ℕ) (cs : List ℕ) (o : Option (List ℕ)) → length cs < n → IfSome o (λ after. length after < n) → LeavesFewer n (character_piece cs o)
character_fewer n cs None less h = less
character_fewer n cs (Some after) less h = h

apostrophe_fewer : (n : ℕ) (cs : List ℕ) → length cs < n → LeavesFewer n (apostrophe_piece cs)
apostrophe_fewer n [] less = less
apostrophe_fewer n (c ∷ cs) less =
    elim (eqb c backslash) as (λ b. LeavesFewer n (cond b (quote_piece (past apostrophe (from_char apostrophe cs))) (character_piece (c ∷ cs) (past apostrophe (after_character cs))))) [
      | true ↦ quote_fewer n _ (past_le n apostrophe (from_char apostrophe cs) (omega (arith, from_char_le apostrophe cs)))
      | false ↦ character_fewer n (c ∷ cs) _ less (past_le n apostrophe (after_character cs) (omega (arith, after_character_le cs)))
    ]

pub piece_fewer : (text : List ℕ) → LeavesFewer (length text) (piece text)
piece_fewer [] = tt
piece_fewer (c ∷ cs) =
    elim (eqb c quote) as (λ b. LeavesFewer (length (c ∷ cs)) (cond b (quote_piece (past quote (from_unescaped quote cs))) (cond (eqb c apostrophe) (apostrophe_piece cs) (Single c cs)))) [
      | true ↦ quote_fewer _ _ (past_le _ quote (from_unescaped quote cs) (omega (arith, from_unescaped_le quote cs)))
      | false ↦ elim (eqb c apostrophe) as (λ b. LeavesFewer (length (c ∷ cs)) (cond b (apostrophe_piece cs) (Single c cs))) [
        | true ↦ apostrophe_fewer _ cs (omega arith)
        | false ↦ omega arith
      ]
    ]
