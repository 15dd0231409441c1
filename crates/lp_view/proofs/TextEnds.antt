-- What is left behind pieces of a text is the end of the text.
use Rattle.std.proofs.Common.{◌≡◌, ℕ, true, false, cond, eqb, List, [], ◌∷◌, ◌++◌, Option, Some, None, IfSome, refl, sym, ap, ◌∙◌, subst, append_assoc}
use Rattle.lp_tok.specs.Signs.{quote, apostrophe, backslash}
use Rattle.lp_tok.specs.Scans.{from_char, from_unescaped, past}
use Rattle.lp_texts.specs.Quotes.{Piece, Quote, Unended, Single, Nothing, goes_on, after_character, quote_piece, character_piece, apostrophe_piece, piece}
use Rattle.lp_texts.specs.Brackets.{Onward, step_over, Leads, leads_none, leads_one}

-- a text that ends with another
abbrev pub EndsWith : List ℕ → List ℕ → Type 0
EndsWith s t = (front : List ℕ) × (s ≡ front ++ t)

ends_itself : (s : List ℕ) → EndsWith s s
ends_itself s = ([], refl)

ends_more : (c : ℕ) (s t : List ℕ) → EndsWith s t → EndsWith (c ∷ s) t
ends_more c s t h = (c ∷ h.0, ap (λ (xs : List ℕ). c ∷ xs) h.1)

ends_both : (s t u : List ℕ) → EndsWith s t → EndsWith t u → EndsWith s u
ends_both s t u h k = (h.0 ++ k.0, h.1 ∙ ap (λ (xs : List ℕ). h.0 ++ xs) k.1 ∙ sym (append_assoc h.0 k.0 u))

abbrev EndsOver : List ℕ → Option (List ℕ) → Type 0
EndsOver s o = IfSome o (λ after. EndsWith s after)

past_ends : (c : ℕ) (cs : List ℕ) → EndsOver cs (past c cs)
past_ends c [] = tt
past_ends c (d ∷ cs) = elim (eqb d c) as (λ b. EndsOver (d ∷ cs) (cond b (Some cs) None)) [ true ↦ ends_more d cs cs (ends_itself cs) | false ↦ tt ]

from_char_ends : (c : ℕ) (cs : List ℕ) → EndsWith cs (from_char c cs)
from_char_ends c [] = ends_itself []
from_char_ends c (d ∷ cs) = elim (eqb d c) as (λ b. EndsWith (d ∷ cs) (cond b (d ∷ cs) (from_char c cs))) [ true ↦ ends_itself (d ∷ cs) | false ↦ ends_more d cs (from_char c cs) (from_char_ends c cs) ]

from_unescaped_ends : (q : ℕ) (cs : List ℕ) → EndsWith cs (from_unescaped q cs)
from_unescaped_ends q [] = ends_itself []
from_unescaped_ends q (c ∷ []) = elim (eqb c q) as (λ b. EndsWith (c ∷ []) (cond b (c ∷ []) [])) [ true ↦ ends_itself (c ∷ []) | false ↦ ends_more c [] [] (ends_itself []) ]
from_unescaped_ends q (c ∷ d ∷ cs) =
    elim (eqb c q) as (λ b. EndsWith (c ∷ d ∷ cs) (cond b (c ∷ d ∷ cs) (cond (eqb c backslash) (from_unescaped q cs) (from_unescaped q (d ∷ cs))))) [
      | true ↦ ends_itself (c ∷ d ∷ cs)
      | false ↦ elim (eqb c backslash) as (λ b. EndsWith (c ∷ d ∷ cs) (cond b (from_unescaped q cs) (from_unescaped q (d ∷ cs)))) [
        | true ↦ ends_more c (d ∷ cs) (from_unescaped q cs) (ends_more d cs (from_unescaped q cs) (from_unescaped_ends q cs))
        | false ↦ ends_more c (d ∷ cs) (from_unescaped q (d ∷ cs)) (from_unescaped_ends q (d ∷ cs))
      ]
    ]

after_character_ends : (cs : List ℕ) → EndsWith cs (after_character cs)
after_character_ends [] = ends_itself []
after_character_ends (c ∷ cs) = elim (goes_on c) as (λ b. EndsWith (c ∷ cs) (cond b (after_character cs) (c ∷ cs))) [ true ↦ ends_more c cs (after_character cs) (after_character_ends cs) | false ↦ ends_itself (c ∷ cs) ]

-- what stands behind a piece of a text is the end of it
abbrev PieceEnds : List ℕ → Piece → Type 0
PieceEnds s (Quote after) = EndsWith s after
PieceEnds s Unended = Unit {0}
PieceEnds s (Single c after) = EndsWith s after
PieceEnds s Nothing = Unit {0}

over_ends : (s t : List ℕ) (o : Option (List ℕ)) → EndsWith s t → EndsOver t o → EndsOver s o
over_ends s t None h k = tt
over_ends s t (Some after) h k = ends_both s t after h k

quote_ends : (s : List ℕ) (o : Option (List ℕ)) → EndsOver s o → PieceEnds s (quote_piece o)
quote_ends s None h = tt
quote_ends s (Some after) h = h

character_ends : (s cs : List ℕ) (o : Option (List ℕ)) → EndsWith s cs → EndsOver s o → PieceEnds s (character_piece cs o)
character_ends s cs None own h = own
character_ends s cs (Some after) own h = h

apostrophe_ends : (s cs : List ℕ) → EndsWith s cs → PieceEnds s (apostrophe_piece cs)
apostrophe_ends s [] own = own
apostrophe_ends s (c ∷ cs) own =
    let inner : EndsWith s cs = ends_both s (c ∷ cs) cs own (ends_more c cs cs (ends_itself cs)) in
    elim (eqb c backslash) as (λ b. PieceEnds s (cond b (quote_piece (past apostrophe (from_char apostrophe cs))) (character_piece (c ∷ cs) (past apostrophe (after_character cs))))) [
      | true ↦ quote_ends s _ (over_ends s (from_char apostrophe cs) _ (ends_both s cs _ inner (from_char_ends apostrophe cs)) (past_ends apostrophe (from_char apostrophe cs)))
      | false ↦ character_ends s (c ∷ cs) _ own (over_ends s (after_character cs) _ (ends_both s cs _ inner (after_character_ends cs)) (past_ends apostrophe (after_character cs)))
    ]

piece_ends : (s : List ℕ) → PieceEnds s (piece s)
piece_ends [] = tt
piece_ends (c ∷ cs) =
    let inner : EndsWith (c ∷ cs) cs = ends_more c cs cs (ends_itself cs) in
    elim (eqb c quote) as (λ b. PieceEnds (c ∷ cs) (cond b (quote_piece (past quote (from_unescaped quote cs))) (cond (eqb c apostrophe) (apostrophe_piece cs) (Single c cs)))) [
      | true ↦ quote_ends (c ∷ cs) _ (over_ends (c ∷ cs) (from_unescaped quote cs) _ (ends_both (c ∷ cs) cs _ inner (from_unescaped_ends quote cs)) (past_ends quote (from_unescaped quote cs)))
      | false ↦ elim (eqb c apostrophe) as (λ b. PieceEnds (c ∷ cs) (cond b (apostrophe_piece cs) (Single c cs))) [
        | true ↦ apostrophe_ends (c ∷ cs) cs inner
        | false ↦ inner
      ]
    ]

onward_ends : (s before next inner : List ℕ) (p : Piece) → PieceEnds s p → step_over before p ≡ Onward next inner → EndsWith s next
onward_ends s before next inner (Quote after) h e = let same : after ≡ next = cc in subst (λ x. EndsWith s x) same h
onward_ends s before next inner Unended h e = absurd cc
onward_ends s before next inner (Single c after) h e = let same : after ≡ next = cc in subst (λ x. EndsWith s x) same h
onward_ends s before next inner Nothing h e = absurd cc

pub leads_ends : (text before rest brackets : List ℕ) → Leads text before rest brackets → EndsWith text rest
leads_ends _ _ _ _ (leads_none text before) = ends_itself text
leads_ends _ _ _ _ (leads_one text before next inner rest brackets first more) = ends_both text next rest (onward_ends text before next inner (piece text) (piece_ends text) first) (leads_ends next inner rest brackets more)
