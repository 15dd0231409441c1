-- A text has one list of tokens.
use Rattle.std.proofs.Common.{◌≡◌, ℕ, List, [], ◌∷◌, ◌++◌, ◌⊎◌, inl, inr, refl, sym, ap, ◌∙◌, subst, append_assoc, Ok, Err}
use Rattle.lp_tok.specs.declared.tok.ErrorCode.{ErrorCode}
use Rattle.lp_tok.specs.declared.tok.ErrorCode.TheVariants.{UnterminatedCode}
use Rattle.lp_tok.specs.declared.piece.Texted.{Texted}
use Rattle.lp_tok.specs.declared.piece.Texted.TheVariants.{ShebangAttribute}
use Rattle.lp_tok.specs.Token.{Text, Item}
use Rattle.lp_tok.specs.Cut.{StopsAt, BreaksAt, IsUnclosed}
use Rattle.lp_tok.specs.Pieces.{Piece, Gap, Whole, Attribute, Cut, Fault, Nothing, text_between}
use Rattle.lp_tok.specs.WordPieces.{first_piece}
use Rattle.lp_tok.specs.Tokens.{place, AreTokens, tokens_none, tokens_gap, tokens_whole, tokens_attribute, tokens_cut, tokens_fault, tokens_breaks, tokens_unclosed}
use Rattle.lp_tok.proofs.CutSteps.{stops_same, stops_breaks, stops_unclosed, breaks_same, breaks_unclosed}

-- what the first piece says of the list
CutItems : ℕ → List ℕ → Texted → List ℕ → List Item → Type 0
CutItems end cs kind code items =
    ((rest : List ℕ) × (more : List Item) × StopsAt code rest × AreTokens end rest more × (items ≡ Ok (place end cs, Text kind (text_between code rest), place end rest) ∷ more))
    ⊎ (((error : ErrorCode) × (at : List ℕ) × BreaksAt code error at × (items ≡ Err (record { location = place end at; code = error }) ∷ []))
    ⊎ (IsUnclosed code × (items ≡ Err (record { location = place end cs; code = UnterminatedCode }) ∷ [])))

abbrev AfterPiece : ℕ → List ℕ → Piece → List Item → Type 0
AfterPiece end cs Nothing items = items ≡ []
AfterPiece end cs (Gap rest) items = AreTokens end rest items
AfterPiece end cs (Whole token rest) items = (more : List Item) × AreTokens end rest more × (items ≡ Ok (place end cs, token, place end rest) ∷ more)
AfterPiece end cs (Attribute stop rest) items = (more : List Item) × AreTokens end rest more × (items ≡ Ok (place end cs, Text ShebangAttribute (text_between cs stop), place end stop) ∷ more)
AfterPiece end cs (Cut kind code) items = CutItems end cs kind code items
AfterPiece end cs (Fault code at) items = items ≡ Err (record { location = place end at; code = code }) ∷ []

after_piece : (end : ℕ) (cs : List ℕ) (items : List Item) (p : Piece) → first_piece cs ≡ p → AreTokens end cs items → AfterPiece end cs p items
unfolding CutItems
after_piece end _ _ p is (tokens_none cs e) = subst (λ q. AfterPiece end cs q []) (sym e ∙ is) refl
after_piece end _ _ p is (tokens_gap cs rest items e more) = subst (λ q. AfterPiece end cs q items) (sym e ∙ is) more
after_piece end _ _ p is (tokens_whole cs rest token items e more) = subst (λ q. AfterPiece end cs q (Ok (place end cs, token, place end rest) ∷ items)) (sym e ∙ is) (items, more, refl)
after_piece end _ _ p is (tokens_attribute cs stop rest items e more) = subst (λ q. AfterPiece end cs q (Ok (place end cs, Text ShebangAttribute (text_between cs stop), place end stop) ∷ items)) (sym e ∙ is) (items, more, refl)
after_piece end _ _ p is (tokens_cut cs code rest kind items e stops more) = subst (λ q. AfterPiece end cs q (Ok (place end cs, Text kind (text_between code rest), place end rest) ∷ items)) (sym e ∙ is) (inl (rest, items, stops, more, refl))
after_piece end _ _ p is (tokens_fault cs at code e) = subst (λ q. AfterPiece end cs q (Err (record { location = place end at; code = code }) ∷ [])) (sym e ∙ is) refl
after_piece end _ _ p is (tokens_breaks cs code at kind error e breaks) = subst (λ q. AfterPiece end cs q (Err (record { location = place end at; code = error }) ∷ [])) (sym e ∙ is) (inr (inl (error, at, breaks, refl)))
after_piece end _ _ p is (tokens_unclosed cs code kind e unclosed) = subst (λ q. AfterPiece end cs q (Err (record { location = place end cs; code = UnterminatedCode }) ∷ [])) (sym e ∙ is) (inr (inr (unclosed, refl)))

-- two lists of one text are the same
pub one_list : (end : ℕ) (cs : List ℕ) (a b : List Item) → AreTokens end cs a → AreTokens end cs b → a ≡ b
unfolding CutItems
one_list end _ _ b (tokens_none cs e) other = sym (after_piece end cs b Nothing e other)
one_list end _ _ b (tokens_gap cs rest items e more) other = one_list end rest items b more (after_piece end cs b (Gap rest) e other)
one_list end _ _ b (tokens_whole cs rest token items e more) other =
    let same = after_piece end cs b (Whole token rest) e other in
    ap (λ l. Ok (place end cs, token, place end rest) ∷ l) (one_list end rest items same.0 more same.1) ∙ sym same.2
one_list end _ _ b (tokens_attribute cs stop rest items e more) other =
    let same = after_piece end cs b (Attribute stop rest) e other in
    ap (λ l. Ok (place end cs, Text ShebangAttribute (text_between cs stop), place end stop) ∷ l) (one_list end rest items same.0 more same.1) ∙ sym same.2
one_list end _ _ b (tokens_cut cs code rest kind items e stops more) other =
    elim (after_piece end cs b (Cut kind code) e other) [
      | inl same ↦
          let stop : same.0 ≡ rest = stops_same code same.0 rest same.2 stops in
          let tail = one_list end rest items same.1 more (subst (λ r. AreTokens end r same.1) stop same.3) in
          ap (λ l. Ok (place end cs, Text kind (text_between code rest), place end rest) ∷ l) tail
          ∙ ap (λ r. Ok (place end cs, Text kind (text_between code r), place end r) ∷ same.1) (sym stop) ∙ sym same.4
      | inr fails ↦ elim fails [
        | inl breaks ↦ absurd (stops_breaks code rest breaks.1 breaks.0 stops breaks.2)
        | inr unclosed ↦ absurd (stops_unclosed code rest stops unclosed.0)
      ]
    ]
one_list end _ _ b (tokens_fault cs at code e) other = sym (after_piece end cs b (Fault code at) e other)
one_list end _ _ b (tokens_breaks cs code at kind error e breaks) other =
    elim (after_piece end cs b (Cut kind code) e other) [
      | inl stops ↦ absurd (stops_breaks code stops.0 at error stops.2 breaks)
      | inr fails ↦ elim fails [
        | inl same ↦
            let equal = breaks_same code at same.1 error same.0 breaks same.2 in
            (λ i. Err (record { location = place end (equal.1 i); code = equal.0 i }) ∷ []) ∙ sym same.3
        | inr unclosed ↦ absurd (breaks_unclosed code at error breaks unclosed.0)
      ]
    ]
one_list end _ _ b (tokens_unclosed cs code kind e unclosed) other =
    elim (after_piece end cs b (Cut kind code) e other) [
      | inl stops ↦ absurd (stops_unclosed code stops.0 stops.2 unclosed)
      | inr fails ↦ elim fails [
        | inl breaks ↦ absurd (breaks_unclosed code breaks.1 breaks.0 breaks.2 unclosed)
        | inr same ↦ sym same.1
      ]
    ]

-- the list of what was read and what is left
pub seen_more : (seen items : List Item) (x : Item) → (seen ++ x ∷ []) ++ items ≡ seen ++ x ∷ items
seen_more seen items x = append_assoc seen (x ∷ []) items
