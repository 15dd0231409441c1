-- What may follow the symbol after the dot of an item.
use Rattle.std.proofs.Common.{◌≡◌, ℕ, ◌↔◌, true, false, IsTrue, List, refl, sym, ⊎_elim, inl, inr, subst, bit_or}
use Rattle.lp_repr.specs.declared.numbering.Rule.{Rule}
use Rattle.lp_repr.specs.declared.lr1.Token.{Token}
use Rattle.lp_repr.specs.declared.lr1.Token.TheVariants.{Terminal, Eof}
use Rattle.lp_sets.specs.declared.tokens.TokenSet.{TokenSet}
use Rattle.lp_sets.specs.Members.{Has}
use Rattle.lp_sets.specs.TokenSets.{HasToken, union_of}
use Rattle.lp_sets.specs.FirstTables.{vanishes, first_terminals, AreFirsts}
use Rattle.lp_sets.proofs.TokenLists.{Has-or, HasToken-union}
use Rattle.lp_states.specs.ItemSets.{word_after}
use Rattle.lp_states.specs.Asking.{MayFollow}

-- terminals added to no tokens
pub only_terminals : (s : TokenSet) → ((t : Token) → HasToken s t → ⊥) → (ft : ℕ) (f : TokenSet) → f.terminals ≡ bit_or s.terminals ft → f.end ≡ s.end → (t : Token) → HasToken f t ↔ ((n : ℕ) × (t ≡ Terminal n) × Has ft n)
only_terminals s none ft f e g (Terminal n) =
    (λ h. ⊎_elim (λ (x : Has s.terminals n). absurd (none (Terminal n) x)) (λ (x : Has ft n). (n, refl, x)) ((Has-or s.terminals ft n).0 (subst (λ m. Has m n) e h)), λ w. let is = w.1 in let q : w.0 ≡ n = cc in subst (λ m. Has m n) (sym e) ((Has-or s.terminals ft n).1 (inr (subst (λ m. Has ft m) q w.2))))
only_terminals s none ft f e g Eof = (λ h. absurd (none Eof (subst IsTrue g h)), λ w. let is = w.1 in cc)

module _ (rules : List Rule) (empty : ℕ) (sets : List ℕ) (firsts : AreFirsts rules empty sets) (p d : ℕ) (s f : TokenSet) (begun : (t : Token) → HasToken f t ↔ ((n : ℕ) × (t ≡ Terminal n) × Has (first_terminals empty sets (word_after rules p d)) n)) where
  pub follow_passed : vanishes empty (word_after rules p d) ≡ true → (t : Token) → HasToken (union_of f s) t ↔ MayFollow rules p d s t
  follow_passed e t =
      (λ h. ⊎_elim (λ (x : HasToken f t). let w = (begun t).0 x in inl (w.0, w.1, (firsts.begins (word_after rules p d) w.0).0 w.2)) (λ (x : HasToken s t). inr ((firsts.derives (word_after rules p d)).0 e, x)) ((HasToken-union f s t).0 h), λ h. (HasToken-union f s t).1 (⊎_elim (λ w. inl ((begun t).1 (w.0, w.1, (firsts.begins (word_after rules p d) w.0).1 w.2))) (λ w. inr w.1) h))

  pub follow_stopped : vanishes empty (word_after rules p d) ≡ false → (t : Token) → HasToken f t ↔ MayFollow rules p d s t
  follow_stopped e t =
      (λ h. let w = (begun t).0 h in inl (w.0, w.1, (firsts.begins (word_after rules p d) w.0).0 w.2), λ h. ⊎_elim (λ w. (begun t).1 (w.0, w.1, (firsts.begins (word_after rules p d) w.0).1 w.2)) (λ w. let y = (firsts.derives (word_after rules p d)).1 w.0 in cc) h)
