-- Moves after moves.
use Rattle.std.proofs.Common.{◌≡◌, ℕ, zero, suc, ◌+◌, List, ap, ◌∙◌, arith}
use Rattle.lp_repr.specs.declared.values.RunItem.{RunItem}
use Rattle.lp_machine.specs.declared.config.Config.{Config}
use Rattle.lp_machine.specs.Tables.{Tables}
use Rattle.lp_machine.specs.Move.{move, moves}

module _ (t : Tables) (items : List RunItem) where
  pub moves_after : (a b : ℕ) (c : Config) → moves t items (a + b) c ≡ moves t items b (moves t items a c)
  moves_after zero b c =
      let e : zero + b ≡ b = omega arith in ap (λ n. moves t items n c) e
  moves_after (suc a) b c =
      let e : suc a + b ≡ suc (a + b) = omega arith in ap (λ n. moves t items n c) e ∙ moves_after a b (move t items c)

-- some moves lead from the one to the other
abbrev pub Leads : Tables → List RunItem → Config → Config → Type 0
Leads t items a b = (m : ℕ) × (moves t items m a ≡ b)

pub then_leads : (t : Tables) (items : List RunItem) (a b c : Config) → Leads t items a b → Leads t items b c → Leads t items a c
then_leads t items a b c f g = (f.0 + g.0, moves_after t items f.0 g.0 a ∙ ap (moves t items g.0) f.1 ∙ g.1)
