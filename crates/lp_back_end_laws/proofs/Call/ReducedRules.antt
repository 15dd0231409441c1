-- The machine's rule of a production that a state reduces.
use Rattle.std.proofs.Common.{◌≡◌, ℕ, List, length, Some, slice_get, sym, ap, ◌∙◌}
use Rattle.std.proofs.lemmas.Option.{same_Some}
use Rattle.lp_repr.specs.Numbering.{productions_of, nonterminals_of}
use Rattle.lp_repr.specs.declared.lr1.Lr1State.{Lr1State}
use Rattle.lp_repr.specs.declared.lr1.Token.{Token}
use Rattle.lp_repr.specs.declared.repr.Grammar.{Grammar}
use Rattle.lp_repr.specs.declared.repr.Production.{Production}
use Rattle.lp_machine.specs.declared.lookup.Act.TheVariants.{ReduceBy}
use Rattle.lp_machine.specs.declared.lookup.Rule.{Rule}
use Rattle.lp_machine.specs.Lookup.{act_at}
use Rattle.lp_machine.specs.Tables.{Tables}
use Rattle.lp_turn_laws.specs.Paths.Over.{IsOver}
use Rattle.lp_turn_laws.proofs.Paths.Acts.{reduces_at}
use Rattle.lp_turn_laws.proofs.Paths.MachineRules.{is_known}
use Rattle.lp_turn_laws.proofs.Paths.Numbered.{Entry, mapped_at}
use Rattle.lp_question_laws.proofs.Reductions.Rules.{production_stands}

-- the rule of a production: as many symbols, its action, and the number of its nonterminal
pub record RuleOf (g : Grammar) (t : Tables) (k : ℕ) (production : Production) : Type 0 where
  pub rule : Rule
  pub known : t.rule k ≡ Some rule
  pub length_is : rule.length ≡ length production.symbols
  pub action_is : rule.action ≡ production.action
  pub named : slice_get (nonterminals_of g) rule.nonterminal ≡ Some production.nonterminal

pub rule_reduced : {g : Grammar} {start : ℕ} {states : List Lr1State} {t : Tables} → IsOver g start states t → (q : ℕ) (token : Token) (k : ℕ) (production : Production) → act_at states q token ≡ ReduceBy k → slice_get (productions_of g) k ≡ Some production → RuleOf g t k production
rule_reduced {g} {start} {states} over q token k production act at =
    let r = reduces_at g start states over.tables q token k act in
    let m = is_known g k r.0 r.1 in
    let w = production_stands g over.grammar k m.0 m.1 in
    let same : w.production ≡ production = same_Some w.production production (sym w.at ∙ at) in
    record {
      rule = m.0;
      known = (over.known).rule k ∙ m.1;
      length_is = ap (λ (q : Rule). q.length) w.rule_is ∙ ap (λ (p : Production). length p.symbols) same;
      action_is = ap (λ (q : Rule). q.action) w.rule_is ∙ ap (λ (p : Production). p.action) same;
      named = ap (λ (q : Rule). slice_get (nonterminals_of g) q.nonterminal) w.rule_is
          ∙ mapped_at (λ (e : Entry). e.0) g.nonterminals.entries w.number w.entry w.entry_at
          ∙ ap Some (sym w.name_same ∙ ap (λ (p : Production). p.nonterminal) same);
    }
