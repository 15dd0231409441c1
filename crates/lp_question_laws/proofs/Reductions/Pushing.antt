-- The last line of a reduction: its symbol goes on the list, or its value ends the parse.
use Rattle.std.proofs.Common.{◌≡◌, ℕ, ◌<◌, ◌≤◌, ◌^◌, ℤ, Bool, true, false, List, [], ◌∷◌, ◌++◌, Some, Ok, refl, sym, subst, arith, codes, decimal}
use Rattle.lp_repr.specs.declared.values.Loc.{Loc}
use Rattle.lp_driver.specs.Values.{Spanned, Value}
use Rattle.lp_core.specs.declared.value.Tag.TheVariants as tag
use Rattle.lp_core.specs.declared.expr.Join.TheVariants as join
use Rattle.lp_core.specs.Datum.{Parsed, Cell, Unset}
use Rattle.lp_core.specs.Reading.{location, triple, wrapped}
use Rattle.lp_core.specs.Effect.{unit}
use Rattle.lp_core.specs.Store.{Program, UserCall}
use Rattle.lp_core.specs.Tree.{Tree, trees_of}
use Rattle.lp_core.specs.Val.{Val, Plain}
use Rattle.lp_form.specs.declared.part.Part.TheVariants as part
use Rattle.lp_tree.specs.ProgramTree.{leaf}
use Rattle.lp_view.specs.PartLists.{Form}
use Rattle.lp_maker.specs.Slots.{Names}
use Rattle.lp_maker.specs.Numbers.{number_of}
use Rattle.lp_maker.specs.Constructs as maker
use Rattle.lp_maker.specs.Making.{Making, variant_tag}
use Rattle.lp_bodies.specs.Lines.{Lines}
use Rattle.lp_bodies.specs.Reductions.{symbols, symbol_triple, outcome, push_line, start_line}
use Rattle.lp_code_laws.specs.Ends.Ends.{Moment, steps, Eval, Sequence, Giving, EndsIn}
use Rattle.lp_code_laws.proofs.Ends.Rules.{plain, apply_to, argument, call, give_back}
use Rattle.lp_code_laws.proofs.Ends.Blocks.{append, sequence_one}
use Rattle.lp_code_laws.proofs.Ends.Calls.{joined}
use Rattle.lp_code_laws.proofs.Ends.Cells.{push_symbol}
use Rattle.lp_code_laws.proofs.Ends.Steps.{steps_are}
use Rattle.lp_code_laws.specs.Slots.Shows.{Shows}
use Rattle.lp_code_laws.proofs.Printed.Lines.{read_shown}
use Rattle.lp_question_laws.proofs.Gotos.Digits.{number_of_decimal}
use Rattle.lp_question_laws.specs.Reductions.Stacks.{over_two}
use Rattle.lp_question_laws.specs.Reductions.Lined.{Lined}
use Rattle.lp_question_laws.specs.Reductions.Outcomes.{pair_val, outcome_as, symbols_after}

abbrev pub outcome_form : Bool → List ℕ → ℕ → ℕ → Form
outcome_form true variant n nonterminal = leaf part.OutcomeStart []
outcome_form false variant n nonterminal = leaf part.OutcomePush (variant ∷ decimal n ∷ decimal nonterminal ∷ [])

module _ {p : Program} {old : Names} {before : List Val} {start : Moment} {taken : ℕ} {ss : List ℤ} {l : List (Spanned Val)} {calls : List UserCall} {most used : ℕ} {now : List Val} {lines : Lines} (h : Lined p old before start taken ss l calls most used now lines)
    (v : Value) (value : Shows lines.names now (codes "~nt") (Plain (Parsed v))) where
  -- the lines end so
  pub record Last (parts : List Tree) (starts : Bool) (variant n nonterminal : ℕ) (at : Loc × Loc) : Type 0 where
    pub count : ℕ
    pub few : count ≤ most
    pub ends : EndsIn p (Sequence (trees_of parts) (Plain Unset)) start count (outcome_as starts (Ok v) n nonterminal (over_two now taken calls ss (symbols_after starts (Ok v) variant at l)))

  -- a start's value
  pub start_given : (variant n nonterminal : ℕ) (at : Loc × Loc) → Last (start_line lines).parts true variant n nonterminal at
  start_given variant n nonterminal at =
      record { count = steps h.count 0; few = omega (arith, h.few, steps_are h.count 0); ends = append lines.parts _ h.ran.ends (sequence_one (give_back (apply_to (apply_to (read_shown value refl) refl) refl))) }

  module _ (made : Making) (name : List ℕ) (variant n nonterminal : ℕ) (at : Loc × Loc) (tagged : variant_tag name made ≡ tag.Variant variant) (small : n < 2 ^ 64) (few : nonterminal < 2 ^ 64)
      (from : Shows lines.names now (codes "~start") (location at.0)) (to : Shows lines.names now (codes "~end") (location at.1)) (list : Shows lines.names now (codes "~symbols") (Plain (Cell 1))) where
    abbrev whole : List (Spanned Val)
    whole = l ++ (at.0, wrapped (tag.Variant variant) (Plain (Parsed v)), at.1) ∷ []

    triple_made : EndsIn p (Eval (symbol_triple (tag.Variant variant) lines.names)) (over_two now taken calls ss l) 0 (Giving (triple at.0 (wrapped (tag.Variant variant) (Plain (Parsed v))) at.1) (over_two now taken calls ss l))
    triple_made = call (argument (read_shown from refl) (argument (apply_to (read_shown value refl) refl) (argument (read_shown to refl) (joined refl refl))))

    pushed : EndsIn p (Eval (maker.joined join.Push (symbols lines.names ∷ symbol_triple (variant_tag name made) lines.names ∷ []))) (over_two now taken calls ss l) 0 (Giving unit (over_two now taken calls ss whole))
    pushed =
        let w = triple at.0 (wrapped (tag.Variant variant) (Plain (Parsed v))) at.1 in
        subst (λ t. EndsIn p (Eval (maker.joined join.Push (symbols lines.names ∷ symbol_triple t lines.names ∷ []))) (over_two now taken calls ss l) 0 (Giving unit (over_two now taken calls ss whole))) (sym tagged)
        (call (argument (read_shown list refl) (argument triple_made (joined refl (push_symbol p 1 (over_two now taken calls ss l).store 0 l w (at.0, wrapped (tag.Variant variant) (Plain (Parsed v)), at.1) refl refl)))))

    paired : EndsIn p (Eval (outcome (outcome_form false name n nonterminal))) (over_two now taken calls ss whole) 0 (Giving (pair_val n nonterminal) (over_two now taken calls ss whole))
    paired =
        subst (λ o. EndsIn p (Eval (maker.joined (join.Make tag.Tuple) (maker.index o ∷ maker.index (number_of (decimal nonterminal)) ∷ []))) (over_two now taken calls ss whole) 0 (Giving (pair_val n nonterminal) (over_two now taken calls ss whole))) (sym (number_of_decimal n small))
        (subst (λ o. EndsIn p (Eval (maker.joined (join.Make tag.Tuple) (maker.index (Some n) ∷ maker.index o ∷ []))) (over_two now taken calls ss whole) 0 (Giving (pair_val n nonterminal) (over_two now taken calls ss whole))) (sym (number_of_decimal nonterminal few))
        (call (argument (plain refl) (argument (plain refl) (joined refl refl)))))

    -- its symbol goes on the list
    pub symbol_pushed : Last (push_line made (outcome_form false name n nonterminal) lines).parts false variant n nonterminal at
    symbol_pushed = record {
      count = steps (steps h.count 0) 0;
      few = omega (arith, h.few, steps_are (steps h.count 0) 0, steps_are h.count 0);
      ends = append (lines.parts ++ _ ∷ []) _ (append lines.parts _ h.ran.ends (sequence_one pushed)) (sequence_one paired);
    }
