-- A program whose last part is the grammar's form of triples keeps locations where the grammar has them.
use Rattle.std.proofs.Common.{◌≡◌, ℕ, Bool, true, false, List, [], ◌∷◌, ◌++◌, Option, Some, None, is_some, refl, ap, ◌∙◌, if◌then◌else◌}
use Rattle.lp_repr.specs.declared.repr.Grammar.{Grammar}
use Rattle.lp_repr.specs.declared.repr.TypeRepr.{TypeRepr}
use Rattle.lp_assembly.specs.Built.{joined_clauses, implementations, triple_lines_by, triple_lines}
use Rattle.lp_view.specs.PartLists.{Form, parts_of, over}
use Rattle.lp_maker.specs.Making.{unmade}
use Rattle.lp_bodies.specs.Source.{is_located}
use Rattle.lp_run.specs.Promised.{Beginning, is_source, is_action, with_action_form, beginning_of, beginning_row}
use Rattle.lp_question_laws.proofs.Gotos.GotoCode.{over-append}
use Rattle.lp_question_laws.proofs.Tokens.TripleAnswered.{keeps_locations}

module _ (g : Grammar) where
  triples_source : (clauses : Option (List ℕ)) (loc : Option TypeRepr) → is_source (triple_lines_by g clauses (implementations g loc)) ≡ true
  triples_source None None = refl
  triples_source None (Some ty) = refl
  triples_source (Some c) None = refl
  triples_source (Some c) (Some ty) = refl

  triples_located : (clauses : Option (List ℕ)) (loc : Option TypeRepr) → is_located (triple_lines_by g clauses (implementations g loc)) ≡ is_some loc
  triples_located None None = refl
  triples_located None (Some ty) = refl
  triples_located (Some c) None = refl
  triples_located (Some c) (Some ty) = refl

  -- what the last form of a program tells
  last_row : (b : Beginning) (form : Form) → is_source form ≡ true → (beginning_row b form).located ≡ is_located form
  last_row b form h = ap (λ (t : Bool). (if t then record b { located = is_located form } else (if is_action form then with_action_form b form else b)).located) h

  pub keeps_by : (prefix : List ℕ) (program : Form) (before : List Form) → parts_of program ≡ before ++ triple_lines g ∷ [] → keeps_locations prefix program ≡ is_some g.types.loc
  keeps_by prefix program before parts =
      let start = beginning_of false [] (unmade prefix) in
      let clauses = joined_clauses g.where_clauses in
      ap (λ fs. (over beginning_row start fs).located) parts
      ∙ ap (λ (b : Beginning). b.located) (over-append beginning_row start before (triple_lines g ∷ []))
      ∙ last_row (over beginning_row start before) (triple_lines g) (triples_source clauses g.types.loc)
      ∙ triples_located clauses g.types.loc
