-- The line of a reduction's arm: below its tokens are the lines of the reduction, which are its body.
use Rattle.std.proofs.Common.{◌≡◌, ℕ, Bool, true, false, List, [], ◌∷◌, ◌++◌, map, Option, Some, None, refl, sym, ap, ◌∙◌, append-nil}
use Rattle.std.specs.Prelude.{if◌then◌else◌}
use Rattle.lp_form.specs.declared.part.Part.TheVariants as part
use Rattle.lp_repr.specs.declared.lr1.Token.{Token}
use Rattle.lp_repr.specs.declared.repr.Grammar.{Grammar}
use Rattle.lp_repr.specs.declared.repr.Production.{Production}
use Rattle.lp_build.specs.Built as built
use Rattle.lp_view.specs.PartLists.{Form, is_a, hole_of, parts_of, over, first_that}
use Rattle.lp_maker.specs.Making.{Making}
use Rattle.lp_bodies.specs.Tables.{Reading, reading_of}
use Rattle.lp_bodies.specs.Reductions.{Done}
use Rattle.lp_ascent_bodies.specs.declared.ascent.Lines.{Lines as Shared}
use Rattle.lp_ascent_bodies.specs.AscentArms.{Arming, is_token, token_case, end_case, case_row, first_case, reduce_cases, lines_below, found_reduce, reduce_arm}
use Rattle.lp_ascent_bodies.specs.AscentReductions.{ascent_reduce}
use Rattle.lp_ascent_bodies.specs.AscentStates.{arm_of}
use Rattle.lp_ascent.specs.AnswerLines.{answer_name}
use Rattle.lp_ascent.specs.ReduceLines.{arm_on, but_last, last_pattern, ends, token_patterns, reduction_arm, reduction_of}
use Rattle.lp_ascent.specs.Slots.{Layout}
use Rattle.lp_question_laws.proofs.Gotos.Whole.{IsWhole, parts_over, whole-append}
use Rattle.lp_back_end_laws.specs.Call.Cases.{row_soughts}
use Rattle.lp_back_end_laws.proofs.Call.CaseBodies.{arm_body, reduce_body, next_arming}
use Rattle.lp_back_end_laws.proofs.Call.SoughtLines.{row_form, last_form, more_forms, more_flat, rows_whole, last_whole, below_whole, below_quiet}

-- ---- what is below the tokens
module _ (below : Form) (whole : IsWhole below) (quiet : row_soughts [] below ≡ []) (is : is_a part.ReduceLines below ≡ true) where
  found_here : first_that (is_a part.ReduceLines) (below ∷ []) ≡ Some below
  found_here = ap (λ (b : Bool). if b then Some below else None) is

  found_behind : (ps : List (List ℕ)) (last : Option (List ℕ)) → first_that (is_a part.ReduceLines) (map row_form ps ++ (last_form last ∷ below ∷ [])) ≡ Some below
  found_behind [] None = found_here
  found_behind [] (Some p) = found_here
  found_behind (p ∷ ps) last = found_behind ps last

  found_below : (ps : List (List ℕ)) (last : Option (List ℕ)) → lines_below (arm_on ps last below) ≡ Some below
  found_below [] None = ap (λ es. first_that (is_a part.ReduceLines) (parts_of (built.over part.ReduceEnd [] es))) (sym (append-nil below)) ∙ ap (first_that (is_a part.ReduceLines)) (parts_over part.ReduceEnd [] (below ∷ []) (whole, tt)) ∙ found_here
  found_below [] (Some p) = ap (λ es. first_that (is_a part.ReduceLines) (parts_of (built.over part.ReduceToken (p ∷ []) es))) (sym (append-nil below)) ∙ ap (first_that (is_a part.ReduceLines)) (parts_over part.ReduceToken (p ∷ []) (below ∷ []) (whole, tt)) ∙ found_here
  found_below (p ∷ ps) last =
      ap (λ es. first_that (is_a part.ReduceLines) (parts_of (built.over part.ReduceMany (p ∷ []) es))) (more_flat [] below whole quiet ps last)
      ∙ ap (first_that (is_a part.ReduceLines)) (parts_over part.ReduceMany (p ∷ []) (more_forms [] below whole quiet ps last) (whole-append (map row_form ps) (last_form last ∷ below ∷ []) (rows_whole ps) (last_whole last, (whole, tt))))
      ∙ found_behind ps last

-- ---- tests make nothing but texts
pub record KeepsNames (m n : Making) : Type 0 where
  pub names : n.names ≡ m.names
  pub variants : n.variants ≡ m.variants
  pub functions : n.functions ≡ m.functions
  pub prefix : n.prefix ≡ m.prefix

row_keeps : (s : Reading) (row : Form) → KeepsNames s.made (case_row s row).made
row_keeps s row = by (is_token row) (is_a part.LastEnd row)
  where
    by : (a b : Bool) → KeepsNames s.made (if a then token_case (hole_of 0 row) s else (if b then end_case s else s)).made
    by true b = record { names = refl; variants = refl; functions = refl; prefix = refl }
    by false true = record { names = refl; variants = refl; functions = refl; prefix = refl }
    by false false = record { names = refl; variants = refl; functions = refl; prefix = refl }

rows_keep : (s : Reading) (rows : List Form) → KeepsNames s.made (over case_row s rows).made
rows_keep s [] = record { names = refl; variants = refl; functions = refl; prefix = refl }
rows_keep s (row ∷ rows) =
    let first = row_keeps s row in
    let rest = rows_keep (case_row s row) rows in
    record { names = rest.names ∙ first.names; variants = rest.variants ∙ first.variants; functions = rest.functions ∙ first.functions; prefix = rest.prefix ∙ first.prefix }

first_keeps : (line : Form) (s : Reading) → KeepsNames s.made (first_case line s).made
first_keeps line s = by (is_a part.ReduceEnd line)
  where
    by : (b : Bool) → KeepsNames s.made (if b then end_case s else token_case (hole_of 0 line) s).made
    by true = record { names = refl; variants = refl; functions = refl; prefix = refl }
    by false = record { names = refl; variants = refl; functions = refl; prefix = refl }

pub cases_keep : (line : Form) (s : Reading) → KeepsNames s.made (reduce_cases line s).made
cases_keep line s =
    let first = first_keeps line s in
    let rest = rows_keep (first_case line s) (parts_of line) in
    record { names = rest.names ∙ first.names; variants = rest.variants ∙ first.variants; functions = rest.functions ∙ first.functions; prefix = rest.prefix ∙ first.prefix }

-- ---- the arm
module _ (shared : Shared) (a : Arming) where
  -- what was made before the lines of a reduction
  abbrev pub made_before : Form → Making
  made_before line = (reduce_cases line (reading_of a.arms a.made)).made

  arm_reduces : (below : Form) (ps : List (List ℕ)) (last : Option (List ℕ)) → arm_of shared (arm_on ps last below) a ≡ reduce_arm shared (arm_on ps last below) a
  arm_reduces below [] None = refl
  arm_reduces below [] (Some p) = refl
  arm_reduces below (p ∷ ps) last = refl

  body_reduces : (below : Form) (ps : List (List ℕ)) (last : Option (List ℕ)) → arm_body shared (arm_on ps last below) a ≡ reduce_body shared (arm_on ps last below) a
  body_reduces below [] None = refl
  body_reduces below [] (Some p) = refl
  body_reduces below (p ∷ ps) last = refl

  module _ (g : Grammar) (l : Layout) (p : Production) (tokens : List Token) where
    is_lines : is_a part.ReduceLines (reduction_of g l p) ≡ true
    unfolding reduction_of
    is_lines = refl

    -- what it answers has the nonterminal's name
    pub reduction_named : hole_of 0 (reduction_of g l p) ≡ answer_name p.nonterminal
    unfolding reduction_of
    reduction_named = refl

    abbrev patterns : List (List ℕ)
    patterns = but_last (ends tokens) (token_patterns g tokens)

    abbrev last : Option (List ℕ)
    last = last_pattern (ends tokens) (token_patterns g tokens)

    reduction_below : lines_below (reduction_arm g l p tokens) ≡ Some (reduction_of g l p)
    reduction_below = found_below (reduction_of g l p) (below_whole [] g l p) (below_quiet [] g l p) is_lines patterns last

    -- the reduction that is read
    abbrev pub read_reduction : Done
    read_reduction = ascent_reduce shared (made_before (reduction_arm g l p tokens)) a.names (reduction_of g l p)

    pub reduction_body : arm_body shared (reduction_arm g l p tokens) a ≡ read_reduction.value
    reduction_body =
        body_reduces (reduction_of g l p) patterns last
        ∙ ap (λ (o : Option Form). (found_reduce shared (made_before (reduction_arm g l p tokens)) a.names o).value) reduction_below

    pub reduction_made : (next_arming shared a (reduction_arm g l p tokens)).made ≡ read_reduction.made
    reduction_made =
        ap (λ (b : Arming). b.made) (arm_reduces (reduction_of g l p) patterns last)
        ∙ ap (λ (o : Option Form). (found_reduce shared (made_before (reduction_arm g l p tokens)) a.names o).made) reduction_below

    pub reduction_names : (next_arming shared a (reduction_arm g l p tokens)).names ≡ read_reduction.names
    reduction_names =
        ap (λ (b : Arming). b.names) (arm_reduces (reduction_of g l p) patterns last)
        ∙ ap (λ (o : Option Form). (found_reduce shared (made_before (reduction_arm g l p tokens)) a.names o).names) reduction_below
