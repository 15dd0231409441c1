-- The rows of a printed header, gone over one after another.
use Rattle.std.proofs.Common.{◌≡◌, ℕ, Bool, true, false, List, [], ◌∷◌, ◌++◌, map, refl, ap, sym, ◌∙◌, append-nil, if◌then◌else◌}
use Rattle.std.specs.Prelude.{codes, nat_eq}
use Rattle.std.specs.Cmp.Lexicographic.{pointwise}
use Rattle.lp_form.specs.declared.part.Part.TheVariants as part
use Rattle.lp_build.specs.declared.functions.FunctionName.{FunctionName}
use Rattle.lp_build.specs.Built as built
use Rattle.lp_build.specs.Built.{row, text_rows}
use Rattle.lp_build.specs.Functions.{name_part, name_holes, result_line, clause_lines}
use Rattle.lp_form.specs.declared.part.Part.{Part}
use Rattle.lp_tree.specs.ProgramTree.{Item, leaf}
use Rattle.lp_table.specs.Headers.{header_lines}
use Rattle.lp_view.specs.PartLists.{Form, parts_of, over}
use Rattle.lp_question_laws.proofs.Gotos.Whole.{AreWhole, flat, parts_over, flat-append, whole-append}
use Rattle.lp_question_laws.proofs.Gotos.GotoCode.{over-append}

-- rows of texts as forms
abbrev pub row_forms : Part → List (List ℕ) → List Form
row_forms p texts = map (λ t. row p (t ∷ []) ∷ []) texts

pub rows_flat : (p : Part) (texts : List (List ℕ)) → flat (row_forms p texts) ≡ text_rows p texts
rows_flat p [] = refl
rows_flat p (t ∷ texts) = ap (λ x. row p (t ∷ []) ∷ x) (rows_flat p texts)

pub rows_whole : (p : Part) (texts : List (List ℕ)) → AreWhole (row_forms p texts)
rows_whole p [] = tt
rows_whole p (t ∷ texts) = (refl, rows_whole p texts)

-- the result, and the clauses
abbrev pub result_form : List ℕ → Form
result_form answer = result_line answer

result_whole : (answer : List ℕ) → AreWhole (result_form answer ∷ [])
result_whole answer = by (pointwise nat_eq answer (codes "()"))
  where
    by : (b : Bool) → AreWhole ((if b then leaf part.ResultUnit [] else leaf part.ResultType (answer ∷ [])) ∷ [])
    by true = (refl, tt)
    by false = (refl, tt)

abbrev clause_forms : List (List ℕ) → List Form
clause_forms [] = []
clause_forms (c ∷ cs) = built.over part.Clauses [] (text_rows part.ClauseRow (c ∷ cs)) ∷ []

clauses_flat : (clauses : List (List ℕ)) → flat (clause_forms clauses) ≡ clause_lines clauses
clauses_flat [] = refl
clauses_flat (c ∷ cs) = append-nil (clause_lines (c ∷ cs))

clauses_whole : (clauses : List (List ℕ)) → AreWhole (clause_forms clauses)
clauses_whole [] = tt
clauses_whole (c ∷ cs) = (refl, tt)

-- the parts of a header
abbrev header_forms : List (List ℕ) → List (List ℕ) → List ℕ → List (List ℕ) → List Form
header_forms generics params answer clauses = ((row_forms part.TypeRow generics ++ row_forms part.ParameterRow params) ++ result_form answer ∷ []) ++ clause_forms clauses

header_parts : (name : FunctionName) (generics params : List (List ℕ)) (answer : List ℕ) (clauses : List (List ℕ)) →
    parts_of (header_lines name generics params answer clauses) ≡ header_forms generics params answer clauses
unfolding header_lines
header_parts name generics params answer clauses =
    let t = row_forms part.TypeRow generics in
    let p = row_forms part.ParameterRow params in
    let r = result_form answer ∷ [] in
    let c = clause_forms clauses in
    let whole : AreWhole (((t ++ p) ++ r) ++ c) = whole-append ((t ++ p) ++ r) c (whole-append (t ++ p) r (whole-append t p (rows_whole part.TypeRow generics) (rows_whole part.ParameterRow params)) (result_whole answer)) (clauses_whole clauses) in
    let two : flat (t ++ p) ≡ text_rows part.TypeRow generics ++ text_rows part.ParameterRow params =
    flat-append t p ∙ ap (λ x. x ++ flat p) (rows_flat part.TypeRow generics) ∙ ap (λ x. text_rows part.TypeRow generics ++ x) (rows_flat part.ParameterRow params) in
    let three : flat ((t ++ p) ++ r) ≡ (text_rows part.TypeRow generics ++ text_rows part.ParameterRow params) ++ result_line answer =
    flat-append (t ++ p) r ∙ ap (λ x. flat (t ++ p) ++ x) (append-nil (result_line answer)) ∙ ap (λ x. x ++ result_line answer) two in
    let all : flat (((t ++ p) ++ r) ++ c) ≡ ((text_rows part.TypeRow generics ++ text_rows part.ParameterRow params) ++ result_line answer) ++ clause_lines clauses =
    flat-append ((t ++ p) ++ r) c ∙ ap (λ x. x ++ flat c) three ∙ ap (λ x. ((text_rows part.TypeRow generics ++ text_rows part.ParameterRow params) ++ result_line answer) ++ x) (clauses_flat clauses) in
    ap (λ below. parts_of (built.over (name_part name) (name_holes name) below)) (sym all)
    ∙ parts_over (name_part name) (name_holes name) (((t ++ p) ++ r) ++ c) whole

-- a step that passes over rows of a part changes nothing over several
pub rows_passed : {S : Type 0} (step : S → Form → S) (p : Part) → ((s : S) (t : List ℕ) → step s (row p (t ∷ []) ∷ []) ≡ s) → (s : S) (texts : List (List ℕ)) → over step s (row_forms p texts) ≡ s
rows_passed step p pass s [] = refl
rows_passed step p pass s (t ∷ texts) = ap (λ x. over step x (row_forms p texts)) (pass s t) ∙ rows_passed step p pass s texts

-- a header is its parameters and its result, to what passes over types and clauses
pub header_over : {S : Type 0} (step : S → Form → S) → ((s : S) (t : List ℕ) → step s (row part.TypeRow (t ∷ []) ∷ []) ≡ s) → ((s : S) (below : List Item) → step s (built.over part.Clauses [] below) ≡ s)
    → (name : FunctionName) (generics params : List (List ℕ)) (answer : List ℕ) (clauses : List (List ℕ)) (s : S)
    → over step s (parts_of (header_lines name generics params answer clauses)) ≡ step (over step s (row_forms part.ParameterRow params)) (result_form answer)
header_over step no_types no_clauses name generics params answer clauses s =
    let t = row_forms part.TypeRow generics in
    let p = row_forms part.ParameterRow params in
    let r = result_form answer ∷ [] in
    ap (over step s) (header_parts name generics params answer clauses)
    ∙ over-append step s ((t ++ p) ++ r) (clause_forms clauses)
    ∙ clauses_passed clauses (over step s ((t ++ p) ++ r))
    ∙ over-append step s (t ++ p) r
    ∙ ap (λ x. step x (result_form answer)) (over-append step s t p ∙ ap (λ x. over step x p) (rows_passed step part.TypeRow no_types s generics))
  where
    clauses_passed : (cs : List (List ℕ)) (x : _) → over step x (clause_forms cs) ≡ x
    clauses_passed [] x = refl
    clauses_passed (c ∷ cs) x = no_clauses x (text_rows part.ClauseRow (c ∷ cs))
