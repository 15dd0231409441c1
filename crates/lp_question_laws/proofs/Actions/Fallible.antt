-- Whether an action can fail, told by what its function returns.
use Rattle.std.proofs.Common.{◌≡◌, ℕ, suc, Bool, true, false, ◌&&◌, List, [], ◌∷◌, ◌++◌, length, Option, Some, None, refl, ap, sym, ◌∙◌, append_assoc, if◌then◌else◌}
use Rattle.std.specs.Prelude.{codes, is_some}
use Rattle.std.specs.Option.{option_map}
use Rattle.lp_form.specs.declared.part.Part.TheVariants as part
use Rattle.lp_repr.specs.ShownTypes.{type_text}
use Rattle.lp_repr.specs.declared.repr.ActionFnDefn.{ActionFnDefn}
use Rattle.lp_repr.specs.declared.repr.Grammar.{Grammar}
use Rattle.lp_build.specs.declared.functions.FunctionName.{FunctionName}
use Rattle.lp_parts.specs.Texts.{error_text, location_text, token_text}
use Rattle.lp_table.specs.Headers.{grammar_header, generics_of, clauses_of, declared_texts}
use Rattle.lp_actions.specs.Parameters.{action_parameters, return_text, result_of}
use Rattle.lp_maker.specs.Texts.{begins, first_place, around, holds}
use Rattle.lp_maker.proofs.Cuts.{has_front}
use Rattle.lp_bodies.specs.Actions.{can_fail, fallible_row, is_fallible, parse_error}
use Rattle.lp_question_laws.proofs.Actions.Rows.{rows_passed, result_form, header_over}
use Rattle.lp_question_laws.proofs.Actions.Parameters.{by_result}

-- ---- a text in another

found_here : (sought s : List ℕ) → begins sought s ≡ true → is_some (first_place sought s) ≡ true
found_here sought [] h = ap (λ b. is_some {T = ℕ} (if b then Some 0 else None)) h
found_here sought (c ∷ cs) h = ap (λ b. is_some {T = ℕ} (if b then Some 0 else option_map suc (first_place sought cs))) h

cut_there : (sought s : List ℕ) (o : Option ℕ) → first_place sought s ≡ o → is_some o ≡ true → holds sought s ≡ true
cut_there sought s None is h = cc
cut_there sought s (Some k) is h = ap (λ o. is_some (option_map (around (length sought) s) o)) is

found_more : (sought s : List ℕ) (c : ℕ) → is_some (first_place sought s) ≡ true → is_some (first_place sought (c ∷ s)) ≡ true
found_more sought s c h = by (begins sought (c ∷ s)) (first_place sought s) h
  where
    by : (b : Bool) (o : Option ℕ) → is_some o ≡ true → is_some {T = ℕ} (if b then Some 0 else option_map suc o) ≡ true
    by true o h = refl
    by false None h = h
    by false (Some k) h = refl

found_behind : (sought a s : List ℕ) → is_some (first_place sought s) ≡ true → is_some (first_place sought (a ++ s)) ≡ true
found_behind sought [] s h = h
found_behind sought (c ∷ a) s h = found_more sought (a ++ s) c (found_behind sought a s h)

-- the result of a fallible action has the parse error in it
result_fails : (prefix ty location token error : List ℕ) → can_fail (parse_error prefix) (result_of prefix ty location token error) ≡ true
result_fails prefix ty location token error =
    let rest = location ++ (codes "," ++ (token ++ (codes "," ++ (error ++ codes ">>")))) in
    let s = prefix ++ (codes "lalrpop_util::ParseError<" ++ rest) in
    let here = found_here (parse_error prefix) s (has_front (parse_error prefix) s rest (sym (append_assoc prefix (codes "lalrpop_util::ParseError<") rest))) in
    let there = found_behind (parse_error prefix) (codes "Result<") _ (found_behind (parse_error prefix) ty _ (found_behind (parse_error prefix) (codes ",") s here)) in
    let r = result_of prefix ty location token error in
    ap (λ b. b && holds (parse_error prefix) r) (has_front (codes "Result<") r _ refl) ∙ cut_there (parse_error prefix) r (first_place (parse_error prefix) r) refl there

-- no type that an action returns which can't fail looks so
abbrev pub IsTold : Grammar → ActionFnDefn → Type 0
IsTold g a = a.fallible ≡ false → can_fail (parse_error g.prefix) (type_text a.ret_type) ≡ false

answer_told : (g : Grammar) (a : ActionFnDefn) (b : Bool) → a.fallible ≡ b → IsTold g a → fallible_row (parse_error g.prefix) false (result_form (return_text g a)) ≡ b
answer_told g a true is told =
    ap (λ b. fallible_row (parse_error g.prefix) false (result_form (if b then result_of g.prefix (type_text a.ret_type) (location_text g) (token_text g) (error_text g) else type_text a.ret_type))) is
    ∙ result_fails g.prefix (type_text a.ret_type) (location_text g) (token_text g) (error_text g)
answer_told g a false is told =
    ap (λ b. fallible_row (parse_error g.prefix) false (result_form (if b then result_of g.prefix (type_text a.ret_type) (location_text g) (token_text g) (error_text g) else type_text a.ret_type))) is
    ∙ by_result (λ f. fallible_row (parse_error g.prefix) false f ≡ false) (type_text a.ret_type) refl (told is)

-- the function of an action can fail where the action can
pub header_fails : (g : Grammar) (name : FunctionName) (a : ActionFnDefn) → IsTold g a → is_fallible (parse_error g.prefix) (grammar_header g name [] (action_parameters g a.kind) (return_text g a)) ≡ a.fallible
header_fails g name a told =
    let error = parse_error g.prefix in
    let texts = declared_texts g ++ action_parameters g a.kind in
    header_over (fallible_row error) (λ s t. refl) (λ s below. refl) name (generics_of g ++ []) texts (return_text g a) (clauses_of g) false
    ∙ ap (λ b. fallible_row error b (result_form (return_text g a))) (rows_passed (fallible_row error) part.ParameterRow (λ s t. refl) false texts)
    ∙ answer_told g a a.fallible refl told
