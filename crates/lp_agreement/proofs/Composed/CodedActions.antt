-- The functions of a grammar's actions are made in the same way where user code is as it reads.
use Rattle.std.proofs.Common.{◌≡◌, ℕ, ◌+◌, ◌&&◌, Bool, true, false, not, if◌then◌else◌, List, [], ◌∷◌, ◌++◌, length, map, decimal, get_or, slice_get, refl, sym, ap, ◌∙◌}
use Rattle.std.proofs.lemmas.List.{map-append}
use Rattle.lp_form.specs.Classes.{members_of}
use Rattle.lp_form.specs.Templates.{steps_of}
use Rattle.lp_form.specs.declared.class.Class.TheVariants as class
use Rattle.lp_form.specs.declared.part.Part.{Part}
use Rattle.lp_form.specs.declared.part.Part.TheVariants as part
use Rattle.lp_repr.specs.declared.repr.ActionFnDefn.{ActionFnDefn}
use Rattle.lp_repr.specs.declared.repr.ActionFnDefnKind.{ActionFnDefnKind}
use Rattle.lp_repr.specs.declared.repr.ActionFnDefnKind.TheVariants.{User, Lookaround, Inline}
use Rattle.lp_repr.specs.declared.repr.Grammar.{Grammar}
use Rattle.lp_repr.specs.declared.repr.InlinedSymbol.{InlinedSymbol}
use Rattle.lp_repr.specs.declared.repr.InlinedSymbol.TheVariants.{Original, Inlined}
use Rattle.lp_repr.specs.declared.repr.LookaroundActionFn.TheVariants.{Lookahead, Lookbehind}
use Rattle.lp_tree.specs.ProgramTree.{Item, leaf}
use Rattle.lp_build.specs.Actions.{call_part, outer_part}
use Rattle.lp_build.specs.Built as built
use Rattle.lp_build.specs.Built.{row, text_rows}
use Rattle.lp_build.specs.declared.functions.FunctionName.TheVariants as name
use Rattle.lp_view.specs.PartLists.{Form, parts_of}
use Rattle.lp_actions.specs.ActionFunctions.{action_lines, has_parameters, kind_lines, kind_part}
use Rattle.lp_actions.specs.Inlines.{action_fails, call_if, calls_from, inline_lines, inlined_count, inner_arguments, outer_arguments, outer_call, span_if, spans_from, total_width, type_arguments}
use Rattle.lp_actions.specs.Parameters.{action_parameters, return_text, width}
use Rattle.lp_reading_laws.specs.Printing.AsRead.{code_read}
use Rattle.lp_reading_laws.specs.Printing.TemplateTests.{has_code}
use Rattle.lp_maker.specs.Making.{Making, parameters, with_text}
use Rattle.lp_bodies.specs.Actions.{action_body, function_with, action_under, action_function, with_code, with_code_under, with_action}
use Rattle.lp_emitted.proofs.Headers.{header_one}
use Rattle.lp_run.specs.Promised.{header_number, number_under}
use Rattle.lp_table.specs.Headers.{clauses_of, declared_texts, generics_of, grammar_header, header_lines}
use Rattle.lp_question_laws.proofs.Gotos.Whole.{IsWhole}
use Rattle.lp_agreement.proofs.Composed.Codes.{code_normal, parts_coded, takes_fixed}
use Rattle.lp_agreement.proofs.Composed.Rows.{forms_then, one_form, parts_are}
use Rattle.lp_agreement.proofs.Composed.Settled.{coded}

-- the header of the function of an action
abbrev pub action_header : Grammar → ℕ → ActionFnDefn → Form
action_header g n a = grammar_header g (name.Action n) [] (action_parameters g a.kind) (return_text g a)

-- ---- the parts of the function of an action
body_whole : (g : Grammar) (fallible : Bool) (kind : ActionFnDefnKind) → IsWhole (kind_lines g fallible kind)
body_whole g fallible (User patterns types code) = refl
body_whole g fallible (Lookaround Lookahead) = refl
body_whole g fallible (Lookaround Lookbehind) = refl
body_whole g fallible (Inline outer symbols) = refl

header_whole : (g : Grammar) (n : ℕ) (a : ActionFnDefn) → IsWhole (action_header g n a)
unfolding header_lines
header_whole g n a = refl

pub action_parts : (g : Grammar) (n : ℕ) (a : ActionFnDefn) → parts_of (action_lines g n a) ≡ action_header g n a ∷ kind_lines g a.fallible a.kind ∷ []
action_parts g n a = parts_are (kind_part a.kind (has_parameters g)) [] (forms_then (one_form (action_header g n a) (header_whole g n a)) (one_form (kind_lines g a.fallible a.kind) (body_whole g a.fallible a.kind)))

module _ (whitespace : Bool) where
  abbrev c : Item → Item
  c = coded whitespace

  -- ---- what stays as it is
  item_fixed : (p : Part) (holes : List (List ℕ)) (n : ℕ) → has_code (steps_of p) ≡ false → c (p, holes, [], n) ≡ (p, holes, [], n)
  item_fixed p holes n none = ap (λ (b : Bool). (p, (if b then code_read whitespace (get_or holes 0 []) ∷ [] else holes), [], n)) none

  over_fixed : (p : Part) (holes : List (List ℕ)) (below : List Item) → has_code (steps_of p) ≡ false → map c below ≡ below → map c (built.over p holes below) ≡ built.over p holes below
  over_fixed p holes below none same = ap (λ (i : Item). i ∷ map c below) (item_fixed p holes (length below) none) ∙ ap (λ (t : List Item). (p, holes, [], length below) ∷ t) same

  rows_fixed : (p : Part) (texts : List (List ℕ)) → has_code (steps_of p) ≡ false → map c (text_rows p texts) ≡ text_rows p texts
  rows_fixed p [] none = refl
  rows_fixed p (t ∷ texts) none = ap (λ (i : Item). i ∷ map c (text_rows p texts)) (item_fixed p (t ∷ []) 0 none) ∙ ap (λ (l : List Item). row p (t ∷ []) ∷ l) (rows_fixed p texts none)

  both_fixed : (xs ys : List Item) → map c xs ≡ xs → map c ys ≡ ys → map c (xs ++ ys) ≡ xs ++ ys
  both_fixed xs ys a b = map-append c xs ys ∙ ap (λ (t : List Item). t ++ map c ys) a ∙ ap (λ (t : List Item). xs ++ t) b

  -- ---- inlined actions
  span_fixed : (prefix : List ℕ) (total n before : ℕ) (s : InlinedSymbol) → map c (span_if prefix total n before s) ≡ span_if prefix total n before s
  unfolding steps_of
  span_fixed prefix total n before (Original s) = refl
  span_fixed prefix total n before (Inlined action inner) = refl

  spans_fixed : (prefix : List ℕ) (total n before : ℕ) (symbols : List InlinedSymbol) → map c (spans_from prefix total n before symbols) ≡ spans_from prefix total n before symbols
  spans_fixed prefix total n before [] = refl
  spans_fixed prefix total n before (s ∷ ss) =
      both_fixed (span_if prefix total n before s) (spans_from prefix total (n + inlined_count s) (before + width s) ss) (span_fixed prefix total n before s) (spans_fixed prefix total (n + inlined_count s) (before + width s) ss)

  call_part_plain : (types : List (List ℕ)) → has_code (steps_of (call_part types)) ≡ false
  unfolding steps_of
  call_part_plain [] = refl
  call_part_plain (t ∷ ts) = refl

  outer_part_plain : (wrapped : Bool) (types : List (List ℕ)) → has_code (steps_of (outer_part wrapped types)) ≡ false
  unfolding steps_of
  outer_part_plain true [] = refl
  outer_part_plain true (t ∷ ts) = refl
  outer_part_plain false [] = refl
  outer_part_plain false (t ∷ ts) = refl

  type_plain : has_code (steps_of part.TypeArgument) ≡ false
  unfolding steps_of
  type_plain = refl

  argument_plain : has_code (steps_of part.ArgumentRow) ≡ false
  unfolding steps_of
  argument_plain = refl

  inline_plain : has_code (steps_of part.InlineBody) ≡ false
  unfolding steps_of
  inline_plain = refl

  end_fixed : (b : Bool) → map c (leaf (if b then part.CallEndFallible else part.CallEndPlain) []) ≡ leaf (if b then part.CallEndFallible else part.CallEndPlain) []
  unfolding steps_of
  end_fixed true = refl
  end_fixed false = refl

  arguments_fixed : (types arguments : List (List ℕ)) → map c (text_rows part.TypeArgument types ++ text_rows part.ArgumentRow arguments) ≡ text_rows part.TypeArgument types ++ text_rows part.ArgumentRow arguments
  arguments_fixed types arguments = both_fixed (text_rows part.TypeArgument types) (text_rows part.ArgumentRow arguments) (rows_fixed part.TypeArgument types type_plain) (rows_fixed part.ArgumentRow arguments argument_plain)

  call_fixed : (g : Grammar) (n before : ℕ) (s : InlinedSymbol) → map c (call_if g n before s) ≡ call_if g n before s
  call_fixed g n before (Original s) = refl
  call_fixed g n before (Inlined action inner) =
      let types = type_arguments g in
      let arguments = inner_arguments g n before (length inner) in
      over_fixed (call_part types) (decimal n ∷ decimal action ∷ []) ((text_rows part.TypeArgument types ++ text_rows part.ArgumentRow arguments) ++ leaf (if action_fails g action then part.CallEndFallible else part.CallEndPlain) []) (call_part_plain types)
      (both_fixed (text_rows part.TypeArgument types ++ text_rows part.ArgumentRow arguments) (leaf (if action_fails g action then part.CallEndFallible else part.CallEndPlain) []) (arguments_fixed types arguments) (end_fixed (action_fails g action)))

  calls_fixed : (g : Grammar) (n before : ℕ) (symbols : List InlinedSymbol) → map c (calls_from g n before symbols) ≡ calls_from g n before symbols
  calls_fixed g n before [] = refl
  calls_fixed g n before (s ∷ ss) =
      both_fixed (call_if g n before s) (calls_from g (n + inlined_count s) (before + width s) ss) (call_fixed g n before s) (calls_fixed g (n + inlined_count s) (before + width s) ss)

  outer_fixed : (g : Grammar) (fallible : Bool) (outer : ℕ) (symbols : List InlinedSymbol) → map c (outer_call g fallible outer symbols) ≡ outer_call g fallible outer symbols
  outer_fixed g fallible outer symbols =
      let wrapped = fallible && not (action_fails g outer) in
      over_fixed (outer_part wrapped (type_arguments g)) (decimal outer ∷ []) (text_rows part.TypeArgument (type_arguments g) ++ text_rows part.ArgumentRow (outer_arguments g symbols)) (outer_part_plain wrapped (type_arguments g))
      (arguments_fixed (type_arguments g) (outer_arguments g symbols))

  pub inline_fixed : (g : Grammar) (fallible : Bool) (outer : ℕ) (symbols : List InlinedSymbol) → map c (inline_lines g fallible outer symbols) ≡ inline_lines g fallible outer symbols
  inline_fixed g fallible outer symbols =
      let spans = spans_from g.prefix (total_width symbols) 0 0 symbols in
      let calls = calls_from g 0 0 symbols in
      over_fixed part.InlineBody [] ((spans ++ calls) ++ outer_call g fallible outer symbols) inline_plain
      (both_fixed (spans ++ calls) (outer_call g fallible outer symbols) (both_fixed spans calls (spans_fixed g.prefix (total_width symbols) 0 0 symbols) (calls_fixed g 0 0 symbols)) (outer_fixed g fallible outer symbols))

  header_fixed : (g : Grammar) (n : ℕ) (a : ActionFnDefn) → map c (action_header g n a) ≡ action_header g n a
  unfolding steps_of members_of
  header_fixed g n a = takes_fixed whitespace {items = action_header g n a} (header_one class.HeaderAction (name.Action n) (generics_of g ++ []) (declared_texts g ++ action_parameters g a.kind) (return_text g a) (clauses_of g) refl)

  -- ---- the function of an action
  coded_parts : (g : Grammar) (n : ℕ) (a : ActionFnDefn) → parts_of (map c (action_lines g n a)) ≡ action_header g n a ∷ map c (kind_lines g a.fallible a.kind) ∷ []
  coded_parts g n a = parts_coded whitespace (action_lines g n a) ∙ ap (map (map c)) (action_parts g n a) ∙ ap (λ (h : Form). h ∷ map c (kind_lines g a.fallible a.kind) ∷ []) (header_fixed g n a)

  pub number_coded : (g : Grammar) (n : ℕ) (a : ActionFnDefn) → header_number (map c (action_lines g n a)) ≡ header_number (action_lines g n a)
  number_coded g n a = ap (λ (fs : List Form). number_under (slice_get fs 0)) (coded_parts g n a) ∙ sym (ap (λ (fs : List Form). number_under (slice_get fs 0)) (action_parts g n a))

  body_coded : (g : Grammar) (fallible : Bool) (kind : ActionFnDefnKind) (m : Making) (header : Form) (names : _) → action_body m header names (map c (kind_lines g fallible kind)) ≡ action_body m header names (kind_lines g fallible kind)
  unfolding steps_of
  body_coded g fallible (User patterns types code) m header names = refl
  body_coded g fallible (Lookaround Lookahead) m header names = refl
  body_coded g fallible (Lookaround Lookbehind) m header names = refl
  body_coded g fallible (Inline outer symbols) m header names = ap (action_body m header names) (inline_fixed g fallible outer symbols)

  pub function_coded : (g : Grammar) (n : ℕ) (a : ActionFnDefn) (m : Making) → action_function m (map c (action_lines g n a)) ≡ action_function m (action_lines g n a)
  function_coded g n a m =
      let h = action_header g n a in
      ap (λ (fs : List Form). action_under m (slice_get fs 0) (slice_get fs 1)) (coded_parts g n a)
      ∙ ap (function_with (parameters m.prefix h).next) (body_coded g a.fallible a.kind m h (parameters m.prefix h))
      ∙ sym (ap (λ (fs : List Form). action_under m (slice_get fs 0) (slice_get fs 1)) (action_parts g n a))

  code_coded : (g : Grammar) (fallible : Bool) (kind : ActionFnDefnKind) (m : Making) → with_code (map c (kind_lines g fallible kind)) m ≡ with_code (kind_lines g fallible kind) m
  unfolding steps_of
  code_coded g fallible (User patterns types code) m = ap (λ (t : List ℕ). with_text t m) (code_normal whitespace code)
  code_coded g fallible (Lookaround Lookahead) m = refl
  code_coded g fallible (Lookaround Lookbehind) m = refl
  code_coded g fallible (Inline outer symbols) m = ap (λ (f : Form). with_code f m) (inline_fixed g fallible outer symbols)

  pub action_coded : (g : Grammar) (n : ℕ) (a : ActionFnDefn) (m : Making) → with_action (map c (action_lines g n a)) m ≡ with_action (action_lines g n a) m
  action_coded g n a m =
      ap (λ (fs : List Form). with_code_under (slice_get fs 0) (slice_get fs 1) m) (coded_parts g n a)
      ∙ code_coded g a.fallible a.kind m
      ∙ sym (ap (λ (fs : List Form). with_code_under (slice_get fs 0) (slice_get fs 1) m) (action_parts g n a))
