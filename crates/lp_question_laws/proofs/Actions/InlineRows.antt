-- The rows of inlined actions, each of which adds its code and its names to those before it.
use Rattle.std.proofs.Common.{◌≡◌, ℕ, ◌+◌, ◌≤◌, Bool, true, false, List, [], ◌∷◌, ◌++◌, length, refl, ap, sym, subst, ◌∙◌, arith, append_assoc, append-nil, if◌then◌else◌}
use Rattle.lp_form.specs.declared.part.Part.TheVariants as part
use Rattle.lp_repr.specs.declared.repr.Grammar.{Grammar}
use Rattle.lp_repr.specs.declared.repr.InlinedSymbol.{InlinedSymbol}
use Rattle.lp_repr.specs.declared.repr.InlinedSymbol.TheVariants.{Original, Inlined}
use Rattle.lp_build.specs.Built as built
use Rattle.lp_actions.specs.Inlines.{spans_from, calls_from, outer_call, total_width, inlined_count}
use Rattle.lp_actions.specs.Inlines as printed
use Rattle.lp_actions.specs.Parameters.{width}
use Rattle.lp_view.specs.PartLists.{Form, is_a, parts_of, over}
use Rattle.lp_core.specs.Tree.{Tree}
use Rattle.lp_maker.specs.Slots.{Names}
use Rattle.lp_maker.specs.Making.{Making}
use Rattle.lp_bodies.specs.Lines.{Lines, lines_of, with_part}
use Rattle.lp_bodies.specs.Inlining.{inline_span, inline_call, inline_line, inline_lines, is_inline_call, outer_line, is_tried}
use Rattle.lp_question_laws.proofs.Gotos.Whole.{AreWhole, flat, parts_over, flat-append, whole-append}
use Rattle.lp_question_laws.specs.Actions.InlineForms.{span_form, span_forms, call_forms, inline_forms}

-- ---- the printed rows

module _ (g : Grammar) where
  spans_flat : (total n before : ℕ) (ss : List InlinedSymbol) → (spans_from g.prefix total n before ss ≡ flat (span_forms g.prefix total n before ss)) × AreWhole (span_forms g.prefix total n before ss)
  spans_flat total n before [] = (refl, tt)
  spans_flat total n before (Original s ∷ ss) = spans_flat total (n + inlined_count (Original s)) (before + width (Original s)) ss
  spans_flat total n before (Inlined action inner ∷ ss) =
      let r = spans_flat total (n + inlined_count (Inlined action inner)) (before + width (Inlined action inner)) ss in
      (ap (λ l. span_form g.prefix total n before (length inner) ++ l) r.0, (refl, r.1))

  calls_flat : (n before : ℕ) (ss : List InlinedSymbol) → (calls_from g n before ss ≡ flat (call_forms g n before ss)) × AreWhole (call_forms g n before ss)
  calls_flat n before [] = (refl, tt)
  calls_flat n before (Original s ∷ ss) = calls_flat (n + inlined_count (Original s)) (before + width (Original s)) ss
  calls_flat n before (Inlined action inner ∷ ss) =
      let r = calls_flat (n + inlined_count (Inlined action inner)) (before + width (Inlined action inner)) ss in
      (ap (λ l. printed.inline_call g n before action (length inner) ++ l) r.0, (refl, r.1))

  -- are the parts of the body
  pub inline_parts : (fallible : Bool) (outer : ℕ) (ss : List InlinedSymbol) → parts_of (printed.inline_lines g fallible outer ss) ≡ inline_forms g fallible outer ss
  inline_parts fallible outer ss =
      let s = span_forms g.prefix (total_width ss) 0 0 ss in
      let c = call_forms g 0 0 ss in
      let o = outer_call g fallible outer ss in
      let sf = spans_flat (total_width ss) 0 0 ss in
      let cf = calls_flat 0 0 ss in
      let whole : AreWhole (s ++ (c ++ o ∷ [])) = whole-append s (c ++ o ∷ []) sf.1 (whole-append c (o ∷ []) cf.1 (refl, tt)) in
      let all : (spans_from g.prefix (total_width ss) 0 0 ss ++ calls_from g 0 0 ss) ++ o ≡ flat (s ++ (c ++ o ∷ [])) =
      ap (λ l. (l ++ calls_from g 0 0 ss) ++ o) sf.0 ∙ ap (λ l. (flat s ++ l) ++ o) cf.0 ∙ append_assoc (flat s) (flat c) o
      ∙ ap (λ l. flat s ++ (flat c ++ l)) (sym (append-nil o)) ∙ ap (λ l. flat s ++ l) (sym (flat-append c (o ∷ []))) ∙ sym (flat-append s (c ++ o ∷ [])) in
      ap (λ below. parts_of (built.over part.InlineBody [] below)) all ∙ parts_over part.InlineBody [] (s ++ (c ++ o ∷ [])) whole

-- ---- their code

module _ (m : Making) where
  -- what a row adds
  abbrev pub row_names : Names → Form → Names
  row_names names row = (inline_line m (lines_of names []) row).names

  abbrev pub row_code : Names → Form → List Tree
  row_code names row = (inline_line m (lines_of names []) row).parts

  abbrev pub rows_names : Names → List Form → Names
  rows_names names [] = names
  rows_names names (row ∷ rows) = rows_names (row_names names row) rows

  abbrev pub rows_code : Names → List Form → List Tree
  rows_code names [] = []
  rows_code names (row ∷ rows) = row_code names row ++ rows_code (row_names names row) rows

  row_adds : (names : Names) (parts : List Tree) (row : Form) (b c : Bool) → (l : Lines) → (k : Lines)
      → l ≡ (if b then inline_span m.prefix row (lines_of names parts) else (if c then inline_call m row (lines_of names parts) else with_part (outer_line m names row) (lines_of names parts)))
      → k ≡ (if b then inline_span m.prefix row (lines_of names []) else (if c then inline_call m row (lines_of names []) else with_part (outer_line m names row) (lines_of names [])))
      → l ≡ lines_of k.names (parts ++ k.parts)
  row_adds names parts row true c l k is same = is ∙ ap (λ ps. lines_of (inline_span m.prefix row (lines_of names parts)).names ps) (append_assoc parts (_ ∷ []) (_ ∷ [])) ∙ ap (λ (x : Lines). lines_of x.names (parts ++ x.parts)) (sym same)
  row_adds names parts row false true l k is same = is ∙ ap (λ ps. lines_of (inline_call m row (lines_of names parts)).names ps) (append_assoc parts (_ ∷ []) (_ ∷ [])) ∙ ap (λ (x : Lines). lines_of x.names (parts ++ x.parts)) (sym same)
  row_adds names parts row false false l k is same = is ∙ ap (λ (x : Lines). lines_of x.names (parts ++ x.parts)) (sym same)

  pub rows_add : (names : Names) (parts : List Tree) (rows : List Form) → over (inline_line m) (lines_of names parts) rows ≡ lines_of (rows_names names rows) (parts ++ rows_code names rows)
  rows_add names parts [] = ap (lines_of names) (sym (append-nil parts))
  rows_add names parts (row ∷ rows) =
      ap (λ l. over (inline_line m) l rows) (row_adds names parts row (is_a part.InlineSpan row) (is_inline_call row) (inline_line m (lines_of names parts) row) (inline_line m (lines_of names []) row) refl refl)
      ∙ rows_add (row_names names row) (parts ++ row_code names row) rows
      ∙ ap (lines_of (rows_names (row_names names row) rows)) (append_assoc parts (row_code names row) (rows_code (row_names names row) rows))

  -- no row gives slots back
  row_grows : (names : Names) (row : Form) (b c : Bool) (k : Lines) → k ≡ (if b then inline_span m.prefix row (lines_of names []) else (if c then inline_call m row (lines_of names []) else with_part (outer_line m names row) (lines_of names []))) → names.next ≤ k.names.next
  row_grows names row true c k is = subst (λ (x : Lines). names.next ≤ x.names.next) (sym is) (omega arith)
  row_grows names row false true k is = subst (λ (x : Lines). names.next ≤ x.names.next) (sym is) (by (is_tried row))
    where
      by : (t : Bool) → names.next ≤ (if t then Rattle.lp_maker.specs.Slots.after_slots 1 names else names).next + 1 + 1
      by true = omega arith
      by false = omega arith
  row_grows names row false false k is = subst (λ (x : Lines). names.next ≤ x.names.next) (sym is) (omega arith)

  pub rows_grow : (names : Names) (rows : List Form) → names.next ≤ (rows_names names rows).next
  rows_grow names [] = omega arith
  rows_grow names (row ∷ rows) =
      let a = row_grows names row (is_a part.InlineSpan row) (is_inline_call row) (inline_line m (lines_of names []) row) refl in
      let b = rows_grow (row_names names row) rows in
      omega (arith, a, b)

-- the lines of an inlined body
pub lines_are : (m : Making) (g : Grammar) (names : Names) (fallible : Bool) (outer : ℕ) (ss : List InlinedSymbol) → inline_lines m names (printed.inline_lines g fallible outer ss) ≡ lines_of (rows_names m names (inline_forms g fallible outer ss)) (rows_code m names (inline_forms g fallible outer ss))
lines_are m g names fallible outer ss = ap (over (inline_line m) (lines_of names [])) (inline_parts g fallible outer ss) ∙ rows_add m names [] (inline_forms g fallible outer ss)
