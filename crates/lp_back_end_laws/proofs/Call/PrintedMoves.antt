-- The parts of printed moves and reductions: lines that take cells, and what follows them.
use Rattle.std.proofs.Common.{◌≡◌, ℕ, ◌-◌, Bool, true, false, List, [], ◌∷◌, ◌++◌, length, map, decimal, refl, sym, ap, ◌∙◌, append-nil, append_assoc}
use Rattle.std.specs.Prelude.{nat_lt}
use Rattle.lp_repr.specs.declared.repr.Grammar.{Grammar}
use Rattle.lp_repr.specs.declared.repr.Production.{Production}
use Rattle.lp_form.specs.declared.part.Part.{Part}
use Rattle.lp_form.specs.declared.part.Part.TheVariants as part
use Rattle.lp_tree.specs.ProgramTree.{Item}
use Rattle.lp_build.specs.declared.ascent_reduce.AscentSpan.{AscentSpan}
use Rattle.lp_build.specs.declared.ascent_reduce.AscentSpan.TheVariants as span
use Rattle.lp_build.specs.Ascent.{ascent_span}
use Rattle.lp_build.specs.Built.{over, text_rows, leaf_if}
use Rattle.lp_view.specs.PartLists.{Form, parts_of}
use Rattle.lp_question_laws.proofs.Gotos.Whole.{AreWhole, IsWhole, flat, parts_over, flat-append, whole-append}
use Rattle.lp_ascent.specs.Slots.{Layout, count_of}
use Rattle.lp_parts.specs.Texts.{arguments_of, generic_names_text}
use Rattle.lp_table.specs.MachineLines.{phantom_text}
use Rattle.lp_table.specs.Starts.{is_fallible}
use Rattle.lp_ascent.specs.AnswerLines.{answer_name}
use Rattle.lp_ascent.specs.CallLines.{handed_on, cells_from, with_symbol, call_with}
use Rattle.lp_ascent.specs.ReduceLines.{first_popped, popped_span, popped_arguments, reduction_of}
use Rattle.lp_back_end_laws.proofs.Call.Cells.{take_form}
use Rattle.lp_back_end_laws.proofs.Call.ReduceArms.{call_form}
use Rattle.lp_back_end_laws.proofs.Call.Transitions.{return_forms}

takes_flat : (js : List ℕ) → text_rows part.TakeLine (map decimal js) ≡ flat (map take_form js)
takes_flat [] = refl
takes_flat (j ∷ js) = ap (λ (es : List Item). take_form j ++ es) (takes_flat js)

takes_whole : (js : List ℕ) → AreWhole (map take_form js)
takes_whole [] = tt
takes_whole (j ∷ js) = (refl, takes_whole js)

returns_flat : (b : Bool) → leaf_if b part.ReturnLine ≡ flat (return_forms b)
returns_flat true = refl
returns_flat false = refl

returns_whole : (b : Bool) → AreWhole (return_forms b)
returns_whole true = (refl, tt)
returns_whole false = tt

-- one part below
pub one_part : (p : Part) (holes : List (List ℕ)) (form : Form) → IsWhole form → parts_of (over p holes form) ≡ form ∷ []
one_part p holes form whole = ap (λ (below : List Item). parts_of (over p holes below)) (sym (append-nil form)) ∙ parts_over p holes (form ∷ []) (whole, tt)

-- lines that take cells, and others behind them
takes_then : (p : Part) (holes : List (List ℕ)) (js : List ℕ) (items : List Item) (rest : List Form) → items ≡ flat rest → AreWhole rest → parts_of (over p holes (text_rows part.TakeLine (map decimal js) ++ items)) ≡ map take_form js ++ rest
takes_then p holes js items rest is whole =
    let all : text_rows part.TakeLine (map decimal js) ++ items ≡ flat (map take_form js ++ rest) =
    ap (λ (es : List Item). es ++ items) (takes_flat js) ∙ ap (λ (es : List Item). flat (map take_form js) ++ es) is ∙ sym (flat-append (map take_form js) rest) in
    ap (λ (below : List Item). parts_of (over p holes below)) all ∙ parts_over p holes (map take_form js ++ rest) (whole-append (map take_form js) rest (takes_whole js) whole)

-- a move's parts
pub move_parts : (g : Grammar) (l callee : Layout) (n : ℕ) (after : Bool) → parts_of (call_with g l callee n after) ≡ map take_form (cells_from l (with_symbol l - callee.fixed)) ++ return_forms (nat_lt 1 callee.fixed)
move_parts g l callee n after =
    takes_then part.Transition (decimal n ∷ arguments_of g.parameters ∷ handed_on g.prefix after (with_symbol l - count_of callee) (with_symbol l) ∷ phantom_text g ∷ []) (cells_from l (with_symbol l - callee.fixed)) (leaf_if (nat_lt 1 callee.fixed) part.ReturnLine) (return_forms (nat_lt 1 callee.fixed))
    (returns_flat (nat_lt 1 callee.fixed)) (returns_whole (nat_lt 1 callee.fixed))

-- a reduction's parts
span_whole : (place : AscentSpan) → IsWhole (ascent_span place)
span_whole (span.Symbols first last) = refl
span_whole (span.Fixed slot) = refl
span_whole (span.Optional slot) = refl
span_whole (span.Bottom place) = refl

pub reduction_parts : (g : Grammar) (l : Layout) (p : Production) → parts_of (reduction_of g l p)
    ≡ map take_form (cells_from l (first_popped l p)) ++ (ascent_span (popped_span g l (length p.symbols)) ∷ call_form (is_fallible g p) p.action (generic_names_text g) (popped_arguments g (first_popped l p) (count_of l)) ∷ return_forms (nat_lt 0 (length p.symbols)))
unfolding reduction_of
reduction_parts g l p =
    let js = cells_from l (first_popped l p) in
    let place = popped_span g l (length p.symbols) in
    let call = call_form (is_fallible g p) p.action (generic_names_text g) (popped_arguments g (first_popped l p) (count_of l)) in
    let b = nat_lt 0 (length p.symbols) in
    let last = leaf_if b part.ReturnLine in
    let takes = text_rows part.TakeLine (map decimal js) in
    let behind : ((takes ++ ascent_span place) ++ call) ++ last ≡ takes ++ (ascent_span place ++ (call ++ last)) = append_assoc (takes ++ ascent_span place) call last ∙ append_assoc takes (ascent_span place) (call ++ last) in
    let is : ascent_span place ++ (call ++ last) ≡ flat (ascent_span place ∷ call ∷ return_forms b) = ap (λ (es : List Item). ascent_span place ++ (call ++ es)) (returns_flat b) in
    ap (λ (below : List Item). parts_of (over part.ReduceLines (answer_name p.nonterminal ∷ []) below)) behind
    ∙ takes_then part.ReduceLines (answer_name p.nonterminal ∷ []) js (ascent_span place ++ (call ++ last)) (ascent_span place ∷ call ∷ return_forms b) is (span_whole place, (refl, returns_whole b))
