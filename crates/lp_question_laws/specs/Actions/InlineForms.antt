-- The rows of inlined actions as forms.
use Rattle.std.specs.Prelude.{ℕ, ◌+◌, Bool, List, [], ◌∷◌, ◌++◌, length, decimal}
use Rattle.lp_form.specs.declared.part.Part.TheVariants as part
use Rattle.lp_repr.specs.declared.repr.Grammar.{Grammar}
use Rattle.lp_repr.specs.declared.repr.InlinedSymbol.{InlinedSymbol}
use Rattle.lp_repr.specs.declared.repr.InlinedSymbol.TheVariants.{Original, Inlined}
use Rattle.lp_build.specs.Built.{row}
use Rattle.lp_actions.specs.Inlines.{span_start, span_end, inlined_count, inline_call, outer_call, total_width}
use Rattle.lp_actions.specs.Parameters.{width}
use Rattle.lp_view.specs.PartLists.{Form}

abbrev pub span_form : List ℕ → ℕ → ℕ → ℕ → ℕ → Form
span_form prefix total n before count = row part.InlineSpan (decimal n ∷ span_start prefix before count total ∷ span_end prefix before count total ∷ []) ∷ []

abbrev pub span_forms : List ℕ → ℕ → ℕ → ℕ → List InlinedSymbol → List Form
span_forms prefix total n before [] = []
span_forms prefix total n before (Original s ∷ ss) = span_forms prefix total (n + inlined_count (Original s)) (before + width (Original s)) ss
span_forms prefix total n before (Inlined action inner ∷ ss) = span_form prefix total n before (length inner) ∷ span_forms prefix total (n + inlined_count (Inlined action inner)) (before + width (Inlined action inner)) ss

abbrev pub call_forms : Grammar → ℕ → ℕ → List InlinedSymbol → List Form
call_forms g n before [] = []
call_forms g n before (Original s ∷ ss) = call_forms g (n + inlined_count (Original s)) (before + width (Original s)) ss
call_forms g n before (Inlined action inner ∷ ss) = inline_call g n before action (length inner) ∷ call_forms g (n + inlined_count (Inlined action inner)) (before + width (Inlined action inner)) ss

-- all of them: the spans, the calls, and the outer call
abbrev pub inline_forms : Grammar → Bool → ℕ → List InlinedSymbol → List Form
inline_forms g fallible outer symbols = span_forms g.prefix (total_width symbols) 0 0 symbols ++ (call_forms g 0 0 symbols ++ outer_call g fallible outer symbols ∷ [])
