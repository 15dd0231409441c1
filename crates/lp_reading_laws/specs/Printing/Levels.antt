-- Where user code stands: at the indent of a function's body. And where the indent can be raised.
use Rattle.std.specs.Prelude.{ℕ, ◌+◌, ◌^◌, Bool, true, not, ◌&&◌, ◌||◌, ◌==◌, nat_lt, List, [], ◌∷◌, take, drop}
use Rattle.std.specs.List.{list_any}
use Rattle.lp_form.specs.Templates.{steps_of}
use Rattle.lp_form.specs.Templates as template
use Rattle.lp_write.specs.Lines.{Line, lowered, indent_after, indent_after_all}
use Rattle.lp_write.specs.Lines.Line.{line, verbatim}
use Rattle.lp_write.specs.declared.rust.Options.{Options}
use Rattle.lp_program.specs.OwnLines.{own_lines}
use Rattle.lp_program.specs.Printed.{Printed, taken, all_lines, printed}
use Rattle.lp_program.specs.Trees.{Content, Forest, tree_count}
use Rattle.lp_program.specs.Trees.Forest.{bare, tree}
use Rattle.lp_reading_laws.specs.Printing.LineTexts.{ends_open}
use Rattle.lp_reading_laws.specs.Printing.TemplateTests.{has_code}

-- user code is among the parts
abbrev pub holds_code : List Printed → Bool
holds_code parts = list_any (λ p. has_code (steps_of p.0)) parts

-- a test of a tree, by the indent at which it is printed
abbrev pub Test : Type 0
Test = ℕ → Bool

-- trees side by side pass their tests, the first at this indent
abbrev pub trees_pass : ℕ → List Printed → List Test → Bool
trees_pass indent [] tests = true
trees_pass indent (p ∷ parts) [] = true
trees_pass indent (p ∷ parts) (test ∷ tests) = test indent && trees_pass (indent_after_all indent p.1) parts tests

-- a step's parts pass their tests, and where they hold user code the indent is 4, before and behind it
abbrev pub taken_pass : ℕ → List Printed → List Test → Bool
taken_pass indent parts tests =
    (not (holds_code parts) || ((indent == 4) && (indent_after_all indent (all_lines parts) == 4))) && trees_pass indent parts tests

-- the parts of all steps pass
unfoldable pub steps_pass : Options → List ℕ → Content → ℕ → List template.Line → ℕ → List Printed → List Test → Bool
steps_pass options prefix c total [] indent below tests = true
steps_pass options prefix c total (s ∷ others) indent below tests =
    let n = taken s.0 below in
    let inner = indent_after_all indent (own_lines options prefix c total s.1 s.0) in
    taken_pass inner (take n below) (take n tests)
    && steps_pass options prefix c total others (indent_after_all inner (all_lines (take n below))) (drop n below) (drop n tests)

-- the tests of trees side by side: all user code below stands at the indent 4
unfoldable pub tests_of : Options → List ℕ → Forest → List Test
tests_of options prefix bare = []
tests_of options prefix (tree c below after) =
    (λ indent. steps_pass options prefix c (tree_count below) (steps_of c.part) indent (printed options prefix below) (tests_of options prefix below))
    ∷ tests_of options prefix after

-- in the text of these trees, from the indent 0 on, all user code stands at the indent 4, before and behind it
abbrev pub is_level : Options → List ℕ → Forest → Bool
is_level options prefix f = trees_pass 0 (printed options prefix f) (tests_of options prefix f)

-- the indent that a line with an opening bracket at its end raises fits 64 bits; so it doesn't stay
abbrev pub may_raise : ℕ → Line → Bool
may_raise indent (line text) = not (ends_open text) || nat_lt (lowered indent text + 4) (2 ^ 64)
may_raise indent (verbatim text) = true

abbrev pub never_stays : ℕ → List Line → Bool
never_stays indent [] = true
never_stays indent (l ∷ lines) = may_raise indent l && never_stays (indent_after indent l) lines
