-- Tests of the steps that are left of a part of which so many holes are told: they are read of their least text, whatever is told.
use Rattle.std.specs.Prelude.{ℕ, zero, suc, Bool, true, false, not, ◌&&◌, ◌==◌, nat_le, List, [], ◌∷◌, length}
use Rattle.std.specs.List.{list_all}
use Rattle.lp_form.specs.Templates.{Piece, steps_of, holes_of}
use Rattle.lp_form.specs.Templates as template
use Rattle.lp_form.specs.declared.part.Part.{Part}
use Rattle.lp_form.specs.declared.template.Kind.{Kind}
use Rattle.lp_form.specs.declared.template.Kind.TheVariants as kind
use Rattle.lp_form.specs.declared.template.Step.{Step}
use Rattle.lp_form.specs.declared.template.Step.TheVariants as step
use Rattle.lp_spelling.specs.LineHoles.{known_in}
use Rattle.lp_program.specs.Reads.{hole_count}
use Rattle.lp_reading_laws.specs.Printing.LineTests.{next_so}
use Rattle.lp_reading_laws.specs.Printing.TemplateTests.{has_code, exact_after, is_sound_class}
use Rattle.lp_viable.specs.Least.{is_fit_step}

-- a hole that is told may hold an empty pattern too
abbrev pub told_kind : Kind → Kind
told_kind kind.Pattern = kind.Text
told_kind kind.Patterns = kind.Text
told_kind k = k

-- the first n holes are told
abbrev pub told_kinds : ℕ → List Kind → List Kind
told_kinds zero kinds = kinds
told_kinds (suc n) [] = []
told_kinds (suc n) (k ∷ kinds) = told_kind k ∷ told_kinds n kinds

-- a part is no user code
abbrev pub is_plain_part : Part → Bool
is_plain_part p = not (has_code (steps_of p))

abbrev pub is_table : Step → Bool
is_table step.Entries = true
is_table _ = false

-- how many holes are told behind a step, and whether a table is
abbrev pub known_past : ℕ → Step → List Piece → ℕ
known_past n (step.Line blanks) pieces = known_in pieces n
known_past n step.Use pieces = suc n
known_past n step.Code pieces = suc n
known_past n _ pieces = n

abbrev pub tabled_past : Bool → Step → Bool
tabled_past tabled step.Entries = true
tabled_past tabled _ = tabled

-- the next line begins with `]`, without blanks
abbrev pub is_flush_step : Step → List Piece → Bool
is_flush_step (step.Line blanks) pieces = (blanks == 0) && next_so (λ b. b == 93) pieces
is_flush_step _ pieces = false

abbrev pub is_flush : List template.Line → Bool
is_flush [] = false
is_flush (s ∷ others) = is_flush_step s.0 s.1

-- a step may come where so many holes are told, and a table or none
abbrev pub may_come : Part → ℕ → Bool → Step → Bool
may_come p n tabled step.Use = (n == 0) && (length (holes_of p) == 0)
may_come p n tabled step.Code = false
may_come p n tabled step.Entries = not tabled
may_come p n tabled _ = true

-- lines of one spelling tell no hole, and a table has its `]` behind it
abbrev pub is_certain : ℕ → Step → List Piece → List template.Line → Bool
is_certain n (step.Each blanks) pieces others = known_in pieces n == n
is_certain n step.Entries pieces others = is_flush others
is_certain n _ pieces others = true

-- the steps that are left are read of their least text
unfoldable pub is_going : Part → ℕ → Bool → Bool → List template.Line → Bool
is_going p n tabled exact [] = nat_le n (hole_count p)
is_going p n tabled exact (s ∷ others) =
    nat_le n (hole_count p)
    && (nat_le n (known_past n s.0 s.1)
    && (is_fit_step exact (told_kinds n (holes_of p)) s.0 others s
    && (is_sound_class exact s.0 others
    && (list_all (λ l. may_come p n tabled l.0) (s ∷ others)
    && (is_certain n s.0 s.1 others
    && is_going p (known_past n s.0 s.1) (tabled_past tabled s.0) (exact_after s.0) others)))))
