-- The passages of trees, of some of them, and of a step itself.
use Rattle.std.proofs.Common.{◌≡◌, ℕ, zero, suc, Bool, true, false, not, ◌&&◌, List, [], ◌∷◌, ◌++◌, length, take, drop, replicate, refl, sym, ap, subst, arith}
use Rattle.lp_form.specs.Templates.{Piece, steps_of}
use Rattle.lp_form.specs.Templates as template
use Rattle.lp_form.specs.declared.part.Part.{Part}
use Rattle.lp_form.specs.declared.part.Part.TheVariants as part
use Rattle.lp_form.specs.declared.template.Step.{Step}
use Rattle.lp_form.specs.declared.template.Step.TheVariants as step
use Rattle.lp_spelling.specs.Lines.{line_of}
use Rattle.lp_program.specs.Reads.{TakesLines, TakesOwn, graft, parts_in}
use Rattle.lp_program.specs.Trees.{Content, Forest, tree_count}
use Rattle.lp_program.specs.Trees.Forest.{bare, tree}
use Rattle.lp_reading_laws.specs.Printing.TemplateTests.{has_class}
use Rattle.lp_reading_laws.specs.Printing.Laid.{Passage, a_line, AllStand, own_passages, Laid, laid_parts, step_passages, passages}
use Rattle.lp_reading_laws.proofs.Printing.Forests.{front, behind}

-- passages behind others
pub stand_join : (a b : List Passage) (text mid rest : List ℕ) → AllStand a text mid → AllStand b mid rest → AllStand (a ++ b) text rest
stand_join [] b text mid rest x y = subst (λ (t : List ℕ). AllStand b t rest) x y
stand_join (p ∷ a) b text mid rest x y = (x.0, x.1, stand_join a b x.0 mid rest x.2 y)

pub stand_split : (a b : List Passage) (text rest : List ℕ) → AllStand (a ++ b) text rest → (mid : List ℕ) × AllStand a text mid × AllStand b mid rest
stand_split [] b text rest x = (text, refl, x)
stand_split (p ∷ a) b text rest x = let y = stand_split a b x.0 rest x.2 in (y.0, (x.0, x.1, y.1), y.2)

-- of trees side by side
pub laid_graft : (prefix : List ℕ) (f g : Forest) → passages prefix (graft f g) ≡ passages prefix f ++ passages prefix g
unfolding passages
laid_graft prefix bare g = refl
laid_graft prefix (tree c below after) g =
    ap (λ (x : List Laid). (c.part, step_passages prefix c (tree_count below) (steps_of c.part) (passages prefix below)) ∷ x) (laid_graft prefix after g)

pub parts_laid : (prefix : List ℕ) (f : Forest) → laid_parts (passages prefix f) ≡ parts_in f
unfolding passages
parts_laid prefix bare = refl
parts_laid prefix (tree c below after) = ap (λ (x : List Part). c.part ∷ x) (parts_laid prefix after)

pub laid_length : (prefix : List ℕ) (f : Forest) → length (passages prefix f) ≡ length (parts_in f)
unfolding passages
laid_length prefix bare = refl
laid_length prefix (tree c below after) = let h = laid_length prefix after in omega (arith, h)

pub laid_front : (prefix : List ℕ) (n : ℕ) (f : Forest) → take n (passages prefix f) ≡ passages prefix (front n f)
unfolding passages
laid_front prefix zero f = refl
laid_front prefix (suc n) bare = refl
laid_front prefix (suc n) (tree c below after) =
    ap (λ (x : List Laid). (c.part, step_passages prefix c (tree_count below) (steps_of c.part) (passages prefix below)) ∷ x) (laid_front prefix n after)

pub laid_behind : (prefix : List ℕ) (n : ℕ) (f : Forest) → drop n (passages prefix f) ≡ passages prefix (behind n f)
unfolding passages
laid_behind prefix zero f = refl
laid_behind prefix (suc n) bare = refl
laid_behind prefix (suc n) (tree c below after) = laid_behind prefix n after

-- a step that prints a line for each tree stands behind all that have some
abbrev pub is_each : Step → Bool
is_each (step.Each blanks) = true
is_each _ = false

abbrev pub each_step : Step → List template.Line → Bool
each_step (step.Each blanks) others = not (has_class others)
each_step _ others = true

abbrev pub each_last : List template.Line → Bool
each_last [] = true
each_last (s ∷ others) = each_step s.0 others && each_last others

pub templates_each : (p : Part) → each_last (steps_of p) ≡ true
unfolding steps_of
templates_each part.Program = refl
templates_each _ = refl

-- so many lines
lines_stand : (n : ℕ) (line text rest : List ℕ) → TakesLines n line text rest → AllStand (replicate n (a_line line)) text rest
lines_stand zero line text rest t = t
lines_stand (suc n) line text rest t = (t.0, t.1, lines_stand n line t.0 rest t.2)

lines_taken : (n : ℕ) (line text rest : List ℕ) → AllStand (replicate n (a_line line)) text rest → TakesLines n line text rest
lines_taken zero line text rest t = t
lines_taken (suc n) line text rest t = (t.0, t.1, lines_taken n line t.0 rest t.2)

-- what a step itself takes are its passages
pub own_stand : (prefix : List ℕ) (c : Content) (total count : ℕ) (pieces : List Piece) (s : Step) (text rest : List ℕ) → (is_each s ≡ true → total ≡ count) → TakesOwn prefix c count pieces s text rest →
    AllStand (own_passages prefix c total pieces s) text rest
own_stand prefix c total count pieces (step.Line blanks) text rest e t = (rest, t, refl)
own_stand prefix c total count pieces (step.Each blanks) text rest e t =
    subst (λ n. AllStand (replicate n (a_line (line_of prefix c.holes pieces))) text rest) (sym (e refl)) (lines_stand count (line_of prefix c.holes pieces) text rest t)
own_stand prefix c total count pieces step.Use text rest e t = (rest, t, refl)
own_stand prefix c total count pieces step.Code text rest e t = (rest, t, refl)
own_stand prefix c total count pieces step.Entries text rest e t = (rest, t, refl)
own_stand prefix c total count pieces step.Empty text rest e t = t
own_stand prefix c total count pieces step.Note text rest e t = t
own_stand prefix c total count pieces step.NoteAlways text rest e t = t
own_stand prefix c total count pieces (step.One class) text rest e t = t
own_stand prefix c total count pieces (step.Optional class) text rest e t = t
own_stand prefix c total count pieces (step.Many class) text rest e t = t
own_stand prefix c total count pieces (step.Some class) text rest e t = t
own_stand prefix c total count pieces (step.Pairs first second) text rest e t = t

one_taken : (P : List ℕ → Type 0) (mid rest : List ℕ) → P mid → rest ≡ mid → P rest
one_taken P mid rest x e = subst P (sym e) x

pub own_taken : (prefix : List ℕ) (c : Content) (total count : ℕ) (pieces : List Piece) (s : Step) (text rest : List ℕ) → (is_each s ≡ true → total ≡ count) → AllStand (own_passages prefix c total pieces s) text rest →
    TakesOwn prefix c count pieces s text rest
own_taken prefix c total count pieces (step.Line blanks) text rest e t = one_taken (λ r. TakesOwn prefix c count pieces (step.Line blanks) text r) t.0 rest t.1 t.2
own_taken prefix c total count pieces (step.Each blanks) text rest e t =
    lines_taken count (line_of prefix c.holes pieces) text rest (subst (λ n. AllStand (replicate n (a_line (line_of prefix c.holes pieces))) text rest) (e refl) t)
own_taken prefix c total count pieces step.Use text rest e t = one_taken (λ r. TakesOwn prefix c count pieces step.Use text r) t.0 rest t.1 t.2
own_taken prefix c total count pieces step.Code text rest e t = one_taken (λ r. TakesOwn prefix c count pieces step.Code text r) t.0 rest t.1 t.2
own_taken prefix c total count pieces step.Entries text rest e t = one_taken (λ r. TakesOwn prefix c count pieces step.Entries text r) t.0 rest t.1 t.2
own_taken prefix c total count pieces step.Empty text rest e t = t
own_taken prefix c total count pieces step.Note text rest e t = t
own_taken prefix c total count pieces step.NoteAlways text rest e t = t
own_taken prefix c total count pieces (step.One class) text rest e t = t
own_taken prefix c total count pieces (step.Optional class) text rest e t = t
own_taken prefix c total count pieces (step.Many class) text rest e t = t
own_taken prefix c total count pieces (step.Some class) text rest e t = t
own_taken prefix c total count pieces (step.Pairs first second) text rest e t = t
