-- User code as it reads has the same normal form; and parts without user code stay as they are.
use Rattle.std.proofs.Common.{◌≡◌, ℕ, zero, suc, ℤ, ◌||◌, Bool, true, false, if◌then◌else◌, List, [], ◌∷◌, ◌++◌, length, map, take, drop, get_or, codes, refl, sym, ap, ◌∙◌}
use Rattle.std.specs.Str.{bytes_eq, trim_start, chars, encode_utf8_all, skip_leading_whitespace}
use Rattle.std.proofs.lemmas.List.{take-map, drop-map, length-map, map-append}
use Rattle.std.proofs.lemmas.Slice.Eq.{bytes_eq-Decides}
use Rattle.std.proofs.lemmas.Str.{chars-append, chars-IsAscii, IsUtf8-from_ascii}
use Rattle.lp_form.specs.Templates.{steps_of}
use Rattle.lp_form.specs.Templates as template
use Rattle.lp_form.specs.declared.part.Part.{Part}
use Rattle.lp_form.specs.declared.template.Step.{Step}
use Rattle.lp_form.specs.declared.template.Step.TheVariants as step
use Rattle.lp_repr.specs.NormalCode.{norm_of, or_unit}
use Rattle.lp_tree.specs.ProgramTree.{Item}
use Rattle.lp_view.specs.PartLists.{Form, level, parts_of}
use Rattle.lp_write.specs.Lines.{blanks}
use Rattle.lp_reading_laws.specs.Printing.AsRead.{code_read}
use Rattle.lp_reading_laws.specs.Printing.TemplateTests.{has_code, is_code}
use Rattle.lp_reading_laws.proofs.Printing.Sound.{plain_ascii}
use Rattle.lp_emitted.proofs.Rows.{Told, StepTold, StepsTold, AreTrees, no_tree, one_tree, Takes}
use Rattle.lp_agreement.proofs.Composed.Settled.{coded}

-- ---- user code
blanks_trimmed : (whitespace : Bool) (code : List ℕ) → trim_start (blanks whitespace 4 ++ code) ≡ trim_start code
unfolding trim_start chars
blanks_trimmed true code =
    let ascii = plain_ascii (codes "    ") refl in
    ap (λ (cs : List ℕ). encode_utf8_all (skip_leading_whitespace cs)) (chars-append (codes "    ") code (IsUtf8-from_ascii (codes "    ") ascii) ∙ ap (λ (cs : List ℕ). cs ++ chars code) (chars-IsAscii (codes "    ") ascii))
blanks_trimmed false code = refl

unit_normal : norm_of [] ≡ norm_of (codes "()")
unfolding trim_start chars lib.Utf8.encode
unit_normal = refl

pub code_normal : (whitespace : Bool) (code : List ℕ) → norm_of (code_read whitespace code) ≡ norm_of code
code_normal whitespace code = by (bytes_eq code (codes "()")) refl
  where
    by : (b : Bool) → bytes_eq code (codes "()") ≡ b → norm_of (if b then [] else blanks whitespace 4 ++ code) ≡ norm_of code
    by true e = unit_normal ∙ ap norm_of (sym ((bytes_eq-Decides code (codes "()")).0 e))
    by false e = ap or_unit (blanks_trimmed whitespace code)

-- ---- parts without user code
-- there is none
unfoldable pub no_code : Told
no_code = record { use_text = λ _. Unit {0}; code = λ _. ⊥; table = λ _. Unit {0} }

step_no_code : (s : Step) (holes : List (List ℕ)) (numbers : List ℤ) → StepTold no_code s holes numbers → is_code s ≡ false
unfolding no_code
step_no_code step.Code holes numbers told = absurd told
step_no_code _ holes numbers told = refl

steps_no_code : (steps : List template.Line) (holes : List (List ℕ)) (numbers : List ℤ) → StepsTold no_code steps holes numbers → has_code steps ≡ false
steps_no_code [] holes numbers told = refl
steps_no_code (s ∷ steps) holes numbers told = ap (λ (b : Bool). b || has_code steps) (step_no_code s.0 holes numbers told.0) ∙ steps_no_code steps holes numbers told.1

module _ (whitespace : Bool) where
  trees_fixed : (items : List Item) (ps : List Part) → AreTrees no_code items ps → map (coded whitespace) items ≡ items
  trees_fixed _ _ no_tree = refl
  trees_fixed _ _ (one_tree p holes numbers below after inner outer count told shared b a) =
      let c = coded whitespace in
      let own : Item = (p, holes, numbers, length below) in
      ap (λ (t : List Item). c own ∷ t) (map-append c below after ∙ ap (λ (t : List Item). t ++ map c after) (trees_fixed below inner b) ∙ ap (λ (t : List Item). below ++ t) (trees_fixed after outer a))
      ∙ ap (λ (t : Bool). (p, (if t then code_read whitespace (get_or holes 0 []) ∷ [] else holes), numbers, length below) ∷ (below ++ after)) (steps_no_code (steps_of p) holes numbers told)

  pub takes_fixed : {steps : List Step} {items : List Item} → Takes no_code steps items → map (coded whitespace) items ≡ items
  takes_fixed {steps} {items} t = trees_fixed items _ t.trees

  -- ---- parts of forms whose codes are as they read
  level_coded : (n : ℕ) (es : List Item) → level n (map (coded whitespace) es) ≡ map (map (coded whitespace)) (level n es)
  level_coded zero es = refl
  level_coded (suc n) [] = refl
  level_coded (suc n) (e ∷ es) =
      let c = coded whitespace in
      ap (λ (t : List Item). (c e ∷ t) ∷ level n (drop e.3 (map c es))) (take-map c e.3 es)
      ∙ ap (λ (fs : List Form). map c (e ∷ take e.3 es) ∷ fs) (ap (level n) (drop-map c e.3 es) ∙ level_coded n (drop e.3 es))

  pub parts_coded : (f : Form) → parts_of (map (coded whitespace) f) ≡ map (map (coded whitespace)) (parts_of f)
  parts_coded [] = refl
  parts_coded (e ∷ es) = ap (λ (n : ℕ). level n (map (coded whitespace) es)) (length-map es (coded whitespace)) ∙ level_coded (length es) es

  -- lists of forms that stay as they are
  pub maps_fixed : {A : Type 0} (to : A → Form) → ((a : A) → map (coded whitespace) (to a) ≡ to a) → (xs : List A) → map (map (coded whitespace)) (map to xs) ≡ map to xs
  maps_fixed to fixed [] = refl
  maps_fixed to fixed (a ∷ xs) = ap (λ (f : Form). f ∷ map (map (coded whitespace)) (map to xs)) (fixed a) ∙ ap (λ (fs : List Form). to a ∷ fs) (maps_fixed to fixed xs)
