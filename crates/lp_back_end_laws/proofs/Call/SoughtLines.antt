-- What the printed lines of a state's shifts and reductions look for: the forms of their patterns, and the end.
use Rattle.std.proofs.Common.{◌≡◌, ℕ, zero, suc, ◌-◌, ◌<◌, Bool, true, false, List, [], ◌∷◌, ◌++◌, length, map, take, Option, Some, None, slice_get, refl, sym, ap, ◌∙◌, arith, append_assoc, append-nil}
use Rattle.std.specs.Prelude.{if◌then◌else◌}
use Rattle.std.specs.List.{flat_map}
use Rattle.std.proofs.lemmas.List.Concat.{flat_map-append, flat_map-cons}
use Rattle.lp_form.specs.declared.part.Part.TheVariants as part
use Rattle.lp_repr.specs.declared.repr.Grammar.{Grammar}
use Rattle.lp_repr.specs.declared.repr.Production.{Production}
use Rattle.lp_repr.specs.declared.repr.TokenPattern.{TokenPattern}
use Rattle.lp_tree.specs.ProgramTree.{Item}
use Rattle.lp_build.specs.Ascent.{last_token, shift_part, shift_holes}
use Rattle.lp_build.specs.Built.{row, text_rows}
use Rattle.lp_build.specs.Built as built
use Rattle.lp_view.specs.PartLists.{Form, parts_of}
use Rattle.lp_maker.specs.Patterns.{form_of}
use Rattle.lp_question_laws.proofs.Gotos.Whole.{IsWhole, AreWhole, flat, parts_over, flat-append, whole-append}
use Rattle.lp_ascent.specs.ReduceLines.{arm_on, arm_by, reduction_of}
use Rattle.lp_ascent.specs.ShiftLines.{shift_arm, shifted_pattern, shifted_names}
use Rattle.lp_ascent.specs.Slots.{Layout}
use Rattle.lp_back_end_laws.specs.Call.Cases.{Sought, row_soughts, line_soughts, IsArmLine}

-- ---- a shift
module _ (prefix : List ℕ) (symbol : ℕ) (below : List Item) where
  shift_soughts_by : (pattern : List ℕ) (names : Option (List ℕ)) → line_soughts prefix (built.over (shift_part names) (shift_holes pattern symbol names) below) ≡ Some (form_of prefix pattern) ∷ []
  shift_soughts_by pattern None = refl
  shift_soughts_by pattern (Some names) = refl

  shift_is_arm_by : (pattern : List ℕ) (names : Option (List ℕ)) → IsArmLine (built.over (shift_part names) (shift_holes pattern symbol names) below)
  shift_is_arm_by pattern None = (refl, refl)
  shift_is_arm_by pattern (Some names) = (refl, refl)

  -- a shift's line looks for its pattern's form
  pub shift_soughts : (p : TokenPattern) → line_soughts prefix (shift_arm prefix symbol p below) ≡ Some (form_of prefix (shifted_pattern prefix p)) ∷ []
  shift_soughts p = shift_soughts_by (shifted_pattern prefix p) (shifted_names prefix p)

  pub shift_is_arm : (p : TokenPattern) → IsArmLine (shift_arm prefix symbol p below)
  shift_is_arm p = shift_is_arm_by (shifted_pattern prefix p) (shifted_names prefix p)

-- ---- a reduction
abbrev pub pattern_sought : List ℕ → List ℕ → Sought
pattern_sought prefix pattern = Some (form_of prefix pattern)

-- the last that is looked for: a pattern's form, or the end
abbrev pub last_sought : List ℕ → Option (List ℕ) → Sought
last_sought prefix None = None
last_sought prefix (Some pattern) = pattern_sought prefix pattern

-- the end, where it is looked for
abbrev pub end_sought : Bool → List Sought
end_sought ends = if ends then None ∷ [] else []

abbrev pub last_form : Option (List ℕ) → Form
last_form last = last_token last

abbrev pub row_form : List ℕ → Form
row_form pattern = row part.TokenRow (pattern ∷ []) ∷ []

rows_flat : (ps : List (List ℕ)) → text_rows part.TokenRow ps ≡ flat (map row_form ps)
rows_flat [] = refl
rows_flat (p ∷ ps) = ap (λ is. row part.TokenRow (p ∷ []) ∷ is) (rows_flat ps)

pub rows_whole : (ps : List (List ℕ)) → AreWhole (map row_form ps)
rows_whole [] = tt
rows_whole (p ∷ ps) = (refl, rows_whole ps)

pub last_whole : (last : Option (List ℕ)) → IsWhole (last_form last)
last_whole None = refl
last_whole (Some p) = refl

module _ (prefix : List ℕ) where
  abbrev soughts_in : List Form → List Sought
  soughts_in fs = flat_map (row_soughts prefix) fs

  rows_soughts : (ps : List (List ℕ)) → soughts_in (map row_form ps) ≡ map (pattern_sought prefix) ps
  rows_soughts [] = refl
  rows_soughts (p ∷ ps) = flat_map-cons (row_soughts prefix) (row_form p) (map row_form ps) ∙ ap (λ ss. pattern_sought prefix p ∷ ss) (rows_soughts ps)

  last_soughts : (last : Option (List ℕ)) → row_soughts prefix (last_form last) ≡ last_sought prefix last ∷ []
  last_soughts None = refl
  last_soughts (Some p) = refl

  module _ (below : Form) (whole : IsWhole below) (quiet : row_soughts prefix below ≡ []) where
    below_soughts : soughts_in (below ∷ []) ≡ []
    below_soughts = flat_map-cons (row_soughts prefix) below [] ∙ ap (λ ss. ss ++ soughts_in []) quiet

    abbrev pub more_forms : List (List ℕ) → Option (List ℕ) → List Form
    more_forms ps last = map row_form ps ++ (last_form last ∷ below ∷ [])

    -- the forms behind the first token
    pub more_flat : (ps : List (List ℕ)) (last : Option (List ℕ)) → (text_rows part.TokenRow ps ++ last_token last) ++ below ≡ flat (more_forms ps last)
    more_flat ps last =
        append_assoc (text_rows part.TokenRow ps) (last_token last) below
        ∙ ap (λ is. is ++ (last_token last ++ below)) (rows_flat ps)
        ∙ ap (λ is. flat (map row_form ps) ++ (last_token last ++ is)) (sym (append-nil below))
        ∙ sym (flat-append (map row_form ps) (last_form last ∷ below ∷ []))

    more_soughts : (ps : List (List ℕ)) (last : Option (List ℕ)) → soughts_in (more_forms ps last) ≡ map (pattern_sought prefix) ps ++ last_sought prefix last ∷ []
    more_soughts ps last =
        flat_map-append (row_soughts prefix) (map row_form ps) (last_form last ∷ below ∷ [])
        ∙ ap (λ ss. ss ++ soughts_in (last_form last ∷ below ∷ [])) (rows_soughts ps)
        ∙ ap (λ ss. map (pattern_sought prefix) ps ++ ss) (flat_map-cons (row_soughts prefix) (last_form last) (below ∷ []) ∙ ap (λ ss. ss ++ soughts_in (below ∷ [])) (last_soughts last) ∙ ap (λ ss. last_sought prefix last ∷ ss) below_soughts)

    -- a reduction's line looks for its patterns, and then for the last or the end
    pub arm_soughts : (ps : List (List ℕ)) (last : Option (List ℕ)) → line_soughts prefix (arm_on ps last below) ≡ map (pattern_sought prefix) ps ++ last_sought prefix last ∷ []
    arm_soughts [] None =
        ap (λ is. None ∷ soughts_in (parts_of (built.over part.ReduceEnd [] is))) (sym (append-nil below)) ∙ ap (λ fs. None ∷ soughts_in fs) (parts_over part.ReduceEnd [] (below ∷ []) (whole, tt)) ∙ ap (λ ss. None ∷ ss) below_soughts
    arm_soughts [] (Some p) =
        ap (λ is. pattern_sought prefix p ∷ soughts_in (parts_of (built.over part.ReduceToken (p ∷ []) is))) (sym (append-nil below)) ∙ ap (λ fs. pattern_sought prefix p ∷ soughts_in fs) (parts_over part.ReduceToken (p ∷ []) (below ∷ []) (whole, tt))
        ∙ ap (λ ss. pattern_sought prefix p ∷ ss) below_soughts
    arm_soughts (p ∷ ps) last =
        ap (λ is. pattern_sought prefix p ∷ soughts_in (parts_of (built.over part.ReduceMany (p ∷ []) is))) (more_flat ps last)
        ∙ ap (λ fs. pattern_sought prefix p ∷ soughts_in fs) (parts_over part.ReduceMany (p ∷ []) (more_forms ps last) (whole-append (map row_form ps) (last_form last ∷ below ∷ []) (rows_whole ps) (last_whole last, (whole, tt))))
        ∙ ap (λ ss. pattern_sought prefix p ∷ ss) (more_soughts ps last)

    pub arm_is_arm : (ps : List (List ℕ)) (last : Option (List ℕ)) → IsArmLine (arm_on ps last below)
    arm_is_arm [] None = (refl, refl)
    arm_is_arm [] (Some p) = (refl, refl)
    arm_is_arm (p ∷ ps) last = (refl, refl)

    -- for all patterns, and for the end where it is there
    pub by_soughts : (ends : Bool) (ps : List (List ℕ)) → (ends ≡ false → 0 < length ps) → line_soughts prefix (arm_by ends ps below) ≡ map (pattern_sought prefix) ps ++ end_sought ends
    by_soughts true ps some = arm_soughts ps None
    by_soughts false [] some = (let no = some refl in absurd (omega arith))
    by_soughts false (p ∷ ps) some = arm_soughts (take (suc (length ps) - 1) (p ∷ ps)) (slice_get (p ∷ ps) (suc (length ps) - 1)) ∙ parted (p ∷ ps) (suc (length ps) - 1) (omega arith)
      where
        parted : (xs : List (List ℕ)) (n : ℕ) → length xs ≡ suc n → map (pattern_sought prefix) (take n xs) ++ last_sought prefix (slice_get xs n) ∷ [] ≡ map (pattern_sought prefix) xs ++ []
        parted [] n e = absurd (omega arith)
        parted (x ∷ []) zero e = refl
        parted (x ∷ y ∷ xs) zero e = absurd (omega arith)
        parted (x ∷ xs) (suc n) e = ap (λ ss. pattern_sought prefix x ∷ ss) (parted xs n (omega arith))

-- ---- what is below a reduction's tokens
module _ (prefix : List ℕ) (g : Grammar) (l : Layout) (p : Production) where
  pub below_whole : IsWhole (reduction_of g l p)
  unfolding reduction_of
  below_whole = refl

  pub below_quiet : row_soughts prefix (reduction_of g l p) ≡ []
  unfolding reduction_of
  below_quiet = refl
