-- Which body of a match a value chooses.
use Rattle.std.specs.Prelude.{ℕ, zero, suc, ℤ, Bool, true, false, List, [], ◌∷◌, Option, Some, None, slice_get, ◌==◌, ◌&&◌, int_le}
use Rattle.std.specs.Option.{option_map, option_and_then}
use Rattle.std.specs.Str.{bytes_eq}
use Rattle.lp_driver.specs.Values.{Token}
use Rattle.lp_core.specs.declared.value.Tag.{Tag}
use Rattle.lp_core.specs.declared.value.Tag.TheVariants.{Tuple, Absent, Present, Success, Failure, Accept, Reduce, Variant}
use Rattle.lp_core.specs.declared.value.Tag.TheVariants as tag
use Rattle.lp_core.specs.declared.expr.Case.{Case}
use Rattle.lp_core.specs.declared.expr.Test.{Test}
use Rattle.lp_core.specs.declared.expr.Test.TheVariants as test
use Rattle.lp_core.specs.declared.expr.Place.{Place}
use Rattle.lp_core.specs.declared.expr.Place.TheVariants as place
use Rattle.lp_core.specs.Val.{Val}
use Rattle.lp_core.specs.Reading.{parts, tag_of, term_of}
use Rattle.lp_core.specs.Numbers.{number_of}
use Rattle.lp_core.specs.Store.{Program}
use Rattle.lp_core.specs.OpMeaning.{token_in}

abbrev pub same_tag : Tag → Tag → Bool
same_tag Tuple Tuple = true
same_tag tag.List tag.List = true
same_tag Absent Absent = true
same_tag Present Present = true
same_tag Success Success = true
same_tag Failure Failure = true
same_tag Accept Accept = true
same_tag Reduce Reduce = true
same_tag (Variant m) (Variant n) = m == n
same_tag _ _ = false

abbrev pub between : ℤ → ℤ → ℤ → Bool
between low high n = int_le low n && int_le n high

-- whether a token has the form that a text of the program is
abbrev pub has_form : Program → ℕ → Token → Option Bool
has_form p text token = option_map (λ form. bytes_eq form token.form) (slice_get p.texts text)

-- whether a value passes a test; nothing where it is of another kind
abbrev pub passes : Program → Test → Val → Option Bool
passes p (test.Between low high) v = option_map (between low high) (number_of v)
passes p (test.Is tag) v = option_map (λ t. same_tag t tag) (tag_of v)
passes p (test.Form text) v = option_and_then (has_form p text) (option_and_then token_in (term_of v))

-- whether the first part passes a test; false where there is none
abbrev pub part_passes : (Val → Option Bool) → Option Val → Option Bool
part_passes passes None = Some false
part_passes passes (Some part) = passes part

abbrev pub second_passes : (Val → Option Bool) → Val → Option Bool
second_passes passes triple = option_and_then passes (slice_get (parts triple) 1)

abbrev pub fits_at : Place → (Val → Option Bool) → Val → Option Bool
fits_at place.Here passes v = passes v
fits_at place.Inside passes v = part_passes passes (slice_get (parts v) 0)
fits_at place.TokenInside passes v = part_passes (second_passes passes) (slice_get (parts v) 0)

-- whether a case fits a value
abbrev pub fits : Program → Case → Val → Option Bool
fits p case v = fits_at case.place (passes p case.test) v

-- the last of so many bodies
abbrev pub last_body : ℕ → Option ℕ
last_body zero = None
last_body (suc n) = Some n

abbrev pub chosen_if : ℕ → Option ℕ → Option Bool → Option ℕ
chosen_if body others None = None
chosen_if body others (Some true) = Some body
chosen_if body others (Some false) = others

-- the number of the body of the first case that fits, else of the last of so many bodies
abbrev pub chosen : Program → List Case → ℕ → Val → Option ℕ
chosen p [] bodies v = last_body bodies
chosen p (case ∷ cases) bodies v = chosen_if case.body (chosen p cases bodies v) (fits p case v)
