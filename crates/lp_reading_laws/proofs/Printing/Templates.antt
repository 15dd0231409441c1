-- Every template is sound.
use Rattle.std.proofs.Common.{◌≡◌, true, false, refl}
use Rattle.std.proofs.lemmas.Bool.{both_ways}
use Rattle.lp_form.specs.Templates.{steps_of, holes_of}
use Rattle.lp_form.specs.Classes.{members_of}
use Rattle.lp_form.specs.declared.part.Part.{Part}
use Rattle.lp_form.specs.declared.part.Part.TheVariants as part
use Rattle.lp_reading_laws.specs.Printing.TemplateTests.{has_code, is_sound}

pub templates_sound : (p : Part) → is_sound p ≡ true
unfolding steps_of holes_of members_of
templates_sound part.Program = refl
templates_sound _ = refl

-- one part alone has user code
pub code_part : (p : Part) → has_code (steps_of p) ≡ true → p ≡ part.UserBody
unfolding steps_of
code_part part.UserBody h = refl
code_part _ h = absurd (both_ways false refl h)
