-- In no template a class takes what belongs to a later one.
use Rattle.std.proofs.Common.{◌≡◌, true, refl}
use Rattle.lp_form.specs.Templates.{steps_of}
use Rattle.lp_form.specs.Classes.{members_of}
use Rattle.lp_form.specs.declared.part.Part.{Part}
use Rattle.lp_form.specs.declared.part.Part.TheVariants as part
use Rattle.lp_reading_laws.proofs.Printing.Sharing.{are_apart, class_steps}

pub templates_apart : (p : Part) → are_apart (class_steps (steps_of p)) ≡ true
unfolding steps_of members_of
templates_apart part.Program = refl
templates_apart _ = refl
