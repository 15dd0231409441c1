-- Each class passes the test.
use Rattle.std.proofs.Common.{◌≡◌, true, false, refl}
use Rattle.lp_form.specs.Classes.{members_of}
use Rattle.lp_form.specs.Templates.{steps_of, holes_of}
use Rattle.lp_form.specs.declared.class.Class.{Class}
use Rattle.lp_form.specs.declared.class.Class.TheVariants as class
use Rattle.lp_reading_laws.specs.FirstLines.ApartTests.{lines_apart, parts_apart, is_body}

pub classes_apart : (c : Class) → is_body c ≡ false → parts_apart (members_of c) ≡ true
unfolding members_of steps_of holes_of lines_apart
classes_apart class.ActionBody h = absurd cc
classes_apart _ h = refl
