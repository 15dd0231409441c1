-- Every part keeps its level, and which parts a step takes of those that don't leave the indent as it was.
use Rattle.std.proofs.Common.{◌≡◌, true, false, refl}
use Rattle.std.proofs.lemmas.Bool.{or_left, or_right, both_ways}
use Rattle.lp_form.specs.Templates.{steps_of, holes_of}
use Rattle.lp_form.specs.Classes.{members_of}
use Rattle.lp_form.specs.declared.class.Class.{Class}
use Rattle.lp_form.specs.declared.class.Class.TheVariants as class
use Rattle.lp_form.specs.declared.part.Part.{Part}
use Rattle.lp_form.specs.declared.part.Part.TheVariants as part
use Rattle.lp_form.specs.declared.template.Step.{Step}
use Rattle.lp_form.specs.declared.template.Step.TheVariants as step
use Rattle.lp_program.specs.Printed.{is_member, takes}
use Rattle.lp_reading_laws.specs.Printing.LevelTests.{rises, falls, is_outer, step_rises, takes_falling, class_rises, only_rises, class_falls, step_falls, takes_outer, keeps_level}

pub templates_level : (p : Part) → keeps_level p ≡ true
unfolding steps_of holes_of members_of
templates_level part.Program = refl
templates_level _ = refl

-- the parts of a step
pub rising_taken : (s : Step) (p : Part) → rises p ≡ true → takes s p ≡ true → step_rises s ≡ true
rising_taken s part.LastToken h t = or_left (takes s part.LastToken) _ t
rising_taken s part.LastEnd h t = or_right (takes s part.LastToken) _ (or_left (takes s part.LastEnd) _ t)
rising_taken s part.LocationRow h t = or_right (takes s part.LastToken) _ (or_right (takes s part.LastEnd) _ t)
rising_taken s _ h t = absurd (both_ways false refl h)

pub outer_taken : (s : Step) (p : Part) → is_outer p ≡ true → takes s p ≡ true → takes_outer s ≡ true
outer_taken s part.Program h t = or_left (takes s part.Program) _ t
outer_taken s part.ActionFn h t = or_right (takes s part.Program) _ (or_left (takes s part.ActionFn) _ t)
outer_taken s part.ActionFnUnused h t = or_right (takes s part.Program) _ (or_right (takes s part.ActionFn) _ t)
outer_taken s _ h t = absurd (both_ways false refl h)

pub falling_taken : (s : Step) (p : Part) → falls p ≡ true → takes s p ≡ true → takes_falling s ≡ true
falling_taken s part.ResultUnit h t = or_left (takes s part.ResultUnit) _ t
falling_taken s part.ResultType h t = or_right (takes s part.ResultUnit) _ (or_left (takes s part.ResultType) _ t)
falling_taken s part.ReduceLines h t = or_right (takes s part.ResultUnit) _ (or_right (takes s part.ResultType) _ (or_left (takes s part.ReduceLines) _ t))
falling_taken s part.CallEndPlain h t = or_right (takes s part.ResultUnit) _ (or_right (takes s part.ResultType) _ (or_right (takes s part.ReduceLines) _ (or_left (takes s part.CallEndPlain) _ t)))
falling_taken s part.CallEndFallible h t = or_right (takes s part.ResultUnit) _ (or_right (takes s part.ResultType) _ (or_right (takes s part.ReduceLines) _ (or_right (takes s part.CallEndPlain) _ t)))
falling_taken s _ h t = absurd (both_ways false refl h)

-- parts that close a bracket in front open none behind, and have no user code below
pub falls_alone : (p : Part) → falls p ≡ true → (rises p ≡ false) × (is_outer p ≡ false)
falls_alone part.ResultUnit h = (refl, refl)
falls_alone part.ResultType h = (refl, refl)
falls_alone part.ReduceLines h = (refl, refl)
falls_alone part.CallEndPlain h = (refl, refl)
falls_alone part.CallEndFallible h = (refl, refl)
falls_alone _ h = absurd (both_ways false refl h)

-- the classes of such parts have no other
results : (p : Part) → is_member class.ResultLine p ≡ true → falls p ≡ true
unfolding members_of
results part.ResultUnit h = refl
results part.ResultType h = refl
results _ h = absurd (both_ways false refl h)

reductions : (p : Part) → is_member class.ReduceLines p ≡ true → falls p ≡ true
unfolding members_of
reductions part.ReduceLines h = refl
reductions _ h = absurd (both_ways false refl h)

call_ends : (p : Part) → is_member class.CallEnd p ≡ true → falls p ≡ true
unfolding members_of
call_ends part.CallEndPlain h = refl
call_ends part.CallEndFallible h = refl
call_ends _ h = absurd (both_ways false refl h)

class_falling : (c : Class) (p : Part) → class_falls c ≡ true → is_member c p ≡ true → falls p ≡ true
class_falling class.ResultLine p h m = results p m
class_falling class.ReduceLines p h m = reductions p m
class_falling class.CallEnd p h m = call_ends p m
class_falling _ p h m = absurd (both_ways false refl h)

last_tokens : (p : Part) → is_member class.LastToken p ≡ true → rises p ≡ true
unfolding members_of
last_tokens part.LastToken h = refl
last_tokens part.LastEnd h = refl
last_tokens _ h = absurd (both_ways false refl h)

location_rows : (p : Part) → is_member class.LocationRow p ≡ true → rises p ≡ true
unfolding members_of
location_rows part.LocationRow h = refl
location_rows _ h = absurd (both_ways false refl h)

class_rising : (c : Class) (p : Part) → class_rises c ≡ true → is_member c p ≡ true → rises p ≡ true
class_rising class.LastToken p h m = last_tokens p m
class_rising class.LocationRow p h m = location_rows p m
class_rising _ p h m = absurd (both_ways false refl h)

pub step_falling : (s : Step) (p : Part) → step_falls s ≡ true → takes s p ≡ true → falls p ≡ true
step_falling (step.One class) p h t = class_falling class p h t
step_falling _ p h t = absurd (both_ways false refl h)

pub step_rising : (s : Step) (p : Part) → only_rises s ≡ true → takes s p ≡ true → rises p ≡ true
step_rising (step.One class) p h t = class_rising class p h t
step_rising (step.Some class) p h t = class_rising class p h t
step_rising _ p h t = absurd (both_ways false refl h)
