-- A text that reads as a program shows its prefix.
use Rattle.std.proofs.Common.{◌≡◌, ℕ, ◌+◌, ◌<◌, true, false, ◌&&◌, ◌==◌, List, [], ◌∷◌, ◌++◌, length, get_or, drop, codes, refl, sym, ◌∙◌, ap, subst, arith}
use Rattle.std.specs.List.{list_all}
use Rattle.std.specs.Str.{IsUtf8}
use Rattle.std.proofs.lemmas.Bool.{and_parts, both_ways}
use Rattle.lp_form.specs.Classes.{members_of}
use Rattle.lp_form.specs.Templates.{Piece, steps_of, holes_of}
use Rattle.lp_form.specs.Templates as template
use Rattle.lp_form.specs.declared.class.Class.{Class}
use Rattle.lp_form.specs.declared.class.Class.TheVariants as class_of
use Rattle.lp_form.specs.declared.part.Part.{Part}
use Rattle.lp_form.specs.declared.part.Part.TheVariants as part
use Rattle.lp_form.specs.declared.template.Slot.TheVariants.{Hole}
use Rattle.lp_form.specs.declared.template.Step.TheVariants as step
use Rattle.lp_spelling.specs.Counting.{settled}
use Rattle.lp_spelling.specs.Lines.{line_of}
use Rattle.lp_spelling.specs.Fillings.{Fills}
use Rattle.lp_program.specs.Begins.{member}
use Rattle.lp_program.specs.OwnLines.{hole}
use Rattle.lp_program.specs.Printed.{is_member}
use Rattle.lp_program.specs.Reads.{TakesLine, is_prefix, parts_in, KindsFill, Reads}
use Rattle.lp_program.specs.Reads.Task.{trees, steps}
use Rattle.lp_program.specs.Trees.{Content, Forest, tree_count}
use Rattle.lp_program.specs.Trees.Forest.{bare, tree}
use Rattle.lp_reading_laws.proofs.Texts.Parts.{member_place}
use Rattle.lp_program.specs.Prefixes.{renaming, renamed, ShowsPrefix}
use Rattle.lp_program.specs.Prefixes.ShowsPrefix.{shown, behind_use, behind_line}
use Rattle.lp_program.proofs.Showing.{attribute_steps, use_steps, first_line, second_line, standard_steps, program_steps, attribute_alone, use_alone, standard_alone, hash_line, attribute_kind, attribute_fills, attribute_line, first_spelled, second_spelled}
use Rattle.lp_reading_laws.proofs.Choosing.Following.{front_utf8, settled_follows, line_follows, use_follows, behind_byte, front_of_byte}
use Rattle.lp_reading_laws.proofs.Choosing.Taking.{task_takes}
use Rattle.lp_reading_laws.proofs.Choosing.Made.{made, no_trees}

-- a line of a part, and the steps behind it
record LineMade (prefix : List ℕ) (c : Content) (pieces : List Piece) (others : List template.Line) (text rest : List ℕ) : Type 0 where
  own : List ℕ
  takes : TakesLine (line_of prefix c.holes pieces) text own
  count : ℕ
  later : Forest
  goes_on : Reads prefix (steps c count others later) own rest

line_made : (prefix : List ℕ) (c : Content) (count blanks : ℕ) (pieces : List Piece) (others : List template.Line) (f : Forest) (text rest : List ℕ) → Reads prefix (steps c count ((step.Line blanks, pieces) ∷ others) f) text rest → LineMade prefix c pieces others text rest
line_made prefix c count blanks pieces others f text rest reads =
    let m = made prefix (steps c count ((step.Line blanks, pieces) ∷ others) f) text rest reads in
    record { own = m.own; takes = m.takes; count = count + tree_count m.now; later = m.later; goes_on = subst (λ (x : List ℕ). Reads prefix (steps c (count + tree_count m.now) others m.later) x rest) (no_trees prefix m.now m.own m.mid m.may m.reads) m.goes_on }

-- their classes
alone : (class : Class) (p q : Part) → member class 0 ≡ q → length (members_of class) ≡ 1 → is_member class p ≡ true → p ≡ q
alone class p q e n m =
    let at = member_place class p m in
    let lt = at.1 in
    let first : at.0 ≡ 0 = omega (arith, lt, n) in
    at.2 ∙ ap (λ i. member class i) first ∙ e

pub attribute_is : (p : Part) → is_member class_of.Attribute p ≡ true → p ≡ part.Attribute
attribute_is p m = alone class_of.Attribute p part.Attribute attribute_alone.0 attribute_alone.1 m

pub use_is : (p : Part) → is_member class_of.Use p ≡ true → p ≡ part.UseLine
use_is p m = alone class_of.Use p part.UseLine use_alone.0 use_alone.1 m

pub standard_is : (p : Part) → is_member class_of.StandardUses p ≡ true → p ≡ part.StandardUses
standard_is p m = alone class_of.StandardUses p part.StandardUses standard_alone.0 standard_alone.1 m

-- an attribute begins with `#`
one_kind : 0 < length (holes_of part.Attribute)
unfolding holes_of
one_kind = omega arith

attribute_hash : (prefix : List ℕ) (holes : List (List ℕ)) → KindsFill prefix part.Attribute holes → line_of prefix holes (([], Hole 0) ∷ []) ≡ 35 ∷ drop 1 (get_or holes 0 [])
attribute_hash prefix holes fills =
    let x : List ℕ = get_or holes 0 [] in
    attribute_line prefix holes ∙ attribute_fills prefix x (subst (λ k. Fills prefix k x) attribute_kind (fills 0 one_kind))

-- the prefix is shown behind parts that don't show it
abbrev Passed : List ℕ → List ℕ → List ℕ → Type 0
Passed prefix text rest = ShowsPrefix prefix rest → ShowsPrefix prefix text

attribute_passed : (prefix : List ℕ) (c : Content) (below : Forest) (text mid : List ℕ) → c.part ≡ part.Attribute → KindsFill prefix c.part c.holes → Reads prefix (steps c 0 (steps_of c.part) below) text mid → Passed prefix text mid
attribute_passed prefix c below text mid is fills reads shows =
    let m = line_made prefix c 0 0 (([], Hole 0) ∷ []) [] below text mid (subst (λ ss. Reads prefix (steps c 0 ss below) text mid) (ap steps_of is ∙ attribute_steps) reads) in
    let same : mid ≡ m.own = made prefix (steps c m.count [] m.later) m.own mid m.goes_on in
    let no = hash_line (line_of prefix c.holes (([], Hole 0) ∷ [])) _ (attribute_hash prefix c.holes (subst (λ p. KindsFill prefix p c.holes) is fills)) in
    behind_line text _ m.own m.takes no.0 no.1 (subst (λ (x : List ℕ). ShowsPrefix prefix x) same shows)

use_passed : (prefix : List ℕ) (c : Content) (below : Forest) (text mid : List ℕ) → IsUtf8 text → c.part ≡ part.UseLine → Reads prefix (steps c 0 (steps_of c.part) below) text mid → Passed prefix text mid
use_passed prefix c below text mid u is reads shows =
    let m = made prefix (steps c 0 ((step.Use, []) ∷ []) below) text mid (subst (λ ss. Reads prefix (steps c 0 ss below) text mid) (ap steps_of is ∙ use_steps) reads) in
    let same : mid ≡ m.own = made prefix (steps c (0 + tree_count m.now) [] m.later) m.mid mid m.goes_on ∙ no_trees prefix m.now m.own m.mid m.may m.reads in
    behind_use text (hole c 0) m.own m.takes (use_follows text (hole c 0) m.own u m.takes).0.utf8 (subst (λ (x : List ℕ). ShowsPrefix prefix x) same shows)

attributes_passed : (prefix : List ℕ) (f : Forest) (text rest : List ℕ) → IsUtf8 text → list_all (is_member class_of.Attribute) (parts_in f) ≡ true → Reads prefix (trees f) text rest → Passed prefix text rest
attributes_passed prefix bare text rest u may reads shows = subst (λ (x : List ℕ). ShowsPrefix prefix x) (made prefix (trees bare) text rest reads) shows
attributes_passed prefix (tree c below after) text rest u may reads shows =
    let p = and_parts (is_member class_of.Attribute c.part) _ may in
    let m = made prefix (trees (tree c below after)) text rest reads in
    let v = (task_takes prefix (steps c 0 (steps_of c.part) below) text m.mid u m.inner).0.utf8 in
    attribute_passed prefix c below text m.mid (attribute_is c.part p.0) m.fills m.inner (attributes_passed prefix after m.mid rest v p.1 m.outer shows)

uses_passed : (prefix : List ℕ) (f : Forest) (text rest : List ℕ) → IsUtf8 text → list_all (is_member class_of.Use) (parts_in f) ≡ true → Reads prefix (trees f) text rest → Passed prefix text rest
uses_passed prefix bare text rest u may reads shows = subst (λ (x : List ℕ). ShowsPrefix prefix x) (made prefix (trees bare) text rest reads) shows
uses_passed prefix (tree c below after) text rest u may reads shows =
    let p = and_parts (is_member class_of.Use c.part) _ may in
    let m = made prefix (trees (tree c below after)) text rest reads in
    let v = (task_takes prefix (steps c 0 (steps_of c.part) below) text m.mid u m.inner).0.utf8 in
    use_passed prefix c below text m.mid u (use_is c.part p.0) m.inner (uses_passed prefix after m.mid rest v p.1 m.outer shows)

-- the standard uses show it
standard_shows : (prefix : List ℕ) (c : Content) (below : Forest) (text mid : List ℕ) → is_prefix prefix ≡ true → c.part ≡ part.StandardUses → Reads prefix (steps c 0 (steps_of c.part) below) text mid → ShowsPrefix prefix text
standard_shows prefix c below text mid fits is reads =
    let others = drop 2 (steps_of part.StandardUses) in
    let m = line_made prefix c 0 0 first_line ((step.Line 0, second_line) ∷ others) below text mid (subst (λ ss. Reads prefix (steps c 0 ss below) text mid) (ap steps_of is ∙ standard_steps) reads) in
    let k = line_made prefix c m.count 0 second_line others m.later m.own mid m.goes_on in
    let no = hash_line (line_of prefix c.holes first_line) _ (first_spelled prefix c.holes) in
    behind_line text (line_of prefix c.holes first_line) m.own m.takes no.0 no.1 (shown m.own k.own (subst (λ (x : List ℕ). TakesLine x m.own k.own) (second_spelled prefix c.holes) k.takes) fits)

one_shows : (prefix : List ℕ) (now : Forest) (text mid : List ℕ) → is_prefix prefix ≡ true → ((length (parts_in now) == 1) && list_all (is_member class_of.StandardUses) (parts_in now)) ≡ true → Reads prefix (trees now) text mid → ShowsPrefix prefix text
one_shows prefix bare text mid fits may reads = absurd (both_ways false refl may)
one_shows prefix (tree c below after) text mid fits may reads =
    let p = and_parts (length (parts_in (tree c below after)) == 1) _ may in
    let m = made prefix (trees (tree c below after)) text mid reads in
    standard_shows prefix c below text m.mid fits (standard_is c.part (and_parts (is_member class_of.StandardUses c.part) _ p.1).0) m.inner

reads_from : (prefix : List ℕ) (f : Forest) (own text mid : List ℕ) → own ≡ text → Reads prefix (trees f) own mid → Reads prefix (trees f) text mid
reads_from prefix f own text mid e reads = subst (λ (x : List ℕ). Reads prefix (trees f) x mid) e reads

-- attributes, uses, and then the standard uses
three_show : (prefix : List ℕ) (first second third : Forest) (text a b c mid : List ℕ) → IsUtf8 text → is_prefix prefix ≡ true → list_all (is_member class_of.Attribute) (parts_in first) ≡ true → list_all (is_member class_of.Use) (parts_in second) ≡ true →
    ((length (parts_in third) == 1) && list_all (is_member class_of.StandardUses) (parts_in third)) ≡ true → Reads prefix (trees first) text a → b ≡ a → Reads prefix (trees second) b c → Reads prefix (trees third) c mid → ShowsPrefix prefix text
three_show prefix first second third text a b c mid u fits attributes uses standard reads same then last =
    let v : IsUtf8 b = subst (λ (x : List ℕ). IsUtf8 x) (sym same) (task_takes prefix (trees first) text a u reads).0.utf8 in
    let there : ShowsPrefix prefix b = uses_passed prefix second b c v uses then (one_shows prefix third c mid fits standard last) in
    attributes_passed prefix first text a u attributes reads (subst (λ (x : List ℕ). ShowsPrefix prefix x) same there)

pub program_shows : (prefix : List ℕ) (c : Content) (below : Forest) (text rest : List ℕ) → IsUtf8 text → is_prefix prefix ≡ true → c.part ≡ part.Program → Reads prefix (trees (tree c below bare)) text rest → ShowsPrefix prefix text
program_shows prefix c below text rest u fits is reads =
    let others = drop 3 (steps_of part.Program) in
    let t = made prefix (trees (tree c below bare)) text rest reads in
    let a = made prefix (steps c 0 ((step.Many class_of.Attribute, []) ∷ (step.Many class_of.Use, []) ∷ (step.One class_of.StandardUses, []) ∷ others) below) text t.mid
    (subst (λ ss. Reads prefix (steps c 0 ss below) text t.mid) (ap steps_of is ∙ program_steps) t.inner) in
    let b = made prefix (steps c (0 + tree_count a.now) ((step.Many class_of.Use, []) ∷ (step.One class_of.StandardUses, []) ∷ others) a.later) a.mid t.mid a.goes_on in
    let d = made prefix (steps c ((0 + tree_count a.now) + tree_count b.now) ((step.One class_of.StandardUses, []) ∷ others) b.later) b.mid t.mid b.goes_on in
    three_show prefix a.now b.now d.now text a.mid b.own b.mid d.mid u fits a.may b.may d.may (reads_from prefix a.now a.own text a.mid a.takes a.reads) b.takes b.reads (reads_from prefix d.now d.own b.mid d.mid d.takes d.reads)

-- the prefix that a text shows is a text too
line_utf8 : (prefix text rest : List ℕ) → IsUtf8 text → TakesLine (renaming ++ renamed prefix) text rest → IsUtf8 prefix
line_utf8 prefix text rest u takes =
    let s = settled_follows text u in
    let line : IsUtf8 (renaming ++ renamed prefix) = subst (λ (x : List ℕ). IsUtf8 x) takes.line_is (front_utf8 (settled text) s.utf8) in
    let name : IsUtf8 (renamed prefix) = behind_byte (codes "extern crate lalrpop_util as") 32 (renamed prefix) (omega arith) line in
    front_of_byte prefix 108 (codes "alrpop_util;") (omega arith) name

pub shows_utf8 : (prefix text : List ℕ) → IsUtf8 text → ShowsPrefix prefix text → IsUtf8 prefix
shows_utf8 prefix _ u (shown text rest takes fits) = line_utf8 prefix text rest u takes
shows_utf8 prefix _ u (behind_use text used rest is v shows) = shows_utf8 prefix rest v shows
shows_utf8 prefix _ u (behind_line text line rest takes a b shows) = shows_utf8 prefix rest (line_follows line text rest u takes).0.utf8 shows
