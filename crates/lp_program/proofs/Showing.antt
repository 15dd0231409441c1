-- What is chosen as a program shows its prefix: attributes and uses stand before the standard uses, whose second line shows it.
use Rattle.std.proofs.Common.{◌≡◌, ℕ, zero, suc, ◌<◌, ◌==◌, true, false, Some, List, [], ◌∷◌, ◌++◌, length, get_or, drop, codes, refl, sym, ◌∙◌, ap, subst, arith, eqb, append_assoc, append-nil}
use Rattle.std.specs.Bool.{MatchBool}
use Rattle.std.specs.List.{starts_with}
use Rattle.std.proofs.lemmas.Bool.{and_parts}
use Rattle.lp_form.specs.Classes.{members_of}
use Rattle.lp_form.specs.Templates.{Piece, steps_of, holes_of}
use Rattle.lp_form.specs.Templates as template
use Rattle.lp_form.specs.declared.class.Class.{Class}
use Rattle.lp_form.specs.declared.class.Class.TheVariants as class_of
use Rattle.lp_form.specs.declared.part.Part.{Part}
use Rattle.lp_form.specs.declared.part.Part.TheVariants as part
use Rattle.lp_form.specs.declared.template.Kind.TheVariants as kind
use Rattle.lp_form.specs.declared.template.Slot.TheVariants.{Nothing, Prefix, Hole}
use Rattle.lp_form.specs.declared.template.Step.TheVariants as step
use Rattle.lp_spelling.specs.Lines.{line_of, AreTold}
use Rattle.lp_spelling.specs.Fillings.{has_shape, Fits, Fills}
use Rattle.lp_spelling.specs.LineReading.{kind_of}
use Rattle.lp_spelling.proofs.Reading.{starts_ok}
use Rattle.lp_program.specs.Begins.{member}
use Rattle.lp_program.specs.Choosing.{MemberChosen, ManyChosen, PartChosen, StepsChosen, BelowChosen}
use Rattle.lp_program.specs.Looking.{Picks}
use Rattle.lp_program.specs.Prefixes.{renaming, renamed, ShowsPrefix}
use Rattle.lp_program.specs.Prefixes.ShowsPrefix.{shown, behind_use, behind_line}
use Rattle.lp_program.specs.Reads.{TakesLine, graft, is_prefix}
use Rattle.lp_program.specs.Telling.{Told, untold}
use Rattle.lp_program.specs.Trees.{Forest}
use Rattle.lp_program.specs.Trees.Forest.{bare}
use Rattle.lp_program.proofs.Spelled.{line_spelled}

-- the steps of the parts in front
pub attribute_steps : steps_of part.Attribute ≡ (step.Line 0, ([], Hole 0) ∷ []) ∷ []
unfolding steps_of
attribute_steps = refl

pub use_steps : steps_of part.UseLine ≡ (step.Use, []) ∷ []
unfolding steps_of
use_steps = refl

abbrev pub first_line : List Piece
first_line = (codes "#[allow(unused_extern_crates)]", Nothing) ∷ []

abbrev pub second_line : List Piece
second_line = (codes "extern crate lalrpop_util as ", Prefix) ∷ (codes "lalrpop_util;", Nothing) ∷ []

pub standard_steps : steps_of part.StandardUses ≡ (step.Line 0, first_line) ∷ (step.Line 0, second_line) ∷ drop 2 (steps_of part.StandardUses)
unfolding steps_of
standard_steps = refl

pub program_steps : steps_of part.Program ≡ (step.Many class_of.Attribute, []) ∷ (step.Many class_of.Use, []) ∷ (step.One class_of.StandardUses, []) ∷ drop 3 (steps_of part.Program)
unfolding steps_of
program_steps = refl

-- their classes have one part each
pub attribute_alone : (member class_of.Attribute 0 ≡ part.Attribute) × (length (members_of class_of.Attribute) ≡ 1)
unfolding members_of
attribute_alone = (refl, refl)

pub use_alone : (member class_of.Use 0 ≡ part.UseLine) × (length (members_of class_of.Use) ≡ 1)
unfolding members_of
use_alone = (refl, refl)

pub standard_alone : (member class_of.StandardUses 0 ≡ part.StandardUses) × (length (members_of class_of.StandardUses) ≡ 1)
unfolding members_of
standard_alone = (refl, refl)

-- an attribute begins no use, and renames nothing
pub hash_line : (x y : List ℕ) → x ≡ 35 ∷ y → (starts_with eqb x (codes "use ") ≡ false) × (starts_with eqb x renaming ≡ false)
hash_line x y e = (ap (λ (z : List ℕ). starts_with eqb z (codes "use ")) e, ap (λ (z : List ℕ). starts_with eqb z renaming) e)

pub attribute_kind : kind_of (holes_of part.Attribute) 0 ≡ kind.Attribute
unfolding holes_of
attribute_kind = refl

pub attribute_fills : (prefix x : List ℕ) → Fills prefix kind.Attribute x → x ≡ 35 ∷ drop 1 x
unfolding Fits has_shape
attribute_fills prefix x f =
    let e : x ≡ 35 ∷ (33 ∷ 91 ∷ drop 3 x) = starts_ok (codes "#![") x (and_parts (starts_with eqb x (codes "#![")) _ f.1.0).0 in
    e ∙ ap (λ (y : List ℕ). 35 ∷ drop 1 y) (sym e)

pub attribute_line : (prefix : List ℕ) (holes : List (List ℕ)) → line_of prefix holes (([], Hole 0) ∷ []) ≡ get_or holes 0 []
unfolding line_of
attribute_line prefix holes = append-nil (get_or holes 0 [])

pub first_spelled : (prefix : List ℕ) (holes : List (List ℕ)) → line_of prefix holes first_line ≡ codes "#[allow(unused_extern_crates)]"
unfolding line_of
first_spelled prefix holes = refl

pub second_spelled : (prefix : List ℕ) (holes : List (List ℕ)) → line_of prefix holes second_line ≡ renaming ++ renamed prefix
unfolding line_of
second_spelled prefix holes = append_assoc renaming prefix (codes "lalrpop_util;")

-- the prefix is shown behind parts that don't show it
abbrev Passed : List ℕ → List ℕ → List ℕ → Type 0
Passed prefix text rest = ShowsPrefix prefix rest → ShowsPrefix prefix text

-- steps of a part, as they are chosen below one that stands so deep
abbrev Chosen : ℕ → List ℕ → Part → Forest → List template.Line → Told → Told → Forest → List ℕ → List ℕ → Type 0
Chosen depth prefix p before ss old new f text rest = StepsChosen (BelowChosen depth prefix (PartChosen depth prefix)) prefix p before ss old new f text rest

line_passed : (depth : ℕ) (prefix : List ℕ) (told : Told) (below : Forest) (text rest : List ℕ) →
    Chosen depth prefix part.Attribute bare ((step.Line 0, ([], Hole 0) ∷ []) ∷ []) untold told below text rest → Passed prefix text rest
unfolding AreTold
line_passed depth prefix told below text rest x shows =
    let step = x.1.reads in
    let line = step.tells in
    let holes : List (List ℕ) = x.0.holes in
    let spelled = line_spelled prefix (holes_of part.Attribute) (([], Hole 0) ∷ []) [] line.line holes line.reads in
    let hole : List ℕ = get_or holes 0 [] in
    let is : line.line ≡ hole = spelled.0 ∙ attribute_line prefix holes in
    let hash : hole ≡ 35 ∷ drop 1 hole = attribute_fills prefix hole (subst (λ k. Fills prefix k hole) attribute_kind (line.fills 0 (omega arith) spelled.1.0)) in
    let no = hash_line line.line (drop 1 hole) (is ∙ hash) in
    behind_line text line.line step.own line.takes no.0 no.1 (subst (λ (t : List ℕ). ShowsPrefix prefix t) (x.1.goes_on.1.1 ∙ step.reads.1) shows)

attribute_passed : (depth : ℕ) (prefix : List ℕ) (f : Forest) (text rest : List ℕ) → PartChosen depth prefix part.Attribute f text rest → Passed prefix text rest
unfolding PartChosen
attribute_passed zero prefix f text rest x shows = absurd x
attribute_passed (suc depth) prefix f text rest x shows =
    line_passed depth prefix x.0 x.1 text rest (subst (λ ss. Chosen depth prefix part.Attribute bare ss untold x.0 x.1 text rest) attribute_steps x.4) shows

text_passed : (depth : ℕ) (prefix : List ℕ) (told : Told) (below : Forest) (text rest : List ℕ) →
    Chosen depth prefix part.UseLine bare ((step.Use, []) ∷ []) untold told below text rest → Passed prefix text rest
text_passed depth prefix told below text rest x shows =
    let step = x.1.reads in
    let used = step.tells in
    behind_use text used.text step.own used.is_text used.behind (subst (λ (t : List ℕ). ShowsPrefix prefix t) (x.1.goes_on.1.1 ∙ step.reads.1) shows)

use_passed : (depth : ℕ) (prefix : List ℕ) (f : Forest) (text rest : List ℕ) → PartChosen depth prefix part.UseLine f text rest → Passed prefix text rest
unfolding PartChosen
use_passed zero prefix f text rest x shows = absurd x
use_passed (suc depth) prefix f text rest x shows =
    text_passed depth prefix x.0 x.1 text rest (subst (λ ss. Chosen depth prefix part.UseLine bare ss untold x.0 x.1 text rest) use_steps x.4) shows

-- the only part of a class
only_member : (class : Class) (p q : Part) (i : ℕ) → (member class 0 ≡ q) × (length (members_of class) ≡ 1) → i < length (members_of class) → p ≡ member class i → p ≡ q
only_member class p q i alone lt is =
    let first : i ≡ 0 = omega (arith, lt, alone.1) in
    is ∙ ap (λ k. member class k) first ∙ alone.0

-- parts of a class that has one alone, none of which shows it
many_passed : (depth : ℕ) (prefix : List ℕ) (class : Class) (q : Part) → (member class 0 ≡ q) × (length (members_of class) ≡ 1) →
    ((f : Forest) (text rest : List ℕ) → PartChosen depth prefix q f text rest → Passed prefix text rest) →
    (n : ℕ) (before f : Forest) (text rest : List ℕ) → ManyChosen depth prefix (λ p sofar. PartChosen depth prefix p) class n before f text rest → Passed prefix text rest
many_passed depth prefix class q alone each zero before f text rest x shows = subst (λ (t : List ℕ). ShowsPrefix prefix t) x.1.1 shows
many_passed depth prefix class q alone each (suc n) before f text rest x shows =
    let picks = x.1.2 in
    let is : x.0 ≡ q = only_member class x.0 q picks.0 alone picks.1 picks.2 in
    let others = x.2 in
    each others.first text others.mid (subst (λ p. PartChosen depth prefix p others.first text others.mid) is others.reads.0)
    (many_passed depth prefix class q alone each n (graft before others.first) others.later others.mid rest others.goes_on shows)

-- the standard uses show it
lines_show : (depth : ℕ) (prefix : List ℕ) (others : List template.Line) (told : Told) (below : Forest) (text rest : List ℕ) → is_prefix prefix ≡ true →
    Chosen depth prefix part.StandardUses bare ((step.Line 0, first_line) ∷ (step.Line 0, second_line) ∷ others) untold told below text rest → ShowsPrefix prefix text
lines_show depth prefix others told below text rest fits x =
    let first = x.1.reads in
    let next = x.1.goes_on in
    let second = next.1.reads in
    let is = (line_spelled prefix (holes_of part.StandardUses) first_line [] first.tells.line x.0.holes first.tells.reads).0 ∙ first_spelled prefix x.0.holes in
    let no = hash_line first.tells.line (drop 1 (codes "#[allow(unused_extern_crates)]")) is in
    let renames = (line_spelled prefix (holes_of part.StandardUses) second_line x.0.holes second.tells.line next.0.holes second.tells.reads).0 ∙ second_spelled prefix next.0.holes in
    let there : ShowsPrefix prefix x.1.mid = shown x.1.mid second.own (subst (λ (l : List ℕ). TakesLine l x.1.mid second.own) renames second.tells.takes) fits in
    behind_line text first.tells.line first.own first.tells.takes no.0 no.1 (subst (λ (t : List ℕ). ShowsPrefix prefix t) first.reads.1 there)

standard_shows : (depth : ℕ) (prefix : List ℕ) (f : Forest) (text rest : List ℕ) → is_prefix prefix ≡ true → PartChosen depth prefix part.StandardUses f text rest → ShowsPrefix prefix text
unfolding PartChosen
standard_shows zero prefix f text rest fits x = absurd x
standard_shows (suc depth) prefix f text rest fits x =
    lines_show depth prefix (drop 2 (steps_of part.StandardUses)) x.0 x.1 text rest fits (subst (λ ss. Chosen depth prefix part.StandardUses bare ss untold x.0 x.1 text rest) standard_steps x.4)

member_shows : (depth : ℕ) (prefix : List ℕ) (f : Forest) (text rest : List ℕ) → is_prefix prefix ≡ true → MemberChosen depth prefix (PartChosen depth prefix) class_of.StandardUses f text rest → ShowsPrefix prefix text
member_shows depth prefix f text rest fits x =
    let class : Class = class_of.StandardUses in
    let alone : (length (members_of class) == 1) ≡ true = ap (λ n. n == 1) standard_alone.1 in
    let only : Some x.0 ≡ Some (member class 0) = subst (λ b. MatchBool b (Some x.0 ≡ Some (member class 0)) (Picks depth prefix class (Some x.0) x.1.0)) alone x.1.2 in
    let is : x.0 ≡ part.StandardUses = some_is x.0 (member class 0) only ∙ standard_alone.0 in
    standard_shows depth prefix f text rest fits (subst (λ p. PartChosen depth prefix p f text rest) is x.2)
  where
    some_is : (p q : Part) → Some p ≡ Some q → p ≡ q
    some_is p q e = cc

steps_show : (depth : ℕ) (prefix : List ℕ) (others : List template.Line) (told : Told) (below : Forest) (text rest : List ℕ) → is_prefix prefix ≡ true →
    Chosen depth prefix part.Program bare ((step.Many class_of.Attribute, []) ∷ (step.Many class_of.Use, []) ∷ (step.One class_of.StandardUses, []) ∷ others) untold told below text rest → ShowsPrefix prefix text
steps_show depth prefix others told below text rest fits x =
    let attributes = x.1.reads in
    let uses = x.1.goes_on.1.reads in
    let standard = x.1.goes_on.1.goes_on.1.reads in
    let on : (a b : List ℕ) → a ≡ b → ShowsPrefix prefix a → ShowsPrefix prefix b = λ a b e s. subst (λ (t : List ℕ). ShowsPrefix prefix t) e s in
    let third = on standard.own x.1.goes_on.1.mid standard.tells.1 (member_shows depth prefix _ standard.own _ fits standard.reads) in
    let second = many_passed depth prefix class_of.Use part.UseLine use_alone (use_passed depth prefix) uses.reads.0 bare _ uses.own _ uses.reads.1 third in
    let first = many_passed depth prefix class_of.Attribute part.Attribute attribute_alone (attribute_passed depth prefix) attributes.reads.0 bare _ attributes.own _ attributes.reads.1 (on uses.own x.1.mid uses.tells.1 second) in
    on attributes.own text attributes.tells.1 first

-- so does what is chosen as a program
pub chosen_shows : (depth : ℕ) (prefix : List ℕ) (f : Forest) (text rest : List ℕ) → is_prefix prefix ≡ true → PartChosen depth prefix part.Program f text rest → ShowsPrefix prefix text
unfolding PartChosen
chosen_shows zero prefix f text rest fits x = absurd x
chosen_shows (suc depth) prefix f text rest fits x =
    steps_show depth prefix (drop 3 (steps_of part.Program)) x.0 x.1 text rest fits (subst (λ ss. Chosen depth prefix part.Program bare ss untold x.0 x.1 text rest) program_steps x.4)
