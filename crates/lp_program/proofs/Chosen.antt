-- What a reader reads that looks ahead is one thing.
use Rattle.std.proofs.Common.{◌≡◌, ℕ, zero, suc, ◌<◌, ◌==◌, Bool, true, false, inl, inr, List, [], ◌∷◌, ◌++◌, length, Option, Some, None, refl, sym, ap, ◌∙◌, arith, subst}
use Rattle.std.specs.Bool.{MatchBool}
use Rattle.std.proofs.lemmas.Bool.{cases_lt}
use Rattle.lp_form.specs.Classes.{members_of}
use Rattle.lp_form.specs.Templates.{steps_of}
use Rattle.lp_form.specs.Templates as template
use Rattle.lp_form.specs.declared.class.Class.{Class}
use Rattle.lp_form.specs.declared.class.Class.TheVariants as class_of
use Rattle.lp_form.specs.declared.part.Part.{Part}
use Rattle.lp_form.specs.declared.part.Part.TheVariants as part
use Rattle.lp_form.specs.declared.template.Step.{Step}
use Rattle.lp_form.specs.declared.template.Step.TheVariants as step
use Rattle.lp_program.specs.declared.read.reader.Parameters.{Parameters}
use Rattle.lp_program.specs.declared.read.reader.Parameters.TheVariants as parameters
use Rattle.lp_program.specs.Begins.{Lines, member, Begins}
use Rattle.lp_program.specs.Looking.{AreCounted, NoneBegun, Picks, Chooses}
use Rattle.lp_program.specs.Reads.{graft}
use Rattle.lp_program.specs.Choosing.{Reading, Nothing, Followed, Shorter, contents, SeenLines, MemberChosen, OptionalChosen, ManyChosen, AnyChosen, InlinedChosen, EitherChosen, BodyChosen, ClassChosen, PairChosen, BelowChosen, StepChosen, StepsChosen, grown, PartSteps, PartChosen, WholeChosen}
use Rattle.lp_program.specs.Parameters.{last_parameter, parameters_of}
use Rattle.lp_program.specs.Telling.{Told, untold}
use Rattle.lp_program.specs.Trees.{Content, Forest, tree_count}
use Rattle.lp_program.specs.Trees.Forest.{bare, tree}
use Rattle.lp_program.proofs.Once.{own_once}

-- a reading that has one answer on each text
abbrev pub IsOnce : Reading → Type 0
IsOnce Read = (f g : Forest) (text a b : List ℕ) → Read f text a → Read g text b → (f ≡ g) × (a ≡ b)

-- the same where it tells something
abbrev pub IsToldOnce : (Told → Reading) → Type 0
IsToldOnce Read = (s t : Told) (f g : Forest) (text a b : List ℕ) → Read s f text a → Read t g text b → (s ≡ t) × (f ≡ g) × (a ≡ b)

-- a text has no other lines
pub counted_once : (text : List ℕ) (lines others : Lines) → AreCounted text lines → AreCounted text others → lines ≡ others
counted_once text [] [] c d = refl
counted_once text [] (m ∷ others) c d = absurd (omega (arith, ap length c, d.1.some))
counted_once text (l ∷ lines) [] c d = absurd (omega (arith, ap length d, c.1.some))
counted_once text (l ∷ lines) (m ∷ others) c d =
    let line : l ≡ m = sym c.1.line_is ∙ d.1.line_is in
    let rest : d.0 ≡ c.0 = d.1.rest_is ∙ sym c.1.rest_is in
    let same = counted_once c.0 lines others c.2 (subst (λ (x : List ℕ). AreCounted x others) rest d.2) in
    ap (λ (x : List ℕ). x ∷ lines) line ∙ ap (λ (x : Lines). m ∷ x) same

-- the first part that is begun is before no other such
no_first : (depth : ℕ) (prefix : List ℕ) (class : Class) (p : Part) (i j : ℕ) (lines : Lines) → i < j → p ≡ member class i → Begins depth prefix p lines → NoneBegun depth prefix class j lines → ⊥
no_first depth prefix class p i j lines lt is begins none = none i lt (subst (λ (m : Part). Begins depth prefix m lines) is begins)

pub picks_once : (depth : ℕ) (prefix : List ℕ) (class : Class) (r s : Option Part) (lines : Lines) → Picks depth prefix class r lines → Picks depth prefix class s lines → r ≡ s
picks_once depth prefix class None None lines x y = refl
picks_once depth prefix class None (Some q) lines x y = absurd (no_first depth prefix class q y.0 (length (members_of class)) lines y.1 y.2 y.3 x)
picks_once depth prefix class (Some p) None lines x y = absurd (no_first depth prefix class p x.0 (length (members_of class)) lines x.1 x.2 x.3 y)
picks_once depth prefix class (Some p) (Some q) lines x y = elim (cases_lt x.0 y.0) [
  | inl lt ↦ absurd (no_first depth prefix class p x.0 y.0 lines lt x.2 x.3 y.4)
  | inr le ↦ elim (cases_lt y.0 x.0) [
    | inl lt ↦ absurd (no_first depth prefix class q y.0 x.0 lines lt y.2 y.3 x.4)
    | inr ge ↦
        let at : x.0 ≡ y.0 = omega (arith, le, ge) in
        ap (λ (m : Part). Some m) (x.2 ∙ ap (λ (i : ℕ). member class i) at ∙ sym y.2)
  ]
]

pub chooses_once : (depth : ℕ) (prefix : List ℕ) (class : Class) (r s : Option Part) (lines : Lines) → Chooses depth prefix class r lines → Chooses depth prefix class s lines → r ≡ s
chooses_once depth prefix class r s lines x y = by_count (length (members_of class) == 1) x y
  where
    by_count : (b : Bool) → MatchBool b (r ≡ Some (member class 0)) (Picks depth prefix class r lines) → MatchBool b (s ≡ Some (member class 0)) (Picks depth prefix class s lines) → r ≡ s
    by_count true x y = x ∙ sym y
    by_count false x y = picks_once depth prefix class r s lines x y

-- what the lines of a text are seen as
pub seen_once : (P Q : Lines → Type 0) (C : Type 0) (text : List ℕ) → ((lines : Lines) → P lines → Q lines → C) → SeenLines text P → SeenLines text Q → C
seen_once P Q C text both x y = both x.0 x.2 (subst (λ (lines : Lines). Q lines) (counted_once text y.0 x.0 y.1 x.1) y.2)

pub seen_picks : (depth : ℕ) (prefix : List ℕ) (class : Class) (r s : Option Part) (text : List ℕ) → SeenLines text (Picks depth prefix class r) → SeenLines text (Picks depth prefix class s) → r ≡ s
seen_picks depth prefix class r s text x y =
    seen_once (Picks depth prefix class r) (Picks depth prefix class s) (r ≡ s) text (λ lines v w. picks_once depth prefix class r s lines v w) x y

pub seen_chooses : (depth : ℕ) (prefix : List ℕ) (class : Class) (r s : Option Part) (text : List ℕ) → SeenLines text (Chooses depth prefix class r) → SeenLines text (Chooses depth prefix class s) → r ≡ s
seen_chooses depth prefix class r s text x y =
    seen_once (Chooses depth prefix class r) (Chooses depth prefix class s) (r ≡ s) text (λ lines v w. chooses_once depth prefix class r s lines v w) x y

-- no trees, and trees behind trees
pub nothing_once : IsOnce Nothing
nothing_once f g text a b x y = (x.0 ∙ sym y.0, x.1 ∙ sym y.1)

pub followed_once : (First : Reading) (Second : Forest → Reading) → IsOnce First → ((f : Forest) → IsOnce (Second f)) → IsOnce (Followed First Second)
followed_once First Second one more f g text a b x y =
    let e = one x.first y.first text x.mid y.mid x.reads y.reads in
    let moved : Second x.first y.later x.mid b
    = subst (λ (t : List ℕ). Second x.first y.later t b) (sym e.1) (subst (λ (h : Forest). Second h y.later y.mid b) (sym e.0) y.goes_on) in
    let o = more x.first x.later y.later x.mid a b x.goes_on moved in
    (x.trees_are ∙ ap (λ (h : Forest). graft h x.later) e.0 ∙ ap (graft y.first) o.0 ∙ sym y.trees_are, o.1)

pub shorter_once : (Read : Reading) → IsOnce Read → IsOnce (Shorter Read)
shorter_once Read once f g text a b x y = once f g text a b x.0 y.0

-- parts that are read in one way
abbrev pub AreOnce : (Part → Reading) → Type 0
AreOnce Parts = (p : Part) → IsOnce (Parts p)

part_as : (Parts : Part → Reading) (p q : Part) (f : Forest) (text rest : List ℕ) → p ≡ q → Parts q f text rest → Parts p f text rest
part_as Parts p q f text rest e x = subst (λ (m : Part). Parts m f text rest) (sym e) x

pub member_once : (depth : ℕ) (prefix : List ℕ) (Parts : Part → Reading) (class : Class) → AreOnce Parts → IsOnce (MemberChosen depth prefix Parts class)
member_once depth prefix Parts class once f g text a b x y =
    let same : Some x.0 ≡ Some y.0 = seen_chooses depth prefix class (Some x.0) (Some y.0) text x.1 y.1 in
    let p : x.0 ≡ y.0 = cc in
    once x.0 f g text a b x.2 (part_as Parts x.0 y.0 g text b p y.2)

pub optional_once : (depth : ℕ) (prefix : List ℕ) (Parts : Part → Reading) (class : Class) → AreOnce Parts → IsOnce (OptionalChosen depth prefix Parts class)
optional_once depth prefix Parts class once f g text a b (None, s, v) (None, t, w) = nothing_once f g text a b v w
optional_once depth prefix Parts class once f g text a b (None, s, v) (Some q, t, w) = let e = seen_picks depth prefix class None (Some q) text s t in cc
optional_once depth prefix Parts class once f g text a b (Some p, s, v) (None, t, w) = let e = seen_picks depth prefix class (Some p) None text s t in cc
optional_once depth prefix Parts class once f g text a b (Some p, s, v) (Some q, t, w) =
    let e : Some p ≡ Some q = seen_picks depth prefix class (Some p) (Some q) text s t in
    let same : p ≡ q = cc in
    once p f g text a b v (part_as Parts p q g text b same w)

many_once : (depth : ℕ) (prefix : List ℕ) (Each : Part → Forest → Reading) (class : Class) → ((p : Part) (before : Forest) → IsOnce (Each p before)) → (n m : ℕ) (before f g : Forest) (text a b : List ℕ) →
    ManyChosen depth prefix Each class n before f text a → ManyChosen depth prefix Each class m before g text b → (f ≡ g) × (a ≡ b)
many_once depth prefix Each class once zero zero before f g text a b x y = nothing_once f g text a b x.1 y.1
many_once depth prefix Each class once zero (suc m) before f g text a b x y = let e = seen_picks depth prefix class None (Some y.0) text x.0 y.1 in cc
many_once depth prefix Each class once (suc n) zero before f g text a b x y = let e = seen_picks depth prefix class (Some x.0) None text x.1 y.0 in cc
many_once depth prefix Each class once (suc n) (suc m) before f g text a b x y =
    let e : Some x.0 ≡ Some y.0 = seen_picks depth prefix class (Some x.0) (Some y.0) text x.1 y.1 in
    let p : y.0 ≡ x.0 = cc in
    let u = x.2 in
    let v = subst (λ (q : Part). Followed (Shorter (Each q before)) (λ first. ManyChosen depth prefix Each class m (graft before first)) g text b) p y.2 in
    let here = once x.0 before u.first v.first text u.mid v.mid u.reads.0 v.reads.0 in
    let behind : ManyChosen depth prefix Each class m (graft before u.first) v.later u.mid b
    = subst (λ (t : List ℕ). ManyChosen depth prefix Each class m (graft before u.first) v.later t b) (sym here.1)
    (subst (λ (h : Forest). ManyChosen depth prefix Each class m (graft before h) v.later v.mid b) (sym here.0) v.goes_on) in
    let o = many_once depth prefix Each class once n m (graft before u.first) u.later v.later u.mid a b u.goes_on behind in
    (u.trees_are ∙ ap (λ (h : Forest). graft h u.later) here.0 ∙ ap (graft v.first) o.0 ∙ sym v.trees_are, o.1)

pub any_once : (depth : ℕ) (prefix : List ℕ) (Each : Part → Forest → Reading) (class : Class) (before : Forest) → ((p : Part) (before : Forest) → IsOnce (Each p before)) → IsOnce (AnyChosen depth prefix Each class before)
any_once depth prefix Each class before once f g text a b x y = many_once depth prefix Each class once x.0 y.0 before f g text a b x.1 y.1

-- the body of an action
pub inlined_once : (Parts : Part → Reading) → AreOnce Parts → IsOnce (InlinedChosen Parts)
inlined_once Parts once f g text a b x y = once part.InlineBody f g text a b x.0 y.0

pub either_once : (Parts : Part → Reading) → AreOnce Parts → IsOnce (EitherChosen Parts)
either_once Parts once f g text a b (inl x) (inl y) = inlined_once Parts once f g text a b x y
either_once Parts once f g text a b (inl x) (inr y) = absurd (y.0 f a x)
either_once Parts once f g text a b (inr x) (inl y) = absurd (x.0 g b y)
either_once Parts once f g text a b (inr x) (inr y) = once part.UserBody f g text a b x.1 y.1

pub body_once : (Parts : Part → Reading) (whose : Parameters) → AreOnce Parts → IsOnce (BodyChosen Parts whose)
body_once Parts parameters.User once = once part.UserBody
body_once Parts parameters.Inlined once = once part.InlineBody
body_once Parts parameters.None once = either_once Parts once

pub class_once : (depth : ℕ) (prefix : List ℕ) (Parts : Part → Reading) (before : List Content) (class : Class) → AreOnce Parts → IsOnce (ClassChosen depth prefix Parts before class)
class_once depth prefix Parts before class_of.ActionBody once = body_once Parts (parameters_of prefix (last_parameter [] before)) once
class_once depth prefix Parts before class once = member_once depth prefix Parts class once

pub pair_once : (depth : ℕ) (prefix : List ℕ) (Parts : Part → Reading) (before : List Content) (second : Class) (p : Part) → AreOnce Parts → IsOnce (PairChosen depth prefix Parts before second p)
pair_once depth prefix Parts before second p once =
    followed_once (Parts p) (λ first. ClassChosen depth prefix Parts (before ++ contents first) second) (once p) (λ first. class_once depth prefix Parts (before ++ contents first) second once)

-- what a step has below
pub below_once : (depth : ℕ) (prefix : List ℕ) (Parts : Part → Reading) (s : Step) (before : List Content) → AreOnce Parts → IsOnce (BelowChosen depth prefix Parts s before)
below_once depth prefix Parts (step.One class) before once = class_once depth prefix Parts before class once
below_once depth prefix Parts (step.Optional class) before once = optional_once depth prefix Parts class once
below_once depth prefix Parts (step.Many class) before once = any_once depth prefix (λ p sofar. Parts p) class bare (λ p sofar. once p)
below_once depth prefix Parts (step.Some class) before once =
    followed_once (ClassChosen depth prefix Parts before class) (λ first. AnyChosen depth prefix (λ p sofar. Parts p) class bare) (class_once depth prefix Parts before class once)
    (λ first. any_once depth prefix (λ p sofar. Parts p) class bare (λ p sofar. once p))
below_once depth prefix Parts (step.Pairs first second) before once =
    any_once depth prefix (λ p sofar. PairChosen depth prefix Parts (before ++ contents sofar) second p) first bare (λ p sofar. pair_once depth prefix Parts (before ++ contents sofar) second p once)
below_once depth prefix Parts _ before once = nothing_once

-- a step, and steps
abbrev pub BelowOnce : (Step → List Content → Reading) → Type 0
BelowOnce Below = (s : Step) (before : List Content) → IsOnce (Below s before)

pub step_once : (Below : Step → List Content → Reading) (prefix : List ℕ) (p : Part) (count : ℕ) (before : List Content) (l : template.Line) (old : Told) → BelowOnce Below → IsToldOnce (StepChosen Below prefix p count before l old)
step_once Below prefix p count before l old once s t f g text a b x y =
    let own = own_once prefix p count l.1 l.0 old s t text x.own y.own x.tells y.tells in
    let r = once l.0 before f g x.own a b x.reads (subst (λ (o : List ℕ). Below l.0 before g o b) (sym own.1) y.reads) in
    (own.0, r.0, r.1)

pub steps_once : (Below : Step → List Content → Reading) (prefix : List ℕ) (p : Part) (before : Forest) (steps : List template.Line) (old : Told) → BelowOnce Below → IsToldOnce (StepsChosen Below prefix p before steps old)
steps_once Below prefix p before [] old once s t f g text a b x y = let r = nothing_once f g text a b x.1 y.1 in (x.0 ∙ sym y.0, r.0, r.1)
steps_once Below prefix p before (l ∷ steps) old once s t f g text a b x y =
    let u = x.1 in
    let v = y.1 in
    let e = step_once Below prefix p (tree_count before) (contents before) l old once x.0 y.0 u.first v.first text u.mid v.mid u.reads v.reads in
    let behind : StepsChosen Below prefix p (graft before u.first) steps x.0 t v.later u.mid b
    = subst (λ (o : Told). StepsChosen Below prefix p (graft before u.first) steps o t v.later u.mid b) (sym e.0)
    (subst (λ (r : List ℕ). StepsChosen Below prefix p (graft before u.first) steps y.0 t v.later r b) (sym e.2)
    (subst (λ (h : Forest). StepsChosen Below prefix p (graft before h) steps y.0 t v.later v.mid b) (sym e.1) v.goes_on)) in
    let o = steps_once Below prefix p (graft before u.first) steps x.0 once s t u.later v.later u.mid a b u.goes_on behind in
    (o.0, u.trees_are ∙ ap (λ (h : Forest). graft h u.later) e.1 ∙ ap (graft v.first) o.1 ∙ sym v.trees_are, o.2)

-- a part, and a program
pub part_steps_once : (depth : ℕ) (prefix : List ℕ) (Parts : Part → Reading) (p : Part) → AreOnce Parts → IsToldOnce (PartSteps depth prefix Parts p)
part_steps_once depth prefix Parts p once =
    steps_once (BelowChosen depth prefix Parts) prefix p bare (steps_of p) untold (λ s before. below_once depth prefix Parts s before once)

pub part_once : (depth : ℕ) (prefix : List ℕ) → AreOnce (PartChosen depth prefix)
unfolding PartChosen
part_once zero prefix p f g text a b x y = absurd x
part_once (suc depth) prefix p f g text a b x y =
    let r = part_steps_once depth prefix (PartChosen depth prefix) p (part_once depth prefix) x.0 y.0 x.1 y.1 text a b x.4 y.4 in
    (x.2 ∙ ap (λ (t : Told). tree (grown p t) x.1 bare) r.0 ∙ ap (λ (h : Forest). tree (grown p y.0) h bare) r.1 ∙ sym y.2, r.2)

pub whole_once : (prefix : List ℕ) → IsOnce (WholeChosen prefix)
whole_once prefix f g text a b x y = part_once 16 prefix part.Program f g text a b x.0 y.0
