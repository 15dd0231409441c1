-- Trees that are chosen are read.
use Rattle.std.proofs.Common.{◌≡◌, ℕ, zero, suc, ◌<◌, ◌≤◌, ◌==◌, Bool, true, false, inl, inr, ⊎_elim, List, [], ◌∷◌, ◌++◌, length, get_or, Some, None, refl, sym, ap, ◌∙◌, arith, append_assoc, append-nil, subst}
use Rattle.std.specs.Bool.{MatchBool}
use Rattle.std.proofs.lemmas.Bool.{cases_lt, eqb-true, false≢true}
use Rattle.std.proofs.lemmas.List.{get_or_append_left, get_or_default, nil_from_length}
use Rattle.lp_form.specs.Classes.{members_of}
use Rattle.lp_form.specs.Templates.{Piece, steps_of, holes_of}
use Rattle.lp_form.specs.Templates as template
use Rattle.lp_form.specs.declared.class.Class.{Class}
use Rattle.lp_form.specs.declared.class.Class.TheVariants as class_of
use Rattle.lp_form.specs.declared.part.Part.{Part}
use Rattle.lp_form.specs.declared.part.Part.TheVariants as part
use Rattle.lp_form.specs.declared.template.Step.{Step}
use Rattle.lp_form.specs.declared.template.Step.TheVariants as step
use Rattle.lp_spelling.specs.Fillings.{Fills}
use Rattle.lp_spelling.specs.Lines.{line_of}
use Rattle.lp_spelling.specs.LineReading.{kind_of}
use Rattle.lp_spelling.proofs.Reading.{line_extends}
use Rattle.lp_spelling.proofs.Spelled.{line_stays}
use Rattle.lp_program.specs.declared.read.reader.Parameters.{Parameters}
use Rattle.lp_program.specs.declared.read.reader.Parameters.TheVariants as parameters
use Rattle.lp_program.specs.Adding.{IsPart, IsPair, MayHave}
use Rattle.lp_program.specs.Begins.{Lines, member}
use Rattle.lp_program.specs.CodeReading.{IsUse, IsCode}
use Rattle.lp_program.specs.Looking.{Picks, Chooses}
use Rattle.lp_program.specs.OwnLines.{hole}
use Rattle.lp_program.specs.Parameters.{last_parameter, parameters_of}
use Rattle.lp_program.specs.Printed.{is_member}
use Rattle.lp_program.specs.Reads.{graft, hole_count, parts_in, KindsFill, TakesLine, TakesLines, TakesOwn, Reads}
use Rattle.lp_program.specs.Reads.Reads.{no_tree, one_tree, no_step, one_step}
use Rattle.lp_program.specs.Reads.Task.{trees, steps}
use Rattle.lp_program.specs.Choosing.{Reading, Nothing, contents, MemberChosen, OptionalChosen, ManyChosen, AnyChosen, EitherChosen, BodyChosen, ClassChosen, PairChosen, BelowChosen, StepsChosen, grown, PartChosen}
use Rattle.lp_program.specs.Telling.{Told, untold, TellsLine, TellsLines, TellsText, TellsOwn}
use Rattle.lp_program.specs.Trees.{Content, Forest, tree_count}
use Rattle.lp_program.specs.Trees.Forest.{bare, tree}
use Rattle.lp_program.proofs.Adding.{one_may, optional_may, many_may, some_may, pair_may, pairs_may}
use Rattle.lp_program.proofs.Grafts.{graft_bare, parts_graft, reads_then}
use Rattle.lp_program.proofs.Looking.{inline_body, member_at, user_body}
use Rattle.lp_program.proofs.Parts.{count_graft}
use Rattle.lp_program.proofs.Spelled.{line_spelled}

-- contents that hold what is told so far, and perhaps more
pub record MayHold (t : Told) (c : Content) : Type 0 where
  pub more : List (List ℕ)
  pub holes_are : c.holes ≡ t.holes ++ more
  pub numbers_are : t.tabled ≡ true → c.numbers ≡ t.numbers

-- each hole that is told holds what it may
abbrev pub ToldFill : List ℕ → Part → Told → Type 0
ToldFill prefix p t = (k : ℕ) → k < length t.holes → k < length (holes_of p) → Fills prefix (kind_of (holes_of p) k) (get_or t.holes k [])

-- what a step tells, and what holds it: the step takes it off the text, and it holds what was told before
pub record OwnHeld (prefix : List ℕ) (p : Part) (count : ℕ) (pieces : List Piece) (s : Step) (old : Told) (c : Content) (text rest : List ℕ) : Type 0 where
  pub takes : TakesOwn prefix c count pieces s text rest
  pub before : MayHold old c

-- a line
line_before : (prefix : List ℕ) (p : Part) (pieces : List Piece) (old new : Told) (c : Content) (text rest : List ℕ) → TellsLine prefix (holes_of p) pieces old new text rest → MayHold new c → MayHold old c
line_before prefix p pieces old new c text rest t h =
    let e = line_extends prefix (holes_of p) pieces old.holes t.line new.holes t.reads in
    let tabled : new.tabled ≡ old.tabled = ap (λ (o : Told). o.tabled) t.others in
    let numbers : new.numbers ≡ old.numbers = ap (λ (o : Told). o.numbers) t.others in
    record {
      more = e.0 ++ h.more;
      holes_are = h.holes_are ∙ ap (λ (x : List (List ℕ)). x ++ h.more) e.1 ∙ append_assoc old.holes e.0 h.more;
      numbers_are = λ x. h.numbers_are (tabled ∙ x) ∙ numbers;
    }

line_takes : (prefix : List ℕ) (p : Part) (pieces : List Piece) (old new : Told) (c : Content) (text rest : List ℕ) → TellsLine prefix (holes_of p) pieces old new text rest → MayHold new c →
    TakesLine (line_of prefix c.holes pieces) text rest
line_takes prefix p pieces old new c text rest t h =
    let s = line_spelled prefix (holes_of p) pieces old.holes t.line new.holes t.reads in
    let e : t.line ≡ line_of prefix c.holes pieces = s.0 ∙ sym (line_stays prefix new.holes h.more pieces s.1) ∙ ap (λ (x : List (List ℕ)). line_of prefix x pieces) (sym h.holes_are) in
    record { some = t.takes.some; line_is = t.takes.line_is ∙ e; rest_is = t.takes.rest_is }

line_fills : (prefix : List ℕ) (p : Part) (pieces : List Piece) (old new : Told) (text rest : List ℕ) → TellsLine prefix (holes_of p) pieces old new text rest → ToldFill prefix p old → ToldFill prefix p new
line_fills prefix p pieces old new text rest t f k lt in_kinds =
    let e = line_extends prefix (holes_of p) pieces old.holes t.line new.holes t.reads in
    ⊎_elim
    (λ (small : k < length old.holes).
    let same : get_or new.holes k [] ≡ get_or old.holes k [] = ap (λ (y : List (List ℕ)). get_or y k []) e.1 ∙ get_or_append_left old.holes e.0 [] k small in
    subst (λ (y : List ℕ). Fills prefix (kind_of (holes_of p) k) y) (sym same) (f k small in_kinds))
    (λ (large : length old.holes ≤ k). t.fills k large lt)
    (cases_lt k (length old.holes))

-- lines of one spelling
lines_before : (n : ℕ) (prefix : List ℕ) (p : Part) (pieces : List Piece) (old new : Told) (c : Content) (text rest : List ℕ) → TellsLines n prefix (holes_of p) pieces old new text rest → MayHold new c → MayHold old c
lines_before zero prefix p pieces old new c text rest t h = subst (λ (o : Told). MayHold o c) t.0 h
lines_before (suc n) prefix p pieces old new c text rest t h = line_before prefix p pieces old t.0 c text t.1 t.2 (lines_before n prefix p pieces t.0 new c t.1 rest t.3 h)

lines_take : (n : ℕ) (prefix : List ℕ) (p : Part) (pieces : List Piece) (old new : Told) (c : Content) (text rest : List ℕ) → TellsLines n prefix (holes_of p) pieces old new text rest → MayHold new c →
    TakesLines n (line_of prefix c.holes pieces) text rest
lines_take zero prefix p pieces old new c text rest t h = t.1
lines_take (suc n) prefix p pieces old new c text rest t h =
    (t.1, line_takes prefix p pieces old t.0 c text t.1 t.2 (lines_before n prefix p pieces t.0 new c t.1 rest t.3 h), lines_take n prefix p pieces t.0 new c t.1 rest t.3 h)

lines_fill : (n : ℕ) (prefix : List ℕ) (p : Part) (pieces : List Piece) (old new : Told) (text rest : List ℕ) → TellsLines n prefix (holes_of p) pieces old new text rest → ToldFill prefix p old → ToldFill prefix p new
lines_fill zero prefix p pieces old new text rest t f = subst (λ (o : Told). ToldFill prefix p o) (sym t.0) f
lines_fill (suc n) prefix p pieces old new text rest t f = lines_fill n prefix p pieces t.0 new t.1 rest t.3 (line_fills prefix p pieces old t.0 text t.1 t.2 f)

-- a text of its own
text_hole : (p : Part) (IsText : List ℕ → List ℕ → Type 0) (old new : Told) (c : Content) (rest : List ℕ) (t : TellsText p IsText old new rest) → MayHold new c → hole c 0 ≡ t.text
text_hole p IsText old new c rest t h = ap (λ (x : List (List ℕ)). get_or x 0 []) (h.holes_are ∙ ap (λ (o : Told). o.holes ++ h.more) t.new_is)

text_before : (p : Part) (IsText : List ℕ → List ℕ → Type 0) (old new : Told) (c : Content) (rest : List ℕ) → TellsText p IsText old new rest → MayHold new c → MayHold old c
text_before p IsText old new c rest t h =
    let none : old.holes ≡ [] = nil_from_length old.holes t.first in
    record {
      more = c.holes;
      holes_are = ap (λ (x : List (List ℕ)). x ++ c.holes) (sym none);
      numbers_are = λ x. h.numbers_are (ap (λ (o : Told). o.tabled) t.new_is ∙ x) ∙ ap (λ (o : Told). o.numbers) t.new_is;
    }

text_fills : (prefix : List ℕ) (p : Part) (IsText : List ℕ → List ℕ → Type 0) (old new : Told) (rest : List ℕ) → TellsText p IsText old new rest → ToldFill prefix p new
text_fills prefix p IsText old new rest t k lt in_kinds = absurd (omega (arith, t.bare, in_kinds))

-- a step itself
pub own_held : (prefix : List ℕ) (p : Part) (count : ℕ) (pieces : List Piece) (s : Step) (old new : Told) (c : Content) (text rest : List ℕ) → TellsOwn prefix p count pieces s old new text rest → MayHold new c →
    OwnHeld prefix p count pieces s old c text rest
own_held prefix p count pieces (step.Line blanks) old new c text rest t h =
    record { takes = line_takes prefix p pieces old new c text rest t h; before = line_before prefix p pieces old new c text rest t h }
own_held prefix p count pieces (step.Each blanks) old new c text rest t h =
    record { takes = lines_take count prefix p pieces old new c text rest t h; before = lines_before count prefix p pieces old new c text rest t h }
own_held prefix p count pieces step.Use old new c text rest t h = record {
  takes = subst (λ (x : List ℕ). IsUse text x rest) (sym (text_hole p (IsUse text) old new c rest t h)) t.is_text;
  before = text_before p (IsUse text) old new c rest t h;
}
own_held prefix p count pieces step.Code old new c text rest t h = record {
  takes = subst (λ (x : List ℕ). IsCode text x rest) (sym (text_hole p (IsCode text) old new c rest t h)) t.is_text;
  before = text_before p (IsCode text) old new c rest t h;
}
own_held prefix p count pieces step.Entries old new c text rest t h =
    let tabled : new.tabled ≡ true = ap (λ (o : Told). o.tabled) t.new_is in
    record {
      takes = t.reads ∙ ap (λ x. Some (x, rest)) (sym (h.numbers_are tabled));
      before = record {
        more = h.more;
        holes_are = h.holes_are ∙ ap (λ (o : Told). o.holes ++ h.more) t.new_is;
        numbers_are = λ x. absurd (false≢true (sym t.first ∙ x));
      };
    }
own_held prefix p count pieces _ old new c text rest t h = record { takes = t.1; before = subst (λ (o : Told). MayHold o c) t.0 h }

pub own_fills : (prefix : List ℕ) (p : Part) (count : ℕ) (pieces : List Piece) (s : Step) (old new : Told) (text rest : List ℕ) → TellsOwn prefix p count pieces s old new text rest → ToldFill prefix p old → ToldFill prefix p new
own_fills prefix p count pieces (step.Line blanks) old new text rest t f = line_fills prefix p pieces old new text rest t f
own_fills prefix p count pieces (step.Each blanks) old new text rest t f = lines_fill count prefix p pieces old new text rest t f
own_fills prefix p count pieces step.Use old new text rest t f = text_fills prefix p (IsUse text) old new rest t
own_fills prefix p count pieces step.Code old new text rest t f = text_fills prefix p (IsCode text) old new rest t
own_fills prefix p count pieces step.Entries old new text rest t f = subst (λ (o : Told). ToldFill prefix p o) (sym t.new_is) f
own_fills prefix p count pieces _ old new text rest t f = subst (λ (o : Told). ToldFill prefix p o) (sym t.0) f

-- trees that are read, whose parts may stand so
pub record TreesRead (prefix : List ℕ) (may : List Part → Type 0) (f : Forest) (text rest : List ℕ) : Type 0 where
  pub fits : may (parts_in f)
  pub reads : Reads prefix (trees f) text rest

abbrev pub IsReading : List ℕ → (List Part → Type 0) → Reading → Type 0
IsReading prefix may Read = (f : Forest) (text rest : List ℕ) → Read f text rest → TreesRead prefix may f text rest

pub reads_as : (prefix : List ℕ) (may wide : List Part → Type 0) (f : Forest) (text rest : List ℕ) → ((ps : List Part) → may ps → wide ps) → TreesRead prefix may f text rest → TreesRead prefix wide f text rest
reads_as prefix may wide f text rest to x = record { fits = to (parts_in f) x.fits; reads = x.reads }

pub reads_nothing : (prefix : List ℕ) (may : List Part → Type 0) (f : Forest) (text rest : List ℕ) → may [] → Nothing f text rest → TreesRead prefix may f text rest
reads_nothing prefix may f text rest h x =
    subst (λ (g : Forest). TreesRead prefix may g text rest) (sym x.0) (subst (λ (r : List ℕ). TreesRead prefix may bare text r) (sym x.1) (record { fits = h; reads = no_tree text }))

pub reads_both : (prefix : List ℕ) (may many all : List Part → Type 0) (f g : Forest) (text mid rest : List ℕ) → ((ps qs : List Part) → may ps → many qs → all (ps ++ qs)) → TreesRead prefix may f text mid → TreesRead prefix many g mid rest →
    TreesRead prefix all (graft f g) text rest
reads_both prefix may many all f g text mid rest both x y = record {
  fits = subst all (sym (parts_graft f g)) (both (parts_in f) (parts_in g) x.fits y.fits);
  reads = reads_then prefix f g text mid rest x.reads y.reads;
}

-- steps of a part
abbrev pub BelowReads : List ℕ → (Step → List Content → Reading) → Type 0
BelowReads prefix Has = (s : Step) (before : List Content) → IsReading prefix (MayHave s) (Has s before)

pub record StepsHeld (prefix : List ℕ) (before : Forest) (ss : List template.Line) (old : Told) (c : Content) (f : Forest) (text rest : List ℕ) : Type 0 where
  pub reads : Reads prefix (steps c (tree_count before) ss f) text rest
  pub holds : MayHold old c

pub steps_held : (Has : Step → List Content → Reading) (prefix : List ℕ) (p : Part) (before : Forest) (ss : List template.Line) (old new : Told) (c : Content) (f : Forest) (text rest : List ℕ) → BelowReads prefix Has →
    StepsChosen Has prefix p before ss old new f text rest → MayHold new c → StepsHeld prefix before ss old c f text rest
steps_held Has prefix p before [] old new c f text rest has x h = record {
  reads = subst (λ (g : Forest). Reads prefix (steps c (tree_count before) [] g) text rest) (sym x.1.0)
      (subst (λ (r : List ℕ). Reads prefix (steps c (tree_count before) [] bare) text r) (sym x.1.1) (no_step c (tree_count before) text));
  holds = subst (λ (o : Told). MayHold o c) x.0 h;
}
steps_held Has prefix p before (s ∷ ss) old new c f text rest has x h =
    let y = x.1 in
    let later = steps_held Has prefix p (graft before y.first) ss x.0 new c y.later y.mid rest has y.goes_on h in
    let own = own_held prefix p (tree_count before) s.1 s.0 old x.0 c text y.reads.own y.reads.tells later.holds in
    let below = has s.0 (contents before) y.first y.reads.own y.mid y.reads.reads in
    let next = subst (λ n. Reads prefix (steps c n ss y.later) y.mid rest) (count_graft before y.first) later.reads in
    record {
      reads = subst (λ (g : Forest). Reads prefix (steps c (tree_count before) (s ∷ ss) g) text rest) (sym y.trees_are)
          (one_step c (tree_count before) s ss y.first y.later text y.reads.own y.mid rest below.fits own.takes below.reads next);
      holds = own.before;
    }

pub steps_fill : (Has : Step → List Content → Reading) (prefix : List ℕ) (p : Part) (before : Forest) (ss : List template.Line) (old new : Told) (f : Forest) (text rest : List ℕ) →
    StepsChosen Has prefix p before ss old new f text rest → ToldFill prefix p old → ToldFill prefix p new
steps_fill Has prefix p before [] old new f text rest x h = subst (λ (o : Told). ToldFill prefix p o) (sym x.0) h
steps_fill Has prefix p before (s ∷ ss) old new f text rest x h =
    let y = x.1 in
    steps_fill Has prefix p (graft before y.first) ss x.0 new y.later y.mid rest y.goes_on (own_fills prefix p (tree_count before) s.1 s.0 old x.0 text y.reads.own y.reads.tells h)

pub none_fill : (prefix : List ℕ) (p : Part) → ToldFill prefix p untold
none_fill prefix p k lt in_kinds = absurd (omega (arith, lt))

-- a part of a class
pub picked_member : (depth : ℕ) (prefix : List ℕ) (class : Class) (p : Part) (lines : Lines) → Picks depth prefix class (Some p) lines → is_member class p ≡ true
picked_member depth prefix class p lines x = member_at class (members_of class) x.0 p refl x.1 (x.2 ∙ get_or_default (members_of class) x.0 part.Program p x.1)

pub chosen_member : (depth : ℕ) (prefix : List ℕ) (class : Class) (p : Part) (lines : Lines) → Chooses depth prefix class (Some p) lines → is_member class p ≡ true
chosen_member depth prefix class p lines x = by_count (length (members_of class) == 1) refl x
  where
    by_count : (b : Bool) → (length (members_of class) == 1) ≡ b → MatchBool b (Some p ≡ Some (member class 0)) (Picks depth prefix class (Some p) lines) → is_member class p ≡ true
    by_count true one y =
        let e : p ≡ member class 0 = cc in
        let size = eqb-true (length (members_of class)) 1 one in
        member_at class (members_of class) 0 p refl (omega (arith, size)) (e ∙ get_or_default (members_of class) 0 part.Program p (omega (arith, size)))
    by_count false one y = picked_member depth prefix class p lines y

-- what each part reads
abbrev pub PartsRead : List ℕ → (Part → Reading) → Type 0
PartsRead prefix Parts = (p : Part) → IsReading prefix (IsPart p) (Parts p)

member_reads : (depth : ℕ) (prefix : List ℕ) (Parts : Part → Reading) (class : Class) → PartsRead prefix Parts → IsReading prefix (MayHave (step.One class)) (MemberChosen depth prefix Parts class)
member_reads depth prefix Parts class all f text rest x =
    reads_as prefix (IsPart x.0) (MayHave (step.One class)) f text rest (one_may class x.0 (chosen_member depth prefix class x.0 x.1.0 x.1.2)) (all x.0 f text rest x.2)

body_part : (prefix : List ℕ) (Parts : Part → Reading) (p : Part) → is_member class_of.ActionBody p ≡ true → PartsRead prefix Parts → IsReading prefix (MayHave (step.One class_of.ActionBody)) (Parts p)
body_part prefix Parts p m all f text rest x = reads_as prefix (IsPart p) (MayHave (step.One class_of.ActionBody)) f text rest (one_may class_of.ActionBody p m) (all p f text rest x)

either_reads : (prefix : List ℕ) (Parts : Part → Reading) → PartsRead prefix Parts → IsReading prefix (MayHave (step.One class_of.ActionBody)) (EitherChosen Parts)
either_reads prefix Parts all f text rest (inl x) = body_part prefix Parts part.InlineBody inline_body all f text rest x.0
either_reads prefix Parts all f text rest (inr x) = body_part prefix Parts part.UserBody user_body all f text rest x.1

body_reads : (prefix : List ℕ) (Parts : Part → Reading) (whose : Parameters) → PartsRead prefix Parts → IsReading prefix (MayHave (step.One class_of.ActionBody)) (BodyChosen Parts whose)
body_reads prefix Parts parameters.User all = body_part prefix Parts part.UserBody user_body all
body_reads prefix Parts parameters.Inlined all = body_part prefix Parts part.InlineBody inline_body all
body_reads prefix Parts parameters.None all = either_reads prefix Parts all

pub class_reads : (depth : ℕ) (prefix : List ℕ) (Parts : Part → Reading) (before : List Content) (class : Class) → PartsRead prefix Parts → IsReading prefix (MayHave (step.One class)) (ClassChosen depth prefix Parts before class)
class_reads depth prefix Parts before class_of.ActionBody all = body_reads prefix Parts (parameters_of prefix (last_parameter [] before)) all
class_reads depth prefix Parts before class all = member_reads depth prefix Parts class all

optional_reads : (depth : ℕ) (prefix : List ℕ) (Parts : Part → Reading) (class : Class) → PartsRead prefix Parts → IsReading prefix (MayHave (step.Optional class)) (OptionalChosen depth prefix Parts class)
optional_reads depth prefix Parts class all f text rest (None, seen, x) = reads_nothing prefix (MayHave (step.Optional class)) f text rest refl x
optional_reads depth prefix Parts class all f text rest (Some p, seen, x) =
    reads_as prefix (IsPart p) (MayHave (step.Optional class)) f text rest (optional_may class p (picked_member depth prefix class p seen.0 seen.2)) (all p f text rest x)

-- as many as there are
abbrev EachReads : List ℕ → Class → (Part → Forest → Reading) → (Part → List Part → Type 0) → Type 0
EachReads prefix class Each one = (p : Part) → is_member class p ≡ true → (before : Forest) → IsReading prefix (one p) (Each p before)

abbrev Gathers : Class → (Part → List Part → Type 0) → (List Part → Type 0) → Type 0
Gathers class one all = (p : Part) → is_member class p ≡ true → (ps qs : List Part) → all ps → one p qs → all (ps ++ qs)

many_reads : (depth : ℕ) (prefix : List ℕ) (Each : Part → Forest → Reading) (class : Class) (one : Part → List Part → Type 0) (all : List Part → Type 0) (n : ℕ) (before sofar f : Forest) (start text rest : List ℕ) → EachReads prefix class Each one →
    Gathers class one all → TreesRead prefix all sofar start text → ManyChosen depth prefix Each class n before f text rest → TreesRead prefix all (graft sofar f) start rest
many_reads depth prefix Each class one all zero before sofar f start text rest each gathers y x =
    subst (λ (r : List ℕ). TreesRead prefix all (graft sofar f) start r) (sym x.1.1)
    (subst (λ (g : Forest). TreesRead prefix all g start text) (sym (ap (graft sofar) x.1.0 ∙ graft_bare sofar)) y)
many_reads depth prefix Each class one all (suc n) before sofar f start text rest each gathers y x =
    let m = picked_member depth prefix class x.0 x.1.0 x.1.2 in
    let z = x.2 in
    let first = each x.0 m before z.first text z.mid z.reads.0 in
    let more = reads_both prefix all (one x.0) all sofar z.first start text z.mid (gathers x.0 m) y first in
    subst (λ (g : Forest). TreesRead prefix all g start rest) (many_graft sofar z.first z.later ∙ ap (graft sofar) (sym z.trees_are))
    (many_reads depth prefix Each class one all n (graft before z.first) (graft sofar z.first) z.later start z.mid rest each gathers more z.goes_on)
  where
    many_graft : (a b c : Forest) → graft (graft a b) c ≡ graft a (graft b c)
    many_graft bare b c = refl
    many_graft (tree d below after) b c = ap (tree d below) (many_graft after b c)

any_reads : (depth : ℕ) (prefix : List ℕ) (Each : Part → Forest → Reading) (class : Class) (one : Part → List Part → Type 0) (all : List Part → Type 0) → EachReads prefix class Each one → Gathers class one all → all [] →
    IsReading prefix all (AnyChosen depth prefix Each class bare)
any_reads depth prefix Each class one all each gathers none f text rest x =
    many_reads depth prefix Each class one all x.0 bare bare f text text rest each gathers (record { fits = none; reads = no_tree text }) x.1

pub parts_read : (depth : ℕ) (prefix : List ℕ) (Parts : Part → Reading) (class : Class) → PartsRead prefix Parts → IsReading prefix (MayHave (step.Many class)) (AnyChosen depth prefix (λ p sofar. Parts p) class bare)
parts_read depth prefix Parts class all = any_reads depth prefix (λ p sofar. Parts p) class IsPart (MayHave (step.Many class)) (λ p m before. all p) (λ p m. many_may class p m) refl

pub pair_reads : (depth : ℕ) (prefix : List ℕ) (Parts : Part → Reading) (before : List Content) (second : Class) (p : Part) → PartsRead prefix Parts → IsReading prefix (IsPair p second) (PairChosen depth prefix Parts before second p)
pair_reads depth prefix Parts before second p all f text rest x =
    subst (λ (g : Forest). TreesRead prefix (IsPair p second) g text rest) (sym x.trees_are)
    (reads_both prefix (IsPart p) (MayHave (step.One second)) (IsPair p second) x.first x.later text x.mid rest (pair_may p second) (all p x.first text x.mid x.reads)
    (class_reads depth prefix Parts (before ++ contents x.first) second all x.later x.mid rest x.goes_on))

-- what a step has below
pub below_reads : (depth : ℕ) (prefix : List ℕ) (Parts : Part → Reading) → PartsRead prefix Parts → BelowReads prefix (BelowChosen depth prefix Parts)
below_reads depth prefix Parts all (step.One class) before = class_reads depth prefix Parts before class all
below_reads depth prefix Parts all (step.Optional class) before = optional_reads depth prefix Parts class all
below_reads depth prefix Parts all (step.Many class) before = parts_read depth prefix Parts class all
below_reads depth prefix Parts all (step.Some class) before = λ f text rest x.
    subst (λ (g : Forest). TreesRead prefix (MayHave (step.Some class)) g text rest) (sym x.trees_are)
    (reads_both prefix (MayHave (step.One class)) (MayHave (step.Many class)) (MayHave (step.Some class)) x.first x.later text x.mid rest (some_may class)
    (class_reads depth prefix Parts before class all x.first text x.mid x.reads) (parts_read depth prefix Parts class all x.later x.mid rest x.goes_on))
below_reads depth prefix Parts all (step.Pairs first second) before =
    any_reads depth prefix (λ p sofar. PairChosen depth prefix Parts (before ++ contents sofar) second p) first (λ p. IsPair p second) (MayHave (step.Pairs first second))
    (λ p m sofar. pair_reads depth prefix Parts (before ++ contents sofar) second p all) (λ p m. pairs_may first second p m) refl
below_reads depth prefix Parts all step.Use before = λ f text rest x. reads_nothing prefix (MayHave step.Use) f text rest refl x
below_reads depth prefix Parts all step.Code before = λ f text rest x. reads_nothing prefix (MayHave step.Code) f text rest refl x
below_reads depth prefix Parts all step.Entries before = λ f text rest x. reads_nothing prefix (MayHave step.Entries) f text rest refl x
below_reads depth prefix Parts all step.Empty before = λ f text rest x. reads_nothing prefix (MayHave step.Empty) f text rest refl x
below_reads depth prefix Parts all step.Note before = λ f text rest x. reads_nothing prefix (MayHave step.Note) f text rest refl x
below_reads depth prefix Parts all step.NoteAlways before = λ f text rest x. reads_nothing prefix (MayHave step.NoteAlways) f text rest refl x
below_reads depth prefix Parts all (step.Line blanks) before = λ f text rest x. reads_nothing prefix (MayHave (step.Line blanks)) f text rest refl x
below_reads depth prefix Parts all (step.Each blanks) before = λ f text rest x. reads_nothing prefix (MayHave (step.Each blanks)) f text rest refl x

-- a part with all below it
pub part_reads : (depth : ℕ) (prefix : List ℕ) → PartsRead prefix (PartChosen depth prefix)
unfolding PartChosen
part_reads zero prefix p f text rest x = absurd x
part_reads (suc depth) prefix p f text rest x =
    let t : Told = x.0 in
    let c : Content = grown p t in
    let holds : MayHold t c = record { more = []; holes_are = sym (append-nil t.holes); numbers_are = λ y. refl } in
    let below = below_reads depth prefix (PartChosen depth prefix) (part_reads depth prefix) in
    let inner = steps_held (BelowChosen depth prefix (PartChosen depth prefix)) prefix p bare (steps_of p) untold t c x.1 text rest below x.4 holds in
    let told = steps_fill (BelowChosen depth prefix (PartChosen depth prefix)) prefix p bare (steps_of p) untold t x.1 text rest x.4 (none_fill prefix p) in
    let fills : KindsFill prefix p c.holes = λ k lt. told k (within p t.holes k x.3 lt) lt in
    subst (λ (g : Forest). TreesRead prefix (IsPart p) g text rest) (sym x.2)
    (record { fits = refl; reads = one_tree c x.1 bare text rest rest x.3 fills inner.reads (no_tree rest) })
  where
    within : (p : Part) (holes : List (List ℕ)) (k : ℕ) → length holes ≡ hole_count p → k < length (holes_of p) → k < length holes
    within p holes k e l = omega (arith, e, l)
