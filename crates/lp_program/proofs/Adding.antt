-- What a reader adds, one thing after another.
use Rattle.std.proofs.Common.{◌≡◌, ℕ, ◌+◌, ◌-◌, ◌<◌, ◌≤◌, Bool, true, false, ◌&&◌, ◌==◌, ltb, List, [], ◌∷◌, ◌++◌, length, take, drop, get_or, set, refl, sym, ap, ◌∙◌, arith, append_assoc, append-nil, length-append, take-append-drop, subst}
use Rattle.std.specs.List.{list_all}
use Rattle.std.proofs.Math.Seq.{set-append_seam, get_or-append_seam}
use Rattle.std.proofs.lemmas.Bool.{and_parts, and_from, eqb-true, false≢true, lt-ltb}
use Rattle.std.proofs.lemmas.List.{drop_at, get_or-map, length-map}
use Rattle.lp_form.specs.Templates.{steps_of}
use Rattle.lp_form.specs.Templates as template
use Rattle.lp_form.specs.declared.class.Class.{Class}
use Rattle.lp_form.specs.declared.part.Part.{Part}
use Rattle.lp_form.specs.declared.part.Part.TheVariants as part
use Rattle.lp_form.specs.declared.template.Step.{Step}
use Rattle.lp_form.specs.declared.template.Step.TheVariants as step
use Rattle.lp_spelling.specs.Counting.{settled}
use Rattle.lp_spelling.specs.Cursors.{left}
use Rattle.lp_tree.specs.declared.tree.Entry.{Entry}
use Rattle.lp_tree.specs.declared.tree.Program.{Program}
use Rattle.lp_program.specs.declared.read.growing.Growing.{Growing}
use Rattle.lp_program.specs.declared.read.reader.Reader.{Reader}
use Rattle.lp_program.specs.Adding.{Added, Extends, SamePlace, IsPart, IsPair, MayHave, Brings, Reread, kids, OwnTaken, StepBrings, StepsBring, Opened, FilledAt, WholeRead, AllFilled, AllRead}
use Rattle.lp_program.specs.Growing.{IsFilled}
use Rattle.lp_program.specs.Printed.{is_member}
use Rattle.lp_program.specs.Reads.{graft, parts_in, may_have, are_pairs, hole_count, is_prefix, IsProgram, Reads, ReadsAs}
use Rattle.lp_program.specs.Reads.Task.{trees}
use Rattle.lp_program.specs.Trees.{Content, content, Forest, forest, whole, tree_count}
use Rattle.lp_program.specs.Trees.Forest.{bare, tree}
use Rattle.lp_program.proofs.Forests.{forest-none, forest-first}
use Rattle.lp_program.proofs.Grafts.{parts_graft, holds_alone, holds_tree}
use Rattle.lp_program.proofs.Stepping.{HeldStep}
use Rattle.lp_program.proofs.Parts.{added_none, added_then, part_tree, steps_read, SoFar, so_far_start, so_far_step}

-- readers with more and more parts
pub extends_none : (r : Reader) → Extends r r
extends_none r = record { prefix_is = refl; more = []; entries_are = sym (append-nil r.entries.items) }

pub extends_then : (a b c : Reader) → Extends a b → Extends b c → Extends a c
extends_then a b c f g = record {
  prefix_is = g.prefix_is ∙ f.prefix_is;
  more = f.more ++ g.more;
  entries_are = g.entries_are ∙ ap (λ x. x ++ g.more) f.entries_are ∙ append_assoc a.entries.items f.more g.more;
}

pub extends_same : (a b : Reader) → SamePlace a b → Extends a b
extends_same a b s = record { prefix_is = s.prefix_is; more = []; entries_are = s.entries_are ∙ sym (append-nil a.entries.items) }

-- a reader that is back at a place, with the parts that it had there
pub same_then : (a b c : Reader) → SamePlace a b → SamePlace b c → SamePlace a c
same_then a b c f g = record { prefix_is = g.prefix_is ∙ f.prefix_is; cursor_is = g.cursor_is ∙ f.cursor_is; looked = omega (arith, f.looked, g.looked); entries_are = g.entries_are ∙ f.entries_are }

-- nothing is there, and nothing has to be; or what has to be there isn't
pub brings_none : (may : List Part → Type 0) (a b : Reader) → may [] → SamePlace a b → Brings may a true b
brings_none may a b m s = record {
  extends = extends_same a b s;
  adds = record {
    forest = bare;
    fits = m;
    added = subst (λ es. Added a.prefix.now a.entries.items es (left a.cursor) (left b.cursor) bare) (sym s.entries_are)
        (subst (λ c. Added a.prefix.now a.entries.items a.entries.items (left a.cursor) (left c) bare) (sym s.cursor_is) (added_none a.prefix.now a.entries.items (left a.cursor)));
  };
}

pub brings_not : (may : List Part → Type 0) (a b : Reader) → Extends a b → Brings may a false b
brings_not may a b e = record { extends = e; adds = tt }

-- other trees where these are such
pub brings_as : (may other : List Part → Type 0) (a : Reader) (read : Bool) (b : Reader) → ((ps : List Part) → may ps → other ps) → Brings may a read b → Brings other a read b
brings_as may other a false b f x = record { extends = x.extends; adds = tt }
brings_as may other a true b f x = record { extends = x.extends; adds = record { forest = x.adds.forest; fits = f (parts_in x.adds.forest) x.adds.fits; added = x.adds.added } }

-- a step that has nothing below it, or nothing yet
pub none_below : (s t : Step) (r : Reader) → s ≡ t → may_have t [] ≡ true → Brings (MayHave s) r true r
none_below s t r e h = brings_none (MayHave s) r r (subst (λ u. may_have u [] ≡ true) (sym e) h) (record { prefix_is = refl; cursor_is = refl; looked = omega arith; entries_are = refl })

-- a reader that was read again
pub reread_yes : (may : List Part → Type 0) (a : Reader) (read : Bool) (b : Reader) → read ≡ true → Reread may a read b → Brings may a true b
reread_yes may a read b e h = subst (λ r. Reread may a r b) e h

pub reread_no : (may : List Part → Type 0) (a : Reader) (read : Bool) (b : Reader) → read ≡ false → Reread may a read b → SamePlace a b
reread_no may a read b e h = subst (λ r. Reread may a r b) e h

-- if something else holds too
pub brings_when : (may : List Part → Type 0) (a : Reader) (holds : Bool) (b : Reader) → Brings may a true b → Brings may a holds b
brings_when may a true b x = x
brings_when may a false b x = record { extends = x.extends; adds = tt }

-- at `true`, or at `false`
pub brings_at : (may : List Part → Type 0) (a : Reader) (read is : Bool) (b : Reader) → read ≡ is → Brings may a read b → Brings may a is b
brings_at may a read is b e x = subst (λ r. Brings may a r b) e x

-- trees from the same place on
pub brings_from : (may : List Part → Type 0) (a b : Reader) (read : Bool) (c : Reader) → SamePlace a b → Brings may b read c → Brings may a read c
brings_from may a b false c s x = record { extends = extends_then a b c (extends_same a b s) x.extends; adds = tt }
brings_from may a b true c s x =
    let d = x.adds in
    record {
      extends = extends_then a b c (extends_same a b s) x.extends;
      adds = record {
        forest = d.forest;
        fits = d.fits;
        added = subst (λ p. Added p a.entries.items c.entries.items (left a.cursor) (left c.cursor) d.forest) s.prefix_is
            (subst (λ k. Added b.prefix.now a.entries.items c.entries.items (left k) (left c.cursor) d.forest) s.cursor_is
            (subst (λ es. Added b.prefix.now es c.entries.items (left b.cursor) (left c.cursor) d.forest) s.entries_are d.added));
      };
    }

-- trees behind trees
pub brings_then : (may more all : List Part → Type 0) (a b : Reader) (read : Bool) (c : Reader) → ((ps qs : List Part) → may ps → more qs → all (ps ++ qs)) →
    Brings may a true b → Brings more b read c → Brings all a read c
brings_then may more all a b false c f x y = record { extends = extends_then a b c x.extends y.extends; adds = tt }
brings_then may more all a b true c f x y =
    let d = x.adds in
    let e = y.adds in
    record {
      extends = extends_then a b c x.extends y.extends;
      adds = record {
        forest = graft d.forest e.forest;
        fits = subst all (sym (parts_graft d.forest e.forest)) (f (parts_in d.forest) (parts_in e.forest) d.fits e.fits);
        added = added_then a.prefix.now a.entries.items b.entries.items c.entries.items (left a.cursor) (left b.cursor) (left c.cursor) d.forest e.forest d.added
            (subst (λ p. Added p b.entries.items c.entries.items (left b.cursor) (left c.cursor) e.forest) x.extends.prefix_is e.added);
      };
    }

-- the one part of a step
pub one_may : (class : Class) (p : Part) → is_member class p ≡ true → (ps : List Part) → IsPart p ps → MayHave (step.One class) ps
one_may class p m ps e = ap (may_have (step.One class)) e ∙ ap (λ t. (length (p ∷ []) == 1) && (t && true)) m

pub optional_may : (class : Class) (p : Part) → is_member class p ≡ true → (ps : List Part) → IsPart p ps → MayHave (step.Optional class) ps
optional_may class p m ps e = ap (may_have (step.Optional class)) e ∙ ap (λ t. t && true) m

-- parts of a class, and others
all_then : (test : Part → Bool) (xs ys : List Part) → list_all test xs ≡ true → list_all test ys ≡ true → list_all test (xs ++ ys) ≡ true
all_then test [] ys h k = k
all_then test (x ∷ xs) ys h k =
    let p = and_parts (test x) (list_all test xs) h in
    and_from (test x) (list_all test (xs ++ ys)) p.0 (all_then test xs ys p.1 k)

pub many_may : (class : Class) (p : Part) → is_member class p ≡ true → (ps qs : List Part) → MayHave (step.Many class) ps → IsPart p qs → MayHave (step.Many class) (ps ++ qs)
many_may class p m ps qs h e = all_then (is_member class) ps qs h (ap (list_all (is_member class)) e ∙ ap (λ t. t && true) m)

-- one part at least, and others
pub some_may : (class : Class) (ps qs : List Part) → MayHave (step.One class) ps → MayHave (step.Many class) qs → MayHave (step.Some class) (ps ++ qs)
some_may class [] qs h k = absurd (false≢true h)
some_may class (x ∷ ps) qs h k =
    let test = is_member class in
    let p = and_parts (length (x ∷ ps) == 1) (list_all test (x ∷ ps)) h in
    and_from (ltb 0 (length ((x ∷ ps) ++ qs))) (list_all test ((x ∷ ps) ++ qs)) (lt-ltb 0 (length ((x ∷ ps) ++ qs)) (omega arith)) (all_then test (x ∷ ps) qs p.1 k)

-- a part, and one of a class behind it
only : (class : Class) (ps : List Part) → may_have (step.One class) ps ≡ true → (q : Part) × (ps ≡ q ∷ []) × (is_member class q ≡ true)
only class [] h = absurd (false≢true h)
only class (q ∷ []) h = (q, refl, (and_parts (is_member class q) true (and_parts (length (q ∷ []) == 1) (is_member class q && true) h).1).0)
only class (q ∷ r ∷ ps) h = absurd (omega (arith, eqb-true (length (q ∷ r ∷ ps)) 1 (and_parts (length (q ∷ r ∷ ps) == 1) (list_all (is_member class) (q ∷ r ∷ ps)) h).0))

pub pair_may : (p : Part) (class : Class) (ps qs : List Part) → IsPart p ps → MayHave (step.One class) qs → IsPair p class (ps ++ qs)
pair_may p class ps qs e m =
    let q = only class qs m in
    (q.0, ap (λ x. x ++ qs) e ∙ ap (λ x. p ∷ x) q.1, q.2)

-- pairs behind pairs
pairs_then : (first second : Class) (ps : List Part) (p q : Part) → are_pairs first second ps ≡ true → is_member first p ≡ true → is_member second q ≡ true →
    are_pairs first second (ps ++ p ∷ q ∷ []) ≡ true
pairs_then first second [] p q h m n = and_from (is_member first p) (is_member second q && true) m (and_from (is_member second q) true n refl)
pairs_then first second (x ∷ []) p q h m n = absurd (false≢true h)
pairs_then first second (x ∷ y ∷ ps) p q h m n =
    let a = and_parts (is_member first x) (is_member second y && are_pairs first second ps) h in
    let b = and_parts (is_member second y) (are_pairs first second ps) a.1 in
    and_from (is_member first x) (is_member second y && are_pairs first second (ps ++ p ∷ q ∷ [])) a.0
    (and_from (is_member second y) (are_pairs first second (ps ++ p ∷ q ∷ [])) b.0 (pairs_then first second ps p q b.1 m n))

pub pairs_may : (first second : Class) (p : Part) → is_member first p ≡ true → (ps qs : List Part) → MayHave (step.Pairs first second) ps → IsPair p second qs → MayHave (step.Pairs first second) (ps ++ qs)
pairs_may first second p m ps qs h x = ap (λ y. are_pairs first second (ps ++ y)) x.1 ∙ pairs_then first second ps p x.0 h m x.2

-- one part more; one pair more
pub many_more : (class : Class) (p : Part) (i a b c : Reader) (read : Bool) → Brings (MayHave (step.Many class)) i true a → SamePlace a b → is_member class p ≡ true → Brings (IsPart p) b read c →
    Brings (MayHave (step.Many class)) i read c
many_more class p i a b c read x s m y =
    brings_then (MayHave (step.Many class)) (IsPart p) (MayHave (step.Many class)) i a read c (many_may class p m) x (brings_from (IsPart p) a b read c s y)

pub pairs_more : (first second : Class) (p : Part) (i a b c : Reader) (read : Bool) → Brings (MayHave (step.Pairs first second)) i true a → SamePlace a b → is_member first p ≡ true →
    Brings (IsPair p second) b read c → Brings (MayHave (step.Pairs first second)) i read c
pairs_more first second p i a b c read x s m y =
    brings_then (MayHave (step.Pairs first second)) (IsPair p second) (MayHave (step.Pairs first second)) i a read c (pairs_may first second p m) x (brings_from (IsPair p second) a b read c s y)

-- what stands before nothing more
pub brings_still : (may : List Part → Type 0) (i a b : Reader) → Brings may i true a → SamePlace a b → Brings may i true b
brings_still may i a b x s = record {
  extends = extends_then i a b x.extends (extends_same a b s);
  adds = record {
    forest = x.adds.forest;
    fits = x.adds.fits;
    added = subst (λ es. Added i.prefix.now i.entries.items es (left i.cursor) (left b.cursor) x.adds.forest) (sym s.entries_are)
        (subst (λ k. Added i.prefix.now i.entries.items a.entries.items (left i.cursor) (left k) x.adds.forest) (sym s.cursor_is) x.adds.added);
  };
}

-- a step, told by its kind
pub own_as : (prefix : List ℕ) (g h : Growing) (count : ℕ) (s t : Step) (pieces : List template.Piece) (text rest : List ℕ) → s ≡ t → OwnTaken prefix g h count (t, pieces) text rest →
    OwnTaken prefix g h count (s, pieces) text rest
own_as prefix g h count s t pieces text rest e x = subst (λ u. OwnTaken prefix g h count (u, pieces) text rest) (sym e) x

-- what a step itself takes changes no part
pub extends_kept : (old new : Reader) → new ≡ record old { cursor = new.cursor; looked = new.looked } → Extends old new
extends_kept old new e = record { prefix_is = ap (λ r. r.prefix.now) e; more = []; entries_are = ap (λ r. r.entries.items) e ∙ sym (append-nil old.entries.items) }

-- a step that isn't there
pub step_not : (at : ℕ) (s : template.Line) (g h : Growing) (a b : Reader) → b ≡ record a { cursor = b.cursor; looked = b.looked } → StepBrings at s g h a false b
step_not at s g h a b e = record { extends = extends_kept a b e; adds = tt }

-- a step, and what it has below
pub step_brings : (at : ℕ) (s : template.Line) (g h : Growing) (a b : Reader) (read : Bool) (c : Reader) → b ≡ record a { cursor = b.cursor; looked = b.looked } →
    OwnTaken a.prefix.now g h (kids at a) s (left a.cursor) (left b.cursor) → Brings (MayHave s.0) b read c → StepBrings at s g h a read c
step_brings at s g h a b false c e own x = record { extends = extends_then a b c (extends_kept a b e) x.extends; adds = tt }
step_brings at s g h a b true c e own x =
    let d = x.adds in
    let kept = extends_kept a b e in
    record {
      extends = extends_then a b c kept x.extends;
      adds = record {
        own = left b.cursor;
        taken = own;
        below = d.forest;
        fits = d.fits;
        added = subst (λ p. Added p a.entries.items c.entries.items (left b.cursor) (left c.cursor) d.forest) kept.prefix_is
            (subst (λ es. Added b.prefix.now es c.entries.items (left b.cursor) (left c.cursor) d.forest) (ap (λ r. r.entries.items) e) d.added);
      };
    }

-- a part of which some steps are read: behind the parts that a reader had stand those below it so far
pub record PartSoFar (part : Part) (i : ℕ) (g : Growing) (old now : Reader) : Type 0 where
  pub prefix_is : now.prefix.now ≡ old.prefix.now
  pub more : List Entry
  pub below : Forest
  pub entries_are : now.entries.items ≡ old.entries.items ++ more
  pub so_far : SoFar old.prefix.now part i g (left old.cursor) (left now.cursor) more below

pub part_extends : (part : Part) (i : ℕ) (g : Growing) (old now : Reader) → PartSoFar part i g old now → Extends old now
part_extends part i g old now s = record { prefix_is = s.prefix_is; more = s.more; entries_are = s.entries_are }

-- so many trees stand below it
pub kids_so_far : (part : Part) (i at : ℕ) (g : Growing) (old now : Reader) (s : PartSoFar part i g old now) → at + 1 ≡ length old.entries.items → kids at now ≡ tree_count s.below
kids_so_far part i at g old now s e =
    let behind : drop (at + 1) now.entries.items ≡ s.more = ap (drop (at + 1)) s.entries_are ∙ drop_at old.entries.items s.more (at + 1) (sym e) in
    ap (λ es. tree_count (forest es)) behind ∙ ap tree_count (holds_alone s.more s.below s.so_far.holds)

-- before its first step
pub part_start : (part : Part) (g : Growing) (r : Reader) → g.part ≡ part → g.holes.items ≡ [] → PartSoFar part 0 g r r
part_start part g r p h = record {
  prefix_is = refl;
  more = [];
  below = bare;
  entries_are = sym (append-nil r.entries.items);
  so_far = so_far_start r.prefix.now part g (left r.cursor) p h;
}

-- the steps of a part, as the code holds them
pub step_count : (items : List HeldStep) (ss : List template.Line) → template.lines_of items ≡ ss → length items ≡ length ss
step_count items ss e = sym (length-map items template.line) ∙ ap length e

pub step_there : (items : List HeldStep) (ss : List template.Line) (i : ℕ) (d : HeldStep) → template.lines_of items ≡ ss → i < length items →
    template.line (get_or items i d) ≡ get_or ss i (template.line (get_or items i d))
step_there items ss i d e lt =
    let s = template.line (get_or items i d) in
    sym (get_or-map template.line items i d s lt) ∙ ap (λ ls. get_or ls i s) e

-- a step more
pub part_step : (part : Part) (items : List HeldStep) (i at : ℕ) (d : HeldStep) (g h : Growing) (old a : Reader) (read : Bool) (c : Reader) → PartSoFar part i g old a →
    at + 1 ≡ length old.entries.items → template.lines_of items ≡ steps_of part → i < length items → read ≡ true → StepBrings at (template.line (get_or items i d)) g h a read c →
    PartSoFar part (i + 1) h old c
part_step part items i at q g h old a read c so e held there all y =
    let s = template.line (get_or items i q) in
    let is = step_there items (steps_of part) i q held there in
    let count = step_count items (steps_of part) held in
    let lt : i < length (steps_of part) = omega (arith, count, there) in
    let x : StepBrings at s g h a true c = subst (λ r. StepBrings at s g h a r c) all y in
    let here : a.prefix.now ≡ old.prefix.now = so.prefix_is in
    let d = x.adds in
    let below = kids_so_far part i at g old a so e in
    let taken : OwnTaken old.prefix.now g h (tree_count so.below) s (left a.cursor) d.own
    = subst (λ n. OwnTaken old.prefix.now g h n s (left a.cursor) d.own) below (subst (λ p. OwnTaken p g h (kids at a) s (left a.cursor) d.own) here d.taken) in
    record {
      prefix_is = x.extends.prefix_is ∙ here;
      more = so.more ++ d.added.more;
      below = graft so.below d.below;
      entries_are = d.added.entries_are ∙ ap (λ es. es ++ d.added.more) so.entries_are ∙ append_assoc old.entries.items so.more d.added.more;
      so_far = so_far_step old.prefix.now part i s g h (left old.cursor) (left a.cursor) d.own (left c.cursor) so.more d.added.more so.below d.below so.so_far lt is
          taken.grows taken.takes d.fits d.added.holds (subst (λ p. Reads p (trees d.below) d.own (left c.cursor)) here d.added.reads);
    }

-- a step that isn't there, behind others
pub steps_not : (part : Part) (i at : ℕ) (s : template.Line) (g h : Growing) (old a : Reader) (read : Bool) (c : Reader) → PartSoFar part i g old a → StepBrings at s g h a read c → StepsBring part h old false c
steps_not part i at s g h old a read c so x = record { extends = extends_then old a c (part_extends part i g old a so) x.extends; adds = tt }

-- behind the last step
pub steps_all : (part : Part) (i : ℕ) (g : Growing) (old now : Reader) → PartSoFar part i g old now → length (steps_of part) ≤ i → StepsBring part g old true now
steps_all part i g old now so le = record {
  extends = part_extends part i g old now so;
  adds = record {
    part_is = so.so_far.part_is;
    more = so.more;
    below = so.below;
    entries_are = so.entries_are;
    holds = so.so_far.holds;
    fills = so.so_far.fills;
    reads = λ c becomes. steps_read old.prefix.now part i g (left old.cursor) (left now.cursor) so.more so.below c so.so_far le becomes;
  };
}

-- a part that was opened, of which no step was read, or not all
pub opened_extends : (part : Part) (g : Growing) (a b : Reader) → Opened part a b g → Extends a b
opened_extends part g a b o = record { prefix_is = o.prefix_is; more = o.first ∷ []; entries_are = o.entries_are }

pub part_not : (part p : Part) (g h : Growing) (a b : Reader) (read : Bool) (c : Reader) → Opened part a b g → StepsBring p h b read c → Brings (IsPart part) a false c
part_not part p g h a b read c o x = brings_not (IsPart part) a c (extends_then a b c (opened_extends part g a b o) x.extends)

-- a part that is put in among others
pub put_in : (old more new : List Entry) (first : Entry) (g : Growing) (at : ℕ) (f : FilledAt at g (old ++ first ∷ more) new) → at ≡ length old →
    (new ≡ old ++ f.entry ∷ more) × IsFilled first g (length more) f.entry
put_in old more new first g at f e = (
  f.entries_are ∙ ap (λ i. set (old ++ first ∷ more) i f.entry) e ∙ set-append_seam old first more f.entry,
  subst (λ n. IsFilled first g n f.entry) behind (subst (λ x. IsFilled x g (length (old ++ first ∷ more) - (at + 1)) f.entry) there f.filled),
)
  where
    there : get_or (old ++ first ∷ more) at f.entry ≡ first
    there = ap (λ i. get_or (old ++ first ∷ more) i f.entry) e ∙ get_or-append_seam old first more f.entry

    behind : length (old ++ first ∷ more) - (at + 1) ≡ length more
    behind = omega (arith, e, length-append old (first ∷ more))

-- a part is read: it was opened, its steps were read, and what they told was put in
pub part_read : (part : Part) (at : ℕ) (g h : Growing) (a b c d : Reader) (read : Bool) → Opened part a b g → at ≡ length a.entries.items → StepsBring g.part h b read c → read ≡ true →
    (length h.holes.items == hole_count h.part) ≡ true → d ≡ record c { entries = d.entries } → FilledAt at h c.entries.items d.entries.items → Brings (IsPart part) a true d
part_read part at g h a b c d read o e y all holes kept filled =
    let x : StepsBring part h b true c = subst (λ r. StepsBring part h b r c) all (subst (λ p. StepsBring p h b read c) o.part_is y) in
    let s = x.adds in
    let told : length h.holes.items ≡ hole_count h.part = eqb-true (length h.holes.items) (hole_count h.part) holes in
    let es : c.entries.items ≡ a.entries.items ++ o.first ∷ s.more
    = s.entries_are ∙ ap (λ l. l ++ s.more) o.entries_are ∙ append_assoc a.entries.items (o.first ∷ []) s.more in
    let put = put_in a.entries.items s.more d.entries.items o.first h at (subst (λ l. FilledAt at h l d.entries.items) es filled) e in
    let entry = (subst (λ l. FilledAt at h l d.entries.items) es filled).entry in
    let is : entry.part ≡ part = put.1.part_is ∙ o.first_is in
    let here : b.prefix.now ≡ a.prefix.now = o.prefix_is in
    let read : Reads b.prefix.now (trees (tree (content entry) s.below bare)) (left b.cursor) (left c.cursor)
    = part_tree b.prefix.now h (left b.cursor) (left c.cursor) s.below (content entry) (is ∙ sym s.part_is) (ap (λ v. v.items) put.1.holes_are) (ap (λ v. v.items) put.1.numbers_are) told
    (subst (AllFilled b.prefix.now h) (sym s.part_is) s.fills) (subst (AllRead b.prefix.now h s.below (left b.cursor) (left c.cursor)) (sym s.part_is) s.reads) in
    record {
      extends = record {
        prefix_is = ap (λ r. r.prefix.now) kept ∙ x.extends.prefix_is ∙ here;
        more = entry ∷ s.more;
        entries_are = put.0;
      };
      adds = record {
        forest = tree (content entry) s.below bare;
        fits = ap (λ p. p ∷ []) is;
        added = record {
          more = entry ∷ s.more;
          entries_are = put.0;
          holds = holds_tree entry s.more s.below put.1.below_is s.holds;
          reads = subst (λ p. Reads p (trees (tree (content entry) s.below bare)) (left a.cursor) (left d.cursor)) here
              (subst (λ k. Reads b.prefix.now (trees (tree (content entry) s.below bare)) (left k) (left d.cursor)) o.cursor_is
              (subst (λ k. Reads b.prefix.now (trees (tree (content entry) s.below bare)) (left b.cursor) (left k)) (sym (ap (λ r. r.cursor) kept)) read));
        };
      };
    }

-- the first part of a list whose trees are one has all others below it
bare_none : (es : List Entry) → forest es ≡ bare → es ≡ []
bare_none [] h = refl
bare_none (e ∷ es) h = let t = sym (forest-first e es) ∙ h in cc t

pub whole_one : (es : List Entry) (c : Content) (below : Forest) → forest es ≡ tree c below bare → whole es ≡ tree c below bare
whole_one [] c below h = let t = sym forest-none ∙ h in cc t
whole_one (e ∷ es) c below h =
    let t = sym (forest-first e es) ∙ h in
    let after : forest (drop e.below es) ≡ bare = cc t in
    let none : drop e.below es ≡ [] = bare_none (drop e.below es) after in
    let all : take e.below es ≡ es = sym (append-nil (take e.below es)) ∙ ap (λ x. take e.below es ++ x) (sym none) ∙ take-append-drop e.below es in
    ap (λ x. tree (content e) (forest x) bare) (sym all) ∙ ap (λ x. tree (content e) (forest (take e.below es)) x) (sym after) ∙ t

one_tree_of : (f : Forest) (p : Part) → parts_in f ≡ p ∷ [] → (c : Content) × (below : Forest) × (f ≡ tree c below bare) × (c.part ≡ p)
one_tree_of bare p h = cc h
one_tree_of (tree c below bare) p h = (c, below, refl, (let e : c.part ≡ p = cc h in e))
one_tree_of (tree c below (tree d under after)) p h = cc h

-- a whole program, and nothing is left that counts
pub whole_read : (old new last : Reader) → Brings (IsPart part.Program) old true new → last ≡ record new { looked = last.looked } → settled (left new.cursor) ≡ [] → WholeRead old last
whole_read old new last x kept nothing = record {
  prefix_is = ap (λ r. r.prefix.now) kept ∙ x.extends.prefix_is;
  rest = left new.cursor;
  nothing_left = nothing;
  forest = x.adds.forest;
  parts_are = x.adds.fits;
  added = subst (λ es. Added old.prefix.now old.entries.items es (left old.cursor) (left new.cursor) x.adds.forest) (sym (ap (λ r. r.entries.items) kept)) x.adds.added;
}

pub program_read : (text : List ℕ) (old new : Reader) (program : Program) → WholeRead old new → old.entries.items ≡ [] → left old.cursor ≡ text →
    program.prefix ≡ old.prefix.now → program.entries.items ≡ new.entries.items → is_prefix program.prefix ≡ true → ReadsAs text program
program_read text old new program x none front prefix entries fits =
    let a = x.added in
    let f = one_tree_of x.forest part.Program x.parts_are in
    let es : program.entries.items ≡ a.more = entries ∙ a.entries_are ∙ ap (λ l. l ++ a.more) none in
    let is : whole program.entries.items ≡ tree f.0 f.1 bare = ap whole es ∙ whole_one a.more f.0 f.1 (holds_alone a.more x.forest a.holds ∙ f.2) in
    record {
      rest = x.rest;
      prefix_fits = fits;
      first = subst IsProgram (sym is) f.3;
      reads = subst (λ w. Reads program.prefix (trees w) text x.rest) (sym is)
          (subst (λ w. Reads program.prefix (trees w) text x.rest) f.2
          (subst (λ p. Reads p (trees x.forest) text x.rest) (sym prefix) (subst (λ t. Reads old.prefix.now (trees x.forest) t x.rest) front a.reads)));
      nothing_left = x.nothing_left;
    }
