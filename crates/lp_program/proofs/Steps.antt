-- A part of which one step after another is read, chosen by the lines in front.
use Rattle.std.proofs.Common.{◌≡◌, ℕ, suc, ◌+◌, ◌-◌, ◌<◌, ◌≤◌, ◌==◌, Bool, true, false, List, [], ◌∷◌, ◌++◌, length, map, drop, refl, sym, ap, ◌∙◌, arith, append_assoc, append-nil, subst}
use Rattle.std.proofs.lemmas.Bool.{false≢true, eq-eqb}
use Rattle.lp_form.specs.Templates.{steps_of}
use Rattle.lp_form.specs.Templates as template
use Rattle.lp_form.specs.declared.part.Part.{Part}
use Rattle.lp_form.specs.declared.template.Step.{Step}
use Rattle.lp_tree.specs.declared.tree.Entry.{Entry}
use Rattle.lp_program.specs.declared.read.growing.Growing.{Growing}
use Rattle.lp_program.specs.declared.read.reader.Reader.{Reader}
use Rattle.lp_program.specs.Adding.{Holds, kids}
use Rattle.lp_program.specs.Answering.{AddsRead, NoneRead, AnswersTrees, SomeTold, AnswersSteps, held}
use Rattle.lp_program.specs.Choosing.{Reading, IsUnread, contents, Below, StepChosen, StepsChosen, PartSteps, PartChosen, grown}
use Rattle.lp_program.specs.Growing.{IsFilled}
use Rattle.lp_program.specs.Nearby.{OfLike, OfTaken}
use Rattle.lp_program.specs.Reads.{graft, hole_count}
use Rattle.lp_program.specs.Telling.{Told, told, untold, OwnTold, TellsOwn}
use Rattle.lp_tree.specs.ProgramTree.{noted}
use Rattle.lp_program.specs.Trees.{Content, content, Forest, tree_count}
use Rattle.lp_program.specs.Trees.Forest.{bare, tree}
use Rattle.lp_program.proofs.Answering.{Passes, passes_none, passes_then}
use Rattle.lp_program.proofs.Chosen.{BelowOnce, below_once, step_once, part_once, part_steps_once}
use Rattle.lp_program.proofs.Grafts.{graft_bare, holds_none, holds_then, holds_tree}
use Rattle.lp_program.proofs.Held.{held_first, kids_first}
use Rattle.lp_program.proofs.Nearby.{moves_none, moves_then}
use Rattle.lp_program.proofs.Once.{own_once}

-- what parts below have is read in one way
deep_once : (depth : ℕ) (prefix : List ℕ) → BelowOnce (Below depth prefix)
deep_once depth prefix s before = below_once depth prefix (PartChosen depth prefix) s before (part_once depth prefix)

-- a step: itself, and then what it has below
pub own_not : (Has : Step → List Content → Reading) (prefix : List ℕ) (p : Part) (count : ℕ) (before : List Content) (s : template.Line) (old : Told) (a b : Reader) → a.looked ≤ b.looked →
    OfLike b.looked a.cursor (λ text. (new : Told) (rest : List ℕ) → TellsOwn prefix p count s.1 s.0 old new text rest → ⊥) → NoneRead (SomeTold (StepChosen Has prefix p count before s old)) a b
own_not Has prefix p count before s old a b le none = record { looked = le; unread = λ n m text like f rest x. none n m text like x.0 x.1.own x.1.tells }

pub own_then : (Has : Step → List Content → Reading) (prefix : List ℕ) (p : Part) (count : ℕ) (before : List Content) (s : template.Line) (old new : Told) (a b : Reader) (read : Bool) (c : Reader) →
    b.entries.items ≡ a.entries.items → a.looked ≤ b.looked → OfTaken b.looked a.cursor b.cursor (λ text rest. TellsOwn prefix p count s.1 s.0 old new text rest) → AnswersTrees (Has s.0 before) b read c →
    AnswersSteps (StepChosen Has prefix p count before s old) new a read c
own_then Has prefix p count before s old new a b true c es le tells x = record {
  forest = x.forest;
  more = x.more;
  entries_are = x.entries_are ∙ ap (λ l. l ++ x.more) es;
  holds = x.holds;
  looked = omega (arith, le, x.looked);
  reads = λ n m text like.
      let y = tells n (omega (arith, x.looked, m)) text like in
      let z = x.reads n m y.0 y.2.like in
      (z.0, record { own = y.0; tells = y.1; reads = z.1 }, moves_then n a.cursor b.cursor c.cursor text y.0 z.0 y.2 z.2);
}
own_then Has prefix p count before s old new a b false c es le tells x = record {
  looked = omega (arith, le, x.looked);
  unread = λ n m text like f rest y.
      let z = tells n (omega (arith, x.looked, m)) text like in
      let e = own_once prefix p count s.1 s.0 old y.0 new text y.1.own z.0 y.1.tells z.1 in
      x.unread n m z.0 z.2.like f rest (subst (λ (t : List ℕ). Has s.0 before f t rest) e.1 y.1.reads);
}

own_yes : (prefix : List ℕ) (g : Growing) (count : ℕ) (s : template.Line) (a : Reader) (own is : Bool) (h : Growing) (b : Reader) → own ≡ is → OwnTold prefix g count s a own h b → OwnTold prefix g count s a is h b
own_yes prefix g count s a own is h b e x = subst (λ (o : Bool). OwnTold prefix g count s a o h b) e x

pub step_chosen : (depth at : ℕ) (s : template.Line) (g h : Growing) (a b : Reader) (own read : Bool) (c : Reader) → b ≡ record a { cursor = b.cursor; looked = b.looked } → a.looked ≤ b.looked → own ≡ true →
    OwnTold a.prefix.now g (kids at a) s a own h b → AnswersTrees (Below depth b.prefix.now s.0 (held at b)) b read c →
    AnswersSteps (StepChosen (Below depth a.prefix.now) a.prefix.now g.part (kids at a) (held at a) s (told g)) (told h) a read c
step_chosen depth at s g h a b own read c kept le all tells x =
    own_then (Below depth a.prefix.now) a.prefix.now g.part (kids at a) (held at a) s (told g) (told h) a b read c (ap (λ r. r.entries.items) kept) le
    (own_yes a.prefix.now g (kids at a) s a own true h b all tells) (subst (λ (r : Reader). AnswersTrees (Below depth r.prefix.now s.0 (held at r)) b read c) kept x)

pub step_unread : (depth at : ℕ) (s : template.Line) (g h : Growing) (a b : Reader) (own : Bool) → own ≡ false → a.looked ≤ b.looked → OwnTold a.prefix.now g (kids at a) s a own h b →
    NoneRead (SomeTold (StepChosen (Below depth a.prefix.now) a.prefix.now g.part (kids at a) (held at a) s (told g))) a b
step_unread depth at s g h a b own none le tells =
    own_not (Below depth a.prefix.now) a.prefix.now g.part (kids at a) (held at a) s (told g) a b le (own_yes a.prefix.now g (kids at a) s a own false h b none tells)

-- behind a step the others go on
step_passes : (Has : Step → List Content → Reading) (prefix : List ℕ) (p : Part) (before : Forest) (s : template.Line) (steps : List template.Line) (old new last : Told) (f : Forest) (text there : List ℕ) → BelowOnce Has →
    StepChosen Has prefix p (tree_count before) (contents before) s old new f text there → Passes (StepsChosen Has prefix p before (s ∷ steps) old last) (StepsChosen Has prefix p (graft before f) steps new last) f text there
step_passes Has prefix p before s steps old new last f text there once x = record {
  on = λ g rest y. (new, record { first = f; later = g; mid = there; trees_are = refl; reads = x; goes_on = y });
  back = λ h rest y.
      let u = y.1 in
      let e = step_once Has prefix p (tree_count before) (contents before) s old once y.0 new u.first f text u.mid there u.reads x in (
        u.later,
        subst (λ (o : Told). StepsChosen Has prefix p (graft before f) steps o last u.later there rest) e.0
            (subst (λ (t : List ℕ). StepsChosen Has prefix p (graft before f) steps y.0 last u.later t rest) e.2
            (subst (λ (g : Forest). StepsChosen Has prefix p (graft before g) steps y.0 last u.later u.mid rest) e.1 u.goes_on)),
      );
}

-- the steps of a part behind the first ones go on behind these trees
abbrev pub PartPasses : ℕ → List ℕ → Part → ℕ → Growing → Forest → List ℕ → List ℕ → Type 0
PartPasses depth prefix p i g f text there =
    (last : Told) → Passes (PartSteps depth prefix (PartChosen depth prefix) p last) (StepsChosen (Below depth prefix) prefix p f (drop i (steps_of p)) (told g) last) f text there

-- a part of which the first steps are read
pub record PartReached (depth : ℕ) (prefix : List ℕ) (p : Part) (i : ℕ) (g : Growing) (f : Forest) (old now : Reader) : Type 0 where
  pub more : List Entry
  pub entries_are : now.entries.items ≡ old.entries.items ++ more
  pub holds : Holds more f
  pub looked : old.looked ≤ now.looked
  pub passes : OfTaken now.looked old.cursor now.cursor (PartPasses depth prefix p i g f)

pub part_begun : (depth : ℕ) (prefix : List ℕ) (p : Part) (g : Growing) (r : Reader) → told g ≡ untold → PartReached depth prefix p 0 g bare r r
part_begun depth prefix p g r e = record {
  more = [];
  entries_are = sym (append-nil r.entries.items);
  holds = holds_none;
  looked = omega arith;
  passes = λ n m text like.
      let all : PartPasses depth prefix p 0 g bare text text
      = λ last.
      subst (λ (o : Told). Passes (PartSteps depth prefix (PartChosen depth prefix) p last) (StepsChosen (Below depth prefix) prefix p bare (steps_of p) o last) bare text text) (sym e)
      (passes_none (PartSteps depth prefix (PartChosen depth prefix) p last) text) in
      (text, all, moves_none n r.cursor text like);
}

-- an answer on the next step, in terms of the part
abbrev pub StepAnswer : ℕ → List ℕ → Part → ℕ → List Content → template.Line → Told → Told → Reader → Bool → Reader → Type 0
StepAnswer depth prefix p count before s old new a read c = AnswersSteps (StepChosen (Below depth prefix) prefix p count before s old) new a read c

pub step_here : (depth : ℕ) (prefix pre : List ℕ) (p q : Part) (at : ℕ) (s : template.Line) (old new : Told) (f : Forest) (r a : Reader) (more : List Entry) (read : Bool) (c : Reader) → pre ≡ prefix → q ≡ p →
    at + 1 ≡ length r.entries.items → a.entries.items ≡ r.entries.items ++ more → Holds more f → StepAnswer depth pre q (kids at a) (held at a) s old new a read c →
    StepAnswer depth prefix p (tree_count f) (contents f) s old new a read c
step_here depth prefix pre p q at s old new f r a more read c ep eq last es h x =
    subst (λ (y : List ℕ). StepAnswer depth y p (tree_count f) (contents f) s old new a read c) ep
    (subst (λ (y : Part). StepAnswer depth pre y (tree_count f) (contents f) s old new a read c) eq
    (subst (λ (y : ℕ). StepAnswer depth pre q y (contents f) s old new a read c) (kids_first at r a more f last es h)
    (subst (λ (y : List Content). StepAnswer depth pre q (kids at a) y s old new a read c) (held_first at r a more f last es h) x)))

-- the next step is read
next_passes : (depth : ℕ) (prefix : List ℕ) (p : Part) (i : ℕ) (s : template.Line) (g h : Growing) (f now : Forest) (text there here : List ℕ) → drop i (steps_of p) ≡ s ∷ drop (i + 1) (steps_of p) →
    PartPasses depth prefix p i g f text there → StepChosen (Below depth prefix) prefix p (tree_count f) (contents f) s (told g) (told h) now there here → PartPasses depth prefix p (i + 1) h (graft f now) text here
next_passes depth prefix p i s g h f now text there here next so x end =
    let before : Passes (PartSteps depth prefix (PartChosen depth prefix) p end) (StepsChosen (Below depth prefix) prefix p f (s ∷ drop (i + 1) (steps_of p)) (told g) end) f text there
    = subst (λ (l : List template.Line). Passes (PartSteps depth prefix (PartChosen depth prefix) p end) (StepsChosen (Below depth prefix) prefix p f l (told g) end) f text there) next (so end) in
    passes_then (PartSteps depth prefix (PartChosen depth prefix) p end) (StepsChosen (Below depth prefix) prefix p f (s ∷ drop (i + 1) (steps_of p)) (told g) end)
    (StepsChosen (Below depth prefix) prefix p (graft f now) (drop (i + 1) (steps_of p)) (told h) end) f now text there here before
    (step_passes (Below depth prefix) prefix p f s (drop (i + 1) (steps_of p)) (told g) (told h) end now there here (deep_once depth prefix) x)

pub part_goes : (depth : ℕ) (prefix pre : List ℕ) (p q : Part) (i at : ℕ) (s : template.Line) (g h : Growing) (f : Forest) (r a : Reader) (read : Bool) (c : Reader) → PartReached depth prefix p i g f r a →
    pre ≡ prefix → q ≡ p → at + 1 ≡ length r.entries.items → drop i (steps_of p) ≡ s ∷ drop (i + 1) (steps_of p) → read ≡ true → StepAnswer depth pre q (kids at a) (held at a) s (told g) (told h) a read c →
    (n : Forest) × PartReached depth prefix p (i + 1) h n r c
part_goes depth prefix pre p q i at s g h f r a read c so ep eq last next all y =
    let x : StepAnswer depth prefix p (tree_count f) (contents f) s (told g) (told h) a true c
    = step_here depth prefix pre p q at s (told g) (told h) f r a so.more true c ep eq last so.entries_are so.holds (subst (λ (b : Bool). StepAnswer depth pre q (kids at a) (held at a) s (told g) (told h) a b c) all y) in (
      graft f x.forest,
      record {
        more = so.more ++ x.more;
        entries_are = x.entries_are ∙ ap (λ l. l ++ x.more) so.entries_are ∙ append_assoc r.entries.items so.more x.more;
        holds = holds_then so.more x.more f x.forest so.holds x.holds;
        looked = omega (arith, so.looked, x.looked);
        passes = λ n m text like.
            let v = so.passes n (omega (arith, x.looked, m)) text like in
            let w = x.reads n m v.0 v.2.like in
            (w.0, next_passes depth prefix p i s g h f x.forest text v.0 w.0 next v.1 w.1, moves_then n r.cursor a.cursor c.cursor text v.0 w.0 v.2 w.2);
      },
    )

-- or it isn't, and so no steps are
pub part_stops : (depth : ℕ) (prefix pre : List ℕ) (p q : Part) (i at : ℕ) (s : template.Line) (g h : Growing) (f : Forest) (r a : Reader) (read : Bool) (c : Reader) → PartReached depth prefix p i g f r a →
    pre ≡ prefix → q ≡ p → at + 1 ≡ length r.entries.items → drop i (steps_of p) ≡ s ∷ drop (i + 1) (steps_of p) → read ≡ false → StepAnswer depth pre q (kids at a) (held at a) s (told g) (told h) a read c →
    NoneRead (SomeTold (PartSteps depth prefix (PartChosen depth prefix) p)) r c
part_stops depth prefix pre p q i at s g h f r a read c so ep eq last next none y =
    let x : StepAnswer depth prefix p (tree_count f) (contents f) s (told g) (told h) a false c
    = step_here depth prefix pre p q at s (told g) (told h) f r a so.more false c ep eq last so.entries_are so.holds (subst (λ (b : Bool). StepAnswer depth pre q (kids at a) (held at a) s (told g) (told h) a b c) none y) in
    record {
      looked = omega (arith, so.looked, x.looked);
      unread = λ n m text like whole rest z.
          let here = so.passes n (omega (arith, x.looked, m)) text like in
          let w = (here.1 z.0).back whole rest z.1 in
          let v : StepsChosen (Below depth prefix) prefix p f (s ∷ drop (i + 1) (steps_of p)) (told g) z.0 w.0 here.0 rest
          = subst (λ (l : List template.Line). StepsChosen (Below depth prefix) prefix p f l (told g) z.0 w.0 here.0 rest) next w.1 in
          x.unread n m here.0 here.2.like v.1.first v.1.mid (v.0, v.1.reads);
    }

-- behind the last step
pub part_done : (depth : ℕ) (prefix : List ℕ) (p : Part) (i : ℕ) (g : Growing) (f : Forest) (r a : Reader) → PartReached depth prefix p i g f r a → drop i (steps_of p) ≡ [] →
    AddsRead (PartSteps depth prefix (PartChosen depth prefix) p (told g)) r a
part_done depth prefix p i g f r a so none = record {
  forest = f;
  more = so.more;
  entries_are = so.entries_are;
  holds = so.holds;
  looked = so.looked;
  reads = λ n m text like.
      let y = so.passes n m text like in
      let all : PartSteps depth prefix (PartChosen depth prefix) p (told g) f text y.0
      = subst (λ (t : Forest). PartSteps depth prefix (PartChosen depth prefix) p (told g) t text y.0) (graft_bare f)
      ((y.1 (told g)).on bare y.0
      (subst (λ (l : List template.Line). StepsChosen (Below depth prefix) prefix p f l (told g) (told g) bare y.0 y.0) (sym none) (refl, (refl, refl)))) in
      (y.0, all, y.2);
}

-- a part, one deeper than those below it
deeper : (depth : ℕ) (prefix : List ℕ) (p : Part) (f : Forest) (text rest : List ℕ) → 0 < depth → PartChosen (suc (depth - 1)) prefix p f text rest → PartChosen depth prefix p f text rest
deeper depth prefix p f text rest some x = let e : suc (depth - 1) ≡ depth = omega (arith, some) in subst (λ (d : ℕ). PartChosen d prefix p f text rest) e x

within : (depth : ℕ) (prefix : List ℕ) (p : Part) (f : Forest) (text rest : List ℕ) → 0 < depth → PartChosen depth prefix p f text rest → PartChosen (suc (depth - 1)) prefix p f text rest
within depth prefix p f text rest some x = let e : depth ≡ suc (depth - 1) = omega (arith, some) in subst (λ (d : ℕ). PartChosen d prefix p f text rest) e x

-- no part stands so deep
pub too_deep : (depth : ℕ) (prefix : List ℕ) (p : Part) (a : Reader) → depth ≡ 0 → NoneRead (PartChosen depth prefix p) a a
unfolding PartChosen
too_deep depth prefix p a e = record {
  looked = omega arith;
  unread = λ n m text like f rest x. let y : PartChosen 0 prefix p f text rest = subst (λ (d : ℕ). PartChosen d prefix p f text rest) e x in y;
}

-- its steps aren't there, or a hole isn't told
pub steps_unread : (depth : ℕ) (prefix : List ℕ) (p : Part) (text : List ℕ) → 0 < depth → ((t : Told) → IsUnread (PartSteps (depth - 1) prefix (PartChosen (depth - 1) prefix) p t) text) → IsUnread (PartChosen depth prefix p) text
unfolding PartChosen
steps_unread depth prefix p text some none f rest x = let y = within depth prefix p f text rest some x in none y.0 y.1 rest y.4

pub not_told : (depth : ℕ) (prefix : List ℕ) (p : Part) (t : Told) (below : Forest) (text there : List ℕ) → 0 < depth → PartSteps (depth - 1) prefix (PartChosen (depth - 1) prefix) p t below text there →
    (length t.holes == hole_count p) ≡ false → IsUnread (PartChosen depth prefix p) text
unfolding PartChosen
not_told depth prefix p t below text there some steps wrong f rest x =
    let y = within depth prefix p f text rest some x in
    let e = part_steps_once (depth - 1) prefix (PartChosen (depth - 1) prefix) p (part_once (depth - 1) prefix) y.0 t y.1 below text rest there y.4 steps in
    false≢true (sym wrong ∙ eq-eqb (length t.holes) (hole_count p) (ap (λ (o : Told). length o.holes) (sym e.0) ∙ y.3))

-- its entry holds what its steps told
filled_content : (first entry : Entry) (g : Growing) (n : ℕ) (p : Part) → IsFilled first g n entry → first.part ≡ p → first.notes.items ≡ [] → content entry ≡ grown p (told g)
filled_content first entry g n p f is none =
    let part : entry.part ≡ p = f.part_is ∙ is in
    let holes : entry.holes.items ≡ g.holes.items = ap (λ v. v.items) f.holes_are in
    let numbers : entry.numbers.items ≡ g.numbers.items = ap (λ v. v.items) f.numbers_are in
    let notes : map noted entry.notes.items ≡ [] = ap (λ v. map noted v.items) f.notes_are ∙ ap (map noted) none in
    ap (λ (q : Part). record { part = q; holes = entry.holes.items; numbers = entry.numbers.items; notes = map noted entry.notes.items }) part
    ∙ ap (λ (x : List (List ℕ)). record { part = p; holes = x; numbers = entry.numbers.items; notes = map noted entry.notes.items }) holes
    ∙ ap (λ x. record { part = p; holes = g.holes.items; numbers = x; notes = map noted entry.notes.items }) numbers
    ∙ ap (λ x. record { part = p; holes = g.holes.items; numbers = g.numbers.items; notes = x }) notes

-- a part is read: an entry with what its steps told, over the parts of their trees
pub part_added : (depth : ℕ) (prefix : List ℕ) (p : Part) (h : Growing) (first entry : Entry) (a d : Reader) (x : Forest) (more : List Entry) → 0 < depth → a.looked ≤ d.looked →
    OfTaken d.looked a.cursor d.cursor (PartSteps (depth - 1) prefix (PartChosen (depth - 1) prefix) p (told h) x) → length h.holes.items ≡ hole_count p → Holds more x → IsFilled first h (length more) entry → first.part ≡ p →
    first.notes.items ≡ [] → d.entries.items ≡ a.entries.items ++ entry ∷ more → AddsRead (PartChosen depth prefix p) a d
unfolding PartChosen
part_added depth prefix p h first entry a d x more some le steps count holds filled is none es = record {
  forest = tree (content entry) x bare;
  more = entry ∷ more;
  entries_are = es;
  holds = holds_tree entry more x filled.below_is holds;
  looked = le;
  reads = λ n m text like.
      let y = steps n m text like in (
        y.0,
        deeper depth prefix p (tree (content entry) x bare) text y.0 some
            (told h, x, ap (λ (c : Content). tree c x bare) (filled_content first entry h (length more) p filled is none), count, y.1),
        y.2,
      );
}
