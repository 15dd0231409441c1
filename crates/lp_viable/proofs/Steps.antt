-- Where a text stops within the steps of a part, or in front of them, the steps that are left are completed.
use Rattle.std.proofs.Common.{◌≡◌, ℕ, ◌+◌, ◌<◌, ◌≤◌, ◌==◌, Bool, true, false, not, ◌&&◌, inl, inr, List, [], ◌∷◌, ◌++◌, length, All, Some, refl, sym, ap, ◌∙◌, subst, arith, append_assoc, length-append}
use Rattle.std.specs.List.{list_all}
use Rattle.std.specs.Str.{IsUtf8}
use Rattle.std.proofs.lemmas.Bool.{and_parts, cases_Bool, not-true, both_ways}
use Rattle.std.proofs.lemmas.List.{nil_from_length}
use Rattle.std.proofs.lemmas.Str.{IsUtf8-append}
use Rattle.lp_form.specs.Templates.{Piece, steps_of, holes_of}
use Rattle.lp_form.specs.Templates as template
use Rattle.lp_form.specs.declared.part.Part.{Part}
use Rattle.lp_form.specs.declared.template.Step.{Step}
use Rattle.lp_form.specs.declared.template.Step.TheVariants as step
use Rattle.lp_spelling.specs.Counting.{settled}
use Rattle.lp_spelling.specs.TableReading.{entries}
use Rattle.lp_spelling.proofs.Counting.{settled_none}
use Rattle.lp_program.specs.Choosing.{grown}
use Rattle.lp_program.specs.Reads.{hole_count, is_prefix, may_have, graft, parts_in, KindsFill, trees, TakesOwn}
use Rattle.lp_program.specs.Reads.Reads.{no_tree, one_step}
use Rattle.lp_program.specs.Telling.{Told, TellsOwn}
use Rattle.lp_program.specs.Trees.{Content, Forest, tree_count}
use Rattle.lp_program.specs.Trees.Forest.{bare}
use Rattle.lp_reading_laws.specs.Printing.TemplateTests.{has_code, is_class, exact_after}
use Rattle.lp_reading_laws.proofs.Printing.Own.{Own, Ready, ready_same, ready_is}
use Rattle.lp_reading_laws.proofs.Printing.Steps.{class_takes, class_after}
use Rattle.lp_viable.specs.Least.{needed, trees_over, least_below, least_text, steps_text, are_fit}
use Rattle.lp_viable.specs.StepTests.{told_kinds, is_plain_part, is_table, known_past, tabled_past, may_come, is_certain, is_going}
use Rattle.lp_local.proofs.Ended.{IsEnded}
use Rattle.lp_viable.proofs.Moving.{past_ended}
use Rattle.lp_viable.proofs.Going.{OwnGoesOn, ReadsGoOn}
use Rattle.lp_viable.proofs.Within.{Opens, OwnMoved, own_moved}
use Rattle.lp_viable.proofs.LeastTexts.{steps_utf8, least_utf8}
use Rattle.lp_viable.proofs.Parts.{may_need}
use Rattle.lp_viable.proofs.Trees.{BelowDone}
use Rattle.lp_viable.proofs.Least.{TreeRead, Left, left_read, tree_read, least_ok, none_first}
use Rattle.lp_viable.proofs.Told.{Keeps, own_takes, keeps_before, SoFar, own_so_far}
use Rattle.lp_viable.proofs.Contents.{completed, completed_keeps, completed_size, completed_fills, completed_texts, steps_held}
use Rattle.lp_viable.proofs.StepTests.{Passed, passed, going_small, going_come, going_fit, fit_loose, code_closes, brace_behind, flush_behind}
use Rattle.lp_viable.proofs.Blank.{blank_table}

-- the steps that are left are completed: a content that keeps what is told, and trees, as which they are read, whatever stands behind
pub record StepsDone (prefix : List ℕ) (p : Part) (t : Told) (count : ℕ) (ss : List template.Line) (text : List ℕ) : Type 0 where
  pub more : List ℕ
  pub final : Told
  pub f : Forest
  pub utf8 : IsUtf8 more
  pub size : length final.holes ≡ hole_count p
  pub fills : KindsFill prefix p final.holes
  pub keeps : Keeps t (grown p final)
  pub again : (q : List ℕ) → Left prefix (grown p final) count ss f (text ++ (more ++ q)) q

-- the least trees are read of their texts
pub each_least : (prefix : List ℕ) → IsUtf8 prefix → is_prefix prefix ≡ true → (p : Part) → is_plain_part p ≡ true → TreeRead (least_below 16 prefix) (least_text 16 prefix) prefix p
each_least prefix u h p k = tree_read 16 prefix u h p (least_ok p (not-true (has_code (steps_of p)) k))

-- and their texts are UTF-8
pub each_utf8 : (prefix : List ℕ) → IsUtf8 prefix → is_prefix prefix ≡ true → (p : Part) → is_plain_part p ≡ true → IsUtf8 (least_text 16 prefix p)
each_utf8 prefix u h p k = least_utf8 16 prefix u h p (least_ok p (not-true (has_code (steps_of p)) k))

-- what is told so far, and steps that may come behind it
record May (prefix : List ℕ) (p : Part) (t : Told) (exact : Bool) (ss : List template.Line) : Type 0 where
  n : ℕ
  tabled : Bool
  so_far : SoFar prefix p t n tabled
  small : n ≤ hole_count p
  fit : are_fit is_plain_part exact (told_kinds n (holes_of p)) ss ≡ true
  come : list_all (λ l. may_come p n tabled l.0) ss ≡ true

may_go : (prefix : List ℕ) (p : Part) (t : Told) (n : ℕ) (tabled exact : Bool) (ss : List template.Line) → SoFar prefix p t n tabled → is_going p n tabled exact ss ≡ true → May prefix p t exact ss
may_go prefix p t n tabled exact ss s h = record {
  n = n;
  tabled = tabled;
  so_far = s;
  small = going_small p n tabled exact ss h;
  fit = going_fit p n tabled exact ss h n (omega arith);
  come = going_come p n tabled exact ss h;
}

-- the same behind a step that tells nothing
may_later : (prefix : List ℕ) (p : Part) (t : Told) (n : ℕ) (tabled exact : Bool) (s : template.Line) (others : List template.Line) → SoFar prefix p t n tabled → Passed p n tabled exact s others → May prefix p t (exact_after s.0) others
may_later prefix p t n tabled exact s others so g = record {
  n = n;
  tabled = tabled;
  so_far = so;
  small = g.small;
  fit = going_fit p (known_past n s.0 s.1) (tabled_past tabled s.0) (exact_after s.0) others g.later n g.grows;
  come = (and_parts (may_come p n tabled s.0) (list_all (λ l. may_come p n tabled l.0) others) g.come).1;
}

size_of : (prefix : List ℕ) (p : Part) (t : Told) (exact : Bool) (ss : List template.Line) → May prefix p t exact ss → length (completed prefix p t).holes ≡ hole_count p
size_of prefix p t exact ss m = let size = m.so_far.size in let small = m.small in completed_size prefix p t (omega (arith, size, small))

fills_of : (prefix : List ℕ) (p : Part) (t : Told) (exact : Bool) (ss : List template.Line) → IsUtf8 prefix → is_prefix prefix ≡ true → May prefix p t exact ss → KindsFill prefix p (completed prefix p t).holes
fills_of prefix p t exact ss u h m = completed_fills prefix p t m.n m.tabled u h m.so_far

abbrev least_behind : List ℕ → Part → Told → ℕ → List template.Line → List ℕ
least_behind prefix p t total ss = steps_text (least_text 16 prefix) prefix (grown p (completed prefix p t)) total ss

abbrev least_over : List ℕ → List template.Line → Forest
least_over prefix ss = trees_over (least_below 16 prefix) prefix (needed ss)

-- steps are read of their least text
left_least : (prefix : List ℕ) → IsUtf8 prefix → is_prefix prefix ≡ true → (p : Part) (t : Told) (exact : Bool) (ss : List template.Line) → May prefix p t exact ss → (count total : ℕ) (text tail : List ℕ) → total ≡ count + length (needed ss) →
    Ready exact text (least_behind prefix p t total ss ++ tail) → Left prefix (grown p (completed prefix p t)) count ss (least_over prefix ss) text tail
left_least prefix u h p t exact ss m count total text tail e r =
    left_read (least_below 16 prefix) (least_text 16 prefix) is_plain_part prefix (grown p (completed prefix p t)) (told_kinds m.n (holes_of p)) total ss count exact text tail
    (λ q k. each_least prefix u h q k) (completed_texts prefix p t m.n m.tabled u h m.so_far) m.fit (steps_held prefix p t m.n m.tabled ss m.so_far m.come) e r

least_behind_utf8 : (prefix : List ℕ) → IsUtf8 prefix → is_prefix prefix ≡ true → (p : Part) (t : Told) (exact : Bool) (ss : List template.Line) → May prefix p t exact ss → (total : ℕ) → IsUtf8 (least_behind prefix p t total ss)
least_behind_utf8 prefix u h p t exact ss m total =
    steps_utf8 (least_text 16 prefix) is_plain_part prefix (grown p (completed prefix p t)) (told_kinds m.n (holes_of p)) total ss exact
    (λ q k. each_utf8 prefix u h q k) (completed_texts prefix p t m.n m.tabled u h m.so_far) refl m.fit (steps_held prefix p t m.n m.tabled ss m.so_far m.come)

none_may : (s : Step) → is_class s ≡ false → may_have s [] ≡ true
none_may s n = ap (may_have s) (sym (none_first s n)) ∙ may_need s

-- a step that has no trees, and the least text of the others behind it
own_left : (prefix : List ℕ) → IsUtf8 prefix → is_prefix prefix ≡ true → (p : Part) (t : Told) (count total : ℕ) (s : template.Line) (others : List template.Line) (text tail : List ℕ) → is_class s.0 ≡ false →
    May prefix p t (exact_after s.0) others → total ≡ count + length (needed others) → Own prefix (grown p (completed prefix p t)) count s.1 s.0 text (least_behind prefix p t total others ++ tail) →
    Left prefix (grown p (completed prefix p t)) count (s ∷ others) (least_over prefix others) text tail
own_left prefix u h p t count total s others text tail n m e o =
    let next = left_least prefix u h p t (exact_after s.0) others m (count + tree_count bare) total o.rest tail (omega (arith, e)) o.ready in
    record {
      rest = next.rest;
      reads = one_step (grown p (completed prefix p t)) count s others bare (least_over prefix others) text o.rest o.rest next.rest (none_may s.0 n) o.takes (no_tree o.rest) next.reads;
      same = next.same;
    }

join : (text a b q : List ℕ) → text ++ (a ++ (b ++ q)) ≡ text ++ ((a ++ b) ++ q)
join text a b q = ap (λ (x : List ℕ). text ++ x) (sym (append_assoc a b q))

-- nothing that counts is left, and no table is next
loose_done : (prefix : List ℕ) → IsUtf8 prefix → is_prefix prefix ≡ true → (p : Part) (t : Told) (count : ℕ) (ss : List template.Line) (text : List ℕ) → May prefix p t false ss → IsEnded text → settled text ≡ [] →
    StepsDone prefix p t count ss text
loose_done prefix u h p t count ss text m e none =
    let total : ℕ = count + length (needed ss) in
    let more : List ℕ = least_behind prefix p t total ss in
    record {
      more = more;
      final = completed prefix p t;
      f = least_over prefix ss;
      utf8 = least_behind_utf8 prefix u h p t false ss m total;
      size = size_of prefix p t false ss m;
      fills = fills_of prefix p t false ss u h m;
      keeps = completed_keeps prefix p t;
      again = λ q. left_least prefix u h p t false ss m count total (text ++ (more ++ q)) q refl (ready_same (text ++ (more ++ q)) (more ++ q) (past_ended text (more ++ q) e none));
    }

-- a table is next: it has no entries
table_own : (prefix : List ℕ) (c : Content) (count : ℕ) (pieces : List Piece) (s : Step) (text printed : List ℕ) → is_table s ≡ true → entries text ≡ Some (c.numbers, printed) → Own prefix c count pieces s text printed
table_own prefix c count pieces step.Entries text printed y e = record { rest = printed; takes = e; ready = ready_is false printed }
table_own prefix c count pieces _ text printed y e = absurd (both_ways false refl y)

table_plain : (s : Step) → is_table s ≡ true → is_class s ≡ false
table_plain step.Entries y = refl
table_plain _ y = absurd (both_ways false refl y)

table_first : (p : Part) (n : ℕ) (tabled : Bool) (s : Step) → is_table s ≡ true → may_come p n tabled s ≡ true → tabled ≡ false
table_first p n tabled step.Entries y h = not-true tabled h
table_first p n tabled _ y h = absurd (both_ways false refl y)

table_flush : (n : ℕ) (s : Step) (pieces : List Piece) (others : List template.Line) → is_table s ≡ true → is_certain n s pieces others ≡ true → Rattle.lp_viable.specs.StepTests.is_flush others ≡ true
table_flush n step.Entries pieces others y h = h
table_flush n _ pieces others y h = absurd (both_ways false refl y)

table_done : (prefix : List ℕ) → IsUtf8 prefix → is_prefix prefix ≡ true → (p : Part) (t : Told) (n : ℕ) (tabled exact : Bool) (count : ℕ) (s : template.Line) (others : List template.Line) (text : List ℕ) → is_table s.0 ≡ true →
    SoFar prefix p t n tabled → Passed p n tabled exact s others → IsUtf8 text → IsEnded text → settled text ≡ [] → StepsDone prefix p t count (s ∷ others) text
table_done prefix u h p t n tabled exact count s others text y so g v e none =
    let m : May prefix p t (exact_after s.0) others = may_later prefix p t n tabled exact s others so g in
    let total : ℕ = count + length (needed others) in
    let more : List ℕ = least_behind prefix p t total others in
    let first : tabled ≡ false = table_first p n tabled s.0 y (and_parts (may_come p n tabled s.0) (list_all (λ l. may_come p n tabled l.0) others) g.come).0 in
    let numbers : [] ≡ t.numbers = sym (so.none first) in
    record {
      more = more;
      final = completed prefix p t;
      f = least_over prefix others;
      utf8 = least_behind_utf8 prefix u h p t (exact_after s.0) others m total;
      size = size_of prefix p t (exact_after s.0) others m;
      fills = fills_of prefix p t (exact_after s.0) others u h m;
      keeps = completed_keeps prefix p t;
      again = λ q.
          (let b = flush_behind (least_text 16 prefix) prefix (grown p (completed prefix p t)) total others q (table_flush n s.0 s.1 others y g.certain) in
          let read : entries (text ++ (more ++ q)) ≡ Some (t.numbers, more ++ q) =
          ap (λ (x : List ℕ). entries (text ++ x)) b.1 ∙ blank_table text v e none b.0 ∙ ap (λ (x : List ℕ). Some ([], x)) (sym b.1) ∙ ap (λ (z : List Rattle.std.proofs.Common.ℤ). Some (z, more ++ q)) numbers in
          own_left prefix u h p t count total s others (text ++ (more ++ q)) q (table_plain s.0 y) m refl (table_own prefix (grown p (completed prefix p t)) count s.1 s.0 (text ++ (more ++ q)) (more ++ q) y read));
    }

-- where nothing that counts is left, the least text follows
pub blank_done : (prefix : List ℕ) → IsUtf8 prefix → is_prefix prefix ≡ true → (p : Part) (t : Told) (n : ℕ) (tabled exact : Bool) (count : ℕ) (ss : List template.Line) (text : List ℕ) → SoFar prefix p t n tabled →
    is_going p n tabled exact ss ≡ true → IsUtf8 text → IsEnded text → settled text ≡ [] → StepsDone prefix p t count ss text
blank_done prefix u h p t n tabled exact count [] text so go v e none =
    let m : May prefix p t exact [] = may_go prefix p t n tabled exact [] so go in
    loose_done prefix u h p t count [] text (record { n = m.n; tabled = m.tabled; so_far = m.so_far; small = m.small; fit = refl; come = refl }) e none
blank_done prefix u h p t n tabled exact count (s ∷ others) text so go v e none = elim (cases_Bool (is_table s.0)) [
  | inl y ↦ table_done prefix u h p t n tabled exact count s others text y so (passed p n tabled exact s others go) v e none
  | inr x ↦
      let m : May prefix p t exact (s ∷ others) = may_go prefix p t n tabled exact (s ∷ others) so go in
      let loose : May prefix p t false (s ∷ others) =
      record { n = m.n; tabled = m.tabled; so_far = m.so_far; small = m.small; fit = fit_loose exact (told_kinds m.n (holes_of p)) s others x m.fit; come = m.come } in
      loose_done prefix u h p t count (s ∷ others) text loose e none
]

-- a step of a class tells nothing itself
pub class_tells : (prefix : List ℕ) (p : Part) (count : ℕ) (pieces : List Piece) (s : Step) (old new : Told) (text rest : List ℕ) → is_class s ≡ true → TellsOwn prefix p count pieces s old new text rest → (new ≡ old) × (rest ≡ text)
class_tells prefix p count pieces (step.One class) old new text rest y t = t
class_tells prefix p count pieces (step.Optional class) old new text rest y t = t
class_tells prefix p count pieces (step.Many class) old new text rest y t = t
class_tells prefix p count pieces (step.Some class) old new text rest y t = t
class_tells prefix p count pieces (step.Pairs first second) old new text rest y t = t
class_tells prefix p count pieces _ old new text rest y t = absurd (both_ways false refl y)

none_taken : (text more rest : List ℕ) → rest ≡ text ++ (more ++ rest) → text ≡ []
none_taken text more rest e =
    let size = ap length e in
    let a = length-append text (more ++ rest) in
    let b = length-append more rest in
    nil_from_length text (omega (arith, size, a, b))

opens_behind : (text : Part → List ℕ) (prefix : List ℕ) (c : Content) (total : ℕ) (p : Part) (n : ℕ) (tabled : Bool) (s : Step) (pieces : List Piece) (others : List template.Line) (tail : List ℕ) → may_come p n tabled s ≡ true →
    is_certain n s pieces others ≡ true → Opens s (steps_text text prefix c total others ++ tail)
opens_behind text prefix c total p n tabled step.Code pieces others tail h k = absurd (both_ways false refl h)
opens_behind text prefix c total p n tabled step.Entries pieces others tail h k = flush_behind text prefix c total others tail k
opens_behind text prefix c total p n tabled _ pieces others tail h k = tt

-- where the text stops within what a step itself takes, that is completed, and then the others
pub own_done : (prefix : List ℕ) → IsUtf8 prefix → is_prefix prefix ≡ true → (p : Part) (old new : Told) (n : ℕ) (tabled exact : Bool) (count : ℕ) (s : template.Line) (others : List template.Line) (text more rest : List ℕ) →
    SoFar prefix p old n tabled → is_going p n tabled exact (s ∷ others) ≡ true → IsUtf8 text → IsUtf8 (more ++ rest) → TellsOwn prefix p count s.1 s.0 old new (text ++ (more ++ rest)) rest → StepsDone prefix p old count (s ∷ others) text
own_done prefix u h p old new n tabled exact count s others text more rest so go v w t = elim (cases_Bool (is_class s.0)) [
  | inl y ↦
      let none : text ≡ [] = none_taken text more rest (class_tells prefix p count s.1 s.0 old new (text ++ (more ++ rest)) rest y t).1 in
      blank_done prefix u h p old n tabled exact count (s ∷ others) text so go v (inl none) (ap settled none ∙ settled_none)
  | inr x ↦
      let g : Passed p n tabled exact s others = passed p n tabled exact s others go in
      let c : Content = grown p (completed prefix p new) in
      let keeps : Keeps new c = completed_keeps prefix p new in
      let m : May prefix p new (exact_after s.0) others =
      may_go prefix p new (known_past n s.0 s.1) (tabled_past tabled s.0) (exact_after s.0) others (own_so_far prefix p count s.1 s.0 others old new n tabled (text ++ (more ++ rest)) rest so g.certain t) g.later in
      let o : OwnMoved prefix c count s.1 s.0 text = own_moved prefix c count s.1 s.0 text more rest v w (own_takes prefix p count s.1 s.0 old new c (text ++ (more ++ rest)) rest keeps t) in
      let total : ℕ = count + length (needed others) in
      let later : List ℕ = least_behind prefix p new total others in
      let may : may_come p n tabled s.0 ≡ true = (and_parts (may_come p n tabled s.0) (list_all (λ l. may_come p n tabled l.0) others) g.come).0 in
      record {
        more = o.more ++ later;
        final = completed prefix p new;
        f = least_over prefix others;
        utf8 = IsUtf8-append o.more later o.utf8 (least_behind_utf8 prefix u h p new (exact_after s.0) others m total);
        size = size_of prefix p new (exact_after s.0) others m;
        fills = fills_of prefix p new (exact_after s.0) others u h m;
        keeps = keeps_before prefix p count s.1 s.0 old new c (text ++ (more ++ rest)) rest keeps t;
        again = λ q.
            subst (λ (z : List ℕ). Left prefix c count (s ∷ others) (least_over prefix others) z q) (join text o.more later q)
            (own_left prefix u h p new count total s others (text ++ (o.more ++ (later ++ q))) q x m refl
            (o.again (later ++ q) (opens_behind (least_text 16 prefix) prefix c total p n tabled s.0 s.1 others q may g.certain)));
      }
]

-- where a step is read with its trees, and the others are completed behind it, the steps are
pub step_done : (prefix : List ℕ) (p : Part) (old new : Told) (count : ℕ) (s : template.Line) (others : List template.Line) (now : Forest) (text own mid : List ℕ) → may_have s.0 (parts_in now) ≡ true →
    TellsOwn prefix p count s.1 s.0 old new text own → OwnGoesOn prefix count s text own → ReadsGoOn prefix (trees now) own mid → StepsDone prefix p new (count + tree_count now) others mid → StepsDone prefix p old count (s ∷ others) text
step_done prefix p old new count s others now text own mid may t on reads d =
    let c : Content = grown p d.final in
    let takes_it : (x : List ℕ) → TakesOwn prefix c count s.1 s.0 (text ++ x) (own ++ x) = on c (own_takes prefix p count s.1 s.0 old new c text own d.keeps t) in
    record {
      more = d.more;
      final = d.final;
      f = graft now d.f;
      utf8 = d.utf8;
      size = d.size;
      fills = d.fills;
      keeps = keeps_before prefix p count s.1 s.0 old new c text own d.keeps t;
      again = λ q.
          (let l = d.again q in
          let x : List ℕ = d.more ++ q in
          record { rest = l.rest; reads = one_step c count s others now d.f (text ++ x) (own ++ x) (mid ++ x) l.rest may (takes_it x) (reads x) l.reads; same = l.same });
    }

-- a step without trees of its own is read, and nothing that counts is left behind it
pub plain_done : (prefix : List ℕ) → IsUtf8 prefix → is_prefix prefix ≡ true → (p : Part) (old new : Told) (n : ℕ) (tabled exact : Bool) (count : ℕ) (s : template.Line) (others : List template.Line) (text own : List ℕ) → is_class s.0 ≡ false →
    SoFar prefix p old n tabled → is_going p n tabled exact (s ∷ others) ≡ true → TellsOwn prefix p count s.1 s.0 old new text own → OwnGoesOn prefix count s text own → IsUtf8 own → IsEnded own → settled own ≡ [] →
    StepsDone prefix p old count (s ∷ others) text
plain_done prefix u h p old new n tabled exact count s others text own x so go t on v e none =
    let g : Passed p n tabled exact s others = passed p n tabled exact s others go in
    let behind : SoFar prefix p new (known_past n s.0 s.1) (tabled_past tabled s.0) = own_so_far prefix p count s.1 s.0 others old new n tabled text own so g.certain t in
    let d = blank_done prefix u h p new (known_past n s.0 s.1) (tabled_past tabled s.0) (exact_after s.0) (count + tree_count bare) others own behind g.later v e none in
    step_done prefix p old new count s others bare text own own (none_may s.0 x) t on (λ z. no_tree (own ++ z)) d

-- what a step has below is completed, and then the others
pub below_done : (prefix : List ℕ) → IsUtf8 prefix → is_prefix prefix ≡ true → (p : Part) (old : Told) (n : ℕ) (tabled exact : Bool) (count : ℕ) (s : template.Line) (others : List template.Line) (text : List ℕ) → is_class s.0 ≡ true →
    SoFar prefix p old n tabled → is_going p n tabled exact (s ∷ others) ≡ true → BelowDone prefix s.0 text → StepsDone prefix p old count (s ∷ others) text
below_done prefix u h p old n tabled exact count s others text y so go d =
    let g : Passed p n tabled exact s others = passed p n tabled exact s others go in
    let m : May prefix p old (exact_after s.0) others = may_later prefix p old n tabled exact s others so g in
    let c : Content = grown p (completed prefix p old) in
    let done : ℕ = count + tree_count d.f in
    let total : ℕ = done + length (needed others) in
    let later : List ℕ = least_behind prefix p old total others in
    let loose : May prefix p old false others = subst (λ (b : Bool). May prefix p old b others) (class_after s.0 y) m in
    record {
      more = d.more ++ later;
      final = completed prefix p old;
      f = graft d.f (least_over prefix others);
      utf8 = IsUtf8-append d.more later d.utf8 (least_behind_utf8 prefix u h p old false others loose total);
      size = size_of prefix p old false others loose;
      fills = fills_of prefix p old false others u h loose;
      keeps = completed_keeps prefix p old;
      again = λ q.
          (let b = d.again (later ++ q) (λ user. brace_behind (least_text 16 prefix) prefix c total others q (code_closes exact s.0 others g.sound user).1) in
          let next = left_least prefix u h p old false others loose done total b.rest q refl (ready_same b.rest (later ++ q) b.same) in
          let there : List ℕ = text ++ (d.more ++ (later ++ q)) in
          subst (λ (z : List ℕ). Left prefix c count (s ∷ others) (graft d.f (least_over prefix others)) z q) (join text d.more later q)
          (record {
            rest = next.rest;
            reads = one_step c count s others d.f (least_over prefix others) there there b.rest next.rest d.may (class_takes prefix c count s.1 s.0 there y) b.reads next.reads;
            same = next.same;
          }));
    }
