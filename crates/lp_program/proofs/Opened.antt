-- A part that was opened, and whose steps were read or not.
use Rattle.std.proofs.Common.{◌≡◌, ℕ, ◌-◌, ◌<◌, ◌≤◌, ◌==◌, Bool, true, false, List, [], ◌∷◌, ◌++◌, length, sym, ap, ◌∙◌, arith, append_assoc, subst}
use Rattle.std.proofs.lemmas.Bool.{eqb-true}
use Rattle.lp_form.specs.declared.part.Part.{Part}
use Rattle.lp_tree.specs.declared.tree.Entry.{Entry}
use Rattle.lp_program.specs.declared.read.growing.Growing.{Growing}
use Rattle.lp_program.specs.declared.read.reader.Reader.{Reader}
use Rattle.lp_program.specs.Adding.{Holds, Opened, StepsBring, FilledAt}
use Rattle.lp_program.specs.Answering.{AddsRead, NoneRead, SomeTold, AnswersSteps}
use Rattle.lp_program.specs.Choosing.{Reading, IsUnread, PartSteps, PartChosen}
use Rattle.lp_program.specs.Nearby.{OfLike, OfTaken}
use Rattle.lp_program.specs.Reads.{hole_count}
use Rattle.lp_program.specs.Telling.{Told, told}
use Rattle.lp_program.specs.Trees.{Forest}
use Rattle.lp_program.proofs.Adding.{put_in}
use Rattle.lp_program.proofs.Steps.{steps_unread, not_told, part_added}

-- an answer on the steps of a part
abbrev AnswersPart : ℕ → List ℕ → Part → Told → Reader → Bool → Reader → Type 0
AnswersPart depth prefix p t b read c = AnswersSteps (PartSteps (depth - 1) prefix (PartChosen (depth - 1) prefix) p) t b read c

part_here : (depth : ℕ) (p : Part) (g : Growing) (t : Told) (a b : Reader) (read is : Bool) (c : Reader) → Opened p a b g → read ≡ is → AnswersPart depth b.prefix.now g.part t b read c → AnswersPart depth a.prefix.now p t b is c
part_here depth p g t a b read is c o e x =
    subst (λ (y : List ℕ). AnswersPart depth y p t b is c) o.prefix_is
    (subst (λ (y : Part). AnswersPart depth b.prefix.now y t b is c) o.part_is (subst (λ (y : Bool). AnswersPart depth b.prefix.now g.part t b y c) e x))

-- no steps
pub part_unread : (depth : ℕ) (p : Part) (g : Growing) (t : Told) (a b : Reader) (read : Bool) (c : Reader) → Opened p a b g → 0 < depth → read ≡ false → AnswersPart depth b.prefix.now g.part t b read c →
    NoneRead (PartChosen depth a.prefix.now p) a c
part_unread depth p g t a b read c o some none x =
    let Steps : Told → Reading = PartSteps (depth - 1) a.prefix.now (PartChosen (depth - 1) a.prefix.now) p in
    let y : NoneRead (SomeTold Steps) b c = part_here depth p g t a b read false c o none x in
    let unread = subst (λ k. OfLike c.looked k (IsUnread (SomeTold Steps))) o.cursor_is y.unread in
    record {
      looked = omega (arith, o.looked_is, y.looked);
      unread = λ n m text like. steps_unread depth a.prefix.now p text some (λ s f rest z. unread n m text like f rest (s, z));
    }

-- the part is that which was asked for
same_part : (p : Part) (g h : Growing) (a b : Reader) (read : Bool) (c : Reader) → Opened p a b g → read ≡ true → StepsBring g.part h b read c → h.part ≡ p
same_part p g h a b read c o all s = let t : StepsBring g.part h b true c = subst (λ (y : Bool). StepsBring g.part h b y c) all s in t.adds.part_is ∙ o.part_is

-- what its steps read, from where it was opened
steps_here : (depth : ℕ) (p : Part) (g h : Growing) (a b : Reader) (read : Bool) (c : Reader) → Opened p a b g → read ≡ true → AnswersPart depth b.prefix.now g.part (told h) b read c →
    (f : Forest) × (more : List Entry) × (c.entries.items ≡ b.entries.items ++ more) × Holds more f × (a.looked ≤ c.looked) ×
    OfTaken c.looked a.cursor c.cursor (PartSteps (depth - 1) a.prefix.now (PartChosen (depth - 1) a.prefix.now) p (told h) f)
steps_here depth p g h a b read c o all x =
    let Steps : Told → Reading = PartSteps (depth - 1) a.prefix.now (PartChosen (depth - 1) a.prefix.now) p in
    let y : AddsRead (Steps (told h)) b c = part_here depth p g (told h) a b read true c o all x in
    (y.forest, y.more, y.entries_are, y.holds, omega (arith, o.looked_is, y.looked), subst (λ k. OfTaken c.looked k c.cursor (Steps (told h) y.forest)) o.cursor_is y.reads)

-- steps that don't tell all holes
pub part_untold : (depth : ℕ) (p : Part) (g h : Growing) (a b : Reader) (read : Bool) (c : Reader) → Opened p a b g → 0 < depth → read ≡ true → StepsBring g.part h b read c → AnswersPart depth b.prefix.now g.part (told h) b read c →
    (length h.holes.items == hole_count h.part) ≡ false → NoneRead (PartChosen depth a.prefix.now p) a c
part_untold depth p g h a b read c o some all s x wrong =
    let y = steps_here depth p g h a b read c o all x in
    let count = subst (λ (q : Part). (length h.holes.items == hole_count q) ≡ false) (same_part p g h a b read c o all s) wrong in
    record {
      looked = y.4;
      unread = λ n m text like. let z = y.5 n m text like in not_told depth a.prefix.now p (told h) y.0 text z.0 some z.1 count;
    }

-- and steps that do
pub part_chosen : (depth : ℕ) (p : Part) (at : ℕ) (g h : Growing) (a b c d : Reader) (read : Bool) → Opened p a b g → at ≡ length a.entries.items → 0 < depth → read ≡ true → StepsBring g.part h b read c →
    AnswersPart depth b.prefix.now g.part (told h) b read c → (length h.holes.items == hole_count h.part) ≡ true → d ≡ record c { entries = d.entries } → FilledAt at h c.entries.items d.entries.items →
    AddsRead (PartChosen depth a.prefix.now p) a d
part_chosen depth p at g h a b c d read o e some all s x holes kept filled =
    let y = steps_here depth p g h a b read c o all x in
    let Steps : Reading = PartSteps (depth - 1) a.prefix.now (PartChosen (depth - 1) a.prefix.now) p (told h) in
    let at_line : d.looked ≡ c.looked = ap (λ r. r.looked) kept in
    let looked = y.4 in
    let there : OfTaken d.looked a.cursor d.cursor (Steps y.0)
    = subst (λ k. OfTaken d.looked a.cursor k (Steps y.0)) (sym (ap (λ r. r.cursor) kept)) (subst (λ n. OfTaken n a.cursor c.cursor (Steps y.0)) (sym at_line) y.5) in
    let es : c.entries.items ≡ a.entries.items ++ o.first ∷ y.1
    = y.2 ∙ ap (λ l. l ++ y.1) o.entries_are ∙ append_assoc a.entries.items (o.first ∷ []) y.1 in
    let fills : FilledAt at h (a.entries.items ++ o.first ∷ y.1) d.entries.items = subst (λ l. FilledAt at h l d.entries.items) es filled in
    let put = put_in a.entries.items y.1 d.entries.items o.first h at fills e in
    let count : length h.holes.items ≡ hole_count p = subst (λ (q : Part). length h.holes.items ≡ hole_count q) (same_part p g h a b read c o all s) (eqb-true (length h.holes.items) (hole_count h.part) holes) in
    part_added depth a.prefix.now p h o.first fills.entry a d y.0 y.1 some (omega (arith, at_line, looked)) there count y.3 put.1 o.first_is o.notes_are put.0
