-- Behind the trees of a step the lines begin no part that may be missing there.
use Rattle.std.proofs.Common.{◌≡◌, ℕ, ◌<◌, ◌≤◌, zero, suc, Bool, true, false, not, inl, inr, ◌⊎◌, ⊎_elim, List, [], ◌∷◌, ◌++◌, length, sym, ap, subst, arith, flat_map, bytes_eq}
use Rattle.std.specs.List.{list_any, AllByRecursion}
use Rattle.std.specs.Str.{IsUtf8}
use Rattle.std.proofs.lemmas.Bool.{cases_Bool, both_ways}
use Rattle.std.proofs.lemmas.Slice.Eq.{bytes_eq-Decides}
use Rattle.lp_form.specs.Classes.{members_of}
use Rattle.lp_form.specs.Templates.{Piece, steps_of}
use Rattle.lp_form.specs.Templates as template
use Rattle.lp_form.specs.declared.class.Class.{Class}
use Rattle.lp_form.specs.declared.part.Part.{Part}
use Rattle.lp_form.specs.declared.part.Part.TheVariants as part
use Rattle.lp_form.specs.declared.template.Step.{Step}
use Rattle.lp_form.specs.declared.template.Step.TheVariants as step
use Rattle.lp_reading_laws.specs.Holes.Found.{are_words, AreFilled}
use Rattle.lp_program.specs.Begins.{Lines, member, SomeMember}
use Rattle.lp_program.specs.Reads.{Reads}
use Rattle.lp_program.specs.Reads.Task.{trees, steps}
use Rattle.lp_program.specs.Printed.{is_member}
use Rattle.lp_program.specs.Trees.{Content, Forest}
use Rattle.lp_program.specs.Trees.Forest.{tree}
use Rattle.lp_reading_laws.specs.FirstLines.Behind.{ended_classes, Place, places, shows_line, may_be_bare, step_tails, steps_tails, tails_within, class_tails, BeginNoMember, BeginNone, NoLines, Follow}
use Rattle.lp_reading_laws.specs.FirstLines.Opens.{Opens}
use Rattle.lp_reading_laws.proofs.FirstLines.Ends.{ends_seen, tails_seen}
use Rattle.lp_reading_laws.specs.Texts.TextLines.{HasLines}
use Rattle.lp_reading_laws.proofs.Texts.Parts.{member_place}
use Rattle.lp_reading_laws.proofs.Texts.Shown.{Below, steps_weaker, task_shown}
use Rattle.lp_reading_laws.proofs.Choosing.Lists.{all_left, all_right, all_both, all_if, all_of_flat, all_to_flat, holds_at}
use Rattle.lp_reading_laws.proofs.Choosing.Taking.{task_takes}

-- of the parts of places, those at whose ends parts may be missing
abbrev member_tails : (List template.Line → List Class) → Place → List Class
member_tails tails place = flat_map (λ m. tails (steps_of m)) (members_of place.0)

-- fewer parts are missing where fewer stand in one another
step_fewer : (P : Class → Type 0) (b : Bool) (f g : List template.Line → List Class) (s : Step) → ((ss : List template.Line) → AllByRecursion P (f ss) → AllByRecursion P (g ss)) → AllByRecursion P (step_tails b f s) → AllByRecursion P (step_tails b g s)
step_fewer P false f g s k h = tt
step_fewer P true f g s k h =
    let all = all_of_flat P (member_tails f) (places s []) (all_right P (ended_classes s) (flat_map (member_tails f) (places s [])) h) in
    all_both P (ended_classes s) (flat_map (member_tails g) (places s [])) (all_left P (ended_classes s) (flat_map (member_tails f) (places s [])) h)
    (all_to_flat P (member_tails g) (places s [])
    (all_if (λ x. AllByRecursion P (member_tails f x)) (λ x. AllByRecursion P (member_tails g x)) (places s [])
    (λ x y.
    all_to_flat P (λ m. g (steps_of m)) (members_of x.0)
    (all_if (λ m. AllByRecursion P (f (steps_of m))) (λ m. AllByRecursion P (g (steps_of m))) (members_of x.0) (λ m z. k (steps_of m) z) (all_of_flat P (λ m. f (steps_of m)) (members_of x.0) y)))
    all))

steps_fewer : (P : Class → Type 0) (f g : List template.Line → List Class) → ((ss : List template.Line) → AllByRecursion P (f ss) → AllByRecursion P (g ss)) → (ss : List template.Line) → AllByRecursion P (steps_tails f ss) → AllByRecursion P (steps_tails g ss)
steps_fewer P f g k [] h = tt
steps_fewer P f g k (s ∷ ss) h =
    all_both P (step_tails (may_be_bare ss) g s.0) (steps_tails g ss)
    (step_fewer P (may_be_bare ss) f g s.0 k (all_left P (step_tails (may_be_bare ss) f s.0) (steps_tails f ss) h))
    (steps_fewer P f g k ss (all_right P (step_tails (may_be_bare ss) f s.0) (steps_tails f ss) h))

fewer_within : (P : Class → Type 0) (m n : ℕ) → n ≤ m → (ss : List template.Line) → AllByRecursion P (tails_within m ss) → AllByRecursion P (tails_within n ss)
fewer_within P m zero le ss h = tt
fewer_within P zero (suc n) le ss h = absurd (omega arith)
fewer_within P (suc m) (suc n) le ss h = steps_fewer P (tails_within m) (tails_within n) (λ x y. fewer_within P m n (omega arith) x y) ss h

-- at the ends of all parts of a class
abbrev pub ClassEnded : ℕ → List ℕ → Class → Lines → Type 0
ClassEnded n prefix class lines = (i : ℕ) → i < length (members_of class) → BeginNone prefix (tails_within n (steps_of (member class i))) lines

class_ended : (n : ℕ) (prefix : List ℕ) (class : Class) (lines : Lines) → n ≤ 16 → BeginNone prefix (class_tails class) lines → ClassEnded n prefix class lines
class_ended n prefix class lines le h i lt =
    let P : Class → Type 0 = λ x. BeginNoMember prefix x lines in
    fewer_within P 16 n le (steps_of (member class i)) (holds_at (λ m. AllByRecursion P (tails_within 16 (steps_of m))) (members_of class) i part.Program (all_of_flat P (λ m. tails_within 16 (steps_of m)) (members_of class) h) lt)

-- a step of a part, with what stands in front of it and behind it, and how deep parts may stand in it
pub record StepPlace (prefix : List ℕ) (c : Content) (front others : List template.Line) (s : template.Line) (n : ℕ) : Type 0 where
  pub words : are_words prefix ≡ true
  pub filled : AreFilled prefix c.part c.holes
  pub place : steps_of c.part ≡ front ++ (s ∷ others)
  pub small : n ≤ 16

places_ended : (prefix : List ℕ) (c : Content) (front others : List template.Line) (s : template.Line) (n m : ℕ) (lines : Lines) → StepPlace prefix c front others s n →
    AllByRecursion (λ place. Follow m prefix c.holes place.1 lines → ClassEnded n prefix place.0 lines) (places s.0 others)
places_ended prefix c front others s n m lines p =
    all_if (λ place. Follow m prefix c.holes place.1 lines → BeginNone prefix (class_tails place.0) lines) (λ place. Follow m prefix c.holes place.1 lines → ClassEnded n prefix place.0 lines) (places s.0 others)
    (λ place f follow. class_ended n prefix place.0 lines p.small (f follow))
    (tails_seen prefix c.part c.holes front others s lines m p.words p.filled p.place)

-- behind the last tree of a step: the steps behind show the lines, or else what is missing in the step is told at the part above
abbrev pub AtEnd : ℕ → List ℕ → Content → List template.Line → Step → Lines → Type 0
AtEnd n prefix c others s lines =
    ((m : ℕ) × Follow m prefix c.holes others lines) ⊎ (BeginNone prefix (ended_classes s) lines × AllByRecursion (λ place. ClassEnded n prefix place.0 lines) (places s []))

-- nothing is missing in front of steps that take something
bare_steps : (others : List template.Line) (mid rest : List ℕ) → (list_any (λ s. shows_line s.0) others ≡ true → length rest < length mid) → rest ≡ mid → may_be_bare others ≡ true
bare_steps others mid rest f e = elim (cases_Bool (list_any (λ s. shows_line s.0) others)) [
  | inl y ↦ let lt = f y in absurd (omega (arith, lt, ap length e))
  | inr n ↦ ap not n
]

pub at_end : (n : ℕ) (prefix : List ℕ) (c : Content) (others : List template.Line) (s : template.Line) (more : ℕ) (later : Forest) (mid rest : List ℕ) (lines : Lines) → IsUtf8 mid → Reads prefix (steps c more others later) mid rest →
    ((x : Lines) → HasLines rest x → BeginNone prefix (steps_tails (tails_within n) (s ∷ others)) x) → HasLines mid lines → AtEnd n prefix c others s.0 lines
at_end n prefix c others s more later mid rest lines u reads behind h = elim (cases_Bool (bytes_eq rest mid)) [
  | inl y ↦
      let e : rest ≡ mid = (bytes_eq-Decides rest mid).0 y in
      let P : Class → Type 0 = λ x. BeginNoMember prefix x lines in
      let open_end = bare_steps others mid rest (task_takes prefix (steps c more others later) mid rest u reads).1 e in
      let all = all_left P (step_tails (may_be_bare others) (tails_within n) s.0) (steps_tails (tails_within n) others) (behind lines (subst (λ (x : List ℕ). HasLines x lines) (sym e) h)) in
      let whole : AllByRecursion P (step_tails true (tails_within n) s.0) = subst (λ b. AllByRecursion P (step_tails b (tails_within n) s.0)) open_end all in
      let each = all_of_flat P (member_tails (tails_within n)) (places s.0 []) (all_right P (ended_classes s.0) (flat_map (member_tails (tails_within n)) (places s.0 [])) whole) in
      inr (
        all_left P (ended_classes s.0) (flat_map (member_tails (tails_within n)) (places s.0 [])) whole,
        all_if (λ x. AllByRecursion P (member_tails (tails_within n) x)) (λ x. ClassEnded n prefix x.0 lines) (places s.0 [])
            (λ x z i lt. holds_at (λ m. AllByRecursion P (tails_within n (steps_of m))) (members_of x.0) i part.Program (all_of_flat P (λ m. tails_within n (steps_of m)) (members_of x.0) z) lt) each,
      )
  | inr differs ↦
      let r = task_shown prefix (steps c more others later) mid rest reads lines h in
      inl (r.0, steps_weaker (Below r.0 prefix) (λ x. rest ≡ mid) NoLines prefix c.holes others lines (λ e. both_ways (bytes_eq rest mid) differs ((bytes_eq-Decides rest mid).1 e)) r.1)
]

-- no more parts are begun behind the last tree
pub none_at_end : (prefix : List ℕ) (c : Content) (front others : List template.Line) (s : template.Line) (n : ℕ) (lines : Lines) → StepPlace prefix c front others s n → AtEnd n prefix c others s.0 lines → BeginNone prefix (ended_classes s.0) lines
none_at_end prefix c front others s n lines p (inl a) = ends_seen prefix c.part c.holes front others s lines a.0 p.words p.filled p.place a.1
none_at_end prefix c front others s n lines p (inr b) = b.0

-- behind the tree of a step with at most one, none may be missing at its end
pub one_ended : (prefix : List ℕ) (c : Content) (front others : List template.Line) (s : template.Line) (class : Class) (n : ℕ) (lines : Lines) → StepPlace prefix c front others s n → ((steps : List template.Line) → places s.0 steps ≡ (class, steps) ∷ []) →
    AtEnd n prefix c others s.0 lines → ClassEnded n prefix class lines
one_ended prefix c front others s class n lines p one (inl a) =
    (subst (λ x. AllByRecursion (λ place. Follow a.0 prefix c.holes place.1 lines → ClassEnded n prefix place.0 lines) x) (one others) (places_ended prefix c front others s n a.0 lines p)).0 a.1
one_ended prefix c front others s class n lines p one (inr b) = (subst (λ x. AllByRecursion (λ place. ClassEnded n prefix place.0 lines) x) (one []) b.1).0

-- parts of a class that show lines
abbrev pub Showing : List ℕ → Class → Lines → Type 0
Showing prefix class lines = (m : ℕ) × SomeMember class (λ q. Opens m prefix q lines)

-- behind trees of one class: in front of another, and behind the last of them
pub record ManyEnded (n : ℕ) (prefix : List ℕ) (class : Class) (mid : List ℕ) : Type 0 where
  pub between : (lines : Lines) → Showing prefix class lines → ClassEnded n prefix class lines
  pub last : (lines : Lines) → HasLines mid lines → ClassEnded n prefix class lines
  pub none : (lines : Lines) → HasLines mid lines → BeginNoMember prefix class lines

-- a step of which there may be several, and whether one is there at least or not
abbrev pub HasSeveral : Step → Class → Type 0
HasSeveral s class = (ended_classes s ≡ class ∷ []) × ((steps : List template.Line) → places s steps ≡ (class, (step.Many class, []) ∷ steps) ∷ [])

pub many_ended : (prefix : List ℕ) (c : Content) (front others : List template.Line) (s : template.Line) (class : Class) (n : ℕ) (mid : List ℕ) → StepPlace prefix c front others s n → HasSeveral s.0 class →
    ((lines : Lines) → HasLines mid lines → AtEnd n prefix c others s.0 lines) → ManyEnded n prefix class mid
many_ended prefix c front others s class n mid p has ends =
    let at = λ (m : ℕ) (lines : Lines).
    subst (λ x. AllByRecursion (λ place. Follow m prefix c.holes place.1 lines → ClassEnded n prefix place.0 lines) x) (has.1 others) (places_ended prefix c front others s n m lines p) in
    record {
      between = λ lines shown. (at shown.0 lines).0 (inl shown.1);
      last = λ lines h. ⊎_elim (λ a. (at a.0 lines).0 (inr a.1)) (λ b. (subst (λ x. AllByRecursion (λ place. ClassEnded n prefix place.0 lines) x) (has.1 []) b.1).0) (ends lines h);
      none = λ lines h. (subst (λ x. BeginNone prefix x lines) has.0 (none_at_end prefix c front others s n lines p (ends lines h))).0;
    }

-- behind pairs
pub record PairsEnded (n : ℕ) (prefix : List ℕ) (first second : Class) (mid : List ℕ) : Type 0 where
  pub within : (lines : Lines) → Showing prefix second lines → ClassEnded n prefix first lines
  pub between : (lines : Lines) → Showing prefix first lines → ClassEnded n prefix second lines
  pub last : (lines : Lines) → HasLines mid lines → ClassEnded n prefix second lines
  pub none : (lines : Lines) → HasLines mid lines → BeginNoMember prefix first lines

pub pairs_ended : (prefix : List ℕ) (c : Content) (front others : List template.Line) (pieces : List Piece) (first second : Class) (n : ℕ) (mid : List ℕ) → StepPlace prefix c front others (step.Pairs first second, pieces) n →
    ((lines : Lines) → HasLines mid lines → AtEnd n prefix c others (step.Pairs first second) lines) → PairsEnded n prefix first second mid
pairs_ended prefix c front others pieces first second n mid p ends =
    let s : template.Line = (step.Pairs first second, pieces) in
    record {
      within = λ lines shown. (places_ended prefix c front others s n shown.0 lines p).0 shown.1;
      between = λ lines shown. (places_ended prefix c front others s n shown.0 lines p).1.0 (inl shown.1);
      last = λ lines h. ⊎_elim (λ a. (places_ended prefix c front others s n a.0 lines p).1.0 (inr a.1)) (λ b. b.1.1.0) (ends lines h);
      none = λ lines h. (none_at_end prefix c front others s n lines p (ends lines h)).0;
    }

-- the next tree shows lines of its class
pub next_shows : (prefix : List ℕ) (class : Class) (e : Content) (inner more : Forest) (text rest : List ℕ) (lines : Lines) → is_member class e.part ≡ true → Reads prefix (trees (tree e inner more)) text rest → HasLines text lines → Showing prefix class lines
next_shows prefix class e inner more text rest lines m reads h =
    let r = task_shown prefix (trees (tree e inner more)) text rest reads lines h in
    let at = member_place class e.part m in
    (r.0, (at.0, at.1, subst (λ q. Opens r.0 prefix q lines) at.2 r.1))

-- at a part of the class
pub part_ended : (n : ℕ) (prefix : List ℕ) (class : Class) (q : Part) (lines : Lines) → is_member class q ≡ true → ClassEnded n prefix class lines → BeginNone prefix (tails_within n (steps_of q)) lines
part_ended n prefix class q lines m h =
    let at = member_place class q m in
    subst (λ x. BeginNone prefix (tails_within n (steps_of x)) lines) (sym at.2) (h at.0 at.1)
