-- What a text begins that stops before its end: a program, a part, what a step has below, or the steps that are left of a part.
use Rattle.std.specs.Prelude.{◌≡◌, ℕ, ◌+◌, ◌-◌, ◌≤◌, Bool, true, false, ◌&&◌, ◌==◌, List, [], ◌∷◌, ◌++◌, length, take, Result, Ok, Err, ◌⊎◌}
use Rattle.std.specs.List.{list_all}
use Rattle.std.specs.Str.{IsUtf8}
use Rattle.lp_form.specs.Templates.{steps_of}
use Rattle.lp_form.specs.Templates as template
use Rattle.lp_form.specs.declared.class.Class.{Class}
use Rattle.lp_form.specs.declared.part.Part.{Part}
use Rattle.lp_form.specs.declared.part.Part.TheVariants as part
use Rattle.lp_form.specs.declared.template.Step.{Step}
use Rattle.lp_form.specs.declared.template.Step.TheVariants as step
use Rattle.lp_local.specs.Agreeing.{first_lines}
use Rattle.lp_spelling.specs.Counting.{settled}
use Rattle.lp_spelling.specs.LineNumbers.{past_last}
use Rattle.lp_spelling.specs.declared.cursor.Cursor.{Cursor}
use Rattle.lp_program.specs.declared.read.growing.Growing.{Growing}
use Rattle.lp_program.specs.declared.read.reader.ReadFault.{ReadFault}
use Rattle.lp_program.specs.declared.read.reader.ReadFault.TheVariants as fault
use Rattle.lp_program.specs.declared.read.reader.Reader.{Reader}
use Rattle.lp_program.specs.Nearby.{next_number, Like}
use Rattle.lp_program.specs.Printed.{is_member}
use Rattle.lp_program.specs.Reads.{is_prefix, parts_in, may_have, Reads}
use Rattle.lp_program.specs.Reads.Task.{trees}
use Rattle.lp_program.specs.Telling.{Told, told, untold, TellsOwn}
use Rattle.lp_program.specs.Trees.{Forest, tree_count}

-- what is expected: a part; what a step has below; or the steps that are left of a part of which this is told, below which so many trees stand so far
pub data Goal : Type 0 where
  one_part : Part → Goal
  below_step : Step → Goal
  steps_left : Part → Told → ℕ → List template.Line → Goal

-- behind these parts, a part may follow in pairs of one class and another
abbrev pub pairs_go_on : Class → Class → List Part → Part → Bool
pairs_go_on first second [] p = is_member first p
pairs_go_on first second (q ∷ []) p = is_member first q && is_member second p
pairs_go_on first second (q ∷ r ∷ parts) p = is_member first q && (is_member second r && pairs_go_on first second parts p)

-- behind these parts, a part may follow below a step, and others behind it, so that the step may have them all
abbrev pub goes_on : Step → List Part → Part → Bool
goes_on (step.One class) parts p = (length parts == 0) && is_member class p
goes_on (step.Optional class) parts p = (length parts == 0) && is_member class p
goes_on (step.Many class) parts p = list_all (is_member class) parts && is_member class p
goes_on (step.Some class) parts p = list_all (is_member class) parts && is_member class p
goes_on (step.Pairs first second) parts p = pairs_go_on first second parts p
goes_on _ parts p = false

-- a text begins what is expected: nothing that counts is left of it, or it goes on behind what is read of it
pub data Starts (prefix : List ℕ) : Goal → List ℕ → Type 0 where
  -- all of it is read
  ended : (g : Goal) (text : List ℕ) → settled text ≡ [] → Starts prefix g text
  -- a part, of which nothing is told yet
  in_part : (p : Part) (text : List ℕ) → Starts prefix (steps_left p untold 0 (steps_of p)) text → Starts prefix (one_part p) text
  -- it stops within what the step itself takes: its lines, a use, user code or a table
  in_own : (p : Part) (old new : Told) (count : ℕ) (s : template.Line) (others : List template.Line) (text more rest : List ℕ) → IsUtf8 (more ++ rest) →
      TellsOwn prefix p count s.1 s.0 old new (text ++ (more ++ rest)) rest → Starts prefix (steps_left p old count (s ∷ others)) text
  -- it stops within what the step has below
  in_below : (p : Part) (old new : Told) (count : ℕ) (s : template.Line) (others : List template.Line) (text own : List ℕ) →
      TellsOwn prefix p count s.1 s.0 old new text own → Starts prefix (below_step s.0) own → Starts prefix (steps_left p old count (s ∷ others)) text
  -- the step is read, with the trees that it has
  behind_step : (p : Part) (old new : Told) (count : ℕ) (s : template.Line) (others : List template.Line) (now : Forest) (text own mid : List ℕ) →
      may_have s.0 (parts_in now) ≡ true → TellsOwn prefix p count s.1 s.0 old new text own → Reads prefix (trees now) own mid →
      Starts prefix (steps_left p new (count + tree_count now) others) mid → Starts prefix (steps_left p old count (s ∷ others)) text
  -- some trees of the step are read, and a part begins behind them
  in_tree : (s : Step) (f : Forest) (p : Part) (text mid : List ℕ) → goes_on s (parts_in f) p ≡ true → Reads prefix (trees f) text mid →
      Starts prefix (one_part p) mid → Starts prefix (below_step s) text

-- a program begins with the lines before this one, under some prefix
abbrev pub BegunBefore : ℕ → List ℕ → Type 0
BegunBefore line text =
    (prefix : List ℕ) × IsUtf8 prefix × (is_prefix prefix ≡ true) × Starts prefix (one_part part.Program) (first_lines (line - 1) text)

-- a program begins with the lines before the one that is named, which is at most one past the last; but where memory is wanting
abbrev pub IsBegun : List ℕ → ReadFault → Type 0
IsBegun text (fault.NoForm line) = (line ≤ past_last text) × BegunBefore line text
IsBegun text fault.Memory = Unit {0}

-- what is left at a cursor, but of the first n lines of the whole text alone
pub record FrontLike (n : ℕ) (c : Cursor) (text : List ℕ) : Type 0 where
  pub like : Like n c text
  pub front : take c.raw c.text.now ++ text ≡ first_lines n c.text.now

-- what holds of the lines before the last one that was looked at, if that was not looked at before
abbrev pub OfNewLook : ℕ → Cursor → ℕ → (List ℕ → Type 0) → Type 0
OfNewLook looked c now Holds = (n : ℕ) → looked ≤ n → n + 1 ≡ now → (text : List ℕ) → FrontLike n c text → Holds text

-- what a call leaves that looked at lines for what is expected: those before the last one begin it
abbrev pub Begun : Goal → Reader → Reader → Type 0
Begun goal old new = OfNewLook old.looked old.cursor new.looked (Starts old.prefix.now goal)

-- a part of a class begins
abbrev pub MemberStarts : List ℕ → Class → List ℕ → Type 0
MemberStarts prefix class text = (m : Part) × (is_member class m ≡ true) × Starts prefix (one_part m) text

-- a part begins, or is read, and one of a class begins behind it
abbrev pub PairStarts : List ℕ → Part → Class → List ℕ → Type 0
PairStarts prefix p class text =
    Starts prefix (one_part p) text ⊎ ((f : Forest) × (mid : List ℕ) × (parts_in f ≡ p ∷ []) × Reads prefix (trees f) text mid × MemberStarts prefix class mid)

-- a step of a part begins, whatever steps are behind it
abbrev pub StepStarts : List ℕ → Growing → ℕ → template.Line → List ℕ → Type 0
StepStarts prefix g count s text = (others : List template.Line) → Starts prefix (steps_left g.part (told g) count (s ∷ others)) text

-- what is told behind the next line that counts: up to the one behind what was taken, or up to the line that doesn't fit
abbrev pub OwnBegun : Cursor → (List ℕ → Type 0) → Result Cursor ℕ → Type 0
OwnBegun c Holds (Ok next) = OfNewLook (next_number c) c (next_number next) Holds
OwnBegun c Holds (Err line) = OfNewLook (next_number c) c line Holds
