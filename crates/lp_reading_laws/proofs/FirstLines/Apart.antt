-- Where the test passes, lines that show an opening don't begin a beginning.
use Rattle.std.proofs.Common.{◌≡◌, ℕ, ◌<◌, ◌≤◌, zero, suc, Bool, true, false, List, [], ◌∷◌, ◌++◌, length, map, get_or, drop, codes, Some, ⊎_elim, refl, sym, ◌∙◌, ap, subst, arith, eqb, append-nil}
use Rattle.std.specs.List.{list_all, starts_with}
use Rattle.std.proofs.lemmas.Bool.{and_parts, or_cases, cases_lt, both_ways}
use Rattle.std.proofs.lemmas.List.{get_or_append_left}
use Rattle.lp_form.specs.Classes.{members_of}
use Rattle.lp_form.specs.Templates.{Piece, steps_of, holes_of}
use Rattle.lp_form.specs.Templates as template
use Rattle.lp_form.specs.declared.class.Class.{Class}
use Rattle.lp_form.specs.declared.part.Part.{Part}
use Rattle.lp_form.specs.declared.part.Part.TheVariants as part
use Rattle.lp_form.specs.declared.template.Kind.{Kind}
use Rattle.lp_form.specs.declared.template.Slot.{Slot}
use Rattle.lp_form.specs.declared.template.Slot.TheVariants.{Nothing, Prefix, Hole}
use Rattle.lp_form.specs.declared.template.Step.{Step}
use Rattle.lp_form.specs.declared.template.Step.TheVariants as step
use Rattle.lp_spelling.specs.Lines.{line_of, IsTold, AreTold}
use Rattle.lp_spelling.specs.Fillings.{Fills}
use Rattle.lp_spelling.specs.LineReading.{kind_of, line_at, AllFill}
use Rattle.lp_spelling.proofs.Reading.{starts_ok, line_extends}
use Rattle.lp_reading_laws.specs.Holes.Found.{are_words}
use Rattle.lp_program.specs.Begins.{Lines, member, SomeMember, ReadsFirst, IsUseFirst, StepBegins, StepsBegin, Begins}
use Rattle.lp_reading_laws.specs.FirstLines.Opens.{StepOpens, StepsOpen, Anything, Opens}
use Rattle.lp_reading_laws.specs.FirstLines.Signs.{Shows, signs}
use Rattle.lp_reading_laws.specs.FirstLines.Signs.Sign.{byte, unknown}
use Rattle.lp_reading_laws.specs.FirstLines.ApartTests.{Beginning, Opening, Test, whole_beginning, whole_opening, lines_apart, use_line, class_apart, step_apart, line_apart, begin_apart, steps_begin_apart, never, apart_within, end_text, ends_apart}
use Rattle.lp_program.proofs.Spelled.{line_spelled}
use Rattle.lp_reading_laws.proofs.FirstLines.Showing.{SlotFills, PartsFill, shows_text, IsLine, is_line}
use Rattle.lp_reading_laws.proofs.FirstLines.Fronts.{ends_sound, fronts_sound}

-- two lines that the test tells apart are not one
lines_sound : (prefix : List ℕ) (kinds : List Kind) (p : List Piece) (others : List Kind) (q : List Piece) (x : List ℕ) → are_words prefix ≡ true → lines_apart kinds p others q ≡ true →
    IsLine prefix kinds p x → IsLine prefix others q x → ⊥
unfolding lines_apart
lines_sound prefix kinds p others q x w h a b =
    let ea = a.end in
    let eb = b.end in
    ⊎_elim
    (λ e. ends_sound (end_text p) (end_text q) ea.0 eb.0 e (sym ea.1 ∙ eb.1))
    (λ f. fronts_sound prefix (signs kinds p) (signs others q) x w f a.shown b.shown)
    (or_cases (ends_apart p q) _ h)

-- all holes that are known hold what they may
abbrev KnownFill : List ℕ → List Kind → List (List ℕ) → Type 0
KnownFill prefix kinds known = AllFill prefix kinds 0 known

told_fills : (prefix : List ℕ) (kinds : List Kind) (holes : List (List ℕ)) (slot : Slot) → KnownFill prefix kinds holes → IsTold (length holes) slot → SlotFills prefix kinds holes slot
told_fills prefix kinds holes Nothing f t = tt
told_fills prefix kinds holes Prefix f t = tt
told_fills prefix kinds holes (Hole k) f t = λ lt. f k (omega arith) t

told_fill : (prefix : List ℕ) (kinds : List Kind) (holes : List (List ℕ)) (parts : List Piece) → KnownFill prefix kinds holes → AreTold (length holes) parts → PartsFill prefix kinds holes parts
unfolding AreTold
told_fill prefix kinds holes [] f t = tt
told_fill prefix kinds holes (p ∷ parts) f t = (told_fills prefix kinds holes p.1 f t.0, told_fill prefix kinds holes parts f t.1)

more_fill : (prefix : List ℕ) (kinds : List Kind) (known more holes : List (List ℕ)) → holes ≡ known ++ more → KnownFill prefix kinds known → AllFill prefix kinds (length known) holes → KnownFill prefix kinds holes
more_fill prefix kinds known more holes e f g k le lt =
    ⊎_elim
    (λ (small : k < length known).
    let at : get_or known k [] ≡ get_or holes k [] = sym (ap (λ (y : List (List ℕ)). get_or y k []) e ∙ get_or_append_left known more [] k small) in
    subst (λ (y : List ℕ). Fills prefix (kind_of kinds k) y) at (f k le small))
    (λ (large : length known ≤ k). g k large lt)
    (cases_lt k (length known))

-- a line that is read
read_line : (prefix : List ℕ) (kinds : List Kind) (pieces : List Piece) (known holes : List (List ℕ)) (l : List ℕ) → line_at prefix kinds pieces known l ≡ Some holes → KnownFill prefix kinds known →
    AllFill prefix kinds (length known) holes → IsLine prefix kinds pieces l × KnownFill prefix kinds holes
read_line prefix kinds pieces known holes l h f g =
    let s = line_spelled prefix kinds pieces known l holes h in
    let m = line_extends prefix kinds pieces known l holes h in
    let all : KnownFill prefix kinds holes = more_fill prefix kinds known m.0 holes m.1 f g in
    (subst (λ (x : List ℕ). IsLine prefix kinds pieces x) (sym s.0) (is_line prefix kinds holes pieces (told_fill prefix kinds holes pieces all s.1)), all)

-- the holes of a printed part hold what they may
abbrev pub HolesFill : List ℕ → List Kind → List (List ℕ) → Type 0
HolesFill prefix kinds holes = (k : ℕ) → k < length kinds → Fills prefix (kind_of kinds k) (get_or holes k [])

printed_fills : (prefix : List ℕ) (kinds : List Kind) (holes : List (List ℕ)) (slot : Slot) → HolesFill prefix kinds holes → SlotFills prefix kinds holes slot
printed_fills prefix kinds holes Nothing f = tt
printed_fills prefix kinds holes Prefix f = tt
printed_fills prefix kinds holes (Hole k) f = f k

printed_fill : (prefix : List ℕ) (kinds : List Kind) (holes : List (List ℕ)) (parts : List Piece) → HolesFill prefix kinds holes → PartsFill prefix kinds holes parts
printed_fill prefix kinds holes [] f = tt
printed_fill prefix kinds holes (p ∷ parts) f = (printed_fills prefix kinds holes p.1 f, printed_fill prefix kinds holes parts f)

-- a line that is printed
printed_line : (prefix : List ℕ) (kinds : List Kind) (holes : List (List ℕ)) (parts : List Piece) (l : List ℕ) → HolesFill prefix kinds holes → l ≡ line_of prefix holes parts → IsLine prefix kinds parts l
printed_line prefix kinds holes parts l f e = subst (λ (x : List ℕ). IsLine prefix kinds parts x) (sym e) (is_line prefix kinds holes parts (printed_fill prefix kinds holes parts f))

-- the first line of a use
use_first : (prefix l : List ℕ) → starts_with eqb l (codes "use ") ≡ true → IsLine prefix [] use_line l
unfolding Shows
use_first prefix l h =
    let text : List ℕ = codes "use " in
    let rest : List ℕ = drop (length text) l in
    record {
      end = (l, sym (append-nil l));
      shown = subst (λ (x : List ℕ). Shows prefix (map byte text ++ unknown ∷ []) x) (sym (starts_ok text l h)) (shows_text prefix text (unknown ∷ []) rest tt);
    }

-- the lines begin what is left of a part; they show what is left of one
abbrev pub BegunBy : List ℕ → Beginning → Lines → Type 0
BegunBy prefix b lines =
    (depth : ℕ) × (known : List (List ℕ)) × AllFill prefix b.1 0 known × StepsBegin (λ class rest. SomeMember class (λ m. Begins depth prefix m rest)) prefix b.1 b.0 known b.2 lines

abbrev pub ShownBy : (Lines → Type 0) → List ℕ → Opening → Lines → Type 0
ShownBy Behind prefix o lines =
    (depth : ℕ) × (holes : List (List ℕ)) × HolesFill prefix o.0 holes × StepsOpen (λ class rest. SomeMember class (λ m. Opens depth prefix m rest)) Behind prefix holes o.1 lines

abbrev IsSound : (Lines → Type 0) → List ℕ → Test → Type 0
IsSound Behind prefix go = (b : Beginning) (o : Opening) (lines : Lines) → go b o ≡ true → BegunBy prefix b lines → ShownBy Behind prefix o lines → ⊥

abbrev pub EndIsSound : (Lines → Type 0) → List ℕ → (Beginning → Bool) → Type 0
EndIsSound Behind prefix ended = (b : Beginning) (lines : Lines) → ended b ≡ true → BegunBy prefix b lines → Behind lines → ⊥

-- one of a list of which all pass
pub all_at : (f : Part → Bool) (parts : List Part) (i : ℕ) (d : Part) → list_all f parts ≡ true → i < length parts → f (get_or parts i d) ≡ true
all_at f [] i d h lt = absurd (omega arith)
all_at f (p ∷ parts) zero d h lt = (and_parts (f p) (list_all f parts) h).0
all_at f (p ∷ parts) (suc i) d h lt = all_at f parts i d (and_parts (f p) (list_all f parts) h).1 (omega arith)

part_shown : (prefix : List ℕ) (depth : ℕ) (p : Part) (lines : Lines) → Opens depth prefix p lines → ShownBy Anything prefix (whole_opening p) lines
unfolding Opens
part_shown prefix zero p lines h = absurd h
part_shown prefix (suc depth) p lines h = let f = h.1 in (depth, h.0, f.fills, h.2)

pub part_begun : (prefix : List ℕ) (depth : ℕ) (p : Part) (lines : Lines) → Begins depth prefix p lines → BegunBy prefix (whole_beginning p) lines
unfolding Begins
part_begun prefix zero p lines h = absurd h
part_begun prefix (suc depth) p lines h = (depth, [], (λ k le lt. absurd (omega arith)), h)

class_sound : (prefix : List ℕ) (inner : Test) (b : Beginning) (c : Class) (lines : Lines) (depth : ℕ) → IsSound Anything prefix inner → class_apart inner b c ≡ true → BegunBy prefix b lines →
    SomeMember c (λ m. Opens depth prefix m lines) → ⊥
class_sound prefix inner b c lines depth sound h begun s =
    sound b (whole_opening (member c s.0)) lines (all_at (λ m. inner b (whole_opening m)) (members_of c) s.0 part.Program h s.1) begun (part_shown prefix depth (member c s.0) lines s.2)

-- what is shown of a step, of which the lines are l and others
abbrev StepShown : (Lines → Type 0) → List ℕ → ℕ → List (List ℕ) → Step → List Piece → List template.Line → List ℕ → Lines → Type 0
StepShown Behind prefix depth holes s q steps l rest =
    StepOpens s
    ((l ≡ line_of prefix holes q) × StepsOpen (λ class x. SomeMember class (λ m. Opens depth prefix m x)) Anything prefix holes steps rest)
    (StepsOpen (λ class x. SomeMember class (λ m. Opens depth prefix m x)) Behind prefix holes steps (l ∷ rest))
    (starts_with eqb l (codes "use ") ≡ true)
    (λ class. SomeMember class (λ m. Opens depth prefix m (l ∷ rest)))

step_sound : (Behind : Lines → Type 0) (prefix : List ℕ) (go inner : Test) (b : Beginning) (kinds : List Kind) (pieces : List Piece) (next : Opening → Bool) (l : List ℕ) (rest : Lines) →
    are_words prefix ≡ true → IsSound Behind prefix go → IsSound Anything prefix inner → BegunBy prefix b (l ∷ rest) → IsLine prefix kinds pieces l →
    ((o : Opening) → next o ≡ true → ShownBy Anything prefix o rest → ⊥) →
    (s : Step) (others : List Kind) (q : List Piece) (steps : List template.Line) (depth : ℕ) (holes : List (List ℕ)) → step_apart go inner b kinds pieces next s others q steps ≡ true → HolesFill prefix others holes →
    StepShown Behind prefix depth holes s q steps l rest → ⊥
step_sound Behind prefix go inner b kinds pieces next l rest w gs is begun line ns (step.Line blanks) others q steps depth holes h f shown =
    ⊎_elim
    (λ a. lines_sound prefix kinds pieces others q l w a line (printed_line prefix others holes q l f shown.0))
    (λ n. ns (others, steps) n (depth, holes, f, shown.1))
    (or_cases (lines_apart kinds pieces others q) _ h)
step_sound Behind prefix go inner b kinds pieces next l rest w gs is begun line ns step.Empty others q steps depth holes h f shown = gs b (others, steps) (l ∷ rest) h begun (depth, holes, f, shown)
step_sound Behind prefix go inner b kinds pieces next l rest w gs is begun line ns step.Note others q steps depth holes h f shown = gs b (others, steps) (l ∷ rest) h begun (depth, holes, f, shown)
step_sound Behind prefix go inner b kinds pieces next l rest w gs is begun line ns step.NoteAlways others q steps depth holes h f shown = gs b (others, steps) (l ∷ rest) h begun (depth, holes, f, shown)
step_sound Behind prefix go inner b kinds pieces next l rest w gs is begun line ns step.Use others q steps depth holes h f shown =
    lines_sound prefix kinds pieces [] use_line l w h line (use_first prefix l shown)
step_sound Behind prefix go inner b kinds pieces next l rest w gs is begun line ns (step.One c) others q steps depth holes h f shown = class_sound prefix inner b c (l ∷ rest) depth is h begun shown
step_sound Behind prefix go inner b kinds pieces next l rest w gs is begun line ns (step.Some c) others q steps depth holes h f shown = class_sound prefix inner b c (l ∷ rest) depth is h begun shown
step_sound Behind prefix go inner b kinds pieces next l rest w gs is begun line ns (step.Optional c) others q steps depth holes h f shown =
    let p = and_parts (class_apart inner b c) (go b (others, steps)) h in
    ⊎_elim (λ m. class_sound prefix inner b c (l ∷ rest) depth is p.0 begun m) (λ o. gs b (others, steps) (l ∷ rest) p.1 begun (depth, holes, f, o)) shown
step_sound Behind prefix go inner b kinds pieces next l rest w gs is begun line ns (step.Many c) others q steps depth holes h f shown =
    let p = and_parts (class_apart inner b c) (go b (others, steps)) h in
    ⊎_elim (λ m. class_sound prefix inner b c (l ∷ rest) depth is p.0 begun m) (λ o. gs b (others, steps) (l ∷ rest) p.1 begun (depth, holes, f, o)) shown
step_sound Behind prefix go inner b kinds pieces next l rest w gs is begun line ns (step.Pairs c d) others q steps depth holes h f shown =
    let p = and_parts (class_apart inner b c) (go b (others, steps)) h in
    ⊎_elim (λ m. class_sound prefix inner b c (l ∷ rest) depth is p.0 begun m) (λ o. gs b (others, steps) (l ∷ rest) p.1 begun (depth, holes, f, o)) shown
step_sound Behind prefix go inner b kinds pieces next l rest w gs is begun line ns _ others q steps depth holes h f shown = both_ways false refl h

-- a line that is read, against what is shown
line_sound : (Behind : Lines → Type 0) (prefix : List ℕ) (go inner : Test) (ended : Beginning → Bool) (b : Beginning) (kinds : List Kind) (pieces : List Piece) (next : Opening → Bool) (l : List ℕ) (rest : Lines) →
    are_words prefix ≡ true → IsSound Behind prefix go → IsSound Anything prefix inner → EndIsSound Behind prefix ended → BegunBy prefix b (l ∷ rest) → IsLine prefix kinds pieces l →
    ((o : Opening) → next o ≡ true → ShownBy Anything prefix o rest → ⊥) →
    (others : List Kind) (steps : List template.Line) → line_apart go inner ended b kinds pieces next others steps ≡ true → ShownBy Behind prefix (others, steps) (l ∷ rest) → ⊥
line_sound Behind prefix go inner ended b kinds pieces next l rest w gs is es begun line ns others [] h shown = es b (l ∷ rest) h begun shown.3
line_sound Behind prefix go inner ended b kinds pieces next l rest w gs is es begun line ns others (s ∷ steps) h shown =
    step_sound Behind prefix go inner b kinds pieces next l rest w gs is begun line ns s.0 others s.1 steps shown.0 shown.1 h shown.2 shown.3

-- the step in front of what is begun
abbrev StepBegun : List ℕ → ℕ → Bool → List Kind → List (List ℕ) → Step → List Piece → List template.Line → Lines → Type 0
StepBegun prefix depth seen kinds known s pieces steps lines =
    StepBegins s seen
    (ReadsFirst prefix kinds pieces known lines (λ holes rest. StepsBegin (λ class x. SomeMember class (λ m. Begins depth prefix m x)) prefix kinds true holes steps rest))
    (StepsBegin (λ class x. SomeMember class (λ m. Begins depth prefix m x)) prefix kinds seen known steps lines)
    (IsUseFirst lines)
    (λ class. SomeMember class (λ m. Begins depth prefix m lines))

begin_sound : (Behind : Lines → Type 0) (prefix : List ℕ) (go inner : Test) (ended : Beginning → Bool) (b : Beginning) (o : Opening) →
    are_words prefix ≡ true → IsSound Behind prefix go → IsSound Anything prefix inner → EndIsSound Behind prefix ended →
    (s : Step) (seen : Bool) (kinds : List Kind) (pieces : List Piece) (steps : List template.Line) (lines : Lines) (depth : ℕ) (known : List (List ℕ)) → begin_apart go inner ended b s seen kinds pieces steps o ≡ true →
    BegunBy prefix b lines → ShownBy Behind prefix o lines → KnownFill prefix kinds known → StepBegun prefix depth seen kinds known s pieces steps lines → ⊥
begin_sound Behind prefix go inner ended b o w gs is es (step.Line blanks) seen kinds pieces steps [] depth known h begun shown f st = st
begin_sound Behind prefix go inner ended b o w gs is es (step.Line blanks) seen kinds pieces steps (l ∷ rest) depth known h begun shown f st =
    let r = read_line prefix kinds pieces known st.0 l st.1 f st.2 in
    line_sound Behind prefix go inner ended b kinds pieces (inner (true, kinds, steps)) l rest w gs is es begun r.0
    (λ x n behind. is (true, kinds, steps) x rest n (depth, st.0, r.1, st.3) behind)
    o.0 o.1 h shown
begin_sound Behind prefix go inner ended b o w gs is es step.Empty seen kinds pieces steps lines depth known h begun shown f st = gs (seen, kinds, steps) o lines h (depth, known, f, st) shown
begin_sound Behind prefix go inner ended b o w gs is es step.Note seen kinds pieces steps lines depth known h begun shown f st = gs (seen, kinds, steps) o lines h (depth, known, f, st) shown
begin_sound Behind prefix go inner ended b o w gs is es step.NoteAlways seen kinds pieces steps lines depth known h begun shown f st = gs (seen, kinds, steps) o lines h (depth, known, f, st) shown
begin_sound Behind prefix go inner ended b o w gs is es step.Use seen kinds pieces steps [] depth known h begun shown f st = st
begin_sound Behind prefix go inner ended b o w gs is es step.Use seen kinds pieces steps (l ∷ rest) depth known h begun shown f st =
    line_sound Behind prefix go inner ended b [] use_line (λ x. false) l rest w gs is es begun (use_first prefix l st) (λ x n behind. both_ways false refl n) o.0 o.1 h shown
begin_sound Behind prefix go inner ended b o w gs is es (step.One c) false kinds pieces steps lines depth known h begun shown f st =
    gs (whole_beginning (member c st.0)) o lines (all_at (λ m. go (whole_beginning m) o) (members_of c) st.0 part.Program h st.1) (part_begun prefix depth (member c st.0) lines st.2) shown
begin_sound Behind prefix go inner ended b o w gs is es _ seen kinds pieces steps lines depth known h begun shown f st = both_ways false refl h

steps_sound : (Behind : Lines → Type 0) (prefix : List ℕ) (go inner : Test) (ended : Beginning → Bool) → are_words prefix ≡ true → IsSound Behind prefix go → IsSound Anything prefix inner → EndIsSound Behind prefix ended →
    (seen : Bool) (kinds : List Kind) (steps : List template.Line) (o : Opening) (lines : Lines) → steps_begin_apart go inner ended seen kinds steps o ≡ true →
    BegunBy prefix (seen, kinds, steps) lines → ShownBy Behind prefix o lines → ⊥
steps_sound Behind prefix go inner ended w gs is es seen kinds [] o lines h begun shown = both_ways false refl h
steps_sound Behind prefix go inner ended w gs is es seen kinds (s ∷ steps) o lines h begun shown =
    begin_sound Behind prefix go inner ended (seen, kinds, s ∷ steps) o w gs is es s.0 seen kinds s.1 steps lines begun.0 begun.1 h begun shown begun.2 begun.3

pub never_sound : (Behind : Lines → Type 0) (prefix : List ℕ) → EndIsSound Behind prefix never
never_sound Behind prefix b lines h begun behind = both_ways false refl h

pub apart_sound : (n : ℕ) (Behind : Lines → Type 0) (prefix : List ℕ) (ended : Beginning → Bool) → are_words prefix ≡ true → EndIsSound Behind prefix ended →
    (b : Beginning) (o : Opening) (lines : Lines) → apart_within n ended b o ≡ true → BegunBy prefix b lines → ShownBy Behind prefix o lines → ⊥
apart_sound zero Behind prefix ended w es b o lines h begun shown = both_ways false refl h
apart_sound (suc n) Behind prefix ended w es b o lines h begun shown =
    steps_sound Behind prefix (apart_within n ended) (apart_within n never) ended w
    (λ x y z i j k. apart_sound n Behind prefix ended w es x y z i j k)
    (λ x y z i j k. apart_sound n Anything prefix never w (never_sound Anything prefix) x y z i j k)
    es b.0 b.1 b.2 o lines h begun shown

-- lines that the second part shows don't begin the first
pub parts_sound : (prefix : List ℕ) (p q : Part) (lines : Lines) (n m bound : ℕ) → are_words prefix ≡ true → apart_within bound never (whole_beginning p) (whole_opening q) ≡ true →
    Opens n prefix q lines → Begins m prefix p lines → ⊥
parts_sound prefix p q lines n m bound w h opens begins =
    apart_sound bound Anything prefix never w (never_sound Anything prefix) (whole_beginning p) (whole_opening q) lines h (part_begun prefix m p lines begins) (part_shown prefix n q lines opens)
