-- What a text reads as is chosen.
use Rattle.std.proofs.Common.{◌≡◌, ℕ, ◌+◌, ◌≤◌, zero, suc, Bool, true, false, ◌||◌, ◌==◌, cond, List, [], ◌∷◌, ◌++◌, length, take, refl, sym, ◌∙◌, ap, subst, arith, append_assoc}
use Rattle.std.specs.List.{list_all}
use Rattle.std.specs.Str.{IsUtf8}
use Rattle.std.proofs.lemmas.Bool.{and_parts, both_ways, eqb-true, not-true}
use Rattle.std.proofs.lemmas.List.{take_all}
use Rattle.lp_form.specs.Templates.{Piece, steps_of, holes_of}
use Rattle.lp_form.specs.Templates as template
use Rattle.lp_form.specs.declared.template.Step.{Step}
use Rattle.lp_form.specs.declared.template.Step.TheVariants as step
use Rattle.lp_spelling.specs.LineHoles.{known_in}
use Rattle.lp_reading_laws.specs.Holes.Found.{are_words, AreFilled, LinesFound}
use Rattle.lp_reading_laws.proofs.Holes.Law.{holes_found}
use Rattle.lp_program.specs.Begins.{Lines}
use Rattle.lp_program.specs.Reads.{TakesOwn, graft, parts_in, may_have, hole_count, Task, Reads}
use Rattle.lp_program.specs.Reads.Reads.{no_tree, one_tree, no_step, one_step}
use Rattle.lp_program.specs.Reads.Task.{trees, steps}
use Rattle.lp_program.specs.Trees.{Content, Forest, tree_count}
use Rattle.lp_program.specs.Trees.Forest.{bare, tree}
use Rattle.lp_reading_laws.specs.FirstLines.Behind.{BeginNone, may_be_bare, step_tails, steps_tails, tails_within, BeginNoMember}
use Rattle.lp_reading_laws.proofs.FirstLines.Printed.{none_known}
use Rattle.lp_reading_laws.specs.Texts.Laws.{AreParted}
use Rattle.lp_reading_laws.specs.Texts.TextLines.{HasLines}
use Rattle.lp_program.proofs.Held.{contents_graft}
use Rattle.lp_reading_laws.proofs.Texts.Begun.{parted_parts}
use Rattle.lp_reading_laws.proofs.Texts.Shown.{filled_read}
use Rattle.lp_program.specs.Choosing.{contents, BelowChosen, StepsChosen, grown, PartChosen}
use Rattle.lp_reading_laws.specs.Choosing.Laws.{is_table, have_table, told_content, told_trees, BodiesTold, TreesAreChosen}
use Rattle.lp_program.specs.Telling.{untold, TellsOwn}
use Rattle.lp_reading_laws.proofs.Choosing.Lists.{all_right}
use Rattle.lp_reading_laws.proofs.Choosing.Templates.{stands_step, stands_within, program_stands, program_ends, one_table, tables_one, known_step, known_all, knows_all, own_told, all_told, templates_tell, part_step_at}
use Rattle.lp_reading_laws.proofs.Choosing.Following.{Follows, follows_itself, follows_on, own_follows}
use Rattle.lp_reading_laws.proofs.Choosing.Taking.{task_takes}
use Rattle.lp_reading_laws.proofs.Choosing.Owning.{so_far, tabled_after, tabled_by, step_told}
use Rattle.lp_reading_laws.proofs.Choosing.Ending.{StepPlace, at_end}
use Rattle.lp_reading_laws.proofs.Choosing.Each.{TreeChosen, EachChosen}
use Rattle.lp_reading_laws.proofs.Choosing.Bodies.{brace_stands, told_parts, told_graft, count_graft, count_told}
use Rattle.lp_reading_laws.proofs.Choosing.Below.{StepReads, step_below}

-- steps of a part, behind such trees
pub record StepsGoing (prefix all : List ℕ) (c : Content) (front ss : List template.Line) (n k : ℕ) (b : Bool) (count : ℕ) (before later : Forest) (text rest : List ℕ) : Type 0 where
  pub small : n ≤ 14
  pub filled : AreFilled prefix c.part c.holes
  pub place : steps_of c.part ≡ front ++ ss
  pub found : LinesFound prefix (holes_of c.part) c.holes k ss
  pub told : all_told (length (holes_of c.part)) k ss ≡ true
  pub size : known_all ss k ≡ length c.holes
  pub tables : b ≡ true → have_table ss ≡ false
  pub stands : list_all (λ s. stands_step (stands_within n) s.0) ss ≡ true
  pub counted : count ≡ tree_count before
  pub bodies : BodiesTold prefix all (contents before) (told_trees later)
  pub behind : (lines : Lines) → HasLines rest lines → BeginNone prefix (steps_tails (tails_within n) ss) lines
  pub utf8 : IsUtf8 text
  pub follows : Follows all text

abbrev TaskChosen : List ℕ → List ℕ → Task → List ℕ → List ℕ → Type 0
TaskChosen prefix all (trees f) text rest = EachChosen prefix all f text rest
TaskChosen prefix all (steps c count ss later) text rest =
    (front : List template.Line) (n k : ℕ) (b : Bool) (before : Forest) → StepsGoing prefix all c front ss n k b count before later text rest →
    StepsChosen (BelowChosen (suc (suc n)) prefix (PartChosen (suc (suc n)) prefix)) prefix c.part before ss (so_far c k b) (so_far c (known_all ss k) (tabled_by ss b)) (told_trees later) text rest

abbrev TaskParted : List ℕ → Task → Type 0
TaskParted prefix (trees f) = AreParted prefix f
TaskParted prefix (steps c count ss later) = AreParted prefix later

-- behind the one hole of a part nothing stands
last_found : (prefix : List ℕ) (c : Content) (k : ℕ) (ss : List template.Line) → (length ss == 0) ≡ true → LinesFound prefix (holes_of c.part) c.holes k ss
unfolding LinesFound
last_found prefix c k [] h = tt
last_found prefix c k (s ∷ ss) h = absurd (omega (arith, eqb-true (length (s ∷ ss)) 0 h))

-- the lines behind a step are found
next_found : (prefix : List ℕ) (c : Content) (others : List template.Line) (k n : ℕ) (pieces : List Piece) (s : Step) → own_told n k s pieces others ≡ true → LinesFound prefix (holes_of c.part) c.holes (known_in pieces k) others →
    LinesFound prefix (holes_of c.part) c.holes (known_step s pieces k) others
next_found prefix c others k n pieces (step.Line blanks) test found = found
next_found prefix c others k n pieces (step.Each blanks) test found = found
next_found prefix c others k n pieces step.Use test found = last_found prefix c (suc k) others (and_parts (k == 0) (length others == 0) (and_parts (n == 0) _ test).1).1
next_found prefix c others k n pieces step.Code test found = last_found prefix c (suc k) others (and_parts (k == 0) (length others == 0) (and_parts (n == 0) _ test).1).1
next_found prefix c others k n pieces _ test found = subst (λ j. LinesFound prefix (holes_of c.part) c.holes j others) (none_known pieces k test) found

-- no table stands behind one
next_table : (others : List template.Line) (pieces : List Piece) (b : Bool) (s : Step) → one_table s pieces others ≡ true → (b ≡ true → have_table ((s, pieces) ∷ others) ≡ false) → tabled_after s b ≡ true → have_table others ≡ false
next_table others pieces b step.Entries test none e = not-true (have_table others) test
next_table others pieces b _ test none e = none e

-- the steps of a part tell its table
tabled_any : (ss : List template.Line) (b : Bool) → tabled_by ss b ≡ (b || have_table ss)
tabled_any [] true = refl
tabled_any [] false = refl
tabled_any (s ∷ ss) b = tabled_any ss (tabled_after s.0 b) ∙ after s.0 b (have_table ss)
  where
    after : (t : Step) (x y : Bool) → (tabled_after t x || y) ≡ (x || (is_table t || y))
    after step.Entries true y = refl
    after step.Entries false y = refl
    after _ true y = refl
    after _ false y = refl

all_known : (c : Content) → length c.holes ≡ hole_count c.part → take (known_all (steps_of c.part) 0) c.holes ≡ c.holes
all_known c size = let e = knows_all c.part in take_all (known_all (steps_of c.part) 0) c.holes (omega (arith, e, size))

-- what is told of a part in the end
content_told : (c : Content) → length c.holes ≡ hole_count c.part → told_content c ≡ grown c.part (so_far c (known_all (steps_of c.part) 0) (tabled_by (steps_of c.part) false))
content_told c size =
    ap (λ (h : List (List ℕ)). record (told_content c) { holes = h }) (sym (all_known c size))
    ∙ ap (λ b. record { part = c.part; holes = take (known_all (steps_of c.part) 0) c.holes; numbers = cond b c.numbers []; notes = [] }) (sym (tabled_any (steps_of c.part) false))

-- a part, whose steps are chosen
part_chosen : (prefix : List ℕ) (n : ℕ) (c : Content) (below : Forest) (text mid : List ℕ) → length c.holes ≡ hole_count c.part →
    StepsChosen (BelowChosen (suc (suc n)) prefix (PartChosen (suc (suc n)) prefix)) prefix c.part bare (steps_of c.part) untold (so_far c (known_all (steps_of c.part) 0) (tabled_by (steps_of c.part) false)) (told_trees below) text mid →
    PartChosen (suc (suc (suc n))) prefix c.part (told_trees (tree c below bare)) text mid
unfolding PartChosen
part_chosen prefix n c below text mid size chosen = (
  so_far c (known_all (steps_of c.part) 0) (tabled_by (steps_of c.part) false),
  told_trees below,
  ap (λ (x : Content). tree x (told_trees below) bare) (content_told c size),
  ap length (all_known c size) ∙ size,
  chosen,
)

-- a tree
tree_is_chosen : (prefix all : List ℕ) (c : Content) (below : Forest) (text mid : List ℕ) → are_words prefix ≡ true → AreParted prefix (tree c below bare) → length c.holes ≡ hole_count c.part → AreFilled prefix c.part c.holes → IsUtf8 text → Follows all text →
    TaskChosen prefix all (steps c 0 (steps_of c.part) below) text mid → TreeChosen prefix all c below text mid
tree_is_chosen prefix all c below text mid w parted size filled u follows chosen zero le stands bodies ended = absurd (both_ways false refl stands)
tree_is_chosen prefix all c below text mid w parted size filled u follows chosen (suc n) le stands bodies ended =
    let known = knows_all c.part in
    part_chosen prefix n c below text mid size
    (chosen [] n 0 false bare
    (record {
      small = omega arith;
      filled = filled;
      place = refl;
      found = (holes_found prefix c.part c.holes w filled).0 parted.0;
      told = templates_tell c.part;
      size = known ∙ sym size;
      tables = λ e. absurd (both_ways false refl e);
      stands = stands;
      counted = refl;
      bodies = bodies;
      behind = ended;
      utf8 = u;
      follows = follows;
    }))

-- a step, and those behind it
steps_are_chosen : (prefix all : List ℕ) (c : Content) (count : ℕ) (s : template.Line) (others : List template.Line) (now later : Forest) (text own mid rest : List ℕ) → are_words prefix ≡ true → may_have s.0 (parts_in now) ≡ true →
    TakesOwn prefix c count s.1 s.0 text own → Reads prefix (trees now) own mid → Reads prefix (steps c (count + tree_count now) others later) mid rest → (IsUtf8 own → Follows all own → EachChosen prefix all now own mid) →
    TaskChosen prefix all (steps c (count + tree_count now) others later) mid rest → TaskChosen prefix all (steps c count (s ∷ others) (graft now later)) text rest
unfolding LinesFound
steps_are_chosen prefix all c count s others now later text own mid rest w may takes reads_now reads_later each behind front n k b before g =
    let o = own_follows prefix c count s.1 s.0 text own g.utf8 takes in
    let follows : Follows all own = follows_on all text own g.follows o in
    let t = task_takes prefix (trees now) own mid o.utf8 reads_now in
    let v : IsUtf8 mid = t.0.utf8 in
    let tells = and_parts (own_told (length (holes_of c.part)) k s.0 s.1 others) _ g.told in
    let deep = and_parts (stands_step (stands_within n) s.0) _ g.stands in
    let found = g.found in
    let fill = g.filled in
    let small = g.small in
    let bodies = told_parts prefix all (contents before) (told_trees now) (told_trees later) (subst (λ x. BodiesTold prefix all (contents before) x) (told_graft now later) g.bodies) in
    let place : StepPlace prefix c front others s n = record { words = w; filled = g.filled; place = g.place; small = omega (arith, small) } in
    let one : StepReads prefix all c front others s.0 s.1 n now own mid (contents before) = record {
      place = place;
      small = g.small;
      stands = deep.0;
      may = may;
      each = each o.utf8 follows;
      ends = λ lines h. at_end n prefix c others s (count + tree_count now) later mid rest lines v reads_later g.behind h;
      bodies = bodies.0;
      utf8 = o.utf8;
      follows = follows;
      closes = λ h. brace_stands prefix c (count + tree_count now) others later mid rest reads_later h;
    } in
    let told : TellsOwn prefix c.part count s.1 s.0 (so_far c k b) (so_far c (known_step s.0 s.1 k) (tabled_after s.0 b)) text own
    = step_told prefix c count s.1 others k b text own s.0 o.utf8 fill.fills found.0 tells.0 g.size g.tables takes in
    let more = behind (front ++ (s ∷ [])) n (known_step s.0 s.1 k) (tabled_after s.0 b) (graft before (told_trees now))
    (record {
      small = g.small;
      filled = g.filled;
      place = g.place ∙ sym (append_assoc front (s ∷ []) others);
      found = next_found prefix c others k (length (holes_of c.part)) s.1 s.0 tells.0 found.1;
      told = tells.1;
      size = g.size;
      tables = next_table others s.1 b s.0 (part_step_at one_table tables_one c.part front others s g.place) g.tables;
      stands = deep.1;
      counted = ap (λ j. j + tree_count now) g.counted ∙ ap (λ j. tree_count before + j) (sym (count_told now)) ∙ sym (count_graft before (told_trees now));
      bodies = subst (λ cs. BodiesTold prefix all cs (told_trees later)) (sym (contents_graft before (told_trees now))) bodies.1;
      behind = λ lines h. all_right (λ class. BeginNoMember prefix class lines) (step_tails (may_be_bare others) (tails_within n) s.0) (steps_tails (tails_within n) others) (g.behind lines h);
      utf8 = v;
      follows = follows_on all own mid follows t.0;
    }) in (
      so_far c (known_step s.0 s.1 k) (tabled_after s.0 b),
      record {
        first = told_trees now;
        later = told_trees later;
        mid = mid;
        trees_are = told_graft now later;
        reads = record { own = own; tells = subst (λ j. TellsOwn prefix c.part j s.1 s.0 (so_far c k b) (so_far c (known_step s.0 s.1 k) (tabled_after s.0 b)) text own) g.counted told; reads = step_below prefix all c front others s.1 n own mid (contents before) s.0 now one };
        goes_on = more;
      },
    )

task_chosen : (prefix all : List ℕ) (task : Task) (text rest : List ℕ) → are_words prefix ≡ true → TaskParted prefix task → IsUtf8 text → Follows all text → Reads prefix task text rest → TaskChosen prefix all task text rest
task_chosen prefix all _ _ _ w a u f (no_tree text) = refl
task_chosen prefix all _ _ _ w a u f (one_tree c below after text mid rest count fills inner outer) =
    let r = task_takes prefix (trees (tree c below bare)) text mid u (one_tree c below bare text mid mid count fills inner (no_tree mid)) in (
      mid,
      record {
        follows = r.0;
        takes = r.1;
        chosen = tree_is_chosen prefix all c below text mid w (a.0, a.1, tt) count (filled_read prefix c count fills) u f (task_chosen prefix all (steps c 0 (steps_of c.part) below) text mid w a.1 u f inner);
        standing = record { words = w; parted = a; reads = one_tree c below after text mid rest count fills inner outer };
      },
      task_chosen prefix all (trees after) mid rest w a.2 r.0.utf8 (follows_on all text mid f r.0) outer,
    )
task_chosen prefix all _ _ _ w a u f (no_step c count text) = λ front n k b before g. (refl, (refl, refl))
task_chosen prefix all _ _ _ w a u f (one_step c count s others now later text own mid rest may takes reads_now reads_later) =
    let q = parted_parts prefix now later a in
    let o = own_follows prefix c count s.1 s.0 text own u takes in
    let t = task_takes prefix (trees now) own mid o.utf8 reads_now in
    let follows : Follows all own = follows_on all text own f o in
    steps_are_chosen prefix all c count s others now later text own mid rest w may takes reads_now reads_later
    (λ v x. task_chosen prefix all (trees now) own mid w q.0 v x reads_now)
    (task_chosen prefix all (steps c (count + tree_count now) others later) mid rest w q.1 t.0.utf8 (follows_on all own mid follows t.0) reads_later)

pub trees_are_chosen : TreesAreChosen
trees_are_chosen prefix c below text rest w u is parted bodies reads =
    let each : EachChosen prefix text (tree c below bare) text rest = task_chosen prefix text (trees (tree c below bare)) text rest w parted u (follows_itself text u) reads in
    let stands : stands_within 14 c.part ≡ true = ap (stands_within 14) is ∙ program_stands in
    let ends : tails_within 14 (steps_of c.part) ≡ [] = ap (λ p. tails_within 14 (steps_of p)) is ∙ program_ends in
    let chosen : PartChosen 16 prefix c.part (told_trees (tree c below bare)) text each.0
    = each.1.chosen 14 (omega arith) stands bodies.1 (λ lines h. subst (λ classes. BeginNone prefix classes lines) (sym ends) tt) in
    subst (λ p. PartChosen 16 prefix p (told_trees (tree c below bare)) text rest) is
    (subst (λ (x : List ℕ). PartChosen 16 prefix c.part (told_trees (tree c below bare)) text x) (sym each.2) chosen)
