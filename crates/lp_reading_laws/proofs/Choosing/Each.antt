-- Trees that are read one after another, each chosen; and what a step has of them.
use Rattle.std.proofs.Common.{◌≡◌, ℕ, ◌<◌, ◌≤◌, suc, true, false, List, [], ◌++◌, length, refl, sym, ◌∙◌, ap, subst, arith}
use Rattle.std.specs.List.{list_all, list_any}
use Rattle.std.specs.Str.{IsUtf8}
use Rattle.std.proofs.lemmas.Bool.{and_parts, both_ways}
use Rattle.lp_form.specs.Classes.{members_of}
use Rattle.lp_form.specs.Templates.{steps_of}
use Rattle.lp_form.specs.declared.class.Class.{Class}
use Rattle.lp_form.specs.declared.class.Class.TheVariants as class_of
use Rattle.lp_form.specs.declared.part.Part.{Part}
use Rattle.lp_form.specs.declared.part.Part.TheVariants as part
use Rattle.lp_program.specs.Begins.{Lines}
use Rattle.lp_program.specs.Printed.{is_member}
use Rattle.lp_program.specs.Reads.{graft, parts_in, are_pairs}
use Rattle.lp_program.specs.Trees.{Content, Forest}
use Rattle.lp_program.specs.Trees.Forest.{bare, tree}
use Rattle.lp_reading_laws.specs.FirstLines.ApartTests.{is_body}
use Rattle.lp_reading_laws.specs.FirstLines.Behind.{is_line, all_have_lines, tails_within, BeginNone}
use Rattle.lp_reading_laws.proofs.FirstLines.Apart.{all_at}
use Rattle.lp_reading_laws.specs.Texts.TextLines.{HasLines}
use Rattle.lp_reading_laws.proofs.Texts.Parts.{member_place}
use Rattle.lp_reading_laws.specs.Choosing.Laws.{told_trees, BodiesTold}
use Rattle.lp_program.specs.Choosing.{contents, MemberChosen, ManyChosen, ClassChosen, PairChosen, PartChosen}
use Rattle.lp_reading_laws.proofs.Choosing.Following.{Follows, follows_short}
use Rattle.lp_reading_laws.proofs.Choosing.Taking.{member_lines}
use Rattle.lp_reading_laws.proofs.Choosing.Templates.{stands_within}
use Rattle.lp_reading_laws.proofs.Choosing.Picking.{Standing, seen_first, seen_chosen, seen_none}
use Rattle.lp_reading_laws.proofs.Choosing.Ending.{ClassEnded, ManyEnded, PairsEnded, next_shows, part_ended}

-- the lines behind a part begin none that may be missing at its end
abbrev pub PartEnded : ℕ → List ℕ → Part → List ℕ → Type 0
PartEnded n prefix p rest = (lines : Lines) → HasLines rest lines → BeginNone prefix (tails_within n (steps_of p)) lines

-- a tree is chosen, where parts stand at most so deep in it
abbrev pub TreeChosen : List ℕ → List ℕ → Content → Forest → List ℕ → List ℕ → Type 0
TreeChosen prefix all c below text mid =
    (n : ℕ) → n ≤ 14 → stands_within n c.part ≡ true → BodiesTold prefix all [] (told_trees below) → PartEnded n prefix c.part mid → PartChosen (suc (suc n)) prefix c.part (told_trees (tree c below bare)) text mid

-- a tree in front of others
pub record Item (prefix all : List ℕ) (c : Content) (below after : Forest) (text mid rest : List ℕ) : Type 0 where
  pub follows : Follows text mid
  pub takes : list_any (λ s. is_line s.0) (steps_of c.part) ≡ true → length mid < length text
  pub chosen : TreeChosen prefix all c below text mid
  pub standing : Standing prefix c below after text rest

abbrev pub EachChosen : List ℕ → List ℕ → Forest → List ℕ → List ℕ → Type 0
EachChosen prefix all bare text rest = rest ≡ text
EachChosen prefix all (tree c below after) text rest = (mid : List ℕ) × Item prefix all c below after text mid rest × EachChosen prefix all after mid rest

-- a class of a step, whose parts stand so deep
pub record ClassStands (n : ℕ) (class : Class) : Type 0 where
  pub small : n ≤ 14
  pub stands : list_all (stands_within n) (members_of class) ≡ true

pub part_stands : (n : ℕ) (class : Class) (p : Part) → ClassStands n class → is_member class p ≡ true → stands_within n p ≡ true
part_stands n class p s m =
    let at = member_place class p m in
    ap (stands_within n) at.2 ∙ all_at (stands_within n) (members_of class) at.0 part.Program s.stands at.1

-- one tree of a class, and what stands behind it
pub tree_chosen : (n : ℕ) (prefix all : List ℕ) (class : Class) (d : Content) (below after : Forest) (before : List Content) (text mid rest : List ℕ) → ClassStands n class → is_member class d.part ≡ true → BodiesTold prefix all before (told_trees (tree d below after)) →
    Item prefix all d below after text mid rest → ((lines : Lines) → HasLines mid lines → ClassEnded n prefix class lines) → PartChosen (suc (suc n)) prefix d.part (told_trees (tree d below bare)) text mid
tree_chosen n prefix all class d below after before text mid rest s m bodies item ended =
    item.chosen n s.small (part_stands n class d.part s m) bodies.1 (λ lines h. part_ended n prefix class d.part lines m (ended lines h))

-- a class that is no body of an action
pub member_chosen : (n : ℕ) (prefix : List ℕ) (before : List Content) (f : Forest) (text rest : List ℕ) (class : Class) → is_body class ≡ false → MemberChosen n prefix (PartChosen n prefix) class f text rest → ClassChosen n prefix (PartChosen n prefix) before class f text rest
member_chosen n prefix before f text rest class_of.ActionBody h r = absurd (both_ways true h refl)
member_chosen n prefix before f text rest _ h r = r

pub class_chosen : (n : ℕ) (prefix all : List ℕ) (class : Class) (d : Content) (below after : Forest) (before others : List Content) (text mid rest : List ℕ) → ClassStands n class → is_body class ≡ false → is_member class d.part ≡ true → IsUtf8 text →
    BodiesTold prefix all before (told_trees (tree d below after)) → Item prefix all d below after text mid rest → ((lines : Lines) → HasLines mid lines → ClassEnded n prefix class lines) →
    ClassChosen (suc (suc n)) prefix (PartChosen (suc (suc n)) prefix) others class (told_trees (tree d below bare)) text mid
class_chosen n prefix all class d below after before others text mid rest s body m u bodies item ended =
    member_chosen (suc (suc n)) prefix others (told_trees (tree d below bare)) text mid class body
    (d.part, seen_chosen prefix class d below after text rest n u body m item.standing, tree_chosen n prefix all class d below after before text mid rest s m bodies item ended)

-- behind a tree of several
pub many_behind : (n : ℕ) (prefix all : List ℕ) (class : Class) (after : Forest) (mid rest : List ℕ) → ManyEnded n prefix class rest → list_all (is_member class) (parts_in after) ≡ true → EachChosen prefix all after mid rest →
    (lines : Lines) → HasLines mid lines → ClassEnded n prefix class lines
many_behind n prefix all class bare mid rest e may each lines h = e.last lines (subst (λ (x : List ℕ). HasLines x lines) (sym each) h)
many_behind n prefix all class (tree d below after) mid rest e may each lines h =
    e.between lines (next_shows prefix class d below after mid rest lines (and_parts (is_member class d.part) _ may).0 each.1.standing.reads h)

-- a class of which a step may have several
pub record Several (n : ℕ) (class : Class) : Type 0 where
  pub stands : ClassStands n class
  pub body : is_body class ≡ false
  pub lines : all_have_lines class ≡ true

pub many_chosen : (n : ℕ) (prefix all : List ℕ) (class : Class) (now : Forest) (before : List Content) (sofar : Forest) (text rest : List ℕ) → Several n class → ManyEnded n prefix class rest → IsUtf8 text → BodiesTold prefix all before (told_trees now) →
    list_all (is_member class) (parts_in now) ≡ true → EachChosen prefix all now text rest →
    (k : ℕ) × ManyChosen (suc (suc n)) prefix (λ p behind. PartChosen (suc (suc n)) prefix p) class k sofar (told_trees now) text rest
many_chosen n prefix all class bare before sofar text rest s e u bodies may each =
    (0, (seen_none (suc (suc n)) prefix class text u (λ lines h. e.none lines (subst (λ (x : List ℕ). HasLines x lines) (sym each) h)), (refl, each)))
many_chosen n prefix all class (tree d below after) before sofar text rest s e u bodies may each =
    let p = and_parts (is_member class d.part) _ may in
    let item = each.1 in
    let first : Forest = told_trees (tree d below bare) in
    let chosen = tree_chosen n prefix all class d below after before text each.0 rest s.stands p.0 bodies item (many_behind n prefix all class after each.0 rest e p.1 each.2) in
    let more = many_chosen n prefix all class after _ (graft sofar first) each.0 rest s e item.follows.utf8 bodies.2 p.1 each.2 in (
      suc more.0,
      (
        d.part,
        seen_first prefix class d below after text rest n u s.body p.0 item.standing,
        record { first = first; later = told_trees after; mid = each.0; trees_are = refl; reads = (chosen, item.takes (member_lines class d.part p.0 s.lines)); goes_on = more.1 },
      ),
    )

-- behind the second of a pair
pair_behind : (n : ℕ) (prefix all : List ℕ) (first second : Class) (after : Forest) (mid rest : List ℕ) → PairsEnded n prefix first second rest → are_pairs first second (parts_in after) ≡ true → EachChosen prefix all after mid rest →
    (lines : Lines) → HasLines mid lines → ClassEnded n prefix second lines
pair_behind n prefix all first second bare mid rest e may each lines h = e.last lines (subst (λ (x : List ℕ). HasLines x lines) (sym each) h)
pair_behind n prefix all first second (tree d below bare) mid rest e may each lines h = absurd (both_ways false refl may)
pair_behind n prefix all first second (tree d below (tree g inner after)) mid rest e may each lines h =
    e.between lines (next_shows prefix first d below (tree g inner after) mid rest lines (and_parts (is_member first d.part) _ may).0 each.1.standing.reads h)

shorter : (mid end text : List ℕ) → Follows mid end → length mid < length text → length end < length text
shorter mid end text f lt = let short = follows_short mid end f in omega (arith, short, lt)

pub pairs_chosen : (n : ℕ) (prefix all : List ℕ) (first second : Class) (now : Forest) (before others : List Content) (sofar : Forest) (text rest : List ℕ) → Several n first → ClassStands n second → is_body second ≡ false → PairsEnded n prefix first second rest → IsUtf8 text →
    BodiesTold prefix all before (told_trees now) → are_pairs first second (parts_in now) ≡ true → EachChosen prefix all now text rest →
    (k : ℕ) × ManyChosen (suc (suc n)) prefix (λ p behind. PairChosen (suc (suc n)) prefix (PartChosen (suc (suc n)) prefix) (others ++ contents behind) second p) first k sofar (told_trees now) text rest
pairs_chosen n prefix all first second bare before others sofar text rest s t body e u bodies may each =
    (0, (seen_none (suc (suc n)) prefix first text u (λ lines h. e.none lines (subst (λ (x : List ℕ). HasLines x lines) (sym each) h)), (refl, each)))
pairs_chosen n prefix all first second (tree d below bare) before others sofar text rest s t body e u bodies may each = absurd (both_ways false refl may)
pairs_chosen n prefix all first second (tree d below (tree g inner after)) before others sofar text rest s t body e u bodies may each =
    let p = and_parts (is_member first d.part) _ may in
    let q = and_parts (is_member second g.part) _ p.1 in
    let item = each.1 in
    let next = each.2.1 in
    let end : List ℕ = each.2.0 in
    let one : Forest = told_trees (tree d below bare) in
    let two : Forest = told_trees (tree g inner bare) in
    let chosen = tree_chosen n prefix all first d below (tree g inner after) before text each.0 rest s.stands p.0 bodies item
    (λ lines h. e.within lines (next_shows prefix second g inner after each.0 rest lines q.0 next.standing.reads h)) in
    let behind = class_chosen n prefix all second g inner after _ ((others ++ contents sofar) ++ contents one) each.0 end rest t body q.0 item.follows.utf8 bodies.2 next (pair_behind n prefix all first second after end rest e q.1 each.2.2) in
    let more = pairs_chosen n prefix all first second after _ others (graft sofar (graft one two)) end rest s t body e next.follows.utf8 bodies.2.2 q.1 each.2.2 in
    let lt = item.takes (member_lines first d.part p.0 s.lines) in (
      suc more.0,
      (
        d.part,
        seen_first prefix first d below (tree g inner after) text rest n u s.body p.0 item.standing,
        record {
          first = graft one two;
          later = told_trees after;
          mid = end;
          trees_are = refl;
          reads = (record { first = one; later = two; mid = each.0; trees_are = refl; reads = chosen; goes_on = behind }, shorter each.0 end text next.follows lt);
          goes_on = more.1;
        },
      ),
    )
