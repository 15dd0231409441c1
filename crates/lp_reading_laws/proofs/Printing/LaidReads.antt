-- A text reads as a program exactly where it is its passages.
use Rattle.std.proofs.Common.{◌≡◌, ℕ, ◌+◌, true, false, List, [], ◌∷◌, ◌++◌, length, take, drop, refl, sym, ap, ◌∙◌, subst, arith, inl, inr, take_at, drop_at}
use Rattle.std.specs.List.{list_all}
use Rattle.std.proofs.lemmas.Bool.{and_parts, and_from, not-true, both_ways, cases_Bool}
use Rattle.lp_form.specs.Templates.{steps_of}
use Rattle.lp_form.specs.Templates as template
use Rattle.lp_form.specs.declared.part.Part.{Part}
use Rattle.lp_form.specs.declared.template.Step.{Step}
use Rattle.lp_form.specs.declared.template.Step.TheVariants as step
use Rattle.lp_tree.specs.declared.tree.Program.{Program}
use Rattle.lp_program.specs.Reads.{TakesOwn, graft, parts_in, may_have, hole_count, KindsFill, Task, Reads, trees, steps, ReadsAs}
use Rattle.lp_program.specs.Reads.Reads.{no_tree, one_tree, no_step, one_step}
use Rattle.lp_program.specs.Trees.{Content, Forest, tree_count, whole}
use Rattle.lp_program.specs.Trees.Forest.{bare, tree}
use Rattle.lp_program.proofs.Grafts.{parts_graft}
use Rattle.lp_program.proofs.Parts.{count_graft}
use Rattle.lp_reading_laws.specs.Printing.TemplateTests.{is_class, has_class}
use Rattle.lp_reading_laws.specs.Printing.WellFormed.{taken_in, is_shared}
use Rattle.lp_reading_laws.specs.Printing.Laid.{Passage, AllStand, own_passages, Laid, laid_parts, all_passages, step_passages, passages, IsShapedPart, IsShaped, IsLaidOut}
use Rattle.lp_reading_laws.proofs.Printing.Apart.{templates_apart}
use Rattle.lp_reading_laws.proofs.Printing.Forests.{front, behind, graft_split, count_split, no_trees, Every, every_front, every_behind}
use Rattle.lp_reading_laws.proofs.Printing.Laid.{stand_join, stand_split, laid_graft, parts_laid, laid_length, laid_front, laid_behind, is_each, each_step, each_last, templates_each, own_stand, own_taken}
use Rattle.lp_reading_laws.proofs.Printing.Sharing.{belonging, takes_none, are_apart, fit, joined, class_steps, later_apart, takes_chunk, none_of, class_first, no_class_first, shared_by}
use Rattle.lp_reading_laws.proofs.Printing.Steps.{no_class_none}
use Rattle.lp_reading_laws.proofs.Printing.Whole.{class_shared, plain_shared}

-- what is read of the steps that are left of a part: chunks of the trees, one for each step of a class, and their passages
record StepsLaid (prefix : List ℕ) (c : Content) (count : ℕ) (ss : List template.Line) (f : Forest) (text rest : List ℕ) : Type 0 where
  chunks : List (List Part)
  fits : fit (class_steps ss) chunks ≡ true
  parts_are : parts_in f ≡ joined chunks
  shaped : IsShaped prefix f
  stand : AllStand (step_passages prefix c (count + tree_count f) ss (passages prefix f)) text rest

abbrev TaskLaid : List ℕ → Task → List ℕ → List ℕ → Type 0
TaskLaid prefix (trees f) text rest = IsShaped prefix f × AllStand (all_passages (passages prefix f)) text rest
TaskLaid prefix (steps c count ss f) text rest = are_apart (class_steps ss) ≡ true → each_last ss ≡ true → StepsLaid prefix c count ss f text rest

shaped_graft : (prefix : List ℕ) (f g : Forest) → IsShaped prefix f → IsShaped prefix g → IsShaped prefix (graft f g)
unfolding IsShaped
shaped_graft prefix bare g h k = k
shaped_graft prefix (tree c below after) g h k = (h.0, h.1, shaped_graft prefix after g h.2 k)

-- a step that has no class has no trees
none_had : (s : Step) (f : Forest) → is_class s ≡ false → may_have s (parts_in f) ≡ true → f ≡ bare
none_had (step.One class) f h k = absurd (both_ways true h refl)
none_had (step.Optional class) f h k = absurd (both_ways true h refl)
none_had (step.Many class) f h k = absurd (both_ways true h refl)
none_had (step.Some class) f h k = absurd (both_ways true h refl)
none_had (step.Pairs first second) f h k = absurd (both_ways true h refl)
none_had _ f h k = no_trees f k

-- nor have the steps behind one that prints a line for each tree
each_plain : (s : Step) (others : List template.Line) → is_each s ≡ true → each_step s others ≡ true → (is_class s ≡ false) × (has_class others ≡ false)
each_plain (step.Each blanks) others e h = (refl, not-true (has_class others) h)
each_plain _ others e h = absurd (both_ways false refl e)

-- the passages of a step, of the trees that it has, and of the steps behind it
own_first : (prefix : List ℕ) (c : Content) (total : ℕ) (s : template.Line) (others : List template.Line) (now later : Forest) → may_have s.0 (parts_in now) ≡ true → takes_none s.0 (parts_in later) ≡ true →
    step_passages prefix c total (s ∷ others) (passages prefix (graft now later)) ≡ own_passages prefix c total s.1 s.0 ++ (all_passages (passages prefix now) ++ step_passages prefix c total others (passages prefix later))
unfolding step_passages
own_first prefix c total s others now later may none =
    let all : List Laid = passages prefix (graft now later) in
    let own = own_passages prefix c total s.1 s.0 in
    let parted : laid_parts all ≡ parts_in now ++ parts_in later = parts_laid prefix (graft now later) ∙ parts_graft now later in
    let chunk = takes_chunk s.0 (parts_in now) (parts_in later) may none in
    let size = laid_length prefix now in
    let n : taken_in s.0 (laid_parts all) ≡ length (passages prefix now) = ap (taken_in s.0) parted ∙ sym chunk ∙ sym size in
    let split = laid_graft prefix now later in
    let front_is : take (taken_in s.0 (laid_parts all)) all ≡ passages prefix now = ap (take (taken_in s.0 (laid_parts all))) split ∙ take_at (passages prefix now) (passages prefix later) (taken_in s.0 (laid_parts all)) (sym n) in
    let rest_is : drop (taken_in s.0 (laid_parts all)) all ≡ passages prefix later = ap (drop (taken_in s.0 (laid_parts all))) split ∙ drop_at (passages prefix now) (passages prefix later) (taken_in s.0 (laid_parts all)) (sym n) in
    ap (λ (x : List Laid). own ++ (all_passages x ++ step_passages prefix c total others (drop (taken_in s.0 (laid_parts all)) all))) front_is
    ∙ ap (λ (x : List Laid). own ++ (all_passages (passages prefix now) ++ step_passages prefix c total others x)) rest_is

-- what is read is laid out
step_laid : (prefix : List ℕ) (c : Content) (count : ℕ) (s : template.Line) (others : List template.Line) (now later : Forest) (text own mid rest : List ℕ) →
    may_have s.0 (parts_in now) ≡ true → TakesOwn prefix c count s.1 s.0 text own → IsShaped prefix now × AllStand (all_passages (passages prefix now)) own mid →
    are_apart (class_steps (s ∷ others)) ≡ true → each_last (s ∷ others) ≡ true → (are_apart (class_steps others) ≡ true → each_last others ≡ true → StepsLaid prefix c (count + tree_count now) others later mid rest) →
    StepsLaid prefix c count (s ∷ others) (graft now later) text rest
step_laid prefix c count s others now later text own mid rest may takes here apart each next = elim (cases_Bool (is_class s.0)) [
  | inl y ↦
      let a = and_parts (list_all (λ t. takes_none s.0 (belonging t)) (class_steps others)) (are_apart (class_steps others)) (ap are_apart (sym (class_first s others y)) ∙ apart) in
      let n : StepsLaid prefix c (count + tree_count now) others later mid rest = next a.1 each_rest.1 in
      let none : takes_none s.0 (parts_in later) ≡ true = ap (takes_none s.0) n.parts_are ∙ later_apart s.0 (class_steps others) n.chunks a.0 n.fits in
      record {
        chunks = parts_in now ∷ n.chunks;
        fits = ap (λ (x : List Step). fit x (parts_in now ∷ n.chunks)) (class_first s others y) ∙ and_from (may_have s.0 (parts_in now)) (fit (class_steps others) n.chunks) may n.fits;
        parts_are = parts_graft now later ∙ ap (λ (x : List Part). parts_in now ++ x) n.parts_are;
        shaped = shaped_graft prefix now later here.0 n.shaped;
        stand = all_stand none n.stand (λ e. absurd (both_ways (is_class s.0) (each_plain s.0 others e each_rest.0).0 y));
      }
  | inr z ↦
      let n : StepsLaid prefix c (count + tree_count now) others later mid rest = next (ap are_apart (sym (no_class_first s others z)) ∙ apart) each_rest.1 in
      let empty : now ≡ bare = none_had s.0 now z may in
      record {
        chunks = n.chunks;
        fits = ap (λ (x : List Step). fit x n.chunks) (no_class_first s others z) ∙ n.fits;
        parts_are = ap (λ (x : Forest). parts_in (graft x later)) empty ∙ n.parts_are;
        shaped = shaped_graft prefix now later here.0 n.shaped;
        stand = all_stand (none_of s.0 (parts_in later) z) n.stand (λ e. each_total e empty n);
      }
]
  where
    each_rest : (each_step s.0 others ≡ true) × (each_last others ≡ true)
    each_rest = (let p = and_parts (each_step s.0 others) (each_last others) each in (p.0, p.1))

    all_stand : takes_none s.0 (parts_in later) ≡ true → AllStand (step_passages prefix c (count + tree_count now + tree_count later) others (passages prefix later)) mid rest → (is_each s.0 ≡ true → count + tree_count (graft now later) ≡ count) →
        AllStand (step_passages prefix c (count + tree_count (graft now later)) (s ∷ others) (passages prefix (graft now later))) text rest
    all_stand none behind_ exact =
        let sum = count_graft now later in
        let at : count + tree_count now + tree_count later ≡ count + tree_count (graft now later) = omega (arith, sum) in
        let left = subst (λ k. AllStand (step_passages prefix c k others (passages prefix later)) mid rest) at behind_ in
        subst (λ (x : List Passage). AllStand x text rest) (sym (own_first prefix c (count + tree_count (graft now later)) s others now later may none))
        (stand_join (own_passages prefix c (count + tree_count (graft now later)) s.1 s.0) (all_passages (passages prefix now) ++ step_passages prefix c (count + tree_count (graft now later)) others (passages prefix later)) text own rest
        (own_stand prefix c (count + tree_count (graft now later)) count s.1 s.0 text own exact takes)
        (stand_join (all_passages (passages prefix now)) (step_passages prefix c (count + tree_count (graft now later)) others (passages prefix later)) own mid rest here.1 left))

    each_total : is_each s.0 ≡ true → now ≡ bare → StepsLaid prefix c (count + tree_count now) others later mid rest → count + tree_count (graft now later) ≡ count
    each_total e empty n =
        let plain = each_plain s.0 others e each_rest.0 in
        let apart_later = ap are_apart (sym (no_class_first s others plain.0)) ∙ apart in
        let shared : is_shared others (parts_in later) ≡ true = ap (is_shared others) n.parts_are ∙ shared_by others n.chunks apart_later n.fits in
        let none : later ≡ bare = no_trees later (no_class_none others (parts_in later) plain.1 shared) in
        let sum = count_graft now later in
        let first = ap tree_count empty in
        let second = ap tree_count none in
        omega (arith, sum, first, second)

laid : (prefix : List ℕ) (task : Task) (text rest : List ℕ) → Reads prefix task text rest → TaskLaid prefix task text rest
unfolding IsShaped passages step_passages
laid prefix _ _ _ (no_tree text) = (tt, refl)
laid prefix _ _ _ (one_tree c below after text mid rest count fills r more) =
    let s = laid prefix (steps c 0 (steps_of c.part) below) text mid r (templates_apart c.part) (templates_each c.part) in
    let a = laid prefix (trees after) mid rest more in
    let shared : is_shared (steps_of c.part) (parts_in below) ≡ true = ap (is_shared (steps_of c.part)) s.parts_are ∙ shared_by (steps_of c.part) s.chunks (templates_apart c.part) s.fits in
    let zero_more : 0 + tree_count below ≡ tree_count below = omega arith in
    let own = subst (λ k. AllStand (step_passages prefix c k (steps_of c.part) (passages prefix below)) text mid) zero_more s.stand in
    let part : IsShapedPart prefix c (parts_in below) = record { count = count; fills = fills; shared = shared } in
    ((part, s.shaped, a.0), stand_join (step_passages prefix c (tree_count below) (steps_of c.part) (passages prefix below)) (all_passages (passages prefix after)) text mid rest own a.1)
laid prefix _ _ _ (no_step c count text) = λ apart each. record { chunks = []; fits = refl; parts_are = refl; shaped = tt; stand = refl }
laid prefix _ _ _ (one_step c count s others now later text own mid rest may takes r more) = λ apart each.
    step_laid prefix c count s others now later text own mid rest may takes (laid prefix (trees now) own mid r) apart each (laid prefix (steps c (count + tree_count now) others later) mid rest more)

-- what is laid out is read: a part over those below it
record Back (prefix : List ℕ) (c : Content) (below : Forest) : Type 0 where
  count : length c.holes ≡ hole_count c.part
  fills : KindsFill prefix c.part c.holes
  reads : (text rest : List ℕ) → AllStand (step_passages prefix c (tree_count below) (steps_of c.part) (passages prefix below)) text rest → Reads prefix (steps c 0 (steps_of c.part) below) text rest

trees_back : (prefix : List ℕ) (f : Forest) (text rest : List ℕ) → Every (Back prefix) f → AllStand (all_passages (passages prefix f)) text rest → Reads prefix (trees f) text rest
unfolding passages
trees_back prefix bare text rest e x = subst (λ (t : List ℕ). Reads prefix (trees bare) text t) (sym x) (no_tree text)
trees_back prefix (tree c below after) text rest e x =
    let y = stand_split (step_passages prefix c (tree_count below) (steps_of c.part) (passages prefix below)) (all_passages (passages prefix after)) text rest x in
    one_tree c below after text y.0 rest e.0.count e.0.fills (e.0.reads text y.0 y.1) (trees_back prefix after y.0 rest e.1 y.2)

-- where a line is printed for each tree, all trees are read
exact : (total count : ℕ) (s : template.Line) (others : List template.Line) (f : Forest) → is_each s.0 ≡ true → each_step s.0 others ≡ true → is_shared (s ∷ others) (parts_in f) ≡ true → total ≡ count + tree_count f → total ≡ count
exact total count s others f e each h m =
    let plain = each_plain s.0 others e each in
    let q = plain_shared s others (parts_in f) plain.0 h in
    let none : tree_count f ≡ 0 = ap tree_count (no_trees f (no_class_none others (parts_in f) plain.1 q.1)) in
    omega (arith, m, none)

steps_back : (prefix : List ℕ) (c : Content) (total : ℕ) (ss : List template.Line) (f : Forest) (count : ℕ) (text rest : List ℕ) → is_shared ss (parts_in f) ≡ true → each_last ss ≡ true → Every (Back prefix) f → total ≡ count + tree_count f →
    AllStand (step_passages prefix c total ss (passages prefix f)) text rest → Reads prefix (steps c count ss f) text rest
unfolding step_passages
steps_back prefix c total [] f count text rest h each e m x =
    subst (λ (g : Forest). Reads prefix (steps c count [] g) text rest) (sym (no_trees f h)) (subst (λ (t : List ℕ). Reads prefix (steps c count [] bare) text t) (sym x) (no_step c count text))
steps_back prefix c total (s ∷ others) f count text rest h each e m x =
    let n : ℕ = taken_in s.0 (parts_in f) in
    let now : Forest = front n f in
    let later : Forest = behind n f in
    let all : List Laid = passages prefix f in
    let at : taken_in s.0 (laid_parts all) ≡ n = ap (taken_in s.0) (parts_laid prefix f) in
    let own = own_passages prefix c total s.1 s.0 in
    let parted = ap (λ k. own ++ (all_passages (take k all) ++ step_passages prefix c total others (drop k all))) at
    ∙ ap (λ (y : List Laid). own ++ (all_passages y ++ step_passages prefix c total others (drop n all))) (laid_front prefix n f)
    ∙ ap (λ (y : List Laid). own ++ (all_passages (passages prefix now) ++ step_passages prefix c total others y)) (laid_behind prefix n f) in
    let first = stand_split own (all_passages (passages prefix now) ++ step_passages prefix c total others (passages prefix later)) text rest (subst (λ (y : List Passage). AllStand y text rest) parted x) in
    let second = stand_split (all_passages (passages prefix now)) (step_passages prefix c total others (passages prefix later)) first.0 rest first.2 in
    let q = class_shared s others f h in
    let last = and_parts (each_step s.0 others) (each_last others) each in
    let sum = count_split n f in
    let takes = own_taken prefix c total count s.1 s.0 text first.0 (λ is. exact total count s others f is last.0 h m) first.1 in
    let next = steps_back prefix c total others later (count + tree_count now) second.0 rest q.1 last.1 (every_behind (Back prefix) n f e) (omega (arith, m, sum)) second.2 in
    subst (λ (g : Forest). Reads prefix (steps c count (s ∷ others) g) text rest) (graft_split n f)
    (one_step c count s others now later text first.0 second.0 rest q.0 takes (trees_back prefix now first.0 second.0 (every_front (Back prefix) n f e) second.1) next)

all_back : (prefix : List ℕ) (f : Forest) → IsShaped prefix f → Every (Back prefix) f
unfolding IsShaped
all_back prefix bare h = tt
all_back prefix (tree c below after) h =
    let inner = all_back prefix below h.1 in (
      record {
        count = h.0.count;
        fills = h.0.fills;
        reads = λ text rest x. steps_back prefix c (tree_count below) (steps_of c.part) below 0 text rest h.0.shared (templates_each c.part) inner (omega arith) x;
      },
      all_back prefix after h.2,
    )

-- both ways
pub laid_out : (text : List ℕ) (program : Program) → ReadsAs text program → IsLaidOut text program
laid_out text program r =
    let x = laid program.prefix (trees (whole program.entries.items)) text r.rest r.reads in
    record { prefix_fits = r.prefix_fits; first = r.first; shaped = x.0; rest = r.rest; stand = x.1; nothing_left = r.nothing_left }

pub read_back : (text : List ℕ) (program : Program) → IsLaidOut text program → ReadsAs text program
read_back text program x = record {
  rest = x.rest;
  prefix_fits = x.prefix_fits;
  first = x.first;
  reads = trees_back program.prefix (whole program.entries.items) text x.rest (all_back program.prefix (whole program.entries.items) x.shaped) x.stand;
  nothing_left = x.nothing_left;
}
