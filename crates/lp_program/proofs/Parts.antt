-- A part that is read step by step, and parts that are read one after another.
use Rattle.std.proofs.Common.{◌≡◌, ℕ, ◌+◌, ◌<◌, ◌≤◌, true, ⊎_elim, List, [], ◌∷◌, ◌++◌, length, get_or, drop, sym, ap, ◌∙◌, arith, append_assoc, append-nil, subst}
use Rattle.std.proofs.lemmas.Bool.{cases_lt}
use Rattle.std.proofs.lemmas.List.{drop_more, drop_all, get_or_append_left}
use Rattle.lp_form.specs.Templates.{Piece, steps_of, holes_of}
use Rattle.lp_form.specs.Templates as template
use Rattle.lp_form.specs.declared.part.Part.{Part}
use Rattle.lp_tree.specs.declared.tree.Entry.{Entry}
use Rattle.lp_program.specs.declared.read.growing.Growing.{Growing}
use Rattle.lp_program.specs.Trees.{Content, Forest, tree_count}
use Rattle.lp_program.specs.Trees.Forest.{bare, tree}
use Rattle.lp_spelling.specs.Fillings.{Fills}
use Rattle.lp_spelling.specs.LineReading.{kind_of}
use Rattle.lp_program.specs.Growing.{Grows, MayBecome}
use Rattle.lp_program.specs.Adding.{Holds, Added, AllFilled, AllRead}
use Rattle.lp_program.specs.Reads.{graft, parts_in, may_have, TakesOwn, hole_count, KindsFill, Reads}
use Rattle.lp_program.specs.Reads.Task.{trees, steps}
use Rattle.lp_program.specs.Reads.Reads.{no_tree, one_tree, no_step, one_step}
use Rattle.lp_program.proofs.Growing.{becomes_before}
use Rattle.lp_program.proofs.Grafts.{graft_bare, graft_assoc, holds_none, holds_then, reads_then}

-- the number of trees side by side
pub count_graft : (f g : Forest) → tree_count (graft f g) ≡ tree_count f + tree_count g
count_graft bare g = omega arith
count_graft (tree c below after) g = let h = count_graft after g in omega (arith, h)

-- nothing is added, and parts behind others
pub added_none : (prefix : List ℕ) (old : List Entry) (text : List ℕ) → Added prefix old old text text bare
added_none prefix old text = record { more = []; entries_are = sym (append-nil old); holds = holds_none; reads = no_tree text }

pub added_then : (prefix : List ℕ) (a b c : List Entry) (text mid rest : List ℕ) (f g : Forest) → Added prefix a b text mid f → Added prefix b c mid rest g → Added prefix a c text rest (graft f g)
added_then prefix a b c text mid rest f g x y = record {
  more = x.more ++ y.more;
  entries_are = y.entries_are ∙ ap (λ l. l ++ y.more) x.entries_are ∙ append_assoc a x.more y.more;
  holds = holds_then x.more y.more f g x.holds y.holds;
  reads = reads_then prefix f g text mid rest x.reads y.reads;
}

-- of a part's steps the first i are read: what is left of the steps, over the trees for them, reads as all steps do over all trees
pub record SoFar (prefix : List ℕ) (part : Part) (i : ℕ) (growing : Growing) (start text : List ℕ) (more : List Entry) (f : Forest) : Type 0 where
  pub part_is : growing.part ≡ part
  pub fills : (k : ℕ) → k < length growing.holes.items → k < length (holes_of part) → Fills prefix (kind_of (holes_of part) k) (get_or growing.holes.items k [])
  pub holds : Holds more f
  pub reads : (c : Content) (later : Forest) (rest : List ℕ) → MayBecome growing c → Reads prefix (steps c (tree_count f) (drop i (steps_of part)) later) text rest →
      Reads prefix (steps c 0 (steps_of part) (graft f later)) start rest

pub so_far_start : (prefix : List ℕ) (part : Part) (growing : Growing) (text : List ℕ) → growing.part ≡ part → growing.holes.items ≡ [] → SoFar prefix part 0 growing text text [] bare
so_far_start prefix part growing text p h = record {
  part_is = p;
  fills = λ k l m. absurd (omega (arith, ap length h, l));
  holds = holds_none;
  reads = λ c later rest m r. r;
}

-- what a step itself took, and the trees that it has
pub so_far_step : (prefix : List ℕ) (part : Part) (i : ℕ) (s : template.Line) (old new : Growing) (start text own mid : List ℕ) (more others : List Entry) (f g : Forest) →
    SoFar prefix part i old start text more f → i < length (steps_of part) → s ≡ get_or (steps_of part) i s → Grows prefix old new →
    ((c : Content) → MayBecome new c → TakesOwn prefix c (tree_count f) s.1 s.0 text own) → may_have s.0 (parts_in g) ≡ true → Holds others g → Reads prefix (trees g) own mid →
    SoFar prefix part (i + 1) new start mid (more ++ others) (graft f g)
so_far_step prefix part i s old new start text own mid more others f g so lt at grows takes may holds reads =
    let d : drop i (steps_of part) ≡ s ∷ drop (i + 1) (steps_of part)
    = drop_more (steps_of part) i s lt ∙ ap (λ x. x ∷ drop (i + 1) (steps_of part)) (sym at) in
    record {
      part_is = grows.part_is ∙ so.part_is;
      fills = λ k l m.
          ⊎_elim
          (λ (small : k < length old.holes.items).
          let same : get_or new.holes.items k [] ≡ get_or old.holes.items k [] = ap (λ y. get_or y k []) grows.holes_are ∙ get_or_append_left old.holes.items grows.more [] k small in
          subst (λ (y : List ℕ). Fills prefix (kind_of (holes_of part) k) y) (sym same) (so.fills k small m))
          (λ (large : length old.holes.items ≤ k).
          subst (λ p. Fills prefix (kind_of (holes_of p) k) (get_or new.holes.items k [])) so.part_is
          (grows.fills k large l (subst (λ p. k < length (holes_of p)) (sym so.part_is) m)))
          (cases_lt k (length old.holes.items));
      holds = holds_then more others f g so.holds holds;
      reads = λ c later rest m r.
          let next = subst (λ n. Reads prefix (steps c n (drop (i + 1) (steps_of part)) later) mid rest) (count_graft f g) r in
          let one = one_step c (tree_count f) s (drop (i + 1) (steps_of part)) g later text own mid rest may (takes c m) reads next in
          let here = subst (λ ss. Reads prefix (steps c (tree_count f) ss (graft g later)) text rest) (sym d) one in
          subst (λ x. Reads prefix (steps c 0 (steps_of part) x) start rest) (sym (graft_assoc f g later))
          (so.reads c (graft g later) rest (becomes_before prefix old new c grows m) here);
    }

-- the part's tree, where it holds what all its steps told
pub part_tree : (prefix : List ℕ) (growing : Growing) (start text : List ℕ) (f : Forest) (c : Content) → c.part ≡ growing.part → c.holes ≡ growing.holes.items → c.numbers ≡ growing.numbers.items →
    length growing.holes.items ≡ hole_count growing.part →
    AllFilled prefix growing growing.part → AllRead prefix growing f start text growing.part → Reads prefix (trees (tree c f bare)) start text
part_tree prefix growing start text f c p h n count fills reads =
    let part = growing.part in
    let becomes : MayBecome growing c = record { part_is = p; more = []; holes_are = h ∙ sym (append-nil growing.holes.items); numbers = λ t. n } in
    let fits : KindsFill prefix part c.holes = λ k l. subst (λ hs. Fills prefix (kind_of (holes_of part) k) (get_or hs k [])) (sym h) (fills k (within part growing.holes.items k count l) l) in
    one_tree c f bare start text text (ap length h ∙ count ∙ ap hole_count (sym p)) (subst (λ q. KindsFill prefix q c.holes) (sym p) fits)
    (subst (λ q. Reads prefix (steps c 0 (steps_of q) f) start text) (sym p) (reads c becomes)) (no_tree text)
  where
    within : (part : Part) (holes : List (List ℕ)) (k : ℕ) → length holes ≡ hole_count part → k < length (holes_of part) → k < length holes
    within part holes k e l = omega (arith, e, l)

-- all steps are read
pub steps_read : (prefix : List ℕ) (part : Part) (i : ℕ) (growing : Growing) (start text : List ℕ) (more : List Entry) (f : Forest) (c : Content) → SoFar prefix part i growing start text more f →
    length (steps_of part) ≤ i → MayBecome growing c → Reads prefix (steps c 0 (steps_of part) f) start text
steps_read prefix part i growing start text more f c so le becomes =
    let none : Reads prefix (steps c (tree_count f) (drop i (steps_of part)) bare) text text
    = subst (λ ss. Reads prefix (steps c (tree_count f) ss bare) text text) (sym (drop_all i (steps_of part) le)) (no_step c (tree_count f) text) in
    subst (λ x. Reads prefix (steps c 0 (steps_of part) x) start text) (graft_bare f) (so.reads c bare text becomes none)
