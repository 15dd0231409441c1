-- Each tree whose lists can be held is that of some list of parts.
use Rattle.std.proofs.Common.{◌≡◌, ℕ, zero, suc, ◌≤◌, List, [], ◌∷◌, ◌++◌, length, map, take, drop, Vec, Global, All, refl, sym, ap, ◌∙◌, subst, arith, length-append}
use Rattle.std.proofs.lemmas.List.{take_at, drop_at}
use Rattle.std.proofs.lemmas.List.Elements.{All-head, All-tail}
use denote.RawPtr.{null_ptr}
use Rattle.lp_tree.specs.declared.tree.Entry.{Entry}
use Rattle.lp_tree.specs.declared.tree.RowNote.{RowNote}
use Rattle.lp_tree.specs.declared.tree.Program.{Program}
use Rattle.lp_tree.specs.ProgramTree.{Note, noted}
use Rattle.lp_program.specs.Trees.{Content, content, Forest, forest_within, forest, whole}
use Rattle.lp_program.specs.Trees.Forest.{bare, tree}
use Rattle.lp_viable.specs.Held.{IsShort, NoteHeld, ContentHeld, PartsHeld, part_count, IsHeld}

heap : Global
heap = record { memory = record { seal = tt } }

-- a list in a vector
abbrev vec_of : {A : Type 0} (items : List A) → IsShort (length items) → Vec A Global
vec_of items short = record { ptr = null_ptr; len = length items; cap = length items; alloc = heap; items = items; ok = (refl, omega arith); small = short }

-- notes
record Noted (ns : List Note) : Type 0 where
  items : List RowNote
  size : length items ≡ length ns
  same : map noted items ≡ ns

notes_of : (ns : List Note) → All NoteHeld ns → Noted ns
notes_of [] h = record { items = []; size = refl; same = refl }
notes_of (n ∷ ns) h =
    let held = All-head NoteHeld n ns h in
    let first : RowNote = record { end = n.end; lines = vec_of n.lines held.0; comments = vec_of n.comments held.1 } in
    let next = notes_of ns (All-tail NoteHeld n ns h) in
    record { items = first ∷ next.items; size = ap suc next.size; same = ap (λ (x : List Note). n ∷ x) next.same }

-- a part with what it holds
record Entered (c : Content) (k : ℕ) : Type 0 where
  entry : Entry
  below : entry.below ≡ k
  same : content entry ≡ c

entered : (c : Content) (k : ℕ) → ContentHeld c → Entered c k
entered c k h =
    let ns = notes_of c.notes h.each in
    record {
      entry = record { part = c.part; holes = vec_of c.holes h.holes; numbers = vec_of c.numbers h.numbers; notes = vec_of ns.items (subst IsShort (sym ns.size) h.notes); below = k };
      below = refl;
      same = ap (λ (x : List Note). record { part = c.part; holes = c.holes; numbers = c.numbers; notes = x }) ns.same;
    }

-- trees side by side
record Flat (f : Forest) : Type 0 where
  entries : List Entry
  size : length entries ≡ part_count f
  same : (n : ℕ) → length entries ≤ n → forest_within n entries ≡ f

none_within : (n : ℕ) → forest_within n [] ≡ bare
unfolding forest_within
none_within zero = refl
none_within (suc n) = refl

tree_within : (n : ℕ) (c : Content) (below after : Forest) (b a : List Entry) (e : Entry) → e.below ≡ length b → content e ≡ c → length (e ∷ (b ++ a)) ≤ n → ((m : ℕ) → length b ≤ m → forest_within m b ≡ below) →
    ((m : ℕ) → length a ≤ m → forest_within m a ≡ after) → forest_within n (e ∷ (b ++ a)) ≡ tree c below after
unfolding forest_within
tree_within zero c below after b a e k same le fb fa = absurd (omega (arith, le))
tree_within (suc n) c below after b a e k same le fb fa =
    let size = length-append b a in
    let front : take e.below (b ++ a) ≡ b = take_at b a e.below (sym k) in
    let back : drop e.below (b ++ a) ≡ a = drop_at b a e.below (sym k) in
    ap (λ (y : Content). tree y (forest_within n (take e.below (b ++ a))) (forest_within n (drop e.below (b ++ a)))) same
    ∙ ap (λ (y : Forest). tree c y (forest_within n (drop e.below (b ++ a)))) (ap (forest_within n) front ∙ fb n (omega (arith, size, le)))
    ∙ ap (λ (y : Forest). tree c below y) (ap (forest_within n) back ∙ fa n (omega (arith, size, le)))

flat : (f : Forest) → PartsHeld f → Flat f
unfolding PartsHeld part_count
flat bare h = record { entries = []; size = refl; same = λ n le. none_within n }
flat (tree c below after) h =
    let b = flat below h.1 in
    let a = flat after h.2 in
    let e = entered c (length b.entries) h.0 in
    let size = length-append b.entries a.entries in
    let more = b.size in
    let last = a.size in
    record {
      entries = e.entry ∷ (b.entries ++ a.entries);
      size = omega (arith, size, more, last);
      same = λ n le. tree_within n c below after b.entries a.entries e.entry e.below e.same le b.same a.same;
    }

-- a program
pub record Held (prefix : List ℕ) (c : Content) (below : Forest) : Type 0 where
  pub program : Program
  pub prefix_is : program.prefix ≡ prefix
  pub same : whole program.entries.items ≡ tree c below bare

-- each tree whose lists can be held is that of a program, under each prefix
pub held : (prefix : List ℕ) (c : Content) (below : Forest) → IsHeld (tree c below bare) → Held prefix c below
unfolding PartsHeld part_count forest
held prefix c below h =
    let b = flat below h.0.1 in
    let e = entered c (length b.entries) h.0.0 in
    let size = b.size in
    let short = h.1 in
    record {
      program = record { prefix = prefix; entries = vec_of (e.entry ∷ b.entries) (omega (arith, size, short)) };
      prefix_is = refl;
      same = ap (λ (y : Content). tree y (forest b.entries) bare) e.same ∙ ap (λ (y : Forest). tree c y bare) (b.same (length b.entries) (omega arith));
    }
