-- A program's text up to the line that renames the crate: what stands in front of it is read the same under each prefix, with anything behind it.
use Rattle.std.proofs.Common.{◌≡◌, ℕ, ◌+◌, ◌≤◌, true, false, ◌==◌, ◌&&◌, List, [], ◌∷◌, ◌++◌, length, drop, codes, refl, sym, ap, ◌∙◌, subst, arith, ltb, inl, inr, length-append}
use Rattle.std.specs.List.{list_all}
use Rattle.std.specs.Str.{IsUtf8}
use Rattle.std.proofs.lemmas.Bool.{and_parts, eqb-true, ltb-true, both_ways}
use Rattle.std.proofs.lemmas.Str.{IsUtf8-append}
use Rattle.lp_form.specs.Classes.{members_of}
use Rattle.lp_form.specs.Templates.{steps_of}
use Rattle.lp_form.specs.Templates as template
use Rattle.lp_form.specs.declared.class.Class.TheVariants as class_of
use Rattle.lp_form.specs.declared.part.Part.{Part}
use Rattle.lp_form.specs.declared.part.Part.TheVariants as part
use Rattle.lp_form.specs.declared.template.Step.{Step}
use Rattle.lp_form.specs.declared.template.Step.TheVariants as step
use Rattle.lp_spelling.specs.Counting.{settled}
use Rattle.lp_spelling.specs.Lines.{line_of}
use Rattle.lp_spelling.proofs.Counting.{settled_none}
use Rattle.lp_reading_laws.proofs.Printing.Forests.{length-parts}
use Rattle.lp_program.specs.Prefixes.{renaming, renamed, ShowsPrefix}
use Rattle.lp_program.specs.Prefixes.ShowsPrefix.{behind_line}
use Rattle.lp_program.specs.Printed.{is_member}
use Rattle.lp_program.specs.Reads.{TakesLine, may_have, parts_in, graft, Reads}
use Rattle.lp_program.specs.Reads.Task.{trees, steps}
use Rattle.lp_program.specs.Trees.{Content, Forest, tree_count}
use Rattle.lp_program.specs.Trees.Forest.{bare, tree}
use Rattle.lp_program.proofs.Joined.{LineMoved, line_moved}
use Rattle.lp_program.proofs.Parts.{count_graft}
use Rattle.lp_program.proofs.Showing.{first_line, second_line, first_spelled, second_spelled, standard_steps, program_steps}
use Rattle.lp_reading_laws.proofs.Choosing.Made.{made, no_trees}
use Rattle.lp_reading_laws.proofs.Choosing.Showing.{standard_is}
use Rattle.lp_reading_laws.proofs.Choosing.Taking.{task_takes}
use Rattle.lp_viable.specs.Held.{PartsHeld}
use Rattle.lp_viable.specs.Least.{first_needed, needed}
use Rattle.lp_viable.proofs.Leaves.{leaves, Kept, attributes_kept, uses_kept}
use Rattle.lp_viable.proofs.Moving.{feed_utf8}

-- the first line of the standard uses
abbrev pub standard_line : List ℕ
standard_line = codes "#[allow(unused_extern_crates)]"

-- it stands in front of a line feed, and the line that renames the crate behind that
record Named (a text : List ℕ) : Type 0 where
  front : List ℕ
  behind : List ℕ
  rest : List ℕ
  whole : text ≡ front ++ 10 ∷ behind
  takes : (q : List ℕ) → TakesLine standard_line (front ++ 10 ∷ q) q
  names : TakesLine (renaming ++ renamed a) behind rest

named : (a text own rest : List ℕ) → IsUtf8 text → TakesLine standard_line text own → TakesLine (renaming ++ renamed a) own rest → Named a text
named a text own rest u t n =
    let m : LineMoved standard_line text own = line_moved standard_line text own u t in
    elim m.whole [
      | inl e ↦ record { front = m.front; behind = own; rest = rest; whole = e; takes = m.again; names = n }
      | inr e ↦ (
          let none : settled own ≡ [] = ap settled e.1 ∙ settled_none in
          let size = ap length none in
          let some = n.some in
          absurd (omega (arith, size, some)))
    ]

tree_named : (a : List ℕ) (c : Content) (below : Forest) (text mid : List ℕ) → IsUtf8 text → c.part ≡ part.StandardUses → Reads a (steps c 0 (steps_of c.part) below) text mid → Named a text
tree_named a c below text mid u is reads =
    let later : List template.Line = drop 2 (steps_of part.StandardUses) in
    let m = made a (steps c 0 ((step.Line 0, first_line) ∷ (step.Line 0, second_line) ∷ later) below) text mid (subst (λ ss. Reads a (steps c 0 ss below) text mid) (ap steps_of is ∙ standard_steps) reads) in
    let next = made a (steps c (0 + tree_count m.now) ((step.Line 0, second_line) ∷ later) m.later) m.mid mid m.goes_on in
    let same : m.mid ≡ m.own = no_trees a m.now m.own m.mid m.may m.reads in
    named a text m.own next.own u (subst (λ (x : List ℕ). TakesLine x text m.own) (first_spelled a c.holes) m.takes)
    (subst (λ (x : List ℕ). TakesLine x m.own next.own) (second_spelled a c.holes) (subst (λ (x : List ℕ). TakesLine (line_of a c.holes second_line) x next.own) same next.takes))

one_named : (a : List ℕ) (now : Forest) (text mid : List ℕ) → IsUtf8 text → ((length (parts_in now) == 1) && list_all (is_member class_of.StandardUses) (parts_in now)) ≡ true → Reads a (trees now) text mid → Named a text
one_named a bare text mid u may reads = absurd (both_ways false refl may)
one_named a (tree c below after) text mid u may reads =
    let p = and_parts (length (parts_in (tree c below after)) == 1) _ may in
    let m = made a (trees (tree c below after)) text mid reads in
    tree_named a c below text m.mid u (standard_is c.part (and_parts (is_member class_of.StandardUses c.part) _ p.1).0) m.inner

-- how many trees stand side by side
count_of : (f g h : Forest) → f ≡ graft g h → tree_count f ≡ tree_count g + tree_count h
count_of f g h e = ap tree_count e ∙ count_graft g h

-- steps have the parts that they need
has_needed : (s : Step) (ps : List Part) → may_have s ps ≡ true → length (first_needed s) ≤ length ps
has_needed (step.One class) ps h = let one = eqb-true (length ps) 1 (and_parts (length ps == 1) _ h).0 in omega (arith, one)
has_needed (step.Some class) ps h = let some = ltb-true 0 (length ps) (and_parts (ltb 0 (length ps)) _ h).0 in omega (arith, some)
has_needed _ ps h = omega arith

steps_needed : (a : List ℕ) (c : Content) (count : ℕ) (ss : List template.Line) (f : Forest) (text rest : List ℕ) → Reads a (steps c count ss f) text rest → length (needed ss) ≤ tree_count f
steps_needed a c count [] f text rest reads = omega arith
steps_needed a c count (s ∷ others) f text rest reads =
    let m = made a (steps c count (s ∷ others) f) text rest reads in
    let first = has_needed s.0 (parts_in m.now) m.may in
    let next = steps_needed a c (count + tree_count m.now) others m.later m.mid rest m.goes_on in
    let size = length-append (first_needed s.0) (needed others) in
    let parts = length-parts m.now in
    let whole = count_of f m.now m.later m.trees_are in
    omega (arith, first, next, size, parts, whole)

two_needed : length (needed ((step.One class_of.StandardUses, []) ∷ drop 3 (steps_of part.Program))) ≡ 2
unfolding steps_of members_of
two_needed = refl

-- attributes, uses, and the first line of the standard uses, under a prefix
pub record FrontRead (prefix : List ℕ) (first second : Forest) (text rest : List ℕ) : Type 0 where
  pub mid : List ℕ
  pub own : List ℕ
  pub attributes : Reads prefix (trees (leaves part.Attribute first)) text mid
  pub uses : Reads prefix (trees (leaves part.UseLine second)) mid own
  pub takes : TakesLine standard_line own rest

-- a text that reads as a program under one prefix begins so under another, with anything behind
pub record Opened (a b : List ℕ) (below : Forest) (text : List ℕ) : Type 0 where
  pub first : Forest
  pub second : Forest
  pub fewer : tree_count first + tree_count second + 2 ≤ tree_count below
  pub held_first : PartsHeld (leaves part.Attribute first)
  pub held_second : PartsHeld (leaves part.UseLine second)
  pub front : List ℕ
  pub behind : List ℕ
  pub rest : List ℕ
  pub whole : text ≡ front ++ 10 ∷ behind
  pub names : TakesLine (renaming ++ renamed a) behind rest
  pub reads : (q : List ℕ) → FrontRead b first second (front ++ 10 ∷ q) q
  pub shows : (shown q : List ℕ) → IsUtf8 q → ShowsPrefix shown q → ShowsPrefix shown (front ++ 10 ∷ q)

three_open : (a b : List ℕ) (below first second third : Forest) (text x y z w : List ℕ) → IsUtf8 text → tree_count first + tree_count second + 2 ≤ tree_count below → list_all (is_member class_of.Attribute) (parts_in first) ≡ true →
    list_all (is_member class_of.Use) (parts_in second) ≡ true → ((length (parts_in third) == 1) && list_all (is_member class_of.StandardUses) (parts_in third)) ≡ true →
    Reads a (trees first) text x → y ≡ x → Reads a (trees second) y z → Reads a (trees third) z w → Opened a b below text
three_open a b below first second third text x y z w u few attributes uses standard reads same then last =
    let v : IsUtf8 y = subst (λ (t : List ℕ). IsUtf8 t) (sym same) (task_takes a (trees first) text x u reads).0.utf8 in
    let o : IsUtf8 z = (task_takes a (trees second) y z v then).0.utf8 in
    let n : Named a z = one_named a third z w o standard last in
    let k : Kept b part.UseLine second y n.front n.behind = uses_kept a b second y n.front n.behind v uses (subst (λ (t : List ℕ). Reads a (trees second) y t) n.whole then) in
    let j : Kept b part.Attribute first text k.front n.behind = attributes_kept a b first text k.front n.behind u attributes (subst (λ (t : List ℕ). Reads a (trees first) text t) (sym same ∙ k.whole) reads) in
    record {
      first = first;
      second = second;
      fewer = few;
      held_first = j.held;
      held_second = k.held;
      front = j.front;
      behind = n.behind;
      rest = n.rest;
      whole = j.whole;
      names = n.names;
      reads = λ q. record { mid = k.front ++ 10 ∷ q; own = n.front ++ 10 ∷ q; attributes = j.reads q; uses = k.reads q; takes = n.takes q };
      shows = λ shown q f s.
          (let g : IsUtf8 (10 ∷ q) = IsUtf8-append (10 ∷ []) q feed_utf8 f in
          j.shows shown q g (k.shows shown q g (behind_line (n.front ++ 10 ∷ q) standard_line q (n.takes q) refl refl s)));
    }

reads_from : (prefix : List ℕ) (f : Forest) (own text mid : List ℕ) → own ≡ text → Reads prefix (trees f) own mid → Reads prefix (trees f) text mid
reads_from prefix f own text mid e reads = subst (λ (x : List ℕ). Reads prefix (trees f) x mid) e reads

pub program_opened : (a b : List ℕ) (c : Content) (below : Forest) (text rest : List ℕ) → IsUtf8 text → c.part ≡ part.Program → Reads a (trees (tree c below bare)) text rest → Opened a b below text
program_opened a b c below text rest u is reads =
    let others : List template.Line = drop 3 (steps_of part.Program) in
    let t = made a (trees (tree c below bare)) text rest reads in
    let x = made a (steps c 0 ((step.Many class_of.Attribute, []) ∷ (step.Many class_of.Use, []) ∷ (step.One class_of.StandardUses, []) ∷ others) below) text t.mid
    (subst (λ ss. Reads a (steps c 0 ss below) text t.mid) (ap steps_of is ∙ program_steps) t.inner) in
    let y = made a (steps c (0 + tree_count x.now) ((step.Many class_of.Use, []) ∷ (step.One class_of.StandardUses, []) ∷ others) x.later) x.mid t.mid x.goes_on in
    let z = made a (steps c ((0 + tree_count x.now) + tree_count y.now) ((step.One class_of.StandardUses, []) ∷ others) y.later) y.mid t.mid y.goes_on in
    let all = count_of below x.now x.later x.trees_are in
    let more = count_of x.later y.now y.later y.trees_are in
    let two = two_needed in
    let least = steps_needed a c ((0 + tree_count x.now) + tree_count y.now) ((step.One class_of.StandardUses, []) ∷ others) y.later y.mid t.mid y.goes_on in
    three_open a b below x.now y.now z.now text x.mid y.own y.mid z.mid u (omega (arith, all, more, two, least)) x.may y.may z.may (reads_from a x.now x.own text x.mid x.takes x.reads) y.takes y.reads
    (reads_from a z.now z.own y.mid z.mid z.takes z.reads)
