-- Attributes and uses are read the same under each prefix, with anything behind the line feed that follows them.
use Rattle.std.proofs.Common.{◌≡◌, ℕ, ◌+◌, ◌^◌, ◌<◌, zero, suc, true, ◌==◌, List, [], ◌∷◌, ◌++◌, length, get_or, drop, codes, refl, sym, ap, ◌∙◌, subst, arith, inl, inr, ⊎_elim, eqb, append_assoc, length-append}
use Rattle.std.specs.List.{starts_with, list_all}
use Rattle.std.specs.Str.{IsUtf8}
use Rattle.std.proofs.lemmas.Bool.{and_parts, and_from, or_cases, eqb-true}
use Rattle.std.proofs.lemmas.List.Elements.{All-nil}
use Rattle.std.proofs.lemmas.Str.{IsUtf8-append}
use Rattle.lp_form.specs.Templates.{steps_of, holes_of}
use Rattle.lp_form.specs.declared.class.Class.{Class}
use Rattle.lp_form.specs.declared.class.Class.TheVariants as class_of
use Rattle.lp_form.specs.declared.part.Part.{Part}
use Rattle.lp_form.specs.declared.part.Part.TheVariants as part
use Rattle.lp_form.specs.declared.template.Kind.TheVariants as kind
use Rattle.lp_form.specs.declared.template.Slot.TheVariants.{Hole}
use Rattle.lp_form.specs.declared.template.Step.TheVariants as step
use Rattle.lp_spelling.specs.Counting.{settled}
use Rattle.lp_spelling.specs.Fillings.{has_shape, Fits, Fills}
use Rattle.lp_spelling.specs.Lines.{line_of}
use Rattle.lp_spelling.proofs.Reading.{starts_ok}
use Rattle.lp_local.proofs.Settling.{Left, settled_left, before_byte}
use Rattle.lp_program.specs.CodeReading.{IsUse, ends_there}
use Rattle.lp_program.specs.OwnLines.{hole}
use Rattle.lp_program.specs.Prefixes.{ShowsPrefix}
use Rattle.lp_program.specs.Prefixes.ShowsPrefix.{behind_use, behind_line}
use Rattle.lp_program.specs.Printed.{is_member}
use Rattle.lp_program.specs.Reads.{TakesLine, KindsFill, hole_count, parts_in, Reads}
use Rattle.lp_program.specs.Reads.Reads.{no_tree, one_tree, no_step, one_step}
use Rattle.lp_program.specs.Reads.Task.{trees, steps}
use Rattle.lp_program.specs.Trees.{Content, Forest, tree_count}
use Rattle.lp_program.specs.Trees.Forest.{bare, tree}
use Rattle.lp_program.proofs.Joined.{LineMoved, line_moved}
use Rattle.lp_program.proofs.Showing.{attribute_steps, use_steps, hash_line, attribute_kind, attribute_fills, attribute_line}
use Rattle.lp_reading_laws.proofs.Choosing.Showing.{attribute_is, use_is}
use Rattle.lp_reading_laws.proofs.Choosing.Made.{made, no_trees}
use Rattle.lp_reading_laws.proofs.Choosing.Taking.{task_takes}
use Rattle.lp_viable.specs.Held.{ContentHeld, PartsHeld}
use Rattle.lp_viable.proofs.Moving.{use_line, use_whole, use_moved}

-- a part without notes and numbers
abbrev pub leaf : Part → List (List ℕ) → Content
leaf p holes = record { part = p; holes = holes; numbers = []; notes = [] }

-- trees of one part, without what is below them
abbrev pub leaves : Part → Forest → Forest
leaves p bare = bare
leaves p (tree c below after) = tree (leaf p c.holes) bare (leaves p after)

-- what is taken off a text that goes on with a line feed is taken off it with anything behind that
record TextKept (Takes : List ℕ → List ℕ → Type 0) (text w r : List ℕ) : Type 0 where
  front : List ℕ
  whole : text ≡ front ++ 10 ∷ r
  takes : (q : List ℕ) → Takes (front ++ 10 ∷ q) (w ++ 10 ∷ q)

line_kept : (line text w r : List ℕ) → IsUtf8 text → TakesLine line text (w ++ 10 ∷ r) → TextKept (TakesLine line) text w r
line_kept line text w r u t =
    let m : LineMoved line text (w ++ 10 ∷ r) = line_moved line text (w ++ 10 ∷ r) u t in
    elim m.whole [
      | inl e ↦ record {
        front = m.front ++ 10 ∷ w;
        whole = e ∙ sym (append_assoc m.front (10 ∷ w) (10 ∷ r));
        takes = λ q. subst (λ (x : List ℕ). TakesLine line x (w ++ 10 ∷ q)) (sym (append_assoc m.front (10 ∷ w) (10 ∷ q))) (m.again (w ++ 10 ∷ q));
      }
      | inr e ↦ (
          let none = ap length e.1 in
          let size = length-append w (10 ∷ r) in
          absurd (omega (arith, none, size)))
    ]

-- a use ends with its line
use_again : (used x w r q : List ℕ) → ends_there (w ++ 10 ∷ r) ≡ true → IsUtf8 (x ++ (w ++ 10 ∷ r)) → IsUse (x ++ (w ++ 10 ∷ r)) used (w ++ 10 ∷ r) → IsUse (x ++ (w ++ 10 ∷ q)) used (w ++ 10 ∷ q)
use_again used x [] r q e u c = use_moved x used (10 ∷ r) q u c
use_again used x (b ∷ w) r q e u c = ⊎_elim
    (λ none. let never = eqb-true (length (b ∷ (w ++ 10 ∷ r))) 0 none in absurd (omega (arith, never)))
    (λ feed.
    let feed_is : b ∷ (w ++ 10 ∷ r) ≡ 10 ∷ drop 1 (b ∷ (w ++ 10 ∷ r)) = starts_ok (codes "\n") (b ∷ (w ++ 10 ∷ r)) feed in
    let first : b ≡ 10 = ap (λ (y : List ℕ). get_or y 0 0) feed_is in
    subst (λ (d : ℕ). IsUse (x ++ (d ∷ (w ++ 10 ∷ q))) used (d ∷ (w ++ 10 ∷ q))) (sym first) (use_moved x used (b ∷ (w ++ 10 ∷ r)) (w ++ 10 ∷ q) u c))
    (or_cases (length (b ∷ (w ++ 10 ∷ r)) == 0) (starts_with eqb (b ∷ (w ++ 10 ∷ r)) (codes "\n")) e)

use_kept : (used text w r : List ℕ) → IsUtf8 text → IsUse text used (w ++ 10 ∷ r) → TextKept (λ x y. IsUse x used y) text w r
use_kept used text w r u c =
    let l : Left text (settled text) = settled_left text u in
    let x : List ℕ = l.front ++ use_line used in
    let whole : text ≡ x ++ (w ++ 10 ∷ r) = l.whole ∙ ap (λ (y : List ℕ). l.front ++ y) (c.front ∙ use_whole used (w ++ 10 ∷ r)) ∙ sym (append_assoc l.front (use_line used) (w ++ 10 ∷ r)) in
    record {
      front = x ++ w;
      whole = whole ∙ sym (append_assoc x w (10 ∷ r));
      takes = λ q.
          subst (λ (y : List ℕ). IsUse y used (w ++ 10 ∷ q)) (sym (append_assoc x w (10 ∷ q)))
          (use_again used x w r q c.ends (subst (λ (y : List ℕ). IsUtf8 y) whole u) (subst (λ (y : List ℕ). IsUse y used (w ++ 10 ∷ r)) whole c));
    }

-- one tree, under a prefix
record OneKept (prefix : List ℕ) (p : Part) (holes : List (List ℕ)) (text w r : List ℕ) : Type 0 where
  front : List ℕ
  whole : text ≡ front ++ 10 ∷ r
  held : ContentHeld (leaf p holes)
  reads : (after : Forest) (q rest : List ℕ) → Reads prefix (trees after) (w ++ 10 ∷ q) rest → Reads prefix (trees (tree (leaf p holes) bare after)) (front ++ 10 ∷ q) rest
  shows : (shown q : List ℕ) → IsUtf8 (w ++ 10 ∷ q) → ShowsPrefix shown (w ++ 10 ∷ q) → ShowsPrefix shown (front ++ 10 ∷ q)

-- trees side by side
pub record Kept (prefix : List ℕ) (p : Part) (f : Forest) (text w r : List ℕ) : Type 0 where
  pub front : List ℕ
  pub whole : text ≡ front ++ 10 ∷ r
  pub held : PartsHeld (leaves p f)
  pub reads : (q : List ℕ) → Reads prefix (trees (leaves p f)) (front ++ 10 ∷ q) (w ++ 10 ∷ q)
  pub shows : (shown q : List ℕ) → IsUtf8 (10 ∷ q) → ShowsPrefix shown (w ++ 10 ∷ q) → ShowsPrefix shown (front ++ 10 ∷ q)

-- attributes
attribute_kinds : length (holes_of part.Attribute) ≡ 1
unfolding holes_of
attribute_kinds = refl

attribute_holes : hole_count part.Attribute ≡ 1
unfolding steps_of holes_of
attribute_holes = refl

-- what may be one under a prefix, may under each
attribute_on : (a b x : List ℕ) → Fills a kind.Attribute x → Fills b kind.Attribute x
unfolding Fits has_shape
attribute_on a b x f = f

attribute_first : (prefix : List ℕ) (holes : List (List ℕ)) → KindsFill prefix part.Attribute holes → Fills prefix kind.Attribute (get_or holes 0 [])
attribute_first prefix holes f = let one = attribute_kinds in subst (λ k. Fills prefix k (get_or holes 0 [])) attribute_kind (f 0 (omega (arith, one)))

attributes_on : (a b : List ℕ) (holes : List (List ℕ)) → KindsFill a part.Attribute holes → KindsFill b part.Attribute holes
attributes_on a b holes f zero lt = subst (λ k. Fills b k (get_or holes 0 [])) (sym attribute_kind) (attribute_on a b (get_or holes 0 []) (attribute_first a holes f))
attributes_on a b holes f (suc k) lt = let one = attribute_kinds in absurd (omega (arith, one, lt))

attribute_tree : (prefix : List ℕ) (holes : List (List ℕ)) (after : Forest) (text mid rest : List ℕ) → length holes ≡ hole_count part.Attribute → KindsFill prefix part.Attribute holes → TakesLine (line_of prefix holes (([], Hole 0) ∷ [])) text mid →
    Reads prefix (trees after) mid rest → Reads prefix (trees (tree (leaf part.Attribute holes) bare after)) text rest
attribute_tree prefix holes after text mid rest n k t more =
    let c : Content = leaf part.Attribute holes in
    one_tree c bare after text mid rest n k (subst (λ ss. Reads prefix (steps c 0 ss bare) text mid) (sym attribute_steps) (one_step c 0 (step.Line 0, ([], Hole 0) ∷ []) [] bare bare text mid mid mid refl t (no_tree mid) (no_step c 0 mid))) more

pub leaf_held : (p : Part) (holes : List (List ℕ)) (n : ℕ) → length holes ≡ hole_count p → hole_count p ≡ n → n < 2 ^ 63 → ContentHeld (leaf p holes)
leaf_held p holes n e k small = record { holes = omega (arith, e, k, small); numbers = omega arith; notes = omega arith; each = All-nil _ }

attribute_one : (a b : List ℕ) (c : Content) (below : Forest) (text w r : List ℕ) → IsUtf8 text → c.part ≡ part.Attribute → length c.holes ≡ hole_count c.part → KindsFill a c.part c.holes → Reads a (steps c 0 (steps_of c.part) below) text (w ++ 10 ∷ r) →
    OneKept b part.Attribute c.holes text w r
attribute_one a b c below text w r u is n k reads =
    let line : List ℕ = line_of a c.holes (([], Hole 0) ∷ []) in
    let m = made a (steps c 0 ((step.Line 0, ([], Hole 0) ∷ []) ∷ []) below) text (w ++ 10 ∷ r) (subst (λ ss. Reads a (steps c 0 ss below) text (w ++ 10 ∷ r)) (ap steps_of is ∙ attribute_steps) reads) in
    let same : w ++ 10 ∷ r ≡ m.own = made a (steps c (0 + tree_count m.now) [] m.later) m.mid (w ++ 10 ∷ r) m.goes_on ∙ no_trees a m.now m.own m.mid m.may m.reads in
    let t : TextKept (TakesLine line) text w r = line_kept line text w r u (subst (λ (x : List ℕ). TakesLine line text x) (sym same) m.takes) in
    let fills : KindsFill a part.Attribute c.holes = subst (λ p. KindsFill a p c.holes) is k in
    let count : length c.holes ≡ hole_count part.Attribute = n ∙ ap hole_count is in
    let x : List ℕ = get_or c.holes 0 [] in
    let no = hash_line line (drop 1 x) (attribute_line a c.holes ∙ attribute_fills a x (attribute_first a c.holes fills)) in
    record {
      front = t.front;
      whole = t.whole;
      held = leaf_held part.Attribute c.holes 1 count attribute_holes (omega arith);
      reads = λ after q rest more.
          attribute_tree b c.holes after (t.front ++ 10 ∷ q) (w ++ 10 ∷ q) rest count (attributes_on a b c.holes fills)
          (subst (λ (x : List ℕ). TakesLine x (t.front ++ 10 ∷ q) (w ++ 10 ∷ q)) (attribute_line a c.holes ∙ sym (attribute_line b c.holes)) (t.takes q)) more;
      shows = λ shown q v s. behind_line (t.front ++ 10 ∷ q) line (w ++ 10 ∷ q) (t.takes q) no.0 no.1 s;
    }

-- uses
use_kinds : length (holes_of part.UseLine) ≡ 0
unfolding holes_of
use_kinds = refl

use_holes : hole_count part.UseLine ≡ 1
unfolding steps_of holes_of
use_holes = refl

use_tree : (prefix : List ℕ) (holes : List (List ℕ)) (after : Forest) (text mid rest : List ℕ) → length holes ≡ hole_count part.UseLine → IsUse text (get_or holes 0 []) mid → Reads prefix (trees after) mid rest →
    Reads prefix (trees (tree (leaf part.UseLine holes) bare after)) text rest
use_tree prefix holes after text mid rest n t more =
    let c : Content = leaf part.UseLine holes in
    one_tree c bare after text mid rest n (λ k lt. (let none = use_kinds in absurd (omega (arith, none, lt))))
    (subst (λ ss. Reads prefix (steps c 0 ss bare) text mid) (sym use_steps) (one_step c 0 (step.Use, []) [] bare bare text mid mid mid refl t (no_tree mid) (no_step c 0 mid))) more

use_one : (a b : List ℕ) (c : Content) (below : Forest) (text w r : List ℕ) → IsUtf8 text → c.part ≡ part.UseLine → length c.holes ≡ hole_count c.part → KindsFill a c.part c.holes → Reads a (steps c 0 (steps_of c.part) below) text (w ++ 10 ∷ r) →
    OneKept b part.UseLine c.holes text w r
use_one a b c below text w r u is n k reads =
    let used : List ℕ = hole c 0 in
    let m = made a (steps c 0 ((step.Use, []) ∷ []) below) text (w ++ 10 ∷ r) (subst (λ ss. Reads a (steps c 0 ss below) text (w ++ 10 ∷ r)) (ap steps_of is ∙ use_steps) reads) in
    let same : w ++ 10 ∷ r ≡ m.own = made a (steps c (0 + tree_count m.now) [] m.later) m.mid (w ++ 10 ∷ r) m.goes_on ∙ no_trees a m.now m.own m.mid m.may m.reads in
    let t : TextKept (λ x y. IsUse x used y) text w r = use_kept used text w r u (subst (λ (x : List ℕ). IsUse text used x) (sym same) m.takes) in
    let count : length c.holes ≡ hole_count part.UseLine = n ∙ ap hole_count is in
    record {
      front = t.front;
      whole = t.whole;
      held = leaf_held part.UseLine c.holes 1 count use_holes (omega arith);
      reads = λ after q rest more. use_tree b c.holes after (t.front ++ 10 ∷ q) (w ++ 10 ∷ q) rest count (t.takes q) more;
      shows = λ shown q v s. behind_use (t.front ++ 10 ∷ q) used (w ++ 10 ∷ q) (t.takes q) v s;
    }

-- trees of one part
abbrev EachKept : List ℕ → List ℕ → Part → Type 0
EachKept a b p = (c : Content) (below : Forest) (text w r : List ℕ) → IsUtf8 text → c.part ≡ p → length c.holes ≡ hole_count c.part → KindsFill a c.part c.holes → Reads a (steps c 0 (steps_of c.part) below) text (w ++ 10 ∷ r) → OneKept b p c.holes text w r

more_kept : (b : List ℕ) (p : Part) (c : Content) (below after : Forest) (text mid w r : List ℕ) → IsUtf8 mid → (k : Kept b p after mid w r) → OneKept b p c.holes text k.front r → Kept b p (tree c below after) text w r
unfolding PartsHeld
more_kept b p c below after text mid w r u k o =
    let v : IsUtf8 k.front = before_byte k.front 10 r (omega arith) (subst (λ (x : List ℕ). IsUtf8 x) k.whole u) in
    record {
      front = o.front;
      whole = o.whole;
      held = (o.held, tt, k.held);
      reads = λ q. o.reads (leaves p after) q (w ++ 10 ∷ q) (k.reads q);
      shows = λ shown q f s. o.shows shown q (IsUtf8-append k.front (10 ∷ q) v f) (k.shows shown q f s);
    }

all_kept : (a b : List ℕ) (class : Class) (p : Part) → EachKept a b p → ((q : Part) → is_member class q ≡ true → q ≡ p) → (f : Forest) (text w r : List ℕ) → IsUtf8 text → list_all (is_member class) (parts_in f) ≡ true →
    Reads a (trees f) text (w ++ 10 ∷ r) → Kept b p f text w r
unfolding PartsHeld
all_kept a b class p each only bare text w r u may reads =
    record { front = w; whole = sym (made a (trees bare) text (w ++ 10 ∷ r) reads); held = tt; reads = λ q. no_tree (w ++ 10 ∷ q); shows = λ shown q f s. s }
all_kept a b class p each only (tree c below after) text w r u may reads =
    let h = and_parts (is_member class c.part) _ may in
    let m = made a (trees (tree c below after)) text (w ++ 10 ∷ r) reads in
    let v = (task_takes a (steps c 0 (steps_of c.part) below) text m.mid u m.inner).0.utf8 in
    let k : Kept b p after m.mid w r = all_kept a b class p each only after m.mid w r v h.1 m.outer in
    more_kept b p c below after text m.mid w r v k (each c below text k.front r u (only c.part h.0) m.count m.fills (subst (λ (x : List ℕ). Reads a (steps c 0 (steps_of c.part) below) text x) k.whole m.inner))

pub attributes_kept : (a b : List ℕ) (f : Forest) (text w r : List ℕ) → IsUtf8 text → list_all (is_member class_of.Attribute) (parts_in f) ≡ true → Reads a (trees f) text (w ++ 10 ∷ r) → Kept b part.Attribute f text w r
attributes_kept a b f text w r u may reads = all_kept a b class_of.Attribute part.Attribute (attribute_one a b) attribute_is f text w r u may reads

pub uses_kept : (a b : List ℕ) (f : Forest) (text w r : List ℕ) → IsUtf8 text → list_all (is_member class_of.Use) (parts_in f) ≡ true → Reads a (trees f) text (w ++ 10 ∷ r) → Kept b part.UseLine f text w r
uses_kept a b f text w r u may reads = all_kept a b class_of.Use part.UseLine (use_one a b) use_is f text w r u may reads

-- such trees are of the class, and as many
pub leaves_are : (class : Class) (p : Part) (f : Forest) → is_member class p ≡ true → list_all (is_member class) (parts_in (leaves p f)) ≡ true
leaves_are class p bare m = refl
leaves_are class p (tree c below after) m = and_from (is_member class p) _ m (leaves_are class p after m)

pub leaves_count : (p : Part) (f : Forest) → tree_count (leaves p f) ≡ tree_count f
leaves_count p bare = refl
leaves_count p (tree c below after) = ap (λ n. 1 + n) (leaves_count p after)
