-- How many parts and numbers a tree has that is read of a text: no more than a program can hold, where the text is short.
use Rattle.std.proofs.Common.{◌≡◌, ℕ, zero, suc, ◌+◌, ◌*◌, ◌^◌, ◌<◌, ◌≤◌, ◌==◌, ℤ, Bool, true, false, not, ◌&&◌, ◌||◌, inl, inr, ⊎_elim, List, [], ◌∷◌, ◌++◌, length, drop, codes, Option, Some, None, refl, sym, ap, ◌∙◌, subst, arith, ltb, append_assoc, length-append}
use Rattle.std.specs.List.{list_all, list_any}
use Rattle.std.specs.Str.{IsUtf8}
use Rattle.std.proofs.lemmas.Bool.{and_parts, and_from, or_cases, or_left, or_right, or_parts, cases_Bool, cases_lt, eqb-true, ltb-true, both_ways}
use Rattle.std.proofs.lemmas.List.{nil_from_length}
use Rattle.std.proofs.lemmas.List.Elements.{All-nil}
use Rattle.lp_form.specs.Classes.{members_of}
use Rattle.lp_form.specs.Templates.{Piece, steps_of, holes_of}
use Rattle.lp_form.specs.Templates as template
use Rattle.lp_form.specs.declared.class.Class.{Class}
use Rattle.lp_form.specs.declared.part.Part.{Part}
use Rattle.lp_form.specs.declared.part.Part.TheVariants as part
use Rattle.lp_form.specs.declared.template.Step.{Step}
use Rattle.lp_form.specs.declared.template.Step.TheVariants as step
use Rattle.lp_spelling.specs.Counting.{settled}
use Rattle.lp_spelling.specs.Lines.{line_of}
use Rattle.lp_spelling.specs.LineReading.{◌>>=◌}
use Rattle.lp_spelling.specs.TableReading.{Front, front_of, Table, with_number, goes_on_after, entries_within, entries}
use Rattle.lp_spelling.specs.TableReading.Front.{feed, skip, ends, found_entry, wrong}
use Rattle.lp_spelling.proofs.Counting.{settled_none}
use Rattle.lp_spelling.proofs.Reading.{starts_ok}
use Rattle.lp_local.proofs.Settling.{Left, settled_left, behind_byte, from_byte}
use Rattle.lp_local.proofs.Tables.{entries_left}
use Rattle.lp_program.specs.OwnLines.{hole}
use Rattle.lp_program.specs.Printed.{is_member, takes}
use Rattle.lp_program.specs.Reads.{TakesLine, TakesLines, TakesOwn, graft, parts_in, are_pairs, may_have, hole_count, Task, Reads, trees, steps}
use Rattle.lp_program.specs.Reads.Reads.{no_tree, one_tree, no_step, one_step}
use Rattle.lp_program.specs.Trees.{Content, Forest, tree_count}
use Rattle.lp_program.specs.Trees.Forest.{bare, tree}
use Rattle.lp_reading_laws.specs.Printing.TemplateTests.{is_one}
use Rattle.lp_reading_laws.proofs.Printing.Steps.{one_part}
use Rattle.lp_viable.specs.StepTests.{is_table}
use Rattle.lp_viable.specs.Held.{ContentHeld, PartsHeld, part_count}
use Rattle.lp_program.proofs.Joined.{LineMoved, line_moved}
use Rattle.lp_viable.proofs.Moving.{nothing_utf8}
use Rattle.lp_viable.proofs.Lean.{has_table, lean_numbers, lean, lean_trees}

-- how many bytes a text has, with a line feed at its end; nothing where it is empty
abbrev full : List ℕ → ℕ
full [] = 0
full (b ∷ t) = length (b ∷ t) + 1

full_some : (text : List ℕ) → 0 < length text → full text ≡ length text + 1
full_some [] some = absurd (omega arith)
full_some (b ∷ t) some = refl

full_most : (text : List ℕ) → full text ≤ length text + 1
full_most [] = omega arith
full_most (b ∷ t) = omega arith

full_less : (text rest : List ℕ) → length rest ≤ length text → full rest ≤ full text
full_less text [] le = omega arith
full_less text (b ∷ t) le = let all = full_some text (omega (arith, le)) in omega (arith, all, le)

full_far : (text rest : List ℕ) → length rest + 2 ≤ length text → full rest + 2 ≤ full text
full_far text rest le = let all = full_some text (omega (arith, le)) in let most = full_most rest in omega (arith, all, most, le)

-- the rest of a text, so many bytes shorter
record Less (k : ℕ) (text rest : List ℕ) : Type 0 where
  utf8 : IsUtf8 rest
  shorter : length rest ≤ length text
  less : full rest + k ≤ full text

same_less : (text rest : List ℕ) → IsUtf8 text → rest ≡ text → Less 0 text rest
same_less text rest u e = let size = ap length e in let all = ap full e in record { utf8 = subst (λ (x : List ℕ). IsUtf8 x) (sym e) u; shorter = omega (arith, size); less = omega (arith, all) }

nothing_settles : (text : List ℕ) → length text ≤ 0 → length (settled text) ≡ 0
nothing_settles text none = ap length (ap settled (nil_from_length text (omega (arith, none))) ∙ settled_none)

some_text : (text : List ℕ) → 0 < length (settled text) → 0 < length text
some_text text some = elim (cases_lt 0 (length text)) [
  | inl y ↦ y
  | inr none ↦ (let empty = nothing_settles text none in absurd (omega (arith, empty, some)))
]

line_less : (line text rest : List ℕ) → IsUtf8 text → TakesLine line text rest → Less 2 text rest
line_less line text rest u t =
    let m : LineMoved line text rest = line_moved line text rest u t in
    elim m.whole [
      | inl w ↦
          let size = ap length w ∙ length-append m.front (10 ∷ rest) in
          let some = some_text m.front m.shown in
          record {
            utf8 = behind_byte m.front 10 rest (omega arith) (subst (λ (x : List ℕ). IsUtf8 x) w u);
            shorter = omega (arith, size);
            less = full_far text rest (omega (arith, size, some));
          }
      | inr w ↦
          let none = ap length w.1 in
          let empty = ap full w.1 in
          let some = some_text text t.some in
          let all = full_some text some in
          record { utf8 = subst (λ (x : List ℕ). IsUtf8 x) (sym w.1) nothing_utf8; shorter = omega (arith, none); less = omega (arith, empty, all, some) }
    ]

lines_less : (n : ℕ) (line text rest : List ℕ) → IsUtf8 text → TakesLines n line text rest → Less 0 text rest
lines_less zero line text rest u t = same_less text rest u t
lines_less (suc n) line text rest u t =
    let a = line_less line text t.0 u t.1 in
    let b = lines_less n line t.0 rest a.utf8 t.2 in
    let first = a.less in
    let next = b.less in
    let shorter = a.shorter in
    let last = b.shorter in
    record { utf8 = b.utf8; shorter = omega (arith, shorter, last); less = omega (arith, first, next) }

-- one for what holds
abbrev bit : Bool → ℕ
bit true = 1
bit false = 0

bit_small : (b : Bool) → bit b ≤ 1
bit_small true = omega arith
bit_small false = omega arith

-- a step that takes at least a byte
abbrev is_line : Step → Bool
is_line (step.Line blanks) = true
is_line step.Use = true
is_line _ = false

own_less : (prefix : List ℕ) (c : Content) (count : ℕ) (pieces : List Piece) (s : Step) (text rest : List ℕ) → IsUtf8 text → TakesOwn prefix c count pieces s text rest → Less (2 * bit (is_line s)) text rest
own_less prefix c count pieces (step.Line b) text rest u t = line_less (line_of prefix c.holes pieces) text rest u t
own_less prefix c count pieces (step.Each b) text rest u t = lines_less count (line_of prefix c.holes pieces) text rest u t
own_less prefix c count pieces step.Use text rest u t =
    let used : List ℕ = hole c 0 in
    let l : Left text (settled text) = settled_left text u in
    let whole : settled text ≡ (codes "use " ++ used) ++ 59 ∷ rest = t.front ∙ sym (append_assoc (codes "use ") used (codes ";" ++ rest)) in
    let size = ap length l.whole ∙ length-append l.front (settled text) in
    let next = ap length whole ∙ length-append (codes "use " ++ used) (59 ∷ rest) in
    record { utf8 = behind_byte (codes "use " ++ used) 59 rest (omega arith) (subst (λ (x : List ℕ). IsUtf8 x) whole l.utf8); shorter = omega (arith, size, next); less = full_far text rest (omega (arith, size, next)) }
own_less prefix c count pieces step.Code text rest u t =
    let rest_is : rest ≡ 125 ∷ drop 1 rest = starts_ok (codes "}") rest t.closes in
    let size = ap length t.front ∙ length-append t.whole rest in
    record {
      utf8 = subst (λ (x : List ℕ). IsUtf8 x) (sym rest_is) (from_byte t.whole 125 (drop 1 rest) (omega arith) (subst (λ (x : List ℕ). IsUtf8 x) (t.front ∙ ap (λ (x : List ℕ). t.whole ++ x) rest_is) u));
      shorter = omega (arith, size);
      less = (let all = full_less text rest (omega (arith, size)) in omega (arith, all));
    }
own_less prefix c count pieces step.Entries text rest u t =
    let l : Left text rest = entries_left text c.numbers rest u t in
    let size = ap length l.whole ∙ length-append l.front rest in
    record { utf8 = l.utf8; shorter = omega (arith, size); less = (let all = full_less text rest (omega (arith, size)) in omega (arith, all)) }
own_less prefix c count pieces step.Empty text rest u t = same_less text rest u t
own_less prefix c count pieces step.Note text rest u t = same_less text rest u t
own_less prefix c count pieces step.NoteAlways text rest u t = same_less text rest u t
own_less prefix c count pieces (step.One class) text rest u t = same_less text rest u t
own_less prefix c count pieces (step.Optional class) text rest u t = same_less text rest u t
own_less prefix c count pieces (step.Many class) text rest u t = same_less text rest u t
own_less prefix c count pieces (step.Some class) text rest u t = same_less text rest u t
own_less prefix c count pieces (step.Pairs first second) text rest u t = same_less text rest u t

-- the numbers of a table
numbers_step : (go : Bool → List ℕ → Option Table) (m : ℕ) (g : Bool) (text : List ℕ) (f : Front) (t : Table) → goes_on_after go g text f ≡ Some t →
    ((h : Bool) (r : List ℕ) (x : Table) → go h r ≡ Some x → length x.0 ≤ m) → length t.0 ≤ suc m
numbers_step go m g text (feed r) t e later = let n = later true r t e in omega (arith, n)
numbers_step go m g text (skip r) t e later = let n = later g r t e in omega (arith, n)
numbers_step go m true text ends t e later = let same : ([], text) ≡ t = cc in subst (λ (x : Table). length x.0 ≤ suc m) same (omega arith)
numbers_step go m false text ends t e later = absurd cc
numbers_step go m g text (found_entry z r) t e later = of_entry go m z r t (go false r) refl e (later false r)
  where
    of_entry : (go : Bool → List ℕ → Option Table) (m : ℕ) (z : ℤ) (r : List ℕ) (t : Table) (o : Option Table) → go false r ≡ o → (o >>= λ table. Some (with_number z table)) ≡ Some t →
        ((x : Table) → go false r ≡ Some x → length x.0 ≤ m) → length t.0 ≤ suc m
    of_entry go m z r t None e h later = absurd cc
    of_entry go m z r t (Some x) e h later =
        let same : with_number z x ≡ t = cc in
        let n = later x e in
        subst (λ (y : Table). length y.0 ≤ suc m) same (omega (arith, n))
numbers_step go m g text wrong t e later = absurd cc

numbers_within : (m : ℕ) (g : Bool) (text : List ℕ) (t : Table) → entries_within m g text ≡ Some t → length t.0 ≤ m
unfolding entries_within
numbers_within zero g text t e = absurd cc
numbers_within (suc m) g text t e = numbers_step (entries_within m) m g text (front_of text) t e (λ h r x k. numbers_within m h r x k)

numbers_few : (text : List ℕ) (numbers : List ℤ) (rest : List ℕ) → entries text ≡ Some (numbers, rest) → length numbers ≤ length text
unfolding entries
numbers_few text numbers rest e = numbers_within (length text) true text (numbers, rest) e

own_numbers : (prefix : List ℕ) (c : Content) (count : ℕ) (pieces : List Piece) (s : Step) (text rest : List ℕ) → is_table s ≡ true → TakesOwn prefix c count pieces s text rest → length c.numbers ≤ length text
own_numbers prefix c count pieces step.Entries text rest h t = numbers_few text c.numbers rest t
own_numbers prefix c count pieces _ text rest h t = absurd (both_ways false refl h)

-- a part with no line of its own
abbrev lines_in : List template.Line → ℕ
lines_in [] = 0
lines_in (s ∷ others) = bit (is_line s.0) + lines_in others

abbrev is_free : Part → Bool
is_free p = lines_in (steps_of p) == 0

abbrev any_free : List Part → Bool
any_free parts = list_any is_free parts

abbrev free_in : List Part → ℕ
free_in [] = 0
free_in (p ∷ parts) = bit (is_free p) + free_in parts

-- the steps that take such a part
abbrev holds_free : (Part → Bool) → Bool
holds_free q = q part.UserBody || (q part.InlineBody || (q part.ReduceBody || (q part.TableItems || q part.AscentItems)))

abbrev takes_free : Step → Bool
takes_free s = holds_free (takes s)

abbrev free_of : List template.Line → ℕ
free_of [] = 0
free_of (s ∷ others) = bit (takes_free s.0) + free_of others

free_part : (q : Part → Bool) (p : Part) → is_free p ≡ true → q p ≡ true → holds_free q ≡ true
unfolding steps_of
free_part q part.UserBody h k = or_left (q part.UserBody) _ k
free_part q part.InlineBody h k = or_right (q part.UserBody) _ (or_left (q part.InlineBody) _ k)
free_part q part.ReduceBody h k = or_right (q part.UserBody) _ (or_right (q part.InlineBody) _ (or_left (q part.ReduceBody) _ k))
free_part q part.TableItems h k = or_right (q part.UserBody) _ (or_right (q part.InlineBody) _ (or_right (q part.ReduceBody) _ (or_left (q part.TableItems) _ k)))
free_part q part.AscentItems h k = or_right (q part.UserBody) _ (or_right (q part.InlineBody) _ (or_right (q part.ReduceBody) _ (or_right (q part.TableItems) _ k)))
free_part q _ h k = absurd (both_ways false refl h)

free_belongs : (q : Part → Bool) (parts : List Part) → list_all q parts ≡ true → any_free parts ≡ true → holds_free q ≡ true
free_belongs q [] h a = absurd (both_ways false refl a)
free_belongs q (p ∷ parts) h a =
    let b = and_parts (q p) (list_all q parts) h in
    ⊎_elim (λ f. free_part q p f b.0) (λ r. free_belongs q parts b.1 r) (or_cases (is_free p) (any_free parts) a)

free_few : (parts : List Part) → free_in parts ≤ length parts
free_few [] = omega arith
free_few (p ∷ parts) = let a = bit_small (is_free p) in let b = free_few parts in omega (arith, a, b)

free_none : (parts : List Part) → any_free parts ≡ false → free_in parts ≡ 0
free_none [] h = refl
free_none (p ∷ parts) h =
    let b = or_parts (is_free p) (any_free parts) h in
    let first = ap bit b.0 in
    let next = free_none parts b.1 in
    omega (arith, first, next)

-- what a step may have, it takes
pairs_taken : (first second : Class) (parts : List Part) → are_pairs first second parts ≡ true → list_all (takes (step.Pairs first second)) parts ≡ true
pairs_taken first second [] h = refl
pairs_taken first second (p ∷ []) h = absurd (both_ways false refl h)
pairs_taken first second (p ∷ q ∷ parts) h =
    let a = and_parts (is_member first p) (is_member second q && are_pairs first second parts) h in
    let b = and_parts (is_member second q) (are_pairs first second parts) a.1 in
    and_from (takes (step.Pairs first second) p) _ (or_left (is_member first p) _ a.0) (and_from (takes (step.Pairs first second) q) _ (or_right (is_member first q) _ b.0) (pairs_taken first second parts b.1))

none_taken : (q : Part → Bool) (parts : List Part) → (length parts == 0) ≡ true → list_all q parts ≡ true
none_taken q [] h = refl
none_taken q (p ∷ parts) h = absurd (omega (arith, eqb-true (length (p ∷ parts)) 0 h))

may_take : (s : Step) (parts : List Part) → may_have s parts ≡ true → list_all (takes s) parts ≡ true
may_take (step.One class) parts h = (and_parts _ (list_all (is_member class) parts) h).1
may_take (step.Optional class) parts h = (and_parts _ (list_all (is_member class) parts) h).1
may_take (step.Many class) parts h = h
may_take (step.Some class) parts h = (and_parts _ (list_all (is_member class) parts) h).1
may_take (step.Pairs first second) parts h = pairs_taken first second parts h
may_take s parts h = none_taken (takes s) parts h

-- a step that takes such a part takes one part
abbrev is_single : Step → Bool
is_single s = not (takes_free s) || is_one s

abbrev are_single : List template.Line → Bool
are_single ss = list_all (λ s. is_single s.0) ss

single_one : (s : Step) → is_single s ≡ true → takes_free s ≡ true → is_one s ≡ true
single_one s h k = ⊎_elim (λ a. absurd (both_ways (not (takes_free s)) (ap not k) a)) (λ o. o) (or_cases (not (takes_free s)) (is_one s) h)

few_free : (s : Step) (parts : List Part) → is_single s ≡ true → may_have s parts ≡ true → free_in parts ≤ bit (takes_free s)
few_free s parts single may = elim (cases_Bool (takes_free s)) [
  | inl y ↦
      let one = one_part s parts (single_one s single y) may in
      let few = free_few parts in
      let there = ap bit y in
      omega (arith, one, few, there)
  | inr n ↦ elim (cases_Bool (any_free parts)) [
    | inl a ↦ absurd (both_ways (takes_free s) n (free_belongs (takes s) parts (may_take s parts may) a))
    | inr z ↦ (let none = free_none parts z in omega (arith, none))
  ]
]

-- in each part a line stands for itself, and for those without lines that it may have
abbrev is_roomy : Part → Bool
is_roomy p = ltb (free_of (steps_of p)) (2 * lines_in (steps_of p) + bit (is_free p))

all_roomy : (p : Part) → is_roomy p ≡ true
unfolding steps_of members_of
all_roomy part.Program = refl
all_roomy _ = refl

all_single : (p : Part) → are_single (steps_of p) ≡ true
unfolding steps_of members_of
all_single part.Program = refl
all_single _ = refl

few_holes : (p : Part) → ltb (hole_count p) 100 ≡ true
unfolding steps_of holes_of
few_holes part.Program = refl
few_holes _ = refl

pub count_graft : (f g : Forest) → part_count (graft f g) ≡ part_count f + part_count g
unfolding part_count
count_graft bare g = omega arith
count_graft (tree c below after) g = let h = count_graft after g in omega (arith, h)

-- each part takes its share of the text
abbrev Measured : Task → List ℕ → List ℕ → Type 0
Measured (trees f) text rest = part_count f + full rest ≤ full text + free_in (parts_in f)
Measured (steps c count ss f) text rest = part_count f + (full rest + 2 * lines_in ss) ≤ full text + free_of ss

abbrev IsSingle : Task → Type 0
IsSingle (trees f) = Unit {0}
IsSingle (steps c count ss f) = are_single ss ≡ true

record Measure (task : Task) (text rest : List ℕ) : Type 0 where
  utf8 : IsUtf8 rest
  shorter : length rest ≤ length text
  measured : Measured task text rest

measure : (prefix : List ℕ) (task : Task) (text rest : List ℕ) → IsUtf8 text → IsSingle task → Reads prefix task text rest → Measure task text rest
unfolding part_count
measure prefix _ _ _ u k (no_tree text) = record { utf8 = u; shorter = omega arith; measured = omega arith }
measure prefix _ _ _ u k (one_tree c below after text mid rest n f r more) =
    let a = measure prefix (steps c 0 (steps_of c.part) below) text mid u (all_single c.part) r in
    let b = measure prefix (trees after) mid rest a.utf8 tt more in
    let first = a.measured in
    let next = b.measured in
    let room = ltb-true (free_of (steps_of c.part)) (2 * lines_in (steps_of c.part) + bit (is_free c.part)) (all_roomy c.part) in
    let shorter = a.shorter in
    let last = b.shorter in
    record { utf8 = b.utf8; shorter = omega (arith, shorter, last); measured = omega (arith, first, next, room) }
measure prefix _ _ _ u k (no_step c count text) = record { utf8 = u; shorter = omega arith; measured = omega arith }
measure prefix _ _ _ u k (one_step c count s others now later text own mid rest m t r more) =
    let q = and_parts (is_single s.0) (are_single others) k in
    let o = own_less prefix c count s.1 s.0 text own u t in
    let a = measure prefix (trees now) own mid o.utf8 tt r in
    let b = measure prefix (steps c (count + tree_count now) others later) mid rest a.utf8 q.1 more in
    let less = o.less in
    let own_shorter = o.shorter in
    let first = a.measured in
    let next = b.measured in
    let few = few_free s.0 (parts_in now) q.0 m in
    let whole = count_graft now later in
    let shorter = a.shorter in
    let last = b.shorter in
    record { utf8 = b.utf8; shorter = omega (arith, own_shorter, shorter, last); measured = omega (arith, less, first, next, few, whole) }

-- a tree of a short text has few parts
pub few_parts : (prefix : List ℕ) (c : Content) (below : Forest) (text rest : List ℕ) → IsUtf8 text → length text + 2 < 2 ^ 63 → Reads prefix (trees (tree c below bare)) text rest → part_count (tree c below bare) < 2 ^ 63
few_parts prefix c below text rest u short r =
    let m = measure prefix (trees (tree c below bare)) text rest u tt r in
    let all = m.measured in
    let one = free_few (c.part ∷ []) in
    let most = full_most text in
    omega (arith, short, all, one, most)

count_lean : (f : Forest) → part_count (lean_trees f) ≡ part_count f
unfolding part_count lean_trees
count_lean bare = refl
count_lean (tree c below after) = let a = count_lean below in let b = count_lean after in omega (arith, a, b)

-- a tree has as many parts without what no text tells
pub few_lean : (c : Content) (below : Forest) → part_count (tree (lean c) (lean_trees below) bare) ≡ part_count (tree c below bare)
unfolding part_count lean_trees
few_lean c below = count_lean (tree c below bare)

-- what the parts hold
held_graft : (f g : Forest) → PartsHeld (lean_trees f) → PartsHeld (lean_trees g) → PartsHeld (lean_trees (graft f g))
unfolding PartsHeld lean_trees
held_graft bare g h k = k
held_graft (tree c below after) g h k = (h.0, h.1, held_graft after g h.2 k)

abbrev HeldTask : ℕ → Task → Type 0
HeldTask n (trees f) = PartsHeld (lean_trees f)
HeldTask n (steps c count ss f) = PartsHeld (lean_trees f) × (has_table ss ≡ true → length c.numbers ≤ n)

lean_short : (b : Bool) (numbers : List ℤ) (n : ℕ) → n < 2 ^ 63 → (b ≡ true → length numbers ≤ n) → length (lean_numbers b numbers) < 2 ^ 63
lean_short true numbers n short f = let few = f refl in omega (arith, few, short)
lean_short false numbers n short f = omega arith

held_task : (prefix : List ℕ) (n : ℕ) (task : Task) (text rest : List ℕ) → n < 2 ^ 63 → IsUtf8 text → length text ≤ n → IsSingle task → Reads prefix task text rest → HeldTask n task
unfolding PartsHeld lean_trees
held_task prefix n _ _ _ short u le k (no_tree text) = tt
held_task prefix n _ _ _ short u le k (one_tree c below after text mid rest size f r more) =
    let m = measure prefix (steps c 0 (steps_of c.part) below) text mid u (all_single c.part) r in
    let shorter = m.shorter in
    let a = held_task prefix n (steps c 0 (steps_of c.part) below) text mid short u le (all_single c.part) r in
    let b = held_task prefix n (trees after) mid rest short m.utf8 (omega (arith, shorter, le)) tt more in
    let few = ltb-true (hole_count c.part) 100 (few_holes c.part) in
    let content : ContentHeld (lean c) = record {
      holes = omega (arith, size, few);
      numbers = lean_short (has_table (steps_of c.part)) c.numbers n short a.1;
      notes = omega arith;
      each = All-nil _;
    } in
    (content, a.0, b)
held_task prefix n _ _ _ short u le k (no_step c count text) = (tt, λ h. absurd (both_ways false refl h))
held_task prefix n _ _ _ short u le k (one_step c count s others now later text own mid rest m t r more) =
    let q = and_parts (is_single s.0) (are_single others) k in
    let o = own_less prefix c count s.1 s.0 text own u t in
    let less = o.shorter in
    let x = measure prefix (trees now) own mid o.utf8 tt r in
    let shorter = x.shorter in
    let a = held_task prefix n (trees now) own mid short o.utf8 (omega (arith, less, le)) tt r in
    let b = held_task prefix n (steps c (count + tree_count now) others later) mid rest short x.utf8 (omega (arith, less, shorter, le)) q.1 more in (
      held_graft now later a b.0,
      λ h. ⊎_elim (λ y. (let few = own_numbers prefix c count s.1 s.0 text own y t in omega (arith, few, le))) (λ z. b.1 z) (or_cases (is_table s.0) (has_table others) h),
    )

-- the parts of a tree of a short text hold what a program can hold
pub few_held : (prefix : List ℕ) (c : Content) (below : Forest) (text rest : List ℕ) → IsUtf8 text → length text + 2 < 2 ^ 63 → Reads prefix (trees (tree c below bare)) text rest → PartsHeld (lean_trees (tree c below bare))
few_held prefix c below text rest u short r = held_task prefix (length text) (trees (tree c below bare)) text rest (omega (arith, short)) u (omega arith) tt r
