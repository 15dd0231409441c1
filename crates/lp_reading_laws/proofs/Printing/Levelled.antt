-- Each part leaves the indent as its template says, and user code stands at the indent 4.
use Rattle.std.proofs.Common.{◌≡◌, ℕ, ◌+◌, ◌-◌, ◌*◌, ◌^◌, ◌==◌, ◌<◌, ◌≤◌, Bool, true, false, not, ◌&&◌, ◌||◌, if◌then◌else◌, List, [], ◌∷◌, ◌++◌, length, refl, sym, ap, ◌∙◌, subst, arith, eq-eqb, inl, inr, ⊎_elim, append-nil}
use Rattle.std.proofs.Math.Dec.{leb}
use Rattle.std.specs.List.{list_all}
use Rattle.std.proofs.lemmas.Bool.{and_parts, and_from, or_cases, or_left, or_right, cases_Bool, cond-true, cond-false, eqb-true, leb-true, not-true, not_from_false, both_ways}
use Rattle.lp_form.specs.Templates.{steps_of, holes_of}
use Rattle.lp_form.specs.Templates as template
use Rattle.lp_form.specs.declared.part.Part.{Part}
use Rattle.lp_form.specs.declared.part.Part.TheVariants as part
use Rattle.lp_form.specs.declared.template.Kind.{Kind}
use Rattle.lp_form.specs.declared.template.Step.{Step}
use Rattle.lp_form.specs.declared.template.Step.TheVariants as step
use Rattle.lp_write.specs.Lines.{Line, indent_after_all}
use Rattle.lp_write.specs.declared.rust.Options.{Options}
use Rattle.lp_write.proofs.Writing.{indent-append}
use Rattle.lp_program.specs.OwnLines.{hole, code_lines, own_lines}
use Rattle.lp_program.specs.Printed.{takes, all_lines, step_lines, printed}
use Rattle.lp_program.specs.Reads.{parts_in, may_have}
use Rattle.lp_program.specs.Trees.{Content, Forest, tree_count}
use Rattle.lp_program.specs.Trees.Forest.{bare, tree}
use Rattle.lp_reading_laws.specs.Printing.TemplateTests.{is_code, has_code, is_code_only, is_class, has_class, is_one, are_sound}
use Rattle.lp_reading_laws.specs.Printing.LevelTests.{rises, falls, is_outer, one_if, step_rises, takes_falling, only_rises, step_falls, takes_outer, Level, own_fits, own_level, rising_fits, outer_fits, code_fits, class_fits, class_level, step_fits, step_level, are_level}
use Rattle.lp_reading_laws.specs.Printing.Levels.{holds_code, trees_pass, taken_pass, steps_pass, tests_of, is_level}
use Rattle.lp_reading_laws.specs.Printing.WellFormed.{taken_in, is_shared, IsWellPart}
use Rattle.lp_reading_laws.proofs.Printing.Forests.{front, behind, count_split, parts_front, taken_belong, no_trees, length-parts, Every, every_front, every_behind}
use Rattle.lp_reading_laws.proofs.Printing.Steps.{one_part, any_code, code_belongs, no_class_none}
use Rattle.lp_reading_laws.proofs.Printing.Templates.{templates_sound}
use Rattle.lp_reading_laws.proofs.Printing.LevelParts.{templates_level, rising_taken, outer_taken, falls_alone, step_falling}
use Rattle.lp_reading_laws.proofs.Printing.Leveling.{code_parts, plain_is, class_is}
use Rattle.lp_reading_laws.proofs.Printing.Indents.{extra, extra_none, At, Steadies, own_at, code_after}
use Rattle.lp_reading_laws.proofs.Printing.Whole.{tree_lines, tree_passes, plain_lines, plain_shared, class_lines, class_shared}

-- a tree from an indent on, at most so far above a base: its user code stands where it should, if the base is 0 where it has
-- any; and the indent behind it
pub record TreePasses (options : Options) (prefix : List ℕ) (c : Content) (below : Forest) (base i : ℕ) : Type 0 where
  pub passes : (is_outer c.part ≡ true → base ≡ 0) → tree_passes options prefix c below i ≡ true
  pub after : indent_after_all i (tree_lines options prefix c below) ≤ base + one_if (rises c.part)

-- wherever it stands; user code itself leaves the indent alone
pub record TreeLevel (options : Options) (prefix : List ℕ) (c : Content) (below : Forest) : Type 0 where
  pub level : (base i : ℕ) → i ≤ base + one_if (falls c.part) → TreePasses options prefix c below base i
  pub code : has_code (steps_of c.part) ≡ true → (i : ℕ) → indent_after_all i (tree_lines options prefix c below) ≡ i

abbrev pub EachLevel : Options → List ℕ → Forest → Type 0
EachLevel options prefix f = Every (TreeLevel options prefix) f

-- trees side by side
record ForestPasses (options : Options) (prefix : List ℕ) (f : Forest) (floor : Type 0) (most i : ℕ) : Type 0 where
  passes : floor → trees_pass i (printed options prefix f) (tests_of options prefix f) ≡ true
  after : indent_after_all i (all_lines (printed options prefix f)) ≤ most

rise_more : (b r : Bool) (n : ℕ) → (not b || r) ≡ true → one_if b + extra r n ≤ extra r (1 + n)
rise_more true true n h = omega arith
rise_more true false n h = absurd (both_ways false refl h)
rise_more false true n h = omega arith
rise_more false false n h = omega arith

rise_none : (b r : Bool) → (not b || r) ≡ true → r ≡ false → one_if b ≡ 0
rise_none true r h e = absurd (both_ways r e h)
rise_none false r h e = refl

pub implied : (b z : Bool) → (not b || z) ≡ true → b ≡ true → z ≡ true
implied true z h y = h
implied false z h y = absurd (both_ways false refl y)

forest_level : (options : Options) (prefix : List ℕ) (f : Forest) (r z : Bool) (base i : ℕ) → EachLevel options prefix f →
    list_all (λ p. not (rises p) || r) (parts_in f) ≡ true → list_all (λ p. not (is_outer p) || z) (parts_in f) ≡ true → i ≤ base →
    ForestPasses options prefix f (z ≡ true → (base ≡ 0) × (r ≡ false)) (base + extra r (tree_count f)) i
unfolding printed tests_of
forest_level options prefix bare r z base i e h k le = record { passes = λ g. refl; after = omega (arith, le) }
forest_level options prefix (tree c below after) r z base i e h k le =
    let own : List Line = tree_lines options prefix c below in
    let others : List Line = all_lines (printed options prefix after) in
    let j : ℕ = indent_after_all i own in
    let up : ℕ = one_if (rises c.part) in
    let a = and_parts (not (rises c.part) || r) (list_all (λ p. not (rises p) || r) (parts_in after)) h in
    let b = and_parts (not (is_outer c.part) || z) (list_all (λ p. not (is_outer p) || z) (parts_in after)) k in
    let first = e.0.level base i (omega (arith, le)) in
    let next = forest_level options prefix after r z (base + up) j e.1 a.1 b.1 first.after in
    let more = rise_more (rises c.part) r (tree_count after) a.0 in
    let behind_all = indent-append i own others in
    let last = next.after in
    record {
      passes = λ g.
          and_from (tree_passes options prefix c below i) (trees_pass j (printed options prefix after) (tests_of options prefix after))
          (first.passes (λ y. (g (implied (is_outer c.part) z b.0 y)).0))
          (next.passes (λ y. let at = g y in let none = rise_none (rises c.part) r a.0 at.1 in let floor = at.0 in (omega (arith, none, floor), at.1)));
      after = omega (arith, more, behind_all, last);
    }

-- one tree alone, which closes a bracket in front
alone_falls : (options : Options) (prefix : List ℕ) (f : Forest) (base i : ℕ) → EachLevel options prefix f → tree_count f ≡ 1 → list_all falls (parts_in f) ≡ true → i ≤ base + 4 → ForestPasses options prefix f (Unit {0}) base i
unfolding printed tests_of
alone_falls options prefix bare base i e one h le = absurd (omega (arith, one))
alone_falls options prefix (tree c below bare) base i e one h le =
    let own : List Line = tree_lines options prefix c below in
    let q = (and_parts (falls c.part) true h).0 in
    let alone = falls_alone c.part q in
    let high : one_if (falls c.part) ≡ 4 = ap one_if q in
    let low : one_if (rises c.part) ≡ 0 = ap one_if alone.0 in
    let first = e.0.level base i (omega (arith, high, le)) in
    let last = first.after in
    let lines_are : indent_after_all i (own ++ []) ≡ indent_after_all i own = ap (indent_after_all i) (append-nil own) in
    record {
      passes = λ g. and_from (tree_passes options prefix c below i) true (first.passes (λ y. absurd (both_ways (is_outer c.part) alone.1 y))) refl;
      after = omega (arith, lines_are, low, last);
    }
alone_falls options prefix (tree c below (tree d under after)) base i e one h le = absurd (omega (arith, one))

-- user code alone
alone_code : (options : Options) (prefix : List ℕ) (f : Forest) (i : ℕ) → EachLevel options prefix f → tree_count f ≡ 1 → any_code (parts_in f) ≡ true → indent_after_all i (all_lines (printed options prefix f)) ≡ i
unfolding printed
alone_code options prefix bare i e one h = absurd (omega (arith, one))
alone_code options prefix (tree c below bare) i e one h =
    let code : has_code (steps_of c.part) ≡ true = ⊎_elim (λ y. y) (λ n. absurd (both_ways false refl n)) (or_cases (has_code (steps_of c.part)) false h) in
    ap (indent_after_all i) (append-nil (tree_lines options prefix c below)) ∙ e.0.code code i
alone_code options prefix (tree c below (tree d under after)) i e one h = absurd (omega (arith, one))

-- the parts that a step takes
pub all_taken : (q t : Part → Bool) → ((p : Part) → q p ≡ true → t p ≡ true) → (ps : List Part) → list_all q ps ≡ true → list_all t ps ≡ true
all_taken q t f [] h = refl
all_taken q t f (p ∷ ps) h = let a = and_parts (q p) (list_all q ps) h in and_from (t p) (list_all t ps) (f p a.0) (all_taken q t f ps a.1)

pub if_so : (b z : Bool) → (b ≡ true → z ≡ true) → (not b || z) ≡ true
if_so true z f = f refl
if_so false z f = refl

pub falling_one : (s : Step) → step_falls s ≡ true → is_one s ≡ true
falling_one (step.One class) h = refl
falling_one _ h = absurd (both_ways false refl h)

-- what a step of a class may have, with the indent in front of it
record TakenParts (options : Options) (prefix : List ℕ) (p : Part) (total base i : ℕ) (l : Level) (s : Step) (f : Forest) : Type 0 where
  each : EachLevel options prefix f
  may : may_have s (parts_in f) ≡ true
  belong : list_all (takes s) (parts_in f) ≡ true
  few : tree_count f ≤ total
  at : At total base l i

-- and what they leave behind
record TakenPasses (options : Options) (prefix : List ℕ) (p : Part) (total base i : ℕ) (l : Level) (f : Forest) : Type 0 where
  passes : (is_outer p ≡ true → base ≡ 0) → trees_pass i (printed options prefix f) (tests_of options prefix f) ≡ true
  at : At total base l (indent_after_all i (all_lines (printed options prefix f)))

falling_at : (options : Options) (prefix : List ℕ) (p : Part) (total base i : ℕ) (l : Level) (s : Step) (f : Forest) → TakenParts options prefix p total base i l s f → step_falls s ≡ true → leb 4 l.above ≡ true →
    TakenPasses options prefix p total base i (record { above = l.above - 4; each = l.each; exact = false; first = false }) f
falling_at options prefix p total base i l s f t y h =
    let room = leb-true 4 l.above h in
    let one = one_part s (parts_in f) (falling_one s y) t.may in
    let size = length-parts f in
    let most = t.at.most in
    let a = alone_falls options prefix f (base + (l.above - 4) + extra l.each total) i t.each (omega (arith, one, size)) (all_taken (takes s) falls (λ q k. step_falling s q y k) (parts_in f) t.belong) (omega (arith, room, most)) in
    record { passes = λ g. a.passes tt; at = record { most = a.after; same = λ e z. absurd (both_ways false refl e) } }

abbrev OuterFits : Part → Level → Step → Type 0
OuterFits p l s = (not (takes_outer s) || outer_fits p l s) ≡ true

taken_level : (options : Options) (prefix : List ℕ) (p : Part) (total base i : ℕ) (l : Level) (s : Step) (f : Forest) → TakenParts options prefix p total base i l s f → OuterFits p l s →
    ForestPasses options prefix f (is_outer p ≡ true → base ≡ 0) (base + l.above + extra l.each total + extra (step_rises s) (tree_count f)) i
taken_level options prefix p total base i l s f t h =
    let level = forest_level options prefix f (step_rises s) (takes_outer s) (base + l.above + extra l.each total) i t.each
    (all_taken (takes s) (λ q. not (rises q) || step_rises s) (λ q k. if_so (rises q) (step_rises s) (λ y. rising_taken s q y k)) (parts_in f) t.belong)
    (all_taken (takes s) (λ q. not (is_outer q) || takes_outer s) (λ q k. if_so (is_outer q) (takes_outer s) (λ y. outer_taken s q y k)) (parts_in f) t.belong)
    t.at.most in
    record {
      passes = λ g.
          level.passes (λ y.
          let a = and_parts (is_outer p) _ (implied (takes_outer s) (outer_fits p l s) h y) in
          let b = and_parts (not l.each) ((l.above == 0) && not (step_rises s)) a.1 in
          let d = and_parts (l.above == 0) (not (step_rises s)) b.1 in
          let low = g a.0 in
          let none = extra_none l.each total (not-true l.each b.0) in
          let over = eqb-true l.above 0 d.0 in
          (omega (arith, low, none, over), not-true (step_rises s) d.1));
      after = level.after;
    }

rising_at : (options : Options) (prefix : List ℕ) (p : Part) (total base i : ℕ) (l : Level) (s : Step) (others : List template.Line) (f : Forest) → TakenParts options prefix p total base i l s f → step_rises s ≡ true → rising_fits l s others ≡ true → OuterFits p l s →
    TakenPasses options prefix p total base i (if is_one s then record { above = l.above + 4; each = l.each; exact = false; first = false } else record { above = l.above; each = true; exact = false; first = false }) f
rising_at options prefix p total base i l s others f t y h k =
    let a = taken_level options prefix p total base i l s f t k in
    let last = a.after in
    let four : extra (step_rises s) (tree_count f) ≡ 4 * tree_count f = ap (λ b. extra b (tree_count f)) y in
    let q = and_parts (only_rises s) (is_one s || (not l.each && (l.first && not (has_class others)))) h in
    elim (cases_Bool (is_one s)) [
      | inl one ↦
          let alone = one_part s (parts_in f) one t.may in
          let size = length-parts f in
          subst (λ l'. TakenPasses options prefix p total base i l' f) (sym (cond-true (is_one s) _ _ one))
          (record { passes = a.passes; at = record { most = omega (arith, last, four, alone, size); same = λ e z. absurd (both_ways false refl e) } })
      | inr many ↦
          let all = ⊎_elim (λ o. absurd (both_ways (is_one s) many o)) (λ n. n) (or_cases (is_one s) (not l.each && (l.first && not (has_class others))) q.1) in
          let none = extra_none l.each total (not-true l.each (and_parts (not l.each) _ all).0) in
          let few = t.few in
          subst (λ l'. TakenPasses options prefix p total base i l' f) (sym (cond-false (is_one s) _ _ many))
          (record { passes = a.passes; at = record { most = omega (arith, last, four, none, few); same = λ e z. absurd (both_ways false refl e) } })
    ]

staying_at : (options : Options) (prefix : List ℕ) (p : Part) (total base i : ℕ) (l : Level) (s : Step) (f : Forest) → TakenParts options prefix p total base i l s f → step_rises s ≡ false → OuterFits p l s →
    TakenPasses options prefix p total base i (record { above = l.above; each = l.each; exact = false; first = false }) f
staying_at options prefix p total base i l s f t y k =
    let a = taken_level options prefix p total base i l s f t k in
    let last = a.after in
    let none = extra_none (step_rises s) (tree_count f) y in
    record { passes = a.passes; at = record { most = omega (arith, last, none); same = λ e z. absurd (both_ways false refl e) } }

taken_at : (options : Options) (prefix : List ℕ) (p : Part) (total base i : ℕ) (l : Level) (s : Step) (others : List template.Line) (f : Forest) → TakenParts options prefix p total base i l s f →
    (if step_falls s then leb 4 l.above else not (takes_falling s)) ≡ true → (not (step_rises s) || rising_fits l s others) ≡ true → OuterFits p l s → TakenPasses options prefix p total base i (class_level l s) f
taken_at options prefix p total base i l s others f t h k o = elim (cases_Bool (step_falls s)) [
  | inl y ↦
      subst (λ l'. TakenPasses options prefix p total base i l' f) (sym (cond-true (step_falls s) _ _ y))
      (falling_at options prefix p total base i l s f t y (sym (cond-true (step_falls s) (leb 4 l.above) (not (takes_falling s)) y) ∙ h))
  | inr n ↦ elim (cases_Bool (step_rises s)) [
    | inl y ↦
        subst (λ l'. TakenPasses options prefix p total base i l' f) (sym (cond-false (step_falls s) _ _ n ∙ cond-true (step_rises s) _ _ y))
        (rising_at options prefix p total base i l s others f t y (implied (step_rises s) (rising_fits l s others) k y) o)
    | inr m ↦
        subst (λ l'. TakenPasses options prefix p total base i l' f) (sym (cond-false (step_falls s) _ _ n ∙ cond-false (step_rises s) _ _ m))
        (staying_at options prefix p total base i l s f t m o)
  ]
]

-- user code among them stands at the indent 4, before and behind it
abbrev CodeFits : Part → Level → Step → Type 0
CodeFits p l s = (not (takes s part.UserBody) || code_fits p l s) ≡ true

code_at : (options : Options) (prefix : List ℕ) (p : Part) (total base i : ℕ) (l : Level) (s : Step) (f : Forest) → TakenParts options prefix p total base i l s f → CodeFits p l s → (is_outer p ≡ true → base ≡ 0) →
    (not (holds_code (printed options prefix f)) || ((i == 4) && (indent_after_all i (all_lines (printed options prefix f)) == 4))) ≡ true
code_at options prefix p total base i l s f t h g = elim (cases_Bool (any_code (parts_in f))) [
  | inl y ↦
      let takes_it = code_belongs (takes s) (parts_in f) t.belong y in
      let a = and_parts (is_outer p) (l.exact && ((l.above == 4) && is_one s)) (implied (takes s part.UserBody) _ h takes_it) in
      let b = and_parts l.exact ((l.above == 4) && is_one s) a.1 in
      let d = and_parts (l.above == 4) (is_one s) b.1 in
      let same = t.at.same b.0 (g a.0) in
      let four : i ≡ 4 = same ∙ eqb-true l.above 4 d.0 in
      let one = one_part s (parts_in f) d.1 t.may in
      let size = length-parts f in
      let behind_it = alone_code options prefix f i t.each (omega (arith, one, size)) y in
      or_right (not (holds_code (printed options prefix f))) _ (and_from (i == 4) _ (eq-eqb i 4 four) (eq-eqb _ 4 (behind_it ∙ four)))
  | inr n ↦ or_left (not (holds_code (printed options prefix f))) _ (not_from_false (holds_code (printed options prefix f)) (code_parts options prefix f ∙ n))
]

-- the steps that are left of a part
record StepsPass (options : Options) (prefix : List ℕ) (c : Content) (total base : ℕ) (ss : List template.Line) (f : Forest) (i : ℕ) : Type 0 where
  passes : (is_outer c.part ≡ true → base ≡ 0) → steps_pass options prefix c total ss i (printed options prefix f) (tests_of options prefix f) ≡ true
  after : indent_after_all i (step_lines options prefix c total ss (printed options prefix f)) ≤ base + one_if (rises c.part)

steps_level : (options : Options) (prefix : List ℕ) (c : Content) (kinds : List Kind) (total base : ℕ) (ss : List template.Line) (f : Forest) (l : Level) (i : ℕ) → Steadies prefix c kinds → are_level c.part kinds l ss ≡ true →
    is_shared ss (parts_in f) ≡ true → EachLevel options prefix f → tree_count f ≤ total → At total base l i →
    StepsPass options prefix c total base ss f i
unfolding step_lines steps_pass
steps_level options prefix c kinds total base [] f l i t h k e few at =
    let q = and_parts (l.above == one_if (rises c.part)) (not l.each) h in
    let le = eqb-true l.above (one_if (rises c.part)) q.0 in
    let none = extra_none l.each total (not-true l.each q.1) in
    let most = at.most in
    record { passes = λ g. refl; after = omega (arith, le, none, most) }
steps_level options prefix c kinds total base (s ∷ others) f l i t h k e few at =
    let a = and_parts (step_fits c.part kinds l s.0 s.1 others) (are_level c.part kinds (step_level l s.0 s.1) others) h in
    elim (cases_Bool (is_class s.0)) [
      | inl y ↦
          let n : ℕ = taken_in s.0 (parts_in f) in
          let now : Forest = front n f in
          let later : Forest = behind n f in
          let shared = class_shared s others f k in
          let counted = count_split n f in
          let fits : class_fits c.part l s.0 others ≡ true = sym (cond-true (is_class s.0) (class_fits c.part l s.0 others) (own_fits kinds l s.0 s.1) y) ∙ a.0 in
          let b1 = and_parts (if step_falls s.0 then leb 4 l.above else not (takes_falling s.0)) _ fits in
          let b2 = and_parts (not (step_rises s.0) || rising_fits l s.0 others) _ b1.1 in
          let b3 = and_parts (not (takes_outer s.0) || outer_fits c.part l s.0) _ b2.1 in
          let parts : TakenParts options prefix c.part total base i l s.0 now = record {
            each = every_front (TreeLevel options prefix) n f e;
            may = shared.0;
            belong = ap (list_all (takes s.0)) (parts_front n f) ∙ taken_belong s.0 (parts_in f);
            few = omega (arith, counted, few);
            at = at;
          } in
          let first = taken_at options prefix c.part total base i l s.0 others now parts b1.0 b2.0 b3.0 in
          let own : List Line = all_lines (printed options prefix now) in
          let j : ℕ = indent_after_all i own in
          let level_is : step_level l s.0 s.1 ≡ class_level l s.0 = cond-true (is_class s.0) _ _ y in
          let next = steps_level options prefix c kinds total base others later (step_level l s.0 s.1) j t a.1 shared.1 (every_behind (TreeLevel options prefix) n f e) (omega (arith, counted, few))
          (subst (λ l'. At total base l' j) (sym level_is) first.at) in
          let lines_are = ap (indent_after_all i) (class_lines options prefix c total s others f y) ∙ indent-append i own (step_lines options prefix c total others (printed options prefix later)) in
          let last = next.after in
          record {
            passes = λ g.
                class_is options prefix c total i s others f y
                ∙ and_from (taken_pass i (printed options prefix now) (tests_of options prefix now)) _
                (and_from _ (trees_pass i (printed options prefix now) (tests_of options prefix now)) (code_at options prefix c.part total base i l s.0 now parts b3.1 g) (first.passes g)) (next.passes g);
            after = omega (arith, lines_are, last);
          }
      | inr z ↦
          let shared = plain_shared s others (parts_in f) z k in
          let own : List Line = own_lines options prefix c total s.1 s.0 in
          let j : ℕ = indent_after_all i own in
          let fits : own_fits kinds l s.0 s.1 ≡ true = sym (cond-false (is_class s.0) (class_fits c.part l s.0 others) (own_fits kinds l s.0 s.1) z) ∙ a.0 in
          let level_is : step_level l s.0 s.1 ≡ own_level l s.0 s.1 = cond-false (is_class s.0) _ _ z in
          let next = steps_level options prefix c kinds total base others f (step_level l s.0 s.1) j t a.1 shared.1 e few
          (subst (λ l'. At total base l' j) (sym level_is) (own_at options prefix c kinds total base i l s.0 s.1 t fits at)) in
          let lines_are = ap (indent_after_all i) (plain_lines options prefix c total s others f z) ∙ indent-append i own (step_lines options prefix c total others (printed options prefix f)) in
          let last = next.after in
          record {
            passes = λ g. plain_is options prefix c total i s others f z ∙ next.passes g;
            after = omega (arith, lines_are, last);
          }
    ]

-- the lines of user code
pub code_lines_are : (options : Options) (prefix : List ℕ) (c : Content) (total : ℕ) (pieces : List template.Piece) (f : Forest) → f ≡ bare →
    step_lines options prefix c total ((step.Code, pieces) ∷ []) (printed options prefix f) ≡ code_lines (hole c 0)
unfolding step_lines printed
code_lines_are options prefix c total pieces f none =
    ap (λ x. step_lines options prefix c total ((step.Code, pieces) ∷ []) (printed options prefix x)) none
    ∙ append-nil (code_lines (hole c 0) ++ []) ∙ append-nil (code_lines (hole c 0))

code_step_after : (options : Options) (prefix : List ℕ) (c : Content) (total i : ℕ) (s : Step) (pieces : List template.Piece) (f : Forest) → is_code s ≡ true → is_shared ((s, pieces) ∷ []) (parts_in f) ≡ true →
    indent_after_all i (step_lines options prefix c total ((s, pieces) ∷ []) (printed options prefix f)) ≡ i
code_step_after options prefix c total i step.Code pieces f k h =
    let none : f ≡ bare = no_trees f (no_class_none ((step.Code, pieces) ∷ []) (parts_in f) refl h) in
    ap (indent_after_all i) (code_lines_are options prefix c total pieces f none) ∙ code_after i (hole c 0)
code_step_after options prefix c total i _ pieces f k h = absurd (both_ways false refl k)

code_steps_after : (options : Options) (prefix : List ℕ) (c : Content) (total i : ℕ) (ss : List template.Line) (f : Forest) → is_code_only ss ≡ true → is_shared ss (parts_in f) ≡ true →
    indent_after_all i (step_lines options prefix c total ss (printed options prefix f)) ≡ i
code_steps_after options prefix c total i [] f k h = absurd (both_ways false refl k)
code_steps_after options prefix c total i (s ∷ []) f k h = code_step_after options prefix c total i s.0 s.1 f k h
code_steps_after options prefix c total i (s ∷ t ∷ ss) f k h = absurd (both_ways false refl k)

-- a part with those below it
pub part_level : (options : Options) (prefix : List ℕ) (c : Content) (below : Forest) → length c.notes < 2 ^ 64 → IsWellPart prefix c (parts_in below) → EachLevel options prefix below → TreeLevel options prefix c below
part_level options prefix c below few p e =
    let start : Level = record { above = one_if (falls c.part); each = false; exact = false; first = true } in
    record {
      level = λ base i le.
          (let r = steps_level options prefix c (holes_of c.part) (tree_count below) base (steps_of c.part) below start i (record { fills = p.fills; notes = p.steady; few = few }) (templates_level c.part) p.shared e (omega arith)
          (record { most = omega (arith, le); same = λ y z. absurd (both_ways false refl y) }) in
          record { passes = r.passes; after = r.after });
      code = λ h i.
          code_steps_after options prefix c (tree_count below) i (steps_of c.part) below
          (sym (cond-true (has_code (steps_of c.part)) (is_code_only (steps_of c.part)) (are_sound false (holes_of c.part) (steps_of c.part)) h) ∙ templates_sound c.part) p.shared;
    }

-- a whole program
pub whole_level : (options : Options) (prefix : List ℕ) (c : Content) (below : Forest) → TreeLevel options prefix c below → is_level options prefix (tree c below bare) ≡ true
unfolding printed tests_of
whole_level options prefix c below t = and_from (tree_passes options prefix c below 0) true ((t.level 0 0 (omega arith)).passes (λ y. refl)) refl

pub whole_back : (options : Options) (prefix : List ℕ) (c : Content) (below : Forest) (i : ℕ) → c.part ≡ part.Program → TreeLevel options prefix c below → indent_after_all i (all_lines (printed options prefix (tree c below bare))) ≤ i
unfolding printed
whole_back options prefix c below i p t =
    let first = (t.level i i (omega arith)).after in
    let low : one_if (rises c.part) ≡ 0 = ap (λ q. one_if (rises q)) p in
    let lines_are = ap (indent_after_all i) (append-nil (tree_lines options prefix c below)) in
    omega (arith, low, first, lines_are)
