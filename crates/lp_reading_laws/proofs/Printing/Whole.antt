-- What is printed is read, part by part.
use Rattle.std.proofs.Common.{◌≡◌, ℕ, ◌+◌, zero, suc, Bool, true, false, not, ◌&&◌, List, [], ◌∷◌, ◌++◌, length, take, drop, All, refl, sym, ap, ◌∙◌, subst, arith, inl, inr, ⊎_elim, append-nil}
use Rattle.std.specs.List.{list_all}
use Rattle.std.proofs.lemmas.Bool.{and_parts, or_cases, or_left, or_right, cases_Bool, cond-true, cond-false, not-true, both_ways}
use Rattle.std.proofs.lemmas.List.Elements.{All-head, All-tail}
use Rattle.lp_form.specs.Templates.{steps_of, holes_of}
use Rattle.lp_form.specs.Templates as template
use Rattle.lp_form.specs.declared.part.Part.{Part}
use Rattle.lp_form.specs.declared.part.Part.TheVariants as part
use Rattle.lp_form.specs.declared.template.Kind.{Kind}
use Rattle.lp_write.specs.Lines.{Line, blanks, lines_bytes, indent_after_all}
use Rattle.lp_write.specs.declared.rust.Options.{Options}
use Rattle.lp_spelling.specs.Counting.{settled}
use Rattle.lp_program.specs.OwnLines.{own_lines}
use Rattle.lp_program.specs.Printed.{takes, Printed, all_lines, step_lines, printed}
use Rattle.lp_program.specs.Reads.{may_have, graft, parts_in, hole_count, KindsFill, Reads, trees, steps}
use Rattle.lp_program.specs.Reads.Reads.{no_tree, one_tree, no_step, one_step}
use Rattle.lp_program.specs.Trees.{Content, Forest, tree_count}
use Rattle.lp_program.specs.Trees.Forest.{bare, tree}
use Rattle.lp_reading_laws.specs.Printing.TemplateTests.{has_code, is_class, exact_after, closes_next, is_one, is_sound_step, are_sound}
use Rattle.lp_reading_laws.specs.Printing.WellFormed.{StepFits, is_shared, taken_in}
use Rattle.lp_reading_laws.specs.Printing.AsRead.{content_read, forest_read}
use Rattle.lp_reading_laws.specs.Printing.Levels.{trees_pass, steps_pass, tests_of}
use Rattle.lp_reading_laws.proofs.Printing.Bytes.{bytes-split}
use Rattle.lp_reading_laws.proofs.Printing.Forests.{front, behind, graft_split, count_split, parts_front, parts_behind, printed_front, printed_behind, taken_parts, taken_belong, none_taken, no_trees, no_count, length-parts}
use Rattle.lp_reading_laws.proofs.Printing.Own.{Ready, ready_same, ready_as, Texts, own_read}
use Rattle.lp_reading_laws.proofs.Printing.Leveling.{plain_pass, class_passes, blanks_at, blanks_closing}
use Rattle.lp_reading_laws.proofs.Printing.Steps.{not_taken, class_own, class_takes, class_after, class_sound, one_part, any_code, code_belongs, no_class_none, Closing, closing_line, ends_table}

-- the trees as they are read
pub part_same : (w : Bool) (c : Content) → (content_read w c).part ≡ c.part
part_same w c = elim (cases_Bool (has_code (steps_of c.part))) [
  | inl y ↦ ap (λ (x : Content). x.part) (cond-true (has_code (steps_of c.part)) _ _ y)
  | inr n ↦ ap (λ (x : Content). x.part) (cond-false (has_code (steps_of c.part)) _ _ n)
]

parts_read : (w : Bool) (f : Forest) → parts_in (forest_read w f) ≡ parts_in f
parts_read w bare = refl
parts_read w (tree c below after) =
    ap (λ p. p ∷ parts_in (forest_read w after)) (part_same w c) ∙ ap (λ (x : List Part). c.part ∷ x) (parts_read w after)

count_read : (w : Bool) (f : Forest) → tree_count (forest_read w f) ≡ tree_count f
count_read w bare = refl
count_read w (tree c below after) = ap (λ n. 1 + n) (count_read w after)

graft_read : (w : Bool) (a b : Forest) → graft (forest_read w a) (forest_read w b) ≡ forest_read w (graft a b)
graft_read w bare b = refl
graft_read w (tree c below after) b = ap (λ x. tree (content_read w c) (forest_read w below) x) (graft_read w after b)

split_read : (w : Bool) (n : ℕ) (f : Forest) → graft (forest_read w (front n f)) (forest_read w (behind n f)) ≡ forest_read w f
split_read w n f = graft_read w (front n f) (behind n f) ∙ ap (forest_read w) (graft_split n f)

-- the lines of a tree
abbrev pub tree_lines : Options → List ℕ → Content → Forest → List Line
tree_lines options prefix c below = step_lines options prefix c (tree_count below) (steps_of c.part) (printed options prefix below)

-- user code stands here, in front of a `}`, at the indent of the body of a function
pub record AtCode (options : Options) (i : ℕ) (text whole tail : List ℕ) : Type 0 where
  pub is : text ≡ whole
  pub closing : Closing tail
  pub indent : blanks options.whitespace i ≡ blanks options.whitespace 4

-- the steps of a tree's part are read
pub record TreeReads (options : Options) (prefix : List ℕ) (c : Content) (below : Forest) (text tail : List ℕ) : Type 0 where
  pub rest : List ℕ
  pub reads : Reads prefix (steps (content_read options.whitespace c) 0 (steps_of (content_read options.whitespace c).part) (forest_read options.whitespace below)) text rest
  pub same : settled rest ≡ settled tail

-- user code below a tree stands at its indent, where whitespace is on
abbrev pub tree_passes : Options → List ℕ → Content → Forest → ℕ → Bool
tree_passes options prefix c below i = steps_pass options prefix c (tree_count below) (steps_of c.part) i (printed options prefix below) (tests_of options prefix below)

abbrev pub Tree : Options → List ℕ → Content → Forest → Type 0
Tree options prefix c below =
    (i : ℕ) (text tail : List ℕ) → (options.whitespace ≡ true → tree_passes options prefix c below i ≡ true) → settled text ≡ settled (lines_bytes options.whitespace i (tree_lines options prefix c below) ++ tail) →
    (has_code (steps_of c.part) ≡ true → AtCode options i text (lines_bytes options.whitespace i (tree_lines options prefix c below) ++ tail) tail) →
    TreeReads options prefix c below text tail

pub record TreeOk (options : Options) (prefix : List ℕ) (c : Content) (below : Forest) : Type 0 where
  pub tree_reads : Tree options prefix c below
  pub count : length (content_read options.whitespace c).holes ≡ hole_count (content_read options.whitespace c).part
  pub kinds : KindsFill prefix (content_read options.whitespace c).part (content_read options.whitespace c).holes

abbrev pub Each : Options → List ℕ → Forest → Type 0
Each options prefix bare = Unit {0}
Each options prefix (tree c below after) = TreeOk options prefix c below × Each options prefix after

each_front : (options : Options) (prefix : List ℕ) (n : ℕ) (f : Forest) → Each options prefix f → Each options prefix (front n f)
each_front options prefix zero f e = tt
each_front options prefix (suc n) bare e = tt
each_front options prefix (suc n) (tree c below after) e = (e.0, each_front options prefix n after e.1)

each_behind : (options : Options) (prefix : List ℕ) (n : ℕ) (f : Forest) → Each options prefix f → Each options prefix (behind n f)
each_behind options prefix zero f e = e
each_behind options prefix (suc n) bare e = tt
each_behind options prefix (suc n) (tree c below after) e = each_behind options prefix n after e.1

-- trees side by side are read; user code stands alone
pub record TreesRead (options : Options) (prefix : List ℕ) (f : Forest) (text tail : List ℕ) : Type 0 where
  pub rest : List ℕ
  pub reads : Reads prefix (trees (forest_read options.whitespace f)) text rest
  pub same : settled rest ≡ settled tail

pub record AloneAtCode (options : Options) (prefix : List ℕ) (f : Forest) (i : ℕ) (text tail : List ℕ) : Type 0 where
  pub alone : tree_count f ≡ 1
  pub at_code : AtCode options i text (lines_bytes options.whitespace i (all_lines (printed options prefix f)) ++ tail) tail

alone_rest : (c : Content) (below after : Forest) → tree_count (tree c below after) ≡ 1 → after ≡ bare
alone_rest c below after h = no_count after (omega (arith, h))

alone_tree : (options : Options) (prefix : List ℕ) (c : Content) (below after : Forest) (i : ℕ) (text tail tail' : List ℕ) →
    lines_bytes options.whitespace i (all_lines (printed options prefix (tree c below after))) ++ tail ≡ lines_bytes options.whitespace i (tree_lines options prefix c below) ++ tail' →
    (after ≡ bare → tail' ≡ tail) → AloneAtCode options prefix (tree c below after) i text tail →
    AtCode options i text (lines_bytes options.whitespace i (tree_lines options prefix c below) ++ tail') tail'
alone_tree options prefix c below after i text tail tail' e t a = record {
  is = a.at_code.is ∙ e;
  closing = subst Closing (sym (t (alone_rest c below after a.alone))) a.at_code.closing;
  indent = a.at_code.indent;
}

pub trees_read : (options : Options) (prefix : List ℕ) (f : Forest) (i : ℕ) (text tail : List ℕ) → Each options prefix f →
    (options.whitespace ≡ true → trees_pass i (printed options prefix f) (tests_of options prefix f) ≡ true) →
    settled text ≡ settled (lines_bytes options.whitespace i (all_lines (printed options prefix f)) ++ tail) →
    (any_code (parts_in f) ≡ true → AloneAtCode options prefix f i text tail) → TreesRead options prefix f text tail
unfolding printed tests_of
trees_read options prefix bare i text tail e l h a = record { rest = text; reads = no_tree text; same = h }
trees_read options prefix (tree c below after) i text tail e l h a =
    let w : Bool = options.whitespace in
    let own : List Line = tree_lines options prefix c below in
    let others : List Line = all_lines (printed options prefix after) in
    let mid : List ℕ = lines_bytes w (indent_after_all i own) others ++ tail in
    let parts : lines_bytes w i (own ++ others) ++ tail ≡ lines_bytes w i own ++ mid = bytes-split w i own others tail in
    let passes = λ (on : w ≡ true). and_parts (tree_passes options prefix c below i) (trees_pass (indent_after_all i own) (printed options prefix after) (tests_of options prefix after)) (l on) in
    let first = e.0.tree_reads i text mid (λ on. (passes on).0) (h ∙ ap settled parts)
    (λ code. alone_tree options prefix c below after i text tail mid parts
    (λ none. ap (λ x. lines_bytes w (indent_after_all i own) (all_lines (printed options prefix x)) ++ tail) none)
    (a (or_left (has_code (steps_of c.part)) (any_code (parts_in after)) code))) in
    let next = trees_read options prefix after (indent_after_all i own) first.rest tail e.1 (λ on. (passes on).1) first.same
    (λ code.
    let none : after ≡ bare = alone_rest c below after (a (or_right (has_code (steps_of c.part)) (any_code (parts_in after)) code)).alone in
    absurd (both_ways (any_code (parts_in after)) (ap (λ x. any_code (parts_in x)) none) code)) in
    record {
      rest = next.rest;
      reads = one_tree (content_read w c) (forest_read w below) (forest_read w after) text first.rest next.rest e.0.count e.0.kinds first.reads next.reads;
      same = next.same;
    }

-- the steps that are left of a part are read
pub record StepsRead (options : Options) (prefix : List ℕ) (c : Content) (done : ℕ) (ss : List template.Line) (f : Forest) (text tail : List ℕ) : Type 0 where
  pub rest : List ℕ
  pub reads : Reads prefix (steps c done ss (forest_read options.whitespace f)) text rest
  pub same : settled rest ≡ settled tail

-- a step that has no parts below
pub plain_lines : (options : Options) (prefix : List ℕ) (c : Content) (total : ℕ) (s : template.Line) (others : List template.Line) (f : Forest) → is_class s.0 ≡ false →
    step_lines options prefix c total (s ∷ others) (printed options prefix f) ≡ own_lines options prefix c total s.1 s.0 ++ step_lines options prefix c total others (printed options prefix f)
unfolding step_lines
plain_lines options prefix c total s others f n =
    let ps : List Printed = printed options prefix f in
    let own : List Line = own_lines options prefix c total s.1 s.0 in
    ap (λ k. (own ++ all_lines (take k ps)) ++ step_lines options prefix c total others (drop k ps)) (taken_parts options prefix s.0 f ∙ none_taken s.0 (parts_in f) (not_taken s.0 n))
    ∙ ap (λ x. x ++ step_lines options prefix c total others ps) (append-nil own)

pub plain_shared : (s : template.Line) (others : List template.Line) (parts : List Part) → is_class s.0 ≡ false → is_shared (s ∷ others) parts ≡ true → (may_have s.0 [] ≡ true) × (is_shared others parts ≡ true)
plain_shared s others parts n h =
    let zero_taken : taken_in s.0 parts ≡ 0 = none_taken s.0 parts (not_taken s.0 n) in
    let q = and_parts (may_have s.0 (take (taken_in s.0 parts) parts)) (is_shared others (drop (taken_in s.0 parts) parts)) h in
    (ap (λ k. may_have s.0 (take k parts)) (sym zero_taken) ∙ q.0, ap (λ k. is_shared others (drop k parts)) (sym zero_taken) ∙ q.1)

-- a step of a class
pub class_lines : (options : Options) (prefix : List ℕ) (c : Content) (total : ℕ) (s : template.Line) (others : List template.Line) (f : Forest) → is_class s.0 ≡ true →
    step_lines options prefix c total (s ∷ others) (printed options prefix f)
    ≡ all_lines (printed options prefix (front (taken_in s.0 (parts_in f)) f)) ++ step_lines options prefix c total others (printed options prefix (behind (taken_in s.0 (parts_in f)) f))
unfolding step_lines
class_lines options prefix c total s others f y =
    let ps : List Printed = printed options prefix f in
    let n : ℕ = taken_in s.0 (parts_in f) in
    let own : List Line = own_lines options prefix c total s.1 s.0 in
    ap (λ k. (own ++ all_lines (take k ps)) ++ step_lines options prefix c total others (drop k ps)) (taken_parts options prefix s.0 f)
    ∙ ap (λ x. (own ++ all_lines x) ++ step_lines options prefix c total others (drop n ps)) (printed_front options prefix n f)
    ∙ ap (λ x. (own ++ all_lines (printed options prefix (front n f))) ++ step_lines options prefix c total others x) (printed_behind options prefix n f)
    ∙ ap (λ x. (x ++ all_lines (printed options prefix (front n f))) ++ step_lines options prefix c total others (printed options prefix (behind n f))) (class_own options prefix c total s.1 s.0 y)

pub class_shared : (s : template.Line) (others : List template.Line) (f : Forest) → is_shared (s ∷ others) (parts_in f) ≡ true →
    (may_have s.0 (parts_in (front (taken_in s.0 (parts_in f)) f)) ≡ true) × (is_shared others (parts_in (behind (taken_in s.0 (parts_in f)) f)) ≡ true)
class_shared s others f h =
    let n : ℕ = taken_in s.0 (parts_in f) in
    let q = and_parts (may_have s.0 (take n (parts_in f))) (is_shared others (drop n (parts_in f))) h in
    (ap (may_have s.0) (parts_front n f) ∙ q.0, ap (is_shared others) (parts_behind n f) ∙ q.1)

-- where a step takes user code, it is one part, and stands in front of a `}`
class_code : (options : Options) (prefix : List ℕ) (c : Content) (kinds : List Kind) (total i j : ℕ) (exact : Bool) (s : template.Line) (others : List template.Line) (f : Forest) (text tail : List ℕ) → (options.whitespace ≡ true → (i ≡ 4) × (j ≡ 4)) →
    is_class s.0 ≡ true → is_sound_step exact kinds s.0 s.1 others ≡ true → may_have s.0 (parts_in (front (taken_in s.0 (parts_in f)) f)) ≡ true →
    Ready exact text (lines_bytes options.whitespace i (all_lines (printed options prefix (front (taken_in s.0 (parts_in f)) f)))
    ++ (lines_bytes options.whitespace j (step_lines options prefix c total others (printed options prefix (behind (taken_in s.0 (parts_in f)) f))) ++ tail)) →
    any_code (parts_in (front (taken_in s.0 (parts_in f)) f)) ≡ true →
    AloneAtCode options prefix (front (taken_in s.0 (parts_in f)) f) i text (lines_bytes options.whitespace j (step_lines options prefix c total others (printed options prefix (behind (taken_in s.0 (parts_in f)) f))) ++ tail)
class_code options prefix c kinds total i j exact s others f text tail l y h m r a =
    let n : ℕ = taken_in s.0 (parts_in f) in
    let takes_it : takes s.0 part.UserBody ≡ true = code_belongs (takes s.0) (parts_in (front n f)) (ap (list_all (takes s.0)) (parts_front n f) ∙ taken_belong s.0 (parts_in f)) a in
    ⊎_elim
    (λ none. absurd (both_ways (takes s.0 part.UserBody) (not-true (takes s.0 part.UserBody) none) takes_it))
    (λ k.
    let q = and_parts (is_one s.0) (exact && closes_next others) k in
    let q2 = and_parts exact (closes_next others) q.1 in
    let one = one_part s.0 (parts_in (front n f)) q.0 m in
    let size = length-parts (front n f) in
    record {
      alone = omega (arith, one, size);
      at_code = record {
        is = r.is q2.0;
        closing = closing_line options prefix c total j others (printed options prefix (behind n f)) tail q2.1 (blanks_closing options.whitespace j (λ on. (l on).1));
        indent = blanks_at options.whitespace i (λ on. (l on).0);
      };
    })
    (or_cases (not (takes s.0 part.UserBody)) (is_one s.0 && (exact && closes_next others)) (class_sound exact kinds s.0 s.1 others y h))

pub steps_read : (options : Options) (prefix : List ℕ) (c : Content) (kinds : List Kind) (total : ℕ) (ss : List template.Line) (f : Forest) (done i : ℕ) (exact : Bool) (text tail : List ℕ) →
    (options.whitespace ≡ true → steps_pass options prefix c total ss i (printed options prefix f) (tests_of options prefix f) ≡ true) →
    Texts prefix c kinds → are_sound exact kinds ss ≡ true → All (λ s. StepFits c s.0) ss → is_shared ss (parts_in f) ≡ true → Each options prefix f → total ≡ done + tree_count f →
    Ready exact text (lines_bytes options.whitespace i (step_lines options prefix c total ss (printed options prefix f)) ++ tail) → StepsRead options prefix c done ss f text tail
unfolding step_lines
steps_read options prefix c kinds total [] f done i exact text tail l t p fits h e m r =
    record {
      rest = text;
      reads = subst (λ x. Reads prefix (steps c done [] (forest_read options.whitespace x)) text text) (sym (no_trees f h)) (no_step c done text);
      same = r.same;
    }
steps_read options prefix c kinds total (s ∷ others) f done i exact text tail l t p fits h e m r =
    let w : Bool = options.whitespace in
    let sound = and_parts (is_sound_step exact kinds s.0 s.1 others) (are_sound (exact_after s.0) kinds others) p in
    let later_fits = All-tail (λ x. StepFits c x.0) s others fits in
    elim (cases_Bool (is_class s.0)) [
      | inl y ↦
          let n : ℕ = taken_in s.0 (parts_in f) in
          let now : Forest = front n f in
          let later : Forest = behind n f in
          let q = class_shared s others f h in
          let own : List Line = all_lines (printed options prefix now) in
          let rest_lines : List Line = step_lines options prefix c total others (printed options prefix later) in
          let j : ℕ = indent_after_all i own in
          let printed_rest : List ℕ = lines_bytes w j rest_lines ++ tail in
          let all : lines_bytes w i (step_lines options prefix c total (s ∷ others) (printed options prefix f)) ++ tail ≡ lines_bytes w i own ++ printed_rest =
          ap (λ x. lines_bytes w i x ++ tail) (class_lines options prefix c total s others f y) ∙ bytes-split w i own rest_lines tail in
          let ready : Ready exact text (lines_bytes w i own ++ printed_rest) = ready_as exact text _ (lines_bytes w i own ++ printed_rest) all r in
          let level = λ (on : w ≡ true). class_passes options prefix c total i s others f y (l on) in
          let first = trees_read options prefix now i text printed_rest (each_front options prefix n f e) (λ on. (level on).inner) ready.same
          (λ code. class_code options prefix c kinds total i j exact s others f text tail (λ on. (level on).level code) y sound.0 q.0 ready code) in
          let counted = count_split n f in
          let next = steps_read options prefix c kinds total others later (done + tree_count now) j false first.rest tail (λ on. (level on).outer) t
          (ap (λ b. are_sound b kinds others) (sym (class_after s.0 y)) ∙ sound.1) later_fits q.1 (each_behind options prefix n f e) (omega (arith, counted, m))
          (ready_same first.rest printed_rest first.same) in
          let counts : done + tree_count now ≡ done + tree_count (forest_read w now) = ap (λ k. done + k) (sym (count_read w now)) in
          let may : may_have s.0 (parts_in (forest_read w now)) ≡ true = ap (may_have s.0) (parts_read w now) ∙ q.0 in
          let reads_next : Reads prefix (steps c (done + tree_count (forest_read w now)) others (forest_read w later)) first.rest next.rest =
          subst (λ k. Reads prefix (steps c k others (forest_read w later)) first.rest next.rest) counts next.reads in
          let reads_all : Reads prefix (steps c done (s ∷ others) (graft (forest_read w now) (forest_read w later))) text next.rest =
          one_step c done s others (forest_read w now) (forest_read w later) text text first.rest next.rest may (class_takes prefix c done s.1 s.0 text y) first.reads reads_next in
          record {
            rest = next.rest;
            reads = subst (λ x. Reads prefix (steps c done (s ∷ others) x) text next.rest) (split_read w n f) reads_all;
            same = next.same;
          }
      | inr z ↦
          let q = plain_shared s others (parts_in f) z h in
          let own : List Line = own_lines options prefix c total s.1 s.0 in
          let rest_lines : List Line = step_lines options prefix c total others (printed options prefix f) in
          let j : ℕ = indent_after_all i own in
          let printed_rest : List ℕ = lines_bytes w j rest_lines ++ tail in
          let all : lines_bytes w i (step_lines options prefix c total (s ∷ others) (printed options prefix f)) ++ tail ≡ lines_bytes w i own ++ printed_rest =
          ap (λ x. lines_bytes w i x ++ tail) (plain_lines options prefix c total s others f z) ∙ bytes-split w i own rest_lines tail in
          let ready : Ready exact text (lines_bytes w i own ++ printed_rest) = ready_as exact text _ (lines_bytes w i own ++ printed_rest) all r in
          let first = own_read options prefix c kinds done total i exact s.0 s.1 others text printed_rest t z sound.0 (All-head (λ x. StepFits c x.0) s others fits)
          (λ none. let left = no_trees f (no_class_none others (parts_in f) none q.1) in let zero_left : tree_count f ≡ 0 = ap tree_count left in omega (arith, zero_left, m))
          (λ ends. ends_table options prefix c kinds total j (exact_after s.0) others (printed options prefix f) tail t sound.1 ends)
          ready in
          let next = steps_read options prefix c kinds total others f done j (exact_after s.0) first.rest tail (λ on. plain_pass options prefix c total i s others f z (l on)) t sound.1 later_fits q.1 e m first.ready in
          let counts : done ≡ done + tree_count bare = omega arith in
          let reads_next : Reads prefix (steps c (done + tree_count bare) others (forest_read w f)) first.rest next.rest =
          subst (λ k. Reads prefix (steps c k others (forest_read w f)) first.rest next.rest) counts next.reads in
          record {
            rest = next.rest;
            reads = one_step c done s others bare (forest_read w f) text first.rest first.rest next.rest q.0 first.takes (no_tree first.rest) reads_next;
            same = next.same;
          }
    ]
