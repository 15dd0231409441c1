-- The cases that the printed lines of a state's arms are read as: shifts and reductions, each with what its line looks for.
use Rattle.std.proofs.Common.{◌≡◌, ℕ, suc, ◌+◌, Bool, true, false, List, [], ◌∷◌, ◌++◌, length, map, Option, Some, None, slice_get, refl, sym, ap, ◌∙◌, subst, arith, append_assoc, append-nil, length-append}
use Rattle.std.specs.Prelude.{◌||◌, if◌then◌else◌}
use Rattle.std.specs.List.{flat_map, AllByRecursion}
use Rattle.std.proofs.lemmas.List.Concat.{flat_map-append, flat_map-cons}
use Rattle.lp_core.specs.declared.expr.Case.{Case}
use Rattle.lp_core.specs.Tree.{Tree}
use Rattle.lp_core.specs.Store.{Program}
use Rattle.lp_form.specs.declared.part.Part.TheVariants as part
use Rattle.lp_view.specs.PartLists.{Form, is_a, hole_of, parts_of, over}
use Rattle.lp_maker.specs.Constructs.{one_after_another}
use Rattle.lp_maker.specs.Making.{Making}
use Rattle.lp_maker.specs.Patterns.{form_of}
use Rattle.lp_maker.specs.Slots.{Names}
use Rattle.lp_bodies.specs.Lines.{lines_of}
use Rattle.lp_bodies.specs.Reductions.{Work, work_of}
use Rattle.lp_bodies.specs.Tables.{Reading, reading_of}
use Rattle.lp_ascent_bodies.specs.declared.ascent.Lines.{Lines as Shared}
use Rattle.lp_ascent_bodies.specs.AscentArms.{Arming, done_arm, is_token, token_case, end_case, case_row, first_case, reduce_cases, lines_below, found_reduce, shift_lines, shift_arm, reduce_arm}
use Rattle.lp_ascent_bodies.specs.AscentReductions.{with_lookahead_start, ascent_line, ascent_reduce}
use Rattle.lp_ascent_bodies.specs.AscentErrors.{expected_error}
use Rattle.lp_ascent_bodies.specs.AscentStates.{is_shift, is_reduce, arm_of}
use Rattle.lp_question_laws.proofs.Gotos.LinkGrows.{either}
use Rattle.lp_turn_laws.proofs.Paths.Numbered.{at_left, at_right}
use Rattle.lp_question_laws.proofs.Tokens.Forms.{AreTexts}
use Rattle.lp_back_end_laws.proofs.Call.CaseBodies.{next_arming}
use Rattle.lp_back_end_laws.specs.Call.Cases.{Sought, for_form, for_end, LookForEach, AreCasesOf, row_soughts, first_sought, reduce_soughts, line_soughts, form_sought, forms_sought, IsArmLine}

-- ---- texts of a program
split_left : (texts fs gs : List (List ℕ)) (b : ℕ) → AreTexts texts b (fs ++ gs) → AreTexts texts b fs
split_left texts fs gs b h j f at = h j f (at_left fs gs j f at)

split_right : (texts fs gs : List (List ℕ)) (b : ℕ) → AreTexts texts b (fs ++ gs) → AreTexts texts (b + length fs) gs
split_right texts fs gs b h j f at =
    let same : (b + length fs) + j ≡ b + (length fs + j) = omega arith in
    ap (slice_get texts) same ∙ h (length fs + j) f (at_right fs gs (length fs + j) j f refl at)

pub forms_both : (ss ts : List Sought) → forms_sought (ss ++ ts) ≡ forms_sought ss ++ forms_sought ts
forms_both ss ts = flat_map-append form_sought ss ts

-- ---- what a reduction makes beside its lines: no texts
pub record KeepsTexts (m n : Making) : Type 0 where
  pub texts : n.texts ≡ m.texts
  pub prefix : n.prefix ≡ m.prefix

bottom_keeps : (m : Making) (line : Form) → KeepsTexts m (with_lookahead_start line m)
bottom_keeps m line =
    either (KeepsTexts m) (is_a part.AscentFixed line) _ _ (record { texts = refl; prefix = refl }) (either (KeepsTexts m) (is_a part.AscentOptional line) _ _ (record { texts = refl; prefix = refl }) (record { texts = refl; prefix = refl }))

line_keeps : (shared : Shared) (w : Work) (line : Form) → KeepsTexts w.made (ascent_line shared w line).made
line_keeps shared w line = either (λ (u : Work). KeepsTexts w.made u.made) _ _ _ (bottom_keeps w.made line) (record { texts = refl; prefix = refl })

lines_keep : (shared : Shared) (w : Work) (lines : List Form) → KeepsTexts w.made (over (ascent_line shared) w lines).made
lines_keep shared w [] = record { texts = refl; prefix = refl }
lines_keep shared w (line ∷ lines) =
    let first = line_keeps shared w line in
    let rest = lines_keep shared (ascent_line shared w line) lines in
    record { texts = rest.texts ∙ first.texts; prefix = rest.prefix ∙ first.prefix }

reduce_keeps : (shared : Shared) (m : Making) (names : Names) (form : Form) → KeepsTexts m (ascent_reduce shared m names form).made
reduce_keeps shared m names form = (let k = lines_keep shared (work_of (lines_of names []) m) (parts_of form) in record { texts = k.texts; prefix = k.prefix })

found_keeps : (shared : Shared) (m : Making) (names : Names) (o : Option Form) → KeepsTexts m (found_reduce shared m names o).made
found_keeps shared m names None = record { texts = refl; prefix = refl }
found_keeps shared m names (Some form) = reduce_keeps shared m names form

-- ---- cases
each_more : (p : Program) (body : ℕ) (ss ts : List Sought) (cs ds : List Case) → LookForEach p body ss cs → LookForEach p body ts ds → LookForEach p body (ss ++ ts) (cs ++ ds)
each_more p body [] ts [] ds h i = i
each_more p body [] ts (c ∷ cs) ds h i = absurd h
each_more p body (s ∷ ss) ts [] ds h i = absurd h
each_more p body (s ∷ ss) ts (c ∷ cs) ds h i = (h.0, each_more p body ss ts cs ds h.1 i)

-- cases of an arm behind those of others
pub arm_more : (p : Program) (body : ℕ) (gs : List (List Sought)) (g : List Sought) (cases new : List Case) → AreCasesOf p body gs cases → LookForEach p (body + length gs) g new → AreCasesOf p body (gs ++ g ∷ []) (cases ++ new)
arm_more p body [] g cases new h i =
    let none : body + 0 ≡ body = omega arith in
    (new, [], ap (λ cs. cs ++ new) h ∙ sym (append-nil new), subst (λ k. LookForEach p k g new) none i, refl)
arm_more p body (f ∷ gs) g cases new h i =
    let next : body + suc (length gs) ≡ (body + 1) + length gs = omega arith in
    (h.0, h.1 ++ new, ap (λ cs. cs ++ new) h.2 ∙ append_assoc h.0 h.1 new, h.3, arm_more p (body + 1) gs g h.1 new h.4 (subst (λ k. LookForEach p k g new) next i))

-- tests were read that look for these
pub record TestsRead (p : Program) (s r : Reading) (ss : List Sought) : Type 0 where
  pub new : List Case
  pub cases : r.arms.cases ≡ s.arms.cases ++ new
  pub each : LookForEach p (length s.arms.bodies) ss new
  pub bodies : r.arms.bodies ≡ s.arms.bodies
  pub texts : r.made.texts ≡ s.made.texts ++ forms_sought ss
  pub prefix : r.made.prefix ≡ s.made.prefix

module _ (p : Program) where
  none_read : (s : Reading) → TestsRead p s s []
  none_read s = record { new = []; cases = sym (append-nil s.arms.cases); each = tt; bodies = refl; texts = sym (append-nil s.made.texts); prefix = refl }

  both_read : (s r u : Reading) (ss ts : List Sought) → TestsRead p s r ss → TestsRead p r u ts → TestsRead p s u (ss ++ ts)
  both_read s r u ss ts a b = record {
    new = a.new ++ b.new;
    cases = b.cases ∙ ap (λ cs. cs ++ b.new) a.cases ∙ append_assoc s.arms.cases a.new b.new;
    each = each_more p (length s.arms.bodies) ss ts a.new b.new a.each (subst (λ (l : List Tree). LookForEach p (length l) ts b.new) a.bodies b.each);
    bodies = b.bodies ∙ a.bodies;
    texts = b.texts ∙ ap (λ ts'. ts' ++ forms_sought ts) a.texts ∙ append_assoc s.made.texts (forms_sought ss) (forms_sought ts) ∙ ap (λ fs. s.made.texts ++ fs) (sym (forms_both ss ts));
    prefix = b.prefix ∙ a.prefix;
  }

  abbrev Written : Reading → List Sought → Type 0
  Written s ss = AreTexts p.texts (length s.made.texts) (forms_sought ss)

  token_read : (pattern : List ℕ) (s : Reading) → Written s (Some (form_of s.made.prefix pattern) ∷ []) → TestsRead p s (token_case pattern s) (Some (form_of s.made.prefix pattern) ∷ [])
  token_read pattern s h =
      let here : length s.made.texts + 0 ≡ length s.made.texts = omega arith in
      record {
        new = _;
        cases = refl;
        each = (for_form (length s.made.texts) (form_of s.made.prefix pattern) (ap (slice_get p.texts) (sym here) ∙ h 0 (form_of s.made.prefix pattern) refl), tt);
        bodies = refl;
        texts = refl;
        prefix = refl;
      }

  end_read : (s : Reading) → TestsRead p s (end_case s) (None ∷ [])
  end_read s = record { new = _; cases = refl; each = (for_end, tt); bodies = refl; texts = sym (append-nil s.made.texts); prefix = refl }

  row_read : (s : Reading) (row : Form) → Written s (row_soughts s.made.prefix row) → TestsRead p s (case_row s row) (row_soughts s.made.prefix row)
  row_read s row = by_token (is_token row) (is_a part.LastEnd row)
    where
      by_token : (b c : Bool) → Written s (if b then Some (form_of s.made.prefix (hole_of 0 row)) ∷ [] else (if c then None ∷ [] else []))
          → TestsRead p s (if b then token_case (hole_of 0 row) s else (if c then end_case s else s)) (if b then Some (form_of s.made.prefix (hole_of 0 row)) ∷ [] else (if c then None ∷ [] else []))
      by_token true c h = token_read (hole_of 0 row) s h
      by_token false true h = end_read s
      by_token false false h = none_read s

  first_read : (s : Reading) (line : Form) → Written s (first_sought s.made.prefix line ∷ []) → TestsRead p s (first_case line s) (first_sought s.made.prefix line ∷ [])
  first_read s line = by (is_a part.ReduceEnd line)
    where
      by : (b : Bool) → Written s ((if b then None else Some (form_of s.made.prefix (hole_of 0 line))) ∷ []) → TestsRead p s (if b then end_case s else token_case (hole_of 0 line) s) ((if b then None else Some (form_of s.made.prefix (hole_of 0 line))) ∷ [])
      by true h = end_read s
      by false h = token_read (hole_of 0 line) s h

  -- what is left to read after some
  later : (s r : Reading) (ss ts : List Sought) → TestsRead p s r ss → Written s (ss ++ ts) → Written r ts
  later s r ss ts a h =
      let split = split_right p.texts (forms_sought ss) (forms_sought ts) (length s.made.texts) (subst (AreTexts p.texts (length s.made.texts)) (forms_both ss ts) h) in
      let long : length s.made.texts + length (forms_sought ss) ≡ length r.made.texts = sym (ap length a.texts ∙ length-append s.made.texts (forms_sought ss)) in
      subst (λ b. AreTexts p.texts b (forms_sought ts)) long split

  sooner : (s : Reading) (ss ts : List Sought) → Written s (ss ++ ts) → Written s ss
  sooner s ss ts h = split_left p.texts (forms_sought ss) (forms_sought ts) (length s.made.texts) (subst (AreTexts p.texts (length s.made.texts)) (forms_both ss ts) h)

  rows_read : (s : Reading) (prefix : List ℕ) (rows : List Form) → s.made.prefix ≡ prefix → Written s (flat_map (row_soughts prefix) rows) → TestsRead p s (over case_row s rows) (flat_map (row_soughts prefix) rows)
  rows_read s prefix [] same h = none_read s
  rows_read s prefix (row ∷ rows) same h =
      let cons = flat_map-cons (row_soughts prefix) row rows in
      let all = subst (Written s) cons h in
      let first = subst (λ q. TestsRead p s (case_row s row) (row_soughts q row)) same (row_read s row (subst (λ q. Written s (row_soughts q row)) (sym same) (sooner s (row_soughts prefix row) (flat_map (row_soughts prefix) rows) all))) in
      let rest = rows_read (case_row s row) prefix rows (first.prefix ∙ same) (later s (case_row s row) (row_soughts prefix row) (flat_map (row_soughts prefix) rows) first all) in
      subst (TestsRead p s (over case_row (case_row s row) rows)) (sym cons) (both_read s (case_row s row) (over case_row (case_row s row) rows) (row_soughts prefix row) (flat_map (row_soughts prefix) rows) first rest)

  reduce_read : (s : Reading) (line : Form) → Written s (reduce_soughts s.made.prefix line) → TestsRead p s (reduce_cases line s) (reduce_soughts s.made.prefix line)
  reduce_read s line h =
      let prefix = s.made.prefix in
      let one = first_sought prefix line ∷ [] in
      let more = flat_map (row_soughts prefix) (parts_of line) in
      let first = first_read s line (sooner s one more h) in
      both_read s (first_case line s) (reduce_cases line s) one more first (rows_read (first_case line s) prefix (parts_of line) first.prefix (later s (first_case line s) one more first h))

  -- ---- arms
  -- an arm was read that looks for these
  pub record ArmRead (a b : Arming) (ss : List Sought) : Type 0 where
    pub new : List Case
    pub body : Tree
    pub cases : b.arms.cases ≡ a.arms.cases ++ new
    pub each : LookForEach p (length a.arms.bodies) ss new
    pub bodies : b.arms.bodies ≡ a.arms.bodies ++ body ∷ []
    pub texts : b.made.texts ≡ a.made.texts ++ forms_sought ss
    pub prefix : b.made.prefix ≡ a.made.prefix

  shift_read : (shared : Shared) (line : Form) (a : Arming) → Written (reading_of a.arms a.made) (Some (form_of a.made.prefix (hole_of 0 line)) ∷ []) → ArmRead a (shift_arm shared line a) (Some (form_of a.made.prefix (hole_of 0 line)) ∷ [])
  shift_read shared line a h =
      let r = token_read (hole_of 0 line) (reading_of a.arms a.made) h in
      record { new = r.new; body = one_after_another (shift_lines a.made shared a.names line).parts; cases = r.cases; each = r.each; bodies = refl; texts = refl; prefix = refl }

  reduction_read : (shared : Shared) (line : Form) (a : Arming) → Written (reading_of a.arms a.made) (reduce_soughts a.made.prefix line) → ArmRead a (reduce_arm shared line a) (reduce_soughts a.made.prefix line)
  reduction_read shared line a h =
      let s = reduce_cases line (reading_of a.arms a.made) in
      let r = reduce_read (reading_of a.arms a.made) line h in
      let keeps = found_keeps shared s.made a.names (lines_below line) in
      record {
        new = r.new;
        body = (found_reduce shared s.made a.names (lines_below line)).value;
        cases = r.cases;
        each = r.each;
        bodies = ap (λ (l : List Tree). l ++ (found_reduce shared s.made a.names (lines_below line)).value ∷ []) r.bodies;
        texts = keeps.texts ∙ r.texts;
        prefix = keeps.prefix ∙ r.prefix;
      }

  pub arm_read : (shared : Shared) (line : Form) (a : Arming) → IsArmLine line → Written (reading_of a.arms a.made) (line_soughts a.made.prefix line) → ArmRead a (arm_of shared line a) (line_soughts a.made.prefix line)
  arm_read shared line a h = by (is_shift line) (is_reduce line) h.1
    where
      by : (b c : Bool) → (b || c) ≡ true → Written (reading_of a.arms a.made) (if b then Some (form_of a.made.prefix (hole_of 0 line)) ∷ [] else reduce_soughts a.made.prefix line)
          → ArmRead a (if b then shift_arm shared line a else (if c then reduce_arm shared line a else done_arm a.arms (expected_error a.made a.names line))) (if b then Some (form_of a.made.prefix (hole_of 0 line)) ∷ [] else reduce_soughts a.made.prefix line)
      by true c is h = shift_read shared line a h
      by false true is h = reduction_read shared line a h
      by false false is h = absurd cc

  -- the cases are those of these arms, each of which has one body
  pub record Gathers (a : Arming) (gs : List (List Sought)) : Type 0 where
    pub cases : AreCasesOf p 0 gs a.arms.cases
    pub counted : length a.arms.bodies ≡ length gs

  arm_gathers : (a b : Arming) (gs : List (List Sought)) (ss : List Sought) → Gathers a gs → ArmRead a b ss → Gathers b (gs ++ ss ∷ [])
  arm_gathers a b gs ss h r =
      let many : length a.arms.bodies ≡ 0 + length gs = omega (arith, h.counted) in
      let each = subst (λ k. LookForEach p k ss r.new) many r.each in
      record {
        cases = subst (AreCasesOf p 0 (gs ++ ss ∷ [])) (sym r.cases) (arm_more p 0 gs ss a.arms.cases r.new h.cases each);
        counted = ap length r.bodies ∙ length-append a.arms.bodies (r.body ∷ []) ∙ ap (λ n. n + 1) h.counted ∙ sym (length-append gs (ss ∷ []));
      }

  -- the arms of lines, where the forms that they look for are texts of the program
  pub lines_gather : (shared : Shared) (prefix : List ℕ) (lines : List Form) (a : Arming) (gs : List (List Sought)) → a.made.prefix ≡ prefix → AllByRecursion IsArmLine lines → Gathers a gs
      → AreTexts p.texts (length a.made.texts) (forms_sought (flat_map (line_soughts prefix) lines)) → Gathers (over (next_arming shared) a lines) (gs ++ map (line_soughts prefix) lines)
  lines_gather shared prefix [] a gs same arms h texts = subst (Gathers a) (sym (append-nil gs)) h
  lines_gather shared prefix (line ∷ lines) a gs same arms h texts =
      let ss = line_soughts prefix line in
      let more = flat_map (line_soughts prefix) lines in
      let s = reading_of a.arms a.made in
      let b = arm_of shared line a in
      let all : Written s (ss ++ more) = subst (Written s) (flat_map-cons (line_soughts prefix) line lines) texts in
      let read = subst (λ q. ArmRead a b (line_soughts q line)) same (arm_read shared line a arms.0 (subst (λ q. Written s (line_soughts q line)) (sym same) (sooner s ss more all))) in
      let split = split_right p.texts (forms_sought ss) (forms_sought more) (length s.made.texts) (subst (AreTexts p.texts (length s.made.texts)) (forms_both ss more) all) in
      let long : length s.made.texts + length (forms_sought ss) ≡ length b.made.texts = sym (ap length read.texts ∙ length-append s.made.texts (forms_sought ss)) in
      let rest = lines_gather shared prefix lines b (gs ++ ss ∷ []) (read.prefix ∙ same) arms.1 (arm_gathers a b gs ss h read) (subst (λ k. AreTexts p.texts k (forms_sought more)) long split) in
      subst (Gathers (over (next_arming shared) b lines)) (append_assoc gs (ss ∷ []) (map (line_soughts prefix) lines)) rest

  -- no arms so far
  pub none_gather : (a : Arming) → a.arms.cases ≡ [] → a.arms.bodies ≡ [] → Gathers a []
  none_gather a cases bodies = record { cases = cases; counted = ap length bodies }
