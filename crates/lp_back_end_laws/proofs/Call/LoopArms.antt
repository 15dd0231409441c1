-- The arms of a loop over gotos: the tests for their variants, and for each its body, with the names and what was made before it.
use Rattle.std.proofs.Common.{◌≡◌, ℕ, zero, suc, ◌+◌, ◌≤◌, false, List, [], ◌∷◌, ◌++◌, length, codes, Option, Some, None, slice_get, refl, sym, ap, ◌∙◌, subst, arith, append_assoc, append-nil, length-append}
use Rattle.std.specs.Option.{unwrap_or}
use Rattle.std.specs.Str.{bytes_eq}
use Rattle.lp_repr.specs.declared.repr.Grammar.{Grammar}
use Rattle.lp_core.specs.Tree.{Tree}
use Rattle.lp_view.specs.PartLists.{over}
use Rattle.lp_maker.specs.Slots.{Names, slot_of, slot_among, named}
use Rattle.lp_maker.specs.Constructs.{one_after_another}
use Rattle.lp_maker.specs.Making.{Making, number_in, with_variant, first_numbered}
use Rattle.lp_ascent_bodies.specs.declared.ascent.Lines.{Lines as Shared}
use Rattle.lp_ascent_bodies.specs.AscentArms.{arming_of}
use Rattle.lp_ascent_bodies.specs.AscentGotos.{Going, arm_lines, going_row}
use Rattle.lp_question_laws.proofs.Gotos.LinkGrows.{Extends, same, both, one_variant}
use Rattle.lp_question_laws.proofs.Gotos.LinkMaps.{numbered_here, numbered_kept}
use Rattle.lp_code_laws.proofs.Slots.Names.{named_other}
use Rattle.lp_code_laws.proofs.Slots.Slots.{get_behind}
use Rattle.lp_ascent.specs.GotoLines.{goto_arm}
use Rattle.lp_ascent.specs.Slots.{Layout}
use Rattle.lp_back_end_laws.proofs.Call.ArmBodies.{goto_armed}
use Rattle.lp_back_end_laws.proofs.Call.GotoArms.{variant_tests}
use Rattle.lp_back_end_laws.proofs.Call.LoopRows.{goto_forms}

-- ---- variants
-- the number that a variant gets
abbrev pub number_for : List ℕ → Making → ℕ
number_for name m = unwrap_or (number_in name m.variants) (length m.variants)

-- it has it from then on
numbered_now : (name : List ℕ) (m : Making) → number_in name (with_variant name m).variants ≡ Some (number_for name m)
numbered_now name m = by (number_in name m.variants) refl
  where
    by : (o : Option ℕ) → number_in name m.variants ≡ o → number_in name (first_numbered name (length m.variants) m.variants) ≡ Some (number_for name m)
    by None is = numbered_here name (length m.variants) m.variants is ∙ ap (λ o. Some (unwrap_or o (length m.variants))) (sym is)
    by (Some k) is = numbered_kept name name (length m.variants) k m.variants is ∙ ap (λ o. Some (unwrap_or o (length m.variants))) (sym is)

-- the numbers of the gotos' variants, one after another
abbrev pub numbers : Making → List (List ℕ × ℕ) → List ℕ
numbers m [] = []
numbers m (x ∷ gotos) = number_for x.0 m ∷ numbers (with_variant x.0 m) gotos

-- ---- arms
module _ (g : Grammar) (ls : List Layout) (l : Layout) (shared : Shared) (token made : ℕ) where
  abbrev pub after_arm : Going → List ℕ × ℕ → Going
  after_arm s x = going_row shared token made s (goto_arm g ls l x)

  abbrev pub after_arms : Going → List (List ℕ × ℕ) → Going
  after_arms s gotos = over (going_row shared token made) s (goto_forms g ls l gotos)

  -- in an arm the lookahead has a name
  abbrev pub arm_names : Going → Names
  arm_names s = named (codes "~lookahead") token s.names

  abbrev pub body_lines : Going → List ℕ × ℕ → Tree
  body_lines s x = one_after_another (arm_lines s.made shared made (arm_names s) (goto_arm g ls l x)).parts

  abbrev bodies : Going → List (List ℕ × ℕ) → List Tree
  bodies s [] = []
  bodies s (x ∷ gotos) = body_lines s x ∷ bodies (after_arm s x) gotos

  -- the tests are for the variants, in order
  pub arms_tests : (s : Going) (gotos : List (List ℕ × ℕ)) → (after_arms s gotos).arms.cases ≡ s.arms.cases ++ variant_tests (length s.arms.bodies) (numbers s.made gotos)
  arms_tests s [] = sym (append-nil s.arms.cases)
  arms_tests s (x ∷ gotos) =
      let one = after_arm s x in
      let longer : length one.arms.bodies ≡ length s.arms.bodies + 1 = length-append s.arms.bodies (body_lines s x ∷ []) in
      arms_tests one gotos
      ∙ ap (λ (k : ℕ). one.arms.cases ++ variant_tests k (numbers one.made gotos)) longer
      ∙ append_assoc s.arms.cases (variant_tests (length s.arms.bodies) (number_for x.0 s.made ∷ [])) (variant_tests (length s.arms.bodies + 1) (numbers one.made gotos))

  arms_bodies : (s : Going) (gotos : List (List ℕ × ℕ)) → (after_arms s gotos).arms.bodies ≡ s.arms.bodies ++ bodies s gotos
  arms_bodies s [] = sym (append-nil s.arms.bodies)
  arms_bodies s (x ∷ gotos) = arms_bodies (after_arm s x) gotos ∙ append_assoc s.arms.bodies (body_lines s x ∷ []) (bodies (after_arm s x) gotos)

  -- the checks and what is done with other symbols stay
  pub arms_keep : (s : Going) (gotos : List (List ℕ × ℕ)) → ((after_arms s gotos).checks ≡ s.checks) × ((after_arms s gotos).other ≡ s.other)
  arms_keep s [] = (refl, refl)
  arms_keep s (x ∷ gotos) = arms_keep (after_arm s x) gotos

  -- names other than the lookahead's have the slots that they had, and more slots were given out
  pub record Later (s t : Going) : Type 0 where
    pub others : (key : List ℕ) → bytes_eq (codes "~lookahead") key ≡ false → slot_of key t.names ≡ slot_of key s.names
    pub next : s.names.next ≤ t.names.next
    pub grown : Extends s.made t.made

  later_same : (s : Going) → Later s s
  later_same s = record { others = λ key other. refl; next = omega arith; grown = same s.made }

  later_both : (s t u : Going) → Later s t → Later t u → Later s u
  later_both s t u a b = record { others = λ key other. b.others key other ∙ a.others key other; next = omega (arith, a.next, b.next); grown = both s.made t.made u.made a.grown b.grown }

  later_one : (s : Going) (x : List ℕ × ℕ) → Later s (after_arm s x)
  later_one s x =
      let cut = (goto_armed shared made (goto_arm g ls l x) (arming_of (arm_names s) s.arms s.made)).cut in
      record {
        others = λ key other. ap (slot_among key None) cut.known ∙ named_other key (codes "~lookahead") token s.names other;
        next = cut.next;
        grown = one_variant x.0 s.made;
      }

  pub later_all : (s : Going) (gotos : List (List ℕ × ℕ)) → Later s (after_arms s gotos)
  later_all s [] = later_same s
  later_all s (x ∷ gotos) = later_both s (after_arm s x) (after_arms s (x ∷ gotos)) (later_one s x) (later_all (after_arm s x) gotos)

  -- the arm of a goto stands at the goto's place
  pub record ArmHere (s : Going) (gotos : List (List ℕ × ℕ)) (i : ℕ) (x : List ℕ × ℕ) : Type 0 where
    pub before : Going
    pub later : Later s before
    pub body : slice_get (after_arms s gotos).arms.bodies (length s.arms.bodies + i) ≡ Some (body_lines before x)
    pub room : (arm_lines before.made shared made (arm_names before) (goto_arm g ls l x)).names.next ≤ (after_arms s gotos).names.next
    pub number : ℕ
    pub tested : slice_get (numbers s.made gotos) i ≡ Some number
    pub numbered : number_in x.0 (after_arms s gotos).made.variants ≡ Some number

  pub arm_here : (s : Going) (gotos : List (List ℕ × ℕ)) (i : ℕ) (x : List ℕ × ℕ) → slice_get gotos i ≡ Some x → ArmHere s gotos i x
  arm_here s [] i x at = absurd cc
  arm_here s (y ∷ gotos) zero x at =
      let is : y ≡ x = cc in
      let rest = later_all (after_arm s y) gotos in
      let none : length s.arms.bodies + 0 ≡ length s.arms.bodies = omega arith in
      subst (ArmHere s (y ∷ gotos) 0) is (record {
        before = s;
        later = later_same s;
        body = ap (slice_get (after_arms s (y ∷ gotos)).arms.bodies) none ∙ ap (λ (bs : List Tree). slice_get bs (length s.arms.bodies)) (arms_bodies s (y ∷ gotos)) ∙ get_behind s.arms.bodies (body_lines s y) (bodies (after_arm s y) gotos);
        room = rest.next;
        number = number_for y.0 s.made;
        tested = refl;
        numbered = rest.grown.variants y.0 (number_for y.0 s.made) (numbered_now y.0 s.made);
      })
  arm_here s (y ∷ gotos) (suc i) x at =
      let one = after_arm s y in
      let r = arm_here one gotos i x at in
      let longer : length one.arms.bodies ≡ length s.arms.bodies + 1 = length-append s.arms.bodies (body_lines s y ∷ []) in
      let place : length s.arms.bodies + suc i ≡ length one.arms.bodies + i = omega (arith, longer) in
      record {
        before = r.before;
        later = later_both s one r.before (later_one s y) r.later;
        body = ap (slice_get (after_arms one gotos).arms.bodies) place ∙ r.body;
        room = r.room;
        number = r.number;
        tested = r.tested;
        numbered = r.numbered;
      }
