-- The forms of a grammar's reductions: bodies, arms, and functions of single productions.
use Rattle.std.proofs.Common.{◌≡◌, ℕ, zero, suc, ◌+◌, ◌-◌, Bool, true, false, if◌then◌else◌, List, [], ◌∷◌, ◌++◌, length, map, Option, Some, None, refl, sym, ap, subst, ◌∙◌, arith, decimal, append_assoc, append-nil}
use Rattle.std.specs.Prelude.{slice_get, nat_lt, unwrap_or}
use Rattle.std.proofs.lemmas.Bool.{ne_eqb}
use Rattle.std.proofs.lemmas.List.{length-map}
use Rattle.lp_repr.specs.Numbering.{productions_of}
use Rattle.lp_repr.specs.declared.lr1.Lr1State.{Lr1State}
use Rattle.lp_repr.specs.declared.repr.Grammar.{Grammar}
use Rattle.lp_repr.specs.declared.repr.Production.{Production}
use Rattle.lp_form.specs.declared.part.Part.TheVariants as part
use Rattle.lp_tree.specs.ProgramTree.{Item, leaf}
use Rattle.lp_build.specs.Built as built
use Rattle.lp_build.specs.Reductions.{assert_lines, pop_lines, span_of, call_of, outcome_of}
use Rattle.lp_build.specs.declared.reductions.Produced.{Produced}
use Rattle.lp_parts.specs.Texts.{arguments_of, generic_names_text}
use Rattle.lp_parts.specs.Variants.{nonterminal_variants}
use Rattle.lp_table.specs.Headers.{header_lines}
use Rattle.lp_table.specs.MachineLines.{phantom_text}
use Rattle.lp_table.specs.Pieces.{variant_text}
use Rattle.lp_table.specs.Starts.{Start, is_fallible, is_start}
use Rattle.lp_table.specs.ReductionLines.{symbol_variants, action_arguments, left_number, produced_of, reduction_body, is_called, reduction_arm, arms_from, reduce_header, reduce_function, own_header, own_function}
use Rattle.lp_view.specs.PartLists.{Form, parts_of}
use Rattle.lp_bodies.specs.Reductions.{is_arm}
use Rattle.lp_question_laws.proofs.Gotos.Whole.{IsWhole, AreWhole, flat, parts_over, flat-append, whole-append}
use Rattle.lp_question_laws.proofs.Gotos.LinkGrows.{either}
use Rattle.lp_question_laws.specs.Reductions.Stacks.{Symbol}
use Rattle.lp_question_laws.proofs.Reductions.Popping.{pop_forms}
use Rattle.lp_question_laws.proofs.Reductions.Calling.{call_form}
use Rattle.lp_question_laws.proofs.Reductions.Pushing.{outcome_form}
use Rattle.lp_question_laws.proofs.Reductions.Bodies.{Line, last_forms}
use Rattle.lp_question_laws.proofs.Reductions.Wholes.{assert_forms, span_forms, body_forms}
use Rattle.lp_question_laws.proofs.Reductions.Armed.{IsArmOf, AreArms}

-- ---- a body

-- these items are these forms
record Are (items : List Item) (forms : List Form) : Type 0 where
  flattened : items ≡ flat forms
  whole : AreWhole forms

are_both : (xs ys : List Item) (fs gs : List Form) → Are xs fs → Are ys gs → Are (xs ++ ys) (fs ++ gs)
are_both xs ys fs gs a b = record { flattened = ap (λ t. t ++ ys) a.flattened ∙ ap (λ t. flat fs ++ t) b.flattened ∙ sym (flat-append fs gs); whole = whole-append fs gs a.whole b.whole }

assert_are : (n : ℕ) (b : Bool) → Are (if b then leaf part.AssertLine (decimal n ∷ []) else []) (assert_forms b n)
assert_are n true = record { flattened = refl; whole = (refl, tt) }
assert_are n false = record { flattened = refl; whole = tt }

pops_are : (k : ℕ) (xs : List Symbol) → Are (pop_lines k (map (λ x. x.variant) xs)) (pop_forms k xs)
pops_are k [] = record { flattened = refl; whole = tt }
pops_are k (x ∷ xs) = are_both (pop_lines (k + 1) (map (λ x. x.variant) xs)) _ (pop_forms (k + 1) xs) _ (pops_are (k + 1) xs) (record { flattened = refl; whole = (refl, tt) })

span_are : (n : ℕ) → Are (span_of n) (span_forms n)
span_are zero = record { flattened = refl; whole = (refl, tt) }
span_are (suc n) =
    let less : suc n - 1 ≡ n = omega arith in
    record {
      flattened = ap (λ (b : Bool). if b then leaf part.SpanEmpty [] else leaf part.SpanPopped (decimal 0 ∷ decimal (suc n - 1) ∷ [])) (ne_eqb (suc n) 0 (λ e. omega arith)) ∙ ap (λ m. leaf part.SpanPopped (decimal 0 ∷ decimal m ∷ [])) less;
      whole = (refl, tt);
    }

-- a form that is one part
one_is : (f : Form) → IsWhole f → Are f (f ∷ [])
one_is f w = record { flattened = sym (append-nil f); whole = (w, tt) }

outcome_whole : (starts : Bool) (name : List ℕ) (n nonterminal : ℕ) → IsWhole (outcome_form starts name n nonterminal)
outcome_whole true name n nonterminal = refl
outcome_whole false name n nonterminal = refl

abbrev produced_by : Bool → List ℕ → ℕ → Option Produced
produced_by starts name nonterminal = if starts then None else Some (record { variant = name; nonterminal = nonterminal })

outcome_is : (starts : Bool) (name : List ℕ) (n nonterminal : ℕ) → outcome_of n (produced_by starts name nonterminal) ≡ outcome_form starts name n nonterminal
outcome_is true name n nonterminal = refl
outcome_is false name n nonterminal = refl

body_are : (xs : List Symbol) (r : Line) → r.count ≡ length xs
    → Are ((((assert_lines (length xs) ++ pop_lines 0 (map (λ x. x.variant) xs)) ++ span_of (length xs)) ++ call_of r.fallible r.action r.generics r.args) ++ outcome_of (length xs) (produced_by r.starts r.name r.nonterminal)) (body_forms xs r)
body_are xs r same =
    let n = length xs in
    let a = assert_lines n in
    let p = pop_lines 0 (map (λ x. x.variant) xs) in
    let s = span_of n in
    let c = call_of r.fallible r.action r.generics r.args in
    let o = outcome_of n (produced_by r.starts r.name r.nonterminal) in
    let out : o ≡ outcome_form r.starts r.name r.count r.nonterminal = outcome_is r.starts r.name n r.nonterminal ∙ ap (λ m. outcome_form r.starts r.name m r.nonterminal) (sym same) in
    let out_are : Are o (outcome_form r.starts r.name r.count r.nonterminal ∷ []) = subst (λ t. Are t (outcome_form r.starts r.name r.count r.nonterminal ∷ [])) (sym out) (one_is (outcome_form r.starts r.name r.count r.nonterminal) (outcome_whole r.starts r.name r.count r.nonterminal)) in
    let last = are_both c o (call_form r.fallible r.action r.generics r.args ∷ []) (outcome_form r.starts r.name r.count r.nonterminal ∷ []) (one_is (call_form r.fallible r.action r.generics r.args) refl) out_are in
    let all = are_both a (p ++ (s ++ (c ++ o))) (assert_forms (nat_lt 1 n) n) (pop_forms 0 xs ++ (span_forms n ++ last_forms r)) (assert_are n (nat_lt 1 n)) (are_both p (s ++ (c ++ o)) (pop_forms 0 xs) (span_forms n ++ last_forms r) (pops_are 0 xs) (are_both s (c ++ o) (span_forms n) (last_forms r) (span_are n) last)) in
    let turned : (((a ++ p) ++ s) ++ c) ++ o ≡ a ++ (p ++ (s ++ (c ++ o))) =
    append_assoc ((a ++ p) ++ s) c o ∙ append_assoc (a ++ p) s (c ++ o) ∙ append_assoc a p (s ++ (c ++ o)) in
    record { flattened = turned ∙ all.flattened; whole = all.whole }

-- what a production calls and pushes
abbrev pub line_of : Grammar → Start → Production → ℕ → Line
line_of g s p n = record {
  fallible = is_fallible g p;
  starts = is_start s p;
  action = p.action;
  generics = generic_names_text g;
  args = action_arguments g (length p.symbols);
  name = variant_text (unwrap_or (slice_get (nonterminal_variants g) (left_number g p)) 0);
  count = n;
  nonterminal = left_number g p;
}

pub body_parts : (g : Grammar) (s : Start) (p : Production) (xs : List Symbol) → map (λ x. x.variant) xs ≡ symbol_variants g p → parts_of (reduction_body g s p) ≡ body_forms xs (line_of g s p (length xs))
unfolding reduction_body
body_parts g s p xs same =
    let a = body_are xs (line_of g s p (length xs)) refl in
    let n : length (symbol_variants g p) ≡ length xs = ap length (sym same) ∙ length-map xs (λ x. x.variant) in
    let made : List (List ℕ) → ℕ → Form = λ vs m. built.over part.ReduceBody [] ((((assert_lines m ++ pop_lines 0 vs) ++ span_of m) ++ call_of (is_fallible g p) p.action (generic_names_text g) (action_arguments g (length p.symbols))) ++ outcome_of m (produced_of g s p)) in
    ap (λ m. parts_of (made (symbol_variants g p) m)) n
    ∙ ap (λ vs. parts_of (made vs (length xs))) (sym same)
    ∙ ap (λ below. parts_of (built.over part.ReduceBody [] below)) a.flattened
    ∙ parts_over part.ReduceBody [] (body_forms xs (line_of g s p (length xs))) a.whole

-- ---- arms

abbrev pub arm_forms : Grammar → Start → ℕ → List Production → List Form
arm_forms g s n [] = []
arm_forms g s n (p ∷ ps) = reduction_arm g s n p ∷ arm_forms g s (n + 1) ps

arm_whole : (g : Grammar) (s : Start) (n : ℕ) (p : Production) → IsWhole (reduction_arm g s n p)
unfolding reduction_arm reduction_body
arm_whole g s n p = either IsWhole (is_called g s p) _ _ refl refl

arms_are : (g : Grammar) (s : Start) (n : ℕ) (ps : List Production) → Are (arms_from g s n ps) (arm_forms g s n ps)
arms_are g s n [] = record { flattened = refl; whole = tt }
arms_are g s n (p ∷ ps) = let r = arms_are g s (n + 1) ps in record { flattened = ap (λ t. reduction_arm g s n p ++ t) r.flattened; whole = (arm_whole g s n p, r.whole) }

header_whole : (g : Grammar) (states : List Lr1State) (s : Start) → IsWhole (reduce_header g states s)
unfolding reduce_header header_lines
header_whole g states s = refl

pub reduce_parts : (g : Grammar) (states : List Lr1State) (s : Start) → parts_of (reduce_function g states s) ≡ reduce_header g states s ∷ arm_forms g s 0 (productions_of g)
unfolding reduce_function
reduce_parts g states s =
    let a = arms_are g s 0 (productions_of g) in
    ap (λ t. parts_of (built.over part.Reduce [] (reduce_header g states s ++ t))) a.flattened ∙ parts_over part.Reduce [] (reduce_header g states s ∷ arm_forms g s 0 (productions_of g)) (header_whole g states s, a.whole)

pub header_no_arm : (g : Grammar) (states : List Lr1State) (s : Start) → is_arm (reduce_header g states s) ≡ false
unfolding reduce_header header_lines
header_no_arm g states s = refl

pub arm_is : (g : Grammar) (s : Start) (n : ℕ) (p : Production) → IsArmOf n (reduction_arm g s n p)
unfolding reduction_arm reduction_body
arm_is g s n p = either (IsArmOf n) (is_called g s p) _ _ (record { is = refl; number = refl }) (record { is = refl; number = refl })

pub arms_numbered : (g : Grammar) (s : Start) (n : ℕ) (ps : List Production) → AreArms n (arm_forms g s n ps)
arms_numbered g s n [] = tt
arms_numbered g s n (p ∷ ps) = (arm_is g s n p, arms_numbered g s (n + 1) ps)

pub arms_length : (g : Grammar) (s : Start) (n : ℕ) (ps : List Production) → length (arm_forms g s n ps) ≡ length ps
arms_length g s n [] = refl
arms_length g s n (p ∷ ps) = ap suc (arms_length g s (n + 1) ps)

-- the arm of a production stands between others
pub record ArmPlace (g : Grammar) (s : Start) (n i : ℕ) (p : Production) (forms : List Form) : Type 0 where
  pub before : List Form
  pub after : List Form
  pub whole : forms ≡ before ++ reduction_arm g s (n + i) p ∷ after
  pub many : length before ≡ i
  pub first : AreArms n before
  pub rest : AreArms (n + suc i) after

pub arm_placed : (g : Grammar) (s : Start) (n i : ℕ) (ps : List Production) (p : Production) → slice_get ps i ≡ Some p → ArmPlace g s n i p (arm_forms g s n ps)
arm_placed g s n i [] p is = absurd cc
arm_placed g s n zero (q ∷ ps) p is =
    let same : q ≡ p = cc in
    let none : n ≡ n + 0 = omega arith in
    let one : n + 1 ≡ n + suc 0 = omega arith in
    record { before = []; after = arm_forms g s (n + 1) ps; whole = ap (λ r. reduction_arm g s n r ∷ arm_forms g s (n + 1) ps) same ∙ ap (λ m. reduction_arm g s m p ∷ arm_forms g s (n + 1) ps) none; many = refl; first = tt; rest = subst (λ m. AreArms m (arm_forms g s (n + 1) ps)) one (arms_numbered g s (n + 1) ps) }
arm_placed g s n (suc i) (q ∷ ps) p is =
    let r = arm_placed g s (n + 1) i ps p is in
    let moved : (n + 1) + i ≡ n + suc i = omega arith in
    let later : (n + 1) + suc i ≡ n + suc (suc i) = omega arith in
    record {
      before = reduction_arm g s n q ∷ r.before;
      after = r.after;
      whole = ap (λ t. reduction_arm g s n q ∷ t) (r.whole ∙ ap (λ m. r.before ++ reduction_arm g s m p ∷ r.after) moved);
      many = ap suc r.many;
      first = (arm_is g s n q, r.first);
      rest = subst (λ m. AreArms m r.after) later r.rest;
    }

-- ---- what an arm is

pub called_arm : (g : Grammar) (s : Start) (n : ℕ) (p : Production) → is_called g s p ≡ true → reduction_arm g s n p ≡ leaf part.ReduceCallArm (decimal n ∷ arguments_of g.parameters ∷ phantom_text g ∷ [])
unfolding reduction_arm
called_arm g s n p is = ap (λ (b : Bool). if b then leaf part.ReduceCallArm (decimal n ∷ arguments_of g.parameters ∷ phantom_text g ∷ []) else built.over part.ReduceBodyArm (decimal n ∷ []) (reduction_body g s p)) is

pub other_arm : (g : Grammar) (s : Start) (n : ℕ) (p : Production) → is_called g s p ≡ false → reduction_arm g s n p ≡ built.over part.ReduceBodyArm (decimal n ∷ []) (reduction_body g s p)
unfolding reduction_arm
other_arm g s n p is = ap (λ (b : Bool). if b then leaf part.ReduceCallArm (decimal n ∷ arguments_of g.parameters ∷ phantom_text g ∷ []) else built.over part.ReduceBodyArm (decimal n ∷ []) (reduction_body g s p)) is

body_whole : (g : Grammar) (s : Start) (p : Production) → IsWhole (reduction_body g s p)
unfolding reduction_body
body_whole g s p = refl

pub arm_body : (g : Grammar) (s : Start) (n : ℕ) (p : Production) → slice_get (parts_of (built.over part.ReduceBodyArm (decimal n ∷ []) (reduction_body g s p))) 0 ≡ Some (reduction_body g s p)
arm_body g s n p =
    ap (λ t. slice_get (parts_of (built.over part.ReduceBodyArm (decimal n ∷ []) t)) 0) (sym (append-nil (reduction_body g s p)))
    ∙ ap (λ fs. slice_get fs 0) (parts_over part.ReduceBodyArm (decimal n ∷ []) (reduction_body g s p ∷ []) (body_whole g s p, tt))

own_whole : (g : Grammar) (n : ℕ) → IsWhole (own_header g n)
unfolding own_header header_lines
own_whole g n = refl

pub own_parts : (g : Grammar) (s : Start) (n : ℕ) (p : Production) → parts_of (own_function g s n p) ≡ own_header g n ∷ reduction_body g s p ∷ []
own_parts g s n p =
    ap (λ t. parts_of (built.over part.ReduceFn [] (own_header g n ++ t))) (sym (append-nil (reduction_body g s p)))
    ∙ parts_over part.ReduceFn [] (own_header g n ∷ reduction_body g s p ∷ []) (own_whole g n, (body_whole g s p, tt))
