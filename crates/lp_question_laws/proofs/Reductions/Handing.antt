-- The method that the driver asks hands its arguments on to the function that reduces.
use Rattle.std.proofs.Common.{◌≡◌, ℕ, suc, ◌+◌, ℤ, List, [], ◌∷◌, ◌++◌, length, Option, Some, refl, sym, ap, subst, ◌∙◌, arith, codes, append_assoc, append-nil, length-append}
use Rattle.std.specs.Prelude.{slice_get, slice_set}
use Rattle.lp_driver.specs.Values.{Spanned}
use Rattle.lp_core.specs.declared.expr.Function.{Function}
use Rattle.lp_core.specs.declared.expr.Target.TheVariants as target
use Rattle.lp_core.specs.Datum.{Unset}
use Rattle.lp_core.specs.Effect.{set_value}
use Rattle.lp_core.specs.Store.{Program, UserCall}
use Rattle.lp_core.specs.Tree.{Tree, trees_of}
use Rattle.lp_core.specs.Val.{Val, Plain}
use Rattle.lp_view.specs.PartLists.{Form}
use Rattle.lp_maker.specs.Slots.{Names}
use Rattle.lp_maker.specs.Constructs.{called, take_slot}
use Rattle.lp_maker.specs.Making.{Making, number_in}
use Rattle.lp_bodies.specs.Source.{function}
use Rattle.lp_bodies.specs.MachineMethods.{after_eof, after_goto, after_symbol, after_expected, after_recovery, with_methods, methods_of, reduce_arguments}
use Rattle.lp_code_laws.specs.Ends.Ends.{Moment, Enter, Arguments, Outcome, Giving, EndsIn}
use Rattle.lp_code_laws.proofs.Ends.Calls.{enter, arguments_done}
use Rattle.lp_code_laws.proofs.Ends.Lists.{get_other}
use Rattle.lp_code_laws.proofs.Ends.Rules.{argument, call}
use Rattle.lp_code_laws.proofs.Ends.Values.{take}
use Rattle.lp_code_laws.proofs.Printed.Lines.{read_shown}
use Rattle.lp_question_laws.proofs.Gotos.LinkGrows.{Extends, both, one_function}
use Rattle.lp_question_laws.proofs.Gotos.LinkMaps.{get_end, get_more}
use Rattle.lp_question_laws.proofs.Gotos.LinkModule.{earlier_extends, recovery_extends}
use Rattle.lp_question_laws.specs.Reductions.Stacks.{over_two}
use Rattle.lp_question_laws.specs.Reductions.Arguments.{ShowAll, reads}
use Rattle.lp_question_laws.proofs.Reductions.Parameters.{Stand, stand_behind}

-- ---- the method in the module

module _ (form : Form) (fields : Names) (count : ℕ) (m : Making) where
  recovery_knows : Extends m (after_recovery form m)
  recovery_knows =
      let m1 = after_eof form m in
      let m2 = after_goto form m in
      let m3 = after_symbol form m in
      let m4 = after_expected form m in
      let before = after_recovery form m in
      both m m1 before (earlier_extends form m) (both m1 m2 before (one_function _ m1) (both m2 m3 before (one_function _ m2) (both m3 m4 before (one_function _ m3) (recovery_extends form m4))))

  pub reduce_method : (k : ℕ) → number_in (codes "reduce") m.names ≡ Some k → slice_get (with_methods form fields count m).functions (methods_of form fields count m).reduce ≡ Some (Some (function (count + 4) 0 (called (reduce_arguments fields count form) (Some k))))
  reduce_method k h =
      let before = after_recovery form m in
      let f : Option ℕ → Option Function = λ o. Some (function (count + 4) 0 (called (reduce_arguments fields count form) o)) in
      let o = number_in (codes "reduce") before.names in
      get_more (before.functions ++ f o ∷ []) _ (length before.functions) (f o) (get_end before.functions [] (f o))
      ∙ ap (λ o. Some (f o)) (ap (number_in (codes "reduce")) recovery_knows.names ∙ h)

-- ---- its call

module _ (p : Program) (fr : ℕ) (names : Names) where
  -- names that are read in front of other arguments
  arguments_then : {m : Moment} {k : ℕ} {o : Outcome} (qs : List (List ℕ)) (vs before : List Val) (rest : List Tree) → ShowAll names m.store.env qs vs → EndsIn p (Arguments (target.Function fr) (trees_of rest) (before ++ vs)) m k o → EndsIn p (Arguments (target.Function fr) (trees_of (reads names qs ++ rest)) before) m k o
  arguments_then {m} {k} {o} [] [] before rest h ends = subst (λ (vs : List Val). EndsIn p (Arguments (target.Function fr) (trees_of rest) vs) m k o) (append-nil before) ends
  arguments_then [] (v ∷ vs) before rest h ends = absurd h
  arguments_then (q ∷ qs) [] before rest h ends = absurd h
  arguments_then {m} {k} {o} (q ∷ qs) (v ∷ vs) before rest h ends =
      argument (read_shown h.0 h.1) (arguments_then qs vs (before ++ v ∷ []) rest h.2 (subst (λ (us : List Val). EndsIn p (Arguments (target.Function fr) (trees_of rest) us) m k o) (sym (append_assoc before (v ∷ []) vs)) ends))

-- a slot without its value
abbrev taken_from : List Val → ℕ → List Val
taken_from env x = slice_set env x (Plain Unset)

other_there : (env : List Val) (x y : ℕ) (v : Val) → (x ≡ y → ⊥) → slice_get env y ≡ Some v → slice_get (taken_from env x) y ≡ Some v
other_there env x y v apart is = get_other env x y (Plain Unset) apart ∙ is

module _ (p : Program) (f fr : ℕ) (fields : Names) (keys : List (List ℕ)) (vs : List Val) (a b c d : Val) (set_a : set_value a ≡ Some a) (set_b : set_value b ≡ Some b) (set_c : set_value c ≡ Some c) (set_d : set_value d ≡ Some d)
    (there : slice_get p.functions f ≡ Some (function (length vs + 4) 0 (called (reads fields keys ++ take_slot (length vs) ∷ take_slot (length vs + 1) ∷ take_slot (length vs + 2) ∷ take_slot (length vs + 3) ∷ []) (Some fr)))) where
  abbrev pub args : List Val
  args = vs ++ a ∷ b ∷ c ∷ d ∷ []

  abbrev pub env : List Val
  env = args ++ []

  -- its slots when it calls
  abbrev pub emptied : List Val
  emptied = taken_from (taken_from (taken_from (taken_from env (length vs)) (length vs + 1)) (length vs + 2)) (length vs + 3)

  -- it ends as the function does that it calls
  pub handed : (taken : ℕ) (calls later : List UserCall) (ss next : List ℤ) (l after : List (Spanned Val)) (outer : List Val) (k : ℕ) (v : Val) → ShowAll fields env keys vs → EndsIn p (Enter fr args) (over_two emptied taken calls ss l) k (Giving v (over_two emptied taken later next after))
      → EndsIn p (Enter f args) (over_two outer taken calls ss l) (suc k) (Giving v (over_two outer taken later next after))
  handed taken calls later ss next l after outer k v shown h =
      let n = length vs in
      let stand = subst (λ (e : List Val). Stand n (a ∷ b ∷ c ∷ d ∷ []) e) (sym (append_assoc vs (a ∷ b ∷ c ∷ d ∷ []) [])) (stand_behind vs (a ∷ b ∷ c ∷ d ∷ []) [] n refl) in
      let two : (n + 1) + 1 ≡ n + 2 = omega arith in
      let three : ((n + 1) + 1) + 1 ≡ n + 3 = omega arith in
      let at_b : slice_get env (n + 1) ≡ Some b = stand.1.0 in
      let at_c : slice_get env (n + 2) ≡ Some c = ap (slice_get env) (sym two) ∙ stand.1.1.0 in
      let at_d : slice_get env (n + 3) ≡ Some d = ap (slice_get env) (sym three) ∙ stand.1.1.1.0 in
      let e1 = taken_from env n in
      let e2 = taken_from e1 (n + 1) in
      let e3 = taken_from e2 (n + 2) in
      let e4 = taken_from e3 (n + 3) in
      let b1 : slice_get e1 (n + 1) ≡ Some b = other_there env n (n + 1) b (λ e. omega (arith, e)) at_b in
      let c2 : slice_get e2 (n + 2) ≡ Some c = other_there e1 (n + 1) (n + 2) c (λ e. omega (arith, e)) (other_there env n (n + 2) c (λ e. omega (arith, e)) at_c) in
      let d3 : slice_get e3 (n + 3) ≡ Some d = other_there e2 (n + 2) (n + 3) d (λ e. omega (arith, e)) (other_there e1 (n + 1) (n + 3) d (λ e. omega (arith, e)) (other_there env n (n + 3) d (λ e. omega (arith, e)) at_d)) in
      let joined : (((vs ++ a ∷ []) ++ b ∷ []) ++ c ∷ []) ++ d ∷ [] ≡ args = append_assoc ((vs ++ a ∷ []) ++ b ∷ []) (c ∷ []) (d ∷ []) ∙ append_assoc (vs ++ a ∷ []) (b ∷ []) (c ∷ d ∷ []) ∙ append_assoc vs (a ∷ []) (b ∷ c ∷ d ∷ []) in
      let last : EndsIn p (Enter fr ((((vs ++ a ∷ []) ++ b ∷ []) ++ c ∷ []) ++ d ∷ [])) (over_two e4 taken calls ss l) k (Giving v (over_two e4 taken later next after)) = subst (λ (us : List Val). EndsIn p (Enter fr us) (over_two e4 taken calls ss l) k (Giving v (over_two e4 taken later next after))) (sym joined) h in
      let many : n + 4 ≡ length args = sym (length-append vs (a ∷ b ∷ c ∷ d ∷ [])) in
      enter there many
      (call (arguments_then p fr fields {m = over_two env taken calls ss l} keys vs [] (take_slot n ∷ take_slot (n + 1) ∷ take_slot (n + 2) ∷ take_slot (n + 3) ∷ []) shown
      (argument (take stand.0 set_a) (argument (take b1 set_b) (argument (take c2 set_c) (argument (take d3 set_d) (arguments_done last))))))) refl
