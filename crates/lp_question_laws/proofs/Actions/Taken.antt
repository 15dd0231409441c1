-- All parameters of a function taken in order, each for the last time.
use Rattle.std.proofs.Common.{◌≡◌, ℕ, suc, ◌+◌, List, [], ◌∷◌, ◌++◌, length, refl, ap, sym, subst, ◌∙◌, arith, append_assoc, append-nil, length-append}
use Rattle.std.specs.Prelude.{slice_set}
use Rattle.lp_core.specs.declared.expr.Target.{Target}
use Rattle.lp_core.specs.Datum.{Unset}
use Rattle.lp_core.specs.Store.{Program}
use Rattle.lp_core.specs.Tree.{Tree, end, trees_of}
use Rattle.lp_core.specs.Val.{Val, Plain}
use Rattle.lp_maker.specs.Constructs.{take_slot}
use Rattle.lp_bodies.specs.Actions.{takes}
use Rattle.lp_code_laws.specs.Ends.Ends.{Moment, over, Arguments, Outcome, EndsIn}
use Rattle.lp_code_laws.proofs.Ends.Rules.{argument}
use Rattle.lp_code_laws.proofs.Ends.Values.{take}
use Rattle.lp_code_laws.proofs.Slots.Slots.{get_behind}
use Rattle.lp_question_laws.specs.Actions.Params.{AreSet}

-- a moment with these slots
abbrev pub in_slots : List Val → Moment → Moment
in_slots env m = over (record m.store { env = env }) m

-- as many slots from a number on
abbrev slots_from : ℕ → List Val → List Tree
slots_from n [] = []
slots_from n (v ∷ vs) = take_slot n ∷ slots_from (suc n) vs

last_slot : (n : ℕ) (v : Val) (vs : List Val) → slots_from n (v ∷ vs) ≡ slots_from n vs ++ take_slot (n + length vs) ∷ []
last_slot n v [] = ap (λ k. take_slot k ∷ []) (omega arith)
last_slot n v (w ∷ vs) =
    let next : suc n + length vs ≡ n + length (w ∷ vs) = omega arith in
    ap (λ l. take_slot n ∷ l) (last_slot (suc n) w vs) ∙ ap (λ k. take_slot n ∷ slots_from (suc n) vs ++ take_slot k ∷ []) next

pub takes_slots : (vs : List Val) → takes (length vs) ≡ slots_from 0 vs
takes_slots [] = refl
takes_slots (v ∷ vs) = ap (λ l. l ++ take_slot (length vs) ∷ []) (takes_slots vs) ∙ ap (λ k. slots_from 0 vs ++ take_slot k ∷ []) (omega arith) ∙ sym (last_slot 0 v vs)

set_behind : (front : List Val) (v w : Val) (rest : List Val) → slice_set (front ++ v ∷ rest) (length front) w ≡ front ++ w ∷ rest
set_behind [] v w rest = refl
set_behind (x ∷ front) v w rest = ap (λ l. x ∷ l) (set_behind front v w rest)

module _ (p : Program) (g : Target) (k : ℕ) (m : Moment) (o : List Val → Outcome) where
  -- they end so, over some slots
  abbrev pub EndsOver : List Tree → List Val → List Val → Type 0
  EndsOver args read env = (after : List Val) × EndsIn p (Arguments g (trees_of args) read) (in_slots env m) k (o after)

  taken_from : (front read vs rest : List Val) → AreSet vs → ((env : List Val) → EndsIn p (Arguments g end (read ++ vs)) (in_slots env m) k (o env)) → EndsOver (slots_from (length front) vs) read (front ++ (vs ++ rest))
  taken_from front read [] rest set h = (front ++ rest, subst (λ vs. EndsIn p (Arguments g end vs) (in_slots (front ++ rest) m) k (o (front ++ rest))) (append-nil read) (h (front ++ rest)))
  taken_from front read (v ∷ vs) rest set h =
      let unset = Plain Unset in
      let more : length (front ++ unset ∷ []) ≡ suc (length front) = length-append front (unset ∷ []) ∙ (omega arith) in
      let env : front ++ (unset ∷ (vs ++ rest)) ≡ (front ++ unset ∷ []) ++ (vs ++ rest) = sym (append_assoc front (unset ∷ []) (vs ++ rest)) in
      let next = taken_from (front ++ unset ∷ []) (read ++ v ∷ []) vs rest set.1 (λ e. subst (λ vs. EndsIn p (Arguments g end vs) (in_slots e m) k (o e)) (sym (append_assoc read (v ∷ []) vs)) (h e)) in
      let next_here = subst (λ n. EndsOver (slots_from n vs) (read ++ v ∷ []) ((front ++ unset ∷ []) ++ (vs ++ rest))) more next in
      let set_env : (front ++ unset ∷ []) ++ (vs ++ rest) ≡ slice_set (front ++ v ∷ (vs ++ rest)) (length front) unset = sym env ∙ sym (set_behind front v unset (vs ++ rest)) in
      let there = subst (λ e. EndsOver (slots_from (suc (length front)) vs) (read ++ v ∷ []) e) set_env next_here in
      (there.0, argument (take (get_behind front v (vs ++ rest)) set.0) there.1)

  -- what follows on the values follows on the slots that they stand in
  pub taken : (vs rest : List Val) (n : ℕ) → n ≡ length vs → AreSet vs → ((env : List Val) → EndsIn p (Arguments g end vs) (in_slots env m) k (o env)) → EndsOver (takes n) [] (vs ++ rest)
  taken vs rest n many set h = subst (λ l. EndsOver l [] (vs ++ rest)) (sym (ap takes many ∙ takes_slots vs)) (taken_from [] [] vs rest set h)
