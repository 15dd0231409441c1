-- The names of a grammar's parameters, bound in their order, show what their numbers stand for: of several of one name the last one's value.
use Rattle.std.proofs.Common.{◌≡◌, ℕ, zero, suc, ◌+◌, ◌<◌, Bool, true, false, List, [], ◌∷◌, ◌++◌, length, map, Option, Some, None, slice_get, refl, sym, ap, ◌∙◌, subst, arith, append_assoc, length-append, if◌then◌else◌}
use Rattle.std.specs.List.{range_with_len}
use Rattle.std.specs.Option.{option_map}
use Rattle.std.specs.Str.{bytes_eq}
use Rattle.std.proofs.lemmas.List.{length-map}
use Rattle.std.proofs.lemmas.Option.{none-some, same_Some, slice_get-map}
use Rattle.lp_repr.specs.declared.repr.Grammar.{Grammar}
use Rattle.lp_repr.specs.declared.repr.Parameter.{Parameter}
use Rattle.lp_machine.specs.GrammarTables.{is_named}
use Rattle.lp_core.specs.Effect.{set_value}
use Rattle.lp_maker.specs.Slots.{Names, no_names, after_slots, bound, slot_of}
use Rattle.lp_turns.specs.Readings.{param_val}
use Rattle.lp_code_laws.specs.Slots.Shows.{Shows}
use Rattle.lp_code_laws.proofs.Slots.Names.{same_text as text_is, slot_named}
use Rattle.lp_code_laws.proofs.Slots.Slots.{get_behind}
use Rattle.lp_question_laws.proofs.Actions.Held.{held_by, last_number, param_or}
use Rattle.lp_question_laws.specs.Reductions.Arguments.{ShowAll}
use Rattle.lp_question_laws.proofs.Reductions.Parameters.{bound_each, each_next}
use Rattle.lp_question_laws.proofs.Reductions.Texts.{names_of}
use Rattle.lp_run.specs.ProgramRun.{parameters}
use Rattle.lp_back_end_laws.proofs.Call.NewCells.{range_at}

-- the number of the last of some names that is this one, from a number on, else found
abbrev last_among : List ℕ → ℕ → List (List ℕ) → Option ℕ → Option ℕ
last_among key i [] found = found
last_among key i (q ∷ qs) found = last_among key (i + 1) qs (if bytes_eq q key then Some i else found)

bound_last : (key : List ℕ) (qs : List (List ℕ)) (names : Names) → slot_of key (bound_each names qs) ≡ last_among key names.next qs (slot_of key names)
bound_last key [] names = refl
bound_last key (q ∷ qs) names = bound_last key qs (bound q names) ∙ ap (last_among key (names.next + 1) qs) (slot_named key q names.next (after_slots 1 names))

number_last : (name : List ℕ) (all front ps : List Parameter) (found : Option ℕ) → front ++ ps ≡ all → last_number all name (length front) ps found ≡ last_among name (length front) (names_of ps) found
number_last name all front [] found is = refl
number_last name all front (p ∷ ps) found is =
    let more : length (front ++ p ∷ []) ≡ length front + 1 = length-append front (p ∷ []) in
    let here : slice_get all (length front) ≡ Some p = ap (λ l. slice_get l (length front)) (sym is) ∙ get_behind front p ps in
    let next = if bytes_eq p.name name then Some (length front) else found in
    ap (λ o. last_number all name (length front + 1) ps (if is_named o name then Some (length front) else found)) here
    ∙ subst (λ k. last_number all name k ps next ≡ last_among name k (names_of ps) next) more (number_last name all (front ++ p ∷ []) ps next (append_assoc front (p ∷ []) ps ∙ is))

-- a name that stands among them is found
stays : (key : List ℕ) (i : ℕ) (qs : List (List ℕ)) (n : ℕ) → n < i → (k : ℕ) × (last_among key i qs (Some n) ≡ Some k) × (k < i + length qs)
stays key i [] n less = (n, refl, omega (arith, less))
stays key i (q ∷ qs) n less = by (bytes_eq q key) (stays key (i + 1) qs i (omega arith)) (stays key (i + 1) qs n (omega (arith, less)))
  where
    by : (b : Bool) → (k : ℕ) × (last_among key (i + 1) qs (Some i) ≡ Some k) × (k < (i + 1) + length qs) → (k : ℕ) × (last_among key (i + 1) qs (Some n) ≡ Some k) × (k < (i + 1) + length qs) → (k : ℕ) × (last_among key (i + 1) qs (if b then Some i else Some n) ≡ Some k) × (k < i + suc (length qs))
    by true r s = (r.0, r.1, omega (arith, r.2))
    by false r s = (s.0, s.1, omega (arith, s.2))

finds : (key : List ℕ) (i j : ℕ) (qs : List (List ℕ)) (found : Option ℕ) → slice_get qs j ≡ Some key → (k : ℕ) × (last_among key i qs found ≡ Some k) × (k < i + length qs)
finds key i j [] found at = absurd (none-some key at)
finds key i zero (q ∷ qs) found at =
    let same : bytes_eq q key ≡ true = ap (bytes_eq q) (sym (same_Some q key at)) ∙ text_is q in
    let r = stays key (i + 1) qs i (omega arith) in
    (r.0, ap (λ b. last_among key (i + 1) qs (if b then Some i else found)) same ∙ r.1, omega (arith, r.2))
finds key i (suc j) (q ∷ qs) found at = (let r = finds key (i + 1) j qs (if bytes_eq q key then Some i else found) at in (r.0, r.1, omega (arith, r.2)))

module _ (g : Grammar) where
  abbrev keys : List (List ℕ)
  keys = names_of g.parameters

  one_shown : (j : ℕ) (key : List ℕ) → slice_get keys j ≡ Some key → Shows (bound_each no_names keys) (parameters (length g.parameters)) key (held_by g key) × (set_value (held_by g key) ≡ Some (held_by g key))
  one_shown j key at =
      let r = finds key 0 j keys None at in
      let held : held_by g key ≡ param_val r.0 = ap param_or (number_last key g.parameters [] g.parameters None refl ∙ r.1) in
      let few : r.0 < length g.parameters = omega (arith, r.2, length-map g.parameters (λ (p : Parameter). p.name)) in
      let there : slice_get (parameters (length g.parameters)) r.0 ≡ Some (param_val r.0) = slice_get-map param_val (range_with_len 0 (length g.parameters)) r.0 ∙ ap (option_map param_val) (range_at 0 (length g.parameters) r.0 r.0 few (omega arith)) in (
        record { slot = r.0; is = bound_last key keys no_names ∙ r.1; below = omega (arith, r.2, each_next keys no_names); held = there ∙ ap Some (sym held) },
        subst (λ v. set_value v ≡ Some v) (sym held) refl,
      )

  all_shown : (front qs : List (List ℕ)) → front ++ qs ≡ keys → ShowAll (bound_each no_names keys) (parameters (length g.parameters)) qs (map (held_by g) qs)
  all_shown front [] is = tt
  all_shown front (q ∷ qs) is =
      let one = one_shown (length front) q (ap (λ l. slice_get l (length front)) (sym is) ∙ get_behind front q qs) in
      (one.0, one.1, all_shown (front ++ q ∷ []) qs (append_assoc front (q ∷ []) qs ∙ is))

  -- in `parse` the parameters' names show what the tables have
  pub held_shown : ShowAll (bound_each no_names (names_of g.parameters)) (parameters (length g.parameters)) (names_of g.parameters) (map (held_by g) (names_of g.parameters))
  held_shown = all_shown [] keys refl

  pub held_next : (bound_each no_names (names_of g.parameters)).next ≡ length g.parameters
  held_next = omega (arith, each_next keys no_names, length-map g.parameters (λ (p : Parameter). p.name))
