-- The values of the parameters by name: that of the last parameter of a name.
use Rattle.std.proofs.Common.{◌≡◌, ℕ, zero, suc, ◌+◌, ◌<◌, Bool, true, false, List, [], ◌∷◌, ◌++◌, length, map, Option, Some, None, refl, ap, sym, subst, ◌∙◌, arith, append_assoc, length-append, if◌then◌else◌}
use Rattle.std.specs.Prelude.{slice_get}
use Rattle.lp_repr.specs.declared.repr.Grammar.{Grammar}
use Rattle.lp_repr.specs.declared.repr.Parameter.{Parameter}
use Rattle.lp_driver.specs.Values.{Text}
use Rattle.lp_core.specs.CallMeaning.{param_of}
use Rattle.lp_core.specs.Datum.{Unset, Param}
use Rattle.lp_core.specs.Store.{Program}
use Rattle.lp_core.specs.Val.{Val, Plain}
use Rattle.lp_machine.specs.GrammarTables.{is_named, last_named, or_nothing, params_among}
use Rattle.lp_table.specs.Headers.{names_of}
use Rattle.lp_question_laws.specs.Actions.Params.{AreParams}
use Rattle.lp_code_laws.proofs.Slots.Names.{same_text as same_name}
use Rattle.lp_code_laws.proofs.Slots.Slots.{get_behind}
use Rattle.std.proofs.lemmas.Option.{slice_get_within}

-- the number of the last parameter of a name, over as many things from one on, else found
abbrev pub last_number : {A : Type 0} → List Parameter → Text → ℕ → List A → Option ℕ → Option ℕ
last_number names name i [] found = found
last_number names name i (x ∷ xs) found = last_number names name (i + 1) xs (if is_named (slice_get names i) name then Some i else found)

abbrev pub param_or : Option ℕ → Val
param_or None = Plain Unset
param_or (Some n) = Plain (Param n)

-- what a name of a parameter holds
abbrev pub held_by : Grammar → Text → Val
held_by g name = param_or (last_number g.parameters name 0 g.parameters None)

last_same : {A B : Type 0} (names : List Parameter) (name : Text) (i : ℕ) (xs : List A) (ys : List B) (found : Option ℕ) → length xs ≡ length ys → last_number names name i xs found ≡ last_number names name i ys found
last_same names name i [] [] found h = refl
last_same names name i [] (y ∷ ys) found h = absurd (omega arith)
last_same names name i (x ∷ xs) [] found h = absurd (omega arith)
last_same names name i (x ∷ xs) (y ∷ ys) found h = last_same names name (i + 1) xs ys (if is_named (slice_get names i) name then Some i else found) (omega arith)

-- a number tells what the tables find
abbrev Tells : List Text → Option ℕ → Option Text → Type 0
Tells params None None = Unit {0}
Tells params (Some n) (Some t) = slice_get params n ≡ Some t
Tells params None (Some t) = ⊥
Tells params (Some n) None = ⊥

tells_if : (params : List Text) (b : Bool) (i : ℕ) (t : Text) (n : Option ℕ) (found : Option Text) → slice_get params i ≡ Some t → Tells params n found → Tells params (if b then Some i else n) (if b then Some t else found)
tells_if params true i t n found is h = is
tells_if params false i t n found is h = h

tells : (names : List Parameter) (name : Text) (front values : List Text) (n : Option ℕ) (found : Option Text) → Tells (front ++ values) n found → Tells (front ++ values) (last_number names name (length front) values n) (last_named names name (length front) values found)
tells names name front [] n found h = h
tells names name front (v ∷ values) n found h =
    let params = front ++ v ∷ values in
    let b = is_named (slice_get names (length front)) name in
    let more : length (front ++ v ∷ []) ≡ length front + 1 = length-append front (v ∷ []) in
    let same : (front ++ v ∷ []) ++ values ≡ params = append_assoc front (v ∷ []) values in
    let next : Tells ((front ++ v ∷ []) ++ values) (if b then Some (length front) else n) (if b then Some v else found) = subst (λ l. Tells l (if b then Some (length front) else n) (if b then Some v else found)) (sym same) (tells_if params b (length front) v n found (get_behind front v values) h) in
    let rest = tells names name (front ++ v ∷ []) values (if b then Some (length front) else n) (if b then Some v else found) next in
    subst (λ l. Tells l (last_number names name (length front + 1) values (if b then Some (length front) else n)) (last_named names name (length front + 1) values (if b then Some v else found))) same
    (subst (λ k. Tells ((front ++ v ∷ []) ++ values) (last_number names name k values (if b then Some (length front) else n)) (last_named names name k values (if b then Some v else found))) more rest)

-- a name that a parameter has is found
stays_found : {A : Type 0} (names : List Parameter) (name : Text) (i : ℕ) (xs : List A) (n : ℕ) → (k : ℕ) × (last_number names name i xs (Some n) ≡ Some k)
stays_found names name i [] n = (n, refl)
stays_found names name i (x ∷ xs) n = by (is_named (slice_get names i) name) (stays_found names name (i + 1) xs i) (stays_found names name (i + 1) xs n)
  where
    by : (b : Bool) → (k : ℕ) × (last_number names name (i + 1) xs (Some i) ≡ Some k) → (k : ℕ) × (last_number names name (i + 1) xs (Some n) ≡ Some k) → (k : ℕ) × (last_number names name (i + 1) xs (if b then Some i else Some n) ≡ Some k)
    by true f g = f
    by false f g = g

is_found : {A : Type 0} (names : List Parameter) (q : Parameter) (i j : ℕ) (xs : List A) (found : Option ℕ) → slice_get names (i + j) ≡ Some q → j < length xs → (k : ℕ) × (last_number names q.name i xs found ≡ Some k)
is_found names q i j [] found is less = absurd (omega arith)
is_found names q i zero (x ∷ xs) found is less =
    let at : i + 0 ≡ i = omega arith in
    let here : slice_get names i ≡ Some q = ap (slice_get names) (sym at) ∙ is in
    let r = stays_found names q.name (i + 1) xs i in
    (r.0, ap (λ o. last_number names q.name (i + 1) xs (if is_named o q.name then Some i else found)) here ∙ ap (λ b. last_number names q.name (i + 1) xs (if b then Some i else found)) (same_name q.name) ∙ r.1)
is_found names q i (suc j) (x ∷ xs) found is less =
    let at : i + suc j ≡ i + 1 + j = omega arith in
    is_found names q (i + 1) j xs (if is_named (slice_get names i) q.name then Some i else found) (ap (slice_get names) (sym at) ∙ is) (omega arith)

module _ (p : Program) (g : Grammar) (params : List Text) (given : p.params ≡ params) (many : length params ≡ length g.parameters) where
  one_held : (q : Parameter) (j : ℕ) → slice_get g.parameters j ≡ Some q → (t : Text) × (last_named g.parameters q.name 0 params None ≡ Some t) × (param_of p (held_by g q.name) ≡ Some t)
  one_held q j is =
      let at : j ≡ 0 + j = omega arith in
      let within = slice_get_within g.parameters j q is in
      let f = is_found g.parameters q 0 j g.parameters None (ap (slice_get g.parameters) (sym at) ∙ is) within in
      let found : last_number g.parameters q.name 0 params None ≡ Some f.0 = last_same g.parameters q.name 0 params g.parameters None many ∙ f.1 in
      let told = tells g.parameters q.name [] params None None tt in
      by (last_named g.parameters q.name 0 params None) refl f.0 f.1 (subst (λ o. Tells params o (last_named g.parameters q.name 0 params None)) found told)
    where
      by : (o : Option Text) → last_named g.parameters q.name 0 params None ≡ o → (k : ℕ) → last_number g.parameters q.name 0 g.parameters None ≡ Some k → Tells params (Some k) (last_named g.parameters q.name 0 params None) → (t : Text) × (last_named g.parameters q.name 0 params None ≡ Some t) × (param_of p (held_by g q.name) ≡ Some t)
      by None e k n h = absurd (subst (Tells params (Some k)) e h)
      by (Some t) e k n h = (t, e, ap (λ o. param_of p (param_or o)) n ∙ ap (λ l. slice_get l k) given ∙ subst (Tells params (Some k)) e h)

  all_held : (front ps : List Parameter) → front ++ ps ≡ g.parameters → AreParams p (map (held_by g) (map (λ (q : Parameter). q.name) ps)) (params_among g.parameters params ps)
  all_held front [] h = tt
  all_held front (q ∷ ps) h =
      let r = one_held q (length front) (ap (λ l. slice_get l (length front)) (sym h) ∙ get_behind front q ps) in
      subst (λ l. AreParams p (held_by g q.name ∷ map (held_by g) (map (λ (x : Parameter). x.name) ps)) (l ++ params_among g.parameters params ps)) (sym (ap or_nothing r.1))
      (r.2, all_held (front ++ q ∷ []) ps (append_assoc front (q ∷ []) ps ∙ h))

  -- the values by name stand for what the parameters were given, as the tables have it
  pub are_held : AreParams p (map (held_by g) (names_of g)) (params_among g.parameters params g.parameters)
  are_held = all_held [] g.parameters refl
