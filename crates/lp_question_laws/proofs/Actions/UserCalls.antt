-- The call of user code that arguments make.
use Rattle.std.proofs.Common.{◌≡◌, ℕ, suc, ◌+◌, ◌<◌, false, List, [], ◌∷◌, ◌++◌, length, map, Some, None, refl, ap, sym, ◌∙◌, arith, append_assoc, append-nil, length-append, if◌then◌else◌}
use Rattle.std.specs.Prelude.{slice_get, nat_lt}
use Rattle.std.specs.Option.{option_map, option_and_then}
use Rattle.std.proofs.lemmas.Bool.{lt-ltb, ne_eqb}
use Rattle.std.proofs.lemmas.Bool.Decides.{nat_tests}
use Rattle.lp_repr.specs.declared.values.Loc.{Loc}
use Rattle.lp_driver.specs.Values.{Text, Spanned, Value}
use Rattle.lp_core.specs.CallMeaning.{Arguments, no_arguments, param_of, param_in, argument, arguments, location_or_triple, with_param, made_call, user_call}
use Rattle.lp_core.specs.Datum.{Datum, Unset, Truth, Index, Number, Parsed, Failed, Blamed, Written, Param, Cell}
use Rattle.lp_core.specs.Effect.{set_value}
use Rattle.lp_core.specs.Reading.{location, location_of}
use Rattle.lp_core.specs.Store.{Program, UserCall}
use Rattle.lp_core.specs.Val.{Val, Plain, Made}
use Rattle.lp_machine.specs.ActionMeaning.{place_of}
use Rattle.lp_question_laws.specs.Tables.Acts.{symbol_val}
use Rattle.lp_question_laws.specs.Tables.Acts as acts
use Rattle.lp_question_laws.specs.Actions.Params.{AreParams, AreSet}

-- ---- values are set

datum_set : (p : Program) (d : Datum) (t : Text) → param_of p (Plain d) ≡ Some t → set_value (Plain d) ≡ Some (Plain d)
datum_set p Unset t h = cc
datum_set p (Truth b) t h = refl
datum_set p (Index n) t h = refl
datum_set p (Number kind n) t h = refl
datum_set p (Parsed value) t h = refl
datum_set p (Failed failure) t h = refl
datum_set p (Blamed error) t h = refl
datum_set p (Written n) t h = refl
datum_set p (Param n) t h = refl
datum_set p (Cell n) t h = refl

param_set : (p : Program) (v : Val) (t : Text) → param_of p v ≡ Some t → set_value v ≡ Some v
param_set p (Plain d) t h = datum_set p d t h
param_set p (Made tag vs) t h = refl

pub params_set : (p : Program) (vs : List Val) (ts : List Text) → AreParams p vs ts → AreSet vs
params_set p [] [] h = tt
params_set p (v ∷ vs) (t ∷ ts) h = (param_set p v t h.0, params_set p vs ts h.1)
params_set p [] (t ∷ ts) h = absurd h
params_set p (v ∷ vs) [] h = absurd h

pub symbols_set : (xs : List (Spanned Value)) → AreSet (map symbol_val xs)
symbols_set [] = tt
symbols_set (x ∷ xs) = (refl, symbols_set xs)

pub set-append : (vs ws : List Val) → AreSet vs → AreSet ws → AreSet (vs ++ ws)
set-append [] ws h g = g
set-append (v ∷ vs) ws h g = (h.0, set-append vs ws h.1 g)

pub arguments_set : (vs : List Val) (xs : List (Spanned Value)) (place : Loc × Loc) → AreSet vs → AreSet (acts.arguments vs xs place)
arguments_set vs [] place h = set-append vs (location place.0 ∷ location place.1 ∷ []) h (refl, (refl, tt))
arguments_set vs (x ∷ xs) place h = set-append vs (map symbol_val (x ∷ xs)) h (symbols_set (x ∷ xs))

no_place : (x : Spanned Value) (xs : List (Spanned Value)) (place : Loc × Loc) → None ≡ place_of (x ∷ xs) place
no_place x xs place = ap (λ b. if b then Some place else None) (sym (ne_eqb (length (x ∷ xs)) 0 (λ e. omega (arith, e))))

-- ---- what they tell

pub params_many : (p : Program) (vs : List Val) (ts : List Text) → AreParams p vs ts → length vs ≡ length ts
params_many p [] [] h = refl
params_many p (v ∷ vs) (t ∷ ts) h = ap suc (params_many p vs ts h.1)
params_many p [] (t ∷ ts) h = absurd h
params_many p (v ∷ vs) [] h = absurd h

module _ (p : Program) (count : ℕ) where
  param_next : (g : Arguments) (v : Val) (t : Text) → length g.params < count → param_of p v ≡ Some t → argument p count g v ≡ Some (with_param g t)
  param_next g v t less is =
      ap (λ b. if b then option_map (with_param g) (param_of p v) else location_or_triple g v (location_of v)) (lt-ltb (length g.params) count less) ∙ ap (option_map (with_param g)) is

  -- the parameters come first
  params_first : (g : Arguments) (vs : List Val) (ts : List Text) (rest : List Val) → length g.params + length vs ≡ count → AreParams p vs ts → arguments p count g (vs ++ rest) ≡ arguments p count (record g { params = g.params ++ ts }) rest
  params_first g [] [] rest many h = ap (λ l. arguments p count (record g { params = l }) rest) (sym (append-nil g.params))
  params_first g (v ∷ vs) (t ∷ ts) rest many h =
      let more : length (g.params ++ t ∷ []) ≡ length g.params + 1 = length-append g.params (t ∷ []) in
      ap (λ o. option_and_then (λ g. arguments p count g (vs ++ rest)) o) (param_next g v t (omega arith) h.0)
      ∙ params_first (with_param g t) vs ts rest (omega arith) h.1
      ∙ ap (λ l. arguments p count (record g { params = l }) rest) (append_assoc g.params (t ∷ []) ts)
  params_first g [] (t ∷ ts) rest many h = absurd h
  params_first g (v ∷ vs) [] rest many h = absurd h

  other_next : (g : Arguments) (v : Val) → length g.params ≡ count → argument p count g v ≡ location_or_triple g v (location_of v)
  other_next g v many =
      let none : nat_lt (length g.params) count ≡ false = grind (arith, nat_tests) in
      ap (λ b. if b then option_map (with_param g) (param_of p v) else location_or_triple g v (location_of v)) none

  -- then triples
  triples_next : (g : Arguments) (xs : List (Spanned Value)) → length g.params ≡ count → arguments p count g (map symbol_val xs) ≡ Some (record g { args = g.args ++ xs })
  triples_next g [] many = ap (λ l. Some (record g { args = l })) (sym (append-nil g.args))
  triples_next g (x ∷ xs) many =
      ap (λ o. option_and_then (λ g. arguments p count g (map symbol_val xs)) o) (other_next g (symbol_val x) many)
      ∙ triples_next (record g { args = g.args ++ x ∷ [] }) xs many
      ∙ ap (λ l. Some (record g { args = l })) (append_assoc g.args (x ∷ []) xs)

  -- or a place
  place_next : (g : Arguments) (a b : Loc) → g.start ≡ None → length g.params ≡ count → arguments p count g (location a ∷ location b ∷ []) ≡ Some (record g { start = Some a; place = Some (a, b) })
  place_next g a b none many =
      ap (λ o. option_and_then (λ g. arguments p count g (location b ∷ [])) o) (other_next g (location a) many ∙ ap (λ o. Some (Rattle.lp_core.specs.CallMeaning.with_location g a o)) none)
      ∙ ap (λ o. option_and_then (λ g. arguments p count g []) o) (other_next (record g { start = Some a }) (location b) many)

  -- all of them
  told : (vs : List Val) (ts : List Text) (xs : List (Spanned Value)) (place : Loc × Loc) → count ≡ length vs → AreParams p vs ts
      → (g : Arguments) × (arguments p count no_arguments (acts.arguments vs xs place) ≡ Some g) × (g.params ≡ ts) × (g.args ≡ xs) × (g.place ≡ place_of xs place)
  told vs ts [] place many are =
      let begun : Arguments = record { params = ts; args = []; start = None; place = None } in
      let enough : length ts ≡ count = sym (params_many p vs ts are) ∙ sym many in
      (record begun { start = Some place.0; place = Some place }, params_first no_arguments vs ts (location place.0 ∷ location place.1 ∷ []) (omega arith) are ∙ place_next begun place.0 place.1 refl enough, refl, refl, refl)
  told vs ts (x ∷ xs) place many are =
      let begun : Arguments = record { params = ts; args = []; start = None; place = None } in
      let enough : length ts ≡ count = sym (params_many p vs ts are) ∙ sym many in
      (record begun { args = x ∷ xs }, params_first no_arguments vs ts (map symbol_val (x ∷ xs)) (omega arith) are ∙ triples_next begun (x ∷ xs) enough, refl, refl, no_place x xs place)

-- the call of user code with these parameters and arguments, or at this place
abbrev pub call_with : ℕ → Text → List Text → List (Spanned Value) → Loc × Loc → UserCall
call_with n code ts xs place = record { number = n; code = code; params = ts; args = xs; place = place_of xs place }

pub user_called : (p : Program) (n text count : ℕ) (code : Text) (vs : List Val) (ts : List Text) (xs : List (Spanned Value)) (place : Loc × Loc) → slice_get p.texts text ≡ Some code → count ≡ length vs → AreParams p vs ts
    → user_call p n text count (acts.arguments vs xs place) ≡ Some (call_with n code ts xs place)
user_called p n text count code vs ts xs place there many are =
    let r = told p count vs ts xs place many are in
    ap (λ o. option_and_then (λ c. option_map (made_call n c) (arguments p count no_arguments (acts.arguments vs xs place))) o) there
    ∙ ap (option_map (made_call n code)) r.1
    ∙ ap (λ q. Some (record { number = n; code = code; params = q; args = r.0.args; place = r.0.place })) r.2
    ∙ ap (λ q. Some (record { number = n; code = code; params = ts; args = q; place = r.0.place })) r.3
    ∙ ap (λ q. Some (record { number = n; code = code; params = ts; args = xs; place = q })) r.4
