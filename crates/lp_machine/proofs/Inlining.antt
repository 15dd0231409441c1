-- Calls of inlined actions, one after the other.
use Rattle.std.proofs.Common.{◌≡◌, ℕ, zero, suc, ◌+◌, ◌-◌, ◌<◌, List, [], ◌∷◌, ◌++◌, length, take, drop, get_or, drop-cons, slice_get, Result, Ok, Err, refl, sym, ap, ◌∙◌, append_assoc, length-append, arith}
use Rattle.lp_repr.specs.declared.values.Loc.{Loc}
use Rattle.lp_repr.specs.declared.repr.ActionFnDefn.{ActionFnDefn}
use Rattle.lp_repr.specs.declared.repr.InlinedSymbol.{InlinedSymbol}
use Rattle.lp_repr.specs.declared.repr.InlinedSymbol.TheVariants.{Original, Inlined}
use Rattle.lp_repr.specs.declared.repr.Symbol.{Symbol}
use Rattle.lp_driver.specs.Values.{Text, Spanned, Value, Failure}
use Rattle.lp_machine.specs.declared.calls.Call.{Call}
use Rattle.lp_machine.specs.declared.calls.Acted.{Acted}
use Rattle.lp_machine.specs.ActionMeaning.{Meaning, after_calls, with_value, act, meaning_at, inline_from, inlined_span}

-- calls before calls
pub after_both : (a b : List Call) (x : Acted) → after_calls a (after_calls b x) ≡ after_calls (a ++ b) x
after_both a b x = ap (λ (calls : List Call). record { calls = calls; result = x.result }) (sym (append_assoc a b x.calls))

pub after_none : (x : Acted) → after_calls [] x ≡ x
after_none x = refl

-- the calls before an action that gave a value
pub after_value : (before : List Call) (acted : Acted) (r : Result Value Failure) (value : Value) (go : Value → Acted) → r ≡ Ok value → after_calls before (with_value acted r go) ≡ after_calls (before ++ acted.calls) (go value)
after_value before acted (Ok other) value go h =
    let e : other ≡ value = cc in after_both before acted.calls (go other) ∙ ap (λ v. after_calls (before ++ acted.calls) (go v)) e
after_value before acted (Err failure) value go h = cc

-- and before one that failed
pub after_failure : (before : List Call) (acted : Acted) (r : Result Value Failure) (failure : Failure) (go : Value → Acted) → r ≡ Err failure
    → after_calls before (with_value acted r go) ≡ record { calls = before ++ acted.calls; result = Err failure }
after_failure before acted (Ok value) failure go h = cc
after_failure before acted (Err other) failure go h =
    let e : other ≡ failure = cc in ap (λ (f : Failure). record { calls = before ++ acted.calls; result = Err f }) e

module _ (params : List Text) (failing : List ℕ) where
  -- the meaning of an action whose inlined actions nest
  pub act_nested : (depth : ℕ) (actions : List ActionFnDefn) (a : ℕ) (args : List (Spanned Value)) (place : Loc × Loc) (n : ℕ) → 0 < depth
      → meaning_at params failing (act params failing (depth - 1) actions) (slice_get actions a) args place n ≡ act params failing depth actions a args place n
  act_nested zero actions a args place n h = absurd (omega arith)
  act_nested (suc depth) actions a args place n h =
      let e : suc depth - 1 ≡ depth = omega arith in ap (λ d. meaning_at params failing (act params failing d actions) (slice_get actions a) args place n) e

module _ (acts : Meaning) (outer : ℕ) (args : List (Spanned Value)) (place : Loc × Loc) where
  -- an original symbol takes one of the arguments
  pub step_original : (i i' : ℕ) (given given' : List (Spanned Value)) (n : ℕ) (calls calls' : List Call) (rest symbols : List InlinedSymbol) (x : Symbol)
      → symbols ≡ Original x ∷ rest → i' ≡ i + 1 → given' ≡ given ++ take 1 (drop i args) → calls' ≡ calls
      → after_calls calls' (inline_from acts outer args place i' given' (n + length calls') rest) ≡ after_calls calls (inline_from acts outer args place i given (n + length calls) symbols)
  step_original i i' given given' n calls calls' rest symbols x hs hi hg hc =
      ap (λ k. after_calls calls' (inline_from acts outer args place k given' (n + length calls') rest)) hi
      ∙ ap (λ g. after_calls calls' (inline_from acts outer args place (i + 1) g (n + length calls') rest)) hg
      ∙ ap (λ cs. after_calls cs (inline_from acts outer args place (i + 1) (given ++ take 1 (drop i args)) (n + length cs) rest)) hc
      ∙ ap (λ ss. after_calls calls (inline_from acts outer args place i given (n + length calls) ss)) (sym hs)

  -- an inlined one runs its action on its share
  pub step_inlined : (i i' : ℕ) (given given' : List (Spanned Value)) (n : ℕ) (calls calls' : List Call) (rest symbols : List InlinedSymbol) (action : ℕ) (inner : List Symbol) (acted : Acted) (value : Value)
      → symbols ≡ Inlined action inner ∷ rest → acted ≡ acts action (take (length inner) (drop i args)) (inlined_span args i (length inner) place) (n + length calls) → acted.result ≡ Ok value
      → i' ≡ i + length inner → given' ≡ given ++ ((inlined_span args i (length inner) place).0, value, (inlined_span args i (length inner) place).1) ∷ [] → calls' ≡ calls ++ acted.calls
      → after_calls calls' (inline_from acts outer args place i' given' (n + length calls') rest) ≡ after_calls calls (inline_from acts outer args place i given (n + length calls) symbols)
  step_inlined i i' given given' n calls calls' rest symbols action inner acted value hs ha hr hi hg hc =
      let at = inlined_span args i (length inner) place in
      let is : Acted = acts action (take (length inner) (drop i args)) at (n + length calls) in
      let go : Value → Acted = λ v. inline_from acts outer args place (i + length inner) (given ++ (at.0, v, at.1) ∷ []) (n + length calls + length is.calls) rest in
      let hc' : calls' ≡ calls ++ is.calls = hc ∙ ap (λ (a : Acted). calls ++ a.calls) ha in
      let hr' : is.result ≡ Ok value = ap (λ (a : Acted). a.result) (sym ha) ∙ hr in
      let e : n + length (calls ++ is.calls) ≡ n + length calls + length is.calls = omega (arith, length-append calls is.calls) in
      ap (λ k. after_calls calls' (inline_from acts outer args place k given' (n + length calls') rest)) hi
      ∙ ap (λ g. after_calls calls' (inline_from acts outer args place (i + length inner) g (n + length calls') rest)) hg
      ∙ ap (λ cs. after_calls cs (inline_from acts outer args place (i + length inner) (given ++ (at.0, value, at.1) ∷ []) (n + length cs) rest)) hc'
      ∙ ap (λ m. after_calls (calls ++ is.calls) (inline_from acts outer args place (i + length inner) (given ++ (at.0, value, at.1) ∷ []) m rest)) e
      ∙ sym (after_value calls is is.result value go hr')
      ∙ ap (λ ss. after_calls calls (inline_from acts outer args place i given (n + length calls) ss)) (sym hs)

  -- the same, by the parts in which the code has it
  pub step_parts : (i i' i1 : ℕ) (given given' g1 : List (Spanned Value)) (n : ℕ) (calls calls' c1 : List Call) (rest symbols : List InlinedSymbol) (action : ℕ) (inner : List Symbol) (k m : ℕ) (at : Loc × Loc) (acted : Acted) (value : Value)
      → symbols ≡ Inlined action inner ∷ rest → k ≡ length inner → at ≡ inlined_span args i k place → m ≡ n + length calls → acted ≡ acts action (take k (drop i args)) at m → acted.result ≡ Ok value
      → i' ≡ i1 → i1 ≡ i + k → given' ≡ g1 → g1 ≡ given ++ (at.0, value, at.1) ∷ [] → calls' ≡ c1 → c1 ≡ calls ++ acted.calls
      → after_calls calls' (inline_from acts outer args place i' given' (n + length calls') rest) ≡ after_calls calls (inline_from acts outer args place i given (n + length calls) symbols)
  step_parts i i' i1 given given' g1 n calls calls' c1 rest symbols action inner k m at acted value hs hk hat hm ha hr hi hi1 hg hg1 hc hc1 =
      let here : at ≡ inlined_span args i (length inner) place = hat ∙ ap (λ j. inlined_span args i j place) hk in
      let is : acted ≡ acts action (take (length inner) (drop i args)) (inlined_span args i (length inner) place) (n + length calls) =
      ha ∙ ap (λ j. acts action (take j (drop i args)) at m) hk ∙ ap (λ a. acts action (take (length inner) (drop i args)) a m) here ∙ ap (λ x. acts action (take (length inner) (drop i args)) (inlined_span args i (length inner) place) x) hm in
      step_inlined i i' given given' n calls calls' rest symbols action inner acted value hs is hr (hi ∙ hi1 ∙ ap (λ j. i + j) hk) (hg ∙ hg1 ∙ ap (λ (a : Loc × Loc). given ++ (a.0, value, a.1) ∷ []) here) (hc ∙ hc1)
