-- In a valid grammar an action that can't fail gives a value.
use Rattle.std.proofs.Common.{◌≡◌, ℕ, zero, suc, ◌+◌, Bool, true, false, not, ◌||◌, List, [], ◌∷◌, ◌++◌, length, take, drop, Option, Some, None, Ok, IsTrue, IfSome, slice_get, refl, sym, ap, ◌∙◌, subst}
use Rattle.std.specs.List.{list_any}
use Rattle.std.specs.Option.{option_map_or}
use Rattle.lp_repr.specs.declared.lr1.Lr1State.{Lr1State}
use Rattle.lp_repr.specs.declared.repr.ActionFnDefn.{ActionFnDefn}
use Rattle.lp_repr.specs.declared.repr.ActionFnDefnKind.{ActionFnDefnKind}
use Rattle.lp_repr.specs.declared.repr.ActionFnDefnKind.TheVariants as kind
use Rattle.lp_repr.specs.declared.repr.Grammar.{Grammar}
use Rattle.lp_repr.specs.declared.repr.InlinedSymbol.{InlinedSymbol}
use Rattle.lp_repr.specs.declared.repr.InlinedSymbol.TheVariants.{Original, Inlined}
use Rattle.lp_repr.specs.declared.repr.LookaroundActionFn.TheVariants.{Lookahead, Lookbehind}
use Rattle.lp_repr.specs.declared.repr.Production.{Production}
use Rattle.lp_repr.specs.declared.values.Loc.{Loc}
use Rattle.lp_driver.specs.declared.answers.Expecting.{Expecting}
use Rattle.lp_driver.specs.Values.{Spanned, Text, Value}
use Rattle.lp_machine.specs.declared.calls.Acted.{Acted}
use Rattle.lp_machine.specs.ActionMeaning.{Meaning, act, inline_from, inlined_span, meaning_at, meaning_of, with_value}
use Rattle.lp_machine.specs.GrammarTables.{grammar_tables}
use Rattle.lp_table.specs.Starts.{fallible_or_not}
use Rattle.lp_table.specs.Starts as table
use Rattle.lp_valid.specs.ActionRules.{is_fallible, part_is_fallible, kind_may_fail}
use Rattle.lp_valid.specs.ValidGrammar.{fallibles, IsValidGrammar}

-- it gives a value
abbrev pub Values : Acted → Type 0
Values a = (v : Value) × (a.result ≡ Ok v)

neither : (a b : Bool) → not (a || b) ≡ true → (a ≡ false) × (b ≡ false)
neither true b e = cc
neither false true e = cc
neither false false e = (refl, refl)

either_false : (a b : Bool) → (a || b) ≡ false → (a ≡ false) × (b ≡ false)
either_false true b e = cc
either_false false b e = (refl, e)

module _ (actions : List ActionFnDefn) (acts : Meaning) (sound : (a : ℕ) → is_fallible actions a ≡ false → (args : List (Spanned Value)) (place : Loc × Loc) (n : ℕ) → Values (acts a args place n)) where
  -- a value goes on
  goes_on : (acted : Acted) (go : Value → Acted) → Values acted → ((v : Value) → Values (go v)) → Values (with_value acted acted.result go)
  goes_on acted go h g = let w = g h.0 in (w.0, ap (λ r. (with_value acted r go).result) h.1 ∙ w.1)

  -- inlined actions that can't fail
  inlined : (outer : ℕ) (args : List (Spanned Value)) (place : Loc × Loc) (symbols : List InlinedSymbol) (i : ℕ) (given : List (Spanned Value)) (n : ℕ) → is_fallible actions outer ≡ false → list_any (part_is_fallible actions) symbols ≡ false
      → Values (inline_from acts outer args place i given n symbols)
  inlined outer args place [] i given n plain none = sound outer plain given place n
  inlined outer args place (Original symbol ∷ symbols) i given n plain none = inlined outer args place symbols (i + 1) (given ++ take 1 (drop i args)) n plain none
  inlined outer args place (Inlined action inner ∷ symbols) i given n plain none =
      let parts = either_false (is_fallible actions action) (list_any (part_is_fallible actions) symbols) none in
      let at = inlined_span args i (length inner) place in
      let acted = acts action (take (length inner) (drop i args)) at n in
      goes_on acted (λ value. inline_from acts outer args place (i + length inner) (given ++ (at.0, value, at.1) ∷ []) (n + length acted.calls) symbols) (sound action parts.0 (take (length inner) (drop i args)) at n)
      (λ value. inlined outer args place symbols (i + length inner) (given ++ (at.0, value, at.1) ∷ []) (n + length acted.calls) plain parts.1)

  module _ (params : List Text) (failing : List ℕ) where
    kind_gives : (k : ActionFnDefnKind) → kind_may_fail actions false k ≡ true → (args : List (Spanned Value)) (place : Loc × Loc) (n : ℕ) → Values (meaning_of params failing acts false k args place n)
    kind_gives (kind.User names types code) may args place n = (_, refl)
    kind_gives (kind.Lookaround Lookahead) may args place n = (_, refl)
    kind_gives (kind.Lookaround Lookbehind) may args place n = (_, refl)
    kind_gives (kind.Inline outer symbols) may args place n =
        let parts = neither (is_fallible actions outer) (list_any (part_is_fallible actions) symbols) may in
        inlined outer args place symbols 0 [] n parts.0 parts.1

    at_gives : (o : Option ActionFnDefn) → option_map_or (λ (a : ActionFnDefn). a.fallible) o false ≡ false → IfSome o (λ a. IsTrue (kind_may_fail actions a.fallible a.kind)) → (args : List (Spanned Value)) (place : Loc × Loc) (n : ℕ) → Values (meaning_at params failing acts o args place n)
    at_gives None plain may args place n = (_, refl)
    at_gives (Some a) plain may args place n =
        subst (λ (b : Bool). Values (meaning_of params failing acts b a.kind args place n)) (sym plain) (kind_gives a.kind (subst (λ (b : Bool). kind_may_fail actions b a.kind ≡ true) plain may) args place n)

act_gives : (params : List Text) (failing : List ℕ) (actions : List ActionFnDefn) → ((place : ℕ) → IfSome (slice_get actions place) (λ a. IsTrue (kind_may_fail actions a.fallible a.kind))) → (depth a : ℕ) → is_fallible actions a ≡ false → (args : List (Spanned Value)) (place : Loc × Loc) (n : ℕ) → Values (act params failing depth actions a args place n)
act_gives params failing actions valid zero a plain args place n = (_, refl)
act_gives params failing actions valid (suc depth) a plain args place n = at_gives actions (act params failing depth actions) (λ b. act_gives params failing actions valid depth b) params failing (slice_get actions a) plain (valid a) args place n

fallible_same : (o : Option ActionFnDefn) → option_map_or (λ (a : ActionFnDefn). a.fallible) o false ≡ fallible_or_not o
fallible_same None = refl
fallible_same (Some a) = refl

-- a production whose action can't fail
pub infallible_gives : (g : Grammar) (states : List Lr1State) (expecting : Expecting) (params : List Text) (failing : List ℕ) → IsValidGrammar g → (prod : Production) → table.is_fallible g prod ≡ false → (triples : List (Spanned Value)) (place : Loc × Loc) (made : ℕ)
    → (v : Value) × (((grammar_tables g states expecting params failing).act prod.action triples place made).result ≡ Ok v)
infallible_gives g states expecting params failing valid prod plain triples place made =
    act_gives _ failing g.action_fn_defns (valid fallibles) (length g.action_fn_defns) prod.action (fallible_same (slice_get g.action_fn_defns prod.action) ∙ plain) triples place made
