-- Arms that test a token for the form that a text of the program is.
use Rattle.std.proofs.Common.{◌≡◌, ℕ, suc, ◌+◌, Bool, true, false, cond, List, [], ◌∷◌, Option, Some, None, refl, sym, ap, ◌∙◌, arith}
use Rattle.std.specs.Prelude.{slice_get}
use Rattle.std.specs.List.{position_from}
use Rattle.std.specs.Option.{option_map}
use Rattle.std.specs.Str.{bytes_eq}
use Rattle.lp_driver.specs.Values.{Text, Token}
use Rattle.lp_core.specs.declared.expr.Test.TheVariants as test
use Rattle.lp_core.specs.Store.{Program}
use Rattle.lp_core.specs.Tree.{Tree}
use Rattle.lp_turns.specs.DriverCall.{token_val}
use Rattle.lp_question_laws.proofs.Gotos.Arms.{Arm, picked, pick_if, passes_any, or_else}

-- whether a text is a token's form
abbrev pub is_form : Token → List ℕ → Bool
is_form token form = bytes_eq form token.form

-- the tests of forms that are texts from number b on, each leading to the body of its place, from n on
abbrev pub form_arms : (ℕ → Tree) → ℕ → ℕ → List (List ℕ) → List Arm
form_arms body b n [] = []
form_arms body b n (f ∷ fs) = (test.Form b ∷ [], body n) ∷ form_arms body (b + 1) (n + 1) fs

-- the body of a place
abbrev pub body_or : (ℕ → Tree) → Tree → Option ℕ → Tree
body_or body last None = last
body_or body last (Some n) = body n

-- these texts stand in a program from number b on
abbrev pub AreTexts : List Text → ℕ → List (List ℕ) → Type 0
AreTexts texts b fs = (j : ℕ) (f : List ℕ) → slice_get fs j ≡ Some f → slice_get texts (b + j) ≡ Some f

pub texts_after : (texts : List Text) (b : ℕ) (f : List ℕ) (fs : List (List ℕ)) → AreTexts texts b (f ∷ fs) → AreTexts texts (b + 1) fs
texts_after texts b f fs h j x at = (let next : (b + 1) + j ≡ b + suc j = omega arith in ap (slice_get texts) next ∙ h (suc j) x at)

module _ (p : Program) (token : Token) (body : ℕ → Tree) (last : Tree) where
  form_passed : (b : ℕ) (f : List ℕ) → slice_get p.texts b ≡ Some f → passes_any p (test.Form b ∷ []) (token_val token) ≡ Some (is_form token f)
  form_passed b f at = ap (λ (o : Option (List ℕ)). or_else (option_map (is_form token) o) (Some false)) at ∙ by (is_form token f)
    where
      by : (b : Bool) → or_else (Some b) (Some false) ≡ Some b
      by true = refl
      by false = refl

  -- the first form that a token has leads it to its body, none to the last one
  pub form_picked : (b n : ℕ) (fs : List (List ℕ)) → AreTexts p.texts b fs → picked p (token_val token) (form_arms body b n fs) last ≡ Some (body_or body last (position_from (is_form token) n fs))
  form_picked b n [] h = refl
  form_picked b n (f ∷ fs) h =
      let here : slice_get p.texts b ≡ Some f = (let none : b + 0 ≡ b = omega arith in ap (slice_get p.texts) (sym none) ∙ h 0 f refl) in
      ap (λ (o : Option Tree). pick_if (body n) o (passes_any p (test.Form b ∷ []) (token_val token))) (form_picked (b + 1) (n + 1) fs (texts_after p.texts b f fs h))
      ∙ ap (pick_if (body n) (Some (body_or body last (position_from (is_form token) (n + 1) fs)))) (form_passed b f here)
      ∙ by (is_form token f)
    where
      by : (t : Bool) → pick_if (body n) (Some (body_or body last (position_from (is_form token) (n + 1) fs))) (Some t) ≡ Some (body_or body last (cond t (Some n) (position_from (is_form token) (n + 1) fs)))
      by true = refl
      by false = refl
