-- Trials reduction by reduction, and the names whose trials say yes one by one.
use Rattle.std.proofs.Common.{◌≡◌, ℕ, zero, suc, ◌+◌, ◌-◌, ◌<◌, Bool, true, false, List, [], ◌∷◌, ◌++◌, Option, Some, None, refl, sym, ap, ◌∙◌, append_assoc, arith}
use Rattle.std.specs.Option.{option_map}
use Rattle.std.proofs.lemmas.List.{append-nil}
use Rattle.lp_driver.specs.Values.{Text}
use Rattle.lp_machine.specs.declared.verdict.Verdict.{Verdict}
use Rattle.lp_machine.specs.declared.verdict.Verdict.TheVariants.{Yes, No, GoesOn}
use Rattle.lp_machine.specs.Tables.{Tables}
use Rattle.lp_machine.specs.ExpectedList.{verdict, says_after}
use Rattle.lp_machine.specs.ExpectedLaw.{said_of, names_tried}
use Rattle.lp_machine.specs.TableAnswers.{is_yes, looks_again}

-- these names before those, where there is a list
abbrev pub after : List Text → Option (List Text) → Option (List Text)
after names rest = option_map (λ l. names ++ l) rest

module _ (t : Tables) (terminal : Option ℕ) where
  pub one_look : (n k : ℕ) (v next : Verdict) → n ≡ suc k → looks_again t terminal v ≡ Some next → says_after t n terminal v ≡ says_after t k terminal next
  one_look n k Yes next e h = cc
  one_look n k No next e h = cc
  one_look n k (GoesOn stack) next e h =
      let v : verdict t stack terminal ≡ next = cc in
      ap (λ m. says_after t m terminal (GoesOn stack)) e ∙ ap (says_after t k terminal) v

  pub no_look : (n : ℕ) (v : Verdict) → looks_again t terminal v ≡ None → says_after t n terminal v ≡ v
  no_look n Yes h = refl
  no_look n No h = refl
  no_look n (GoesOn stack) h = cc

  pub none_left : (v : Verdict) → says_after t zero terminal v ≡ v
  none_left Yes = refl
  none_left No = refl
  none_left (GoesOn stack) = refl

-- one name by what its trial says
pub said_yes : (names : List Text) (name : Text) (v : Verdict) (rest : Option (List Text)) → is_yes v ≡ Some true → after (names ++ name ∷ []) rest ≡ after names (said_of name v rest)
said_yes names name Yes None h = refl
said_yes names name Yes (Some l) h = ap Some (append_assoc names (name ∷ []) l)
said_yes names name No rest h = cc
said_yes names name (GoesOn stack) rest h = cc

pub said_no : (names : List Text) (name : Text) (v : Verdict) (rest : Option (List Text)) → is_yes v ≡ Some false → after names rest ≡ after names (said_of name v rest)
said_no names name Yes rest h = cc
said_no names name No rest h = refl
said_no names name (GoesOn stack) rest h = cc

pub said_neither : (names : List Text) (name : Text) (v : Verdict) (rest : Option (List Text)) → is_yes v ≡ None → after names (said_of name v rest) ≡ None
said_neither names name Yes rest h = cc
said_neither names name No rest h = cc
said_neither names name (GoesOn stack) rest h = refl
