-- What stands behind some texts of a program, and methods that hand one value on.
use Rattle.std.proofs.Common.{◌≡◌, ℕ, suc, ◌+◌, List, [], ◌∷◌, ◌++◌, length, Some, refl, ap, ◌∙◌}
use Rattle.std.specs.Prelude.{slice_get}
use Rattle.lp_core.specs.Effect.{set_value}
use Rattle.lp_core.specs.Store.{Program}
use Rattle.lp_core.specs.Val.{Val}
use Rattle.lp_driver.specs.Values.{Text}
use Rattle.lp_maker.specs.Constructs.{called}
use Rattle.lp_bodies.specs.Actions.{takes}
use Rattle.lp_bodies.specs.Source.{function}
use Rattle.lp_code_laws.specs.Ends.Ends.{Moment, Enter, Giving, EndsIn}
use Rattle.lp_code_laws.proofs.Ends.Calls.{enter, arguments_done}
use Rattle.lp_code_laws.proofs.Ends.Rules.{argument, call}
use Rattle.lp_code_laws.proofs.Ends.Values.{take}
use Rattle.lp_question_laws.proofs.Gotos.LinkMaps.{get_more}
use Rattle.lp_question_laws.proofs.Tokens.Forms.{AreTexts}
use Rattle.lp_question_laws.proofs.Tables.Entries.{get_behind}

-- texts behind others keep their numbers, whatever follows
pub texts_behind : (texts : List Text) (xs fs ts us : List (List ℕ)) → texts ≡ ((xs ++ fs) ++ ts) ++ us → AreTexts texts (length xs) fs
texts_behind texts xs fs ts us is j f at =
    ap (λ (l : List Text). slice_get l (length xs + j)) is
    ∙ get_more ((xs ++ fs) ++ ts) us (length xs + j) f (get_more (xs ++ fs) ts (length xs + j) f (get_behind xs fs j ∙ at))

-- a method that hands its argument on
pub handed_on_one : (p : Program) (f k j : ℕ) (a v : Val) (m : Moment) → slice_get p.functions f ≡ Some (function 1 0 (called (takes 1) (Some k))) → set_value a ≡ Some a
    → ((n : Moment) → EndsIn p (Enter k (a ∷ [])) n j (Giving v n)) → EndsIn p (Enter f (a ∷ [])) m (suc j) (Giving v m)
handed_on_one p f k j a v m is set_a h = enter is refl (call (argument (take refl set_a) (arguments_done (h _)))) refl
