-- One cell of the world is changed.
use Rattle.std.proofs.Common.{◌≡◌, ℕ, Bool, true, false, List, Option, Some, None, sym, ap, ◌∙◌, map}
use Rattle.std.specs.Prelude.{slice_get, slice_set, MatchOption, MatchBool}
use Rattle.std.specs.Option.{option_map, option_and_then}
use Rattle.std.proofs.lemmas.List.{map-set}
use Rattle.std.proofs.lemmas.Option.{slice_get-map}
use Rattle.lp_core.specs.declared.cell.Cell.{Cell}
use Rattle.lp_core.specs.declared.world.Done.{Done}
use Rattle.lp_core.specs.Val.{Val}
use Rattle.lp_core.specs.Store.{Store, Held, held}
use Rattle.lp_core.specs.Effect.{Gave, effect, gave, did, unit}
use Rattle.lp_core.specs.CellMeaning.{Change, changes}
use Rattle.lp_core.specs.OpMeaning.{changed, on_cell}

abbrev pub over : List Val → ℕ → List Cell → Store
over env taken cells = record { env = env; cells = map held cells; taken = taken }

module _ (env : List Val) (taken n : ℕ) (cells : List Cell) where
  there : (c : Cell) (change : Held → Change) → slice_get cells n ≡ Some c → option_and_then change (slice_get (map held cells) n) ≡ change (held c)
  there c change is = ap (option_and_then change) (slice_get-map held cells n ∙ ap (option_map held) is)

  written : (new : Cell) (v : Val) → Gave v (over env taken (slice_set cells n new)) ≡ changed n (over env taken cells) (Some (v, held new))
  written new v = ap (λ l. Gave v (record { env = env; cells = l; taken = taken })) (map-set held cells n new)

  pub cell_changed : (c new : Cell) (change : Held → Change) (d : Done) (o : Option Val) → slice_get cells n ≡ Some c → ((s : Store) → effect d s ≡ gave o s) → MatchOption o (change (held c) ≡ None) (λ v. change (held c) ≡ Some (v, held new)) → effect d (over env taken (slice_set cells n new)) ≡ on_cell (over env taken cells) change n
  cell_changed c new change d None is given h =
      given (over env taken (slice_set cells n new)) ∙ ap (changed n (over env taken cells)) (sym (there c change is ∙ h))
  cell_changed c new change d (Some v) is given h =
      given (over env taken (slice_set cells n new)) ∙ written new v ∙ ap (changed n (over env taken cells)) (sym (there c change is ∙ h))

  pub cell_did : (c new : Cell) (go : Held → Option Held) (d : Done) (b : Bool) → slice_get cells n ≡ Some c → ((s : Store) → effect d s ≡ did b s) → MatchBool b (go (held c) ≡ Some (held new)) (go (held c) ≡ None) → effect d (over env taken (slice_set cells n new)) ≡ on_cell (over env taken cells) (λ x. changes (go x)) n
  cell_did c new go d true is given h =
      given (over env taken (slice_set cells n new)) ∙ written new unit ∙ ap (changed n (over env taken cells)) (sym (there c (λ x. changes (go x)) is ∙ ap changes h))
  cell_did c new go d false is given h =
      given (over env taken (slice_set cells n new)) ∙ ap (changed n (over env taken cells)) (sym (there c (λ x. changes (go x)) is ∙ ap changes h))
