-- What the answer of a run tells, by what was entered.
use Rattle.std.proofs.Common.{◌≡◌, ℕ, Bool, true, false, List, Option, Some, None, refl, sym, ap, ◌∙◌, subst}
use Rattle.std.specs.Prelude.{All, IfSome, length, ◌==◌}
use Rattle.std.proofs.lemmas.Bool.{ne_eqb, eq-eqb}
use Rattle.lp_repr.specs.declared.values.RunItem.{RunItem}
use Rattle.lp_driver.specs.Values.{Text}
use Rattle.lp_tree.specs.declared.tree.Program.{Program}
use Rattle.lp_view.specs.PartLists.{Form}
use Rattle.lp_run.specs.declared.enter.Entered.{Entered}
use Rattle.lp_run.specs.Module.{Module, module_of}
use Rattle.lp_run.specs.Entered.{EntersSome, module_in, parameter_count}
use Rattle.lp_run.specs.ProgramRun.{Finish, NoStart, ParameterCount, module_run}
use Rattle.lp_run.specs.RunTold.{IsCounted, RunsModule, RunsCounted, RunsItems}

module _ (items : List RunItem) (params : List Text) (failing : List ℕ) (budget : ℕ) where
  -- how the code that was entered runs
  abbrev code_run : Entered → Finish
  code_run e = module_run (module_of e) e.code.tables.items items params failing budget

  module_runs : (e : Entered) (m : Module) → All IsCounted e.code.tables.items → module_of e ≡ m → RunsModule m items params failing budget (code_run e)
  module_runs e m counts h =
      (e.code.tables.items, ap (λ (x : Module). x.tables) h, counts, ap (λ (x : Module). module_run x e.code.tables.items items params failing budget) h)

  counted : (b : Bool) (m : Module) (f : Finish) → b ≡ true → RunsModule m items params failing budget f → RunsCounted b m items params failing budget f
  counted true m f e h = h
  counted false m f e h = let gone : ⊥ = cc in absurd gone

  miscounted : (b : Bool) (m : Module) → b ≡ false → RunsCounted b m items params failing budget ParameterCount
  miscounted true m e = let gone : ⊥ = cc in absurd gone
  miscounted false m e = refl

  -- the code runs
  pub told_run : (program : Program) (o : Option Form) (e : Entered) (r : Option Finish) → EntersSome program o e → All IsCounted e.code.tables.items → e.params ≡ length params → IfSome r (λ told. told ≡ code_run e)
      → IfSome r (λ told. RunsItems program o items params failing budget told)
  told_run program o e None enters counts same h = tt
  told_run program None e (Some told) enters counts same h = absurd enters
  told_run program (Some form) e (Some told) enters counts same h =
      let P : Finish → Type 0 = λ f. RunsItems program (Some form) items params failing budget f in
      subst P (sym h) (counted (parameter_count program form == length params) (module_in program form) (code_run e) (eq-eqb (parameter_count program form) (length params) (sym enters.params ∙ same)) (module_runs e (module_in program form) counts enters.code))

  -- there are more or fewer values
  pub told_count : (program : Program) (o : Option Form) (e : Entered) → EntersSome program o e → (e.params ≡ length params → ⊥) → RunsItems program o items params failing budget ParameterCount
  told_count program None e enters differ = absurd enters
  told_count program (Some form) e enters differ =
      miscounted (parameter_count program form == length params) (module_in program form) (ne_eqb (parameter_count program form) (length params) (λ same. differ (enters.params ∙ same)))

  -- no module has the name
  pub told_none : (program : Program) (o : Option Form) → o ≡ None → RunsItems program o items params failing budget NoStart
  told_none program None e = refl
  told_none program (Some form) e = let gone : ⊥ = cc in absurd gone
