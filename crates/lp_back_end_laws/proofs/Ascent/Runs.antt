-- A program that runs the module of recursive ascent of a start.
use Rattle.std.specs.Prelude.{◌≡◌, ℕ, List, map}
use Rattle.lp_repr.specs.declared.lr1.Lr1State.{Lr1State}
use Rattle.lp_repr.specs.declared.repr.Grammar.{Grammar}
use Rattle.lp_core.specs.Store.{Program}
use Rattle.lp_maker.specs.Making.{entries_of}
use Rattle.lp_table.specs.Starts.{Start}
use Rattle.lp_view.specs.PartLists.{Form}
use Rattle.lp_run.specs.Entered.{module_made}
use Rattle.lp_run.specs.Module.{Module}
use Rattle.lp_agreement.proofs.Composed.AscentModules.{ascent_form}

-- what is made of the items of a start's module
abbrev pub ascent_module : List ℕ → Form → Grammar → List Lr1State → Start → Module
ascent_module prefix program g states st = module_made prefix program (ascent_form g states st)

-- a program has the functions, tables and texts of the module
pub record RunsAscent (prefix : List ℕ) (program : Form) (g : Grammar) (states : List Lr1State) (st : Start) (p : Program) : Type 0 where
  pub functions : p.functions ≡ (ascent_module prefix program g states st).functions
  pub tables : map entries_of p.tables ≡ (ascent_module prefix program g states st).tables
  pub texts : p.texts ≡ (ascent_module prefix program g states st).texts
  pub located : p.located ≡ (ascent_module prefix program g states st).located
