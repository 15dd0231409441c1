-- What is emitted of a grammar agrees with the tables, whatever code is asked for.
use Rattle.std.proofs.Common.{List, refl}
use Rattle.lp_repr.specs.declared.lr1.StartStates.{StartStates}
use Rattle.lp_repr.specs.declared.repr.Grammar.{Grammar}
use Rattle.lp_repr.specs.declared.repr.LrCodeGeneration.{LrCodeGeneration}
use Rattle.lp_repr.specs.declared.repr.LrCodeGeneration.TheVariants.{RecursiveAscent, TableDriven, TestAll}
use Rattle.lp_write.specs.declared.rust.Options.{Options}
use Rattle.lp_agrees.specs.Emission.{EmissionAgrees}
use Rattle.lp_back_end_laws.specs.Filled.BackEndLaw.{Looked, RunsByTables}
use Rattle.lp_back_end_laws.proofs.Filled.Composition.{composition}
use Rattle.lp_back_end_laws.proofs.Filled.Emission.{tables_law}
use Rattle.lp_back_end_laws.proofs.Ascent.Telling.{ascent_law}

-- each kind of code obeys the law
pub code_law : (c : LrCodeGeneration) → RunsByTables c
code_law RecursiveAscent = ascent_law
code_law TableDriven = tables_law TableDriven tt
code_law TestAll = tables_law TestAll tt

pub emission_agrees : (g : Grammar) (states : List StartStates) (options : Options) → Looked g states → EmissionAgrees g states options
emission_agrees g states options looked = composition g.algorithm.codegen (code_law g.algorithm.codegen) g states options refl looked
