-- A back end that obeys its law: what is emitted with it agrees with the tables.
use Rattle.std.proofs.Common.{ap, subst}
use Rattle.lp_repr.specs.declared.repr.LrCodeGeneration.{LrCodeGeneration}
use Rattle.lp_view.specs.Weights.{weight}
use Rattle.lp_agreement.proofs.Composed.Agreement.{agrees_entered, others}
use Rattle.lp_agreement.proofs.Composed.Apart.{ordered_apart}
use Rattle.lp_agreement.proofs.Composed.Counting.{read_weighs}
use Rattle.lp_agreement.proofs.Composed.Entering.{EntersItems, read_enters_items}
use Rattle.lp_back_end_laws.specs.Filled.BackEndLaw.{EmissionsAgree, RunsByTables, items_of}

pub composition : (c : LrCodeGeneration) → RunsByTables c → EmissionsAgree c
composition c law g states options is looked may built read is_built fits printed i names list at has =
    let start = law g states built is looked may is_built fits i names list at has in
    let first = others g (ordered_apart g looked.memory.ordered) i names at in
    let entered = read_enters_items g states options built read is_built printed i names list at has first in
    agrees_entered g built read names.0.0 list (items_of c g list names)
    (subst (EntersItems g states options built read is_built printed i names list at has first) (ap (λ (d : LrCodeGeneration). items_of d g list names) is) entered) start.counts
    (start.told (weight read) (read_weighs options built read printed))
