use Rattle.std.proofs.Common.{◌∙◌, ap, map}
use Rattle.lp_valid.specs.ProductionKeys.{key_of}
use Rattle.lp_valid.proofs.SymbolSets.{keys_apart}
use Rattle.lp_valid.proofs.declared.first_repeat.Goals as goal

pub returns : goal.returns
returns c = keys_apart c.deref.result.now c.args.productions.now c.failing_repeat.result (ap (map key_of) c.deref.ensures.value ∙ c.in_ok-keys.ensures) c.failing_repeat.ensures
