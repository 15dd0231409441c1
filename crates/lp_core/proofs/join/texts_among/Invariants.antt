use Rattle.std.proofs.Common.{◌≡◌, [], drop}
use Rattle.lp_core.specs.Store.{program_of}
use Rattle.lp_core.specs.JoinMeaning.{texts_among}
use Rattle.lp_core.proofs.join.texts_among.Given as goal

abbrev pub invariant-loop-v : goal.invariant-loop-v
invariant-loop-v l =
    texts_among (program_of l.setting) l.texts.items (drop l.v-index l.values) ≡ texts_among (program_of l.setting) [] l.values
