use Rattle.std.proofs.Common.{◌∙◌, ap, bit_or}
use Rattle.std.proofs.lemmas.Result.{on_ok_weaker}
use Rattle.lp_sets.proofs.Words.{bit_as_word}
use Rattle.lp_sets.proofs.bits.Bits.insert.Goals as goal

pub returns-clause-added : goal.returns-clause-added
returns-clause-added c =
    on_ok_weaker c.add_word.result (λ e. e ∙ ap (bit_or c.args.self.now) (bit_as_word c.args.number)) c.add_word.ensures.added
