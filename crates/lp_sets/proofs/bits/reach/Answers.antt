use Rattle.std.proofs.Common.{◌∙◌, [], ◌∷◌, lit<, arith, length-append}
use Rattle.lp_sets.proofs.Words.{spelled-push_zero, AreWords-push}
use Rattle.lp_sets.proofs.bits.reach.Goals as goal

pub loop-words-preserved : goal.loop-words-preserved
loop-words-preserved c =
    let words = c.loop-words.words.items in
    rw (c.in_ok-push.ensures.items) ((AreWords-push words 0 c.loop-words.invariant.0.0 (lit< tt), omega (arith, length-append words (0 ∷ []))), spelled-push_zero words ∙ c.loop-words.invariant.1)
