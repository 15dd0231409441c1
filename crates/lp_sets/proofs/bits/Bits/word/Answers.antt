use Rattle.std.proofs.Common.{arith}
use Rattle.lp_sets.proofs.Words.{word_bit, word_value}
use Rattle.lp_sets.proofs.bits.Bits.word.Goals as goal

pub returns-in-None : goal.returns-in-None
returns-in-None c =
    let h = c.in-None.ensures.lookup in
    let at = rw c.deref.ensures.value at (h.4 (omega arith) 0) in
    record {
      bits = word_bit c.self.inside.words.items _ _ _ c.self.invariant.0 c.self.view_is at;
      value = word_value c.self.inside.words.items _ _ _ c.self.invariant.0 c.self.view_is at;
    }

pub returns-in-Some : goal.returns-in-Some
returns-in-Some c =
    let h = c.in-Some.ensures.lookup in
    let at = rw c.deref.ensures.value at (h.4 (omega arith) 0) in
    record {
      bits = word_bit c.self.inside.words.items _ _ _ c.self.invariant.0 c.self.view_is at;
      value = word_value c.self.inside.words.items _ _ _ c.self.invariant.0 c.self.view_is at;
    }
