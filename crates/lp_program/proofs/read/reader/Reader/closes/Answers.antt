use Rattle.std.proofs.Common.{◌≡◌, ℕ, List, codes, arith, sym, subst}
use Rattle.std.specs.Bool.{Decides}
use Rattle.lp_program.proofs.Nearby.{front_same}
use Rattle.lp_program.proofs.Begun.{look_next}
use Rattle.lp_program.proofs.read.reader.Reader.closes.Goals as goal

pub returns-clause-exact : goal.returns-clause-exact
returns-clause-exact c = λ n m text like.
    let same = front_same n c.args.self.now.cursor text (omega (arith, c.number.ensures, c.look_at.ensures.at, m)) like in
    subst (λ (x : List ℕ). Decides c.is_close_first.result (x ≡ codes "}")) (sym same) c.is_close_first.ensures

pub returns-clause-begun : goal.returns-clause-begun
returns-clause-begun c = look_next c.args.self.now.looked _ c.args.self.now.cursor (λ lt. omega (arith, c.look_at.ensures.new_is lt, c.number.ensures))
