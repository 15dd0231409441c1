use Rattle.std.proofs.Common.{get_or, arith, rules}
use Rattle.std.proofs.lemmas.List.{get_or_default}
use Rattle.std.proofs.lemmas.Result.{IfOk-weaker}
use Rattle.lp_form.specs.declared.part.Part.TheVariants as part
use Rattle.lp_program.proofs.Looking.{member_at}
use Rattle.lp_program.proofs.Picking.{chosen_one, chosen_picked}
use Rattle.lp_program.proofs.Begun.{look_same}
use Rattle.lp_program.proofs.read.reader.Reader.choose.Goals as goal

pub returns-then-parts-eq1-clause-member : goal.returns-then-parts-eq1-clause-member
returns-then-parts-eq1-clause-member c =
    let parts = c.members-parts.result.now in
    member_at c.args.class parts 0 (get_or parts 0 part.Program) c.members-parts.ensures (omega arith) (search (rules, get_or_default))

pub returns-then-parts-eq1-clause-exact : goal.returns-then-parts-eq1-clause-exact
returns-then-parts-eq1-clause-exact c = λ n m text like. chosen_one c.args.depth c.args.self.now.prefix.now c.args.class text c.members-parts.result.now _ c.members-parts.ensures (omega arith)

pub returns-clause-exact : goal.returns-clause-exact
returns-clause-exact c =
    let parts = c.members-parts.result.now in
    IfOk-weaker c.pick.result _ _
    (λ r x n m text like. chosen_picked c.args.depth c.args.self.now.prefix.now c.args.class text parts r c.members-parts.ensures (λ h. absurd (omega (arith, h))) (x n m text like)) c.pick.ensures.exact

pub returns-then-parts-eq1-clause-begun : goal.returns-then-parts-eq1-clause-begun
returns-then-parts-eq1-clause-begun c = look_same c.args.self.now.looked c.args.self.now.looked c.args.self.now.cursor _ (omega arith)
