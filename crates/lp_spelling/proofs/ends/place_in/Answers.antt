use Rattle.std.proofs.Common.{List, ℕ, Bool, arith, sym, ◌∙◌, nat_eq}
use Rattle.std.specs.List.{starts_with}
use Rattle.lp_spelling.proofs.HoleSteps.{first_more, first_here}
use Rattle.lp_spelling.proofs.ends.place_in.Goals as goal

pub returns-then-stands_at-clause-value : goal.returns-then-stands_at-clause-value
returns-then-stands_at-clause-value c =
    let sought = c.args.sought.now in
    let test : List ℕ → Bool = λ t. starts_with nat_eq t sought in
    let e = first_here test c.args.text.now c.loop-i.i (omega arith) (sym c.stands_at.ensures ∙ c.if-stands_at.true) in
    omega (arith, e, c.loop-i.invariant)

pub loop-i-preserved : goal.loop-i-preserved
loop-i-preserved c =
    let sought = c.args.sought.now in
    let test : List ℕ → Bool = λ t. starts_with nat_eq t sought in
    let e = first_more test c.args.text.now c.loop-i.i (omega arith) (sym c.stands_at.ensures ∙ c.if-stands_at.false) in
    omega (arith, e, c.loop-i.invariant)
