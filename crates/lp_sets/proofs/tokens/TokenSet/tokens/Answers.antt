use Rattle.std.proofs.Common.{◌≡◌, map, take, ap, ◌∙◌, arith}
use Rattle.std.proofs.lemmas.List.{take_all}
use Rattle.lp_repr.specs.declared.lr1.Token.TheVariants.{Terminal}
use Rattle.lp_sets.proofs.TokenLists.{lists_open, lists_ended}
use Rattle.lp_sets.proofs.tokens.TokenSet.tokens.Goals as goal
use Rattle.lp_sets.proofs.tokens.TokenSet.tokens.Goals.{then-self+in_ok-push-2, else-self}

pub returns : goal.returns
returns c =
    let s = c.args.self.now in
    let xs = c.in_ok-numbers.numbers.items in
    let ordered = c.in_ok-numbers.ensures.ordered in
    let exact = c.in_ok-numbers.ensures.exact in
    let all : take c.loop-number.number-index c.deref-number-items.result.now ≡ xs = take_all _ _ (omega arith) ∙ c.deref-number-items.ensures.value in
    let e : c.loop-number.tokens.items ≡ map Terminal xs = c.loop-number.invariant ∙ ap (map Terminal) all in
    elim c.if-self.branch [ then-self+in_ok-push-2 w ↦ rw (w.tokens-is, w.in_ok-push-2.ensures.items, e) (lists_ended s xs ordered exact w.if-self.true) | else-self w ↦ rw (w.tokens-is, e) (lists_open s xs ordered exact w.if-self.false) ]
