use Rattle.std.proofs.Common.{◌≡◌, ◌∙◌, ◌||◌, true, false, sym, ap, arith, get_or, Some, slice_get}
use Rattle.std.specs.BTreeSet.{contains}
use Rattle.std.specs.Ordering.{is_eq}
use Rattle.std.proofs.lemmas.Bool.{not-true, not-false}
use Rattle.std.proofs.lemmas.List.Folds.{list_any_more}
use Rattle.std.proofs.lemmas.Option.{slice_get-get_or}
use Rattle.lp_repr.specs.declared.lr1.Token.{Token}
use Rattle.lp_repr.specs.declared.lr1.Token.TheVariants.{Terminal}
use Rattle.lp_tables.proofs.Once.{token_cmp, once_more, not_once, once}
use Rattle.lp_tables.proofs.Sets.{one_more}
use Rattle.lp_tables.proofs.reductions.stand_once.Goals as goal

pub returns-then-not-branch : goal.returns-then-not-branch
returns-then-not-branch c =
    let ts = c.args.tokens.now in
    let i = c.loop-token.token-index in
    let x = get_or ts i (Terminal 0) in
    let at : slice_get ts i ≡ Some x = slice_get-get_or ts i (Terminal 0) (omega arith) in
    let there : contains token_cmp c.loop-token.seen x ≡ true = not-false (contains token_cmp c.loop-token.seen x) (sym c.in_ok-insert.ensures.added ∙ c.if-not-branch.true) in
    not_once ts i x at (sym (c.loop-token.invariant.seen x) ∙ there)

pub loop-token-preserved : goal.loop-token-preserved
loop-token-preserved c =
    let ts = c.args.tokens.now in
    let i = c.loop-token.token-index in
    let x = get_or ts i (Terminal 0) in
    let at : slice_get ts i ≡ Some x = slice_get-get_or ts i (Terminal 0) (omega arith) in
    let new : contains token_cmp c.loop-token.seen x ≡ false = not-true (contains token_cmp c.loop-token.seen x) (sym c.in_ok-insert.ensures.added ∙ c.if-not-branch.false) in
    record {
      seen = λ q.
          one_more (contains token_cmp c.insert.new.self q) (is_eq (token_cmp x q)) (contains token_cmp c.loop-token.seen q) (c.in_ok-insert.ensures.updates.0 q)
          ∙ (ap (λ b. b || is_eq (token_cmp x q)) (c.loop-token.invariant.seen q) ∙ sym (list_any_more (λ (y : Token). is_eq (token_cmp y q)) ts i (Terminal 0) (omega arith)));
      once = once_more ts i x at (sym (c.loop-token.invariant.seen x) ∙ new) c.loop-token.invariant.once;
    }

pub returns : goal.returns
returns c = once c.args.tokens.now c.loop-token.token-index (omega arith) c.loop-token.invariant.once
