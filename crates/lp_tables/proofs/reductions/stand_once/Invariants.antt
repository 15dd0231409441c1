use Rattle.std.proofs.Common.{◌≡◌, take}
use Rattle.std.specs.BTreeSet.{contains}
use Rattle.std.specs.List.{list_any}
use Rattle.std.specs.Ordering.{is_eq}
use Rattle.lp_repr.specs.declared.lr1.Token.{Token}
use Rattle.lp_tables.proofs.Once.{token_cmp, OnceBelow}
use Rattle.lp_tables.proofs.reductions.stand_once.Given as goal

abbrev pub invariant-loop-token : goal.invariant-loop-token
invariant-loop-token l = record {
  seen : (q : Token) → contains token_cmp l.seen q ≡ list_any (λ y. is_eq (token_cmp y q)) (take l.token-index l.tokens);
  once : OnceBelow l.tokens l.token-index;
}
