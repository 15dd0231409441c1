use Rattle.std.proofs.Common.{◌≡◌, ◌+◌, length, true, not, vec_len}
use Rattle.std.specs.List.{count_by}
use Rattle.lp_tables.specs.Walk.{is_opened}
use Rattle.lp_tables.proofs.Walks.{Walks}
use Rattle.lp_tables.proofs.opened.Opened.close.Given as goal

abbrev pub invariant-loop-nonterminal : goal.invariant-loop-nonterminal
invariant-loop-nonterminal l = record {
  size : length l.self.opened.items ≡ length l.rules.firsts.items;
  walks : Walks l.rules.all.items (λ n. is_opened l.initial.self n ≡ true) l.self;
}

abbrev pub decreases-loop-nonterminal : goal.decreases-loop-nonterminal
decreases-loop-nonterminal l = count_by not l.self.opened.items + vec_len l.self.work
