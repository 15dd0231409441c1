use Rattle.std.proofs.Common.{ℕ, ◌+◌, ◌<◌, ◌≤◌, List, length, slice_index, ⊎_elim, ap, ◌∙◌, arith}
use Rattle.std.proofs.lemmas.Bool.{cases_lt}
use Rattle.lp_states.proofs.RangeLemmas.{past_range, range_of}
use Rattle.lp_states.proofs.rules.Rules.productions_of.Goals as goal

pub returns-in-None : goal.returns-in-None
returns-in-None c =
    let self = c.args.self.now in
    let n = c.args.nonterminal in
    let big : 18446744073709551616 ≤ n + 1 = ⊎_elim (λ (b : n + 1 < 18446744073709551616). absurd (c.in-None.ensures b)) (λ (b : 18446744073709551616 ≤ n + 1). b) (cases_lt (n + 1) 18446744073709551616) in
    let few : length self.firsts.items ≤ n + 1 = omega (arith, self.firsts.ok.0) in
    λ p. (λ h. absurd (omega (arith, h.1)), λ h. absurd (past_range self.firsts.items self.all.items n p self.ranges few h))

pub returns-in-Some : goal.returns-in-Some
returns-in-Some c =
    let self = c.args.self.now in
    let n = c.args.nonterminal in
    let firsts = ap (λ (xs : List ℕ). slice_index xs n) c.as_slice-firsts.ensures.value in
    let next = ap (λ (xs : List ℕ). slice_index xs c.in-Some.next) c.as_slice-firsts.ensures.value in
    range_of self.all.items self.firsts.items n c.first_at.result c.first_at-in-Some.result self.ranges (c.first_at.ensures ∙ firsts) (c.first_at-in-Some.ensures ∙ next ∙ ap (λ (m : ℕ). slice_index self.firsts.items m) c.in-Some.ensures.1)
