use Rattle.std.proofs.Common.{◌∙◌, sym}
use Rattle.std.proofs.lemmas.Bool.{false≢true}
use Rattle.lp_tables.proofs.edges.are_edges.Goals as goal

pub returns-then-all_have_edges : goal.returns-then-all_have_edges
returns-then-all_have_edges c =
    (λ yes n. (λ some. c.all_follow.ensures.0 yes n some, λ member. c.all_have_edges.ensures.0 c.if-all_have_edges.true n member), λ h. c.all_follow.ensures.1 (λ n some. (h n).0 some))

pub returns-else-all_have_edges : goal.returns-else-all_have_edges
returns-else-all_have_edges c =
    (λ yes. absurd (false≢true (sym c.if-all_have_edges.false ∙ yes)), λ h. c.all_have_edges.ensures.1 (λ n member. (h n).1 member))
