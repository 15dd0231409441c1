-- The items of the parts, seen through their bytes.
use Rattle.std.proofs.Common.{refl, ◌∙◌}
use Rattle.lp_lines.specs.TokenLines.{item_of}
use Rattle.lp_lines.proofs.Each.{all_some_fused}
use Rattle.lp_lines.proofs.vocabulary.Vocabulary.items.Goals as goal

pub returns : goal.returns
returns c =
    c.in_ok-list.ensures ∙ all_some_fused (item_of c.args.self.now) (λ p. p.now) c.args.parts.now _ refl
