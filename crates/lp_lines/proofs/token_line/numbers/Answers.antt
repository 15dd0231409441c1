-- The numbers of the parts are those of the texts between the commas.
use Rattle.std.proofs.Common.{ap, map, ◌∙◌}
use Rattle.lp_lines.specs.Scan.{number_of}
use Rattle.lp_lines.proofs.Each.{all_some_fused}
use Rattle.lp_lines.proofs.token_line.numbers.Goals as goal

pub returns : goal.returns
returns c =
    c.in_ok-list.ensures ∙ all_some_fused number_of (λ p. p.now) c.as_slice.result.now _ (ap (map (λ p. p.now)) c.as_slice.ensures.value ∙ c.in_ok-parts.ensures)
