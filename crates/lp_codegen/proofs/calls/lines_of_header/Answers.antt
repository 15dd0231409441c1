use Rattle.std.proofs.Common.{◌≡◌, IfOk, subst}
use Rattle.lp_write.specs.Headers.{Header, header_lines}
use Rattle.lp_codegen.specs.Generators.{visibility_in}
use Rattle.lp_codegen.proofs.calls.lines_of_header.Goals as goal

pub returns : goal.returns
returns c =
    subst
    (λ (h : Header). IfOk c.header_lines.result (λ v. v.items ≡ header_lines (visibility_in c.args.grammar.now c.args.start.now) h))
    c.in_ok-texts.ensures (rw c.visibility_or.ensures at c.header_lines.ensures)
