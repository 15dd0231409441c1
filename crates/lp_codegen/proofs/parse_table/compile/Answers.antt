use Rattle.std.proofs.Common.{Err, ap, inl, inr, refl, sym, ◌∙◌}
use Rattle.std.proofs.lemmas.Result.{err_from_is_err_and}
use Rattle.lp_notes.specs.Notes.{notes_of_module}
use Rattle.lp_tree.specs.ProgramTree.{items}
use Rattle.lp_write.specs.declared.rust.Options.{Options}
use Rattle.lp_codegen.proofs.parse_table.compile.Goals as goal

pub returns-in_err-bare : goal.returns-in_err-bare
returns-in_err-bare g c =
    let p = err_from_is_err_and c.from_residual.result c.from_residual.ensures.1 in inl (p.1 ∙ ap Err p.2, refl)

pub returns-in_err-node : goal.returns-in_err-node
returns-in_err-node g c =
    let p = err_from_is_err_and c.from_residual-in_err-node.result c.from_residual-in_err-node.ensures.1 in inl (p.1 ∙ ap Err p.2, refl)

pub returns : goal.returns
returns g c =
    let parts = c.in_ok-node.ensures.parts in
    inr (
      c.in_ok-node.node,
      parts ∙ c.in_ok-bare.ensures,
      c.in_ok-node.ensures.notes ∙ ap (notes_of_module c.options.result.comments c.args.grammar.now c.args.states.now) (sym parts)
          ∙ ap (λ (o : Options). notes_of_module o.comments c.args.grammar.now c.args.states.now (items c.in_ok-node.node)) c.options.ensures,
      rw c.as_str.ensures at c.print_node.ensures,
    )
