use Rattle.std.proofs.lemmas.Result.{on_ok_weaker}
use Rattle.std.proofs.lemmas.Slice.Zip.{AllZip-map}
use Rattle.lp_repr.specs.Shown.{parameter_text}
use Rattle.lp_write.specs.Headers.{header_of}
use Rattle.lp_write.proofs.Adding.{grammar-added}
use Rattle.lp_write.proofs.headers.push_grammar.Goals as goal

pub returns : goal.returns
returns c =
    let types = c.in_ok-push_shown.ensures in
    let clauses = c.in_ok-push_shown-2.ensures in
    on_ok_weaker c.push_parameters.result
    (λ parameters. record {
      clauses = clauses.0;
      parameters = parameters.0;
      of_clauses = rw c.as_slice-2.ensures at clauses.1;
      of_parameters = rw c.as_slice-3.ensures at parameters.1;
      added = grammar-added (header_of c.args.texts.now) _ _ _ types.0 _ clauses.0 parameters.0 types.2 clauses.2 parameters.2
          (AllZip-map parameter_text _ _ (rw c.as_slice.ensures at types.1));
    }) c.push_parameters.ensures
