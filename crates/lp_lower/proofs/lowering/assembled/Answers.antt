use Rattle.std.proofs.Common.{refl, ap}
use Rattle.lp_lower.specs.declared.frame.Frame.{Frame}
use Rattle.lp_lower.proofs.lowering.assembled.Goals as goal

pub returns : goal.returns
returns c =
    let kept = c.in_ok-kept.ensures in
    record {
      prefix = c.in_ok-clone.ensures.cases;
      algorithm = refl;
      uses_error_recovery = ap (λ (f : Frame). f.uses_error) c.requires.framed;
      start_nonterminals = c.in_ok-start_nonterminals.ensures;
      uses = kept.uses;
      type_parameters = kept.type_parameters;
      parameters = kept.parameters;
      where_clauses = kept.where_clauses;
      intern_token = refl;
      actions = c.in_ok-action_fn_defns.ensures;
      terminals = c.in_ok-all.ensures;
      nonterminals = c.in_ok-nonterminals.ensures;
      conversions = c.in_ok-conversions.ensures;
      types = c.in_ok-types.ensures;
      attributes = kept.attributes;
    }
