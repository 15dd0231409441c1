use Rattle.std.proofs.Common.{inl, inr, refl, Ok, Err}
use Rattle.std.proofs.lemmas.Result.{err_from_is_err_and}
use Rattle.lp_codegen.proofs.generator.CodeGenerator.write_parse_mod.Goals as goal

pub returns-in_err-open_module : goal.returns-in_err-open_module
returns-in_err-open_module g c =
    let p = err_from_is_err_and c.from_residual.result c.from_residual.ensures.1 in
    inl (record {
      error = p.0;
      refused = p.1;
      opening = rw p.2 (record {
        appends = c.in_err-open_module.ensures.lines;
        same_reference = c.in_err-open_module.ensures.same_reference;
        kept = c.in_err-open_module.ensures.kept;
      });
    })

pub returns-in_err-run_body : goal.returns-in_err-run_body
returns-in_err-run_body g c =
    let p = err_from_is_err_and c.from_residual-in_err-run_body.result c.from_residual-in_err-run_body.ensures.1 in
    inr (record {
      opened = c.open_module.new.self;
      answer = Err p.0;
      after = c.run_body.new.generator;
      opening = record {
        appends = c.in_ok-open_module.ensures.lines;
        same_reference = c.in_ok-open_module.ensures.same_reference;
        kept = c.in_ok-open_module.ensures.kept;
      };
      body = rw p.2 c.in_err-run_body.ensures;
      closing = (p.1, refl);
    })

pub returns : goal.returns
returns g c =
    inr (record {
      opened = c.open_module.new.self;
      answer = Ok tt;
      after = c.run_body.new.generator;
      opening = record {
        appends = c.in_ok-open_module.ensures.lines;
        same_reference = c.in_ok-open_module.ensures.same_reference;
        kept = c.in_ok-open_module.ensures.kept;
      };
      body = c.in_ok-run_body.ensures;
      closing = record {
        appends = c.close_module.ensures.lines;
        same_reference = c.close_module.ensures.same_reference;
        kept = c.close_module.ensures.kept;
      };
    })
