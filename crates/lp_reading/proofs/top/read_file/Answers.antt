use Rattle.std.proofs.Common.{refl, sym, ◌∙◌}
use Rattle.lp_types.specs.Left.{left}
use Rattle.lp_types.specs.Reading.{Read}
use Rattle.lp_reading.specs.Grammars.{grammar_tree}
use Rattle.lp_reading.specs.Tops.{top_by, File}
use Rattle.lp_types.proofs.Steps.{no_memory, part_fails, read_then}
use Rattle.lp_reading.proofs.top.read_file.Goals as goal

pub returns-in_err-prefix : goal.returns-in_err-prefix
returns-in_err-prefix c = no_memory _ _ _ _ c.from_residual.ensures.1

pub returns-in_err-found : goal.returns-in_err-found
unfolding top_by
returns-in_err-found c = part_fails _ _ _ _ _ _ _ c.in_err-found.ensures.file c.from_residual-in_err-found.ensures.1 refl

pub returns : goal.returns
unfolding top_by
returns c =
    let found = c.in_ok-found.ensures in
    let prefix = found.prefix ∙ c.in_ok-prefix.ensures in
    read_then _ _ _ _ _ found.file (λ i. Read (File (sym prefix i) (sym found.lalr i) (grammar_tree c.in_ok-found.found)) (left c.grammar.new.reader))
