use Rattle.lp_emitted.proofs.Fitting.{emitted_entries_fit, emitted_fits, emitted_has_prefix, emitted_is_well_formed, emitted_reads_back}
use Rattle.lp_emitted.proofs.laws.emitted.Goals as goal

pub returns-clause-fits : goal.returns-clause-fits
returns-clause-fits c = emitted_fits

pub returns-clause-well_formed : goal.returns-clause-well_formed
returns-clause-well_formed c = emitted_is_well_formed

pub returns-clause-prefix : goal.returns-clause-prefix
returns-clause-prefix c = emitted_has_prefix

pub returns-clause-text : goal.returns-clause-text
returns-clause-text c = emitted_reads_back

pub returns-clause-entries : goal.returns-clause-entries
returns-clause-entries c = emitted_entries_fit
