use Rattle.lp_starts.proofs.tables.table_of.Goals as goal

pub returns-in-Ok-clause-valid : goal.returns-in-Ok-clause-valid
returns-in-Ok-clause-valid c = c.in-Ok.ensures.valid c.requires.valid c.args.name.now c.requires.name
