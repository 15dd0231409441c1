-- Both back ends obey the law.
use Rattle.lp_repr.specs.declared.repr.LrCodeGeneration.TheVariants.{RecursiveAscent, TableDriven}
use Rattle.std.specs.Prelude.{◌≡◌}
use Rattle.lp_ascent.specs.BuiltAscent.{built_ascent_at}
use Rattle.lp_table.specs.BuiltTable.{built_table_at}
use Rattle.lp_back_end_laws.specs.Filled.BackEndLaw.{IsLawful}
use Rattle.lp_back_end_laws.proofs.Ascent.Emission.{code_law}

pub tables_lawful : IsLawful (λ grammar states start parts. parts ≡ built_table_at grammar states start) TableDriven
tables_lawful = record { makes = λ g states start lines is. is; runs = code_law TableDriven }

pub ascent_lawful : IsLawful (λ grammar states start parts. parts ≡ built_ascent_at grammar states start) RecursiveAscent
ascent_lawful = record { makes = λ g states start lines is. is; runs = code_law RecursiveAscent }
