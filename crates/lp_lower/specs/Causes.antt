-- When a plain grammar is lowered, and when it is refused.
use Rattle.std.specs.Prelude.{◌≡◌, None, Some}
use Rattle.lp_lower.specs.Refusals.{unknown_name, inline_order, duplicate}
use Rattle.lp_lower.specs.RightSides.{too_many}
use Rattle.lp_lower.specs.declared.lowering.LowerFault.{LowerFault}
use Rattle.lp_lower.specs.declared.lowering.LowerFault.TheVariants as fault
use Rattle.lp_syntax.specs.declared.plain.PlainGrammar.{PlainGrammar}

-- every symbol is a rule or a terminal
abbrev pub IsNamed : PlainGrammar → Type 0
IsNamed g = unknown_name g ≡ None

-- and each inline rule uses inline rules above it
abbrev pub IsOrdered : PlainGrammar → Type 0
IsOrdered g = IsNamed g × (inline_order g ≡ None)

-- and nothing stands twice
abbrev pub IsDistinct : PlainGrammar → Type 0
IsDistinct g = IsOrdered g × (duplicate g ≡ None)

-- and the expanded rules are not too many
abbrev pub IsAccepted : PlainGrammar → Type 0
IsAccepted g = IsDistinct g × (too_many g ≡ None)

-- the cause of a refusal: each is looked for in the whole grammar where the causes before it are not there, and told at its least place
abbrev pub IsCause : PlainGrammar → LowerFault → Type 0
IsCause g (fault.UnknownName place) = unknown_name g ≡ Some place
IsCause g (fault.InlineOrder place) = IsNamed g × (inline_order g ≡ Some place)
IsCause g (fault.Duplicate place) = IsOrdered g × (duplicate g ≡ Some place)
IsCause g (fault.TooManyProductions place) = IsDistinct g × (too_many g ≡ Some place)
IsCause g fault.Memory = Unit {0}
