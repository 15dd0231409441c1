-- Terminals with a pattern, as the code has them.
use Rattle.lp_table.specs.TokenLines.{Known}
use Rattle.lp_table.specs.declared.tokens.Known.{Known as Held}

-- a terminal without the reference to its pattern
abbrev pub known_as : Held → Known
known_as k = (k.number, k.variant, k.pattern.now)
