-- What an answer tells of the text of a grammar file.
use Rattle.std.specs.Prelude.{ℕ, List, Option, Some, None, IfSome}
use Rattle.lp_generated.specs.Generated.{grammar_text}
use Rattle.lp_lines.specs.File.{IsCutFile}
use Rattle.lp_plain.specs.Front.{HasNoGrammar, OfSource}
use Rattle.lp_reading.specs.Bytes.{IsPlainOf}
use Rattle.lp_syntax.specs.declared.plain.PlainGrammar.{PlainGrammar}
use Rattle.lp_prepared.specs.declared.command.Command.{Command}
use Rattle.lp_prepared.specs.declared.command.Command.TheVariants.{Emit, Run, Make}
use Rattle.lp_status.specs.declared.status.Status.{Status}
use Rattle.lp_status.specs.declared.status.Status.TheVariants.{Usage, Grammar, TooLong, ReadFault, Memory}

-- this holds of the text of a file, which stands before its first line `%%`
abbrev pub OfText : List ℕ → (List ℕ → Type 0) → Type 0
OfText bytes Holds = (text : List ℕ) × (tail : List ℕ) × IsCutFile bytes text tail × Holds text

-- a text spells this plain grammar
abbrev pub Spells : PlainGrammar → List ℕ → Type 0
Spells plain text = IsPlainOf text plain

-- this holds of the file of a command: of the bytes that were read of its source, or of those that `make` generates
abbrev pub OfFile : Option Command → Option (List ℕ) → (List ℕ → Type 0) → Type 0
OfFile None left Holds = ⊥
OfFile (Some (Emit options)) left Holds = OfSource left Holds
OfFile (Some (Run options)) left Holds = OfSource left Holds
OfFile (Some (Make levels)) left Holds = Holds (grammar_text levels)

-- what a status tells of a text: that it gives no grammar, for the cause at this place, or that it spells the plain
-- grammar that is answered
abbrev pub ToldOfText : Option PlainGrammar → Status → List ℕ → Type 0
ToldOfText answered (Grammar place) text = HasNoGrammar text place
ToldOfText answered _ text = IfSome answered (λ plain. Spells plain text)

-- what a status tells of the text of a command's file, where this was read
abbrev pub TellsText : Option Command → Option (List ℕ) → Option PlainGrammar → Status → Type 0
TellsText command left answered Usage = Unit {0}
TellsText command left answered TooLong = Unit {0}
TellsText command left answered ReadFault = Unit {0}
TellsText command left answered Memory = Unit {0}
TellsText command left answered status = OfFile command left (λ bytes. OfText bytes (ToldOfText answered status))
