-- What the source of a grammar file gives, and why it gives none.
use Rattle.std.specs.Prelude.{◌≡◌, ◌⊎◌, ℕ, ◌<◌, ◌≤◌, List, length, Option, Some}
use Rattle.lp_lines.specs.File.{IsCutFile}
use Rattle.lp_lower.specs.Causes.{IsAccepted, IsCause}
use Rattle.lp_lower.specs.Lowering.{IsLowering}
use Rattle.lp_lower.specs.declared.lowering.LowerFault.{LowerFault}
use Rattle.lp_lower.specs.declared.lowering.LowerFault.TheVariants as lower
use Rattle.lp_reading.specs.Bytes.{IsPlainOf, HasNoPlain}
use Rattle.lp_reading.specs.declared.bytes.BytesFault.{BytesFault}
use Rattle.lp_reading.specs.declared.bytes.BytesFault.TheVariants as spell
use Rattle.lp_repr.specs.declared.repr.Grammar.{Grammar}
use Rattle.lp_starts.specs.Tables.{AreTablesOf, HasNoTables}
use Rattle.lp_starts.specs.declared.tables.TablesFault.{TablesFault}
use Rattle.lp_starts.specs.declared.tables.TablesFault.TheVariants as none
use Rattle.lp_syntax.specs.declared.plain.PlainGrammar.{PlainGrammar}
use Rattle.lp_write.specs.Sinks.{Rose}
use Rattle.lp_plain.specs.declared.file.Front.{Front}
use Rattle.lp_plain.specs.declared.file.FrontFault.{FrontFault}
use Rattle.lp_plain.specs.declared.file.FrontFault.TheVariants as front
use Rattle.lp_plain.specs.declared.input.ReadError.{ReadError}
use Rattle.lp_plain.specs.declared.input.ReadError.TheVariants as read

-- more bytes were left than are read, where the source tells them
abbrev pub IsTooLong : Option (List ℕ) → Type 0
IsTooLong left = (bytes : List ℕ) → left ≡ Some bytes → 16777216 < length bytes

-- the bytes that were read, no more than are read: those that were left, where the source tells them
abbrev pub WereRead : Option (List ℕ) → List ℕ → Type 0
WereRead left bytes = (length bytes ≤ 16777216) × ((told : List ℕ) → left ≡ Some told → bytes ≡ told)

-- bytes were read of which this holds
abbrev pub OfSource : Option (List ℕ) → (List ℕ → Type 0) → Type 0
OfSource left Holds = (bytes : List ℕ) × WereRead left bytes × Holds bytes

-- a plain grammar that is not refused, with its lowering
abbrev pub LowersTo : PlainGrammar → Grammar → Type 0
LowersTo plain g = IsAccepted plain × IsLowering plain g

-- a text spells a plain grammar that is not refused, and this is its lowering
abbrev pub IsGrammarOf : List ℕ → PlainGrammar → Grammar → Type 0
IsGrammarOf text plain g = IsPlainOf text plain × LowersTo plain g

-- the grammar of a file, that of its text, with its tables and what follows the text
pub record IsFront (bytes : List ℕ) (f : Front) : Type 0 where
  pub text : List ℕ
  pub cut : IsCutFile bytes text f.tail.items
  pub grammar : IsGrammarOf text f.plain f.grammar
  pub tables : AreTablesOf f.grammar f.tables.items

-- the lowering of a plain grammar is refused at this place
abbrev pub IsRefusedAt : PlainGrammar → ℕ → Type 0
IsRefusedAt plain place =
    IsCause plain (lower.UnknownName place)
    ⊎ (IsCause plain (lower.InlineOrder place)
    ⊎ (IsCause plain (lower.Duplicate place)
    ⊎ IsCause plain (lower.TooManyProductions place)))

-- a text gives no grammar: it spells no plain grammar, as its first error at this place tells, or the lowering of
-- the one that it spells is refused there
abbrev pub HasNoGrammar : List ℕ → ℕ → Type 0
HasNoGrammar text place = HasNoPlain text place ⊎ ((plain : PlainGrammar) × IsPlainOf text plain × IsRefusedAt plain place)

-- what a fault tells of a text
abbrev pub IsTextFault : List ℕ → BytesFault → Type 0
IsTextFault text (spell.Grammar place) = HasNoGrammar text place
IsTextFault text spell.Memory = Unit {0}

-- the fault of a grammar whose lowering is refused
abbrev pub Unlowered : LowerFault → BytesFault → Type 0
Unlowered (lower.UnknownName place) fault = fault ≡ spell.Grammar place
Unlowered (lower.InlineOrder place) fault = fault ≡ spell.Grammar place
Unlowered (lower.Duplicate place) fault = fault ≡ spell.Grammar place
Unlowered (lower.TooManyProductions place) fault = fault ≡ spell.Grammar place
Unlowered lower.Memory fault = fault ≡ spell.Memory

-- the fault of a text that gives no grammar
abbrev pub Unspelled : BytesFault → FrontFault → Type 0
Unspelled (spell.Grammar place) fault = fault ≡ front.Grammar place
Unspelled spell.Memory fault = fault ≡ front.Memory

-- the grammar of a text has no tables
abbrev pub IsUntabled : List ℕ → TablesFault → Type 0
IsUntabled text fault = (plain : PlainGrammar) × (g : Grammar) × IsGrammarOf text plain g × HasNoTables g fault

-- the fault of a grammar without tables
abbrev pub Untabled : TablesFault → FrontFault → Type 0
Untabled (none.BadGrammar rule place) fault = fault ≡ front.BadGrammar rule place
Untabled (none.Conflict start path token) fault = fault ≡ front.Conflict start path token
Untabled (none.TooManyStates start paths) fault = fault ≡ front.TooManyStates start paths
Untabled none.Memory fault = fault ≡ front.Memory

-- the fault of a source that was not read to its end
abbrev pub StopsReading : ReadError → FrontFault → Type 0
StopsReading read.Fault fault = fault ≡ front.ReadFault
StopsReading read.TooLong fault = fault ≡ front.TooLong
StopsReading read.Memory fault = fault ≡ front.Memory

-- what a fault tells of the text of a file whose bytes were read
abbrev pub IsFaultOf : List ℕ → FrontFault → Type 0
IsFaultOf text front.ReadFault = ⊥
IsFaultOf text front.TooLong = ⊥
IsFaultOf text (front.Grammar place) = HasNoGrammar text place
IsFaultOf text (front.BadGrammar rule place) = IsUntabled text (none.BadGrammar rule place)
IsFaultOf text (front.Conflict start path token) = IsUntabled text (none.Conflict start path token)
IsFaultOf text (front.TooManyStates start paths) = IsUntabled text (none.TooManyStates start paths)
IsFaultOf text front.Memory = Unit {0}

-- and of the file, whose text ends before the first line `%%`
abbrev pub IsFileFault : List ℕ → FrontFault → Type 0
IsFileFault bytes fault = (text : List ℕ) × (tail : List ℕ) × IsCutFile bytes text tail × IsFaultOf text fault

-- what a fault tells of the source, by the bytes that were left and the counts of faults before and
-- after, and of the file
abbrev pub IsFrontFault : Option (List ℕ) → ℕ → ℕ → FrontFault → Type 0
IsFrontFault left old new front.ReadFault = Rose old new
IsFrontFault left old new front.TooLong = IsTooLong left
IsFrontFault left old new front.Memory = Unit {0}
IsFrontFault left old new fault = OfSource left (λ bytes. IsFileFault bytes fault)
