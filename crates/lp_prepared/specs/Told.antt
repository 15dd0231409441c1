-- What the status of a call tells of the grammar of its file, and of what was written.
use Rattle.std.specs.Prelude.{◌≡◌, ◌⊎◌, ℕ, List, [], Option, Some, None, IsSome}
use Rattle.lp_emit.specs.Causes.{MayBeEmitted, Refuses}
use Rattle.lp_emit.specs.declared.errors.EmitError.{EmitError}
use Rattle.lp_emit.specs.declared.errors.EmitError.TheVariants as emit
use Rattle.lp_lines.specs.File.{IsCutFile}
use Rattle.lp_plain.specs.Front.{LowersTo}
use Rattle.lp_reading.specs.Bytes.{IsPlainOf}
use Rattle.lp_repr.specs.declared.lr1.StartStates.{StartStates}
use Rattle.lp_repr.specs.declared.repr.Grammar.{Grammar}
use Rattle.lp_starts.specs.Tables.{AreTablesOf, AreValid, HasNoTables}
use Rattle.lp_starts.specs.declared.tables.TablesFault.TheVariants as none
use Rattle.lp_syntax.specs.declared.plain.PlainGrammar.{PlainGrammar}
use Rattle.lp_valid.specs.Refusals.{RefusesGrammar}
use Rattle.lp_valid.specs.declared.grammars.GrammarFault.TheVariants.{Rule}
use Rattle.lp_write.specs.Sinks.{Told, Took, Broke}
use Rattle.lp_prepared.specs.Outputs.{IsOutput}
use Rattle.lp_prepared.specs.declared.command.Command.{Command}
use Rattle.lp_prepared.specs.declared.file.File.{File}
use Rattle.lp_status.specs.declared.status.Status.{Status}
use Rattle.lp_status.specs.declared.status.Status.TheVariants.{Done, Usage, Conflict, TooManyStates, Refused, TokenLine, TooLong, ReadFault, WriteFault, Memory}
use Rattle.lp_status.specs.declared.status.Status.TheVariants as outcome
use Rattle.lp_prepared.specs.declared.prepared.Prepared.{Prepared}

-- the tables of a grammar, which are valid, or none where it breaks a rule of valid grammars
abbrev pub AreTablesOrNone : Grammar → List StartStates → Type 0
AreTablesOrNone g tables = (AreTablesOf g tables × AreValid g tables) ⊎ ((tables ≡ []) × ((rule : ℕ) × (place : ℕ) × RefusesGrammar g (Rule rule place)))

-- the grammar has them, or has none for that cause
abbrev pub HasTables : Grammar → Type 0
HasTables g = (tables : List StartStates) × AreTablesOrNone g tables

-- the bytes of a file give a plain grammar, which its text spells, what it is lowered to, the tables of
-- that, and what follows the text
pub record IsFile (bytes : List ℕ) (f : File) : Type 0 where
  pub lowered : LowersTo f.plain f.lowered
  pub tables : AreTablesOrNone f.lowered f.tables.items
  pub tail : (text : List ℕ) × IsCutFile bytes text f.tail.items × IsPlainOf text f.plain

-- its emission is refused, and never as unsupported, for its tables, for too many states or productions, or for want
-- of memory, which is a status of its own
abbrev pub IsRefused : Grammar → EmitError → Type 0
IsRefused g (emit.BadTables start state rule) = ⊥
IsRefused g (emit.TooMany count) = ⊥
IsRefused g emit.Memory = ⊥
IsRefused g emit.Unsupported = ⊥
IsRefused g error = (tables : List StartStates) × AreTablesOrNone g tables × Refuses g tables error

-- the status that tells of a refusal
abbrev pub IsRefusal : EmitError → Status → Type 0
IsRefusal emit.Memory status = status ≡ Memory
IsRefusal error status = status ≡ Refused error

-- what a status tells of the grammar that the file's is lowered to: the cause for which nothing was
-- written
abbrev pub ToldOf : Grammar → Status → Type 0
ToldOf g (Conflict start path token) = HasNoTables g (none.Conflict start path token)
ToldOf g (TooManyStates start paths) = HasNoTables g (none.TooManyStates start paths)
ToldOf g (Refused error) = IsRefused g error
ToldOf g (TokenLine line) = HasTables g
ToldOf g status = Unit {0}

-- the tables are those of the grammar, and it may be emitted with them
abbrev pub IsEmitted : Grammar → List StartStates → Type 0
IsEmitted g tables = AreTablesOf g tables × MayBeEmitted g tables

-- a plain grammar is answered, and of a grammar that it is lowered to this holds
abbrev pub TellsOf : Option PlainGrammar → (Grammar → Type 0) → Type 0
TellsOf answered Holds = (plain : PlainGrammar) × (g : Grammar) × (answered ≡ Some plain) × LowersTo plain g × Holds g

-- what a call that wrote nothing tells by its status and the plain grammar that it answers
abbrev pub Tells : Option PlainGrammar → Status → Type 0
Tells answered (Conflict start path token) = TellsOf answered (λ g. HasNoTables g (none.Conflict start path token))
Tells answered (TooManyStates start paths) = TellsOf answered (λ g. HasNoTables g (none.TooManyStates start paths))
Tells answered (Refused error) = TellsOf answered (λ g. IsRefused g error)
Tells answered (TokenLine line) = TellsOf answered HasTables
Tells answered status = Unit {0}

-- a status of a grammar that was lowered, or of want of memory
abbrev pub IsOfLowered : Status → Type 0
IsOfLowered (Conflict start path token) = Unit {0}
IsOfLowered (TooManyStates start paths) = Unit {0}
IsOfLowered (Refused error) = Unit {0}
IsOfLowered (TokenLine line) = Unit {0}
IsOfLowered Memory = Unit {0}
IsOfLowered other = ⊥

-- a plain grammar is answered exactly under the statuses of one that was lowered and of a call that wrote
abbrev pub IsAnswered : Option PlainGrammar → Status → Type 0
IsAnswered answered Usage = answered ≡ None
IsAnswered answered (outcome.Grammar place) = answered ≡ None
IsAnswered answered TooLong = answered ≡ None
IsAnswered answered ReadFault = answered ≡ None
IsAnswered answered Memory = answered ≡ None
IsAnswered answered other = IsSome answered

-- the plain grammar is answered, but under want of memory
abbrev pub Holds : PlainGrammar → Status → Option PlainGrammar → Type 0
Holds plain Memory answered = answered ≡ None
Holds plain status answered = answered ≡ Some plain

-- what a command makes of a file, by its bytes where they are told: the plain grammar, the tables of
-- its lowering, the length of the parser text and the output
abbrev pub IsMade : Option Command → Option (List ℕ) → PlainGrammar → List StartStates → ℕ → List ℕ → Type 0
IsMade None left plain tables text_len output = ⊥
IsMade (Some command) left plain tables text_len output =
    (g : Grammar) × LowersTo plain g × IsEmitted g tables × IsOutput command left g tables text_len output

-- what is to be written goes with its grammar, its tables and the length of its text
abbrev pub IsPrepared : Option Command → Option (List ℕ) → Prepared → Type 0
IsPrepared command left p = IsMade command left p.grammar p.tables.items p.text_len p.output.items

-- a plain grammar is answered, and what the command makes of it was written so
abbrev pub Writes : Option Command → Option (List ℕ) → Option PlainGrammar → List StartStates → ℕ → (List ℕ → Type 0) → Type 0
Writes command left answered tables text_len Wrote =
    (plain : PlainGrammar) × (output : List ℕ) × (answered ≡ Some plain) × IsMade command left plain tables text_len output × Wrote output

-- what was written: all that the command makes, a part of it, or nothing
abbrev pub Wrote : Option Command → Option (List ℕ) → Option PlainGrammar → List StartStates → ℕ → Told → Told → Status → Type 0
Wrote command left answered tables text_len old new Done = Writes command left answered tables text_len (Took old new)
Wrote command left answered tables text_len old new WriteFault = Writes command left answered tables text_len (Broke old new)
Wrote command left answered tables text_len old new status = new ≡ old
