-- From what is told of a grammar to what a call tells.
use Rattle.std.proofs.Common.{◌≡◌, ◌≢◌, ℕ, true, false, List, [], Option, Some, Result, Ok, Err, IfOk, unwrap_or, ⊎_elim, length, subst, sym, refl, ap}
use Rattle.lp_emit.specs.Causes.{MayBeEmitted, Refuses}
use Rattle.lp_emit.specs.Texts.{IsEmission}
use Rattle.lp_emit.specs.declared.errors.EmitError.{EmitError}
use Rattle.lp_emit.specs.declared.errors.EmitError.TheVariants as emit
use Rattle.lp_plain.specs.Front.{LowersTo}
use Rattle.lp_reading.specs.Bytes.{IsPlainOf}
use Rattle.lp_repr.specs.declared.lr1.StartStates.{StartStates}
use Rattle.lp_repr.specs.declared.repr.Grammar.{Grammar}
use Rattle.lp_starts.specs.Tables.{AreTablesOf, AreValid}
use Rattle.lp_starts.proofs.Refused.{not_valid}
use Rattle.lp_syntax.specs.declared.plain.PlainGrammar.{PlainGrammar}
use Rattle.lp_valid.specs.Refusals.{RefusesGrammar}
use Rattle.lp_valid.specs.declared.grammars.GrammarFault.TheVariants.{Rule}
use Rattle.lp_lines.specs.File.{IsCutFile}
use Rattle.lp_write.specs.Sinks.{Told}
use Rattle.lp_write.specs.declared.rust.Options.{Options}
use Rattle.lp_prepared.specs.Command.{looks}
use Rattle.lp_prepared.specs.Outputs.{IsReport, IsRunOutput, IsTailIn}
use Rattle.lp_prepared.specs.Causes.{IsOfFile, IsOfWriting, IsStop, Written}
use Rattle.lp_prepared.specs.Told.{AreTablesOrNone, Holds, IsAnswered, IsEmitted, IsMade, IsOfLowered, IsPrepared, IsRefusal, Tells, ToldOf, Wrote}
use Rattle.lp_prepared.specs.declared.command.Command.{Command}
use Rattle.lp_prepared.specs.declared.command.Command.TheVariants as asked
use Rattle.lp_prepared.specs.declared.file.Stop.{Stop}
use Rattle.lp_status.specs.declared.status.Status.{Status}
use Rattle.lp_status.specs.declared.status.Status.TheVariants as status
use Rattle.lp_prepared.specs.declared.prepared.Prepared.{Prepared}
use Rattle.lp_prepared.proofs.Few.{not_too_many}
use Rattle.lp_prepared.proofs.Supported.{never_unsupported}
use Rattle.lp_prepared.proofs.Tabled.{not_for_tables}

-- a stop with the plain grammar
pub told_with : (plain : PlainGrammar) (g : Grammar) (s : Status) (answered : Option PlainGrammar) → LowersTo plain g → ToldOf g s → IsOfFile s → Holds plain s answered → Tells answered s
told_with plain g status.Done answered l t o h = absurd o
told_with plain g status.Usage answered l t o h = tt
told_with plain g (status.Grammar place) answered l t o h = tt
told_with plain g (status.Conflict start path token) answered l t o h = (plain, g, h, l, t)
told_with plain g (status.TooManyStates start paths) answered l t o h = (plain, g, h, l, t)
told_with plain g (status.Refused error) answered l t o h = (plain, g, h, l, t)
told_with plain g (status.TokenLine line) answered l t o h = (plain, g, h, l, t)
told_with plain g status.TooLong answered l t o h = tt
told_with plain g status.ReadFault answered l t o h = tt
told_with plain g status.WriteFault answered l t o h = absurd o
told_with plain g status.Memory answered l t o h = tt

-- a stop but for want of memory has the plain grammar
pub holds : (plain : PlainGrammar) (s : Status) → s ≢ status.Memory → Holds plain s (Some plain)
holds plain status.Done n = refl
holds plain status.Usage n = refl
holds plain (status.Grammar place) n = refl
holds plain (status.Conflict start path token) n = refl
holds plain (status.TooManyStates start paths) n = refl
holds plain (status.Refused error) n = refl
holds plain (status.TokenLine line) n = refl
holds plain status.TooLong n = refl
holds plain status.ReadFault n = refl
holds plain status.WriteFault n = refl
holds plain status.Memory n = absurd (n refl)

-- a stop with the plain grammar answers it
pub answered_with : (plain : PlainGrammar) (s : Status) → s ≢ status.Memory → IsOfLowered s → IsAnswered (Some plain) s
answered_with plain status.Done n o = absurd o
answered_with plain status.Usage n o = absurd o
answered_with plain (status.Grammar place) n o = absurd o
answered_with plain (status.Conflict start path token) n o = refl
answered_with plain (status.TooManyStates start paths) n o = refl
answered_with plain (status.Refused error) n o = refl
answered_with plain (status.TokenLine line) n o = refl
answered_with plain status.TooLong n o = absurd o
answered_with plain status.ReadFault n o = absurd o
answered_with plain status.WriteFault n o = absurd o
answered_with plain status.Memory n o = absurd (n refl)

-- a call that wrote answers it
pub answered_written : (plain : PlainGrammar) (s : Status) → IsOfWriting s → IsAnswered (Some plain) s
answered_written plain status.Done o = refl
answered_written plain status.WriteFault o = refl
answered_written plain status.Usage o = absurd o
answered_written plain (status.Grammar place) o = absurd o
answered_written plain (status.Conflict start path token) o = absurd o
answered_written plain (status.TooManyStates start paths) o = absurd o
answered_written plain (status.Refused error) o = absurd o
answered_written plain (status.TokenLine line) o = absurd o
answered_written plain status.TooLong o = absurd o
answered_written plain status.ReadFault o = absurd o
answered_written plain status.Memory o = absurd o

-- and tells nothing of it
pub told_written : (answered : Option PlainGrammar) (s : Status) → IsOfWriting s → Tells answered s
told_written answered status.Done o = tt
told_written answered status.WriteFault o = tt
told_written answered status.Usage o = absurd o
told_written answered (status.Grammar place) o = absurd o
told_written answered (status.Conflict start path token) o = absurd o
told_written answered (status.TooManyStates start paths) o = absurd o
told_written answered (status.Refused error) o = absurd o
told_written answered (status.TokenLine line) o = absurd o
told_written answered status.TooLong o = absurd o
told_written answered status.ReadFault o = absurd o
told_written answered status.Memory o = absurd o

-- an emission that is refused
pub told_refused : (text : List ℕ) (plain : PlainGrammar) (g : Grammar) (tables : List StartStates) (error : EmitError) (s : Status) → IsPlainOf text plain → LowersTo plain g → AreTablesOrNone g tables → Refuses g tables error → IsRefusal error s → ToldOf g s
told_refused text plain g tables emit.Memory s p l a r i = subst (ToldOf g) (sym i) tt
told_refused text plain g tables emit.NoStart s p l a r i = subst (ToldOf g) (sym i) (tables, a, r)
told_refused text plain g tables emit.Unsupported s p l a r i = absurd (never_unsupported text plain g tables p l r)
told_refused text plain g tables (emit.BadGrammar rule place) s p l a r i = subst (ToldOf g) (sym i) (tables, a, r)
told_refused text plain g tables emit.RecoveryInAscent s p l a r i = subst (ToldOf g) (sym i) (tables, a, r)
told_refused text plain g tables (emit.NameClash first second) s p l a r i = subst (ToldOf g) (sym i) (tables, a, r)
told_refused text plain g tables (emit.TooMany count) s p l a r i = absurd (not_too_many plain g tables count l a r)
told_refused text plain g tables (emit.BadTables start state rule) s p l a r i = absurd (not_for_tables g tables start state rule a r)
told_refused text plain g tables (emit.BadText place byte) s p l a r i = subst (ToldOf g) (sym i) (tables, a, r)
told_refused text plain g tables emit.WriteFault s p l a r i = absurd r

-- a grammar that may be emitted has its tables
pub emitted : (g : Grammar) (tables : List StartStates) → AreTablesOrNone g tables → MayBeEmitted g tables → IsEmitted g tables
emitted g tables a m = ⊎_elim
    (λ (t : AreTablesOf g tables × AreValid g tables). (t.0, m))
    (λ (t : (tables ≡ []) × ((rule : ℕ) × (place : ℕ) × RefusesGrammar g (Rule rule place))). absurd (not_valid g t.1.0 t.1.1 t.1.2 m.buildable.sound.1))
    a

-- what is made of a file by each command
pub made_emit : (options : Options) (left : Option (List ℕ)) (plain : PlainGrammar) (g : Grammar) (tables : List StartStates) (text_len : ℕ) (output : List ℕ) → LowersTo plain g → AreTablesOrNone g tables → MayBeEmitted g tables → IsEmission g tables options output → text_len ≡ length output → IsMade (Some (asked.Emit options)) left plain tables text_len output
made_emit options left plain g tables text_len output l a m e n = (g, l, emitted g tables a m, (e, n))

pub made_run : (options : Options) (left : Option (List ℕ)) (plain : PlainGrammar) (g : Grammar) (tables : List StartStates) (tail : List ℕ) (text_len : ℕ) (output : List ℕ) → LowersTo plain g → AreTablesOrNone g tables → MayBeEmitted g tables → IsTailIn left tail → IsRunOutput g tables options tail text_len output → IsMade (Some (asked.Run options)) left plain tables text_len output
made_run options left plain g tables tail text_len output l a m t r = (g, l, emitted g tables a m, (tail, t, r))

pub made_make : (levels : ℕ) (left : Option (List ℕ)) (plain : PlainGrammar) (g : Grammar) (tables : List StartStates) (text_len : ℕ) (output text : List ℕ) → LowersTo plain g → AreTablesOrNone g tables → MayBeEmitted g tables → IsEmission g tables (looks false true) text → text_len ≡ length text → IsReport g tables levels text text_len output → IsMade (Some (asked.Make levels)) left plain tables text_len output
made_make levels left plain g tables text_len output text l a m e n r = (g, l, emitted g tables a m, (text, e, n, r))

-- what is told of a text and its tables, by its length
pub report_of : (g : Grammar) (tables : List StartStates) (levels : ℕ) (text : List ℕ) (text_len text_len' : ℕ) (output output' : List ℕ) → text_len ≡ text_len' → output ≡ output' → IsReport g tables levels text text_len output → IsReport g tables levels text text_len' output'
report_of g tables levels text text_len text_len' output output' t o r = subst (IsReport g tables levels text text_len') o (subst (λ n. IsReport g tables levels text n output) t r)

some_same : (a b : List ℕ) → Some a ≡ Some b → a ≡ b
some_same a b p = ap (λ (o : Option (List ℕ)). unwrap_or o a) p

-- what follows the text of a file, told by its bytes
pub tail_in : (bytes text tail tail' : List ℕ) → IsCutFile bytes text tail → tail' ≡ tail → IsTailIn (Some bytes) tail'
tail_in bytes text tail tail' c e = λ told same. (text, subst (λ b. IsCutFile b text tail') (some_same bytes told same) (subst (IsCutFile bytes text) (sym e) c))

-- what was prepared was written, or a part of it
pub wrote : (command : Option Command) (left : Option (List ℕ)) (plain : PlainGrammar) (tables : List StartStates) (text_len : ℕ) (output : List ℕ) (old new : Told) (s : Status) → IsMade command left plain tables text_len output → Written old new output s → Wrote command left (Some plain) tables text_len old new s
wrote command left plain tables text_len output old new status.Done m w = (plain, output, refl, m, w)
wrote command left plain tables text_len output old new status.WriteFault m w = (plain, output, refl, m, w)
wrote command left plain tables text_len output old new status.Usage m w = absurd w
wrote command left plain tables text_len output old new (status.Grammar place) m w = absurd w
wrote command left plain tables text_len output old new (status.Conflict start path token) m w = absurd w
wrote command left plain tables text_len output old new (status.TooManyStates start paths) m w = absurd w
wrote command left plain tables text_len output old new (status.Refused error) m w = absurd w
wrote command left plain tables text_len output old new (status.TokenLine line) m w = absurd w
wrote command left plain tables text_len output old new status.TooLong m w = absurd w
wrote command left plain tables text_len output old new status.ReadFault m w = absurd w
wrote command left plain tables text_len output old new status.Memory m w = absurd w

-- a call that stopped wrote nothing
pub stopped : (command : Option Command) (left : Option (List ℕ)) (answered : Option PlainGrammar) (tables : List StartStates) (text_len : ℕ) (old new : Told) (s : Status) → IsStop s → new ≡ old → Wrote command left answered tables text_len old new s
stopped command left answered tables text_len old new status.Done i e = absurd i
stopped command left answered tables text_len old new status.WriteFault i e = absurd i
stopped command left answered tables text_len old new status.Usage i e = e
stopped command left answered tables text_len old new (status.Grammar place) i e = e
stopped command left answered tables text_len old new (status.Conflict start path token) i e = e
stopped command left answered tables text_len old new (status.TooManyStates start paths) i e = e
stopped command left answered tables text_len old new (status.Refused error) i e = e
stopped command left answered tables text_len old new (status.TokenLine line) i e = e
stopped command left answered tables text_len old new status.TooLong i e = e
stopped command left answered tables text_len old new status.ReadFault i e = e
stopped command left answered tables text_len old new status.Memory i e = e

-- the bytes that were read are those of the source, where it tells them
pub of_source : (command : Command) (left : Option (List ℕ)) (bytes : List ℕ) (plain : PlainGrammar) (tables : List StartStates) (text_len : ℕ) (output : List ℕ) → ((told : List ℕ) → left ≡ Some told → bytes ≡ told) → IsMade (Some command) (Some bytes) plain tables text_len output → IsMade (Some command) left plain tables text_len output
of_source (asked.Emit options) left bytes plain tables text_len output same m = m
of_source (asked.Run options) left bytes plain tables text_len output same m =
    (m.0, m.1, m.2, (m.3.0, (λ told e. subst (λ b. (text : List ℕ) × IsCutFile b text m.3.0) (same told e) (m.3.1 bytes refl)), m.3.2))
of_source (asked.Make levels) left bytes plain tables text_len output same m = m

-- what was prepared of the bytes that were read was prepared of the source
pub prepared_of : (result : Result Prepared Stop) (command : Command) (named : Option Command) (left : Option (List ℕ)) (bytes : List ℕ) → named ≡ Some command → ((told : List ℕ) → left ≡ Some told → bytes ≡ told) → IfOk result (IsPrepared (Some command) (Some bytes)) → IfOk result (IsPrepared named left)
prepared_of (Ok p) command named left bytes e same h =
    subst (λ (n : Option Command). IsPrepared n left p) (sym e) (of_source command left bytes p.grammar p.tables.items p.text_len p.output.items same h)
prepared_of (Err stop) command named left bytes e same h = h
