-- What is told of the text of a file.
use Rattle.std.proofs.Common.{◌≡◌, ◌≤◌, ℕ, List, length, Option, Some, IfSome, Result, Ok, Err, IfErr, IfOk, subst, sym}
use Rattle.lp_generated.specs.Generated.{grammar_text}
use Rattle.lp_syntax.specs.declared.plain.PlainGrammar.{PlainGrammar}
use Rattle.lp_prepared.specs.Causes.{IsOfFile, IsOfReading, IsOfWriting}
use Rattle.lp_prepared.specs.TextTold.{OfFile, OfText, Spells, TellsText, ToldOfText}
use Rattle.lp_prepared.specs.Told.{Holds, IsOfLowered}
use Rattle.lp_prepared.specs.declared.command.Command.{Command}
use Rattle.lp_prepared.specs.declared.command.Command.TheVariants as asked
use Rattle.lp_prepared.specs.declared.file.Stop.{Stop}
use Rattle.lp_status.specs.declared.status.Status.{Status}
use Rattle.lp_status.specs.declared.status.Status.TheVariants as status
use Rattle.lp_prepared.specs.declared.prepared.Prepared.{Prepared}
use Rattle.lp_write.specs.declared.rust.Options.{Options}

-- a stop with the plain grammar, or with none for want of memory
pub text_with : (plain : PlainGrammar) (s : Status) (answered : Option PlainGrammar) (text : List ℕ) → Holds plain s answered → Spells plain text → IsOfLowered s → ToldOfText answered s text
text_with plain (status.Conflict start path token) answered text h p o = subst (λ (a : Option PlainGrammar). IfSome a (λ q. Spells q text)) (sym h) p
text_with plain (status.TooManyStates start paths) answered text h p o = subst (λ (a : Option PlainGrammar). IfSome a (λ q. Spells q text)) (sym h) p
text_with plain (status.Refused error) answered text h p o = subst (λ (a : Option PlainGrammar). IfSome a (λ q. Spells q text)) (sym h) p
text_with plain (status.TokenLine line) answered text h p o = subst (λ (a : Option PlainGrammar). IfSome a (λ q. Spells q text)) (sym h) p
text_with plain status.Memory answered text h p o = subst (λ (a : Option PlainGrammar). IfSome a (λ q. Spells q text)) (sym h) tt
text_with plain (status.Grammar place) answered text h p o = absurd o
text_with plain status.Done answered text h p o = absurd o
text_with plain status.Usage answered text h p o = absurd o
text_with plain status.TooLong answered text h p o = absurd o
text_with plain status.ReadFault answered text h p o = absurd o
text_with plain status.WriteFault answered text h p o = absurd o

-- a status of a file tells of its text
pub text_file : (command : Option Command) (left : Option (List ℕ)) (answered : Option PlainGrammar) (s : Status) → IsOfFile s → OfFile command left (λ bytes. OfText bytes (ToldOfText answered s)) → TellsText command left answered s
text_file command left answered (status.Grammar place) o t = t
text_file command left answered (status.Conflict start path token) o t = t
text_file command left answered (status.TooManyStates start paths) o t = t
text_file command left answered (status.Refused error) o t = t
text_file command left answered (status.TokenLine line) o t = t
text_file command left answered status.Memory o t = tt
text_file command left answered status.Done o t = absurd o
text_file command left answered status.Usage o t = absurd o
text_file command left answered status.TooLong o t = absurd o
text_file command left answered status.ReadFault o t = absurd o
text_file command left answered status.WriteFault o t = absurd o

text_reading : (command : Option Command) (left : Option (List ℕ)) (answered : Option PlainGrammar) (s : Status) → IsOfReading s → TellsText command left answered s
text_reading command left answered status.TooLong t = tt
text_reading command left answered status.ReadFault t = tt
text_reading command left answered status.Memory t = tt
text_reading command left answered status.Done t = absurd t
text_reading command left answered status.Usage t = absurd t
text_reading command left answered (status.Grammar place) t = absurd t
text_reading command left answered (status.Conflict start path token) t = absurd t
text_reading command left answered (status.TooManyStates start paths) t = absurd t
text_reading command left answered (status.Refused error) t = absurd t
text_reading command left answered (status.TokenLine line) t = absurd t
text_reading command left answered status.WriteFault t = absurd t

-- a call that wrote
pub text_written : (command : Option Command) (left : Option (List ℕ)) (plain : PlainGrammar) (s : Status) → IsOfWriting s → OfFile command left (λ bytes. OfText bytes (Spells plain)) → TellsText command left (Some plain) s
text_written command left plain status.Done w t = t
text_written command left plain status.WriteFault w t = t
text_written command left plain status.Usage w t = absurd w
text_written command left plain (status.Grammar place) w t = absurd w
text_written command left plain (status.Conflict start path token) w t = absurd w
text_written command left plain (status.TooManyStates start paths) w t = absurd w
text_written command left plain (status.Refused error) w t = absurd w
text_written command left plain (status.TokenLine line) w t = absurd w
text_written command left plain status.TooLong w t = absurd w
text_written command left plain status.ReadFault w t = absurd w
text_written command left plain status.Memory w t = absurd w

-- the bytes that were read of a source are those of the file
pub of_emit : (named : Option Command) (options : Options) (left : Option (List ℕ)) (bytes : List ℕ) (Told : List ℕ → Type 0) → named ≡ Some (asked.Emit options) → length bytes ≤ 16777216 → ((told : List ℕ) → left ≡ Some told → bytes ≡ told) → Told bytes → OfFile named left Told
of_emit named options left bytes Told e few same t = subst (λ (c : Option Command). OfFile c left Told) (sym e) (bytes, (few, same), t)

pub of_run : (named : Option Command) (options : Options) (left : Option (List ℕ)) (bytes : List ℕ) (Told : List ℕ → Type 0) → named ≡ Some (asked.Run options) → length bytes ≤ 16777216 → ((told : List ℕ) → left ≡ Some told → bytes ≡ told) → Told bytes → OfFile named left Told
of_run named options left bytes Told e few same t = subst (λ (c : Option Command). OfFile c left Told) (sym e) (bytes, (few, same), t)

-- the same of calls
pub reading_told : {A : Type 0} (result : Result A Stop) (named : Option Command) (left : Option (List ℕ)) → IfErr result (λ stop. IsOfReading stop.status) → IfErr result (λ stop. TellsText named left stop.grammar stop.status)
reading_told (Ok a) named left t = t
reading_told (Err stop) named left t = text_reading named left stop.grammar stop.status t

pub emit_text : (result : Result Prepared Stop) (named : Option Command) (options : Options) (left : Option (List ℕ)) (bytes : List ℕ) → named ≡ Some (asked.Emit options) → length bytes ≤ 16777216 → ((told : List ℕ) → left ≡ Some told → bytes ≡ told) → IfErr result (λ stop. IsOfFile stop.status) → IfErr result (λ stop. OfText bytes (ToldOfText stop.grammar stop.status)) → IfErr result (λ stop. TellsText named left stop.grammar stop.status)
emit_text (Ok p) named options left bytes e few same o t = t
emit_text (Err stop) named options left bytes e few same o t = text_file named left stop.grammar stop.status o (of_emit named options left bytes (λ b. OfText b (ToldOfText stop.grammar stop.status)) e few same t)

pub emit_spelled : (result : Result Prepared Stop) (named : Option Command) (options : Options) (left : Option (List ℕ)) (bytes : List ℕ) → named ≡ Some (asked.Emit options) → length bytes ≤ 16777216 → ((told : List ℕ) → left ≡ Some told → bytes ≡ told) → IfOk result (λ p. OfText bytes (Spells p.grammar)) → IfOk result (λ p. OfFile named left (λ b. OfText b (Spells p.grammar)))
emit_spelled (Ok p) named options left bytes e few same t = of_emit named options left bytes (λ b. OfText b (Spells p.grammar)) e few same t
emit_spelled (Err stop) named options left bytes e few same t = t

pub run_text : (result : Result Prepared Stop) (named : Option Command) (options : Options) (left : Option (List ℕ)) (bytes : List ℕ) → named ≡ Some (asked.Run options) → length bytes ≤ 16777216 → ((told : List ℕ) → left ≡ Some told → bytes ≡ told) → IfErr result (λ stop. IsOfFile stop.status) → IfErr result (λ stop. OfText bytes (ToldOfText stop.grammar stop.status)) → IfErr result (λ stop. TellsText named left stop.grammar stop.status)
run_text (Ok p) named options left bytes e few same o t = t
run_text (Err stop) named options left bytes e few same o t = text_file named left stop.grammar stop.status o (of_run named options left bytes (λ b. OfText b (ToldOfText stop.grammar stop.status)) e few same t)

pub run_spelled : (result : Result Prepared Stop) (named : Option Command) (options : Options) (left : Option (List ℕ)) (bytes : List ℕ) → named ≡ Some (asked.Run options) → length bytes ≤ 16777216 → ((told : List ℕ) → left ≡ Some told → bytes ≡ told) → IfOk result (λ p. OfText bytes (Spells p.grammar)) → IfOk result (λ p. OfFile named left (λ b. OfText b (Spells p.grammar)))
run_spelled (Ok p) named options left bytes e few same t = of_run named options left bytes (λ b. OfText b (Spells p.grammar)) e few same t
run_spelled (Err stop) named options left bytes e few same t = t

pub make_text : (result : Result Prepared Stop) (named : Option Command) (levels : ℕ) (left : Option (List ℕ)) → named ≡ Some (asked.Make levels) → IfErr result (λ stop. TellsText (Some (asked.Make levels)) left stop.grammar stop.status) → IfErr result (λ stop. TellsText named left stop.grammar stop.status)
make_text (Ok p) named levels left e t = t
make_text (Err stop) named levels left e t = subst (λ (c : Option Command). TellsText c left stop.grammar stop.status) (sym e) t

pub make_spelled : (result : Result Prepared Stop) (named : Option Command) (levels : ℕ) (left : Option (List ℕ)) → named ≡ Some (asked.Make levels) → IfOk result (λ p. OfFile (Some (asked.Make levels)) left (λ b. OfText b (Spells p.grammar))) → IfOk result (λ p. OfFile named left (λ b. OfText b (Spells p.grammar)))
make_spelled (Ok p) named levels left e t = subst (λ (c : Option Command). OfFile c left (λ b. OfText b (Spells p.grammar))) (sym e) t
make_spelled (Err stop) named levels left e t = t

-- the text that `make` generates
pub generated_text : {A : Type 0} (result : Result A Stop) (levels : ℕ) (left : Option (List ℕ)) (bytes : List ℕ) → bytes ≡ grammar_text levels → IfErr result (λ stop. IsOfFile stop.status) → IfErr result (λ stop. OfText bytes (ToldOfText stop.grammar stop.status)) → IfErr result (λ stop. TellsText (Some (asked.Make levels)) left stop.grammar stop.status)
generated_text (Ok a) levels left bytes made o t = t
generated_text (Err stop) levels left bytes made o t = text_file (Some (asked.Make levels)) left stop.grammar stop.status o (subst (λ b. OfText b (ToldOfText stop.grammar stop.status)) made t)
