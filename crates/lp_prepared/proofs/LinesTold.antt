-- What is told of token lines.
use Rattle.std.proofs.Common.{◌≡◌, ℕ, List, Option, Some, None, Result, Ok, Err, IfErr, subst, sym, refl}
use Rattle.lp_lines.specs.File.{IsCutFile}
use Rattle.lp_plain.specs.Front.{LowersTo}
use Rattle.lp_repr.specs.declared.repr.Grammar.{Grammar}
use Rattle.lp_syntax.specs.declared.plain.PlainGrammar.{PlainGrammar}
use Rattle.lp_prepared.specs.Causes.{IsOfWriting}
use Rattle.lp_prepared.specs.LinesTold.{HasLines, IsBeforeLines, IsOfNoLine, TellsLine, TellsRunLine, ToldOfLines}
use Rattle.lp_prepared.specs.Outputs.{IsTailIn}
use Rattle.lp_prepared.specs.Told.{Holds}
use Rattle.lp_prepared.specs.declared.command.Command.{Command}
use Rattle.lp_prepared.specs.declared.command.Command.TheVariants as asked
use Rattle.lp_prepared.specs.declared.file.Stop.{Stop}
use Rattle.lp_status.specs.declared.status.Status.{Status}
use Rattle.lp_status.specs.declared.status.Status.TheVariants as status
use Rattle.lp_write.specs.declared.rust.Options.{Options}

-- a stop with the plain grammar, over the tail of its file
pub told_line : (plain : PlainGrammar) (g : Grammar) (left : Option (List ℕ)) (tail : List ℕ) (s : Status) (answered : Option PlainGrammar) → LowersTo plain g → IsTailIn left tail → ToldOfLines g tail s → Holds plain s answered → TellsRunLine left answered s
told_line plain g left tail (status.TokenLine line) answered l i t h = (plain, g, h, l, (tail, i, t))
told_line plain g left tail status.Done answered l i t h = tt
told_line plain g left tail status.Usage answered l i t h = tt
told_line plain g left tail (status.Grammar place) answered l i t h = tt
told_line plain g left tail (status.Conflict start path token) answered l i t h = tt
told_line plain g left tail (status.TooManyStates start paths) answered l i t h = tt
told_line plain g left tail (status.Refused error) answered l i t h = (plain, g, h, l, (tail, i, t))
told_line plain g left tail status.TooLong answered l i t h = tt
told_line plain g left tail status.ReadFault answered l i t h = tt
told_line plain g left tail status.WriteFault answered l i t h = tt
told_line plain g left tail status.Memory answered l i t h = tt

-- a status of a call that read no token lines
before_no_line : (s : Status) → IsBeforeLines s → IsOfNoLine s
before_no_line (status.TokenLine line) b = absurd b
before_no_line (status.Refused error) b = absurd b
before_no_line status.Done b = tt
before_no_line status.Usage b = tt
before_no_line (status.Grammar place) b = tt
before_no_line (status.Conflict start path token) b = tt
before_no_line (status.TooManyStates start paths) b = tt
before_no_line status.TooLong b = tt
before_no_line status.ReadFault b = tt
before_no_line status.WriteFault b = tt
before_no_line status.Memory b = tt

before_run_line : (left : Option (List ℕ)) (answered : Option PlainGrammar) (s : Status) → IsBeforeLines s → TellsRunLine left answered s
before_run_line left answered (status.TokenLine line) b = absurd b
before_run_line left answered (status.Refused error) b = absurd b
before_run_line left answered status.Done b = tt
before_run_line left answered status.Usage b = tt
before_run_line left answered (status.Grammar place) b = tt
before_run_line left answered (status.Conflict start path token) b = tt
before_run_line left answered (status.TooManyStates start paths) b = tt
before_run_line left answered status.TooLong b = tt
before_run_line left answered status.ReadFault b = tt
before_run_line left answered status.WriteFault b = tt
before_run_line left answered status.Memory b = tt

-- a status that speaks of no token line, once these are read
read_lines : (g : Grammar) (tail : List ℕ) (s : Status) → HasLines g tail → IsOfNoLine s → ToldOfLines g tail s
read_lines g tail (status.TokenLine line) r n = absurd n
read_lines g tail (status.Refused error) r n = r
read_lines g tail status.Done r n = tt
read_lines g tail status.Usage r n = tt
read_lines g tail (status.Grammar place) r n = tt
read_lines g tail (status.Conflict start path token) r n = tt
read_lines g tail (status.TooManyStates start paths) r n = tt
read_lines g tail status.TooLong r n = tt
read_lines g tail status.ReadFault r n = tt
read_lines g tail status.WriteFault r n = tt
read_lines g tail status.Memory r n = tt

-- a status of a call that wrote
written_before : (s : Status) → IsOfWriting s → IsBeforeLines s
written_before status.Done w = tt
written_before status.WriteFault w = tt
written_before status.Usage w = absurd w
written_before (status.Grammar place) w = absurd w
written_before (status.Conflict start path token) w = absurd w
written_before (status.TooManyStates start paths) w = absurd w
written_before (status.Refused error) w = absurd w
written_before (status.TokenLine line) w = absurd w
written_before status.TooLong w = absurd w
written_before status.ReadFault w = absurd w
written_before status.Memory w = absurd w

pub line_written : (command : Option Command) (left : Option (List ℕ)) (answered : Option PlainGrammar) (s : Status) → IsOfWriting s → TellsLine command left answered s
line_written None left answered s w = before_no_line s (written_before s w)
line_written (Some (asked.Emit options)) left answered s w = before_no_line s (written_before s w)
line_written (Some (asked.Make levels)) left answered s w = before_no_line s (written_before s w)
line_written (Some (asked.Run options)) left answered s w = before_run_line left answered s (written_before s w)

-- the bytes that were read are those of the source, where it tells them
line_of_source : (left : Option (List ℕ)) (bytes : List ℕ) (answered : Option PlainGrammar) (s : Status) → ((told : List ℕ) → left ≡ Some told → bytes ≡ told) → TellsRunLine (Some bytes) answered s → TellsRunLine left answered s
line_of_source left bytes answered (status.TokenLine line) same t =
    (t.0, t.1, t.2, t.3, (t.4.0, (λ told e. subst (λ b. (text : List ℕ) × IsCutFile b text t.4.0) (same told e) (t.4.1 bytes refl)), t.4.2))
line_of_source left bytes answered (status.Refused error) same t =
    (t.0, t.1, t.2, t.3, (t.4.0, (λ told e. subst (λ b. (text : List ℕ) × IsCutFile b text t.4.0) (same told e) (t.4.1 bytes refl)), t.4.2))
line_of_source left bytes answered status.Done same t = tt
line_of_source left bytes answered status.Usage same t = tt
line_of_source left bytes answered (status.Grammar place) same t = tt
line_of_source left bytes answered (status.Conflict start path token) same t = tt
line_of_source left bytes answered (status.TooManyStates start paths) same t = tt
line_of_source left bytes answered status.TooLong same t = tt
line_of_source left bytes answered status.ReadFault same t = tt
line_of_source left bytes answered status.WriteFault same t = tt
line_of_source left bytes answered status.Memory same t = tt

-- the same of calls
pub before_told : {A : Type 0} (result : Result A Stop) → IfErr result (λ stop. IsBeforeLines stop.status) → IfErr result (λ stop. IsOfNoLine stop.status)
before_told (Ok a) b = b
before_told (Err stop) b = before_no_line stop.status b

pub before_run_told : {A : Type 0} (result : Result A Stop) (left : Option (List ℕ)) → IfErr result (λ stop. IsBeforeLines stop.status) → IfErr result (λ stop. TellsRunLine left stop.grammar stop.status)
before_run_told (Ok a) left b = b
before_run_told (Err stop) left b = before_run_line left stop.grammar stop.status b

pub read_told : {A : Type 0} (result : Result A Status) (g : Grammar) (tail : List ℕ) → HasLines g tail → IfErr result IsOfNoLine → IfErr result (ToldOfLines g tail)
read_told (Ok a) g tail r n = n
read_told (Err s) g tail r n = read_lines g tail s r n

pub told_of_source : {A : Type 0} (result : Result A Stop) (left : Option (List ℕ)) (bytes : List ℕ) → ((told : List ℕ) → left ≡ Some told → bytes ≡ told) → IfErr result (λ stop. TellsRunLine (Some bytes) stop.grammar stop.status) → IfErr result (λ stop. TellsRunLine left stop.grammar stop.status)
told_of_source (Ok p) left bytes same h = h
told_of_source (Err stop) left bytes same h = line_of_source left bytes stop.grammar stop.status same h

-- by the command that is named
pub emit_told : {A : Type 0} (result : Result A Stop) (named : Option Command) (options : Options) (left : Option (List ℕ)) → named ≡ Some (asked.Emit options) → IfErr result (λ stop. IsOfNoLine stop.status) → IfErr result (λ stop. TellsLine named left stop.grammar stop.status)
emit_told (Ok a) named options left e n = n
emit_told (Err stop) named options left e n = subst (λ (c : Option Command). TellsLine c left stop.grammar stop.status) (sym e) n

pub make_told : {A : Type 0} (result : Result A Stop) (named : Option Command) (levels : ℕ) (left : Option (List ℕ)) → named ≡ Some (asked.Make levels) → IfErr result (λ stop. IsOfNoLine stop.status) → IfErr result (λ stop. TellsLine named left stop.grammar stop.status)
make_told (Ok a) named levels left e n = n
make_told (Err stop) named levels left e n = subst (λ (c : Option Command). TellsLine c left stop.grammar stop.status) (sym e) n

pub run_told : {A : Type 0} (result : Result A Stop) (named : Option Command) (options : Options) (left : Option (List ℕ)) → named ≡ Some (asked.Run options) → IfErr result (λ stop. TellsRunLine left stop.grammar stop.status) → IfErr result (λ stop. TellsLine named left stop.grammar stop.status)
run_told (Ok a) named options left e n = n
run_told (Err stop) named options left e n = subst (λ (c : Option Command). TellsLine c left stop.grammar stop.status) (sym e) n
