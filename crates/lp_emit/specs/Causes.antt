-- Why nothing is emitted, in the order of the causes, and what a sink then holds.
use Rattle.std.specs.Prelude.{◌≡◌, ℕ, ◌<◌, ◌⊎◌, true, false, List}
use Rattle.lp_repr.specs.declared.lr1.StartStates.{StartStates}
use Rattle.lp_repr.specs.declared.repr.Grammar.{Grammar}
use Rattle.lp_repr.specs.declared.repr.LrCodeGeneration.TheVariants.{TestAll, RecursiveAscent}
use Rattle.lp_texts.specs.TextRules.{TextsMeet, IsFirstFault}
use Rattle.lp_texts.specs.declared.faults.TextFault.TheVariants.{Bad}
use Rattle.lp_texts.specs.declared.faults.TextPlace.{TextPlace}
use Rattle.lp_valid.specs.Refusals.{RefusesGrammar}
use Rattle.lp_valid.specs.ValidGrammar.{IsValidGrammar}
use Rattle.lp_valid.specs.declared.grammars.GrammarFault.TheVariants.{Rule}
use Rattle.lp_write.specs.Sinks.{Told, Broke}
use Rattle.lp_write.specs.declared.rust.Options.{Options}
use Rattle.lp_emit.specs.Clashes.{HasNoClash, IsLeastClash}
use Rattle.lp_emitted.specs.Emittable.{AreTabled, CountsFit, HasNoStart, greatest_count}
use Rattle.lp_emit.specs.Lists.{IsTableFailure}
use Rattle.lp_emit.specs.Misfits.{HasFit, HasMisfit}
use Rattle.lp_emit.specs.Texts.{IsEmission}
use Rattle.lp_emit.specs.declared.errors.EmitError.{EmitError}
use Rattle.lp_emit.specs.declared.errors.EmitError.TheVariants.{NoStart, Unsupported, BadGrammar, RecoveryInAscent, NameClash, TooMany, BadTables, BadText, WriteFault, Memory}

-- the code of all back ends is asked for
abbrev pub AsksForAll : Grammar → Type 0
AsksForAll g = g.algorithm.codegen ≡ TestAll

-- recursive ascent is asked for
abbrev pub IsByAscent : Grammar → Type 0
IsByAscent g = g.algorithm.codegen ≡ RecursiveAscent

-- there are more states of a start, or more productions, than there are such numbers
abbrev pub HasTooMany : Grammar → List StartStates → ℕ → Type 0
HasTooMany g states count = (count ≡ greatest_count g states) × (2147483647 < count)

-- there is a start, and the code of one back end is asked for
abbrev pub IsSupported : Grammar → Type 0
IsSupported g = (¬ HasNoStart g) × (¬ AsksForAll g)

-- and the grammar is valid
abbrev pub IsSound : Grammar → Type 0
IsSound g = IsSupported g × IsValidGrammar g

-- where recursive ascent is asked for, there is no recovery, and no two nonterminals have one escaped
-- name
abbrev pub SuitsAscent : Grammar → Type 0
SuitsAscent g = IsByAscent g → (g.uses_error_recovery ≡ false) × HasNoClash g

-- none of the causes before those of tables and texts holds
pub record IsBuildable (g : Grammar) (states : List StartStates) : Type 0 where
  pub sound : IsSound g
  pub by_ascent : SuitsAscent g
  pub counts : CountsFit g states

-- none of the causes holds
pub record MayBeEmitted (g : Grammar) (states : List StartStates) : Type 0 where
  pub buildable : IsBuildable g states
  pub tabled : AreTabled g states
  pub texts : TextsMeet g

-- this text breaks the rule of its kind, and is the first that does; or each meets its rule, but not all may stand where they
-- are put together, which is told behind them
abbrev pub BreaksText : Grammar → List StartStates → TextPlace → ℕ → Type 0
BreaksText g states place byte = IsFirstFault g (Bad place byte) ⊎ (TextsMeet g × HasMisfit g states place byte)

-- what each refusal tells of the grammar and its states: its cause, and that no earlier one holds
abbrev pub Refuses : Grammar → List StartStates → EmitError → Type 0
Refuses g states NoStart = HasNoStart g
Refuses g states Unsupported = (¬ HasNoStart g) × AsksForAll g
Refuses g states (BadGrammar rule place) = IsSupported g × RefusesGrammar g (Rule rule place)
Refuses g states RecoveryInAscent = IsSound g × IsByAscent g × (g.uses_error_recovery ≡ true)
Refuses g states (NameClash first second) = IsSound g × IsByAscent g × (g.uses_error_recovery ≡ false) × IsLeastClash g first second
Refuses g states (TooMany count) = IsSound g × SuitsAscent g × HasTooMany g states count
Refuses g states (BadTables start state rule) = IsBuildable g states × IsTableFailure g states start state rule
Refuses g states (BadText place byte) = IsBuildable g states × AreTabled g states × BreaksText g states place byte
Refuses g states WriteFault = ⊥
Refuses g states Memory = Unit {0}

-- a refusal whatever the states are
abbrev pub RefusesAlways : Grammar → EmitError → Type 0
RefusesAlways g error = (states : List StartStates) → Refuses g states error

-- why a text is not written: its cause, or a fault of the sink where no cause holds
abbrev pub RefusesToWrite : Grammar → List StartStates → EmitError → Type 0
RefusesToWrite g states WriteFault = MayBeEmitted g states × HasFit g states
RefusesToWrite g states error = Refuses g states error

-- what a sink tells after a refusal: of the text a part was appended and its count rose, else nothing changed
abbrev pub AfterRefusal : Grammar → List StartStates → Options → Told → Told → EmitError → Type 0
AfterRefusal g states options old new WriteFault = (text : List ℕ) × IsEmission g states options text × Broke old new text
AfterRefusal g states options old new error = new ≡ old
