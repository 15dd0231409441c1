-- A text of what was built, and why there is none.
use Rattle.std.proofs.Common.{◌≡◌, List, ℕ, Result, Ok, Err, IfOk, IsUtf8, inr, subst, sym}
use Rattle.lp_program.specs.Reads.{ReadsAs}
use Rattle.lp_repr.specs.declared.lr1.StartStates.{StartStates}
use Rattle.lp_repr.specs.declared.repr.Grammar.{Grammar}
use Rattle.lp_tree.specs.declared.tree.Program.{Program}
use Rattle.lp_write.specs.declared.rust.Options.{Options}
use Rattle.lp_assembly.specs.Built.{IsBuilt, IsBuiltWith}
use Rattle.lp_fitting.specs.Fitting.{IsFitting}
use Rattle.lp_reading_laws.specs.Printing.Laws.{text_of}
use Rattle.lp_emitted.specs.Emittable.{IsEmittable}
use Rattle.lp_emitted.proofs.Fitting.{emitted_reads_back}
use Rattle.lp_back_end_laws.specs.Filled.BackEndLaw.{SuitsCode}
use Rattle.lp_back_end_laws.specs.Filled.InMemory.{AreStatesInMemory, IsInMemory}
use Rattle.lp_back_end_laws.proofs.Ascent.Emission.{emission_agrees}
use Rattle.lp_back_end_laws.proofs.Ascent.NamesApart.{named_apart}
use Rattle.lp_emit.specs.Causes.{MayBeEmitted, Refuses}
use Rattle.lp_emit.specs.Misfits.{RefusesProgram}
use Rattle.lp_emit.specs.Texts.{IsEmission}
use Rattle.lp_emit.specs.declared.errors.EmitError.{EmitError}
use Rattle.lp_emit.specs.declared.errors.EmitError.TheVariants.{NoStart, Unsupported, BadGrammar, RecoveryInAscent, NameClash, TooMany, BadTables, BadText, WriteFault, Memory}

-- what may be emitted, whatever code is asked for
pub emittable : (g : Grammar) (states : List StartStates) → MayBeEmitted g states → IsEmittable g states
emittable g states m = record { start = m.buildable.sound.0.0; valid = m.buildable.sound.1; counts = m.buildable.counts; tabled = m.tabled; texts = m.texts }

-- where recursive ascent is asked for it suits
suits : (g : Grammar) (states : List StartStates) → MayBeEmitted g states → SuitsCode g
suits g states may is =
    let s = may.buildable.by_ascent is in
    (s.0, named_apart g (λ first second less within same. s.1 first second (record { order = less; within = within; same = same })))

pub emission :
    {S E : Type 0} (g : Grammar) (states : List StartStates) (options : Options) (bytes : S → List ℕ) (utf8 : (s : S) → IsUtf8 (bytes s)) (result : Result S E) (program : Program) →
    MayBeEmitted g states → IsInMemory g → AreStatesInMemory states → IsBuiltWith options.comments g states program → IsFitting program → IfOk result (λ t. bytes t ≡ text_of options program) →
    IfOk result (λ t. IsEmission g states options (bytes t))
emission g states options bytes utf8 (Ok t) program may memory ordered (is, commented) fits same = record {
  program = program;
  built = is;
  commented = commented;
  fitting = fits;
  printed = same;
  utf8 = utf8 t;
  reads = λ read back. subst (λ text. ReadsAs text read) (sym same) (emitted_reads_back g states program options read (emittable g states may) is fits back);
  agrees = λ read printed. emission_agrees g states options (record { memory = memory; ordered = ordered; suits = suits g states may }) (emittable g states may) program read is fits printed;
}
emission g states options bytes utf8 (Err e) program may memory ordered is fits same = same

-- what is refused of the program that is built is refused of the grammar and its states
pub refuses : (g : Grammar) (states : List StartStates) (program : Program) (error : EmitError) → MayBeEmitted g states → IsBuilt g states program → RefusesProgram g program error → Refuses g states error
refuses g states program (BadText place byte) may is r = (may.buildable, may.tabled, inr (may.texts, (program, is, r.0, r.1, r.2)))
refuses g states program Memory may is r = tt
refuses g states program NoStart may is r = absurd r
refuses g states program Unsupported may is r = absurd r
refuses g states program (BadGrammar rule place) may is r = absurd r
refuses g states program RecoveryInAscent may is r = absurd r
refuses g states program (NameClash first second) may is r = absurd r
refuses g states program (TooMany count) may is r = absurd r
refuses g states program (BadTables start state rule) may is r = absurd r
refuses g states program WriteFault may is r = absurd r
