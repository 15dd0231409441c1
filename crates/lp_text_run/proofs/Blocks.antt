-- The blocks of one line more, and the first line without a run.
use Rattle.std.proofs.Common.{◌≡◌, ℕ, suc, ◌+◌, List, ◌++◌, Some, Result, Ok, Err, IfErr, slice_get, subst, sym, arith}
use Rattle.lp_driver.specs.Values.{Text}
use Rattle.lp_lines.specs.declared.token_line.TokenLine.{TokenLine}
use Rattle.lp_program.specs.Choosing.{IsProgramOf}
use Rattle.lp_repr.specs.declared.values.RunItem.{RunItem}
use Rattle.lp_tree.specs.declared.tree.Program.{Program}
use Rattle.lp_text_run.specs.Blocks.{AreBlocks, IsFollowed, IsLineFault, IsRunFault, RunsLine, block_of}
use Rattle.lp_text_run.specs.Courses.{Course, IsCourse}
use Rattle.lp_text_run.specs.declared.text_run.TextRunFault.{TextRunFault}
use Rattle.lp_text_run.specs.declared.text_run.TextRunFault.TheVariants as fault

pub blocks_more :
    (program : Program) (params : List Text) (lines : List TokenLine) (n : ℕ) (line : TokenLine) (before text : List ℕ) (course : Course) →
    slice_get lines n ≡ Some line → AreBlocks program params lines n before → RunsLine program params line course →
    text ≡ before ++ block_of n line course → AreBlocks program params lines (n + 1) text
blocks_more program params lines n line before text course at h runs f =
    let e : suc n ≡ n + 1 = omega arith in
    let one : IsFollowed program params (slice_get lines n) n before text = subst (λ x. IsFollowed program params x n before text) (sym at) (course, runs, f) in
    subst (λ k. AreBlocks program params lines k text) e (before, h, one)

-- a line without a run, behind lines that have one
pub first_without :
    (text : Text) (program : Program) (params : List Text) (lines : List TokenLine) (place : ℕ) (line : TokenLine) (before : List ℕ) (why : TextRunFault) →
    IsProgramOf text program → slice_get lines place ≡ Some line → AreBlocks program params lines place before → IsLineFault program params line (place + 1) why → IsRunFault text params lines why
first_without text program params lines place line before (fault.NoForm at) r s b f = absurd f
first_without text program params lines place line before (fault.NoStart at) r s b f = (program, place, r, (line, before, s, b, f))
first_without text program params lines place line before (fault.ParameterCount at) r s b f = (program, place, r, (line, before, s, b, f))
first_without text program params lines place line before fault.Memory r s b f = tt

-- the same of what a call answered
pub fault_of :
    {A : Type 0} (text : Text) (program : Program) (params : List Text) (lines : List TokenLine) (place : ℕ) (line : TokenLine) (before : List ℕ) (result : Result A TextRunFault) →
    IsProgramOf text program → slice_get lines place ≡ Some line → AreBlocks program params lines place before →
    IfErr result (IsLineFault program params line (place + 1)) → IfErr result (IsRunFault text params lines)
fault_of text program params lines place line before (Ok a) r s b f = f
fault_of text program params lines place line before (Err why) r s b f = first_without text program params lines place line before why r s b f

-- the course of a line is that of its parts
pub of_line :
    (program : Program) (start : Text) (items : List RunItem) (params : List Text) (failing : List ℕ) (line : TokenLine) (course : Course) →
    start ≡ line.start → items ≡ line.items → failing ≡ line.failing → IsCourse program start items params failing line.budget course → RunsLine program params line course
of_line program start items params failing line course s i f h =
    subst (λ x. IsCourse program x line.items params line.failing line.budget course) s
    (subst (λ x. IsCourse program start x params line.failing line.budget course) i
    (subst (λ x. IsCourse program start items params x line.budget course) f h))
