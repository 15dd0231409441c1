-- The faults of a text: its grammar is refused, or has no tables.
use Rattle.std.proofs.Common.{◌≡◌, ◌⊎◌, inl, inr, ℕ, List, Result, Ok, Err, IfErr, subst, sym}
use Rattle.std.specs.Prelude.{IsErrAnd}
use Rattle.lp_lines.specs.File.{IsCutFile}
use Rattle.lp_lower.specs.Causes.{IsCause}
use Rattle.lp_lower.specs.declared.lowering.LowerFault.{LowerFault}
use Rattle.lp_lower.specs.declared.lowering.LowerFault.TheVariants as lower
use Rattle.lp_reading.specs.Bytes.{IsPlainOf}
use Rattle.lp_reading.specs.declared.bytes.BytesFault.{BytesFault}
use Rattle.lp_reading.specs.declared.bytes.BytesFault.TheVariants as spell
use Rattle.lp_repr.specs.declared.repr.Grammar.{Grammar}
use Rattle.lp_starts.specs.Tables.{HasNoTables}
use Rattle.lp_starts.specs.declared.tables.TablesFault.{TablesFault}
use Rattle.lp_starts.specs.declared.tables.TablesFault.TheVariants as none
use Rattle.lp_syntax.specs.declared.plain.PlainGrammar.{PlainGrammar}
use Rattle.lp_plain.specs.Front.{LowersTo, IsTextFault, Unlowered, Unspelled, Untabled, IsFaultOf, IsFileFault}
use Rattle.lp_plain.specs.declared.file.FrontFault.{FrontFault}
use Rattle.lp_plain.specs.declared.file.FrontFault.TheVariants as front

-- the lowering of what it spells is refused
pub unlowered_fault : (text : List ℕ) (plain : PlainGrammar) (fault : LowerFault) (e : BytesFault) → IsPlainOf text plain → IsCause plain fault → Unlowered fault e → IsTextFault text e
unlowered_fault text plain (lower.UnknownName place) e p c u = subst (IsTextFault text) (sym u) (inr (plain, p, inl c))
unlowered_fault text plain (lower.InlineOrder place) e p c u = subst (IsTextFault text) (sym u) (inr (plain, p, inr (inl c)))
unlowered_fault text plain (lower.Duplicate place) e p c u = subst (IsTextFault text) (sym u) (inr (plain, p, inr (inr (inl c))))
unlowered_fault text plain (lower.TooManyProductions place) e p c u = subst (IsTextFault text) (sym u) (inr (plain, p, inr (inr (inr c))))
unlowered_fault text plain lower.Memory e p c u = subst (IsTextFault text) (sym u) tt

-- a text that gives no grammar
pub unspelled_fault : (text : List ℕ) (fault : BytesFault) (e : FrontFault) → IsTextFault text fault → Unspelled fault e → IsFaultOf text e
unspelled_fault text (spell.Grammar place) e t u = subst (IsFaultOf text) (sym u) t
unspelled_fault text spell.Memory e t u = subst (IsFaultOf text) (sym u) tt

-- its lowering has no tables
pub untabled_fault : (text : List ℕ) (plain : PlainGrammar) (g : Grammar) (fault : TablesFault) (e : FrontFault) → IsPlainOf text plain → LowersTo plain g → HasNoTables g fault → Untabled fault e → IsFaultOf text e
untabled_fault text plain g (none.BadGrammar rule place) e p l h u = subst (IsFaultOf text) (sym u) (plain, g, (p, l), h)
untabled_fault text plain g (none.Conflict start path token) e p l h u = subst (IsFaultOf text) (sym u) (plain, g, (p, l), h)
untabled_fault text plain g (none.TooManyStates start paths) e p l h u = subst (IsFaultOf text) (sym u) (plain, g, (p, l), h)
untabled_fault text plain g none.Memory e p l h u = subst (IsFaultOf text) (sym u) tt

-- want of memory
pub memory_fault : {A : Type 0} (bytes text tail : List ℕ) (r : Result A FrontFault) → IsCutFile bytes text tail → IsErrAnd r (λ e. e ≡ front.Memory) → IfErr r (IsFileFault bytes)
memory_fault bytes text tail (Ok x) cut is = absurd is
memory_fault bytes text tail (Err e) cut is = (text, tail, cut, subst (IsFaultOf text) (sym is) tt)
