-- The tables of a grammar are never why its emission is refused.
use Rattle.std.proofs.Common.{◌≡◌, ◌<◌, ◌≤◌, ℕ, IsTrue, List, [], Option, Some, None, IfSome, MatchOption, ⊎_elim, length, get_or, slice_get, subst, sym, refl, arith}
use Rattle.std.proofs.lemmas.Bool.Decides.{Decides-eqb}
use Rattle.std.proofs.lemmas.Option.{slice_get_cases, slice_get_past}
use Rattle.std.proofs.lemmas.Slice.Eq.{slice_eq-Decides}
use Rattle.std.specs.BTreeMap.{keys}
use Rattle.lp_emit.specs.Causes.{Refuses}
use Rattle.lp_emit.specs.Lists.{FailsByTables, IsTableFailure}
use Rattle.lp_emitted.specs.Emittable.{HasItsList, IsListed, IsTabled}
use Rattle.lp_emit.specs.declared.errors.EmitError.TheVariants.{BadTables}
use Rattle.lp_repr.specs.Names.{same_nonterminal}
use Rattle.lp_repr.specs.ValidTables.{IsValidTables}
use Rattle.lp_repr.specs.declared.lr1.StartStates.{StartStates}
use Rattle.lp_repr.specs.declared.repr.Grammar.{Grammar}
use Rattle.lp_repr.specs.declared.repr.NonterminalString.{NonterminalString}
use Rattle.lp_starts.proofs.Refused.{not_valid}
use Rattle.lp_starts.specs.Tables.{AreTablesOf, AreValid}
use Rattle.lp_tables.specs.Refusals.{RefusesTables}
use Rattle.lp_tables.specs.declared.check.TableFault.TheVariants.{Rule}
use Rattle.lp_valid.specs.Refusals.{RefusesGrammar}
use Rattle.lp_valid.specs.declared.grammars.GrammarFault.TheVariants as grammar
use Rattle.lp_prepared.specs.Told.{AreTablesOrNone}

same_name : (n : NonterminalString) → IsTrue (same_nonterminal n n)
same_name n = (slice_eq-Decides Decides-eqb n.0 n.0 (same_nonterminal n n) refl).1 refl

-- a start and its list, and neither
abbrev Fits : Grammar → ℕ → Option NonterminalString → Option StartStates → Type 0
Fits g start name list = HasItsList name list × IfSome list (λ l. IsValidTables g start l.states)

fits_list : (g : Grammar) (start : ℕ) (name : Option NonterminalString) (list : Option StartStates) (t : StartStates) → name ≡ Some t.start → list ≡ Some t → IsValidTables g start t.states → Fits g start name list
fits_list g start name list t named listed valid =
    subst (λ (n : Option NonterminalString). Fits g start n list) (sym named)
    (subst (Fits g start (Some t.start)) (sym listed) ((same_name t.start, valid.some_state), valid))

fits_none : (g : Grammar) (start : ℕ) (name : Option NonterminalString) (list : Option StartStates) → name ≡ None → list ≡ None → Fits g start name list
fits_none g start name list unnamed unlisted =
    subst (λ (n : Option NonterminalString). Fits g start n list) (sym unnamed)
    (subst (Fits g start None) (sym unlisted) (tt, tt))

-- each start has its list
tabled : (g : Grammar) (tables : List StartStates) → AreTablesOf g tables → AreValid g tables → (start : ℕ) → IsTabled g tables start
tabled g tables t v start =
    let names = keys g.start_nonterminals in
    ⊎_elim
    (λ (found : (x : StartStates) × (start < length tables) × (slice_get tables start ≡ Some x) × (get_or tables start x ≡ x)).
    fits_list g start (slice_get names start) (slice_get tables start) found.0 (t.all.1 start found.0 found.2).0 found.2 (v start found.0 found.2))
    (λ (past : (length tables ≤ start) × (slice_get tables start ≡ None)).
    fits_none g start (slice_get names start) (slice_get tables start) (slice_get_past names start (omega (arith, past.0, t.all.0))) past.1)
    (slice_get_cases tables start).1

-- a list of valid tables is not refused for a rule
not_refused : (g : Grammar) (start state rule : ℕ) (list : Option StartStates) → IfSome list (λ l. IsValidTables g start l.states) → MatchOption list ⊥ (λ l. RefusesTables g start l.states (Rule rule state)) → ⊥
not_refused g start state rule (Some l) valid refused = refused.0 valid
not_refused g start state rule None valid refused = refused

no_failure : (g : Grammar) (tables : List StartStates) (start state rule : ℕ) → IsTabled g tables start → IsTableFailure g tables start state rule → ⊥
no_failure g tables start state rule t f = ⊎_elim
    (λ (lacks : (rule ≡ 1) × (state ≡ 0) × (IsListed g tables start → ⊥)). lacks.2 t.0)
    (λ (fails : FailsByTables g tables start state rule). not_refused g start state rule (slice_get tables start) t.1 fails.1)
    f.1

pub not_for_tables : (g : Grammar) (tables : List StartStates) (start state rule : ℕ) → AreTablesOrNone g tables → Refuses g tables (BadTables start state rule) → ⊥
not_for_tables g tables start state rule a r = ⊎_elim
    (λ (t : AreTablesOf g tables × AreValid g tables). no_failure g tables start state rule (tabled g tables t.0 t.1 start) r.1)
    (λ (t : (tables ≡ []) × ((rule : ℕ) × (place : ℕ) × RefusesGrammar g (grammar.Rule rule place))). not_valid g t.1.0 t.1.1 t.1.2 r.0.sound.1)
    a
