-- The tables of one start more.
use Rattle.std.proofs.Common.{◌≡◌, ℕ, ◌+◌, ◌<◌, ◌≤◌, List, [], ◌∷◌, ◌++◌, length, get_or, map, Option, Some, None, MatchOption, arith, refl, sym, ap, ◌∙◌, subst, ⊎_elim}
use Rattle.std.specs.List.{slice_get}
use Rattle.std.specs.Borrow.{Bor}
use Rattle.std.specs.BTreeMap.{keys}
use Rattle.std.specs.Map.Iter.{deref}
use Rattle.std.proofs.lemmas.List.{length_push, length-map}
use Rattle.std.proofs.lemmas.Option.{slice_get_cases}
use Rattle.lp_repr.specs.Closure.{given}
use Rattle.lp_repr.specs.Numbering.{rules_of}
use Rattle.lp_repr.specs.ValidTables.{IsValidTables}
use Rattle.lp_repr.specs.declared.lr1.Lr1State.{Lr1State}
use Rattle.lp_repr.specs.declared.lr1.StartStates.{StartStates}
use Rattle.lp_repr.specs.declared.numbering.SymbolNumber.{SymbolNumber}
use Rattle.lp_repr.specs.declared.repr.Grammar.{Grammar}
use Rattle.lp_repr.specs.declared.repr.NonterminalString.{NonterminalString}
use Rattle.lp_states.specs.Causes.{IsCause}
use Rattle.lp_states.specs.States.{AreStates}
use Rattle.lp_states.specs.declared.builder.BuildFault.TheVariants as build
use Rattle.lp_states.proofs.WalkSteps.{push_cases}
use Rattle.lp_valid.specs.ValidGrammar.{IsValidGrammar}
use Rattle.lp_starts.specs.Tables.{AreStatesOf, IsTableOf, AreFirst, AreValid, ShiftsAscend, HaveNoFault, IsFaultAt, HasNoTables}
use Rattle.lp_starts.proofs.Declared.{symbols_in_range, start_known}
use Rattle.lp_starts.proofs.ValidStates.{are_valid_tables}
use Rattle.lp_starts.specs.declared.tables.TablesFault.{TablesFault}
use Rattle.lp_starts.specs.declared.tables.TablesFault.TheVariants.{BadGrammar, Conflict, TooManyStates, Memory}

-- one start more
pub first_more : (g : Grammar) (n : ℕ) (ts : List StartStates) (t : StartStates) → AreFirst g n ts → IsTableOf g n t → AreFirst g (n + 1) (ts ++ t ∷ [])
first_more g n ts t h is = (
  (let count = length_push ts t in omega (arith, count, h.0)),
  λ k u at. ⊎_elim
      (λ (a : slice_get ts k ≡ Some u). h.1 k u a)
      (λ (a : (k ≡ length ts) × (u ≡ t)). subst (λ (j : ℕ). IsTableOf g j u) (sym (a.0 ∙ h.0)) (subst (λ (v : StartStates). IsTableOf g n v) (sym a.1) is))
      (push_cases ts t k u at),
)

-- the canonical states of a start of a valid grammar are valid tables
pub states_valid : (g : Grammar) (start : ℕ) (name : NonterminalString) (states : List Lr1State) → IsValidGrammar g → slice_get (keys g.start_nonterminals) start ≡ Some name → AreStatesOf g start states → ShiftsAscend states → IsValidTables g start states
states_valid g start name states v at are ascend =
    let s = start_known g v start name at in
    let m : (paths : List (List SymbolNumber)) × AreStates (rules_of g) s.0 paths states = subst (λ (o : Option ℕ). MatchOption o (states ≡ []) (λ n. (paths : List (List SymbolNumber)) × AreStates (rules_of g) n paths states)) s.1 are in
    are_valid_tables g start s.0 m.0 states (symbols_in_range g v) m.1 s.1 (s.2, 0, given s.2 0 (s.3, refl)) ascend

-- valid tables of one start more
pub valid_more : (g : Grammar) (n : ℕ) (ts : List StartStates) (t : StartStates) → length ts ≡ n → AreValid g ts → IsValidTables g n t.states → AreValid g (ts ++ t ∷ [])
valid_more g n ts t count h is k u at =
    ⊎_elim (h k u) (λ (a : (k ≡ length ts) × (u ≡ t)). subst (λ (j : ℕ). IsValidTables g j u.states) (sym (a.0 ∙ count)) (subst (λ (v : StartStates). IsValidTables g n v.states) (sym a.1) is)) (push_cases ts t k u at)

-- all of them
pub first_all : (g : Grammar) (names : List (Bor NonterminalString)) (n : ℕ) (ts : List StartStates) → map deref names ≡ keys g.start_nonterminals → n ≡ length names → AreFirst g n ts → AreFirst g (length (keys g.start_nonterminals)) ts
first_all g names n ts named all h =
    (h.0 ∙ all ∙ sym (length-map names deref) ∙ ap length named, h.1)

-- those that have tables have states
pub none_before : (g : Grammar) (n : ℕ) (ts : List StartStates) → AreFirst g n ts → HaveNoFault g n
none_before g n ts h = λ k lt. ⊎_elim
    (λ (a : (x : StartStates) × (k < length ts) × (slice_get ts k ≡ Some x) × (get_or ts k x ≡ x)). (a.0.states, (h.1 k a.0 a.2).1))
    (λ (a : (length ts ≤ k) × (slice_get ts k ≡ None)). absurd (omega (arith, a.0, h.0, lt)))
    (slice_get_cases ts k).1

-- the fault of the first start without a table is the grammar's
pub fault_after : (g : Grammar) (n : ℕ) (ts : List StartStates) (e : TablesFault) → IsValidGrammar g → AreFirst g n ts → IsFaultAt g n e → HasNoTables g e
fault_after g n ts (BadGrammar rule place) v h f = absurd f
fault_after g n ts (Conflict start path token) v h f =
    (v, subst (HaveNoFault g) (sym f.0) (none_before g n ts h), subst (λ (k : ℕ). IsCause g k (build.Conflict path token)) (sym f.0) f.1)
fault_after g n ts (TooManyStates start paths) v h f =
    (v, subst (HaveNoFault g) (sym f.0) (none_before g n ts h), subst (λ (k : ℕ). IsCause g k (build.TooManyStates paths)) (sym f.0) f.1)
fault_after g n ts Memory v h f = tt
