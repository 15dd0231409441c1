use Rattle.std.proofs.Common.{◌≡◌, ◌↔◌, ℕ, length, get_or, sym, subst, arith, IfOk, IfSome, IsSome, IsTrue, Some, slice_get}
use Rattle.std.specs.BTreeMap.{get}
use Rattle.std.specs.List.{AllByRecursion}
use Rattle.std.specs.Ordering.{nat_cmp}
use Rattle.std.proofs.lemmas.Option.{slice_get-get_or}
use Rattle.lp_repr.specs.ValidTables.{Begins, Follows, acting_tokens}
use Rattle.lp_repr.specs.declared.lr1.Lr1State.{Lr1State}
use Rattle.lp_repr.specs.declared.numbering.SymbolNumber.TheVariants as symbol
use Rattle.lp_tables.specs.Gathering.{known_by}
use Rattle.lp_tables.specs.Reductions.{IsComplete, StandOnce}
use Rattle.lp_tables.specs.TableRules.{Says, IsInRange, HasTargets}
use Rattle.lp_tables.proofs.LeastRule.{said, said_ok, said_of_first}
use Rattle.lp_tables.proofs.check.holds.Goals as goal

pub returns-else-number-gt0 : goal.returns-else-number-gt0
returns-else-number-gt0 c =
    let g = known_by c.args.tables.now in
    let ss = c.args.tables.now.states.now in
    let n = c.args.number in
    let s = get_or ss n c.index-tables-number.result in
    let at : slice_get ss n ≡ Some s = slice_get-get_or ss n c.index-tables-number.result c.requires.within in
    let zero : n ≡ 0 = omega arith in
    subst (λ r. IfOk c.begins.result (λ b. IsTrue b ↔ Says g ss r n)) (sym c.in-Start.is)
    (said_of_first g ss n (IfSome (slice_get ss n) (Begins g.rules g.start)) c.begins.result zero (said_ok g ss n (Begins g.rules g.start) s c.begins.result at c.begins.ensures))

pub returns-in-Ranges : goal.returns-in-Ranges
returns-in-Ranges c =
    let g = known_by c.args.tables.now in
    let ss = c.args.tables.now.states.now in
    let n = c.args.number in
    let s = get_or ss n c.index-tables-number.result in
    let at : slice_get ss n ≡ Some s = slice_get-get_or ss n c.index-tables-number.result c.requires.within in
    subst (λ r. IsTrue c.is_in_range.result ↔ Says g ss r n) (sym c.in-Ranges.is) (said g ss n (IsInRange g (length ss)) s c.is_in_range.result at c.is_in_range.ensures)

pub returns-in-Targets : goal.returns-in-Targets
returns-in-Targets c =
    let g = known_by c.args.tables.now in
    let ss = c.args.tables.now.states.now in
    let n = c.args.number in
    let s = get_or ss n c.index-tables-number.result in
    let at : slice_get ss n ≡ Some s = slice_get-get_or ss n c.index-tables-number.result c.requires.within in
    subst (λ r. IsTrue c.has_targets.result ↔ Says g ss r n) (sym c.in-Targets.is) (said g ss n (HasTargets g ss) s c.has_targets.result at c.has_targets.ensures)

pub returns-in-Shifts : goal.returns-in-Shifts
returns-in-Shifts c =
    let g = known_by c.args.tables.now in
    let ss = c.args.tables.now.states.now in
    let n = c.args.number in
    let s = get_or ss n c.index-tables-number.result in
    let at : slice_get ss n ≡ Some s = slice_get-get_or ss n c.index-tables-number.result c.requires.within in
    subst (λ r. IfOk c.edges_stand.result (λ b. IsTrue b ↔ Says g ss r n)) (sym c.in-Shifts.is)
    (said_ok g ss n (λ (s : Lr1State). (k : ℕ) → IsSome (get nat_cmp s.shifts k) ↔ Follows g.rules s (symbol.Terminal k)) s c.edges_stand.result at c.edges_stand.ensures)

pub returns-in-Reductions : goal.returns-in-Reductions
returns-in-Reductions c =
    let g = known_by c.args.tables.now in
    let ss = c.args.tables.now.states.now in
    let n = c.args.number in
    let s = get_or ss n c.index-tables-number.result in
    let at : slice_get ss n ≡ Some s = slice_get-get_or ss n c.index-tables-number.result c.requires.within in
    subst (λ r. IsTrue c.reduces_complete.result ↔ Says g ss r n) (sym c.in-Reductions.is)
    (said g ss n (λ (s : Lr1State). AllByRecursion (λ r. IsComplete g.rules s.items r.1) s.reductions) s c.reduces_complete.result at c.reduces_complete.ensures)

pub returns-in-Actions : goal.returns-in-Actions
returns-in-Actions c =
    let g = known_by c.args.tables.now in
    let ss = c.args.tables.now.states.now in
    let n = c.args.number in
    let s = get_or ss n c.index-tables-number.result in
    let at : slice_get ss n ≡ Some s = slice_get-get_or ss n c.index-tables-number.result c.requires.within in
    subst (λ r. IfOk c.acts_once.result (λ b. IsTrue b ↔ Says g ss r n)) (sym c.in-Actions.is) (said_ok g ss n (λ (s : Lr1State). StandOnce (acting_tokens s)) s c.acts_once.result at c.acts_once.ensures)

pub returns-in-Gotos : goal.returns-in-Gotos
returns-in-Gotos c =
    let g = known_by c.args.tables.now in
    let ss = c.args.tables.now.states.now in
    let n = c.args.number in
    let s = get_or ss n c.index-tables-number.result in
    let at : slice_get ss n ≡ Some s = slice_get-get_or ss n c.index-tables-number.result c.requires.within in
    subst (λ r. IfOk c.edges_stand-in-Gotos.result (λ b. IsTrue b ↔ Says g ss r n)) (sym c.in-Gotos.is)
    (said_ok g ss n (λ (s : Lr1State). (k : ℕ) → IsSome (get nat_cmp s.gotos k) ↔ Follows g.rules s (symbol.Nonterminal k)) s c.edges_stand-in-Gotos.result at c.edges_stand-in-Gotos.ensures)
