-- A reduction of valid tables: its production, its symbols on the path, and whether it is the start's.
use Rattle.std.proofs.Common.{◌≡◌, ℕ, ◌-◌, ◌≤◌, Bool, true, false, List, length, map, drop, Option, Some, None, slice_get, refl, sym, ap, ◌∙◌, arith}
use Rattle.std.specs.BTreeMap.{values}
use Rattle.std.specs.Option.{unwrap_or}
use Rattle.std.proofs.lemmas.Option.{same_Some}
use Rattle.lp_repr.specs.Names.{same_nonterminal}
use Rattle.lp_repr.specs.Numbering as by_symbols
use Rattle.lp_repr.specs.Numbering.{productions_of, nonterminal_number, number_or_count}
use Rattle.lp_repr.specs.declared.lr1.Lr1State.{Lr1State}
use Rattle.lp_repr.specs.declared.numbering.Rule as numbering
use Rattle.lp_repr.specs.declared.numbering.SymbolNumber.{SymbolNumber}
use Rattle.lp_repr.specs.declared.numbering.SymbolNumber.TheVariants as symbol
use Rattle.lp_repr.specs.declared.repr.Grammar.{Grammar}
use Rattle.lp_repr.specs.declared.repr.NonterminalString.{NonterminalString}
use Rattle.lp_repr.specs.declared.repr.Production.{Production}
use Rattle.lp_driver.specs.DriverState.{last_of}
use Rattle.lp_machine.specs.declared.lookup.Rule.{Rule}
use Rattle.lp_machine.specs.Lookup.{goto_in}
use Rattle.lp_machine.specs.ReductionSpan.{below, popped}
use Rattle.lp_machine.specs.Tables.{Tables}
use Rattle.lp_table.specs.Starts as table
use Rattle.lp_table.specs.Starts.{Start}
use Rattle.lp_table.specs.ReductionLines.{left_number}
use Rattle.lp_turn_laws.specs.Paths.Over.{IsOver}
use Rattle.lp_turn_laws.specs.Paths.Standing.{IsReducible}
use Rattle.lp_turn_laws.specs.Paths.Walks.{IsPath, edge_at, edge_from}
use Rattle.lp_turn_laws.proofs.Paths.Numbered.{Entry, rule_place}
use Rattle.lp_turn_laws.proofs.Paths.Over.{leads_on, ends_alone}
use Rattle.lp_turn_laws.proofs.Paths.Starts.{start_entry}
use Rattle.lp_question_laws.proofs.Reductions.Rules.{Stands, production_stands, start_known, edge_named}
use Rattle.lp_question_laws.proofs.Reductions.Going.{top_goto}

goto_edge : (o : Option Lr1State) (n : ℕ) → goto_in o n ≡ edge_from o (symbol.Nonterminal n)
goto_edge None n = refl
goto_edge (Some s) n = refl

module _ {g : Grammar} {start : ℕ} {states : List Lr1State} {t : Tables} (over : IsOver g start states t) (st : Start) (st_at : slice_get (values g.start_nonterminals) start ≡ Some st.nonterminal) where
  module _ (pn : ℕ) (rule : Rule) (stack : List ℕ) (xs : List SymbolNumber) (is : t.rule pn ≡ Some rule) (r : IsReducible g states stack rule) (r_is : r.production ≡ pn) (path : IsPath states stack xs) where
    pub stands : Stands g pn rule
    stands = production_stands g over.grammar pn rule (sym (over.known.rule pn) ∙ is)

    abbrev prod : Production
    prod = stands.production

    pub length_is : rule.length ≡ length prod.symbols
    length_is = ap (λ (q : Rule). q.length) stands.rule_is

    pub action_is : rule.action ≡ prod.action
    action_is = ap (λ (q : Rule). q.action) stands.rule_is

    nonterminal_is : rule.nonterminal ≡ stands.number
    nonterminal_is = ap (λ (q : Rule). q.nonterminal) stands.rule_is

    pub right_is : (r.by_symbols).right ≡ map (number_or_count g) prod.symbols
    right_is =
        let at : slice_get (by_symbols.rules_of g) pn ≡ Some r.by_symbols = ap (slice_get (by_symbols.rules_of g)) (sym r_is) ∙ r.at in
        let c = rule_place g pn r.by_symbols at in
        let same : c.0.production ≡ prod = same_Some c.0.production prod (sym c.2 ∙ stands.at) in
        ap (λ (q : numbering.Rule). q.right) c.1 ∙ ap (λ (q : Production). map (number_or_count g) q.symbols) same

    -- its symbols are on top
    by_start : (b : Bool) → rule.is_start ≡ b → (rule.length ≤ length xs) × (popped rule.length xs ≡ (r.by_symbols).right)
    by_start true e =
        let w = ends_alone over stack xs rule r path e in
        let none : length xs - rule.length ≡ 0 = omega (arith, w.one, w.fits) in
        (omega (arith, w.one, w.fits), ap (λ k. drop k xs) none ∙ w.same)
    by_start false e = let m = leads_on over stack xs rule r path e in (m.fits, m.same)

    pub fits : rule.length ≤ length xs
    fits = (by_start rule.is_start refl).0

    pub tops_are : popped rule.length xs ≡ map (number_or_count g) prod.symbols
    tops_are = (by_start rule.is_start refl).1 ∙ right_is

    -- whether it is the start's
    own : rule.is_start ≡ true → same_nonterminal st.nonterminal stands.entry.0 ≡ true
    own e =
        let w = ends_alone over stack xs rule r path e in
        let s = start_entry g over.grammar start over.number over.begun in
        let v : s.0 ≡ st.nonterminal = same_Some s.0 st.nonterminal (sym s.1 ∙ st_at) in
        let n : stands.number ≡ over.number = sym nonterminal_is ∙ w.own in
        let one : s.3 ≡ stands.entry = same_Some s.3 stands.entry (sym s.4 ∙ ap (slice_get g.nonterminals.entries) (sym n) ∙ stands.entry_at) in
        ap (λ (m : NonterminalString). same_nonterminal m stands.entry.0) (sym v) ∙ ap (λ (q : Entry). same_nonterminal s.0 q.0) (sym one) ∙ s.5

    pub starts_is : table.is_start st prod ≡ rule.is_start
    starts_is = start_known g start st prod stands.entry rule.is_start st_at stands.name_same (sym (ap (λ (q : Rule). q.is_start) stands.rule_is)) own

    -- the number of its nonterminal
    pub left_is : rule.is_start ≡ false → left_number g prod ≡ rule.nonterminal
    left_is e =
        let m = leads_on over stack xs rule r path e in
        let w = top_goto t (last_of (below rule.length stack)) rule.nonterminal m.to m.goto in
        let edge : edge_at states w.0 (symbol.Nonterminal rule.nonterminal) ≡ Some m.to = sym (goto_edge (slice_get states w.0) rule.nonterminal) ∙ sym (over.known.goto w.0 rule.nonterminal) ∙ w.2 in
        let at : slice_get g.nonterminals.entries rule.nonterminal ≡ Some stands.entry = ap (slice_get g.nonterminals.entries) nonterminal_is ∙ stands.entry_at in
        let named = edge_named g start states over.tables w.0 rule.nonterminal m.to edge stands.entry at in
        ap (λ (n : NonterminalString). unwrap_or (nonterminal_number g n) 0) stands.name_same ∙ ap (λ o. unwrap_or o 0) named
