-- The production of a machine's rule that is reduced: its name, its number, and whether it is the start's.
use Rattle.std.proofs.Common.{◌≡◌, ℕ, zero, suc, ◌+◌, ◌<◌, ◌≤◌, Bool, true, false, List, [], ◌∷◌, length, Option, Some, None, IsTrue, slice_get, refl, sym, ap, ◌∙◌, subst, arith}
use Rattle.std.specs.BTreeMap.{values}
use Rattle.std.specs.Cmp.Lexicographic.{bytes_decides}
use Rattle.std.specs.List.{list_any}
use Rattle.std.specs.Option.{option_map, unwrap_or}
use Rattle.std.proofs.lemmas.Bool.{and_parts, false≢true}
use Rattle.std.proofs.lemmas.Option.{same_Some, slice_get_within}
use Rattle.std.proofs.lemmas.Map.Keys.{any_passes_from_place}
use Rattle.lp_repr.specs.Names.{same_nonterminal}
use Rattle.lp_repr.specs.Numbering as by_symbols
use Rattle.lp_repr.specs.Numbering.{productions_of, nonterminals_of, nonterminal_number, number_or_count}
use Rattle.lp_repr.specs.ValidTables.{IsValidTables}
use Rattle.lp_repr.specs.declared.lr1.Lr1State.{Lr1State}
use Rattle.lp_repr.specs.declared.numbering.Rule as numbering
use Rattle.lp_repr.specs.declared.numbering.SymbolNumber.{SymbolNumber}
use Rattle.lp_repr.specs.declared.numbering.SymbolNumber.TheVariants as symbol
use Rattle.lp_repr.specs.declared.repr.Grammar.{Grammar}
use Rattle.lp_repr.specs.declared.repr.NonterminalString.{NonterminalString}
use Rattle.lp_repr.specs.declared.repr.Production.{Production}
use Rattle.lp_repr.specs.declared.repr.Symbol as repr
use Rattle.lp_repr.specs.declared.repr.Symbol.TheVariants.{Nonterminal, Terminal}
use Rattle.lp_machine.specs.declared.lookup.Rule.{Rule}
use Rattle.lp_machine.specs.GrammarTables.{is_start, rule_of, rules_of}
use Rattle.lp_table.specs.Starts as table
use Rattle.lp_table.specs.Starts.{Start}
use Rattle.lp_valid.specs.SymbolRules.{has_terminal, production_is_known_by, placed_of}
use Rattle.lp_valid.specs.ValidGrammar.{symbols, IsValidGrammar}
use Rattle.lp_turn_laws.specs.Paths.Walks.{edge_at, edge_from, IsWalk}
use Rattle.lp_turn_laws.proofs.Paths.Edges.{at_some, next_from, edge_follows}
use Rattle.lp_turn_laws.proofs.Paths.Numbered.{Entry, under, alone, numbered_at, at_mapped, mapped_at, productions_numbered, rule_place}
use Rattle.lp_turn_laws.proofs.Paths.MachineRules.{as_known, known_numbered_from}
use Rattle.lp_turn_laws.proofs.Paths.Names.{nonterminal_is, placed_numbered_from}
use Rattle.lp_turn_laws.proofs.Paths.Starts.{found_at, number_from}

pub same_name : (m : NonterminalString) → same_nonterminal m m ≡ true
same_name m = (bytes_decides m.0 m.0).1 refl

-- where a rule's production stands
pub record Stands (g : Grammar) (p : ℕ) (rule : Rule) : Type 0 where
  pub number : ℕ
  pub entry : Entry
  pub production : Production
  pub entry_at : slice_get g.nonterminals.entries number ≡ Some entry
  pub at : slice_get (productions_of g) p ≡ Some production
  pub rule_is : rule ≡ rule_of number (is_start g entry.0) production
  pub name_same : production.nonterminal ≡ entry.0

pub production_stands : (g : Grammar) → IsValidGrammar g → (p : ℕ) (rule : Rule) → slice_get (rules_of g) p ≡ Some rule → Stands g p rule
production_stands g valid p rule is =
    let here = ap (λ (rs : List Rule). slice_get rs p) (sym (known_numbered_from g 0 g.nonterminals.entries)) ∙ is in
    let c = numbered_at (as_known g) under 0 g.nonterminals.entries p rule here in
    let b = numbered_at under alone 0 g.nonterminals.entries p (c.0.entry.0, c.0.production) c.2 in
    let same : c.0.production ≡ b.0.production = ap (λ (x : NonterminalString × Production). x.1) b.1 in
    let in_list : slice_get (productions_of g) p ≡ Some c.0.production = ap (λ (ps : List Production). slice_get ps p) (productions_numbered g) ∙ b.2 ∙ ap Some (sym same) in
    let in_placed : slice_get (placed_of g) p ≡ Some (c.0.entry.0, c.0.production) = ap (λ (ps : List (NonterminalString × Production)). slice_get ps p) (placed_numbered_from 0 g.nonterminals.entries) ∙ c.2 in
    let within = slice_get_within (productions_of g) p c.0.production in_list in
    let all = at_some (slice_get (placed_of g) p) (λ x. IsTrue (production_is_known_by g (has_terminal g) x)) (c.0.entry.0, c.0.production) in_placed ((valid symbols p).0 within).0 in
    let parts = and_parts (same_nonterminal c.0.production.nonterminal c.0.entry.0) _ all in
    let none : 0 + c.0.j ≡ c.0.j = omega arith in
    record {
      number = c.0.j;
      entry = c.0.entry;
      production = c.0.production;
      entry_at = c.0.entry_at;
      at = in_list;
      rule_is = c.1 ∙ ap (λ (j : ℕ). rule_of j (is_start g c.0.entry.0) c.0.production) none;
      name_same = nonterminal_is c.0.production.nonterminal c.0.entry.0 parts.0;
    }

-- ---- numbers of symbols

abbrev pub InRange : Grammar → SymbolNumber → Type 0
InRange g (symbol.Terminal n) = n < length (by_symbols.terminals_of g)
InRange g (symbol.Nonterminal n) = n < length (nonterminals_of g)

-- a symbol in range is declared
pub symbol_known : (g : Grammar) (s : repr.Symbol) → InRange g (number_or_count g s) → by_symbols.symbol_number g s ≡ Some (number_or_count g s)
symbol_known g (Nonterminal name) h = ap (option_map symbol.Nonterminal) (number_from (nonterminal_number g name) _ (length (nonterminals_of g)) h refl)
symbol_known g (Terminal t) h = ap (option_map symbol.Terminal) (number_from (by_symbols.terminal_number g t) _ (length (by_symbols.terminals_of g)) h refl)

-- a number of a nonterminal is small
pub left_small : (g : Grammar) (name : NonterminalString) → unwrap_or (nonterminal_number g name) 0 ≤ length (nonterminals_of g)
left_small g name = by (nonterminal_number g name) refl
  where
    by : (o : Option ℕ) → nonterminal_number g name ≡ o → unwrap_or o 0 ≤ length (nonterminals_of g)
    by None e = omega arith
    by (Some k) e =
        let f = found_at (same_nonterminal name) 0 (nonterminals_of g) k e in
        omega (arith, f.2, slice_get_within (nonterminals_of g) f.0 f.1 f.3)

module _ (g : Grammar) (start : ℕ) (states : List Lr1State) (valid : IsValidTables g start states) where
  edge_range : (q : ℕ) (o : Option Lr1State) (x : SymbolNumber) (t : ℕ) → slice_get states q ≡ o → edge_from o x ≡ Some t → InRange g x
  edge_range q None x t at e = cc
  edge_range q (Some s) (symbol.Terminal n) t at e = ((valid.each q s at).shifts_in_range n t e).0
  edge_range q (Some s) (symbol.Nonterminal n) t at e = ((valid.each q s at).gotos_in_range n t e).0

  -- the symbols of a path
  pub walk_range : (q : ℕ) (ps : List ℕ) (xs : List SymbolNumber) → IsWalk states q ps xs → (i : ℕ) (x : SymbolNumber) → slice_get xs i ≡ Some x → InRange g x
  walk_range q [] [] w i x is = cc
  walk_range q [] (y ∷ xs) w i x is = absurd w
  walk_range q (p ∷ ps) [] w i x is = absurd w
  walk_range q (p ∷ ps) (y ∷ xs) w zero x is = let same : y ≡ x = same_Some y x is in subst (InRange g) same (edge_range q (slice_get states q) y p refl w.0)
  walk_range q (p ∷ ps) (y ∷ xs) w (suc i) x is = walk_range p ps xs w.1 i x is

  -- the nonterminal of an edge has its number
  pub edge_named : (q k t : ℕ) → edge_at states q (symbol.Nonterminal k) ≡ Some t → (e : Entry) → slice_get g.nonterminals.entries k ≡ Some e → nonterminal_number g e.0 ≡ Some k
  edge_named q k t edge e at =
      let w = edge_follows g start states valid q (symbol.Nonterminal k) t edge in
      let r = next_from (slice_get (by_symbols.rules_of g) w.0) w.1 (symbol.Nonterminal k) w.3 in
      let c = rule_place g w.0 r.0 r.1 in
      let s = at_mapped (number_or_count g) c.0.production.symbols w.1 (symbol.Nonterminal k) (subst (λ (x : numbering.Rule). slice_get x.right w.1 ≡ Some (symbol.Nonterminal k)) c.1 r.2) in
      let range : InRange g (symbol.Nonterminal k) = edge_range q (slice_get states q) (symbol.Nonterminal k) t refl edge in
      by s.0 s.2 range
    where
      key : slice_get (nonterminals_of g) k ≡ Some e.0
      key = mapped_at (λ (x : Entry). x.0) g.nonterminals.entries k e at

      by : (s : repr.Symbol) → symbol.Nonterminal k ≡ number_or_count g s → k < length (nonterminals_of g) → nonterminal_number g e.0 ≡ Some k
      by (Terminal u) is l = cc
      by (Nonterminal name) is l =
          let same : k ≡ unwrap_or (nonterminal_number g name) (length (nonterminals_of g)) = cc in
          let found = number_from (nonterminal_number g name) k (length (nonterminals_of g)) l same in
          let f = found_at (same_nonterminal name) 0 (nonterminals_of g) k found in
          let n : f.0 ≡ k = omega (arith, f.2) in
          let one : f.1 ≡ e.0 = same_Some f.1 e.0 (sym f.3 ∙ ap (slice_get (nonterminals_of g)) n ∙ key) in
          let named : name ≡ e.0 = nonterminal_is name f.1 f.4 ∙ one in
          subst (λ (m : NonterminalString). nonterminal_number g m ≡ Some k) named found

-- ---- starts

-- none passes where one is sought
none_passes : {X : Type 0} (test : X → Bool) (xs : List X) (i : ℕ) (x : X) → slice_get xs i ≡ Some x → list_any test xs ≡ false → test x ≡ false
none_passes test xs i x at none = by (test x) refl
  where
    by : (b : Bool) → test x ≡ b → b ≡ false
    by false e = refl
    by true e = let bad = sym (any_passes_from_place test xs i x at e) ∙ none in absurd (false≢true (sym bad))

-- a name of the start is the start's
pub start_known : (g : Grammar) (start : ℕ) (st : Start) (prod : Production) (e : Entry) (b : Bool) → slice_get (values g.start_nonterminals) start ≡ Some st.nonterminal → prod.nonterminal ≡ e.0 → is_start g e.0 ≡ b
    → (b ≡ true → same_nonterminal st.nonterminal e.0 ≡ true) → table.is_start st prod ≡ b
start_known g start st prod e true at named is own =
    let one : st.nonterminal ≡ e.0 = nonterminal_is st.nonterminal e.0 (own refl) in
    ap (λ (n : NonterminalString). same_nonterminal n st.nonterminal) (named ∙ sym one) ∙ same_name st.nonterminal
start_known g start st prod e false at named is own =
    by (same_nonterminal prod.nonterminal st.nonterminal) refl
  where
    by : (b : Bool) → same_nonterminal prod.nonterminal st.nonterminal ≡ b → b ≡ false
    by false f = refl
    by true f =
        let one : prod.nonterminal ≡ st.nonterminal = nonterminal_is prod.nonterminal st.nonterminal f in
        let here : same_nonterminal st.nonterminal e.0 ≡ false = none_passes (λ (s : NonterminalString). same_nonterminal s e.0) (values g.start_nonterminals) start st.nonterminal at is in
        let yes : same_nonterminal st.nonterminal e.0 ≡ true = ap (λ (n : NonterminalString). same_nonterminal n e.0) (sym one ∙ named) ∙ same_name e.0 in
        absurd (false≢true (sym here ∙ yes))
