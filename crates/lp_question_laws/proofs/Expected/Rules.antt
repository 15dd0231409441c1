-- What the printed simulation tells of a production that is reduced is what the machine's rule says.
use Rattle.std.proofs.Common.{◌≡◌, ℕ, ◌+◌, ◌<◌, Bool, true, false, List, [], ◌∷◌, ◌++◌, length, map, Option, Some, None, IsTrue, slice_get, refl, sym, ap, ◌∙◌, subst, arith}
use Rattle.std.specs.Prelude.{if◌then◌else◌}
use Rattle.std.specs.BTreeMap.{values}
use Rattle.std.specs.Cmp.Lexicographic.{bytes_decides}
use Rattle.std.specs.List.{flat_map}
use Rattle.std.specs.Option.{option_map, option_and_then, unwrap_or}
use Rattle.std.proofs.lemmas.Bool.{and_parts}
use Rattle.std.proofs.lemmas.List.{length-map}
use Rattle.std.proofs.lemmas.List.Concat.{flat_map-cons}
use Rattle.std.proofs.lemmas.Option.{same_Some, slice_get_within}
use Rattle.lp_repr.specs.Names.{same_nonterminal}
use Rattle.lp_repr.specs.Numbering as by_symbols
use Rattle.lp_repr.specs.Numbering.{nonterminal_number, nonterminals_of, number_or_count, productions_of}
use Rattle.lp_repr.specs.Closure.{next_symbol}
use Rattle.lp_repr.specs.declared.lr1.Lr1State.{Lr1State}
use Rattle.lp_repr.specs.declared.numbering.Rule as numbering
use Rattle.lp_repr.specs.declared.numbering.SymbolNumber.{SymbolNumber}
use Rattle.lp_repr.specs.declared.numbering.SymbolNumber.TheVariants as symbol
use Rattle.lp_repr.specs.declared.repr.Grammar.{Grammar}
use Rattle.lp_repr.specs.declared.repr.NonterminalString.{NonterminalString}
use Rattle.lp_repr.specs.declared.repr.Production.{Production}
use Rattle.lp_repr.specs.declared.repr.Symbol.{Symbol}
use Rattle.lp_repr.specs.declared.repr.Symbol.TheVariants.{Nonterminal, Terminal}
use Rattle.lp_repr.specs.declared.repr.TerminalString.TheVariants.{Error}
use Rattle.lp_valid.specs.SymbolRules.{has_terminal, placed_of, production_is_known_by}
use Rattle.lp_valid.specs.ValidGrammar.{symbols, IsValidGrammar}
use Rattle.lp_core.specs.declared.value.Tag.TheVariants as tag
use Rattle.lp_core.specs.Reading.{empty}
use Rattle.lp_driver.specs.DriverState.{last_of}
use Rattle.lp_machine.specs.declared.lookup.Act.TheVariants.{ReduceBy}
use Rattle.lp_machine.specs.declared.lookup.Rule.{Rule}
use Rattle.lp_machine.specs.ExpectedList.{action_on, goto_from}
use Rattle.lp_machine.specs.GrammarTables.{rules_of}
use Rattle.lp_machine.specs.ReductionSpan.{below}
use Rattle.lp_machine.specs.Tables.{Tables}
use Rattle.lp_table.specs.MachineLines.{reduced_of}
use Rattle.lp_table.specs.Starts.{Start, is_start}
use Rattle.lp_tree.specs.declared.tree.Reduced.{Reduced}
use Rattle.lp_question_laws.proofs.Gotos.Simulate.{answer_val}
use Rattle.lp_question_laws.proofs.Expected.Lines.{reduction}
use Rattle.lp_question_laws.proofs.Expected.Verdicts.{simulated_val}
use Rattle.lp_turn_laws.specs.Paths.Ends.{symbol_named}
use Rattle.lp_turn_laws.specs.Paths.Over.{IsOver}
use Rattle.lp_turn_laws.specs.Paths.Standing.{IsOnPath, IsReducible}
use Rattle.lp_turn_laws.proofs.Paths.MachineRules.{Agree, agree}
use Rattle.lp_turn_laws.proofs.Paths.Moves.{reducible_at}
use Rattle.lp_turn_laws.proofs.Paths.Over.{ends_alone, leads_on}
use Rattle.lp_turn_laws.proofs.Paths.Starts.{found_at}
use Rattle.lp_turn_laws.proofs.Paths.Edges.{at_some, edge_follows, next_from}
use Rattle.lp_turn_laws.proofs.Paths.Acts.{machine_goto}
use Rattle.lp_turn_laws.proofs.Paths.Names.{produces}
use Rattle.lp_turn_laws.proofs.Paths.Numbered.{Entry, alone, as_rule, mapped_at, numbered, numbered_at, productions_numbered, rules_numbered, under}

-- names that are the same are one
pub one_name : (m n : NonterminalString) → same_nonterminal m n ≡ true → m ≡ n
one_name m n e = ap (λ (t : List ℕ). (record { 0 = t })) ((bytes_decides m.0 n.0).0 e)

pub same_name : (m : NonterminalString) → same_nonterminal m m ≡ true
same_name m = (bytes_decides m.0 m.0).1 refl

-- productions with the names under which they stand are numbered as productions are
placed_numbered : (k : ℕ) (es : List Entry) → flat_map (λ (e : Entry). map (under k e) (e.1).productions) es ≡ numbered under k es
unfolding numbered
placed_numbered k [] = refl
placed_numbered k (e ∷ es) =
    flat_map-cons (λ (e : Entry). map (under k e) (e.1).productions) e es
    ∙ ap (λ (ps : List (NonterminalString × Production)). map (under k e) (e.1).productions ++ ps) (placed_numbered (k + 1) es)

-- a production of a valid grammar, with its rule: it stands under its own nonterminal
pub record IsOf (g : Grammar) (y : ℕ) (r : numbering.Rule) : Type 0 where
  pub production : Production
  pub at : slice_get (productions_of g) y ≡ Some production
  pub long : length r.right ≡ length production.symbols
  pub named : slice_get (nonterminals_of g) r.left ≡ Some production.nonterminal

module _ (g : Grammar) (valid : IsValidGrammar g) where
  own_name : (y : ℕ) (e : NonterminalString × Production) → y < length (productions_of g) → slice_get (placed_of g) y ≡ Some e → (e.1).nonterminal ≡ e.0
  own_name y e l at =
      let all = at_some (slice_get (placed_of g) y) (λ x. IsTrue (production_is_known_by g (has_terminal g) x)) e at ((valid symbols y).0 l).0 in
      one_name (e.1).nonterminal e.0 (and_parts (same_nonterminal (e.1).nonterminal e.0) _ all).0

  pub is_of : (y : ℕ) (r : numbering.Rule) → slice_get (by_symbols.rules_of g) y ≡ Some r → IsOf g y r
  is_of y r at =
      let d = numbered_at (as_rule g) under 0 g.nonterminals.entries y r (ap (λ (rs : List numbering.Rule). slice_get rs y) (sym (rules_numbered g)) ∙ at) in
      let b = numbered_at under alone 0 g.nonterminals.entries y (d.0.entry.0, d.0.production) d.2 in
      let p = d.0.production in
      let same : p ≡ b.0.production = ap (λ (x : NonterminalString × Production). x.1) b.1 in
      let in_list : slice_get (productions_of g) y ≡ Some p = ap (λ (ps : List Production). slice_get ps y) (productions_numbered g) ∙ b.2 ∙ ap Some (sym same) in
      let in_placed : slice_get (placed_of g) y ≡ Some (d.0.entry.0, p) = ap (λ (ps : List (NonterminalString × Production)). slice_get ps y) (placed_numbered 0 g.nonterminals.entries) ∙ d.2 in
      let own : p.nonterminal ≡ d.0.entry.0 = own_name y (d.0.entry.0, p) (slice_get_within (productions_of g) y p in_list) in_placed in
      let left : r.left ≡ d.0.j = (let n : 0 + d.0.j ≡ d.0.j = omega arith in ap (λ (q : numbering.Rule). q.left) d.1 ∙ n) in
      record {
        production = p;
        at = in_list;
        long = ap (λ (q : numbering.Rule). length q.right) d.1 ∙ length-map p.symbols (number_or_count g);
        named = ap (slice_get (nonterminals_of g)) left ∙ mapped_at (λ (x : Entry). x.0) g.nonterminals.entries d.0.j d.0.entry d.0.entry_at ∙ ap Some (sym own);
      }

  -- a nonterminal's number that stands on a right side is that of its name
  number_from : (o : Option ℕ) (j count : ℕ) → j < count → j ≡ unwrap_or o count → o ≡ Some j
  number_from None j count l e = absurd (omega arith)
  number_from (Some i) j count l e = ap Some (sym e)

  pub number_of_name : (j y d : ℕ) (name : NonterminalString) → slice_get (nonterminals_of g) j ≡ Some name → next_symbol (by_symbols.rules_of g) y d ≡ Some (symbol.Nonterminal j) → nonterminal_number g name ≡ Some j
  number_of_name j y d name at next =
      let w = next_from (slice_get (by_symbols.rules_of g) y) d (symbol.Nonterminal j) next in
      let p = produces g valid y w.0 w.1 in
      let named : symbol_named g (symbol.Nonterminal j) ≡ Nonterminal name = ap (λ (o : Option NonterminalString). unwrap_or (option_map Nonterminal o) (Terminal Error)) at in
      let there : slice_get p.production.symbols d ≡ Some (symbol_named g (symbol.Nonterminal j)) = ap (λ (ss : List Symbol). slice_get ss d) (sym p.named) ∙ mapped_at (symbol_named g) (w.0).right d (symbol.Nonterminal j) w.2 in
      let again : slice_get (w.0).right d ≡ Some (number_or_count g (symbol_named g (symbol.Nonterminal j))) = ap (λ (xs : List SymbolNumber). slice_get xs d) p.right ∙ mapped_at (number_or_count g) p.production.symbols d (symbol_named g (symbol.Nonterminal j)) there in
      let same : symbol.Nonterminal j ≡ symbol.Nonterminal (unwrap_or (nonterminal_number g name) (length (nonterminals_of g))) =
      same_Some (symbol.Nonterminal j) (number_or_count g (symbol_named g (symbol.Nonterminal j))) (sym w.2 ∙ again) ∙ ap (number_or_count g) named in
      number_from (nonterminal_number g name) j (length (nonterminals_of g)) (slice_get_within (nonterminals_of g) j name at) (let e : j ≡ unwrap_or (nonterminal_number g name) (length (nonterminals_of g)) = cc in e)

-- ---- what is simulated
abbrev pub printed_reduction : Production → Option ℕ → Bool → Option Reduced
printed_reduction p number starts = if starts then None else Some (record { pop = length p.symbols; nonterminal = unwrap_or number 0 })

-- the state under a reduction leads on by a goto
leads_by : (t : Tables) (o : Option ℕ) (n to : ℕ) → goto_from t o n ≡ Some to → (q : ℕ) × (t.goto q n ≡ Some to)
leads_by t None n to e = cc
leads_by t (Some q) n to e = (q, e)

module _ {g : Grammar} {start : ℕ} {states : List Lr1State} {t : Tables} (over : IsOver g start states t) (st : Start) (begins : slice_get (values g.start_nonterminals) start ≡ Some st.nonterminal) where
  number_is : nonterminal_number g st.nonterminal ≡ Some over.number
  number_is = sym (ap (option_and_then (nonterminal_number g)) begins) ∙ over.begun

  -- what has the number of the start is the start
  is_the_start : (name : NonterminalString) → slice_get (nonterminals_of g) over.number ≡ Some name → st.nonterminal ≡ name
  is_the_start name at =
      let f = found_at (same_nonterminal st.nonterminal) 0 (nonterminals_of g) over.number number_is in
      let n : f.0 ≡ over.number = omega (arith, f.2) in
      let same : f.1 ≡ name = same_Some f.1 name (sym f.3 ∙ ap (slice_get (nonterminals_of g)) n ∙ at) in
      one_name st.nonterminal name (subst (λ (x : NonterminalString). same_nonterminal st.nonterminal x ≡ true) same f.4)

  module _ (stack : List ℕ) (path : IsOnPath states stack) (n : ℕ) (rule : Rule) (r : IsReducible g states stack rule) (known : slice_get (rules_of g) n ≡ Some rule) (a : Agree g n rule) (o : IsOf g n a.rule) where
    named : slice_get (nonterminals_of g) rule.nonterminal ≡ Some o.production.nonterminal
    named = ap (slice_get (nonterminals_of g)) a.nonterminal_is ∙ o.named

    -- the start's is the start
    own_start : rule.is_start ≡ true → is_start st o.production ≡ true
    own_start e =
        let own = (ends_alone over stack path.0 rule r path.1 e).own in
        let same = is_the_start o.production.nonterminal (ap (slice_get (nonterminals_of g)) (sym own) ∙ named) in
        ap (same_nonterminal o.production.nonterminal) same ∙ same_name o.production.nonterminal

    -- another one has the number of its name
    other_number : rule.is_start ≡ false → nonterminal_number g o.production.nonterminal ≡ Some rule.nonterminal
    other_number e =
        let m = leads_on over stack path.0 rule r path.1 e in
        let l = leads_by t (last_of (below rule.length stack)) rule.nonterminal m.to m.goto in
        let follows = edge_follows g start states over.tables l.0 (symbol.Nonterminal rule.nonterminal) m.to (sym (machine_goto g start states over.tables t over.known l.0 rule.nonterminal) ∙ l.1) in
        number_of_name g over.grammar rule.nonterminal follows.0 follows.1 o.production.nonterminal named follows.3

    -- and isn't the start
    other_start : rule.is_start ≡ false → (b : Bool) → same_nonterminal o.production.nonterminal st.nonterminal ≡ b → b ≡ false
    other_start e false is = refl
    other_start e true is =
        let same : o.production.nonterminal ≡ st.nonterminal = one_name o.production.nonterminal st.nonterminal is in
        let number : rule.nonterminal ≡ over.number = same_Some rule.nonterminal over.number (sym (other_number e) ∙ ap (nonterminal_number g) same ∙ number_is) in
        absurd (a.others start over.number over.begun e (sym a.nonterminal_is ∙ number))

    long : length o.production.symbols ≡ rule.length
    long = sym o.long ∙ sym a.length_is

    by_start : (b : Bool) → rule.is_start ≡ b → answer_val (reduced_of g st o.production) ≡ (if b then empty tag.Accept else reduction rule.length rule.nonterminal)
    by_start true e = ap (λ (s : Bool). answer_val (printed_reduction o.production (nonterminal_number g o.production.nonterminal) s)) (own_start e)
    by_start false e =
        ap (λ (s : Bool). answer_val (printed_reduction o.production (nonterminal_number g o.production.nonterminal) s)) (other_start e (is_start st o.production) refl)
        ∙ ap (λ (k : Option ℕ). reduction (length o.production.symbols) (unwrap_or k 0)) (other_number e)
        ∙ ap (λ (k : ℕ). reduction k rule.nonterminal) long

  -- what the simulation tells of a production that the top of a path can reduce
  pub reducible_is : (stack : List ℕ) (n : ℕ) (rule : Rule) → IsOnPath states stack → IsReducible g states stack rule → t.rule n ≡ Some rule
      → (p : Production) × (slice_get (productions_of g) n ≡ Some p) × (answer_val (reduced_of g st p) ≡ simulated_val rule)
  reducible_is stack n rule path r known =
      let at : slice_get (rules_of g) n ≡ Some rule = sym (over.known.rule n) ∙ known in
      let a = agree g over.grammar n rule at in
      let o = is_of g over.grammar n a.rule a.at in
      (o.production, o.at, by_start stack path n rule r at a o rule.is_start refl)

  -- or reduces
  pub simulated_is : (stack : List ℕ) (q i n : ℕ) (rule : Rule) → IsOnPath states stack → last_of stack ≡ Some q → t.action q i ≡ ReduceBy n → t.rule n ≡ Some rule
      → (p : Production) × (slice_get (productions_of g) n ≡ Some p) × (answer_val (reduced_of g st p) ≡ simulated_val rule)
  simulated_is stack q i n rule path top is known =
      reducible_is stack n rule path (reducible_at g start states over.tables t over.known [] stack (Some i) n rule (ap (λ (o : Option ℕ). action_on t o (Some i)) top ∙ is) known) known
