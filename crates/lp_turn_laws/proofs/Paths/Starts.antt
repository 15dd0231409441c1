-- The starts of a valid grammar: their nonterminals stand on no right side, and have one production, of one symbol.
use Rattle.std.proofs.Common.{◌≡◌, ℕ, zero, suc, ◌+◌, ◌<◌, Bool, true, false, cond, not, ◌||◌, List, [], ◌∷◌, length, Option, Some, None, IsTrue, slice_get, refl, sym, ap, ◌∙◌, subst, arith}
use Rattle.std.specs.BTreeMap.{values}
use Rattle.std.specs.List.{list_any, position_from}
use Rattle.std.specs.Map.{lookup, keys_of}
use Rattle.std.specs.Option.{option_map_or, option_and_then, unwrap_or}
use Rattle.std.proofs.lemmas.Bool.{and_parts}
use Rattle.std.proofs.lemmas.Bool.Decides.{nat_tests}
use Rattle.std.proofs.lemmas.Cmp.{nat_list_eq_equiv}
use Rattle.std.proofs.lemmas.List.{length-map}
use Rattle.std.specs.Prelude.{is_some}
use Rattle.std.proofs.lemmas.Map.Made.{is_some-lookup}
use Rattle.std.proofs.lemmas.Map.Keys.{any_passes_from_place}
use Rattle.std.proofs.lemmas.Option.{same_Some, none-some, slice_get_within, option_and_then_some}
use Rattle.lp_repr.specs.Closure.{HasLeft}
use Rattle.lp_repr.specs.Names.{same_nonterminal}
use Rattle.lp_repr.specs.Numbering.{rules_of, rule_of, productions_of, nonterminals_of, nonterminal_number, number_or_count}
use Rattle.lp_repr.specs.ValidTables.{start_number}
use Rattle.lp_repr.specs.declared.repr.Grammar.{Grammar}
use Rattle.lp_repr.specs.declared.repr.NonterminalData.{NonterminalData}
use Rattle.lp_repr.specs.declared.repr.NonterminalString.{NonterminalString}
use Rattle.lp_repr.specs.declared.repr.Production.{Production}
use Rattle.lp_repr.specs.declared.repr.Symbol.{Symbol}
use Rattle.lp_repr.specs.declared.repr.Symbol.TheVariants.{Nonterminal, Terminal}
use Rattle.lp_repr.specs.declared.numbering.Rule.{Rule}
use Rattle.lp_repr.specs.declared.numbering.SymbolNumber.TheVariants as by_number
use Rattle.lp_valid.specs.StartRules.{is_declared, is_single, has_one_symbol, is_nonterminal, stands_in, stands_right, is_start}
use Rattle.lp_valid.specs.ValidGrammar.{starts, IsValidGrammar}
use Rattle.lp_turn_laws.specs.Paths.Walks.{IsUnseen, IsStart}
use Rattle.lp_turn_laws.proofs.Paths.Edges.{at_some, next_from}
use Rattle.lp_turn_laws.proofs.Paths.Numbered.{Entry, as_rule, rule_place, numbered_from, at_mapped, mapped_at, rules_numbered}

-- ---- what is found
-- the element that is found passes
pub found_at : {X : Type 0} (test : X → Bool) (i : ℕ) (xs : List X) (k : ℕ) → position_from test i xs ≡ Some k → (j : ℕ) × (x : X) × (k ≡ i + j) × (slice_get xs j ≡ Some x) × (test x ≡ true)
found_at test i [] k e = absurd (none-some k e)
found_at {X} test i (y ∷ xs) k e =
    elim (test y) as (λ b. test y ≡ b → cond b (Some i) (position_from test (i + 1) xs) ≡ Some k → (j : ℕ) × (x : X) × (k ≡ i + j) × (slice_get (y ∷ xs) j ≡ Some x) × (test x ≡ true)) [
      | true ↦ λ t h. let s : i ≡ k = same_Some i k h in (0, y, omega arith, refl, t)
      | false ↦ λ t h. let w = found_at test (i + 1) xs k h in (suc w.0, w.1, omega (arith, w.2), w.3, w.4)
    ] refl e

-- what passes is found
pub is_found : {X : Type 0} (test : X → Bool) (i : ℕ) (xs : List X) → list_any test xs ≡ true → (k : ℕ) × (position_from test i xs ≡ Some k)
is_found test i [] h = cc
is_found test i (x ∷ xs) h =
    elim (test x) as (λ b. (b || list_any test xs) ≡ true → (k : ℕ) × (cond b (Some i) (position_from test (i + 1) xs) ≡ Some k)) [
      | true ↦ λ g. (i, refl)
      | false ↦ λ g. is_found test (i + 1) xs g
    ] h

-- the entry whose key is found is looked up
pub looked_up : (test : NonterminalString → Bool) (i : ℕ) (es : List Entry) (k : ℕ) (e : Entry) → position_from test i (keys_of es) ≡ Some (i + k) → slice_get es k ≡ Some e → lookup test es ≡ Some e.1
looked_up test i [] k e f at = absurd (none-some e at)
looked_up test i (d ∷ es) zero e f at =
    elim (test d.0) as (λ b. cond b (Some i) (position_from test (i + 1) (keys_of es)) ≡ Some (i + 0) → cond b (Some d.1) (lookup test es) ≡ Some e.1) [
      | true ↦ λ h. ap (λ (c : Entry). Some c.1) (same_Some d e at)
      | false ↦ λ h. let w = found_at test (i + 1) (keys_of es) (i + 0) h in absurd (omega (arith, w.2))
    ] f
looked_up test i (d ∷ es) (suc k) e f at =
    elim (test d.0) as (λ b. cond b (Some i) (position_from test (i + 1) (keys_of es)) ≡ Some (i + suc k) → cond b (Some d.1) (lookup test es) ≡ Some e.1) [
      | true ↦ λ h. let s : i ≡ i + suc k = same_Some i (i + suc k) h in absurd (omega arith)
      | false ↦ λ h. let n : i + suc k ≡ (i + 1) + k = omega arith in looked_up test (i + 1) es k e (h ∙ ap Some n) at
    ] f

-- what is the same as one of two that are the same
same_third : (a b c : NonterminalString) → same_nonterminal a b ≡ true → same_nonterminal c b ≡ true → same_nonterminal a c ≡ true
same_third a b c e f = nat_list_eq_equiv.symm a.0 c.0 ∙ nat_list_eq_equiv.congr c.0 b.0 a.0 f ∙ nat_list_eq_equiv.symm b.0 a.0 ∙ e

-- what stands at the place that is found passes
found_is : {X : Type 0} (test : X → Bool) (xs : List X) (k : ℕ) (x : X) → position_from test 0 xs ≡ Some k → slice_get xs k ≡ Some x → test x ≡ true
found_is {X} test xs k x e at =
    let f = found_at test 0 xs k e in
    let n : f.0 ≡ k = omega (arith, f.2) in
    subst (λ (y : X). test y ≡ true) (same_Some f.1 x (sym f.3 ∙ ap (slice_get xs) n ∙ at)) f.4

-- ---- symbols
-- a number below the count was found
pub number_from : (o : Option ℕ) (j count : ℕ) → j < count → j ≡ unwrap_or o count → o ≡ Some j
number_from None j count l e = absurd (omega arith)
number_from (Some i) j count l e = ap Some (sym e)

-- a symbol with the number of a nonterminal has its name
has_name : (g : Grammar) (s : Symbol) (j : ℕ) (e : Entry) (v : NonterminalString) → slice_get g.nonterminals.entries j ≡ Some e → same_nonterminal v e.0 ≡ true → by_number.Nonterminal j ≡ number_or_count g s → is_nonterminal v s ≡ true
has_name g (Terminal t) j e v at same f = cc
has_name g (Nonterminal name) j e v at same f =
    let key : slice_get (nonterminals_of g) j ≡ Some e.0 = mapped_at (λ (x : Entry). x.0) g.nonterminals.entries j e at in
    let n : j ≡ unwrap_or (nonterminal_number g name) (length (nonterminals_of g)) = cc in
    let found = number_from (nonterminal_number g name) j (length (nonterminals_of g)) (slice_get_within (nonterminals_of g) j e.0 key) n in
    same_third name e.0 v (found_is (same_nonterminal name) (nonterminals_of g) j e.0 found key) same

-- a single production is there
single_from : (ps : List Production) → is_single ps ≡ true → 0 < length ps
single_from [] h = cc
single_from (p ∷ ps) h = omega arith

-- a single production is of one symbol
single_at : (ps : List Production) (i : ℕ) (p : Production) → is_single ps ≡ true → slice_get ps i ≡ Some p → length p.symbols ≡ 1
single_at [] i p h e = absurd (none-some p e)
single_at (q ∷ []) zero p h e =
    let n : length q.symbols ≡ 1 = grind (arith, nat_tests) in
    subst (λ (r : Production). length r.symbols ≡ 1) (same_Some q p e) n
single_at (q ∷ []) (suc i) p h e = absurd (none-some p e)
single_at (q ∷ (r ∷ ps)) i p h e = cc

-- what a test by default says of what is there
is_single_in : (o : Option NonterminalData) (d : NonterminalData) → o ≡ Some d → option_map_or (λ (c : NonterminalData). is_single c.productions) o false ≡ true → is_single d.productions ≡ true
is_single_in None d e h = absurd (none-some d e)
is_single_in (Some c) d e h = subst (λ (b : NonterminalData). is_single b.productions ≡ true) (same_Some c d e) h

-- a test doesn't pass and fail
not_true : (b : Bool) → not b ≡ true → b ≡ true → ⊥
not_true true h e = cc
not_true false h e = cc

module _ (g : Grammar) (valid : IsValidGrammar g) where
  -- what the rule of starts says of a start's nonterminal
  start_rule : (i : ℕ) (v : NonterminalString) → slice_get (values g.start_nonterminals) i ≡ Some v → (has_one_symbol g v ≡ true) × (stands_right g v ≡ true → ⊥)
  start_rule i v at =
      let e = at_mapped (λ (x : NonterminalString × NonterminalString). x.1) g.start_nonterminals.entries i v at in
      let b = and_parts (is_declared g (e.0).0) _ (at_some (slice_get g.start_nonterminals.entries i) (λ x. IsTrue (is_start g x)) e.0 e.1 (valid starts i)) in
      let c = and_parts (has_one_symbol g (e.0).1) _ b.1 in (
        subst (λ (n : NonterminalString). has_one_symbol g n ≡ true) (sym e.2) c.0,
        λ s. not_true (stands_right g (e.0).1) c.1 (subst (λ (n : NonterminalString). stands_right g n ≡ true) e.2 s),
      )

  -- a start's nonterminal stands on no right side
  pub unseen_key : (j : ℕ) (e : Entry) (i : ℕ) (v : NonterminalString) → slice_get g.nonterminals.entries j ≡ Some e → slice_get (values g.start_nonterminals) i ≡ Some v → same_nonterminal v e.0 ≡ true → IsUnseen (rules_of g) j
  unseen_key j e i v at start same y d next =
      let w = next_from (slice_get (rules_of g) y) d (by_number.Nonterminal j) next in
      let c = rule_place g y w.0 w.1 in
      let s = at_mapped (number_or_count g) c.0.production.symbols d (by_number.Nonterminal j) (subst (λ (r : Rule). slice_get r.right d ≡ Some (by_number.Nonterminal j)) c.1 w.2) in
      let stands : stands_in v c.0.production.symbols ≡ true = any_passes_from_place (is_nonterminal v) c.0.production.symbols d s.0 s.1 (has_name g s.0 j e v at same s.2) in
      (start_rule i v start).1 (any_passes_from_place (λ (p : Production). stands_in v p.symbols) (productions_of g) y c.0.production c.2 stands)

  -- each start has a number
  pub start_number_is : (start : ℕ) → start < length g.start_nonterminals.entries → (n : ℕ) × (start_number g start ≡ Some n)
  start_number_is start l =
      let e = some_at g.start_nonterminals.entries start l in
      let v = mapped_at (λ (x : NonterminalString × NonterminalString). x.1) g.start_nonterminals.entries start e.0 e.1 in
      let k = is_found (same_nonterminal (e.0).1) 0 (nonterminals_of g) (sym (is_some-lookup (same_nonterminal (e.0).1) g.nonterminals.entries) ∙ is_there (lookup (same_nonterminal (e.0).1) g.nonterminals.entries) (start_rule start (e.0).1 v).0) in
      (k.0, ap (option_and_then (nonterminal_number g)) v ∙ k.1)
    where
      some_at : {X : Type 0} (xs : List X) (i : ℕ) → i < length xs → (x : X) × (slice_get xs i ≡ Some x)
      some_at [] i l = absurd (omega arith)
      some_at (x ∷ xs) zero l = (x, refl)
      some_at (x ∷ xs) (suc i) l = some_at xs i (omega arith)

      is_there : (o : Option NonterminalData) → option_map_or (λ (c : NonterminalData). is_single c.productions) o false ≡ true → is_some o ≡ true
      is_there None h = cc
      is_there (Some d) h = refl

  module _ (start n : ℕ) (begun : start_number g start ≡ Some n) where
    -- the start's nonterminal, by its name and its entry
    pub start_entry : (v : NonterminalString) × (slice_get (values g.start_nonterminals) start ≡ Some v) × (nonterminal_number g v ≡ Some n) × (e : Entry) × (slice_get g.nonterminals.entries n ≡ Some e) × (same_nonterminal v e.0 ≡ true)
    start_entry = option_and_then_some (nonterminal_number g) (slice_get (values g.start_nonterminals) start) n begun (λ v at num.
        let f = found_at (same_nonterminal v) 0 (nonterminals_of g) n num in
        let k : f.0 ≡ n = omega (arith, f.2) in
        let e = at_mapped (λ (x : Entry). x.0) g.nonterminals.entries f.0 f.1 f.3 in
        (v, at, num, e.0, subst (λ (i : ℕ). slice_get g.nonterminals.entries i ≡ Some e.0) k e.1, subst (λ (m : NonterminalString). same_nonterminal v m ≡ true) e.2 f.4))

    -- the entry's one production is of one symbol
    start_single : is_single ((start_entry).3.1).productions ≡ true
    start_single =
        let s = start_entry in
        let k : n ≡ 0 + n = omega arith in
        is_single_in (lookup (same_nonterminal s.0) g.nonterminals.entries) (s.3).1 (looked_up (same_nonterminal s.0) 0 g.nonterminals.entries n s.3 (s.2 ∙ ap Some k) s.4) (start_rule start s.0 s.1).0

    -- the start has a production
    pub start_has : (y : ℕ) × HasLeft (rules_of g) y n
    start_has =
        let s = start_entry in
        let p = first_of_some ((s.3).1).productions (single_from ((s.3).1).productions start_single) in
        let w = numbered_from (as_rule g) 0 g.nonterminals.entries n 0 s.3 p.0 s.4 p.1 in
        (w.0, (rule_of g (0 + n) p.0, ap (λ (rs : List Rule). slice_get rs w.0) (rules_numbered g) ∙ w.1, omega arith))
      where
        first_of_some : (ps : List Production) → 0 < length ps → (p : Production) × (slice_get ps 0 ≡ Some p)
        first_of_some [] l = absurd (omega arith)
        first_of_some (p ∷ ps) l = (p, refl)

    -- the start of valid tables of a valid grammar
    pub is_start_of : IsStart (rules_of g) n
    is_start_of =
        let s = start_entry in
        record {
          unseen = unseen_key n s.3 start s.0 s.4 s.1 s.5;
          single = λ y r at left.
              let c = rule_place g y r at in
              let j : c.0.j ≡ n = omega (arith, ap (λ (q : Rule). q.left) (sym c.1) ∙ left) in
              let e : c.0.entry ≡ s.3 = same_Some c.0.entry s.3 (sym c.0.entry_at ∙ ap (slice_get g.nonterminals.entries) j ∙ s.4) in
              let one = single_at ((s.3).1).productions c.0.i c.0.production start_single (subst (λ (d : Entry). slice_get (d.1).productions c.0.i ≡ Some c.0.production) e c.0.production_at) in
              ap (λ (q : Rule). length q.right) c.1 ∙ length-map c.0.production.symbols (number_or_count g) ∙ one;
        }
