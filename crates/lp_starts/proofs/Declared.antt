-- What a valid grammar declares: its symbols have numbers below their counts, and its starts have productions.
use Rattle.std.proofs.Common.{◌≡◌, ℕ, zero, suc, ◌+◌, ◌<◌, Bool, true, false, cond, ◌&&◌, ◌||◌, List, [], ◌∷◌, ◌++◌, length, map, Option, Some, None, IfSome, IsTrue, slice_get, refl, sym, ap, ◌∙◌, subst, arith, length-append}
use Rattle.std.specs.BTreeMap.{keys, values}
use Rattle.std.specs.List.{list_all, list_any, position_from, flat_map}
use Rattle.std.specs.Map.{lookup, keys_of, values_of}
use Rattle.std.specs.Option.{option_map, option_map_or, option_and_then, unwrap_or}
use Rattle.std.proofs.lemmas.Bool.{and_parts}
use Rattle.std.proofs.lemmas.Cmp.{nat_list_eq_equiv}
use Rattle.std.proofs.lemmas.List.{map-append, length-map}
use Rattle.std.proofs.lemmas.List.Concat.{flat_map-cons}
use Rattle.std.proofs.lemmas.Option.{same_Some, slice_get_within, slice_get-map}
use Rattle.lp_repr.specs.Closure.{HasLeft}
use Rattle.lp_repr.specs.Names.{same_nonterminal, same_terminal}
use Rattle.lp_repr.specs.Numbering.{nonterminals_of, terminals_of, productions_of, nonterminal_number, terminal_number, number_or_count, rule_of, rules_from, rules_of}
use Rattle.lp_repr.specs.ValidTables.{start_number}
use Rattle.lp_repr.specs.declared.repr.Grammar.{Grammar}
use Rattle.lp_repr.specs.declared.repr.NonterminalData.{NonterminalData}
use Rattle.lp_repr.specs.declared.repr.NonterminalString.{NonterminalString}
use Rattle.lp_repr.specs.declared.repr.Production.{Production}
use Rattle.lp_repr.specs.declared.repr.Symbol.{Symbol}
use Rattle.lp_repr.specs.declared.repr.Symbol.TheVariants.{Nonterminal, Terminal}
use Rattle.lp_repr.specs.declared.repr.TerminalString.{TerminalString}
use Rattle.lp_repr.specs.declared.repr.TerminalString.TheVariants.{Quoted, Bare, Error}
use Rattle.lp_repr.specs.declared.numbering.Rule.{Rule}
use Rattle.lp_repr.specs.declared.numbering.SymbolNumber.{SymbolNumber}
use Rattle.lp_repr.proofs.Lists.{slice_get_right}
use Rattle.lp_states.proofs.Closures.{some_of}
use Rattle.lp_valid.specs.StartRules.{is_declared, is_single, has_one_symbol, is_start}
use Rattle.lp_valid.specs.SymbolRules.{has_action, has_terminal, knows_by, production_is_known_by, placed_of}
use Rattle.lp_valid.specs.ValidGrammar.{starts, symbols, IsValidGrammar}
use Rattle.lp_valid.proofs.Lookups.{any_agree}
use Rattle.lp_starts.proofs.Lists.{passes_at, mapped_at}
use Rattle.lp_starts.proofs.Reached.{IsSymbolInRange, AreInRange}

-- ---- names that are found
found_within : {X : Type 0} (test : X → Bool) (i : ℕ) (xs : List X) (k : ℕ) → position_from test i xs ≡ Some k → k < i + length xs
found_within test i [] k e = cc
found_within test i (x ∷ xs) k e =
    elim (test x) as (λ b. cond b (Some i) (position_from test (i + 1) xs) ≡ Some k → k < i + length (x ∷ xs)) [
      | true ↦ λ h. let s : i ≡ k = same_Some i k h in omega arith
      | false ↦ λ h. let s : k < (i + 1) + length xs = found_within test (i + 1) xs k h in omega arith
    ] e

is_found : {X : Type 0} (test : X → Bool) (i : ℕ) (xs : List X) → list_any test xs ≡ true → (k : ℕ) × (position_from test i xs ≡ Some k)
is_found test i [] h = cc
is_found test i (x ∷ xs) h =
    elim (test x) as (λ b. (b || list_any test xs) ≡ true → (k : ℕ) × (cond b (Some i) (position_from test (i + 1) xs) ≡ Some k)) [
      | true ↦ λ g. (i, refl)
      | false ↦ λ g. is_found test (i + 1) xs g
    ] h

key_place : {K X : Type 0} (test : K → Bool) (i : ℕ) (es : List (K × X)) (v : X) → lookup test es ≡ Some v → (k : ℕ) × (position_from test i (keys_of es) ≡ Some (i + k)) × (slice_get (values_of es) k ≡ Some v)
key_place test i [] v e = cc
key_place {K} {X} test i (x ∷ es) v e =
    elim (test x.0) as (λ b. cond b (Some x.1) (lookup test es) ≡ Some v → (k : ℕ) × (cond b (Some i) (position_from test (i + 1) (keys_of es)) ≡ Some (i + k)) × (slice_get (values_of (x ∷ es)) k ≡ Some v)) [
      | true ↦ λ h. let q : i ≡ i + 0 = omega arith in (0, ap Some q, h)
      | false ↦ λ h. let w = key_place test (i + 1) es v h in let q : (i + 1) + w.0 ≡ i + suc w.0 = omega arith in (suc w.0, w.1 ∙ ap Some q, w.2)
    ] e

same_terminal_symm : (s t : TerminalString) → same_terminal s t ≡ same_terminal t s
same_terminal_symm (Quoted s) (Quoted t) = nat_list_eq_equiv.symm s t
same_terminal_symm (Quoted s) (Bare t) = refl
same_terminal_symm (Quoted s) Error = refl
same_terminal_symm (Bare s) (Quoted t) = refl
same_terminal_symm (Bare s) (Bare t) = nat_list_eq_equiv.symm s t
same_terminal_symm (Bare s) Error = refl
same_terminal_symm Error (Quoted t) = refl
same_terminal_symm Error (Bare t) = refl
same_terminal_symm Error Error = refl

-- ---- productions by numbers
some_left : (g : Grammar) (b : ℕ) (ps : List Production) (rest : List Rule) → 0 < length ps → (p : ℕ) × HasLeft (map (rule_of g b) ps ++ rest) p b
some_left g b [] rest l = absurd (omega arith)
some_left g b (p ∷ ps) rest l = (0, (rule_of g b p, refl, refl))

has_left : (g : Grammar) (b : ℕ) (ds : List NonterminalData) (k : ℕ) (d : NonterminalData) → slice_get ds k ≡ Some d → 0 < length d.productions → (p : ℕ) × HasLeft (rules_from g b ds) p (b + k)
has_left g b [] k d e l = cc
has_left g b (c ∷ ds) zero d e l =
    let same : c ≡ d = same_Some c d e in
    let q : b ≡ b + 0 = omega arith in
    let w = some_left g b c.productions (rules_from g (b + 1) ds) (subst (λ (x : NonterminalData). 0 < length x.productions) (sym same) l) in
    (w.0, subst (λ (n : ℕ). HasLeft (rules_from g b (c ∷ ds)) w.0 n) q w.1)
has_left g b (c ∷ ds) (suc k) d e l =
    let w = has_left g (b + 1) ds k d e l in
    let q : (b + 1) + k ≡ b + suc k = omega arith in
    (length (map (rule_of g b) c.productions) + w.0, (w.1.0, slice_get_right (map (rule_of g b) c.productions) (rules_from g (b + 1) ds) w.0 ∙ w.1.1, w.1.2 ∙ q))

rule_count : (g : Grammar) (b : ℕ) (ds : List NonterminalData) → length (rules_from g b ds) ≡ length (flat_map (λ (d : NonterminalData). d.productions) ds)
rule_count g b [] = refl
rule_count g b (d ∷ ds) =
    length-append (map (rule_of g b) d.productions) (rules_from g (b + 1) ds)
    ∙ ap (λ (n : ℕ). n + length (rules_from g (b + 1) ds)) (length-map d.productions (rule_of g b))
    ∙ ap (λ (n : ℕ). length d.productions + n) (rule_count g (b + 1) ds)
    ∙ sym (length-append d.productions (flat_map (λ (c : NonterminalData). c.productions) ds))
    ∙ ap length (sym (flat_map-cons (λ (c : NonterminalData). c.productions) d ds))

-- the right sides, in the order of the productions with the nonterminals under which they stand
abbrev Placed : Type 0
Placed = NonterminalString × Production

abbrev placed : NonterminalString × NonterminalData → List Placed
placed e = map (λ p. (e.0, p)) (e.1).productions

abbrev word_of : Grammar → Placed → List SymbolNumber
word_of g e = map (number_or_count g) (e.1).symbols

rights_under : (g : Grammar) (b : ℕ) (name : NonterminalString) (ps : List Production) → map (λ (r : Rule). r.right) (map (rule_of g b) ps) ≡ map (word_of g) (map (λ p. (name, p)) ps)
rights_under g b name [] = refl
rights_under g b name (p ∷ ps) =
    ap (λ (ws : List (List SymbolNumber)). map (number_or_count g) p.symbols ∷ ws) (rights_under g b name ps)

rights : (g : Grammar) (b : ℕ) (es : List (NonterminalString × NonterminalData)) → map (λ (r : Rule). r.right) (rules_from g b (values_of es)) ≡ map (word_of g) (flat_map placed es)
rights g b [] = refl
rights g b (e ∷ es) =
    let right : Rule → List SymbolNumber = λ r. r.right in
    map-append right (map (rule_of g b) (e.1).productions) (rules_from g (b + 1) (values_of es))
    ∙ ap (λ (ws : List (List SymbolNumber)). ws ++ map right (rules_from g (b + 1) (values_of es))) (rights_under g b e.0 (e.1).productions)
    ∙ ap (λ (ws : List (List SymbolNumber)). map (word_of g) (placed e) ++ ws) (rights g (b + 1) es)
    ∙ sym (map-append (word_of g) (placed e) (flat_map placed es))
    ∙ ap (map (word_of g)) (sym (flat_map-cons placed e es))

single_from : (ps : List Production) → is_single ps ≡ true → 0 < length ps
single_from [] h = cc
single_from (p ∷ ps) h = omega arith

one_from : (o : Option NonterminalData) → option_map_or (λ (d : NonterminalData). is_single d.productions) o false ≡ true → (d : NonterminalData) × (o ≡ Some d) × (0 < length d.productions)
one_from None h = cc
one_from (Some d) h = (d, refl, single_from d.productions h)

at_value : {X : Type 0} (o : Option X) (test : X → Bool) (x : X) → o ≡ Some x → IfSome o (λ y. IsTrue (test y)) → test x ≡ true
at_value {X} o test x e h = subst (λ (q : Option X). IfSome q (λ y. IsTrue (test y))) e h

module _ (g : Grammar) where
  -- ---- symbols
  nonterminal_known : (name : NonterminalString) → is_declared g name ≡ true → (k : ℕ) × (nonterminal_number g name ≡ Some k) × (k < length (nonterminals_of g))
  nonterminal_known name h =
      let d = some_of (lookup (same_nonterminal name) g.nonterminals.entries) h in
      let w = key_place (same_nonterminal name) 0 g.nonterminals.entries d.0 d.1 in
      let l : 0 + w.0 < 0 + length (nonterminals_of g) = found_within (same_nonterminal name) 0 (nonterminals_of g) (0 + w.0) w.1 in
      (0 + w.0, w.1, omega arith)

  terminal_known : (t : TerminalString) → has_terminal g t ≡ true → (k : ℕ) × (terminal_number g t ≡ Some k) × (k < length (terminals_of g))
  terminal_known t h =
      let w = is_found (same_terminal t) 0 (terminals_of g) (any_agree (same_terminal t) (λ s. same_terminal s t) (same_terminal_symm t) (terminals_of g) ∙ h) in
      let l : w.0 < 0 + length (terminals_of g) = found_within (same_terminal t) 0 (terminals_of g) w.0 w.1 in
      (w.0, w.1, omega arith)

  number_in_range : (x : Symbol) → knows_by g (has_terminal g) x ≡ true → IsSymbolInRange (length (terminals_of g)) (length (nonterminals_of g)) (number_or_count g x)
  number_in_range (Nonterminal name) h =
      let w = nonterminal_known name h in
      subst (λ (o : Option ℕ). unwrap_or o (length (nonterminals_of g)) < length (nonterminals_of g)) (sym w.1) w.2
  number_in_range (Terminal t) h =
      let w = terminal_known t h in
      subst (λ (o : Option ℕ). unwrap_or o (length (terminals_of g)) < length (terminals_of g)) (sym w.1) w.2

  module _ (valid : IsValidGrammar g) where
    known_at : (p : ℕ) (e : Placed) → p < length (productions_of g) → slice_get (placed_of g) p ≡ Some e → list_all (knows_by g (has_terminal g)) (e.1).symbols ≡ true
    known_at p e l at =
        let all = at_value (slice_get (placed_of g) p) (production_is_known_by g (has_terminal g)) e at ((valid symbols p).0 l).0 in
        let parts = and_parts (same_nonterminal (e.1).nonterminal e.0) (has_action g (e.1).action && list_all (knows_by g (has_terminal g)) (e.1).symbols) all in
        (and_parts (has_action g (e.1).action) (list_all (knows_by g (has_terminal g)) (e.1).symbols) parts.1).1

    pub symbols_in_range : AreInRange (length (terminals_of g)) (length (nonterminals_of g)) (rules_of g)
    symbols_in_range p r at i x here =
        let within : p < length (rules_of g) = slice_get_within (rules_of g) p r at in
        let count : length (rules_of g) ≡ length (productions_of g) = rule_count g 0 (values g.nonterminals) in
        let side : slice_get (map (λ (q : Rule). q.right) (rules_of g)) p ≡ Some r.right = slice_get-map (λ (q : Rule). q.right) (rules_of g) p ∙ ap (option_map (λ (q : Rule). q.right)) at in
        let e = mapped_at (word_of g) (placed_of g) p r.right (ap (λ (ws : List (List SymbolNumber)). slice_get ws p) (sym (rights g 0 g.nonterminals.entries)) ∙ side) in
        let y = mapped_at (number_or_count g) ((e.0).1).symbols i x (ap (λ (w : List SymbolNumber). slice_get w i) e.2 ∙ here) in
        let known = passes_at (knows_by g (has_terminal g)) ((e.0).1).symbols i y.0 (known_at p e.0 (omega arith) e.1) y.1 in
        subst (IsSymbolInRange (length (terminals_of g)) (length (nonterminals_of g))) y.2 (number_in_range y.0 known)

    -- ---- starts
    pub start_known : (start : ℕ) (name : NonterminalString) → slice_get (keys g.start_nonterminals) start ≡ Some name → (n : ℕ) × (start_number g start ≡ Some n) × (p : ℕ) × HasLeft (rules_of g) p n
    start_known start name at =
        let e = mapped_at (λ (x : NonterminalString × NonterminalString). x.0) g.start_nonterminals.entries start name at in
        let is = at_value (slice_get g.start_nonterminals.entries start) (is_start g) e.0 e.1 (valid starts start) in
        let one = (and_parts (has_one_symbol g (e.0).1) _ (and_parts (is_declared g (e.0).0) _ is).1).0 in
        let d = one_from (lookup (same_nonterminal (e.0).1) g.nonterminals.entries) one in
        let k = key_place (same_nonterminal (e.0).1) 0 g.nonterminals.entries d.0 d.1 in
        let value : slice_get (values g.start_nonterminals) start ≡ Some (e.0).1 = slice_get-map (λ (x : NonterminalString × NonterminalString). x.1) g.start_nonterminals.entries start ∙ ap (option_map (λ (x : NonterminalString × NonterminalString). x.1)) e.1 in
        let left = has_left g 0 (values g.nonterminals) k.0 d.0 k.2 d.2 in
        (0 + k.0, ap (option_and_then (nonterminal_number g)) value ∙ k.1, left.0, left.1)
