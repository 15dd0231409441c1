-- Symbols of a valid grammar by their numbers: each number tells its symbol.
use Rattle.std.proofs.Common.{◌≡◌, ℕ, ◌+◌, ◌<◌, Bool, true, false, ◌||◌, ◌&&◌, ◌++◌, List, [], ◌∷◌, length, map, Option, Some, IsTrue, slice_get, refl, sym, ap, ◌∙◌, subst, arith}
use Rattle.std.specs.Cmp.Lexicographic.{bytes_decides}
use Rattle.std.specs.List.{list_all, list_any, position_from, flat_map}
use Rattle.std.specs.Option.{option_map, unwrap_or}
use Rattle.std.proofs.lemmas.Bool.{and_parts}
use Rattle.std.proofs.lemmas.List.Concat.{flat_map-cons}
use Rattle.std.proofs.lemmas.Map.Made.{is_some-lookup}
use Rattle.std.proofs.lemmas.Option.{slice_get_within}
use Rattle.lp_repr.specs.Names.{same_nonterminal, same_terminal}
use Rattle.lp_repr.specs.Numbering.{rules_of, productions_of, nonterminals_of, terminals_of, number_or_count}
use Rattle.lp_repr.specs.declared.repr.Grammar.{Grammar}
use Rattle.lp_repr.specs.declared.repr.NonterminalString.{NonterminalString}
use Rattle.lp_repr.specs.declared.repr.TerminalString.{TerminalString}
use Rattle.lp_repr.specs.declared.repr.TerminalString.TheVariants.{Quoted, Bare, Error}
use Rattle.lp_repr.specs.declared.repr.Production.{Production}
use Rattle.lp_repr.specs.declared.repr.Symbol.{Symbol}
use Rattle.lp_repr.specs.declared.repr.Symbol.TheVariants.{Nonterminal, Terminal}
use Rattle.lp_repr.specs.declared.numbering.Rule.{Rule}
use Rattle.lp_valid.specs.SymbolRules.{has_action, has_terminal, knows_by, production_is_known_by, placed_of}
use Rattle.lp_valid.specs.ValidGrammar.{symbols, IsValidGrammar}
use Rattle.lp_turn_laws.specs.Paths.Ends.{symbol_named}
use Rattle.lp_turn_laws.proofs.Paths.Edges.{at_some}
use Rattle.lp_turn_laws.proofs.Paths.Numbered.{Entry, numbered, as_rule, alone, under, numbered_at, rules_numbered, productions_numbered}
use Rattle.lp_turn_laws.proofs.Paths.Starts.{found_at, is_found}

-- ---- names that are the same are one
-- of nonterminals
pub nonterminal_is : (m n : NonterminalString) → same_nonterminal m n ≡ true → m ≡ n
nonterminal_is m n e = ap (λ (t : List ℕ). (record { 0 = t })) ((bytes_decides m.0 n.0).0 e)

-- of terminals
terminal_is : (s t : TerminalString) → same_terminal s t ≡ true → s ≡ t
terminal_is (Quoted s) (Quoted t) e = ap Quoted ((bytes_decides s t).0 e)
terminal_is (Quoted s) (Bare t) e = cc
terminal_is (Quoted s) Error e = cc
terminal_is (Bare s) (Quoted t) e = cc
terminal_is (Bare s) (Bare t) e = ap Bare ((bytes_decides s t).0 e)
terminal_is (Bare s) Error e = cc
terminal_is Error (Quoted t) e = cc
terminal_is Error (Bare t) e = cc
terminal_is Error Error e = refl

-- the order of two does not matter
terminal_turned : (s t : TerminalString) → same_terminal s t ≡ true → same_terminal t s ≡ true
terminal_turned s t e = subst (λ (u : TerminalString). same_terminal u s ≡ true) (terminal_is s t e) (ap (same_terminal s) (terminal_is s t e) ∙ e)

-- one of two passes
or_true : (b : Bool) → (b || true) ≡ true
or_true true = refl
or_true false = refl

-- what passes one test passes a weaker one
any_weaker : {X : Type 0} (p q : X → Bool) → ((x : X) → p x ≡ true → q x ≡ true) → (xs : List X) → list_any p xs ≡ true → list_any q xs ≡ true
any_weaker p q f [] h = cc
any_weaker p q f (x ∷ xs) h =
    elim (p x) as (λ b. p x ≡ b → (b || list_any p xs) ≡ true → (q x || list_any q xs) ≡ true) [
      | true ↦ λ e k. ap (λ (b : Bool). b || list_any q xs) (f x e)
      | false ↦ λ e k. ap (λ (b : Bool). q x || b) (any_weaker p q f xs k) ∙ or_true (q x)
    ] refl h

-- ---- the symbol of a symbol's number is itself
-- what a number that was found tells
told : {X : Type 0} (test : X → Bool) (xs : List X) (x : X) → ((y : X) → test y ≡ true → x ≡ y) → list_any test xs ≡ true → (k : ℕ) × (position_from test 0 xs ≡ Some k) × (slice_get xs k ≡ Some x)
told test xs x only h =
    let k = is_found test 0 xs h in
    let f = found_at test 0 xs k.0 k.1 in
    let n : f.0 ≡ k.0 = omega (arith, f.2) in
    (k.0, k.1, ap (slice_get xs) (sym n) ∙ f.3 ∙ ap Some (sym (only f.1 f.4)))

-- a known symbol is told by its number
pub named_again : (g : Grammar) (s : Symbol) → knows_by g (has_terminal g) s ≡ true → symbol_named g (number_or_count g s) ≡ s
named_again g (Nonterminal name) h =
    let t = told (same_nonterminal name) (nonterminals_of g) name (nonterminal_is name) (sym (is_some-lookup (same_nonterminal name) g.nonterminals.entries) ∙ h) in
    ap (λ (o : Option ℕ). unwrap_or (option_map Nonterminal (slice_get (nonterminals_of g) (unwrap_or o (length (nonterminals_of g))))) (Terminal Error)) t.1
    ∙ ap (λ (o : Option NonterminalString). unwrap_or (option_map Nonterminal o) (Terminal Error)) t.2
named_again g (Terminal terminal) h =
    let t = told (same_terminal terminal) (terminals_of g) terminal (terminal_is terminal) (any_weaker (λ (s : TerminalString). same_terminal s terminal) (same_terminal terminal) (λ s. terminal_turned s terminal) (terminals_of g) h) in
    ap (λ (o : Option ℕ). unwrap_or (option_map Terminal (slice_get (terminals_of g) (unwrap_or o (length (terminals_of g))))) (Terminal Error)) t.1
    ∙ ap (λ (o : Option TerminalString). unwrap_or (option_map Terminal o) (Terminal Error)) t.2

-- the same of a list of known symbols
all_named_again : (g : Grammar) (ss : List Symbol) → list_all (knows_by g (has_terminal g)) ss ≡ true → map (symbol_named g) (map (number_or_count g) ss) ≡ ss
all_named_again g [] h = refl
all_named_again g (s ∷ ss) h =
    let p = and_parts (knows_by g (has_terminal g) s) (list_all (knows_by g (has_terminal g)) ss) h in
    ap (λ (x : Symbol). x ∷ map (symbol_named g) (map (number_or_count g) ss)) (named_again g s p.0) ∙ ap (λ (xs : List Symbol). s ∷ xs) (all_named_again g ss p.1)

-- ---- productions of a valid grammar
-- productions with the names under which they stand are numbered as productions are
pub placed_numbered_from : (k : ℕ) (es : List Entry) → flat_map (λ (e : Entry). map (under k e) (e.1).productions) es ≡ numbered under k es
unfolding numbered
placed_numbered_from k [] = refl
placed_numbered_from k (e ∷ es) =
    flat_map-cons (λ (e : Entry). map (under k e) (e.1).productions) e es
    ∙ ap (λ (ps : List (NonterminalString × Production)). map (under k e) (e.1).productions ++ ps) (placed_numbered_from (k + 1) es)

-- the production of a number, with the symbols that its rule has by number
pub record Produces (g : Grammar) (y : ℕ) (r : Rule) : Type 0 where
  pub production : Production
  pub at : slice_get (productions_of g) y ≡ Some production
  pub right : r.right ≡ map (number_or_count g) production.symbols
  pub named : map (symbol_named g) r.right ≡ production.symbols

module _ (g : Grammar) (valid : IsValidGrammar g) where
  -- the symbols of each production are known
  known_at : (y : ℕ) (e : NonterminalString × Production) → y < length (productions_of g) → slice_get (placed_of g) y ≡ Some e → list_all (knows_by g (has_terminal g)) (e.1).symbols ≡ true
  known_at y e l at =
      let all = at_some (slice_get (placed_of g) y) (λ x. IsTrue (production_is_known_by g (has_terminal g) x)) e at ((valid symbols y).0 l).0 in
      let parts = and_parts (same_nonterminal (e.1).nonterminal e.0) (has_action g (e.1).action && list_all (knows_by g (has_terminal g)) (e.1).symbols) all in
      (and_parts (has_action g (e.1).action) (list_all (knows_by g (has_terminal g)) (e.1).symbols) parts.1).1

  -- the production of a rule, in a valid grammar
  pub produces : (y : ℕ) (r : Rule) → slice_get (rules_of g) y ≡ Some r → Produces g y r
  produces y r at =
      let here : slice_get (numbered (as_rule g) 0 g.nonterminals.entries) y ≡ Some r = ap (λ (rs : List Rule). slice_get rs y) (sym (rules_numbered g)) ∙ at in
      let d = numbered_at (as_rule g) under 0 g.nonterminals.entries y r here in
      let b = numbered_at under alone 0 g.nonterminals.entries y (d.0.entry.0, d.0.production) d.2 in
      let p = d.0.production in
      let same : p ≡ b.0.production = ap (λ (x : NonterminalString × Production). x.1) b.1 in
      let in_list : slice_get (productions_of g) y ≡ Some p = ap (λ (ps : List Production). slice_get ps y) (productions_numbered g) ∙ b.2 ∙ ap Some (sym same) in
      let in_placed : slice_get (placed_of g) y ≡ Some (d.0.entry.0, p) = ap (λ (ps : List (NonterminalString × Production)). slice_get ps y) (placed_numbered_from 0 g.nonterminals.entries) ∙ d.2 in
      let right : r.right ≡ map (number_or_count g) p.symbols = ap (λ (q : Rule). q.right) d.1 in
      record {
        production = p;
        at = in_list;
        right = right;
        named = ap (map (symbol_named g)) right ∙ all_named_again g p.symbols (known_at y (d.0.entry.0, p) (slice_get_within (productions_of g) y p in_list) in_placed);
      }
