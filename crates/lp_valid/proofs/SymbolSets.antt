-- What sets of terminals and keys of productions say of a grammar.
use Rattle.std.proofs.Common.{◌≡◌, ℕ, ◌<◌, ◌≤◌, List, [], ◌∷◌, length, length-append, map, arith, refl, sym, ap, ◌∙◌, subst, Option, Result, Ok, Err, IfOk, ⊎_elim}
use Rattle.std.specs.BTreeSet.{BTreeSet}
use Rattle.std.specs.Map.{values_of}
use Rattle.std.specs.declared.cmp.Ordering.{Ordering}
use Rattle.std.specs.Cmp.{both_tied, unsigned_ties}
use Rattle.std.specs.Cmp.Lexicographic.{lists_ties, slice_cmp, texts_ties}
use Rattle.std.specs.List.{list_any, flat_map}
use Rattle.std.specs.Map.Iter.{deref}
use Rattle.std.proofs.lemmas.Bool.{cases_lt}
use Rattle.std.proofs.lemmas.List.{length-map}
use Rattle.std.specs.Ordering.{is_eq, nat_cmp, ordering_then}
use denote.Ref.{Bor}
use Rattle.lp_repr.specs.Names.{same_terminal}
use Rattle.lp_repr.specs.Numbering.{terminals_of, productions_of}
use Rattle.lp_repr.specs.contracts.repr.SymbolOrd.TheImpl as symbol
use Rattle.lp_repr.specs.contracts.repr.TerminalStringOrd.TheImpl as terminal
use Rattle.lp_repr.specs.declared.repr.Grammar.{Grammar}
use Rattle.lp_repr.specs.declared.repr.NonterminalData.{NonterminalData}
use Rattle.lp_repr.specs.declared.repr.NonterminalString.{NonterminalString}
use Rattle.lp_repr.specs.declared.repr.Production.{Production}
use Rattle.lp_repr.specs.declared.repr.Symbol.{Symbol}
use Rattle.lp_repr.specs.declared.repr.Symbol.TheVariants.{Nonterminal, Terminal}
use Rattle.lp_repr.specs.declared.repr.TerminalString.{TerminalString}
use Rattle.lp_valid.specs.Members.{has_by, holds}
use Rattle.lp_valid.specs.Places.{IsFirstFailing, IsNewBy}
use Rattle.lp_valid.specs.ProductionKeys.{key_of, production_key, same_key}
use Rattle.lp_valid.specs.SymbolRules.{has_terminal, production_is_known_by, placed_of, same_symbol, same_production, ProductionIsKnown}
use Rattle.lp_valid.proofs.Lookups.{any_agree, terminal_ties}
use Rattle.lp_valid.proofs.FirstFailing.{passes_past}
use Rattle.lp_valid.proofs.NewThings.{new_past, first_alike, first_of_image, first_in_image}

-- a set of the terminals holds those that the grammar has
pub holds_these : {E : Type 0} (r : Result (BTreeSet (Bor TerminalString)) E) (ts : List TerminalString) (g : Grammar) → ts ≡ terminals_of g → IfOk r (λ s. (t : TerminalString) → has_by (terminal.cmp-value).it s t ≡ list_any (λ s. is_eq ((terminal.cmp-value).it s t)) ts) → IfOk r (λ s. (t : TerminalString) → holds s t ≡ has_terminal g t)
holds_these (Ok s) ts g e h = λ t.
    sym (any_agree (λ k. is_eq ((terminal.cmp-value).it t k.now)) (λ k. same_terminal t k.now) (λ k. terminal_ties t k.now) s.keys)
    ∙ (h t ∙ (any_agree (λ u. is_eq ((terminal.cmp-value).it u t)) (λ u. same_terminal u t) (λ u. terminal_ties u t) ts ∙ ap (list_any (λ u. same_terminal u t)) e))
holds_these (Err x) ts g e h = tt

-- symbols that compare equal are the same
symbol_ties : (s t : Symbol) → same_symbol s t ≡ is_eq ((symbol.cmp-value).it s t)
symbol_ties (Nonterminal m) (Nonterminal n) = texts_ties m.0 n.0
symbol_ties (Nonterminal m) (Terminal t) = refl
symbol_ties (Terminal s) (Nonterminal n) = refl
symbol_ties (Terminal s) (Terminal t) = sym (terminal_ties s t)

-- references to what tells productions from one another, in order
abbrev Key : Type 0
Key = Bor NonterminalString × Bor (List Symbol) × ℕ

abbrev key_cmp : Key → Key → Ordering
key_cmp x y = ordering_then (ordering_then (slice_cmp nat_cmp x.0.now.0 y.0.now.0) (slice_cmp (symbol.cmp-value).it x.1.now y.1.now)) (nat_cmp x.2 y.2)

keys_tie : (x y : Key) → is_eq (key_cmp x y) ≡ same_key (key_of x) (key_of y)
keys_tie x y =
    sym (both_tied _ _ (ordering_then (slice_cmp nat_cmp x.0.now.0 y.0.now.0) (slice_cmp (symbol.cmp-value).it x.1.now y.1.now)) (nat_cmp x.2 y.2)
    (both_tied _ _ (slice_cmp nat_cmp x.0.now.0 y.0.now.0) (slice_cmp (symbol.cmp-value).it x.1.now y.1.now) (texts_ties x.0.now.0 y.0.now.0) (lists_ties (symbol.cmp-value).it symbol_ties x.1.now y.1.now))
    (unsigned_ties x.2 y.2))

-- productions are told apart by these
pub keys_apart : {E : Type 0} (ks : List Key) (ps : List (Bor Production)) (r : Result (Option ℕ) E) → map key_of ks ≡ map (λ p. production_key p.now) ps → IfOk r (IsFirstFailing (IsNewBy (λ y x. is_eq (key_cmp y x)) ks)) → IfOk r (IsFirstFailing (IsNewBy same_production (map deref ps)))
keys_apart ks ps r e h =
    let one = first_of_image key_of same_key ks r (first_alike (λ y x. is_eq (key_cmp y x)) (λ y x. same_key (key_of y) (key_of x)) keys_tie ks r h) in
    let two = subst (λ zs. IfOk r (IsFirstFailing (IsNewBy same_key zs))) e one in
    first_of_image deref same_production ps r (first_in_image (λ (p : Bor Production). production_key p.now) same_key ps r two)

-- there are as many productions with the nonterminals under which they stand
abbrev under : NonterminalString × NonterminalData → List (NonterminalString × Production)
under e = map (λ p. (e.0, p)) (e.1).productions

placed_length : (es : List (NonterminalString × NonterminalData)) → length (flat_map under es) ≡ length (flat_map (λ d. d.productions) (values_of es))
placed_length [] = refl
placed_length (e ∷ es) =
    let one : length (under e) ≡ length (e.1).productions = length-map (e.1).productions _ in
    let rest = placed_length es in
    rw (length-append (under e) (flat_map under es), length-append (e.1).productions (flat_map (λ d. d.productions) (values_of es))) (omega arith)

-- past the last production nothing fails
known_past : (g : Grammar) (k : ℕ) → length (productions_of g) ≤ k → ProductionIsKnown g k
known_past g k past =
    let same = placed_length g.nonterminals.entries in
    (passes_past (production_is_known_by g (has_terminal g)) (placed_of g) k (omega (arith, same)), new_past same_production (productions_of g) k past)

pub unknown_within : (g : Grammar) (k : ℕ) → ¬ ProductionIsKnown g k → k < length (productions_of g)
unknown_within g k h = ⊎_elim (λ less. less) (λ past. absurd (h (known_past g k past))) (cases_lt k (length (productions_of g)))
