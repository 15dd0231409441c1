-- The rules of a machine and of the tables: they agree, and tell the starts.
use Rattle.std.proofs.Common.{◌≡◌, ◌≢◌, ℕ, suc, ◌+◌, Bool, true, false, ◌||◌, List, [], ◌∷◌, ◌++◌, length, map, Some, slice_get, refl, sym, ap, ◌∙◌, subst, arith}
use Rattle.std.specs.BTreeMap.{values}
use Rattle.std.specs.List.{list_any}
use Rattle.std.proofs.lemmas.List.{length-map}
use Rattle.std.proofs.lemmas.Map.Keys.{any_passes_from_place}
use Rattle.std.proofs.lemmas.Option.{same_Some}
use Rattle.lp_repr.specs.Names.{same_nonterminal}
use Rattle.lp_repr.specs.Numbering as by_symbols
use Rattle.lp_repr.specs.Numbering.{number_or_count}
use Rattle.lp_repr.specs.ValidTables.{start_number}
use Rattle.lp_repr.specs.declared.repr.Grammar.{Grammar}
use Rattle.lp_repr.specs.declared.repr.NonterminalString.{NonterminalString}
use Rattle.lp_repr.specs.declared.repr.Production.{Production}
use Rattle.lp_repr.specs.declared.numbering.Rule as numbering
use Rattle.lp_machine.specs.declared.lookup.Rule.{Rule}
use Rattle.lp_machine.specs.GrammarTables.{is_start, rule_of, rules_from, rules_of}
use Rattle.lp_valid.specs.ValidGrammar.{IsValidGrammar}
use Rattle.lp_turn_laws.specs.Paths.Walks.{IsUnseen}
use Rattle.lp_turn_laws.proofs.Paths.Numbered.{Entry, numbered, as_rule, Place, numbered_at, rules_numbered}
use Rattle.lp_turn_laws.proofs.Paths.Starts.{unseen_key, start_entry}

-- the rule of each production
abbrev pub as_known : Grammar → ℕ → Entry → Production → Rule
as_known g j e p = rule_of j (is_start g e.0) p

-- the machine's rules are numbered as the productions are
pub known_numbered_from : (g : Grammar) (k : ℕ) (es : List Entry) → rules_from g k es ≡ numbered (as_known g) k es
unfolding numbered
known_numbered_from g k [] = refl
known_numbered_from g k (e ∷ es) = ap (λ (rs : List Rule). map (rule_of k (is_start g e.0)) (e.1).productions ++ rs) (known_numbered_from g (k + 1) es)

-- what passes stands somewhere
pub any_place : {X : Type 0} (test : X → Bool) (xs : List X) → list_any test xs ≡ true → (i : ℕ) × (x : X) × (slice_get xs i ≡ Some x) × (test x ≡ true)
any_place test [] h = cc
any_place {X} test (y ∷ xs) h =
    elim (test y) as (λ b. test y ≡ b → (b || list_any test xs) ≡ true → (i : ℕ) × (x : X) × (slice_get (y ∷ xs) i ≡ Some x) × (test x ≡ true)) [
      | true ↦ λ e k. (0, y, refl, e)
      | false ↦ λ e k. let w = any_place test xs k in (suc w.0, w.1, w.2, w.3)
    ] refl h

-- the rules of one number agree
pub record Agree (g : Grammar) (y : ℕ) (m : Rule) : Type 0 where
  pub rule : numbering.Rule
  pub at : slice_get (by_symbols.rules_of g) y ≡ Some rule
  pub length_is : m.length ≡ length rule.right
  pub nonterminal_is : m.nonterminal ≡ rule.left
  pub starts : m.is_start ≡ true → IsUnseen (by_symbols.rules_of g) rule.left
  pub others : (start n : ℕ) → start_number g start ≡ Some n → m.is_start ≡ false → rule.left ≢ n

module _ (g : Grammar) (grammar : IsValidGrammar g) where
  -- a nonterminal that is a start's
  starts_at : (c : Place 0 g.nonterminals.entries) → is_start g c.entry.0 ≡ true → IsUnseen (by_symbols.rules_of g) c.j
  starts_at c h =
      let w = any_place (λ (s : NonterminalString). same_nonterminal s c.entry.0) (values g.start_nonterminals) h in
      unseen_key g grammar c.j c.entry w.0 w.1 c.entry_at w.2 w.3

  -- one that isn't is not the start of tables
  other_at : (c : Place 0 g.nonterminals.entries) (start n : ℕ) → start_number g start ≡ Some n → is_start g c.entry.0 ≡ false → c.j ≢ n
  other_at c start n begun h same =
      let s = start_entry g grammar start n begun in
      let e : s.3 ≡ c.entry = same_Some s.3 c.entry (sym s.4 ∙ ap (slice_get g.nonterminals.entries) (sym same) ∙ c.entry_at) in
      let is : is_start g c.entry.0 ≡ true = any_passes_from_place (λ (v : NonterminalString). same_nonterminal v c.entry.0) (values g.start_nonterminals) start s.0 s.1 (ap (λ (x : Entry). same_nonterminal s.0 x.0) (sym e) ∙ s.5) in
      let f : true ≡ false = sym is ∙ h in
      cc

  -- a rule of the machine has one of the tables of its number, and they agree
  pub agree : (y : ℕ) (m : Rule) → slice_get (rules_of g) y ≡ Some m → Agree g y m
  agree y m at =
      let c = numbered_at (as_known g) (as_rule g) 0 g.nonterminals.entries y m (ap (λ (rs : List Rule). slice_get rs y) (sym (known_numbered_from g 0 g.nonterminals.entries)) ∙ at) in
      let k : 0 + c.0.j ≡ c.0.j = omega arith in
      record {
        rule = by_symbols.rule_of g (0 + c.0.j) c.0.production;
        at = ap (λ (rs : List numbering.Rule). slice_get rs y) (rules_numbered g) ∙ c.2;
        length_is = ap (λ (r : Rule). r.length) c.1 ∙ sym (length-map c.0.production.symbols (number_or_count g));
        nonterminal_is = ap (λ (r : Rule). r.nonterminal) c.1;
        starts = λ h. subst (IsUnseen (by_symbols.rules_of g)) (sym k) (starts_at c.0 (sym (ap (λ (r : Rule). r.is_start) c.1) ∙ h));
        others = λ start n begun h same. other_at c.0 start n begun (sym (ap (λ (r : Rule). r.is_start) c.1) ∙ h) (sym k ∙ same);
      }

-- each rule of the tables is one of the machine's
pub is_known : (g : Grammar) (y : ℕ) (r : numbering.Rule) → slice_get (by_symbols.rules_of g) y ≡ Some r → (m : Rule) × (slice_get (rules_of g) y ≡ Some m)
is_known g y r at =
    let c = numbered_at (as_rule g) (as_known g) 0 g.nonterminals.entries y r (ap (λ (rs : List numbering.Rule). slice_get rs y) (sym (rules_numbered g)) ∙ at) in
    (as_known g (0 + c.0.j) c.0.entry c.0.production, ap (λ (rs : List Rule). slice_get rs y) (known_numbered_from g 0 g.nonterminals.entries) ∙ c.2)
