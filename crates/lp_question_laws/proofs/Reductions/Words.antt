-- The names of a valid grammar's parameters, and its prefix, where their bytes are those of words.
use Rattle.std.proofs.Common.{◌≡◌, ℕ, suc, ◌+◌, ◌-◌, ◌<◌, Bool, true, false, not, ◌||◌, List, [], ◌∷◌, length, Some, IsTrue, slice_get, refl, sym, ap, ◌∙◌, subst, arith, codes}
use Rattle.std.specs.BTreeMap.{values}
use Rattle.std.specs.List.{list_all, starts_with}
use Rattle.std.specs.Str.{chars}
use Rattle.std.specs.Prelude.{nat_eq}
use Rattle.std.proofs.lemmas.Bool.{and_parts, false≢true}
use Rattle.std.proofs.lemmas.Option.{slice_get_within}
use Rattle.lp_repr.specs.Names.{same_text}
use Rattle.lp_repr.specs.Numbering.{nonterminals_of}
use Rattle.lp_repr.specs.declared.repr.Grammar.{Grammar}
use Rattle.lp_repr.specs.declared.repr.Parameter.{Parameter}
use Rattle.lp_maker.specs.Texts.{begins}
use Rattle.lp_valid.specs.NameRules.{start_has_names, is_identifier, is_parameter_name, is_reserved, is_word}
use Rattle.lp_valid.specs.Places.{EachPasses, Then}
use Rattle.lp_valid.specs.PrefixRules.{holds_prefix, lacks, lacks_or_starts, NonterminalsLack, ParametersLack}
use Rattle.lp_valid.specs.ValidGrammar.{names, prefixes, ParametersAreNamed, IsValidGrammar}
use Rattle.lp_question_laws.proofs.Gotos.Digits.{Lacks}
use Rattle.lp_turn_laws.proofs.Paths.Edges.{at_some}
use Rattle.lp_turn_laws.proofs.Paths.Numbered.{at_mapped}
use Rattle.lp_question_laws.proofs.Reductions.Texts.{AllKeys, IsKey, IsPrefix, names_of}

-- a test of bytes that these fail
pub record TellsWords (test : ℕ → Bool) : Type 0 where
  pub no_and : test 38 ≡ false
  pub no_open : test 40 ≡ false
  pub no_comma : test 44 ≡ false
  pub no_colon : test 58 ≡ false
  pub no_mark : test 126 ≡ false

lacks_all : (test : ℕ → Bool) (c : ℕ) → test c ≡ false → (s : List ℕ) → list_all test s ≡ true → Lacks c s
lacks_all test c out [] h = tt
lacks_all test c out (b ∷ s) h =
    let parts = and_parts (test b) (list_all test s) h in
    (λ e. false≢true (sym out ∙ ap test (sym e) ∙ parts.0), lacks_all test c out s parts.1)

pub prefix_is : (test : ℕ → Bool) → TellsWords test → (prefix : List ℕ) → list_all test prefix ≡ true → IsPrefix prefix
prefix_is test w prefix h = record {
  wordy = record { no_and = lacks_all test 38 w.no_and prefix h; no_open = lacks_all test 40 w.no_open prefix h; no_colon = lacks_all test 58 w.no_colon prefix h };
  no_comma = lacks_all test 44 w.no_comma prefix h;
}

-- ---- a parameter's name

not_false : (b : Bool) → not b ≡ true → b ≡ false
not_false true e = cc
not_false false e = refl

first_no : (a b : Bool) → not (a || b) ≡ true → a ≡ false
first_no true b e = cc
first_no false b e = refl

no_front : (prefix name : List ℕ) → 0 < length name → lacks prefix name ≡ true → begins prefix name ≡ false
no_front prefix [] some h = absurd (omega (arith, some))
no_front prefix (c ∷ cs) some h = first_no (starts_with nat_eq (c ∷ cs) prefix) (holds_prefix prefix cs) h

some_word : (name : List ℕ) → is_identifier name ≡ true → 0 < length name
unfolding chars
some_word [] h = absurd (false≢true h)
some_word (c ∷ cs) h = omega arith

pub key_is : (test : ℕ → Bool) → TellsWords test → (prefix name : List ℕ) → list_all test name ≡ true → is_parameter_name name ≡ true → lacks prefix name ≡ true → IsKey prefix name
key_is test w prefix name h named apart =
    let identifier = (and_parts (is_identifier name) (not (is_reserved name)) named).0 in
    let differs = not_false (same_text name (codes "_")) (and_parts (not (same_text name (codes "_"))) (is_word (chars name)) identifier).0 in
    let some = some_word name identifier in
    record {
      no_and = lacks_all test 38 w.no_and name h;
      no_open = lacks_all test 40 w.no_open name h;
      no_comma = lacks_all test 44 w.no_comma name h;
      no_colon = lacks_all test 58 w.no_colon name h;
      no_mark = lacks_all test 126 w.no_mark name h;
      some = some;
      not_blank = λ e. false≢true (sym differs ∙ ap (λ t. same_text t (codes "_")) e ∙ refl);
      apart = no_front prefix name some apart;
    }

-- ---- in a valid grammar

then_second : (First Second : ℕ → Type 0) (n i : ℕ) → Then n First Second (n + i) → Second i
then_second First Second n i h = let same : (n + i) - n ≡ i = omega arith in subst Second same (h.1 (omega arith))

module _ (g : Grammar) (valid : IsValidGrammar g) where
  parameter_named : (i : ℕ) (q : Parameter) → slice_get g.parameters i ≡ Some q → is_parameter_name q.name ≡ true
  parameter_named i q is =
      let rule = then_second (EachPasses start_has_names g.start_nonterminals.entries) (ParametersAreNamed g) (length g.start_nonterminals.entries) i (valid names (length g.start_nonterminals.entries + i)) in
      at_some (slice_get g.parameters i) (λ p. IsTrue (is_parameter_name p.name)) q is (rule.0 (slice_get_within g.parameters i q is))

  parameter_lacks : (i : ℕ) (q : Parameter) → slice_get g.parameters i ≡ Some q → lacks g.prefix q.name ≡ true
  parameter_lacks i q is =
      let m = length (values g.start_nonterminals) in
      let n = length (nonterminals_of g) in
      let first = then_second (EachPasses (λ s. starts_with nat_eq s.0 g.prefix) (values g.start_nonterminals)) (NonterminalsLack g) m (n + i) (valid prefixes (m + (n + i))) in
      let rule = then_second (EachPasses (lacks_or_starts g) (nonterminals_of g)) (ParametersLack g) n i first in
      at_some (slice_get g.parameters i) (λ p. IsTrue (lacks g.prefix p.name)) q is (rule.0 (slice_get_within g.parameters i q is))

  keys_by : (qs : List (List ℕ)) → ((i : ℕ) (q : List ℕ) → slice_get qs i ≡ Some q → IsKey g.prefix q) → AllKeys g.prefix qs
  keys_by [] h = tt
  keys_by (q ∷ qs) h = (h 0 q refl, keys_by qs (λ i k is. h (suc i) k is))

  -- all parameters
  pub valid_keys : (test : ℕ → Bool) → TellsWords test → ((i : ℕ) (q : Parameter) → slice_get g.parameters i ≡ Some q → list_all test q.name ≡ true) → AllKeys g.prefix (names_of g.parameters)
  valid_keys test w words = keys_by (names_of g.parameters) (λ i name is.
      let q = at_mapped (λ (p : Parameter). p.name) g.parameters i name is in
      subst (IsKey g.prefix) (sym q.2) (key_is test w g.prefix (q.0).name (words i q.0 q.1) (parameter_named i q.0 q.1) (parameter_lacks i q.0 q.1)))
