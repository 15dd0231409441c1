-- The prefix and the names of a valid grammar are plain.
use Rattle.std.proofs.Common.{◌≡◌, ℕ, ◌+◌, ◌-◌, ◌<◌, ◌==◌, Bool, true, false, not, ◌||◌, List, [], ◌∷◌, ◌++◌, length, codes, IsUtf8, chars, Some, refl, ap, sym, subst, ◌∙◌, arith, ⊎_elim, append_assoc}
use Rattle.std.proofs.lemmas.Option.{slice_get_within}
use Rattle.lp_code_laws.proofs.Slots.Slots.{get_behind}
use Rattle.std.specs.Prelude.{slice_get}
use Rattle.std.specs.List.{list_all}
use Rattle.std.specs.BTreeMap.{values}
use Rattle.std.proofs.lemmas.Bool.{and_from, and_parts, or_cases, or_left, or_right}
use Rattle.std.proofs.lemmas.Str.{chars-nil, IsUtf8-append, IsUtf8-from_ascii}
use Rattle.unicode_ident.specs.Ident.{is_xid_continue, is_xid_start}
use Rattle.lp_tok.specs.Scans.{continues_word, starts_word}
use Rattle.lp_repr.specs.Names.{same_text}
use Rattle.lp_repr.specs.Numbering.{nonterminals_of}
use Rattle.lp_repr.specs.declared.repr.Grammar.{Grammar}
use Rattle.lp_repr.specs.declared.repr.Parameter.{Parameter}
use Rattle.lp_texts.specs.Identifiers as texts
use Rattle.lp_valid.specs.NameRules.{begins_word, is_word as is_name_word, is_identifier, is_reserved, is_parameter_name}
use Rattle.lp_valid.specs.Places.{EachPasses}
use Rattle.lp_valid.specs.PrefixRules.{holds_prefix, lacks}
use Rattle.lp_valid.specs.ValidGrammar.{IsValidGrammar, names, prefixes}
use Rattle.lp_spelling.specs.HoleEnds.{is_word}
use Rattle.lp_reading_laws.proofs.Holes.Words.{ascii_at, identifier_words}
use Rattle.lp_maker.specs.Texts.{begins}
use Rattle.lp_question_laws.proofs.Gotos.Digits.{Lacks}
use Rattle.lp_code_laws.proofs.Slots.Names.{same_text as same_name}
use Rattle.lp_question_laws.proofs.Actions.Parameters.{ArePlain}
use Rattle.lp_question_laws.proofs.Actions.Rules.{passes}
use Rattle.lp_question_laws.proofs.Actions.Texts.{IsPlainPrefix, IsPlainName}

-- words hold no byte of another kind
words_lack : (c : ℕ) (s : List ℕ) → is_word c ≡ false → list_all is_word s ≡ true → Lacks c s
words_lack c [] other h = tt
words_lack c (b ∷ bs) other h =
    let p = and_parts (is_word b) (list_all is_word bs) h in
    (λ e. (let bad : true ≡ false = sym p.0 ∙ ap is_word e ∙ other in cc), words_lack c bs other p.1)

-- a prefix of word bytes
pub plain_prefix : (prefix : List ℕ) → list_all is_word prefix ≡ true → 0 < length prefix → IsPlainPrefix prefix
plain_prefix prefix h some = record {
  wordy = record { no_and = words_lack 38 prefix refl h; no_open = words_lack 40 prefix refl h; no_colon = words_lack 58 prefix refl h };
  no_dot = words_lack 46 prefix refl h;
  no_star = words_lack 42 prefix refl h;
  some = some;
}

-- the crate's name with a prefix is one of word bytes
pub named_words : (prefix : List ℕ) → IsUtf8 prefix → texts.is_identifier (prefix ++ codes "lalrpop_util") ≡ true → list_all is_word (prefix ++ codes "lalrpop_util") ≡ true
named_words prefix utf8 h =
    let s : List ℕ = codes "lalrpop_util" in
    identifier_words (prefix ++ s) (IsUtf8-append prefix s utf8 (IsUtf8-from_ascii s (ascii_at s refl))) h

-- ---- names

goes_on : (cs : List ℕ) → list_all is_xid_continue cs ≡ true → list_all continues_word cs ≡ true
goes_on [] h = refl
goes_on (c ∷ cs) h =
    let p = and_parts (is_xid_continue c) (list_all is_xid_continue cs) h in
    and_from _ _ (or_left (is_xid_continue c) (c == 95) p.0) (goes_on cs p.1)

starts : (c : ℕ) → begins_word c ≡ true → starts_word c ≡ true
starts c h = ⊎_elim (λ u. or_right (is_xid_start c) (c == 95) u) (λ x. or_left (is_xid_start c) (c == 95) x) (or_cases (c == 95) (is_xid_start c) h)

name_word : (cs : List ℕ) → is_name_word cs ≡ true → texts.is_word cs ≡ true
name_word [] h = cc
name_word (c ∷ cs) h =
    let p = and_parts (begins_word c) (list_all is_xid_continue cs) h in
    and_from (starts_word c) (list_all continues_word cs) (starts c p.0) (goes_on cs p.1)

identifier_text : (name : List ℕ) → is_identifier name ≡ true → texts.is_identifier name ≡ true
identifier_text name h =
    let p = and_parts (not (same_text name (codes "_"))) (is_name_word (chars name)) h in
    and_from (not (same_text name (codes "_"))) (texts.is_word (chars name)) p.0 (name_word (chars name) p.1)

no_blank : (name : List ℕ) → not (same_text name (codes "_")) ≡ true → name ≡ codes "_" → ⊥
no_blank name h e = let bad : not true ≡ true = sym (ap not (same_name (codes "_"))) ∙ ap (λ t. not (same_text t (codes "_"))) (sym e) ∙ h in cc

some_word : (name : List ℕ) → is_name_word (chars name) ≡ true → 0 < length name
some_word [] h = absurd (let bad : false ≡ true = ap is_name_word (sym chars-nil) ∙ h in cc)
some_word (c ∷ cs) h = omega arith

not_begun : (prefix name : List ℕ) → lacks prefix name ≡ true → begins prefix name ≡ false
not_begun prefix [] h = by (begins prefix []) h
  where
    by : (b : Bool) → not b ≡ true → b ≡ false
    by true e = cc
    by false e = refl
not_begun prefix (c ∷ cs) h = by (begins prefix (c ∷ cs)) (holds_prefix prefix cs) h
  where
    by : (a b : Bool) → not (a || b) ≡ true → a ≡ false
    by true b e = cc
    by false b e = refl

-- the bytes of a parameter's name are those of words
pub name_words : (name : List ℕ) → IsUtf8 name → is_parameter_name name ≡ true → list_all is_word name ≡ true
name_words name utf8 h = identifier_words name utf8 (identifier_text name (and_parts (is_identifier name) (not (is_reserved name)) h).0)

-- a parameter's name without the prefix
pub plain_name : (prefix name : List ℕ) → IsUtf8 name → is_parameter_name name ≡ true → lacks prefix name ≡ true → IsPlainName prefix name
plain_name prefix name utf8 h apart =
    let p = and_parts (is_identifier name) (not (is_reserved name)) h in
    let q = and_parts (not (same_text name (codes "_"))) (is_name_word (chars name)) p.0 in
    let w = name_words name utf8 h in
    record {
      wordy = record { no_and = words_lack 38 name refl w; no_open = words_lack 40 name refl w; no_colon = words_lack 58 name refl w };
      no_mark = words_lack 126 name refl w;
      some = some_word name q.1;
      not_blank = no_blank name q.0;
      apart = not_begun prefix name apart;
    }

-- the same of each that a grammar has
module _ (g : Grammar) (valid : IsValidGrammar g) (utf8 : (i : ℕ) (p : Parameter) → slice_get g.parameters i ≡ Some p → IsUtf8 p.name) where
  named : (i : ℕ) (p : Parameter) → slice_get g.parameters i ≡ Some p → is_parameter_name p.name ≡ true
  named i p is =
      let many = length g.start_nonterminals.entries in
      let at : many + i - many ≡ i = omega arith in
      let less : i < length g.parameters = slice_get_within g.parameters i p is in
      let second = (valid names (many + i)).1 (omega arith) in
      passes (λ q. is_parameter_name q.name) g.parameters i p is (subst (EachPasses (λ (q : Parameter). is_parameter_name q.name) g.parameters) at (second.0 (omega (arith, at, less))))

  apart : (i : ℕ) (p : Parameter) → slice_get g.parameters i ≡ Some p → lacks g.prefix p.name ≡ true
  apart i p is =
      let starts_many = length (values g.start_nonterminals) in
      let many = length (nonterminals_of g) in
      let place = starts_many + (many + i) in
      let less : i < length g.parameters = slice_get_within g.parameters i p is in
      let at : place - starts_many - many ≡ i = omega arith in
      let second = ((valid prefixes place).1 (omega arith)).1 (omega arith) in
      passes (λ q. lacks g.prefix q.name) g.parameters i p is (subst (EachPasses (λ (q : Parameter). lacks g.prefix q.name) g.parameters) at (second.0 (omega (arith, at, less))))

  all_plain : (front ps : List Parameter) → front ++ ps ≡ g.parameters → ArePlain g.prefix ps
  all_plain front [] h = tt
  all_plain front (p ∷ ps) h =
      let is : slice_get g.parameters (length front) ≡ Some p = ap (λ l. slice_get l (length front)) (sym h) ∙ get_behind front p ps in
      (plain_name g.prefix p.name (utf8 (length front) p is) (named (length front) p is) (apart (length front) p is), all_plain (front ++ p ∷ []) ps (append_assoc front (p ∷ []) ps ∙ h))

  pub names_are_words : (i : ℕ) (p : Parameter) → slice_get g.parameters i ≡ Some p → list_all is_word p.name ≡ true
  names_are_words i p is = name_words p.name (utf8 i p is) (named i p is)

  pub names_are_plain : ArePlain g.prefix g.parameters
  names_are_plain = all_plain [] g.parameters refl
