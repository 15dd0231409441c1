-- The prefix of a grammar that may be emitted is one, where it isn't empty.
use Rattle.std.proofs.Common.{◌≡◌, ℕ, ◌<◌, ◌==◌, true, false, not, ◌||◌, nat_eq, nat_lt, List, [], ◌∷◌, ◌++◌, length, drop, codes, IsUtf8, IsAscii, chars, refl, sym, ap, ◌∙◌, arith, ⊎_elim}
use Rattle.std.specs.Char.{is_ascii_alphanumeric}
use Rattle.std.specs.List.{list_all, starts_with}
use Rattle.std.specs.Map.{values_of}
use Rattle.std.proofs.lemmas.Bool.{and_from, and_parts, and_right, lt-ltb, or_cases, or_left, or_right}
use Rattle.std.proofs.lemmas.List.Folds.{list_all-append}
use Rattle.std.proofs.lemmas.Str.{chars-append, chars-IsAscii}
use Rattle.unicode_ident.proofs.IdentLemmas.{is_xid_continue-ascii}
use Rattle.unicode_ident.specs.Ident.{is_xid_continue, is_xid_start}
use Rattle.lp_tok.specs.Scans.{continues_word, starts_word}
use Rattle.lp_repr.specs.Names.{same_text}
use Rattle.lp_repr.specs.declared.lr1.StartStates.{StartStates}
use Rattle.lp_repr.specs.declared.repr.Grammar.{Grammar}
use Rattle.lp_repr.specs.declared.repr.NonterminalString.{NonterminalString}
use Rattle.lp_texts.specs.Identifiers.{is_identifier, is_word}
use Rattle.lp_valid.specs.NameRules.{begins_word, start_has_names}
use Rattle.lp_valid.specs.NameRules as valid
use Rattle.lp_valid.specs.Places.{EachPasses}
use Rattle.lp_valid.specs.ValidGrammar.{names, prefixes}
use Rattle.lp_spelling.proofs.Reading.{starts_ok}
use Rattle.lp_program.specs.Reads.{is_prefix}
use Rattle.lp_reading_laws.proofs.Printing.Fronts.{chars_some}
use Rattle.lp_reading_laws.proofs.Printing.Sound.{plain_ascii}
use Rattle.lp_emitted.specs.Emittable.{IsEmittable}

-- the first start has a name that begins with the prefix
record Named (prefix : List ℕ) : Type 0 where
  name : List ℕ
  is_name : valid.is_identifier name ≡ true
  front : starts_with nat_eq name prefix ≡ true

first_named : (prefix : List ℕ) (es : List (NonterminalString × NonterminalString)) → (es ≡ [] → ⊥) → (0 < length es → EachPasses start_has_names es 0) →
    (0 < length (values_of es) → EachPasses (λ (s : NonterminalString). starts_with nat_eq s.0 prefix) (values_of es) 0) → Named prefix
first_named prefix [] some called begun = absurd (some refl)
first_named prefix (e ∷ es) some called begun = record {
  name = (e.1).0;
  is_name = (and_parts (valid.is_identifier (e.0).0) (valid.is_identifier (e.1).0) (called (omega arith))).1;
  front = begun (omega arith);
}

-- words
goes_on : (cs : List ℕ) → list_all is_xid_continue cs ≡ true → list_all continues_word cs ≡ true
goes_on [] h = refl
goes_on (c ∷ cs) h =
    let p = and_parts (is_xid_continue c) (list_all is_xid_continue cs) h in
    and_from _ _ (or_left (is_xid_continue c) (c == 95) p.0) (goes_on cs p.1)

begins : (c : ℕ) → begins_word c ≡ true → starts_word c ≡ true
begins c h = ⊎_elim (λ u. or_right (is_xid_start c) (c == 95) u) (λ x. or_left (is_xid_start c) (c == 95) x) (or_cases (c == 95) (is_xid_start c) h)

-- the front of a word, with more that goes on behind it
word_front : (xs ys zs : List ℕ) → 0 < length xs → valid.is_word (xs ++ ys) ≡ true → list_all continues_word zs ≡ true → is_word (xs ++ zs) ≡ true
word_front [] ys zs some h more = absurd (omega (arith, some))
word_front (x ∷ xs) ys zs some h more =
    let p = and_parts (begins_word x) (list_all is_xid_continue (xs ++ ys)) h in
    let q = and_parts (list_all is_xid_continue xs) (list_all is_xid_continue ys) (sym (list_all-append is_xid_continue xs ys) ∙ p.1) in
    and_from (starts_word x) (list_all continues_word (xs ++ zs)) (begins x p.0)
    (list_all-append continues_word xs zs ∙ and_from (list_all continues_word xs) (list_all continues_word zs) (goes_on xs q.0) more)

ascii_goes : (c : ℕ) → c < 128 → (is_ascii_alphanumeric c || (c == 95)) ≡ true → continues_word c ≡ true
ascii_goes c lt h = or_left (is_xid_continue c) (c == 95) (is_xid_continue-ascii c lt ∙ h)

util_goes : list_all continues_word (codes "lalrpop_util") ≡ true
util_goes =
    and_from _ _ (ascii_goes 108 (omega arith) refl) (and_from _ _ (ascii_goes 97 (omega arith) refl) (and_from _ _ (ascii_goes 108 (omega arith) refl) (and_from _ _ (ascii_goes 114 (omega arith) refl)
    (and_from _ _ (ascii_goes 112 (omega arith) refl) (and_from _ _ (ascii_goes 111 (omega arith) refl) (and_from _ _ (ascii_goes 112 (omega arith) refl) (and_from _ _ (ascii_goes 95 (omega arith) refl)
    (and_from _ _ (ascii_goes 117 (omega arith) refl) (and_from _ _ (ascii_goes 116 (omega arith) refl) (and_from _ _ (ascii_goes 105 (omega arith) refl) (and_from _ true (ascii_goes 108 (omega arith) refl) refl)))))))))))

util_ascii : IsAscii (codes "lalrpop_util")
util_ascii = plain_ascii (codes "lalrpop_util") refl

no_underscore : (prefix : List ℕ) → 0 < length prefix → same_text (prefix ++ codes "lalrpop_util") (codes "_") ≡ false
no_underscore [] h = absurd (omega (arith, h))
no_underscore (p ∷ []) h = and_right (nat_eq p 95) false refl
no_underscore (p ∷ q ∷ ps) h = and_right (nat_eq p 95) false refl

named_prefix : (prefix : List ℕ) → IsUtf8 prefix → 0 < length prefix → Named prefix → is_prefix prefix ≡ true
named_prefix prefix utf8 some n =
    let rest : List ℕ = drop (length prefix) n.name in
    let split : n.name ≡ prefix ++ rest = starts_ok prefix n.name n.front in
    let word : valid.is_word (chars prefix ++ chars rest) ≡ true =
    ap valid.is_word (sym (ap chars split ∙ chars-append prefix rest utf8)) ∙ (and_parts (not (same_text n.name (codes "_"))) (valid.is_word (chars n.name)) n.is_name).1 in
    let util : list_all continues_word (chars (codes "lalrpop_util")) ≡ true = ap (list_all continues_word) (chars-IsAscii (codes "lalrpop_util") util_ascii) ∙ util_goes in
    and_from (nat_lt 0 (length prefix)) (is_identifier (prefix ++ codes "lalrpop_util")) (lt-ltb 0 (length prefix) some)
    (and_from (not (same_text (prefix ++ codes "lalrpop_util") (codes "_"))) (is_word (chars (prefix ++ codes "lalrpop_util"))) (ap not (no_underscore prefix some))
    (ap is_word (chars-append prefix (codes "lalrpop_util") utf8)
    ∙ word_front (chars prefix) (chars rest) (chars (codes "lalrpop_util")) (chars_some prefix utf8 some) word util))

pub prefix_fits : (g : Grammar) (states : List StartStates) → IsEmittable g states → IsUtf8 g.prefix → 0 < length g.prefix → is_prefix g.prefix ≡ true
prefix_fits g states m utf8 some = named_prefix g.prefix utf8 some (first_named g.prefix g.start_nonterminals.entries m.start (m.valid names 0).0 (m.valid prefixes 0).0)
