-- The bytes of identifiers are those of words.
use Rattle.std.proofs.Common.{◌≡◌, ℕ, ◌+◌, ◌/◌, ◌%◌, ◌==◌, ◌<◌, ◌≤◌, zero, suc, true, not, ◌&&◌, List, [], ◌∷◌, ◌++◌, codes, refl, sym, ◌∙◌, subst, arith, ltb, ⊎_elim}
use Rattle.std.proofs.Math.Dec.{leb}
use Rattle.std.specs.List.{list_all}
use Rattle.std.specs.Prelude.{slice_index}
use Rattle.std.specs.Char.{is_ascii_alphanumeric}
use Rattle.std.specs.Int.{is_in_range}
use Rattle.std.specs.Str.{IsUtf8, chars, encode_utf8_all}
use Rattle.std.proofs.lemmas.Bool.{and_parts, and_from, or_cases, or_left, or_right, cond_both, le-leb, ltb-true}
use Rattle.std.proofs.lemmas.List.Folds.{list_all-append}
use Rattle.std.proofs.lemmas.Str.{encodes-chars, IsUtf8-append, IsUtf8-from_ascii}
use Rattle.unicode_ident.specs.Ident.{is_xid_start, is_xid_continue}
use Rattle.unicode_ident.proofs.IdentLemmas.{is_xid_continue-ascii, is_xid_start-is_xid_continue}
use lib.Utf8.{encode}
use Rattle.lp_repr.specs.Names.{same_text}
use Rattle.lp_tok.specs.Scans.{starts_word, continues_word}
use Rattle.lp_texts.specs.Identifiers.{is_identifier}
use Rattle.lp_texts.specs.Identifiers as identifier
use Rattle.lp_spelling.specs.HoleEnds.{is_digit, is_word}

under_word : (c : ℕ) → (c == 95) ≡ true → is_word c ≡ true
under_word c h = or_right (is_digit c) _ (or_right (leb 65 c && leb c 90) _ (or_right (leb 97 c && leb c 122) _ (or_left (c == 95) _ h)))

alphanumeric_word : (c : ℕ) → is_ascii_alphanumeric c ≡ true → is_word c ≡ true
alphanumeric_word c h =
    ⊎_elim
    (λ a.
    ⊎_elim
    (λ d. or_left (is_digit c) _ d)
    (λ u. or_right (is_digit c) _ (or_left (leb 65 c && leb c 90) _ u))
    (or_cases (is_in_range 48 57 c) (is_in_range 65 90 c) a))
    (λ l. or_right (is_digit c) _ (or_right (leb 65 c && leb c 90) _ (or_left (leb 97 c && leb c 122) _ l)))
    (or_cases _ (is_in_range 97 122 c) h)

high_word : (m n : ℕ) → 128 ≤ m → is_word (m + n) ≡ true
high_word m n h =
    let c : ℕ = m + n in
    or_right (is_digit c) _ (or_right (leb 65 c && leb c 90) _ (or_right (leb 97 c && leb c 122) _ (or_right (c == 95) _ (le-leb 128 c (omega (arith, h))))))

continues_ascii : (c : ℕ) → continues_word c ≡ true → c < 128 → is_word c ≡ true
continues_ascii c h lt =
    ⊎_elim
    (λ x. ⊎_elim (alphanumeric_word c) (under_word c) (or_cases (is_ascii_alphanumeric c) (c == 95) (sym (is_xid_continue-ascii c lt) ∙ x)))
    (under_word c)
    (or_cases (is_xid_continue c) (c == 95) h)

starts_continues : (c : ℕ) → starts_word c ≡ true → continues_word c ≡ true
starts_continues c h =
    ⊎_elim
    (λ x. or_left (is_xid_continue c) _ (is_xid_start-is_xid_continue c x))
    (λ e. or_right (is_xid_continue c) _ e)
    (or_cases (is_xid_start c) (c == 95) h)

encode_word : (c : ℕ) → continues_word c ≡ true → list_all is_word (encode c) ≡ true
unfolding encode
encode_word c h =
    cond_both (ltb c 128) (c ∷ []) _ (λ (x : List ℕ). list_all is_word x ≡ true)
    (λ a. and_from (is_word c) true (continues_ascii c h (ltb-true c 128 a)) refl)
    (λ a.
    cond_both (ltb c 2048) _ _ (λ (x : List ℕ). list_all is_word x ≡ true)
    (λ b. and_from _ _ (high_word 192 (c / 64) (omega arith)) (and_from _ true (high_word 128 (c % 64) (omega arith)) refl))
    (λ b.
    cond_both (ltb c 65536) _ _ (λ (x : List ℕ). list_all is_word x ≡ true)
    (λ d. and_from _ _ (high_word 224 (c / 4096) (omega arith)) (and_from _ _ (high_word 128 (c / 64 % 64) (omega arith)) (and_from _ true (high_word 128 (c % 64) (omega arith)) refl)))
    (λ d.
    and_from _ _ (high_word 240 (c / 262144) (omega arith))
    (and_from _ _ (high_word 128 (c / 4096 % 64) (omega arith)) (and_from _ _ (high_word 128 (c / 64 % 64) (omega arith)) (and_from _ true (high_word 128 (c % 64) (omega arith)) refl))))))

all_words : (cs : List ℕ) → list_all continues_word cs ≡ true → list_all is_word (encode_utf8_all cs) ≡ true
all_words [] h = refl
all_words (c ∷ cs) h =
    let p = and_parts (continues_word c) (list_all continues_word cs) h in
    list_all-append is_word (encode c) (encode_utf8_all cs) ∙ and_from (list_all is_word (encode c)) _ (encode_word c p.0) (all_words cs p.1)

word_continues : (cs : List ℕ) → identifier.is_word cs ≡ true → list_all continues_word cs ≡ true
word_continues [] h = refl
word_continues (c ∷ cs) h =
    let p = and_parts (starts_word c) (list_all continues_word cs) h in
    and_from (continues_word c) _ (starts_continues c p.0) p.1

pub identifier_words : (text : List ℕ) → IsUtf8 text → is_identifier text ≡ true → list_all is_word text ≡ true
identifier_words text u h =
    let p = and_parts (not (same_text text (codes "_"))) (identifier.is_word (chars text)) h in
    subst (λ x. list_all is_word x ≡ true) (encodes-chars text u) (all_words (chars text) (word_continues (chars text) p.1))

pub ascii_at : (t : List ℕ) → list_all (λ b. ltb b 128) t ≡ true → (i : ℕ) → slice_index t i < 128
ascii_at [] h i = omega arith
ascii_at (b ∷ t) h zero = ltb-true b 128 (and_parts (ltb b 128) (list_all (λ b. ltb b 128) t) h).0
ascii_at (b ∷ t) h (suc i) = ascii_at t (and_parts (ltb b 128) (list_all (λ b. ltb b 128) t) h).1 i

pub prefix_words : (prefix : List ℕ) → IsUtf8 prefix → is_identifier (prefix ++ codes "lalrpop_util") ≡ true → list_all is_word prefix ≡ true
prefix_words prefix u h =
    let s : List ℕ = codes "lalrpop_util" in
    let ascii : IsUtf8 s = IsUtf8-from_ascii s (ascii_at s refl) in
    let whole : list_all is_word (prefix ++ s) ≡ true = identifier_words (prefix ++ s) (IsUtf8-append prefix s u ascii) h in
    (and_parts (list_all is_word prefix) (list_all is_word s) (sym (list_all-append is_word prefix s) ∙ whole)).0
