-- A program begins with the lines before the one at which a text is refused.
use Rattle.std.proofs.Common.{◌≡◌, ℕ, zero, suc, ◌+◌, ◌-◌, ◌^◌, ◌<◌, ◌≤◌, ◌==◌, ◌&&◌, ◌||◌, Bool, true, not, ltb, inl, inr, List, [], ◌∷◌, ◌++◌, length, take, Option, Some, None, IfSome, Bor, refl, sym, ap, ◌∙◌, arith, codes, subst, length-append, take-append-drop}
use Rattle.std.specs.Option.{MatchOption, unwrap_or}
use Rattle.std.specs.Prelude.{slice_index}
use Rattle.std.specs.Char.{is_ascii_alphanumeric}
use Rattle.std.specs.List.{list_all}
use Rattle.std.specs.Str.{IsUtf8, chars}
use Rattle.unicode_ident.specs.Ident.{is_xid_start, is_xid_continue}
use Rattle.unicode_ident.proofs.IdentLemmas.{is_xid_continue-ascii}
use Rattle.lp_repr.specs.Names.{same_text}
use Rattle.lp_tok.specs.Scans.{starts_word, continues_word}
use Rattle.lp_texts.specs.Identifiers as identifier
use Rattle.std.proofs.lemmas.Bool.{and_from, and_parts, cases_lt, ltb-true, or_left, or_right}
use Rattle.std.proofs.lemmas.List.Sums.{count_by-le-length}
use Rattle.std.proofs.lemmas.Str.{chars-IsAscii, IsUtf8-append, IsUtf8-from_ascii, IsUtf8-nil}
use Rattle.std.proofs.lemmas.Str.Ascii.{IsAscii-cons, IsAscii-nil}
use Rattle.lp_form.specs.declared.part.Part.TheVariants as part
use Rattle.lp_spelling.specs.Counting.{line_len, feeds, settled}
use Rattle.lp_spelling.specs.Counting as counting
use Rattle.lp_spelling.specs.Cursors.{left}
use Rattle.lp_local.specs.Agreeing.{first_lines}
use Rattle.lp_local.proofs.Agreeing.{feeds-append, lines_by_line}
use Rattle.lp_local.proofs.Back.{utf8_before}
use Rattle.lp_local.proofs.Settling.{behind_byte, before_byte, settled_left}
use Rattle.lp_program.specs.declared.read.reader.Reader.{Reader}
use Rattle.lp_program.specs.Prefixes.{renaming, renamed, ShowsPrefix}
use Rattle.lp_program.specs.Prefixes.ShowsPrefix.{shown, behind_use, behind_line}
use Rattle.lp_program.specs.Reads.{is_prefix}
use Rattle.lp_program.specs.Starting.{Begun, BegunBefore, Starts}
use Rattle.lp_program.specs.Starting.Goal.{one_part}
use Rattle.lp_program.specs.Starting.Starts.{ended}
use Rattle.lp_program.proofs.Existing.{behind_utf8}
use Rattle.lp_program.proofs.Fronts.{lines_again_of, lines_part}
use Rattle.lp_program.proofs.Nearby.{like_first, no_front, no_lines}
use Rattle.lp_program.proofs.Prefixes.{only_feeds}
use Rattle.lp_program.proofs.Settling.{line_text}

-- the first lines of a text are a text
lines_utf8 : (n : ℕ) (t : List ℕ) → IsUtf8 t → IsUtf8 (first_lines n t)
lines_utf8 zero t u = subst IsUtf8 (sym (no_lines t)) IsUtf8-nil
lines_utf8 (suc n) t u =
    let behind = behind_utf8 t u in
    let front = utf8_before (take (line_len t + 1) t) (counting.behind_line t) (subst IsUtf8 (sym (take-append-drop (line_len t + 1) t)) u) behind in
    subst IsUtf8 (sym (lines_by_line n t)) (IsUtf8-append (take (line_len t + 1) t) (first_lines n (counting.behind_line t)) front (lines_utf8 n (counting.behind_line t) behind))

-- nothing counts in a text of more lines than can be counted: all its bytes are line feeds
feeds_over : (n : ℕ) (t : List ℕ) → length t < 2 ^ 64 → 2 ^ 64 ≤ feeds t + 1 → settled (first_lines n t) ≡ []
feeds_over n t size many =
    let r = lines_part n t in
    let whole = ap length r.1 ∙ length-append (first_lines n t) r.0 in
    let lines = ap feeds r.1 ∙ feeds-append (first_lines n t) r.0 in
    let few = count_by-le-length (λ c. c == 10) (first_lines n t) in
    let others = count_by-le-length (λ c. c == 10) r.0 in
    only_feeds (first_lines n t) (omega (arith, size, many, whole, lines, few, others))

-- what a reader says that looked at lines of the whole text
pub program_begun : (text : List ℕ) (old new : Reader) → IsUtf8 text → length text < 2 ^ 64 → old.cursor.text.now ≡ text → left old.cursor ≡ text → old.looked ≡ 0 → Begun (one_part part.Program) old new → IsUtf8 old.prefix.now →
    is_prefix old.prefix.now ≡ true → BegunBefore new.looked text
program_begun text old new u size same all none begun v fits = (old.prefix.now, v, fits, starts)
  where
    starts_at : (n : ℕ) → n + 1 ≡ new.looked → Starts old.prefix.now (one_part part.Program) (first_lines n text)
    starts_at n e = elim (cases_lt (feeds text + 1) (2 ^ 64)) [
      | inr many ↦ ended (one_part part.Program) (first_lines n text) (feeds_over n text size many)
      | inl few ↦
          let like = like_first n old.cursor text (first_lines n text) same all u size few (lines_utf8 n text u) (lines_again_of n text) in
          let front : take old.cursor.raw old.cursor.text.now ++ first_lines n text ≡ first_lines n old.cursor.text.now
          = ap (λ (x : List ℕ). x ++ first_lines n text) (no_front old.cursor.text.now old.cursor.raw (all ∙ sym same)) ∙ ap (first_lines n) (sym same) in
          begun n (omega (arith, none)) e (first_lines n text) (record { like = like; front = front })
    ]

    starts : Starts old.prefix.now (one_part part.Program) (first_lines (new.looked - 1) text)
    starts = elim (cases_lt 0 new.looked) [
      | inl some ↦ starts_at (new.looked - 1) (omega (arith, some))
      | inr zero_is ↦
          let e : new.looked - 1 ≡ 0 = omega (arith, zero_is) in
          let empty : first_lines (new.looked - 1) text ≡ [] = ap (λ k. first_lines k text) e ∙ no_lines text in
          ended (one_part part.Program) (first_lines (new.looked - 1) text) (ap settled empty ∙ only_feeds [] refl)
    ]

-- the prefix that a text shows is a text too
shows_utf8 : (prefix text : List ℕ) → IsUtf8 text → ShowsPrefix prefix text → IsUtf8 prefix
shows_utf8 prefix _ u (shown text rest takes fits) =
    let line : IsUtf8 (renaming ++ renamed prefix) = subst (λ (x : List ℕ). IsUtf8 x) takes.line_is (line_text (settled text) (settled_left text u).utf8) in
    let name : IsUtf8 (renamed prefix) = behind_byte (codes "extern crate lalrpop_util as") 32 (renamed prefix) (omega arith) line in
    before_byte prefix 108 (codes "alrpop_util;") (omega arith) name
shows_utf8 prefix _ u (behind_use text used rest is v shows) = shows_utf8 prefix rest v shows
shows_utf8 prefix _ u (behind_line text line rest takes a b shows) = shows_utf8 prefix rest (subst (λ (x : List ℕ). IsUtf8 x) (sym takes.rest_is) (behind_utf8 (settled text) (settled_left text u).utf8)) shows

-- that prefix, or another where it shows none
pub prefix_told : (text : List ℕ) (shown : Option (Bor (List ℕ))) (other prefix : Bor (List ℕ)) → prefix ≡ unwrap_or shown other → IsUtf8 text → IfSome shown (λ x. is_prefix x.now ≡ true) →
    MatchOption shown ((p : List ℕ) → ShowsPrefix p text → ⊥) (λ x. ShowsPrefix x.now text) → IsUtf8 other.now → is_prefix other.now ≡ true → IsUtf8 prefix.now × (is_prefix prefix.now ≡ true)
prefix_told text None other prefix e u fits exact v k = (subst (λ (x : Bor (List ℕ)). IsUtf8 x.now) (sym e) v, ap (λ x. is_prefix x.now) e ∙ k)
prefix_told text (Some x) other prefix e u fits exact v k =
    (subst (λ (y : Bor (List ℕ)). IsUtf8 y.now) (sym e) (shows_utf8 x.now text u exact), ap (λ y. is_prefix y.now) e ∙ fits)

-- the prefix that stands for one that isn't shown
pub no_prefix_utf8 : IsUtf8 (codes "__")
no_prefix_utf8 = IsUtf8-from_ascii (codes "__") (IsAscii-cons 95 (95 ∷ []) (omega arith) (IsAscii-cons 95 [] (omega arith) IsAscii-nil))

-- letters of ASCII, digits and `_` go on with a word
abbrev is_plain : ℕ → Bool
is_plain c = ltb c 128 && (is_ascii_alphanumeric c || (c == 95))

plain_continues : (c : ℕ) → is_plain c ≡ true → continues_word c ≡ true
plain_continues c h =
    let p = and_parts (ltb c 128) (is_ascii_alphanumeric c || (c == 95)) h in
    or_left (is_xid_continue c) (c == 95) (is_xid_continue-ascii c (ltb-true c 128 p.0) ∙ p.1)

all_continue : (cs : List ℕ) → list_all is_plain cs ≡ true → list_all continues_word cs ≡ true
all_continue [] h = refl
all_continue (c ∷ cs) h =
    let p = and_parts (is_plain c) (list_all is_plain cs) h in
    and_from (continues_word c) (list_all continues_word cs) (plain_continues c p.0) (all_continue cs p.1)

ascii_at : (t : List ℕ) → list_all (λ b. ltb b 128) t ≡ true → (i : ℕ) → slice_index t i < 128
ascii_at [] h i = omega arith
ascii_at (b ∷ t) h zero = ltb-true b 128 (and_parts (ltb b 128) (list_all (λ b. ltb b 128) t) h).0
ascii_at (b ∷ t) h (suc i) = ascii_at t (and_parts (ltb b 128) (list_all (λ b. ltb b 128) t) h).1 i

pub no_prefix_fits : is_prefix (codes "__") ≡ true
no_prefix_fits =
    let name : List ℕ = codes "__lalrpop_util" in
    let same : chars name ≡ name = chars-IsAscii name (ascii_at name refl) in
    let word : identifier.is_word name ≡ true = and_from (starts_word 95) (list_all continues_word (codes "_lalrpop_util")) (or_right (is_xid_start 95) (95 == 95) refl) (all_continue (codes "_lalrpop_util") refl) in
    and_from (not (same_text name (codes "_"))) (identifier.is_word (chars name)) refl (ap identifier.is_word same ∙ word)
