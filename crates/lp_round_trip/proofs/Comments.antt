-- A cut doesn't stop within a comment.
use Rattle.std.proofs.Common.{◌≡◌, ℕ, ◌+◌, ◌-◌, ◌==◌, ◌≤◌, zero, suc, true, false, cond, ◌&&◌, List, [], ◌∷◌, ◌++◌, length, length-append, Option, Some, None, refl, sym, ap, ◌∙◌, subst, arith, eqb, inl, inr}
use Rattle.std.specs.Char.{is_whitespace, encode_utf8}
use Rattle.std.specs.List.{list_all}
use Rattle.std.specs.Str.{encode_utf8_all}
use Rattle.std.proofs.lemmas.Bool.{and_parts, both_ways, cases_Bool, cond-false, eqb-true, ne_eqb}
use Rattle.lp_tok.specs.Signs.{line_feed, quote, apostrophe, star, slash, backslash, letter_r, hash}
use Rattle.lp_tok.specs.Scans.{starts_word, continues_word, after_word, from_char, from_unescaped, past, past_any, hashes, after_hashes, past_hashes, RawEnd, end_here, raw_end, after_comment}
use Rattle.lp_tok.specs.declared.tok.ErrorCode.{ErrorCode}
use Rattle.lp_tok.specs.declared.tok.ErrorCode.TheVariants.{UnterminatedStringLiteral, ExpectedStringLiteral, UnterminatedBlockComment}
use Rattle.lp_tok.specs.CodePieces.{Piece, Whole, Fault, kind_of, ended, past_maybe, after_quoted, quoted_piece, raw_string_piece, hashed_piece, raw_piece, slash_piece, code_piece}
use Rattle.lp_tok.specs.Cut.{Splits, splits_none, splits_one}
use Rattle.lp_spelling.specs.Counting.{is_text}
use Rattle.lp_reading_laws.specs.Printing.LineTexts.{is_on_line}

pub on_line_right : (a b : List ℕ) → is_on_line (a ++ b) ≡ true → is_on_line b ≡ true
on_line_right [] b h = h
on_line_right (x ∷ a) b h = on_line_right a b (and_parts (is_text x) (is_on_line (a ++ b)) h).1

-- what follows is no longer
char_le : (c : ℕ) (cs : List ℕ) → length (from_char c cs) ≤ length cs
char_le c [] = omega arith
char_le c (d ∷ cs) =
    let h = char_le c cs in
    elim (eqb d c) as (λ b. length (cond b (d ∷ cs) (from_char c cs)) ≤ suc (length cs)) [ true ↦ omega arith | false ↦ omega (arith, h) ]

word_le : (cs : List ℕ) → length (after_word cs) ≤ length cs
word_le [] = omega arith
word_le (c ∷ cs) =
    let h = word_le cs in
    elim (continues_word c) as (λ b. length (cond b (after_word cs) (c ∷ cs)) ≤ suc (length cs)) [ true ↦ omega (arith, h) | false ↦ omega arith ]

unescaped_le : (q : ℕ) (cs : List ℕ) → length (from_unescaped q cs) ≤ length cs
unescaped_le q [] = omega arith
unescaped_le q (c ∷ []) = elim (eqb c q) as (λ b. length (cond b (c ∷ []) []) ≤ 1) [ true ↦ omega arith | false ↦ omega arith ]
unescaped_le q (c ∷ d ∷ cs) =
    let h = unescaped_le q cs in
    let k = unescaped_le q (d ∷ cs) in
    elim (eqb c q) as (λ b. length (cond b (c ∷ d ∷ cs) (cond (eqb c backslash) (from_unescaped q cs) (from_unescaped q (d ∷ cs)))) ≤ suc (suc (length cs))) [
      | true ↦ omega arith
      | false ↦ elim (eqb c backslash) as (λ b. length (cond b (from_unescaped q cs) (from_unescaped q (d ∷ cs))) ≤ suc (suc (length cs))) [
        | true ↦ omega (arith, h)
        | false ↦ omega (arith, k)
      ]
    ]

any_le : (cs : List ℕ) → length (past_any cs) ≤ length cs
any_le [] = omega arith
any_le (c ∷ cs) = omega arith

maybe_le : (c : ℕ) (cs : List ℕ) → length (past_maybe c cs) ≤ length cs
maybe_le c [] = omega arith
maybe_le c (d ∷ cs) = elim (eqb d c) as (λ b. length (cond b cs (d ∷ cs)) ≤ suc (length cs)) [ true ↦ omega arith | false ↦ omega arith ]

quoted_le : (cs : List ℕ) → length (after_quoted cs) ≤ length cs
quoted_le [] = omega arith
quoted_le (c ∷ cs) =
    let a = any_le cs in
    let b = char_le apostrophe (past_any cs) in
    let d = any_le (from_char apostrophe (past_any cs)) in
    let e = maybe_le apostrophe cs in
    elim (eqb c backslash) as (λ b. length (cond b (past_any (from_char apostrophe (past_any cs))) (past_maybe apostrophe cs)) ≤ suc (length cs)) [ true ↦ omega (arith, a, b, d) | false ↦ omega (arith, e) ]

hashes_le : (cs : List ℕ) → length (after_hashes cs) ≤ length cs
hashes_le [] = omega arith
hashes_le (c ∷ cs) =
    let h = hashes_le cs in
    elim (eqb c hash) as (λ b. length (cond b (after_hashes cs) (c ∷ cs)) ≤ suc (length cs)) [ true ↦ omega (arith, h) | false ↦ omega arith ]

-- what may follow is no longer
abbrev Within : ℕ → Option (List ℕ) → Type 0
Within n o = (after : List ℕ) → o ≡ Some after → length after ≤ n

past_le : (c : ℕ) (cs : List ℕ) → Within (length cs) (past c cs)
past_le c [] after e = absurd cc
past_le c (d ∷ cs) after e =
    (elim (eqb d c) as (λ b. cond b (Some cs) None ≡ Some after → length after ≤ suc (length cs)) [
      | true ↦ λ f. let same : cs ≡ after = cc in omega (arith, ap length same)
      | false ↦ λ f. absurd cc
    ]) e

past_hashes_le : (n : ℕ) (cs : List ℕ) → Within (length cs) (past_hashes n cs)
past_hashes_le zero cs after e = let same : cs ≡ after = cc in omega (arith, ap length same)
past_hashes_le (suc n) [] after e = absurd cc
past_hashes_le (suc n) (c ∷ cs) after e =
    (elim (eqb c hash) as (λ b. cond b (past_hashes n cs) None ≡ Some after → length after ≤ suc (length cs)) [
      | true ↦ λ f. let h = past_hashes_le n cs after f in omega (arith, h)
      | false ↦ λ f. absurd cc
    ]) e

raw_here : (n : ℕ) (c : ℕ) (cs : List ℕ) (e : RawEnd) (o : Option (List ℕ)) → past_hashes n cs ≡ o → (raw_end n cs ≡ Some e → length e.after ≤ length cs) → end_here o (c ∷ cs) (raw_end n cs) ≡ Some e → length e.after ≤ suc (length cs)
raw_here n c cs e None p later f = let k = later f in omega (arith, k)
raw_here n c cs e (Some after) p later f =
    let k = past_hashes_le n cs after p in
    let same : record { from_quote = c ∷ cs; after = after } ≡ e = cc in
    omega (arith, k, ap (λ (x : RawEnd). length x.after) same)

raw_le : (n : ℕ) (cs : List ℕ) (e : RawEnd) → raw_end n cs ≡ Some e → length e.after ≤ length cs
raw_le n [] e h = absurd cc
raw_le n (c ∷ cs) e h =
    (elim (eqb c quote) as (λ b. cond b (end_here (past_hashes n cs) (c ∷ cs) (raw_end n cs)) (raw_end n cs) ≡ Some e → length e.after ≤ suc (length cs)) [
      | true ↦ raw_here n c cs e (past_hashes n cs) refl (raw_le n cs e)
      | false ↦ λ f. let k = raw_le n cs e f in omega (arith, k)
    ]) h

comment_le : (n : ℕ) (cs : List ℕ) → Within (length cs) (after_comment n cs)
comment_le n [] after e = absurd cc
comment_le n (c ∷ []) after e = absurd cc
comment_le n (c ∷ d ∷ cs) after e =
    (elim (eqb c slash && eqb d star) as (λ b. cond b (after_comment (n + 1) cs) (cond (eqb c star && eqb d slash) (cond (n == 0) (Some cs) (after_comment (n - 1) cs)) (after_comment n (d ∷ cs))) ≡ Some after → length after ≤ suc (suc (length cs))) [
      | true ↦ λ f. let k = comment_le (n + 1) cs after f in omega (arith, k)
      | false ↦ elim (eqb c star && eqb d slash) as (λ b. cond b (cond (n == 0) (Some cs) (after_comment (n - 1) cs)) (after_comment n (d ∷ cs)) ≡ Some after → length after ≤ suc (suc (length cs))) [
        | true ↦ elim (n == 0) as (λ b. cond b (Some cs) (after_comment (n - 1) cs) ≡ Some after → length after ≤ suc (suc (length cs))) [
          | true ↦ λ f. let same : cs ≡ after = cc in omega (arith, ap length same)
          | false ↦ λ f. let k = comment_le (n - 1) cs after f in omega (arith, k)
        ]
        | false ↦ λ f. let k = comment_le n (d ∷ cs) after f in omega (arith, k)
      ]
    ]) e

-- what follows a piece is no longer than so many
abbrev Leaves : ℕ → Piece → Type 0
Leaves n p = (k : _) (next : List ℕ) → p ≡ Whole k next → length next ≤ n

whole_le : (n : ℕ) (k : _) (cs : List ℕ) → length cs ≤ n → Leaves n (Whole k cs)
whole_le n k cs h j next e = let same : cs ≡ next = cc in omega (arith, h, ap length same)

ended_le : (n : ℕ) (code : ErrorCode) (start : List ℕ) (o : Option (List ℕ)) → Within n o → Leaves n (ended code start o)
ended_le n code start None h k next e = absurd cc
ended_le n code start (Some after) h k next e = whole_le n (kind_of 97) after (h after refl) k next e

quoted_piece_le : (n : ℕ) (start cs : List ℕ) → length cs ≤ n → Leaves n (quoted_piece start cs)
quoted_piece_le n start [] h k next e = absurd cc
quoted_piece_le n start (c ∷ cs) h k next e = whole_le n (kind_of 97) (c ∷ cs) h k next e

raw_string_le : (n : ℕ) (start : List ℕ) (o : Option RawEnd) → ((r : RawEnd) → o ≡ Some r → length r.after ≤ n) → Leaves n (raw_string_piece start o)
raw_string_le n start None h k next e = absurd cc
raw_string_le n start (Some r) h k next e = whole_le n (kind_of 97) r.after (h r refl) k next e

hashed_le : (start : List ℕ) (n : ℕ) (cs : List ℕ) → Leaves (length cs) (hashed_piece start n cs)
hashed_le start n [] k next e = absurd cc
hashed_le start n (c ∷ cs) k next e =
    (elim (eqb c quote) as (λ b. Leaves (suc (length cs)) (cond b (raw_string_piece start (raw_end (n - 1) cs)) (cond (starts_word c) (Whole (kind_of 97) (after_word cs)) (Fault ExpectedStringLiteral (c ∷ cs))))) [
      | true ↦ raw_string_le (suc (length cs)) start (raw_end (n - 1) cs) (λ r f. let h = raw_le (n - 1) cs r f in omega (arith, h))
      | false ↦ elim (starts_word c) as (λ b. Leaves (suc (length cs)) (cond b (Whole (kind_of 97) (after_word cs)) (Fault ExpectedStringLiteral (c ∷ cs)))) [
        | true ↦ let h = word_le cs in whole_le (suc (length cs)) (kind_of 97) (after_word cs) (omega (arith, h))
        | false ↦ λ j x f. absurd cc
      ]
    ]) k next e

raw_piece_le : (cs : List ℕ) → Leaves (length cs) (raw_piece cs)
raw_piece_le cs k next e =
    (elim (hashes cs == 0) as (λ b. Leaves (length cs) (cond b (Whole (kind_of 97) cs) (hashed_piece cs (hashes cs) (after_hashes cs)))) [
      | true ↦ whole_le (length cs) (kind_of 97) cs (omega arith)
      | false ↦ λ j x f. let h = hashed_le cs (hashes cs) (after_hashes cs) j x f in let g = hashes_le cs in omega (arith, h, g)
    ]) k next e

slash_le : (start cs : List ℕ) → Leaves (length cs) (slash_piece start cs)
slash_le start [] k next e = whole_le 0 (kind_of 97) [] (omega arith) k next e
slash_le start (c ∷ cs) k next e =
    let h = char_le line_feed cs in
    (elim (eqb c slash) as (λ b. Leaves (suc (length cs)) (cond b (Whole (kind_of 97) (from_char line_feed cs)) (cond (eqb c star) (ended UnterminatedBlockComment start (after_comment 0 cs)) (Whole (kind_of 97) (c ∷ cs))))) [
      | true ↦ whole_le (suc (length cs)) (kind_of 97) (from_char line_feed cs) (omega (arith, h))
      | false ↦ elim (eqb c star) as (λ b. Leaves (suc (length cs)) (cond b (ended UnterminatedBlockComment start (after_comment 0 cs)) (Whole (kind_of 97) (c ∷ cs)))) [
        | true ↦ ended_le (suc (length cs)) UnterminatedBlockComment start (after_comment 0 cs) (λ after f. let k = comment_le 0 cs after f in omega (arith, k))
        | false ↦ whole_le (suc (length cs)) (kind_of 97) (c ∷ cs) (omega arith)
      ]
    ]) k next e

string_le : (cs : List ℕ) → Within (length cs) (past quote (from_unescaped quote cs))
string_le cs after e =
    let h = past_le quote (from_unescaped quote cs) after e in
    let k = unescaped_le quote cs in
    omega (arith, h, k)

piece_le : (c : ℕ) (cs : List ℕ) → Leaves (length cs) (code_piece (c ∷ cs))
piece_le c cs k next e =
    (elim (eqb c quote) as (λ b. Leaves (length cs) (cond b (ended UnterminatedStringLiteral (c ∷ cs) (past quote (from_unescaped quote cs)))
    (cond (eqb c apostrophe) (quoted_piece (c ∷ cs) (after_quoted cs)) (cond (eqb c letter_r) (raw_piece cs) (cond (eqb c slash) (slash_piece (c ∷ cs) cs) (Whole (kind_of c) cs)))))) [
      | true ↦ ended_le (length cs) UnterminatedStringLiteral (c ∷ cs) (past quote (from_unescaped quote cs)) (string_le cs)
      | false ↦ elim (eqb c apostrophe) as (λ b. Leaves (length cs) (cond b (quoted_piece (c ∷ cs) (after_quoted cs)) (cond (eqb c letter_r) (raw_piece cs) (cond (eqb c slash) (slash_piece (c ∷ cs) cs) (Whole (kind_of c) cs))))) [
        | true ↦ quoted_piece_le (length cs) (c ∷ cs) (after_quoted cs) (quoted_le cs)
        | false ↦ elim (eqb c letter_r) as (λ b. Leaves (length cs) (cond b (raw_piece cs) (cond (eqb c slash) (slash_piece (c ∷ cs) cs) (Whole (kind_of c) cs)))) [
          | true ↦ raw_piece_le cs
          | false ↦ elim (eqb c slash) as (λ b. Leaves (length cs) (cond b (slash_piece (c ∷ cs) cs) (Whole (kind_of c) cs))) [
            | true ↦ slash_le (c ∷ cs) cs
            | false ↦ whole_le (length cs) (kind_of c) cs (omega arith)
          ]
        ]
      ]
    ]) k next e

splits_le : (cs rest : List ℕ) (ks : List _) → Splits cs ks rest → length rest ≤ length cs
splits_le cs _ _ (splits_none _) = omega arith
splits_le [] rest _ (splits_one _ next _ k ks p s) = absurd cc
splits_le (c ∷ cs) rest _ (splits_one _ next _ k ks p s) =
    let h = piece_le c cs k next p in
    let g = splits_le next rest ks s in
    omega (arith, h, g)

-- pieces of a text up to a place
abbrev pub Reaches : List ℕ → List ℕ → Type 0
Reaches cs rest = (ks : List _) × Splits cs ks rest

-- behind the first piece, where the place lies there
past_piece : (d c : ℕ) (cs next rest xs : List ℕ) (ks : List _) → code_piece (c ∷ cs) ≡ Whole (kind_of d) next → length rest ≤ length cs → xs ≡ c ∷ cs → Splits xs ks rest → Reaches next rest
past_piece d c cs next rest xs _ p le e (splits_none _) = absurd (omega (arith, le, ap length e))
past_piece d c cs next rest xs _ p le e (splits_one _ after _ k ks q s) =
    let same : Whole (kind_of d) next ≡ Whole k after = sym p ∙ sym (ap code_piece e) ∙ q in
    let there : after ≡ next = cc in
    (ks, subst (λ (x : List ℕ). Splits x ks rest) there s)

-- a character that is white space is a piece of its own
space_piece : (c : ℕ) (cs : List ℕ) → is_whitespace c ≡ true → code_piece (c ∷ cs) ≡ Whole (kind_of c) cs
space_piece c cs h =
    let differs : (d : ℕ) → is_whitespace d ≡ false → eqb c d ≡ false = λ d f. ne_eqb c d (λ e. both_ways (is_whitespace d) f (ap is_whitespace (sym e) ∙ h)) in
    cond-false (eqb c quote) _ _ (differs quote refl)
    ∙ cond-false (eqb c apostrophe) _ _ (differs apostrophe refl)
    ∙ cond-false (eqb c letter_r) _ _ (differs letter_r refl)
    ∙ cond-false (eqb c slash) _ _ (differs slash refl)

-- behind white space
pub past_spaces : (ws cs rest : List ℕ) → list_all is_whitespace ws ≡ true → length rest ≤ length cs → Reaches (ws ++ cs) rest → Reaches cs rest
past_spaces [] cs rest h le r = r
past_spaces (c ∷ ws) cs rest h le r =
    let p = and_parts (is_whitespace c) (list_all is_whitespace ws) h in
    let size = length-append ws cs in
    past_spaces ws cs rest p.1 le (past_piece c c (ws ++ cs) (ws ++ cs) rest (c ∷ (ws ++ cs)) r.0 (space_piece c (ws ++ cs) p.0) (omega (arith, le, size)) refl r.1)

-- a comment ends with its line
line_left : (ds cs : List ℕ) → is_on_line (encode_utf8_all ds) ≡ true → from_char line_feed (ds ++ cs) ≡ from_char line_feed cs
unfolding encode_utf8
line_left [] cs h = refl
line_left (d ∷ ds) cs h = elim (cases_Bool (eqb d line_feed)) [
  | inl y ↦ absurd (both_ways (is_on_line (encode_utf8_all (d ∷ ds))) (ap (λ (n : ℕ). is_on_line (encode_utf8_all (n ∷ ds))) (eqb-true d line_feed y)) h)
  | inr n ↦ cond-false (eqb d line_feed) _ _ n ∙ line_left ds cs (on_line_right (encode_utf8 d) (encode_utf8_all ds) h)
]

pub past_comment : (ds cs rest : List ℕ) → is_on_line (encode_utf8_all ds) ≡ true → length rest ≤ length cs → Reaches (slash ∷ slash ∷ (ds ++ line_feed ∷ cs)) rest → Reaches cs rest
past_comment ds cs rest h le r =
    let size = length-append ds (line_feed ∷ cs) in
    let first : Reaches (line_feed ∷ cs) rest
    = past_piece 97 slash (slash ∷ (ds ++ line_feed ∷ cs)) (line_feed ∷ cs) rest (slash ∷ slash ∷ (ds ++ line_feed ∷ cs)) r.0 (ap (Whole (kind_of 97)) (line_left ds (line_feed ∷ cs) h)) (omega (arith, le, size)) refl r.1 in
    past_piece 97 line_feed cs cs rest (line_feed ∷ cs) first.0 refl le refl first.1

-- no place within a comment is reached
pub no_comment_end : (ds cs : List ℕ) (c : ℕ) → is_on_line (encode_utf8_all ds) ≡ true → (c == line_feed) ≡ false → Reaches (slash ∷ slash ∷ (ds ++ c ∷ cs)) (c ∷ cs) → ⊥
no_comment_end ds cs c h n r =
    let size = length-append ds (c ∷ cs) in
    let end : from_char line_feed (ds ++ c ∷ cs) ≡ from_char line_feed cs = line_left ds (c ∷ cs) h ∙ cond-false (eqb c line_feed) _ _ n in
    let next : Reaches (from_char line_feed cs) (c ∷ cs)
    = past_piece 97 slash (slash ∷ (ds ++ c ∷ cs)) (from_char line_feed cs) (c ∷ cs) (slash ∷ slash ∷ (ds ++ c ∷ cs)) r.0 (ap (Whole (kind_of 97)) end) (omega (arith, size)) refl r.1 in
    let le = splits_le (from_char line_feed cs) (c ∷ cs) next.0 next.1 in
    let short = char_le line_feed cs in
    omega (arith, le, short)
