-- A cut that stops within a text stops there too where more stands behind.
use Rattle.std.proofs.Common.{◌≡◌, ℕ, ◌+◌, ◌-◌, ◌==◌, ◌<◌, zero, suc, true, false, cond, ◌&&◌, List, [], ◌∷◌, ◌++◌, length, codes, Option, Some, None, refl, sym, ap, ◌∙◌, subst, arith, eqb, inl, inr, append_assoc}
use Rattle.std.specs.Str.{IsUtf8, chars}
use Rattle.std.proofs.lemmas.Bool.{cases_Bool, cond-true, cond-false, eqb-true}
use Rattle.std.proofs.lemmas.Option.{cond_some}
use Rattle.std.proofs.lemmas.Str.{chars-append, IsUtf8-append, IsUtf8-from_ascii}
use Rattle.lp_tok.specs.Signs.{line_feed, quote, apostrophe, star, slash, hash, backslash, letter_r, semicolon, right_brace}
use Rattle.lp_tok.specs.Scans.{starts_word, continues_word, after_word, from_char, from_unescaped, past, past_any, hashes, after_hashes, past_hashes, RawEnd, end_here, raw_end, after_comment}
use Rattle.lp_tok.specs.declared.tok.ErrorCode.{ErrorCode}
use Rattle.lp_tok.specs.declared.tok.ErrorCode.TheVariants.{UnterminatedStringLiteral, ExpectedStringLiteral, UnterminatedBlockComment}
use Rattle.lp_tok.specs.CodePieces.{Piece, Whole, Fault, kind_of, ended, past_maybe, after_quoted, quoted_piece, raw_string_piece, hashed_piece, raw_piece, slash_piece, code_piece}
use Rattle.lp_tok.specs.Cut.{Splits, splits_none, splits_one, IsEnder, balance, MayEnd, StopsAt}
use Rattle.lp_texts.specs.UserCode.{AnswersUse}
use Rattle.lp_reading_laws.specs.Printing.Laws.{UsesEnd, CodesEnd}
use Rattle.lp_reading_laws.proofs.Printing.Sound.{plain_ascii}

-- what is left of a text that has something left
abbrev Grown : List ℕ → List ℕ → List ℕ → Type 0
Grown m old new = 0 < length old → new ≡ old ++ m

char_grown : (m : List ℕ) (c : ℕ) (cs : List ℕ) → Grown m (from_char c cs) (from_char c (cs ++ m))
char_grown m c [] h = absurd (omega arith)
char_grown m c (d ∷ cs) h =
    (elim (eqb d c) as (λ b. Grown m (cond b (d ∷ cs) (from_char c cs)) (cond b (d ∷ (cs ++ m)) (from_char c (cs ++ m)))) [ true ↦ λ k. refl | false ↦ char_grown m c cs ]) h

word_grown : (m cs : List ℕ) → Grown m (after_word cs) (after_word (cs ++ m))
word_grown m [] h = absurd (omega arith)
word_grown m (c ∷ cs) h =
    (elim (continues_word c) as (λ b. Grown m (cond b (after_word cs) (c ∷ cs)) (cond b (after_word (cs ++ m)) (c ∷ (cs ++ m)))) [ true ↦ word_grown m cs | false ↦ λ k. refl ]) h

quote_here : (q c : ℕ) (m : List ℕ) → eqb c q ≡ true → from_unescaped q (c ∷ m) ≡ c ∷ m
quote_here q c [] h = cond-true (eqb c q) _ _ h
quote_here q c (d ∷ m) h = cond-true (eqb c q) _ _ h

unescaped_grown : (m : List ℕ) (q : ℕ) (cs : List ℕ) → Grown m (from_unescaped q cs) (from_unescaped q (cs ++ m))
unescaped_grown m q [] h = absurd (omega arith)
unescaped_grown m q (c ∷ []) h = elim (cases_Bool (eqb c q)) [
  | inl y ↦ quote_here q c m y ∙ ap (λ x. x ++ m) (sym (quote_here q c [] y))
  | inr n ↦ let none : from_unescaped q (c ∷ []) ≡ [] = cond-false (eqb c q) _ _ n in absurd (omega (arith, ap length none, h))
]
unescaped_grown m q (c ∷ d ∷ cs) h =
    (elim (eqb c q) as (λ b. Grown m (cond b (c ∷ d ∷ cs) (cond (eqb c backslash) (from_unescaped q cs) (from_unescaped q (d ∷ cs))))
    (cond b (c ∷ d ∷ (cs ++ m)) (cond (eqb c backslash) (from_unescaped q (cs ++ m)) (from_unescaped q (d ∷ (cs ++ m)))))) [
      | true ↦ λ k. refl
      | false ↦ elim (eqb c backslash) as (λ b. Grown m (cond b (from_unescaped q cs) (from_unescaped q (d ∷ cs))) (cond b (from_unescaped q (cs ++ m)) (from_unescaped q (d ∷ (cs ++ m))))) [
        | true ↦ unescaped_grown m q cs
        | false ↦ unescaped_grown m q (d ∷ cs)
      ]
    ]) h

any_grown : (m cs : List ℕ) → Grown m (past_any cs) (past_any (cs ++ m))
any_grown m [] h = absurd (omega arith)
any_grown m (c ∷ cs) h = refl

any_some : (cs : List ℕ) → 0 < length (past_any cs) → 0 < length cs
any_some [] h = h
any_some (c ∷ cs) h = omega arith

maybe_grown : (m : List ℕ) (c : ℕ) (cs : List ℕ) → Grown m (past_maybe c cs) (past_maybe c (cs ++ m))
maybe_grown m c [] h = absurd (omega arith)
maybe_grown m c (d ∷ cs) h =
    (elim (eqb d c) as (λ b. Grown m (cond b cs (d ∷ cs)) (cond b (cs ++ m) (d ∷ (cs ++ m)))) [ true ↦ λ k. refl | false ↦ λ k. refl ]) h

escaped_grown : (m cs : List ℕ) → Grown m (past_any (from_char apostrophe (past_any cs))) (past_any (from_char apostrophe (past_any (cs ++ m))))
escaped_grown m [] h = absurd (omega arith)
escaped_grown m (d ∷ cs) h = ap past_any (char_grown m apostrophe cs (any_some (from_char apostrophe cs) h)) ∙ any_grown m (from_char apostrophe cs) h

quoted_grown : (m cs : List ℕ) → Grown m (after_quoted cs) (after_quoted (cs ++ m))
quoted_grown m [] h = absurd (omega arith)
quoted_grown m (c ∷ cs) h =
    (elim (eqb c backslash) as (λ b. Grown m (cond b (past_any (from_char apostrophe (past_any cs))) (past_maybe apostrophe cs)) (cond b (past_any (from_char apostrophe (past_any (cs ++ m)))) (past_maybe apostrophe (cs ++ m)))) [
      | true ↦ escaped_grown m cs
      | false ↦ maybe_grown m apostrophe cs
    ]) h

-- what follows something that is there
abbrev Found : List ℕ → Option (List ℕ) → Option (List ℕ) → Type 0
Found m old new = (after : List ℕ) → old ≡ Some after → new ≡ Some (after ++ m)

past_found : (m : List ℕ) (c : ℕ) (cs : List ℕ) → Found m (past c cs) (past c (cs ++ m))
past_found m c [] after h = absurd cc
past_found m c (d ∷ cs) after h = let q = cond_some (eqb d c) cs after h in cond-true (eqb d c) _ _ q.0 ∙ ap (λ x. Some (x ++ m)) q.1

past_some : (c : ℕ) (cs after : List ℕ) → past c cs ≡ Some after → 0 < length cs
past_some c [] after h = absurd cc
past_some c (d ∷ cs) after h = omega arith

string_found : (m cs : List ℕ) → Found m (past quote (from_unescaped quote cs)) (past quote (from_unescaped quote (cs ++ m)))
string_found m cs after h = ap (past quote) (unescaped_grown m quote cs (past_some quote (from_unescaped quote cs) after h)) ∙ past_found m quote (from_unescaped quote cs) after h

comment_found : (m : List ℕ) (n : ℕ) (cs : List ℕ) → Found m (after_comment n cs) (after_comment n (cs ++ m))
comment_found m n [] after h = absurd cc
comment_found m n (c ∷ []) after h = absurd cc
comment_found m n (c ∷ d ∷ cs) after h =
    (elim ((c == slash) && (d == star)) as (λ b. Found m (cond b (after_comment (n + 1) cs) (cond ((c == star) && (d == slash)) (cond (n == 0) (Some cs) (after_comment (n - 1) cs)) (after_comment n (d ∷ cs))))
    (cond b (after_comment (n + 1) (cs ++ m)) (cond ((c == star) && (d == slash)) (cond (n == 0) (Some (cs ++ m)) (after_comment (n - 1) (cs ++ m))) (after_comment n (d ∷ (cs ++ m)))))) [
      | true ↦ comment_found m (n + 1) cs
      | false ↦ elim ((c == star) && (d == slash)) as (λ b. Found m (cond b (cond (n == 0) (Some cs) (after_comment (n - 1) cs)) (after_comment n (d ∷ cs))) (cond b (cond (n == 0) (Some (cs ++ m)) (after_comment (n - 1) (cs ++ m))) (after_comment n (d ∷ (cs ++ m))))) [
        | true ↦ elim (n == 0) as (λ b. Found m (cond b (Some cs) (after_comment (n - 1) cs)) (cond b (Some (cs ++ m)) (after_comment (n - 1) (cs ++ m)))) [
          | true ↦ λ x e. (let same : cs ≡ x = cc in ap (λ y. Some (y ++ m)) same)
          | false ↦ comment_found m (n - 1) cs
        ]
        | false ↦ comment_found m n (d ∷ cs)
      ]
    ]) after h

-- raw strings
hashes_grown : (m cs : List ℕ) → 0 < length (after_hashes cs) → (hashes (cs ++ m) ≡ hashes cs) × (after_hashes (cs ++ m) ≡ after_hashes cs ++ m)
hashes_grown m [] h = absurd (omega arith)
hashes_grown m (c ∷ cs) h =
    (elim (eqb c hash) as (λ b. 0 < length (cond b (after_hashes cs) (c ∷ cs)) →
    (cond b (hashes (cs ++ m) + 1) 0 ≡ cond b (hashes cs + 1) 0) × (cond b (after_hashes (cs ++ m)) (c ∷ (cs ++ m)) ≡ cond b (after_hashes cs) (c ∷ cs) ++ m)) [
      | true ↦ λ k. (let r = hashes_grown m cs k in (ap (λ n. n + 1) r.0, r.1))
      | false ↦ λ k. (refl, refl)
    ]) h

hashes_found : (m : List ℕ) (n : ℕ) (cs : List ℕ) → Found m (past_hashes n cs) (past_hashes n (cs ++ m))
hashes_found m zero cs after h = let same : cs ≡ after = cc in ap (λ x. Some (x ++ m)) same
hashes_found m (suc n) [] after h = absurd cc
hashes_found m (suc n) (c ∷ cs) after h =
    (elim (eqb c hash) as (λ b. Found m (cond b (past_hashes n cs) None) (cond b (past_hashes n (cs ++ m)) None)) [ true ↦ hashes_found m n cs | false ↦ λ x e. absurd cc ]) after h

-- where a raw string ends further on, the hashes in front end before the text does
hashes_none : (m : List ℕ) (n k : ℕ) (cs : List ℕ) (e : RawEnd) → past_hashes n cs ≡ None → raw_end k cs ≡ Some e → past_hashes n (cs ++ m) ≡ None
hashes_none m zero k cs e h r = absurd cc
hashes_none m (suc n) k [] e h r = absurd cc
hashes_none m (suc n) k (c ∷ cs) e h r = elim (cases_Bool (eqb c hash)) [
  | inl y ↦
      let apart : eqb c quote ≡ false = ap (λ x. eqb x quote) (eqb-true c hash y) in
      let inner : past_hashes n cs ≡ None = sym (cond-true (eqb c hash) (past_hashes n cs) None y) ∙ h in
      let later : raw_end k cs ≡ Some e = sym (cond-false (eqb c quote) (end_here (past_hashes k cs) (c ∷ cs) (raw_end k cs)) (raw_end k cs) apart) ∙ r in
      cond-true (eqb c hash) _ _ y ∙ hashes_none m n k cs e inner later
  | inr z ↦ cond-false (eqb c hash) _ _ z
]

abbrev grown_end : List ℕ → RawEnd → RawEnd
grown_end m e = record { from_quote = e.from_quote ++ m; after = e.after ++ m }

abbrev Ended : List ℕ → Option RawEnd → Option RawEnd → Type 0
Ended m old new = (e : RawEnd) → old ≡ Some e → new ≡ Some (grown_end m e)

here_ended : (m : List ℕ) (n : ℕ) (c : ℕ) (cs : List ℕ) (o o' : Option (List ℕ)) → past_hashes n cs ≡ o → past_hashes n (cs ++ m) ≡ o' → Ended m (raw_end n cs) (raw_end n (cs ++ m)) →
    Ended m (end_here o (c ∷ cs) (raw_end n cs)) (end_here o' (c ∷ (cs ++ m)) (raw_end n (cs ++ m)))
here_ended m n c cs None o' a b f e h =
    let none : None ≡ o' = sym (hashes_none m n n cs e a h) ∙ b in
    ap (λ x. end_here x (c ∷ (cs ++ m)) (raw_end n (cs ++ m))) (sym none) ∙ f e h
here_ended m n c cs (Some after) o' a b f e h =
    let found : Some (after ++ m) ≡ o' = sym (hashes_found m n cs after a) ∙ b in
    let same : record { from_quote = c ∷ cs; after = after } ≡ e = cc in
    ap (λ x. end_here x (c ∷ (cs ++ m)) (raw_end n (cs ++ m))) (sym found) ∙ ap (λ x. Some (grown_end m x)) same

raw_ended : (m : List ℕ) (n : ℕ) (cs : List ℕ) → Ended m (raw_end n cs) (raw_end n (cs ++ m))
raw_ended m n [] e h = absurd cc
raw_ended m n (c ∷ cs) e h =
    (elim (eqb c quote) as (λ b. Ended m (cond b (end_here (past_hashes n cs) (c ∷ cs) (raw_end n cs)) (raw_end n cs)) (cond b (end_here (past_hashes n (cs ++ m)) (c ∷ (cs ++ m)) (raw_end n (cs ++ m))) (raw_end n (cs ++ m)))) [
      | true ↦ here_ended m n c cs (past_hashes n cs) (past_hashes n (cs ++ m)) refl refl (raw_ended m n cs)
      | false ↦ raw_ended m n cs
    ]) e h

-- a piece with something behind it; `kind_of 97` is the kind of a piece that counts no bracket
abbrev More : List ℕ → Piece → Piece → Type 0
More m old new = (k : _) (next : List ℕ) → old ≡ Whole k next → 0 < length next → new ≡ Whole k (next ++ m)

whole_more : (m : List ℕ) (k : _) (old new : List ℕ) → Grown m old new → More m (Whole k old) (Whole k new)
whole_more m k old new g j next h some =
    let same : old ≡ next = cc in
    let kind : k ≡ j = cc in
    ap (Whole k) (g (subst (λ x. 0 < length x) (sym same) some)) ∙ ap (λ x. Whole k (x ++ m)) same ∙ ap (λ x. Whole x (next ++ m)) kind

ended_more : (m : List ℕ) (code : ErrorCode) (start start' : List ℕ) (o o' : Option (List ℕ)) → Found m o o' → More m (ended code start o) (ended code start' o')
ended_more m code start start' None o' f k next h some = absurd cc
ended_more m code start start' (Some after) o' f k next h some =
    ap (ended code start') (f after refl) ∙ whole_more m (kind_of 97) after (after ++ m) (λ g. refl) k next h some

quoted_more : (m start start' cs cs' : List ℕ) → Grown m cs cs' → More m (quoted_piece start cs) (quoted_piece start' cs')
quoted_more m start start' [] cs' g k next h some = absurd cc
quoted_more m start start' (c ∷ cs) cs' g k next h some =
    ap (quoted_piece start') (g (omega arith)) ∙ whole_more m (kind_of 97) (c ∷ cs) (c ∷ (cs ++ m)) (λ j. refl) k next h some

raw_more : (m start start' : List ℕ) (o o' : Option RawEnd) → Ended m o o' → More m (raw_string_piece start o) (raw_string_piece start' o')
raw_more m start start' None o' f k next h some = absurd cc
raw_more m start start' (Some e) o' f k next h some =
    ap (raw_string_piece start') (f e refl) ∙ whole_more m (kind_of 97) e.after (e.after ++ m) (λ g. refl) k next h some

hashed_more : (m start start' : List ℕ) (n : ℕ) (cs : List ℕ) → More m (hashed_piece start n cs) (hashed_piece start' n (cs ++ m))
hashed_more m start start' n [] k next h some = absurd cc
hashed_more m start start' n (c ∷ cs) k next h some =
    (elim (eqb c quote) as (λ b. More m (cond b (raw_string_piece start (raw_end (n - 1) cs)) (cond (starts_word c) (Whole (kind_of 97) (after_word cs)) (Fault ExpectedStringLiteral (c ∷ cs))))
    (cond b (raw_string_piece start' (raw_end (n - 1) (cs ++ m))) (cond (starts_word c) (Whole (kind_of 97) (after_word (cs ++ m))) (Fault ExpectedStringLiteral (c ∷ (cs ++ m)))))) [
      | true ↦ raw_more m start start' (raw_end (n - 1) cs) (raw_end (n - 1) (cs ++ m)) (raw_ended m (n - 1) cs)
      | false ↦ elim (starts_word c) as (λ b. More m (cond b (Whole (kind_of 97) (after_word cs)) (Fault ExpectedStringLiteral (c ∷ cs))) (cond b (Whole (kind_of 97) (after_word (cs ++ m))) (Fault ExpectedStringLiteral (c ∷ (cs ++ m))))) [
        | true ↦ whole_more m (kind_of 97) (after_word cs) (after_word (cs ++ m)) (word_grown m cs)
        | false ↦ λ j x e g. absurd cc
      ]
    ]) k next h some

-- without a hash in front, and with some
no_hashes : (m cs : List ℕ) → 0 < length cs → (hashes cs == 0) ≡ true → hashes (cs ++ m) ≡ hashes cs
no_hashes m [] some h = absurd (omega arith)
no_hashes m (c ∷ cs) some h = elim (cases_Bool (eqb c hash)) [
  | inl y ↦ let more : hashes (c ∷ cs) ≡ hashes cs + 1 = cond-true (eqb c hash) _ _ y in absurd (omega (arith, more, eqb-true (hashes (c ∷ cs)) 0 h))
  | inr n ↦ cond-false (eqb c hash) _ _ n ∙ sym (cond-false (eqb c hash) (hashes cs + 1) 0 n)
]

hashed_some : (start : List ℕ) (n : ℕ) (cs : List ℕ) (k : _) (next : List ℕ) → hashed_piece start n cs ≡ Whole k next → 0 < length cs
hashed_some start n [] k next h = absurd cc
hashed_some start n (c ∷ cs) k next h = omega arith

raw_piece_more : (m cs : List ℕ) → More m (raw_piece cs) (raw_piece (cs ++ m))
raw_piece_more m cs k next h some = elim (cases_Bool (hashes cs == 0)) [
  | inl y ↦
      let old : raw_piece cs ≡ Whole (kind_of 97) cs = cond-true (hashes cs == 0) _ _ y in
      let whole : Whole (kind_of 97) cs ≡ Whole k next = sym old ∙ h in
      let same : cs ≡ next = cc in
      let none = no_hashes m cs (subst (λ x. 0 < length x) (sym same) some) y in
      let new : raw_piece (cs ++ m) ≡ Whole (kind_of 97) (cs ++ m) = cond-true (hashes (cs ++ m) == 0) _ _ (ap (λ n. n == 0) none ∙ y) in
      new ∙ whole_more m (kind_of 97) cs (cs ++ m) (λ g. refl) k next whole some
  | inr n ↦
      let old : raw_piece cs ≡ hashed_piece cs (hashes cs) (after_hashes cs) = cond-false (hashes cs == 0) _ _ n in
      let whole : hashed_piece cs (hashes cs) (after_hashes cs) ≡ Whole k next = sym old ∙ h in
      let grown = hashes_grown m cs (hashed_some cs (hashes cs) (after_hashes cs) k next whole) in
      let new : raw_piece (cs ++ m) ≡ hashed_piece (cs ++ m) (hashes (cs ++ m)) (after_hashes (cs ++ m)) = cond-false (hashes (cs ++ m) == 0) _ _ (ap (λ n. n == 0) grown.0 ∙ n) in
      new ∙ ap (λ n. hashed_piece (cs ++ m) n (after_hashes (cs ++ m))) grown.0 ∙ ap (hashed_piece (cs ++ m) (hashes cs)) grown.1
      ∙ hashed_more m cs (cs ++ m) (hashes cs) (after_hashes cs) k next whole some
]

slash_more : (m start start' cs : List ℕ) → More m (slash_piece start cs) (slash_piece start' (cs ++ m))
slash_more m start start' [] k next h some = let same : [] ≡ next = cc in absurd (omega (arith, ap length same, some))
slash_more m start start' (c ∷ cs) k next h some =
    (elim (eqb c slash) as (λ b. More m (cond b (Whole (kind_of 97) (from_char line_feed cs)) (cond (eqb c star) (ended UnterminatedBlockComment start (after_comment 0 cs)) (Whole (kind_of 97) (c ∷ cs))))
    (cond b (Whole (kind_of 97) (from_char line_feed (cs ++ m))) (cond (eqb c star) (ended UnterminatedBlockComment start' (after_comment 0 (cs ++ m))) (Whole (kind_of 97) (c ∷ (cs ++ m)))))) [
      | true ↦ whole_more m (kind_of 97) (from_char line_feed cs) (from_char line_feed (cs ++ m)) (char_grown m line_feed cs)
      | false ↦ elim (eqb c star) as (λ b. More m (cond b (ended UnterminatedBlockComment start (after_comment 0 cs)) (Whole (kind_of 97) (c ∷ cs))) (cond b (ended UnterminatedBlockComment start' (after_comment 0 (cs ++ m))) (Whole (kind_of 97) (c ∷ (cs ++ m))))) [
        | true ↦ ended_more m UnterminatedBlockComment start start' (after_comment 0 cs) (after_comment 0 (cs ++ m)) (comment_found m 0 cs)
        | false ↦ whole_more m (kind_of 97) (c ∷ cs) (c ∷ (cs ++ m)) (λ g. refl)
      ]
    ]) k next h some

piece_more : (m cs : List ℕ) → More m (code_piece cs) (code_piece (cs ++ m))
piece_more m [] k next h some = absurd cc
piece_more m (c ∷ cs) k next h some =
    (elim (eqb c quote) as (λ b. More m (cond b (ended UnterminatedStringLiteral (c ∷ cs) (past quote (from_unescaped quote cs)))
    (cond (eqb c apostrophe) (quoted_piece (c ∷ cs) (after_quoted cs)) (cond (eqb c letter_r) (raw_piece cs) (cond (eqb c slash) (slash_piece (c ∷ cs) cs) (Whole (kind_of c) cs)))))
    (cond b (ended UnterminatedStringLiteral (c ∷ (cs ++ m)) (past quote (from_unescaped quote (cs ++ m))))
    (cond (eqb c apostrophe) (quoted_piece (c ∷ (cs ++ m)) (after_quoted (cs ++ m))) (cond (eqb c letter_r) (raw_piece (cs ++ m)) (cond (eqb c slash) (slash_piece (c ∷ (cs ++ m)) (cs ++ m)) (Whole (kind_of c) (cs ++ m))))))) [
      | true ↦ ended_more m UnterminatedStringLiteral (c ∷ cs) (c ∷ (cs ++ m)) (past quote (from_unescaped quote cs)) (past quote (from_unescaped quote (cs ++ m))) (string_found m cs)
      | false ↦ elim (eqb c apostrophe) as (λ b. More m (cond b (quoted_piece (c ∷ cs) (after_quoted cs)) (cond (eqb c letter_r) (raw_piece cs) (cond (eqb c slash) (slash_piece (c ∷ cs) cs) (Whole (kind_of c) cs))))
          (cond b (quoted_piece (c ∷ (cs ++ m)) (after_quoted (cs ++ m))) (cond (eqb c letter_r) (raw_piece (cs ++ m)) (cond (eqb c slash) (slash_piece (c ∷ (cs ++ m)) (cs ++ m)) (Whole (kind_of c) (cs ++ m)))))) [
            | true ↦ quoted_more m (c ∷ cs) (c ∷ (cs ++ m)) (after_quoted cs) (after_quoted (cs ++ m)) (quoted_grown m cs)
            | false ↦ elim (eqb c letter_r) as (λ b. More m (cond b (raw_piece cs) (cond (eqb c slash) (slash_piece (c ∷ cs) cs) (Whole (kind_of c) cs))) (cond b (raw_piece (cs ++ m)) (cond (eqb c slash) (slash_piece (c ∷ (cs ++ m)) (cs ++ m)) (Whole (kind_of c) (cs ++ m))))) [
              | true ↦ raw_piece_more m cs
              | false ↦ elim (eqb c slash) as (λ b. More m (cond b (slash_piece (c ∷ cs) cs) (Whole (kind_of c) cs)) (cond b (slash_piece (c ∷ (cs ++ m)) (cs ++ m)) (Whole (kind_of c) (cs ++ m)))) [
                | true ↦ slash_more m (c ∷ cs) (c ∷ (cs ++ m)) cs
                | false ↦ whole_more m (kind_of c) cs (cs ++ m) (λ g. refl)
              ]
            ]
          ]
    ]) k next h some

-- pieces up to a place that is not the end
splits_some : (cs rest : List ℕ) (ks : List _) → Splits cs ks rest → 0 < length rest → 0 < length cs
splits_some cs rest _ (splits_none _) some = some
splits_some [] rest _ (splits_one _ next _ k ks p s) some = absurd cc
splits_some (c ∷ cs) rest _ (splits_one _ next _ k ks p s) some = omega arith

splits_grown : (m cs rest : List ℕ) (ks : List _) → Splits cs ks rest → 0 < length rest → Splits (cs ++ m) ks (rest ++ m)
splits_grown m _ _ _ (splits_none cs) some = splits_none (cs ++ m)
splits_grown m cs rest _ (splits_one _ next _ k ks p s) some =
    splits_one (cs ++ m) (next ++ m) (rest ++ m) k ks (piece_more m cs k next p (splits_some next rest ks s some)) (splits_grown m next rest ks s some)

stops_grown : (m cs rest : List ℕ) → StopsAt cs rest → 0 < length rest → MayEnd (rest ++ m) → StopsAt (cs ++ m) (rest ++ m)
stops_grown m cs rest s some e =
    (s.0, record { splits = splits_grown m cs rest s.0 s.1.splits some; goes_on = s.1.goes_on }, s.2, e)

-- a character in front that counts no bracket
front_goes : (ks before after : List _) (k : _) → ((x y : List _) (z : _) → ks ≡ x ++ z ∷ y → IsEnder z → 0 < balance x) → kind_of 97 ∷ ks ≡ before ++ k ∷ after → IsEnder k → 0 < balance before
front_goes ks [] after k goes e d = let first : k ≡ kind_of 97 = cc in absurd (subst IsEnder first d)
front_goes ks (x ∷ before) after k goes e d =
    let first : kind_of 97 ≡ x = cc in
    let others : ks ≡ before ++ k ∷ after = cc in
    subst (λ y. 0 < balance (y ∷ before)) first (goes before after k others d)

pub stops_front : (c : ℕ) (cs rest : List ℕ) → code_piece (c ∷ cs) ≡ Whole (kind_of 97) cs → StopsAt cs rest → StopsAt (c ∷ cs) rest
stops_front c cs rest p s = (
  kind_of 97 ∷ s.0,
  record { splits = splits_one (c ∷ cs) cs rest (kind_of 97) s.0 p s.1.splits; goes_on = λ before after k e d. front_goes s.0 before after k s.1.goes_on e d },
  s.2,
  s.3,
)

stops_super : (cs rest : List ℕ) → StopsAt cs rest → StopsAt (codes "super::" ++ cs) rest
stops_super cs rest s =
    stops_front 115 (codes "uper::" ++ cs) rest refl (stops_front 117 (codes "per::" ++ cs) rest refl (stops_front 112 (codes "er::" ++ cs) rest refl (stops_front 101 (codes "r::" ++ cs) rest refl
    (stops_front 114 (codes "::" ++ cs) rest refl (stops_front 58 (codes ":" ++ cs) rest refl (stops_front 58 cs rest refl s))))))

super_utf8 : IsUtf8 (codes "super::")
super_utf8 = IsUtf8-from_ascii (codes "super::") (plain_ascii (codes "super::") refl)

-- the texts that the check lets pass
uses_stop : (text rest : List ℕ) → IsUtf8 text → AnswersUse text None → StopsAt (chars (text ++ (codes ";" ++ 10 ∷ rest))) (chars (codes ";" ++ 10 ∷ rest))
unfolding chars
uses_stop text rest u h =
    let behind : List ℕ = chars (10 ∷ rest) in
    let whole : chars (text ++ (codes ";" ++ 10 ∷ rest)) ≡ (chars text ++ semicolon ∷ []) ++ behind = chars-append text (codes ";" ++ 10 ∷ rest) u ∙ sym (append_assoc (chars text) (semicolon ∷ []) behind) in
    subst (λ x. StopsAt x (chars (codes ";" ++ 10 ∷ rest))) (sym whole)
    (stops_grown behind (chars text ++ semicolon ∷ []) (semicolon ∷ []) h (omega arith) (inl (kind_of semicolon, behind, refl, tt)))

super_stop : (text rest : List ℕ) → IsUtf8 text → AnswersUse text None → StopsAt (chars ((codes "super::" ++ text) ++ (codes ";" ++ 10 ∷ rest))) (chars (codes ";" ++ 10 ∷ rest))
unfolding chars
super_stop text rest u h =
    let behind : List ℕ = codes ";" ++ 10 ∷ rest in
    let whole : chars ((codes "super::" ++ text) ++ behind) ≡ codes "super::" ++ chars (text ++ behind) = ap chars (append_assoc (codes "super::") text behind) ∙ chars-append (codes "super::") (text ++ behind) super_utf8 in
    subst (λ x. StopsAt x (chars behind)) (sym whole) (stops_super (chars (text ++ behind)) (chars behind) (uses_stop text rest u h))

pub uses_end : UsesEnd
uses_end text u h = (
  record { utf8 = u; stops = λ rest. uses_stop text rest u h },
  record { utf8 = IsUtf8-append (codes "super::") text super_utf8 u; stops = λ rest. super_stop text rest u h },
)

pub codes_end : CodesEnd
unfolding chars
codes_end text u h rest =
    let behind : List ℕ = chars (10 ∷ rest) in
    let bytes : (text ++ 10 ∷ []) ++ (125 ∷ 10 ∷ rest) ≡ text ++ (10 ∷ 125 ∷ 10 ∷ rest) = append_assoc text (10 ∷ []) (125 ∷ 10 ∷ rest) in
    let whole : chars ((text ++ 10 ∷ []) ++ (125 ∷ 10 ∷ rest)) ≡ (chars text ++ line_feed ∷ right_brace ∷ []) ++ behind =
    ap chars bytes ∙ chars-append text (10 ∷ 125 ∷ 10 ∷ rest) u ∙ sym (append_assoc (chars text) (line_feed ∷ right_brace ∷ []) behind) in
    subst (λ x. StopsAt x (chars (125 ∷ 10 ∷ rest))) (sym whole)
    (stops_grown behind (chars text ++ line_feed ∷ right_brace ∷ []) (right_brace ∷ []) h (omega arith) (inl (kind_of right_brace, behind, refl, tt)))
