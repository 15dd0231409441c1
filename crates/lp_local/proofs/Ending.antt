-- A piece of user code that runs up to the end of a text ends there, or behind a fitting end, where a line feed follows.
use Rattle.std.proofs.Common.{◌≡◌, ℕ, ◌-◌, ◌<◌, ◌==◌, false, List, [], ◌∷◌, ◌++◌, length, Option, Some, None, replicate, refl, sym, ap, ◌∙◌, subst, arith, inl, inr, ◌⊎◌, append_assoc, append-nil, length-append}
use Rattle.std.specs.Str.{IsAscii}
use Rattle.std.proofs.lemmas.Bool.{cases_Bool, cond-true, cond-false, eqb-true}
use Rattle.std.proofs.lemmas.Str.Ascii.{IsAscii-cons}
use Rattle.lp_tok.specs.declared.tok.ErrorCode.{ErrorCode}
use Rattle.lp_tok.specs.declared.tok.ErrorCode.TheVariants.{UnterminatedStringLiteral, ExpectedStringLiteral, UnterminatedBlockComment}
use Rattle.lp_tok.specs.Signs.{line_feed, quote, apostrophe, letter_r, star, slash, hash}
use Rattle.lp_tok.specs.Scans.{starts_word, after_word, from_char, hashes, after_hashes, RawEnd, raw_end, after_comment}
use Rattle.lp_tok.specs.CodePieces.{Piece, Whole, Fault, kind_of, ended, after_quoted, quoted_piece, raw_string_piece, hashed_piece, raw_piece, slash_piece, code_piece}
use Rattle.lp_local.specs.Beginning.{BeginsAs}
use Rattle.lp_local.proofs.Scanning.{Finds, string_end, string_finds, comment_finds, PassesHashes, hashes_pass, FindsRaw, raw_finds}
use Rattle.lp_local.proofs.Piecing.{Told, piece_told, string_first, quoted_first, raw_first, slash_first, single_first}
use Rattle.lp_local.proofs.Mending.{Mends, same_ascii, string_mends, comment_mends, raw_mends, char_fed, word_fed, hashes_fed, Feeds, quoted_fed}

-- what is put behind a text so that the piece in front, that has no end in it, ends in front of a line feed
pub record Closes (piece : List ℕ → Piece) (cs : List ℕ) : Type 0 where
  pub end : List ℕ
  pub ascii : IsAscii end
  pub again : (y : List ℕ) → piece (cs ++ (end ++ 10 ∷ y)) ≡ Whole (kind_of 97) (10 ∷ y)

-- `r#` that begins neither a raw string nor a word
abbrev IsWrong : ErrorCode → List ℕ → Type 0
IsWrong code place = (code ≡ ExpectedStringLiteral) × (c : ℕ) × (m : List ℕ) × (place ≡ c ∷ m)

ended_closes : (code other : ErrorCode) (start : List ℕ → List ℕ) (scan : List ℕ → Option (List ℕ)) (cs place : List ℕ) (o : Option (List ℕ)) →
    (scan cs ≡ None → Mends scan cs) → scan cs ≡ o → ended code (start cs) o ≡ Fault other place → Closes (λ r. ended code (start r) (scan r)) cs
ended_closes code other start scan cs place None f e h =
    let m : Mends scan cs = f e in
    record { end = m.end; ascii = m.ascii; again = λ y. ap (ended code (start (cs ++ (m.end ++ 10 ∷ y)))) (m.again (10 ∷ y)) }
ended_closes code other start scan cs place (Some after) f e h = absurd cc

quoted_at : (code : ErrorCode) (start : List ℕ → List ℕ) (cs place r : List ℕ) → after_quoted cs ≡ r → quoted_piece (start cs) r ≡ Fault code place → Closes (λ x. quoted_piece (start x) (after_quoted x)) cs
quoted_at code start cs place [] e h =
    let f : Feeds after_quoted cs = quoted_fed cs e in
    record { end = f.end; ascii = f.ascii; again = λ y. ap (quoted_piece (start (cs ++ (f.end ++ 10 ∷ y)))) (f.again y) }
quoted_at code start cs place (a ∷ x) e h = absurd cc

-- a raw string
raw_open : (code : ErrorCode) (start place : List ℕ) (n : ℕ) (m : List ℕ) (o : Option RawEnd) → raw_end n m ≡ o → raw_string_piece start o ≡ Fault code place → raw_end n m ≡ None
raw_open code start place n m None e h = e
raw_open code start place n m (Some x) e h = absurd cc

raw_ascii : (n : ℕ) → IsAscii (quote ∷ replicate n hash)
raw_ascii n = IsAscii-cons quote (replicate n hash) (omega arith) (same_ascii n hash (omega arith))

raw_closes : (start : List ℕ) (n : ℕ) (m y : List ℕ) → raw_end (n - 1) m ≡ None → hashed_piece start n (quote ∷ (m ++ quote ∷ (replicate (n - 1) hash ++ 10 ∷ y))) ≡ Whole (kind_of 97) (10 ∷ y)
raw_closes start n m y none = let a = raw_mends (n - 1) m (10 ∷ y) none in ap (raw_string_piece start) a.1

some_hashes : (start : List ℕ) (n : ℕ) (r : List ℕ) → (n == 0) ≡ false → hashes start ≡ n → after_hashes start ≡ r → raw_piece start ≡ hashed_piece start n r
some_hashes start n r some e f = cond-false (hashes start == 0) _ _ (ap (λ x. x == 0) e ∙ some) ∙ ap (λ x. hashed_piece start x (after_hashes start)) e ∙ ap (hashed_piece start n) f

hashed_at : (code : ErrorCode) (cs place r : List ℕ) → (hashes cs == 0) ≡ false → after_hashes cs ≡ r → hashed_piece cs (hashes cs) r ≡ Fault code place → IsWrong code place ⊎ Closes raw_piece cs
hashed_at code cs place [] n e h =
    let k : ℕ = hashes cs - 1 in
    inr (record {
      end = quote ∷ quote ∷ replicate k hash;
      ascii = IsAscii-cons quote (quote ∷ replicate k hash) (omega arith) (raw_ascii k);
      again = λ y.
          let behind : List ℕ = quote ∷ (replicate k hash ++ 10 ∷ y) in
          let r = hashes_fed cs behind e in
          let start : List ℕ = cs ++ quote ∷ behind in
          some_hashes start (hashes cs) (quote ∷ behind) n r.0 r.1 ∙ raw_closes start (hashes cs) [] y refl;
    })
hashed_at code cs place (c ∷ m) n e h = elim (cases_Bool (c == quote)) [
  | inl q ↦
      let k : ℕ = hashes cs - 1 in
      let step : hashed_piece cs (hashes cs) (c ∷ m) ≡ raw_string_piece cs (raw_end k m) = cond-true (c == quote) _ _ q in
      let none : raw_end k m ≡ None = raw_open code cs place k m (raw_end k m) refl (sym step ∙ h) in
      let p : PassesHashes cs = hashes_pass cs in
      inr (record {
        end = quote ∷ replicate k hash;
        ascii = raw_ascii k;
        again = λ y.
            let behind : List ℕ = m ++ quote ∷ (replicate k hash ++ 10 ∷ y) in
            let r = p.again (c ∷ behind) (subst (λ (t : List ℕ). BeginsAs t (c ∷ behind)) (sym e) refl) in
            let start : List ℕ = p.front ++ c ∷ behind in
            let whole : cs ++ quote ∷ (replicate k hash ++ 10 ∷ y) ≡ start
            = ap (λ (t : List ℕ). t ++ quote ∷ (replicate k hash ++ 10 ∷ y)) (p.whole ∙ ap (λ (t : List ℕ). p.front ++ t) e) ∙ append_assoc p.front (c ∷ m) (quote ∷ (replicate k hash ++ 10 ∷ y)) in
            let is : c ≡ quote = eqb-true c quote q in
            ap raw_piece whole ∙ some_hashes start (hashes cs) (c ∷ behind) n r.0 r.1 ∙ ap (λ x. hashed_piece start (hashes cs) (x ∷ behind)) is ∙ raw_closes start (hashes cs) m y none;
      })
  | inr q ↦ elim (cases_Bool (starts_word c)) [
    | inl w ↦
        let step : hashed_piece cs (hashes cs) (c ∷ m) ≡ Whole (kind_of 97) (after_word m) = cond-false (c == quote) _ _ q ∙ cond-true (starts_word c) _ _ w in
        let never : Whole (kind_of 97) (after_word m) ≡ Fault code place = sym step ∙ h in
        absurd cc
    | inr w ↦
        let step : hashed_piece cs (hashes cs) (c ∷ m) ≡ Fault ExpectedStringLiteral (c ∷ m) = cond-false (c == quote) _ _ q ∙ cond-false (starts_word c) _ _ w in
        let found : Fault ExpectedStringLiteral (c ∷ m) ≡ Fault code place = sym step ∙ h in
        let same : code ≡ ExpectedStringLiteral = cc in
        let there : place ≡ c ∷ m = cc in
        inl (same, c, m, there)
  ]
]

raw_closed : (code : ErrorCode) (cs place : List ℕ) → raw_piece cs ≡ Fault code place → IsWrong code place ⊎ Closes raw_piece cs
raw_closed code cs place h = elim (cases_Bool (hashes cs == 0)) [
  | inl z ↦
      let step : raw_piece cs ≡ Whole (kind_of 97) cs = cond-true (hashes cs == 0) _ _ z in
      let never : Whole (kind_of 97) cs ≡ Fault code place = sym step ∙ h in
      absurd cc
  | inr n ↦
      let step : raw_piece cs ≡ hashed_piece cs (hashes cs) (after_hashes cs) = cond-false (hashes cs == 0) _ _ n in
      hashed_at code cs place (after_hashes cs) n refl (sym step ∙ h)
]

-- a comment
slash_closed : (code : ErrorCode) (start : List ℕ → List ℕ) (cs place : List ℕ) → slash_piece (start cs) cs ≡ Fault code place → Closes (λ r. slash_piece (start r) r) cs
slash_closed code start [] place h = absurd cc
slash_closed code start (d ∷ m) place h = elim (cases_Bool (d == slash)) [
  | inl s ↦
      let step : slash_piece (start (d ∷ m)) (d ∷ m) ≡ Whole (kind_of 97) (from_char line_feed m) = cond-true (d == slash) _ _ s in
      let never : Whole (kind_of 97) (from_char line_feed m) ≡ Fault code place = sym step ∙ h in
      absurd cc
  | inr s ↦ elim (cases_Bool (d == star)) [
    | inl t ↦
        let step : slash_piece (start (d ∷ m)) (d ∷ m) ≡ ended UnterminatedBlockComment (start (d ∷ m)) (after_comment 0 m) = cond-false (d == slash) _ _ s ∙ cond-true (d == star) _ _ t in
        let p : Closes (λ r. ended UnterminatedBlockComment (start (d ∷ r)) (after_comment 0 r)) m
        = ended_closes UnterminatedBlockComment code (λ r. start (d ∷ r)) (after_comment 0) m place (after_comment 0 m) (comment_mends 0 m) refl (sym step ∙ h) in
        record { end = p.end; ascii = p.ascii; again = λ y. cond-false (d == slash) _ _ s ∙ cond-true (d == star) _ _ t ∙ p.again y }
    | inr t ↦
        let step : slash_piece (start (d ∷ m)) (d ∷ m) ≡ Whole (kind_of 97) (d ∷ m) = cond-false (d == slash) _ _ s ∙ cond-false (d == star) _ _ t in
        let never : Whole (kind_of 97) (d ∷ m) ≡ Fault code place = sym step ∙ h in
        absurd cc
  ]
]

-- a character in front
closes_first : (c : ℕ) (piece : List ℕ → Piece) (cs : List ℕ) → ((r : List ℕ) → code_piece (c ∷ r) ≡ piece r) → Closes piece cs → Closes code_piece (c ∷ cs)
closes_first c piece cs f p = record { end = p.end; ascii = p.ascii; again = λ y. f (cs ++ (p.end ++ 10 ∷ y)) ∙ p.again y }

either_first : (c : ℕ) (piece : List ℕ → Piece) (code : ErrorCode) (cs place : List ℕ) → ((r : List ℕ) → code_piece (c ∷ r) ≡ piece r) → IsWrong code place ⊎ Closes piece cs → IsWrong code place ⊎ Closes code_piece (c ∷ cs)
either_first c piece code cs place f (inl w) = inl w
either_first c piece code cs place f (inr p) = inr (closes_first c piece cs f p)

-- a piece with no end ends behind a fitting end; but where `r#` begins neither a raw string nor a word
pub fault_closes : (code : ErrorCode) (cs place : List ℕ) → code_piece cs ≡ Fault code place → ((code ≡ ExpectedStringLiteral) × (c : ℕ) × (m : List ℕ) × (place ≡ c ∷ m)) ⊎ Closes code_piece cs
fault_closes code [] place h = absurd cc
fault_closes code (c ∷ cs) place h = elim (cases_Bool (c == quote)) [
  | inl q ↦
      inr (closes_first c (λ r. ended UnterminatedStringLiteral (c ∷ r) (string_end quote r)) cs (λ r. string_first c r q)
      (ended_closes UnterminatedStringLiteral code (λ r. c ∷ r) (string_end quote) cs place (string_end quote cs) (string_mends cs) refl (sym (string_first c cs q) ∙ h)))
  | inr q ↦ elim (cases_Bool (c == apostrophe)) [
    | inl a ↦
        inr (closes_first c (λ r. quoted_piece (c ∷ r) (after_quoted r)) cs (λ r. quoted_first c r q a) (quoted_at code (λ r. c ∷ r) cs place (after_quoted cs) refl (sym (quoted_first c cs q a) ∙ h)))
    | inr a ↦ elim (cases_Bool (c == letter_r)) [
      | inl l ↦ either_first c raw_piece code cs place (λ r. raw_first c r q a l) (raw_closed code cs place (sym (raw_first c cs q a l) ∙ h))
      | inr l ↦ elim (cases_Bool (c == slash)) [
        | inl s ↦ inr (closes_first c (λ r. slash_piece (c ∷ r) r) cs (λ r. slash_first c r q a l s) (slash_closed code (λ r. c ∷ r) cs place (sym (slash_first c cs q a l s) ∙ h)))
        | inr s ↦ (
            let never : Whole (kind_of c) cs ≡ Fault code place = sym (single_first c cs q a l s) ∙ h in
            absurd cc)
      ]
    ]
  ]
]

-- a whole piece, behind which nothing is left, stays whole in front of a line feed
abbrev GoesBefore : (List ℕ → Piece) → (List ℕ → Piece) → List ℕ → Type 0
GoesBefore piece made cs = (y : List ℕ) → piece (cs ++ 10 ∷ y) ≡ made (10 ∷ y)

ended_before : (code : ErrorCode) (start : List ℕ → List ℕ) (scan : List ℕ → Option (List ℕ)) (k : _) (cs : List ℕ) (o : Option (List ℕ)) →
    ((x : List ℕ) → scan cs ≡ Some x → Finds scan cs x) → scan cs ≡ o → ended code (start cs) o ≡ Whole k [] → GoesBefore (λ r. ended code (start r) (scan r)) (Whole k) cs
ended_before code start scan k cs None f e h y = absurd cc
ended_before code start scan k cs (Some after) f e h y =
    let same : after ≡ [] = cc in
    let kind : kind_of 97 ≡ k = cc in
    let p : Finds scan cs [] = f [] (e ∙ ap (λ (x : List ℕ). Some x) same) in
    let whole : cs ≡ p.first ∷ p.others = p.whole ∙ ap (λ (x : List ℕ). p.first ∷ x) (append-nil p.others) in
    ap (λ (x : List ℕ). ended code (start (cs ++ 10 ∷ y)) (scan (x ++ 10 ∷ y))) whole ∙ ap (ended code (start (cs ++ 10 ∷ y))) (p.again (10 ∷ y)) ∙ ap (λ j. Whole j (10 ∷ y)) kind

quoted_before : (start : List ℕ → List ℕ) (k : _) (cs r : List ℕ) → quoted_piece (start cs) r ≡ Whole k [] → GoesBefore (λ x. quoted_piece (start x) (after_quoted x)) (Whole k) cs
quoted_before start k cs [] h y = absurd cc
quoted_before start k cs (a ∷ x) h y = absurd cc

raw_all : (k : _) (cs start : List ℕ) (n : ℕ) (o : Option RawEnd) → raw_end n cs ≡ o → raw_string_piece start o ≡ Whole k [] → (kind_of 97 ≡ k) × ((other y : List ℕ) → raw_string_piece other (raw_end n (cs ++ 10 ∷ y)) ≡ Whole k (10 ∷ y))
raw_all k cs start n None e h = absurd cc
raw_all k cs start n (Some x) e h =
    let same : x.after ≡ [] = cc in
    let kind : kind_of 97 ≡ k = cc in
    let p : FindsRaw n cs x.after = raw_finds n cs x e in
    let whole : cs ≡ p.front = p.whole ∙ ap (λ (t : List ℕ). p.front ++ t) same ∙ append-nil p.front in
    (kind, λ other y. let a = p.again (10 ∷ y) in ap (λ (t : List ℕ). raw_string_piece other (raw_end n (t ++ 10 ∷ y))) whole ∙ ap (raw_string_piece other) a.1 ∙ ap (λ j. Whole j (10 ∷ y)) kind)

hashed_all : (k : _) (start : List ℕ) (n c : ℕ) (m : List ℕ) → hashed_piece start n (c ∷ m) ≡ Whole k [] → (other y : List ℕ) → hashed_piece other n (c ∷ (m ++ 10 ∷ y)) ≡ Whole k (10 ∷ y)
hashed_all k start n c m h other y = elim (cases_Bool (c == quote)) [
  | inl q ↦
      let step : hashed_piece start n (c ∷ m) ≡ raw_string_piece start (raw_end (n - 1) m) = cond-true (c == quote) _ _ q in
      let a = raw_all k m start (n - 1) (raw_end (n - 1) m) refl (sym step ∙ h) in
      cond-true (c == quote) _ _ q ∙ a.1 other y
  | inr q ↦ elim (cases_Bool (starts_word c)) [
    | inl w ↦
        let step : hashed_piece start n (c ∷ m) ≡ Whole (kind_of 97) (after_word m) = cond-false (c == quote) _ _ q ∙ cond-true (starts_word c) _ _ w in
        let found : Whole (kind_of 97) (after_word m) ≡ Whole k [] = sym step ∙ h in
        let none : after_word m ≡ [] = cc in
        let kind : kind_of 97 ≡ k = cc in
        cond-false (c == quote) _ _ q ∙ cond-true (starts_word c) _ _ w ∙ ap (λ (t : List ℕ). Whole (kind_of 97) t) (word_fed m y none) ∙ ap (λ j. Whole j (10 ∷ y)) kind
    | inr w ↦
        let step : hashed_piece start n (c ∷ m) ≡ Fault ExpectedStringLiteral (c ∷ m) = cond-false (c == quote) _ _ q ∙ cond-false (starts_word c) _ _ w in
        let never : Fault ExpectedStringLiteral (c ∷ m) ≡ Whole k [] = sym step ∙ h in
        absurd cc
  ]
]

hashed_before : (k : _) (cs r : List ℕ) → (hashes cs == 0) ≡ false → after_hashes cs ≡ r → hashed_piece cs (hashes cs) r ≡ Whole k [] → GoesBefore raw_piece (Whole k) cs
hashed_before k cs [] n e h y = absurd cc
hashed_before k cs (c ∷ m) n e h y =
    let p : PassesHashes cs = hashes_pass cs in
    let behind : List ℕ = c ∷ (m ++ 10 ∷ y) in
    let r = p.again behind (subst (λ (t : List ℕ). BeginsAs t behind) (sym e) refl) in
    let start : List ℕ = p.front ++ behind in
    let whole : cs ++ 10 ∷ y ≡ start = ap (λ (t : List ℕ). t ++ 10 ∷ y) (p.whole ∙ ap (λ (t : List ℕ). p.front ++ t) e) ∙ append_assoc p.front (c ∷ m) (10 ∷ y) in
    ap raw_piece whole ∙ some_hashes start (hashes cs) behind n r.0 r.1 ∙ hashed_all k cs (hashes cs) c m h start y

raw_before : (k : _) (cs : List ℕ) → raw_piece cs ≡ Whole k [] → GoesBefore raw_piece (Whole k) cs
raw_before k cs h y = elim (cases_Bool (hashes cs == 0)) [
  | inl z ↦
      let step : raw_piece cs ≡ Whole (kind_of 97) cs = cond-true (hashes cs == 0) _ _ z in
      let found : Whole (kind_of 97) cs ≡ Whole k [] = sym step ∙ h in
      let none : cs ≡ [] = cc in
      let kind : kind_of 97 ≡ k = cc in
      ap (λ (t : List ℕ). raw_piece (t ++ 10 ∷ y)) none ∙ ap (λ j. Whole j (10 ∷ y)) kind
  | inr n ↦
      let step : raw_piece cs ≡ hashed_piece cs (hashes cs) (after_hashes cs) = cond-false (hashes cs == 0) _ _ n in
      hashed_before k cs (after_hashes cs) n refl (sym step ∙ h) y
]

slash_before : (start : List ℕ → List ℕ) (k : _) (cs : List ℕ) → slash_piece (start cs) cs ≡ Whole k [] → GoesBefore (λ r. slash_piece (start r) r) (Whole k) cs
slash_before start k [] h y = let kind : kind_of 97 ≡ k = cc in ap (λ j. Whole j (10 ∷ y)) kind
slash_before start k (d ∷ m) h y = elim (cases_Bool (d == slash)) [
  | inl s ↦
      let step : slash_piece (start (d ∷ m)) (d ∷ m) ≡ Whole (kind_of 97) (from_char line_feed m) = cond-true (d == slash) _ _ s in
      let found : Whole (kind_of 97) (from_char line_feed m) ≡ Whole k [] = sym step ∙ h in
      let none : from_char line_feed m ≡ [] = cc in
      let kind : kind_of 97 ≡ k = cc in
      cond-true (d == slash) _ _ s ∙ ap (λ (t : List ℕ). Whole (kind_of 97) t) (char_fed line_feed m y none) ∙ ap (λ j. Whole j (10 ∷ y)) kind
  | inr s ↦ elim (cases_Bool (d == star)) [
    | inl t ↦
        let step : slash_piece (start (d ∷ m)) (d ∷ m) ≡ ended UnterminatedBlockComment (start (d ∷ m)) (after_comment 0 m) = cond-false (d == slash) _ _ s ∙ cond-true (d == star) _ _ t in
        cond-false (d == slash) _ _ s ∙ cond-true (d == star) _ _ t
        ∙ ended_before UnterminatedBlockComment (λ r. start (d ∷ r)) (after_comment 0) k m (after_comment 0 m) (comment_finds 0 m) refl (sym step ∙ h) y
    | inr t ↦
        let step : slash_piece (start (d ∷ m)) (d ∷ m) ≡ Whole (kind_of 97) (d ∷ m) = cond-false (d == slash) _ _ s ∙ cond-false (d == star) _ _ t in
        let never : Whole (kind_of 97) (d ∷ m) ≡ Whole k [] = sym step ∙ h in
        absurd cc
  ]
]

-- so of every piece
pub whole_before : (k : _) (cs y : List ℕ) → code_piece cs ≡ Whole k [] → code_piece (cs ++ 10 ∷ y) ≡ Whole k (10 ∷ y)
whole_before k [] y h = absurd cc
whole_before k (c ∷ cs) y h = elim (cases_Bool (c == quote)) [
  | inl q ↦
      string_first c (cs ++ 10 ∷ y) q
      ∙ ended_before UnterminatedStringLiteral (λ r. c ∷ r) (string_end quote) k cs (string_end quote cs) (string_finds quote cs) refl (sym (string_first c cs q) ∙ h) y
  | inr q ↦ elim (cases_Bool (c == apostrophe)) [
    | inl a ↦ quoted_first c (cs ++ 10 ∷ y) q a ∙ quoted_before (λ r. c ∷ r) k cs (after_quoted cs) (sym (quoted_first c cs q a) ∙ h) y
    | inr a ↦ elim (cases_Bool (c == letter_r)) [
      | inl l ↦ raw_first c (cs ++ 10 ∷ y) q a l ∙ raw_before k cs (sym (raw_first c cs q a l) ∙ h) y
      | inr l ↦ elim (cases_Bool (c == slash)) [
        | inl s ↦ slash_first c (cs ++ 10 ∷ y) q a l s ∙ slash_before (λ r. c ∷ r) k cs (sym (slash_first c cs q a l s) ∙ h) y
        | inr s ↦ (
            let found : Whole (kind_of c) cs ≡ Whole k [] = sym (single_first c cs q a l s) ∙ h in
            let none : cs ≡ [] = cc in
            let kind : kind_of c ≡ k = cc in
            single_first c (cs ++ 10 ∷ y) q a l s ∙ ap (λ (t : List ℕ). Whole (kind_of c) (t ++ 10 ∷ y)) none ∙ ap (λ j. Whole j (10 ∷ y)) kind)
      ]
    ]
  ]
]

-- a piece takes a character at least
alone : (c : ℕ) (k : _) → code_piece (c ∷ []) ≡ Whole k (c ∷ []) → ⊥
alone c k h = elim (cases_Bool (c == quote)) [
  | inl q ↦ (let step = sym (string_first c [] q) ∙ h in cc)
  | inr q ↦ elim (cases_Bool (c == apostrophe)) [
    | inl a ↦ (let step = sym (quoted_first c [] q a) ∙ h in cc)
    | inr a ↦ elim (cases_Bool (c == letter_r)) [
      | inl l ↦ (let step = sym (raw_first c [] q a l) ∙ h in cc)
      | inr l ↦ elim (cases_Bool (c == slash)) [
        | inl s ↦ (let step = sym (slash_first c [] q a l s) ∙ h in cc)
        | inr s ↦ (let step = sym (single_first c [] q a l s) ∙ h in cc)
      ]
    ]
  ]
]

some_front : (k : _) (cs next front : List ℕ) → code_piece cs ≡ Whole k next → cs ≡ front ++ next → ((y : List ℕ) → BeginsAs next y → code_piece (front ++ y) ≡ Whole k y) → length next < length cs
some_front k [] next front h e again = absurd cc
some_front k (c ∷ cs) next [] h e again = absurd (alone c k (again (c ∷ []) (subst (λ (t : List ℕ). BeginsAs t (c ∷ [])) e refl)))
some_front k (c ∷ cs) next (d ∷ front) h e again = let size = ap length e ∙ length-append (d ∷ front) next in omega (arith, size)

-- so less is left behind a piece
pub piece_takes : (k : _) (cs next : List ℕ) → code_piece cs ≡ Whole k next → length next < length cs
piece_takes k cs next h = let t : Told code_piece (Whole k) cs next = piece_told k cs next h in some_front k cs next t.front h t.whole t.again
