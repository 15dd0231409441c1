-- A piece of user code is told by its own characters, and the first one behind it.
use Rattle.std.proofs.Common.{◌≡◌, ℕ, ◌+◌, ◌-◌, ◌==◌, true, false, cond, List, [], ◌∷◌, ◌++◌, Option, Some, None, refl, sym, ap, ◌∙◌, subst, arith, inl, inr, ◌⊎◌, append_assoc}
use Rattle.std.proofs.lemmas.Bool.{cases_Bool, cond-true, cond-false, cond_both, eqb-true}
use Rattle.std.proofs.lemmas.List.{append_cancel_right}
use Rattle.lp_tok.specs.declared.tok.ErrorCode.{ErrorCode}
use Rattle.lp_tok.specs.declared.tok.ErrorCode.TheVariants.{UnterminatedStringLiteral, ExpectedStringLiteral, UnterminatedBlockComment}
use Rattle.lp_tok.specs.Signs.{line_feed, quote, apostrophe, letter_r, star, slash, hash}
use Rattle.lp_tok.specs.Scans.{starts_word, after_word, from_char, hashes, after_hashes, RawEnd, raw_end, after_comment}
use Rattle.lp_tok.specs.CodePieces.{Piece, Whole, Fault, Nothing, kind_of, ended, after_quoted, quoted_piece, raw_string_piece, hashed_piece, raw_piece, slash_piece, code_piece}
use Rattle.lp_local.specs.Beginning.{BeginsAs}
use Rattle.lp_local.proofs.Scanning.{nothing_begins, Passes, char_passes, word_passes, Finds, string_end, string_finds, comment_finds, Leaves, quoted_leaves, PassesHashes, hashes_pass, FindsRaw, raw_finds}

-- a piece and what follows it; the same piece comes in front of each text that begins as that does
pub record Told (piece made : List ℕ → Piece) (cs next : List ℕ) : Type 0 where
  pub front : List ℕ
  pub whole : cs ≡ front ++ next
  pub again : (y : List ℕ) → BeginsAs next y → piece (front ++ y) ≡ made y

-- `kind_of 97` is the kind of a piece that counts no bracket
ended_told : (code : ErrorCode) (start : List ℕ → List ℕ) (scan : List ℕ → Option (List ℕ)) (k : _) (cs next : List ℕ) (o : Option (List ℕ)) →
    ((x : List ℕ) → scan cs ≡ Some x → Finds scan cs x) → scan cs ≡ o → ended code (start cs) o ≡ Whole k next → Told (λ r. ended code (start r) (scan r)) (Whole k) cs next
ended_told code start scan k cs next None f e h = absurd cc
ended_told code start scan k cs next (Some after) f e h =
    let same : after ≡ next = cc in
    let kind : kind_of 97 ≡ k = cc in
    let p : Finds scan cs next = f next (e ∙ ap (λ (x : List ℕ). Some x) same) in
    record {
      front = p.first ∷ p.others;
      whole = p.whole;
      again = λ y b. ap (ended code (start (p.first ∷ (p.others ++ y)))) (p.again y) ∙ ap (λ j. Whole j y) kind;
    }

string_told : (start : List ℕ → List ℕ) (k : _) (cs next : List ℕ) → ended UnterminatedStringLiteral (start cs) (string_end quote cs) ≡ Whole k next →
    Told (λ r. ended UnterminatedStringLiteral (start r) (string_end quote r)) (Whole k) cs next
string_told start k cs next h = ended_told UnterminatedStringLiteral start (string_end quote) k cs next (string_end quote cs) (string_finds quote cs) refl h

comment_told : (start : List ℕ → List ℕ) (k : _) (cs next : List ℕ) → ended UnterminatedBlockComment (start cs) (after_comment 0 cs) ≡ Whole k next →
    Told (λ r. ended UnterminatedBlockComment (start r) (after_comment 0 r)) (Whole k) cs next
comment_told start k cs next h = ended_told UnterminatedBlockComment start (after_comment 0) k cs next (after_comment 0 cs) (comment_finds 0 cs) refl h

-- quoted characters and lifetimes
quoted_at : (start : List ℕ → List ℕ) (k : _) (cs next r : List ℕ) → after_quoted cs ≡ r → quoted_piece (start cs) r ≡ Whole k next → Told (λ x. quoted_piece (start x) (after_quoted x)) (Whole k) cs next
quoted_at start k cs next [] e h = absurd cc
quoted_at start k cs next (a ∷ x) e h =
    let same : a ∷ x ≡ next = cc in
    let kind : kind_of 97 ≡ k = cc in
    let p : Leaves after_quoted cs a x = quoted_leaves cs a x e in
    record { front = p.front; whole = p.whole ∙ ap (λ (t : List ℕ). p.front ++ t) same; again = λ y b. quoted_again start k p.front a x y kind p.again (subst (λ (t : List ℕ). BeginsAs t y) (sym same) b) }
  where
    quoted_again : (start : List ℕ → List ℕ) (k : _) (front : List ℕ) (a : ℕ) (x y : List ℕ) → kind_of 97 ≡ k → ((z : List ℕ) → after_quoted (front ++ a ∷ z) ≡ a ∷ z) → BeginsAs (a ∷ x) y →
        quoted_piece (start (front ++ y)) (after_quoted (front ++ y)) ≡ Whole k y
    quoted_again start k front a x [] kind again b = absurd b
    quoted_again start k front a x (d ∷ y) kind again b =
        let here : after_quoted (front ++ d ∷ y) ≡ d ∷ y = ap (λ c. after_quoted (front ++ c ∷ y)) (sym b) ∙ again y ∙ ap (λ c. c ∷ y) b in
        ap (quoted_piece (start (front ++ d ∷ y))) here ∙ ap (λ j. Whole j (d ∷ y)) kind

quoted_told : (start : List ℕ → List ℕ) (k : _) (cs next : List ℕ) → quoted_piece (start cs) (after_quoted cs) ≡ Whole k next → Told (λ r. quoted_piece (start r) (after_quoted r)) (Whole k) cs next
quoted_told start k cs next h = quoted_at start k cs next (after_quoted cs) refl h

-- what follows `r`: no hash
no_hash : (cs y : List ℕ) → (hashes cs == 0) ≡ true → BeginsAs cs y → (hashes y == 0) ≡ true
no_hash [] y h b = ap (λ (t : List ℕ). hashes t == 0) (nothing_begins y b)
no_hash (c ∷ cs) [] h b = absurd b
no_hash (c ∷ cs) (d ∷ y) h b = elim (cases_Bool (c == hash)) [
  | inl t ↦
      let more : hashes (c ∷ cs) ≡ hashes cs + 1 = cond-true (c == hash) _ _ t in
      let none : hashes (c ∷ cs) ≡ 0 = eqb-true (hashes (c ∷ cs)) 0 h in
      absurd (omega (arith, more, none))
  | inr n ↦
      let none : hashes (d ∷ y) ≡ 0 = cond-false (d == hash) (hashes y + 1) 0 (ap (λ x. x == hash) (sym b) ∙ n) in
      ap (λ x. x == 0) none
]

-- a raw string, or a raw word, behind its hashes
pub record ToldHashed (n : ℕ) (made : List ℕ → Piece) (c : ℕ) (cs next : List ℕ) : Type 0 where
  pub front : List ℕ
  pub whole : cs ≡ front ++ next
  pub again : (start y : List ℕ) → BeginsAs next y → hashed_piece start n (c ∷ (front ++ y)) ≡ made y

raw_at : (start : List ℕ) (n c : ℕ) (k : _) (cs next : List ℕ) (o : Option RawEnd) → (c == quote) ≡ true → raw_end (n - 1) cs ≡ o → raw_string_piece start o ≡ Whole k next → ToldHashed n (Whole k) c cs next
raw_at start n c k cs next None q e h = absurd cc
raw_at start n c k cs next (Some x) q e h =
    let same : x.after ≡ next = cc in
    let kind : kind_of 97 ≡ k = cc in
    let p : FindsRaw (n - 1) cs x.after = raw_finds (n - 1) cs x e in
    record {
      front = p.front;
      whole = p.whole ∙ ap (λ (t : List ℕ). p.front ++ t) same;
      again = λ other y b. cond-true (c == quote) _ _ q ∙ ap (raw_string_piece other) (p.again y).1 ∙ ap (λ j. Whole j y) kind;
    }

word_at : (start : List ℕ) (n c : ℕ) (k : _) (cs next : List ℕ) → (c == quote) ≡ false → starts_word c ≡ true → Whole (kind_of 97) (after_word cs) ≡ Whole k next → ToldHashed n (Whole k) c cs next
word_at start n c k cs next q w h =
    let same : after_word cs ≡ next = cc in
    let kind : kind_of 97 ≡ k = cc in
    let p : Passes after_word cs = word_passes cs in
    record {
      front = p.front;
      whole = p.whole ∙ ap (λ (t : List ℕ). p.front ++ t) same;
      again = λ other y b.
          cond-false (c == quote) _ _ q ∙ cond-true (starts_word c) _ _ w
          ∙ ap (λ (t : List ℕ). Whole (kind_of 97) t) (p.again y (subst (λ (t : List ℕ). BeginsAs t y) (sym same) b)) ∙ ap (λ j. Whole j y) kind;
    }

hashed_told : (start : List ℕ) (n c : ℕ) (k : _) (cs next : List ℕ) → hashed_piece start n (c ∷ cs) ≡ Whole k next → ToldHashed n (Whole k) c cs next
hashed_told start n c k cs next h = elim (cases_Bool (c == quote)) [
  | inl q ↦
      let step : hashed_piece start n (c ∷ cs) ≡ raw_string_piece start (raw_end (n - 1) cs) = cond-true (c == quote) _ _ q in
      raw_at start n c k cs next (raw_end (n - 1) cs) q refl (sym step ∙ h)
  | inr q ↦ elim (cases_Bool (starts_word c)) [
    | inl w ↦
        let step : hashed_piece start n (c ∷ cs) ≡ Whole (kind_of 97) (after_word cs) = cond-false (c == quote) _ _ q ∙ cond-true (starts_word c) _ _ w in
        word_at start n c k cs next q w (sym step ∙ h)
    | inr w ↦
        let step : hashed_piece start n (c ∷ cs) ≡ Fault ExpectedStringLiteral (c ∷ cs) = cond-false (c == quote) _ _ q ∙ cond-false (starts_word c) _ _ w in
        let never : Fault ExpectedStringLiteral (c ∷ cs) ≡ Whole k next = sym step ∙ h in
        absurd cc
  ]
]

hashes_at : (k : _) (cs next r : List ℕ) → (hashes cs == 0) ≡ false → after_hashes cs ≡ r → hashed_piece cs (hashes cs) r ≡ Whole k next → Told raw_piece (Whole k) cs next
hashes_at k cs next [] n e h = absurd cc
hashes_at k cs next (c ∷ m) n e h =
    let p : PassesHashes cs = hashes_pass cs in
    let q : ToldHashed (hashes cs) (Whole k) c m next = hashed_told cs (hashes cs) c k m next h in
    record {
      front = p.front ++ c ∷ q.front;
      whole = p.whole ∙ ap (λ (t : List ℕ). p.front ++ t) (e ∙ ap (λ (t : List ℕ). c ∷ t) q.whole) ∙ sym (append_assoc p.front (c ∷ q.front) next);
      again = λ y b.
          let behind : List ℕ = c ∷ (q.front ++ y) in
          let r = p.again behind (subst (λ (t : List ℕ). BeginsAs t behind) (sym e) refl) in
          let start : List ℕ = p.front ++ behind in
          let some : raw_piece start ≡ hashed_piece start (hashes start) (after_hashes start) = cond-false (hashes start == 0) _ _ (ap (λ x. x == 0) r.0 ∙ n) in
          ap raw_piece (append_assoc p.front (c ∷ q.front) y) ∙ some ∙ ap (λ x. hashed_piece start x (after_hashes start)) r.0 ∙ ap (hashed_piece start (hashes cs)) r.1 ∙ q.again start y b;
    }

raw_told : (k : _) (cs next : List ℕ) → raw_piece cs ≡ Whole k next → Told raw_piece (Whole k) cs next
raw_told k cs next h = elim (cases_Bool (hashes cs == 0)) [
  | inl z ↦
      let step : raw_piece cs ≡ Whole (kind_of 97) cs = cond-true (hashes cs == 0) _ _ z in
      let found : Whole (kind_of 97) cs ≡ Whole k next = sym step ∙ h in
      let same : cs ≡ next = cc in
      let kind : kind_of 97 ≡ k = cc in
      record {
        front = [];
        whole = same;
        again = λ y b. cond-true (hashes y == 0) _ _ (no_hash cs y z (subst (λ (t : List ℕ). BeginsAs t y) (sym same) b)) ∙ ap (λ j. Whole j y) kind;
      }
  | inr n ↦
      let step : raw_piece cs ≡ hashed_piece cs (hashes cs) (after_hashes cs) = cond-false (hashes cs == 0) _ _ n in
      hashes_at k cs next (after_hashes cs) n refl (sym step ∙ h)
]

-- comments, and a single `/`
slash_again : (start : List ℕ → List ℕ) (d : ℕ) (m y : List ℕ) → (d == slash) ≡ false → (d == star) ≡ false → BeginsAs (d ∷ m) y → slash_piece (start y) y ≡ Whole (kind_of 97) y
slash_again start d m [] s t b = absurd b
slash_again start d m (e ∷ y) s t b = cond-false (e == slash) _ _ (ap (λ x. x == slash) (sym b) ∙ s) ∙ cond-false (e == star) _ _ (ap (λ x. x == star) (sym b) ∙ t)

slash_told : (start : List ℕ → List ℕ) (k : _) (cs next : List ℕ) → slash_piece (start cs) cs ≡ Whole k next → Told (λ r. slash_piece (start r) r) (Whole k) cs next
slash_told start k [] next h =
    let same : [] ≡ next = cc in
    let kind : kind_of 97 ≡ k = cc in
    record {
      front = [];
      whole = same;
      again = λ y b.
          let none : y ≡ [] = nothing_begins y (subst (λ (t : List ℕ). BeginsAs t y) (sym same) b) in
          ap (slash_piece (start y)) none ∙ ap (λ (t : List ℕ). Whole (kind_of 97) t) (sym none) ∙ ap (λ j. Whole j y) kind;
    }
slash_told start k (d ∷ m) next h = elim (cases_Bool (d == slash)) [
  | inl s ↦
      let step : slash_piece (start (d ∷ m)) (d ∷ m) ≡ Whole (kind_of 97) (from_char line_feed m) = cond-true (d == slash) _ _ s in
      let found : Whole (kind_of 97) (from_char line_feed m) ≡ Whole k next = sym step ∙ h in
      let same : from_char line_feed m ≡ next = cc in
      let kind : kind_of 97 ≡ k = cc in
      let p : Passes (from_char line_feed) m = char_passes line_feed m in
      record {
        front = d ∷ p.front;
        whole = ap (λ (t : List ℕ). d ∷ t) (p.whole ∙ ap (λ (t : List ℕ). p.front ++ t) same);
        again = λ y b.
            cond-true (d == slash) _ _ s ∙ ap (λ (t : List ℕ). Whole (kind_of 97) t) (p.again y (subst (λ (t : List ℕ). BeginsAs t y) (sym same) b)) ∙ ap (λ j. Whole j y) kind;
      }
  | inr s ↦ elim (cases_Bool (d == star)) [
    | inl t ↦
        let step : slash_piece (start (d ∷ m)) (d ∷ m) ≡ ended UnterminatedBlockComment (start (d ∷ m)) (after_comment 0 m) = cond-false (d == slash) _ _ s ∙ cond-true (d == star) _ _ t in
        let p : Told (λ r. ended UnterminatedBlockComment (start (d ∷ r)) (after_comment 0 r)) (Whole k) m next = comment_told (λ r. start (d ∷ r)) k m next (sym step ∙ h) in
        record {
          front = d ∷ p.front;
          whole = ap (λ (r : List ℕ). d ∷ r) p.whole;
          again = λ y b. cond-false (d == slash) _ _ s ∙ cond-true (d == star) _ _ t ∙ p.again y b;
        }
    | inr t ↦
        let step : slash_piece (start (d ∷ m)) (d ∷ m) ≡ Whole (kind_of 97) (d ∷ m) = cond-false (d == slash) _ _ s ∙ cond-false (d == star) _ _ t in
        let found : Whole (kind_of 97) (d ∷ m) ≡ Whole k next = sym step ∙ h in
        let same : d ∷ m ≡ next = cc in
        let kind : kind_of 97 ≡ k = cc in
        record {
          front = [];
          whole = same;
          again = λ y b. slash_again start d m y s t (subst (λ (r : List ℕ). BeginsAs r y) (sym same) b) ∙ ap (λ j. Whole j y) kind;
        }
  ]
]

-- what a piece is, by its first character
pub string_first : (c : ℕ) (r : List ℕ) → (c == quote) ≡ true → code_piece (c ∷ r) ≡ ended UnterminatedStringLiteral (c ∷ r) (string_end quote r)
string_first c r q = cond-true (c == quote) _ _ q

pub quoted_first : (c : ℕ) (r : List ℕ) → (c == quote) ≡ false → (c == apostrophe) ≡ true → code_piece (c ∷ r) ≡ quoted_piece (c ∷ r) (after_quoted r)
quoted_first c r q a = cond-false (c == quote) _ _ q ∙ cond-true (c == apostrophe) _ _ a

pub raw_first : (c : ℕ) (r : List ℕ) → (c == quote) ≡ false → (c == apostrophe) ≡ false → (c == letter_r) ≡ true → code_piece (c ∷ r) ≡ raw_piece r
raw_first c r q a l = cond-false (c == quote) _ _ q ∙ cond-false (c == apostrophe) _ _ a ∙ cond-true (c == letter_r) _ _ l

pub slash_first : (c : ℕ) (r : List ℕ) → (c == quote) ≡ false → (c == apostrophe) ≡ false → (c == letter_r) ≡ false → (c == slash) ≡ true → code_piece (c ∷ r) ≡ slash_piece (c ∷ r) r
slash_first c r q a l s = cond-false (c == quote) _ _ q ∙ cond-false (c == apostrophe) _ _ a ∙ cond-false (c == letter_r) _ _ l ∙ cond-true (c == slash) _ _ s

pub single_first : (c : ℕ) (r : List ℕ) → (c == quote) ≡ false → (c == apostrophe) ≡ false → (c == letter_r) ≡ false → (c == slash) ≡ false → code_piece (c ∷ r) ≡ Whole (kind_of c) r
single_first c r q a l s = cond-false (c == quote) _ _ q ∙ cond-false (c == apostrophe) _ _ a ∙ cond-false (c == letter_r) _ _ l ∙ cond-false (c == slash) _ _ s

-- a character in front of a piece
told_first : (c : ℕ) (piece made : List ℕ → Piece) (cs next : List ℕ) → ((r : List ℕ) → code_piece (c ∷ r) ≡ piece r) → Told piece made cs next → Told code_piece made (c ∷ cs) next
told_first c piece made cs next f p = record { front = c ∷ p.front; whole = ap (λ (t : List ℕ). c ∷ t) p.whole; again = λ y b. f (p.front ++ y) ∙ p.again y b }

single_told : (c : ℕ) (k : _) (cs next : List ℕ) → Whole (kind_of c) cs ≡ Whole k next → Told (λ r. Whole (kind_of c) r) (Whole k) cs next
single_told c k cs next h =
    let same : cs ≡ next = cc in
    let kind : kind_of c ≡ k = cc in
    record { front = []; whole = same; again = λ y b. ap (λ j. Whole j y) kind }

pub piece_told : (k : _) (cs next : List ℕ) → code_piece cs ≡ Whole k next → Told code_piece (Whole k) cs next
piece_told k [] next h = absurd cc
piece_told k (c ∷ cs) next h = elim (cases_Bool (c == quote)) [
  | inl q ↦
      told_first c (λ r. ended UnterminatedStringLiteral (c ∷ r) (string_end quote r)) (Whole k) cs next (λ r. string_first c r q) (string_told (λ r. c ∷ r) k cs next (sym (string_first c cs q) ∙ h))
  | inr q ↦ elim (cases_Bool (c == apostrophe)) [
    | inl a ↦
        told_first c (λ r. quoted_piece (c ∷ r) (after_quoted r)) (Whole k) cs next (λ r. quoted_first c r q a) (quoted_told (λ r. c ∷ r) k cs next (sym (quoted_first c cs q a) ∙ h))
    | inr a ↦ elim (cases_Bool (c == letter_r)) [
      | inl l ↦ told_first c raw_piece (Whole k) cs next (λ r. raw_first c r q a l) (raw_told k cs next (sym (raw_first c cs q a l) ∙ h))
      | inr l ↦ elim (cases_Bool (c == slash)) [
        | inl s ↦
            told_first c (λ r. slash_piece (c ∷ r) r) (Whole k) cs next (λ r. slash_first c r q a l s) (slash_told (λ r. c ∷ r) k cs next (sym (slash_first c cs q a l s) ∙ h))
        | inr s ↦ told_first c (λ r. Whole (kind_of c) r) (Whole k) cs next (λ r. single_first c r q a l s) (single_told c k cs next (sym (single_first c cs q a l s) ∙ h))
      ]
    ]
  ]
]

-- so the same piece stands in front of each text that begins as what follows it
pub piece_moved : (k : _) (front next y : List ℕ) → code_piece (front ++ next) ≡ Whole k next → BeginsAs next y → code_piece (front ++ y) ≡ Whole k y
piece_moved k front next y h b =
    let t : Told code_piece (Whole k) (front ++ next) next = piece_told k (front ++ next) next h in
    let same : t.front ≡ front = append_cancel_right t.front front next (sym t.whole) in
    ap (λ (x : List ℕ). code_piece (x ++ y)) (sym same) ∙ t.again y b

-- `r#` that begins neither a raw string nor a word; no other piece is that fault
ended_other : (code : ErrorCode) (start next : List ℕ) (o : Option (List ℕ)) → (code ≡ ExpectedStringLiteral → ⊥) → ended code start o ≡ Fault ExpectedStringLiteral next → ⊥
ended_other code start next None other h = let same : code ≡ ExpectedStringLiteral = cc in other same
ended_other code start next (Some after) other h = cc

quoted_other : (start cs next : List ℕ) → quoted_piece start cs ≡ Fault ExpectedStringLiteral next → ⊥
quoted_other start [] next h = cc
quoted_other start (c ∷ cs) next h = cc

raw_string_other : (start next : List ℕ) (o : Option RawEnd) → raw_string_piece start o ≡ Fault ExpectedStringLiteral next → ⊥
raw_string_other start next None h = cc
raw_string_other start next (Some e) h = cc

slash_other : (start cs next : List ℕ) → slash_piece start cs ≡ Fault ExpectedStringLiteral next → ⊥
slash_other start [] next h = cc
slash_other start (d ∷ m) next h = elim (cases_Bool (d == slash)) [
  | inl s ↦
      let step : slash_piece start (d ∷ m) ≡ Whole (kind_of 97) (from_char line_feed m) = cond-true (d == slash) _ _ s in
      let never : Whole (kind_of 97) (from_char line_feed m) ≡ Fault ExpectedStringLiteral next = sym step ∙ h in
      cc
  | inr s ↦ elim (cases_Bool (d == star)) [
    | inl t ↦
        let step : slash_piece start (d ∷ m) ≡ ended UnterminatedBlockComment start (after_comment 0 m) = cond-false (d == slash) _ _ s ∙ cond-true (d == star) _ _ t in
        ended_other UnterminatedBlockComment start next (after_comment 0 m) (λ e. cc) (sym step ∙ h)
    | inr t ↦
        let step : slash_piece start (d ∷ m) ≡ Whole (kind_of 97) (d ∷ m) = cond-false (d == slash) _ _ s ∙ cond-false (d == star) _ _ t in
        let never : Whole (kind_of 97) (d ∷ m) ≡ Fault ExpectedStringLiteral next = sym step ∙ h in
        cc
  ]
]

-- what is wrong behind the hashes is wrong by its first character
wrong_again : (start : List ℕ) (n c : ℕ) (cs y : List ℕ) → (c == quote) ≡ false → starts_word c ≡ false → BeginsAs (c ∷ cs) y → hashed_piece start n y ≡ Fault ExpectedStringLiteral y
wrong_again start n c cs [] q w b = absurd b
wrong_again start n c cs (d ∷ y) q w b = cond-false (d == quote) _ _ (ap (λ x. x == quote) (sym b) ∙ q) ∙ cond-false (starts_word d) _ _ (ap (λ x. starts_word x) (sym b) ∙ w)

wrong_told : (start : List ℕ) (n c : ℕ) (cs next : List ℕ) → hashed_piece start n (c ∷ cs) ≡ Fault ExpectedStringLiteral next →
    (c ∷ cs ≡ next) × ((other y : List ℕ) → BeginsAs next y → hashed_piece other n y ≡ Fault ExpectedStringLiteral y)
wrong_told start n c cs next h = elim (cases_Bool (c == quote)) [
  | inl q ↦
      let step : hashed_piece start n (c ∷ cs) ≡ raw_string_piece start (raw_end (n - 1) cs) = cond-true (c == quote) _ _ q in
      absurd (raw_string_other start next (raw_end (n - 1) cs) (sym step ∙ h))
  | inr q ↦ elim (cases_Bool (starts_word c)) [
    | inl w ↦
        let step : hashed_piece start n (c ∷ cs) ≡ Whole (kind_of 97) (after_word cs) = cond-false (c == quote) _ _ q ∙ cond-true (starts_word c) _ _ w in
        let never : Whole (kind_of 97) (after_word cs) ≡ Fault ExpectedStringLiteral next = sym step ∙ h in
        absurd cc
    | inr w ↦
        let step : hashed_piece start n (c ∷ cs) ≡ Fault ExpectedStringLiteral (c ∷ cs) = cond-false (c == quote) _ _ q ∙ cond-false (starts_word c) _ _ w in
        let found : Fault ExpectedStringLiteral (c ∷ cs) ≡ Fault ExpectedStringLiteral next = sym step ∙ h in
        let same : c ∷ cs ≡ next = cc in
        (same, λ other y b. wrong_again other n c cs y q w (subst (λ (t : List ℕ). BeginsAs t y) (sym same) b))
  ]
]

wrong_at : (cs next r : List ℕ) → (hashes cs == 0) ≡ false → after_hashes cs ≡ r → hashed_piece cs (hashes cs) r ≡ Fault ExpectedStringLiteral next → Told raw_piece (Fault ExpectedStringLiteral) cs next
wrong_at cs next [] n e h = absurd cc
wrong_at cs next (c ∷ m) n e h =
    let p : PassesHashes cs = hashes_pass cs in
    let q = wrong_told cs (hashes cs) c m next h in
    let same : after_hashes cs ≡ next = e ∙ q.0 in
    record {
      front = p.front;
      whole = p.whole ∙ ap (λ (t : List ℕ). p.front ++ t) same;
      again = λ y b.
          let r = p.again y (subst (λ (t : List ℕ). BeginsAs t y) (sym same) b) in
          let start : List ℕ = p.front ++ y in
          let some : raw_piece start ≡ hashed_piece start (hashes start) (after_hashes start) = cond-false (hashes start == 0) _ _ (ap (λ x. x == 0) r.0 ∙ n) in
          some ∙ ap (λ x. hashed_piece start x (after_hashes start)) r.0 ∙ ap (hashed_piece start (hashes cs)) r.1 ∙ q.1 start y b;
    }

raw_wrong : (cs next : List ℕ) → raw_piece cs ≡ Fault ExpectedStringLiteral next → Told raw_piece (Fault ExpectedStringLiteral) cs next
raw_wrong cs next h = elim (cases_Bool (hashes cs == 0)) [
  | inl z ↦
      let step : raw_piece cs ≡ Whole (kind_of 97) cs = cond-true (hashes cs == 0) _ _ z in
      let never : Whole (kind_of 97) cs ≡ Fault ExpectedStringLiteral next = sym step ∙ h in
      absurd cc
  | inr n ↦
      let step : raw_piece cs ≡ hashed_piece cs (hashes cs) (after_hashes cs) = cond-false (hashes cs == 0) _ _ n in
      wrong_at cs next (after_hashes cs) n refl (sym step ∙ h)
]

pub fault_told : (cs next : List ℕ) → code_piece cs ≡ Fault ExpectedStringLiteral next → Told code_piece (Fault ExpectedStringLiteral) cs next
fault_told [] next h = absurd cc
fault_told (c ∷ cs) next h = elim (cases_Bool (c == quote)) [
  | inl q ↦ absurd (ended_other UnterminatedStringLiteral (c ∷ cs) next (string_end quote cs) (λ e. cc) (sym (string_first c cs q) ∙ h))
  | inr q ↦ elim (cases_Bool (c == apostrophe)) [
    | inl a ↦ absurd (quoted_other (c ∷ cs) (after_quoted cs) next (sym (quoted_first c cs q a) ∙ h))
    | inr a ↦ elim (cases_Bool (c == letter_r)) [
      | inl l ↦ told_first c raw_piece (Fault ExpectedStringLiteral) cs next (λ r. raw_first c r q a l) (raw_wrong cs next (sym (raw_first c cs q a l) ∙ h))
      | inr l ↦ elim (cases_Bool (c == slash)) [
        | inl s ↦ absurd (slash_other (c ∷ cs) cs next (sym (slash_first c cs q a l s) ∙ h))
        | inr s ↦ (
            let never : Whole (kind_of c) cs ≡ Fault ExpectedStringLiteral next = sym (single_first c cs q a l s) ∙ h in
            absurd cc)
      ]
    ]
  ]
]

-- so no text behind that fault mends it: it stands in each text that begins alike
pub fault_moved : (front next y : List ℕ) → code_piece (front ++ next) ≡ Fault ExpectedStringLiteral next → BeginsAs next y → code_piece (front ++ y) ≡ Fault ExpectedStringLiteral y
fault_moved front next y h b =
    let t : Told code_piece (Fault ExpectedStringLiteral) (front ++ next) next = fault_told (front ++ next) next h in
    let same : t.front ≡ front = append_cancel_right t.front front next (sym t.whole) in
    ap (λ (x : List ℕ). code_piece (x ++ y)) (sym same) ∙ t.again y b

-- a piece that counts no bracket, or has no end
abbrev pub IsUncounted : Piece → Type 0
IsUncounted (Whole k next) = k ≡ kind_of 97
IsUncounted (Fault code at) = Unit {0}
IsUncounted Nothing = ⊥

ended_uncounted : (code : ErrorCode) (start : List ℕ) (o : Option (List ℕ)) → IsUncounted (ended code start o)
ended_uncounted code start None = tt
ended_uncounted code start (Some after) = refl

quoted_uncounted : (start cs : List ℕ) → IsUncounted (quoted_piece start cs)
quoted_uncounted start [] = tt
quoted_uncounted start (c ∷ cs) = refl

raw_string_uncounted : (start : List ℕ) (o : Option RawEnd) → IsUncounted (raw_string_piece start o)
raw_string_uncounted start None = tt
raw_string_uncounted start (Some e) = refl

hashed_uncounted : (start : List ℕ) (n : ℕ) (cs : List ℕ) → IsUncounted (hashed_piece start n cs)
hashed_uncounted start n [] = tt
hashed_uncounted start n (c ∷ cs) =
    cond_both (c == quote) (raw_string_piece start (raw_end (n - 1) cs)) (cond (starts_word c) (Whole (kind_of 97) (after_word cs)) (Fault ExpectedStringLiteral (c ∷ cs))) IsUncounted
    (λ q. raw_string_uncounted start (raw_end (n - 1) cs))
    (λ q. cond_both (starts_word c) (Whole (kind_of 97) (after_word cs)) (Fault ExpectedStringLiteral (c ∷ cs)) IsUncounted (λ w. refl) (λ w. tt))

raw_uncounted : (cs : List ℕ) → IsUncounted (raw_piece cs)
raw_uncounted cs = cond_both (hashes cs == 0) (Whole (kind_of 97) cs) (hashed_piece cs (hashes cs) (after_hashes cs)) IsUncounted (λ z. refl) (λ z. hashed_uncounted cs (hashes cs) (after_hashes cs))

slash_uncounted : (start cs : List ℕ) → IsUncounted (slash_piece start cs)
slash_uncounted start [] = refl
slash_uncounted start (c ∷ cs) =
    cond_both (c == slash) (Whole (kind_of 97) (from_char line_feed cs)) (cond (c == star) (ended UnterminatedBlockComment start (after_comment 0 cs)) (Whole (kind_of 97) (c ∷ cs))) IsUncounted
    (λ s. refl)
    (λ s. cond_both (c == star) (ended UnterminatedBlockComment start (after_comment 0 cs)) (Whole (kind_of 97) (c ∷ cs)) IsUncounted (λ t. ended_uncounted UnterminatedBlockComment start (after_comment 0 cs)) (λ t. refl))

-- what stands at a character: a piece that counts no bracket, whatever follows, or the character alone, whatever follows
pub piece_class : (c : ℕ) → ((r : List ℕ) → IsUncounted (code_piece (c ∷ r))) ⊎ ((r : List ℕ) → code_piece (c ∷ r) ≡ Whole (kind_of c) r)
piece_class c = elim (cases_Bool (c == quote)) [
  | inl q ↦ inl (λ r. subst IsUncounted (sym (string_first c r q)) (ended_uncounted UnterminatedStringLiteral (c ∷ r) (string_end quote r)))
  | inr q ↦ elim (cases_Bool (c == apostrophe)) [
    | inl a ↦ inl (λ r. subst IsUncounted (sym (quoted_first c r q a)) (quoted_uncounted (c ∷ r) (after_quoted r)))
    | inr a ↦ elim (cases_Bool (c == letter_r)) [
      | inl l ↦ inl (λ r. subst IsUncounted (sym (raw_first c r q a l)) (raw_uncounted r))
      | inr l ↦ elim (cases_Bool (c == slash)) [
        | inl s ↦ inl (λ r. subst IsUncounted (sym (slash_first c r q a l s)) (slash_uncounted (c ∷ r) r))
        | inr s ↦ inr (λ r. single_first c r q a l s)
      ]
    ]
  ]
]
