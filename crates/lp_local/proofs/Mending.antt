-- A scan that finds no end in a text finds one where a fitting end, or a line feed, is put behind the text.
use Rattle.std.proofs.Common.{◌≡◌, ℕ, zero, suc, ◌+◌, ◌-◌, ◌<◌, ◌==◌, ◌&&◌, ◌||◌, false, List, [], ◌∷◌, ◌++◌, Option, Some, None, replicate, refl, sym, ap, ◌∙◌, subst, arith, eqb, inl, inr, append_assoc}
use Rattle.std.specs.Str.{IsAscii}
use Rattle.std.proofs.Math.Bool.{and-false}
use Rattle.std.proofs.lemmas.Bool.{cases_Bool, cond-true, cond-false, eq-eqb, ne_eqb}
use Rattle.std.proofs.lemmas.Str.Ascii.{IsAscii-cons, IsAscii-nil}
use Rattle.unicode_ident.proofs.IdentLemmas.{is_xid_continue-ascii}
use Rattle.lp_tok.specs.Signs.{quote, apostrophe, star, slash, hash, backslash}
use Rattle.lp_tok.specs.Scans.{continues_word, after_word, from_char, past, past_any, hashes, after_hashes, past_hashes, RawEnd, end_here, raw_end, after_comment}
use Rattle.lp_tok.specs.CodePieces.{past_maybe, after_quoted}
use Rattle.lp_local.specs.Beginning.{BeginsAs}
use Rattle.lp_local.proofs.Scanning.{Passes, char_passes, string_end, quote_ends, string_goes, string_escapes, comment_goes, comment_opens, comment_ends, comment_shuts, escaped_end}

-- what is put behind a text so that a scan ends there
pub record Mends (scan : List ℕ → Option (List ℕ)) (cs : List ℕ) : Type 0 where
  pub end : List ℕ
  pub ascii : IsAscii end
  pub again : (y : List ℕ) → scan (cs ++ (end ++ y)) ≡ Some y

-- one character of ASCII
pub one_ascii : (c : ℕ) → c < 128 → IsAscii (c ∷ [])
one_ascii c lt = IsAscii-cons c [] lt IsAscii-nil

-- two characters
pub two_ascii : (c d : ℕ) → c < 128 → d < 128 → IsAscii (c ∷ d ∷ [])
two_ascii c d lt le = IsAscii-cons c (d ∷ []) lt (one_ascii d le)

-- and of one character again and again
pub same_ascii : (n c : ℕ) → c < 128 → IsAscii (replicate n c)
same_ascii zero c lt = IsAscii-nil
same_ascii (suc n) c lt = IsAscii-cons c (replicate n c) lt (same_ascii n c lt)

-- a string: a `\` at its end takes one character more
pub string_mends : (cs : List ℕ) → string_end quote cs ≡ None → Mends (string_end quote) cs
string_mends [] h = record { end = quote ∷ []; ascii = one_ascii quote (omega arith); again = λ y. quote_ends quote quote y refl }
string_mends (c ∷ []) h = elim (cases_Bool (eqb c quote)) [
  | inl t ↦
      let never : Some [] ≡ None = sym (quote_ends quote c [] t) ∙ h in
      absurd cc
  | inr n ↦ elim (cases_Bool (eqb c backslash)) [
    | inl s ↦
        record {
          end = 97 ∷ quote ∷ [];
          ascii = two_ascii 97 quote (omega arith) (omega arith);
          again = λ y. ap (past quote) (string_escapes quote c 97 (quote ∷ y) n s) ∙ quote_ends quote quote y refl;
        }
    | inr s ↦
        record {
          end = quote ∷ [];
          ascii = one_ascii quote (omega arith);
          again = λ y. ap (past quote) (string_goes quote c (quote ∷ y) n s) ∙ quote_ends quote quote y refl;
        }
  ]
]
string_mends (c ∷ d ∷ cs) h = elim (cases_Bool (eqb c quote)) [
  | inl t ↦
      let never : Some (d ∷ cs) ≡ None = sym (quote_ends quote c (d ∷ cs) t) ∙ h in
      absurd cc
  | inr n ↦ elim (cases_Bool (eqb c backslash)) [
    | inl s ↦
        let p : Mends (string_end quote) cs = string_mends cs (sym (ap (past quote) (string_escapes quote c d cs n s)) ∙ h) in
        record { end = p.end; ascii = p.ascii; again = λ y. ap (past quote) (string_escapes quote c d (cs ++ (p.end ++ y)) n s) ∙ p.again y }
    | inr s ↦
        let p : Mends (string_end quote) (d ∷ cs) = string_mends (d ∷ cs) (sym (ap (past quote) (string_goes quote c (d ∷ cs) n s)) ∙ h) in
        record { end = p.end; ascii = p.ascii; again = λ y. ap (past quote) (string_goes quote c (d ∷ (cs ++ (p.end ++ y))) n s) ∙ p.again y }
  ]
]

-- the ends of a comment that stands inside n others
abbrev closing_marks : ℕ → List ℕ
closing_marks zero = star ∷ slash ∷ []
closing_marks (suc n) = star ∷ slash ∷ closing_marks n

marks_ascii : (n : ℕ) → IsAscii (closing_marks n)
marks_ascii zero = two_ascii star slash (omega arith) (omega arith)
marks_ascii (suc n) = IsAscii-cons star (slash ∷ closing_marks n) (omega arith) (IsAscii-cons slash (closing_marks n) (omega arith) (marks_ascii n))

marks_end : (n : ℕ) (y : List ℕ) → after_comment n (closing_marks n ++ y) ≡ Some y
marks_end zero y = comment_ends 0 star slash y refl refl refl
marks_end (suc n) y =
    let one : suc n - 1 ≡ n = omega arith in
    comment_shuts (suc n) star slash (closing_marks n ++ y) refl refl (ne_eqb (suc n) 0 (λ e. omega (arith, e))) ∙ ap (λ k. after_comment k (closing_marks n ++ y)) one ∙ marks_end n y

-- behind a line feed
fed_marks : (n : ℕ) (y : List ℕ) → after_comment n (10 ∷ (closing_marks n ++ y)) ≡ Some y
fed_marks zero y = comment_goes 0 10 star star (slash ∷ y) refl refl refl ∙ marks_end 0 y
fed_marks (suc n) y = comment_goes (suc n) 10 star star (slash ∷ (closing_marks n ++ y)) refl refl refl ∙ marks_end (suc n) y

-- a comment: behind a line feed, so that no `/` or `*` at the end of the text begins a mark with what follows
pub comment_mends : (n : ℕ) (cs : List ℕ) → after_comment n cs ≡ None → Mends (after_comment n) cs
comment_mends n [] h = record { end = 10 ∷ closing_marks n; ascii = IsAscii-cons 10 (closing_marks n) (omega arith) (marks_ascii n); again = λ y. fed_marks n y }
comment_mends n (c ∷ []) h = record {
  end = 10 ∷ closing_marks n;
  ascii = IsAscii-cons 10 (closing_marks n) (omega arith) (marks_ascii n);
  again = λ y. comment_goes n c 10 10 (closing_marks n ++ y) refl (and-false (c == slash)) (and-false (c == star)) ∙ fed_marks n y;
}
comment_mends n (c ∷ d ∷ cs) h = elim (cases_Bool ((c == slash) && (d == star))) [
  | inl o ↦
      let p : Mends (after_comment (n + 1)) cs = comment_mends (n + 1) cs (sym (comment_opens n c d cs o) ∙ h) in
      record { end = p.end; ascii = p.ascii; again = λ y. comment_opens n c d (cs ++ (p.end ++ y)) o ∙ p.again y }
  | inr o ↦ elim (cases_Bool ((c == star) && (d == slash))) [
    | inl e ↦ elim (cases_Bool (n == 0)) [
      | inl z ↦
          let never : Some cs ≡ None = sym (comment_ends n c d cs o e z) ∙ h in
          absurd cc
      | inr z ↦
          let p : Mends (after_comment (n - 1)) cs = comment_mends (n - 1) cs (sym (comment_shuts n c d cs o e z) ∙ h) in
          record { end = p.end; ascii = p.ascii; again = λ y. comment_shuts n c d (cs ++ (p.end ++ y)) o e z ∙ p.again y }
    ]
    | inr e ↦
        let p : Mends (after_comment n) (d ∷ cs) = comment_mends n (d ∷ cs) (sym (comment_goes n c d d cs refl o e) ∙ h) in
        record { end = p.end; ascii = p.ascii; again = λ y. comment_goes n c d d (cs ++ (p.end ++ y)) refl o e ∙ p.again y }
  ]
]

-- a raw string: its quote, behind which no other counts, and its hashes
hashes_end : (n : ℕ) (y : List ℕ) → past_hashes n (replicate n hash ++ y) ≡ Some y
hashes_end zero y = refl
hashes_end (suc n) y = hashes_end n y

short_hashes : (n : ℕ) (cs r : List ℕ) → past_hashes n cs ≡ None → past_hashes n (cs ++ quote ∷ r) ≡ None
short_hashes zero cs r h = absurd cc
short_hashes (suc n) [] r h = refl
short_hashes (suc n) (c ∷ cs) r h = elim (cases_Bool (c == hash)) [
  | inl t ↦ cond-true (c == hash) _ _ t ∙ short_hashes n cs r (sym (cond-true (c == hash) (past_hashes n cs) None t) ∙ h)
  | inr z ↦ cond-false (c == hash) _ _ z
]

none_here : (o : Option (List ℕ)) (here : List ℕ) (later : Option RawEnd) → end_here o here later ≡ None → (o ≡ None) × (later ≡ None)
none_here None here later h = (refl, h)
none_here (Some after) here later h = absurd cc

-- a raw string that has no end has one at the quote and the hashes behind the text
pub raw_mends : (n : ℕ) (cs y : List ℕ) → raw_end n cs ≡ None → (from : List ℕ) × (raw_end n (cs ++ quote ∷ (replicate n hash ++ y)) ≡ Some (record { from_quote = from; after = y }))
raw_mends n [] y h =
    let r : List ℕ = replicate n hash ++ y in
    (quote ∷ r, ap (λ (x : Option (List ℕ)). end_here x (quote ∷ r) (raw_end n r)) (hashes_end n y))
raw_mends n (c ∷ cs) y h = elim (cases_Bool (c == quote)) [
  | inl q ↦
      let step : raw_end n (c ∷ cs) ≡ end_here (past_hashes n cs) (c ∷ cs) (raw_end n cs) = cond-true (c == quote) _ _ q in
      let none = none_here (past_hashes n cs) (c ∷ cs) (raw_end n cs) (sym step ∙ h) in
      let a = raw_mends n cs y none.1 in
      let r : List ℕ = cs ++ quote ∷ (replicate n hash ++ y) in (
        a.0,
        cond-true (c == quote) _ _ q ∙ ap (λ (x : Option (List ℕ)). end_here x (c ∷ r) (raw_end n r)) (short_hashes n cs (replicate n hash ++ y) none.0) ∙ a.1,
      )
  | inr z ↦
      let step : raw_end n (c ∷ cs) ≡ raw_end n cs = cond-false (c == quote) _ _ z in
      let a = raw_mends n cs y (sym step ∙ h) in
      (a.0, cond-false (c == quote) _ _ z ∙ a.1)
]

-- a character that is in no text is found where it is put behind it
pub char_fed : (c : ℕ) (cs y : List ℕ) → from_char c cs ≡ [] → from_char c (cs ++ c ∷ y) ≡ c ∷ y
char_fed c [] y h = cond-true (c == c) _ _ (eq-eqb c c refl)
char_fed c (d ∷ cs) y h = elim (cases_Bool (d == c)) [
  | inl t ↦
      let step : from_char c (d ∷ cs) ≡ d ∷ cs = cond-true (d == c) _ _ t in
      let never : d ∷ cs ≡ [] = sym step ∙ h in
      absurd cc
  | inr n ↦
      let step : from_char c (d ∷ cs) ≡ from_char c cs = cond-false (d == c) _ _ n in
      cond-false (d == c) _ _ n ∙ char_fed c cs y (sym step ∙ h)
]

-- no word goes on with a line feed
feed_ends : continues_word 10 ≡ false
feed_ends = ap (λ x. x || (10 == 95)) (is_xid_continue-ascii 10 (omega arith))

-- a word that runs to the end of a text ends in front of a line feed
pub word_fed : (cs y : List ℕ) → after_word cs ≡ [] → after_word (cs ++ 10 ∷ y) ≡ 10 ∷ y
word_fed [] y h = cond-false (continues_word 10) _ _ feed_ends
word_fed (d ∷ cs) y h = elim (cases_Bool (continues_word d)) [
  | inl t ↦
      let step : after_word (d ∷ cs) ≡ after_word cs = cond-true (continues_word d) _ _ t in
      cond-true (continues_word d) _ _ t ∙ word_fed cs y (sym step ∙ h)
  | inr n ↦
      let step : after_word (d ∷ cs) ≡ d ∷ cs = cond-false (continues_word d) _ _ n in
      let never : d ∷ cs ≡ [] = sym step ∙ h in
      absurd cc
]

-- hashes in front of a quote
pub hashes_fed : (cs y : List ℕ) → after_hashes cs ≡ [] → (hashes (cs ++ quote ∷ y) ≡ hashes cs) × (after_hashes (cs ++ quote ∷ y) ≡ quote ∷ y)
hashes_fed [] y h = (refl, refl)
hashes_fed (d ∷ cs) y h = elim (cases_Bool (d == hash)) [
  | inl t ↦
      let step : after_hashes (d ∷ cs) ≡ after_hashes cs = cond-true (d == hash) _ _ t in
      let r = hashes_fed cs y (sym step ∙ h) in
      (cond-true (d == hash) (hashes (cs ++ quote ∷ y) + 1) 0 t ∙ ap (λ n. n + 1) r.0 ∙ sym (cond-true (d == hash) (hashes cs + 1) 0 t), cond-true (d == hash) (after_hashes (cs ++ quote ∷ y)) (d ∷ (cs ++ quote ∷ y)) t ∙ r.1)
  | inr n ↦
      let step : after_hashes (d ∷ cs) ≡ d ∷ cs = cond-false (d == hash) _ _ n in
      let never : d ∷ cs ≡ [] = sym step ∙ h in
      absurd cc
]

-- what is put behind a text so that a scan leaves the line feed behind it
pub record Feeds (scan : List ℕ → List ℕ) (cs : List ℕ) : Type 0 where
  pub end : List ℕ
  pub ascii : IsAscii end
  pub again : (y : List ℕ) → scan (cs ++ (end ++ 10 ∷ y)) ≡ 10 ∷ y

-- quoted characters, behind which nothing is left
escaped_fed_at : (d : ℕ) (m r : List ℕ) → from_char apostrophe m ≡ r → past_any r ≡ [] → Feeds escaped_end (d ∷ m)
escaped_fed_at d m [] f h = record { end = apostrophe ∷ []; ascii = one_ascii apostrophe (omega arith); again = λ y. ap past_any (char_fed apostrophe m (10 ∷ y) f) }
escaped_fed_at d m (e ∷ r) f h =
    let p : Passes (from_char apostrophe) m = char_passes apostrophe m in
    let here : from_char apostrophe m ≡ e ∷ [] = f ∙ ap (λ (t : List ℕ). e ∷ t) h in
    let whole : m ≡ p.front ++ e ∷ [] = p.whole ∙ ap (λ (t : List ℕ). p.front ++ t) here in
    record {
      end = [];
      ascii = IsAscii-nil;
      again = λ y.
          ap (λ (t : List ℕ). past_any (from_char apostrophe (t ++ 10 ∷ y))) whole ∙ ap (λ (t : List ℕ). past_any (from_char apostrophe t)) (append_assoc p.front (e ∷ []) (10 ∷ y))
          ∙ ap past_any (p.again (e ∷ 10 ∷ y) (subst (λ (t : List ℕ). BeginsAs t (e ∷ 10 ∷ y)) (sym here) refl));
    }

escaped_fed : (cs : List ℕ) → escaped_end cs ≡ [] → Feeds escaped_end cs
escaped_fed [] h = record { end = 97 ∷ apostrophe ∷ []; ascii = two_ascii 97 apostrophe (omega arith) (omega arith); again = λ y. refl }
escaped_fed (d ∷ m) h = escaped_fed_at d m (from_char apostrophe m) refl h

maybe_fed : (cs : List ℕ) → past_maybe apostrophe cs ≡ [] → Feeds (past_maybe apostrophe) cs
maybe_fed [] h = record { end = []; ascii = IsAscii-nil; again = λ y. refl }
maybe_fed (d ∷ m) h = elim (cases_Bool (d == apostrophe)) [
  | inl t ↦
      let none : m ≡ [] = sym (cond-true (d == apostrophe) m (d ∷ m) t) ∙ h in
      record { end = []; ascii = IsAscii-nil; again = λ y. cond-true (d == apostrophe) _ _ t ∙ ap (λ (r : List ℕ). r ++ 10 ∷ y) none }
  | inr n ↦
      let never : d ∷ m ≡ [] = sym (cond-false (d == apostrophe) m (d ∷ m) n) ∙ h in
      absurd cc
]

-- a quoted character, or a lifetime
pub quoted_fed : (cs : List ℕ) → after_quoted cs ≡ [] → Feeds after_quoted cs
quoted_fed [] h = record { end = 97 ∷ apostrophe ∷ []; ascii = two_ascii 97 apostrophe (omega arith) (omega arith); again = λ y. refl }
quoted_fed (c ∷ cs) h = elim (cases_Bool (c == backslash)) [
  | inl s ↦
      let step : after_quoted (c ∷ cs) ≡ escaped_end cs = cond-true (c == backslash) _ _ s in
      let p : Feeds escaped_end cs = escaped_fed cs (sym step ∙ h) in
      record { end = p.end; ascii = p.ascii; again = λ y. cond-true (c == backslash) _ _ s ∙ p.again y }
  | inr s ↦
      let step : after_quoted (c ∷ cs) ≡ past_maybe apostrophe cs = cond-false (c == backslash) _ _ s in
      let p : Feeds (past_maybe apostrophe) cs = maybe_fed cs (sym step ∙ h) in
      record { end = p.end; ascii = p.ascii; again = λ y. cond-false (c == backslash) _ _ s ∙ p.again y }
]
