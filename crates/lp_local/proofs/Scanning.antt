-- What a scan passes of a text, it passes in front of each text that begins as the rest does.
use Rattle.std.proofs.Common.{◌≡◌, ℕ, ◌+◌, ◌-◌, ◌==◌, zero, suc, true, false, cond, ◌&&◌, List, [], ◌∷◌, ◌++◌, Option, Some, None, refl, sym, ap, ◌∙◌, subst, eqb, inl, inr, ◌⊎◌, append_assoc}
use Rattle.std.proofs.lemmas.Bool.{cases_Bool, cond-true, cond-false, eqb-true, both_ways}
use Rattle.lp_tok.specs.Signs.{quote, apostrophe, star, slash, hash, backslash}
use Rattle.lp_tok.specs.Scans.{continues_word, after_word, from_char, from_unescaped, past, past_any, hashes, after_hashes, past_hashes, RawEnd, end_here, raw_end, after_comment}
use Rattle.lp_tok.specs.CodePieces.{past_maybe, after_quoted}
use Rattle.lp_local.specs.Beginning.{BeginsAs}

pub nothing_begins : (y : List ℕ) → BeginsAs [] y → y ≡ []
nothing_begins [] h = refl
nothing_begins (d ∷ y) h = absurd h

pub begins_itself : (a : List ℕ) → BeginsAs a a
begins_itself [] = tt
begins_itself (c ∷ a) = refl

-- a front in common
pub begins_behind : (x a b : List ℕ) → BeginsAs a b → BeginsAs (x ++ a) (x ++ b)
begins_behind [] a b h = h
begins_behind (c ∷ x) a b h = refl

-- a scan that leaves something, or all
pub record Passes (scan : List ℕ → List ℕ) (cs : List ℕ) : Type 0 where
  pub front : List ℕ
  pub whole : cs ≡ front ++ scan cs
  pub again : (y : List ℕ) → BeginsAs (scan cs) y → scan (front ++ y) ≡ y

char_stays : (c d : ℕ) (cs y : List ℕ) → (d == c) ≡ true → BeginsAs (d ∷ cs) y → from_char c y ≡ y
char_stays c d cs [] h b = refl
char_stays c d cs (e ∷ y) h b = cond-true (e == c) _ _ (ap (λ x. x == c) (sym b) ∙ h)

pub char_passes : (c : ℕ) (cs : List ℕ) → Passes (from_char c) cs
char_passes c [] = record { front = []; whole = refl; again = λ y b. ap (from_char c) (nothing_begins y b) ∙ sym (nothing_begins y b) }
char_passes c (d ∷ cs) = elim (cases_Bool (d == c)) [
  | inl h ↦
      let here : from_char c (d ∷ cs) ≡ d ∷ cs = cond-true (d == c) _ _ h in
      record { front = []; whole = sym here; again = λ y b. char_stays c d cs y h (subst (λ (r : List ℕ). BeginsAs r y) here b) }
  | inr n ↦
      let on : from_char c (d ∷ cs) ≡ from_char c cs = cond-false (d == c) _ _ n in
      let p : Passes (from_char c) cs = char_passes c cs in
      record {
        front = d ∷ p.front;
        whole = ap (λ (r : List ℕ). d ∷ r) p.whole ∙ ap (λ (r : List ℕ). d ∷ (p.front ++ r)) (sym on);
        again = λ y b. cond-false (d == c) _ _ n ∙ p.again y (subst (λ (r : List ℕ). BeginsAs r y) on b);
      }
]

word_stays : (d : ℕ) (cs y : List ℕ) → continues_word d ≡ false → BeginsAs (d ∷ cs) y → after_word y ≡ y
word_stays d cs [] h b = refl
word_stays d cs (e ∷ y) h b = cond-false (continues_word e) _ _ (ap continues_word (sym b) ∙ h)

pub word_passes : (cs : List ℕ) → Passes after_word cs
word_passes [] = record { front = []; whole = refl; again = λ y b. ap after_word (nothing_begins y b) ∙ sym (nothing_begins y b) }
word_passes (d ∷ cs) = elim (cases_Bool (continues_word d)) [
  | inl h ↦
      let on : after_word (d ∷ cs) ≡ after_word cs = cond-true (continues_word d) _ _ h in
      let p : Passes after_word cs = word_passes cs in
      record {
        front = d ∷ p.front;
        whole = ap (λ (r : List ℕ). d ∷ r) p.whole ∙ ap (λ (r : List ℕ). d ∷ (p.front ++ r)) (sym on);
        again = λ y b. cond-true (continues_word d) _ _ h ∙ p.again y (subst (λ (r : List ℕ). BeginsAs r y) on b);
      }
  | inr n ↦
      let here : after_word (d ∷ cs) ≡ d ∷ cs = cond-false (continues_word d) _ _ n in
      record { front = []; whole = sym here; again = λ y b. word_stays d cs y n (subst (λ (r : List ℕ). BeginsAs r y) here b) }
]

-- a scan that finds its end, whatever is behind it
pub record Finds (scan : List ℕ → Option (List ℕ)) (cs next : List ℕ) : Type 0 where
  pub first : ℕ
  pub others : List ℕ
  pub whole : cs ≡ first ∷ (others ++ next)
  pub again : (y : List ℕ) → scan (first ∷ (others ++ y)) ≡ Some y

-- strings
abbrev pub string_end : ℕ → List ℕ → Option (List ℕ)
string_end q cs = past q (from_unescaped q cs)

quote_here : (q c : ℕ) (m : List ℕ) → eqb c q ≡ true → from_unescaped q (c ∷ m) ≡ c ∷ m
quote_here q c [] h = cond-true (eqb c q) _ _ h
quote_here q c (d ∷ m) h = cond-true (eqb c q) _ _ h

pub quote_ends : (q c : ℕ) (m : List ℕ) → eqb c q ≡ true → string_end q (c ∷ m) ≡ Some m
quote_ends q c m h = ap (past q) (quote_here q c m h) ∙ cond-true (eqb c q) _ _ h

pub string_goes : (q c : ℕ) (m : List ℕ) → eqb c q ≡ false → eqb c backslash ≡ false → from_unescaped q (c ∷ m) ≡ from_unescaped q m
string_goes q c [] n s = cond-false (eqb c q) _ _ n
string_goes q c (d ∷ m) n s = cond-false (eqb c q) _ _ n ∙ cond-false (eqb c backslash) _ _ s

pub string_escapes : (q c d : ℕ) (m : List ℕ) → eqb c q ≡ false → eqb c backslash ≡ true → from_unescaped q (c ∷ d ∷ m) ≡ from_unescaped q m
string_escapes q c d m n s = cond-false (eqb c q) _ _ n ∙ cond-true (eqb c backslash) _ _ s

string_here : (q c : ℕ) (m next : List ℕ) → eqb c q ≡ true → string_end q (c ∷ m) ≡ Some next → Finds (string_end q) (c ∷ m) next
string_here q c m next y h =
    let found : Some m ≡ Some next = sym (quote_ends q c m y) ∙ h in
    let same : m ≡ next = cc in
    record { first = c; others = []; whole = ap (λ (r : List ℕ). c ∷ r) same; again = λ z. quote_ends q c z y }

pub string_finds : (q : ℕ) (cs next : List ℕ) → string_end q cs ≡ Some next → Finds (string_end q) cs next
string_finds q [] next h = absurd cc
string_finds q (c ∷ []) next h = elim (cases_Bool (eqb c q)) [
  | inl y ↦ string_here q c [] next y h
  | inr n ↦
      let none : string_end q (c ∷ []) ≡ None = ap (past q) (cond-false (eqb c q) (c ∷ []) [] n) in
      let never : None ≡ Some next = sym none ∙ h in
      absurd cc
]
string_finds q (c ∷ d ∷ cs) next h = elim (cases_Bool (eqb c q)) [
  | inl y ↦ string_here q c (d ∷ cs) next y h
  | inr n ↦ elim (cases_Bool (eqb c backslash)) [
    | inl s ↦
        let p : Finds (string_end q) cs next = string_finds q cs next (sym (ap (past q) (string_escapes q c d cs n s)) ∙ h) in
        record {
          first = c;
          others = d ∷ p.first ∷ p.others;
          whole = ap (λ (r : List ℕ). c ∷ d ∷ r) p.whole;
          again = λ z. ap (past q) (string_escapes q c d (p.first ∷ (p.others ++ z)) n s) ∙ p.again z;
        }
    | inr s ↦
        let p : Finds (string_end q) (d ∷ cs) next = string_finds q (d ∷ cs) next (sym (ap (past q) (string_goes q c (d ∷ cs) n s)) ∙ h) in
        record {
          first = c;
          others = p.first ∷ p.others;
          whole = ap (λ (r : List ℕ). c ∷ r) p.whole;
          again = λ z. ap (past q) (string_goes q c (p.first ∷ (p.others ++ z)) n s) ∙ p.again z;
        }
  ]
]

-- block comments
pub comment_goes : (n c d f : ℕ) (m : List ℕ) → d ≡ f → ((c == slash) && (d == star)) ≡ false → ((c == star) && (d == slash)) ≡ false → after_comment n (c ∷ f ∷ m) ≡ after_comment n (f ∷ m)
comment_goes n c d f m e o s =
    cond-false ((c == slash) && (f == star)) _ _ (ap (λ x. (c == slash) && (x == star)) (sym e) ∙ o)
    ∙ cond-false ((c == star) && (f == slash)) _ _ (ap (λ x. (c == star) && (x == slash)) (sym e) ∙ s)

pub comment_opens : (n c d : ℕ) (m : List ℕ) → ((c == slash) && (d == star)) ≡ true → after_comment n (c ∷ d ∷ m) ≡ after_comment (n + 1) m
comment_opens n c d m o = cond-true ((c == slash) && (d == star)) _ _ o

comment_closes : (n c d : ℕ) (m : List ℕ) → ((c == slash) && (d == star)) ≡ false → ((c == star) && (d == slash)) ≡ true →
    after_comment n (c ∷ d ∷ m) ≡ cond (n == 0) (Some m) (after_comment (n - 1) m)
comment_closes n c d m o e = cond-false ((c == slash) && (d == star)) _ _ o ∙ cond-true ((c == star) && (d == slash)) _ _ e

pub comment_ends : (n c d : ℕ) (m : List ℕ) → ((c == slash) && (d == star)) ≡ false → ((c == star) && (d == slash)) ≡ true → (n == 0) ≡ true → after_comment n (c ∷ d ∷ m) ≡ Some m
comment_ends n c d m o e z = comment_closes n c d m o e ∙ cond-true (n == 0) (Some m) (after_comment (n - 1) m) z

pub comment_shuts : (n c d : ℕ) (m : List ℕ) → ((c == slash) && (d == star)) ≡ false → ((c == star) && (d == slash)) ≡ true → (n == 0) ≡ false → after_comment n (c ∷ d ∷ m) ≡ after_comment (n - 1) m
comment_shuts n c d m o e z = comment_closes n c d m o e ∙ cond-false (n == 0) (Some m) (after_comment (n - 1) m) z

-- a comment that goes on behind two characters
finds_behind : (n k c d : ℕ) (cs next : List ℕ) → ((m : List ℕ) → after_comment n (c ∷ d ∷ m) ≡ after_comment k m) → Finds (after_comment k) cs next → Finds (after_comment n) (c ∷ d ∷ cs) next
finds_behind n k c d cs next step p = record {
  first = c;
  others = d ∷ p.first ∷ p.others;
  whole = ap (λ (r : List ℕ). c ∷ d ∷ r) p.whole;
  again = λ z. step (p.first ∷ (p.others ++ z)) ∙ p.again z;
}

pub comment_finds : (n : ℕ) (cs next : List ℕ) → after_comment n cs ≡ Some next → Finds (after_comment n) cs next
comment_finds n [] next h = absurd cc
comment_finds n (c ∷ []) next h = absurd cc
comment_finds n (c ∷ d ∷ cs) next h = elim (cases_Bool ((c == slash) && (d == star))) [
  | inl o ↦ finds_behind n (n + 1) c d cs next (λ m. comment_opens n c d m o) (comment_finds (n + 1) cs next (sym (comment_opens n c d cs o) ∙ h))
  | inr o ↦ elim (cases_Bool ((c == star) && (d == slash))) [
    | inl e ↦ elim (cases_Bool (n == 0)) [
      | inl z ↦
          let found : Some cs ≡ Some next = sym (comment_ends n c d cs o e z) ∙ h in
          let same : cs ≡ next = cc in
          record { first = c; others = d ∷ []; whole = ap (λ (r : List ℕ). c ∷ d ∷ r) same; again = λ y. comment_ends n c d y o e z }
      | inr z ↦ finds_behind n (n - 1) c d cs next (λ m. comment_shuts n c d m o e z) (comment_finds (n - 1) cs next (sym (comment_shuts n c d cs o e z) ∙ h))
    ]
    | inr e ↦
        let p : Finds (after_comment n) (d ∷ cs) next = comment_finds n (d ∷ cs) next (sym (comment_goes n c d d cs refl o e) ∙ h) in
        let same : d ≡ p.first = first_same d p.first cs (p.others ++ next) p.whole in
        record {
          first = c;
          others = p.first ∷ p.others;
          whole = ap (λ (r : List ℕ). c ∷ r) p.whole;
          again = λ y. comment_goes n c d p.first (p.others ++ y) same o e ∙ p.again y;
        }
  ]
]
  where
    first_same : (a b : ℕ) (x y : List ℕ) → a ∷ x ≡ b ∷ y → a ≡ b
    first_same a b x y h = cc

-- quoted characters: something is left behind one
pub record Leaves (scan : List ℕ → List ℕ) (cs : List ℕ) (a : ℕ) (x : List ℕ) : Type 0 where
  pub front : List ℕ
  pub whole : cs ≡ front ++ a ∷ x
  pub again : (y : List ℕ) → scan (front ++ a ∷ y) ≡ a ∷ y

abbrev pub escaped_end : List ℕ → List ℕ
escaped_end cs = past_any (from_char apostrophe (past_any cs))

escaped_at : (d : ℕ) (m : List ℕ) (a : ℕ) (x r : List ℕ) → from_char apostrophe m ≡ r → past_any r ≡ a ∷ x → Leaves escaped_end (d ∷ m) a x
escaped_at d m a x [] f h = absurd cc
escaped_at d m a x (e ∷ r) f h =
    let p : Passes (from_char apostrophe) m = char_passes apostrophe m in
    let here : from_char apostrophe m ≡ e ∷ (a ∷ x) = f ∙ ap (λ (t : List ℕ). e ∷ t) h in
    record {
      front = d ∷ (p.front ++ e ∷ []);
      whole = ap (λ (t : List ℕ). d ∷ t) (p.whole ∙ ap (λ (t : List ℕ). p.front ++ t) here ∙ sym (append_assoc p.front (e ∷ []) (a ∷ x)));
      again = λ y.
          ap (λ (t : List ℕ). past_any (from_char apostrophe t)) (append_assoc p.front (e ∷ []) (a ∷ y))
          ∙ ap past_any (p.again (e ∷ a ∷ y) (subst (λ (t : List ℕ). BeginsAs t (e ∷ a ∷ y)) (sym here) refl));
    }

escaped_leaves : (cs : List ℕ) (a : ℕ) (x : List ℕ) → escaped_end cs ≡ a ∷ x → Leaves escaped_end cs a x
escaped_leaves [] a x h = absurd cc
escaped_leaves (d ∷ m) a x h = escaped_at d m a x (from_char apostrophe m) refl h

maybe_leaves : (cs : List ℕ) (a : ℕ) (x : List ℕ) → past_maybe apostrophe cs ≡ a ∷ x → Leaves (past_maybe apostrophe) cs a x
maybe_leaves [] a x h = absurd cc
maybe_leaves (d ∷ m) a x h = elim (cases_Bool (d == apostrophe)) [
  | inl y ↦
      let same : m ≡ a ∷ x = sym (cond-true (d == apostrophe) m (d ∷ m) y) ∙ h in
      record { front = d ∷ []; whole = ap (λ (t : List ℕ). d ∷ t) same; again = λ z. cond-true (d == apostrophe) _ _ y }
  | inr n ↦
      let same : d ∷ m ≡ a ∷ x = sym (cond-false (d == apostrophe) m (d ∷ m) n) ∙ h in
      let first : d ≡ a = cc in
      record { front = []; whole = same; again = λ z. cond-false (a == apostrophe) _ _ (ap (λ c. c == apostrophe) (sym first) ∙ n) }
]

pub quoted_leaves : (cs : List ℕ) (a : ℕ) (x : List ℕ) → after_quoted cs ≡ a ∷ x → Leaves after_quoted cs a x
quoted_leaves [] a x h = absurd cc
quoted_leaves (c ∷ cs) a x h = elim (cases_Bool (c == backslash)) [
  | inl s ↦
      let step : after_quoted (c ∷ cs) ≡ escaped_end cs = cond-true (c == backslash) _ _ s in
      let p : Leaves escaped_end cs a x = escaped_leaves cs a x (sym step ∙ h) in
      record { front = c ∷ p.front; whole = ap (λ (t : List ℕ). c ∷ t) p.whole; again = λ y. cond-true (c == backslash) _ _ s ∙ p.again y }
  | inr s ↦
      let step : after_quoted (c ∷ cs) ≡ past_maybe apostrophe cs = cond-false (c == backslash) _ _ s in
      let p : Leaves (past_maybe apostrophe) cs a x = maybe_leaves cs a x (sym step ∙ h) in
      record { front = c ∷ p.front; whole = ap (λ (t : List ℕ). c ∷ t) p.whole; again = λ y. cond-false (c == backslash) _ _ s ∙ p.again y }
]

-- hashes in front
pub record PassesHashes (cs : List ℕ) : Type 0 where
  pub front : List ℕ
  pub whole : cs ≡ front ++ after_hashes cs
  pub again : (y : List ℕ) → BeginsAs (after_hashes cs) y → (hashes (front ++ y) ≡ hashes cs) × (after_hashes (front ++ y) ≡ y)

hashes_stay : (c : ℕ) (cs y : List ℕ) → (c == hash) ≡ false → BeginsAs (c ∷ cs) y → (hashes y ≡ hashes (c ∷ cs)) × (after_hashes y ≡ y)
hashes_stay c cs [] n b = absurd b
hashes_stay c cs (e ∷ y) n b =
    let m : (e == hash) ≡ false = ap (λ x. x == hash) (sym b) ∙ n in
    (cond-false (e == hash) (hashes y + 1) 0 m ∙ sym (cond-false (c == hash) (hashes cs + 1) 0 n), cond-false (e == hash) (after_hashes y) (e ∷ y) m)

pub hashes_pass : (cs : List ℕ) → PassesHashes cs
hashes_pass [] = record { front = []; whole = refl; again = λ y b. (ap hashes (nothing_begins y b), ap after_hashes (nothing_begins y b) ∙ sym (nothing_begins y b)) }
hashes_pass (c ∷ cs) = elim (cases_Bool (c == hash)) [
  | inl h ↦
      let on : after_hashes (c ∷ cs) ≡ after_hashes cs = cond-true (c == hash) _ _ h in
      let p : PassesHashes cs = hashes_pass cs in
      record {
        front = c ∷ p.front;
        whole = ap (λ (r : List ℕ). c ∷ r) p.whole ∙ ap (λ (r : List ℕ). c ∷ (p.front ++ r)) (sym on);
        again = λ y b.
            let r = p.again y (subst (λ (t : List ℕ). BeginsAs t y) on b) in
            (cond-true (c == hash) (hashes (p.front ++ y) + 1) 0 h ∙ ap (λ n. n + 1) r.0 ∙ sym (cond-true (c == hash) (hashes cs + 1) 0 h), cond-true (c == hash) (after_hashes (p.front ++ y)) (c ∷ (p.front ++ y)) h ∙ r.1);
      }
  | inr n ↦
      let here : after_hashes (c ∷ cs) ≡ c ∷ cs = cond-false (c == hash) _ _ n in
      record { front = []; whole = sym here; again = λ y b. hashes_stay c cs y n (subst (λ (r : List ℕ). BeginsAs r y) here b) }
]

-- the hashes that end a raw string
record FindsHashes (n : ℕ) (cs next : List ℕ) : Type 0 where
  front : List ℕ
  whole : cs ≡ front ++ next
  again : (y : List ℕ) → past_hashes n (front ++ y) ≡ Some y

hashes_find : (n : ℕ) (cs next : List ℕ) → past_hashes n cs ≡ Some next → FindsHashes n cs next
hashes_find zero cs next h = let same : cs ≡ next = cc in record { front = []; whole = same; again = λ y. refl }
hashes_find (suc n) [] next h = absurd cc
hashes_find (suc n) (c ∷ cs) next h = elim (cases_Bool (c == hash)) [
  | inl y ↦
      let step : past_hashes (suc n) (c ∷ cs) ≡ past_hashes n cs = cond-true (c == hash) _ _ y in
      let p : FindsHashes n cs next = hashes_find n cs next (sym step ∙ h) in
      record { front = c ∷ p.front; whole = ap (λ (t : List ℕ). c ∷ t) p.whole; again = λ z. cond-true (c == hash) _ _ y ∙ p.again z }
  | inr z ↦
      let step : past_hashes (suc n) (c ∷ cs) ≡ None = cond-false (c == hash) _ _ z in
      let never : None ≡ Some next = sym step ∙ h in
      absurd cc
]

-- a text with a character that is no hash
abbrev HasOther : List ℕ → Type 0
HasOther [] = ⊥
HasOther (c ∷ cs) = ((c == hash) ≡ false) ⊎ HasOther cs

other_behind : (c : ℕ) (cs : List ℕ) → (c == hash) ≡ true → HasOther (c ∷ cs) → HasOther cs
other_behind c cs y (inl n) = absurd (both_ways (c == hash) n y)
other_behind c cs y (inr o) = o

-- hashes that end too early do so whatever is behind
no_hashes : (n : ℕ) (front x y : List ℕ) → HasOther front → past_hashes n (front ++ x) ≡ None → past_hashes n (front ++ y) ≡ None
no_hashes zero front x y o h = absurd cc
no_hashes (suc n) [] x y o h = absurd o
no_hashes (suc n) (c ∷ front) x y o h = elim (cases_Bool (c == hash)) [
  | inl t ↦ cond-true (c == hash) _ _ t ∙ no_hashes n front x y (other_behind c front t o) (sym (cond-true (c == hash) (past_hashes n (front ++ x)) None t) ∙ h)
  | inr z ↦ cond-false (c == hash) _ _ z
]

-- raw strings
pub record FindsRaw (n : ℕ) (cs next : List ℕ) : Type 0 where
  pub front : List ℕ
  pub whole : cs ≡ front ++ next
  pub other : HasOther front
  pub again : (y : List ℕ) → (from : List ℕ) × (raw_end n (front ++ y) ≡ Some (record { from_quote = from; after = y }))

raw_here : (n c : ℕ) (cs : List ℕ) (e : RawEnd) (o : Option (List ℕ)) → (c == quote) ≡ true → past_hashes n cs ≡ o → end_here o (c ∷ cs) (raw_end n cs) ≡ Some e →
    (raw_end n cs ≡ Some e → FindsRaw n cs e.after) → FindsRaw n (c ∷ cs) e.after
raw_here n c cs e None q p h later =
    let r : FindsRaw n cs e.after = later h in
    record {
      front = c ∷ r.front;
      whole = ap (λ (t : List ℕ). c ∷ t) r.whole;
      other = inl (ap (λ x. x == hash) (eqb-true c quote q));
      again = λ y.
          let none : past_hashes n (r.front ++ y) ≡ None = no_hashes n r.front e.after y r.other (ap (past_hashes n) (sym r.whole) ∙ p) in
          let a = r.again y in (
            a.0,
            cond-true (c == quote) _ _ q ∙ ap (λ (x : Option (List ℕ)). end_here x (c ∷ (r.front ++ y)) (raw_end n (r.front ++ y))) none ∙ a.1,
          );
    }
raw_here n c cs e (Some after) q p h later =
    let same : after ≡ e.after = behind_same (c ∷ cs) after e h in
    let f : FindsHashes n cs e.after = hashes_find n cs e.after (p ∙ ap (λ (t : List ℕ). Some t) same) in
    record {
      front = c ∷ f.front;
      whole = ap (λ (t : List ℕ). c ∷ t) f.whole;
      other = inl (ap (λ x. x == hash) (eqb-true c quote q));
      again = λ y. (
        c ∷ (f.front ++ y),
        cond-true (c == quote) _ _ q ∙ ap (λ (x : Option (List ℕ)). end_here x (c ∷ (f.front ++ y)) (raw_end n (f.front ++ y))) (f.again y),
      );
    }
  where
    behind_same : (from after : List ℕ) (e : RawEnd) → Some (record { from_quote = from; after = after }) ≡ Some e → after ≡ e.after
    behind_same from after e h = let same : record { from_quote = from; after = after } ≡ e = cc in ap (λ (x : RawEnd). x.after) same

pub raw_finds : (n : ℕ) (cs : List ℕ) (e : RawEnd) → raw_end n cs ≡ Some e → FindsRaw n cs e.after
raw_finds n [] e h = absurd cc
raw_finds n (c ∷ cs) e h = elim (cases_Bool (c == quote)) [
  | inl q ↦
      let step : raw_end n (c ∷ cs) ≡ end_here (past_hashes n cs) (c ∷ cs) (raw_end n cs) = cond-true (c == quote) _ _ q in
      raw_here n c cs e (past_hashes n cs) q refl (sym step ∙ h) (raw_finds n cs e)
  | inr z ↦
      let step : raw_end n (c ∷ cs) ≡ raw_end n cs = cond-false (c == quote) _ _ z in
      let r : FindsRaw n cs e.after = raw_finds n cs e (sym step ∙ h) in
      record {
        front = c ∷ r.front;
        whole = ap (λ (t : List ℕ). c ∷ t) r.whole;
        other = inr r.other;
        again = λ y. let a = r.again y in (a.0, cond-false (c == quote) _ _ z ∙ a.1);
      }
]
