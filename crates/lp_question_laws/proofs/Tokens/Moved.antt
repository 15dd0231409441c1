-- A piece in front of a hole is the same in front of the name that the hole is filled with.
use Rattle.std.proofs.Common.{◌≡◌, ℕ, suc, ◌<◌, ◌≤◌, ◌==◌, Bool, true, false, List, [], ◌∷◌, ◌++◌, length, Option, Some, None, ◌⊎◌, inl, inr, refl, sym, ap, subst, ◌∙◌, arith, if◌then◌else◌}
use Rattle.std.proofs.lemmas.Bool.{ne_eqb}
use Rattle.lp_tok.specs.Scans.{from_char, from_unescaped, past}
use Rattle.lp_tok.specs.Signs.{quote, apostrophe, backslash}
use Rattle.lp_texts.specs.Quotes.{Piece, Quote, Unended, Single, Nothing, goes_on, after_character, quote_piece, character_piece, apostrophe_piece, piece}
use Rattle.lp_spelling.specs.HoleEnds.{is_word}
use Rattle.lp_question_laws.proofs.Tokens.FormOf.{AllWord}

-- ---- what is left is shorter
past_short : (c : ℕ) (s a : List ℕ) → past c s ≡ Some a → length a < length s
past_short c [] a h = absurd cc
past_short c (d ∷ ds) a h = by (d == c) h
  where
    by : (b : Bool) → (if b then Some ds else None) ≡ Some a → length a < suc (length ds)
    by true e = (let same : ds ≡ a = cc in subst (λ x. length x < suc (length ds)) same (omega arith))
    by false e = absurd cc

char_short : (c : ℕ) (s : List ℕ) → length (from_char c s) ≤ length s
char_short c [] = omega arith
char_short c (d ∷ ds) = by (d == c) (char_short c ds)
  where
    by : (b : Bool) → length (from_char c ds) ≤ length ds → length (if b then (d ∷ ds) else from_char c ds) ≤ suc (length ds)
    by true h = omega arith
    by false h = omega arith

string_short : (q : ℕ) (s : List ℕ) → length (from_unescaped q s) ≤ length s
string_short q [] = omega arith
string_short q (c ∷ []) = by (c == q)
  where
    by : (b : Bool) → length (if b then (c ∷ []) else []) ≤ 1
    by true = omega arith
    by false = omega arith
string_short q (c ∷ d ∷ ds) = by (c == q) (c == backslash) (string_short q ds) (string_short q (d ∷ ds))
  where
    by : (b e : Bool) → length (from_unescaped q ds) ≤ length ds → length (from_unescaped q (d ∷ ds)) ≤ suc (length ds) → length (if b then (c ∷ d ∷ ds) else (if e then from_unescaped q ds else from_unescaped q (d ∷ ds))) ≤ suc (suc (length ds))
    by true e x y = omega arith
    by false true x y = omega arith
    by false false x y = omega arith

-- ---- two texts with one front
-- what is found before the hole is found before the name; or it is shorter than what begins with the hole
abbrev Found : List ℕ → List ℕ → Option (List ℕ) → Option (List ℕ) → Type 0
Found x y None o = Unit {0}
Found x y (Some a) o = ((u : List ℕ) × (a ≡ u ++ x) × (o ≡ Some (u ++ y))) ⊎ (length a < length x)

-- and what isn't, isn't
abbrev Exact : List ℕ → List ℕ → Option (List ℕ) → Option (List ℕ) → Type 0
Exact x y None o = o ≡ None
Exact x y (Some a) o = ((u : List ℕ) × (a ≡ u ++ x) × (o ≡ Some (u ++ y))) ⊎ (length a < length x)

abbrev pub Moved : List ℕ → List ℕ → Piece → Piece → Type 0
Moved x y (Quote a) q = ((u : List ℕ) × (a ≡ u ++ x) × (q ≡ Quote (u ++ y))) ⊎ (length a < length x)
Moved x y Unended q = Unit {0}
Moved x y (Single c a) q = (u : List ℕ) × (a ≡ u ++ x) × (q ≡ Single c (u ++ y))
Moved x y Nothing q = Unit {0}

found_by : (x y : List ℕ) (o p : Option (List ℕ)) → Exact x y o p → Found x y o p
found_by x y None p h = tt
found_by x y (Some a) p h = h

found_short : (x y : List ℕ) (o p : Option (List ℕ)) → ((a : List ℕ) → o ≡ Some a → length a < length x) → Found x y o p
found_short x y None p h = tt
found_short x y (Some a) p h = inr (h a refl)

past_exact : (x y : List ℕ) (c d : ℕ) (ds : List ℕ) → Exact x y (past c (d ∷ (ds ++ x))) (past c (d ∷ (ds ++ y)))
past_exact x y c d ds = by (d == c)
  where
    by : (b : Bool) → Exact x y (if b then Some (ds ++ x) else None) (if b then Some (ds ++ y) else None)
    by true = inl (ds, refl, refl)
    by false = refl

char_found : (x y : List ℕ) (c : ℕ) (cs : List ℕ) → Found x y (past c (from_char c (cs ++ x))) (past c (from_char c (cs ++ y)))
char_found x y c [] = found_short x y (past c (from_char c x)) (past c (from_char c y)) (λ a e. (let s = past_short c (from_char c x) a e in let t = char_short c x in omega arith))
char_found x y c (d ∷ cs) = by (d == c) (char_found x y c cs)
  where
    by : (b : Bool) → Found x y (past c (from_char c (cs ++ x))) (past c (from_char c (cs ++ y))) → Found x y (past c (if b then (d ∷ (cs ++ x)) else from_char c (cs ++ x))) (past c (if b then (d ∷ (cs ++ y)) else from_char c (cs ++ y)))
    by true ih = found_by x y (past c (d ∷ (cs ++ x))) (past c (d ∷ (cs ++ y))) (past_exact x y c d cs)
    by false ih = ih

module _ (j : ℕ) (js : List ℕ) (n : ℕ) (ns : List ℕ) where
  abbrev x : List ℕ
  x = j ∷ js

  abbrev y : List ℕ
  y = n ∷ ns

  string_lost : (q : ℕ) (s : List ℕ) (o : Option (List ℕ)) → length s ≤ length x → Found x y (past q (from_unescaped q s)) o
  string_lost q s o le = found_short x y (past q (from_unescaped q s)) o (λ a e. (let s' = past_short q (from_unescaped q s) a e in let t = string_short q s in omega arith))

  string_found : (q : ℕ) (cs : List ℕ) → Found x y (past q (from_unescaped q (cs ++ x))) (past q (from_unescaped q (cs ++ y)))
  string_found q [] = string_lost q x (past q (from_unescaped q y)) (omega arith)
  string_found q (c ∷ []) = by (c == q) (c == backslash)
    where
      by : (b e : Bool) → Found x y (past q (if b then (c ∷ x) else (if e then from_unescaped q js else from_unescaped q x))) (past q (if b then (c ∷ y) else (if e then from_unescaped q ns else from_unescaped q y)))
      by true e = found_by x y (past q (c ∷ x)) (past q (c ∷ y)) (past_exact x y q c [])
      by false true = string_lost q js (past q (from_unescaped q ns)) (omega arith)
      by false false = string_lost q x (past q (from_unescaped q y)) (omega arith)
  string_found q (c ∷ d ∷ cs) = by (c == q) (c == backslash) (string_found q cs) (string_found q (d ∷ cs))
    where
      by : (b e : Bool) → Found x y (past q (from_unescaped q (cs ++ x))) (past q (from_unescaped q (cs ++ y))) → Found x y (past q (from_unescaped q (d ∷ (cs ++ x)))) (past q (from_unescaped q (d ∷ (cs ++ y))))
          → Found x y (past q (if b then (c ∷ d ∷ (cs ++ x)) else (if e then from_unescaped q (cs ++ x) else from_unescaped q (d ∷ (cs ++ x))))) (past q (if b then (c ∷ d ∷ (cs ++ y)) else (if e then from_unescaped q (cs ++ y) else from_unescaped q (d ∷ (cs ++ y)))))
      by true e f h = found_by x y (past q (c ∷ d ∷ (cs ++ x))) (past q (c ∷ d ∷ (cs ++ y))) (past_exact x y q c (d ∷ cs))
      by false true f h = f
      by false false f h = h

  -- no quoted character ends with the front of a word
  module _ (goes : goes_on j ≡ false) (other : (j == apostrophe) ≡ false) (word : past apostrophe (after_character y) ≡ None) where
    character_exact : (cs : List ℕ) → Exact x y (past apostrophe (after_character (cs ++ x))) (past apostrophe (after_character (cs ++ y)))
    character_exact [] =
        subst (λ o. Exact x y o (past apostrophe (after_character y))) (sym (ap (λ b. past apostrophe (if b then after_character js else x)) goes ∙ ap (λ b. if b then Some js else None) other)) word
    character_exact (d ∷ ds) = by (goes_on d) (character_exact ds)
      where
        by : (b : Bool) → Exact x y (past apostrophe (after_character (ds ++ x))) (past apostrophe (after_character (ds ++ y))) → Exact x y (past apostrophe (if b then after_character (ds ++ x) else (d ∷ (ds ++ x)))) (past apostrophe (if b then after_character (ds ++ y) else (d ∷ (ds ++ y))))
        by true ih = ih
        by false ih = past_exact x y apostrophe d ds

    quoted : (o p : Option (List ℕ)) → Found x y o p → Moved x y (quote_piece o) (quote_piece p)
    quoted None p f = tt
    quoted (Some a) p (inl f) = inl (f.0, f.1, ap quote_piece f.2)
    quoted (Some a) p (inr f) = inr f

    spelled : (cs : List ℕ) (o p : Option (List ℕ)) → Exact x y o p → Moved x y (character_piece (cs ++ x) o) (character_piece (cs ++ y) p)
    spelled cs None p e = (cs, refl, ap (character_piece (cs ++ y)) e)
    spelled cs (Some a) p (inl f) = inl (f.0, f.1, ap (character_piece (cs ++ y)) f.2)
    spelled cs (Some a) p (inr f) = inr f

    -- behind a `'` neither text begins with `\`, where the character's end is one of the same kind
    module _ (no_escape : (j == backslash) ≡ false) (no_escape_there : (n == backslash) ≡ false) (later : past apostrophe (after_character ns) ≡ None) where
      apostrophe_end : (o : Option (List ℕ)) → ((a : List ℕ) → o ≡ Some a → length a < length x) → Moved x y (character_piece x o) (character_piece y None)
      apostrophe_end None short = ([], refl, refl)
      apostrophe_end (Some a) short = inr (short a refl)

      character_short : (s : List ℕ) → length (after_character s) ≤ length s
      character_short [] = omega arith
      character_short (d ∷ ds) = by (goes_on d) (character_short ds)
        where
          by : (b : Bool) → length (after_character ds) ≤ length ds → length (if b then after_character ds else (d ∷ ds)) ≤ suc (length ds)
          by true h = omega arith
          by false h = omega arith

      apostrophe_moved : (cs : List ℕ) → Moved x y (apostrophe_piece (cs ++ x)) (apostrophe_piece (cs ++ y))
      apostrophe_moved [] =
          subst (λ (p : Piece). Moved x y p (apostrophe_piece y)) (sym (ap (λ b. if b then quote_piece (past apostrophe (from_char apostrophe js)) else character_piece x (past apostrophe (after_character js))) no_escape))
          (subst (λ (p : Piece). Moved x y (character_piece x (past apostrophe (after_character js))) p)
          (sym (ap (λ b. if b then quote_piece (past apostrophe (from_char apostrophe ns)) else character_piece y (past apostrophe (after_character ns))) no_escape_there ∙ ap (character_piece y) later))
          (apostrophe_end (past apostrophe (after_character js)) (λ a e. (let s = past_short apostrophe (after_character js) a e in let t = character_short js in omega arith))))
      apostrophe_moved (c ∷ cs) = by (c == backslash)
        where
          by : (b : Bool) → Moved x y (if b then quote_piece (past apostrophe (from_char apostrophe (cs ++ x))) else character_piece (c ∷ (cs ++ x)) (past apostrophe (after_character (cs ++ x))))
              (if b then quote_piece (past apostrophe (from_char apostrophe (cs ++ y))) else character_piece (c ∷ (cs ++ y)) (past apostrophe (after_character (cs ++ y))))
          by true = quoted (past apostrophe (from_char apostrophe (cs ++ x))) (past apostrophe (from_char apostrophe (cs ++ y))) (char_found x y apostrophe cs)
          by false = spelled (c ∷ cs) (past apostrophe (after_character (cs ++ x))) (past apostrophe (after_character (cs ++ y))) (character_exact cs)

      -- the first piece of a text that has bytes before the hole
      pub piece_moved : (c : ℕ) (cs : List ℕ) → Moved x y (piece (c ∷ (cs ++ x))) (piece (c ∷ (cs ++ y)))
      piece_moved c cs = by (c == quote) (c == apostrophe)
        where
          by : (b e : Bool) → Moved x y (if b then quote_piece (past quote (from_unescaped quote (cs ++ x))) else (if e then apostrophe_piece (cs ++ x) else Single c (cs ++ x)))
              (if b then quote_piece (past quote (from_unescaped quote (cs ++ y))) else (if e then apostrophe_piece (cs ++ y) else Single c (cs ++ y)))
          by true e = quoted (past quote (from_unescaped quote (cs ++ x))) (past quote (from_unescaped quote (cs ++ y))) (string_found quote cs)
          by false true = apostrophe_moved cs
          by false false = (cs, refl, refl)

-- ---- in front of a word
pub word_not : (c d : ℕ) → is_word c ≡ true → is_word d ≡ false → (c == d) ≡ false
word_not c d w out = ne_eqb c d (λ same. (let bad : true ≡ false = sym w ∙ ap (λ k. is_word k) same ∙ out in cc))

-- a character that begins in a word with a letter in it ends before no `'`
pub word_ends : (w : List ℕ) (rest : List ℕ) → AllWord w → past apostrophe (after_character (w ++ 116 ∷ rest)) ≡ None
word_ends [] rest a = refl
word_ends (c ∷ cs) rest a = by (goes_on c) (word_ends cs rest a.1)
  where
    by : (b : Bool) → past apostrophe (after_character (cs ++ 116 ∷ rest)) ≡ None → past apostrophe (if b then after_character (cs ++ 116 ∷ rest) else (c ∷ (cs ++ 116 ∷ rest))) ≡ None
    by true ih = ih
    by false ih = ap (λ b. if b then Some (cs ++ 116 ∷ rest) else None) (word_not c apostrophe a.0 refl)
