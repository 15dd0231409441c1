-- A reduction's line looks for the tokens of its arm: their patterns, by terminal, have these terminals' forms.
use Rattle.std.proofs.Common.{◌≡◌, ℕ, zero, suc, ◌+◌, ◌<◌, Bool, true, false, ◌&&◌, ◌||◌, ◌==◌, List, [], ◌∷◌, ◌++◌, length, map, Option, Some, None, slice_get, refl, sym, ap, ◌∙◌, arith}
use Rattle.std.specs.Prelude.{if◌then◌else◌}
use Rattle.std.specs.BTreeMap.{get}
use Rattle.std.specs.List.{flat_map, list_any}
use Rattle.std.specs.Str.{bytes_eq}
use Rattle.std.proofs.lemmas.List.Concat.{flat_map-cons}
use Rattle.std.proofs.lemmas.List.Folds.{list_any-append}
use Rattle.std.proofs.lemmas.Bool.Decides.{nat_tests}
use Rattle.std.proofs.lemmas.Option.{slice_get_within}
use Rattle.lp_repr.specs.NameOrder.{terminal_cmp}
use Rattle.lp_repr.specs.Numbering.{terminals_of}
use Rattle.lp_repr.specs.Shown.{pattern_text}
use Rattle.lp_repr.specs.declared.lr1.Token.{Token}
use Rattle.lp_repr.specs.declared.lr1.Token.TheVariants.{Terminal, Eof}
use Rattle.lp_repr.specs.declared.repr.Grammar.{Grammar}
use Rattle.lp_repr.specs.declared.repr.TerminalString.{TerminalString}
use Rattle.lp_repr.specs.declared.repr.TokenPattern.{TokenPattern}
use Rattle.lp_driver.specs.Values as values
use Rattle.lp_machine.specs.declared.lookup.KnownTerminal.{KnownTerminal}
use Rattle.lp_maker.specs.Patterns.{form_of}
use Rattle.lp_parts.specs.Entries.{is_eof, is_terminal}
use Rattle.lp_ascent.specs.ReduceLines.{pattern_if, token_pattern, terminal_patterns, patterns_from, token_patterns, ends}
use Rattle.lp_back_end_laws.specs.Call.Arms.{is_seen, has_form}
use Rattle.lp_back_end_laws.specs.Call.Cases.{is_sought}
use Rattle.lp_back_end_laws.proofs.Call.SoughtLines.{pattern_sought, end_sought}

-- the printed pattern of a terminal is read as its form
pub record IsReadAs (g : Grammar) (terminals : List KnownTerminal) (n : ℕ) (t : TerminalString) : Type 0 where
  pub pattern : TokenPattern
  pub there : get terminal_cmp g.conversions t ≡ Some pattern
  pub known : KnownTerminal
  pub at : slice_get terminals n ≡ Some known
  pub listed : form_of g.prefix (pattern_text pattern) ≡ known.form

-- those of all terminals, from a number on
abbrev pub AreReadAs : Grammar → List KnownTerminal → ℕ → List TerminalString → Type 0
AreReadAs g terminals n [] = Unit {0}
AreReadAs g terminals n (t ∷ ts) = IsReadAs g terminals n t × AreReadAs g terminals (n + 1) ts

-- a token is one of these terminals, whose numbers begin with n
abbrev is_among : ℕ → List TerminalString → Token → Bool
is_among n [] token = false
is_among n (t ∷ ts) token = is_terminal n token || is_among (n + 1) ts token

-- ---- tests of lists
any_both : {X : Type 0} (a b : X → Bool) (xs : List X) → list_any (λ x. a x || b x) xs ≡ (list_any a xs || list_any b xs)
any_both a b [] = refl
any_both a b (x ∷ xs) = ap (λ c. (a x || b x) || c) (any_both a b xs) ∙ four (a x) (b x) (list_any a xs) (list_any b xs)
  where
    four : (p q r s : Bool) → ((p || q) || (r || s)) ≡ ((p || r) || (q || s))
    four true q r s = refl
    four false true true s = refl
    four false true false s = refl
    four false false r s = refl

any_same : {X : Type 0} (a b : X → Bool) (xs : List X) → ((x : X) → a x ≡ b x) → list_any a xs ≡ list_any b xs
any_same a b [] h = refl
any_same a b (x ∷ xs) h = ap (λ c. c || list_any a xs) (h x) ∙ ap (λ c. b x || c) (any_same a b xs h)

any_none : {X : Type 0} (a : X → Bool) (xs : List X) → ((x : X) → a x ≡ false) → list_any a xs ≡ false
any_none a [] h = refl
any_none a (x ∷ xs) h = ap (λ c. c || list_any a xs) (h x) ∙ any_none a xs h

any_mapped : {X Y : Type 0} (f : X → Y) (a : Y → Bool) (xs : List X) → list_any a (map f xs) ≡ list_any (λ x. a (f x)) xs
any_mapped f a [] = refl
any_mapped f a (x ∷ xs) = ap (λ c. a (f x) || c) (any_mapped f a xs)

any_flat : {X Y : Type 0} (f : X → List Y) (a : Y → Bool) (xs : List X) → list_any a (flat_map f xs) ≡ list_any (λ x. list_any a (f x)) xs
any_flat f a [] = refl
any_flat f a (x ∷ xs) = ap (list_any a) (flat_map-cons f x xs) ∙ list_any-append a (f x) (flat_map f xs) ∙ ap (λ c. list_any a (f x) || c) (any_flat f a xs)

or_none : (b : Bool) → (b || false) ≡ b
or_none true = refl
or_none false = refl

-- ---- the patterns of tokens
-- a test of patterns, and one of tokens that agrees with it
module _ (g : Grammar) (terminals : List KnownTerminal) (a : List ℕ → Bool) (b : Token → Bool) (agree : (n : ℕ) (t : TerminalString) (h : IsReadAs g terminals n t) → a (pattern_text h.pattern) ≡ b (Terminal n)) where
  one_token : (n : ℕ) (t : TerminalString) → IsReadAs g terminals n t → (token : Token) → list_any a (token_pattern n (get terminal_cmp g.conversions t) token) ≡ (is_terminal n token && b token)
  one_token n t h Eof = refl
  one_token n t h (Terminal m) = by (n == m) refl
    where
      by : (c : Bool) → (n == m) ≡ c → list_any a (if c then pattern_if (get terminal_cmp g.conversions t) else []) ≡ (c && b (Terminal m))
      by false e = refl
      by true e =
          let same : n ≡ m = grind (arith, nat_tests) in
          ap (λ o. list_any a (pattern_if o)) h.there ∙ or_none (a (pattern_text h.pattern)) ∙ agree n t h ∙ ap (λ k. b (Terminal k)) same

  from_tokens : (tokens : List Token) (n : ℕ) (ts : List TerminalString) → AreReadAs g terminals n ts → list_any a (patterns_from g tokens n ts) ≡ list_any (λ token. is_among n ts token && b token) tokens
  from_tokens tokens n [] h = sym (any_none (λ token. false && b token) tokens (λ token. refl))
  from_tokens tokens n (t ∷ ts) h =
      list_any-append a (terminal_patterns g tokens n t) (patterns_from g tokens (n + 1) ts)
      ∙ ap (λ c. c || list_any a (patterns_from g tokens (n + 1) ts)) (any_flat (token_pattern n (get terminal_cmp g.conversions t)) a tokens ∙ any_same (λ token. list_any a (token_pattern n (get terminal_cmp g.conversions t) token)) (λ token. is_terminal n token && b token) tokens (one_token n t h.0))
      ∙ ap (λ c. list_any (λ token. is_terminal n token && b token) tokens || c) (from_tokens tokens (n + 1) ts h.1)
      ∙ sym (any_both (λ token. is_terminal n token && b token) (λ token. is_among (n + 1) ts token && b token) tokens)
      ∙ any_same (λ token. (is_terminal n token && b token) || (is_among (n + 1) ts token && b token)) (λ token. (is_terminal n token || is_among (n + 1) ts token) && b token) tokens (λ token. parted (is_terminal n token) (is_among (n + 1) ts token) (b token))
    where
      parted : (p q r : Bool) → ((p && r) || (q && r)) ≡ ((p || q) && r)
      parted true true true = refl
      parted true true false = refl
      parted true false true = refl
      parted true false false = refl
      parted false q r = refl

-- a number in range is that of one of them
found_among : (n m : ℕ) (ts : List TerminalString) → n + m < n + length ts → is_among n ts (Terminal (n + m)) ≡ true
found_among n m [] l = absurd (omega arith)
found_among n zero (t ∷ ts) l = (let same : (n == n + 0) ≡ true = grind (arith, nat_tests) in ap (λ c. c || is_among (n + 1) ts (Terminal (n + 0))) same)
found_among n (suc m) (t ∷ ts) l =
    let other : (n == n + suc m) ≡ false = grind (arith, nat_tests) in
    let next : (n + 1) + m ≡ n + suc m = omega arith in
    ap (λ c. c || is_among (n + 1) ts (Terminal (n + suc m))) other ∙ ap (λ k. is_among (n + 1) ts (Terminal k)) (sym next) ∙ found_among (n + 1) m ts (omega arith)

-- ---- on a token
module _ (g : Grammar) (terminals : List KnownTerminal) (x : values.Token) where
  abbrev is_pattern : List ℕ → Bool
  is_pattern pattern = bytes_eq (form_of g.prefix pattern) x.form

  abbrev seen : Token → Bool
  seen token = is_seen terminals (Some x) token

  seen_so : (n : ℕ) (t : TerminalString) (h : IsReadAs g terminals n t) → is_pattern (pattern_text h.pattern) ≡ seen (Terminal n)
  seen_so n t h = ap (λ form. bytes_eq form x.form) h.listed ∙ sym (ap (λ o. has_form o x) h.at)

  -- where all known terminals are these
  all_among : (ts : List TerminalString) → length terminals ≡ length ts → (token : Token) → (is_among 0 ts token && seen token) ≡ seen token
  all_among ts long Eof = none (is_among 0 ts Eof)
    where
      none : (b : Bool) → (b && false) ≡ false
      none true = refl
      none false = refl
  all_among ts long (Terminal m) = by (slice_get terminals m) refl
    where
      none : (b : Bool) → (b && false) ≡ false
      none true = refl
      none false = refl

      by : (o : Option KnownTerminal) → slice_get terminals m ≡ o → (is_among 0 ts (Terminal m) && has_form o x) ≡ has_form o x
      by None at = none (is_among 0 ts (Terminal m))
      by (Some k) at =
          let within : m < length terminals = slice_get_within terminals m k at in
          let zero_m : 0 + m ≡ m = omega arith in
          ap (λ b. b && has_form (Some k) x) (ap (λ j. is_among 0 ts (Terminal j)) (sym zero_m) ∙ found_among 0 m ts (omega (arith, within, long)))

  -- a token's patterns, and no end
  pub token_sought : (tokens : List Token) → AreReadAs g terminals 0 (terminals_of g) → length terminals ≡ length (terminals_of g) → list_any (is_sought (Some x)) (map (pattern_sought g.prefix) (token_patterns g tokens) ++ end_sought (ends tokens)) ≡ list_any seen tokens
  unfolding token_patterns
  token_sought tokens h long =
      list_any-append (is_sought (Some x)) (map (pattern_sought g.prefix) (patterns_from g tokens 0 (terminals_of g))) (end_sought (ends tokens))
      ∙ ap (λ c. list_any (is_sought (Some x)) (map (pattern_sought g.prefix) (patterns_from g tokens 0 (terminals_of g))) || c) (no_end (ends tokens))
      ∙ or_none (list_any (is_sought (Some x)) (map (pattern_sought g.prefix) (patterns_from g tokens 0 (terminals_of g))))
      ∙ any_mapped (pattern_sought g.prefix) (is_sought (Some x)) (patterns_from g tokens 0 (terminals_of g))
      ∙ from_tokens g terminals is_pattern seen seen_so tokens 0 (terminals_of g) h
      ∙ any_same (λ token. is_among 0 (terminals_of g) token && seen token) seen tokens (all_among (terminals_of g) long)
    where
      no_end : (b : Bool) → list_any (is_sought (Some x)) (end_sought b) ≡ false
      no_end true = refl
      no_end false = refl

-- ---- at the end
pub end_is_sought : (prefix : List ℕ) (terminals : List KnownTerminal) (patterns : List (List ℕ)) (tokens : List Token) → list_any (is_sought None) (map (pattern_sought prefix) patterns ++ end_sought (ends tokens)) ≡ list_any (is_seen terminals None) tokens
end_is_sought prefix terminals patterns tokens =
    list_any-append (is_sought None) (map (pattern_sought prefix) patterns) (end_sought (ends tokens))
    ∙ ap (λ c. c || list_any (is_sought None) (end_sought (ends tokens))) (any_mapped (pattern_sought prefix) (is_sought None) patterns ∙ any_none (λ pattern. is_sought None (pattern_sought prefix pattern)) patterns (λ pattern. refl))
    ∙ by (ends tokens)
    ∙ any_same is_eof (is_seen terminals None) tokens eof_seen
  where
    by : (b : Bool) → list_any (is_sought None) (end_sought b) ≡ b
    by true = refl
    by false = refl

    eof_seen : (t : Token) → is_eof t ≡ is_seen terminals None t
    eof_seen (Terminal n) = refl
    eof_seen Eof = refl

-- ---- where the end isn't among them, there is a pattern
pub some_patterns : (g : Grammar) (terminals : List KnownTerminal) (tokens : List Token) → AreReadAs g terminals 0 (terminals_of g) → 0 < length tokens → ((i m : ℕ) → slice_get tokens i ≡ Some (Terminal m) → m < length (terminals_of g)) → ends tokens ≡ false → 0 < length (token_patterns g tokens)
unfolding token_patterns
some_patterns g terminals [] h some range none = absurd (omega arith)
some_patterns g terminals (Eof ∷ tokens) h some range none = absurd cc
some_patterns g terminals (Terminal m ∷ tokens) h some range none =
    let zero_m : 0 + m ≡ m = omega arith in
    let inside : m < length (terminals_of g) = range 0 m refl in
    let among : is_among 0 (terminals_of g) (Terminal m) ≡ true = ap (λ j. is_among 0 (terminals_of g) (Terminal j)) (sym zero_m) ∙ found_among 0 m (terminals_of g) (omega (arith, inside)) in
    filled (patterns_from g (Terminal m ∷ tokens) 0 (terminals_of g))
    (from_tokens g terminals (λ _. true) (λ _. true) (λ n t r. refl) (Terminal m ∷ tokens) 0 (terminals_of g) h ∙ ap (λ c. (c && true) || list_any (λ token. is_among 0 (terminals_of g) token && true) tokens) among)
  where
    filled : (xs : List (List ℕ)) → list_any (λ _. true) xs ≡ true → 0 < length xs
    filled [] e = absurd cc
    filled (x ∷ xs) e = omega arith
