-- The terminals of a valid grammar but the error terminal are known to the machine, and the printed rows have its numbers.
use Rattle.std.proofs.Common.{◌≡◌, ℕ, suc, ◌+◌, Bool, true, false, List, [], ◌∷◌, ◌++◌, length, map, Option, Some, None, refl, sym, ap, ◌∙◌, arith, ◌⊎◌, inl, inr}
use Rattle.std.specs.Prelude.{◌||◌, slice_get, is_some, decimal, IsTrue, if◌then◌else◌}
use Rattle.std.specs.BTreeMap.{get}
use Rattle.std.specs.Map.{lookup}
use Rattle.std.specs.Option.{option_map_or}
use Rattle.std.proofs.lemmas.Option.{slice_get_within}
use Rattle.lp_form.specs.declared.part.Part.TheVariants as part
use Rattle.lp_repr.specs.NameOrder.{terminal_cmp}
use Rattle.lp_repr.specs.Names.{same_terminal}
use Rattle.lp_repr.specs.Numbering.{terminals_of}
use Rattle.lp_repr.specs.Shown.{pattern_text, terminal_text}
use Rattle.lp_repr.specs.declared.repr.Grammar.{Grammar}
use Rattle.lp_repr.specs.declared.repr.TerminalString.{TerminalString}
use Rattle.lp_repr.specs.declared.repr.TerminalString.TheVariants.{Quoted, Bare, Error}
use Rattle.lp_repr.specs.declared.repr.TokenPattern.{TokenPattern}
use Rattle.lp_valid.proofs.Lookups.{lookup_agree, terminal_ties}
use Rattle.lp_valid.specs.TerminalRules.{is_pattern, terminal_has_type}
use Rattle.lp_valid.specs.TerminalRules as valid
use Rattle.lp_valid.specs.ValidGrammar.{IsValidGrammar, types, error_terminal}
use Rattle.lp_tree.specs.ProgramTree.{Item}
use Rattle.lp_build.specs.Built.{row}
use Rattle.lp_table.specs.TokenLines.{integer_row, integer_rows, own_pattern}
use Rattle.lp_machine.specs.declared.lookup.KnownTerminal.{KnownTerminal}
use Rattle.lp_machine.specs.GrammarTables.{is_error, known_by, known_among}
use Rattle.std.proofs.lemmas.Bool.{and_parts}
use Rattle.lp_question_laws.proofs.Tables.Errors.{at_place, same_error, the_error}

-- the machine's terminal with this pattern
abbrev pub known_of : TerminalString → TokenPattern → KnownTerminal
known_of t p = record { name = terminal_text t; form = pattern_text p; captures = length p.holes }

-- a terminal with a pattern that is not the error terminal
pub record IsKnown (g : Grammar) (t : TerminalString) : Type 0 where
  pub pattern : TokenPattern
  pub there : get terminal_cmp g.conversions t ≡ Some pattern
  pub no_error : is_error t ≡ false
  pub shaped : is_pattern pattern ≡ true

-- the error terminal, which stands last
pub record IsEnd (t : TerminalString) (ts : List TerminalString) : Type 0 where
  pub error : is_error t ≡ true
  pub alone : ts ≡ []

-- each is known but the error terminal at their end
abbrev pub AreKnown : Grammar → List TerminalString → Type 0
AreKnown g [] = Unit {0}
AreKnown g (t ∷ ts) = (IsKnown g t × AreKnown g ts) ⊎ IsEnd t ts

-- the rows of forms, whose numbers begin with n
abbrev pub form_items : ℕ → List (List ℕ) → List Item
form_items n [] = []
form_items n (f ∷ fs) = row part.IntegerRow (f ∷ decimal n ∷ []) ∷ form_items (n + 1) fs

-- the machine doesn't know the error terminal
pub never_known : (t : TerminalString) (o : Option TokenPattern) → is_error t ≡ true → known_by t o ≡ []
never_known t None e = refl
never_known t (Some pattern) e = ap (λ (b : Bool). if b then [] else known_of t pattern ∷ []) e

-- what is found by a name
pattern_found : (g : Grammar) (t : TerminalString) (o : Option TokenPattern) → lookup (same_terminal t) g.conversions.entries ≡ o → option_map_or is_pattern o false ≡ true → (p : TokenPattern) × (get terminal_cmp g.conversions t ≡ Some p) × (is_pattern p ≡ true)
pattern_found g t None is h = absurd cc
pattern_found g t (Some p) is h = (p, lookup_agree _ (same_terminal t) (terminal_ties t) g.conversions.entries ∙ is, h)

pub or_second : (a b : Bool) → a ≡ false → (a || b) ≡ true → b ≡ true
or_second true b e h = absurd cc
or_second false b e h = h

module _ (g : Grammar) where
  -- a terminal that is not the error terminal is printed with its pattern
  own_of : (t : TerminalString) → is_error t ≡ false → own_pattern g t ≡ get terminal_cmp g.conversions t
  own_of (Quoted s) none = refl
  own_of (Bare s) none = refl
  own_of Error none = absurd cc

  -- the error terminal is printed with none
  pub no_own : (t : TerminalString) → is_error t ≡ true → own_pattern g t ≡ None
  no_own t e = ap (own_pattern g) (the_error t e)

  -- what is printed with one is not the error terminal
  pub owns : (t : TerminalString) (p : TokenPattern) → own_pattern g t ≡ Some p → is_error t ≡ false
  owns (Quoted s) p is = refl
  owns (Bare s) p is = refl
  owns Error p is = absurd cc

  is_known : (t : TerminalString) → is_error t ≡ false → IsTrue (terminal_has_type g t) → IsKnown g t
  is_known t none has =
      let both = (and_parts (is_some (lookup (same_terminal t) g.types.terminals.entries)) (valid.is_error t || option_map_or is_pattern (lookup (same_terminal t) g.conversions.entries) false) has).1 in
      let found = pattern_found g t (lookup (same_terminal t) g.conversions.entries) refl (or_second (valid.is_error t) _ (same_error t ∙ none) both) in
      record { pattern = found.0; there = found.1; no_error = none; shaped = found.2 }

  -- the error terminal's place is the last one
  abbrev Ends : List TerminalString → ℕ → TerminalString → Type 0
  Ends ts k t = is_error t ≡ true → k + 1 ≡ length ts

  all_known : (ts : List TerminalString) → ((k : ℕ) (t : TerminalString) → slice_get ts k ≡ Some t → IsTrue (terminal_has_type g t)) → ((k : ℕ) (t : TerminalString) → slice_get ts k ≡ Some t → Ends ts k t) → AreKnown g ts
  all_known [] has ends = tt
  all_known (t ∷ ts) has ends = by (is_error t) refl (all_known ts (λ k. has (suc k)) (λ k u at is. (let place = ends (suc k) u at is in omega (arith, place))))
    where
      none_behind : (us : List TerminalString) → 0 + 1 ≡ suc (length us) → us ≡ []
      none_behind [] h = refl
      none_behind (u ∷ us) h = absurd (omega arith)

      by : (b : Bool) → is_error t ≡ b → AreKnown g ts → (IsKnown g t × AreKnown g ts) ⊎ IsEnd t ts
      by false e rest = inl (is_known t e (has 0 t refl), rest)
      by true e rest = inr (record { error = e; alone = none_behind ts (ends 0 t refl e) })

  module _ (rules : IsValidGrammar g) where
    abbrev ts : List TerminalString
    ts = terminals_of g

    -- the error terminal stands last
    ends_at : (k : ℕ) (t : TerminalString) → slice_get ts k ≡ Some t → is_error t ≡ true → k + 1 ≡ length ts
    ends_at k t at e = at_place (λ t. IsTrue (valid.is_error t) → k + 1 ≡ length ts) (slice_get ts k) t at ((rules error_terminal k).0 (slice_get_within ts k t at)) (same_error t ∙ e)

    typed_at : (k : ℕ) (t : TerminalString) → slice_get ts k ≡ Some t → IsTrue (terminal_has_type g t)
    typed_at k t at = at_place (λ t. IsTrue (terminal_has_type g t)) (slice_get ts k) t at ((rules types k).0 (slice_get_within ts k t at))

    -- another terminal is known
    pub other_known : (k : ℕ) (t : TerminalString) → slice_get ts k ≡ Some t → is_error t ≡ false → IsKnown g t
    other_known k t at none = is_known t none (typed_at k t at)

    -- the terminals of a valid grammar
    pub terminals_known : AreKnown g (terminals_of g)
    terminals_known = all_known ts typed_at ends_at

  -- what is known is printed with its pattern
  pub own_there : (t : TerminalString) (k : IsKnown g t) → own_pattern g t ≡ Some k.pattern
  own_there t k = own_of t k.no_error ∙ k.there

  -- the machine's terminals, one by one
  pub known_first : (t : TerminalString) (ts : List TerminalString) (k : IsKnown g t) → known_among g (t ∷ ts) ≡ known_of t k.pattern ∷ known_among g ts
  known_first t ts k = ap (λ (o : Option TokenPattern). known_by t o ++ known_among g ts) k.there ∙ ap (λ (b : Bool). (if b then [] else known_of t k.pattern ∷ []) ++ known_among g ts) k.no_error

  pub none_known : (t : TerminalString) (ts : List TerminalString) → IsEnd t ts → known_among g (t ∷ ts) ≡ []
  none_known t ts e = ap (λ (ks : List KnownTerminal). ks ++ known_among g ts) (never_known t (get terminal_cmp g.conversions t) e.error) ∙ ap (known_among g) e.alone

  abbrev pub forms_of : List TerminalString → List (List ℕ)
  forms_of ts = map (λ (k : KnownTerminal). k.form) (known_among g ts)

  pub rows_are : (n : ℕ) (ts : List TerminalString) → AreKnown g ts → integer_rows g n ts ≡ form_items n (forms_of ts)
  rows_are n [] a = refl
  rows_are n (t ∷ ts) (inr e) =
      ap (λ (o : Option TokenPattern). integer_row n o ++ integer_rows g (n + 1) ts) (no_own t e.error)
      ∙ ap (integer_rows g (n + 1)) e.alone
      ∙ sym (ap (λ (ks : List KnownTerminal). form_items n (map (λ (k : KnownTerminal). k.form) ks)) (none_known t ts e))
  rows_are n (t ∷ ts) (inl a) =
      ap (λ (o : Option TokenPattern). integer_row n o ++ integer_rows g (n + 1) ts) (own_there t a.0)
      ∙ ap (λ (is : List Item). row part.IntegerRow (pattern_text a.0.pattern ∷ decimal n ∷ []) ∷ is) (rows_are (n + 1) ts a.1)
      ∙ sym (ap (λ (ks : List KnownTerminal). form_items n (map (λ (k : KnownTerminal). k.form) ks)) (known_first t ts a.0))
