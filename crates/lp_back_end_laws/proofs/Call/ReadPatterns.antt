-- The patterns of a grammar's terminals, as its lines print them, are read as the forms that the machine knows.
use Rattle.std.proofs.Common.{◌≡◌, ℕ, zero, suc, ◌+◌, ◌<◌, ◌==◌, Bool, true, false, List, [], ◌∷◌, ◌++◌, length, codes, Some, slice_get, refl, ap, subst, ◌∙◌, arith, length-append, inl, inr}
use Rattle.std.specs.Prelude.{if◌then◌else◌}
use Rattle.std.proofs.lemmas.Bool.Decides.{nat_tests}
use Rattle.lp_repr.specs.Numbering.{terminals_of}
use Rattle.lp_repr.specs.Shown.{pattern_text}
use Rattle.lp_repr.specs.declared.lr1.Lr1State.{Lr1State}
use Rattle.lp_repr.specs.declared.repr.Grammar.{Grammar}
use Rattle.lp_repr.specs.declared.repr.TerminalString.{TerminalString}
use Rattle.lp_repr.specs.declared.repr.TokenPattern.{TokenPattern}
use Rattle.lp_maker.specs.Patterns.{form_of, form_around, form_within}
use Rattle.lp_machine.specs.GrammarTables.{is_error, known_among}
use Rattle.lp_machine.specs.declared.lookup.KnownTerminal.{KnownTerminal}
use Rattle.lp_table.specs.TokenLines.{named_pattern}
use Rattle.lp_ascent.specs.ShiftLines.{shifted_pattern}
use Rattle.lp_question_laws.specs.Tokens.Told.{StandsNowhere, IsTold}
use Rattle.lp_question_laws.proofs.Tokens.FormOf.{AllWord, cut_nowhere, form_named}
use Rattle.lp_question_laws.proofs.Tokens.Known.{AreKnown, IsKnown, known_of, known_first}
use Rattle.lp_back_end_laws.specs.Call.Shifted.{IsShifted}
use Rattle.lp_back_end_laws.proofs.Call.SoughtTokens.{IsReadAs, AreReadAs}

-- no capture's name stands in a pattern's text, and its holes are told where it is shifted
pub record IsLegible (g : Grammar) (states : List Lr1State) (n : ℕ) (p : TokenPattern) : Type 0 where
  pub apart : StandsNowhere (g.prefix ++ codes "tok") (pattern_text p)
  pub told : IsShifted states n → 0 < length p.holes → IsTold g.prefix p

-- a text without names of captures is its own form
pub form_unnamed : (prefix s : List ℕ) → StandsNowhere (prefix ++ codes "tok") s → form_of prefix s ≡ s
form_unnamed prefix s h = within (length s)
  where
    some : 0 < length (prefix ++ codes "tok")
    some = omega (arith, length-append prefix (codes "tok"))

    within : (n : ℕ) → form_within n (prefix ++ codes "tok") s ≡ s
    within zero = refl
    within (suc n) = ap (form_around (λ t. form_within n (prefix ++ codes "tok") t) s) (cut_nowhere (prefix ++ codes "tok") s some h)

-- so is that of a shift
pub form_shifted : (g : Grammar) (p : TokenPattern) → AllWord g.prefix → StandsNowhere (g.prefix ++ codes "tok") (pattern_text p) → (0 < length p.holes → IsTold g.prefix p) → form_of g.prefix (shifted_pattern g.prefix p) ≡ pattern_text p
form_shifted g p w apart holes = by (length p.holes == 0) refl
  where
    by : (b : Bool) → (length p.holes == 0) ≡ b → form_of g.prefix (if b then pattern_text p else named_pattern g.prefix p) ≡ pattern_text p
    by true e = form_unnamed g.prefix (pattern_text p) apart
    by false e =
        let some : 0 < length p.holes = grind (arith, nat_tests) in
        let told = holes some in
        let counted = told.counted in
        let few = told.few in
        form_named g.prefix p.pieces w (omega arith) told.apart

module _ (g : Grammar) (states : List Lr1State) (w : AllWord g.prefix) where
  -- a terminal whose pattern is legible
  abbrev pub IsPlain : ℕ → TerminalString → Type 0
  IsPlain n t = (is_error t ≡ false) × ((k : IsKnown g t) → IsLegible g states n k.pattern)

  read_as : (terminals : List KnownTerminal) (n : ℕ) (t : TerminalString) (k : IsKnown g t) → IsLegible g states n k.pattern → slice_get terminals n ≡ Some (known_of t k.pattern) → IsReadAs g terminals n t
  read_as terminals n t k h at = record {
    pattern = k.pattern;
    there = k.there;
    known = known_of t k.pattern;
    at = at;
    listed = form_unnamed g.prefix (pattern_text k.pattern) h.apart;
  }

  -- terminals from a number on
  abbrev ArePlainFrom : ℕ → List TerminalString → Type 0
  ArePlainFrom n ts = (j : ℕ) (t : TerminalString) → slice_get ts j ≡ Some t → IsPlain (n + j) t

  first_plain : (n : ℕ) (t : TerminalString) (ts : List TerminalString) → ArePlainFrom n (t ∷ ts) → IsPlain n t
  first_plain n t ts plain = (let none : n + 0 ≡ n = omega arith in subst (λ k. IsPlain k t) none (plain 0 t refl))

  rest_plain : (n : ℕ) (t : TerminalString) (ts : List TerminalString) → ArePlainFrom n (t ∷ ts) → ArePlainFrom (n + 1) ts
  rest_plain n t ts plain j u at = (let next : n + suc j ≡ (n + 1) + j = omega arith in subst (λ k. IsPlain k u) next (plain (suc j) u at))

  read_from : (terminals : List KnownTerminal) (n : ℕ) (ts : List TerminalString) → AreKnown g ts → ArePlainFrom n ts → ((j : ℕ) (k : KnownTerminal) → slice_get (known_among g ts) j ≡ Some k → slice_get terminals (n + j) ≡ Some k) → AreReadAs g terminals n ts
  read_from terminals n [] known plain h = tt
  read_from terminals n (t ∷ ts) (inr e) plain h = (let is = e.error in let no = (first_plain n t ts plain).0 in absurd cc)
  read_from terminals n (t ∷ ts) (inl a) plain h =
      let none : n ≡ n + 0 = omega arith in
      let first = known_first g t ts a.0 in (
        read_as terminals n t a.0 ((first_plain n t ts plain).1 a.0) (ap (slice_get terminals) none ∙ h 0 (known_of t a.0.pattern) (ap (λ (ks : List KnownTerminal). slice_get ks 0) first)),
        read_from terminals (n + 1) ts a.1 (rest_plain n t ts plain) (λ j k at. (let next : (n + 1) + j ≡ n + suc j = omega arith in ap (slice_get terminals) next ∙ h (suc j) k (ap (λ (ks : List KnownTerminal). slice_get ks (suc j)) first ∙ at))),
      )

  from_none : ((n : ℕ) (t : TerminalString) → slice_get (terminals_of g) n ≡ Some t → IsPlain n t) → ArePlainFrom 0 (terminals_of g)
  from_none plain j t at = (let none : j ≡ 0 + j = omega arith in subst (λ k. IsPlain k t) none (plain j t at))

  -- the machine's terminals, where none is the error terminal
  pub terminals_read : AreKnown g (terminals_of g) → ((n : ℕ) (t : TerminalString) → slice_get (terminals_of g) n ≡ Some t → IsPlain n t) → AreReadAs g (known_among g (terminals_of g)) 0 (terminals_of g)
  terminals_read known plain = read_from (known_among g (terminals_of g)) 0 (terminals_of g) known (from_none plain) (λ j k at. (let none : 0 + j ≡ j = omega arith in ap (slice_get (known_among g (terminals_of g))) none ∙ at))

  as_many : (n : ℕ) (ts : List TerminalString) → AreKnown g ts → ArePlainFrom n ts → length (known_among g ts) ≡ length ts
  as_many n [] known plain = refl
  as_many n (t ∷ ts) (inr e) plain = (let is = e.error in let no = (first_plain n t ts plain).0 in absurd cc)
  as_many n (t ∷ ts) (inl a) plain = ap length (known_first g t ts a.0) ∙ ap suc (as_many (n + 1) ts a.1 (rest_plain n t ts plain))

  pub terminals_many : AreKnown g (terminals_of g) → ((n : ℕ) (t : TerminalString) → slice_get (terminals_of g) n ≡ Some t → IsPlain n t) → length (known_among g (terminals_of g)) ≡ length (terminals_of g)
  terminals_many known plain = as_many 0 (terminals_of g) known (from_none plain)
