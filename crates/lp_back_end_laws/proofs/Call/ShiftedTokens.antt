-- A shift's printed line: its token is the machine's terminal, and what it takes of it is the machine's value.
use Rattle.std.proofs.Common.{◌≡◌, ℕ, zero, suc, ◌+◌, ◌<◌, ◌^◌, ◌==◌, Bool, true, false, List, [], ◌∷◌, ◌++◌, length, length-append, codes, decimal, Option, Some, None, slice_get, refl, sym, ap, ◌∙◌, subst, arith, inl, inr, if◌then◌else◌}
use Rattle.std.proofs.lemmas.Bool.{ne_eqb}
use Rattle.std.proofs.lemmas.Option.{none-some, same_Some}
use Rattle.lp_repr.specs.Numbering.{terminals_of}
use Rattle.lp_repr.specs.Shown.{pattern_text}
use Rattle.lp_repr.specs.declared.lr1.Lr1State.{Lr1State}
use Rattle.lp_repr.specs.declared.repr.Grammar.{Grammar}
use Rattle.lp_repr.specs.declared.repr.TerminalString.{TerminalString}
use Rattle.lp_repr.specs.declared.repr.TokenPattern.{TokenPattern}
use Rattle.lp_driver.specs.Values.{Token}
use Rattle.lp_machine.specs.GrammarTables.{known_among}
use Rattle.lp_machine.specs.Lookup.{value_with}
use Rattle.lp_machine.specs.TablesView.{value_by}
use Rattle.lp_machine.specs.declared.lookup.KnownTerminal.{KnownTerminal}
use Rattle.lp_form.specs.declared.part.Part.TheVariants as part
use Rattle.lp_tree.specs.ProgramTree.{Item}
use Rattle.lp_build.specs.Ascent.{shift_holes, shift_part}
use Rattle.lp_build.specs.Built.{over}
use Rattle.lp_view.specs.PartLists.{Form, is_a, hole_of, parts_of}
use Rattle.lp_maker.specs.Texts.{pieces}
use Rattle.lp_bodies.specs.Tables.{captured}
use Rattle.lp_question_laws.proofs.Gotos.Cuts.{Apart, pieces_joined}
use Rattle.lp_question_laws.proofs.Gotos.Digits.{Lacks, decimal_lacks}
use Rattle.lp_question_laws.proofs.Gotos.GotoCode.{lacks-append}
use Rattle.lp_question_laws.proofs.Gotos.LinkHeaders.{lacks_by}
use Rattle.lp_question_laws.proofs.Gotos.Whole.{IsWhole}
use Rattle.lp_table.specs.TokenLines.{capture_name, capture_names, named_pattern}
use Rattle.lp_ascent.specs.ShiftLines.{pattern_for, pattern_at}
use Rattle.lp_ascent.specs.ShiftLines as lines
use Rattle.lp_ascent_bodies.specs.AscentStates.{is_shift}
use Rattle.lp_question_laws.specs.Tokens.Told.{IsTold}
use Rattle.lp_question_laws.proofs.Tokens.Captures.{word_lacks, names_from, captures_read}
use Rattle.lp_question_laws.proofs.Tokens.FormOf.{AllWord}
use Rattle.lp_question_laws.proofs.Tokens.Known.{AreKnown, IsKnown, known_of, known_first, none_known, own_there}
use Rattle.lp_question_laws.proofs.Tokens.Members.{captured_read, value_code}
use Rattle.lp_back_end_laws.specs.Call.Shifted.{AreShiftsTold, IsShifted}
use Rattle.lp_back_end_laws.proofs.Call.PrintedMoves.{one_part}
use Rattle.lp_back_end_laws.proofs.Call.ShiftArms.{Shifts, Whole, Captures}

-- ---- the terminal
module _ (g : Grammar) where
  -- where all are known, each is the machine's terminal of its number
  known_at : (ts : List TerminalString) → AreKnown g ts → length (known_among g ts) ≡ length ts → (i : ℕ) (t : TerminalString) → slice_get ts i ≡ Some t → (k : IsKnown g t) × (slice_get (known_among g ts) i ≡ Some (known_of t k.pattern))
  known_at [] known long i t at = absurd (none-some t at)
  known_at (x ∷ ts) (inr e) long i t at = (let none : 0 ≡ suc (length ts) = sym (ap length (none_known g x ts e)) ∙ long in absurd (omega (arith, none)))
  known_at (x ∷ ts) (inl a) long zero t at =
      subst (λ y. (k : IsKnown g y) × (slice_get (known_among g (x ∷ ts)) 0 ≡ Some (known_of y k.pattern))) (same_Some x t at) (a.0, ap (λ (ks : List KnownTerminal). slice_get ks 0) (known_first g x ts a.0))
  known_at (x ∷ ts) (inl a) long (suc i) t at =
      let first = known_first g x ts a.0 in
      let rest : suc (length (known_among g ts)) ≡ suc (length ts) = sym (ap length first) ∙ long in
      let r = known_at ts a.1 (omega (arith, rest)) i t at in
      (r.0, ap (λ (ks : List KnownTerminal). slice_get ks (suc i)) first ∙ r.1)

  -- a pattern is a terminal's: its holes are told, and the machine takes as many payloads
  pub record IsPatternOf (i : ℕ) (pattern : TokenPattern) : Type 0 where
    pub told : 0 < length pattern.holes → IsTold g.prefix pattern
    pub value : (token : Token) → value_by (slice_get (known_among g (terminals_of g)) i) token ≡ value_with (length pattern.holes) token

  pub pattern_known : {states : List Lr1State} → AreKnown g (terminals_of g) → length (known_among g (terminals_of g)) ≡ length (terminals_of g) → AreShiftsTold g states → (i : ℕ) (pattern : TokenPattern) → IsShifted states i → pattern_at g i ≡ Some pattern → IsPatternOf i pattern
  pattern_known known long told i pattern shifted is = by (slice_get (terminals_of g) i) refl is
    where
      by : (o : Option TerminalString) → slice_get (terminals_of g) i ≡ o → pattern_for g o ≡ Some pattern → IsPatternOf i pattern
      by None at e = absurd (none-some pattern e)
      by (Some t) at e =
          let k = known_at (terminals_of g) known long i t at in
          let same : k.0.pattern ≡ pattern = same_Some k.0.pattern pattern (sym k.0.there ∙ e) in
          subst (IsPatternOf i) same (record { told = told i t k.0.pattern shifted at (own_there g t k.0); value = λ token. ap (λ o. value_by o token) k.1 })

-- ---- the line
-- names of captures have no comma
module _ (prefix : List ℕ) (w : AllWord prefix) where
  name_lacks : (k : ℕ) → k < 2 ^ 64 → Lacks 44 (capture_name prefix k)
  name_lacks k small = lacks-append 44 prefix (codes "tok" ++ decimal k) (word_lacks 44 prefix refl w) (lacks-append 44 (codes "tok") (decimal k) (lacks_by 44 (codes "tok") refl) (decimal_lacks 44 k (λ r. omega (arith, r.0)) small))

  name_long : (k : ℕ) → 0 < length (capture_name prefix k)
  name_long k = omega (arith, length-append prefix (codes "tok" ++ decimal k), length-append (codes "tok") (decimal k))

  names_apart : (k n : ℕ) → k + n < 2 ^ 64 → Apart 44 (capture_name prefix k) (names_from prefix (k + 1) n)
  names_apart k zero small = (name_lacks k (omega (arith, small)), name_long k)
  names_apart k (suc n) small = (name_lacks k (omega (arith, small)), names_apart (k + 1) n (omega (arith, small)))

  -- what is captured by the names of a line
  captured_line : (slot n : ℕ) (p : TokenPattern) → length p.holes ≡ suc n → IsTold prefix p → captured prefix slot (named_pattern prefix p) (pieces (codes ", ") (capture_names prefix (suc n))) ≡ value_code slot (suc n)
  captured_line slot n p many told =
      let few = told.few in
      let small : suc n < 2 ^ 64 = omega (arith, few, many) in
      ap (captured prefix slot (named_pattern prefix p)) (pieces_joined 44 (32 ∷ []) (capture_name prefix 0) (names_from prefix 1 n) (names_apart 0 n (omega (arith, small))) ∙ sym (captures_read prefix n w small))
      ∙ captured_read prefix w slot n (0, 0, p) (record { told = told; holes = many })

-- a shift's line of a pattern without captures, or with them
abbrev line_by : List ℕ → ℕ → TokenPattern → List Item → Bool → Form
line_by prefix symbol p below b =
    over (shift_part (if b then None else Some (capture_names prefix (length p.holes)))) (shift_holes (if b then pattern_text p else named_pattern prefix p) symbol (if b then None else Some (capture_names prefix (length p.holes)))) below

module _ (prefix : List ℕ) (symbol : ℕ) (p : TokenPattern) (below : List Item) where
  abbrev line : Form
  line = lines.shift_arm prefix symbol p below

  -- it is one of a shift, of the symbol
  pub line_shifts : is_shift line ≡ true
  line_shifts = by (length p.holes == 0)
    where
      by : (b : Bool) → is_shift (line_by prefix symbol p below b) ≡ true
      by true = refl
      by false = refl

  pub line_symbol : hole_of 1 line ≡ decimal symbol
  line_symbol = by (length p.holes == 0)
    where
      by : (b : Bool) → hole_of 1 (line_by prefix symbol p below b) ≡ decimal symbol
      by true = refl
      by false = refl

  -- with one part below
  pub line_below : IsWhole below → slice_get (parts_of line) 0 ≡ Some below
  line_below whole = by (length p.holes == 0)
    where
      by : (b : Bool) → slice_get (parts_of (line_by prefix symbol p below b)) 0 ≡ Some below
      by b =
          ap (λ (fs : List Form). slice_get fs 0)
          (one_part (shift_part (if b then None else Some (capture_names prefix (length p.holes)))) (shift_holes (if b then pattern_text p else named_pattern prefix p) symbol (if b then None else Some (capture_names prefix (length p.holes)))) below whole)

  -- it takes the payloads of the pattern's captures
  pub line_takes : AllWord prefix → (0 < length p.holes → IsTold prefix p) → (slot : ℕ) → Shifts prefix slot line (length p.holes)
  line_takes w told slot = by (length p.holes) refl
    where
      by : (n : ℕ) → length p.holes ≡ n → Shifts prefix slot line n
      by zero none = Whole (ap (λ b. is_a part.ShiftWhole (line_by prefix symbol p below b)) (ap (λ n. n == 0) none))
      by (suc n) some =
          let b : (length p.holes == 0) ≡ false = ap (λ n. n == 0) some ∙ ne_eqb (suc n) 0 (λ e. omega (arith, e)) in
          Captures n (ap (λ b. is_a part.ShiftWhole (line_by prefix symbol p below b)) b)
          (ap (λ b. captured prefix slot (hole_of 0 (line_by prefix symbol p below b)) (pieces (codes ", ") (hole_of 2 (line_by prefix symbol p below b)))) b
          ∙ ap (λ k. captured prefix slot (named_pattern prefix p) (pieces (codes ", ") (capture_names prefix k))) some
          ∙ captured_line prefix w slot n p some (told (omega (arith, some))))
