-- The sides of the span of an inlined action, as they are printed and as the tables have them.
use Rattle.std.proofs.Common.{◌≡◌, ℕ, zero, suc, ◌+◌, ◌-◌, ◌<◌, ◌≤◌, ◌^◌, ◌==◌, Bool, true, false, ◌&&◌, List, [], ◌∷◌, ◌++◌, length, map, drop, Some, None, refl, ap, sym, subst, ◌∙◌, arith, append_assoc, if◌then◌else◌}
use Rattle.std.specs.Prelude.{slice_get, nat_lt, codes, decimal}
use Rattle.std.proofs.lemmas.Bool.{lt-ltb, ne_eqb}
use Rattle.std.proofs.lemmas.Bool.Decides.{nat_tests}
use Rattle.lp_repr.specs.declared.values.Loc.{Loc}
use Rattle.lp_driver.specs.DriverState.{last_of}
use Rattle.lp_driver.specs.RecoveryTurns.{start_or, end_or}
use Rattle.lp_driver.specs.Values.{Spanned, Value}
use Rattle.lp_core.specs.Reading.{location}
use Rattle.lp_core.specs.Store.{Program, Store, UserCall}
use Rattle.lp_core.specs.Val.{Val}
use Rattle.lp_machine.specs.ActionMeaning.{inlined_start, inlined_end}
use Rattle.lp_actions.specs.Inlines.{start_of, end_of, span_start, span_end, location_behind, location_ahead}
use Rattle.lp_maker.specs.Making.{read_name}
use Rattle.lp_maker.specs.Slots.{Names}
use Rattle.lp_maker.specs.Texts.{begins, cut_at}
use Rattle.lp_bodies.specs.Inlining.{place_value, pointed, dotted, side}
use Rattle.lp_code_laws.specs.Ends.Ends.{Eval, Giving, EndsIn}
use Rattle.lp_code_laws.proofs.Ends.Rules.{apply_found}
use Rattle.lp_question_laws.proofs.Gotos.Cuts.{cut_joined}
use Rattle.lp_question_laws.proofs.Gotos.Digits.{Lacks}
use Rattle.lp_question_laws.proofs.Gotos.GotoCode.{lacks-append}
use Rattle.lp_code_laws.proofs.Printed.Lines.{read_shown}
use Rattle.lp_code_laws.specs.Slots.Shows.{Shows}
use Rattle.lp_code_laws.proofs.Slots.Slots.{get_within}
use Rattle.lp_question_laws.specs.Tables.Acts.{symbol_val}
use Rattle.lp_question_laws.specs.Actions.Inlined.{Seen, within}
use Rattle.lp_question_laws.specs.Actions.Keys.{ShowsEach, mark, decimals}
use Rattle.lp_question_laws.proofs.Actions.Texts.{IsPlainPrefix, IsPlainWord, word_plain, decimal_word}
use Rattle.lp_question_laws.proofs.Actions.Parameters.{plain_word}

-- an argument of a number
each_at : (names : Names) (env : List Val) (n : ℕ) (xs : List (Spanned Value)) (i : ℕ) (x : Spanned Value) → ShowsEach names env (map mark (decimals n xs)) (map symbol_val xs) → slice_get xs i ≡ Some x → Shows names env (mark (decimal (n + i))) (symbol_val x)
each_at names env n [] i x h is = absurd cc
each_at names env n (y ∷ xs) zero x h is =
    let same : y ≡ x = cc in
    let at : n ≡ n + 0 = omega arith in
    subst (λ k. Shows names env (mark (decimal k)) (symbol_val x)) at (subst (λ z. Shows names env (mark (decimal n)) (symbol_val z)) same h.0)
each_at names env n (y ∷ xs) (suc i) x h is =
    let at : n + 1 + i ≡ n + suc i = omega arith in
    subst (λ k. Shows names env (mark (decimal k)) (symbol_val x)) at (each_at names env (n + 1) xs i x h.1 is)

pub seen_at : (names : Names) (env : List Val) (xs : List (Spanned Value)) (place : Loc × Loc) (i : ℕ) (x : Spanned Value) → Seen names env xs place → slice_get xs i ≡ Some x → Shows names env (mark (decimal i)) (symbol_val x)
seen_at names env [] place i x h is = absurd cc
seen_at names env (y ∷ xs) place i x h is =
    let at : 0 + i ≡ i = omega arith in
    subst (λ k. Shows names env (mark (decimal k)) (symbol_val x)) at (each_at names env 0 (y ∷ xs) i x h is)

get_past : {A : Type 0} (xs : List A) (i : ℕ) → length xs ≤ i → slice_get xs i ≡ None
get_past [] i h = refl
get_past (x ∷ xs) zero h = absurd (omega arith)
get_past (x ∷ xs) (suc i) h = get_past xs i (omega arith)

module _ (p : Program) {prefix : List ℕ} (is : IsPlainPrefix prefix) where
  starless : (t : List ℕ) → begins (codes "*") (prefix ++ t) ≡ false
  starless t = by prefix is.no_star is.some
    where
      by : (q : List ℕ) → Lacks 42 q → 0 < length q → begins (codes "*") (q ++ t) ≡ false
      by [] l s = absurd (omega arith)
      by (b ∷ bs) l s = ap (λ c. c && true) (ne_eqb 42 b (λ e. l.0 (sym e)))

  -- `~j.0` and `~j.2`
  sided : (names : Names) (j : ℕ) (rest : List ℕ) → j < 2 ^ 64 → place_value prefix names (prefix ++ (decimal j ++ 46 ∷ rest)) ≡ side (read_name names (mark (decimal j))) rest
  sided names j rest small =
      let text = prefix ++ (decimal j ++ 46 ∷ rest) in
      let w = decimal_word j small in
      ap (λ b. pointed prefix names text (if b then Some (drop 1 text) else None)) (starless (decimal j ++ 46 ∷ rest))
      ∙ ap (λ t. dotted prefix names (cut_at (codes ".") t)) (sym (append_assoc prefix (decimal j) (46 ∷ rest)))
      ∙ ap (dotted prefix names) (cut_joined 46 [] (prefix ++ decimal j) rest (lacks-append 46 prefix (decimal j) is.no_dot w.no_dot))
      ∙ ap (λ k. side (read_name names k) rest) (word_plain is (decimal j) w)

  module _ (names : Names) (s : Store) (env : List Val) (calls : List UserCall) where
    abbrev Gives : List ℕ → Loc → Type 0
    Gives text l = EndsIn p (Eval (place_value prefix names text)) (within s env calls) 0 (Giving (location l) (within s env calls))

    gives_start : (j : ℕ) (x : Spanned Value) → j < 2 ^ 64 → Shows names env (mark (decimal j)) (symbol_val x) → Gives (start_of prefix j) x.0
    gives_start j x small h = subst (λ e. EndsIn p (Eval e) (within s env calls) 0 (Giving (location x.0) (within s env calls))) (sym (sided names j (codes "0") small)) (apply_found (Some (location x.0)) (read_shown h refl) refl refl)

    gives_end : (j : ℕ) (x : Spanned Value) → j < 2 ^ 64 → Shows names env (mark (decimal j)) (symbol_val x) → Gives (end_of prefix j) x.2
    gives_end j x small h = subst (λ e. EndsIn p (Eval e) (within s env calls) 0 (Giving (location x.2) (within s env calls))) (sym (sided names j (codes "2") small)) (apply_found (Some (location x.2)) (read_shown h refl) refl refl)

    gives_place : (word : List ℕ) (l : Loc) → IsPlainWord word → Shows names env (mark word) (location l) → Gives (codes "*" ++ (prefix ++ word)) l
    gives_place word l w h = subst (λ k. EndsIn p (Eval (read_name names k)) (within s env calls) 0 (Giving (location l) (within s env calls))) (sym (word_plain is word w)) (read_shown h refl)

    module _ (xs : List (Spanned Value)) (place : Loc × Loc) (seen : Seen names env xs place) (few : length xs < 2 ^ 64) where
      first_or : (o : Loc) (i : ℕ) → i < length xs → Gives (start_of prefix i) (start_or (slice_get xs i) o)
      first_or o i less =
          let x = get_within xs i less in
          subst (λ z. Gives (start_of prefix i) (start_or z o)) (sym x.1) (gives_start i x.0 (omega arith) (seen_at names env xs place i x.0 seen x.1))

      last_or : (o : Loc) (i : ℕ) → i < length xs → Gives (end_of prefix i) (end_or (slice_get xs i) o)
      last_or o i less =
          let x = get_within xs i less in
          subst (λ z. Gives (end_of prefix i) (end_or z o)) (sym x.1) (gives_end i x.0 (omega arith) (seen_at names env xs place i x.0 seen x.1))

      -- two ways to tell a text and its location
      told : (a b : List ℕ) (l k : Loc) → a ≡ b → l ≡ k → Gives b k → Gives a l
      told a b l k e f h = subst (λ t. Gives t l) (sym e) (subst (λ z. Gives b z) (sym f) h)

      behind_all : xs ≡ [] → Gives (location_behind prefix) place.0
      behind_all none = gives_place (codes "lookbehind") place.0 (plain_word (codes "lookbehind") refl refl refl refl (omega arith)) (subst (λ ys. Seen names env ys place) none seen).0

      ahead_all : xs ≡ [] → Gives (location_ahead prefix) place.1
      ahead_all none = gives_place (codes "lookahead") place.1 (plain_word (codes "lookahead") refl refl refl refl (omega arith)) (subst (λ ys. Seen names env ys place) none seen).1.0

      empty_or_not : {P : Type 0} → (xs ≡ [] → P) → (0 < length xs → P) → P
      empty_or_not {P} f g = by xs refl
        where
          by : (ys : List (Spanned Value)) → xs ≡ ys → P
          by [] e = f e
          by (y ∷ ys) e = g (let l : length xs ≡ length (y ∷ ys) = ap length e in omega arith)

      -- where it starts
      pub start_given : (i c : ℕ) → i + c ≤ length xs → Gives (span_start prefix i c (length xs)) (inlined_start xs i c place.0)
      start_given zero zero le = empty_or_not none some
        where
          none : xs ≡ [] → Gives (span_start prefix 0 0 (length xs)) (inlined_start xs 0 0 place.0)
          none e = told (span_start prefix 0 0 (length xs)) (location_behind prefix) (inlined_start xs 0 0 place.0) place.0 (ap (λ ys. span_start prefix 0 0 (length ys)) e) (ap (λ ys. inlined_start ys 0 0 place.0) e) (behind_all e)

          some : 0 < length xs → Gives (span_start prefix 0 0 (length xs)) (inlined_start xs 0 0 place.0)
          some h = told (span_start prefix 0 0 (length xs)) (start_of prefix 0) (inlined_start xs 0 0 place.0) (start_or (slice_get xs 0) place.0) (ap (λ b. if b then start_of prefix 0 else location_behind prefix) (lt-ltb 0 (length xs) h)) refl (first_or place.0 0 h)
      start_given (suc i) zero le =
          told (span_start prefix (suc i) 0 (length xs)) (end_of prefix (suc i - 1)) (inlined_start xs (suc i) 0 place.0) (end_or (slice_get xs (suc i - 1)) place.0)
          (ap (λ b. if b then end_of prefix (suc i - 1) else (if nat_lt 0 (length xs) then start_of prefix 0 else location_behind prefix)) (lt-ltb 0 (suc i) (omega arith)))
          (ap (λ b. if b then start_or (slice_get xs 0) place.0 else end_or (slice_get xs (suc i - 1)) place.0) (ne_eqb (suc i) 0 (λ e. omega (arith, e))))
          (last_or place.0 (suc i - 1) (omega arith))
      start_given i (suc c) le =
          told (span_start prefix i (suc c) (length xs)) (start_of prefix i) (inlined_start xs i (suc c) place.0) (start_or (slice_get xs i) place.0)
          (ap (λ b. if b then start_of prefix i else (if nat_lt 0 i then end_of prefix (i - 1) else (if nat_lt 0 (length xs) then start_of prefix 0 else location_behind prefix))) (lt-ltb 0 (suc c) (omega arith)))
          (ap (λ b. if b then (if i == 0 then start_or (slice_get xs 0) place.0 else end_or (slice_get xs (i - 1)) place.0) else start_or (slice_get xs i) place.0) (ne_eqb (suc c) 0 (λ e. omega (arith, e))))
          (first_or place.0 i (omega arith))

      -- where it ends
      pub end_given : (i c : ℕ) → i + c ≤ length xs → Gives (span_end prefix i c (length xs)) (inlined_end xs i c place.1)
      end_given i zero le = by (nat_lt i (length xs)) refl
        where
          otherwise : ℕ → List ℕ
          otherwise t = if nat_lt 0 t then end_of prefix (t - 1) else location_ahead prefix

          by : (b : Bool) → nat_lt i (length xs) ≡ b → Gives (span_end prefix i 0 (length xs)) (inlined_end xs i 0 place.1)
          by true e =
              told (span_end prefix i 0 (length xs)) (start_of prefix i) (inlined_end xs i 0 place.1) (start_or (slice_get xs i) (end_or (last_of xs) place.1))
              (ap (λ b. if b then start_of prefix i else (if nat_lt 0 (length xs) then end_of prefix (length xs - 1) else location_ahead prefix)) e) refl
              (first_or (end_or (last_of xs) place.1) i (grind (arith, nat_tests)))
          by false e =
              let past : length xs ≤ i = grind (arith, nat_tests) in
              told (span_end prefix i 0 (length xs)) (if nat_lt 0 (length xs) then end_of prefix (length xs - 1) else location_ahead prefix) (inlined_end xs i 0 place.1) (end_or (last_of xs) place.1)
              (ap (λ b. if b then start_of prefix i else (if nat_lt 0 (length xs) then end_of prefix (length xs - 1) else location_ahead prefix)) e)
              (ap (λ o. start_or o (end_or (last_of xs) place.1)) (get_past xs i past))
              (empty_or_not
              (λ none. told (if nat_lt 0 (length xs) then end_of prefix (length xs - 1) else location_ahead prefix) (location_ahead prefix) (end_or (last_of xs) place.1) place.1 (ap (λ (ys : List (Spanned Value)). if nat_lt 0 (length ys) then end_of prefix (length ys - 1) else location_ahead prefix) none) (ap (λ (ys : List (Spanned Value)). end_or (last_of ys) place.1) none) (ahead_all none))
              (λ some. told (if nat_lt 0 (length xs) then end_of prefix (length xs - 1) else location_ahead prefix) (end_of prefix (length xs - 1)) (end_or (last_of xs) place.1) (end_or (slice_get xs (length xs - 1)) place.1) (ap (λ b. if b then end_of prefix (length xs - 1) else location_ahead prefix) (lt-ltb 0 (length xs) some)) refl (last_or place.1 (length xs - 1) (omega arith))))
      end_given i (suc c) le =
          let at : i + (suc c - 1) ≡ i + suc c - 1 = omega arith in
          told (span_end prefix i (suc c) (length xs)) (end_of prefix (i + (suc c - 1))) (inlined_end xs i (suc c) place.1) (end_or (slice_get xs (i + (suc c - 1))) place.1)
          (ap (λ b. if b then end_of prefix (i + (suc c - 1)) else (if nat_lt i (length xs) then start_of prefix i else (if nat_lt 0 (length xs) then end_of prefix (length xs - 1) else location_ahead prefix))) (lt-ltb 0 (suc c) (omega arith)))
          (ap (λ b. if b then start_or (slice_get xs i) (end_or (last_of xs) place.1) else end_or (slice_get xs (i + suc c - 1)) place.1) (ne_eqb (suc c) 0 (λ e. omega (arith, e))) ∙ ap (λ k. end_or (slice_get xs k) place.1) (sym at))
          (last_or place.1 (i + (suc c - 1)) (omega arith))
