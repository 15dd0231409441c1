-- What the looks of an expected list come to, and how many it takes.
use Rattle.std.proofs.Common.{◌≡◌, ◌⊎◌, ℕ, zero, suc, ◌+◌, ◌-◌, ◌<◌, ◌≤◌, Bool, true, false, List, [], ◌∷◌, ◌++◌, length, Option, Some, None, refl, sym, ap, ◌∙◌, subst, inl, inr, ⊎_elim, arith, lt-ltb, append_assoc, append-nil}
use Rattle.std.proofs.lemmas.Bool.Decides.{nat_tests}
use Rattle.std.specs.Prelude.{nat_lt, slice_get, if◌then◌else◌}
use Rattle.lp_driver.specs.Values.{Text}
use Rattle.lp_machine.specs.declared.verdict.Verdict.{Verdict}
use Rattle.lp_machine.specs.declared.verdict.Verdict.TheVariants.{Yes, No, GoesOn}
use Rattle.lp_machine.specs.ExpectedList.{verdict}
use Rattle.lp_machine.specs.Tables.{Tables}
use Rattle.lp_turn_laws.specs.Alike.Looks.{Look, with_name, said, look, looks, IsComplete}
use Rattle.lp_question_laws.specs.Expected.Trials.{Tried, Tries, with_kept, Collects, Lags}
use Rattle.lp_question_laws.proofs.Expected.Loops.{tried_or}

-- a terminal is tried next
abbrev pub next_at : ℕ → List Text → Look
next_at i found = record { terminal = i; found = found; trial = None }

module _ (t : Tables) (stack : List ℕ) where
  -- some looks and then others
  looks_both : (a b : ℕ) (l : Look) → looks t stack (a + b) l ≡ looks t stack b (looks t stack a l)
  looks_both zero b l = (let none : 0 + b ≡ b = omega arith in ap (λ (n : ℕ). looks t stack n l) none)
  looks_both (suc a) b l = (let next : suc a + b ≡ suc (a + b) = omega arith in ap (λ (n : ℕ). looks t stack n l) next ∙ looks_both a b (look t stack l))

  -- the answer of a trial
  abbrev answer : Bool → Verdict
  answer b = if b then Yes else No

  -- what it changes doesn't depend on the trial
  same_said : (b : Bool) (l : Look) (next : List ℕ) → said t (said t l (GoesOn next)) (answer b) ≡ said t l (answer b)
  same_said true l next = refl
  same_said false l next = refl

  -- the looks of a trial that is answered
  tried_looks : (k : ℕ) (s : List ℕ) (b : Bool) (l : Look) → look t stack l ≡ said t l (verdict t s (Some l.terminal)) → Tried t l.terminal k s b → looks t stack (suc k) l ≡ said t l (answer b)
  tried_looks zero s b l first tried = first ∙ ap (said t l) tried
  tried_looks (suc k) s b l first tried =
      ap (looks t stack (suc k)) (first ∙ ap (said t l) tried.1) ∙ tried_looks k tried.0 b (said t l (GoesOn tried.0)) refl tried.2 ∙ same_said b l tried.0

  -- where a terminal is left, the look is at the stack
  first_look : (i : ℕ) (found : List Text) → i < length t.names → look t stack (next_at i found) ≡ said t (next_at i found) (verdict t stack (Some i))
  first_look i found known = ap (λ (b : Bool). if b then said t (next_at i found) (verdict t stack (Some i)) else next_at i found) (lt-ltb i (length t.names) known)

  -- and what its trial says leads to the next one
  said_next : (i : ℕ) (found : List Text) (name : Text) (b : Bool) → slice_get t.names i ≡ Some name → said t (next_at i found) (answer b) ≡ next_at (suc i) (found ++ with_kept b name [])
  said_next i found name true is =
      let next : i + 1 ≡ suc i = omega arith in
      ap (λ (o : Option Text). next_at (i + 1) (with_name found o)) is ∙ ap (λ (n : ℕ). next_at n (found ++ name ∷ [])) next
  said_next i found name false is =
      let next : i + 1 ≡ suc i = omega arith in
      ap (λ (n : ℕ). next_at n found) next ∙ ap (next_at (suc i)) (sym (append-nil found))

  -- these are the names from a number on
  abbrev pub AreFrom : ℕ → List Text → Type 0
  AreFrom i names = (j : ℕ) → slice_get t.names (i + j) ≡ slice_get names j

  name_at : (i : ℕ) (name : Text) (names : List Text) → AreFrom i (name ∷ names) → slice_get t.names i ≡ Some name
  name_at i name names from = (let none : i ≡ i + 0 = omega arith in ap (slice_get t.names) none ∙ from 0)

  from_next : (i : ℕ) (name : Text) (names : List Text) → AreFrom i (name ∷ names) → AreFrom (suc i) names
  from_next i name names from j = (let next : suc i + j ≡ i + suc j = omega arith in ap (slice_get t.names) next ∙ from (suc j))

  kept_more : (b : Bool) (name : Text) (rest : List Text) → with_kept b name [] ++ rest ≡ with_kept b name rest
  kept_more true name rest = refl
  kept_more false name rest = refl

  -- all terminals are tried
  pub collects_looks : (i : ℕ) (names : List Text) (n : ℕ) (list found : List Text) → Collects t stack i names n list → i + length names ≡ length t.names → AreFrom i names → looks t stack n (next_at i found) ≡ next_at (length t.names) (found ++ list)
  collects_looks i [] n list found c count from =
      let all : i ≡ length t.names = omega arith in
      ap (λ (k : ℕ). looks t stack k (next_at i found)) c.0 ∙ ap (λ (k : ℕ). next_at k found) all ∙ ap (next_at (length t.names)) (sym (append-nil found) ∙ ap (λ (l : List Text). found ++ l) (sym c.1))
  collects_looks i (name ∷ names) n list found c count from =
      let k = c.0 in
      let b = c.1 in
      let m = c.2 in
      let rest = c.3 in
      let sum : n ≡ suc k + m = omega (arith, c.6) in
      let one : looks t stack (suc k) (next_at i found) ≡ next_at (suc i) (found ++ with_kept b name []) =
      tried_looks k stack b (next_at i found) (first_look i found (omega arith)) c.4 ∙ said_next i found name b (name_at i name names from) in
      ap (λ (j : ℕ). looks t stack j (next_at i found)) sum
      ∙ looks_both (suc k) m (next_at i found)
      ∙ ap (looks t stack m) one
      ∙ collects_looks (suc i) names m rest (found ++ with_kept b name []) c.5 (omega arith) (from_next i name names from)
      ∙ ap (next_at (length t.names)) (append_assoc found (with_kept b name []) rest ∙ ap (λ (l : List Text). found ++ l) (kept_more b name rest ∙ sym c.7))

  -- nothing is left
  pub all_complete : (found : List Text) → IsComplete t (next_at (length t.names) found)
  all_complete found = (refl, same (length t.names))
    where
      same : (n : ℕ) → nat_lt n n ≡ false
      same n = grind (arith, nat_tests)

  -- ---- how many looks it takes
  abbrev pub TakesMore : ℕ → Look → Type 0
  TakesMore n l = (j : ℕ) → IsComplete t (looks t stack j l) → n ≤ j

  one_more : (n : ℕ) (l : Look) → (IsComplete t l → ⊥) → TakesMore n (look t stack l) → TakesMore (suc n) l
  one_more n l unfinished rest zero whole = absurd (unfinished whole)
  one_more n l unfinished rest (suc j) whole = (let more : n ≤ j = rest j whole in omega arith)

  goes_on_open : (l : Look) (next : List ℕ) → IsComplete t (said t l (GoesOn next)) → ⊥
  goes_on_open l next whole = (let bad : Some next ≡ None = whole.0 in cc)

  next_open : (i : ℕ) (found : List Text) → i < length t.names → IsComplete t (next_at i found) → ⊥
  next_open i found known whole = (let is : nat_lt i (length t.names) ≡ true = lt-ltb i (length t.names) known in let not : nat_lt i (length t.names) ≡ false = whole.1 in cc)

  tried_more : (k m : ℕ) (s : List ℕ) (b : Bool) (l : Look) → look t stack l ≡ said t l (verdict t s (Some l.terminal)) → (IsComplete t l → ⊥) → Tried t l.terminal k s b → TakesMore m (said t l (answer b)) → TakesMore (suc (k + m)) l
  tried_more zero m s b l first unfinished tried rest =
      let none : m ≡ 0 + m = omega arith in
      subst (λ (n : ℕ). TakesMore (suc n) l) none (one_more m l unfinished (subst (TakesMore m) (sym (first ∙ ap (said t l) tried)) rest))
  tried_more (suc k) m s b l first unfinished tried rest =
      let next = said t l (GoesOn tried.0) in
      let more : TakesMore (suc (k + m)) next = tried_more k m tried.0 b next refl (goes_on_open l tried.0) tried.2 (subst (TakesMore m) (sym (same_said b l tried.0)) rest) in
      let sum : suc (k + m) ≡ suc k + m = omega arith in
      subst (λ (n : ℕ). TakesMore (suc n) l) sum (one_more (suc (k + m)) l unfinished (subst (TakesMore (suc (k + m))) (sym (first ∙ ap (said t l) tried.1)) more))

  tries_more : (n : ℕ) (s : List ℕ) (l : Look) → look t stack l ≡ said t l (verdict t s (Some l.terminal)) → (IsComplete t l → ⊥) → Tries t l.terminal n s → TakesMore n l
  tries_more zero s l first unfinished tries = λ j whole. omega arith
  tries_more (suc n) s l first unfinished tries =
      let next = said t l (GoesOn tries.0) in
      one_more n l unfinished (subst (TakesMore n) (sym (first ∙ ap (said t l) tries.1)) (tries_more n tries.0 next refl (goes_on_open l tries.0) tries.2))

  pub collects_more : (i : ℕ) (names : List Text) (n : ℕ) (list found : List Text) → Collects t stack i names n list → i + length names ≡ length t.names → AreFrom i names → TakesMore n (next_at i found)
  collects_more i [] n list found c count from = λ j whole. omega (arith, c.0)
  collects_more i (name ∷ names) n list found c count from =
      let known : i < length t.names = omega arith in
      let rest = collects_more (suc i) names c.2 c.3 (found ++ with_kept c.1 name []) c.5 (omega arith) (from_next i name names from) in
      subst (λ (j : ℕ). TakesMore j (next_at i found)) (sym c.6)
      (tried_more c.0 c.2 stack c.1 (next_at i found) (first_look i found known) (next_open i found known) c.4 (subst (TakesMore c.2) (sym (said_next i found name c.1 (name_at i name names from))) rest))

  pub lags_more : (i : ℕ) (names : List Text) (n : ℕ) (found : List Text) → Lags t stack i names n → i + length names ≡ length t.names → AreFrom i names → TakesMore n (next_at i found)
  lags_more i [] n found l count from = absurd l
  lags_more i (name ∷ names) n found l count from =
      let known : i < length t.names = omega arith in
      ⊎_elim (λ (tries : Tries t i n stack). tries_more n stack (next_at i found) (first_look i found known) (next_open i found known) tries)
      (λ (r : (k : ℕ) × (b : Bool) × (m : ℕ) × Tried t i k stack b × Lags t stack (suc i) names m × (n ≡ suc (k + m))).
      let rest = lags_more (suc i) names r.2 (found ++ with_kept r.1 name []) r.4 (omega arith) (from_next i name names from) in
      subst (λ (j : ℕ). TakesMore j (next_at i found)) (sym r.5)
      (tried_more r.0 r.2 stack r.1 (next_at i found) (first_look i found known) (next_open i found known) r.3 (subst (TakesMore r.2) (sym (said_next i found name r.1 (name_at i name names from))) rest)))
      l

  -- within so many looks all terminals are tried, or not
  abbrev pub Decided : ℕ → ℕ → List Text → Type 0
  Decided n i names = ((m : ℕ) × (list : List Text) × Collects t stack i names m list) ⊎ Lags t stack i names n

  decided_after : (n i k m : ℕ) (b : Bool) (name : Text) (names : List Text) → Tried t i k stack b → n ≡ suc (k + m) → Decided m (suc i) names → Decided n i (name ∷ names)
  decided_after n i k m b name names tried sum d =
      ⊎_elim (λ (c : (m : ℕ) × (list : List Text) × Collects t stack (suc i) names m list). inl (suc (k + c.0), with_kept b name c.1, (k, b, c.0, c.1, tried, c.2, refl, refl)))
      (λ (l : Lags t stack (suc i) names m). inr (inr (k, b, m, tried, l, sum))) d

  pub decided : (n i : ℕ) (names : List Text) → Decided n i names
  decided n i [] = inl (0, [], (refl, refl))
  decided n i (name ∷ names) =
      ⊎_elim (λ (r : (k : ℕ) × (b : Bool) × (k < n) × Tried t i k stack b). (let sum : n ≡ suc (r.0 + (n - suc r.0)) = (let less = r.2 in omega arith) in decided_after n i r.0 (n - suc r.0) r.1 name names r.3 sum (decided (n - suc r.0) (suc i) names)))
      (λ (tries : Tries t i n stack). inr (inl tries)) (tried_or t i n stack)
