-- Loops over things that a step finds, turn by turn.
use Rattle.std.proofs.Common.{◌≡◌, ℕ, ◌+◌, ◌-◌, ◌<◌, ◌≤◌, Bool, true, false, Option, Some, None, List, [], ◌∷◌, ◌++◌, map, suc, refl, sym, ap, ◌∙◌, append_assoc, append-nil, arith}
use Rattle.std.proofs.lemmas.List.{map-append}
use Rattle.std.specs.Option.{option_map}
use Rattle.lp_types.specs.declared.error.PlainError.{PlainError}
use Rattle.lp_types.specs.Left.{Left, Fault, failure, size}
use Rattle.lp_types.specs.Reading.{Found, Read, Fails, Deep, Reading, then, ◌>>=◌, choose, give, many, after_one, repeated, chain, chained_by, FailsWith}
use Rattle.lp_types.proofs.Steps.{read_then, fails_then, fails_as}

module _ {A : Type 0} where
  -- these things and then those
  unfoldable pub joined : List A → Found (List A) → Found (List A)
  joined xs found = then found (λ ys. give (xs ++ ys))

  joined_none : (xs : List A) (found : Found (List A)) → xs ≡ [] → found ≡ joined xs found
  unfolding joined then
  joined_none xs (Read ys rest) e = ap (λ zs. Read (zs ++ ys) rest) (sym e)
  joined_none xs (Fails at) e = refl
  joined_none xs Deep e = refl

  joined_more : (xs new list : List A) (found : Found (List A)) → new ≡ xs ++ list → joined xs (then found (λ ys. give (list ++ ys))) ≡ joined new found
  unfolding joined then
  joined_more xs new list (Read ys rest) e = ap (λ zs. Read zs rest) (sym (append_assoc xs list ys)) ∙ ap (λ zs. Read (zs ++ ys) rest) (sym e)
  joined_more xs new list (Fails at) e = refl
  joined_more xs new list Deep e = refl

  joined_end : (xs : List A) (rest : Left) → joined xs (Read [] rest) ≡ Read xs rest
  unfolding joined then
  joined_end xs rest = ap (λ zs. Read zs rest) (append-nil xs)

  joined_last : (xs list : List A) (rest : Left) → joined xs (Read list rest) ≡ Read (xs ++ list) rest
  unfolding joined then
  joined_last xs list rest = refl

  joined_fails : (xs : List A) (found : Found (List A)) (e : PlainError) → FailsWith found e → FailsWith (joined xs found) e
  unfolding joined
  joined_fails xs found e h = fails_then found (λ ys. give (xs ++ ys)) e h

  joined_out : (xs : List A) (at : Fault) → joined xs (Fails at) ≡ Fails at
  unfolding joined then
  joined_out xs at = refl

  -- after k of at most `end` turns these things were read, and the next one is at `mid`
  pub record SoFar (step : Reading (Option A)) (ts : Left) (xs : List A) (end k : ℕ) (mid : Left) : Type 0 where
    pub is : repeated step ts ≡ joined xs (many (end - k) step mid)

  -- what a turn finds, and then what the others do
  abbrev turn : Reading (Option A) → ℕ → Left → Found (List A)
  turn step m mid = then (step mid) (λ o. after_one o (many m step))

  in_turn : (step : Reading (Option A)) (ts : Left) (xs : List A) (end k : ℕ) (mid : Left) → SoFar step ts xs end k mid → k < end → repeated step ts ≡ joined xs (turn step (end - (k + 1)) mid)
  in_turn step ts xs end k mid so below =
      let e : end - k ≡ suc (end - (k + 1)) = omega arith in
      so.is ∙ ap (λ n. joined xs (many n step mid)) e

  pub begun : (step : Reading (Option A)) (ts : Left) (xs : List A) (end : ℕ) → xs ≡ [] → end ≡ suc (size ts) → SoFar step ts xs end 0 ts
  unfolding repeated
  begun step ts xs end none e =
      let all : suc (size ts) ≡ end - 0 = omega arith in
      record { is = ap (λ n. many n step ts) all ∙ joined_none xs (many (end - 0) step ts) none }

  pub one_more : (step : Reading (Option A)) (ts : Left) (xs new : List A) (end k : ℕ) (mid next : Left) (x : A) → SoFar step ts xs end k mid → k < end → step mid ≡ Read (Some x) next → new ≡ xs ++ x ∷ [] → SoFar step ts new end (k + 1) next
  one_more step ts xs new end k mid next x so below h added =
      let m : ℕ = end - (k + 1) in
      record {
        is =
            in_turn step ts xs end k mid so below
            ∙ ap (joined xs) (read_then (step mid) (λ o. after_one o (many m step)) (Some x) next (then (many m step next) (λ ys. give (x ∷ ys))) h refl)
            ∙ joined_more xs new (x ∷ []) (many m step next) added;
      }

  pub ended : (step : Reading (Option A)) (ts : Left) (xs : List A) (end k : ℕ) (mid rest : Left) → SoFar step ts xs end k mid → k < end → step mid ≡ Read None rest → repeated step ts ≡ Read xs rest
  ended step ts xs end k mid rest so below h =
      let m : ℕ = end - (k + 1) in
      in_turn step ts xs end k mid so below
      ∙ ap (joined xs) (read_then (step mid) (λ o. after_one o (many m step)) None rest (Read [] rest) h refl)
      ∙ joined_end xs rest

  pub broke : (step : Reading (Option A)) (ts : Left) (xs : List A) (end k : ℕ) (mid : Left) (e : PlainError) → SoFar step ts xs end k mid → k < end → FailsWith (step mid) e → FailsWith (repeated step ts) e
  broke step ts xs end k mid e so below h =
      let m : ℕ = end - (k + 1) in
      fails_as (repeated step ts) (joined xs (turn step m mid)) e (joined_fails xs (turn step m mid) e (fails_then (step mid) (λ o. after_one o (many m step)) e h)) (in_turn step ts xs end k mid so below)

  pub ran_out : (step : Reading (Option A)) (ts : Left) (xs : List A) (end k : ℕ) (mid : Left) → SoFar step ts xs end k mid → end ≤ k → repeated step ts ≡ Fails (failure mid)
  ran_out step ts xs end k mid so over =
      let e : end - k ≡ 0 = omega arith in
      so.is ∙ ap (λ n. joined xs (many n step mid)) e ∙ joined_out xs (failure mid)

module _ {X A : Type 0} where
  -- the same, where the step tells whether another one follows
  pub record ChainSoFar (list : X → List A) (step : Reading (X × Bool)) (ts : Left) (xs : List A) (end k : ℕ) (mid : Left) : Type 0 where
    pub is : chained_by list step ts ≡ joined xs (chain list (end - k) step mid)

  abbrev linked : (X → List A) → (X × Bool) → Reading (List A) → Reading (List A)
  linked list p rest = choose p.1 (rest >>= λ xs. give (list p.0 ++ xs)) (give (list p.0))

  abbrev link : (X → List A) → Reading (X × Bool) → ℕ → Left → Found (List A)
  link list step m mid = then (step mid) (λ p. linked list p (chain list m step))

  in_link : (list : X → List A) (step : Reading (X × Bool)) (ts : Left) (xs : List A) (end k : ℕ) (mid : Left) → ChainSoFar list step ts xs end k mid → k < end → chained_by list step ts ≡ joined xs (link list step (end - (k + 1)) mid)
  in_link list step ts xs end k mid so below =
      let e : end - k ≡ suc (end - (k + 1)) = omega arith in
      so.is ∙ ap (λ n. joined xs (chain list n step mid)) e

  pub chain_begun : (list : X → List A) (step : Reading (X × Bool)) (ts : Left) (xs : List A) (end : ℕ) → xs ≡ [] → end ≡ suc (size ts) → ChainSoFar list step ts xs end 0 ts
  unfolding chained_by
  chain_begun list step ts xs end none e =
      let all : suc (size ts) ≡ end - 0 = omega arith in
      record { is = ap (λ n. chain list n step ts) all ∙ joined_none xs (chain list (end - 0) step ts) none }

  pub chain_one_more : (list : X → List A) (step : Reading (X × Bool)) (ts : Left) (xs new : List A) (end k : ℕ) (mid next : Left) (p : X × Bool) → ChainSoFar list step ts xs end k mid → k < end → step mid ≡ Read p next → p.1 ≡ true → new ≡ xs ++ list p.0 → ChainSoFar list step ts new end (k + 1) next
  unfolding choose
  chain_one_more list step ts xs new end k mid next p so below h more added =
      let m : ℕ = end - (k + 1) in
      record {
        is =
            in_link list step ts xs end k mid so below
            ∙ ap (joined xs) (read_then (step mid) (λ q. linked list q (chain list m step)) p next (linked list p (chain list m step) next) h refl)
            ∙ ap (λ v. joined xs (linked list (p.0, v) (chain list m step) next)) more
            ∙ joined_more xs new (list p.0) (chain list m step next) added;
      }

  pub chain_ended : (list : X → List A) (step : Reading (X × Bool)) (ts : Left) (xs new : List A) (end k : ℕ) (mid rest : Left) (p : X × Bool) → ChainSoFar list step ts xs end k mid → k < end → step mid ≡ Read p rest → p.1 ≡ false → new ≡ xs ++ list p.0 → chained_by list step ts ≡ Read new rest
  unfolding choose
  chain_ended list step ts xs new end k mid rest p so below h last added =
      let m : ℕ = end - (k + 1) in
      in_link list step ts xs end k mid so below
      ∙ ap (joined xs) (read_then (step mid) (λ q. linked list q (chain list m step)) p rest (linked list p (chain list m step) rest) h refl)
      ∙ ap (λ v. joined xs (linked list (p.0, v) (chain list m step) rest)) last
      ∙ joined_last xs (list p.0) rest
      ∙ ap (λ ys. Read ys rest) (sym added)

  pub chain_broke : (list : X → List A) (step : Reading (X × Bool)) (ts : Left) (xs : List A) (end k : ℕ) (mid : Left) (e : PlainError) → ChainSoFar list step ts xs end k mid → k < end → FailsWith (step mid) e → FailsWith (chained_by list step ts) e
  chain_broke list step ts xs end k mid e so below h =
      let m : ℕ = end - (k + 1) in
      fails_as (chained_by list step ts) (joined xs (link list step m mid)) e (joined_fails xs (link list step m mid) e (fails_then (step mid) (λ q. linked list q (chain list m step)) e h)) (in_link list step ts xs end k mid so below)

  pub chain_ran_out : (list : X → List A) (step : Reading (X × Bool)) (ts : Left) (xs : List A) (end k : ℕ) (mid : Left) → ChainSoFar list step ts xs end k mid → end ≤ k → chained_by list step ts ≡ Fails (failure mid)
  chain_ran_out list step ts xs end k mid so over =
      let e : end - k ≡ 0 = omega arith in
      so.is ∙ ap (λ n. joined xs (chain list n step mid)) e ∙ joined_out xs (failure mid)

module _ {T A : Type 0} where
  -- one more, as a view sees the things
  pub one_more_seen : (view : T → A) (step : Reading (Option A)) (ts : Left) (items new : List T) (end k : ℕ) (mid next : Left) (x : T) (o : Option T) → SoFar step ts (map view items) end k mid → k < end → step mid ≡ Read (option_map view o) next → o ≡ Some x → new ≡ items ++ x ∷ [] → SoFar step ts (map view new) end (k + 1) next
  one_more_seen view step ts items new end k mid next x o so below h is e =
      one_more step ts (map view items) (map view new) end k mid next (view x) so below (h ∙ ap (λ p. Read (option_map view p) next) is) (ap (map view) e ∙ map-append view items (x ∷ []))
