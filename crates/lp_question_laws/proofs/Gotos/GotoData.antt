-- The gotos of arms, and the numbers that stand in them.
use Rattle.std.proofs.Common.{◌≡◌, ℕ, zero, suc, ◌+◌, ◌<◌, ◌≤◌, ◌==◌, true, false, nat_lt, max, List, [], ◌∷◌, length, get_or, Some, None, refl, sym, subst, arith, add-zero, zero-add, if◌then◌else◌}
use Rattle.std.proofs.lemmas.Bool.{eqb-true, eqb-false}
use Rattle.std.proofs.lemmas.Bool.Decides.{nat_tests}
use Rattle.std.specs.List.{remove}
use Rattle.std.specs.Ordering.{nat_cmp}
use Rattle.std.specs.BTreeMap.{get}
use Rattle.lp_repr.specs.declared.lr1.Lr1State.{Lr1State}
use Rattle.lp_state_parts.specs.declared.gotos.StateRange.{StateRange}
use Rattle.lp_state_parts.specs.declared.gotos.GotoArm.{GotoArm}
use Rattle.lp_state_parts.specs.declared.gotos.Gotos.{Gotos}
use Rattle.lp_state_parts.specs.declared.gotos.Gotos.TheVariants.{Nowhere, One, Several}
use Rattle.lp_state_parts.specs.GotoLaw.{IsGotosOf, goto_at, target_at}
use Rattle.lp_state_parts.specs.Gotos.{IsCatchAll, arms_of, column_from, grow, one_state_range, range_counts, with_goto, with_state}
use Rattle.lp_state_parts.proofs.GotoAnswers.{length-range_counts}
use Rattle.lp_table.specs.TableLines.{catch_all_place, first_place, greatest}

-- ---- the catch-all

below_greatest : (ns : List ℕ) (k : ℕ) → k < length ns → get_or ns k 0 ≤ greatest ns
below_greatest [] k h = absurd (omega arith)
below_greatest (n ∷ ns) zero h = omega arith
below_greatest (n ∷ ns) (suc k) h = let rest : get_or ns k 0 ≤ greatest ns = below_greatest ns k (omega arith) in omega arith

-- a count, before which all are less
pub record IsFirst (m : ℕ) (ns : List ℕ) (j : ℕ) : Type 0 where
  pub within : j < length ns
  pub here : get_or ns j 0 ≡ m
  pub less : (k : ℕ) → k < j → get_or ns k 0 < m

first_is : (m : ℕ) (ns : List ℕ) (c : ℕ) → ((k : ℕ) → k < length ns → get_or ns k 0 ≤ m) → c < length ns → get_or ns c 0 ≡ m → IsFirst m ns (first_place m ns)
first_is m [] c le h at = absurd (omega arith)
first_is m (n ∷ ns) c le h at =
    elim (n == m) as (λ b. (n == m) ≡ b → IsFirst m (n ∷ ns) (if b then 0 else suc (first_place m ns))) [
      | true ↦ λ e. record { within = omega arith; here = eqb-true n m e; less = λ k lt. absurd (omega arith) }
      | false ↦ λ e. later (λ c h at. first_is m ns c (λ k lt. le (suc k) (omega arith)) h at) (eqb-false n m e) c h at
    ] refl
  where
    later : ((c : ℕ) → c < length ns → get_or ns c 0 ≡ m → IsFirst m ns (first_place m ns)) → (n ≡ m → ⊥) → (c : ℕ) → c < suc (length ns) → get_or (n ∷ ns) c 0 ≡ m → IsFirst m (n ∷ ns) (suc (first_place m ns))
    later again ne zero h at = absurd (ne at)
    later again ne (suc c) h at =
        let rest = again c (omega arith) at in
        let first : n ≤ m = le 0 (omega arith) in
        let below : (k : ℕ) → k < suc (first_place m ns) → get_or (n ∷ ns) k 0 < m = elim [ zero ↦ λ lt. omega arith | suc k ↦ λ lt. rest.less k (omega arith) ] in
        record { within = omega (arith, rest.within); here = rest.here; less = below }

greatest_at : (n : ℕ) (ns : List ℕ) → (c : ℕ) × (c < length (n ∷ ns)) × (get_or (n ∷ ns) c 0 ≡ greatest (n ∷ ns))
greatest_at n [] = (0, omega arith, omega arith)
greatest_at n (m ∷ ns) =
    let (c, h, e) = greatest_at m ns in
    elim (nat_lt n (greatest (m ∷ ns))) as (λ b. nat_lt n (greatest (m ∷ ns)) ≡ b → (c : ℕ) × (c < suc (suc (length ns))) × (get_or (n ∷ m ∷ ns) c 0 ≡ max n (greatest (m ∷ ns)))) [
      | true ↦ λ lt. (suc c, omega arith, grind (arith, nat_tests))
      | false ↦ λ ge. (0, omega arith, grind (arith, nat_tests))
    ] refl

catch_all_is : (a : GotoArm) (arms : List GotoArm) → IsCatchAll (range_counts (a ∷ arms)) (catch_all_place (a ∷ arms))
catch_all_is a arms =
    let ns = range_counts (a ∷ arms) in
    let (c, h, e) = greatest_at (length a.ranges) (range_counts arms) in
    let f = first_is (greatest ns) ns c (below_greatest ns) h e in
    record { within = f.within; most = λ k lt. subst (λ m. get_or ns k 0 ≤ m) (sym f.here) (below_greatest ns k lt); first = λ k lt. subst (λ m. get_or ns k 0 < m) (sym f.here) (f.less k lt) }

-- the gotos of arms
abbrev pub gotos_of : List GotoArm → Gotos
gotos_of [] = Nowhere
gotos_of (a ∷ []) = One a.target
gotos_of (a ∷ b ∷ arms) = Several (remove (a ∷ b ∷ arms) (catch_all_place (a ∷ b ∷ arms))) (target_at (a ∷ b ∷ arms) (catch_all_place (a ∷ b ∷ arms)))

pub are_gotos_of : (arms : List GotoArm) → IsGotosOf arms (gotos_of arms)
are_gotos_of [] = refl
are_gotos_of (a ∷ []) = refl
are_gotos_of (a ∷ b ∷ arms) = (catch_all_place (a ∷ b ∷ arms), (omega arith, catch_all_is a (b ∷ arms), refl, refl))

-- ---- numbers

module _ (P : ℕ → Type 0) where
  abbrev pub RangesAre : List StateRange → Type 0
  RangesAre [] = Unit {0}
  RangesAre (r ∷ rs) = P r.first × P r.last × RangesAre rs

  abbrev pub ArmsAre : List GotoArm → Type 0
  ArmsAre [] = Unit {0}
  ArmsAre (a ∷ arms) = P a.target × RangesAre a.ranges × ArmsAre arms

  abbrev pub EntriesAre : List (ℕ × ℕ) → Type 0
  EntriesAre [] = Unit {0}
  EntriesAre (e ∷ es) = P e.0 × P e.1 × EntriesAre es

  abbrev pub GotosAre : Gotos → Type 0
  GotosAre Nowhere = Unit {0}
  GotosAre (One t) = P t
  GotosAre (Several rest other) = ArmsAre rest × P other

  grow_are : (s : ℕ) (rs : List StateRange) → P s → RangesAre rs → RangesAre (grow s rs)
  grow_are s [] h a = (h, h, tt)
  grow_are s (r ∷ rs) h a =
      elim (r.first == s + 1) as (λ b. RangesAre (if b then record { first = s; last = r.last } ∷ rs else one_state_range s ∷ r ∷ rs)) [
        | true ↦ (h, a.1, a.2)
        | false ↦ (h, h, a)
      ]

  with_are : (s t : ℕ) (arms : List GotoArm) → P s → P t → ArmsAre arms → ArmsAre (with_state s t arms)
  with_are s t [] h g a = (g, (h, h, tt), tt)
  with_are s t (m ∷ arms) h g a =
      elim (nat_lt m.target t) as (λ b. ArmsAre (if b then m ∷ with_state s t arms
      else (if m.target == t then record { target = t; ranges = grow s m.ranges } ∷ arms
      else record { target = t; ranges = one_state_range s ∷ [] } ∷ m ∷ arms))) [
        | true ↦ (a.0, a.1, with_are s t arms h g a.2)
        | false ↦ elim (m.target == t) as (λ b. ArmsAre (if b then record { target = t; ranges = grow s m.ranges } ∷ arms
            else record { target = t; ranges = one_state_range s ∷ [] } ∷ m ∷ arms)) [
              | true ↦ (g, grow_are s m.ranges h a.1, a.2)
              | false ↦ (g, (h, h, tt), a)
            ]
      ]

  arms_are : (es : List (ℕ × ℕ)) → EntriesAre es → ArmsAre (arms_of es)
  arms_are [] a = tt
  arms_are (e ∷ es) a = with_are e.0 e.1 (arms_of es) a.0 a.1 (arms_are es a.2)

  rest_are : (arms : List GotoArm) (c : ℕ) → ArmsAre arms → ArmsAre (remove arms c)
  rest_are [] zero a = tt
  rest_are [] (suc c) a = tt
  rest_are (m ∷ arms) zero a = a.2
  rest_are (m ∷ arms) (suc c) a = (a.0, a.1, rest_are arms c a.2)

  target_is : (arms : List GotoArm) (c : ℕ) → c < length arms → ArmsAre arms → P (target_at arms c)
  target_is [] c h a = absurd (omega arith)
  target_is (m ∷ arms) zero h a = a.0
  target_is (m ∷ arms) (suc c) h a = target_is arms c (omega arith) a.2

  gotos_are : (arms : List GotoArm) → ArmsAre arms → GotosAre (gotos_of arms)
  gotos_are [] a = tt
  gotos_are (m ∷ []) a = a.0
  gotos_are (m ∷ n ∷ arms) a =
      let c = catch_all_place (m ∷ n ∷ arms) in
      let w = subst (λ k. c < k) (length-range_counts (m ∷ n ∷ arms)) (catch_all_is m (n ∷ arms)).within in
      (rest_are (m ∷ n ∷ arms) c a, target_is (m ∷ n ∷ arms) c w a)

  column_are : (n first : ℕ) (ss : List Lr1State) → ((k : ℕ) → k < length ss → P (first + k)) → ((k t : ℕ) → goto_at ss n k ≡ Some t → P t) → EntriesAre (column_from n first ss)
  column_are n first [] h g = tt
  column_are n first (s ∷ ss) h g =
      let rest = column_are n (first + 1) ss (λ k lt. subst P (moved first k) (h (suc k) (omega arith))) (λ k t e. g (suc k) t e) in
      let here : P first = subst P (add-zero first) (h 0 (omega arith)) in
      elim (get nat_cmp s.gotos n) as (λ o. get nat_cmp s.gotos n ≡ o → EntriesAre (with_goto first o (column_from n (first + 1) ss))) [
        | Some t ↦ λ e. (here, g 0 t e, rest)
        | None ↦ λ e. rest
      ] refl
    where
      moved : (first k : ℕ) → first + suc k ≡ (first + 1) + k
      moved first k = omega arith

  -- the numbers of the gotos on a nonterminal are those of states and of their targets
  pub column_gotos_are : (n : ℕ) (ss : List Lr1State) → ((k : ℕ) → k < length ss → P k) → ((k t : ℕ) → goto_at ss n k ≡ Some t → P t) → GotosAre (gotos_of (arms_of (column_from n 0 ss)))
  column_gotos_are n ss h g = gotos_are (arms_of (column_from n 0 ss)) (arms_are (column_from n 0 ss) (column_are n 0 ss (λ k lt. subst P (sym (zero-add k)) (h k lt)) g))
