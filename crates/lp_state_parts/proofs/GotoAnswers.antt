-- What the arms of a goto function answer: the table's entry wherever the table has one.
use Rattle.std.proofs.Common.{◌≡◌, ℕ, suc, ◌+◌, ◌<◌, ◌≤◌, ◌||◌, Bool, true, false, nat_eq, nat_lt, List, [], ◌∷◌, Option, Some, None, IfSome, length, get_or, zero, if◌then◌else◌, refl, ap, subst, sym, ◌∙◌, arith}
use Rattle.std.proofs.lemmas.Bool.{ltb-true, ltb-false, eq-eqb, ne_eqb, eqb-true, eqb-false}
use Rattle.std.specs.List.{list_any}
use Rattle.lp_state_parts.specs.declared.gotos.StateRange.{StateRange}
use Rattle.lp_state_parts.specs.declared.gotos.GotoArm.{GotoArm}
use Rattle.std.specs.List.{remove}
use Rattle.std.specs.Ordering.{nat_cmp}
use Rattle.std.specs.BTreeMap.{get}
use Rattle.lp_repr.specs.declared.lr1.Lr1State.{Lr1State}
use Rattle.lp_state_parts.specs.declared.gotos.Gotos.{Gotos}
use Rattle.lp_state_parts.specs.declared.gotos.Gotos.TheVariants.{Nowhere, One, Several}
use Rattle.lp_state_parts.specs.GotoLaw.{IsGotosOf, answer, entry_at, goto_at, target_at}
use Rattle.lp_state_parts.specs.Gotos.{column_from, range_counts, with_goto, arms_of, grow, has_state, is_in, one_state_range, target_in, with_state}

-- a range begins after a state, and doesn't end before it begins
pub record IsAfter (s : ℕ) (r : StateRange) : Type 0 where
  pub begins : s < r.first
  pub ends : r.first ≤ r.last

abbrev RangesAfter : ℕ → List StateRange → Type 0
RangesAfter s [] = Unit {0}
RangesAfter s (r ∷ rs) = IsAfter s r × RangesAfter s rs

abbrev ArmsAfter : ℕ → List GotoArm → Type 0
ArmsAfter s [] = Unit {0}
ArmsAfter s (a ∷ arms) = RangesAfter s a.ranges × ArmsAfter s arms

-- a state is in no range after it
not_in_after : (s : ℕ) (r : StateRange) → s < r.first → is_in s r ≡ false
not_in_after s r h = grind arith

not_in_ranges_after : (s : ℕ) (rs : List StateRange) → RangesAfter s rs → list_any (is_in s) rs ≡ false
not_in_ranges_after s [] h = refl
not_in_ranges_after s (r ∷ rs) h = rw (not_in_after s r h.0.begins) (not_in_ranges_after s rs h.1)

-- what comes after a state comes after a lesser one
ranges_after_less : (s k : ℕ) (rs : List StateRange) → s < k → RangesAfter k rs → RangesAfter s rs
ranges_after_less s k [] h a = tt
ranges_after_less s k (r ∷ rs) h a =
    (let b : k < r.first = a.0.begins in record { begins = omega arith; ends = a.0.ends }, ranges_after_less s k rs h a.1)

-- a range of one state
in_one : (s k : ℕ) → is_in s (one_state_range k) ≡ nat_eq k s
in_one s k = grind arith

-- a range that begins one state earlier
in_longer : (s k last : ℕ) → k + 1 ≤ last →
    is_in s (record { first = k; last = last }) ≡ (nat_eq k s || is_in s (record { first = k + 1; last = last }))
in_longer s k last h = grind arith

-- ---- growing ranges

ranges_after-grow : (s k : ℕ) (rs : List StateRange) → s < k → RangesAfter k rs → RangesAfter s (grow k rs)
ranges_after-grow s k [] h a = (record { begins = h; ends = omega arith }, tt)
ranges_after-grow s k (r ∷ rs) h a =
    elim (nat_eq r.first (k + 1)) as (λ b. nat_eq r.first (k + 1) ≡ b → RangesAfter s (if b then record { first = k; last = r.last } ∷ rs else one_state_range k ∷ r ∷ rs)) [
      | true ↦ λ e. (
        let f : r.first ≡ k + 1 = eqb-true r.first (k + 1) e in
            let l : r.first ≤ r.last = a.0.ends in
            record { begins = h; ends = omega arith },
        ranges_after_less s k rs h a.1,
      )
      | false ↦ λ e. (record { begins = h; ends = omega arith }, ranges_after_less s k (r ∷ rs) h a)
    ] refl

in_ranges-grow : (s k : ℕ) (rs : List StateRange) → RangesAfter k rs →
    list_any (is_in s) (grow k rs) ≡ (nat_eq k s || list_any (is_in s) rs)
in_ranges-grow s k [] a = ap (λ b. b || false) (in_one s k)
in_ranges-grow s k (r ∷ rs) a =
    elim (nat_eq r.first (k + 1)) as (λ b. nat_eq r.first (k + 1) ≡ b →
    list_any (is_in s) (if b then record { first = k; last = r.last } ∷ rs else one_state_range k ∷ r ∷ rs)
    ≡ (nat_eq k s || list_any (is_in s) (r ∷ rs))) [
      | true ↦ λ e.
          (let f : r.first ≡ k + 1 = eqb-true r.first (k + 1) e in
          let l : r.first ≤ r.last = a.0.ends in
          let m : k + 1 ≤ r.last = omega arith in
          ap (λ b. b || list_any (is_in s) rs) (in_longer s k r.last m ∙ ap (λ n. nat_eq k s || is_in s (record { first = n; last = r.last })) (sym f))
          ∙ or_assoc (nat_eq k s) (is_in s r) (list_any (is_in s) rs))
      | false ↦ λ e. ap (λ b. b || list_any (is_in s) (r ∷ rs)) (in_one s k)
    ] refl
  where
    or_assoc : (a b c : Bool) → ((a || b) || c) ≡ (a || (b || c))
    or_assoc true b c = refl
    or_assoc false b c = refl

-- ---- a state more

arms_after_less : (s k : ℕ) (arms : List GotoArm) → s < k → ArmsAfter k arms → ArmsAfter s arms
arms_after_less s k [] h a = tt
arms_after_less s k (arm ∷ arms) h a = (ranges_after_less s k arm.ranges h a.0, arms_after_less s k arms h a.1)

-- the three ways in which a state joins arms
joins :
    (P : List GotoArm → Type 0) (k t : ℕ) (arm : GotoArm) (arms : List GotoArm) →
    (arm.target < t → P (arm ∷ with_state k t arms)) →
    (arm.target ≡ t → P (record { target = t; ranges = grow k arm.ranges } ∷ arms)) →
    (t < arm.target → P (record { target = t; ranges = one_state_range k ∷ [] } ∷ arm ∷ arms)) →
    P (with_state k t (arm ∷ arms))
joins P k t arm arms less here greater =
    elim (nat_lt arm.target t) as (λ b. nat_lt arm.target t ≡ b →
    P (if b then arm ∷ with_state k t arms
    else (if nat_eq arm.target t then record { target = t; ranges = grow k arm.ranges } ∷ arms
    else record { target = t; ranges = one_state_range k ∷ [] } ∷ arm ∷ arms))) [
      | true ↦ λ e. less (ltb-true arm.target t e)
      | false ↦ λ e.
          elim (nat_eq arm.target t) as (λ b. nat_eq arm.target t ≡ b →
          P (if b then record { target = t; ranges = grow k arm.ranges } ∷ arms
          else record { target = t; ranges = one_state_range k ∷ [] } ∷ arm ∷ arms)) [
            | true ↦ λ f. here (eqb-true arm.target t f)
            | false ↦ λ f.
                (let le : t ≤ arm.target = ltb-false arm.target t e in
                let ne : arm.target ≡ t → ⊥ = eqb-false arm.target t f in
                greater (omega arith))
          ] refl
    ] refl

arms_after-with_state : (s k t : ℕ) (arms : List GotoArm) → s < k → ArmsAfter k arms → ArmsAfter s (with_state k t arms)
arms_after-with_state s k t [] h a = ((record { begins = h; ends = omega arith }, tt), tt)
arms_after-with_state s k t (arm ∷ arms) h a =
    joins (ArmsAfter s) k t arm arms
    (λ _. (ranges_after_less s k arm.ranges h a.0, arms_after-with_state s k t arms h a.1))
    (λ _. (ranges_after-grow s k arm.ranges h a.0, arms_after_less s k arms h a.1))
    (λ _. ((record { begins = h; ends = omega arith }, tt), arms_after_less s k (arm ∷ arms) h a))

any_has-with_state : (s k t : ℕ) (arms : List GotoArm) → ArmsAfter k arms →
    list_any (has_state s) (with_state k t arms) ≡ (nat_eq k s || list_any (has_state s) arms)
any_has-with_state s k t [] a = ap (λ b. (b || false) || false) (in_one s k) ∙ twice (nat_eq k s)
  where
    twice : (b : Bool) → ((b || false) || false) ≡ (b || false)
    twice true = refl
    twice false = refl
any_has-with_state s k t (arm ∷ arms) a =
    joins (λ as'. list_any (has_state s) as' ≡ (nat_eq k s || list_any (has_state s) (arm ∷ arms))) k t arm arms
    (λ _. ap (λ b. has_state s arm || b) (any_has-with_state s k t arms a.1) ∙ swap (has_state s arm) (nat_eq k s) (list_any (has_state s) arms))
    (λ _. ap (λ b. b || list_any (has_state s) arms) (in_ranges-grow s k arm.ranges a.0) ∙ assoc (nat_eq k s) (has_state s arm) (list_any (has_state s) arms))
    (λ _. ap (λ b. (b || false) || list_any (has_state s) (arm ∷ arms)) (in_one s k) ∙ drop_false (nat_eq k s) (list_any (has_state s) (arm ∷ arms)))
  where
    swap : (a b c : Bool) → (a || (b || c)) ≡ (b || (a || c))
    swap true true c = refl
    swap true false c = refl
    swap false b c = refl

    assoc : (a b c : Bool) → ((a || b) || c) ≡ (a || (b || c))
    assoc true b c = refl
    assoc false b c = refl

    drop_false : (a b : Bool) → ((a || false) || b) ≡ (a || b)
    drop_false true b = refl
    drop_false false b = refl

-- ---- what arms answer

-- an arm that has a state has the target that f gives it
abbrev Sound : (ℕ → Option ℕ) → List GotoArm → Type 0
Sound f [] = Unit {0}
Sound f (a ∷ arms) = ((s : ℕ) → has_state s a ≡ true → f s ≡ Some a.target) × Sound f arms

-- f with one more entry
abbrev with_entry : ℕ → ℕ → (ℕ → Option ℕ) → ℕ → Option ℕ
with_entry k t f s = if nat_eq k s then Some t else f s

kept_sound : (k t : ℕ) (f : ℕ → Option ℕ) (arm : GotoArm) → RangesAfter k arm.ranges →
    ((s : ℕ) → has_state s arm ≡ true → f s ≡ Some arm.target) →
    (s : ℕ) → has_state s arm ≡ true → with_entry k t f s ≡ Some arm.target
kept_sound k t f arm a h s has =
    elim (nat_eq k s) as (λ b. nat_eq k s ≡ b → (if b then Some t else f s) ≡ Some arm.target) [
      | true ↦ λ e.
          (let same : k ≡ s = eqb-true k s e in
          let no : has_state s arm ≡ false = subst (λ n. has_state n arm ≡ false) same (not_in_ranges_after k arm.ranges a) in
          let bad : true ≡ false = sym has ∙ no in cc)
      | false ↦ λ e. h s has
    ] refl

kept_all_sound : (k t : ℕ) (f : ℕ → Option ℕ) (arms : List GotoArm) → ArmsAfter k arms → Sound f arms → Sound (with_entry k t f) arms
kept_all_sound k t f [] a h = tt
kept_all_sound k t f (arm ∷ arms) a h = (kept_sound k t f arm a.0 h.0, kept_all_sound k t f arms a.1 h.1)

-- the new state, or one of before, in an arm with the new state
grown_sound : (k t : ℕ) (f : ℕ → Option ℕ) (before : Bool) (s : ℕ) →
    (before ≡ true → f s ≡ Some t) → (nat_eq k s || before) ≡ true → with_entry k t f s ≡ Some t
grown_sound k t f before s h has =
    elim (nat_eq k s) as (λ b. (b || before) ≡ true → (if b then Some t else f s) ≡ Some t) [
      | true ↦ λ _. refl
      | false ↦ λ e. h e
    ] has

sound-with_state : (k t : ℕ) (f : ℕ → Option ℕ) (arms : List GotoArm) → ArmsAfter k arms → Sound f arms →
    Sound (with_entry k t f) (with_state k t arms)
sound-with_state k t f [] a h = (λ s has. grown_sound k t f false s (λ e. cc) (sym (ap (λ b. b || false) (in_one s k)) ∙ has), tt)
sound-with_state k t f (arm ∷ arms) a h =
    joins (Sound (with_entry k t f)) k t arm arms
    (λ _. (kept_sound k t f arm a.0 h.0, sound-with_state k t f arms a.1 h.1))
    (λ same. (
      λ s has. grown_sound k t f (has_state s arm) s (λ e. h.0 s e ∙ ap Some same) (sym (in_ranges-grow s k arm.ranges a.0) ∙ has),
      kept_all_sound k t f arms a.1 h.1,
    ))
    (λ _. (
      λ s has. grown_sound k t f false s (λ e. cc) (sym (ap (λ b. b || false) (in_one s k)) ∙ has),
      kept_all_sound k t f (arm ∷ arms) a h,
    ))

-- ---- columns

abbrev StatesAfter : ℕ → List (ℕ × ℕ) → Type 0
StatesAfter s [] = Unit {0}
StatesAfter s (e ∷ es) = (s < e.0) × StatesAfter s es

abbrev Ascending : List (ℕ × ℕ) → Type 0
Ascending [] = Unit {0}
Ascending (e ∷ es) = StatesAfter e.0 es × Ascending es

arms_of_after : (s : ℕ) (es : List (ℕ × ℕ)) → StatesAfter s es → Ascending es → ArmsAfter s (arms_of es)
arms_of_after s [] h a = tt
arms_of_after s (e ∷ es) h a = arms_after-with_state s e.0 e.1 (arms_of es) h.0 (arms_of_after e.0 es a.0 a.1)

sound-arms_of : (es : List (ℕ × ℕ)) → Ascending es → Sound (entry_at es) (arms_of es)
sound-arms_of [] a = tt
sound-arms_of (e ∷ es) a = sound-with_state e.0 e.1 (entry_at es) (arms_of es) (arms_of_after e.0 es a.0 a.1) (sound-arms_of es a.1)

any_has-arms_of : (s t : ℕ) (es : List (ℕ × ℕ)) → Ascending es → entry_at es s ≡ Some t → list_any (has_state s) (arms_of es) ≡ true
any_has-arms_of s t [] a h = cc
any_has-arms_of s t (e ∷ es) a h =
    any_has-with_state s e.0 e.1 (arms_of es) (arms_of_after e.0 es a.0 a.1)
    ∙ elim (nat_eq e.0 s) as (λ b. (if b then Some e.1 else entry_at es s) ≡ Some t → (b || list_any (has_state s) (arms_of es)) ≡ true) [
      | true ↦ λ _. refl
      | false ↦ λ g. any_has-arms_of s t es a.1 g
    ] h

states_after-column : (n s i : ℕ) (ss : List Lr1State) → s < i → StatesAfter s (column_from n i ss)
states_after-column n s i [] h = tt
states_after-column n s i (st ∷ ss) h =
    elim (get nat_cmp st.gotos n) as (λ o. StatesAfter s (with_goto i o (column_from n (i + 1) ss))) [
      | Some t ↦ (h, states_after-column n s (i + 1) ss (omega arith))
      | None ↦ states_after-column n s (i + 1) ss (omega arith)
    ]

ascending-column : (n i : ℕ) (ss : List Lr1State) → Ascending (column_from n i ss)
ascending-column n i [] = tt
ascending-column n i (st ∷ ss) =
    elim (get nat_cmp st.gotos n) as (λ o. Ascending (with_goto i o (column_from n (i + 1) ss))) [
      | Some t ↦ (states_after-column n i (i + 1) ss (omega arith), ascending-column n (i + 1) ss)
      | None ↦ ascending-column n (i + 1) ss
    ]

-- no state of a column comes before it
entry_before : (n i s : ℕ) (ss : List Lr1State) → s < i → entry_at (column_from n i ss) s ≡ None
entry_before n i s [] h = refl
entry_before n i s (st ∷ ss) h =
    elim (get nat_cmp st.gotos n) as (λ o. entry_at (with_goto i o (column_from n (i + 1) ss)) s ≡ None) [
      | Some t ↦ (let ne : i ≡ s → ⊥ = omega arith in rw (ne_eqb i s ne) (entry_before n (i + 1) s ss (omega arith)))
      | None ↦ entry_before n (i + 1) s ss (omega arith)
    ]

entry_at-column : (n i k : ℕ) (ss : List Lr1State) → entry_at (column_from n i ss) (i + k) ≡ goto_at ss n k
entry_at-column n i k [] = refl
entry_at-column n i zero (st ∷ ss) =
    elim (get nat_cmp st.gotos n) as (λ o. entry_at (with_goto i o (column_from n (i + 1) ss)) (i + 0) ≡ o) [
      | Some t ↦ (let e : i ≡ i + 0 = omega arith in rw (eq-eqb i (i + 0) e) refl)
      | None ↦ (let lt : i + 0 < i + 1 = omega arith in entry_before n (i + 1) (i + 0) ss lt)
    ]
entry_at-column n i (suc k) (st ∷ ss) =
    (elim (get nat_cmp st.gotos n) as (λ o. entry_at (with_goto i o (column_from n (i + 1) ss)) (i + suc k) ≡ entry_at (column_from n (i + 1) ss) (i + suc k)) [
      | Some t ↦ (let ne : i ≡ i + suc k → ⊥ = omega arith in rw (ne_eqb i (i + suc k) ne) refl)
      | None ↦ refl
    ])
    ∙ (ap (entry_at (column_from n (i + 1) ss)) (let e : i + suc k ≡ (i + 1) + k = omega arith in e)
    ∙ entry_at-column n (i + 1) k ss)

-- ---- answers

target_in-sound : (f : ℕ → Option ℕ) (s t other : ℕ) (arms : List GotoArm) → Sound f arms → f s ≡ Some t →
    target_in arms other s ≡ (if list_any (has_state s) arms then t else other)
target_in-sound f s t other [] h e = refl
target_in-sound f s t other (a ∷ arms) h e =
    elim (has_state s a) as (λ b. has_state s a ≡ b →
    (if b then a.target else target_in arms other s) ≡ (if b || list_any (has_state s) arms then t else other)) [
      | true ↦ λ has. (let g : Some a.target ≡ Some t = sym (h.0 s has) ∙ e in cc)
      | false ↦ λ has. target_in-sound f s t other arms h.1 e
    ] refl

answer-without : (f : ℕ → Option ℕ) (s t c : ℕ) (arms : List GotoArm) → c < length arms → Sound f arms → f s ≡ Some t →
    list_any (has_state s) arms ≡ true → target_in (remove arms c) (target_at arms c) s ≡ t
answer-without f s t zero (a ∷ arms) h sound e any =
    target_in-sound f s t a.target arms sound.1 e
    ∙ elim (list_any (has_state s) arms) as (λ b. (has_state s a || b) ≡ true → (if b then t else a.target) ≡ t) [
      | true ↦ λ _. refl
      | false ↦ λ g. (let has : has_state s a ≡ true = only (has_state s a) g in
          let r : Some a.target ≡ Some t = sym (sound.0 s has) ∙ e in cc)
    ] any
  where
    only : (b : Bool) → (b || false) ≡ true → b ≡ true
    only true g = refl
    only false g = g
answer-without f s t (suc c) (a ∷ arms) h sound e any =
    elim (has_state s a) as (λ b. has_state s a ≡ b → (b || list_any (has_state s) arms) ≡ true →
    (if b then a.target else target_in (remove arms c) (target_at arms c) s) ≡ t) [
      | true ↦ λ has _. (let r : Some a.target ≡ Some t = sym (sound.0 s has) ∙ e in cc)
      | false ↦ λ has g. answer-without f s t c arms (omega arith) sound.1 e g
    ] refl any
answer-without f s t c [] h sound e any = absurd (omega arith)

pub length-range_counts : (arms : List GotoArm) → length (range_counts arms) ≡ length arms
length-range_counts [] = refl
length-range_counts (a ∷ arms) = ap suc (length-range_counts arms)

pub target_at-get_or : (arms : List GotoArm) (i : ℕ) (d : GotoArm) → i < length arms → target_at arms i ≡ (get_or arms i d).target
target_at-get_or [] i d h = absurd (omega arith)
target_at-get_or (a ∷ arms) zero d h = refl
target_at-get_or (a ∷ arms) (suc i) d h = target_at-get_or arms i d (omega arith)

answered :
    (g : Gotos) (arms : List GotoArm) (f : ℕ → Option ℕ) → IsGotosOf arms g → Sound f arms →
    (s t : ℕ) → f s ≡ Some t → list_any (has_state s) arms ≡ true → answer g s ≡ t
answered Nowhere arms f h sound s t e any =
    (let no : false ≡ true = subst (λ as'. list_any (has_state s) as' ≡ true) h any in cc)
answered (One target) [] f h sound s t e any = cc
answered (One target) (a ∷ []) f h sound s t e any =
    (let has : has_state s a ≡ true = only (has_state s a) any in
    let r : Some a.target ≡ Some t = sym (sound.0 s has) ∙ e in cc)
  where
    only : (b : Bool) → (b || false) ≡ true → b ≡ true
    only true g = refl
    only false g = g
answered (One target) (a ∷ b ∷ arms) f h sound s t e any = cc
answered (Several rest other) arms f h sound s t e any =
    ap (λ r. target_in r other s) h.1.2 ∙ (ap (λ o. target_in (remove arms h.0) o s) h.1.3
    ∙ answer-without f s t h.0 arms (within-of h.1.1.within) sound e any)
  where
    within-of : h.0 < length (range_counts arms) → h.0 < length arms
    within-of w = subst (λ n. h.0 < n) (length-range_counts arms) w

-- the gotos of these arms answer the entry of each state that has one
pub faithful :
    (n : ℕ) (ss : List Lr1State) (g : Gotos) → IsGotosOf (arms_of (column_from n 0 ss)) g →
    (i : ℕ) → IfSome (goto_at ss n i) (λ t. answer g i ≡ t)
faithful n ss g h i =
    elim (goto_at ss n i) as (λ o. goto_at ss n i ≡ o → IfSome o (λ t. answer g i ≡ t)) [
      | Some t ↦ λ e. answered g (arms_of (column_from n 0 ss)) (entry_at (column_from n 0 ss)) h (sound-arms_of _ (ascending-column n 0 ss)) i t (entry t e)
          (any_has-arms_of i t _ (ascending-column n 0 ss) (entry t e))
      | None ↦ λ e. tt
    ] refl
  where
    entry : (t : ℕ) → goto_at ss n i ≡ Some t → entry_at (column_from n 0 ss) i ≡ Some t
    entry t e = ap (entry_at (column_from n 0 ss)) (let z : i ≡ 0 + i = omega arith in z) ∙ (entry_at-column n 0 i ss ∙ e)
