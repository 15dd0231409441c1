-- Names that are bound one after another: what they show, and whose slots are whose.
use Rattle.std.proofs.Common.{◌≡◌, ℕ, zero, suc, ◌+◌, ◌<◌, Bool, true, false, List, [], ◌∷◌, Some, slice_get, refl, sym, ap, ◌∙◌, subst, arith}
use Rattle.std.specs.Prelude.{if◌then◌else◌}
use Rattle.std.specs.Str.{bytes_eq}
use Rattle.std.proofs.lemmas.Option.{same_Some}
use Rattle.std.proofs.lemmas.Slice.Eq.{bytes_eq-Decides}
use Rattle.lp_core.specs.Val.{Val}
use Rattle.lp_maker.specs.Slots.{Names, no_names, after_slots, bound, slot_of}
use Rattle.lp_code_laws.specs.Slots.Shows.{Shows}
use Rattle.lp_code_laws.proofs.Slots.Names.{slot_named, shows_this, shows_other}
use Rattle.lp_question_laws.proofs.Reductions.Parameters.{bound_each}

-- wherever the name stands among these, its slot holds the value
abbrev pub HoldsAll : List (List ℕ) → ℕ → List Val → List ℕ → Val → Type 0
HoldsAll qs next env key v = (j : ℕ) → slice_get qs j ≡ Some key → slice_get env (next + j) ≡ Some v

later_holds : (q : List ℕ) (qs : List (List ℕ)) (next : ℕ) (env : List Val) (key : List ℕ) (v : Val) → HoldsAll (q ∷ qs) next env key v → HoldsAll qs (next + 1) env key v
later_holds q qs next env key v h j at = (let same : (next + 1) + j ≡ next + suc j = omega arith in ap (slice_get env) same ∙ h (suc j) at)

-- a name that is shown is shown still
still_shows : (qs : List (List ℕ)) (names : Names) (env : List Val) (key : List ℕ) (v : Val) → Shows names env key v → HoldsAll qs names.next env key v → Shows (bound_each names qs) env key v
still_shows [] names env key v h all = h
still_shows (q ∷ qs) names env key v h all = still_shows qs (bound q names) env key v (by (bytes_eq q key) refl) (later_holds q qs names.next env key v all)
  where
    by : (b : Bool) → bytes_eq q key ≡ b → Shows (bound q names) env key v
    by true is =
        let same : q ≡ key = (bytes_eq-Decides q key).0 is in
        let none : names.next ≡ names.next + 0 = omega arith in
        subst (λ k. Shows (bound q names) env k v) same (shows_this q names env v (ap (slice_get env) none ∙ all 0 (ap Some same)))
    by false is = shows_other q is h

-- a name of theirs is shown
pub each_shows : (qs : List (List ℕ)) (names : Names) (env : List Val) (i : ℕ) (key : List ℕ) (v : Val) → slice_get qs i ≡ Some key → HoldsAll qs names.next env key v → Shows (bound_each names qs) env key v
each_shows [] names env i key v at all = absurd cc
each_shows (q ∷ qs) names env zero key v at all =
    let same : q ≡ key = same_Some q key at in
    let none : names.next ≡ names.next + 0 = omega arith in
    still_shows qs (bound q names) env key v (subst (λ k. Shows (bound q names) env k v) same (shows_this q names env v (ap (slice_get env) none ∙ all 0 at))) (later_holds q qs names.next env key v all)
each_shows (q ∷ qs) names env (suc i) key v at all = each_shows qs (bound q names) env i key v at (later_holds q qs names.next env key v all)

-- ---- slots
-- no name has a slot that isn't given out
abbrev pub AreBelow : Names → Type 0
AreBelow names = (key : List ℕ) (slot : ℕ) → slot_of key names ≡ Some slot → slot < names.next

bound_below : (name : List ℕ) (names : Names) → AreBelow names → AreBelow (bound name names)
bound_below name names h key slot is = by (bytes_eq name key) (sym (slot_named key name names.next (after_slots 1 names)) ∙ is)
  where
    by : (b : Bool) → (if b then Some names.next else slot_of key names) ≡ Some slot → slot < names.next + 1
    by true e = (let same : names.next ≡ slot = same_Some names.next slot e in omega (arith, same))
    by false e = (let less = h key slot e in omega (arith, less))

pub each_below : (qs : List (List ℕ)) (names : Names) → AreBelow names → AreBelow (bound_each names qs)
each_below [] names h = h
each_below (q ∷ qs) names h = each_below qs (bound q names) (bound_below q names h)

pub none_below : AreBelow no_names
none_below key slot is = absurd cc

-- but for one name, none has this slot
abbrev pub IsAlone : List ℕ → ℕ → Names → Type 0
IsAlone own made names = (key : List ℕ) (slot : ℕ) → bytes_eq own key ≡ false → slot_of key names ≡ Some slot → made ≡ slot → ⊥

-- a name that is bound is alone in its slot
pub bound_alone : (name : List ℕ) (names : Names) → AreBelow names → IsAlone name names.next (bound name names)
bound_alone name names h key slot other is same = by (sym (slot_named key name names.next (after_slots 1 names)) ∙ is)
  where
    by : (if bytes_eq name key then Some names.next else slot_of key names) ≡ Some slot → ⊥
    by e =
        let found : slot_of key names ≡ Some slot = sym (ap (λ (b : Bool). if b then Some names.next else slot_of key names) other) ∙ e in
        let less = h key slot found in
        absurd (omega (arith, less, same))

-- and is still where another is bound
pub still_alone : (own : List ℕ) (made : ℕ) (name : List ℕ) (names : Names) → made < names.next → IsAlone own made names → IsAlone own made (bound name names)
still_alone own made name names less h key slot other is same = by (bytes_eq name key) (sym (slot_named key name names.next (after_slots 1 names)) ∙ is)
  where
    by : (b : Bool) → (if b then Some names.next else slot_of key names) ≡ Some slot → ⊥
    by true e = (let at : names.next ≡ slot = same_Some names.next slot e in absurd (omega (arith, at, less, same)))
    by false e = h key slot other e same
