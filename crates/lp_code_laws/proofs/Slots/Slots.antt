-- Slots that keep what they hold, and room for more.
use Rattle.std.proofs.Common.{◌≡◌, ℕ, zero, suc, ◌+◌, ◌<◌, ◌≤◌, List, [], ◌∷◌, ◌++◌, length, Some, refl, ◌∙◌, arith}
use Rattle.std.specs.Prelude.{slice_get, slice_set}
use Rattle.lp_core.specs.Val.{Val}
use Rattle.lp_maker.specs.Slots.{Names, after_slots, bound}
use Rattle.lp_code_laws.proofs.Ends.Lists.{get_other, length_set}
use Rattle.lp_code_laws.specs.Slots.Shows.{HasRoom, Keeps}

module _ {A : Type 0} where
  pub get_within : (xs : List A) (i : ℕ) → i < length xs → (x : A) × (slice_get xs i ≡ Some x)
  get_within [] i h = absurd (omega arith)
  get_within (x ∷ xs) zero h = (x, refl)
  get_within (x ∷ xs) (suc i) h = get_within xs i (omega arith)

  -- what stands behind a list, and in its front
  pub get_behind : (xs : List A) (x : A) (ys : List A) → slice_get (xs ++ x ∷ ys) (length xs) ≡ Some x
  get_behind [] x ys = refl
  get_behind (y ∷ xs) x ys = get_behind xs x ys

-- nothing changes; one change and then another; fewer slots; a later slot
pub keeps_all : (n : ℕ) (env : List Val) → Keeps n env env
keeps_all n env = record { many = refl; same = λ i less. refl }

pub keeps_both : {n : ℕ} {a b c : List Val} → Keeps n a b → Keeps n b c → Keeps n a c
keeps_both h g = record { many = g.many ∙ h.many; same = λ i less. g.same i less ∙ h.same i less }

pub keeps_fewer : {m n : ℕ} {a b : List Val} → Keeps n a b → m ≤ n → Keeps m a b
keeps_fewer h le = record { many = h.many; same = λ i less. h.same i (omega arith) }

pub keeps_set : (n x : ℕ) (env : List Val) (w : Val) → n ≤ x → Keeps n env (slice_set env x w)
keeps_set n x env w le = record { many = length_set env x w; same = λ i less. get_other env x i w (λ same. omega (arith, same)) }

-- the next slot is there
pub next_slot : {n : ℕ} {names : Names} {env : List Val} → HasRoom (suc n) names env → (old : Val) × (slice_get env names.next ≡ Some old)
next_slot {n} {names} {env} h = get_within env names.next (omega (arith, h.room))

-- so many are given out
pub room_after : (c n : ℕ) (names : Names) (env : List Val) → HasRoom (c + n) names env → HasRoom n (after_slots c names) env
room_after c n names env h = record { room = omega (arith, h.room) }

pub room_kept : {n k : ℕ} {names : Names} {env after : List Val} → HasRoom n names env → Keeps k env after → HasRoom n names after
room_kept h g = record { room = omega (arith, h.room, g.many) }

pub room_fewer : {m n : ℕ} {names : Names} {env : List Val} → HasRoom n names env → m ≤ n → HasRoom m names env
room_fewer h le = record { room = omega (arith, h.room) }

pub room_bound : (name : List ℕ) (n : ℕ) (names : Names) (env : List Val) → HasRoom (suc n) names env → HasRoom n (bound name names) env
room_bound name n names env h = record { room = omega (arith, h.room) }
