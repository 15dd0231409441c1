-- What a move costs, and that nothing is asked of mending where there is no error terminal.
use Rattle.std.proofs.Common.{◌≡◌, ℕ, zero, suc, ◌+◌, ◌<◌, ◌≤◌, length, Option, Some, None, refl, sym, ap, ◌∙◌, arith}
use Rattle.lp_machine.specs.Tables.{Tables}
use Rattle.lp_turn_laws.specs.Alike.Course.{extra_with, rate}

pub no_mending : {A : Type 0} (t : Tables) → t.error ≡ None → (e : ℕ) → t.error ≡ Some e → A
no_mending t none e some = (let never : None ≡ Some e = sym none ∙ some in absurd (cc))

-- five without an error terminal, or with a name of a terminal, and at most nine
pub rate_without : (t : Tables) → t.error ≡ None → rate t ≡ 5
rate_without t none = ap (λ (o : Option ℕ). 5 + extra_with o (length t.names)) none

named : (o : Option ℕ) (n : ℕ) → 0 < n → extra_with o n ≡ 0
named None n some = refl
named (Some e) zero some = absurd (omega arith)
named (Some e) (suc n) some = refl

pub rate_named : (t : Tables) → 0 < length t.names → rate t ≡ 5
rate_named t some = ap (λ (n : ℕ). 5 + n) (named t.error (length t.names) some)

few : (o : Option ℕ) (n : ℕ) → extra_with o n ≤ 4
few None n = omega arith
few (Some e) zero = omega arith
few (Some e) (suc n) = omega arith

pub rate_most : (t : Tables) → rate t ≤ 9
rate_most t = (let h = few t.error (length t.names) in omega (arith, h))
