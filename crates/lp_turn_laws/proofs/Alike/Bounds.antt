-- Bounds on steps, over plain numbers.
use Rattle.std.proofs.Common.{◌≡◌, ℕ, ◌+◌, ◌*◌, ◌<◌, ◌≤◌, ap, arith}
use Rattle.std.proofs.Math.Nat.{mul-le-mul_left}

-- what is less than a factor is less than its product
pub bounded : (a n k : ℕ) → a < n → a < n * (k + 1)
bounded a n k h = omega arith

-- less than some costs is less than more
pub less_bound : (a cost m n : ℕ) → a < cost * m → m ≤ n → a < cost * n
less_bound a cost m n h le =
    let k : cost * m ≤ cost * n = mul-le-mul_left cost le in
    omega (arith, k)

-- costs that are put aside
pub aside_bound : (a cost rate m k : ℕ) → m ≤ k → a + cost * m ≤ a + cost * (rate * 0 + k)
aside_bound a cost rate m k le =
    let h : cost * m ≤ cost * k = mul-le-mul_left cost le in
    omega (arith, h)

-- questions that cost so much, with moves
pub spent_bound : (a b cost rate u m spare later : ℕ) → a ≤ b + cost * u → u + later ≤ rate * m + spare → a + cost * later ≤ b + cost * (rate * m + spare)
spent_bound a b cost rate u m spare later h few =
    let l : cost * (u + later) ≤ cost * (rate * m + spare) = mul-le-mul_left cost few in
    omega (arith, l)

-- turns after those
pub on_bound : (a b c cost rate m n spare later x : ℕ) → a + cost * later ≤ b + cost * (rate * m + spare) → b + cost * x ≤ c + cost * (rate * n + later) → a + cost * x ≤ c + cost * (rate * (m + n) + spare)
on_bound a b c cost rate m n spare later x h k = omega arith

pub stop_bound : (a b cost rate m j i spare later : ℕ) → a + cost * later ≤ b + cost * (rate * m + spare) → b < cost * (rate * j + later) → i ≡ m + j → a < cost * (rate * i + spare)
stop_bound a b cost rate m j i spare later h less is =
    let e : cost * (rate * i + spare) ≡ cost * (rate * (m + j) + spare) = ap (λ i. cost * (rate * i + spare)) is in
    omega (arith, e)

pub run_bound : (a b cost extra k : ℕ) → a ≤ b + 2 * cost → b < cost * ((5 + extra) * k + (3 + extra)) → a < (5 + extra) * cost * (k + 1)
run_bound a b cost extra k h less = omega arith
