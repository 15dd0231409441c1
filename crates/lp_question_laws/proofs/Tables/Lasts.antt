-- The number of the last terminal is read back as it is printed.
use Rattle.std.proofs.Common.{◌≡◌, ℕ, ◌+◌, ◌-◌, ◌<◌, ◌^◌, Bool, true, false, ◌++◌, Option, Some, None, refl, ap, ◌∙◌, arith, codes, decimal}
use Rattle.std.specs.Prelude.{◌==◌, ◌||◌, nat_le, if◌then◌else◌}
use Rattle.std.proofs.lemmas.Bool.Decides.{nat_tests}
use Rattle.lp_build.specs.Machine as printed
use Rattle.lp_maker.specs.Numbers.{number_of}
use Rattle.lp_bodies.specs.MachineMethods.{difference, last_in, last_terminal, less_found}
use Rattle.lp_question_laws.proofs.Gotos.Cuts.{cut_joined, cut_none}
use Rattle.lp_question_laws.proofs.Gotos.Digits.{decimal_lacks, number_of_decimal}

one_less : (n e : ℕ) → e + 1 ≡ n → difference n 1 ≡ Some e
one_less n e is = by (nat_le 1 n) refl
  where
    by : (b : Bool) → nat_le 1 n ≡ b → (if b then Some (n - 1) else None) ≡ Some e
    by true h = (let less : n - 1 ≡ e = omega (arith, is) in ap Some less)
    by false h = absurd (grind (arith, nat_tests))

-- a number with ` - 1` behind it
less_read : (n e : ℕ) → e + 1 ≡ n → n < 2 ^ 64 → last_terminal (decimal n ++ codes " - 1") ≡ Some e
less_read n e is small =
    ap (last_in (decimal n ++ codes " - 1")) (cut_joined 32 (codes "- ") (decimal n) (codes "1") (decimal_lacks 32 n (λ r. omega arith) small))
    ∙ ap (λ (o : Option ℕ). less_found o (number_of (codes "1"))) (number_of_decimal n small)
    ∙ one_less n e is

-- a number alone
whole_read : (n : ℕ) → n < 2 ^ 64 → last_terminal (decimal n) ≡ Some n
whole_read n small = ap (last_in (decimal n)) (cut_none 32 (codes "- ") (decimal n) (decimal_lacks 32 n (λ r. omega arith) small)) ∙ number_of_decimal n small

pub last_read : (n e : ℕ) → e + 1 ≡ n → n < 2 ^ 64 → last_terminal (printed.last_terminal n) ≡ Some e
last_read n e is small = by ((n == 0) || (n == 1)) refl
  where
    by : (b : Bool) → ((n == 0) || (n == 1)) ≡ b → last_terminal (if b then decimal 0 else decimal n ++ codes " - 1") ≡ Some e
    by true h = (let none : 0 ≡ e = grind (arith, nat_tests) in whole_read 0 (omega arith) ∙ ap Some none)
    by false h = less_read n e is small
