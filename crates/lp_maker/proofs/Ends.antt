-- Where the bytes of one kind at the end of a text begin.
use Rattle.std.proofs.Common.{◌≡◌, ℕ, zero, suc, ◌-◌, ◌<◌, Bool, true, false, eqb, List, get_or, ap, sym, ◌∙◌, arith}
use Rattle.std.specs.Prelude.{if◌then◌else◌}
use Rattle.std.proofs.lemmas.Bool.Decides.{nat_tests}
use Rattle.lp_maker.specs.Texts.{end_place}

-- the byte before is of this kind
pub place_falls : (c : ℕ) (s : List ℕ) (n : ℕ) → 0 < n → get_or s (n - 1) 0 ≡ c → end_place c s (n - 1) ≡ end_place c s n
place_falls c s zero p e = absurd (omega arith)
place_falls c s (suc n) p e =
    let k : suc n - 1 ≡ n = omega arith in
    let same : get_or s n 0 ≡ c = sym (ap (λ m. get_or s m 0) k) ∙ e in
    let test : eqb (get_or s n 0) c ≡ true = grind (arith, nat_tests) in
    ap (end_place c s) k ∙ sym (ap (λ (b : Bool). if b then end_place c s n else suc n) test)

-- the byte before is of another kind
pub place_stays : (c : ℕ) (s : List ℕ) (n : ℕ) → 0 < n → (get_or s (n - 1) 0 ≡ c → ⊥) → n ≡ end_place c s n
place_stays c s zero p e = absurd (omega arith)
place_stays c s (suc n) p e =
    let k : suc n - 1 ≡ n = omega arith in
    let other : get_or s n 0 ≡ c → ⊥ = λ h. e (ap (λ m. get_or s m 0) k ∙ h) in
    let test : eqb (get_or s n 0) c ≡ false = grind (arith, nat_tests) in
    sym (ap (λ (b : Bool). if b then end_place c s n else suc n) test)
