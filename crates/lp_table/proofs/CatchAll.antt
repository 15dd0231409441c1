-- The catch-all is the first arm with the most ranges, so what is printed is what the arms tell.
use Rattle.std.proofs.Common.{◌≡◌, ℕ, zero, suc, ◌+◌, ◌<◌, ◌≤◌, ◌==◌, max, List, [], ◌∷◌, length, get_or, map, refl, ap, sym, subst, ◌∙◌, cond, true, false, arith, codes, decimal, if◌then◌else◌}
use Rattle.std.proofs.lemmas.Bool.Decides.{nat_tests}
use Rattle.std.specs.List.{remove}
use Rattle.lp_form.specs.declared.part.Part.TheVariants as part
use Rattle.lp_tree.specs.ProgramTree.{Item, leaf}
use Rattle.lp_build.specs.Built.{over}
use Rattle.lp_state_parts.specs.GotoLaw.{IsGotosOf, target_at}
use Rattle.lp_state_parts.specs.Gotos.{IsCatchAll, range_counts}
use Rattle.lp_state_parts.specs.declared.gotos.GotoArm.{GotoArm}
use Rattle.lp_state_parts.specs.declared.gotos.Gotos.{Gotos}
use Rattle.lp_state_parts.specs.declared.gotos.Gotos.TheVariants.{Nowhere, One, Several}
use Rattle.lp_table.specs.TableLines.{arm_row, catch_all_place, first_place, gotos_lines, greatest, printed_gotos}

-- each count is at most the greatest
below_greatest : (ns : List ℕ) (k : ℕ) → k < length ns → get_or ns k 0 ≤ greatest ns
below_greatest [] k h = absurd (omega arith)
below_greatest (n ∷ ns) zero h = omega arith
below_greatest (n ∷ ns) (suc k) h =
    let rest : get_or ns k 0 ≤ greatest ns = below_greatest ns k (omega arith) in
    omega arith

-- and the greatest is at most what all are
greatest_below : (ns : List ℕ) (b : ℕ) → ((k : ℕ) → k < length ns → get_or ns k 0 ≤ b) → greatest ns ≤ b
greatest_below [] b h = omega arith
greatest_below (n ∷ ns) b h =
    let first : n ≤ b = h 0 (omega arith) in
    let rest : greatest ns ≤ b = greatest_below ns b (λ k lt. h (suc k) (omega arith)) in
    omega arith

same : (m : ℕ) → (m == m) ≡ true
same m = grind (arith, nat_tests)

apart : (n m : ℕ) → n < m → (n == m) ≡ false
apart n m h = grind (arith, nat_tests)

-- the first place of a count before which all are less
first_placed :
    (m : ℕ) (ns : List ℕ) (c : ℕ) → c < length ns → get_or ns c 0 ≡ m → ((k : ℕ) → k < c → get_or ns k 0 < m) →
    first_place m ns ≡ c
first_placed m [] c h at before = absurd (omega arith)
first_placed m (n ∷ ns) zero h at before =
    ap (λ b. cond b 0 (suc (first_place m ns))) (ap (λ k. k == m) at ∙ same m)
first_placed m (n ∷ ns) (suc c) h at before =
    let less : n < m = before 0 (omega arith) in
    ap (λ b. cond b 0 (suc (first_place m ns))) (apart n m less)
    ∙ ap (λ (k : ℕ). suc k) (first_placed m ns c (omega arith) at (λ k lt. before (suc k) (omega arith)))

pub catch_all_placed : (arms : List GotoArm) (c : ℕ) → IsCatchAll (range_counts arms) c → catch_all_place arms ≡ c
catch_all_placed arms c is =
    let counts = range_counts arms in
    let low : get_or counts c 0 ≤ greatest counts = below_greatest counts c is.within in
    let high : greatest counts ≤ get_or counts c 0 = greatest_below counts (get_or counts c 0) is.most in
    let at : get_or counts c 0 ≡ greatest counts = omega arith in
    first_placed (greatest counts) counts c is.within at
    (λ k lt. subst (λ (m : ℕ). get_or counts k 0 < m) at (is.first k lt))

one_printed : (n : ℕ) (arms : List GotoArm) (t : ℕ) → map (λ a. a.target) arms ≡ t ∷ [] → leaf part.GotoOne (decimal n ∷ decimal t ∷ []) ≡ gotos_lines n arms
one_printed n [] t e = absurd cc
one_printed n (a ∷ []) t e =
    let target : a.target ≡ t = cc in
    ap (λ (k : ℕ). leaf part.GotoOne (decimal n ∷ decimal k ∷ [])) (sym target)
one_printed n (a ∷ (b ∷ arms)) t e = absurd cc

several_printed :
    (n : ℕ) (arms : List GotoArm) → 1 < length arms →
    over part.GotoMatch (decimal n ∷ decimal (target_at arms (catch_all_place arms)) ∷ []) (map arm_row (remove arms (catch_all_place arms)))
    ≡ gotos_lines n arms
several_printed n [] h = absurd (omega arith)
several_printed n (a ∷ []) h = absurd (omega arith)
several_printed n (a ∷ (b ∷ arms)) h = refl

pub printed_is : (n : ℕ) (arms : List GotoArm) (gotos : Gotos) → IsGotosOf arms gotos → printed_gotos n gotos ≡ gotos_lines n arms
printed_is n arms Nowhere is = ap (gotos_lines n) (sym is)
printed_is n arms (One target) is = one_printed n arms target is
printed_is n arms (Several rest other) is =
    let c = is.0 in
    let place : catch_all_place arms ≡ c = catch_all_placed arms c is.1.1 in
    let lines : ℕ → List GotoArm → List Item = λ t rows. over part.GotoMatch (decimal n ∷ decimal t ∷ []) (map arm_row rows) in
    ap (λ (r : List GotoArm). lines other r) (is.1.2 ∙ ap (remove arms) (sym place))
    ∙ (ap (λ (t : ℕ). lines t (remove arms (catch_all_place arms))) (is.1.3 ∙ ap (target_at arms) (sym place))
    ∙ several_printed n arms is.1.0)
