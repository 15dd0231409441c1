-- How many parts of a program count, as its weight does: its forms, and the elements of their lists.
use Rattle.std.proofs.Common.{◌≡◌, ℕ, zero, suc, ◌+◌, ◌*◌, ◌<◌, ◌≤◌, Bool, List, [], ◌∷◌, ◌++◌, length, map, take, drop, refl, sym, ap, ◌∙◌, arith, length-drop}
use Rattle.std.proofs.Math.Nat.{mul-le-mul_right}
use Rattle.std.specs.List.{sum_by}
use Rattle.std.proofs.lemmas.List.Sums.{sum_by-cons}
use Rattle.lp_form.specs.declared.part.Part.{Part}
use Rattle.lp_tree.specs.ProgramTree.{Item, program_items}
use Rattle.lp_tree.specs.declared.tree.Program.{Program}
use Rattle.lp_build.specs.Built.{text_rows}
use Rattle.lp_view.specs.PartLists.{Form}
use Rattle.lp_view.specs.Weights.{elements_of, own_weight, weight, weight_of}
use Rattle.lp_form.specs.Templates.{holes_of}
use Rattle.lp_write.specs.declared.rust.Options.{Options}
use Rattle.lp_agrees.specs.Emission.{IsAsPrinted}
use Rattle.lp_agreement.proofs.Composed.Settled.{coded, read_seen, seen, settled_within}

-- the parts that count themselves
abbrev pub counted : List Item → ℕ
counted [] = 0
counted (i ∷ items) = own_weight i.0 + counted items

pub counted-append : (xs ys : List Item) → counted (xs ++ ys) ≡ counted xs + counted ys
counted-append [] ys = omega arith
counted-append (x ∷ xs) ys = (let h = counted-append xs ys in omega (arith, h))

-- they are no more than the weight
counted_sum : (items : List Item) → counted items ≤ sum_by weight_of items
counted_sum [] = omega arith
counted_sum (i ∷ items) =
    let h = counted_sum items in
    let e : sum_by weight_of (i ∷ items) ≡ (own_weight i.0 + length i.2 + elements_of (holes_of i.0) i.1) + sum_by weight_of items = sum_by-cons weight_of i items in
    omega (arith, h, e)

pub counted_weight : (p : Program) → counted (program_items p) ≤ weight p
counted_weight p = counted_sum (program_items p)

-- ---- as a text tells them
counted_coded : (whitespace : Bool) (items : List Item) → counted (map (coded whitespace) items) ≡ counted items
counted_coded whitespace [] = refl
counted_coded whitespace (i ∷ items) = ap (λ (n : ℕ). own_weight i.0 + n) (counted_coded whitespace items)

length-take-le : (n : ℕ) (es : List Item) → length (take n es) ≤ length es
length-take-le zero es = omega arith
length-take-le (suc n) [] = omega arith
length-take-le (suc n) (e ∷ es) = let h = length-take-le n es in omega (arith, h)

counted_split : (k : ℕ) (es : List Item) → counted es ≡ counted (take k es) + counted (drop k es)
counted_split zero es = omega arith
counted_split (suc k) [] = omega arith
counted_split (suc k) (e ∷ es) = (let h = counted_split k es in omega (arith, h))

counted_within : (n : ℕ) (es : List Item) → length es ≤ n → counted (settled_within n es) ≡ counted es
unfolding settled_within
counted_within zero [] h = refl
counted_within zero (e ∷ es) h = absurd (omega (arith, h))
counted_within (suc n) [] h = refl
counted_within (suc n) (e ∷ es) h =
    let t = length-take-le e.3 es in
    let d = length-drop e.3 es in
    let below = settled_within n (take e.3 es) in
    let after = settled_within n (drop e.3 es) in
    let both : counted (below ++ after) ≡ counted es =
    counted-append below after ∙ ap (λ (k : ℕ). k + counted after) (counted_within n (take e.3 es) (omega (arith, t, h))) ∙ ap (λ (k : ℕ). counted (take e.3 es) + k) (counted_within n (drop e.3 es) (omega (arith, d, h))) ∙ sym (counted_split e.3 es) in
    ap (λ (k : ℕ). own_weight e.0 + k) both

counted_seen : (f : Form) → counted (seen f) ≡ counted f
counted_seen [] = refl
counted_seen (e ∷ es) = ap (λ (k : ℕ). own_weight e.0 + k) (counted_within (length es) es (omega arith))

-- as many count in a program that was read as in the one that was printed
pub read_counted : (options : Options) (printed read : Program) → IsAsPrinted options printed read → counted (program_items read) ≡ counted (program_items printed)
read_counted options printed read is =
    sym (counted_seen (program_items read)) ∙ ap counted (read_seen options.whitespace printed read is.1)
    ∙ counted_seen (map (coded options.whitespace) (program_items printed)) ∙ counted_coded options.whitespace (program_items printed)

-- so its weight is no less
pub read_weighs : (options : Options) (printed read : Program) → IsAsPrinted options printed read → counted (program_items printed) ≤ weight read
read_weighs options printed read is = (let e = read_counted options printed read is in let h = counted_weight read in omega (arith, e, h))

-- ---- lists
pub rows_counted : (p : Part) (texts : List (List ℕ)) → own_weight p ≡ 1 → counted (text_rows p texts) ≡ length texts
rows_counted p [] one = refl
rows_counted p (t ∷ texts) one = (let h = rows_counted p texts one in omega (arith, h, one))

-- what more is there counts more
pub and_more : (n k : ℕ) (xs ys : List Item) → n ≤ counted xs → k ≤ counted ys → n + k ≤ counted (xs ++ ys)
and_more n k xs ys a b = (let e = counted-append xs ys in omega (arith, a, b, e))

pub in_front : (n : ℕ) (xs ys : List Item) → n ≤ counted xs → n ≤ counted (xs ++ ys)
in_front n xs ys a = (let e = counted-append xs ys in omega (arith, a, e))

pub in_behind : (n : ℕ) (xs ys : List Item) → n ≤ counted ys → n ≤ counted (xs ++ ys)
in_behind n xs ys a = (let e = counted-append xs ys in omega (arith, a, e))

-- ---- costs
-- nine times what is at most a weight is less than the square of a weight that is 33 or more
pub cost_less : (cost w : ℕ) → cost ≤ w → 33 ≤ w → 9 * cost < w * w
cost_less cost w few some =
    let m : 33 * w ≤ w * w = mul-le-mul_right w some in
    omega (arith, few, some, m)
