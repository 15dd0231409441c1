-- Combinations by their number: the digits choose, the first slowest.
use Rattle.std.proofs.Common.{◌≡◌, ℕ, ◌+◌, ◌*◌, ◌/◌, ◌%◌, ◌<◌, ◌≤◌, zero, suc, min, Bool, true, false, ◌||◌, List, [], ◌∷◌, ◌++◌, length, map, take, drop, Some, refl, sym, ap, ◌∙◌, arith, append_assoc, append-nil, length-append, ⊎_elim}
use Rattle.std.proofs.Math.ListN.{get_or}
use Rattle.std.proofs.Math.Nat.{mul-le-mul, mul-zero, zero-mul, mul-div_cancel_left}
use Rattle.std.specs.List.{slice_get, flat_map, list_any}
use Rattle.std.specs.Option.{option_map}
use Rattle.std.proofs.lemmas.Bool.{cases_lt}
use Rattle.std.proofs.lemmas.Nat.{div_below, div-add-mod'}
use Rattle.std.proofs.lemmas.List.{length-map, map-append, take_more, drop_more, drop_all}
use Rattle.std.proofs.lemmas.List.Concat.{flat_map-append}
use Rattle.std.proofs.lemmas.Option.{slice_get-map, slice_get_within, get_or_from_slice_get}
use Rattle.lp_repr.specs.declared.repr.InlinedSymbol.{InlinedSymbol}
use Rattle.lp_repr.specs.declared.repr.Symbol.{Symbol}
use Rattle.lp_lower.specs.Choices.{choices}
use Rattle.lp_lower.specs.Pieces.{Piece, piece_inlined, piece_fails, piece_symbols, combination_of, with_piece}
use Rattle.lp_lower.specs.declared.combine.Combination.{Combination}
use Rattle.lp_lower.proofs.RepeatSteps.{any_push, or_assoc}

length-each : {X : Type 0} (n : ℕ) (f : X → List (List X)) → ((x : X) → length (f x) ≡ n) → (xs : List X) → length (flat_map f xs) ≡ length xs * n
length-each n f h [] = sym (zero-mul n)
length-each n f h (x ∷ xs) =
    let e = length-append (f x) (flat_map f xs) in
    let r = length-each n f h xs in
    let k : (1 + length xs) * n ≡ n + length xs * n = omega arith in
    omega (arith, e, r, k, h x)

-- as many choices as the numbers of options multiply to
pub length-choices : {X : Type 0} (o : List X) (os : List (List X)) → length (choices (o ∷ os)) ≡ length o * length (choices os)
length-choices {X} o os = length-each (length (choices os)) (λ (x : X). map (λ xs. x ∷ xs) (choices os)) (λ x. length-map (choices os) (λ xs. x ∷ xs)) o

capped_over : (a b m : ℕ) → m < b → min (a * min b m) m ≡ min (a * b) m
capped_over zero b m over = let e = zero-mul (min b m) in let f = zero-mul b in omega (arith, e, f)
capped_over (suc a) b m over =
    let p : 1 * m ≤ suc a * min b m = mul-le-mul (omega arith) (omega arith) in
    let q : 1 * m ≤ suc a * b = mul-le-mul (omega arith) (omega arith) in
    omega (arith, p, q)

-- a product with a number that is cut at m
pub capped_right : (a b m : ℕ) → min (a * min b m) m ≡ min (a * b) m
capped_right a b m = ⊎_elim (λ over. capped_over a b m over) (λ within. ap (λ y. min (a * y) m) (let e : min b m ≡ b = omega arith in e)) (cases_lt m b)

-- the number of choices with one part more before the others
pub count_before : {X : Type 0} (xss : List (List X)) (i j n count new m : ℕ) (o : List X) → j ≡ i + 1 → i < length xss → get_or xss i o ≡ o → n ≡ length o → count ≡ min (length (choices (drop j xss))) m → new ≡ min (n * count) m → new ≡ min (length (choices (drop i xss))) m
count_before xss i j n count new m o next h at size was is =
    let later = length (choices (drop (i + 1) xss)) in
    let e : drop i xss ≡ o ∷ drop (i + 1) xss = drop_more xss i o h ∙ ap (λ y. y ∷ drop (i + 1) xss) at in
    let f : count ≡ min later m = was ∙ ap (λ k. min (length (choices (drop k xss))) m) next in
    is ∙ (ap (λ k. min (k * count) m) size ∙ (ap (λ k. min (length o * k) m) f ∙ (capped_right (length o) later m
    ∙ ap (λ k. min k m) (sym (ap (λ l. length (choices l)) e ∙ length-choices o (drop (i + 1) xss))))))

slice_get-append_left : {X : Type 0} (xs ys : List X) (i : ℕ) (x : X) → slice_get xs i ≡ Some x → slice_get (xs ++ ys) i ≡ Some x
slice_get-append_left [] ys i x e = cc
slice_get-append_left (y ∷ xs) ys zero x e = e
slice_get-append_left (y ∷ xs) ys (suc i) x e = slice_get-append_left xs ys i x e

slice_get-append_right : {X : Type 0} (xs ys : List X) (i : ℕ) → slice_get (xs ++ ys) (length xs + i) ≡ slice_get ys i
slice_get-append_right [] ys i = ap (slice_get ys) (omega arith)
slice_get-append_right (x ∷ xs) ys i = ap (slice_get (x ∷ (xs ++ ys))) (let e : suc (length xs) + i ≡ suc (length xs + i) = omega arith in e) ∙ slice_get-append_right xs ys i

-- the choice whose number has these digits
pub choice_at : {X : Type 0} (o : List X) (css : List (List X)) (q r : ℕ) (x : X) (t : List X) → slice_get o q ≡ Some x → slice_get css r ≡ Some t → slice_get (flat_map (λ (y : X). map (λ ys. y ∷ ys) css) o) (q * length css + r) ≡ Some (x ∷ t)
choice_at [] css q r x t e f = cc
choice_at {X} (y ∷ o) css zero r x t e f =
    let same : y ≡ x = cc in
    let g : slice_get (map (λ ys. y ∷ ys) css) r ≡ Some (y ∷ t) = slice_get-map (λ ys. y ∷ ys) css r ∙ ap (option_map (λ (ys : List X). y ∷ ys)) f in
    ap (slice_get (map (λ ys. y ∷ ys) css ++ flat_map (λ (z : X). map (λ ys. z ∷ ys) css) o)) (let n : 0 * length css + r ≡ r = omega (arith, zero-mul (length css)) in n)
    ∙ (slice_get-append_left (map (λ ys. y ∷ ys) css) (flat_map (λ (z : X). map (λ ys. z ∷ ys) css) o) r (y ∷ t) g ∙ ap (λ z. Some (z ∷ t)) same)
choice_at {X} (y ∷ o) css (suc q) r x t e f =
    let first = map (λ (ys : List X). y ∷ ys) css in
    let rest = flat_map (λ (z : X). map (λ ys. z ∷ ys) css) o in
    let n : suc q * length css + r ≡ length first + (q * length css + r) = let k : (1 + q) * length css ≡ length css + q * length css = omega arith in omega (arith, k, length-map css (λ (ys : List X). y ∷ ys)) in
    ap (slice_get (first ++ rest)) n ∙ (slice_get-append_right first rest (q * length css + r) ∙ choice_at o css q r x t e f)

-- one more element, as a look-up tells it
pub take_at : {X : Type 0} (xs : List X) (i : ℕ) (x : X) → slice_get xs i ≡ Some x → take (i + 1) xs ≡ take i xs ++ x ∷ []
take_at xs i x e = take_more xs i x (slice_get_within xs i x e) ∙ ap (λ y. take i xs ++ y ∷ []) (get_or_from_slice_get xs i x x e)

abbrev pub combination : List InlinedSymbol → Bool → List Symbol → Combination
combination inlined fallible symbols = record { inlined = inlined; fallible = fallible; symbols = symbols }

-- one more piece
pub combination_of-push : (fallible : Bool) (pieces : List Piece) (x : Piece) → combination_of fallible (pieces ++ x ∷ []) ≡ with_piece (combination_of fallible pieces) x
unfolding combination_of
combination_of-push fallible pieces x =
    let inlined : map piece_inlined (pieces ++ x ∷ []) ≡ map piece_inlined pieces ++ piece_inlined x ∷ [] = map-append piece_inlined pieces (x ∷ []) in
    let fails : (fallible || list_any piece_fails (pieces ++ x ∷ [])) ≡ ((fallible || list_any piece_fails pieces) || piece_fails x) = ap (λ b. fallible || b) (any_push piece_fails pieces x) ∙ or_assoc fallible (list_any piece_fails pieces) (piece_fails x) in
    let symbols : flat_map piece_symbols (pieces ++ x ∷ []) ≡ flat_map piece_symbols pieces ++ piece_symbols x = flat_map-append piece_symbols pieces (x ∷ []) ∙ ap (λ l. flat_map piece_symbols pieces ++ l) (append-nil (piece_symbols x)) in
    ap (λ i. combination i (fallible || list_any piece_fails (pieces ++ x ∷ [])) (flat_map piece_symbols (pieces ++ x ∷ []))) inlined
    ∙ (ap (λ b. combination (map piece_inlined pieces ++ piece_inlined x ∷ []) b (flat_map piece_symbols (pieces ++ x ∷ []))) fails
    ∙ ap (combination (map piece_inlined pieces ++ piece_inlined x ∷ []) ((fallible || list_any piece_fails pieces) || piece_fails x)) symbols)

pos_left : (m n left : ℕ) → left < m * n → 0 < m
pos_left zero n left h = let e = zero-mul n in absurd (omega (arith, e))
pos_left (suc m) n left h = omega arith

pos_right : (m n left : ℕ) → left < m * n → 0 < n
pos_right m zero left h = let e = mul-zero m in absurd (omega (arith, e))
pos_right m (suc n) left h = omega arith

-- what is left of a number of m * n things, and of one of them
pub record Digits (m n count left : ℕ) : Type 0 where
  pub some : 0 < m
  pub others : 0 < n
  pub rest : count / m ≡ n
  pub digit : left / n < m

pub digits : (m n count left : ℕ) → count ≡ m * n → left < count → Digits m n count left
digits m n count left e h =
    let less : left < m * n = omega (arith, e) in
    let some = pos_left m n left less in
    let others = pos_right m n left less in
    record { some = some; others = others; rest = ap (λ k. k / m) e ∙ mul-div_cancel_left n some; digit = div_below left n m others less }

-- the number of the choices from a part on, by its options
pub choices_from : {X : Type 0} (xss : List (List X)) (i : ℕ) (o : List X) → i < length xss → get_or xss i o ≡ o → length (choices (drop i xss)) ≡ length o * length (choices (drop (i + 1) xss))
choices_from xss i o h at = ap (λ l. length (choices l)) (drop_more xss i o h ∙ ap (λ y. y ∷ drop (i + 1) xss) at) ∙ length-choices o (drop (i + 1) xss)

pub some_at : {X : Type 0} (xs : List X) (i : ℕ) → i < length xs → (x : X) × (slice_get xs i ≡ Some x)
some_at [] i h = absurd (omega arith)
some_at (x ∷ xs) zero h = (x, refl)
some_at (x ∷ xs) (suc i) h = some_at xs i (omega arith)

-- the pieces that a combination has after the parts before this one, and how those to come complete them
pub record IsSoFar (fallible : Bool) (xss : List (List Piece)) (place i count left : ℕ) (c : Combination) : Type 0 where
  pub pieces : List Piece
  pub made : c ≡ combination_of fallible pieces
  pub counted : count ≡ length (choices (drop i xss))
  pub within : left < count
  pub completed : (rest : List Piece) → slice_get (choices (drop i xss)) left ≡ Some rest → slice_get (choices xss) place ≡ Some (pieces ++ rest)

pub so_far_more : (fallible : Bool) (xss : List (List Piece)) (place i count left : ℕ) (c : Combination) (o : List Piece) → i < length xss → get_or xss i o ≡ o → IsSoFar fallible xss place i count left c → (m next q r : ℕ) (d : Combination) → m ≡ length o → next ≡ count / m → q ≡ left / next → r ≡ left % next → ((x : Piece) → slice_get o q ≡ Some x → d ≡ with_piece c x) → IsSoFar fallible xss place (i + 1) next r d
so_far_more fallible xss place i count left c o h at was m next q r d size count_is q_is r_is adds =
    let later = choices (drop (i + 1) xss) in
    let n = length later in
    let e : drop i xss ≡ o ∷ drop (i + 1) xss = drop_more xss i o h ∙ ap (λ y. y ∷ drop (i + 1) xss) at in
    let two = digits (length o) n count left (was.counted ∙ choices_from xss i o h at) was.within in
    let same : next ≡ n = count_is ∙ (ap (λ k. count / k) size ∙ two.rest) in
    let q_at : q ≡ left / n = q_is ∙ ap (λ k. left / k) same in
    let r_at : r ≡ left % n = r_is ∙ ap (λ k. left % k) same in
    let found = some_at o q (let less : left / n < length o = two.digit in omega (arith, q_at)) in
    let x = found.0 in
    let whole : left ≡ q * n + r = sym (ap (λ k. k * n + r) q_at ∙ (ap (λ k. left / n * n + k) r_at ∙ div-add-mod' left n)) in
    let positive : 0 < n = two.others in
    record {
      pieces = was.pieces ++ x ∷ [];
      made = adds x found.1 ∙ (ap (λ k. with_piece k x) was.made ∙ sym (combination_of-push fallible was.pieces x));
      counted = same;
      within = omega (arith, r_at, same);
      completed = λ rest g.
          was.completed (x ∷ rest) (ap (λ l. slice_get (choices l) left) e ∙ (ap (slice_get (choices (o ∷ drop (i + 1) xss))) whole ∙ choice_at o later q r x rest found.1 g))
          ∙ ap (λ l. Some l) (sym (append_assoc was.pieces (x ∷ []) rest));
    }

-- so there are digits at the next part
pub so_far_digits : (fallible : Bool) (xss : List (List Piece)) (place i count left : ℕ) (c : Combination) (o : List Piece) → i < length xss → get_or xss i o ≡ o → IsSoFar fallible xss place i count left c → Digits (length o) (length (choices (drop (i + 1) xss))) count left
so_far_digits fallible xss place i count left c o h at was = digits (length o) (length (choices (drop (i + 1) xss))) count left (was.counted ∙ choices_from xss i o h at) was.within

pub or_nothing : (b : Bool) → (b || false) ≡ b
or_nothing true = refl
or_nothing false = refl

-- no pieces
pub none_of : (fallible : Bool) (inlined : List InlinedSymbol) (symbols : List Symbol) → inlined ≡ [] → symbols ≡ [] → combination inlined fallible symbols ≡ combination_of fallible []
unfolding combination_of
none_of fallible inlined symbols e f = ap (λ i. combination i fallible symbols) e ∙ (ap (combination [] fallible) f ∙ ap (λ b. combination [] b []) (sym (or_nothing fallible)))

-- before the first part
pub so_far_none : (fallible : Bool) (xss : List (List Piece)) (place total : ℕ) (c : Combination) → c ≡ combination_of fallible [] → total ≡ length (choices xss) → place < total → IsSoFar fallible xss place 0 total place c
so_far_none fallible xss place total c made counted within = record { pieces = []; made = made; counted = counted; within = within; completed = λ rest g. g }

-- after the last one
pub so_far_all : (fallible : Bool) (xss : List (List Piece)) (place i count left : ℕ) (c : Combination) → length xss ≤ i → IsSoFar fallible xss place i count left c → slice_get (map (combination_of fallible) (choices xss)) place ≡ Some c
so_far_all fallible xss place i count left c h was =
    let none : drop i xss ≡ [] = drop_all i xss h in
    let one : count ≡ 1 = was.counted ∙ ap (λ l. length (choices l)) none in
    let zeroth : left ≡ 0 = let less : left < count = was.within in omega (arith, one) in
    let last : slice_get (choices (drop i xss)) left ≡ Some [] = ap (λ l. slice_get (choices l) left) none ∙ ap (slice_get (choices [])) zeroth in
    slice_get-map (combination_of fallible) (choices xss) place
    ∙ (ap (option_map (combination_of fallible)) (was.completed [] last)
    ∙ (ap (λ l. Some (combination_of fallible l)) (append-nil was.pieces) ∙ ap (λ k. Some k) (sym was.made)))
