-- The ends of texts and of pieces with `_` between them.
use Rattle.std.proofs.Common.{◌≡◌, ℕ, ◌+◌, ◌<◌, ◌≤◌, Bool, true, false, eqb, List, [], ◌∷◌, ◌++◌, length, take, drop, get_or, codes, encode_utf8, encode_utf8_all, IsUtf8, refl, sym, ap, ◌∙◌, subst, append_assoc, append-nil, arith, length-append, length-take}
use Rattle.std.proofs.lemmas.List.{take_more, take-append-drop, take-take, take_at, drop_at, nil_from_length}
use Rattle.std.proofs.lemmas.Bool.{eqb-true, eqb-false}
use Rattle.std.proofs.lemmas.Str.{chars-nil, chars-append, encodes-chars, chars_past_char, IsUtf8-drop, IsCharBoundary-from_take}
use Rattle.std.specs.List.{flat_map}
use Rattle.std.specs.Str.{chars}
use Rattle.lp_texts.specs.OneLine.{begins}
use Rattle.lp_texts.specs.Pattern.{joined, ends}

begins_front : (test : ℕ → Bool) (cs ds : List ℕ) → (cs ≡ [] → ⊥) → begins test (cs ++ ds) ≡ begins test cs
begins_front test [] ds some = absurd (some refl)
begins_front test (c ∷ cs) ds some = refl

-- a text begins as its front does
pub begins_append : (test : ℕ → Bool) (xs ys : List ℕ) → IsUtf8 xs → (xs ≡ [] → ⊥) → begins test (chars (xs ++ ys)) ≡ begins test (chars xs)
begins_append test xs ys utf8 some =
    ap (begins test) (chars-append xs ys utf8)
    ∙ begins_front test (chars xs) (chars ys) (λ none. some (sym (encodes-chars xs utf8) ∙ ap encode_utf8_all none))

-- a `_` in front
pub begins_low : (test : ℕ → Bool) (bs : List ℕ) → begins test (chars (95 ∷ bs)) ≡ test 95
unfolding chars
begins_low test [] = refl
begins_low test (b ∷ bs) = refl

ends_last : (test : ℕ → Bool) (cs : List ℕ) (c : ℕ) → ends test (cs ++ c ∷ []) ≡ test c
ends_last test [] c = refl
ends_last test (d ∷ []) c = refl
ends_last test (d ∷ e ∷ cs) c = ends_last test (e ∷ cs) c

-- a text ends with its last character
pub last_char : (text front : List ℕ) (c : ℕ) → IsUtf8 text → IsUtf8 front → text ≡ front ++ encode_utf8 c → chars text ≡ chars front ++ c ∷ []
last_char text front c utf8 front_utf8 split =
    let n = length front in
    let within : n ≤ length text = omega (arith, ap length split, length-append front (encode_utf8 c)) in
    let taken : take n text ≡ front = ap (take n) split ∙ take_at front (encode_utf8 c) n refl in
    let boundary = IsCharBoundary-from_take text n utf8 within (subst IsUtf8 (sym taken) front_utf8) in
    let dropped : drop n text ≡ encode_utf8 c = ap (drop n) split ∙ drop_at front (encode_utf8 c) n refl in
    let last_utf8 : IsUtf8 (encode_utf8 c) = subst IsUtf8 dropped (IsUtf8-drop text n utf8 boundary) in
    let last : chars (encode_utf8 c) ≡ c ∷ [] = chars_past_char (encode_utf8 c) [] c last_utf8 (sym (append-nil (encode_utf8 c))) ∙ ap (λ x. c ∷ x) chars-nil in
    ap chars split ∙ chars-append front (encode_utf8 c) front_utf8 ∙ ap (λ x. chars front ++ x) last

pub ends_char : (test : ℕ → Bool) (text front : List ℕ) (c : ℕ) (b : Bool) → b ≡ test c → chars text ≡ chars front ++ c ∷ [] → b ≡ ends test (chars text)
ends_char test text front c b same split = same ∙ sym (ap (ends test) split ∙ ends_last test (chars front) c)

pub ends_empty : (test : ℕ → Bool) (text : List ℕ) → text ≡ [] → false ≡ ends test (chars text)
ends_empty test text none = sym (ap (λ x. ends test (chars x)) none ∙ ap (ends test) chars-nil)

flat_map_push : {X A : Type 0} (f : X → List A) (xs : List X) (x : X) → flat_map f (xs ++ x ∷ []) ≡ flat_map f xs ++ f x
flat_map_push f [] x = append-nil (f x)
flat_map_push f (y ∷ xs) x = ap (λ l. f y ++ l) (flat_map_push f xs x) ∙ sym (append_assoc (f y) (flat_map f xs) (f x))

joined_push : (xs : List (List ℕ)) (x : List ℕ) → 0 < length xs → joined (xs ++ x ∷ []) ≡ joined xs ++ (codes "_" ++ x)
joined_push [] x some = absurd (omega arith)
joined_push (y ∷ ys) x some = ap (λ l. y ++ l) (flat_map_push (λ t. codes "_" ++ t) ys x) ∙ sym (append_assoc y (flat_map (λ t. codes "_" ++ t) ys) (codes "_" ++ x))

-- one piece more
pub joined_more : (pieces : List (List ℕ)) (i : ℕ) (d : List ℕ) → 0 < i → i < length pieces → joined (take (i + 1) pieces) ≡ joined (take i pieces) ++ (codes "_" ++ get_or pieces i d)
joined_more pieces i d some lt = ap joined (take_more pieces i d lt) ∙ joined_push (take i pieces) (get_or pieces i d) (omega (arith, length-take i pieces))

pub joined_first : (pieces : List (List ℕ)) (d : List ℕ) → 0 < length pieces → joined (take 1 pieces) ≡ get_or pieces 0 d
joined_first [] d some = absurd (omega arith)
joined_first (p ∷ ps) d some = append-nil p

flat_map_le : {X A : Type 0} (f : X → List A) (xs ys : List X) → length (flat_map f xs) ≤ length (flat_map f (xs ++ ys))
flat_map_le f [] ys = omega arith
flat_map_le f (x ∷ xs) ys = omega (arith, flat_map_le f xs ys, length-append (f x) (flat_map f xs), length-append (f x) (flat_map f (xs ++ ys)))

joined_le : (xs ys : List (List ℕ)) → length (joined xs) ≤ length (joined (xs ++ ys))
joined_le [] ys = omega arith
joined_le (x ∷ xs) ys =
    let f : List ℕ → List ℕ = λ t. codes "_" ++ t in
    omega (arith, flat_map_le f xs ys, length-append x (flat_map f xs), length-append x (flat_map f (xs ++ ys)))

-- more pieces are no shorter
pub joined_grows : (pieces : List (List ℕ)) (i j : ℕ) → i ≤ j → length (joined (take i pieces)) ≤ length (joined (take j pieces))
joined_grows pieces i j le =
    let split : take i pieces ++ drop i (take j pieces) ≡ take j pieces = ap (λ l. l ++ drop i (take j pieces)) (sym (take-take i j pieces le)) ∙ take-append-drop i (take j pieces) in
    subst (λ l. length (joined (take i pieces)) ≤ length (joined l)) split (joined_le (take i pieces) (drop i (take j pieces)))

-- no pieces begin with nothing
pub begins_none : (test : ℕ → Bool) (pieces : List (List ℕ)) → length pieces < 1 → false ≡ begins test (chars (joined pieces))
begins_none test [] h = sym (ap (begins test) chars-nil)
begins_none test (p ∷ ps) h = absurd (omega (arith, h))

-- an empty piece and the `_` behind it
pub begins_hole : (test : ℕ → Bool) (pieces : List (List ℕ)) (first : List ℕ) (b : Bool) → 2 ≤ length pieces → first ≡ get_or pieces 0 first → first ≡ [] → b ≡ test 95 → b ≡ begins test (chars (joined pieces))
begins_hole test [] first b h at none same = absurd (omega (arith, h))
begins_hole test (p ∷ []) first b h at none same = absurd (omega (arith, h))
begins_hole test (p ∷ q ∷ ps) first b h at none same =
    let front : p ≡ [] = sym at ∙ none in
    same ∙ sym (ap (λ x. begins test (chars (x ++ flat_map (λ t. codes "_" ++ t) (q ∷ ps)))) front ∙ begins_low test (q ++ flat_map (λ t. codes "_" ++ t) ps))

-- a piece that isn't empty
pub begins_piece : (test : ℕ → Bool) (pieces : List (List ℕ)) (first : List ℕ) (b : Bool) → 1 ≤ length pieces → first ≡ get_or pieces 0 first → IsUtf8 first → (first ≡ [] → ⊥) → b ≡ begins test (chars first) → b ≡ begins test (chars (joined pieces))
begins_piece test [] first b h at utf8 some same = absurd (omega (arith, h))
begins_piece test (p ∷ ps) first b h at utf8 some same =
    same
    ∙ sym (begins_append test first (flat_map (λ t. codes "_" ++ t) ps) utf8 some)
    ∙ ap (λ x. begins test (chars (x ++ flat_map (λ t. codes "_" ++ t) ps))) at

pub is_nil : (xs : List ℕ) (b : Bool) → b ≡ eqb (length xs) 0 → b ≡ true → xs ≡ []
is_nil xs b test passes = nil_from_length xs (eqb-true (length xs) 0 (sym test ∙ passes))

pub is_some_text : (xs : List ℕ) (b : Bool) → b ≡ eqb (length xs) 0 → b ≡ false → xs ≡ [] → ⊥
is_some_text xs b test fails none = eqb-false (length xs) 0 (sym test ∙ fails) (ap length none)
