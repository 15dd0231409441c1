-- The names of captures are read back.
use Rattle.std.proofs.Common.{◌≡◌, ℕ, zero, suc, ◌+◌, ◌<◌, ◌≤◌, ◌^◌, ◌==◌, Bool, true, false, List, [], ◌∷◌, ◌++◌, length, map, take, drop, Option, Some, None, refl, sym, ap, ◌∙◌, arith, codes, decimal, append_assoc, append-nil, length-append, if◌then◌else◌}
use Rattle.std.proofs.Math.Seq.{take-append_seam, drop-append_seam}
use Rattle.std.proofs.lemmas.Bool.{eq-eqb, ne_eqb, lt-ltb}
use Rattle.std.specs.List.{flat_map, range_with_len}
use Rattle.std.specs.Option.{option_map}
use Rattle.std.specs.Prelude.{is_some, slice_index}
use Rattle.lp_spelling.specs.HoleEnds.{is_word}
use Rattle.lp_maker.specs.Patterns.{capture_after, capture_of, number_after, inner_of, captures_of}
use Rattle.lp_maker.specs.Texts.{begins, after_front, first_place, around, holds, pieces, end_place, without_end}
use Rattle.lp_maker.proofs.Cuts.{has_front}
use Rattle.lp_question_laws.proofs.Gotos.Digits.{Lacks, decimal_lacks, number_of_decimal}
use Rattle.lp_question_laws.proofs.Gotos.Cuts.{Apart, lacks_front, pieces_joined}
use Rattle.lp_question_laws.proofs.Gotos.GotoCode.{lacks-append}
use Rattle.lp_question_laws.proofs.Gotos.LinkHeaders.{IsWordy, lacks_by}
use Rattle.lp_table.specs.TokenLines.{capture_name, capture_names, pieces_from, named_pieces, captured_value}
use Rattle.lp_question_laws.proofs.Tokens.FormOf.{AllWord}

-- a byte of no word stands in no word
pub word_lacks : (c : ℕ) (s : List ℕ) → is_word c ≡ false → AllWord s → Lacks c s
word_lacks c [] out w = tt
word_lacks c (b ∷ bs) out w = (λ same. (let bad : true ≡ false = sym w.0 ∙ ap (λ k. is_word k) same ∙ out in cc), word_lacks c bs out w.1)

pub wordy : (prefix : List ℕ) → AllWord prefix → IsWordy prefix
wordy prefix w = record { no_and = word_lacks 38 prefix refl w; no_open = word_lacks 40 prefix refl w; no_colon = word_lacks 58 prefix refl w }

-- ---- one name
front_off : (front s : List ℕ) → after_front front (front ++ s) ≡ Some s
front_off front s = ap (λ t. if t then Some (drop (length front) (front ++ s)) else None) (has_front front (front ++ s) s refl) ∙ ap Some (drop-append_seam front s)

pub capture_read : (prefix : List ℕ) (j : ℕ) → j < 2 ^ 64 → capture_of prefix (capture_name prefix j) ≡ Some j
capture_read prefix j small =
    ap capture_after (front_off prefix (codes "tok" ++ decimal j))
    ∙ ap number_after (front_off (codes "tok") (decimal j))
    ∙ number_of_decimal j small

place_some : (word s rest : List ℕ) → s ≡ word ++ rest → is_some (first_place word s) ≡ true
place_some word [] rest is = ap (λ t. is_some {T = ℕ} (if t then Some 0 else None)) (has_front word [] rest is)
place_some word (b ∷ bs) rest is = ap (λ t. is_some (if t then Some 0 else option_map suc (first_place word bs))) (has_front word (b ∷ bs) rest is)

place_later : (word a rest : List ℕ) → is_some (first_place word (a ++ (word ++ rest))) ≡ true
place_later word [] rest = place_some word (word ++ rest) rest refl
place_later word (c ∷ a) rest = by (begins word (c ∷ (a ++ (word ++ rest)))) (first_place word (a ++ (word ++ rest))) (place_later word a rest)
  where
    by : (t : Bool) (o : Option ℕ) → is_some o ≡ true → is_some (if t then Some 0 else option_map suc o) ≡ true
    by true o h = refl
    by false None h = h
    by false (Some n) h = refl

some_map : {A B : Type 0} (f : A → B) (o : Option A) → is_some o ≡ true → is_some (option_map f o) ≡ true
some_map f None h = h
some_map f (Some a) h = refl

pub holds_inside : (word a rest : List ℕ) → holds word (a ++ (word ++ rest)) ≡ true
holds_inside word a rest = some_map (around (length word) (a ++ (word ++ rest))) (first_place word (a ++ (word ++ rest))) (place_later word a rest)

-- a pattern holds the names of its captures
inside_from : (prefix : List ℕ) (n i : ℕ) (ps : List (List ℕ)) → i < length ps → (a : List ℕ) × (rest : List ℕ) × (pieces_from prefix n ps ≡ a ++ (capture_name prefix (n + i) ++ rest))
inside_from prefix n i [] lt = absurd (omega arith)
inside_from prefix n zero (p ∷ ps) lt =
    (let same : n ≡ n + 0 = omega arith in ([], p ++ pieces_from prefix (n + 1) ps, append_assoc (capture_name prefix n) p (pieces_from prefix (n + 1) ps) ∙ ap (λ k. capture_name prefix k ++ (p ++ pieces_from prefix (n + 1) ps)) same))
inside_from prefix n (suc i) (p ∷ ps) lt =
    let r = inside_from prefix (n + 1) i ps (omega arith) in
    let same : (n + 1) + i ≡ n + suc i = omega arith in (
      (capture_name prefix n ++ p) ++ r.0,
      r.1,
      ap (λ t. (capture_name prefix n ++ p) ++ t) (r.2 ∙ ap (λ k. r.0 ++ (capture_name prefix k ++ r.1)) same) ∙ sym (append_assoc (capture_name prefix n ++ p) r.0 (capture_name prefix (n + suc i) ++ r.1)),
    )

pub name_held : (prefix : List ℕ) (ps : List (List ℕ)) (i : ℕ) → i + 1 < length ps → holds (capture_name prefix i) (named_pieces prefix ps) ≡ true
name_held prefix [] i lt = absurd (omega arith)
name_held prefix (q ∷ ps) i lt =
    let r = inside_from prefix 0 i ps (omega arith) in
    let same : 0 + i ≡ i = omega arith in
    ap (holds (capture_name prefix i)) (ap (λ t. q ++ t) (r.2 ∙ ap (λ k. r.0 ++ (capture_name prefix k ++ r.1)) same) ∙ sym (append_assoc q r.0 (capture_name prefix i ++ r.1)))
    ∙ holds_inside (capture_name prefix i) (q ++ r.0) r.1

-- ---- several names
abbrev pub names_from : List ℕ → ℕ → ℕ → List (List ℕ)
names_from prefix k n = map (capture_name prefix) (range_with_len k n)

name_lacks : (prefix : List ℕ) (c k : ℕ) → AllWord prefix → is_word c ≡ false → Lacks c (codes "tok") → (48 ≤ c → c ≤ 57 → ⊥) → k < 2 ^ 64 → Lacks c (capture_name prefix k)
name_lacks prefix c k w out tok digit small =
    lacks-append c prefix (codes "tok" ++ decimal k) (word_lacks c prefix out w) (lacks-append c (codes "tok") (decimal k) tok (decimal_lacks c k (λ r. digit r.0 r.1) small))

name_long : (prefix : List ℕ) (k : ℕ) → 0 < length (capture_name prefix k)
name_long prefix k = omega (arith, length-append prefix (codes "tok" ++ decimal k), length-append (codes "tok") (decimal k))

names_apart : (prefix : List ℕ) (k n : ℕ) → AllWord prefix → k + n < 2 ^ 64 → Apart 44 (capture_name prefix k) (names_from prefix (k + 1) n)
names_apart prefix k zero w small = (name_lacks prefix 44 k w refl (lacks_by 44 (codes "tok") refl) (λ a b. omega arith) (omega arith), name_long prefix k)
names_apart prefix k (suc n) w small = (name_lacks prefix 44 k w refl (lacks_by 44 (codes "tok") refl) (λ a b. omega arith) (omega arith), names_apart prefix (k + 1) n w (omega arith))

names_lack : (prefix : List ℕ) (c k n : ℕ) → AllWord prefix → is_word c ≡ false → Lacks c (codes "tok") → (48 ≤ c → c ≤ 57 → ⊥) → Lacks c (codes ", ") → k + n < 2 ^ 64 → Lacks c (flat_map (λ y. codes ", " ++ y) (names_from prefix k n))
names_lack prefix c k zero w out tok digit comma small = tt
names_lack prefix c k (suc n) w out tok digit comma small =
    lacks-append c (codes ", " ++ capture_name prefix k) (flat_map (λ y. codes ", " ++ y) (names_from prefix (k + 1) n)) (lacks-append c (codes ", ") (capture_name prefix k) comma (name_lacks prefix c k w out tok digit (omega arith)))
    (names_lack prefix c (k + 1) n w out tok digit comma (omega arith))

-- a text that ends with one such byte
end_is : (c : ℕ) (s : List ℕ) (n : ℕ) → Lacks c s → n ≤ length s → end_place c (s ++ c ∷ []) n ≡ n
end_is c s zero l le = refl
end_is c s (suc n) l le = ap (λ t. if t then end_place c (s ++ c ∷ []) n else suc n) (ne_eqb (slice_index (s ++ c ∷ []) n) c (other s n l (omega arith)))
  where
    other : (s : List ℕ) (n : ℕ) → Lacks c s → n < length s → slice_index (s ++ c ∷ []) n ≡ c → ⊥
    other [] n l lt = absurd (omega arith)
    other (b ∷ bs) zero l lt = l.0
    other (b ∷ bs) (suc n) l lt = other bs n l.1 (omega arith)

end_off : (c : ℕ) (s : List ℕ) → Lacks c s → without_end c (s ++ c ∷ []) ≡ s
end_off c s l =
    let long : length (s ++ c ∷ []) ≡ suc (length s) = (let e : length (s ++ c ∷ []) ≡ length s + 1 = length-append s (c ∷ []) in omega arith) in
    ap (λ k. take (end_place c (s ++ c ∷ []) k) (s ++ c ∷ [])) long
    ∙ ap (λ t. take (if t then end_place c (s ++ c ∷ []) (length s) else suc (length s)) (s ++ c ∷ [])) (last_is s)
    ∙ ap (λ k. take k (s ++ c ∷ [])) (end_is c s (length s) l (omega arith))
    ∙ take-append_seam s (c ∷ [])
  where
    last_is : (s : List ℕ) → (slice_index (s ++ c ∷ []) (length s) == c) ≡ true
    last_is [] = eq-eqb c c refl
    last_is (b ∷ bs) = last_is bs

-- the names that a hole holds are those of the captures
pub captures_read : (prefix : List ℕ) (n : ℕ) → AllWord prefix → suc n < 2 ^ 64 → captures_of (captured_value prefix (suc n)) ≡ names_from prefix 0 (suc n)
captures_read prefix zero w small =
    let name = capture_name prefix 0 in
    let lacks : Lacks 40 name = name_lacks prefix 40 0 w refl (lacks_by 40 (codes "tok") refl) (λ a b. omega arith) (omega arith) in
    ap captures_of (append-nil name)
    ∙ ap (λ t. pieces (codes ", ") (inner_of name (if t then Some (drop 1 name) else None))) (lacks_front 40 [] name lacks)
    ∙ ap (pieces (codes ", ")) (sym (append-nil name))
    ∙ pieces_joined 44 (32 ∷ []) name [] (names_apart prefix 0 0 w (omega arith))
captures_read prefix (suc n) w small =
    let names = capture_names prefix (suc (suc n)) in
    let lacks : Lacks 41 names =
    lacks-append 41 (capture_name prefix 0) (flat_map (λ y. codes ", " ++ y) (names_from prefix 1 (suc n))) (name_lacks prefix 41 0 w refl (lacks_by 41 (codes "tok") refl) (λ a b. omega arith) (omega arith))
    (names_lack prefix 41 1 (suc n) w refl (lacks_by 41 (codes "tok") refl) (λ a b. omega arith) (lacks_by 41 (codes ", ") refl) (omega arith)) in
    ap (λ t. captures_of (if t then codes "(" ++ (names ++ codes ")") else names)) (lt-ltb 1 (suc (suc n)) (omega arith))
    ∙ ap (λ t. pieces (codes ", ") t) (end_off 41 names lacks)
    ∙ pieces_joined 44 (32 ∷ []) (capture_name prefix 0) (names_from prefix 1 (suc n)) (names_apart prefix 0 (suc n) w (omega arith))
