-- The steps of the loops that look for a hole's end.
use Rattle.std.proofs.Common.{◌≡◌, ℕ, ◌+◌, ◌-◌, ◌<◌, ◌≤◌, suc, Bool, true, false, cond, ◌&&◌, inl, inr, List, [], ◌∷◌, length, get_or, drop, map, Bor, refl, sym, ◌∙◌, ap, arith, eqb}
use Rattle.std.specs.List.{list_all, prefix_len}
use Rattle.std.proofs.Math.Dec.{eqb-suc-suc}
use Rattle.std.proofs.lemmas.Bool.{cases_Bool, cond-true, cond-false, ltb-true, ltb-false, lt-ltb, le-ltb, ne_eqb}
use Rattle.std.proofs.lemmas.List.{at_drop_more, at_drop_all, drop_more}
use Rattle.std.proofs.lemmas.List.Sums.{prefix_len-drop_yes, prefix_len-drop_no, prefix_len-drop_all}
use Rattle.lp_form.specs.declared.template.Slot.{Slot}
use Rattle.lp_form.specs.declared.template.Slot.TheVariants.{Nothing}
use Rattle.lp_form.specs.Templates.{piece}
use Rattle.lp_spelling.specs.Lines.{slot_text}
use Rattle.lp_spelling.specs.HoleEnds.{first_at, is_somewhere, last_at, close_at, closes_all, depth_after, left_by, times, is_hole, is_alone, is_up_to}

-- how many bytes in front pass a test
pub run_more : (test : ℕ → Bool) (text : List ℕ) (i : ℕ) → i < length text → test (get_or text i 0) ≡ true → prefix_len test (drop i text) ≡ prefix_len test (drop (i + 1) text) + 1
run_more test text i lt h = let e = prefix_len-drop_yes test text i 0 lt h in omega (arith, e)

pub run_stop : (test : ℕ → Bool) (text : List ℕ) (i : ℕ) → i < length text → test (get_or text i 0) ≡ false → prefix_len test (drop i text) ≡ 0
run_stop test text i lt h = prefix_len-drop_no test text i 0 lt h

pub run_over : (test : ℕ → Bool) (text : List ℕ) (i : ℕ) → length text ≤ i → prefix_len test (drop i text) ≡ 0
run_over test text i le = prefix_len-drop_all test text i le

pub ruleset run_steps = (run_more, run_stop, run_over)

-- all bytes pass a test where as many pass in front as there are
pub all_run : (test : ℕ → Bool) (text : List ℕ) → eqb (prefix_len test text) (length text) ≡ list_all test text
all_run test [] = refl
all_run test (b ∷ text) = elim (cases_Bool (test b)) [
  | inl e ↦
      let one : 1 + prefix_len test text ≡ suc (prefix_len test text) = omega arith in
      rw e (ap (λ n. eqb n (suc (length text))) one ∙ eqb-suc-suc (prefix_len test text) (length text) ∙ all_run test text)
  | inr e ↦ rw e (ne_eqb 0 (suc (length text)) (λ h. absurd (omega arith)))
]

-- the first place that passes
pub first_more : (test : List ℕ → Bool) (text : List ℕ) (i : ℕ) → i < length text → test (drop i text) ≡ false → first_at test (drop i text) ≡ first_at test (drop (i + 1) text) + 1
unfolding first_at
first_more test text i lt h =
    let d : drop i text ≡ get_or text i 0 ∷ drop (i + 1) text = drop_more text i 0 lt in
    let s : test (get_or text i 0 ∷ drop (i + 1) text) ≡ false = ap test (sym d) ∙ h in
    ap (first_at test) d ∙ cond-false (test (get_or text i 0 ∷ drop (i + 1) text)) _ _ s ∙ omega arith

pub first_here : (test : List ℕ → Bool) (text : List ℕ) (i : ℕ) → i < length text → test (drop i text) ≡ true → first_at test (drop i text) ≡ 0
unfolding first_at
first_here test text i lt h =
    let d : drop i text ≡ get_or text i 0 ∷ drop (i + 1) text = drop_more text i 0 lt in
    let s : test (get_or text i 0 ∷ drop (i + 1) text) ≡ true = ap test (sym d) ∙ h in
    ap (first_at test) d ∙ cond-true (test (get_or text i 0 ∷ drop (i + 1) text)) _ _ s

pub first_over : (test : List ℕ → Bool) (text : List ℕ) (i : ℕ) → length text ≤ i → first_at test (drop i text) ≡ 0
unfolding first_at
first_over test text i le = at_drop_all (first_at test) text i le

pub ruleset first_steps = (first_more, first_here, first_over)

-- the last place that passes
first_of : (test : List ℕ → Bool) (b : ℕ) (t : List ℕ) → test (b ∷ t) ≡ false → first_at test (b ∷ t) ≡ suc (first_at test t)
unfolding first_at
first_of test b t h = cond-false (test (b ∷ t)) _ _ h

somewhere_hit : (test : List ℕ → Bool) (b : ℕ) (t : List ℕ) → test (b ∷ t) ≡ true → is_somewhere test (b ∷ t) ≡ true
unfolding first_at
somewhere_hit test b t h =
    let e : first_at test (b ∷ t) ≡ 0 = cond-true (test (b ∷ t)) _ _ h in
    lt-ltb (first_at test (b ∷ t)) (length (b ∷ t)) (omega (arith, e))

somewhere_miss : (test : List ℕ → Bool) (b : ℕ) (t : List ℕ) → test (b ∷ t) ≡ false → is_somewhere test (b ∷ t) ≡ is_somewhere test t
somewhere_miss test b t h =
    let e : first_at test (b ∷ t) ≡ suc (first_at test t) = first_of test b t h in
    elim (cases_Bool (is_somewhere test t)) [
      | inl y ↦ lt-ltb (first_at test (b ∷ t)) (length (b ∷ t)) (omega (arith, e, ltb-true (first_at test t) (length t) y)) ∙ sym y
      | inr n ↦ le-ltb (first_at test (b ∷ t)) (length (b ∷ t)) (omega (arith, e, ltb-false (first_at test t) (length t) n)) ∙ sym n
    ]

last_on : (test : List ℕ → Bool) (b : ℕ) (t : List ℕ) → is_somewhere test t ≡ true → last_at test (b ∷ t) ≡ suc (last_at test t)
unfolding last_at
last_on test b t h = cond-true (is_somewhere test t) _ _ h

last_hit : (test : List ℕ → Bool) (b : ℕ) (t : List ℕ) → is_somewhere test t ≡ false → test (b ∷ t) ≡ true → last_at test (b ∷ t) ≡ 0
unfolding last_at
last_hit test b t h y = cond-false (is_somewhere test t) _ _ h ∙ cond-true (test (b ∷ t)) _ _ y

last_miss : (test : List ℕ → Bool) (b : ℕ) (t : List ℕ) → is_somewhere test t ≡ false → test (b ∷ t) ≡ false → last_at test (b ∷ t) ≡ suc (length t)
unfolding last_at
last_miss test b t h n = cond-false (is_somewhere test t) _ _ h ∙ cond-false (test (b ∷ t)) _ _ n

-- without such a place the last one is the length
pub last_none : (test : List ℕ → Bool) (text : List ℕ) → is_somewhere test text ≡ false → last_at test text ≡ length text
unfolding last_at
last_none test [] h = refl
last_none test (b ∷ t) h = elim (cases_Bool (test (b ∷ t))) [
  | inl y ↦ absurd (omega (arith, ltb-false (first_at test (b ∷ t)) (length (b ∷ t)) h, ltb-true (first_at test (b ∷ t)) (length (b ∷ t)) (somewhere_hit test b t y)))
  | inr n ↦ last_miss test b t (sym (somewhere_miss test b t n) ∙ h) n
]

-- the last place, where the places before i are looked at and the last of them is known
abbrev pub last_from : (List ℕ → Bool) → List ℕ → ℕ → ℕ → ℕ
last_from test text i last = cond (is_somewhere test (drop i text)) (i + last_at test (drop i text)) last

pub last_start : (test : List ℕ → Bool) (text : List ℕ) → last_from test text 0 (length text) ≡ last_at test text
last_start test text = elim (cases_Bool (is_somewhere test text)) [
  | inl y ↦
      let front : 0 + last_at test text ≡ last_at test text = omega arith in
      cond-true (is_somewhere test text) _ _ y ∙ front
  | inr n ↦ cond-false (is_somewhere test text) _ _ n ∙ sym (last_none test text n)
]

-- one place more, at which the text goes on as asked
last_push : (test : List ℕ → Bool) (i last b : ℕ) (t : List ℕ) → test (b ∷ t) ≡ true →
    cond (is_somewhere test t) ((i + 1) + last_at test t) i ≡ cond (is_somewhere test (b ∷ t)) (i + last_at test (b ∷ t)) last
last_push test i last b t h =
    let some : cond (is_somewhere test (b ∷ t)) (i + last_at test (b ∷ t)) last ≡ i + last_at test (b ∷ t) = cond-true (is_somewhere test (b ∷ t)) _ _ (somewhere_hit test b t h) in
    elim (cases_Bool (is_somewhere test t)) [
      | inl y ↦ let e = last_on test b t y in cond-true (is_somewhere test t) _ _ y ∙ omega (arith, e) ∙ sym some
      | inr n ↦ let e = last_hit test b t n h in cond-false (is_somewhere test t) _ _ n ∙ omega (arith, e) ∙ sym some
    ]

-- and one at which it doesn't
last_pass : (test : List ℕ → Bool) (i last b : ℕ) (t : List ℕ) → test (b ∷ t) ≡ false →
    cond (is_somewhere test t) ((i + 1) + last_at test t) last ≡ cond (is_somewhere test (b ∷ t)) (i + last_at test (b ∷ t)) last
last_pass test i last b t h =
    let same : is_somewhere test (b ∷ t) ≡ is_somewhere test t = somewhere_miss test b t h in
    elim (cases_Bool (is_somewhere test t)) [
      | inl y ↦
          let e = last_on test b t y in
          cond-true (is_somewhere test t) _ _ y ∙ omega (arith, e) ∙ sym (cond-true (is_somewhere test (b ∷ t)) (i + last_at test (b ∷ t)) last (same ∙ y))
      | inr n ↦ cond-false (is_somewhere test t) _ _ n ∙ sym (cond-false (is_somewhere test (b ∷ t)) (i + last_at test (b ∷ t)) last (same ∙ n))
    ]

pub last_found : (test : List ℕ → Bool) (text : List ℕ) (i last : ℕ) → i < length text → test (drop i text) ≡ true → last_from test text (i + 1) i ≡ last_from test text i last
last_found test text i last lt h =
    let d : drop i text ≡ get_or text i 0 ∷ drop (i + 1) text = drop_more text i 0 lt in
    last_push test i last (get_or text i 0) (drop (i + 1) text) (ap test (sym d) ∙ h)
    ∙ ap (λ x. cond (is_somewhere test x) (i + last_at test x) last) (sym d)

pub last_passed : (test : List ℕ → Bool) (text : List ℕ) (i last : ℕ) → i < length text → test (drop i text) ≡ false → last_from test text (i + 1) last ≡ last_from test text i last
last_passed test text i last lt h =
    let d : drop i text ≡ get_or text i 0 ∷ drop (i + 1) text = drop_more text i 0 lt in
    last_pass test i last (get_or text i 0) (drop (i + 1) text) (ap test (sym d) ∙ h)
    ∙ ap (λ x. cond (is_somewhere test x) (i + last_at test x) last) (sym d)

pub last_over : (test : List ℕ → Bool) (text : List ℕ) (i last : ℕ) → length text ≤ i → last_from test text i last ≡ last
unfolding first_at
last_over test text i last le = at_drop_all (λ x. cond (is_somewhere test x) (i + last_at test x) last) text i le

-- the bracket that closes all
pub close_more : (depth : ℕ) (text : List ℕ) (i : ℕ) → i < length text → closes_all depth (get_or text i 0) ≡ false →
    close_at depth (drop i text) ≡ close_at (depth_after depth (get_or text i 0)) (drop (i + 1) text) + 1
unfolding close_at
close_more depth text i lt h =
    at_drop_more (close_at depth) text i 0 lt ∙ cond-false (closes_all depth (get_or text i 0)) _ _ h ∙ omega arith

pub close_here : (depth : ℕ) (text : List ℕ) (i : ℕ) → i < length text → closes_all depth (get_or text i 0) ≡ true → close_at depth (drop i text) ≡ 0
unfolding close_at
close_here depth text i lt h = at_drop_more (close_at depth) text i 0 lt ∙ cond-true (closes_all depth (get_or text i 0)) _ _ h

pub close_over : (depth : ℕ) (text : List ℕ) (i : ℕ) → length text ≤ i → close_at depth (drop i text) ≡ 0
unfolding close_at
close_over depth text i le = at_drop_all (close_at depth) text i le

pub ruleset close_steps = (close_more, close_here, close_over)

-- no part at all, as the code reads one
abbrev pub none : Bor (List ℕ) × Slot
none = (record { ref_ptr = (0, 0); now = [] }, Nothing)

pub left_more : (prefix : List ℕ) (known : List (List ℕ)) (parts : List (Bor (List ℕ) × Slot)) (i n : ℕ) → i < length parts →
    left_by prefix known (map piece (drop i parts)) n
    ≡ left_by prefix known (map piece (drop (i + 1) parts)) (n - length (get_or parts i none).0.now - length (slot_text prefix known (get_or parts i none).1))
unfolding left_by
left_more prefix known parts i n lt = at_drop_more (λ ps. left_by prefix known (map piece ps) n) parts i none lt

pub left_over : (prefix : List ℕ) (known : List (List ℕ)) (parts : List (Bor (List ℕ) × Slot)) (i n : ℕ) → length parts ≤ i → left_by prefix known (map piece (drop i parts)) n ≡ n
unfolding left_by
left_over prefix known parts i n le = at_drop_all (λ ps. left_by prefix known (map piece ps) n) parts i le

pub times_more : (k : ℕ) (parts : List (Bor (List ℕ) × Slot)) (i : ℕ) → i < length parts →
    times k (map piece (drop i parts)) ≡ cond (is_hole k (get_or parts i none).1) (times k (map piece (drop (i + 1) parts)) + 1) (times k (map piece (drop (i + 1) parts)))
unfolding times
times_more k parts i lt =
    let e = at_drop_more (λ ps. times k (map piece ps)) parts i none lt in
    e ∙ ap (λ m. cond (is_hole k (get_or parts i none).1) m (times k (map piece (drop (i + 1) parts)))) (omega arith)

pub times_over : (k : ℕ) (parts : List (Bor (List ℕ) × Slot)) (i : ℕ) → length parts ≤ i → times k (map piece (drop i parts)) ≡ 0
unfolding times
times_over k parts i le = at_drop_all (λ ps. times k (map piece ps)) parts i le

pub alone_more : (k : ℕ) (parts : List (Bor (List ℕ) × Slot)) (i : ℕ) → i < length parts → is_up_to k (get_or parts i none).1 ≡ true →
    is_alone k (map piece (drop i parts)) ≡ is_alone k (map piece (drop (i + 1) parts))
unfolding is_alone
alone_more k parts i lt h =
    let e = at_drop_more (λ ps. is_alone k (map piece ps)) parts i none lt in
    e ∙ ap (λ b. b && is_alone k (map piece (drop (i + 1) parts))) h

pub alone_stop : (k : ℕ) (parts : List (Bor (List ℕ) × Slot)) (i : ℕ) → i < length parts → is_up_to k (get_or parts i none).1 ≡ false → is_alone k (map piece (drop i parts)) ≡ false
unfolding is_alone
alone_stop k parts i lt h =
    let e = at_drop_more (λ ps. is_alone k (map piece ps)) parts i none lt in
    e ∙ ap (λ b. b && is_alone k (map piece (drop (i + 1) parts))) h

pub alone_over : (k : ℕ) (parts : List (Bor (List ℕ) × Slot)) (i : ℕ) → length parts ≤ i → is_alone k (map piece (drop i parts)) ≡ true
unfolding is_alone
alone_over k parts i le = at_drop_all (λ ps. is_alone k (map piece ps)) parts i le

pub ruleset part_steps = (left_more, left_over, times_more, times_over, alone_more, alone_stop, alone_over)
