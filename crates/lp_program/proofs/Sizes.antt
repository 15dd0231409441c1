-- As much is taken off for the entries of a table in each text that agrees up to the line on which the table ends.
use Rattle.std.proofs.Common.{◌≡◌, ℕ, ℤ, ◌+◌, ◌-◌, ◌<◌, ◌≤◌, zero, suc, Bool, true, false, inl, inr, List, [], ◌∷◌, ◌++◌, length, if◌then◌else◌, Option, Some, None, refl, sym, ap, ◌∙◌, subst, arith, length-append}
use Rattle.std.specs.Str.{IsUtf8}
use Rattle.lp_local.specs.Agreeing.{Agree, lines_before}
use Rattle.lp_local.proofs.Agreeing.{feeds-append, line_shared}
use Rattle.lp_local.proofs.Broken.{Alike, fronts_alike}
use Rattle.lp_local.proofs.Settling.{before_byte}
use Rattle.lp_local.proofs.Tables.{StepLeft, GoesTo, front_left, front_over, more_behind}
use Rattle.lp_spelling.specs.Counting.{feeds}
use Rattle.lp_spelling.specs.LineReading.{◌>>=◌}
use Rattle.lp_spelling.specs.TableReading.{Front, front_of, Table, with_number, goes_on_after, entries_within, entries}
use Rattle.lp_spelling.specs.TableReading.Front.{feed, skip, ends, found_entry, wrong}

-- what stands in front of two texts takes as much off both
abbrev Sized : List ℕ → List ℕ → Front → Front → Type 0
Sized a b (feed r) (feed q) = length b + length r ≡ length a + length q
Sized a b (skip r) (skip q) = length b + length r ≡ length a + length q
Sized a b (found_entry z r) (found_entry y q) = length b + length r ≡ length a + length q
Sized a b f g = Unit {0}

sized_itself : (a : List ℕ) (f : Front) → Sized a a f f
sized_itself a (feed r) = refl
sized_itself a (skip r) = refl
sized_itself a ends = tt
sized_itself a (found_entry z r) = refl
sized_itself a wrong = tt

line_sized : (line r p q : List ℕ) → length (line ++ 10 ∷ q) + length (r ++ 10 ∷ p) ≡ length (line ++ 10 ∷ p) + length (r ++ 10 ∷ q)
line_sized line r p q =
    let one = length-append line (10 ∷ q) in
    let two = length-append r (10 ∷ p) in
    let three = length-append line (10 ∷ p) in
    let four = length-append r (10 ∷ q) in
    omega (arith, one, two, three, four)

more_sized : (line p q : List ℕ) (f : Front) → Sized (line ++ 10 ∷ p) (line ++ 10 ∷ q) (more_behind (10 ∷ p) f) (more_behind (10 ∷ q) f)
more_sized line p q (feed r) = line_sized line r p q
more_sized line p q (skip r) = line_sized line r p q
more_sized line p q ends = tt
more_sized line p q (found_entry z r) = line_sized line r p q
more_sized line p q wrong = tt

line_fronts : (line p q : List ℕ) → IsUtf8 (line ++ 10 ∷ p) → feeds line ≡ 0 → Sized (line ++ 10 ∷ p) (line ++ 10 ∷ q) (front_of (line ++ 10 ∷ p)) (front_of (line ++ 10 ∷ q))
unfolding front_of
line_fronts [] p q u none = omega arith
line_fronts (b ∷ l) p q u none =
    let v : IsUtf8 (b ∷ l) = before_byte (b ∷ l) 10 p (omega arith) u in
    subst (λ (f : Front). Sized (b ∷ (l ++ 10 ∷ p)) (b ∷ (l ++ 10 ∷ q)) f (front_of (b ∷ (l ++ 10 ∷ q)))) (sym (front_over b l p v none))
    (subst (λ (g : Front). Sized (b ∷ (l ++ 10 ∷ p)) (b ∷ (l ++ 10 ∷ q)) (more_behind (10 ∷ p) (front_of (b ∷ l))) g) (sym (front_over b l q v none)) (more_sized (b ∷ l) p q (front_of (b ∷ l))))

fronts_sized : (n : ℕ) (a b : List ℕ) → IsUtf8 a → Agree (suc n) a b → Sized a b (front_of a) (front_of b)
fronts_sized n a b u h = elim (line_shared n a b h) [
  | inl e ↦ subst (λ (x : List ℕ). Sized a x (front_of a) (front_of x)) e (sized_itself a (front_of a))
  | inr s ↦
      subst (λ (x : List ℕ). Sized x b (front_of x) (front_of b)) (sym s.a_is)
      (subst (λ (x : List ℕ). Sized (s.line ++ 10 ∷ s.behind) x (front_of (s.line ++ 10 ∷ s.behind)) (front_of x)) (sym s.b_is) (line_fronts s.line s.behind s.other (subst IsUtf8 s.a_is u) s.within))
]

-- what is left behind the entries has no more lines than the text
module _ (go : Bool → List ℕ → Option Table) (later : (h : Bool) (r : List ℕ) (x : Table) → IsUtf8 r → go h r ≡ Some x → feeds x.1 ≤ feeds r) where
  step_fewer : (a r : List ℕ) (x : Table) (h : Bool) → StepLeft a r → go h r ≡ Some x → feeds x.1 ≤ feeds a
  step_fewer a r x h s e =
      let one = ap feeds s.whole ∙ feeds-append s.front r in
      let l = later h r x s.utf8 e in
      omega (arith, one, l)

  entry_fewer : (z : ℤ) (a r : List ℕ) (t : Table) (o : Option Table) → StepLeft a r → go false r ≡ o → (o >>= λ table. Some (with_number z table)) ≡ Some t → feeds t.1 ≤ feeds a
  entry_fewer z a r t None s e h = absurd cc
  entry_fewer z a r t (Some x) s e h =
      let same : with_number z x ≡ t = cc in
      subst (λ (y : Table). feeds y.1 ≤ feeds a) same (step_fewer a r x false s e)

  front_fewer : (g : Bool) (a : List ℕ) (f : Front) (t : Table) → GoesTo a f → goes_on_after go g a f ≡ Some t → feeds t.1 ≤ feeds a
  front_fewer g a (feed r) t s h = step_fewer a r t true s h
  front_fewer g a (skip r) t s h = step_fewer a r t g s h
  front_fewer true a ends t s h = let same : ([], a) ≡ t = cc in subst (λ (y : Table). feeds y.1 ≤ feeds a) same (omega arith)
  front_fewer false a ends t s h = absurd cc
  front_fewer g a (found_entry z r) t s h = entry_fewer z a r t (go false r) s refl h
  front_fewer g a wrong t s h = absurd cc

within_fewer : (m : ℕ) (g : Bool) (a : List ℕ) (t : Table) → IsUtf8 a → entries_within m g a ≡ Some t → feeds t.1 ≤ feeds a
unfolding entries_within
within_fewer zero g a t u h = absurd cc
within_fewer (suc m) g a t u h = front_fewer (entries_within m) (λ i r x v e. within_fewer m i r x v e) g a (front_of a) t (front_left a u) h

-- behind a step as much is left to be taken off both texts
abbrev SizedTables : ℕ → ℕ → Type 0
SizedTables m k =
    (n : ℕ) (g : Bool) (a b : List ℕ) (t s : Table) → IsUtf8 a → lines_before a t.1 < n → Agree n a b → entries_within m g a ≡ Some t → entries_within k g b ≡ Some s → length b + length t.1 ≡ length a + length s.1

module _ (m k n : ℕ) (later : SizedTables m k) where
  step_on : (i : Bool) (a b r q : List ℕ) (t s : Table) → lines_before a t.1 < n → StepLeft a r → Agree (n - lines_before a r) r q → length b + length r ≡ length a + length q → entries_within m i r ≡ Some t →
      entries_within k i q ≡ Some s → length b + length t.1 ≡ length a + length s.1
  step_on i a b r q t s lt left agree size h j =
      let one = ap feeds left.whole ∙ feeds-append left.front r in
      let few = within_fewer m i r t left.utf8 h in
      let rest = later (n - lines_before a r) i r q t s left.utf8 (omega (arith, one, few, lt)) agree h j in
      omega (arith, size, rest)

  entry_on : (z y : ℤ) (a b r q : List ℕ) (t s : Table) (o p : Option Table) → lines_before a t.1 < n → StepLeft a r → Agree (n - lines_before a r) r q → length b + length r ≡ length a + length q → entries_within m false r ≡ o →
      entries_within k false q ≡ p → (o >>= λ table. Some (with_number z table)) ≡ Some t → (p >>= λ table. Some (with_number y table)) ≡ Some s → length b + length t.1 ≡ length a + length s.1
  entry_on z y a b r q t s None p lt left agree size h j e f = absurd cc
  entry_on z y a b r q t s (Some u) None lt left agree size h j e f = absurd cc
  entry_on z y a b r q t s (Some u) (Some v) lt left agree size h j e f =
      let one : with_number z u ≡ t = cc in
      let two : with_number y v ≡ s = cc in
      let few : lines_before a u.1 < n = subst (λ (x : Table). lines_before a x.1 < n) (sym one) lt in
      let all = step_on false a b r q u v few left agree size h j in
      subst (λ (x : Table). length b + length x.1 ≡ length a + length s.1) one (subst (λ (x : Table). length b + length u.1 ≡ length a + length x.1) two all)

  ends_on : (g : Bool) (a b : List ℕ) (t s : Table) → (if g then Some ([], a) else None) ≡ Some t → (if g then Some ([], b) else None) ≡ Some s → length b + length t.1 ≡ length a + length s.1
  ends_on true a b t s h j =
      let one : ([], a) ≡ t = cc in
      let two : ([], b) ≡ s = cc in
      let x = ap (λ (y : Table). length y.1) one in
      let z = ap (λ (y : Table). length y.1) two in
      omega (arith, x, z)
  ends_on false a b t s h j = absurd cc

  front_on : (g : Bool) (a b : List ℕ) (t s : Table) (f h : Front) → lines_before a t.1 < n → Alike n a f h → Sized a b f h → goes_on_after (entries_within m) g a f ≡ Some t → goes_on_after (entries_within k) g b h ≡ Some s →
      length b + length t.1 ≡ length a + length s.1
  front_on g a b t s (feed r) (feed q) lt x y i j = step_on true a b r q t s lt x.0 x.1 y i j
  front_on g a b t s (feed r) (skip q) lt x y i j = absurd x
  front_on g a b t s (feed r) ends lt x y i j = absurd x
  front_on g a b t s (feed r) (found_entry z q) lt x y i j = absurd x
  front_on g a b t s (feed r) wrong lt x y i j = absurd x
  front_on g a b t s (skip r) (feed q) lt x y i j = absurd x
  front_on g a b t s (skip r) (skip q) lt x y i j = step_on g a b r q t s lt x.0 x.1 y i j
  front_on g a b t s (skip r) ends lt x y i j = absurd x
  front_on g a b t s (skip r) (found_entry z q) lt x y i j = absurd x
  front_on g a b t s (skip r) wrong lt x y i j = absurd x
  front_on g a b t s ends (feed q) lt x y i j = absurd x
  front_on g a b t s ends (skip q) lt x y i j = absurd x
  front_on g a b t s ends ends lt x y i j = ends_on g a b t s i j
  front_on g a b t s ends (found_entry z q) lt x y i j = absurd x
  front_on g a b t s ends wrong lt x y i j = absurd x
  front_on g a b t s (found_entry w r) (feed q) lt x y i j = absurd x
  front_on g a b t s (found_entry w r) (skip q) lt x y i j = absurd x
  front_on g a b t s (found_entry w r) ends lt x y i j = absurd x
  front_on g a b t s (found_entry w r) (found_entry z q) lt x y i j = entry_on w z a b r q t s (entries_within m false r) (entries_within k false q) lt x.1 x.2 y refl refl i j
  front_on g a b t s (found_entry w r) wrong lt x y i j = absurd x
  front_on g a b t s wrong h lt x y i j = absurd cc

within_sized : (m k : ℕ) → SizedTables m k
unfolding entries_within
within_sized zero k n g a b t s u lt agree h j = absurd cc
within_sized (suc m) zero n g a b t s u lt agree h j = absurd cc
within_sized (suc m) (suc k) zero g a b t s u lt agree h j = absurd (omega arith)
within_sized (suc m) (suc k) (suc n) g a b t s u lt agree h j =
    front_on m k (suc n) (within_sized m k) g a b t s (front_of a) (front_of b) lt (fronts_alike n a b u agree) (fronts_sized n a b u agree) h j

pub entries_sized : (n : ℕ) (a b : List ℕ) (numbers others : List ℤ) (rest other : List ℕ) → IsUtf8 a → lines_before a rest < n → Agree n a b → entries a ≡ Some (numbers, rest) → entries b ≡ Some (others, other) →
    length b + length rest ≡ length a + length other
unfolding entries
entries_sized n a b numbers others rest other u lt agree h j = within_sized (length a) (length b) n true a b (numbers, rest) (others, other) u lt agree h j
