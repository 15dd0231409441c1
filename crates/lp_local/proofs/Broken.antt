-- A table that is broken at a place is broken in each text that agrees up to the line of that place.
use Rattle.std.proofs.Common.{◌≡◌, ℕ, ℤ, ◌+◌, ◌-◌, ◌<◌, zero, suc, Bool, true, false, inl, inr, List, [], ◌∷◌, ◌++◌, length, Option, Some, None, refl, sym, ap, ◌∙◌, subst, arith, append_assoc}
use Rattle.std.specs.Str.{IsUtf8}
use Rattle.std.proofs.lemmas.Str.{IsUtf8-append}
use Rattle.lp_spelling.specs.Counting.{feeds}
use Rattle.lp_spelling.specs.LineReading.{◌>>=◌}
use Rattle.lp_spelling.specs.TableReading.{Front, front_of, Table, with_number, goes_on_after, entries_within, entries, IsBroken, broken_here, broken_end, broken_feed, broken_skip, broken_entry}
use Rattle.lp_spelling.specs.TableReading.Front.{feed, skip, ends, found_entry, wrong}
use Rattle.lp_local.specs.Agreeing.{Agree, lines_before}
use Rattle.lp_local.proofs.Agreeing.{feeds_feed, feeds-append, before_rest, agree_front, feed_front, line_shared}
use Rattle.lp_local.proofs.Settling.{Left, behind_byte, from_byte, before_byte}
use Rattle.lp_local.proofs.Tables.{StepLeft, GoesTo, front_left, left_step, more_behind, front_over}

-- what stands in front of two texts, and the agreement behind it
abbrev pub Alike : ℕ → List ℕ → Front → Front → Type 0
Alike n a (feed r) (feed q) = StepLeft a r × Agree (n - lines_before a r) r q
Alike n a (skip r) (skip q) = StepLeft a r × Agree (n - lines_before a r) r q
Alike n a ends ends = Unit {0}
Alike n a (found_entry z r) (found_entry y q) = (z ≡ y) × StepLeft a r × Agree (n - lines_before a r) r q
Alike n a wrong wrong = Unit {0}
Alike n a f g = ⊥

alike_itself : (n : ℕ) (a : List ℕ) (f : Front) → GoesTo a f → Alike n a f f
alike_itself n a (feed r) s = (s, refl)
alike_itself n a (skip r) s = (s, refl)
alike_itself n a ends s = tt
alike_itself n a (found_entry z r) s = (refl, s, refl)
alike_itself n a wrong s = tt

-- a step within the first line
line_alike : (n : ℕ) (line p q r : List ℕ) → IsUtf8 (10 ∷ p) → feeds line ≡ 0 → Agree n p q → StepLeft line r →
    StepLeft (line ++ 10 ∷ p) (r ++ 10 ∷ p) × Agree (suc n - lines_before (line ++ 10 ∷ p) (r ++ 10 ∷ p)) (r ++ 10 ∷ p) (r ++ 10 ∷ q)
line_alike n line p q r v none agree s =
    let whole : line ++ 10 ∷ p ≡ s.front ++ (r ++ 10 ∷ p) = ap (λ (x : List ℕ). x ++ 10 ∷ p) s.whole ∙ append_assoc s.front r (10 ∷ p) in
    let one : feeds line ≡ feeds s.front + feeds r = ap feeds s.whole ∙ feeds-append s.front r in
    let before : lines_before (line ++ 10 ∷ p) (r ++ 10 ∷ p) ≡ feeds s.front = before_rest s.front (r ++ 10 ∷ p) (line ++ 10 ∷ p) whole in
    let all : suc n ≡ suc n - feeds r = omega (arith, one, none) in
    let same : suc n ≡ suc n - lines_before (line ++ 10 ∷ p) (r ++ 10 ∷ p) = omega (arith, one, none, before) in
    let both : Agree (suc n) (r ++ 10 ∷ p) (r ++ 10 ∷ q)
    = agree_front (suc n) r (10 ∷ p) (10 ∷ q) (omega (arith, one, none)) (subst (λ i. Agree i (10 ∷ p) (10 ∷ q)) all (feed_front n p q agree)) in
    (record { utf8 = IsUtf8-append r (10 ∷ p) s.utf8 v; front = s.front; whole = whole; some = s.some }, subst (λ i. Agree i (r ++ 10 ∷ p) (r ++ 10 ∷ q)) same both)

more_alike : (n : ℕ) (line p q : List ℕ) (f : Front) → IsUtf8 (10 ∷ p) → feeds line ≡ 0 → Agree n p q → GoesTo line f → Alike (suc n) (line ++ 10 ∷ p) (more_behind (10 ∷ p) f) (more_behind (10 ∷ q) f)
more_alike n line p q (feed r) v none agree s = line_alike n line p q r v none agree s
more_alike n line p q (skip r) v none agree s = line_alike n line p q r v none agree s
more_alike n line p q ends v none agree s = tt
more_alike n line p q (found_entry z r) v none agree s = let x = line_alike n line p q r v none agree s in (refl, x.0, x.1)
more_alike n line p q wrong v none agree s = tt

line_fronts : (n : ℕ) (line p q : List ℕ) → IsUtf8 (line ++ 10 ∷ p) → feeds line ≡ 0 → Agree n p q → Alike (suc n) (line ++ 10 ∷ p) (front_of (line ++ 10 ∷ p)) (front_of (line ++ 10 ∷ q))
unfolding front_of
line_fronts n [] p q u none agree =
    let one : feeds (10 ∷ p) ≡ 1 + feeds p = feeds_feed 10 p refl in
    let same : n ≡ suc n - lines_before (10 ∷ p) p = omega (arith, one) in
    (record { utf8 = behind_byte [] 10 p (omega arith) u; front = 10 ∷ []; whole = refl; some = omega arith }, subst (λ i. Agree i p q) same agree)
line_fronts n (b ∷ l) p q u none agree =
    let v : IsUtf8 (b ∷ l) = before_byte (b ∷ l) 10 p (omega arith) u in
    let w : IsUtf8 (10 ∷ p) = from_byte (b ∷ l) 10 p (omega arith) u in
    let alike : Alike (suc n) (b ∷ (l ++ 10 ∷ p)) (more_behind (10 ∷ p) (front_of (b ∷ l))) (more_behind (10 ∷ q) (front_of (b ∷ l)))
    = more_alike n (b ∷ l) p q (front_of (b ∷ l)) w none agree (front_left (b ∷ l) v) in
    subst (λ (f : Front). Alike (suc n) (b ∷ (l ++ 10 ∷ p)) f (front_of (b ∷ (l ++ 10 ∷ q)))) (sym (front_over b l p v none))
    (subst (λ (g : Front). Alike (suc n) (b ∷ (l ++ 10 ∷ p)) (more_behind (10 ∷ p) (front_of (b ∷ l))) g) (sym (front_over b l q v none)) alike)

pub fronts_alike : (n : ℕ) (a b : List ℕ) → IsUtf8 a → Agree (suc n) a b → Alike (suc n) a (front_of a) (front_of b)
fronts_alike n a b u h = elim (line_shared n a b h) [
  | inl e ↦ subst (λ (x : List ℕ). Alike (suc n) a (front_of a) (front_of x)) e (alike_itself (suc n) a (front_of a) (front_left a u))
  | inr s ↦
      subst (λ (x : List ℕ). Alike (suc n) x (front_of x) (front_of b)) (sym s.a_is)
      (subst (λ (x : List ℕ). Alike (suc n) (s.line ++ 10 ∷ s.behind) (front_of (s.line ++ 10 ∷ s.behind)) (front_of x)) (sym s.b_is)
      (line_fronts n s.line s.behind s.other (subst (λ (x : List ℕ). IsUtf8 x) s.a_is u) s.within s.agree))
]

-- where a table is broken is left of the text
pub step_to : (text : List ℕ) (f : Front) → IsUtf8 text → front_of text ≡ f → GoesTo text f
step_to text f u e = subst (λ (x : Front). GoesTo text x) e (front_left text u)

pub broken_left : (at_front : Bool) (text rest : List ℕ) → IsUtf8 text → IsBroken at_front text rest → Left text rest
broken_left _ _ _ u (broken_here at_front text e) = record { utf8 = u; front = []; whole = refl }
broken_left _ _ _ u (broken_end text e) = record { utf8 = u; front = []; whole = refl }
broken_left _ _ _ u (broken_feed at_front text next rest e b) =
    let s : StepLeft text next = step_to text (feed next) u e in
    left_step text next rest s (broken_left true next rest s.utf8 b)
broken_left _ _ _ u (broken_skip at_front text next rest e b) =
    let s : StepLeft text next = step_to text (skip next) u e in
    left_step text next rest s (broken_left at_front next rest s.utf8 b)
broken_left _ _ _ u (broken_entry at_front z text next rest e b) =
    let s : StepLeft text next = step_to text (found_entry z next) u e in
    left_step text next rest s (broken_left false next rest s.utf8 b)

-- no table is read where a step reads none
none_step : (k : ℕ) (at_front : Bool) (text : List ℕ) → ((i : ℕ) → goes_on_after (entries_within i) at_front text (front_of text) ≡ None) → entries_within k at_front text ≡ None
unfolding entries_within
none_step zero at_front text f = refl
none_step (suc k) at_front text f = f k

-- fewer lines are left behind a step
fewer_left : (n : ℕ) (text next rest : List ℕ) → StepLeft text next → Left next rest → lines_before text rest < n → lines_before next rest < n - lines_before text next
fewer_left n text next rest s l lt =
    let one : feeds text ≡ feeds s.front + feeds next = ap feeds s.whole ∙ feeds-append s.front next in
    let two : feeds next ≡ feeds l.front + feeds rest = ap feeds l.whole ∙ feeds-append l.front rest in
    omega (arith, one, two, lt)

-- what is in front of the other text
wrong_alike : (n : ℕ) (a : List ℕ) (g : Front) → Alike n a wrong g → g ≡ wrong
wrong_alike n a (feed r) h = absurd h
wrong_alike n a (skip r) h = absurd h
wrong_alike n a ends h = absurd h
wrong_alike n a (found_entry z r) h = absurd h
wrong_alike n a wrong h = refl

ends_alike : (n : ℕ) (a : List ℕ) (g : Front) → Alike n a ends g → g ≡ ends
ends_alike n a (feed r) h = absurd h
ends_alike n a (skip r) h = absurd h
ends_alike n a ends h = refl
ends_alike n a (found_entry z r) h = absurd h
ends_alike n a wrong h = absurd h

feed_none : (n : ℕ) (a b next : List ℕ) (at_front : Bool) (g : Front) → front_of b ≡ g → Alike n a (feed next) g →
    ((q : List ℕ) → Agree (n - lines_before a next) next q → (i : ℕ) → entries_within i true q ≡ None) → (k : ℕ) → entries_within k at_front b ≡ None
feed_none n a b next at_front (feed q) e h later k = none_step k at_front b (λ i. ap (goes_on_after (entries_within i) at_front b) e ∙ later q h.1 i)
feed_none n a b next at_front (skip q) e h later k = absurd h
feed_none n a b next at_front ends e h later k = absurd h
feed_none n a b next at_front (found_entry z q) e h later k = absurd h
feed_none n a b next at_front wrong e h later k = absurd h

skip_none : (n : ℕ) (a b next : List ℕ) (at_front : Bool) (g : Front) → front_of b ≡ g → Alike n a (skip next) g →
    ((q : List ℕ) → Agree (n - lines_before a next) next q → (i : ℕ) → entries_within i at_front q ≡ None) → (k : ℕ) → entries_within k at_front b ≡ None
skip_none n a b next at_front (feed q) e h later k = absurd h
skip_none n a b next at_front (skip q) e h later k = none_step k at_front b (λ i. ap (goes_on_after (entries_within i) at_front b) e ∙ later q h.1 i)
skip_none n a b next at_front ends e h later k = absurd h
skip_none n a b next at_front (found_entry z q) e h later k = absurd h
skip_none n a b next at_front wrong e h later k = absurd h

entry_none : (n : ℕ) (a b next : List ℕ) (at_front : Bool) (z : ℤ) (g : Front) → front_of b ≡ g → Alike n a (found_entry z next) g →
    ((q : List ℕ) → Agree (n - lines_before a next) next q → (i : ℕ) → entries_within i false q ≡ None) → (k : ℕ) → entries_within k at_front b ≡ None
entry_none n a b next at_front z (feed q) e h later k = absurd h
entry_none n a b next at_front z (skip q) e h later k = absurd h
entry_none n a b next at_front z ends e h later k = absurd h
entry_none n a b next at_front z (found_entry y q) e h later k =
    none_step k at_front b (λ i. ap (goes_on_after (entries_within i) at_front b) e ∙ ap (λ (o : Option Table). o >>= λ table. Some (with_number y table)) (later q h.2 i))
entry_none n a b next at_front z wrong e h later k = absurd h

fronts_some : (n : ℕ) (a b : List ℕ) (f : Front) → 0 < n → IsUtf8 a → Agree n a b → front_of a ≡ f → Alike n a f (front_of b)
fronts_some zero a b f lt u h e = absurd (omega arith)
fronts_some (suc n) a b f lt u h e = subst (λ (x : Front). Alike (suc n) a x (front_of b)) e (fronts_alike n a b u h)

broken_within : (at_front : Bool) (a rest : List ℕ) → IsBroken at_front a rest → (n : ℕ) (b : List ℕ) → IsUtf8 a → lines_before a rest < n → Agree n a b → (k : ℕ) → entries_within k at_front b ≡ None
broken_within _ _ _ (broken_here at_front a e) n b u lt h k =
    let g : front_of b ≡ wrong = wrong_alike n a (front_of b) (fronts_some n a b wrong (omega (arith, lt)) u h e) in
    none_step k at_front b (λ i. ap (goes_on_after (entries_within i) at_front b) g)
broken_within _ _ _ (broken_end a e) n b u lt h k =
    let g : front_of b ≡ ends = ends_alike n a (front_of b) (fronts_some n a b ends (omega (arith, lt)) u h e) in
    none_step k false b (λ i. ap (goes_on_after (entries_within i) false b) g)
broken_within _ _ _ (broken_feed at_front a next rest e x) n b u lt h k =
    let s : StepLeft a next = step_to a (feed next) u e in
    let fewer : lines_before next rest < n - lines_before a next = fewer_left n a next rest s (broken_left true next rest s.utf8 x) lt in
    feed_none n a b next at_front (front_of b) refl (fronts_some n a b (feed next) (omega (arith, lt)) u h e)
    (λ q agree i. broken_within true next rest x (n - lines_before a next) q s.utf8 fewer agree i) k
broken_within _ _ _ (broken_skip at_front a next rest e x) n b u lt h k =
    let s : StepLeft a next = step_to a (skip next) u e in
    let fewer : lines_before next rest < n - lines_before a next = fewer_left n a next rest s (broken_left at_front next rest s.utf8 x) lt in
    skip_none n a b next at_front (front_of b) refl (fronts_some n a b (skip next) (omega (arith, lt)) u h e)
    (λ q agree i. broken_within at_front next rest x (n - lines_before a next) q s.utf8 fewer agree i) k
broken_within _ _ _ (broken_entry at_front z a next rest e x) n b u lt h k =
    let s : StepLeft a next = step_to a (found_entry z next) u e in
    let fewer : lines_before next rest < n - lines_before a next = fewer_left n a next rest s (broken_left false next rest s.utf8 x) lt in
    entry_none n a b next at_front z (front_of b) refl (fronts_some n a b (found_entry z next) (omega (arith, lt)) u h e)
    (λ q agree i. broken_within false next rest x (n - lines_before a next) q s.utf8 fewer agree i) k

-- no entries are read of a text that agrees
pub entries_broken : (n : ℕ) (a b rest : List ℕ) → IsUtf8 a → IsBroken true a rest → lines_before a rest < n → Agree n a b → entries b ≡ None
unfolding entries
entries_broken n a b rest u x lt h = broken_within true a rest x n b u lt h (length b)
