-- The items that are chosen by their dots have the parts that the definitions name.
use Rattle.std.proofs.Common.{◌≡◌, ◌≢◌, ℕ, ◌+◌, ◌<◌, ◌≤◌, zero, suc, Bool, true, false, cond, List, [], ◌∷◌, map, length, take, refl, arith, rules, sym, ap, ◌∙◌, subst, Option, Some, None, nat_lt, ◌==◌, ltb, eqb, ◌&&◌, ◌||◌}
use Rattle.std.proofs.lemmas.Bool.Decides.{nat_tests}
use Rattle.std.proofs.lemmas.List.{length-take-le}
use Rattle.std.specs.List.{slice_get}
use Rattle.std.specs.Option.{MatchOption}
use Rattle.lp_repr.specs.StateParts.{symbols_of, before_dot, after_dot, nonterminal_of, IsPushed, IsProduced, IsInRange, AreInRange, longest, shorter, shortest, max_prefix_of, will_pop_of, IsFirstWith}
use Rattle.lp_repr.specs.ItemChoice.{longer_item, longest_item, shorter_item, popped_item}
use Rattle.lp_repr.specs.declared.repr.Grammar.{Grammar}
use Rattle.lp_repr.specs.declared.repr.Symbol.{Symbol}
use Rattle.lp_repr.specs.declared.repr.NonterminalString.{NonterminalString}
use Rattle.lp_repr.specs.declared.lr1.Item.{Item}

-- a dot within its production has as many symbols before it as it says
pub length_before : (g : Grammar) (x : Item) → IsInRange g x → length (before_dot g x) ≡ x.index
length_before g x h = length-take-le x.index (symbols_of g x) h.1

-- the part of a chosen item, and the empty one where there is none
abbrev pub part_of : Grammar → Option Item → List Symbol
part_of g None = []
part_of g (Some x) = before_dot g x

-- a chosen item is in range
abbrev pub ChosenInRange : Grammar → Option Item → Type 0
ChosenInRange g None = Unit {0}
ChosenInRange g (Some x) = IsInRange g x

longer_in_range : (g : Grammar) (x : Item) (o : Option Item) → IsInRange g x → ChosenInRange g o → IsInRange g (longer_item x o)
longer_in_range g x None h k = h
longer_in_range g x (Some y) h k = elim (nat_lt x.index y.index) as (λ b. IsInRange g (cond b y x)) [ true ↦ k | false ↦ h ]

longest_in_range : (g : Grammar) (xs : List Item) → AreInRange g xs → ChosenInRange g (longest_item xs)
longest_in_range g [] h = tt
longest_in_range g (x ∷ xs) h = longer_in_range g x (longest_item xs) h.0 (longest_in_range g xs h.1)

none_below : (n : ℕ) → nat_lt n 0 ≡ false
none_below n = grind (arith, nat_tests)

longer_part : (g : Grammar) (x : Item) (o : Option Item) → IsInRange g x → ChosenInRange g o → cond (nat_lt (length (before_dot g x)) (length (part_of g o))) (part_of g o) (before_dot g x) ≡ before_dot g (longer_item x o)
longer_part g x None h k = ap (λ b. cond b [] (before_dot g x)) (none_below (length (before_dot g x)))
longer_part g x (Some y) h k =
    rw (length_before g x h, length_before g y k) (elim (nat_lt x.index y.index) as (λ b. cond b (before_dot g y) (before_dot g x) ≡ before_dot g (cond b y x)) [ true ↦ refl | false ↦ refl ])

pub longest_part : (g : Grammar) (xs : List Item) → AreInRange g xs → max_prefix_of g xs ≡ part_of g (longest_item xs)
longest_part g [] h = refl
longest_part g (x ∷ xs) h =
    let e = longest_part g xs h.1 in
    ap (λ l. cond (nat_lt (length (before_dot g x)) (length l)) l (before_dot g x)) e ∙ longer_part g x (longest_item xs) h.0 (longest_in_range g xs h.1)

positive : (n : ℕ) → nat_lt 0 (suc n) ≡ true
positive n = grind (arith, nat_tests)

nonzero : (n : ℕ) → (suc n == 0) ≡ false
nonzero n = grind (arith, nat_tests)

shorter_is : (xs ys : List Symbol) → shorter xs ys ≡ cond (nat_lt 0 (length ys) && ((length xs == 0) || nat_lt (length ys) (length xs))) ys xs
shorter_is [] [] = refl
shorter_is [] (y ∷ ys) = rw (positive (length ys)) refl
shorter_is (x ∷ xs) [] = refl
shorter_is (x ∷ xs) (y ∷ ys) = rw (positive (length ys), nonzero (length xs)) refl

shorter_nil : (xs : List Symbol) → shorter xs [] ≡ xs
shorter_nil [] = refl
shorter_nil (x ∷ xs) = refl

shorter_part : (g : Grammar) (x : Item) (o : Option Item) → IsInRange g x → ChosenInRange g o → shorter (before_dot g x) (part_of g o) ≡ before_dot g (shorter_item x o)
shorter_part g x None h k = shorter_nil (before_dot g x)
shorter_part g x (Some y) h k =
    rw (shorter_is (before_dot g x) (before_dot g y), length_before g x h, length_before g y k) (elim (nat_lt 0 y.index && ((x.index == 0) || nat_lt y.index x.index)) as (λ b. cond b (before_dot g y) (before_dot g x) ≡ before_dot g (cond b y x)) [ true ↦ refl | false ↦ refl ])

shorter_in_range : (g : Grammar) (x : Item) (o : Option Item) → IsInRange g x → ChosenInRange g o → IsInRange g (shorter_item x o)
shorter_in_range g x None h k = h
shorter_in_range g x (Some y) h k = elim (nat_lt 0 y.index && ((x.index == 0) || nat_lt y.index x.index)) as (λ b. IsInRange g (cond b y x)) [ true ↦ k | false ↦ h ]

popped_in_range : (g : Grammar) (xs : List Item) → AreInRange g xs → ChosenInRange g (popped_item xs)
popped_in_range g [] h = tt
popped_in_range g (x ∷ xs) h = shorter_in_range g x (popped_item xs) h.0 (popped_in_range g xs h.1)

pub popped_part : (g : Grammar) (xs : List Item) → AreInRange g xs → will_pop_of g xs ≡ part_of g (popped_item xs)
popped_part g [] h = refl
popped_part g (x ∷ xs) h = ap (shorter (before_dot g x)) (popped_part g xs h.1) ∙ shorter_part g x (popped_item xs) h.0 (popped_in_range g xs h.1)

-- a lesser dot above 0 is another dot
other_dot : (m n : ℕ) → (nat_lt 0 n && ((m == 0) || nat_lt n m)) ≡ true → m ≢ n
other_dot m n e f = grind (arith, nat_tests)

first_later : (g : Grammar) (x : Item) (xs : List Item) (y : Item) → IsInRange g x → IsInRange g y → x.index ≢ y.index → (f : IsFirstWith g xs (before_dot g y) y) → (k : ℕ) (other : Item) → k < suc f.place → slice_get (x ∷ xs) k ≡ Some other → before_dot g other ≢ before_dot g y
first_later g x xs y hx hy ne f zero other lt at e =
    let same : x ≡ other = cc in
    let lx = length_before g x hx in
    let ly = length_before g y hy in
    let ex : before_dot g x ≡ before_dot g y = ap (before_dot g) same ∙ e in
    ne (sym lx ∙ ap length ex ∙ ly)
first_later g x xs y hx hy ne f (suc k) other lt at e = f.first k other (omega arith) at e

chosen_first : (g : Grammar) (x : Item) (xs : List Item) (y : Item) → IsInRange g x → IsInRange g y → IsFirstWith g xs (before_dot g y) y → (b : Bool) → (nat_lt 0 y.index && ((x.index == 0) || nat_lt y.index x.index)) ≡ b → IsFirstWith g (x ∷ xs) (before_dot g (cond b y x)) (cond b y x)
chosen_first g x xs y hx hy f true e =
    record { place = suc f.place; at = f.at; has = refl; first = first_later g x xs y hx hy (other_dot x.index y.index e) f }
chosen_first g x xs y hx hy f false e =
    record { place = 0; at = refl; has = refl; first = λ k other lt at same. absurd (omega arith) }

shorter_first : (g : Grammar) (x : Item) (xs : List Item) (o : Option Item) → IsInRange g x → ChosenInRange g o → MatchOption o (xs ≡ []) (λ y. IsFirstWith g xs (before_dot g y) y) → IsFirstWith g (x ∷ xs) (before_dot g (shorter_item x o)) (shorter_item x o)
shorter_first g x xs None hx hy f =
    record { place = 0; at = refl; has = refl; first = λ k other lt at same. absurd (omega arith) }
shorter_first g x xs (Some y) hx hy f = chosen_first g x xs y hx hy f _ refl

popped_is_first : (g : Grammar) (xs : List Item) → AreInRange g xs → MatchOption (popped_item xs) (xs ≡ []) (λ y. IsFirstWith g xs (before_dot g y) y)
popped_is_first g [] h = refl
popped_is_first g (x ∷ xs) h = shorter_first g x xs (popped_item xs) h.0 (popped_in_range g xs h.1) (popped_is_first g xs h.1)

-- the chosen item is the first with the part that is popped
pub popped_first : (g : Grammar) (xs : List Item) (o : Option Item) → o ≡ popped_item xs → AreInRange g xs → MatchOption o (xs ≡ []) (λ y. IsFirstWith g xs (will_pop_of g xs) y)
popped_first g xs o e h = subst (λ p. MatchOption p (xs ≡ []) (λ y. IsFirstWith g xs (will_pop_of g xs) y)) (sym e) (with_part g xs (popped_item xs) (popped_part g xs h) (popped_is_first g xs h))
  where
    with_part : (g : Grammar) (xs : List Item) (o : Option Item) → will_pop_of g xs ≡ part_of g o → MatchOption o (xs ≡ []) (λ y. IsFirstWith g xs (before_dot g y) y) → MatchOption o (xs ≡ []) (λ y. IsFirstWith g xs (will_pop_of g xs) y)
    with_part g xs None e f = f
    with_part g xs (Some y) e f = subst (λ p. IsFirstWith g xs p y) (sym e) f

pub pushed_from : (g : Grammar) (xs : List Item) (o : Option Item) (rest : List Symbol) → o ≡ popped_item xs → AreInRange g xs → MatchOption o (rest ≡ []) (λ y. rest ≡ after_dot g y) → IsPushed g xs rest
pushed_from g [] None rest e h k = k
pushed_from g [] (Some y) rest e h k = absurd (let f : Some y ≡ None = e in cc)
pushed_from g (x ∷ xs) None rest e h k = absurd (let f : None ≡ Some (shorter_item x (popped_item xs)) = e in cc)
pushed_from g (x ∷ xs) (Some y) rest e h k = (y, popped_first g (x ∷ xs) (Some y) e h, k)

pub produced_from : (g : Grammar) (xs : List Item) (o : Option Item) (name : Option NonterminalString) → o ≡ popped_item xs → AreInRange g xs → MatchOption o (name ≡ None) (λ y. name ≡ nonterminal_of g y) → IsProduced g xs name
produced_from g [] None name e h k = k
produced_from g [] (Some y) name e h k = absurd (let f : Some y ≡ None = e in cc)
produced_from g (x ∷ xs) None name e h k = absurd (let f : None ≡ Some (shorter_item x (popped_item xs)) = e in cc)
produced_from g (x ∷ xs) (Some y) name e h k = (y, popped_first g (x ∷ xs) (Some y) e h, k)
