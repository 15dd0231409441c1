-- Actions of which none reaches itself nest less deep than there are actions.
use Rattle.std.proofs.Common.{◌≡◌, ℕ, zero, suc, ◌+◌, ◌-◌, ◌<◌, ◌≤◌, ◌==◌, Bool, true, false, List, [], ◌∷◌, length, Some, refl, ap, sym, subst, arith, if◌then◌else◌}
use Rattle.std.specs.Prelude.{slice_get}
use Rattle.std.specs.List.{list_all, flat_map, Contains}
use Rattle.std.proofs.lemmas.Bool.{eqb-true}
use Rattle.std.proofs.lemmas.Bool.Decides.{nat_tests}
use Rattle.std.proofs.lemmas.Option.{slice_get_within}
use Rattle.std.proofs.lemmas.List.Sums.{sum_by-cons}
use Rattle.lp_repr.specs.declared.repr.ActionFnDefn.{ActionFnDefn}
use Rattle.lp_repr.specs.declared.repr.ActionFnDefnKind.{ActionFnDefnKind}
use Rattle.lp_repr.specs.declared.repr.ActionFnDefnKind.TheVariants as kind
use Rattle.lp_repr.specs.declared.repr.Grammar.{Grammar}
use Rattle.lp_repr.specs.declared.repr.InlinedSymbol.{InlinedSymbol}
use Rattle.lp_repr.specs.declared.repr.InlinedSymbol.TheVariants.{Original, Inlined}
use Rattle.lp_valid.specs.ActionRules.{takes, part_takes, kind_has_counts}
use Rattle.lp_valid.specs.InlineRules.{part_runs, kind_runs, Runs, Reaches, runs, onward}
use Rattle.lp_valid.specs.ValidGrammar.{IsValidGrammar, inlines}
use Rattle.lp_question_laws.specs.Actions.Nesting.{NestsWithin, size_of, size_at, actions_size}
use Rattle.lp_question_laws.proofs.Actions.Rules.{and_first, and_second, ruled, taken_by}

-- ---- as many numbers as there are below a bound

abbrev IsNone : ℕ → List ℕ → Type 0
IsNone x [] = Unit {0}
IsNone x (y ∷ ys) = (x ≡ y → ⊥) × IsNone x ys

abbrev AreDistinct : List ℕ → Type 0
AreDistinct [] = Unit {0}
AreDistinct (x ∷ xs) = IsNone x xs × AreDistinct xs

abbrev AreBelow : ℕ → List ℕ → Type 0
AreBelow n [] = Unit {0}
AreBelow n (x ∷ xs) = (x < n) × AreBelow n xs

-- without the first that is equal
abbrev without : ℕ → List ℕ → List ℕ
without n [] = []
without n (x ∷ xs) = if x == n then xs else x ∷ without n xs

without_many : (n : ℕ) (xs : List ℕ) → length xs ≤ suc (length (without n xs))
without_many n [] = omega arith
without_many n (x ∷ xs) = by (x == n) (without_many n xs)
  where
    by : (b : Bool) → length xs ≤ suc (length (without n xs)) → suc (length xs) ≤ suc (length (if b then xs else x ∷ without n xs))
    by true h = omega arith
    by false h = omega arith

none_without : (n y : ℕ) (xs : List ℕ) → IsNone y xs → IsNone y (without n xs)
none_without n y [] h = tt
none_without n y (x ∷ xs) h = by (x == n) (none_without n y xs h.1)
  where
    by : (b : Bool) → IsNone y (without n xs) → IsNone y (if b then xs else x ∷ without n xs)
    by true r = h.1
    by false r = (h.0, r)

distinct_without : (n : ℕ) (xs : List ℕ) → AreDistinct xs → AreDistinct (without n xs)
distinct_without n [] h = tt
distinct_without n (x ∷ xs) h = by (x == n) (distinct_without n xs h.1)
  where
    by : (b : Bool) → AreDistinct (without n xs) → AreDistinct (if b then xs else x ∷ without n xs)
    by true r = h.1
    by false r = (none_without n x xs h.0, r)

below_less : (n : ℕ) (xs : List ℕ) → IsNone n xs → AreBelow (suc n) xs → AreBelow n xs
below_less n [] h b = tt
below_less n (x ∷ xs) h b = (let ne : n ≡ x → ⊥ = h.0 in let l = b.0 in lower n x ne l, below_less n xs h.1 b.1)
  where
    lower : (n x : ℕ) → (n ≡ x → ⊥) → x < suc n → x < n
    lower n x ne l = grind (arith, ne, l)

below_without : (n : ℕ) (xs : List ℕ) → AreDistinct xs → AreBelow (suc n) xs → AreBelow n (without n xs)
below_without n [] h b = tt
below_without n (x ∷ xs) h b = by (x == n) refl (below_without n xs h.1 b.1)
  where
    by : (t : Bool) → (x == n) ≡ t → AreBelow n (without n xs) → AreBelow n (if t then xs else x ∷ without n xs)
    by true e r = below_less n xs (subst (λ k. IsNone k xs) (eqb-true x n e) h.0) b.1
    by false e r = (let l = b.0 in grind (arith, nat_tests), r)

pigeons : (n : ℕ) (xs : List ℕ) → AreDistinct xs → AreBelow n xs → length xs ≤ n
pigeons zero [] h b = omega arith
pigeons zero (x ∷ xs) h b = absurd (let l = b.0 in omega arith)
pigeons (suc n) xs h b = let r = pigeons n (without n xs) (distinct_without n xs h) (below_without n xs h b) in let m = without_many n xs in omega (arith, r, m)

-- ---- sums over numbers

abbrev spent : (ℕ → ℕ) → List ℕ → ℕ
spent f [] = 0
spent f (x ∷ xs) = f x + spent f xs

abbrev total : (ℕ → ℕ) → ℕ → ℕ
total f zero = 0
total f (suc n) = total f n + f n

spent_without : (f : ℕ → ℕ) (n : ℕ) (xs : List ℕ) → spent f xs ≤ f n + spent f (without n xs)
spent_without f n [] = omega arith
spent_without f n (x ∷ xs) = by (x == n) refl (spent_without f n xs)
  where
    by : (b : Bool) → (x == n) ≡ b → spent f xs ≤ f n + spent f (without n xs) → f x + spent f xs ≤ f n + spent f (if b then xs else x ∷ without n xs)
    by true e h = let same : f x ≡ f n = ap f (eqb-true x n e) in omega (arith, same)
    by false e h = omega (arith, h)

spent_within : (f : ℕ → ℕ) (n : ℕ) (xs : List ℕ) → AreDistinct xs → AreBelow n xs → spent f xs ≤ total f n
spent_within f zero [] h b = omega arith
spent_within f zero (x ∷ xs) h b = absurd (let l = b.0 in omega arith)
spent_within f (suc n) xs h b =
    let r = spent_within f n (without n xs) (distinct_without n xs h) (below_without n xs h b) in
    let m = spent_without f n xs in
    omega (arith, r, m)

total_first : (f : ℕ → ℕ) (n : ℕ) → total f (suc n) ≡ f 0 + total (λ k. f (suc k)) n
total_first f zero = omega arith
total_first f (suc n) = let r = total_first f n in omega (arith, r)

-- the sizes of all actions by number
sizes_total : (actions : List ActionFnDefn) → total (size_at actions) (length actions) ≡ actions_size actions
sizes_total [] = refl
sizes_total (a ∷ actions) =
    let first = total_first (size_at (a ∷ actions)) (length actions) in
    let rest = sizes_total actions in
    let sum = sum_by-cons (λ (x : ActionFnDefn). size_of x.kind) a actions in
    omega (arith, first, rest, sum)

-- ---- what is run

module _ (actions : List ActionFnDefn) (acyclic : (place : ℕ) → Reaches actions place place → ⊥) (known : (a b : ℕ) → Runs actions a b → b < length actions) where
  abbrev AllReach : ℕ → List ℕ → Type 0
  AllReach a [] = Unit {0}
  AllReach a (s ∷ seen) = Reaches actions s a × AllReach a seen

  none_reached : (a : ℕ) (seen : List ℕ) → AllReach a seen → IsNone a seen
  none_reached a [] h = tt
  none_reached a (s ∷ seen) h = (λ e. acyclic a (subst (λ k. Reaches actions k a) (sym e) h.0), none_reached a seen h.1)

  reach_on : (a b : ℕ) (seen : List ℕ) → Runs actions a b → AllReach a seen → AllReach b seen
  reach_on a b [] r h = tt
  reach_on a b (s ∷ seen) r h = (onward a b h.0 r, reach_on a b seen r h.1)

  abbrev sizes : ℕ → ℕ
  sizes = size_at actions

  abbrev all : ℕ
  all = total sizes (length actions)

  nests : (d a : ℕ) (seen : List ℕ) (most : ℕ) → spent sizes seen + most ≡ all → length seen + d ≡ length actions → a < length actions → AreDistinct seen → AreBelow (length actions) seen → AllReach a seen → NestsWithin actions d most a
  nests zero a seen most sum many less distinct below reach =
      absurd (let few : suc (length seen) ≤ length actions = pigeons (length actions) (a ∷ seen) (none_reached a seen reach, distinct) (less, below) in omega (arith, few, many))
  nests (suc d) a seen most sum many less distinct below reach =
      let apart : AreDistinct (a ∷ seen) = (none_reached a seen reach, distinct) in
      let under : AreBelow (length actions) (a ∷ seen) = (less, below) in
      let few : sizes a + spent sizes seen ≤ all = spent_within sizes (length actions) (a ∷ seen) apart under in
      let rest : ℕ = most - sizes a in (
        rest,
        omega (arith, few, sum),
        λ b r. nests d b (a ∷ seen) rest (omega (arith, few, sum)) (omega (arith, many)) (known a b r) apart under (runs b r, reach_on a b seen r reach),
      )

-- ---- over a valid grammar

taken_within : (actions : List ActionFnDefn) (b count : ℕ) → takes actions b count ≡ true → b < length actions
taken_within actions b count h = let t = taken_by actions b count h in slice_get_within actions b t.0 t.1

parts_within : (actions : List ActionFnDefn) (ss : List InlinedSymbol) (b : ℕ) → list_all (part_takes actions) ss ≡ true → Contains (flat_map part_runs ss) b → b < length actions
parts_within actions [] b h c = absurd (let l = c.1 in omega arith)
parts_within actions (Original s ∷ ss) b h c = parts_within actions ss b h c
parts_within actions (Inlined action inner ∷ ss) b h (zero, l, e) =
    let first = and_first (takes actions action (length inner)) (list_all (part_takes actions) ss) h in
    subst (λ k. k < length actions) e (taken_within actions action (length inner) first)
parts_within actions (Inlined action inner ∷ ss) b h (suc k, l, e) =
    parts_within actions ss b (and_second (takes actions action (length inner)) (list_all (part_takes actions) ss) h) (k, omega (arith, l), e)

kind_within : (actions : List ActionFnDefn) (k : ActionFnDefnKind) (b : ℕ) → kind_has_counts actions k ≡ true → Contains (kind_runs k) b → b < length actions
kind_within actions (kind.User patterns types code) b h c = absurd (let l = c.1 in omega arith)
kind_within actions (kind.Lookaround place) b h c = absurd (let l = c.1 in omega arith)
kind_within actions (kind.Inline outer symbols) b h (zero, l, e) =
    subst (λ k. k < length actions) e (taken_within actions outer (length symbols) (and_first (takes actions outer (length symbols)) (list_all (part_takes actions) symbols) h))
kind_within actions (kind.Inline outer symbols) b h (suc k, l, e) =
    parts_within actions symbols b (and_second (takes actions outer (length symbols)) (list_all (part_takes actions) symbols) h) (k, omega (arith, l), e)

-- each action nests less deep than there are actions, and what it runs is no greater than all of them
pub all_nest : (g : Grammar) → IsValidGrammar g → (n : ℕ) (a : ActionFnDefn) → slice_get g.action_fn_defns n ≡ Some a → NestsWithin g.action_fn_defns (length g.action_fn_defns) (actions_size g.action_fn_defns) n
all_nest g valid n a there =
    nests g.action_fn_defns (λ place. (valid inlines place).1) (λ m b r. kind_within g.action_fn_defns r.0.kind b (ruled g valid m r.0 r.1).counted r.2)
    (length g.action_fn_defns) n [] (actions_size g.action_fn_defns) (let t = sizes_total g.action_fn_defns in omega (arith, t)) (omega arith) (slice_get_within g.action_fn_defns n a there) tt tt tt
