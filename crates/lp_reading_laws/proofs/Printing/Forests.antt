-- The first of some trees, and those behind them.
use Rattle.std.proofs.Common.{◌≡◌, ℕ, ◌+◌, ◌==◌, ◌≤◌, zero, suc, Bool, true, false, cond, if◌then◌else◌, min, List, [], ◌∷◌, length, take, drop, refl, ap, arith, inl, inr}
use Rattle.std.specs.List.{prefix_len, list_all}
use Rattle.std.proofs.lemmas.Bool.{cases_Bool, cond-true, cond-false, eqb-true}
use Rattle.lp_form.specs.Templates.{steps_of}
use Rattle.lp_form.specs.declared.part.Part.{Part}
use Rattle.lp_form.specs.declared.template.Step.{Step}
use Rattle.lp_write.specs.declared.rust.Options.{Options}
use Rattle.lp_program.specs.Trees.{Content, Forest, tree_count}
use Rattle.lp_program.specs.Trees.Forest.{bare, tree}
use Rattle.lp_program.specs.Printed.{takes, takes_one, Printed, taken, step_lines, printed}
use Rattle.lp_program.specs.Reads.{graft, parts_in}
use Rattle.lp_reading_laws.specs.Printing.WellFormed.{taken_in}

abbrev pub front : ℕ → Forest → Forest
front zero f = bare
front (suc n) bare = bare
front (suc n) (tree c below after) = tree c below (front n after)

abbrev pub behind : ℕ → Forest → Forest
behind zero f = f
behind (suc n) bare = bare
behind (suc n) (tree c below after) = behind n after

pub graft_split : (n : ℕ) (f : Forest) → graft (front n f) (behind n f) ≡ f
graft_split zero f = refl
graft_split (suc n) bare = refl
graft_split (suc n) (tree c below after) = ap (λ x. tree c below x) (graft_split n after)

pub count_split : (n : ℕ) (f : Forest) → tree_count f ≡ tree_count (front n f) + tree_count (behind n f)
count_split zero f = omega arith
count_split (suc n) bare = omega arith
count_split (suc n) (tree c below after) = let h = count_split n after in omega (arith, h)

pub parts_front : (n : ℕ) (f : Forest) → parts_in (front n f) ≡ take n (parts_in f)
parts_front zero f = refl
parts_front (suc n) bare = refl
parts_front (suc n) (tree c below after) = ap (λ (x : List Part). c.part ∷ x) (parts_front n after)

pub parts_behind : (n : ℕ) (f : Forest) → parts_in (behind n f) ≡ drop n (parts_in f)
parts_behind zero f = refl
parts_behind (suc n) bare = refl
parts_behind (suc n) (tree c below after) = parts_behind n after

pub printed_front : (options : Options) (prefix : List ℕ) (n : ℕ) (f : Forest) → take n (printed options prefix f) ≡ printed options prefix (front n f)
unfolding printed
printed_front options prefix zero f = refl
printed_front options prefix (suc n) bare = refl
printed_front options prefix (suc n) (tree c below after) =
    ap (λ (x : List Printed). (c.part, step_lines options prefix c (tree_count below) (steps_of c.part) (printed options prefix below)) ∷ x) (printed_front options prefix n after)

pub printed_behind : (options : Options) (prefix : List ℕ) (n : ℕ) (f : Forest) → drop n (printed options prefix f) ≡ printed options prefix (behind n f)
unfolding printed
printed_behind options prefix zero f = refl
printed_behind options prefix (suc n) bare = refl
printed_behind options prefix (suc n) (tree c below after) = printed_behind options prefix n after

prefix_parts : (options : Options) (prefix : List ℕ) (s : Step) (f : Forest) → prefix_len (λ (p : Printed). takes s p.0) (printed options prefix f) ≡ prefix_len (takes s) (parts_in f)
unfolding printed
prefix_parts options prefix s bare = refl
prefix_parts options prefix s (tree c below after) = ap (λ n. cond (takes s c.part) (1 + n) 0) (prefix_parts options prefix s after)

-- a step takes as many of the printed parts as of the parts
pub taken_parts : (options : Options) (prefix : List ℕ) (s : Step) (f : Forest) → taken s (printed options prefix f) ≡ taken_in s (parts_in f)
taken_parts options prefix s f = ap (λ n. if takes_one s then min 1 n else n) (prefix_parts options prefix s f)

-- those that it takes belong to it
prefix_passes : (q : Part → Bool) (n : ℕ) (xs : List Part) → n ≤ prefix_len q xs → list_all q (take n xs) ≡ true
prefix_passes q zero xs h = refl
prefix_passes q (suc n) [] h = refl
prefix_passes q (suc n) (x ∷ xs) h = elim (cases_Bool (q x)) [
  | inl y ↦
      let e : prefix_len q (x ∷ xs) ≡ 1 + prefix_len q xs = cond-true (q x) _ _ y in
      Rattle.std.proofs.lemmas.Bool.and_from (q x) _ y (prefix_passes q n xs (omega (arith, e, h)))
  | inr z ↦ let e : prefix_len q (x ∷ xs) ≡ 0 = cond-false (q x) _ _ z in absurd (omega (arith, e, h))
]

taken_le : (s : Step) (parts : List Part) → taken_in s parts ≤ prefix_len (takes s) parts
taken_le s parts = elim (cases_Bool (takes_one s)) [
  | inl y ↦ let e : taken_in s parts ≡ min 1 (prefix_len (takes s) parts) = cond-true (takes_one s) _ _ y in omega (arith, e)
  | inr n ↦ let e : taken_in s parts ≡ prefix_len (takes s) parts = cond-false (takes_one s) _ _ n in omega (arith, e)
]

pub taken_belong : (s : Step) (parts : List Part) → list_all (takes s) (take (taken_in s parts) parts) ≡ true
taken_belong s parts = prefix_passes (takes s) (taken_in s parts) parts (taken_le s parts)

pub none_taken : (s : Step) (parts : List Part) → ((p : Part) → takes s p ≡ false) → taken_in s parts ≡ 0
none_taken s [] h = elim (cases_Bool (takes_one s)) [ inl y ↦ cond-true (takes_one s) _ _ y | inr n ↦ cond-false (takes_one s) _ _ n ]
none_taken s (p ∷ parts) h =
    let none : prefix_len (takes s) (p ∷ parts) ≡ 0 = cond-false (takes s p) _ _ (h p) in
    let le = taken_le s (p ∷ parts) in
    omega (arith, none, le)

pub no_trees : (f : Forest) → (length (parts_in f) == 0) ≡ true → f ≡ bare
no_trees bare h = refl
no_trees (tree c below after) h = absurd (omega (arith, eqb-true (length (parts_in (tree c below after))) 0 h))

pub no_count : (f : Forest) → tree_count f ≡ 0 → f ≡ bare
no_count bare h = refl
no_count (tree c below after) h = absurd (omega (arith, h))

pub length-parts : (f : Forest) → length (parts_in f) ≡ tree_count f
length-parts bare = refl
length-parts (tree c below after) = let h = length-parts after in omega (arith, h)

-- each tree is so, over those below it
abbrev pub Every : (Content → Forest → Type 0) → Forest → Type 0
Every P bare = Unit {0}
Every P (tree c below after) = P c below × Every P after

pub every_front : (P : Content → Forest → Type 0) (n : ℕ) (f : Forest) → Every P f → Every P (front n f)
every_front P zero f e = tt
every_front P (suc n) bare e = tt
every_front P (suc n) (tree c below after) e = (e.0, every_front P n after e.1)

pub every_behind : (P : Content → Forest → Type 0) (n : ℕ) (f : Forest) → Every P f → Every P (behind n f)
every_behind P zero f e = e
every_behind P (suc n) bare e = tt
every_behind P (suc n) (tree c below after) e = every_behind P n after e.1
