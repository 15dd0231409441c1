-- Lists of parts in preorder that are trees side by side, as steps take them.
use Rattle.std.proofs.Common.{◌≡◌, ℕ, ℤ, ◌==◌, ◌&&◌, Bool, true, false, nat_lt, nat_le, if◌then◌else◌, List, [], ◌∷◌, ◌++◌, length, get_or, map, flat_map, All, refl, sym, ap, ◌∙◌, subst, append_assoc, append-nil, arith, length-append}
use Rattle.std.specs.List.{list_all}
use Rattle.std.proofs.lemmas.Bool.{and_parts, and_from, both_ways, eqb-true, le-leb, lt-ltb}
use Rattle.std.proofs.lemmas.List.Elements.{All-head, All-tail}
use Rattle.std.proofs.lemmas.List.Folds.{list_all-append}
use Rattle.lp_form.specs.Templates.{steps_of, holes_of}
use Rattle.lp_form.specs.Templates as template
use Rattle.lp_form.specs.declared.class.Class.{Class}
use Rattle.lp_form.specs.declared.part.Part.{Part}
use Rattle.lp_form.specs.declared.template.Step.{Step}
use Rattle.lp_form.specs.declared.template.Step.TheVariants as step
use Rattle.lp_tree.specs.ProgramTree.{Item, leaf}
use Rattle.lp_program.specs.Reads.{are_pairs, may_have, hole_count}
use Rattle.lp_program.specs.Printed.{is_member}
use Rattle.lp_reading_laws.specs.Printing.WellFormed.{is_shared}
use Rattle.lp_emitted.proofs.Apart.{templates_apart}
use Rattle.lp_emitted.proofs.Sharing.{class_steps, fit, joined, shared_by}

-- what is asked of the texts of uses, of user code and of the entries of tables
pub record Told : Type 1 where
  pub use_text : List ℕ → Type 0
  pub code : List ℕ → Type 0
  pub table : List ℤ → Type 0

-- what is asked of a step of a part with these texts and entries, and of all its steps
abbrev pub StepTold : Told → Step → List (List ℕ) → List ℤ → Type 0
StepTold T step.Use holes numbers = T.use_text (get_or holes 0 [])
StepTold T step.Code holes numbers = T.code (get_or holes 0 [])
StepTold T step.Entries holes numbers = T.table numbers
StepTold T _ holes numbers = Unit {0}

abbrev pub StepsTold : Told → List template.Line → List (List ℕ) → List ℤ → Type 0
StepsTold T [] holes numbers = Unit {0}
StepsTold T (s ∷ steps) holes numbers = StepTold T s.0 holes numbers × StepsTold T steps holes numbers

-- a step of which nothing is asked
abbrev pub asks_nothing : Step → Bool
asks_nothing step.Use = false
asks_nothing step.Code = false
asks_nothing step.Entries = false
asks_nothing _ = true

abbrev pub ask_nothing : List template.Line → Bool
ask_nothing steps = list_all (λ s. asks_nothing s.0) steps

step_told : (T : Told) (s : Step) (holes : List (List ℕ)) (numbers : List ℤ) → asks_nothing s ≡ true → StepTold T s holes numbers
step_told T step.Use holes numbers h = absurd (both_ways false refl h)
step_told T step.Code holes numbers h = absurd (both_ways false refl h)
step_told T step.Entries holes numbers h = absurd (both_ways false refl h)
step_told T _ holes numbers h = tt

pub steps_told : (T : Told) (steps : List template.Line) (holes : List (List ℕ)) (numbers : List ℤ) → ask_nothing steps ≡ true → StepsTold T steps holes numbers
steps_told T [] holes numbers h = tt
steps_told T (s ∷ steps) holes numbers h =
    let a = and_parts (asks_nothing s.0) (ask_nothing steps) h in
    (step_told T s.0 holes numbers a.0, steps_told T steps holes numbers a.1)

-- parts in preorder are trees side by side with these first parts; each part has as many holes as its template, whose
-- steps take what stands below it
pub data AreTrees (T : Told) : List Item → List Part → Type 0 where
  no_tree : AreTrees T [] []
  one_tree : (part : Part) (holes : List (List ℕ)) (numbers : List ℤ) (below after : List Item) (inner outer : List Part) →
      length holes ≡ hole_count part → StepsTold T (steps_of part) holes numbers → is_shared (steps_of part) inner ≡ true → AreTrees T below inner → AreTrees T after outer →
      AreTrees T ((part, holes, numbers, length below) ∷ (below ++ after)) (part ∷ outer)

pub trees_then : {T : Told} (xs ys : List Item) (ps qs : List Part) → AreTrees T xs ps → AreTrees T ys qs → AreTrees T (xs ++ ys) (ps ++ qs)
trees_then _ ys _ qs no_tree t = t
trees_then {T} _ ys _ qs (one_tree part holes numbers below after inner outer count told shared b a) t =
    subst (λ r. AreTrees T ((part, holes, numbers, length below) ∷ r) (part ∷ (outer ++ qs))) (sym (append_assoc below after ys))
    (one_tree part holes numbers below (after ++ ys) inner (outer ++ qs) count told shared b (trees_then after ys outer qs a t))

-- what these steps take, each a chunk of trees
pub record Takes (T : Told) (steps : List Step) (items : List Item) : Type 0 where
  pub chunks : List (List Part)
  pub trees : AreTrees T items (joined chunks)
  pub fits : fit steps chunks ≡ true

joined_then : (cs ds : List (List Part)) → joined (cs ++ ds) ≡ joined cs ++ joined ds
joined_then [] ds = refl
joined_then (c ∷ cs) ds = ap (λ x. c ++ x) (joined_then cs ds) ∙ sym (append_assoc c (joined cs) (joined ds))

fit_then : (ss ts : List Step) (cs ds : List (List Part)) → fit ss cs ≡ true → fit ts ds ≡ true → fit (ss ++ ts) (cs ++ ds) ≡ true
fit_then [] ts [] ds h k = k
fit_then [] ts (c ∷ cs) ds h k = absurd (both_ways false refl h)
fit_then (s ∷ ss) ts [] ds h k = absurd (both_ways false refl h)
fit_then (s ∷ ss) ts (c ∷ cs) ds h k =
    let a = and_parts (may_have s c) (fit ss cs) h in
    and_from _ _ a.0 (fit_then ss ts cs ds a.1 k)

-- steps behind steps
pub beside : {T : Told} {ss ts : List Step} {xs ys : List Item} → Takes T ss xs → Takes T ts ys → Takes T (ss ++ ts) (xs ++ ys)
beside {T} {ss} {ts} {xs} {ys} a b = record {
  chunks = a.chunks ++ b.chunks;
  trees = subst (AreTrees T (xs ++ ys)) (sym (joined_then a.chunks b.chunks)) (trees_then xs ys (joined a.chunks) (joined b.chunks) a.trees b.trees);
  fits = fit_then ss ts a.chunks b.chunks a.fits b.fits;
}

-- a part whose steps take what stands below it
pub over_trees : {T : Told} (part : Part) (holes : List (List ℕ)) (numbers : List ℤ) (below : List Item) → length holes ≡ hole_count part → StepsTold T (steps_of part) holes numbers → Takes T (class_steps (steps_of part)) below →
    AreTrees T ((part, holes, numbers, length below) ∷ below) (part ∷ [])
over_trees {T} part holes numbers below count told t =
    subst (λ b. AreTrees T ((part, holes, numbers, length below) ∷ b) (part ∷ [])) (append-nil below)
    (one_tree part holes numbers below [] (joined t.chunks) [] count told (shared_by (steps_of part) t.chunks (templates_apart part) t.fits) t.trees no_tree)

-- what one step takes
pub record Chunk (T : Told) (s : Step) (items : List Item) : Type 0 where
  pub parts : List Part
  pub trees : AreTrees T items parts
  pub fits : may_have s parts ≡ true

pub chunk_of : {T : Told} {s : Step} {xs : List Item} → Takes T (s ∷ []) xs → Chunk T s xs
chunk_of {T} {s} {xs} t = go t.chunks t.trees t.fits
  where
    go : (cs : List (List Part)) → AreTrees T xs (joined cs) → fit (s ∷ []) cs ≡ true → Chunk T s xs
    go [] trees fits = absurd (both_ways false refl fits)
    go (c ∷ []) trees fits = record { parts = c; trees = subst (AreTrees T xs) (append-nil c) trees; fits = (and_parts (may_have s c) true fits).0 }
    go (c ∷ d ∷ cs) trees fits = absurd (both_ways false refl (and_parts (may_have s c) false fits).1)

pub of_chunk : {T : Told} {s : Step} {xs : List Item} → Chunk T s xs → Takes T (s ∷ []) xs
of_chunk {T} {s} {xs} c = record { chunks = c.parts ∷ []; trees = subst (AreTrees T xs) (sym (append-nil c.parts)) c.trees; fits = and_from (may_have s c.parts) true c.fits refl }

-- a step that may have what another may have
weaken : {T : Told} {s t : Step} {xs : List Item} → ((c : List Part) → may_have s c ≡ true → may_have t c ≡ true) → Takes T (s ∷ []) xs → Takes T (t ∷ []) xs
weaken h t = let c = chunk_of t in of_chunk (record { parts = c.parts; trees = c.trees; fits = h c.parts c.fits })

-- a part of a class of which nothing is asked
abbrev pub may_stand : Class → Part → Bool
may_stand class part = is_member class part && ask_nothing (steps_of part)

-- one part of a class, over what its steps take
pub one_over : {T : Told} (class : Class) (part : Part) (holes : List (List ℕ)) (numbers : List ℤ) (below : List Item) → may_stand class part ≡ true → length holes ≡ hole_count part →
    Takes T (class_steps (steps_of part)) below → Takes T (step.One class ∷ []) ((part, holes, numbers, length below) ∷ below)
one_over {T} class part holes numbers below stands count t =
    let a = and_parts (is_member class part) (ask_nothing (steps_of part)) stands in
    of_chunk (record { parts = part ∷ []; trees = over_trees part holes numbers below count (steps_told T (steps_of part) holes numbers a.1) t; fits = and_from (is_member class part) true a.0 refl })

-- one with nothing below it, of which something is asked, or nothing
abbrev pub is_told : Class → Part → ℕ → Bool
is_told class part n = is_member class part && ((n == hole_count part) && is_shared (steps_of part) [])

pub told_leaf : {T : Told} (class : Class) (part : Part) (holes : List (List ℕ)) (numbers : List ℤ) → is_told class part (length holes) ≡ true → StepsTold T (steps_of part) holes numbers →
    Takes T (step.One class ∷ []) ((part, holes, numbers, 0) ∷ [])
told_leaf class part holes numbers h told =
    let a = and_parts (is_member class part) _ h in
    let b = and_parts (length holes == hole_count part) _ a.1 in
    of_chunk (record {
      parts = part ∷ [];
      trees = one_tree part holes numbers [] [] [] [] (eqb-true (length holes) (hole_count part) b.0) told b.1 no_tree no_tree;
      fits = and_from (is_member class part) true a.0 refl;
    })

abbrev pub is_leaf : Class → Part → ℕ → Bool
is_leaf class part n = is_told class part n && ask_nothing (steps_of part)

pub one_leaf : {T : Told} (class : Class) (part : Part) (holes : List (List ℕ)) (numbers : List ℤ) → is_leaf class part (length holes) ≡ true →
    Takes T (step.One class ∷ []) ((part, holes, numbers, 0) ∷ [])
one_leaf {T} class part holes numbers h =
    let a = and_parts (is_told class part (length holes)) (ask_nothing (steps_of part)) h in
    told_leaf class part holes numbers a.0 (steps_told T (steps_of part) holes numbers a.1)

-- any number
pub many_none : {T : Told} (class : Class) → Takes T (step.Many class ∷ []) []
many_none class = of_chunk (record { parts = []; trees = no_tree; fits = refl })

pub many_one : {T : Told} {class : Class} {xs : List Item} → Takes T (step.One class ∷ []) xs → Takes T (step.Many class ∷ []) xs
many_one {T} {class} t = weaken (λ c h. (and_parts (length c == 1) (list_all (is_member class) c) h).1) t

pub many_more : {T : Told} {class : Class} {xs ys : List Item} → Takes T (step.Many class ∷ []) xs → Takes T (step.Many class ∷ []) ys → Takes T (step.Many class ∷ []) (xs ++ ys)
many_more {T} {class} {xs} {ys} a b =
    let c = chunk_of a in
    let d = chunk_of b in
    of_chunk (record {
      parts = c.parts ++ d.parts;
      trees = trees_then xs ys c.parts d.parts c.trees d.trees;
      fits = list_all-append (is_member class) c.parts d.parts ∙ and_from _ _ c.fits d.fits;
    })

pub many_flat : {T : Told} {A : Type 0} (class : Class) (f : A → List Item) → ((a : A) → Takes T (step.Many class ∷ []) (f a)) → (xs : List A) → Takes T (step.Many class ∷ []) (flat_map f xs)
many_flat class f h [] = many_none class
many_flat class f h (a ∷ xs) = many_more (h a) (many_flat class f h xs)

pub many_map : {T : Told} {A : Type 0} (class : Class) (f : A → Item) → ((a : A) → Takes T (step.One class ∷ []) (f a ∷ [])) → (xs : List A) → Takes T (step.Many class ∷ []) (map f xs)
many_map class f h [] = many_none class
many_map class f h (a ∷ xs) = many_more {xs = f a ∷ []} (many_one (h a)) (many_map class f h xs)

-- where something is known of each
pub many_all : {T : Told} {A : Type 0} (class : Class) (P : A → Type 0) (f : A → List Item) → ((a : A) → P a → Takes T (step.Many class ∷ []) (f a)) → (xs : List A) → All P xs → Takes T (step.Many class ∷ []) (flat_map f xs)
many_all class P f h [] all = many_none class
many_all class P f h (a ∷ xs) all = many_more (h a (All-head P a xs all)) (many_all class P f h xs (All-tail P a xs all))

-- at most one
pub optional_none : {T : Told} (class : Class) → Takes T (step.Optional class ∷ []) []
optional_none class = of_chunk (record { parts = []; trees = no_tree; fits = refl })

pub optional_one : {T : Told} {class : Class} {xs : List Item} → Takes T (step.One class ∷ []) xs → Takes T (step.Optional class ∷ []) xs
optional_one {T} {class} t = weaken
    (λ c h.
    let a = and_parts (length c == 1) (list_all (is_member class) c) h in
    let e = eqb-true (length c) 1 a.0 in
    and_from (nat_le (length c) 1) (list_all (is_member class) c) (le-leb (length c) 1 (omega (arith, e))) a.1)
    t

-- one at least
pub some_more : {T : Told} {class : Class} {xs ys : List Item} → Takes T (step.One class ∷ []) xs → Takes T (step.Many class ∷ []) ys → Takes T (step.Some class ∷ []) (xs ++ ys)
some_more {T} {class} {xs} {ys} a b =
    let c = chunk_of a in
    let d = chunk_of b in
    let h = and_parts (length c.parts == 1) (list_all (is_member class) c.parts) c.fits in
    let e = eqb-true (length c.parts) 1 h.0 in
    let n = length-append c.parts d.parts in
    of_chunk (record {
      parts = c.parts ++ d.parts;
      trees = trees_then xs ys c.parts d.parts c.trees d.trees;
      fits = and_from (nat_lt 0 (length (c.parts ++ d.parts))) (list_all (is_member class) (c.parts ++ d.parts))
          (lt-ltb 0 (length (c.parts ++ d.parts)) (omega (arith, e, n)))
          (list_all-append (is_member class) c.parts d.parts ∙ and_from _ _ h.1 d.fits);
    })

-- pairs, one after another
pub pairs_none : {T : Told} (first second : Class) → Takes T (step.Pairs first second ∷ []) []
pairs_none first second = of_chunk (record { parts = []; trees = no_tree; fits = refl })

the_one : (class : Class) (c : List Part) → may_have (step.One class) c ≡ true → (p : Part) × (c ≡ p ∷ []) × (is_member class p ≡ true)
the_one class [] h = absurd (both_ways false refl h)
the_one class (p ∷ []) h = (p, refl, (and_parts (is_member class p) true (and_parts (length (p ∷ []) == 1) _ h).1).0)
the_one class (p ∷ q ∷ c) h = absurd (let e = eqb-true (length (p ∷ q ∷ c)) 1 (and_parts (length (p ∷ q ∷ c) == 1) _ h).0 in omega (arith, e))

pairs_end : (first second : Class) (c : List Part) (p q : Part) → are_pairs first second c ≡ true → is_member first p ≡ true → is_member second q ≡ true → are_pairs first second ((c ++ p ∷ []) ++ q ∷ []) ≡ true
pairs_end first second [] p q h a b = and_from _ _ a (and_from (is_member second q) true b refl)
pairs_end first second (x ∷ []) p q h a b = absurd (both_ways false refl h)
pairs_end first second (x ∷ y ∷ c) p q h a b =
    let u = and_parts (is_member first x) (is_member second y && are_pairs first second c) h in
    let v = and_parts (is_member second y) (are_pairs first second c) u.1 in
    and_from _ _ u.0 (and_from _ _ v.0 (pairs_end first second c p q v.1 a b))

pub pairs_more : {T : Told} {first second : Class} {xs ys zs : List Item} → Takes T (step.Pairs first second ∷ []) xs → Takes T (step.One first ∷ []) ys → Takes T (step.One second ∷ []) zs →
    Takes T (step.Pairs first second ∷ []) ((xs ++ ys) ++ zs)
pairs_more {T} {first} {second} {xs} {ys} {zs} a b c =
    let k = chunk_of a in
    let l = chunk_of b in
    let m = chunk_of c in
    let p = the_one first l.parts l.fits in
    let q = the_one second m.parts m.fits in
    of_chunk (record {
      parts = (k.parts ++ l.parts) ++ m.parts;
      trees = trees_then (xs ++ ys) zs (k.parts ++ l.parts) m.parts (trees_then xs ys k.parts l.parts k.trees l.trees) m.trees;
      fits = ap (λ u. are_pairs first second ((k.parts ++ u) ++ m.parts)) p.1 ∙ ap (λ u. are_pairs first second ((k.parts ++ p.0 ∷ []) ++ u)) q.1
          ∙ pairs_end first second k.parts p.0 q.0 k.fits p.2 q.2;
    })

-- what is over or beside nothing else, as the built lists say it
pub over_one : {T : Told} (class : Class) (part : Part) {holes : List (List ℕ)} {below : List Item} → may_stand class part ≡ true → length holes ≡ hole_count part →
    Takes T (class_steps (steps_of part)) below → Takes T (step.One class ∷ []) ((part, holes, [], length below) ∷ below)
over_one class part {holes} {below} stands count t = one_over class part holes [] below stands count t

pub leaf_one : {T : Told} (class : Class) (part : Part) {holes : List (List ℕ)} → is_leaf class part (length holes) ≡ true → Takes T (step.One class ∷ []) (leaf part holes)
leaf_one class part {holes} h = one_leaf class part holes [] h

-- rows of one text
pub text_many : {T : Told} (class : Class) (part : Part) → is_leaf class part 1 ≡ true → (texts : List (List ℕ)) → Takes T (step.Many class ∷ []) (map (λ text. (part, text ∷ [], [], 0)) texts)
text_many class part h texts = many_map class (λ text. (part, text ∷ [], [], 0)) (λ text. one_leaf class part (text ∷ []) [] h) texts

-- one of two
pub either : {T : Told} {steps : List Step} {xs ys : List Item} (b : Bool) → Takes T steps xs → Takes T steps ys → Takes T steps (if b then xs else ys)
either true t e = t
either false t e = e

pub either_when : {T : Told} {steps : List Step} {xs ys : List Item} (b : Bool) → (b ≡ true → Takes T steps xs) → (b ≡ false → Takes T steps ys) → Takes T steps (if b then xs else ys)
either_when true t e = t refl
either_when false t e = e refl

-- a part that is asked for
pub optional_if : {T : Told} (class : Class) (part : Part) (b : Bool) → is_leaf class part 0 ≡ true → Takes T (step.Optional class ∷ []) (if b then leaf part [] else [])
optional_if class part b h = either b (optional_one (leaf_one class part {holes = []} h)) (optional_none class)
