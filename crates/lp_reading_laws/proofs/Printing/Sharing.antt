-- Parts that steps share: each step takes one chunk of them, where no class takes what belongs to a later one.
use Rattle.std.proofs.Common.{◌≡◌, ◌≤◌, ◌==◌, Bool, true, false, not, ◌&&◌, ◌||◌, leb, ltb, min, if◌then◌else◌, List, [], ◌∷◌, ◌++◌, length, refl, sym, ap, ◌∙◌, arith, take_at, drop_at, ⊎_elim}
use Rattle.std.specs.List.{list_all, list_any, prefix_len}
use Rattle.std.proofs.lemmas.Bool.{and_parts, and_from, or_cases, or_left, or_right, not-true, cases_Bool, cond-true, cond-false, both_ways, eqb-true, leb-true}
use Rattle.std.proofs.lemmas.List.Folds.{list_all-append, list_any-append}
use Rattle.lp_form.specs.Classes.{members_of}
use Rattle.lp_form.specs.Templates.{steps_of, holes_of}
use Rattle.lp_form.specs.Templates as template
use Rattle.lp_form.specs.contracts.part.PartPartialEq.TheImpl as equality
use Rattle.lp_form.specs.contracts.part.PartEq.TheImpl.Laws.{laws-law}
use Rattle.lp_form.specs.declared.class.Class.{Class}
use Rattle.lp_form.specs.declared.part.Part.{Part}
use Rattle.lp_form.specs.declared.template.Step.{Step}
use Rattle.lp_form.specs.declared.template.Step.TheVariants as step
use Rattle.lp_program.specs.Reads.{are_pairs, may_have}
use Rattle.lp_program.specs.Printed.{is_member, takes, takes_one}
use Rattle.lp_reading_laws.specs.Printing.WellFormed.{taken_in, is_shared}
use Rattle.lp_reading_laws.specs.Printing.TemplateTests.{is_class}

-- equal parts are members of the same classes
member_congr : (class : Class) (p q : Part) → (equality.ghosts).eq p q ≡ true → is_member class p ≡ is_member class q
member_congr class p q e = go (members_of class)
  where
    go : (ms : List Part) → list_any (λ m. (equality.ghosts).eq m p) ms ≡ list_any (λ m. (equality.ghosts).eq m q) ms
    go [] = refl
    go (m ∷ ms) =
        ap (λ b. b || list_any (λ n. (equality.ghosts).eq n p) ms) (laws-law.symm m p ∙ laws-law.congr p q m e ∙ laws-law.symm q m)
        ∙ ap (λ b. (equality.ghosts).eq m q || b) (go ms)

takes_congr : (s : Step) (p q : Part) → (equality.ghosts).eq p q ≡ true → takes s p ≡ takes s q
takes_congr (step.One class) p q e = member_congr class p q e
takes_congr (step.Optional class) p q e = member_congr class p q e
takes_congr (step.Many class) p q e = member_congr class p q e
takes_congr (step.Some class) p q e = member_congr class p q e
takes_congr (step.Pairs first second) p q e = ap (λ b. b || is_member second p) (member_congr first p q e) ∙ ap (λ b. is_member first q || b) (member_congr second p q e)
takes_congr _ p q e = refl

-- the parts that a step may take
abbrev pub belonging : Step → List Part
belonging (step.One class) = members_of class
belonging (step.Optional class) = members_of class
belonging (step.Many class) = members_of class
belonging (step.Some class) = members_of class
belonging (step.Pairs first second) = members_of first ++ members_of second
belonging _ = []

abbrev pub takes_none : Step → List Part → Bool
takes_none s parts = list_all (λ p. not (takes s p)) parts

-- no class takes what belongs to a later one
abbrev pub are_apart : List Step → Bool
are_apart [] = true
are_apart (s ∷ ss) = list_all (λ t. takes_none s (belonging t)) ss && are_apart ss

belongs : (t : Step) (q : Part) → takes t q ≡ true → list_any (λ n. (equality.ghosts).eq n q) (belonging t) ≡ true
belongs (step.One class) q h = h
belongs (step.Optional class) q h = h
belongs (step.Many class) q h = h
belongs (step.Some class) q h = h
belongs (step.Pairs first second) q h = list_any-append (λ n. (equality.ghosts).eq n q) (members_of first) (members_of second) ∙ h
belongs _ q h = absurd (both_ways false refl h)

not_taken : (s : Step) (q : Part) (ps : List Part) → list_any (λ n. (equality.ghosts).eq n q) ps ≡ true → takes_none s ps ≡ true → takes s q ≡ false
not_taken s q [] h k = absurd (both_ways false refl h)
not_taken s q (n ∷ ps) h k =
    let parts = and_parts (not (takes s n)) (takes_none s ps) k in
    ⊎_elim
    (λ e. sym (takes_congr s n q e) ∙ not-true (takes s n) parts.0)
    (λ e. not_taken s q ps e parts.1)
    (or_cases ((equality.ghosts).eq n q) (list_any (λ m. (equality.ghosts).eq m q) ps) h)

-- a chunk that a step may have is its own
all_taken : (t : Step) (c : List Part) → may_have t c ≡ true → list_all (takes t) c ≡ true
all_taken (step.One class) c h = (and_parts (length c == 1) _ h).1
all_taken (step.Optional class) c h = (and_parts (leb (length c) 1) _ h).1
all_taken (step.Many class) c h = h
all_taken (step.Some class) c h = (and_parts (ltb 0 (length c)) _ h).1
all_taken (step.Pairs first second) c h = pairs c h
  where
    pairs : (ps : List Part) → are_pairs first second ps ≡ true → list_all (takes (step.Pairs first second)) ps ≡ true
    pairs [] k = refl
    pairs (p ∷ []) k = absurd (both_ways false refl k)
    pairs (p ∷ q ∷ ps) k =
        let a = and_parts (is_member first p) (is_member second q && are_pairs first second ps) k in
        let b = and_parts (is_member second q) (are_pairs first second ps) a.1 in
        and_from _ _ (or_left (is_member first p) (is_member second p) a.0)
        (and_from _ _ (or_right (is_member first q) (is_member second q) b.0) (pairs ps b.1))
all_taken _ [] h = refl
all_taken _ (p ∷ ps) h = absurd (let e = eqb-true (length (p ∷ ps)) 0 h in omega (arith, e))

few_taken : (t : Step) (c : List Part) → may_have t c ≡ true → takes_one t ≡ true → length c ≤ 1
few_taken (step.One class) c h o = let e = eqb-true (length c) 1 (and_parts (length c == 1) _ h).0 in omega (arith, e)
few_taken (step.Optional class) c h o = leb-true (length c) 1 (and_parts (leb (length c) 1) _ h).0
few_taken _ c h o = absurd (both_ways false refl o)

apart_chunk : (s t : Step) (c : List Part) → takes_none s (belonging t) ≡ true → list_all (takes t) c ≡ true → takes_none s c ≡ true
apart_chunk s t [] d h = refl
apart_chunk s t (q ∷ c) d h =
    let parts = and_parts (takes t q) (list_all (takes t) c) h in
    and_from _ _ (ap not (not_taken s q (belonging t) (belongs t q parts.0) d)) (apart_chunk s t c d parts.1)

-- each step may have its chunk
abbrev pub fit : List Step → List (List Part) → Bool
fit [] [] = true
fit [] (c ∷ cs) = false
fit (s ∷ ss) [] = false
fit (s ∷ ss) (c ∷ cs) = may_have s c && fit ss cs

abbrev pub joined : List (List Part) → List Part
joined [] = []
joined (c ∷ cs) = c ++ joined cs

pub later_apart : (s : Step) (ss : List Step) (cs : List (List Part)) → list_all (λ t. takes_none s (belonging t)) ss ≡ true → fit ss cs ≡ true → takes_none s (joined cs) ≡ true
later_apart s [] [] d h = refl
later_apart s [] (c ∷ cs) d h = absurd (both_ways false refl h)
later_apart s (t ∷ ss) [] d h = absurd (both_ways false refl h)
later_apart s (t ∷ ss) (c ∷ cs) d h =
    let a = and_parts (takes_none s (belonging t)) _ d in
    let b = and_parts (may_have t c) (fit ss cs) h in
    list_all-append (λ p. not (takes s p)) c (joined cs)
    ∙ and_from _ _ (apart_chunk s t c a.0 (all_taken t c b.0)) (later_apart s ss cs a.1 b.1)

run_length : (test : Part → Bool) (c rest : List Part) → list_all test c ≡ true → list_all (λ p. not (test p)) rest ≡ true → prefix_len test (c ++ rest) ≡ length c
run_length test [] [] h k = refl
run_length test [] (p ∷ rest) h k = cond-false (test p) _ _ (not-true (test p) (and_parts (not (test p)) _ k).0)
run_length test (p ∷ c) rest h k =
    let parts = and_parts (test p) (list_all test c) h in
    let e = run_length test c rest parts.1 k in
    cond-true (test p) _ _ parts.0 ∙ omega (arith, e)

pub takes_chunk : (s : Step) (c rest : List Part) → may_have s c ≡ true → takes_none s rest ≡ true → length c ≡ taken_in s (c ++ rest)
takes_chunk s c rest h k =
    let e = run_length (takes s) c rest (all_taken s c h) k in
    ⊎_elim
    (λ one. let f = few_taken s c h one in omega (arith, e, f) ∙ sym (cond-true (takes_one s) (min 1 (prefix_len (takes s) (c ++ rest))) (prefix_len (takes s) (c ++ rest)) one))
    (λ many. sym e ∙ sym (cond-false (takes_one s) (min 1 (prefix_len (takes s) (c ++ rest))) (prefix_len (takes s) (c ++ rest)) many))
    (cases_Bool (takes_one s))

-- the steps that may have parts
abbrev pub class_steps : List template.Line → List Step
class_steps [] = []
class_steps (s ∷ steps) = if is_class s.0 then s.0 ∷ class_steps steps else class_steps steps

-- a step that has none
pub takes_nothing : (s : Step) (p : Part) → is_class s ≡ false → takes s p ≡ false
takes_nothing (step.One class) p h = absurd (both_ways true h refl)
takes_nothing (step.Optional class) p h = absurd (both_ways true h refl)
takes_nothing (step.Many class) p h = absurd (both_ways true h refl)
takes_nothing (step.Some class) p h = absurd (both_ways true h refl)
takes_nothing (step.Pairs first second) p h = absurd (both_ways true h refl)
takes_nothing _ p h = refl

pub has_nothing : (s : Step) → is_class s ≡ false → may_have s [] ≡ true
has_nothing (step.One class) h = absurd (both_ways true h refl)
has_nothing (step.Optional class) h = absurd (both_ways true h refl)
has_nothing (step.Many class) h = absurd (both_ways true h refl)
has_nothing (step.Some class) h = absurd (both_ways true h refl)
has_nothing (step.Pairs first second) h = absurd (both_ways true h refl)
has_nothing _ h = refl

pub none_of : (s : Step) (parts : List Part) → is_class s ≡ false → takes_none s parts ≡ true
none_of s [] h = refl
none_of s (p ∷ parts) h = and_from _ _ (ap not (takes_nothing s p h)) (none_of s parts h)

-- a step that takes its chunk in front
shared_step : (s : template.Line) (steps : List template.Line) (c rest : List Part) → may_have s.0 c ≡ true → takes_none s.0 rest ≡ true → is_shared steps rest ≡ true → is_shared (s ∷ steps) (c ++ rest) ≡ true
shared_step s steps c rest h k t =
    let e = takes_chunk s.0 c rest h k in
    and_from _ _
    (ap (may_have s.0) (take_at c rest (taken_in s.0 (c ++ rest)) e) ∙ h)
    (ap (is_shared steps) (drop_at c rest (taken_in s.0 (c ++ rest)) e) ∙ t)

-- the same for a step of a class, and for one that has none
pub class_first : (s : template.Line) (steps : List template.Line) → is_class s.0 ≡ true → class_steps (s ∷ steps) ≡ s.0 ∷ class_steps steps
class_first s steps y = cond-true (is_class s.0) _ _ y

pub no_class_first : (s : template.Line) (steps : List template.Line) → is_class s.0 ≡ false → class_steps (s ∷ steps) ≡ class_steps steps
no_class_first s steps n = cond-false (is_class s.0) _ _ n

unfit : (s : Step) (ss : List Step) → fit (s ∷ ss) [] ≡ true → ⊥
unfit s ss h = both_ways false refl h

-- chunks that fit the steps of a template are shared out by them
pub shared_by : (steps : List template.Line) (cs : List (List Part)) → are_apart (class_steps steps) ≡ true → fit (class_steps steps) cs ≡ true → is_shared steps (joined cs) ≡ true
shared_by [] [] a h = refl
shared_by [] (c ∷ cs) a h = absurd (both_ways false refl h)
shared_by (s ∷ steps) [] a h = ⊎_elim
    (λ y. absurd (unfit s.0 (class_steps steps) (ap (λ ss. fit ss []) (sym (class_first s steps y)) ∙ h)))
    (λ n. shared_step s steps [] [] (has_nothing s.0 n) refl
    (shared_by steps [] (ap are_apart (sym (no_class_first s steps n)) ∙ a) (ap (λ ss. fit ss []) (sym (no_class_first s steps n)) ∙ h)))
    (cases_Bool (is_class s.0))
shared_by (s ∷ steps) (c ∷ cs) a h = ⊎_elim
    (λ y.
    let b = and_parts (list_all (λ t. takes_none s.0 (belonging t)) (class_steps steps)) (are_apart (class_steps steps)) (ap are_apart (sym (class_first s steps y)) ∙ a) in
    let f = and_parts (may_have s.0 c) (fit (class_steps steps) cs) (ap (λ ss. fit ss (c ∷ cs)) (sym (class_first s steps y)) ∙ h) in
    shared_step s steps c (joined cs) f.0 (later_apart s.0 (class_steps steps) cs b.0 f.1) (shared_by steps cs b.1 f.1))
    (λ n. shared_step s steps [] (joined (c ∷ cs)) (has_nothing s.0 n) (none_of s.0 (joined (c ∷ cs)) n)
    (shared_by steps (c ∷ cs) (ap are_apart (sym (no_class_first s steps n)) ∙ a) (ap (λ ss. fit ss (c ∷ cs)) (sym (no_class_first s steps n)) ∙ h)))
    (cases_Bool (is_class s.0))
