-- Things that are counted through, list after list.
use Rattle.std.proofs.Common.{◌≡◌, ℕ, ◌+◌, ◌<◌, ◌≤◌, List, [], ◌∷◌, ◌++◌, length, map, take, drop, get_or, All, Option, Some, None, Result, Ok, Err, refl, sym, ap, ◌∙◌, subst, append_assoc, append-nil, arith, length-append}
use Rattle.std.proofs.lemmas.List.{take_more, take_all, take-append-drop, map-append, length-map}
use Rattle.std.proofs.lemmas.List.Elements.{All-nil, All-cons, All-append, All-map}
use Rattle.std.specs.List.{flat_map}
use Rattle.lp_texts.specs.declared.faults.TextKind.{TextKind}
use Rattle.lp_texts.specs.declared.faults.TextFault.{TextFault}
use Rattle.lp_texts.specs.declared.faults.TextFault.TheVariants.{Bad, Memory}
use Rattle.lp_texts.specs.Counted.{Meets, FailsFirst, Counts, IsNext}

-- nothing is counted
pub counts_none : {X : Type 0} (kind : TextKind) (rule : X → Option ℕ → Type 0) (from : ℕ) → Counts kind rule [] from (Ok from)
counts_none kind rule from = (All-nil (Meets rule), omega arith)

-- one thing is counted
pub counts_one : {X : Type 0} (kind : TextKind) (rule : X → Option ℕ → Type 0) (x : X) (from : ℕ) (fault : Option ℕ) (result : Result ℕ TextFault) → rule x fault → IsNext kind from fault result → Counts kind rule (x ∷ []) from result
counts_one kind rule x from None (Ok next) says is = (All-cons (Meets rule) x [] says (All-nil (Meets rule)), is)
counts_one kind rule x from None (Err (Bad place byte)) says is = absurd cc
counts_one kind rule x from None (Err Memory) says is = tt
counts_one kind rule x from (Some byte) (Ok next) says is = absurd cc
counts_one kind rule x from (Some byte) (Err Memory) says is = tt
counts_one kind rule x from (Some byte) (Err (Bad place byte')) says is =
    let at : place ≡ record { kind = kind; number = from } = cc in
    let same : byte ≡ byte' = cc in (
      ap (λ p. p.kind) at,
      0,
      ap (λ p. p.number) at ∙ omega arith,
      record { before = []; thing = x; behind = []; split = refl; place = refl; meet = All-nil (Meets rule); wrong = subst (λ b. rule x (Some b)) same says },
    )

fails_behind : {X : Type 0} (rule : X → Option ℕ → Type 0) (xs ys : List X) (number byte : ℕ) → All (Meets rule) xs → FailsFirst rule ys number byte → FailsFirst rule (xs ++ ys) (length xs + number) byte
fails_behind rule xs ys number byte meet fails = record {
  before = xs ++ fails.before;
  thing = fails.thing;
  behind = fails.behind;
  split = ap (λ l. xs ++ l) fails.split ∙ sym (append_assoc xs fails.before (fails.thing ∷ fails.behind));
  place = ap (λ n. length xs + n) fails.place ∙ sym (length-append xs fails.before);
  meet = All-append (Meets rule) xs fails.before meet fails.meet;
  wrong = fails.wrong;
}

fails_before : {X : Type 0} (rule : X → Option ℕ → Type 0) (xs ys : List X) (number byte : ℕ) → FailsFirst rule xs number byte → FailsFirst rule (xs ++ ys) number byte
fails_before rule xs ys number byte fails = record {
  before = fails.before;
  thing = fails.thing;
  behind = fails.behind ++ ys;
  split = ap (λ l. l ++ ys) fails.split ∙ append_assoc fails.before (fails.thing ∷ fails.behind) ys;
  place = fails.place;
  meet = fails.meet;
  wrong = fails.wrong;
}

-- the things of one list and then those of another
pub counts_then : {X : Type 0} (kind : TextKind) (rule : X → Option ℕ → Type 0) (xs ys : List X) (from next : ℕ) (result : Result ℕ TextFault) → Counts kind rule xs from (Ok next) → Counts kind rule ys next result → Counts kind rule (xs ++ ys) from result
counts_then kind rule xs ys from next (Ok number) a b = (All-append (Meets rule) xs ys a.0 b.0, omega (arith, a.1, b.1, length-append xs ys))
counts_then kind rule xs ys from next (Err (Bad place byte)) a b = (b.0, length xs + b.1, omega (arith, a.1, b.2), fails_behind rule xs ys b.1 byte a.0 b.3)
counts_then kind rule xs ys from next (Err Memory) a b = tt

-- the first list fails already
pub counts_stop : {X : Type 0} (kind : TextKind) (rule : X → Option ℕ → Type 0) (xs ys : List X) (from : ℕ) (fault : TextFault) → Counts kind rule xs from (Err fault) → Counts kind rule (xs ++ ys) from (Err fault)
counts_stop kind rule xs ys from (Bad place byte) a = (a.0, a.1, a.2, fails_before rule xs ys a.1 byte a.3)
counts_stop kind rule xs ys from Memory a = tt

fails_map : {X Y : Type 0} (f : X → Y) (rule : Y → Option ℕ → Type 0) (xs : List X) (number byte : ℕ) → FailsFirst (λ x. rule (f x)) xs number byte → FailsFirst rule (map f xs) number byte
fails_map f rule xs number byte fails = record {
  before = map f fails.before;
  thing = f fails.thing;
  behind = map f fails.behind;
  split = ap (map f) fails.split ∙ map-append f fails.before (fails.thing ∷ fails.behind);
  place = fails.place ∙ sym (length-map fails.before f);
  meet = All-map (Meets rule) f fails.before fails.meet;
  wrong = fails.wrong;
}

-- things that are counted by what they are shown as
pub counts_map : {X Y : Type 0} (kind : TextKind) (f : X → Y) (rule : Y → Option ℕ → Type 0) (xs : List X) (from : ℕ) (result : Result ℕ TextFault) → Counts kind (λ x. rule (f x)) xs from result → Counts kind rule (map f xs) from result
counts_map kind f rule xs from (Ok number) a = (All-map (Meets rule) f xs a.0, a.1 ∙ ap (λ n. from + n) (sym (length-map xs f)))
counts_map kind f rule xs from (Err (Bad place byte)) a = (a.0, a.1, a.2, fails_map f rule xs a.1 byte a.3)
counts_map kind f rule xs from (Err Memory) a = tt

-- one element more of a list
pub counts_more : {X : Type 0} (kind : TextKind) (rule : X → Option ℕ → Type 0) (xs : List X) (i : ℕ) (x : X) (from next : ℕ) (result : Result ℕ TextFault) → i < length xs → x ≡ get_or xs i x → Counts kind rule (take i xs) from (Ok next) → Counts kind rule (x ∷ []) next result → Counts kind rule (take (i + 1) xs) from result
counts_more kind rule xs i x from next result lt at a b =
    let split : take i xs ++ x ∷ [] ≡ take (i + 1) xs = ap (λ y. take i xs ++ y ∷ []) at ∙ sym (take_more xs i x lt) in
    subst (λ l. Counts kind rule l from result) split (counts_then kind rule (take i xs) (x ∷ []) from next result a b)

-- a part of a list in front fails
pub counts_front : {X : Type 0} (kind : TextKind) (rule : X → Option ℕ → Type 0) (xs : List X) (i from : ℕ) (fault : TextFault) → Counts kind rule (take i xs) from (Err fault) → Counts kind rule xs from (Err fault)
counts_front kind rule xs i from fault a = subst (λ l. Counts kind rule l from (Err fault)) (take-append-drop i xs) (counts_stop kind rule (take i xs) (drop i xs) from fault a)

-- so far things were counted, each of which meets the rule; the rest is left
abbrev pub CountedUpTo : {X : Type 0} → TextKind → (X → Option ℕ → Type 0) → List X → List X → ℕ → ℕ → Type 0
CountedUpTo {X} kind rule all rest from number = (done : List X) × (all ≡ done ++ rest) × Counts kind rule done from (Ok number)

pub counted_more : {X : Type 0} (kind : TextKind) (rule : X → Option ℕ → Type 0) (all rest after : List X) (x : X) (from number next : ℕ) → CountedUpTo kind rule all rest from number → rest ≡ x ∷ after → Counts kind rule (x ∷ []) number (Ok next) → CountedUpTo kind rule all after from next
counted_more kind rule all rest after x from number next so_far split one = (
  so_far.0 ++ x ∷ [],
  so_far.1 ∙ ap (λ l. so_far.0 ++ l) split ∙ sym (append_assoc so_far.0 (x ∷ []) after),
  counts_then kind rule so_far.0 (x ∷ []) from number (Ok next) so_far.2 one,
)

pub counted_fails : {X : Type 0} (kind : TextKind) (rule : X → Option ℕ → Type 0) (all rest after : List X) (x : X) (from number : ℕ) (fault : TextFault) → CountedUpTo kind rule all rest from number → rest ≡ x ∷ after → Counts kind rule (x ∷ []) number (Err fault) → Counts kind rule all from (Err fault)
counted_fails kind rule all rest after x from number fault so_far split one =
    let whole : (so_far.0 ++ x ∷ []) ++ after ≡ all = append_assoc so_far.0 (x ∷ []) after ∙ ap (λ l. so_far.0 ++ l) (sym split) ∙ sym so_far.1 in
    subst (λ l. Counts kind rule l from (Err fault)) whole
    (counts_stop kind rule (so_far.0 ++ x ∷ []) after from fault (counts_then kind rule so_far.0 (x ∷ []) from number (Err fault) so_far.2 one))

pub counted_all : {X : Type 0} (kind : TextKind) (rule : X → Option ℕ → Type 0) (all rest : List X) (from number : ℕ) → CountedUpTo kind rule all rest from number → rest ≡ [] → Counts kind rule all from (Ok number)
counted_all kind rule all rest from number so_far none =
    let whole : so_far.0 ≡ all = sym (so_far.1 ∙ ap (λ l. so_far.0 ++ l) none ∙ append-nil so_far.0) in
    subst (λ l. Counts kind rule l from (Ok number)) whole so_far.2

-- all elements of a list were counted
pub counts_taken : {X : Type 0} (kind : TextKind) (rule : X → Option ℕ → Type 0) (xs : List X) (i from number : ℕ) → length xs ≤ i → Counts kind rule (take i xs) from (Ok number) → Counts kind rule xs from (Ok number)
counts_taken kind rule xs i from number done a = subst (λ l. Counts kind rule l from (Ok number)) (take_all i xs done) a

flat_map_push : {X Y : Type 0} (f : X → List Y) (xs : List X) (x : X) → flat_map f (xs ++ x ∷ []) ≡ flat_map f xs ++ f x
flat_map_push f [] x = append-nil (f x)
flat_map_push f (y ∷ xs) x = ap (λ l. f y ++ l) (flat_map_push f xs x) ∙ sym (append_assoc (f y) (flat_map f xs) (f x))

flat_map_split : {X Y : Type 0} (f : X → List Y) (xs ys : List X) → flat_map f (xs ++ ys) ≡ flat_map f xs ++ flat_map f ys
flat_map_split f [] ys = refl
flat_map_split f (x ∷ xs) ys = ap (λ l. f x ++ l) (flat_map_split f xs ys) ∙ sym (append_assoc (f x) (flat_map f xs) (flat_map f ys))

-- the things of one element more
pub counts_flat_more : {X Y : Type 0} (kind : TextKind) (rule : Y → Option ℕ → Type 0) (f : X → List Y) (xs : List X) (i : ℕ) (x : X) (from next : ℕ) (result : Result ℕ TextFault) → i < length xs → x ≡ get_or xs i x → Counts kind rule (flat_map f (take i xs)) from (Ok next) → Counts kind rule (f x) next result → Counts kind rule (flat_map f (take (i + 1) xs)) from result
counts_flat_more kind rule f xs i x from next result lt at a b =
    let split : flat_map f (take i xs) ++ f x ≡ flat_map f (take (i + 1) xs) = sym (flat_map_push f (take i xs) x) ∙ ap (λ y. flat_map f (take i xs ++ y ∷ [])) at ∙ ap (flat_map f) (sym (take_more xs i x lt)) in
    subst (λ l. Counts kind rule l from result) split (counts_then kind rule (flat_map f (take i xs)) (f x) from next result a b)

pub counts_flat_front : {X Y : Type 0} (kind : TextKind) (rule : Y → Option ℕ → Type 0) (f : X → List Y) (xs : List X) (i from : ℕ) (fault : TextFault) → Counts kind rule (flat_map f (take i xs)) from (Err fault) → Counts kind rule (flat_map f xs) from (Err fault)
counts_flat_front kind rule f xs i from fault a =
    let split : flat_map f (take i xs) ++ flat_map f (drop i xs) ≡ flat_map f xs = sym (flat_map_split f (take i xs) (drop i xs)) ∙ ap (flat_map f) (take-append-drop i xs) in
    subst (λ l. Counts kind rule l from (Err fault)) split (counts_stop kind rule (flat_map f (take i xs)) (flat_map f (drop i xs)) from fault a)

pub counts_flat_taken : {X Y : Type 0} (kind : TextKind) (rule : Y → Option ℕ → Type 0) (f : X → List Y) (xs : List X) (i from number : ℕ) → length xs ≤ i → Counts kind rule (flat_map f (take i xs)) from (Ok number) → Counts kind rule (flat_map f xs) from (Ok number)
counts_flat_taken kind rule f xs i from number done a = subst (λ l. Counts kind rule (flat_map f l) from (Ok number)) (take_all i xs done) a
