-- Paths by name.
use Rattle.std.proofs.Common.{◌≡◌, ℕ, zero, suc, ◌+◌, ◌-◌, ◌<◌, ◌≤◌, ◌⊎◌, List, [], ◌∷◌, ◌++◌, map, reverse, length, get_or, take, Option, Some, None, IsSome, slice_get, slice_index_or, refl, sym, ap, ◌∙◌, ⊎_elim, inl, inr, subst, arith, append_assoc, append-nil, length-append, Contains}
use Rattle.std.proofs.lemmas.List.{length-reverse, get_or-reverse, get_or_past, length-take, get_or-take}
use Rattle.std.proofs.lemmas.List.Elements.{Contains-append_left, Contains-append_right}
use Rattle.std.specs.Option.{option_and_then}
use Rattle.std.specs.List.{filter_map, flat_map, AllZip}
use Rattle.std.specs.BTreeMap.{values}
use Rattle.std.proofs.lemmas.Option.{same_Some, get_or_from_slice_get, slice_get-get_or}
use Rattle.lp_repr.specs.Closure.{next_symbol}
use Rattle.lp_repr.specs.Numbering.{number_or_count, rule_of, rules_from, rules_of, productions_of}
use Rattle.lp_repr.specs.declared.repr.Grammar.{Grammar}
use Rattle.lp_repr.specs.declared.repr.NonterminalData.{NonterminalData}
use Rattle.lp_repr.specs.declared.repr.Symbol.{Symbol}
use Rattle.lp_repr.specs.declared.repr.Production.{Production}
use Rattle.lp_repr.specs.declared.numbering.SymbolNumber.{SymbolNumber}
use Rattle.lp_repr.specs.declared.numbering.Rule.{Rule}
use Rattle.lp_states.specs.declared.names.Names.{Names}
use Rattle.lp_states.specs.declared.builder.Origin.{Origin}
use Rattle.lp_states.specs.declared.builder.Origin.TheVariants.{Start, After}
use Rattle.lp_states.specs.Naming.{name_at, NamesRightly, NamesAll, IsSpelled, AreSpelled}
use Rattle.lp_states.specs.States.{Spells}
use Rattle.lp_states.specs.Paths.{IsViable}
use Rattle.lp_states.specs.Building.{path_after, paths_from, paths_of}
use Rattle.lp_states.proofs.Closures.{some_of}
use Rattle.lp_states.proofs.LeadingAlike.{moved_item, viable_before}
use Rattle.lp_states.proofs.WalkSteps.{head_in, tail_in, in_cases}

-- ---- spelled numbers
named_first : (g : Grammar) (names : Names) (x : SymbolNumber) (xs : List SymbolNumber) (o : Option Symbol) (s : Symbol) → name_at names x ≡ o → name_at names x ≡ Some s → number_or_count g s ≡ x → map (number_or_count g) (filter_map (name_at names) xs) ≡ xs → map (number_or_count g) (filter_map (name_at names) (x ∷ xs)) ≡ x ∷ xs
named_first g names x xs o s e f n rest = rw f (ap (λ (y : SymbolNumber). y ∷ map (number_or_count g) (filter_map (name_at names) xs)) n ∙ ap (λ (ys : List SymbolNumber). x ∷ ys) rest)

names_of : (g : Grammar) (names : Names) → NamesRightly g names → (xs : List SymbolNumber) → ((x : SymbolNumber) → Contains xs x → IsSome (name_at names x)) → map (number_or_count g) (filter_map (name_at names) xs) ≡ xs
names_of g names right [] all = refl
names_of g names right (x ∷ xs) all =
    let s = some_of (name_at names x) (all x (head_in x xs)) in
    named_first g names x xs (name_at names x) s.0 refl s.1 (right x s.0 s.1) (names_of g names right xs (λ y c. all y (tail_in x xs y c)))

-- the symbols of a path stand in productions
pub path_named : (rules : List Rule) (start : ℕ) (names : Names) → NamesAll rules names → (u : List SymbolNumber) → IsViable rules start u → (x : SymbolNumber) → Contains u x → IsSome (name_at names x)
path_named rules start names all [] v x c = absurd (omega (arith, c.1))
path_named rules start names all (y ∷ u) v x c =
    ⊎_elim (λ (e : y ≡ x). let m = moved_item rules start y u v in subst (λ z. IsSome (name_at names z)) e (all m.0 m.1 y m.3)) (λ (d : Contains u x). path_named rules start names all u (viable_before rules start y u v) x d) (in_cases y u x c)

reversed_in : {X : Type 0} (xs : List X) (x : X) → Contains (reverse xs) x → Contains xs x
reversed_in xs x c =
    let l : c.0 < length xs = omega (arith, c.1, length-reverse xs) in
    (length xs - 1 - c.0, omega arith, sym (get_or-reverse xs c.0 x l) ∙ c.2)

pub spelled_path : (g : Grammar) (names : Names) (path : List Symbol) (u : List SymbolNumber) → NamesRightly g names → ((x : SymbolNumber) → Contains u x → IsSome (name_at names x)) → IsSpelled names path u → Spells g path u
spelled_path g names path u right all h =
    ap (map (number_or_count g)) h ∙ names_of g names right (reverse u) (λ x c. all x (reversed_in u x c))

pub spelled_paths : (g : Grammar) (names : Names) (paths : List (List Symbol)) (us : List (List SymbolNumber)) → NamesRightly g names → ((u : List SymbolNumber) → Contains us u → (x : SymbolNumber) → Contains u x → IsSome (name_at names x)) → AreSpelled names paths us → AllZip (Spells g) paths us
spelled_paths g names [] [] right all h = h
spelled_paths g names [] (u ∷ us) right all h = absurd h
spelled_paths g names (p ∷ paths) [] right all h = absurd h
spelled_paths g names (p ∷ paths) (u ∷ us) right all h =
    (spelled_path g names p u right (all u (head_in u us)) h.0, spelled_paths g names paths us right (λ v c. all v (tail_in u us v c)) h.1)

-- ---- the symbols of the productions
in_rules : (g : Grammar) (k : ℕ) (ps : List Production) (rest : List Rule) (p : ℕ) (r : Rule) → slice_get (map (rule_of g k) ps ++ rest) p ≡ Some r → ((q : Production) × Contains ps q × (r ≡ rule_of g k q)) ⊎ ((n : ℕ) × (slice_get rest n ≡ Some r))
in_rules g k [] rest p r h = inr (p, h)
in_rules g k (q ∷ ps) rest zero r h = inl (q, head_in q ps, sym (same_Some (rule_of g k q) r h))
in_rules g k (q ∷ ps) rest (suc p) r h =
    ⊎_elim (λ w. inl (w.0, tail_in q ps w.0 w.1, w.2)) (λ w. inr w) (in_rules g k ps rest p r h)

rule_production : (g : Grammar) (k : ℕ) (ds : List NonterminalData) (p : ℕ) (r : Rule) → slice_get (rules_from g k ds) p ≡ Some r → (q : Production) × Contains (flat_map (λ (d : NonterminalData). d.productions) ds) q × (r.right ≡ map (number_or_count g) q.symbols)
rule_production g k [] p r h = cc
rule_production g k (d ∷ ds) p r h =
    ⊎_elim (λ w. (w.0, Contains-append_left d.productions (flat_map (λ (e : NonterminalData). e.productions) ds) w.0 w.1, ap (λ (s : Rule). s.right) w.2)) (λ w. let v = rule_production g (k + 1) ds w.0 r w.1 in (v.0, Contains-append_right d.productions (flat_map (λ (e : NonterminalData). e.productions) ds) v.0 v.1, v.2)) (in_rules g k d.productions (rules_from g (k + 1) ds) p r h)

mapped_at : {A B : Type 0} (f : A → B) (xs : List A) (k : ℕ) (y : B) → slice_get (map f xs) k ≡ Some y → (x : A) × Contains xs x × (f x ≡ y)
mapped_at f [] k y h = cc
mapped_at f (x ∷ xs) zero y h = (x, head_in x xs, same_Some (f x) y h)
mapped_at f (x ∷ xs) (suc k) y h = let w = mapped_at f xs k y h in (w.0, tail_in x xs w.0 w.1, w.2)

next_rule : (o : Option Rule) (d : ℕ) (x : SymbolNumber) → option_and_then (λ (r : Rule). slice_get r.right d) o ≡ Some x → (r : Rule) × (o ≡ Some r) × (slice_get r.right d ≡ Some x)
next_rule None d x h = cc
next_rule (Some r) d x h = (r, refl, h)

-- each symbol after a dot is the number of a symbol of a production
pub symbol_of_next : (g : Grammar) (p d : ℕ) (x : SymbolNumber) → next_symbol (rules_of g) p d ≡ Some x → (q : Production) × (s : Symbol) × Contains (productions_of g) q × Contains q.symbols s × (number_or_count g s ≡ x)
symbol_of_next g p d x h =
    let r = next_rule (slice_get (rules_of g) p) d x h in
    let q = rule_production g 0 (values g.nonterminals) p r.0 r.1 in
    let s = mapped_at (number_or_count g) q.0.symbols d x (ap (λ (xs : List SymbolNumber). slice_get xs d) (sym q.2) ∙ r.2) in
    (q.0, s.0, q.1, s.1, s.2)

pub names_all : (g : Grammar) (names : Names) → ((q : Production) (s : Symbol) → Contains (productions_of g) q → Contains q.symbols s → IsSome (name_at names (number_or_count g s))) → NamesAll (rules_of g) names
names_all g names h p d x e =
    let w = symbol_of_next g p d x e in
    subst (λ y. IsSome (name_at names y)) w.4 (h w.0 w.1 w.2 w.3)

-- ---- the path to a state, from its last symbol back
paths_prefix : (before : List (List SymbolNumber)) (os : List Origin) → (more : List (List SymbolNumber)) × (paths_from before os ≡ before ++ more)
paths_prefix before [] = ([], sym (append-nil before))
paths_prefix before (o ∷ os) =
    let w = paths_prefix (before ++ path_after before o ∷ []) os in
    (path_after before o ∷ w.0, w.1 ∙ append_assoc before (path_after before o ∷ []) w.0)

at_length : {X : Type 0} (xs : List X) (y : X) (zs : List X) (n : ℕ) → n ≡ length xs → slice_get (xs ++ y ∷ zs) n ≡ Some y
at_length [] y zs n e = rw e refl
at_length (x ∷ xs) y zs n e = rw e (at_length xs y zs (length xs) refl)

take_length : {X : Type 0} (xs zs : List X) (n : ℕ) → n ≡ length xs → take n (xs ++ zs) ≡ xs
take_length [] zs n e = rw e refl
take_length {X} (x ∷ xs) zs n e = rw e (ap (λ (ys : List X). x ∷ ys) (take_length xs zs (length xs) refl))

at_origin : (before : List (List SymbolNumber)) (os : List Origin) (j : ℕ) (o : Origin) → slice_get os j ≡ Some o → slice_get (paths_from before os) (length before + j) ≡ Some (path_after (take (length before + j) (paths_from before os)) o)
at_origin before [] j o h = cc
at_origin before (p ∷ os) zero o h =
    let n = length before + 0 in
    let e : n ≡ length before = omega arith in
    let same : p ≡ o = same_Some p o h in
    let w = paths_prefix (before ++ path_after before p ∷ []) os in
    let all : paths_from before (p ∷ os) ≡ before ++ (path_after before p ∷ w.0) = w.1 ∙ append_assoc before (path_after before p ∷ []) w.0 in
    rw (all, take_length before (path_after before p ∷ w.0) n e, at_length before (path_after before p) w.0 n e) (ap (λ (q : Origin). Some (path_after before q)) same)
at_origin before (p ∷ os) (suc j) o h =
    let e : length (before ++ path_after before p ∷ []) + j ≡ length before + suc j = omega (arith, length-append before (path_after before p ∷ [])) in
    rw e at (at_origin (before ++ path_after before p ∷ []) os j o h)

at_path : (os : List Origin) (j : ℕ) (o : Origin) → slice_get os j ≡ Some o → slice_index_or (paths_of os) j [] ≡ path_after (take j (paths_of os)) o
at_path os j o h =
    let e : 0 + j ≡ j = omega arith in
    get_or_from_slice_get (paths_of os) j (path_after (take j (paths_of os)) o) [] (rw e at (at_origin [] os j o h))

pub back_after : (os : List Origin) (at i : ℕ) (x : SymbolNumber) → slice_get os at ≡ Some (After i x) → i < at → slice_index_or (paths_of os) at [] ≡ x ∷ slice_index_or (paths_of os) i []
back_after os at i x h l =
    at_path os at (After i x) h ∙ ap (λ (u : List SymbolNumber). x ∷ u) (get_or-take at (paths_of os) i [] l)

pub back_stop : (os : List Origin) (at i : ℕ) (x : SymbolNumber) → slice_get os at ≡ Some (After i x) → at ≤ i → slice_index_or (paths_of os) at [] ≡ x ∷ []
back_stop os at i x h l =
    at_path os at (After i x) h ∙ ap (λ (u : List SymbolNumber). x ∷ u) (get_or_past (take at (paths_of os)) i [] (omega (arith, length-take at (paths_of os))))

pub back_start : (os : List Origin) (at : ℕ) → slice_get os at ≡ Some Start → slice_index_or (paths_of os) at [] ≡ []
back_start os at h = at_path os at Start h

-- ---- one step back
pub origin_at : (os xs : List Origin) (at : ℕ) (o p : Origin) → xs ≡ os → at < length xs → o ≡ get_or xs at o → o ≡ p → slice_get os at ≡ Some p
origin_at os xs at o p same l is be =
    ap (λ (ys : List Origin). slice_get ys at) (sym same) ∙ slice_get-get_or xs at o l ∙ ap Some (sym is ∙ be)

pub back_past : (os : List Origin) (at : ℕ) → length (paths_of os) ≤ at → slice_index_or (paths_of os) at [] ≡ []
back_past os at l = get_or_past (paths_of os) at [] l
