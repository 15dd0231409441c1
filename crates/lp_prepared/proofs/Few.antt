-- The productions of a lowering, and the states of its tables, are never too many for the emission.
use Rattle.std.proofs.Common.{◌≡◌, ℕ, suc, ◌+◌, ◌*◌, ◌≤◌, ◌||◌, Bool, true, false, cond, ⊎_elim, List, [], ◌∷◌, ◌++◌, map, length, length-append, Option, None, Some, MatchOption, min, max, slice_get, ap, sym, ◌∙◌, refl, arith}
use Rattle.std.specs.BTreeMap.{insert_entry, values}
use Rattle.std.specs.List.{sum_by, flat_map}
use Rattle.std.specs.Option.{option_map_or}
use Rattle.std.specs.Ordering.{match_ordering}
use Rattle.std.specs.Prelude.{nat_lt}
use Rattle.std.specs.declared.cmp.Ordering.{Ordering}
use Rattle.std.specs.declared.cmp.Ordering.TheVariants.{Less, Equal, Greater}
use Rattle.std.proofs.Math.ListN.{get_or, get_or-map}
use Rattle.std.proofs.lemmas.Bool.{ltb-false}
use Rattle.std.proofs.lemmas.List.{length-map, map-append}
use Rattle.std.proofs.lemmas.List.Concat.{length-flat_map}
use Rattle.std.proofs.lemmas.List.Sums.{sum_by-append, sum_by-cons}
use Rattle.lp_emit.specs.Causes.{Refuses}
use Rattle.lp_emitted.specs.Emittable.{greatest_count, greatest_of}
use Rattle.lp_emit.specs.declared.errors.EmitError.TheVariants.{TooMany}
use Rattle.lp_lower.proofs.Combining.{length-choices}
use Rattle.lp_lower.specs.ActionNumbers.{action_count, actions_in, first_action}
use Rattle.lp_lower.specs.Choices.{choices}
use Rattle.lp_lower.specs.Expansion.{all_sources, combined, expanded, expanded_all, expanded_from, inlines_after, options, rule_pieces, sources_of, terminal_pieces}
use Rattle.lp_lower.specs.Naming.{target}
use Rattle.lp_lower.specs.Pieces.{itself, chosen, combination_of}
use Rattle.lp_lower.specs.Productions.{put_all, nonterminal_entries, production_of, rule_data, rule_entries, rule_entry, start_data, start_entries, start_entry, start_name}
use Rattle.lp_lower.specs.RightSides.{are_too_many, inline_sides, right_sides, rule_options, rule_sides, side_options, sides_after, sides_from, sides_with_start, terminal_options, too_many_after}
use Rattle.lp_lower.specs.Causes.{IsAccepted}
use Rattle.lp_lower.specs.Lowering.{IsLowering}
use Rattle.lp_lower.specs.declared.combine.Combination.{Combination}
use Rattle.lp_lower.specs.declared.combine.Expanded.{Expanded}
use Rattle.lp_lower.specs.declared.names.Target.{Target}
use Rattle.lp_lower.specs.declared.names.Target.TheVariants as target_of
use Rattle.lp_plain.specs.Front.{LowersTo}
use Rattle.lp_repr.specs.NameOrder.{nonterminal_cmp}
use Rattle.lp_repr.specs.Numbering.{productions_of, rules_of}
use Rattle.lp_repr.specs.ValidTables.{start_number}
use Rattle.lp_repr.specs.declared.lr1.Lr1State.{Lr1State}
use Rattle.lp_repr.specs.declared.lr1.StartStates.{StartStates}
use Rattle.lp_repr.specs.declared.numbering.Rule.{Rule}
use Rattle.lp_repr.specs.declared.numbering.SymbolNumber.{SymbolNumber}
use Rattle.lp_repr.specs.declared.repr.Grammar.{Grammar}
use Rattle.lp_repr.specs.declared.repr.NonterminalData.{NonterminalData}
use Rattle.lp_repr.specs.declared.repr.NonterminalString.{NonterminalString}
use Rattle.lp_repr.specs.declared.repr.Symbol.{Symbol}
use Rattle.lp_repr.specs.declared.repr.Symbol.TheVariants.{Nonterminal, Terminal}
use Rattle.lp_starts.proofs.Refused.{not_valid}
use Rattle.lp_starts.specs.Tables.{AreTablesOf, AreValid}
use Rattle.lp_states.specs.States.{AreStates}
use Rattle.lp_syntax.specs.declared.plain.PlainAlternative.{PlainAlternative}
use Rattle.lp_syntax.specs.declared.plain.PlainGrammar.{PlainGrammar}
use Rattle.lp_syntax.specs.declared.plain.PlainRule.{PlainRule}
use Rattle.lp_syntax.specs.declared.plain.PlainTerminal.{PlainTerminal}
use Rattle.lp_prepared.specs.Told.{AreTablesOrNone}
use Rattle.lp_valid.specs.Refusals.{RefusesGrammar}
use Rattle.lp_valid.specs.declared.grammars.GrammarFault.TheVariants as fault

-- the weight of the values of entries
abbrev weight : {K X : Type 0} → (X → ℕ) → List (K × X) → ℕ
weight w entries = sum_by (λ e. w e.1) entries

weight-insert_entry : {K X : Type 0} (cmp : K → K → Ordering) (w : X → ℕ) (es : List (K × X)) (k : K) (v : X) → weight w (insert_entry cmp es k v) ≤ w v + weight w es
weight-insert_entry {K} {X} cmp w [] k v = let p = sum_by-cons (λ (x : K × X). w x.1) (k, v) [] in omega (arith, p)
weight-insert_entry {K} {X} cmp w (e ∷ es) k v =
    let f : K × X → ℕ = λ x. w x.1 in
    let a = sum_by-cons f e es in
    elim (cmp k e.0) as (λ o. weight w (match_ordering o ((k, v) ∷ e ∷ es) ((e.0, v) ∷ es) (e ∷ insert_entry cmp es k v)) ≤ w v + weight w (e ∷ es)) [
      | Less ↦ let b = sum_by-cons f (k, v) (e ∷ es) in omega (arith, b)
      | Equal ↦ let b = sum_by-cons f (e.0, v) es in omega (arith, a, b)
      | Greater ↦ let b = sum_by-cons f e (insert_entry cmp es k v) in let c = weight-insert_entry cmp w es k v in omega (arith, a, b, c)
    ]

-- what a map holds weighs no more than what was put into it
weight-put_all : {K X : Type 0} (cmp : K → K → Ordering) (w : X → ℕ) (es l : List (K × X)) → weight w (put_all cmp es l) ≤ weight w es + weight w l
weight-put_all {K} {X} cmp w es [] = omega arith
weight-put_all {K} {X} cmp w es (e ∷ l) =
    let a = sum_by-cons (λ (x : K × X). w x.1) e l in
    let b = weight-insert_entry cmp w es e.0 e.1 in
    let c = weight-put_all cmp w (insert_entry cmp es e.0 e.1) l in
    omega (arith, a, b, c)

weight-values : {K X : Type 0} (w : X → ℕ) (m : List (K × X)) → sum_by w (map (λ e. e.1) m) ≡ weight w m
weight-values w [] = refl
weight-values {K} {X} w (e ∷ m) =
    sum_by-cons w e.1 (map (λ (x : K × X). x.1) m) ∙ (ap (λ n. w e.1 + n) (weight-values w m) ∙ sym (sum_by-cons (λ (x : K × X). w x.1) e m))

-- as many choices where there are as many options
same_choices : {A B S : Type 0} (f : S → List A) (h : S → List B) → ((s : S) → length (f s) ≡ length (h s)) → (ss : List S) → length (choices (map f ss)) ≡ length (choices (map h ss))
same_choices f h e [] = refl
same_choices f h e (s ∷ ss) =
    length-choices (f s) (map f ss)
    ∙ (ap (λ n. n * length (choices (map f ss))) (e s)
    ∙ (ap (λ n. length (h s) * n) (same_choices f h e ss)
    ∙ sym (length-choices (h s) (map h ss))))

-- how many elements each of some lists has
abbrev counts : {A : Type 0} → List (List A) → List ℕ
counts xss = map length xss

same_at : {A B : Type 0} (xss : List (List A)) (yss : List (List B)) (n : ℕ) → counts xss ≡ counts yss → length (get_or xss n []) ≡ length (get_or yss n [])
same_at xss yss n e = sym (get_or-map length xss n []) ∙ (ap (λ l. get_or l n 0) e ∙ get_or-map length yss n [])

same_push : {A B : Type 0} (xss : List (List A)) (yss : List (List B)) (x : List A) (y : List B) → counts xss ≡ counts yss → length x ≡ length y → counts (xss ++ x ∷ []) ≡ counts (yss ++ y ∷ [])
same_push xss yss x y e h =
    map-append length xss (x ∷ []) ∙ (ap (λ l. l ++ length x ∷ []) e ∙ (ap (λ n. counts yss ++ n ∷ []) h ∙ sym (map-append length yss (y ∷ []))))

-- a symbol stands for as many expanded alternatives as right sides
rule_count : (o : Option PlainRule) (es : List Expanded) (ss : List (List Symbol)) → length es ≡ length ss → length (option_map_or (λ r. rule_pieces r es) o []) ≡ length (option_map_or (λ r. rule_options r ss) o [])
rule_count None es ss e = refl
rule_count (Some r) es ss e =
    elim (r.inline) as (λ b. length (cond b (map chosen es) (itself (Nonterminal r.name) ∷ [])) ≡ length (cond b ss ((Nonterminal r.name ∷ []) ∷ []))) [
      | true ↦ length-map es chosen ∙ e
      | false ↦ refl
    ]

terminal_count : (g : PlainGrammar) (n : ℕ) → length (terminal_pieces g n) ≡ length (terminal_options g n)
terminal_count g n = elim (slice_get g.conversions n) as (λ (o : Option PlainTerminal). length (option_map_or (λ t. itself (Terminal t.name) ∷ []) o []) ≡ length (option_map_or (λ t. (Terminal t.name ∷ []) ∷ []) o [])) [ None ↦ refl | Some t ↦ refl ]

options_count : (g : PlainGrammar) (above : List (List Expanded)) (sides : List (List (List Symbol))) → counts above ≡ counts sides → (t : Option Target) → length (options g (sources_of g above) t) ≡ length (side_options g sides t)
options_count g above sides e None = refl
options_count g above sides e (Some (target_of.Rule n)) = rule_count (slice_get g.rules n) (get_or above n []) (get_or sides n []) (same_at above sides n e)
options_count g above sides e (Some (target_of.Terminal n)) = terminal_count g n
options_count g above sides e (Some target_of.Lookahead) = refl
options_count g above sides e (Some target_of.Lookbehind) = refl
options_count g above sides e (Some target_of.Error) = refl

length-expanded_from : (n : ℕ) (cs : List Combination) → length (expanded_from n cs) ≡ length cs
length-expanded_from n [] = refl
length-expanded_from n (c ∷ cs) = ap (λ m. suc m) (length-expanded_from (n + 1) cs)

length-combined : (g : PlainGrammar) (above : List (List Expanded)) (sides : List (List (List Symbol))) → counts above ≡ counts sides → (a : PlainAlternative) → length (combined g (sources_of g above) a) ≡ length (right_sides g sides a)
unfolding combined sides_from
length-combined g above sides e a =
    length-map (choices (map (λ x. options g (sources_of g above) (target g x.kind)) a.symbols)) (combination_of a.fallible)
    ∙ (same_choices (λ x. options g (sources_of g above) (target g x.kind)) (λ x. side_options g sides (target g x.kind)) (λ x. options_count g above sides e (target g x.kind)) a.symbols
    ∙ sym (length-map (choices (map (λ x. side_options g sides (target g x.kind)) a.symbols)) (flat_map (λ side. side))))

length-expanded_all : (g : PlainGrammar) (above : List (List Expanded)) (sides : List (List (List Symbol))) → counts above ≡ counts sides → (first : ℕ) (as' : List PlainAlternative) → length (expanded_all g (sources_of g above) first as') ≡ length (flat_map (right_sides g sides) as')
length-expanded_all g above sides e first [] = refl
length-expanded_all g above sides e first (a ∷ rest) =
    let one = length-append (expanded g (sources_of g above) first a) (expanded_all g (sources_of g above) (first + action_count g a) rest) in
    let two = length-append (right_sides g sides a) (flat_map (right_sides g sides) rest) in
    let three : length (expanded g (sources_of g above) first a) ≡ length (combined g (sources_of g above) a) = length-expanded_from _ (combined g (sources_of g above) a) in
    let four = length-combined g above sides e a in
    let five = length-expanded_all g above sides e (first + action_count g a) rest in
    omega (arith, one, two, three, four, five)

-- the inline rules
inlines_counted : (g : PlainGrammar) (above : List (List Expanded)) (sides : List (List (List Symbol))) → counts above ≡ counts sides → (first : ℕ) (rs : List PlainRule) → counts (inlines_after g above first rs) ≡ counts (sides_after g sides rs)
inlines_counted g above sides e first [] = e
inlines_counted g above sides e first (r ∷ rs) =
    let es = expanded_all g (sources_of g above) first r.alternatives in
    let ss = rule_sides g sides r in
    let one : length (cond r.inline es []) ≡ length (cond r.inline ss []) = elim (r.inline) as (λ b. length (cond b es []) ≡ length (cond b ss [])) [ true ↦ length-expanded_all g above sides e first r.alternatives | false ↦ refl ] in
    inlines_counted g (above ++ cond r.inline es [] ∷ []) (sides ++ cond r.inline ss [] ∷ []) (same_push above sides (cond r.inline es []) (cond r.inline ss []) e one) (first + actions_in g r.alternatives) rs

inlines_same : (g : PlainGrammar) → counts (inlines_after g [] (first_action g) g.rules) ≡ counts (inline_sides g)
inlines_same g = inlines_counted g [] [] refl (first_action g) g.rules

-- how many productions a nonterminal has
abbrev size : NonterminalData → ℕ
size d = length d.productions

start_weight : (g : PlainGrammar) (action : ℕ) (r : PlainRule) → weight size (start_entry g action r) ≡ length (cond r.public ((Nonterminal r.name ∷ []) ∷ []) [])
start_weight g action r = elim (r.public) as (λ b. weight size (cond b ((start_name g r, start_data g action r) ∷ []) []) ≡ length (cond b ((Nonterminal r.name ∷ []) ∷ []) [])) [ true ↦ refl | false ↦ refl ]

rule_weight : (g : PlainGrammar) (first : ℕ) (r : PlainRule) → weight size (rule_entry g (all_sources g) first r) ≤ length (rule_sides g (inline_sides g) r)
rule_weight g first r =
    let made = expanded_all g (all_sources g) first r.alternatives in
    let one : length made ≡ length (rule_sides g (inline_sides g) r) = length-expanded_all g (inlines_after g [] (first_action g) g.rules) (inline_sides g) (inlines_same g) first r.alternatives in
    let two : length (map (production_of r.name) made) ≡ length made = length-map made (production_of r.name) in
    elim (r.inline) as (λ b. weight size (cond b [] ((r.name, rule_data g (all_sources g) first r) ∷ [])) ≤ length (rule_sides g (inline_sides g) r)) [
      | true ↦ omega arith
      | false ↦ omega (arith, one, two)
    ]

-- the productions of some rules and their starts are as many as their right sides
entries_weight : (g : PlainGrammar) (action first : ℕ) (rs : List PlainRule) → weight size (start_entries g action rs) + weight size (rule_entries g (all_sources g) first rs) ≤ sum_by (λ r. length (sides_with_start g r)) rs
entries_weight g action first [] = omega arith
entries_weight g action first (r ∷ rs) =
    let starts = start_entries g (action + cond r.public 1 0) rs in
    let rules' = rule_entries g (all_sources g) (first + actions_in g r.alternatives) rs in
    let one = sum_by-append (λ (e : NonterminalString × NonterminalData). size e.1) (start_entry g action r) starts in
    let two = sum_by-append (λ (e : NonterminalString × NonterminalData). size e.1) (rule_entry g (all_sources g) first r) rules' in
    let three = start_weight g action r in
    let four = rule_weight g first r in
    let five = length-append (rule_sides g (inline_sides g) r) (cond r.public ((Nonterminal r.name ∷ []) ∷ []) []) in
    let six = sum_by-cons (λ x. length (sides_with_start g x)) r rs in
    let seven = entries_weight g (action + cond r.public 1 0) (first + actions_in g r.alternatives) rs in
    omega (arith, one, two, three, four, five, six, seven)

or-false : (a b : Bool) → a || b ≡ false → a ≡ false
or-false true b e = e
or-false false b e = refl

-- right sides that are not too many with each rule in turn
few_after : (g : PlainGrammar) (before : List (List Symbol)) (rs : List PlainRule) → length before ≤ 65536 → too_many_after g before rs ≡ None → length before + sum_by (λ r. length (sides_with_start g r)) rs ≤ 65536
few_after g before [] h n = omega arith
few_after g before (r ∷ rs) h n =
    let whole = before ++ sides_with_start g r in
    elim (are_too_many whole) as (λ b. are_too_many whole ≡ b → cond b (Some r.place) (too_many_after g whole rs) ≡ None → length before + sum_by (λ x. length (sides_with_start g x)) (r ∷ rs) ≤ 65536) [
      | true ↦ λ p q. absurd (cc)
      | false ↦ λ p q.
          let fits : length whole ≤ 65536 = ltb-false 65536 (length whole) (or-false (nat_lt 65536 (length whole)) _ p) in
          let a = few_after g whole rs fits q in
          let b = length-append before (sides_with_start g r) in
          let c = sum_by-cons (λ x. length (sides_with_start g x)) r rs in
          omega (arith, a, b, c)
    ] refl n

few_productions : (plain : PlainGrammar) (g : Grammar) → IsAccepted plain → IsLowering plain g → length (productions_of g) ≤ 65536
few_productions plain g accepted lowering =
    let one : length (productions_of g) ≡ sum_by size (values g.nonterminals) = length-flat_map (λ (d : NonterminalData). d.productions) (values g.nonterminals) in
    let two : sum_by size (values g.nonterminals) ≡ weight size g.nonterminals.entries = weight-values size g.nonterminals.entries in
    let three : weight size g.nonterminals.entries ≡ weight size (put_all nonterminal_cmp [] (nonterminal_entries plain)) = ap (weight size) lowering.nonterminals in
    let four = weight-put_all nonterminal_cmp size [] (nonterminal_entries plain) in
    let five = sum_by-append (λ (e : NonterminalString × NonterminalData). size e.1) (start_entries plain 0 plain.rules) (rule_entries plain (all_sources plain) (first_action plain) plain.rules) in
    let six = entries_weight plain 0 (first_action plain) plain.rules in
    let seven = few_after plain [] plain.rules (omega arith) accepted.1 in
    omega (arith, one, two, three, four, five, six, seven)

few_states : (rules : List Rule) (o : Option ℕ) (states : List Lr1State) → MatchOption o (states ≡ []) (λ n. (paths : List (List SymbolNumber)) × AreStates rules n paths states) → length states ≤ 4096
few_states rules None states h = let e : length states ≡ 0 = ap length h in omega (arith, e)
few_states rules (Some n) states h = omega (arith, h.1.same_count, h.1.few)

few_tables : (most n : ℕ) (tables : List StartStates) → n ≤ most → ((i : ℕ) (t : StartStates) → slice_get tables i ≡ Some t → length t.states ≤ most) → greatest_of n tables ≤ most
few_tables most n [] h each = h
few_tables most n (t ∷ ts) h each = few_tables most (max n (length t.states)) ts (let a = each 0 t refl in omega (arith, a)) (λ i u e. each (suc i) u e)

-- the counts of an accepted grammar and its tables fit what numbers them
few_counts : (plain : PlainGrammar) (g : Grammar) (tables : List StartStates) → LowersTo plain g → AreTablesOf g tables → greatest_count g tables ≤ 65536
few_counts plain g tables l t =
    let productions = few_productions plain g l.0 l.1 in
    few_tables 65536 (min (length (productions_of g)) 18446744073709551615) tables (omega arith)
    (λ i table at. let a = few_states (rules_of g) (start_number g i) table.states (t.all.1 i table at).1 in omega (arith, a))

pub not_too_many : (plain : PlainGrammar) (g : Grammar) (tables : List StartStates) (count : ℕ) → LowersTo plain g → AreTablesOrNone g tables → Refuses g tables (TooMany count) → ⊥
not_too_many plain g tables count l a r = ⊎_elim
    (λ (t : AreTablesOf g tables × AreValid g tables). let few = few_counts plain g tables l t.0 in let same = r.2.0 in let over = r.2.1 in omega (arith, few, same, over))
    (λ (t : (tables ≡ []) × ((rule : ℕ) × (place : ℕ) × RefusesGrammar g (fault.Rule rule place))). not_valid g t.1.0 t.1.1 t.1.2 r.0.1)
    a
