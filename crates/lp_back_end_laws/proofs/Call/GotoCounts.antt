-- Where a nonterminal has no goto there are fewer gotos than nonterminals.
use Rattle.std.proofs.Common.{◌≡◌, ℕ, suc, ◌+◌, ◌<◌, ◌≤◌, List, [], ◌∷◌, length, map, Some, slice_get, refl, sym, ap, ◌∙◌, ⊎_elim, arith}
use Rattle.std.specs.BTreeMap.{IsOrdered}
use Rattle.std.specs.List.{AllByRecursion}
use Rattle.std.specs.List.Sorted.{IsStrictlySortedBy}
use Rattle.std.specs.Ordering.{nat_cmp}
use Rattle.std.specs.declared.cmp.Ordering.TheVariants.{Less}
use Rattle.std.proofs.lemmas.Bool.{cases_lt}
use Rattle.std.proofs.lemmas.Bool.Decides.{nat_tests}
use Rattle.std.proofs.lemmas.List.{length-map}
use Rattle.std.proofs.lemmas.Map.Keys.{sorted_head, sorted_tail}
use Rattle.lp_repr.specs.Numbering.{nonterminals_of}
use Rattle.lp_repr.specs.declared.lr1.Lr1State.{Lr1State}
use Rattle.lp_repr.specs.declared.numbering.SymbolNumber.TheVariants.{Nonterminal}
use Rattle.lp_repr.specs.declared.repr.Grammar.{Grammar}
use Rattle.lp_machine.specs.Tables.{Tables}
use Rattle.lp_turn_laws.specs.Paths.Over.{IsOver}
use Rattle.lp_turn_laws.specs.Paths.Walks.{edge_at}
use Rattle.lp_turn_laws.proofs.Paths.Numbered.{at_mapped}
use Rattle.lp_ascent.specs.AnswerLines.{answer_name, answer_names}
use Rattle.lp_ascent.specs.GotoLines.{named_gotos}
use Rattle.lp_back_end_laws.proofs.Call.GoingOn.{goto_in_range, goto_rows_count}
use Rattle.lp_back_end_laws.proofs.Call.GotoChoice.{entry_leads}

less_is : (k y : ℕ) → nat_cmp k y ≡ Less → k < y
less_is k y e = grind (arith, nat_tests)

-- all of a list are at least so great, and less than another
abbrev AreWithin : ℕ → ℕ → List ℕ → Type 0
AreWithin a n ks = AllByRecursion (λ (k : ℕ). (a ≤ k) × (k < n)) ks

more_within : (a n k : ℕ) (ks : List ℕ) → AllByRecursion (λ (y : ℕ). nat_cmp k y ≡ Less) ks → AreWithin a n ks → AreWithin (k + 1) n ks
more_within a n k [] h w = tt
more_within a n k (y ∷ ks) h w = ((let less = less_is k y h.0 in omega (arith, less), w.0.1), more_within a n k ks h.1 w.1)

-- so many numbers in order, from one to before another
few : (a n : ℕ) (ks : List ℕ) → IsStrictlySortedBy nat_cmp ks → AreWithin a n ks → a ≤ n → a + length ks ≤ n
few a n [] s w le = omega (arith, le)
few a n (k ∷ ks) s w le =
    let r = few (k + 1) n ks (sorted_tail nat_cmp k ks s) (more_within a n k ks (sorted_head nat_cmp k ks s) w.1) (let less = w.0.1 in omega (arith, less)) in
    let low = w.0.0 in
    omega (arith, r, low)

-- and one fewer where one is none of them
pub fewer : (a n m : ℕ) (ks : List ℕ) → IsStrictlySortedBy nat_cmp ks → AreWithin a n ks → a ≤ m → m < n → ((i : ℕ) → slice_get ks i ≡ Some m → ⊥) → a + length ks < n
fewer a n m [] s w le less none = omega (arith, le, less)
fewer a n m (k ∷ ks) s w le less none =
    let tail = sorted_tail nat_cmp k ks s in
    let above = more_within a n k ks (sorted_head nat_cmp k ks s) w.1 in
    let low = w.0.0 in
    let high = w.0.1 in
    ⊎_elim
    (λ (h : k < m). let r = fewer (k + 1) n m ks tail above (omega (arith, h)) less (λ i e. none (suc i) e) in omega (arith, r, low))
    (λ (h : m ≤ k).
    ⊎_elim
    (λ (g : m < k). let r = few (k + 1) n ks tail above (omega (arith, high)) in omega (arith, r, le, g))
    (λ (g : k ≤ m). (let is : k ≡ m = omega (arith, h, g) in absurd (none 0 (ap Some is))))
    (cases_lt m k))
    (cases_lt k m)

all_within : (n : ℕ) (ks : List ℕ) → ((i k : ℕ) → slice_get ks i ≡ Some k → k < n) → AreWithin 0 n ks
all_within n [] h = tt
all_within n (k ∷ ks) h = ((omega arith, h 0 k refl), all_within n ks (λ i y e. h (suc i) y e))

-- of a state
pub lacks_a_goto : {g : Grammar} {start : ℕ} {states : List Lr1State} {t : Tables} (over : IsOver g start states t) (q : ℕ) (s : Lr1State) (at : slice_get states q ≡ Some s) (n : ℕ)
    → IsOrdered nat_cmp s.gotos → n < length (nonterminals_of g) → ((to : ℕ) → edge_at states q (Nonterminal n) ≡ Some to → ⊥) → length (named_gotos (answer_names g) s.gotos.entries) < length (answer_names g)
lacks_a_goto {g} {states = states} over q s at n ordered within none =
    let ks = map (λ (x : ℕ × ℕ). x.0) s.gotos.entries in
    let entry : (i k : ℕ) → slice_get ks i ≡ Some k → (to : ℕ) × (slice_get s.gotos.entries i ≡ Some (k, to)) =
    λ i k e. (let w = at_mapped (λ (x : ℕ × ℕ). x.0) s.gotos.entries i k e in ((w.0).1, w.1 ∙ ap (λ (m : ℕ). Some (m, (w.0).1)) (sym w.2))) in
    let less = fewer 0 (length (nonterminals_of g)) n ks ordered (all_within (length (nonterminals_of g)) ks (λ i k e. let w = entry i k e in goto_in_range over q s at i k w.0 w.1)) (omega arith) within
    (λ i e. let w = entry i n e in let x = entry_leads states q s at i n w.0 w.1 in none x.0 x.1) in
    omega (arith, less, goto_rows_count over q s at, length-map s.gotos.entries (λ (x : ℕ × ℕ). x.0), length-map (nonterminals_of g) answer_name)
