-- The edges of a new state.
use Rattle.std.proofs.Common.{◌≡◌, ℕ, ◌+◌, List, [], ◌∷◌, map, Some, refl, sym, ap, ◌∙◌, ⊎_elim, inr, subst, arith, Contains, AllPairs}
use Rattle.std.specs.BTreeMap as tree
use Rattle.std.specs.BTreeMap.{BTreeMap}
use Rattle.std.specs.List.Sorted.{IsStrictlySortedBy}
use Rattle.std.specs.declared.cmp.Ordering.TheVariants.{Less}
use Rattle.std.proofs.lemmas.Map.Keys.{sorted_head, sorted_tail}
use Rattle.std.proofs.lemmas.Map.Views.{btree_map_get_iff}
use Rattle.std.proofs.lemmas.List.Elements.{All-from_recursion, All-contains}
use Rattle.std.proofs.lemmas.List.Kept.{AllPairs-cons}
use Rattle.std.proofs.lemmas.Option.{same_Some}
use Rattle.lp_repr.specs.Closure.{next_symbol}
use Rattle.lp_repr.specs.declared.numbering.Rule.{Rule}
use Rattle.lp_repr.specs.declared.numbering.SymbolNumber.{SymbolNumber}
use Rattle.lp_repr.specs.declared.lr1.Token.{Token}
use Rattle.lp_sets.specs.declared.tokens.TokenSet.{TokenSet}
use Rattle.lp_states.specs.declared.builder.Edge.{Edge}
use Rattle.lp_states.specs.ItemSets.{IsCore, IsLookahead, Moved, MovedOn}
use Rattle.lp_states.specs.ItemMaps.{ItemMap, lookaheads_at, Stands, StandsOn, AreItemsAfter, IsKernelAfter}
use Rattle.lp_states.specs.Actions.{symbol_cmp, AreMoved}
use Rattle.lp_states.specs.Paths.{IsViable}
use Rattle.lp_states.specs.Walks.{EdgeBefore}
use Rattle.lp_states.specs.Building.{edges_of, edge_from}
use Rattle.lp_states.proofs.Closures.{some_of, is_some_from}
use Rattle.lp_states.proofs.SymbolOrder.{symbol_total, symbol_exact, symbol_less}
use Rattle.lp_states.proofs.LeadingAlike.{viable_moved, moved_item}
use Rattle.lp_states.proofs.WalkSteps.{head_in, tail_in, in_cases, All-from_contained}

-- ---- edges of entries
pub edge_entry : (n : ℕ) (es : List (SymbolNumber × ItemMap)) (e : Edge) → Contains (map (edge_from n) es) e → (f : SymbolNumber × ItemMap) × Contains es f × (e ≡ edge_from n f)
edge_entry n [] e c = absurd (omega (arith, c.1))
edge_entry n (f ∷ es) e c =
    ⊎_elim (λ (s : edge_from n f ≡ e). (f, head_in f es, sym s)) (λ (d : Contains (map (edge_from n) es) e). let w = edge_entry n es e d in (w.0, tail_in f es w.0 w.1, w.2)) (in_cases (edge_from n f) (map (edge_from n) es) e c)

pub edges_entry : (n : ℕ) (es : List (SymbolNumber × ItemMap)) (e : ℕ × SymbolNumber) → Contains (edges_of (map (edge_from n) es)) e → (f : SymbolNumber × ItemMap) × Contains es f × (e ≡ (n, f.0))
edges_entry n [] e c = absurd (omega (arith, c.1))
edges_entry n (f ∷ es) e c =
    ⊎_elim (λ (s : (n, f.0) ≡ e). (f, head_in f es, sym s)) (λ (d : Contains (edges_of (map (edge_from n) es)) e). let w = edges_entry n es e d in (w.0, tail_in f es w.0 w.1, w.2)) (in_cases (n, f.0) (edges_of (map (edge_from n) es)) e c)

pub entry_edge : (n : ℕ) (es : List (SymbolNumber × ItemMap)) (f : SymbolNumber × ItemMap) → Contains es f → Contains (edges_of (map (edge_from n) es)) (n, f.0)
entry_edge n [] f c = absurd (omega (arith, c.1))
entry_edge n (g ∷ es) f c =
    ⊎_elim (λ (s : g ≡ f). subst (λ (h : SymbolNumber × ItemMap). Contains (edges_of (map (edge_from n) (g ∷ es))) (n, h.0)) s (head_in (n, g.0) (edges_of (map (edge_from n) es)))) (λ (d : Contains es f). tail_in (n, g.0) (edges_of (map (edge_from n) es)) (n, f.0) (entry_edge n es f d)) (in_cases g es f c)

key_in : (es : List (SymbolNumber × ItemMap)) (f : SymbolNumber × ItemMap) → Contains es f → Contains (map (λ (g : SymbolNumber × ItemMap). g.0) es) f.0
key_in [] f c = absurd (omega (arith, c.1))
key_in (e ∷ es) f c =
    ⊎_elim (λ (s : e ≡ f). subst (λ (g : SymbolNumber × ItemMap). Contains (map (λ (h : SymbolNumber × ItemMap). h.0) (e ∷ es)) g.0) s (head_in e.0 (map (λ (h : SymbolNumber × ItemMap). h.0) es))) (λ (d : Contains es f). tail_in e.0 (map (λ (h : SymbolNumber × ItemMap). h.0) es) f.0 (key_in es f d)) (in_cases e es f c)

pub edges_ordered : (n : ℕ) (es : List (SymbolNumber × ItemMap)) → IsStrictlySortedBy symbol_cmp (map (λ (g : SymbolNumber × ItemMap). g.0) es) → AllPairs EdgeBefore (edges_of (map (edge_from n) es))
edges_ordered n [] s = λ a b d l k. absurd (omega (arith, k))
edges_ordered n (f ∷ es) s =
    let later = sorted_tail symbol_cmp f.0 (map (λ (g : SymbolNumber × ItemMap). g.0) es) s in
    AllPairs-cons EdgeBefore (n, f.0) (edges_of (map (edge_from n) es)) (All-from_contained (EdgeBefore (n, f.0)) (edges_of (map (edge_from n) es)) (λ e c. let w = edges_entry n es e c in subst (λ (x : ℕ × SymbolNumber). EdgeBefore (n, f.0) x) (sym w.2) (inr (refl, symbol_less f.0 w.0.0 (All-contains (λ k. symbol_cmp f.0 k ≡ Less) (map (λ (g : SymbolNumber × ItemMap). g.0) es) w.0.0 (All-from_recursion (λ k. symbol_cmp f.0 k ≡ Less) (map (λ (g : SymbolNumber × ItemMap). g.0) es) (sorted_head symbol_cmp f.0 (map (λ (g : SymbolNumber × ItemMap). g.0) es) s)) (key_in es w.0 w.1)))))) (edges_ordered n es later)

-- ---- the sets of items that are moved
module _ (rules : List Rule) (start : ℕ) (path : List SymbolNumber) (items : ItemMap) (are : AreItemsAfter rules start path items) (found : BTreeMap SymbolNumber ItemMap) (moved : AreMoved rules items found) where
  found_at : (f : SymbolNumber × ItemMap) → Contains found.entries f → tree.get symbol_cmp found f.0 ≡ Some f.1
  found_at f c = (btree_map_get_iff symbol_total symbol_exact found moved.ordered f.0 f.1).1 c

  pub moved_viable : (f : SymbolNumber × ItemMap) → Contains found.entries f → IsViable rules start (f.0 ∷ path)
  moved_viable f c =
      let w = moved.some f.0 f.1 (found_at f c) in
      viable_moved rules start f.0 path w.0 w.1 ((are.cores w.0 w.1).0 w.2) w.3

  pub viable_found : (y : SymbolNumber) → IsViable rules start (y ∷ path) → (k : ItemMap) × Contains found.entries (y, k)
  viable_found y v =
      let m = moved_item rules start y path v in
      let s = some_of (lookaheads_at items m.0 m.1) ((are.cores m.0 m.1).1 m.2) in
      let w = moved.all y m.0 m.1 s.0 s.1 m.3 in
      (w.0, (btree_map_get_iff symbol_total symbol_exact found moved.ordered y w.0).0 w.1)

  module _ (x : SymbolNumber) (k : ItemMap) (at : tree.get symbol_cmp found x ≡ Some k) where
    moved_item_at : (p e : ℕ) (s : TokenSet) → lookaheads_at items p e ≡ Some s → next_symbol rules p e ≡ Some x → lookaheads_at k p (e + 1) ≡ Some s
    moved_item_at p e s g n =
        let w = moved.all x p e s g n in
        ap (λ (m : ItemMap). lookaheads_at m p (e + 1)) (same_Some k w.0 (sym at ∙ w.1)) ∙ w.2

    core_moved : (p d : ℕ) → Stands k p d → Moved rules x (IsCore rules start path) p d
    core_moved p d h =
        let s = some_of (lookaheads_at k p d) h in
        let w = moved.only x k p d s.0 at s.1 in
        (w.0, w.1, (are.cores p w.0).0 (is_some_from (lookaheads_at items p w.0) s.0 w.2), w.3)

    moved_core : (p d : ℕ) → Moved rules x (IsCore rules start path) p d → Stands k p d
    moved_core p d m =
        let s = some_of (lookaheads_at items p m.0) ((are.cores p m.0).1 m.2) in
        subst (λ e. Stands k p e) (sym m.1) (is_some_from (lookaheads_at k p (m.0 + 1)) s.0 (moved_item_at p m.0 s.0 s.1 m.3))

    lookahead_moved : (p d : ℕ) (t : Token) → StandsOn k p d t → MovedOn rules x (IsLookahead rules start path) p d t
    lookahead_moved p d t h =
        let w = moved.only x k p d h.0 at h.1 in
        (w.0, w.1, (are.lookaheads p w.0 t).0 (h.0, w.2, h.2), w.3)

    moved_lookahead : (p d : ℕ) (t : Token) → MovedOn rules x (IsLookahead rules start path) p d t → StandsOn k p d t
    moved_lookahead p d t m =
        let s = (are.lookaheads p m.0 t).1 m.2 in
        subst (λ e. StandsOn k p e t) (sym m.1) (s.0, moved_item_at p m.0 s.0 s.1 m.3, s.2)

    pub moved_kernel : IsKernelAfter rules start x path k
    moved_kernel = record {
      ordered = moved.each_ordered x k at;
      cores = λ p d. (core_moved p d, moved_core p d);
      lookaheads = λ p d t. (lookahead_moved p d t, moved_lookahead p d t);
    }

  pub kernel_of_edge : (n : ℕ) (e : Edge) → Contains (map (edge_from n) found.entries) e → (e.from ≡ n) × IsKernelAfter rules start e.over path e.kernel
  kernel_of_edge n e c =
      let w = edge_entry n found.entries e c in
      subst (λ (g : Edge). (g.from ≡ n) × IsKernelAfter rules start g.over path g.kernel) (sym w.2) (refl, moved_kernel w.0.0 w.0.1 (found_at w.0 w.1))
