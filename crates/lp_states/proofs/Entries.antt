-- The entries of a map of items.
use Rattle.std.proofs.Common.{◌≡◌, ◌≢◌, ℕ, zero, suc, ◌<◌, ◌↔◌, List, [], ◌∷◌, map, Some, None, slice_get, refl, sym, ap, ◌∙◌, ⊎_elim, inl, inr, subst, arith, Contains, AllPairs}
use Rattle.std.specs.BTreeMap as tree
use Rattle.std.specs.List.Sorted.{IsStrictlySortedBy}
use Rattle.std.specs.declared.cmp.Ordering.TheVariants.{Less}
use Rattle.std.proofs.lemmas.Map.Keys.{sorted_head, sorted_tail}
use Rattle.std.proofs.lemmas.Map.Views.{btree_map_get_iff}
use Rattle.std.proofs.lemmas.List.Elements.{All-from_recursion, All-contains}
use Rattle.std.proofs.lemmas.List.Kept.{AllPairs-cons}
use Rattle.std.proofs.lemmas.Option.{same_Some}
use Rattle.lp_repr.specs.Closure.{next_symbol}
use Rattle.lp_repr.specs.declared.numbering.Rule.{Rule}
use Rattle.lp_repr.specs.declared.numbering.SymbolNumber.{SymbolNumber}
use Rattle.lp_repr.specs.declared.lr1.Item.{Item}
use Rattle.lp_repr.specs.declared.lr1.Lr1State.{Lr1State}
use Rattle.lp_repr.specs.declared.lr1.Token.{Token}
use Rattle.lp_sets.specs.declared.tokens.TokenSet.{TokenSet}
use Rattle.lp_sets.specs.TokenSets.{HasToken, ListsTokens}
use Rattle.lp_states.specs.ItemSets.{IsCore, IsLookahead, Reduces, HasConflict}
use Rattle.lp_states.specs.ItemMaps.{ItemMap, item_cmp, lookaheads_at, AreItemsAfter}
use Rattle.lp_states.specs.Actions.{Entry, ShiftsAt, ReducesAt, Shifted, Reduced, ReducedTwice, ActsTwice, ShowsItems}
use Rattle.lp_states.specs.Reductions.{reductions_of}
use Rattle.lp_states.specs.States.{IsItemBefore, ShowsItemsAfter}
use Rattle.lp_states.proofs.Closures.{some_of, is_some_from}
use Rattle.lp_states.proofs.ItemOrder.{item_total, item_exact, item_less, item_apart}
use Rattle.lp_states.proofs.ItemsAfter.{one_dot}
use Rattle.lp_states.proofs.WalkLemmas.{place_of, contained_at}
use Rattle.lp_states.proofs.WalkSteps.{head_in, tail_in, in_cases, All-from_contained}

-- ---- entries with a property
pub Shifted-contains : (rules : List Rule) (es : List Entry) (t : Token) → Shifted rules es t → (e : Entry) × Contains es e × ShiftsAt rules e t
Shifted-contains rules [] t h = absurd h
Shifted-contains rules (e ∷ es) t h =
    ⊎_elim (λ (a : ShiftsAt rules e t). (e, head_in e es, a)) (λ (b : Shifted rules es t). let w = Shifted-contains rules es t b in (w.0, tail_in e es w.0 w.1, w.2)) h

pub Shifted-from : (rules : List Rule) (es : List Entry) (t : Token) (e : Entry) → Contains es e → ShiftsAt rules e t → Shifted rules es t
Shifted-from rules [] t e c a = absurd (omega (arith, c.1))
Shifted-from rules (f ∷ es) t e c a =
    ⊎_elim (λ (s : f ≡ e). inl (subst (λ (g : Entry). ShiftsAt rules g t) (sym s) a)) (λ (d : Contains es e). inr (Shifted-from rules es t e d a)) (in_cases f es e c)

pub Reduced-contains : (rules : List Rule) (es : List Entry) (t : Token) → Reduced rules es t → (e : Entry) × Contains es e × ReducesAt rules e t
Reduced-contains rules [] t h = absurd h
Reduced-contains rules (e ∷ es) t h =
    ⊎_elim (λ (a : ReducesAt rules e t). (e, head_in e es, a)) (λ (b : Reduced rules es t). let w = Reduced-contains rules es t b in (w.0, tail_in e es w.0 w.1, w.2)) h

pub Reduced-from : (rules : List Rule) (es : List Entry) (t : Token) (e : Entry) → Contains es e → ReducesAt rules e t → Reduced rules es t
Reduced-from rules [] t e c a = absurd (omega (arith, c.1))
Reduced-from rules (f ∷ es) t e c a =
    ⊎_elim (λ (s : f ≡ e). inl (subst (λ (g : Entry). ReducesAt rules g t) (sym s) a)) (λ (d : Contains es e). inr (Reduced-from rules es t e d a)) (in_cases f es e c)

key_in : (es : List Entry) (f : Entry) → Contains es f → Contains (map (λ (g : Entry). g.0) es) f.0
key_in [] f c = absurd (omega (arith, c.1))
key_in (e ∷ es) f c =
    ⊎_elim (λ (s : e ≡ f). subst (λ (g : Entry). Contains (map (λ (h : Entry). h.0) (e ∷ es)) g.0) s (head_in e.0 (map (λ (h : Entry). h.0) es))) (λ (d : Contains es f). tail_in e.0 (map (λ (h : Entry). h.0) es) f.0 (key_in es f d)) (in_cases e es f c)

-- the first of entries in order is before the others
first_before : (e : Entry) (es : List Entry) → IsStrictlySortedBy item_cmp (map (λ (f : Entry). f.0) (e ∷ es)) → (f : Entry) → Contains es f → item_cmp e.0 f.0 ≡ Less
first_before e es s f c =
    All-contains (λ k. item_cmp e.0 k ≡ Less) (map (λ (g : Entry). g.0) es) f.0 (All-from_recursion (λ k. item_cmp e.0 k ≡ Less) (map (λ (g : Entry). g.0) es) (sorted_head item_cmp e.0 (map (λ (g : Entry). g.0) es) s)) (key_in es f c)

later_sorted : (e : Entry) (es : List Entry) → IsStrictlySortedBy item_cmp (map (λ (f : Entry). f.0) (e ∷ es)) → IsStrictlySortedBy item_cmp (map (λ (f : Entry). f.0) es)
later_sorted e es s = sorted_tail item_cmp e.0 (map (λ (f : Entry). f.0) es) s

pub ReducedTwice-contains : (rules : List Rule) (es : List Entry) (t : Token) → IsStrictlySortedBy item_cmp (map (λ (f : Entry). f.0) es) → ReducedTwice rules es t → (e : Entry) × (f : Entry) × (e.0 ≢ f.0) × Contains es e × Contains es f × ReducesAt rules e t × ReducesAt rules f t
ReducedTwice-contains rules [] t s h = absurd h
ReducedTwice-contains rules (e ∷ es) t s h =
    ⊎_elim (λ a. let w = Reduced-contains rules es t a.1 in (e, w.0, item_apart e.0 w.0.0 (first_before e es s w.0 w.1), head_in e es, tail_in e es w.0 w.1, a.0, w.2)) (λ (b : ReducedTwice rules es t). let w = ReducedTwice-contains rules es t (later_sorted e es s) b in (w.0, w.1, w.2, tail_in e es w.0 w.3, tail_in e es w.1 w.4, w.5, w.6)) h

pub ReducedTwice-from : (rules : List Rule) (es : List Entry) (t : Token) (e f : Entry) → e.0 ≢ f.0 → Contains es e → Contains es f → ReducesAt rules e t → ReducesAt rules f t → ReducedTwice rules es t
ReducedTwice-from rules [] t e f d c k a b = absurd (omega (arith, c.1))
ReducedTwice-from rules (g ∷ es) t e f d c k a b =
    ⊎_elim (λ (s : g ≡ e). ⊎_elim (λ (u : g ≡ f). absurd (d (ap (λ (h : Entry). h.0) (sym s ∙ u)))) (λ (v : Contains es f). inl (subst (λ (h : Entry). ReducesAt rules h t) (sym s) a, Reduced-from rules es t f v b)) (in_cases g es f k)) (λ (w : Contains es e). ⊎_elim (λ (u : g ≡ f). inl (subst (λ (h : Entry). ReducesAt rules h t) (sym u) b, Reduced-from rules es t e w a)) (λ (v : Contains es f). inr (ReducedTwice-from rules es t e f d w v a b)) (in_cases g es f k)) (in_cases g es e c)

-- ---- entries and how they are shown
abbrev Shown : Entry → Item → Type 0
Shown e i = (i.production ≡ e.0.0) × (i.index ≡ e.0.1) × ListsTokens e.1 i.lookahead

shown_at : (es : List Entry) (is : List Item) → ShowsItems es is → (k : ℕ) (e : Entry) → slice_get es k ≡ Some e → (i : Item) × (slice_get is k ≡ Some i) × Shown e i
shown_at [] is h k e g = cc
shown_at (f ∷ es) [] h k e g = absurd h
shown_at (f ∷ es) (i ∷ is) h zero e g = (i, refl, subst (λ (x : Entry). Shown x i) (same_Some f e g) h.0)
shown_at (f ∷ es) (i ∷ is) h (suc k) e g = shown_at es is h.1 k e g

shown_back : (es : List Entry) (is : List Item) → ShowsItems es is → (k : ℕ) (i : Item) → slice_get is k ≡ Some i → (e : Entry) × (slice_get es k ≡ Some e) × Shown e i
shown_back es [] h k i g = cc
shown_back [] (j ∷ is) h k i g = absurd h
shown_back (f ∷ es) (j ∷ is) h zero i g = (f, refl, subst (λ (x : Item). Shown f x) (same_Some j i g) h.0)
shown_back (f ∷ es) (j ∷ is) h (suc k) i g = shown_back es is h.1 k i g

shown_before : (e f : Entry) (i j : Item) → Shown e i → Shown f j → item_cmp e.0 f.0 ≡ Less → IsItemBefore i j
shown_before e f i j a b l =
    ⊎_elim (λ (x : e.0.0 < f.0.0). inl (omega (arith, a.0, b.0))) (λ x. inr (a.0 ∙ x.0 ∙ sym b.0, omega (arith, a.1, b.1, x.1))) (item_less e.0 f.0 l)

shown_ordered : (es : List Entry) (is : List Item) → IsStrictlySortedBy item_cmp (map (λ (f : Entry). f.0) es) → ShowsItems es is → AllPairs IsItemBefore is
shown_ordered es [] s h = λ a b d l k. absurd (omega (arith, k))
shown_ordered [] (i ∷ is) s h = absurd h
shown_ordered (e ∷ es) (i ∷ is) s h =
    AllPairs-cons IsItemBefore i is (All-from_contained (IsItemBefore i) is (λ j c. let at = place_of is j c in let w = shown_back es is h.1 at.0 j at.1 in shown_before e w.0 i j h.0 w.2 (first_before e es s w.0 (contained_at es at.0 w.0 w.1)))) (shown_ordered es is (later_sorted e es s) h.1)

-- ---- the actions after a path
module _ (rules : List Rule) (start : ℕ) (path : List SymbolNumber) (items : ItemMap) (ordered : tree.IsOrdered item_cmp items) (are : AreItemsAfter rules start path items) where
  entry_at : (e : Entry) → Contains items.entries e → lookaheads_at items e.0.0 e.0.1 ≡ Some e.1
  entry_at e c = (btree_map_get_iff item_total item_exact items ordered e.0 e.1).1 c

  pub entry_stands : (e : Entry) → Contains items.entries e → IsCore rules start path e.0.0 e.0.1
  entry_stands e c = (are.cores e.0.0 e.0.1).0 (is_some_from (lookaheads_at items e.0.0 e.0.1) e.1 (entry_at e c))

  pub entry_on : (e : Entry) (t : Token) → Contains items.entries e → HasToken e.1 t → IsLookahead rules start path e.0.0 e.0.1 t
  entry_on e t c m = (are.lookaheads e.0.0 e.0.1 t).0 (e.1, entry_at e c, m)

  pub on_entry : (e : Entry) (t : Token) → Contains items.entries e → IsLookahead rules start path e.0.0 e.0.1 t → HasToken e.1 t
  on_entry e t c h =
      let w = (are.lookaheads e.0.0 e.0.1 t).1 h in
      subst (λ s. HasToken s t) (same_Some w.0 e.1 (sym w.1 ∙ entry_at e c)) w.2

  pub core_entry : (p d : ℕ) → IsCore rules start path p d → (s : TokenSet) × Contains items.entries ((p, d), s)
  core_entry p d h =
      let v = some_of (lookaheads_at items p d) ((are.cores p d).1 h) in
      (v.0, (btree_map_get_iff item_total item_exact items ordered (p, d) v.0).0 v.1)

  lookahead_entry : (p d : ℕ) (t : Token) → IsLookahead rules start path p d t → (s : TokenSet) × Contains items.entries ((p, d), s) × HasToken s t
  lookahead_entry p d t h =
      let w = (are.lookaheads p d t).1 h in
      (w.0, (btree_map_get_iff item_total item_exact items ordered (p, d) w.0).0 w.1, w.2)

  reduces_at : (e : Entry) (t : Token) → Contains items.entries e → ReducesAt rules e t → Reduces rules start path e.0.0 t
  reduces_at e t c a = (e.0.1, entry_on e t c a.1, a.0)

  same_entry : (e f : Entry) → Contains items.entries e → Contains items.entries f → next_symbol rules e.0.0 e.0.1 ≡ None → next_symbol rules f.0.0 f.0.1 ≡ None → e.0.0 ≡ f.0.0 → e.0 ≡ f.0
  same_entry e f c d a b same =
      let dots : e.0.1 ≡ f.0.1 = one_dot rules start path e.0.0 e.0.1 f.0.1 (entry_stands e c) (subst (λ p. IsCore rules start path p f.0.1) (sym same) (entry_stands f d)) a (ap (λ (p : ℕ). next_symbol rules p f.0.1) same ∙ b) in
      let g : ℕ × ℕ = (f.0.0, e.0.1) in
      let x : e.0 ≡ g = ap (λ (p : ℕ). let r : ℕ × ℕ = (p, e.0.1) in r) same in
      let y : g ≡ f.0 = ap (λ (q : ℕ). let r : ℕ × ℕ = (f.0.0, q) in r) dots in
      x ∙ y

  pub conflict_from_twice : (t : Token) → ActsTwice rules items.entries t → HasConflict rules start path t
  conflict_from_twice t h =
      ⊎_elim (λ a. let v = Shifted-contains rules items.entries t a.0 in let w = Reduced-contains rules items.entries t a.1 in inl (v.2.0, w.0.0.0, v.2.1, (v.0.0.0, v.0.0.1, entry_stands v.0 v.1, v.2.2), reduces_at w.0 t w.1 w.2)) (λ b. let w = ReducedTwice-contains rules items.entries t ordered b in inr (w.0.0.0, w.1.0.0, (λ e. w.2 (same_entry w.0 w.1 w.3 w.4 w.5.0 w.6.0 e)), reduces_at w.0 t w.3 w.5, reduces_at w.1 t w.4 w.6)) h

  pub twice_from_conflict : (t : Token) → HasConflict rules start path t → ActsTwice rules items.entries t
  twice_from_conflict t h =
      ⊎_elim (λ a. let s = a.3 in let r = a.4 in let v = core_entry s.0 s.1 s.2 in let w = lookahead_entry a.1 r.0 t r.1 in inl (Shifted-from rules items.entries t ((s.0, s.1), v.0) v.1 (a.0, a.2, s.3), Reduced-from rules items.entries t ((a.1, r.0), w.0) w.1 (r.2, w.2))) (λ b. let r = b.3 in let s = b.4 in let v = lookahead_entry b.0 r.0 t r.1 in let w = lookahead_entry b.1 s.0 t s.1 in inr (ReducedTwice-from rules items.entries t ((b.0, r.0), v.0) ((b.1, s.0), w.0) (λ e. b.2 (ap (λ (p : ℕ × ℕ). p.0) e)) v.1 w.1 (r.2, v.2) (s.2, w.2))) h

  core_of : (p d : ℕ) (e : Entry) (i : Item) → Contains items.entries e → Shown e i → i.production ≡ p → i.index ≡ d → IsCore rules start path p d
  core_of p d e i c h a b =
      subst (λ q. IsCore rules start path q d) (sym h.0 ∙ a) (subst (λ q. IsCore rules start path e.0.0 q) (sym h.1 ∙ b) (entry_stands e c))

  here_is : (e : Entry) (i : Item) (t : Token) → Shown e i → IsLookahead rules start path e.0.0 e.0.1 t → IsLookahead rules start path i.production i.index t
  here_is e i t h l =
      subst (λ q. IsLookahead rules start path q i.index t) (sym h.0) (subst (λ q. IsLookahead rules start path e.0.0 q t) (sym h.1) l)

  there_is : (e : Entry) (i : Item) (t : Token) → Shown e i → IsLookahead rules start path i.production i.index t → IsLookahead rules start path e.0.0 e.0.1 t
  there_is e i t h l =
      subst (λ q. IsLookahead rules start path q e.0.1 t) h.0 (subst (λ q. IsLookahead rules start path i.production q t) h.1 l)

  lookahead_of : (e : Entry) (i : Item) (t : Token) → Contains items.entries e → Shown e i → Contains i.lookahead t ↔ IsLookahead rules start path i.production i.index t
  lookahead_of e i t c h =
      (λ k. here_is e i t h (entry_on e t c (((h.2).exact t).0 k)), λ l. ((h.2).exact t).1 (on_entry e t c (there_is e i t h l)))

  -- ---- the state that shows the entries
  module _ (s : Lr1State) (shows : ShowsItems items.entries s.items) (reduced : s.reductions ≡ reductions_of rules s.items) where
    pub shows_items : ShowsItemsAfter rules start path s
    shows_items = record {
      ordered = shown_ordered items.entries s.items ordered shows;
      cores = λ p d. (λ h. let w = shown_back items.entries s.items shows h.0 h.1 h.2 in core_of p d w.0 h.1 (contained_at items.entries h.0 w.0 w.1) w.2 h.3 h.4, λ c. let e = core_entry p d c in let at = place_of items.entries ((p, d), e.0) e.1 in let w = shown_at items.entries s.items shows at.0 ((p, d), e.0) at.1 in (at.0, w.0, w.1, w.2.0, w.2.1));
      tokens_ordered = λ i c. let at = place_of s.items i c in let w = shown_back items.entries s.items shows at.0 i at.1 in (w.2.2).ordered;
      lookaheads = λ i t c. let at = place_of s.items i c in let w = shown_back items.entries s.items shows at.0 i at.1 in lookahead_of w.0 i t (contained_at items.entries at.0 w.0 w.1) w.2;
      reductions = reduced;
    }
