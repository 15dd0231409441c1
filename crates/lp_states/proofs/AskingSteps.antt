-- What the items of a kernel and the productions of a nonterminal ask for, one by one.
use Rattle.std.proofs.Common.{◌≡◌, ℕ, ◌+◌, ◌<◌, ◌≤◌, ◌⊎◌, List, [], ◌∷◌, Some, None, sym, ap, ◌∙◌, ⊎_elim, inl, inr, subst, arith, Contains}
use Rattle.std.specs.BTreeMap as tree
use Rattle.std.specs.Ordering.{nat_cmp}
use Rattle.std.proofs.lemmas.Bool.{cases_lt}
use Rattle.std.proofs.lemmas.Map.Views.{btree_map_get_iff}
use Rattle.std.proofs.lemmas.Option.{none-some}
use Rattle.lp_repr.specs.Closure.{next_symbol, HasLeft, given as core_given}
use Rattle.lp_repr.specs.declared.numbering.Rule.{Rule}
use Rattle.lp_repr.specs.declared.numbering.SymbolNumber.TheVariants as symbol
use Rattle.lp_repr.specs.declared.lr1.Token.{Token}
use Rattle.lp_sets.specs.declared.tokens.TokenSet.{TokenSet}
use Rattle.lp_sets.specs.TokenSets.{HasToken}
use Rattle.lp_states.specs.ItemSets.{given}
use Rattle.lp_states.specs.ItemMaps.{ItemMap, item_cmp, lookaheads_at}
use Rattle.lp_states.specs.Actions.{Entry}
use Rattle.lp_states.specs.Asking.{AskedMap, MayFollow, AsksFor, Covers, IsSoundItem, IsSoundAsked, IsSpread, Widens, IsSpreadOrWork}
use Rattle.lp_states.proofs.AskingLemmas.{covers_more}
use Rattle.lp_states.proofs.Closures.{is_some_from}
use Rattle.lp_states.proofs.ItemOrder.{item_total, item_exact}
use Rattle.lp_states.proofs.WalkSteps.{in_cases}

-- an item of the kernel stands in its closure
pub sound_given : (rules : List Rule) (kernel : ItemMap) (p d : ℕ) (s : TokenSet) → lookaheads_at kernel p d ≡ Some s → IsSoundItem rules kernel p d s
sound_given rules kernel p d s at = record {
  core = core_given p d (is_some_from (lookaheads_at kernel p d) s at);
  lookaheads = λ t h. given p d t (s, at, h);
}

-- what an item asks for was asked
pub covers_asked : (rules : List Rule) (sets : AskedMap) (p d n : ℕ) (s f : TokenSet) → next_symbol rules p d ≡ Some (symbol.Nonterminal n) → ((t : Token) → MayFollow rules p d s t → HasToken f t) → AsksFor sets n (HasToken f) → Covers rules sets p d s
covers_asked rules sets p d n s f next all a m e =
    let x : Some (symbol.Nonterminal n) ≡ Some (symbol.Nonterminal m) = sym next ∙ e in
    let same : n ≡ m = cc in
    (a.0, ap (tree.get nat_cmp sets) (sym same) ∙ a.1, λ t h. a.2 t (all t h))

pub covers_nothing : (rules : List Rule) (sets : AskedMap) (p d : ℕ) (s : TokenSet) → ((n : ℕ) → next_symbol rules p d ≡ Some (symbol.Nonterminal n) → ⊥) → Covers rules sets p d s
covers_nothing rules sets p d s none m e = absurd (none m e)

module _ (rules : List Rule) where
  pub spread_widened : (old new : AskedMap) (work more : List ℕ) → IsSpreadOrWork rules old work → Widens old work new more → IsSpreadOrWork rules new more
  spread_widened old new work more before widens n s e =
      ⊎_elim (λ (x : tree.get nat_cmp old n ≡ Some s). ⊎_elim (λ (y : IsSpread rules old n s). inl (λ q l. covers_more rules old new widens.grows q 0 s (y q l))) (λ (y : Contains work n). inr (widens.kept n y)) (before n s x)) (λ (x : Contains more n). inr x) (widens.changed n s e)

  pub spread_none : (sets : AskedMap) (work : List ℕ) → ((n : ℕ) → tree.get nat_cmp sets n ≡ None) → IsSpreadOrWork rules sets work
  spread_none sets work none n s e = absurd (none-some s (sym (none n) ∙ e))

  pub spread_all : (sets : AskedMap) → IsSpreadOrWork rules sets [] → (n : ℕ) (s : TokenSet) → tree.get nat_cmp sets n ≡ Some s → IsSpread rules sets n s
  spread_all sets h n s e = ⊎_elim (λ (x : IsSpread rules sets n s). x) (λ (c : Contains [] n). absurd (omega (arith, c.1))) (h n s e)

  module _ (kernel : ItemMap) where
    pub sound_none : (sets : AskedMap) → ((n : ℕ) → tree.get nat_cmp sets n ≡ None) → IsSoundAsked rules kernel sets
    sound_none sets none n q s e l = absurd (none-some s (sym (none n) ∙ e))

    -- the kernel's items so far ask for what is there, where some are left
    pub record KernelAsked (left : List Entry) (sets : AskedMap) (queue : List ℕ) : Type 0 where
      pub covers : (p d : ℕ) (s : TokenSet) → lookaheads_at kernel p d ≡ Some s → Contains left ((p, d), s) ⊎ Covers rules sets p d s
      pub work : IsSpreadOrWork rules sets queue
      pub sound : IsSoundAsked rules kernel sets

    pub kernel_none : (sets : AskedMap) (work : List ℕ) → tree.IsOrdered item_cmp kernel → ((n : ℕ) → tree.get nat_cmp sets n ≡ None) → KernelAsked kernel.entries sets work
    kernel_none sets work ordered none = record {
      covers = λ p d s at. inl ((btree_map_get_iff item_total item_exact kernel ordered (p, d) s).0 at);
      work = spread_none sets work none;
      sound = sound_none sets none;
    }

    pub kernel_more : (p d : ℕ) (s : TokenSet) (left : List Entry) (old new : AskedMap) (work more : List ℕ) → lookaheads_at kernel p d ≡ Some s → KernelAsked (((p, d), s) ∷ left) old work → Widens old work new more → Covers rules new p d s → (IsSoundItem rules kernel p d s → IsSoundAsked rules kernel old → IsSoundAsked rules kernel new) → KernelAsked left new more
    kernel_more p d s left old new work more at so_far widens covers sound = record {
      covers = λ q e r h. ⊎_elim (λ (c : Contains (((p, d), s) ∷ left) ((q, e), r)). ⊎_elim (λ (x : ((p, d), s) ≡ ((q, e), r)). inr (subst (λ (y : Entry). Covers rules new y.0.0 y.0.1 y.1) x covers)) (λ (x : Contains left ((q, e), r)). inl x) (in_cases ((p, d), s) left ((q, e), r) c)) (λ (x : Covers rules old q e r). inr (covers_more rules old new widens.grows q e r x)) (so_far.covers q e r h);
      work = spread_widened old new work more so_far.work widens;
      sound = sound (sound_given rules kernel p d s at) so_far.sound;
    }

    pub kernel_covered : (sets : AskedMap) (work : List ℕ) → KernelAsked [] sets work → (p d : ℕ) (s : TokenSet) → lookaheads_at kernel p d ≡ Some s → Covers rules sets p d s
    kernel_covered sets work h p d s at =
        ⊎_elim (λ (c : Contains [] ((p, d), s)). absurd (omega (arith, c.1))) (λ (x : Covers rules sets p d s). x) (h.covers p d s at)

-- the productions of a nonterminal below a number are covered
pub covered_more : (rules : List Rule) (old new : AskedMap) (n k : ℕ) (s : TokenSet) → ((m : ℕ) (r : TokenSet) → tree.get nat_cmp old m ≡ Some r → AsksFor new m (HasToken r)) → ((q : ℕ) → q < k → HasLeft rules q n → Covers rules old q 0 s) → Covers rules new k 0 s → (q : ℕ) → q < k + 1 → HasLeft rules q n → Covers rules new q 0 s
covered_more rules old new n k s grows before here q l h =
    ⊎_elim (λ (b : q < k). covers_more rules old new grows q 0 s (before q b h)) (λ (b : k ≤ q). let e : k ≡ q = omega arith in subst (λ m. Covers rules new m 0 s) e here) (cases_lt q k)

-- what the kernel asks for stays asked for
pub covered_grown : (rules : List Rule) (kernel : ItemMap) (old new : AskedMap) → ((n : ℕ) (s : TokenSet) → tree.get nat_cmp old n ≡ Some s → AsksFor new n (HasToken s)) → ((p d : ℕ) (s : TokenSet) → lookaheads_at kernel p d ≡ Some s → Covers rules old p d s) → (p d : ℕ) (s : TokenSet) → lookaheads_at kernel p d ≡ Some s → Covers rules new p d s
covered_grown rules kernel old new grows covers p d s at = covers_more rules old new grows p d s (covers p d s at)
