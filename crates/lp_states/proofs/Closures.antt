-- Closures of items (Knuth 1965).
use Rattle.std.proofs.Common.{◌≡◌, ℕ, zero, suc, ◌⊎◌, List, Option, Some, None, IsSome, refl, sym, ap, ◌∙◌, ⊎_elim, inl, inr, subst}
use Rattle.std.specs.BTreeMap as tree
use Rattle.std.specs.Ordering.{nat_cmp}
use Rattle.std.specs.Option.{option_and_then}
use Rattle.std.proofs.lemmas.Option.{same_Some}
use Rattle.lp_repr.specs.Closure.{HasLeft, InClosure, given as core_given, opened}
use Rattle.lp_repr.specs.declared.numbering.Rule.{Rule}
use Rattle.lp_repr.specs.declared.lr1.Token.{Token}
use Rattle.lp_repr.specs.declared.lr1.Token.TheVariants.{Terminal}
use Rattle.lp_sets.specs.declared.tokens.TokenSet.{TokenSet}
use Rattle.lp_sets.specs.TokenSets.{HasToken, union_of}
use Rattle.lp_sets.proofs.TokenLists.{HasToken-union}
use Rattle.lp_states.specs.Ranges.{left_of}
use Rattle.lp_states.specs.ItemSets.{InLookaheads, given, begun, passed}
use Rattle.lp_states.specs.ItemMaps.{ItemMap, item_cmp, lookaheads_at, Stands, StandsOn, IsClosureOf, asked_at, joined, closed_at}
use Rattle.lp_states.specs.Asking.{AskedMap, Covers, IsSoundItem, IsSoundAsked, IsSpread}
use Rattle.lp_states.proofs.RangeLemmas.{HasLeft-from_left_of, left_of_from_HasLeft}

-- ---- more given, more in the closure
pub InClosure-more : {rules : List Rule} {G H : ℕ → ℕ → Type 0} → ((p d : ℕ) → G p d → H p d) → {p d : ℕ} → InClosure rules G p d → InClosure rules H p d
InClosure-more f (core_given p d g) = core_given p d (f p d g)
InClosure-more f (opened p d n q c e l) = opened p d n q (InClosure-more f c) e l

pub InLookaheads-more : {rules : List Rule} {G H : ℕ → ℕ → Type 0} {On Above : ℕ → ℕ → Token → Type 0} → ((p d : ℕ) → G p d → H p d) → ((p d : ℕ) (t : Token) → On p d t → Above p d t) → {p d : ℕ} {t : Token} → InLookaheads rules G On p d t → InLookaheads rules H Above p d t
InLookaheads-more f o (given p d t g) = given p d t (o p d t g)
InLookaheads-more f o (begun p d n q t c e l b) = begun p d n q t (InClosure-more f c) e l b
InLookaheads-more f o (passed p d n q t i e l w) = passed p d n q t (InLookaheads-more f o i) e l w

-- an item that is not first was given
pub given_behind : {rules : List Rule} {G : ℕ → ℕ → Type 0} {p d : ℕ} → InClosure rules G p (suc d) → G p (suc d)
given_behind (core_given p d g) = g

pub given_behind_on : {rules : List Rule} {G : ℕ → ℕ → Type 0} {On : ℕ → ℕ → Token → Type 0} {p d : ℕ} {t : Token} → InLookaheads rules G On p (suc d) t → On p (suc d) t
given_behind_on (given p d t g) = g

-- ---- two sets joined
pub joined_left : (a : TokenSet) (o : Option TokenSet) → (v : TokenSet) × (joined (Some a) o ≡ Some v) × ((t : Token) → HasToken a t → HasToken v t)
joined_left a None = (a, refl, λ t h. h)
joined_left a (Some b) = (union_of a b, refl, λ t h. (HasToken-union a b t).1 (inl h))

pub joined_right : (o : Option TokenSet) (b : TokenSet) → (v : TokenSet) × (joined o (Some b) ≡ Some v) × ((t : Token) → HasToken b t → HasToken v t)
joined_right None b = (b, refl, λ t h. h)
joined_right (Some a) b = (union_of a b, refl, λ t h. (HasToken-union a b t).1 (inr h))

joined_source : (o q : Option TokenSet) (v : TokenSet) (t : Token) → joined o q ≡ Some v → HasToken v t → ((a : TokenSet) × (o ≡ Some a) × HasToken a t) ⊎ ((b : TokenSet) × (q ≡ Some b) × HasToken b t)
joined_source None None v t e h = cc
joined_source (Some a) None v t e h = inl (a, refl, subst (λ s. HasToken s t) (sym (same_Some a v e)) h)
joined_source None (Some b) v t e h = inr (b, refl, subst (λ s. HasToken s t) (sym (same_Some b v e)) h)
joined_source (Some a) (Some b) v t e h =
    ⊎_elim (λ (x : HasToken a t). inl (a, refl, x)) (λ (x : HasToken b t). inr (b, refl, x)) ((HasToken-union a b t).0 (subst (λ s. HasToken s t) (sym (same_Some (union_of a b) v e)) h))

joined_some : (o q : Option TokenSet) (v : TokenSet) → joined o q ≡ Some v → ((a : TokenSet) × (o ≡ Some a)) ⊎ ((b : TokenSet) × (q ≡ Some b))
joined_some None None v e = cc
joined_some (Some a) q v e = inl (a, refl)
joined_some None (Some b) v e = inr (b, refl)

pub some_of : {X : Type 0} (o : Option X) → IsSome o → (x : X) × (o ≡ Some x)
some_of None h = cc
some_of (Some x) h = (x, refl)

pub is_some_from : {X : Type 0} (o : Option X) (x : X) → o ≡ Some x → IsSome o
is_some_from o x e = rw e refl

-- ---- the closure that was asked for
found_at : (rules : List Rule) (sets : AskedMap) (p : ℕ) (o : Option ℕ) (b : TokenSet) → left_of rules p ≡ o → option_and_then (λ n. tree.get nat_cmp sets n) o ≡ Some b → (n : ℕ) × HasLeft rules p n × (tree.get nat_cmp sets n ≡ Some b)
found_at rules sets p None b e h = cc
found_at rules sets p (Some n) b e h = (n, HasLeft-from_left_of rules p n e, h)

asked_source : (rules : List Rule) (sets : AskedMap) (p d : ℕ) (b : TokenSet) → asked_at rules sets p d ≡ Some b → (n : ℕ) × (d ≡ 0) × HasLeft rules p n × (tree.get nat_cmp sets n ≡ Some b)
asked_source rules sets p zero b h =
    let f = found_at rules sets p (left_of rules p) b refl h in
    (f.0, refl, f.1, f.2)
asked_source rules sets p (suc d) b h = cc

asked_has : (rules : List Rule) (sets : AskedMap) (q n : ℕ) (s : TokenSet) → HasLeft rules q n → tree.get nat_cmp sets n ≡ Some s → asked_at rules sets q 0 ≡ Some s
asked_has rules sets q n s l e =
    ap (option_and_then (λ m. tree.get nat_cmp sets m)) (left_of_from_HasLeft rules q n l) ∙ e

module _ (rules : List Rule) (kernel items : ItemMap) (sets : AskedMap) (covers : (p d : ℕ) (s : TokenSet) → lookaheads_at kernel p d ≡ Some s → Covers rules sets p d s) (spread : (n : ℕ) (s : TokenSet) → tree.get nat_cmp sets n ≡ Some s → IsSpread rules sets n s) (sound : IsSoundAsked rules kernel sets) (are : (p d : ℕ) → lookaheads_at items p d ≡ closed_at rules kernel sets p d) (ordered : tree.IsOrdered item_cmp items) where
  covers_asked : (p d : ℕ) (b : TokenSet) → asked_at rules sets p d ≡ Some b → Covers rules sets p d b
  covers_asked p d b h =
      let f = asked_source rules sets p d b h in
      subst (λ k. Covers rules sets p k b) (sym f.1) (spread f.0 b f.3 p f.2)

  sound_asked : (p d : ℕ) (b : TokenSet) → asked_at rules sets p d ≡ Some b → IsSoundItem rules kernel p d b
  sound_asked p d b h =
      let f = asked_source rules sets p d b h in
      subst (λ k. IsSoundItem rules kernel p k b) (sym f.1) (sound f.0 p b f.3 f.2)

  -- each item that stands was given or asked for, and asks for what is there
  covered : (p d : ℕ) → Stands items p d → (s : TokenSet) × Covers rules sets p d s
  covered p d h =
      let v = some_of (lookaheads_at items p d) h in
      ⊎_elim (λ w. (w.0, covers p d w.0 w.1)) (λ w. (w.0, covers_asked p d w.0 w.1)) (joined_some (lookaheads_at kernel p d) (asked_at rules sets p d) v.0 (sym (are p d) ∙ v.1))

  source : (p d : ℕ) (t : Token) → StandsOn items p d t → (s : TokenSet) × Covers rules sets p d s × HasToken s t
  source p d t h =
      ⊎_elim (λ w. (w.0, covers p d w.0 w.1, w.2)) (λ w. (w.0, covers_asked p d w.0 w.1, w.2)) (joined_source (lookaheads_at kernel p d) (asked_at rules sets p d) h.0 t (sym (are p d) ∙ h.1) h.2)

  -- what is in the map
  stands_given : (p d : ℕ) → Stands kernel p d → Stands items p d
  stands_given p d h =
      let v = some_of (lookaheads_at kernel p d) h in
      let j = joined_left v.0 (asked_at rules sets p d) in
      is_some_from (lookaheads_at items p d) j.0 (are p d ∙ ap (λ (o : Option TokenSet). joined o (asked_at rules sets p d)) v.1 ∙ j.1)

  stands_on_given : (p d : ℕ) (t : Token) → StandsOn kernel p d t → StandsOn items p d t
  stands_on_given p d t h =
      let j = joined_left h.0 (asked_at rules sets p d) in
      (j.0, are p d ∙ ap (λ (o : Option TokenSet). joined o (asked_at rules sets p d)) h.1 ∙ j.1, j.2 t h.2)

  asked_in : (q n : ℕ) (s : TokenSet) → HasLeft rules q n → tree.get nat_cmp sets n ≡ Some s → (v : TokenSet) × (lookaheads_at items q 0 ≡ Some v) × ((t : Token) → HasToken s t → HasToken v t)
  asked_in q n s l e =
      let j = joined_right (lookaheads_at kernel q 0) s in
      (j.0, are q 0 ∙ ap (joined (lookaheads_at kernel q 0)) (asked_has rules sets q n s l e) ∙ j.1, j.2)

  -- sound
  core_sound : (p d : ℕ) → Stands items p d → InClosure rules (Stands kernel) p d
  core_sound p d h =
      let v = some_of (lookaheads_at items p d) h in
      ⊎_elim (λ w. core_given p d (is_some_from (lookaheads_at kernel p d) w.0 w.1)) (λ w. (sound_asked p d w.0 w.1).core) (joined_some (lookaheads_at kernel p d) (asked_at rules sets p d) v.0 (sym (are p d) ∙ v.1))

  lookahead_sound : (p d : ℕ) (t : Token) → StandsOn items p d t → InLookaheads rules (Stands kernel) (StandsOn kernel) p d t
  lookahead_sound p d t h =
      ⊎_elim (λ w. given p d t w) (λ w. (sound_asked p d w.0 w.1).lookaheads t w.2) (joined_source (lookaheads_at kernel p d) (asked_at rules sets p d) h.0 t (sym (are p d) ∙ h.1) h.2)

  -- complete
  core_complete : (p d : ℕ) → InClosure rules (Stands kernel) p d → Stands items p d
  core_complete p d (core_given p' d' g) = stands_given p' d' g
  core_complete q z (opened p d n q' c e l) =
      let s = covered p d (core_complete p d c) in
      let a = s.1 n e in
      let v = asked_in q' n a.0 l a.1 in
      is_some_from (lookaheads_at items q' 0) v.0 v.1

  lookahead_complete : (p d : ℕ) (t : Token) → InLookaheads rules (Stands kernel) (StandsOn kernel) p d t → StandsOn items p d t
  lookahead_complete p d t (given p' d' t' g) = stands_on_given p' d' t' g
  lookahead_complete q z t (begun p d n q' u c e l b) =
      let s = covered p d (core_complete p d c) in
      let a = s.1 n e in
      let v = asked_in q' n a.0 l a.1 in
      (v.0, v.1, v.2 (Terminal u) (a.2 (Terminal u) (inl (u, refl, b))))
  lookahead_complete q z t (passed p d n q' u i e l w) =
      let s = source p d u (lookahead_complete p d u i) in
      let a = s.1 n e in
      let v = asked_in q' n a.0 l a.1 in
      (v.0, v.1, v.2 u (a.2 u (inr (w, s.2))))

  pub IsClosureOf-from_asked : IsClosureOf rules kernel items
  IsClosureOf-from_asked = record {
    ordered = ordered;
    cores = λ p d. (core_sound p d, core_complete p d);
    lookaheads = λ p d t. (lookahead_sound p d t, lookahead_complete p d t);
  }
