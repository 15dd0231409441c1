-- The steps of a breadth-first walk.
use Rattle.std.proofs.Common.{◌≡◌, ℕ, zero, suc, ◌<◌, ◌⊎◌, List, [], ◌∷◌, ◌++◌, length, get_or, Option, Some, None, slice_get, refl, sym, ap, ◌∙◌, ⊎_elim, inl, inr, subst, arith, AllPairs, Contains}
use Rattle.std.proofs.lemmas.Option.{same_Some, none-some, slice_get_within, slice_get-get_or}
use Rattle.std.proofs.lemmas.List.Elements.{Contains-append_left, Contains-append_right, Contains-append_cases, Contains-push_cases, All-weaker, All-contains_itself}
use Rattle.std.proofs.lemmas.List.Kept.{AllPairs-cons}
use Rattle.std.proofs.lemmas.List.Quantifiers.{all_pairs_push}
use Rattle.std.specs.List.{All}
use Rattle.lp_repr.specs.declared.numbering.SymbolNumber.{SymbolNumber}
use Rattle.lp_repr.specs.declared.numbering.Rule.{Rule}
use Rattle.lp_states.specs.Paths.{IsEarlier, IsViable, LeadAlike, IsFirstPath, AreFirstPaths}
use Rattle.lp_states.specs.Walks.{EdgeBefore, IsNumbered, IsReached, IsEdge, IsWalk, IsNoted}
use Rattle.lp_states.proofs.PathOrder.{earlier_trans, earlier_longer, none_earlier}
use Rattle.lp_states.proofs.LeadingAlike.{alike_itself, alike_back, alike_both, viable_alike}
use Rattle.lp_states.proofs.WalkLemmas.{covered, numbered_first, first_numbered, place_of}

-- ---- lists
pub push_old : {X : Type 0} (xs : List X) (y : X) (k : ℕ) (w : X) → slice_get xs k ≡ Some w → slice_get (xs ++ y ∷ []) k ≡ Some w
push_old [] y k w h = cc
push_old (x ∷ xs) y zero w h = h
push_old (x ∷ xs) y (suc k) w h = push_old xs y k w h

pub push_new : {X : Type 0} (xs : List X) (y : X) → slice_get (xs ++ y ∷ []) (length xs) ≡ Some y
push_new [] y = refl
push_new (x ∷ xs) y = push_new xs y

pub push_cases : {X : Type 0} (xs : List X) (y : X) (k : ℕ) (w : X) → slice_get (xs ++ y ∷ []) k ≡ Some w → (slice_get xs k ≡ Some w) ⊎ ((k ≡ length xs) × (w ≡ y))
push_cases [] y zero w h = inr (refl, sym (same_Some y w h))
push_cases [] y (suc k) w h = cc
push_cases (x ∷ xs) y zero w h = inl h
push_cases (x ∷ xs) y (suc k) w h =
    ⊎_elim (λ (a : slice_get xs k ≡ Some w). inl a) (λ a. inr (ap suc a.0, a.1)) (push_cases xs y k w h)

pub head_in : {X : Type 0} (x : X) (xs : List X) → Contains (x ∷ xs) x
head_in x xs = (0, omega arith, refl)

pub tail_in : {X : Type 0} (x : X) (xs : List X) (y : X) → Contains xs y → Contains (x ∷ xs) y
tail_in x xs y c = (suc c.0, (let l : c.0 < length xs = c.1 in omega arith), c.2)

in_at : {X : Type 0} (x : X) (xs : List X) (y : X) (k : ℕ) → k < length (x ∷ xs) → get_or (x ∷ xs) k y ≡ y → (x ≡ y) ⊎ Contains xs y
in_at x xs y zero l e = inl e
in_at x xs y (suc k) l e = inr (k, omega arith, e)

pub in_cases : {X : Type 0} (x : X) (xs : List X) (y : X) → Contains (x ∷ xs) y → (x ≡ y) ⊎ Contains xs y
in_cases x xs y c = in_at x xs y c.0 c.1 c.2

pub pairs_tail : {X : Type 0} (R : X → X → Type 0) (x : X) (xs : List X) → AllPairs R (x ∷ xs) → AllPairs R xs
pairs_tail R x xs h i j d l k = h (suc i) (suc j) d (omega arith) (omega arith)

pub pairs_head : {X : Type 0} (R : X → X → Type 0) (x : X) (xs : List X) → AllPairs R (x ∷ xs) → (y : X) → Contains xs y → R x y
pairs_head R x xs h y c =
    let l : c.0 < length xs = c.1 in
    subst (λ z. R x z) c.2 (h 0 (suc c.0) y (omega arith) (omega arith))

pub All-from_contained : {X : Type 0} (P : X → Type 0) (xs : List X) → ((y : X) → Contains xs y → P y) → All P xs
All-from_contained P xs h = All-weaker (Contains xs) P h xs (All-contains_itself xs)

pub pairs_append : {X : Type 0} (R : X → X → Type 0) (xs ys : List X) → AllPairs R xs → AllPairs R ys → ((x y : X) → Contains xs x → Contains ys y → R x y) → AllPairs R (xs ++ ys)
pairs_append R [] ys h g both = g
pairs_append R (x ∷ xs) ys h g both =
    AllPairs-cons R x (xs ++ ys) (All-from_contained (R x) (xs ++ ys) (λ y c. ⊎_elim (pairs_head R x xs h y) (λ (b : Contains ys y). both x y (head_in x xs) b) (Contains-append_cases xs ys y c))) (pairs_append R xs ys (pairs_tail R x xs h) g (λ a b c d. both a b (tail_in x xs a c) d))

module _ (rules : List Rule) (start : ℕ) (paths : List (List SymbolNumber)) (targets : ℕ → SymbolNumber → Option ℕ) (i : ℕ) (x : SymbolNumber) (rest : List (ℕ × SymbolNumber)) (walk : IsWalk rules start paths targets ((i, x) ∷ rest)) (u : List SymbolNumber) (at : slice_get paths i ≡ Some u) where
  pub viable_next : IsViable rules start (x ∷ u)
  viable_next =
      let e = walk.edges (i, x) (head_in (i, x) rest) in
      subst (λ t. IsViable rules start (x ∷ t)) (same_Some e.0 u (sym e.1 ∙ at)) e.2

  before_next : (k : ℕ) (w : List SymbolNumber) → slice_get paths k ≡ Some w → IsEarlier w (x ∷ u)
  before_next k w g = walk.behind (i, x) u k w (head_in (i, x) rest) at g

  -- the edges behind the first lead further
  next_before : (e : ℕ × SymbolNumber) (t : List SymbolNumber) → Contains rest e → slice_get paths e.0 ≡ Some t → IsEarlier (x ∷ u) (e.1 ∷ t)
  next_before e t c g =
      ⊎_elim (λ (l : i < e.0). inl (walk.ordered i e.0 u t l at g)) (λ h. inr (same_Some u t (sym at ∙ ap (slice_get paths) h.0 ∙ g), h.1)) (pairs_head EdgeBefore (i, x) rest walk.edges_ordered e c)

  next_is : (e : ℕ × SymbolNumber) (t : List SymbolNumber) → (i, x) ≡ e → slice_get paths e.0 ≡ Some t → x ∷ u ≡ e.1 ∷ t
  next_is e t same g =
      let v : u ≡ t = same_Some u t (sym at ∙ ap (λ (f : ℕ × SymbolNumber). slice_get paths f.0) same ∙ g) in
      ap (λ (f : ℕ × SymbolNumber). f.1 ∷ u) same ∙ ap (λ (s : List SymbolNumber). e.1 ∷ s) v

  -- what is before the next path is before all edges
  before_all : (z : List SymbolNumber) → IsEarlier z (x ∷ u) → (e : ℕ × SymbolNumber) (t : List SymbolNumber) → Contains ((i, x) ∷ rest) e → slice_get paths e.0 ≡ Some t → IsEarlier z (e.1 ∷ t)
  before_all z l e t c g =
      ⊎_elim (λ (same : (i, x) ≡ e). subst (λ s. IsEarlier z s) (next_is e t same g) l) (λ (r : Contains rest e). earlier_trans z (x ∷ u) (e.1 ∷ t) l (next_before e t r g)) (in_cases (i, x) rest e c)

  -- ---- the edge leads to what was numbered
  module _ (new : ℕ → SymbolNumber → Option ℕ) (j : ℕ) (noted : IsNoted targets new i x j) (w : List SymbolNumber) (found : slice_get paths j ≡ Some w) (alike : LeadAlike rules start w (x ∷ u)) where
    reached_next : (k : ℕ) (y : SymbolNumber) (v : List SymbolNumber) → k ≡ i → y ≡ x → slice_get paths k ≡ Some v → (n : ℕ) × (new k y ≡ Some n) × IsReached rules start paths (y ∷ v) n
    reached_next k y v e f g =
        let same : v ≡ u = same_Some v u (sym g ∙ ap (slice_get paths) e ∙ at) in
        let path : x ∷ u ≡ y ∷ v = ap (λ (z : SymbolNumber). z ∷ u) (sym f) ∙ ap (λ (s : List SymbolNumber). y ∷ s) (sym same) in
        (j, ap (λ (m : ℕ). new m y) e ∙ ap (new i) f ∙ noted.0, subst (λ s. IsReached rules start paths s j) path (w, found, alike, inl (before_next j w found)))

    followed_found : (k : ℕ) (y : SymbolNumber) (v : List SymbolNumber) → slice_get paths k ≡ Some v → IsViable rules start (y ∷ v) → Contains rest (k, y) ⊎ ((n : ℕ) × (new k y ≡ Some n) × IsReached rules start paths (y ∷ v) n)
    followed_found k y v g ok =
        ⊎_elim (λ (c : Contains ((i, x) ∷ rest) (k, y)). ⊎_elim (λ (same : (i, x) ≡ (k, y)). inr (reached_next k y v (ap (λ (f : ℕ × SymbolNumber). f.0) (sym same)) (ap (λ (f : ℕ × SymbolNumber). f.1) (sym same)) g)) (λ (r : Contains rest (k, y)). inl r) (in_cases (i, x) rest (k, y) c)) (λ t. ⊎_elim (λ s. inr (reached_next k y v s.0 s.1 g)) (λ (s : new k y ≡ targets k y). inr (t.0, s ∙ t.1, t.2)) (noted.1 k y)) (walk.followed k y v g ok)

    lead_found : (k : ℕ) (y : SymbolNumber) (n : ℕ) → new k y ≡ Some n → (v : List SymbolNumber) × (slice_get paths k ≡ Some v) × IsViable rules start (y ∷ v) × IsNumbered rules start paths (y ∷ v) n
    lead_found k y n e =
        ⊎_elim (λ s. let is : n ≡ j = same_Some n j (sym e ∙ ap (λ (m : ℕ). new m y) s.0 ∙ ap (new i) s.1 ∙ noted.0) in (u, ap (slice_get paths) s.0 ∙ at, subst (λ z. IsViable rules start (z ∷ u)) (sym s.1) viable_next, subst (λ m. IsNumbered rules start paths (y ∷ u) m) (sym is) (w, found, subst (λ z. LeadAlike rules start w (z ∷ u)) (sym s.1) alike))) (λ (s : new k y ≡ targets k y). walk.targets_lead k y n (sym s ∙ e)) (noted.1 k y)

    pub walk_found : IsWalk rules start paths new rest
    walk_found = record {
      begins = walk.begins;
      viable = walk.viable;
      ordered = walk.ordered;
      apart = walk.apart;
      edges = λ e c. walk.edges e (tail_in (i, x) rest e c);
      edges_ordered = pairs_tail EdgeBefore (i, x) rest walk.edges_ordered;
      behind = λ e t k v c g f. walk.behind e t k v (tail_in (i, x) rest e c) g f;
      followed = followed_found;
      targets_lead = lead_found;
    }

  -- ---- the edge leads to other items than all that were numbered
  module _ (absent : (j : ℕ) (w : List SymbolNumber) → slice_get paths j ≡ Some w → LeadAlike rules start w (x ∷ u) → ⊥) where
    next_first : IsFirstPath rules start (x ∷ u)
    next_first = record {
      viable = viable_next;
      first = λ v earlier alike. let r = covered rules start paths targets ((i, x) ∷ rest) walk v (viable_alike rules start (x ∷ u) v (alike_back rules start v (x ∷ u) alike) viable_next) (before_all v earlier) in absent r.0 r.1.0 r.1.1 (alike_both rules start r.1.0 v (x ∷ u) r.1.2 alike);
    }

    first_in : (v : List SymbolNumber) → Contains (paths ++ (x ∷ u) ∷ []) v → IsFirstPath rules start v
    first_in v c =
        ⊎_elim (λ (o : Contains paths v). let p = place_of paths v o in numbered_first rules start paths targets ((i, x) ∷ rest) walk p.0 v p.1) (λ (e : x ∷ u ≡ v). subst (λ s. IsFirstPath rules start s) e next_first) (Contains-push_cases paths (x ∷ u) v c)

    no_other_in : (v w : List SymbolNumber) → IsFirstPath rules start v → Contains (paths ++ (x ∷ u) ∷ []) w → IsEarlier v w → Contains (paths ++ (x ∷ u) ∷ []) v
    no_other_in v w h c earlier =
        let to_next : IsEarlier v (x ∷ u) = ⊎_elim (λ (o : Contains paths w). let p = place_of paths w o in earlier_trans v w (x ∷ u) earlier (before_next p.0 w p.1)) (λ (e : x ∷ u ≡ w). subst (λ s. IsEarlier v s) (sym e) earlier) (Contains-push_cases paths (x ∷ u) w c) in
        Contains-append_left paths ((x ∷ u) ∷ []) v (first_numbered rules start paths targets ((i, x) ∷ rest) walk v h (before_all v to_next))

    -- the paths with the next one are first paths
    pub next_are_first : AreFirstPaths rules start (paths ++ (x ∷ u) ∷ [])
    next_are_first = record {
      ordered = all_pairs_push IsEarlier paths (x ∷ u) (λ a b d l k. walk.ordered a b (get_or paths a d) (get_or paths b d) l (slice_get-get_or paths a d (omega arith)) (slice_get-get_or paths b d k)) (λ k d l. before_next k (get_or paths k d) (slice_get-get_or paths k d l));
      first = first_in;
      no_other = no_other_in;
    }

    -- it is numbered, with its edges behind the others
    module _ (new : ℕ → SymbolNumber → Option ℕ) (noted : IsNoted targets new i x (length paths)) (more : List (ℕ × SymbolNumber)) (lead : (e : ℕ × SymbolNumber) → Contains more e → (e.0 ≡ length paths) × IsViable rules start (e.1 ∷ x ∷ u)) (all : (y : SymbolNumber) → IsViable rules start (y ∷ x ∷ u) → Contains more (length paths, y)) (more_ordered : AllPairs EdgeBefore more) where
      viable_new : (k : ℕ) (v : List SymbolNumber) → slice_get (paths ++ (x ∷ u) ∷ []) k ≡ Some v → IsViable rules start v
      viable_new k v g =
          ⊎_elim (walk.viable k v) (λ e. subst (λ s. IsViable rules start s) (sym e.1) viable_next) (push_cases paths (x ∷ u) k v g)

      ordered_new : (a b : ℕ) (v w : List SymbolNumber) → a < b → slice_get (paths ++ (x ∷ u) ∷ []) a ≡ Some v → slice_get (paths ++ (x ∷ u) ∷ []) b ≡ Some w → IsEarlier v w
      ordered_new a b v w l g h =
          ⊎_elim (λ (o : slice_get paths a ≡ Some v). ⊎_elim (λ (p : slice_get paths b ≡ Some w). walk.ordered a b v w l o p) (λ e. subst (λ s. IsEarlier v s) (sym e.1) (before_next a v o)) (push_cases paths (x ∷ u) b w h)) (λ e. ⊎_elim (λ (p : slice_get paths b ≡ Some w). absurd (omega (arith, e.0, slice_get_within paths b w p))) (λ f. absurd (omega (arith, e.0, f.0))) (push_cases paths (x ∷ u) b w h)) (push_cases paths (x ∷ u) a v g)

      apart_new : (a b : ℕ) (v w : List SymbolNumber) → slice_get (paths ++ (x ∷ u) ∷ []) a ≡ Some v → slice_get (paths ++ (x ∷ u) ∷ []) b ≡ Some w → LeadAlike rules start v w → a ≡ b
      apart_new a b v w g h alike =
          ⊎_elim (λ (o : slice_get paths a ≡ Some v). ⊎_elim (λ (p : slice_get paths b ≡ Some w). walk.apart a b v w o p alike) (λ e. absurd (absent a v o (subst (λ s. LeadAlike rules start v s) e.1 alike))) (push_cases paths (x ∷ u) b w h)) (λ e. ⊎_elim (λ (p : slice_get paths b ≡ Some w). absurd (absent b w p (subst (λ s. LeadAlike rules start w s) e.1 (alike_back rules start v w alike)))) (λ f. e.0 ∙ sym f.0) (push_cases paths (x ∷ u) b w h)) (push_cases paths (x ∷ u) a v g)

      old_edge : (e : ℕ × SymbolNumber) → IsEdge rules start paths e → IsEdge rules start (paths ++ (x ∷ u) ∷ []) e
      old_edge e d = (d.0, push_old paths (x ∷ u) e.0 d.0 d.1, d.2)

      new_edge : (e : ℕ × SymbolNumber) → Contains more e → IsEdge rules start (paths ++ (x ∷ u) ∷ []) e
      new_edge e c =
          let h = lead e c in
          (x ∷ u, ap (slice_get (paths ++ (x ∷ u) ∷ [])) h.0 ∙ push_new paths (x ∷ u), h.1)

      edges_new : (e : ℕ × SymbolNumber) → Contains (rest ++ more) e → IsEdge rules start (paths ++ (x ∷ u) ∷ []) e
      edges_new e c =
          ⊎_elim (λ (r : Contains rest e). old_edge e (walk.edges e (tail_in (i, x) rest e r))) (new_edge e) (Contains-append_cases rest more e c)

      rest_within : (e : ℕ × SymbolNumber) → Contains rest e → e.0 < length paths
      rest_within e c = let d = walk.edges e (tail_in (i, x) rest e c) in slice_get_within paths e.0 d.0 d.1

      behind_more : (e : ℕ × SymbolNumber) (t : List SymbolNumber) (k : ℕ) (w : List SymbolNumber) → e.0 ≡ length paths → slice_get (paths ++ (x ∷ u) ∷ []) e.0 ≡ Some t → slice_get (paths ++ (x ∷ u) ∷ []) k ≡ Some w → IsEarlier w (e.1 ∷ t)
      behind_more e t k w n g h =
          let is : x ∷ u ≡ t = same_Some (x ∷ u) t (sym (push_new paths (x ∷ u)) ∙ ap (slice_get (paths ++ (x ∷ u) ∷ [])) (sym n) ∙ g) in
          subst (λ s. IsEarlier w (e.1 ∷ s)) is (⊎_elim (λ (p : slice_get paths k ≡ Some w). earlier_trans w (x ∷ u) (e.1 ∷ x ∷ u) (before_next k w p) (earlier_longer e.1 (x ∷ u))) (λ f. subst (λ s. IsEarlier s (e.1 ∷ x ∷ u)) (sym f.1) (earlier_longer e.1 (x ∷ u))) (push_cases paths (x ∷ u) k w h))

      behind_new : (e : ℕ × SymbolNumber) (t : List SymbolNumber) (k : ℕ) (w : List SymbolNumber) → Contains (rest ++ more) e → slice_get (paths ++ (x ∷ u) ∷ []) e.0 ≡ Some t → slice_get (paths ++ (x ∷ u) ∷ []) k ≡ Some w → IsEarlier w (e.1 ∷ t)
      behind_new e t k w c g h =
          ⊎_elim (λ (r : Contains rest e). ⊎_elim (λ (o : slice_get paths e.0 ≡ Some t). ⊎_elim (λ (p : slice_get paths k ≡ Some w). walk.behind e t k w (tail_in (i, x) rest e r) o p) (λ f. subst (λ s. IsEarlier s (e.1 ∷ t)) (sym f.1) (next_before e t r o)) (push_cases paths (x ∷ u) k w h)) (λ f. absurd (omega (arith, f.0, rest_within e r))) (push_cases paths (x ∷ u) e.0 t g)) (λ (m : Contains more e). behind_more e t k w (lead e m).0 g h) (Contains-append_cases rest more e c)

      reached_old : (v : List SymbolNumber) (n : ℕ) → IsReached rules start paths v n → IsReached rules start (paths ++ (x ∷ u) ∷ []) v n
      reached_old v n r = (r.0, push_old paths (x ∷ u) n r.0 r.1, r.2, r.3)

      numbered_old : (v : List SymbolNumber) (n : ℕ) → IsNumbered rules start paths v n → IsNumbered rules start (paths ++ (x ∷ u) ∷ []) v n
      numbered_old v n r = (r.0, push_old paths (x ∷ u) n r.0 r.1, r.2)

      reached_new : (k : ℕ) (y : SymbolNumber) (v : List SymbolNumber) → k ≡ i → y ≡ x → slice_get paths k ≡ Some v → (n : ℕ) × (new k y ≡ Some n) × IsReached rules start (paths ++ (x ∷ u) ∷ []) (y ∷ v) n
      reached_new k y v e f g =
          let same : v ≡ u = same_Some v u (sym g ∙ ap (slice_get paths) e ∙ at) in
          let path : x ∷ u ≡ y ∷ v = ap (λ (z : SymbolNumber). z ∷ u) (sym f) ∙ ap (λ (s : List SymbolNumber). y ∷ s) (sym same) in
          (length paths, ap (λ (m : ℕ). new m y) e ∙ ap (new i) f ∙ noted.0, (x ∷ u, push_new paths (x ∷ u), subst (λ s. LeadAlike rules start (x ∷ u) s) path (alike_itself rules start (x ∷ u)), inr path))

      followed_old : (k : ℕ) (y : SymbolNumber) (v : List SymbolNumber) → slice_get paths k ≡ Some v → IsViable rules start (y ∷ v) → Contains (rest ++ more) (k, y) ⊎ ((n : ℕ) × (new k y ≡ Some n) × IsReached rules start (paths ++ (x ∷ u) ∷ []) (y ∷ v) n)
      followed_old k y v g ok =
          ⊎_elim (λ (c : Contains ((i, x) ∷ rest) (k, y)). ⊎_elim (λ (same : (i, x) ≡ (k, y)). inr (reached_new k y v (ap (λ (f : ℕ × SymbolNumber). f.0) (sym same)) (ap (λ (f : ℕ × SymbolNumber). f.1) (sym same)) g)) (λ (r : Contains rest (k, y)). inl (Contains-append_left rest more (k, y) r)) (in_cases (i, x) rest (k, y) c)) (λ t. ⊎_elim (λ s. inr (reached_new k y v s.0 s.1 g)) (λ (s : new k y ≡ targets k y). inr (t.0, s ∙ t.1, reached_old (y ∷ v) t.0 t.2)) (noted.1 k y)) (walk.followed k y v g ok)

      followed_new : (k : ℕ) (y : SymbolNumber) (v : List SymbolNumber) → slice_get (paths ++ (x ∷ u) ∷ []) k ≡ Some v → IsViable rules start (y ∷ v) → Contains (rest ++ more) (k, y) ⊎ ((n : ℕ) × (new k y ≡ Some n) × IsReached rules start (paths ++ (x ∷ u) ∷ []) (y ∷ v) n)
      followed_new k y v g ok =
          ⊎_elim (λ (o : slice_get paths k ≡ Some v). followed_old k y v o ok) (λ e. inl (Contains-append_right rest more (k, y) (subst (λ m. Contains more (m, y)) (sym e.0) (all y (subst (λ s. IsViable rules start (y ∷ s)) e.1 ok))))) (push_cases paths (x ∷ u) k v g)

      lead_new : (k : ℕ) (y : SymbolNumber) (n : ℕ) → new k y ≡ Some n → (v : List SymbolNumber) × (slice_get (paths ++ (x ∷ u) ∷ []) k ≡ Some v) × IsViable rules start (y ∷ v) × IsNumbered rules start (paths ++ (x ∷ u) ∷ []) (y ∷ v) n
      lead_new k y n e =
          ⊎_elim (λ s. let is : n ≡ length paths = same_Some n (length paths) (sym e ∙ ap (λ (m : ℕ). new m y) s.0 ∙ ap (new i) s.1 ∙ noted.0) in (u, ap (slice_get (paths ++ (x ∷ u) ∷ [])) s.0 ∙ push_old paths (x ∷ u) i u at, subst (λ z. IsViable rules start (z ∷ u)) (sym s.1) viable_next, subst (λ m. IsNumbered rules start (paths ++ (x ∷ u) ∷ []) (y ∷ u) m) (sym is) (x ∷ u, push_new paths (x ∷ u), subst (λ z. LeadAlike rules start (x ∷ u) (z ∷ u)) (sym s.1) (alike_itself rules start (x ∷ u))))) (λ (s : new k y ≡ targets k y). let t = walk.targets_lead k y n (sym s ∙ e) in (t.0, push_old paths (x ∷ u) k t.0 t.1, t.2, numbered_old (y ∷ t.0) n t.3)) (noted.1 k y)

      pub walk_new : IsWalk rules start (paths ++ (x ∷ u) ∷ []) new (rest ++ more)
      walk_new = record {
        begins = push_old paths (x ∷ u) 0 [] walk.begins;
        viable = viable_new;
        ordered = ordered_new;
        apart = apart_new;
        edges = edges_new;
        edges_ordered = pairs_append EdgeBefore rest more (pairs_tail EdgeBefore (i, x) rest walk.edges_ordered) more_ordered (λ e f c d. inl (omega (arith, rest_within e c, (lead f d).0)));
        behind = behind_new;
        followed = followed_new;
        targets_lead = lead_new;
      }

-- ---- the beginning
module _ (rules : List Rule) (start : ℕ) (ok : IsViable rules start []) where
  pub start_is_first : AreFirstPaths rules start ([] ∷ [])
  start_is_first = record {
    ordered = λ i j d l k. absurd (omega arith);
    first = λ u c. ⊎_elim (λ (e : [] ≡ u). subst (λ s. IsFirstPath rules start s) e (record { viable = ok; first = λ v earlier alike. none_earlier v earlier })) (λ c. absurd (omega (arith, c.1))) (in_cases [] [] u c);
    no_other = λ u v h c earlier. ⊎_elim (λ (e : [] ≡ v). absurd (none_earlier u (subst (λ s. IsEarlier u s) (sym e) earlier))) (λ c. absurd (omega (arith, c.1))) (in_cases [] [] v c);
  }

  only_path : (k : ℕ) (w : List SymbolNumber) → slice_get ([] ∷ []) k ≡ Some w → (k ≡ 0) × (w ≡ [])
  only_path zero w g = (refl, sym (same_Some [] w g))
  only_path (suc k) w g = cc

  pub walk_start : (targets : ℕ → SymbolNumber → Option ℕ) (more : List (ℕ × SymbolNumber)) → ((i : ℕ) (x : SymbolNumber) → targets i x ≡ None) → ((e : ℕ × SymbolNumber) → Contains more e → (e.0 ≡ 0) × IsViable rules start (e.1 ∷ [])) → ((y : SymbolNumber) → IsViable rules start (y ∷ []) → Contains more (0, y)) → AllPairs EdgeBefore more → IsWalk rules start ([] ∷ []) targets more
  walk_start targets more none lead all ordered = record {
    begins = refl;
    viable = λ k w g. subst (λ s. IsViable rules start s) (sym (only_path k w g).1) ok;
    ordered = λ a b v w l g h. absurd (omega (arith, (only_path a v g).0, (only_path b w h).0));
    apart = λ a b v w g h alike. (only_path a v g).0 ∙ sym (only_path b w h).0;
    edges = λ e c. let h = lead e c in ([], ap (slice_get ([] ∷ [])) h.0, h.1);
    edges_ordered = ordered;
    behind = λ e t k w c g h. subst (λ s. IsEarlier s (e.1 ∷ t)) (sym (only_path k w h).1) tt;
    followed = λ k y v g okay. let p = only_path k v g in inl (subst (λ m. Contains more (m, y)) (sym p.0) (all y (subst (λ s. IsViable rules start (y ∷ s)) p.1 okay)));
    targets_lead = λ k y n e. absurd (none-some n (sym (none k y) ∙ e));
  }
