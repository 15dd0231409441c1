-- A breadth-first walk finds the first paths in order.
use Rattle.std.proofs.Common.{◌≡◌, ℕ, List, [], ◌∷◌, get_or, Option, Some, slice_get, refl, sym, ap, ◌∙◌, ⊎_elim, inr, subst, arith, AllPairs, Contains}
use Rattle.std.proofs.lemmas.Option.{same_Some, slice_get_within, slice_get-get_or}
use Rattle.lp_repr.specs.declared.numbering.SymbolNumber.{SymbolNumber}
use Rattle.lp_repr.specs.declared.numbering.Rule.{Rule}
use Rattle.lp_states.specs.Paths.{IsEarlier, IsViable, IsFirstPath, AreFirstPaths}
use Rattle.lp_states.specs.Walks.{IsReached, IsWalk}
use Rattle.lp_states.proofs.PathOrder.{earlier_trans, earlier_itself, earlier_longer, up_to_more, up_to_trans, up_to_before, before_up_to}
use Rattle.lp_states.proofs.LeadingAlike.{alike_itself, alike_back, alike_both, alike_more, viable_alike, viable_before}

-- ---- places in lists
pub place_of : {X : Type 0} (xs : List X) (x : X) → Contains xs x → (i : ℕ) × (slice_get xs i ≡ Some x)
place_of xs x c = (c.0, slice_get-get_or xs c.0 x c.1 ∙ ap Some c.2)

pub contained_at : {X : Type 0} (xs : List X) (i : ℕ) (x : X) → slice_get xs i ≡ Some x → Contains xs x
contained_at xs i x e =
    let l = slice_get_within xs i x e in
    (i, l, same_Some (get_or xs i x) x (sym (slice_get-get_or xs i x l) ∙ e))

module _ (rules : List Rule) (start : ℕ) (paths : List (List SymbolNumber)) (targets : ℕ → SymbolNumber → Option ℕ) (left : List (ℕ × SymbolNumber)) (walk : IsWalk rules start paths targets left) where
  -- a path before all edges that are left leads to what was numbered, and not by an earlier number
  pub covered : (v : List SymbolNumber) → IsViable rules start v → ((e : ℕ × SymbolNumber) (u : List SymbolNumber) → Contains left e → slice_get paths e.0 ≡ Some u → IsEarlier v (e.1 ∷ u)) → (j : ℕ) × IsReached rules start paths v j
  covered [] ok before = (0, ([], walk.begins, alike_itself rules start [], inr refl))
  covered (y ∷ v) ok before =
      let r = covered v (viable_before rules start y v ok) (λ e u c at. earlier_trans v (y ∷ v) (e.1 ∷ u) (earlier_longer y v) (before e u c at)) in
      let i = r.0 in
      let w = r.1.0 in
      let more = alike_more rules start y w v r.1.2 in
      let up = up_to_more y w v r.1.3 in
      ⊎_elim (λ (c : Contains left (i, y)). absurd (earlier_itself (y ∷ v) (before_up_to (y ∷ v) (y ∷ w) (y ∷ v) (before (i, y) w c r.1.1) up))) (λ t. (t.0, (t.2.0, t.2.1, alike_both rules start t.2.0 (y ∷ w) (y ∷ v) t.2.2 more, up_to_trans t.2.0 (y ∷ w) (y ∷ v) t.2.3 up))) (walk.followed i y w r.1.1 (viable_alike rules start (y ∷ v) (y ∷ w) (alike_back rules start (y ∷ w) (y ∷ v) more) ok))

  -- each path is a first path
  pub numbered_first : (k : ℕ) (u : List SymbolNumber) → slice_get paths k ≡ Some u → IsFirstPath rules start u
  numbered_first k u at = record {
    viable = walk.viable k u at;
    first = λ v earlier alike. let r = covered v (viable_alike rules start u v (alike_back rules start v u alike) (walk.viable k u at)) (λ e t c g. earlier_trans v u (e.1 ∷ t) earlier (walk.behind e t k u c g at)) in let same = walk.apart r.0 k r.1.0 u r.1.1 at (alike_both rules start r.1.0 v u r.1.2 alike) in let is : r.1.0 ≡ u = same_Some r.1.0 u (sym r.1.1 ∙ ap (slice_get paths) same ∙ at) in earlier_itself u (subst (λ s. IsEarlier s u) is (up_to_before r.1.0 v u r.1.3 earlier));
  }

  -- a first path before all edges that are left was numbered
  pub first_numbered : (u : List SymbolNumber) → IsFirstPath rules start u → ((e : ℕ × SymbolNumber) (t : List SymbolNumber) → Contains left e → slice_get paths e.0 ≡ Some t → IsEarlier u (e.1 ∷ t)) → Contains paths u
  first_numbered u h before =
      let r = covered u h.viable before in
      ⊎_elim (λ (a : IsEarlier r.1.0 u). absurd (h.first r.1.0 a r.1.2)) (λ (e : r.1.0 ≡ u). subst (λ s. Contains paths s) e (contained_at paths r.0 r.1.0 r.1.1)) r.1.3

  ordered_pairs : AllPairs IsEarlier paths
  ordered_pairs i j d l k =
      walk.ordered i j (get_or paths i d) (get_or paths j d) l (slice_get-get_or paths i d (omega arith)) (slice_get-get_or paths j d k)

  pub numbered_are_first : AreFirstPaths rules start paths
  numbered_are_first = record {
    ordered = ordered_pairs;
    first = λ u c. let at = place_of paths u c in numbered_first at.0 u at.1;
    no_other = λ u v h c earlier. let at = place_of paths v c in first_numbered u h (λ e t cl g. earlier_trans u v (e.1 ∷ t) earlier (walk.behind e t at.0 v cl g at.1));
  }

  nothing_there : (e : ℕ × SymbolNumber) → Contains {X = ℕ × SymbolNumber} [] e → ⊥
  nothing_there e c = omega (arith, c.1)

  -- where no edge is left, all paths were numbered
  pub all_covered : left ≡ [] → (v : List SymbolNumber) → IsViable rules start v → (j : ℕ) × IsReached rules start paths v j
  all_covered none v ok = covered v ok (λ e u c g. absurd (nothing_there e (subst (λ xs. Contains xs e) none c)))
