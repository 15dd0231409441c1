-- Stacks of states, the top last, as paths: what a push, a cut and a reduction do.
use Rattle.std.proofs.Common.{◌≡◌, ◌≢◌, ℕ, zero, suc, ◌+◌, ◌-◌, ◌≤◌, List, [], ◌∷◌, ◌++◌, length, take, drop, Some, slice_get, refl, sym, ap, ◌∙◌, subst, arith}
use Rattle.std.proofs.lemmas.Option.{same_Some, none-some}
use Rattle.std.proofs.lemmas.List.{take-append-drop}
use Rattle.lp_driver.specs.DriverState.{last_of}
use Rattle.lp_repr.specs.Numbering.{rules_of}
use Rattle.lp_repr.specs.ValidTables.{start_number, IsValidTables}
use Rattle.lp_repr.specs.declared.repr.Grammar.{Grammar}
use Rattle.lp_repr.specs.declared.numbering.Rule.{Rule}
use Rattle.lp_repr.specs.declared.numbering.SymbolNumber.{SymbolNumber}
use Rattle.lp_repr.specs.declared.numbering.SymbolNumber.TheVariants.{Nonterminal}
use Rattle.lp_repr.specs.declared.lr1.Lr1State.{Lr1State}
use Rattle.lp_turn_laws.specs.Paths.Stacks.{under, IsReduced}
use Rattle.lp_turn_laws.specs.Paths.Walks.{edge_at, IsWalk, end_of, Has, IsUnseen, IsPath}
use Rattle.lp_turn_laws.proofs.Paths.Edges.{back_over, forward_over, edge_follows}
use Rattle.lp_turn_laws.proofs.Paths.Reductions.{taken_off, start_alone, only_this_start}
use Rattle.lp_turn_laws.proofs.Paths.Walks.{walk_lengths, walk_append, walk_take, walk_drop, end_append}

-- ---- the top
-- the last of a list that begins so
pub last_walked : (q : ℕ) (ps : List ℕ) → last_of (q ∷ ps) ≡ Some (end_of q ps)
last_walked q ps = at_length q ps (length ps) refl
  where
    at_length : (q : ℕ) (ps : List ℕ) (n : ℕ) → n ≡ length ps → slice_get (q ∷ ps) (suc n - 1) ≡ Some (end_of q ps)
    at_length q [] n e = let k : suc n - 1 ≡ 0 = omega arith in ap (slice_get (q ∷ [])) k
    at_length q (p ∷ ps) zero e = absurd (omega arith)
    at_length q (p ∷ ps) (suc n) e =
        let k : suc (suc n) - 1 ≡ suc (suc n - 1) = omega arith in
        ap (slice_get (q ∷ p ∷ ps)) k ∙ at_length p ps n (omega arith)

-- the top of a path is the end of its walk
pub path_top : (states : List Lr1State) (stack : List ℕ) (xs : List SymbolNumber) (path : IsPath states stack xs) → last_of stack ≡ Some (end_of 0 path.rest)
path_top states stack xs path = ap last_of path.begins ∙ last_walked 0 path.rest

-- a path has one state more than symbols
pub path_length : (states : List Lr1State) (stack : List ℕ) (xs : List SymbolNumber) → IsPath states stack xs → length stack ≡ length xs + 1
path_length states stack xs path =
    let l = walk_lengths states 0 path.rest xs path.walks in
    let e : length stack ≡ suc (length path.rest) = ap length path.begins in
    omega arith

-- ---- pushes and cuts
-- state 0 alone is a path
pub path_first : (states : List Lr1State) → IsPath states (0 ∷ []) []
path_first states = record { rest = []; begins = refl; walks = tt }

-- the target of an edge from the top is pushed
pub path_push : (states : List Lr1State) (stack : List ℕ) (xs : List SymbolNumber) (q : ℕ) (x : SymbolNumber) (to : ℕ) → IsPath states stack xs → last_of stack ≡ Some q → edge_at states q x ≡ Some to → IsPath states (stack ++ to ∷ []) (xs ++ x ∷ [])
path_push states stack xs q x to path top e =
    let same : end_of 0 path.rest ≡ q = same_Some (end_of 0 path.rest) q (sym (path_top states stack xs path) ∙ top) in
    record {
      rest = path.rest ++ to ∷ [];
      begins = ap (λ (ss : List ℕ). ss ++ to ∷ []) path.begins;
      walks = walk_append states 0 path.rest (to ∷ []) xs (x ∷ []) path.walks (subst (λ (i : ℕ). edge_at states i x ≡ Some to) (sym same) e, tt);
    }

-- the first states of a path, state 0 among them
pub path_take : (states : List Lr1State) (stack : List ℕ) (xs : List SymbolNumber) (k : ℕ) → IsPath states stack xs → IsPath states (take (suc k) stack) (take k xs)
path_take states stack xs k path =
    record { rest = take k path.rest; begins = ap (take (suc k)) path.begins; walks = walk_take states k 0 path.rest xs path.walks }

-- the states that are left after n symbols are taken off
pub path_under : (states : List Lr1State) (stack : List ℕ) (xs : List SymbolNumber) (n : ℕ) → n ≤ length xs → IsPath states stack xs → IsPath states (under n stack) (under n xs)
path_under states stack xs n l path =
    let m = path_length states stack xs path in
    let k : suc (length xs - n) ≡ length stack - n = omega arith in
    subst (λ (i : ℕ). IsPath states (take i stack) (under n xs)) k (path_take states stack xs (length xs - n) path)

-- ---- a state of a path
-- the state at a place is the end of a first part
place_end : (q : ℕ) (ps : List ℕ) (k p : ℕ) → slice_get (q ∷ ps) k ≡ Some p → end_of q (take k ps) ≡ p
place_end q ps zero p e = same_Some q p e
place_end q [] (suc k) p e = absurd (none-some p e)
place_end q (r ∷ ps) (suc k) p e = place_end r ps k p e

-- the rest of a path is a walk from the state at a place, and ends where the path does
pub path_from : (states : List Lr1State) (stack : List ℕ) (xs : List SymbolNumber) (k q : ℕ) → IsPath states stack xs → slice_get stack k ≡ Some q → IsWalk states q (drop (suc k) stack) (drop k xs) × (last_of stack ≡ Some (end_of q (drop (suc k) stack)))
path_from states stack xs k q path at =
    let e = place_end 0 path.rest k q (ap (λ (ss : List ℕ). slice_get ss k) (sym path.begins) ∙ at) in
    let d : drop k path.rest ≡ drop (suc k) stack = ap (drop (suc k)) (sym path.begins) in
    let w = subst (λ (ps : List ℕ). IsWalk states q ps (drop k xs)) d (subst (λ (i : ℕ). IsWalk states i (drop k path.rest) (drop k xs)) e (walk_drop states k 0 path.rest xs path.walks)) in
    let f : end_of 0 path.rest ≡ end_of q (drop (suc k) stack) = ap (end_of 0) (sym (take-append-drop k path.rest)) ∙ end_append 0 (take k path.rest) (drop k path.rest) ∙ ap (λ (i : ℕ). end_of i (drop k path.rest)) e ∙ ap (end_of q) d in
    (w, path_top states stack xs path ∙ ap Some f)

-- ---- labels
module _ (g : Grammar) (start : ℕ) (states : List Lr1State) (valid : IsValidTables g start states) where
  -- edges to one state are over one symbol
  pub one_label : (q r p : ℕ) (x y : SymbolNumber) → edge_at states q x ≡ Some p → edge_at states r y ≡ Some p → x ≡ y
  one_label q r p x y e f =
      let w = edge_follows g start states valid q x p e in
      let h = forward_over g start states valid q x p w.0 w.1 e w.2 w.3 in
      let b = back_over g start states valid r y p w.0 w.1 f h in
      same_Some x y (sym w.3 ∙ b.1)

  -- the states of a walk tell its symbols
  walk_labels : (q r : ℕ) (ps : List ℕ) (xs ys : List SymbolNumber) → IsWalk states q ps xs → IsWalk states r ps ys → xs ≡ ys
  walk_labels q r [] [] [] w v = refl
  walk_labels q r [] [] (y ∷ ys) w v = absurd v
  walk_labels q r [] (x ∷ xs) ys w v = absurd w
  walk_labels q r (p ∷ ps) [] ys w v = absurd w
  walk_labels q r (p ∷ ps) (x ∷ xs) [] w v = absurd v
  walk_labels q r (p ∷ ps) (x ∷ xs) (y ∷ ys) w v =
      ap (λ (z : SymbolNumber). z ∷ xs) (one_label q r p x y w.0 v.0) ∙ ap (λ (zs : List SymbolNumber). y ∷ zs) (walk_labels p p ps xs ys w.1 v.1)

  -- a stack has the symbols of one path
  pub path_labels : (stack : List ℕ) (xs ys : List SymbolNumber) → IsPath states stack xs → IsPath states stack ys → xs ≡ ys
  path_labels stack xs ys a b =
      let same : a.rest ≡ b.rest = (let e : 0 ∷ a.rest ≡ 0 ∷ b.rest = sym a.begins ∙ b.begins in cc) in
      walk_labels 0 0 b.rest xs ys (subst (λ (ps : List ℕ). IsWalk states 0 ps xs) same a.walks) b.walks

  -- ---- reductions
  -- the top state of a path has what the end of its walk has
  top_has : (stack : List ℕ) (xs : List SymbolNumber) (path : IsPath states stack xs) (q y d : ℕ) → last_of stack ≡ Some q → Has states q y d → Has states (end_of 0 path.rest) y d
  top_has stack xs path q y d top h =
      subst (λ (i : ℕ). Has states i y d) (same_Some q (end_of 0 path.rest) (sym top ∙ path_top states stack xs path)) h

  module _ (n : ℕ) (begun : start_number g start ≡ Some n) where
    -- a complete item of another production than the start's is reduced
    pub path_reduced : (stack : List ℕ) (xs : List SymbolNumber) (q y : ℕ) (r : Rule) → IsPath states stack xs → last_of stack ≡ Some q → Has states q y (length r.right) → slice_get (rules_of g) y ≡ Some r → r.left ≢ n → IsReduced states stack xs r
    path_reduced stack xs q y r path top h at other =
        let t = taken_off g start states valid n begun path.rest xs y r path.walks (top_has stack xs path q y (length r.right) top h) at other in
        let c = t.count in
        let k : t.before ≡ length xs - length r.right = omega arith in
        let m = path_length states stack xs path in
        let j : suc t.before ≡ length stack - length r.right = omega arith in
        let state = end_of 0 (take t.before path.rest) in
        let l : last_of (under (length r.right) stack) ≡ Some state = ap (λ (i : ℕ). last_of (take i stack)) (sym j) ∙ ap (λ (ss : List ℕ). last_of (take (suc t.before) ss)) path.begins ∙ last_walked 0 (take t.before path.rest) in
        record {
          fits = omega arith;
          same = ap (λ (i : ℕ). drop i xs) (sym k) ∙ t.same;
          state = state;
          top = l;
          to = t.to;
          goto = t.goto;
          path = path_push states (under (length r.right) stack) (under (length r.right) xs) state (Nonterminal r.left) t.to (path_under states stack xs (length r.right) (omega arith) path) l t.goto;
        }

    -- a complete item of a start is of this start, and its symbols stand alone above state 0
    pub path_ended : (stack : List ℕ) (xs : List SymbolNumber) (q y : ℕ) (r : Rule) → IsPath states stack xs → last_of stack ≡ Some q → Has states q y (length r.right) → slice_get (rules_of g) y ≡ Some r → IsUnseen (rules_of g) r.left → (xs ≡ r.right) × (r.left ≡ n)
    path_ended stack xs q y r path top h at unseen =
        start_alone g start states valid n begun path.rest xs y r path.walks (top_has stack xs path q y (length r.right) top h) at unseen

    -- an item of a start is of this start, and all symbols of the path stand before its dot
    pub path_only_start : (stack : List ℕ) (xs : List SymbolNumber) (q y d : ℕ) (r : Rule) → IsPath states stack xs → last_of stack ≡ Some q → Has states q y d → slice_get (rules_of g) y ≡ Some r → IsUnseen (rules_of g) r.left → (d ≡ length xs) × (r.left ≡ n)
    path_only_start stack xs q y d r path top h at unseen =
        only_this_start g start states valid n begun path.rest xs y d r path.walks (top_has stack xs path q y d top h) at unseen
