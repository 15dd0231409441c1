-- An edge taken off the queue.
use Rattle.std.proofs.Common.{◌≡◌, ℕ, ◌<◌, List, [], ◌∷◌, length, Some, slice_get, sym, subst, arith, Contains}
use Rattle.std.proofs.lemmas.Option.{slice_get_within}
use Rattle.lp_repr.specs.declared.numbering.Rule.{Rule}
use Rattle.lp_repr.specs.declared.numbering.SymbolNumber.{SymbolNumber}
use Rattle.lp_states.specs.declared.builder.Builder.{Builder}
use Rattle.lp_states.specs.declared.builder.Edge.{Edge}
use Rattle.lp_states.specs.ItemMaps.{IsKernelAfter}
use Rattle.lp_states.specs.Walks.{IsWalk}
use Rattle.lp_states.specs.Building.{paths_of, targets_of, edge_of, edges_of, IsBuilt}
use Rattle.lp_states.proofs.BuilderSteps.{length_paths}
use Rattle.lp_states.proofs.WalkSteps.{head_in, tail_in}

module _ (rules : List Rule) (start : ℕ) (old new : Builder) (e : Edge) (edges : old.edges.items ≡ e ∷ new.edges.items) (o : new.origins ≡ old.origins) (s : new.states ≡ old.states) (n : new.numbers ≡ old.numbers) (built : IsBuilt rules start [] old) where
  pub popped : IsBuilt rules start (edge_of e ∷ []) new
  popped = record {
    walk = rw (o, s) (subst (λ (es : List Edge). IsWalk rules start (paths_of old.origins.items) (targets_of old.states.items) (edges_of es)) edges built.walk);
    count = rw (o, s) built.count;
    few = rw s built.few;
    shown = rw (o, s) built.shown;
    calm = rw o built.calm;
    kernels = rw (o, n) built.kernels;
    numbered = rw (o, n) built.numbered;
    edge_kernels = rw o (λ f c. built.edge_kernels f (subst (λ (es : List Edge). Contains es f) (sym edges) (tail_in e new.edges.items f c)));
  }

  pub popped_kernel : (u : List SymbolNumber) × (slice_get (paths_of new.origins.items) e.from ≡ Some u) × IsKernelAfter rules start e.over u e.kernel
  popped_kernel =
      let w = built.edge_kernels e (subst (λ (es : List Edge). Contains es e) (sym edges) (head_in e new.edges.items)) in
      (w.0, rw o w.1, w.2)

-- the state that an edge leads from stands
pub edge_within : (rules : List Rule) (start from : ℕ) (over : SymbolNumber) (b : Builder) (u : List SymbolNumber) → IsBuilt rules start ((from, over) ∷ []) b → slice_get (paths_of b.origins.items) from ≡ Some u → from < length b.states.items
edge_within rules start from over b u built at =
    omega (arith, slice_get_within (paths_of b.origins.items) from u at, length_paths [] b.origins.items, built.count)

-- no edge is left
pub nothing_popped : (rules : List Rule) (start : ℕ) (old new : Builder) → old.edges.items ≡ new.edges.items → new.origins ≡ old.origins → new.states ≡ old.states → new.numbers ≡ old.numbers → IsBuilt rules start [] old → IsBuilt rules start [] new
nothing_popped rules start old new edges o s n built = record {
  walk = rw (o, s) (subst (λ (es : List Edge). IsWalk rules start (paths_of old.origins.items) (targets_of old.states.items) (edges_of es)) edges built.walk);
  count = rw (o, s) built.count;
  few = rw s built.few;
  shown = rw (o, s) built.shown;
  calm = rw o built.calm;
  kernels = rw (o, n) built.kernels;
  numbered = rw (o, n) built.numbered;
  edge_kernels = rw o (λ f c. built.edge_kernels f (subst (λ (es : List Edge). Contains es f) (sym edges) c));
}
