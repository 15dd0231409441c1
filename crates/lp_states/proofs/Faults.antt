-- Where there are no states.
use Rattle.std.proofs.Common.{◌≡◌, ℕ, ◌-◌, List, [], ◌∷◌, ◌++◌, length, Some, IsSome, slice_index_or, refl, ap, ◌∙◌, subst, arith, Contains}
use Rattle.std.proofs.lemmas.List.{length_push}
use Rattle.std.proofs.lemmas.List.Elements.{Contains-push}
use Rattle.lp_repr.specs.Closure.{InClosure, given, opened}
use Rattle.lp_repr.specs.Numbering.{rules_of}
use Rattle.lp_repr.specs.ValidTables.{start_number}
use Rattle.lp_repr.specs.declared.repr.Grammar.{Grammar}
use Rattle.lp_repr.specs.declared.repr.Symbol.{Symbol}
use Rattle.lp_repr.specs.declared.numbering.SymbolNumber.{SymbolNumber}
use Rattle.lp_repr.specs.declared.numbering.Rule.{Rule}
use Rattle.lp_repr.specs.declared.lr1.Token.{Token}
use Rattle.lp_states.specs.declared.builder.Builder.{Builder}
use Rattle.lp_states.specs.declared.builder.Stop.TheVariants.{Conflict, TooMany}
use Rattle.lp_states.specs.declared.builder.BuildFault.TheVariants as fault
use Rattle.lp_states.specs.declared.names.Names.{Names}
use Rattle.lp_states.specs.ItemSets.{IsBegun}
use Rattle.lp_states.specs.Paths.{IsViable, AreFirstPaths}
use Rattle.lp_states.specs.States.{AreStates}
use Rattle.lp_states.specs.Causes.{IsCause}
use Rattle.lp_states.specs.Naming.{name_at, NamesAll, NamesRightly, IsSpelled, AreSpelled}
use Rattle.lp_states.specs.Building.{paths_of, IsStopped}
use Rattle.lp_states.proofs.BuilderSteps.{length_paths}
use Rattle.lp_states.proofs.LeadingAlike.{viable_before}
use Rattle.lp_states.proofs.Named.{path_named, spelled_path, spelled_paths}
use Rattle.lp_states.proofs.NamingSteps.{last_of}

-- ---- a start with no productions
module _ (rules : List Rule) (start : ℕ) (none : (p d : ℕ) → IsBegun rules start p d → ⊥) where
  nothing_closed : (p d : ℕ) → InClosure rules (IsBegun rules start) p d → ⊥
  nothing_closed p d (given p' d' b) = none p' d' b
  nothing_closed q z (opened p d n q' c e l) = nothing_closed p d c

  nothing_viable : (v : List SymbolNumber) → IsViable rules start v → ⊥
  nothing_viable [] v = nothing_closed v.0 v.1 v.2
  nothing_viable (x ∷ u) v = nothing_viable u (viable_before rules start x u v)

  pub no_states : AreStates rules start [] []
  no_states = record {
    first = record { ordered = λ i j d l k. absurd (omega (arith, k)); first = λ u c. absurd (omega (arith, c.1)); no_other = λ u v h c e. absurd (omega (arith, c.1)) };
    all = λ v ok. absurd (nothing_viable v ok);
    calm = λ u c. absurd (omega (arith, c.1));
    few = omega arith;
    same_count = refl;
    each = λ i u s g h. cc;
  }

-- ---- the paths of a fault by name
module _ (g : Grammar) (start n : ℕ) (number : start_number g start ≡ Some n) (b : Builder) (names : Names) (rightly : NamesRightly g names) (all : NamesAll (rules_of g) names) where
  named_path : (paths : List (List SymbolNumber)) → AreFirstPaths (rules_of g) n paths → (u : List SymbolNumber) → Contains paths u → (x : SymbolNumber) → Contains u x → IsSome (name_at names x)
  named_path paths first u c = path_named (rules_of g) n names all u (first.first u c).viable

  pub fault_conflict : (path : List Symbol) (token : Token) (last : ℕ) → IsStopped (rules_of g) n b (Conflict token) → IsSpelled names path (slice_index_or (paths_of b.origins.items) last []) → last ≡ length b.origins.items - 1 → IsCause g start (fault.Conflict path token)
  fault_conflict path token last stopped spelled is =
      let before = stopped.0 in
      let u = stopped.1 in
      let e = stopped.2 in
      let count = ap length e ∙ length_push before u in
      let same : slice_index_or (paths_of b.origins.items) last [] ≡ u = last_of (paths_of b.origins.items) before u [] last e (omega (arith, count, length_paths [] b.origins.items)) in
      (n, before, u, number, spelled_path g names path u rightly (named_path (before ++ u ∷ []) stopped.3.first u (Contains-push before u)) (subst (λ v. IsSpelled names path v) same spelled), stopped.3)

  pub fault_many : (paths : List (List Symbol)) → IsStopped (rules_of g) n b TooMany → AreSpelled names paths (paths_of b.origins.items) → IsCause g start (fault.TooManyStates paths)
  fault_many paths stopped spelled =
      let before = stopped.0 in
      let u = stopped.1 in
      (n, before, u, number, spelled_paths g names paths (before ++ u ∷ []) rightly (named_path (before ++ u ∷ []) stopped.3.first) (subst (λ vs. AreSpelled names paths vs) stopped.2 spelled), stopped.3)
