-- A walk over the trees of a list of parts, which looks at the bodies of actions side by side.
use Rattle.std.proofs.Common.{◌≡◌, ◌↔◌, ℕ, zero, suc, ◌+◌, ◌-◌, ◌<◌, ◌≤◌, min, Bool, true, false, List, [], ◌∷◌, ◌++◌, length, map, get_or, take, drop, IsTrue, refl, sym, ap, ◌∙◌, subst, arith, append_assoc, length-drop, length-take, take-append-drop}
use Rattle.std.proofs.lemmas.Bool.{false≢true}
use Rattle.std.proofs.lemmas.List.{map-append, drop-drop, drop-take, drop_all, drop_min, drop_more, take-take, take_min, take_more}
use Rattle.lp_tree.specs.declared.tree.Entry.{Entry}
use Rattle.lp_program.specs.Choosing.{contents}
use Rattle.lp_program.specs.Parameters.{last_parameter, parameter_after, parameters_of}
use Rattle.lp_program.specs.Trees.{Content, content, Forest, forest, forest_within}
use Rattle.lp_program.specs.Trees.Forest.{bare, tree}
use Rattle.lp_program.proofs.Forests.{forest-none, forest-first}
use Rattle.lp_fitting.specs.Bodies.{SuitsBody, BodiesSuit}

-- what the trees of parts hold is what the parts hold
contents_within : (n : ℕ) (es : List Entry) → length es ≤ n → contents (forest_within n es) ≡ map content es
unfolding forest_within
contents_within zero [] le = refl
contents_within zero (e ∷ es) le = absurd (omega arith)
contents_within (suc n) [] le = refl
contents_within (suc n) (e ∷ es) le =
    let t = length-take e.below es in
    let d = length-drop e.below es in
    ap (λ (x : List Content). content e ∷ (x ++ contents (forest_within n (drop e.below es)))) (contents_within n (take e.below es) (omega (arith, t)))
    ∙ ap (λ (x : List Content). content e ∷ (map content (take e.below es) ++ x)) (contents_within n (drop e.below es) (omega (arith, d)))
    ∙ ap (λ (x : List Content). content e ∷ x) (sym (map-append content (take e.below es) (drop e.below es)) ∙ ap (map content) (take-append-drop e.below es))

contents_forest : (es : List Entry) → contents (forest es) ≡ map content es
unfolding forest
contents_forest es = contents_within (length es) es (omega arith)

-- the front of a list, cut in two
take_both : (n m : ℕ) (es : List Entry) → take (n + m) es ≡ take n es ++ take m (drop n es)
take_both n m es =
    sym (take-append-drop n (take (n + m) es))
    ∙ ap (λ (x : List Entry). x ++ drop n (take (n + m) es)) (take-take n (n + m) es (omega arith))
    ∙ ap (λ (x : List Entry). take n es ++ x) (drop-take n m es)

-- the last parameter, one part further
last_more : (last : List ℕ) (cs : List Content) (c : Content) → last_parameter last (cs ++ c ∷ []) ≡ parameter_after (last_parameter last cs) c
last_more last [] c = refl
last_more last (d ∷ cs) c = last_more (parameter_after last d) cs c

-- a part behind this parameter, and all below it
abbrev pub TreeSuits : List ℕ → List ℕ → Entry → List Entry → Type 0
TreeSuits prefix last e below = SuitsBody prefix (parameters_of prefix last) e.part e.holes.items × BodiesSuit prefix [] (forest below)

-- the trees from a place on, behind the parts before it
abbrev pub SuitFrom : List ℕ → List Entry → ℕ → Type 0
SuitFrom prefix es n = BodiesSuit prefix (map content (take n es)) (forest (drop n es))

-- the parts below a part
abbrev below_at : List Entry → ℕ → ℕ → List Entry
below_at es n end = take (end - (n + 1)) (drop (n + 1) es)

module _ (prefix : List ℕ) (es : List Entry) (n end : ℕ) (e : Entry) (lt : n < length es) (at : e ≡ get_or es n e) (ends : end ≡ min (n + 1 + e.below) (length es)) where
  trees_are : forest (drop n es) ≡ tree (content e) (forest (below_at es n end)) (forest (drop end es))
  trees_are =
      let rest : List Entry = drop (n + 1) es in
      let size = length-drop (n + 1) es in
      let first : drop n es ≡ e ∷ rest = drop_more es n e lt ∙ ap (λ (x : Entry). x ∷ rest) (sym at) in
      let below : take e.below rest ≡ below_at es n end = sym (take_min e.below rest) ∙ ap (λ (k : ℕ). take k rest) (omega (arith, size, ends)) in
      let after : drop e.below rest ≡ drop end es = sym (drop_min e.below rest) ∙ drop-drop (min e.below (length rest)) (n + 1) es ∙ ap (λ (k : ℕ). drop k es) (omega (arith, size, ends)) in
      ap forest first ∙ forest-first e rest ∙ ap (λ (x : List Entry). tree (content e) (forest x) (forest (drop e.below rest))) below
      ∙ ap (λ (x : List Entry). tree (content e) (forest (below_at es n end)) (forest x)) after

  before_is : map content (take n es) ++ (content e ∷ contents (forest (below_at es n end))) ≡ map content (take end es)
  before_is =
      let below : List Entry = below_at es n end in
      let there : n + 1 + (end - (n + 1)) ≡ end = omega (arith, ends) in
      let front : take end es ≡ (take n es ++ e ∷ []) ++ below
      = ap (λ (k : ℕ). take k es) (sym there) ∙ take_both (n + 1) (end - (n + 1)) es
      ∙ ap (λ (x : List Entry). x ++ below) (take_more es n e lt ∙ ap (λ (x : Entry). take n es ++ x ∷ []) (sym at)) in
      ap (λ (x : List Content). map content (take n es) ++ (content e ∷ x)) (contents_forest below)
      ∙ sym (map-append content (take n es) (e ∷ below))
      ∙ ap (map content) (sym (append_assoc (take n es) (e ∷ []) below) ∙ sym front)

  -- a tree, and the others behind it
  step : (last : List ℕ) → last ≡ last_parameter [] (map content (take n es)) → SuitFrom prefix es n ↔ (TreeSuits prefix last e (below_at es n end) × SuitFrom prefix es end)
  step last same = (
    λ s. let all = subst (λ (f : Forest). BodiesSuit prefix (map content (take n es)) f) trees_are s in (
      (subst (λ (x : List ℕ). SuitsBody prefix (parameters_of prefix x) e.part e.holes.items) (sym same) all.0, all.1),
      subst (λ (cs : List Content). BodiesSuit prefix cs (forest (drop end es))) before_is all.2,
    ),
    λ w. subst (λ (f : Forest). BodiesSuit prefix (map content (take n es)) f) (sym trees_are) (
      subst (λ (x : List ℕ). SuitsBody prefix (parameters_of prefix x) e.part e.holes.items) same w.0.0,
      w.0.1,
      subst (λ (cs : List Content). BodiesSuit prefix cs (forest (drop end es))) (sym before_is) w.1,
    ),
  )

  pub tree_fails : (last : List ℕ) (r : Bool) → last ≡ last_parameter [] (map content (take n es)) → r ≡ false → (IsTrue r ↔ TreeSuits prefix last e (below_at es n end)) → (BodiesSuit prefix [] (forest es) ↔ SuitFrom prefix es n) → IsTrue false ↔ BodiesSuit prefix [] (forest es)
  tree_fails last r same fails told all = (
    λ t. absurd (false≢true t),
    λ w. absurd (false≢true (sym fails ∙ told.1 ((step last same).0 (all.0 w)).0)),
  )

  pub tree_passes : (last : List ℕ) (r : Bool) → last ≡ last_parameter [] (map content (take n es)) → r ≡ true → (IsTrue r ↔ TreeSuits prefix last e (below_at es n end)) → (BodiesSuit prefix [] (forest es) ↔ SuitFrom prefix es n) → BodiesSuit prefix [] (forest es) ↔ SuitFrom prefix es end
  tree_passes last r same holds told all = (
    λ w. ((step last same).0 (all.0 w)).1,
    λ s. all.1 ((step last same).1 (told.0 holds, s)),
  )

-- the walk begins, and ends
pub walk_begins : (prefix : List ℕ) (es : List Entry) → BodiesSuit prefix [] (forest es) ↔ SuitFrom prefix es 0
walk_begins prefix es = (λ w. w, λ w. w)

pub walk_ends : (prefix : List ℕ) (es : List Entry) (n : ℕ) → length es ≤ n → (BodiesSuit prefix [] (forest es) ↔ SuitFrom prefix es n) → IsTrue true ↔ BodiesSuit prefix [] (forest es)
walk_ends prefix es n le all =
    let none : forest (drop n es) ≡ bare = ap forest (drop_all n es le) ∙ forest-none in
    (λ t. all.1 (subst (λ (f : Forest). BodiesSuit prefix (map content (take n es)) f) (sym none) tt), λ w. refl)

-- the last parameter, one part further in the list
pub last_next : (es : List Entry) (i : ℕ) (e : Entry) (last next : List ℕ) → i < length es → e ≡ get_or es i e → last ≡ last_parameter [] (map content (take i es)) → next ≡ parameter_after last (content e) → next ≡ last_parameter [] (map content (take (i + 1) es))
last_next es i e last next lt at same is =
    is ∙ ap (λ (x : List ℕ). parameter_after x (content e)) same ∙ sym (last_more [] (map content (take i es)) (content e))
    ∙ ap (last_parameter []) (sym (map-append content (take i es) (e ∷ [])) ∙ ap (map content) (ap (λ (x : Entry). take i es ++ x ∷ []) at ∙ sym (take_more es i e lt)))
