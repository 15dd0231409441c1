-- Trees side by side: in a list of parts, and read one after another.
use Rattle.std.proofs.Common.{◌≡◌, ℕ, List, [], ◌∷◌, ◌++◌, length, take, drop, refl, sym, ap, ◌∙◌, append_assoc, append-nil}
use Rattle.std.proofs.lemmas.List.{take_at, drop_at}
use Rattle.lp_tree.specs.declared.tree.Entry.{Entry}
use Rattle.lp_program.specs.Trees.{content, Forest, forest}
use Rattle.lp_program.specs.Trees.Forest.{bare, tree}
use Rattle.lp_program.specs.Adding.{Holds}
use Rattle.lp_program.specs.Reads.{graft, parts_in, Reads}
use Rattle.lp_program.specs.Reads.Task.{trees}
use Rattle.lp_program.specs.Reads.Reads.{no_tree, one_tree}
use Rattle.lp_program.proofs.Forests.{forest-none, forest-first}

pub graft_bare : (f : Forest) → graft f bare ≡ f
graft_bare bare = refl
graft_bare (tree c below after) = ap (tree c below) (graft_bare after)

pub graft_assoc : (f g h : Forest) → graft (graft f g) h ≡ graft f (graft g h)
graft_assoc bare g h = refl
graft_assoc (tree c below after) g h = ap (tree c below) (graft_assoc after g h)

pub parts_graft : (f g : Forest) → parts_in (graft f g) ≡ parts_in f ++ parts_in g
parts_graft bare g = refl
parts_graft (tree c below after) g = ap (λ ps. c.part ∷ ps) (parts_graft after g)

-- no part has no tree
pub holds_none : Holds [] bare
holds_none = λ others. refl

-- their trees, where nothing follows
pub holds_alone : (es : List Entry) (f : Forest) → Holds es f → forest es ≡ f
holds_alone es f h = ap forest (sym (append-nil es)) ∙ h [] ∙ ap (graft f) forest-none ∙ graft_bare f

-- a part over parts that it counts
pub holds_tree : (e : Entry) (es : List Entry) (f : Forest) → e.below ≡ length es → Holds es f → Holds (e ∷ es) (tree (content e) f bare)
holds_tree e es f n h = λ others.
    let t : take e.below (es ++ others) ≡ es = take_at es others e.below (sym n) in
    let d : drop e.below (es ++ others) ≡ others = drop_at es others e.below (sym n) in
    forest-first e (es ++ others)
    ∙ ap (λ x. tree (content e) (forest x) (forest (drop e.below (es ++ others)))) t
    ∙ ap (λ x. tree (content e) (forest es) (forest x)) d
    ∙ ap (λ x. tree (content e) x (forest others)) (holds_alone es f h)

-- parts behind parts
pub holds_then : (xs ys : List Entry) (f g : Forest) → Holds xs f → Holds ys g → Holds (xs ++ ys) (graft f g)
holds_then xs ys f g h k = λ others.
    ap forest (append_assoc xs ys others) ∙ h (ys ++ others) ∙ ap (graft f) (k others) ∙ sym (graft_assoc f g (forest others))

-- trees that are read one after another
pub reads_then : (prefix : List ℕ) (f g : Forest) (a b c : List ℕ) → Reads prefix (trees f) a b → Reads prefix (trees g) b c → Reads prefix (trees (graft f g)) a c
reads_then prefix _ g _ _ c (no_tree text) r = r
reads_then prefix _ g _ _ c (one_tree d below after text mid rest count fills own more) r =
    one_tree d below (graft after g) text mid c count fills own (reads_then prefix after g mid rest c more r)
