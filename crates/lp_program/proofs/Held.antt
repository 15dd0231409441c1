-- What the parts behind a place hold: that of their trees, in their order.
use Rattle.std.proofs.Common.{◌≡◌, ℕ, zero, suc, ◌+◌, ◌<◌, ◌≤◌, List, [], ◌∷◌, ◌++◌, length, map, take, drop, refl, sym, ap, ◌∙◌, arith, append_assoc, length-drop, length-take, take-append-drop}
use Rattle.std.proofs.lemmas.List.{map-append, drop_at, drop-append-le}
use Rattle.lp_tree.specs.declared.tree.Entry.{Entry}
use Rattle.lp_program.specs.declared.read.reader.Reader.{Reader}
use Rattle.lp_program.specs.Adding.{Holds, kids}
use Rattle.lp_program.specs.Answering.{held}
use Rattle.lp_program.specs.Choosing.{contents}
use Rattle.lp_program.specs.Reads.{graft}
use Rattle.lp_program.specs.Trees.{Content, content, Forest, forest, forest_within, tree_count}
use Rattle.lp_program.specs.Trees.Forest.{bare, tree}
use Rattle.lp_program.proofs.Grafts.{holds_alone}

contents_within : (n : ℕ) (es : List Entry) → length es ≤ n → contents (forest_within n es) ≡ map content es
unfolding forest_within
contents_within zero [] le = refl
contents_within zero (e ∷ es) le = absurd (omega arith)
contents_within (suc n) [] le = refl
contents_within (suc n) (e ∷ es) le =
    let t = length-take e.below es in
    let d = length-drop e.below es in
    ap (λ (x : List Content). content e ∷ (x ++ contents (forest_within n (drop e.below es)))) (contents_within n (take e.below es) (omega (arith, t)))
    ∙ ap (λ (x : List Content). content e ∷ (map content (take e.below es) ++ x)) (contents_within n (drop e.below es) (omega (arith, d)))
    ∙ ap (λ (x : List Content). content e ∷ x) (sym (map-append content (take e.below es) (drop e.below es)) ∙ ap (map content) (take-append-drop e.below es))

contents_forest : (es : List Entry) → contents (forest es) ≡ map content es
unfolding forest
contents_forest es = contents_within (length es) es (omega arith)

pub contents_held : (es : List Entry) (f : Forest) → Holds es f → map content es ≡ contents f
contents_held es f h = sym (contents_forest es) ∙ ap contents (holds_alone es f h)

pub contents_graft : (f g : Forest) → contents (graft f g) ≡ contents f ++ contents g
contents_graft bare g = refl
contents_graft (tree c below after) g =
    ap (λ (x : List Content). c ∷ (contents below ++ x)) (contents_graft after g) ∙ ap (λ (x : List Content). c ∷ x) (sym (append_assoc (contents below) (contents after) (contents g)))

-- where parts are added behind a place
pub held_more : (at : ℕ) (old new : Reader) (more : List Entry) (f : Forest) → at < length old.entries.items → new.entries.items ≡ old.entries.items ++ more → Holds more f → held at new ≡ held at old ++ contents f
held_more at old new more f lt e h =
    ap (λ es. map content (drop (at + 1) es)) e ∙ ap (map content) (drop-append-le (at + 1) old.entries.items more (omega (arith, lt)))
    ∙ map-append content (drop (at + 1) old.entries.items) more ∙ ap (λ (x : List Content). held at old ++ x) (contents_held more f h)

-- where they are the first
pub held_first : (at : ℕ) (old new : Reader) (more : List Entry) (f : Forest) → at + 1 ≡ length old.entries.items → new.entries.items ≡ old.entries.items ++ more → Holds more f → held at new ≡ contents f
held_first at old new more f last e h = ap (λ es. map content (drop (at + 1) es)) e ∙ ap (map content) (drop_at old.entries.items more (at + 1) (sym last)) ∙ contents_held more f h

pub kids_first : (at : ℕ) (old new : Reader) (more : List Entry) (f : Forest) → at + 1 ≡ length old.entries.items → new.entries.items ≡ old.entries.items ++ more → Holds more f → kids at new ≡ tree_count f
kids_first at old new more f last e h = ap (λ es. tree_count (forest (drop (at + 1) es))) e ∙ ap (λ es. tree_count (forest es)) (drop_at old.entries.items more (at + 1) (sym last)) ∙ ap tree_count (holds_alone more f h)
