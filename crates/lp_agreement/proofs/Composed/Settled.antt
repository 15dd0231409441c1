-- Forms whose counts are those of the parts that stand below, and which hold entries only where there is a table: as trees tell them.
use Rattle.std.proofs.Common.{◌≡◌, ℕ, zero, suc, ◌≤◌, ℤ, Bool, true, false, if◌then◌else◌, List, [], ◌∷◌, ◌++◌, length, map, take, drop, get_or, refl, sym, ap, ◌∙◌, arith, length-drop, append-nil}
use Rattle.std.proofs.lemmas.List.{take-map, drop-map, length-map, map-append}
use Rattle.lp_form.specs.Templates.{steps_of}
use Rattle.lp_form.specs.declared.part.Part.{Part}
use Rattle.lp_form.specs.declared.part.Part.TheVariants as part
use Rattle.lp_tree.specs.ProgramTree.{Item, item, program_items}
use Rattle.lp_tree.specs.declared.tree.Entry.{Entry}
use Rattle.lp_tree.specs.declared.tree.Program.{Program}
use Rattle.lp_view.specs.PartLists.{Form, level, level_all, parts_of}
use Rattle.lp_program.specs.OwnLines.{hole}
use Rattle.lp_program.specs.Trees.{Content, Forest, forest, forest_within, whole}
use Rattle.lp_program.specs.Trees.Forest.{bare, tree}
use Rattle.lp_reading_laws.specs.Printing.AsRead.{code_read, content_read, forest_read}
use Rattle.lp_reading_laws.specs.Printing.TemplateTests.{has_code}
use Rattle.lp_reading_laws.specs.Choosing.Laws.{have_table, told_content, told_trees}
use Rattle.lp_question_laws.proofs.Gotos.Whole.{AreWhole, flat, parts_over}

-- entries, where a part has a table
abbrev pub kept_numbers : Part → List ℤ → List ℤ
kept_numbers p numbers = if have_table (steps_of p) then numbers else []

-- a part over these
abbrev pub counting : Item → List Item → Item
counting e below = (e.0, e.1, kept_numbers e.0 e.2, length below)

-- parts that count those that stand below them, among at most so many
unfoldable pub settled_within : ℕ → List Item → List Item
settled_within zero es = []
settled_within (suc n) [] = []
settled_within (suc n) (e ∷ es) = counting e (settled_within n (take e.3 es)) ∷ (settled_within n (take e.3 es) ++ settled_within n (drop e.3 es))

abbrev pub settled : List Item → List Item
settled es = settled_within (length es) es

-- a form, all of which stands below its first part
abbrev pub seen : Form → Form
seen [] = []
seen (e ∷ es) = counting e (settled es) ∷ settled es

length-take-le : (n : ℕ) (es : List Item) → length (take n es) ≤ length es
length-take-le zero es = omega arith
length-take-le (suc n) [] = omega arith
length-take-le (suc n) (e ∷ es) = let h = length-take-le n es in omega (arith, h)

-- a greater bound changes nothing
within_enough : (n m : ℕ) (es : List Item) → length es ≤ n → length es ≤ m → settled_within n es ≡ settled_within m es
unfolding settled_within
within_enough zero zero es h k = refl
within_enough zero (suc m) [] h k = refl
within_enough zero (suc m) (e ∷ es) h k = absurd (omega arith)
within_enough (suc n) zero [] h k = refl
within_enough (suc n) zero (e ∷ es) h k = absurd (omega arith)
within_enough (suc n) (suc m) [] h k = refl
within_enough (suc n) (suc m) (e ∷ es) h k =
    let t = length-take-le e.3 es in
    let d = length-drop e.3 es in
    ap (λ (x : List Item). counting e x ∷ (x ++ settled_within n (drop e.3 es))) (within_enough n m (take e.3 es) (omega (arith, t)) (omega (arith, t)))
    ∙ ap (λ (x : List Item). counting e (settled_within m (take e.3 es)) ∷ (settled_within m (take e.3 es) ++ x)) (within_enough n m (drop e.3 es) (omega (arith, d)) (omega (arith, d)))

-- they are the same forms side by side
settled_flat : (n : ℕ) (es : List Item) → length es ≤ n → settled_within n es ≡ flat (map seen (level n es))
unfolding settled_within
settled_flat zero es h = refl
settled_flat (suc n) [] h = refl
settled_flat (suc n) (e ∷ es) h =
    let t = length-take-le e.3 es in
    let d = length-drop e.3 es in
    ap (λ (x : List Item). counting e x ∷ (x ++ settled_within n (drop e.3 es))) (within_enough n (length (take e.3 es)) (take e.3 es) (omega (arith, t)) (omega arith))
    ∙ ap (λ (x : List Item). counting e (settled (take e.3 es)) ∷ (settled (take e.3 es) ++ x)) (settled_flat n (drop e.3 es) (omega (arith, d)))

seen_whole : (n : ℕ) (es : List Item) → AreWhole (map seen (level n es))
seen_whole zero es = tt
seen_whole (suc n) [] = tt
seen_whole (suc n) (e ∷ es) = (refl, seen_whole n (drop e.3 es))

-- so the parts of a form are seen as they are
pub parts_seen : (f : Form) → parts_of (seen f) ≡ map seen (parts_of f)
parts_seen [] = refl
parts_seen (e ∷ es) =
    ap level_all (settled_flat (length es) es (omega arith)) ∙ parts_over part.Program [] (map seen (level_all es)) (seen_whole (length es) es)

-- ---- trees
-- the parts of trees, each before those below it
abbrev pub tree_items : Forest → List Item
tree_items bare = []
tree_items (tree c below after) = (c.part, c.holes, kept_numbers c.part c.numbers, length (tree_items below)) ∷ (tree_items below ++ tree_items after)

trees_within : (n : ℕ) (es : List Entry) → tree_items (forest_within n es) ≡ settled_within n (map item es)
unfolding forest_within settled_within
trees_within zero es = refl
trees_within (suc n) [] = refl
trees_within (suc n) (e ∷ es) =
    let below : tree_items (forest_within n (take e.below es)) ≡ settled_within n (take e.below (map item es)) = trees_within n (take e.below es) ∙ ap (settled_within n) (sym (take-map item e.below es)) in
    let after : tree_items (forest_within n (drop e.below es)) ≡ settled_within n (drop e.below (map item es)) = trees_within n (drop e.below es) ∙ ap (settled_within n) (sym (drop-map item e.below es)) in
    ap (λ (x : List Item). counting (item e) x ∷ (x ++ tree_items (forest_within n (drop e.below es)))) below
    ∙ ap (λ (x : List Item). counting (item e) (settled_within n (take e.below (map item es))) ∷ (settled_within n (take e.below (map item es)) ++ x)) after

forest_settled : (es : List Entry) → tree_items (forest es) ≡ settled (map item es)
unfolding forest
forest_settled es = trees_within (length es) es ∙ ap (λ (n : ℕ). settled_within n (map item es)) (sym (length-map es item))

pub whole_seen : (es : List Entry) → tree_items (whole es) ≡ seen (map item es)
whole_seen [] = refl
whole_seen (e ∷ es) =
    ap (λ (x : List Item). counting (item e) (tree_items (forest es)) ∷ x) (append-nil (tree_items (forest es))) ∙ ap (λ (x : List Item). counting (item e) x ∷ x) (forest_settled es)

-- ---- as a text tells them
abbrev pub coded_holes : Bool → Part → List (List ℕ) → List (List ℕ)
coded_holes whitespace p holes = if has_code (steps_of p) then code_read whitespace (get_or holes 0 []) ∷ [] else holes

-- a part whose user code is as it reads
abbrev pub coded : Bool → Item → Item
coded whitespace i = (i.0, coded_holes whitespace i.0 i.1, i.2, i.3)

kept_twice : (p : Part) (numbers : List ℤ) → kept_numbers p (kept_numbers p numbers) ≡ kept_numbers p numbers
kept_twice p numbers = by (have_table (steps_of p))
  where
    by : (b : Bool) → (if b then (if b then numbers else []) else []) ≡ (if b then numbers else [])
    by true = refl
    by false = refl

abbrev held : Part → List (List ℕ) → List ℤ → ℕ → Item
held p holes numbers n = (p, holes, kept_numbers p numbers, n)

content_held : (whitespace : Bool) (c : Content) (n : ℕ) → held (content_read whitespace c).part (content_read whitespace c).holes (content_read whitespace c).numbers n ≡ held c.part (coded_holes whitespace c.part c.holes) c.numbers n
content_held whitespace c n = by (has_code (steps_of c.part))
  where
    by : (b : Bool) → (let d : Content = if b then record c { holes = code_read whitespace (hole c 0) ∷ [] } else c in held d.part d.holes d.numbers n) ≡ held c.part (if b then code_read whitespace (get_or c.holes 0 []) ∷ [] else c.holes) c.numbers n
    by true = refl
    by false = refl

abbrev laid : Content → List Item → List Item → List Item
laid c below after = (c.part, c.holes, kept_numbers c.part c.numbers, length below) ∷ (below ++ after)

told_laid : (whitespace : Bool) (c : Content) (below after : List Item) → laid (told_content (content_read whitespace c)) below after ≡ coded whitespace (c.part, c.holes, kept_numbers c.part c.numbers, length below) ∷ (below ++ after)
told_laid whitespace c below after =
    let d = content_read whitespace c in
    ap (λ (n : List ℤ). (d.part, d.holes, n, length below) ∷ (below ++ after)) (kept_twice d.part d.numbers)
    ∙ ap (λ (i : Item). i ∷ (below ++ after)) (content_held whitespace c (length below))

pub told_items : (whitespace : Bool) (f : Forest) → tree_items (told_trees (forest_read whitespace f)) ≡ map (coded whitespace) (tree_items f)
told_items whitespace bare = refl
told_items whitespace (tree c below after) =
    let b = told_items whitespace below in
    let a = told_items whitespace after in
    let own : Item = (c.part, c.holes, kept_numbers c.part c.numbers, length (tree_items below)) in
    ap (λ (x : List Item). laid (told_content (content_read whitespace c)) x (tree_items (told_trees (forest_read whitespace after)))) b
    ∙ ap (λ (x : List Item). laid (told_content (content_read whitespace c)) (map (coded whitespace) (tree_items below)) x) a
    ∙ told_laid whitespace c (map (coded whitespace) (tree_items below)) (map (coded whitespace) (tree_items after))
    ∙ ap (λ (n : ℕ). coded whitespace (c.part, c.holes, kept_numbers c.part c.numbers, n) ∷ (map (coded whitespace) (tree_items below) ++ map (coded whitespace) (tree_items after))) (length-map (tree_items below) (coded whitespace))
    ∙ ap (λ (x : List Item). coded whitespace own ∷ x) (sym (map-append (coded whitespace) (tree_items below) (tree_items after)))

-- codes and counts don't meet
coded_within : (whitespace : Bool) (n : ℕ) (es : List Item) → settled_within n (map (coded whitespace) es) ≡ map (coded whitespace) (settled_within n es)
unfolding settled_within
coded_within whitespace zero es = refl
coded_within whitespace (suc n) [] = refl
coded_within whitespace (suc n) (e ∷ es) =
    let c = coded whitespace in
    let b : settled_within n (take e.3 (map c es)) ≡ map c (settled_within n (take e.3 es)) = ap (settled_within n) (take-map c e.3 es) ∙ coded_within whitespace n (take e.3 es) in
    let a : settled_within n (drop e.3 (map c es)) ≡ map c (settled_within n (drop e.3 es)) = ap (settled_within n) (drop-map c e.3 es) ∙ coded_within whitespace n (drop e.3 es) in
    ap (λ (x : List Item). counting (c e) x ∷ (x ++ settled_within n (drop e.3 (map c es)))) b
    ∙ ap (λ (x : List Item). counting (c e) (map c (settled_within n (take e.3 es))) ∷ (map c (settled_within n (take e.3 es)) ++ x)) a
    ∙ ap (λ (k : ℕ). (e.0, coded_holes whitespace e.0 e.1, kept_numbers e.0 e.2, k) ∷ (map c (settled_within n (take e.3 es)) ++ map c (settled_within n (drop e.3 es)))) (length-map (settled_within n (take e.3 es)) c)
    ∙ ap (λ (x : List Item). c (counting e (settled_within n (take e.3 es))) ∷ x) (sym (map-append c (settled_within n (take e.3 es)) (settled_within n (drop e.3 es))))

pub coded_seen : (whitespace : Bool) (f : Form) → seen (map (coded whitespace) f) ≡ map (coded whitespace) (seen f)
coded_seen whitespace [] = refl
coded_seen whitespace (e ∷ es) =
    let c = coded whitespace in
    let same : settled (map c es) ≡ map c (settled es) = ap (λ (n : ℕ). settled_within n (map c es)) (length-map es c) ∙ coded_within whitespace (length es) es in
    ap (λ (x : List Item). counting (c e) x ∷ x) same
    ∙ ap (λ (k : ℕ). (e.0, coded_holes whitespace e.0 e.1, kept_numbers e.0 e.2, k) ∷ map c (settled es)) (length-map (settled es) c)

-- a program that is read of one that was printed is seen as it, with its codes as they read
pub read_seen : (whitespace : Bool) (built read : Program) → whole read.entries.items ≡ told_trees (forest_read whitespace (whole built.entries.items)) → seen (program_items read) ≡ seen (map (coded whitespace) (program_items built))
read_seen whitespace built read same =
    sym (whole_seen read.entries.items) ∙ ap tree_items same ∙ told_items whitespace (whole built.entries.items) ∙ ap (map (coded whitespace)) (whole_seen built.entries.items) ∙ sym (coded_seen whitespace (program_items built))
