-- What is built of a grammar and its states has one text.
use Rattle.std.proofs.Common.{◌≡◌, Bool, ℕ, zero, suc, List, [], ◌∷◌, ◌++◌, length, map, take, drop, Option, Some, None, slice_get, refl, sym, ap, ◌∙◌, subst, arith}
use Rattle.std.proofs.lemmas.List.{drop-map, take-map}
use Rattle.lp_form.specs.declared.part.Part.TheVariants as part
use Rattle.lp_repr.specs.declared.lr1.Lr1State.{Lr1State}
use Rattle.lp_repr.specs.declared.lr1.StartStates.{StartStates}
use Rattle.lp_repr.specs.declared.repr.Grammar.{Grammar}
use Rattle.lp_repr.specs.declared.repr.LrCodeGeneration.{LrCodeGeneration}
use Rattle.lp_repr.specs.declared.repr.LrCodeGeneration.TheVariants.{RecursiveAscent, TableDriven, TestAll}
use Rattle.lp_repr.specs.declared.repr.NonterminalString.{NonterminalString}
use Rattle.lp_tree.specs.ProgramTree.{Item, Note, entry_notes, item, program_items, program_notes}
use Rattle.lp_tree.specs.declared.tree.Entry.{Entry}
use Rattle.lp_build.specs.Built.{over}
use Rattle.lp_write.specs.declared.rust.Options.{Options}
use Rattle.lp_program.specs.Printed.{all_lines, printed}
use Rattle.lp_program.specs.Trees.{Content, content, Forest, forest, forest_within, whole}
use Rattle.lp_program.specs.Trees.Forest.{bare, tree}
use Rattle.lp_write.specs.Lines.{lines_bytes}
use Rattle.lp_actions.specs.ActionFunctions.{action_functions}
use Rattle.lp_notes.specs.Notes.{notes_of_program}
use Rattle.lp_assembly.specs.Built.{AreFollowed, AreModules, IsModuleBy, front_lines, reexport_lines, token_lines, triple_lines}
use Rattle.lp_emitted.specs.Laws.{BuiltIsOne}

-- the modules are given
module_one : (c : LrCodeGeneration) (g : Grammar) (start : ℕ) (states : List Lr1State) (a b : List Item) → IsModuleBy c g start states a → IsModuleBy c g start states b → a ≡ b
module_one RecursiveAscent g start states a b x y = x ∙ sym y
module_one TableDriven g start states a b x y = x ∙ sym y
module_one TestAll g start states a b x y = x ∙ sym y

followed_one : (g : Grammar) (start : ℕ) (names : Option (NonterminalString × NonterminalString)) (list : Option StartStates) (before a b : List Item) →
    AreFollowed g start names list before a → AreFollowed g start names list before b → a ≡ b
followed_one g start None list before a b x y = absurd x
followed_one g start (Some names) None before a b x y = x ∙ sym y
followed_one g start (Some names) (Some list) before a b x y =
    let inside : x.0 ≡ y.0 = module_one g.algorithm.codegen g start list.states x.0 y.0 x.1 y.1 in
    x.2 ∙ ap (λ (l : List Item). (before ++ l) ++ reexport_lines g names.0 names.1) inside ∙ sym y.2

modules_one : (g : Grammar) (states : List StartStates) (starts : ℕ) (a b : List Item) → AreModules g states starts a → AreModules g states starts b → a ≡ b
modules_one g states zero a b x y = x ∙ sym y
modules_one g states (suc n) a b x y =
    let e : x.0 ≡ y.0 = modules_one g states n x.0 y.0 x.1 y.1 in
    followed_one g n (slice_get g.start_nonterminals.entries n) (slice_get states n) y.0 a b
    (subst (λ (before : List Item). AreFollowed g n (slice_get g.start_nonterminals.entries n) (slice_get states n) before a) e x.2) y.2

-- what a text tells of an entry
abbrev Told : Type 0
Told = Content × ℕ

abbrev told : Entry → Told
told e = (content e, e.below)

abbrev told_by : Item → List Note → Told
told_by i notes = (record { part = i.0; holes = i.1; numbers = i.2; notes = notes }, i.3)

abbrev first_or : {X : Type 0} → X → List X → X
first_or d [] = d
first_or d (x ∷ xs) = x

abbrev rest_of : {X : Type 0} → List X → List X
rest_of [] = []
rest_of (x ∷ xs) = xs

none_some : {X : Type 0} (x : X) (xs : List X) → [] ≡ x ∷ xs → ⊥
none_some {X} x xs h = let e : length {A = X} [] ≡ length (x ∷ xs) = ap length h in omega (arith, e)

entries_told : (es fs : List Entry) → map item es ≡ map item fs → map entry_notes es ≡ map entry_notes fs → map told es ≡ map told fs
entries_told [] [] i n = refl
entries_told [] (f ∷ fs) i n = absurd (none_some (item f) (map item fs) i)
entries_told (e ∷ es) [] i n = absurd (none_some (item e) (map item es) (sym i))
entries_told (e ∷ es) (f ∷ fs) i n =
    let one : item e ≡ item f = ap (first_or (item e)) i in
    let note : entry_notes e ≡ entry_notes f = ap (first_or (entry_notes e)) n in
    let head : told e ≡ told f = ap (λ (x : Item). told_by x (entry_notes e)) one ∙ ap (told_by (item f)) note in
    ap (λ (x : Told). x ∷ map told es) head ∙ ap (λ (l : List Told). told f ∷ l) (entries_told es fs (ap rest_of i) (ap rest_of n))

-- its trees
within_one : (n : ℕ) (es fs : List Entry) → map told es ≡ map told fs → forest_within n es ≡ forest_within n fs
unfolding forest_within
within_one zero es fs h = refl
within_one (suc n) [] [] h = refl
within_one (suc n) [] (f ∷ fs) h = absurd (none_some (told f) (map told fs) h)
within_one (suc n) (e ∷ es) [] h = absurd (none_some (told e) (map told es) (sym h))
within_one (suc n) (e ∷ es) (f ∷ fs) h =
    let head : told e ≡ told f = ap (first_or (told e)) h in
    let rest : map told es ≡ map told fs = ap rest_of h in
    let size : e.below ≡ f.below = ap (λ (x : Told). x.1) head in
    let below = within_one n (take e.below es) (take f.below fs) (sym (take-map told e.below es) ∙ ap (take e.below) rest ∙ ap (λ (k : ℕ). take k (map told fs)) size ∙ take-map told f.below fs) in
    let after = within_one n (drop e.below es) (drop f.below fs) (sym (drop-map told e.below es) ∙ ap (drop e.below) rest ∙ ap (λ (k : ℕ). drop k (map told fs)) size ∙ drop-map told f.below fs) in
    ap (λ (x : Told). tree x.0 (forest_within n (take e.below es)) (forest_within n (drop e.below es))) head
    ∙ ap (λ (t : Forest). tree (content f) t (forest_within n (drop e.below es))) below
    ∙ ap (tree (content f) (forest_within n (take f.below fs))) after

length-told : (es : List Entry) → length (map told es) ≡ length es
length-told [] = refl
length-told (e ∷ es) = ap suc (length-told es)

forest_one : (es fs : List Entry) → map told es ≡ map told fs → forest es ≡ forest fs
unfolding forest
forest_one es fs h =
    let size : length es ≡ length fs = sym (length-told es) ∙ ap length h ∙ length-told fs in
    within_one (length es) es fs h ∙ ap (λ (n : ℕ). forest_within n fs) size

whole_one : (es fs : List Entry) → map told es ≡ map told fs → whole es ≡ whole fs
whole_one [] [] h = refl
whole_one [] (f ∷ fs) h = absurd (none_some (told f) (map told fs) h)
whole_one (e ∷ es) [] h = absurd (none_some (told e) (map told es) (sym h))
whole_one (e ∷ es) (f ∷ fs) h =
    let head : told e ≡ told f = ap (first_or (told e)) h in
    ap (λ (x : Told). tree x.0 (forest es) bare) head ∙ ap (λ (t : Forest). tree (content f) t bare) (forest_one es fs (ap rest_of h))

-- its text
abbrev text_by : Options → List ℕ → Forest → List ℕ
text_by options prefix f = lines_bytes options.whitespace 0 (all_lines (printed options prefix f))

pub built_is_one : BuiltIsOne
built_is_one g states comments one other options (a, a_so) (b, b_so) =
    let modules : a.modules ≡ b.modules = modules_one g states (length g.start_nonterminals.entries) a.modules b.modules a.each b.each in
    let items : program_items one ≡ program_items other =
    a.parts ∙ ap (λ (l : List Item). over part.Program [] ((((front_lines g ++ l) ++ token_lines g g.intern_token) ++ action_functions g) ++ triple_lines g)) modules ∙ sym b.parts in
    let notes : program_notes one ≡ program_notes other = a.notes ∙ ap (λ (c : Bool). notes_of_program c g states (program_items one)) (a_so ∙ sym b_so) ∙ ap (notes_of_program b.comments g states) items ∙ sym b.notes in
    let trees = whole_one one.entries.items other.entries.items (entries_told one.entries.items other.entries.items items notes) in
    ap (λ (p : List ℕ). text_by options p (whole one.entries.items)) (a.prefix ∙ sym b.prefix) ∙ ap (text_by options other.prefix) trees
