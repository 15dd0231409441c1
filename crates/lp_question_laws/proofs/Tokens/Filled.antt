-- The printed patterns of a program whose texts may stand where they do are filled as they may be.
use Rattle.std.proofs.Common.{◌≡◌, ℕ, zero, suc, ◌+◌, ◌<◌, Bool, true, false, ◌||◌, List, [], ◌∷◌, length, map, Some, get_or, refl, ap, ◌∙◌, arith, if◌then◌else◌}
use Rattle.std.specs.Prelude.{slice_get, decimal}
use Rattle.std.specs.List.{flat_map}
use Rattle.std.proofs.lemmas.Bool.{lt-ltb}
use Rattle.std.proofs.lemmas.List.{length-map}
use Rattle.lp_form.specs.Templates.{holes_of}
use Rattle.lp_form.specs.declared.part.Part.TheVariants as part
use Rattle.lp_repr.specs.declared.repr.Grammar.{Grammar}
use Rattle.lp_tree.specs.ProgramTree.{Item}
use Rattle.lp_build.specs.Built.{barred}
use Rattle.lp_build.specs.Tables as build
use Rattle.lp_spelling.specs.Fillings.{has_shape, are_filled, fits_behind, Fits}
use Rattle.lp_reading_laws.specs.Printing.WellFormed.{HolesFill}
use Rattle.lp_table.specs.Pieces.{variant_text}
use Rattle.lp_table.specs.TokenLines.{Known, known_terminals, groups_of, in_group, number_of, pattern_of, captured_value, group_arm, symbols_header, token_symbols, same_group}
use Rattle.lp_table.specs.declared.tokens.Group.{Group}
use Rattle.lp_question_laws.proofs.Tokens.Groups.{has_group, group_is}
use Rattle.lp_question_laws.proofs.Tokens.ToldBy.{AreFilled}
use Rattle.lp_question_laws.proofs.Gotos.LinkMaps.{get_more}
use Rattle.lp_question_laws.proofs.Tables.Entries.{get_behind}

-- the second hole of a row with patterns
hole_filled : (prefix : List ℕ) (holes : List (List ℕ)) → HolesFill prefix (holes_of part.SymbolMatch) holes → are_filled prefix (get_or holes 1 []) ≡ true
unfolding Fits has_shape holes_of
hole_filled prefix holes h = ((h 1 (omega arith)).0).1.0

-- ---- where rows stand
mapped_place : {X Y : Type 0} (f : X → Y) (xs : List X) (n : ℕ) (y : Y) → slice_get (map f xs) n ≡ Some y → (x : X) × (slice_get xs n ≡ Some x) × (f x ≡ y)
mapped_place f [] n y h = absurd cc
mapped_place f (x ∷ xs) zero y h = (let same : f x ≡ y = cc in (x, refl, same))
mapped_place f (x ∷ xs) (suc n) y h = mapped_place f xs n y h

-- a group that is one of these
group_place : (x : Group) (groups : List Group) → has_group x groups ≡ true → (i : ℕ) × (slice_get groups i ≡ Some x)
group_place x [] h = absurd cc
group_place x (y ∷ groups) h = by (same_group y x) refl h (group_place x groups)
  where
    by : (b : Bool) → same_group y x ≡ b → (b || has_group x groups) ≡ true → (has_group x groups ≡ true → (i : ℕ) × (slice_get groups i ≡ Some x)) → (i : ℕ) × (slice_get (y ∷ groups) i ≡ Some x)
    by true is h later = (0, ap Some (group_is y x is))
    by false is h later = (let r = later h in (suc r.0, r.1))

flat_place : {X Y : Type 0} (f : X → List Y) (xs : List X) (i : ℕ) (x : X) (y : Y) → slice_get xs i ≡ Some x → f x ≡ y ∷ [] → (n : ℕ) × (slice_get (flat_map f xs) n ≡ Some y)
flat_place f [] i x y at is = absurd cc
flat_place f (z ∷ xs) zero x y at is = (let same : z ≡ x = cc in (0, get_more (f z) (flat_map f xs) 0 y (ap (λ (l : List _). slice_get l 0) (ap f same ∙ is))))
flat_place f (z ∷ xs) (suc i) x y at is = (let r = flat_place f xs i x y at is in (length (f z) + r.0, get_behind (f z) (flat_map f xs) r.0 ∙ r.1))

none_filled : (prefix : List ℕ) → are_filled prefix [] ≡ true
unfolding are_filled fits_behind
none_filled prefix = refl

-- the row of a group with patterns
arm_is : (ns : List ℕ) (ps : List (List ℕ)) (variant captures : List ℕ) → 0 < length ps → build.symbol_row ns ps variant captures ≡ (part.SymbolMatch, barred (map decimal ns) ∷ barred ps ∷ variant ∷ captures ∷ [], [], 0) ∷ []
arm_is ns [] variant captures some = absurd (omega arith)
arm_is ns (p ∷ ps) variant captures some = refl

group_row : (prefix : List ℕ) (ks : List Known) (group : Group) → 0 < group.captures → 0 < length (in_group group ks)
    → group_arm prefix ks group ≡ (part.SymbolMatch, barred (map decimal (map number_of (in_group group ks))) ∷ barred (map (pattern_of prefix) (in_group group ks)) ∷ variant_text group.variant ∷ captured_value prefix group.captures ∷ [], [], 0) ∷ []
group_row prefix ks group some members =
    let ps = map (pattern_of prefix) (in_group group ks) in
    let ns = map number_of (in_group group ks) in
    let there : 0 < length ps = (let e : length ps ≡ length (in_group group ks) = length-map (in_group group ks) (pattern_of prefix) in omega arith) in
    ap (λ b. build.symbol_row ns (if b then ps else []) (variant_text group.variant) (captured_value prefix group.captures)) (lt-ltb 0 group.captures some)
    ∙ arm_is ns ps (variant_text group.variant) (captured_value prefix group.captures) there

-- a row with patterns whose holes hold what they may
pub row_filled : (prefix a b c d : List ℕ) → HolesFill prefix (holes_of part.SymbolMatch) (a ∷ b ∷ c ∷ d ∷ []) → are_filled prefix b ≡ true
row_filled prefix a b c d fills = hole_filled prefix (a ∷ b ∷ c ∷ d ∷ []) fills

-- the rows of the function from a token to its symbol hold patterns that are filled
pub filled_by : (g : Grammar) → ((n : ℕ) (a b c d : List ℕ) → slice_get (token_symbols g) n ≡ Some (part.SymbolMatch, a ∷ b ∷ c ∷ d ∷ [], [], 0) → are_filled g.prefix b ≡ true) → AreFilled g
unfolding token_symbols
filled_by g rows group there some = by (in_group group (known_terminals g)) refl
  where
    by : (members : List Known) → in_group group (known_terminals g) ≡ members → are_filled g.prefix (barred (map (pattern_of g.prefix) (in_group group (known_terminals g)))) ≡ true
    by [] is = ap (λ (l : List Known). are_filled g.prefix (barred (map (pattern_of g.prefix) l))) is ∙ none_filled g.prefix
    by (k ∷ members) is =
        let ks = known_terminals g in
        let arms = flat_map (group_arm g.prefix ks) (groups_of ks) in
        let here : Item = (part.SymbolMatch, barred (map decimal (map number_of (in_group group ks))) ∷ barred (map (pattern_of g.prefix) (in_group group ks)) ∷ variant_text group.variant ∷ captured_value g.prefix group.captures ∷ [], [], 0) in
        let many : 0 < length (in_group group ks) = omega (arith, ap length is) in
        let place = group_place group (groups_of ks) there in
        let among = flat_place (group_arm g.prefix ks) (groups_of ks) place.0 group here place.1 (group_row g.prefix ks group some many) in
        let n = suc (length (symbols_header g) + among.0) in
        rows n (barred (map decimal (map number_of (in_group group ks)))) (barred (map (pattern_of g.prefix) (in_group group ks))) (variant_text group.variant) (captured_value g.prefix group.captures) (get_behind (symbols_header g) arms among.0 ∙ among.1)
