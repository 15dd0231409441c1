-- The forms around the modules.
use Rattle.std.specs.Prelude.{ℕ, Bool, ◌||◌, List, [], ◌∷◌, ◌++◌, length, take, drop, not, Option, Some, None, unwrap_or, if◌then◌else◌}
use Rattle.std.specs.List.{flat_map, list_any, position}
use Rattle.lp_form.specs.declared.part.Part.{Part}
use Rattle.lp_form.specs.declared.part.Part.TheVariants as part
use Rattle.lp_tree.specs.ProgramTree.{Item, Note, all_notes, is_part, items}
use Rattle.lp_tree.specs.declared.tree.Node.{Node}
use Rattle.lp_build.specs.Built.{leaf_if, over, row}
use Rattle.lp_build.specs.declared.frame.InternEntry.{InternEntry}
use Rattle.lp_build.specs.declared.frame.Triples.{Triples}
use Rattle.lp_build.specs.declared.frame.Triples.TheVariants as triples

-- a use, the standard uses or the token use, which stand before the items of a module
abbrev pub is_before_items : Node → Bool
is_before_items n =
    is_part part.UseLine n || is_part part.StandardUses n || is_part part.TokenUseInterned n || is_part part.TokenUsePlain n

-- the place of the first item, or that behind all nodes
abbrev pub items_place : List Node → ℕ
items_place ns = unwrap_or (position (λ n. not (is_before_items n)) ns) (length ns)

-- the items of table-driven code, which begin with a symbol enum, or of recursive ascent
abbrev pub items_part : List Node → Part
items_part [] = part.AscentItems
items_part (n ∷ ns) = if is_part part.SymbolEnum n then part.TableItems else part.AscentItems

-- the items of a module as one list, if there are some
abbrev pub item_list : List Node → List Item
item_list [] = []
item_list (n ∷ ns) = over (items_part (n ∷ ns)) [] (flat_map items (n ∷ ns))

-- what is below a module: what stands before the items, and the items
abbrev pub module_lines : List Node → List Item
module_lines ns = flat_map items (take (items_place ns) ns) ++ item_list (drop (items_place ns) ns)

-- the notes of the items of a module
abbrev pub item_list_notes : List Node → List (List Note)
item_list_notes [] = []
item_list_notes (n ∷ ns) = [] ∷ flat_map all_notes (n ∷ ns)

-- the notes of what is below a module
abbrev pub module_notes : List Node → List (List Note)
module_notes ns = flat_map all_notes (take (items_place ns) ns) ++ item_list_notes (drop (items_place ns) ns)

-- a regular expression of the tokens, whose matches are kept or skipped
abbrev pub intern_row : InternEntry → Item
intern_row e = row (if e.skip then part.InternSkip else part.InternKeep) (e.literal ∷ [])

-- white space is skipped where nothing else is
abbrev pub white_space : List InternEntry → List Item
white_space entries = leaf_if (not (list_any (λ e. e.skip) entries)) part.WhitespaceRow

-- a text, where it is there
abbrev pub hole_if : Option (List ℕ) → List (List ℕ)
hole_if None = []
hole_if (Some text) = text ∷ []

-- how items become triples
abbrev pub triple_part : Option (List ℕ) → Triples → Part
triple_part (Some clauses) (triples.Located triple error) = part.ToTripleLocatedWhere
triple_part None (triples.Located triple error) = part.ToTripleLocated
triple_part (Some clauses) (triples.Plain token error) = part.ToTriplePlainWhere
triple_part None (triples.Plain token error) = part.ToTriplePlain

abbrev pub triple_holes : Triples → List (List ℕ)
triple_holes (triples.Located triple error) = triple ∷ error ∷ []
triple_holes (triples.Plain token error) = token ∷ error ∷ []
