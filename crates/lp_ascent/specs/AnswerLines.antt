-- What the functions of states answer.
use Rattle.std.specs.Prelude.{ℕ, List, [], ◌∷◌, ◌++◌, map, codes}
use Rattle.std.specs.BTreeMap.{values}
use Rattle.lp_form.specs.declared.part.Part.TheVariants as part
use Rattle.lp_repr.specs.Numbering.{nonterminals_of}
use Rattle.lp_repr.specs.Shown.{parameter_text}
use Rattle.lp_repr.specs.ShownTypes.{clause_text, type_text}
use Rattle.lp_repr.specs.declared.parse_tree.TypeParameter.{TypeParameter}
use Rattle.lp_repr.specs.declared.repr.Grammar.{Grammar}
use Rattle.lp_repr.specs.declared.repr.NonterminalString.{NonterminalString}
use Rattle.lp_repr.specs.declared.repr.WhereClause.{WhereClause}
use Rattle.lp_tree.specs.ProgramTree.{Item}
use Rattle.lp_build.specs.Built.{over, row, text_if}
use Rattle.lp_parts.specs.Filter.{clauses_among, free_in_types, parameters_among}
use Rattle.lp_parts.specs.Texts.{comma_list, location_text}
use Rattle.lp_parts.specs.Variants.{nonterminal_type}
use Rattle.lp_table.specs.Pieces.{unless_empty}
use Rattle.lp_write.specs.Texts.{name_text}

-- the type parameters and clauses that the types of nonterminals need
unfoldable pub answer_parameters : Grammar → List TypeParameter
answer_parameters g = parameters_among g (free_in_types g (values g.types.nonterminals))

unfoldable pub answer_clauses : Grammar → List WhereClause
answer_clauses g = clauses_among g (free_in_types g (values g.types.nonterminals))

abbrev pub answer_parameters_text : Grammar → List ℕ
answer_parameters_text g = comma_list (map parameter_text (answer_parameters g))

abbrev pub answer_clauses_text : Grammar → List ℕ
answer_clauses_text g = comma_list (map clause_text (answer_clauses g))

-- the variant of a nonterminal: its escaped name
abbrev pub answer_name : NonterminalString → List ℕ
answer_name name = name_text name.0

abbrev pub answer_names : Grammar → List (List ℕ)
answer_names g = map answer_name (nonterminals_of g)

-- a value between two locations, without parentheses
abbrev pub located : Grammar → List ℕ → List ℕ
located g value = location_text g ++ (codes ", " ++ (value ++ (codes ", " ++ location_text g)))

abbrev pub answer_row : Grammar → NonterminalString → Item
answer_row g name = row part.ReturnRow (answer_name name ∷ located g (type_text (nonterminal_type g name)) ∷ [])

unfoldable pub answer_lines : Grammar → List Item
answer_lines g =
    over part.ReturnEnum (answer_parameters_text g ∷ [])
    (text_if part.WhereLine (unless_empty (answer_clauses_text g)) ++ map (answer_row g) (nonterminals_of g))
