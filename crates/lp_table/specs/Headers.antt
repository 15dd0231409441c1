-- Headers of functions.
use Rattle.std.specs.Prelude.{ℕ, List, ◌++◌, map, codes}
use Rattle.lp_form.specs.declared.part.Part.TheVariants as part
use Rattle.lp_repr.specs.Shown.{parameter_text}
use Rattle.lp_repr.specs.ShownTypes.{clause_text, type_text}
use Rattle.lp_repr.specs.declared.repr.Grammar.{Grammar}
use Rattle.lp_repr.specs.declared.repr.Parameter.{Parameter}
use Rattle.lp_tree.specs.ProgramTree.{Item}
use Rattle.lp_build.specs.Built.{over, text_rows}
use Rattle.lp_build.specs.Functions.{clause_lines, name_holes, name_part, result_line}
use Rattle.lp_build.specs.declared.functions.FunctionName.{FunctionName}

-- a header of these texts
unfoldable pub header_lines : FunctionName → List (List ℕ) → List (List ℕ) → List ℕ → List (List ℕ) → List Item
header_lines name generics parameters answer clauses =
    over (name_part name) (name_holes name)
    (((text_rows part.TypeRow generics ++ text_rows part.ParameterRow parameters) ++ result_line answer) ++ clause_lines clauses)

-- the type parameters of a grammar
abbrev pub generics_of : Grammar → List (List ℕ)
generics_of g = map parameter_text g.type_parameters

-- a parameter as it is declared
abbrev pub declared_text : Parameter → List ℕ
declared_text p = p.name ++ (codes ": " ++ type_text p.ty)

abbrev pub declared_texts : Grammar → List (List ℕ)
declared_texts g = map declared_text g.parameters

-- the where clauses of a grammar
abbrev pub clauses_of : Grammar → List (List ℕ)
clauses_of g = map clause_text g.where_clauses

-- the names of its parameters
abbrev pub names_of : Grammar → List (List ℕ)
names_of g = map (λ p. p.name) g.parameters

-- a header with all of them, and further type parameters and parameters
abbrev pub grammar_header : Grammar → FunctionName → List (List ℕ) → List (List ℕ) → List ℕ → List Item
grammar_header g name generics parameters answer =
    header_lines name (generics_of g ++ generics) (declared_texts g ++ parameters) answer (clauses_of g)

-- a header with the type parameters and the clauses of a grammar
abbrev pub token_header : Grammar → FunctionName → List (List ℕ) → List ℕ → List Item
token_header g name parameters answer = header_lines name (generics_of g) parameters answer (clauses_of g)
