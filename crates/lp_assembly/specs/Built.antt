-- The program that a grammar and its states determine.
use Rattle.std.specs.Prelude.{◌≡◌, ℕ, Bool, zero, suc, List, [], ◌∷◌, ◌++◌, length, map, slice_get, codes, Option, Some, None, All}
use Rattle.std.specs.List.{flat_map, join_by}
use Rattle.lp_form.specs.declared.part.Part.TheVariants as part
use Rattle.lp_repr.specs.Escapes.{escaped_text}
use Rattle.lp_repr.specs.Shown.{parameter_text, visibility_text}
use Rattle.lp_repr.specs.ShownTypes.{clause_text}
use Rattle.lp_repr.specs.declared.lr1.Lr1State.{Lr1State}
use Rattle.lp_repr.specs.declared.lr1.StartStates.{StartStates}
use Rattle.lp_repr.specs.declared.repr.Grammar.{Grammar}
use Rattle.lp_repr.specs.declared.repr.InternToken.{InternToken}
use Rattle.lp_repr.specs.declared.repr.LrCodeGeneration.{LrCodeGeneration}
use Rattle.lp_repr.specs.declared.repr.LrCodeGeneration.TheVariants.{RecursiveAscent}
use Rattle.lp_repr.specs.declared.repr.MatchEntry.{MatchEntry}
use Rattle.lp_repr.specs.declared.repr.NonterminalString.{NonterminalString}
use Rattle.lp_repr.specs.declared.repr.TypeRepr.{TypeRepr}
use Rattle.lp_repr.specs.declared.repr.WhereClause.{WhereClause}
use Rattle.lp_tree.specs.ProgramTree.{Item, leaf, program_items, program_notes}
use Rattle.lp_tree.specs.declared.tree.Program.{Program}
use Rattle.lp_build.specs.Built.{over}
use Rattle.lp_build.specs.Frame.{hole_if, intern_row, triple_holes, triple_part, white_space}
use Rattle.lp_build.specs.declared.frame.InternEntry.{InternEntry}
use Rattle.lp_build.specs.declared.frame.Triples.{Triples}
use Rattle.lp_build.specs.declared.frame.Triples.TheVariants.{Located, Plain}
use Rattle.lp_notes.specs.Notes.{notes_of_program}
use Rattle.lp_parts.specs.Entries.{EntriesFit}
use Rattle.lp_parts.specs.Texts.{each_with_comma, error_text, location_text, token_text}
use Rattle.lp_ascent.specs.BuiltAscent.{built_ascent_at}
use Rattle.lp_table.specs.BuiltTable.{built_table_at}
use Rattle.lp_table.specs.FrameLines.{inner_uses}
use Rattle.lp_actions.specs.ActionFunctions.{action_functions}
use Rattle.lp_assembly.specs.Visibilities.{visibility_at, widest}

-- the attributes and the uses, each a line, and the uses that each program has
abbrev pub attribute_lines : List (List ℕ) → List Item
attribute_lines texts = flat_map (λ text. leaf part.Attribute (text ∷ [])) texts

abbrev pub use_lines : List (List ℕ) → List Item
use_lines texts = flat_map (λ text. leaf part.UseLine (text ∷ [])) texts

abbrev pub front_lines : Grammar → List Item
front_lines g = (attribute_lines g.module_attributes ++ use_lines g.uses) ++ leaf part.StandardUses []

-- these lines are the module of a start, by the code that is asked for
abbrev pub IsModuleBy : LrCodeGeneration → Grammar → ℕ → List Lr1State → List Item → Type 0
IsModuleBy RecursiveAscent g start states lines = lines ≡ built_ascent_at g states start
IsModuleBy _ g start states lines = lines ≡ built_table_at g states start

abbrev pub IsModule : Grammar → ℕ → List Lr1State → List Item → Type 0
IsModule g start states lines = IsModuleBy g.algorithm.codegen g start states lines

-- the re-export of a start by its public name
abbrev pub reexport_lines : Grammar → NonterminalString → NonterminalString → List Item
reexport_lines g public_name start =
    leaf part.Reexport (visibility_text (visibility_at g start) ∷ start.0 ∷ public_name.0 ∷ [])

-- what stood before, and behind it the module of a start and its re-export
abbrev pub IsModuleWithName : Grammar → ℕ → NonterminalString → NonterminalString → List Lr1State → List Item → List Item → Type 0
IsModuleWithName g number public_name start states before lines =
    (inside : List Item) × IsModule g number states inside × (lines ≡ (before ++ inside) ++ reexport_lines g public_name start)

-- the same, where the start has states
abbrev pub AreFollowed : Grammar → ℕ → Option (NonterminalString × NonterminalString) → Option StartStates → List Item → List Item → Type 0
AreFollowed g start None list before lines = ⊥
AreFollowed g start (Some names) None before lines = lines ≡ before
AreFollowed g start (Some names) (Some list) before lines =
    IsModuleWithName g start names.0 names.1 list.states before lines

-- the modules of the first starts, so many, with their re-exports
abbrev pub AreModules : Grammar → List StartStates → ℕ → List Item → Type 0
AreModules g states zero lines = lines ≡ []
AreModules g states (suc start) lines =
    (before : List Item) × AreModules g states start before
    × AreFollowed g start (slice_get g.start_nonterminals.entries start) (slice_get states start) before lines

-- the module of the tokens, where the grammar has no enum of its own
abbrev pub intern_entry : MatchEntry → InternEntry
intern_entry e = record { literal = escaped_text e.regex; skip = e.skip }

abbrev pub intern_lines : Grammar → List MatchEntry → List Item
intern_lines g entries =
    over part.TokenModule [] ((inner_uses g ++ map intern_row (map intern_entry entries)) ++ white_space (map intern_entry entries))

abbrev pub token_lines : Grammar → Option InternToken → List Item
token_lines g None = []
token_lines g (Some tokens) = intern_lines g tokens.match_entries

-- the where clauses joined by `,`, if there are any
abbrev pub joined_clauses : List WhereClause → Option (List ℕ)
joined_clauses [] = None
joined_clauses (c ∷ cs) = Some (join_by clause_text (codes ",") (c ∷ cs))

-- what the two implementations are for
abbrev pub spaced_triple : Grammar → List ℕ
spaced_triple g = location_text g ++ (codes ", " ++ (token_text g ++ (codes ", " ++ location_text g)))

abbrev pub implementations : Grammar → Option TypeRepr → Triples
implementations g None = Plain (token_text g) (error_text g)
implementations g (Some location) = Located (spaced_triple g) (error_text g)

-- how items become triples
abbrev pub triple_text : Grammar → List ℕ
triple_text g = location_text g ++ (codes "," ++ (token_text g ++ (codes "," ++ location_text g)))

abbrev pub parse_error_text : Grammar → List ℕ
parse_error_text g = location_text g ++ (codes ", " ++ (token_text g ++ (codes ", " ++ error_text g)))

abbrev pub triple_lines_by : Grammar → Option (List ℕ) → Triples → List Item
triple_lines_by g clauses triples =
    leaf (triple_part clauses triples)
    (visibility_text (widest g) ∷ each_with_comma (map parameter_text g.type_parameters)
    ∷ (hole_if clauses ++ (triple_text g ∷ parse_error_text g ∷ triple_holes triples)))

abbrev pub triple_lines : Grammar → List Item
triple_lines g = triple_lines_by g (joined_clauses g.where_clauses) (implementations g g.types.loc)

-- the entries of all states fit 32 bits
abbrev pub AllFit : List StartStates → Type 0
AllFit states = All (λ list. All EntriesFit list.states) states

-- the program of a grammar and its states: its prefix, its parts, and the notes of these, with comments or without
pub record IsBuilt (g : Grammar) (states : List StartStates) (program : Program) : Type 0 where
  pub prefix : program.prefix ≡ g.prefix
  pub modules : List Item
  pub each : AreModules g states (length g.start_nonterminals.entries) modules
  pub parts :
      program_items program
      ≡ over part.Program [] ((((front_lines g ++ modules) ++ token_lines g g.intern_token) ++ action_functions g) ++ triple_lines g)
  pub comments : Bool
  pub notes : program_notes program ≡ notes_of_program comments g states (program_items program)

-- it is built with comments, or without
abbrev pub IsBuiltWith : Bool → Grammar → List StartStates → Program → Type 0
IsBuiltWith comments g states program = (is : IsBuilt g states program) × (is.comments ≡ comments)
