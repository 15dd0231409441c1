-- The notes of a program, by its parts: where the rows of its tables end, and its comments.
use Rattle.std.specs.Prelude.{ℕ, Bool, if◌then◌else◌, zero, suc, ◌+◌, ◌-◌, ℤ, pos, negsuc, List, [], ◌∷◌, ◌++◌, length, min, take, drop, codes, decimal, get_or, slice_get, Option, Some, None}
use Rattle.std.specs.List.{flat_map}
use Rattle.lp_repr.specs.Numbering.{nonterminals_of, productions_of, terminals_of}
use Rattle.lp_repr.specs.Shown.{production_text}
use Rattle.lp_repr.specs.ShownItems.{item_text, named_token_text}
use Rattle.lp_repr.specs.declared.lr1.Item.{Item as StateItem}
use Rattle.lp_repr.specs.declared.lr1.Lr1State.{Lr1State}
use Rattle.lp_repr.specs.declared.lr1.StartStates.{StartStates}
use Rattle.lp_repr.specs.declared.lr1.Token.{Token}
use Rattle.lp_repr.specs.declared.lr1.Token.TheVariants.{Terminal, Eof}
use Rattle.lp_repr.specs.declared.repr.Grammar.{Grammar}
use Rattle.lp_repr.specs.declared.repr.NonterminalString.{NonterminalString}
use Rattle.lp_repr.specs.declared.repr.Production.{Production}
use Rattle.lp_tree.specs.ProgramTree.{Item, Note, lines_note}
use Rattle.lp_notes.specs.Numbers.{number_told}
use Rattle.lp_notes.specs.Places.{after, first_place, kind_of}
use Rattle.lp_notes.specs.declared.place.Kind.{Kind}
use Rattle.lp_notes.specs.declared.place.Kind.TheVariants.{Module, State, Numbered, Simulated, GotoArm, Reduction, Actions, Ends, Plain}
use Rattle.lp_notes.specs.declared.place.Place.{Place}

-- one comment line
abbrev pub one_line : List ℕ → List Note
one_line line = lines_note (line ∷ []) ∷ []

-- that of a production, behind what stands before it
abbrev pub production_line : List ℕ → Option Production → List Note
production_line head None = []
production_line head (Some p) = one_line (head ++ production_text p)

-- what is of this number, if a number is told
abbrev pub told_of : {X : Type 0} → List X → Option ℕ → Option X
told_of xs None = None
told_of xs (Some n) = slice_get xs n

-- an item of a state, over its production
abbrev pub item_line : Grammar → StateItem → Option Production → List (List ℕ)
item_line g item None = []
item_line g item (Some p) = (codes "//     " ++ item_text g.terminals p item) ∷ []

-- the items of a state, a line each
abbrev pub item_lines : Grammar → Lr1State → List (List ℕ)
item_lines g state = flat_map (λ item. item_line g item (slice_get (productions_of g) item.production)) state.items

-- what an entry of a table means: a new state, a production by which is reduced, or an error
abbrev pub reduced_end : Option Production → List ℕ
reduced_end None = codes ", error"
reduced_end (Some p) = codes ", reduce `" ++ (production_text p ++ codes "`")

abbrev pub entry_end : Grammar → ℤ → List ℕ
entry_end g (pos zero) = codes ", error"
entry_end g (pos (suc state)) = codes ", goto " ++ decimal state
entry_end g (negsuc production) = reduced_end (slice_get (productions_of g) production)

-- the comment of the entry of a token
abbrev pub entry_comment : Grammar → Token → ℤ → List ℕ
entry_comment g token entry = codes " // on " ++ (named_token_text g.terminals token ++ entry_end g entry)

-- those of the entries of a row, from a terminal on
abbrev pub comments_from : Grammar → ℕ → List ℤ → List (List ℕ)
comments_from g terminal [] = []
comments_from g terminal (entry ∷ entries) = entry_comment g (Terminal terminal) entry ∷ comments_from g (terminal + 1) entries

-- how many of the entries that are left stand in a row
abbrev pub row_length : Grammar → List ℤ → ℕ
row_length g left = min (length (terminals_of g)) (length left)

-- what is told with comments alone
abbrev pub when : {X : Type 0} → Bool → List X → List X
when comments told = if comments then told else []

-- a row of the table of actions, up to so many entries
abbrev pub action_row : Bool → Grammar → ℕ → List ℤ → Lr1State → Note
action_row comments g end entries state =
    record { end = end; lines = when comments (item_lines g state); comments = when comments (comments_from g 0 entries) }

-- the rows, one a state, behind so many entries
abbrev pub action_rows : Bool → Grammar → ℕ → List ℤ → List Lr1State → List Note
action_rows comments g before left [] = []
action_rows comments g before left (state ∷ states) =
    action_row comments g (before + row_length g left) (take (row_length g left) left) state
    ∷ action_rows comments g (before + row_length g left) (drop (row_length g left) left) states

-- a row of the table of the end of input: one entry
abbrev pub end_row : Bool → Grammar → ℕ → ℤ → Note
end_row comments g end entry = record { end = end; lines = []; comments = when comments (entry_comment g Eof entry ∷ []) }

-- the rows, behind so many entries
abbrev pub end_rows : Bool → Grammar → ℕ → List ℤ → List Note
end_rows comments g before [] = []
end_rows comments g before (entry ∷ entries) = end_row comments g (before + 1) entry ∷ end_rows comments g (before + 1) entries

-- the function of a state
abbrev pub state_notes : Grammar → ℕ → Option Lr1State → List Note
state_notes g number None = []
state_notes g number (Some state) = lines_note ((codes "// State " ++ decimal number) ∷ item_lines g state) ∷ []

-- an arm of gotos on a nonterminal, to a state as it is printed
abbrev pub goto_line : Option NonterminalString → List ℕ → List Note
goto_line None target = []
goto_line (Some name) target = one_line (codes " // on " ++ (name.0 ++ (codes ", goto " ++ target)))

-- the second text of a part
abbrev pub second : List (List ℕ) → List ℕ
second holes = get_or holes 1 []

-- the comments of a part of a kind that has no other notes, with these texts, in a module with these states
abbrev pub comments_by : Grammar → List Lr1State → Place → Kind → List (List ℕ) → List Note
comments_by g states place State holes = state_notes g place.functions (slice_get states place.functions)
comments_by g states place Simulated holes = production_line (codes "// simulate ") (told_of (productions_of g) (number_told holes))
comments_by g states place GotoArm holes = goto_line (told_of (nonterminals_of g) place.number) (second holes)
comments_by g states place Reduction holes = []
comments_by g states place Actions holes = []
comments_by g states place Ends holes = []
comments_by g states place Module holes = []
comments_by g states place Numbered holes = []
comments_by g states place Plain holes = []

-- the notes of a part of a kind, with these texts and entries: where the rows of a table end, the production of a reduction, which stands in
-- every text, and comments if there are to be any
abbrev pub notes_by : Bool → Grammar → List Lr1State → Place → Kind → List (List ℕ) → List ℤ → List Note
notes_by comments g states place Actions holes numbers = action_rows comments g 0 numbers states
notes_by comments g states place Ends holes numbers = end_rows comments g 0 numbers
notes_by comments g states place Reduction holes numbers = production_line (codes "// ") (told_of (productions_of g) place.number)
notes_by comments g states place kind holes numbers = when comments (comments_by g states place kind holes)

-- the notes of a part
abbrev pub part_notes : Bool → Grammar → List Lr1State → Place → Item → List Note
part_notes comments g states place item = notes_by comments g states place (kind_of item.0) item.1 item.2

-- those of parts, from a place on, where so many modules have such states
abbrev pub notes_from : Bool → Grammar → (ℕ → List Lr1State) → Place → List Item → List (List Note)
notes_from comments g states place [] = []
notes_from comments g states place (item ∷ items) =
    part_notes comments g (states place.modules) place item ∷ notes_from comments g states (after place item) items

-- the states of the last of so many modules
abbrev pub states_in : Option StartStates → List Lr1State
states_in None = []
states_in (Some list) = list.states

abbrev pub states_of : List StartStates → ℕ → List Lr1State
states_of lists modules = states_in (slice_get lists (modules - 1))

-- the notes of a program of these parts, whose modules are of these lists of states, with comments or without
unfoldable pub notes_of_program : Bool → Grammar → List StartStates → List Item → List (List Note)
notes_of_program comments g lists items = notes_from comments g (states_of lists) first_place items

-- the notes of one module
unfoldable pub notes_of_module : Bool → Grammar → List Lr1State → List Item → List (List Note)
notes_of_module comments g states items = notes_from comments g (λ _. states) first_place items
