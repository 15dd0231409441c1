-- What a look at a grammar in memory tells: its maps are in order, and its lists are no longer than memory.
use Rattle.std.specs.Prelude.{◌<◌, ◌^◌, List, All, length}
use Rattle.std.specs.BTreeMap.{IsOrdered}
use Rattle.std.specs.List.{flat_map}
use Rattle.std.specs.Ordering.{nat_cmp}
use Rattle.lp_repr.specs.NameOrder.{nonterminal_cmp}
use Rattle.lp_repr.specs.Numbering.{nonterminals_of, productions_of, terminals_of}
use Rattle.lp_repr.specs.declared.lr1.Lr1State.{Lr1State}
use Rattle.lp_repr.specs.declared.lr1.StartStates.{StartStates}
use Rattle.lp_repr.specs.declared.repr.ActionFnDefn.{ActionFnDefn}
use Rattle.lp_repr.specs.declared.repr.ActionFnDefnKind.{ActionFnDefnKind}
use Rattle.lp_repr.specs.declared.repr.ActionFnDefnKind.TheVariants.{User, Lookaround, Inline}
use Rattle.lp_repr.specs.declared.repr.Grammar.{Grammar}
use Rattle.lp_repr.specs.declared.repr.Production.{Production}
use Rattle.lp_actions.specs.Parameters.{symbols_of}
use Rattle.lp_question_laws.specs.Tokens.Told.{AreFew}

-- the symbols of a production are counted
abbrev pub IsProductionInMemory : Production → Type 0
IsProductionInMemory p = length p.symbols < 2 ^ 64

-- those of an action that inlines others are, alone and with those of the others
abbrev pub IsKindInMemory : ActionFnDefnKind → Type 0
IsKindInMemory (Inline outer symbols) = (length symbols < 2 ^ 64) × (length (flat_map symbols_of symbols) < 2 ^ 64)
IsKindInMemory (User patterns types code) = Unit {0}
IsKindInMemory (Lookaround place) = Unit {0}

abbrev pub IsActionInMemory : ActionFnDefn → Type 0
IsActionInMemory a = IsKindInMemory a.kind

pub record IsInMemory (g : Grammar) : Type 0 where
  pub ordered : IsOrdered nonterminal_cmp g.start_nonterminals
  pub nonterminals : length (nonterminals_of g) < 2 ^ 63
  pub terminals : length (terminals_of g) < 2 ^ 63
  pub productions : All IsProductionInMemory (productions_of g)
  pub count : length g.action_fn_defns < 2 ^ 64
  pub actions : All IsActionInMemory g.action_fn_defns
  pub patterns : AreFew g

-- the gotos of a state are in order
abbrev pub HasOrderedGotos : Lr1State → Type 0
HasOrderedGotos s = IsOrdered nat_cmp s.gotos

-- so are those of all states
abbrev pub AreStatesInMemory : List StartStates → Type 0
AreStatesInMemory states = All (λ list. All HasOrderedGotos list.states) states
