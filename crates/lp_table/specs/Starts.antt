-- What a module says of its start.
use Rattle.std.specs.Prelude.{ℕ, Bool, false, slice_get, List, [], length, string_bytes, Option, Some, None}
use Rattle.std.specs.BTreeMap.{get}
use Rattle.lp_repr.specs.NameOrder.{nonterminal_cmp}
use Rattle.lp_repr.specs.Names.{same_nonterminal}
use Rattle.lp_repr.specs.Numbering.{productions_of}
use Rattle.lp_repr.specs.Shown.{visibility_text}
use Rattle.lp_repr.specs.ShownTypes.{type_text}
use Rattle.lp_repr.specs.declared.lr1.Lr1State.{Lr1State}
use Rattle.lp_repr.specs.declared.repr.Grammar.{Grammar}
use Rattle.lp_repr.specs.declared.repr.NonterminalData.{NonterminalData}
use Rattle.lp_repr.specs.declared.repr.NonterminalString.{NonterminalString}
use Rattle.lp_repr.specs.declared.repr.ActionFnDefn.{ActionFnDefn}
use Rattle.lp_repr.specs.declared.repr.Production.{Production}
use Rattle.lp_repr.specs.declared.repr.Symbol.{Symbol}
use Rattle.lp_repr.specs.declared.repr.Symbol.TheVariants.{Nonterminal, Terminal}
use Rattle.lp_repr.specs.declared.repr.TypeRepr.{TypeRepr}
use Rattle.lp_parts.specs.StateType.{state_type_of}
use Rattle.lp_parts.specs.Texts.{location_text}
use Rattle.lp_parts.specs.Variants.{nonterminal_type, terminal_type}
use Rattle.lp_table.specs.declared.shared.StartTexts.{StartTexts}

-- a start: its public name, its nonterminal, and the texts of that one's type and visibility
pub record Start : Type 0 where
  pub public_name : List ℕ
  pub nonterminal : NonterminalString
  pub ty : List ℕ
  pub visibility : List ℕ

-- what these texts are
abbrev pub start_of : StartTexts → Start
start_of s = record {
  public_name = s.public_name.now;
  nonterminal = s.nonterminal.now;
  ty = string_bytes s.ty;
  visibility = string_bytes s.visibility;
}

-- the visibility of a nonterminal, none where it isn't there
abbrev pub visibility_or_none : Option NonterminalData → List ℕ
visibility_or_none None = []
visibility_or_none (Some found) = visibility_text found.visibility

-- the start of a grammar by its public name and its nonterminal
abbrev pub start_for : Grammar → NonterminalString → NonterminalString → Start
start_for g public_name nonterminal = record {
  public_name = public_name.0;
  nonterminal = nonterminal;
  ty = type_text (nonterminal_type g nonterminal);
  visibility = visibility_or_none (get nonterminal_cmp g.nonterminals nonterminal);
}

-- a production whose reduction ends the parse
abbrev pub is_start : Start → Production → Bool
is_start s p = same_nonterminal p.nonterminal s.nonterminal

-- whether an action is fallible, and whether that of a production is
abbrev pub fallible_or_not : Option ActionFnDefn → Bool
fallible_or_not None = false
fallible_or_not (Some action) = action.fallible

abbrev pub is_fallible : Grammar → Production → Bool
is_fallible g p = fallible_or_not (slice_get g.action_fn_defns p.action)

-- the type of a symbol's values
abbrev pub symbol_type : Grammar → Symbol → TypeRepr
symbol_type g (Nonterminal name) = nonterminal_type g name
symbol_type g (Terminal terminal) = terminal_type g terminal

-- the type of states
abbrev pub state_text : Grammar → List Lr1State → List ℕ
state_text g states = state_type_of (length states) (length (productions_of g))

-- the types of states and of locations, as names
unfoldable pub state_name : Grammar → List Lr1State → List ℕ
state_name g states = state_text g states

unfoldable pub location_name : Grammar → List ℕ
location_name g = location_text g
