-- What was made so far.
use Rattle.std.specs.Prelude.{ℕ, ℤ, ◌-◌, ◌^◌, nat_lt, List, [], ◌∷◌, ◌++◌, length, map, set, codes, Option, Some, None, if◌then◌else◌}
use Rattle.std.specs.BTreeMap.{insert_entry, is_at}
use Rattle.std.specs.Map.{lookup}
use Rattle.std.specs.Option.{unwrap_or}
use Rattle.std.specs.declared.cmp.Ordering.{Ordering}
use Rattle.lp_core.specs.declared.expr.Function.{Function}
use Rattle.lp_core.specs.declared.expr.Table.{Table}
use Rattle.lp_core.specs.declared.value.StateType.{StateType}
use Rattle.lp_core.specs.declared.value.Tag.{Tag}
use Rattle.lp_core.specs.declared.value.Tag.TheVariants as tag
use Rattle.lp_core.specs.Tree.{Tree}
use Rattle.lp_form.specs.declared.part.Part.TheVariants as part
use Rattle.lp_repr.specs.contracts.text.TextOrd.TheImpl as text_ord
use Rattle.lp_view.specs.PartLists.{Form, is_a, hole_of, parts_of, over}
use Rattle.lp_maker.specs.declared.maker.Maker.{Maker}
use Rattle.lp_maker.specs.Texts.{Binding, Nothing, Triple, Named, bound_of, plain, pieces}
use Rattle.lp_maker.specs.Slots.{Names, no_names, after_slots, bound, slot_of}
use Rattle.lp_maker.specs.Constructs.{stuck, read_found, take_found, called}

-- a printed table: its state type, if it is one, and its entries
pub record Entries : Type 0 where
  pub kind : Option StateType
  pub numbers : List ℤ

abbrev pub entries_of : Table → Entries
entries_of t = record { kind = t.entry_type; numbers = t.entries.items }

-- the names of functions and of variants with their numbers, in the order of names; the functions, tables and
-- texts; and what of these a module names once
pub record Making : Type 0 where
  pub prefix : List ℕ
  pub names : List (List ℕ × ℕ)
  pub variants : List (List ℕ × ℕ)
  pub functions : List (Option Function)
  pub tables : List Entries
  pub texts : List (List ℕ)
  pub terminals : List ℕ
  pub action_table : ℕ
  pub eof_table : ℕ
  pub item_closure : Option ℕ

abbrev pub making : Maker → Making
making m = record {
  prefix = m.prefix.now;
  names = m.names.entries;
  variants = m.variants.entries;
  functions = m.functions.items;
  tables = map entries_of m.tables.items;
  texts = m.texts.items;
  terminals = m.terminals.items;
  action_table = m.action_table;
  eof_table = m.eof_table;
  item_closure = m.item_closure;
}

-- nothing was made yet
abbrev pub unmade : List ℕ → Making
unmade prefix = record {
  prefix = prefix;
  names = [];
  variants = [];
  functions = [];
  tables = [];
  texts = [];
  terminals = [];
  action_table = 2 ^ 64 - 1;
  eof_table = 2 ^ 64 - 1;
  item_closure = None;
}

-- the order by which names are kept
abbrev pub text_cmp : List ℕ → List ℕ → Ordering
text_cmp = (text_ord.ghosts).cmp

-- the number of a name
abbrev pub number_in : List ℕ → List (List ℕ × ℕ) → Option ℕ
number_in name numbers = lookup (is_at (text_cmp name)) numbers

-- a name that has no number yet has this one
abbrev pub numbered_by : List ℕ → ℕ → List (List ℕ × ℕ) → Option ℕ → List (List ℕ × ℕ)
numbered_by name number numbers None = insert_entry text_cmp numbers name number
numbered_by name number numbers (Some first) = numbers

abbrev pub first_numbered : List ℕ → ℕ → List (List ℕ × ℕ) → List (List ℕ × ℕ)
first_numbered name number numbers = numbered_by name number numbers (number_in name numbers)

abbrev pub with_name : List ℕ → ℕ → Making → Making
with_name name number m = record m { names = first_numbered name number m.names }

abbrev pub with_function : Option Function → Making → Making
with_function function m = record m { functions = m.functions ++ function ∷ [] }

-- a function that is to be made; the first one of a name has it
abbrev pub declared : List ℕ → Making → Making
declared name m = with_name name (length m.functions) (with_function None m)

-- a declared function has its body
abbrev pub defined : ℕ → Function → Making → Making
defined number function m = record m { functions = if nat_lt number (length m.functions) then set m.functions number (Some function) else m.functions }

abbrev pub with_text : List ℕ → Making → Making
with_text text m = record m { texts = m.texts ++ text ∷ [] }

abbrev pub with_table : Entries → Making → Making
with_table table m = record m { tables = m.tables ++ table ∷ [] }

-- a variant has a number
abbrev pub with_variant : List ℕ → Making → Making
with_variant name m = record m { variants = first_numbered name (length m.variants) m.variants }

-- the tag of a variant, by its name
abbrev pub variant_tag : List ℕ → Making → Tag
variant_tag name m = tag.Variant (unwrap_or (number_in name m.variants) (length m.variants))

-- a call of a function by its name; a name that isn't there has no meaning
abbrev pub call_named : List ℕ → List Tree → Making → Tree
call_named name args m = called args (number_in name m.names)

-- what a name holds
abbrev pub read_name : Names → List ℕ → Tree
read_name names name = read_found (slot_of name names)

-- what a printed name, perhaps with `&` before it, holds
abbrev pub read_written : List ℕ → Names → List ℕ → Tree
read_written prefix names text = read_name names (plain prefix text)

-- what the names of a list hold
abbrev pub read_all : List ℕ → Names → List ℕ → List Tree
read_all prefix names texts = map (read_written prefix names) (pieces (codes ", ") texts)

abbrev pub bind : List ℕ → Binding → Names → Names
bind prefix Nothing names = names
bind prefix Triple names = after_slots 1 names
bind prefix (Named name) names = bound (plain prefix name) names

-- a row of a header binds what it binds, if it is a parameter
abbrev pub bind_row : List ℕ → Names → Form → Names
bind_row prefix names row = if is_a part.ParameterRow row then bind prefix (bound_of (hole_of 0 row)) names else names

-- the names of a function with this header
abbrev pub parameters : List ℕ → Form → Names
parameters prefix header = over (bind_row prefix) no_names (parts_of header)

-- a function without a body has no meaning
abbrev pub finished : Option Function → Function
finished None = record { params = 0; slots = 0; body = stuck }
finished (Some function) = function

-- what a name holds, which isn't read again
abbrev pub take_name : Names → List ℕ → Tree
take_name names name = take_found (slot_of name names)
