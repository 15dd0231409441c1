-- The `extern` block, as its trees.
use Rattle.std.specs.Prelude.{map}
use Rattle.std.specs.Option.{option_map}
use Rattle.lp_repr.specs.TypeTrees.{type_tree}
use Rattle.lp_reading.specs.declared.read_extern.AssociatedTypes.{AssociatedTypes}
use Rattle.lp_reading.specs.declared.read_extern.Extern.{Extern}
use Rattle.lp_reading.specs.declared.read_extern.TokenEnum.{TokenEnum}
use Rattle.lp_reading.specs.Externs.{EnumTree, ExternTree, Told, terminal_tree}

abbrev pub types_told : AssociatedTypes → Told
types_told t = (option_map type_tree t.location, option_map type_tree t.error)

abbrev pub enum_tree : TokenEnum → EnumTree
enum_tree e = record { token = type_tree e.token; conversions = map terminal_tree e.conversions.items }

abbrev pub extern_tree : Extern → ExternTree
extern_tree e = record { types = types_told e.types; tokens = enum_tree e.tokens }
