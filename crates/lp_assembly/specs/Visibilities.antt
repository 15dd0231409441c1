-- The visibilities of starts, and one that serves them all.
use Rattle.std.specs.Prelude.{List, fold, map, Option, Some, None, if◌then◌else◌}
use Rattle.std.specs.BTreeMap.{get, values}
use Rattle.lp_repr.specs.NameOrder.{nonterminal_cmp}
use Rattle.lp_repr.specs.contracts.parse_tree.VisibilityPartialEq.TheImpl as equality
use Rattle.lp_repr.specs.declared.parse_tree.Visibility.{Visibility}
use Rattle.lp_repr.specs.declared.parse_tree.Visibility.TheVariants.{Pub, Priv}
use Rattle.lp_repr.specs.declared.repr.Grammar.{Grammar}
use Rattle.lp_repr.specs.declared.repr.NonterminalData.{NonterminalData}
use Rattle.lp_repr.specs.declared.repr.NonterminalString.{NonterminalString}
use Rattle.lp_assembly.specs.declared.visibility.Shared.{Shared}
use Rattle.lp_assembly.specs.declared.visibility.Shared.TheVariants.{Private, Start, Public}

-- the visibility that this is
abbrev pub visibility_of : Shared → Visibility
visibility_of Private = Priv
visibility_of (Start visibility) = visibility.now
visibility_of Public = Pub None

-- that of a nonterminal; private where it isn't declared
abbrev pub declared_or_private : Option NonterminalData → Visibility
declared_or_private None = Priv
declared_or_private (Some found) = found.visibility

abbrev pub visibility_at : Grammar → NonterminalString → Visibility
visibility_at g nonterminal = declared_or_private (get nonterminal_cmp g.nonterminals nonterminal)

-- one of two that aren't private: theirs where they are one, else `pub`
abbrev pub common : Visibility → Visibility → Visibility
common one other = if (equality.ghosts).eq one other then one else Pub None

-- the visibility that serves what one served, and a further start
abbrev pub wider : Visibility → Visibility → Visibility
wider Priv start = start
wider (Pub path) Priv = Pub path
wider (Pub path) (Pub other) = common (Pub path) (Pub other)

-- a visibility that serves all starts
abbrev pub widest : Grammar → Visibility
widest g = fold wider Priv (map (visibility_at g) (values g.start_nonterminals))
