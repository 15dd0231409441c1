-- The parts of types that don't hold the prefix.
use Rattle.std.specs.Prelude.{ℕ, Bool, true, ◌&&◌, List, Option, None, Some}
use Rattle.std.specs.Global.{Global}
use Rattle.std.specs.List.{list_all}
use Rattle.std.specs.declared.boxed.Box.{Box}
use Rattle.lp_repr.specs.declared.repr.NominalTypeRepr.{NominalTypeRepr}
use Rattle.lp_repr.specs.declared.repr.TypeRepr.{TypeRepr}
use Rattle.lp_repr.specs.declared.repr.Types.{Types}
use Rattle.lp_valid.specs.PrefixRules.{lacks, is_clear}

-- a path and its arguments
abbrev pub is_clear_nominal : List ℕ → Types → NominalTypeRepr → Bool
is_clear_nominal prefix types n = list_all (lacks prefix) n.path.ids && list_all (is_clear prefix types) n.types.items

-- the result of a function
abbrev pub is_clear_ret_type : List ℕ → Types → Option (Box TypeRepr Global) → Bool
is_clear_ret_type prefix types None = true
is_clear_ret_type prefix types (Some b) = is_clear prefix types b.value
