-- The `use` lines of a module.
use Rattle.std.specs.Prelude.{ℕ, nat_eq, if◌then◌else◌, List, [], ◌∷◌, ◌++◌, map, codes}
use Rattle.std.specs.List.{starts_with}

-- a `use`, whose path has the prefix in front where it begins with `super::`
abbrev pub use_text : List ℕ → List ℕ → List ℕ
use_text super_prefix path =
    codes "use " ++ ((if starts_with nat_eq path (codes "super::") then super_prefix else []) ++ (path ++ codes ";"))

-- the use of the utility crate, under the prefix
abbrev pub util_use : List ℕ → List ℕ
util_use prefix = codes "extern crate lalrpop_util as " ++ (prefix ++ codes "lalrpop_util;")

-- the use of its state machine, under the prefix
abbrev pub machine_use : List ℕ → List ℕ
machine_use prefix =
    codes "use self::" ++ (prefix ++ (codes "lalrpop_util::state_machine as " ++ (prefix ++ codes "state_machine;")))

-- the uses of every module, under the grammar's prefix
abbrev pub standard_uses : List ℕ → List (List ℕ)
standard_uses prefix =
    codes "#[allow(unused_extern_crates)]"
    ∷ util_use prefix
    ∷ codes "#[allow(unused_imports)]"
    ∷ machine_use prefix
    ∷ codes "#[allow(unused_extern_crates)]"
    ∷ codes "extern crate alloc;"
    ∷ []

-- each use, and then the uses of every module
abbrev pub all_uses : List ℕ → List ℕ → List (List ℕ) → List (List ℕ)
all_uses super_prefix prefix paths = map (use_text super_prefix) paths ++ standard_uses prefix
