-- The integer type of states.
use Rattle.std.specs.Prelude.{ℕ, List, codes, ◌&&◌, if◌then◌else◌, nat_le}

-- the smallest of three signed types that holds so many states, and so many productions negated
abbrev pub state_type_of : ℕ → ℕ → List ℕ
state_type_of states productions =
    if nat_le states 127 && nat_le productions 127 then codes "i8"
    else (if nat_le states 32767 && nat_le productions 32767 then codes "i16" else codes "i32")
