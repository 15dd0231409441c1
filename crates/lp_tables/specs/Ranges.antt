-- Numbers in range.
use Rattle.std.specs.Prelude.{ℕ, Bool, true, false, ◌&&◌, List, length, nat_lt, nat_le, slice_get}
use Rattle.std.specs.List.{list_all}
use Rattle.std.specs.Option.{option_map_or}
use Rattle.lp_repr.specs.declared.lr1.Token.{Token}
use Rattle.lp_repr.specs.declared.lr1.Token.TheVariants.{Terminal, Eof}
use Rattle.lp_repr.specs.declared.numbering.Rule.{Rule}

-- the production has this dot
abbrev pub is_dot : List Rule → ℕ → ℕ → Bool
is_dot rules p d = option_map_or (λ r. nat_le d (length r.right)) (slice_get rules p) false

-- the token is one of so many terminals, or the end of input
abbrev pub is_token : ℕ → Token → Bool
is_token terminals (Terminal n) = nat_lt n terminals
is_token terminals Eof = true

-- the reduction names one of so many productions, and tokens of so many terminals
abbrev pub is_reduction : ℕ → ℕ → List Token × ℕ → Bool
is_reduction productions terminals r = nat_lt r.1 productions && list_all (is_token terminals) r.0
