-- The order of types.
use Rattle.std.specs.Prelude.{◌≡◌, Bool}
use Rattle.std.specs.Cmp.{IsTotalOrder}
use Rattle.std.specs.Ordering.{eq_by_cmp}
use Rattle.std.specs.declared.cmp.Ordering.{Ordering}
use Rattle.lp_repr.specs.declared.repr.TypeRepr.{TypeRepr}
use Rattle.lp_repr.specs.contracts.repr.TypeReprOrd.TheImpl as order
use Rattle.lp_repr.specs.contracts.repr.TypeReprPartialEq.TheImpl as equality

-- how two types are ordered
abbrev pub type_cmp : TypeRepr → TypeRepr → Ordering
type_cmp = (order.ghosts).cmp

-- when two types are equal
abbrev pub type_eq : TypeRepr → TypeRepr → Bool
type_eq = (equality.ghosts).eq

-- the order ties exactly the types that are equal
abbrev pub TiesAreEqual : Type 0
TiesAreEqual = (a b : TypeRepr) → type_eq a b ≡ eq_by_cmp type_cmp a b
