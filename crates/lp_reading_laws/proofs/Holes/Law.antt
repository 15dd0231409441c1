-- The laws of what is found.
use Rattle.std.proofs.Common.{◌≡◌, take, refl, arith, subst}
use Rattle.lp_form.specs.Templates.{steps_of, holes_of}
use Rattle.lp_reading_laws.specs.Holes.Found.{known_behind}
use Rattle.lp_reading_laws.specs.Holes.Laws.{HolesFound, EqualHoles}
use Rattle.lp_reading_laws.proofs.Holes.Asking.{templates_told, lines_tell_all, all_met}
use Rattle.lp_reading_laws.proofs.Holes.Lines.{steps_found, steps_same}
use Rattle.lp_reading_laws.proofs.Holes.Needed.{steps_back, met_parted}

pub holes_found : HolesFound
holes_found prefix p holes w h = (
  λ q. steps_found prefix (holes_of p) holes 0 (steps_of p) w h.count h.fills (omega arith) (templates_told p) (all_met prefix p holes q),
  λ l. met_parted prefix p holes (steps_back prefix (holes_of p) holes 0 (steps_of p) w h.count h.fills (omega arith) (templates_told p) l),
)

pub equal_holes : EqualHoles
equal_holes prefix p holes others w h k q r s =
    let same : take (known_behind (steps_of p) 0) holes ≡ take (known_behind (steps_of p) 0) others
    = steps_same prefix (holes_of p) holes others 0 (steps_of p) refl ((holes_found prefix p holes w h).0 q) ((holes_found prefix p others w k).0 r) s in
    subst (λ n. take n holes ≡ take n others) (lines_tell_all p) same
