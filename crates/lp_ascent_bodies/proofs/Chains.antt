-- The parts after the first one, and the numbers that a chain goes over.
use Rattle.std.proofs.Common.{◌≡◌, ℕ, suc, ◌+◌, List, [], ◌∷◌, ◌++◌, Option, Some, None, drop, ap, sym, ◌∙◌, arith}
use Rattle.std.specs.Iterator.{YieldsFirstBy}
use Rattle.lp_view.specs.PartLists.{Form, listed, parts_left}
use Rattle.lp_view.specs.declared.part.PartRef.{PartRef}
use Rattle.lp_view.specs.declared.part.Parts.{Parts}
use Rattle.lp_maker.specs.Constructs.{read}
use Rattle.lp_ascent_bodies.specs.AscentErrors.{Chaining, link, links, other_slots}

-- what is left after the first
pub rest_after : (r : Option PartRef) (s t : Parts) (all : List Form) → parts_left s ≡ all → YieldsFirstBy listed parts_left s r t → parts_left t ≡ drop 1 all
rest_after None s t all e h = h.1 ∙ sym (ap (λ (fs : List Form). drop 1 fs) (sym e ∙ h.0))
rest_after (Some x) s t all e h = sym (ap (λ (fs : List Form). drop 1 fs) (sym e ∙ h))

-- one more
pub slots_next : (n : ℕ) → other_slots (n + 1) ≡ other_slots n ++ read (n + 1) ∷ []
slots_next n = let e : n + 1 ≡ suc n = omega arith in ap other_slots e

pub links_next : (end n : ℕ) (s : Chaining) → links end (n + 1) s ≡ link end n (links end n s)
links_next end n s = let e : n + 1 ≡ suc n = omega arith in ap (λ (k : ℕ). links end k s) e
