-- The rest is joined, by the elements that may follow, exactly where the text is.
use Rattle.std.proofs.Common.{◌≡◌, ◌-◌, length}
use Rattle.lp_spelling.specs.Fillings.{joined_within}
use Rattle.lp_spelling.proofs.fill.is_joined.Given as goal

abbrev pub invariant-loop-i : goal.invariant-loop-i
invariant-loop-i l =
    joined_within (length l.text - l._i) l.prefix l.element l.separator l.rest ≡ joined_within (length l.text) l.prefix l.element l.separator l.text
