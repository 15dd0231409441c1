-- The machine knows no more terminals than a grammar has.
use Rattle.std.proofs.Common.{◌≤◌, Bool, true, false, if◌then◌else◌, List, [], ◌∷◌, length, Option, Some, None, arith, length-append}
use Rattle.std.specs.BTreeMap.{get}
use Rattle.lp_repr.specs.declared.repr.Grammar.{Grammar}
use Rattle.lp_repr.specs.declared.repr.TerminalString.{TerminalString}
use Rattle.lp_repr.specs.declared.repr.TokenPattern.{TokenPattern}
use Rattle.lp_machine.specs.declared.lookup.KnownTerminal.{KnownTerminal}
use Rattle.lp_machine.specs.GrammarTables.{is_error, known_among, known_by, terminal_cmp}

known_one : (terminal : TerminalString) (o : Option TokenPattern) → length (known_by terminal o) ≤ 1
known_one terminal None = omega arith
known_one terminal (Some pattern) = by (is_error terminal) _
  where
    by : (b : Bool) (k : KnownTerminal) → length (if b then [] else k ∷ []) ≤ 1
    by true k = omega arith
    by false k = omega arith

pub known_few : (g : Grammar) (ts : List TerminalString) → length (known_among g ts) ≤ length ts
known_few g [] = omega arith
known_few g (t ∷ ts) =
    let one = known_one t (get terminal_cmp g.conversions t) in
    let more = known_few g ts in
    let both = length-append (known_by t (get terminal_cmp g.conversions t)) (known_among g ts) in
    omega (arith, one, more, both)
