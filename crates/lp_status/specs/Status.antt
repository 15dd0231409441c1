-- The exit status of a call, and its line.
use Rattle.std.specs.Prelude.{ℕ, List, codes, []}
use Rattle.lp_status.specs.declared.status.Status.{Status}
use Rattle.lp_status.specs.declared.status.Status.TheVariants.{Done, Usage, Grammar, Conflict, TooManyStates, Refused, TokenLine, TooLong, ReadFault, WriteFault, Memory}

abbrev pub number_of : Status → ℕ
number_of Done = 0
number_of Usage = 1
number_of (Grammar place) = 2
number_of (Conflict start path token) = 3
number_of (TooManyStates start paths) = 4
number_of (Refused error) = 5
number_of (TokenLine line) = 6
number_of TooLong = 7
number_of ReadFault = 8
number_of WriteFault = 9
number_of Memory = 10

abbrev pub line_of : Status → List ℕ
line_of Done = []
line_of Usage = codes "usage"
line_of (Grammar place) = codes "grammar"
line_of (Conflict start path token) = codes "conflict"
line_of (TooManyStates start paths) = codes "too many states"
line_of (Refused error) = codes "refused"
line_of (TokenLine line) = codes "token line"
line_of TooLong = codes "too long"
line_of ReadFault = codes "read fault"
line_of WriteFault = codes "write fault"
line_of Memory = codes "memory"
