-- The exit code of a status.
use Rattle.std.specs.Prelude.{ℕ}
use Rattle.lp_status.specs.declared.status.Status.{Status}
use Rattle.lp_status.specs.declared.status.Status.TheVariants.{Done, Usage, Grammar, Conflict, TooManyStates, Refused, TokenLine, TooLong, ReadFault, WriteFault, Memory}

-- 1 where the input is wrong, 2 where the words are, 3 for reading, writing and memory
abbrev pub exit_of : Status → ℕ
exit_of Done = 0
exit_of Usage = 2
exit_of (Grammar place) = 1
exit_of (Conflict start path token) = 1
exit_of (TooManyStates start paths) = 1
exit_of (Refused error) = 1
exit_of (TokenLine line) = 1
exit_of TooLong = 1
exit_of ReadFault = 3
exit_of WriteFault = 3
exit_of Memory = 3
