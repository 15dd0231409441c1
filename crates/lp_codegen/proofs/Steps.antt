-- Calls that write, one after another.
use Rattle.std.proofs.Common.{ℕ, List, ◌++◌, map}
use Rattle.std.proofs.lemmas.List.{map-append}
use Rattle.lp_write.specs.Lines.Line.{line}
use Rattle.lp_write.specs.Writes.{Ending, Writing, Writes, AppendsAll, error_ending}
use Rattle.lp_write.specs.declared.rust.WriteError.{WriteError}
use Rattle.lp_write.specs.declared.rust.WriteError.TheVariants.{Fault, Memory}
use Rattle.lp_write.proofs.Writing.{faults-more, part-more, writes-then}

-- a call that was refused in the first lines
pub stopped : (e : WriteError) (a b : Writing) (xs ys : List (List ℕ)) → Writes (error_ending e) a b (map line xs) →
    Writes (error_ending e) a b (map line (xs ++ ys))
stopped Fault a b xs ys p = rw (map-append line xs ys) (faults-more a b (map line xs) (map line ys) p)
stopped Memory a b xs ys p = rw (map-append line xs ys) (part-more a b (map line xs) (map line ys) p)

-- lines, and then what a call made of more lines
pub continued : (e : Ending) (a b c : Writing) (xs ys : List (List ℕ)) → AppendsAll a b (map line xs) → Writes e b c (map line ys) →
    Writes e a c (map line (xs ++ ys))
continued e a b c xs ys p q = rw (map-append line xs ys) (writes-then e a b c (map line xs) (map line ys) p q)
