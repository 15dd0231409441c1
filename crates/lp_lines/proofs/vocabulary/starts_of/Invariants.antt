use Rattle.std.proofs.Common.{◌≡◌, ◌++◌, map}
use Rattle.lp_lines.specs.Vocabularies.{starts_of}
use Rattle.lp_lines.proofs.vocabulary.starts_of.Given as goal

-- the names so far and those to come
abbrev pub invariant-loop-name : goal.invariant-loop-name
invariant-loop-name l =
    l.starts.items ++ map (λ name. name.0) l.name-iterator ≡ starts_of l.grammar
