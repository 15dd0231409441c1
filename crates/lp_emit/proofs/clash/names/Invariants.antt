use Rattle.std.proofs.Common.{◌≡◌, ◌++◌, map}
use Rattle.lp_emit.specs.Clashes.{escaped_names}
use Rattle.lp_write.specs.Texts.{name_text}
use Rattle.lp_emit.proofs.clash.names.Given as goal

-- those so far and those to come
abbrev pub invariant-loop-name : goal.invariant-loop-name
invariant-loop-name l = l.names.items ++ map (λ n. name_text n.0) l.name-iterator ≡ escaped_names l.grammar
