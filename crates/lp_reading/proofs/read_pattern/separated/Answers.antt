use Rattle.std.specs.Prelude.{IfOk}
use Rattle.std.proofs.Common.{◌≡◌, Bool, subst, ap, append-nil, map, sym, ◌++◌, ◌∙◌}
use Rattle.lp_reading.specs.Patterns.{part_tree, separator}
use Rattle.lp_reading.proofs.read_pattern.separated.Goals as goal

pub returns-then-more : goal.returns-then-more
returns-then-more c =
    let P : Bool → Type 0 = λ b. IfOk c.behind.result (λ v. map part_tree v.items ≡ map part_tree c.args.parts.items ++ separator b) in
    subst P (sym c.if-more.true) c.behind.ensures

pub returns-else-more : goal.returns-else-more
returns-else-more c = sym (ap (λ b. map part_tree c.args.parts.items ++ separator b) c.if-more.false ∙ append-nil (map part_tree c.args.parts.items))
