-- what each reader answers, from what its parts answer
use Rattle.std.proofs.Common.{ap, arith, map, refl, suc, sym, ◌∙◌, ◌≡◌}
use Rattle.lp_reading.specs.Patterns.{arguments_by, char_or_path_by, group_by, linked_pattern, literal_or_path_by, part_tree, path_pattern_by, pattern_by, pattern_within, patterns_by}
use Rattle.lp_types.proofs.Lists.{chain_begun, chain_broke, chain_ended, chain_one_more, chain_ran_out}
use Rattle.lp_types.proofs.Steps.{answers_as, fails_here, handed_on, no_memory, part_fails, read_then, where_no, where_yes}
use Rattle.lp_types.specs.Left.{left}
use Rattle.lp_types.specs.Reading.{Read, lacks_memory}
use Rattle.std.proofs.lemmas.List.{map-append}
use Rattle.lp_reading.proofs.read_pattern.+pattern_reading.Goals as goal

pub pattern-returns-in-None : goal.pattern-returns-in-None
pattern-returns-in-None t c = lacks_memory

pub pattern-returns-in-Some : goal.pattern-returns-in-Some
unfolding pattern_within
pattern-returns-in-Some t c =
    let h = c.in-Some.ensures in
    let e : c.args.depth ≡ suc c.in-Some.inner = omega arith in
    answers_as _ _ _ _ _ c.shallow_pattern.ensures (ap (λ d. pattern_within d (left c.args.reader.now)) e)

pub shallow_pattern-returns-then-is_group : goal.shallow_pattern-returns-then-is_group
unfolding pattern_by
shallow_pattern-returns-then-is_group t c = answers_as _ _ _ _ _ c.patterns.ensures (where_yes _ _ _ _ _ _ _ c.passes-is_group.ensures c.if-is_group.true refl)

pub shallow_pattern-returns-then-is_hole : goal.shallow_pattern-returns-then-is_hole
unfolding pattern_by
shallow_pattern-returns-then-is_hole t c = answers_as _ _ _ _ _ c.hole.ensures (where_no _ _ _ _ _ _ _ c.passes-is_group.ensures c.if-is_group.false (where_yes _ _ _ _ _ _ _ c.passes-is_hole.ensures c.if-is_hole.true refl))

pub shallow_pattern-returns-then-is_any : goal.shallow_pattern-returns-then-is_any
unfolding pattern_by
shallow_pattern-returns-then-is_any t c = answers_as _ _ _ _ _ c.shown.ensures (where_no _ _ _ _ _ _ _ c.passes-is_group.ensures c.if-is_group.false (where_no _ _ _ _ _ _ _ c.passes-is_hole.ensures c.if-is_hole.false (where_yes _ _ _ _ _ _ _ c.passes-is_any.ensures c.if-is_any.true refl)))

pub shallow_pattern-returns-then-is_rest : goal.shallow_pattern-returns-then-is_rest
unfolding pattern_by
shallow_pattern-returns-then-is_rest t c = answers_as _ _ _ _ _ c.shown-then-is_rest.ensures (where_no _ _ _ _ _ _ _ c.passes-is_group.ensures c.if-is_group.false (where_no _ _ _ _ _ _ _ c.passes-is_hole.ensures c.if-is_hole.false (where_no _ _ _ _ _ _ _ c.passes-is_any.ensures c.if-is_any.false (where_yes _ _ _ _ _ _ _ c.passes-is_rest.ensures c.if-is_rest.true refl))))

pub shallow_pattern-returns : goal.shallow_pattern-returns
unfolding pattern_by
shallow_pattern-returns t c = answers_as _ _ _ _ _ c.literal_or_path.ensures (where_no _ _ _ _ _ _ _ c.passes-is_group.ensures c.if-is_group.false (where_no _ _ _ _ _ _ _ c.passes-is_hole.ensures c.if-is_hole.false (where_no _ _ _ _ _ _ _ c.passes-is_any.ensures c.if-is_any.false (where_no _ _ _ _ _ _ _ c.passes-is_rest.ensures c.if-is_rest.false refl))))

pub literal_or_path-returns-in-Some : goal.literal_or_path-returns-in-Some
unfolding literal_or_path_by
literal_or_path-returns-in-Some t c = answers_as _ _ _ _ _ c.quoted.ensures (read_then _ _ _ _ _ c.in-Some.ensures refl)

pub literal_or_path-returns-in-None : goal.literal_or_path-returns-in-None
unfolding literal_or_path_by
literal_or_path-returns-in-None t c = answers_as _ _ _ _ _ c.char_or_path.ensures (read_then _ _ _ _ _ c.in-None.ensures refl)

pub char_or_path-returns-in-Some : goal.char_or_path-returns-in-Some
unfolding char_or_path_by
char_or_path-returns-in-Some t c = answers_as _ _ _ _ _ c.quoted.ensures (read_then _ _ _ _ _ c.in-Some.ensures refl)

pub char_or_path-returns-in-None : goal.char_or_path-returns-in-None
unfolding char_or_path_by
char_or_path-returns-in-None t c = answers_as _ _ _ _ _ c.path_pattern.ensures (read_then _ _ _ _ _ c.in-None.ensures refl)

pub path_pattern-returns-in_err-path : goal.path_pattern-returns-in_err-path
unfolding path_pattern_by
path_pattern-returns-in_err-path t c = part_fails _ _ _ _ _ _ _ c.in_err-path.ensures c.from_residual.ensures.1 refl

pub path_pattern-returns-in_err-inside : goal.path_pattern-returns-in_err-inside
unfolding path_pattern_by
path_pattern-returns-in_err-inside t c = part_fails _ _ _ _ _ _ _ c.in_err-inside.ensures c.from_residual-in_err-inside.ensures.1 (read_then _ _ _ _ _ c.in_ok-path.ensures refl)

pub path_pattern-returns-in_err-parts : goal.path_pattern-returns-in_err-parts
path_pattern-returns-in_err-parts t c = no_memory _ _ _ _ c.from_residual-in_err-parts.ensures.1

pub path_pattern-returns : goal.path_pattern-returns
unfolding path_pattern_by
path_pattern-returns t c = read_then _ _ _ _ _ c.in_ok-path.ensures (read_then _ _ _ _ _ c.in_ok-inside.ensures (ap (λ parts. Read parts (left c.arguments.new.reader)) (sym c.in_ok-parts.ensures)))

pub arguments-returns-then-passes : goal.arguments-returns-then-passes
unfolding arguments_by
arguments-returns-then-passes t c = answers_as _ _ _ _ _ c.patterns.ensures (where_yes _ _ _ _ _ _ _ c.passes.ensures c.if-passes.true refl)

pub arguments-returns-else-passes : goal.arguments-returns-else-passes
unfolding arguments_by
arguments-returns-else-passes t c = where_no _ _ _ _ _ _ _ c.passes.ensures c.if-passes.false (ap (λ xs. Read (map part_tree xs) (left c.passes.new.self)) (sym c.new.ensures.items))

pub patterns-returns-in_err-inside : goal.patterns-returns-in_err-inside
unfolding patterns_by
patterns-returns-in_err-inside t c = part_fails _ _ _ _ _ _ _ c.in_err-inside.ensures c.from_residual.ensures.1 refl

pub patterns-returns-in_err-parts : goal.patterns-returns-in_err-parts
patterns-returns-in_err-parts t c = no_memory _ _ _ _ c.from_residual-in_err-parts.ensures.1

pub patterns-returns : goal.patterns-returns
unfolding patterns_by
patterns-returns t c = read_then _ _ _ _ _ c.in_ok-inside.ensures (ap (λ parts. Read parts (left c.group.new.reader)) (sym c.in_ok-parts.ensures))

pub group-returns-then-passes : goal.group-returns-then-passes
unfolding group_by
group-returns-then-passes t c = where_yes _ _ _ _ _ _ _ c.passes.ensures c.if-passes.true (ap (λ xs. Read (map part_tree xs) (left c.passes.new.self)) (sym c.new.ensures.items))

pub group-returns-else-passes : goal.group-returns-else-passes
unfolding group_by
group-returns-else-passes t c = answers_as _ _ _ _ _ c.linked_patterns.ensures (where_no _ _ _ _ _ _ _ c.passes.ensures c.if-passes.false refl)

pub linked_patterns-loop-turn-init : goal.linked_patterns-loop-turn-init
linked_patterns-loop-turn-init t c = chain_begun _ _ _ _ _ (ap (map part_tree) c.new-parts.ensures.items) c.turns-turn-end.ensures

pub linked_patterns-returns-in_err-found : goal.linked_patterns-returns-in_err-found
linked_patterns-returns-in_err-found t c = handed_on _ _ _ _ _ (chain_broke _ _ _ _ _ _ _ _ c.loop-turn.invariant (omega arith) c.in_err-found.ensures) c.from_residual.ensures.1

pub linked_patterns-returns-in_err-append : goal.linked_patterns-returns-in_err-append
linked_patterns-returns-in_err-append t c = no_memory _ _ _ _ c.from_residual-in_err-append.ensures.1

pub linked_patterns-returns-then-not-more : goal.linked_patterns-returns-then-not-more
linked_patterns-returns-then-not-more t c = chain_ended _ _ _ _ _ _ _ _ _ (map part_tree c.in_ok-found.found.0.items, c.in_ok-found.found.1) c.loop-turn.invariant (omega arith) c.in_ok-found.ensures c.if-not-more.true (ap (map part_tree) c.in_ok-append.ensures.items ∙ map-append part_tree _ _)

pub linked_patterns-loop-turn-preserved : goal.linked_patterns-loop-turn-preserved
linked_patterns-loop-turn-preserved t c = chain_one_more _ _ _ _ _ _ _ _ _ (map part_tree c.in_ok-found.found.0.items, c.in_ok-found.found.1) c.loop-turn.invariant (omega arith) c.in_ok-found.ensures c.if-not-more.false (ap (map part_tree) c.in_ok-append.ensures.items ∙ map-append part_tree _ _)

pub linked_patterns-returns : goal.linked_patterns-returns
linked_patterns-returns t c = fails_here _ _ _ c.error.ensures (chain_ran_out _ _ _ _ _ _ _ c.loop-turn.invariant (omega arith))

pub linked_pattern-returns-in_err-found : goal.linked_pattern-returns-in_err-found
unfolding linked_pattern
linked_pattern-returns-in_err-found t c = part_fails _ _ _ _ _ _ _ c.in_err-found.ensures c.from_residual.ensures.1 refl

pub linked_pattern-returns-in_err-more : goal.linked_pattern-returns-in_err-more
unfolding linked_pattern
linked_pattern-returns-in_err-more t c = part_fails _ _ _ _ _ _ _ c.in_err-more.ensures c.from_residual-in_err-more.ensures.1 (read_then _ _ _ _ _ c.in_ok-found.ensures refl)

pub linked_pattern-returns-in_err-parts : goal.linked_pattern-returns-in_err-parts
linked_pattern-returns-in_err-parts t c = no_memory _ _ _ _ c.from_residual-in_err-parts.ensures.1

pub linked_pattern-returns : goal.linked_pattern-returns
unfolding linked_pattern
linked_pattern-returns t c = read_then _ _ _ _ _ c.in_ok-found.ensures (read_then _ _ _ _ _ c.in_ok-more.ensures (ap (λ parts. Read (parts, c.in_ok-more.more) (left c.more_patterns.new.reader)) (sym c.in_ok-parts.ensures)))
