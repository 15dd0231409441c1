use Rattle.std.proofs.Common.{rules, ◌≡◌, ◌∙◌, ◌++◌, List, [], ap}
use Rattle.std.specs.List.{flat_map}
use Rattle.lp_tree.specs.ProgramTree.{Item, items}
use Rattle.lp_actions.specs.ActionFunctions.{action_functions}
use Rattle.lp_assembly.specs.Built.{front_lines, token_lines, triple_lines}
use Rattle.lp_assembly.proofs.Programs.{behind, built}
use Rattle.lp_assembly.proofs.program.build_program.Goals as goal

pub returns : goal.returns
returns c =
    let modules = flat_map items c.in_ok-modules.field-0.items in
    let actions = action_functions c.args.grammar.now in
    let functions : flat_map items c.put_all-2.new.nodes.items ≡ flat_map items c.add_tokens.new.below.items ++ actions =
    c.in_ok-put_all-2.ensures ∙ ap (λ (l : List Item). flat_map items c.add_tokens.new.below.items ++ l) c.in_ok-action_functions.ensures in
    let none : flat_map items c.new-below.result.items ≡ [] = ap (flat_map items) c.new-below.ensures.items in
    let last : flat_map items c.put.new.nodes.items ≡ flat_map items c.put_all-2.new.nodes.items ++ triple_lines c.args.grammar.now = search rules in
    let lines = behind
    (flat_map items c.new-below.result.items) (flat_map items c.add_front.new.below.items) (flat_map items c.put_all.new.nodes.items)
    (flat_map items c.add_tokens.new.below.items) (flat_map items c.put_all-2.new.nodes.items) (flat_map items c.put.new.nodes.items)
    (front_lines c.args.grammar.now) modules (token_lines c.args.grammar.now c.args.grammar.now.intern_token) actions (triple_lines c.args.grammar.now)
    none c.in_ok-add_front.ensures c.in_ok-put_all.ensures c.in_ok-add_tokens.ensures functions last in
    let prefix : c.in_ok-bare.bare.prefix ≡ c.args.grammar.now.prefix = search rules in
    built c.args.comments c.args.grammar.now c.args.states.now c.in_ok-bare.bare c.noted_program.result modules c.put.new.nodes.items c.in_ok-modules.ensures lines prefix c.in_ok-bare.ensures.parts
    c.noted_program.ensures.prefix c.noted_program.ensures.parts c.noted_program.ensures.notes
