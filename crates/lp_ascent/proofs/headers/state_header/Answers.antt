use Rattle.std.proofs.Common.{◌≡◌, ℕ, List, [], ◌∷◌, ap, ◌∙◌}
use Rattle.std.proofs.lemmas.Result.{IfOk-weaker}
use Rattle.lp_repr.specs.declared.repr.Grammar.{Grammar}
use Rattle.lp_tree.specs.ProgramTree.{items}
use Rattle.lp_build.specs.declared.functions.FunctionName.{FunctionName}
use Rattle.lp_build.specs.declared.functions.FunctionName.TheVariants as name
use Rattle.lp_table.specs.Headers.{grammar_header}
use Rattle.lp_ascent.specs.Slots.{layout_of}
use Rattle.lp_ascent.specs.StateLines.{state_header, tokens_generic}
use Rattle.lp_ascent.proofs.headers.state_header.Goals as goal

same_header :
    (g : Grammar) (f : FunctionName) (gs hs ps qs : List (List ℕ)) (a b : List ℕ) → gs ≡ hs → ps ≡ qs → a ≡ b →
    grammar_header g f gs ps a ≡ grammar_header g f hs qs b
same_header g f gs hs ps qs a b generics parameters answer =
    ap (λ (xs : List (List ℕ)). grammar_header g f xs ps a) generics
    ∙ (ap (λ (xs : List (List ℕ)). grammar_header g f hs xs a) parameters ∙ ap (λ (x : List ℕ). grammar_header g f hs qs x) answer)

pub returns : goal.returns
unfolding state_header
returns c =
    let g = c.args.states.now.shared.grammar.now in
    let f = name.State c.args.number in
    let generics : c.in_ok-generics.generics.items ≡ tokens_generic g ∷ [] =
    c.in_ok-generics.ensures.items ∙ ap (λ (t : List ℕ). t ∷ []) c.in_ok-tokens_generic.ensures in
    IfOk-weaker c.grammar_header.result
    (λ n. items n ≡ grammar_header g f c.in_ok-generics.generics.items c.in_ok-parameters.parameters.items c.in_ok-result.result)
    (λ n. items n ≡ state_header g c.args.states.now.shared.states.now c.args.number (layout_of c.args.slots))
    (λ n e. e ∙ same_header g f _ _ _ _ _ _ generics c.in_ok-parameters.ensures c.in_ok-result.ensures)
    c.grammar_header.ensures
