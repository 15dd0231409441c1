use Rattle.std.proofs.Common.{ℕ, List, ◌++◌, codes, ap, ◌∙◌}
use Rattle.lp_parts.specs.Texts.{triple_text}
use Rattle.lp_ascent.specs.StateLines.{tokens_generic}
use Rattle.lp_ascent.proofs.headers.tokens_generic.Goals as goal

abbrev generic : List ℕ → List ℕ → List ℕ → List ℕ
generic p t e = p ++ (codes "TOKENS: Iterator<Item=Result<" ++ (t ++ (codes "," ++ (e ++ codes ">>"))))

pub returns : goal.returns
unfolding tokens_generic
returns c =
    let shared = c.args.shared.now in
    let triple = c.as_str-triple.result.now in
    let error = c.as_str-error.result.now in
    c.made.ensures
    ∙ (c.in_ok-format.ensures.ok
    ∙ (ap (λ (p : List ℕ). generic p triple error) c.as_str-prefix.ensures
    ∙ (ap (λ (t : List ℕ). generic shared.grammar.now.prefix t error) (c.as_str-triple.ensures.value ∙ shared.triple_shown)
    ∙ ap (λ (e : List ℕ). generic shared.grammar.now.prefix (triple_text shared.grammar.now) e) (c.as_str-error.ensures.value ∙ shared.parse_error_shown))))
