-- Inline rules and the places where they use rules that are not above them, one rule after the other.
use Rattle.std.proofs.Common.{◌≡◌, ℕ, ◌+◌, ◌<◌, Bool, cond, List, [], ◌∷◌, ◌++◌, length, drop, Option, sym, ap, ◌∙◌}
use Rattle.std.proofs.Math.ListN.{get_or}
use Rattle.std.proofs.lemmas.List.{drop_more}
use Rattle.lp_lower.specs.Places.{least, least_of}
use Rattle.lp_lower.specs.Refusals.{below_among, order_places}
use Rattle.lp_lower.specs.Symbols.{symbols_in}
use Rattle.lp_syntax.specs.declared.plain.PlainGrammar.{PlainGrammar}
use Rattle.lp_syntax.specs.declared.plain.PlainRule.{PlainRule}
use Rattle.lp_lower.proofs.Leasts.{least_before_if}

pub order_step : (g : PlainGrammar) (rules : List PlainRule) (i : ℕ) (r : PlainRule) → i < length rules → get_or rules i r ≡ r → (b : Bool) → r.inline ≡ b → (found new whole : Option ℕ) → new ≡ cond b (least found (least_of (below_among g i (symbols_in r)))) found → least found (least_of (order_places g i (drop i rules))) ≡ whole → least new (least_of (order_places g (i + 1) (drop (i + 1) rules))) ≡ whole
order_step g rules i r h at b inline found new whole is was =
    let rest = drop (i + 1) rules in
    let e : drop i rules ≡ r ∷ rest = drop_more rules i r h ∙ ap (λ y. y ∷ rest) at in
    let split : order_places g i (drop i rules) ≡ cond b (below_among g i (symbols_in r)) [] ++ order_places g (i + 1) rest =
    ap (order_places g i) e ∙ ap (λ c. cond c (below_among g i (symbols_in r)) [] ++ order_places g (i + 1) rest) inline
    in
    least_before_if b found new whole (below_among g i (symbols_in r)) (order_places g (i + 1) rest) is (ap (λ ps. least found (least_of ps)) (sym split) ∙ was)
