-- The error of a parse is made of the grammar's own texts.
use Rattle.std.proofs.Common.{◌≡◌, ℕ, List, ap, ◌∙◌}
use Rattle.lp_parts.specs.Texts.{parse_error_of}
use Rattle.lp_parts.proofs.texts.TypeTexts.new.Goals as goal

same_error :
    (p q l m t u e f : List ℕ) → p ≡ q → l ≡ m → t ≡ u → e ≡ f →
    parse_error_of p l t e ≡ parse_error_of q m u f
same_error p q l m t u e f prefix location token error =
    ap (λ (x : List ℕ). parse_error_of x l t e) prefix
    ∙ (ap (λ (x : List ℕ). parse_error_of q x t e) location
    ∙ (ap (λ (x : List ℕ). parse_error_of q m x e) token
    ∙ ap (λ (x : List ℕ). parse_error_of q m u x) error))

pub returns-clause-parse_error : goal.returns-clause-parse_error
returns-clause-parse_error c =
    c.in_ok-parse_error.ensures
    ∙ same_error _ _ _ _ _ _ _ _ c.as_str.ensures
    (c.as_str-2.ensures.value ∙ c.in_ok-location.ensures)
    (c.as_str-3.ensures.value ∙ c.in_ok-token.ensures.ok)
    (c.as_str-4.ensures.value ∙ c.in_ok-error.ensures)
