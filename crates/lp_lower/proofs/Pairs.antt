-- Pairs, from their parts.
use Rattle.std.proofs.Common.{◌≡◌, ap, ◌∙◌}

abbrev pub pair : {A B : Type 0} → A → B → A × B
pair a b = (a, b)

pub pair_alike : {A B : Type 0} (a c : A) (b d : B) → a ≡ c → b ≡ d → pair a b ≡ pair c d
pair_alike a c b d p q = ap (λ x. pair x b) p ∙ ap (λ x. pair c x) q
