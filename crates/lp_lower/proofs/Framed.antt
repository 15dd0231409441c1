-- What stands in front of the rules, from its parts.
use Rattle.std.proofs.Common.{◌≡◌, ℕ, Bool, ap, ◌∙◌}
use Rattle.lp_lower.specs.declared.frame.Frame.{Frame}

abbrev pub frame : Bool → Bool → Bool → ℕ → ℕ → ℕ → Frame
frame ahead behind error n m k = record { uses_lookahead = ahead; uses_lookbehind = behind; uses_error = error; lookahead = n; lookbehind = m; first = k }

pub frame_alike : (a a' b b' e e' : Bool) (n n' m m' k k' : ℕ) → a ≡ a' → b ≡ b' → e ≡ e' → n ≡ n' → m ≡ m' → k ≡ k' → frame a b e n m k ≡ frame a' b' e' n' m' k'
frame_alike a a' b b' e e' n n' m m' k k' p q r s t u =
    ap (λ x. frame x b e n m k) p
    ∙ (ap (λ x. frame a' x e n m k) q
    ∙ (ap (λ x. frame a' b' x n m k) r
    ∙ (ap (λ x. frame a' b' e' x m k) s
    ∙ (ap (λ x. frame a' b' e' n' x k) t ∙ ap (frame a' b' e' n' m') u))))
