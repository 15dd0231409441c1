-- One text shown after another.
use Rattle.std.proofs.Common.{◌≡◌, ℕ, List, [], ◌∷◌, ◌++◌, Option, Some, None, Result, IfSome, IsOk, refl, sym, ap, ◌∙◌}
use Rattle.std.proofs.lemmas.List.{append-nil}
use Rattle.std.proofs.Output.{then_text_assoc, has_written_append}
use Rattle.std.specs.Fmt.{◌++?◌, HasWritten, IsPlainFormatter, WritesOnOk, DisplaysOnOk}
use Rattle.std.specs.declared.fmt.Error.{Error}
use Rattle.std.specs.declared.fmt.Formatter.{Formatter}
use Rattle.lp_write.specs.Texts.{after_each}

-- one more text after each
pub after_each-more : (text : List ℕ) (os : List (Option (List ℕ))) (o : Option (List ℕ)) →
    after_each text (os ++ o ∷ []) ≡ after_each text os ++? (Some text ++? o)
after_each-more text [] None = refl
after_each-more text [] (Some a) = ap (λ (l : List ℕ). Some (text ++ l)) (append-nil a)
after_each-more text (p ∷ os) o =
    ap (λ r. Some text ++? (p ++? r)) (after_each-more text os o)
    ∙ ap (λ r. Some text ++? r) (sym (then_text_assoc p (after_each text os) (Some text ++? o)))
    ∙ sym (then_text_assoc (Some text) (p ++? after_each text os) (Some text ++? o))

-- what was shown so far, a text, and one more that is shown
pub shows-more : {W : Type 0} (took : W → List ℕ → W → Type 0) (a b c d : Formatter W) (r s : Result (Unit {0}) Error)
    (shown : Option (List ℕ)) (text : List ℕ) (more : Option (List ℕ)) →
    IfSome shown (λ bs. IsPlainFormatter a → HasWritten took a bs b) →
    WritesOnOk took b r text c → IsOk r → DisplaysOnOk took c s more d → IsOk s →
    IfSome (shown ++? (Some text ++? more)) (λ bs. IsPlainFormatter a → HasWritten took a bs d)
shows-more took a b c d r s None text more p q ok t done = tt
shows-more took a b c d r s (Some bs) text None p q ok t done = tt
shows-more took a b c d r s (Some bs) text (Some more) p q ok t done =
    λ plain.
    let first = p plain in
    let second = q first.plain ok in
    has_written_append took a bs b (text ++ more) d first
    (has_written_append took b text c more d second (t second.plain done))
