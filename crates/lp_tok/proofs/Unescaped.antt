-- One character or escape more of a string literal's inside.
use Rattle.std.proofs.Common.{◌≡◌, ℕ, List, [], ◌∷◌, ◌++◌, sym, ap, ◌∙◌, subst, append_assoc, append-nil, inl, inr}
use Rattle.std.specs.Prelude.{encode_utf8, encode_utf8_all}
use Rattle.std.proofs.lemmas.Str.{encodes-append}
use Rattle.lp_tok.specs.declared.tok.ErrorCode.{ErrorCode}
use Rattle.lp_tok.specs.declared.rest.Rest.{Rest}
use Rattle.lp_tok.specs.declared.escapes.Escaped.{Escaped as Found}
use Rattle.lp_tok.specs.declared.escapes.Escaped.TheVariants as found
use Rattle.lp_tok.specs.Left.{Follows}
use Rattle.lp_tok.specs.EscapeSteps.{EscapeEnds}
use Rattle.lp_tok.proofs.Lefts.{follows_follows}
use Rattle.lp_tok.specs.Scans.{from_char}
use Rattle.std.proofs.lemmas.Bool.Decides.{eqb_tells}
use Rattle.lp_tok.specs.Escapes.{escape, Stands, Fault, StandsFor, stands_none, stands_plain, stands_escape, FailsWith, fails_here, fails_plain, fails_escape}

-- the characters from `from` on up to `rest` stand for the text
pub record StandSoFar (from rest text : List ℕ) : Type 0 where
  pub seen : List ℕ
  pub spells : text ≡ encode_utf8_all seen
  pub stands : (out : List ℕ) → StandsFor rest out → StandsFor from (seen ++ out)
  pub fails : (code : ErrorCode) (at : List ℕ) → FailsWith rest code at → FailsWith from code at

pub stand_none : (from text : List ℕ) → text ≡ [] → StandSoFar from from text
stand_none from text empty = record { seen = []; spells = empty; stands = λ out stands. stands; fails = λ code at fails. fails }

-- one character more that the text gained
module _ (from here next text : List ℕ) (c : ℕ) (so_far : StandSoFar from here text) where
  stand_more : ((out : List ℕ) → StandsFor next out → StandsFor here (c ∷ out)) → ((code : ErrorCode) (at : List ℕ) → FailsWith next code at → FailsWith here code at) → (new : List ℕ) → new ≡ text ++ encode_utf8 c → StandSoFar from next new
  stand_more stands fails new gained = record {
    seen = so_far.seen ++ c ∷ [];
    spells = gained ∙ ap (λ t. t ++ encode_utf8 c) so_far.spells ∙ ap (λ t. encode_utf8_all so_far.seen ++ t) (sym (append-nil (encode_utf8 c))) ∙ sym (encodes-append so_far.seen (c ∷ []));
    stands = λ out more. subst (StandsFor from) (sym (append_assoc so_far.seen (c ∷ []) out)) (so_far.stands (c ∷ out) (stands out more));
    fails = λ code at more. so_far.fails code at (fails code at more);
  }

  pub stand_plain : here ≡ c ∷ next → (c ≡ 92 → ⊥) → (new : List ℕ) → new ≡ text ++ encode_utf8 c → StandSoFar from next new
  stand_plain first plain = stand_more
      (λ out more. subst (λ h. StandsFor h (c ∷ out)) (sym first) (stands_plain c next out plain more))
      (λ code at more. subst (λ h. FailsWith h code at) (sym first) (fails_plain c next at code plain more))

  pub stand_escape : (d : ℕ) (after_slash : List ℕ) → here ≡ d ∷ after_slash → d ≡ 92 → Stands c next ≡ escape here after_slash → (new : List ℕ) → new ≡ text ++ encode_utf8 c → StandSoFar from next new
  stand_escape d after_slash first slash stands =
      let whole : here ≡ 92 ∷ after_slash = first ∙ ap (λ x. x ∷ after_slash) slash in
      let same : escape (92 ∷ after_slash) after_slash ≡ Stands c next = ap (λ h. escape h after_slash) (sym whole) ∙ sym stands in
      stand_more
      (λ out more. subst (λ h. StandsFor h (c ∷ out)) (sym whole) (stands_escape c after_slash next out same more))
      (λ code at more. subst (λ h. FailsWith h code at) (sym whole) (fails_escape c after_slash next at code same more))

-- an escape that is none
pub fails_at : (from here next text at : List ℕ) (c : ℕ) (code : ErrorCode) → StandSoFar from here text → here ≡ c ∷ next → c ≡ 92 → Fault code at ≡ escape here next → FailsWith from code at
fails_at from here next text at c code so_far first slash fault =
    let whole : here ≡ 92 ∷ next = first ∙ ap (λ x. x ∷ next) slash in
    so_far.fails code at (subst (λ h. FailsWith h code at) (sym whole) (fails_here next at code (ap (λ h. escape h next) (sym whole) ∙ sym fault)))

-- nothing is left
pub stands_all : (from rest text : List ℕ) → StandSoFar from rest text → rest ≡ [] → (out : List ℕ) × StandsFor from out × (text ≡ encode_utf8_all out)
stands_all from rest text so_far done = (so_far.seen, subst (StandsFor from) (append-nil so_far.seen) (so_far.stands [] (subst (λ r. StandsFor r []) (sym done) stands_none)), so_far.spells)

-- a text without `\` stands for itself
pub stands_itself : (cs : List ℕ) → from_char 92 cs ≡ [] → StandsFor cs cs
stands_itself [] none = stands_none
stands_itself (c ∷ cs) none = elim (eqb_tells c 92) [
  | inl h ↦ let some = rw h.0 at none in absurd cc
  | inr h ↦ stands_plain c cs cs h.1 (stands_itself cs (rw h.0 at none))
]

-- an escape that began after another place
pub escape_begun : (start next : Rest) (e : Found) → Follows start next → EscapeEnds next next e → EscapeEnds start next e
escape_begun start next (found.Stands c after) begun ends = ends
escape_begun start next (found.Broken code at) begun ends = follows_follows start next at begun ends
