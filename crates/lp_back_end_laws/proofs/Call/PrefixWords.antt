-- A prefix of word bytes is one for the names in printed lists.
use Rattle.std.proofs.Common.{◌≡◌, ℕ, false, List, [], ◌∷◌, refl, sym, ap, ◌∙◌}
use Rattle.std.proofs.lemmas.Bool.{false≢true}
use Rattle.lp_spelling.specs.HoleEnds.{is_word}
use Rattle.lp_question_laws.proofs.Gotos.Digits.{Lacks}
use Rattle.lp_question_laws.proofs.Tokens.FormOf.{AllWord}
use Rattle.lp_question_laws.proofs.Reductions.Texts.{IsPrefix}

words_lack : (c : ℕ) → is_word c ≡ false → (s : List ℕ) → AllWord s → Lacks c s
words_lack c out [] h = tt
words_lack c out (b ∷ s) h = (λ e. false≢true (sym out ∙ ap is_word (sym e) ∙ h.0), words_lack c out s h.1)

pub word_prefix : (prefix : List ℕ) → AllWord prefix → IsPrefix prefix
word_prefix prefix h = record {
  wordy = record { no_and = words_lack 38 refl prefix h; no_open = words_lack 40 refl prefix h; no_colon = words_lack 58 refl prefix h };
  no_comma = words_lack 44 refl prefix h;
}
