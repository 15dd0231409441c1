-- The prefix and the names of parameters of a built program whose texts fit, as each law takes them.
use Rattle.std.proofs.Common.{◌≡◌, ℕ, ◌<◌, ◌&&◌, true, nat_lt, List, [], ◌∷◌, ◌++◌, length, codes, refl, sym, ap, ◌∙◌, subst}
use Rattle.std.specs.List.{list_all}
use Rattle.std.proofs.lemmas.Bool.{and_parts, ltb-true}
use Rattle.std.proofs.lemmas.List.Folds.{list_all-append}
use Rattle.lp_repr.specs.declared.lr1.StartStates.{StartStates}
use Rattle.lp_repr.specs.declared.repr.Grammar.{Grammar}
use Rattle.lp_repr.specs.declared.repr.Parameter.{Parameter}
use Rattle.lp_tree.specs.declared.tree.Program.{Program}
use Rattle.lp_spelling.specs.HoleEnds.{is_word}
use Rattle.lp_reading_laws.proofs.Holes.Words.{prefix_words}
use Rattle.lp_texts.specs.Identifiers.{is_identifier}
use Rattle.lp_assembly.specs.Built.{IsBuilt}
use Rattle.lp_fitting.specs.Fitting.{IsFitting}
use Rattle.lp_emitted.specs.Emittable.{IsEmittable}
use Rattle.lp_emitted.proofs.Fitting.{emitted_has_prefix}
use Rattle.lp_question_laws.proofs.Gotos.LinkHeaders.{IsWordy}
use Rattle.lp_question_laws.proofs.Reductions.Texts as reductions
use Rattle.lp_question_laws.proofs.Actions.Parameters as actions
use Rattle.lp_agreement.proofs.Composed.Names.{IsPlainName, words_lack}
use Rattle.lp_agreement.proofs.Composed.Parameters.{ArePlain}
use Rattle.lp_back_end_laws.proofs.Filled.Actions.{plain_name}

-- a prefix of word bytes
pub wordy : (s : List ℕ) → list_all is_word s ≡ true → IsWordy s
wordy s h = record { no_and = words_lack 38 refl s h; no_open = words_lack 40 refl s h; no_colon = words_lack 58 refl s h }

pub is_prefix_of : (s : List ℕ) → list_all is_word s ≡ true → reductions.IsPrefix s
is_prefix_of s h = record { wordy = wordy s h; no_comma = words_lack 44 refl s h }

-- names of word bytes
key_of : (prefix name : List ℕ) → IsPlainName prefix name → reductions.IsKey prefix name
key_of prefix name is =
    record { no_and = words_lack 38 refl name is.words; no_open = words_lack 40 refl name is.words; no_comma = words_lack 44 refl name is.words; no_colon = words_lack 58 refl name is.words; no_mark = words_lack 126 refl name is.words; some = is.some; not_blank = is.named; apart = is.apart }

pub all_keys : (prefix : List ℕ) (ps : List Parameter) → ArePlain prefix ps → reductions.AllKeys prefix (reductions.names_of ps)
all_keys prefix [] are = tt
all_keys prefix (p ∷ ps) are = (key_of prefix p.name are.0, all_keys prefix ps are.1)

pub all_plain : (prefix : List ℕ) (ps : List Parameter) → ArePlain prefix ps → actions.ArePlain prefix ps
all_plain prefix [] are = tt
all_plain prefix (p ∷ ps) are = (plain_name prefix p.name are.0, all_plain prefix ps are.1)

-- the prefix of a built program
module _ (g : Grammar) (states : List StartStates) (built : Program) (may : IsEmittable g states) (is_built : IsBuilt g states built) (fits : IsFitting built) where
  both : (nat_lt 0 (length built.prefix) ≡ true) × (is_identifier (built.prefix ++ codes "lalrpop_util") ≡ true)
  both = and_parts (nat_lt 0 (length built.prefix)) (is_identifier (built.prefix ++ codes "lalrpop_util")) (emitted_has_prefix g states built may is_built fits)

  pub words : list_all is_word g.prefix ≡ true
  words = ap (list_all is_word) (sym is_built.prefix) ∙ prefix_words built.prefix fits.prefix_utf8 both.1

  pub some : 0 < length g.prefix
  some = subst (λ (p : List ℕ). 0 < length p) is_built.prefix (ltb-true 0 (length built.prefix) both.0)

  pub named_words : list_all is_word (g.prefix ++ codes "lalrpop_util") ≡ true
  named_words = list_all-append is_word g.prefix (codes "lalrpop_util") ∙ ap (λ (b : _). b && list_all is_word (codes "lalrpop_util")) words
