-- Names in a body of inlined actions that differ, and what stays shown when one of them is let.
use Rattle.std.proofs.Common.{◌≡◌, ℕ, ◌+◌, ◌<◌, ◌^◌, false, List, [], ◌∷◌, ◌++◌, length, map, refl, sym, subst, ◌∙◌, arith}
use Rattle.std.specs.Prelude.{codes, decimal}
use Rattle.std.specs.Str.{bytes_eq}
use Rattle.std.proofs.lemmas.Fmt.{decimal_injective}
use Rattle.lp_repr.specs.declared.repr.Parameter.{Parameter}
use Rattle.lp_driver.specs.Values.{Spanned, Value}
use Rattle.lp_core.specs.Val.{Val}
use Rattle.lp_maker.specs.Slots.{Names}
use Rattle.lp_question_laws.proofs.Gotos.Digits.{Lacks, decimal_lacks}
use Rattle.lp_code_laws.specs.Slots.Shows.{Shows}
use Rattle.lp_code_laws.proofs.Slots.Names.{other_text, behind_front}
use Rattle.lp_question_laws.specs.Actions.Inlined.{own_words}
use Rattle.lp_question_laws.specs.Actions.Keys.{ShowsEach, EachName, AreOthers, mark, decimals}
use Rattle.lp_question_laws.proofs.Actions.Parameters.{ArePlain}
use Rattle.lp_question_laws.proofs.Actions.Shown.{marked_other}

-- a marked word that begins with a letter is no number
pub letter_other : (c : ℕ) (rest : List ℕ) (k : ℕ) → (57 < c) → k < 2 ^ 64 → bytes_eq (mark (c ∷ rest)) (mark (decimal k)) ≡ false
letter_other c rest k big small =
    behind_front (codes "~") (c ∷ rest) (decimal k)
    ∙ other_text (c ∷ rest) (decimal k) (λ e. (let l : Lacks c (c ∷ rest) = subst (Lacks c) (sym e) (decimal_lacks c k (λ r. omega arith) small) in l.0 refl))

-- two numbered names of one kind differ in their numbers
pub numbered_other : (front : List ℕ) (n k : ℕ) → n < 2 ^ 64 → k < 2 ^ 64 → (n ≡ k → ⊥) → bytes_eq (front ++ decimal n) (front ++ decimal k) ≡ false
numbered_other front n k small few ne = behind_front front (decimal n) (decimal k) ∙ other_text (decimal n) (decimal k) (λ e. ne (decimal_injective n k small few e))

-- names of arguments differ from those of words
letters_others : {A : Type 0} (c : ℕ) (rest : List ℕ) (n : ℕ) (xs : List A) → 57 < c → n + length xs < 2 ^ 64 → AreOthers (mark (c ∷ rest)) (map mark (decimals n xs))
letters_others c rest n [] big small = tt
letters_others c rest n (x ∷ xs) big small = (letter_other c rest n big (omega arith), letters_others c rest (n + 1) xs big (omega arith))

pub own_others : (c : ℕ) (rest : List ℕ) (xs : List (Spanned Value)) → 57 < c → length xs < 2 ^ 64 → bytes_eq (mark (c ∷ rest)) (codes "~lookbehind") ≡ false → bytes_eq (mark (c ∷ rest)) (codes "~lookahead") ≡ false → AreOthers (mark (c ∷ rest)) (map mark (own_words xs))
own_others c rest [] big small behind ahead = (behind, (ahead, tt))
own_others c rest (x ∷ xs) big small behind ahead = letters_others c rest 0 (x ∷ xs) big (omega arith)

-- names of parameters differ from all marked ones
pub plain_others : (prefix word : List ℕ) (ps : List Parameter) → ArePlain prefix ps → AreOthers (mark word) (map (λ (p : Parameter). p.name) ps)
plain_others prefix word [] h = tt
plain_others prefix word (p ∷ ps) h = (marked_other p.name word h.0, plain_others prefix word ps h.1)

-- what stays shown, each by each
pub each_kept : (names later : Names) (env after : List Val) (ks : List (List ℕ)) (vs : List Val) (Other : List ℕ → Type 0) → ((k : List ℕ) (v : Val) → Other k → Shows names env k v → Shows later after k v) → EachName Other ks → ShowsEach names env ks vs → ShowsEach later after ks vs
each_kept names later env after [] [] Other keep o h = tt
each_kept names later env after (k ∷ ks) (v ∷ vs) Other keep o h = (keep k v o.0 h.0, each_kept names later env after ks vs Other keep o.1 h.1)
each_kept names later env after [] (v ∷ vs) Other keep o h = absurd h
each_kept names later env after (k ∷ ks) [] Other keep o h = absurd h
