-- What the names of an action's function show where its body begins.
use Rattle.std.proofs.Common.{◌≡◌, ℕ, ◌+◌, ◌<◌, ◌^◌, Bool, true, false, ◌&&◌, List, [], ◌∷◌, ◌++◌, length, map, Some, refl, ap, sym, subst, ◌∙◌, arith, append_assoc, append-nil, length-append}
use Rattle.std.specs.Prelude.{slice_get, codes, decimal}
use Rattle.std.specs.Str.{bytes_eq}
use Rattle.std.proofs.lemmas.Bool.{ne_eqb}
use Rattle.std.proofs.lemmas.Fmt.{decimal_injective}
use Rattle.std.proofs.lemmas.Slice.Eq.{bytes_eq-Decides}
use Rattle.lp_repr.specs.declared.repr.Parameter.{Parameter}
use Rattle.lp_core.specs.Val.{Val}
use Rattle.std.proofs.lemmas.List.{length-map}
use Rattle.lp_maker.specs.Slots.{Names, no_names, bound}
use Rattle.lp_maker.specs.Texts.{Named, plain}
use Rattle.lp_code_laws.specs.Slots.Shows.{Shows}
use Rattle.lp_code_laws.specs.Slots.Parameters.{bound_by, BindOthers}
use Rattle.lp_code_laws.proofs.Slots.Names.{shows_other, shows_this, other_text, behind_front}
use Rattle.lp_code_laws.proofs.Slots.Parameters.{shows_by, bound_append}
use Rattle.lp_code_laws.proofs.Slots.Slots.{get_behind}
use Rattle.lp_question_laws.specs.Actions.Bindings.{numbered}
use Rattle.lp_question_laws.specs.Actions.Keys.{ShowsEach, bound_all, mark, decimals, worded}
use Rattle.lp_question_laws.proofs.Actions.Parameters.{ArePlain}
use Rattle.lp_question_laws.proofs.Actions.Texts.{IsPlainPrefix, IsPlainName, IsPlainWord, name_plain, word_plain, decimal_word}

-- a plain name isn't marked
pub marked_other : {prefix : List ℕ} (name w : List ℕ) → IsPlainName prefix name → bytes_eq (mark w) name ≡ false
marked_other [] w h = absurd (let l = h.some in omega arith)
marked_other (b ∷ bs) w h = ap (λ t. t && bytes_eq w bs) (ne_eqb 126 b (λ e. h.no_mark.0 (sym e)))

-- ---- the parameters of the grammar, whose values are by name

module _ (held : List ℕ → Val) where
  same_or_other : (names : Names) (env : List Val) (k l : List ℕ) (b : Bool) → bytes_eq k l ≡ b → slice_get env names.next ≡ Some (held k) → Shows names env l (held l) → Shows (bound k names) env l (held l)
  same_or_other names env k l true is there h = subst (λ x. Shows (bound k names) env x (held x)) ((bytes_eq-Decides k l).0 is) (shows_this k names env (held k) there)
  same_or_other names env k l false is there h = shows_other k is h

  held_bound : (names : Names) (env : List Val) (k : List ℕ) (ks : List (List ℕ)) → slice_get env names.next ≡ Some (held k) → ShowsEach names env ks (map held ks) → ShowsEach (bound k names) env ks (map held ks)
  held_bound names env k [] there h = tt
  held_bound names env k (l ∷ ks) there h = (same_or_other names env k l (bytes_eq k l) refl there h.0, held_bound names env k ks there h.1)

  with_last : (names : Names) (env : List Val) (k : List ℕ) (ks : List (List ℕ)) → Shows names env k (held k) → ShowsEach names env ks (map held ks) → ShowsEach names env (ks ++ k ∷ []) (map held (ks ++ k ∷ []))
  with_last names env k [] s h = (s, tt)
  with_last names env k (l ∷ ks) s h = (h.0, with_last names env k ks s h.1)

  held_all : (front : List Val) (done ks : List (List ℕ)) (rest : List Val) (names : Names) → names.next ≡ length front → ShowsEach names (front ++ (map held ks ++ rest)) done (map held done)
      → ShowsEach (bound_all names ks) (front ++ (map held ks ++ rest)) (done ++ ks) (map held (done ++ ks))
  held_all front done [] rest names at h = subst (λ l. ShowsEach names (front ++ rest) l (map held l)) (sym (append-nil done)) h
  held_all front done (k ∷ ks) rest names at h =
      let env = front ++ (held k ∷ (map held ks ++ rest)) in
      let there : slice_get env names.next ≡ Some (held k) = ap (slice_get env) at ∙ get_behind front (held k) (map held ks ++ rest) in
      let next : (bound k names).next ≡ length (front ++ held k ∷ []) = (let l = length-append front (held k ∷ []) in omega arith) in
      let same : (front ++ held k ∷ []) ++ (map held ks ++ rest) ≡ env = append_assoc front (held k ∷ []) (map held ks ++ rest) in
      let begun = with_last (bound k names) env k done (shows_this k names env (held k) there) (held_bound names env k done there h) in
      let all = held_all (front ++ held k ∷ []) (done ++ k ∷ []) ks rest (bound k names) next (subst (λ e. ShowsEach (bound k names) e (done ++ k ∷ []) (map held (done ++ k ∷ []))) (sym same) begun) in
      let moved = subst (λ e. ShowsEach (bound_all (bound k names) ks) e ((done ++ k ∷ []) ++ ks) (map held ((done ++ k ∷ []) ++ ks))) same all in
      subst (λ l. ShowsEach (bound_all (bound k names) ks) env l (map held l)) (append_assoc done (k ∷ []) ks) moved

names_bound : (prefix : List ℕ) (ps : List Parameter) (names : Names) → ArePlain prefix ps → bound_by prefix names (map Named (map (λ (p : Parameter). p.name) ps)) ≡ bound_all names (map (λ (p : Parameter). p.name) ps)
names_bound prefix [] names h = refl
names_bound prefix (p ∷ ps) names h =
    ap (λ k. bound_by prefix (bound k names) (map Named (map (λ (q : Parameter). q.name) ps))) (name_plain prefix p.name h.0) ∙ names_bound prefix ps (bound p.name names) h.1

bound_next : (names : Names) (ks : List (List ℕ)) → (bound_all names ks).next ≡ names.next + length ks
bound_next names [] = omega arith
bound_next names (k ∷ ks) = bound_next (bound k names) ks ∙ (omega arith)

-- ---- words behind the prefix

-- plain words, each other than those before it
abbrev OthersThan : List ℕ → List (List ℕ) → Type 0
OthersThan w [] = Unit {0}
OthersThan w (u ∷ us) = (bytes_eq u w ≡ false) × OthersThan w us

abbrev pub AreApart : List (List ℕ) → Type 0
AreApart [] = Unit {0}
AreApart (w ∷ ws) = IsPlainWord w × OthersThan w ws × AreApart ws

decimals_others : {A : Type 0} (n k : ℕ) (xs : List A) → k < n → n + length xs < 2 ^ 64 → OthersThan (decimal k) (decimals n xs)
decimals_others n k [] less h = tt
decimals_others n k (x ∷ xs) less h = (
  other_text (decimal n) (decimal k) (λ e. (let same = decimal_injective n k (omega arith) (omega arith) e in omega (arith, same))),
  decimals_others (n + 1) k xs (omega arith) (omega arith),
)

pub decimals_apart : {A : Type 0} (n : ℕ) (xs : List A) → n + length xs < 2 ^ 64 → AreApart (decimals n xs)
decimals_apart n [] h = tt
decimals_apart n (x ∷ xs) h = (decimal_word n (omega arith), decimals_others (n + 1) n xs (omega arith) (omega arith), decimals_apart (n + 1) xs (omega arith))

pub numbered_words : {A : Type 0} (prefix : List ℕ) (n : ℕ) (xs : List A) → numbered prefix n xs ≡ worded prefix (decimals n xs)
numbered_words prefix n [] = refl
numbered_words prefix n (x ∷ xs) = ap (λ bs. Named (prefix ++ decimal n) ∷ bs) (numbered_words prefix (n + 1) xs)

module _ {prefix : List ℕ} (is : IsPlainPrefix prefix) where
  words_others : (w : List ℕ) (ws : List (List ℕ)) → AreApart ws → OthersThan w ws → BindOthers prefix (mark w) (worded prefix ws)
  words_others w [] a o = tt
  words_others w (u ∷ us) a o = (ap (λ k. bytes_eq k (mark w)) (word_plain is u a.0) ∙ behind_front (codes "~") u w ∙ o.0, words_others w us a.2 o.1)

  -- each holds its value
  pub words_shown : (front : List Val) (words : List (List ℕ)) (vals rest : List Val) (names : Names) → names.next ≡ length front → length words ≡ length vals → AreApart words
      → ShowsEach (bound_by prefix names (worded prefix words)) (front ++ (vals ++ rest)) (map mark words) vals
  words_shown front [] [] rest names at many a = tt
  words_shown front [] (v ∷ vals) rest names at many a = absurd (omega arith)
  words_shown front (w ∷ words) [] rest names at many a = absurd (omega arith)
  words_shown front (w ∷ words) (v ∷ vals) rest names at many a =
      let env = front ++ (v ∷ (vals ++ rest)) in
      let next = bound (plain prefix (prefix ++ w)) names in
      let there : slice_get env names.next ≡ Some v = ap (slice_get env) at ∙ get_behind front v (vals ++ rest) in
      let first : Shows next env (mark w) v = subst (λ k. Shows (bound k names) env (mark w) v) (sym (word_plain is w a.0)) (shows_this (mark w) names env v there) in
      let behind : next.next ≡ length (front ++ v ∷ []) = (let l = length-append front (v ∷ []) in omega arith) in
      let others = words_shown (front ++ v ∷ []) words vals rest next behind (omega arith) a.2 in (
        shows_by prefix env (mark w) v (worded prefix words) next first (words_others w words a.2 a.1),
        subst (λ e. ShowsEach (bound_by prefix next (worded prefix words)) e (map mark words) vals) (append_assoc front (v ∷ []) (vals ++ rest)) others,
      )

  -- a name without the mark stays
  words_new : (name : List ℕ) (ws : List (List ℕ)) → IsPlainName prefix name → AreApart ws → BindOthers prefix name (worded prefix ws)
  words_new name [] h a = tt
  words_new name (w ∷ ws) h a = (ap (λ k. bytes_eq k name) (word_plain is w a.0) ∙ marked_other name w h, words_new name ws h a.2)

  names_kept : (env : List Val) (ws : List (List ℕ)) (ps : List Parameter) (vs : List Val) (names : Names) → AreApart ws → ArePlain prefix ps → ShowsEach names env (map (λ (p : Parameter). p.name) ps) vs
      → ShowsEach (bound_by prefix names (worded prefix ws)) env (map (λ (p : Parameter). p.name) ps) vs
  names_kept env ws [] [] names a h s = tt
  names_kept env ws [] (v ∷ vs) names a h s = absurd s
  names_kept env ws (p ∷ ps) [] names a h s = absurd s
  names_kept env ws (p ∷ ps) (v ∷ vs) names a h s = (shows_by prefix env p.name v (worded prefix ws) names s.0 (words_new p.name ws h.0 a), names_kept env ws ps vs names a h.1 s.1)

  -- where a call begins, the parameters of the grammar and the action's own show what they were given
  pub begin_shown : (held : List ℕ → Val) (ps : List Parameter) (words : List (List ℕ)) (vals rest : List Val) → ArePlain prefix ps → AreApart words → length words ≡ length vals
      → (let ks = map (λ (p : Parameter). p.name) ps in let names = bound_by prefix no_names (map Named ks ++ worded prefix words) in let env = map held ks ++ (vals ++ rest) in
      ShowsEach names env ks (map held ks) × ShowsEach names env (map mark words) vals)
  begin_shown held ps words vals rest h a many =
      let ks = map (λ (p : Parameter). p.name) ps in
      let env = map held ks ++ (vals ++ rest) in
      let first = bound_all no_names ks in
      let n : first.next ≡ length (map held ks) = bound_next no_names ks ∙ (let l = length-map ks held in omega arith) in
      let whole : bound_by prefix no_names (map Named ks ++ worded prefix words) ≡ bound_by prefix first (worded prefix words) = bound_append prefix no_names (map Named ks) (worded prefix words) ∙ ap (λ x. bound_by prefix x (worded prefix words)) (names_bound prefix ps no_names h) in
      subst (λ x. ShowsEach x env ks (map held ks) × ShowsEach x env (map mark words) vals) (sym whole)
      (names_kept env words ps (map held ks) first a h (held_all held [] [] ks (vals ++ rest) no_names refl tt), words_shown (map held ks) words vals rest first n many a)
