-- Names of parameters: what a header's row binds for them.
use Rattle.std.proofs.Common.{◌≡◌, ℕ, ◌<◌, Bool, true, false, ◌&&◌, ◌||◌, List, [], ◌∷◌, ◌++◌, length, drop, Some, None, codes, refl, sym, ap, ◌∙◌, arith}
use Rattle.std.specs.Prelude.{if◌then◌else◌, eqb}
use Rattle.std.specs.List.{list_all}
use Rattle.std.specs.Option.{unwrap_or}
use Rattle.std.specs.Str.{bytes_eq}
use Rattle.std.proofs.Math.Bool.{and-false}
use Rattle.std.proofs.lemmas.Bool.{and_parts, both_ways, false_from_ne_true, ne_eqb}
use Rattle.std.proofs.lemmas.Slice.Eq.{bytes_eq-Decides}
use Rattle.lp_spelling.specs.HoleEnds.{is_word}
use Rattle.lp_maker.specs.Texts.{Nothing, Triple, Named, cut_at, begins, bare, marked, with_mark, plain, is_idle, name_before, row_binding, bound_of}
use Rattle.lp_question_laws.proofs.Gotos.Cuts.{cut_joined}
use Rattle.lp_question_laws.proofs.Gotos.Digits.{Lacks}

-- a word, but not `_` alone, at whose front the prefix doesn't stand
pub record IsPlainName (prefix name : List ℕ) : Type 0 where
  pub words : list_all is_word name ≡ true
  pub some : 0 < length name
  pub named : name ≡ codes "_" → ⊥
  pub apart : begins prefix name ≡ false

-- a byte that is no word's is in no word
pub words_lack : (c : ℕ) → is_word c ≡ false → (s : List ℕ) → list_all is_word s ≡ true → Lacks c s
words_lack c none [] h = tt
words_lack c none (b ∷ bs) h =
    let p = and_parts (is_word b) (list_all is_word bs) h in
    (λ e. both_ways (is_word c) none (sym (ap is_word e) ∙ p.0), words_lack c none bs p.1)

unequal : (x y : List ℕ) → (x ≡ y → ⊥) → bytes_eq x y ≡ false
unequal x y h = false_from_ne_true _ (λ e. h ((bytes_eq-Decides x y).0 e))

no_blank : (name rest : List ℕ) → 0 < length name → (name ≡ codes "_" → ⊥) → Lacks 58 name → begins (codes "_:") (name ++ 58 ∷ rest) ≡ false
no_blank [] rest some named lacks = absurd (omega (arith, some))
no_blank (b ∷ []) rest some named lacks = ap (λ (t : Bool). t && true) (ne_eqb 95 b (λ e. named (ap (λ (x : ℕ). x ∷ []) (sym e))))
no_blank (b ∷ c ∷ cs) rest some named lacks = ap (λ (t : Bool). eqb 95 b && (t && true)) (ne_eqb 58 c (λ e. lacks.1.0 (sym e))) ∙ and-false (eqb 95 b)

no_front : (c : ℕ) (name rest : List ℕ) → 0 < length name → Lacks c name → begins (c ∷ []) (name ++ rest) ≡ false
no_front c [] rest some lacks = absurd (omega (arith, some))
no_front c (b ∷ bs) rest some lacks = ap (λ (t : Bool). t && true) (ne_eqb c b (λ e. lacks.0 (sym e)))

no_and : (name rest text : List ℕ) → 0 < length name → Lacks 38 name → bytes_eq (name ++ rest) (38 ∷ text) ≡ false
no_and [] rest text some lacks = absurd (omega (arith, some))
no_and (b ∷ bs) rest text some lacks = unequal ((b ∷ bs) ++ rest) (38 ∷ text) (λ e. lacks.0 cc)

module _ (prefix name : List ℕ) (is : IsPlainName prefix name) where
  -- `name: type` binds the name
  pub plain_bound : (rest : List ℕ) → bound_of (name ++ 58 ∷ rest) ≡ Named name
  plain_bound rest =
      let row = name ++ 58 ∷ rest in
      let and : Lacks 38 name = words_lack 38 refl name is.words in
      let colon : Lacks 58 name = words_lack 58 refl name is.words in
      let idle : is_idle row ≡ false =
      ap (λ (t : Bool). t || (bytes_eq row (codes "&mut self") || begins (codes "_:") row)) (no_and name (58 ∷ rest) (codes "self") is.some and)
      ∙ ap (λ (t : Bool). t || begins (codes "_:") row) (no_and name (58 ∷ rest) (codes "mut self") is.some and) ∙ no_blank name rest is.some is.named colon in
      let opens : begins (codes "(") row ≡ false = no_front 40 name (58 ∷ rest) is.some (words_lack 40 refl name is.words) in
      ap (λ (t : Bool). if t then Nothing else row_binding row) idle ∙ ap (λ (t : Bool). if t then Triple else name_before (cut_at (codes ":") row)) opens ∙ ap name_before (cut_joined 58 [] name rest colon)

  bare_stays : (s : List ℕ) → Lacks 38 s → bare s ≡ s
  bare_stays [] h = refl
  bare_stays (b ∷ bs) h = ap (λ (t : Bool). unwrap_or (if t then Some (drop 1 (b ∷ bs)) else None) (b ∷ bs)) (ap (λ (t : Bool). t && true) (ne_eqb 38 b (λ e. h.0 (sym e))))

  -- and is known by itself
  pub plain_stays : plain prefix name ≡ name
  plain_stays = ap (marked prefix) (bare_stays name (words_lack 38 refl name is.words)) ∙ ap (λ (t : Bool). with_mark name (if t then Some (drop (length prefix) name) else None)) is.apart

  tilde : (s : List ℕ) (text : List ℕ) → Lacks 126 s → s ≡ 126 ∷ text → ⊥
  tilde [] text lacks e = cc
  tilde (b ∷ bs) text lacks e = lacks.0 cc

  -- it is not that of the tokens
  pub no_tokens : bytes_eq name (codes "~tokens0") ≡ false
  no_tokens = unequal name (codes "~tokens0") (tilde name (codes "tokens0") (words_lack 126 refl name is.words))
