-- What parameter rows of action functions bind, where the prefix and the parameters' names are plain.
use Rattle.std.proofs.Common.{◌≡◌, ℕ, ◌+◌, ◌<◌, ◌^◌, true, false, ◌&&◌, ◌||◌, List, [], ◌∷◌, ◌++◌, length, drop, Some, None, refl, ap, sym, ◌∙◌, arith, append_assoc, length-append, if◌then◌else◌}
use Rattle.std.specs.Prelude.{codes, decimal}
use Rattle.std.specs.Option.{unwrap_or}
use Rattle.std.specs.Str.{bytes_eq}
use Rattle.std.proofs.lemmas.Bool.{ne_eqb}
use Rattle.std.proofs.lemmas.Fmt.{decimal_nonempty}
use Rattle.lp_maker.specs.Texts.{Nothing, Triple, Named, cut_at, begins, bare, marked, with_mark, plain, is_idle, name_before, row_binding, bound_of}
use Rattle.lp_maker.proofs.Cuts.{has_front}
use Rattle.lp_question_laws.proofs.Gotos.Digits.{Lacks, decimal_lacks}
use Rattle.lp_question_laws.proofs.Gotos.Cuts.{cut_joined}
use Rattle.lp_question_laws.proofs.Gotos.GotoCode.{lacks-append}
use Rattle.lp_code_laws.proofs.Slots.Names.{other_text}
use Rattle.lp_question_laws.proofs.Gotos.LinkHeaders.{IsWordy, named_bound, prefixed_plain}

-- a prefix that isn't empty, with no byte that parts what is printed around it
pub record IsPlainPrefix (prefix : List ℕ) : Type 0 where
  pub wordy : IsWordy prefix
  pub no_dot : Lacks 46 prefix
  pub no_star : Lacks 42 prefix
  pub some : 0 < length prefix

-- a name that begins otherwise, with no such byte
pub record IsPlainName (prefix name : List ℕ) : Type 0 where
  pub wordy : IsWordy name
  pub no_mark : Lacks 126 name
  pub some : 0 < length name
  pub not_blank : name ≡ codes "_" → ⊥
  pub apart : begins prefix name ≡ false

one_byte : (b : ℕ) (rest : List ℕ) → (b ≡ 38 → ⊥) → (b ≡ 40 → ⊥) → (b ≡ 58 → ⊥) → (b ≡ 95 → ⊥) → bound_of (b ∷ 58 ∷ rest) ≡ Named (b ∷ [])
one_byte b rest no_and no_open no_colon no_blank =
    let row = b ∷ 58 ∷ rest in
    let self : bytes_eq row (codes "&self") ≡ false = other_text row (codes "&self") (λ e. no_and cc) in
    let mut_self : bytes_eq row (codes "&mut self") ≡ false = other_text row (codes "&mut self") (λ e. no_and cc) in
    let blank : begins (codes "_:") row ≡ false = ap (λ t. t && true) (ne_eqb 95 b (λ e. no_blank (sym e))) in
    let idle : is_idle row ≡ false = ap (λ t. t || (bytes_eq row (codes "&mut self") || begins (codes "_:") row)) self ∙ ap (λ t. t || begins (codes "_:") row) mut_self ∙ blank in
    let opens : begins (codes "(") row ≡ false = ap (λ t. t && true) (ne_eqb 40 b (λ e. no_open (sym e))) in
    ap (λ t. if t then Nothing else row_binding row) idle ∙ ap (λ t. if t then Triple else name_before (cut_at (codes ":") row)) opens ∙ ap name_before (cut_joined 58 [] (b ∷ []) rest (no_colon, tt))

-- `name: type` binds the name
pub name_bound : (prefix name rest : List ℕ) → IsPlainName prefix name → bound_of (name ++ 58 ∷ rest) ≡ Named name
name_bound prefix [] rest h = absurd (let l = h.some in omega arith)
name_bound prefix (b ∷ []) rest h = one_byte b rest h.wordy.no_and.0 h.wordy.no_open.0 h.wordy.no_colon.0 (λ e. h.not_blank (ap (λ c. c ∷ []) e))
name_bound prefix (b ∷ c ∷ cs) rest h = named_bound (b ∷ c ∷ cs) rest (record { no_and = h.wordy.no_and; no_open = h.wordy.no_open; no_colon = h.wordy.no_colon; long = omega arith })

bare_stays : (s : List ℕ) → Lacks 38 s → bare s ≡ s
bare_stays [] h = refl
bare_stays (b ∷ bs) h = ap (λ t. unwrap_or (if t then Some (drop 1 (b ∷ bs)) else None) (b ∷ bs)) (ap (λ t. t && true) (ne_eqb 38 b (λ e. h.0 (sym e))))

-- which scopes know as it is
pub name_plain : (prefix name : List ℕ) → IsPlainName prefix name → plain prefix name ≡ name
name_plain prefix name h = ap (marked prefix) (bare_stays name h.wordy.no_and) ∙ ap (λ t. with_mark name (if t then Some (drop (length prefix) name) else None)) h.apart

-- ---- names with the prefix

-- a word with no such byte, which isn't empty
pub record IsPlainWord (word : List ℕ) : Type 0 where
  pub wordy : IsWordy word
  pub no_dot : Lacks 46 word
  pub some : 0 < length word

pub decimal_word : (n : ℕ) → n < 2 ^ 64 → IsPlainWord (decimal n)
decimal_word n small = record {
  wordy = record { no_and = decimal_lacks 38 n (λ r. omega arith) small; no_open = decimal_lacks 40 n (λ r. omega arith) small; no_colon = decimal_lacks 58 n (λ r. omega arith) small };
  no_dot = decimal_lacks 46 n (λ r. omega arith) small;
  some = decimal_nonempty n small;
}

module _ {prefix : List ℕ} (is : IsPlainPrefix prefix) where
  pub prefixed_lacks : (word : List ℕ) → IsPlainWord word → Lacks 38 (prefix ++ word)
  prefixed_lacks word w = lacks-append 38 prefix word is.wordy.no_and w.wordy.no_and

  -- `~word: type` binds the whole
  pub prefixed_named : (word rest : List ℕ) → IsPlainWord word → bound_of (prefix ++ (word ++ 58 ∷ rest)) ≡ Named (prefix ++ word)
  prefixed_named word rest w =
      ap bound_of (sym (append_assoc prefix word (58 ∷ rest)))
      ∙ named_bound (prefix ++ word) rest (record {
        no_and = prefixed_lacks word w;
        no_open = lacks-append 40 prefix word is.wordy.no_open w.wordy.no_open;
        no_colon = lacks-append 58 prefix word is.wordy.no_colon w.wordy.no_colon;
        long = (let e : length (prefix ++ word) ≡ length prefix + length word = length-append prefix word in let a = is.some in let b = w.some in omega arith);
      })

  -- which scopes know with `~`
  pub word_plain : (word : List ℕ) → IsPlainWord word → plain prefix (prefix ++ word) ≡ codes "~" ++ word
  word_plain word w = prefixed_plain prefix word (prefixed_lacks word w)

  -- and which is no parameter of the grammar
  pub begins_prefixed : (word : List ℕ) → begins prefix (prefix ++ word) ≡ true
  begins_prefixed word = has_front prefix (prefix ++ word) word refl
