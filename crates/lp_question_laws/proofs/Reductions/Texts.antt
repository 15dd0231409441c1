-- The names in printed lists of arguments and in headers.
use Rattle.std.proofs.Common.{◌≡◌, ℕ, zero, suc, ◌+◌, ◌<◌, ◌≤◌, ◌^◌, Bool, true, false, ◌&&◌, ◌||◌, if◌then◌else◌, List, [], ◌∷◌, ◌++◌, length, map, drop, Some, None, refl, sym, ap, ◌∙◌, arith, codes, decimal, append_assoc, append-nil, length-append}
use Rattle.std.specs.Prelude.{eqb}
use Rattle.std.specs.Option.{unwrap_or}
use Rattle.std.specs.List.{flat_map, range_with_len}
use Rattle.std.specs.Str.{bytes_eq}
use Rattle.std.proofs.lemmas.Bool.{ne_eqb}
use Rattle.std.proofs.Math.Seq.{drop-append_seam}
use Rattle.lp_repr.specs.ShownTypes.{type_text}
use Rattle.lp_repr.specs.declared.repr.Parameter.{Parameter}
use Rattle.lp_parts.specs.Texts.{arguments_of, comma_list}
use Rattle.lp_table.specs.Headers.{declared_text}
use Rattle.lp_table.specs.ReductionLines.{symbol_name, symbol_arguments, span_arguments}
use Rattle.lp_maker.proofs.Cuts.{has_front}
use Rattle.lp_maker.specs.Slots.{Names, bound}
use Rattle.lp_maker.specs.Texts.{Named, Nothing, Triple, begins, bare, bound_of, cut_at, is_idle, marked, name_before, pieces, pieces_around, pieces_within, plain, row_binding, with_mark}
use Rattle.lp_maker.specs.Making.{bind}
use Rattle.lp_question_laws.proofs.Gotos.Cuts.{Apart, joined, cut_joined, pieces_joined}
use Rattle.lp_question_laws.proofs.Gotos.Digits.{Lacks, decimal_lacks}
use Rattle.lp_question_laws.proofs.Gotos.GotoCode.{lacks-append}
use Rattle.lp_question_laws.proofs.Gotos.LinkHeaders.{unequal, named_bound, prefixed_plain, bind_all, IsWordy, lacks_by}
use Rattle.lp_question_laws.specs.Reductions.Outer.{sym_name}
use Rattle.lp_question_laws.specs.Reductions.Arguments.{names_in}
use Rattle.lp_question_laws.proofs.Reductions.Keys.{symbol_keys, argument_keys}
use Rattle.lp_question_laws.proofs.Reductions.Parameters.{bound_each}

-- the name of a parameter: none of `&`, `(`, `,`, `:` and `~`, not `_`, and without the prefix in front
pub record IsKey (prefix name : List ℕ) : Type 0 where
  pub no_and : Lacks 38 name
  pub no_open : Lacks 40 name
  pub no_comma : Lacks 44 name
  pub no_colon : Lacks 58 name
  pub no_mark : Lacks 126 name
  pub some : 0 < length name
  pub not_blank : name ≡ codes "_" → ⊥
  pub apart : begins prefix name ≡ false

abbrev pub AllKeys : List ℕ → List (List ℕ) → Type 0
AllKeys prefix [] = Unit {0}
AllKeys prefix (q ∷ qs) = IsKey prefix q × AllKeys prefix qs

abbrev pub names_of : List Parameter → List (List ℕ)
names_of ps = map (λ p. p.name) ps

-- ---- as scopes know it

bare_stays : (s : List ℕ) → Lacks 38 s → bare s ≡ s
bare_stays [] h = refl
bare_stays (b ∷ bs) h = ap (λ t. unwrap_or (if t then Some (drop 1 (b ∷ bs)) else None) (b ∷ bs)) (ap (λ t. t && true) (ne_eqb 38 b (λ e. h.0 (sym e))))

pub key_plain : (prefix name : List ℕ) → IsKey prefix name → plain prefix name ≡ name
key_plain prefix name h =
    ap (marked prefix) (bare_stays name h.no_and)
    ∙ ap (λ t. with_mark name (if t then Some (drop (length prefix) name) else None)) h.apart

pub key_bound : (prefix name rest : List ℕ) → IsKey prefix name → bound_of (name ++ 58 ∷ rest) ≡ Named name
key_bound prefix [] rest h = absurd (let l = h.some in omega arith)
key_bound prefix (b ∷ []) rest h =
    let row = b ∷ 58 ∷ rest in
    let self : bytes_eq row (codes "&self") ≡ false = unequal row (codes "&self") (λ e. h.no_and.0 cc) in
    let mut_self : bytes_eq row (codes "&mut self") ≡ false = unequal row (codes "&mut self") (λ e. h.no_and.0 cc) in
    let blank : begins (codes "_:") row ≡ false = ap (λ t. t && (eqb 58 58 && true)) (ne_eqb 95 b (λ e. h.not_blank (ap (λ c. c ∷ []) (sym e)))) in
    let idle : is_idle row ≡ false = ap (λ t. t || (bytes_eq row (codes "&mut self") || begins (codes "_:") row)) self ∙ ap (λ t. t || begins (codes "_:") row) mut_self ∙ blank in
    let opens : begins (codes "(") row ≡ false = ap (λ t. t && true) (ne_eqb 40 b (λ e. h.no_open.0 (sym e))) in
    ap (λ t. if t then Nothing else row_binding row) idle ∙ ap (λ t. if t then Triple else name_before (cut_at (codes ":") row)) opens ∙ ap name_before (cut_joined 58 [] (b ∷ []) rest h.no_colon)
key_bound prefix (b ∷ c ∷ cs) rest h = named_bound (b ∷ c ∷ cs) rest (record { no_and = h.no_and; no_open = h.no_open; no_colon = h.no_colon; long = omega arith })

-- the declared parameters bind their names
pub declared_bound : (prefix : List ℕ) (ps : List Parameter) (names : Names) → AllKeys prefix (names_of ps) → bind_all prefix names (map declared_text ps) ≡ bound_each names (names_of ps)
declared_bound prefix [] names a = refl
declared_bound prefix (p ∷ ps) names a =
    ap (λ b. bind_all prefix (bind prefix b names) (map declared_text ps)) (key_bound prefix p.name (32 ∷ type_text p.ty) a.0)
    ∙ ap (λ k. bind_all prefix (bound k names) (map declared_text ps)) (key_plain prefix p.name a.0)
    ∙ declared_bound prefix ps (bound p.name names) a.1

pub bind_append : (prefix : List ℕ) (names : Names) (a b : List (List ℕ)) → bind_all prefix names (a ++ b) ≡ bind_all prefix (bind_all prefix names a) b
bind_append prefix names [] b = refl
bind_append prefix names (t ∷ a) b = bind_append prefix (bind prefix (bound_of t) names) a b

-- ---- lists

abbrev comma : List ℕ
comma = 44 ∷ 32 ∷ []

pub unjoined : (t u : List ℕ) (us : List (List ℕ)) → joined comma (t ∷ u ∷ us) ≡ t ++ (comma ++ joined comma (u ∷ us))
unjoined t u us = ap (λ r. t ++ r) (append_assoc comma u (flat_map (λ y. comma ++ y) us))

unjoin : (x : List ℕ) (xs : List (List ℕ)) (t : List ℕ) (ts : List (List ℕ)) → joined comma (x ∷ (xs ++ t ∷ ts)) ≡ x ++ (comma ++ joined comma (xs ++ t ∷ ts))
unjoin x [] t ts = unjoined x t ts
unjoin x (y ∷ ys) t ts = unjoined x y (ys ++ t ∷ ts)

-- the parameters' names in front of a list
arguments_joined : (ps : List Parameter) (t : List ℕ) (ts : List (List ℕ)) → arguments_of ps ++ joined comma (t ∷ ts) ≡ joined comma (names_of ps ++ t ∷ ts)
arguments_joined [] t ts = refl
arguments_joined (p ∷ ps) t ts =
    append_assoc (p.name ++ comma) (arguments_of ps) (joined comma (t ∷ ts))
    ∙ append_assoc p.name comma (arguments_of ps ++ joined comma (t ∷ ts))
    ∙ ap (λ r. p.name ++ (comma ++ r)) (arguments_joined ps t ts)
    ∙ sym (unjoin p.name (names_of ps) t ts)

apart_append : (prefix x : List ℕ) (qs : List (List ℕ)) (t : List ℕ) (ts : List (List ℕ)) → Lacks 44 x → AllKeys prefix qs → Apart 44 t ts → Apart 44 x (qs ++ t ∷ ts)
apart_append prefix x [] t ts l a h = (l, h)
apart_append prefix x (q ∷ qs) t ts l a h = (l, apart_append prefix q qs t ts a.0.no_comma a.1 h)

list_pieces : (prefix : List ℕ) (qs : List (List ℕ)) (t : List ℕ) (ts : List (List ℕ)) → AllKeys prefix qs → Apart 44 t ts → pieces comma (joined comma (qs ++ t ∷ ts)) ≡ qs ++ t ∷ ts
list_pieces prefix [] t ts a h = pieces_joined 44 (32 ∷ []) t ts h
list_pieces prefix (q ∷ qs) t ts a h = pieces_joined 44 (32 ∷ []) q (qs ++ t ∷ ts) (apart_append prefix q qs t ts a.0.no_comma a.1 h)

keys_plain : (prefix : List ℕ) (qs rest : List (List ℕ)) → AllKeys prefix qs → map (plain prefix) (qs ++ rest) ≡ qs ++ map (plain prefix) rest
keys_plain prefix [] rest a = refl
keys_plain prefix (q ∷ qs) rest a = ap (λ k. k ∷ map (plain prefix) (qs ++ rest)) (key_plain prefix q a.0) ∙ ap (λ r. q ∷ r) (keys_plain prefix qs rest a.1)

-- parameters and then other names
pub both_named : (prefix : List ℕ) (ps : List Parameter) (t : List ℕ) (ts : List (List ℕ)) → AllKeys prefix (names_of ps) → Apart 44 t ts → names_in prefix (arguments_of ps ++ joined comma (t ∷ ts)) ≡ names_of ps ++ map (plain prefix) (t ∷ ts)
both_named prefix ps t ts a h =
    ap (λ s. map (plain prefix) (pieces comma s)) (arguments_joined ps t ts)
    ∙ ap (map (plain prefix)) (list_pieces prefix (names_of ps) t ts a h)
    ∙ keys_plain prefix (names_of ps) (t ∷ ts) a

-- parameters alone
alone_within : (prefix : List ℕ) (n : ℕ) (ps : List Parameter) → AllKeys prefix (names_of ps) → length ps ≤ n → pieces_within n comma (arguments_of ps) ≡ names_of ps
alone_within prefix zero [] a le = refl
alone_within prefix (suc n) [] a le = refl
alone_within prefix zero (p ∷ ps) a le = absurd (omega arith)
alone_within prefix (suc n) (p ∷ ps) a le =
    ap (λ s. pieces_within (suc n) comma s) (append_assoc p.name comma (arguments_of ps))
    ∙ ap (pieces_around (λ t. pieces_within n comma t) (p.name ++ (comma ++ arguments_of ps))) (cut_joined 44 (32 ∷ []) p.name (arguments_of ps) a.0.no_comma)
    ∙ ap (λ r. p.name ∷ r) (alone_within prefix n ps a.1 (omega arith))

long_enough : (ps : List Parameter) → length ps ≤ length (arguments_of ps)
long_enough [] = omega arith
long_enough (p ∷ ps) = omega (arith, length-append (p.name ++ comma) (arguments_of ps), length-append p.name comma, long_enough ps)

pub parameters_named : (prefix : List ℕ) (ps : List Parameter) → AllKeys prefix (names_of ps) → names_in prefix (arguments_of ps) ≡ names_of ps
parameters_named prefix ps a =
    ap (map (plain prefix)) (alone_within prefix (length (arguments_of ps)) ps a (long_enough ps)) ∙ sym (ap (map (plain prefix)) (append-nil (names_of ps))) ∙ keys_plain prefix (names_of ps) [] a ∙ append-nil (names_of ps)

-- ---- symbols as arguments

-- what a prefix lacks
pub record IsPrefix (prefix : List ℕ) : Type 0 where
  pub wordy : IsWordy prefix
  pub no_comma : Lacks 44 prefix

module _ (prefix : List ℕ) (h : IsPrefix prefix) where
  digits : (c i : ℕ) → i < 2 ^ 64 → c < 48 → Lacks c (decimal i)
  digits c i small less = decimal_lacks c i (λ r. omega arith) small

  -- a word behind the prefix
  word_lacks : (c : ℕ) (word : List ℕ) → Lacks c prefix → Lacks c word → Lacks c (prefix ++ word)
  word_lacks c word a b = lacks-append c prefix word a b

  symbol_lacks : (c i : ℕ) → i < 2 ^ 64 → c < 48 → Lacks c prefix → Lacks c (symbol_name prefix i)
  symbol_lacks c i small less a = word_lacks c (codes "sym" ++ decimal i) a ((λ e. omega arith), ((λ e. omega arith), ((λ e. omega arith), digits c i small less)))

  symbol_plain : (i : ℕ) → i < 2 ^ 64 → plain prefix (symbol_name prefix i) ≡ sym_name i
  symbol_plain i small = prefixed_plain prefix (codes "sym" ++ decimal i) (symbol_lacks 38 i small (omega arith) h.wordy.no_and)

  pub symbols_plain : (k n : ℕ) → k + n ≤ 2 ^ 64 → map (plain prefix) (map (symbol_name prefix) (range_with_len k n)) ≡ symbol_keys k n
  symbols_plain k zero le = refl
  symbols_plain k (suc n) le = ap (λ q. q ∷ map (plain prefix) (map (symbol_name prefix) (range_with_len (k + 1) n))) (symbol_plain k (omega arith)) ∙ ap (λ r. sym_name k ∷ r) (symbols_plain (k + 1) n (omega arith))

  symbol_long : (i : ℕ) → 0 < length (symbol_name prefix i)
  symbol_long i = omega (arith, length-append prefix (codes "sym" ++ decimal i))

  pub symbols_apart : (k n : ℕ) → k + suc n ≤ 2 ^ 64 → Apart 44 (symbol_name prefix k) (map (symbol_name prefix) (range_with_len (k + 1) n))
  symbols_apart k zero le = (symbol_lacks 44 k (omega arith) (omega arith) h.no_comma, symbol_long k)
  symbols_apart k (suc n) le = (symbol_lacks 44 k (omega arith) (omega arith) h.no_comma, symbols_apart (k + 1) n (omega arith))

  -- a word behind `&` and the prefix
  marked_plain : (word : List ℕ) → plain prefix (38 ∷ (prefix ++ word)) ≡ codes "~" ++ word
  marked_plain word =
      ap (λ t. with_mark (prefix ++ word) (if t then Some (drop (length prefix) (prefix ++ word)) else None)) (has_front prefix (prefix ++ word) word refl)
      ∙ ap (λ t. codes "~" ++ t) (drop-append_seam prefix word)

  abbrev from_text : List ℕ
  from_text = 38 ∷ (prefix ++ codes "start")

  abbrev to_text : List ℕ
  to_text = 38 ∷ (prefix ++ codes "end")

  spans_joined : span_arguments prefix ≡ joined comma (from_text ∷ to_text ∷ [])
  spans_joined = ap (λ r. 38 ∷ r) (sym (append_assoc prefix (codes "start") (comma ++ to_text))) ∙ sym (unjoined from_text to_text [] ∙ ap (λ r. from_text ++ (comma ++ r)) (append-nil to_text))

  spans_apart : Apart 44 from_text (to_text ∷ [])
  spans_apart = (((λ e. omega arith), word_lacks 44 (codes "start") h.no_comma (lacks_by 44 (codes "start") refl)), (((λ e. omega arith), word_lacks 44 (codes "end") h.no_comma (lacks_by 44 (codes "end") refl)), omega arith))

  -- parameters and then symbols from a number on
  pub slots_named : (ps : List Parameter) (k n : ℕ) → AllKeys prefix (names_of ps) → k + suc n ≤ 2 ^ 64 → names_in prefix (arguments_of ps ++ comma_list (map (symbol_name prefix) (range_with_len k (suc n)))) ≡ names_of ps ++ symbol_keys k (suc n)
  slots_named ps k n a le = both_named prefix ps (symbol_name prefix k) (map (symbol_name prefix) (range_with_len (k + 1) n)) a (symbols_apart k n le) ∙ ap (λ r. names_of ps ++ r) (symbols_plain k (suc n) le)

  -- or the place of none
  pub place_named : (ps : List Parameter) → AllKeys prefix (names_of ps) → names_in prefix (arguments_of ps ++ span_arguments prefix) ≡ names_of ps ++ argument_keys 0
  place_named ps a =
      ap (λ s. names_in prefix (arguments_of ps ++ s)) spans_joined
      ∙ both_named prefix ps from_text (to_text ∷ []) a spans_apart
      ∙ ap (λ q. names_of ps ++ q ∷ plain prefix to_text ∷ []) (marked_plain (codes "start"))
      ∙ ap (λ q. names_of ps ++ codes "~start" ∷ q ∷ []) (marked_plain (codes "end"))

  -- the arguments of an action
  pub arguments_named : (ps : List Parameter) (n : ℕ) → AllKeys prefix (names_of ps) → n ≤ 2 ^ 64 → names_in prefix (arguments_of ps ++ symbol_arguments prefix n) ≡ names_of ps ++ argument_keys n
  arguments_named ps zero a le = place_named ps a
  arguments_named ps (suc n) a le =
      ap (λ (b : Bool). names_in prefix (arguments_of ps ++ (if b then span_arguments prefix else comma_list (map (symbol_name prefix) (range_with_len 0 (suc n)))))) (ne_eqb (suc n) 0 (λ e. omega arith))
      ∙ slots_named ps 0 n a (omega arith)
