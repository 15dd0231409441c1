-- The header of an action's function: what it binds, how many parameters of the grammar it has, and whether it can fail.
use Rattle.std.proofs.Common.{◌≡◌, ℕ, ◌+◌, ◌<◌, ◌≤◌, ◌^◌, Bool, true, false, List, [], ◌∷◌, ◌++◌, length, map, refl, ap, ◌∙◌, arith, if◌then◌else◌}
use Rattle.std.specs.Prelude.{codes, decimal, not, nat_eq}
use Rattle.std.specs.Cmp.Lexicographic.{pointwise}
use Rattle.std.specs.List.{flat_map}
use Rattle.lp_form.specs.declared.part.Part.TheVariants as part
use Rattle.lp_repr.specs.declared.repr.ActionFnDefnKind.{ActionFnDefnKind}
use Rattle.lp_repr.specs.declared.repr.ActionFnDefnKind.TheVariants.{User, Lookaround, Inline}
use Rattle.lp_repr.specs.declared.repr.Grammar.{Grammar}
use Rattle.lp_repr.specs.declared.repr.Parameter.{Parameter}
use Rattle.lp_repr.specs.declared.repr.Symbol.{Symbol}
use Rattle.lp_repr.specs.declared.repr.TypeRepr.{TypeRepr}
use Rattle.lp_build.specs.declared.functions.FunctionName.{FunctionName}
use Rattle.lp_build.specs.Functions.{result_line}
use Rattle.lp_tree.specs.ProgramTree.{leaf}
use Rattle.std.proofs.lemmas.List.{map-append}
use Rattle.lp_parts.specs.Texts.{location_text}
use Rattle.lp_table.specs.Headers.{grammar_header, generics_of, clauses_of, declared_text, declared_texts, names_of}
use Rattle.lp_actions.specs.Parameters.{action_parameters, ahead_parameter, place_parameters, user_if, user_from, inline_parameters, takes_any, symbols_of}
use Rattle.lp_view.specs.PartLists.{Form, over}
use Rattle.lp_maker.specs.Texts.{Binding, Triple, Named, bound_of}
use Rattle.lp_maker.specs.Slots.{Names, no_names}
use Rattle.lp_maker.specs.Making.{bind, parameters}
use Rattle.lp_bodies.specs.Actions.{is_own, counted_row, parameter_count}
use Rattle.lp_code_laws.specs.Slots.Parameters.{bound_by}
use Rattle.lp_code_laws.proofs.Slots.Slots.{get_within}
use Rattle.lp_build.specs.Built.{row}
use Rattle.lp_question_laws.proofs.Gotos.LinkGrows.{either}
use Rattle.lp_question_laws.proofs.Gotos.LinkHeaders.{bind_all, header_names, has_no, wordy_by, lacks_by}
use Rattle.lp_question_laws.specs.Actions.Bindings.{triples, places, numbered, own_bindings, bindings_of}
use Rattle.lp_question_laws.proofs.Actions.Rows.{row_forms, result_form, header_over}
use Rattle.lp_question_laws.proofs.Actions.Texts.{IsPlainPrefix, IsPlainName, IsPlainWord, name_bound, decimal_word, prefixed_named, begins_prefixed}

-- each parameter of the grammar has a plain name
abbrev pub ArePlain : List ℕ → List Parameter → Type 0
ArePlain prefix [] = Unit {0}
ArePlain prefix (p ∷ ps) = IsPlainName prefix p.name × ArePlain prefix ps

if_both : {A B : Type 0} (P : A → B → Type 0) (b : Bool) {x y : A} {u v : B} → P x u → P y v → P (if b then x else y) (if b then u else v)
if_both P true h g = h
if_both P false h g = g

pub plain_word : (word : List ℕ) → has_no 38 word ≡ true → has_no 40 word ≡ true → has_no 58 word ≡ true → has_no 46 word ≡ true → 0 < length word → IsPlainWord word
plain_word word a b c d some = record { wordy = wordy_by word a b c; no_dot = lacks_by 46 word d; some = some }

pub by_result : (P : Form → Type 0) (answer : List ℕ) → P (leaf part.ResultUnit []) → P (leaf part.ResultType (answer ∷ [])) → P (result_line answer)
by_result P answer h g = either P (pointwise nat_eq answer (codes "()")) _ _ h g

-- ---- what texts bind

module _ (g : Grammar) where
  declared_bound : (ps : List Parameter) → ArePlain g.prefix ps → map bound_of (map declared_text ps) ≡ map Named (map (λ (p : Parameter). p.name) ps)
  declared_bound [] h = refl
  declared_bound (p ∷ ps) h = ap (λ b. b ∷ map bound_of (map declared_text ps)) (name_bound g.prefix p.name _ h.0) ∙ ap (λ bs. Named p.name ∷ bs) (declared_bound ps h.1)

  user_bound : (types : List TypeRepr) (n : ℕ) (patterns : List (List ℕ)) → n + length patterns ≤ length types → map bound_of (user_from g types n patterns) ≡ triples patterns
  user_bound types n [] h = refl
  user_bound types n (p ∷ ps) h =
      let less : n < length types = omega arith in
      let there = get_within types n less in
      ap (λ o. map bound_of (user_if g p o ++ user_from g types (n + 1) ps)) there.1 ∙ ap (λ bs. Triple ∷ bs) (user_bound types (n + 1) ps (omega arith))

  module _ (plain : IsPlainPrefix g.prefix) where
    places_bound : map bound_of (place_parameters g) ≡ places g.prefix
    places_bound =
        ap (λ b. b ∷ bound_of (ahead_parameter g.prefix (location_text g)) ∷ []) (prefixed_named plain (codes "lookbehind") (codes " &" ++ location_text g) (plain_word (codes "lookbehind") refl refl refl refl (omega arith)))
        ∙ ap (λ b. Named (g.prefix ++ codes "lookbehind") ∷ b ∷ []) (prefixed_named plain (codes "lookahead") (codes " &" ++ location_text g) (plain_word (codes "lookahead") refl refl refl refl (omega arith)))

    numbered_bound : (n : ℕ) (symbols : List Symbol) → n + length symbols < 2 ^ 64 → map bound_of (inline_parameters g n symbols) ≡ numbered g.prefix n symbols
    numbered_bound n [] h = refl
    numbered_bound n (s ∷ ss) h =
        ap (λ b. b ∷ map bound_of (inline_parameters g (n + 1) ss)) (prefixed_named plain (decimal n) _ (decimal_word n (omega arith)))
        ∙ ap (λ bs. Named (g.prefix ++ decimal n) ∷ bs) (numbered_bound (n + 1) ss (omega arith))

    -- what the numbers of an action's parameters have to be
    abbrev pub IsCounted : ActionFnDefnKind → Type 0
    IsCounted (User patterns types code) = length patterns ≡ length types
    IsCounted (Lookaround place) = Unit {0}
    IsCounted (Inline action symbols) = (length (flat_map symbols_of symbols) < 2 ^ 64) × (length symbols < 2 ^ 64)

    own_bound : (kind : ActionFnDefnKind) → IsCounted kind → map bound_of (action_parameters g kind) ≡ own_bindings g.prefix kind
    own_bound (User [] types code) h = places_bound
    own_bound (User (p ∷ ps) types code) h = user_bound types 0 (p ∷ ps) (omega arith)
    own_bound (Lookaround place) h = places_bound
    own_bound (Inline action symbols) h =
        if_both (λ (texts : List (List ℕ)) (bs : List Binding). map bound_of texts ≡ bs) (takes_any symbols) (numbered_bound 0 (flat_map symbols_of symbols) (let f = h.0 in omega arith)) places_bound

    all_bound : (kind : ActionFnDefnKind) → ArePlain g.prefix g.parameters → IsCounted kind → map bound_of (declared_texts g ++ action_parameters g kind) ≡ bindings_of g kind
    all_bound kind names h =
        map-append bound_of (declared_texts g) (action_parameters g kind) ∙ ap (λ bs. bs ++ map bound_of (action_parameters g kind)) (declared_bound g.parameters names) ∙ ap (λ bs. map Named (names_of g) ++ bs) (own_bound kind h)

-- ---- headers

-- the names of a function are those that its texts bind
names_by : (prefix : List ℕ) (names : Names) (texts : List (List ℕ)) → bind_all prefix names texts ≡ bound_by prefix names (map bound_of texts)
names_by prefix names [] = refl
names_by prefix names (t ∷ texts) = names_by prefix (bind prefix (bound_of t) names) texts

-- how many of some bindings are the grammar's own
abbrev owned : List ℕ → ℕ → List Binding → ℕ
owned prefix n [] = n
owned prefix n (b ∷ bs) = owned prefix (if is_own prefix b then n + 1 else n) bs

counted_by : (prefix : List ℕ) (n : ℕ) (texts : List (List ℕ)) → over (counted_row prefix) n (row_forms part.ParameterRow texts) ≡ owned prefix n (map bound_of texts)
counted_by prefix n [] = refl
counted_by prefix n (t ∷ texts) = counted_by prefix (counted_row prefix n (row part.ParameterRow (t ∷ []) ∷ [])) texts

owned-append : (prefix : List ℕ) (n : ℕ) (a b : List Binding) → owned prefix n (a ++ b) ≡ owned prefix (owned prefix n a) b
owned-append prefix n [] b = refl
owned-append prefix n (x ∷ a) b = owned-append prefix (if is_own prefix x then n + 1 else n) a b

result_uncounted : (prefix : List ℕ) (n : ℕ) (answer : List ℕ) → counted_row prefix n (result_form answer) ≡ n
result_uncounted prefix n answer = by_result (λ f. counted_row prefix n f ≡ n) answer refl refl

module _ (g : Grammar) (plain : IsPlainPrefix g.prefix) where
  declared_owned : (n : ℕ) (ps : List Parameter) → ArePlain g.prefix ps → owned g.prefix n (map Named (map (λ (p : Parameter). p.name) ps)) ≡ n + length ps
  declared_owned n [] h = omega arith
  declared_owned n (p ∷ ps) h =
      ap (λ b. owned g.prefix (if not b then n + 1 else n) (map Named (map (λ (p : Parameter). p.name) ps))) h.0.apart ∙ declared_owned (n + 1) ps h.1 ∙ (omega arith)

  prefixed_unowned : (n : ℕ) (word : List ℕ) (bs : List Binding) → owned g.prefix n (Named (g.prefix ++ word) ∷ bs) ≡ owned g.prefix n bs
  prefixed_unowned n word bs = ap (λ b. owned g.prefix (if not b then n + 1 else n) bs) (begins_prefixed plain word)

  places_unowned : (n : ℕ) → owned g.prefix n (places g.prefix) ≡ n
  places_unowned n = prefixed_unowned n (codes "lookbehind") (Named (g.prefix ++ codes "lookahead") ∷ []) ∙ prefixed_unowned n (codes "lookahead") []

  triples_unowned : (n : ℕ) (ps : List (List ℕ)) → owned g.prefix n (triples ps) ≡ n
  triples_unowned n [] = refl
  triples_unowned n (p ∷ ps) = triples_unowned n ps

  numbered_unowned : {A : Type 0} (n k : ℕ) (xs : List A) → owned g.prefix n (numbered g.prefix k xs) ≡ n
  numbered_unowned n k [] = refl
  numbered_unowned n k (x ∷ xs) = prefixed_unowned n (decimal k) (numbered g.prefix (k + 1) xs) ∙ numbered_unowned n (k + 1) xs

  own_unowned : (n : ℕ) (kind : ActionFnDefnKind) → owned g.prefix n (own_bindings g.prefix kind) ≡ n
  own_unowned n (User [] types code) = places_unowned n
  own_unowned n (User (p ∷ ps) types code) = triples_unowned n ps
  own_unowned n (Lookaround place) = places_unowned n
  own_unowned n (Inline action symbols) = either (λ bs. owned g.prefix n bs ≡ n) (takes_any symbols) _ _ (numbered_unowned n 0 (flat_map symbols_of symbols)) (places_unowned n)

  module _ (name : FunctionName) (kind : ActionFnDefnKind) (answer : List ℕ) (names : ArePlain g.prefix g.parameters) (counted : IsCounted g plain kind) where
    abbrev pub header : Form
    header = grammar_header g name [] (action_parameters g kind) answer

    -- the names that it binds
    pub header_binds : parameters g.prefix header ≡ bound_by g.prefix no_names (bindings_of g kind)
    header_binds =
        header_names g.prefix name (generics_of g ++ []) (declared_texts g ++ action_parameters g kind) answer (clauses_of g)
        ∙ names_by g.prefix no_names (declared_texts g ++ action_parameters g kind)
        ∙ ap (bound_by g.prefix no_names) (all_bound g plain kind names counted)

    -- as many as the grammar has
    pub header_counts : parameter_count g.prefix header ≡ length g.parameters
    header_counts =
        header_over (counted_row g.prefix) (λ s t. refl) (λ s below. refl) name (generics_of g ++ []) (declared_texts g ++ action_parameters g kind) answer (clauses_of g) 0
        ∙ result_uncounted g.prefix _ answer
        ∙ counted_by g.prefix 0 (declared_texts g ++ action_parameters g kind)
        ∙ ap (owned g.prefix 0) (all_bound g plain kind names counted)
        ∙ owned-append g.prefix 0 (map Named (names_of g)) (own_bindings g.prefix kind)
        ∙ own_unowned _ kind
        ∙ declared_owned 0 g.parameters names
        ∙ (omega arith)
