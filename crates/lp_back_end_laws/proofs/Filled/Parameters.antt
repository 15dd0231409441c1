-- A machine's fields are the parameters of its grammar: of some with one name, the last.
use Rattle.std.proofs.Common.{◌≡◌, ℕ, ◌+◌, List, [], ◌∷◌, ◌++◌, length, map, Option, Some, refl, ap, sym, ◌∙◌, arith, codes, append_assoc, append-nil, length-append, if◌then◌else◌}
use Rattle.std.specs.Prelude.{slice_get}
use Rattle.std.specs.Str.{bytes_eq}
use Rattle.lp_repr.specs.declared.lr1.Lr1State.{Lr1State}
use Rattle.lp_repr.specs.declared.repr.Grammar.{Grammar}
use Rattle.lp_repr.specs.declared.repr.Parameter.{Parameter}
use Rattle.lp_driver.specs.Values.{Text}
use Rattle.lp_machine.specs.GrammarTables.{is_named}
use Rattle.lp_table.specs.FrameLines.{is_interned, parse_parameters, tokens_parameter}
use Rattle.lp_table.specs.Headers.{declared_text}
use Rattle.lp_table.specs.Starts.{Start}
use Rattle.lp_view.specs.PartLists.{Form}
use Rattle.lp_maker.specs.declared.methods.Methods.{Methods}
use Rattle.lp_maker.specs.Slots.{Names, no_names, after_slots, bound, slot_of}
use Rattle.lp_maker.specs.Texts.{bound_of}
use Rattle.lp_run.specs.ParseMethod.{parameters_of, with_binding, with_parameter}
use Rattle.lp_turns.specs.Asking.{Asking}
use Rattle.lp_turns.specs.Readings.{param_val}
use Rattle.lp_code_laws.proofs.Slots.Names.{slot_named}
use Rattle.lp_code_laws.proofs.Slots.Slots.{get_behind}
use Rattle.lp_question_laws.proofs.Gotos.GotoAnswered.{built_items}
use Rattle.lp_question_laws.proofs.Gotos.LinkGrows.{either}
use Rattle.lp_question_laws.proofs.Tables.Built.{RunsBuilt}
use Rattle.lp_question_laws.proofs.Reductions.Field.{fields_are, fields_slots, params}
use Rattle.lp_question_laws.proofs.Reductions.Fields.{bind_texts, no_tokens, parameters_are}
use Rattle.lp_question_laws.proofs.Reductions.Parameters.{bound_each}
use Rattle.lp_question_laws.proofs.Reductions.Texts.{AllKeys, key_bound, key_plain, names_of}
use Rattle.lp_question_laws.proofs.Actions.Held.{held_by, last_number, param_or}
use Rattle.lp_question_laws.proofs.Actions.Parameters.{plain_word}
use Rattle.lp_question_laws.proofs.Actions.Texts.{IsPlainPrefix, prefixed_named, word_plain}

-- ---- what the header of `parse` binds

declared_bound : (prefix : List ℕ) (ps : List Parameter) (names : Names) (later : List (List ℕ)) → AllKeys prefix (names_of ps) → bind_texts prefix names (map declared_text ps ++ later) ≡ bind_texts prefix (bound_each names (names_of ps)) later
declared_bound prefix [] names later a = refl
declared_bound prefix (p ∷ ps) names later a =
    ap (λ b. bind_texts prefix (with_binding prefix names b) (map declared_text ps ++ later)) (key_bound prefix p.name _ a.0)
    ∙ ap (λ k. bind_texts prefix (with_parameter k names) (map declared_text ps ++ later)) (key_plain prefix p.name a.0)
    ∙ ap (λ b. bind_texts prefix (if b then names else bound p.name names) (map declared_text ps ++ later)) (no_tokens prefix p.name a.0)
    ∙ declared_bound prefix ps (bound p.name names) later a.1

-- the tokens aren't among the parameters
tokens_unbound : (g : Grammar) (names : Names) → IsPlainPrefix g.prefix → with_binding g.prefix names (bound_of (tokens_parameter g)) ≡ names
tokens_unbound g names plain =
    let word = plain_word (codes "tokens0") refl refl refl refl (omega arith) in
    ap (with_binding g.prefix names) (prefixed_named plain (codes "tokens0") (32 ∷ (g.prefix ++ codes "TOKENS")) word) ∙ ap (λ k. with_parameter k names) (word_plain plain (codes "tokens0") word)

parse_bound : (g : Grammar) → IsPlainPrefix g.prefix → AllKeys g.prefix (names_of g.parameters) → bind_texts g.prefix no_names (parse_parameters g) ≡ bound_each no_names (names_of g.parameters)
parse_bound g plain keys =
    let own = bound_each no_names (names_of g.parameters) in
    either (λ (ts : List (List ℕ)). bind_texts g.prefix no_names ts ≡ own) (is_interned g) _ _
    (ap (bind_texts g.prefix no_names) (sym (append-nil (map declared_text g.parameters))) ∙ declared_bound g.prefix g.parameters no_names [] keys)
    (declared_bound g.prefix g.parameters no_names (tokens_parameter g ∷ []) keys ∙ tokens_unbound g own plain)

-- ---- the slot of a name is the number of the last parameter with it

slot_last : (key : Text) (front ps : List Parameter) (names : Names) → names.next ≡ length front → slot_of key (bound_each names (names_of ps)) ≡ last_number (front ++ ps) key (length front) ps (slot_of key names)
slot_last key front [] names next = refl
slot_last key front (p ∷ ps) names next =
    let all = front ++ p ∷ ps in
    let found = slot_of key names in
    let more : length (front ++ p ∷ []) ≡ length front + 1 = length-append front (p ∷ []) in
    let one : slot_of key (bound p.name names) ≡ (if is_named (slice_get all (length front)) key then Some (length front) else found) =
    slot_named key p.name names.next (after_slots 1 names)
    ∙ ap (λ n. if bytes_eq p.name key then Some n else found) next
    ∙ ap (λ o. if is_named o key then Some (length front) else found) (sym (get_behind front p ps)) in
    slot_last key (front ++ p ∷ []) ps (bound p.name names) (omega (arith, next, more))
    ∙ ap (λ l. last_number l key (length (front ++ p ∷ [])) ps (slot_of key (bound p.name names))) (append_assoc front (p ∷ []) ps)
    ∙ ap (λ k. last_number all key k ps (slot_of key (bound p.name names))) more
    ∙ ap (last_number all key (length front + 1) ps) one

-- numbers that are the slots of names are what the names hold
vals_by : (slot : Text → Option ℕ) (qs : List Text) (ns : List ℕ) → map Some ns ≡ map slot qs → map param_val ns ≡ map (λ q. param_or (slot q)) qs
vals_by slot [] [] h = refl
vals_by slot [] (n ∷ ns) h = cc
vals_by slot (q ∷ qs) [] h = cc
vals_by slot (q ∷ qs) (n ∷ ns) h =
    let first : Some n ≡ slot q = cc in
    let rest : map Some ns ≡ map slot qs = cc in
    ap (λ o. param_or o ∷ map param_val ns) first ∙ ap (λ vs. param_or (slot q) ∷ vs) (vals_by slot qs ns rest)

module _ {prefix : List ℕ} {program : Form} {g : Grammar} {states : List Lr1State} {st : Start} {asked : Asking} {methods : Methods} (runs : RunsBuilt prefix program g states st asked methods) (same : prefix ≡ g.prefix) (plain : IsPlainPrefix g.prefix) (keys : AllKeys g.prefix (names_of g.parameters)) where
  abbrev known : Names
  known = bound_each no_names (names_of g.parameters)

  names_known : parameters_of prefix (built_items g states st) ≡ known
  names_known = ap (λ q. parameters_of q (built_items g states st)) same ∙ parameters_are g states st g.prefix ∙ parse_bound g plain keys

  slots_held : (qs : List Text) → map (λ q. param_or (slot_of q known)) qs ≡ map (held_by g) qs
  slots_held [] = refl
  slots_held (q ∷ qs) = ap (λ o. param_or o ∷ map (λ k. param_or (slot_of k known)) qs) (slot_last q [] g.parameters no_names refl) ∙ ap (λ vs. held_by g q ∷ vs) (slots_held qs)

  -- the values of the fields are those that the parameters' names hold
  pub fields_held : params runs same keys ≡ map (held_by g) (names_of g.parameters)
  fields_held =
      let qs = names_of g.parameters in
      let fields = fields_are runs same keys in
      let numbers : map Some fields.numbers ≡ map (λ q. slot_of q known) qs = sym fields.are ∙ fields_slots runs same keys ∙ ap (λ names. map (λ q. slot_of q names) qs) names_known in
      vals_by (λ q. slot_of q known) qs fields.numbers numbers ∙ slots_held qs
