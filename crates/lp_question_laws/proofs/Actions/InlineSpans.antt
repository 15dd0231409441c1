-- The lines that let the spans of inlined actions.
use Rattle.std.proofs.Common.{◌≡◌, ℕ, ◌+◌, ◌<◌, ◌≤◌, ◌^◌, false, List, [], ◌∷◌, ◌++◌, length, map, refl, sym, subst, ◌∙◌, arith}
use Rattle.std.specs.Prelude.{slice_set, codes, decimal}
use Rattle.std.specs.Str.{bytes_eq}
use Rattle.lp_repr.specs.declared.repr.InlinedSymbol.{InlinedSymbol}
use Rattle.lp_repr.specs.declared.repr.InlinedSymbol.TheVariants.{Original, Inlined}
use Rattle.lp_repr.specs.declared.values.Loc.{Loc}
use Rattle.lp_driver.specs.Values.{Spanned, Value}
use Rattle.lp_core.specs.Effect.{unit}
use Rattle.lp_core.specs.Reading.{location}
use Rattle.lp_core.specs.Store.{Program, Store, UserCall}
use Rattle.lp_core.specs.Tree.{trees_of}
use Rattle.lp_core.specs.Val.{Val}
use Rattle.lp_machine.specs.ActionMeaning.{inlined_span}
use Rattle.lp_actions.specs.Inlines.{span_start, span_end}
use Rattle.lp_actions.specs.Parameters.{width}
use Rattle.lp_maker.specs.Constructs as constructs
use Rattle.lp_maker.specs.Making.{Making}
use Rattle.lp_bodies.specs.Inlining.{place_value}
use Rattle.lp_maker.specs.Slots.{Names, bound}
use Rattle.lp_code_laws.specs.Ends.Ends.{Eval, Sequence, Giving, EndsIn}
use Rattle.lp_code_laws.proofs.Ends.Lists.{length_set}
use Rattle.lp_code_laws.proofs.Ends.Rules.{block_end, block_next}
use Rattle.lp_code_laws.proofs.Ends.Values.{write}
use Rattle.lp_code_laws.specs.Slots.Shows.{Shows}
use Rattle.lp_code_laws.proofs.Slots.Names.{let_other, let_this}
use Rattle.lp_code_laws.proofs.Slots.Slots.{get_within}
use Rattle.lp_question_laws.specs.Actions.InlineForms.{span_forms}
use Rattle.lp_question_laws.specs.Actions.Inlined.{own_words, own_values, Seen, SpansShown, start_name, end_name, within}
use Rattle.lp_question_laws.specs.Actions.Keys.{ShowsEach, AreOthers, mark}
use Rattle.lp_question_laws.proofs.Actions.InlinePlaces.{start_given, end_given}
use Rattle.lp_question_laws.proofs.Actions.InlineRows.{rows_names, rows_code, rows_grow}
use Rattle.lp_question_laws.proofs.Actions.Others.{numbered_other, own_others, each_kept}
use Rattle.lp_question_laws.proofs.Actions.Texts.{IsPlainPrefix}

-- a name that isn't one of a span from a number on
abbrev pub IsNoSpan : ℕ → List ℕ → Type 0
IsNoSpan n key = (k : ℕ) → n ≤ k → k < 2 ^ 64 → (bytes_eq (start_name k) key ≡ false) × (bytes_eq (end_name k) key ≡ false)

-- how many arguments symbols take together
abbrev pub widths : List InlinedSymbol → ℕ
widths [] = 0
widths (s ∷ ss) = width s + widths ss

-- a let keeps what others show
lets_each : (names : Names) (env : List Val) (name : List ℕ) (w : Val) (ks : List (List ℕ)) (vs : List Val) → AreOthers name ks → ShowsEach names env ks vs → ShowsEach (bound name names) (slice_set env names.next w) ks vs
lets_each names env name w ks vs others h = each_kept names (bound name names) env (slice_set env names.next w) ks vs (λ k. bytes_eq name k ≡ false) (λ k v other shows. let_other name w other shows) others h

module _ (p : Program) {prefix : List ℕ} (is : IsPlainPrefix prefix) (m : Making) (same : m.prefix ≡ prefix) (s : Store) (calls : List UserCall) (xs : List (Spanned Value)) (place : Loc × Loc) (few : length xs < 2 ^ 64) where
  -- the spans of some symbols are let
  pub record SpansRun (names : Names) (env : List Val) (n before : ℕ) (ss : List InlinedSymbol) (v : Val) : Type 0 where
    pub value : Val
    pub after : List Val
    pub many : length after ≡ length env
    pub ends : EndsIn p (Sequence (trees_of (rows_code m names (span_forms prefix (length xs) n before ss))) v) (within s env calls) 0 (Giving value (within s after calls))
    pub kept : (key : List ℕ) (w : Val) → IsNoSpan n key → Shows names env key w → Shows (rows_names m names (span_forms prefix (length xs) n before ss)) after key w
    pub spans : SpansShown (rows_names m names (span_forms prefix (length xs) n before ss)) after xs place n before ss

  abbrev names1 : Names → ℕ → Names
  names1 names n = bound (start_name n) names

  abbrev names2 : Names → ℕ → Names
  names2 names n = bound (end_name n) (names1 names n)

  module _ (names : Names) (env : List Val) (n before count : ℕ) where
    abbrev at : Loc × Loc
    at = inlined_span xs before count place

    abbrev env1 : List Val
    env1 = slice_set env names.next (location at.0)

    abbrev env2 : List Val
    env2 = slice_set env1 (names.next + 1) (location at.1)

    long1 : length env1 ≡ length env
    long1 = length_set env names.next (location at.0)

    long2 : length env2 ≡ length env
    long2 = length_set env1 (names.next + 1) (location at.1) ∙ long1

    kept2 : n < 2 ^ 64 → (key : List ℕ) (w : Val) → IsNoSpan n key → Shows names env key w → Shows (names2 names n) env2 key w
    kept2 small key w other h = let o = other n (omega arith) small in let_other (end_name n) (location at.1) o.1 (let_other (start_name n) (location at.0) o.0 h)

    module _ (room : names.next + 2 ≤ length env) (small : n < 2 ^ 64) where
      start2 : Shows (names2 names n) env2 (start_name n) (location at.0)
      start2 = let_other (end_name n) (location at.1) refl (let_this (start_name n) names env (location at.0) (record { room = omega (arith, room) }))

      end2 : Shows (names2 names n) env2 (end_name n) (location at.1)
      end2 = let_this (end_name n) (names1 names n) env1 (location at.1) (record { room = omega (arith, room, long1) })

    module _ (room : names.next + 2 ≤ length env) (seen : Seen names env xs place) (le : before + count ≤ length xs) (small : n < 2 ^ 64) where
      seen1 : Seen (names1 names n) env1 xs place
      seen1 = lets_each names env (start_name n) (location at.0) (map mark (own_words xs)) (own_values xs place) (own_others 115 (codes "tart" ++ decimal n) xs (omega arith) few refl refl) seen

      seen2 : Seen (names2 names n) env2 xs place
      seen2 = lets_each (names1 names n) env1 (end_name n) (location at.1) (map mark (own_words xs)) (own_values xs place) (own_others 101 (codes "nd" ++ decimal n) xs (omega arith) few refl refl) seen1

      starts : EndsIn p (Eval (constructs.write names.next (place_value m.prefix names (span_start prefix before count (length xs))))) (within s env calls) 0 (Giving unit (within s env1 calls))
      starts =
          let value = subst (λ q. EndsIn p (Eval (place_value q names (span_start prefix before count (length xs)))) (within s env calls) 0 (Giving (location at.0) (within s env calls))) (sym same) (start_given p is names s env calls xs place seen few before count le) in
          write value (get_within env names.next (omega (arith, room))).1

      finishes : EndsIn p (Eval (constructs.write (names.next + 1) (place_value m.prefix (names1 names n) (span_end prefix before count (length xs))))) (within s env1 calls) 0 (Giving unit (within s env2 calls))
      finishes =
          let value = subst (λ q. EndsIn p (Eval (place_value q (names1 names n) (span_end prefix before count (length xs)))) (within s env1 calls) 0 (Giving (location at.1) (within s env1 calls))) (sym same) (end_given p is (names1 names n) s env1 calls xs place seen1 few before count le) in
          write value (get_within env1 (names.next + 1) (omega (arith, room, long1))).1

  -- all of them
  pub spans_run : (ss : List InlinedSymbol) (names : Names) (env : List Val) (n before : ℕ) (v : Val) → (rows_names m names (span_forms prefix (length xs) n before ss)).next ≤ length env → Seen names env xs place → before + widths ss ≤ length xs → n + length ss < 2 ^ 64
      → SpansRun names env n before ss v
  spans_run [] names env n before v room seen le small = record { value = v; after = env; many = refl; ends = block_end; kept = λ key w other h. h; spans = tt }
  spans_run (Original x ∷ ss) names env n before v room seen le small =
      let r = spans_run ss names env (n + 0) (before + 1) v room seen (omega (arith, le)) (omega (arith, small)) in
      record { value = r.value; after = r.after; many = r.many; ends = r.ends; kept = λ key w other h. r.kept key w (λ k low. other k (omega (arith, low))) h; spans = r.spans }
  spans_run (Inlined action inner ∷ ss) names env n before v room seen le small =
      let count = length inner in
      let grow = rows_grow m (names2 names n) (span_forms prefix (length xs) (n + 1) (before + count) ss) in
      let enough : names.next + 2 ≤ length env = omega (arith, grow, room) in
      let here : before + count ≤ length xs = omega (arith, le) in
      let few_n : n < 2 ^ 64 = omega (arith, small) in
      let after = env2 names env n before count in
      let long : length after ≡ length env = long2 names env n before count in
      let r = spans_run ss (names2 names n) after (n + 1) (before + count) unit (omega (arith, room, long)) (seen2 names env n before count enough seen here few_n) (omega (arith, le)) (omega (arith, small)) in
      let o = Giving r.value (within s r.after calls) in
      let out : IsNoSpan (n + 1) (start_name n) = λ k low less. (numbered_other (codes "~start") k n less few_n (λ e. omega (arith, low, e)), refl) in
      let out_end : IsNoSpan (n + 1) (end_name n) = λ k low less. (refl, numbered_other (codes "~end") k n less few_n (λ e. omega (arith, low, e))) in
      record {
        value = r.value;
        after = r.after;
        many = r.many ∙ long;
        ends = block_next {o = o} (starts names env n before count enough seen here few_n) (block_next {o = o} (finishes names env n before count enough seen here few_n) r.ends);
        kept = λ key w other h. r.kept key w (λ k low. other k (omega (arith, low))) (kept2 names env n before count few_n key w other h);
        spans = (r.kept (start_name n) (location (inlined_span xs before count place).0) out (start2 names env n before count enough few_n), r.kept (end_name n) (location (inlined_span xs before count place).1) out_end (end2 names env n before count enough few_n), r.spans);
      }
