-- The rows of the built module that declare functions which reduce.
use Rattle.std.proofs.Common.{◌≡◌, ℕ, zero, suc, ◌+◌, ◌<◌, ◌^◌, Bool, true, false, List, [], ◌∷◌, ◌++◌, length, Some, refl, sym, ap, subst, ◌∙◌, arith, codes, decimal, append_assoc}
use Rattle.std.specs.Prelude.{slice_get}
use Rattle.std.proofs.lemmas.Fmt.{decimal_injective, decimal_nonempty}
use Rattle.lp_repr.specs.Numbering.{productions_of}
use Rattle.lp_repr.specs.declared.lr1.Lr1State.{Lr1State}
use Rattle.lp_repr.specs.declared.repr.Grammar.{Grammar}
use Rattle.lp_repr.specs.declared.repr.Production.{Production}
use Rattle.lp_form.specs.declared.part.Part.TheVariants as part
use Rattle.lp_tree.specs.ProgramTree.{leaf}
use Rattle.lp_build.specs.Built.{over}
use Rattle.lp_build.specs.Functions.{parser_part}
use Rattle.lp_table.specs.Headers.{header_lines}
use Rattle.lp_table.specs.Starts.{Start}
use Rattle.lp_table.specs.Pieces.{variant_text, variant_types_shown}
use Rattle.lp_table.specs.FrameLines.{parser_parts, table_parser}
use Rattle.lp_table.specs.MachineLines.{acceptance, definition, drive_call, expected_list, implementation, simulation, symbol_values}
use Rattle.lp_table.specs.ReductionLines.{pop_function, is_called, own_function, own_header, reduce_function}
use Rattle.lp_table.specs.TableLines.{action_lookup, action_table, end_table, expected_lines, goto_function, terminal_lines, terminal_names}
use Rattle.lp_table.specs.TokenLines.{token_numbers, token_symbols}
use Rattle.lp_view.specs.PartLists.{Form, parts_of}
use Rattle.lp_maker.specs.Making.{number_in}
use Rattle.lp_run.specs.Promised.{Promising, promising_of, promised, module_row, number_under}
use Rattle.lp_question_laws.proofs.Gotos.GotoAnswered.{built_items}
use Rattle.lp_question_laws.proofs.Gotos.LinkGrows.{is_of_tables}
use Rattle.lp_question_laws.proofs.Gotos.LinkMaps.{numbered_other, told_apart}
use Rattle.lp_question_laws.proofs.Gotos.LinkPromises.{AreNoAscent, terminals_quiet}
use Rattle.lp_question_laws.proofs.Gotos.LinkModule.{Declares, IsNoAction}
use Rattle.lp_question_laws.proofs.Gotos.LinkTable.{pops, one_own, owns, Skips, AllSkip, skipped, by_both, plain-append, lookup_is, parser_is, before_plain, after_plain, rows_before, rows_after, reductions_after, item_rows}
use Rattle.lp_question_laws.proofs.Reductions.Forms.{own_parts}

-- ---- lists

skip_append : (q : List ℕ) (a b : List Form) → AllSkip q a → AllSkip q b → AllSkip q (a ++ b)
skip_append q [] b h g = g
skip_append q (f ∷ a) b h g = (h.0, skip_append q a b h.1 g)

plain_first : (a b : List Form) → AreNoAscent (a ++ b) → AreNoAscent a
plain_first [] b h = tt
plain_first (f ∷ a) b h = (h.0, plain_first a b h.1)

plain_last : (a b : List Form) → AreNoAscent (a ++ b) → AreNoAscent b
plain_last [] b h = h
plain_last (f ∷ a) b h = plain_last a b h.1

-- ---- names that differ

same_behind : (a b : List ℕ) → codes "reduce" ++ a ≡ codes "reduce" ++ b → a ≡ b
same_behind a b e = cc

pub same_variant : (i j : ℕ) → codes "pop_" ++ variant_text i ≡ codes "pop_" ++ variant_text j → decimal i ≡ decimal j
same_variant i j e = cc

reduce_apart : (i j : ℕ) → i < 2 ^ 64 → j < 2 ^ 64 → (i ≡ j → ⊥) → codes "reduce" ++ decimal i ≡ codes "reduce" ++ decimal j → ⊥
reduce_apart i j a b other e = other (decimal_injective i j a b (same_behind (decimal i) (decimal j) e))

pop_apart : (i j : ℕ) → i < 2 ^ 64 → j < 2 ^ 64 → (i ≡ j → ⊥) → codes "pop_" ++ variant_text i ≡ codes "pop_" ++ variant_text j → ⊥
pop_apart i j a b other e = other (decimal_injective i j a b (same_variant i j e))

numbered_apart : (i : ℕ) → i < 2 ^ 64 → codes "reduce" ++ decimal i ≡ codes "reduce" → ⊥
numbered_apart i small e =
    let none : decimal i ≡ [] = same_behind (decimal i) [] e in
    let some = decimal_nonempty i small in
    absurd (omega (arith, ap length none, some))

-- no row in front of the reductions declares such a name
pub record IsFresh (q : List ℕ) : Type 0 where
  pub action : q ≡ codes "action" → ⊥
  pub goto : q ≡ codes "goto" → ⊥
  pub expected : q ≡ codes "expected_tokens" → ⊥
  pub from_states : q ≡ codes "expected_tokens_from_states" → ⊥
  pub integer : q ≡ codes "token_to_integer" → ⊥
  pub symbol : q ≡ codes "token_to_symbol" → ⊥
  pub simulate : q ≡ codes "simulate_reduce" → ⊥
  pub accepts : q ≡ codes "accepts" → ⊥

reduce_fresh : (rest : List ℕ) → IsFresh (codes "reduce" ++ rest)
reduce_fresh rest = record {
  action = told_apart (codes "reduce" ++ rest) (codes "action") refl;
  goto = told_apart (codes "reduce" ++ rest) (codes "goto") refl;
  expected = told_apart (codes "reduce" ++ rest) (codes "expected_tokens") refl;
  from_states = told_apart (codes "reduce" ++ rest) (codes "expected_tokens_from_states") refl;
  integer = told_apart (codes "reduce" ++ rest) (codes "token_to_integer") refl;
  symbol = told_apart (codes "reduce" ++ rest) (codes "token_to_symbol") refl;
  simulate = told_apart (codes "reduce" ++ rest) (codes "simulate_reduce") refl;
  accepts = told_apart (codes "reduce" ++ rest) (codes "accepts") refl;
}

pop_fresh : (rest : List ℕ) → IsFresh (codes "pop_" ++ rest)
pop_fresh rest = record {
  action = told_apart (codes "pop_" ++ rest) (codes "action") refl;
  goto = told_apart (codes "pop_" ++ rest) (codes "goto") refl;
  expected = told_apart (codes "pop_" ++ rest) (codes "expected_tokens") refl;
  from_states = told_apart (codes "pop_" ++ rest) (codes "expected_tokens_from_states") refl;
  integer = told_apart (codes "pop_" ++ rest) (codes "token_to_integer") refl;
  symbol = told_apart (codes "pop_" ++ rest) (codes "token_to_symbol") refl;
  simulate = told_apart (codes "pop_" ++ rest) (codes "simulate_reduce") refl;
  accepts = told_apart (codes "pop_" ++ rest) (codes "accepts") refl;
}

module _ (g : Grammar) (states : List Lr1State) (s : Start) where
  -- what stands in front of the reductions
  abbrev pub front : List Form
  front =
      rows_before g states s
      ++ goto_function g states ∷ terminal_names g ∷ expected_lines g states ∷ expected_list g states ∷ definition g ∷ implementation g states s ∷ token_numbers g ∷ token_symbols g ∷ simulation g states s ∷ table_parser g s (drive_call g) ∷ acceptance g states ∷ []

  front_skips : (q : List ℕ) → IsFresh q → AllSkip q front
  unfolding symbol_values action_table action_lookup end_table goto_function terminal_lines expected_list definition implementation token_numbers token_symbols simulation table_parser parser_parts acceptance
  front_skips q h = (
    λ t. refl,
    (
      λ t. refl,
      (
        lookup_is g states s (Skips q) (λ a b. λ t. numbered_other q (codes "action") (length t.made.functions) t.made.names h.action) (λ a b. λ t. numbered_other q (codes "action") (length t.made.functions) t.made.names h.action),
        (
          λ t. refl,
          (
            λ t. numbered_other q (codes "goto") (length t.made.functions) t.made.names h.goto,
            (
              λ t. ap (number_in q) (terminals_quiet t.made (parts_of (terminal_names g))).1,
              (
                λ t. numbered_other q (codes "expected_tokens") (length t.made.functions) t.made.names h.expected,
                (
                  λ t. numbered_other q (codes "expected_tokens_from_states") (length t.made.functions) t.made.names h.from_states,
                  (
                    λ t. refl,
                    (
                      λ t. refl,
                      (
                        λ t. numbered_other q (codes "token_to_integer") (length t.made.functions) t.made.names h.integer,
                        (
                          λ t. numbered_other q (codes "token_to_symbol") (length t.made.functions) t.made.names h.symbol,
                          (
                            λ t. numbered_other q (codes "simulate_reduce") (length t.made.functions) t.made.names h.simulate,
                            (
                              parser_is g states s (Skips q) (λ b x y. by_both (λ b. Skips q (over (parser_part false b) x y)) (λ t. refl) (λ t. refl) b),
                              (λ t. numbered_other q (codes "accepts") (length t.made.functions) t.made.names h.accepts, tt),
                            ),
                          ),
                        ),
                      ),
                    ),
                  ),
                ),
              ),
            ),
          ),
        ),
      ),
    ),
  )

  abbrev rows : List Form
  rows = front ++ reduce_function g states s ∷ leaf part.Mismatch [] ∷ reductions_after g states s

  rows_are : parts_of (built_items g states s) ≡ rows
  rows_are = item_rows g states s

  rows_plain : AreNoAscent rows
  unfolding goto_function
  rows_plain = plain-append (rows_before g states s) (goto_function g states ∷ rows_after g states s) (before_plain g states s) (refl, after_plain g states s)

  -- a row among them declares a name that no row before it declares
  declared_at : (before : List Form) (form : Form) (after : List Form) (name rest : List ℕ) → rows ≡ before ++ form ∷ after → is_of_tables form ≡ true → ((t : Promising) → module_row t form ≡ promised name rest t form) → AllSkip (name ++ rest) before → IsNoAction (name ++ rest)
      → Declares (built_items g states s) name rest form
  declared_at before form after name rest split is declares skips no_action =
      let plain = subst AreNoAscent split rows_plain in
      record {
        before = before;
        after = after;
        rows = rows_are ∙ split;
        plain_before = plain_first before (form ∷ after) plain;
        plain_after = (plain_last before (form ∷ after) plain).1;
        is_plain = is;
        declares = declares;
        new = λ m h. skipped (name ++ rest) before (promising_of [] m) skips ∙ h;
        no_action = no_action;
      }

  -- the function that reduces by any production
  pub reduce_declared : Declares (built_items g states s) (codes "reduce") [] (reduce_function g states s)
  unfolding reduce_function
  reduce_declared =
      declared_at front (reduce_function g states s) (leaf part.Mismatch [] ∷ reductions_after g states s) (codes "reduce") [] refl refl (λ t. refl) (front_skips (codes "reduce") (reduce_fresh [])) (λ rest. told_apart (codes "reduce") (codes "super::action" ++ rest) refl)

  -- ---- rows that take symbols off

  pop_row : (q : List ℕ) (n : ℕ) (ty : List ℕ) → (q ≡ codes "pop_" ++ variant_text n → ⊥) → Skips q (pop_function g n ty)
  pop_row q n ty other t = numbered_other q (codes "pop_" ++ variant_text n) (length t.made.functions) t.made.names other

  -- the row of a variant stands among them
  record PopPlace (k : ℕ) (ty : List ℕ) (forms : List Form) : Type 0 where
    before : List Form
    after : List Form
    whole : forms ≡ before ++ pop_function g k ty ∷ after
    skips : k < 2 ^ 64 → AllSkip (codes "pop_" ++ variant_text k) before

  pop_placed : (n i k : ℕ) (types : List (List ℕ)) (ty : List ℕ) → k ≡ n + i → slice_get types i ≡ Some ty → PopPlace k ty (pops g n types)
  unfolding pops
  pop_placed n i k [] ty at is = absurd cc
  pop_placed n zero k (u ∷ types) ty at is =
      let same : u ≡ ty = cc in
      let none : n ≡ k = omega (arith, at) in
      record { before = []; after = pops g (n + 1) types; whole = ap (λ v. pop_function g n v ∷ pops g (n + 1) types) same ∙ ap (λ m. pop_function g m ty ∷ pops g (n + 1) types) none; skips = λ small. tt }
  pop_placed n (suc i) k (u ∷ types) ty at is =
      let r = pop_placed (n + 1) i k types ty (omega (arith, at)) is in
      record {
        before = pop_function g n u ∷ r.before;
        after = r.after;
        whole = ap (λ t. pop_function g n u ∷ t) r.whole;
        skips = λ small. (pop_row (codes "pop_" ++ variant_text k) n u (λ e. pop_apart k n small (omega arith) (λ f. omega (arith, f, at)) e), r.skips small);
      }

  reduce_skips : (q : List ℕ) → (q ≡ codes "reduce" → ⊥) → (q ≡ codes "symbol_type_mismatch" → ⊥) → AllSkip q (reduce_function g states s ∷ leaf part.Mismatch [] ∷ [])
  unfolding reduce_function
  reduce_skips q a b = (λ t. numbered_other q (codes "reduce") (length t.made.functions) t.made.names a, (λ t. numbered_other q (codes "symbol_type_mismatch") (length t.made.functions) t.made.names b, tt))

  pub pop_declared : (k : ℕ) (ty : List ℕ) → slice_get (variant_types_shown g) k ≡ Some ty → k < 2 ^ 64 → Declares (built_items g states s) (codes "pop_") (variant_text k) (pop_function g k ty)
  pop_declared k ty is small =
      let q = codes "pop_" ++ variant_text k in
      let r = pop_placed 0 k k (variant_types_shown g) ty (omega arith) is in
      let middle = reduce_function g states s ∷ leaf part.Mismatch [] ∷ [] in
      let before = front ++ (middle ++ r.before) in
      let after = r.after ++ owns g s 0 (productions_of g) in
      let split : rows ≡ before ++ pop_function g k ty ∷ after =
      ap (λ ps. front ++ (middle ++ (ps ++ owns g s 0 (productions_of g)))) r.whole
      ∙ ap (λ ps. front ++ (middle ++ ps)) (append_assoc r.before (pop_function g k ty ∷ r.after) (owns g s 0 (productions_of g)))
      ∙ ap (λ ps. front ++ ps) (sym (append_assoc middle r.before (pop_function g k ty ∷ after)))
      ∙ sym (append_assoc front (middle ++ r.before) (pop_function g k ty ∷ after)) in
      let skips = skip_append q front (middle ++ r.before) (front_skips q (pop_fresh (variant_text k))) (skip_append q middle r.before (reduce_skips q (told_apart q (codes "reduce") refl) (told_apart q (codes "symbol_type_mismatch") refl)) (r.skips small)) in
      declared_at before (pop_function g k ty) after (codes "pop_") (variant_text k) split refl (λ t. refl) skips (λ rest. told_apart q (codes "super::action" ++ rest) refl)

  -- ---- rows of single productions

  own_number : (n : ℕ) (p : Production) → number_under (slice_get (parts_of (own_function g s n p)) 0) ≡ decimal n
  unfolding own_header header_lines
  own_number n p = ap (λ fs. number_under (slice_get fs 0)) (own_parts g s n p)

  own_declares : (n : ℕ) (p : Production) (t : Promising) → module_row t (own_function g s n p) ≡ promised (codes "reduce") (decimal n) t (own_function g s n p)
  own_declares n p t = ap (λ ds. promised (codes "reduce") ds t (own_function g s n p)) (own_number n p)

  own_row : (q : List ℕ) (n : ℕ) (p : Production) → (q ≡ codes "reduce" ++ decimal n → ⊥) → Skips q (own_function g s n p)
  own_row q n p other t = ap (λ u. number_in q u.made.names) (own_declares n p t) ∙ numbered_other q (codes "reduce" ++ decimal n) (length t.made.functions) t.made.names other

  own_rows : (q : List ℕ) (b : Bool) (n : ℕ) (p : Production) → (q ≡ codes "reduce" ++ decimal n → ⊥) → AllSkip q (one_own g s b n p)
  unfolding one_own
  own_rows q true n p other = (own_row q n p other, tt)
  own_rows q false n p other = tt

  record OwnPlace (i : ℕ) (p : Production) (forms : List Form) : Type 0 where
    before : List Form
    after : List Form
    whole : forms ≡ before ++ own_function g s i p ∷ after
    skips : i < 2 ^ 64 → AllSkip (codes "reduce" ++ decimal i) before

  own_placed : (n i k : ℕ) (ps : List Production) (p : Production) → k ≡ n + i → slice_get ps i ≡ Some p → is_called g s p ≡ true → OwnPlace k p (owns g s n ps)
  unfolding owns one_own
  own_placed n i k [] p at is called = absurd cc
  own_placed n zero k (u ∷ ps) p at is called =
      let same : u ≡ p = cc in
      let none : n ≡ k = omega (arith, at) in
      let here : one_own g s (is_called g s u) n u ≡ own_function g s k p ∷ [] = ap (λ v. one_own g s (is_called g s v) n v) same ∙ ap (λ b. one_own g s b n p) called ∙ ap (λ m. own_function g s m p ∷ []) none in
      record { before = []; after = owns g s (n + 1) ps; whole = ap (λ fs. fs ++ owns g s (n + 1) ps) here; skips = λ small. tt }
  own_placed n (suc i) k (u ∷ ps) p at is called =
      let r = own_placed (n + 1) i k ps p (omega (arith, at)) is called in
      let one = one_own g s (is_called g s u) n u in
      record {
        before = one ++ r.before;
        after = r.after;
        whole = ap (λ t. one ++ t) r.whole ∙ sym (append_assoc one r.before (own_function g s k p ∷ r.after));
        skips = λ small. skip_append (codes "reduce" ++ decimal k) one r.before (own_rows (codes "reduce" ++ decimal k) (is_called g s u) n u (λ e. reduce_apart k n small (omega arith) (λ f. omega (arith, f, at)) e)) (r.skips small);
      }

  all_pops_skip : (q : List ℕ) (n : ℕ) (types : List (List ℕ)) → ((m : ℕ) → q ≡ codes "pop_" ++ variant_text m → ⊥) → AllSkip q (pops g n types)
  unfolding pops
  all_pops_skip q n [] other = tt
  all_pops_skip q n (u ∷ types) other = (pop_row q n u (other n), all_pops_skip q (n + 1) types other)

  pub own_declared : (i : ℕ) (p : Production) → slice_get (productions_of g) i ≡ Some p → is_called g s p ≡ true → i < 2 ^ 64 → Declares (built_items g states s) (codes "reduce") (decimal i) (own_function g s i p)
  own_declared i p is called small =
      let q = codes "reduce" ++ decimal i in
      let r = own_placed 0 i i (productions_of g) p (omega arith) is called in
      let middle = reduce_function g states s ∷ leaf part.Mismatch [] ∷ [] in
      let ps = pops g 0 (variant_types_shown g) in
      let before = front ++ (middle ++ (ps ++ r.before)) in
      let own = own_function g s i p in
      let split : rows ≡ before ++ own ∷ r.after =
      ap (λ os. front ++ (middle ++ (ps ++ os))) r.whole
      ∙ ap (λ os. front ++ (middle ++ os)) (sym (append_assoc ps r.before (own ∷ r.after)))
      ∙ ap (λ os. front ++ os) (sym (append_assoc middle (ps ++ r.before) (own ∷ r.after)))
      ∙ sym (append_assoc front (middle ++ (ps ++ r.before)) (own ∷ r.after)) in
      let skips = skip_append q front (middle ++ (ps ++ r.before)) (front_skips q (reduce_fresh (decimal i)))
      (skip_append q middle (ps ++ r.before) (reduce_skips q (numbered_apart i small) (told_apart q (codes "symbol_type_mismatch") refl))
      (skip_append q ps r.before (all_pops_skip q 0 (variant_types_shown g) (λ m. told_apart q (codes "pop_" ++ variant_text m) refl)) (r.skips small))) in
      declared_at before own r.after (codes "reduce") (decimal i) split refl (own_declares i p) skips (λ rest. told_apart q (codes "super::action" ++ rest) refl)
