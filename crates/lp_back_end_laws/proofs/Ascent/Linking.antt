-- All that is made before the `parse` method: each row that declares a name has its function there.
use Rattle.std.proofs.Common.{◌≡◌, ℕ, ◌<◌, ◌+◌, List, [], ◌∷◌, ◌++◌, length, Option, Some, None, ap, sym, subst, ◌∙◌, arith, append_assoc, length-append}
use Rattle.std.specs.Prelude.{slice_get}
use Rattle.std.proofs.lemmas.Option.{slice_get_within}
use Rattle.lp_core.specs.declared.expr.Function.{Function}
use Rattle.lp_view.specs.PartLists.{Form, parts_of, over}
use Rattle.lp_maker.specs.Making.{Making, unmade, number_in}
use Rattle.lp_run.specs.Named.{parser_of}
use Rattle.lp_run.specs.Entered.{with_source}
use Rattle.lp_run.specs.Functions.{function_made, all_made, actions_made}
use Rattle.lp_run.specs.Promised.{Beginning, Promising, promising_of, beginning, module_row, module_rows}
use Rattle.lp_question_laws.proofs.Gotos.GotoCode.{over-append}
use Rattle.lp_question_laws.proofs.Gotos.LinkMaps.{get_more, numbered_here}
use Rattle.lp_question_laws.proofs.Gotos.LinkModule.{IsNoAction, begun, complete}
use Rattle.lp_back_end_laws.proofs.Ascent.Grows.{numbered_all}
use Rattle.lp_back_end_laws.proofs.Ascent.Stays.{AllGrow, Waits, waits_kept, Stays, stays_by, stays_both, all_stay, before_all, MadeAt, made_at}
use Rattle.lp_back_end_laws.proofs.Ascent.Rows.{AreRows, IsNew, RowIs, declares, Opens, Open, all_open, rows_open, new_rows}
use Rattle.lp_back_end_laws.proofs.Ascent.Begins.{starts, source_supplies, actions_stay}

-- a name's function among all that was made, and what was made when it was
pub record Told (prefix : List ℕ) (last : Making) (name : List ℕ) (form : Form) : Type 0 where
  pub number : ℕ
  pub named : number_in name last.names ≡ Some number
  pub maker : Making
  pub same : maker.prefix ≡ prefix
  pub stays : Stays maker last
  pub after : Stays (function_made maker form).making last
  pub there : slice_get last.functions number ≡ Some (Some (function_made maker form).function)

module _ (prefix : List ℕ) (program items : Form) where
  abbrev pub begins : Beginning
  begins = beginning (unmade prefix) program

  abbrev pub sourced : Making
  sourced = with_source items begins.located begins.actions.made

  abbrev pub promised_all : Promising
  promised_all = module_rows sourced items

  abbrev all : Making
  all = all_made promised_all.made promised_all.promises

  module _ (ns : List (Option (List ℕ))) (rows : AreRows (parts_of items) ns) where
    pub opened : Opens (promising_of [] sourced) promised_all
    opened = rows_open (promising_of [] sourced) (parts_of items) ns rows

    pub waiting : Open (length sourced.functions) promised_all
    waiting = all_open (length sourced.functions) (promising_of [] sourced) (parts_of items) ns rows (record { room = omega arith; waits = tt; grow = tt })

    made_stays : Stays promised_all.made all
    made_stays = all_stay promised_all.made (length sourced.functions) promised_all.promises waiting.grow waiting.waits

    -- the actions still wait
    action_waits : (j : ℕ) → slice_get begins.actions.made.functions j ≡ Some None → slice_get all.functions j ≡ Some None
    action_waits j h =
        let from = (source_supplies begins.located begins.actions.made (parser_of items)).functions in
        let more : length sourced.functions ≡ length begins.actions.made.functions + length from.0 = ap length from.1 ∙ length-append begins.actions.made.functions from.0 in
        let less : j < length begins.actions.made.functions = slice_get_within begins.actions.made.functions j None h in
        let here : slice_get sourced.functions j ≡ Some None = ap (λ (fs : List (Option Function)). slice_get fs j) from.1 ∙ get_more begins.actions.made.functions from.0 j None h in
        before_all promised_all.made (length sourced.functions) promised_all.promises j None waiting.grow waiting.waits (omega arith) (opened.functions j None here)

    actions : Stays all (actions_made all begins.actions.promises)
    actions =
        actions_stay all 0 begins.actions.promises
        (waits_kept 0 begins.actions.made.functions all.functions begins.actions.promises (λ j le h. action_waits j h) (starts prefix program).waits)

    -- what was promised stays to the end
    pub promised_stays : Stays promised_all.made (complete prefix program items)
    unfolding complete
    promised_stays = stays_both promised_all.made all (actions_made all begins.actions.promises) made_stays actions

    -- and what the token source has
    pub source_stays : (j : ℕ) (f : Function) → slice_get sourced.functions j ≡ Some (Some f) → slice_get (complete prefix program items).functions j ≡ Some (Some f)
    source_stays j f h = promised_stays.kept j f (opened.functions j (Some f) h)

    pub closure_stays : (complete prefix program items).item_closure ≡ sourced.item_closure
    closure_stays = promised_stays.item_closure ∙ opened.item_closure

    -- variants have numbers in a row
    pub variants_made : (vs : List (List ℕ)) × ((complete prefix program items).variants ≡ numbered_all vs [])
    variants_made =
        let v = promised_stays.variants in
        (v.0, v.1 ∙ ap (numbered_all v.0) (opened.variants ∙ (source_supplies begins.located begins.actions.made (parser_of items)).variants ∙ (starts prefix program).variants))

    module _ (before : List Form) (form : Form) (after : List Form) (split : parts_of items ≡ before ++ form ∷ after) (first later : List (Option (List ℕ))) (rows_before : AreRows before first) (q : List ℕ) (row : RowIs form (Some q)) (rows_after : AreRows after later)
        (new : IsNew q first) (no_action : IsNoAction q) where
      abbrev s0 : Promising
      s0 = over module_row (promising_of [] sourced) before

      abbrev s1 : Promising
      s1 = declares q s0 form

      abbrev s2 : Promising
      s2 = over module_row s1 after

      whole : promised_all ≡ s2
      whole =
          ap (over module_row (promising_of [] sourced)) split
          ∙ over-append module_row (promising_of [] sourced) before (form ∷ after)
          ∙ ap (λ (t : Promising). over module_row t after) (row.0 s0)

      later_opens : Opens s1 s2
      later_opens = rows_open s1 after later rows_after

      abbrev k : ℕ
      k = length s0.made.functions

      unnumbered : number_in q s0.made.names ≡ None
      unnumbered =
          new_rows q (promising_of [] sourced) before first rows_before new
          ∙ ap (number_in q) (source_supplies begins.located begins.actions.made (parser_of items)).names
          ∙ (begun q prefix program no_action).new

      numbered : number_in q promised_all.made.names ≡ Some k
      numbered = ap (λ (t : Promising). number_in q t.made.names) whole ∙ later_opens.names q k (numbered_here q k s0.made.names unnumbered)

      promises_are : promised_all.promises ≡ s0.promises ++ (k, form) ∷ later_opens.promises.0
      promises_are =
          ap (λ (t : Promising). t.promises) whole
          ∙ later_opens.promises.1
          ∙ append_assoc s0.promises ((k, form) ∷ []) later_opens.promises.0

      made : MadeAt promised_all.made all k form
      made =
          let ps = s0.promises ++ (k, form) ∷ later_opens.promises.0 in
          subst (λ (rs : List (ℕ × Form)). MadeAt promised_all.made (all_made promised_all.made rs) k form) (sym promises_are)
          (made_at promised_all.made (length sourced.functions) s0.promises later_opens.promises.0 k form (subst AllGrow promises_are waiting.grow) (subst (Waits (length sourced.functions) promised_all.made.functions) promises_are waiting.waits))

      pub row_told : Told prefix (complete prefix program items) q form
      unfolding complete
      row_told =
          let last = actions_made all begins.actions.promises in
          let maker = made.maker in
          let with_it = (function_made maker form).making in
          let behind : Stays with_it last = stays_both with_it all last made.after actions in
          let from : Stays maker last = stays_both maker with_it last (stays_by maker with_it made.grows) behind in
          record {
            number = k;
            named = ap (number_in q) promised_stays.names ∙ numbered;
            maker = maker;
            same = made.before.prefix ∙ opened.prefix ∙ (source_supplies begins.located begins.actions.made (parser_of items)).prefix ∙ (begun q prefix program no_action).same;
            stays = from;
            after = behind;
            there = actions.kept k (function_made maker form).function made.there;
          }
