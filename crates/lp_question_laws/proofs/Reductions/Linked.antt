-- A program that runs the built module has the functions that reduce.
use Rattle.std.proofs.Common.{◌≡◌, ℕ, ◌<◌, ◌^◌, true, List, [], ◌++◌, length, Some, refl, sym, ap, subst, ◌∙◌, codes, decimal}
use Rattle.std.specs.Prelude.{slice_get}
use Rattle.std.proofs.lemmas.Option.{same_Some}
use Rattle.lp_repr.specs.Numbering.{productions_of}
use Rattle.lp_repr.specs.declared.lr1.Lr1State.{Lr1State}
use Rattle.lp_repr.specs.declared.repr.Grammar.{Grammar}
use Rattle.lp_repr.specs.declared.repr.Production.{Production}
use Rattle.lp_core.specs.declared.expr.Function.{Function}
use Rattle.lp_core.specs.declared.value.Tag.TheVariants as tag
use Rattle.lp_core.specs.Store.{Program}
use Rattle.lp_table.specs.Pieces.{variant_text, variant_types_shown}
use Rattle.lp_table.specs.Starts.{Start}
use Rattle.lp_table.specs.ReductionLines.{pop_function, is_called, own_function, reduce_function}
use Rattle.lp_view.specs.PartLists.{Form}
use Rattle.lp_maker.specs.declared.methods.Methods.{Methods}
use Rattle.lp_maker.specs.Making.{Making, number_in, with_variant, variant_tag}
use Rattle.lp_bodies.specs.MachineMethods.{with_methods}
use Rattle.lp_bodies.specs.Reductions as bodies
use Rattle.lp_bodies.specs.Reductions.{mismatch, reduce_fn, with_reduce, with_reduce_fn}
use Rattle.lp_run.specs.Functions.{function_made}
use Rattle.lp_turns.specs.Asking.{Asking}
use Rattle.lp_code_laws.proofs.Ends.Pops.{pop_fn}
use Rattle.lp_question_laws.proofs.Gotos.GotoAnswered.{built_items}
use Rattle.lp_question_laws.proofs.Gotos.LinkMaps.{get_more}
use Rattle.lp_question_laws.proofs.Gotos.LinkModule.{complete, all_extends, finished_there}
use Rattle.lp_question_laws.proofs.Tables.Built.{RunsBuilt, machine, is_made}
use Rattle.lp_question_laws.specs.Reductions.Stacks.{Symbol}
use Rattle.lp_question_laws.proofs.Reductions.Popping.{CanPop}
use Rattle.lp_question_laws.proofs.Reductions.Later.{Stays, row_stays}
use Rattle.lp_question_laws.proofs.Reductions.Declared.{reduce_declared, pop_declared, own_declared}
use Rattle.lp_question_laws.proofs.Reductions.Serving.{Serves, variant_of, variant_given}

module _ {prefix : List ℕ} {program : Form} {g : Grammar} {states : List Lr1State} {st : Start} {asked : Asking} {methods : Methods} (runs : RunsBuilt prefix program g states st asked methods) where
  abbrev pub last : Making
  last = complete prefix program (built_items g states st)

  abbrev pub p : Program
  p = asked.program

  -- what was made is there
  pub function_runs : (j : ℕ) (f : Function) → slice_get last.functions j ≡ Some (Some f) → slice_get p.functions j ≡ Some f
  function_runs j f h =
      let is = is_made runs in
      let form = machine runs in
      let e = (all_extends form is.names (length is.fields) last).functions in
      ap (λ fs. slice_get fs j) runs.functions
      ∙ ap (λ fs. slice_get fs j) is.functions
      ∙ finished_there (with_methods form is.names (length is.fields) last).functions j f (ap (λ fs. slice_get fs j) e.1 ∙ get_more last.functions e.0 j (Some f) h)

  -- and serves the bodies that are made of a row
  row_serves : (name : List ℕ) (form : Form) (r : Stays prefix last name form) → Serves p last r.maker (function_made r.maker form).making
  row_serves name form r = record { names = r.knows; variants = r.variants; functions = λ j f le h. function_runs j f (r.functions j f le h) }

  -- ---- the function that reduces by any production

  pub record HasReduce : Type 0 where
    pub number : ℕ
    pub named : number_in (codes "reduce") last.names ≡ Some number
    pub maker : Making
    pub knows : maker.names ≡ last.names
    pub same : maker.prefix ≡ prefix
    pub there : slice_get p.functions number ≡ Some (bodies.reduce_function maker (reduce_function g states st))
    pub serves : Serves p last maker (with_reduce (reduce_function g states st) maker)

  pub has_reduce : HasReduce
  unfolding function_made reduce_function
  has_reduce =
      let form = reduce_function g states st in
      let r : Stays prefix last (codes "reduce") form = row_stays prefix program (built_items g states st) form (codes "reduce") [] (reduce_declared g states st) in
      record { number = r.number; named = r.named; maker = r.maker; knows = r.knows; same = r.same; there = function_runs r.number _ r.function; serves = row_serves (codes "reduce") form r }

  -- ---- the functions of single productions

  own_is : (m : Making) (n : ℕ) (prod : Production) → ((function_made m (own_function g st n prod)).function ≡ reduce_fn m (own_function g st n prod)) × ((function_made m (own_function g st n prod)).making ≡ with_reduce_fn (own_function g st n prod) m)
  unfolding function_made
  own_is m n prod = (refl, refl)

  module _ (i : ℕ) (prod : Production) (at : slice_get (productions_of g) i ≡ Some prod) (called : is_called g st prod ≡ true) (small : i < 2 ^ 64) where
    form : Form
    form = own_function g st i prod

    own_row : Stays prefix last (codes "reduce" ++ decimal i) (own_function g st i prod)
    own_row = row_stays prefix program (built_items g states st) (own_function g st i prod) (codes "reduce") (decimal i) (own_declared g states st i prod at called small)

    pub record OwnRow : Type 0 where
      pub number : ℕ
      pub named : number_in (codes "reduce" ++ decimal i) last.names ≡ Some number
      pub maker : Making
      pub same : maker.prefix ≡ prefix
      pub there : slice_get p.functions number ≡ Some (reduce_fn maker (own_function g st i prod))
      pub serves : Serves p last maker (with_reduce_fn (own_function g st i prod) maker)

    pub has_own : OwnRow
    has_own =
        let r = own_row in
        let e = own_is r.maker i prod in
        record {
          number = r.number;
          named = r.named;
          maker = r.maker;
          same = r.same;
          there = function_runs r.number _ r.function ∙ ap (λ (f : Function). Some f) e.0;
          serves = subst (λ (m : Making). Serves p last r.maker m) e.1 (row_serves (codes "reduce" ++ decimal i) (own_function g st i prod) r);
        }

  -- ---- the functions that take symbols off

  pop_is : (m : Making) (k : ℕ) (ty : List ℕ) → ((function_made m (pop_function g k ty)).function ≡ pop_fn (variant_tag (variant_text k) m) (mismatch m)) × ((function_made m (pop_function g k ty)).making ≡ with_variant (variant_text k) m)
  unfolding function_made
  pop_is m k ty = (refl, refl)

  module _ (k : ℕ) (ty : List ℕ) (at : slice_get (variant_types_shown g) k ≡ Some ty) (small : k < 2 ^ 64) where
    pub pop_row : Stays prefix last (codes "pop_" ++ variant_text k) (pop_function g k ty)
    pop_row = row_stays prefix program (built_items g states st) (pop_function g k ty) (codes "pop_") (variant_text k) (pop_declared g states st k ty at small)

    -- each variant that there is has a number
    pub variant_known : number_in (variant_text k) last.variants ≡ Some (variant_of (variant_text k) pop_row.maker)
    variant_known =
        let r = pop_row in
        r.variants (variant_text k) _ (ap (λ (m : Making). number_in (variant_text k) m.variants) (pop_is r.maker k ty).1 ∙ variant_given (variant_text k) r.maker)

    -- a symbol of it can be taken off
    pub can_pop : (x : Symbol) → x.variant ≡ variant_text k → number_in (variant_text k) last.variants ≡ Some x.number → CanPop p last x
    can_pop x named number =
        let r = pop_row in
        let same : variant_of (variant_text k) r.maker ≡ x.number = same_Some _ _ (sym variant_known ∙ number) in
        record {
          function = r.number;
          other = mismatch r.maker;
          named = ap (λ v. number_in (codes "pop_" ++ v) last.names) named ∙ r.named;
          there = function_runs r.number _ r.function ∙ ap (λ (f : Function). Some f) (pop_is r.maker k ty).0 ∙ ap (λ n. Some (pop_fn (tag.Variant n) (mismatch r.maker))) same;
        }
