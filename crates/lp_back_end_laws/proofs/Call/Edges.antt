-- Edges of valid tables, in the words of frames.
use Rattle.std.proofs.Common.{◌≡◌, ℕ, zero, suc, ◌+◌, ◌-◌, ◌<◌, ◌≤◌, false, List, [], ◌∷◌, ◌++◌, length, take, Some, slice_get, sym, ap, ◌∙◌, subst, arith, length-append, true≢false}
use Rattle.std.proofs.lemmas.List.{take-append-le}
use Rattle.lp_repr.specs.declared.lr1.Lr1State.{Lr1State}
use Rattle.lp_repr.specs.declared.numbering.SymbolNumber.{SymbolNumber}
use Rattle.lp_repr.specs.declared.repr.Grammar.{Grammar}
use Rattle.lp_repr.specs.declared.values.RunItem.{RunItem}
use Rattle.lp_driver.specs.DriverState.{last_of}
use Rattle.lp_driver.specs.Values.{Spanned, Value}
use Rattle.lp_machine.specs.declared.config.Config.{Config}
use Rattle.lp_machine.specs.ReductionSpan.{below}
use Rattle.lp_machine.specs.Tables.{Tables}
use Rattle.lp_core.specs.Val.{Val}
use Rattle.lp_ascent.specs.Slots.{Layout, count_of, is_cell}
use Rattle.lp_turn_laws.specs.Paths.Over.{IsOver}
use Rattle.lp_turn_laws.specs.Paths.Walks.{edge_at, Has, IsPath}
use Rattle.lp_turn_laws.proofs.Paths.Edges.{back_over}
use Rattle.lp_turn_laws.proofs.Paths.Stacks.{path_push}
use Rattle.lp_code_laws.proofs.Ends.Lists.{take_all}
use Rattle.lp_code_laws.proofs.Slots.Slots.{get_behind}
use Rattle.lp_back_end_laws.specs.Call.Slots.{layout}
use Rattle.lp_back_end_laws.specs.Call.Standing.{OnTop, Reduced}
use Rattle.lp_back_end_laws.specs.Call.Handing.{HandsOn, Pushed}
use Rattle.lp_back_end_laws.proofs.Call.Layouts.{fixed_above, fixed_below, count_grows, fixed_grows, made_for, dot_within, made_cell}

-- where a frame goes on after its callee and has slots by value, none of these is taken
pub by_value_left : (l k : Layout) → HandsOn l k → k.fixed ≡ 1 → (e : ℕ) → e + 1 ≤ count_of k → (j : ℕ) → is_cell l j ≡ false → j < count_of l → j + e < count_of l
by_value_left l k hands one zero le j no_cell less = omega (arith, less)
by_value_left l k hands one (suc e) le j no_cell less = absurd (true≢false (sym (made_cell l j (hands.made_optional one (omega (arith, le)))) ∙ no_cell))

-- what lies below the symbols under the last one
pub below_push : {A : Type 0} (xs : List A) (x : A) (e : ℕ) → below (e + 1) (xs ++ x ∷ []) ≡ below e xs
below_push xs x e =
    let same : length (xs ++ x ∷ []) - (e + 1) ≡ length xs - e = omega (arith, length-append xs (x ∷ [])) in
    ap (λ n. take n (xs ++ x ∷ [])) same ∙ take-append-le (length xs - e) xs (x ∷ []) (omega arith)

-- nothing is taken off
pub below_none : {A : Type 0} (xs : List A) → below 0 xs ≡ xs
below_none xs = (let all : length xs - 0 ≡ length xs = omega arith in ap (λ n. take n xs) all ∙ take_all xs)

-- the last one is the top
pub last_pushed : {A : Type 0} (xs : List A) (x : A) → last_of (xs ++ x ∷ []) ≡ Some x
last_pushed xs x =
    let top : length (xs ++ x ∷ []) - 1 ≡ length xs = omega (arith, length-append xs (x ∷ [])) in
    ap (slice_get (xs ++ x ∷ [])) top ∙ get_behind xs x []

module _ {g : Grammar} {start : ℕ} {states : List Lr1State} {t : Tables} (over : IsOver g start states t) where
  -- what the target's slots are to the source's
  pub edge_hands : (s : ℕ) (x : SymbolNumber) (p : ℕ) → edge_at states s x ≡ Some p → HandsOn (layout g states s) (layout g states p)
  edge_hands s x p edge = record {
    some_fixed = fixed_above over s x p edge;
    fixed_within = fixed_below over p;
    within = count_grows over s x p edge;
    fixed_grow = λ many. let w = fixed_grows over s x p edge (omega (arith, many)) in omega (arith, w.1);
    made_optional = λ one more. made_for over s x p edge one (omega (arith, more));
  }

  -- how many of a target's slots an item takes that has symbols before its dot
  pub item_within : (p y d : ℕ) → Has states p y d → 0 < d → ((layout g states p).fixed ≤ d) × (d ≤ count_of (layout g states p))
  item_within p y d h more = let w = dot_within over p y d h more in (w.1, w.2)

  -- after an edge the target is on top
  pub on_top_pushed : (s : ℕ) (x : SymbolNumber) (p : ℕ) (c after : Config) (y : Spanned Value) → edge_at states s x ≡ Some p → OnTop states s c → Pushed c after p y → OnTop states p after
  on_top_pushed s x p c after y edge top pushed = record {
    stands = record {
      symbols = top.stands.symbols ++ x ∷ [];
      path = subst (λ stack. IsPath states stack (top.stands.symbols ++ x ∷ [])) (sym pushed.states) (path_push states c.states top.stands.symbols s x p top.stands.path top.top edge);
      same_count = ap length pushed.triples ∙ omega (arith, length-append c.triples (y ∷ []), length-append top.stands.symbols (x ∷ []), top.stands.same_count);
    };
    top = ap last_of pushed.states ∙ last_pushed c.states p;
  }

  -- the item of a reduction stands in the source too, with its dot one symbol before
  pub reduced_back : (items : List RunItem) (variant : ℕ → ℕ) (s : ℕ) (x : SymbolNumber) (p : ℕ) (c from after : Config) (y : Spanned Value) (d e : ℕ) (v : Val) → edge_at states s x ≡ Some p → Pushed c from p y → d ≡ e + 1
      → Reduced states t items variant p from d v after → Reduced states t items variant s c e v after
  reduced_back items variant s x p c from after y d e v edge pushed more r = record {
    production = r.production;
    rule = r.rule;
    known = r.known;
    item = (back_over g start states over.tables s x p r.production e edge (subst (Has states p r.production) (omega (arith, more)) r.item)).0;
    value = r.value;
    pending = r.pending;
    mending = r.mending;
    fits = r.fits;
    heights = r.heights;
    triples = r.triples ∙ ap (λ n. below n from.triples) more ∙ ap (below (e + 1)) pushed.triples ∙ below_push c.triples y e;
    states_below = r.states_below ∙ ap (λ n. below n from.states) more ∙ ap (below (e + 1)) pushed.states ∙ below_push c.states p e;
    look = r.look;
    look_taken = r.look_taken;
    kept = r.kept;
    answers = r.answers;
  }
