-- Actions by how deep they run one another: each does what the tables' action of that depth does.
use Rattle.std.proofs.Common.{◌≡◌, ℕ, zero, suc, ◌+◌, ◌<◌, ◌≤◌, ◌^◌, Bool, true, false, List, [], ◌∷◌, ◌++◌, length, map, Some, refl, ap, sym, subst, ◌∙◌, arith}
use Rattle.std.specs.Prelude.{slice_get, codes, decimal, not, sum_by}
use Rattle.std.specs.List.{list_all, list_any, flat_map, Contains}
use Rattle.std.specs.Option.{option_map_or}
use Rattle.std.proofs.Math.Nat.{mul-le-mul_right}
use Rattle.std.proofs.lemmas.Bool.Decides.{nat_tests}
use Rattle.std.proofs.lemmas.List.{length-map}
use Rattle.std.proofs.lemmas.List.Sums.{sum_by-cons}
use Rattle.lp_repr.specs.declared.repr.ActionFnDefn.{ActionFnDefn}
use Rattle.lp_repr.specs.declared.repr.ActionFnDefnKind.{ActionFnDefnKind}
use Rattle.lp_repr.specs.declared.repr.ActionFnDefnKind.TheVariants as kind
use Rattle.lp_repr.specs.declared.repr.Grammar.{Grammar}
use Rattle.lp_repr.specs.declared.repr.InlinedSymbol.{InlinedSymbol}
use Rattle.lp_repr.specs.declared.repr.InlinedSymbol.TheVariants.{Original, Inlined}
use Rattle.lp_repr.specs.declared.repr.LookaroundActionFn.{LookaroundActionFn}
use Rattle.lp_repr.specs.declared.repr.LookaroundActionFn.TheVariants.{Lookahead, Lookbehind}
use Rattle.lp_repr.specs.declared.repr.Parameter.{Parameter}
use Rattle.lp_repr.specs.declared.values.Loc.{Loc}
use Rattle.lp_driver.specs.Values.{Text, Spanned, Value}
use Rattle.lp_core.specs.Store.{Program}
use Rattle.lp_core.specs.Val.{Val}
use Rattle.lp_machine.specs.ActionMeaning.{Meaning, act, meaning_of, meaning_at}
use Rattle.lp_machine.specs.declared.calls.Acted.{Acted}
use Rattle.lp_actions.specs.Parameters.{symbols_of}
use Rattle.lp_maker.specs.Making.{Making, number_in}
use Rattle.lp_table.specs.Headers.{names_of}
use Rattle.lp_valid.specs.ActionRules.{symbol_count, kind_takes, takes, part_takes, kind_has_counts, part_is_fallible, kind_may_fail}
use Rattle.lp_valid.specs.InlineRules.{part_runs, kind_runs, Runs, kind_has_symbol}
use Rattle.lp_valid.specs.ValidGrammar.{IsValidGrammar}
use Rattle.lp_code_laws.specs.Ends.Ends.{Moment}
use Rattle.lp_question_laws.specs.Tables.Acts.{arguments}
use Rattle.lp_question_laws.specs.Actions.Callable.{Callable, AreCallable}
use Rattle.lp_question_laws.specs.Actions.Nesting.{NestsWithin, size_of, size_at, actions_size}
use Rattle.lp_question_laws.specs.Actions.Params.{AreParams}
use Rattle.lp_question_laws.specs.Actions.Performs.{Performs, quiet}
use Rattle.lp_question_laws.specs.Actions.Stands.{HasActions}
use Rattle.lp_question_laws.proofs.Actions.Fallible.{IsTold}
use Rattle.lp_question_laws.proofs.Actions.Inlines.{flat_many, inline_performs}
use Rattle.lp_question_laws.proofs.Actions.InlineSpans.{widths}
use Rattle.lp_question_laws.proofs.Actions.Lookarounds.{lookaround_performs}
use Rattle.lp_question_laws.proofs.Actions.Parameters.{ArePlain, IsCounted}
use Rattle.lp_question_laws.proofs.Actions.Rules.{and_first, and_second, ruled, taken_by, widths_sum, equal_counts, busy, quiet_small, fails_is, outer_calm, parts_calm, part_calm, contains_first, contains_next}
use Rattle.lp_question_laws.proofs.Actions.Texts.{IsPlainPrefix}
use Rattle.lp_question_laws.proofs.Actions.UserCalls.{params_set}
use Rattle.lp_question_laws.proofs.Actions.Users.{HasPlainTexts, user_performs}

-- what is asked of the texts of a grammar, and of the lengths of its inlined symbols
pub record IsPlainGrammar (g : Grammar) : Type 0 where
  pub prefix : IsPlainPrefix g.prefix
  pub names : ArePlain g.prefix g.parameters
  pub told : (n : ℕ) (a : ActionFnDefn) → slice_get g.action_fn_defns n ≡ Some a → IsTold g a
  pub counted : (n : ℕ) (a : ActionFnDefn) (outer : ℕ) (symbols : List InlinedSymbol) → slice_get g.action_fn_defns n ≡ Some a → a.kind ≡ kind.Inline outer symbols → (length (flat_map symbols_of symbols) < 2 ^ 64) × (length symbols < 2 ^ 64)

-- ---- bounds

pub size_some : (k : ActionFnDefnKind) → 1 ≤ size_of k
size_some (kind.User patterns types code) = omega arith
size_some (kind.Lookaround place) = omega arith
size_some (kind.Inline outer symbols) = omega arith

pub size_within : (actions : List ActionFnDefn) (n : ℕ) (a : ActionFnDefn) → slice_get actions n ≡ Some a → size_of a.kind ≤ actions_size actions
size_within [] n a is = absurd cc
size_within (b ∷ actions) zero a is =
    let same : b ≡ a = cc in
    let sum = sum_by-cons (λ (x : ActionFnDefn). size_of x.kind) b actions in
    let size : size_of b.kind ≡ size_of a.kind = ap (λ (x : ActionFnDefn). size_of x.kind) same in
    omega (arith, sum, size)
size_within (b ∷ actions) (suc n) a is =
    let sum = sum_by-cons (λ (x : ActionFnDefn). size_of x.kind) b actions in
    let rest = size_within actions n a is in
    omega (arith, sum, rest)

performs_wider : {p : Program} {f : ℕ} {args : List Val} {fallible : Bool} {extra : ℕ} {acted : Acted} {most : ℕ} {at : Moment} (wider : ℕ) → most ≤ wider → Performs p f args fallible extra acted most at → Performs p f args fallible extra acted wider at
performs_wider {acted = acted} wider le r = record { steps = r.steps; few = (let f = r.few in let k = mul-le-mul_right (length acted.calls) le in omega (arith, f, k)); ends = r.ends; calls = r.calls; fails = r.fails; calm = r.calm }

module _ (p : Program) (g : Grammar) (names : List (List ℕ × ℕ)) (actions : HasActions p g names) (valid : IsValidGrammar g) (plain : IsPlainGrammar g) (held : List ℕ → Val) (ts : List Text) (are : AreParams p (map held (names_of g)) ts) (failing : List ℕ) (same : p.failing ≡ failing) where
  abbrev vals : List Val
  vals = map held (names_of g)

  abbrev acts : ℕ → Meaning
  acts d = act ts failing d g.action_fn_defns

  -- all actions that nest less than so deep, and within a bound, do what those of the tables do
  abbrev pub Acting : ℕ → Type 0
  Acting d = (n : ℕ) (a : ActionFnDefn) (there : slice_get g.action_fn_defns n ≡ Some a) (most : ℕ) → NestsWithin g.action_fn_defns d most n → (xs : List (Spanned Value)) (place : Loc × Loc) (at : Moment) → kind_takes a.kind (length xs) ≡ true
      → Performs p (actions n a there).number (arguments vals xs place) a.fallible (quiet a.kind) (acts d n xs place (length at.calls)) most at

  texts_of : (n : ℕ) (a : ActionFnDefn) → slice_get g.action_fn_defns n ≡ Some a → HasPlainTexts g a
  texts_of n a there = record { prefix = plain.prefix; names = plain.names; counted = by a.kind refl (ruled g valid n a there).counted; told = plain.told n a there }
    where
      by : (k : ActionFnDefnKind) → a.kind ≡ k → kind_has_counts g.action_fn_defns k ≡ true → IsCounted g plain.prefix k
      by (kind.User patterns types code) is h = equal_counts (length patterns) (length types) h
      by (kind.Lookaround place) is h = tt
      by (kind.Inline outer symbols) is h = plain.counted n a outer symbols there is

  module _ (d less : ℕ) (acting : Acting d) (m : Making) (knows : m.names ≡ names) where
    callable : (b count : ℕ) → takes g.action_fn_defns b count ≡ true → NestsWithin g.action_fn_defns d less b → Callable p m g vals (acts d) less b count
    callable b count h nests =
        let t = taken_by g.action_fn_defns b count h in
        let has = actions b t.0 t.1 in
        record {
          number = has.number;
          named = ap (number_in (codes "super::action" ++ decimal b)) knows ∙ has.named;
          extra = quiet t.0.kind;
          small = quiet_small t.0.kind;
          performs = λ xs place at many. subst (λ f. Performs p has.number (arguments vals xs place) f (quiet t.0.kind) (acts d b xs place (length at.calls)) less at) (sym (fails_is g b t.0 t.1)) (acting b t.0 t.1 less nests xs place at (subst (λ k. kind_takes t.0.kind k ≡ true) (sym many) t.2));
        }

    parts_callable : (fallible : Bool) (ss : List InlinedSymbol) → list_all (part_takes g.action_fn_defns) ss ≡ true → (fallible ≡ false → list_any (part_is_fallible g.action_fn_defns) ss ≡ false) → ((b : ℕ) → Contains (flat_map part_runs ss) b → NestsWithin g.action_fn_defns d less b)
        → AreCallable p m g vals (acts d) less fallible ss
    parts_callable fallible [] h calm nests = tt
    parts_callable fallible (Original s ∷ ss) h calm nests = parts_callable fallible ss h calm nests
    parts_callable fallible (Inlined action inner ∷ ss) h calm nests =
        let first = and_first (takes g.action_fn_defns action (length inner)) (list_all (part_takes g.action_fn_defns) ss) h in
        let rest = and_second (takes g.action_fn_defns action (length inner)) (list_all (part_takes g.action_fn_defns) ss) h in (
          callable action (length inner) first (nests action (contains_first action (flat_map part_runs ss))),
          (λ is. (part_calm g action inner ss (calm is)).0),
          parts_callable fallible ss rest (λ is. (part_calm g action inner ss (calm is)).1) (λ b c. nests b (contains_next b action (flat_map part_runs ss) c)),
        )

  lookaround_at : (n : ℕ) (a : ActionFnDefn) (there : slice_get g.action_fn_defns n ≡ Some a) (which : LookaroundActionFn) → a.kind ≡ kind.Lookaround which → (place : Loc × Loc) (at : Moment) (d : ℕ) → a.fallible ≡ false
      → Performs p (actions n a there).number (arguments vals [] place) a.fallible 1 (meaning_of ts failing (acts d) a.fallible (kind.Lookaround which) [] place (length at.calls)) 1 at
  lookaround_at n a there Lookahead is place at d calm = lookaround_performs p g names n a (actions n a there) (texts_of n a there) Lookahead is held place at calm
  lookaround_at n a there Lookbehind is place at d calm = lookaround_performs p g names n a (actions n a there) (texts_of n a there) Lookbehind is held place at calm

  params_many : length vals ≡ length g.parameters
  params_many = length-map (names_of g) held ∙ length-map g.parameters (λ (q : Parameter). q.name)

  not_so : (b : Bool) → not b ≡ true → b ≡ false
  not_so true h = cc
  not_so false h = refl

  module _ (d : ℕ) (acting : Acting d) (n : ℕ) (a : ActionFnDefn) (there : slice_get g.action_fn_defns n ≡ Some a) (most less : ℕ) (fits : less + size_of a.kind ≤ most) (nests : (b : ℕ) → Runs g.action_fn_defns n b → NestsWithin g.action_fn_defns d less b) (place : Loc × Loc) (at : Moment) where
    one : 1 ≤ most
    one = let s = size_some a.kind in omega (arith, fits, s)

    by_kind : (k : ActionFnDefnKind) → a.kind ≡ k → (xs : List (Spanned Value)) → kind_takes k (length xs) ≡ true → kind_has_counts g.action_fn_defns k ≡ true → kind_has_symbol k ≡ true → kind_may_fail g.action_fn_defns a.fallible k ≡ true
        → Performs p (actions n a there).number (arguments vals xs place) a.fallible (quiet k) (meaning_of ts failing (acts d) a.fallible k xs place (length at.calls)) most at
    unfolding callable
    by_kind (kind.User patterns types code) is xs takes_so counted filled may =
        let many : length xs ≡ length patterns = sym (equal_counts (length types) (length xs) takes_so) ∙ sym (equal_counts (length patterns) (length types) counted) in
        performs_wider most one (user_performs p g names n a (actions n a there) (texts_of n a there) patterns types code is vals ts xs place failing at are params_many many same)
    by_kind (kind.Lookaround which) is [] takes_so counted filled may = performs_wider most one (lookaround_at n a there which is place at d (not_so a.fallible may))
    by_kind (kind.Lookaround which) is (x ∷ xs) takes_so counted filled may = absurd (let z = equal_counts (length (x ∷ xs)) 0 takes_so in omega (arith, z))
    by_kind (kind.Inline outer symbols) is xs takes_so counted filled may =
        let has = actions n a there in
        let texts = texts_of n a there in
        let counts = plain.counted n a outer symbols there is in
        let many : length xs ≡ widths symbols = sym (equal_counts (sum_by symbol_count symbols) (length xs) takes_so) ∙ widths_sum symbols in
        let few : length xs < 2 ^ 64 = (let f = flat_many symbols in let c = counts.0 in omega (arith, many, f, c)) in
        let some : 0 < length symbols = grind (arith, nat_tests) in
        let runs : (b : ℕ) → Contains (outer ∷ flat_map part_runs symbols) b → NestsWithin g.action_fn_defns d less b = λ b c. nests b (a, there, subst (λ k. Contains (kind_runs k) b) (sym is) c) in
        let outer_takes = and_first (takes g.action_fn_defns outer (length symbols)) (list_all (part_takes g.action_fn_defns) symbols) counted in
        let parts_take = and_second (takes g.action_fn_defns outer (length symbols)) (list_all (part_takes g.action_fn_defns) symbols) counted in
        let size : 1 + length symbols ≤ size_of a.kind = subst (λ k. 1 + length symbols ≤ size_of k) (sym is) (omega arith) in
        let c = callable d less acting has.maker has.knows outer (length symbols) outer_takes (runs outer (contains_first outer (flat_map part_runs symbols))) in
        let t = taken_by g.action_fn_defns outer (length symbols) outer_takes in
        inline_performs p g names n a has texts outer symbols is xs place at held (acts d) less most many few (params_set p vals ts are)
        (parts_callable d less acting has.maker has.knows a.fallible symbols parts_take (parts_calm g a.fallible outer symbols may) (λ b h. runs b (contains_next b outer (flat_map part_runs symbols) h)))
        (c, busy t.0.kind (length symbols) some t.2) (outer_calm g a.fallible outer symbols may) some counts.1 (omega (arith, fits, size))

  next_acts : (d : ℕ) → Acting d → Acting (suc d)
  next_acts d acting n a there most nests xs place at takes_so =
      let r = ruled g valid n a there in
      let size : size_at g.action_fn_defns n ≡ size_of a.kind = ap (λ o. option_map_or (λ (x : ActionFnDefn). size_of x.kind) o 0) there in
      let fits : nests.0 + size_of a.kind ≤ most = (let f = nests.1 in omega (arith, f, size)) in
      subst (λ w. Performs p (actions n a there).number (arguments vals xs place) a.fallible (quiet a.kind) w most at) (sym (ap (λ o. meaning_at ts failing (acts d) o xs place (length at.calls)) there))
      (by_kind d acting n a there most nests.0 fits nests.2 place at a.kind refl xs takes_so r.counted r.filled r.failing)

  pub all_act : (d : ℕ) → Acting d
  all_act zero = λ n a there most nests xs place at takes_so. absurd nests
  all_act (suc d) = next_acts d (all_act d)
