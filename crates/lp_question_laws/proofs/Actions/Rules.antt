-- What the rules of a valid grammar say of one action.
use Rattle.std.proofs.Common.{◌≡◌, ℕ, suc, ◌+◌, ◌-◌, ◌<◌, ◌≤◌, ◌==◌, Bool, true, false, ◌&&◌, ◌||◌, List, [], ◌∷◌, length, Option, Some, None, refl, ap, sym, subst, ◌∙◌, arith}
use Rattle.std.specs.Prelude.{slice_get, not, sum_by, IfSome, IsTrue}
use Rattle.std.specs.List.{list_any, Contains}
use Rattle.std.specs.Option.{option_map_or}
use Rattle.std.proofs.lemmas.Bool.{eqb-true}
use Rattle.std.proofs.lemmas.List.Sums.{sum_by-cons}
use Rattle.std.proofs.lemmas.Option.{slice_get_within}
use Rattle.lp_repr.specs.declared.repr.Production.{Production}
use Rattle.lp_repr.specs.declared.repr.ActionFnDefn.{ActionFnDefn}
use Rattle.lp_repr.specs.declared.repr.ActionFnDefnKind.{ActionFnDefnKind}
use Rattle.lp_repr.specs.declared.repr.ActionFnDefnKind.TheVariants as kind
use Rattle.lp_repr.specs.declared.repr.Grammar.{Grammar}
use Rattle.lp_repr.specs.declared.repr.InlinedSymbol.{InlinedSymbol}
use Rattle.lp_repr.specs.declared.repr.InlinedSymbol.TheVariants.{Original, Inlined}
use Rattle.lp_repr.specs.Numbering.{productions_of}
use Rattle.lp_valid.specs.ActionRules.{symbol_count, kind_takes, takes, kind_has_counts, is_fallible, part_is_fallible, kind_may_fail}
use Rattle.lp_valid.specs.InlineRules.{kind_has_symbol}
use Rattle.lp_valid.specs.Places.{EachPasses}
use Rattle.lp_valid.specs.ValidGrammar.{IsValidGrammar, counts, inlines, fallibles}
use Rattle.lp_repr.specs.declared.repr.Symbol.{Symbol}
use Rattle.lp_table.specs.Starts.{fallible_or_not}
use Rattle.lp_actions.specs.Inlines.{action_fails}
use Rattle.lp_question_laws.specs.Actions.Performs.{quiet}
use Rattle.lp_question_laws.proofs.Actions.InlineSpans.{widths}

pub and_first : (a b : Bool) → (a && b) ≡ true → a ≡ true
and_first true b h = refl
and_first false b h = cc

pub and_second : (a b : Bool) → (a && b) ≡ true → b ≡ true
and_second true b h = h
and_second false b h = cc

-- the rules for the action of a number
pub record Ruled (g : Grammar) (a : ActionFnDefn) : Type 0 where
  pub counted : kind_has_counts g.action_fn_defns a.kind ≡ true
  pub filled : kind_has_symbol a.kind ≡ true
  pub failing : kind_may_fail g.action_fn_defns a.fallible a.kind ≡ true

-- what holds of each of some things holds of one
pub passes : {X : Type 0} (test : X → Bool) (xs : List X) (i : ℕ) (x : X) → slice_get xs i ≡ Some x → EachPasses test xs i → test x ≡ true
passes test xs i x is h = subst (λ o. IfSome o (λ y. IsTrue (test y))) is h

pub ruled : (g : Grammar) → IsValidGrammar g → (n : ℕ) (a : ActionFnDefn) → slice_get g.action_fn_defns n ≡ Some a → Ruled g a
ruled g valid n a there =
    let many = length (productions_of g) in
    let at : many + n - many ≡ n = omega arith in
    let second = (valid counts (many + n)).1 (omega arith) in
    record {
      counted = passes (λ b. kind_has_counts g.action_fn_defns b.kind) g.action_fn_defns n a there (subst (EachPasses (λ (b : ActionFnDefn). kind_has_counts g.action_fn_defns b.kind) g.action_fn_defns) at second);
      filled = passes (λ b. kind_has_symbol b.kind) g.action_fn_defns n a there (valid inlines n).0;
      failing = passes (λ b. kind_may_fail g.action_fn_defns b.fallible b.kind) g.action_fn_defns n a there (valid fallibles n);
    }

-- ---- what is taken

-- an action that takes so many symbols is there
pub taken_by : (actions : List ActionFnDefn) (b count : ℕ) → takes actions b count ≡ true → (defn : ActionFnDefn) × (slice_get actions b ≡ Some defn) × (kind_takes defn.kind count ≡ true)
taken_by actions b count h = by (slice_get actions b) refl h
  where
    by : (o : Option ActionFnDefn) → slice_get actions b ≡ o → option_map_or (λ (a : ActionFnDefn). kind_takes a.kind count) o false ≡ true → (defn : ActionFnDefn) × (slice_get actions b ≡ Some defn) × (kind_takes defn.kind count ≡ true)
    by None is h = absurd cc
    by (Some defn) is h = (defn, is, h)

-- the action of a production takes its symbols
pub production_taken : (g : Grammar) → IsValidGrammar g → (k : ℕ) (p : Production) → slice_get (productions_of g) k ≡ Some p → (a : ActionFnDefn) × (slice_get g.action_fn_defns p.action ≡ Some a) × (kind_takes a.kind (length p.symbols) ≡ true)
production_taken g valid k p is =
    taken_by g.action_fn_defns p.action (length p.symbols)
    (passes (λ (q : Production). takes g.action_fn_defns q.action (length q.symbols)) (productions_of g) k p is ((valid counts k).0 (slice_get_within (productions_of g) k p is)))

-- symbols take as many arguments as they stand for
pub widths_sum : (ss : List InlinedSymbol) → sum_by symbol_count ss ≡ widths ss
widths_sum [] = refl
widths_sum (Original s ∷ ss) = sum_by-cons symbol_count (Original s) ss ∙ ap (λ k. 1 + k) (widths_sum ss)
widths_sum (Inlined action inner ∷ ss) = sum_by-cons symbol_count (Inlined action inner) ss ∙ ap (λ k. length inner + k) (widths_sum ss)

pub equal_counts : (a b : ℕ) → (a == b) ≡ true → a ≡ b
equal_counts a b h = eqb-true a b h

-- what takes a symbol makes a call
pub busy : (k : ActionFnDefnKind) (count : ℕ) → 0 < count → kind_takes k count ≡ true → quiet k ≡ 0
busy (kind.User patterns types code) count some h = refl
busy (kind.Lookaround place) count some h = absurd (let z = equal_counts count 0 h in omega (arith, some, z))
busy (kind.Inline outer symbols) count some h = refl

pub quiet_small : (k : ActionFnDefnKind) → quiet k ≤ 1
quiet_small (kind.User patterns types code) = omega arith
quiet_small (kind.Lookaround place) = omega arith
quiet_small (kind.Inline outer symbols) = omega arith

-- ---- what fails

pub fails_is : (g : Grammar) (b : ℕ) (defn : ActionFnDefn) → slice_get g.action_fn_defns b ≡ Some defn → action_fails g b ≡ defn.fallible
fails_is g b defn is = ap fallible_or_not is

fails_as : (g : Grammar) (b : ℕ) → is_fallible g.action_fn_defns b ≡ action_fails g b
fails_as g b = by (slice_get g.action_fn_defns b)
  where
    by : (o : Option ActionFnDefn) → option_map_or (λ (a : ActionFnDefn). a.fallible) o false ≡ fallible_or_not o
    by None = refl
    by (Some a) = refl

no_more : (a b c : Bool) → (a || not (b || c)) ≡ true → a ≡ false → (b ≡ false) × (c ≡ false)
no_more true b c h is = absurd cc
no_more false true c h is = absurd cc
no_more false false true h is = absurd cc
no_more false false false h is = (refl, refl)

-- where an action can't fail, neither can its outer action nor its parts
pub outer_calm : (g : Grammar) (fallible : Bool) (outer : ℕ) (symbols : List InlinedSymbol) → kind_may_fail g.action_fn_defns fallible (kind.Inline outer symbols) ≡ true → fallible ≡ false → action_fails g outer ≡ false
outer_calm g fallible outer symbols h is = sym (fails_as g outer) ∙ (no_more fallible (is_fallible g.action_fn_defns outer) (list_any (part_is_fallible g.action_fn_defns) symbols) h is).0

pub parts_calm : (g : Grammar) (fallible : Bool) (outer : ℕ) (symbols : List InlinedSymbol) → kind_may_fail g.action_fn_defns fallible (kind.Inline outer symbols) ≡ true → fallible ≡ false → list_any (part_is_fallible g.action_fn_defns) symbols ≡ false
parts_calm g fallible outer symbols h is = (no_more fallible (is_fallible g.action_fn_defns outer) (list_any (part_is_fallible g.action_fn_defns) symbols) h is).1

or_neither : (a b : Bool) → (a || b) ≡ false → (a ≡ false) × (b ≡ false)
or_neither true b h = absurd cc
or_neither false b h = (refl, h)

pub part_calm : (g : Grammar) (action : ℕ) (inner : List Symbol) (ss : List InlinedSymbol) → list_any (part_is_fallible g.action_fn_defns) (Inlined action inner ∷ ss) ≡ false → (action_fails g action ≡ false) × (list_any (part_is_fallible g.action_fn_defns) ss ≡ false)
part_calm g action inner ss h = let r = or_neither (is_fallible g.action_fn_defns action) (list_any (part_is_fallible g.action_fn_defns) ss) h in (sym (fails_as g action) ∙ r.0, r.1)

-- ---- what an action runs

pub contains_first : (x : ℕ) (xs : List ℕ) → Contains (x ∷ xs) x
contains_first x xs = (0, omega arith, refl)

pub contains_next : (x y : ℕ) (xs : List ℕ) → Contains xs x → Contains (y ∷ xs) x
contains_next x y xs h = (suc h.0, omega (arith, h.1), h.2)
