-- What the law of reductions takes: facts of the grammar, and what its actions' functions do.
use Rattle.std.specs.Prelude.{◌≡◌, ℕ, ◌+◌, ◌<◌, ◌≤◌, ◌^◌, max, List, [], ◌∷◌, ◌++◌, length, codes, decimal, slice_get, Some}
use Rattle.lp_repr.specs.Numbering.{productions_of}
use Rattle.lp_repr.specs.declared.repr.Grammar.{Grammar}
use Rattle.lp_repr.specs.declared.repr.Production.{Production}
use Rattle.lp_repr.specs.declared.values.Loc.{Loc}
use Rattle.lp_driver.specs.Values.{Spanned, Value}
use Rattle.lp_core.specs.Store.{Program}
use Rattle.lp_core.specs.Val.{Val}
use Rattle.lp_parts.specs.Variants.{variant_types}
use Rattle.lp_table.specs.Starts.{is_fallible}
use Rattle.lp_maker.specs.Making.{Making, number_in}
use Rattle.lp_machine.specs.Tables.{Tables}
use Rattle.lp_code_laws.specs.Ends.Ends.{Moment}
use Rattle.lp_question_laws.specs.Tables.Acts.{Acts, arguments}

-- the counts of a grammar are those of lists in memory
pub record AreCounted (g : Grammar) : Type 0 where
  pub variants : length (variant_types g) ≤ 2 ^ 64
  pub symbols : (i : ℕ) (prod : Production) → slice_get (productions_of g) i ≡ Some prod → length prod.symbols < 2 ^ 64

-- the action of a production has a function, a call of which does what the tables' action does
pub record ActionRuns (p : Program) (last : Making) (g : Grammar) (t : Tables) (params : List Val) (cost : ℕ) (prod : Production) : Type 0 where
  pub function : ℕ
  pub named : number_in (codes "super::action" ++ decimal prod.action) last.names ≡ Some function
  pub acts : (triples : List (Spanned Value)) (place : Loc × Loc) (m : Moment) → length triples ≡ length prod.symbols
      → Acts p function (arguments params triples place) (is_fallible g prod) (t.act prod.action triples place (length m.calls)) cost m

-- the most symbols of a production
abbrev pub longest : List Production → ℕ
longest [] = 0
longest (p ∷ ps) = max (length p.symbols) (longest ps)

-- what a reduction costs for each call of user code and once more, where its action costs so much
abbrev pub reduction_cost : Grammar → ℕ → ℕ
reduction_cost g action = (longest (productions_of g) + 6) + action
