-- The function that takes a symbol of a variant off.
use Rattle.std.proofs.Common.{◌≡◌, ℕ, suc, ◌-◌, List, [], ◌∷◌, ◌++◌, length, take, Some, ℤ, refl, ap, ◌∙◌, arith, length-append, append-nil}
use Rattle.std.specs.Prelude.{slice_get}
use Rattle.std.proofs.Math.Seq.{take-append_seam}
use Rattle.std.proofs.lemmas.Bool.{eq-eqb}
use Rattle.lp_repr.specs.declared.values.Loc.{Loc}
use Rattle.lp_driver.specs.Values.{Spanned}
use Rattle.lp_core.specs.declared.value.Tag.TheVariants as tag
use Rattle.lp_core.specs.declared.expr.Function.{Function}
use Rattle.lp_core.specs.Val as val
use Rattle.lp_core.specs.Val.{Val, Made}
use Rattle.lp_core.specs.Datum.{Unset, Cell}
use Rattle.lp_core.specs.Reading.{wrapped, spanned_val}
use Rattle.lp_core.specs.Effect.{set_value}
use Rattle.lp_core.specs.CellMeaning.{last_in, without_last}
use Rattle.lp_core.specs.Store.{Program, States, Symbols, UserCall}
use Rattle.lp_core.specs.Flow.{State, Gives, spend, leave}
use Rattle.lp_core.specs.Eval.{run, run_call, enter}
use Rattle.lp_maker.specs.Making.{Making}
use Rattle.lp_bodies.specs.Reductions.{pop_lines, mismatch}
use Rattle.lp_bodies.specs.Source.{function}
use Rattle.lp_maker.specs.Constructs.{on_option, read}
use Rattle.lp_core.specs.declared.expr.Op.TheVariants as op
use Rattle.lp_core.specs.Tree.{Apply}
use Rattle.lp_question_laws.proofs.Gotos.LinkMaps.{get_end}

last_there : {A : Type 0} (l : List A) (x : A) → last_in (l ++ x ∷ []) ≡ Some x
last_there l x = (let n : length (l ++ x ∷ []) - 1 ≡ length l = (let e = length-append l (x ∷ []) in omega arith) in ap (slice_get (l ++ x ∷ [])) n) ∙ get_end l [] x

front_there : {A : Type 0} (l : List A) (x : A) → without_last (l ++ x ∷ []) ≡ l
front_there l x = (let n : length (l ++ x ∷ []) - 1 ≡ length l = (let e = length-append l (x ∷ []) in omega arith) in ap (λ k. take k (l ++ x ∷ [])) n) ∙ take-append_seam l (x ∷ [])

module _ (p : Program) (m : Making) (k left taken : ℕ) (calls : List UserCall) (ss : List ℤ) (l : List (Spanned Val)) (a b : Loc) (v : Val) (set : set_value v ≡ Some v) where
  abbrev with_symbols : List Val → List (Spanned Val) → State
  with_symbols env symbols = record { store = record { env = env; cells = States ss ∷ Symbols symbols ∷ []; taken = taken }; calls = calls; left = left }

  pop_run : (env : List Val) → leave env 2 (run p (on_option (Apply op.Pop (read 0)) 1 (mismatch m) (pop_lines m (tag.Variant k)))
      (with_symbols (val.Plain (Cell 1) ∷ val.Plain Unset ∷ val.Plain Unset ∷ val.Plain Unset ∷ val.Plain Unset ∷ val.Plain Unset ∷ val.Plain Unset ∷ val.Plain Unset ∷ []) (l ++ (a, wrapped (tag.Variant k) v, b) ∷ [])))
      ≡ Gives (spanned_val (a, v, b)) (with_symbols env l)
  pop_run env = rw (last_there l (a, wrapped (tag.Variant k) v, b), front_there l (a, wrapped (tag.Variant k) v, b), eq-eqb k k refl, set, append-nil calls) refl

-- the function that pops a symbol of this variant, whose mismatch is any
abbrev pub pop_code : Making → ℕ → Function
pop_code m k = function 1 7 (on_option (Apply op.Pop (read 0)) 1 (mismatch m) (pop_lines m (tag.Variant k)))

abbrev pub symbol_at : Loc → ℕ → Val → Loc → Spanned Val
symbol_at a k v b = (a, wrapped (tag.Variant k) v, b)

-- a call of it is a step
pub pop_called : (p : Program) (m : Making) (f k left taken : ℕ) (calls : List UserCall) (ss : List ℤ) (l : List (Spanned Val)) (a b : Loc) (v : Val) (env : List Val) → set_value v ≡ Some v → slice_get p.functions f ≡ Some (pop_code m k) →
    run_call p f (val.Plain (Cell 1) ∷ []) (record { store = record { env = env; cells = States ss ∷ Symbols (l ++ symbol_at a k v b ∷ []) ∷ []; taken = taken }; calls = calls; left = suc left })
    ≡ Gives (spanned_val (a, v, b)) (record { store = record { env = env; cells = States ss ∷ Symbols l ∷ []; taken = taken }; calls = calls; left = left })
pop_called p m f k left taken calls ss l a b v env set there =
    ap (λ o. spend (record { store = record { env = env; cells = States ss ∷ Symbols (l ++ symbol_at a k v b ∷ []) ∷ []; taken = taken }; calls = calls; left = suc left }) (enter p o (run p) (val.Plain (Cell 1) ∷ []))) there
    ∙ pop_run p m k left taken calls ss l a b v set env
