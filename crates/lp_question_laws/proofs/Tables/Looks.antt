-- A look into a printed table: one step, after which the entry of a state is given.
use Rattle.std.proofs.Common.{◌≡◌, ℕ, suc, ◌+◌, ◌*◌, ◌<◌, ◌^◌, ℤ, pos, [], ◌∷◌, Option, Some, refl, ap, ◌∙◌, arith}
use Rattle.std.specs.Prelude.{slice_get}
use Rattle.std.specs.Option.{option_map, option_and_then}
use Rattle.lp_core.specs.declared.expr.Function.{Function}
use Rattle.lp_core.specs.declared.expr.Leaf.TheVariants as leaf
use Rattle.lp_core.specs.declared.expr.Op.TheVariants as op
use Rattle.lp_core.specs.declared.expr.Table.{Table}
use Rattle.lp_core.specs.declared.value.StateType.{StateType}
use Rattle.lp_core.specs.Numbers.{number, index, fitting, typed}
use Rattle.lp_core.specs.OpMeaning.{entry, entry_in}
use Rattle.lp_core.specs.Reading.{index_of}
use Rattle.lp_core.specs.Store.{Program}
use Rattle.lp_core.specs.Tree.{Tree, Plain, Apply}
use Rattle.lp_core.specs.Val.{Val}
use Rattle.lp_core.specs.Effect.{set_value}
use Rattle.lp_core.specs.declared.expr.Join.TheVariants as join
use Rattle.lp_maker.specs.Constructs as constructs
use Rattle.lp_maker.specs.Constructs.{called, joined}
use Rattle.lp_bodies.specs.Actions.{takes}
use Rattle.lp_bodies.specs.Source.{function}
use Rattle.lp_code_laws.specs.Ends.Ends.{Moment, Enter, Giving, EndsIn}
use Rattle.lp_code_laws.proofs.Ends.Calls.{enter, arguments_done, joined_found}
use Rattle.lp_code_laws.proofs.Ends.Numbers.{product_fits, sum_fits}
use Rattle.lp_code_laws.proofs.Ends.Rules.{apply_found, argument, call, plain}
use Rattle.lp_code_laws.proofs.Ends.Values.{read, take}

-- `~EOF_ACTION[state as usize]`
abbrev pub entry_code : ℕ → Function
entry_code table = function 1 0 (Apply (op.Entry table) (Apply op.AsIndex (Plain (leaf.Take 0))))

-- an entry of a table of the program
pub entry_found : (p : Program) (n i : ℕ) (table : Table) (kind : StateType) (e : ℤ) → slice_get p.tables n ≡ Some table → table.entry_type ≡ Some kind → slice_get table.entries.items i ≡ Some e → fitting kind e ≡ Some e → entry p n (index i) ≡ Some (number kind e)
entry_found p n i table kind e there typed_so at fits =
    ap (λ (o : Option Table). option_and_then (λ (t : Table). option_and_then (entry_in t) (index_of (index i))) o) there
    ∙ ap (λ (o : Option ℤ). option_and_then (λ (x : ℤ). option_and_then (λ (k : StateType). typed k x) table.entry_type) o) at
    ∙ ap (λ (o : Option StateType). option_and_then (λ (k : StateType). typed k e) o) typed_so
    ∙ ap (option_map (number kind)) fits

pub looked_up : (p : Program) (f n q : ℕ) (kind : StateType) (m : Moment) (v : Val) → slice_get p.functions f ≡ Some (entry_code n) → entry p n (index q) ≡ Some v → EndsIn p (Enter f (number kind (pos q) ∷ [])) m 1 (Giving v m)
looked_up p f n q kind m v is there =
    enter is refl (apply_found _ (apply_found _ (take refl refl) refl refl) refl there) refl

-- `~ACTION[(state as usize) * n + integer]`, and without `* n` for one terminal
abbrev pub many_row : Option ℕ → Tree
many_row n = joined join.Multiply (Apply op.AsIndex (constructs.read 0) ∷ constructs.index n ∷ [])

abbrev pub one_row : Tree
one_row = Apply op.AsIndex (constructs.read 0)

abbrev pub look_code : ℕ → Tree → Function
look_code table row = function 2 0 (Apply (op.Entry table) (joined join.Add (row ∷ constructs.read 1 ∷ [])))

module _ (p : Program) (f k q i : ℕ) (kind : StateType) (m : Moment) (v : Val) where
  pub many_looked : (n : ℕ) → slice_get p.functions f ≡ Some (look_code k (many_row (Some n))) → q * n + i < 2 ^ 64 → entry p k (index (q * n + i)) ≡ Some v → EndsIn p (Enter f (number kind (pos q) ∷ index i ∷ [])) m 1 (Giving v m)
  many_looked n is small there =
      enter is refl (apply_found _ (call (argument (call (argument (apply_found _ (read refl refl) refl refl) (argument (plain refl) (joined_found _ refl refl (product_fits q n (omega arith)))))) (argument (read refl refl) (joined_found _ refl refl (sum_fits (q * n) i small))))) refl there) refl

  pub one_looked : slice_get p.functions f ≡ Some (look_code k one_row) → q + i < 2 ^ 64 → entry p k (index (q + i)) ≡ Some v → EndsIn p (Enter f (number kind (pos q) ∷ index i ∷ [])) m 1 (Giving v m)
  one_looked is small there =
      enter is refl (apply_found _ (call (argument (apply_found _ (read refl refl) refl refl) (argument (read refl refl) (joined_found _ refl refl (sum_fits q i small))))) refl there) refl

-- a method that hands two arguments on
pub handed_on : (p : Program) (f k j : ℕ) (a b v : Val) (m : Moment) → slice_get p.functions f ≡ Some (function 2 0 (called (takes 2) (Some k))) → set_value a ≡ Some a → set_value b ≡ Some b
    → ((n : Moment) → EndsIn p (Enter k (a ∷ b ∷ [])) n j (Giving v n)) → EndsIn p (Enter f (a ∷ b ∷ [])) m (suc j) (Giving v m)
handed_on p f k j a b v m is set_a set_b h = enter is refl (call (argument (take refl set_a) (argument (take refl set_b) (arguments_done (h _))))) refl

-- a method that hands one argument on with a number
pub handed_with : (p : Program) (f k j i : ℕ) (a v : Val) (m : Moment) → slice_get p.functions f ≡ Some (function 1 0 (called (constructs.take_slot 0 ∷ constructs.index (Some i) ∷ []) (Some k))) → set_value a ≡ Some a
    → ((n : Moment) → EndsIn p (Enter k (a ∷ index i ∷ [])) n j (Giving v n)) → EndsIn p (Enter f (a ∷ [])) m (suc j) (Giving v m)
handed_with p f k j i a v m is set_a h = enter is refl (call (argument (take refl set_a) (argument (plain refl) (arguments_done (h _))))) refl
