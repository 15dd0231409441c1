-- Worked: the printed line that pops a symbol into a name.
use Rattle.std.proofs.Common.{◌≡◌, ℕ, suc, false, List, [], ◌∷◌, ◌++◌, codes, Some, refl}
use Rattle.std.specs.Prelude.{slice_get}
use Rattle.std.specs.Str.{bytes_eq}
use Rattle.lp_driver.specs.Values.{Spanned}
use Rattle.lp_repr.specs.declared.values.Loc.{Loc}
use Rattle.lp_core.specs.declared.value.Tag.TheVariants as tag
use Rattle.lp_core.specs.Datum.{Cell}
use Rattle.lp_core.specs.Val.{Val, Plain}
use Rattle.lp_core.specs.Reading.{wrapped, triple}
use Rattle.lp_core.specs.Effect.{set_value, with_cell}
use Rattle.lp_core.specs.Store.{Program, Symbols}
use Rattle.lp_core.specs.Tree.{Tree}
use Rattle.lp_view.specs.PartLists.{Form, hole_of}
use Rattle.lp_maker.specs.Making.{Making, number_in}
use Rattle.lp_bodies.specs.Lines.{Lines, numbered}
use Rattle.lp_bodies.specs.Reductions.{pop_function, pop_line, mismatch, symbols}
use Rattle.lp_maker.specs.Making.{variant_tag}
use Rattle.lp_code_laws.specs.Ends.Ends.{Moment, over, steps}
use Rattle.lp_code_laws.proofs.Ends.Rules.{argument}
use Rattle.lp_code_laws.proofs.Ends.Calls.{arguments_done}
use Rattle.lp_code_laws.proofs.Ends.Pops.{pop_fn, pop_one}
use Rattle.lp_code_laws.proofs.Ends.Tags.{slot_is}
use Rattle.lp_code_laws.specs.Slots.Shows.{Shows, HasRoom}
use Rattle.lp_code_laws.proofs.Slots.Names.{let_other, let_this}
use Rattle.lp_code_laws.specs.Printed.Ran.{Ran}
use Rattle.lp_code_laws.proofs.Printed.Lines.{read_shown, call_by_name, ran_let}

-- the printed function is the worked one
pub is_pop : (made : Making) (form : Form) → pop_function made form ≡ pop_fn (variant_tag (hole_of 0 form) made) (mismatch made)
is_pop made form = refl

module _ (p : Program) (made : Making) (line : Form) (l : Lines) (f c w room : ℕ) (other : Tree) (below : List (Spanned Val)) (a : Loc) (v : Val) (b : Loc) (start m : Moment) (k : ℕ) where
  -- `let ~symN = ~pop_V(~symbols);`
  pub pop_line_ran :
      Ran p l start k m
      → number_in (codes "pop_" ++ hole_of 1 line) made.names ≡ Some f
      → slice_get p.functions f ≡ Some (pop_fn (tag.Variant w) other)
      → Shows l.names m.store.env (codes "~symbols") (Plain (Cell c))
      → slice_get m.store.cells c ≡ Some (Symbols (below ++ (a, wrapped (tag.Variant w) v, b) ∷ []))
      → set_value v ≡ Some v
      → HasRoom (suc room) l.names m.store.env
      → Ran p (pop_line made line l) start (steps k 1) (slot_is l.names.next (triple a v b) (over (with_cell c (Symbols below) m.store) m))
  pop_line_ran ran number is shows there set rm =
      ran_let l (numbered (codes "~sym") line) room ran
      (call_by_name (codes "pop_" ++ hole_of 1 line) (symbols l.names ∷ []) made f number (argument (read_shown shows refl) (arguments_done (pop_one p f c w other is m below a v b there set))))
      rm

  -- afterwards the new name shows the triple, and each other name what it showed
  pub new_shown : HasRoom 1 l.names m.store.env → Shows (pop_line made line l).names (slot_is l.names.next (triple a v b) (over (with_cell c (Symbols below) m.store) m)).store.env (numbered (codes "~sym") line) (triple a v b)
  new_shown rm = let_this (numbered (codes "~sym") line) l.names m.store.env (triple a v b) rm

  pub other_shown : (key : List ℕ) (u : Val) → bytes_eq (numbered (codes "~sym") line) key ≡ false → Shows l.names m.store.env key u → Shows (pop_line made line l).names (slot_is l.names.next (triple a v b) (over (with_cell c (Symbols below) m.store) m)).store.env key u
  other_shown key u differs h = let_other (numbered (codes "~sym") line) (triple a v b) differs h
