-- One more line.
use Rattle.std.proofs.Common.{◌≡◌, ℕ, suc, List, [], ◌∷◌, Some, sym, ap, subst}
use Rattle.lp_core.specs.Datum.{Unset}
use Rattle.lp_core.specs.Val.{Val, Plain}
use Rattle.lp_core.specs.Effect.{set_value, unit}
use Rattle.lp_core.specs.Store.{Program}
use Rattle.lp_core.specs.Tree.{Tree, trees_of}
use Rattle.lp_core.specs.declared.expr.Target.TheVariants as target
use Rattle.lp_maker.specs.Slots.{Names}
use Rattle.lp_maker.specs.Constructs.{called}
use Rattle.lp_maker.specs.Making.{Making, read_name, call_named, number_in}
use Rattle.lp_bodies.specs.Lines.{Lines, lines_of, with_part, with_let}
use Rattle.lp_code_laws.specs.Ends.Ends.{Moment, steps, Eval, Arguments, Outcome, Giving, EndsIn}
use Rattle.lp_code_laws.proofs.Ends.Rules.{block_end, call}
use Rattle.lp_code_laws.proofs.Ends.Blocks.{append, sequence_one}
use Rattle.lp_code_laws.proofs.Ends.Values.{read, write}
use Rattle.lp_code_laws.proofs.Ends.Tags.{slot_is}
use Rattle.lp_code_laws.specs.Slots.Shows.{Shows, HasRoom}
use Rattle.lp_code_laws.proofs.Slots.Names.{reads}
use Rattle.lp_code_laws.proofs.Slots.Slots.{next_slot}
use Rattle.lp_code_laws.specs.Printed.Ran.{Ran}

module _ {p : Program} where
  -- what a name shows is read
  pub read_shown : {names : Names} {m : Moment} {key : List ℕ} {v : Val} → Shows names m.store.env key v → set_value v ≡ Some v → EndsIn p (Eval (read_name names key)) m 0 (Giving v m)
  read_shown {m = m} {v = v} h set = subst (λ e. EndsIn p (Eval e) m 0 (Giving v m)) (sym (reads h)) (read h.held set)

  -- a function is called by its name
  pub call_by_name : (name : List ℕ) (args : List Tree) (made : Making) (f : ℕ) {m : Moment} {k : ℕ} {o : Outcome} → number_in name made.names ≡ Some f → EndsIn p (Arguments (target.Function f) (trees_of args) []) m k o → EndsIn p (Eval (call_named name args made)) m k o
  call_by_name name args made f {m} {k} {o} is h = subst (λ e. EndsIn p (Eval e) m k o) (sym (ap (called args) is)) (call h)

  -- no line
  pub no_lines : (names : Names) (m : Moment) → Ran p (lines_of names []) m 0 m
  no_lines names m = record { value = Plain Unset; ends = block_end }

  -- a line, and one that lets a name be a value
  pub ran_part : (l : Lines) {e : Tree} {start m n : Moment} {k j : ℕ} {w : Val} → Ran p l start k m → EndsIn p (Eval e) m j (Giving w n) → Ran p (with_part e l) start (steps k j) n
  ran_part l {e} {w = w} r h = record { value = w; ends = append l.parts (e ∷ []) r.ends (sequence_one h) }

  pub ran_let : (l : Lines) (name : List ℕ) (room : ℕ) {e : Tree} {start m n : Moment} {k j : ℕ} {w : Val} → Ran p l start k m → EndsIn p (Eval e) m j (Giving w n) → HasRoom (suc room) l.names n.store.env → Ran p (with_let name e l) start (steps k j) (slot_is l.names.next w n)
  ran_let l name room {e} {w = w} r h rm = record { value = unit; ends = append l.parts (_ ∷ []) r.ends (sequence_one (write h (next_slot rm).1)) }
