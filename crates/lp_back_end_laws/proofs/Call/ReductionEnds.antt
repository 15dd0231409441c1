-- How a reduction's arm ends: with its value as the result, or with its error.
use Rattle.std.proofs.Common.{◌≡◌, ℕ, ◌≤◌, Bool, false, List, codes, Result, Ok, Err, ◌∙◌, arith}
use Rattle.std.specs.Str.{bytes_eq}
use Rattle.lp_repr.specs.declared.values.Loc.{Loc}
use Rattle.lp_driver.specs.Values.{Value, Failure}
use Rattle.lp_core.specs.declared.value.Tag.TheVariants as tag
use Rattle.lp_core.specs.Datum.{Failed}
use Rattle.lp_core.specs.Reading.{wrapped}
use Rattle.lp_core.specs.Store.{Program, Held, UserCall}
use Rattle.lp_core.specs.Tree.{Tree}
use Rattle.lp_core.specs.Val.{Val, Plain}
use Rattle.lp_bodies.specs.Lines.{Lines}
use Rattle.lp_code_laws.specs.Ends.Ends.{Moment, moment, Eval, Returning, EndsIn}
use Rattle.lp_code_laws.specs.Slots.Shows.{Shows, Keeps}
use Rattle.lp_back_end_laws.proofs.Call.Places.{Stands}
use Rattle.lp_back_end_laws.proofs.Call.ReduceArms.{answered}

-- in so many steps at most the result is written, over these cells and after these calls; slots below a number hold the same
pub record ValueEnds (p : Program) (body : Tree) (m : Moment) (most next made : ℕ) (returning : Bool) (cells : List Held) (later : List UserCall) (inner : Val) : Type 0 where
  pub env : List Val
  pub count : ℕ
  pub few : count ≤ most
  pub keeps : Keeps next m.store.env env
  pub ends : EndsIn p (Eval body) m count (answered returning made inner (moment (record { env = env; cells = cells; taken = m.store.taken }) later))

-- or an error is returned after these calls
pub record ErrorEnds (p : Program) (body : Tree) (m : Moment) (most : ℕ) (later : List UserCall) (e : Failure) : Type 0 where
  pub after : Moment
  pub count : ℕ
  pub few : count ≤ most
  pub calls : after.calls ≡ later
  pub ends : EndsIn p (Eval body) m count (Returning (wrapped tag.Failure (Plain (Failed e))) after)

-- by what the action's result is
pub record ArmEnds (p : Program) (body : Tree) (m : Moment) (most next made : ℕ) (returning : Bool) (cells : List Held) (later : List UserCall) (inner : Value → Val) (result : Result Value Failure) : Type 0 where
  pub gives : (v : Value) → result ≡ Ok v → ValueEnds p body m most next made returning cells later (inner v)
  pub fails : (e : Failure) → result ≡ Err e → ErrorEnds p body m most later e

-- behind the lines of a place other names show what they showed
pub placed_shown : {p : Program} {start m : Moment} {k used : ℕ} {from to : Loc} {l after : Lines} (s : Stands p start m k used from to l after) (q : List ℕ) (v : Val) → bytes_eq (codes "~start") q ≡ false → bytes_eq (codes "~end") q ≡ false → Shows l.names m.store.env q v → Shows after.names s.env q v
placed_shown s q v start end h = record { slot = h.slot; is = s.known q start end ∙ h.is; below = omega (arith, h.below, s.next); held = s.keeps.same h.slot h.below ∙ h.held }
