-- The turns of a driver over a definition by tables make the machine's moves.
use Rattle.std.proofs.Common.{◌≡◌, ℕ, zero, suc, pos, List, [], ◌∷◌, drop, Option, Some, None, refl, sym, ap, ◌∙◌, subst}
use Rattle.lp_repr.specs.declared.values.RunItem.{RunItem}
use Rattle.lp_repr.specs.declared.values.Loc.TheVariants.{Default}
use Rattle.lp_driver.specs.Values.{Value}
use Rattle.lp_driver.specs.DriverState.{Driver, Mode, Parsing, Reducing, Trying, Simulating, Next, Goes_on, Ends, Halted, with_mode}
use Rattle.lp_driver.specs.Turns.{turn_in, turn, goes_on, turns, run}
use Rattle.lp_driver.specs.Turns as driver
use Rattle.lp_machine.specs.declared.config.Left.TheVariants.{Pulls}
use Rattle.lp_machine.specs.declared.config.Config.{Config}
use Rattle.lp_machine.specs.declared.by_tables.TableDefinition.{TableDefinition}
use Rattle.lp_machine.specs.Tables.{Tables}
use Rattle.lp_machine.specs.Moves.{first}
use Rattle.lp_machine.specs.RunEnds.{ended}
use Rattle.lp_machine.specs.TableAnswers.{tables_in, with_steps, table_answers}
use Rattle.lp_machine.specs.DriverStanding.{stands_in, stands, ComesTo, TurnsMove}
use Rattle.lp_machine.proofs.MoreMoves.{Leads}
use Rattle.lp_machine.proofs.KeptCalls.{ready_keeps}
use Rattle.lp_machine.proofs.TurnsMove.{EndsIn, Fits, Follows, Goes, Comes, Stops, before, asked}
use Rattle.lp_machine.proofs.ParsingMoves.{parsing_goes}
use Rattle.lp_machine.proofs.RecoveryMoves.{reducing_goes, trying_goes, simulating_goes}

module _ (items : List RunItem) where
  turn_goes : (w : Driver Value) (taken : ℕ) → w.items ≡ drop taken items → w.begin ≡ Default → (d : TableDefinition) (mode : Mode) → EndsIn mode w.items
      → Follows (tables_in d) items (stands_in (tables_in d) items w d.calls taken mode) (turn_in table_answers (with_mode w mode) mode d)
  turn_goes w taken rest begin d (Parsing l) ends = parsing_goes items w taken rest begin l d
  turn_goes w taken rest begin d (Reducing r) ends = reducing_goes items w taken rest begin r ends d
  turn_goes w taken rest begin d (Trying r places) ends = trying_goes items w taken rest begin r ends d places
  turn_goes w taken rest begin d (Simulating r place stack) ends = simulating_goes items w taken rest begin r ends d place stack

  turns_after : (n : ℕ) (more : (w : Driver Value) (d : TableDefinition) (taken : ℕ) → Fits items w taken → Follows (tables_in d) items (stands (tables_in d) items w d.calls taken) (turns table_answers n w d))
      → (t : Tables) (c : Config) (next : Next Value TableDefinition) → Follows t items c next → Follows t items c (goes_on table_answers next (turns table_answers n))
  turns_after n more t c _ (Goes w d taken same fits leads) =
      before t items c _ _ leads (subst (λ x. Follows x items (stands x items w d.calls taken) (turns table_answers n w d)) same (more w d taken fits))
  turns_after n more t c _ (Comes e d end leads so calls) = Comes e d end leads so calls
  turns_after n more t c _ (Stops why d end leads calls) = Stops why d end leads calls

  turns_go : (n : ℕ) (w : Driver Value) (d : TableDefinition) (taken : ℕ) → Fits items w taken → Follows (tables_in d) items (stands (tables_in d) items w d.calls taken) (turns table_answers n w d)
  turns_go zero w d taken fits = Goes w d taken refl fits (0, refl)
  turns_go (suc n) w d taken fits =
      turns_after n (turns_go n) (tables_in d) (stands (tables_in d) items w d.calls taken) (turn table_answers w d) (turn_goes w taken fits.rest fits.begin d w.mode fits.ends)

  run_goes : (n : ℕ) (d : TableDefinition) → d.calls ≡ [] → Follows (tables_in d) items (first (tables_in d) items) (run table_answers n items d)
  run_goes n d none =
      let t = tables_in d in
      let w : Driver Value = driver.first table_answers items Default (pos 0) in
      let e : stands t items w d.calls 0 ≡ first t items = ap (λ calls. stands t items w calls 0) none in
      let same : (first t items).calls ≡ d.calls = ready_keeps t items (record { states = 0 ∷ []; triples = []; lookahead = None; mending = None; taken = 0; last = Default; calls = []; left = Pulls }) ∙ sym none in
      asked t items _ d.left d _ _ same (λ k. asked t items _ k (with_steps d k) _ _ same (λ j.
      subst (λ c. Follows t items c (turns table_answers n w (with_steps (with_steps d k) j))) e
      (turns_go n w (with_steps (with_steps d k) j) 0 (record { rest = refl; ends = tt; begin = refl }))))

  comes : (t : Tables) (next : Next Value TableDefinition) → Follows t items (first t items) next → ComesTo t items next
  comes t _ (Goes w d taken same fits leads) = (leads.0, (taken, leads.1))
  comes t _ (Comes e d end leads so calls) = (leads.0, ap (λ (c : Config). ended c.left) leads.1 ∙ so, ap (λ (c : Config). c.calls) leads.1 ∙ calls)
  comes t _ (Stops why d end leads calls) = (leads.0, ap (λ (c : Config). c.calls) leads.1 ∙ calls)

pub turns_move : TurnsMove
turns_move items d n none = comes items (tables_in d) (run table_answers n items d) (run_goes items n d none)
