-- What is left to do, as a function on how the expression in hand ends.
use Rattle.std.specs.Prelude.{ℕ, List, [], ◌∷◌, ◌++◌}
use Rattle.lp_core.specs.declared.machine.Frame.{Frame}
use Rattle.lp_core.specs.declared.machine.Frame.TheVariants as f
use Rattle.lp_core.specs.declared.machine.Step.{Step}
use Rattle.lp_core.specs.declared.machine.Step.TheVariants as s
use Rattle.lp_core.specs.declared.machine.Pause.{Pause}
use Rattle.lp_core.specs.declared.machine.Pause.TheVariants as q
use Rattle.lp_core.specs.declared.machine.Now.{Now}
use Rattle.lp_core.specs.declared.machine.Now.TheVariants as n
use Rattle.lp_core.specs.declared.world.World.{World}
use Rattle.lp_core.specs.declared.world.Done.{Done}
use Rattle.lp_core.specs.Tree.{Loop, trees_of}
use Rattle.lp_core.specs.Reading.{truth_of}
use Rattle.lp_core.specs.Store.{Program, store_of, calls_of}
use Rattle.lp_core.specs.Effect.{effect}
use Rattle.lp_core.specs.CaseMeaning.{chosen}
use Rattle.lp_core.specs.Flow.{State, Flow, flow, then_value, choose, with_body, leave}
use Rattle.lp_core.specs.Eval.{apply, count, run, run_args, run_block, run_at, run_call}

-- the world, with so many steps left
abbrev pub state_of : World → ℕ → State
state_of w left = record { store = store_of w; calls = calls_of w; left = left }

abbrev pub done_flow : Done → State → Flow
done_flow d st = flow st (effect d st.store)

module _ (p : Program) where
  abbrev pub frame_flow : Frame → Flow → Flow
  frame_flow (f.Apply op) fl = then_value fl (apply p op.now)
  frame_flow (f.Sequence es) fl = then_value fl (run_block p (trees_of es.now))
  frame_flow (f.Choose a b) fl = then_value fl (λ v st. choose (truth_of v) (run p a.now) (run p b.now) st)
  frame_flow (f.Select x cases bodies) fl =
      then_value fl (λ v st. with_body x v (run_at p (trees_of bodies.now)) (chosen p cases.now (count (trees_of bodies.now)) v) st)
  frame_flow (f.Argument g vs args) fl = then_value fl (λ v st. run_args p g.now (trees_of args.now) (vs.items ++ v ∷ []) st)
  frame_flow (f.Turn e) fl = then_value fl (λ v. run p (Loop e.now))
  frame_flow (f.Leave env cells) fl = leave env.items cells fl

  -- the first frame is the outermost
  abbrev pub rest : List Frame → Flow → Flow
  rest [] fl = fl
  rest (fr ∷ frs) fl = frame_flow fr (rest frs fl)

  abbrev pub step_flow : Step → State → Flow
  step_flow (s.Enter g vs) st = run_call p g vs.items st
  step_flow (s.Again e) st = run p (Loop e.now) st

  abbrev pub now_flow : Now → State → Flow
  now_flow (n.Eval e) st = run p e.now st
  now_flow (n.Arguments g vs args) st = run_args p g.now (trees_of args.now) vs.items st
  now_flow (n.Sequence es v) st = run_block p (trees_of es.now) v st
  now_flow (n.Ended d) st = done_flow d st
  now_flow (n.Make step) st = step_flow step st

  -- where a run pauses
  abbrev pub pause_flow : List Frame → Pause → State → Flow
  pause_flow frs (q.Over d) st = done_flow d st
  pause_flow frs (q.Wants step) st = rest frs (step_flow step st)
