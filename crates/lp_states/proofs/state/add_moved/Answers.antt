use Rattle.std.proofs.Common.{◌+◌, None, sym}
use Rattle.lp_states.specs.Actions.{symbol_cmp}
use Rattle.lp_states.proofs.MovedKernels.{IsKernelOf, kernel_of_none, kernel_of_some, some_at, items_of, same_tokens}
use Rattle.lp_states.proofs.Puts.{put_again}
use Rattle.lp_states.proofs.state.add_moved.Goals as goal
use Rattle.lp_states.proofs.state.add_moved.Goals.{in-None, in-Some}

pub returns : goal.returns
returns c =
    let found = c.args.found.now in
    let x = c.args.symbol in
    let kernel = c.match-remove.kernel in
    let of : IsKernelOf found x kernel = elim c.match-remove.branch [ in-None w ↦ kernel_of_none found x kernel (sym w.in-None.ensures.value) (rw w.kernel-is w.new-kernel.ensures.empty) | in-Some w ↦ rw w.kernel-is (kernel_of_some found x w.in-Some.kernel (sym w.in-Some.ensures.value)) ] in
    record {
      ordered = c.insert-2.ensures.ordered;
      kernel = c.insert.new.self;
      kernel_ordered = c.insert.ensures.ordered;
      put = put_again symbol_cmp found c.remove.new.self c.insert-2.new.self x c.insert.new.self None c.remove.ensures.updates.0 c.in_ok-insert-2.ensures.updates.0;
      items = items_of found x kernel c.insert.new.self c.args.item.0 c.in_ok-dot.dot c.args.item.1 c.in_ok-clone.field-0 c.args.lookaheads.now of c.in_ok-insert.ensures.updates.0 (some_at c.checked_add.result _ (c.args.item.1 + 1) c.in_ok-dot.dot c.in_ok-dot.ensures.ok_part c.checked_add.ensures) (same_tokens c.in_ok-clone.field-0 c.args.lookaheads.now c.in_ok-clone.ensures.cases.0 c.in_ok-clone.ensures.cases.1);
    }
