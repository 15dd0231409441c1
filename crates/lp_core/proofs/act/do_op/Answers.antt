use Rattle.std.proofs.Common.{◌≡◌, subst, IfOk}
use Rattle.lp_core.specs.Store.{program_of, store_of}
use Rattle.lp_core.specs.Effect.{Effect, effect}
use Rattle.lp_core.proofs.Ops.{Another, of_cell}
use Rattle.lp_core.proofs.act.do_op.Goals as goal

pub returns-in_default-clause-does : goal.returns-in_default-clause-does
returns-in_default-clause-does c =
    let n = c.in_default in
    let a : Another c.args.op.now = record {
      no_write = n.not-Write;
      no_part = n.not-Part;
      no_parts = n.not-Parts;
      no_wrap = n.not-Wrap;
      no_as_index = n.not-AsIndex;
      no_successor = n.not-Successor;
      no_predecessor = n.not-Predecessor;
      no_negate = n.not-Negate;
      no_is_zero = n.not-IsZero;
      no_is_positive = n.not-IsPositive;
      no_entry = n.not-Entry;
      no_return = n.not-Return;
      no_user_error = n.not-UserError;
      no_extra_token = n.not-ExtraToken;
      no_payload = n.not-Payload;
      no_assert = n.not-Assert;
      no_new_cell = n.not-NewCell;
      no_copy_states = n.not-CopyStates;
    } in
    let e = of_cell (program_of c.args.setting.now) c.args.v (store_of c.args.world.now) c.args.op.now a in
    let P : Effect → Type 0 = λ x. IfOk c.change_cell.result (λ d. effect d (store_of c.change_cell.new.world) ≡ x) in
    subst P e c.change_cell.ensures.does
