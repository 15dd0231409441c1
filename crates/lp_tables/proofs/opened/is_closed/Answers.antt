use Rattle.std.proofs.Common.{◌↔◌, ◌∙◌, length, subst, IsTrue}
use Rattle.lp_tables.specs.Opening.{FollowsKernel, AreOpened, BeginsOpened}
use Rattle.lp_tables.specs.Walk.{IsFresh, Marks}
use Rattle.lp_tables.proofs.Closures.{closed_by_marks}
use Rattle.lp_tables.proofs.Walks.{opened_from_marks}
use Rattle.lp_tables.proofs.opened.is_closed.Goals as goal

pub returns : goal.returns
returns c =
    let rules = c.args.rules.now.all.items in
    let firsts = c.args.rules.now.firsts in
    let s = c.args.state.now in
    let marks = c.in_ok-marks.marks.items in
    let fresh : IsFresh (length firsts.items) c.in_ok-opened.opened = subst (λ n. IsFresh n c.in_ok-opened.opened) (c.len.ensures ∙ firsts.ok.0) c.in_ok-opened.ensures in
    let told : IsTrue c.begins_opened.result ↔ BeginsOpened rules marks s.items = subst (λ xs. IsTrue c.begins_opened.result ↔ BeginsOpened rules marks xs) c.as_slice-items.ensures (subst (λ ms. IsTrue c.begins_opened.result ↔ BeginsOpened rules ms c.as_slice-items.result.now) c.as_slice.ensures.value c.begins_opened.ensures) in
    let step : Marks c.in_ok-opened.opened c.open_kernel.new.self (FollowsKernel rules s.items) = subst (λ xs. Marks c.in_ok-opened.opened c.open_kernel.new.self (FollowsKernel rules xs)) c.as_slice-items.ensures c.in_ok-open_kernel.ensures.marks in
    let opened : AreOpened rules (FollowsKernel rules s.items) marks = opened_from_marks rules firsts.items (FollowsKernel rules s.items) c.in_ok-opened.opened c.open_kernel.new.self marks c.requires.index fresh step c.in_ok-marks.ensures in
    closed_by_marks rules s marks c.begins_opened.result opened told
