use Rattle.std.proofs.Common.{◌≡◌, ◌-◌, ◌+◌, ℤ, [], ◌∷◌, ◌++◌, true, arith, rules, drop, length, ap, sym, ◌∙◌, subst}
use Rattle.lp_spelling.specs.TableReading.{entries}
use Rattle.lp_spelling.proofs.Tables.{SoFar, so_far_start, so_far_entry, so_far_line, so_far_skip, so_far_ends, so_far_wrong, so_far_over, Reached, reached_start, reached_entry, reached_line, reached_skip, reached_wrong, reached_end, reached_over}
use Rattle.std.proofs.lemmas.Int.{to_z-of_z}
use mir.Syntax.{w32}
use mir.Val.{SFits}
use Rattle.lp_spelling.proofs.rows.read_entries.Goals as goal
use Rattle.lp_spelling.proofs.rows.read_entries.Goals.{in-Entry+in_ok-push-in-Entry, in-Line, in-Skip}

pub loop-i-init : goal.loop-i-init
loop-i-init c =
    let text = c.args.text.now in
    let from = c.args.from in
    let start = subst (λ ns. SoFar text (length text - from) from true ns (entries (drop from text))) (sym c.new-numbers.ensures.items) (so_far_start text from c.requires) in
    let same : length text - from ≡ length text - from - 0 = omega arith in
    record {
      so_far = subst (λ n. SoFar text n from true c.new-numbers.result.items (entries (drop from text))) same start;
      reached = subst (λ n. Reached text from n from true) same (reached_start text from c.requires.0);
    }

pub row_step-requires : goal.row_step-requires
row_step-requires c = c.loop-i.invariant.so_far.at_in

pub loop-i-preserved : goal.loop-i-preserved
loop-i-preserved c =
    let text = c.args.text.now in
    let m = length text - c.args.from - c.loop-i._i in
    let n = length text - c.args.from - (c.loop-i._i + 1) in
    let less : m ≡ n + 1 = omega arith in
    let numbers = c.loop-i.numbers.items in
    elim c.match-row_step.branch [
      | in-Entry+in_ok-push-in-Entry w ↦
          let z = w.in-Entry.number in
          let fits : SFits w32 z = search rules in
          let pushed = w.in_ok-push-in-Entry.ensures.items ∙ ap (λ (y : ℤ). numbers ++ y ∷ []) (to_z-of_z w32 z fits) in
          rw (w.numbers-is, w.at-is, w.at_front-is)
          (record {
            so_far = so_far_entry text m n c.loop-i.at w.in-Entry.next c.loop-i.at_front numbers _ z _ c.loop-i.invariant.so_far less w.in-Entry.ensures.0 w.in-Entry.ensures.1 pushed;
            reached = reached_entry text c.args.from m n c.loop-i.at w.in-Entry.next c.loop-i.at_front z c.loop-i.invariant.reached less w.in-Entry.ensures.0 w.in-Entry.ensures.1;
          })
      | in-Line w ↦
          rw (w.numbers-is, w.at-is, w.at_front-is)
          (record {
            so_far = so_far_line text m n c.loop-i.at w.in-Line.next c.loop-i.at_front numbers _ c.loop-i.invariant.so_far less w.in-Line.ensures.0 w.in-Line.ensures.1;
            reached = reached_line text c.args.from m n c.loop-i.at w.in-Line.next c.loop-i.at_front c.loop-i.invariant.reached less w.in-Line.ensures.0 w.in-Line.ensures.1;
          })
      | in-Skip w ↦
          rw (w.numbers-is, w.at-is, w.at_front-is)
          (record {
            so_far = so_far_skip text m n c.loop-i.at w.in-Skip.next c.loop-i.at_front numbers _ c.loop-i.invariant.so_far less w.in-Skip.ensures.0 w.in-Skip.ensures.1;
            reached = reached_skip text c.args.from m n c.loop-i.at w.in-Skip.next c.loop-i.at_front c.loop-i.invariant.reached less w.in-Skip.ensures.0 w.in-Skip.ensures.1;
          })
    ]

pub returns-in-End : goal.returns-in-End
returns-in-End c =
    let text = c.args.text.now in
    let m = length text - c.args.from - c.loop-i._i in
    let n = length text - c.args.from - (c.loop-i._i + 1) in
    record {
      exact = so_far_ends text (drop c.args.from text) m n c.loop-i.at c.loop-i.at_front c.loop-i.numbers.items c.loop-i.invariant.so_far (omega arith) c.in-End.ensures;
      end = c.loop-i.invariant.so_far.at_in;
      broken = reached_end text c.args.from m c.loop-i.at c.loop-i.at_front c.loop-i.invariant.reached c.in-End.ensures;
    }

pub returns-in-Wrong : goal.returns-in-Wrong
returns-in-Wrong c =
    let text = c.args.text.now in
    let m = length text - c.args.from - c.loop-i._i in
    let n = length text - c.args.from - (c.loop-i._i + 1) in
    record {
      exact = so_far_wrong text (drop c.args.from text) (drop c.loop-i.at text) m n c.loop-i.at c.loop-i.at_front c.loop-i.numbers.items c.loop-i.invariant.so_far (omega arith) c.in-Wrong.ensures;
      end = c.loop-i.invariant.so_far.at_in;
      broken = reached_wrong text c.args.from m c.loop-i.at c.loop-i.at_front c.loop-i.invariant.reached c.in-Wrong.ensures;
    }

pub returns : goal.returns
returns c =
    let text = c.args.text.now in
    let m = length text - c.args.from - c.loop-i._i in
    record {
      exact = so_far_over text (drop c.args.from text) (drop c.loop-i.at text) m c.loop-i.at c.loop-i.at_front c.loop-i.numbers.items c.loop-i.invariant.so_far (omega arith);
      end = c.loop-i.invariant.so_far.at_in;
      broken = reached_over text c.args.from m c.loop-i.at c.loop-i.at_front c.loop-i.invariant.reached (omega arith);
    }
