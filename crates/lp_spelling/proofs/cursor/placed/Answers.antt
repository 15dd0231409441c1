use Rattle.lp_spelling.proofs.cursor.placed.Goals as goal

pub invariant_of-result : goal.invariant_of-result
invariant_of-result c = record {
  raw_in = c.requires.raw;
  raw_ended = c.requires.ended;
  start_in = c.settle-start.ensures.start_in;
  start_is = c.settle-start.ensures.start;
  start_ended = c.settle-start.ensures.before;
  line_is = c.line_from.ensures;
}
