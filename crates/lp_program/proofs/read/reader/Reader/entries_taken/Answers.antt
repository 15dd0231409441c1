use Rattle.std.proofs.Common.{Some, arith, refl, ap, sym, ◌∙◌, rules}
use Rattle.lp_spelling.specs.Cursors.{left}
use Rattle.lp_program.proofs.BrokenBegun.{broken_begun}
use Rattle.lp_program.proofs.Growing.{grows_table}
use Rattle.lp_program.proofs.Nearby.{no_table_like, table_like}
use Rattle.lp_program.proofs.TableBegun.{table_begun}
use Rattle.lp_program.proofs.read.reader.Reader.entries_taken.Goals as goal

pub returns-in-Whole : goal.returns-in-Whole
returns-in-Whole c =
    let taken = rw c.in-Whole.is at c.in_ok-taken.ensures in
    record {
      takes = λ count pieces. record {
        grows = grows_table c.args.self.now.prefix.now c.args.growing.now _ refl refl refl (search rules);
        takes = λ content m. taken.1 ∙ ap (λ n. Some (n, left c.in-Whole.place)) (sym (m.numbers refl));
      };
      tells = λ n le far text like.
          let x = table_like n c.args.self.now.cursor c.in-Whole.place text _ taken.0 taken.1 far like in
          (x.0, record { first = search rules; reads = x.1; new_is = refl }, x.2);
      begun = λ count pieces. table_begun c.args.self.now.prefix.now c.args.growing.now count pieces _ c.args.self.now.cursor c.in-Whole.place _ taken.0 taken.1 (record { first = search rules; reads = taken.1; new_is = refl });
    }

pub returns-in-Broken-clause-tells : goal.returns-in-Broken-clause-tells
returns-in-Broken-clause-tells c = λ n le far text like new rest t.
    let taken = rw c.in-Broken.is at c.in_ok-taken.ensures in
    let none = no_table_like n c.in-Broken.place c.args.self.now.cursor text taken.1 (omega (arith, c.line_from.ensures, far)) like in
    let read = t.reads in
    cc

pub returns-in-Broken-clause-begun : goal.returns-in-Broken-clause-begun
returns-in-Broken-clause-begun c = λ count pieces.
    let taken = rw c.in-Broken.is at c.in_ok-taken.ensures in
    broken_begun c.args.self.now.prefix.now c.args.growing.now count c.in-Broken.place _ pieces c.args.self.now.cursor (search rules) c.line_from.ensures taken.1
