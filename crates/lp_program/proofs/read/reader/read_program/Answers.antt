use Rattle.std.proofs.Common.{◌≡◌, List, ℕ, min, true, refl, ap, sym, ◌∙◌, rules, subst}
use Rattle.std.proofs.lemmas.Bool.{OnTrue_at}
use Rattle.lp_program.specs.Prefixes.{ShowsPrefix}
use Rattle.lp_program.specs.Reads.{is_prefix}
use Rattle.lp_program.specs.declared.read.reader.Reader.{Reader}
use Rattle.lp_spelling.specs.LineNumbers.{past_last}
use Rattle.lp_program.proofs.Adding.{program_read}
use Rattle.lp_program.proofs.Bounds.{begun_within, refused_within}
use Rattle.lp_program.proofs.Nearby.{like_first}
use Rattle.lp_program.proofs.Prefixes.{shows_counted}
use Rattle.lp_program.proofs.ProgramBegun.{no_prefix_fits, no_prefix_utf8, prefix_told, program_begun}
use Rattle.lp_program.proofs.Whole.{none_shown, program_chosen, program_refused, read_none}
use Rattle.lp_program.proofs.read.reader.read_program.Goals as goal

pub returns-clause-reads : goal.returns-clause-reads
returns-clause-reads c =
    let fits = rw c.in-Some.is at c.prefix_of-shown.ensures.fits in
    let got = rw c.in-Some.is at c.unwrap_or.ensures in
    let prefix : c.new-3.result ≡ c.in-Some.prefix.now = search rules in
    program_read c.args.text.now _ _ _ (OnTrue_at c.if-not-branch.false c.in_ok-read_whole.ensures.reads) c.new-2.ensures.items c.new.ensures.rest (prefix ∙ sym (ap (λ p. p.now) got)) refl
    (subst (λ p. is_prefix p ≡ true) (sym prefix) fits)

pub returns-clause-chosen : goal.returns-clause-chosen
returns-clause-chosen c =
    let text = c.args.text.now in
    let shows = rw c.in-Some.is at c.prefix_of-shown.ensures.exact in
    let got = rw c.in-Some.is at c.unwrap_or.ensures in
    let prefix : c.new-3.result ≡ c.in-Some.prefix.now = search rules in
    let old : Reader = record { alloc = c.args.alloc; prefix = c.unwrap_or.result; cursor = c.new.result; looked = 0; entries = c.new-2.result } in
    program_chosen text old _ c.read_whole.new.self _ c.if-not-branch.false c.in_ok-read_whole.ensures.chosen c.new-2.ensures.items
    (λ n. like_first n c.new.result text text c.new.ensures.text c.new.ensures.rest c.utf8.text c.prefix_of-shown.ensures.size (shows_counted c.in-Some.prefix.now text c.prefix_of-shown.ensures.size shows) c.utf8.text refl)
    (prefix ∙ sym (ap (λ p. p.now) got)) refl (subst (λ (p : List ℕ). ShowsPrefix p text) (sym prefix) shows)

pub returns-then-not-branch-clause-refused : goal.returns-then-not-branch-clause-refused
returns-then-not-branch-clause-refused c =
    let text = c.args.text.now in
    let old : Reader = record { alloc = c.args.alloc; prefix = c.unwrap_or.result; cursor = c.new.result; looked = 0; entries = c.new-2.result } in
    let at = c.misfit_line-line.ensures.line ∙ ap (λ t. min c.read_whole.new.self.looked (past_last t)) c.new.ensures.text in
    refused_within text c.read_whole.new.self.looked c.misfit_line-line.result c.prefix_of-shown.ensures.size at
    (program_refused text old c.read_whole.new.self c.prefix_of-shown.result _ refl c.utf8.text c.prefix_of-shown.ensures.size c.prefix_of-shown.ensures.exact c.unwrap_or.ensures
    (read_none old _ c.read_whole.new.self c.if-not-branch.true c.in_ok-read_whole.ensures.chosen) c.new.ensures.text c.new.ensures.rest)

pub returns-in_default-clause-refused : goal.returns-in_default-clause-refused
returns-in_default-clause-refused c =
    let text = c.args.text.now in
    let old : Reader = record { alloc = c.args.alloc; prefix = c.unwrap_or.result; cursor = c.new.result; looked = 0; entries = c.new-2.result } in
    let at = c.misfit_line-line-in_default.ensures.line ∙ ap (λ t. min c.read_whole.new.self.looked (past_last t)) c.new.ensures.text in
    refused_within text c.read_whole.new.self.looked c.misfit_line-line-in_default.result c.prefix_of-shown.ensures.size at
    (none_shown text old _ c.read_whole.new.self c.prefix_of-shown.result _ refl no_prefix_fits c.utf8.text c.prefix_of-shown.ensures.size c.prefix_of-shown.ensures.exact c.in_default.is c.unwrap_or.ensures
    c.if-not-branch.false c.in_ok-read_whole.ensures.chosen c.new.ensures.text c.new.ensures.rest)

-- what the lines begin that were looked at
pub returns-then-not-branch-clause-begun : goal.returns-then-not-branch-clause-begun
returns-then-not-branch-clause-begun c =
    let text = c.args.text.now in
    let old : Reader = record { alloc = c.args.alloc; prefix = c.unwrap_or.result; cursor = c.new.result; looked = 0; entries = c.new-2.result } in
    let prefix = prefix_told text _ _ c.unwrap_or.result c.unwrap_or.ensures c.utf8.text c.prefix_of-shown.ensures.fits c.prefix_of-shown.ensures.exact no_prefix_utf8 no_prefix_fits in
    let at = c.misfit_line-line.ensures.line ∙ ap (λ t. min c.read_whole.new.self.looked (past_last t)) c.new.ensures.text in
    begun_within text c.read_whole.new.self.looked c.misfit_line-line.result c.misfit_line-line.ensures.small at
    (program_begun text old c.read_whole.new.self c.utf8.text c.prefix_of-shown.ensures.size c.new.ensures.text c.new.ensures.rest refl c.in_ok-read_whole.ensures.begun prefix.0 prefix.1)

pub returns-in_default-clause-begun : goal.returns-in_default-clause-begun
returns-in_default-clause-begun c =
    let text = c.args.text.now in
    let old : Reader = record { alloc = c.args.alloc; prefix = c.unwrap_or.result; cursor = c.new.result; looked = 0; entries = c.new-2.result } in
    let prefix = prefix_told text _ _ c.unwrap_or.result c.unwrap_or.ensures c.utf8.text c.prefix_of-shown.ensures.fits c.prefix_of-shown.ensures.exact no_prefix_utf8 no_prefix_fits in
    let at = c.misfit_line-line-in_default.ensures.line ∙ ap (λ t. min c.read_whole.new.self.looked (past_last t)) c.new.ensures.text in
    begun_within text c.read_whole.new.self.looked c.misfit_line-line-in_default.result c.misfit_line-line-in_default.ensures.small at
    (program_begun text old c.read_whole.new.self c.utf8.text c.prefix_of-shown.ensures.size c.new.ensures.text c.new.ensures.rest refl c.in_ok-read_whole.ensures.begun prefix.0 prefix.1)
