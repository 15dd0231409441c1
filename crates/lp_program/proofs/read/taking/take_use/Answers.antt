use Rattle.std.proofs.Common.{ℕ, ◌+◌, List, ◌++◌, drop, codes, eqb, arith, ap, sym, ◌∙◌, subst}
use Rattle.std.specs.List.{starts_with}
use Rattle.std.specs.Str.{IsCharBoundary, IsUtf8, chars}
use Rattle.std.proofs.lemmas.Bool.{false≢true}
use Rattle.std.proofs.lemmas.Str.{IsUtf8-drop}
use Rattle.std.proofs.lemmas.Str.Pattern.{starts_text}
use Rattle.lp_spelling.proofs.Reading.{starts_again, starts_ok}
use Rattle.lp_spelling.specs.Cursors.{left}
use Rattle.lp_program.specs.CodeReading.{StartsUse}
use Rattle.lp_program.proofs.Cuts.{use_end, use_from, use_stops}
use Rattle.lp_program.proofs.Taking.{byte_there, byte_cut, use_taken}
use Rattle.lp_program.proofs.read.taking.take_use.Goals as goal

pub cut_end-requires : goal.cut_end-requires
cut_end-requires c = rw (sym c.text-text.ensures) at c.in-Some.ensures.start_in

pub split_at-requires : goal.split_at-requires
split_at-requires c = c.in-Some-cut_end.ensures.boundary

pub at-requires : goal.at-requires
at-requires c =
    let text = c.text-text.result.now in
    let end = c.in-Some-cut_end.end in
    let begins = sym (starts_text c.starts_with.result (codes ";") c.split_at.result.1.now c.starts_with.ensures.cases) ∙ c.if-not-starts_with.false in
    let there = sym c.split_at.ensures.back ∙ starts_ok (codes ";") c.split_at.result.1.now begins in
    rw c.text-text.ensures at (byte_cut text _ 59 end c.text-text.utf8 (omega arith) there)

-- behind the end of the cut stands `;`
pub split_at-requires-2 : goal.split_at-requires-2
split_at-requires-2 c =
    let text = c.text-text.result.now in
    let end = c.in-Some-cut_end.end in
    let begins = sym (starts_text c.starts_with.result (codes ";") c.split_at.result.1.now c.starts_with.ensures.cases) ∙ c.if-not-starts_with.false in
    let there = sym c.split_at.ensures.back ∙ starts_ok (codes ";") c.split_at.result.1.now begins in
    byte_cut text _ 59 end c.text-text.utf8 (omega arith) there

-- the cut has no end, or another
pub returns-in_default-cut_end-clause-exact : goal.returns-in_default-cut_end-clause-exact
returns-in_default-cut_end-clause-exact c = λ used rest u x.
    let text = c.text-text.result.now in
    let from = c.in-Some.from in
    let starts = subst (λ t. StartsUse (left c.args.cursor) (drop from t)) (sym c.text-text.ensures) c.in-Some.ensures.start in
    c.in_default-cut_end.ensures (chars (codes ";" ++ rest)) (use_stops text (left c.args.cursor) used rest from starts x)

pub returns-then-not-starts_with-clause-exact : goal.returns-then-not-starts_with-clause-exact
returns-then-not-starts_with-clause-exact c = λ used rest u x.
    let text = c.text-text.result.now in
    let from = c.in-Some.from in
    let end = c.in-Some-cut_end.end in
    let starts = subst (λ t. StartsUse (left c.args.cursor) (drop from t)) (sym c.text-text.ensures) c.in-Some.ensures.start in
    let there = use_end text (left c.args.cursor) used rest from end c.text-text.utf8 starts c.in-Some-cut_end.ensures u x in
    let begins = sym (starts_text c.starts_with.result (codes ";") c.split_at.result.1.now c.starts_with.ensures.cases) ∙ c.if-not-starts_with.true in
    false≢true (sym begins ∙ ap (λ (t : List ℕ). starts_with eqb t (codes ";")) (c.split_at.ensures.back ∙ there) ∙ starts_again (codes ";") rest)

-- more stands on its line
pub returns-then-not-ends_there-clause-exact : goal.returns-then-not-ends_there-clause-exact
returns-then-not-ends_there-clause-exact c = λ used rest u x.
    let text = c.text-text.result.now in
    let from = c.in-Some.from in
    let end = c.in-Some-cut_end.end in
    let starts = subst (λ t. StartsUse (left c.args.cursor) (drop from t)) (sym c.text-text.ensures) c.in-Some.ensures.start in
    let there = use_end text (left c.args.cursor) used rest from end c.text-text.utf8 starts c.in-Some-cut_end.ensures u x in
    let b = byte_there text rest 59 end there in
    let goes_on = rw (c.as_bytes.ensures.value, c.split_at-2.ensures.back, b.1) at (sym c.ends_there.ensures ∙ c.if-not-ends_there.true) in
    false≢true (sym goes_on ∙ x.ends)

pub returns-in_default-get-clause-exact : goal.returns-in_default-get-clause-exact
returns-in_default-get-clause-exact c = λ used rest u x.
    let text = c.text-text.result.now in
    let from = c.in-Some.from in
    let end = c.in-Some-cut_end.end in
    let starts = subst (λ t. StartsUse (left c.args.cursor) (drop from t)) (sym c.text-text.ensures) c.in-Some.ensures.start in
    let cut = subst (λ t. IsCharBoundary t from) (sym c.text-text.ensures) c.in-Some.ensures.start_in in
    let le = use_from text (left c.args.cursor) used rest from end c.text-text.utf8 starts cut c.in-Some-cut_end.ensures u x in
    c.in_default-get.ensures.cases le cut c.in-Some-cut_end.ensures.boundary

pub returns : goal.returns
returns c =
    let text = c.text-text.result.now in
    let from = c.in-Some.from in
    let end = c.in-Some-cut_end.end in
    let begins = sym (starts_text c.starts_with.result (codes ";") c.split_at.result.1.now c.starts_with.ensures.cases) ∙ c.if-not-starts_with.false in
    let there = sym c.split_at.ensures.back ∙ starts_ok (codes ";") c.split_at.result.1.now begins in
    let b = byte_there text _ 59 end there in
    let got = c.in-Some-get.ensures.cases in
    let starts = subst (λ t. StartsUse (left c.args.cursor) (drop from t)) (sym c.text-text.ensures) c.in-Some.ensures.start in
    let next = c.at.ensures.rest ∙ ap (λ t. drop (end + 1) t) (sym c.text-text.ensures) in
    let used = use_taken text _ c.in-Some-get.used.now _ _ from end starts c.in-Some-cut_end.ensures (omega (arith, got.1))
    got.0 there (next ∙ b.1) (rw (c.as_bytes.ensures.value, c.split_at-2.ensures.back, b.1) at (sym c.ends_there.ensures ∙ c.if-not-ends_there.false)) in
    record {
      takes = (c.at.ensures.text, used);
      exact = (used, subst IsUtf8 (sym next) (IsUtf8-drop text (end + 1) c.text-text.utf8 (byte_cut text _ 59 end c.text-text.utf8 (omega arith) there)));
    }
