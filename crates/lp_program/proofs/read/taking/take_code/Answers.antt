use Rattle.std.proofs.Common.{◌≡◌, List, ℕ, drop, codes, eqb, arith, refl, ap, sym, ◌∙◌, subst}
use Rattle.std.specs.List.{starts_with}
use Rattle.std.specs.Str.{IsCharBoundary, IsUtf8, chars}
use Rattle.std.proofs.lemmas.Bool.{false≢true}
use Rattle.std.proofs.lemmas.Str.{IsUtf8-drop}
use Rattle.std.proofs.lemmas.Str.Pattern.{starts_text}
use Rattle.lp_spelling.specs.Cursors.{left}
use Rattle.lp_program.proofs.Cuts.{code_end, code_from, code_stops}
use Rattle.lp_program.proofs.Taking.{code_taken}
use Rattle.lp_program.proofs.read.taking.take_code.Goals as goal

pub cut_end-requires : goal.cut_end-requires
cut_end-requires c = rw (sym c.text-text.ensures) at c.raw-from.ensures.raw_in

pub split_at-requires : goal.split_at-requires
split_at-requires c = c.in-Some.ensures.boundary

pub at-requires : goal.at-requires
at-requires c = rw c.text-text.ensures at c.in-Some.ensures.boundary

-- the cut has no end, or another
pub returns-in_default-clause-exact : goal.returns-in_default-clause-exact
returns-in_default-clause-exact c = λ code rest u x.
    let text = c.text-text.result.now in
    let from = c.raw-from.result in
    let there : left c.args.cursor ≡ drop from text = rw (c.text-text.ensures, c.raw-from.ensures.raw) refl in
    c.in_default.ensures (chars rest) (code_stops text (left c.args.cursor) code rest from there x)

pub returns-then-not-starts_with-clause-exact : goal.returns-then-not-starts_with-clause-exact
returns-then-not-starts_with-clause-exact c = λ code rest u x.
    let text = c.text-text.result.now in
    let from = c.raw-from.result in
    let there : left c.args.cursor ≡ drop from text = rw (c.text-text.ensures, c.raw-from.ensures.raw) refl in
    let behind = code_end text (left c.args.cursor) code rest from c.in-Some.end c.text-text.utf8 there c.in-Some.ensures u x in
    let begins = sym (starts_text c.starts_with.result (codes "}") c.split_at.result.1.now c.starts_with.ensures.cases) ∙ c.if-not-starts_with.true in
    false≢true (sym begins ∙ ap (λ (t : List ℕ). starts_with eqb t (codes "}")) (c.split_at.ensures.back ∙ behind) ∙ x.closes)

pub returns-in_default-get-clause-exact : goal.returns-in_default-get-clause-exact
returns-in_default-get-clause-exact c = λ code rest u x.
    let text = c.text-text.result.now in
    let from = c.raw-from.result in
    let there : left c.args.cursor ≡ drop from text = rw (c.text-text.ensures, c.raw-from.ensures.raw) refl in
    let cut = subst (λ t. IsCharBoundary t from) (sym c.text-text.ensures) c.raw-from.ensures.raw_in in
    let le = code_from text (left c.args.cursor) code rest from c.in-Some.end c.text-text.utf8 there cut c.in-Some.ensures u x in
    c.in_default-get.ensures.cases le cut c.in-Some.ensures.boundary

pub returns : goal.returns
returns c =
    let text = c.text-text.result.now in
    let from = c.raw-from.result in
    let end = c.in-Some.end in
    let begins = sym (starts_text c.starts_with.result (codes "}") c.split_at.result.1.now c.starts_with.ensures.cases) ∙ c.if-not-starts_with.false in
    let behind = ap (λ (t : List ℕ). starts_with eqb t (codes "}")) (sym c.split_at.ensures.back) ∙ begins in
    let got = c.in-Some-get.ensures.cases in
    let next = c.at.ensures.rest ∙ ap (λ t. drop end t) (sym c.text-text.ensures) in
    let code = code_taken text _ c.in-Some-get.whole.now _ _ from end (rw (c.text-text.ensures, c.raw-from.ensures.raw) refl) c.in-Some.ensures (omega (arith, got.1)) got.0
    next behind c.without_feed.ensures in
    record { takes = (c.at.ensures.text, code); exact = (code, subst IsUtf8 (sym next) (IsUtf8-drop text end c.text-text.utf8 c.in-Some.ensures.boundary)) }
