use Rattle.std.proofs.Common.{◌≡◌, map, take, sym, ap, ◌∙◌, subst, rules}
use Rattle.std.specs.Str.{IsUtf8}
use Rattle.std.proofs.lemmas.Bool.{both_ways}
use Rattle.lp_form.specs.Templates.{piece}
use Rattle.std.proofs.lemmas.Str.{IsUtf8-take}
use Rattle.lp_spelling.specs.HoleEnds.{hole_len}
use Rattle.lp_spelling.specs.LineReading.{kind_of}
use Rattle.lp_spelling.specs.Fillings.{Fits}
use Rattle.lp_spelling.proofs.Reading.{new_refused, new_taken, cut_wrong}
use Rattle.lp_spelling.proofs.line.take_new.Goals as goal

-- the length of the hole, by the kinds of the scope: `hole_len`'s clause at the kind that `kind_of` gives
pub returns-then-not-is_char_boundary-clause-exact : goal.returns-then-not-is_char_boundary-clause-exact
returns-then-not-is_char_boundary-clause-exact c =
    let prefix = c.args.scope.prefix.now in
    let text = c.args.text.now in
    let n = c.hole_len-n.result in
    let parts = map piece c.args.parts.now in
    let known = c.args.known.now.items in
    let len = c.hole_len-n.ensures.value ∙ ap (λ k. hole_len prefix k c.args.k parts c.as_slice.result.now text) c.kind_of-kind.ensures
    ∙ ap (λ ks. hole_len prefix (kind_of c.args.scope.kinds.now c.args.k) c.args.k parts ks text) c.as_slice.ensures.value in
    new_refused prefix c.args.scope.kinds.now c.args.k n parts known known text (c.requires ∙ c.args.known.now.ok.0) len
    (cut_wrong prefix (kind_of c.args.scope.kinds.now c.args.k) text n c.utf8.text c.hole_len-n.ensures.bound (λ b. both_ways c.is_char_boundary.result c.if-not-is_char_boundary.true (c.is_char_boundary.ensures.test.1 b)))

pub returns-then-not-branch-clause-exact : goal.returns-then-not-branch-clause-exact
returns-then-not-branch-clause-exact c =
    let prefix = c.args.scope.prefix.now in
    let text = c.args.text.now in
    let n = c.hole_len-n.result in
    let parts = map piece c.args.parts.now in
    let known = c.args.known.now.items in
    let len = c.hole_len-n.ensures.value ∙ ap (λ k. hole_len prefix k c.args.k parts c.as_slice.result.now text) c.kind_of-kind.ensures
    ∙ ap (λ ks. hole_len prefix (kind_of c.args.scope.kinds.now c.args.k) c.args.k parts ks text) c.as_slice.ensures.value in
    let front : c.split_at.result.0.now ≡ take n text = c.split_at.ensures.front in
    new_refused prefix c.args.scope.kinds.now c.args.k n parts known known text (c.requires ∙ c.args.known.now.ok.0) len
    (λ f. both_ways c.in_ok-may_fill.field-0 c.if-not-branch.true
    (c.in_ok-may_fill.ensures.1 (subst (λ x. Fits prefix c.kind_of-kind.result x) (sym front) (subst (λ k. Fits prefix k (take n text)) (sym c.kind_of-kind.ensures) f.1))))

pub returns-clause-exact : goal.returns-clause-exact
returns-clause-exact c =
    let prefix = c.args.scope.prefix.now in
    let text = c.args.text.now in
    let n = c.hole_len-n.result in
    let parts = map piece c.args.parts.now in
    let known = c.args.known.now.items in
    let len = c.hole_len-n.ensures.value ∙ ap (λ k. hole_len prefix k c.args.k parts c.as_slice.result.now text) c.kind_of-kind.ensures
    ∙ ap (λ ks. hole_len prefix (kind_of c.args.scope.kinds.now c.args.k) c.args.k parts ks text) c.as_slice.ensures.value in
    let fits = subst (λ k. Fits prefix k c.split_at.result.0.now) c.kind_of-kind.ensures (c.in_ok-may_fill.ensures.0 c.if-not-branch.false) in
    new_taken prefix c.args.scope.kinds.now c.args.k n parts known _ text c.split_at.result.0.now c.split_at.result.1 (c.requires ∙ c.args.known.now.ok.0) len
    c.split_at.ensures.front c.split_at.ensures.back (search rules) (subst IsUtf8 (sym c.split_at.ensures.front) (IsUtf8-take text n c.utf8.text (c.is_char_boundary.ensures.test.0 c.if-not-is_char_boundary.false)), fits)
