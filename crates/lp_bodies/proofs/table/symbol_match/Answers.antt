use Rattle.std.proofs.Common.{◌≡◌, ℕ, List, Bor, map, ap, ◌∙◌}
use Rattle.std.proofs.lemmas.Result.{IfOk-weaker}
use Rattle.lp_core.specs.Tree.{Tree}
use Rattle.lp_view.specs.Elements.{patterns}
use Rattle.lp_view.specs.PartLists.{listed, hole_of}
use Rattle.lp_maker.specs.Making.{making, with_variant, variant_tag}
use Rattle.lp_maker.specs.Patterns.{captures_of}
use Rattle.lp_bodies.specs.Arms.{gathered, no_arms}
use Rattle.lp_bodies.specs.Reductions.{done_of}
use Rattle.lp_bodies.specs.Tables.{choice_at, reading_of, pattern_arms}
use Rattle.lp_bodies.proofs.Branches.{arms_by, match_by}
use Rattle.lp_bodies.proofs.table.symbol_match.Goals as goal

pub returns : goal.returns
returns c =
    let m = making c.args.maker.now in
    let names = c.args.scope.now in
    let row = listed c.args.row in
    let token = c.taken-token.result in
    let slot = c.in_ok-slot.slot in
    let after = c.fresh.new.self in
    let made = making c.pattern_arms.new.maker in
    let found = gathered c.in_ok-arms.arms in
    let arms : reading_of found made ≡ pattern_arms (variant_tag (hole_of 2 row) m) names.next (captures_of (hole_of 3 row)) (reading_of no_arms (with_variant (hole_of 2 row) m)) (patterns (hole_of 1 row)) =
    c.in_ok-arms.ensures
    ∙ arms_by c.in_ok-variant.variant _ slot _ (map (λ (x : Bor (List ℕ)). x.now) c.as_slice.result.now) _ (making c.variant.new.self) _ (patterns c.hole-3.result.now) _
    (c.in_ok-variant.ensures.tag ∙ ap (λ (t : List ℕ). variant_tag t m) c.hole.ensures)
    c.in_ok-slot.ensures.slot
    (ap (map (λ (x : Bor (List ℕ)). x.now)) c.as_slice.ensures.value ∙ c.in_ok-names.ensures ∙ ap captures_of c.hole-2.ensures)
    (c.in_ok-variant.ensures.made ∙ ap (λ (t : List ℕ). with_variant t m) c.hole.ensures)
    (ap patterns c.hole-3.ensures) in
    IfOk-weaker c.choice_at.result (λ v. v ≡ choice_at token slot c.stuck.result found) _
    (λ v e.
    ap (λ (x : Tree). done_of x after made) (e ∙ ap (λ (x : Tree). choice_at token slot x found) c.stuck.ensures)
    ∙ match_by token _ slot _ after _ (reading_of found made) _ c.taken-token.ensures c.in_ok-slot.ensures.slot c.in_ok-slot.ensures.names arms)
    c.choice_at.ensures
