use Rattle.std.proofs.Common.{◌≡◌, ◌+◌, ℕ, List, Option, Some, None, slice_get, BTreeMap, Bor, refl, sym, ◌∙◌, ap, subst, cond, arith}
use Rattle.std.proofs.lemmas.Option.{slice_get_read}
use Rattle.std.proofs.lemmas.Map.Text.{btree_map_updates_str}
use Rattle.std.proofs.lemmas.Slice.Eq.{bytes_eq-Decides}
use Rattle.std.specs.Str.{bytes_eq}
use Rattle.lp_emit.proofs.Firsts.{IsFirstBelow, IsLeastBelow, found, first_known, first_new, least_new, least_known, least_all}
use Rattle.lp_emit.proofs.clash.least_repeat.Goals.{in-Some, in-None+in_ok-insert-in-None}
use Rattle.lp_emit.proofs.clash.least_repeat.Goals as goal

pub loop-place-init : goal.loop-place-init
loop-place-init c = (λ q. rw c.new-firsts.ensures.empty (λ k below. absurd (omega arith)), λ i j below. absurd (omega arith))

pub loop-place-preserved : goal.loop-place-preserved
loop-place-preserved c =
    let texts = c.args.texts.now in
    let n = c.loop-place.place in
    let t = c.as_str-text.result.now in
    let old = c.loop-place.firsts in
    let at : slice_get texts n ≡ Some t = slice_get_read texts _ n c.index-texts-place.result refl c.loop-place-test.true c.index-texts-place.is ∙ ap Some (sym c.as_str-text.ensures) in
    elim c.match-get.branch [
      | in-Some w ↦
          let f = w.in-Some.first.now in
          let known : Some f ≡ found old t = w.in-Some.ensures.value in
          let first : IsFirstBelow texts n t (Some f) = subst (λ (o : Option ℕ). IsFirstBelow texts n t o) (sym known) (c.loop-place.invariant.0 t) in (
            λ q. subst (λ (m : BTreeMap (Bor (List ℕ)) ℕ). IsFirstBelow texts (n + 1) q (found m q)) (sym w.firsts-is) (first_known texts n t q f (found old q) at (λ same. ap (λ (s : List ℕ). found old s) (sym same) ∙ sym known) (c.loop-place.invariant.0 q)),
            subst (λ (o : Option (ℕ × ℕ)). IsLeastBelow texts (n + 1) o) (ap Some (sym w.lesser.ensures) ∙ sym w.least-is) (least_known texts n t f c.loop-place.least c.loop-place-test.true at first c.loop-place.invariant.1),
          )
      | in-None+in_ok-insert-in-None w ↦
          let known : None ≡ found old t = w.in-None.ensures.value in
          let first : IsFirstBelow texts n t None = subst (λ (o : Option ℕ). IsFirstBelow texts n t o) (sym known) (c.loop-place.invariant.0 t) in (
            λ q.
                let updated : found w.insert.new.self q ≡ cond (bytes_eq t q) (Some n) (found old q) = btree_map_updates_str t old w.insert.new.self (Some n) w.in_ok-insert-in-None.ensures.updates q in
                subst
                (λ (m : BTreeMap (Bor (List ℕ)) ℕ). IsFirstBelow texts (n + 1) q (found m q))
                (sym w.firsts-is)
                (subst (λ (o : Option ℕ). IsFirstBelow texts (n + 1) q o) (sym updated) (first_new texts n t q (bytes_eq t q) (found old q) at (bytes_eq-Decides t q) first (c.loop-place.invariant.0 q))),
            subst (λ (o : Option (ℕ × ℕ)). IsLeastBelow texts (n + 1) o) (sym w.least-is) (least_new texts n t c.loop-place.least at first c.loop-place.invariant.1),
          )
    ]

pub returns : goal.returns
returns c = least_all c.args.texts.now c.loop-place.place c.loop-place.least c.loop-place-test.false c.loop-place.invariant.1
