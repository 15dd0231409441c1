use Rattle.std.proofs.Common.{◌≡◌, ◌++◌, ◌-◌, arith, codes, drop, length, ap, sym, ◌∙◌, subst}
use Rattle.std.specs.Str.{IsUtf8, IsCharBoundary}
use Rattle.std.proofs.lemmas.Str.{IsUtf8-drop, IsCharBoundary-from_drop}
use Rattle.lp_program.proofs.Taking.{behind_front}
use Rattle.lp_program.proofs.read.taking.use_start.Goals as goal

-- what `strip_prefix` says at `use `: what it took off, with its length, and the text behind it
pub returns : goal.returns
returns c =
    let text = c.text-text.result.now in
    let start = c.start-start.result in
    let off = c.in-Some.ensures.cases in
    let front : c.split_at.result.1.now ≡ codes "use " ++ c.in-Some.behind.now = off.1.1 ∙ ap (λ x. codes "use " ++ x) (sym off.2) in
    let there = behind_front text c.split_at.result.1.now c.in-Some.behind.now (codes "use ") start (omega (arith, c.start-start.ensures.start_in.0, ap length c.text-text.ensures)) c.split_at.ensures.back front in
    let cut = subst (λ t. IsCharBoundary t start) (sym c.text-text.ensures) c.start-start.ensures.start_in in
    let rest_text = subst IsUtf8 (sym c.split_at.ensures.back) (IsUtf8-drop text start c.text-text.utf8 cut) in
    let behind_text = IsUtf8-drop c.split_at.result.1.now (length (codes "use ")) rest_text off.1.2 in
    let behind_is = off.2 ∙ ap (λ n. drop n c.split_at.result.1.now) off.1.0 in
    record {
      start = sym c.start-start.ensures.start ∙ ap (λ t. drop start t) (sym c.text-text.ensures) ∙ sym c.split_at.ensures.back ∙ front ∙ ap (λ x. codes "use " ++ x) (sym there ∙ ap (λ t. drop (length text - length c.in-Some.behind.now) t) c.text-text.ensures);
      start_in = subst (λ t. IsCharBoundary t (length text - length c.in-Some.behind.now)) c.text-text.ensures (IsCharBoundary-from_drop text (length text - length c.in-Some.behind.now) (omega arith) (subst IsUtf8 (sym (there ∙ behind_is)) behind_text));
      none = tt;
    }
