use Rattle.std.proofs.Common.{◌≡◌, ◌+◌, ◌<◌, ◌^◌, ◌≤◌, ℕ, [], ◌∷◌, ◌++◌, suc, refl, ap, ◌∙◌, inl, inr, take, get_or, length, length-take, arith}
use Rattle.std.proofs.Math.Seq.{take-suc}
use Rattle.std.proofs.lemmas.Bool.Decides.{eqb_tells}
use Rattle.lp_reading.proofs.Runs.{no_run, run_goes_on, run_ends, run_fits}
use Rattle.lp_reading.proofs.prefix.longest_run.Goals as goal

pub loop-byte-init : goal.loop-byte-init
loop-byte-init c = no_run [] refl

pub loop-byte-preserved : goal.loop-byte-preserved
loop-byte-preserved c =
    let at : ℕ = c.loop-byte.byte-index in
    let byte : ℕ = get_or c.args.text.now at 0 in
    let below : at < length c.args.text.now = c.loop-byte-test.true in
    let more : take (at + 1) c.args.text.now ≡ take at c.args.text.now ++ byte ∷ [] = let e : at + 1 ≡ suc at = omega arith in ap (λ n. take n c.args.text.now) e ∙ take-suc c.args.text.now at 0 below in
    let fits : c.loop-byte.run ≤ at = omega (arith, run_fits _ _ _ c.loop-byte.invariant, length-take at c.args.text.now) in
    let small : c.loop-byte.run + 1 < 2 ^ 64 = omega arith in
    elim (eqb_tells byte 95) [
      | inl h ↦ let one : c.run_after-run.result ≡ suc c.loop-byte.run = omega (arith, c.run_after-run.ensures.goes_on h.1 small) in run_goes_on _ _ byte _ _ _ _ c.loop-byte.invariant more h.1 one c.max-longest.ensures
      | inr h ↦ run_ends _ _ byte _ _ _ _ c.loop-byte.invariant more h.1 (c.run_after-run.ensures.ends h.1) c.max-longest.ensures
    ]
