use Rattle.std.proofs.lemmas.Bool.{false≢true}
use Rattle.lp_tok.proofs.CutSteps.{last_left, no_last_left, stops_breaks, stops_unclosed}
use Rattle.lp_tok.proofs.cut.stops_at_last.Goals as goal

pub returns-in-Some : goal.returns-in-Some
returns-in-Some c =
    let last = last_left _ _ _ _ c.in-Some.ensures.value c.in-Stops.ensures.0 in
    (λ done. last.0 (c.is_done.ensures.0 done), λ stops. c.is_done.ensures.1 (last.1 stops))

pub returns-in-None : goal.returns-in-None
returns-in-None c = (λ never. absurd (false≢true never), λ stops. absurd (no_last_left _ _ _ c.in-None.ensures.value c.in-Stops.ensures.0 stops))

pub returns-in-Broken : goal.returns-in-Broken
returns-in-Broken c = (λ never. absurd (false≢true never), λ stops. absurd (stops_breaks _ _ _ _ stops c.in-Broken.ensures.0))

pub returns-in-Unclosed : goal.returns-in-Unclosed
returns-in-Unclosed c = (λ never. absurd (false≢true never), λ stops. absurd (stops_unclosed _ _ stops c.in-Unclosed.ensures))
