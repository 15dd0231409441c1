use Rattle.std.proofs.Common.{◌<◌, ◌^◌, All, Err, OnOk, Ok, Result, length, subst}
use Rattle.std.specs.Map.Iter.{deref}
use Rattle.std.proofs.lemmas.List.Elements.{All-map}
use Rattle.lp_repr.specs.declared.repr.TokenPattern.{TokenPattern}
use Rattle.lp_emit.proofs.counted.see_patterns.Goals as goal

on_ok : {X E : Type 0} (A B : Type 0) (r : Result X E) → (A → B) → OnOk r A → OnOk r B
on_ok A B (Ok x) f a = f a
on_ok A B (Err e) f a = a

pub returns : goal.returns
returns c =
    let few : TokenPattern → Type 0 = λ p. length p.holes < 2 ^ 63 in
    let referred = c.in_ok-patterns.patterns.items in
    on_ok _ _ c.see_holes.result
    (λ (all : All (λ p. few p.now) c.as_slice.result.now). subst (All few) c.in_ok-patterns.ensures (All-map few deref referred (subst (All (λ p. few p.now)) c.as_slice.ensures.value all)))
    c.see_holes.ensures
