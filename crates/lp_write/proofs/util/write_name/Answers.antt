use Rattle.std.proofs.Common.{◌≡◌, ℕ, List, [], ◌∷◌, map, sym, ap, ◌∙◌, refl}
use Rattle.std.proofs.Output.{has_written_of_eq}
use Rattle.std.proofs.lemmas.Iterator.{YieldsList-from_chars}
use Rattle.std.proofs.lemmas.Iterator.Consumers.{YieldsList-end}
use Rattle.std.specs.List.{flat_map}
use Rattle.std.specs.Str.{chars}
use Rattle.lp_write.specs.Texts.{name_character}
use Rattle.lp_write.proofs.util.write_name.Goals as goal

same_items : (cs : List ℕ) → map (λ c. c) cs ≡ cs
same_items [] = refl
same_items (c ∷ cs) = ap (λ (l : List ℕ). c ∷ l) (same_items cs)

pub returns : goal.returns
returns g c =
    let t = YieldsList-end (YieldsList-from_chars c.args.text.now c.utf8.text cc) c.loop-c.yielded _ c.loop-c.yielded_by _ _ c.in-None.is c.next.ensures.steps in
    let all : c.loop-c.yielded ≡ chars c.args.text.now = sym (same_items c.loop-c.yielded) ∙ t.0 in
    λ p ok. has_written_of_eq _ _ _ _ _ (ap (λ (cs : List ℕ). flat_map name_character cs) all) (c.loop-c.invariant p)
