use Rattle.std.proofs.Common.{◌≡◌, ℕ, List, [], ◌∷◌, ◌++◌, map, sym, ap, ◌∙◌, refl, rules}
use Rattle.std.proofs.lemmas.List.{append-nil}
use Rattle.std.proofs.Output.{has_written_append, has_written_of_eq}
use Rattle.std.proofs.lemmas.Iterator.{YieldsList-from_chars}
use Rattle.std.proofs.lemmas.Iterator.Consumers.{YieldsList-end}
use Rattle.std.proofs.lemmas.List.Concat.{flat_map-append}
use Rattle.std.specs.List.{flat_map}
use Rattle.std.specs.Str.{chars}
use Rattle.lp_repr.specs.Escapes.{escaped_character}
use Rattle.lp_repr.proofs.escaped.write_escaped.Goals as goal

-- one more character
escaped_push : (cs : List ℕ) (c : ℕ) → (34 ∷ flat_map escaped_character cs) ++ escaped_character c ≡ 34 ∷ flat_map escaped_character (cs ++ c ∷ [])
escaped_push cs c = ap (λ (l : List ℕ). 34 ∷ l) (sym (flat_map-append escaped_character cs (c ∷ []) ∙ ap (λ (l : List ℕ). flat_map escaped_character cs ++ l) (append-nil (escaped_character c))))

same_items : (cs : List ℕ) → map (λ c. c) cs ≡ cs
same_items [] = refl
same_items (c ∷ cs) = ap (λ (l : List ℕ). c ∷ l) (same_items cs)

pub loop-c-preserved : goal.loop-c-preserved
loop-c-preserved g c =
    λ p. has_written_of_eq _ _ _ _ _ (escaped_push c.loop-c.yielded c.in-Some.c) (has_written_append _ _ _ _ _ _ (c.loop-c.invariant p) (c.in_ok-escape.ensures (c.loop-c.invariant p).plain (search rules)))

pub returns : goal.returns
unfolding lib.Utf8.encode
returns g c =
    let t = YieldsList-end (YieldsList-from_chars c.args.text.now c.utf8.text cc) c.loop-c.yielded _ c.loop-c.yielded_by _ _ c.in-None.is c.next.ensures.steps in
    let all : c.loop-c.yielded ≡ chars c.args.text.now = sym (same_items c.loop-c.yielded) ∙ t.0 in
    λ p ok. has_written_of_eq _ _ _ _ _ (ap (λ (cs : List ℕ). 34 ∷ (flat_map escaped_character cs ++ 34 ∷ [])) all) (has_written_append _ _ _ _ _ _ (c.loop-c.invariant p) (c.write_char-2.ensures.writes (c.loop-c.invariant p).plain ok))
