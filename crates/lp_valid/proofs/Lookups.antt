-- Names that compare equal are the same.
use Rattle.std.proofs.Common.{◌≡◌, Bool, ◌||◌, List, [], ◌∷◌, map, refl, ap, sym}
use Rattle.std.specs.List.{list_any}
use Rattle.std.specs.Map.{lookup}
use Rattle.std.specs.Ordering.{is_eq}
use Rattle.std.specs.Cmp.Lexicographic.{texts_ties}
use Rattle.lp_repr.specs.Names.{same_terminal}
use Rattle.lp_repr.specs.contracts.repr.TerminalStringOrd.TheImpl as order
use Rattle.lp_repr.specs.declared.repr.TerminalString.{TerminalString}
use Rattle.lp_repr.specs.declared.repr.TerminalString.TheVariants.{Quoted, Bare, Error}

-- look-ups by tests that agree
pub lookup_agree : {K X : Type 0} (p q : K → Bool) → ((k : K) → p k ≡ q k) → (es : List (K × X)) → lookup p es ≡ lookup q es
lookup_agree p q h [] = refl
lookup_agree p q h (e ∷ es) = rw (h e.0, lookup_agree p q h es) refl

-- some element passes tests that agree
pub any_agree : {X : Type 0} (p q : X → Bool) → ((x : X) → p x ≡ q x) → (xs : List X) → list_any p xs ≡ list_any q xs
any_agree p q h [] = refl
any_agree p q h (x ∷ xs) = rw (h x, any_agree p q h xs) refl

-- some image passes
pub any_of_images : {X Y : Type 0} (f : X → Y) (p : Y → Bool) (xs : List X) → list_any (λ x. p (f x)) xs ≡ list_any p (map f xs)
any_of_images f p [] = refl
any_of_images f p (x ∷ xs) = ap (λ b. p (f x) || b) (any_of_images f p xs)

-- terminals that compare equal are the same
pub terminal_ties : (s t : TerminalString) → is_eq ((order.cmp-value).it s t) ≡ same_terminal s t
terminal_ties (Quoted s) (Quoted t) = sym (texts_ties s t)
terminal_ties (Quoted s) (Bare t) = refl
terminal_ties (Quoted s) Error = refl
terminal_ties (Bare s) (Quoted t) = refl
terminal_ties (Bare s) (Bare t) = sym (texts_ties s t)
terminal_ties (Bare s) Error = refl
terminal_ties Error (Quoted t) = refl
terminal_ties Error (Bare t) = refl
terminal_ties Error Error = refl
