-- The order of paths.
use Rattle.std.proofs.Common.{◌≡◌, ◌⊎◌, List, [], ◌∷◌, sym, ap, ◌∙◌, ⊎_elim, inl, inr, subst, arith}
use Rattle.lp_repr.specs.declared.numbering.SymbolNumber.{SymbolNumber}
use Rattle.lp_repr.specs.declared.numbering.SymbolNumber.TheVariants.{Terminal, Nonterminal}
use Rattle.lp_states.specs.Paths.{ComesBefore, IsEarlier}

pub before_trans : (x y z : SymbolNumber) → ComesBefore x y → ComesBefore y z → ComesBefore x z
before_trans (Terminal m) (Terminal n) (Terminal o) h g = omega arith
before_trans (Terminal m) (Terminal n) (Nonterminal o) h g = tt
before_trans (Terminal m) (Nonterminal n) (Terminal o) h g = absurd g
before_trans (Terminal m) (Nonterminal n) (Nonterminal o) h g = tt
before_trans (Nonterminal m) (Terminal n) z h g = absurd h
before_trans (Nonterminal m) (Nonterminal n) (Terminal o) h g = absurd g
before_trans (Nonterminal m) (Nonterminal n) (Nonterminal o) h g = omega arith

pub before_itself : (x : SymbolNumber) → ComesBefore x x → ⊥
before_itself (Terminal m) h = omega arith
before_itself (Nonterminal m) h = omega arith

pub earlier_trans : (u v w : List SymbolNumber) → IsEarlier u v → IsEarlier v w → IsEarlier u w
earlier_trans [] [] w h g = absurd h
earlier_trans [] (y ∷ v) [] h g = absurd g
earlier_trans [] (y ∷ v) (z ∷ w) h g = tt
earlier_trans (x ∷ u) [] w h g = absurd h
earlier_trans (x ∷ u) (y ∷ v) [] h g = absurd g
earlier_trans (x ∷ u) (y ∷ v) (z ∷ w) h g =
    ⊎_elim (λ (a : IsEarlier u v). ⊎_elim (λ (b : IsEarlier v w). inl (earlier_trans u v w a b)) (λ b. inl (subst (λ s. IsEarlier u s) b.0 a)) g) (λ a. ⊎_elim (λ (b : IsEarlier v w). inl (subst (λ s. IsEarlier s w) (sym a.0) b)) (λ b. inr (a.0 ∙ b.0, before_trans x y z a.1 b.1)) g) h

pub none_earlier : (u : List SymbolNumber) → IsEarlier u [] → ⊥
none_earlier [] h = h
none_earlier (x ∷ u) h = h

pub earlier_itself : (u : List SymbolNumber) → IsEarlier u u → ⊥
earlier_itself [] h = h
earlier_itself (x ∷ u) h = ⊎_elim (λ (a : IsEarlier u u). earlier_itself u a) (λ a. before_itself x a.1) h

-- a path is earlier than any that goes on from it
pub earlier_longer : (x : SymbolNumber) (u : List SymbolNumber) → IsEarlier u (x ∷ u)
earlier_longer x [] = tt
earlier_longer x (y ∷ u) = inl (earlier_longer y u)

-- earlier or the same
abbrev pub IsUpTo : List SymbolNumber → List SymbolNumber → Type 0
IsUpTo u v = IsEarlier u v ⊎ (u ≡ v)

pub up_to_more : (x : SymbolNumber) (u v : List SymbolNumber) → IsUpTo u v → IsUpTo (x ∷ u) (x ∷ v)
up_to_more x u v h = ⊎_elim (λ (a : IsEarlier u v). inl (inl a)) (λ (e : u ≡ v). inr (ap (λ (w : List SymbolNumber). x ∷ w) e)) h

pub up_to_trans : (u v w : List SymbolNumber) → IsUpTo u v → IsUpTo v w → IsUpTo u w
up_to_trans u v w h g =
    ⊎_elim (λ (a : IsEarlier u v). ⊎_elim (λ (b : IsEarlier v w). inl (earlier_trans u v w a b)) (λ (e : v ≡ w). inl (subst (λ s. IsEarlier u s) e a)) g) (λ (e : u ≡ v). subst (λ s. IsUpTo s w) (sym e) g) h

pub up_to_before : (u v w : List SymbolNumber) → IsUpTo u v → IsEarlier v w → IsEarlier u w
up_to_before u v w h g =
    ⊎_elim (λ (a : IsEarlier u v). earlier_trans u v w a g) (λ (e : u ≡ v). subst (λ s. IsEarlier s w) (sym e) g) h

pub before_up_to : (u v w : List SymbolNumber) → IsEarlier u v → IsUpTo v w → IsEarlier u w
before_up_to u v w h g =
    ⊎_elim (λ (a : IsEarlier v w). earlier_trans u v w h a) (λ (e : v ≡ w). subst (λ s. IsEarlier u s) e h) g
