-- Items and symbols in order, and sets of tokens by their tokens.
use Rattle.std.proofs.Common.{◌≡◌, ◌≢◌, ℕ, ◌<◌, ◌↔◌, ◌⊎◌, Bool, true, false, Option, Some, None, IsSome, IsTrue, refl, sym, ap, ◌∙◌, ⊎_elim, inl, inr, subst, arith}
use Rattle.std.specs.declared.cmp.Ordering.{Ordering}
use Rattle.std.specs.declared.cmp.Ordering.TheVariants.{Less, Equal, Greater}
use Rattle.std.specs.Ordering.{nat_cmp, ordering_then}
use Rattle.std.specs.Int.{bit_at}
use Rattle.std.specs.Cmp.{IsTotalOrder}
use Rattle.std.proofs.lemmas.Bool.{cases_eq}
use Rattle.std.proofs.lemmas.Bool.Decides.{nat_tests}
use Rattle.std.proofs.lemmas.Cmp.{nat_cmp_total, then_total, on_total}
use Rattle.std.proofs.lemmas.Map.Lookups.{CmpEqualImpliesEq, exact_unsigned, exact_pairs}
use Rattle.std.proofs.lemmas.Option.{same_Some}
use Rattle.std.proofs.lemmas.Nat.Bits.{bit_at-lt, same_from_bits}
use Rattle.lp_repr.specs.declared.numbering.SymbolNumber.{SymbolNumber}
use Rattle.lp_repr.specs.declared.numbering.SymbolNumber.TheVariants.{Terminal, Nonterminal}
use Rattle.lp_repr.specs.declared.lr1.Token.{Token}
use Rattle.lp_repr.specs.declared.lr1.Token.TheVariants as token
use Rattle.lp_sets.specs.declared.tokens.TokenSet.{TokenSet}
use Rattle.lp_sets.specs.Members.{Has}
use Rattle.lp_sets.specs.TokenSets.{HasToken}
use Rattle.lp_states.specs.ItemMaps.{item_cmp}

-- ---- items
pub item_total : IsTotalOrder item_cmp
item_total = then_total (on_total (λ (p : ℕ × ℕ). p.0) nat_cmp_total) (on_total (λ (p : ℕ × ℕ). p.1) nat_cmp_total)

pub item_exact : CmpEqualImpliesEq item_cmp
item_exact = exact_pairs nat_cmp nat_cmp exact_unsigned exact_unsigned

less_parts : (o p : Ordering) → ordering_then o p ≡ Less → (o ≡ Less) ⊎ ((o ≡ Equal) × (p ≡ Less))
less_parts Less p h = inl refl
less_parts Equal p h = inr (refl, h)
less_parts Greater p h = cc

pub nat_less : (a b : ℕ) → nat_cmp a b ≡ Less → a < b
nat_less a b h = grind (arith, nat_tests)

pub item_less : (x y : ℕ × ℕ) → item_cmp x y ≡ Less → (x.0 < y.0) ⊎ ((x.0 ≡ y.0) × (x.1 < y.1))
item_less x y h =
    ⊎_elim (λ (e : nat_cmp x.0 y.0 ≡ Less). inl (nat_less x.0 y.0 e)) (λ e. inr (exact_unsigned x.0 y.0 e.0, nat_less x.1 y.1 e.1)) (less_parts (nat_cmp x.0 y.0) (nat_cmp x.1 y.1) h)

pub item_apart : (x y : ℕ × ℕ) → item_cmp x y ≡ Less → x ≢ y
item_apart x y h e =
    ⊎_elim (λ (l : x.0 < y.0). let f : x.0 ≡ y.0 = ap (λ (p : ℕ × ℕ). p.0) e in omega arith) (λ l. let f : x.1 ≡ y.1 = ap (λ (p : ℕ × ℕ). p.1) e in omega (arith, f, l.1)) (item_less x y h)

-- ---- symbols
pub same_symbol : (x y : SymbolNumber) → (x ≡ y) ⊎ (x ≢ y)
same_symbol (Terminal m) (Terminal n) =
    ⊎_elim (λ (e : m ≡ n). inl (ap Terminal e)) (λ (d : m ≢ n). inr (λ e. d cc)) (cases_eq m n)
same_symbol (Terminal m) (Nonterminal n) = inr (λ e. cc)
same_symbol (Nonterminal m) (Terminal n) = inr (λ e. cc)
same_symbol (Nonterminal m) (Nonterminal n) =
    ⊎_elim (λ (e : m ≡ n). inl (ap Nonterminal e)) (λ (d : m ≢ n). inr (λ e. d cc)) (cases_eq m n)

-- ---- sets of tokens
same_bit : (a b n : ℕ) → Has a n ↔ Has b n → bit_at a n ≡ bit_at b n
same_bit a b n h =
    ⊎_elim (λ (e : bit_at a n ≡ 1). e ∙ sym (h.0 e)) (λ (d : bit_at a n ≢ 1). ⊎_elim (λ (e : bit_at b n ≡ 1). absurd (d (h.1 e))) (λ (f : bit_at b n ≢ 1). omega (arith, bit_at-lt a n, bit_at-lt b n)) (cases_eq (bit_at b n) 1)) (cases_eq (bit_at a n) 1)

same_flag : (a b : Bool) → IsTrue a ↔ IsTrue b → a ≡ b
same_flag true true h = refl
same_flag true false h = let e : IsTrue false = h.0 refl in cc
same_flag false true h = let e : IsTrue false = h.1 refl in cc
same_flag false false h = refl

pub same_tokens : (a b : TokenSet) → ((t : Token) → HasToken a t ↔ HasToken b t) → a ≡ b
same_tokens a b h =
    let e : a.terminals ≡ b.terminals = same_from_bits a.terminals b.terminals (λ n. same_bit a.terminals b.terminals n (h (token.Terminal n))) in
    let f : a.end ≡ b.end = same_flag a.end b.end (h token.Eof) in
    let s : TokenSet = record { terminals = b.terminals; end = a.end } in
    let x : a ≡ s = ap (λ (n : ℕ). let r : TokenSet = record { terminals = n; end = a.end } in r) e in
    let y : s ≡ b = ap (λ (c : Bool). let r : TokenSet = record { terminals = b.terminals; end = c } in r) f in
    x ∙ y

pub same_lookaheads : (o q : Option TokenSet) → IsSome o ↔ IsSome q → ((t : Token) → ((s : TokenSet) × (o ≡ Some s) × HasToken s t) ↔ ((s : TokenSet) × (q ≡ Some s) × HasToken s t)) → o ≡ q
same_lookaheads None None h g = refl
same_lookaheads None (Some b) h g = let e = h.1 refl in cc
same_lookaheads (Some a) None h g = let e = h.0 refl in cc
same_lookaheads (Some a) (Some b) h g =
    ap Some (same_tokens a b (λ t. (λ m. let w = (g t).0 (a, refl, m) in subst (λ s. HasToken s t) (sym (same_Some b w.0 w.1)) w.2, λ m. let w = (g t).1 (b, refl, m) in subst (λ s. HasToken s t) (sym (same_Some a w.0 w.1)) w.2)))
