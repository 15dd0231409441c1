-- Tokens that stand once.
use Rattle.std.proofs.Common.{◌≡◌, ◌↔◌, ℕ, ◌+◌, ◌<◌, ◌≤◌, true, false, List, length, take, refl, arith, sym, ap, ◌∙◌, subst, Some, IsTrue, slice_get, eqb-true, eq-eqb, ⊎_elim}
use Rattle.std.specs.Cmp.{unsigned_ties}
use Rattle.std.specs.List.{list_any}
use Rattle.std.specs.Ordering.{is_eq}
use Rattle.std.specs.declared.cmp.Ordering.{Ordering}
use Rattle.std.proofs.lemmas.Bool.{false≢true, cases_lt}
use Rattle.std.proofs.lemmas.Option.{same_Some, slice_get_within}
use Rattle.lp_repr.specs.contracts.lr1.TokenOrd.TheImpl as order
use Rattle.lp_repr.specs.declared.lr1.Token.{Token}
use Rattle.lp_repr.specs.declared.lr1.Token.TheVariants.{Terminal, Eof}
use Rattle.lp_tables.specs.Reductions.{StandOnce}
use Rattle.lp_tables.proofs.Lists.{any_place, any_at, get_take, take_get}

-- the order by which a set keeps tokens
abbrev pub token_cmp : Token → Token → Ordering
token_cmp = (order.cmp-value).it

-- tokens that compare equal are the same
pub tokens_same : (s t : Token) → is_eq (token_cmp s t) ≡ true → s ≡ t
tokens_same (Terminal m) (Terminal n) e = ap Terminal (eqb-true m n (unsigned_ties m n ∙ e))
tokens_same (Terminal m) Eof e = absurd (false≢true e)
tokens_same Eof (Terminal n) e = absurd (false≢true e)
tokens_same Eof Eof e = refl

token_itself : (t : Token) → is_eq (token_cmp t t) ≡ true
token_itself (Terminal n) = sym (unsigned_ties n n) ∙ eq-eqb n n refl
token_itself Eof = refl

-- among the first tokens none stands twice
abbrev pub OnceBelow : List Token → ℕ → Type 0
OnceBelow ts n = (i j : ℕ) (t : Token) → i < n → j < n → slice_get ts i ≡ Some t → slice_get ts j ≡ Some t → i ≡ j

-- a token that stood before isn't new, and one that didn't is
stood : (ts : List Token) (n j : ℕ) (x : Token) → list_any (λ y. is_eq (token_cmp y x)) (take n ts) ≡ false → j < n → slice_get ts j ≡ Some x → ⊥
stood ts n j x none less e = let yes = any_at (λ y. is_eq (token_cmp y x)) (take n ts) j x (take_get ts n j x less e) (token_itself x) in false≢true (sym none ∙ yes)

pub once_more : (ts : List Token) (n : ℕ) (x : Token) → slice_get ts n ≡ Some x → list_any (λ y. is_eq (token_cmp y x)) (take n ts) ≡ false → OnceBelow ts n → OnceBelow ts (n + 1)
once_more ts n x at none h = λ i j t li lj ei ej.
    let new = λ (k : ℕ) (e : slice_get ts k ≡ Some t) (less : k < n) (same : slice_get ts n ≡ Some t). (let eq : x ≡ t = same_Some x t (sym at ∙ same) in let never : ⊥ = stood ts n k x none less (e ∙ ap Some (sym eq)) in never) in
    ⊎_elim
    (λ i_less.
    ⊎_elim (λ j_less. h i j t i_less j_less ei ej) (λ j_past. let same : j ≡ n = omega arith in absurd (new i ei i_less (subst (λ k. slice_get ts k ≡ Some t) same ej))) (cases_lt j n))
    (λ i_past.
    let here : i ≡ n = omega arith in
    ⊎_elim (λ j_less. absurd (new j ej j_less (subst (λ k. slice_get ts k ≡ Some t) here ei))) (λ j_past. omega arith) (cases_lt j n)) (cases_lt i n)

pub not_once : (ts : List Token) (n : ℕ) (x : Token) → slice_get ts n ≡ Some x → list_any (λ y. is_eq (token_cmp y x)) (take n ts) ≡ true → IsTrue false ↔ StandOnce ts
not_once ts n x at some = (
  λ no. absurd (false≢true no),
  λ once.
      let p = any_place (λ y. is_eq (token_cmp y x)) (take n ts) some in
      let there = get_take ts n p.0 p.1 p.2 in
      let same : p.0 ≡ n = once p.0 n x (there.1 ∙ ap Some (tokens_same p.1 x p.3)) at in
      absurd (let less : p.0 < n = there.0 in omega arith),
)

pub once : (ts : List Token) (n : ℕ) → length ts ≤ n → OnceBelow ts n → IsTrue true ↔ StandOnce ts
once ts n past h = (λ _ i j t e f. h i j t (let less = slice_get_within ts i t e in omega arith) (let less = slice_get_within ts j t f in omega arith) e f, λ _. refl)
