-- Sets of tokens and their lists.
use Rattle.std.proofs.Common.{◌≡◌, ℕ, ◌<◌, ◌≤◌, ◌↔◌, ◌⊎◌, Bool, true, false, ◌&&◌, ◌||◌, List, [], ◌∷◌, ◌++◌, map, length, get_or, refl, sym, ap, ◌∙◌, ⊎_elim, inl, inr, subst, arith, Contains, AllPairs, bit_or, bit_and, IsTrue}
use Rattle.std.proofs.Math.ListN.{get_or-map}
use Rattle.std.proofs.lemmas.List.{length-map, get_or_default}
use Rattle.std.proofs.lemmas.List.Elements.{Contains-push, Contains-push_cases, Contains-append_left}
use Rattle.std.proofs.lemmas.List.Quantifiers.{all_pairs_push}
use Rattle.std.proofs.lemmas.Nat.Bits.{bit_at_or, bit_at_and, bit_at-lt}
use Rattle.std.proofs.lemmas.Bool.{cases_lt}
use Rattle.std.specs.Int.{bit_at}
use Rattle.lp_repr.specs.declared.lr1.Token.{Token}
use Rattle.lp_repr.specs.declared.lr1.Token.TheVariants.{Terminal, Eof}
use Rattle.lp_sets.specs.declared.tokens.TokenSet.{TokenSet}
use Rattle.lp_sets.specs.Members.{Has}
use Rattle.lp_sets.specs.TokenSets.{HasToken, ListsTokens, union_of, common_of, IsBefore}

-- a number of two sets
pub Has-or : (a b n : ℕ) → Has (bit_or a b) n ↔ (Has a n ⊎ Has b n)
Has-or a b n = (
  λ h. ⊎_elim (λ (l : bit_at a n < 1). inr (omega (arith, h, bit_at_or a b n, bit_at-lt b n))) (λ (l : 1 ≤ bit_at a n). inl (omega (arith, bit_at-lt a n))) (cases_lt (bit_at a n) 1),
  λ h. ⊎_elim (λ (x : Has a n). omega (arith, x, bit_at_or a b n, bit_at-lt b n)) (λ (x : Has b n). omega (arith, x, bit_at_or a b n, bit_at-lt a n)) h,
)

pub Has-and : (a b n : ℕ) → Has (bit_and a b) n ↔ (Has a n × Has b n)
Has-and a b n =
    (λ h. (omega (arith, h, bit_at_and a b n, bit_at-lt a n), omega (arith, h, bit_at_and a b n, bit_at-lt b n)), λ h. omega (arith, h.0, h.1, bit_at_and a b n))

either : (a b : Bool) → IsTrue (a || b) ↔ (IsTrue a ⊎ IsTrue b)
either true b = (λ h. inl refl, λ h. refl)
either false b = (λ h. inr h, λ h. ⊎_elim (λ (x : IsTrue false). cc) (λ (x : IsTrue b). x) h)

both : (a b : Bool) → IsTrue (a && b) ↔ (IsTrue a × IsTrue b)
both true b = (λ h. (refl, h), λ h. h.1)
both false b = (λ h. cc, λ h. h.0)

-- a token of two sets
pub HasToken-union : (s t : TokenSet) (x : Token) → HasToken (union_of s t) x ↔ (HasToken s x ⊎ HasToken t x)
HasToken-union s t (Terminal n) = Has-or s.terminals t.terminals n
HasToken-union s t Eof = either s.end t.end

pub HasToken-common : (s t : TokenSet) (x : Token) → HasToken (common_of s t) x ↔ (HasToken s x × HasToken t x)
HasToken-common s t (Terminal n) = Has-and s.terminals t.terminals n
HasToken-common s t Eof = both s.end t.end

-- numbers as terminals
terminal_at : (xs : List ℕ) (i : ℕ) (d : Token) → i < length xs → get_or (map Terminal xs) i d ≡ Terminal (get_or xs i 0)
terminal_at xs i d l =
    get_or_default (map Terminal xs) i d (Terminal 0) (omega (arith, length-map xs Terminal)) ∙ get_or-map Terminal xs i 0

terminals_ordered : (xs : List ℕ) → AllPairs (λ x y. x < y) xs → AllPairs IsBefore (map Terminal xs)
terminals_ordered xs h i j d l k =
    let inside : j < length xs = omega (arith, length-map xs Terminal) in
    rw (terminal_at xs i d (omega arith), terminal_at xs j d inside) (h i j 0 l inside)

terminal_listed : (xs : List ℕ) (n : ℕ) → Contains xs n → Contains (map Terminal xs) (Terminal n)
terminal_listed xs n c =
    let l : c.0 < length xs = c.1 in
    (c.0, omega (arith, length-map xs Terminal), terminal_at xs c.0 (Terminal n) l ∙ ap Terminal (get_or_default xs c.0 0 n l ∙ c.2))

listed_number : (xs : List ℕ) (t : Token) → Contains (map Terminal xs) t → (n : ℕ) × (t ≡ Terminal n) × Contains xs n
listed_number xs t c =
    let l : c.0 < length xs = omega (arith, c.1, length-map xs Terminal) in
    (get_or xs c.0 0, sym c.2 ∙ terminal_at xs c.0 t l, (c.0, l, get_or_default xs c.0 (get_or xs c.0 0) 0 l))

module _ (s : TokenSet) (xs : List ℕ) (ordered : AllPairs (λ x y. x < y) xs) (exact : (n : ℕ) → Contains xs n ↔ Has s.terminals n) where
  terminal_has : (t : Token) → Contains (map Terminal xs) t → HasToken s t
  terminal_has t c =
      let w = listed_number xs t c in
      subst (HasToken s) (sym w.1) ((exact w.0).0 w.2)

  has_open : s.end ≡ false → (t : Token) → HasToken s t → Contains (map Terminal xs) t
  has_open e (Terminal n) h = terminal_listed xs n ((exact n).1 h)
  has_open e Eof h = cc

  -- the end of input is not in the set
  pub lists_open : s.end ≡ false → ListsTokens s (map Terminal xs)
  lists_open e = record {
    ordered = terminals_ordered xs ordered;
    exact = λ t. (terminal_has t, has_open e t);
  }

  has_ended : s.end ≡ true → (t : Token) → HasToken s t → Contains (map Terminal xs ++ Eof ∷ []) t
  has_ended e (Terminal n) h = Contains-append_left (map Terminal xs) (Eof ∷ []) (Terminal n) (terminal_listed xs n ((exact n).1 h))
  has_ended e Eof h = Contains-push (map Terminal xs) Eof

  -- it is
  pub lists_ended : s.end ≡ true → ListsTokens s (map Terminal xs ++ Eof ∷ [])
  lists_ended e = record {
    ordered = all_pairs_push IsBefore (map Terminal xs) Eof (terminals_ordered xs ordered) (λ k d l. rw (terminal_at xs k d (omega (arith, length-map xs Terminal))) tt);
    exact = λ t. (λ c. ⊎_elim (terminal_has t) (λ (q : Eof ≡ t). subst (HasToken s) q e) (Contains-push_cases (map Terminal xs) Eof t c), has_ended e t);
  }
