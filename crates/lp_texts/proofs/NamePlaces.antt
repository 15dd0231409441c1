-- No byte behind the end of a name or an attribute is wrong.
use Rattle.std.proofs.Common.{◌≡◌, ℕ, ◌+◌, ◌≤◌, false, List, length, eqb, refl, arith}
use Rattle.std.proofs.lemmas.List.{drop_all}
use Rattle.std.proofs.lemmas.Bool.{ne_eqb}
use Rattle.lp_texts.specs.Names.{stands, is_wrong_attribute, is_wrong_terminal}

pub stands_behind : (byte : ℕ) (text : List ℕ) (j : ℕ) → length text ≤ j → stands byte text j ≡ false
stands_behind byte text j done = rw (drop_all j text done) refl

pub terminal_behind : (text : List ℕ) (j : ℕ) → length text ≤ j → is_wrong_terminal text j ≡ false
terminal_behind text j done = rw (drop_all j text done) refl

pub attribute_behind : (text : List ℕ) (j : ℕ) → length text ≤ j → 3 ≤ j → is_wrong_attribute text j ≡ false
attribute_behind text j done far =
    let zeroth : eqb j 0 ≡ false = ne_eqb j 0 (λ e. omega (arith, e)) in
    let first : eqb j 1 ≡ false = ne_eqb j 1 (λ e. omega (arith, e)) in
    let second : eqb j 2 ≡ false = ne_eqb j 2 (λ e. omega (arith, e)) in
    let last : eqb (j + 1) (length text) ≡ false = ne_eqb (j + 1) (length text) (λ e. omega (arith, e)) in
    rw (zeroth, first, second, last, drop_all j text done) refl
