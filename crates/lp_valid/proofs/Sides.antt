-- Nonterminals on right sides.
use Rattle.std.proofs.Common.{◌≡◌, ℕ, ◌≤◌, Bool, true, false, not, cond, ◌&&◌, ◌||◌, List, [], ◌∷◌, map, length, refl, arith, sym, ap, ◌∙◌, Option}
use Rattle.std.specs.List.{list_any}
use Rattle.std.specs.Ordering.{nat_cmp, is_eq}
use Rattle.std.specs.Cmp.Lexicographic.{slice_cmp, texts_ties}
use Rattle.lp_repr.specs.Names.{same_nonterminal}
use Rattle.lp_repr.specs.Numbering.{productions_of}
use Rattle.lp_repr.specs.declared.repr.Grammar.{Grammar}
use Rattle.lp_repr.specs.declared.repr.NonterminalString.{NonterminalString}
use Rattle.lp_repr.specs.declared.repr.Production.{Production}
use Rattle.lp_valid.specs.Places.{EachPasses, IsFirstFailing}
use Rattle.lp_valid.specs.StartRules.{is_single, is_start, is_start_unless, is_declared, has_one_symbol, stands_right, stands_in}
use Rattle.lp_valid.proofs.FirstFailing.{failing_alike}
use Rattle.lp_valid.proofs.Lookups.{any_of_images}

pub no_single : (ps : List Production) → 2 ≤ length ps → false ≡ is_single ps
no_single [] h = refl
no_single (p ∷ []) h = absurd (omega arith)
no_single (p ∷ (q ∷ ps)) h = refl

pub or_nothing : (b : Bool) → b ≡ (b || false)
or_nothing true = refl
or_nothing false = refl

-- a set with one more nonterminal
pub one_more_name : (m n : NonterminalString) (c b : Bool) → c ≡ cond (is_eq (slice_cmp nat_cmp m.0 n.0)) true b → c ≡ (b || same_nonterminal m n)
one_more_name m n c b e = e ∙ (turned (is_eq (slice_cmp nat_cmp m.0 n.0)) b ∙ ap (λ a. b || a) (sym (texts_ties m.0 n.0)))
  where
    turned : (a b : Bool) → cond a true b ≡ (b || a)
    turned true true = refl
    turned true false = refl
    turned false true = refl
    turned false false = refl

-- the same, of what the elements point to
pub right_from_images : {X : Type 0} (f : X → Production) (g : Grammar) (xs : List X) (n : NonterminalString) → map f xs ≡ productions_of g → list_any (λ x. stands_in n (f x).symbols) xs ≡ stands_right g n
right_from_images f g xs n e = any_of_images f (λ p. stands_in n p.symbols) xs ∙ ap (list_any (λ p. stands_in n p.symbols)) e

-- starts are told by any test of right sides that is right
pub first_other_start : (g : Grammar) (on_right : NonterminalString → Bool) (es : List (NonterminalString × NonterminalString)) (r : Option ℕ) → ((n : NonterminalString) → on_right n ≡ stands_right g n) → IsFirstFailing (EachPasses (is_start_unless g on_right) es) r → IsFirstFailing (EachPasses (is_start g) es) r
first_other_start g on_right es r agree h = failing_alike (is_start_unless g on_right) (is_start g) (λ e. ap (λ b. is_declared g e.0 && (has_one_symbol g e.1 && not b)) (agree e.1)) es r h
