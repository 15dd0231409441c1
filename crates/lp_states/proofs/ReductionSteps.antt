-- The reductions of items, item by item.
use Rattle.std.proofs.Common.{◌≡◌, ℕ, suc, ◌+◌, ◌<◌, ◌==◌, Bool, true, false, ◌&&◌, not, cond, List, [], ◌∷◌, ◌++◌, length, get_or, drop, Option, refl, sym, ap, ◌∙◌, append_assoc, append-nil, add-one, arith}
use Rattle.std.specs.Option.{is_none, is_some}
use Rattle.std.proofs.Math.Seq.{drop-cons}
use Rattle.std.proofs.lemmas.Bool.Decides.{nat_tests}
use Rattle.std.proofs.lemmas.List.Concat.{flat_map-cons}
use Rattle.lp_repr.specs.Closure.{next_symbol}
use Rattle.lp_repr.specs.declared.numbering.Rule.{Rule}
use Rattle.lp_repr.specs.declared.lr1.Item.{Item}
use Rattle.lp_repr.specs.declared.lr1.Token.{Token}
use Rattle.lp_states.specs.Reductions.{is_empty, reduction_of, reductions_of}

abbrev pub Reduction : Type 0
Reduction = List Token × ℕ

empty_is : {X : Type 0} (xs : List X) → is_empty xs ≡ (length xs == 0)
empty_is [] = refl
empty_is (x ∷ xs) = grind (arith, nat_tests)

reduction_at : (rules : List Rule) (x : Item) (a b : Bool) → is_none (next_symbol rules x.production x.index) ≡ a → is_empty x.lookahead ≡ b → reduction_of rules x ≡ cond (a && not b) ((x.lookahead, x.production) ∷ []) []
reduction_at rules x a b e f =
    let r : List Reduction = (x.lookahead, x.production) ∷ [] in
    ap (λ (v : Bool). cond (v && not (is_empty x.lookahead)) r []) e ∙ ap (λ (v : Bool). cond (a && not v) r []) f

pub reduces : (rules : List Rule) (x : Item) (copy : List Token) → is_none (next_symbol rules x.production x.index) ≡ true → (length x.lookahead == 0) ≡ false → copy ≡ x.lookahead → reduction_of rules x ≡ (copy, x.production) ∷ []
reduces rules x copy e f g =
    reduction_at rules x true false e (empty_is x.lookahead ∙ f) ∙ ap (λ (ts : List Token). let r : Reduction = (ts, x.production) in r ∷ []) (sym g)

pub reduces_not_empty : (rules : List Rule) (x : Item) (a : Bool) → is_none (next_symbol rules x.production x.index) ≡ a → (length x.lookahead == 0) ≡ true → reduction_of rules x ≡ []
reduces_not_empty rules x true e f = reduction_at rules x true true e (empty_is x.lookahead ∙ f)
reduces_not_empty rules x false e f = reduction_at rules x false true e (empty_is x.lookahead ∙ f)

pub reduces_not_open : (rules : List Rule) (x : Item) → is_none (next_symbol rules x.production x.index) ≡ false → reduction_of rules x ≡ []
reduces_not_open rules x e = reduction_at rules x false (is_empty x.lookahead) e refl

pub reductions_more : (rules : List Rule) (items : List Item) (i : ℕ) (x : Item) (old new : List Reduction) → i < length items → x ≡ get_or items i x → new ≡ old ++ reduction_of rules x → old ++ reductions_of rules (drop i items) ≡ reductions_of rules items → new ++ reductions_of rules (drop (i + 1) items) ≡ reductions_of rules items
reductions_more rules items i x old new l at is before =
    let later : List Item = drop (i + 1) items in
    let e : drop i items ≡ x ∷ later = drop-cons items i x l ∙ ap (λ (y : Item). y ∷ drop (suc i) items) (sym at) ∙ ap (λ (n : ℕ). x ∷ drop n items) (sym (add-one i)) in
    ap (λ (rs : List Reduction). rs ++ reductions_of rules later) is
    ∙ append_assoc old (reduction_of rules x) (reductions_of rules later)
    ∙ ap (λ (rs : List Reduction). old ++ rs) (sym (flat_map-cons (reduction_of rules) x later))
    ∙ ap (λ (xs : List Item). old ++ reductions_of rules xs) (sym e)
    ∙ before

pub none_more : (rules : List Rule) (x : Item) (old : List Reduction) → reduction_of rules x ≡ [] → old ≡ old ++ reduction_of rules x
none_more rules x old e = sym (append-nil old) ∙ ap (λ (rs : List Reduction). old ++ rs) (sym e)

not_not : (a : Bool) → not (not a) ≡ a
not_not true = refl
not_not false = refl

pub is_none_from : {X : Type 0} (o p : Option X) (a : Bool) → is_some o ≡ not a → o ≡ p → is_none p ≡ a
is_none_from {X} o p a h e = ap (λ (q : Option X). not (is_some q)) (sym e) ∙ ap not h ∙ not_not a
