-- The items that a tokenizer gave so far.
use Rattle.std.proofs.Common.{◌≡◌, ℕ, List, [], ◌∷◌, ◌++◌, refl, sym, ap, ◌∙◌, subst, append-nil, arith}
use Rattle.std.specs.Prelude.{Option, None}
use Rattle.lp_tok.specs.declared.tok.Error.{Error}
use Rattle.lp_tok.specs.declared.unread.Tokenizer.{Tokenizer}
use Rattle.lp_tok.specs.Token.{Item}
use Rattle.lp_tok.specs.Tokens.{AreTokensOf, error_among, HasOneList}
use Rattle.lp_tok.specs.Spans.{InOrder, IsLeftOf, place_of}
use Rattle.lp_tok.specs.Reads.{TokensLeft, KeepsOrder}
use Rattle.lp_tok.proofs.OneList.{one_list, seen_more}

-- what is left completes what was given to the list of the text
pub record GivenSoFar (text : List ℕ) (shift : ℕ) (t : Tokenizer) (error : Option Error) : Type 0 where
  pub seen : List Item
  pub fit : (items : List Item) → TokensLeft t items → AreTokensOf text shift (seen ++ items)
  pub error_is : (items : List Item) → error_among None (seen ++ items) ≡ error_among error items
  pub stands : IsLeftOf text shift t
  pub order : (items : List Item) → TokensLeft t items → InOrder text shift (place_of t) items → InOrder text shift shift (seen ++ items)

pub given_none : (text : List ℕ) (shift : ℕ) (t : Tokenizer) → ((items : List Item) → TokensLeft t items → AreTokensOf text shift items) → IsLeftOf text shift t → place_of t ≡ shift → GivenSoFar text shift t None
given_none text shift t fit stands begins = record {
  seen = [];
  fit = fit;
  error_is = λ items. refl;
  stands = stands;
  order = λ items rest order. subst (λ n. InOrder text shift n items) begins order;
}

pub given_more : (text : List ℕ) (shift : ℕ) (t next : Tokenizer) (error after : Option Error) (given x : Item) → GivenSoFar text shift t error → given ≡ x → (((items : List Item) → TokensLeft next items → TokensLeft t (given ∷ items)) × KeepsOrder t given next) → ((items : List Item) → error_among error (x ∷ items) ≡ error_among after items) → GivenSoFar text shift next after
given_more text shift t next error after given x so_far is step error_step =
    let error_of : (items : List Item) → error_among error (given ∷ items) ≡ error_among after items = λ items. ap (λ i. error_among error (i ∷ items)) is ∙ error_step items in
    let kept = step.1 text shift so_far.stands in
    record {
      seen = so_far.seen ++ given ∷ [];
      fit = λ items rest. subst (AreTokensOf text shift) (sym (seen_more so_far.seen items given)) (so_far.fit (given ∷ items) (step.0 items rest));
      error_is = λ items. ap (error_among None) (seen_more so_far.seen items given) ∙ so_far.error_is (given ∷ items) ∙ error_of items;
      stands = kept.0;
      order = λ items rest order. subst (InOrder text shift shift) (sym (seen_more so_far.seen items given)) (so_far.order (given ∷ items) (step.0 items rest) (kept.1 items rest order));
    }

pub given_all : (text : List ℕ) (shift : ℕ) (t : Tokenizer) (error : Option Error) → GivenSoFar text shift t error → TokensLeft t [] → HasOneList text shift error
given_all text shift t error so_far none =
    let fit = subst (AreTokensOf text shift) (append-nil so_far.seen) (so_far.fit [] none) in
    record {
      items = so_far.seen;
      fit = fit;
      no_other = λ others fits. one_list _ _ others so_far.seen fits fit;
      error_is = sym (so_far.error_is []) ∙ ap (error_among None) (append-nil so_far.seen);
      in_order = subst (InOrder text shift shift) (append-nil so_far.seen) (so_far.order [] none (omega (arith, so_far.stands.end)));
    }
