-- The spans of what is read are in order.
use Rattle.std.proofs.Common.{◌≡◌, ℕ, ◌+◌, ◌-◌, ◌≤◌, List, [], ◌∷◌, ◌++◌, length, sym, ap, ◌∙◌, subst, append_assoc, append-nil, length-append, arith, Ok, Err}
use Rattle.lp_tok.specs.declared.rest.Rest.{Rest}
use Rattle.lp_tok.specs.declared.tok.ErrorCode.{ErrorCode}
use Rattle.lp_tok.specs.declared.unread.Tokenizer.{Tokenizer}
use Rattle.lp_tok.specs.Left.{Follows}
use Rattle.lp_tok.specs.Token.{Token, Symbol, Text, IsSymbol, Item}
use Rattle.lp_tok.specs.Spans.{TextInside, InOrder, IsLeftOf, place_of}
use Rattle.lp_tok.specs.Reads.{TextFollows, TokensLeft}

-- no more bytes are left of what follows
pub no_longer : (a b : Rest) → Follows a b → length b.text.now ≤ length a.text.now
no_longer a b f = omega (arith, ap length f.text, length-append f.read b.text.now)

-- a symbol has no text
pub symbol_follows : (start stop : Rest) (token : Token) → IsSymbol token → TextFollows start token stop
symbol_follows start stop (Symbol token) is = tt
symbol_follows start stop (Text kind inside) is = absurd is

-- a token whose text is known
pub text_follows : (start stop : Rest) (token given : Token) → given ≡ token → TextFollows start token stop → TextFollows start given stop
text_follows start stop token given same inside = subst (λ t. TextFollows start t stop) (sym same) inside

-- spans that are in order from a place are in order from any place before it
pub sooner : (text : List ℕ) (shift from before : ℕ) (items : List Item) → before ≤ from → InOrder text shift from items → InOrder text shift before items
sooner text shift from before [] b order = omega (arith, b, order)
sooner text shift from before (Ok span ∷ items) b order = (omega (arith, b, order.0), order.1, order.2, order.3)
sooner text shift from before (Err e ∷ items) b order = (omega (arith, b, order.0), order.1, order.2)

-- an end of what is left is left
pub left_after : (text : List ℕ) (shift : ℕ) (s t : Tokenizer) (read : List ℕ) → IsLeftOf text shift s → s.rest.now ≡ read ++ t.rest.now → t.end ≡ s.end → IsLeftOf text shift t
left_after text shift s t read of split end = record {
  ends = record {
    front = of.ends.front ++ read;
    split = of.ends.split ∙ ap (λ x. of.ends.front ++ x) split ∙ sym (append_assoc of.ends.front read t.rest.now);
  };
  end = end ∙ of.end;
}

-- a text that is read between two places stands in the text there
stands : (text : List ℕ) (shift : ℕ) (s : Tokenizer) (from start stop : Rest) (token : Token) (lo hi : ℕ) → IsLeftOf text shift s → s.rest.now ≡ from.text.now → Follows from start → lo ≡ s.end - length start.text.now → hi ≡ s.end - length stop.text.now → TextFollows start token stop → TextInside text shift lo token hi
stands text shift s from start stop (Symbol token) lo hi of same f p q inside = tt
stands text shift s from start stop (Text kind t) lo hi of same f p q inside =
    let front = inside.0 in
    let back = inside.1 in
    let before = of.ends.front ++ (f.read ++ inside.2.read) in
    let tail : start.text.now ≡ inside.2.read ++ (t ++ back.text.now) = inside.2.text ∙ ap (λ x. inside.2.read ++ x) inside.3 in
    let from_is : from.text.now ≡ f.read ++ (inside.2.read ++ (t ++ back.text.now)) = f.text ∙ ap (λ x. f.read ++ x) tail in
    let whole : text ≡ of.ends.front ++ (f.read ++ (inside.2.read ++ (t ++ back.text.now))) = of.ends.split ∙ ap (λ x. of.ends.front ++ x) (same ∙ from_is) in
    let parts : before ++ (t ++ back.text.now) ≡ of.ends.front ++ (f.read ++ (inside.2.read ++ (t ++ back.text.now))) =
    append_assoc of.ends.front (f.read ++ inside.2.read) (t ++ back.text.now) ∙ ap (λ x. of.ends.front ++ x) (append_assoc f.read inside.2.read (t ++ back.text.now)) in
    let together : text ≡ before ++ (t ++ back.text.now) = whole ∙ sym parts in
    let split : text ≡ (before ++ t) ++ back.text.now = together ∙ sym (append_assoc before t back.text.now) in
    let n : length text ≡ length before + length (t ++ back.text.now) = ap length together ∙ length-append before (t ++ back.text.now) in
    let m : length (t ++ back.text.now) ≡ length t + length back.text.now = length-append t back.text.now in
    let long : length (t ++ back.text.now) ≤ length start.text.now = omega (arith, ap length tail, length-append inside.2.read (t ++ back.text.now)) in
    record {
      before = before;
      after = back.text.now;
      split = split;
      starts = omega (arith, p, of.end, n, long);
      stops = omega (arith, q, of.end, n, m, no_longer back stop inside.4);
    }

-- a token was read
pub token_in_order : (s t : Tokenizer) (from start stop after : Rest) (token : Token) (lo hi : ℕ) → from.text.now ≡ s.rest.now → after.text.now ≡ t.rest.now → t.end ≡ s.end → Follows from start → Follows start stop → Follows stop after → Follows from after → TextFollows start token stop → lo ≡ s.end - length start.text.now → hi ≡ s.end - length stop.text.now
    → (text : List ℕ) (shift : ℕ) → IsLeftOf text shift s → IsLeftOf text shift t × ((items : List Item) → TokensLeft t items → InOrder text shift (place_of t) items → InOrder text shift (place_of s) (Ok (lo, token, hi) ∷ items))
token_in_order s t from start stop after token lo hi same left end f g h all inside p q text shift of =
    let split : s.rest.now ≡ all.read ++ t.rest.now = sym same ∙ all.text ∙ ap (λ x. all.read ++ x) left in (
      left_after text shift s t all.read of split end,
      λ items rest order. (
        omega (arith, p, ap length same, no_longer from start f),
        omega (arith, p, q, no_longer start stop g),
        stands text shift s from start stop token lo hi of (sym same) f p q inside,
        sooner text shift (place_of t) hi items (omega (arith, q, end, ap length left, no_longer stop after h)) order,
      ),
    )

-- an error was read, and nothing is left
pub error_in_order : (s t : Tokenizer) (from at : Rest) (code : ErrorCode) (location : ℕ) → from.text.now ≡ s.rest.now → t.rest.now ≡ [] → t.end ≡ s.end → Follows from at → location ≡ s.end - length at.text.now → ((items : List Item) → TokensLeft t items → items ≡ [])
    → (text : List ℕ) (shift : ℕ) → IsLeftOf text shift s → IsLeftOf text shift t × ((items : List Item) → TokensLeft t items → InOrder text shift (place_of t) items → InOrder text shift (place_of s) (Err (record { location = location; code = code }) ∷ items))
error_in_order s t from at code location same left end f p none text shift of = (
  left_after text shift s t s.rest.now of (sym (append-nil s.rest.now) ∙ ap (λ x. s.rest.now ++ x) (sym left)) end,
  λ items rest order. (
    omega (arith, p, ap length same, no_longer from at f),
    omega (arith, p, of.end),
    none items rest,
  ),
)
