-- The tokens that are gathered, turn by turn.
use Rattle.std.proofs.Common.{◌≡◌, ℕ, List, [], ◌∷◌, ◌++◌, Option, Some, None, Result, Ok, Err, refl, sym, ap, ◌∙◌, subst, length, append-nil, arith}
use Rattle.std.specs.Prelude.{map, reverse}
use Rattle.std.proofs.lemmas.List.{reverse-append, reverse-reverse, map-append}
use Rattle.lp_tok.specs.declared.tok.Error.{Error}
use Rattle.lp_tok.specs.declared.tok.Tok.{Tok}
use Rattle.lp_tok.specs.declared.unread.Tokenizer.{Tokenizer}
use Rattle.lp_tok.specs.Token.{Item, item_of}
use Rattle.lp_tok.specs.Tokens.{AreTokensOf}
use Rattle.lp_tok.specs.Reads.{TokensLeft}
use Rattle.lp_types.specs.declared.tokens.Where.{Where}
use Rattle.lp_types.specs.declared.tokens.Where.TheVariants.{Outside}
use Rattle.lp_types.specs.Left.{Left, left_of, token}
use Rattle.lp_types.specs.Marks.{mark_of}
use Rattle.lp_types.specs.Spelled.{AreSeen, seen, seen_none, seen_token, seen_error, AreMarksOf, where_after, AreInside, Spliced, spliced_end, spliced_error, spliced_token}

-- a token between its places, or an error
abbrev Found : Type 0
Found = Result (ℕ × Tok × ℕ) Error

seen_of : (list : List Found) → AreSeen (map item_of list) (map seen list)
seen_of [] = seen_none
seen_of (Ok x ∷ list) = seen_token x.0 x.1 x.2 (map item_of list) (map seen list) (seen_of list)
seen_of (Err e ∷ list) = seen_error e (map item_of list) (map seen list) (seen_of list)

item_added : (list : List Found) (given : Found) (items : List Item) → map item_of (list ++ given ∷ []) ++ items ≡ map item_of list ++ item_of given ∷ items
item_added [] given items = refl
item_added (x ∷ list) given items = ap (λ l. item_of x ∷ l) (item_added list given items)

-- what is left completes what was read to the tokens of the text
pub record ReadTo (text : List ℕ) (offset : ℕ) (list : List Found) (t : Tokenizer) : Type 0 where
  pub goes_on : (items : List Item) → TokensLeft t items → AreTokensOf text offset (map item_of list ++ items)

pub read_none : (text : List ℕ) (offset : ℕ) (list : List Found) (t : Tokenizer) → list ≡ [] → ((items : List Item) → TokensLeft t items → AreTokensOf text offset items) → ReadTo text offset list t
read_none text offset list t none fit = record { goes_on = λ items rest. subst (λ l. AreTokensOf text offset (map item_of l ++ items)) (sym none) (fit items rest) }

-- the tokenizer gave this
pub read_more : (text : List ℕ) (offset : ℕ) (list new : List Found) (t next : Tokenizer) (given : Found) → ReadTo text offset list t → ((items : List Item) → TokensLeft next items → TokensLeft t (item_of given ∷ items)) → new ≡ list ++ given ∷ [] → ReadTo text offset new next
read_more text offset list new t next given so gives added = record {
  goes_on = λ items rest.
      let same : map item_of new ++ items ≡ map item_of list ++ item_of given ∷ items = ap (λ l. map item_of l ++ items) added ∙ item_added list given items in
      subst (AreTokensOf text offset) (sym same) (so.goes_on (item_of given ∷ items) (gives items rest));
}

pub read_all : (text : List ℕ) (offset : ℕ) (list : List Found) (t : Tokenizer) → ReadTo text offset list t → TokensLeft t [] → AreMarksOf text offset (map seen list)
read_all text offset list t so none = record {
  items = map item_of list;
  fit = subst (AreTokensOf text offset) (append-nil (map item_of list)) (so.goes_on [] none);
  seen = seen_of list;
}

-- gathered tokens, and then those that are left
abbrev before : List (ℕ × Tok × ℕ) → Left → Left
before [] rest = rest
before (x ∷ list) rest = token x.0 (mark_of x.1) x.2 (before list rest)

one_more : (list : List (ℕ × Tok × ℕ)) (s : ℕ × Tok × ℕ) (rest : Left) → before (list ++ s ∷ []) rest ≡ before list (token s.0 (mark_of s.1) s.2 rest)
one_more [] s rest = refl
one_more (x ∷ list) s rest = ap (token x.0 (mark_of x.1) x.2) (one_more list s rest)

left_before : (list : List (ℕ × Tok × ℕ)) (error : Option Error) (end : ℕ) → left_of list error end ≡ before list (left_of [] error end)
left_before [] error end = refl
left_before (x ∷ list) error end = ap (token x.0 (mark_of x.1) x.2) (left_before list error end)

-- what is pending, the next last, completes what was gathered
pub record GatheredTo (plain : List Found) (list : List (ℕ × Tok × ℕ)) (w : Where) (pending : List Found) : Type 0 where
  pub goes_on : (end : ℕ) (rest : Left) → Spliced end w (map seen (reverse pending)) rest → Spliced end Outside (map seen plain) (before list rest)

pub gathered_none : (plain pending : List Found) (list : List (ℕ × Tok × ℕ)) → list ≡ [] → pending ≡ reverse plain → GatheredTo plain list Outside pending
gathered_none plain pending list none all = record {
  goes_on = λ end rest so.
      let same : reverse pending ≡ plain = ap reverse all ∙ reverse-reverse plain in
      subst (λ l. Spliced end Outside (map seen plain) (before l rest)) (sym none) (subst (λ l. Spliced end Outside (map seen l) rest) same so);
}

-- the next of what is pending
taken : (pending fewer : List Found) (x : Found) → pending ≡ fewer ++ x ∷ [] → map seen (reverse pending) ≡ seen x ∷ map seen (reverse fewer)
taken pending fewer x is = ap (λ l. map seen (reverse l)) is ∙ ap (map seen) (reverse-append fewer (x ∷ []))

-- what follows it comes first
put : (pending fewer inside : List Found) → pending ≡ fewer ++ reverse inside → map seen (reverse pending) ≡ map seen inside ++ map seen (reverse fewer)
put pending fewer inside is =
    ap (λ l. map seen (reverse l)) is
    ∙ ap (map seen) (reverse-append fewer (reverse inside))
    ∙ ap (λ l. map seen (l ++ reverse fewer)) (reverse-reverse inside)
    ∙ map-append seen inside (reverse fewer)

-- a token, and what follows it
pub gathered_more : (plain pending fewer more inside : List Found) (list new : List (ℕ × Tok × ℕ)) (w after : Where) (s : ℕ × Tok × ℕ) → GatheredTo plain list w pending → pending ≡ fewer ++ Ok s ∷ [] → AreInside w (mark_of s.1) s.2 (map seen inside) → after ≡ where_after w (mark_of s.1) → new ≡ list ++ s ∷ [] → more ≡ fewer ++ reverse inside → GatheredTo plain new after more
gathered_more plain pending fewer more inside list new w after s so is are is_after added follows = record {
  goes_on = λ end rest spliced.
      let first : Spliced end after (map seen inside ++ map seen (reverse fewer)) rest = subst (λ l. Spliced end after l rest) (put more fewer inside follows) spliced in
      let here : Spliced end (where_after w (mark_of s.1)) (map seen inside ++ map seen (reverse fewer)) rest = subst (λ v. Spliced end v (map seen inside ++ map seen (reverse fewer)) rest) is_after first in
      let step : Spliced end w (seen (Ok s) ∷ map seen (reverse fewer)) (token s.0 (mark_of s.1) s.2 rest) = spliced_token w s.0 (mark_of s.1) s.2 (map seen (reverse fewer)) (map seen inside) rest are here in
      let same : before new rest ≡ before list (token s.0 (mark_of s.1) s.2 rest) = ap (λ l. before l rest) added ∙ one_more list s rest in
      subst (Spliced end Outside (map seen plain)) (sym same) (so.goes_on end (token s.0 (mark_of s.1) s.2 rest) (subst (λ l. Spliced end w l (token s.0 (mark_of s.1) s.2 rest)) (sym (taken pending fewer (Ok s) is)) step));
}

-- an error ends them
pub gathered_broken : (plain pending fewer : List Found) (list : List (ℕ × Tok × ℕ)) (w : Where) (e : Error) → GatheredTo plain list w pending → pending ≡ fewer ++ Err e ∷ [] → (end : ℕ) → Spliced end Outside (map seen plain) (left_of list (Some e) end)
gathered_broken plain pending fewer list w e so is end =
    let rest : Left = left_of [] (Some e) end in
    let step : Spliced end w (map seen (reverse pending)) rest = subst (λ l. Spliced end w l rest) (sym (taken pending fewer (Err e) is)) (spliced_error w e (map seen (reverse fewer))) in
    subst (Spliced end Outside (map seen plain)) (sym (left_before list (Some e) end)) (so.goes_on end rest step)

pub gathered_all : (plain pending : List Found) (list : List (ℕ × Tok × ℕ)) (w : Where) → GatheredTo plain list w pending → pending ≡ [] → (end : ℕ) → Spliced end Outside (map seen plain) (left_of list None end)
gathered_all plain pending list w so none end =
    let rest : Left = left_of [] None end in
    let step : Spliced end w (map seen (reverse pending)) rest = subst (λ l. Spliced end w (map seen (reverse l)) rest) (sym none) (spliced_end w) in
    subst (Spliced end Outside (map seen plain)) (sym (left_before list None end)) (so.goes_on end rest step)

-- nothing has no length
pub no_length : {A : Type 0} (xs : List A) → length xs ≡ 0 → xs ≡ []
no_length [] none = refl
no_length (x ∷ xs) none = absurd (omega arith)
