-- A value is told by its tokens, which a stack gives back.
use Rattle.std.specs.Prelude.{◌≡◌, List, [], ◌∷◌, ◌++◌, refl}
use Rattle.std.proofs.Common.{ap, ◌∙◌, append_assoc}
use Rattle.lp_core.specs.declared.value.Tag.{Tag}
use Rattle.lp_core.specs.Datum.{Datum, Unset}
use Rattle.lp_core.specs.Val.{Val, Plain, Made, Vals, end, more}

pub data Token : Type 0 where
  t_plain : Datum → Token
  t_made : Tag → Token
  t_end : Token
  t_more : Token

pub data Item : Type 0 where
  one : Val → Item
  many : Vals → Item

abbrev mutual
  pub tokens : Val → List Token
  tokens (Plain d) = t_plain d ∷ []
  tokens (Made tag vs) = tokens_all vs ++ t_made tag ∷ []

  pub tokens_all : Vals → List Token
  tokens_all end = t_end ∷ []
  tokens_all (more v vs) = tokens v ++ (tokens_all vs ++ t_more ∷ [])

abbrev pub made : Tag → List Item → List Item
made tag (many vs ∷ items) = one (Made tag vs) ∷ items
made tag _ = []

abbrev pub one_more : List Item → List Item
one_more (many vs ∷ one v ∷ items) = many (more v vs) ∷ items
one_more _ = []

abbrev pub read : List Token → List Item → List Item
read [] items = items
read (t_plain d ∷ ts) items = read ts (one (Plain d) ∷ items)
read (t_made tag ∷ ts) items = read ts (made tag items)
read (t_end ∷ ts) items = read ts (many end ∷ items)
read (t_more ∷ ts) items = read ts (one_more items)

abbrev pub top : List Item → Val
top (one v ∷ items) = v
top _ = Plain Unset

abbrev pub value_from : List Token → Val
value_from ts = top (read ts [])

mutual
  read_tokens : (v : Val) (ts : List Token) (items : List Item) → read (tokens v ++ ts) items ≡ read ts (one v ∷ items)
  read_tokens (Plain d) ts items = refl
  read_tokens (Made tag vs) ts items =
      ap (λ l. read l items) (append_assoc (tokens_all vs) (t_made tag ∷ []) ts) ∙ read_all vs (t_made tag ∷ ts) items

  read_all : (vs : Vals) (ts : List Token) (items : List Item) → read (tokens_all vs ++ ts) items ≡ read ts (many vs ∷ items)
  read_all end ts items = refl
  read_all (more v vs) ts items =
      ap (λ l. read l items) (append_assoc (tokens v) (tokens_all vs ++ t_more ∷ []) ts ∙ ap (λ l. tokens v ++ l) (append_assoc (tokens_all vs) (t_more ∷ []) ts))
      ∙ read_tokens v (tokens_all vs ++ (t_more ∷ ts)) items
      ∙ read_all vs (t_more ∷ ts) (one v ∷ items)

add_nil : (l : List Token) → l ≡ l ++ []
add_nil [] = refl
add_nil (t ∷ l) = ap (λ r. t ∷ r) (add_nil l)

pub from_tokens : (v : Val) → value_from (tokens v) ≡ v
from_tokens v = ap (λ l. top (read l [])) (add_nil (tokens v)) ∙ ap top (read_tokens v [] [])
