-- An expression is told by its tokens, which a stack gives back.
use Rattle.std.specs.Prelude.{◌≡◌, ℕ, List, [], ◌∷◌, ◌++◌, refl}
use Rattle.std.proofs.Common.{ap, ◌∙◌, append_assoc}
use Rattle.lp_core.specs.declared.expr.Leaf.{Leaf}
use Rattle.lp_core.specs.declared.expr.Leaf.TheVariants.{Stuck}
use Rattle.lp_core.specs.declared.expr.Op.{Op}
use Rattle.lp_core.specs.declared.expr.Target.{Target}
use Rattle.lp_core.specs.declared.expr.Case.{Case}
use Rattle.lp_core.specs.Tree.{Tree, Plain, Apply, If, Match, Loop, Call, Block, Trees, end, more}

pub data Token : Type 0 where
  t_plain : Leaf → Token
  t_apply : Op → Token
  t_if : Token
  t_match : ℕ → List Case → Token
  t_loop : Token
  t_call : Target → Token
  t_block : Token
  t_end : Token
  t_more : Token

pub data Item : Type 0 where
  one : Tree → Item
  many : Trees → Item

abbrev mutual
  pub tokens : Tree → List Token
  tokens (Plain l) = t_plain l ∷ []
  tokens (Apply op t) = tokens t ++ t_apply op ∷ []
  tokens (If t a b) = tokens t ++ (tokens a ++ (tokens b ++ t_if ∷ []))
  tokens (Match t x cases bodies) = tokens t ++ (tokens_all bodies ++ t_match x cases ∷ [])
  tokens (Loop t) = tokens t ++ t_loop ∷ []
  tokens (Call f ts) = tokens_all ts ++ t_call f ∷ []
  tokens (Block ts) = tokens_all ts ++ t_block ∷ []

  pub tokens_all : Trees → List Token
  tokens_all end = t_end ∷ []
  tokens_all (more t ts) = tokens t ++ (tokens_all ts ++ t_more ∷ [])

-- a token takes its parts from the stack
abbrev pub take_one : (Tree → Tree) → List Item → List Item
take_one f (one t ∷ items) = one (f t) ∷ items
take_one f _ = []

abbrev pub take_three : (Tree → Tree → Tree → Tree) → List Item → List Item
take_three f (one b ∷ one a ∷ one t ∷ items) = one (f t a b) ∷ items
take_three f _ = []

abbrev pub take_match : (Tree → Trees → Tree) → List Item → List Item
take_match f (many ts ∷ one t ∷ items) = one (f t ts) ∷ items
take_match f _ = []

abbrev pub take_all : (Trees → Tree) → List Item → List Item
take_all f (many ts ∷ items) = one (f ts) ∷ items
take_all f _ = []

abbrev pub one_more : List Item → List Item
one_more (many ts ∷ one t ∷ items) = many (more t ts) ∷ items
one_more _ = []

abbrev pub read : List Token → List Item → List Item
read [] items = items
read (t_plain l ∷ ts) items = read ts (one (Plain l) ∷ items)
read (t_apply op ∷ ts) items = read ts (take_one (Apply op) items)
read (t_if ∷ ts) items = read ts (take_three If items)
read (t_match x cases ∷ ts) items = read ts (take_match (λ t bodies. Match t x cases bodies) items)
read (t_loop ∷ ts) items = read ts (take_one Loop items)
read (t_call f ∷ ts) items = read ts (take_all (Call f) items)
read (t_block ∷ ts) items = read ts (take_all Block items)
read (t_end ∷ ts) items = read ts (many end ∷ items)
read (t_more ∷ ts) items = read ts (one_more items)

abbrev pub top : List Item → Tree
top (one t ∷ items) = t
top _ = Plain Stuck

abbrev pub tree_from : List Token → Tree
tree_from ts = top (read ts [])

assoc3 : (a b c ts : List Token) → (a ++ (b ++ c)) ++ ts ≡ a ++ (b ++ (c ++ ts))
assoc3 a b c ts = append_assoc a (b ++ c) ts ∙ ap (λ l. a ++ l) (append_assoc b c ts)

assoc4 : (a b c d ts : List Token) → (a ++ (b ++ (c ++ d))) ++ ts ≡ a ++ (b ++ (c ++ (d ++ ts)))
assoc4 a b c d ts = append_assoc a (b ++ (c ++ d)) ts ∙ ap (λ l. a ++ l) (assoc3 b c d ts)

-- an expression's tokens give it back
abbrev Reads : Tree → Type 0
Reads t = (ts : List Token) (items : List Item) → read (tokens t ++ ts) items ≡ read ts (one t ∷ items)

read_three : (t a b : Tree) (k : Token) (ts : List Token) (items : List Item) → Reads t → Reads a → Reads b → read ((tokens t ++ (tokens a ++ (tokens b ++ k ∷ []))) ++ ts) items ≡ read (k ∷ ts) (one b ∷ one a ∷ one t ∷ items)
read_three t a b k ts items rt ra rb =
    ap (λ l. read l items) (assoc4 (tokens t) (tokens a) (tokens b) (k ∷ []) ts)
    ∙ rt (tokens a ++ (tokens b ++ (k ∷ ts))) items
    ∙ ra (tokens b ++ (k ∷ ts)) (one t ∷ items)
    ∙ rb (k ∷ ts) (one a ∷ one t ∷ items)

mutual
  read_tokens : (t : Tree) (ts : List Token) (items : List Item) → read (tokens t ++ ts) items ≡ read ts (one t ∷ items)
  read_tokens (Plain l) ts items = refl
  read_tokens (Apply op t) ts items = ap (λ l. read l items) (append_assoc (tokens t) (t_apply op ∷ []) ts) ∙ read_tokens t (t_apply op ∷ ts) items
  read_tokens (If t a b) ts items = read_three t a b t_if ts items (read_tokens t) (read_tokens a) (read_tokens b)
  read_tokens (Match t x cases bodies) ts items =
      ap (λ l. read l items) (assoc3 (tokens t) (tokens_all bodies) (t_match x cases ∷ []) ts)
      ∙ read_tokens t (tokens_all bodies ++ (t_match x cases ∷ ts)) items
      ∙ read_all bodies (t_match x cases ∷ ts) (one t ∷ items)
  read_tokens (Loop t) ts items = ap (λ l. read l items) (append_assoc (tokens t) (t_loop ∷ []) ts) ∙ read_tokens t (t_loop ∷ ts) items
  read_tokens (Call f ss) ts items = ap (λ l. read l items) (append_assoc (tokens_all ss) (t_call f ∷ []) ts) ∙ read_all ss (t_call f ∷ ts) items
  read_tokens (Block ss) ts items = ap (λ l. read l items) (append_assoc (tokens_all ss) (t_block ∷ []) ts) ∙ read_all ss (t_block ∷ ts) items

  read_all : (ss : Trees) (ts : List Token) (items : List Item) → read (tokens_all ss ++ ts) items ≡ read ts (many ss ∷ items)
  read_all end ts items = refl
  read_all (more s ss) ts items =
      ap (λ l. read l items) (assoc3 (tokens s) (tokens_all ss) (t_more ∷ []) ts)
      ∙ read_tokens s (tokens_all ss ++ (t_more ∷ ts)) items
      ∙ read_all ss (t_more ∷ ts) (one s ∷ items)

add_nil : (l : List Token) → l ≡ l ++ []
add_nil [] = refl
add_nil (t ∷ l) = ap (λ r. t ∷ r) (add_nil l)

pub from_tokens : (t : Tree) → tree_from (tokens t) ≡ t
from_tokens t = ap (λ l. top (read l [])) (add_nil (tokens t)) ∙ ap top (read_tokens t [] [])
