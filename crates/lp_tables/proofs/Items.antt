-- Items one by one, and the symbols after their dots.
use Rattle.std.proofs.Common.{◌≡◌, ◌⊎◌, inl, inr, ℕ, ◌+◌, ◌<◌, List, refl, arith, sym, ap, ◌∙◌, subst, Option, Some, None, option_and_then, slice_get, take, ⊎_elim}
use Rattle.std.specs.List.{AllByRecursion}
use Rattle.std.proofs.lemmas.Bool.{cases_lt}
use Rattle.std.proofs.lemmas.Option.{same_Some}
use Rattle.lp_repr.specs.Closure.{HasItem}
use Rattle.lp_repr.specs.declared.lr1.Item.{Item}
use Rattle.lp_repr.specs.declared.numbering.SymbolNumber.{SymbolNumber}
use Rattle.lp_repr.specs.declared.numbering.SymbolNumber.TheVariants as symbol
use Rattle.lp_tables.specs.Numbers.{symbol_of, number_of}
use Rattle.lp_tables.specs.declared.rules.Kind.{Kind}
use Rattle.lp_tables.specs.declared.rules.Kind.TheVariants.{Terminals, Nonterminals}
use Rattle.lp_tables.proofs.Lists.{each_at, each_from, get_take, take_get}

symbol_is : (kind : Kind) (x : SymbolNumber) (n : ℕ) → number_of kind x ≡ Some n → x ≡ symbol_of kind n
symbol_is Terminals (symbol.Terminal m) n e = ap symbol.Terminal (same_Some m n e)
symbol_is Terminals (symbol.Nonterminal m) n e = let no : None ≡ Some n = e in cc
symbol_is Nonterminals (symbol.Terminal m) n e = let no : None ≡ Some n = e in cc
symbol_is Nonterminals (symbol.Nonterminal m) n e = ap symbol.Nonterminal (same_Some m n e)

number_is : (kind : Kind) (n : ℕ) → number_of kind (symbol_of kind n) ≡ Some n
number_is Terminals n = refl
number_is Nonterminals n = refl

-- the symbol after a dot, by its number
pub symbol_after : (kind : Kind) (o : Option SymbolNumber) (n : ℕ) → option_and_then (number_of kind) o ≡ Some n → o ≡ Some (symbol_of kind n)
symbol_after kind None n e = let no : None ≡ Some n = e in cc
symbol_after kind (Some x) n e = ap Some (symbol_is kind x n e)

pub number_from : (kind : Kind) (o : Option SymbolNumber) (n : ℕ) → o ≡ Some (symbol_of kind n) → option_and_then (number_of kind) o ≡ Some n
number_from kind o n e = ap (option_and_then (number_of kind)) e ∙ number_is kind n

-- what holds of each item
pub each_item : (P : ℕ → ℕ → Type 0) (items : List Item) → AllByRecursion (λ (i : Item). P i.production i.index) items → (p d : ℕ) → HasItem items p d → P p d
each_item P items h p d i =
    let at = each_at (λ (i : Item). P i.production i.index) items i.0 i.1 h i.2 in
    subst (λ q. P q d) i.3 (subst (λ e. P (i.1).production e) i.4 at)

pub item_each : (P : ℕ → ℕ → Type 0) (items : List Item) → ((p d : ℕ) → HasItem items p d → P p d) → AllByRecursion (λ (i : Item). P i.production i.index) items
item_each P items h = each_from (λ (i : Item). P i.production i.index) items (λ k i at. h i.production i.index (k, i, at, refl, refl))

-- the items before one, with it
pub item_old : (items : List Item) (i p d : ℕ) → HasItem (take i items) p d → HasItem (take (i + 1) items) p d
item_old items i p d h = let at = get_take items i h.0 h.1 h.2 in (h.0, h.1, take_get items (i + 1) h.0 h.1 (let less : h.0 < i = at.0 in omega arith) at.1, h.3, h.4)

pub item_new : (items : List Item) (i : ℕ) (item : Item) → slice_get items i ≡ Some item → HasItem (take (i + 1) items) item.production item.index
item_new items i item e = (i, item, take_get items (i + 1) i item (omega arith) e, refl, refl)

pub item_more : (items : List Item) (i : ℕ) (item : Item) (p d : ℕ) → slice_get items i ≡ Some item → HasItem (take (i + 1) items) p d → HasItem (take i items) p d ⊎ ((item.production ≡ p) × (item.index ≡ d))
item_more items i item p d e h =
    let at = get_take items (i + 1) h.0 h.1 h.2 in
    ⊎_elim (λ less. inl (h.0, h.1, take_get items i h.0 h.1 less at.1, h.3, h.4))
    (λ past.
    let less : h.0 < i + 1 = at.0 in
    let here : h.0 ≡ i = omega arith in
    let same : h.1 ≡ item = same_Some h.1 item (sym (subst (λ k. slice_get items k ≡ Some h.1) here at.1) ∙ e) in
    inr (ap (λ (x : Item). x.production) (sym same) ∙ h.3, ap (λ (x : Item). x.index) (sym same) ∙ h.4)) (cases_lt h.0 i)
