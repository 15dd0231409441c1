-- A closure is what is given and the productions, with the dot first, of the nonterminals that it opens.
use Rattle.std.proofs.Common.{◌≡◌, ◌↔◌, ◌⊎◌, inl, inr, ℕ, zero, suc, ◌+◌, ◌<◌, ◌≤◌, Bool, true, false, List, [], ◌∷◌, refl, arith, sym, ap, ◌∙◌, subst, Some, None, IsTrue, slice_get, get_or, length, ◌==◌, eqb-true, eq-eqb, ⊎_elim}
use Rattle.std.specs.List.{AllByRecursion, list_all}
use Rattle.std.proofs.lemmas.Bool.{cases_lt, false≢true}
use Rattle.std.proofs.lemmas.Option.{same_Some, slice_get_within}
use Rattle.lp_repr.specs.Closure.{next_symbol, HasLeft, HasItem, InClosure, given, opened}
use Rattle.lp_repr.specs.ValidTables.{Begins}
use Rattle.lp_repr.specs.declared.lr1.Item.{Item}
use Rattle.lp_repr.specs.declared.lr1.Lr1State.{Lr1State}
use Rattle.lp_repr.specs.declared.numbering.Rule.{Rule}
use Rattle.lp_repr.specs.declared.numbering.SymbolNumber.TheVariants.{Nonterminal}
use Rattle.lp_tables.specs.Opening.{Opens, first, onward, FollowsKernel, AreOpened, IsOpenedAt, BeginsOpened, IsClosed}
use Rattle.lp_tables.proofs.Items.{each_item, item_each}
use Rattle.lp_tables.proofs.Lists.{all_tests}

-- a production of an opened nonterminal
abbrev OpensAt : List Rule → (ℕ → Type 0) → ℕ → Type 0
OpensAt rules First q = (n : ℕ) × HasLeft rules q n × Opens rules First n

-- the items with a symbol before the dot
abbrev Kernel : Lr1State → ℕ → ℕ → Type 0
Kernel s p d = HasItem s.items p d × (0 < d)

parts_of : (rules : List Rule) (s : Lr1State) (p d : ℕ) → InClosure rules (Kernel s) p d → Kernel s p d ⊎ ((d ≡ 0) × OpensAt rules (FollowsKernel rules s.items) p)
parts_of rules s _ _ (given p d h) = inl h
parts_of rules s _ _ (opened p d n q c e l) =
    inr (refl, (n, l, ⊎_elim (λ k. first n (p, d, k.0, k.1, e)) (λ o. let by = o.1 in onward by.0 n by.2 (p, by.1, subst (λ i. next_symbol rules p i ≡ Some (Nonterminal n)) o.0 e)) (parts_of rules s p d c)))

opens_in : (rules : List Rule) (s : Lr1State) (n : ℕ) → Opens rules (FollowsKernel rules s.items) n → (q : ℕ) → HasLeft rules q n → InClosure rules (Kernel s) q 0
opens_in rules s _ (first n k) q l = opened k.0 k.1 n q (given k.0 k.1 (k.2, k.3)) k.4 l
opens_in rules s _ (onward by n o r) q l = opened r.0 0 n q (opens_in rules s by o r.0 r.1) r.2 l

-- the marks tell whether a state is closed
pub closed_by_marks : (rules : List Rule) (s : Lr1State) (marks : List Bool) (b : Bool) → AreOpened rules (FollowsKernel rules s.items) marks → (IsTrue b ↔ BeginsOpened rules marks s.items) → IsTrue b ↔ IsClosed rules s
closed_by_marks rules s marks b h told = (
  λ t.
      let begins = told.0 t in
      λ p d. (
        λ i.
            ⊎_elim (λ pos. given p d (i, pos))
            (λ none.
            let zero : d ≡ 0 = omega arith in
            let at = (begins p).0 (subst (HasItem s.items p) zero i) in
            subst (InClosure rules (Kernel s) p) (sym zero) (opens_in rules s at.0 ((h p at.0 at.1).0 at.2) p at.1)) (cases_lt 0 d),
        λ c.
            ⊎_elim (λ k. k.0) (λ o. let by = o.1 in subst (HasItem s.items p) (sym o.0) ((begins p).1 (by.0, by.1, (h p by.0 by.1).1 by.2))) (parts_of rules s p d c),
      ),
  λ closed.
      told.1
      (λ q. (
        λ i.
            ⊎_elim (λ k. absurd (let pos : 0 < 0 = k.1 in omega arith)) (λ o. let by = o.1 in (by.0, by.1, (h q by.0 by.1).1 by.2)) (parts_of rules s q 0 ((closed q 0).0 i)),
        λ at. (closed q 0).1 (opens_in rules s at.0 ((h q at.0 at.1).0 at.2) q at.1),
      )),
)

-- the productions of a start with the dot first
abbrev Starts : List Rule → ℕ → ℕ → ℕ → Type 0
Starts rules start p d = (d ≡ 0) × HasLeft rules p start

begins_parts : (rules : List Rule) (start p d : ℕ) → InClosure rules (Starts rules start) p d → (d ≡ 0) × OpensAt rules (λ n. n ≡ start) p
begins_parts rules start _ _ (given p d h) = (h.0, (start, h.1, first start refl))
begins_parts rules start _ _ (opened p d n q c e l) =
    let o = begins_parts rules start p d c in
    let by = o.1 in
    (refl, (n, l, onward by.0 n by.2 (p, by.1, subst (λ i. next_symbol rules p i ≡ Some (Nonterminal n)) o.0 e)))

begins_in : (rules : List Rule) (start n : ℕ) → Opens rules (λ n. n ≡ start) n → (q : ℕ) → HasLeft rules q n → InClosure rules (Starts rules start) q 0
begins_in rules start _ (first n e) q l = given q 0 (refl, subst (HasLeft rules q) e l)
begins_in rules start _ (onward by n o r) q l = opened r.0 0 n q (begins_in rules start by o r.0 r.1) r.2 l

-- the marks tell whether a state without items that have a symbol before the dot begins
pub begins_by_marks : (rules : List Rule) (start : ℕ) (s : Lr1State) (marks : List Bool) (b : Bool) → ((p d : ℕ) → HasItem s.items p d → d ≡ 0) → AreOpened rules (λ n. n ≡ start) marks → (IsTrue b ↔ BeginsOpened rules marks s.items) → IsTrue b ↔ Begins rules (Some start) s
begins_by_marks rules start s marks b first_dots h told = (
  λ t.
      let begins = told.0 t in
      λ p d. (
        λ i.
            let zero : d ≡ 0 = first_dots p d i in
            let at = (begins p).0 (subst (HasItem s.items p) zero i) in
            subst (InClosure rules (Starts rules start) p) (sym zero) (begins_in rules start at.0 ((h p at.0 at.1).0 at.2) p at.1),
        λ c. let o = begins_parts rules start p d c in let by = o.1 in subst (HasItem s.items p) (sym o.0) ((begins p).1 (by.0, by.1, (h p by.0 by.1).1 by.2)),
      ),
  λ closed.
      told.1
      (λ q. (
        λ i. let o = begins_parts rules start q 0 ((closed q 0).0 i) in let by = o.1 in (by.0, by.1, (h q by.0 by.1).1 by.2),
        λ at. (closed q 0).1 (begins_in rules start at.0 ((h q at.0 at.1).0 at.2) q at.1),
      )),
)

-- a state that begins has no item with a symbol before the dot
pub begins_first : (rules : List Rule) (start : ℕ) (s : Lr1State) → Begins rules (Some start) s → (p d : ℕ) → HasItem s.items p d → d ≡ 0
begins_first rules start s h p d i = (begins_parts rules start p d ((h p d).0 i)).0

-- without a start no state begins: it would have every number of a production
unfoldable above : List Item → ℕ
above [] = 0
above (x ∷ xs) = suc (x.production + above xs)

below_above : (items : List Item) (i : ℕ) (item : Item) → slice_get items i ≡ Some item → item.production < above items
unfolding above
below_above [] i item e = let no : None ≡ Some item = e in cc
below_above (x ∷ xs) zero item e = let same : x ≡ item = cc in subst (λ (y : Item). y.production < suc (x.production + above xs)) same (omega arith)
below_above (x ∷ xs) (suc i) item e = let more = below_above xs i item e in omega arith

pub never_begins : (rules : List Rule) (s : Lr1State) → ¬ Begins rules None s
never_begins rules s h =
    let i = (h (above s.items) 0).1 (given (above s.items) 0 (refl, tt)) in
    let less = below_above s.items i.0 i.1 i.2 in
    omega (arith, less, i.3)

-- the productions of marked nonterminals, one by one
pub begin_here : (rules : List Rule) (marks : List Bool) (Has : ℕ → Type 0) (k : ℕ) (r : Rule) → slice_get rules k ≡ Some r → (IsTrue (get_or marks r.left false) → Has k) → IsOpenedAt rules marks k → Has k
begin_here rules marks Has k r at h o =
    let l = o.1 in
    let same : l.0 ≡ r = same_Some l.0 r (sym l.1 ∙ at) in
    h (subst (λ n. IsTrue (get_or marks n false)) (sym l.2 ∙ ap (λ (x : Rule). x.left) same) o.2)

pub begin_fails : (rules : List Rule) (marks : List Bool) (Has : ℕ → Type 0) (k : ℕ) (r : Rule) → slice_get rules k ≡ Some r → ¬ (IsTrue (get_or marks r.left false) → Has k) → IsTrue false ↔ ((p : ℕ) → IsOpenedAt rules marks p → Has p)
begin_fails rules marks Has k r at not_so = (λ no. absurd (false≢true no), λ all. absurd (not_so (λ m. all k (r.left, (r, at, refl), m))))

pub begin_all : (rules : List Rule) (marks : List Bool) (Has : ℕ → Type 0) (i : ℕ) → length rules ≤ i → ((k : ℕ) → k < i → IsOpenedAt rules marks k → Has k) → IsTrue true ↔ ((p : ℕ) → IsOpenedAt rules marks p → Has p)
begin_all rules marks Has i past h = (λ _ p o. let l = o.1 in h p (let within : p < length rules = slice_get_within rules p l.0 l.1 in omega arith) o, λ _. refl)

-- the items with the dot first, by what stands in a set and what is marked
pub begins_both : (rules : List Rule) (marks : List Bool) (items : List Item) (Has : ℕ → ℕ → Type 0) → ((p d : ℕ) → Has p d ↔ HasItem items p d) → AllByRecursion (λ (i : Item). i.index ≡ 0 → IsOpenedAt rules marks i.production) items → ((p : ℕ) → IsOpenedAt rules marks p → Has p 0) → BeginsOpened rules marks items
begins_both rules marks items Has of alone all = λ q. (λ i. each_item (λ p d. d ≡ 0 → IsOpenedAt rules marks p) items alone q 0 i refl, λ o. (of q 0).0 (all q o))

pub begins_alone_of : (rules : List Rule) (marks : List Bool) (items : List Item) → BeginsOpened rules marks items → AllByRecursion (λ (i : Item). i.index ≡ 0 → IsOpenedAt rules marks i.production) items
begins_alone_of rules marks items h = item_each (λ p d. d ≡ 0 → IsOpenedAt rules marks p) items (λ p d i e. (h p).0 (subst (HasItem items p) e i))

pub all_begin_of : (rules : List Rule) (marks : List Bool) (items : List Item) (Has : ℕ → ℕ → Type 0) → ((p d : ℕ) → Has p d ↔ HasItem items p d) → BeginsOpened rules marks items → (p : ℕ) → IsOpenedAt rules marks p → Has p 0
all_begin_of rules marks items Has of h = λ p o. (of p 0).1 ((h p).1 o)

-- items with their dots first
pub first_dots : (items : List Item) → list_all (λ i. i.index == 0) items ≡ true → (p d : ℕ) → HasItem items p d → d ≡ 0
first_dots items e = each_item (λ p d. d ≡ 0) items ((all_tests (λ (i : Item). i.index == 0) (λ i. i.index ≡ 0) (λ i. (eqb-true i.index 0, eq-eqb i.index 0)) items).0 e)

pub some_dot : (items : List Item) → list_all (λ i. i.index == 0) items ≡ false → ((p d : ℕ) → HasItem items p d → d ≡ 0) → ⊥
some_dot items e h = false≢true (sym e ∙ (all_tests (λ (i : Item). i.index == 0) (λ i. i.index ≡ 0) (λ i. (eqb-true i.index 0, eq-eqb i.index 0)) items).1 (item_each (λ p d. d ≡ 0) items h))
