-- The numbers of the symbols after dots, one item after another.
use Rattle.std.proofs.Common.{◌≡◌, ◌↔◌, ◌⊎◌, inl, inr, ℕ, ◌+◌, Bool, true, false, cond, List, refl, sym, ap, ◌∙◌, subst, Option, Some, None, IsTrue, slice_get, take, ⊎_elim}
use Rattle.std.specs.BTreeMap.{is_at}
use Rattle.std.specs.BTreeSet.{BTreeSet, contains}
use Rattle.std.specs.Option.{option_map}
use Rattle.std.specs.Ordering.{nat_cmp}
use Rattle.std.proofs.lemmas.Bool.{false≢true}
use Rattle.std.proofs.lemmas.Option.{same_Some, some_pair_parts}
use Rattle.lp_repr.specs.Closure.{next_symbol}
use Rattle.lp_repr.specs.ValidTables.{Follows}
use Rattle.lp_repr.specs.declared.lr1.Item.{Item}
use Rattle.lp_repr.specs.declared.lr1.Lr1State.{Lr1State}
use Rattle.lp_repr.specs.declared.numbering.Rule.{Rule}
use Rattle.lp_tables.specs.Edges.{FollowsIn}
use Rattle.lp_tables.specs.Numbers.{symbol_of, number_after}
use Rattle.lp_tables.specs.declared.rules.Kind.{Kind}
use Rattle.lp_tables.proofs.Entries.{at_same, at_itself}
use Rattle.lp_tables.proofs.Items.{item_old, item_new, item_more, symbol_after, number_from}

-- what a step over a symbol tells
pub step_some : (o : Option ℕ) (f : ℕ) (n e : ℕ) → option_map {U = ℕ × ℕ} (λ (k : ℕ). (k, f)) o ≡ Some (n, e) → (o ≡ Some n) × (e ≡ f)
step_some None f n e h = let no : ◌≡◌ {A = Option (ℕ × ℕ)} None (Some (n, e)) = h in cc
step_some (Some k) f n e h = let same = some_pair_parts k n f e h in (ap Some same.0, sym same.1)

pub step_none : (o : Option ℕ) (f : ℕ) → option_map {U = ℕ × ℕ} (λ (k : ℕ). (k, f)) o ≡ None → o ≡ None
step_none None f h = refl
step_none (Some k) f h = let no : ◌≡◌ {A = Option (ℕ × ℕ)} (Some (k, f)) None = h in cc

-- the numbers of the symbols after the dots of one more item
pub follows_old : (rules : List Rule) (kind : Kind) (items : List Item) (i n : ℕ) → FollowsIn rules kind (take i items) n → FollowsIn rules kind (take (i + 1) items) n
follows_old rules kind items i n h = (h.0, h.1, item_old items i h.0 h.1 h.2, h.3)

pub follows_new : (rules : List Rule) (kind : Kind) (items : List Item) (i n : ℕ) (item : Item) → slice_get items i ≡ Some item → number_after rules kind item.production item.index ≡ Some n → FollowsIn rules kind (take (i + 1) items) n
follows_new rules kind items i n item at e = (item.production, item.index, item_new items i item at, e)

pub follows_step : (rules : List Rule) (kind : Kind) (items : List Item) (i n : ℕ) (item : Item) → slice_get items i ≡ Some item → FollowsIn rules kind (take (i + 1) items) n → FollowsIn rules kind (take i items) n ⊎ (number_after rules kind item.production item.index ≡ Some n)
follows_step rules kind items i n item at h =
    ⊎_elim (λ old. inl (h.0, h.1, old, h.3))
    (λ new. inr (subst (λ p. number_after rules kind p item.index ≡ Some n) (sym new.0) (subst (λ d. number_after rules kind h.0 d ≡ Some n) (sym new.1) h.3))) (item_more items i item h.0 h.1 at h.2)

-- a set of these numbers with one more
pub after_more : (rules : List Rule) (kind : Kind) (items : List Item) (i m : ℕ) (item : Item) (s t : BTreeSet ℕ) → slice_get items i ≡ Some item → number_after rules kind item.production item.index ≡ Some m → ((q : ℕ) → contains nat_cmp t q ≡ cond (is_at (nat_cmp m) q) true (contains nat_cmp s q)) → ((n : ℕ) → IsTrue (contains nat_cmp s n) ↔ FollowsIn rules kind (take i items) n) → (n : ℕ) → IsTrue (contains nat_cmp t n) ↔ FollowsIn rules kind (take (i + 1) items) n
after_more rules kind items i m item s t at next e h n =
    elim (is_at (nat_cmp m) n) as (λ a. is_at (nat_cmp m) n ≡ a → contains nat_cmp t n ≡ cond a true (contains nat_cmp s n) → IsTrue (contains nat_cmp t n) ↔ FollowsIn rules kind (take (i + 1) items) n) [
      | true ↦ λ a f. (λ _. follows_new rules kind items i n item at (next ∙ ap Some (at_same m n a)), λ _. f)
      | false ↦ λ a f. (
        λ yes. follows_old rules kind items i n ((h n).0 (sym f ∙ yes)),
        λ p. ⊎_elim (λ old. f ∙ (h n).1 old) (λ new. absurd (false≢true (sym a ∙ (let same : m ≡ n = same_Some m n (sym next ∙ new) in subst (λ k. is_at (nat_cmp m) k ≡ true) same (at_itself m))))) (follows_step rules kind items i n item at p),
      )
    ] refl (e n)

pub after_same : (rules : List Rule) (kind : Kind) (items : List Item) (i : ℕ) (item : Item) (s : BTreeSet ℕ) → slice_get items i ≡ Some item → number_after rules kind item.production item.index ≡ None → ((n : ℕ) → IsTrue (contains nat_cmp s n) ↔ FollowsIn rules kind (take i items) n) → (n : ℕ) → IsTrue (contains nat_cmp s n) ↔ FollowsIn rules kind (take (i + 1) items) n
after_same rules kind items i item s at none h n = (
  λ yes. follows_old rules kind items i n ((h n).0 yes),
  λ p. ⊎_elim (λ old. (h n).1 old) (λ new. let no : None ≡ Some n = sym none ∙ new in cc) (follows_step rules kind items i n item at p),
)

-- what follows a dot, by its number
pub follows_by_number : (rules : List Rule) (kind : Kind) (s : Lr1State) (n : ℕ) → FollowsIn rules kind s.items n → Follows rules s (symbol_of kind n)
follows_by_number rules kind s n h = (h.0, h.1, h.2, symbol_after kind (next_symbol rules h.0 h.1) n h.3)

pub number_of_follows : (rules : List Rule) (kind : Kind) (s : Lr1State) (n : ℕ) → Follows rules s (symbol_of kind n) → FollowsIn rules kind s.items n
number_of_follows rules kind s n h = (h.0, h.1, h.2, number_from kind (next_symbol rules h.0 h.1) n h.3)

-- edges on the numbers of what follows dots
pub stand_of : (rules : List Rule) (kind : Kind) (s : Lr1State) (HasEdge Member : ℕ → Type 0) (b : Bool) → ((n : ℕ) → Member n ↔ FollowsIn rules kind s.items n) → (IsTrue b ↔ ((n : ℕ) → HasEdge n ↔ Member n)) → IsTrue b ↔ ((n : ℕ) → HasEdge n ↔ Follows rules s (symbol_of kind n))
stand_of rules kind s HasEdge Member b these h = (
  λ yes n. (λ e. follows_by_number rules kind s n ((these n).0 ((h.0 yes n).0 e)), λ f. (h.0 yes n).1 ((these n).1 (number_of_follows rules kind s n f))),
  λ all. h.1 (λ n. (λ e. (these n).1 (number_of_follows rules kind s n ((all n).0 e)), λ m. (all n).1 (follows_by_number rules kind s n ((these n).0 m)))),
)
