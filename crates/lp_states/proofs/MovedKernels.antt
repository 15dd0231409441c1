-- The kernel that an item is added to.
use Rattle.std.proofs.Common.{◌≡◌, ℕ, ◌+◌, Bool, cond, [], Option, Some, None, sym, ap, ◌∙◌}
use Rattle.std.specs.BTreeMap as tree
use Rattle.std.specs.BTreeMap.{BTreeMap}
use Rattle.std.specs.Option.{option_and_then, SomeIff}
use Rattle.std.specs.Ordering.{eq_by_cmp}
use Rattle.lp_repr.specs.declared.numbering.SymbolNumber.{SymbolNumber}
use Rattle.lp_sets.specs.declared.tokens.TokenSet.{TokenSet}
use Rattle.lp_states.specs.ItemMaps.{ItemMap, item_cmp, IsPut}
use Rattle.lp_states.specs.Actions.{symbol_cmp}

-- what stands at each item of a set that may not be there
abbrev pub IsKernelOf : BTreeMap SymbolNumber ItemMap → SymbolNumber → ItemMap → Type 0
IsKernelOf found x kernel = (q : ℕ × ℕ) → tree.get item_cmp kernel q ≡ option_and_then (λ (m : ItemMap). tree.get item_cmp m q) (tree.get symbol_cmp found x)

pub kernel_of_none : (found : BTreeMap SymbolNumber ItemMap) (x : SymbolNumber) (kernel : ItemMap) → tree.get symbol_cmp found x ≡ None → kernel.entries ≡ [] → IsKernelOf found x kernel
kernel_of_none found x kernel none empty q =
    rw empty (sym (ap (option_and_then (λ (m : ItemMap). tree.get item_cmp m q)) none))

pub kernel_of_some : (found : BTreeMap SymbolNumber ItemMap) (x : SymbolNumber) (kernel : ItemMap) → tree.get symbol_cmp found x ≡ Some kernel → IsKernelOf found x kernel
kernel_of_some found x kernel at q = sym (ap (option_and_then (λ (m : ItemMap). tree.get item_cmp m q)) at)

pub some_at : {X : Type 0} (o : Option X) (P : Type 0) (v x : X) → o ≡ Some x → SomeIff o P v → x ≡ v
some_at None P v x e h = cc
some_at (Some y) P v x e h = cc

-- the kernel with the item
pub items_of : (found : BTreeMap SymbolNumber ItemMap) (x : SymbolNumber) (kernel new : ItemMap) (p d e : ℕ) (copy s : TokenSet) → IsKernelOf found x kernel → IsPut item_cmp kernel new (p, d) copy → d ≡ e + 1 → copy ≡ s → (q : ℕ × ℕ) → tree.get item_cmp new q ≡ cond (eq_by_cmp item_cmp (p, e + 1) q) (Some s) (option_and_then (λ (k : ItemMap). tree.get item_cmp k q) (tree.get symbol_cmp found x))
items_of found x kernel new p d e copy s of put same copied q =
    put q
    ∙ ap (λ (o : Option TokenSet). cond (eq_by_cmp item_cmp (p, d) q) (Some copy) o) (of q)
    ∙ ap (λ (n : ℕ). cond (eq_by_cmp item_cmp (p, n) q) (Some copy) (option_and_then (λ (k : ItemMap). tree.get item_cmp k q) (tree.get symbol_cmp found x))) same
    ∙ ap (λ (v : TokenSet). cond (eq_by_cmp item_cmp (p, e + 1) q) (Some v) (option_and_then (λ (k : ItemMap). tree.get item_cmp k q) (tree.get symbol_cmp found x))) copied

set_of : ℕ → Bool → TokenSet
set_of n b = record { terminals = n; end = b }

pub same_tokens : (s t : TokenSet) → s.terminals ≡ t.terminals → s.end ≡ t.end → s ≡ t
unfolding set_of
same_tokens s t e f = ap (λ (n : ℕ). set_of n s.end) e ∙ ap (set_of t.terminals) f
