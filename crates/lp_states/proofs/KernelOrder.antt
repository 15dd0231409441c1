-- Kernels are found by their entries.
use Rattle.std.proofs.Common.{◌≡◌, ℕ, Bool, true, false, List, [], ◌∷◌, map, Option, IsSome, refl, sym, ap, ◌∙◌, subst}
use Rattle.std.specs.BTreeMap as tree
use Rattle.std.specs.BTreeMap.{BTreeMap}
use Rattle.std.specs.List.Sorted.{IsStrictlySortedBy}
use Rattle.std.specs.Map.{lookup}
use Rattle.std.specs.declared.cmp.Ordering.{Ordering}
use Rattle.std.specs.declared.cmp.Ordering.TheVariants.{Less, Equal, Greater}
use Rattle.std.specs.Ordering.{nat_cmp, bool_cmp, ordering_then, eq_by_cmp, is_eq}
use Rattle.std.specs.Cmp.{bool_cmp_total}
use Rattle.std.specs.Cmp.Lexicographic.{slice_cmp}
use Rattle.std.proofs.lemmas.Cmp.{nat_cmp_total, tied_itself}
use Rattle.std.proofs.lemmas.Map.Lookups.{CmpEqualImpliesEq, exact_unsigned}
use Rattle.lp_repr.specs.declared.numbering.Rule.{Rule}
use Rattle.lp_repr.specs.declared.numbering.SymbolNumber.{SymbolNumber}
use Rattle.lp_sets.specs.declared.tokens.TokenSet.{TokenSet}
use Rattle.lp_states.specs.ItemMaps.{ItemMap, item_cmp, lookaheads_at, IsKernelAfter}
use Rattle.lp_states.specs.Actions.{Entry}
use Rattle.lp_states.specs.Building.{kernel_cmp, token_set_cmp}
use Rattle.lp_states.proofs.ItemOrder.{item_total, item_exact}

-- ---- orders that tell all values apart
then_equal : (o p : Ordering) → ordering_then o p ≡ Equal → (o ≡ Equal) × (p ≡ Equal)
then_equal Less p h = cc
then_equal Equal p h = (refl, h)
then_equal Greater p h = cc

bool_exact : CmpEqualImpliesEq bool_cmp
bool_exact true true h = refl
bool_exact true false h = cc
bool_exact false true h = cc
bool_exact false false h = refl

token_set_exact : CmpEqualImpliesEq token_set_cmp
token_set_exact a b h =
    let p = then_equal (nat_cmp a.terminals b.terminals) (bool_cmp a.end b.end) h in
    let e = exact_unsigned a.terminals b.terminals p.0 in
    let f = bool_exact a.end b.end p.1 in
    let s : TokenSet = record { terminals = b.terminals; end = a.end } in
    let x : a ≡ s = ap (λ (n : ℕ). let r : TokenSet = record { terminals = n; end = a.end } in r) e in
    let y : s ≡ b = ap (λ (c : Bool). let r : TokenSet = record { terminals = b.terminals; end = c } in r) f in
    x ∙ y

token_set_itself : (a : TokenSet) → token_set_cmp a a ≡ Equal
token_set_itself a = ap (λ (o : Ordering). ordering_then o (bool_cmp a.end a.end)) (tied_itself nat_cmp_total a.terminals) ∙ tied_itself bool_cmp_total a.end

abbrev entry_cmp : Entry → Entry → Ordering
entry_cmp p q = ordering_then (item_cmp p.0 q.0) (token_set_cmp p.1 q.1)

entry_exact : CmpEqualImpliesEq entry_cmp
entry_exact p q h =
    let w = then_equal (item_cmp p.0 q.0) (token_set_cmp p.1 q.1) h in
    let e = item_exact p.0 q.0 w.0 in
    let f = token_set_exact p.1 q.1 w.1 in
    let s : Entry = (q.0, p.1) in
    let x : p ≡ s = ap (λ (k : ℕ × ℕ). let r : Entry = (k, p.1) in r) e in
    let y : s ≡ q = ap (λ (t : TokenSet). let r : Entry = (q.0, t) in r) f in
    x ∙ y

entries_exact : (xs ys : List Entry) → slice_cmp entry_cmp xs ys ≡ Equal → xs ≡ ys
entries_exact [] [] h = refl
entries_exact [] (y ∷ ys) h = cc
entries_exact (x ∷ xs) [] h = cc
entries_exact (x ∷ xs) (y ∷ ys) h =
    let w = then_equal (entry_cmp x y) (slice_cmp entry_cmp xs ys) h in
    ap (λ (e : Entry). e ∷ xs) (entry_exact x y w.0) ∙ ap (λ (es : List Entry). y ∷ es) (entries_exact xs ys w.1)

entries_itself : (xs : List Entry) → slice_cmp entry_cmp xs xs ≡ Equal
entries_itself [] = refl
entries_itself (x ∷ xs) =
    ap (λ (o : Ordering). ordering_then (ordering_then o (token_set_cmp x.1 x.1)) (slice_cmp entry_cmp xs xs)) (tied_itself item_total x.0)
    ∙ ap (λ (o : Ordering). ordering_then o (slice_cmp entry_cmp xs xs)) (token_set_itself x.1)
    ∙ entries_itself xs

equal_from : (o : Ordering) → is_eq o ≡ true → o ≡ Equal
equal_from Less h = cc
equal_from Equal h = refl
equal_from Greater h = cc

pub kernel_exact : (k l : ItemMap) → eq_by_cmp kernel_cmp k l ≡ true → k.entries ≡ l.entries
kernel_exact k l h = entries_exact k.entries l.entries (equal_from (kernel_cmp k l) h)

pub kernel_itself : (k : ItemMap) → eq_by_cmp kernel_cmp k k ≡ true
kernel_itself k = ap is_eq (entries_itself k.entries)

-- ---- kernels with the same entries
pub found_alike : (m : BTreeMap ItemMap ℕ) (k l : ItemMap) → k.entries ≡ l.entries → tree.get kernel_cmp m k ≡ tree.get kernel_cmp m l
found_alike m k l e = ap (λ (es : List Entry). tree.get_by (λ (n : ItemMap). slice_cmp entry_cmp es n.entries) m) e

at_alike : (k l : ItemMap) → k.entries ≡ l.entries → (p d : ℕ) → lookaheads_at k p d ≡ lookaheads_at l p d
at_alike k l e p d = ap (λ (es : List Entry). lookup (λ q. is_eq (item_cmp (p, d) q)) es) e

pub kernel_after_alike : (rules : List Rule) (start : ℕ) (x : SymbolNumber) (u : List SymbolNumber) (k l : ItemMap) → k.entries ≡ l.entries → IsKernelAfter rules start x u k → IsKernelAfter rules start x u l
kernel_after_alike rules start x u k l e h = record {
  ordered = subst (λ (es : List Entry). IsStrictlySortedBy item_cmp (map (λ (f : Entry). f.0) es)) e h.ordered;
  cores = λ p d. (λ s. (h.cores p d).0 (subst (λ (o : Option TokenSet). IsSome o) (sym (at_alike k l e p d)) s), λ m. subst (λ (o : Option TokenSet). IsSome o) (at_alike k l e p d) ((h.cores p d).1 m));
  lookaheads = λ p d t. (λ s. (h.lookaheads p d t).0 (s.0, at_alike k l e p d ∙ s.1, s.2), λ m. let s = (h.lookaheads p d t).1 m in (s.0, sym (at_alike k l e p d) ∙ s.1, s.2));
}
