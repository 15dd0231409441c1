-- Items that were tested are in range.
use Rattle.std.proofs.Common.{◌≡◌, ◌≤◌, true, List, [], ◌∷◌, ℕ, length, refl, sym, ap, subst, Bor}
use Rattle.std.specs.Prelude.{Option, Some, None, unwrap_or, slice_get, map}
use Rattle.std.specs.Map.Iter.{deref}
use Rattle.std.specs.Option.{option_map}
use Rattle.std.specs.List.{list_all}
use Rattle.std.proofs.lemmas.Option.{slice_get_within, slice_get-map}
use Rattle.std.proofs.lemmas.Bool.{leb-true}
use Rattle.std.specs.List.{AllPass}
use Rattle.std.proofs.lemmas.List.Sums.{AllPass-from_list_all}
use Rattle.std.proofs.lemmas.List.Elements.{All-head, All-tail}
use Rattle.lp_repr.specs.declared.repr.Grammar.{Grammar}
use Rattle.lp_repr.specs.declared.repr.Production.{Production}
use Rattle.lp_repr.specs.declared.lr1.Item.{Item}
use Rattle.lp_repr.specs.Numbering.{productions_of}
use Rattle.lp_repr.specs.StateParts.{AreInRange, IsInRange, symbols_of}
use Rattle.lp_ascent.specs.Ranges.{is_within, is_in_range}

item_in_range : (g : Grammar) (x : Item) (p : Option Production) → slice_get (productions_of g) x.production ≡ p → is_within x.index p ≡ true → IsInRange g x
item_in_range g x None e is = absurd cc
item_in_range g x (Some p) e is =
    let symbols : symbols_of g x ≡ p.symbols = ap (λ o. unwrap_or (option_map (λ p. p.symbols) o) []) e in
    (slice_get_within _ _ p e, subst (λ l. x.index ≤ length l) (sym symbols) (leb-true _ _ is))

each_in_range : (g : Grammar) (items : List Item) → AllPass (is_in_range (productions_of g)) items → AreInRange g items
each_in_range g [] all = tt
each_in_range g (x ∷ xs) all = (item_in_range g x _ refl (All-head (λ y. is_in_range (productions_of g) y ≡ true) x xs all), each_in_range g xs (All-tail (λ y. is_in_range (productions_of g) y ≡ true) x xs all))

-- items of which each was tested
pub in_range : (g : Grammar) (items : List Item) (productions : List Production) → productions ≡ productions_of g → list_all (is_in_range productions) items ≡ true → AreInRange g items
in_range g items productions same all = each_in_range g items (AllPass-from_list_all _ items (subst (λ ps. list_all (is_in_range ps) items ≡ true) same all))

-- the production that references name at a place
pub referred : (refs : List (Bor Production)) (n : ℕ) → slice_get (map deref refs) n ≡ option_map deref (slice_get refs n)
referred refs n = slice_get-map deref refs n
