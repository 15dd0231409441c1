-- One more piece of a combination.
use Rattle.std.proofs.Common.{◌≡◌, ℕ, ◌<◌, zero, suc, Bool, ◌||◌, List, [], ◌∷◌, ◌++◌, length, map, Some, Bor, sym, ap, ◌∙◌, arith}
use Rattle.std.proofs.Math.ListN.{get_or}
use Rattle.std.specs.List.{slice_get}
use Rattle.std.specs.Option.{option_map}
use Rattle.std.proofs.lemmas.List.{length-map}
use Rattle.std.proofs.lemmas.Option.{slice_get-map}
use Rattle.lp_repr.specs.declared.repr.InlinedSymbol.{InlinedSymbol}
use Rattle.lp_repr.specs.declared.repr.InlinedSymbol.TheVariants as inlined
use Rattle.lp_repr.specs.declared.repr.Symbol.{Symbol}
use Rattle.lp_lower.specs.Pieces.{Piece, itself, chosen, pieces_of, with_piece}
use Rattle.lp_lower.specs.declared.combine.Combination.{Combination}
use Rattle.lp_lower.specs.declared.combine.Expanded.{Expanded}
use Rattle.lp_lower.specs.declared.combine.Part.{Part}
use Rattle.lp_lower.specs.declared.combine.Part.TheVariants as part
use Rattle.lp_lower.proofs.Combining.{combination, or_nothing, some_at}

-- as many pieces as expanded alternatives
pub length-options : (p : Part) (es : Bor (List Expanded)) → p ≡ part.Options es → length (pieces_of p) ≡ length es.now
length-options p es e = ap (λ (q : Part). length (pieces_of q)) e ∙ length-map es.now chosen

-- the one element of a list
only_at : {X : Type 0} (y : X) (n : ℕ) (x : X) → slice_get (y ∷ []) n ≡ Some x → y ≡ x
only_at y zero x h = cc
only_at y (suc n) x h = cc

-- the element of a number, as a look-up tells it
got_at : {X : Type 0} (xs : List X) (n : ℕ) (x : X) → n < length xs → get_or xs n x ≡ x → slice_get xs n ≡ Some x
got_at [] n x h at = absurd (omega arith)
got_at (y ∷ xs) zero x h at = ap (λ z. Some z) at
got_at (y ∷ xs) (suc n) x h at = got_at xs n x (omega arith) at

-- the piece of a symbol that stands for itself
pub itself_at : (p : Part) (s : Symbol) (n : ℕ) (x : Piece) → p ≡ part.Itself s → slice_get (pieces_of p) n ≡ Some x → itself s ≡ x
itself_at p s n x e h = only_at (itself s) n x (ap (λ (q : Part). slice_get (pieces_of q) n) (sym e) ∙ h)

-- and no other
pub option_at : (es : List Expanded) (n : ℕ) (d x : Expanded) → n < length es → get_or es n d ≡ d → slice_get es n ≡ Some x → d ≡ x
option_at es n d x less at h = let e : Some d ≡ Some x = sym (got_at es n d less at) ∙ h in cc

-- the piece of a chosen expanded alternative
pub chosen_at : (p : Part) (es : Bor (List Expanded)) (n : ℕ) (x : Piece) → p ≡ part.Options es → n < length es.now → slice_get (pieces_of p) n ≡ Some x → (d : Expanded) × (slice_get es.now n ≡ Some d) × (chosen d ≡ x)
chosen_at p es n x e less h =
    let found = some_at es.now n less in
    let made : slice_get (map chosen es.now) n ≡ Some (chosen found.0) = slice_get-map chosen es.now n ∙ ap (option_map chosen) found.1 in
    let told : slice_get (map chosen es.now) n ≡ Some x = ap (λ (q : Part). slice_get (pieces_of q) n) (sym e) ∙ h in
    let same : chosen found.0 ≡ x = let s : Some (chosen found.0) ≡ Some x = sym made ∙ told in cc in
    (found.0, found.1, same)

-- a symbol is added
pub symbol_added : (c : Combination) (s a b : Symbol) (is : List InlinedSymbol) (ss : List Symbol) → a ≡ s → b ≡ s → is ≡ c.inlined ++ inlined.Original a ∷ [] → ss ≡ c.symbols ++ b ∷ [] → combination is c.fallible ss ≡ with_piece c (itself s)
symbol_added c s a b is ss a_is b_is one two =
    let inlined_are = c.inlined ++ inlined.Original s ∷ [] in
    let symbols_are = c.symbols ++ s ∷ [] in
    ap (λ x. combination x c.fallible ss) (one ∙ ap (λ y. c.inlined ++ inlined.Original y ∷ []) a_is)
    ∙ (ap (λ x. combination inlined_are c.fallible x) (two ∙ ap (λ y. c.symbols ++ y ∷ []) b_is)
    ∙ ap (λ x. combination inlined_are x symbols_are) (sym (or_nothing c.fallible)))

-- an expanded alternative is added
pub expanded_added : (c : Combination) (e : Expanded) (inner : List Symbol) (is : List InlinedSymbol) (fallible : Bool) (ss : List Symbol) → inner ≡ e.symbols → is ≡ c.inlined ++ inlined.Inlined e.action inner ∷ [] → fallible ≡ (c.fallible || e.fallible) → ss ≡ c.symbols ++ e.symbols → combination is fallible ss ≡ with_piece c (chosen e)
expanded_added c e inner is fallible ss inner_is one fails two =
    let inlined_are = c.inlined ++ inlined.Inlined e.action e.symbols ∷ [] in
    ap (λ x. combination x fallible ss) (one ∙ ap (λ y. c.inlined ++ inlined.Inlined e.action y ∷ []) inner_is)
    ∙ (ap (λ x. combination inlined_are x ss) fails ∙ ap (λ x. combination inlined_are (c.fallible || e.fallible) x) two)
