-- Symbols and values at the places of a path: how many there are, the first ones, one more, and where they stand.
use Rattle.std.proofs.Common.{◌≡◌, ℕ, zero, suc, ◌-◌, List, [], ◌∷◌, ◌++◌, length, map, take, drop, Option, Some, None, refl, sym, ap, ◌∙◌}
use Rattle.std.specs.Prelude.{slice_get}
use Rattle.std.specs.Option.{option_map}
use Rattle.std.proofs.lemmas.List.{length-map, map-append, take-map, drop-map}
use Rattle.std.proofs.lemmas.Option.{slice_get-map}
use Rattle.lp_repr.specs.declared.values.Loc.{Loc}
use Rattle.lp_repr.specs.declared.values.Loc.TheVariants.{Default}
use Rattle.lp_repr.specs.declared.numbering.SymbolNumber.{SymbolNumber}
use Rattle.lp_driver.specs.DriverState as driver
use Rattle.lp_driver.specs.DriverState.{Recovering, last_of}
use Rattle.lp_driver.specs.RecoveryTurns.{start_or, end_or, loc_or, error_start_of, error_end_of}
use Rattle.lp_driver.specs.Values.{Spanned, Value}
use Rattle.lp_machine.specs.DriverStanding.{in_hand}
use Rattle.lp_machine.specs.Recovery.{error_start, error_end}
use Rattle.lp_machine.specs.ReductionSpan.{below}
use Rattle.lp_machine.specs.StackMachine.{lookahead_start}
use Rattle.lp_turn_laws.specs.Alike.Symbols.{Place, symbol_at, mine_at, value_at, AreAlike}

-- the rest of a list
first_after : {A : Type 0} (xs : List A) (n : ℕ) → slice_get (drop n xs) 0 ≡ slice_get xs n
first_after [] zero = refl
first_after [] (suc n) = refl
first_after (x ∷ xs) zero = refl
first_after (x ∷ xs) (suc n) = first_after xs n

pub below_map : {X Y : Type 0} (f : X → Y) (n : ℕ) (ps : List X) → below n (map f ps) ≡ map f (below n ps)
below_map f n ps = ap (λ (k : ℕ). take (k - n) (map f ps)) (length-map ps f) ∙ take-map f (length ps - n) ps

pub same_start : (l : Option driver.Lookahead) → driver.lookahead_start l ≡ lookahead_start (in_hand l)
same_start None = refl
same_start (Some l) = refl

module _ {S : Type 0} (Is : SymbolNumber → S → Value → Type 0) where
  pub none_alike : AreAlike Is [] [] []
  none_alike = record { places = []; symbols = refl; own = refl; values = refl }

  module _ (xs : List SymbolNumber) (mine : List (Spanned S)) (triples : List (Spanned Value)) (a : AreAlike Is xs mine triples) where
    pub as_many_values : length triples ≡ length xs
    as_many_values = ap length a.values ∙ length-map a.places value_at ∙ sym (length-map a.places symbol_at) ∙ ap length (sym a.symbols)

    pub as_many_own : length mine ≡ length xs
    as_many_own = ap length a.own ∙ length-map a.places mine_at ∙ sym (length-map a.places symbol_at) ∙ ap length (sym a.symbols)

    pub below_alike : (n : ℕ) → AreAlike Is (below n xs) (below n mine) (below n triples)
    below_alike n = record {
      places = below n a.places;
      symbols = ap (below n) a.symbols ∙ below_map symbol_at n a.places;
      own = ap (below n) a.own ∙ below_map mine_at n a.places;
      values = ap (below n) a.values ∙ below_map value_at n a.places;
    }

    pub take_alike : (n : ℕ) → AreAlike Is (take n xs) (take n mine) (take n triples)
    take_alike n = record {
      places = take n a.places;
      symbols = ap (take n) a.symbols ∙ take-map symbol_at n a.places;
      own = ap (take n) a.own ∙ take-map mine_at n a.places;
      values = ap (take n) a.values ∙ take-map value_at n a.places;
    }

    drop_alike : (n : ℕ) → AreAlike Is (drop n xs) (drop n mine) (drop n triples)
    drop_alike n = record {
      places = drop n a.places;
      symbols = ap (drop n) a.symbols ∙ drop-map symbol_at n a.places;
      own = ap (drop n) a.own ∙ drop-map mine_at n a.places;
      values = ap (drop n) a.values ∙ drop-map value_at n a.places;
    }

    pub one_more_alike : (x : SymbolNumber) (from to : Loc) (s : S) (v : Value) → Is x s v → AreAlike Is (xs ++ x ∷ []) (mine ++ (from, s, to) ∷ []) (triples ++ (from, v, to) ∷ [])
    one_more_alike x from to s v is =
        let p : Place Is = record { from = from; symbol = x; mine = s; value = v; is = is; to = to } in
        record {
          places = a.places ++ p ∷ [];
          symbols = ap (λ (l : List SymbolNumber). l ++ x ∷ []) a.symbols ∙ sym (map-append symbol_at a.places (p ∷ []));
          own = ap (λ (l : List (Spanned S)). l ++ (from, s, to) ∷ []) a.own ∙ sym (map-append mine_at a.places (p ∷ []));
          values = ap (λ (l : List (Spanned Value)). l ++ (from, v, to) ∷ []) a.values ∙ sym (map-append value_at a.places (p ∷ []));
        }

    start_at : (at : Loc) (o : Option (Place Is)) → start_or (option_map mine_at o) at ≡ start_or (option_map value_at o) at
    start_at at None = refl
    start_at at (Some p) = refl

    end_at : (at : Loc) (o : Option (Place Is)) → end_or (option_map mine_at o) at ≡ end_or (option_map value_at o) at
    end_at at None = refl
    end_at at (Some p) = refl

    -- they begin and end at the same places
    start_alike : (n : ℕ) (at : Loc) → start_or (slice_get mine n) at ≡ start_or (slice_get triples n) at
    start_alike n at =
        ap (λ (l : List (Spanned S)). start_or (slice_get l n) at) a.own ∙ ap (λ (o : Option (Spanned S)). start_or o at) (slice_get-map mine_at a.places n) ∙ start_at at (slice_get a.places n)
        ∙ ap (λ (o : Option (Spanned Value)). start_or o at) (sym (slice_get-map value_at a.places n)) ∙ ap (λ (l : List (Spanned Value)). start_or (slice_get l n) at) (sym a.values)

    end_alike : (at : Loc) → end_or (last_of mine) at ≡ end_or (last_of triples) at
    end_alike at =
        let n = length a.places - 1 in
        ap (λ (l : List (Spanned S)). end_or (last_of l) at) a.own ∙ ap (λ (k : ℕ). end_or (slice_get (map mine_at a.places) (k - 1)) at) (length-map a.places mine_at)
        ∙ ap (λ (o : Option (Spanned S)). end_or o at) (slice_get-map mine_at a.places n) ∙ end_at at (slice_get a.places n) ∙ ap (λ (o : Option (Spanned Value)). end_or o at) (sym (slice_get-map value_at a.places n))
        ∙ ap (λ (k : ℕ). end_or (slice_get (map value_at a.places) (k - 1)) at) (sym (length-map a.places value_at)) ∙ ap (λ (l : List (Spanned Value)). end_or (last_of l) at) (sym a.values)

  -- so the error symbol stands at the same place
  module _ (xs : List SymbolNumber) (mine : List (Spanned S)) (triples : List (Spanned Value)) (a : AreAlike Is xs mine triples) (r : Recovering) (place : ℕ) where
    pub error_starts : error_start_of r mine place Default ≡ error_start (drop place triples) r.dropped (take place triples)
    error_starts =
        ap (λ (at : Loc). start_or (slice_get mine place) (start_or (slice_get r.dropped 0) at)) (end_alike (take place xs) (take place mine) (take place triples) (take_alike xs mine triples a place) Default)
        ∙ start_alike xs mine triples a place (start_or (slice_get r.dropped 0) (end_or (last_of (take place triples)) Default))
        ∙ ap (λ (o : Option (Spanned Value)). start_or o (start_or (slice_get r.dropped 0) (end_or (last_of (take place triples)) Default))) (sym (first_after triples place))

    pub error_ends : (start : Loc) → error_end_of r mine place start ≡ error_end (drop place triples) r.dropped (lookahead_start (in_hand r.lookahead)) start
    error_ends start =
        ap (λ (at : Loc). end_or (last_of r.dropped) at) (end_alike (drop place xs) (drop place mine) (drop place triples) (drop_alike xs mine triples a place) (loc_or (driver.lookahead_start r.lookahead) start))
        ∙ ap (λ (o : Option Loc). end_or (last_of r.dropped) (end_or (last_of (drop place triples)) (loc_or o start))) (same_start r.lookahead)
