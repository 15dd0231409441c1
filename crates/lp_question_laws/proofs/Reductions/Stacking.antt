-- The symbols that a reduction takes off, where the program's stack is alike to the machine's.
use Rattle.std.proofs.Common.{◌≡◌, ℕ, zero, suc, ◌-◌, ◌≤◌, ◌^◌, List, [], ◌∷◌, ◌++◌, length, map, take, drop, Option, Some, None, slice_get, refl, sym, ap, ◌∙◌, subst, arith}
use Rattle.std.specs.Option.{option_map}
use Rattle.std.proofs.lemmas.List.{length-map, take-append-drop}
use Rattle.std.proofs.lemmas.Option.{slice_get-map}
use Rattle.lp_repr.specs.Numbering.{number_or_count, symbol_number}
use Rattle.lp_repr.specs.declared.numbering.SymbolNumber.{SymbolNumber}
use Rattle.lp_repr.specs.declared.repr.Grammar.{Grammar}
use Rattle.lp_repr.specs.declared.repr.Symbol as repr
use Rattle.lp_repr.specs.declared.values.Loc.{Loc}
use Rattle.lp_repr.specs.declared.values.Loc.TheVariants.{Default}
use Rattle.lp_driver.specs.DriverState.{last_of}
use Rattle.lp_driver.specs.RecoveryTurns.{end_or}
use Rattle.lp_driver.specs.Values.{Spanned, Value}
use Rattle.lp_core.specs.Val.{Val}
use Rattle.lp_parts.specs.Variants.{variant_types}
use Rattle.lp_table.specs.Pieces.{variant_text}
use Rattle.lp_table.specs.Starts.{Start}
use Rattle.lp_table.specs.ReductionLines.{variant_at, symbol_variant}
use Rattle.lp_view.specs.PartLists.{Form}
use Rattle.lp_maker.specs.declared.methods.Methods.{Methods}
use Rattle.lp_maker.specs.Making.{Making}
use Rattle.lp_machine.specs.ReductionSpan.{below, popped, empty_place, span}
use Rattle.lp_turns.specs.Asking.{Asking}
use Rattle.lp_repr.specs.declared.lr1.Lr1State.{Lr1State}
use Rattle.lp_turn_laws.specs.Alike.Symbols.{Place, symbol_at, mine_at, value_at}
use Rattle.lp_question_laws.specs.Tables.Acts.{arguments}
use Rattle.lp_question_laws.specs.Tables.Symbols.{IsSymbol}
use Rattle.lp_question_laws.proofs.Tables.Built.{RunsBuilt}
use Rattle.lp_code_laws.proofs.Slots.Slots.{get_within}
use Rattle.lp_code_laws.proofs.Ends.Lists.{take_all}
use Rattle.lp_question_laws.specs.Reductions.Stacks.{Symbol, on_stack}
use Rattle.lp_question_laws.proofs.Reductions.Popping.{AllPop}
use Rattle.lp_question_laws.proofs.Reductions.Wholes.{items_of}
use Rattle.lp_question_laws.proofs.Reductions.Rules.{InRange, symbol_known}
use Rattle.lp_question_laws.proofs.Reductions.Variants.{variant_below, variant_shown}
use Rattle.lp_question_laws.proofs.Reductions.Linked.{last, p, can_pop}

-- ---- lists

module _ {A B : Type 0} (f : A → B) where
  drop_mapped : (n : ℕ) (xs : List A) → drop n (map f xs) ≡ map f (drop n xs)
  drop_mapped zero xs = refl
  drop_mapped (suc n) [] = refl
  drop_mapped (suc n) (x ∷ xs) = drop_mapped n xs

  pub popped_mapped : (n : ℕ) (xs : List A) → popped n (map f xs) ≡ map f (popped n xs)
  popped_mapped n xs = ap (λ k. drop (k - n) (map f xs)) (length-map xs f) ∙ drop_mapped (length xs - n) xs

  pub last_mapped : (xs : List A) → last_of (map f xs) ≡ option_map f (last_of xs)
  last_mapped xs = ap (λ k. slice_get (map f xs) (k - 1)) (length-map xs f) ∙ slice_get-map f xs (length xs - 1)

dropped_length : {A : Type 0} (n : ℕ) (xs : List A) → n ≤ length xs → length (drop (length xs - n) xs) ≡ n
dropped_length n xs le = by (length xs - n) xs (omega arith) ∙ (omega (arith, le))
  where
    by : {A : Type 0} (k : ℕ) (xs : List A) → k ≤ length xs → length (drop k xs) ≡ length xs - k
    by zero xs le = omega arith
    by (suc k) [] le = absurd (omega (arith, le))
    by (suc k) (x ∷ xs) le = by k xs (omega (arith, le)) ∙ (omega arith)

pub popped_length : {A : Type 0} (n : ℕ) (xs : List A) → n ≤ length xs → length (popped n xs) ≡ n
popped_length n xs le = dropped_length n xs le

-- ---- places

module _ (g : Grammar) (m : Making) where
  abbrev pub symbol_of : Place (IsSymbol g m) → Symbol
  symbol_of q = record { variant = variant_text (variant_at g (Some q.symbol)); number = q.is.number; item = value_at q }

  pub on_mine : (ps : List (Place (IsSymbol g m))) → map on_stack (map symbol_of ps) ≡ map mine_at ps
  on_mine [] = refl
  on_mine (q ∷ ps) = ap (λ v. (q.from, v, q.to) ∷ map on_stack (map symbol_of ps)) (sym q.is.holds) ∙ ap (λ l. mine_at q ∷ l) (on_mine ps)

  pub items_are : (ps : List (Place (IsSymbol g m))) → items_of (map symbol_of ps) ≡ map value_at ps
  items_are [] = refl
  items_are (q ∷ ps) = ap (λ l. value_at q ∷ l) (items_are ps)

  -- the list is what is below, and what goes
  pub mine_parted : (n : ℕ) (ps : List (Place (IsSymbol g m))) → below n (map mine_at ps) ++ map on_stack (map symbol_of (popped n ps)) ≡ map mine_at ps
  mine_parted n ps =
      ap (λ l. below n (map mine_at ps) ++ l) (on_mine (popped n ps) ∙ sym (popped_mapped mine_at n ps)) ∙ take-append-drop (length (map mine_at ps) - n) (map mine_at ps)

  -- all of some symbols are in range
  abbrev pub AllRange : List SymbolNumber → Type 0
  AllRange [] = Unit {0}
  AllRange (x ∷ xs) = InRange g x × AllRange xs

  pub range_all : (xs : List SymbolNumber) → ((i : ℕ) (x : SymbolNumber) → slice_get xs i ≡ Some x → InRange g x) → AllRange xs
  range_all [] h = tt
  range_all (x ∷ xs) h = (h 0 x refl, range_all xs (λ i y is. h (suc i) y is))

  pub range_drop : (n : ℕ) (xs : List SymbolNumber) → AllRange xs → AllRange (drop n xs)
  range_drop zero xs h = h
  range_drop (suc n) [] h = tt
  range_drop (suc n) (x ∷ xs) h = range_drop n xs h.1

  -- their variants are those that are printed
  pub variants_are : (ps : List (Place (IsSymbol g m))) (ss : List repr.Symbol) → map symbol_at ps ≡ map (number_or_count g) ss → AllRange (map symbol_at ps) → map (λ x. x.variant) (map symbol_of ps) ≡ map (symbol_variant g) ss
  variants_are [] [] same h = refl
  variants_are [] (s ∷ ss) same h = cc
  variants_are (q ∷ ps) [] same h = cc
  variants_are (q ∷ ps) (s ∷ ss) same h =
      let one : q.symbol ≡ number_or_count g s = cc in
      let rest : map symbol_at ps ≡ map (number_or_count g) ss = cc in
      let known : symbol_number g s ≡ Some q.symbol = symbol_known g s (subst (InRange g) one h.0) ∙ ap Some (sym one) in
      ap (λ o. variant_text (variant_at g o) ∷ map (λ x. x.variant) (map symbol_of ps)) (sym known) ∙ ap (λ l. symbol_variant g s ∷ l) (variants_are ps ss rest h.1)

-- a program has functions for them
pub places_pop : {prefix : List ℕ} {program : Form} {g : Grammar} {states : List Lr1State} {st : Start} {asked : Asking} {methods : Methods} (runs : RunsBuilt prefix program g states st asked methods) → length (variant_types g) ≤ 2 ^ 64 → (ps : List (Place (IsSymbol g (last runs)))) → AllRange g (last runs) (map symbol_at ps) → AllPop (p runs) (last runs) (map (symbol_of g (last runs)) ps)
places_pop runs few [] h = tt
places_pop {g = g} runs few (q ∷ ps) h =
    let k = variant_at g (Some q.symbol) in
    let below = variant_below g q.symbol h.0 in
    let ty = variant_shown g k below in
    (can_pop runs k ty.0 ty.1 (omega (arith, below, few)) (symbol_of g (last runs) q) refl q.is.variant, places_pop runs few ps h.1)

-- ---- where it stands

-- an end by either list
end_alike : {S : Type 0} {Is : SymbolNumber → S → Value → Type 0} (o : Option (Place Is)) → end_or (option_map mine_at o) Default ≡ end_or (option_map value_at o) Default
end_alike None = refl
end_alike (Some q) = refl

pub place_alike : {S : Type 0} {Is : SymbolNumber → S → Value → Type 0} (start : Option Loc) (ps : List (Place Is)) → empty_place start (map mine_at ps) ≡ empty_place start (map value_at ps)
place_alike (Some at) ps = refl
place_alike None ps = ap (λ o. end_or o Default) (last_mapped mine_at ps) ∙ end_alike (last_of ps) ∙ sym (ap (λ o. end_or o Default) (last_mapped value_at ps))

some_last : (x : Spanned Value) (xs : List (Spanned Value)) → (b : Spanned Value) × (last_of (x ∷ xs) ≡ Some b)
some_last x xs = get_within (x ∷ xs) (length (x ∷ xs) - 1) (omega arith)

-- the span of some symbols doesn't depend on the place of none, nor do the arguments
pub span_some : (xs : List (Spanned Value)) (a b : Loc) → (length xs ≡ 0 → a ≡ b) → span xs a ≡ span xs b
span_some [] a b same = ap (λ l. (l, l)) (same refl)
span_some (x ∷ xs) a b same =
    let w = some_last x xs in
    ap (λ o. (x.0, end_or o a)) w.1 ∙ sym (ap (λ o. (x.0, end_or o b)) w.1)

pub arguments_some : (params : List Val) (xs : List (Spanned Value)) (a b : Loc × Loc) → (length xs ≡ 0 → a ≡ b) → arguments params xs a ≡ arguments params xs b
arguments_some params [] a b same = ap (arguments params []) (same refl)
arguments_some params (x ∷ xs) a b same = refl

-- nothing goes
pub below_none : {A : Type 0} (xs : List A) → below 0 xs ≡ xs
below_none xs = let none : length xs - 0 ≡ length xs = omega arith in ap (λ k. take k xs) none ∙ take_all xs
