-- A token has one action in a state of valid tables: where a shift or a reduction is listed on it, that is what the state does.
use Rattle.std.proofs.Common.{◌≡◌, ℕ, zero, suc, ◌+◌, Bool, true, false, cond, List, [], ◌∷◌, ◌++◌, length, map, Option, Some, None, slice_get, refl, sym, ap, ◌∙◌, subst, arith}
use Rattle.std.specs.BTreeMap.{get, keys}
use Rattle.std.specs.List.{list_any, flat_map}
use Rattle.std.specs.Map.{lookup, keys_of}
use Rattle.std.specs.Ordering.{nat_cmp, eq_by_cmp}
use Rattle.std.specs.Prelude.{position}
use Rattle.std.proofs.lemmas.Bool.Decides.{nat_tests}
use Rattle.std.proofs.lemmas.List.Concat.{flat_map-cons}
use Rattle.std.proofs.lemmas.List.Quantifiers.{position-Some}
use Rattle.std.proofs.lemmas.Map.Keys.{any_passes_from_place}
use Rattle.std.proofs.lemmas.Iterator.Adapters.{position_from-zero}
use Rattle.std.proofs.lemmas.Option.{same_Some, none-some, slice_get_within, get_or_from_slice_get}
use Rattle.lp_repr.specs.ValidTables.{IsValidTables}
use Rattle.lp_repr.specs.declared.repr.Grammar.{Grammar}
use Rattle.lp_repr.specs.declared.numbering.SymbolNumber.TheVariants as symbol
use Rattle.lp_repr.specs.declared.lr1.Token.{Token}
use Rattle.lp_repr.specs.declared.lr1.Token.TheVariants.{Terminal, Eof}
use Rattle.lp_repr.specs.declared.lr1.Lr1State.{Lr1State}
use Rattle.lp_machine.specs.declared.lookup.Act.{Act}
use Rattle.lp_machine.specs.declared.lookup.Act.TheVariants.{Shift, ReduceBy, NoAction}
use Rattle.lp_machine.specs.Lookup.{same_token, shift_in, reduction_act, reduction_at, reduction_in, shift_or, act_in, act_at}
use Rattle.lp_turn_laws.specs.Paths.Walks.{edge_from, edge_at}
use Rattle.lp_turn_laws.proofs.Paths.Acts.{listed_act, shift_or_reduce, act_shift}
use Rattle.lp_turn_laws.proofs.Paths.MachineRules.{any_place}
use Rattle.lp_turn_laws.proofs.Paths.Starts.{found_at, is_found}
use Rattle.lp_turn_laws.proofs.Paths.Numbered.{mapped_at, at_left, at_right}

-- ---- lists in which nothing stands twice
-- no element stands at two places
abbrev Once : {X : Type 0} → List X → Type 0
Once {X} xs = (i j : ℕ) (x : X) → slice_get xs i ≡ Some x → slice_get xs j ≡ Some x → i ≡ j

-- nor in the second of two lists
once_right : {X : Type 0} (xs ys : List X) → Once (xs ++ ys) → Once ys
once_right xs ys h i j y e f =
    let k : length xs + i ≡ length xs + j = h (length xs + i) (length xs + j) y (at_right xs ys (length xs + i) i y refl e) (at_right xs ys (length xs + j) j y refl f) in
    omega arith

-- nor in both
once_apart : {X : Type 0} (xs ys : List X) → Once (xs ++ ys) → (i j : ℕ) (x : X) → slice_get xs i ≡ Some x → slice_get ys j ≡ Some x → ⊥
once_apart xs ys h i j x e f =
    let k : i ≡ length xs + j = h i (length xs + j) x (at_left xs ys i x e) (at_right xs ys (length xs + j) j x refl f) in
    let l = slice_get_within xs i x e in
    omega arith

-- an element of one of some lists stands in all joined
flat_in : {X Y : Type 0} (h : X → List Y) (xs : List X) (i k : ℕ) (x : X) (y : Y) → slice_get xs i ≡ Some x → slice_get (h x) k ≡ Some y → (m : ℕ) × (slice_get (flat_map h xs) m ≡ Some y)
flat_in h [] i k x y e f = absurd (none-some x e)
flat_in {X} {Y} h (z ∷ xs) zero k x y e f =
    let same = same_Some z x e in
    (k, subst (λ (us : List Y). slice_get us k ≡ Some y) (sym (flat_map-cons h z xs)) (at_left (h z) (flat_map h xs) k y (subst (λ (w : X). slice_get (h w) k ≡ Some y) (sym same) f)))
flat_in {X} {Y} h (z ∷ xs) (suc i) k x y e f =
    let m = flat_in h xs i k x y e f in
    (length (h z) + m.0, subst (λ (us : List Y). slice_get us (length (h z) + m.0) ≡ Some y) (sym (flat_map-cons h z xs)) (at_right (h z) (flat_map h xs) (length (h z) + m.0) m.0 y refl m.1))

-- an element of two of the lists that are joined is of one
flat_once : {X Y : Type 0} (h : X → List Y) (xs : List X) → Once (flat_map h xs) → (i j k l : ℕ) (x z : X) (y : Y) → slice_get xs i ≡ Some x → slice_get (h x) k ≡ Some y → slice_get xs j ≡ Some z → slice_get (h z) l ≡ Some y → i ≡ j
flat_once h [] o i j k l x z y e f g p = absurd (none-some x e)
flat_once h (w ∷ xs) o zero zero k l x z y e f g p = refl
flat_once {X} {Y} h (w ∷ xs) o zero (suc j) k l x z y e f g p =
    let m = flat_in h xs j l z y g p in
    absurd (once_apart (h w) (flat_map h xs) (subst Once (flat_map-cons h w xs) o) k m.0 y (subst (λ (v : X). slice_get (h v) k ≡ Some y) (sym (same_Some w x e)) f) m.1)
flat_once {X} {Y} h (w ∷ xs) o (suc i) zero k l x z y e f g p =
    let m = flat_in h xs i k x y e f in
    absurd (once_apart (h w) (flat_map h xs) (subst Once (flat_map-cons h w xs) o) l m.0 y (subst (λ (v : X). slice_get (h v) l ≡ Some y) (sym (same_Some w z g)) p) m.1)
flat_once h (w ∷ xs) o (suc i) (suc j) k l x z y e f g p =
    ap suc (flat_once h xs (once_right (h w) (flat_map h xs) (subst Once (flat_map-cons h w xs) o)) i j k l x z y e f g p)

-- ---- what is found
-- tokens that are the same are one
same_token_is : (a b : Token) → same_token a b ≡ true → a ≡ b
same_token_is (Terminal m) (Terminal n) e = ap Terminal (let k : m ≡ n = grind (arith, nat_tests) in k)
same_token_is (Terminal m) Eof e = cc
same_token_is Eof (Terminal n) e = cc
same_token_is Eof Eof e = refl

-- a token is the same as itself
same_token_refl : (a : Token) → same_token a a ≡ true
same_token_refl (Terminal m) = grind (arith, nat_tests)
same_token_refl Eof = refl

-- numbers that compare equal are one
key_is : (n k : ℕ) → eq_by_cmp nat_cmp n k ≡ true → n ≡ k
key_is n k e = grind (arith, nat_tests)

-- the key of what is looked up
key_place : {K X : Type 0} (test : K → Bool) (es : List (K × X)) (v : X) → lookup test es ≡ Some v → (i : ℕ) × (k : K) × (slice_get (keys_of es) i ≡ Some k) × (test k ≡ true)
key_place test [] v e = absurd (none-some v e)
key_place {K} {X} test (x ∷ es) v e =
    elim (test x.0) as (λ b. test x.0 ≡ b → cond b (Some x.1) (lookup test es) ≡ Some v → (i : ℕ) × (k : K) × (slice_get (keys_of (x ∷ es)) i ≡ Some k) × (test k ≡ true)) [
      | true ↦ λ t h. (0, x.0, refl, t)
      | false ↦ λ t h. let w = key_place test es v h in (suc w.0, w.1, w.2, w.3)
    ] refl e

-- where some element passes, one is found that does
position_found : {X : Type 0} (p : X → Bool) (xs : List X) (i : ℕ) (x : X) → slice_get xs i ≡ Some x → p x ≡ true → (j : ℕ) × (y : X) × (position p xs ≡ Some j) × (slice_get xs j ≡ Some y) × (p y ≡ true)
position_found p xs i x e h =
    let k = is_found p 0 xs (any_passes_from_place p xs i x e h) in
    let f = found_at p 0 xs k.0 k.1 in
    let n : f.0 ≡ k.0 = omega (arith, f.2) in
    (k.0, f.1, position_from-zero p xs ∙ k.1, ap (slice_get xs) (sym n) ∙ f.3, f.4)

-- a reduction that a state makes on a token is listed on it
listed_on : (reductions : List (List Token × ℕ)) (token : Token) (o : Option ℕ) (p : ℕ) → position (λ (r : List Token × ℕ). list_any (λ (t : Token). same_token t token) r.0) reductions ≡ o → reduction_at reductions o ≡ ReduceBy p → (i : ℕ) × (x : List Token × ℕ) × (k : ℕ) × (slice_get reductions i ≡ Some x) × (x.1 ≡ p) × (slice_get x.0 k ≡ Some token)
listed_on reductions token None p f e = cc
listed_on reductions token (Some i) p f e =
    let w = listed_act (slice_get reductions i) p e in
    let passes = (position-Some (λ (r : List Token × ℕ). list_any (λ (t : Token). same_token t token) r.0) reductions i w.0 f).1 in
    let here = get_or_from_slice_get reductions i w.0 w.0 w.1 in
    let t = any_place (λ (t : Token). same_token t token) (w.0).0 (subst (λ (r : List Token × ℕ). list_any (λ (t : Token). same_token t token) r.0 ≡ true) here passes) in
    (i, w.0, t.0, w.1, w.2, t.2 ∙ ap Some (same_token_is t.1 token t.3))

-- a reduction that a state makes on a token is listed in the state
pub reduces_listed : (o : Option Lr1State) (token : Token) (p : ℕ) → act_in o token ≡ ReduceBy p → (s : Lr1State) × (o ≡ Some s) × (i : ℕ) × (x : List Token × ℕ) × (k : ℕ) × (slice_get s.reductions i ≡ Some x) × (x.1 ≡ p) × (slice_get x.0 k ≡ Some token)
reduces_listed None token p e = cc
reduces_listed (Some s) token p e =
    let w = listed_on s.reductions token _ p refl (shift_or_reduce (shift_in s token) (reduction_in s.reductions token) p e) in
    (s, refl, w.0, w.1, w.2, w.3, w.4, w.5)

-- what a state lists on a token
module _ (g : Grammar) (start : ℕ) (states : List Lr1State) (valid : IsValidTables g start states) where
  -- a token stands in one of the reductions
  pub one_reduction : (q : ℕ) (s : Lr1State) (i j k l : ℕ) (x z : List Token × ℕ) (token : Token) → slice_get states q ≡ Some s → slice_get s.reductions i ≡ Some x → slice_get x.0 k ≡ Some token → slice_get s.reductions j ≡ Some z → slice_get z.0 l ≡ Some token → i ≡ j
  one_reduction q s i j k l x z token at e f h p =
      flat_once (λ (r : List Token × ℕ). r.0) s.reductions (once_right (map Terminal (keys s.shifts)) (flat_map (λ (r : List Token × ℕ). r.0) s.reductions) (valid.each q s at).acts_once) i j k l x z token e f h p

  -- and in none where it is shifted
  pub no_shift_beside : (q : ℕ) (s : Lr1State) (n to i k : ℕ) (x : List Token × ℕ) → slice_get states q ≡ Some s → get nat_cmp s.shifts n ≡ Some to → slice_get s.reductions i ≡ Some x → slice_get x.0 k ≡ Some (Terminal n) → ⊥
  no_shift_beside q s n to i k x at e f h =
      let w = key_place _ (s.shifts).entries to e in
      let same = key_is n w.1 w.3 in
      let m = flat_in (λ (r : List Token × ℕ). r.0) s.reductions i k x (Terminal n) f h in
      once_apart (map Terminal (keys s.shifts)) (flat_map (λ (r : List Token × ℕ). r.0) s.reductions) (valid.each q s at).acts_once w.0 m.0 (Terminal n) (mapped_at Terminal (keys s.shifts) w.0 w.1 w.2 ∙ ap (λ (a : ℕ). Some (Terminal a)) (sym same)) m.1

  -- where an edge leads over a terminal, the state shifts it
  pub shifts_on : (q n to : ℕ) → edge_at states q (symbol.Terminal n) ≡ Some to → act_at states q (Terminal n) ≡ Shift to
  shifts_on q n to e = shift_from (slice_get states q) e
    where
      shift_from : (o : Option Lr1State) → edge_from o (symbol.Terminal n) ≡ Some to → act_in o (Terminal n) ≡ Shift to
      shift_from None e = cc
      shift_from (Some s) e = ap (λ (a : Option ℕ). shift_or a (reduction_in s.reductions (Terminal n))) e

  -- the state doesn't shift what it reduces on
  none_shifted : (q : ℕ) (s : Lr1State) (token : Token) (i k : ℕ) (x : List Token × ℕ) → slice_get states q ≡ Some s → slice_get s.reductions i ≡ Some x → slice_get x.0 k ≡ Some token → shift_in s token ≡ None
  none_shifted q s Eof i k x at f h = refl
  none_shifted q s (Terminal n) i k x at f h = none_of (get nat_cmp s.shifts n) (λ to e. no_shift_beside q s n to i k x at e f h)
    where
      none_of : {X : Type 0} (o : Option X) → ((y : X) → o ≡ Some y → ⊥) → o ≡ None
      none_of None never = refl
      none_of (Some y) never = absurd (never y refl)

  -- where a reduction is listed on a token, the state makes it
  pub reduces_on : (q : ℕ) (s : Lr1State) (i k : ℕ) (x : List Token × ℕ) (token : Token) → slice_get states q ≡ Some s → slice_get s.reductions i ≡ Some x → slice_get x.0 k ≡ Some token → act_at states q token ≡ ReduceBy x.1
  reduces_on q s i k x token at f h =
      let w = position_found (λ (r : List Token × ℕ). list_any (λ (t : Token). same_token t token) r.0) s.reductions i x f (any_passes_from_place (λ (t : Token). same_token t token) x.0 k token h (same_token_refl token)) in
      let t = any_place (λ (t : Token). same_token t token) (w.1).0 w.4 in
      let here = t.2 ∙ ap Some (same_token_is t.1 token t.3) in
      let j = one_reduction q s w.0 i t.0 k w.1 x token at w.3 here f h in
      let red = one_reduction_act s.reductions w.0 i x w.2 j f in
      ap (λ (o : Option Lr1State). act_in o token) at ∙ ap (λ (a : Option ℕ). shift_or a (reduction_in s.reductions token)) (none_shifted q s token i k x at f h) ∙ red
    where
      one_reduction_act : (reductions : List (List Token × ℕ)) (j i : ℕ) (x : List Token × ℕ) → position (λ (r : List Token × ℕ). list_any (λ (t : Token). same_token t token) r.0) reductions ≡ Some j → j ≡ i → slice_get reductions i ≡ Some x → reduction_in reductions token ≡ ReduceBy x.1
      one_reduction_act reductions j i x p e f =
          ap (reduction_at reductions) (p ∙ ap Some e) ∙ ap reduction_act f

  -- where neither is listed, the state has no action
  pub acts_not : (q : ℕ) (s : Lr1State) (token : Token) → slice_get states q ≡ Some s → ((n to : ℕ) → token ≡ Terminal n → edge_at states q (symbol.Terminal n) ≡ Some to → ⊥) → ((i k : ℕ) (x : List Token × ℕ) → slice_get s.reductions i ≡ Some x → slice_get x.0 k ≡ Some token → ⊥) → act_at states q token ≡ NoAction
  acts_not q s token at shifts reduces = by_act (act_at states q token) refl
    where
      by_act : (act : Act) → act_at states q token ≡ act → act_at states q token ≡ NoAction
      by_act NoAction e = e
      by_act (Shift to) e = (let w = act_shift (slice_get states q) token to e in absurd (shifts w.0 to w.1 w.2))
      by_act (ReduceBy p) e =
          let w = reduces_listed (slice_get states q) token p e in
          let same = same_Some w.0 s (sym w.1 ∙ at) in
          absurd (reduces w.2 w.4 w.3 (subst (λ (r : Lr1State). slice_get r.reductions w.2 ≡ Some w.3) same w.5) w.7)
