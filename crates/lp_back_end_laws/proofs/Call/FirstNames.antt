-- What the names of a state's function hold where it begins: the grammar's parameters, the token source, the list of states, the lookahead where it is handed, and the slots.
use Rattle.std.proofs.Common.{◌≡◌, ℕ, zero, suc, ◌+◌, ◌-◌, ◌<◌, ◌≤◌, ◌^◌, Bool, true, false, ◌&&◌, List, [], ◌∷◌, ◌++◌, length, Some, slice_get, refl, sym, ap, ◌∙◌, subst, ⊎_elim, arith, codes, decimal}
use Rattle.std.specs.Prelude.{◌==◌, if◌then◌else◌}
use Rattle.std.proofs.lemmas.Bool.Decides.{nat_tests}
use Rattle.std.specs.Str.{bytes_eq}
use Rattle.std.proofs.lemmas.Bool.{ne_eqb, cases_lt}
use Rattle.std.proofs.lemmas.Option.{same_Some, slice_get_within}
use Rattle.lp_core.specs.declared.value.Tag.TheVariants as tag
use Rattle.lp_core.specs.Datum.{Cell}
use Rattle.lp_core.specs.Reading.{empty}
use Rattle.lp_core.specs.Val.{Val, Plain}
use Rattle.lp_repr.proofs.Lists.{slice_get_left, slice_get_past_left}
use Rattle.lp_ascent.specs.Slots.{Layout, count_of, has_lookahead}
use Rattle.lp_maker.specs.Slots.{Names, no_names}
use Rattle.lp_code_laws.specs.Slots.Shows.{Shows}
use Rattle.lp_code_laws.proofs.Slots.Names.{same_text}
use Rattle.lp_code_laws.proofs.Ends.Lists.{get_first}
use Rattle.lp_turn_laws.proofs.Paths.Numbered.{at_left, at_right}
use Rattle.lp_question_laws.specs.Actions.Params.{AreSet}
use Rattle.lp_question_laws.specs.Reductions.Arguments.{ShowAll}
use Rattle.lp_question_laws.specs.Reductions.Outer.{sym_name}
use Rattle.lp_question_laws.proofs.Reductions.Keys.{symbol_keys}
use Rattle.lp_question_laws.proofs.Reductions.Parameters.{bound_each}
use Rattle.lp_question_laws.proofs.Reductions.Popping.{sym_apart}
use Rattle.lp_question_laws.proofs.Reductions.Texts.{AllKeys, IsKey}
use Rattle.lp_back_end_laws.specs.Call.Turns.{ShowsFrame}
use Rattle.lp_back_end_laws.proofs.Call.EachName.{HoldsAll, each_shows}
use Rattle.lp_back_end_laws.proofs.Call.StateHeaders.{look_keys, own_keys}

-- ---- where names stand
both_hold : (a b : List (List ℕ)) (next : ℕ) (env : List Val) (key : List ℕ) (v : Val) → HoldsAll a next env key v → HoldsAll b (next + length a) env key v → HoldsAll (a ++ b) next env key v
both_hold a b next env key v h k j at = ⊎_elim
    (λ (less : j < length a). h j (sym (slice_get_left a b j less) ∙ at))
    (λ (le : length a ≤ j).
    let i : ℕ = j - length a in
    let is : length a + i ≡ j = omega (arith, le) in
    let same : (next + length a) + i ≡ next + j = omega (arith, is) in
    ap (slice_get env) (sym same) ∙ k i (sym (slice_get_past_left a b j i (omega (arith, le))) ∙ at))
    (cases_lt j (length a))

both_first : (a b : List (List ℕ)) (env : List Val) (key : List ℕ) (v : Val) → ((j : ℕ) → slice_get a j ≡ Some key → slice_get env j ≡ Some v) → HoldsAll b (length a) env key v → HoldsAll (a ++ b) 0 env key v
both_first a b env key v h k =
    let none : length a ≡ 0 + length a = omega arith in
    both_hold a b 0 env key v (λ j at. (let same : 0 + j ≡ j = omega arith in ap (slice_get env) same ∙ h j at)) (subst (λ n. HoldsAll b n env key v) none k)

none_holds : (qs : List (List ℕ)) (next : ℕ) (env : List Val) (key : List ℕ) (v : Val) → ((j : ℕ) → slice_get qs j ≡ Some key → ⊥) → HoldsAll qs next env key v
none_holds qs next env key v none j at = absurd (none j at)

one_more : (q : List ℕ) (qs : List (List ℕ)) (next : ℕ) (env : List Val) (key : List ℕ) (v : Val) → (q ≡ key → slice_get env next ≡ Some v) → HoldsAll qs (next + 1) env key v → HoldsAll (q ∷ qs) next env key v
one_more q qs next env key v h k zero at = (let none : next ≡ next + 0 = omega arith in let same : q ≡ key = cc in ap (slice_get env) (sym none) ∙ h same)
one_more q qs next env key v h k (suc j) at = (let same : (next + 1) + j ≡ next + suc j = omega arith in ap (slice_get env) (sym same) ∙ k j at)

other : (q key : List ℕ) → bytes_eq q key ≡ false → q ≡ key → ⊥
other q key e same = (let t : true ≡ false = sym (same_text key) ∙ ap (λ r. bytes_eq r key) (sym same) ∙ e in cc)

-- ---- names with the mark, and parameters without
pub marked_other : (prefix key rest : List ℕ) → IsKey prefix key → bytes_eq (126 ∷ rest) key ≡ false
marked_other prefix [] rest h = absurd (let l = h.some in omega arith)
marked_other prefix (c ∷ cs) rest h = ap (λ b. b && bytes_eq rest cs) (ne_eqb 126 c (λ e. h.no_mark.0 (sym e)))

pub key_at : (prefix : List ℕ) (keys : List (List ℕ)) (i : ℕ) (key : List ℕ) → AllKeys prefix keys → slice_get keys i ≡ Some key → IsKey prefix key
key_at prefix [] i key a at = absurd cc
key_at prefix (q ∷ keys) zero key a at = (let same : q ≡ key = cc in subst (IsKey prefix) same a.0)
key_at prefix (q ∷ keys) (suc i) key a at = key_at prefix keys i key a.1 at

pub keys_apart : (prefix : List ℕ) (keys : List (List ℕ)) → AllKeys prefix keys → (rest : List ℕ) (i : ℕ) (key : List ℕ) → slice_get keys i ≡ Some key → bytes_eq (126 ∷ rest) key ≡ false
keys_apart prefix keys all rest i key at = marked_other prefix key rest (key_at prefix keys i key all at)

abbrev IsMarked : List ℕ → Type 0
IsMarked key = (rest : List ℕ) × (key ≡ 126 ∷ rest)

not_key : (prefix key : List ℕ) → IsKey prefix key → IsMarked key → ⊥
not_key prefix key h m = other (126 ∷ m.0) key (marked_other prefix key m.0 h) (sym m.1)

symbols_marked : (k n j : ℕ) (key : List ℕ) → slice_get (symbol_keys k n) j ≡ Some key → IsMarked key
symbols_marked k zero j key at = absurd cc
symbols_marked k (suc n) zero key at = (codes "sym" ++ decimal k, sym (same_Some (sym_name k) key at))
symbols_marked k (suc n) (suc j) key at = symbols_marked (k + 1) n j key at

looks_marked : (b : Bool) (k n j : ℕ) (key : List ℕ) → slice_get ((codes "~tokens" ∷ codes "~states" ∷ (if b then codes "~lookahead" ∷ [] else [])) ++ symbol_keys k n) j ≡ Some key → IsMarked key
looks_marked b k n zero key at = (codes "tokens", sym (same_Some (codes "~tokens") key at))
looks_marked b k n (suc zero) key at = (codes "states", sym (same_Some (codes "~states") key at))
looks_marked true k n (suc (suc zero)) key at = (codes "lookahead", sym (same_Some (codes "~lookahead") key at))
looks_marked true k n (suc (suc (suc j))) key at = symbols_marked k n j key at
looks_marked false k n (suc (suc j)) key at = symbols_marked k n j key at

own_marked : (l : Layout) (j : ℕ) (key : List ℕ) → slice_get (own_keys l) j ≡ Some key → IsMarked key
own_marked l j key at = looks_marked (has_lookahead l) 0 (count_of l) j key at

-- symbols' names by their numbers
symbol_key : (k n j : ℕ) → j < n → slice_get (symbol_keys k n) j ≡ Some (sym_name (k + j))
symbol_key k zero j less = absurd (omega (arith, less))
symbol_key k (suc n) zero less = (let none : k ≡ k + 0 = omega arith in ap (λ i. Some (sym_name i)) none)
symbol_key k (suc n) (suc j) less = (let same : (k + 1) + j ≡ k + suc j = omega arith in symbol_key (k + 1) n j (omega (arith, less)) ∙ ap (λ i. Some (sym_name i)) same)

symbol_is : (k n i j : ℕ) → k + n ≤ 2 ^ 64 → i < 2 ^ 64 → slice_get (symbol_keys k n) j ≡ Some (sym_name i) → k + j ≡ i
symbol_is k zero i j small less at = absurd cc
symbol_is k (suc n) i zero small less at = same_by (k == i) refl
  where
    same_by : (b : Bool) → (k == i) ≡ b → k + 0 ≡ i
    same_by true e = (let same : k ≡ i = grind (arith, nat_tests) in omega (arith, same))
    same_by false e = (let not : k ≡ i → ⊥ = λ same. grind (arith, nat_tests) in let same : sym_name k ≡ sym_name i = cc in absurd (other (sym_name k) (sym_name i) (sym_apart k i (omega arith) less not) same))
symbol_is k (suc n) i (suc j) small less at = (let r = symbol_is (k + 1) n i j (omega (arith, small)) less at in omega (arith, r))

-- ---- what they hold
module _ (prefix : List ℕ) (keys : List (List ℕ)) (all : AllKeys prefix keys) (l : Layout) (small : count_of l ≤ 2 ^ 64) (given look slots rest : List Val) (list : ℕ) (many : length given ≡ length keys) (looks : length look ≡ length (look_keys l)) (slots_many : length slots ≡ count_of l) where
  abbrev pub known : Names
  known = bound_each no_names (keys ++ own_keys l)

  abbrev front : List Val
  front = empty tag.Tuple ∷ Plain (Cell list) ∷ look

  abbrev pub env : List Val
  env = (given ++ (front ++ slots)) ++ rest

  abbrev front_keys : List (List ℕ)
  front_keys = codes "~tokens" ∷ codes "~states" ∷ look_keys l

  -- the values, one after another
  at_given : (i : ℕ) (v : Val) → slice_get given i ≡ Some v → slice_get env i ≡ Some v
  at_given i v at = get_first (given ++ (front ++ slots)) rest i (get_first given (front ++ slots) i at)

  at_front : (i k : ℕ) (v : Val) → k ≡ length keys + i → slice_get front i ≡ Some v → slice_get env k ≡ Some v
  at_front i k v is at = get_first (given ++ (front ++ slots)) rest k (at_right given (front ++ slots) k i v (omega (arith, is, many)) (get_first front slots i at))

  at_slot : (i k : ℕ) (v : Val) → k ≡ length keys + (length front_keys + i) → slice_get slots i ≡ Some v → slice_get env k ≡ Some v
  at_slot i k v is at = get_first (given ++ (front ++ slots)) rest k (at_right given (front ++ slots) k (length front + i) v (omega (arith, is, many, looks)) (at_right front slots (length front + i) i v refl at))

  -- no name of the function's own is a parameter's
  not_own : (key : List ℕ) (v : Val) → IsKey prefix key → (next : ℕ) → HoldsAll (own_keys l) next env key v
  not_own key v h next = none_holds (own_keys l) next env key v (λ j at. not_key prefix key h (own_marked l j key at))

  not_parameter : (key : List ℕ) (v : Val) → IsMarked key → (j : ℕ) → slice_get keys j ≡ Some key → slice_get env j ≡ Some v
  not_parameter key v m j at = absurd (not_key prefix key (key_at prefix keys j key all at) m)

  no_symbol : (key : List ℕ) (v : Val) (next : ℕ) → ((i : ℕ) → bytes_eq (sym_name i) key ≡ false) → HoldsAll (symbol_keys 0 (count_of l)) next env key v
  no_symbol key v next others = none_holds (symbol_keys 0 (count_of l)) next env key v (λ j at. none 0 (count_of l) j at)
    where
      none : (k n j : ℕ) → slice_get (symbol_keys k n) j ≡ Some key → ⊥
      none k zero j at = absurd cc
      none k (suc n) zero at = (let same : sym_name k ≡ key = cc in other (sym_name k) key (others k) same)
      none k (suc n) (suc j) at = none (k + 1) n j at

  -- a parameter's
  given_shows : ((i j : ℕ) (key : List ℕ) → slice_get keys i ≡ Some key → slice_get keys j ≡ Some key → slice_get given i ≡ slice_get given j) → (i : ℕ) (key : List ℕ) (v : Val) → slice_get keys i ≡ Some key → slice_get given i ≡ Some v → Shows known env key v
  given_shows same i key v at is =
      each_shows (keys ++ own_keys l) no_names env i key v (at_left keys (own_keys l) i key at)
      (both_first keys (own_keys l) env key v (λ j there. at_given j v (same j i key there at ∙ is)) (not_own key v (key_at prefix keys i key all at) (length keys)))

  -- one of its own
  own_shows : (i : ℕ) (key : List ℕ) (v : Val) → slice_get (own_keys l) i ≡ Some key → IsMarked key → HoldsAll (own_keys l) (length keys) env key v → Shows known env key v
  own_shows i key v at marked holds = each_shows (keys ++ own_keys l) no_names env (length keys + i) key v (at_right keys (own_keys l) (length keys + i) i key refl at) (both_first keys (own_keys l) env key v (not_parameter key v marked) holds)

  no_look : (key : List ℕ) (v : Val) (next : ℕ) → bytes_eq (codes "~lookahead") key ≡ false → HoldsAll (look_keys l) next env key v
  no_look key v next e = by (has_lookahead l)
    where
      by : (b : Bool) → HoldsAll (if b then codes "~lookahead" ∷ [] else []) next env key v
      by true = one_more (codes "~lookahead") [] next env key v (λ same. absurd (other (codes "~lookahead") key e same)) (λ j at. absurd cc)
      by false = λ j at. absurd cc

  pub tokens_show : Shows known env (codes "~tokens") (empty tag.Tuple)
  tokens_show =
      let key = codes "~tokens" in
      let v : Val = empty tag.Tuple in
      own_shows 0 key v refl (_, refl)
      (both_hold front_keys (symbol_keys 0 (count_of l)) (length keys) env key v
      (one_more key (codes "~states" ∷ look_keys l) (length keys) env key v (λ same. at_front 0 (length keys) v (omega arith) refl)
      (one_more (codes "~states") (look_keys l) (length keys + 1) env key v (λ same. absurd (other (codes "~states") key refl same)) (no_look key v (length keys + 1 + 1) refl)))
      (no_symbol key v (length keys + length front_keys) (λ i. refl)))

  pub states_show : Shows known env (codes "~states") (Plain (Cell list))
  states_show =
      let key = codes "~states" in
      let v : Val = Plain (Cell list) in
      own_shows 1 key v refl (_, refl)
      (both_hold front_keys (symbol_keys 0 (count_of l)) (length keys) env key v
      (one_more (codes "~tokens") (key ∷ look_keys l) (length keys) env key v (λ same. absurd (other (codes "~tokens") key refl same))
      (one_more key (look_keys l) (length keys + 1) env key v (λ same. at_front 1 (length keys + 1) v refl refl) (no_look key v (length keys + 1 + 1) refl)))
      (no_symbol key v (length keys + length front_keys) (λ i. refl)))

  -- a slot's
  pub slot_shows : (j : ℕ) (v : Val) → slice_get slots j ≡ Some v → Shows known env (sym_name j) v
  slot_shows j v at =
      let key = sym_name j in
      let less : j < count_of l = omega (arith, slice_get_within slots j v at, slots_many) in
      let symbols = symbol_keys 0 (count_of l) in
      let none : 0 + j ≡ j = omega arith in
      let place : slice_get symbols j ≡ Some key = symbol_key 0 (count_of l) j less ∙ ap (λ i. Some (sym_name i)) none in
      own_shows (length front_keys + j) key v (at_right front_keys symbols (length front_keys + j) j key refl place) (symbols_marked 0 (count_of l) j key place)
      (both_hold front_keys symbols (length keys) env key v
      (one_more (codes "~tokens") (codes "~states" ∷ look_keys l) (length keys) env key v (λ same. absurd (other (codes "~tokens") key refl same))
      (one_more (codes "~states") (look_keys l) (length keys + 1) env key v (λ same. absurd (other (codes "~states") key refl same)) (no_look key v (length keys + 1 + 1) refl)))
      (λ i there. (let same : 0 + i ≡ j = symbol_is 0 (count_of l) j i (omega (arith, small)) (omega (arith, small, less)) there in at_slot j ((length keys + length front_keys) + i) v (omega (arith, same)) at)))

  -- the lookahead's, where it is handed
  pub look_shows : (v : Val) → has_lookahead l ≡ true → look ≡ v ∷ [] → Shows known env (codes "~lookahead") v
  look_shows v handed is =
      let key = codes "~lookahead" in
      let there : look_keys l ≡ key ∷ [] = ap (λ (b : Bool). if b then key ∷ [] else []) handed in
      let symbols = symbol_keys 0 (count_of l) in
      own_shows 2 key v (ap (λ (qs : List (List ℕ)). slice_get ((codes "~tokens" ∷ codes "~states" ∷ qs) ++ symbols) 2) there) (_, refl)
      (both_hold front_keys symbols (length keys) env key v
      (one_more (codes "~tokens") (codes "~states" ∷ look_keys l) (length keys) env key v (λ same. absurd (other (codes "~tokens") key refl same))
      (one_more (codes "~states") (look_keys l) (length keys + 1) env key v (λ same. absurd (other (codes "~states") key refl same))
      (subst (λ (qs : List (List ℕ)). HoldsAll qs (length keys + 1 + 1) env key v) (sym there) (one_more key [] (length keys + 1 + 1) env key v (λ same. at_front 2 (length keys + 1 + 1) v (omega arith) (ap (λ (xs : List Val). slice_get xs 0) is)) (λ j at. absurd cc)))))
      (no_symbol key v (length keys + length front_keys) (λ i. refl)))

  -- all parameters'
  pub parameters_show : ((i j : ℕ) (key : List ℕ) → slice_get keys i ≡ Some key → slice_get keys j ≡ Some key → slice_get given i ≡ slice_get given j) → AreSet given → ShowAll known env keys given
  parameters_show same set = each keys given (λ i key v at is. given_shows same i key v at is) many set
    where
      each : (qs : List (List ℕ)) (vs : List Val) → ((i : ℕ) (key : List ℕ) (v : Val) → slice_get qs i ≡ Some key → slice_get vs i ≡ Some v → Shows known env key v) → length vs ≡ length qs → AreSet vs → ShowAll known env qs vs
      each [] [] h m s = tt
      each [] (v ∷ vs) h m s = absurd cc
      each (q ∷ qs) [] h m s = absurd cc
      each (q ∷ qs) (v ∷ vs) h m s = (h 0 q v refl refl, s.0, each qs vs (λ i key u at is. h (suc i) key u at is) (omega (arith, m)) s.1)

  pub frame_shown : ((i j : ℕ) (key : List ℕ) → slice_get keys i ≡ Some key → slice_get keys j ≡ Some key → slice_get given i ≡ slice_get given j) → AreSet given → ShowsFrame known env keys given list slots
  frame_shown same set = record { parameters = parameters_show same set; tokens = tokens_show; states = states_show; slots = slot_shows }
