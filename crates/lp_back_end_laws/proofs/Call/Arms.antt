-- S14: of the arms of a state function the first that fits the lookahead does what the state does.
use Rattle.std.proofs.Common.{◌≡◌, ◌⊎◌, ℕ, zero, suc, ◌+◌, ◌<◌, Bool, true, false, cond, not, ◌&&◌, ◌||◌, List, [], ◌∷◌, ◌++◌, length, map, Option, Some, None, slice_get, refl, sym, ap, ◌∙◌, ⊎_elim, inl, inr, subst, arith}
use Rattle.std.specs.BTreeMap.{get, keys}
use Rattle.std.specs.Cmp.Lexicographic.{bytes_decides}
use Rattle.std.specs.List.{flat_map, list_any}
use Rattle.std.specs.Str.{bytes_eq}
use Rattle.std.proofs.lemmas.Iterator.Adapters.{position_from-zero}
use Rattle.std.specs.Map.{lookup}
use Rattle.std.specs.Ordering.{nat_cmp, eq_by_cmp}
use Rattle.std.specs.Prelude.{◌==◌}
use Rattle.std.proofs.lemmas.Bool.Decides.{nat_tests}
use Rattle.std.proofs.lemmas.List.Concat.{flat_map-cons}
use Rattle.std.proofs.lemmas.Map.Keys.{any_passes_from_place}
use Rattle.std.proofs.lemmas.Option.{same_Some, none-some, slice_get_within}
use Rattle.lp_repr.specs.Numbering.{productions_of, rules_of}
use Rattle.lp_repr.specs.declared.lr1.Lr1State.{Lr1State}
use Rattle.lp_repr.specs.declared.lr1.Token.{Token}
use Rattle.lp_repr.specs.declared.lr1.Token.TheVariants.{Terminal, Eof}
use Rattle.lp_repr.specs.declared.numbering.SymbolNumber.TheVariants as symbol
use Rattle.lp_repr.specs.declared.repr.Grammar.{Grammar}
use Rattle.lp_repr.specs.declared.repr.Production.{Production}
use Rattle.lp_driver.specs.Values as values
use Rattle.lp_machine.specs.Lookup.{act_at, same_token, terminal_in}
use Rattle.lp_machine.specs.declared.lookup.KnownTerminal.{KnownTerminal}
use Rattle.lp_machine.specs.Tables.{Tables}
use Rattle.lp_machine.specs.declared.lookup.Act.{Act}
use Rattle.lp_machine.specs.declared.lookup.Act.TheVariants.{Shift, ReduceBy, NoAction}
use Rattle.lp_turn_laws.specs.Paths.Over.{IsOver}
use Rattle.lp_turn_laws.specs.Paths.Walks.{edge_from, edge_at}
use Rattle.lp_turn_laws.proofs.Paths.MachineRules.{any_place}
use Rattle.lp_turn_laws.proofs.Paths.Numbered.{at_left, at_right, at_mapped, mapped_at, rule_place}
use Rattle.lp_turn_laws.proofs.Paths.OneAction.{shifts_on, reduces_on, acts_not}
use Rattle.lp_turn_laws.proofs.Paths.Reductions.{all_at, at_within}
use Rattle.lp_turn_laws.proofs.Paths.Starts.{found_at, is_found}
use Rattle.lp_ascent.specs.ReduceLines.{is_reduced}
use Rattle.lp_back_end_laws.specs.Call.Arms.{Arm, IsMatchedOnce, shift_arm, arm_by, arms_by, arms_of, is_one, has_form, is_seen, fits, taken}
use Rattle.lp_back_end_laws.proofs.Call.Layouts.{entry_place, same_key}

-- ---- lists
-- an element of two joined lists is of one of them
append_cases : {X : Type 0} (xs ys : List X) (i : ℕ) (x : X) → slice_get (xs ++ ys) i ≡ Some x → ((k : ℕ) × (slice_get xs k ≡ Some x)) ⊎ ((k : ℕ) × (slice_get ys k ≡ Some x))
append_cases [] ys i x e = inr (i, e)
append_cases (y ∷ xs) ys zero x e = inl (0, e)
append_cases (y ∷ xs) ys (suc i) x e = ⊎_elim (λ (w : (k : ℕ) × (slice_get xs k ≡ Some x)). inl (suc w.0, w.1)) (λ (w : (k : ℕ) × (slice_get ys k ≡ Some x)). inr w) (append_cases xs ys i x e)

-- what is looked up is the one entry that passes
lookup_alone : {K X : Type 0} (test : K → Bool) (es : List (K × X)) (i : ℕ) (e : K × X) → slice_get es i ≡ Some e → test e.0 ≡ true → ((j : ℕ) (f : K × X) → slice_get es j ≡ Some f → test f.0 ≡ true → j ≡ i) → lookup test es ≡ Some e.1
lookup_alone test [] i e at passes only = absurd (none-some e at)
lookup_alone {K} {X} test (x ∷ es) zero e at passes only =
    let same = same_Some x e at in
    ap (λ (b : Bool). cond b (Some x.1) (lookup test es)) (ap (λ (y : K × X). test y.0) same ∙ passes) ∙ ap (λ (y : K × X). Some y.1) same
lookup_alone {K} {X} test (x ∷ es) (suc i) e at passes only =
    elim (test x.0) as (λ b. test x.0 ≡ b → cond b (Some x.1) (lookup test es) ≡ Some e.1) [
      | true ↦ λ t. let k : 0 ≡ suc i = only 0 x refl t in absurd (omega arith)
      | false ↦ λ t. lookup_alone test es i e at passes (λ j f a p. let k : suc j ≡ suc i = only (suc j) f a p in omega arith)
    ] refl

-- ---- tokens
-- tokens that are the same are one
token_is : (a b : Token) → same_token a b ≡ true → a ≡ b
token_is (Terminal m) (Terminal n) e = ap Terminal (let k : m ≡ n = grind (arith, nat_tests) in k)
token_is (Terminal m) Eof e = cc
token_is Eof (Terminal n) e = cc
token_is Eof Eof e = refl

token_refl : (a : Token) → same_token a a ≡ true
token_refl (Terminal m) = grind (arith, nat_tests)
token_refl Eof = refl

-- an arm that fits a token lists it
listed : (token : Token) (arm : Arm) → fits (is_one token) arm ≡ true → (k : ℕ) × (slice_get arm.0 k ≡ Some token)
listed token arm h = let w = any_place (λ (t : Token). same_token t token) arm.0 h in (w.0, w.2 ∙ ap Some (token_is w.1 token w.3))

-- and one that lists it fits
listing : (token : Token) (arm : Arm) (k : ℕ) → slice_get arm.0 k ≡ Some token → fits (is_one token) arm ≡ true
listing token arm k e = any_passes_from_place (λ (t : Token). same_token t token) arm.0 k token e (token_refl token)

-- ---- arms
-- where each arm that fits does the same, and nothing is done where none fits, the first that fits does that
pub first_taken : (test : Token → Bool) (arms : List Arm) (act : Act) → ((i : ℕ) (arm : Arm) → slice_get arms i ≡ Some arm → fits test arm ≡ true → arm.1 ≡ act) → (((i : ℕ) (arm : Arm) → slice_get arms i ≡ Some arm → fits test arm ≡ true → ⊥) → act ≡ NoAction) → taken test arms ≡ act
first_taken test [] act each none = sym (none (λ i arm e h. none-some arm e))
first_taken test (a ∷ arms) act each none =
    elim (fits test a) as (λ b. fits test a ≡ b → cond b a.1 (taken test arms) ≡ act) [
      | true ↦ λ f. each 0 a refl f
      | false ↦ λ f. first_taken test arms act (λ i arm e h. each (suc i) arm e h) (λ never. none (without f never))
    ] refl
  where
    without : fits test a ≡ false → ((i : ℕ) (arm : Arm) → slice_get arms i ≡ Some arm → fits test arm ≡ true → ⊥) → (i : ℕ) (arm : Arm) → slice_get (a ∷ arms) i ≡ Some arm → fits test arm ≡ true → ⊥
    without f never zero arm e h = (let s : true ≡ false = sym h ∙ ap (fits test) (sym (same_Some a arm e)) ∙ f in cc)
    without f never (suc i) arm e h = never i arm e h

-- the arm of a reduction
arm_source : (n : ℕ) (reduction : List Token × ℕ) (i : ℕ) (arm : Arm) → slice_get (arm_by n reduction) i ≡ Some arm → arm ≡ (reduction.0, ReduceBy reduction.1)
arm_source n reduction i arm e =
    elim (is_reduced n reduction) as (λ b. slice_get (cond b ((reduction.0, ReduceBy reduction.1) ∷ []) []) i ≡ Some arm → arm ≡ (reduction.0, ReduceBy reduction.1)) [
      | true ↦ λ f. only i f
      | false ↦ λ f. absurd (none-some arm f)
    ] e
  where
    only : (i : ℕ) → slice_get ((reduction.0, ReduceBy reduction.1) ∷ []) i ≡ Some arm → arm ≡ (reduction.0, ReduceBy reduction.1)
    only zero f = sym (same_Some _ arm f)
    only (suc i) f = absurd (none-some arm f)

-- those by one production
arms_source : (n : ℕ) (reductions : List (List Token × ℕ)) (i : ℕ) (arm : Arm) → slice_get (flat_map (arm_by n) reductions) i ≡ Some arm → (j : ℕ) × (r : List Token × ℕ) × (slice_get reductions j ≡ Some r) × (arm ≡ (r.0, ReduceBy r.1))
arms_source n [] i arm e = absurd (none-some arm e)
arms_source n (r ∷ reductions) i arm e =
    ⊎_elim
    (λ (w : (k : ℕ) × (slice_get (arm_by n r) k ≡ Some arm)). (0, r, refl, arm_source n r w.0 arm w.1))
    (λ (w : (k : ℕ) × (slice_get (flat_map (arm_by n) reductions) k ≡ Some arm)). let v = arms_source n reductions w.0 arm w.1 in (suc v.0, v.1, v.2, v.3))
    (append_cases (arm_by n r) (flat_map (arm_by n) reductions) i arm (ap (λ (rows : List Arm). slice_get rows i) (sym (flat_map-cons (arm_by n) r reductions)) ∙ e))

-- those by several
reduction_source : (reductions : List (List Token × ℕ)) (n : ℕ) (ps : List Production) (i : ℕ) (arm : Arm) → slice_get (arms_by reductions n ps) i ≡ Some arm → (j : ℕ) × (r : List Token × ℕ) × (slice_get reductions j ≡ Some r) × (arm ≡ (r.0, ReduceBy r.1))
reduction_source reductions n [] i arm e = absurd (none-some arm e)
reduction_source reductions n (p ∷ ps) i arm e =
    ⊎_elim
    (λ (w : (k : ℕ) × (slice_get (flat_map (arm_by n) reductions) k ≡ Some arm)). arms_source n reductions w.0 arm w.1)
    (λ (w : (k : ℕ) × (slice_get (arms_by reductions (n + 1) ps) k ≡ Some arm)). reduction_source reductions (n + 1) ps w.0 arm w.1)
    (append_cases (flat_map (arm_by n) reductions) (arms_by reductions (n + 1) ps) i arm e)

-- a reduction with tokens has its arm among those by its production
arm_there : (n : ℕ) (reductions : List (List Token × ℕ)) (j : ℕ) (r : List Token × ℕ) → slice_get reductions j ≡ Some r → is_reduced n r ≡ true → (i : ℕ) × (slice_get (flat_map (arm_by n) reductions) i ≡ Some (r.0, ReduceBy r.1))
arm_there n [] j r e h = absurd (none-some r e)
arm_there n (x ∷ reductions) zero r e h =
    let same = same_Some x r e in
    (0, ap (λ (rows : List Arm). slice_get rows 0) (flat_map-cons (arm_by n) x reductions) ∙ ap (λ (y : List Token × ℕ). slice_get (arm_by n y ++ flat_map (arm_by n) reductions) 0) same ∙ ap (λ (b : Bool). slice_get (cond b ((r.0, ReduceBy r.1) ∷ []) [] ++ flat_map (arm_by n) reductions) 0) h)
arm_there n (x ∷ reductions) (suc j) r e h =
    let w = arm_there n reductions j r e h in
    let m = length (arm_by n x) in
    (m + w.0, ap (λ (rows : List Arm). slice_get rows (m + w.0)) (flat_map-cons (arm_by n) x reductions) ∙ at_right (arm_by n x) (flat_map (arm_by n) reductions) (m + w.0) w.0 _ refl w.1)

-- and among all, where its production is one of them
reduction_there : (reductions : List (List Token × ℕ)) (n k : ℕ) (ps : List Production) (j : ℕ) (r : List Token × ℕ) → k < length ps → r.1 ≡ n + k → 0 < length r.0 → slice_get reductions j ≡ Some r → (i : ℕ) × (slice_get (arms_by reductions n ps) i ≡ Some (r.0, ReduceBy r.1))
reduction_there reductions n k [] j r l same some e = absurd (omega arith)
reduction_there reductions n zero (p ∷ ps) j r l same some e =
    let h : is_reduced n r ≡ true = is_by r.1 n (length r.0) (omega (arith, same)) some in
    let w = arm_there n reductions j r e h in
    (w.0, at_left (flat_map (arm_by n) reductions) (arms_by reductions (n + 1) ps) w.0 _ w.1)
  where
    is_by : (a b c : ℕ) → a ≡ b → 0 < c → ((a == b) && not (c == 0)) ≡ true
    is_by a b c e l =
        let f : (a == b) ≡ true = grind (arith, nat_tests) in
        let h : (c == 0) ≡ false = grind (arith, nat_tests) in
        ap (λ (x : Bool). x && not (c == 0)) f ∙ ap not h
reduction_there reductions n (suc k) (p ∷ ps) j r l same some e =
    let w = reduction_there reductions (n + 1) k ps j r (omega arith) (omega (arith, same)) some e in
    let m = length (flat_map (arm_by n) reductions) in
    (m + w.0, at_right (flat_map (arm_by n) reductions) (arms_by reductions (n + 1) ps) (m + w.0) w.0 _ refl w.1)

-- ---- the lookahead
-- tests that agree take the same arm
same_taken : (a b : Token → Bool) (arms : List Arm) → ((t : Token) → a t ≡ b t) → taken a arms ≡ taken b arms
same_taken a b [] e = refl
same_taken a b (arm ∷ arms) e =
    ap (λ (c : Bool). cond c arm.1 (taken a arms)) (same_any arm.0) ∙ ap (λ (act : Act). cond (fits b arm) arm.1 act) (same_taken a b arms e)
  where
    same_any : (ts : List Token) → list_any a ts ≡ list_any b ts
    same_any [] = refl
    same_any (t ∷ ts) = ap (λ (c : Bool). c || list_any a ts) (e t) ∙ ap (λ (c : Bool). b t || c) (same_any ts)

-- no arm is taken where none of its tokens passes
none_taken : (test : Token → Bool) (arms : List Arm) → ((t : Token) → test t ≡ false) → taken test arms ≡ NoAction
none_taken test [] e = refl
none_taken test (arm ∷ arms) e = ap (λ (c : Bool). cond c arm.1 (taken test arms)) (none_fits arm.0) ∙ none_taken test arms e
  where
    none_fits : (ts : List Token) → list_any test ts ≡ false
    none_fits [] = refl
    none_fits (t ∷ ts) = ap (λ (c : Bool). c || list_any test ts) (e t) ∙ none_fits ts

-- the end is seen as the end
seen_end : (terminals : List KnownTerminal) (t : Token) → is_seen terminals None t ≡ is_one Eof t
seen_end terminals (Terminal n) = refl
seen_end terminals Eof = refl

-- a token of a terminal is seen as that alone
seen_known : (terminals : List KnownTerminal) (x : values.Token) (i : ℕ) → IsMatchedOnce terminals x → terminal_in terminals x ≡ Some i → (t : Token) → is_seen terminals (Some x) t ≡ is_one (Terminal i) t
seen_known terminals x i once e Eof = refl
seen_known terminals x i once e (Terminal n) =
    by_terminal (slice_get terminals n) refl
  where
    found : (k : KnownTerminal) × (slice_get terminals i ≡ Some k) × (k.form ≡ x.form)
    found =
        let w = found_at (λ (k : KnownTerminal). bytes_eq k.form x.form) 0 terminals i (sym (position_from-zero (λ (k : KnownTerminal). bytes_eq k.form x.form) terminals) ∙ e) in
        let n : w.0 ≡ i = omega (arith, w.2) in
        (w.1, ap (slice_get terminals) (sym n) ∙ w.3, (bytes_decides (w.1).form x.form).0 w.4)

    other : (k : KnownTerminal) (b : Bool) → slice_get terminals n ≡ Some k → bytes_eq k.form x.form ≡ b → b ≡ (n == i)
    other k true at f = (let same : n ≡ i = once n i k found.0 at ((bytes_decides k.form x.form).0 f) found.1 found.2 in grind (arith, nat_tests))
    other k false at f = differ (n == i) refl
      where
        differ : (c : Bool) → (n == i) ≡ c → false ≡ c
        differ false h = refl
        differ true h =
            let m : n ≡ i = grind (arith, nat_tests) in
            let k_is = same_Some k found.0 (sym at ∙ ap (slice_get terminals) m ∙ found.1) in
            let yes : bytes_eq k.form x.form ≡ true = (bytes_decides k.form x.form).1 (ap (λ (l : KnownTerminal). l.form) k_is ∙ found.2) in
            sym f ∙ yes

    by_terminal : (o : Option KnownTerminal) → slice_get terminals n ≡ o → has_form o x ≡ (n == i)
    by_terminal None none = past (n == i) refl
      where
        past : (c : Bool) → (n == i) ≡ c → false ≡ c
        past false h = refl
        past true h = (let m : n ≡ i = grind (arith, nat_tests) in absurd (none-some found.0 (sym none ∙ ap (slice_get terminals) m ∙ found.1)))
    by_terminal (Some k) at = other k (bytes_eq k.form x.form) at refl

-- a token of none is not seen as any
seen_unknown : (terminals : List KnownTerminal) (x : values.Token) → terminal_in terminals x ≡ None → (t : Token) → is_seen terminals (Some x) t ≡ false
seen_unknown terminals x e Eof = refl
seen_unknown terminals x e (Terminal n) = by_terminal (slice_get terminals n) refl
  where
    by_terminal : (o : Option KnownTerminal) → slice_get terminals n ≡ o → has_form o x ≡ false
    by_terminal None at = refl
    by_terminal (Some k) at = by_test (bytes_eq k.form x.form) refl
      where
        by_test : (b : Bool) → bytes_eq k.form x.form ≡ b → b ≡ false
        by_test false f = refl
        by_test true f =
            let w = is_found (λ (k : KnownTerminal). bytes_eq k.form x.form) 0 terminals (any_passes_from_place (λ (k : KnownTerminal). bytes_eq k.form x.form) terminals n k at f) in
            absurd (none-some w.0 (sym e ∙ position_from-zero (λ (k : KnownTerminal). bytes_eq k.form x.form) terminals ∙ w.1))

module _ {g : Grammar} {start : ℕ} {states : List Lr1State} {t : Tables} (over : IsOver g start states t) where
  -- a state's shifts are its edges over terminals
  pub shift_edge : (q i n to : ℕ) (s : Lr1State) → slice_get states q ≡ Some s → slice_get (s.shifts).entries i ≡ Some (n, to) → edge_at states q (symbol.Terminal n) ≡ Some to
  shift_edge q i n to s at e =
      ap (λ (o : Option Lr1State). edge_from o (symbol.Terminal n)) at
      ∙ lookup_alone (eq_by_cmp nat_cmp n) (s.shifts).entries i (n, to) e (grind (arith, nat_tests)) (λ j f a p.
      let same = same_key n f.0 p in
      ((over.tables).each q s at).acts_once j i (Terminal n) (acting j f.0 (sym same) (mapped_at (λ (x : ℕ × ℕ). x.0) (s.shifts).entries j f a)) (acting i n refl (mapped_at (λ (x : ℕ × ℕ). x.0) (s.shifts).entries i (n, to) e)))
    where
      acting : (k m : ℕ) → m ≡ n → slice_get (keys s.shifts) k ≡ Some m → slice_get (map Terminal (keys s.shifts) ++ flat_map (λ (r : List Token × ℕ). r.0) s.reductions) k ≡ Some (Terminal n)
      acting k m same h = at_left (map Terminal (keys s.shifts)) (flat_map (λ (r : List Token × ℕ). r.0) s.reductions) k (Terminal n) (mapped_at Terminal (keys s.shifts) k m h ∙ ap (λ (a : ℕ). Some (Terminal a)) same)

  -- an arm that fits does what the state does
  pub arm_does : (q : ℕ) (s : Lr1State) (token : Token) (i : ℕ) (arm : Arm) → slice_get states q ≡ Some s → slice_get (arms_of g s) i ≡ Some arm → fits (is_one token) arm ≡ true → arm.1 ≡ act_at states q token
  arm_does q s token i arm at e h =
      let k = listed token arm h in
      ⊎_elim
      (λ (w : (k : ℕ) × (slice_get (map shift_arm (s.shifts).entries) k ≡ Some arm)).
      let x = at_mapped shift_arm (s.shifts).entries w.0 arm w.1 in
      shift_does w.0 x.0 x.1 x.2)
      (λ (w : (k : ℕ) × (slice_get (arms_by s.reductions 0 (productions_of g)) k ≡ Some arm)).
      let r = reduction_source s.reductions 0 (productions_of g) w.0 arm w.1 in
      ap (λ (a : Arm). a.1) r.3 ∙ sym (reduces_on g start states over.tables q s r.0 k.0 r.1 token at r.2 (subst (λ (a : Arm). slice_get a.0 k.0 ≡ Some token) r.3 k.1)))
      (append_cases (map shift_arm (s.shifts).entries) (arms_by s.reductions 0 (productions_of g)) i arm e)
    where
      shift_does : (j : ℕ) (x : ℕ × ℕ) → slice_get (s.shifts).entries j ≡ Some x → arm ≡ shift_arm x → arm.1 ≡ act_at states q token
      shift_does j x e same =
          let k = listed token (shift_arm x) (subst (λ (a : Arm). fits (is_one token) a ≡ true) same h) in
          let one = alone_at (Terminal x.0) k.0 k.1 in
          ap (λ (a : Arm). a.1) same ∙ sym (shifts_on g start states over.tables q x.0 x.1 (shift_edge q j x.0 x.1 s at e)) ∙ ap (act_at states q) one
        where
          alone_at : (a : Token) (k : ℕ) → slice_get (a ∷ []) k ≡ Some token → a ≡ token
          alone_at a zero f = same_Some a token f
          alone_at a (suc k) f = absurd (none-some token f)

  -- where none fits the state has no action
  pub no_arm : (q : ℕ) (s : Lr1State) (token : Token) → slice_get states q ≡ Some s → ((i : ℕ) (arm : Arm) → slice_get (arms_of g s) i ≡ Some arm → fits (is_one token) arm ≡ true → ⊥) → act_at states q token ≡ NoAction
  no_arm q s token at never =
      acts_not g start states over.tables q s token at
      (λ n to same edge.
      let f : get nat_cmp s.shifts n ≡ Some to = sym (ap (λ (o : Option Lr1State). edge_from o (symbol.Terminal n)) at) ∙ edge in
      let w = entry_place (eq_by_cmp nat_cmp n) (s.shifts).entries to f in
      let one = same_key n w.1 w.3 in
      let arm : Arm = shift_arm (w.1, to) in
      never w.0 arm (at_left (map shift_arm (s.shifts).entries) _ w.0 arm (mapped_at shift_arm (s.shifts).entries w.0 (w.1, to) w.2)) (listing token arm 0 (ap (λ (k : ℕ). Some (Terminal k)) (sym one) ∙ ap Some (sym same))))
      (λ i k x e f.
      let l = (all_at _ s.reductions i x ((over.tables).each q s at).reductions_in_range e).0 in
      let r = at_within (rules_of g) x.1 l in
      let p = rule_place g x.1 r.0 r.1 in
      let known = slice_get_within (productions_of g) x.1 (p.0).production p.2 in
      let some = slice_get_within x.0 k token f in
      let w = reduction_there s.reductions 0 x.1 (productions_of g) i x known (omega arith) (omega (arith, some)) e in
      let m = length (map shift_arm (s.shifts).entries) in
      never (m + w.0) (x.0, ReduceBy x.1) (at_right (map shift_arm (s.shifts).entries) (arms_by s.reductions 0 (productions_of g)) (m + w.0) w.0 _ refl w.1) (listing token (x.0, ReduceBy x.1) k f))

  -- the first arm that fits does what the state does
  pub arm_taken : (q : ℕ) (s : Lr1State) (token : Token) → slice_get states q ≡ Some s → taken (is_one token) (arms_of g s) ≡ act_at states q token
  arm_taken q s token at = first_taken (is_one token) (arms_of g s) (act_at states q token) (λ i arm e h. arm_does q s token i arm at e h) (λ never. no_arm q s token at never)

  -- ---- by the lookahead
  -- at the end of the items
  pub arm_at_end : (terminals : List KnownTerminal) (q : ℕ) (s : Lr1State) → slice_get states q ≡ Some s → taken (is_seen terminals None) (arms_of g s) ≡ act_at states q Eof
  arm_at_end terminals q s at = same_taken (is_seen terminals None) (is_one Eof) (arms_of g s) (seen_end terminals) ∙ arm_taken q s Eof at

  -- on a token of one terminal
  pub arm_on_token : (terminals : List KnownTerminal) (x : values.Token) (i q : ℕ) (s : Lr1State) → IsMatchedOnce terminals x → terminal_in terminals x ≡ Some i → slice_get states q ≡ Some s → taken (is_seen terminals (Some x)) (arms_of g s) ≡ act_at states q (Terminal i)
  arm_on_token terminals x i q s once e at = same_taken (is_seen terminals (Some x)) (is_one (Terminal i)) (arms_of g s) (seen_known terminals x i once e) ∙ arm_taken q s (Terminal i) at

-- on a token of none no arm is taken
pub no_arm_unknown : (terminals : List KnownTerminal) (x : values.Token) (arms : List Arm) → terminal_in terminals x ≡ None → taken (is_seen terminals (Some x)) arms ≡ NoAction
no_arm_unknown terminals x arms e = none_taken (is_seen terminals (Some x)) arms (seen_unknown terminals x e)

same_shift : (a b : ℕ × ℕ) → shift_arm a ≡ shift_arm b → (a.0 ≡ b.0) × (a.1 ≡ b.1)
same_shift a b e =
    let tokens : Terminal a.0 ∷ [] ≡ Terminal b.0 ∷ [] = ap (λ (x : Arm). x.0) e in
    let acts : Shift a.1 ≡ Shift b.1 = ap (λ (x : Arm). x.1) e in
    (cc, cc)

shift_or_reduce : (a : ℕ × ℕ) (r : List Token × ℕ) → shift_arm a ≡ (r.0, ReduceBy r.1) → ⊥
shift_or_reduce a r e = (let acts : Shift a.1 ≡ ReduceBy r.1 = ap (λ (x : Arm). x.1) e in cc)

-- an arm that shifts is of an edge
module _ {g : Grammar} {start : ℕ} {states : List Lr1State} {t : Tables} (over : IsOver g start states t) where
  pub arm_edge : (q i : ℕ) (s : Lr1State) (shift : ℕ × ℕ) → slice_get states q ≡ Some s → slice_get (arms_of g s) i ≡ Some (shift_arm shift) → edge_at states q (symbol.Terminal shift.0) ≡ Some shift.1
  arm_edge q i s shift at e = ⊎_elim
      (λ (w : (k : ℕ) × (slice_get (map shift_arm (s.shifts).entries) k ≡ Some (shift_arm shift))).
      let x = at_mapped shift_arm (s.shifts).entries w.0 (shift_arm shift) w.1 in
      let same = same_shift shift x.0 x.2 in
      ap (λ n. edge_at states q (symbol.Terminal n)) same.0 ∙ shift_edge over q w.0 x.0.0 x.0.1 s at x.1 ∙ ap Some (sym same.1))
      (λ (w : (k : ℕ) × (slice_get (arms_by s.reductions 0 (productions_of g)) k ≡ Some (shift_arm shift))).
      let r = reduction_source s.reductions 0 (productions_of g) w.0 (shift_arm shift) w.1 in
      absurd (shift_or_reduce shift r.1 r.3))
      (append_cases (map shift_arm (s.shifts).entries) (arms_by s.reductions 0 (productions_of g)) i (shift_arm shift) e)
