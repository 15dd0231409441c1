-- Names of symbols and paths by name, one by one.
use Rattle.std.proofs.Common.{◌≡◌, ℕ, ◌+◌, ◌<◌, Bool, true, false, cond, List, [], ◌∷◌, ◌++◌, map, length, Option, Some, None, IsSome, slice_get, slice_index_or, get_or, take, refl, sym, ap, ◌∙◌, ⊎_elim, subst, arith, Contains}
use Rattle.std.specs.Borrow.{Bor}
use Rattle.std.specs.BTreeMap as tree
use Rattle.std.specs.Map.Iter.{deref}
use Rattle.std.specs.Option.{option_map, option_to_list}
use Rattle.std.specs.List.{AllZip, filter_map, cons_option}
use Rattle.std.specs.Ordering.{eq_by_cmp, is_eq}
use Rattle.std.specs.declared.cmp.Ordering.{Ordering}
use Rattle.std.specs.declared.cmp.Ordering.TheVariants.{Less, Equal, Greater}
use Rattle.std.proofs.lemmas.Cmp.{tied_itself}
use Rattle.std.proofs.lemmas.List.{length_push, take_more, map-append}
use Rattle.std.proofs.lemmas.List.Elements.{Contains-push_cases, filter_map-append}
use Rattle.std.proofs.lemmas.Option.{same_Some, get_or_from_slice_get, slice_get-get_or, slice_get-map, slice_get_within}
use Rattle.lp_repr.specs.Numbering.{number_or_count}
use Rattle.lp_repr.specs.declared.repr.Grammar.{Grammar}
use Rattle.lp_repr.specs.declared.repr.Production.{Production}
use Rattle.lp_repr.specs.declared.repr.Symbol.{Symbol}
use Rattle.lp_repr.specs.declared.numbering.SymbolNumber.{SymbolNumber}
use Rattle.lp_states.specs.declared.names.Names.{Names}
use Rattle.lp_states.specs.Actions.{symbol_cmp}
use Rattle.lp_states.specs.ItemMaps.{IsPut}
use Rattle.lp_states.specs.Naming.{name_at, NamesRightly, NamesMore}
use Rattle.lp_states.proofs.SymbolOrder.{symbol_total, symbol_exact}
use Rattle.lp_states.proofs.WalkSteps.{push_new}

equal_from : (o : Ordering) → is_eq o ≡ true → o ≡ Equal
equal_from Less h = cc
equal_from Equal h = refl
equal_from Greater h = cc

some_cond : {X : Type 0} (b : Bool) (v : X) (o : Option X) → IsSome o → IsSome (cond b (Some v) o)
some_cond true v o h = refl
some_cond false v o h = h

-- ---- the symbols of a production
module _ (g : Grammar) (first old new : Names) (s : Symbol) (put : (x : SymbolNumber) → name_at new x ≡ cond (eq_by_cmp symbol_cmp (number_or_count g s) x) (Some s) (name_at old x)) where
  right_cases : (x : SymbolNumber) (t : Symbol) (b : Bool) → eq_by_cmp symbol_cmp (number_or_count g s) x ≡ b → NamesRightly g old → cond b (Some s) (name_at old x) ≡ Some t → number_or_count g t ≡ x
  right_cases x t true h before e =
      ap (number_or_count g) (sym (same_Some s t e)) ∙ symbol_exact (number_or_count g s) x (equal_from (symbol_cmp (number_or_count g s) x) h)
  right_cases x t false h before e = before x t e

  put_rightly : NamesRightly g old → NamesRightly g new
  put_rightly before x t e = right_cases x t (eq_by_cmp symbol_cmp (number_or_count g s) x) refl before (sym (put x) ∙ e)

  put_kept : (x : SymbolNumber) → IsSome (name_at old x) → IsSome (name_at new x)
  put_kept x h = subst (λ (o : Option Symbol). IsSome o) (sym (put x)) (some_cond (eq_by_cmp symbol_cmp (number_or_count g s) x) s (name_at old x) h)

  put_named : IsSome (name_at new (number_or_count g s))
  put_named =
      let n = number_or_count g s in
      subst (λ (o : Option Symbol). IsSome o) (sym (put n ∙ ap (λ (b : Bool). cond b (Some s) (name_at old n)) (ap is_eq (tied_itself symbol_total n)))) refl

  pub names_push : (symbols : List Symbol) → NamesMore g first old symbols → NamesMore g first new (symbols ++ s ∷ [])
  names_push symbols h = record {
    rightly = λ r. put_rightly (h.rightly r);
    kept = λ x k. put_kept x (h.kept x k);
    added = λ t c. ⊎_elim (λ (o : Contains symbols t). put_kept (number_or_count g t) (h.added t o)) (λ (e : s ≡ t). subst (λ r. IsSome (name_at new (number_or_count g r))) e put_named) (Contains-push_cases symbols s t c);
  }

pub names_none : (g : Grammar) (names : Names) → NamesMore g names names []
names_none g names = record { rightly = λ r. r; kept = λ x k. k; added = λ t c. absurd (omega (arith, c.1)) }

-- ---- the productions
abbrev pub AreNamed : Grammar → Names → List Production → Type 0
AreNamed g names ps = (q : Production) (s : Symbol) → Contains ps q → Contains q.symbols s → IsSome (name_at names (number_or_count g s))

pub named_more : (g : Grammar) (old new : Names) (ps : List Production) (p : Production) → AreNamed g old ps → NamesMore g old new p.symbols → AreNamed g new (ps ++ p ∷ [])
named_more g old new ps p before more q s c d =
    ⊎_elim (λ (o : Contains ps q). more.kept (number_or_count g s) (before q s o d)) (λ (e : p ≡ q). more.added s (subst (λ (r : Production). Contains r.symbols s) (sym e) d)) (Contains-push_cases ps p q c)

-- ---- lists side by side
pub zip_push : {A B : Type 0} (R : A → B → Type 0) (xs : List A) (ys : List B) (x : A) (y : B) → AllZip R xs ys → R x y → AllZip R (xs ++ x ∷ []) (ys ++ y ∷ [])
zip_push R [] [] x y h r = (r, tt)
zip_push R [] (b ∷ ys) x y h r = absurd h
zip_push R (a ∷ xs) [] x y h r = absurd h
zip_push R (a ∷ xs) (b ∷ ys) x y h r = (h.0, zip_push R xs ys x y h.1 r)

pub last_of : {X : Type 0} (xs before : List X) (u d : X) (n : ℕ) → xs ≡ before ++ u ∷ [] → n + 1 ≡ length xs → slice_index_or xs n d ≡ u
last_of {X} xs before u d n e l =
    let m : n ≡ length before = omega (arith, l, ap length e, length_push before u) in
    ap (λ (ys : List X). slice_index_or ys n d) e ∙ get_or_from_slice_get (before ++ u ∷ []) n u d (ap (slice_get (before ++ u ∷ [])) m ∙ push_new before u)

-- ---- one element more
pub take_at : {X : Type 0} (xs : List X) (i : ℕ) (x : X) → slice_get xs i ≡ Some x → take (i + 1) xs ≡ take i xs ++ x ∷ []
take_at {X} xs i x at =
    take_more xs i x (slice_get_within xs i x at) ∙ ap (λ (y : X). take i xs ++ y ∷ []) (get_or_from_slice_get xs i x x at)

pub mapped_here : {A B : Type 0} (f : A → B) (xs : List A) (i : ℕ) (x : A) → i < length xs → x ≡ get_or xs i x → slice_get (map f xs) i ≡ Some (f x)
mapped_here {A} {B} f xs i x l at =
    slice_get-map f xs i ∙ ap (option_map f) (slice_get-get_or xs i x l) ∙ ap (λ (y : A). Some (f y)) (sym at)

-- ---- a reference put at a number
now_cond : (b : Bool) (s : Bor Symbol) (o : Option (Bor Symbol)) → option_map (λ (r : Bor Symbol). r.now) (cond b (Some s) o) ≡ cond b (Some s.now) (option_map (λ (r : Bor Symbol). r.now) o)
now_cond true s o = refl
now_cond false s o = refl

name_put : (g : Grammar) (old new : Names) (key : SymbolNumber) (s : Bor Symbol) → IsPut symbol_cmp old.symbols new.symbols key s → key ≡ number_or_count g s.now → (x : SymbolNumber) → name_at new x ≡ cond (eq_by_cmp symbol_cmp (number_or_count g s.now) x) (Some s.now) (name_at old x)
name_put g old new key s put e x =
    ap (option_map (λ (r : Bor Symbol). r.now)) (put x)
    ∙ now_cond (eq_by_cmp symbol_cmp key x) s (tree.get symbol_cmp old.symbols x)
    ∙ ap (λ (k : SymbolNumber). cond (eq_by_cmp symbol_cmp k x) (Some s.now) (name_at old x)) e

pub names_step : (g : Grammar) (first old new : Names) (symbols : List Symbol) (n : ℕ) (numbers : List SymbolNumber) (d : SymbolNumber) (s : Bor Symbol) → n < length symbols → s.now ≡ get_or symbols n s.now → numbers ≡ map (number_or_count g) symbols → IsPut symbol_cmp old.symbols new.symbols (get_or numbers n d) s → NamesMore g first old (take n symbols) → NamesMore g first new (take (n + 1) symbols)
names_step g first old new symbols n numbers d s l at all put before =
    let here = mapped_here (number_or_count g) symbols n s.now l at in
    let key : get_or numbers n d ≡ number_or_count g s.now = ap (λ (xs : List SymbolNumber). get_or xs n d) all ∙ get_or_from_slice_get (map (number_or_count g) symbols) n (number_or_count g s.now) d here in
    let more = take_at symbols n s.now (slice_get-get_or symbols n s.now l ∙ ap Some (sym at)) in
    rw more (names_push g first old new s.now (name_put g old new (get_or numbers n d) s put key) (take n symbols) before)

-- ---- one symbol of a path more
one_named : (o : Option Symbol) → cons_option o [] ≡ option_to_list o
one_named None = refl
one_named (Some s) = refl

pub spelled_more : (names : Names) (ys : List (Bor SymbolNumber)) (y : Bor SymbolNumber) (old new : List Symbol) (o : Option Symbol) → old ≡ filter_map (name_at names) (map deref ys) → name_at names y.now ≡ o → new ≡ old ++ option_to_list o → new ≡ filter_map (name_at names) (map deref (ys ++ y ∷ []))
spelled_more names ys y old new o before at is =
    is
    ∙ ap (λ (xs : List Symbol). xs ++ option_to_list o) before
    ∙ ap (λ (xs : List Symbol). filter_map (name_at names) (map deref ys) ++ xs) (sym (ap (λ (p : Option Symbol). cons_option p []) at ∙ one_named o))
    ∙ sym (filter_map-append (name_at names) (map deref ys) (y.now ∷ []))
    ∙ ap (filter_map (name_at names)) (sym (map-append deref ys (y ∷ [])))
