-- The patterns of a lowered grammar are all different: a token matches at most one of its terminals.
use Rattle.std.proofs.Common.{◌≡◌, ℕ, zero, suc, ◌+◌, ◌<◌, ◌≤◌, ◌⊎◌, ◌||◌, Bool, true, false, List, [], ◌∷◌, ◌++◌, length, map, All, Option, Some, None, inl, inr, refl, sym, ap, ◌∙◌, subst, is_eq, ⊎_elim, true≢false, arith}
use Rattle.std.specs.Prelude.{slice_get, if◌then◌else◌}
use Rattle.std.specs.BTreeMap.{get, insert_entry}
use Rattle.std.specs.Cmp.Lexicographic.{bytes_decides}
use Rattle.std.specs.List.{list_any}
use Rattle.std.proofs.lemmas.Bool.{cases_lt}
use Rattle.std.specs.Map.{lookup}
use Rattle.std.specs.Ordering.{match_ordering}
use Rattle.std.specs.declared.cmp.Ordering.{Ordering}
use Rattle.std.specs.declared.cmp.Ordering.TheVariants.{Less, Equal, Greater}
use Rattle.std.proofs.lemmas.Map.Entries.{place_from_lookup}
use Rattle.std.proofs.lemmas.Option.{same_Some}
use Rattle.lp_repr.specs.NameOrder.{terminal_cmp}
use Rattle.lp_repr.specs.Names.{same_terminal, same_text}
use Rattle.lp_repr.specs.Shown.{pattern_text, terminal_text}
use Rattle.lp_repr.specs.declared.repr.Grammar.{Grammar}
use Rattle.lp_repr.specs.declared.repr.TerminalString.{TerminalString}
use Rattle.lp_repr.specs.declared.repr.TerminalString.TheVariants.{Quoted, Bare, Error}
use Rattle.lp_repr.specs.declared.repr.TokenPattern.{TokenPattern}
use Rattle.lp_repr.specs.declared.values.RunItem.{RunItem}
use Rattle.lp_repr.specs.declared.values.RunItem.TheVariants as item
use Rattle.lp_repr.specs.TypeTrees.{TypeTrees}
use Rattle.lp_lower.specs.Lowering.{IsLowering, pattern_entry, pattern_tree, named_pattern}
use Rattle.lp_lower.specs.Places.{least, least_of}
use Rattle.lp_lower.specs.Productions.{put_all}
use Rattle.lp_lower.specs.Refusals.{same_name, same_pattern, same_rule, repeated_places}
use Rattle.lp_lower.specs.Repeats.{repeats, repeats_after}
use Rattle.lp_lower.specs.ActionNumbers.{uses_error}
use Rattle.lp_machine.specs.declared.lookup.KnownTerminal.{KnownTerminal}
use Rattle.lp_machine.specs.GrammarTables.{is_error, known_by, known_among}
use Rattle.lp_plain.specs.Front.{LowersTo}
use Rattle.lp_syntax.specs.declared.plain.PlainGrammar.{PlainGrammar}
use Rattle.lp_syntax.specs.declared.plain.PlainTerminal.{PlainTerminal}
use Rattle.lp_syntax.specs.declared.plain.PlainRule.{PlainRule}
use Rattle.lp_valid.proofs.Lookups.{lookup_agree, terminal_ties}
use Rattle.lp_agrees.specs.Machine.{MatchesOne}

-- ---- what stands twice
any_false : {X : Type 0} (p : X → Bool) (xs : List X) (i : ℕ) (x : X) → list_any p xs ≡ false → slice_get xs i ≡ Some x → p x ≡ false
any_false p [] i x none at = cc
any_false p (y ∷ ys) zero x none at = subst (λ (z : _). p z ≡ false) (same_Some y x at) (first (p y) (list_any p ys) none)
  where
    first : (a b : Bool) → (a || b) ≡ false → a ≡ false
    first true b e = cc
    first false b e = refl
any_false p (y ∷ ys) (suc i) x none at = any_false p ys i x (second (p y) (list_any p ys) none) at
  where
    second : (a b : Bool) → (a || b) ≡ false → b ≡ false
    second true b e = cc
    second false b e = e

get_front : {X : Type 0} (xs ys : List X) (i : ℕ) (x : X) → slice_get xs i ≡ Some x → slice_get (xs ++ ys) i ≡ Some x
get_front [] ys i x at = cc
get_front (y ∷ xs) ys zero x at = at
get_front (y ∷ xs) ys (suc i) x at = get_front xs ys i x at

get_end : {X : Type 0} (xs : List X) (x : X) → slice_get (xs ++ x ∷ []) (length xs) ≡ Some x
get_end [] x = refl
get_end (y ∷ xs) x = get_end xs x

if_none : {X : Type 0} (b : Bool) (x : X) (rest : List X) → (if b then x ∷ [] else []) ++ rest ≡ [] → (b ≡ false) × (rest ≡ [])
if_none true x rest e = cc
if_none false x rest e = (refl, e)

module _ {X : Type 0} (same : X → X → Bool) where
  -- where nothing stands again, none of what stood before is the same as one of these
  none_seen : (seen xs : List X) → repeats_after same seen xs ≡ [] → (i j : ℕ) (x y : X) → slice_get seen i ≡ Some x → slice_get xs j ≡ Some y → same x y ≡ false
  none_seen seen [] none i j x y at there = cc
  none_seen seen (z ∷ zs) none i zero x y at there =
      let parts = if_none (list_any (λ w. same w z) seen) z (repeats_after same (seen ++ z ∷ []) zs) none in
      subst (λ w. same x w ≡ false) (same_Some z y there) (any_false (λ w. same w z) seen i x parts.0 at)
  none_seen seen (z ∷ zs) none i (suc j) x y at there =
      let parts = if_none (list_any (λ w. same w z) seen) z (repeats_after same (seen ++ z ∷ []) zs) none in
      none_seen (seen ++ z ∷ []) zs parts.1 i j x y (get_front seen (z ∷ []) i x at) there

  -- nor is one of these as a later one
  none_twice : (seen xs : List X) → repeats_after same seen xs ≡ [] → (i j : ℕ) (x y : X) → i < j → slice_get xs i ≡ Some x → slice_get xs j ≡ Some y → same x y ≡ false
  none_twice seen [] none i j x y less at there = cc
  none_twice seen (z ∷ zs) none i zero x y less at there = absurd (omega (arith, less))
  none_twice seen (z ∷ zs) none zero (suc j) x y less at there =
      let parts = if_none (list_any (λ w. same w z) seen) z (repeats_after same (seen ++ z ∷ []) zs) none in
      none_seen (seen ++ z ∷ []) zs parts.1 (length seen) j x y (get_end seen z ∙ at) there
  none_twice seen (z ∷ zs) none (suc i) (suc j) x y less at there =
      let parts = if_none (list_any (λ w. same w z) seen) z (repeats_after same (seen ++ z ∷ []) zs) none in
      none_twice (seen ++ z ∷ []) zs parts.1 i j x y (omega (arith, less)) at there

-- ---- names
terminal_is : (s t : TerminalString) → same_terminal s t ≡ true → s ≡ t
terminal_is (Quoted s) (Quoted t) e = ap Quoted ((bytes_decides s t).0 e)
terminal_is (Quoted s) (Bare t) e = cc
terminal_is (Quoted s) Error e = cc
terminal_is (Bare s) (Quoted t) e = cc
terminal_is (Bare s) (Bare t) e = ap Bare ((bytes_decides s t).0 e)
terminal_is (Bare s) Error e = cc
terminal_is Error (Quoted t) e = cc
terminal_is Error (Bare t) e = cc
terminal_is Error Error e = refl

same_self : (t : TerminalString) → same_terminal t t ≡ true
same_self (Quoted s) = (bytes_decides s s).1 refl
same_self (Bare s) = (bytes_decides s s).1 refl
same_self Error = refl

-- ---- what is put into a map
abbrev Tree : Type 0
Tree = List (List ℕ) × TypeTrees

abbrev Each : (TerminalString × Tree → Type 0) → List (TerminalString × Tree) → Type 0
Each P [] = Unit {0}
Each P (e ∷ es) = P e × Each P es

each_at : (P : TerminalString × Tree → Type 0) (es : List (TerminalString × Tree)) (i : ℕ) (e : TerminalString × Tree) → Each P es → slice_get es i ≡ Some e → P e
each_at P [] i e h at = cc
each_at P (f ∷ es) zero e h at = subst P (same_Some f e at) h.0
each_at P (f ∷ es) (suc i) e h at = each_at P es i e h.1 at

-- of this key there is an entry with this value
record Stands (cs : List PlainTerminal) (e : TerminalString × Tree) : Type 0 where
  place : ℕ
  terminal : PlainTerminal
  there : slice_get cs place ≡ Some terminal
  name : e.0 ≡ terminal.name
  tree : e.1 ≡ pattern_tree terminal.pattern

module _ (cs : List PlainTerminal) where
  put_one : (es : List (TerminalString × Tree)) (k : TerminalString) (v : Tree) → Each (Stands cs) es → Stands cs (k, v) → Each (Stands cs) (insert_entry terminal_cmp es k v)
  put_one [] k v all one = (one, tt)
  put_one (e ∷ es) k v all one = by (put_one es k v all.1 one) (terminal_cmp k e.0) refl
    where
      by : Each (Stands cs) (insert_entry terminal_cmp es k v) → (o : Ordering) → terminal_cmp k e.0 ≡ o → Each (Stands cs) (match_ordering o ((k, v) ∷ e ∷ es) ((e.0, v) ∷ es) (e ∷ insert_entry terminal_cmp es k v))
      by rest Less is = (one, all)
      by rest Equal is = (
        (let name : k ≡ e.0 = terminal_is k e.0 (sym (terminal_ties k e.0) ∙ ap is_eq is) in record { place = one.place; terminal = one.terminal; there = one.there; name = sym name ∙ one.name; tree = one.tree }),
        all.1,
      )
      by rest Greater is = (all.0, rest)

  put_each : (es : List (TerminalString × Tree)) (xs : List PlainTerminal) → Each (Stands cs) es → ((i : ℕ) (c : PlainTerminal) → slice_get xs i ≡ Some c → (n : ℕ) × (slice_get cs n ≡ Some c)) → Each (Stands cs) (put_all terminal_cmp es (map named_pattern xs))
  put_each es [] all at = all
  put_each es (x ∷ xs) all at =
      let here = at 0 x refl in
      put_each (insert_entry terminal_cmp es x.name (pattern_tree x.pattern)) xs (put_one es x.name (pattern_tree x.pattern) all (record { place = here.0; terminal = x; there = here.1; name = refl; tree = refl })) (λ i c is. at (suc i) c is)

get_map : {A B : Type 0} (f : A → B) (xs : List A) (i : ℕ) (x : A) → slice_get xs i ≡ Some x → slice_get (map f xs) i ≡ Some (f x)
get_map f [] i x at = cc
get_map f (y ∷ xs) zero x at = ap (λ z. Some (f z)) (same_Some y x at)
get_map f (y ∷ xs) (suc i) x at = get_map f xs i x at

-- ---- the machine's terminals
never : (o : Option TokenPattern) → known_by Error o ≡ []
never None = refl
never (Some p) = refl

module _ (g : Grammar) (cs : List PlainTerminal) (names : repeats same_name cs ≡ []) (patterns : repeats same_pattern cs ≡ []) (is : map pattern_entry g.conversions.entries ≡ put_all terminal_cmp [] (map named_pattern cs)) where
  -- a pattern that is found under a terminal's name is that terminal's
  own_pattern : (n : ℕ) (c : PlainTerminal) (p : TokenPattern) → slice_get cs n ≡ Some c → get terminal_cmp g.conversions c.name ≡ Some p → pattern_text p ≡ pattern_text c.pattern
  own_pattern n c p at found =
      let looked : lookup (same_terminal c.name) g.conversions.entries ≡ Some p = sym (lookup_agree _ (same_terminal c.name) (terminal_ties c.name) g.conversions.entries) ∙ found in
      let e = place_from_lookup (same_terminal c.name) g.conversions.entries p looked in
      let all : Each (Stands cs) (put_all terminal_cmp [] (map named_pattern cs)) = put_each cs [] cs tt (λ i x h. (i, h)) in
      let s = each_at (Stands cs) (put_all terminal_cmp [] (map named_pattern cs)) e.0 (e.1, pattern_tree p) all (ap (λ (es : List (TerminalString × Tree)). slice_get es e.0) (sym is) ∙ get_map pattern_entry g.conversions.entries e.0 (e.1, p) e.2) in
      let one : s.terminal.name ≡ c.name = sym s.name ∙ sym (terminal_is c.name e.1 e.3) in
      let same : s.terminal ≡ c = alone s.place n s.terminal s.there at one in
      ap (λ (ps : List (List ℕ)). pattern_text (record p { pieces = ps })) (ap (λ (t : Tree). t.0) s.tree) ∙ ap (λ (x : PlainTerminal). pattern_text x.pattern) same
    where
      alone : (i j : ℕ) (x : PlainTerminal) → slice_get cs i ≡ Some x → slice_get cs j ≡ Some c → x.name ≡ c.name → x ≡ c
      alone i j x here there e = ⊎_elim
          (λ (less : i < j). absurd (true≢false (sym (ap (same_terminal x.name) (sym e) ∙ same_self x.name) ∙ none_twice same_name [] cs names i j x c less here there)))
          (λ (le : j ≤ i). ⊎_elim
          (λ (less : j < i). absurd (true≢false (sym (ap (same_terminal c.name) e ∙ same_self c.name) ∙ none_twice same_name [] cs names j i c x less there here)))
          (λ (ge : i ≤ j). let one : i ≡ j = omega (arith, le, ge) in same_Some x c (sym here ∙ ap (slice_get cs) one ∙ there))
          (cases_lt j i))
          (cases_lt i j)

  -- each known terminal is one of these, from a place on
  record From (n : ℕ) (k : KnownTerminal) : Type 0 where
    place : ℕ
    terminal : PlainTerminal
    behind : n ≤ place
    there : slice_get cs place ≡ Some terminal
    form : k.form ≡ pattern_text terminal.pattern

  abbrev AreAt : ℕ → List PlainTerminal → Type 0
  AreAt n xs = (j : ℕ) (x : PlainTerminal) → slice_get xs j ≡ Some x → slice_get cs (n + j) ≡ Some x

  next_at : (n : ℕ) (x : PlainTerminal) (xs : List PlainTerminal) → AreAt n (x ∷ xs) → AreAt (n + 1) xs
  next_at n x xs are j y at = (let e : n + 1 + j ≡ n + suc j = omega arith in ap (slice_get cs) e ∙ are (suc j) y at)

  -- what stands behind the terminals is the error terminal, if anything
  abbrev tail : Bool → List TerminalString
  tail uses = if uses then Error ∷ [] else []

  none_behind : (uses : Bool) → known_among g (tail uses) ≡ []
  none_behind true = ap (λ (ks : List KnownTerminal). ks ++ []) (never (get terminal_cmp g.conversions Error))
  none_behind false = refl

  this_from : (n : ℕ) (x : PlainTerminal) (o : Option TokenPattern) (k : KnownTerminal) (i : ℕ) → get terminal_cmp g.conversions x.name ≡ o → slice_get cs n ≡ Some x → slice_get (known_by x.name o) i ≡ Some k → (i ≡ 0) × (k.form ≡ pattern_text x.pattern)
  this_from n x None k i is at here = cc
  this_from n x (Some p) k i is at here = by (is_error x.name) i here
    where
      by : (b : Bool) (i : ℕ) → slice_get (if b then [] else record { name = terminal_text x.name; form = pattern_text p; captures = length p.holes } ∷ []) i ≡ Some k → (i ≡ 0) × (k.form ≡ pattern_text x.pattern)
      by true i h = cc
      by false zero h = (refl, ap (λ (z : KnownTerminal). z.form) (sym (same_Some (record { name = terminal_text x.name; form = pattern_text p; captures = length p.holes }) k h)) ∙ own_pattern n x p at is)
      by false (suc i) h = cc

  -- of two lists one behind the other
  split : {A : Type 0} (xs ys : List A) (i : ℕ) (a : A) → slice_get (xs ++ ys) i ≡ Some a → (slice_get xs i ≡ Some a) ⊎ ((j : ℕ) × (i ≡ length xs + j) × (slice_get ys j ≡ Some a))
  split [] ys i a at = inr (i, (omega arith), at)
  split (x ∷ xs) ys zero a at = inl at
  split (x ∷ xs) ys (suc i) a at = ⊎_elim (λ (h : slice_get xs i ≡ Some a). inl h) (λ (h : (j : ℕ) × (i ≡ length xs + j) × (slice_get ys j ≡ Some a)). inr (h.0, (let e = h.1 in omega (arith, e)), h.2)) (split xs ys i a at)

  known_from : (uses : Bool) (n : ℕ) (xs : List PlainTerminal) → AreAt n xs → (i : ℕ) (k : KnownTerminal) → slice_get (known_among g (map (λ t. t.name) xs ++ tail uses)) i ≡ Some k → From n k
  known_from uses n [] are i k at = (let e = ap (λ (ks : List KnownTerminal). slice_get ks i) (none_behind uses) in cc)
  known_from uses n (x ∷ xs) are i k at = ⊎_elim
      (λ (h : slice_get (known_by x.name (get terminal_cmp g.conversions x.name)) i ≡ Some k).
      let e : n + 0 ≡ n = omega arith in
      let here : slice_get cs n ≡ Some x = ap (slice_get cs) (sym e) ∙ are 0 x refl in
      record { place = n; terminal = x; behind = omega arith; there = here; form = (this_from n x (get terminal_cmp g.conversions x.name) k i refl here h).1 })
      (λ (h : (j : ℕ) × (i ≡ length (known_by x.name (get terminal_cmp g.conversions x.name)) + j) × (slice_get (known_among g (map (λ t. t.name) xs ++ tail uses)) j ≡ Some k)).
      let r = known_from uses (n + 1) xs (next_at n x xs are) h.0 k h.2 in
      record { place = r.place; terminal = r.terminal; behind = omega (arith, r.behind); there = r.there; form = r.form })
      (split (known_by x.name (get terminal_cmp g.conversions x.name)) (known_among g (map (λ t. t.name) xs ++ tail uses)) i k at)

  -- a form of this terminal is none of a later one
  not_later : (n : ℕ) (x : PlainTerminal) (k l : KnownTerminal) → slice_get cs n ≡ Some x → k.form ≡ pattern_text x.pattern → From (n + 1) l → k.form ≡ l.form → ⊥
  not_later n x k l at is r same =
      let texts : pattern_text x.pattern ≡ pattern_text r.terminal.pattern = sym is ∙ same ∙ r.form in
      true≢false (sym ((bytes_decides (pattern_text x.pattern) (pattern_text r.terminal.pattern)).1 texts) ∙ none_twice same_pattern [] cs patterns n r.place x r.terminal (omega (arith, r.behind)) at r.there)

  one_known : (uses : Bool) (n : ℕ) (xs : List PlainTerminal) → AreAt n xs → (i j : ℕ) (k l : KnownTerminal) → slice_get (known_among g (map (λ t. t.name) xs ++ tail uses)) i ≡ Some k → slice_get (known_among g (map (λ t. t.name) xs ++ tail uses)) j ≡ Some l → k.form ≡ l.form → i ≡ j
  one_known uses n [] are i j k l at there same = (let e = ap (λ (ks : List KnownTerminal). slice_get ks i) (none_behind uses) in cc)
  one_known uses n (x ∷ xs) are i j k l at there same =
      let ks = known_by x.name (get terminal_cmp g.conversions x.name) in
      let rest = known_among g (map (λ t. t.name) xs ++ tail uses) in
      let zero_is : n + 0 ≡ n = omega arith in
      let here : slice_get cs n ≡ Some x = ap (slice_get cs) (sym zero_is) ∙ are 0 x refl in
      ⊎_elim
      (λ (h : slice_get ks i ≡ Some k). ⊎_elim
      (λ (w : slice_get ks j ≡ Some l).
      let a = this_from n x (get terminal_cmp g.conversions x.name) k i refl here h in
      let b = this_from n x (get terminal_cmp g.conversions x.name) l j refl here w in
      a.0 ∙ sym b.0)
      (λ (w : (m : ℕ) × (j ≡ length ks + m) × (slice_get rest m ≡ Some l)).
      absurd (not_later n x k l here (this_from n x (get terminal_cmp g.conversions x.name) k i refl here h).1 (known_from uses (n + 1) xs (next_at n x xs are) w.0 l w.2) same))
      (split ks rest j l there))
      (λ (h : (m : ℕ) × (i ≡ length ks + m) × (slice_get rest m ≡ Some k)). ⊎_elim
      (λ (w : slice_get ks j ≡ Some l).
      absurd (not_later n x l k here (this_from n x (get terminal_cmp g.conversions x.name) l j refl here w).1 (known_from uses (n + 1) xs (next_at n x xs are) h.0 k h.2) (sym same)))
      (λ (w : (m : ℕ) × (j ≡ length ks + m) × (slice_get rest m ≡ Some l)).
      let e = one_known uses (n + 1) xs (next_at n x xs are) h.0 w.0 k l h.2 w.2 same in
      omega (arith, e, h.1, w.1))
      (split ks rest j l there))
      (split ks rest i k at)

-- ---- lowered grammars
none_least : (a : ℕ) (o : Option ℕ) → least (Some a) o ≡ None → ⊥
none_least a None e = cc
none_least a (Some b) e = cc

no_places : (ps : List ℕ) → least_of ps ≡ None → ps ≡ []
no_places [] e = refl
no_places (p ∷ ps) e = absurd (none_least p (least_of ps) e)

both_none : {A : Type 0} (xs ys : List A) → xs ++ ys ≡ [] → (xs ≡ []) × (ys ≡ [])
both_none [] ys e = (refl, e)
both_none (x ∷ xs) ys e = cc

map_none : {A B : Type 0} (f : A → B) (xs : List A) → map f xs ≡ [] → xs ≡ []
map_none f [] e = refl
map_none f (x ∷ xs) e = cc

-- a token matches at most one terminal of a lowered grammar
pub lowered_matches : (plain : PlainGrammar) (g : Grammar) → LowersTo plain g → (x : RunItem) → MatchesOne g x
lowered_matches plain g lowers (item.Fault name) = tt
lowered_matches plain g lowers (item.Token a token b) = λ i j x y.
    let none = no_places (repeated_places plain) lowers.0.0.1 in
    let rest = both_none (map (λ (r : PlainRule). r.place) (repeats same_rule plain.rules)) (map (λ (t : PlainTerminal). t.place) (repeats same_name plain.conversions) ++ map (λ (t : PlainTerminal). t.place) (repeats same_pattern plain.conversions)) none in
    let two = both_none (map (λ (t : PlainTerminal). t.place) (repeats same_name plain.conversions)) (map (λ (t : PlainTerminal). t.place) (repeats same_pattern plain.conversions)) rest.1 in
    one_known g plain.conversions (map_none (λ (t : PlainTerminal). t.place) (repeats same_name plain.conversions) two.0) (map_none (λ (t : PlainTerminal). t.place) (repeats same_pattern plain.conversions) two.1) lowers.1.conversions (uses_error plain) 0 plain.conversions
    (λ n c is. (let e : 0 + n ≡ n = omega arith in ap (slice_get plain.conversions) e ∙ is)) i j x.terminal y.terminal
    (ap (λ (ts : List TerminalString). slice_get (known_among g ts) i) (sym lowers.1.terminals) ∙ x.there) (ap (λ (ts : List TerminalString). slice_get (known_among g ts) j) (sym lowers.1.terminals) ∙ y.there) (x.form ∙ sym y.form)
