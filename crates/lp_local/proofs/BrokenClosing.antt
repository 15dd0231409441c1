-- The rows in front of the place at which a table is broken are those of a table that a `]` ends.
use Rattle.std.proofs.Common.{◌≡◌, ℕ, ℤ, ◌<◌, ◌≤◌, Bool, true, false, inl, inr, ◌⊎◌, List, [], ◌∷◌, ◌++◌, length, Option, Some, refl, sym, ap, ◌∙◌, subst, arith, append_assoc, append-nil, length-append}
use Rattle.std.specs.Str.{IsUtf8}
use Rattle.std.proofs.lemmas.List.{nil_from_length}
use Rattle.std.proofs.lemmas.Str.{IsUtf8-from_ascii}
use Rattle.std.proofs.lemmas.Str.Ascii.{IsAscii-cons, IsAscii-nil}
use Rattle.lp_spelling.specs.Counting.{feeds}
use Rattle.lp_spelling.specs.LineReading.{◌>>=◌}
use Rattle.lp_spelling.specs.TableReading.{Front, front_of, Table, with_number, goes_on_after, entries_within, entries, IsBroken, broken_here, broken_end, broken_feed, broken_skip, broken_entry}
use Rattle.lp_spelling.specs.TableReading.Front.{feed, skip, ends, found_entry, wrong}
use Rattle.lp_local.proofs.Agreeing.{split_first}
use Rattle.lp_local.proofs.Settling.{before_byte}
use Rattle.lp_local.proofs.Ended.{IsEnded}
use Rattle.lp_local.proofs.Tables.{StepLeft, more_behind, front_over, step_reads, rest_shorter}
use Rattle.lp_local.proofs.Broken.{step_to}

-- more behind a line feed, and still more
behind_twice : (q y : List ℕ) (f : Front) → more_behind (q ++ y) f ≡ more_behind y (more_behind q f)
behind_twice q y (feed r) = ap (λ (x : List ℕ). feed x) (sym (append_assoc r q y))
behind_twice q y (skip r) = ap (λ (x : List ℕ). skip x) (sym (append_assoc r q y))
behind_twice q y ends = refl
behind_twice q y (found_entry z r) = ap (λ (x : List ℕ). found_entry z x) (sym (append_assoc r q y))
behind_twice q y wrong = refl

feed_ahead : (rest y : List ℕ) → front_of (10 ∷ (rest ++ 10 ∷ y)) ≡ more_behind (10 ∷ y) (front_of (10 ∷ rest))
unfolding front_of
feed_ahead rest y = refl

lines_ahead : (line rest y : List ℕ) → IsUtf8 (line ++ 10 ∷ rest) → feeds line ≡ 0 → front_of ((line ++ 10 ∷ rest) ++ 10 ∷ y) ≡ more_behind (10 ∷ y) (front_of (line ++ 10 ∷ rest))
lines_ahead [] rest y u none = feed_ahead rest y
lines_ahead (b ∷ l) rest y u none =
    let v : IsUtf8 (b ∷ l) = before_byte (b ∷ l) 10 rest (omega arith) u in
    ap (λ (x : List ℕ). front_of (b ∷ x)) (append_assoc l (10 ∷ rest) (10 ∷ y)) ∙ front_over b l (rest ++ 10 ∷ y) v none ∙ behind_twice (10 ∷ rest) (10 ∷ y) (front_of (b ∷ l))
    ∙ ap (more_behind (10 ∷ y)) (sym (front_over b l rest v none))

-- what stands in front of a text is told without the line feed behind the text
front_ahead : (b : ℕ) (t y : List ℕ) → IsUtf8 (b ∷ t) → front_of (b ∷ (t ++ 10 ∷ y)) ≡ more_behind (10 ∷ y) (front_of (b ∷ t))
front_ahead b t y u = elim (split_first (b ∷ t)) [
  | inl none ↦ front_over b t y u none
  | inr f ↦
      subst (λ (x : List ℕ). front_of (x ++ 10 ∷ y) ≡ more_behind (10 ∷ y) (front_of x)) (sym f.whole) (lines_ahead f.line f.rest y (subst (λ (x : List ℕ). IsUtf8 x) f.whole u) f.within)
]

nothing_wrong : front_of [] ≡ wrong
unfolding front_of
nothing_wrong = refl

-- the lines in front of the place at which a table is broken, up to a line feed, are of a table that is broken at its end
feed_before : (g : Bool) (x y next : List ℕ) (f : Front) → front_of x ≡ f → more_behind (10 ∷ y) f ≡ feed next → ((r : List ℕ) → next ≡ r ++ 10 ∷ y → IsBroken true r []) → IsBroken g x []
feed_before g x y next (feed r) e h later = let same : r ++ 10 ∷ y ≡ next = cc in broken_feed g x r [] e (later r (sym same))
feed_before g x y next (skip r) e h later = absurd cc
feed_before g x y next ends e h later = absurd cc
feed_before g x y next (found_entry z r) e h later = absurd cc
feed_before g x y next wrong e h later = absurd cc

skip_before : (g : Bool) (x y next : List ℕ) (f : Front) → front_of x ≡ f → more_behind (10 ∷ y) f ≡ skip next → ((r : List ℕ) → next ≡ r ++ 10 ∷ y → IsBroken g r []) → IsBroken g x []
skip_before g x y next (feed r) e h later = absurd cc
skip_before g x y next (skip r) e h later = let same : r ++ 10 ∷ y ≡ next = cc in broken_skip g x r [] e (later r (sym same))
skip_before g x y next ends e h later = absurd cc
skip_before g x y next (found_entry z r) e h later = absurd cc
skip_before g x y next wrong e h later = absurd cc

entry_before : (g : Bool) (v : ℤ) (x y next : List ℕ) (f : Front) → front_of x ≡ f → more_behind (10 ∷ y) f ≡ found_entry v next → ((r : List ℕ) → next ≡ r ++ 10 ∷ y → IsBroken false r []) → IsBroken g x []
entry_before g v x y next (feed r) e h later = absurd cc
entry_before g v x y next (skip r) e h later = absurd cc
entry_before g v x y next ends e h later = absurd cc
entry_before g v x y next (found_entry z r) e h later = let same : r ++ 10 ∷ y ≡ next = cc in broken_entry g z x r [] e (later r (sym same))
entry_before g v x y next wrong e h later = absurd cc

-- what stands in front of a text is told so, if the text isn't empty
before_of : (g : Bool) (x y : List ℕ) (to : Front) → IsUtf8 (x ++ 10 ∷ y) → front_of (x ++ 10 ∷ y) ≡ to → (more_behind (10 ∷ y) (front_of x) ≡ to → IsBroken g x []) → IsBroken g x []
before_of g [] y to u e later = broken_here g [] nothing_wrong
before_of g (b ∷ t) y to u e later = later (sym (front_ahead b t y (before_byte (b ∷ t) 10 y (omega arith) u)) ∙ e)

broken_before : (g : Bool) (a rest : List ℕ) → IsBroken g a rest → (x y : List ℕ) → IsUtf8 a → a ≡ x ++ 10 ∷ y → length rest ≤ length y → IsBroken g x []
broken_before _ _ _ (broken_here g a e) x y u is le = let size = ap length is ∙ length-append x (10 ∷ y) in absurd (omega (arith, size, le))
broken_before _ _ _ (broken_end a e) x y u is le = let size = ap length is ∙ length-append x (10 ∷ y) in absurd (omega (arith, size, le))
broken_before _ _ _ (broken_feed g a next rest e b) x y u is le =
    let s : StepLeft a next = step_to a (feed next) u e in
    before_of g x y (feed next) (subst (λ (z : List ℕ). IsUtf8 z) is u) (sym (ap front_of is) ∙ e) (λ h. feed_before g x y next (front_of x) refl h (λ r same. broken_before true next rest b r y s.utf8 same le))
broken_before _ _ _ (broken_skip g a next rest e b) x y u is le =
    let s : StepLeft a next = step_to a (skip next) u e in
    before_of g x y (skip next) (subst (λ (z : List ℕ). IsUtf8 z) is u) (sym (ap front_of is) ∙ e) (λ h. skip_before g x y next (front_of x) refl h (λ r same. broken_before g next rest b r y s.utf8 same le))
broken_before _ _ _ (broken_entry g v a next rest e b) x y u is le =
    let s : StepLeft a next = step_to a (found_entry v next) u e in
    before_of g x y (found_entry v next) (subst (λ (z : List ℕ). IsUtf8 z) is u) (sym (ap front_of is) ∙ e) (λ h. entry_before g v x y next (front_of x) refl h (λ r same. broken_before false next rest b r y s.utf8 same le))

-- with a line feed and a `]` behind them, they are a table
abbrev closing : List ℕ
closing = 10 ∷ 93 ∷ []

record IsClosed (g : Bool) (x : List ℕ) : Type 0 where
  numbers : List ℤ
  reads : (k : ℕ) → length (x ++ 10 ∷ 93 ∷ []) ≤ k → entries_within k g (x ++ 10 ∷ 93 ∷ []) ≡ Some (numbers, 93 ∷ [])

nothing_closed : (g : Bool) → IsClosed g []
unfolding front_of
nothing_closed g = record {
  numbers = [];
  reads = λ k le. step_reads k g closing (Some ([], 93 ∷ [])) (omega arith) (λ i l. step_reads i true (93 ∷ []) (Some ([], 93 ∷ [])) (omega arith) (λ j m. refl) (omega (arith, l))) le;
}

step_ahead : (x : List ℕ) (f : Front) → IsUtf8 x → front_of x ≡ f → (f ≡ wrong → ⊥) → front_of (x ++ 10 ∷ 93 ∷ []) ≡ more_behind (10 ∷ 93 ∷ []) f
step_ahead [] f u e some = absurd (some (sym e ∙ nothing_wrong))
step_ahead (b ∷ t) f u e some = front_ahead b t (93 ∷ []) u ∙ ap (more_behind closing) e

closing_some : (x : List ℕ) → 0 < length (x ++ 10 ∷ 93 ∷ [])
closing_some x = let size = length-append x closing in omega (arith, size)

goes_closed : (g to : Bool) (x next : List ℕ) → StepLeft x next → ((i : ℕ) → goes_on_after (entries_within i) g (x ++ 10 ∷ 93 ∷ []) (front_of (x ++ 10 ∷ 93 ∷ [])) ≡ entries_within i to (next ++ 10 ∷ 93 ∷ [])) → IsClosed to next → IsClosed g x
goes_closed g to x next s goes c = record {
  numbers = c.numbers;
  reads = λ k le. step_reads k g (x ++ closing) (Some (c.numbers, 93 ∷ [])) (closing_some x) (λ i l. goes i ∙ c.reads i (rest_shorter x next (93 ∷ []) i s l)) le;
}

entry_closed : (g : Bool) (z : ℤ) (x next : List ℕ) → StepLeft x next → front_of (x ++ 10 ∷ 93 ∷ []) ≡ found_entry z (next ++ 10 ∷ 93 ∷ []) → IsClosed false next → IsClosed g x
entry_closed g z x next s f c = record {
  numbers = z ∷ c.numbers;
  reads = λ k le.
      step_reads k g (x ++ closing) (Some (z ∷ c.numbers, 93 ∷ [])) (closing_some x) (λ i l.
      ap (goes_on_after (entries_within i) g (x ++ closing)) f ∙ ap (λ (o : Option Table). o >>= λ table. Some (with_number z table)) (c.reads i (rest_shorter x next (93 ∷ []) i s l))) le;
}

rows_closed : (g : Bool) (x rest : List ℕ) → IsBroken g x rest → rest ≡ [] → IsUtf8 x → IsClosed g x
rows_closed _ _ _ (broken_here g x e) none u = subst (λ (y : List ℕ). IsClosed g y) (sym none) (nothing_closed g)
rows_closed _ _ _ (broken_end x e) none u = let never : wrong ≡ ends = sym nothing_wrong ∙ ap front_of (sym none) ∙ e in absurd cc
rows_closed _ _ _ (broken_feed g x next rest e b) none u =
    let s : StepLeft x next = step_to x (feed next) u e in
    let f : front_of (x ++ closing) ≡ feed (next ++ closing) = step_ahead x (feed next) u e (λ h. cc) in
    goes_closed g true x next s (λ i. ap (goes_on_after (entries_within i) g (x ++ closing)) f) (rows_closed true next rest b none s.utf8)
rows_closed _ _ _ (broken_skip g x next rest e b) none u =
    let s : StepLeft x next = step_to x (skip next) u e in
    let f : front_of (x ++ closing) ≡ skip (next ++ closing) = step_ahead x (skip next) u e (λ h. cc) in
    goes_closed g g x next s (λ i. ap (goes_on_after (entries_within i) g (x ++ closing)) f) (rows_closed g next rest b none s.utf8)
rows_closed _ _ _ (broken_entry g z x next rest e b) none u =
    let s : StepLeft x next = step_to x (found_entry z next) u e in
    let f : front_of (x ++ closing) ≡ found_entry z (next ++ closing) = step_ahead x (found_entry z next) u e (λ h. cc) in
    entry_closed g z x next s f (rows_closed false next rest b none s.utf8)

-- a text that becomes a table with more behind it, and a `]`
pub record ClosesTable (text : List ℕ) : Type 0 where
  pub more : List ℕ
  pub numbers : List ℤ
  pub utf8 : IsUtf8 (more ++ 93 ∷ [])
  pub reads : entries (text ++ (more ++ 93 ∷ [])) ≡ Some (numbers, 93 ∷ [])

closed_table : (x text more : List ℕ) → IsClosed true x → text ++ (more ++ 93 ∷ []) ≡ x ++ 10 ∷ 93 ∷ [] → IsUtf8 (more ++ 93 ∷ []) → ClosesTable text
unfolding entries
closed_table x text more c e u = record {
  more = more;
  numbers = c.numbers;
  utf8 = u;
  reads = subst (λ (y : List ℕ). entries y ≡ Some (c.numbers, 93 ∷ [])) (sym e) (c.reads (length (x ++ closing)) (omega arith));
}

mark_text : IsUtf8 (93 ∷ [])
mark_text = IsUtf8-from_ascii (93 ∷ []) (IsAscii-cons 93 [] (omega arith) IsAscii-nil)

closing_text : IsUtf8 (10 ∷ 93 ∷ [])
closing_text = IsUtf8-from_ascii (10 ∷ 93 ∷ []) (IsAscii-cons 10 (93 ∷ []) (omega arith) (IsAscii-cons 93 [] (omega arith) IsAscii-nil))

-- the lines in front of the place at which a table is broken become a table so; where it is broken at its end, all of it does
pub broken_closed : (text left rest behind : List ℕ) → IsUtf8 left → IsBroken true left rest → left ≡ text ++ behind → length rest ≤ length behind → IsEnded text ⊎ (behind ≡ []) → ClosesTable text
broken_closed text left rest behind u b is le (inl (inl none)) = closed_table [] text (10 ∷ []) (nothing_closed true) (ap (λ (x : List ℕ). x ++ closing) none) closing_text
broken_closed text left rest behind u b is le (inl (inr f)) =
    let whole : left ≡ f.0 ++ 10 ∷ behind = is ∙ ap (λ (x : List ℕ). x ++ behind) f.1 ∙ append_assoc f.0 (10 ∷ []) behind in
    let v : IsUtf8 f.0 = before_byte f.0 10 behind (omega arith) (subst (λ (x : List ℕ). IsUtf8 x) whole u) in
    let rows : IsBroken true f.0 [] = broken_before true left rest b f.0 behind u whole le in
    closed_table f.0 text [] (rows_closed true f.0 [] rows refl v) (ap (λ (x : List ℕ). x ++ 93 ∷ []) f.1 ∙ append_assoc f.0 (10 ∷ []) (93 ∷ [])) mark_text
broken_closed text left rest behind u b is le (inr none) =
    let last : rest ≡ [] = nil_from_length rest (let size = ap length none in omega (arith, le, size)) in
    let all : left ≡ text = is ∙ ap (λ (x : List ℕ). text ++ x) none ∙ append-nil text in
    let c : IsClosed true text = subst (λ (x : List ℕ). IsClosed true x) all (rows_closed true left rest b last u) in
    closed_table text text (10 ∷ []) c refl closing_text
