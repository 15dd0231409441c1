-- What the lines that were looked at begin: one look after another, behind what is read, and as a call leaves it.
use Rattle.std.proofs.Common.{◌≡◌, ℕ, ◌+◌, ◌<◌, ◌≤◌, ◌&&◌, ◌==◌, nat_lt, inl, inr, Bool, true, false, List, [], ◌∷◌, ◌++◌, length, drop, Result, Ok, Err, IfOk, OnOk, refl, sym, ap, ◌∙◌, arith, append_assoc, append-nil, subst}
use Rattle.std.specs.List.{list_all}
use Rattle.std.proofs.lemmas.Bool.{and_parts, cases_lt, eqb-true, false≢true}
use Rattle.lp_form.specs.Templates.{steps_of}
use Rattle.lp_form.specs.Templates as template
use Rattle.lp_form.specs.declared.class.Class.{Class}
use Rattle.lp_form.specs.declared.part.Part.{Part}
use Rattle.lp_form.specs.declared.template.Step.{Step}
use Rattle.lp_form.specs.declared.template.Step.TheVariants as step
use Rattle.lp_spelling.specs.Counting.{settled}
use Rattle.lp_spelling.specs.declared.cursor.Cursor.{Cursor}
use Rattle.lp_program.specs.declared.read.growing.Growing.{Growing}
use Rattle.lp_program.specs.declared.read.reader.Reader.{Reader}
use Rattle.lp_tree.specs.declared.tree.Entry.{Entry}
use Rattle.lp_program.specs.Adding.{Holds, IsPart, IsPair, MayHave, Opened, SamePlace, kids}
use Rattle.lp_program.specs.Answering.{AddsRead, AnswersSteps, AnswersTrees, held}
use Rattle.lp_program.specs.Choosing.{Reading, contents, BelowChosen, PairChosen, PartChosen}
use Rattle.lp_program.specs.Nearby.{next_number, OfTaken}
use Rattle.lp_program.specs.Printed.{is_member}
use Rattle.lp_program.specs.Reads.{graft, parts_in}
use Rattle.lp_program.specs.Reads.Reads.{no_tree}
use Rattle.lp_program.specs.Starting.{Starts, goes_on, OfNewLook, Begun, MemberStarts, PairStarts, StepStarts}
use Rattle.lp_program.specs.Starting.Goal.{one_part, below_step, steps_left}
use Rattle.lp_program.specs.Starting.Starts.{ended, in_part, in_below, in_tree}
use Rattle.lp_program.specs.Telling.{Told, told, untold, OwnTold}
use Rattle.lp_program.specs.Trees.{Content, Forest, tree_count}
use Rattle.lp_program.specs.Trees.Forest.{bare}
use Rattle.lp_program.proofs.Adding.{some_may}
use Rattle.lp_program.proofs.Answering.{answers_yes}
use Rattle.lp_program.proofs.ChosenReads.{IsReading, TreesRead, below_reads, pair_reads, part_reads, reads_both}
use Rattle.lp_program.proofs.Fronts.{front_moves, front_over}
use Rattle.lp_program.proofs.Grafts.{holds_none, holds_then}
use Rattle.lp_program.proofs.Held.{kids_first}
use Rattle.lp_program.proofs.Nearby.{moves_none, moves_same, moves_then}
use Rattle.lp_program.proofs.Steps.{StepAnswer, step_here}
use Rattle.lp_program.proofs.Starting.{part_starts, step_before, goes_many, goes_one, goes_optional, goes_pairs, goes_second, goes_some}

-- no line was looked at anew
pub look_same : (n m : ℕ) (c : Cursor) (Holds : List ℕ → Type 0) → m ≤ n → OfNewLook n c m Holds
look_same n m c Holds le i l e text x = absurd (omega (arith, le, l, e))

-- one look after another
pub look_then : (a b d : ℕ) (c : Cursor) (Holds : List ℕ → Type 0) → b ≤ d → OfNewLook a c b Holds → OfNewLook b c d Holds → OfNewLook a c d Holds
look_then a b d c Holds le first more n l e text x = elim (cases_lt n b) [
  | inl lt ↦ first n l (omega (arith, lt, le, e)) text x
  | inr ge ↦ more n ge e text x
]

-- the same in other words
pub look_as : (a b : ℕ) (c : Cursor) (Holds Other : List ℕ → Type 0) → ((text : List ℕ) → Holds text → Other text) → OfNewLook a c b Holds → OfNewLook a c b Other
look_as a b c Holds Other to x n l e text front = to text (x n l e text front)

pub look_at_same : (a b : ℕ) (c d : Cursor) (Holds : List ℕ → Type 0) → d ≡ c → OfNewLook a d b Holds → OfNewLook a c b Holds
look_at_same a b c d Holds e x = subst (λ k. OfNewLook a k b Holds) e x

-- the next line that counts was looked at
pub look_next : (a b : ℕ) (c : Cursor) → (a < b → b ≡ next_number c) → OfNewLook a c b (λ text. settled text ≡ [])
look_next a b c at n l e text x = let there = at (omega (arith, l, e)) in front_over n c text x (omega (arith, there, e))

-- behind what is read
pub look_behind : (Read : Reading) (a b : Reader) (d : ℕ) (Holds Other : List ℕ → Type 0) → AddsRead Read a b → ((f : Forest) (text rest : List ℕ) → Read f text rest → Holds rest → Other text) → OfNewLook b.looked b.cursor d Holds →
    OfNewLook b.looked a.cursor d Other
look_behind Read a b d Holds Other adds to more n l e text x =
    let y = adds.reads n l text x.like in
    to adds.forest text y.0 y.1 (more n l e y.0 (front_moves n a.cursor b.cursor text y.0 x y.2))

-- trees were read so far
pub record ReadSoFar (prefix : List ℕ) (may : List Part → Type 0) (old now : Reader) : Type 0 where
  pub forest : Forest
  pub looked : old.looked ≤ now.looked
  pub reads : OfTaken now.looked old.cursor now.cursor (TreesRead prefix may forest)

pub so_far_none : (prefix : List ℕ) (may : List Part → Type 0) (r : Reader) → may [] → ReadSoFar prefix may r r
so_far_none prefix may r h = record { forest = bare; looked = omega arith; reads = λ n l text like. (text, record { fits = h; reads = no_tree text }, moves_none n r.cursor text like) }

pub so_far_more : (prefix : List ℕ) (may one all : List Part → Type 0) (Read : Reading) (old a b c : Reader) → ((ps qs : List Part) → may ps → one qs → all (ps ++ qs)) → IsReading prefix one Read → ReadSoFar prefix may old a → SamePlace a b → AddsRead Read b c →
    ReadSoFar prefix all old c
so_far_more prefix may one all Read old a b c both reading x s y = record {
  forest = graft x.forest y.forest;
  looked = omega (arith, x.looked, s.looked, y.looked);
  reads = λ n l text like.
      let v = x.reads n (omega (arith, s.looked, y.looked, l)) text like in
      let here = moves_then n old.cursor a.cursor b.cursor text v.0 v.0 v.2 (moves_same n a.cursor b.cursor v.0 s.cursor_is v.2.like) in
      let w = y.reads n l v.0 here.like in
      (w.0, reads_both prefix may one all x.forest y.forest text v.0 w.0 both v.1 (reading y.forest v.0 w.0 w.1), moves_then n old.cursor b.cursor c.cursor text v.0 w.0 here w.2);
}

-- behind them a look begins what goes on there
pub so_far_look : (prefix : List ℕ) (may : List Part → Type 0) (old a : Reader) (from d : ℕ) (Holds Other : List ℕ → Type 0) → a.looked ≤ from → ((f : Forest) (text rest : List ℕ) → TreesRead prefix may f text rest → Holds rest → Other text) →
    ReadSoFar prefix may old a → OfNewLook from a.cursor d Holds → OfNewLook from old.cursor d Other
so_far_look prefix may old a from d Holds Other le to x more n l e text front =
    let v = x.reads n (omega (arith, le, l)) text front.like in
    to x.forest text v.0 v.1 (more n l e v.0 (front_moves n old.cursor a.cursor text v.0 front v.2))

-- a part of a class, below a step
pub one_below : (prefix : List ℕ) (class : Class) (text : List ℕ) → MemberStarts prefix class text → Starts prefix (below_step (step.One class)) text
one_below prefix class text x = in_tree (step.One class) bare x.0 text text (goes_one class x.0 x.1) (no_tree text) x.2

pub optional_below : (prefix : List ℕ) (class : Class) (text : List ℕ) → MemberStarts prefix class text → Starts prefix (below_step (step.Optional class)) text
optional_below prefix class text x = in_tree (step.Optional class) bare x.0 text text (goes_optional class x.0 x.1) (no_tree text) x.2

pub many_below : (prefix : List ℕ) (class : Class) (f : Forest) (text mid : List ℕ) → TreesRead prefix (MayHave (step.Many class)) f text mid → MemberStarts prefix class mid → Starts prefix (below_step (step.Many class)) text
many_below prefix class f text mid r x = in_tree (step.Many class) f x.0 text mid (goes_many class (parts_in f) x.0 r.fits x.1) r.reads x.2

pub some_first : (prefix : List ℕ) (class : Class) (text : List ℕ) → MemberStarts prefix class text → Starts prefix (below_step (step.Some class)) text
some_first prefix class text x = in_tree (step.Some class) bare x.0 text text (goes_some class [] x.0 refl x.1) (no_tree text) x.2

pub pairs_first : (prefix : List ℕ) (first second : Class) (f : Forest) (text mid : List ℕ) → TreesRead prefix (MayHave (step.Pairs first second)) f text mid → MemberStarts prefix first mid → Starts prefix (below_step (step.Pairs first second)) text
pairs_first prefix first second f text mid r x = in_tree (step.Pairs first second) f x.0 text mid (goes_pairs first second (parts_in f) x.0 r.fits x.1) r.reads x.2

pub pairs_pair : (prefix : List ℕ) (first second : Class) (p : Part) (f : Forest) (text mid : List ℕ) → is_member first p ≡ true → TreesRead prefix (MayHave (step.Pairs first second)) f text mid → PairStarts prefix p second mid →
    Starts prefix (below_step (step.Pairs first second)) text
pairs_pair prefix first second p f text mid m r (inl x) = pairs_first prefix first second f text mid r (p, m, x)
pairs_pair prefix first second p f text mid m r (inr x) =
    let one : TreesRead prefix (IsPart p) x.0 mid x.1 = record { fits = x.2; reads = x.3 } in
    let Both : List Part → Type 0 = λ qs. (ps : List Part) × (qs ≡ ps ++ p ∷ []) × MayHave (step.Pairs first second) ps in
    let all : TreesRead prefix Both (graft f x.0) text x.1
    = reads_both prefix (MayHave (step.Pairs first second)) (IsPart p) Both f x.0 text mid x.1 (λ ps qs h e. (ps, ap (λ (z : List Part). ps ++ z) e, h)) r one in
    let y = x.4 in
    let goes : goes_on (step.Pairs first second) (parts_in (graft f x.0)) y.0 ≡ true
    = ap (λ (z : List Part). goes_on (step.Pairs first second) z y.0) all.fits.1 ∙ goes_second first second all.fits.0 p y.0 all.fits.2 m y.1 in
    in_tree (step.Pairs first second) (graft f x.0) y.0 text x.1 goes all.reads y.2

-- a part is read, and nothing that counts is left behind it
pub part_over : (depth : ℕ) (prefix : List ℕ) (p : Part) (f : Forest) (text rest : List ℕ) → PartChosen depth prefix p f text rest → settled rest ≡ [] → Starts prefix (one_part p) text
part_over depth prefix p f text rest x e = part_starts depth prefix p f text rest x e

-- a part, and behind it nothing that counts
pub begun_over : (depth : ℕ) (p : Part) (a b c : Reader) (read : Bool) → read ≡ true → AnswersTrees (PartChosen depth a.prefix.now p) a read b → b.looked ≤ c.looked → Begun (one_part p) a b → OfNewLook b.looked b.cursor c.looked (λ text. settled text ≡ []) →
    Begun (one_part p) a c
begun_over depth p a b c read all x le first more =
    look_then a.looked b.looked c.looked a.cursor (Starts a.prefix.now (one_part p)) le first
    (look_behind (PartChosen depth a.prefix.now p) a b c.looked (λ text. settled text ≡ []) (Starts a.prefix.now (one_part p)) (answers_yes (PartChosen depth a.prefix.now p) a read b all x)
    (λ f text rest y e. part_starts depth a.prefix.now p f text rest y e) more)

-- a line was looked at in front of what is taken, and another behind it
pub look_twice : (a b d line : ℕ) (c : Cursor) (Holds : List ℕ → Type 0) → a ≤ b → b ≤ d → (a < b → b ≡ next_number c) → (b < d → d ≡ line) → ((text : List ℕ) → settled text ≡ [] → Holds text) → OfNewLook (next_number c) c line Holds →
    OfNewLook a c d Holds
look_twice a b d line c Holds le more first later over own n l e text x = elim (cases_lt n (next_number c)) [
  | inl lt ↦ over text (front_over n c text x lt)
  | inr ge ↦ elim (cases_lt b d) [
    | inl lt ↦ own n ge (e ∙ later lt) text x
    | inr same ↦ (let at = first (omega (arith, same, e, l)) in absurd (omega (arith, at, same, e, ge)))
  ]
]

-- a part of a class, that is read behind a look at its class
pub member_begun : (class : Class) (p : Part) (a b c : Reader) → is_member class p ≡ true → SamePlace a b → b.looked ≤ c.looked → OfNewLook a.looked a.cursor b.looked (MemberStarts a.prefix.now class) → Begun (one_part p) b c →
    OfNewLook a.looked a.cursor c.looked (MemberStarts a.prefix.now class)
member_begun class p a b c m s le first more =
    look_then a.looked b.looked c.looked a.cursor (MemberStarts a.prefix.now class) le first
    (look_at_same b.looked c.looked a.cursor b.cursor (MemberStarts a.prefix.now class) s.cursor_is
    (look_as b.looked c.looked b.cursor (Starts b.prefix.now (one_part p)) (MemberStarts a.prefix.now class)
    (λ text x. (p, m, subst (λ (y : List ℕ). Starts y (one_part p) text) s.prefix_is x)) more))

-- a reader that reads as many parts, or pairs, as there are
pub many_begun : (class : Class) (old a : Reader) (d : ℕ) → a.prefix.now ≡ old.prefix.now → a.looked ≤ d → ReadSoFar old.prefix.now (MayHave (step.Many class)) old a → Begun (below_step (step.Many class)) old a →
    OfNewLook a.looked a.cursor d (MemberStarts a.prefix.now class) → OfNewLook old.looked old.cursor d (Starts old.prefix.now (below_step (step.Many class)))
many_begun class old a d e le so first more =
    let Holds : List ℕ → Type 0 = Starts old.prefix.now (below_step (step.Many class)) in
    look_then old.looked a.looked d old.cursor Holds le first
    (so_far_look old.prefix.now (MayHave (step.Many class)) old a a.looked d (MemberStarts a.prefix.now class) Holds (omega arith)
    (λ f text rest r x. many_below old.prefix.now class f text rest r (subst (λ (y : List ℕ). MemberStarts y class rest) e x)) so more)

pub pairs_begun_first : (first second : Class) (old a : Reader) (d : ℕ) → a.prefix.now ≡ old.prefix.now → a.looked ≤ d → ReadSoFar old.prefix.now (MayHave (step.Pairs first second)) old a → Begun (below_step (step.Pairs first second)) old a →
    OfNewLook a.looked a.cursor d (MemberStarts a.prefix.now first) → OfNewLook old.looked old.cursor d (Starts old.prefix.now (below_step (step.Pairs first second)))
pairs_begun_first first second old a d e le so begun more =
    let Holds : List ℕ → Type 0 = Starts old.prefix.now (below_step (step.Pairs first second)) in
    look_then old.looked a.looked d old.cursor Holds le begun
    (so_far_look old.prefix.now (MayHave (step.Pairs first second)) old a a.looked d (MemberStarts a.prefix.now first) Holds (omega arith)
    (λ f text rest r x. pairs_first old.prefix.now first second f text rest r (subst (λ (y : List ℕ). MemberStarts y first rest) e x)) so more)

pub pairs_begun : (first second : Class) (p : Part) (old a b c : Reader) → a.prefix.now ≡ old.prefix.now → is_member first p ≡ true → SamePlace a b → b.looked ≤ c.looked → ReadSoFar old.prefix.now (MayHave (step.Pairs first second)) old a →
    Begun (below_step (step.Pairs first second)) old a → OfNewLook a.looked a.cursor b.looked (MemberStarts a.prefix.now first) → OfNewLook b.looked b.cursor c.looked (PairStarts b.prefix.now p second) → Begun (below_step (step.Pairs first second)) old c
pairs_begun first second p old a b c e m s le so begun picks more =
    let Holds : List ℕ → Type 0 = Starts old.prefix.now (below_step (step.Pairs first second)) in
    let same : b.prefix.now ≡ old.prefix.now = s.prefix_is ∙ e in
    look_then old.looked b.looked c.looked old.cursor Holds le (pairs_begun_first first second old a b.looked e s.looked so begun picks)
    (so_far_look old.prefix.now (MayHave (step.Pairs first second)) old a b.looked c.looked (PairStarts b.prefix.now p second) Holds s.looked
    (λ f text rest r x. pairs_pair old.prefix.now first second p f text rest m r (subst (λ (y : List ℕ). PairStarts y p second rest) same x)) so
    (look_at_same b.looked c.looked a.cursor b.cursor (PairStarts b.prefix.now p second) s.cursor_is more))

-- a part of a class, and as many more as there are
some_behind : (prefix : List ℕ) (class : Class) (f : Forest) (text mid : List ℕ) → TreesRead prefix (MayHave (step.One class)) f text mid → Starts prefix (below_step (step.Many class)) mid → Starts prefix (below_step (step.Some class)) text
some_behind prefix class f text mid r (ended _ _ e) =
    let q = one_part_of class (parts_in f) r.fits in
    in_tree (step.Some class) f q.0 text mid (goes_some class (parts_in f) q.0 (ap (list_all (is_member class)) q.1 ∙ ap (λ t. t && true) q.2) q.2) r.reads (ended (one_part q.0) mid e)
  where
    one_part_of : (class : Class) (ps : List Part) → MayHave (step.One class) ps → (q : Part) × (ps ≡ q ∷ []) × (is_member class q ≡ true)
    one_part_of class [] h = absurd (false≢true h)
    one_part_of class (q ∷ []) h = (q, refl, (and_parts (is_member class q) true h).0)
    one_part_of class (q ∷ x ∷ ps) h = absurd (omega (arith, eqb-true (length (q ∷ x ∷ ps)) 1 (and_parts (length (q ∷ x ∷ ps) == 1) (list_all (is_member class) (q ∷ x ∷ ps)) h).0))
some_behind prefix class f text mid r (in_tree _ g p _ there goes reads more) =
    let h = and_parts (list_all (is_member class) (parts_in g)) (is_member class p) goes in
    let all = reads_both prefix (MayHave (step.One class)) (MayHave (step.Many class)) (MayHave (step.Some class)) f g text mid there (some_may class) r (record { fits = h.0; reads = reads }) in
    let many = and_parts (nat_lt 0 (length (parts_in (graft f g)))) (list_all (is_member class) (parts_in (graft f g))) all.fits in
    in_tree (step.Some class) (graft f g) p text there (goes_some class (parts_in (graft f g)) p many.1 h.1) all.reads more

pub some_begun : (depth at : ℕ) (class : Class) (a b c : Reader) (Read : Reading) (read : Bool) → b.prefix.now ≡ a.prefix.now → read ≡ true → IsReading a.prefix.now (MayHave (step.One class)) Read → AnswersTrees Read a read b → b.looked ≤ c.looked →
    OfNewLook a.looked a.cursor b.looked (MemberStarts a.prefix.now class) → Begun (below_step (step.Many class)) b c → Begun (below_step (step.Some class)) a c
some_begun depth at class a b c Read read e all reading x le first more =
    let Holds : List ℕ → Type 0 = Starts a.prefix.now (below_step (step.Some class)) in
    look_then a.looked b.looked c.looked a.cursor Holds le (look_as a.looked b.looked a.cursor (MemberStarts a.prefix.now class) Holds (λ text y. some_first a.prefix.now class text y) first)
    (look_behind Read a b c.looked (Starts b.prefix.now (below_step (step.Many class))) Holds (answers_yes Read a read b all x)
    (λ f text rest y z. some_behind a.prefix.now class f text rest (reading f text rest y) (subst (λ (q : List ℕ). Starts q (below_step (step.Many class)) rest) e z)) more)

-- a part, and one of a class behind it
pub pair_begun : (depth : ℕ) (p : Part) (second : Class) (a b c : Reader) (read : Bool) → b.prefix.now ≡ a.prefix.now → read ≡ true → AnswersTrees (PartChosen depth a.prefix.now p) a read b → b.looked ≤ c.looked → Begun (one_part p) a b →
    OfNewLook b.looked b.cursor c.looked (MemberStarts b.prefix.now second) → OfNewLook a.looked a.cursor c.looked (PairStarts a.prefix.now p second)
pair_begun depth p second a b c read e all x le first more =
    let Holds : List ℕ → Type 0 = PairStarts a.prefix.now p second in
    look_then a.looked b.looked c.looked a.cursor Holds le (look_as a.looked b.looked a.cursor (Starts a.prefix.now (one_part p)) Holds (λ text y. inl y) first)
    (look_behind (PartChosen depth a.prefix.now p) a b c.looked (MemberStarts b.prefix.now second) Holds (answers_yes (PartChosen depth a.prefix.now p) a read b all x)
    (λ f text rest y z. let r = part_reads depth a.prefix.now p f text rest y in inr (f, rest, r.fits, r.reads, subst (λ (q : List ℕ). MemberStarts q second rest) e z)) more)

-- a part that was opened
pub opened_begun : (p : Part) (g : Growing) (a b c : Reader) → Opened p a b g → Begun (one_part g.part) b c → Begun (one_part p) a c
opened_begun p g a b c o x =
    subst (λ (m : ℕ). OfNewLook m a.cursor c.looked (Starts a.prefix.now (one_part p))) o.looked_is
    (look_at_same b.looked c.looked a.cursor b.cursor (Starts a.prefix.now (one_part p)) o.cursor_is
    (subst (λ (y : List ℕ). OfNewLook b.looked b.cursor c.looked (Starts y (one_part p))) o.prefix_is
    (subst (λ (q : Part). OfNewLook b.looked b.cursor c.looked (Starts b.prefix.now (one_part q))) o.part_is x)))

-- a step: what it takes itself, and what it has below
pub step_begun : (at : ℕ) (s : template.Line) (g h : Growing) (a b c : Reader) (own : Bool) → b ≡ record a { cursor = b.cursor; looked = b.looked } → own ≡ true → OwnTold a.prefix.now g (kids at a) s a own h b → b.looked ≤ c.looked →
    OfNewLook a.looked a.cursor b.looked (StepStarts a.prefix.now g (kids at a) s) → Begun (below_step s.0) b c → OfNewLook a.looked a.cursor c.looked (StepStarts a.prefix.now g (kids at a) s)
step_begun at s g h a b c own kept all tells le first more =
    let told_own : OwnTold a.prefix.now g (kids at a) s a true h b = subst (λ (r : Bool). OwnTold a.prefix.now g (kids at a) s a r h b) all tells in
    look_then a.looked b.looked c.looked a.cursor (StepStarts a.prefix.now g (kids at a) s) le first
    (λ n l e text front others.
    let v = told_own n l text front.like in
    let below = more n l e v.0 (front_moves n a.cursor b.cursor text v.0 front v.2) in
    in_below g.part (told g) (told h) (kids at a) s others text v.0 v.1 (subst (λ (y : List ℕ). Starts y (below_step s.0) v.0) (ap (λ r. r.prefix.now) kept) below))

-- a part of which the first steps are read: it begins where the others do
pub record StepsBegun (prefix : List ℕ) (p : Part) (i : ℕ) (g : Growing) (old now : Reader) : Type 0 where
  pub forest : Forest
  pub more : List Entry
  pub entries_are : now.entries.items ≡ old.entries.items ++ more
  pub holds : Holds more forest
  pub looked : old.looked ≤ now.looked
  pub passes : OfTaken now.looked old.cursor now.cursor (λ text there. Starts prefix (steps_left p (told g) (tree_count forest) (drop i (steps_of p))) there → Starts prefix (steps_left p untold 0 (steps_of p)) text)
  pub begun : OfNewLook old.looked old.cursor now.looked (Starts prefix (one_part p))

pub steps_none : (prefix : List ℕ) (p : Part) (g : Growing) (r : Reader) → told g ≡ untold → StepsBegun prefix p 0 g r r
steps_none prefix p g r e = record {
  forest = bare;
  more = [];
  entries_are = sym (append-nil r.entries.items);
  holds = holds_none;
  looked = omega arith;
  passes = λ n l text like. (text, (λ x. subst (λ (t : Told). Starts prefix (steps_left p t 0 (steps_of p)) text) e x), moves_none n r.cursor text like);
  begun = look_same r.looked r.looked r.cursor (Starts prefix (one_part p)) (omega arith);
}

-- the next step was looked at
pub steps_look : (prefix pre : List ℕ) (p : Part) (i at : ℕ) (s : template.Line) (g : Growing) (old a : Reader) (d : ℕ) (so : StepsBegun prefix p i g old a) → pre ≡ prefix → g.part ≡ p → at + 1 ≡ length old.entries.items →
    drop i (steps_of p) ≡ s ∷ drop (i + 1) (steps_of p) → a.looked ≤ d → OfNewLook a.looked a.cursor d (StepStarts pre g (kids at a) s) → OfNewLook old.looked old.cursor d (Starts prefix (one_part p))
steps_look prefix pre p i at s g old a d so ep eq last next le x =
    look_then old.looked a.looked d old.cursor (Starts prefix (one_part p)) le so.begun
    (λ n l e text front.
    let v = so.passes n l text front.like in
    let others : List template.Line = drop (i + 1) (steps_of p) in
    let step = x n l e v.0 (front_moves n old.cursor a.cursor text v.0 front v.2) others in
    let here = subst (λ (y : List ℕ). Starts y (steps_left g.part (told g) (kids at a) (s ∷ others)) v.0) ep step in
    let of_part = subst (λ (q : Part). Starts prefix (steps_left q (told g) (kids at a) (s ∷ others)) v.0) eq here in
    let counted = subst (λ (k : ℕ). Starts prefix (steps_left p (told g) k (s ∷ others)) v.0) (kids_first at old a so.more so.forest last so.entries_are so.holds) of_part in
    in_part p text (v.1 (subst (λ (ss : List template.Line). Starts prefix (steps_left p (told g) (tree_count so.forest) ss) v.0) (sym next) counted)))

-- and read
pub steps_more : (depth : ℕ) (prefix pre : List ℕ) (p q : Part) (i at : ℕ) (s : template.Line) (g h : Growing) (old a : Reader) (read : Bool) (c : Reader) (so : StepsBegun prefix p i g old a) → pre ≡ prefix → q ≡ p → g.part ≡ p → at + 1 ≡ length old.entries.items →
    drop i (steps_of p) ≡ s ∷ drop (i + 1) (steps_of p) → read ≡ true → StepAnswer depth pre q (kids at a) (held at a) s (told g) (told h) a read c → OfNewLook a.looked a.cursor c.looked (StepStarts pre g (kids at a) s) → StepsBegun prefix p (i + 1) h old c
steps_more depth prefix pre p q i at s g h old a read c so ep eq eg last next all y look =
    let f : Forest = so.forest in
    let x : StepAnswer depth prefix p (tree_count f) (contents f) s (told g) (told h) a true c
    = step_here depth prefix pre p q at s (told g) (told h) f old a so.more true c ep eq last so.entries_are so.holds (subst (λ (b : Bool). StepAnswer depth pre q (kids at a) (held at a) s (told g) (told h) a b c) all y) in
    let has = below_reads depth prefix (PartChosen depth prefix) (part_reads depth prefix) in
    let others : List template.Line = drop (i + 1) (steps_of p) in
    record {
      forest = graft f x.forest;
      more = so.more ++ x.more;
      entries_are = x.entries_are ∙ ap (λ l. l ++ x.more) so.entries_are ∙ append_assoc old.entries.items so.more x.more;
      holds = holds_then so.more x.more f x.forest so.holds x.holds;
      looked = omega (arith, so.looked, x.looked);
      passes = λ n m text like.
          let v = so.passes n (omega (arith, x.looked, m)) text like in
          let w = x.reads n m v.0 v.2.like in (
            w.0,
            (λ later.
                v.1 (subst (λ (ss : List template.Line). Starts prefix (steps_left p (told g) (tree_count f) ss) v.0) (sym next)
                (step_before (BelowChosen depth prefix (PartChosen depth prefix)) prefix p f s others (told g) (told h) x.forest v.0 w.0 has w.1 later))),
            moves_then n old.cursor a.cursor c.cursor text v.0 w.0 v.2 w.2,
          );
      begun = steps_look prefix pre p i at s g old a c.looked so ep eg last next x.looked look;
    }

-- what a call says of its answer and of its looks, where it answers
pub on_ok_both : {T E : Type 0} (r : Result T E) (P : T → Type 0) (Q S : Type 0) → ((x : T) → P x → Q → S) → IfOk r P → OnOk r Q → OnOk r S
on_ok_both (Ok x) P Q S f p q = f x p q
on_ok_both (Err e) P Q S f p q = tt

-- a step, told by its kind
pub below_begun : (s u : Step) (a b : Reader) → s ≡ u → Begun (below_step u) a b → Begun (below_step s) a b
below_begun s u a b e x = subst (λ (v : Step). Begun (below_step v) a b) (sym e) x

-- a part, or a pair, that is chosen under the same prefix
pub parts_from : (depth : ℕ) (p : Part) (pre prefix : List ℕ) → pre ≡ prefix → IsReading prefix (IsPart p) (PartChosen depth pre p)
parts_from depth p pre prefix e = subst (λ (y : List ℕ). IsReading y (IsPart p) (PartChosen depth pre p)) e (part_reads depth pre p)

pub pair_from : (depth : ℕ) (p : Part) (second : Class) (before : List Content) (pre prefix : List ℕ) → pre ≡ prefix → IsReading prefix (IsPair p second) (PairChosen depth pre (PartChosen depth pre) before second p)
pair_from depth p second before pre prefix e =
    subst (λ (y : List ℕ). IsReading y (IsPair p second) (PairChosen depth pre (PartChosen depth pre) before second p)) e (pair_reads depth pre (PartChosen depth pre) before second p (part_reads depth pre))

-- no line that was looked at is forgotten
pub no_looked : (Read : Told → Reading) (t : Told) (a : Reader) (read : Bool) (b : Reader) → read ≡ false → AnswersSteps Read t a read b → a.looked ≤ b.looked
no_looked Read t a read b none x = let y : AnswersSteps Read t a false b = subst (λ (r : Bool). AnswersSteps Read t a r b) none x in y.looked
