-- What a reader answers that reads one thing after another.
use Rattle.std.proofs.Common.{◌≡◌, ℕ, ◌≤◌, Bool, true, false, List, [], ◌++◌, refl, sym, ap, ◌∙◌, arith, append_assoc, append-nil, subst}
use Rattle.lp_tree.specs.declared.tree.Entry.{Entry}
use Rattle.lp_program.specs.declared.read.reader.Reader.{Reader}
use Rattle.lp_program.specs.Adding.{Holds, SamePlace}
use Rattle.lp_program.specs.Answering.{AddsRead, NoneRead, AnswersTrees}
use Rattle.lp_program.specs.Choosing.{Reading, Followed, IsUnread}
use Rattle.lp_program.specs.Nearby.{OfLike, OfTaken}
use Rattle.lp_program.specs.Reads.{graft}
use Rattle.lp_program.specs.Trees.{Forest}
use Rattle.lp_program.specs.Trees.Forest.{bare}
use Rattle.lp_program.proofs.Chosen.{IsOnce}
use Rattle.lp_program.proofs.Grafts.{graft_assoc, holds_none, holds_then}
use Rattle.lp_program.proofs.Nearby.{moves_none, moves_same, moves_then}

-- what is read from one text on goes on from another behind trees, and in no other way
pub record Passes (Whole Rest : Reading) (first : Forest) (text there : List ℕ) : Type 0 where
  pub on : (f : Forest) (rest : List ℕ) → Rest f there rest → Whole (graft first f) text rest
  pub back : (f : Forest) (rest : List ℕ) → Whole f text rest → (later : Forest) × Rest later there rest

pub passes_none : (Read : Reading) (text : List ℕ) → Passes Read Read bare text text
passes_none Read text = record { on = λ f rest x. x; back = λ f rest x. (f, x) }

pub passes_then : (Whole Rest More : Reading) (f g : Forest) (text there here : List ℕ) → Passes Whole Rest f text there → Passes Rest More g there here → Passes Whole More (graft f g) text here
passes_then Whole Rest More f g text there here p q = record {
  on = λ h rest x. subst (λ (t : Forest). Whole t text rest) (sym (graft_assoc f g h)) (p.on (graft g h) rest (q.on h rest x));
  back = λ h rest x. let y = p.back h rest x in q.back y.0 rest y.1;
}

-- the first of two
pub passes_first : (First : Reading) (Second : Forest → Reading) (f : Forest) (text mid : List ℕ) → IsOnce First → First f text mid → Passes (Followed First Second) (Second f) f text mid
passes_first First Second f text mid once r = record {
  on = λ g rest x. record { first = f; later = g; mid = mid; trees_are = refl; reads = r; goes_on = x };
  back = λ h rest x.
      let e = once x.first f text x.mid mid x.reads r in
      (x.later, subst (λ (t : List ℕ). Second f x.later t rest) e.1 (subst (λ (g : Forest). Second g x.later x.mid rest) e.0 x.goes_on));
}

-- the same reading in other words
pub record IsRead (Read Other : Reading) (text : List ℕ) : Type 0 where
  pub to : (f : Forest) (rest : List ℕ) → Read f text rest → Other f text rest
  pub from : (f : Forest) (rest : List ℕ) → Other f text rest → Read f text rest

pub passes_as : (Whole Rest Other : Reading) (f : Forest) (text there : List ℕ) → IsRead Rest Other there → Passes Whole Rest f text there → Passes Whole Other f text there
passes_as Whole Rest Other f text there s p = record {
  on = λ g rest x. p.on g rest (s.from g rest x);
  back = λ h rest x. let y = p.back h rest x in (y.0, s.to y.0 rest y.1);
}

-- no line that was looked at is forgotten
pub answers_looked : (Read : Reading) (a : Reader) (read : Bool) (b : Reader) → AnswersTrees Read a read b → a.looked ≤ b.looked
answers_looked Read a false b x = x.looked
answers_looked Read a true b x = x.looked

-- answers in other words, and from the same place
pub answers_as : (Read Other : Reading) (line : ℕ) (a : Reader) (read : Bool) (b : Reader) → line ≤ b.looked → OfLike line a.cursor (IsRead Read Other) → AnswersTrees Read a read b → AnswersTrees Other a read b
answers_as Read Other line a false b le s x = record { looked = x.looked; unread = λ n m text like f rest y. x.unread n m text like f rest ((s n (omega (arith, le, m)) text like).from f rest y) }
answers_as Read Other line a true b le s x = record {
  forest = x.forest;
  more = x.more;
  entries_are = x.entries_are;
  holds = x.holds;
  looked = x.looked;
  reads = λ n m text like. let y = x.reads n m text like in (y.0, (s n (omega (arith, le, m)) text like).to x.forest y.0 y.1, y.2);
}

pub answers_from : (Read : Reading) (a b : Reader) (read : Bool) (c : Reader) → SamePlace a b → AnswersTrees Read b read c → AnswersTrees Read a read c
answers_from Read a b false c s x = record { looked = omega (arith, s.looked, x.looked); unread = subst (λ k. OfLike c.looked k (IsUnread Read)) s.cursor_is x.unread }
answers_from Read a b true c s x = record {
  forest = x.forest;
  more = x.more;
  entries_are = x.entries_are ∙ ap (λ es. es ++ x.more) s.entries_are;
  holds = x.holds;
  looked = omega (arith, s.looked, x.looked);
  reads = subst (λ k. OfTaken c.looked k c.cursor (Read x.forest)) s.cursor_is x.reads;
}

-- at `true`, and at `false`
pub answers_yes : (Read : Reading) (a : Reader) (read : Bool) (b : Reader) → read ≡ true → AnswersTrees Read a read b → AddsRead Read a b
answers_yes Read a read b e x = subst (λ r. AnswersTrees Read a r b) e x

pub answers_no : (Read : Reading) (a : Reader) (read : Bool) (b : Reader) → read ≡ false → AnswersTrees Read a read b → NoneRead Read a b
answers_no Read a read b e x = subst (λ r. AnswersTrees Read a r b) e x

-- what isn't read, in other words, or by a reader with other parts
pub none_as : (Read Other : Reading) (a b : Reader) → ((f : Forest) (text rest : List ℕ) → Other f text rest → (g : Forest) × (there : List ℕ) × Read g text there) → NoneRead Read a b → NoneRead Other a b
none_as Read Other a b to x = record { looked = x.looked; unread = λ n m text like f rest y. let z = to f text rest y in x.unread n m text like z.0 z.1 z.2 }

pub none_at : (Read : Reading) (a b c : Reader) → c.looked ≡ b.looked → NoneRead Read a b → NoneRead Read a c
none_at Read a b c e x = record { looked = omega (arith, e, x.looked); unread = λ n m text like. x.unread n (omega (arith, e, m)) text like }

-- nothing is there to be read
pub nothing_added : (Read : Reading) (a b : Reader) → SamePlace a b → OfLike b.looked a.cursor (λ text. Read bare text text) → AddsRead Read a b
nothing_added Read a b s x = record {
  forest = bare;
  more = [];
  entries_are = s.entries_are ∙ sym (append-nil a.entries.items);
  holds = holds_none;
  looked = s.looked;
  reads = λ n m text like. (text, x n m text like, moves_same n a.cursor b.cursor text s.cursor_is like);
}

-- parts were added, behind whose trees what is read goes on
pub record Reached (Whole Rest : Reading) (f : Forest) (old now : Reader) : Type 0 where
  pub more : List Entry
  pub entries_are : now.entries.items ≡ old.entries.items ++ more
  pub holds : Holds more f
  pub looked : old.looked ≤ now.looked
  pub passes : OfTaken now.looked old.cursor now.cursor (Passes Whole Rest f)

pub reached_none : (Read : Reading) (r : Reader) → Reached Read Read bare r r
reached_none Read r = record {
  more = [];
  entries_are = sym (append-nil r.entries.items);
  holds = holds_none;
  looked = omega arith;
  passes = λ n m text like. (text, passes_none Read text, moves_none n r.cursor text like);
}

pub reached_same : (Whole Rest : Reading) (f : Forest) (a b c : Reader) → SamePlace b c → Reached Whole Rest f a b → Reached Whole Rest f a c
reached_same Whole Rest f a b c s x = record {
  more = x.more;
  entries_are = s.entries_are ∙ x.entries_are;
  holds = x.holds;
  looked = omega (arith, x.looked, s.looked);
  passes = λ n m text like.
      let y = x.passes n (omega (arith, s.looked, m)) text like in
      (y.0, y.1, moves_then n a.cursor b.cursor c.cursor text y.0 y.0 y.2 (moves_same n b.cursor c.cursor y.0 s.cursor_is y.2.like));
}

pub reached_as : (Whole Rest Other : Reading) (f : Forest) (a b : Reader) → OfLike b.looked b.cursor (IsRead Rest Other) → Reached Whole Rest f a b → Reached Whole Other f a b
reached_as Whole Rest Other f a b s x = record {
  more = x.more;
  entries_are = x.entries_are;
  holds = x.holds;
  looked = x.looked;
  passes = λ n m text like. let y = x.passes n m text like in (y.0, passes_as Whole Rest Other f text y.0 (s n m y.0 y.2.like) y.1, y.2);
}

pub reached_then : (Whole First : Reading) (Second : Forest → Reading) (f : Forest) (a b c : Reader) → IsOnce First → Reached Whole (Followed First Second) f a b → (x : AddsRead First b c) →
    Reached Whole (Second x.forest) (graft f x.forest) a c
reached_then Whole First Second f a b c once p x = record {
  more = p.more ++ x.more;
  entries_are = x.entries_are ∙ ap (λ es. es ++ x.more) p.entries_are ∙ append_assoc a.entries.items p.more x.more;
  holds = holds_then p.more x.more f x.forest p.holds x.holds;
  looked = omega (arith, p.looked, x.looked);
  passes = λ n m text like.
      let y = p.passes n (omega (arith, x.looked, m)) text like in
      let z = x.reads n m y.0 y.2.like in (
        z.0,
        passes_then Whole (Followed First Second) (Second x.forest) f x.forest text y.0 z.0 y.1 (passes_first First Second x.forest y.0 z.0 once z.1),
        moves_then n a.cursor b.cursor c.cursor text y.0 z.0 y.2 z.2,
      );
}

pub reached_not : (Whole Rest : Reading) (f : Forest) (a b c : Reader) → Reached Whole Rest f a b → NoneRead Rest b c → NoneRead Whole a c
reached_not Whole Rest f a b c p none = record {
  looked = omega (arith, p.looked, none.looked);
  unread = λ n m text like g rest x.
      let y = p.passes n (omega (arith, none.looked, m)) text like in
      let z = y.1.back g rest x in
      none.unread n m y.0 y.2.like z.0 rest z.1;
}

pub reached_yes : (Whole Rest : Reading) (f : Forest) (a b c : Reader) → Reached Whole Rest f a b → AddsRead Rest b c → AddsRead Whole a c
reached_yes Whole Rest f a b c p x = record {
  forest = graft f x.forest;
  more = p.more ++ x.more;
  entries_are = x.entries_are ∙ ap (λ es. es ++ x.more) p.entries_are ∙ append_assoc a.entries.items p.more x.more;
  holds = holds_then p.more x.more f x.forest p.holds x.holds;
  looked = omega (arith, p.looked, x.looked);
  reads = λ n m text like.
      let y = p.passes n (omega (arith, x.looked, m)) text like in
      let z = x.reads n m y.0 y.2.like in
      (z.0, y.1.on x.forest z.0 z.1, moves_then n a.cursor b.cursor c.cursor text y.0 z.0 y.2 z.2);
}

pub reached_answers : (Whole Rest : Reading) (f : Forest) (a b : Reader) (read : Bool) (c : Reader) → Reached Whole Rest f a b → AnswersTrees Rest b read c → AnswersTrees Whole a read c
reached_answers Whole Rest f a b false c p x = reached_not Whole Rest f a b c p x
reached_answers Whole Rest f a b true c p x = reached_yes Whole Rest f a b c p x

-- trees behind trees
pub first_not : (First : Reading) (Second : Forest → Reading) (a b : Reader) → NoneRead First a b → NoneRead (Followed First Second) a b
first_not First Second a b none = none_as First (Followed First Second) a b (λ f text rest x. (x.first, x.mid, x.reads)) none

pub answers_then : (First : Reading) (Second : Forest → Reading) (a b : Reader) (read : Bool) (c : Reader) → IsOnce First → (x : AddsRead First a b) → AnswersTrees (Second x.forest) b read c →
    AnswersTrees (Followed First Second) a read c
answers_then First Second a b read c once x y =
    reached_answers (Followed First Second) (Second x.forest) x.forest a b read c
    (reached_then (Followed First Second) First Second bare a a b once (reached_none (Followed First Second) a) x) y
