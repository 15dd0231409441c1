-- What a reader finds: one part of a class, some of them, and the body of an action.
use Rattle.std.proofs.Common.{◌≡◌, ℕ, zero, suc, ◌<◌, ◌≤◌, Bool, true, false, inl, inr, List, [], ◌++◌, length, Some, None, codes, refl, sym, ap, ◌∙◌, arith, subst}
use Rattle.std.specs.Bool.{Decides}
use Rattle.std.specs.Str.{IsUtf8}
use Rattle.std.proofs.lemmas.Bool.{false≢true}
use Rattle.lp_form.specs.declared.class.Class.{Class}
use Rattle.lp_form.specs.declared.class.Class.TheVariants as class_of
use Rattle.lp_form.specs.declared.part.Part.{Part}
use Rattle.lp_form.specs.declared.part.Part.TheVariants as part
use Rattle.lp_form.specs.declared.template.Step.{Step}
use Rattle.lp_form.specs.declared.template.Step.TheVariants as step
use Rattle.lp_spelling.specs.Counting.{settled, front_line}
use Rattle.lp_spelling.specs.Cursors.{left}
use Rattle.lp_spelling.specs.declared.cursor.Cursor.{Cursor}
use Rattle.lp_program.specs.declared.read.reader.Parameters.{Parameters}
use Rattle.lp_program.specs.declared.read.reader.Reader.{Reader}
use Rattle.lp_program.specs.Adding.{SamePlace}
use Rattle.lp_program.specs.Answering.{AddsRead, NoneRead, AnswersTrees, held}
use Rattle.lp_program.specs.Begins.{Lines}
use Rattle.lp_program.specs.Choosing.{Reading, Followed, Shorter, IsUnread, contents, SeenLines, MemberChosen, OptionalChosen, ManyChosen, AnyChosen, InlinedChosen, EitherChosen, BodyChosen, ClassChosen, PairChosen, Below, PartChosen}
use Rattle.lp_program.specs.Looking.{OfLines, Picks, Chooses}
use Rattle.lp_program.specs.Nearby.{OfLike}
use Rattle.lp_program.specs.Parameters.{last_parameter, parameters_of}
use Rattle.lp_program.specs.Reads.{graft}
use Rattle.lp_program.specs.Trees.{Content, Forest}
use Rattle.lp_program.specs.Trees.Forest.{bare}
use Rattle.lp_program.proofs.Answering.{IsRead, answers_as, answers_from, answers_looked, answers_then, answers_yes, answers_no, first_not, none_as, nothing_added, Reached, reached_none, reached_same, reached_as, reached_then, reached_not, reached_yes}
use Rattle.lp_program.proofs.Chosen.{IsOnce, AreOnce, seen_picks, seen_chooses, shorter_once, part_once, class_once}
use Rattle.lp_program.proofs.Existing.{lines_exist}
use Rattle.lp_program.proofs.Held.{held_more}
use Rattle.lp_program.proofs.Nearby.{moves_same, moves_then}

-- what holds of the lines of a text is seen there
seen_lines : (P : Lines → Type 0) (text : List ℕ) → IsUtf8 text → OfLines text P → SeenLines text P
seen_lines P text u all = let x = lines_exist text u in (x.0, x.1, all x.0 x.1)

pub seen_like : (P : Lines → Type 0) (line : ℕ) (c : Cursor) → OfLike line c (λ text. OfLines text P) → OfLike line c (λ text. SeenLines text P)
seen_like P line c all n m text like = seen_lines P text like.is_text (all n m text like)

-- a part, read from the same place
part_from : (depth : ℕ) (p : Part) (a b : Reader) (read : Bool) (c : Reader) → SamePlace a b → AnswersTrees (PartChosen depth b.prefix.now p) b read c → AnswersTrees (PartChosen depth a.prefix.now p) a read c
part_from depth p a b read c s x =
    answers_from (PartChosen depth a.prefix.now p) a b read c s (subst (λ (y : List ℕ). AnswersTrees (PartChosen depth y p) b read c) s.prefix_is x)

part_as : (Parts : Part → Reading) (p q : Part) (f : Forest) (text rest : List ℕ) → p ≡ q → Parts q f text rest → Parts p f text rest
part_as Parts p q f text rest e x = subst (λ (m : Part). Parts m f text rest) (sym e) x

-- one part of a class
pub member_read : (depth : ℕ) (prefix : List ℕ) (Parts : Part → Reading) (class : Class) (p : Part) (text : List ℕ) → SeenLines text (Chooses depth prefix class (Some p)) → IsRead (Parts p) (MemberChosen depth prefix Parts class) text
member_read depth prefix Parts class p text seen = record {
  to = λ f rest x. (p, seen, x);
  from = λ f rest y.
      let e : Some p ≡ Some y.0 = seen_chooses depth prefix class (Some p) (Some y.0) text seen y.1 in
      let same : p ≡ y.0 = cc in
      part_as Parts p y.0 f text rest same y.2;
}

pub member_not : (depth : ℕ) (prefix : List ℕ) (Parts : Part → Reading) (class : Class) (text : List ℕ) → SeenLines text (Chooses depth prefix class None) → IsUnread (MemberChosen depth prefix Parts class) text
member_not depth prefix Parts class text seen f rest y = let e = seen_chooses depth prefix class None (Some y.0) text seen y.1 in cc

pub member_answers : (depth : ℕ) (class : Class) (p : Part) (a b : Reader) (read : Bool) (c : Reader) → SamePlace a b → OfLike b.looked a.cursor (λ text. OfLines text (Chooses depth a.prefix.now class (Some p))) →
    AnswersTrees (PartChosen depth b.prefix.now p) b read c → AnswersTrees (MemberChosen depth a.prefix.now (PartChosen depth a.prefix.now) class) a read c
member_answers depth class p a b read c s all x =
    let Parts : Part → Reading = PartChosen depth a.prefix.now in
    let seen = seen_like (Chooses depth a.prefix.now class (Some p)) b.looked a.cursor all in
    answers_as (Parts p) (MemberChosen depth a.prefix.now Parts class) b.looked a read c (answers_looked (PartChosen depth b.prefix.now p) b read c x)
    (λ n m text like. member_read depth a.prefix.now Parts class p text (seen n m text like)) (part_from depth p a b read c s x)

pub member_none : (depth : ℕ) (class : Class) (a b : Reader) → SamePlace a b → OfLike b.looked a.cursor (λ text. OfLines text (Chooses depth a.prefix.now class None)) →
    NoneRead (MemberChosen depth a.prefix.now (PartChosen depth a.prefix.now) class) a b
member_none depth class a b s all =
    let seen = seen_like (Chooses depth a.prefix.now class None) b.looked a.cursor all in
    record { looked = s.looked; unread = λ n m text like. member_not depth a.prefix.now (PartChosen depth a.prefix.now) class text (seen n m text like) }

-- at most one
pub optional_read : (depth : ℕ) (prefix : List ℕ) (Parts : Part → Reading) (class : Class) (p : Part) (text : List ℕ) → SeenLines text (Picks depth prefix class (Some p)) → IsRead (Parts p) (OptionalChosen depth prefix Parts class) text
optional_read depth prefix Parts class p text seen = record { to = λ f rest x. (Some p, seen, x); from = back }
  where
    back : (f : Forest) (rest : List ℕ) → OptionalChosen depth prefix Parts class f text rest → Parts p f text rest
    back f rest (None, t, w) = let e = seen_picks depth prefix class (Some p) None text seen t in cc
    back f rest (Some q, t, w) =
        let e : Some p ≡ Some q = seen_picks depth prefix class (Some p) (Some q) text seen t in
        let same : p ≡ q = cc in
        part_as Parts p q f text rest same w

pub optional_answers : (depth : ℕ) (class : Class) (p : Part) (a b : Reader) (read : Bool) (c : Reader) → SamePlace a b → OfLike b.looked a.cursor (λ text. OfLines text (Picks depth a.prefix.now class (Some p))) →
    AnswersTrees (PartChosen depth b.prefix.now p) b read c → AnswersTrees (OptionalChosen depth a.prefix.now (PartChosen depth a.prefix.now) class) a read c
optional_answers depth class p a b read c s all x =
    let Parts : Part → Reading = PartChosen depth a.prefix.now in
    let seen = seen_like (Picks depth a.prefix.now class (Some p)) b.looked a.cursor all in
    answers_as (Parts p) (OptionalChosen depth a.prefix.now Parts class) b.looked a read c (answers_looked (PartChosen depth b.prefix.now p) b read c x)
    (λ n m text like. optional_read depth a.prefix.now Parts class p text (seen n m text like)) (part_from depth p a b read c s x)

pub optional_none : (depth : ℕ) (prefix : List ℕ) (Parts : Part → Reading) (class : Class) (a b : Reader) → SamePlace a b → OfLike b.looked a.cursor (λ text. OfLines text (Picks depth prefix class None)) →
    AddsRead (OptionalChosen depth prefix Parts class) a b
optional_none depth prefix Parts class a b s all =
    let seen = seen_like (Picks depth prefix class None) b.looked a.cursor all in
    nothing_added (OptionalChosen depth prefix Parts class) a b s (λ n m text like. (None, seen n m text like, (refl, refl)))

-- as many as there are: one more, and the others behind it
abbrev pub OneMore : ℕ → List ℕ → (Part → Forest → Reading) → Class → Part → Forest → Reading
OneMore depth prefix Each class p before = Followed (Shorter (Each p before)) (λ first. AnyChosen depth prefix Each class (graft before first))

pub one_more : (depth : ℕ) (prefix : List ℕ) (Each : Part → Forest → Reading) (class : Class) (p : Part) (before : Forest) (text : List ℕ) → SeenLines text (Picks depth prefix class (Some p)) →
    IsRead (AnyChosen depth prefix Each class before) (OneMore depth prefix Each class p before) text
one_more depth prefix Each class p before text seen = record {
  to = λ f rest x. forth x.0 f rest x.1;
  from = λ f rest y. (suc y.goes_on.0, (p, seen, record { first = y.first; later = y.later; mid = y.mid; trees_are = y.trees_are; reads = y.reads; goes_on = y.goes_on.1 }));
}
  where
    forth : (n : ℕ) (f : Forest) (rest : List ℕ) → ManyChosen depth prefix Each class n before f text rest → OneMore depth prefix Each class p before f text rest
    forth zero f rest x = let e = seen_picks depth prefix class (Some p) None text seen x.0 in cc
    forth (suc n) f rest x =
        let e : Some p ≡ Some x.0 = seen_picks depth prefix class (Some p) (Some x.0) text seen x.1 in
        let same : x.0 ≡ p = cc in
        let y = subst (λ (q : Part). Followed (Shorter (Each q before)) (λ first. ManyChosen depth prefix Each class n (graft before first)) f text rest) same x.2 in
        record { first = y.first; later = y.later; mid = y.mid; trees_are = y.trees_are; reads = y.reads; goes_on = (n, y.goes_on) }

-- as many as were read so far, behind which the others go on
abbrev pub AnyReached : ℕ → List ℕ → (Part → Forest → Reading) → Class → Reader → Reader → Type 0
AnyReached depth prefix Each class old now = (f : Forest) × Reached (AnyChosen depth prefix Each class bare) (AnyChosen depth prefix Each class f) f old now

pub any_begun : (depth : ℕ) (prefix : List ℕ) (Each : Part → Forest → Reading) (class : Class) (r : Reader) → AnyReached depth prefix Each class r r
any_begun depth prefix Each class r = (bare, reached_none (AnyChosen depth prefix Each class bare) r)

-- one more was begun
reached_one : (depth : ℕ) (prefix : List ℕ) (Each : Part → Forest → Reading) (class : Class) (p : Part) (old a b : Reader) (x : AnyReached depth prefix Each class old a) → SamePlace a b →
    OfLike b.looked b.cursor (λ text. SeenLines text (Picks depth prefix class (Some p))) → Reached (AnyChosen depth prefix Each class bare) (OneMore depth prefix Each class p x.0) x.0 old b
reached_one depth prefix Each class p old a b x s seen =
    let Whole : Reading = AnyChosen depth prefix Each class bare in
    reached_as Whole (AnyChosen depth prefix Each class x.0) (OneMore depth prefix Each class p x.0) x.0 old b (λ n m text like. one_more depth prefix Each class p x.0 text (seen n m text like))
    (reached_same Whole (AnyChosen depth prefix Each class x.0) x.0 old a b s x.1)

pub any_goes : (depth : ℕ) (prefix : List ℕ) (Each : Part → Forest → Reading) (class : Class) (p : Part) (old a b : Reader) (read : Bool) (c : Reader) → ((q : Part) (f : Forest) → IsOnce (Each q f)) →
    (x : AnyReached depth prefix Each class old a) → SamePlace a b → OfLike b.looked b.cursor (λ text. SeenLines text (Picks depth prefix class (Some p))) → read ≡ true → AnswersTrees (Each p x.0) b read c →
    length (left c.cursor) < length (left b.cursor) → AnyReached depth prefix Each class old c
any_goes depth prefix Each class p old a b read c once x s seen all y shorter =
    let z = answers_yes (Each p x.0) b read c all y in
    let w : AddsRead (Shorter (Each p x.0)) b c = record {
      forest = z.forest;
      more = z.more;
      entries_are = z.entries_are;
      holds = z.holds;
      looked = z.looked;
      reads = λ n m text like. let v = z.reads n m text like in let size = v.2.size in (v.0, (v.1, omega (arith, size, shorter)), v.2);
    } in (
      graft x.0 z.forest,
      reached_then (AnyChosen depth prefix Each class bare) (Shorter (Each p x.0)) (λ first. AnyChosen depth prefix Each class (graft x.0 first)) x.0 old b c (shorter_once (Each p x.0) (once p x.0))
          (reached_one depth prefix Each class p old a b x s seen) w,
    )

pub any_stops : (depth : ℕ) (prefix : List ℕ) (Each : Part → Forest → Reading) (class : Class) (p : Part) (old a b : Reader) (read : Bool) (c : Reader) (x : AnyReached depth prefix Each class old a) → SamePlace a b →
    OfLike b.looked b.cursor (λ text. SeenLines text (Picks depth prefix class (Some p))) → read ≡ false → AnswersTrees (Each p x.0) b read c → NoneRead (AnyChosen depth prefix Each class bare) old c
any_stops depth prefix Each class p old a b read c x s seen none y =
    let unread = answers_no (Each p x.0) b read c none y in
    reached_not (AnyChosen depth prefix Each class bare) (OneMore depth prefix Each class p x.0) x.0 old b c (reached_one depth prefix Each class p old a b x s seen)
    (first_not (Shorter (Each p x.0)) (λ first. AnyChosen depth prefix Each class (graft x.0 first)) b c (none_as (Each p x.0) (Shorter (Each p x.0)) b c (λ f text rest z. (f, rest, z.0)) unread))

-- it takes nothing off the text
pub any_stays : (depth : ℕ) (prefix : List ℕ) (Each : Part → Forest → Reading) (class : Class) (p : Part) (old a b : Reader) (read : Bool) (c : Reader) → ((q : Part) (f : Forest) → IsOnce (Each q f)) →
    (x : AnyReached depth prefix Each class old a) → SamePlace a b → OfLike b.looked b.cursor (λ text. SeenLines text (Picks depth prefix class (Some p))) → read ≡ true → AnswersTrees (Each p x.0) b read c →
    length (left b.cursor) ≤ length (left c.cursor) → NoneRead (AnyChosen depth prefix Each class bare) old c
any_stays depth prefix Each class p old a b read c once x s seen all y le =
    let z = answers_yes (Each p x.0) b read c all y in
    let unread : NoneRead (Shorter (Each p x.0)) b c = record {
      looked = z.looked;
      unread = λ n m text like f rest w.
          let v = z.reads n m text like in
          let e = once p x.0 f z.forest text rest v.0 w.0 v.1 in
          let same = ap length e.1 in
          let size = v.2.size in
          let less = w.1 in
          omega (arith, same, size, le, less);
    } in
    reached_not (AnyChosen depth prefix Each class bare) (OneMore depth prefix Each class p x.0) x.0 old b c (reached_one depth prefix Each class p old a b x s seen)
    (first_not (Shorter (Each p x.0)) (λ first. AnyChosen depth prefix Each class (graft x.0 first)) b c unread)

-- no more is begun
pub any_ends : (depth : ℕ) (prefix : List ℕ) (Each : Part → Forest → Reading) (class : Class) (old a b : Reader) → AnyReached depth prefix Each class old a → SamePlace a b →
    OfLike b.looked a.cursor (λ text. SeenLines text (Picks depth prefix class None)) → AddsRead (AnyChosen depth prefix Each class bare) old b
any_ends depth prefix Each class old a b x s seen =
    reached_yes (AnyChosen depth prefix Each class bare) (AnyChosen depth prefix Each class x.0) x.0 old a b x.1
    (nothing_added (AnyChosen depth prefix Each class x.0) a b s (λ n m text like. (zero, (seen n m text like, (refl, refl)))))

-- the body of an action
pub user_read : (Parts : Part → Reading) (text : List ℕ) → IsUnread (InlinedChosen Parts) text → IsRead (Parts part.UserBody) (EitherChosen Parts) text
user_read Parts text none = record { to = λ f rest x. inr (none, x); from = back }
  where
    back : (f : Forest) (rest : List ℕ) → EitherChosen Parts f text rest → Parts part.UserBody f text rest
    back f rest (inl x) = absurd (none f rest x)
    back f rest (inr x) = x.1

pub inlined_added : (Parts : Part → Reading) (a b : Reader) → AddsRead (InlinedChosen Parts) a b → AddsRead (EitherChosen Parts) a b
inlined_added Parts a b x = record {
  forest = x.forest;
  more = x.more;
  entries_are = x.entries_are;
  holds = x.holds;
  looked = x.looked;
  reads = λ n m text like. let y = x.reads n m text like in (y.0, inl y.1, y.2);
}

-- inlined actions, with a `}` behind them; or another line
pub inlined_not : (Parts : Part → Reading) (a : Reader) (read : Bool) (b : Reader) → read ≡ false → AnswersTrees (Parts part.InlineBody) a read b → NoneRead (InlinedChosen Parts) a b
inlined_not Parts a read b none x = none_as (Parts part.InlineBody) (InlinedChosen Parts) a b (λ f text rest y. (f, rest, y.0)) (answers_no (Parts part.InlineBody) a read b none x)

pub inlined_answers : (Parts : Part → Reading) (a : Reader) (read : Bool) (b : Reader) (closes : Bool) (c : Reader) → AreOnce Parts → read ≡ true → AnswersTrees (Parts part.InlineBody) a read b → SamePlace b c →
    OfLike c.looked b.cursor (λ text. Decides closes (front_line (settled text) ≡ codes "}")) → AnswersTrees (InlinedChosen Parts) a closes c
inlined_answers Parts a read b true c once all x s closes =
    let z = answers_yes (Parts part.InlineBody) a read b all x in
    record {
      forest = z.forest;
      more = z.more;
      entries_are = s.entries_are ∙ z.entries_are;
      holds = z.holds;
      looked = omega (arith, z.looked, s.looked);
      reads = λ n m text like.
          let y = z.reads n (omega (arith, s.looked, m)) text like in
          (y.0, (y.1, (closes n m y.0 y.2.like).0 refl), moves_then n a.cursor b.cursor c.cursor text y.0 y.0 y.2 (moves_same n b.cursor c.cursor y.0 s.cursor_is y.2.like));
    }
inlined_answers Parts a read b false c once all x s closes =
    let z = answers_yes (Parts part.InlineBody) a read b all x in
    record {
      looked = omega (arith, z.looked, s.looked);
      unread = λ n m text like f rest w.
          let y = z.reads n (omega (arith, s.looked, m)) text like in
          let e = once part.InlineBody f z.forest text rest y.0 w.0 y.1 in
          false≢true ((closes n m y.0 y.2.like).1 (subst (λ (t : List ℕ). front_line (settled t) ≡ codes "}") e.1 w.1));
    }

pub either_answers : (depth : ℕ) (a b : Reader) (read : Bool) (c : Reader) → SamePlace a b → NoneRead (InlinedChosen (PartChosen depth a.prefix.now)) a b → AnswersTrees (PartChosen depth b.prefix.now part.UserBody) b read c →
    AnswersTrees (EitherChosen (PartChosen depth a.prefix.now)) a read c
either_answers depth a b read c s none x =
    let Parts : Part → Reading = PartChosen depth a.prefix.now in
    answers_as (Parts part.UserBody) (EitherChosen Parts) b.looked a read c (answers_looked (PartChosen depth b.prefix.now part.UserBody) b read c x)
    (λ n m text like. user_read Parts text (none.unread n m text like)) (part_from depth part.UserBody a b read c s x)

-- any other class
pub class_other : (depth : ℕ) (prefix : List ℕ) (Parts : Part → Reading) (before : List Content) (class : Class) (a : Reader) (read : Bool) (b : Reader) → (class ≡ class_of.ActionBody → ⊥) →
    AnswersTrees (MemberChosen depth prefix Parts class) a read b → AnswersTrees (ClassChosen depth prefix Parts before class) a read b
class_other depth prefix Parts before class_of.ActionBody a read b other x = absurd (other refl)
class_other depth prefix Parts before class a read b other x = x

-- a part, and one of a class behind it
pub pair_read : (depth : ℕ) (second : Class) (p : Part) (at : ℕ) (a b : Reader) (first read : Bool) (c : Reader) → at < length a.entries.items → b.prefix.now ≡ a.prefix.now → first ≡ true → AnswersTrees (PartChosen depth a.prefix.now p) a first b →
    AnswersTrees (ClassChosen depth b.prefix.now (PartChosen depth b.prefix.now) (held at b) second) b read c → AnswersTrees (PairChosen depth a.prefix.now (PartChosen depth a.prefix.now) (held at a) second p) a read c
pair_read depth second p at a b first read c lt same all x y =
    let Parts : Part → Reading = PartChosen depth a.prefix.now in
    let z = answers_yes (Parts p) a first b all x in
    let e = held_more at a b z.more z.forest lt z.entries_are z.holds in
    answers_then (Parts p) (λ f. ClassChosen depth a.prefix.now Parts (held at a ++ contents f) second) a b read c (part_once depth a.prefix.now p) z
    (subst (λ (l : List Content). AnswersTrees (ClassChosen depth a.prefix.now Parts l second) b read c) e
    (subst (λ (q : List ℕ). AnswersTrees (ClassChosen depth q (PartChosen depth q) (held at b) second) b read c) same y))

pub pair_not : (depth : ℕ) (prefix : List ℕ) (second : Class) (p : Part) (at : ℕ) (a b : Reader) (first : Bool) → first ≡ false → AnswersTrees (PartChosen depth prefix p) a first b →
    NoneRead (PairChosen depth prefix (PartChosen depth prefix) (held at a) second p) a b
pair_not depth prefix second p at a b first none x =
    let Parts : Part → Reading = PartChosen depth prefix in
    first_not (Parts p) (λ f. ClassChosen depth prefix Parts (held at a ++ contents f) second) a b (answers_no (Parts p) a first b none x)

-- a part of a class, and as many more as there are
pub some_read : (depth : ℕ) (class : Class) (at : ℕ) (a b : Reader) (first read : Bool) (c : Reader) → b.prefix.now ≡ a.prefix.now → first ≡ true →
    AnswersTrees (ClassChosen depth a.prefix.now (PartChosen depth a.prefix.now) (held at a) class) a first b →
    AnswersTrees (AnyChosen depth b.prefix.now (λ p sofar. PartChosen depth b.prefix.now p) class bare) b read c → AnswersTrees (Below depth a.prefix.now (step.Some class) (held at a)) a read c
some_read depth class at a b first read c e all x y =
    let First : Reading = ClassChosen depth a.prefix.now (PartChosen depth a.prefix.now) (held at a) class in
    answers_then First (λ f. AnyChosen depth a.prefix.now (λ p sofar. PartChosen depth a.prefix.now p) class bare) a b read c
    (class_once depth a.prefix.now (PartChosen depth a.prefix.now) (held at a) class (part_once depth a.prefix.now)) (answers_yes First a first b all x)
    (subst (λ (q : List ℕ). AnswersTrees (AnyChosen depth q (λ p sofar. PartChosen depth q p) class bare) b read c) e y)

pub some_not : (depth : ℕ) (class : Class) (at : ℕ) (a b : Reader) (first : Bool) → first ≡ false → AnswersTrees (ClassChosen depth a.prefix.now (PartChosen depth a.prefix.now) (held at a) class) a first b →
    NoneRead (Below depth a.prefix.now (step.Some class) (held at a)) a b
some_not depth class at a b first none x =
    let First : Reading = ClassChosen depth a.prefix.now (PartChosen depth a.prefix.now) (held at a) class in
    first_not First (λ f. AnyChosen depth a.prefix.now (λ p sofar. PartChosen depth a.prefix.now p) class bare) a b (answers_no First a first b none x)

-- a step that has nothing below it
pub below_none : (depth : ℕ) (prefix : List ℕ) (s t : Step) (before : List Content) (a : Reader) → s ≡ t → ((text : List ℕ) → Below depth prefix t before bare text text) → AddsRead (Below depth prefix s before) a a
below_none depth prefix s t before a e x =
    nothing_added (Below depth prefix s before) a a (record { prefix_is = refl; cursor_is = refl; looked = omega arith; entries_are = refl })
    (λ n m text like. subst (λ (u : Step). Below depth prefix u before bare text text) (sym e) (x text))

-- the body of an action whose parameters are these
pub body_as : (Parts : Part → Reading) (whose is : Parameters) (a : Reader) (read : Bool) (b : Reader) → is ≡ whose → AnswersTrees (BodyChosen Parts is) a read b → AnswersTrees (BodyChosen Parts whose) a read b
body_as Parts whose is a read b e x = subst (λ (w : Parameters). AnswersTrees (BodyChosen Parts w) a read b) e x

-- the body of an action, as a class
pub class_body : (depth : ℕ) (prefix : List ℕ) (Parts : Part → Reading) (before : List Content) (class : Class) (a : Reader) (read : Bool) (b : Reader) → class ≡ class_of.ActionBody →
    AnswersTrees (BodyChosen Parts (parameters_of prefix (last_parameter [] before))) a read b → AnswersTrees (ClassChosen depth prefix Parts before class) a read b
class_body depth prefix Parts before class a read b e x = subst (λ (k : Class). AnswersTrees (ClassChosen depth prefix Parts before k) a read b) (sym e) x

-- a step, told by its kind
pub below_as : (depth : ℕ) (prefix : List ℕ) (s t : Step) (before : List Content) (a : Reader) (read : Bool) (b : Reader) → s ≡ t → AnswersTrees (Below depth prefix t before) a read b → AnswersTrees (Below depth prefix s before) a read b
below_as depth prefix s t before a read b e x = subst (λ (u : Step). AnswersTrees (Below depth prefix u before) a read b) (sym e) x
