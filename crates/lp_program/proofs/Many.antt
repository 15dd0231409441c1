-- A reader that reads as many parts, or pairs, as the lines in front begin.
use Rattle.std.proofs.Common.{◌≡◌, ℕ, ◌<◌, ◌≤◌, Bool, true, false, List, ◌++◌, length, Option, Some, None, sym, ◌∙◌, subst}
use Rattle.lp_form.specs.declared.class.Class.{Class}
use Rattle.lp_form.specs.declared.part.Part.{Part}
use Rattle.lp_spelling.specs.Cursors.{left}
use Rattle.lp_program.specs.declared.read.reader.Reader.{Reader}
use Rattle.lp_program.specs.Adding.{SamePlace}
use Rattle.lp_program.specs.Answering.{AddsRead, NoneRead, AnswersTrees, held}
use Rattle.lp_program.specs.Choosing.{Reading, contents, SeenLines, AnyChosen, PairChosen, PartChosen}
use Rattle.lp_program.specs.Looking.{OfLines, Picks}
use Rattle.lp_program.specs.Nearby.{OfLike}
use Rattle.lp_program.specs.Trees.{Content, Forest}
use Rattle.lp_program.specs.Trees.Forest.{bare}
use Rattle.lp_program.proofs.Chosen.{IsOnce, part_once, pair_once}
use Rattle.lp_program.proofs.Found.{AnyReached, any_goes, any_stops, any_stays, any_ends, seen_like}
use Rattle.lp_program.proofs.Held.{held_more}

-- what a reader picks, seen from where it began
pub seen_from : (depth : ℕ) (class : Class) (r : Option Part) (old a b : Reader) → a.prefix.now ≡ old.prefix.now → SamePlace a b → OfLike b.looked a.cursor (λ text. OfLines text (Picks depth a.prefix.now class r)) →
    OfLike b.looked b.cursor (λ text. SeenLines text (Picks depth old.prefix.now class r))
seen_from depth class r old a b e s all =
    subst (λ k. OfLike b.looked k (λ text. SeenLines text (Picks depth old.prefix.now class r))) (sym s.cursor_is)
    (subst (λ (y : List ℕ). OfLike b.looked a.cursor (λ text. SeenLines text (Picks depth y class r))) e (seen_like (Picks depth a.prefix.now class r) b.looked a.cursor all))

-- what is read each time: a part, or a pair
abbrev pub EachPart : ℕ → List ℕ → Part → Forest → Reading
EachPart depth prefix p sofar = PartChosen depth prefix p

abbrev pub EachPair : ℕ → List ℕ → List Content → Class → Part → Forest → Reading
EachPair depth prefix before second p sofar = PairChosen depth prefix (PartChosen depth prefix) (before ++ contents sofar) second p

abbrev pub PartsReached : ℕ → Class → Reader → Reader → Type 0
PartsReached depth class old now = AnyReached depth old.prefix.now (EachPart depth old.prefix.now) class old now

abbrev pub PairsReached : ℕ → ℕ → Class → Class → Reader → Reader → Type 0
PairsReached depth at first second old now = AnyReached depth old.prefix.now (EachPair depth old.prefix.now (held at old) second) first old now

parts_once : (depth : ℕ) (prefix : List ℕ) (p : Part) (f : Forest) → IsOnce (EachPart depth prefix p f)
parts_once depth prefix p f = part_once depth prefix p

pairs_once : (depth : ℕ) (prefix : List ℕ) (before : List Content) (second : Class) (p : Part) (f : Forest) → IsOnce (EachPair depth prefix before second p f)
pairs_once depth prefix before second p f = pair_once depth prefix (PartChosen depth prefix) (before ++ contents f) second p (part_once depth prefix)

part_from : (depth : ℕ) (p : Part) (old a b : Reader) (read : Bool) (c : Reader) → a.prefix.now ≡ old.prefix.now → SamePlace a b → AnswersTrees (PartChosen depth b.prefix.now p) b read c →
    AnswersTrees (PartChosen depth old.prefix.now p) b read c
part_from depth p old a b read c e s x = subst (λ (y : List ℕ). AnswersTrees (PartChosen depth y p) b read c) (s.prefix_is ∙ e) x

-- a part more, or none, or one that takes nothing off the text; or no more are begun
pub parts_goes : (depth : ℕ) (class : Class) (p : Part) (old a b : Reader) (read : Bool) (c : Reader) → a.prefix.now ≡ old.prefix.now → PartsReached depth class old a → SamePlace a b →
    OfLike b.looked b.cursor (λ text. SeenLines text (Picks depth old.prefix.now class (Some p))) → read ≡ true → AnswersTrees (PartChosen depth b.prefix.now p) b read c → length (left c.cursor) < length (left b.cursor) → PartsReached depth class old c
parts_goes depth class p old a b read c e x s seen all y less =
    any_goes depth old.prefix.now (EachPart depth old.prefix.now) class p old a b read c (parts_once depth old.prefix.now) x s seen all (part_from depth p old a b read c e s y) less

pub parts_stops : (depth : ℕ) (class : Class) (p : Part) (old a b : Reader) (read : Bool) (c : Reader) → a.prefix.now ≡ old.prefix.now → PartsReached depth class old a → SamePlace a b →
    OfLike b.looked b.cursor (λ text. SeenLines text (Picks depth old.prefix.now class (Some p))) → read ≡ false → AnswersTrees (PartChosen depth b.prefix.now p) b read c →
    NoneRead (AnyChosen depth old.prefix.now (EachPart depth old.prefix.now) class bare) old c
parts_stops depth class p old a b read c e x s seen none y =
    any_stops depth old.prefix.now (EachPart depth old.prefix.now) class p old a b read c x s seen none (part_from depth p old a b read c e s y)

pub parts_stays : (depth : ℕ) (class : Class) (p : Part) (old a b : Reader) (read : Bool) (c : Reader) → a.prefix.now ≡ old.prefix.now → PartsReached depth class old a → SamePlace a b →
    OfLike b.looked b.cursor (λ text. SeenLines text (Picks depth old.prefix.now class (Some p))) → read ≡ true → AnswersTrees (PartChosen depth b.prefix.now p) b read c → length (left b.cursor) ≤ length (left c.cursor) →
    NoneRead (AnyChosen depth old.prefix.now (EachPart depth old.prefix.now) class bare) old c
parts_stays depth class p old a b read c e x s seen all y le =
    any_stays depth old.prefix.now (EachPart depth old.prefix.now) class p old a b read c (parts_once depth old.prefix.now) x s seen all (part_from depth p old a b read c e s y) le

pub parts_ends : (depth : ℕ) (class : Class) (old a b : Reader) → PartsReached depth class old a → SamePlace a b → OfLike b.looked b.cursor (λ text. SeenLines text (Picks depth old.prefix.now class None)) →
    AddsRead (AnyChosen depth old.prefix.now (EachPart depth old.prefix.now) class bare) old b
parts_ends depth class old a b x s seen =
    any_ends depth old.prefix.now (EachPart depth old.prefix.now) class old a b x s (subst (λ k. OfLike b.looked k (λ text. SeenLines text (Picks depth old.prefix.now class None))) s.cursor_is seen)

-- the same of pairs
pair_from : (depth at : ℕ) (first second : Class) (p : Part) (old a b : Reader) (read : Bool) (c : Reader) → at < length old.entries.items → a.prefix.now ≡ old.prefix.now → (x : PairsReached depth at first second old a) → SamePlace a b →
    AnswersTrees (PairChosen depth b.prefix.now (PartChosen depth b.prefix.now) (held at b) second p) b read c → AnswersTrees (EachPair depth old.prefix.now (held at old) second p x.0) b read c
pair_from depth at first second p old a b read c lt e x s y =
    let behind : held at b ≡ held at old ++ contents x.0 = held_more at old b x.1.more x.0 lt (s.entries_are ∙ x.1.entries_are) x.1.holds in
    subst (λ (l : List Content). AnswersTrees (PairChosen depth old.prefix.now (PartChosen depth old.prefix.now) l second p) b read c) behind
    (subst (λ (q : List ℕ). AnswersTrees (PairChosen depth q (PartChosen depth q) (held at b) second p) b read c) (s.prefix_is ∙ e) y)

pub pairs_goes : (depth at : ℕ) (first second : Class) (p : Part) (old a b : Reader) (read : Bool) (c : Reader) → at < length old.entries.items → a.prefix.now ≡ old.prefix.now → PairsReached depth at first second old a →
    SamePlace a b → OfLike b.looked b.cursor (λ text. SeenLines text (Picks depth old.prefix.now first (Some p))) → read ≡ true → AnswersTrees (PairChosen depth b.prefix.now (PartChosen depth b.prefix.now) (held at b) second p) b read c →
    length (left c.cursor) < length (left b.cursor) → PairsReached depth at first second old c
pairs_goes depth at first second p old a b read c lt e x s seen all y less =
    any_goes depth old.prefix.now (EachPair depth old.prefix.now (held at old) second) first p old a b read c (pairs_once depth old.prefix.now (held at old) second) x s seen all
    (pair_from depth at first second p old a b read c lt e x s y) less

pub pairs_stops : (depth at : ℕ) (first second : Class) (p : Part) (old a b : Reader) (read : Bool) (c : Reader) → at < length old.entries.items → a.prefix.now ≡ old.prefix.now → PairsReached depth at first second old a →
    SamePlace a b → OfLike b.looked b.cursor (λ text. SeenLines text (Picks depth old.prefix.now first (Some p))) → read ≡ false → AnswersTrees (PairChosen depth b.prefix.now (PartChosen depth b.prefix.now) (held at b) second p) b read c →
    NoneRead (AnyChosen depth old.prefix.now (EachPair depth old.prefix.now (held at old) second) first bare) old c
pairs_stops depth at first second p old a b read c lt e x s seen none y =
    any_stops depth old.prefix.now (EachPair depth old.prefix.now (held at old) second) first p old a b read c x s seen none (pair_from depth at first second p old a b read c lt e x s y)

pub pairs_stays : (depth at : ℕ) (first second : Class) (p : Part) (old a b : Reader) (read : Bool) (c : Reader) → at < length old.entries.items → a.prefix.now ≡ old.prefix.now → PairsReached depth at first second old a →
    SamePlace a b → OfLike b.looked b.cursor (λ text. SeenLines text (Picks depth old.prefix.now first (Some p))) → read ≡ true → AnswersTrees (PairChosen depth b.prefix.now (PartChosen depth b.prefix.now) (held at b) second p) b read c →
    length (left b.cursor) ≤ length (left c.cursor) → NoneRead (AnyChosen depth old.prefix.now (EachPair depth old.prefix.now (held at old) second) first bare) old c
pairs_stays depth at first second p old a b read c lt e x s seen all y le =
    any_stays depth old.prefix.now (EachPair depth old.prefix.now (held at old) second) first p old a b read c (pairs_once depth old.prefix.now (held at old) second) x s seen all
    (pair_from depth at first second p old a b read c lt e x s y) le

pub pairs_ends : (depth at : ℕ) (first second : Class) (old a b : Reader) → PairsReached depth at first second old a → SamePlace a b → OfLike b.looked b.cursor (λ text. SeenLines text (Picks depth old.prefix.now first None)) →
    AddsRead (AnyChosen depth old.prefix.now (EachPair depth old.prefix.now (held at old) second) first bare) old b
pairs_ends depth at first second old a b x s seen =
    any_ends depth old.prefix.now (EachPair depth old.prefix.now (held at old) second) first old a b x s (subst (λ k. OfLike b.looked k (λ text. SeenLines text (Picks depth old.prefix.now first None))) s.cursor_is seen)
