-- A whole program that is read, or isn't.
use Rattle.std.proofs.Common.{◌≡◌, ℕ, zero, suc, ◌^◌, ◌<◌, Bool, true, false, inl, inr, codes, length, List, [], ◌++◌, Option, Some, None, Bor, refl, sym, ap, ◌∙◌, arith, subst}
use Rattle.std.specs.Bool.{Decides}
use Rattle.std.specs.Option.{MatchOption, unwrap_or}
use Rattle.std.specs.Str.{IsUtf8}
use Rattle.std.proofs.lemmas.Bool.{false≢true}
use Rattle.lp_form.specs.declared.part.Part.{Part}
use Rattle.lp_form.specs.declared.part.Part.TheVariants as part
use Rattle.lp_spelling.specs.Counting.{settled}
use Rattle.lp_spelling.specs.Cursors.{left}
use Rattle.lp_tree.specs.declared.tree.Program.{Program}
use Rattle.lp_program.specs.declared.read.reader.Reader.{Reader}
use Rattle.lp_program.specs.Adding.{SamePlace}
use Rattle.lp_program.specs.Answering.{NoneRead, AnswersTrees}
use Rattle.lp_program.specs.declared.read.reader.ReadFault.TheVariants as fault
use Rattle.lp_program.specs.Choosing.{IsChosen, IsReadUnder, IsRefused, PartChosen, WholeChosen, grown}
use Rattle.lp_program.specs.Nearby.{Like, OfLike}
use Rattle.lp_program.specs.Prefixes.{ShowsPrefix}
use Rattle.lp_program.specs.Reads.{is_prefix}
use Rattle.lp_program.specs.Trees.{Content, Forest, whole}
use Rattle.lp_program.specs.Trees.Forest.{bare, tree}
use Rattle.lp_program.proofs.Adding.{whole_one}
use Rattle.lp_program.proofs.Answering.{answers_yes, answers_no, none_as}
use Rattle.lp_program.proofs.Chosen.{part_once}
use Rattle.lp_program.proofs.Grafts.{holds_alone}
use Rattle.lp_program.proofs.Nearby.{like_first, moves_same, moves_then}
use Rattle.lp_program.proofs.Prefixes.{numbers_fit, prefix_once, shows_none}
use Rattle.lp_program.proofs.Showing.{chosen_shows}

-- no part, and so no program
pub whole_not : (a : Reader) (read : Bool) (b : Reader) → read ≡ false → AnswersTrees (PartChosen 16 a.prefix.now part.Program) a read b → NoneRead (WholeChosen a.prefix.now) a b
whole_not a read b none x =
    none_as (PartChosen 16 a.prefix.now part.Program) (WholeChosen a.prefix.now) a b (λ f text rest y. (f, rest, y.0)) (answers_no (PartChosen 16 a.prefix.now part.Program) a read b none x)

-- a part, and nothing behind it, or something
pub whole_answers : (a : Reader) (read : Bool) (b : Reader) (ended : Bool) (c : Reader) → read ≡ true → AnswersTrees (PartChosen 16 a.prefix.now part.Program) a read b → SamePlace b c →
    OfLike c.looked b.cursor (λ text. Decides ended (settled text ≡ [])) → AnswersTrees (WholeChosen a.prefix.now) a ended c
whole_answers a read b true c all x s over =
    let y = answers_yes (PartChosen 16 a.prefix.now part.Program) a read b all x in
    record {
      forest = y.forest;
      more = y.more;
      entries_are = s.entries_are ∙ y.entries_are;
      holds = y.holds;
      looked = omega (arith, y.looked, s.looked);
      reads = λ n m text like.
          let z = y.reads n (omega (arith, s.looked, m)) text like in
          (z.0, (z.1, (over n m z.0 z.2.like).0 refl), moves_then n a.cursor b.cursor c.cursor text z.0 z.0 z.2 (moves_same n b.cursor c.cursor z.0 s.cursor_is z.2.like));
    }
whole_answers a read b false c all x s over =
    let y = answers_yes (PartChosen 16 a.prefix.now part.Program) a read b all x in
    record {
      looked = omega (arith, y.looked, s.looked);
      unread = λ n m text like f rest w.
          let z = y.reads n (omega (arith, s.looked, m)) text like in
          let e = part_once 16 a.prefix.now part.Program f y.forest text rest z.0 w.0 z.1 in
          false≢true ((over n m z.0 z.2.like).1 (subst (λ (t : List ℕ). settled t ≡ []) e.1 w.1));
    }

-- a part is one tree
one_tree : (depth : ℕ) (prefix : List ℕ) (p : Part) (f : Forest) (text rest : List ℕ) → PartChosen depth prefix p f text rest → (c : Content) × (below : Forest) × (f ≡ tree c below bare)
unfolding PartChosen
one_tree zero prefix p f text rest x = absurd x
one_tree (suc depth) prefix p f text rest x = (grown p x.0, x.1, x.2)

-- a program
pub program_chosen : (text : List ℕ) (old : Reader) (read : Bool) (new : Reader) (program : Program) → read ≡ true → AnswersTrees (WholeChosen old.prefix.now) old read new → old.entries.items ≡ [] →
    ((n : ℕ) → Like n old.cursor text) → program.prefix ≡ old.prefix.now → program.entries.items ≡ new.entries.items → ShowsPrefix program.prefix text → IsChosen text program
program_chosen text old read new program all x none like prefix entries shows =
    let y = answers_yes (WholeChosen old.prefix.now) old read new all x in
    let z = y.reads new.looked (omega arith) text (like new.looked) in
    let f = one_tree 16 old.prefix.now part.Program y.forest text z.0 z.1.0 in
    let es : program.entries.items ≡ y.more = entries ∙ y.entries_are ∙ ap (λ l. l ++ y.more) none in
    let is : whole program.entries.items ≡ y.forest = ap whole es ∙ whole_one y.more f.0 f.1 (holds_alone y.more y.forest y.holds ∙ f.2) ∙ sym f.2 in
    record {
      rest = z.0;
      shows = shows;
      reads = subst (λ (w : Forest). WholeChosen program.prefix w text z.0) (sym is) (subst (λ (p : List ℕ). WholeChosen p y.forest text z.0) (sym prefix) z.1);
    }

-- the prefix that a text shows, or the one that stands for none
read_under : (text : List ℕ) (shown : Option (Bor (List ℕ))) (none prefix : Bor (List ℕ)) → none.now ≡ codes "__" → MatchOption shown ((p : List ℕ) → ShowsPrefix p text → ⊥) (λ x. ShowsPrefix x.now text) →
    prefix ≡ unwrap_or shown none → IsReadUnder text prefix.now
read_under text None none prefix is exact e = inr (ap (λ (p : Bor (List ℕ)). p.now) e ∙ is, exact)
read_under text (Some s) none prefix is exact e = inl (subst (λ (p : List ℕ). ShowsPrefix p text) (sym (ap (λ (p : Bor (List ℕ)). p.now) e)) exact)

-- no program, under the prefix that the text is read under
pub program_refused : (text : List ℕ) (old new : Reader) (shown : Option (Bor (List ℕ))) (none : Bor (List ℕ)) → none.now ≡ codes "__" → IsUtf8 text → length text < 2 ^ 64 →
    MatchOption shown ((p : List ℕ) → ShowsPrefix p text → ⊥) (λ x. ShowsPrefix x.now text) → old.prefix ≡ unwrap_or shown none → NoneRead (WholeChosen old.prefix.now) old new →
    old.cursor.text.now ≡ text → left old.cursor ≡ text → IsRefused text (fault.NoForm new.looked)
program_refused text old new shown none is u size exact prefix unread same all numbers = (
  old.prefix.now,
  read_under text shown none old.prefix is exact prefix,
  λ other v lines program e x.
      let like = like_first new.looked old.cursor text other same all u size (numbers_fit text size numbers) v lines in
      let reads : WholeChosen old.prefix.now (whole program.entries.items) other x.rest = subst (λ (p : List ℕ). WholeChosen p (whole program.entries.items) other x.rest) e x.reads in
      unread.unread new.looked (omega arith) other like (whole program.entries.items) x.rest reads,
)

-- nothing is read under the prefix that stands for none, where none is shown
pub none_shown : (text : List ℕ) (old : Reader) (read : Bool) (new : Reader) (shown : Option (Bor (List ℕ))) (none : Bor (List ℕ)) → none.now ≡ codes "__" → is_prefix none.now ≡ true → IsUtf8 text → length text < 2 ^ 64 →
    MatchOption shown ((p : List ℕ) → ShowsPrefix p text → ⊥) (λ x. ShowsPrefix x.now text) → shown ≡ None → old.prefix ≡ unwrap_or shown none → read ≡ true → AnswersTrees (WholeChosen old.prefix.now) old read new →
    old.cursor.text.now ≡ text → left old.cursor ≡ text → IsRefused text (fault.NoForm new.looked)
none_shown text old read new shown none is fits u size exact nothing prefix all x same whole_left numbers =
    let y = answers_yes (WholeChosen old.prefix.now) old read new all x in
    let like = like_first new.looked old.cursor text text same whole_left u size (numbers_fit text size numbers) u refl in
    let z = y.reads new.looked (omega arith) text like in
    let at : old.prefix.now ≡ none.now = ap (λ (p : Bor (List ℕ)). p.now) (prefix ∙ ap (λ (o : Option (Bor (List ℕ))). unwrap_or o none) nothing) in
    let shows : ShowsPrefix none.now text = chosen_shows 16 none.now y.forest text z.0 fits (subst (λ (p : List ℕ). PartChosen 16 p part.Program y.forest text z.0) at z.1.0) in
    let not : (p : List ℕ) → ShowsPrefix p text → ⊥ = subst (λ (o : Option (Bor (List ℕ))). MatchOption o ((p : List ℕ) → ShowsPrefix p text → ⊥) (λ x. ShowsPrefix x.now text)) nothing exact in
    absurd (not none.now shows)

pub read_none : (old : Reader) (read : Bool) (new : Reader) → read ≡ false → AnswersTrees (WholeChosen old.prefix.now) old read new → NoneRead (WholeChosen old.prefix.now) old new
read_none old read new none x = answers_no (WholeChosen old.prefix.now) old read new none x

-- a text that is refused is one with the same lines: no program is chosen in it
pub refused_itself : (text : List ℕ) (line : ℕ) → IsUtf8 text → IsRefused text (fault.NoForm line) → (program : Program) → IsChosen text program → ⊥
refused_itself text line u refused program x =
    let r = refused (λ empty. absurd (shows_none program.prefix text empty x.shows)) in
    let same : program.prefix ≡ r.0 = elim r.1 [
      | inl shows ↦ prefix_once program.prefix r.0 text x.shows shows
      | inr none ↦ absurd (none.1 program.prefix x.shows)
    ] in
    r.2 text u refl program same x
