-- The prefix that a text shows: it is one, and what a reader has left of a text shows what the text shows.
use Rattle.std.proofs.Common.{◌≡◌, ℕ, suc, ◌+◌, ◌^◌, ◌≤◌, ◌<◌, ◌==◌, Bool, true, false, cond, Option, Some, None, Bor, MatchOption, IfSome, inl, inr, List, [], ◌∷◌, ◌++◌, length, codes, drop, take, refl, sym, ap, ◌∙◌, arith, eqb, ltb, append_assoc, length-append, length-drop, subst}
use Rattle.std.specs.List.{starts_with}
use Rattle.std.specs.Str.{IsUtf8, chars, trim_start}
use Rattle.std.proofs.lemmas.Bool.{and_parts, cases_Bool, cases_lt, eqb-true, false_from_ne_true, false≢true}
use Rattle.std.proofs.lemmas.List.{append_cancel_left, append_cancel_right, nil_from_length}
use Rattle.std.proofs.lemmas.List.Sums.{count_by-le-length}
use Rattle.std.proofs.lemmas.Str.{IsUtf8-drop}
use Rattle.lp_texts.specs.Identifiers.{is_identifier}
use Rattle.lp_spelling.specs.Counting.{is_text, is_skipped, feeds, settled, front_line, behind_line as after_line, line_len}
use Rattle.lp_spelling.specs.Cursors.{left}
use Rattle.lp_spelling.specs.declared.cursor.Cursor.{Cursor}
use Rattle.lp_local.proofs.Agreeing.{feeds_feed, feeds_text}
use Rattle.lp_spelling.proofs.Counting.{settled_none, settled_skips}
use Rattle.lp_spelling.proofs.Reading.{starts_again, starts_ok}
use Rattle.lp_program.specs.Choosing.{HasNumbers}
use Rattle.lp_program.specs.CodeReading.{IsUse}
use Rattle.lp_program.specs.Prefixes.{renaming, renamed, ShowsPrefix}
use Rattle.lp_program.specs.Prefixes.ShowsPrefix.{shown, behind_use, behind_line}
use Rattle.lp_program.specs.Reads.{TakesLine, is_prefix}
use Rattle.lp_program.proofs.Cuts.{use_once}
use Rattle.lp_program.proofs.Settling.{settled_short}

-- a line in front of a use begins as one
text_front : (b : ℕ) (x : List ℕ) → is_text b ≡ true → front_line (b ∷ x) ≡ b ∷ front_line x
text_front b x t =
    let more : 1 + line_len x ≡ suc (line_len x) = omega arith in
    ap (λ (y : Bool). take (cond y (1 + line_len x) 0) (b ∷ x)) t ∙ ap (λ (n : ℕ). take n (b ∷ x)) more

use_front : (x : List ℕ) → front_line (codes "use " ++ x) ≡ codes "use " ++ front_line x
use_front x =
    text_front 117 (115 ∷ 101 ∷ 32 ∷ x) refl
    ∙ ap (λ (l : List ℕ). 117 ∷ l)
    (text_front 115 (101 ∷ 32 ∷ x) refl ∙ ap (λ (l : List ℕ). 115 ∷ l) (text_front 101 (32 ∷ x) refl ∙ ap (λ (l : List ℕ). 101 ∷ l) (text_front 32 x refl)))

pub use_begins : (text used rest : List ℕ) → IsUse text used rest → starts_with eqb (front_line (settled text)) (codes "use ") ≡ true
use_begins text used rest u =
    let behind : List ℕ = used ++ (codes ";" ++ rest) in
    ap (λ (t : List ℕ). starts_with eqb (front_line t) (codes "use ")) u.front ∙ ap (λ (t : List ℕ). starts_with eqb t (codes "use ")) (use_front behind) ∙ starts_again (codes "use ") (front_line behind)

-- a use stands in no line that renames the crate, nor in another
use_renames : (prefix text used rest other : List ℕ) → IsUse text used rest → TakesLine (renaming ++ renamed prefix) text other → ⊥
use_renames prefix text used rest other u t =
    false≢true (ap (λ (l : List ℕ). starts_with eqb l (codes "use ")) (sym t.line_is) ∙ use_begins text used rest u)

use_lines : (text used rest line other : List ℕ) → IsUse text used rest → TakesLine line text other → starts_with eqb line (codes "use ") ≡ false → ⊥
use_lines text used rest line other u t n =
    false≢true (sym n ∙ ap (λ (l : List ℕ). starts_with eqb l (codes "use ")) (sym t.line_is) ∙ use_begins text used rest u)

renames_lines : (prefix text line rest other : List ℕ) → TakesLine (renaming ++ renamed prefix) text other → TakesLine line text rest → starts_with eqb line renaming ≡ false → ⊥
renames_lines prefix text line rest other r t n =
    let same : line ≡ renaming ++ renamed prefix = sym t.line_is ∙ r.line_is in
    false≢true (sym n ∙ ap (λ (l : List ℕ). starts_with eqb l renaming) same ∙ starts_again renaming (renamed prefix))

same_prefix : (a b : List ℕ) → renaming ++ renamed a ≡ renaming ++ renamed b → a ≡ b
same_prefix a b e = append_cancel_right a b (codes "lalrpop_util;") (append_cancel_left renaming (renamed a) (renamed b) e)

-- what a text shows, by its next line
pub shows_line : (prefix other text rest : List ℕ) → TakesLine (renaming ++ renamed other) text rest → ShowsPrefix prefix text → (prefix ≡ other) × (is_prefix prefix ≡ true)
shows_line prefix other _ rest t (shown text x line is) = (same_prefix prefix other (sym line.line_is ∙ t.line_is), is)
shows_line prefix other _ rest t (behind_use text used x u v more) = absurd (use_renames other text used x rest u t)
shows_line prefix other _ rest t (behind_line text line x l n m more) = absurd (renames_lines other text line x rest t l m)

pub shows_use : (prefix text used rest : List ℕ) → IsUse text used rest → IsUtf8 rest → ShowsPrefix prefix text → ShowsPrefix prefix rest
shows_use prefix _ used rest u v (shown text x line is) = absurd (use_renames prefix text used rest x u line)
shows_use prefix _ used rest u v (behind_use text other x w y more) = subst (λ (r : List ℕ). ShowsPrefix prefix r) (sym (use_once text used other rest x v y u w).1) more
shows_use prefix _ used rest u v (behind_line text line x l n m more) = absurd (use_lines text used rest line x u l n)

pub shows_other : (prefix text line rest : List ℕ) → TakesLine line text rest → starts_with eqb line (codes "use ") ≡ false → starts_with eqb line renaming ≡ false → ShowsPrefix prefix text → ShowsPrefix prefix rest
shows_other prefix _ line rest t n m (shown text x at is) = absurd (renames_lines prefix text line rest x at t m)
shows_other prefix _ line rest t n m (behind_use text used x u v more) = absurd (use_lines text used x line rest u t n)
shows_other prefix _ line rest t n m (behind_line text other x l o p more) = subst (λ (r : List ℕ). ShowsPrefix prefix r) (l.rest_is ∙ sym t.rest_is) more

-- a line that begins as a use, and is none
pub shows_no_use : (prefix text line rest : List ℕ) → TakesLine line text rest → starts_with eqb line (codes "use ") ≡ true → ((used x : List ℕ) → IsUtf8 x → IsUse text used x → ⊥) → ShowsPrefix prefix text → ⊥
shows_no_use prefix _ line rest t b none (shown text x at is) = false≢true (ap (λ (l : List ℕ). starts_with eqb l (codes "use ")) (sym at.line_is ∙ t.line_is) ∙ b)
shows_no_use prefix _ line rest t b none (behind_use text used x u v more) = none used x v u
shows_no_use prefix _ line rest t b none (behind_line text other x l o p more) = false≢true (sym o ∙ ap (λ (y : List ℕ). starts_with eqb y (codes "use ")) (sym l.line_is ∙ t.line_is) ∙ b)

use_renamed : (line : List ℕ) → starts_with eqb line renaming ≡ true → starts_with eqb line (codes "use ") ≡ true → ⊥
use_renamed line a b = false≢true (ap (λ (l : List ℕ). starts_with eqb l (codes "use ")) (sym (starts_ok renaming line a)) ∙ b)

-- a line that begins as one that renames the crate, and is none
pub shows_no_name : (prefix text line rest : List ℕ) → TakesLine line text rest → starts_with eqb line renaming ≡ true → ((x : List ℕ) → line ≡ renaming ++ renamed x → is_prefix x ≡ true → ⊥) → ShowsPrefix prefix text → ⊥
shows_no_name prefix _ line rest t b none (shown text x at is) = none prefix (sym t.line_is ∙ at.line_is) is
shows_no_name prefix _ line rest t b none (behind_use text used x u v more) =
    use_renamed line b (ap (λ (l : List ℕ). starts_with eqb l (codes "use ")) (sym t.line_is) ∙ use_begins text used x u)
shows_no_name prefix _ line rest t b none (behind_line text other x l o p more) = false≢true (sym p ∙ ap (λ (y : List ℕ). starts_with eqb y renaming) (sym l.line_is ∙ t.line_is) ∙ b)

-- nothing that counts is left
pub shows_none : (prefix text : List ℕ) → settled text ≡ [] → ShowsPrefix prefix text → ⊥
shows_none prefix _ e (shown text x at is) = omega (arith, ap length e, at.some)
shows_none prefix _ e (behind_use text used x u v more) = omega (arith, ap length (sym e ∙ u.front))
shows_none prefix _ e (behind_line text line x l o p more) = omega (arith, ap length e, l.some)

-- a text shows one prefix
pub prefix_once : (a b text : List ℕ) → ShowsPrefix a text → ShowsPrefix b text → a ≡ b
prefix_once a b _ (shown text x line is) other = sym (shows_line b a text x line other).0
prefix_once a b _ (behind_use text used x u v more) other = prefix_once a b x more (shows_use b text used x u v other)
prefix_once a b _ (behind_line text line x l n m more) other = prefix_once a b x more (shows_other b text line x l n m other)

-- of a text as many bytes at least were passed over, and what is left shows what the text shows
pub record ShowsSame (text there : List ℕ) (i : ℕ) : Type 0 where
  pub on : (prefix : List ℕ) → ShowsPrefix prefix there → ShowsPrefix prefix text
  pub back : (prefix : List ℕ) → ShowsPrefix prefix text → ShowsPrefix prefix there
  pub short : length there + i ≤ length text

pub same_start : (text there : List ℕ) → there ≡ text → ShowsSame text there 0
same_start text there e = record {
  on = λ prefix x. subst (λ (t : List ℕ). ShowsPrefix prefix t) e x;
  back = λ prefix x. subst (λ (t : List ℕ). ShowsPrefix prefix t) (sym e) x;
  short = omega (arith, ap length e);
}

pub same_use : (text there used rest : List ℕ) (i : ℕ) → IsUtf8 there → ShowsSame text there i → IsUse there used rest → IsUtf8 rest → ShowsSame text rest (i + 1)
same_use text there used rest i t s u v =
    let behind = length-append used (codes ";" ++ rest) in
    let size = ap length u.front in
    record {
      on = λ prefix x. s.on prefix (behind_use there used rest u v x);
      back = λ prefix x. shows_use prefix there used rest u v (s.back prefix x);
      short = omega (arith, s.short, settled_short there t, size, behind);
    }

pub same_line : (text there line rest : List ℕ) (i : ℕ) → IsUtf8 there → ShowsSame text there i → TakesLine line there rest → starts_with eqb line (codes "use ") ≡ false → starts_with eqb line renaming ≡ false →
    ShowsSame text rest (i + 1)
same_line text there line rest i t s l n m =
    let behind = ap length l.rest_is ∙ length-drop (line_len (settled there) + 1) (settled there) in
    record {
      on = λ prefix x. s.on prefix (behind_line there line rest l n m x);
      back = λ prefix x. shows_other prefix there line rest l n m (s.back prefix x);
      short = omega (arith, s.short, settled_short there t, l.some, behind);
    }

-- all of the text was passed over
pub same_end : (prefix text there : List ℕ) (i : ℕ) → ShowsSame text there i → length text ≤ i → ShowsPrefix prefix text → ⊥
same_end prefix text there i s le x =
    let none : there ≡ [] = nil_from_length there (omega (arith, s.short, le)) in
    shows_none prefix there (ap settled none ∙ settled_none) (s.back prefix x)

-- what is left at a cursor is text
pub cursor_text : (c : Cursor) (text : List ℕ) → c.text.now ≡ text → IsUtf8 text → IsUtf8 (left c)
cursor_text c text e u = IsUtf8-drop c.text.now c.raw (subst IsUtf8 (sym e) u) c.raw_in

-- a name that ends as such a line, and the prefix that it has
pub renamed_is : (all name prefix : List ℕ) → all ≡ name ++ codes ";" → name ≡ prefix ++ codes "lalrpop_util" → all ≡ renamed prefix
renamed_is all name prefix e n = e ∙ ap (λ (x : List ℕ). x ++ codes ";") n ∙ append_assoc prefix (codes "lalrpop_util") (codes ";")

pub name_cut : (all name prefix : List ℕ) → all ≡ name ++ codes ";" → all ≡ renamed prefix → name ≡ prefix ++ codes "lalrpop_util"
name_cut all name prefix e r = append_cancel_right name (prefix ++ codes "lalrpop_util") (codes ";") (sym e ∙ r ∙ sym (append_assoc prefix (codes "lalrpop_util") (codes ";")))

pub prefix_cut : (a b name : List ℕ) → name ≡ a ++ codes "lalrpop_util" → name ≡ b ++ codes "lalrpop_util" → a ≡ b
prefix_cut a b name e f = append_cancel_right a b (codes "lalrpop_util") (sym e ∙ f)

-- what is no prefix
pub empty_prefix : (a b : List ℕ) → a ≡ b → (length a == 0) ≡ true → is_prefix b ≡ true → ⊥
empty_prefix a b e none is = none_is a none (subst (λ (x : List ℕ). is_prefix x ≡ true) (sym e) is)
  where
    none_is : (x : List ℕ) → (length x == 0) ≡ true → is_prefix x ≡ true → ⊥
    none_is [] h p = false≢true p
    none_is (y ∷ x) h p = omega (arith, eqb-true (length (y ∷ x)) 0 h)

pub unnamed_prefix : (prefix name : List ℕ) → name ≡ prefix ++ codes "lalrpop_util" → is_identifier name ≡ false → is_prefix prefix ≡ true → ⊥
unnamed_prefix prefix name e word is =
    let p = and_parts (ltb 0 (length prefix)) (is_identifier (prefix ++ codes "lalrpop_util")) is in
    false≢true (sym word ∙ ap is_identifier e ∙ p.1)

-- a line that stands there
pub line_there : (line there rest : List ℕ) → line ≡ front_line (settled there) → 0 < length (settled there) → rest ≡ after_line (settled there) → TakesLine line there rest
line_there line there rest e some r = record { some = some; line_is = sym e; rest_is = r }

pub not_starts : (front text : List ℕ) → ((rest : List ℕ) → text ≡ front ++ rest → ⊥) → starts_with eqb text front ≡ false
not_starts front text none = false_from_ne_true (starts_with eqb text front) (λ h. none (drop (length front) text) (starts_ok front text h))

-- a line that renames the crate shows what its name shows
pub name_answered : (text there line rest name : List ℕ) (i : ℕ) (r : Option (Bor (List ℕ))) → ShowsSame text there i → TakesLine line there rest → line ≡ renaming ++ name →
    MatchOption r ((prefix : List ℕ) → name ≡ renamed prefix → is_prefix prefix ≡ true → ⊥) (λ p. name ≡ renamed p.now) → IfSome r (λ p. is_prefix p.now ≡ true) →
    MatchOption r ((prefix : List ℕ) → ShowsPrefix prefix text → ⊥) (λ p. ShowsPrefix p.now text)
name_answered text there line rest name i None s t at e f = λ prefix x.
    let begins : starts_with eqb line renaming ≡ true = ap (λ (l : List ℕ). starts_with eqb l renaming) at ∙ starts_again renaming name in
    shows_no_name prefix there line rest t begins (λ y same is. e y (append_cancel_left renaming name (renamed y) (sym at ∙ same)) is) (s.back prefix x)
name_answered text there line rest name i (Some p) s t at e f =
    s.on p.now (shown there rest (subst (λ (l : List ℕ). TakesLine l there rest) (at ∙ ap (λ (x : List ℕ). renaming ++ x) e) t) f)

-- in a text of line feeds alone nothing counts, and so no prefix is shown
pub none_skipped : is_skipped (trim_start []) ≡ true
unfolding trim_start chars
none_skipped = refl

pub only_feeds : (text : List ℕ) → feeds text ≡ length text → settled text ≡ []
only_feeds [] e = settled_none
only_feeds (b ∷ text) e = elim (cases_Bool (b == 10)) [
  | inl y ↦
      let is : b ≡ 10 = eqb-true b 10 y in
      let count = feeds_feed b text y in
      subst (λ (c : ℕ). settled (c ∷ text) ≡ []) (sym is) (settled_skips (10 ∷ text) (omega arith) none_skipped ∙ only_feeds text (omega (arith, count, e)))
  | inr z ↦ (let count = feeds_text b text z in let few = count_by-le-length (λ c. c == 10) text in absurd (omega (arith, count, few, e)))
]

-- the lines of a text that has numbers can be counted
pub numbers_fit : (text : List ℕ) → length text < 2 ^ 64 → HasNumbers text → feeds text + 1 < 2 ^ 64
numbers_fit text size numbers =
    let few = count_by-le-length (λ c. c == 10) text in
    elim (cases_lt (feeds text) (length text)) [
      | inl lt ↦ omega (arith, lt, size)
      | inr le ↦ numbers (only_feeds text (omega (arith, few, le)))
    ]

pub shows_counted : (prefix text : List ℕ) → length text < 2 ^ 64 → ShowsPrefix prefix text → feeds text + 1 < 2 ^ 64
shows_counted prefix text size shows = numbers_fit text size (λ empty. absurd (shows_none prefix text empty shows))
