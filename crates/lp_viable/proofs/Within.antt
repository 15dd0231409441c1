-- Where a text stops within what a step itself takes, that can be completed.
use Rattle.std.proofs.Common.{◌≡◌, ℕ, false, true, List, [], ◌∷◌, ◌++◌, length, drop, codes, Some, refl, sym, ap, ◌∙◌, subst, arith, append_assoc}
use Rattle.std.specs.Str.{IsUtf8}
use Rattle.std.proofs.lemmas.List.{append_cancel_right, take_at}
use Rattle.std.proofs.lemmas.Str.{IsUtf8-append, IsUtf8-take, IsCharBoundary-at_seam}
use Rattle.lp_form.specs.Templates.{Piece}
use Rattle.lp_form.specs.declared.template.Step.{Step}
use Rattle.lp_form.specs.declared.template.Step.TheVariants as step
use Rattle.lp_spelling.specs.Counting.{settled}
use Rattle.lp_spelling.specs.Lines.{line_of}
use Rattle.lp_spelling.specs.TableReading.{entries}
use Rattle.lp_spelling.proofs.Reading.{starts_ok}
use Rattle.lp_local.proofs.Settling.{Left, settled_left, behind_byte, before_byte}
use Rattle.lp_program.specs.CodeReading.{IsUse, IsCode}
use Rattle.lp_program.specs.OwnLines.{hole}
use Rattle.lp_program.specs.Reads.{TakesLine, TakesLines, TakesOwn}
use Rattle.lp_program.specs.Trees.{Content}
use Rattle.lp_reading_laws.proofs.Printing.Own.{Own, ready_same, ready_is, settled_feed}
use Rattle.lp_viable.proofs.Moving.{nothing_utf8, feed_utf8, lines_left, LinesMoved, lines_moved, code_moved, use_moved}
use Rattle.lp_viable.proofs.TableMoved.{entries_moved}
use Rattle.lp_viable.proofs.Behind.{entries_close}

-- what must stand behind: `}` behind user code, `]` behind a table
abbrev pub Opens : Step → List ℕ → Type 0
Opens step.Code q = (r : List ℕ) × (q ≡ 125 ∷ r)
Opens step.Entries q = (r : List ℕ) × (q ≡ 93 ∷ r)
Opens _ q = Unit {0}

pub record OwnMoved (prefix : List ℕ) (c : Content) (count : ℕ) (pieces : List Piece) (s : Step) (text : List ℕ) : Type 0 where
  pub more : List ℕ
  pub utf8 : IsUtf8 more
  pub again : (q : List ℕ) → Opens s q → Own prefix c count pieces s (text ++ (more ++ q)) q

join : (text more m q : List ℕ) → text ++ ((more ++ m) ++ q) ≡ (text ++ more) ++ (m ++ q)
join text more m q = ap (λ (x : List ℕ). text ++ x) (append_assoc more m q) ∙ sym (append_assoc text more (m ++ q))

nothing_front : (a b : List ℕ) → a ++ b ≡ [] → a ≡ []
nothing_front [] b e = refl
nothing_front (c ∷ a) b e = absurd cc

none_of : (text more rest : List ℕ) → rest ≡ text ++ (more ++ rest) → text ≡ []
none_of text more rest e = nothing_front text more (append_cancel_right (text ++ more) [] rest (append_assoc text more rest ∙ sym e))

stays : (text q : List ℕ) → text ≡ [] → q ≡ text ++ ([] ++ q)
stays text q e = sym (ap (λ (x : List ℕ). x ++ q) e)

-- in front of a text, the front of a text is a text
front_text : (more rest : List ℕ) → IsUtf8 (more ++ rest) → IsUtf8 rest → IsUtf8 more
front_text more rest u v = subst (λ (x : List ℕ). IsUtf8 x) (take_at more rest (length more) refl) (IsUtf8-take (more ++ rest) (length more) u (IsCharBoundary-at_seam (more ++ rest) more rest refl v))

lines_front : (n : ℕ) (line text more rest : List ℕ) → IsUtf8 text → IsUtf8 (more ++ rest) → TakesLines n line (text ++ (more ++ rest)) rest → IsUtf8 more
lines_front n line text more rest u v t = let l : Left (text ++ (more ++ rest)) rest = lines_left n line (text ++ (more ++ rest)) rest (IsUtf8-append text (more ++ rest) u v) t in front_text more rest v l.utf8

use_front : (used text more rest : List ℕ) → IsUtf8 text → IsUtf8 (more ++ rest) → IsUse (text ++ (more ++ rest)) used rest → IsUtf8 more
use_front used text more rest u v t =
    let l : Left (text ++ (more ++ rest)) (settled (text ++ (more ++ rest))) = settled_left (text ++ (more ++ rest)) (IsUtf8-append text (more ++ rest) u v) in
    let whole : settled (text ++ (more ++ rest)) ≡ (codes "use " ++ used) ++ 59 ∷ rest = t.front ∙ sym (append_assoc (codes "use ") used (codes ";" ++ rest)) in
    front_text more rest v (behind_byte (codes "use " ++ used) 59 rest (omega arith) (subst (λ (x : List ℕ). IsUtf8 x) whole l.utf8))

pub own_moved : (prefix : List ℕ) (c : Content) (count : ℕ) (pieces : List Piece) (s : Step) (text more rest : List ℕ) → IsUtf8 text → IsUtf8 (more ++ rest) → TakesOwn prefix c count pieces s (text ++ (more ++ rest)) rest →
    OwnMoved prefix c count pieces s text
own_moved prefix c count pieces (step.Line b) text more rest u v t =
    let line : List ℕ = line_of prefix c.holes pieces in
    let w : List ℕ = text ++ more in
    let there : w ++ rest ≡ text ++ (more ++ rest) = append_assoc text more rest in
    let m : LinesMoved 1 line w =
    lines_moved 1 line w rest (subst (λ (x : List ℕ). IsUtf8 x) (sym there) (IsUtf8-append text (more ++ rest) u v)) (rest, subst (λ (x : List ℕ). TakesLine line x rest) (sym there) t, refl) in
    record {
      more = more ++ m.more;
      utf8 = IsUtf8-append more m.more (lines_front 1 line text more rest u v (rest, t, refl)) m.utf8;
      again = λ q o.
          (let a = m.again q in
          record {
            rest = q;
            takes = subst (λ (x : List ℕ). TakesLine line x q) (sym (join text more m.more q)) (subst (λ (x : List ℕ). TakesLine line (w ++ (m.more ++ q)) x) (sym a.2) a.1);
            ready = ready_is true q;
          });
    }
own_moved prefix c count pieces (step.Each b) text more rest u v t =
    let line : List ℕ = line_of prefix c.holes pieces in
    let w : List ℕ = text ++ more in
    let there : w ++ rest ≡ text ++ (more ++ rest) = append_assoc text more rest in
    let m : LinesMoved count line w =
    lines_moved count line w rest (subst (λ (x : List ℕ). IsUtf8 x) (sym there) (IsUtf8-append text (more ++ rest) u v)) (subst (λ (x : List ℕ). TakesLines count line x rest) (sym there) t) in
    record {
      more = more ++ m.more;
      utf8 = IsUtf8-append more m.more (lines_front count line text more rest u v t) m.utf8;
      again = λ q o. record {
        rest = q;
        takes = subst (λ (x : List ℕ). TakesLines count line x q) (sym (join text more m.more q)) (m.again q);
        ready = ready_is false q;
      };
    }
own_moved prefix c count pieces step.Use text more rest u v t =
    let w : List ℕ = text ++ more in
    let there : w ++ rest ≡ text ++ (more ++ rest) = append_assoc text more rest in
    let whole : IsUtf8 (w ++ rest) = subst (λ (x : List ℕ). IsUtf8 x) (sym there) (IsUtf8-append text (more ++ rest) u v) in
    record {
      more = more ++ 10 ∷ [];
      utf8 = IsUtf8-append more (10 ∷ []) (use_front (hole c 0) text more rest u v t) feed_utf8;
      again = λ q o. record {
        rest = 10 ∷ q;
        takes = subst (λ (x : List ℕ). IsUse x (hole c 0) (10 ∷ q)) (sym (join text more (10 ∷ []) q)) (use_moved w (hole c 0) rest q whole (subst (λ (x : List ℕ). IsUse x (hole c 0) rest) (sym there) t));
        ready = ready_same (10 ∷ q) q (settled_feed q);
      };
    }
own_moved prefix c count pieces step.Code text more rest u v t =
    let w : List ℕ = text ++ more in
    let r : List ℕ = drop 1 rest in
    let rest_is : rest ≡ 125 ∷ r = starts_ok (codes "}") rest t.closes in
    let there : text ++ (more ++ rest) ≡ w ++ 125 ∷ r = sym (append_assoc text more rest) ∙ ap (λ (x : List ℕ). w ++ x) rest_is in
    let whole : IsUtf8 (w ++ 125 ∷ r) = subst (λ (x : List ℕ). IsUtf8 x) there (IsUtf8-append text (more ++ rest) u v) in
    let code : IsCode (w ++ 125 ∷ r) (hole c 0) (125 ∷ r) = subst (λ (x : List ℕ). IsCode (w ++ 125 ∷ r) (hole c 0) x) rest_is (subst (λ (x : List ℕ). IsCode x (hole c 0) rest) there t) in
    record {
      more = more;
      utf8 = before_byte more 125 r (omega arith) (subst (λ (x : List ℕ). IsUtf8 (more ++ x)) rest_is v);
      again = λ q o.
          (let moved : IsCode (w ++ q) (hole c 0) q = subst (λ (x : List ℕ). IsCode (w ++ x) (hole c 0) x) (sym o.1) (code_moved w (hole c 0) r o.0 whole code) in
          record { rest = q; takes = subst (λ (x : List ℕ). IsCode x (hole c 0) q) (append_assoc text more q) moved; ready = ready_is false q });
    }
own_moved prefix c count pieces step.Entries text more rest u v t =
    let w : List ℕ = text ++ more in
    let at = entries_close (text ++ (more ++ rest)) c.numbers rest t in
    let there : text ++ (more ++ rest) ≡ w ++ 93 ∷ at.0 = sym (append_assoc text more rest) ∙ ap (λ (x : List ℕ). w ++ x) at.1 in
    let whole : IsUtf8 (w ++ 93 ∷ at.0) = subst (λ (x : List ℕ). IsUtf8 x) there (IsUtf8-append text (more ++ rest) u v) in
    let table : entries (w ++ 93 ∷ at.0) ≡ Some (c.numbers, 93 ∷ at.0) = ap entries (sym there) ∙ t ∙ ap (λ (x : List ℕ). Some (c.numbers, x)) at.1 in
    record {
      more = more;
      utf8 = before_byte more 93 at.0 (omega arith) (subst (λ (x : List ℕ). IsUtf8 (more ++ x)) at.1 v);
      again = λ q o.
          (let moved : entries (w ++ q) ≡ Some (c.numbers, q) = subst (λ (x : List ℕ). entries (w ++ x) ≡ Some (c.numbers, x)) (sym o.1) (entries_moved w at.0 o.0 c.numbers whole table) in
          record { rest = q; takes = ap entries (sym (append_assoc text more q)) ∙ moved; ready = ready_is false q });
    }
own_moved prefix c count pieces step.Empty text more rest u v t = record { more = []; utf8 = nothing_utf8; again = λ q o. record { rest = q; takes = stays text q (none_of text more rest t); ready = ready_is false q } }
own_moved prefix c count pieces step.Note text more rest u v t = record { more = []; utf8 = nothing_utf8; again = λ q o. record { rest = q; takes = stays text q (none_of text more rest t); ready = ready_is false q } }
own_moved prefix c count pieces step.NoteAlways text more rest u v t = record { more = []; utf8 = nothing_utf8; again = λ q o. record { rest = q; takes = stays text q (none_of text more rest t); ready = ready_is false q } }
own_moved prefix c count pieces (step.One class) text more rest u v t = record { more = []; utf8 = nothing_utf8; again = λ q o. record { rest = q; takes = stays text q (none_of text more rest t); ready = ready_is false q } }
own_moved prefix c count pieces (step.Optional class) text more rest u v t = record { more = []; utf8 = nothing_utf8; again = λ q o. record { rest = q; takes = stays text q (none_of text more rest t); ready = ready_is false q } }
own_moved prefix c count pieces (step.Many class) text more rest u v t = record { more = []; utf8 = nothing_utf8; again = λ q o. record { rest = q; takes = stays text q (none_of text more rest t); ready = ready_is false q } }
own_moved prefix c count pieces (step.Some class) text more rest u v t = record { more = []; utf8 = nothing_utf8; again = λ q o. record { rest = q; takes = stays text q (none_of text more rest t); ready = ready_is false q } }
own_moved prefix c count pieces (step.Pairs first second) text more rest u v t = record { more = []; utf8 = nothing_utf8; again = λ q o. record { rest = q; takes = stays text q (none_of text more rest t); ready = ready_is false q } }
