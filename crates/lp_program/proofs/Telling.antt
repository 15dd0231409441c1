-- What is told of a part by a line, by lines of one spelling, and by a text of its own.
use Rattle.std.proofs.Common.{◌≡◌, ℕ, suc, ◌+◌, ◌-◌, ◌^◌, ◌<◌, ◌≤◌, ◌==◌, ◌&&◌, min, Bool, true, false, List, [], ◌∷◌, ◌++◌, length, drop, Option, Some, None, IfSome, Result, Ok, Err, MatchResult, refl, sym, ap, ◌∙◌, arith, subst}
use Rattle.std.specs.Str.{IsUtf8}
use Rattle.std.proofs.lemmas.Bool.{and_from, and_parts, eq-eqb, eqb-true, false≢true}
use Rattle.std.proofs.lemmas.List.{nil_from_length}
use Rattle.lp_form.specs.Templates.{Piece, holes_of}
use Rattle.lp_form.specs.declared.part.Part.{Part}
use Rattle.lp_form.specs.declared.template.Kind.{Kind}
use Rattle.lp_form.specs.declared.template.Step.{Step}
use Rattle.lp_form.specs.declared.template.Step.TheVariants as step
use Rattle.lp_spelling.specs.Counting.{settled, front_line, behind_line}
use Rattle.lp_spelling.specs.Cursors.{left, IsTaken}
use Rattle.lp_spelling.specs.declared.cursor.Cursor.{Cursor}
use Rattle.lp_spelling.specs.LineReading.{line_at, ReadsLine}
use Rattle.lp_program.specs.declared.read.growing.Growing.{Growing}
use Rattle.lp_program.specs.CodeReading.{IsUse, IsCode}
use Rattle.lp_program.specs.Nearby.{next_number, Like, Moves, EachTaken}
use Rattle.lp_program.specs.Taking.{IsCutLine}
use Rattle.lp_program.specs.Telling.{Told, told, TellsLine, TellsLines, TellsText, NotTold, AnswersPlace, AnswersLines, AnswersOwn, StepTells}
use Rattle.lp_program.proofs.Nearby.{code_like, line_like, no_code_like, no_line_like, no_use_like, use_like, moves_none, moves_then, number_grows}
use Rattle.lp_program.proofs.Once.{line_once}

-- the line in front is read, or is not; or there is none
pub line_told : (prefix : List ℕ) (kinds : List Kind) (pieces : List Piece) (old new : Told) (l text rest : List ℕ) (b : Bool) → b ≡ true → l ≡ front_line (settled text) → 0 < length (settled text) →
    rest ≡ behind_line (settled text) → new ≡ record old { holes = new.holes } → ReadsLine prefix kinds old.holes new.holes (line_at prefix kinds pieces old.holes l) b → TellsLine prefix kinds pieces old new text rest
line_told prefix kinds pieces old new l text rest b is e some r o x =
    let read : ReadsLine prefix kinds old.holes new.holes (line_at prefix kinds pieces old.holes l) true
    = subst (λ (c : Bool). ReadsLine prefix kinds old.holes new.holes (line_at prefix kinds pieces old.holes l) c) is x in
    record { line = l; takes = record { some = some; line_is = sym e; rest_is = r }; reads = read.0; fills = read.1; others = o }

pub line_not : (prefix : List ℕ) (kinds : List Kind) (pieces : List Piece) (old : Told) (holes : List (List ℕ)) (l text : List ℕ) (b : Bool) → b ≡ false → l ≡ front_line (settled text) →
    ReadsLine prefix kinds old.holes holes (line_at prefix kinds pieces old.holes l) b → NotTold (λ x left. TellsLine prefix kinds pieces old x text left)
line_not prefix kinds pieces old holes l text b is e r x left t =
    let read : ReadsLine prefix kinds old.holes holes (line_at prefix kinds pieces old.holes l) false
    = subst (λ (c : Bool). ReadsLine prefix kinds old.holes holes (line_at prefix kinds pieces old.holes l) c) is r in
    read x.holes (ap (line_at prefix kinds pieces old.holes) (e ∙ t.takes.line_is) ∙ t.reads) t.fills

pub no_line : (prefix : List ℕ) (kinds : List Kind) (pieces : List Piece) (old : Told) (text : List ℕ) → settled text ≡ [] → NotTold (λ x left. TellsLine prefix kinds pieces old x text left)
no_line prefix kinds pieces old text e x left t = omega (arith, ap length e, t.takes.some)

-- of so many lines some are read: the others tell here what all tell
pub record LinesLeft (prefix : List ℕ) (kinds : List Kind) (pieces : List Piece) (count i : ℕ) (first now : Told) (text there : List ℕ) : Type 0 where
  pub on : (new : Told) (rest : List ℕ) → TellsLines (count - i) prefix kinds pieces now new there rest → TellsLines count prefix kinds pieces first new text rest
  pub back : (new : Told) (rest : List ℕ) → TellsLines count prefix kinds pieces first new text rest → TellsLines (count - i) prefix kinds pieces now new there rest

pub lines_start : (prefix : List ℕ) (kinds : List Kind) (pieces : List Piece) (count : ℕ) (first : Told) (text : List ℕ) → LinesLeft prefix kinds pieces count 0 first first text text
lines_start prefix kinds pieces count first text =
    let all : count - 0 ≡ count = omega arith in
    record {
      on = λ new rest x. subst (λ (n : ℕ). TellsLines n prefix kinds pieces first new text rest) all x;
      back = λ new rest x. subst (λ (n : ℕ). TellsLines n prefix kinds pieces first new text rest) (sym all) x;
    }

pub lines_on : (prefix : List ℕ) (kinds : List Kind) (pieces : List Piece) (count i : ℕ) (first now next : Told) (text there behind : List ℕ) → i < count →
    LinesLeft prefix kinds pieces count i first now text there → TellsLine prefix kinds pieces now next there behind → LinesLeft prefix kinds pieces count (i + 1) first next text behind
lines_on prefix kinds pieces count i first now next text there behind lt l t =
    let n : ℕ = count - (i + 1) in
    let more : suc n ≡ count - i = omega arith in
    record {
      on = λ new rest x. l.on new rest (subst (λ (k : ℕ). TellsLines k prefix kinds pieces now new there rest) more (next, behind, t, x));
      back = λ new rest x.
          let y = subst (λ (k : ℕ). TellsLines k prefix kinds pieces now new there rest) (sym more) (l.back new rest x) in
          let same = line_once prefix kinds pieces now y.0 next there y.1 behind y.2 t in
          subst (λ (o : Told). TellsLines n prefix kinds pieces o new behind rest) same.0 (subst (λ (r : List ℕ). TellsLines n prefix kinds pieces y.0 new r rest) same.1 y.3);
    }

pub lines_all : (prefix : List ℕ) (kinds : List Kind) (pieces : List Piece) (count i : ℕ) (first now : Told) (text there : List ℕ) → count ≤ i → LinesLeft prefix kinds pieces count i first now text there →
    TellsLines count prefix kinds pieces first now text there
lines_all prefix kinds pieces count i first now text there le l =
    let none : 0 ≡ count - i = omega arith in
    l.on now there (subst (λ (n : ℕ). TellsLines n prefix kinds pieces now now there there) none (refl, refl))

pub lines_not : (prefix : List ℕ) (kinds : List Kind) (pieces : List Piece) (count i : ℕ) (first now : Told) (text there : List ℕ) → i < count → LinesLeft prefix kinds pieces count i first now text there →
    NotTold (λ x left. TellsLine prefix kinds pieces now x there left) → NotTold (λ x left. TellsLines count prefix kinds pieces first x text left)
lines_not prefix kinds pieces count i first now text there lt l not x left t =
    let more : count - i ≡ suc (count - (i + 1)) = omega arith in
    let y = subst (λ (k : ℕ). TellsLines k prefix kinds pieces now x there left) more (l.back x left t) in
    not y.0 y.1 y.2

-- the same in each text that is like what is left at a cursor
abbrev pub LinesOf : List ℕ → List Kind → List Piece → ℕ → ℕ → Told → Told → Cursor → Cursor → Type 0
LinesOf prefix kinds pieces count i first now c place = (n : ℕ) → next_number place ≤ n → EachTaken n c place (LinesLeft prefix kinds pieces count i first now)

-- an answer on lines of one spelling
abbrev pub AnswersAll : List ℕ → List Kind → List Piece → ℕ → Told → Cursor → Bool → Growing → Cursor → Type 0
AnswersAll prefix kinds pieces count first c all new place = AnswersLines c (λ text x rest. TellsLines count prefix kinds pieces first x text rest) all new place

pub start_of : (prefix : List ℕ) (kinds : List Kind) (pieces : List Piece) (count : ℕ) (first : Told) (c : Cursor) → LinesOf prefix kinds pieces count 0 first first c c
start_of prefix kinds pieces count first c n le text like = (text, lines_start prefix kinds pieces count first text, moves_none n c text like)

pub on_of : (prefix : List ℕ) (kinds : List Kind) (pieces : List Piece) (count i : ℕ) (first now next : Told) (c place behind : Cursor) → i < count → IsTaken c place → LinesOf prefix kinds pieces count i first now c place →
    IsTaken place behind → TellsLine prefix kinds pieces now next (left place) (left behind) → LinesOf prefix kinds pieces count (i + 1) first next c behind
on_of prefix kinds pieces count i first now next c place behind lt same l taken t n le text like =
    let grows = number_grows place behind (subst IsUtf8 (sym same) like.whole) taken t.takes.rest_is in
    let y = l n (omega (arith, grows, le)) text like in
    let z = line_like n place behind y.0 prefix kinds pieces now next t taken (omega (arith, grows, le)) y.2.like in
    (z.0, lines_on prefix kinds pieces count i first now next text y.0 z.0 lt y.1 z.1, moves_then n c place behind text y.0 z.0 y.2 z.2)

pub all_of : (prefix : List ℕ) (kinds : List Kind) (pieces : List Piece) (count i : ℕ) (first : Told) (now : Growing) (c place : Cursor) → count ≤ i → LinesOf prefix kinds pieces count i first (told now) c place →
    AnswersAll prefix kinds pieces count first c true now place
all_of prefix kinds pieces count i first now c place le l n far text like = let y = l n far text like in (y.0, lines_all prefix kinds pieces count i first (told now) text y.0 le y.1, y.2)

pub not_of : (prefix : List ℕ) (kinds : List Kind) (pieces : List Piece) (count i : ℕ) (first now : Told) (new : Growing) (c place : Cursor) → i < count → LinesOf prefix kinds pieces count i first now c place →
    NotTold (λ x rest. TellsLine prefix kinds pieces now x (left place) rest) → AnswersAll prefix kinds pieces count first c false new place
not_of prefix kinds pieces count i first now new c place lt l none n far text like =
    let y = l n far text like in
    lines_not prefix kinds pieces count i first now text y.0 lt y.1 (no_line_like n place y.0 prefix kinds pieces now none far y.2.like)

-- a text of its own is taken, or none is there
pub text_told : (p : Part) (IsText : List ℕ → List ℕ → Type 0) (old new : Told) (text rest : List ℕ) → length (holes_of p) ≡ 0 → length old.holes ≡ 0 → new ≡ record old { holes = old.holes ++ text ∷ [] } →
    IsText text rest → IsUtf8 rest → TellsText p IsText old new rest
text_told p IsText old new text rest bare first e t u = record {
  bare = bare;
  first = first;
  text = text;
  is_text = t;
  behind = u;
  new_is = e ∙ ap (λ (h : List (List ℕ)). record old { holes = h ++ text ∷ [] }) (nil_from_length old.holes first);
}

pub text_not : (p : Part) (IsText : List ℕ → List ℕ → Type 0) (old : Told) → ((text rest : List ℕ) → IsUtf8 rest → IsText text rest → ⊥) → NotTold (TellsText p IsText old)
text_not p IsText old none x left t = none t.text left t.behind t.is_text

-- a part with no hole that a line tells, and none so far; or one that has some
pub blank_part : (a b : ℕ) (r : Bool) → r ≡ ((a == 0) && (b == 0)) → r ≡ true → (a ≡ 0) × (b ≡ 0)
blank_part a b r e is =
    let p = and_parts (a == 0) (b == 0) (sym e ∙ is) in
    (eqb-true a 0 p.0, eqb-true b 0 p.1)

pub blank_not : (a b : ℕ) (r : Bool) → r ≡ ((a == 0) && (b == 0)) → r ≡ false → a ≡ 0 → b ≡ 0 → ⊥
blank_not a b r e is none first = false≢true (sym is ∙ e ∙ and_from (a == 0) (b == 0) (eq-eqb a 0 none) (eq-eqb b 0 first))

-- a step, told by its kind
pub told_as : (prefix : List ℕ) (old new : Growing) (count : ℕ) (s t : Step) (pieces : List Piece) (c : Cursor) (r : Result Cursor ℕ) → s ≡ t →
    AnswersOwn c (StepTells prefix old count (t, pieces)) new r → AnswersOwn c (StepTells prefix old count (s, pieces)) new r
told_as prefix old new count s t pieces c r e x = subst (λ (u : Step). AnswersOwn c (StepTells prefix old count (u, pieces)) new r) (sym e) x

-- a step that takes nothing itself
pub still_told : (prefix : List ℕ) (g : Growing) (count : ℕ) (s t : Step) (pieces : List Piece) (c : Cursor) → s ≡ t → ((text : List ℕ) → StepTells prefix g count (t, pieces) text (told g) text) →
    AnswersOwn c (StepTells prefix g count (s, pieces)) g (Ok c)
still_told prefix g count s t pieces c e x n le far text like = (text, subst (λ (u : Step). StepTells prefix g count (u, pieces) text (told g) text) (sym e) (x text), moves_none n c text like)

-- a line, or lines, of a part
place_told : (prefix : List ℕ) (kinds : List Kind) (pieces : List Piece) (old : Told) (new : Growing) (c : Cursor) (next : Option Cursor) (r : Result Cursor ℕ) →
    MatchResult r (λ place. next ≡ Some place) (λ line. next ≡ None) → IfSome next (IsTaken c) → AnswersPlace (λ x rest. TellsLine prefix kinds pieces old x (left c) rest) new next →
    AnswersOwn c (λ text x rest. TellsLine prefix kinds pieces old x text rest) new r
place_told prefix kinds pieces old new c next (Ok place) m same a = λ n le far text like.
    line_like n c place text prefix kinds pieces old (told new) (subst (λ (o : Option Cursor). AnswersPlace (λ x rest. TellsLine prefix kinds pieces old x (left c) rest) new o) m a) (subst (λ (o : Option Cursor). IfSome o (IsTaken c)) m same) le like
place_told prefix kinds pieces old new c next (Err line) m same a = λ n le far text like.
    no_line_like n c text prefix kinds pieces old (subst (λ (o : Option Cursor). AnswersPlace (λ x rest. TellsLine prefix kinds pieces old x (left c) rest) new o) m a) le like

pub own_line : (prefix pre : List ℕ) (kinds : List Kind) (old new : Growing) (count : ℕ) (s : Step) (blanks : ℕ) (pieces : List Piece) (c : Cursor) (next : Option Cursor) (r : Result Cursor ℕ) →
    s ≡ step.Line blanks → pre ≡ prefix → kinds ≡ holes_of old.part → MatchResult r (λ place. next ≡ Some place) (λ line. next ≡ None) → IfSome next (IsTaken c) →
    AnswersPlace (λ x rest. TellsLine pre kinds pieces (told old) x (left c) rest) new next → AnswersOwn c (StepTells prefix old count (s, pieces)) new r
own_line prefix pre kinds old new count s blanks pieces c next r e p k m same a =
    let held : AnswersPlace (λ x rest. TellsLine prefix (holes_of old.part) pieces (told old) x (left c) rest) new next
    = subst (λ (y : List ℕ). AnswersPlace (λ x rest. TellsLine y (holes_of old.part) pieces (told old) x (left c) rest) new next) p
    (subst (λ (y : List Kind). AnswersPlace (λ x rest. TellsLine pre y pieces (told old) x (left c) rest) new next) k a) in
    told_as prefix old new count s (step.Line blanks) pieces c r e (place_told prefix (holes_of old.part) pieces (told old) new c next r m same held)

own_lines : (prefix pre : List ℕ) (kinds : List Kind) (old new : Growing) (count n : ℕ) (s : Step) (blanks : ℕ) (pieces : List Piece) (c place : Cursor) (all is : Bool) →
    s ≡ step.Each blanks → pre ≡ prefix → kinds ≡ holes_of old.part → n ≡ count → all ≡ is → AnswersAll pre kinds pieces n (told old) c all new place → AnswersLines c (StepTells prefix old count (s, pieces)) is new place
own_lines prefix pre kinds old new count n s blanks pieces c place all is e p k q b a =
    let held : AnswersAll prefix (holes_of old.part) pieces count (told old) c is new place
    = subst (λ (y : Bool). AnswersAll prefix (holes_of old.part) pieces count (told old) c y new place) b
    (subst (λ (y : ℕ). AnswersAll prefix (holes_of old.part) pieces y (told old) c all new place) q
    (subst (λ (y : List ℕ). AnswersAll y (holes_of old.part) pieces n (told old) c all new place) p (subst (λ (y : List Kind). AnswersAll pre y pieces n (told old) c all new place) k a))) in
    subst (λ (u : Step). AnswersLines c (StepTells prefix old count (u, pieces)) is new place) (sym e) held

pub own_lines_yes : (prefix pre : List ℕ) (kinds : List Kind) (old new : Growing) (count n : ℕ) (s : Step) (blanks : ℕ) (pieces : List Piece) (c place : Cursor) (all : Bool) →
    s ≡ step.Each blanks → pre ≡ prefix → kinds ≡ holes_of old.part → n ≡ count → all ≡ true → AnswersAll pre kinds pieces n (told old) c all new place → AnswersOwn c (StepTells prefix old count (s, pieces)) new (Ok place)
own_lines_yes prefix pre kinds old new count n s blanks pieces c place all e p k q b a m le far = own_lines prefix pre kinds old new count n s blanks pieces c place all true e p k q b a m far

pub own_lines_no : (prefix pre : List ℕ) (kinds : List Kind) (old new : Growing) (count n : ℕ) (s : Step) (blanks : ℕ) (pieces : List Piece) (c place : Cursor) (all : Bool) (line : ℕ) →
    s ≡ step.Each blanks → pre ≡ prefix → kinds ≡ holes_of old.part → n ≡ count → all ≡ false → line ≡ next_number place → AnswersAll pre kinds pieces n (told old) c all new place →
    AnswersOwn c (StepTells prefix old count (s, pieces)) new (Err line)
own_lines_no prefix pre kinds old new count n s blanks pieces c place all line e p k q b at a m le far = own_lines prefix pre kinds old new count n s blanks pieces c place all false e p k q b a m (omega (arith, at, far))

-- a use, and user code, in each text that is like what is left
pub use_told : (n : ℕ) (c next : Cursor) (text : List ℕ) (p : Part) (old new : Told) → TellsText p (IsUse (left c)) old new (left next) → IsTaken c next → next_number c ≤ n → next_number next ≤ n → Like n c text →
    (rest : List ℕ) × TellsText p (IsUse text) old new rest × Moves n c next text rest
use_told n c next text p old new t same le far like =
    let x = use_like n c next text t.text same t.is_text le far like in
    (x.0, record { bare = t.bare; first = t.first; text = t.text; is_text = x.1; behind = x.2.like.is_text; new_is = t.new_is }, x.2)

pub code_told : (n : ℕ) (c next : Cursor) (text : List ℕ) (p : Part) (old new : Told) → TellsText p (IsCode (left c)) old new (left next) → IsTaken c next → next_number c ≤ n → next_number next ≤ n → Like n c text →
    (rest : List ℕ) × TellsText p (IsCode text) old new rest × Moves n c next text rest
code_told n c next text p old new t same le far like =
    let x = code_like n c next text t.text same t.is_text far like in
    (x.0, record { bare = t.bare; first = t.first; text = t.text; is_text = x.1; behind = x.2.like.is_text; new_is = t.new_is }, x.2)

-- or none is there
none_here : (p : Part) (IsText Other : List ℕ → List ℕ → Type 0) (old new : Told) (rest : List ℕ) → NotTold (TellsText p IsText old) → TellsText p Other old new rest → (text there : List ℕ) → IsUtf8 there → IsText text there → ⊥
none_here p IsText Other old new rest none t text there u is = none (record old { holes = text ∷ [] }) there (record { bare = t.bare; first = t.first; text = text; is_text = is; behind = u; new_is = refl })

pub no_use_told : (n : ℕ) (c : Cursor) (text : List ℕ) (p : Part) (old : Told) (start from line : ℕ) → NotTold (TellsText p (IsUse (left c)) old) → drop start c.text.now ≡ settled (left c) →
    from ≡ min (start + 4) (2 ^ 64 - 1) → IsCutLine c.text.now from line → next_number c ≤ n → line ≤ n → Like n c text → NotTold (TellsText p (IsUse text) old)
no_use_told n c text p old start from line none at is stops le far like new rest t =
    no_use_like n c text start from line at is stops le far like (none_here p (IsUse (left c)) (IsUse text) old new rest none t) t.text rest t.behind t.is_text

pub no_code_told : (n : ℕ) (c : Cursor) (text : List ℕ) (p : Part) (old : Told) (line : ℕ) → NotTold (TellsText p (IsCode (left c)) old) → IsCutLine c.text.now c.raw line → next_number c ≤ n → line ≤ n → Like n c text → NotTold (TellsText p (IsCode text) old)
no_code_told n c text p old line none stops le far like new rest t =
    no_code_like n c text line stops le far like (none_here p (IsCode (left c)) (IsCode text) old new rest none t) t.text rest t.behind t.is_text
