-- What the lines begin that a step itself looks at.
use Rattle.std.proofs.Common.{◌≡◌, ℕ, ◌≤◌, Bool, true, false, List, [], ◌∷◌, codes, Option, Some, None, Result, Ok, Err, MatchResult, IfSome, IfErr, nat_eq, sym, ap, ◌∙◌, arith, subst}
use Rattle.std.specs.Bool.{Decides}
use Rattle.std.specs.List.{starts_with}
use Rattle.std.proofs.lemmas.Bool.{false≢true}
use Rattle.lp_form.specs.Templates.{Piece, holes_of}
use Rattle.lp_form.specs.Templates as template
use Rattle.lp_form.specs.declared.part.Part.{Part}
use Rattle.lp_form.specs.declared.template.Kind.{Kind}
use Rattle.lp_form.specs.declared.template.Step.{Step}
use Rattle.lp_form.specs.declared.template.Step.TheVariants as step
use Rattle.lp_spelling.specs.Counting.{settled, front_line}
use Rattle.lp_spelling.specs.Cursors.{left, IsTaken}
use Rattle.lp_spelling.specs.declared.cursor.Cursor.{Cursor}
use Rattle.lp_program.specs.declared.read.growing.Growing.{Growing}
use Rattle.lp_program.specs.Begins.{Lines, IsUseFirst}
use Rattle.lp_program.specs.CodeReading.{IsUse}
use Rattle.lp_program.specs.Looking.{AreCounted, OfLines}
use Rattle.lp_program.specs.Nearby.{next_number, Like, EachTaken}
use Rattle.lp_program.specs.Starting.{OfNewLook, OwnBegun, StepStarts}
use Rattle.lp_program.specs.Starting.Starts.{ended, in_below}
use Rattle.lp_program.specs.Telling.{Told, told, TellsLine, TellsText, AnswersPlace, StepTells}
use Rattle.lp_program.proofs.Begun.{look_same}
use Rattle.lp_program.proofs.Existing.{lines_exist}
use Rattle.lp_program.proofs.Fronts.{front_moves, front_over}
use Rattle.lp_program.proofs.Nearby.{first_same, line_like}
use Rattle.lp_program.proofs.Prefixes.{use_begins}

-- behind what was taken nothing counts up to the line that was looked at there
pub own_goes : (prefix : List ℕ) (g : Growing) (count : ℕ) (s : template.Line) (new : Told) (c next : Cursor) → ((n : ℕ) → next_number c ≤ n → EachTaken n c next (λ text rest. StepTells prefix g count s text new rest)) →
    OfNewLook (next_number c) c (next_number next) (StepStarts prefix g count s)
own_goes prefix g count s new c next each n l e text front others =
    let v = each n l text front.like in
    in_below g.part (told g) new count s others text v.0 v.1 (ended _ v.0 (front_over n next v.0 (front_moves n c next text v.0 front v.2) (omega (arith, e))))

-- a line
pub line_begun : (prefix pre : List ℕ) (kinds : List Kind) (g h : Growing) (count blanks : ℕ) (s : Step) (pieces : List Piece) (c : Cursor) (next : Option Cursor) (r : Result Cursor ℕ) → s ≡ step.Line blanks → pre ≡ prefix → kinds ≡ holes_of g.part →
    MatchResult r (λ place. next ≡ Some place) (λ line. next ≡ None) → IfErr r (λ line. line ≡ next_number c) → IfSome next (IsTaken c) → AnswersPlace (λ new rest. TellsLine pre kinds pieces (told g) new (left c) rest) h next →
    OwnBegun c (StepStarts prefix g count (s, pieces)) r
line_begun prefix pre kinds g h count blanks s pieces c next (Err line) is sp sk either at same tells = look_same (next_number c) line c _ (omega (arith, at))
line_begun prefix pre kinds g h count blanks s pieces c next (Ok place) is sp sk either at same tells =
    let taken : IsTaken c place = subst (λ (o : Option Cursor). IfSome o (IsTaken c)) either same in
    let line : TellsLine pre kinds pieces (told g) (told h) (left c) (left place)
    = subst (λ (o : Option Cursor). AnswersPlace (λ new rest. TellsLine pre kinds pieces (told g) new (left c) rest) h o) either tells in
    let here : TellsLine prefix (holes_of g.part) pieces (told g) (told h) (left c) (left place)
    = subst (λ (y : List ℕ). TellsLine y (holes_of g.part) pieces (told g) (told h) (left c) (left place)) sp
    (subst (λ (ks : List Kind). TellsLine pre ks pieces (told g) (told h) (left c) (left place)) sk line) in
    let all : OfNewLook (next_number c) c (next_number place) (StepStarts prefix g count (step.Line blanks, pieces))
    = own_goes prefix g count (step.Line blanks, pieces) (told h) c place (λ n l text like. line_like n c place text prefix (holes_of g.part) pieces (told g) (told h) here taken l like) in
    subst (λ (y : Step). OfNewLook (next_number c) c (next_number place) (StepStarts prefix g count (y, pieces))) (sym is) all

-- another step, told by its kind
pub own_begun_as : (prefix : List ℕ) (g : Growing) (count : ℕ) (s u : Step) (pieces : List Piece) (c : Cursor) (r : Result Cursor ℕ) → s ≡ u → OwnBegun c (StepStarts prefix g count (u, pieces)) r → OwnBegun c (StepStarts prefix g count (s, pieces)) r
own_begun_as prefix g count s u pieces c r e x = subst (λ (y : Step). OwnBegun c (StepStarts prefix g count (y, pieces)) r) (sym e) x

-- the next line begins no use
pub no_use_first : (n : ℕ) (c : Cursor) (text : List ℕ) (p : Part) (old new : Told) (rest : List ℕ) (b : Bool) → OfLines (left c) (λ lines. Decides b (IsUseFirst lines)) → b ≡ false → next_number c ≤ n → Like n c text →
    TellsText p (IsUse text) old new rest → ⊥
no_use_first n c text p old new rest b reads none le like t =
    let lines = lines_exist text like.is_text in
    let here = first_same n c text (λ (ls : Lines). Decides b (IsUseFirst ls)) (λ l ls others h. h) le like reads in
    let some = length_of t.is_text in
    false≢true (sym none ∙ (here lines.0 lines.1).1 (first lines.0 lines.1 some))
  where
    length_of : IsUse text t.text rest → starts_with nat_eq (front_line (settled text)) (codes "use ") ≡ true
    length_of u = use_begins text t.text rest u

    first : (ls : Lines) → AreCounted text ls → starts_with nat_eq (front_line (settled text)) (codes "use ") ≡ true → IsUseFirst ls
    first [] counted b = absurd (false≢true (ap (λ (x : List ℕ). starts_with nat_eq (front_line x) (codes "use ")) (sym counted) ∙ b))
    first (l ∷ ls) counted b = ap (λ (x : List ℕ). starts_with nat_eq x (codes "use ")) (sym counted.1.line_is) ∙ b
