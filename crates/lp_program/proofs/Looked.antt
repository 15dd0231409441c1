-- The lines that a reader looks at ahead: those before the last one begin the part whose first lines they are.
use Rattle.std.proofs.Common.{◌≡◌, ℕ, ◌+◌, ◌<◌, ◌≤◌, Bool, true, false, List, [], ◌∷◌, drop, refl, sym, ◌∙◌, arith, subst}
use Rattle.std.proofs.lemmas.Bool.{false≢true}
use Rattle.lp_form.specs.Templates.{Piece, piece, steps_of, holes_of}
use Rattle.lp_form.specs.Templates as template
use Rattle.lp_form.specs.declared.class.Class.{Class}
use Rattle.lp_form.specs.declared.part.Part.{Part}
use Rattle.lp_form.specs.declared.template.Kind.{Kind}
use Rattle.lp_form.specs.declared.template.Step.{Step}
use Rattle.lp_form.specs.declared.template.Step.TheVariants as step
use Rattle.lp_spelling.specs.Counting.{settled, behind_line}
use Rattle.lp_spelling.specs.Cursors.{left, IsTaken}
use Rattle.lp_spelling.specs.LineReading.{line_at, ReadsLine}
use Rattle.lp_spelling.specs.declared.cursor.Cursor.{Cursor}
use Rattle.lp_program.specs.declared.read.reader.Reader.{Reader}
use Rattle.lp_program.specs.Begins.{Lines}
use Rattle.lp_program.specs.Looking.{AreCounted, AnswersLine, OfLines}
use Rattle.lp_program.specs.Nearby.{next_number}
use Rattle.lp_program.specs.Reads.Reads.{no_tree}
use Rattle.lp_program.specs.Starting.{FrontLike, Starts, OfNewLook, MemberStarts}
use Rattle.lp_program.specs.Starting.Goal.{one_part, steps_left}
use Rattle.lp_program.specs.Starting.Starts.{ended, in_part, in_below, behind_step}
use Rattle.lp_program.specs.Telling.{Told, untold, TellsLine}
use Rattle.lp_program.specs.Trees.Forest.{bare}
use Rattle.lp_program.proofs.Beginning.{is_quiet, line_first}
use Rattle.lp_program.proofs.Begun.{look_next, look_same, look_then, one_below}
use Rattle.lp_program.proofs.Existing.{lines_exist}
use Rattle.lp_program.proofs.Fronts.{front_moves}
use Rattle.lp_program.proofs.Nearby.{first_same, moves_line}

-- what is told where these holes are known
abbrev pub knows : List (List ℕ) → Told
knows known = record untold { holes = known }

-- the first steps of a part were looked at, behind the text that is left of each front
pub record AheadBegun (prefix : List ℕ) (p : Part) (i : ℕ) (seen : Bool) (known : List (List ℕ)) (old : Reader) (looked : ℕ) (at : Cursor) : Type 0 where
  pub passes : (n : ℕ) → looked ≤ n → (text : List ℕ) → FrontLike n old.cursor text →
      (there : List ℕ) × FrontLike n at there × (seen ≡ false → there ≡ text) × (Starts prefix (steps_left p (knows known) 0 (drop i (steps_of p))) there → Starts prefix (steps_left p untold 0 (steps_of p)) text)
  pub begun : OfNewLook old.looked old.cursor looked (Starts prefix (one_part p))

pub ahead_start : (prefix : List ℕ) (p : Part) (known : List (List ℕ)) (old : Reader) → known ≡ [] → AheadBegun prefix p 0 false known old old.looked old.cursor
ahead_start prefix p known old e = record {
  passes = λ n l text front. (text, front, (λ h. refl), (λ x. subst (λ (k : List (List ℕ)). Starts prefix (steps_left p (knows k) 0 (steps_of p)) text) e x));
  begun = look_same old.looked old.looked old.cursor (Starts prefix (one_part p)) (omega arith);
}

-- a look at the next line that counts
pub ahead_over : (prefix : List ℕ) (p : Part) (i : ℕ) (seen : Bool) (known : List (List ℕ)) (old : Reader) (looked d : ℕ) (at : Cursor) → AheadBegun prefix p i seen known old looked at → looked ≤ d → OfNewLook looked at d (λ text. settled text ≡ []) →
    OfNewLook old.looked old.cursor d (Starts prefix (one_part p))
ahead_over prefix p i seen known old looked d at so le over =
    look_then old.looked looked d old.cursor (Starts prefix (one_part p)) le so.begun
    (λ n l e text front.
    let v = so.passes n l text front in
    in_part p text (v.3 (ended (steps_left p (knows known) 0 (drop i (steps_of p))) v.0 (over n l e v.0 v.1))))

-- a line that is read there
line_read : (prefix : List ℕ) (kinds : List Kind) (pieces : List Piece) (known new : List (List ℕ)) (b : Bool) (text : List ℕ) (lines : Lines) → b ≡ true → AreCounted text lines → AnswersLine prefix kinds pieces known new b lines →
    TellsLine prefix kinds pieces (knows known) (knows new) text (behind_line (settled text))
line_read prefix kinds pieces known new b text [] all counted x = absurd (false≢true (sym x ∙ all))
line_read prefix kinds pieces known new b text (l ∷ lines) all counted x =
    let y : ReadsLine prefix kinds known new (line_at prefix kinds pieces known l) true = subst (λ (c : Bool). ReadsLine prefix kinds known new (line_at prefix kinds pieces known l) c) all x in
    let takes = counted.1 in
    record { line = l; takes = record { some = takes.some; line_is = takes.line_is; rest_is = refl }; reads = y.0; fills = y.1; others = refl }

line_step : (prefix : List ℕ) (p : Part) (x : Step) (blanks : ℕ) (pieces : List Piece) (known new : List (List ℕ)) (others : List template.Line) (text rest : List ℕ) → x ≡ step.Line blanks →
    TellsLine prefix (holes_of p) pieces (knows known) (knows new) text rest → Starts prefix (steps_left p (knows new) 0 others) rest → Starts prefix (steps_left p (knows known) 0 ((x, pieces) ∷ others)) text
line_step prefix p x blanks pieces known new others text rest is t more =
    subst (λ (y : Step). Starts prefix (steps_left p (knows known) 0 ((y, pieces) ∷ others)) text) (sym is)
    (behind_step p (knows known) (knows new) 0 (step.Line blanks, pieces) others bare text rest rest refl t (no_tree rest) more)

pub ahead_line : (prefix pre : List ℕ) (kinds : List Kind) (p : Part) (i : ℕ) (seen : Bool) (x : Step) (blanks : ℕ) (pieces : List Piece) (known new : List (List ℕ)) (b : Bool) (old : Reader) (looked d : ℕ) (at next : Cursor) →
    AheadBegun prefix p i seen known old looked at → looked ≤ d → next_number at ≤ d → (looked < d → d ≡ next_number at) → drop i (steps_of p) ≡ (x, pieces) ∷ drop (i + 1) (steps_of p) → x ≡ step.Line blanks → pre ≡ prefix → kinds ≡ holes_of p → b ≡ true →
    OfLines (left at) (AnswersLine pre kinds pieces known new b) → IsTaken at next → left next ≡ behind_line (settled (left at)) → AheadBegun prefix p (i + 1) true new old d next
ahead_line prefix pre kinds p i seen x blanks pieces known new b old looked d at next so le far there is_step is sp sk all reads same rest = record {
  passes = λ n l text front.
      let v = so.passes n (omega (arith, le, l)) text front in
      let like = (v.1).like in
      let lines = lines_exist v.0 like.is_text in
      let here = first_same n at v.0 (AnswersLine pre kinds pieces known new b) (line_first pre kinds pieces known new b) (omega (arith, far, l)) like reads in
      let t = line_read pre kinds pieces known new b v.0 lines.0 all lines.1 (here lines.0 lines.1) in
      let tells = subst (λ (y : List ℕ). TellsLine y (holes_of p) pieces (knows known) (knows new) v.0 (behind_line (settled v.0))) sp
      (subst (λ (ks : List Kind). TellsLine pre ks pieces (knows known) (knows new) v.0 (behind_line (settled v.0))) sk t) in
      let moves = moves_line n at next v.0 same rest (omega (arith, far, l)) like in (
        behind_line (settled v.0),
        front_moves n at next v.0 (behind_line (settled v.0)) v.1 moves,
        (λ h. absurd (false≢true (sym h))),
        (λ more.
            v.3 (subst (λ (ss : List template.Line). Starts prefix (steps_left p (knows known) 0 ss) v.0) (sym is_step)
            (line_step prefix p x blanks pieces known new (drop (i + 1) (steps_of p)) v.0 (behind_line (settled v.0)) is tells more))),
      );
  begun = ahead_over prefix p i seen known old looked d at so le (look_next looked d at there);
}

-- a step that shows nothing
quiet_step : (prefix : List ℕ) (p : Part) (x : Step) (pieces : List Piece) (known : List (List ℕ)) (others : List template.Line) (text : List ℕ) → is_quiet x ≡ true →
    Starts prefix (steps_left p (knows known) 0 others) text → Starts prefix (steps_left p (knows known) 0 ((x, pieces) ∷ others)) text
quiet_step prefix p step.Empty pieces known others text q more = behind_step p (knows known) (knows known) 0 (step.Empty, pieces) others bare text text text refl (refl, refl) (no_tree text) more
quiet_step prefix p step.Note pieces known others text q more = behind_step p (knows known) (knows known) 0 (step.Note, pieces) others bare text text text refl (refl, refl) (no_tree text) more
quiet_step prefix p step.NoteAlways pieces known others text q more = behind_step p (knows known) (knows known) 0 (step.NoteAlways, pieces) others bare text text text refl (refl, refl) (no_tree text) more
quiet_step prefix p _ pieces known others text q more = absurd (false≢true q)

pub ahead_quiet : (prefix : List ℕ) (p : Part) (i : ℕ) (seen later : Bool) (x : Step) (pieces : List Piece) (known new : List (List ℕ)) (old : Reader) (looked : ℕ) (at next : Cursor) → AheadBegun prefix p i seen known old looked at →
    drop i (steps_of p) ≡ (x, pieces) ∷ drop (i + 1) (steps_of p) → is_quiet x ≡ true → later ≡ seen → new ≡ known → next ≡ at → AheadBegun prefix p (i + 1) later new old looked next
ahead_quiet prefix p i seen later x pieces known new old looked at next so is_step q sl sk sc =
    subst (λ (c : Cursor). AheadBegun prefix p (i + 1) later new old looked c) (sym sc)
    (subst (λ (k : List (List ℕ)). AheadBegun prefix p (i + 1) later k old looked at) (sym sk)
    (subst (λ (o : Bool). AheadBegun prefix p (i + 1) o known old looked at) (sym sl) quiet))
  where
    quiet : AheadBegun prefix p (i + 1) seen known old looked at
    quiet = record {
      passes = λ n l text front.
          let v = so.passes n l text front in (
            v.0,
            v.1,
            v.2,
            (λ more.
                v.3 (subst (λ (ss : List template.Line). Starts prefix (steps_left p (knows known) 0 ss) v.0) (sym is_step)
                (quiet_step prefix p x pieces known (drop (i + 1) (steps_of p)) v.0 q more))),
          );
      begun = so.begun;
    }

-- a part of a class was looked for where no line was read yet
pub ahead_one : (prefix : List ℕ) (p : Part) (i : ℕ) (seen : Bool) (x : Step) (class : Class) (pieces : List Piece) (known : List (List ℕ)) (old now : Reader) (d : ℕ) (at : Cursor) → AheadBegun prefix p i seen known old now.looked at → seen ≡ false →
    drop i (steps_of p) ≡ (x, pieces) ∷ drop (i + 1) (steps_of p) → x ≡ step.One class → now.prefix.now ≡ prefix → now.cursor ≡ old.cursor → now.looked ≤ d → OfNewLook now.looked now.cursor d (MemberStarts now.prefix.now class) →
    OfNewLook old.looked old.cursor d (Starts prefix (one_part p))
ahead_one prefix p i seen x class pieces known old now d at so none is_step is sp sc le picks =
    look_then old.looked now.looked d old.cursor (Starts prefix (one_part p)) le so.begun
    (λ n l e text front.
    let v = so.passes n l text front in
    let there : v.0 ≡ text = v.2 none in
    let member = picks n l e text (subst (λ k. FrontLike n k text) (sym sc) front) in
    let here = subst (λ (y : List ℕ). MemberStarts y class v.0) sp (subst (λ (t : List ℕ). MemberStarts now.prefix.now class t) (sym there) member) in
    let others : List template.Line = drop (i + 1) (steps_of p) in
    let one : Starts prefix (steps_left p (knows known) 0 ((step.One class, pieces) ∷ others)) v.0
    = in_below p (knows known) (knows known) 0 (step.One class, pieces) others v.0 v.0 (refl, refl) (one_below prefix class v.0 here) in
    let step_here = subst (λ (y : Step). Starts prefix (steps_left p (knows known) 0 ((y, pieces) ∷ others)) v.0) (sym is) one in
    in_part p text (v.3 (subst (λ (ss : List template.Line). Starts prefix (steps_left p (knows known) 0 ss) v.0) (sym is_step) step_here)))
