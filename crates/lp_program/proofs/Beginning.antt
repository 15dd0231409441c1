-- A reader that looks at the steps of a part: what is asked of the steps that are left is what was asked of all of them.
use Rattle.std.proofs.Common.{◌≡◌, ℕ, zero, suc, ◌+◌, ◌-◌, ◌<◌, ◌≤◌, Bool, true, false, List, [], ◌∷◌, length, map, get_or, drop, Option, Some, None, refl, sym, ap, ◌∙◌, arith, subst}
use Rattle.std.specs.Bool.{Decides}
use Rattle.std.specs.Option.{is_some}
use Rattle.std.proofs.lemmas.Bool.{false≢true}
use Rattle.std.proofs.lemmas.List.{at_drop_more, drop_all}
use Rattle.lp_form.specs.Templates.{Piece, piece, steps_of, holes_of}
use Rattle.lp_form.specs.Templates as template
use Rattle.lp_form.specs.declared.class.Class.{Class}
use Rattle.lp_form.specs.declared.part.Part.{Part}
use Rattle.lp_form.specs.declared.template.Kind.{Kind}
use Rattle.lp_form.specs.declared.template.Step.{Step}
use Rattle.lp_form.specs.declared.template.Step.TheVariants as step
use Rattle.lp_spelling.specs.Counting.{settled, behind_line}
use Rattle.lp_spelling.specs.Cursors.{left, IsTaken}
use Rattle.lp_spelling.specs.LineReading.{line_at}
use Rattle.lp_spelling.specs.declared.cursor.Cursor.{Cursor}
use Rattle.lp_program.specs.declared.read.reader.Reader.{Reader}
use Rattle.lp_program.specs.Begins.{Lines, SomeMember, ReadsFirst, IsUseFirst, StepsBegin, Begins}
use Rattle.lp_program.specs.Looking.{AreCounted, OfLines, AnswersLine, Picks}
use Rattle.lp_program.specs.Nearby.{next_number, Like, OfLike}
use Rattle.lp_program.proofs.Adding.{step_count, step_there}
use Rattle.lp_program.proofs.Nearby.{OfFirst, first_same, moves_line}
use Rattle.lp_program.proofs.Stepping.{HeldStep}

-- looking again changes nothing but the line that is noted
pub kept_then : (a b c : Reader) → b ≡ record a { looked = b.looked } → c ≡ record b { looked = c.looked } → c ≡ record a { looked = c.looked }
kept_then a b c e f = f ∙ ap (λ (r : Reader). record r { looked = c.looked }) e

-- what is asked of steps
abbrev pub Asked : ℕ → List ℕ → Part → Bool → List (List ℕ) → List template.Line → Lines → Type 0
Asked depth prefix p seen known steps lines = StepsBegin (λ class rest. SomeMember class (λ m. Begins depth prefix m rest)) prefix (holes_of p) seen known steps lines

abbrev Same : Type 0 → Type 0 → Type 0
Same A B = (A → B) × (B → A)

-- of the lines of a text, those that are left, whose steps ask what the part asks of all
abbrev pub Asks : ℕ → List ℕ → Part → List ℕ → ℕ → Bool → List (List ℕ) → List ℕ → Type 0
Asks depth prefix p text at seen known there =
    (lines : Lines) → AreCounted text lines →
    (rest : Lines) × AreCounted there rest × Same (Asked (depth - 1) prefix p seen known (drop at (steps_of p)) rest) (Begins depth prefix p lines)

begins_zero : (depth : ℕ) (prefix : List ℕ) (p : Part) (lines : Lines) → depth ≡ 0 → Begins depth prefix p lines → ⊥
unfolding Begins
begins_zero zero prefix p lines z h = h
begins_zero (suc n) prefix p lines z h = absurd (omega (arith, z))

-- no part begins at no depth
none_deep : (depth : ℕ) (prefix : List ℕ) (p : Part) (text : List ℕ) → depth ≡ 0 → OfLines text (λ lines. Decides false (Begins depth prefix p lines))
none_deep depth prefix p text z lines c = ((λ h. absurd (false≢true h)), (λ b. absurd (begins_zero depth prefix p lines z b)))

-- before the first step
asks_start : (depth : ℕ) (prefix : List ℕ) (p : Part) (text : List ℕ) (known : List (List ℕ)) → 0 < depth → known ≡ [] → Asks depth prefix p text 0 false known text
unfolding Begins
asks_start zero prefix p text known lt e lines c = absurd (omega (arith, lt))
asks_start (suc d) prefix p text known lt e lines c =
    let here : Same (Asked d prefix p false [] (steps_of p) lines) (Begins (suc d) prefix p lines) = ((λ x. x), (λ x. x)) in
    let depth : suc d - 1 ≡ d = omega arith in
    let held : Same (Asked d prefix p false known (steps_of p) lines) (Begins (suc d) prefix p lines)
    = subst (λ (ks : List (List ℕ)). Same (Asked d prefix p false ks (steps_of p) lines) (Begins (suc d) prefix p lines)) (sym e) here in
    (lines, c, subst (λ (n : ℕ). Same (Asked n prefix p false known (steps_of p) lines) (Begins (suc d) prefix p lines)) (sym depth) held)

-- the same question, of what is the same
asks_as : (depth : ℕ) (prefix : List ℕ) (p : Part) (text : List ℕ) (i : ℕ) (seen later : Bool) (known new : List (List ℕ)) (there next : List ℕ) → later ≡ seen → new ≡ known → next ≡ there →
    Asks depth prefix p text i seen known there → Asks depth prefix p text i later new next
asks_as depth prefix p text i seen later known new there next s k n a =
    subst (λ (b : Bool). Asks depth prefix p text i b new next) (sym s)
    (subst (λ (ks : List (List ℕ)). Asks depth prefix p text i seen ks next) (sym k) (subst (λ (x : List ℕ). Asks depth prefix p text i seen known x) (sym n) a))

pub step_drop : (items : List HeldStep) (ss : List template.Line) (i : ℕ) (d : HeldStep) → template.lines_of items ≡ ss → i < length items →
    drop i ss ≡ template.line (get_or items i d) ∷ drop (i + 1) ss
step_drop items ss i d e lt =
    let s = template.line (get_or items i d) in
    let count = step_count items ss e in
    at_drop_more (λ (xs : List template.Line). xs) ss i s (omega (arith, count, lt)) ∙ ap (λ (x : template.Line). x ∷ drop (i + 1) ss) (sym (step_there items ss i d e lt))

-- what is asked of the lines behind a step
abbrev Moves : ℕ → List ℕ → Part → Bool → Bool → List (List ℕ) → List (List ℕ) → template.Line → List template.Line → List ℕ → Lines → Type 0
Moves n prefix p seen later known new s steps next rest =
    (more : Lines) × AreCounted next more × Same (Asked n prefix p later new steps more) (Asked n prefix p seen known (s ∷ steps) rest)

asks_on : (depth : ℕ) (prefix : List ℕ) (p : Part) (text there next : List ℕ) (items : List HeldStep) (i : ℕ) (d : HeldStep) (seen later : Bool) (known new : List (List ℕ)) →
    Asks depth prefix p text i seen known there → template.lines_of items ≡ steps_of p → i < length items →
    ((rest : Lines) → AreCounted there rest → Moves (depth - 1) prefix p seen later known new (template.line (get_or items i d)) (drop (i + 1) (steps_of p)) next rest) →
    Asks depth prefix p text (i + 1) later new next
asks_on depth prefix p text there next items i d seen later known new a e lt f lines c =
    let x = a lines c in
    let y = f x.0 x.1 in
    let was : Same (Asked (depth - 1) prefix p seen known (template.line (get_or items i d) ∷ drop (i + 1) (steps_of p)) x.0) (Begins depth prefix p lines)
    = subst (λ (ss : List template.Line). Same (Asked (depth - 1) prefix p seen known ss x.0) (Begins depth prefix p lines)) (step_drop items (steps_of p) i d e lt) x.2 in
    (y.0, y.1, ((λ z. was.0 (y.2.0 z)), (λ z. y.2.1 (was.1 z))))

-- a line
line_back : (n : ℕ) (prefix : List ℕ) (p : Part) (pieces : List Piece) (steps : List template.Line) (known new : List (List ℕ)) (l : List ℕ) (rest : Lines) →
    line_at prefix (holes_of p) pieces known l ≡ Some new → ReadsFirst prefix (holes_of p) pieces known (l ∷ rest) (λ holes others. Asked n prefix p true holes steps others) →
    Asked n prefix p true new steps rest
line_back n prefix p pieces steps known new l rest a y =
    let same : Some y.0 ≡ Some new = sym y.1 ∙ a in
    let h : y.0 ≡ new = cc in
    subst (λ (holes : List (List ℕ)). Asked n prefix p true holes steps rest) h y.3

line_moves : (n : ℕ) (prefix : List ℕ) (p : Part) (k : Step) (pieces : List Piece) (steps : List template.Line) (there next : List ℕ) (seen : Bool) (known new : List (List ℕ)) (rest : Lines) (blanks : ℕ) →
    k ≡ step.Line blanks → AreCounted there rest → AnswersLine prefix (holes_of p) pieces known new true rest → next ≡ behind_line (settled there) →
    Moves n prefix p seen true known new (k, pieces) steps next rest
line_moves n prefix p k pieces steps there next seen known new [] blanks e c a m = absurd (false≢true (sym a))
line_moves n prefix p k pieces steps there next seen known new (l ∷ rest) blanks e c a m =
    let after : AreCounted next rest = subst (λ (x : List ℕ). AreCounted x rest) (c.1.rest_is ∙ sym m) c.2 in
    let moves : Moves n prefix p seen true known new (step.Line blanks, pieces) steps next (l ∷ rest)
    = (rest, after, ((λ x. (new, a.0, a.1, x)), (λ y. line_back n prefix p pieces steps known new l rest a.0 y))) in
    subst (λ (x : Step). Moves n prefix p seen true known new (x, pieces) steps next (l ∷ rest)) (sym e) moves

-- an answer over the prefix and the kinds of the scope
answer_of : (prefix pre : List ℕ) (kinds held : List Kind) (pieces : List Piece) (known new : List (List ℕ)) (b c : Bool) (rest : Lines) → pre ≡ prefix → held ≡ kinds → b ≡ c →
    AnswersLine pre held pieces known new b rest → AnswersLine prefix kinds pieces known new c rest
answer_of prefix pre kinds held pieces known new b c rest sp sk sb a =
    subst (λ (x : List ℕ). AnswersLine x kinds pieces known new c rest) sp
    (subst (λ (x : List Kind). AnswersLine pre x pieces known new c rest) sk (subst (λ (x : Bool). AnswersLine pre held pieces known new x rest) sb a))

asks_line : (depth : ℕ) (prefix pre : List ℕ) (held : List Kind) (p : Part) (text there next : List ℕ) (items : List HeldStep) (i : ℕ) (d : HeldStep) (seen : Bool) (known new : List (List ℕ)) (b : Bool) (blanks : ℕ) →
    Asks depth prefix p text i seen known there → template.lines_of items ≡ steps_of p → i < length items → (get_or items i d).0 ≡ step.Line blanks → pre ≡ prefix → held ≡ holes_of p → b ≡ true →
    OfLines there (AnswersLine pre held (map piece (get_or items i d).1.now) known new b) → next ≡ behind_line (settled there) → Asks depth prefix p text (i + 1) true new next
asks_line depth prefix pre held p text there next items i d seen known new b blanks a e lt line sp sk right reads n =
    let pieces = map piece (get_or items i d).1.now in
    asks_on depth prefix p text there next items i d seen true known new a e lt
    (λ rest c. line_moves (depth - 1) prefix p (get_or items i d).0 pieces (drop (i + 1) (steps_of p)) there next seen known new rest blanks line c
    (answer_of prefix pre (holes_of p) held pieces known new b true rest sp sk right (reads rest c)) n)

-- a step that shows no line
abbrev pub is_quiet : Step → Bool
is_quiet step.Empty = true
is_quiet step.Note = true
is_quiet step.NoteAlways = true
is_quiet _ = false

quiet_same : (n : ℕ) (prefix : List ℕ) (p : Part) (k : Step) (pieces : List Piece) (steps : List template.Line) (seen : Bool) (known : List (List ℕ)) (rest : Lines) → is_quiet k ≡ true →
    Same (Asked n prefix p seen known steps rest) (Asked n prefix p seen known ((k, pieces) ∷ steps) rest)
quiet_same n prefix p step.Empty pieces steps seen known rest q = ((λ x. x), (λ x. x))
quiet_same n prefix p step.Note pieces steps seen known rest q = ((λ x. x), (λ x. x))
quiet_same n prefix p step.NoteAlways pieces steps seen known rest q = ((λ x. x), (λ x. x))
quiet_same n prefix p _ pieces steps seen known rest q = absurd (false≢true q)

asks_quiet : (depth : ℕ) (prefix : List ℕ) (p : Part) (text there : List ℕ) (items : List HeldStep) (i : ℕ) (d : HeldStep) (seen : Bool) (known : List (List ℕ)) →
    Asks depth prefix p text i seen known there → template.lines_of items ≡ steps_of p → i < length items → is_quiet (get_or items i d).0 ≡ true → Asks depth prefix p text (i + 1) seen known there
asks_quiet depth prefix p text there items i d seen known a e lt q =
    asks_on depth prefix p text there there items i d seen seen known known a e lt
    (λ rest c. (rest, c, quiet_same (depth - 1) prefix p (get_or items i d).0 (map piece (get_or items i d).1.now) (drop (i + 1) (steps_of p)) seen known rest q))

-- a step that decides
decided : (depth : ℕ) (prefix : List ℕ) (p : Part) (text there : List ℕ) (items : List HeldStep) (i : ℕ) (d : HeldStep) (seen : Bool) (known : List (List ℕ)) (b : Bool) →
    Asks depth prefix p text i seen known there → template.lines_of items ≡ steps_of p → i < length items →
    OfLines there (λ rest. Decides b (Asked (depth - 1) prefix p seen known (template.line (get_or items i d) ∷ drop (i + 1) (steps_of p)) rest)) →
    OfLines text (λ lines. Decides b (Begins depth prefix p lines))
decided depth prefix p text there items i d seen known b a e lt f lines c =
    let x = a lines c in
    let y = f x.0 x.1 in
    let was : Same (Asked (depth - 1) prefix p seen known (template.line (get_or items i d) ∷ drop (i + 1) (steps_of p)) x.0) (Begins depth prefix p lines)
    = subst (λ (ss : List template.Line). Same (Asked (depth - 1) prefix p seen known ss x.0) (Begins depth prefix p lines)) (step_drop items (steps_of p) i d e lt) x.2 in
    ((λ h. was.0 (y.0 h)), (λ h. y.1 (was.1 h)))

-- an answer on a step, by its form
step_as : (n : ℕ) (prefix : List ℕ) (p : Part) (k form : Step) (pieces : List Piece) (steps : List template.Line) (seen now : Bool) (known : List (List ℕ)) (rest : Lines) (b : Bool) → k ≡ form → seen ≡ now →
    Decides b (Asked n prefix p now known ((form, pieces) ∷ steps) rest) → Decides b (Asked n prefix p seen known ((k, pieces) ∷ steps) rest)
step_as n prefix p k form pieces steps seen now known rest b e s x =
    subst (λ (y : Bool). Decides b (Asked n prefix p y known ((k, pieces) ∷ steps) rest)) (sym s)
    (subst (λ (y : Step). Decides b (Asked n prefix p now known ((y, pieces) ∷ steps) rest)) (sym e) x)

refused : (n : ℕ) (prefix : List ℕ) (p : Part) (pieces : List Piece) (steps : List template.Line) (seen : Bool) (known new : List (List ℕ)) (rest : Lines) (blanks : ℕ) →
    AnswersLine prefix (holes_of p) pieces known new false rest → Decides false (Asked n prefix p seen known ((step.Line blanks, pieces) ∷ steps) rest)
refused n prefix p pieces steps seen known new [] blanks a = ((λ h. absurd (false≢true h)), (λ y. absurd y))
refused n prefix p pieces steps seen known new (l ∷ rest) blanks a = ((λ h. absurd (false≢true h)), (λ y. absurd (a y.0 y.1 y.2)))

asks_refused : (depth : ℕ) (prefix pre : List ℕ) (held : List Kind) (p : Part) (text there : List ℕ) (items : List HeldStep) (i : ℕ) (d : HeldStep) (seen : Bool) (known new : List (List ℕ)) (b : Bool) (blanks : ℕ) →
    Asks depth prefix p text i seen known there → template.lines_of items ≡ steps_of p → i < length items → (get_or items i d).0 ≡ step.Line blanks → pre ≡ prefix → held ≡ holes_of p → b ≡ false →
    OfLines there (AnswersLine pre held (map piece (get_or items i d).1.now) known new b) → OfLines text (λ lines. Decides false (Begins depth prefix p lines))
asks_refused depth prefix pre held p text there items i d seen known new b blanks a e lt line sp sk wrong reads =
    let pieces = map piece (get_or items i d).1.now in
    let steps = drop (i + 1) (steps_of p) in
    decided depth prefix p text there items i d seen known false a e lt
    (λ rest c. step_as (depth - 1) prefix p (get_or items i d).0 (step.Line blanks) pieces steps seen seen known rest false line refl
    (refused (depth - 1) prefix p pieces steps seen known new rest blanks (answer_of prefix pre (holes_of p) held pieces known new b false rest sp sk wrong (reads rest c))))

asks_use : (depth : ℕ) (prefix : List ℕ) (p : Part) (text there : List ℕ) (items : List HeldStep) (i : ℕ) (d : HeldStep) (seen : Bool) (known : List (List ℕ)) (b : Bool) →
    Asks depth prefix p text i seen known there → template.lines_of items ≡ steps_of p → i < length items → (get_or items i d).0 ≡ step.Use → OfLines there (λ rest. Decides b (IsUseFirst rest)) →
    OfLines text (λ lines. Decides b (Begins depth prefix p lines))
asks_use depth prefix p text there items i d seen known b a e lt is uses =
    decided depth prefix p text there items i d seen known b a e lt
    (λ rest c. step_as (depth - 1) prefix p (get_or items i d).0 step.Use (map piece (get_or items i d).1.now) (drop (i + 1) (steps_of p)) seen seen known rest b is refl (uses rest c))

-- a part below, behind lines and in front of all
asks_seen : (depth : ℕ) (prefix : List ℕ) (p : Part) (text there : List ℕ) (items : List HeldStep) (i : ℕ) (d : HeldStep) (seen : Bool) (known : List (List ℕ)) (class : Class) (b : Bool) →
    Asks depth prefix p text i seen known there → template.lines_of items ≡ steps_of p → i < length items → (get_or items i d).0 ≡ step.One class → seen ≡ true → b ≡ true →
    OfLines text (λ lines. Decides b (Begins depth prefix p lines))
asks_seen depth prefix p text there items i d seen known class b a e lt one s right =
    decided depth prefix p text there items i d seen known b a e lt
    (λ rest c. step_as (depth - 1) prefix p (get_or items i d).0 (step.One class) (map piece (get_or items i d).1.now) (drop (i + 1) (steps_of p)) seen true known rest b one s ((λ h. tt), (λ h. right)))

picks_decide : (n : ℕ) (prefix : List ℕ) (class : Class) (r : Option Part) (rest : Lines) → Picks n prefix class r rest → Decides (is_some r) (SomeMember class (λ m. Begins n prefix m rest))
picks_decide n prefix class None rest none = ((λ h. absurd (false≢true h)), (λ x. absurd (none x.0 x.1 x.2)))
picks_decide n prefix class (Some q) rest x = ((λ h. (x.0, x.1, subst (λ (m : Part). Begins n prefix m rest) x.2 x.3)), (λ h. refl))

asks_one : (depth : ℕ) (prefix pre : List ℕ) (p : Part) (text there from : List ℕ) (items : List HeldStep) (i : ℕ) (d : HeldStep) (seen : Bool) (known : List (List ℕ)) (class : Class) (r : Option Part) (b : Bool) →
    Asks depth prefix p text i seen known there → template.lines_of items ≡ steps_of p → i < length items → (get_or items i d).0 ≡ step.One class → seen ≡ false → b ≡ is_some r → pre ≡ prefix → from ≡ there →
    OfLines from (Picks (depth - 1) pre class r) → OfLines text (λ lines. Decides b (Begins depth prefix p lines))
asks_one depth prefix pre p text there from items i d seen known class r b a e lt one s is sp sf picks =
    let here : OfLines there (Picks (depth - 1) prefix class r)
    = subst (λ (x : List ℕ). OfLines there (Picks (depth - 1) x class r)) sp (subst (λ (x : List ℕ). OfLines x (Picks (depth - 1) pre class r)) sf picks) in
    decided depth prefix p text there items i d seen known b a e lt
    (λ rest c. step_as (depth - 1) prefix p (get_or items i d).0 (step.One class) (map piece (get_or items i d).1.now) (drop (i + 1) (steps_of p)) seen false known rest b one s
    (subst (λ (x : Bool). Decides x (SomeMember class (λ m. Begins (depth - 1) prefix m rest))) (sym is) (picks_decide (depth - 1) prefix class r rest (here rest c))))

-- any other step asks nothing
other_step : (n : ℕ) (prefix : List ℕ) (p : Part) (k : Step) (pieces : List Piece) (steps : List template.Line) (seen : Bool) (known : List (List ℕ)) (rest : Lines) →
    ((x : ℕ) → k ≡ step.Line x → ⊥) → (k ≡ step.Empty → ⊥) → (k ≡ step.Note → ⊥) → (k ≡ step.NoteAlways → ⊥) → ((x : Class) → k ≡ step.One x → ⊥) → (k ≡ step.Use → ⊥) →
    Asked n prefix p seen known ((k, pieces) ∷ steps) rest
other_step n prefix p (step.Line x) pieces steps seen known rest a b c d e f = absurd (a x refl)
other_step n prefix p step.Empty pieces steps seen known rest a b c d e f = absurd (b refl)
other_step n prefix p step.Note pieces steps seen known rest a b c d e f = absurd (c refl)
other_step n prefix p step.NoteAlways pieces steps seen known rest a b c d e f = absurd (d refl)
other_step n prefix p (step.One x) pieces steps seen known rest a b c d e f = absurd (e x refl)
other_step n prefix p step.Use pieces steps seen known rest a b c d e f = absurd (f refl)
other_step n prefix p _ pieces steps seen known rest a b c d e f = tt

asks_nothing : (depth : ℕ) (prefix : List ℕ) (p : Part) (text there : List ℕ) (items : List HeldStep) (i : ℕ) (q : HeldStep) (seen : Bool) (known : List (List ℕ)) →
    Asks depth prefix p text i seen known there → template.lines_of items ≡ steps_of p → i < length items →
    ((x : ℕ) → (get_or items i q).0 ≡ step.Line x → ⊥) → ((get_or items i q).0 ≡ step.Empty → ⊥) → ((get_or items i q).0 ≡ step.Note → ⊥) → ((get_or items i q).0 ≡ step.NoteAlways → ⊥) →
    ((x : Class) → (get_or items i q).0 ≡ step.One x → ⊥) → ((get_or items i q).0 ≡ step.Use → ⊥) → OfLines text (λ lines. Decides true (Begins depth prefix p lines))
asks_nothing depth prefix p text there items i q seen known a e lt na nb nc nd ne nf =
    decided depth prefix p text there items i q seen known true a e lt
    (λ rest c. ((λ h. other_step (depth - 1) prefix p (get_or items i q).0 (map piece (get_or items i q).1.now) (drop (i + 1) (steps_of p)) seen known rest na nb nc nd ne nf), (λ h. refl)))

-- behind the last step
asks_end : (depth : ℕ) (prefix : List ℕ) (p : Part) (text there : List ℕ) (items : List HeldStep) (i : ℕ) (seen : Bool) (known : List (List ℕ)) →
    Asks depth prefix p text i seen known there → template.lines_of items ≡ steps_of p → length items ≤ i → OfLines text (λ lines. Decides true (Begins depth prefix p lines))
asks_end depth prefix p text there items i seen known a e le lines c =
    let x = a lines c in
    let count = step_count items (steps_of p) e in
    let none : drop i (steps_of p) ≡ [] = drop_all i (steps_of p) (omega (arith, count, le)) in
    let was : Same (Asked (depth - 1) prefix p seen known [] x.0) (Begins depth prefix p lines)
    = subst (λ (ss : List template.Line). Same (Asked (depth - 1) prefix p seen known ss x.0) (Begins depth prefix p lines)) none x.2 in
    ((λ h. was.0 tt), (λ h. refl))

-- in each text that is like what is left at a cursor, up to a line: those of its lines that are left behind the first steps are like what is left at another cursor, and they are all of its lines where no line was seen
abbrev pub AsksOf : ℕ → List ℕ → Part → ℕ → Cursor → ℕ → Bool → List (List ℕ) → Cursor → Type 0
AsksOf depth prefix p line from at seen known now =
    (n : ℕ) → line ≤ n → (text : List ℕ) → Like n from text → (there : List ℕ) × Like n now there × Asks depth prefix p text at seen known there × (seen ≡ false → there ≡ text)

-- an answer on a part
abbrev pub BegunOf : ℕ → List ℕ → Part → ℕ → Cursor → Bool → Type 0
BegunOf depth prefix p line c b = OfLike line c (λ text. OfLines text (λ lines. Decides b (Begins depth prefix p lines)))

pub deep_of : (depth : ℕ) (prefix : List ℕ) (p : Part) (line : ℕ) (c : Cursor) → depth ≡ 0 → BegunOf depth prefix p line c false
deep_of depth prefix p line c z n m text like = none_deep depth prefix p text z

pub start_of : (depth : ℕ) (prefix : List ℕ) (p : Part) (line : ℕ) (c : Cursor) (known : List (List ℕ)) → 0 < depth → known ≡ [] → AsksOf depth prefix p line c 0 false known c
start_of depth prefix p line c known lt e n m text like = (text, like, asks_start depth prefix p text known lt e, λ h. refl)

-- a step that shows no line
pub quiet_of : (depth : ℕ) (prefix : List ℕ) (p : Part) (line : ℕ) (from now next : Cursor) (items : List HeldStep) (i : ℕ) (d : HeldStep) (seen later : Bool) (known new : List (List ℕ)) →
    AsksOf depth prefix p line from i seen known now → template.lines_of items ≡ steps_of p → i < length items → is_quiet (get_or items i d).0 ≡ true → later ≡ seen → new ≡ known → next ≡ now →
    AsksOf depth prefix p line from (i + 1) later new next
quiet_of depth prefix p line from now next items i d seen later known new a e lt q s k c n m text like =
    let x = a n m text like in (
      x.0,
      subst (λ (o : Cursor). Like n o x.0) (sym c) x.1,
      asks_as depth prefix p text (i + 1) seen later known new x.0 x.0 s k refl (asks_quiet depth prefix p text x.0 items i d seen known x.2 e lt q),
      λ h. x.3 (sym s ∙ h),
    )

-- a line is told by the line in front alone
pub line_first : (prefix : List ℕ) (kinds : List Kind) (pieces : List Piece) (known new : List (List ℕ)) (b : Bool) → OfFirst (AnswersLine prefix kinds pieces known new b)
line_first prefix kinds pieces known new b l lines others h = h

-- a line that is there, or isn't
pub line_of : (depth : ℕ) (prefix pre : List ℕ) (held : List Kind) (p : Part) (line looked : ℕ) (from now next : Cursor) (items : List HeldStep) (i : ℕ) (d : HeldStep) (seen later : Bool) (known new : List (List ℕ)) (b : Bool)
    (blanks : ℕ) → AsksOf depth prefix p line from i seen known now → line ≤ looked → next_number now ≤ looked → template.lines_of items ≡ steps_of p → i < length items → (get_or items i d).0 ≡ step.Line blanks → pre ≡ prefix →
    held ≡ holes_of p → b ≡ true → OfLines (left now) (AnswersLine pre held (map piece (get_or items i d).1.now) known new b) → IsTaken now next → left next ≡ behind_line (settled (left now)) → later ≡ true →
    AsksOf depth prefix p looked from (i + 1) later new next
line_of depth prefix pre held p line looked from now next items i d seen later known new b blanks a le at e lt is sp sk right reads same rest s n m text like =
    let x = a n (omega (arith, le, m)) text like in
    let pieces = map piece (get_or items i d).1.now in
    let there = first_same n now x.0 (AnswersLine pre held pieces known new b) (line_first pre held pieces known new b) (omega (arith, at, m)) x.1 reads in (
      behind_line (settled x.0),
      (moves_line n now next x.0 same rest (omega (arith, at, m)) x.1).like,
      subst (λ (o : Bool). Asks depth prefix p text (i + 1) o new (behind_line (settled x.0))) (sym s)
          (asks_line depth prefix pre held p text x.0 (behind_line (settled x.0)) items i d seen known new b blanks x.2 e lt is sp sk right there refl),
      λ h. absurd (false≢true (sym h ∙ s)),
    )

pub refused_of : (depth : ℕ) (prefix pre : List ℕ) (held : List Kind) (p : Part) (line looked : ℕ) (from now : Cursor) (items : List HeldStep) (i : ℕ) (d : HeldStep) (seen : Bool) (known new : List (List ℕ)) (b : Bool) (blanks : ℕ) →
    AsksOf depth prefix p line from i seen known now → line ≤ looked → next_number now ≤ looked → template.lines_of items ≡ steps_of p → i < length items → (get_or items i d).0 ≡ step.Line blanks → pre ≡ prefix → held ≡ holes_of p →
    b ≡ false → OfLines (left now) (AnswersLine pre held (map piece (get_or items i d).1.now) known new b) → BegunOf depth prefix p looked from false
refused_of depth prefix pre held p line looked from now items i d seen known new b blanks a le at e lt is sp sk wrong reads n m text like =
    let x = a n (omega (arith, le, m)) text like in
    let pieces = map piece (get_or items i d).1.now in
    let there = first_same n now x.0 (AnswersLine pre held pieces known new b) (line_first pre held pieces known new b) (omega (arith, at, m)) x.1 reads in
    asks_refused depth prefix pre held p text x.0 items i d seen known new b blanks x.2 e lt is sp sk wrong there

-- a use, a part below, and any other step
pub use_of : (depth : ℕ) (prefix : List ℕ) (p : Part) (line looked : ℕ) (from now : Cursor) (items : List HeldStep) (i : ℕ) (d : HeldStep) (seen : Bool) (known : List (List ℕ)) (b : Bool) →
    AsksOf depth prefix p line from i seen known now → line ≤ looked → template.lines_of items ≡ steps_of p → i < length items → (get_or items i d).0 ≡ step.Use →
    OfLike looked now (λ text. OfLines text (λ rest. Decides b (IsUseFirst rest))) → BegunOf depth prefix p looked from b
use_of depth prefix p line looked from now items i d seen known b a le e lt is uses n m text like =
    let x = a n (omega (arith, le, m)) text like in
    asks_use depth prefix p text x.0 items i d seen known b x.2 e lt is (uses n m x.0 x.1)

pub seen_of : (depth : ℕ) (prefix : List ℕ) (p : Part) (line : ℕ) (from now : Cursor) (items : List HeldStep) (i : ℕ) (d : HeldStep) (seen : Bool) (known : List (List ℕ)) (class : Class) (b : Bool) →
    AsksOf depth prefix p line from i seen known now → template.lines_of items ≡ steps_of p → i < length items → (get_or items i d).0 ≡ step.One class → seen ≡ true → b ≡ true → BegunOf depth prefix p line from b
seen_of depth prefix p line from now items i d seen known class b a e lt one s right n m text like =
    let x = a n m text like in
    asks_seen depth prefix p text x.0 items i d seen known class b x.2 e lt one s right

pub one_of : (depth : ℕ) (prefix pre : List ℕ) (p : Part) (line looked : ℕ) (from now at : Cursor) (items : List HeldStep) (i : ℕ) (d : HeldStep) (seen : Bool) (known : List (List ℕ)) (class : Class) (r : Option Part) (b : Bool) →
    AsksOf depth prefix p line from i seen known now → line ≤ looked → template.lines_of items ≡ steps_of p → i < length items → (get_or items i d).0 ≡ step.One class → seen ≡ false → b ≡ is_some r → pre ≡ prefix → at ≡ from →
    OfLike looked at (λ text. OfLines text (Picks (depth - 1) pre class r)) → BegunOf depth prefix p looked from b
one_of depth prefix pre p line looked from now at items i d seen known class r b a le e lt one s is sp same picks n m text like =
    let x = a n (omega (arith, le, m)) text like in
    asks_one depth prefix pre p text x.0 text items i d seen known class r b x.2 e lt one s is sp (sym (x.3 s)) (picks n m text (subst (λ (o : Cursor). Like n o text) (sym same) like))

pub nothing_of : (depth : ℕ) (prefix : List ℕ) (p : Part) (line : ℕ) (from now : Cursor) (items : List HeldStep) (i : ℕ) (q : HeldStep) (seen : Bool) (known : List (List ℕ)) →
    AsksOf depth prefix p line from i seen known now → template.lines_of items ≡ steps_of p → i < length items →
    ((x : ℕ) → (get_or items i q).0 ≡ step.Line x → ⊥) → ((get_or items i q).0 ≡ step.Empty → ⊥) → ((get_or items i q).0 ≡ step.Note → ⊥) → ((get_or items i q).0 ≡ step.NoteAlways → ⊥) →
    ((x : Class) → (get_or items i q).0 ≡ step.One x → ⊥) → ((get_or items i q).0 ≡ step.Use → ⊥) → BegunOf depth prefix p line from true
nothing_of depth prefix p line from now items i q seen known a e lt na nb nc nd ne nf n m text like =
    let x = a n m text like in
    asks_nothing depth prefix p text x.0 items i q seen known x.2 e lt na nb nc nd ne nf

pub end_of : (depth : ℕ) (prefix : List ℕ) (p : Part) (line : ℕ) (from now : Cursor) (items : List HeldStep) (i : ℕ) (seen : Bool) (known : List (List ℕ)) →
    AsksOf depth prefix p line from i seen known now → template.lines_of items ≡ steps_of p → length items ≤ i → BegunOf depth prefix p line from true
end_of depth prefix p line from now items i seen known a e le n m text like =
    let x = a n m text like in
    asks_end depth prefix p text x.0 items i seen known x.2 e le
