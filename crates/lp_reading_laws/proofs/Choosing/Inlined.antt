-- Where a line begins otherwise than those of inlined actions, none are read.
use Rattle.std.proofs.Common.{◌≡◌, ℕ, ◌<◌, zero, suc, true, false, List, [], ◌∷◌, ◌++◌, length, codes, Some, refl, sym, ◌∙◌, ap, subst, arith, eqb, append_assoc}
use Rattle.std.specs.List.{starts_with}
use Rattle.std.proofs.lemmas.Bool.{both_ways, or_left, or_right}
use Rattle.lp_form.specs.Classes.{members_of}
use Rattle.lp_form.specs.Templates.{Piece, steps_of, holes_of}
use Rattle.lp_form.specs.Templates as template
use Rattle.lp_form.specs.declared.class.Class.{Class}
use Rattle.lp_form.specs.declared.class.Class.TheVariants as class_of
use Rattle.lp_form.specs.declared.part.Part.{Part}
use Rattle.lp_form.specs.declared.part.Part.TheVariants as part
use Rattle.lp_form.specs.declared.template.Kind.{Kind}
use Rattle.lp_form.specs.declared.template.Slot.{Slot}
use Rattle.lp_form.specs.declared.template.Slot.TheVariants.{Prefix}
use Rattle.lp_form.specs.declared.template.Step.TheVariants as step
use Rattle.lp_spelling.specs.Counting.{settled, front_line}
use Rattle.lp_spelling.specs.Lines.{slot_text, line_of}
use Rattle.lp_spelling.proofs.Reading.{starts_again}
use Rattle.lp_program.specs.Begins.{Lines, member, SomeMember, ReadsFirst, StepsBegin, Begins}
use Rattle.lp_program.specs.Looking.{AreCounted, Picks}
use Rattle.lp_program.specs.Trees.{Forest}
use Rattle.lp_program.specs.Trees.Forest.{bare}
use Rattle.lp_program.proofs.Spelled.{line_spelled}
use Rattle.lp_program.specs.Choosing.{Reading, SeenLines, AnyChosen, ManyChosen, BelowChosen, StepsChosen, PartChosen}
use Rattle.lp_reading_laws.specs.Holes.Inlined.{begins_inlined}
use Rattle.lp_reading_laws.specs.Choosing.Laws.{OthersAreNoInlined}
use Rattle.lp_program.specs.Telling.{untold}

-- the line in front is spelled by the first line of a part
record Spells (prefix : List ℕ) (pieces : List Piece) (lines : Lines) : Type 0 where
  line : List ℕ
  others : Lines
  lines_are : lines ≡ line ∷ others
  holes : List (List ℕ)
  spelled : line ≡ line_of prefix holes pieces

first_spelled : (prefix : List ℕ) (kinds : List Kind) (pieces : List Piece) (lines : Lines) (Next : List (List ℕ) → Lines → Type 0) → ReadsFirst prefix kinds pieces [] lines Next → Spells prefix pieces lines
first_spelled prefix kinds pieces [] Next r = absurd r
first_spelled prefix kinds pieces (l ∷ others) Next r = record { line = l; others = others; lines_are = refl; holes = r.0; spelled = (line_spelled prefix kinds pieces [] l r.0 r.1).0 }

part_spelled : (depth : ℕ) (prefix : List ℕ) (p : Part) (blanks : ℕ) (pieces : List Piece) (others : List template.Line) (lines : Lines) → steps_of p ≡ (step.Line blanks, pieces) ∷ others → Begins depth prefix p lines → Spells prefix pieces lines
unfolding Begins
part_spelled zero prefix p blanks pieces others lines e begins = absurd begins
part_spelled (suc depth) prefix p blanks pieces others lines e begins =
    first_spelled prefix (holes_of p) pieces lines _
    (subst (λ ss. StepsBegin (λ class rest. SomeMember class (λ m. Begins depth prefix m rest)) prefix (holes_of p) false [] ss lines) e begins)

-- how the lines of spans, calls and outer calls begin
let_begins : (prefix : List ℕ) (holes : List (List ℕ)) (others : List Piece) → begins_inlined prefix (line_of prefix holes ((codes "let ", Prefix) ∷ others)) ≡ true
unfolding line_of
let_begins prefix holes others = or_left (starts_with eqb ((codes "let " ++ prefix) ++ line_of prefix holes others) (codes "let " ++ prefix)) _ (starts_again (codes "let " ++ prefix) (line_of prefix holes others))

-- a call behind a front
call_front : (front prefix x y : List ℕ) → (front ++ prefix) ++ ((codes "action" ++ x) ++ y) ≡ (front ++ (prefix ++ codes "action")) ++ (x ++ y)
call_front front prefix x y =
    ap (λ (z : List ℕ). (front ++ prefix) ++ z) (append_assoc (codes "action") x y)
    ∙ sym (append_assoc (front ++ prefix) (codes "action") (x ++ y))
    ∙ ap (λ (z : List ℕ). z ++ (x ++ y)) (append_assoc front prefix (codes "action"))

call_begins : (prefix : List ℕ) (holes : List (List ℕ)) (s : Slot) (others : List Piece) → begins_inlined prefix (line_of prefix holes (([], Prefix) ∷ (codes "action", s) ∷ others)) ≡ true
unfolding line_of
call_begins prefix holes s others =
    let x : List ℕ = slot_text prefix holes s in
    let y : List ℕ = line_of prefix holes others in
    let call : List ℕ = prefix ++ ((codes "action" ++ x) ++ y) in
    or_right (starts_with eqb call (codes "let " ++ prefix)) _
    (or_left (starts_with eqb call (prefix ++ codes "action")) _ (ap (λ (z : List ℕ). starts_with eqb z (prefix ++ codes "action")) (call_front [] prefix x y) ∙ starts_again (prefix ++ codes "action") (x ++ y)))

ok_begins : (prefix : List ℕ) (holes : List (List ℕ)) (s : Slot) (others : List Piece) → begins_inlined prefix (line_of prefix holes ((codes "Ok(", Prefix) ∷ (codes "action", s) ∷ others)) ≡ true
unfolding line_of
ok_begins prefix holes s others =
    let x : List ℕ = slot_text prefix holes s in
    let y : List ℕ = line_of prefix holes others in
    let call : List ℕ = (codes "Ok(" ++ prefix) ++ ((codes "action" ++ x) ++ y) in
    let front : List ℕ = codes "Ok(" ++ (prefix ++ codes "action") in
    or_right (starts_with eqb call (codes "let " ++ prefix)) _
    (or_right (starts_with eqb call (prefix ++ codes "action")) _ (ap (λ (z : List ℕ). starts_with eqb z front) (call_front (codes "Ok(") prefix x y) ∙ starts_again front (x ++ y)))

-- the parts among inlined actions, by their first line
abbrev IsFirst : List ℕ → Lines → Type 0
IsFirst prefix lines = (line : List ℕ) × (others : Lines) × (lines ≡ line ∷ others) × (begins_inlined prefix line ≡ true)

is_first : (prefix : List ℕ) (pieces : List Piece) (lines : Lines) → ((holes : List (List ℕ)) → begins_inlined prefix (line_of prefix holes pieces) ≡ true) → Spells prefix pieces lines → IsFirst prefix lines
is_first prefix pieces lines begins s = (s.line, s.others, s.lines_are, ap (begins_inlined prefix) s.spelled ∙ begins s.holes)

-- the first line of a part, and the steps behind it
abbrev FirstLine : Part → List Piece → Type 0
FirstLine p pieces = (others : List template.Line) × (steps_of p ≡ (step.Line 0, pieces) ∷ others)

by_first : (depth : ℕ) (prefix : List ℕ) (p : Part) (pieces : List Piece) (lines : Lines) → FirstLine p pieces → ((holes : List (List ℕ)) → begins_inlined prefix (line_of prefix holes pieces) ≡ true) → Begins depth prefix p lines → IsFirst prefix lines
by_first depth prefix p pieces lines f begins b = is_first prefix pieces lines begins (part_spelled depth prefix p 0 pieces f.0 lines f.1 b)

abbrev LetFirst : Part → Type 0
LetFirst p = (others : List Piece) × FirstLine p ((codes "let ", Prefix) ∷ others)

abbrev CallFirst : Part → List ℕ → Type 0
CallFirst p front = (s : Slot) × (others : List Piece) × FirstLine p ((front, Prefix) ∷ (codes "action", s) ∷ others)

let_first : (depth : ℕ) (prefix : List ℕ) (p : Part) (lines : Lines) → LetFirst p → Begins depth prefix p lines → IsFirst prefix lines
let_first depth prefix p lines f b = by_first depth prefix p _ lines f.1 (λ holes. let_begins prefix holes f.0) b

call_first : (depth : ℕ) (prefix : List ℕ) (p : Part) (lines : Lines) → CallFirst p [] → Begins depth prefix p lines → IsFirst prefix lines
call_first depth prefix p lines f b = by_first depth prefix p _ lines f.2 (λ holes. call_begins prefix holes f.0 f.1) b

ok_first : (depth : ℕ) (prefix : List ℕ) (p : Part) (lines : Lines) → CallFirst p (codes "Ok(") → Begins depth prefix p lines → IsFirst prefix lines
ok_first depth prefix p lines f b = by_first depth prefix p _ lines f.2 (λ holes. ok_begins prefix holes f.0 f.1) b

span_let : LetFirst part.InlineSpan
unfolding steps_of
span_let = (_, (_, refl))

plain_let : LetFirst part.InlineCall
unfolding steps_of
plain_let = (_, (_, refl))

typed_let : LetFirst part.InlineCallTyped
unfolding steps_of
typed_let = (_, (_, refl))

outer_call : CallFirst part.OuterCall []
unfolding steps_of
outer_call = (_, _, (_, refl))

typed_call : CallFirst part.OuterCallTyped []
unfolding steps_of
typed_call = (_, _, (_, refl))

outer_ok : CallFirst part.OuterCallOk (codes "Ok(")
unfolding steps_of
outer_ok = (_, _, (_, refl))

typed_ok : CallFirst part.OuterCallOkTyped (codes "Ok(")
unfolding steps_of
typed_ok = (_, _, (_, refl))

-- what is picked of a class
span_first : (depth i : ℕ) (prefix : List ℕ) (lines : Lines) → i < length (members_of class_of.InlineSpan) → Begins depth prefix (member class_of.InlineSpan i) lines → IsFirst prefix lines
unfolding members_of
span_first depth zero prefix lines lt b = let_first depth prefix part.InlineSpan lines span_let b
span_first depth (suc i) prefix lines lt b = absurd (omega arith)

inline_first : (depth i : ℕ) (prefix : List ℕ) (lines : Lines) → i < length (members_of class_of.InlineCall) → Begins depth prefix (member class_of.InlineCall i) lines → IsFirst prefix lines
unfolding members_of
inline_first depth zero prefix lines lt b = let_first depth prefix part.InlineCall lines plain_let b
inline_first depth (suc zero) prefix lines lt b = let_first depth prefix part.InlineCallTyped lines typed_let b
inline_first depth (suc (suc i)) prefix lines lt b = absurd (omega arith)

outer_first : (depth i : ℕ) (prefix : List ℕ) (lines : Lines) → i < length (members_of class_of.OuterCall) → Begins depth prefix (member class_of.OuterCall i) lines → IsFirst prefix lines
unfolding members_of
outer_first depth zero prefix lines lt b = call_first depth prefix part.OuterCall lines outer_call b
outer_first depth (suc zero) prefix lines lt b = call_first depth prefix part.OuterCallTyped lines typed_call b
outer_first depth (suc (suc zero)) prefix lines lt b = ok_first depth prefix part.OuterCallOk lines outer_ok b
outer_first depth (suc (suc (suc zero))) prefix lines lt b = ok_first depth prefix part.OuterCallOkTyped lines typed_ok b
outer_first depth (suc (suc (suc (suc i)))) prefix lines lt b = absurd (omega arith)

-- the next line of a text is not such
abbrev Other : List ℕ → List ℕ → Type 0
Other prefix text = begins_inlined prefix (front_line (settled text)) ≡ false

not_first : (prefix text : List ℕ) (lines : Lines) → Other prefix text → AreCounted text lines → IsFirst prefix lines → ⊥
not_first prefix text [] other c f = absurd (omega (arith, ap length f.2))
not_first prefix text (l ∷ others) other c f =
    let same : l ≡ f.0 = ap (λ (x : Lines). first_of x l) f.2 in
    both_ways (begins_inlined prefix (front_line (settled text))) other (ap (begins_inlined prefix) (c.1.line_is ∙ same) ∙ f.3)
  where
    first_of : Lines → List ℕ → List ℕ
    first_of [] d = d
    first_of (x ∷ xs) d = x

not_picked : (depth : ℕ) (prefix : List ℕ) (class : Class) (p : Part) (text : List ℕ) → ((i : ℕ) (lines : Lines) → i < length (members_of class) → Begins depth prefix (member class i) lines → IsFirst prefix lines) → Other prefix text →
    SeenLines text (Picks depth prefix class (Some p)) → ⊥
not_picked depth prefix class p text first other seen =
    let picked = seen.2 in
    not_first prefix text seen.0 other seen.1 (first picked.0 seen.0 picked.1 (subst (λ q. Begins depth prefix q seen.0) picked.2 picked.3))

none_chosen : (depth : ℕ) (prefix : List ℕ) (class : Class) (Each : Part → Forest → Reading) (f : Forest) (text rest : List ℕ) → ((i : ℕ) (lines : Lines) → i < length (members_of class) → Begins depth prefix (member class i) lines → IsFirst prefix lines) → Other prefix text →
    AnyChosen depth prefix Each class bare f text rest → rest ≡ text
none_chosen depth prefix class Each f text rest first other any = by_number any.0 any.1
  where
    by_number : (n : ℕ) → ManyChosen depth prefix Each class n bare f text rest → rest ≡ text
    by_number zero m = m.1.1
    by_number (suc n) m = absurd (not_picked depth prefix class m.0 text first other m.1)

inline_steps : steps_of part.InlineBody ≡ (step.Many class_of.InlineSpan, []) ∷ (step.Many class_of.InlineCall, []) ∷ (step.One class_of.OuterCall, []) ∷ []
unfolding steps_of
inline_steps = refl

unread : (depth : ℕ) (prefix : List ℕ) (f : Forest) (text rest : List ℕ) → Other prefix text → PartChosen depth prefix part.InlineBody f text rest → ⊥
unfolding PartChosen members_of
unread zero prefix f text rest other r = absurd r
unread (suc depth) prefix f text rest other r =
    let Parts : Part → Reading = PartChosen depth prefix in
    let all : StepsChosen (BelowChosen depth prefix Parts) prefix part.InlineBody bare ((step.Many class_of.InlineSpan, []) ∷ (step.Many class_of.InlineCall, []) ∷ (step.One class_of.OuterCall, []) ∷ []) untold r.0 r.1 text rest
    = subst (λ ss. StepsChosen (BelowChosen depth prefix Parts) prefix part.InlineBody bare ss untold r.0 r.1 text rest) inline_steps r.4 in
    let spans = all.1 in
    let own : spans.reads.own ≡ text = spans.reads.tells.1 in
    let no_spans : Other prefix spans.reads.own = subst (λ (x : List ℕ). Other prefix x) (sym own) other in
    let first : spans.mid ≡ spans.reads.own = none_chosen depth prefix class_of.InlineSpan _ spans.first spans.reads.own spans.mid (λ i lines lt b. span_first depth i prefix lines lt b) no_spans spans.reads.reads in
    let calls = spans.goes_on.1 in
    let there : calls.reads.own ≡ text = calls.reads.tells.1 ∙ first ∙ own in
    let no_calls : Other prefix calls.reads.own = subst (λ (x : List ℕ). Other prefix x) (sym there) other in
    let second : calls.mid ≡ calls.reads.own = none_chosen depth prefix class_of.InlineCall _ calls.first calls.reads.own calls.mid (λ i lines lt b. inline_first depth i prefix lines lt b) no_calls calls.reads.reads in
    let outer = calls.goes_on.1 in
    let last : outer.reads.own ≡ text = outer.reads.tells.1 ∙ second ∙ there in
    let chosen = outer.reads.reads in
    not_picked depth prefix class_of.OuterCall chosen.0 outer.reads.own (λ i lines lt b. outer_first depth i prefix lines lt b) (subst (λ (x : List ℕ). Other prefix x) (sym last) other) chosen.1

pub others_are_no_inlined : OthersAreNoInlined
others_are_no_inlined prefix text depth other f rest inlined = unread depth prefix f text rest other inlined.0
