-- A reader that tries the parts of a class, and one that sees a line.
use Rattle.std.proofs.Common.{◌≡◌, ℕ, ◌+◌, ◌<◌, ◌≤◌, ◌==◌, Bool, true, false, List, [], ◌∷◌, length, get_or, Option, Some, None, ⊎_elim, refl, sym, ap, ◌∙◌, arith, subst}
use Rattle.std.specs.Bool.{Decides, MatchBool}
use Rattle.std.proofs.lemmas.Bool.{cases_lt, false≢true, false_from_ne_true, eqb-true, eq-eqb}
use Rattle.std.proofs.lemmas.List.{get_or_default}
use Rattle.lp_form.specs.Classes.{members_of}
use Rattle.lp_form.specs.Templates.{Piece}
use Rattle.lp_form.specs.declared.class.Class.{Class}
use Rattle.lp_form.specs.declared.part.Part.{Part}
use Rattle.lp_form.specs.declared.part.Part.TheVariants as part
use Rattle.lp_form.specs.declared.template.Kind.{Kind}
use Rattle.lp_spelling.specs.Counting.{settled, front_line}
use Rattle.lp_spelling.specs.LineReading.{line_at, ReadsLine}
use Rattle.lp_spelling.specs.declared.cursor.Cursor.{Cursor}
use Rattle.lp_program.specs.Begins.{member, Begins}
use Rattle.lp_program.specs.Looking.{OfLines, AnswersLine, NoneBegun, Picks, Chooses}
use Rattle.lp_program.specs.Nearby.{Like, OfLike}

-- the line in front is read
pub line_answered : (prefix : List ℕ) (kinds : List Kind) (pieces : List Piece) (old new : List (List ℕ)) (text l : List ℕ) (b : Bool) → l ≡ front_line (settled text) → 0 < length (settled text) →
    ReadsLine prefix kinds old new (line_at prefix kinds pieces old l) b → OfLines text (AnswersLine prefix kinds pieces old new b)
line_answered prefix kinds pieces old new text l b e some r [] c = absurd (omega (arith, ap length c, some))
line_answered prefix kinds pieces old new text l b e some r (x ∷ lines) c =
    subst (λ (y : List ℕ). ReadsLine prefix kinds old new (line_at prefix kinds pieces old y) b) (e ∙ c.1.line_is) r

-- before the first part of a class
none_start : (depth : ℕ) (prefix : List ℕ) (class : Class) (text : List ℕ) → OfLines text (NoneBegun depth prefix class 0)
none_start depth prefix class text lines c i lt = absurd (omega (arith, lt))

member_is : (class : Class) (ps : List Part) (n : ℕ) (d : Part) → ps ≡ members_of class → n < length ps → get_or ps n d ≡ member class n
member_is class ps n d e lt = get_or_default ps n d part.Program lt ∙ ap (λ (xs : List Part). get_or xs n part.Program) e

here : (depth : ℕ) (prefix pre : List ℕ) (text from : List ℕ) (q : Part) (b : Bool) → pre ≡ prefix → from ≡ text → OfLines from (λ lines. Decides b (Begins depth pre q lines)) →
    OfLines text (λ lines. Decides b (Begins depth prefix q lines))
here depth prefix pre text from q b sp sf h =
    subst (λ (x : List ℕ). OfLines text (λ lines. Decides b (Begins depth x q lines))) sp (subst (λ (x : List ℕ). OfLines x (λ lines. Decides b (Begins depth pre q lines))) sf h)

-- one that isn't begun
none_more : (depth : ℕ) (prefix pre : List ℕ) (class : Class) (text from : List ℕ) (ps : List Part) (n : ℕ) (d : Part) (b : Bool) → OfLines text (NoneBegun depth prefix class n) → ps ≡ members_of class → n < length ps →
    pre ≡ prefix → from ≡ text → b ≡ false → OfLines from (λ lines. Decides b (Begins depth pre (get_or ps n d) lines)) → OfLines text (NoneBegun depth prefix class (n + 1))
none_more depth prefix pre class text from ps n d b none e within sp sf wrong h lines c i lt x =
    ⊎_elim (λ (less : i < n). none lines c i less x)
    (λ (le : n ≤ i).
    let at : i ≡ n = omega (arith, le, lt) in
    let is : member class i ≡ get_or ps n d = ap (λ (k : ℕ). member class k) at ∙ sym (member_is class ps n d e within) in
    let told = here depth prefix pre text from (get_or ps n d) b sp sf h lines c in
    false≢true (sym wrong ∙ told.1 (subst (λ (m : Part). Begins depth prefix m lines) is x)))
    (cases_lt i n)

-- the first that is
picked : (depth : ℕ) (prefix pre : List ℕ) (class : Class) (text from : List ℕ) (ps : List Part) (n : ℕ) (d : Part) (b : Bool) → OfLines text (NoneBegun depth prefix class n) → ps ≡ members_of class → n < length ps →
    pre ≡ prefix → from ≡ text → b ≡ true → OfLines from (λ lines. Decides b (Begins depth pre (get_or ps n d) lines)) → OfLines text (Picks depth prefix class (Some (get_or ps n d)))
picked depth prefix pre class text from ps n d b none e within sp sf right h lines c =
    let told = here depth prefix pre text from (get_or ps n d) b sp sf h lines c in
    (n, subst (λ (xs : List Part). n < length xs) e within, member_is class ps n d e within, told.0 right, none lines c)

-- none is
no_pick : (depth : ℕ) (prefix : List ℕ) (class : Class) (text : List ℕ) (ps : List Part) (n : ℕ) → OfLines text (NoneBegun depth prefix class n) → ps ≡ members_of class → length ps ≤ n →
    OfLines text (Picks depth prefix class None)
no_pick depth prefix class text ps n none e le lines c i lt = let size = ap length e in none lines c i (omega (arith, size, lt, le))

-- the one part of a class
pub chosen_one : (depth : ℕ) (prefix : List ℕ) (class : Class) (text : List ℕ) (ps : List Part) (d : Part) → ps ≡ members_of class → length ps ≡ 1 → OfLines text (Chooses depth prefix class (Some (get_or ps 0 d)))
chosen_one depth prefix class text ps d e one lines c =
    let alone : (length (members_of class) == 1) ≡ true = eq-eqb (length (members_of class)) 1 (sym (ap length e) ∙ one) in
    let is : Some (get_or ps 0 d) ≡ Some (member class 0) = ap (λ (p : Part). Some p) (member_is class ps 0 d e (omega (arith, one))) in
    subst (λ (b : Bool). MatchBool b (Some (get_or ps 0 d) ≡ Some (member class 0)) (Picks depth prefix class (Some (get_or ps 0 d)) lines)) (sym alone) is

-- one of several, or of none
pub chosen_picked : (depth : ℕ) (prefix : List ℕ) (class : Class) (text : List ℕ) (ps : List Part) (r : Option Part) → ps ≡ members_of class → (length ps ≡ 1 → ⊥) → OfLines text (Picks depth prefix class r) →
    OfLines text (Chooses depth prefix class r)
chosen_picked depth prefix class text ps r e several picks lines c =
    let others : (length (members_of class) == 1) ≡ false = false_from_ne_true _ (λ h. several (ap length e ∙ eqb-true (length (members_of class)) 1 h)) in
    subst (λ (b : Bool). MatchBool b (r ≡ Some (member class 0)) (Picks depth prefix class r lines)) (sym others) (picks lines c)

-- the same in each text that is like what is left at a cursor
abbrev pub NoneOf : ℕ → List ℕ → Class → ℕ → Cursor → ℕ → Type 0
NoneOf depth prefix class line c count = OfLike line c (λ text. OfLines text (NoneBegun depth prefix class count))

pub none_of : (depth : ℕ) (prefix : List ℕ) (class : Class) (line : ℕ) (c : Cursor) → NoneOf depth prefix class line c 0
none_of depth prefix class line c n m text like = none_start depth prefix class text

pub more_of : (depth : ℕ) (prefix pre : List ℕ) (class : Class) (line looked : ℕ) (c at : Cursor) (ps : List Part) (n : ℕ) (d : Part) (b : Bool) → NoneOf depth prefix class line c n → line ≤ looked → ps ≡ members_of class → n < length ps →
    pre ≡ prefix → at ≡ c → b ≡ false → OfLike looked at (λ text. OfLines text (λ lines. Decides b (Begins depth pre (get_or ps n d) lines))) → NoneOf depth prefix class looked c (n + 1)
more_of depth prefix pre class line looked c at ps n d b none le e within sp same wrong h k m text like =
    none_more depth prefix pre class text text ps n d b (none k (omega (arith, le, m)) text like) e within sp refl wrong (h k m text (subst (λ (o : Cursor). Like k o text) (sym same) like))

pub picked_of : (depth : ℕ) (prefix pre : List ℕ) (class : Class) (line looked : ℕ) (c at : Cursor) (ps : List Part) (n : ℕ) (d : Part) (b : Bool) → NoneOf depth prefix class line c n → line ≤ looked → ps ≡ members_of class → n < length ps →
    pre ≡ prefix → at ≡ c → b ≡ true → OfLike looked at (λ text. OfLines text (λ lines. Decides b (Begins depth pre (get_or ps n d) lines))) →
    OfLike looked c (λ text. OfLines text (Picks depth prefix class (Some (get_or ps n d))))
picked_of depth prefix pre class line looked c at ps n d b none le e within sp same right h k m text like =
    picked depth prefix pre class text text ps n d b (none k (omega (arith, le, m)) text like) e within sp refl right (h k m text (subst (λ (o : Cursor). Like k o text) (sym same) like))

pub no_pick_of : (depth : ℕ) (prefix : List ℕ) (class : Class) (line : ℕ) (c : Cursor) (ps : List Part) (n : ℕ) → NoneOf depth prefix class line c n → ps ≡ members_of class → length ps ≤ n →
    OfLike line c (λ text. OfLines text (Picks depth prefix class None))
no_pick_of depth prefix class line c ps n none e le k m text like = no_pick depth prefix class text ps n (none k m text like) e le
