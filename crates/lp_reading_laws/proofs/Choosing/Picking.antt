-- The part of a class that the lines of a text pick, where the text reads as trees whose first part it is; and that they pick none.
use Rattle.std.proofs.Common.{◌≡◌, ℕ, suc, Bool, true, false, ◌==◌, MatchBool, List, length, Some, None, refl, ◌∙◌, ap, arith}
use Rattle.std.specs.Str.{IsUtf8}
use Rattle.std.proofs.lemmas.Bool.{eqb-true}
use Rattle.lp_form.specs.Classes.{members_of}
use Rattle.lp_form.specs.declared.class.Class.{Class}
use Rattle.lp_form.specs.declared.part.Part.{Part}
use Rattle.lp_reading_laws.specs.Holes.Found.{are_words}
use Rattle.lp_program.specs.Begins.{Lines, member}
use Rattle.lp_program.specs.Looking.{AreCounted, Picks, Chooses}
use Rattle.lp_program.specs.Printed.{is_member}
use Rattle.lp_program.specs.Reads.{Reads}
use Rattle.lp_program.specs.Reads.Task.{trees}
use Rattle.lp_program.specs.Trees.{Content, Forest}
use Rattle.lp_program.specs.Trees.Forest.{tree}
use Rattle.lp_reading_laws.specs.FirstLines.ApartTests.{is_body}
use Rattle.lp_reading_laws.specs.FirstLines.Behind.{BeginNoMember}
use Rattle.lp_reading_laws.specs.Texts.Laws.{AreParted}
use Rattle.lp_reading_laws.specs.Texts.TextLines.{HasLines}
use Rattle.lp_reading_laws.specs.Texts.TextLines.HasLines.{no_line, one_line}
use Rattle.lp_reading_laws.proofs.Texts.Parts.{member_place}
use Rattle.lp_reading_laws.proofs.Texts.Existing.{lines_exist}
use Rattle.lp_reading_laws.proofs.Texts.Law.{trees_chosen}
use Rattle.lp_reading_laws.proofs.Texts.Begun.{trees_begun}
use Rattle.lp_program.specs.Choosing.{SeenLines}

-- the lines of a text
pub counted : (text : List ℕ) (lines : Lines) → HasLines text lines → AreCounted text lines
counted _ _ (no_line text e) = e
counted _ _ (one_line text lines some h) = (_, record { some = some; line_is = refl; rest_is = refl }, counted _ lines h)

pub seen : (text : List ℕ) (Holds : Lines → Type 0) → IsUtf8 text → ((lines : Lines) → HasLines text lines → Holds lines) → SeenLines text Holds
seen text Holds u f = let l = lines_exist text u in (l.0, counted text l.0 l.1, f l.0 l.1)

-- trees that a text reads as, whose holes are parted, under a prefix of word bytes
pub record Standing (prefix : List ℕ) (c : Content) (below after : Forest) (text rest : List ℕ) : Type 0 where
  pub words : are_words prefix ≡ true
  pub parted : AreParted prefix (tree c below after)
  pub reads : Reads prefix (trees (tree c below after)) text rest

pub picks_first : (prefix : List ℕ) (class : Class) (c : Content) (below after : Forest) (text rest : List ℕ) (n : ℕ) (lines : Lines) → is_body class ≡ false → is_member class c.part ≡ true →
    Standing prefix c below after text rest → HasLines text lines → Picks (suc (suc n)) prefix class (Some c.part) lines
picks_first prefix class c below after text rest n lines body m s h =
    let at = member_place class c.part m in (
      at.0,
      at.1,
      at.2,
      trees_begun prefix c below after text rest lines n s.words s.parted s.reads h,
      λ i lt begins. trees_chosen prefix class i at.0 c below after text rest lines (suc (suc n)) s.words body lt at.1 at.2 s.reads h begins,
    )

pub seen_first : (prefix : List ℕ) (class : Class) (c : Content) (below after : Forest) (text rest : List ℕ) (n : ℕ) → IsUtf8 text → is_body class ≡ false → is_member class c.part ≡ true →
    Standing prefix c below after text rest → SeenLines text (Picks (suc (suc n)) prefix class (Some c.part))
seen_first prefix class c below after text rest n u body m s =
    seen text (Picks (suc (suc n)) prefix class (Some c.part)) u (λ lines h. picks_first prefix class c below after text rest n lines body m s h)

-- the only part of a class
only_part : (class : Class) (p : Part) → is_member class p ≡ true → length (members_of class) ≡ 1 → p ≡ member class 0
only_part class p m e =
    let at = member_place class p m in
    let lt = at.1 in
    let zero_at : at.0 ≡ 0 = omega (arith, lt, e) in
    at.2 ∙ ap (λ i. member class i) zero_at

by_count : (b : Bool) (A B : Type 0) → (b ≡ true → A) → (b ≡ false → B) → MatchBool b A B
by_count true A B f g = f refl
by_count false A B f g = g refl

pub seen_chosen : (prefix : List ℕ) (class : Class) (c : Content) (below after : Forest) (text rest : List ℕ) (n : ℕ) → IsUtf8 text → is_body class ≡ false → is_member class c.part ≡ true →
    Standing prefix c below after text rest → SeenLines text (Chooses (suc (suc n)) prefix class (Some c.part))
seen_chosen prefix class c below after text rest n u body m s =
    seen text (Chooses (suc (suc n)) prefix class (Some c.part)) u (λ lines h.
    by_count (length (members_of class) == 1) (Some c.part ≡ Some (member class 0)) (Picks (suc (suc n)) prefix class (Some c.part) lines)
    (λ e. ap (λ (p : Part). Some p) (only_part class c.part m (eqb-true (length (members_of class)) 1 e)))
    (λ e. picks_first prefix class c below after text rest n lines body m s h))

-- none is begun
pub seen_none : (depth : ℕ) (prefix : List ℕ) (class : Class) (text : List ℕ) → IsUtf8 text → ((lines : Lines) → HasLines text lines → BeginNoMember prefix class lines) → SeenLines text (Picks depth prefix class None)
seen_none depth prefix class text u f = seen text (Picks depth prefix class None) u (λ lines h i lt begins. f lines h i depth lt begins)
