-- Where a text begins user code, the user code is completed in front of a `}`.
use Rattle.std.proofs.Common.{◌≡◌, ℕ, ◌==◌, ◌+◌, suc, true, false, List, [], ◌∷◌, ◌++◌, length, take, drop, codes, refl, sym, ap, ◌∙◌, subst, arith, append-nil}
use Rattle.std.specs.Str.{IsUtf8, chars, trim_start, skip_leading_whitespace, encode_utf8_all}
use Rattle.std.proofs.lemmas.Bool.{eqb-true, both_ways}
use Rattle.std.proofs.lemmas.Str.{encode_ascii}
use Rattle.lp_form.specs.Templates.{Piece, steps_of, holes_of}
use Rattle.lp_form.specs.Templates as template
use Rattle.lp_form.specs.declared.part.Part.{Part}
use Rattle.lp_form.specs.declared.part.Part.TheVariants as part
use Rattle.lp_form.specs.declared.template.Step.{Step}
use Rattle.lp_form.specs.declared.template.Step.TheVariants as step
use Rattle.lp_spelling.specs.Counting.{line_len, front_line, is_skipped, settled}
use Rattle.lp_spelling.proofs.Counting.{settled_counts}
use Rattle.lp_spelling.proofs.Reading.{starts_ok}
use Rattle.lp_program.specs.CodeReading.{without_feed, IsCode}
use Rattle.lp_program.specs.Reads.{may_have, parts_in, Task, Reads, trees}
use Rattle.lp_program.specs.Reads.Reads.{no_tree, one_tree, no_step, one_step}
use Rattle.lp_program.specs.Starting.{below_step, steps_left, goes_on}
use Rattle.lp_program.specs.Telling.{Told, untold, TellsText, TellsOwn}
use Rattle.lp_program.specs.Trees.{Content, Forest, tree_count}
use Rattle.lp_program.specs.Trees.Forest.{bare, tree}
use Rattle.lp_reading_laws.specs.Printing.TemplateTests.{has_code}
use Rattle.lp_reading_laws.proofs.Printing.Fronts.{good_solid, solid_loose, loose_counts}
use Rattle.lp_reading_laws.proofs.Printing.Own.{Own, ready_is}
use Rattle.lp_reading_laws.proofs.Printing.Steps.{Closing}
use Rattle.lp_reading_laws.proofs.Printing.Templates.{code_part}
use Rattle.lp_local.proofs.Ended.{IsEnded}
use Rattle.lp_viable.proofs.Moving.{nothing_utf8, brace_chars}
use Rattle.lp_viable.proofs.Going.{ReadsGoOn, StartsOn, ended_on, in_own_on, in_below_on, behind_step_on, in_tree_on}
use Rattle.lp_viable.proofs.Within.{OwnMoved, own_moved}
use Rattle.lp_viable.proofs.Trees.{PartDone}
use Rattle.lp_viable.proofs.Blank.{blank_code}

-- the one step of user code
abbrev code_step : template.Line
code_step = (step.Code, [])

abbrev user_content : List ℕ → Content
user_content code = record { part = part.UserBody; holes = code ∷ []; numbers = []; notes = [] }

-- user code goes on, up to a `}`
record CodeDone (prefix text : List ℕ) : Type 0 where
  more : List ℕ
  code : List ℕ
  utf8 : IsUtf8 more
  again : (q : List ℕ) → Closing q → Own prefix (user_content code) 0 [] step.Code (text ++ (more ++ q)) q

-- a `}` counts
brace_front : (r : List ℕ) → front_line (125 ∷ r) ≡ 125 ∷ front_line r
brace_front r =
    let next : line_len (125 ∷ r) ≡ suc (line_len r) = omega arith in
    ap (λ (k : ℕ). take k (125 ∷ r)) next

brace_trimmed : (y : List ℕ) → trim_start (125 ∷ y) ≡ 125 ∷ encode_utf8_all (chars y)
unfolding trim_start
brace_trimmed y = ap (λ (cs : List ℕ). encode_utf8_all (skip_leading_whitespace cs)) (brace_chars y) ∙ ap (λ (x : List ℕ). x ++ encode_utf8_all (chars y)) (encode_ascii 125 (omega arith))

brace_counts : (r : List ℕ) → settled (125 ∷ r) ≡ [] → ⊥
brace_counts r none =
    let x : List ℕ = encode_utf8_all (chars (front_line r)) in
    let shown : trim_start (front_line (125 ∷ r)) ≡ 125 ∷ x = ap trim_start (brace_front r) ∙ brace_trimmed (front_line r) in
    let counts : is_skipped (trim_start (front_line (125 ∷ r))) ≡ false = ap is_skipped shown ∙ loose_counts (125 ∷ x) (omega arith) (solid_loose (125 ∷ x) (good_solid 125 x refl)) in
    let all : [] ≡ (125 ∷ x) ++ drop (line_len (125 ∷ r)) (125 ∷ r) =
    sym none ∙ settled_counts (125 ∷ r) (omega arith) counts ∙ ap (λ (z : List ℕ). z ++ drop (line_len (125 ∷ r)) (125 ∷ r)) shown in
    absurd cc

code_brace : (text code rest : List ℕ) → IsCode text code rest → settled rest ≡ [] → ⊥
code_brace text code rest c none = brace_counts (drop 1 rest) (ap settled (sym (starts_ok (codes "}") rest c.closes)) ∙ none)

-- nothing that counts is left
code_blank : (prefix text : List ℕ) → IsUtf8 text → IsEnded text → settled text ≡ [] → CodeDone prefix text
code_blank prefix text u e none = record {
  more = [];
  code = without_feed text;
  utf8 = nothing_utf8;
  again = λ q closing.
      (let code : IsCode (text ++ q) (without_feed text) q = subst (λ (x : List ℕ). IsCode (text ++ x) (without_feed text) x) (sym closing.is) (blank_code text u e none (10 ∷ closing.more)) in
      record { rest = q; takes = code; ready = ready_is false q });
}

-- it stops within user code
code_within : (prefix : List ℕ) (p : Part) (old new : Told) (text more rest : List ℕ) → IsUtf8 text → IsUtf8 (more ++ rest) → TellsText p (IsCode (text ++ (more ++ rest))) old new rest → CodeDone prefix text
code_within prefix p old new text more rest u v t =
    let m : OwnMoved prefix (user_content t.text) 0 [] step.Code text = own_moved prefix (user_content t.text) 0 [] step.Code text more rest u v t.is_text in
    record { more = m.more; code = t.text; utf8 = m.utf8; again = λ q closing. m.again q (10 ∷ closing.more, closing.is) }

-- behind user code a `}` is left, which no step takes
no_below : (prefix : List ℕ) (s : Step) (own : List ℕ) → s ≡ step.Code → (settled own ≡ [] → ⊥) → StartsOn prefix (below_step s) own → ⊥
no_below prefix _ _ is counts (ended_on g own u e none) = counts none
no_below prefix _ _ is counts (in_tree_on s f p own mid u goes reads starts) = both_ways (goes_on step.Code (parts_in f) p) refl (ap (λ (x : Step). goes_on x (parts_in f) p) (sym is) ∙ goes)

no_later : (prefix : List ℕ) (p : Part) (t : Told) (count : ℕ) (ss : List template.Line) (mid : List ℕ) → ss ≡ [] → (settled mid ≡ [] → ⊥) → StartsOn prefix (steps_left p t count ss) mid → ⊥
no_later prefix p t count ss _ is counts (ended_on g mid u e none) = counts none
no_later prefix _ _ _ _ _ is counts (in_own_on p old new count s others text more rest u v t) = cc
no_later prefix _ _ _ _ _ is counts (in_below_on p old new count s others text own u t on starts) = cc
no_later prefix _ _ _ _ _ is counts (behind_step_on p old new count s others now text own mid u may t on reads starts) = cc

none_below : (f : Forest) → (length (parts_in f) == 0) ≡ true → f ≡ bare
none_below bare h = refl
none_below (tree c below after) h = absurd (omega (arith, eqb-true (length (parts_in (tree c below after))) 0 h))

nothing_read : (prefix : List ℕ) (task : Task) (a b : List ℕ) → task ≡ trees bare → Reads prefix task a b → a ≡ b
nothing_read prefix _ _ _ e (no_tree text) = refl
nothing_read prefix _ _ _ e (one_tree c below after text mid rest n k r more) = absurd cc
nothing_read prefix _ _ _ e (no_step c count text) = absurd cc
nothing_read prefix _ _ _ e (one_step c count s others now later text own mid rest m t r more) = absurd cc

-- the step of user code, told as such
code_told : (prefix : List ℕ) (p : Part) (count : ℕ) (s : template.Line) (old new : Told) (text rest : List ℕ) → s ≡ code_step → TellsOwn prefix p count s.1 s.0 old new text rest → TellsText p (IsCode text) old new rest
code_told prefix p count s old new text rest is t = subst (λ (x : template.Line). TellsOwn prefix p count x.1 x.0 old new text rest) is t

first_is : (s : template.Line) (others : List template.Line) → s ∷ others ≡ code_step ∷ [] → s ≡ code_step
first_is s others e = cc

none_other : (s : template.Line) (others : List template.Line) → s ∷ others ≡ code_step ∷ [] → others ≡ []
none_other s others e = cc

code_behind : (prefix : List ℕ) (p : Part) (count : ℕ) (s : template.Line) (others : List template.Line) (old new : Told) (now : Forest) (text own mid : List ℕ) → s ∷ others ≡ code_step ∷ [] → may_have s.0 (parts_in now) ≡ true →
    TellsOwn prefix p count s.1 s.0 old new text own → ReadsGoOn prefix (trees now) own mid → StartsOn prefix (steps_left p new (count + tree_count now) others) mid → ⊥
code_behind prefix p count s others old new now text own mid e may t reads starts =
    let is : s ≡ code_step = first_is s others e in
    let code : TellsText p (IsCode text) old new own = code_told prefix p count s old new text own is t in
    let none : now ≡ bare = none_below now (ap (λ (x : template.Line). may_have x.0 (parts_in now)) (sym is) ∙ may) in
    let same : own ++ [] ≡ mid ++ [] = nothing_read prefix (trees now) (own ++ []) (mid ++ []) (ap trees none) (reads []) in
    let mid_is : mid ≡ own = sym (append-nil mid) ∙ sym same ∙ append-nil own in
    no_later prefix p new (count + tree_count now) others mid (none_other s others e) (λ y. code_brace text code.text own code.is_text (ap settled (sym mid_is) ∙ y)) starts

code_steps : (prefix : List ℕ) (p : Part) (t : Told) (count : ℕ) (ss : List template.Line) (text : List ℕ) → ss ≡ code_step ∷ [] → StartsOn prefix (steps_left p t count ss) text → CodeDone prefix text
code_steps prefix p t count ss _ e (ended_on g text u w none) = code_blank prefix text u w none
code_steps prefix _ _ _ _ _ e (in_own_on p old new count s others text more rest u v t) =
    code_within prefix p old new text more rest u v (code_told prefix p count s old new (text ++ (more ++ rest)) rest (first_is s others e) t)
code_steps prefix _ _ _ _ _ e (in_below_on p old new count s others text own u t on starts) =
    let is : s ≡ code_step = first_is s others e in
    let code : TellsText p (IsCode text) old new own = code_told prefix p count s old new text own is t in
    absurd (no_below prefix s.0 own (ap (λ (x : template.Line). x.0) is) (λ y. code_brace text code.text own code.is_text y) starts)
code_steps prefix _ _ _ _ _ e (behind_step_on p old new count s others now text own mid u may t on reads starts) = absurd (code_behind prefix p count s others old new now text own mid e may t reads starts)

-- the part
user_steps : (p : Part) → has_code (steps_of p) ≡ true → steps_of p ≡ code_step ∷ []
unfolding steps_of
user_steps part.UserBody h = refl
user_steps _ h = absurd (both_ways false refl h)

user_read : (prefix text : List ℕ) → CodeDone prefix text → PartDone prefix part.UserBody text
unfolding steps_of holes_of
user_read prefix text d =
    let c : Content = user_content d.code in
    record {
      more = d.more;
      c = c;
      below = bare;
      utf8 = d.utf8;
      part_is = refl;
      again = λ q closing.
          (let o = d.again q (closing refl) in
          record {
            rest = o.rest;
            reads = one_tree c bare bare (text ++ (d.more ++ q)) o.rest o.rest refl (λ k lt. absurd (omega (arith, lt)))
                (one_step c 0 code_step [] bare bare (text ++ (d.more ++ q)) o.rest o.rest o.rest refl o.takes (no_tree o.rest) (no_step c 0 o.rest)) (no_tree o.rest);
            same = o.ready.same;
          });
    }

user_part : (prefix : List ℕ) (p : Part) (text : List ℕ) → has_code (steps_of p) ≡ true → CodeDone prefix text → PartDone prefix p text
user_part prefix p text h d = subst (λ (x : Part). PartDone prefix x text) (sym (code_part p h)) (user_read prefix text d)

-- where nothing that counts is left, that is user code in front of a `}`
pub user_blank : (prefix : List ℕ) (p : Part) (text : List ℕ) → has_code (steps_of p) ≡ true → IsUtf8 text → IsEnded text → settled text ≡ [] → PartDone prefix p text
user_blank prefix p text h u e none = user_part prefix p text h (code_blank prefix text u e none)

-- where user code begins, it is completed
pub user_begun : (prefix : List ℕ) (p : Part) (text : List ℕ) → has_code (steps_of p) ≡ true → StartsOn prefix (steps_left p untold 0 (steps_of p)) text → PartDone prefix p text
user_begun prefix p text h starts = user_part prefix p text h (code_steps prefix p untold 0 (steps_of p) text (user_steps p h) starts)
