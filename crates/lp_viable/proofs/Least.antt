-- The least tree of each part is read of its text.
use Rattle.std.proofs.Common.{◌≡◌, ℕ, ◌+◌, ◌^◌, ◌==◌, ◌<◌, zero, suc, Bool, true, false, ◌&&◌, ◌||◌, List, [], ◌∷◌, ◌++◌, length, map, get_or, replicate, codes, All, refl, sym, ap, ◌∙◌, subst, arith, inl, inr, ⊎_elim, append_assoc, append-nil, length-append}
use Rattle.std.specs.List.{list_all}
use Rattle.std.specs.Str.{IsUtf8, chars}
use Rattle.std.proofs.lemmas.Bool.{and_parts, or_cases, or_parts, cases_Bool, eqb-true, ltb-true, both_ways}
use Rattle.std.proofs.lemmas.List.{length-map, length-replicate}
use Rattle.std.proofs.lemmas.List.Elements.{All-nil, All-cons, All-head, All-tail}
use Rattle.std.proofs.lemmas.Str.{chars-append}
use Rattle.lp_form.specs.Templates.{Piece, steps_of, holes_of}
use Rattle.lp_form.specs.Templates as template
use Rattle.lp_form.specs.Classes.{members_of}
use Rattle.lp_form.specs.declared.part.Part.{Part}
use Rattle.lp_form.specs.declared.part.Part.TheVariants as part
use Rattle.lp_form.specs.declared.template.Kind.{Kind}
use Rattle.lp_form.specs.declared.template.Step.{Step}
use Rattle.lp_form.specs.declared.template.Step.TheVariants as step
use Rattle.lp_tok.specs.Cut.{StopsAt}
use Rattle.lp_tok.specs.Cut.Splits.{splits_none}
use Rattle.lp_spelling.specs.Counting.{settled}
use Rattle.lp_spelling.specs.LineReading.{kind_of}
use Rattle.lp_spelling.specs.Lines.{line_of}
use Rattle.lp_write.specs.Lines.{Line, lines_bytes}
use Rattle.lp_program.specs.OwnLines.{hole, spelled}
use Rattle.lp_program.specs.Reads.{may_have, graft, parts_in, hole_count, text_steps, is_prefix, Task, Reads, trees, steps}
use Rattle.lp_program.specs.Reads.Reads.{no_tree, one_tree, no_step, one_step}
use Rattle.lp_program.specs.Trees.{Content, Forest, tree_count}
use Rattle.lp_program.specs.Trees.Forest.{bare, tree}
use Rattle.lp_texts.specs.Identifiers.{is_identifier, is_word}
use Rattle.lp_repr.specs.Names.{same_text}
use Rattle.lp_reading_laws.specs.Printing.LineTexts.{Counts}
use Rattle.lp_reading_laws.specs.Printing.TemplateTests.{has_code, is_class, has_class, exact_after, is_step_bracket, ends_next, is_sound_step}
use Rattle.lp_reading_laws.specs.Printing.WellFormed.{HolesFill, IsUseText, StepFits}
use Rattle.lp_reading_laws.proofs.Printing.Fronts.{chars_some}
use Rattle.lp_reading_laws.proofs.Printing.Lining.{laid}
use Rattle.lp_reading_laws.proofs.Printing.Bytes.{any_laid, laid_blanks, bytes-first}
use Rattle.lp_reading_laws.proofs.Printing.Sound.{IsPrefix, word_before, line_next}
use Rattle.lp_reading_laws.proofs.Printing.Own.{Ready, ready_same, ready_as, EndsTable, Texts, line_counts, own_read}
use Rattle.lp_reading_laws.proofs.Printing.Steps.{class_own, class_takes, class_after}
use Rattle.lp_viable.specs.Fillings.{filling}
use Rattle.lp_viable.specs.Least.{first_needed, needed, least_holes, least_content, trees_over, least_below, plain, own_text, texts_over, steps_text, least_text, is_fit_step, are_fit, is_used_alone, is_least}
use Rattle.lp_viable.proofs.Fillings.{filling_fills, pattern_some}

-- every part but user code has a least tree
pub least_ok : (p : Part) → has_code (steps_of p) ≡ false → is_least 16 p ≡ true
unfolding is_least steps_of holes_of members_of
least_ok part.UserBody h = absurd (both_ways true h refl)
least_ok _ h = refl

-- the holes
abbrev nothing : List ℕ
nothing = []

get_front : (f : Kind → List ℕ) (kinds : List Kind) (more : List (List ℕ)) (k : ℕ) → k < length kinds → get_or (map f kinds ++ more) k [] ≡ f (kind_of kinds k)
get_front f [] more k lt = absurd (omega arith)
get_front f (x ∷ kinds) more zero lt = refl
get_front f (x ∷ kinds) more (suc k) lt = get_front f kinds more k (omega arith)

pub least_fills : (prefix : List ℕ) (p : Part) → IsUtf8 prefix → is_prefix prefix ≡ true → HolesFill prefix (holes_of p) (least_holes prefix p)
least_fills prefix p u h k lt =
    let e = get_front (filling prefix) (holes_of p) (replicate (text_steps (steps_of p)) []) k lt in
    let q : Kind = kind_of (holes_of p) k in
    (subst (λ (x : List ℕ). Rattle.lp_spelling.specs.Fillings.Fills prefix q x) (sym e) (filling_fills prefix q u h), λ y. subst (λ (x : List ℕ). 0 < length x) (sym e) (pattern_some prefix q y))

pub least_count : (prefix : List ℕ) (p : Part) → length (least_holes prefix p) ≡ hole_count p
least_count prefix p =
    length-append (map (filling prefix) (holes_of p)) (replicate (text_steps (steps_of p)) nothing)
    ∙ ap (λ n. n + length (replicate (text_steps (steps_of p)) nothing)) (length-map (holes_of p) (filling prefix))
    ∙ ap (λ n. length (holes_of p) + n) (length-replicate (text_steps (steps_of p)) nothing)

-- a use without a text
pub none_split : {X : Type 0} (before after : List X) (k : X) → [] ≡ before ++ k ∷ after → ⊥
none_split [] after k e = (cc)
none_split (b ∷ before) after k e = (cc)

stops_here : (rest : List ℕ) → StopsAt (59 ∷ rest) (59 ∷ rest)
stops_here rest = (
  [],
  record { splits = splits_none (59 ∷ rest); goes_on = λ before after k e d. absurd (none_split before after k e) },
  refl,
  inl (_, rest, refl, tt),
)

end_chars : (more : List ℕ) → chars (59 ∷ 10 ∷ more) ≡ 59 ∷ chars (10 ∷ more)
unfolding chars
end_chars more = refl

pub no_use : IsUseText []
no_use = record {
  utf8 = ([], (refl, refl));
  stops = λ rest. subst (λ (x : List ℕ). StopsAt x x) (sym (end_chars rest)) (stops_here (chars (10 ∷ rest)));
}

first_none : (k : ℕ) → get_or (replicate k nothing) 0 [] ≡ []
first_none zero = refl
first_none (suc k) = refl

no_kinds : (kinds : List Kind) → (length kinds == 0) ≡ true → kinds ≡ []
no_kinds [] h = refl
no_kinds (k ∷ kinds) h = absurd (omega (arith, eqb-true (length (k ∷ kinds)) 0 h))

pub step_fits : (prefix : List ℕ) (p : Part) (s : Step) → is_used_alone p s ≡ true → StepFits (least_content prefix p) s
step_fits prefix p step.Use h =
    let none : hole (least_content prefix p) 0 ≡ [] = ap (λ (x : List Kind). get_or (map (filling prefix) x ++ replicate (text_steps (steps_of p)) []) 0 []) (no_kinds (holes_of p) h) ∙ first_none (text_steps (steps_of p)) in
    subst IsUseText (sym none) no_use
step_fits prefix p step.Code h = absurd (both_ways false refl h)
step_fits prefix p step.Entries h = All-nil _
step_fits prefix p _ h = tt

pub steps_fit : (prefix : List ℕ) (p : Part) (ss : List template.Line) → list_all (λ s. is_used_alone p s.0) ss ≡ true → All (λ s. StepFits (least_content prefix p) s.0) ss
steps_fit prefix p [] h = All-nil _
steps_fit prefix p (s ∷ ss) h =
    let q = and_parts (is_used_alone p s.0) (list_all (λ x. is_used_alone p x.0) ss) h in
    All-cons (λ x. StepFits (least_content prefix p) x.0) s ss (step_fits prefix p s.0 q.0) (steps_fit prefix p ss q.1)

-- a prefix
pub prefix_is : (prefix : List ℕ) → IsUtf8 prefix → is_prefix prefix ≡ true → IsPrefix prefix
prefix_is prefix u h =
    let p = and_parts (Rattle.std.proofs.Common.ltb 0 (length prefix)) (is_identifier (prefix ++ codes "lalrpop_util")) h in
    let q = and_parts (Rattle.std.proofs.Common.not (same_text (prefix ++ codes "lalrpop_util") (codes "_"))) (is_word (chars (prefix ++ codes "lalrpop_util"))) p.1 in
    let whole : is_word (chars prefix ++ chars (codes "lalrpop_util")) ≡ true = ap is_word (sym (chars-append prefix (codes "lalrpop_util") u)) ∙ q.1 in
    record { utf8 = u; word = word_before (chars prefix) (chars (codes "lalrpop_util")) (chars_some prefix u (ltb-true 0 (length prefix) p.0)) whole }

-- trees and their parts
pub parts_over : (below : Part → Forest) (prefix : List ℕ) (parts : List Part) → parts_in (trees_over below prefix parts) ≡ parts
parts_over below prefix [] = refl
parts_over below prefix (p ∷ parts) = ap (λ (x : List Part). p ∷ x) (parts_over below prefix parts)

pub count_over : (below : Part → Forest) (prefix : List ℕ) (parts : List Part) → tree_count (trees_over below prefix parts) ≡ length parts
count_over below prefix [] = refl
count_over below prefix (p ∷ parts) = let h = count_over below prefix parts in omega (arith, h)

pub graft_over : (below : Part → Forest) (prefix : List ℕ) (a b : List Part) → graft (trees_over below prefix a) (trees_over below prefix b) ≡ trees_over below prefix (a ++ b)
graft_over below prefix [] b = refl
graft_over below prefix (p ∷ a) b = ap (λ (x : Forest). tree (least_content prefix p) (below p) x) (graft_over below prefix a b)

-- no part is needed where no step is of a class
pub none_first : (s : Step) → is_class s ≡ false → first_needed s ≡ []
none_first (step.One class) h = absurd (both_ways true h refl)
none_first (step.Some class) h = absurd (both_ways true h refl)
none_first _ h = refl

pub none_needed : (ss : List template.Line) → has_class ss ≡ false → needed ss ≡ []
none_needed [] h = refl
none_needed (s ∷ ss) h =
    let b = or_parts (is_class s.0) (has_class ss) h in
    ap (λ (x : List Part). x ++ needed ss) (none_first s.0 b.0) ∙ none_needed ss b.1

-- the line behind a table
bracket_line : (prefix : List ℕ) (c : Content) (kinds : List Kind) (total : ℕ) (exact : Bool) (s : Step) (pieces : List Piece) (more : List template.Line) (tail : List ℕ) → Texts prefix c kinds →
    is_sound_step exact kinds s pieces more ≡ true → is_step_bracket s pieces ≡ true → EndsTable (own_text prefix c total (s, pieces) ++ tail)
bracket_line prefix c kinds total exact (step.Line b) pieces more tail t h k =
    let l : Line = spelled prefix c b pieces in
    let at = any_laid false 0 l tail in
    let n = line_next (λ x. x == 93) prefix c.holes pieces k in
    let x : line_of prefix c.holes pieces ≡ 93 ∷ n.behind = n.is ∙ ap (λ y. y ∷ n.behind) (eqb-true n.byte 93 n.so) in
    record {
      blanks = at.count + b;
      others = n.behind;
      rest = tail;
      counts = subst Counts x (line_counts prefix c kinds pieces t h);
      is = bytes-first false 0 l [] tail ∙ at.is ∙ laid_blanks at.count b (line_of prefix c.holes pieces) tail ∙ ap (λ y. laid (at.count + b) y tail) x;
    }
bracket_line prefix c kinds total exact _ pieces more tail t h k = absurd (both_ways false refl k)

bracket_plain : (s : Step) (pieces : List Piece) → is_step_bracket s pieces ≡ true → is_class s ≡ false
bracket_plain (step.Line b) pieces h = refl
bracket_plain _ pieces h = absurd (both_ways false refl h)

ends_table : (fits : Part → Bool) (T : Part → List ℕ) (prefix : List ℕ) (c : Content) (kinds : List Kind) (total : ℕ) (exact : Bool) (ss : List template.Line) (tail : List ℕ) → Texts prefix c kinds → are_fit fits exact kinds ss ≡ true →
    ends_next ss ≡ true → EndsTable (steps_text T prefix c total ss ++ tail)
ends_table fits T prefix c kinds total exact [] tail t h k = absurd (both_ways false refl k)
ends_table fits T prefix c kinds total exact (s ∷ others) tail t h k =
    let own : List ℕ = own_text prefix c total s in
    let rest : List ℕ = texts_over T (first_needed s.0) ++ steps_text T prefix c total others in
    let q = and_parts (is_fit_step exact kinds s.0 others s) (list_all fits (first_needed s.0) && are_fit fits (exact_after s.0) kinds others) h in
    let sound : is_sound_step exact kinds s.0 s.1 others ≡ true =
    ⊎_elim (λ y. absurd (both_ways (is_class s.0) (bracket_plain s.0 s.1 k) y)) (λ y. y) (or_cases (is_class s.0) (is_sound_step exact kinds s.0 s.1 others) (and_parts (may_have s.0 (first_needed s.0)) _ q.0).1) in
    subst EndsTable (sym (append_assoc own rest tail)) (bracket_line prefix c kinds total exact s.0 s.1 others (rest ++ tail) t sound k)

-- trees are read
pub record Taken (prefix : List ℕ) (f : Forest) (text tail : List ℕ) : Type 0 where
  pub rest : List ℕ
  pub reads : Reads prefix (trees f) text rest
  pub same : settled rest ≡ settled tail

abbrev pub TreeRead : (Part → Forest) → (Part → List ℕ) → List ℕ → Part → Type 0
TreeRead below T prefix p = (text tail : List ℕ) → settled text ≡ settled (T p ++ tail) → Taken prefix (tree (least_content prefix p) (below p) bare) text tail

pub reads_graft : (prefix : List ℕ) (f g : Forest) (text mid rest : List ℕ) → Reads prefix (trees f) text mid → Reads prefix (trees g) mid rest → Reads prefix (trees (graft f g)) text rest
reads_graft prefix f g text mid rest r s = of_task prefix (trees f) g text mid rest r s f refl
  where
    of_task : (prefix : List ℕ) (t : Task) (g : Forest) (text mid rest : List ℕ) → Reads prefix t text mid → Reads prefix (trees g) mid rest → (f : Forest) → t ≡ trees f → Reads prefix (trees (graft f g)) text rest
    of_task prefix _ g _ _ rest (no_tree text) s f e =
        let none : bare ≡ f = cc in
        subst (λ (x : Forest). Reads prefix (trees (graft x g)) text rest) none s
    of_task prefix _ g _ _ rest (one_tree c below after text mid last n k r more) s f e =
        let same : tree c below after ≡ f = cc in
        subst (λ (x : Forest). Reads prefix (trees (graft x g)) text rest) same (one_tree c below (graft after g) text mid rest n k r (of_task prefix (trees after) g mid last rest more s after refl))
    of_task prefix _ g _ _ rest (no_step c count text) s f e = absurd cc
    of_task prefix _ g _ _ rest (one_step c count st others now later text own mid last m t r more) s f e = absurd cc

pub some_read : (below : Part → Forest) (T : Part → List ℕ) (fits : Part → Bool) (prefix : List ℕ) (parts : List Part) (text tail : List ℕ) → ((p : Part) → fits p ≡ true → TreeRead below T prefix p) → list_all fits parts ≡ true →
    settled text ≡ settled (texts_over T parts ++ tail) → Taken prefix (trees_over below prefix parts) text tail
some_read below T fits prefix [] text tail f h e = record { rest = text; reads = no_tree text; same = e }
some_read below T fits prefix (p ∷ parts) text tail f h e =
    let q = and_parts (fits p) (list_all fits parts) h in
    let first = f p q.0 text (texts_over T parts ++ tail) (e ∙ ap settled (append_assoc (T p) (texts_over T parts) tail)) in
    let next = some_read below T fits prefix parts first.rest tail f q.1 first.same in
    record {
      rest = next.rest;
      reads = reads_graft prefix (tree (least_content prefix p) (below p) bare) (trees_over below prefix parts) text first.rest next.rest first.reads next.reads;
      same = next.same;
    }

-- the steps that are left of a part are read of their text
pub record Left (prefix : List ℕ) (c : Content) (done : ℕ) (ss : List template.Line) (f : Forest) (text tail : List ℕ) : Type 0 where
  pub rest : List ℕ
  pub reads : Reads prefix (steps c done ss f) text rest
  pub same : settled rest ≡ settled tail

pub left_read : (below : Part → Forest) (T : Part → List ℕ) (fits : Part → Bool) (prefix : List ℕ) (c : Content) (kinds : List Kind) (total : ℕ) (ss : List template.Line) (done : ℕ) (exact : Bool) (text tail : List ℕ) →
    ((p : Part) → fits p ≡ true → TreeRead below T prefix p) → Texts prefix c kinds → are_fit fits exact kinds ss ≡ true → All (λ s. StepFits c s.0) ss → total ≡ done + length (needed ss) →
    Ready exact text (steps_text T prefix c total ss ++ tail) → Left prefix c done ss (trees_over below prefix (needed ss)) text tail
left_read below T fits prefix c kinds total [] done exact text tail each t p fit m r = record { rest = text; reads = no_step c done text; same = r.same }
left_read below T fits prefix c kinds total (s ∷ others) done exact text tail each t p fit m r =
    let parts : List Part = first_needed s.0 in
    let now : Forest = trees_over below prefix parts in
    let q = and_parts (is_fit_step exact kinds s.0 others s) (list_all fits parts && are_fit fits (exact_after s.0) kinds others) p in
    let q2 = and_parts (list_all fits parts) (are_fit fits (exact_after s.0) kinds others) q.1 in
    let q3 = and_parts (may_have s.0 parts) (is_class s.0 || is_sound_step exact kinds s.0 s.1 others) q.0 in
    let later_fit = All-tail (λ x. StepFits c x.0) s others fit in
    let own : List ℕ = own_text prefix c total s in
    let rest_text : List ℕ = steps_text T prefix c total others ++ tail in
    let printed : List ℕ = texts_over T parts ++ rest_text in
    let all : (own ++ (texts_over T parts ++ steps_text T prefix c total others)) ++ tail ≡ own ++ printed =
    append_assoc own (texts_over T parts ++ steps_text T prefix c total others) tail ∙ ap (λ (x : List ℕ). own ++ x) (append_assoc (texts_over T parts) (steps_text T prefix c total others) tail) in
    let ready : Ready exact text (own ++ printed) = ready_as exact text _ (own ++ printed) all r in
    let may : may_have s.0 (parts_in now) ≡ true = ap (may_have s.0) (parts_over below prefix parts) ∙ q3.0 in
    let counted : tree_count now ≡ length parts = count_over below prefix parts in
    let size = length-append parts (needed others) in
    let joined : graft now (trees_over below prefix (needed others)) ≡ trees_over below prefix (needed (s ∷ others)) = graft_over below prefix parts (needed others) in
    elim (cases_Bool (is_class s.0)) [
      | inl y ↦
          let none : own ≡ [] = ap (λ (x : List Line). lines_bytes false 0 x) (class_own plain prefix c total s.1 s.0 y) in
          let first = some_read below T fits prefix parts text rest_text each q2.0 (ready.same ∙ ap (λ (x : List ℕ). settled (x ++ printed)) none) in
          let next = left_read below T fits prefix c kinds total others (done + tree_count now) false first.rest tail each t
          (ap (λ b. are_fit fits b kinds others) (sym (class_after s.0 y)) ∙ q2.1) later_fit (omega (arith, counted, size, m)) (ready_same first.rest rest_text first.same) in
          record {
            rest = next.rest;
            reads = subst (λ (x : Forest). Reads prefix (steps c done (s ∷ others) x) text next.rest) joined
                (one_step c done s others now (trees_over below prefix (needed others)) text text first.rest next.rest may (class_takes prefix c done s.1 s.0 text y) first.reads next.reads);
            same = next.same;
          }
      | inr z ↦
          let sound : is_sound_step exact kinds s.0 s.1 others ≡ true =
          ⊎_elim (λ y. absurd (both_ways (is_class s.0) z y)) (λ y. y) (or_cases (is_class s.0) (is_sound_step exact kinds s.0 s.1 others) q3.1) in
          let no_parts : parts ≡ [] = none_first s.0 z in
          let plainly : printed ≡ rest_text = ap (λ (x : List Part). texts_over T x ++ rest_text) no_parts in
          let first = own_read plain prefix c kinds done total 0 exact s.0 s.1 others text rest_text t z sound (All-head (λ x. StepFits c x.0) s others fit)
          (λ none. let left = ap length (none_needed others none) in let zero_parts = ap length no_parts in omega (arith, left, zero_parts, size, m))
          (λ ends. ends_table fits T prefix c kinds total (exact_after s.0) others tail t q2.1 ends)
          (ready_as exact text (own ++ printed) (own ++ rest_text) (ap (λ (x : List ℕ). own ++ x) plainly) ready) in
          let bare_now : now ≡ bare = ap (trees_over below prefix) no_parts in
          let next = left_read below T fits prefix c kinds total others (done + tree_count now) (exact_after s.0) first.rest tail each t q2.1 later_fit (omega (arith, counted, size, m)) first.ready in
          record {
            rest = next.rest;
            reads = subst (λ (x : Forest). Reads prefix (steps c done (s ∷ others) x) text next.rest) joined
                (one_step c done s others now (trees_over below prefix (needed others)) text first.rest first.rest next.rest may first.takes
                (subst (λ (x : Forest). Reads prefix (trees x) first.rest first.rest) (sym bare_now) (no_tree first.rest)) next.reads);
            same = next.same;
          }
    ]

-- least trees
pub tree_read : (n : ℕ) (prefix : List ℕ) → IsUtf8 prefix → is_prefix prefix ≡ true → (p : Part) → is_least n p ≡ true → TreeRead (least_below n prefix) (least_text n prefix) prefix p
unfolding is_least least_below least_text
tree_read zero prefix u h p k text tail e = absurd (both_ways false refl k)
tree_read (suc n) prefix u h p k text tail e =
    let c : Content = least_content prefix p in
    let ss : List template.Line = steps_of p in
    let q = and_parts (list_all (λ s. is_used_alone p s.0) ss) (are_fit (is_least n) false (holes_of p) ss) k in
    let texts : Texts prefix c (holes_of p) = record { prefix_is = prefix_is prefix u h; fills = least_fills prefix p u h; notes = All-nil _; few = omega arith } in
    let r = left_read (least_below n prefix) (least_text n prefix) (is_least n) prefix c (holes_of p) (length (needed ss)) ss 0 false text tail
    (λ x y. tree_read n prefix u h x y) texts q.1 (steps_fit prefix p ss q.0) (omega arith) (ready_same text (steps_text (least_text n prefix) prefix c (length (needed ss)) ss ++ tail) e) in
    record {
      rest = r.rest;
      reads = one_tree c (trees_over (least_below n prefix) prefix (needed ss)) bare text r.rest r.rest (least_count prefix p) (λ i lt. (least_fills prefix p u h i lt).0) r.reads (no_tree r.rest);
      same = r.same;
    }
