-- The printed text of a program reads as it.
use Rattle.std.proofs.Common.{◌≡◌, ℕ, ◌+◌, ◌-◌, ◌==◌, ◌<◌, ◌≤◌, zero, suc, Bool, true, false, not, cond, ◌&&◌, ◌||◌, if◌then◌else◌, List, [], ◌∷◌, ◌++◌, length, get_or, take, drop, replicate, codes, All, refl, sym, ap, ◌∙◌, subst, arith, eqb, inl, inr, ⊎_elim, append_assoc, append-nil, length-append, ◌^◌}
use Rattle.std.specs.List.{list_all, list_any, ends_with}
use Rattle.std.specs.Str.{IsUtf8, chars, bytes_eq}
use Rattle.std.proofs.lemmas.Bool.{and_parts, cases_Bool, cond-true, cond-false, ltb-true, both_ways}
use Rattle.std.proofs.lemmas.List.{take_at, drop_at, length-map}
use Rattle.std.proofs.lemmas.List.Elements.{All-head}
use Rattle.std.proofs.lemmas.Str.{chars-append}
use Rattle.lp_form.specs.Templates.{steps_of, holes_of}
use Rattle.lp_form.specs.Templates as template
use Rattle.lp_form.specs.declared.part.Part.TheVariants as part
use Rattle.lp_form.specs.declared.template.Step.{Step}
use Rattle.lp_form.specs.declared.template.Step.TheVariants as step
use Rattle.lp_tok.specs.Cut.{StopsAt}
use Rattle.lp_tok.specs.Cut.Splits.{splits_none}
use Rattle.lp_write.specs.Lines.{blanks, lines_bytes, indent_after_all}
use Rattle.lp_write.specs.Lines.Line.{verbatim}
use Rattle.lp_write.specs.declared.rust.Options.{Options}
use Rattle.lp_spelling.specs.Counting.{settled}
use Rattle.lp_program.specs.CodeReading.{IsCode, without_feed}
use Rattle.lp_program.specs.OwnLines.{hole, code_lines}
use Rattle.lp_program.specs.Printed.{step_lines, printed, list_lines}
use Rattle.lp_program.specs.Reads.{parts_in, hole_count, KindsFill, Reads, trees, steps, is_prefix, IsProgram}
use Rattle.lp_program.specs.Reads.Reads.{no_tree, no_step, one_step}
use Rattle.lp_tree.specs.ProgramTree.{noted}
use Rattle.lp_program.specs.Trees.{Content, Forest, content, forest, forest_within, tree_count, whole}
use Rattle.lp_program.specs.Trees.Forest.{bare, tree}
use Rattle.lp_tree.specs.declared.tree.Entry.{Entry}
use Rattle.lp_texts.specs.Identifiers.{is_identifier, is_word}
use Rattle.lp_repr.specs.Names.{same_text}
use Rattle.lp_spelling.proofs.Counting.{settled_none}
use Rattle.lp_reading_laws.specs.Printing.TemplateTests.{is_code, has_code, is_code_only, are_sound}
use Rattle.lp_reading_laws.specs.Printing.WellFormed.{IsCodeText, StepFits, IsWellPart, IsWell, is_shared}
use Rattle.lp_reading_laws.specs.Printing.AsRead.{code_read, content_read, forest_read}
use Rattle.lp_reading_laws.proofs.Printing.Lining.{chars_blank}
use Rattle.lp_reading_laws.proofs.Printing.Endings.{stops_front}
use Rattle.lp_reading_laws.specs.Printing.Laws.{text_of, CodeIsLevel, IndentReturns, ReadsBack}
use Rattle.lp_reading_laws.specs.Printing.Levels.{is_level, never_stays}
use Rattle.lp_reading_laws.proofs.Printing.Fronts.{chars_some}
use Rattle.lp_reading_laws.proofs.Printing.Sound.{IsPrefix, word_before}
use Rattle.lp_reading_laws.proofs.Printing.Templates.{templates_sound, code_part}
use Rattle.lp_reading_laws.proofs.Printing.Forests.{no_trees}
use Rattle.lp_reading_laws.proofs.Printing.Own.{ready_same, Texts}
use Rattle.lp_reading_laws.proofs.Printing.Steps.{Closing, any_code, no_class_none}
use Rattle.lp_reading_laws.proofs.Printing.Whole.{TreeOk, Each, part_same, trees_read, steps_read}
use Rattle.lp_reading_laws.proofs.Printing.Levelled.{EachLevel, code_lines_are, part_level, whole_level, whole_back}
use Rattle.lp_reading_laws.proofs.Printing.Returning.{EachLeast, part_least, whole_least}

-- user code
feed_off : (text : List ℕ) → without_feed (text ++ 10 ∷ []) ≡ text
feed_off text =
    let size = length-append text (10 ∷ []) in
    let at : length (text ++ 10 ∷ []) - 1 ≡ length text = omega (arith, size) in
    let last : drop (length (text ++ 10 ∷ []) - 1) (text ++ 10 ∷ []) ≡ 10 ∷ [] = drop_at text (10 ∷ []) (length (text ++ 10 ∷ []) - 1) (sym at) in
    let ends : ends_with eqb (text ++ 10 ∷ []) (codes "\n") ≡ true = ap (λ x. bytes_eq (codes "\n") x) last in
    cond-true (ends_with eqb (text ++ 10 ∷ []) (codes "\n")) _ _ ends ∙ take_at text (10 ∷ []) (length (text ++ 10 ∷ []) - 1) (sym at)

none_split : {X : Type 0} (before after : List X) (k : X) → [] ≡ before ++ k ∷ after → ⊥
none_split [] after k e = (cc)
none_split (b ∷ before) after k e = (cc)

stops_here : (rest : List ℕ) → StopsAt (125 ∷ rest) (125 ∷ rest)
stops_here rest = (
  [],
  record { splits = splits_none (125 ∷ rest); goes_on = λ before after k e d. absurd (none_split before after k e) },
  refl,
  inl (_, rest, refl, tt),
)

brace_chars : (more : List ℕ) → chars (125 ∷ 10 ∷ more) ≡ 125 ∷ chars (10 ∷ more)
unfolding chars
brace_chars more = refl

stops_brace : (more : List ℕ) → StopsAt (chars (125 ∷ 10 ∷ more)) (chars (125 ∷ 10 ∷ more))
stops_brace more = subst (λ x. StopsAt x x) (sym (brace_chars more)) (stops_here (chars (10 ∷ more)))

-- blanks in front of user code change nothing of its cut
stops_many : (k : ℕ) (x rest : List ℕ) → StopsAt (chars x) rest → StopsAt (chars (replicate k 32 ++ x)) rest
stops_many zero x rest s = s
stops_many (suc k) x rest s =
    subst (λ y. StopsAt y rest) (sym (chars_blank (replicate k 32 ++ x))) (stops_front 32 (chars (replicate k 32 ++ x)) rest refl (stops_many k x rest s))

stops_blanks : (w : Bool) (x rest : List ℕ) → StopsAt (chars x) rest → StopsAt (chars (blanks w 4 ++ x)) rest
stops_blanks true x rest s = stops_many 4 x rest s
stops_blanks false x rest s = s

closes_it : (text : List ℕ) → Closing text → Rattle.std.specs.List.starts_with eqb text (codes "}") ≡ true
closes_it text c = ap (λ x. Rattle.std.specs.List.starts_with eqb x (codes "}")) c.is

-- nothing is printed for `()`
no_code : (text tail : List ℕ) → text ≡ tail → Closing tail → IsCode text [] tail
no_code text tail e c = record {
  whole = [];
  front = e;
  stops = subst (λ x. StopsAt (chars x) (chars tail)) (sym e) (subst (λ x. StopsAt (chars x) (chars x)) (sym c.is) (stops_brace c.more));
  closes = closes_it tail c;
  code_is = refl;
}

some_code : (w : Bool) (code text tail : List ℕ) → IsCodeText code → text ≡ ((blanks w 4 ++ code) ++ 10 ∷ []) ++ tail → Closing tail → IsCode text (blanks w 4 ++ code) tail
some_code w code text tail f e c =
    let brace : List ℕ = 125 ∷ 10 ∷ c.more in
    let sides : ((blanks w 4 ++ code) ++ 10 ∷ []) ++ brace ≡ blanks w 4 ++ ((code ++ 10 ∷ []) ++ brace) = simp append_assoc in
    let whole : text ≡ blanks w 4 ++ ((code ++ 10 ∷ []) ++ brace) = e ∙ ap (λ x. ((blanks w 4 ++ code) ++ 10 ∷ []) ++ x) c.is ∙ sides in
    let stops_there : StopsAt (chars (blanks w 4 ++ ((code ++ 10 ∷ []) ++ brace))) (chars brace) = stops_blanks w ((code ++ 10 ∷ []) ++ brace) (chars brace) (f c.more) in
    record {
      whole = (blanks w 4 ++ code) ++ 10 ∷ [];
      front = e;
      stops = subst (λ x. StopsAt (chars x) (chars tail)) (sym whole) (subst (λ x. StopsAt (chars (blanks w 4 ++ ((code ++ 10 ∷ []) ++ brace))) (chars x)) (sym c.is) stops_there);
      closes = closes_it tail c;
      code_is = sym (feed_off (blanks w 4 ++ code));
    }

printed_code : (options : Options) (i : ℕ) (code text tail : List ℕ) → blanks options.whitespace i ≡ blanks options.whitespace 4 → IsCodeText code →
    text ≡ lines_bytes options.whitespace i (code_lines code) ++ tail → Closing tail → IsCode text (code_read options.whitespace code) tail
printed_code options i code text tail at f e c =
    let w : Bool = options.whitespace in
    elim (cases_Bool (bytes_eq code (codes "()"))) [
      | inl y ↦
          let lines_are : code_lines code ≡ [] = cond-true (bytes_eq code (codes "()")) _ _ y in
          let read_as : code_read w code ≡ [] = cond-true (bytes_eq code (codes "()")) _ _ y in
          subst (λ x. IsCode text x tail) (sym read_as) (no_code text tail (e ∙ ap (λ x. lines_bytes w i x ++ tail) lines_are) c)
      | inr n ↦
          let lines_are : code_lines code ≡ verbatim code ∷ [] = cond-false (bytes_eq code (codes "()")) _ _ n in
          let read_as : code_read w code ≡ blanks w 4 ++ code = cond-false (bytes_eq code (codes "()")) _ _ n in
          let bytes : lines_bytes w i (verbatim code ∷ []) ++ tail ≡ ((blanks w 4 ++ code) ++ 10 ∷ []) ++ tail =
          ap (λ x. (((x ++ code) ++ 10 ∷ []) ++ []) ++ tail) at ∙ ap (λ x. x ++ tail) (append-nil ((blanks w 4 ++ code) ++ 10 ∷ [])) in
          subst (λ x. IsCode text x tail) (sym read_as) (some_code w code text tail f (e ∙ ap (λ x. lines_bytes w i x ++ tail) lines_are ∙ bytes) c)
    ]

-- the one step of a part of user code
code_step : (options : Options) (prefix : List ℕ) (c read : Content) (total i : ℕ) (s : Step) (pieces : List Rattle.lp_form.specs.Templates.Piece) (f : Forest) (text tail : List ℕ) → blanks options.whitespace i ≡ blanks options.whitespace 4 → is_code s ≡ true →
    hole read 0 ≡ code_read options.whitespace (hole c 0) → StepFits c s → is_shared ((s, pieces) ∷ []) (parts_in f) ≡ true →
    text ≡ lines_bytes options.whitespace i (step_lines options prefix c total ((s, pieces) ∷ []) (printed options prefix f)) ++ tail → Closing tail →
    Reads prefix (steps read 0 ((s, pieces) ∷ []) (forest_read options.whitespace f)) text tail
unfolding step_lines printed
code_step options prefix c read total i step.Code pieces f text tail off k e fits h is closing =
    let none : f ≡ bare = no_trees f (no_class_none ((step.Code, pieces) ∷ []) (parts_in f) refl h) in
    let w : Bool = options.whitespace in
    let lines_are = code_lines_are options prefix c total pieces f none in
    let code : IsCode text (hole read 0) tail =
    subst (λ x. IsCode text x tail) (sym e) (printed_code options i (hole c 0) text tail off fits (is ∙ ap (λ x. lines_bytes w i x ++ tail) lines_are) closing) in
    subst (λ x. Reads prefix (steps read 0 ((step.Code, pieces) ∷ []) (forest_read w x)) text tail) (sym none)
    (one_step read 0 (step.Code, pieces) [] bare bare text tail tail tail refl code (no_tree tail) (no_step read (0 + tree_count bare) tail))
code_step options prefix c read total i _ pieces f text tail off k e fits h is closing = absurd (both_ways false refl k)

code_steps : (options : Options) (prefix : List ℕ) (c read : Content) (total i : ℕ) (ss : List template.Line) (f : Forest) (text tail : List ℕ) → blanks options.whitespace i ≡ blanks options.whitespace 4 → is_code_only ss ≡ true →
    hole read 0 ≡ code_read options.whitespace (hole c 0) → All (λ s. StepFits c s.0) ss → is_shared ss (parts_in f) ≡ true →
    text ≡ lines_bytes options.whitespace i (step_lines options prefix c total ss (printed options prefix f)) ++ tail → Closing tail →
    Reads prefix (steps read 0 ss (forest_read options.whitespace f)) text tail
code_steps options prefix c read total i [] f text tail off k e fits h is closing = absurd (both_ways false refl k)
code_steps options prefix c read total i (s ∷ []) f text tail off k e fits h is closing =
    code_step options prefix c read total i s.0 s.1 f text tail off k e (All-head (λ x. StepFits c x.0) s [] fits) h is closing
code_steps options prefix c read total i (s ∷ t ∷ ss) f text tail off k e fits h is closing = absurd (both_ways false refl k)

-- a part of user code
code_hole_count : 1 ≡ hole_count part.UserBody
unfolding steps_of holes_of
code_hole_count = refl

code_no_kinds : length (holes_of part.UserBody) ≡ 0
unfolding holes_of
code_no_kinds = refl

abbrev with_code : Bool → Content → Content
with_code w c = record c { holes = code_read w (hole c 0) ∷ [] }

code_part_ok : (options : Options) (prefix : List ℕ) (c : Content) (below : Forest) → IsWellPart prefix c (parts_in below) → has_code (steps_of c.part) ≡ true → TreeOk options prefix c below
code_part_ok options prefix c below p h =
    let w : Bool = options.whitespace in
    let same : content_read w c ≡ with_code w c = cond-true (has_code (steps_of c.part)) _ _ h in
    let only : is_code_only (steps_of c.part) ≡ true = sym (cond-true (has_code (steps_of c.part)) (is_code_only (steps_of c.part)) (are_sound false (holes_of c.part) (steps_of c.part)) h) ∙ templates_sound c.part in
    let user : c.part ≡ part.UserBody = code_part c.part h in
    let none : length (holes_of c.part) ≡ 0 = ap (λ x. length (holes_of x)) user ∙ code_no_kinds in
    record {
      tree_reads = λ i text tail l e at.
          (let a = at h in record {
            rest = tail;
            reads = subst (λ x. Reads prefix (steps x 0 (steps_of x.part) (forest_read w below)) text tail) (sym same)
                (code_steps options prefix c (with_code w c) (tree_count below) i (steps_of c.part) below text tail a.indent only refl p.steps p.shared a.is a.closing);
            same = refl;
          });
      count = subst (λ x. length x.holes ≡ hole_count x.part) (sym same) (code_hole_count ∙ sym (ap hole_count user));
      kinds = subst (λ x. KindsFill prefix x.part x.holes) (sym same) (λ k lt. absurd (omega (arith, none, lt)));
    }

-- any other part
plain_part_ok : (options : Options) (prefix : List ℕ) (c : Content) (below : Forest) → length c.notes < 2 ^ 64 → IsPrefix prefix → IsWellPart prefix c (parts_in below) → Each options prefix below → has_code (steps_of c.part) ≡ false →
    TreeOk options prefix c below
plain_part_ok options prefix c below few is_prefix p each h =
    let w : Bool = options.whitespace in
    let same : content_read w c ≡ c = cond-false (has_code (steps_of c.part)) _ _ h in
    let sound : are_sound false (holes_of c.part) (steps_of c.part) ≡ true =
    sym (cond-false (has_code (steps_of c.part)) (is_code_only (steps_of c.part)) (are_sound false (holes_of c.part) (steps_of c.part)) h) ∙ templates_sound c.part in
    let texts : Texts prefix c (holes_of c.part) = record { prefix_is = is_prefix; fills = p.fills; notes = p.notes; few = few } in
    let total : tree_count below ≡ 0 + tree_count below = omega arith in
    record {
      tree_reads = λ i text tail l e at.
          (let r = steps_read options prefix c (holes_of c.part) (tree_count below) (steps_of c.part) below 0 i false text tail l texts sound p.steps p.shared each total (ready_same text _ e) in
          record {
            rest = r.rest;
            reads = subst (λ x. Reads prefix (steps x 0 (steps_of x.part) (forest_read w below)) text r.rest) (sym same) r.reads;
            same = r.same;
          });
      count = subst (λ x. length x.holes ≡ hole_count x.part) (sym same) p.count;
      kinds = subst (λ x. KindsFill prefix x.part x.holes) (sym same) (λ k lt. (p.fills k lt).0);
    }

-- no list has more notes than 64 bits count
abbrev Few : Forest → Type 0
Few bare = Unit {0}
Few (tree c below after) = (length c.notes < 2 ^ 64) × Few below × Few after

entry_few : (e : Entry) → length (content e).notes < 2 ^ 64
entry_few e =
    let size : length (content e).notes ≡ length e.notes.items = length-map e.notes.items noted in
    let known = e.notes.ok in
    let fits = e.notes.small in
    omega (arith, size, known, fits)

few_within : (n : ℕ) (es : List Entry) → Few (forest_within n es)
unfolding forest_within
few_within zero es = tt
few_within (suc n) [] = tt
few_within (suc n) (e ∷ es) = (entry_few e, few_within n (take e.below es), few_within n (drop e.below es))

few_whole : (es : List Entry) → Few (whole es)
unfolding forest
few_whole [] = tt
few_whole (e ∷ es) = (entry_few e, few_within (length es) es, tt)

pub each_well : (options : Options) (prefix : List ℕ) (f : Forest) → Few f → IsPrefix prefix → IsWell prefix f → Each options prefix f
each_well options prefix bare few p w = tt
each_well options prefix (tree c below after) few p w =
    let inner = each_well options prefix below few.1 p w.1 in
    let ok : TreeOk options prefix c below = elim (cases_Bool (has_code (steps_of c.part))) [
      | inl y ↦ code_part_ok options prefix c below w.0 y
      | inr n ↦ plain_part_ok options prefix c below few.0 p w.0 inner n
    ] in
    (ok, each_well options prefix after few.2 p w.2)

-- a prefix
prefix_is : (prefix : List ℕ) → is_prefix prefix ≡ true → IsUtf8 prefix → IsPrefix prefix
prefix_is prefix h u =
    let p = and_parts (Rattle.std.proofs.Common.ltb 0 (length prefix)) (is_identifier (prefix ++ codes "lalrpop_util")) h in
    let q = and_parts (not (same_text (prefix ++ codes "lalrpop_util") (codes "_"))) (is_word (chars (prefix ++ codes "lalrpop_util"))) p.1 in
    let whole : is_word (chars prefix ++ chars (codes "lalrpop_util")) ≡ true = ap is_word (sym (chars-append prefix (codes "lalrpop_util") u)) ∙ q.1 in
    record { utf8 = u; word = word_before (chars prefix) (chars (codes "lalrpop_util")) (chars_some prefix u (ltb-true 0 (length prefix) p.0)) whole }

-- the tree of a program has no user code itself
program_plain : has_code (steps_of part.Program) ≡ false
unfolding steps_of
program_plain = refl

no_code_on_top : (es : List Entry) → IsProgram (whole es) → any_code (parts_in (whole es)) ≡ true → ⊥
no_code_on_top [] p a = p
no_code_on_top (e ∷ es) p a =
    let none : has_code (steps_of e.part) ≡ false = ap (λ x. has_code (steps_of x)) p ∙ program_plain in
    both_ways (has_code (steps_of e.part) || false) (ap (λ b. b || false) none) a

program_read : (w : Bool) (f : Forest) → IsProgram f → IsProgram (forest_read w f)
program_read w bare p = p
program_read w (tree c below after) p = part_same w c ∙ p

-- the level of each part, and of a whole program
each_level : (options : Options) (prefix : List ℕ) (f : Forest) → Few f → IsWell prefix f → EachLevel options prefix f
each_level options prefix bare few w = tt
each_level options prefix (tree c below after) few w =
    (part_level options prefix c below few.0 w.0 (each_level options prefix below few.1 w.1), each_level options prefix after few.2 w.2)

level_within : (options : Options) (prefix : List ℕ) (es : List Entry) → IsProgram (whole es) → EachLevel options prefix (whole es) → is_level options prefix (whole es) ≡ true
level_within options prefix [] p e = absurd p
level_within options prefix (x ∷ es) p e = whole_level options prefix (content x) (forest es) e.0

pub code_is_level : CodeIsLevel
code_is_level options program well =
    let es : List Entry = program.entries.items in
    level_within options program.prefix es well.first (each_level options program.prefix (whole es) (few_whole es) well.trees)

back_within : (options : Options) (prefix : List ℕ) (es : List Entry) (i : ℕ) → IsProgram (whole es) → EachLevel options prefix (whole es) → indent_after_all i (list_lines options prefix es) ≤ i
back_within options prefix [] i p e = absurd p
back_within options prefix (x ∷ es) i p e = whole_back options prefix (content x) (forest es) i p e.0

each_least : (options : Options) (prefix : List ℕ) (f : Forest) → IsPrefix prefix → IsWell prefix f → EachLeast options prefix f
each_least options prefix bare p w = tt
each_least options prefix (tree c below after) p w = (part_least options prefix c below p w.0 (each_least options prefix below p w.1), each_least options prefix after p w.2)

least_within : (options : Options) (prefix : List ℕ) (es : List Entry) (i : ℕ) → IsProgram (whole es) → EachLeast options prefix (whole es) → never_stays i (list_lines options prefix es) ≡ true → i ≤ indent_after_all i (list_lines options prefix es)
least_within options prefix [] i p e m = absurd p
least_within options prefix (x ∷ es) i p e m = whole_least options prefix (content x) (forest es) i p e.0 m

returned : (i j : ℕ) → j ≤ i → (0 < i → i ≤ j) → j ≡ i
returned zero j most least = omega (arith, most)
returned (suc i) j most least = omega (arith, most, least (omega arith))

pub indent_returns : IndentReturns
indent_returns options program i well stays =
    let es : List Entry = program.entries.items in
    let prefix : List ℕ = program.prefix in
    returned i (indent_after_all i (list_lines options prefix es)) (back_within options prefix es i well.first (each_level options prefix (whole es) (few_whole es) well.trees))
    (λ some. least_within options prefix es i well.first (each_least options prefix (whole es) (prefix_is prefix well.prefix_fits well.prefix_utf8) well.trees) (stays some))

-- the law
pub reads_back : ReadsBack
reads_back options program read well alike =
    let prefix : List ℕ = program.prefix in
    let f : Forest = whole program.entries.items in
    let w : Bool = options.whitespace in
    let is : IsPrefix prefix = prefix_is prefix well.prefix_fits well.prefix_utf8 in
    let text : List ℕ = text_of options program in
    let r = trees_read options prefix f 0 text [] (each_well options prefix f (few_whole program.entries.items) is well.trees) (λ on. code_is_level options program well) (ap settled (sym (append-nil text))) (λ a. absurd (no_code_on_top program.entries.items well.first a)) in
    record {
      rest = r.rest;
      prefix_fits = ap is_prefix alike.prefix ∙ well.prefix_fits;
      first = subst IsProgram (sym alike.trees) (program_read w f well.first);
      reads = subst (λ p. Reads p (trees (whole read.entries.items)) text r.rest) (sym alike.prefix) (subst (λ x. Reads prefix (trees x) text r.rest) (sym alike.trees) r.reads);
      nothing_left = r.same ∙ settled_none;
    }
