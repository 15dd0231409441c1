-- The laws of printed programs.
use Rattle.std.proofs.Common.{◌≡◌, ℕ, Bool, true, false, inl, inr, List, [], ◌∷◌, refl, sym, ◌∙◌, ap, subst}
use Rattle.std.proofs.lemmas.Bool.{cases_Bool, both_ways, cond-true, cond-false}
use Rattle.lp_form.specs.Templates.{steps_of}
use Rattle.lp_form.specs.declared.part.Part.{Part}
use Rattle.lp_form.specs.declared.part.Part.TheVariants as part
use Rattle.lp_tree.specs.declared.tree.Program.{Program}
use Rattle.lp_write.specs.Lines.{Line, lines_bytes}
use Rattle.lp_write.specs.declared.rust.Options.{Options}
use Rattle.lp_program.specs.OwnLines.{hole}
use Rattle.lp_program.specs.Reads.{ReadsAs}
use Rattle.lp_program.specs.Trees.{Content, Forest, whole}
use Rattle.lp_program.specs.Trees.Forest.{bare, tree}
use Rattle.lp_reading_laws.specs.Holes.Parted.{IsParted}
use Rattle.lp_reading_laws.specs.Printing.AsRead.{code_read, content_read, forest_read, IsRead}
use Rattle.lp_reading_laws.specs.Printing.Laws.{text_of}
use Rattle.lp_reading_laws.specs.Printing.TemplateTests.{has_code}
use Rattle.lp_reading_laws.proofs.Printing.Existing.{each_is_read}
use Rattle.lp_reading_laws.proofs.Printing.Law.{reads_back}
use Rattle.lp_reading_laws.specs.Texts.Laws.{AreParted}
use Rattle.lp_reading_laws.specs.Choosing.Laws.{told_trees, BodiesTold, ReadsTold}
use Rattle.lp_reading_laws.proofs.Choosing.Law.{programs_are_chosen, programs_are_one}
use Rattle.lp_reading_laws.specs.Printed.Laws.{printed_trees, IsTellable, PrintedIsChosen, PrintedIsOne}

-- nothing is asked of user code
code_part : (p : Part) → has_code (steps_of p) ≡ true → p ≡ part.UserBody
unfolding steps_of
code_part part.UserBody h = refl
code_part _ h = absurd (both_ways false refl h)

parted_content : (whitespace : Bool) (prefix : List ℕ) (c : Content) → IsParted prefix c.part c.holes → IsParted prefix (content_read whitespace c).part (content_read whitespace c).holes
parted_content whitespace prefix c h = elim (cases_Bool (has_code (steps_of c.part))) [
  | inl y ↦
      subst (λ (x : Content). IsParted prefix x.part x.holes) (sym (cond-true (has_code (steps_of c.part)) (record c { holes = code_read whitespace (hole c 0) ∷ [] }) c y))
      (subst (λ p. IsParted prefix p (code_read whitespace (hole c 0) ∷ [])) (sym (code_part c.part y)) tt)
  | inr n ↦ subst (λ (x : Content). IsParted prefix x.part x.holes) (sym (cond-false (has_code (steps_of c.part)) (record c { holes = code_read whitespace (hole c 0) ∷ [] }) c n)) h
]

parted_read : (whitespace : Bool) (prefix : List ℕ) (f : Forest) → AreParted prefix f → AreParted prefix (forest_read whitespace f)
parted_read whitespace prefix bare h = tt
parted_read whitespace prefix (tree c below after) h = (parted_content whitespace prefix c h.0, parted_read whitespace prefix below h.1, parted_read whitespace prefix after h.2)

-- a text that reads as a program whose holes are parted, and tells its bodies, reads as one that is told
pub reads_told : (whitespace : Bool) (program read : Program) (text : List ℕ) → ReadsAs text read → AreParted program.prefix (whole program.entries.items) → BodiesTold program.prefix text [] (printed_trees whitespace program) → IsRead whitespace program read → ReadsTold text read
reads_told whitespace program read text reads parted bodies r = record {
  reads = reads;
  parted = subst (λ (x : List ℕ). AreParted x (whole read.entries.items)) (sym r.prefix) (subst (λ f. AreParted program.prefix f) (sym r.trees) (parted_read whitespace program.prefix (whole program.entries.items) parted));
  bodies = subst (λ (x : List ℕ). BodiesTold x text [] (told_trees (whole read.entries.items))) (sym r.prefix) (subst (λ f. BodiesTold program.prefix text [] (told_trees f)) (sym r.trees) bodies);
}

-- so does the text of a tellable program
tellable_told : (options : Options) (program read : Program) (text : List ℕ) → text ≡ text_of options program → IsTellable options program → IsRead options.whitespace program read → ReadsTold text read
tellable_told options program read text same t r =
    reads_told options.whitespace program read text (subst (λ (x : List ℕ). ReadsAs x read) (sym same) (reads_back options program read t.well r)) t.parted
    (subst (λ (x : List ℕ). BodiesTold program.prefix x [] (printed_trees options.whitespace program)) (sym same) t.bodies) r

pub printed_is_chosen : PrintedIsChosen
printed_is_chosen options program told u t same trees_are =
    let r = each_is_read options.whitespace program in
    let is = r.1 in
    programs_are_chosen (text_of options program) r.0 told u (tellable_told options program r.0 (text_of options program) refl t is) (same ∙ sym is.prefix) (trees_are ∙ ap told_trees (sym is.trees))

pub printed_is_one : PrintedIsOne
printed_is_one options program other u t v same =
    let r = each_is_read options.whitespace program in
    let s = each_is_read options.whitespace other in
    let is = r.1 in
    let as_other = s.1 in
    let text : text_of options program ≡ text_of options other = ap (λ (x : List Line). lines_bytes options.whitespace 0 x) same in
    let one = programs_are_one (text_of options program) r.0 s.0 u (tellable_told options program r.0 (text_of options program) refl t is) (tellable_told options other s.0 (text_of options program) text v as_other) in
    (sym is.prefix ∙ one.0 ∙ as_other.prefix, ap told_trees (sym is.trees) ∙ one.1 ∙ ap told_trees as_other.trees)
