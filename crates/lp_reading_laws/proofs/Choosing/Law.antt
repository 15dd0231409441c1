-- The laws of programs.
use Rattle.std.proofs.Common.{◌≡◌, ℕ, true, List, [], ◌∷◌, ◌++◌, length, codes, sym, subst, ltb}
use Rattle.std.specs.Str.{IsUtf8}
use Rattle.std.proofs.lemmas.Bool.{and_parts}
use Rattle.lp_form.specs.declared.part.Part.TheVariants as part
use Rattle.lp_texts.specs.Identifiers.{is_identifier}
use Rattle.lp_tree.specs.declared.tree.Entry.{Entry}
use Rattle.lp_tree.specs.declared.tree.Program.{Program}
use Rattle.lp_program.specs.Reads.{is_prefix, IsProgram, Reads}
use Rattle.lp_program.specs.Reads.Task.{trees}
use Rattle.lp_program.specs.Trees.{content, forest, whole}
use Rattle.lp_reading_laws.specs.Holes.Found.{are_words}
use Rattle.lp_reading_laws.proofs.Holes.Words.{prefix_words}
use Rattle.lp_reading_laws.specs.Texts.Laws.{AreParted}
use Rattle.lp_program.specs.Choosing.{PartChosen}
use Rattle.lp_reading_laws.specs.Choosing.Laws.{told_trees, BodiesTold, ReadsTold, PrefixesAreShown, ProgramsAreChosen, ProgramsAreOne, ChosenIsIt}
use Rattle.lp_program.specs.Prefixes.{ShowsPrefix}
use Rattle.lp_reading_laws.proofs.Choosing.Chosen.{trees_are_chosen}
use Rattle.lp_program.proofs.Prefixes.{prefix_once}
use Rattle.lp_program.proofs.Chosen.{part_once}
use Rattle.lp_reading_laws.proofs.Choosing.Showing.{program_shows, shows_utf8}

whole_shows : (prefix : List ℕ) (es : List Entry) (text rest : List ℕ) → IsUtf8 text → is_prefix prefix ≡ true → IsProgram (whole es) → Reads prefix (trees (whole es)) text rest → ShowsPrefix prefix text
whole_shows prefix [] text rest u fits is reads = absurd is
whole_shows prefix (e ∷ es) text rest u fits is reads = program_shows prefix (content e) (forest es) text rest u fits is reads

whole_chosen : (prefix : List ℕ) (es : List Entry) (text rest : List ℕ) → are_words prefix ≡ true → IsUtf8 text → IsProgram (whole es) → AreParted prefix (whole es) → BodiesTold prefix text [] (told_trees (whole es)) → Reads prefix (trees (whole es)) text rest →
    PartChosen 16 prefix part.Program (told_trees (whole es)) text rest
whole_chosen prefix [] text rest w u is parted bodies reads = absurd is
whole_chosen prefix (e ∷ es) text rest w u is parted bodies reads = trees_are_chosen prefix (content e) (forest es) text rest w u is parted bodies reads

pub prefixes_are_shown : PrefixesAreShown
prefixes_are_shown text program u r = whole_shows program.prefix program.entries.items text r.rest u r.prefix_fits r.first r.reads

-- the trees of a program that a text reads as, under its prefix
program_chosen : (text : List ℕ) (program : Program) → IsUtf8 text → (r : ReadsTold text program) → PartChosen 16 program.prefix part.Program (told_trees (whole program.entries.items)) text r.reads.rest
program_chosen text program u r =
    let reads = r.reads in
    let word = (and_parts (ltb 0 (length program.prefix)) (is_identifier (program.prefix ++ codes "lalrpop_util")) reads.prefix_fits).1 in
    let w : are_words program.prefix ≡ true = prefix_words program.prefix (shows_utf8 program.prefix text u (prefixes_are_shown text program u reads)) word in
    whole_chosen program.prefix program.entries.items text reads.rest w u reads.first r.parted r.bodies reads.reads

pub programs_are_chosen : ProgramsAreChosen
programs_are_chosen text program told u r same trees_are =
    let reads = r.reads in
    let chosen = program_chosen text program u r in
    record {
      rest = reads.rest;
      shows = subst (λ (x : List ℕ). ShowsPrefix x text) (sym same) (prefixes_are_shown text program u reads);
      reads = (subst (λ f. PartChosen 16 told.prefix part.Program f text reads.rest) (sym trees_are) (subst (λ (x : List ℕ). PartChosen 16 x part.Program (told_trees (whole program.entries.items)) text reads.rest) (sym same) chosen), reads.nothing_left);
    }

pub programs_are_one : ProgramsAreOne
programs_are_one text program other u r s =
    let first = r.reads in
    let second = s.reads in
    let same : program.prefix ≡ other.prefix = prefix_once program.prefix other.prefix text (prefixes_are_shown text program u first) (prefixes_are_shown text other u second) in
    let again : PartChosen 16 program.prefix part.Program (told_trees (whole other.entries.items)) text second.rest
    = subst (λ (x : List ℕ). PartChosen 16 x part.Program (told_trees (whole other.entries.items)) text second.rest) (sym same) (program_chosen text other u s) in
    (same, (part_once 16 program.prefix part.Program (told_trees (whole program.entries.items)) (told_trees (whole other.entries.items)) text first.rest second.rest (program_chosen text program u r) again).0)

pub chosen_is_it : ChosenIsIt
chosen_is_it text program chosen u r c =
    let first = r.reads in
    let same : chosen.prefix ≡ program.prefix = prefix_once chosen.prefix program.prefix text c.shows (prefixes_are_shown text program u first) in
    let reads = c.reads in
    let again : PartChosen 16 program.prefix part.Program (whole chosen.entries.items) text c.rest = subst (λ (x : List ℕ). PartChosen 16 x part.Program (whole chosen.entries.items) text c.rest) same reads.0 in
    (same, (part_once 16 program.prefix part.Program (whole chosen.entries.items) (told_trees (whole program.entries.items)) text c.rest first.rest again (program_chosen text program u r)).0)
