-- The laws of what is emitted.
use Rattle.std.proofs.Common.{◌≡◌, ℕ, zero, suc, true, List, [], ◌∷◌, ◌++◌, length, take, drop, codes, ltb, All, sym, ◌∙◌, ap}
use Rattle.std.proofs.lemmas.List.Elements.{All-drop, All-head, All-tail, All-take}
use Rattle.std.proofs.lemmas.Bool.{and_parts}
use Rattle.lp_texts.specs.Identifiers.{is_identifier}
use Rattle.lp_repr.specs.declared.lr1.StartStates.{StartStates}
use Rattle.lp_repr.specs.declared.repr.Grammar.{Grammar}
use Rattle.lp_tree.specs.declared.tree.Entry.{Entry}
use Rattle.lp_tree.specs.declared.tree.Program.{Program}
use Rattle.lp_write.specs.declared.rust.Options.{Options}
use Rattle.lp_program.specs.Reads.{is_prefix}
use Rattle.lp_program.specs.Trees.{forest, forest_within, whole}
use Rattle.lp_reading_laws.specs.Holes.Found.{are_words}
use Rattle.lp_reading_laws.proofs.Holes.Words.{prefix_words}
use Rattle.lp_fitting.specs.Fitting.{HolesFit}
use Rattle.lp_reading_laws.specs.Printing.AsRead.{IsRead}
use Rattle.lp_reading_laws.proofs.Printing.Existing.{each_is_read}
use Rattle.lp_reading_laws.specs.Texts.Laws.{AreParted}
use Rattle.lp_reading_laws.specs.Choosing.Laws.{told_trees, ReadsTold}
use Rattle.lp_reading_laws.proofs.Choosing.Existing.{never_refused}
use Rattle.lp_reading_laws.proofs.Choosing.Law.{chosen_is_it, programs_are_chosen}
use Rattle.lp_reading_laws.proofs.Printed.Law.{reads_told}
use Rattle.lp_emit.specs.Texts.{IsEmission}
use Rattle.lp_round_trip.proofs.Printed.{bodies_suit_told, printed_suits}
use Rattle.lp_round_trip.specs.Laws.{FittingIsParted, EmissionTellsBodies, EmissionIsChosen, EmissionIsRead, EmissionIsNotRefused, EmissionAgreesAsRead}

parted_within : (prefix : List ℕ) (n : ℕ) (es : List Entry) → All (HolesFit prefix) es → AreParted prefix (forest_within n es)
unfolding forest_within
parted_within prefix zero es h = tt
parted_within prefix (suc n) [] h = tt
parted_within prefix (suc n) (e ∷ es) h =
    let first = All-head (HolesFit prefix) e es h in
    let others = All-tail (HolesFit prefix) e es h in
    (first.parted, parted_within prefix n (take e.below es) (All-take (HolesFit prefix) e.below es others), parted_within prefix n (drop e.below es) (All-drop (HolesFit prefix) e.below es others))

parted_whole : (prefix : List ℕ) (es : List Entry) → All (HolesFit prefix) es → AreParted prefix (whole es)
unfolding forest
parted_whole prefix [] h = tt
parted_whole prefix (e ∷ es) h =
    let first = All-head (HolesFit prefix) e es h in
    (first.parted, parted_within prefix (length es) es (All-tail (HolesFit prefix) e es h), tt)

pub fitting_is_parted : FittingIsParted
fitting_is_parted program h = parted_whole program.prefix program.entries.items h.parts

-- its prefix has bytes of words alone
emission_words : (g : Grammar) (states : List StartStates) (options : Options) (text : List ℕ) (e : IsEmission g states options text) → are_words e.program.prefix ≡ true
emission_words g states options text e =
    let prefix = e.program.prefix in
    let r = each_is_read options.whitespace e.program in
    let is = r.1 in
    let fits : is_prefix prefix ≡ true = sym (ap is_prefix is.prefix) ∙ (e.reads r.0 is).prefix_fits in
    prefix_words prefix e.fitting.prefix_utf8 (and_parts (ltb 0 (length prefix)) (is_identifier (prefix ++ codes "lalrpop_util")) fits).1

pub emission_tells_bodies : EmissionTellsBodies
emission_tells_bodies g states options text e =
    bodies_suit_told e.program.prefix text [] _ (emission_words g states options text e) (printed_suits options.whitespace e.program.prefix [] (whole e.program.entries.items) e.fitting.bodies)

-- what is emitted reads as a program that is told
emission_told : (g : Grammar) (states : List StartStates) (options : Options) (text : List ℕ) (e : IsEmission g states options text) (read : Program) → IsRead options.whitespace e.program read → ReadsTold text read
emission_told g states options text e read is = reads_told options.whitespace e.program read text (e.reads read is) (fitting_is_parted e.program e.fitting) (emission_tells_bodies g states options text e) is

pub emission_is_chosen : EmissionIsChosen
emission_is_chosen g states options text e told same =
    let r = each_is_read options.whitespace e.program in
    let is = r.1 in
    programs_are_chosen text r.0 told e.utf8 (emission_told g states options text e r.0 is) (same.0 ∙ sym is.prefix) (same.1 ∙ ap told_trees (sym is.trees))

pub emission_is_read : EmissionIsRead
emission_is_read g states options text e chosen c =
    let r = each_is_read options.whitespace e.program in
    let is = r.1 in
    let same = chosen_is_it text r.0 chosen e.utf8 (emission_told g states options text e r.0 is) c in
    (same.0 ∙ is.prefix, same.1 ∙ ap told_trees is.trees)

pub emission_agrees_as_read : EmissionAgreesAsRead
emission_agrees_as_read g states options text e chosen c = e.agrees chosen (emission_is_read g states options text e chosen c)

pub emission_is_not_refused : EmissionIsNotRefused
emission_is_not_refused g states options text e line refused =
    let r = each_is_read options.whitespace e.program in
    never_refused text r.0 line e.utf8 (emission_told g states options text e r.0 r.1) refused
