-- A program is well formed where its shape is right and its texts fit.
use Rattle.std.proofs.Common.{◌≡◌, true, ℕ, zero, suc, List, [], ◌∷◌, length, take, drop, All}
use Rattle.std.proofs.lemmas.List.Elements.{All-drop, All-head, All-tail, All-take}
use Rattle.lp_form.specs.declared.part.Part.{Part}
use Rattle.lp_tree.specs.declared.tree.Entry.{Entry}
use Rattle.lp_tree.specs.declared.tree.Program.{Program}
use Rattle.lp_program.specs.Trees.{content, forest, forest_within, whole}
use Rattle.lp_reading_laws.specs.Printing.WellFormed.{IsWell, IsWellFormed, IsWellPart}
use Rattle.lp_emitted.specs.Shapes.{AreShaped, IsShaped, IsShapedPart}
use Rattle.lp_fitting.specs.Fitting.{HolesFit, IsFitting}
use Rattle.lp_program.specs.Reads.{is_prefix}
use Rattle.lp_emitted.specs.TextsFit.{AreStepsFit, StepsFit}

well_part : (prefix : List ℕ) (e : Entry) (below : List Part) → IsShapedPart (content e) below → HolesFit prefix e → StepsFit e → IsWellPart prefix (content e) below
well_part prefix e below s h t = record { count = s.count; fills = h.fills; shared = s.shared; steps = t; notes = h.notes; steady = h.steady }

well_within : (prefix : List ℕ) (n : ℕ) (es : List Entry) → AreShaped (forest_within n es) → All (HolesFit prefix) es → All StepsFit es → IsWell prefix (forest_within n es)
unfolding forest_within
well_within prefix zero es s h t = tt
well_within prefix (suc n) [] s h t = tt
well_within prefix (suc n) (e ∷ es) s h t =
    let holes = All-tail (HolesFit prefix) e es h in
    let steps = All-tail StepsFit e es t in (
      well_part prefix e _ s.0 (All-head (HolesFit prefix) e es h) (All-head StepsFit e es t),
      well_within prefix n (take e.below es) s.1 (All-take (HolesFit prefix) e.below es holes) (All-take StepsFit e.below es steps),
      well_within prefix n (drop e.below es) s.2 (All-drop (HolesFit prefix) e.below es holes) (All-drop StepsFit e.below es steps),
    )

well_whole : (prefix : List ℕ) (es : List Entry) → AreShaped (whole es) → All (HolesFit prefix) es → All StepsFit es → IsWell prefix (whole es)
unfolding forest
well_whole prefix [] s h t = tt
well_whole prefix (e ∷ es) s h t =
    (well_part prefix e _ s.0 (All-head (HolesFit prefix) e es h) (All-head StepsFit e es t), well_within prefix (length es) es s.1 (All-tail (HolesFit prefix) e es h) (All-tail StepsFit e es t), tt)

pub shaped_is_well_formed : (program : Program) → IsShaped program → is_prefix program.prefix ≡ true → IsFitting program → AreStepsFit program → IsWellFormed program
shaped_is_well_formed program s prefix h t = record {
  prefix_fits = prefix;
  prefix_utf8 = h.prefix_utf8;
  first = s.first;
  trees = well_whole program.prefix program.entries.items s.trees h.parts t;
}
