-- The rows of gotos, each with the next call.
use Rattle.std.proofs.Common.{◌≡◌, ℕ, Bool, List, [], ◌∷◌, ◌++◌, length, map, drop, Option, refl, ap, ◌∙◌, decimal}
use Rattle.std.specs.Prelude.{nat_lt}
use Rattle.std.specs.List.{flat_map}
use Rattle.lp_form.specs.declared.part.Part.TheVariants as part
use Rattle.lp_repr.specs.declared.repr.Grammar.{Grammar}
use Rattle.lp_tree.specs.ProgramTree.{Item, items}
use Rattle.lp_tree.specs.declared.tree.Node.{Node}
use Rattle.lp_build.specs.Ascent.{check_lines, goto_lines as row_lines, goto_rows, loop_lines, loop_part}
use Rattle.lp_build.specs.Built.{leaf_if, over}
use Rattle.lp_build.specs.declared.ascent.GotoLoopArm.{GotoLoopArm}
use Rattle.lp_ascent.specs.AnswerLines.{answer_names}
use Rattle.lp_ascent.specs.GotoLines.{goto_arm, goto_call, gotos_of, optional_top}
use Rattle.lp_ascent.specs.NamedGotos.{arm_of}
use Rattle.lp_ascent.specs.Slots.{Layout, count_of}

rows_are :
    (g : Grammar) (ls : List Layout) (l : Layout) (gotos : List (List ℕ × ℕ)) (calls : List Node) →
    map items calls ≡ map (goto_call g ls l) gotos →
    goto_rows (map (arm_of (count_of l)) gotos) calls ≡ flat_map (goto_arm g ls l) gotos
rows_are g ls l [] calls e = refl
rows_are g ls l (goto ∷ gotos) [] e = absurd cc
rows_are g ls l (goto ∷ gotos) (n ∷ calls) e =
    let first : items n ≡ goto_call g ls l goto = cc in
    let rest : map items calls ≡ map (goto_call g ls l) gotos = cc in
    ap (λ (below : List Item). over part.GotoArm (goto.0 ∷ decimal (count_of l) ∷ []) below ++ goto_rows (map (arm_of (count_of l)) gotos) calls) first
    ∙ ap (λ (rows : List Item). goto_arm g ls l goto ++ rows) (rows_are g ls l gotos calls rest)

frame_is :
    (g : Grammar) (ls : List Layout) (l : Layout) (gotos : List (List ℕ × ℕ)) (calls : List Node) →
    map items calls ≡ map (goto_call g ls l) gotos →
    over (loop_part (map (arm_of (count_of l)) gotos)) []
    (loop_lines (optional_top l) (map (arm_of (count_of l)) gotos) (nat_lt (length gotos) (length (answer_names g))) calls)
    ≡ gotos_of g ls l gotos
frame_is g ls l [] calls e = refl
frame_is g ls l (goto ∷ gotos) calls e =
    ap (λ (rows : List Item). over part.GotoLoop [] ((check_lines (optional_top l) ++ rows) ++ leaf_if (nat_lt (length (goto ∷ gotos)) (length (answer_names g))) part.GotoOther))
    (rows_are g ls l (goto ∷ gotos) calls e)

-- the frame of these arms and calls
pub frame_of :
    (g : Grammar) (ls : List Layout) (l : Layout) (gotos : List (List ℕ × ℕ)) (top : Option ℕ) (arms : List GotoLoopArm) (other : Bool) (calls : List Node) →
    top ≡ optional_top l → arms ≡ map (arm_of (count_of l)) gotos → other ≡ nat_lt (length gotos) (length (answer_names g)) →
    map items calls ≡ map (goto_call g ls l) gotos →
    over (loop_part arms) [] (loop_lines top arms other calls) ≡ gotos_of g ls l gotos
frame_of g ls l gotos top arms other calls t a o e =
    ap (λ (x : Option ℕ). over (loop_part arms) [] (loop_lines x arms other calls)) t
    ∙ (ap (λ (xs : List GotoLoopArm). over (loop_part xs) [] (loop_lines (optional_top l) xs other calls)) a
    ∙ (ap (λ (b : Bool). over (loop_part (map (arm_of (count_of l)) gotos)) [] (loop_lines (optional_top l) (map (arm_of (count_of l)) gotos) b calls)) o
    ∙ frame_is g ls l gotos calls e))
