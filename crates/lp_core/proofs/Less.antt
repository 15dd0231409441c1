-- The evaluator's moves make what is to be done less.
use Rattle.std.proofs.Common.{◌≡◌, ℕ, zero, suc, ◌+◌, ◌<◌, List, [], ◌∷◌, ◌++◌, Some, ap, arith, Bor}
use Rattle.std.specs.Prelude.{Vec, slice_get}
use Rattle.std.specs.declared.alloc.Global.{Global}
use Rattle.lp_core.specs.declared.expr.Op.{Op}
use Rattle.lp_core.specs.declared.expr.Case.{Case}
use Rattle.lp_core.specs.declared.expr.Target.{Target}
use Rattle.lp_core.specs.declared.value.Value.{Value}
use Rattle.lp_core.specs.declared.machine.Frame.{Frame}
use Rattle.lp_core.specs.declared.machine.Frame.TheVariants as f
use Rattle.lp_core.specs.declared.machine.Now.{Now}
use Rattle.lp_core.specs.declared.machine.Now.TheVariants as n
use Rattle.lp_core.specs.declared.world.Done.{Done}
use Rattle.lp_core.specs.Tree.{Tree, Apply, If, Match, trees_of}
use Rattle.lp_core.specs.Weight.{weight, weight_all, weight_frame, weights, weight_now}

pub weights_push : (frs : List Frame) (fr : Frame) → weights (frs ++ fr ∷ []) ≡ weights frs + weight_frame fr
weights_push [] fr = omega arith
weights_push (g ∷ frs) fr = omega (arith, weights_push frs fr)

pushed_less : (frs frs' : List Frame) (fr : Frame) (e a a' : Tree) → frs' ≡ frs ++ fr ∷ [] → a' ≡ a → weight_frame fr + weight a < weight e → weights frs' + weight a' < weights frs + weight e
pushed_less frs frs' fr e a a' push part less =
    omega (arith, ap weights push, weights_push frs fr, ap weight part, less)

pub start_apply_less : (frs frs' : List Frame) (op : Bor Op) (o : Op) (e a a' : Tree) → e ≡ Apply o a → frs' ≡ frs ++ f.Apply op ∷ [] → a' ≡ a → weights frs' + weight a' < weights frs + weight e
start_apply_less frs frs' op o e a a' is push part = pushed_less frs frs' (f.Apply op) e a a' push part (omega (arith, ap weight is))

pub start_if_less : (frs frs' : List Frame) (aa bb : Bor Tree) (e t t' a b : Tree) → e ≡ If t a b → frs' ≡ frs ++ f.Choose aa bb ∷ [] → aa.now ≡ a → bb.now ≡ b → t' ≡ t → weights frs' + weight t' < weights frs + weight e
start_if_less frs frs' aa bb e t t' a b is push same_a same_b part = pushed_less frs frs' (f.Choose aa bb) e t t' push part (omega (arith, ap weight is, ap weight same_a, ap weight same_b))

pub start_match_less : (frs frs' : List Frame) (x : ℕ) (cc : Bor (List Case)) (bb : Bor (List Tree)) (e t t' : Tree) (cases : List Case) (bodies : List Tree) → e ≡ Match t x cases (trees_of bodies) → frs' ≡ frs ++ f.Select x cc bb ∷ [] → bb.now ≡ bodies → t' ≡ t → weights frs' + weight t' < weights frs + weight e
start_match_less frs frs' x cc bb e t t' cases bodies is push same part = pushed_less frs frs' (f.Select x cc bb) e t t' push part (omega (arith, ap weight is, ap (λ l. weight_all (trees_of l)) same))

pub next_more_less : (frs frs' : List Frame) (g : Bor Target) (values : Vec Value Global) (others : Bor (List Tree)) (args : List Tree) (e : Tree) → args ≡ e ∷ others.now → frs' ≡ frs ++ f.Argument g values others ∷ [] → weights frs' + weight e < weights frs + weight_all (trees_of args)
next_more_less frs frs' g values others args e is push =
    omega (arith, ap weights push, weights_push frs (f.Argument g values others), ap (λ l. weight_all (trees_of l)) is)

pub next_block_less : (frs frs' : List Frame) (others : Bor (List Tree)) (es : List Tree) (e : Tree) → es ≡ e ∷ others.now → frs' ≡ frs ++ f.Sequence others ∷ [] → weights frs' + weight e < weights frs + weight_all (trees_of es)
next_block_less frs frs' others es e is push =
    omega (arith, ap weights push, weights_push frs (f.Sequence others), ap (λ l. weight_all (trees_of l)) is)

pub resumed_less : (frs frs' : List Frame) (fr : Frame) (now now' : Now) (d : Done) → now ≡ n.Ended d → frs ≡ frs' ++ fr ∷ [] → weight_now now' < weight_frame fr → weights frs' + weight_now now' < weights frs + weight_now now
resumed_less frs frs' fr now now' d is pop less = omega (arith, ap weights pop, weights_push frs' fr, less)

-- one of several expressions is less than all of them
pub nth_less : (es : List Tree) (i : ℕ) (e : Tree) → slice_get es i ≡ Some e → weight e < weight_all (trees_of es)
nth_less [] i e is = cc
nth_less (t ∷ es) zero e is = let same : t ≡ e = cc in omega (arith, ap weight same)
nth_less (t ∷ es) (suc i) e is = omega (arith, nth_less es i e is)
