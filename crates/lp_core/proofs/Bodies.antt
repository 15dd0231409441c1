-- The bodies of a match by number.
use Rattle.std.proofs.Common.{◌≡◌, ℕ, zero, suc, List, [], ◌∷◌, Some, None, refl, sym, ap, arith}
use Rattle.std.specs.Prelude.{slice_get, length}
use Rattle.lp_core.specs.Tree.{Tree, trees_of}
use Rattle.lp_core.specs.Store.{Program}
use Rattle.lp_core.specs.Flow.{State, stuck}
use Rattle.lp_core.specs.Eval.{Callee, count, eval, eval_at, call_within, run, run_at}

pub count_length : (es : List Tree) → count (trees_of es) ≡ length es
count_length [] = refl
count_length (e ∷ es) = omega (arith, count_length es)

at_some : (p : Program) (call : Callee) (n : ℕ) (es : List Tree) (i : ℕ) (e : Tree) (st : State) → slice_get es i ≡ Some e → eval p call n e st ≡ eval_at p call n (trees_of es) i st
at_some p call n [] i e st is = cc
at_some p call n (t ∷ es) zero e st is = let same : t ≡ e = cc in ap (λ x. eval p call n x st) (sym same)
at_some p call n (t ∷ es) (suc i) e st is = at_some p call n es i e st is

at_none : (p : Program) (call : Callee) (n : ℕ) (es : List Tree) (i : ℕ) (st : State) → slice_get es i ≡ None → stuck st ≡ eval_at p call n (trees_of es) i st
at_none p call n [] i st is = refl
at_none p call n (t ∷ es) zero st is = cc
at_none p call n (t ∷ es) (suc i) st is = at_none p call n es i st is

-- a body that is there, and one that isn't
pub body_there : (p : Program) (es : List Tree) (i : ℕ) (e : Tree) (st : State) → slice_get es i ≡ Some e → run p e st ≡ run_at p (trees_of es) i st
body_there p es i e st is = at_some p (call_within p st.left) st.left es i e st is

pub body_missing : (p : Program) (es : List Tree) (i : ℕ) (st : State) → slice_get es i ≡ None → stuck st ≡ run_at p (trees_of es) i st
body_missing p es i st is = at_none p (call_within p st.left) st.left es i st is
