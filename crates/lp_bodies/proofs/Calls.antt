-- Calls: by a name and arguments that are equal to others, and of a closure for each terminal, one more.
use Rattle.std.proofs.Common.{◌≡◌, ℕ, suc, List, [], ◌∷◌, ◌++◌, length, refl, ap, sym, ◌∙◌, append_assoc, subst, Result, IfOk, arith}
use Rattle.std.proofs.lemmas.List.{length-append}
use Rattle.lp_core.specs.declared.expr.Leaf.TheVariants as leaf
use Rattle.lp_core.specs.Tree.{Tree, Plain}
use Rattle.lp_core.specs.declared.expr.Join.TheVariants as join
use Rattle.lp_maker.specs.Constructs.{call_function, joined, read}
use Rattle.lp_maker.specs.Making.{Making, call_named}
use Rattle.lp_bodies.specs.Tables.{kept_calls, one_or_tuple}

-- a call by an equal name, with equal arguments
pub call_by : {E : Type 0} (m : Making) (r : Result Tree E) (name other : List ℕ) (args others : List Tree) → name ≡ other → args ≡ others → IfOk r (λ v. v ≡ call_named name args m) → IfOk r (λ v. v ≡ call_named other others m)
call_by m r name other args others e f h =
    let named : IfOk r (λ v. v ≡ call_named other args m) = subst (λ (x : List ℕ). IfOk r (λ v. v ≡ call_named x args m)) e h in
    subst (λ (x : List Tree). IfOk r (λ v. v ≡ call_named other x m)) f named

-- a call more, and those of the terminals that are left
pub call_more : (closure captured : ℕ) (calls all : List Tree) (one : Tree) (terminal : ℕ) (rest left : List ℕ) → left ≡ terminal ∷ rest → one ≡ call_function closure (Plain (leaf.Index (length calls)) ∷ Plain (leaf.Text terminal) ∷ read captured ∷ []) → calls ++ kept_calls closure captured (length calls) left ≡ all → (calls ++ one ∷ []) ++ kept_calls closure captured (length (calls ++ one ∷ [])) rest ≡ all
call_more closure captured calls all one terminal rest left e is h =
    let longer : length (calls ++ one ∷ []) ≡ suc (length calls) = omega (arith, length-append calls (one ∷ [])) in
    ap (λ n. (calls ++ one ∷ []) ++ kept_calls closure captured n rest) longer
    ∙ append_assoc calls (one ∷ []) (kept_calls closure captured (suc (length calls)) rest)
    ∙ ap (λ (t : Tree). calls ++ (t ∷ kept_calls closure captured (suc (length calls)) rest)) is
    ∙ sym (ap (λ (ts : List ℕ). calls ++ kept_calls closure captured (length calls) ts) e)
    ∙ h

-- one payload, and the tuple of any other number
pub one_of : (ts before : List Tree) (t : Tree) → length ts ≡ 1 → ts ≡ before ++ t ∷ [] → t ≡ one_or_tuple ts
one_of ts [] t n e = sym (ap one_or_tuple e)
one_of ts (b ∷ bs) t n e =
    let long : length ts ≡ suc (length (bs ++ t ∷ [])) = ap length e in
    absurd (omega (arith, length-append bs (t ∷ []), long))

pub tuple_of : (ts : List Tree) → (length ts ≡ 1 → ⊥) → joined join.Payloads ts ≡ one_or_tuple ts
tuple_of [] h = refl
tuple_of (t ∷ []) h = absurd (h refl)
tuple_of (t ∷ u ∷ ts) h = refl
