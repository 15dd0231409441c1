-- The last of several symbols is popped first.
use Rattle.std.proofs.Common.{◌≡◌, ℕ, ◌+◌, List, [], ◌∷◌, ◌++◌, length, decimal, ap, sym, ◌∙◌, append_assoc, zero-add, arith}
use Rattle.lp_form.specs.declared.part.Part.TheVariants as part
use Rattle.lp_tree.specs.ProgramTree.{Item, Note, unnoted}
use Rattle.lp_build.specs.Built.{row}
use Rattle.lp_build.specs.Reductions.{pop_lines}

pop_lines-append :
    (k n : ℕ) (vs : List (List ℕ)) (v : List ℕ) → n ≡ k + length vs →
    pop_lines k (vs ++ v ∷ []) ≡ row part.PopLine (decimal n ∷ v ∷ []) ∷ pop_lines k vs
pop_lines-append k n [] v e =
    let same : k ≡ n = omega arith in
    ap (λ m. row part.PopLine (decimal m ∷ v ∷ []) ∷ []) same
pop_lines-append k n (w ∷ vs) v e =
    let next : n ≡ (k + 1) + length vs = omega arith in
    ap (λ (xs : List Item). xs ++ row part.PopLine (decimal k ∷ w ∷ []) ∷ []) (pop_lines-append (k + 1) n vs v next)

pub pops_last :
    (vs : List (List ℕ)) (v : List ℕ) →
    pop_lines 0 (vs ++ v ∷ []) ≡ row part.PopLine (decimal (length vs) ∷ v ∷ []) ∷ pop_lines 0 vs
pops_last vs v = pop_lines-append 0 (length vs) vs v (sym (zero-add (length vs)))

pub pops_more :
    (done : List Item) (vs : List (List ℕ)) (v : List ℕ) →
    (done ++ row part.PopLine (decimal (length vs) ∷ v ∷ []) ∷ []) ++ pop_lines 0 vs ≡ done ++ pop_lines 0 (vs ++ v ∷ [])
pops_more done vs v =
    append_assoc done (row part.PopLine (decimal (length vs) ∷ v ∷ []) ∷ []) (pop_lines 0 vs)
    ∙ ap (λ (xs : List Item). done ++ xs) (sym (pops_last vs v))

-- the lines have no notes
pub pops_noted :
    (done : List (List Note)) (vs : List (List ℕ)) (v : List ℕ) →
    (done ++ [] ∷ []) ++ unnoted (pop_lines 0 vs) ≡ done ++ unnoted (pop_lines 0 (vs ++ v ∷ []))
pops_noted done vs v =
    append_assoc done ([] ∷ []) (unnoted (pop_lines 0 vs)) ∙ ap (λ (xs : List Item). done ++ unnoted xs) (sym (pops_last vs v))
