-- Names by number.
use Rattle.std.proofs.Common.{◌≡◌, ℕ, ◌+◌, ◌<◌, suc, List, [], ◌∷◌, ◌++◌, length, map, drop, Bool, Option, Some, cond, refl, sym, ap, ◌∙◌, arith, append_assoc, length-append}
use Rattle.std.proofs.Math.Seq.{drop-cons}
use Rattle.std.proofs.Math.ListN.{get_or}
use Rattle.std.proofs.lemmas.List.{length-map}
use Rattle.std.specs.declared.cmp.Ordering.{Ordering}
use Rattle.std.specs.Cmp.{IsTotalOrder, eq_by_cmp_equiv}
use Rattle.std.specs.Cmp.Lexicographic.{texts_ties}
use Rattle.std.specs.List.{position_from}
use Rattle.std.specs.Ordering.{eq_by_cmp}
use Rattle.lp_repr.specs.Names.{same_nonterminal, same_terminal}
use Rattle.lp_repr.specs.Numbering.{firsts_from}
use Rattle.lp_repr.specs.declared.repr.NonterminalData.{NonterminalData}
use Rattle.lp_repr.specs.NameOrder.{nonterminal_cmp, terminal_cmp}
use Rattle.lp_repr.specs.declared.repr.NonterminalString.{NonterminalString}
use Rattle.lp_repr.specs.declared.repr.TerminalString.{TerminalString}
use Rattle.lp_repr.specs.declared.repr.TerminalString.TheVariants.{Quoted, Bare, Error}

-- names are the same exactly where their order ties them
pub nonterminal_ties : (m n : NonterminalString) → same_nonterminal m n ≡ eq_by_cmp nonterminal_cmp m n
nonterminal_ties m n = texts_ties m.0 n.0

pub terminal_ties : (m n : TerminalString) → same_terminal m n ≡ eq_by_cmp terminal_cmp m n
terminal_ties (Quoted s) (Quoted t) = texts_ties s t
terminal_ties (Quoted s) (Bare t) = refl
terminal_ties (Quoted s) Error = refl
terminal_ties (Bare s) (Quoted t) = refl
terminal_ties (Bare s) (Bare t) = texts_ties s t
terminal_ties (Bare s) Error = refl
terminal_ties Error (Quoted t) = refl
terminal_ties Error (Bare t) = refl
terminal_ties Error Error = refl

-- two tests that answer alike find the same place
pub same_position : {X : Type 0} (p q : X → Bool) → ((x : X) → p x ≡ q x) → (i : ℕ) (xs : List X) → position_from p i xs ≡ position_from q i xs
same_position p q alike i [] = refl
same_position p q alike i (x ∷ xs) =
    ap (λ (b : Bool). cond b (Some i) (position_from p (i + 1) xs)) (alike x)
    ∙ ap (λ (o : Option ℕ). cond (q x) (Some i) o) (same_position p q alike (i + 1) xs)

-- one more name, before those whose numbers are known
pub place_before : {K : Type 0} {R : K → K → Ordering} → IsTotalOrder R → (xs : List K) (i j : ℕ) (k q : K) (old new : Option ℕ) → j ≡ i + 1 → i < length xs → get_or xs i k ≡ k → old ≡ position_from (eq_by_cmp R q) j (drop j xs) → new ≡ cond (eq_by_cmp R k q) (Some i) old → new ≡ position_from (eq_by_cmp R q) i (drop i xs)
place_before {K} {R} o xs i j k q old new next h at was is =
    let t = eq_by_cmp R q in
    let e : drop i xs ≡ k ∷ drop (suc i) xs = drop-cons xs i k h ∙ ap (λ (y : K). y ∷ drop (suc i) xs) at in
    let s : j ≡ suc i = omega arith in
    let later : old ≡ position_from t (i + 1) (drop (suc i) xs) = was ∙ ap (λ (n : ℕ). position_from t n (drop j xs)) next ∙ ap (λ (n : ℕ). position_from t (i + 1) (drop n xs)) s in
    is ∙ ap (λ (b : Bool). cond b (Some i) old) ((eq_by_cmp_equiv o).symm k q)
    ∙ ap (λ (r : Option ℕ). cond (t k) (Some i) r) later
    ∙ sym (ap (position_from t i) e)

-- as many more as were put at the end
pub length_more : {A B : Type 0} (f : A → B) (new old : List A) (ys : List B) → map f new ≡ map f old ++ ys → length new ≡ length old + length ys
length_more f new old ys e =
    sym (length-map new f) ∙ ap length e ∙ length-append (map f old) ys ∙ ap (λ (n : ℕ). n + length ys) (length-map old f)

-- the first number of one more nonterminal
pub firsts_more : (firsts : List ℕ) (n m : ℕ) (d : NonterminalData) (rest left : List NonterminalData) (all : List ℕ) → left ≡ d ∷ rest → m ≡ n + length d.productions → firsts ++ firsts_from n left ≡ all → (firsts ++ n ∷ []) ++ firsts_from m rest ≡ all
firsts_more firsts n m d rest left all e f h =
    append_assoc firsts (n ∷ []) (firsts_from m rest)
    ∙ ap (λ (k : ℕ). firsts ++ (n ∷ firsts_from k rest)) f
    ∙ ap (λ (l : List NonterminalData). firsts ++ firsts_from n l) (sym e) ∙ h
