-- Trees that are printed in a row, as long as a step takes them.
use Rattle.std.proofs.Common.{◌≡◌, ℕ, ◌≤◌, true, false, min, suc, List, [], ◌∷◌, ◌++◌, length, take, drop, Result, IfOk, refl, sym, ap, ◌∙◌, arith, append-nil, subst}
use Rattle.std.specs.List.{prefix_len}
use Rattle.lp_form.specs.declared.template.Step.{Step}
use Rattle.lp_write.specs.Lines.{Line}
use Rattle.lp_write.specs.Writes.{Writing, AppendsAll, Writes, Ending, error_ending}
use Rattle.lp_write.specs.declared.rust.Options.{Options}
use Rattle.lp_write.specs.declared.rust.WriteError.{WriteError}
use Rattle.lp_write.proofs.Writing.{all-none, writes-then}
use Rattle.lp_tree.specs.declared.tree.Entry.{Entry}
use Rattle.lp_program.specs.Places.{IsAfter, printed_from, takes_next}
use Rattle.lp_program.specs.Printed.{Printed, all_lines, taken, takes, takes_one}
use Rattle.lp_program.proofs.Progress.{Left, left-all, left-more, left-none, left-stopped}

-- how many of the trees in front a step takes in a row
abbrev pub run : Step → List Printed → ℕ
run s trees = prefix_len (λ p. takes s p.0) trees

-- a run whose first tree is taken
run-more : (s : Step) (trees : List Printed) → takes_next s trees ≡ true → run s trees ≡ suc (run s (drop 1 trees))
run-more s [] h = cc
run-more s (x ∷ trees) h = rw h (omega arith)

-- a run whose first tree is not taken
run-none : (s : Step) (trees : List Printed) → takes_next s trees ≡ false → run s trees ≡ 0
run-none s [] h = refl
run-none s (x ∷ trees) h = rw h refl

-- the lines of a run, and what follows it
run-lines : (s : Step) (trees : List Printed) → takes_next s trees ≡ true →
    all_lines (take (run s trees) trees) ≡ all_lines (take 1 trees) ++ all_lines (take (run s (drop 1 trees)) (drop 1 trees))
run-lines s [] h = cc
run-lines s (x ∷ trees) h =
    ap (λ n. all_lines (take n (x ∷ trees))) (run-more s (x ∷ trees) h)
    ∙ ap (λ l. l ++ all_lines (take (run s trees) trees)) (sym (append-nil x.1))

run-after : (s : Step) (trees : List Printed) → takes_next s trees ≡ true →
    drop (run s trees) trees ≡ drop (run s (drop 1 trees)) (drop 1 trees)
run-after s [] h = cc
run-after s (x ∷ trees) h = ap (λ n. drop n (x ∷ trees)) (run-more s (x ∷ trees) h)

-- at most one tree of a run
pub first-more : (s : Step) (trees : List Printed) → takes_next s trees ≡ true → min 1 (run s trees) ≡ 1
first-more s trees h = let m = run-more s trees h in omega (arith, m)

pub first-none : (s : Step) (trees : List Printed) → takes_next s trees ≡ false → min 1 (run s trees) ≡ 0
first-none s trees h = let m = run-none s trees h in omega (arith, m)

pub first-place : (r : Result ℕ WriteError) (o : Options) (p : List ℕ) (es : List Entry) (at : ℕ) (s : Step) → takes_next s (printed_from o p es at) ≡ true →
    IfOk r (λ n. IsAfter o p es at 1 n) → IfOk r (λ n. IsAfter o p es at (min 1 (run s (printed_from o p es at))) n)
first-place r o p es at s h i =
    subst (λ k. IfOk r (λ n. IsAfter o p es at k n)) (sym (first-more s (printed_from o p es at) h)) i

pub first-lines : (e : Ending) (a b : Writing) (s : Step) (trees : List Printed) → takes_next s trees ≡ true →
    Writes e a b (all_lines (take 1 trees)) → Writes e a b (all_lines (take (min 1 (run s trees)) trees))
first-lines e a b s trees h w = subst (λ k. Writes e a b (all_lines (take k trees))) (sym (first-more s trees h)) w

-- no tree is taken at a place
pub none-after : (o : Options) (p : List ℕ) (es : List Entry) (at n : ℕ) → at ≤ length es → n ≡ 0 → IsAfter o p es at n at
none-after o p es at n h e = record { within = h; left = ap (λ k. drop k (printed_from o p es at)) (sym e) }

pub none-lines : (a : Writing) (trees : List Printed) (n : ℕ) → n ≡ 0 → AppendsAll a a (all_lines (take n trees))
none-lines a trees n e = subst (λ k. AppendsAll a a (all_lines (take k trees))) (sym e) (all-none a)

-- the trees of a run that are printed, from one place to another
pub record Runs (s : Step) (p : List ℕ) (es : List Entry) (from at : ℕ) (a b : Writing) : Type 0 where
  pub within : at ≤ length es
  pub left : Left a b
      (all_lines (take (run s (printed_from a.options p es from)) (printed_from a.options p es from)))
      (all_lines (take (run s (printed_from a.options p es at)) (printed_from a.options p es at)))
  pub same : drop (run s (printed_from a.options p es at)) (printed_from a.options p es at)
      ≡ drop (run s (printed_from a.options p es from)) (printed_from a.options p es from)

pub runs-start : (s : Step) (p : List ℕ) (es : List Entry) (from : ℕ) (a : Writing) → from ≤ length es → Runs s p es from from a a
runs-start s p es from a h = record { within = h; left = left-all a _; same = refl }

pub runs-stopped : (s : Step) (p : List ℕ) (es : List Entry) (from at : ℕ) (e : WriteError) (a b c : Writing) → Runs s p es from at a b →
    takes_next s (printed_from a.options p es at) ≡ true →
    Writes (error_ending e) b c (all_lines (take 1 (printed_from b.options p es at))) →
    Writes (error_ending e) a c (all_lines (take (run s (printed_from a.options p es from)) (printed_from a.options p es from)))
runs-stopped s p es from at e a b c r h w =
    left-stopped (λ o. all_lines (take 1 (printed_from o p es at))) e a b c _ _ _ r.left (run-lines s (printed_from a.options p es at) h) w

pub runs-more : (s : Step) (p : List ℕ) (es : List Entry) (from at n : ℕ) (a b c : Writing) → Runs s p es from at a b →
    takes_next s (printed_from a.options p es at) ≡ true → IsAfter b.options p es at 1 n →
    AppendsAll b c (all_lines (take 1 (printed_from b.options p es at))) → Runs s p es from n a c
runs-more s p es from at n a b c r h i w =
    let after : IsAfter a.options p es at 1 n = subst (λ o. IsAfter o p es at 1 n) r.left.appended.options i in
    let lines = left-more (λ o. all_lines (take 1 (printed_from o p es at))) a b c _ _ _ r.left (run-lines s (printed_from a.options p es at) h) w in
    record {
      within = after.within;
      left = subst (λ trees. Left a c (all_lines (take (run s (printed_from a.options p es from)) (printed_from a.options p es from))) (all_lines (take (run s trees) trees)))
          (sym after.left) lines;
      same = ap (λ trees. drop (run s trees) trees) after.left ∙ sym (run-after s (printed_from a.options p es at) h) ∙ r.same;
    }

pub runs-place : (s : Step) (p : List ℕ) (es : List Entry) (from at : ℕ) (a b : Writing) → Runs s p es from at a b →
    takes_next s (printed_from a.options p es at) ≡ false →
    IsAfter a.options p es from (run s (printed_from a.options p es from)) at
runs-place s p es from at a b r h = record {
  within = r.within;
  left = ap (λ n. drop n (printed_from a.options p es at)) (sym (run-none s (printed_from a.options p es at) h)) ∙ r.same;
}

pub runs-lines : (s : Step) (p : List ℕ) (es : List Entry) (from at : ℕ) (a b : Writing) → Runs s p es from at a b →
    takes_next s (printed_from a.options p es at) ≡ false →
    AppendsAll a b (all_lines (take (run s (printed_from a.options p es from)) (printed_from a.options p es from)))
runs-lines s p es from at a b r h =
    left-none a b _ (subst (λ n. Left a b (all_lines (take (run s (printed_from a.options p es from)) (printed_from a.options p es from))) (all_lines (take n (printed_from a.options p es at))))
    (run-none s (printed_from a.options p es at) h) r.left)

taken-one : (s : Step) (trees : List Printed) → takes_one s ≡ true → min 1 (run s trees) ≡ taken s trees
taken-one s trees h = rw h refl

taken-run : (s : Step) (trees : List Printed) → takes_one s ≡ false → run s trees ≡ taken s trees
taken-run s trees h = rw h refl

-- a step's own lines, and then those of the tree that it takes, if there is one
pub step-one : (p : List ℕ) (es : List Entry) (at : ℕ) (s : Step) (e : Ending) (a b c : Writing) (own : List Line) → takes_one s ≡ true →
    AppendsAll a b own →
    Writes e b c (all_lines (take (min 1 (run s (printed_from b.options p es at))) (printed_from b.options p es at))) →
    Writes e a c (own ++ all_lines (take (taken s (printed_from a.options p es at)) (printed_from a.options p es at)))
step-one p es at s e a b c own h q w =
    let trees = printed_from a.options p es at in
    subst (λ n. Writes e a c (own ++ all_lines (take n trees))) (taken-one s trees h)
    (writes-then e a b c own (all_lines (take (min 1 (run s trees)) trees)) q
    (subst (λ o. Writes e b c (all_lines (take (min 1 (run s (printed_from o p es at))) (printed_from o p es at)))) q.options w))

-- a step's own lines, and then those of the trees that it takes
pub step-run : (p : List ℕ) (es : List Entry) (at : ℕ) (s : Step) (e : Ending) (a b c : Writing) (own : List Line) → takes_one s ≡ false →
    AppendsAll a b own →
    Writes e b c (all_lines (take (run s (printed_from b.options p es at)) (printed_from b.options p es at))) →
    Writes e a c (own ++ all_lines (take (taken s (printed_from a.options p es at)) (printed_from a.options p es at)))
step-run p es at s e a b c own h q w =
    let trees = printed_from a.options p es at in
    subst (λ n. Writes e a c (own ++ all_lines (take n trees))) (taken-run s trees h)
    (writes-then e a b c own (all_lines (take (run s trees) trees)) q
    (subst (λ o. Writes e b c (all_lines (take (run s (printed_from o p es at)) (printed_from o p es at)))) q.options w))
