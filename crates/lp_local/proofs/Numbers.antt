-- The number of a line that is told says how many lines end before its place.
use Rattle.std.proofs.Common.{◌≡◌, ℕ, ◌+◌, ◌^◌, ◌<◌, ◌≤◌, List, ◌++◌, length, take, drop, sym, ap, ◌∙◌, arith, ltb, take-append-drop}
use Rattle.std.proofs.lemmas.Bool.{cond_both}
use Rattle.lp_spelling.specs.Counting.{feeds}
use Rattle.lp_spelling.specs.LineNumbers.{line_number, past_last, number_at}
use Rattle.lp_local.specs.Agreeing.{lines_before}
use Rattle.lp_local.proofs.Agreeing.{feeds-append, before_rest, past_more}

-- where the number of a line is at most n, fewer than n lines end before the place
pub number_told : (n place : ℕ) (text : List ℕ) → feeds text + 1 < 2 ^ 64 → number_at place text ≤ n → lines_before text (drop place text) < n
number_told n place text small le =
    let front : List ℕ = take place text in
    let whole : text ≡ front ++ drop place text = sym (take-append-drop place text) in
    let before : lines_before text (drop place text) ≡ feeds front = before_rest front (drop place text) text whole in
    let all : feeds text ≡ feeds front + feeds (drop place text) = ap feeds whole ∙ feeds-append front (drop place text) in
    let past : feeds text < past_last text = past_more text small in
    cond_both (ltb place (length text)) (line_number (feeds front)) (past_last text) (λ (k : ℕ). k ≤ n → lines_before text (drop place text) < n)
    (λ y h. omega (arith, before, all, small))
    (λ z h. omega (arith, before, all, past))
    le
