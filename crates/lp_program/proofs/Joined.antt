-- A line that is taken off a text is taken with something else behind its line feed.
use Rattle.std.proofs.Common.{◌≡◌, ℕ, ◌<◌, inl, inr, ◌⊎◌, List, [], ◌∷◌, ◌++◌, length, refl, sym, ap, ◌∙◌, subst, arith, append_assoc, length-append}
use Rattle.std.specs.Str.{IsUtf8}
use Rattle.std.proofs.lemmas.Bool.{cases_lt}
use Rattle.std.proofs.lemmas.List.{nil_from_length}
use Rattle.lp_spelling.specs.Counting.{front_line, behind_line, feeds, settled}
use Rattle.lp_spelling.proofs.Counting.{settled_none}
use Rattle.lp_local.proofs.Agreeing.{split_first, line_front, line_behind, line_all, line_none}
use Rattle.lp_local.proofs.Settling.{Left, settled_left, before_byte}
use Rattle.lp_local.proofs.Joining.{settled_on, settled_past, settled_again}
use Rattle.lp_program.specs.Reads.{TakesLine}

-- the line that settles is taken
pub takes_it : (line text q : List ℕ) → feeds line ≡ 0 → settled text ≡ line ++ 10 ∷ q → TakesLine line text q
takes_it line text q none e =
    let size = length-append line (10 ∷ q) in
    record {
      some = subst (λ (x : List ℕ). 0 < length x) (sym e) (omega (arith, size));
      line_is = ap front_line e ∙ line_front line q none;
      rest_is = sym (ap behind_line e ∙ line_behind line q none);
    }

-- a line that is taken, with what stands in front of it: behind it a line feed stands, or the text ends; it is taken with a line feed and more behind it
pub record LineMoved (line text rest : List ℕ) : Type 0 where
  pub front : List ℕ
  pub utf8 : IsUtf8 front
  pub whole : (text ≡ front ++ 10 ∷ rest) ⊎ ((text ≡ front) × (rest ≡ []) × (feeds (settled text) ≡ 0))
  pub shown : 0 < length (settled front)
  pub again : (q : List ℕ) → TakesLine line (front ++ 10 ∷ q) q

-- a line is taken with something else behind it
pub line_moved : (line text rest : List ℕ) → IsUtf8 text → TakesLine line text rest → LineMoved line text rest
line_moved line text rest u t =
    let l : Left text (settled text) = settled_left text u in
    elim (split_first (settled text)) [
      | inl none ↦
          let all : settled text ≡ line = sym (line_all (settled text) none) ∙ t.line_is in
          let some : 0 < length (settled text) = t.some in
          record {
            front = text;
            utf8 = u;
            whole = inr (refl, t.rest_is ∙ line_none (settled text) none, none);
            shown = some;
            again = λ q. takes_it line (text ++ 10 ∷ q) q (ap feeds (sym all) ∙ none) (settled_on text q some ∙ ap (λ (x : List ℕ). x ++ 10 ∷ q) all);
          }
      | inr f ↦
          let line_is : f.line ≡ line = sym (line_front f.line f.rest f.within) ∙ ap front_line (sym f.whole) ∙ t.line_is in
          let rest_is : f.rest ≡ rest = sym (line_behind f.line f.rest f.within) ∙ ap behind_line (sym f.whole) ∙ sym t.rest_is in
          let front : List ℕ = l.front ++ f.line in
          let there : text ≡ l.front ++ (f.line ++ 10 ∷ f.rest) = l.whole ∙ ap (λ (x : List ℕ). l.front ++ x) f.whole in
          let at : text ≡ front ++ 10 ∷ f.rest = there ∙ sym (append_assoc l.front f.line (10 ∷ f.rest)) in
          let e : settled (l.front ++ (f.line ++ 10 ∷ f.rest)) ≡ f.line ++ 10 ∷ f.rest = ap settled (sym there) ∙ f.whole in
          let v : IsUtf8 (l.front ++ (f.line ++ 10 ∷ f.rest)) = subst (λ (x : List ℕ). IsUtf8 x) there u in
          let moved : (q : List ℕ) → settled (front ++ 10 ∷ q) ≡ f.line ++ 10 ∷ q =
          λ q. ap settled (append_assoc l.front f.line (10 ∷ q)) ∙ settled_again l.front f.line f.rest q v f.within e in
          record {
            front = front;
            utf8 = before_byte front 10 f.rest (omega arith) (subst (λ (x : List ℕ). IsUtf8 x) at u);
            whole = inl (at ∙ ap (λ (x : List ℕ). front ++ 10 ∷ x) rest_is);
            shown = elim (cases_lt 0 (length (settled front))) [
              | inl some ↦ some
              | inr none ↦ (
                  let nothing : settled front ≡ [] = nil_from_length (settled front) (omega (arith, none)) in
                  let over = ap length (sym (settled_past front [] nothing) ∙ moved []) in
                  let size = length-append f.line (10 ∷ []) in
                  let zero_size = ap length settled_none in
                  absurd (omega (arith, over, size, zero_size)))
            ];
            again = λ q. subst (λ (x : List ℕ). TakesLine x (front ++ 10 ∷ q) q) line_is (takes_it f.line (front ++ 10 ∷ q) q f.within (moved q));
          }
    ]

-- no line is taken off a text of which nothing is left
pub no_more : (line rest : List ℕ) → TakesLine line [] rest → ⊥
no_more line rest t = let some = t.some in let none = ap length settled_none in omega (arith, some, none)
