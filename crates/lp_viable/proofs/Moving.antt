-- What is taken off a text is taken off each text with something else behind it.
use Rattle.std.proofs.Common.{◌≡◌, ℕ, ◌==◌, ◌<◌, zero, suc, inl, inr, ⊎_elim, List, [], ◌∷◌, ◌++◌, length, drop, codes, refl, sym, ap, ◌∙◌, subst, arith, eqb, append_assoc, append-nil, length-append}
use Rattle.std.specs.List.{starts_with}
use Rattle.std.specs.Str.{IsUtf8, chars}
use Rattle.std.proofs.lemmas.Bool.{cases_Bool, or_cases, or_right, eqb-true}
use Rattle.std.proofs.lemmas.List.{append_cancel_left, append_cancel_right}
use Rattle.std.proofs.lemmas.Str.{chars-append, IsUtf8-from_ascii}
use Rattle.lp_tok.specs.Cut.{StopsAt}
use Rattle.lp_spelling.specs.Counting.{feeds, settled}
use Rattle.lp_spelling.proofs.Reading.{starts_ok}
use Rattle.lp_local.specs.Beginning.{BeginsAs}
use Rattle.lp_local.proofs.Agreeing.{before_rest, agree_front, feed_front, split_first, line_front, line_left, line_behind, line_all, line_rest, line_none}
use Rattle.lp_local.proofs.Settling.{Left, settled_left, behind_byte, before_byte}
use Rattle.lp_local.proofs.Joining.{settled_on, settled_past, settled_again}
use Rattle.lp_local.proofs.Ended.{IsEnded, ended_behind}
use Rattle.lp_program.proofs.Joined.{LineMoved, line_moved, no_more}
use Rattle.lp_local.proofs.Cutting.{stops_told}
use Rattle.lp_reading_laws.proofs.Holes.Words.{ascii_at}
use Rattle.lp_program.specs.CodeReading.{IsUse, IsCode, ends_there}
use Rattle.lp_program.specs.Reads.{TakesLine, TakesLines}

feed_none : (t : List ℕ) → settled (t ++ 10 ∷ []) ≡ [] → settled t ≡ []
feed_none t e = elim (Rattle.std.proofs.lemmas.Bool.cases_lt 0 (length (settled t))) [
  | inl some ↦ (
      let on = ap length (sym (settled_on t [] some) ∙ e) in
      let size = length-append (settled t) (10 ∷ []) in
      absurd (omega (arith, on, size)))
  | inr none ↦ Rattle.std.proofs.lemmas.List.nil_from_length (settled t) (omega (arith, none))
]

-- nothing that counts stands in front
pub past_ended : (t r : List ℕ) → IsEnded t → settled t ≡ [] → settled (t ++ r) ≡ settled r
past_ended t r (inl e) h = ap (λ (x : List ℕ). settled (x ++ r)) e
past_ended t r (inr f) h =
    let none : settled f.0 ≡ [] = feed_none f.0 (ap settled (sym f.1) ∙ h) in
    ap (λ (x : List ℕ). settled (x ++ r)) f.1 ∙ ap settled (append_assoc f.0 (10 ∷ []) r) ∙ settled_past f.0 r none

pub ended_feeds : (x : List ℕ) → IsEnded x → 0 < length x → 0 < feeds x
ended_feeds x (inl e) some = let none = ap length e in absurd (omega (arith, none, some))
ended_feeds x (inr f) some = let all = ap feeds f.1 ∙ Rattle.lp_local.proofs.Agreeing.feeds-append f.0 (10 ∷ []) in let one : feeds (10 ∷ []) ≡ 1 = refl in omega (arith, all, one)

-- the empty text
pub nothing_utf8 : IsUtf8 []
nothing_utf8 = ([], (refl, refl))

-- a line feed alone
pub feed_utf8 : IsUtf8 (10 ∷ [])
feed_utf8 = IsUtf8-from_ascii (10 ∷ []) (ascii_at (10 ∷ []) refl)

-- with more behind an ended text
pub record LineOn (line text rest : List ℕ) : Type 0 where
  pub utf8 : IsUtf8 rest
  pub ended : IsEnded rest
  pub on : (x : List ℕ) → TakesLine line (text ++ x) (rest ++ x)

pub line_on : (line text rest : List ℕ) → IsUtf8 text → IsEnded text → TakesLine line text rest → LineOn line text rest
line_on line text rest u e t =
    let m : LineMoved line text rest = line_moved line text rest u t in
    elim m.whole [
      | inl w ↦
          let v : IsUtf8 (m.front ++ 10 ∷ rest) = subst (λ (x : List ℕ). IsUtf8 x) w u in
          record {
            utf8 = behind_byte m.front 10 rest (omega arith) v;
            ended = ended_behind (m.front ++ 10 ∷ []) rest (subst (λ (x : List ℕ). IsEnded x) (w ∙ sym (append_assoc m.front (10 ∷ []) rest)) e);
            on = λ x. subst (λ (y : List ℕ). TakesLine line y (rest ++ x)) (sym (ap (λ (y : List ℕ). y ++ x) w ∙ append_assoc m.front (10 ∷ rest) x)) (m.again (rest ++ x));
          }
      | inr w ↦ (
          let l : Left text (settled text) = settled_left text u in
          let some : 0 < length (settled text) = t.some in
          let feed = ended_feeds (settled text) (ended_behind l.front (settled text) (subst (λ (x : List ℕ). IsEnded x) l.whole e)) some in
          let none = w.2 in
          absurd (omega (arith, feed, none)))
    ]

pub record LinesOn (n : ℕ) (line text rest : List ℕ) : Type 0 where
  pub utf8 : IsUtf8 rest
  pub ended : IsEnded rest
  pub on : (x : List ℕ) → TakesLines n line (text ++ x) (rest ++ x)

pub lines_on : (n : ℕ) (line text rest : List ℕ) → IsUtf8 text → IsEnded text → TakesLines n line text rest → LinesOn n line text rest
lines_on zero line text rest u e t =
    record { utf8 = subst (λ (x : List ℕ). IsUtf8 x) (sym t) u; ended = subst (λ (x : List ℕ). IsEnded x) (sym t) e; on = λ x. ap (λ (y : List ℕ). y ++ x) t }
lines_on (suc n) line text rest u e t =
    let first : LineOn line text t.0 = line_on line text t.0 u e t.1 in
    let next : LinesOn n line t.0 rest = lines_on n line t.0 rest first.utf8 first.ended t.2 in
    record { utf8 = next.utf8; ended = next.ended; on = λ x. (t.0 ++ x, first.on x, next.on x) }

-- so many lines, of which a text is the front
pub lines_left : (n : ℕ) (line text rest : List ℕ) → IsUtf8 text → TakesLines n line text rest → Left text rest
lines_left zero line text rest u t = record { utf8 = subst (λ (x : List ℕ). IsUtf8 x) (sym t) u; front = []; whole = sym t }
lines_left (suc n) line text rest u t =
    let m : LineMoved line text t.0 = line_moved line text t.0 u t.1 in
    elim m.whole [
      | inl w ↦
          let v : IsUtf8 t.0 = behind_byte m.front 10 t.0 (omega arith) (subst (λ (x : List ℕ). IsUtf8 x) w u) in
          let l : Left t.0 rest = lines_left n line t.0 rest v t.2 in
          record { utf8 = l.utf8; front = m.front ++ 10 ∷ l.front; whole = w ∙ ap (λ (x : List ℕ). m.front ++ 10 ∷ x) l.whole ∙ sym (append_assoc m.front (10 ∷ l.front) rest) }
      | inr w ↦
          let l : Left t.0 rest = lines_left n line t.0 rest (subst (λ (x : List ℕ). IsUtf8 x) (sym w.1) nothing_utf8) t.2 in
          let none : rest ≡ [] = nothing_left l.front rest (sym (sym (w.1) ∙ l.whole)) in
          record { utf8 = l.utf8; front = text; whole = sym (append-nil text) ∙ ap (λ (x : List ℕ). text ++ x) (sym none) }
    ]
  where
    nothing_left : (a b : List ℕ) → a ++ b ≡ [] → b ≡ []
    nothing_left [] b e = e
    nothing_left (c ∷ a) b e = absurd cc

pub record LinesMoved (n : ℕ) (line w : List ℕ) : Type 0 where
  pub more : List ℕ
  pub utf8 : IsUtf8 more
  pub again : (q : List ℕ) → TakesLines n line (w ++ (more ++ q)) q

pub lines_moved : (n : ℕ) (line w rest : List ℕ) → IsUtf8 (w ++ rest) → TakesLines n line (w ++ rest) rest → LinesMoved n line w
lines_moved zero line w rest u t =
    let none : w ≡ [] = append_cancel_right w [] rest (sym t) in
    record { more = []; utf8 = nothing_utf8; again = λ q. sym (ap (λ (x : List ℕ). x ++ q) none) }
lines_moved (suc n) line w rest u t =
    let m : LineMoved line (w ++ rest) t.0 = line_moved line (w ++ rest) t.0 u t.1 in
    elim m.whole [
      | inl e ↦
          let v : IsUtf8 t.0 = behind_byte m.front 10 t.0 (omega arith) (subst (λ (x : List ℕ). IsUtf8 x) e u) in
          let l : Left t.0 rest = lines_left n line t.0 rest v t.2 in
          let next : LinesMoved n line l.front = lines_moved n line l.front rest (subst (λ (x : List ℕ). IsUtf8 x) l.whole v) (subst (λ (x : List ℕ). TakesLines n line x rest) l.whole t.2) in
          let whole : w ++ rest ≡ (m.front ++ 10 ∷ l.front) ++ rest = e ∙ ap (λ (x : List ℕ). m.front ++ 10 ∷ x) l.whole ∙ sym (append_assoc m.front (10 ∷ l.front) rest) in
          let w_is : w ≡ m.front ++ 10 ∷ l.front = append_cancel_right w (m.front ++ 10 ∷ l.front) rest whole in
          record {
            more = next.more;
            utf8 = next.utf8;
            again = λ q.
                subst (λ (x : List ℕ). TakesLines (suc n) line x q) (sym (ap (λ (x : List ℕ). x ++ (next.more ++ q)) w_is ∙ append_assoc m.front (10 ∷ l.front) (next.more ++ q)))
                (l.front ++ (next.more ++ q), m.again (l.front ++ (next.more ++ q)), next.again q);
          }
      | inr e ↦ last_lines n line w rest m.front t.0 t.2 e.1 e.0 m.again
    ]
  where
    last_lines : (n : ℕ) (line w rest front mid : List ℕ) → TakesLines n line mid rest → mid ≡ [] → w ++ rest ≡ front → ((q : List ℕ) → TakesLine line (front ++ 10 ∷ q) q) → LinesMoved (suc n) line w
    last_lines zero line w rest front mid t none e again =
        let w_is : w ≡ front = sym (append-nil w) ∙ ap (λ (x : List ℕ). w ++ x) (sym (t ∙ none)) ∙ e in
        record { more = 10 ∷ []; utf8 = feed_utf8; again = λ q. (q, subst (λ (x : List ℕ). TakesLine line (x ++ 10 ∷ q) q) (sym w_is) (again q), refl) }
    last_lines (suc n) line w rest front mid t none e again = absurd (no_more line t.0 (subst (λ (x : List ℕ). TakesLine line x t.0) none t.1))

-- user code, up to another text that begins with `}`
pub brace_chars : (r : List ℕ) → chars (125 ∷ r) ≡ 125 ∷ chars r
unfolding chars
brace_chars [] = refl
brace_chars (b ∷ r) = refl

pub code_moved : (whole code r q : List ℕ) → IsUtf8 (whole ++ 125 ∷ r) → IsCode (whole ++ 125 ∷ r) code (125 ∷ r) → IsCode (whole ++ 125 ∷ q) code (125 ∷ q)
code_moved whole code r q u c =
    let same : c.whole ≡ whole = append_cancel_right c.whole whole (125 ∷ r) (sym c.front) in
    let v : IsUtf8 whole = before_byte whole 125 r (omega arith) u in
    let begun : BeginsAs (chars (125 ∷ r)) (chars (125 ∷ q)) =
    subst (λ (x : List ℕ). BeginsAs x (chars (125 ∷ q))) (sym (brace_chars r)) (subst (λ (x : List ℕ). BeginsAs (125 ∷ chars r) x) (sym (brace_chars q)) refl) in
    let cut : StopsAt (chars whole ++ chars (125 ∷ r)) (chars (125 ∷ r)) = subst (λ (x : List ℕ). StopsAt x (chars (125 ∷ r))) (chars-append whole (125 ∷ r) v) c.stops in
    record {
      whole = whole;
      front = refl;
      stops = subst (λ (x : List ℕ). StopsAt x (chars (125 ∷ q))) (sym (chars-append whole (125 ∷ q) v)) (stops_told (chars whole) (chars (125 ∷ r)) (chars (125 ∷ q)) begun cut);
      closes = refl;
      code_is = c.code_is ∙ ap Rattle.lp_program.specs.CodeReading.without_feed same;
    }

-- a use, in front of another line
closed_chars : (r : List ℕ) → chars (codes ";" ++ r) ≡ 59 ∷ chars r
unfolding chars
closed_chars [] = refl
closed_chars (b ∷ r) = refl

closed_told : (used rest other : List ℕ) → IsUtf8 used → StopsAt (chars (used ++ (codes ";" ++ rest))) (chars (codes ";" ++ rest)) → StopsAt (chars (used ++ (codes ";" ++ other))) (chars (codes ";" ++ other))
closed_told used rest other u stops =
    let begun : BeginsAs (chars (codes ";" ++ rest)) (chars (codes ";" ++ other))
    = subst (λ (x : List ℕ). BeginsAs x (chars (codes ";" ++ other))) (sym (closed_chars rest)) (subst (λ (x : List ℕ). BeginsAs (59 ∷ chars rest) x) (sym (closed_chars other)) refl) in
    subst (λ (x : List ℕ). StopsAt x (chars (codes ";" ++ other))) (sym (chars-append used (codes ";" ++ other) u))
    (stops_told (chars used) (chars (codes ";" ++ rest)) (chars (codes ";" ++ other)) begun (subst (λ (x : List ℕ). StopsAt x (chars (codes ";" ++ rest))) (chars-append used (codes ";" ++ rest) u) stops))

abbrev pub use_line : List ℕ → List ℕ
use_line used = codes "use " ++ (used ++ codes ";")

pub use_whole : (used rest : List ℕ) → codes "use " ++ (used ++ (codes ";" ++ rest)) ≡ use_line used ++ rest
use_whole used rest = ap (λ (x : List ℕ). codes "use " ++ x) (sym (append_assoc used (codes ";") rest))

several_again : (front y r q : List ℕ) → IsUtf8 (front ++ (y ++ 10 ∷ r)) → settled (front ++ (y ++ 10 ∷ r)) ≡ y ++ 10 ∷ r → settled (front ++ (y ++ 10 ∷ q)) ≡ y ++ 10 ∷ q
several_again front y r q u e = elim (split_first y) [
  | inl none ↦ settled_again front y r q u none e
  | inr f ↦
      let of : (z : List ℕ) → y ++ 10 ∷ z ≡ f.line ++ 10 ∷ (f.rest ++ 10 ∷ z) = λ z. ap (λ (x : List ℕ). x ++ 10 ∷ z) f.whole ∙ append_assoc f.line (10 ∷ f.rest) (10 ∷ z) in
      let v : IsUtf8 (front ++ (f.line ++ 10 ∷ (f.rest ++ 10 ∷ r))) = subst (λ (x : List ℕ). IsUtf8 (front ++ x)) (of r) u in
      let there : settled (front ++ (f.line ++ 10 ∷ (f.rest ++ 10 ∷ r))) ≡ f.line ++ 10 ∷ (f.rest ++ 10 ∷ r) = ap (λ (x : List ℕ). settled (front ++ x)) (sym (of r)) ∙ e ∙ of r in
      ap (λ (x : List ℕ). settled (front ++ x)) (of q) ∙ settled_again front f.line (f.rest ++ 10 ∷ r) (f.rest ++ 10 ∷ q) v f.within there ∙ sym (of q)
]

pub use_moved : (w used rest q : List ℕ) → IsUtf8 (w ++ rest) → IsUse (w ++ rest) used rest → IsUse (w ++ 10 ∷ q) used (10 ∷ q)
use_moved w used rest q u c =
    let text : List ℕ = w ++ rest in
    let y : List ℕ = use_line used in
    let l : Left text (settled text) = settled_left text u in
    let here : settled text ≡ y ++ rest = c.front ∙ use_whole used rest in
    let whole : w ++ rest ≡ (l.front ++ y) ++ rest = l.whole ∙ ap (λ (x : List ℕ). l.front ++ x) here ∙ sym (append_assoc l.front y rest) in
    let w_is : w ≡ l.front ++ y = append_cancel_right w (l.front ++ y) rest whole in
    let there : settled (w ++ 10 ∷ q) ≡ y ++ 10 ∷ q = ⊎_elim
    (λ none. (
    let nothing : rest ≡ [] = Rattle.std.proofs.lemmas.List.nil_from_length rest (eqb-true (length rest) 0 none) in
    let w_settles : settled w ≡ y = ap settled (sym (append-nil w) ∙ ap (λ (x : List ℕ). w ++ x) (sym nothing)) ∙ here ∙ ap (λ (x : List ℕ). y ++ x) nothing ∙ append-nil y in
    settled_on w q (subst (λ (x : List ℕ). 0 < length x) (sym w_settles) (omega arith)) ∙ ap (λ (x : List ℕ). x ++ 10 ∷ q) w_settles))
    (λ feed. (
    let r : List ℕ = drop 1 rest in
    let rest_is : rest ≡ 10 ∷ r = starts_ok (codes "\n") rest feed in
    let text_is : text ≡ l.front ++ (y ++ 10 ∷ r) = whole ∙ append_assoc l.front y rest ∙ ap (λ (x : List ℕ). l.front ++ (y ++ x)) rest_is in
    ap settled (ap (λ (x : List ℕ). x ++ 10 ∷ q) w_is ∙ append_assoc l.front y (10 ∷ q))
    ∙ several_again l.front y r q (subst (λ (x : List ℕ). IsUtf8 x) text_is u) (ap settled (sym text_is) ∙ here ∙ ap (λ (x : List ℕ). y ++ x) rest_is)))
    (or_cases (length rest == 0) (starts_with eqb rest (codes "\n")) c.ends) in
    let v : IsUtf8 ((codes "use " ++ used) ++ 59 ∷ rest) = subst (λ (x : List ℕ). IsUtf8 x) (c.front ∙ sym (append_assoc (codes "use ") used (codes ";" ++ rest))) l.utf8 in
    let used_utf8 : IsUtf8 used = behind_byte (codes "use") 32 used (omega arith) (before_byte (codes "use " ++ used) 59 rest (omega arith) v) in
    record {
      front = there ∙ sym (use_whole used (10 ∷ q));
      stops = closed_told used rest (10 ∷ q) used_utf8 c.stops;
      ends = or_right (length (10 ∷ q) == 0) _ refl;
    }
