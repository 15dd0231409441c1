-- What is left of a text behind what was taken off its front.
use Rattle.std.proofs.Common.{◌≡◌, ℕ, ◌+◌, ◌<◌, ◌≤◌, zero, suc, true, List, [], ◌∷◌, ◌++◌, length, get_or, drop, codes, inl, inr, refl, sym, ◌∙◌, ap, subst, arith, append_assoc, append-nil, length-append, length-drop, take-append-drop}
use Rattle.std.specs.Str.{IsUtf8, IsCharBoundary, chars, trim_start, skip_leading_whitespace, encode_utf8_all}
use Rattle.std.specs.Char.{is_whitespace}
use Rattle.std.proofs.lemmas.Bool.{and_parts, cases_Bool, cases_lt, cond-true, cond-false}
use Rattle.std.proofs.lemmas.List.{drop_all, drop_at, take_at, get_or-append-add}
use Rattle.std.proofs.lemmas.Str.{encodes-chars, scalars-chars, IsUtf8-append, IsUtf8-take, IsUtf8-drop, IsCharBoundary-before_ascii, IsCharBoundary-after_ascii}
use lib.Utf8.{encode, scalar, scalars}
use Rattle.lp_form.specs.Templates.{Piece}
use Rattle.lp_form.specs.declared.template.Step.{Step}
use Rattle.lp_form.specs.declared.template.Step.TheVariants as step
use Rattle.lp_spelling.specs.Counting.{line_len, front_line, behind_line, is_skipped, settled_within, settled}
use Rattle.lp_spelling.proofs.Counting.{line_boundary, next_boundary}
use Rattle.lp_spelling.proofs.Reading.{starts_ok}
use Rattle.lp_spelling.specs.Lines.{line_of}
use Rattle.lp_program.specs.CodeReading.{IsUse, IsCode}
use Rattle.lp_program.specs.OwnLines.{hole}
use Rattle.lp_program.specs.Reads.{TakesLine, TakesLines, TakesOwn}
use Rattle.lp_program.specs.Trees.{Content}
use Rattle.lp_reading_laws.proofs.Choosing.Entries.{ends_on, drop_ends, entries_follow}

-- a text behind a front, at a boundary of characters
pub record Follows (text rest : List ℕ) : Type 0 where
  pub utf8 : IsUtf8 rest
  pub front : List ℕ
  pub text_is : text ≡ front ++ rest

pub follows_itself : (text : List ℕ) → IsUtf8 text → Follows text text
follows_itself text u = record { utf8 = u; front = []; text_is = refl }

pub follows_on : (text mid rest : List ℕ) → Follows text mid → Follows mid rest → Follows text rest
follows_on text mid rest a b = let e = ends_on text mid rest (a.front, a.text_is) (b.front, b.text_is) in record { utf8 = b.utf8; front = e.0; text_is = e.1 }

pub follows_short : (text rest : List ℕ) → Follows text rest → length rest ≤ length text
follows_short text rest f = let e = ap length f.text_is ∙ length-append f.front rest in omega (arith, e)

-- blanks in front
skipped : (cs : List ℕ) → scalars cs ≡ true → Follows (encode_utf8_all cs) (encode_utf8_all (skip_leading_whitespace cs))
skipped [] h = follows_itself [] ([], (refl, refl))
skipped (c ∷ cs) h = elim (cases_Bool (is_whitespace c)) [
  | inl y ↦
      let r = skipped cs (and_parts (scalar c) (scalars cs) h).1 in
      subst (λ (x : List ℕ). Follows (encode_utf8_all (c ∷ cs)) x) (sym (ap encode_utf8_all (cond-true (is_whitespace c) (skip_leading_whitespace cs) (c ∷ cs) y)))
      (record { utf8 = r.utf8; front = encode c ++ r.front; text_is = ap (λ (x : List ℕ). encode c ++ x) r.text_is ∙ sym (append_assoc (encode c) r.front _) })
  | inr n ↦
      subst (λ (x : List ℕ). Follows (encode_utf8_all (c ∷ cs)) x) (sym (ap encode_utf8_all (cond-false (is_whitespace c) (skip_leading_whitespace cs) (c ∷ cs) n)))
      (follows_itself (encode_utf8_all (c ∷ cs)) (c ∷ cs, (h, refl)))
]

trimmed : (x : List ℕ) → IsUtf8 x → Follows x (trim_start x)
unfolding trim_start
trimmed x u = subst (λ (y : List ℕ). Follows y (encode_utf8_all (skip_leading_whitespace (chars x)))) (encodes-chars x u) (skipped (chars x) (scalars-chars x u))

-- the line in front, and what is behind it
end_boundary : (t : List ℕ) → IsCharBoundary t (line_len t)
end_boundary t = let e : 0 + line_len t ≡ line_len t = omega arith in subst (λ i. IsCharBoundary t i) e (line_boundary t 0 (omega arith))

pub front_utf8 : (t : List ℕ) → IsUtf8 t → IsUtf8 (front_line t)
front_utf8 t u = IsUtf8-take t (line_len t) u (end_boundary t)

drop_follows : (n : ℕ) (t : List ℕ) → IsUtf8 t → IsCharBoundary t n → Follows t (drop n t)
drop_follows n t u cut = let e = drop_ends n t in record { utf8 = IsUtf8-drop t n u cut; front = e.0; text_is = e.1 }

nothing_follows : (t : List ℕ) → Follows t []
nothing_follows t = record { utf8 = ([], (refl, refl)); front = t; text_is = sym (append-nil t) }

behind_follows : (t : List ℕ) → IsUtf8 t → Follows t (behind_line t)
behind_follows t u = elim (cases_lt (line_len t) (length t)) [
  | inl lt ↦
      let e : 0 + line_len t + 1 ≡ line_len t + 1 = omega arith in
      drop_follows (line_len t + 1) t u (subst (λ i. IsCharBoundary t i) e (next_boundary t 0 u (omega (arith, lt))))
  | inr le ↦ subst (λ (x : List ℕ). Follows t x) (sym (drop_all (line_len t + 1) t (omega (arith, le)))) (nothing_follows t)
]

shown_follows : (t : List ℕ) → IsUtf8 t → Follows t (trim_start (front_line t) ++ drop (line_len t) t)
shown_follows t u =
    let r = trimmed (front_line t) (front_utf8 t u) in
    let rest : List ℕ = drop (line_len t) t in
    record {
      utf8 = IsUtf8-append (trim_start (front_line t)) rest r.utf8 (IsUtf8-drop t (line_len t) u (end_boundary t));
      front = r.front;
      text_is = sym (take-append-drop (line_len t) t) ∙ ap (λ (x : List ℕ). x ++ rest) r.text_is ∙ append_assoc r.front (trim_start (front_line t)) rest;
    }

within_follows : (n : ℕ) (t : List ℕ) → IsUtf8 t → Follows t (settled_within n t)
unfolding settled_within
within_follows zero t u = nothing_follows t
within_follows (suc n) [] u = nothing_follows []
within_follows (suc n) (b ∷ t) u =
    let line : List ℕ = b ∷ t in
    elim (cases_Bool (is_skipped (trim_start (front_line line)))) [
      | inl y ↦
          let behind = behind_follows line u in
          subst (λ (x : List ℕ). Follows line x) (sym (cond-true (is_skipped (trim_start (front_line line))) _ _ y)) (follows_on line (behind_line line) _ behind (within_follows n (behind_line line) behind.utf8))
      | inr z ↦ subst (λ (x : List ℕ). Follows line x) (sym (cond-false (is_skipped (trim_start (front_line line))) _ _ z)) (shown_follows line u)
    ]

pub settled_follows : (t : List ℕ) → IsUtf8 t → Follows t (settled t)
unfolding settled
settled_follows t u = within_follows (length t) t u

-- a line
pub line_follows : (line text rest : List ℕ) → IsUtf8 text → TakesLine line text rest → Follows text rest × (length rest < length text)
line_follows line text rest u t =
    let s = settled_follows text u in
    let f : Follows text rest = subst (λ (x : List ℕ). Follows text x) (sym t.rest_is) (follows_on text (settled text) (behind_line (settled text)) s (behind_follows (settled text) s.utf8)) in
    let short = follows_short text (settled text) s in
    let d = length-drop (line_len (settled text) + 1) (settled text) in
    let size : length rest ≡ length (behind_line (settled text)) = ap length t.rest_is in
    let some = t.some in
    (f, omega (arith, short, d, size, some))

lines_follow : (n : ℕ) (line text rest : List ℕ) → IsUtf8 text → TakesLines n line text rest → Follows text rest
lines_follow zero line text rest u t = subst (λ (x : List ℕ). Follows text x) (sym t) (follows_itself text u)
lines_follow (suc n) line text rest u t =
    let f = (line_follows line text t.0 u t.1).0 in
    follows_on text t.0 rest f (lines_follow n line t.0 rest f.utf8 t.2)

-- behind a byte of ASCII, and from one on
pub behind_byte : (front : List ℕ) (c : ℕ) (rest : List ℕ) → c < 128 → IsUtf8 (front ++ (c ∷ rest)) → IsUtf8 rest
behind_byte front c rest small u =
    let text : List ℕ = front ++ (c ∷ rest) in
    let size = length-append front (c ∷ rest) in
    let at : get_or text (length front) 0 ≡ c = ap (λ i. get_or text i 0) (omega arith) ∙ get_or-append-add front (c ∷ rest) 0 0 in
    let whole : text ≡ (front ++ (c ∷ [])) ++ rest = sym (append_assoc front (c ∷ []) rest) in
    let len = length-append front (c ∷ []) in
    let there : drop (length front + 1) text ≡ rest = ap (drop (length front + 1)) whole ∙ drop_at (front ++ (c ∷ [])) rest (length front + 1) (omega (arith, len)) in
    subst (λ (x : List ℕ). IsUtf8 x) there (IsUtf8-drop text (length front + 1) u (IsCharBoundary-after_ascii text (length front) u (omega (arith, size)) (omega (arith, at, small))))

pub from_byte : (front : List ℕ) (c : ℕ) (rest : List ℕ) → c < 128 → IsUtf8 (front ++ (c ∷ rest)) → IsUtf8 (c ∷ rest)
from_byte front c rest small u =
    let text : List ℕ = front ++ (c ∷ rest) in
    let size = length-append front (c ∷ rest) in
    let at : get_or text (length front) 0 ≡ c = ap (λ i. get_or text i 0) (omega arith) ∙ get_or-append-add front (c ∷ rest) 0 0 in
    subst (λ (x : List ℕ). IsUtf8 x) (drop_at front (c ∷ rest) (length front) refl) (IsUtf8-drop text (length front) u (IsCharBoundary-before_ascii text (length front) (omega (arith, size)) (omega (arith, at, small))))

pub front_of_byte : (front : List ℕ) (c : ℕ) (rest : List ℕ) → c < 128 → IsUtf8 (front ++ (c ∷ rest)) → IsUtf8 front
front_of_byte front c rest small u =
    let text : List ℕ = front ++ (c ∷ rest) in
    let size = length-append front (c ∷ rest) in
    let at : get_or text (length front) 0 ≡ c = ap (λ i. get_or text i 0) (omega arith) ∙ get_or-append-add front (c ∷ rest) 0 0 in
    subst (λ (x : List ℕ). IsUtf8 x) (take_at front (c ∷ rest) (length front) refl)
    (IsUtf8-take text (length front) u (IsCharBoundary-before_ascii text (length front) (omega (arith, size)) (omega (arith, at, small))))

-- a use
pub use_follows : (text used rest : List ℕ) → IsUtf8 text → IsUse text used rest → Follows text rest × (length rest < length text)
use_follows text used rest u x =
    let s = settled_follows text u in
    let whole : settled text ≡ (codes "use " ++ used) ++ (59 ∷ rest) = x.front ∙ sym (append_assoc (codes "use ") used (codes ";" ++ rest)) in
    let all : settled text ≡ ((codes "use " ++ used) ++ (59 ∷ [])) ++ rest = whole ∙ sym (append_assoc (codes "use " ++ used) (59 ∷ []) rest) in
    let v : IsUtf8 rest = behind_byte (codes "use " ++ used) 59 rest (omega arith) (subst (λ (y : List ℕ). IsUtf8 y) whole s.utf8) in
    let f = follows_on text (settled text) rest s (record { utf8 = v; front = (codes "use " ++ used) ++ (59 ∷ []); text_is = all }) in
    let short = follows_short text (settled text) s in
    let size = ap length all ∙ length-append ((codes "use " ++ used) ++ (59 ∷ [])) rest in
    let more = length-append (codes "use " ++ used) (59 ∷ []) in
    (f, omega (arith, short, size, more))

-- user code
pub code_follows : (text code rest : List ℕ) → IsUtf8 text → IsCode text code rest → Follows text rest
code_follows text code rest u x =
    let closes : rest ≡ 125 ∷ drop 1 rest = starts_ok (codes "}") rest x.closes in
    let v : IsUtf8 (125 ∷ drop 1 rest) = from_byte x.whole 125 (drop 1 rest) (omega arith) (subst (λ (y : List ℕ). IsUtf8 y) (x.front ∙ ap (λ (y : List ℕ). x.whole ++ y) closes) u) in
    record { utf8 = subst (λ (y : List ℕ). IsUtf8 y) (sym closes) v; front = x.whole; text_is = x.front }

-- what a step itself takes
itself : (text rest : List ℕ) → IsUtf8 text → rest ≡ text → Follows text rest
itself text rest u e = subst (λ (x : List ℕ). Follows text x) (sym e) (follows_itself text u)

pub own_follows : (prefix : List ℕ) (c : Content) (count : ℕ) (pieces : List Piece) (s : Step) (text rest : List ℕ) → IsUtf8 text → TakesOwn prefix c count pieces s text rest → Follows text rest
own_follows prefix c count pieces (step.Line blanks) text rest u t = (line_follows (line_of prefix c.holes pieces) text rest u t).0
own_follows prefix c count pieces (step.Each blanks) text rest u t = lines_follow count (line_of prefix c.holes pieces) text rest u t
own_follows prefix c count pieces step.Use text rest u t = (use_follows text (hole c 0) rest u t).0
own_follows prefix c count pieces step.Code text rest u t = code_follows text (hole c 0) rest u t
own_follows prefix c count pieces step.Entries text rest u t =
    let e = entries_follow text c.numbers rest t in
    record { utf8 = subst (λ (x : List ℕ). IsUtf8 x) (sym e.2) (from_byte e.0 93 _ (omega arith) (subst (λ (x : List ℕ). IsUtf8 x) (e.1 ∙ ap (λ (x : List ℕ). e.0 ++ x) e.2) u)); front = e.0; text_is = e.1 }
own_follows prefix c count pieces step.Empty text rest u t = itself text rest u t
own_follows prefix c count pieces step.Note text rest u t = itself text rest u t
own_follows prefix c count pieces step.NoteAlways text rest u t = itself text rest u t
own_follows prefix c count pieces (step.One class) text rest u t = itself text rest u t
own_follows prefix c count pieces (step.Optional class) text rest u t = itself text rest u t
own_follows prefix c count pieces (step.Many class) text rest u t = itself text rest u t
own_follows prefix c count pieces (step.Some class) text rest u t = itself text rest u t
own_follows prefix c count pieces (step.Pairs first second) text rest u t = itself text rest u t
