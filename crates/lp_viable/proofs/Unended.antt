-- What is read of a text whose last line has no line feed is read of it with anything behind; or up to its end, and then of the text with a line feed.
use Rattle.std.proofs.Common.{◌≡◌, ℕ, ℤ, ◌+◌, ◌==◌, ◌<◌, zero, suc, false, inl, inr, ◌⊎◌, ⊎_elim, List, [], ◌∷◌, ◌++◌, length, drop, codes, Some, None, refl, sym, ap, ◌∙◌, subst, arith, eqb, eq-eqb, append_assoc, append-nil, length-append}
use Rattle.std.specs.List.{starts_with}
use Rattle.std.specs.Str.{IsUtf8}
use Rattle.std.proofs.lemmas.Bool.{cases_Bool, or_cases, eqb-true, both_ways}
use Rattle.std.proofs.lemmas.List.{nil_from_length}
use Rattle.lp_form.specs.Templates.{Piece}
use Rattle.lp_form.specs.declared.template.Step.{Step}
use Rattle.lp_form.specs.declared.template.Step.TheVariants as step
use Rattle.lp_spelling.specs.Counting.{settled}
use Rattle.lp_spelling.specs.Lines.{line_of}
use Rattle.lp_spelling.specs.TableReading.{entries_within, entries}
use Rattle.lp_spelling.proofs.Counting.{settled_none}
use Rattle.lp_spelling.proofs.Reading.{starts_ok}
use Rattle.lp_local.proofs.Settling.{Left, settled_left, behind_byte, from_byte}
use Rattle.lp_local.proofs.Tables.{entries_left}
use Rattle.lp_program.specs.CodeReading.{IsUse, IsCode}
use Rattle.lp_program.specs.OwnLines.{hole}
use Rattle.lp_program.specs.Reads.{TakesLine, TakesLines, TakesOwn, Task, Reads, trees, steps}
use Rattle.lp_program.specs.Reads.Reads.{no_tree, one_tree, no_step, one_step}
use Rattle.lp_program.specs.Trees.{Content}
use Rattle.lp_reading_laws.proofs.Printing.Own.{settled_feed}
use Rattle.lp_local.proofs.Ended.{IsEnded, ended_behind}
use Rattle.lp_program.proofs.Joined.{LineMoved, line_moved}
use Rattle.lp_viable.proofs.Moving.{nothing_utf8, feed_utf8, code_moved, use_line, use_whole, use_moved}
use Rattle.lp_viable.proofs.TableMoved.{entries_moved}
use Rattle.lp_viable.proofs.Behind.{entries_close}

-- a last line without a line feed
abbrev pub IsUnended : List ℕ → Type 0
IsUnended text = IsEnded text → ⊥

of_front : (b : ℕ) (front : List ℕ) → b ∷ [] ≡ front ++ 10 ∷ [] → b ≡ 10
of_front b [] e = let same : b ≡ 10 = cc in same
of_front b (c ∷ []) e = absurd cc
of_front b (c ∷ d ∷ front) e = absurd cc

not_alone : (b : ℕ) → (b == 10) ≡ false → IsEnded (b ∷ []) → ⊥
not_alone b n (inl e) = cc
not_alone b n (inr f) = both_ways (b == 10) n (eq-eqb b 10 (of_front b f.0 f.1))

-- a text is ended where what is left of it is, and isn't nothing
ended_front : (a b : List ℕ) → 0 < length b → IsEnded b → IsEnded (a ++ b)
ended_front a b some (inl e) = let none = ap length e in absurd (omega (arith, none, some))
ended_front a b some (inr f) = inr (a ++ f.0, ap (λ (x : List ℕ). a ++ x) f.1 ∙ sym (append_assoc a f.0 (10 ∷ [])))

-- each text is ended, or its last line has no line feed
pub ended_or_not : (text : List ℕ) → IsEnded text ⊎ IsUnended text
ended_or_not [] = inl (inl refl)
ended_or_not (b ∷ []) = elim (cases_Bool (b == 10)) [
  | inl y ↦ inl (inr ([], ap (λ (c : ℕ). c ∷ []) (eqb-true b 10 y)))
  | inr n ↦ inr (λ e. not_alone b n e)
]
ended_or_not (b ∷ c ∷ t) = elim (ended_or_not (c ∷ t)) [
  | inl e ↦ inl (ended_front (b ∷ []) (c ∷ t) (omega arith) e)
  | inr unfed ↦ inr (λ e. unfed (ended_behind (b ∷ []) (c ∷ t) e))
]

feed_first : (rest : List ℕ) → IsEnded rest → IsEnded (10 ∷ rest)
feed_first rest (inl e) = inr ([], ap (λ (x : List ℕ). 10 ∷ x) e)
feed_first rest (inr f) = inr (10 ∷ f.0, ap (λ (x : List ℕ). 10 ∷ x) f.1)

feed_ended : (front rest : List ℕ) → IsEnded rest → IsEnded (front ++ 10 ∷ rest)
feed_ended front rest e = ended_front front (10 ∷ rest) (omega arith) (feed_first rest e)

-- all of the text is taken, and with a line feed behind it what is left counts for nothing
pub record Closes (Takes : List ℕ → List ℕ → Type 0) (text : List ℕ) : Type 0 where
  pub behind : List ℕ
  pub utf8 : IsUtf8 behind
  pub ended : IsEnded behind
  pub blank : settled behind ≡ []
  pub takes : Takes (text ++ 10 ∷ []) behind

-- something is left, with anything behind
pub record GoesOn (Takes : List ℕ → List ℕ → Type 0) (text rest : List ℕ) : Type 0 where
  pub utf8 : IsUtf8 rest
  pub unended : IsUnended rest
  pub on : (x : List ℕ) → Takes (text ++ x) (rest ++ x)

-- one or the other
abbrev pub Way : (List ℕ → List ℕ → Type 0) → List ℕ → List ℕ → Type 0
Way Takes text rest = ((rest ≡ []) × Closes Takes text) ⊎ GoesOn Takes text rest

-- nothing is taken
nothing_way : (Takes : List ℕ → List ℕ → Type 0) (text rest : List ℕ) → ((a b : List ℕ) → a ≡ b → Takes b a) → IsUtf8 text → IsUnended text → rest ≡ text → Way Takes text rest
nothing_way Takes text rest same u unfed t = inr (record {
  utf8 = subst (λ (x : List ℕ). IsUtf8 x) (sym t) u;
  unended = λ e. unfed (subst (λ (x : List ℕ). IsEnded x) t e);
  on = λ x. same (rest ++ x) (text ++ x) (ap (λ (y : List ℕ). y ++ x) t);
})

-- a line, and lines
pub line_way : (line text rest : List ℕ) → IsUtf8 text → IsUnended text → TakesLine line text rest → Way (TakesLine line) text rest
line_way line text rest u unfed t =
    let m : LineMoved line text rest = line_moved line text rest u t in
    elim m.whole [
      | inl w ↦ inr (record {
        utf8 = behind_byte m.front 10 rest (omega arith) (subst (λ (x : List ℕ). IsUtf8 x) w u);
        unended = λ e. unfed (subst (λ (x : List ℕ). IsEnded x) (sym w) (feed_ended m.front rest e));
        on = λ x. subst (λ (y : List ℕ). TakesLine line y (rest ++ x)) (sym (ap (λ (y : List ℕ). y ++ x) w ∙ append_assoc m.front (10 ∷ rest) x)) (m.again (rest ++ x));
      })
      | inr w ↦ inl (
        w.1,
        record { behind = []; utf8 = nothing_utf8; ended = inl refl; blank = settled_none; takes = subst (λ (y : List ℕ). TakesLine line (y ++ 10 ∷ []) []) (sym w.0) (m.again []) },
      )
    ]

-- no line is taken where nothing counts
pub blank_line : (line text rest : List ℕ) → settled text ≡ [] → TakesLine line text rest → ⊥
blank_line line text rest e t = let some = t.some in let none = ap length e in omega (arith, some, none)

nothing_settles : (text : List ℕ) → text ≡ [] → settled text ≡ []
nothing_settles text e = ap settled e ∙ settled_none

last_lines : (n : ℕ) (line text mid rest : List ℕ) → mid ≡ [] → Closes (TakesLine line) text → TakesLines n line mid rest → Way (TakesLines (suc n) line) text rest
last_lines zero line text mid rest none c t = inl (t ∙ none, record { behind = c.behind; utf8 = c.utf8; ended = c.ended; blank = c.blank; takes = (c.behind, c.takes, refl) })
last_lines (suc n) line text mid rest none c t = absurd (blank_line line mid t.0 (nothing_settles mid none) t.1)

lines_way : (n : ℕ) (line text rest : List ℕ) → IsUtf8 text → IsUnended text → TakesLines n line text rest → Way (TakesLines n line) text rest
lines_way zero line text rest u unfed t = nothing_way (TakesLines zero line) text rest (λ a b e. e) u unfed t
lines_way (suc n) line text rest u unfed t = elim (line_way line text t.0 u unfed t.1) [
  | inl c ↦ last_lines n line text t.0 rest c.0 c.1 t.2
  | inr g ↦ elim (lines_way n line t.0 rest g.utf8 g.unended t.2) [
    | inl c ↦ inl (c.0, record { behind = c.1.behind; utf8 = c.1.utf8; ended = c.1.ended; blank = c.1.blank; takes = (t.0 ++ 10 ∷ [], g.on (10 ∷ []), c.1.takes) })
    | inr h ↦ inr (record { utf8 = h.utf8; unended = h.unended; on = λ x. (t.0 ++ x, g.on x, h.on x) })
  ]
]

-- a use
pub use_way : (used text rest : List ℕ) → IsUtf8 text → IsUnended text → IsUse text used rest → Way (λ a b. IsUse a used b) text rest
use_way used text rest u unfed c =
    let l : Left text (settled text) = settled_left text u in
    let w : List ℕ = l.front ++ use_line used in
    let whole : text ≡ w ++ rest = l.whole ∙ ap (λ (x : List ℕ). l.front ++ x) (c.front ∙ use_whole used rest) ∙ sym (append_assoc l.front (use_line used) rest) in
    ⊎_elim
    (λ none. (
    let nothing : rest ≡ [] = nil_from_length rest (eqb-true (length rest) 0 none) in
    let here : text ++ [] ≡ text = append-nil text in
    let there : IsUse (text ++ []) used [] = subst (λ (x : List ℕ). IsUse x used []) (sym here) (subst (λ (x : List ℕ). IsUse text used x) nothing c) in
    inl (
      nothing,
      record {
        behind = 10 ∷ [];
        utf8 = feed_utf8;
        ended = inr ([], refl);
        blank = settled_feed [] ∙ settled_none;
        takes = use_moved text used [] [] (subst (λ (x : List ℕ). IsUtf8 x) (sym here) u) there;
      },
    )))
    (λ feed. (
    let r : List ℕ = drop 1 rest in
    let rest_is : rest ≡ 10 ∷ r = starts_ok (codes "\n") rest feed in
    let v : IsUtf8 (w ++ rest) = subst (λ (x : List ℕ). IsUtf8 x) whole u in
    inr (record {
      utf8 = subst (λ (x : List ℕ). IsUtf8 x) (sym rest_is) (from_byte w 10 r (omega arith) (subst (λ (x : List ℕ). IsUtf8 (w ++ x)) rest_is v));
      unended = λ e. unfed (subst (λ (x : List ℕ). IsEnded x) (sym whole) (ended_front w rest (subst (λ (x : List ℕ). 0 < length x) (sym rest_is) (omega arith)) e));
      on = λ x.
          (let there : IsUse (w ++ 10 ∷ (r ++ x)) used (10 ∷ (r ++ x)) = use_moved w used rest (r ++ x) v (subst (λ (y : List ℕ). IsUse y used rest) whole c) in
          let text_is : text ++ x ≡ w ++ 10 ∷ (r ++ x) = ap (λ (y : List ℕ). y ++ x) (whole ∙ ap (λ (y : List ℕ). w ++ y) rest_is) ∙ append_assoc w (10 ∷ r) x in
          subst (λ (y : List ℕ). IsUse (text ++ x) used y) (sym (ap (λ (y : List ℕ). y ++ x) rest_is)) (subst (λ (y : List ℕ). IsUse y used (10 ∷ (r ++ x))) (sym text_is) there));
    })))
    (or_cases (length rest == 0) (starts_with eqb rest (codes "\n")) c.ends)

-- user code
pub code_way : (code text rest : List ℕ) → IsUtf8 text → IsUnended text → IsCode text code rest → Way (λ a b. IsCode a code b) text rest
code_way code text rest u unfed c =
    let r : List ℕ = drop 1 rest in
    let rest_is : rest ≡ 125 ∷ r = starts_ok (codes "}") rest c.closes in
    let w : List ℕ = c.whole in
    let whole : text ≡ w ++ 125 ∷ r = c.front ∙ ap (λ (x : List ℕ). w ++ x) rest_is in
    let v : IsUtf8 (w ++ 125 ∷ r) = subst (λ (x : List ℕ). IsUtf8 x) whole u in
    let there : IsCode (w ++ 125 ∷ r) code (125 ∷ r) = subst (λ (y : List ℕ). IsCode (w ++ 125 ∷ r) code y) rest_is (subst (λ (y : List ℕ). IsCode y code rest) whole c) in
    inr (record {
      utf8 = subst (λ (x : List ℕ). IsUtf8 x) (sym rest_is) (from_byte w 125 r (omega arith) v);
      unended = λ e. unfed (subst (λ (x : List ℕ). IsEnded x) (sym c.front) (ended_front w rest (subst (λ (x : List ℕ). 0 < length x) (sym rest_is) (omega arith)) e));
      on = λ x.
          (let text_is : text ++ x ≡ w ++ 125 ∷ (r ++ x) = ap (λ (y : List ℕ). y ++ x) whole ∙ append_assoc w (125 ∷ r) x in
          subst (λ (y : List ℕ). IsCode (text ++ x) code y) (sym (ap (λ (y : List ℕ). y ++ x) rest_is)) (subst (λ (y : List ℕ). IsCode y code (125 ∷ (r ++ x))) (sym text_is) (code_moved w code r (r ++ x) v there)));
    })

-- a table
pub table_way : (numbers : List ℤ) (text rest : List ℕ) → IsUtf8 text → IsUnended text → entries text ≡ Some (numbers, rest) → Way (λ a b. entries a ≡ Some (numbers, b)) text rest
table_way numbers text rest u unfed h =
    let l : Left text rest = entries_left text numbers rest u h in
    let at = entries_close text numbers rest h in
    let whole : text ≡ l.front ++ 93 ∷ at.0 = l.whole ∙ ap (λ (x : List ℕ). l.front ++ x) at.1 in
    let there : entries (l.front ++ 93 ∷ at.0) ≡ Some (numbers, 93 ∷ at.0) = ap entries (sym whole) ∙ h ∙ ap (λ (x : List ℕ). Some (numbers, x)) at.1 in
    inr (record {
      utf8 = l.utf8;
      unended = λ e. unfed (subst (λ (x : List ℕ). IsEnded x) (sym l.whole) (ended_front l.front rest (subst (λ (x : List ℕ). 0 < length x) (sym at.1) (omega arith)) e));
      on = λ x.
          ap entries (ap (λ (y : List ℕ). y ++ x) whole ∙ append_assoc l.front (93 ∷ at.0) x) ∙ entries_moved l.front at.0 (at.0 ++ x) numbers (subst (λ (y : List ℕ). IsUtf8 y) whole u) there
          ∙ ap (λ (y : List ℕ). Some (numbers, y)) (sym (ap (λ (y : List ℕ). y ++ x) at.1));
    })

-- what a step itself takes
stays_way : (prefix : List ℕ) (c : Content) (count : ℕ) (pieces : List Piece) (s : Step) (text rest : List ℕ) → ((a b : List ℕ) → a ≡ b → TakesOwn prefix c count pieces s b a) →
    IsUtf8 text → IsUnended text → rest ≡ text → Way (TakesOwn prefix c count pieces s) text rest
stays_way prefix c count pieces s text rest same u unfed t = nothing_way (TakesOwn prefix c count pieces s) text rest same u unfed t

-- it is taken up to the end of the text, or with anything behind
pub own_way : (prefix : List ℕ) (c : Content) (count : ℕ) (pieces : List Piece) (s : Step) (text rest : List ℕ) → IsUtf8 text → IsUnended text → TakesOwn prefix c count pieces s text rest → Way (TakesOwn prefix c count pieces s) text rest
own_way prefix c count pieces (step.Line b) text rest u unfed t = line_way (line_of prefix c.holes pieces) text rest u unfed t
own_way prefix c count pieces (step.Each b) text rest u unfed t = lines_way count (line_of prefix c.holes pieces) text rest u unfed t
own_way prefix c count pieces step.Use text rest u unfed t = use_way (hole c 0) text rest u unfed t
own_way prefix c count pieces step.Code text rest u unfed t = code_way (hole c 0) text rest u unfed t
own_way prefix c count pieces step.Entries text rest u unfed t = table_way c.numbers text rest u unfed t
own_way prefix c count pieces step.Empty text rest u unfed t = stays_way prefix c count pieces step.Empty text rest (λ a b e. e) u unfed t
own_way prefix c count pieces step.Note text rest u unfed t = stays_way prefix c count pieces step.Note text rest (λ a b e. e) u unfed t
own_way prefix c count pieces step.NoteAlways text rest u unfed t = stays_way prefix c count pieces step.NoteAlways text rest (λ a b e. e) u unfed t
own_way prefix c count pieces (step.One class) text rest u unfed t = stays_way prefix c count pieces (step.One class) text rest (λ a b e. e) u unfed t
own_way prefix c count pieces (step.Optional class) text rest u unfed t = stays_way prefix c count pieces (step.Optional class) text rest (λ a b e. e) u unfed t
own_way prefix c count pieces (step.Many class) text rest u unfed t = stays_way prefix c count pieces (step.Many class) text rest (λ a b e. e) u unfed t
own_way prefix c count pieces (step.Some class) text rest u unfed t = stays_way prefix c count pieces (step.Some class) text rest (λ a b e. e) u unfed t
own_way prefix c count pieces (step.Pairs first second) text rest u unfed t = stays_way prefix c count pieces (step.Pairs first second) text rest (λ a b e. e) u unfed t

-- what takes something takes nothing off an empty text, and else it takes nothing off any text
abbrev Idle : (List ℕ → List ℕ → Type 0) → List ℕ → Type 0
Idle Takes rest = (rest ≡ []) × ((y : List ℕ) → Takes y y)

no_entries : entries [] ≡ None
unfolding entries entries_within
no_entries = refl

not_some : {A : Type 0} (x : A) → None ≡ Some x → ⊥
not_some x e = cc

lines_idle : (n : ℕ) (line text rest : List ℕ) → text ≡ [] → TakesLines n line text rest → Idle (TakesLines n line) rest
lines_idle zero line text rest e t = (t ∙ e, λ y. refl)
lines_idle (suc n) line text rest e t = absurd (blank_line line text t.0 (nothing_settles text e) t.1)

own_idle : (prefix : List ℕ) (c : Content) (count : ℕ) (pieces : List Piece) (s : Step) (text rest : List ℕ) → text ≡ [] → TakesOwn prefix c count pieces s text rest → Idle (TakesOwn prefix c count pieces s) rest
own_idle prefix c count pieces (step.Line b) text rest e t = absurd (blank_line (line_of prefix c.holes pieces) text rest (nothing_settles text e) t)
own_idle prefix c count pieces (step.Each b) text rest e t = lines_idle count (line_of prefix c.holes pieces) text rest e t
own_idle prefix c count pieces step.Use text rest e t = (
    let never = ap length (sym (nothing_settles text e) ∙ t.front) in
    let size = length-append (codes "use ") (hole c 0 ++ (codes ";" ++ rest)) in
    let four : length (codes "use ") ≡ 4 = refl in
    absurd (omega (arith, never, size, four)))
own_idle prefix c count pieces step.Code text rest e t = (
    let some = ap length (starts_ok (codes "}") rest t.closes) in
    let size = ap length (sym e ∙ t.front) ∙ length-append t.whole rest in
    absurd (omega (arith, some, size)))
own_idle prefix c count pieces step.Entries text rest e t = absurd (not_some (c.numbers, rest) (sym no_entries ∙ ap entries (sym e) ∙ t))
own_idle prefix c count pieces step.Empty text rest e t = (t ∙ e, λ y. refl)
own_idle prefix c count pieces step.Note text rest e t = (t ∙ e, λ y. refl)
own_idle prefix c count pieces step.NoteAlways text rest e t = (t ∙ e, λ y. refl)
own_idle prefix c count pieces (step.One class) text rest e t = (t ∙ e, λ y. refl)
own_idle prefix c count pieces (step.Optional class) text rest e t = (t ∙ e, λ y. refl)
own_idle prefix c count pieces (step.Many class) text rest e t = (t ∙ e, λ y. refl)
own_idle prefix c count pieces (step.Some class) text rest e t = (t ∙ e, λ y. refl)
own_idle prefix c count pieces (step.Pairs first second) text rest e t = (t ∙ e, λ y. refl)

-- what is read of an empty text is read of each text without taking anything off it
pub reads_idle : (prefix : List ℕ) (task : Task) (text rest : List ℕ) → text ≡ [] → Reads prefix task text rest → (rest ≡ []) × ((y : List ℕ) → Reads prefix task y y)
reads_idle prefix _ _ _ e (no_tree text) = (e, λ y. no_tree y)
reads_idle prefix _ _ _ e (one_tree c below after text mid rest n k r more) =
    let a = reads_idle prefix _ text mid e r in
    let b = reads_idle prefix _ mid rest a.0 more in
    (b.0, λ y. one_tree c below after y y y n k (a.1 y) (b.1 y))
reads_idle prefix _ _ _ e (no_step c count text) = (e, λ y. no_step c count y)
reads_idle prefix _ _ _ e (one_step c count s others now later text own mid rest m t r more) =
    let o = own_idle prefix c count s.1 s.0 text own e t in
    let a = reads_idle prefix _ own mid o.0 r in
    let b = reads_idle prefix _ mid rest a.0 more in
    (b.0, λ y. one_step c count s others now later y y y y m (o.1 y) (a.1 y) (b.1 y))

-- one behind the other
one_by_one : (First Next All : List ℕ → List ℕ → Type 0) (text mid rest : List ℕ) → ((a m r : List ℕ) → First a m → Next m r → All a r) → Way First text mid →
    (IsUtf8 mid → IsUnended mid → Way Next mid rest) → (mid ≡ [] → Idle Next rest) → Way All text rest
one_by_one First Next All text mid rest join (inl c) next idle =
    let i = idle c.0 in
    inl (i.0, record { behind = c.1.behind; utf8 = c.1.utf8; ended = c.1.ended; blank = c.1.blank; takes = join (text ++ 10 ∷ []) c.1.behind c.1.behind c.1.takes (i.1 c.1.behind) })
one_by_one First Next All text mid rest join (inr g) next idle = elim (next g.utf8 g.unended) [
  | inl c ↦ inl (c.0, record { behind = c.1.behind; utf8 = c.1.utf8; ended = c.1.ended; blank = c.1.blank; takes = join (text ++ 10 ∷ []) (mid ++ 10 ∷ []) c.1.behind (g.on (10 ∷ [])) c.1.takes })
  | inr h ↦ inr (record { utf8 = h.utf8; unended = h.unended; on = λ x. join (text ++ x) (mid ++ x) (rest ++ x) (g.on x) (h.on x) })
]

abbrev Both : (List ℕ → List ℕ → Type 0) → (List ℕ → List ℕ → Type 0) → List ℕ → List ℕ → Type 0
Both First Next a r = (m : List ℕ) × First a m × Next m r

-- trees, and steps
pub reads_way : (prefix : List ℕ) (task : Task) (text rest : List ℕ) → IsUtf8 text → IsUnended text → Reads prefix task text rest → Way (Reads prefix task) text rest
reads_way prefix _ _ _ u unfed (no_tree text) = inr (record { utf8 = u; unended = unfed; on = λ x. no_tree (text ++ x) })
reads_way prefix _ _ _ u unfed (one_tree c below after text mid rest n k r more) =
    one_by_one (Reads prefix (steps c 0 (Rattle.lp_form.specs.Templates.steps_of c.part) below)) (Reads prefix (trees after)) (Reads prefix (trees (Rattle.lp_program.specs.Trees.Forest.tree c below after))) text mid rest
    (λ a m z x y. one_tree c below after a m z n k x y) (reads_way prefix _ text mid u unfed r) (λ v o. reads_way prefix _ mid rest v o more) (λ e. reads_idle prefix _ mid rest e more)
reads_way prefix _ _ _ u unfed (no_step c count text) = inr (record { utf8 = u; unended = unfed; on = λ x. no_step c count (text ++ x) })
reads_way prefix _ _ _ u unfed (one_step c count s others now later text own mid rest m t r more) =
    let First : List ℕ → List ℕ → Type 0 = Reads prefix (trees now) in
    let Next : List ℕ → List ℕ → Type 0 = Reads prefix (steps c (count + Rattle.lp_program.specs.Trees.tree_count now) others later) in
    one_by_one (TakesOwn prefix c count s.1 s.0) (Both First Next) (Reads prefix (steps c count (s ∷ others) (Rattle.lp_program.specs.Reads.graft now later))) text own rest
    (λ a b z x y. one_step c count s others now later a b y.0 z m x y.1 y.2) (own_way prefix c count s.1 s.0 text own u unfed t)
    (λ v o. one_by_one First Next (Both First Next) own mid rest (λ a b z x y. (b, x, y)) (reads_way prefix _ own mid v o r) (λ w p. reads_way prefix _ mid rest w p more) (λ e. reads_idle prefix _ mid rest e more))
    (λ e. (let a = reads_idle prefix _ own mid e r in let b = reads_idle prefix _ mid rest a.0 more in (b.0, λ y. (y, a.1 y, b.1 y))))
