-- What is read of an ended text is read of it with more behind it too.
use Rattle.std.proofs.Common.{◌≡◌, ℕ, ℤ, ◌+◌, ◌==◌, ◌||◌, ◌<◌, zero, suc, Bool, true, false, cond, inl, inr, ⊎_elim, List, [], ◌∷◌, ◌++◌, length, drop, codes, Option, Some, None, refl, sym, ap, ◌∙◌, subst, arith, eqb, ltb, append_assoc, append-nil}
use Rattle.std.specs.List.{starts_with}
use Rattle.std.specs.Str.{IsUtf8}
use Rattle.std.proofs.lemmas.Bool.{cases_Bool, cond-true, cond-false, or_cases, eqb-true}
use Rattle.std.proofs.lemmas.List.{nil_from_length}
use Rattle.lp_form.specs.Templates.{Piece}
use Rattle.lp_form.specs.declared.template.Step.{Step}
use Rattle.lp_form.specs.declared.template.Step.TheVariants as step
use Rattle.lp_spelling.specs.Counting.{line_len, settled}
use Rattle.lp_spelling.specs.Lines.{line_of}
use Rattle.lp_spelling.specs.LineReading.{◌>>=◌}
use Rattle.lp_spelling.specs.TableReading.{blank_len, entry_in, Front, entry_front, front_after_blank, front_of, Table, with_number, goes_on_after, entries_within, entries}
use Rattle.lp_spelling.specs.TableReading.Front.{feed, skip, ends, found_entry, wrong}
use Rattle.lp_spelling.proofs.Reading.{starts_ok}
use Rattle.lp_local.proofs.Settling.{Left, settled_left, from_byte}
use Rattle.lp_local.proofs.Tables.{entries_left}
use Rattle.lp_program.specs.CodeReading.{IsUse, IsCode}
use Rattle.lp_program.specs.OwnLines.{hole}
use Rattle.lp_program.specs.Reads.{TakesOwn, Task, Reads}
use Rattle.lp_program.specs.Reads.Reads.{no_tree, one_tree, no_step, one_step}
use Rattle.lp_program.specs.Trees.{Content}
use Rattle.lp_local.proofs.Ended.{IsEnded, ended_behind}
use Rattle.lp_viable.proofs.Moving.{LineOn, line_on, LinesOn, lines_on, code_moved, use_line, use_whole, use_moved}
use Rattle.lp_viable.proofs.TableMoved.{entries_moved}

-- a table is read up to a `]`
abbrev Closes : List ℕ → Type 0
Closes rest = (r : List ℕ) × (rest ≡ 93 ∷ r)

not_ends : (o : Option (ℤ × List ℕ)) → entry_front o ≡ ends → ⊥
not_ends None h = cc
not_ends (Some x) h = cc

ends_front : (text : List ℕ) → front_of text ≡ ends → Closes text
unfolding front_of
ends_front [] h = absurd cc
ends_front (b ∷ t) h = elim (cases_Bool (b == 10)) [
  | inl y ↦ (let never : feed t ≡ ends = sym (cond-true (b == 10) _ _ y) ∙ h in absurd cc)
  | inr n ↦ elim (cases_Bool (starts_with eqb (b ∷ t) (codes "//"))) [
    | inl y ↦ (let never : skip (drop (line_len (b ∷ t)) (b ∷ t)) ≡ ends = sym (cond-false (b == 10) _ _ n ∙ cond-true (starts_with eqb (b ∷ t) (codes "//")) _ _ y) ∙ h in absurd cc)
    | inr z ↦ elim (cases_Bool (b == 93)) [
      | inl y ↦ (t, ap (λ (c : ℕ). c ∷ t) (eqb-true b 93 y))
      | inr w ↦
          let blank : front_after_blank (b ∷ t) ≡ ends = sym (cond-false (b == 10) _ _ n ∙ cond-false (starts_with eqb (b ∷ t) (codes "//")) _ _ z ∙ cond-false (b == 93) _ _ w) ∙ h in
          elim (cases_Bool (ltb 0 (blank_len (b ∷ t)))) [
            | inl y ↦ (let never : skip (drop (blank_len (b ∷ t)) (b ∷ t)) ≡ ends = sym (cond-true (ltb 0 (blank_len (b ∷ t))) _ _ y) ∙ blank in absurd cc)
            | inr v ↦ absurd (not_ends (entry_in (b ∷ t)) (sym (cond-false (ltb 0 (blank_len (b ∷ t))) _ _ v) ∙ blank))
          ]
    ]
  ]
]

closes_step : (go : Bool → List ℕ → Option Table) (g : Bool) (text : List ℕ) (f : Front) (t : Table) → front_of text ≡ f → goes_on_after go g text f ≡ Some t →
    ((h : Bool) (r : List ℕ) (x : Table) → go h r ≡ Some x → Closes x.1) → Closes t.1
closes_step go g text (feed r) t k e later = later true r t e
closes_step go g text (skip r) t k e later = later g r t e
closes_step go true text ends t k e later = let same : ([], text) ≡ t = cc in subst (λ (x : Table). Closes x.1) same (ends_front text k)
closes_step go false text ends t k e later = absurd cc
closes_step go g text (found_entry z r) t k e later = of_entry go z r t (go false r) refl e (later false r)
  where
    of_entry : (go : Bool → List ℕ → Option Table) (z : ℤ) (r : List ℕ) (t : Table) (o : Option Table) → go false r ≡ o → (o >>= λ table. Some (with_number z table)) ≡ Some t → ((x : Table) → go false r ≡ Some x → Closes x.1) → Closes t.1
    of_entry go z r t None e h later = absurd cc
    of_entry go z r t (Some x) e h later = let same : with_number z x ≡ t = cc in subst (λ (y : Table). Closes y.1) same (later x e)
closes_step go g text wrong t k e later = absurd cc

within_closes : (m : ℕ) (g : Bool) (text : List ℕ) (t : Table) → entries_within m g text ≡ Some t → Closes t.1
unfolding entries_within
within_closes zero g text t e = absurd cc
within_closes (suc m) g text t e = closes_step (entries_within m) g text (front_of text) t refl e (λ h r x k. within_closes m h r x k)

pub entries_close : (text : List ℕ) (numbers : List ℤ) (rest : List ℕ) → entries text ≡ Some (numbers, rest) → Closes rest
unfolding entries
entries_close text numbers rest e = within_closes (length text) true text (numbers, rest) e

-- what a step itself takes
pub record OwnOn (prefix : List ℕ) (c : Content) (count : ℕ) (pieces : List Piece) (s : Step) (text rest : List ℕ) : Type 0 where
  pub utf8 : IsUtf8 rest
  pub ended : IsEnded rest
  pub on : (x : List ℕ) → TakesOwn prefix c count pieces s (text ++ x) (rest ++ x)

closed_not : (front : List ℕ) → codes ";" ≡ front ++ 10 ∷ [] → ⊥
closed_not [] e = let never : 59 ≡ 10 = ap (λ (x : List ℕ). Rattle.std.proofs.Common.get_or x 0 0) e in omega (arith, never)
closed_not (d ∷ []) e = cc
closed_not (d ∷ x ∷ front) e = cc

pub record UseOn (text used rest : List ℕ) : Type 0 where
  pub utf8 : IsUtf8 rest
  pub ended : IsEnded rest
  pub on : (x : List ℕ) → IsUse (text ++ x) used (rest ++ x)

pub use_on : (text used rest : List ℕ) → IsUtf8 text → IsEnded text → IsUse text used rest → UseOn text used rest
use_on text used rest u e c =
    let l : Left text (settled text) = settled_left text u in
    let w : List ℕ = l.front ++ use_line used in
    let whole : text ≡ w ++ rest = l.whole ∙ ap (λ (x : List ℕ). l.front ++ x) (c.front ∙ use_whole used rest) ∙ sym (append_assoc l.front (use_line used) rest) in
    ⊎_elim
    (λ none. (
    let nothing : rest ≡ [] = nil_from_length rest (eqb-true (length rest) 0 none) in
    let text_is : text ≡ (l.front ++ (codes "use " ++ used)) ++ codes ";" =
    whole ∙ ap (λ (x : List ℕ). w ++ x) nothing ∙ append-nil w ∙ ap (λ (x : List ℕ). l.front ++ x) (sym (append_assoc (codes "use ") used (codes ";"))) ∙ sym (append_assoc l.front (codes "use " ++ used) (codes ";")) in
    absurd (elim (ended_behind (l.front ++ (codes "use " ++ used)) (codes ";") (subst (λ (x : List ℕ). IsEnded x) text_is e)) [ inl never ↦ cc | inr f ↦ closed_not f.0 f.1 ])))
    (λ feed. (
    let r : List ℕ = drop 1 rest in
    let rest_is : rest ≡ 10 ∷ r = starts_ok (codes "\n") rest feed in
    let v : IsUtf8 (w ++ rest) = subst (λ (x : List ℕ). IsUtf8 x) whole u in
    record {
      utf8 = subst (λ (x : List ℕ). IsUtf8 x) (sym rest_is) (from_byte w 10 r (omega arith) (subst (λ (x : List ℕ). IsUtf8 (w ++ x)) rest_is v));
      ended = ended_behind w rest (subst (λ (x : List ℕ). IsEnded x) whole e);
      on = λ x.
          (let there : IsUse (w ++ 10 ∷ (r ++ x)) used (10 ∷ (r ++ x)) = use_moved w used rest (r ++ x) v (subst (λ (y : List ℕ). IsUse y used rest) whole c) in
          let text_is : text ++ x ≡ w ++ 10 ∷ (r ++ x) = ap (λ (y : List ℕ). y ++ x) (whole ∙ ap (λ (y : List ℕ). w ++ y) rest_is) ∙ append_assoc w (10 ∷ r) x in
          subst (λ (y : List ℕ). IsUse (text ++ x) used y) (sym (ap (λ (y : List ℕ). y ++ x) rest_is)) (subst (λ (y : List ℕ). IsUse y used (10 ∷ (r ++ x))) (sym text_is) there));
    }))
    (or_cases (length rest == 0) (starts_with eqb rest (codes "\n")) c.ends)

pub record CodeOn (text code rest : List ℕ) : Type 0 where
  pub utf8 : IsUtf8 rest
  pub ended : IsEnded rest
  pub on : (x : List ℕ) → IsCode (text ++ x) code (rest ++ x)

pub code_on : (text code rest : List ℕ) → IsUtf8 text → IsEnded text → IsCode text code rest → CodeOn text code rest
code_on text code rest u e c =
    let r : List ℕ = drop 1 rest in
    let rest_is : rest ≡ 125 ∷ r = starts_ok (codes "}") rest c.closes in
    let w : List ℕ = c.whole in
    let whole : text ≡ w ++ 125 ∷ r = c.front ∙ ap (λ (x : List ℕ). w ++ x) rest_is in
    let v : IsUtf8 (w ++ 125 ∷ r) = subst (λ (x : List ℕ). IsUtf8 x) whole u in
    let there : IsCode (w ++ 125 ∷ r) code (125 ∷ r) = subst (λ (y : List ℕ). IsCode (w ++ 125 ∷ r) code y) rest_is (subst (λ (y : List ℕ). IsCode y code rest) whole c) in
    record {
      utf8 = subst (λ (x : List ℕ). IsUtf8 x) (sym rest_is) (from_byte w 125 r (omega arith) v);
      ended = ended_behind w rest (subst (λ (x : List ℕ). IsEnded x) c.front e);
      on = λ x.
          (let text_is : text ++ x ≡ w ++ 125 ∷ (r ++ x) = ap (λ (y : List ℕ). y ++ x) whole ∙ append_assoc w (125 ∷ r) x in
          subst (λ (y : List ℕ). IsCode (text ++ x) code y) (sym (ap (λ (y : List ℕ). y ++ x) rest_is)) (subst (λ (y : List ℕ). IsCode y code (125 ∷ (r ++ x))) (sym text_is) (code_moved w code r (r ++ x) v there)));
    }

pub record TableOn (text : List ℕ) (numbers : List ℤ) (rest : List ℕ) : Type 0 where
  pub utf8 : IsUtf8 rest
  pub ended : IsEnded rest
  pub on : (x : List ℕ) → entries (text ++ x) ≡ Some (numbers, rest ++ x)

pub table_on : (text : List ℕ) (numbers : List ℤ) (rest : List ℕ) → IsUtf8 text → IsEnded text → entries text ≡ Some (numbers, rest) → TableOn text numbers rest
table_on text numbers rest u e h =
    let l : Left text rest = entries_left text numbers rest u h in
    let at : Closes rest = entries_close text numbers rest h in
    let whole : text ≡ l.front ++ 93 ∷ at.0 = l.whole ∙ ap (λ (x : List ℕ). l.front ++ x) at.1 in
    let there : entries (l.front ++ 93 ∷ at.0) ≡ Some (numbers, 93 ∷ at.0) = ap entries (sym whole) ∙ h ∙ ap (λ (x : List ℕ). Some (numbers, x)) at.1 in
    record {
      utf8 = l.utf8;
      ended = ended_behind l.front rest (subst (λ (x : List ℕ). IsEnded x) l.whole e);
      on = λ x.
          ap entries (ap (λ (y : List ℕ). y ++ x) whole ∙ append_assoc l.front (93 ∷ at.0) x) ∙ entries_moved l.front at.0 (at.0 ++ x) numbers (subst (λ (y : List ℕ). IsUtf8 y) whole u) there
          ∙ ap (λ (y : List ℕ). Some (numbers, y)) (sym (ap (λ (y : List ℕ). y ++ x) at.1));
    }

nothing_on : (text rest : List ℕ) → IsUtf8 text → IsEnded text → rest ≡ text → IsUtf8 rest × IsEnded rest × ((x : List ℕ) → rest ++ x ≡ text ++ x)
nothing_on text rest u e h = (subst (λ (y : List ℕ). IsUtf8 y) (sym h) u, subst (λ (y : List ℕ). IsEnded y) (sym h) e, λ x. ap (λ (y : List ℕ). y ++ x) h)

pub own_on : (prefix : List ℕ) (c : Content) (count : ℕ) (pieces : List Piece) (s : Step) (text rest : List ℕ) → IsUtf8 text → IsEnded text → TakesOwn prefix c count pieces s text rest → OwnOn prefix c count pieces s text rest
own_on prefix c count pieces (step.Line b) text rest u e t = let o : LineOn (line_of prefix c.holes pieces) text rest = line_on (line_of prefix c.holes pieces) text rest u e t in record { utf8 = o.utf8; ended = o.ended; on = o.on }
own_on prefix c count pieces (step.Each b) text rest u e t = let o : LinesOn count (line_of prefix c.holes pieces) text rest = lines_on count (line_of prefix c.holes pieces) text rest u e t in record { utf8 = o.utf8; ended = o.ended; on = o.on }
own_on prefix c count pieces step.Use text rest u e t = let o = use_on text (hole c 0) rest u e t in record { utf8 = o.utf8; ended = o.ended; on = o.on }
own_on prefix c count pieces step.Code text rest u e t = let o = code_on text (hole c 0) rest u e t in record { utf8 = o.utf8; ended = o.ended; on = o.on }
own_on prefix c count pieces step.Entries text rest u e t = let o = table_on text c.numbers rest u e t in record { utf8 = o.utf8; ended = o.ended; on = o.on }
own_on prefix c count pieces step.Empty text rest u e t = let o = nothing_on text rest u e t in record { utf8 = o.0; ended = o.1; on = o.2 }
own_on prefix c count pieces step.Note text rest u e t = let o = nothing_on text rest u e t in record { utf8 = o.0; ended = o.1; on = o.2 }
own_on prefix c count pieces step.NoteAlways text rest u e t = let o = nothing_on text rest u e t in record { utf8 = o.0; ended = o.1; on = o.2 }
own_on prefix c count pieces (step.One class) text rest u e t = let o = nothing_on text rest u e t in record { utf8 = o.0; ended = o.1; on = o.2 }
own_on prefix c count pieces (step.Optional class) text rest u e t = let o = nothing_on text rest u e t in record { utf8 = o.0; ended = o.1; on = o.2 }
own_on prefix c count pieces (step.Many class) text rest u e t = let o = nothing_on text rest u e t in record { utf8 = o.0; ended = o.1; on = o.2 }
own_on prefix c count pieces (step.Some class) text rest u e t = let o = nothing_on text rest u e t in record { utf8 = o.0; ended = o.1; on = o.2 }
own_on prefix c count pieces (step.Pairs first second) text rest u e t = let o = nothing_on text rest u e t in record { utf8 = o.0; ended = o.1; on = o.2 }

-- trees, and steps
pub record ReadsOn (prefix : List ℕ) (task : Task) (text rest : List ℕ) : Type 0 where
  pub utf8 : IsUtf8 rest
  pub ended : IsEnded rest
  pub on : (x : List ℕ) → Reads prefix task (text ++ x) (rest ++ x)

pub reads_on : (prefix : List ℕ) (task : Task) (text rest : List ℕ) → IsUtf8 text → IsEnded text → Reads prefix task text rest → ReadsOn prefix task text rest
reads_on prefix _ _ _ u e (no_tree text) = record { utf8 = u; ended = e; on = λ x. no_tree (text ++ x) }
reads_on prefix _ _ _ u e (one_tree c below after text mid rest n k r more) =
    let a = reads_on prefix _ text mid u e r in
    let b = reads_on prefix _ mid rest a.utf8 a.ended more in
    record { utf8 = b.utf8; ended = b.ended; on = λ x. one_tree c below after (text ++ x) (mid ++ x) (rest ++ x) n k (a.on x) (b.on x) }
reads_on prefix _ _ _ u e (no_step c count text) = record { utf8 = u; ended = e; on = λ x. no_step c count (text ++ x) }
reads_on prefix _ _ _ u e (one_step c count s others now later text own mid rest m t r more) =
    let o = own_on prefix c count s.1 s.0 text own u e t in
    let a = reads_on prefix _ own mid o.utf8 o.ended r in
    let b = reads_on prefix _ mid rest a.utf8 a.ended more in
    record { utf8 = b.utf8; ended = b.ended; on = λ x. one_step c count s others now later (text ++ x) (own ++ x) (mid ++ x) (rest ++ x) m (o.on x) (a.on x) (b.on x) }
