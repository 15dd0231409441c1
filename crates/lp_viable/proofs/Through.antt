-- What a text begins, it begins also where all that is read in front goes on behind anything; but where its last line has no line feed, maybe with one.
use Rattle.std.proofs.Common.{◌≡◌, ℕ, ◌+◌, zero, suc, inl, inr, ◌⊎◌, List, [], ◌∷◌, ◌++◌, refl, sym, ap, ◌∙◌, subst, append-nil}
use Rattle.std.specs.Str.{IsUtf8}
use Rattle.std.proofs.lemmas.Str.{IsUtf8-append}
use Rattle.lp_form.specs.Templates.{Piece, holes_of}
use Rattle.lp_form.specs.Templates as template
use Rattle.lp_form.specs.declared.part.Part.{Part}
use Rattle.lp_form.specs.declared.template.Kind.{Kind}
use Rattle.lp_form.specs.declared.template.Step.{Step}
use Rattle.lp_form.specs.declared.template.Step.TheVariants as step
use Rattle.lp_spelling.specs.Counting.{settled}
use Rattle.lp_spelling.specs.TableReading.{entries}
use Rattle.lp_spelling.proofs.Counting.{settled_none}
use Rattle.lp_program.specs.CodeReading.{IsUse, IsCode}
use Rattle.lp_program.specs.Reads.{TakesLine, trees}
use Rattle.lp_program.specs.Starting.{Goal, Starts}
use Rattle.lp_program.specs.Starting.Goal.{one_part, below_step, steps_left}
use Rattle.lp_program.specs.Starting.Starts.{ended, in_part, in_own, in_below, behind_step, in_tree}
use Rattle.lp_program.specs.Telling.{Told, TellsLine, TellsLines, TellsOwn}
use Rattle.lp_program.specs.Trees.{tree_count}
use Rattle.lp_local.proofs.Joining.{settled_past}
use Rattle.lp_local.proofs.Ended.{IsEnded}
use Rattle.lp_viable.proofs.Moving.{nothing_utf8, feed_utf8, LineOn, line_on}
use Rattle.lp_viable.proofs.Behind.{use_on, code_on, table_on, own_on, ReadsOn, reads_on}
use Rattle.lp_viable.proofs.Going.{OwnGoesOn, StartsOn, ended_on, in_part_on, in_own_on, in_below_on, behind_step_on, in_tree_on}
use Rattle.lp_viable.proofs.Unended.{IsUnended, ended_or_not, Closes, Way, line_way, blank_line, use_way, code_way, table_way, own_way, reads_idle, reads_way}

-- what a step tells of an ended text leaves an ended text
abbrev Rest : List ℕ → Type 0
Rest rest = IsUtf8 rest × IsEnded rest

same_rest : (text rest : List ℕ) → IsUtf8 text → IsEnded text → rest ≡ text → Rest rest
same_rest text rest u e h = (subst (λ (x : List ℕ). IsUtf8 x) (sym h) u, subst (λ (x : List ℕ). IsEnded x) (sym h) e)

lines_rest : (n : ℕ) (prefix : List ℕ) (kinds : List Kind) (pieces : List Piece) (old new : Told) (text rest : List ℕ) → IsUtf8 text → IsEnded text → TellsLines n prefix kinds pieces old new text rest → Rest rest
lines_rest zero prefix kinds pieces old new text rest u e t = same_rest text rest u e t.1
lines_rest (suc n) prefix kinds pieces old new text rest u e t =
    let o : LineOn t.2.line text t.1 = line_on t.2.line text t.1 u e t.2.takes in
    lines_rest n prefix kinds pieces t.0 new t.1 rest o.utf8 o.ended t.3

tells_rest : (prefix : List ℕ) (p : Part) (count : ℕ) (pieces : List Piece) (s : Step) (old new : Told) (text rest : List ℕ) → IsUtf8 text → IsEnded text → TellsOwn prefix p count pieces s old new text rest → Rest rest
tells_rest prefix p count pieces (step.Line b) old new text rest u e t = let o : LineOn t.line text rest = line_on t.line text rest u e t.takes in (o.utf8, o.ended)
tells_rest prefix p count pieces (step.Each b) old new text rest u e t = lines_rest count prefix (holes_of p) pieces old new text rest u e t
tells_rest prefix p count pieces step.Use old new text rest u e t = let o = use_on text t.text rest u e t.is_text in (o.utf8, o.ended)
tells_rest prefix p count pieces step.Code old new text rest u e t = let o = code_on text t.text rest u e t.is_text in (o.utf8, o.ended)
tells_rest prefix p count pieces step.Entries old new text rest u e t = let o = table_on text new.numbers rest u e t.reads in (o.utf8, o.ended)
tells_rest prefix p count pieces step.Empty old new text rest u e t = same_rest text rest u e t.1
tells_rest prefix p count pieces step.Note old new text rest u e t = same_rest text rest u e t.1
tells_rest prefix p count pieces step.NoteAlways old new text rest u e t = same_rest text rest u e t.1
tells_rest prefix p count pieces (step.One class) old new text rest u e t = same_rest text rest u e t.1
tells_rest prefix p count pieces (step.Optional class) old new text rest u e t = same_rest text rest u e t.1
tells_rest prefix p count pieces (step.Many class) old new text rest u e t = same_rest text rest u e t.1
tells_rest prefix p count pieces (step.Some class) old new text rest u e t = same_rest text rest u e t.1
tells_rest prefix p count pieces (step.Pairs first second) old new text rest u e t = same_rest text rest u e t.1

-- an ended text
starts_on : (prefix : List ℕ) (g : Goal) (text : List ℕ) → IsUtf8 text → IsEnded text → Starts prefix g text → StartsOn prefix g text
starts_on prefix _ _ u e (ended g text s) = ended_on g text u e s
starts_on prefix _ _ u e (in_part p text s) = in_part_on p text (starts_on prefix _ text u e s)
starts_on prefix _ _ u e (in_own p old new count s others text more rest v t) = in_own_on p old new count s others text more rest u v t
starts_on prefix _ _ u e (in_below p old new count s others text own t k) =
    let l = tells_rest prefix p count s.1 s.0 old new text own u e t in
    in_below_on p old new count s others text own u t (λ c x. (own_on prefix c count s.1 s.0 text own u e x).on) (starts_on prefix _ own l.0 l.1 k)
starts_on prefix _ _ u e (behind_step p old new count s others now text own mid m t r k) =
    let l = tells_rest prefix p count s.1 s.0 old new text own u e t in
    let a : ReadsOn prefix (trees now) own mid = reads_on prefix (trees now) own mid l.0 l.1 r in
    behind_step_on p old new count s others now text own mid u m t (λ c x. (own_on prefix c count s.1 s.0 text own u e x).on) a.on (starts_on prefix _ mid a.utf8 a.ended k)
starts_on prefix _ _ u e (in_tree s f p text mid g r k) =
    let a : ReadsOn prefix (trees f) text mid = reads_on prefix (trees f) text mid u e r in
    in_tree_on s f p text mid u g a.on (starts_on prefix _ mid a.utf8 a.ended k)

-- what a step tells of a text without a line feed at its end, and of the text with it
record Fed (Takes : List ℕ → List ℕ → Type 0) (text rest : List ℕ) : Type 0 where
  utf8 : IsUtf8 rest
  unended : IsUnended rest
  fed : Takes (text ++ 10 ∷ []) (rest ++ 10 ∷ [])

abbrev FedWay : (List ℕ → List ℕ → Type 0) → List ℕ → List ℕ → Type 0
FedWay Takes text rest = ((rest ≡ []) × Closes Takes text) ⊎ Fed Takes text rest

as_told : (Takes Tells : List ℕ → List ℕ → Type 0) (text rest : List ℕ) → ((a r : List ℕ) → IsUtf8 r → Takes a r → Tells a r) → Way Takes text rest → FedWay Tells text rest
as_told Takes Tells text rest f (inl c) = inl (c.0, record { behind = c.1.behind; utf8 = c.1.utf8; ended = c.1.ended; blank = c.1.blank; takes = f (text ++ 10 ∷ []) c.1.behind c.1.utf8 c.1.takes })
as_told Takes Tells text rest f (inr g) = inr (record {
  utf8 = g.utf8;
  unended = g.unended;
  fed = f (text ++ 10 ∷ []) (rest ++ 10 ∷ []) (IsUtf8-append rest (10 ∷ []) g.utf8 feed_utf8) (g.on (10 ∷ []));
})

stays_told : (Tells : List ℕ → List ℕ → Type 0) (text rest : List ℕ) → ((a b : List ℕ) → a ≡ b → Tells b a) → IsUtf8 text → IsUnended text → rest ≡ text → FedWay Tells text rest
stays_told Tells text rest same u unfed h = inr (record {
  utf8 = subst (λ (x : List ℕ). IsUtf8 x) (sym h) u;
  unended = λ e. unfed (subst (λ (x : List ℕ). IsEnded x) h e);
  fed = same (rest ++ 10 ∷ []) (text ++ 10 ∷ []) (ap (λ (y : List ℕ). y ++ 10 ∷ []) h);
})

line_told : (prefix : List ℕ) (kinds : List Kind) (pieces : List Piece) (old new : Told) (text rest : List ℕ) → IsUtf8 text → IsUnended text → TellsLine prefix kinds pieces old new text rest →
    FedWay (TellsLine prefix kinds pieces old new) text rest
line_told prefix kinds pieces old new text rest u unfed t =
    as_told (TakesLine t.line) (TellsLine prefix kinds pieces old new) text rest (λ a r v x. record { line = t.line; takes = x; reads = t.reads; fills = t.fills; others = t.others }) (line_way t.line text rest u unfed t.takes)

last_told : (n : ℕ) (prefix : List ℕ) (kinds : List Kind) (pieces : List Piece) (old new mid : Told) (text behind rest : List ℕ) → behind ≡ [] → Closes (TellsLine prefix kinds pieces old mid) text →
    TellsLines n prefix kinds pieces mid new behind rest → FedWay (TellsLines (suc n) prefix kinds pieces old new) text rest
last_told zero prefix kinds pieces old new mid text behind rest none c t =
    inl (t.1 ∙ none, record { behind = c.behind; utf8 = c.utf8; ended = c.ended; blank = c.blank; takes = (mid, c.behind, c.takes, (t.0, refl)) })
last_told (suc n) prefix kinds pieces old new mid text behind rest none c t = absurd (blank_line t.2.line behind t.1 (ap settled none ∙ settled_none) t.2.takes)

lines_told : (n : ℕ) (prefix : List ℕ) (kinds : List Kind) (pieces : List Piece) (old new : Told) (text rest : List ℕ) → IsUtf8 text → IsUnended text → TellsLines n prefix kinds pieces old new text rest →
    FedWay (TellsLines n prefix kinds pieces old new) text rest
lines_told zero prefix kinds pieces old new text rest u unfed t = stays_told (TellsLines zero prefix kinds pieces old new) text rest (λ a b e. (t.0, e)) u unfed t.1
lines_told (suc n) prefix kinds pieces old new text rest u unfed t = elim (line_told prefix kinds pieces old t.0 text t.1 u unfed t.2) [
  | inl c ↦ last_told n prefix kinds pieces old new t.0 text t.1 rest c.0 c.1 t.3
  | inr g ↦ elim (lines_told n prefix kinds pieces t.0 new t.1 rest g.utf8 g.unended t.3) [
    | inl c ↦ inl (c.0, record { behind = c.1.behind; utf8 = c.1.utf8; ended = c.1.ended; blank = c.1.blank; takes = (t.0, t.1 ++ 10 ∷ [], g.fed, c.1.takes) })
    | inr h ↦ inr (record { utf8 = h.utf8; unended = h.unended; fed = (t.0, t.1 ++ 10 ∷ [], g.fed, h.fed) })
  ]
]

own_told : (prefix : List ℕ) (p : Part) (count : ℕ) (pieces : List Piece) (s : Step) (old new : Told) (text rest : List ℕ) → IsUtf8 text → IsUnended text → TellsOwn prefix p count pieces s old new text rest →
    FedWay (TellsOwn prefix p count pieces s old new) text rest
own_told prefix p count pieces (step.Line b) old new text rest u unfed t = line_told prefix (holes_of p) pieces old new text rest u unfed t
own_told prefix p count pieces (step.Each b) old new text rest u unfed t = lines_told count prefix (holes_of p) pieces old new text rest u unfed t
own_told prefix p count pieces step.Use old new text rest u unfed t =
    as_told (λ a r. IsUse a t.text r) (TellsOwn prefix p count pieces step.Use old new) text rest (λ a r v x. record { bare = t.bare; first = t.first; text = t.text; is_text = x; behind = v; new_is = t.new_is })
    (use_way t.text text rest u unfed t.is_text)
own_told prefix p count pieces step.Code old new text rest u unfed t =
    as_told (λ a r. IsCode a t.text r) (TellsOwn prefix p count pieces step.Code old new) text rest (λ a r v x. record { bare = t.bare; first = t.first; text = t.text; is_text = x; behind = v; new_is = t.new_is })
    (code_way t.text text rest u unfed t.is_text)
own_told prefix p count pieces step.Entries old new text rest u unfed t =
    as_told (λ a r. entries a ≡ Rattle.std.proofs.Common.Some (new.numbers, r)) (TellsOwn prefix p count pieces step.Entries old new) text rest (λ a r v x. record { first = t.first; reads = x; new_is = t.new_is })
    (table_way new.numbers text rest u unfed t.reads)
own_told prefix p count pieces step.Empty old new text rest u unfed t = stays_told (TellsOwn prefix p count pieces step.Empty old new) text rest (λ a b e. (t.0, e)) u unfed t.1
own_told prefix p count pieces step.Note old new text rest u unfed t = stays_told (TellsOwn prefix p count pieces step.Note old new) text rest (λ a b e. (t.0, e)) u unfed t.1
own_told prefix p count pieces step.NoteAlways old new text rest u unfed t = stays_told (TellsOwn prefix p count pieces step.NoteAlways old new) text rest (λ a b e. (t.0, e)) u unfed t.1
own_told prefix p count pieces (step.One class) old new text rest u unfed t = stays_told (TellsOwn prefix p count pieces (step.One class) old new) text rest (λ a b e. (t.0, e)) u unfed t.1
own_told prefix p count pieces (step.Optional class) old new text rest u unfed t = stays_told (TellsOwn prefix p count pieces (step.Optional class) old new) text rest (λ a b e. (t.0, e)) u unfed t.1
own_told prefix p count pieces (step.Many class) old new text rest u unfed t = stays_told (TellsOwn prefix p count pieces (step.Many class) old new) text rest (λ a b e. (t.0, e)) u unfed t.1
own_told prefix p count pieces (step.Some class) old new text rest u unfed t = stays_told (TellsOwn prefix p count pieces (step.Some class) old new) text rest (λ a b e. (t.0, e)) u unfed t.1
own_told prefix p count pieces (step.Pairs first second) old new text rest u unfed t = stays_told (TellsOwn prefix p count pieces (step.Pairs first second) old new) text rest (λ a b e. (t.0, e)) u unfed t.1

-- a text without a line feed at its end: it begins what is expected with anything behind, or with a line feed
goes_own : (prefix : List ℕ) (count : ℕ) (s : template.Line) (text own : List ℕ) → IsUtf8 text → IsUnended text → IsUnended own → OwnGoesOn prefix count s text own
goes_own prefix count s text own u unfed left c t x = elim (own_way prefix c count s.1 s.0 text own u unfed t) [
  | inl k ↦ absurd (left (inl k.0))
  | inr g ↦ g.on x
]

-- it begins it with anything behind, or with a line feed behind it
starts_unended : (prefix : List ℕ) (g : Goal) (text : List ℕ) → IsUtf8 text → IsUnended text → Starts prefix g text → StartsOn prefix g text ⊎ Starts prefix g (text ++ 10 ∷ [])
starts_unended prefix _ _ u unfed (ended g text s) = inr (ended g (text ++ 10 ∷ []) (settled_past text [] s ∙ settled_none))
starts_unended prefix _ _ u unfed (in_part p text s) = elim (starts_unended prefix _ text u unfed s) [
  | inl d ↦ inl (in_part_on p text d)
  | inr d ↦ inr (in_part p (text ++ 10 ∷ []) d)
]
starts_unended prefix _ _ u unfed (in_own p old new count s others text more rest v t) = inl (in_own_on p old new count s others text more rest u v t)
starts_unended prefix _ _ u unfed (in_below p old new count s others text own t k) = elim (own_told prefix p count s.1 s.0 old new text own u unfed t) [
  | inl c ↦ inr (in_below p old new count s others (text ++ 10 ∷ []) c.1.behind c.1.takes (ended (below_step s.0) c.1.behind c.1.blank))
  | inr f ↦ elim (starts_unended prefix _ own f.utf8 f.unended k) [
    | inl d ↦ inl (in_below_on p old new count s others text own u t (goes_own prefix count s text own u unfed f.unended) d)
    | inr d ↦ inr (in_below p old new count s others (text ++ 10 ∷ []) (own ++ 10 ∷ []) f.fed d)
  ]
]
starts_unended prefix _ _ u unfed (behind_step p old new count s others now text own mid m t r k) =
    let next : Goal = steps_left p new (count + tree_count now) others in
    elim (own_told prefix p count s.1 s.0 old new text own u unfed t) [
      | inl c ↦
          let i = reads_idle prefix (trees now) own mid c.0 r in
          inr (behind_step p old new count s others now (text ++ 10 ∷ []) c.1.behind c.1.behind m c.1.takes (i.1 c.1.behind) (ended next c.1.behind c.1.blank))
      | inr f ↦ elim (reads_way prefix (trees now) own mid f.utf8 f.unended r) [
        | inl c ↦ inr (behind_step p old new count s others now (text ++ 10 ∷ []) (own ++ 10 ∷ []) c.1.behind m f.fed c.1.takes (ended next c.1.behind c.1.blank))
        | inr g ↦ elim (starts_unended prefix _ mid g.utf8 g.unended k) [
          | inl d ↦ inl (behind_step_on p old new count s others now text own mid u m t (goes_own prefix count s text own u unfed f.unended) g.on d)
          | inr d ↦ inr (behind_step p old new count s others now (text ++ 10 ∷ []) (own ++ 10 ∷ []) (mid ++ 10 ∷ []) m f.fed (g.on (10 ∷ [])) d)
        ]
      ]
    ]
starts_unended prefix _ _ u unfed (in_tree s f p text mid g r k) = elim (reads_way prefix (trees f) text mid u unfed r) [
  | inl c ↦ inr (in_tree s f p (text ++ 10 ∷ []) c.1.behind g c.1.takes (ended (one_part p) c.1.behind c.1.blank))
  | inr h ↦ elim (starts_unended prefix _ mid h.utf8 h.unended k) [
    | inl d ↦ inl (in_tree_on s f p text mid u g h.on d)
    | inr d ↦ inr (in_tree s f p (text ++ 10 ∷ []) (mid ++ 10 ∷ []) g (h.on (10 ∷ [])) d)
  ]
]

-- each text, with nothing or a line feed behind it
pub starts_through : (prefix : List ℕ) (g : Goal) (text : List ℕ) → IsUtf8 text → Starts prefix g text → (behind : List ℕ) × IsUtf8 behind × StartsOn prefix g (text ++ behind)
starts_through prefix g text u s =
    let as_is : StartsOn prefix g text → (behind : List ℕ) × IsUtf8 behind × StartsOn prefix g (text ++ behind) = λ d. ([], nothing_utf8, subst (λ (x : List ℕ). StartsOn prefix g x) (sym (append-nil text)) d) in
    elim (ended_or_not text) [
      | inl e ↦ as_is (starts_on prefix g text u e s)
      | inr unfed ↦ elim (starts_unended prefix g text u unfed s) [
        | inl d ↦ as_is d
        | inr d ↦ (10 ∷ [], feed_utf8, starts_on prefix g (text ++ 10 ∷ []) (IsUtf8-append text (10 ∷ []) u feed_utf8) (inr (text, refl)) d)
      ]
    ]
