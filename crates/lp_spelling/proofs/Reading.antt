-- Reading a line part by part.
use denote.Ref.{Bor}
use Rattle.std.proofs.Common.{◌≡◌, ℕ, ◌+◌, ◌<◌, ◌≤◌, Bool, true, false, cond, inl, inr, ⊎_elim, ◌⊎◌, List, [], ◌∷◌, ◌++◌, length, map, get_or, take, drop, Option, Some, None, refl, sym, ◌∙◌, ap, arith, eqb, ltb, append_assoc, append-nil, length-append, subst}
use Rattle.std.specs.List.{starts_with}
use Rattle.std.specs.Option.{MatchOption, option_copied}
use Rattle.std.specs.Str.{IsUtf8, IsCharBoundary}
use Rattle.std.specs.Str.Pattern.{FindsTextPrefix}
use Rattle.std.proofs.lemmas.Bool.{and_parts, and_from, eqb-true, eq-eqb, cond-true, cond-false, lt-ltb, le-ltb, cases_lt, false_from_ne_true, false≢true}
use Rattle.std.proofs.lemmas.List.{at_drop_more, at_drop_all, drop_at, get_or_append_left, get_or_push, length_push}
use Rattle.std.proofs.lemmas.Str.{IsCharBoundary-from_take}
use Rattle.lp_form.specs.declared.template.Kind.{Kind}
use Rattle.lp_form.specs.declared.template.Slot.{Slot}
use Rattle.lp_form.specs.declared.template.Slot.TheVariants.{Nothing, Prefix, Hole}
use Rattle.lp_form.specs.Templates.{Piece, piece}
use Rattle.lp_spelling.specs.Fillings.{Fills}
use Rattle.lp_spelling.specs.HoleEnds.{hole_len}
use Rattle.lp_spelling.specs.LineReading.{◌>>=◌, after, kind_of, new_at, slot_at, part_at, line_at, AllFill, ReadsSlot, ReadsLine}
use Rattle.lp_spelling.proofs.HoleSteps.{none}

-- options in a row
pub bind_some : {A B : Type 0} (o : Option A) (f : A → Option B) (y : B) → (o >>= f) ≡ Some y → (x : A) × (o ≡ Some x) × (f x ≡ Some y)
bind_some None f y h = cc
bind_some (Some x) f y h = (x, refl, h)

pub guard_some : {A : Type 0} (b : Bool) (o : Option A) (y : A) → cond b o None ≡ Some y → (b ≡ true) × (o ≡ Some y)
guard_some true o y h = (refl, h)
guard_some false o y h = cc

pub chosen : {A : Type 0} (b : Bool) (x y z : A) → cond b x y ≡ z → ((b ≡ true) × (x ≡ z)) ⊎ ((b ≡ false) × (y ≡ z))
chosen true x y z h = inl (refl, h)
chosen false x y z h = inr (refl, h)

pub first_of_some : {A B : Type 0} (a : A) (b : B) (x : A × B) → Some (a, b) ≡ Some x → a ≡ x.0
first_of_some a b x h = let e : (a, b) ≡ x = cc in ap (λ y. y.0) e

-- texts that begin with others
pub starts_ok : (s t : List ℕ) → starts_with eqb t s ≡ true → t ≡ s ++ drop (length s) t
starts_ok [] t h = refl
starts_ok (a ∷ s) [] h = absurd (false≢true h)
starts_ok (a ∷ s) (b ∷ t) h =
    let p = and_parts (eqb a b) (starts_with eqb t s) h in
    let e : a ≡ b = eqb-true a b p.0 in
    let r : t ≡ s ++ drop (length s) t = starts_ok s t p.1 in
    cc

pub starts_again : (s r : List ℕ) → starts_with eqb (s ++ r) s ≡ true
starts_again [] r = refl
starts_again (a ∷ s) r = and_from (eqb a a) (starts_with eqb (s ++ r) s) (eq-eqb a a refl) (starts_again s r)

pub after_ok : (front text rest : List ℕ) → after front text ≡ Some rest → text ≡ front ++ rest
unfolding after
after_ok front text rest h =
    let p = guard_some (starts_with eqb text front) (Some (drop (length front) text)) rest h in
    let e : drop (length front) text ≡ rest = cc in
    starts_ok front text p.0 ∙ ap (λ x. front ++ x) e

pub after_again : (front rest : List ℕ) → after front (front ++ rest) ≡ Some rest
unfolding after
after_again front rest = cond-true (starts_with eqb (front ++ rest) front) _ _ (starts_again front rest) ∙ ap (λ (x : List ℕ). Some x) (drop_at front rest (length front) refl)

-- what `strip_prefix` gives
pub stripped : (front text : List ℕ) (r : Option (Bor (List ℕ))) →
    MatchOption r (FindsTextPrefix front text None) (λ x. (n : ℕ) × FindsTextPrefix front text (Some n) × (x.now ≡ drop n text) × (length x.now + n ≡ length text)) →
    option_copied r ≡ after front text
unfolding after
stripped front text None h =
    let no : starts_with eqb text front ≡ false = false_from_ne_true _ (λ t. h (drop (length front) text) (starts_ok front text t)) in
    sym (cond-false (starts_with eqb text front) _ _ no)
stripped front text (Some x) h =
    let split : text ≡ front ++ drop h.0 text = h.1.1 in
    let yes : starts_with eqb text front ≡ true = ap (λ t. starts_with eqb t front) split ∙ starts_again front (drop h.0 text) in
    ap (λ (y : List ℕ). Some y) (h.2 ∙ ap (λ n. drop n text) h.1.0) ∙ sym (cond-true (starts_with eqb text front) _ _ yes)

pub copied_none : (r : Option (Bor (List ℕ))) (o : Option (List ℕ)) → r ≡ None → option_copied r ≡ o → o ≡ None
copied_none r o e h = sym h ∙ ap option_copied e

pub copied_some : (r : Option (Bor (List ℕ))) (x : Bor (List ℕ)) (o : Option (List ℕ)) → r ≡ Some x → option_copied r ≡ o → o ≡ Some x.now
copied_some r x o e h = sym h ∙ ap option_copied e

-- no hole is new
none_new : (prefix : List ℕ) (kinds : List Kind) (known : List (List ℕ)) → AllFill prefix kinds (length known) known
none_new prefix kinds known = λ k l m. absurd (omega arith)

-- a slot whose text is known
abbrev with_known : List (List ℕ) → Option (List ℕ) → Option (List (List ℕ) × List ℕ)
with_known known o = o >>= λ rest. Some (known, rest)

pub known_reads : (prefix : List ℕ) (kinds : List Kind) (known : List (List ℕ)) (front text : List ℕ) (r : Option (Bor (List ℕ))) → option_copied r ≡ after front text →
    ReadsSlot prefix kinds known known (after front text >>= λ rest. Some (known, rest)) r
known_reads prefix kinds known front text None h = λ x e f.
    let no : with_known known (after front text) ≡ None = ap (with_known known) (sym h) in
    cc (sym no ∙ e)
known_reads prefix kinds known front text (Some x) h =
    (ap (with_known known) (sym h), none_new prefix kinds known)

pub hole_reads : (prefix : List ℕ) (kinds : List Kind) (k : ℕ) (parts : List Piece) (known : List (List ℕ)) (text : List ℕ) (r : Option (Bor (List ℕ))) →
    k < length known → option_copied r ≡ after (get_or known k []) text → ReadsSlot prefix kinds known known (slot_at prefix kinds (Hole k) parts known text) r
unfolding slot_at
hole_reads prefix kinds k parts known text r lt h =
    subst (λ o. ReadsSlot prefix kinds known known o r) (sym (cond-true (ltb k (length known)) _ _ (lt-ltb k (length known) lt)))
    (known_reads prefix kinds known (get_or known k []) text r h)

pub prefix_reads : (prefix : List ℕ) (kinds : List Kind) (parts : List Piece) (known : List (List ℕ)) (text : List ℕ) (r : Option (Bor (List ℕ))) →
    option_copied r ≡ after prefix text → ReadsSlot prefix kinds known known (slot_at prefix kinds Prefix parts known text) r
unfolding slot_at
prefix_reads prefix kinds parts known text r h = known_reads prefix kinds known prefix text r h

pub nothing_reads : (prefix : List ℕ) (kinds : List Kind) (parts : List Piece) (known : List (List ℕ)) (text : Bor (List ℕ)) →
    ReadsSlot prefix kinds known known (slot_at prefix kinds Nothing parts known text.now) (Some text)
unfolding slot_at
nothing_reads prefix kinds parts known text = (refl, none_new prefix kinds known)

-- a hole behind the next one
pub far_reads : (prefix : List ℕ) (kinds : List Kind) (k : ℕ) (parts : List Piece) (known new : List (List ℕ)) (text : List ℕ) → length known < k →
    ReadsSlot prefix kinds known new (slot_at prefix kinds (Hole k) parts known text) None
unfolding slot_at
far_reads prefix kinds k parts known new text gt = λ x e f.
    let no : slot_at prefix kinds (Hole k) parts known text ≡ None
    = cond-false (ltb k (length known)) _ _ (le-ltb k (length known) (omega arith)) ∙ cond-true (ltb (length known) k) _ _ (lt-ltb (length known) k gt) in
    cc (sym no ∙ e)

-- the next hole
pub next_slot : (prefix : List ℕ) (kinds : List Kind) (k : ℕ) (parts : List Piece) (known : List (List ℕ)) (text : List ℕ) → k ≡ length known →
    slot_at prefix kinds (Hole k) parts known text ≡ new_at prefix kinds k parts known text
unfolding slot_at
next_slot prefix kinds k parts known text e =
    cond-false (ltb k (length known)) _ _ (le-ltb k (length known) (omega (arith, e))) ∙ cond-false (ltb (length known) k) _ _ (le-ltb (length known) k (omega (arith, e)))

-- what a new hole would hold fills it only if it may
new_fills : (prefix : List ℕ) (kinds : List Kind) (k : ℕ) (known : List (List ℕ)) (x : List ℕ) → k ≡ length known → AllFill prefix kinds (length known) (known ++ x ∷ []) → Fills prefix (kind_of kinds k) x
new_fills prefix kinds k known x e h =
    let at : get_or (known ++ x ∷ []) k [] ≡ x = get_or_push known x [] k (sym e) in
    subst (λ (y : List ℕ). Fills prefix (kind_of kinds k) y) at (h k (omega (arith, e)) (omega (arith, e, length_push known x)))

pub new_refused : (prefix : List ℕ) (kinds : List Kind) (k n : ℕ) (parts : List Piece) (known new : List (List ℕ)) (text : List ℕ) → k ≡ length known →
    n ≡ hole_len prefix (kind_of kinds k) k parts known text → (Fills prefix (kind_of kinds k) (take n text) → ⊥) → ReadsSlot prefix kinds known new (new_at prefix kinds k parts known text) None
unfolding new_at
new_refused prefix kinds k n parts known new text e len h = λ x read f.
    let m : ℕ = hole_len prefix (kind_of kinds k) k parts known text in
    let is : known ++ take m text ∷ [] ≡ x.0 = first_of_some (known ++ take m text ∷ []) (drop m text) x read in
    let all : AllFill prefix kinds (length known) (known ++ take m text ∷ []) = subst (λ y. AllFill prefix kinds (length known) y) (sym is) f in
    h (subst (λ i. Fills prefix (kind_of kinds k) (take i text)) (sym len) (new_fills prefix kinds k known (take m text) e all))

pub new_taken : (prefix : List ℕ) (kinds : List Kind) (k n : ℕ) (parts : List Piece) (known new : List (List ℕ)) (text front : List ℕ) (rest : Bor (List ℕ)) → k ≡ length known →
    n ≡ hole_len prefix (kind_of kinds k) k parts known text → front ≡ take n text → rest.now ≡ drop n text → new ≡ known ++ front ∷ [] → Fills prefix (kind_of kinds k) front →
    ReadsSlot prefix kinds known new (new_at prefix kinds k parts known text) (Some rest)
unfolding new_at
new_taken prefix kinds k n parts known new text front rest e len f r is fills =
    let m : ℕ = hole_len prefix (kind_of kinds k) k parts known text in
    let a : known ++ take m text ∷ [] ≡ new = ap (λ i. known ++ take i text ∷ []) (sym len) ∙ ap (λ (y : List ℕ). known ++ y ∷ []) (sym f) ∙ sym is in
    let b : drop m text ≡ rest.now = ap (λ i. drop i text) (sym len) ∙ sym r in
    let pair : (known ++ take m text ∷ [], drop m text) ≡ (new, rest.now) = ap (λ (y : List (List ℕ)). (y, drop m text)) a ∙ ap (λ (y : List ℕ). (new, y)) b in (
      ap (λ (y : List (List ℕ) × List ℕ). Some y) pair,
      λ i l lt.
          let there : i ≡ k = omega (arith, e, ap length is, length_push known front) in
          let at : get_or new i [] ≡ front = ap (λ y. get_or y i []) is ∙ get_or_push known front [] i (sym (there ∙ e)) in
          subst (λ j. Fills prefix (kind_of kinds j) (get_or new i [])) (sym there) (subst (λ (y : List ℕ). Fills prefix (kind_of kinds k) y) (sym at) fills),
    )

-- what is cut inside a character is no text
pub cut_wrong : (prefix : List ℕ) (kind : Kind) (text : List ℕ) (n : ℕ) → IsUtf8 text → n ≤ length text → (IsCharBoundary text n → ⊥) → Fills prefix kind (take n text) → ⊥
cut_wrong prefix kind text n u le h f = h (IsCharBoundary-from_take text n u le f.0)

-- holes that are known stay
pub slot_extends : (prefix : List ℕ) (kinds : List Kind) (slot : Slot) (parts : List Piece) (known : List (List ℕ)) (text : List ℕ) (x : List (List ℕ) × List ℕ) →
    slot_at prefix kinds slot parts known text ≡ Some x → (more : List (List ℕ)) × (x.0 ≡ known ++ more)
unfolding slot_at new_at
slot_extends prefix kinds Nothing parts known text x h = let e : known ≡ x.0 = first_of_some known text x h in ([], sym e ∙ sym (append-nil known))
slot_extends prefix kinds Prefix parts known text x h =
    let p = bind_some (after prefix text) (λ rest. Some (known, rest)) x h in
    let e : known ≡ x.0 = first_of_some known p.0 x p.2 in
    ([], sym e ∙ sym (append-nil known))
slot_extends prefix kinds (Hole k) parts known text x h =
    ⊎_elim
    (λ p.
    let q = bind_some (after (get_or known k []) text) (λ rest. Some (known, rest)) x p.1 in
    let e : known ≡ x.0 = first_of_some known q.0 x q.2 in
    ([], sym e ∙ sym (append-nil known)))
    (λ p.
    ⊎_elim
    (λ q. cc (q.1))
    (λ q.
    let n : ℕ = hole_len prefix (kind_of kinds k) k parts known text in
    let e : known ++ take n text ∷ [] ≡ x.0 = first_of_some (known ++ take n text ∷ []) (drop n text) x q.1 in
    (take n text ∷ [], sym e))
    (chosen (ltb (length known) k) None (new_at prefix kinds k parts known text) (Some x) p.1))
    (chosen (ltb k (length known)) _ _ (Some x) h)

pub line_extends : (prefix : List ℕ) (kinds : List Kind) (parts : List Piece) (known : List (List ℕ)) (text : List ℕ) (holes : List (List ℕ)) →
    line_at prefix kinds parts known text ≡ Some holes → (more : List (List ℕ)) × (holes ≡ known ++ more)
unfolding line_at
line_extends prefix kinds [] known text holes h =
    let p = guard_some (eqb (length text) 0) (Some known) holes h in
    let e : known ≡ holes = cc (p.1) in
    ([], sym e ∙ sym (append-nil known))
line_extends prefix kinds (p ∷ parts) known text holes h =
    let b = bind_some (part_at prefix kinds p parts known text) (λ x. line_at prefix kinds parts x.0 x.1) holes h in
    let a = bind_some (after p.0 text) (λ rest. slot_at prefix kinds p.1 parts known rest) b.0 b.1 in
    let s = slot_extends prefix kinds p.1 parts known a.0 b.0 a.2 in
    let r = line_extends prefix kinds parts b.0.0 b.0.1 holes b.2 in
    (s.0 ++ r.0, r.1 ∙ ap (λ y. y ++ r.0) s.1 ∙ append_assoc known s.0 r.0)

-- the parts that are left of a line
pub line_more : (prefix : List ℕ) (kinds : List Kind) (parts : List (Bor (List ℕ) × Slot)) (known : List (List ℕ)) (text : List ℕ) (i : ℕ) → i < length parts →
    line_at prefix kinds (map piece (drop i parts)) known text
    ≡ (part_at prefix kinds (piece (get_or parts i none)) (map piece (drop (i + 1) parts)) known text >>= λ x. line_at prefix kinds (map piece (drop (i + 1) parts)) x.0 x.1)
unfolding line_at
line_more prefix kinds parts known text i lt = at_drop_more (λ ps. line_at prefix kinds (map piece ps) known text) parts i none lt

pub line_over : (prefix : List ℕ) (kinds : List Kind) (parts : List (Bor (List ℕ) × Slot)) (known : List (List ℕ)) (text : List ℕ) (i : ℕ) → length parts ≤ i →
    line_at prefix kinds (map piece (drop i parts)) known text ≡ cond (eqb (length text) 0) (Some known) None
unfolding line_at
line_over prefix kinds parts known text i le = at_drop_all (λ ps. line_at prefix kinds (map piece ps) known text) parts i le

-- a line of which some parts are read: the others read the rest as all parts read the line
pub record Reading (prefix : List ℕ) (kinds : List Kind) (parts left : List Piece) (old known : List (List ℕ)) (line rest : List ℕ) : Type 0 where
  pub same : line_at prefix kinds left known rest ≡ line_at prefix kinds parts old line
  pub fills : AllFill prefix kinds (length old) known
  pub more : List (List ℕ)
  pub known_is : known ≡ old ++ more

pub reading_start : (prefix : List ℕ) (kinds : List Kind) (parts : List Piece) (old : List (List ℕ)) (line : List ℕ) → Reading prefix kinds parts parts old old line line
reading_start prefix kinds parts old line = record { same = refl; fills = none_new prefix kinds old; more = []; known_is = sym (append-nil old) }

-- the literal text doesn't stand there
pub reading_stops : (prefix : List ℕ) (kinds : List Kind) (all : List Piece) (parts : List (Bor (List ℕ) × Slot)) (old known new : List (List ℕ)) (line rest : List ℕ) (i : ℕ) → i < length parts →
    Reading prefix kinds all (map piece (drop i parts)) old known line rest → after (get_or parts i none).0.now rest ≡ None → ReadsLine prefix kinds old new (line_at prefix kinds all old line) false
reading_stops prefix kinds all parts old known new line rest i lt r e = λ holes read f.
    let left : List Piece = map piece (drop (i + 1) parts) in
    let no : line_at prefix kinds all old line ≡ None
    = sym r.same ∙ line_more prefix kinds parts known rest i lt
    ∙ ap (λ (o : Option (List ℕ)). (o >>= λ text. slot_at prefix kinds (get_or parts i none).1 left known text) >>= λ x. line_at prefix kinds left x.0 x.1) e in
    cc (sym no ∙ read)

-- the slot can't be read, or what is read may not stand in its hole
pub reading_refused : (prefix : List ℕ) (kinds : List Kind) (all : List Piece) (parts : List (Bor (List ℕ) × Slot)) (old known new mid : List (List ℕ)) (line rest text : List ℕ) (i : ℕ) → i < length parts →
    Reading prefix kinds all (map piece (drop i parts)) old known line rest → after (get_or parts i none).0.now rest ≡ Some text →
    ReadsSlot prefix kinds known mid (slot_at prefix kinds (get_or parts i none).1 (map piece (drop (i + 1) parts)) known text) None →
    ReadsLine prefix kinds old new (line_at prefix kinds all old line) false
reading_refused prefix kinds all parts old known new mid line rest text i lt r e s = λ holes read f.
    let left : List Piece = map piece (drop (i + 1) parts) in
    let slot : Slot = (get_or parts i none).1 in
    let there : (slot_at prefix kinds slot left known text >>= λ x. line_at prefix kinds left x.0 x.1) ≡ Some holes
    = sym (ap (λ (o : Option (List ℕ)). (o >>= λ text. slot_at prefix kinds slot left known text) >>= λ x. line_at prefix kinds left x.0 x.1) e)
    ∙ sym (line_more prefix kinds parts known rest i lt) ∙ r.same ∙ read in
    let b = bind_some (slot_at prefix kinds slot left known text) (λ x. line_at prefix kinds left x.0 x.1) holes there in
    let m = line_extends prefix kinds left b.0.0 b.0.1 holes b.2 in
    let size : length old ≤ length known = omega (arith, ap length r.known_is, length-append old r.more) in
    s b.0 b.1
    (λ k l lt2.
    let at : get_or holes k [] ≡ get_or b.0.0 k [] = ap (λ y. get_or y k []) m.1 ∙ get_or_append_left b.0.0 m.0 [] k lt2 in
    subst (λ (y : List ℕ). Fills prefix (kind_of kinds k) y) at (f k (omega (arith, size)) (omega (arith, ap length m.1, length-append b.0.0 m.0))))

-- a part more is read
pub reading_goes_on : (prefix : List ℕ) (kinds : List Kind) (all : List Piece) (parts : List (Bor (List ℕ) × Slot)) (old known new : List (List ℕ)) (line rest text : List ℕ) (after_it : Bor (List ℕ)) (i : ℕ) → i < length parts →
    Reading prefix kinds all (map piece (drop i parts)) old known line rest → after (get_or parts i none).0.now rest ≡ Some text →
    ReadsSlot prefix kinds known new (slot_at prefix kinds (get_or parts i none).1 (map piece (drop (i + 1) parts)) known text) (Some after_it) →
    Reading prefix kinds all (map piece (drop (i + 1) parts)) old new line after_it.now
reading_goes_on prefix kinds all parts old known new line rest text after_it i lt r e s =
    let left : List Piece = map piece (drop (i + 1) parts) in
    let slot : Slot = (get_or parts i none).1 in
    let m = slot_extends prefix kinds slot left known text (new, after_it.now) s.0 in
    let size : length new ≡ length known + length m.0 = ap length m.1 ∙ length-append known m.0 in
    record {
      same = sym (ap (λ (o : Option (List (List ℕ) × List ℕ)). o >>= λ x. line_at prefix kinds left x.0 x.1) s.0)
          ∙ sym (ap (λ (o : Option (List ℕ)). (o >>= λ text. slot_at prefix kinds slot left known text) >>= λ x. line_at prefix kinds left x.0 x.1) e)
          ∙ sym (line_more prefix kinds parts known rest i lt) ∙ r.same;
      fills = λ k l lt2.
          ⊎_elim
          (λ (small : k < length known).
          let at : get_or new k [] ≡ get_or known k [] = ap (λ y. get_or y k []) m.1 ∙ get_or_append_left known m.0 [] k small in
          subst (λ (y : List ℕ). Fills prefix (kind_of kinds k) y) (sym at) (r.fills k l small))
          (λ (large : length known ≤ k). s.1 k large lt2)
          (cases_lt k (length known));
      more = r.more ++ m.0;
      known_is = m.1 ∙ ap (λ y. y ++ m.0) r.known_is ∙ append_assoc old r.more m.0;
    }

-- all parts are read
pub reading_ends : (prefix : List ℕ) (kinds : List Kind) (all : List Piece) (parts : List (Bor (List ℕ) × Slot)) (old known : List (List ℕ)) (line rest : List ℕ) (i : ℕ) (b : Bool) → length parts ≤ i →
    Reading prefix kinds all (map piece (drop i parts)) old known line rest → b ≡ eqb (length rest) 0 → ReadsLine prefix kinds old known (line_at prefix kinds all old line) b
reading_ends prefix kinds all parts old known line rest i true le r e =
    (sym r.same ∙ line_over prefix kinds parts known rest i le ∙ cond-true (eqb (length rest) 0) _ _ (sym e), r.fills)
reading_ends prefix kinds all parts old known line rest i false le r e = λ holes read f.
    let no : line_at prefix kinds all old line ≡ None = sym r.same ∙ line_over prefix kinds parts known rest i le ∙ cond-false (eqb (length rest) 0) _ _ (sym e) in
    cc (sym no ∙ read)

-- what fills the holes of a line that was read
pub reads_true : (prefix : List ℕ) (kinds : List Kind) (old new : List (List ℕ)) (read : Option (List (List ℕ))) (b : Bool) → b ≡ true → ReadsLine prefix kinds old new read b → AllFill prefix kinds (length old) new
reads_true prefix kinds old new read true e h = h.1
reads_true prefix kinds old new read false e h = absurd (false≢true e)
