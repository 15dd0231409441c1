-- A text whose cut doesn't end within it can be closed: behind what is put there the cut stops at what may end it.
use Rattle.std.proofs.Common.{◌≡◌, ℕ, zero, suc, ◌-◌, ◌<◌, ◌≤◌, List, [], ◌∷◌, ◌++◌, length, replicate, refl, sym, ap, ◌∙◌, subst, arith, inl, inr, append_assoc}
use Rattle.std.specs.Str.{IsAscii, IsUtf8, chars}
use Rattle.std.proofs.lemmas.Str.{chars-append, chars-IsAscii, IsAscii-append}
use Rattle.std.proofs.lemmas.Str.Ascii.{IsAscii-cons}
use Rattle.lp_tok.specs.declared.tok.ErrorCode.TheVariants.{ExpectedStringLiteral}
use Rattle.lp_tok.specs.Signs.{right_brace}
use Rattle.lp_tok.specs.CodePieces.{Piece, Whole, Fault, Nothing, kind_of, code_piece}
use Rattle.lp_tok.specs.Cut.{Splits, splits_none, splits_one, open_after, IsEnder, MayEnd, StopsAt, BreaksAt}
use Rattle.lp_tok.proofs.CutSteps.{IsReading, reading_none, reading_more, stops_at_piece, stops_at_end, breaks_at_piece, some_open}
use Rattle.lp_local.proofs.Cutting.{stops_told, breaks_told}
use Rattle.lp_local.proofs.Ending.{fault_closes, whole_before, piece_takes}
use Rattle.lp_local.proofs.Mending.{same_ascii}
use Rattle.lp_local.proofs.Piecing.{Told, piece_told, fault_told, IsUncounted, piece_class}

-- a cut that goes through a text: it stops nowhere before the end of it, nor breaks at what no text behind it mends
pub record GoesThrough (cs : List ℕ) : Type 0 where
  pub stops : (r : List ℕ) → StopsAt cs r → r ≡ []
  pub breaks : (c : ℕ) (r : List ℕ) → BreaksAt cs ExpectedStringLiteral (c ∷ r) → ⊥

-- as many closing brackets as brackets are open
abbrev closing : ℕ → List ℕ
closing n = replicate n right_brace

closing_ascii : (n : ℕ) → IsAscii (closing n)
closing_ascii n = same_ascii n right_brace (omega arith)

closing_stops : (n : ℕ) (cs z : List ℕ) → MayEnd z → IsReading cs (closing n ++ z) n → StopsAt cs z
closing_stops zero cs z e r = elim e [
  | inl p ↦ stops_at_piece cs z p.1 p.0 r p.2 p.3
  | inr nothing ↦ stops_at_end cs z r nothing
]
closing_stops (suc n) cs z e r =
    let fewer : suc n - 1 ≡ n = omega arith in
    let rest : List ℕ = closing n ++ z in
    let next : IsReading cs rest (suc n - 1) = reading_more cs (right_brace ∷ rest) rest (suc n) (kind_of right_brace) r refl (λ x. omega arith) in
    closing_stops n cs z e (subst (λ i. IsReading cs rest i) fewer next)

-- what is put behind a text in which n brackets are open
record Closed (n : ℕ) (x : List ℕ) : Type 0 where
  more : List ℕ
  ascii : IsAscii more
  stops : (cs z : List ℕ) → MayEnd z → IsReading cs (x ++ (more ++ z)) n → StopsAt cs z

-- a line feed and the brackets
feed_closing : (n : ℕ) (cs z : List ℕ) → MayEnd z → IsReading cs (10 ∷ (closing n ++ z)) n → StopsAt cs z
feed_closing n cs z e r = closing_stops n cs z e (reading_more cs (10 ∷ (closing n ++ z)) (closing n ++ z) n (kind_of 10) r refl (λ x. absurd x))

feed_ascii : (n : ℕ) → IsAscii (10 ∷ closing n)
feed_ascii n = IsAscii-cons 10 (closing n) (omega arith) (closing_ascii n)

nothing_left : (x : List ℕ) → code_piece x ≡ Nothing → x ≡ []
nothing_left [] h = refl
nothing_left (c ∷ x) h = elim (piece_class c) [
  | inl u ↦ absurd (subst IsUncounted h (u x))
  | inr w ↦
      let never : Whole (kind_of c) x ≡ Nothing = sym (w x) ∙ h in
      absurd cc
]

-- the piece in front doesn't end the cut
piece_goes : (all x next : List ℕ) (n : ℕ) (k : _) → (x ≡ [] → ⊥) → GoesThrough all → IsReading all x n → code_piece x ≡ Whole k next → IsEnder k → 0 < n
piece_goes all x next n k some g r h = some_open n k (λ e. some (g.stops x (stops_at_piece all x next k (subst (λ i. IsReading all x i) e.0 r) h e.1)))

closed_piece : (m : ℕ) (all x : List ℕ) (n : ℕ) (p : Piece) → (x ≡ [] → ⊥) → length x ≤ suc m → GoesThrough all → IsReading all x n → code_piece x ≡ p →
    ((y : List ℕ) (j : ℕ) → length y ≤ m → IsReading all y j → Closed j y) → Closed n x
closed_piece m all x n (Whole k []) some le g r h later =
    let goes : IsEnder k → 0 < n = piece_goes all x [] n k some g r h in
    let j : ℕ = open_after n k in
    record {
      more = 10 ∷ closing j;
      ascii = feed_ascii j;
      stops = λ cs z e s.
          let rest : List ℕ = closing j ++ z in
          feed_closing j cs z e (reading_more cs (x ++ 10 ∷ rest) (10 ∷ rest) n k s (whole_before k x rest h) goes);
    }
closed_piece m all x n (Whole k (d ∷ next)) some le g r h later =
    let goes : IsEnder k → 0 < n = piece_goes all x (d ∷ next) n k some g r h in
    let t : Told code_piece (Whole k) x (d ∷ next) = piece_told k x (d ∷ next) h in
    let short = piece_takes k x (d ∷ next) h in
    let c : Closed (open_after n k) (d ∷ next) = later (d ∷ next) (open_after n k) (omega (arith, short, le)) (reading_more all x (d ∷ next) n k r h goes) in
    record {
      more = c.more;
      ascii = c.ascii;
      stops = λ cs z e s.
          let behind : List ℕ = d ∷ (next ++ (c.more ++ z)) in
          let whole : x ++ (c.more ++ z) ≡ t.front ++ behind = ap (λ (y : List ℕ). y ++ (c.more ++ z)) t.whole ∙ append_assoc t.front (d ∷ next) (c.more ++ z) in
          c.stops cs z e (reading_more cs (x ++ (c.more ++ z)) behind n k s (ap code_piece whole ∙ t.again behind refl) goes);
    }
closed_piece m all x n (Fault code place) some le g r h later = elim (fault_closes code x place h) [
  | inl w ↦
      let breaks : BreaksAt all code place = breaks_at_piece all x place n code r h in
      absurd (g.breaks w.1 w.2 (subst (λ (y : List ℕ). BreaksAt all ExpectedStringLiteral y) w.3 (subst (λ e. BreaksAt all e place) w.0 breaks)))
  | inr c ↦
      record {
        more = c.end ++ 10 ∷ closing n;
        ascii = IsAscii-append c.end (10 ∷ closing n) c.ascii (feed_ascii n);
        stops = λ cs z e s.
            let rest : List ℕ = closing n ++ z in
            let whole : x ++ ((c.end ++ 10 ∷ closing n) ++ z) ≡ x ++ (c.end ++ 10 ∷ rest) = ap (λ (y : List ℕ). x ++ y) (append_assoc c.end (10 ∷ closing n) z) in
            feed_closing n cs z e (reading_more cs (x ++ (c.end ++ 10 ∷ rest)) (10 ∷ rest) n (kind_of 97) (subst (λ (y : List ℕ). IsReading cs y n) whole s) (c.again rest) (λ i. absurd i));
      }
]
closed_piece m all x n Nothing some le g r h later = absurd (some (nothing_left x h))

closed_within : (m : ℕ) (all x : List ℕ) (n : ℕ) → length x ≤ m → GoesThrough all → IsReading all x n → Closed n x
closed_within m all [] n le g r = record { more = closing n; ascii = closing_ascii n; stops = λ cs z e s. closing_stops n cs z e s }
closed_within zero all (c ∷ x) n le g r = absurd (omega (arith, le))
closed_within (suc m) all (c ∷ x) n le g r = closed_piece m all (c ∷ x) n (code_piece (c ∷ x)) (λ e. cc) le g r refl (λ y j short s. closed_within m all y j short g s)

-- what closes a text: behind it the cut stops at each piece that may end it
pub cut_closes : (x : List ℕ) → GoesThrough x → (more : List ℕ) × IsAscii more × ((z : List ℕ) → MayEnd z → StopsAt (x ++ (more ++ z)) z)
cut_closes x g =
    let c : Closed 0 x = closed_within (length x) x x 0 (omega arith) g (reading_none x) in
    (c.more, c.ascii, λ z e. c.stops (x ++ (c.more ++ z)) z e (reading_none (x ++ (c.more ++ z))))

-- the same in bytes
pub text_closes : (x : List ℕ) → IsUtf8 x → GoesThrough (chars x) → (more : List ℕ) × IsAscii more × ((z : List ℕ) → IsAscii z → MayEnd z → StopsAt (chars (x ++ (more ++ z))) (chars z))
text_closes x u g =
    let c = cut_closes (chars x) g in
    let of : (z : List ℕ) → IsAscii z → MayEnd z → StopsAt (chars (x ++ (c.0 ++ z))) (chars z) = λ z a e.
    let whole : chars (x ++ (c.0 ++ z)) ≡ chars x ++ (c.0 ++ z) = chars-append x (c.0 ++ z) u ∙ ap (λ (y : List ℕ). chars x ++ y) (chars-IsAscii (c.0 ++ z) (IsAscii-append c.0 z c.1 a)) in
    subst (λ (y : List ℕ). StopsAt y (chars z)) (sym whole) (subst (λ (y : List ℕ). StopsAt (chars x ++ (c.0 ++ z)) y) (sym (chars-IsAscii z a)) (c.2 z e)) in
    (c.0, c.1, of)

-- a front of pieces
splits_front : (cs rest : List ℕ) (ks : List _) → Splits cs ks rest → (front : List ℕ) × (cs ≡ front ++ rest)
splits_front _ _ _ (splits_none cs) = ([], refl)
splits_front cs rest _ (splits_one _ next _ k ks p s) =
    let t : Told code_piece (Whole k) cs next = piece_told k cs next p in
    let u = splits_front next rest ks s in
    (t.front ++ u.0, t.whole ∙ ap (λ (x : List ℕ). t.front ++ x) u.1 ∙ sym (append_assoc t.front u.0 rest))

-- a cut that stops within a text stops there whatever is behind it
pub stops_behind : (x y : List ℕ) (c : ℕ) (r : List ℕ) → StopsAt x (c ∷ r) → StopsAt (x ++ y) ((c ∷ r) ++ y)
stops_behind x y c r s =
    let f = splits_front x (c ∷ r) s.0 s.1.splits in
    let whole : f.0 ++ ((c ∷ r) ++ y) ≡ x ++ y = sym (append_assoc f.0 (c ∷ r) y) ∙ ap (λ (t : List ℕ). t ++ y) (sym f.1) in
    subst (λ (t : List ℕ). StopsAt t ((c ∷ r) ++ y)) whole (stops_told f.0 (c ∷ r) ((c ∷ r) ++ y) refl (subst (λ (t : List ℕ). StopsAt t (c ∷ r)) f.1 s))

-- the same of a cut that breaks there
pub breaks_behind : (x y : List ℕ) (c : ℕ) (r : List ℕ) → BreaksAt x ExpectedStringLiteral (c ∷ r) → BreaksAt (x ++ y) ExpectedStringLiteral ((c ∷ r) ++ y)
breaks_behind x y c r s =
    let f = splits_front x s.1 s.0 s.2.splits in
    let t : Told code_piece (Fault ExpectedStringLiteral) s.1 (c ∷ r) = fault_told s.1 (c ∷ r) s.3 in
    let all : x ≡ (f.0 ++ t.front) ++ (c ∷ r) = f.1 ∙ ap (λ (v : List ℕ). f.0 ++ v) t.whole ∙ sym (append_assoc f.0 t.front (c ∷ r)) in
    let front : List ℕ = f.0 ++ t.front in
    let whole : front ++ ((c ∷ r) ++ y) ≡ x ++ y = sym (append_assoc front (c ∷ r) y) ∙ ap (λ (v : List ℕ). v ++ y) (sym all) in
    subst (λ (v : List ℕ). BreaksAt v ExpectedStringLiteral ((c ∷ r) ++ y)) whole
    (breaks_told front (c ∷ r) ((c ∷ r) ++ y) refl (subst (λ (v : List ℕ). BreaksAt v ExpectedStringLiteral (c ∷ r)) all s))
