-- Where the cut of a text stops on one of its first lines, user code and uses of a text that agrees on these stand in the first one too.
use Rattle.std.proofs.Common.{◌≡◌, ℕ, ◌+◌, ◌-◌, ◌<◌, suc, true, List, ◌∷◌, ◌++◌, length, drop, codes, refl, sym, ap, ◌∙◌, subst, arith, eqb, length-append}
use Rattle.std.specs.List.{starts_with}
use Rattle.std.specs.Str.{IsUtf8, IsCharBoundary, chars, encode_utf8_all}
use Rattle.std.proofs.lemmas.List.{append_cancel_right, take_at, drop_at}
use Rattle.std.proofs.lemmas.Str.{encodes-chars, IsUtf8-take, IsUtf8-drop, IsCharBoundary-at_seam, IsCharBoundary-from_take}
use Rattle.lp_tok.specs.declared.tok.ErrorCode.TheVariants.{ExpectedStringLiteral}
use Rattle.lp_tok.specs.Cut.{StopsAt, BreaksAt}
use Rattle.lp_tok.proofs.CutSteps.{stops_same, stops_breaks}
use Rattle.lp_spelling.specs.Counting.{feeds, settled}
use Rattle.lp_spelling.proofs.Reading.{starts_ok}
use Rattle.lp_local.specs.Agreeing.{Agree, lines_before}
use Rattle.lp_local.specs.Beginning.{is_line_end}
use Rattle.lp_local.proofs.Agreeing.{feeds-append, before_rest, agree_back, agree_behind, Shared, shared_front, starts_shared}
use Rattle.lp_local.proofs.Settling.{Left, settled_left, behind_byte, from_byte, SettledShared, settled_shared}
use Rattle.lp_local.proofs.Codes.{CutShared, cut_shared, BreakShared, break_shared, line_end_shared}

-- two parts of a text, of which one is of whole characters
pub utf8_before : (x y : List ℕ) → IsUtf8 (x ++ y) → IsUtf8 y → IsUtf8 x
utf8_before x y u v = subst (λ (t : List ℕ). IsUtf8 t) (take_at x y (length x) refl) (IsUtf8-take (x ++ y) (length x) u (IsCharBoundary-at_seam (x ++ y) x y refl v))

pub utf8_behind : (x y : List ℕ) → IsUtf8 (x ++ y) → IsUtf8 x → IsUtf8 y
utf8_behind x y u v =
    let size = length-append x y in
    let cut : IsCharBoundary (x ++ y) (length x) = IsCharBoundary-from_take (x ++ y) (length x) u (omega (arith, size)) (subst (λ (t : List ℕ). IsUtf8 t) (sym (take_at x y (length x) refl)) v) in
    subst (λ (t : List ℕ). IsUtf8 t) (drop_at x y (length x) refl) (IsUtf8-drop (x ++ y) (length x) u cut)

same_text : (a b : List ℕ) → IsUtf8 a → IsUtf8 b → chars a ≡ chars b → a ≡ b
same_text a b u v e = sym (encodes-chars a u) ∙ ap encode_utf8_all e ∙ encodes-chars b v

-- a cut stops behind the same in both texts
pub record SameCut (n : ℕ) (whole rest x y : List ℕ) : Type 0 where
  pub same : x ≡ whole
  pub agree : Agree (n - feeds whole) rest y

pub cut_back : (n : ℕ) (whole rest b x y : List ℕ) → IsUtf8 whole → IsUtf8 rest → IsUtf8 b → IsUtf8 y → feeds whole < n → StopsAt (chars (whole ++ rest)) (chars rest) → Agree n (whole ++ rest) b →
    b ≡ x ++ y → StopsAt (chars b) (chars y) → SameCut n whole rest x y
cut_back n whole rest b x y u v ub uy lt stops h e there =
    let s : CutShared n whole rest b = cut_shared n whole rest b u v lt stops h in
    let w : IsUtf8 s.other = utf8_behind whole s.other (subst (λ (t : List ℕ). IsUtf8 t) s.b_is ub) u in
    let behind : s.other ≡ y = same_text s.other y w uy (stops_same (chars b) (chars s.other) (chars y) s.stops there) in
    record {
      same = append_cancel_right x whole y (sym e ∙ s.b_is ∙ ap (λ (t : List ℕ). whole ++ t) behind);
      agree = subst (λ (t : List ℕ). Agree (n - feeds whole) rest t) behind s.agree;
    }

-- user code of the other text
pub code_back : (n : ℕ) (left x y b whole other : List ℕ) → IsUtf8 left → IsUtf8 b → left ≡ x ++ y → IsUtf8 y → StopsAt (chars left) (chars y) → lines_before left y < n → Agree n left b →
    b ≡ whole ++ other → StopsAt (chars b) (chars other) → starts_with eqb other (codes "}") ≡ true → (whole ≡ x) × (starts_with eqb y (codes "}") ≡ true)
code_back n left x y b whole other u ub e v stops lt h f there closes =
    let brace : other ≡ 125 ∷ drop 1 other = starts_ok (codes "}") other closes in
    let w : IsUtf8 other
    = subst (λ (t : List ℕ). IsUtf8 t) (sym brace) (from_byte whole 125 (drop 1 other) (omega arith) (subst (λ (t : List ℕ). IsUtf8 t) (f ∙ ap (λ (t : List ℕ). whole ++ t) brace) ub)) in
    let before : lines_before left y ≡ feeds x = before_rest x y left e in
    let s : SameCut n x y whole other =
    cut_back n x y b whole other (utf8_before x y (subst (λ (t : List ℕ). IsUtf8 t) e u) v) v ub w (omega (arith, before, lt)) (subst (λ (t : List ℕ). StopsAt (chars t) (chars y)) e stops)
    (subst (λ (t : List ℕ). Agree n t b) e h) f there in
    let next : n - feeds x ≡ suc (n - feeds x - 1) = omega (arith, before, lt) in
    let same : starts_with eqb y (codes "}") ≡ starts_with eqb other (codes "}") = starts_shared (n - feeds x - 1) y other (codes "}") refl (subst (λ i. Agree i y other) next s.agree) in
    (s.same, same ∙ closes)

-- a use of the other text
pub record UseBack (x y used : List ℕ) : Type 0 where
  pub same : used ≡ x
  pub rest : List ℕ
  pub closed : y ≡ codes ";" ++ rest
  pub ends : is_line_end rest ≡ true

pub use_back : (n : ℕ) (left x y b used rest : List ℕ) → IsUtf8 left → IsUtf8 b → settled left ≡ codes "use " ++ (x ++ y) → IsUtf8 y → StopsAt (chars (x ++ y)) (chars y) → lines_before left y < n → Agree n left b →
    settled b ≡ codes "use " ++ (used ++ (codes ";" ++ rest)) → StopsAt (chars (used ++ (codes ";" ++ rest))) (chars (codes ";" ++ rest)) → is_line_end rest ≡ true → UseBack x y used
use_back n left x y b used rest u ub e v stops lt h f there ends =
    let w : List ℕ = used ++ (codes ";" ++ rest) in
    let l : Left left (settled left) = settled_left left u in
    let one : feeds left ≡ feeds l.front + feeds (settled left) = ap feeds l.whole ∙ feeds-append l.front (settled left) in
    let two : feeds (settled left) ≡ feeds (codes "use ") + feeds (x ++ y) = ap feeds e ∙ feeds-append (codes "use ") (x ++ y) in
    let three : feeds (x ++ y) ≡ feeds x + feeds y = feeds-append x y in
    let none : feeds (codes "use ") ≡ 0 = refl in
    let size : length (settled left) ≡ length (codes "use ") + length (x ++ y) = ap length e ∙ length-append (codes "use ") (x ++ y) in
    let four : length (codes "use ") ≡ 4 = refl in
    let s : SettledShared n left b = settled_shared n left b u (omega (arith, size, four)) (omega (arith, one, two, three, lt)) h in
    let k : ℕ = n - lines_before left (settled left) in
    let both : Agree k (codes "use " ++ (x ++ y)) (codes "use " ++ w) = subst (λ (t : List ℕ). Agree k (codes "use " ++ (x ++ y)) t) f (subst (λ (t : List ℕ). Agree k t (settled b)) e s.agree) in
    let agree : Agree (k - feeds (codes "use ")) (x ++ y) w = agree_behind k (codes "use ") (x ++ y) w (omega (arith, one, two, three, none, lt)) both in
    let m : ℕ = k - feeds (codes "use ") in
    let ux : IsUtf8 (x ++ y) = behind_byte (codes "use") 32 (x ++ y) (omega arith) (subst (λ (t : List ℕ). IsUtf8 t) e s.utf8) in
    let lb : Left b (settled b) = settled_left b ub in
    let uw : IsUtf8 w = behind_byte (codes "use") 32 w (omega arith) (subst (λ (t : List ℕ). IsUtf8 t) f lb.utf8) in
    let c : SameCut m x y used (codes ";" ++ rest) =
    cut_back m x y w used (codes ";" ++ rest) (utf8_before x y ux v) v uw (from_byte used 59 rest (omega arith) uw) (omega (arith, one, two, three, none, lt)) stops agree refl there in
    let j : ℕ = m - feeds x in
    let semicolon : feeds (codes ";") ≡ 0 = refl in
    let q : Shared (j - feeds (codes ";")) (codes ";") rest y
    = shared_front j (codes ";") rest y (omega (arith, one, two, three, none, semicolon, lt)) (agree_back j y (codes ";" ++ rest) c.agree) in
    let next : j - feeds (codes ";") ≡ suc (j - 1) = omega (arith, one, two, three, none, semicolon, lt) in
    record {
      same = c.same;
      rest = q.rest;
      closed = q.b_is;
      ends = sym (line_end_shared (j - 1) rest q.rest (subst (λ i. Agree i rest q.rest) next q.agree)) ∙ ends;
    }

-- where the cut breaks on one of the first lines, at what no text behind it mends, the other text's cut breaks there too, and stops nowhere
pub code_broken : (n : ℕ) (left x y b rest : List ℕ) → IsUtf8 left → left ≡ x ++ y → IsUtf8 y → BreaksAt (chars left) ExpectedStringLiteral (chars y) → lines_before left y < n → Agree n left b → StopsAt (chars b) rest → ⊥
code_broken n left x y b rest u e v breaks lt h there =
    let before : lines_before left y ≡ feeds x = before_rest x y left e in
    let s : BreakShared n x y b =
    break_shared n x y b (utf8_before x y (subst (λ (t : List ℕ). IsUtf8 t) e u) v) v (omega (arith, before, lt)) (subst (λ (t : List ℕ). BreaksAt (chars t) ExpectedStringLiteral (chars y)) e breaks)
    (subst (λ (t : List ℕ). Agree n t b) e h) in
    stops_breaks (chars b) rest (chars s.other) ExpectedStringLiteral there s.breaks

-- behind `use `
pub use_broken : (n : ℕ) (left x y b w rest : List ℕ) → IsUtf8 left → settled left ≡ codes "use " ++ (x ++ y) → IsUtf8 y → BreaksAt (chars (x ++ y)) ExpectedStringLiteral (chars y) → lines_before left y < n → Agree n left b →
    settled b ≡ codes "use " ++ w → StopsAt (chars w) rest → ⊥
use_broken n left x y b w rest u e v breaks lt h f there =
    let l : Left left (settled left) = settled_left left u in
    let one : feeds left ≡ feeds l.front + feeds (settled left) = ap feeds l.whole ∙ feeds-append l.front (settled left) in
    let two : feeds (settled left) ≡ feeds (codes "use ") + feeds (x ++ y) = ap feeds e ∙ feeds-append (codes "use ") (x ++ y) in
    let three : feeds (x ++ y) ≡ feeds x + feeds y = feeds-append x y in
    let none : feeds (codes "use ") ≡ 0 = refl in
    let size : length (settled left) ≡ length (codes "use ") + length (x ++ y) = ap length e ∙ length-append (codes "use ") (x ++ y) in
    let four : length (codes "use ") ≡ 4 = refl in
    let s : SettledShared n left b = settled_shared n left b u (omega (arith, size, four)) (omega (arith, one, two, three, lt)) h in
    let k : ℕ = n - lines_before left (settled left) in
    let both : Agree k (codes "use " ++ (x ++ y)) (codes "use " ++ w) = subst (λ (t : List ℕ). Agree k (codes "use " ++ (x ++ y)) t) f (subst (λ (t : List ℕ). Agree k t (settled b)) e s.agree) in
    let agree : Agree (k - feeds (codes "use ")) (x ++ y) w = agree_behind k (codes "use ") (x ++ y) w (omega (arith, one, two, three, none, lt)) both in
    let ux : IsUtf8 (x ++ y) = behind_byte (codes "use") 32 (x ++ y) (omega arith) (subst (λ (t : List ℕ). IsUtf8 t) e s.utf8) in
    code_broken (k - feeds (codes "use ")) (x ++ y) x y w rest ux refl v breaks (omega (arith, one, two, three, none, lt)) agree there
