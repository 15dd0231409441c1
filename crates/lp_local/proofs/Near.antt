-- What is taken off what is left of a text is taken off another text in its place, up to the same line of the whole text.
use Rattle.std.proofs.Common.{◌≡◌, ℕ, ℤ, ◌+◌, ◌-◌, ◌<◌, suc, true, false, inl, inr, List, [], ◌∷◌, ◌++◌, length, drop, codes, Some, None, refl, sym, ap, ◌∙◌, subst, arith, eqb, append_assoc, append-nil}
use Rattle.std.specs.List.{starts_with}
use Rattle.std.specs.Str.{IsUtf8, chars}
use Rattle.std.proofs.lemmas.Bool.{both_ways}
use Rattle.lp_tok.specs.declared.tok.ErrorCode.TheVariants.{ExpectedStringLiteral}
use Rattle.lp_tok.specs.Cut.{StopsAt, BreaksAt}
use Rattle.lp_spelling.specs.Counting.{front_line, behind_line, feeds, settled}
use Rattle.lp_spelling.specs.TableReading.{entries, IsBroken}
use Rattle.lp_spelling.proofs.Reading.{starts_ok}
use Rattle.lp_local.specs.Agreeing.{first_lines, Agree, lines_before}
use Rattle.lp_local.specs.Beginning.{is_line_end}
use Rattle.lp_local.proofs.Agreeing.{feeds_feed, feeds-append, before_rest, before_on, agree_all, Shared, shared_front, split_first, line_behind, line_none, line_told, starts_shared}
use Rattle.lp_local.proofs.Settling.{Left, settled_left, behind_byte, from_byte, SettledShared, settled_shared}
use Rattle.lp_local.proofs.Codes.{CodeShared, code_shared, UseShared, use_shared}
use Rattle.lp_local.proofs.Back.{utf8_before, utf8_behind, code_back, UseBack, use_back, code_broken, use_broken}
use Rattle.lp_local.proofs.Tables.{EntriesShared, entries_shared, entries_left}
use Rattle.lp_local.proofs.Broken.{broken_left, entries_broken}

-- another text stands in the place of what is left of a text, and agrees with it up to the n-th line of the whole text
pub record Near (n : ℕ) (text left other : List ℕ) : Type 0 where
  pub is_left : Left text left
  pub utf8 : IsUtf8 other
  pub agree : Agree (n - lines_before text left) left other

-- a whole text, and the same text
pub near_whole : (n : ℕ) (text other : List ℕ) → IsUtf8 text → IsUtf8 other → Agree n text other → Near n text text other
near_whole n text other u v h =
    let all : n ≡ n - lines_before text text = omega arith in
    record { is_left = record { utf8 = u; front = []; whole = refl }; utf8 = v; agree = subst (λ i. Agree i text other) all h }

pub near_same : (n : ℕ) (text left : List ℕ) → Left text left → Near n text left left
near_same n text left l = record { is_left = l; utf8 = l.utf8; agree = refl }

-- what is left of what is left
pub left_again : (text left rest : List ℕ) → Left text left → Left left rest → Left text rest
left_again text left rest l r = record { utf8 = r.utf8; front = l.front ++ r.front; whole = l.whole ∙ ap (λ (x : List ℕ). l.front ++ x) r.whole ∙ sym (append_assoc l.front r.front rest) }

pub near_before : (text left rest : List ℕ) → Left text left → Left left rest → lines_before text rest ≡ lines_before text left + lines_before left rest
near_before text left rest l r = before_on l.front left r.front rest text l.whole r.whole

near_fewer : (n : ℕ) (text left rest : List ℕ) → Left text left → Left left rest → lines_before text rest < n → lines_before left rest < n - lines_before text left
near_fewer n text left rest l r lt = let e = near_before text left rest l r in omega (arith, e, lt)

near_agree : (n : ℕ) (text left rest other : List ℕ) → Left text left → Left left rest → Agree (n - lines_before text left - lines_before left rest) rest other → Agree (n - lines_before text rest) rest other
near_agree n text left rest other l r h =
    let e = near_before text left rest l r in
    let same : n - lines_before text left - lines_before left rest ≡ n - lines_before text rest = omega (arith, e) in
    subst (λ i. Agree i rest other) same h

-- where the n lines go past the end of the text, it is the same
pub near_end : (n : ℕ) (text left other : List ℕ) → Near n text left other → feeds text < n → left ≡ other
near_end n text left other near lt =
    let l : Left text left = near.is_left in
    let e : feeds text ≡ feeds l.front + feeds left = ap feeds l.whole ∙ feeds-append l.front left in
    agree_all (n - lines_before text left) left other (omega (arith, e, lt)) near.agree

-- a front that is taken off
pub record NearRest (n : ℕ) (text front rest other : List ℕ) : Type 0 where
  pub behind : List ℕ
  pub other_is : other ≡ front ++ behind
  pub near : Near n text rest behind

pub near_rest : (n : ℕ) (text left other front rest : List ℕ) → Near n text left other → left ≡ front ++ rest → IsUtf8 rest → lines_before text rest < n → NearRest n text front rest other
near_rest n text left other front rest near e u lt =
    let r : Left left rest = record { utf8 = u; front = front; whole = e } in
    let before : lines_before left rest ≡ feeds front = before_rest front rest left e in
    let few : lines_before left rest < n - lines_before text left = near_fewer n text left rest near.is_left r lt in
    let s : Shared (n - lines_before text left - feeds front) front rest other =
    shared_front (n - lines_before text left) front rest other (omega (arith, before, few)) (subst (λ (x : List ℕ). Agree (n - lines_before text left) x other) e near.agree) in
    let v : IsUtf8 front = utf8_before front rest (subst (λ (x : List ℕ). IsUtf8 x) e near.is_left.utf8) u in
    record {
      behind = s.rest;
      other_is = s.b_is;
      near = record {
        is_left = left_again text left rest near.is_left r;
        utf8 = utf8_behind front s.rest (subst (λ (x : List ℕ). IsUtf8 x) s.b_is near.utf8) v;
        agree = near_agree n text left rest s.rest near.is_left r (subst (λ i. Agree (n - lines_before text left - i) rest s.rest) (sym before) s.agree);
      };
    }

-- the text behind a line
behind_left : (t : List ℕ) → IsUtf8 t → Left t (behind_line t)
behind_left t u = elim (split_first t) [
  | inl none ↦
      let e : behind_line t ≡ [] = line_none t none in
      subst (λ (x : List ℕ). Left t x) (sym e) (record { utf8 = ([], (refl, refl)); front = t; whole = sym (append-nil t) })
  | inr f ↦
      let e : behind_line t ≡ f.rest = ap behind_line f.whole ∙ line_behind f.line f.rest f.within in
      let v : IsUtf8 (f.line ++ 10 ∷ f.rest) = subst (λ (x : List ℕ). IsUtf8 x) f.whole u in
      subst (λ (x : List ℕ). Left t x) (sym e) (record { utf8 = behind_byte f.line 10 f.rest (omega arith) v; front = f.line ++ 10 ∷ []; whole = f.whole ∙ sym (append_assoc f.line (10 ∷ []) f.rest) })
]

near_behind : (n : ℕ) (text left other : List ℕ) → Near n text left other → lines_before text left < n → Near n text (behind_line left) (behind_line other)
near_behind n text left other near lt =
    let b : Left left (behind_line left) = behind_left left near.is_left.utf8 in
    let c : Left other (behind_line other) = behind_left other near.utf8 in
    record {
      is_left = left_again text left (behind_line left) near.is_left b;
      utf8 = c.utf8;
      agree = elim (split_first left) [
        | inl none ↦ (
            let same : left ≡ other = agree_all (n - lines_before text left) left other (omega (arith, none, lt)) near.agree in
            ap (λ (x : List ℕ). first_lines (n - lines_before text (behind_line left)) (behind_line x)) same)
        | inr f ↦ (
            let e : behind_line left ≡ f.rest = ap behind_line f.whole ∙ line_behind f.line f.rest f.within in
            let one : feeds left ≡ feeds f.line + feeds (10 ∷ f.rest) = ap feeds f.whole ∙ feeds-append f.line (10 ∷ f.rest) in
            let two : feeds (10 ∷ f.rest) ≡ 1 + feeds f.rest = feeds_feed 10 f.rest refl in
            let three : feeds (behind_line left) ≡ feeds f.rest = ap feeds e in
            let none = f.within in
            let before : lines_before text (behind_line left) ≡ lines_before text left + lines_before left (behind_line left) = near_before text left (behind_line left) near.is_left b in
            let next : n - lines_before text left ≡ suc (n - lines_before text (behind_line left)) = omega (arith, one, two, three, none, before, lt) in
            let told = line_told (n - lines_before text (behind_line left)) left other (subst (λ i. Agree i left other) next near.agree) in
            told.behind)
      ];
    }

-- the next line that counts
pub record NearLine (n : ℕ) (text left other : List ℕ) : Type 0 where
  pub some : 0 < length (settled other)
  pub line : front_line (settled other) ≡ front_line (settled left)
  pub near : Near n text (settled left) (settled other)
  pub behind : Near n text (behind_line (settled left)) (behind_line (settled other))

pub near_line : (n : ℕ) (text left other : List ℕ) → Near n text left other → 0 < length (settled left) → lines_before text (settled left) < n → NearLine n text left other
near_line n text left other near some lt =
    let l : Left left (settled left) = settled_left left near.is_left.utf8 in
    let m : Left other (settled other) = settled_left other near.utf8 in
    let s : SettledShared (n - lines_before text left) left other =
    settled_shared (n - lines_before text left) left other near.is_left.utf8 some (near_fewer n text left (settled left) near.is_left l lt) near.agree in
    let here : Near n text (settled left) (settled other) = record {
      is_left = left_again text left (settled left) near.is_left l;
      utf8 = m.utf8;
      agree = near_agree n text left (settled left) (settled other) near.is_left l s.agree;
    } in
    record { some = s.some; line = s.line; near = here; behind = near_behind n text (settled left) (settled other) here lt }

-- no line that counts
pub near_none : (n : ℕ) (text left other : List ℕ) → Near n text left other → settled left ≡ [] → feeds text < n → settled other ≡ []
near_none n text left other near e lt = ap settled (sym (near_end n text left other near lt)) ∙ e

-- user code
pub record NearCode (n : ℕ) (text whole rest other : List ℕ) : Type 0 where
  pub behind : List ℕ
  pub other_is : other ≡ whole ++ behind
  pub stops : StopsAt (chars other) (chars behind)
  pub closes : starts_with eqb behind (codes "}") ≡ true
  pub near : Near n text rest behind

pub near_code : (n : ℕ) (text left other whole rest : List ℕ) → Near n text left other → left ≡ whole ++ rest → StopsAt (chars left) (chars rest) → starts_with eqb rest (codes "}") ≡ true → lines_before text rest < n →
    NearCode n text whole rest other
near_code n text left other whole rest near e stops closes lt =
    let brace : rest ≡ 125 ∷ drop 1 rest = starts_ok (codes "}") rest closes in
    let u : IsUtf8 (whole ++ 125 ∷ drop 1 rest) = subst (λ (x : List ℕ). IsUtf8 x) (e ∙ ap (λ (x : List ℕ). whole ++ x) brace) near.is_left.utf8 in
    let v : IsUtf8 rest = subst (λ (x : List ℕ). IsUtf8 x) (sym brace) (from_byte whole 125 (drop 1 rest) (omega arith) u) in
    let r : Left left rest = record { utf8 = v; front = whole; whole = e } in
    let s : CodeShared (n - lines_before text left) left whole rest other =
    code_shared (n - lines_before text left) left whole rest other near.is_left.utf8 e stops closes (near_fewer n text left rest near.is_left r lt) near.agree in
    let w : IsUtf8 s.other = utf8_behind whole s.other (subst (λ (x : List ℕ). IsUtf8 x) s.b_is near.utf8) (utf8_before whole rest (subst (λ (x : List ℕ). IsUtf8 x) e near.is_left.utf8) v) in
    record {
      behind = s.other;
      other_is = s.b_is;
      stops = s.stops;
      closes = s.closes;
      near = record { is_left = left_again text left rest near.is_left r; utf8 = w; agree = near_agree n text left rest s.other near.is_left r s.agree };
    }

-- none, where the cut stops elsewhere
pub near_no_code : (n : ℕ) (text left other x y : List ℕ) → Near n text left other → left ≡ x ++ y → IsUtf8 y → StopsAt (chars left) (chars y) → starts_with eqb y (codes "}") ≡ false → lines_before text y < n →
    (whole behind : List ℕ) → other ≡ whole ++ behind → StopsAt (chars other) (chars behind) → starts_with eqb behind (codes "}") ≡ true → ⊥
near_no_code n text left other x y near e u stops none lt whole behind f there closes =
    let r : Left left y = record { utf8 = u; front = x; whole = e } in
    let back = code_back (n - lines_before text left) left x y other whole behind near.is_left.utf8 near.utf8 e u stops (near_fewer n text left y near.is_left r lt) near.agree f there closes in
    both_ways (starts_with eqb y (codes "}")) none back.1

-- none, where the cut breaks at what no text behind it mends: the other cut stops nowhere
pub near_broken_code : (n : ℕ) (text left other x y : List ℕ) → Near n text left other → left ≡ x ++ y → IsUtf8 y → BreaksAt (chars left) ExpectedStringLiteral (chars y) → lines_before text y < n →
    (rest : List ℕ) → StopsAt (chars other) rest → ⊥
near_broken_code n text left other x y near e u breaks lt rest there =
    let r : Left left y = record { utf8 = u; front = x; whole = e } in
    code_broken (n - lines_before text left) left x y other rest near.is_left.utf8 e u breaks (near_fewer n text left y near.is_left r lt) near.agree there

-- uses
pub record NearUse (n : ℕ) (text used rest other : List ℕ) : Type 0 where
  pub behind : List ℕ
  pub front : settled other ≡ codes "use " ++ (used ++ (codes ";" ++ behind))
  pub stops : StopsAt (chars (used ++ (codes ";" ++ behind))) (chars (codes ";" ++ behind))
  pub ends : is_line_end behind ≡ true
  pub near : Near n text rest behind

use_left : (left used rest : List ℕ) → IsUtf8 left → settled left ≡ codes "use " ++ (used ++ (codes ";" ++ rest)) → Left left rest
use_left left used rest u e =
    let l : Left left (settled left) = settled_left left u in
    let whole : settled left ≡ (codes "use " ++ used) ++ 59 ∷ rest = e ∙ sym (append_assoc (codes "use ") used (codes ";" ++ rest)) in
    let v : IsUtf8 rest = behind_byte (codes "use " ++ used) 59 rest (omega arith) (subst (λ (x : List ℕ). IsUtf8 x) whole l.utf8) in
    left_again left (settled left) rest l (record { utf8 = v; front = (codes "use " ++ used) ++ 59 ∷ []; whole = whole ∙ sym (append_assoc (codes "use " ++ used) (59 ∷ []) rest) })

pub near_use : (n : ℕ) (text left other used rest : List ℕ) → Near n text left other → settled left ≡ codes "use " ++ (used ++ (codes ";" ++ rest)) →
    StopsAt (chars (used ++ (codes ";" ++ rest))) (chars (codes ";" ++ rest)) → is_line_end rest ≡ true → lines_before text rest < n → NearUse n text used rest other
near_use n text left other used rest near e stops ends lt =
    let r : Left left rest = use_left left used rest near.is_left.utf8 e in
    let s : UseShared (n - lines_before text left) left used rest other =
    use_shared (n - lines_before text left) left used rest other near.is_left.utf8 e stops ends (near_fewer n text left rest near.is_left r lt) near.agree in
    let w : Left other s.other = use_left other used s.other near.utf8 s.front in
    record {
      behind = s.other;
      front = s.front;
      stops = s.stops;
      ends = s.ends;
      near = record { is_left = left_again text left rest near.is_left r; utf8 = w.utf8; agree = near_agree n text left rest s.other near.is_left r s.agree };
    }

-- the next line that counts begins one in both texts, or in none
pub near_begins_use : (n : ℕ) (text left other : List ℕ) → Near n text left other → 0 < length (settled left) → lines_before text (settled left) < n → starts_with eqb (settled left) (codes "use ") ≡ starts_with eqb (settled other) (codes "use ")
near_begins_use n text left other near some lt =
    let l : NearLine n text left other = near_line n text left other near some lt in
    let next : n - lines_before text (settled left) ≡ suc (n - lines_before text (settled left) - 1) = omega (arith, lt) in
    starts_shared (n - lines_before text (settled left) - 1) (settled left) (settled other) (codes "use ") refl (subst (λ i. Agree i (settled left) (settled other)) next l.near.agree)

-- a use of the other text stands in this one too, where its cut stops
pub near_use_back : (n : ℕ) (text left other x y used behind : List ℕ) → Near n text left other → settled left ≡ codes "use " ++ (x ++ y) → IsUtf8 y → StopsAt (chars (x ++ y)) (chars y) → lines_before text y < n →
    settled other ≡ codes "use " ++ (used ++ (codes ";" ++ behind)) → StopsAt (chars (used ++ (codes ";" ++ behind))) (chars (codes ";" ++ behind)) → is_line_end behind ≡ true → UseBack x y used
near_use_back n text left other x y used behind near e u stops lt f there ends =
    let l : Left left (settled left) = settled_left left near.is_left.utf8 in
    let r : Left left y = left_again left (settled left) y l (record { utf8 = u; front = codes "use " ++ x; whole = e ∙ sym (append_assoc (codes "use ") x y) }) in
    use_back (n - lines_before text left) left x y other used behind near.is_left.utf8 near.utf8 e u stops (near_fewer n text left y near.is_left r lt) near.agree f there ends

-- none, where the cut behind `use ` breaks at what no text behind it mends
pub near_broken_use : (n : ℕ) (text left other x y : List ℕ) → Near n text left other → settled left ≡ codes "use " ++ (x ++ y) → IsUtf8 y → BreaksAt (chars (x ++ y)) ExpectedStringLiteral (chars y) → lines_before text y < n →
    (behind rest : List ℕ) → settled other ≡ codes "use " ++ behind → StopsAt (chars behind) rest → ⊥
near_broken_use n text left other x y near e u breaks lt behind rest f there =
    let l : Left left (settled left) = settled_left left near.is_left.utf8 in
    let r : Left left y = left_again left (settled left) y l (record { utf8 = u; front = codes "use " ++ x; whole = e ∙ sym (append_assoc (codes "use ") x y) }) in
    use_broken (n - lines_before text left) left x y other behind rest near.is_left.utf8 e u breaks (near_fewer n text left y near.is_left r lt) near.agree f there

-- tables
pub record NearTable (n : ℕ) (text : List ℕ) (numbers : List ℤ) (rest other : List ℕ) : Type 0 where
  pub behind : List ℕ
  pub reads : entries other ≡ Some (numbers, behind)
  pub near : Near n text rest behind

pub near_table : (n : ℕ) (text left other : List ℕ) (numbers : List ℤ) (rest : List ℕ) → Near n text left other → entries left ≡ Some (numbers, rest) → lines_before text rest < n → NearTable n text numbers rest other
near_table n text left other numbers rest near e lt =
    let r : Left left rest = entries_left left numbers rest near.is_left.utf8 e in
    let s : EntriesShared (n - lines_before text left) left other numbers rest = entries_shared (n - lines_before text left) left other numbers rest near.is_left.utf8 e (near_fewer n text left rest near.is_left r lt) near.agree in
    let w : Left other s.other = entries_left other numbers s.other near.utf8 s.reads in
    record {
      behind = s.other;
      reads = s.reads;
      near = record { is_left = left_again text left rest near.is_left r; utf8 = w.utf8; agree = near_agree n text left rest s.other near.is_left r s.agree };
    }

pub near_no_table : (n : ℕ) (text left other rest : List ℕ) → Near n text left other → IsBroken true left rest → lines_before text rest < n → entries other ≡ None
near_no_table n text left other rest near b lt =
    let r : Left left rest = broken_left true left rest near.is_left.utf8 b in
    entries_broken (n - lines_before text left) left other rest near.is_left.utf8 b (near_fewer n text left rest near.is_left r lt) near.agree
