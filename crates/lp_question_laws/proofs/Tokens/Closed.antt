-- A pattern whose text meets the rule is closed with names in its holes.
use Rattle.std.proofs.Common.{◌≡◌, ℕ, zero, suc, ◌+◌, ◌<◌, ◌≤◌, ◌^◌, ◌==◌, Bool, true, false, ◌||◌, List, [], ◌∷◌, ◌++◌, length, drop, Option, Some, None, ◌⊎◌, inl, inr, refl, sym, ap, subst, ◌∙◌, arith, codes, decimal, if◌then◌else◌, append_assoc, length-append}
use Rattle.std.proofs.Math.Seq.{drop-append_seam}
use Rattle.std.proofs.lemmas.Fmt.{decimal_is_IsNumeral}
use Rattle.std.proofs.lemmas.Str.Parse.{digit_from_value}
use Rattle.std.specs.List.{flat_map}
use Rattle.std.specs.Str.Parse.{AllDigits}
use Rattle.lp_tok.specs.Scans.{from_char, from_unescaped, past}
use Rattle.lp_tok.specs.Signs.{quote, apostrophe, backslash}
use Rattle.lp_texts.specs.Brackets.{Onward, opens, closes, closer_of, open_after, step_over, Leads, leads_none, leads_one}
use Rattle.lp_texts.specs.OneLine.{is_wrong, outside, open_quote, open_bracket}
use Rattle.lp_texts.specs.Pattern.{joined, AnswersPattern}
use Rattle.lp_texts.specs.Quotes.{Piece, Quote, Unended, Single, Nothing, after_character, quote_piece, character_piece, apostrophe_piece, piece}
use Rattle.lp_texts.proofs.Leading.{step_fewer}
use Rattle.lp_spelling.specs.HoleEnds.{is_word}
use Rattle.lp_view.proofs.TextEnds.{leads_ends}
use Rattle.lp_table.specs.TokenLines.{capture_name, pieces_from, named_pieces}
use Rattle.lp_question_laws.specs.Tokens.Told.{IsClosed}
use Rattle.lp_question_laws.proofs.Tokens.Apart.{digit_word}
use Rattle.lp_question_laws.proofs.Tokens.FormOf.{AllWord, all_word}
use Rattle.lp_question_laws.proofs.Tokens.Moved.{Moved, piece_moved, word_ends, word_not}
use Rattle.lp_question_laws.proofs.Tokens.Outside.{split, holes_outside}
use Rattle.std.proofs.lemmas.Bool.{false_from_ne_true}

-- ---- ways through a text
leads_fewer : (s b t c : List ℕ) → Leads s b t c → length t ≤ length s
leads_fewer _ _ _ _ (leads_none s b) = omega arith
leads_fewer _ _ _ _ (leads_one s b next inner t c first more) = omega (arith, leads_fewer next inner t c more, step_fewer s b next inner first)

-- of two places the later lies on the way from the earlier
ahead : (s b r o t p : List ℕ) → Leads s b r o → Leads s b t p → length t ≤ length r → Leads r o t p
ahead _ _ _ _ t p (leads_none s b) way le = way
ahead _ _ r o _ _ (leads_one s b next inner _ _ first more) (leads_none _ _) le = absurd (omega (arith, leads_fewer next inner r o more, step_fewer s b next inner first))
ahead _ _ r o _ _ (leads_one s b next inner _ _ first more) (leads_one _ _ next' inner' t p first' more') le =
    let at : next' ≡ next = cc in
    let brackets : inner' ≡ inner = cc in
    ahead next inner r o t p more (subst (λ x. Leads x inner t p) at (subst (λ x. Leads next' x t p) brackets more')) le

-- a text that meets the rule from here on
record Good (s b : List ℕ) : Type 0 where
  right : (c : ℕ) (cs br : List ℕ) → Leads s b (c ∷ cs) br → is_wrong true br c cs ≡ false
  ended : (rest br : List ℕ) → Leads s b rest br → piece rest ≡ Unended → ⊥
  shut : (c : ℕ) (br : List ℕ) → Leads s b [] (c ∷ br) → ⊥

both_ways : (s b t c u d : List ℕ) → Leads s b t c → Leads t c u d → Leads s b u d
both_ways _ _ _ _ u d (leads_none s b) way = way
both_ways _ _ t c u d (leads_one s b next inner _ _ first more) way = leads_one s b next inner u d first (both_ways next inner t c u d more way)

good_later : (s b t c : List ℕ) → Good s b → Leads s b t c → Good t c
good_later s b t c h way = record {
  right = λ d ds br w. h.right d ds br (both_ways s b t c (d ∷ ds) br way w);
  ended = λ rest br w. h.ended rest br (both_ways s b t c rest br way w);
  shut = λ d br w. h.shut d br (both_ways s b t c [] (d ∷ br) way w);
}

good_pattern : (pieces : List (List ℕ)) → AnswersPattern pieces None → Good (joined pieces) []
good_pattern pieces h =
    let s = joined pieces in
    record {
      right = λ c cs br way.
          let ends = leads_ends s [] (c ∷ cs) br way in
          false_from_ne_true (is_wrong true br c cs) (λ wrong. h (length ends.0) (inl (outside c cs br (ap (drop (length ends.0)) ends.1 ∙ drop-append_seam ends.0 (c ∷ cs)) way wrong)));
      ended = λ rest br way e. h (length s) (inl (open_quote rest br refl way e));
      shut = λ c br way. h (length s) (inl (open_bracket c br refl way));
    }

-- ---- closed from here on
abbrev NoBar : List ℕ → List ℕ → Type 0
NoBar s b = (cs : List ℕ) → Leads s b (124 ∷ cs) [] → ⊥

record IsShut (s b : List ℕ) : Type 0 where
  whole : Leads s b [] []
  no_bar : NoBar s b

good_no_bar : (s b : List ℕ) → Good s b → NoBar s b
good_no_bar s b h cs way = (let no : true ≡ false = h.right 124 cs [] way in absurd cc)

-- a piece more in front of what is closed
step_shut : (c : ℕ) (cs b next inner : List ℕ) → step_over b (piece (c ∷ cs)) ≡ Onward next inner → ((c ≡ 124) → (b ≡ []) → ⊥) → IsShut next inner → IsShut (c ∷ cs) b
step_shut c cs b next inner first other h = record {
  whole = leads_one (c ∷ cs) b next inner [] [] first h.whole;
  no_bar = λ ds way. by ds (split (c ∷ cs) b (124 ∷ ds) [] way);
}
  where
    by : (ds : List ℕ) → (((c ∷ cs) ≡ 124 ∷ ds) × (b ≡ [])) ⊎ ((next' : List ℕ) × (inner' : List ℕ) × (step_over b (piece (c ∷ cs)) ≡ Onward next' inner') × Leads next' inner' (124 ∷ ds) []) → ⊥
    by ds (inl e) = (let same = e.0 in let first_byte : c ≡ 124 = cc in other first_byte e.1)
    by ds (inr r) =
        let both : Onward next inner ≡ Onward r.0 r.1 = sym first ∙ r.2 in
        let at : r.0 ≡ next = cc in
        let brackets : r.1 ≡ inner = cc in
        h.no_bar ds (subst (λ x. Leads x inner (124 ∷ ds) []) at (subst (λ x. Leads r.0 x (124 ∷ ds) []) brackets r.3))

-- bytes of words
word_open : (b : List ℕ) (c : ℕ) → is_word c ≡ true → open_after b c ≡ b
word_open b c w =
    let round = word_not c 40 w refl in
    let square = word_not c 91 w refl in
    let brace = word_not c 123 w refl in
    let round' = word_not c 41 w refl in
    let square' = word_not c 93 w refl in
    let brace' = word_not c 125 w refl in
    let no_open : opens c ≡ false = ap (λ t. t || ((c == 91) || (c == 123))) round ∙ ap (λ t. t || (c == 123)) square ∙ brace in
    let no_close : closes c ≡ false = ap (λ t. t || ((c == 93) || (c == 125))) round' ∙ ap (λ t. t || (c == 125)) square' ∙ brace' in
    ap (λ t. if t then (closer_of c ∷ b) else (if closes c then drop 1 b else b)) no_open ∙ ap (λ t. if t then drop 1 b else b) no_close

word_step : (b : List ℕ) (c : ℕ) (cs : List ℕ) → is_word c ≡ true → step_over b (piece (c ∷ cs)) ≡ Onward cs b
word_step b c cs w =
    ap (λ t. step_over b (if t then quote_piece (past quote (from_unescaped quote cs)) else (if c == apostrophe then apostrophe_piece cs else Single c cs))) (word_not c quote w refl)
    ∙ ap (λ t. step_over b (if t then apostrophe_piece cs else Single c cs)) (word_not c apostrophe w refl)
    ∙ ap (Onward cs) (word_open b c w)

word_shut : (w s b : List ℕ) → AllWord w → IsShut s b → IsShut (w ++ s) b
word_shut [] s b a h = h
word_shut (c ∷ cs) s b a h = step_shut c (cs ++ s) b (cs ++ s) b (word_step b c (cs ++ s) a.0) (λ e _. (let bad : true ≡ false = sym a.0 ∙ ap (λ k. is_word k) e in cc)) (word_shut cs s b a.1 h)

digits_word : (ds : List ℕ) → AllDigits 10 ds → AllWord ds
digits_word [] a = tt
digits_word (d ∷ ds) a = ((digit_word d (digit_from_value d a.0)).1, digits_word ds a.1)

name_word : (prefix : List ℕ) (k : ℕ) → AllWord prefix → k < 2 ^ 64 → AllWord (capture_name prefix k)
name_word prefix k w small = all_word prefix (codes "tok" ++ decimal k) w (all_word (codes "tok") (decimal k) (refl, (refl, (refl, tt))) (digits_word (decimal k) (decimal_is_IsNumeral k small).0.1))

-- ---- up to a hole
moved_step : (x y b next inner : List ℕ) (p q : Piece) → Moved x y p q → step_over b p ≡ Onward next inner → length x ≤ length next → (u : List ℕ) × (next ≡ u ++ x) × (step_over b q ≡ Onward (u ++ y) inner)
moved_step x y b next inner (Quote a) q (inl m) e le =
    let at : a ≡ next = cc in
    let brackets : b ≡ inner = cc in
    (m.0, sym at ∙ m.1, ap (step_over b) m.2 ∙ ap (Onward (m.0 ++ y)) brackets)
moved_step x y b next inner (Quote a) q (inr m) e le = (let at : a ≡ next = cc in absurd (omega (arith, m, ap length at)))
moved_step x y b next inner Unended q m e le = absurd cc
moved_step x y b next inner (Single c a) q m e le =
    let at : a ≡ next = cc in
    let brackets : open_after b c ≡ inner = cc in
    (m.0, sym at ∙ m.1, ap (step_over b) m.2 ∙ ap (Onward (m.0 ++ y)) brackets)
moved_step x y b next inner Nothing q m e le = absurd cc

module _ (n0 : ℕ) (pr rest js : List ℕ) (w : AllWord (n0 ∷ pr)) where
  abbrev hole : List ℕ
  hole = 95 ∷ js

  abbrev name : List ℕ
  name = n0 ∷ (pr ++ 116 ∷ rest)

  up_to_hole : (n : ℕ) (u b inner : List ℕ) → length u ≤ n → Good (u ++ hole) b → Leads (u ++ hole) b hole inner → IsShut name inner → IsShut (u ++ name) b
  up_to_hole n [] b inner le good way shut = by (split hole b hole inner way)
    where
      by : ((hole ≡ hole) × (b ≡ inner)) ⊎ ((next : List ℕ) × (mid : List ℕ) × (step_over b (piece hole) ≡ Onward next mid) × Leads next mid hole inner) → IsShut name b
      by (inl e) = subst (IsShut name) (sym e.1) shut
      by (inr r) = absurd (omega (arith, step_fewer hole b r.0 r.1 r.2, leads_fewer r.0 r.1 hole inner r.3))
  up_to_hole zero (c ∷ cs) b inner le good way shut = absurd (omega arith)
  up_to_hole (suc n) (c ∷ cs) b inner le good way shut = by (split (c ∷ (cs ++ hole)) b hole inner way) (λ u mid le good way. up_to_hole n u mid inner le good way shut)
    where
      by : (((c ∷ (cs ++ hole)) ≡ hole) × (b ≡ inner)) ⊎ ((next : List ℕ) × (mid : List ℕ) × (step_over b (piece (c ∷ (cs ++ hole))) ≡ Onward next mid) × Leads next mid hole inner)
          → ((u mid : List ℕ) → length u ≤ n → Good (u ++ hole) mid → Leads (u ++ hole) mid hole inner → IsShut (u ++ name) mid) → IsShut (c ∷ (cs ++ name)) b
      by (inl e) again = absurd (omega (arith, ap length e.0, length-append cs hole))
      by (inr r) again =
          let fewer = step_fewer (c ∷ (cs ++ hole)) b r.0 r.1 r.2 in
          let moved = piece_moved 95 js n0 (pr ++ 116 ∷ rest) refl refl (word_ends (n0 ∷ pr) rest w) refl (word_not n0 92 w.0 refl) (word_ends pr rest w.1) c cs in
          let m = moved_step hole name b r.0 r.1 (piece (c ∷ (cs ++ hole))) (piece (c ∷ (cs ++ name))) moved r.2 (leads_fewer r.0 r.1 hole inner r.3) in
          let short : length m.0 ≤ n = omega (arith, le, fewer, ap length m.1, length-append m.0 hole, length-append cs hole) in
          let good_next : Good r.0 r.1 = good_later (c ∷ (cs ++ hole)) b r.0 r.1 good (leads_one (c ∷ (cs ++ hole)) b r.0 r.1 r.0 r.1 r.2 (leads_none r.0 r.1)) in
          step_shut c (cs ++ name) b (m.0 ++ name) r.1 m.2
          (λ is none. (let bad : true ≡ false = subst (λ d. is_wrong true [] d (cs ++ hole) ≡ false) is (good.right c (cs ++ hole) [] (subst (λ o. Leads (c ∷ (cs ++ hole)) b (c ∷ (cs ++ hole)) o) none (leads_none (c ∷ (cs ++ hole)) b))) in cc))
          (again m.0 r.1 short (subst (λ t. Good t r.1) m.1 good_next) (subst (λ t. Leads t r.1 hole inner) m.1 r.3))

-- ---- all pieces
-- a text without open brackets that meets the rule leads to its end
NotNothing : Piece → Type 0
NotNothing (Quote a) = Unit {0}
NotNothing Unended = Unit {0}
NotNothing (Single c a) = Unit {0}
NotNothing Nothing = ⊥

some_quote : (o : Option (List ℕ)) → NotNothing (quote_piece o)
unfolding NotNothing
some_quote None = tt
some_quote (Some a) = tt

some_character : (cs : List ℕ) (o : Option (List ℕ)) → NotNothing (character_piece cs o)
unfolding NotNothing
some_character cs None = tt
some_character cs (Some a) = tt

some_apostrophe : (cs : List ℕ) → NotNothing (apostrophe_piece cs)
unfolding NotNothing
some_apostrophe [] = tt
some_apostrophe (c ∷ cs) = by (c == backslash)
  where
    by : (b : Bool) → NotNothing (if b then quote_piece (past apostrophe (from_char apostrophe cs)) else character_piece (c ∷ cs) (past apostrophe (after_character cs)))
    by true = some_quote (past apostrophe (from_char apostrophe cs))
    by false = some_character (c ∷ cs) (past apostrophe (after_character cs))

some_piece : (c : ℕ) (cs : List ℕ) → NotNothing (piece (c ∷ cs))
unfolding NotNothing
some_piece c cs = by (c == quote) (c == apostrophe)
  where
    by : (b e : Bool) → NotNothing (if b then quote_piece (past quote (from_unescaped quote cs)) else (if e then apostrophe_piece cs else Single c cs))
    by true e = some_quote (past quote (from_unescaped quote cs))
    by false true = some_apostrophe cs
    by false false = tt

step_on : (s b : List ℕ) (p : Piece) → piece s ≡ p → NotNothing p → (p ≡ Unended → ⊥) → (next : List ℕ) × (inner : List ℕ) × (step_over b (piece s) ≡ Onward next inner)
unfolding NotNothing
step_on s b (Quote a) is some ended = (a, b, ap (step_over b) is)
step_on s b Unended is some ended = absurd (ended refl)
step_on s b (Single c a) is some ended = (a, open_after b c, ap (step_over b) is)
step_on s b Nothing is some ended = absurd some

good_whole : (n : ℕ) (s b : List ℕ) → length s ≤ n → Good s b → Leads s b [] []
good_whole n [] [] le h = leads_none [] []
good_whole n [] (c ∷ br) le h = absurd (h.shut c br (leads_none [] (c ∷ br)))
good_whole zero (c ∷ cs) b le h = absurd (omega arith)
good_whole (suc n) (c ∷ cs) b le h =
    let s = c ∷ cs in
    let step = step_on s b (piece s) refl (some_piece c cs) (h.ended s b (leads_none s b)) in
    leads_one s b step.0 step.1 [] [] step.2 (good_whole n step.0 step.1 (omega (arith, le, step_fewer s b step.0 step.1 step.2)) (good_later s b step.0 step.1 h (leads_one s b step.0 step.1 step.0 step.1 step.2 (leads_none step.0 step.1))))

good_shut : (s b : List ℕ) → Good s b → IsShut s b
good_shut s b h = record { whole = good_whole (length s) s b (omega arith) h; no_bar = good_no_bar s b h }

-- what stands behind a piece, with `_` in the holes
abbrev behind : List (List ℕ) → List ℕ
behind ps = flat_map (λ y. codes "_" ++ y) ps

-- holes in front of these pieces, at which pieces of the whole text arrive
abbrev Outside : List ℕ → List (List ℕ) → Type 0
Outside s ps = (j : ℕ) → j < length ps → (brackets : List ℕ) × Leads s [] (codes "_" ++ joined (drop j ps)) brackets

module _ (n0 : ℕ) (pr : List ℕ) (w : AllWord (n0 ∷ pr)) where
  abbrev prefix : List ℕ
  prefix = n0 ∷ pr

  named_shut : (s : List ℕ) (k : ℕ) (u : List ℕ) (ps : List (List ℕ)) (b : List ℕ) → Good s [] → k + length ps < 2 ^ 64 → Leads s [] (u ++ behind ps) b → Outside s ps → IsShut (u ++ pieces_from prefix k ps) b
  named_shut s k u [] b good small way out = good_shut (u ++ []) b (good_later s [] (u ++ []) b good way)
  named_shut s k u (p ∷ ps) b good small way out =
      let at = out 0 (omega arith) in
      let inner = at.0 in
      let js = p ++ behind ps in
      let to_hole : Leads (u ++ (95 ∷ js)) b (95 ∷ js) inner = ahead s [] (u ++ (95 ∷ js)) b (95 ∷ js) inner way at.1 (omega (arith, length-append u (95 ∷ js))) in
      let behind_it : Leads s [] js inner = both_ways s [] (95 ∷ js) inner js inner at.1 (leads_one (95 ∷ js) inner js inner js inner refl (leads_none js inner)) in
      let later : IsShut (p ++ pieces_from prefix (k + 1) ps) inner = named_shut s (k + 1) p ps inner good (omega arith) behind_it (λ j lt. out (suc j) (omega arith)) in
      let y = p ++ pieces_from prefix (k + 1) ps in
      let rest = 111 ∷ 107 ∷ (decimal k ++ y) in
      let text : prefix ++ 116 ∷ rest ≡ pieces_from prefix k (p ∷ ps) =
      sym (append_assoc (capture_name prefix k) p (pieces_from prefix (k + 1) ps) ∙ append_assoc prefix (codes "tok" ++ decimal k) y ∙ ap (λ t. prefix ++ t) (append_assoc (codes "tok") (decimal k) y)) in
      let named : capture_name prefix k ++ y ≡ prefix ++ 116 ∷ rest = append_assoc prefix (codes "tok" ++ decimal k) y ∙ ap (λ t. prefix ++ t) (append_assoc (codes "tok") (decimal k) y) in
      let shut : IsShut (prefix ++ 116 ∷ rest) inner = subst (λ t. IsShut t inner) named (word_shut (capture_name prefix k) y inner (name_word prefix k w (omega arith)) later) in
      subst (λ t. IsShut (u ++ t) b) text (up_to_hole n0 pr rest js w (length u) u b inner (omega arith) (good_later s [] (u ++ (95 ∷ js)) b good way) to_hole shut)

-- names in the holes leave a pattern closed
pub closed_named : (prefix : List ℕ) (pieces : List (List ℕ)) → 0 < length prefix → AllWord prefix → length pieces < 2 ^ 64 → AnswersPattern pieces None → IsClosed (named_pieces prefix pieces)
closed_named [] pieces some w small rule = absurd (omega arith)
closed_named (n0 ∷ pr) [] some w small rule = (let s = good_shut [] [] (good_pattern [] rule) in record { whole = s.whole; no_bar = s.no_bar })
closed_named (n0 ∷ pr) (q ∷ ps) some w small rule =
    let s = joined (q ∷ ps) in
    let shut = named_shut n0 pr w s 0 q ps [] (good_pattern (q ∷ ps) rule) (omega arith) (leads_none s []) (λ j lt. holes_outside (q ∷ ps) rule (suc j) (omega arith) (omega arith)) in
    record { whole = shut.whole; no_bar = shut.no_bar }
