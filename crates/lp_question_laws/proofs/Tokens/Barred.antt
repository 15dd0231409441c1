-- Closed patterns that are joined by bars are parted there.
use Rattle.std.proofs.Common.{◌≡◌, ℕ, zero, suc, ◌+◌, ◌-◌, ◌<◌, ◌==◌, Bool, true, false, ◌&&◌, List, [], ◌∷◌, ◌++◌, length, take, Option, Some, None, refl, sym, ap, subst, ◌∙◌, arith, codes, append_assoc, append-nil, length-append, if◌then◌else◌}
use Rattle.std.proofs.Math.Bool.{and-false}
use Rattle.std.proofs.Math.Seq.{take-append_seam}
use Rattle.std.proofs.lemmas.Bool.{eqb-true}
use Rattle.std.specs.List.{flat_map}
use Rattle.std.specs.Prelude.{nat_eq}
use Rattle.lp_tok.specs.Scans.{from_char, from_unescaped, past}
use Rattle.lp_tok.specs.Signs.{quote, apostrophe, backslash}
use Rattle.lp_texts.specs.Brackets.{Step, Onward, open_after, step_over, Leads, leads_none, leads_one}
use Rattle.lp_texts.specs.Quotes.{Piece, Quote, Unended, Single, Nothing, goes_on, after_character, quote_piece, character_piece, apostrophe_piece, piece}
use Rattle.lp_texts.proofs.Leading.{step_fewer}
use Rattle.lp_build.specs.Built.{barred}
use Rattle.lp_view.specs.Elements.{elements_within, is_bar, bar_after, bar_within, from_bar, before_rest, behind_rest, before_bar, behind_bar, patterns}
use Rattle.lp_question_laws.specs.Tokens.Told.{IsClosed}

-- a bar, and what stands behind it
abbrev pub tail : List ℕ → List ℕ
tail r = 32 ∷ 124 ∷ 32 ∷ r

-- ---- pieces in front of a bar are the same
-- what is found in a text is found in a longer one
abbrev Found : List ℕ → Option (List ℕ) → Option (List ℕ) → Type 0
Found m None o = Unit {0}
Found m (Some after) o = o ≡ Some (after ++ m)

-- and what isn't found there, isn't
abbrev Exact : List ℕ → Option (List ℕ) → Option (List ℕ) → Type 0
Exact m None o = o ≡ None
Exact m (Some after) o = o ≡ Some (after ++ m)

abbrev More : List ℕ → Piece → Piece → Type 0
More m (Quote after) p = p ≡ Quote (after ++ m)
More m Unended p = Unit {0}
More m (Single c after) p = p ≡ Single c (after ++ m)
More m Nothing p = Unit {0}

past_exact : (m : List ℕ) (c d : ℕ) (ds : List ℕ) → Exact m (past c (d ∷ ds)) (past c (d ∷ (ds ++ m)))
past_exact m c d ds = by (d == c)
  where
    by : (t : Bool) → Exact m (if t then Some ds else None) (if t then Some (ds ++ m) else None)
    by true = refl
    by false = refl

found_by : (m : List ℕ) (o p : Option (List ℕ)) → Exact m o p → Found m o p
found_by m None p e = tt
found_by m (Some after) p e = e

char_found : (m : List ℕ) (c : ℕ) (cs : List ℕ) → Found m (past c (from_char c cs)) (past c (from_char c (cs ++ m)))
char_found m c [] = tt
char_found m c (d ∷ cs) = by (d == c) (char_found m c cs)
  where
    by : (t : Bool) → Found m (past c (from_char c cs)) (past c (from_char c (cs ++ m))) → Found m (past c (if t then (d ∷ cs) else from_char c cs)) (past c (if t then (d ∷ (cs ++ m)) else from_char c (cs ++ m)))
    by true ih = found_by m (past c (d ∷ cs)) (past c (d ∷ (cs ++ m))) (past_exact m c d cs)
    by false ih = ih

string_found : (r : List ℕ) (q : ℕ) (cs : List ℕ) → Found (tail r) (past q (from_unescaped q cs)) (past q (from_unescaped q (cs ++ tail r)))
string_found r q [] = tt
string_found r q (c ∷ []) = by (c == q)
  where
    by : (t : Bool) → Found (tail r) (past q (if t then (c ∷ []) else [])) (past q (if t then (c ∷ tail r) else (if c == backslash then from_unescaped q (124 ∷ 32 ∷ r) else from_unescaped q (tail r))))
    by true = found_by (tail r) (past q (c ∷ [])) (past q (c ∷ tail r)) (past_exact (tail r) q c [])
    by false = tt
string_found r q (c ∷ d ∷ cs) = by (c == q) (c == backslash) (string_found r q cs) (string_found r q (d ∷ cs))
  where
    by : (t u : Bool) → Found (tail r) (past q (from_unescaped q cs)) (past q (from_unescaped q (cs ++ tail r))) → Found (tail r) (past q (from_unescaped q (d ∷ cs))) (past q (from_unescaped q (d ∷ (cs ++ tail r))))
        → Found (tail r) (past q (if t then (c ∷ d ∷ cs) else (if u then from_unescaped q cs else from_unescaped q (d ∷ cs)))) (past q (if t then (c ∷ d ∷ (cs ++ tail r)) else (if u then from_unescaped q (cs ++ tail r) else from_unescaped q (d ∷ (cs ++ tail r)))))
    by true u a b = found_by (tail r) (past q (c ∷ d ∷ cs)) (past q (c ∷ d ∷ (cs ++ tail r))) (past_exact (tail r) q c (d ∷ cs))
    by false true a b = a
    by false false a b = b

character_exact : (r cs : List ℕ) → Exact (tail r) (past apostrophe (after_character cs)) (past apostrophe (after_character (cs ++ tail r)))
character_exact r [] = refl
character_exact r (d ∷ ds) = by (goes_on d) (character_exact r ds)
  where
    by : (t : Bool) → Exact (tail r) (past apostrophe (after_character ds)) (past apostrophe (after_character (ds ++ tail r))) → Exact (tail r) (past apostrophe (if t then after_character ds else (d ∷ ds))) (past apostrophe (if t then after_character (ds ++ tail r) else (d ∷ (ds ++ tail r))))
    by true ih = ih
    by false ih = past_exact (tail r) apostrophe d ds

quoted : (m : List ℕ) (o p : Option (List ℕ)) → Found m o p → More m (quote_piece o) (quote_piece p)
quoted m None p f = tt
quoted m (Some after) p f = ap quote_piece f

spelled : (m cs : List ℕ) (o p : Option (List ℕ)) → Exact m o p → More m (character_piece cs o) (character_piece (cs ++ m) p)
spelled m cs None p e = ap (character_piece (cs ++ m)) e
spelled m cs (Some after) p e = ap (character_piece (cs ++ m)) e

apostrophe_more : (r cs : List ℕ) → More (tail r) (apostrophe_piece cs) (apostrophe_piece (cs ++ tail r))
apostrophe_more r [] = refl
apostrophe_more r (c ∷ cs) = by (c == backslash)
  where
    by : (t : Bool) → More (tail r) (if t then quote_piece (past apostrophe (from_char apostrophe cs)) else character_piece (c ∷ cs) (past apostrophe (after_character cs)))
        (if t then quote_piece (past apostrophe (from_char apostrophe (cs ++ tail r))) else character_piece (c ∷ (cs ++ tail r)) (past apostrophe (after_character (cs ++ tail r))))
    by true = quoted (tail r) (past apostrophe (from_char apostrophe cs)) (past apostrophe (from_char apostrophe (cs ++ tail r))) (char_found (tail r) apostrophe cs)
    by false = spelled (tail r) (c ∷ cs) (past apostrophe (after_character cs)) (past apostrophe (after_character (cs ++ tail r))) (character_exact r cs)

piece_more : (r s : List ℕ) → More (tail r) (piece s) (piece (s ++ tail r))
piece_more r [] = tt
piece_more r (c ∷ cs) = by (c == quote) (c == apostrophe)
  where
    by : (t u : Bool) → More (tail r) (if t then quote_piece (past quote (from_unescaped quote cs)) else (if u then apostrophe_piece cs else Single c cs))
        (if t then quote_piece (past quote (from_unescaped quote (cs ++ tail r))) else (if u then apostrophe_piece (cs ++ tail r) else Single c (cs ++ tail r)))
    by true u = quoted (tail r) (past quote (from_unescaped quote cs)) (past quote (from_unescaped quote (cs ++ tail r))) (string_found r quote cs)
    by false true = apostrophe_more r cs
    by false false = refl

-- a step of the shorter text is one of the longer
step_more : (m before next inner : List ℕ) (a b : Piece) → More m a b → step_over before a ≡ Onward next inner → step_over before b ≡ Onward (next ++ m) inner
step_more m before next inner (Quote after) b h e =
    let same : after ≡ next = cc in
    let within : before ≡ inner = cc in
    ap (step_over before) h ∙ ap (λ t. Onward (t ++ m) before) same ∙ ap (Onward (next ++ m)) within
step_more m before next inner Unended b h e = absurd cc
step_more m before next inner (Single c after) b h e =
    let same : after ≡ next = cc in
    let within : open_after before c ≡ inner = cc in
    ap (step_over before) h ∙ ap (λ t. Onward (t ++ m) (open_after before c)) same ∙ ap (Onward (next ++ m)) within
step_more m before next inner Nothing b h e = absurd cc

-- ---- no bar stands in a closed text
abbrev NoBar : List ℕ → List ℕ → Type 0
NoBar text before = (cs : List ℕ) → Leads text before (124 ∷ cs) [] → ⊥

two_bytes : (c d : ℕ) (ds : List ℕ) (x : Bool) → NoBar (c ∷ d ∷ ds) [] → (nat_eq 32 c && (nat_eq 124 d && x)) ≡ false
two_bytes c d ds x none = by (nat_eq 32 c) (nat_eq 124 d) refl refl
  where
    by : (t u : Bool) → nat_eq 32 c ≡ t → nat_eq 124 d ≡ u → (t && (u && x)) ≡ false
    by false u a b = refl
    by true false a b = refl
    by true true a b =
        let first : 32 ≡ c = eqb-true 32 c a in
        let second : 124 ≡ d = eqb-true 124 d b in
        let there : NoBar (32 ∷ 124 ∷ ds) [] = subst (λ k. NoBar (32 ∷ k ∷ ds) []) (sym second) (subst (λ k. NoBar (k ∷ d ∷ ds) []) (sym first) none) in
        absurd (there ds (leads_one (32 ∷ 124 ∷ ds) [] (124 ∷ ds) [] (124 ∷ ds) [] refl (leads_none (124 ∷ ds) [])))

-- a text with pieces left begins with no bar, whatever follows
no_bar_more : (before text r next inner : List ℕ) → step_over before (piece text) ≡ Onward next inner → NoBar text before → is_bar before (text ++ tail r) ≡ false
no_bar_more (b ∷ before) text r next inner e none = refl
no_bar_more [] [] r next inner e none = absurd cc
no_bar_more [] (c ∷ []) r next inner e none = and-false (nat_eq 32 c)
no_bar_more [] (c ∷ d ∷ ds) r next inner e none = two_bytes c d ds _ none

no_bar_alone : (before text next inner : List ℕ) → step_over before (piece text) ≡ Onward next inner → NoBar text before → is_bar before text ≡ false
no_bar_alone (b ∷ before) text next inner e none = refl
no_bar_alone [] [] next inner e none = absurd cc
no_bar_alone [] (c ∷ []) next inner e none = and-false (nat_eq 32 c)
no_bar_alone [] (c ∷ d ∷ ds) next inner e none = two_bytes c d ds _ none

abbrev next_bar : ℕ → Step → Option (List ℕ)
next_bar n step = bar_after (λ inner next. bar_within n inner next) step

-- in front of a bar: it is found
found_behind : (r : List ℕ) (text before rest brackets : List ℕ) → Leads text before rest brackets → rest ≡ [] → brackets ≡ [] → NoBar text before → (n : ℕ) → length text < n → bar_within n before (text ++ tail r) ≡ Some (tail r)
found_behind r _ _ _ _ (leads_none text before) none closed bare zero lt = absurd (omega arith)
found_behind r _ _ _ _ (leads_none text before) none closed bare (suc n) lt =
    ap (λ t. bar_within (suc n) before (t ++ tail r)) none ∙ ap (λ (t : List ℕ). bar_within (suc n) t (tail r)) closed
found_behind r _ _ _ _ (leads_one text before next inner rest brackets first more) none closed bare zero lt = absurd (omega arith)
found_behind r _ _ _ _ (leads_one text before next inner rest brackets first more) none closed bare (suc n) lt =
    ap (λ t. if t then Some (text ++ tail r) else next_bar n (step_over before (piece (text ++ tail r)))) (no_bar_more before text r next inner first bare)
    ∙ ap (next_bar n) (step_more (tail r) before next inner (piece text) (piece (text ++ tail r)) (piece_more r text) first)
    ∙ found_behind r next inner rest brackets more none closed (λ cs h. bare cs (leads_one text before next inner (124 ∷ cs) [] first h)) n (omega (arith, step_fewer text before next inner first))

-- alone: there is none
found_nowhere : (text before rest brackets : List ℕ) → Leads text before rest brackets → rest ≡ [] → brackets ≡ [] → NoBar text before → (n : ℕ) → bar_within n before text ≡ None
found_nowhere _ _ _ _ (leads_none text before) none closed bare zero = refl
found_nowhere _ _ _ _ (leads_none text before) none closed bare (suc n) = ap (bar_within (suc n) before) none ∙ ap (λ (t : List ℕ). bar_within (suc n) t []) closed
found_nowhere _ _ _ _ (leads_one text before next inner rest brackets first more) none closed bare zero = refl
found_nowhere _ _ _ _ (leads_one text before next inner rest brackets first more) none closed bare (suc n) =
    ap (λ t. if t then Some text else next_bar n (step_over before (piece text))) (no_bar_alone before text next inner first bare)
    ∙ ap (next_bar n) first
    ∙ found_nowhere next inner rest brackets more none closed (λ cs h. bare cs (leads_one text before next inner (124 ∷ cs) [] first h)) n

bar_of : (p r : List ℕ) → IsClosed p → from_bar (p ++ tail r) ≡ Some (tail r)
bar_of p r h = found_behind r p [] [] [] h.whole refl refl h.no_bar (length (p ++ tail r)) (omega (arith, length-append p (tail r)))

none_of : (p : List ℕ) → IsClosed p → from_bar p ≡ None
none_of p h = found_nowhere p [] [] [] h.whole refl refl h.no_bar (length p)

before_is : (p r : List ℕ) → IsClosed p → before_bar (p ++ tail r) ≡ p
before_is p r h =
    let short : length (p ++ tail r) - length (tail r) ≡ length p = (let e : length (p ++ tail r) ≡ length p + length (tail r) = length-append p (tail r) in omega arith) in
    ap (before_rest (p ++ tail r)) (bar_of p r h) ∙ ap (λ k. take k (p ++ tail r)) short ∙ take-append_seam p (tail r)

behind_is : (p r : List ℕ) → IsClosed p → behind_bar (p ++ tail r) ≡ r
behind_is p r h = ap behind_rest (bar_of p r h)

-- ---- all patterns
abbrev pub AreClosed : List (List ℕ) → Type 0
AreClosed [] = Unit {0}
AreClosed (p ∷ ps) = (0 < length p) × IsClosed p × AreClosed ps

pub unbarred : (p q : List ℕ) (qs : List (List ℕ)) → barred (p ∷ q ∷ qs) ≡ p ++ tail (barred (q ∷ qs))
unbarred p q qs = ap (λ t. p ++ t) (append_assoc (codes " | ") q (flat_map (λ y. codes " | " ++ y) qs))

first_element : (n : ℕ) (s : List ℕ) → 0 < length s → elements_within before_bar behind_bar (suc n) s ≡ before_bar s ∷ elements_within before_bar behind_bar n (behind_bar s)
first_element n [] some = absurd (omega arith)
first_element n (b ∷ bs) some = refl

no_elements : (n : ℕ) → elements_within before_bar behind_bar n [] ≡ []
no_elements zero = refl
no_elements (suc n) = refl

parted : (n : ℕ) (p : List ℕ) (ps : List (List ℕ)) → length ps < n → AreClosed (p ∷ ps) → elements_within before_bar behind_bar n (barred (p ∷ ps)) ≡ p ∷ ps
parted zero p ps lt a = absurd (omega arith)
parted (suc n) p [] lt a =
    ap (elements_within before_bar behind_bar (suc n)) (append-nil p)
    ∙ first_element n p a.0
    ∙ ap (λ o. before_rest p o ∷ elements_within before_bar behind_bar n (behind_rest o)) (none_of p a.1)
    ∙ ap (λ l. p ∷ l) (no_elements n)
parted (suc n) p (q ∷ qs) lt a =
    let rest = barred (q ∷ qs) in
    ap (elements_within before_bar behind_bar (suc n)) (unbarred p q qs)
    ∙ first_element n (p ++ tail rest) (omega (arith, a.0, length-append p (tail rest)))
    ∙ ap (λ t. t ∷ elements_within before_bar behind_bar n (behind_bar (p ++ tail rest))) (before_is p rest a.1)
    ∙ ap (λ t. p ∷ elements_within before_bar behind_bar n t) (behind_is p rest a.1)
    ∙ ap (λ l. p ∷ l) (parted n q qs (omega arith) a.2)

long_enough : (p : List ℕ) (ps : List (List ℕ)) → AreClosed (p ∷ ps) → length ps < length (barred (p ∷ ps))
long_enough p [] a = (let none : length (barred (p ∷ [])) ≡ length p = ap length (append-nil p) in omega (arith, a.0))
long_enough p (q ∷ qs) a =
    let rest = long_enough q qs a.2 in
    let whole : length (barred (p ∷ q ∷ qs)) ≡ length p + length (tail (barred (q ∷ qs))) = ap length (unbarred p q qs) ∙ length-append p (tail (barred (q ∷ qs))) in
    omega arith

-- the patterns of joined patterns are these patterns
pub patterns_barred : (ps : List (List ℕ)) → AreClosed ps → patterns (barred ps) ≡ ps
patterns_barred [] a = refl
patterns_barred (p ∷ ps) a = parted (length (barred (p ∷ ps))) p ps (long_enough p ps a) a
