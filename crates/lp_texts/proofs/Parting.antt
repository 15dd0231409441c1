-- The first ` | ` of a text, piece by piece.
use Rattle.std.proofs.Common.{◌≡◌, ℕ, ◌+◌, ◌-◌, ◌<◌, ◌≤◌, Bool, true, false, List, [], ◌∷◌, length, drop, get_or, ⊎_elim, Some, None, IsTrue, codes, nat_eq, cond, refl, sym, ap, ◌∙◌, subst, arith, below_more, length-drop}
use Rattle.std.proofs.lemmas.List.{drop_all, nil_from_length}
use Rattle.std.proofs.lemmas.Bool.{false≢true, cases_eq, cases_lt, ne_eqb}
use Rattle.std.specs.List.{starts_with}
use Rattle.lp_texts.specs.Quotes.{Quote, Unended, Single, piece}
use Rattle.lp_texts.specs.Brackets.{opens, closes, closer_of, open_after, step_over, Leads, leads_none}
use Rattle.lp_texts.specs.FirstWrong.{IsFirst}
use Rattle.lp_texts.specs.Bars.{IsBar}
use Rattle.lp_texts.proofs.Leading.{leads_more, same_place, no_place_inside, no_place_behind}

abbrev pub is_front : List ℕ → Bool
is_front rest = starts_with nat_eq rest (codes " | ")

-- pieces lead up to a place, where so many brackets are open, and no ` | ` stands before it
pub record IsParted (text : List ℕ) (at depth : ℕ) : Type 0 where
  pub brackets : List ℕ
  pub leads : Leads text [] (drop at text) brackets
  pub counted : depth ≡ length brackets
  pub few : depth ≤ at
  pub none : (j : ℕ) → j < at → IsBar text j → ⊥

pub parted_none : (text : List ℕ) → IsParted text 0 0
parted_none text = record { brackets = []; leads = leads_none text []; counted = refl; few = omega arith; none = λ j h w. omega (arith, h) }

-- the number of brackets behind a byte
abbrev pub depth_after : ℕ → ℕ → ℕ
depth_after depth c = cond (opens c) (depth + 1) (cond (closes c) (depth - 1) depth)

length-open_after : (brackets : List ℕ) (c : ℕ) → depth_after (length brackets) c ≡ length (open_after brackets c)
length-open_after brackets c =
    elim (opens c) as (λ b. cond b (length brackets + 1) (cond (closes c) (length brackets - 1) (length brackets)) ≡ length (cond b (closer_of c ∷ brackets) (cond (closes c) (drop 1 brackets) brackets))) [
      | true ↦ omega arith
      | false ↦ elim (closes c) as (λ b. cond b (length brackets - 1) (length brackets) ≡ length (cond b (drop 1 brackets) brackets)) [
        | true ↦ sym (length-drop 1 brackets)
        | false ↦ refl
      ]
    ]

depth_few : (depth c at : ℕ) → depth ≤ at → depth_after depth c ≤ at + 1
depth_few depth c at few =
    elim (opens c) as (λ b. cond b (depth + 1) (cond (closes c) (depth - 1) depth) ≤ at + 1) [
      | true ↦ omega (arith, few)
      | false ↦ elim (closes c) as (λ b. cond b (depth - 1) depth ≤ at + 1) [
        | true ↦ omega (arith, few)
        | false ↦ omega (arith, few)
      ]
    ]

-- a ` | ` at a place where pieces lead
found_there : (text : List ℕ) (at depth : ℕ) → IsParted text at depth → IsBar text at → (depth ≡ 0) × IsTrue (is_front (drop at text))
found_there text at depth p bar =
    let same = same_place text [] (drop at text) p.brackets (drop at text) [] p.leads bar.0 refl in
    (p.counted ∙ ap length same.1, bar.1)

pub parted_single : (text : List ℕ) (at depth after : ℕ) → IsParted text at depth → piece (drop at text) ≡ Single (get_or text at 0) (drop (at + 1) text) → (depth ≡ 0 → is_front (drop at text) ≡ true → ⊥) → after ≡ depth_after depth (get_or text at 0) → IsParted text (at + 1) after
parted_single text at depth after p found other is =
    let c = get_or text at 0 in
    record {
      brackets = open_after p.brackets c;
      leads = leads_more text [] (drop at text) p.brackets (drop (at + 1) text) (open_after p.brackets c) p.leads (ap (step_over p.brackets) found);
      counted = is ∙ ap (λ n. depth_after n c) p.counted ∙ length-open_after p.brackets c;
      few = subst (λ n. n ≤ at + 1) (sym is) (depth_few depth c at p.few);
      none = below_more (λ j. IsBar text j → ⊥) at p.none (λ bar. let there = found_there text at depth p bar in other there.0 there.1);
    }

pub bar_found : (text : List ℕ) (at depth : ℕ) → IsParted text at depth → depth ≡ 0 → is_front (drop at text) ≡ true → IsFirst (IsBar text) (Some at)
bar_found text at depth p none front =
    let empty : p.brackets ≡ [] = nil_from_length p.brackets (sym p.counted ∙ none) in
    ((subst (Leads text [] (drop at text)) empty p.leads, front), p.none)

-- a text that begins with ` | ` has a single byte in front
front_single : (rest : List ℕ) → is_front rest ≡ true → (c : ℕ) × (cs : List ℕ) × (rest ≡ c ∷ cs) × (c ≡ 32)
front_single [] front = absurd (false≢true front)
front_single (c ∷ cs) front =
    ⊎_elim
    (λ same. (c, cs, refl, sym same))
    (λ other. let none : is_front (c ∷ cs) ≡ false = rw (ne_eqb 32 c other) refl in absurd (false≢true (sym none ∙ front)))
    (cases_eq 32 c)

pub no_quote_in_front : (rest after : List ℕ) → is_front rest ≡ true → piece rest ≡ Quote after → ⊥
no_quote_in_front rest after front found =
    let split = front_single rest front in
    let here : piece (32 ∷ split.1) ≡ Quote after = subst (λ x. piece (x ∷ split.1) ≡ Quote after) split.3 (subst (λ x. piece x ≡ Quote after) split.2 found) in
    cc

pub no_open_in_front : (rest : List ℕ) → is_front rest ≡ true → piece rest ≡ Unended → ⊥
no_open_in_front rest front found =
    let split = front_single rest front in
    let here : piece (32 ∷ split.1) ≡ Unended = subst (λ x. piece (x ∷ split.1) ≡ Unended) split.3 (subst (λ x. piece x ≡ Unended) split.2 found) in
    cc

-- past a quote
pub parted_quote : (text : List ℕ) (at end depth : ℕ) → IsParted text at depth → piece (drop at text) ≡ Quote (drop end text) → at < end → end ≤ length text → IsParted text end depth
parted_quote text at end depth p found less within =
    let step = ap (step_over p.brackets) found in
    record {
      brackets = p.brackets;
      leads = leads_more text [] (drop at text) p.brackets (drop end text) p.brackets p.leads step;
      counted = p.counted;
      few = omega (arith, p.few);
      none = λ j below bar.
          ⊎_elim
          (λ before. p.none j before bar)
          (λ behind. ⊎_elim
          (λ same. no_quote_in_front (drop at text) (drop end text) (subst (λ x. is_front (drop x text) ≡ true) same bar.1) found)
          (λ other. no_place_inside text [] (drop at text) p.brackets (drop end text) p.brackets (drop j text) [] p.leads step bar.0 (omega (arith, length-drop j text, length-drop at text, other, behind, below)) (omega (arith, length-drop j text, length-drop end text)))
          (cases_eq j at))
          (cases_lt j at);
    }

front_within : (text : List ℕ) (j : ℕ) → is_front (drop j text) ≡ true → j < length text
front_within text j front =
    ⊎_elim
    (λ less. less)
    (λ past. absurd (false≢true (ap is_front (sym (drop_all j text past)) ∙ front)))
    (cases_lt j (length text))

-- a quote without an end
pub no_bar_behind : (text : List ℕ) (at depth : ℕ) → IsParted text at depth → piece (drop at text) ≡ Unended → IsFirst (IsBar text) None
no_bar_behind text at depth p found j bar =
    let within = front_within text j bar.1 in
    ⊎_elim
    (λ before. p.none j before bar)
    (λ behind. ⊎_elim
    (λ same. no_open_in_front (drop at text) (subst (λ x. is_front (drop x text) ≡ true) same bar.1) found)
    (λ other. no_place_behind text [] (drop at text) p.brackets (drop j text) [] p.leads (ap (step_over p.brackets) found) bar.0 (omega (arith, length-drop j text, length-drop at text, other, behind, within)))
    (cases_eq j at))
    (cases_lt j at)

pub no_bar : (text : List ℕ) (at depth : ℕ) → IsParted text at depth → length text ≤ at → IsFirst (IsBar text) None
no_bar text at depth p done j bar = p.none j (omega (arith, front_within text j bar.1)) bar
