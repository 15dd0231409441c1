-- From one place outside quotes to another.
use Rattle.std.proofs.Common.{◌≡◌, ℕ, ◌+◌, ◌<◌, ◌≤◌, List, [], length, drop, get_or, ⊎_elim, ap, arith, length-drop}
use Rattle.std.proofs.lemmas.Bool.{cases_lt}
use Rattle.lp_texts.specs.Quotes.{Quote, Unended, Single, piece}
use Rattle.lp_texts.specs.Brackets.{open_after, step_over, leads_none, IsOutside}
use Rattle.lp_texts.proofs.Leading.{leads_more, no_place_inside, no_place_behind}

-- pieces lead up to a place, and not past the one that is looked for, if that stands outside quotes
pub record IsWalked (text : List ℕ) (place at : ℕ) : Type 0 where
  pub outside : IsOutside text at
  pub before : IsOutside text place → at ≤ place

pub starts_outside : (text : List ℕ) → IsOutside text 0
starts_outside text = ([], leads_none text [])

pub walked_single : (text : List ℕ) (place at : ℕ) → IsWalked text place at → at < place → piece (drop at text) ≡ Single (get_or text at 0) (drop (at + 1) text) → IsWalked text place (at + 1)
walked_single text place at w less found =
    let o = w.outside in
    let inner = open_after o.0 (get_or text at 0) in
    record {
      outside = (inner, leads_more text [] (drop at text) o.0 (drop (at + 1) text) inner o.1 (ap (step_over o.0) found));
      before = λ there. omega arith;
    }

pub walked_quote : (text : List ℕ) (place at end : ℕ) → IsWalked text place at → at < place → piece (drop at text) ≡ Quote (drop end text) → end ≤ length text → IsWalked text place end
walked_quote text place at end w less found within =
    let o = w.outside in
    let step = ap (step_over o.0) found in
    record {
      outside = (o.0, leads_more text [] (drop at text) o.0 (drop end text) o.0 o.1 step);
      before = λ there.
          ⊎_elim
          (λ inside. absurd (no_place_inside text [] (drop at text) o.0 (drop end text) o.0 (drop place text) there.0 o.1 step there.1
          (omega (arith, length-drop place text, length-drop at text, inside, less, within)) (omega (arith, length-drop place text, length-drop end text, inside, within))))
          (λ past. past)
          (cases_lt place end);
    }

-- nothing leads into an open quote
pub open_quoted : (text : List ℕ) (place at : ℕ) → IsWalked text place at → at < place → place ≤ length text → piece (drop at text) ≡ Unended → IsOutside text place → ⊥
open_quoted text place at w less within found there =
    let o = w.outside in
    no_place_behind text [] (drop at text) o.0 (drop place text) there.0 o.1 (ap (step_over o.0) found) there.1 (omega (arith, length-drop place text, length-drop at text, less, within))
