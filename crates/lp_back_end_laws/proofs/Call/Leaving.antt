-- What a call leaves of the cells when it is over: those that were there, of which the callee's slots were emptied.
use Rattle.std.proofs.Common.{◌≡◌, ℕ, ◌+◌, ◌<◌, ◌≤◌, List, ◌++◌, length, take, Some, None, slice_get, sym, ◌∙◌, subst, ⊎_elim, arith, length-append}
use Rattle.std.proofs.lemmas.Bool.{cases_lt}
use Rattle.std.proofs.lemmas.List.{length-take-le}
use Rattle.std.proofs.lemmas.Option.{slice_get_past}
use Rattle.lp_core.specs.Store.{Held, Slot}
use Rattle.lp_core.specs.Val.{Val}
use Rattle.lp_repr.proofs.Lists.{slice_get_left}
use Rattle.lp_ascent.specs.Slots.{Layout, count_of}
use Rattle.lp_back_end_laws.specs.Call.Frames.{IsCell, Emptied, AreOwn}
use Rattle.lp_back_end_laws.proofs.Call.Lookups.{get_taken}

-- the cells that a function made are cut off
pub leaving : (l : Layout) (d : ℕ) (slots own : List Val) (before new after : List Held) → AreOwn (length before) slots own → Emptied l d own (before ++ new) after → Emptied l d slots before (take (length before) after)
leaving l d slots own before new after are h = record { as_many = many; emptied = emptied; kept = kept }
  where
    many : length (take (length before) after) ≡ length before
    many = length-take-le (length before) after (omega (arith, h.as_many, length-append before new))

    emptied : (j n : ℕ) → count_of l ≤ j + d → IsCell slots j n → slice_get (take (length before) after) n ≡ Some (Slot None)
    emptied j n le is = get_taken after (length before) n (are.old j n is) ∙ h.emptied j n le (are.same j n is)

    kept : (n : ℕ) → ((j : ℕ) → IsCell slots j n → j + d < count_of l) → slice_get (take (length before) after) n ≡ slice_get before n
    kept n deep = ⊎_elim
        (λ (less : n < length before). get_taken after (length before) n less ∙ h.kept n (λ j is. deep j (are.new j n less is)) ∙ slice_get_left before new n less)
        (λ (le : length before ≤ n). slice_get_past (take (length before) after) n (subst (λ m. m ≤ n) (sym many) le) ∙ sym (slice_get_past before n le))
        (cases_lt n (length before))
