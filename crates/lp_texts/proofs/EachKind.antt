-- The kinds of texts, one after the other.
use Rattle.std.proofs.Common.{◌≡◌, ℕ, ◌+◌, ◌<◌, List, ⊎_elim, Option, Err, cond, eqb, refl, sym, ap, ◌∙◌, subst, arith}
use Rattle.std.proofs.lemmas.Bool.{cases_lt}
use Rattle.lp_repr.specs.declared.repr.Grammar.{Grammar}
use Rattle.lp_texts.specs.declared.faults.TextKind.{TextKind}
use Rattle.lp_texts.specs.declared.faults.TextKind.TheVariants.{Use, Attribute, Terminal, Nonterminal, Pattern, TypeText, Code}
use Rattle.lp_texts.specs.declared.faults.TextFault.{TextFault}
use Rattle.lp_texts.specs.declared.faults.TextFault.TheVariants.{Bad, Memory}
use Rattle.lp_texts.specs.Counted.{FailsFirst, Counts}
use Rattle.lp_texts.specs.TextRules.{KindMeets, KindFails, place_of_kind, TextsMeet, IsFirstFault}

kind_at : ℕ → TextKind
kind_at n =
    cond (eqb n 0) Use
    (cond (eqb n 1) Attribute
    (cond (eqb n 2) Terminal
    (cond (eqb n 3) Nonterminal
    (cond (eqb n 4) Pattern
    (cond (eqb n 5) TypeText Code)))))

kind_at-place : (kind : TextKind) → kind_at (place_of_kind kind) ≡ kind
unfolding kind_at
kind_at-place Use = refl
kind_at-place Attribute = refl
kind_at-place Terminal = refl
kind_at-place Nonterminal = refl
kind_at-place Pattern = refl
kind_at-place TypeText = refl
kind_at-place Code = refl

same_kind : (a b : TextKind) → place_of_kind a ≡ place_of_kind b → a ≡ b
same_kind a b e = sym (kind_at-place a) ∙ ap kind_at e ∙ kind_at-place b

place_below : (kind : TextKind) → place_of_kind kind < 7
place_below Use = omega arith
place_below Attribute = omega arith
place_below Terminal = omega arith
place_below Nonterminal = omega arith
place_below Pattern = omega arith
place_below TypeText = omega arith
place_below Code = omega arith

-- the texts of the kinds before a place meet their rules
abbrev pub MeetBefore : Grammar → ℕ → Type 0
MeetBefore g n = (kind : TextKind) → place_of_kind kind < n → KindMeets g kind

pub meet_none : (g : Grammar) → MeetBefore g 0
meet_none g kind h = absurd (omega (arith, h))

pub meet_more : (g : Grammar) (kind : TextKind) (n : ℕ) → place_of_kind kind ≡ n → MeetBefore g n → KindMeets g kind → MeetBefore g (n + 1)
meet_more g kind n e before meets other h =
    ⊎_elim
    (λ less. before other less)
    (λ more. subst (KindMeets g) (same_kind kind other (omega (arith, more, h, e))) meets)
    (cases_lt (place_of_kind other) n)

pub meet_all : (g : Grammar) → MeetBefore g 7 → TextsMeet g
meet_all g before kind = before kind (place_below kind)

-- the first fault of a kind behind kinds without one
pub fault_at : {X : Type 0} (g : Grammar) (kind : TextKind) (n : ℕ) (rule : X → Option ℕ → Type 0) (things : List X) (fault : TextFault) → place_of_kind kind ≡ n → ((number byte : ℕ) → FailsFirst rule things number byte → KindFails g number byte kind) → MeetBefore g n → Counts kind rule things 0 (Err fault) → IsFirstFault g fault
fault_at g kind n rule things (Bad place byte) e fails before a =
    let number : a.1 ≡ place.number = omega (arith, a.2) in (
      subst (λ k. (other : TextKind) → place_of_kind other < place_of_kind k → KindMeets g other) (sym a.0)
          (subst (λ m. (other : TextKind) → place_of_kind other < m → KindMeets g other) (sym e) before),
      subst (KindFails g place.number byte) (sym a.0) (subst (λ m. KindFails g m byte kind) number (fails a.1 byte a.3)),
    )
fault_at g kind n rule things Memory e fails before a = tt
