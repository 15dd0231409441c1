-- The printed type of states is read back, and holds the number of each state.
use Rattle.std.proofs.Common.{◌≡◌, ℕ, ◌≤◌, ◌&&◌, ◌||◌, Bool, true, false, Some, None, pos, negsuc, List, refl, ap, arith, codes, if◌then◌else◌, ltb}
use Rattle.std.specs.Prelude.{nat_le}
use Rattle.std.proofs.lemmas.Bool.{leb-true}
use Rattle.std.proofs.lemmas.Bool.Decides.{nat_tests}
use Rattle.lp_core.specs.declared.value.StateType.{StateType}
use Rattle.lp_core.specs.declared.value.StateType.TheVariants.{I8, I16, I32}
use Rattle.lp_core.specs.Numbers.{fitting}
use Rattle.lp_parts.specs.StateType.{state_type_of}
use Rattle.lp_maker.specs.Texts as maker
use Rattle.lp_question_laws.proofs.Gotos.GotoCode.{IsState}

abbrev most : StateType → ℕ
most I8 = 127
most I16 = 32767
most I32 = 2147483647

not_above : (m n : ℕ) → n ≤ m → ltb m n ≡ false
not_above m n h = grind (arith, nat_tests)

is_state : (kind : StateType) (n : ℕ) → n ≤ most kind → IsState kind n
is_state I8 n h = record { small = omega arith; fits = ap (λ b. if b then None else Some (pos n)) (not_above 127 n h) }
is_state I16 n h = record { small = omega arith; fits = ap (λ b. if b then None else Some (pos n)) (not_above 32767 n h) }
is_state I32 n h = record { small = omega arith; fits = ap (λ b. if b then None else Some (pos n)) (not_above 2147483647 n h) }

-- the entry of a production
is_entry : (kind : StateType) (n : ℕ) → n ≤ most kind → fitting kind (negsuc n) ≡ Some (negsuc n)
is_entry I8 n h = ap (λ b. if b then None else Some (negsuc n)) (ap (λ b. b || false) (not_above 127 n h))
is_entry I16 n h = ap (λ b. if b then None else Some (negsuc n)) (ap (λ b. b || false) (not_above 32767 n h))
is_entry I32 n h = ap (λ b. if b then None else Some (negsuc n)) (ap (λ b. b || false) (not_above 2147483647 n h))

-- a printed type is that of numbers of states and of productions
pub record Numbers (text : List ℕ) (states productions : ℕ) : Type 0 where
  pub kind : StateType
  pub read : maker.state_type_of text ≡ Some kind
  pub holds : (n : ℕ) → n ≤ states → IsState kind n
  pub rules : (n : ℕ) → n ≤ productions → IsState kind n
  pub entries : (n : ℕ) → n ≤ productions → fitting kind (negsuc n) ≡ Some (negsuc n)

left_true : (a b : Bool) → (a && b) ≡ true → a ≡ true
left_true true b h = refl
left_true false b h = h

both_true : (a b : Bool) → (a && b) ≡ true → b ≡ true
both_true true b h = h
both_true false b h = absurd cc

pub numbers_of : (states productions : ℕ) → states ≤ 2147483647 → productions ≤ 2147483647 → Numbers (state_type_of states productions) states productions
numbers_of states productions h g =
    elim (nat_le states 127 && nat_le productions 127) as (λ b. (nat_le states 127 && nat_le productions 127) ≡ b → Numbers (if b then codes "i8" else (if nat_le states 32767 && nat_le productions 32767 then codes "i16" else codes "i32")) states productions) [
      | true ↦ λ e. fitting_in I8 (leb-true states 127 (left_true _ _ e)) (leb-true productions 127 (both_true _ _ e)) refl
      | false ↦ λ e. elim (nat_le states 32767 && nat_le productions 32767) as (λ b. (nat_le states 32767 && nat_le productions 32767) ≡ b → Numbers (if b then codes "i16" else codes "i32") states productions) [
        | true ↦ λ e. fitting_in I16 (leb-true states 32767 (left_true _ _ e)) (leb-true productions 32767 (both_true _ _ e)) refl
        | false ↦ λ e. fitting_in I32 h g refl
      ] refl
    ] refl
  where
    fitting_in : (kind : StateType) {text : List ℕ} → states ≤ most kind → productions ≤ most kind → maker.state_type_of text ≡ Some kind → Numbers text states productions
    fitting_in kind a b read = record { kind = kind; read = read; holds = λ n le. is_state kind n (omega arith); rules = λ n le. is_state kind n (omega arith); entries = λ n le. is_entry kind n (omega arith) }
