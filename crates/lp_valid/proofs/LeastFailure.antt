-- The least failing rule.
use Rattle.std.proofs.Common.{◌≡◌, ℕ, ◌≤◌, ◌+◌, arith, None, Result, Ok, Err, MatchResult, ⊎_elim}
use Rattle.std.proofs.lemmas.Bool.{cases_lt}
use Rattle.lp_repr.specs.declared.repr.Grammar.{Grammar}
use Rattle.lp_valid.specs.Places.{IsFirstFailing}
use Rattle.lp_valid.specs.ValidGrammar.{GrammarRule, starts, names, prefixes, symbols, types, counts, inlines, fallibles, error_terminal, distinct_terminals, number, Says, HoldsBelow, IsValidGrammar}

-- the numbers of rules
pub upto_ten : (rule : GrammarRule) → number rule ≤ 10
upto_ten starts = omega arith
upto_ten names = omega arith
upto_ten prefixes = omega arith
upto_ten symbols = omega arith
upto_ten types = omega arith
upto_ten counts = omega arith
upto_ten inlines = omega arith
upto_ten fallibles = omega arith
upto_ten error_terminal = omega arith
upto_ten distinct_terminals = omega arith

-- one more rule holds
pub one_more_holds : (g : Grammar) (n : ℕ) → HoldsBelow g n → ((rule : GrammarRule) → number rule ≡ n → IsFirstFailing (Says g rule) None) → HoldsBelow g (n + 1)
one_more_holds g n lesser this = λ rule less. ⊎_elim (λ below. lesser rule below) (λ past. this rule (omega arith)) (cases_lt (number rule) n)

-- all rules hold
pub all_hold : (g : Grammar) → HoldsBelow g 11 → IsValidGrammar g
all_hold g h = λ rule. let upto : number rule ≤ 10 = upto_ten rule in h rule (omega arith)

pub valid_or : {T E : Type 0} (g : Grammar) (Refuses : E → Type 0) (r : Result T E) → MatchResult r (λ _. HoldsBelow g 11) Refuses → MatchResult r (λ _. IsValidGrammar g) Refuses
valid_or g Refuses (Ok x) h = all_hold g h
valid_or g Refuses (Err e) h = h
