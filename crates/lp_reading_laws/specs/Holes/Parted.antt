-- What is asked of the texts of seven parts, so that their holes are found again.
use Rattle.std.specs.Prelude.{◌≡◌, ℕ, false, List, [], ◌++◌, get_or, codes, nat_eq}
use Rattle.std.specs.List.{starts_with}
use Rattle.lp_form.specs.declared.part.Part.{Part}
use Rattle.lp_form.specs.declared.part.Part.TheVariants as part
use Rattle.lp_spelling.specs.Fillings.{holds}

-- a text doesn't hold another, which has the prefix in its middle
abbrev pub HoldsNo : List ℕ → List ℕ → List ℕ → List ℕ → Type 0
HoldsNo prefix front behind text = holds (front ++ (prefix ++ behind)) text ≡ false

-- a text doesn't begin with the prefix
abbrev pub BeginsNo : List ℕ → List ℕ → Type 0
BeginsNo prefix text = starts_with nat_eq text prefix ≡ false

-- a type doesn't hold what stands behind it in its line, and the text behind symbols begins as no symbol
abbrev pub IsParted : List ℕ → Part → List (List ℕ) → Type 0
IsParted prefix part.StateFn holes = HoldsNo prefix (codes ")>, ") (codes "Nonterminal<") (get_or holes 0 [])
IsParted prefix part.ToTripleLocatedWhere holes = HoldsNo prefix (codes "), ") (codes "lalrpop_util::ParseError<") (get_or holes 3 [])
IsParted prefix part.ToTripleLocated holes = HoldsNo prefix (codes "), ") (codes "lalrpop_util::ParseError<") (get_or holes 2 [])
IsParted prefix part.ToTriplePlainWhere holes = HoldsNo prefix (codes "), ") (codes "lalrpop_util::ParseError<") (get_or holes 3 [])
IsParted prefix part.ToTriplePlain holes = HoldsNo prefix (codes "), ") (codes "lalrpop_util::ParseError<") (get_or holes 2 [])
IsParted prefix part.Pop holes = HoldsNo prefix (codes ",") (codes "Symbol<") (get_or holes 1 [])
IsParted prefix part.Transition holes = BeginsNo prefix (get_or holes 3 [])
IsParted prefix _ holes = Unit {0}
