-- Where patterns that are joined by ` | ` are parted.
use Rattle.std.specs.Prelude.{ℕ, List, [], drop, IsTrue, codes, nat_eq}
use Rattle.std.specs.List.{starts_with}
use Rattle.lp_texts.specs.Brackets.{Leads}

-- at the byte i of a text begins a ` | `, outside quotes and outside brackets
abbrev pub IsBar : List ℕ → ℕ → Type 0
IsBar text i = Leads text [] (drop i text) [] × IsTrue (starts_with nat_eq (drop i text) (codes " | "))
