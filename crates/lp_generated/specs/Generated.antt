-- The grammar of so many levels of operators, each of which binds tighter than the one before, as the text of a
-- grammar file; and a list of tokens for it.
use Rattle.std.specs.Prelude.{ℕ, zero, suc, ◌+◌, ◌*◌, ◌==◌, if◌then◌else◌, List, [], ◌∷◌, ◌++◌, codes, decimal}
use Rattle.lp_repr.specs.declared.values.Loc.TheVariants.{At}
use Rattle.lp_repr.specs.declared.values.RunItem.{RunItem}
use Rattle.lp_repr.specs.declared.values.RunItem.TheVariants.{Token}

-- what there is of each level below this one, in order
abbrev pub each_below : {A : Type 0} → (ℕ → List A) → ℕ → List A
each_below f zero = []
each_below f (suc level) = each_below f level ++ f level

-- what stands before the operators' entries
unfoldable pub head_text : List ℕ
head_text = codes "grammar;\nextern {\n    type Location = usize;\n    enum Tok {\n        \"n\" => Tok::N(<i32>),\n        \"(\" => Tok::Open,\n        \")\" => Tok::Close,\n"

-- the entry of the operator of a level
unfoldable pub entry_text : ℕ → List ℕ
entry_text level = codes "        \"o" ++ (decimal level ++ (codes "\" => Tok::O" ++ (decimal level ++ codes ",\n")))

-- the rule of the first level is public
abbrev pub visibility_text : ℕ → List ℕ
visibility_text level = if level == 0 then codes "pub " else []

-- the rule of the operator of a level: it is left associative, and its operands are those of the next level
unfoldable pub alternatives_text : ℕ → ℕ → List ℕ
alternatives_text level next =
    codes "E" ++ (decimal level ++ (codes ": i32 = {\n    <a:E" ++ (decimal level ++ (codes "> \"o" ++ (decimal level
    ++ (codes "\" <b:E" ++ (decimal next ++ (codes "> => o" ++ (decimal level ++ (codes "(a, b),\n    <a:E"
    ++ (decimal next ++ codes "> => a,\n};\n")))))))))))

abbrev pub rule_text : ℕ → List ℕ
rule_text level = visibility_text level ++ alternatives_text level (level + 1)

-- the rule of numbers and parentheses
unfoldable pub end_text : ℕ → List ℕ
end_text levels = codes "E" ++ (decimal levels ++ codes ": i32 = {\n    <a:\"n\"> => a,\n    \"(\" <a:E0> \")\" => a,\n};\n")

-- the whole text
abbrev pub grammar_text : ℕ → List ℕ
grammar_text levels =
    ((((head_text ++ each_below entry_text levels) ++ codes "    }\n}\n")
    ++ each_below rule_text levels) ++ visibility_text levels) ++ end_text levels

-- a token, which spans from its place to the next
abbrev pub token_at : ℕ → List ℕ → List (List ℕ) → RunItem
token_at place form payloads = Token (At place) (record { form = form; payloads = payloads }) (At (place + 1))

-- a number is its place
abbrev pub number_item : ℕ → RunItem
number_item place = token_at place (codes "Tok::N(_)") (decimal place ∷ [])

unfoldable pub operator_form : ℕ → List ℕ
operator_form level = codes "Tok::O" ++ decimal level

abbrev pub operator_item : ℕ → ℕ → RunItem
operator_item level place = token_at place (operator_form level) []

-- the operator of a level, and a number
abbrev pub level_items : ℕ → List RunItem
level_items level = operator_item level (level * 2 + 1) ∷ number_item (level * 2 + 1 + 1) ∷ []

-- a number, and of each level the operator and a number
abbrev pub token_list : ℕ → List RunItem
token_list levels = number_item 0 ∷ each_below level_items levels
