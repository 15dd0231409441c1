-- The comments that tables have beside their entries.
use Rattle.std.specs.Prelude.{ℕ, List, ◌++◌, codes, decimal, Option, option_map}
use Rattle.lp_repr.specs.Shown.{production_text}
use Rattle.lp_parts.specs.declared.comment.Comment.{Comment}
use Rattle.lp_parts.specs.declared.comment.Comment.TheVariants.{Goto, Error, Reduce}

-- the token or nonterminal of a comment
abbrev pub comment_on : {T : Type 0} → Comment T → T
comment_on (Goto token state) = token
comment_on (Error token) = token
comment_on (Reduce token production) = token

-- what a comment says after it
abbrev pub comment_end : {T : Type 0} → Comment T → List ℕ
comment_end (Goto token state) = codes ", goto " ++ decimal state
comment_end (Error token) = codes ", error"
comment_end (Reduce token production) = codes ", reduce `" ++ (production_text production.now ++ codes "`")

-- a comment, over what its token or nonterminal is shown as, if that is stated
abbrev pub comment_text : {T : Type 0} → (T → Option (List ℕ)) → Comment T → Option (List ℕ)
comment_text output c = option_map (λ text. codes " // on " ++ (text ++ comment_end c)) (output (comment_on c))
