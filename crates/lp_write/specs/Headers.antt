-- Headers of functions.
use Rattle.std.specs.Prelude.{◌≡◌, ℕ, nat_eq, if◌then◌else◌, List, [], ◌∷◌, ◌++◌, map, Option, None, Some, Result, codes}
use Rattle.std.specs.Cmp.Lexicographic.{pointwise}
use Rattle.std.specs.Borrow.{MutBor, Fml, RattleType, RestsIfErr}
use Rattle.std.specs.List.{AllZip}
use Rattle.lp_repr.specs.Shown.{visibility_text, parameter_text}
use Rattle.lp_repr.specs.declared.parse_tree.Visibility.{Visibility}
use Rattle.lp_repr.specs.declared.repr.Grammar.{Grammar}
use Rattle.lp_repr.specs.declared.repr.Parameter.{Parameter}
use Rattle.lp_repr.specs.declared.repr.WhereClause.{WhereClause}
use Rattle.lp_write.specs.Texts.{AreShownAs}
use Rattle.lp_write.specs.contracts.rust.RustWrite.{the_row}
use Rattle.lp_write.specs.declared.rust.RustWrite.{RustWrite}
use Rattle.lp_write.specs.declared.headers.HeaderTexts.{HeaderTexts}
use Rattle.lp_write.specs.declared.headers.FnHeader.{FnHeader}

-- the texts of a header
pub record Header : Type 0 where
  pub name : List ℕ
  pub type_parameters : List (List ℕ)
  pub parameters : List (List ℕ)
  pub return_type : Option (List ℕ)
  pub where_clauses : List (List ℕ)

-- what these texts are
abbrev pub header_of : HeaderTexts → Header
header_of texts = record {
  name = texts.name;
  type_parameters = texts.type_parameters.items;
  parameters = texts.parameters.items;
  return_type = texts.return_type;
  where_clauses = texts.where_clauses.items;
}

-- the texts of this header
abbrev pub header : {W V : Type 0} → FnHeader W V HeaderTexts → Header
header h = header_of h.texts

-- the visibility of a header
abbrev pub visibility_of : {W V T : Type 0} → FnHeader W V T → V
visibility_of h = h.visibility

-- the reference to the writer that a header is appended to
abbrev pub writer_of : {W V T : Type 0} → FnHeader W V T → MutBor (RustWrite W)
writer_of h = h.write

-- a header of this name, without lists
abbrev pub empty_header : List ℕ → Header
empty_header name = record {
  name = name;
  type_parameters = [];
  parameters = [];
  return_type = None;
  where_clauses = [];
}

-- the header with the lists of a grammar behind its own
pub record AddsGrammar (clause_output : WhereClause → Option (List ℕ)) (IsParameterText : Parameter → List ℕ → Type 0)
    (grammar : Grammar) (old new : Header) : Type 0 where
  pub clauses : List (List ℕ)
  pub parameters : List (List ℕ)
  pub of_clauses : AreShownAs clause_output grammar.where_clauses clauses
  pub of_parameters : AllZip IsParameterText grammar.parameters parameters
  pub added : new ≡ record old {
    type_parameters = old.type_parameters ++ map parameter_text grammar.type_parameters;
    where_clauses = old.where_clauses ++ clauses;
    parameters = old.parameters ++ parameters;
  }

-- an element of a list, after a front
abbrev pub listed : List ℕ → List ℕ → List ℕ
listed front text = front ++ (text ++ codes ",")

-- the line that closes the parameters; `()` isn't printed
abbrev pub closing : Option (List ℕ) → List ℕ
closing None = codes ")"
closing (Some text) = if pointwise nat_eq text (codes "()") then codes ")" else codes ") -> " ++ text

-- the lines of where clauses, none where there are none
abbrev pub where_lines : List (List ℕ) → List (List ℕ)
where_lines [] = []
where_lines (c ∷ cs) = codes "where" ∷ map (listed (codes "    ")) (c ∷ cs)

-- the line with the name
abbrev pub opening : Visibility → List ℕ → List ℕ
opening visibility name = visibility_text visibility ++ (codes "fn " ++ (name ++ codes "<"))

-- the lines up to the parameters
abbrev pub parameter_lines : Visibility → Header → List (List ℕ)
parameter_lines visibility h =
    opening visibility h.name ∷ [] ++ map (listed (codes "    ")) h.type_parameters
    ++ codes ">(" ∷ [] ++ map (listed []) h.parameters

-- the lines of a header under a visibility
abbrev pub header_lines : Visibility → Header → List (List ℕ)
header_lines visibility h =
    parameter_lines visibility h ++ closing h.return_type ∷ [] ++ where_lines h.where_clauses

module _ (W : RattleType) where
  -- the new header holds the reference to the writer; where there is none, the writer is as it was
  abbrev pub RestsIfRefused : {V E : Type 0} →
      FnHeader W.Denot V HeaderTexts → Result (FnHeader W.Denot V HeaderTexts) E → Fml
  RestsIfRefused h r =
      RestsIfErr (the_row W) (writer_of h) (λ made. (writer_of made).ghost_name) r (λ w. w ≡ (writer_of h).now)
