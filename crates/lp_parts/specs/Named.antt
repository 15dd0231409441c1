-- Types whose references all have lifetimes, as trees. A reference without one gets the next of
-- those that are numbered, the outer one before those inside it.
use Rattle.std.specs.Prelude.{ℕ, ◌+◌, List, [], ◌∷◌, ◌++◌, codes, decimal, Option, Some, None}
use Rattle.lp_repr.specs.TypeTrees.{TypeTree, TypeTrees, tuple_type, slice_type, nominal_type, associated_type, object_type, lifetime_type, reference_type, function_type, end, more}

-- the lifetime of a number
abbrev pub new_lifetime : List ℕ → ℕ → List ℕ
new_lifetime prefix n = codes "'" ++ (prefix ++ decimal n)

-- the lifetime that a reference has, or the one of a number
abbrev pub lifetime_or : List ℕ → ℕ → Option (List ℕ) → List ℕ
lifetime_or prefix n None = new_lifetime prefix n
lifetime_or prefix n (Some name) = name

-- a reference without a lifetime counts
abbrev pub if_unnamed : Option (List ℕ) → ℕ
if_unnamed None = 1
if_unnamed (Some name) = 0

abbrev mutual
  -- how many references of a type have no lifetime
  pub unnamed : TypeTree → ℕ
  unnamed (tuple_type types) = unnamed_in types
  unnamed (slice_type element) = unnamed element
  unnamed (nominal_type path types) = unnamed_in types
  unnamed (associated_type name id) = 0
  unnamed (object_type path types) = unnamed_in types
  unnamed (lifetime_type name) = 0
  unnamed (reference_type lifetime mutable referent) = if_unnamed lifetime + unnamed referent
  unnamed (function_type binder path types ret) = unnamed_in types + unnamed_in ret

  -- of types in a row
  pub unnamed_in : TypeTrees → ℕ
  unnamed_in end = 0
  unnamed_in (more ty types) = unnamed ty + unnamed_in types

abbrev mutual
  -- a type with lifetimes from this number on
  pub named : List ℕ → ℕ → TypeTree → TypeTree
  named prefix n (tuple_type types) = tuple_type (named_in prefix n types)
  named prefix n (slice_type element) = slice_type (named prefix n element)
  named prefix n (nominal_type path types) = nominal_type path (named_in prefix n types)
  named prefix n (associated_type name id) = associated_type name id
  named prefix n (object_type path types) = object_type path (named_in prefix n types)
  named prefix n (lifetime_type name) = lifetime_type name
  named prefix n (reference_type lifetime mutable referent) =
      reference_type (Some (lifetime_or prefix n lifetime)) mutable (named prefix (n + if_unnamed lifetime) referent)
  named prefix n (function_type binder path types ret) =
      function_type binder path (named_in prefix n types) (named_in prefix (n + unnamed_in types) ret)

  -- types in a row
  pub named_in : List ℕ → ℕ → TypeTrees → TypeTrees
  named_in prefix n end = end
  named_in prefix n (more ty types) = more (named prefix n ty) (named_in prefix (n + unnamed ty) types)

-- the same of lists
abbrev pub unnamed_of : List TypeTree → ℕ
unnamed_of [] = 0
unnamed_of (t ∷ ts) = unnamed t + unnamed_of ts

abbrev pub named_of : List ℕ → ℕ → List TypeTree → List TypeTree
named_of prefix n [] = []
named_of prefix n (t ∷ ts) = named prefix n t ∷ named_of prefix (n + unnamed t) ts
