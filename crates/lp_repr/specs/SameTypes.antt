-- What equal types have alike: their kind, and at each place the same words or equal types.
use Rattle.std.specs.Prelude.{◌≡◌, Bool, true, false, Vec, string_bytes}
use Rattle.std.specs.Cmp.Lexicographic.{pointwise}
use Rattle.std.specs.Global.{Global}
use Rattle.lp_repr.specs.TypeOrder.{type_eq}
use Rattle.lp_repr.specs.TypeTrees.{name_of}
use Rattle.lp_repr.specs.declared.parse_tree.TypeParameter.{TypeParameter}
use Rattle.lp_repr.specs.declared.repr.TypeRepr.{TypeRepr, Tuple', Slice', Nominal', Associated, TraitObject', Lifetime, Ref', Fn', Row_of-TypeRepr, items-the_row-TypeRepr, Held-TypeRepr-Fn-3, None', Some'}

-- each type of a list is equal to the other list's at its place
abbrev pub same_row : {m n : _} → Row_of-TypeRepr m → Row_of-TypeRepr n → Bool
same_row row other = pointwise type_eq (items-the_row-TypeRepr _ row) (items-the_row-TypeRepr _ other)

-- the results are equal, or there is none
abbrev pub same_ret : Held-TypeRepr-Fn-3 → Held-TypeRepr-Fn-3 → Bool
same_ret None' None' = true
same_ret None' (Some' q other) = false
same_ret (Some' p ty) None' = false
same_ret (Some' p ty) (Some' q other) = type_eq ty other

-- two types of one kind, whose parts are the same or equal
pub data SameParts : TypeRepr → TypeRepr → Type 0 where
  same_tuples : {shape shape' row row' : _} → same_row row row' ≡ true → SameParts (Tuple' shape row) (Tuple' shape' row')
  same_slices : {p p' element element' : _} → type_eq element element' ≡ true → SameParts (Slice' p element) (Slice' p' element')
  same_nominals : {path path' shape shape' row row' : _} → path ≡ path' → same_row row row' ≡ true → SameParts (Nominal' path shape row) (Nominal' path' shape' row')
  same_objects : {path path' shape shape' row row' : _} → path ≡ path' → same_row row row' ≡ true → SameParts (TraitObject' path shape row) (TraitObject' path' shape' row')
  same_associated : {name name' id id' : _} → string_bytes name ≡ string_bytes name' → string_bytes id ≡ string_bytes id' → SameParts (Associated name id) (Associated name' id')
  same_lifetimes : {name name' : _} → string_bytes name ≡ string_bytes name' → SameParts (Lifetime name) (Lifetime name')
  same_references : {lifetime lifetime' mutable mutable' p p' referent referent' : _} → name_of lifetime ≡ name_of lifetime' → mutable ≡ mutable' → type_eq referent referent' ≡ true
      → SameParts (Ref' lifetime mutable p referent) (Ref' lifetime' mutable' p' referent')
  same_functions : {binder binder' : Vec TypeParameter Global} {path path' shape shape' row row' ret ret' : _} → binder.items ≡ binder'.items → path ≡ path' → same_row row row' ≡ true → same_ret ret ret' ≡ true
      → SameParts (Fn' binder path shape row ret) (Fn' binder' path' shape' row' ret')
