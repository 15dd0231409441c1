-- Of equal types the rule on prefixes says the same.
use Rattle.std.proofs.Common.{◌≡◌, ℕ, ◌==◌, Bool, true, false, not, ◌&&◌, ◌||◌, List, [], ◌∷◌, codes, Option, None, Some, String, Global, refl, sym, ap, ◌∙◌, arith, true≢false}
use Rattle.std.specs.Cmp.Lexicographic.{pointwise, as_long}
use Rattle.std.specs.List.{list_all}
use Rattle.std.proofs.lemmas.Bool.{and_parts}
use Rattle.lp_repr.specs.Names.{same_text}
use Rattle.lp_repr.specs.TypeOrder.{type_eq}
use Rattle.lp_repr.specs.SameTypes.{same_row, same_ret, SameParts, same_tuples, same_slices, same_nominals, same_objects, same_associated, same_lifetimes, same_references, same_functions}
use Rattle.lp_repr.specs.TypeTrees.{name_of}
use Rattle.lp_repr.proofs.SameTypes.{same_parts}
use Rattle.lp_repr.specs.contracts.repr.TypeReprEq.TheImpl.Laws as equivalence
use Rattle.lp_repr.specs.declared.repr.TypeRepr.{TypeRepr, Tuple', Slice', Nominal', Associated, TraitObject', Lifetime, Ref', Fn', Row_of-TypeRepr, end_of-TypeRepr, more_of-TypeRepr, Held-TypeRepr-Fn-3, None', Some'}
use Rattle.lp_repr.specs.declared.repr.Types.{Types}
use Rattle.lp_valid.specs.PrefixRules.{same_type, lacks, is_unit, is_one_name, is_str, is_static, is_static_str, is_location, is_user_error, are_error_names, are_error_arguments, is_clear_lifetime, is_clear_head, is_clear, is_clear_row, is_clear_ret}

-- two lifetimes of one name
abbrev asked : (List ℕ → Bool) → Bool → Option (List ℕ) → Bool
asked P none None = none
asked P none (Some name) = P name

static_asked : (lifetime : Option (String Global)) → is_static lifetime ≡ asked (λ name. same_text name (codes "'static")) false (name_of lifetime)
static_asked None = refl
static_asked (Some name) = refl

same_static : (one other : Option (String Global)) → name_of one ≡ name_of other → is_static one ≡ is_static other
same_static one other e = static_asked one ∙ (ap (asked (λ name. same_text name (codes "'static")) false) e ∙ sym (static_asked other))

clear_asked : (prefix : List ℕ) (lifetime : Option (String Global)) → is_clear_lifetime prefix lifetime ≡ asked (lacks prefix) true (name_of lifetime)
clear_asked prefix None = refl
clear_asked prefix (Some name) = refl

same_lifetime : (prefix : List ℕ) (one other : Option (String Global)) → name_of one ≡ name_of other → is_clear_lifetime prefix one ≡ is_clear_lifetime prefix other
same_lifetime prefix one other e = clear_asked prefix one ∙ (ap (asked (lacks prefix) true) e ∙ sym (clear_asked prefix other))

-- the types that a grammar has where it names none
same_unit : {a b : TypeRepr} → SameParts a b → is_unit a ≡ is_unit b
same_unit (same_tuples e) = ap (λ n. n == 0) (as_long type_eq _ _ e)
same_unit _ = refl

same_str : {a b : TypeRepr} → SameParts a b → is_str a ≡ is_str b
same_str (same_nominals p e) = λ i. (as_long type_eq _ _ e i == 0) && (not (p i).absolute && is_one_name (codes "str") (p i).ids)
same_str _ = refl

same_static_str : {a b : TypeRepr} → SameParts a b → is_static_str a ≡ is_static_str b
same_static_str (same_references l m r) = λ i. not (m i) && (same_static _ _ l i && same_str (same_parts _ _ r) i)
same_static_str _ = refl

same_with : (a b other : TypeRepr) → same_type a b ≡ true → same_type a other ≡ same_type b other
same_with a b other e = equivalence.laws-law.congr a b other e

same_location : (o : Option TypeRepr) (a b : TypeRepr) → same_type a b ≡ true → is_location o a ≡ is_location o b
same_location None a b e = same_unit (same_parts a b e)
same_location (Some location) a b e = same_with a b location e

same_error : (o : Option TypeRepr) (a b : TypeRepr) → same_type a b ≡ true → is_user_error o a ≡ is_user_error o b
same_error None a b e = same_static_str (same_parts a b e)
same_error (Some error) a b e = same_with a b error e

module _ (prefix : List ℕ) (types : Types) where
  same_arguments : (xs ys : List TypeRepr) → pointwise type_eq xs ys ≡ true → are_error_arguments types xs ≡ are_error_arguments types ys
  same_arguments [] [] e = refl
  same_arguments (a ∷ []) (b ∷ []) e = refl
  same_arguments (a ∷ (s ∷ [])) (b ∷ (t ∷ [])) e = refl
  same_arguments (a ∷ (s ∷ (x ∷ []))) (b ∷ (t ∷ (y ∷ []))) e =
      let p = and_parts (type_eq a b) (type_eq s t && (type_eq x y && true)) e in
      let q = and_parts (type_eq s t) (type_eq x y && true) p.1 in
      let r = and_parts (type_eq x y) true q.1 in
      λ i. (same_location types.loc a b p.0 i && same_with s t types.token q.0 i) && same_error types.error x y r.0 i
  same_arguments (a ∷ (s ∷ (x ∷ (u ∷ us)))) (b ∷ (t ∷ (y ∷ (v ∷ vs)))) e = refl
  same_arguments xs ys e = absurd (let long = as_long type_eq xs ys e in omega (arith, long))

  mutual
    clear_alike : (a b : TypeRepr) → SameParts a b → is_clear prefix types a ≡ is_clear prefix types b
    clear_alike (Tuple' s x) (Tuple' t y) (same_tuples e) = row_alike x y e
    clear_alike (Slice' p x) (Slice' q y) (same_slices e) = clear_alike x y (same_parts x y e)
    clear_alike (Nominal' h s x) (Nominal' k t y) (same_nominals p e) =
        λ i. ((not (p i).absolute && are_error_names prefix (p i).ids) && same_arguments _ _ e i) || (list_all (lacks prefix) (p i).ids && row_alike x y e i)
    clear_alike (TraitObject' h s x) (TraitObject' k t y) (same_objects p e) = λ i. lacks prefix (codes "dyn") && (list_all (lacks prefix) (p i).ids && row_alike x y e i)
    clear_alike (Associated n i) (Associated m j) (same_associated e f) = λ k. lacks prefix (e k) && lacks prefix (f k)
    clear_alike (Lifetime n) (Lifetime m) (same_lifetimes e) = ap (lacks prefix) e
    clear_alike (Ref' l m p x) (Ref' k n q y) (same_references e f r) = λ i. (same_lifetime prefix l k e i && (not (f i) || lacks prefix (codes "mut"))) && clear_alike x y (same_parts x y r) i
    clear_alike (Fn' b h s x r) (Fn' c k t y z) (same_functions e p f g) = λ i. is_clear_head prefix (e i) (p i) && (row_alike x y f i && ret_alike r z g i)
    clear_alike a b e = elim e [ ]

    row_alike : {m n : _} → (x : Row_of-TypeRepr m) (y : Row_of-TypeRepr n) → same_row x y ≡ true → is_clear_row prefix types x ≡ is_clear_row prefix types y
    row_alike end_of-TypeRepr end_of-TypeRepr e = refl
    row_alike end_of-TypeRepr (more_of-TypeRepr b ys) e = absurd (true≢false (sym e))
    row_alike (more_of-TypeRepr a xs) end_of-TypeRepr e = absurd (true≢false (sym e))
    row_alike (more_of-TypeRepr a xs) (more_of-TypeRepr b ys) e =
        let w = and_parts (type_eq a b) (same_row xs ys) e in
        λ i. clear_alike a b (same_parts a b w.0) i && row_alike xs ys w.1 i

    ret_alike : (r z : Held-TypeRepr-Fn-3) → same_ret r z ≡ true → is_clear_ret prefix types r ≡ is_clear_ret prefix types z
    ret_alike None' None' e = refl
    ret_alike None' (Some' q b) e = absurd (true≢false (sym e))
    ret_alike (Some' p a) None' e = absurd (true≢false (sym e))
    ret_alike (Some' p a) (Some' q b) e = clear_alike a b (same_parts a b e)

  -- a type that is equal to a clear one is clear
  pub equal_clear : (a b : TypeRepr) → same_type a b ≡ true → is_clear prefix types b ≡ true → is_clear prefix types a ≡ true
  equal_clear a b e clear = clear_alike a b (same_parts a b e) ∙ clear
