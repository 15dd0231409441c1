-- The text of a type that doesn't hold the prefix, but inside the error terminal's type, holds no parse error.
use Rattle.std.proofs.Common.{◌≡◌, ℕ, suc, ◌==◌, Bool, true, false, not, ◌&&◌, ◌||◌, List, [], ◌∷◌, ◌++◌, length, map, drop, codes, Option, Some, None, String, Global, refl, ap, sym, subst, ◌∙◌, arith, append_assoc, if◌then◌else◌, ⊎_elim}
use Rattle.std.specs.Prelude.{string_bytes, nat_eq}
use Rattle.std.specs.List.{list_all, flat_map, join_by, starts_with}
use Rattle.std.proofs.lemmas.Bool.{and_parts, eqb-true, or_cases}
use Rattle.std.proofs.Math.Seq.{drop-append_seam}
use Rattle.std.proofs.lemmas.Slice.Eq.{bytes_eq-Decides}
use Rattle.lp_repr.specs.Names.{same_text}
use Rattle.lp_repr.specs.Shown.{parameter_text, path_text, binder_text}
use Rattle.lp_repr.specs.ShownTypes.{tuple_text, parameters_text, arguments_text, reference_text, fn_head_text, type_text, row_texts, held_text}
use Rattle.lp_repr.specs.declared.parse_tree.Path.{Path}
use Rattle.lp_repr.specs.declared.parse_tree.TypeParameter.{TypeParameter}
use Rattle.lp_repr.specs.declared.repr.TypeRepr.{TypeRepr, Tuple', Slice', Nominal', Associated, TraitObject', Lifetime, Ref', Fn', Row_of-TypeRepr, end_of-TypeRepr, more_of-TypeRepr, items-the_row-TypeRepr, Held-TypeRepr-Fn-3, None', Some'}
use Rattle.lp_repr.specs.declared.repr.Types.{Types}
use Rattle.lp_spelling.specs.HoleEnds.{is_word}
use Rattle.lp_valid.specs.PrefixRules.{lacks, same_type, is_unit, is_one_name, is_str, is_static, is_static_str, is_location, is_user_error, are_error_names, are_error_arguments, is_error_type, is_clear_lifetime, is_clear_reference, is_clear_binder, is_clear_head, is_clear, is_clear_row, is_clear_ret}
use Rattle.lp_question_laws.proofs.Gotos.LinkHeaders.{lacks_by, has_no}
use Rattle.lp_question_laws.proofs.Actions.EqualTypes.{equal_clear}
use Rattle.lp_question_laws.proofs.Actions.Occurs.{StartsOut, EndsOut, front_is, name_free, IsFree, AllFree, free_left, free_right, joined_free, crate_name, clear_free, lacking_free}

module _ (prefix : List ℕ) (words : list_all is_word (prefix ++ codes "lalrpop_util") ≡ true) where
  abbrev pub Free : List ℕ → Type 0
  Free s = IsFree (crate_name prefix words) words s

  abbrev pub FreeAll : List (List ℕ) → Type 0
  FreeAll ts = AllFree (crate_name prefix words) words ts

  -- what is printed between
  plain_free : (s : List ℕ) → has_no 95 s ≡ true → Free s
  plain_free s h = lacking_free prefix words s (lacks_by 95 s h)

  left : (s t : List ℕ) → has_no 95 s ≡ true → EndsOut s → Free t → Free (s ++ t)
  left s t h out f = free_left (crate_name prefix words) words s t (plain_free s h) f out

  right : (s t : List ℕ) → Free s → Free t → StartsOut t → Free (s ++ t)
  right s t f h out = free_right (crate_name prefix words) words s t f h out

  comma_free : (ts : List (List ℕ)) → FreeAll ts → Free (join_by (λ t. t) (codes ", ") ts)
  comma_free ts h = joined_free (crate_name prefix words) words 44 (32 ∷ []) (plain_free (codes ", ") refl) refl refl ts h

  colons_free : (ts : List (List ℕ)) → FreeAll ts → Free (join_by (λ t. t) (codes "::") ts)
  colons_free ts h = joined_free (crate_name prefix words) words 58 (58 ∷ []) (plain_free (codes "::") refl) refl refl ts h

  all_clear : (ts : List (List ℕ)) → list_all (lacks prefix) ts ≡ true → FreeAll ts
  all_clear [] h = tt
  all_clear (t ∷ ts) h = let p = and_parts (lacks prefix t) (list_all (lacks prefix) ts) h in (clear_free prefix words t p.0, all_clear ts p.1)

  tuple_free : (ts : List (List ℕ)) → FreeAll ts → Free (tuple_text (λ t. t) ts)
  tuple_free ts h = left (codes "(") _ refl refl (right (join_by (λ t. t) (codes ", ") ts) _ (comma_free ts h) (by (length ts == 1)) (out (length ts == 1)))
    where
      by : (b : Bool) → Free (if b then codes ",)" else codes ")")
      by true = plain_free (codes ",)") refl
      by false = plain_free (codes ")") refl

      out : (b : Bool) → StartsOut (if b then codes ",)" else codes ")")
      out true = refl
      out false = refl

  arguments_free : (ts : List (List ℕ)) → FreeAll ts → Free (arguments_text (λ t. t) ts)
  arguments_free [] h = tt
  arguments_free (t ∷ ts) h = left (codes "<") _ refl refl (right (join_by (λ t. t) (codes ", ") (t ∷ ts)) (codes ">") (comma_free (t ∷ ts) h) (plain_free (codes ">") refl) refl)

  arguments_start : (ts : List (List ℕ)) → StartsOut (arguments_text (λ t. t) ts)
  arguments_start [] = tt
  arguments_start (t ∷ ts) = refl

  path_free : (path : Path) → list_all (lacks prefix) path.ids ≡ true → Free (path_text path)
  path_free path h = by path.absolute
    where
      by : (b : Bool) → Free ((if b then codes "::" else []) ++ join_by (λ t. t) (codes "::") path.ids)
      by true = left (codes "::") _ refl refl (colons_free path.ids (all_clear path.ids h))
      by false = colons_free path.ids (all_clear path.ids h)

  -- ---- binders, references, heads of functions

  joined_map : {T : Type 0} (f : T → List ℕ) (sep : List ℕ) (xs : List T) → flat_map (λ y. sep ++ f y) xs ≡ flat_map (λ y. sep ++ y) (map f xs)
  joined_map f sep [] = refl
  joined_map f sep (x ∷ xs) = ap (λ l. (sep ++ f x) ++ l) (joined_map f sep xs)

  parameters_clear : (bs : List TypeParameter) → list_all (λ b. lacks prefix (parameter_text b)) bs ≡ true → FreeAll (map parameter_text bs)
  parameters_clear [] h = tt
  parameters_clear (b ∷ bs) h = let p = and_parts (lacks prefix (parameter_text b)) (list_all (λ b. lacks prefix (parameter_text b)) bs) h in (clear_free prefix words (parameter_text b) p.0, parameters_clear bs p.1)

  binder_free : (bs : List TypeParameter) (rest : List ℕ) → is_clear_binder prefix bs ≡ true → Free rest → Free (binder_text bs ++ rest)
  binder_free [] rest h f = f
  binder_free (b ∷ bs) rest h f =
      let names = and_parts (lacks prefix (codes "for")) (list_all (λ b. lacks prefix (parameter_text b)) (b ∷ bs)) h in
      let joined = join_by parameter_text (codes ", ") (b ∷ bs) in
      let same : join_by (λ t. t) (codes ", ") (map parameter_text (b ∷ bs)) ≡ joined = ap (λ l. parameter_text b ++ l) (sym (joined_map parameter_text (codes ", ") bs)) in
      let all : Free joined = subst Free same (comma_free (map parameter_text (b ∷ bs)) (parameters_clear (b ∷ bs) names.1)) in
      left (codes "for<") _ refl refl (subst Free (sym (append_assoc joined (codes "> ") rest)) (right joined (codes "> " ++ rest) all (left (codes "> ") rest refl refl f) refl))

  abbrev IsFreeLifetime : Option (String Global) → Type 0
  IsFreeLifetime None = Unit {0}
  IsFreeLifetime (Some name) = Free (string_bytes name)

  lifetime_free : (lifetime : Option (String Global)) → is_clear_lifetime prefix lifetime ≡ true → IsFreeLifetime lifetime
  lifetime_free None h = tt
  lifetime_free (Some name) h = clear_free prefix words (string_bytes name) h

  mutable_free : (b : Bool) (rest : List ℕ) → Free rest → Free ((if b then codes "mut " else []) ++ rest)
  mutable_free true rest f = left (codes "mut ") rest refl refl f
  mutable_free false rest f = f

  reference_free : (lifetime : Option (String Global)) (b : Bool) (rest : List ℕ) → IsFreeLifetime lifetime → Free rest → Free (reference_text lifetime b ++ rest)
  reference_free None b rest h f = left (codes "&") ((if b then codes "mut " else []) ++ rest) refl refl (mutable_free b rest f)
  reference_free (Some name) b rest h f =
      let tail = (if b then codes "mut " else []) ++ rest in
      left (codes "&") _ refl refl (subst Free (sym (append_assoc (string_bytes name) (codes " " ++ (if b then codes "mut " else [])) rest)) (right (string_bytes name) (codes " " ++ tail) h (left (codes " ") tail refl refl (mutable_free b rest f)) refl))

  head_free : (bs : List TypeParameter) (path : Path) → is_clear_head prefix bs path ≡ true → Free (fn_head_text bs path)
  head_free bs path h =
      let p = and_parts (lacks prefix (codes "dyn")) (is_clear_binder prefix bs && list_all (lacks prefix) path.ids) h in
      let q = and_parts (is_clear_binder prefix bs) (list_all (lacks prefix) path.ids) p.1 in
      left (codes "dyn ") _ refl refl (binder_free bs (path_text path) q.0 (path_free path q.1))

  -- ---- the error terminal's type

  texts_equal : (a b : List ℕ) → same_text a b ≡ true → a ≡ b
  texts_equal a b h = (bytes_eq-Decides a b).0 h

  error_path : (path : Path) (rest : List ℕ) → (not path.absolute && are_error_names prefix path.ids) ≡ true → Free rest → StartsOut rest → Free (path_text path ++ rest)
  error_path path rest h f out =
      let p = and_parts (not path.absolute) (are_error_names prefix path.ids) h in
      by path.absolute p.0 path.ids p.1
    where
      name_is : (first name : List ℕ) → ((starts_with nat_eq first prefix && same_text (drop (length prefix) first) (codes "lalrpop_util")) && same_text name (codes "ErrorRecovery")) ≡ true → (first ≡ crate_name prefix words) × (name ≡ codes "ErrorRecovery")
      name_is first name e =
          let a = and_parts (starts_with nat_eq first prefix && same_text (drop (length prefix) first) (codes "lalrpop_util")) (same_text name (codes "ErrorRecovery")) e in
          let b = and_parts (starts_with nat_eq first prefix) (same_text (drop (length prefix) first) (codes "lalrpop_util")) a.0 in
          let r = front_is prefix first b.0 in
          let behind : r.0 ≡ codes "lalrpop_util" = sym (drop-append_seam prefix r.0) ∙ ap (drop (length prefix)) (sym r.1) ∙ texts_equal (drop (length prefix) first) (codes "lalrpop_util") b.1 in
          (r.1 ∙ ap (λ l. prefix ++ l) behind, texts_equal name (codes "ErrorRecovery") a.1)

      whole : (first name : List ℕ) → first ≡ crate_name prefix words → name ≡ codes "ErrorRecovery" → Free ((first ++ ((codes "::" ++ name) ++ [])) ++ rest)
      whole first name a b =
          let t = codes "::ErrorRecovery" ++ rest in
          let free : Free t = right (codes "::ErrorRecovery") rest (plain_free (codes "::ErrorRecovery") refl) f out in
          let all : Free (crate_name prefix words ++ t) = name_free (crate_name prefix words) words t (codes "rrorRecovery" ++ rest) refl free refl in
          subst (λ l. Free ((l ++ ((codes "::" ++ name) ++ [])) ++ rest)) (sym a)
          (subst (λ l. Free ((crate_name prefix words ++ ((codes "::" ++ l) ++ [])) ++ rest)) (sym b)
          (subst Free (sym (append_assoc (crate_name prefix words) (codes "::ErrorRecovery") rest)) all))

      by : (absolute : Bool) → not absolute ≡ true → (ids : List (List ℕ)) → are_error_names prefix ids ≡ true → Free (((if absolute then codes "::" else []) ++ join_by (λ t. t) (codes "::") ids) ++ rest)
      by true n ids e = absurd (let bad : false ≡ true = n in cc)
      by false n [] e = absurd (let bad : false ≡ true = e in cc)
      by false n (first ∷ []) e = absurd (let bad : false ≡ true = e in cc)
      by false n (first ∷ (name ∷ [])) e = let k = name_is first name e in whole first name k.0 k.1
      by false n (first ∷ (name ∷ (other ∷ ids))) e = absurd (let bad : false ≡ true = e in cc)

  -- ---- `()` and `&'static str`

  none_row : {m : _} (row : Row_of-TypeRepr m) → (length (items-the_row-TypeRepr _ row) == 0) ≡ true → row_texts row ≡ []
  none_row end_of-TypeRepr h = refl
  none_row (more_of-TypeRepr ty rest) h = absurd (let e = eqb-true (suc (length (items-the_row-TypeRepr _ rest))) 0 h in omega (arith, e))

  unit_free : (ty : TypeRepr) → is_unit ty ≡ true → Free (type_text ty)
  unit_free (Tuple' shape row) h = subst (λ ts. Free (tuple_text (λ t. t) ts)) (sym (none_row row h)) (plain_free (codes "()") refl)
  unit_free (Slice' p element) h = absurd (let bad : false ≡ true = h in cc)
  unit_free (Nominal' path shape row) h = absurd (let bad : false ≡ true = h in cc)
  unit_free (TraitObject' path shape row) h = absurd (let bad : false ≡ true = h in cc)
  unit_free (Associated name id) h = absurd (let bad : false ≡ true = h in cc)
  unit_free (Lifetime name) h = absurd (let bad : false ≡ true = h in cc)
  unit_free (Ref' lifetime mutable p referent) h = absurd (let bad : false ≡ true = h in cc)
  unit_free (Fn' binder path shape row ret) h = absurd (let bad : false ≡ true = h in cc)

  one_free : (name : List ℕ) (ids : List (List ℕ)) → Free name → is_one_name name ids ≡ true → FreeAll ids
  one_free name [] f h = tt
  one_free name (one ∷ []) f h = (subst Free (sym (texts_equal one name h)) f, tt)
  one_free name (one ∷ (other ∷ ids)) f h = absurd (let bad : false ≡ true = h in cc)

  ids_free : (path : Path) → FreeAll path.ids → Free (path_text path)
  ids_free path f = by path.absolute
    where
      by : (b : Bool) → Free ((if b then codes "::" else []) ++ join_by (λ t. t) (codes "::") path.ids)
      by true = left (codes "::") _ refl refl (colons_free path.ids f)
      by false = colons_free path.ids f

  str_free : (ty : TypeRepr) → is_str ty ≡ true → Free (type_text ty)
  str_free (Nominal' path shape row) h =
      let p = and_parts (length (items-the_row-TypeRepr _ row) == 0) (not path.absolute && is_one_name (codes "str") path.ids) h in
      let q = and_parts (not path.absolute) (is_one_name (codes "str") path.ids) p.1 in
      subst (λ ts. Free (path_text path ++ arguments_text (λ t. t) ts)) (sym (none_row row p.0))
      (right (path_text path) [] (ids_free path (one_free (codes "str") path.ids (plain_free (codes "str") refl) q.1)) tt tt)
  str_free (Tuple' shape row) h = absurd (let bad : false ≡ true = h in cc)
  str_free (Slice' p element) h = absurd (let bad : false ≡ true = h in cc)
  str_free (TraitObject' path shape row) h = absurd (let bad : false ≡ true = h in cc)
  str_free (Associated name id) h = absurd (let bad : false ≡ true = h in cc)
  str_free (Lifetime name) h = absurd (let bad : false ≡ true = h in cc)
  str_free (Ref' lifetime mutable p referent) h = absurd (let bad : false ≡ true = h in cc)
  str_free (Fn' binder path shape row ret) h = absurd (let bad : false ≡ true = h in cc)

  static_lifetime : (lifetime : Option (String Global)) → is_static lifetime ≡ true → IsFreeLifetime lifetime
  static_lifetime None h = tt
  static_lifetime (Some name) h = subst Free (sym (texts_equal (string_bytes name) (codes "'static") h)) (plain_free (codes "'static") refl)

  static_free : (ty : TypeRepr) → is_static_str ty ≡ true → Free (type_text ty)
  static_free (Ref' lifetime mutable p referent) h =
      let a = and_parts (not mutable) (is_static lifetime && is_str referent) h in
      let b = and_parts (is_static lifetime) (is_str referent) a.1 in
      reference_free lifetime mutable (type_text referent) (static_lifetime lifetime b.0) (str_free referent b.1)
  static_free (Tuple' shape row) h = absurd (let bad : false ≡ true = h in cc)
  static_free (Slice' p element) h = absurd (let bad : false ≡ true = h in cc)
  static_free (Nominal' path shape row) h = absurd (let bad : false ≡ true = h in cc)
  static_free (TraitObject' path shape row) h = absurd (let bad : false ≡ true = h in cc)
  static_free (Associated name id) h = absurd (let bad : false ≡ true = h in cc)
  static_free (Lifetime name) h = absurd (let bad : false ≡ true = h in cc)
  static_free (Fn' binder path shape row ret) h = absurd (let bad : false ≡ true = h in cc)

  -- ---- types

  module _ (types : Types) where
    -- the types of locations, tokens and errors are clear
    pub record AreClear : Type 0 where
      pub loc : (l : TypeRepr) → types.loc ≡ Some l → is_clear prefix types l ≡ true
      pub token : is_clear prefix types types.token ≡ true
      pub error : (e : TypeRepr) → types.error ≡ Some e → is_clear prefix types e ≡ true

    module _ (clear : AreClear) where
      location_free : (ty : TypeRepr) → is_location types.loc ty ≡ true → (is_clear prefix types ty ≡ true → Free (type_text ty)) → Free (type_text ty)
      location_free ty h f = by types.loc refl h
        where
          by : (o : Option TypeRepr) → types.loc ≡ o → is_location o ty ≡ true → Free (type_text ty)
          by None is e = unit_free ty e
          by (Some l) is e = f (equal_clear prefix types ty l e (clear.loc l is))

      user_free : (ty : TypeRepr) → is_user_error types.error ty ≡ true → (is_clear prefix types ty ≡ true → Free (type_text ty)) → Free (type_text ty)
      user_free ty h f = by types.error refl h
        where
          by : (o : Option TypeRepr) → types.error ≡ o → is_user_error o ty ≡ true → Free (type_text ty)
          by None is e = static_free ty e
          by (Some l) is e = f (equal_clear prefix types ty l e (clear.error l is))

      held_start : (ret : Held-TypeRepr-Fn-3) → StartsOut (held_text ret)
      held_start None' = tt
      held_start (Some' p ty) = refl

      mutual
        pub type_free : (ty : TypeRepr) → is_clear prefix types ty ≡ true → Free (type_text ty)
        type_free (Tuple' shape row) h = tuple_free (row_texts row) (row_free row h)
        type_free (Slice' p element) h = left (codes "[") _ refl refl (right (type_text element) (codes "]") (type_free element h) (plain_free (codes "]") refl) refl)
        type_free (Nominal' path shape row) h =
            ⊎_elim
            (λ e. let p = and_parts (not path.absolute && are_error_names prefix path.ids) (are_error_arguments types (items-the_row-TypeRepr _ row)) e in error_path path (arguments_text (λ t. t) (row_texts row)) p.0 (arguments_free (row_texts row) (error_free row p.1)) (arguments_start (row_texts row)))
            (λ e. let p = and_parts (list_all (lacks prefix) path.ids) (is_clear_row prefix types row) e in right (path_text path) (arguments_text (λ t. t) (row_texts row)) (path_free path p.0) (arguments_free (row_texts row) (row_free row p.1)) (arguments_start (row_texts row)))
            (or_cases (is_error_type prefix types path (items-the_row-TypeRepr _ row)) (list_all (lacks prefix) path.ids && is_clear_row prefix types row) h)
        type_free (TraitObject' path shape row) h =
            let p = and_parts (lacks prefix (codes "dyn")) (list_all (lacks prefix) path.ids && is_clear_row prefix types row) h in
            let q = and_parts (list_all (lacks prefix) path.ids) (is_clear_row prefix types row) p.1 in
            left (codes "dyn ") _ refl refl (right (path_text path) (arguments_text (λ t. t) (row_texts row)) (path_free path q.0) (arguments_free (row_texts row) (row_free row q.1)) (arguments_start (row_texts row)))
        type_free (Associated name id) h =
            let p = and_parts (lacks prefix (string_bytes name)) (lacks prefix (string_bytes id)) h in
            right (string_bytes name) (codes "::" ++ string_bytes id) (clear_free prefix words (string_bytes name) p.0) (left (codes "::") (string_bytes id) refl refl (clear_free prefix words (string_bytes id) p.1)) refl
        type_free (Lifetime name) h = clear_free prefix words (string_bytes name) h
        type_free (Ref' lifetime mutable p referent) h =
            let a = and_parts (is_clear_reference prefix lifetime mutable) (is_clear prefix types referent) h in
            let b = and_parts (is_clear_lifetime prefix lifetime) (not mutable || lacks prefix (codes "mut")) a.0 in
            reference_free lifetime mutable (type_text referent) (lifetime_free lifetime b.0) (type_free referent a.1)
        type_free (Fn' binder path shape row ret) h =
            let a = and_parts (is_clear_head prefix binder.items path) (is_clear_row prefix types row && is_clear_ret prefix types ret) h in
            let b = and_parts (is_clear_row prefix types row) (is_clear_ret prefix types ret) a.1 in
            let params : Free (parameters_text (λ t. t) (row_texts row)) = left (codes "(") _ refl refl (right (join_by (λ t. t) (codes ", ") (row_texts row)) (codes ")") (comma_free (row_texts row) (row_free row b.0)) (plain_free (codes ")") refl) refl) in
            right (fn_head_text binder.items path) (parameters_text (λ t. t) (row_texts row) ++ held_text ret) (head_free binder.items path a.0) (right (parameters_text (λ t. t) (row_texts row)) (held_text ret) params (held_free ret b.1) (held_start ret)) refl

        row_free : {m : _} (row : Row_of-TypeRepr m) → is_clear_row prefix types row ≡ true → FreeAll (row_texts row)
        row_free end_of-TypeRepr h = tt
        row_free (more_of-TypeRepr ty rest) h = let p = and_parts (is_clear prefix types ty) (is_clear_row prefix types rest) h in (type_free ty p.0, row_free rest p.1)

        held_free : (ret : Held-TypeRepr-Fn-3) → is_clear_ret prefix types ret ≡ true → Free (held_text ret)
        held_free None' h = tt
        held_free (Some' p ty) h = left (codes " -> ") (type_text ty) refl refl (type_free ty h)

        error_free : {m : _} (row : Row_of-TypeRepr m) → are_error_arguments types (items-the_row-TypeRepr _ row) ≡ true → FreeAll (row_texts row)
        error_free end_of-TypeRepr h = tt
        error_free (more_of-TypeRepr l end_of-TypeRepr) h = absurd (let bad : false ≡ true = h in cc)
        error_free (more_of-TypeRepr l (more_of-TypeRepr t end_of-TypeRepr)) h = absurd (let bad : false ≡ true = h in cc)
        error_free (more_of-TypeRepr l (more_of-TypeRepr t (more_of-TypeRepr e end_of-TypeRepr))) h =
            let p = and_parts (is_location types.loc l && same_type t types.token) (is_user_error types.error e) h in
            let q = and_parts (is_location types.loc l) (same_type t types.token) p.0 in
            (location_free l q.0 (type_free l), (type_free t (equal_clear prefix types t types.token q.1 clear.token), (user_free e p.1 (type_free e), tt)))
        error_free (more_of-TypeRepr l (more_of-TypeRepr t (more_of-TypeRepr e (more_of-TypeRepr other rest)))) h = absurd (let bad : false ≡ true = h in cc)
