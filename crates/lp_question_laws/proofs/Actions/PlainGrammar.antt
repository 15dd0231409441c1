-- A valid grammar is plain.
use Rattle.std.proofs.Common.{◌≡◌, ℕ, ◌+◌, ◌-◌, ◌<◌, ◌^◌, true, ◌&&◌, List, ◌∷◌, ◌++◌, length, codes, IsUtf8, Option, Some, None, refl, ap, sym, subst, ◌∙◌, arith}
use Rattle.std.specs.Prelude.{slice_get}
use Rattle.std.specs.List.{list_all, flat_map}
use Rattle.std.specs.BTreeMap.{values}
use Rattle.std.specs.Option.{option_to_list}
use Rattle.std.proofs.Math.Bool.{and-false}
use Rattle.std.proofs.lemmas.Bool.{and_parts}
use Rattle.std.proofs.lemmas.List.Folds.{list_all-append}
use Rattle.std.proofs.lemmas.Option.{slice_get_within}
use Rattle.lp_repr.specs.Numbering.{nonterminals_of}
use Rattle.lp_repr.specs.ShownTypes.{type_text}
use Rattle.lp_repr.specs.declared.repr.ActionFnDefn.{ActionFnDefn}
use Rattle.lp_repr.specs.declared.repr.ActionFnDefnKind.TheVariants as kind
use Rattle.lp_repr.specs.declared.repr.Grammar.{Grammar}
use Rattle.lp_repr.specs.declared.repr.InlinedSymbol.{InlinedSymbol}
use Rattle.lp_repr.specs.declared.repr.Parameter.{Parameter}
use Rattle.lp_repr.specs.declared.repr.TypeRepr.{TypeRepr}
use Rattle.lp_actions.specs.Parameters.{symbols_of}
use Rattle.lp_maker.specs.Texts.{begins}
use Rattle.lp_spelling.specs.HoleEnds.{is_word}
use Rattle.lp_valid.specs.PrefixRules.{is_clear, types_of, TypesAreClear, ReturnTypesAreClear}
use Rattle.lp_valid.specs.ValidGrammar.{IsValidGrammar, prefixes}
use Rattle.lp_question_laws.proofs.Actions.ClearTexts.{AreClear, type_free}
use Rattle.lp_question_laws.proofs.Actions.Depth.{IsPlainGrammar}
use Rattle.lp_question_laws.proofs.Actions.Fallible.{IsTold}
use Rattle.lp_question_laws.proofs.Actions.Occurs.{free_holds}
use Rattle.lp_question_laws.proofs.Actions.Plain.{plain_prefix, names_are_plain}
use Rattle.lp_question_laws.proofs.Actions.Rules.{passes}

module _ (g : Grammar) (valid : IsValidGrammar g) (words : list_all is_word (g.prefix ++ codes "lalrpop_util") ≡ true) where
  -- the rule on types and those behind it
  types_clear : (i : ℕ) → TypesAreClear g i
  types_clear i =
      let a = length (values g.start_nonterminals) in
      let b = length (nonterminals_of g) in
      let c = length g.parameters in
      let place = a + (b + (c + i)) in
      let at : place - a - b - c ≡ i = omega arith in
      subst (TypesAreClear g) at ((((valid prefixes place).1 (omega arith)).1 (omega arith)).1 (omega arith))

  own_clear : (i : ℕ) (ty : TypeRepr) → slice_get (types_of g.types) i ≡ Some ty → is_clear g.prefix g.types ty ≡ true
  own_clear i ty is = passes (is_clear g.prefix g.types) (types_of g.types) i ty is ((types_clear i).0 (slice_get_within (types_of g.types) i ty is))

  -- the type that an action returns
  returned_clear : (n : ℕ) (a : ActionFnDefn) → slice_get g.action_fn_defns n ≡ Some a → is_clear g.prefix g.types a.ret_type ≡ true
  returned_clear n a is =
      let many = length (types_of g.types) in
      let at : many + n - many ≡ n = omega arith in
      let rest = subst (ReturnTypesAreClear g) at ((types_clear (many + n)).1 (omega arith)) in
      passes (λ (b : ActionFnDefn). is_clear g.prefix g.types b.ret_type) g.action_fn_defns n a is (rest.0 (slice_get_within g.action_fn_defns n a is))

  location_there : (l : TypeRepr) (o : Option TypeRepr) (rest : List TypeRepr) → o ≡ Some l → slice_get (option_to_list o ++ rest) 0 ≡ Some l
  location_there l o rest is = ap (λ q. slice_get (option_to_list q ++ rest) 0) is

  token_there : (ty : TypeRepr) (o : Option TypeRepr) (rest : List TypeRepr) → (i : ℕ) × (slice_get (option_to_list o ++ (ty ∷ rest)) i ≡ Some ty)
  token_there ty None rest = (0, refl)
  token_there ty (Some l) rest = (1, refl)

  error_there : (e : TypeRepr) (o : Option TypeRepr) (ty : TypeRepr) (q : Option TypeRepr) (rest : List TypeRepr) → q ≡ Some e → (i : ℕ) × (slice_get (option_to_list o ++ (ty ∷ (option_to_list q ++ rest))) i ≡ Some e)
  error_there e None ty q rest is = (1, ap (λ x. slice_get (ty ∷ (option_to_list x ++ rest)) 1) is)
  error_there e (Some l) ty q rest is = (2, ap (λ x. slice_get (l ∷ ty ∷ (option_to_list x ++ rest)) 2) is)

  are_clear : AreClear g.prefix words g.types
  are_clear =
      let all = values g.types.terminals ++ values g.types.nonterminals in
      let t = token_there g.types.token g.types.loc (option_to_list g.types.error ++ all) in
      record {
        loc = λ l is. own_clear 0 l (location_there l g.types.loc (g.types.token ∷ (option_to_list g.types.error ++ all)) is);
        token = own_clear t.0 g.types.token t.1;
        error = λ e is. (let r = error_there e g.types.loc g.types.token g.types.error all is in own_clear r.0 e r.1);
      }

  -- no type that an action returns holds a parse error
  pub all_told : (n : ℕ) (a : ActionFnDefn) → slice_get g.action_fn_defns n ≡ Some a → IsTold g a
  all_told n a is calm =
      ap (λ b. begins (codes "Result<") (type_text a.ret_type) && b) (free_holds g.prefix words (type_text a.ret_type) (type_free g.prefix words g.types are_clear a.ret_type (returned_clear n a is)))
      ∙ and-false (begins (codes "Result<") (type_text a.ret_type))

  pub plain_grammar : 0 < length g.prefix → ((i : ℕ) (p : Parameter) → slice_get g.parameters i ≡ Some p → IsUtf8 p.name)
      → ((n : ℕ) (a : ActionFnDefn) (outer : ℕ) (symbols : List InlinedSymbol) → slice_get g.action_fn_defns n ≡ Some a → a.kind ≡ kind.Inline outer symbols → (length (flat_map symbols_of symbols) < 2 ^ 64) × (length symbols < 2 ^ 64))
      → IsPlainGrammar g
  plain_grammar some utf8 counted = record {
    prefix = plain_prefix g.prefix (and_parts (list_all is_word g.prefix) (list_all is_word (codes "lalrpop_util")) (sym (list_all-append is_word g.prefix (codes "lalrpop_util")) ∙ words)).0 some;
    names = names_are_plain g valid utf8;
    told = all_told;
    counted = counted;
  }
