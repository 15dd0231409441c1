-- What the lists of a grammar in memory are counted by.
use Rattle.std.proofs.Common.{◌≡◌, ℕ, ◌+◌, ◌<◌, ◌≤◌, ◌^◌, Bool, true, false, List, [], ◌∷◌, ◌++◌, length, All, Some, subst, arith}
use Rattle.std.specs.Prelude.{slice_get, cond, nat_lt}
use Rattle.std.specs.List.{flat_map}
use Rattle.std.proofs.lemmas.List.{length-map, length-append}
use Rattle.std.proofs.lemmas.Option.{get_or_from_slice_get, slice_get_within}
use Rattle.lp_repr.specs.Numbering.{nonterminals_of, productions_of, terminals_of}
use Rattle.lp_repr.specs.declared.repr.ActionFnDefn.{ActionFnDefn}
use Rattle.lp_repr.specs.declared.repr.ActionFnDefnKind.TheVariants.{Inline}
use Rattle.lp_repr.specs.declared.repr.Grammar.{Grammar}
use Rattle.lp_repr.specs.declared.repr.InlinedSymbol.{InlinedSymbol}
use Rattle.lp_repr.specs.declared.repr.TypeRepr.{TypeRepr}
use Rattle.lp_actions.specs.Parameters.{symbols_of}
use Rattle.lp_parts.specs.Variants.{nonterminal_type, nonterminal_types, terminal_type, terminal_types, variant_number, variant_types, with_type, with_types}
use Rattle.lp_question_laws.specs.Reductions.Premises.{AreCounted}
use Rattle.lp_back_end_laws.specs.Filled.InMemory.{IsInMemory, IsKindInMemory, IsActionInMemory, IsProductionInMemory}

all_at : {X : Type 0} (P : X → Type 0) (xs : List X) (i : ℕ) (x : X) → All P xs → slice_get xs i ≡ Some x → P x
all_at P xs i x all at = subst P (get_or_from_slice_get xs i x x at) (all i x (slice_get_within xs i x at))

one_more : (types : List TypeRepr) (ty : TypeRepr) → length (with_type types ty) ≤ length types + 1
one_more types ty = by (nat_lt (variant_number types ty) (length types))
  where
    by : (b : Bool) → length (cond b types (types ++ ty ∷ [])) ≤ length types + 1
    by true = omega arith
    by false = (let size = length-append types (ty ∷ []) in omega (arith, size))

more : (types others : List TypeRepr) → length (with_types types others) ≤ length types + length others
more types [] = omega arith
more types (ty ∷ others) = (let one = one_more types ty in let rest = more (with_type types ty) others in omega (arith, one, rest))

-- there are at most as many variants as symbols
pub variants_few : (g : Grammar) → length (variant_types g) ≤ length (terminals_of g) + length (nonterminals_of g)
unfolding variant_types
variants_few g =
    let terminals = length-map (terminals_of g) (terminal_type g) in
    let nonterminals = length-map (nonterminals_of g) (nonterminal_type g) in
    let first = more [] (terminal_types g) in
    let both = more (with_types [] (terminal_types g)) (nonterminal_types g) in
    omega (arith, terminals, nonterminals, first, both)

pub counted : (g : Grammar) → IsInMemory g → AreCounted g
counted g memory = record {
  variants = (let few = variants_few g in let t = memory.terminals in let n = memory.nonterminals in omega (arith, few, t, n));
  symbols = λ i prod at. all_at IsProductionInMemory (productions_of g) i prod memory.productions at;
}

-- the symbols of an action that inlines others
pub inlined : (g : Grammar) → IsInMemory g → (n : ℕ) (a : ActionFnDefn) (outer : ℕ) (symbols : List InlinedSymbol) → slice_get g.action_fn_defns n ≡ Some a → a.kind ≡ Inline outer symbols
    → (length (flat_map symbols_of symbols) < 2 ^ 64) × (length symbols < 2 ^ 64)
inlined g memory n a outer symbols at is =
    let kind : IsKindInMemory (Inline outer symbols) = subst IsKindInMemory is (all_at IsActionInMemory g.action_fn_defns n a memory.actions at) in
    (kind.1, kind.0)
