-- The program of a grammar and its states: what stands below it is as its template says.
use Rattle.std.proofs.Common.{◌≡◌, ℕ, zero, suc, not, Bool, true, false, List, [], ◌∷◌, ◌++◌, length, map, All, IfSome, slice_get, Option, Some, None, if◌then◌else◌, refl, sym, subst}
use Rattle.std.specs.List.{list_any}
use Rattle.lp_form.specs.Classes.{members_of}
use Rattle.lp_form.specs.Templates.{steps_of, holes_of}
use Rattle.lp_form.specs.declared.class.Class.TheVariants as class
use Rattle.lp_form.specs.declared.part.Part.TheVariants as part
use Rattle.lp_form.specs.declared.template.Step.{Step}
use Rattle.lp_form.specs.declared.template.Step.TheVariants as step
use Rattle.lp_repr.specs.declared.lr1.Lr1State.{Lr1State}
use Rattle.lp_repr.specs.declared.lr1.StartStates.{StartStates}
use Rattle.lp_repr.specs.declared.repr.Grammar.{Grammar}
use Rattle.lp_repr.specs.declared.repr.InternToken.{InternToken}
use Rattle.lp_repr.specs.declared.repr.LrCodeGeneration.{LrCodeGeneration}
use Rattle.lp_repr.specs.declared.repr.LrCodeGeneration.TheVariants.{RecursiveAscent}
use Rattle.lp_repr.specs.declared.repr.MatchEntry.{MatchEntry}
use Rattle.lp_repr.specs.declared.repr.NonterminalString.{NonterminalString}
use Rattle.lp_tree.specs.ProgramTree.{Item, leaf}
use Rattle.lp_build.specs.Frame.{hole_if, intern_row, triple_holes, triple_part}
use Rattle.lp_build.specs.declared.frame.Triples.{Triples}
use Rattle.lp_build.specs.declared.frame.Triples.TheVariants.{Located, Plain}
use Rattle.lp_ascent.specs.BuiltAscent.{built_ascent_at, built_ascent_for}
use Rattle.lp_table.specs.BuiltTable.{built_for, built_table_at}
use Rattle.lp_table.specs.Starts.{start_for}
use Rattle.lp_actions.specs.ActionFunctions.{action_functions}
use Rattle.lp_assembly.specs.Built.{AreFollowed, AreModules, IsModuleBy, front_lines, implementations, intern_entry, intern_lines, joined_clauses, reexport_lines, token_lines, triple_lines}
use Rattle.lp_emitted.proofs.Actions.{CodesTold, action_functions_many}
use Rattle.lp_emitted.proofs.AscentModules.{built_ascent_one}
use Rattle.lp_emitted.proofs.Rows.{Told, Takes, beside, many_all, many_flat, many_map, many_one, one_leaf, optional_if, optional_none, optional_one, over_one, pairs_more, pairs_none, told_leaf}
use Rattle.lp_emitted.proofs.Sharing.{class_steps}
use Rattle.lp_emitted.proofs.Tables.{TablesTold}
use Rattle.lp_emitted.proofs.TableModules.{InnerTold, built_table_one, inner_uses_take}

-- what is asked of a grammar's uses and codes, and of the tables of its starts
pub record Given (T : Told) (g : Grammar) (states : List StartStates) : Type 0 where
  pub uses : All T.use_text g.uses
  pub inner : InnerTold T g
  pub codes : CodesTold T g.action_fn_defns
  pub tables : (start : ℕ) (list : StartStates) → slice_get states start ≡ Some list → TablesTold T g list.states

front_takes : {T : Told} (g : Grammar) → All T.use_text g.uses → Takes T (step.Many class.Attribute ∷ step.Many class.Use ∷ step.One class.StandardUses ∷ []) (front_lines g)
unfolding steps_of holes_of members_of
front_takes {T} g uses = beside
    (beside (many_flat class.Attribute (λ text. leaf part.Attribute (text ∷ [])) (λ text. many_one (one_leaf class.Attribute part.Attribute _ _ refl)) g.module_attributes)
    (many_all class.Use T.use_text (λ text. leaf part.UseLine (text ∷ [])) (λ text h. many_one (told_leaf class.Use part.UseLine _ _ refl (h, tt))) g.uses uses))
    (one_leaf class.StandardUses part.StandardUses _ _ refl)

-- the module of a start
ascent_module : {T : Told} (g : Grammar) (start : ℕ) (states : List Lr1State) → InnerTold T g → TablesTold T g states → (names : NonterminalString × NonterminalString) → slice_get g.start_nonterminals.entries start ≡ Some names → Takes T (step.One class.Module ∷ []) (built_ascent_at g states start)
ascent_module {T} g start states uses tables names e =
    subst (λ o. Takes T (step.One class.Module ∷ []) (built_ascent_for g states o)) (sym e) (built_ascent_one g states (start_for g names.0 names.1) uses tables)

table_module : {T : Told} (g : Grammar) (start : ℕ) (states : List Lr1State) → InnerTold T g → TablesTold T g states → (names : NonterminalString × NonterminalString) → slice_get g.start_nonterminals.entries start ≡ Some names → Takes T (step.One class.Module ∷ []) (built_table_at g states start)
table_module {T} g start states uses tables names e =
    subst (λ o. Takes T (step.One class.Module ∷ []) (built_for g states o)) (sym e) (built_table_one g states (start_for g names.0 names.1) uses tables)

module_by : {T : Told} (codegen : LrCodeGeneration) (g : Grammar) (start : ℕ) (states : List Lr1State) → InnerTold T g → TablesTold T g states → (lines : List Item) (names : NonterminalString × NonterminalString) → slice_get g.start_nonterminals.entries start ≡ Some names →
    IsModuleBy codegen g start states lines → Takes T (step.One class.Module ∷ []) lines
module_by {T} RecursiveAscent g start states uses tables lines names e m = subst (Takes T (step.One class.Module ∷ [])) (sym m) (ascent_module g start states uses tables names e)
module_by {T} _ g start states uses tables lines names e m = subst (Takes T (step.One class.Module ∷ [])) (sym m) (table_module g start states uses tables names e)

reexport_one : {T : Told} (g : Grammar) (public_name start : NonterminalString) → Takes T (step.One class.Reexport ∷ []) (reexport_lines g public_name start)
unfolding steps_of holes_of members_of
reexport_one g public_name start = one_leaf class.Reexport part.Reexport _ _ refl

abbrev pair_steps : List Step
pair_steps = step.Pairs class.Module class.Reexport ∷ []

followed : {T : Told} (g : Grammar) (start : ℕ) → InnerTold T g → (names : Option (NonterminalString × NonterminalString)) (list : Option StartStates) (before lines : List Item) → slice_get g.start_nonterminals.entries start ≡ names → IfSome list (λ found. TablesTold T g found.states) →
    Takes T pair_steps before → AreFollowed g start names list before lines → Takes T pair_steps lines
followed g start uses None list before lines e tables t m = absurd m
followed {T} g start uses (Some names) None before lines e tables t m = subst (Takes T pair_steps) (sym m) t
followed {T} g start uses (Some names) (Some list) before lines e tables t m =
    subst (Takes T pair_steps) (sym m.2)
    (pairs_more t (module_by g.algorithm.codegen g start list.states uses tables m.0 names e m.1) (reexport_one g names.0 names.1))

tabled : {T : Told} (g : Grammar) (states : List StartStates) (start : ℕ) → Given T g states → (list : Option StartStates) → slice_get states start ≡ list → IfSome list (λ found. TablesTold T g found.states)
tabled g states start given None e = tt
tabled g states start given (Some list) e = given.tables start list e

modules_take : {T : Told} (g : Grammar) (states : List StartStates) → Given T g states → (n : ℕ) (lines : List Item) → AreModules g states n lines → Takes T pair_steps lines
modules_take {T} g states given zero lines m = subst (Takes T pair_steps) (sym m) (pairs_none class.Module class.Reexport)
modules_take g states given (suc start) lines m =
    followed g start given.inner (slice_get g.start_nonterminals.entries start) (slice_get states start) m.0 lines refl (tabled g states start given (slice_get states start) refl) (modules_take g states given start m.0 m.1) m.2

-- the module of the tokens
intern_row_one : {T : Told} (skip : Bool) (literal : List ℕ) → Takes T (step.One class.InternRow ∷ []) ((if skip then part.InternSkip else part.InternKeep, literal ∷ [], [], 0) ∷ [])
unfolding steps_of holes_of members_of
intern_row_one true literal = one_leaf class.InternRow part.InternSkip _ _ refl
intern_row_one false literal = one_leaf class.InternRow part.InternKeep _ _ refl

intern_one : {T : Told} (g : Grammar) → InnerTold T g → (entries : List MatchEntry) → Takes T (step.One class.TokenModule ∷ []) (intern_lines g entries)
unfolding steps_of holes_of members_of
intern_one g uses entries = over_one class.TokenModule part.TokenModule {holes = []} refl refl
    (beside (beside (inner_uses_take g uses) (many_map class.InternRow intern_row (λ e. intern_row_one e.skip e.literal) (map intern_entry entries)))
    (optional_if class.WhitespaceRow part.WhitespaceRow (not (list_any (λ e. e.skip) (map intern_entry entries))) refl))

tokens_optional : {T : Told} (g : Grammar) → InnerTold T g → (tokens : Option InternToken) → Takes T (step.Optional class.TokenModule ∷ []) (token_lines g tokens)
tokens_optional g uses None = optional_none class.TokenModule
tokens_optional g uses (Some tokens) = optional_one (intern_one g uses tokens.match_entries)

-- how items become triples
triple_by : {T : Told} (clauses : Option (List ℕ)) (triples : Triples) (visibility parameters triple error : List ℕ) →
    Takes T (step.One class.ToTriple ∷ []) (leaf (triple_part clauses triples) (visibility ∷ parameters ∷ (hole_if clauses ++ (triple ∷ error ∷ triple_holes triples))))
unfolding steps_of holes_of members_of
triple_by (Some clauses) (Located t e) visibility parameters triple error = one_leaf class.ToTriple part.ToTripleLocatedWhere _ _ refl
triple_by None (Located t e) visibility parameters triple error = one_leaf class.ToTriple part.ToTripleLocated _ _ refl
triple_by (Some clauses) (Plain t e) visibility parameters triple error = one_leaf class.ToTriple part.ToTriplePlainWhere _ _ refl
triple_by None (Plain t e) visibility parameters triple error = one_leaf class.ToTriple part.ToTriplePlain _ _ refl

triple_one : {T : Told} (g : Grammar) → Takes T (step.One class.ToTriple ∷ []) (triple_lines g)
triple_one g = triple_by (joined_clauses g.where_clauses) (implementations g g.types.loc) _ _ _ _

-- what stands below the program
abbrev pub program_lines : Grammar → List Item → List Item
program_lines g modules = (((front_lines g ++ modules) ++ token_lines g g.intern_token) ++ action_functions g) ++ triple_lines g

pub program_takes : {T : Told} (g : Grammar) (states : List StartStates) → Given T g states → (modules : List Item) → AreModules g states (length g.start_nonterminals.entries) modules →
    Takes T (class_steps (steps_of part.Program)) (program_lines g modules)
unfolding steps_of
program_takes g states given modules each =
    beside (beside (beside (beside (front_takes g given.uses) (modules_take g states given (length g.start_nonterminals.entries) modules each)) (tokens_optional g given.inner g.intern_token)) (action_functions_many g given.codes)) (triple_one g)
