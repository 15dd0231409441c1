-- What the parameters hold, by their names.
use Rattle.std.proofs.Common.{◌≡◌, ℕ, List, [], ◌∷◌, map, Option, None, Some, refl, ap, ◌∙◌}
use Rattle.lp_repr.specs.declared.lr1.Lr1State.{Lr1State}
use Rattle.lp_repr.specs.declared.repr.Grammar.{Grammar}
use Rattle.lp_core.specs.Datum.{Unset}
use Rattle.lp_core.specs.Val.{Val, Plain}
use Rattle.lp_table.specs.Headers as header
use Rattle.lp_table.specs.Starts.{Start}
use Rattle.lp_view.specs.PartLists.{Form}
use Rattle.lp_maker.specs.declared.methods.Methods.{Methods}
use Rattle.lp_maker.specs.Slots.{slot_of}
use Rattle.lp_run.specs.ParseMethod.{parameters_of}
use Rattle.lp_turns.specs.Asking.{Asking}
use Rattle.lp_turns.specs.Readings.{param_val}
use Rattle.lp_question_laws.proofs.Gotos.GotoAnswered.{built_items}
use Rattle.lp_question_laws.proofs.Tables.Built.{RunsBuilt}
use Rattle.lp_question_laws.proofs.Reductions.Texts.{AllKeys, names_of}
use Rattle.lp_question_laws.proofs.Reductions.Field.{ns, params, slots_are}

-- what a slot among the parser's parameters holds
abbrev pub held_at : Option ℕ → Val
held_at None = Plain Unset
held_at (Some n) = param_val n

held_all : {A : Type 0} (f : A → Option ℕ) (xs : List A) (numbers : List ℕ) → map f xs ≡ map Some numbers → map param_val numbers ≡ map (λ x. held_at (f x)) xs
held_all f [] [] h = refl
held_all f [] (n ∷ numbers) h = (let e : List.[] ≡ Some n ∷ map Some numbers = h in cc)
held_all f (x ∷ xs) [] h = (let e : f x ∷ map f xs ≡ [] = h in cc)
held_all f (x ∷ xs) (n ∷ numbers) h =
    let e : f x ∷ map f xs ≡ Some n ∷ map Some numbers = h in
    let first : Some n ≡ f x = cc in
    let rest : map f xs ≡ map Some numbers = cc in
    ap (λ o. held_at o ∷ map param_val numbers) first ∙ ap (λ vs. held_at (f x) ∷ vs) (held_all f xs numbers rest)

module _ {prefix : List ℕ} {program : Form} {g : Grammar} {states : List Lr1State} {st : Start} {asked : Asking} {methods : Methods} (runs : RunsBuilt prefix program g states st asked methods) (same : prefix ≡ g.prefix) (keys : AllKeys g.prefix (names_of g.parameters)) where
  -- what a name holds
  abbrev pub held : List ℕ → Val
  held name = held_at (slot_of name (parameters_of prefix (built_items g states st)))

  -- the arguments for the parameters are what their names hold
  pub params_held : params runs same keys ≡ map held (header.names_of g)
  params_held = held_all (λ q. slot_of q (parameters_of prefix (built_items g states st))) (names_of g.parameters) (ns runs same keys) (slots_are runs same keys)
