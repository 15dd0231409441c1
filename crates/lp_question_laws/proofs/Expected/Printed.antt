-- The functions that the printed forms of trials become.
use Rattle.std.proofs.Common.{◌≡◌, ℕ, true, false, List, [], ◌∷◌, length, Option, Some, refl, sym, ap, ◌∙◌, codes, append-nil}
use Rattle.std.specs.Prelude.{slice_get}
use Rattle.lp_repr.specs.declared.lr1.Lr1State.{Lr1State}
use Rattle.lp_repr.specs.declared.repr.Grammar.{Grammar}
use Rattle.lp_form.specs.declared.part.Part.TheVariants as part
use Rattle.lp_build.specs.Built as built
use Rattle.lp_core.specs.declared.expr.Function.{Function}
use Rattle.lp_core.specs.declared.expr.Join.TheVariants as join
use Rattle.lp_core.specs.declared.expr.Op.TheVariants as op
use Rattle.lp_core.specs.declared.value.StateType.{StateType}
use Rattle.lp_core.specs.declared.value.Tag.TheVariants as tag
use Rattle.lp_core.specs.Tree.{Apply, If, Loop, Block, trees_of}
use Rattle.lp_view.specs.PartLists.{Form, parts_of}
use Rattle.lp_maker.specs.Constructs.{absent, called, joined, on_option, one_after_another, read, write}
use Rattle.lp_maker.specs.Making.{Making, number_in, parameters}
use Rattle.lp_maker.specs.Slots.{Names, no_names, bound}
use Rattle.lp_maker.specs.Texts.{state_type_of}
use Rattle.lp_bodies.specs.Reductions.{slice_type}
use Rattle.lp_bodies.specs.Source.{function}
use Rattle.lp_bodies.specs.Tables.{expected_by, keeping_closure}
use Rattle.lp_bodies.specs.Trials.{accepts_under, answer_if, last_state, production_of, simulated_parts}
use Rattle.lp_table.specs.Headers.{header_lines}
use Rattle.lp_table.specs.MachineLines.{acceptance, expected_list, phantom_text}
use Rattle.lp_table.specs.Starts.{state_text}
use Rattle.lp_run.specs.Functions.{Made, accepts_made, expected_made, function_made}
use Rattle.lp_question_laws.proofs.Gotos.LinkMaps.{get_end}
use Rattle.lp_question_laws.proofs.Gotos.LinkHeaders.{IsWordy}
use Rattle.lp_question_laws.proofs.Gotos.Whole.{IsWhole, parts_over}
use Rattle.lp_question_laws.proofs.Expected.Accepts.{accepts_code, keep_code}
use Rattle.lp_question_laws.proofs.Expected.Lists.{expected_code}
use Rattle.lp_question_laws.proofs.Expected.Types.{accepts_header, accepts_names, accepts_bound, accepts_typed, expected_header, expected_bound}

-- the code of a trial, by the numbers that its functions have
abbrev code_by : StateType → ℕ → Option ℕ → Option ℕ → Option ℕ → Function
code_by kind eof action simulate goto =
    function 3 9 (one_after_another (write 3 (Apply op.CopyStates (read 1)) ∷ joined join.Extend (read 3 ∷ read 0 ∷ [])
    ∷ Loop (Block (trees_of (
    write 4 (Apply op.Length (read 3))
    ∷ write 5 (last_state (Some kind) 3 4)
    ∷ write 6 (on_option (read 2) 7 (Apply (op.Entry eof) (Apply op.AsIndex (read 5))) (called (read 5 ∷ read 7 ∷ []) action))
    ∷ answer_if op.IsZero 6 false
    ∷ answer_if op.IsPositive 6 true
    ∷ simulated_parts (called (production_of 6 ∷ []) simulate) 8 9
    ∷ write 4 (joined join.Subtract (read 4 ∷ read 9 ∷ []))
    ∷ joined join.Truncate (read 3 ∷ read 4 ∷ [])
    ∷ write 11 (last_state (Some kind) 3 4)
    ∷ joined join.Push (read 3 ∷ called (read 11 ∷ read 10 ∷ []) goto ∷ [])
    ∷ []))) ∷ []))

under_names : (m : Making) (kind : StateType) → accepts_under m (bound (codes "~opt_integer") (bound (codes "~states") (bound (codes "~error_state") no_names))) (Some kind)
    ≡ code_by kind m.eof_table (number_in (codes "action") m.names) (number_in (codes "simulate_reduce") m.names) (number_in (codes "goto") m.names)
under_names m kind = refl

code_is : (kind : StateType) (eof : ℕ) (oa os og : Option ℕ) (a s gt : ℕ) → oa ≡ Some a → os ≡ Some s → og ≡ Some gt → code_by kind eof oa os og ≡ accepts_code kind eof a s gt
code_is kind eof oa os og a s gt is_a is_s is_g =
    ap (λ (o : Option ℕ). code_by kind eof o os og) is_a ∙ ap (λ (o : Option ℕ). code_by kind eof (Some a) o og) is_s ∙ ap (λ (o : Option ℕ). code_by kind eof (Some a) (Some s) o) is_g

module _ (g : Grammar) (states : List Lr1State) (w : IsWordy g.prefix) where
  accepts_whole : IsWhole (accepts_header g states w)
  unfolding header_lines
  accepts_whole = refl

  accepts_parts : parts_of (acceptance g states) ≡ accepts_header g states w ∷ []
  unfolding acceptance
  accepts_parts =
      ap (λ below. parts_of (built.over part.Accepts (phantom_text g ∷ []) below)) (sym (append-nil (accepts_header g states w)))
      ∙ parts_over part.Accepts (phantom_text g ∷ []) (accepts_header g states w ∷ []) (accepts_whole, tt)

  accepts_by : (m : Making) → (function_made m (acceptance g states)).function ≡ (accepts_made m (slice_get (parts_of (acceptance g states)) 0)).function
  unfolding function_made acceptance
  accepts_by m = refl

  -- whether a stack accepts a token
  pub accepts_is : (m : Making) (kind : StateType) (a s gt : ℕ) → m.prefix ≡ g.prefix → state_type_of (state_text g states) ≡ Some kind → number_in (codes "action") m.names ≡ Some a → number_in (codes "simulate_reduce") m.names ≡ Some s → number_in (codes "goto") m.names ≡ Some gt
      → (function_made m (acceptance g states)).function ≡ accepts_code kind m.eof_table a s gt
  accepts_is m kind a s gt same typed is_a is_s is_g =
      let header = accepts_header g states w in
      accepts_by m
      ∙ ap (λ (fs : List Form). (accepts_made m (slice_get fs 0)).function) accepts_parts
      ∙ ap (λ (prefix : List ℕ). accepts_under m (parameters prefix header) (slice_type prefix header)) same
      ∙ ap (λ (names : Names). accepts_under m names (slice_type g.prefix header)) (accepts_bound g states w)
      ∙ ap (accepts_under m (accepts_names g states w)) (accepts_typed g states w ∙ typed)
      ∙ under_names m kind
      ∙ code_is kind m.eof_table _ _ _ a s gt is_a is_s is_g

  -- ---- the list of the terminals that a stack accepts
  expected_whole : IsWhole (expected_header g states w)
  unfolding header_lines
  expected_whole = refl

  expected_parts : parts_of (expected_list g states) ≡ expected_header g states w ∷ []
  unfolding expected_list
  expected_parts =
      ap (λ below. parts_of (built.over part.ExpectedFromStates (phantom_text g ∷ []) below)) (sym (append-nil (expected_header g states w)))
      ∙ parts_over part.ExpectedFromStates (phantom_text g ∷ []) (expected_header g states w ∷ []) (expected_whole, tt)

  made_by : (m : Making) → function_made m (expected_list g states) ≡ expected_made m (slice_get (parts_of (expected_list g states)) 0)
  unfolding function_made expected_list
  made_by m = refl

  made_under : (m : Making) → function_made m (expected_list g states) ≡ expected_made m (Some (expected_header g states w))
  made_under m = made_by m ∙ ap (λ (fs : List Form). expected_made m (slice_get fs 0)) expected_parts

  expected_under : (m : Making) → expected_by m (bound (codes "~states") no_names) ≡ expected_code (length m.functions) m.terminals
  expected_under m = refl

  pub expected_is : (m : Making) → m.prefix ≡ g.prefix → (function_made m (expected_list g states)).function ≡ expected_code (length m.functions) m.terminals
  expected_is m same =
      ap (λ (d : Made). d.function) (made_under m)
      ∙ ap (λ (prefix : List ℕ). expected_by m (parameters prefix (expected_header g states w))) same
      ∙ ap (expected_by m) (expected_bound g states w)
      ∙ expected_under m

  -- its closure is made with it
  kept_by : (m : Making) (k : ℕ) → number_in (codes "accepts") m.names ≡ Some k → keeping_closure m (absent ∷ read 2 ∷ Apply (op.Wrap tag.Present) (read 0) ∷ []) ≡ keep_code k
  kept_by m k is = ap (λ (o : Option ℕ). function 3 0 (If (called (absent ∷ read 2 ∷ Apply (op.Wrap tag.Present) (read 0) ∷ []) o) (Apply (op.Wrap tag.Present) (read 1)) absent)) is

  pub closure_is : (m : Making) (k : ℕ) → number_in (codes "accepts") m.names ≡ Some k → slice_get (function_made m (expected_list g states)).making.functions (length m.functions) ≡ Some (Some (keep_code k))
  closure_is m k is =
      ap (λ (d : Made). slice_get d.making.functions (length m.functions)) (made_under m)
      ∙ get_end m.functions [] (Some (keeping_closure m (absent ∷ read 2 ∷ Apply (op.Wrap tag.Present) (read 0) ∷ [])))
      ∙ ap (λ (f : Function). Some (Some f)) (kept_by m k is)
