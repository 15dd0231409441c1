-- Parts that are equal by `==` are the same, and a part of a class has a place in it.
use Rattle.std.proofs.Common.{◌≡◌, ℕ, ◌<◌, suc, true, false, cond, List, [], ◌∷◌, length, get_or, refl, sym, ◌∙◌, ap, arith, ⊎_elim}
use Rattle.std.specs.List.{list_any}
use Rattle.std.proofs.lemmas.Bool.{or_cases, both_ways}
use Rattle.lp_form.specs.Classes.{members_of}
use Rattle.lp_form.specs.declared.class.Class.{Class}
use Rattle.lp_form.specs.contracts.part.PartPartialEq.TheImpl as equality
use Rattle.lp_form.specs.contracts.part.PartEq.TheImpl.Laws.{laws-law}
use Rattle.lp_form.specs.declared.part.Part.{Part}
use Rattle.lp_form.specs.declared.part.Part.TheVariants as part
use Rattle.lp_program.specs.Printed.{is_member}
use Rattle.lp_program.specs.Begins.{member}

-- all parts
abbrev all : List Part
all =
    part.Program ∷ part.Attribute ∷ part.UseLine ∷ part.StandardUses ∷ part.ParseModule ∷ part.TokenUseInterned ∷
    part.TokenUsePlain ∷ part.Reexport ∷ part.TableItems ∷ part.AscentItems ∷ part.HeaderParse ∷
    part.HeaderExpectedFromStates ∷ part.HeaderTokenToInteger ∷ part.HeaderTokenToSymbol ∷ part.HeaderSimulateReduce ∷
    part.HeaderAccepts ∷ part.HeaderReduce ∷ part.HeaderReduceFn ∷ part.HeaderState ∷ part.HeaderAction ∷ part.TypeRow
    ∷ part.ParameterRow ∷ part.ResultUnit ∷ part.ResultType ∷ part.Clauses ∷ part.ClauseRow ∷ part.TableParserInterned
    ∷ part.TableParserPlain ∷ part.AscentParserInterned ∷ part.AscentParserPlain ∷ part.TokenSourceInterned ∷
    part.TokenSourcePlain ∷ part.SymbolEnum ∷ part.WhereLine ∷ part.VariantRow ∷ part.ActionTable ∷ part.ActionLookup
    ∷ part.ActionLookupOne ∷ part.EofTable ∷ part.GotoFn ∷ part.GotoOne ∷ part.GotoMatch ∷ part.GotoRange ∷
    part.TerminalList ∷ part.TerminalRow ∷ part.Expected ∷ part.ExpectedFromStates ∷ part.MachineStruct ∷
    part.FieldRow ∷ part.MachineImpl ∷ part.RecoveryOn ∷ part.RecoveryOff ∷ part.SelfRow ∷ part.TokenToInteger ∷
    part.IntegerRow ∷ part.TokenToSymbol ∷ part.SymbolArm ∷ part.SymbolMatch ∷ part.SimulateReduce ∷
    part.SimulateAccept ∷ part.SimulateArm ∷ part.Drive ∷ part.DriveRow ∷ part.Accepts ∷ part.Reduce ∷
    part.ReduceCallArm ∷ part.ReduceBodyArm ∷ part.ReduceBody ∷ part.AssertLine ∷ part.PopLine ∷ part.SpanPopped ∷
    part.SpanEmpty ∷ part.CallPlain ∷ part.CallFallible ∷ part.OutcomeStart ∷ part.OutcomePush ∷ part.Mismatch ∷
    part.Pop ∷ part.PopRow ∷ part.ReduceFn ∷ part.Start ∷ part.ReturnEnum ∷ part.ReturnRow ∷ part.StateFn ∷
    part.NextToken ∷ part.SlotLine ∷ part.ShiftArm ∷ part.ShiftWhole ∷ part.ReduceMany ∷ part.ReduceToken ∷
    part.ReduceEnd ∷ part.TokenRow ∷ part.LastToken ∷ part.LastEnd ∷ part.ReduceLines ∷ part.TakeLine ∷
    part.ReturnLine ∷ part.AscentPopped ∷ part.AscentFixed ∷ part.AscentOptional ∷ part.AscentBottom ∷ part.AscentCall
    ∷ part.AscentCallFallible ∷ part.ErrorArm ∷ part.LocationFixed ∷ part.LocationDefault ∷ part.LocationChain ∷
    part.LocationRow ∷ part.Transition ∷ part.GotoReturn ∷ part.GotoLoop ∷ part.EmptyCheck ∷ part.GotoArm ∷
    part.GotoOther ∷ part.ActionFn ∷ part.ActionFnUnused ∷ part.Lookaround ∷ part.LookaroundUnused ∷ part.UserBody ∷
    part.LookaheadBody ∷ part.LookbehindBody ∷ part.InlineBody ∷ part.InlineSpan ∷ part.InlineCall ∷
    part.InlineCallTyped ∷ part.CallEndPlain ∷ part.CallEndFallible ∷ part.ArgumentRow ∷ part.TypeArgument ∷
    part.OuterCall ∷ part.OuterCallTyped ∷ part.OuterCallOk ∷ part.OuterCallOkTyped ∷ part.TokenModule ∷
    part.InternSkip ∷ part.InternKeep ∷ part.WhitespaceRow ∷ part.ToTripleLocatedWhere ∷ part.ToTripleLocated ∷
    part.ToTriplePlainWhere ∷ part.ToTriplePlain ∷ part.AscentSimulate ∷ part.AscentAccept ∷ part.AscentArm ∷
    part.AscentAccepts ∷ part.AscentExpected ∷ []

-- the first of those that are equal to one
abbrev first : List Part → Part → Part
first [] p = part.Program
first (m ∷ ms) p = cond ((equality.ghosts).eq m p) m (first ms p)

first_is : (p : Part) → first all p ≡ p
first_is part.Program = refl
first_is _ = refl

first_same : (ms : List Part) (p q : Part) → (equality.ghosts).eq p q ≡ true → first ms p ≡ first ms q
first_same [] p q e = refl
first_same (m ∷ ms) p q e =
    let same : (equality.ghosts).eq m p ≡ (equality.ghosts).eq m q = laws-law.symm m p ∙ laws-law.congr p q m e ∙ laws-law.symm q m in
    ap (λ b. cond b m (first ms p)) same ∙ ap (cond ((equality.ghosts).eq m q) m) (first_same ms p q e)

pub same_part : (p q : Part) → (equality.ghosts).eq p q ≡ true → p ≡ q
same_part p q e = sym (first_is p) ∙ first_same all p q e ∙ first_is q

-- the place of a part in a list
abbrev pub Place : List Part → Part → Type 0
Place parts p = (i : ℕ) × (i < length parts) × (p ≡ get_or parts i part.Program)

place_in : (parts : List Part) (p : Part) → list_any (λ m. (equality.ghosts).eq m p) parts ≡ true → Place parts p
place_in [] p h = absurd (both_ways false refl h)
place_in (m ∷ parts) p h =
    ⊎_elim
    (λ e. (0, omega arith, sym (same_part m p e)))
    (λ k. let r = place_in parts p k in let lt = r.1 in (suc r.0, omega (arith, lt), r.2))
    (or_cases ((equality.ghosts).eq m p) (list_any (λ n. (equality.ghosts).eq n p) parts) h)

pub member_place : (class : Class) (p : Part) → is_member class p ≡ true → (i : ℕ) × (i < length (members_of class)) × (p ≡ member class i)
member_place class p h = place_in (members_of class) p h
