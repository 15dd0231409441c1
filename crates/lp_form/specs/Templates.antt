-- The templates of the parts: their steps, and what their holes hold.
use Rattle.std.specs.Prelude.{ℕ, List, map}
use denote.Ref.{Bor}
use Rattle.lp_form.specs.declared.part.Part.{Part}
use Rattle.lp_form.specs.declared.part.Part.TheVariants as part
use Rattle.lp_form.specs.declared.template.Kind.{Kind}
use Rattle.lp_form.specs.declared.template.Slot.{Slot}
use Rattle.lp_form.specs.declared.template.Step.{Step}
use Rattle.lp_form.specs.declared.forms.action.TheConstants as action
use Rattle.lp_form.specs.declared.forms.ascent.TheConstants as ascent
use Rattle.lp_form.specs.declared.forms.ascent_reduce.TheConstants as ascent_reduce
use Rattle.lp_form.specs.declared.forms.frame.TheConstants as frame
use Rattle.lp_form.specs.declared.forms.machine.TheConstants as machine
use Rattle.lp_form.specs.declared.forms.parser.TheConstants as parser
use Rattle.lp_form.specs.declared.forms.reduce.TheConstants as reduce
use Rattle.lp_form.specs.declared.forms.table.TheConstants as table
use Rattle.lp_form.specs.declared.step.TheConstants as step

-- a literal text, and what follows it
abbrev pub Piece : Type 0
Piece = List ℕ × Slot

-- a step, and the line where it is one
abbrev pub Line : Type 0
Line = Step × List Piece

-- a piece as it stands behind the code's reference
abbrev pub piece : Bor (List ℕ) × Slot → Piece
piece p = (p.0.now, p.1)

-- a step as it stands behind the code's reference
abbrev pub line : Step × Bor (List (Bor (List ℕ) × Slot)) → Line
line l = (l.0, map piece l.1.now)

-- the steps as they stand behind the code's references
abbrev pub lines_of : List (Step × Bor (List (Bor (List ℕ) × Slot))) → List Line
lines_of ls = map line ls

-- what stands behind a reference in a constant
abbrev pub Constant : Type 0 → Type 0
Constant A = record { now : A }

-- the lines of a constant
abbrev pub lines : Constant (List (Step × Constant (List (Constant (List ℕ) × Slot)))) → List Line
lines c = map (λ l. (l.0, map (λ p. (p.0.now, p.1)) l.1.now)) c.now

-- the steps of a part, in the order of the text
unfoldable pub steps_of : Part → List Line
steps_of part.Program = lines frame.PROGRAM
steps_of part.Attribute = lines frame.ATTRIBUTE
steps_of part.UseLine = lines frame.USE_LINE
steps_of part.StandardUses = lines frame.STANDARD_USES
steps_of part.ParseModule = lines frame.PARSE_MODULE
steps_of part.TokenUseInterned = lines frame.TOKEN_USE_INTERNED
steps_of part.TokenUsePlain = lines frame.TOKEN_USE_PLAIN
steps_of part.Reexport = lines frame.REEXPORT
steps_of part.TableItems = lines frame.TABLE_ITEMS
steps_of part.AscentItems = lines frame.ASCENT_ITEMS
steps_of part.HeaderParse = lines parser.HEADER_PARSE
steps_of part.HeaderExpectedFromStates = lines parser.HEADER_EXPECTED_FROM_STATES
steps_of part.HeaderTokenToInteger = lines parser.HEADER_TOKEN_TO_INTEGER
steps_of part.HeaderTokenToSymbol = lines parser.HEADER_TOKEN_TO_SYMBOL
steps_of part.HeaderSimulateReduce = lines parser.HEADER_SIMULATE_REDUCE
steps_of part.HeaderAccepts = lines parser.HEADER_ACCEPTS
steps_of part.HeaderReduce = lines parser.HEADER_REDUCE
steps_of part.HeaderReduceFn = lines parser.HEADER_REDUCE_FN
steps_of part.HeaderState = lines parser.HEADER_STATE
steps_of part.HeaderAction = lines parser.HEADER_ACTION
steps_of part.TypeRow = lines parser.TYPE_ROW
steps_of part.ParameterRow = lines parser.PARAMETER_ROW
steps_of part.ResultUnit = lines parser.RESULT_UNIT
steps_of part.ResultType = lines parser.RESULT_TYPE
steps_of part.Clauses = lines parser.CLAUSES
steps_of part.ClauseRow = lines parser.CLAUSE_ROW
steps_of part.TableParserInterned = lines parser.TABLE_PARSER_INTERNED
steps_of part.TableParserPlain = lines parser.TABLE_PARSER_PLAIN
steps_of part.AscentParserInterned = lines parser.ASCENT_PARSER_INTERNED
steps_of part.AscentParserPlain = lines parser.ASCENT_PARSER_PLAIN
steps_of part.TokenSourceInterned = lines parser.TOKEN_SOURCE_INTERNED
steps_of part.TokenSourcePlain = lines parser.TOKEN_SOURCE_PLAIN
steps_of part.SymbolEnum = lines table.SYMBOL_ENUM
steps_of part.WhereLine = lines table.WHERE_LINE
steps_of part.VariantRow = lines table.VARIANT_ROW
steps_of part.ActionTable = lines table.ACTION_TABLE
steps_of part.ActionLookup = lines table.ACTION_LOOKUP
steps_of part.ActionLookupOne = lines table.ACTION_LOOKUP_ONE
steps_of part.EofTable = lines table.EOF_TABLE
steps_of part.GotoFn = lines table.GOTO_FN
steps_of part.GotoOne = lines table.GOTO_ONE
steps_of part.GotoMatch = lines table.GOTO_MATCH
steps_of part.GotoRange = lines table.GOTO_RANGE
steps_of part.TerminalList = lines table.TERMINAL_LIST
steps_of part.TerminalRow = lines table.TERMINAL_ROW
steps_of part.Expected = lines table.EXPECTED
steps_of part.ExpectedFromStates = lines table.EXPECTED_FROM_STATES
steps_of part.MachineStruct = lines machine.MACHINE_STRUCT
steps_of part.FieldRow = lines machine.FIELD_ROW
steps_of part.MachineImpl = lines machine.MACHINE_IMPL
steps_of part.RecoveryOn = lines machine.RECOVERY_ON
steps_of part.RecoveryOff = lines machine.RECOVERY_OFF
steps_of part.SelfRow = lines machine.SELF_ROW
steps_of part.TokenToInteger = lines table.TOKEN_TO_INTEGER
steps_of part.IntegerRow = lines table.INTEGER_ROW
steps_of part.TokenToSymbol = lines table.TOKEN_TO_SYMBOL
steps_of part.SymbolArm = lines table.SYMBOL_ARM
steps_of part.SymbolMatch = lines table.SYMBOL_MATCH
steps_of part.SimulateReduce = lines machine.SIMULATE_REDUCE
steps_of part.SimulateAccept = lines machine.SIMULATE_ACCEPT
steps_of part.SimulateArm = lines machine.SIMULATE_ARM
steps_of part.Drive = lines machine.DRIVE
steps_of part.DriveRow = lines machine.DRIVE_ROW
steps_of part.Accepts = lines machine.ACCEPTS
steps_of part.Reduce = lines reduce.REDUCE
steps_of part.ReduceCallArm = lines reduce.REDUCE_CALL_ARM
steps_of part.ReduceBodyArm = lines reduce.REDUCE_BODY_ARM
steps_of part.ReduceBody = lines reduce.REDUCE_BODY
steps_of part.AssertLine = lines reduce.ASSERT_LINE
steps_of part.PopLine = lines reduce.POP_LINE
steps_of part.SpanPopped = lines reduce.SPAN_POPPED
steps_of part.SpanEmpty = lines reduce.SPAN_EMPTY
steps_of part.CallPlain = lines reduce.CALL_PLAIN
steps_of part.CallFallible = lines reduce.CALL_FALLIBLE
steps_of part.OutcomeStart = lines reduce.OUTCOME_START
steps_of part.OutcomePush = lines reduce.OUTCOME_PUSH
steps_of part.Mismatch = lines reduce.MISMATCH
steps_of part.Pop = lines reduce.POP
steps_of part.PopRow = lines reduce.POP_ROW
steps_of part.ReduceFn = lines reduce.REDUCE_FN
steps_of part.Start = lines ascent.START
steps_of part.ReturnEnum = lines ascent.RETURN_ENUM
steps_of part.ReturnRow = lines ascent.RETURN_ROW
steps_of part.StateFn = lines ascent.STATE_FN
steps_of part.NextToken = lines ascent.NEXT_TOKEN
steps_of part.SlotLine = lines ascent.SLOT_LINE
steps_of part.ShiftArm = lines ascent.SHIFT_ARM
steps_of part.ShiftWhole = lines ascent.SHIFT_WHOLE
steps_of part.ReduceMany = lines ascent_reduce.REDUCE_MANY
steps_of part.ReduceToken = lines ascent_reduce.REDUCE_TOKEN
steps_of part.ReduceEnd = lines ascent_reduce.REDUCE_END
steps_of part.TokenRow = lines ascent_reduce.TOKEN_ROW
steps_of part.LastToken = lines ascent_reduce.LAST_TOKEN
steps_of part.LastEnd = lines ascent_reduce.LAST_END
steps_of part.ReduceLines = lines ascent_reduce.REDUCE_LINES
steps_of part.TakeLine = lines ascent_reduce.TAKE_LINE
steps_of part.ReturnLine = lines ascent_reduce.RETURN_LINE
steps_of part.AscentPopped = lines ascent_reduce.ASCENT_POPPED
steps_of part.AscentFixed = lines ascent_reduce.ASCENT_FIXED
steps_of part.AscentOptional = lines ascent_reduce.ASCENT_OPTIONAL
steps_of part.AscentBottom = lines ascent_reduce.ASCENT_BOTTOM
steps_of part.AscentCall = lines ascent_reduce.ASCENT_CALL
steps_of part.AscentCallFallible = lines ascent_reduce.ASCENT_CALL_FALLIBLE
steps_of part.ErrorArm = lines ascent.ERROR_ARM
steps_of part.LocationFixed = lines ascent.LOCATION_FIXED
steps_of part.LocationDefault = lines ascent.LOCATION_DEFAULT
steps_of part.LocationChain = lines ascent.LOCATION_CHAIN
steps_of part.LocationRow = lines ascent.LOCATION_ROW
steps_of part.Transition = lines ascent.TRANSITION
steps_of part.GotoReturn = lines ascent.GOTO_RETURN
steps_of part.GotoLoop = lines ascent.GOTO_LOOP
steps_of part.EmptyCheck = lines ascent.EMPTY_CHECK
steps_of part.GotoArm = lines ascent.GOTO_ARM
steps_of part.GotoOther = lines ascent.GOTO_OTHER
steps_of part.ActionFn = lines action.ACTION_FN
steps_of part.ActionFnUnused = lines action.ACTION_FN_UNUSED
steps_of part.Lookaround = lines action.LOOKAROUND
steps_of part.LookaroundUnused = lines action.LOOKAROUND_UNUSED
steps_of part.UserBody = lines action.USER_BODY
steps_of part.LookaheadBody = lines action.LOOKAHEAD_BODY
steps_of part.LookbehindBody = lines action.LOOKBEHIND_BODY
steps_of part.InlineBody = lines action.INLINE_BODY
steps_of part.InlineSpan = lines action.INLINE_SPAN
steps_of part.InlineCall = lines action.INLINE_CALL
steps_of part.InlineCallTyped = lines action.INLINE_CALL_TYPED
steps_of part.CallEndPlain = lines action.CALL_END_PLAIN
steps_of part.CallEndFallible = lines action.CALL_END_FALLIBLE
steps_of part.ArgumentRow = lines action.ARGUMENT_ROW
steps_of part.TypeArgument = lines action.TYPE_ARGUMENT
steps_of part.OuterCall = lines action.OUTER_CALL
steps_of part.OuterCallTyped = lines action.OUTER_CALL_TYPED
steps_of part.OuterCallOk = lines action.OUTER_CALL_OK
steps_of part.OuterCallOkTyped = lines action.OUTER_CALL_OK_TYPED
steps_of part.TokenModule = lines frame.TOKEN_MODULE
steps_of part.InternSkip = lines frame.INTERN_SKIP
steps_of part.InternKeep = lines frame.INTERN_KEEP
steps_of part.WhitespaceRow = lines frame.WHITESPACE_ROW
steps_of part.ToTripleLocatedWhere = lines frame.TO_TRIPLE_LOCATED_WHERE
steps_of part.ToTripleLocated = lines frame.TO_TRIPLE_LOCATED
steps_of part.ToTriplePlainWhere = lines frame.TO_TRIPLE_PLAIN_WHERE
steps_of part.ToTriplePlain = lines frame.TO_TRIPLE_PLAIN
steps_of part.AscentSimulate = lines ascent.ASCENT_SIMULATE
steps_of part.AscentAccept = lines ascent.ASCENT_ACCEPT
steps_of part.AscentArm = lines ascent.ASCENT_ARM
steps_of part.AscentAccepts = lines ascent.ASCENT_ACCEPTS
steps_of part.AscentExpected = lines ascent.ASCENT_EXPECTED

-- what each hole of a part holds
unfoldable pub holes_of : Part → List Kind
holes_of part.Attribute = frame.ATTRIBUTE_HOLES.now
holes_of part.ParseModule = frame.PARSE_MODULE_HOLES.now
holes_of part.Reexport = frame.REEXPORT_HOLES.now
holes_of part.HeaderParse = parser.HEADER_PARSE_HOLES.now
holes_of part.HeaderReduceFn = parser.HEADER_REDUCE_FN_HOLES.now
holes_of part.HeaderState = parser.HEADER_STATE_HOLES.now
holes_of part.HeaderAction = parser.HEADER_ACTION_HOLES.now
holes_of part.TypeRow = parser.TYPE_ROW_HOLES.now
holes_of part.ParameterRow = parser.PARAMETER_ROW_HOLES.now
holes_of part.ResultType = parser.RESULT_TYPE_HOLES.now
holes_of part.ClauseRow = parser.CLAUSE_ROW_HOLES.now
holes_of part.TableParserInterned = parser.TABLE_PARSER_INTERNED_HOLES.now
holes_of part.TableParserPlain = parser.TABLE_PARSER_PLAIN_HOLES.now
holes_of part.AscentParserInterned = parser.ASCENT_PARSER_INTERNED_HOLES.now
holes_of part.AscentParserPlain = parser.ASCENT_PARSER_PLAIN_HOLES.now
holes_of part.SymbolEnum = table.SYMBOL_ENUM_HOLES.now
holes_of part.WhereLine = table.WHERE_LINE_HOLES.now
holes_of part.VariantRow = table.VARIANT_ROW_HOLES.now
holes_of part.ActionTable = table.ACTION_TABLE_HOLES.now
holes_of part.ActionLookup = table.ACTION_LOOKUP_HOLES.now
holes_of part.ActionLookupOne = table.ACTION_LOOKUP_ONE_HOLES.now
holes_of part.EofTable = table.EOF_TABLE_HOLES.now
holes_of part.GotoFn = table.GOTO_FN_HOLES.now
holes_of part.GotoOne = table.GOTO_ONE_HOLES.now
holes_of part.GotoMatch = table.GOTO_MATCH_HOLES.now
holes_of part.GotoRange = table.GOTO_RANGE_HOLES.now
holes_of part.TerminalRow = table.TERMINAL_ROW_HOLES.now
holes_of part.Expected = table.EXPECTED_HOLES.now
holes_of part.ExpectedFromStates = table.EXPECTED_FROM_STATES_HOLES.now
holes_of part.MachineStruct = machine.MACHINE_STRUCT_HOLES.now
holes_of part.FieldRow = machine.FIELD_ROW_HOLES.now
holes_of part.MachineImpl = machine.MACHINE_IMPL_HOLES.now
holes_of part.RecoveryOn = machine.RECOVERY_ON_HOLES.now
holes_of part.SelfRow = machine.SELF_ROW_HOLES.now
holes_of part.IntegerRow = table.INTEGER_ROW_HOLES.now
holes_of part.SymbolArm = table.SYMBOL_ARM_HOLES.now
holes_of part.SymbolMatch = table.SYMBOL_MATCH_HOLES.now
holes_of part.SimulateAccept = machine.SIMULATE_ACCEPT_HOLES.now
holes_of part.SimulateArm = machine.SIMULATE_ARM_HOLES.now
holes_of part.Drive = machine.DRIVE_HOLES.now
holes_of part.DriveRow = machine.DRIVE_ROW_HOLES.now
holes_of part.Accepts = machine.ACCEPTS_HOLES.now
holes_of part.ReduceCallArm = reduce.REDUCE_CALL_ARM_HOLES.now
holes_of part.ReduceBodyArm = reduce.REDUCE_BODY_ARM_HOLES.now
holes_of part.AssertLine = reduce.ASSERT_LINE_HOLES.now
holes_of part.PopLine = reduce.POP_LINE_HOLES.now
holes_of part.SpanPopped = reduce.SPAN_POPPED_HOLES.now
holes_of part.CallPlain = reduce.CALL_PLAIN_HOLES.now
holes_of part.CallFallible = reduce.CALL_FALLIBLE_HOLES.now
holes_of part.OutcomePush = reduce.OUTCOME_PUSH_HOLES.now
holes_of part.Pop = reduce.POP_HOLES.now
holes_of part.PopRow = reduce.POP_ROW_HOLES.now
holes_of part.Start = ascent.START_HOLES.now
holes_of part.ReturnEnum = ascent.RETURN_ENUM_HOLES.now
holes_of part.ReturnRow = ascent.RETURN_ROW_HOLES.now
holes_of part.StateFn = ascent.STATE_FN_HOLES.now
holes_of part.SlotLine = ascent.SLOT_LINE_HOLES.now
holes_of part.ShiftArm = ascent.SHIFT_ARM_HOLES.now
holes_of part.ShiftWhole = ascent.SHIFT_WHOLE_HOLES.now
holes_of part.ReduceMany = ascent_reduce.REDUCE_MANY_HOLES.now
holes_of part.ReduceToken = ascent_reduce.REDUCE_TOKEN_HOLES.now
holes_of part.TokenRow = ascent_reduce.TOKEN_ROW_HOLES.now
holes_of part.LastToken = ascent_reduce.LAST_TOKEN_HOLES.now
holes_of part.ReduceLines = ascent_reduce.REDUCE_LINES_HOLES.now
holes_of part.TakeLine = ascent_reduce.TAKE_LINE_HOLES.now
holes_of part.AscentPopped = ascent_reduce.ASCENT_POPPED_HOLES.now
holes_of part.AscentFixed = ascent_reduce.ASCENT_FIXED_HOLES.now
holes_of part.AscentOptional = ascent_reduce.ASCENT_OPTIONAL_HOLES.now
holes_of part.AscentBottom = ascent_reduce.ASCENT_BOTTOM_HOLES.now
holes_of part.AscentCall = ascent_reduce.ASCENT_CALL_HOLES.now
holes_of part.AscentCallFallible = ascent_reduce.ASCENT_CALL_FALLIBLE_HOLES.now
holes_of part.LocationFixed = ascent.LOCATION_FIXED_HOLES.now
holes_of part.LocationRow = ascent.LOCATION_ROW_HOLES.now
holes_of part.Transition = ascent.TRANSITION_HOLES.now
holes_of part.EmptyCheck = ascent.EMPTY_CHECK_HOLES.now
holes_of part.GotoArm = ascent.GOTO_ARM_HOLES.now
holes_of part.InlineSpan = action.INLINE_SPAN_HOLES.now
holes_of part.InlineCall = action.INLINE_CALL_HOLES.now
holes_of part.InlineCallTyped = action.INLINE_CALL_TYPED_HOLES.now
holes_of part.ArgumentRow = action.ARGUMENT_ROW_HOLES.now
holes_of part.TypeArgument = action.TYPE_ARGUMENT_HOLES.now
holes_of part.OuterCall = action.OUTER_CALL_HOLES.now
holes_of part.OuterCallTyped = action.OUTER_CALL_TYPED_HOLES.now
holes_of part.OuterCallOk = action.OUTER_CALL_OK_HOLES.now
holes_of part.OuterCallOkTyped = action.OUTER_CALL_OK_TYPED_HOLES.now
holes_of part.InternSkip = frame.INTERN_SKIP_HOLES.now
holes_of part.InternKeep = frame.INTERN_KEEP_HOLES.now
holes_of part.ToTripleLocatedWhere = frame.TO_TRIPLE_LOCATED_WHERE_HOLES.now
holes_of part.ToTripleLocated = frame.TO_TRIPLE_LOCATED_HOLES.now
holes_of part.ToTriplePlainWhere = frame.TO_TRIPLE_PLAIN_WHERE_HOLES.now
holes_of part.ToTriplePlain = frame.TO_TRIPLE_PLAIN_HOLES.now
holes_of part.AscentSimulate = ascent.ASCENT_SIMULATE_HOLES.now
holes_of part.AscentAccept = ascent.ASCENT_ACCEPT_HOLES.now
holes_of part.AscentArm = ascent.ASCENT_ARM_HOLES.now
holes_of part.AscentAccepts = ascent.ASCENT_ACCEPTS_HOLES.now
holes_of part.AscentExpected = ascent.ASCENT_EXPECTED_HOLES.now
holes_of _ = step.NO_HOLES.now
