-- Runs from a public name of the program that an emitted text is read as: they are those of the stack machine over the name's tables.
use Rattle.std.proofs.Common.{◌≡◌, ℕ, zero, suc, ◌+◌, ◌<◌, Bool, true, false, List, [], ◌∷◌, length, map, All, Option, Some, None, refl, sym, ap, ◌∙◌, subst, cond, arith}
use Rattle.std.specs.Prelude.{slice_get}
use Rattle.std.proofs.Math.ListN.{get_or}
use Rattle.std.specs.BTreeMap.{keys}
use Rattle.std.specs.List.{find}
use Rattle.std.specs.Option.{option_map, option_and_then}
use Rattle.std.specs.Str.{bytes_eq}
use Rattle.std.specs.Cmp.Lexicographic.{bytes_decides}
use Rattle.std.proofs.lemmas.List.{length-map}
use Rattle.std.proofs.lemmas.Option.{same_Some, slice_get-map}
use Rattle.lp_emit.specs.Causes.{MayBeEmitted}
use Rattle.lp_emit.specs.Texts.{IsEmission}
use Rattle.lp_emitted.specs.Emittable.{HasItsList, HasNoStart, IsTabled}
use Rattle.lp_lines.specs.Scan.{all_some, split_all}
use Rattle.lp_lines.specs.TokenLines.{line_of, line_of_parts, lines_of, start_of, budget_of, failing_of, items_of, together}
use Rattle.lp_lines.specs.Vocabularies.{vocabulary_of, starts_of}
use Rattle.lp_lines.specs.declared.token_line.TokenLine.{TokenLine}
use Rattle.lp_lines.specs.declared.vocabulary.Vocabulary.{Vocabulary}
use Rattle.lp_plain.specs.Front.{LowersTo}
use Rattle.lp_program.specs.Choosing.{IsProgramOf}
use Rattle.lp_repr.specs.declared.lr1.StartStates.{StartStates}
use Rattle.lp_repr.specs.declared.repr.Grammar.{Grammar}
use Rattle.lp_repr.specs.declared.repr.NonterminalString.{NonterminalString}
use Rattle.lp_repr.specs.declared.repr.Parameter.{Parameter}
use Rattle.lp_repr.specs.declared.values.RunItem.{RunItem}
use Rattle.lp_round_trip.proofs.Law.{emission_agrees_as_read}
use Rattle.lp_run.specs.ProgramRun.{Finish, NoStart, ParameterCount, Ended, Spent, Stuck}
use Rattle.lp_run.specs.RunTold.{RunsProgram}
use Rattle.lp_syntax.specs.declared.plain.PlainGrammar.{PlainGrammar}
use Rattle.lp_tree.specs.declared.tree.Program.{Program}
use Rattle.lp_driver.specs.Values.{Text}
use Rattle.lp_write.specs.declared.rust.Options.{Options}
use Rattle.lp_text_run.specs.Blocks.{FinishesLine, IsRunFault}
use Rattle.lp_text_run.specs.declared.text_run.TextRunFault.TheVariants as fault
use Rattle.lp_prepared.specs.Outputs.{IsFirstName}
use Rattle.lp_prepared.specs.Runs.{EndsByTables, IsOver, IsStart, values_of}
use Rattle.lp_prepared.proofs.OneTerminal.{lowered_matches}

-- ---- starts
list_there : (n : NonterminalString) (o : Option StartStates) → HasItsList (Some n) o → (list : StartStates) × (o ≡ Some list)
list_there n None h = absurd h
list_there n (Some list) h = (list, refl)

-- each public name has its list
pub start_listed : (g : Grammar) (tables : List StartStates) → MayBeEmitted g tables → (i : ℕ) (names : NonterminalString × NonterminalString) → slice_get g.start_nonterminals.entries i ≡ Some names → (list : StartStates) × IsStart g tables names.0.0 list
start_listed g tables may i names at =
    let key : slice_get (keys g.start_nonterminals) i ≡ Some names.0 = slice_get-map (λ (e : NonterminalString × NonterminalString). e.0) g.start_nonterminals.entries i ∙ ap (option_map (λ (e : NonterminalString × NonterminalString). e.0)) at in
    let has : HasItsList (slice_get (keys g.start_nonterminals) i) (slice_get tables i) = (may.tabled i).0 in
    let l = list_there names.0 (slice_get tables i) (subst (λ o. HasItsList o (slice_get tables i)) key has) in
    (l.0, record { place = i; names = names; named = at; listed = l.1; is = refl })

-- what is found is there
found : {X : Type 0} (test : X → Bool) (xs : List X) (x : X) → find test xs ≡ Some x → (i : ℕ) × (slice_get xs i ≡ Some x)
found test [] x e = cc
found {X} test (y ∷ xs) x e = by (test y) (λ h. found test xs x h) e
  where
    by : (b : Bool) → (find test xs ≡ Some x → (i : ℕ) × (slice_get xs i ≡ Some x)) → cond b (Some y) (find test xs) ≡ Some x → (i : ℕ) × (slice_get (y ∷ xs) i ≡ Some x)
    by true rest h = (0, h)
    by false rest h = (let r = rest h in (suc r.0, r.1))

mapped : {A B : Type 0} (f : A → B) (xs : List A) (i : ℕ) (y : B) → slice_get (map f xs) i ≡ Some y → (x : A) × (slice_get xs i ≡ Some x) × (f x ≡ y)
mapped f [] i y e = cc
mapped f (x ∷ xs) zero y e = (x, refl, same_Some (f x) y e)
mapped f (x ∷ xs) (suc i) y e = mapped f xs i y e

-- a name that a token line may have
start_named : (g : Grammar) (name start : List ℕ) → start_of (vocabulary_of g) name ≡ Some start → (i : ℕ) × (names : NonterminalString × NonterminalString) × (slice_get g.start_nonterminals.entries i ≡ Some names) × (names.0.0 ≡ start)
start_named g name start e =
    let f = found (λ (s : List ℕ). bytes_eq s name) (starts_of g) start e in
    let k = mapped (λ (n : NonterminalString). n.0) (keys g.start_nonterminals) f.0 start f.1 in
    let m = mapped (λ (e : NonterminalString × NonterminalString). e.0) g.start_nonterminals.entries f.0 k.0 k.1 in
    (f.0, m.0, m.1, ap (λ (n : NonterminalString). n.0) m.2 ∙ k.2)

-- ---- token lines
together_start : (a : Option (List ℕ)) (b : Option ℕ) (c : Option (List ℕ)) (d : Option (List RunItem)) (line : TokenLine) → together a b c d ≡ Some line → a ≡ Some line.start
together_start (Some a) (Some b) (Some c) (Some d) line e = ap (λ (l : TokenLine). Some l.start) (same_Some (record { start = a; budget = b; failing = c; items = d }) line e)
together_start None b c d line e = cc
together_start (Some a) None c d line e = cc
together_start (Some a) (Some b) None d line e = cc
together_start (Some a) (Some b) (Some c) None line e = cc

parts_start : (v : Vocabulary) (parts : List (List ℕ)) (line : TokenLine) → line_of_parts v parts ≡ Some line → (name : List ℕ) × (start_of v name ≡ Some line.start)
parts_start v [] line e = cc
parts_start v (a ∷ []) line e = cc
parts_start v (a ∷ b ∷ []) line e = cc
parts_start v (a ∷ b ∷ c ∷ items) line e = (a, together_start (start_of v a) (budget_of b) (failing_of c) (items_of v items) line e)

cons_some : {X : Type 0} (y : X) (os : List (Option X)) (o : Option (List X)) (xs : List X) → all_some os ≡ o → option_map (λ (ys : List X). y ∷ ys) o ≡ Some xs → (ys : List X) × (all_some os ≡ Some ys) × (y ∷ ys ≡ xs)
cons_some y os None xs is h = cc
cons_some y os (Some ys) xs is h = (ys, is, same_Some (y ∷ ys) xs h)

each_some : {X : Type 0} (os : List (Option X)) (xs : List X) (i : ℕ) (x : X) → all_some os ≡ Some xs → slice_get xs i ≡ Some x → slice_get os i ≡ Some (Some x)
each_some [] xs i x e at = (let none : [] ≡ xs = same_Some [] xs e in cc)
each_some (None ∷ os) xs i x e at = cc
each_some (Some y ∷ os) xs zero x e at = (let c = cons_some y os (all_some os) xs refl e in ap Some (ap (λ l. slice_get l 0) c.2 ∙ at))
each_some (Some y ∷ os) xs (suc i) x e at = (let c = cons_some y os (all_some os) xs refl e in each_some os c.0 i x c.1 (ap (λ l. slice_get l (suc i)) c.2 ∙ at))

-- the start of each token line is a public name
pub line_start : (g : Grammar) (tail : List ℕ) (lines : List TokenLine) (i : ℕ) (line : TokenLine) → all_some (map (line_of (vocabulary_of g)) (lines_of tail)) ≡ Some lines → slice_get lines i ≡ Some line
    → (n : ℕ) × (names : NonterminalString × NonterminalString) × (slice_get g.start_nonterminals.entries n ≡ Some names) × (names.0.0 ≡ line.start)
line_start g tail lines i line read at =
    let o = each_some (map (line_of (vocabulary_of g)) (lines_of tail)) lines i line read at in
    let m = mapped (line_of (vocabulary_of g)) (lines_of tail) i (Some line) o in
    let s = parts_start (vocabulary_of g) (split_all m.0 32) line m.2 in
    start_named g s.0 line.start s.1

-- ---- runs
module _ (plain : PlainGrammar) (g : Grammar) (tables : List StartStates) (options : Options) (text : List ℕ) (lowers : LowersTo plain g) (may : MayBeEmitted g tables) (emission : IsEmission g tables options text) where
  -- a run from a public name is the machine's
  pub start_told : (program : Program) → IsProgramOf text program → (i : ℕ) (names : NonterminalString × NonterminalString) → slice_get g.start_nonterminals.entries i ≡ Some names → (name : Text) → names.0.0 ≡ name
      → (items : List RunItem) (failing : List ℕ) (budget : ℕ) (finish : Finish) → RunsProgram program name items (values_of g) failing budget finish → EndsByTables g tables program name items failing budget finish
  start_told program is i names at name same items failing budget finish runs =
      let l = start_listed g tables may i names at in
      let s = l.1 in (
        l.0,
        record { place = s.place; names = s.names; named = s.named; listed = s.listed; is = s.is ∙ same },
        emission_agrees_as_read g tables options text emission program is.1 s.place s.names l.0 s.named s.listed items (values_of g) failing budget (length-map g.parameters (λ (p : Parameter). p.name)) (λ k x less. lowered_matches plain g lowers (get_or items k x)) finish
            (subst (λ (n : Text). RunsProgram program n items (values_of g) failing budget finish) (sym (s.is ∙ same)) runs),
      )

  -- and it is over
  pub start_over : (program : Program) (name : Text) (items : List RunItem) (failing : List ℕ) (budget : ℕ) (finish : Finish) → EndsByTables g tables program name items failing budget finish → IsOver finish
  start_over program name items failing budget NoStart told = told.2
  start_over program name items failing budget ParameterCount told = told.2
  start_over program name items failing budget (Ended e calls steps) told = tt
  start_over program name items failing budget (Spent calls steps) told = tt
  start_over program name items failing budget (Stuck steps) told = told.2

  -- the run of a token line is
  pub line_told : (tail : List ℕ) (lines : List TokenLine) → all_some (map (line_of (vocabulary_of g)) (lines_of tail)) ≡ Some lines → (program : Program) → IsProgramOf text program → (i : ℕ) (line : TokenLine) → slice_get lines i ≡ Some line
      → (finish : Finish) → RunsProgram program line.start line.items (values_of g) line.failing line.budget finish → EndsByTables g tables program line.start line.items line.failing line.budget finish
  line_told tail lines read program is i line at finish runs =
      let s = line_start g tail lines i line read at in
      start_told program is s.0 s.1 s.2 line.start s.3 line.items line.failing line.budget finish runs

  -- so is one from the first public name
  pub first_told : (program : Program) → IsProgramOf text program → (name : NonterminalString) → IsFirstName g name → (n : Text) (items : List RunItem) (values : List Text) → n ≡ name.0 → values ≡ values_of g
      → (finish : Finish) → RunsProgram program n items values [] 1000000 finish → EndsByTables g tables program name.0 items [] 1000000 finish
  first_told program is name first n items values same given finish runs =
      start_told program is 0 (name, first.0) first.1 name.0 refl items [] 1000000 finish
      (subst (λ (vs : List Text). RunsProgram program name.0 items vs [] 1000000 finish) given (subst (λ (m : Text). RunsProgram program m items values [] 1000000 finish) same runs))

  -- so no token line of the grammar lacks its start, nor has it another number of values than there are parameters
  module _ (tail : List ℕ) (lines : List TokenLine) (read : all_some (map (line_of (vocabulary_of g)) (lines_of tail)) ≡ Some lines) (other : Text) (values : List Text) (those : List TokenLine) (same_text : other ≡ text) (given : values ≡ values_of g) (same_lines : those ≡ lines) where
    line_over : (program : Program) (place : ℕ) (line : TokenLine) (finish : Finish) → IsProgramOf other program → slice_get those place ≡ Some line → FinishesLine program values line finish → IsOver finish
    line_over program place line finish reads at ends =
        let is : IsProgramOf text program = subst (λ (t : Text). IsProgramOf t program) same_text reads in
        let there : slice_get lines place ≡ Some line = ap (λ (ls : List TokenLine). slice_get ls place) (sym same_lines) ∙ at in
        start_over program line.start line.items line.failing line.budget finish
        (line_told tail lines read program is place line there finish (subst (λ (vs : List Text). FinishesLine program vs line finish) given ends))

    pub never_without_start : (number : ℕ) → IsRunFault other values those (fault.NoStart number) → ⊥
    never_without_start number why = line_over why.0 why.1 why.3.0 NoStart why.2 why.3.2 why.3.4.1

    pub never_miscounted : (number : ℕ) → IsRunFault other values those (fault.ParameterCount number) → ⊥
    never_miscounted number why = line_over why.0 why.1 why.3.0 ParameterCount why.2 why.3.2 why.3.4.1
