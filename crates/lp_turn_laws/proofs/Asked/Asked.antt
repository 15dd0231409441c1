-- A method whose call ends answers so, with enough steps; with fewer it is spent.
use Rattle.std.proofs.Common.{◌≡◌, ℕ, ◌-◌, ◌≤◌, ◌<◌, Bool, true, false, ltb, List, [], Option, Some, refl, sym, ap, ◌∙◌, subst, arith}
use Rattle.std.proofs.lemmas.Bool.Decides.{nat_tests}
use Rattle.lp_driver.specs.Questions.{Said, Says, Halts, Spent}
use Rattle.lp_core.specs.Flow.{Flow}
use Rattle.lp_core.specs.Store.{UserCall, Held}
use Rattle.lp_core.specs.Val.{Val}
use Rattle.lp_maker.specs.declared.methods.Methods.{Methods}
use Rattle.lp_turns.specs.Asking.{Asking}
use Rattle.lp_turns.specs.declared.runner.Runner.{Runner}
use Rattle.lp_turns.specs.DriverCall.{with_calls, answer, on_said, says, asks, ask_over}
use Rattle.lp_code_laws.specs.Ends.Ends.{Moment, Enter, Giving, EndsIn}
use Rattle.lp_code_laws.proofs.Ends.Spent.{spent_call, ends_from}
use Rattle.lp_turn_laws.specs.Alike.Answered.{Answered, Tells, Lacks}
use Rattle.lp_turn_laws.specs.Asked.Runners.{Asks, left, seen, asking_over, Replies}

-- a value is read where a call gave it
asks_by : {A : Type 0} (read : Val → Option A) (said : Said (Val × List Held) Runner) → on_said said (λ r d'. says (read r.0) d') ≡ on_said (on_said said (λ r d'. Says r.0 d')) (λ v d'. says (read v) d')
asks_by read (Says x d) = refl
asks_by read (Halts why d) = refl

asks_over : {A : Type 0} (read : Val → Option A) (f : ℕ) (vs : List Val) (d : Runner) → on_said (ask_over f vs [] d) (λ r d'. says (read r.0) d') ≡ asks read f vs d
asks_over read f vs d = asks_by read (ask_over f vs [] d)

module _ (asked : Asking) (methods : Methods) (closure : Option ℕ) where
  -- other calls and steps leave what is asked
  pub same_program : (d : Runner) (calls : List UserCall) (n : ℕ) → Asks asked methods closure d → Asks asked methods closure (with_calls d calls n)
  same_program d calls n h = record { program = h.program; by = h.by; source = h.source }

  module _ {A : Type 0} (f : ℕ) (vs : List Val) (cells : List Held) (d : Runner) (go : Val × List Held → Runner → Said A Runner) where
    by_count : (calls : List UserCall) (most : ℕ) (Good : A → Type 0) (k : ℕ) (v : Val) (m : Moment) (x : A) → Asks asked methods closure d → EndsIn d.asked.program (Enter f vs) (asking_over cells d) k (Giving v m)
        → m.calls ≡ calls → ((n : ℕ) → go (v, m.store.cells) (with_calls d m.calls n) ≡ Says x (with_calls d m.calls n)) → Good x → k ≤ most → (less : Bool) → ltb d.left k ≡ less
        → Answered left seen (Asks asked methods closure) d most calls Good (on_said (ask_over f vs cells d) go)
    by_count calls most Good k v m x h ends same reads good few false is =
        let le : k ≤ d.left = grind (arith, nat_tests) in
        let whole : on_said (ask_over f vs cells d) go ≡ Says x (with_calls d m.calls (d.left - k)) = ap (λ (fl : Flow). on_said (answer d fl) go) (ends_from ends d.left le) ∙ reads (d.left - k) in
        subst (Answered left seen (Asks asked methods closure) d most calls Good) (sym whole) (Tells x (with_calls d m.calls (d.left - k)) (same_program d m.calls (d.left - k) h) (omega arith) same good)
    by_count calls most Good k v m x h ends same reads good few true is =
        let lt : d.left < k = grind (arith, nat_tests) in
        let s = spent_call ends d.left lt in
        let whole : on_said (ask_over f vs cells d) go ≡ Halts Spent (with_calls d s.calls 0) = ap (λ (fl : Flow). on_said (answer d fl) go) s.is in
        subst (Answered left seen (Asks asked methods closure) d most calls Good) (sym whole) (Lacks (with_calls d s.calls 0) (omega arith) (s.first.0, sym same ∙ s.first.1))

    -- what its value and the cells are read as is the answer
    pub over_replies : (calls : List UserCall) (most : ℕ) (Good : A → Type 0) (k : ℕ) (v : Val) (m : Moment) (x : A) → Asks asked methods closure d → EndsIn d.asked.program (Enter f vs) (asking_over cells d) k (Giving v m)
        → m.calls ≡ calls → ((n : ℕ) → go (v, m.store.cells) (with_calls d m.calls n) ≡ Says x (with_calls d m.calls n)) → Good x → k ≤ most
        → Answered left seen (Asks asked methods closure) d most calls Good (on_said (ask_over f vs cells d) go)
    over_replies calls most Good k v m x h ends same reads good few = by_count calls most Good k v m x h ends same reads good few (ltb d.left k) refl

  -- a question without cells, whose value is read as the answer
  pub asks_replies : {A : Type 0} (read : Val → Option A) (f : ℕ) (vs : List Val) (d : Runner) (most : ℕ) (Good : A → Type 0) (k : ℕ) (v : Val) (m : Moment) (x : A) → Asks asked methods closure d
      → EndsIn d.asked.program (Enter f vs) (asking_over [] d) k (Giving v m) → m.calls ≡ d.calls → read v ≡ Some x → Good x → k ≤ most → Replies asked methods closure d most Good (asks read f vs d)
  asks_replies read f vs d most Good k v m x h ends same reads good few =
      subst (λ (s : Said _ Runner). Replies asked methods closure d most Good s) (asks_over read f vs d)
      (over_replies f vs [] d (λ r d'. says (read r.0) d') d.calls most Good k v m x h ends same (λ n. ap (λ o. says o (with_calls d m.calls n)) reads) good few)
