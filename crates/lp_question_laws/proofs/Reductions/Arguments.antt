-- Arguments that are read by their names.
use Rattle.std.proofs.Common.{◌≡◌, ℕ, List, [], ◌∷◌, ◌++◌, map, codes, refl, sym, ap, subst, append_assoc, append-nil}
use Rattle.lp_core.specs.declared.expr.Target.TheVariants as target
use Rattle.lp_core.specs.Store.{Program}
use Rattle.lp_core.specs.Tree.{Tree, trees_of}
use Rattle.lp_core.specs.Val.{Val}
use Rattle.lp_maker.specs.Slots.{Names}
use Rattle.lp_maker.specs.Texts.{pieces, plain}
use Rattle.lp_maker.specs.Making.{read_written, read_all}
use Rattle.lp_code_laws.specs.Ends.Ends.{Moment, Enter, Arguments, Outcome, EndsIn}
use Rattle.lp_code_laws.proofs.Ends.Rules.{argument}
use Rattle.lp_code_laws.proofs.Ends.Calls.{arguments_done}
use Rattle.lp_code_laws.proofs.Printed.Lines.{read_shown}
use Rattle.lp_code_laws.specs.Slots.Shows.{Shows}
use Rattle.lp_question_laws.specs.Reductions.Arguments.{ShowAll, reads, names_in}

module _ {p : Program} (f : ℕ) (names : Names) {m : Moment} {k : ℕ} {o : Outcome} where
  -- the call, once they are read
  pub arguments_read : (qs : List (List ℕ)) (vs before : List Val) → ShowAll names m.store.env qs vs → EndsIn p (Enter f (before ++ vs)) m k o → EndsIn p (Arguments (target.Function f) (trees_of (reads names qs)) before) m k o
  arguments_read [] [] before h ends = arguments_done (subst (λ (vs : List Val). EndsIn p (Enter f vs) m k o) (append-nil before) ends)
  arguments_read [] (v ∷ vs) before h ends = absurd h
  arguments_read (q ∷ qs) [] before h ends = absurd h
  arguments_read (q ∷ qs) (v ∷ vs) before h ends =
      argument (read_shown h.0 h.1) (arguments_read qs vs (before ++ v ∷ []) h.2 (subst (λ (us : List Val). EndsIn p (Enter f us) m k o) (sym (append_assoc before (v ∷ []) vs)) ends))

-- the names of a printed list are read
read_each : (prefix : List ℕ) (names : Names) (texts : List (List ℕ)) → map (read_written prefix names) texts ≡ reads names (map (plain prefix) texts)
read_each prefix names [] = refl
read_each prefix names (t ∷ texts) = ap (λ (ts : List Tree). read_written prefix names t ∷ ts) (read_each prefix names texts)

pub all_read : (prefix : List ℕ) (names : Names) (texts : List ℕ) → read_all prefix names texts ≡ reads names (names_in prefix texts)
all_read prefix names texts = read_each prefix names (pieces (codes ", ") texts)

-- some and then others
pub show_append : (names : Names) (env : List Val) (qs rs : List (List ℕ)) (vs us : List Val) → ShowAll names env qs vs → ShowAll names env rs us → ShowAll names env (qs ++ rs) (vs ++ us)
show_append names env [] rs [] us h g = g
show_append names env [] rs (v ∷ vs) us h g = absurd h
show_append names env (q ∷ qs) rs [] us h g = absurd h
show_append names env (q ∷ qs) rs (v ∷ vs) us h g = (h.0, h.1, show_append names env qs rs vs us h.2 g)

-- in another place, where each name shows the same
pub show_moved : (names later : Names) (env after : List Val) (qs : List (List ℕ)) (vs : List Val) → ((q : List ℕ) (v : Val) → Shows names env q v → Shows later after q v) → ShowAll names env qs vs → ShowAll later after qs vs
show_moved names later env after [] [] h g = tt
show_moved names later env after [] (v ∷ vs) h g = absurd g
show_moved names later env after (q ∷ qs) [] h g = absurd g
show_moved names later env after (q ∷ qs) (v ∷ vs) h g = (h q v g.0, g.1, show_moved names later env after qs vs h g.2)
