use Rattle.std.proofs.Common.{cond, [], ◌∷◌, ◌++◌, sym, ap, ◌∙◌, append-nil}
use Rattle.lp_repr.specs.declared.repr.TerminalString.TheVariants.{Error}
use Rattle.lp_lower.proofs.tables.push_error.Goals as goal

pub returns-in_ok-push : goal.returns-in_ok-push
returns-in_ok-push c = c.in_ok-push.ensures ∙ ap (λ b. c.args.names.now ++ cond b (Error ∷ []) []) (sym c.if-used.true)

pub returns-else-used : goal.returns-else-used
returns-else-used c = sym (append-nil c.args.names.now) ∙ ap (λ b. c.args.names.now ++ cond b (Error ∷ []) []) (sym c.if-used.false)
