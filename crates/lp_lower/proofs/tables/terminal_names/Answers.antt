use Rattle.std.proofs.Common.{◌≡◌, cond, [], ◌∷◌, ◌++◌, map, ap, ◌∙◌}
use Rattle.lp_repr.specs.declared.repr.TerminalString.TheVariants.{Error}
use Rattle.lp_lower.specs.declared.frame.Frame.{Frame}
use Rattle.lp_syntax.specs.declared.plain.PlainTerminal.{PlainTerminal}
use Rattle.lp_lower.proofs.tables.terminal_names.Goals as goal

pub returns : goal.returns
returns c =
    let declared = map (λ (t : PlainTerminal). t.name) c.args.plain.now.conversions in
    let names : c.in_ok-names.names ≡ declared = c.in_ok-names.ensures ∙ ap (map (λ (t : PlainTerminal). t.name)) c.as_slice.ensures in
    c.in_ok-push_error.ensures
    ∙ (ap (λ l. l ++ cond c.args.frame.uses_error (Error ∷ []) []) names ∙ ap (λ (f : Frame). declared ++ cond f.uses_error (Error ∷ []) []) c.requires)
