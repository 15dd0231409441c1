use Rattle.std.proofs.Common.{◌≡◌, ◌-◌, cond, sym, ap, ◌∙◌, Some, arith}
use Rattle.std.specs.BTreeMap.{get}
use Rattle.std.specs.Cmp.Lexicographic.{texts_ties}
use Rattle.lp_repr.specs.Names.{same_text, same_terminal}
use Rattle.lp_repr.specs.declared.repr.TerminalString.TheVariants.{Quoted}
use Rattle.lp_lower.specs.Naming.{text_cmp}
use Rattle.lp_lower.proofs.FirstNumbers.{place_before}
use Rattle.lp_syntax.specs.declared.plain.PlainTerminal.{PlainTerminal}
use Rattle.lp_lower.proofs.names.quoted_numbers.Goals as goal

pub loop-number-preserved-in_ok-insert : goal.loop-number-preserved-in_ok-insert
loop-number-preserved-in_ok-insert c =
    let terminal = c.index-terminals-number.result in
    let i = c.loop-number.number - 1 in
    let key = c.in_ok-clone.field-0 in
    let same : key ≡ c.in-Quoted.text = c.in_ok-clone.ensures.cases in (
      omega arith,
      λ q.
          let old = get text_cmp c.loop-number.numbers q in
          let is : cond (same_text c.in-Quoted.text q) (Some i) old ≡ cond (same_terminal terminal.name (Quoted q)) (Some i) old = ap (λ t. cond (same_terminal t (Quoted q)) (Some i) old) (sym c.in-Quoted.is) ∙ ap (λ (t : PlainTerminal). cond (same_terminal t.name (Quoted q)) (Some i) old) (sym c.index-terminals-number.is) in
          place_before (λ t. same_terminal t.name (Quoted q)) c.args.terminals.now i c.loop-number.number terminal old _ (omega arith) (omega arith) (sym c.index-terminals-number.is) (c.loop-number.invariant.1 q) (c.in_ok-insert.ensures.updates.0 q ∙ (ap (λ b. cond b (Some i) old) (sym (texts_ties key q)) ∙ (ap (λ k. cond (same_text k q) (Some i) old) same ∙ is))),
    )
