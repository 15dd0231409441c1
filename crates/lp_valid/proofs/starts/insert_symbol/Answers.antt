use Rattle.std.proofs.Common.{◌∙◌, ◌||◌, Bor, sym, ap}
use Rattle.lp_repr.specs.declared.repr.NonterminalString.{NonterminalString}
use Rattle.lp_valid.specs.Members.{has}
use Rattle.lp_valid.specs.StartRules.{is_nonterminal}
use Rattle.lp_valid.proofs.Sides.{one_more_name}
use Rattle.lp_valid.proofs.starts.insert_symbol.Goals as goal

pub returns-in_ok-insert-in-Nonterminal : goal.returns-in_ok-insert-in-Nonterminal
returns-in_ok-insert-in-Nonterminal c = λ q.
    let key : Bor NonterminalString = record { ref_ptr = (0, 0); now = q } in
    one_more_name c.in-Nonterminal.name q (has c.insert.new.self q) (has c.args.on_right.now q) (c.in_ok-insert-in-Nonterminal.ensures.updates.0 key)
    ∙ ap (λ s. has c.args.on_right.now q || is_nonterminal q s) (sym c.in-Nonterminal.is)
