use Rattle.unicode_ident.specs.Ident.{is_xid_continue}
use Rattle.lp_texts.proofs.Words.{ends_char, ends_empty}
use Rattle.lp_texts.proofs.pattern.ends_word.Goals as goal

pub returns-in-None : goal.returns-in-None
returns-in-None c = ends_empty is_xid_continue c.args.text.now c.in-None.ensures

pub returns-in-Some : goal.returns-in-Some
returns-in-Some c = ends_char is_xid_continue c.args.text.now c.in-Some.field-0-0.now c.in-Some.last c.is_xid_continue.result c.is_xid_continue.ensures.value c.in-Some.ensures
