use Rattle.std.proofs.Common.{refl, sym, ◌∙◌, []}
use Rattle.std.specs.Str.{chars}
use Rattle.std.proofs.lemmas.Iterator.{YieldsList-from_chars}
use Rattle.std.proofs.lemmas.Iterator.Consumers.{YieldsList-turn, YieldsList-end}
use Rattle.lp_valid.proofs.Words.{no_word, word_begins, word_fails}
use Rattle.lp_valid.proofs.names.is_word.Goals as goal

pub returns-in-None : goal.returns-in-None
returns-in-None c = no_word (chars c.args.name.now) (YieldsList-end (YieldsList-from_chars c.args.name.now c.utf8.name cc) [] _ refl _ _ c.in-None.is c.next.ensures.steps).1

pub returns-then-begins_word : goal.returns-then-begins_word
returns-then-begins_word c =
    let turn = YieldsList-turn (YieldsList-from_chars c.args.name.now c.utf8.name cc) [] _ refl _ _ c.in-Some.first c.in-Some.is c.next.ensures.steps in
    c.is_continued.ensures ∙ word_begins (chars c.args.name.now) c.in-Some.first turn (sym c.begins_word.ensures.begins ∙ c.if-begins_word.true) (c.begins_word.ensures.continues c.if-begins_word.true)

pub returns-else-begins_word : goal.returns-else-begins_word
returns-else-begins_word c =
    let turn = YieldsList-turn (YieldsList-from_chars c.args.name.now c.utf8.name cc) [] _ refl _ _ c.in-Some.first c.in-Some.is c.next.ensures.steps in
    c.if-begins_word.false ∙ word_fails (chars c.args.name.now) c.in-Some.first turn (sym c.begins_word.ensures.begins ∙ c.if-begins_word.false)
