use Rattle.std.proofs.Common.{◌≡◌, ℕ, Bool, List, IsUtf8, arith, subst, ap, ◌∙◌, sym}
use Rattle.std.specs.Str.{chars}
use Rattle.lp_texts.specs.OneLine.{begins}
use Rattle.unicode_ident.specs.Ident.{is_xid_continue}
use Rattle.lp_texts.proofs.Words.{begins_none, begins_hole, begins_piece, is_nil, is_some_text}
use Rattle.lp_texts.proofs.pattern.begins_word_joined.Goals as goal

subst_utf8 : (xs ys : List ℕ) → xs ≡ ys → IsUtf8 xs → IsUtf8 ys
subst_utf8 xs ys e h = subst IsUtf8 e h

begins_there : (b : Bool) (xs ys : List ℕ) → xs ≡ ys → b ≡ begins is_xid_continue (chars xs) → b ≡ begins is_xid_continue (chars ys)
begins_there b xs ys e h = h ∙ ap (λ x. begins is_xid_continue (chars x)) e

pub returns-in-empty : goal.returns-in-empty
returns-in-empty c = begins_none is_xid_continue c.args.pieces.now c.in-empty.len_below

pub returns-then-is_empty : goal.returns-then-is_empty
returns-then-is_empty c =
    begins_hole is_xid_continue c.args.pieces.now c.first-item.result c.is_xid_continue.result (omega arith) c.first-item.is
    (sym c.as_str-in-len2-up.ensures ∙ is_nil c.as_str-in-len2-up.result.now c.is_empty.result c.is_empty.ensures c.if-is_empty.true)
    c.is_xid_continue.ensures.value

pub returns-else-is_empty : goal.returns-else-is_empty
returns-else-is_empty c =
    begins_piece is_xid_continue c.args.pieces.now c.first-item.result c.begins_word-else-is_empty.result (omega arith) c.first-item.is
    (subst_utf8 _ _ c.as_str-in-len2-up.ensures c.as_str-in-len2-up.utf8)
    (λ none. is_some_text c.as_str-in-len2-up.result.now c.is_empty.result c.is_empty.ensures c.if-is_empty.false (c.as_str-in-len2-up.ensures ∙ none))
    (begins_there _ _ _ c.as_str-else-is_empty.ensures c.begins_word-else-is_empty.ensures)
