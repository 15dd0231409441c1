use Rattle.std.proofs.Common.{◌+◌, List, ℕ, ℤ, take, drop, codes, eqb, Some, arith, ap, sym, ◌∙◌, subst, rules}
use Rattle.std.specs.List.{starts_with}
use Rattle.std.specs.Str.{IsUtf8, IsCharBoundary}
use Rattle.std.proofs.lemmas.Int.{to_z-of_z}
use Rattle.std.proofs.lemmas.Str.{IsUtf8-drop}
use mir.Syntax.{w32}
use mir.Val.{SFits}
use Rattle.lp_spelling.specs.TableReading.{number_of, number_end, entry_in}
use Rattle.lp_spelling.proofs.Tables.{number_cut, entry_none, entry_open, entry_some, entry_next, comma_cut}
use Rattle.lp_spelling.proofs.rows.entry_at.Goals as goal

pub split_at-requires-2 : goal.split_at-requires-2
split_at-requires-2 c =
    let rest = c.split_at.result.1.now in
    subst (λ i. IsCharBoundary rest i) (sym (c.number_end-end.ensures.value ∙ ap number_end c.as_bytes-bytes.ensures.value)) (number_cut rest (subst IsUtf8 (sym c.split_at.ensures.back) (IsUtf8-drop c.args.text.now c.args.at c.utf8.text c.requires)))

pub returns-in_default : goal.returns-in_default
returns-in_default c =
    let rest = c.split_at.result.1.now in
    let end = c.number_end-end.ensures.value ∙ ap number_end c.as_bytes-bytes.ensures.value in
    let spelled = c.split_at-2.ensures.front ∙ ap (λ n. take n rest) end in
    ap entry_in (sym c.split_at.ensures.back) ∙ entry_none rest (ap number_of (sym spelled) ∙ sym c.number_of.ensures ∙ c.in_default.is)

pub returns-then-not-starts_with : goal.returns-then-not-starts_with
returns-then-not-starts_with c =
    let rest = c.split_at.result.1.now in
    let end = c.number_end-end.ensures.value ∙ ap number_end c.as_bytes-bytes.ensures.value in
    let spelled = c.split_at-2.ensures.front ∙ ap (λ n. take n rest) end in
    let behind = c.split_at-2.ensures.back ∙ ap (λ n. drop n rest) end in
    let begins = ap (λ (t : List ℕ). starts_with eqb t (codes ",")) (sym (c.as_bytes.ensures.value ∙ behind)) ∙ sym c.starts_with.ensures.value ∙ c.if-not-starts_with.true in
    ap entry_in (sym c.split_at.ensures.back) ∙ entry_open rest c.in-Some.number (ap number_of (sym spelled) ∙ sym c.number_of.ensures ∙ c.in-Some.is) begins

pub returns : goal.returns
returns c =
    let text = c.args.text.now in
    let at = c.args.at in
    let rest = c.split_at.result.1.now in
    let n = c.number_end-end.result in
    let end = c.number_end-end.ensures.value ∙ ap number_end c.as_bytes-bytes.ensures.value in
    let spelled = c.split_at-2.ensures.front ∙ ap (λ n. take n rest) end in
    let behind = c.split_at-2.ensures.back ∙ ap (λ n. drop n rest) end in
    let begins = ap (λ (t : List ℕ). starts_with eqb t (codes ",")) (sym (c.as_bytes.ensures.value ∙ behind)) ∙ sym c.starts_with.ensures.value ∙ c.if-not-starts_with.false in
    let fits : SFits w32 c.in-Some.number = search rules in
    let found = entry_some rest c.in-Some.number (ap number_of (sym spelled) ∙ sym c.number_of.ensures ∙ c.in-Some.is) begins in
    let next = entry_next text rest at (number_end rest) (at + n + 1) c.split_at.ensures.back (ap (λ k. at + k + 1) end) in (
      ap entry_in (sym c.split_at.ensures.back) ∙ found ∙ ap (λ (t : List ℕ). Some (c.in-Some.number, t)) next
          ∙ ap (λ (z : ℤ). Some (z, drop (at + n + 1) text)) (sym (to_z-of_z w32 c.in-Some.number fits)),
      comma_cut text rest at (number_end rest) (at + n + 1) c.utf8.text c.split_at.ensures.back (ap (λ k. at + k + 1) end) c.requires.0 begins,
    )

pub overflow_add-next : goal.overflow_add-next
overflow_add-next c =
    let begins = c.if-not-starts_with.false in
    -- the comma stands within the text: `starts_with` says that what is behind the number isn't empty
    omega (arith, c.starts_with.ensures.bound begins, c.as_bytes.ensures.len, c.split_at.ensures.back_len, c.split_at-2.ensures.back_len)
