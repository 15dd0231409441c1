use Rattle.std.proofs.Common.{◌≡◌, ℕ, ◌+◌, ◌-◌, Bool, true, false, List, length, take, drop, get_or, reverse, arith, sym, ap, ◌∙◌, subst}
use Rattle.std.proofs.lemmas.List.{take_rest}
use Rattle.lp_texts.specs.OneLine.{is_wrong}
use Rattle.lp_texts.proofs.Scanning.{IsScanned, scan_none, scan_single, scan_quote, wrong_single, wrong_line_end, wrong_in_quote, wrong_in_unended, wrong_unended, none_wrong, wrong_bracket, none_open, some_open}
use Rattle.lp_texts.proofs.line.bytes_fault.Goals as goal
use Rattle.lp_texts.proofs.line.bytes_fault.Goals.{in-Some-line_end_in, in-None-line_end_in}

-- the answer at the brackets and the bytes that are read
wrong_there : (pattern : Bool) (slice items : List ℕ) (c : ℕ) (text : List ℕ) (i : ℕ) (b : Bool) → slice ≡ items → is_wrong pattern (reverse slice) c (take (length text - i) (drop i text)) ≡ b → is_wrong pattern (reverse items) c (drop i text) ≡ b
wrong_there pattern slice items c text i b same h = subst (λ x. is_wrong pattern (reverse x) c (drop i text) ≡ b) same (subst (λ x. is_wrong pattern (reverse slice) c x ≡ b) (take_rest text i) h)

pub loop-at-init : goal.loop-at-init
loop-at-init c =
    subst (IsScanned c.args.pattern c.args.text.now 0) (ap reverse (sym c.new-brackets.ensures.items)) (scan_none c.args.pattern c.args.text.now)

pub returns-then-is_wrong : goal.returns-then-is_wrong
returns-then-is_wrong c =
    let text = c.args.text.now in
    let at = c.loop-at.at in
    wrong_single c.args.pattern text at (reverse c.loop-at.brackets.items) c.loop-at.invariant c.loop-at-test.true
    (wrong_there c.args.pattern _ _ (get_or text at 0) text (at + 1) true c.as_slice.ensures.value (sym c.is_wrong.ensures ∙ c.if-is_wrong.true))

pub returns-then-ends_line : goal.returns-then-ends_line
returns-then-ends_line c = wrong_line_end c.args.pattern c.args.text.now c.loop-at.at (reverse c.loop-at.brackets.items) c.loop-at.invariant c.loop-at-test.true (sym c.ends_line.ensures ∙ c.if-ends_line.true)

pub loop-at-preserved-in-Single : goal.loop-at-preserved-in-Single
loop-at-preserved-in-Single c =
    let text = c.args.text.now in
    let at = c.loop-at.at in
    subst (IsScanned c.args.pattern text (at + 1)) (sym c.in_ok-pass_byte-in-Single.ensures)
    (scan_single c.args.pattern text at (reverse c.loop-at.brackets.items) c.requires c.loop-at.invariant c.loop-at-test.true c.in-Single.ensures
    (wrong_there c.args.pattern _ _ (get_or text at 0) text (at + 1) false c.as_slice.ensures.value (sym c.is_wrong.ensures ∙ c.if-is_wrong.false))
    (sym c.ends_line.ensures ∙ c.if-ends_line.false))

pub returns-in-Some : goal.returns-in-Some
returns-in-Some c =
    let quote = c.in-Quote.ensures in
    let found = c.in-Some.ensures in
    wrong_in_quote c.args.pattern c.args.text.now c.loop-at.at c.in-Quote.end c.in-Some.wrong (reverse c.loop-at.brackets.items) c.requires c.loop-at.invariant quote.0 quote.2 found.0 found.1 found.2 found.3

pub loop-at-preserved : goal.loop-at-preserved
loop-at-preserved c =
    let quote = c.in-Quote.ensures in
    scan_quote c.args.pattern c.args.text.now c.loop-at.at c.in-Quote.end (reverse c.loop-at.brackets.items) c.requires c.loop-at.invariant quote.0 quote.1 quote.2 c.in-None.ensures

pub returns-in-Unended : goal.returns-in-Unended
returns-in-Unended c =
    elim c.match-line_end_in-2.branch [
      | in-Some-line_end_in w ↦ let found = w.in-Some-line_end_in.ensures in rw w.result-is (wrong_in_unended c.args.pattern c.args.text.now c.loop-at.at w.in-Some-line_end_in.wrong (reverse c.loop-at.brackets.items) c.requires c.loop-at.invariant c.in-Unended.ensures found.0 found.1 found.2 found.3)
      | in-None-line_end_in w ↦ rw w.result-is (wrong_unended c.args.pattern c.args.text.now c.loop-at.at (reverse c.loop-at.brackets.items) c.requires c.loop-at.invariant c.in-Unended.ensures w.in-None-line_end_in.ensures)
    ]

pub returns-then-is_empty : goal.returns-then-is_empty
returns-then-is_empty c =
    let brackets = c.loop-at.brackets in
    none_wrong c.args.pattern c.args.text.now c.loop-at.at c.requires
    (subst (IsScanned c.args.pattern c.args.text.now c.loop-at.at) (none_open brackets.items brackets.len c.is_empty.result (omega (arith, brackets.ok.0)) c.is_empty.ensures c.if-is_empty.true) c.loop-at.invariant)
    c.loop-at-test.false

pub returns : goal.returns
returns c =
    let brackets = c.loop-at.brackets in
    let some = some_open brackets.items brackets.len c.is_empty.result (omega (arith, brackets.ok.0)) c.is_empty.ensures c.if-is_empty.false in
    wrong_bracket c.args.pattern c.args.text.now c.loop-at.at some.0 some.1
    (subst (IsScanned c.args.pattern c.args.text.now c.loop-at.at) some.2 c.loop-at.invariant)
    c.loop-at-test.false
