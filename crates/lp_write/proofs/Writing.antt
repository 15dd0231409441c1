-- One call that writes lines after another.
use Rattle.std.proofs.Common.{◌≡◌, ℕ, ◌+◌, ◌-◌, ◌≤◌, Bool, false, ◌==◌, List, [], ◌∷◌, ◌++◌, length, take, drop, Result, Ok, Err, OnOk, OnErr, refl, sym, ap, ◌∙◌, arith, append_assoc, length-append, zero, suc}
use Rattle.std.proofs.Math.Seq.{take-append-add, drop-append-add}
use Rattle.std.proofs.lemmas.List.{take-append-le, drop-append-le}
use Rattle.lp_write.specs.Sinks.{Took, Broke}
use Rattle.lp_write.specs.Lines.{Line, lowered, indented, line_bytes, lines_bytes, next_bytes, indent_after, indent_after_all}
use Rattle.lp_write.specs.Lines.Line.{line, verbatim}
use Rattle.lp_write.specs.Writes.{Writing, ending, AppendsAll, AppendsPart, Faults, Writes, Ending}
use Rattle.lp_write.specs.Writes.Ending.{complete, faulted, wanting}
use Rattle.lp_write.specs.declared.sinks.Failed.{Failed}
use Rattle.lp_write.proofs.Sinking.{append-none, took-none, took-then, rose-last}

-- the indent after lines and more lines
pub indent-append : (n : ℕ) (xs ys : List Line) → indent_after_all n (xs ++ ys) ≡ indent_after_all (indent_after_all n xs) ys
indent-append n [] ys = refl
indent-append n (x ∷ xs) ys = indent-append (indent_after n x) xs ys

-- the bytes of lines and more lines
pub bytes-append : (b : Bool) (n : ℕ) (xs ys : List Line) →
    lines_bytes b n (xs ++ ys) ≡ lines_bytes b n xs ++ lines_bytes b (indent_after_all n xs) ys
bytes-append b n [] ys = refl
bytes-append b n (x ∷ xs) ys =
    ap (λ r. line_bytes b n x ++ r) (bytes-append b (indent_after n x) xs ys)
    ∙ sym (append_assoc (line_bytes b n x) (lines_bytes b (indent_after n x) xs) (lines_bytes b (indent_after_all (indent_after n x) xs) ys))

-- no lines
pub all-none : (a : Writing) → AppendsAll a a []
all-none a = record { took = took-none a.told; indent = refl; options = refl }

-- lines, and then more lines
pub all-then : (a b c : Writing) (xs ys : List Line) → AppendsAll a b xs → AppendsAll b c ys → AppendsAll a c (xs ++ ys)
all-then a b c xs ys p q = record {
  took = rw (bytes-append a.options.whitespace a.indent xs ys) (took-then a.told b.told c.told _ _ p.took q-took);
  indent = rw (q.indent, p.indent) (sym (indent-append a.indent xs ys));
  options = rw q.options p.options;
} where
  q-took : Took b.told c.told (lines_bytes a.options.whitespace (indent_after_all a.indent xs) ys)
  q-took = rw (← p.indent, ← p.options) q.took

-- the first bytes of what comes next, whatever comes after it
next-more : (b : Bool) (n k : ℕ) (zs ys : List Line) → k ≤ length (next_bytes b n zs) - 1 →
    take k (next_bytes b n (zs ++ ys)) ≡ take k (next_bytes b n zs)
next-more b n zero [] ys h = refl
next-more b n (suc k) [] ys h = absurd (omega arith)
next-more b n k (z ∷ zs) ys h = refl

next-short : (b : Bool) (n k : ℕ) (zs ys : List Line) → k ≤ length (next_bytes b n zs) - 1 →
    k ≤ length (next_bytes b n (zs ++ ys)) - 1
next-short b n k [] ys h = omega arith
next-short b n k (z ∷ zs) ys h = h

-- lines, and then a part of more lines
pub part-then : (a b c : Writing) (xs ys : List Line) → AppendsAll a b xs → AppendsPart b c ys → AppendsPart a c (xs ++ ys)
part-then a b c xs ys p q = record {
  whole = length xs + q.whole;
  part = q.part;
  fits = rw (length-append xs ys) (omega (arith, q.fits));
  short = rw (drop-append-add xs ys q.whole, ← p.options) q.short;
  took = rw (take-append-add xs ys q.whole, drop-append-add xs ys q.whole, bytes-append a.options.whitespace a.indent xs (take q.whole ys))
      (rw append_assoc (took-then a.told b.told c.told _ _ p.took q-took));
  indent = rw (take-append-add xs ys q.whole, indent-append a.indent xs (take q.whole ys), ← p.indent) q.indent;
  options = rw q.options p.options;
} where
  q-took : Took b.told c.told
      (lines_bytes a.options.whitespace (indent_after_all a.indent xs) (take q.whole ys)
      ++ take q.part (next_bytes a.options.whitespace c.indent (drop q.whole ys)))
  q-took = rw (← p.indent, ← p.options) q.took

-- a part of lines is a part of them and more
pub part-more : (a b : Writing) (xs ys : List Line) → AppendsPart a b xs → AppendsPart a b (xs ++ ys)
part-more a b xs ys p =
    let fits : p.whole ≤ length xs = p.fits in
    record {
      whole = p.whole;
      part = p.part;
      fits = rw (length-append xs ys) (omega (arith, fits));
      short = rw (drop-append-le p.whole xs ys fits) (next-short a.options.whitespace b.indent p.part (drop p.whole xs) ys p.short);
      took = rw (take-append-le p.whole xs ys fits, drop-append-le p.whole xs ys fits, next-more a.options.whitespace b.indent p.part (drop p.whole xs) ys p.short) p.took;
      indent = rw (take-append-le p.whole xs ys fits) p.indent;
      options = p.options;
    }

-- nothing of lines was written
pub none-part : (a : Writing) (xs : List Line) → AppendsPart a a xs
none-part a xs = record {
  whole = 0;
  part = 0;
  fits = omega arith;
  short = omega arith;
  took = took-none a.told;
  indent = refl;
  options = refl;
}

-- lines are a part of them and more
pub all-part : (a b : Writing) (xs ys : List Line) → AppendsAll a b xs → AppendsPart a b (xs ++ ys)
all-part a b xs ys p = part-then a b b xs ys p (none-part b ys)

-- a line that was broken off
pub line-broke : (a b : Writing) (l : Line) → b.indent ≡ a.indent → b.options ≡ a.options →
    Broke a.told b.told (line_bytes a.options.whitespace a.indent l) → Faults a b (l ∷ [])
line-broke a b l e f p = record {
  part = record {
    whole = 0;
    part = p.count;
    fits = omega arith;
    short = rw e (omega (arith, p.short));
    took = rw e p.took;
    indent = e;
    options = f;
  };
  rose = p.rose;
}

-- the bytes of a line that isn't empty
pub bytes-of-line : (b : Bool) (n : ℕ) (text : List ℕ) → (length text == 0) ≡ false →
    line_bytes b n (line text) ≡ indented b (lowered n text) text
bytes-of-line b n text h = rw h refl

-- lines, and then what a call made of more lines
pub writes-then : (e : Ending) (a b c : Writing) (xs ys : List Line) → AppendsAll a b xs → Writes e b c ys → Writes e a c (xs ++ ys)
writes-then complete a b c xs ys p q = all-then a b c xs ys p q
writes-then faulted a b c xs ys p q = record {
  part = part-then a b c xs ys p q.part;
  rose = rose-last a.told.faults b.told.faults c.told.faults p.took.faults q.rose;
}
writes-then wanting a b c xs ys p q = part-then a b c xs ys p q

-- a call that a fault ended in its first lines
pub faults-more : (a b : Writing) (xs ys : List Line) → Faults a b xs → Faults a b (xs ++ ys)
faults-more a b xs ys p = record { part = part-more a b xs ys p.part; rose = p.rose }

-- a line that leaves the indent alone
pub verbatim-written : (r : Result (Unit {0}) Failed) (a b : Writing) (text : List ℕ) →
    OnOk r (Took a.told b.told (indented a.options.whitespace a.indent text)) →
    OnErr r (Broke a.told b.told (indented a.options.whitespace a.indent text)) →
    b.indent ≡ a.indent → b.options ≡ a.options → Writes (ending r) a b (verbatim text ∷ [])
verbatim-written (Ok done) a b text p q e f = record {
  took = rw (← append-none (indented a.options.whitespace a.indent text)) p;
  indent = e;
  options = f;
}
verbatim-written (Err failed) a b text p q e f = line-broke a b (verbatim text) e f q
