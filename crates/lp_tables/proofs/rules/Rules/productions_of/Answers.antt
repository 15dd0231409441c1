use Rattle.std.proofs.Common.{◌≡◌, ◌+◌, ◌≤◌, length, refl, subst, arith, inl, inr, Some, slice_get}
use Rattle.std.proofs.lemmas.Option.{slice_get_read, slice_get_past}
use Rattle.lp_tables.proofs.Index.{none_of, these_of}
use Rattle.lp_tables.proofs.rules.Rules.productions_of.Goals as goal

pub returns-then-nonterminal-len : goal.returns-then-nonterminal-len
returns-then-nonterminal-len c =
    let s = c.args.self.now in
    let same = s.firsts.ok.0 in
    none_of s.all.items s.firsts.items c.args.nonterminal c.requires (inl (slice_get_past s.firsts.items c.args.nonterminal (omega (arith, same))))

pub returns-in-None : goal.returns-in-None
returns-in-None c =
    let s = c.args.self.now in
    let past : length c.deref.result.now ≤ c.args.nonterminal + 1 = c.in-None.ensures.lookup.3 in
    none_of s.all.items s.firsts.items c.args.nonterminal c.requires (inr (slice_get_past s.firsts.items (c.args.nonterminal + 1) (subst (λ xs. length xs ≤ c.args.nonterminal + 1) c.deref.ensures.value past)))

pub returns-in-Some : goal.returns-in-Some
returns-in-Some c =
    let s = c.args.self.now in
    let same = s.firsts.ok.0 in
    let found = c.in-Some.ensures.lookup in
    let end : slice_get s.firsts.items (c.args.nonterminal + 1) ≡ Some c.in-Some.end.now = subst (λ xs. slice_get xs (c.args.nonterminal + 1) ≡ Some c.in-Some.end.now) c.deref.ensures.value (slice_get_read c.deref.result.now _ (c.args.nonterminal + 1) c.in-Some.end.now refl found.3.0 found.1) in
    these_of s.all.items s.firsts.items c.args.nonterminal c.index.result.now c.in-Some.end.now c.requires (slice_get_read s.firsts.items _ c.args.nonterminal c.index.result.now refl (omega (arith, same)) c.index.ensures) end
