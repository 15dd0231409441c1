use Rattle.std.proofs.Common.{◌≡◌, ◌↔◌, refl, sym, subst, Some, IsTrue, slice_get}
use Rattle.std.proofs.lemmas.Option.{slice_get_read}
use Rattle.lp_tables.specs.Edges.{HoldsItem}
use Rattle.lp_tables.proofs.Described.{holds_of}
use Rattle.lp_tables.proofs.tables.Tables.has_item.Goals as goal

pub returns-in-Some : goal.returns-in-Some
returns-in-Some c =
    let t = c.args.self.now in
    let k = c.in-Some.items.now in
    let found = c.in-Some.ensures.lookup in
    let at : slice_get t.sets.items c.args.state ≡ Some k = subst (λ xs. slice_get xs c.args.state ≡ Some k) c.deref.ensures.value (slice_get_read c.deref.result.now _ c.args.state k refl found.3.0 found.1) in
    subst (λ b. IsTrue b ↔ HoldsItem t.states.now c.args.state c.args.production c.args.dot) (sym c.contains.ensures) (holds_of t.rules.all.items t.states.now t.sets.items c.requires c.args.state k c.args.production c.args.dot at)
