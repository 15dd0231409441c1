-- A piece that ends after its first character takes at least that.
use Rattle.std.proofs.Common.{◌<◌, arith}
use Rattle.lp_tok.specs.declared.rest.Rest.{Rest}
use Rattle.lp_tok.specs.declared.piece.Piece.{Piece}
use Rattle.lp_tok.specs.declared.piece.Piece.TheVariants as found
use Rattle.lp_tok.specs.Left.{size, Follows}
use Rattle.lp_tok.specs.Found.{EndsAfter, TakesSome}
use Rattle.lp_tok.proofs.Lefts.{follows_follows}

pub takes_after : (start begun next : Rest) (p : Piece) → Follows start begun → Follows start next → size next < size start → EndsAfter begun next p → TakesSome start p
takes_after start begun next (found.Gap after) b f less ends = (follows_follows start next after f ends.0, omega (arith, ends.1))
takes_after start begun next (found.Whole token after) b f less ends = (follows_follows start next after f ends.0, omega (arith, ends.1), ends.2)
takes_after start begun next (found.Text kind from to after) b f less ends = (follows_follows start next after f ends.0, omega (arith, ends.1), follows_follows start begun from b ends.2, ends.3, ends.4)
takes_after start begun next (found.Attribute end after) b f less ends = (follows_follows start next after f ends.0, omega (arith, ends.1), follows_follows start begun end b ends.2, ends.3)
takes_after start begun next (found.Cut kind code) b f less ends = (follows_follows start next code f ends.0, omega (arith, ends.1))
takes_after start begun next (found.Fault code place) b f less ends = (follows_follows start begun place b ends, omega arith)
takes_after start begun next found.Nothing b f less ends = tt
