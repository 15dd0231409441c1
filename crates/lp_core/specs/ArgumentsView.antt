-- The arguments that a call is made with.
use Rattle.std.specs.Prelude.{map}
use Rattle.lp_core.specs.declared.events.CallArguments.{CallArguments}
use Rattle.lp_core.specs.Store.{spanned_value}
use Rattle.lp_core.specs.CallMeaning.{Arguments}

abbrev pub arguments_of : CallArguments → Arguments
arguments_of g = record { params = g.params.items; args = map spanned_value g.args.items; start = g.start; place = g.place }
