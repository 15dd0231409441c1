-- What a value is.
use Rattle.lp_core.specs.declared.value.Kind.{Kind}
use Rattle.lp_core.specs.declared.value.Kind.TheVariants as k
use Rattle.lp_core.specs.Val.{Val, Plain, Made, vals_of}

abbrev pub val_of : Kind → Val
val_of (k.Plain d) = Plain d
val_of (k.Made tag vs) = Made tag (vals_of vs.items)
