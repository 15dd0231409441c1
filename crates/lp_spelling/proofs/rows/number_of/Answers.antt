use Rattle.std.proofs.Common.{◌∷◌, drop, ap, sym, ◌∙◌, codes, eqb}
use Rattle.std.specs.List.{starts_with}
use Rattle.lp_spelling.proofs.Tables.{minus_front}
use Rattle.lp_spelling.proofs.rows.number_of.Goals as goal

pub negative_of-requires : goal.negative_of-requires
negative_of-requires c =
    let begins = ap (λ t. starts_with eqb t (codes "-")) (sym c.as_bytes-bytes.ensures.value) ∙ sym c.starts_with.ensures.value ∙ c.if-starts_with.true in
    minus_front c.args.text.now begins ∙ ap (λ t. 45 ∷ t) (sym (c.rest_from.ensures ∙ ap (λ t. drop 1 t) c.as_bytes-bytes.ensures.value))
