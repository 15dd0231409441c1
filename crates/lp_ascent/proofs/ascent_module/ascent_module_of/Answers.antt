use Rattle.std.proofs.Common.{All, subst, sym, ◌∙◌}
use Rattle.lp_parts.specs.Entries.{EntriesFit}
use Rattle.lp_ascent.proofs.ascent_module.ascent_module_of.Goals as goal

pub add_trials-requires : goal.add_trials-requires
add_trials-requires c = subst (All EntriesFit) (sym (c.in_ok-states.ensures.states ∙ c.in_ok-shared.ensures.states)) c.requires
