-- One thing more in the history.
use Rattle.std.proofs.Common.{refl, ◌∷◌}
use Rattle.gr_ids.specs.declared.levels.MemberState.TheVariants.{Error}
use Rattle.group_rules.specs.Events.{Changed, Done, Is}
use Rattle.local_sessions.proofs.Awaited.{none, passed, called, begun, ended, alike, replied}
use Rattle.local_sessions.proofs.laws.each_value_is_awaited_once.Goals as goal

pub returns-clause-none : goal.returns-clause-none
returns-clause-none c = none

pub returns-clause-passed : goal.returns-clause-passed
returns-clause-passed c l d h n o = passed l d h n o

pub returns-clause-fallen : goal.returns-clause-fallen
returns-clause-fallen c l x o = alike l (Is Error x ∷ l) (λ s. refl) refl o

pub returns-clause-called : goal.returns-clause-called
returns-clause-called c l s v w o = called l s v w o

pub returns-clause-begun : goal.returns-clause-begun
returns-clause-begun c l s e y o = begun l s e y o

pub returns-clause-changed : goal.returns-clause-changed
returns-clause-changed c l s x o = alike l (Changed s x ∷ l) (λ s. refl) refl o

pub returns-clause-ended : goal.returns-clause-ended
returns-clause-ended c l s o = ended l s o

pub returns-clause-done : goal.returns-clause-done
returns-clause-done c l p o = alike l (Done p ∷ l) (λ s. refl) refl o

pub returns-clause-replied : goal.returns-clause-replied
returns-clause-replied c s r q a o = replied s r q a o
