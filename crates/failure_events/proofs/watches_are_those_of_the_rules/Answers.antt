-- Each thing, and what is told.
use Rattle.std.proofs.Common.{ap, ◌∙◌}
use Rattle.gr_ids.specs.declared.names.Inc.{Inc}
use Rattle.group_rules.specs.Watch.{Watch, gives_up, is_expel_due, leads_by_rank, suspects, watch}
use Rattle.failure_events.proofs.Histories.{passes, same_expulsions, same_lead, same_losses, same_suspects, watches_entry, watches_founding, watches_message, watches_tick, watches_welcome}
use Rattle.failure_events.proofs.watches_are_those_of_the_rules.Goals as goal

pub returns-clause-founded : goal.returns-clause-founded
returns-clause-founded c = watches_founding

pub returns-clause-welcomed : goal.returns-clause-welcomed
returns-clause-welcomed c = watches_welcome

pub returns-clause-ticked : goal.returns-clause-ticked
returns-clause-ticked c = watches_tick

pub returns-clause-heard : goal.returns-clause-heard
returns-clause-heard c = watches_message

pub returns-clause-taken : goal.returns-clause-taken
returns-clause-taken c = watches_entry

pub returns-clause-passed : goal.returns-clause-passed
returns-clause-passed c = passes

pub returns-clause-suspected : goal.returns-clause-suspected
returns-clause-suspected c = λ s me l x i f. ap (λ (j : Inc). suspects j x.watch i) f.is_me ∙ (ap (λ (w : Watch). suspects me w i) f.watch ∙ same_suspects me (watch s me l) i)

pub returns-clause-expelled : goal.returns-clause-expelled
returns-clause-expelled c = λ s me l x i n f h. ap (λ (w : Watch). is_expel_due n w i) f.watch ∙ same_expulsions n (watch s me l) i h

pub returns-clause-led : goal.returns-clause-led
returns-clause-led c = λ s me l x online f. ap (λ (j : Inc). leads_by_rank j x.watch online) f.is_me ∙ (ap (λ (w : Watch). leads_by_rank me w online) f.watch ∙ same_lead me (watch s me l) online)

pub returns-clause-lost : goal.returns-clause-lost
returns-clause-lost c = λ s me l x n f h. ap (gives_up n) f.watch ∙ same_losses n (watch s me l) h
