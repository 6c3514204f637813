-- A Welcome and a Give from their parts.
use Rattle.gtid_sets.specs.Canonical.{IsCanonical}
use Rattle.paxos_forms.specs.declared.welcome.Welcome.{Welcome}
use Rattle.paxos_forms.specs.declared.recovery.Give.{Give}
use Rattle.paxos_forms.specs.Welcomes.{IsWelcome}
use Rattle.paxos_forms.specs.Gives.{IsGive}
use Rattle.message_checks.specs.Parts.{IsListOf, HasSlots, HasView, HasMembers, HasEver, HasConfigs, HasPlaces, HasNumbers, HasItems, HasTold, HasTxns, HasParts}

pub welcome_whole : (w : Welcome) → HasSlots w → HasView w → HasMembers w → HasEver w → HasConfigs w → IsWelcome w
unfolding IsListOf
welcome_whole w s v m e c = record {
  slot_above = s.0;
  slot_below = s.1;
  place_above = s.2;
  place_below = s.3;
  number_above = v.0;
  number_below = v.1;
  promise = v.2;
  primary = v.3;
  elected = v.4;
  members = m.0;
  few_members = m.1;
  ever = e.0;
  few_ever = e.1;
  configs = c.0;
  few_configs = c.1;
}

pub welcome_parts : (w : Welcome) → IsWelcome w → HasSlots w × HasView w × HasMembers w × HasEver w × HasConfigs w
unfolding IsListOf
welcome_parts w x = (
  (x.slot_above, x.slot_below, x.place_above, x.place_below),
  (x.number_above, x.number_below, x.promise, x.primary, x.elected),
  (x.members, x.few_members),
  (x.ever, x.few_ever),
  (x.configs, x.few_configs),
)

pub give_whole : (g : Give) → IsCanonical g.certified → HasPlaces g → HasNumbers g → HasItems g → HasTold g → HasTxns g → HasParts g → IsGive g
unfolding IsListOf
give_whole g s p n i t x o = record {
  place_above = p.0;
  place_below = p.1;
  blocks = p.2;
  last = n.0;
  few_last = n.1;
  items = i.0;
  few_items = i.1;
  told = t.0;
  few_told = t.1;
  certified = s;
  txns = x.0;
  few_txns = x.1;
  parts = o.0;
  few_parts = o.1;
}

pub give_parts : (g : Give) → IsGive g → HasPlaces g × HasNumbers g × HasItems g × HasTold g × HasTxns g × HasParts g
unfolding IsListOf
give_parts g x = (
  (x.place_above, x.place_below, x.blocks),
  (x.last, x.few_last),
  (x.items, x.few_items),
  (x.told, x.few_told),
  (x.txns, x.few_txns),
  (x.parts, x.few_parts),
)
