-- The conditions of a begin, by what is known of the member when it is called.
use Rattle.std.specs.Prelude.{ℕ, suc, true, false, ◌&&◌, ◌||◌, not, Option, Some, None, List, []}
use Rattle.gr_ids.specs.declared.levels.Level.{Level}
use Rattle.gr_ids.specs.declared.levels.MemberState.{MemberState}
use Rattle.gr_ids.specs.declared.names.Gtid.{Gtid}
use Rattle.gr_ids.specs.declared.names.Inc.{Inc}
use Rattle.gr_ids.specs.declared.names.ValueId.{ValueId}
use Rattle.group_rules.specs.declared.holds.Conditions.{Conditions}
use Rattle.group_rules.specs.Holds.{has_sync, is_eventual}
use Rattle.group_rules.specs.Life.{is_recovering, is_up}
use Rattle.consistency_waits.specs.declared.calling.AtCall.{AtCall}

-- while ONLINE or RECOVERING: the AFTER transactions that are prepared and uncommitted
abbrev pub after_by : MemberState → List Gtid → List Gtid
after_by t gs = elim (is_up t || is_recovering t) [ false ↦ [] | true ↦ gs ]

-- at the BEFORE levels: the own value behind the last one
abbrev pub sync_by : Inc → Level → ℕ → Option ValueId
sync_by me v n = elim (has_sync v) [ true ↦ Some (record { origin = me; number = suc n }) | false ↦ None ]

-- while ONLINE and primary, at any level but EVENTUAL: the place of the election
abbrev pub elected_by : Level → MemberState → Option ℕ → Option ℕ
elected_by v t e = elim (is_up t && not (is_eventual v)) [ true ↦ e | false ↦ None ]

-- while ONLINE: the place of the own Online entry
abbrev pub online_by : MemberState → Option ℕ → Option ℕ
online_by t o = elim (is_up t) [ true ↦ o | false ↦ None ]

abbrev pub conditions_by : Inc → Level → AtCall → Conditions
conditions_by me v k = record { after = after_by k.state k.after; sync = sync_by me v k.last; elected = elected_by v k.state k.elected; online = online_by k.state k.online }
