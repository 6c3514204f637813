-- Worked rows, computed: the text of every line of each script.
use Rattle.std.proofs.Common.{◌≡◌, ℕ, true, false, Option, Some, None, List, [], ◌∷◌, refl}
use Rattle.std.specs.Prelude.{replicate, codes, ◌+◌}
use Rattle.std.specs.Fmt.{digits}
use Rattle.gr_ids.specs.declared.names.Inc.{Inc}
use Rattle.gr_ids.specs.declared.levels.Level.TheVariants.{Eventual, BeforeOnPrimaryFailover, Before, After, BeforeAndAfter}
use Rattle.gr_ids.specs.declared.levels.Mode.TheVariants.{Single, Multi}
use Rattle.key_items.specs.declared.item.Item.{Item}
use Rattle.key_items.specs.declared.change.ChangeKind.{ChangeKind}
use Rattle.key_items.specs.declared.change.ChangeKind.TheVariants.{Insert as Inserts, Update as Updates, Delete as Deletes}
use Rattle.group_rules.specs.declared.requests.Request.TheVariants.{Begin, Get, Insert, Update, Delete, Commit, Rollback}
use Rattle.group_rules.specs.declared.requests.Operator.TheVariants.{Campaign, Tell, Leave, SetPrimary, Single as SetSingle, Multi as SetMulti, AskDonor, DonorFailed}
use Rattle.group_rules.specs.declared.steps.Step.{Step}
use Rattle.group_rules.specs.declared.steps.Step.TheVariants.{Server, Block, Found, Session, Once, Operate, Deliver, Lose, Settle, Work, Drain, Tick, Start, Stop, Offline, ShowMembers, ShowSlots, ShowConfig, ShowGtids, ShowRows, ShowQueue, ShowCertifier, ShowKept, ShowWire}
use Rattle.group_rules.specs.World.{default_uuid, move}
use Rattle.group_rules.specs.Script.{apply, plays, settle, drain, run}
use Rattle.group_rules.specs.Texts.{full}
use Rattle.group_rules.specs.Calls.{call}
use Rattle.group_rules.specs.Points.{point}
use Rattle.group_rules.specs.Taking.{settle_slots}
use Rattle.group_rules.specs.Steps.{step, found, start}
use Rattle.uuid.specs.Text.{by_index}
use Rattle.byte_forms.specs.Numbers.{number, number_of}
use Rattle.byte_forms.specs.Fields.{field, word, begins_number, number_in}
use Rattle.byte_forms.specs.Lists.{elements}
use Rattle.name_forms.specs.Incs.{next_inc}
use Rattle.name_forms.specs.Gtids.{next_gtid}
use Rattle.gtid_sets.specs.Spelling.{next_interval_after, next_source_above, next_set}
use Rattle.key_items.specs.Spelling.{next_item_after}
use Rattle.txn_forms.specs.Changes.{next_kind, next_change}
use Rattle.txn_forms.specs.Bodies.{next_body, next_txn, next_mode, next_part}
use Rattle.slot_values.specs.Log.{read, turn}
use Rattle.node_rules.specs.Voting.{hear_prepare, hear_accept}
use Rattle.node_rules.specs.Learning.{hear_learn, hear_accepted, hear_alive}
use Rattle.node_rules.specs.Proposing.{hear_promise, propose_one, own_value, hear_offer, campaign}
use Rattle.node_rules.specs.Welcoming.{hear_welcome}
use Rattle.node_rules.specs.Ticks.{tick}
use Rattle.node_rules.specs.Taking.{take, forget}
use Rattle.node_rules.specs.Step.{hear, node_step}

abbrev inc : ℕ → ℕ → Inc
inc s n = record { server = s; start = n }

abbrev item : List ℕ → List ℕ → Item
item t k = record { table = t; key = k }

abbrev group : List ℕ
group = replicate 16 0xaa

-- the session of a transaction of one statement on the line n
abbrev once : ℕ → ℕ → Item → ChangeKind → Step
once n s i k = Once s (1_000_000_000 + n) (record { item = i; what = k })

-- chosen-in-two-slots
abbrev chosen_in_two_slots : List Step
chosen_in_two_slots =
    Found group Multi 10 5 0 (1 ∷ 2 ∷ 3 ∷ []) ∷
    once 2 2 (item (codes "t") (codes "a")) (Inserts (codes "1")) ∷
    Deliver 1 ∷
    Deliver 3 ∷
    Operate 3 Campaign ∷
    Deliver 6 ∷
    Tick 2 1 ∷
    Deliver 9 ∷
    Deliver 7 ∷
    Settle [] ∷
    Deliver 4 ∷
    ShowSlots 1 ∷
    Deliver 99 ∷
    []

chosen_in_two_slots_text : full chosen_in_two_slots ≡
    codes "1 1.1 state ONLINE" ∷
    codes "1 2.1 state ONLINE" ∷
    codes "1 3.1 state ONLINE" ∷
    codes "2 2.1 answer o2 begun -" ∷
    codes "2 2.1 answer o2 changed" ∷
    codes "2 2.1 answer o2 sent 2.1#1" ∷
    codes "3 ok" ∷
    codes "4 ok" ∷
    codes "5 3.1 reply ballot 2/3.1" ∷
    codes "6 ok" ∷
    codes "7 ok" ∷
    codes "8 ok" ∷
    codes "9 ok" ∷
    codes "10 1.1 took 1 2.1#1 txn positive aaaaaaaa-aaaa-aaaa-aaaa-aaaaaaaaaaaa:1" ∷
    codes "10 2.1 took 1 2.1#1 txn positive aaaaaaaa-aaaa-aaaa-aaaa-aaaaaaaaaaaa:1" ∷
    codes "10 2.1 committed aaaaaaaa-aaaa-aaaa-aaaa-aaaaaaaaaaaa:1" ∷
    codes "10 2.1 answer o2 committed aaaaaaaa-aaaa-aaaa-aaaa-aaaaaaaaaaaa:1" ∷
    codes "10 3.1 took 1 2.1#1 txn positive aaaaaaaa-aaaa-aaaa-aaaa-aaaaaaaaaaaa:1" ∷
    codes "10 3.1 skipped 2 2.1#1" ∷
    codes "10 1.1 skipped 2 2.1#1" ∷
    codes "10 2.1 skipped 2 2.1#1" ∷
    codes "11 ok" ∷
    codes "12 1.1 slots next 3 place 1 promise 2/3.1" ∷
    codes "13 refused NoMessage 99" ∷
    []
unfolding number number_of field word begins_number number_in elements next_inc next_gtid next_interval_after next_source_above next_set next_item_after next_kind next_change next_body next_txn next_mode next_part by_index full run apply plays move settle drain step found start call point settle_slots read turn node_step hear hear_prepare hear_accept hear_learn hear_promise hear_accepted propose_one own_value hear_offer campaign hear_alive tick take hear_welcome forget
chosen_in_two_slots_text = refl

-- delayed-behind-executed
abbrev delayed_behind_executed : List Step
delayed_behind_executed =
    Found group Multi 10 5 0 (1 ∷ 2 ∷ 3 ∷ []) ∷
    once 2 2 (item (codes "t") (codes "b")) (Inserts (codes "1")) ∷
    once 3 1 (item (codes "t") (codes "a")) (Inserts (codes "1")) ∷
    Deliver 2 ∷
    Deliver 4 ∷
    Deliver 5 ∷
    Work 2 None ∷
    Operate 2 Tell ∷
    Deliver 7 ∷
    Deliver 1 ∷
    Settle [] ∷
    Tick 2 1 ∷
    Settle [] ∷
    []

delayed_behind_executed_text : full delayed_behind_executed ≡
    codes "1 1.1 state ONLINE" ∷
    codes "1 2.1 state ONLINE" ∷
    codes "1 3.1 state ONLINE" ∷
    codes "2 2.1 answer o2 begun -" ∷
    codes "2 2.1 answer o2 changed" ∷
    codes "2 2.1 answer o2 sent 2.1#1" ∷
    codes "3 1.1 answer o3 begun -" ∷
    codes "3 1.1 answer o3 changed" ∷
    codes "3 1.1 answer o3 sent 1.1#1" ∷
    codes "4 ok" ∷
    codes "5 1.1 took 1 1.1#1 txn positive aaaaaaaa-aaaa-aaaa-aaaa-aaaaaaaaaaaa:1" ∷
    codes "5 1.1 committed aaaaaaaa-aaaa-aaaa-aaaa-aaaaaaaaaaaa:1" ∷
    codes "5 1.1 answer o3 committed aaaaaaaa-aaaa-aaaa-aaaa-aaaaaaaaaaaa:1" ∷
    codes "6 2.1 took 1 1.1#1 txn positive aaaaaaaa-aaaa-aaaa-aaaa-aaaaaaaaaaaa:1" ∷
    codes "7 2.1 done 1" ∷
    codes "7 2.1 committed aaaaaaaa-aaaa-aaaa-aaaa-aaaaaaaaaaaa:1" ∷
    codes "8 2.1 reply sent 2.1#2" ∷
    codes "9 ok" ∷
    codes "10 ok" ∷
    codes "11 3.1 took 1 1.1#1 txn positive aaaaaaaa-aaaa-aaaa-aaaa-aaaaaaaaaaaa:1" ∷
    codes "11 1.1 skipped 2 2.1#2" ∷
    codes "11 1.1 took 2 2.1#1 txn positive aaaaaaaa-aaaa-aaaa-aaaa-aaaaaaaaaaaa:2" ∷
    codes "11 2.1 skipped 2 2.1#2" ∷
    codes "11 3.1 skipped 2 2.1#2" ∷
    codes "11 2.1 took 2 2.1#1 txn positive aaaaaaaa-aaaa-aaaa-aaaa-aaaaaaaaaaaa:2" ∷
    codes "11 2.1 committed aaaaaaaa-aaaa-aaaa-aaaa-aaaaaaaaaaaa:2" ∷
    codes "11 2.1 answer o2 committed aaaaaaaa-aaaa-aaaa-aaaa-aaaaaaaaaaaa:2" ∷
    codes "11 3.1 took 2 2.1#1 txn positive aaaaaaaa-aaaa-aaaa-aaaa-aaaaaaaaaaaa:2" ∷
    codes "12 ok" ∷
    codes "13 1.1 took 3 2.1#2 executed aaaaaaaa-aaaa-aaaa-aaaa-aaaaaaaaaaaa:1" ∷
    codes "13 2.1 took 3 2.1#2 executed aaaaaaaa-aaaa-aaaa-aaaa-aaaaaaaaaaaa:1" ∷
    codes "13 3.1 took 3 2.1#2 executed aaaaaaaa-aaaa-aaaa-aaaa-aaaaaaaaaaaa:1" ∷
    []
unfolding digits number number_of field word begins_number number_in elements next_inc next_gtid next_interval_after next_source_above next_set next_item_after next_kind next_change next_body next_txn next_mode next_part by_index full run apply plays move settle drain step found start call point settle_slots read turn node_step hear hear_prepare hear_accept hear_learn hear_promise hear_accepted propose_one own_value hear_offer campaign hear_alive tick take hear_welcome forget
delayed_behind_executed_text = refl

-- old-leader-accept
abbrev old_leader_accept : List Step
old_leader_accept =
    Found group Multi 10 5 0 (1 ∷ 2 ∷ 3 ∷ []) ∷
    once 2 2 (item (codes "t") (codes "a")) (Inserts (codes "1")) ∷
    Deliver 1 ∷
    Deliver 3 ∷
    Operate 3 Campaign ∷
    Deliver 6 ∷
    Deliver 2 ∷
    ShowWire ∷
    []

old_leader_accept_text : full old_leader_accept ≡
    codes "1 1.1 state ONLINE" ∷
    codes "1 2.1 state ONLINE" ∷
    codes "1 3.1 state ONLINE" ∷
    codes "2 2.1 answer o2 begun -" ∷
    codes "2 2.1 answer o2 changed" ∷
    codes "2 2.1 answer o2 sent 2.1#1" ∷
    codes "3 ok" ∷
    codes "4 ok" ∷
    codes "5 3.1 reply ballot 2/3.1" ∷
    codes "6 ok" ∷
    codes "7 ok" ∷
    codes "8 wire 4 3.1 1.1 Accepted" ∷
    codes "8 wire 5 3.1 1.1 Prepare" ∷
    codes "8 wire 7 2.1 3.1 Promise" ∷
    codes "8 wire 3 of 7" ∷
    []
unfolding number number_of field word begins_number number_in elements next_inc next_gtid next_interval_after next_source_above next_set next_item_after next_kind next_change next_body next_txn next_mode next_part by_index full run apply plays move settle drain step found start call point settle_slots read turn node_step hear hear_prepare hear_accept hear_learn hear_promise hear_accepted propose_one own_value hear_offer campaign hear_alive tick take hear_welcome forget
old_leader_accept_text = refl

-- horizon-of-a-remove
abbrev horizon_of_a_remove : List Step
horizon_of_a_remove =
    Found group Multi 10 5 0 (1 ∷ 2 ∷ 3 ∷ []) ∷
    once 2 1 (item (codes "t") (codes "a")) (Inserts (codes "1")) ∷
    once 3 1 (item (codes "t") (codes "b")) (Inserts (codes "1")) ∷
    once 4 1 (item (codes "t") (codes "c")) (Inserts (codes "1")) ∷
    once 5 1 (item (codes "t") (codes "d")) (Inserts (codes "1")) ∷
    Operate 3 Leave ∷
    Settle [] ∷
    ShowConfig 1 14 ∷
    ShowConfig 1 15 ∷
    ShowConfig 1 16 ∷
    []

horizon_of_a_remove_text : full horizon_of_a_remove ≡
    codes "1 1.1 state ONLINE" ∷
    codes "1 2.1 state ONLINE" ∷
    codes "1 3.1 state ONLINE" ∷
    codes "2 1.1 answer o2 begun -" ∷
    codes "2 1.1 answer o2 changed" ∷
    codes "2 1.1 answer o2 sent 1.1#1" ∷
    codes "3 1.1 answer o3 begun -" ∷
    codes "3 1.1 answer o3 changed" ∷
    codes "3 1.1 answer o3 sent 1.1#2" ∷
    codes "4 1.1 answer o4 begun -" ∷
    codes "4 1.1 answer o4 changed" ∷
    codes "4 1.1 answer o4 sent 1.1#3" ∷
    codes "5 1.1 answer o5 begun -" ∷
    codes "5 1.1 answer o5 changed" ∷
    codes "5 1.1 answer o5 sent 1.1#4" ∷
    codes "6 3.1 reply sent 3.1#1" ∷
    codes "7 1.1 took 1 1.1#1 txn positive aaaaaaaa-aaaa-aaaa-aaaa-aaaaaaaaaaaa:1" ∷
    codes "7 1.1 committed aaaaaaaa-aaaa-aaaa-aaaa-aaaaaaaaaaaa:1" ∷
    codes "7 1.1 answer o2 committed aaaaaaaa-aaaa-aaaa-aaaa-aaaaaaaaaaaa:1" ∷
    codes "7 1.1 took 2 1.1#2 txn positive aaaaaaaa-aaaa-aaaa-aaaa-aaaaaaaaaaaa:2" ∷
    codes "7 1.1 committed aaaaaaaa-aaaa-aaaa-aaaa-aaaaaaaaaaaa:2" ∷
    codes "7 1.1 answer o3 committed aaaaaaaa-aaaa-aaaa-aaaa-aaaaaaaaaaaa:2" ∷
    codes "7 1.1 took 3 1.1#3 txn positive aaaaaaaa-aaaa-aaaa-aaaa-aaaaaaaaaaaa:3" ∷
    codes "7 1.1 committed aaaaaaaa-aaaa-aaaa-aaaa-aaaaaaaaaaaa:3" ∷
    codes "7 1.1 answer o4 committed aaaaaaaa-aaaa-aaaa-aaaa-aaaaaaaaaaaa:3" ∷
    codes "7 1.1 took 4 1.1#4 txn positive aaaaaaaa-aaaa-aaaa-aaaa-aaaaaaaaaaaa:4" ∷
    codes "7 1.1 committed aaaaaaaa-aaaa-aaaa-aaaa-aaaaaaaaaaaa:4" ∷
    codes "7 1.1 answer o5 committed aaaaaaaa-aaaa-aaaa-aaaa-aaaaaaaaaaaa:4" ∷
    codes "7 2.1 took 1 1.1#1 txn positive aaaaaaaa-aaaa-aaaa-aaaa-aaaaaaaaaaaa:1" ∷
    codes "7 3.1 took 1 1.1#1 txn positive aaaaaaaa-aaaa-aaaa-aaaa-aaaaaaaaaaaa:1" ∷
    codes "7 2.1 took 2 1.1#2 txn positive aaaaaaaa-aaaa-aaaa-aaaa-aaaaaaaaaaaa:2" ∷
    codes "7 3.1 took 2 1.1#2 txn positive aaaaaaaa-aaaa-aaaa-aaaa-aaaaaaaaaaaa:2" ∷
    codes "7 2.1 took 3 1.1#3 txn positive aaaaaaaa-aaaa-aaaa-aaaa-aaaaaaaaaaaa:3" ∷
    codes "7 3.1 took 3 1.1#3 txn positive aaaaaaaa-aaaa-aaaa-aaaa-aaaaaaaaaaaa:3" ∷
    codes "7 2.1 took 4 1.1#4 txn positive aaaaaaaa-aaaa-aaaa-aaaa-aaaaaaaaaaaa:4" ∷
    codes "7 3.1 took 4 1.1#4 txn positive aaaaaaaa-aaaa-aaaa-aaaa-aaaaaaaaaaaa:4" ∷
    codes "7 1.1 took 5 3.1#1 remove 3.1" ∷
    codes "7 2.1 took 5 3.1#1 remove 3.1" ∷
    codes "7 3.1 took 5 3.1#1 remove 3.1" ∷
    codes "7 3.1 state ERROR removed" ∷
    codes "8 1.1 config 14 1.1 2.1 3.1" ∷
    codes "9 1.1 config 15 1.1 2.1" ∷
    codes "10 1.1 config 16 unknown" ∷
    []
unfolding number number_of field word begins_number number_in elements next_inc next_gtid next_interval_after next_source_above next_set next_item_after next_kind next_change next_body next_txn next_mode next_part by_index full run apply plays move settle drain step found start call point settle_slots read turn node_step hear hear_prepare hear_accept hear_learn hear_promise hear_accepted propose_one own_value hear_offer campaign hear_alive tick take hear_welcome forget
horizon_of_a_remove_text = refl

-- lost-promise
abbrev lost_promise : List Step
lost_promise =
    Found group Multi 10 5 0 (1 ∷ 2 ∷ 3 ∷ []) ∷
    Operate 2 Campaign ∷
    Deliver 2 ∷
    Lose 3 ∷
    Tick 2 1 ∷
    Deliver 6 ∷
    Deliver 8 ∷
    once 8 2 (item (codes "t") (codes "a")) (Inserts (codes "1")) ∷
    Deliver 10 ∷
    Deliver 11 ∷
    []

lost_promise_text : full lost_promise ≡
    codes "1 1.1 state ONLINE" ∷
    codes "1 2.1 state ONLINE" ∷
    codes "1 3.1 state ONLINE" ∷
    codes "2 2.1 reply ballot 2/2.1" ∷
    codes "3 ok" ∷
    codes "4 ok" ∷
    codes "5 ok" ∷
    codes "6 ok" ∷
    codes "7 ok" ∷
    codes "8 2.1 answer o8 begun -" ∷
    codes "8 2.1 answer o8 changed" ∷
    codes "8 2.1 answer o8 sent 2.1#1" ∷
    codes "9 ok" ∷
    codes "10 2.1 took 1 2.1#1 txn positive aaaaaaaa-aaaa-aaaa-aaaa-aaaaaaaaaaaa:1" ∷
    codes "10 2.1 committed aaaaaaaa-aaaa-aaaa-aaaa-aaaaaaaaaaaa:1" ∷
    codes "10 2.1 answer o8 committed aaaaaaaa-aaaa-aaaa-aaaa-aaaaaaaaaaaa:1" ∷
    []
unfolding number number_of field word begins_number number_in elements next_inc next_gtid next_interval_after next_source_above next_set next_item_after next_kind next_change next_body next_txn next_mode next_part by_index full run apply plays move settle drain step found start call point settle_slots read turn node_step hear hear_prepare hear_accept hear_learn hear_promise hear_accepted propose_one own_value hear_offer campaign hear_alive tick take hear_welcome forget
lost_promise_text = refl

-- kept-from
abbrev kept_from : List Step
kept_from =
    Found group Multi 10 5 0 (1 ∷ 2 ∷ 3 ∷ []) ∷
    once 2 1 (item (codes "t") (codes "a")) (Inserts (codes "1")) ∷
    Settle [] ∷
    Tick 1 1 ∷
    Tick 2 1 ∷
    Tick 3 1 ∷
    Settle [] ∷
    ShowKept 1 ∷
    []

kept_from_text : full kept_from ≡
    codes "1 1.1 state ONLINE" ∷
    codes "1 2.1 state ONLINE" ∷
    codes "1 3.1 state ONLINE" ∷
    codes "2 1.1 answer o2 begun -" ∷
    codes "2 1.1 answer o2 changed" ∷
    codes "2 1.1 answer o2 sent 1.1#1" ∷
    codes "3 1.1 took 1 1.1#1 txn positive aaaaaaaa-aaaa-aaaa-aaaa-aaaaaaaaaaaa:1" ∷
    codes "3 1.1 committed aaaaaaaa-aaaa-aaaa-aaaa-aaaaaaaaaaaa:1" ∷
    codes "3 1.1 answer o2 committed aaaaaaaa-aaaa-aaaa-aaaa-aaaaaaaaaaaa:1" ∷
    codes "3 2.1 took 1 1.1#1 txn positive aaaaaaaa-aaaa-aaaa-aaaa-aaaaaaaaaaaa:1" ∷
    codes "3 3.1 took 1 1.1#1 txn positive aaaaaaaa-aaaa-aaaa-aaaa-aaaaaaaaaaaa:1" ∷
    codes "4 ok" ∷
    codes "5 ok" ∷
    codes "6 ok" ∷
    codes "7 ok" ∷
    codes "8 1.1 kept from 2" ∷
    []
unfolding number number_of field word begins_number number_in elements next_inc next_gtid next_interval_after next_source_above next_set next_item_after next_kind next_change next_body next_txn next_mode next_part by_index full run apply plays move settle drain step found start call point settle_slots read turn node_step hear hear_prepare hear_accept hear_learn hear_promise hear_accepted propose_one own_value hear_offer campaign hear_alive tick take hear_welcome forget
kept_from_text = refl

-- gone-from-forgotten-slot
abbrev gone_from_forgotten_slot : List Step
gone_from_forgotten_slot =
    Found group Multi 10 5 0 (1 ∷ 2 ∷ 3 ∷ []) ∷
    Operate 3 Leave ∷
    Deliver 1 ∷
    Deliver 2 ∷
    Deliver 4 ∷
    Deliver 5 ∷
    Tick 1 1 ∷
    Tick 2 1 ∷
    Deliver 7 ∷
    Deliver 8 ∷
    Operate 3 Campaign ∷
    Deliver 9 ∷
    Deliver 11 ∷
    ShowSlots 1 ∷
    []

gone_from_forgotten_slot_text : full gone_from_forgotten_slot ≡
    codes "1 1.1 state ONLINE" ∷
    codes "1 2.1 state ONLINE" ∷
    codes "1 3.1 state ONLINE" ∷
    codes "2 3.1 reply sent 3.1#1" ∷
    codes "3 ok" ∷
    codes "4 ok" ∷
    codes "5 1.1 took 1 3.1#1 remove 3.1" ∷
    codes "6 2.1 took 1 3.1#1 remove 3.1" ∷
    codes "7 ok" ∷
    codes "8 ok" ∷
    codes "9 ok" ∷
    codes "10 ok" ∷
    codes "11 3.1 reply ballot 2/3.1" ∷
    codes "12 ok" ∷
    codes "13 3.1 state ERROR gone" ∷
    codes "14 1.1 slots next 2 place 1 promise 1/1.1" ∷
    []
unfolding number number_of field word begins_number number_in elements next_inc next_gtid next_interval_after next_source_above next_set next_item_after next_kind next_change next_body next_txn next_mode next_part by_index full run apply plays move settle drain step found start call point settle_slots read turn node_step hear hear_prepare hear_accept hear_learn hear_promise hear_accepted propose_one own_value hear_offer campaign hear_alive tick take hear_welcome forget
gone_from_forgotten_slot_text = refl
