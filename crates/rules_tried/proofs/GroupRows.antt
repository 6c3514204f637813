-- Worked rows, computed: the text of every line of each script.
use Rattle.std.proofs.Common.{◌≡◌, ℕ, true, false, Option, Some, None, List, [], ◌∷◌, refl}
use Rattle.std.specs.Prelude.{replicate, codes, ◌+◌}
use Rattle.std.specs.Fmt.{digits}
use Rattle.gr_ids.specs.declared.names.Inc.{Inc}
use Rattle.gr_ids.specs.declared.levels.Level.TheVariants.{Eventual, BeforeOnPrimaryFailover, Before, After, BeforeAndAfter}
use Rattle.gr_ids.specs.declared.levels.Mode.TheVariants.{Single, Multi}
use Rattle.key_items.specs.declared.item.Item.{Item}
use Rattle.key_items.specs.declared.change.ChangeKind.{ChangeKind}
use Rattle.key_items.specs.declared.change.ChangeKind.TheVariants.{Insert as Inserts, Update as Updates, Delete as Deletes}
use Rattle.group_rules.specs.declared.requests.Request.TheVariants.{Begin, Get, Insert, Update, Delete, Commit, Rollback}
use Rattle.group_rules.specs.declared.requests.Operator.TheVariants.{Campaign, Tell, Leave, SetPrimary, Single as SetSingle, Multi as SetMulti, AskDonor, DonorFailed}
use Rattle.group_rules.specs.declared.steps.Step.{Step}
use Rattle.group_rules.specs.declared.steps.Step.TheVariants.{Server, Block, Found, Session, Once, Operate, Deliver, Lose, Settle, Work, Drain, Tick, Start, Stop, Offline, ShowMembers, ShowSlots, ShowConfig, ShowGtids, ShowRows, ShowQueue, ShowCertifier, ShowKept, ShowWire}
use Rattle.group_rules.specs.World.{default_uuid, move}
use Rattle.group_rules.specs.Script.{apply, plays, settle, drain, run}
use Rattle.group_rules.specs.Texts.{full}
use Rattle.group_rules.specs.Calls.{call}
use Rattle.group_rules.specs.Points.{point}
use Rattle.group_rules.specs.Taking.{settle_slots}
use Rattle.group_rules.specs.Steps.{step, found, start}
use Rattle.uuid.specs.Text.{by_index}
use Rattle.byte_forms.specs.Numbers.{number, number_of}
use Rattle.byte_forms.specs.Fields.{field, word, begins_number, number_in}
use Rattle.byte_forms.specs.Lists.{elements}
use Rattle.name_forms.specs.Incs.{next_inc}
use Rattle.name_forms.specs.Gtids.{next_gtid}
use Rattle.gtid_sets.specs.Spelling.{next_interval_after, next_source_above, next_set}
use Rattle.key_items.specs.Spelling.{next_item_after}
use Rattle.txn_forms.specs.Changes.{next_kind, next_change}
use Rattle.txn_forms.specs.Bodies.{next_body, next_txn, next_mode, next_part}
use Rattle.slot_values.specs.Log.{read, turn}
use Rattle.node_rules.specs.Voting.{hear_prepare, hear_accept}
use Rattle.node_rules.specs.Learning.{hear_learn, hear_accepted, hear_alive}
use Rattle.node_rules.specs.Proposing.{hear_promise, propose_one, own_value, hear_offer, campaign}
use Rattle.node_rules.specs.Welcoming.{hear_welcome}
use Rattle.node_rules.specs.Ticks.{tick}
use Rattle.node_rules.specs.Taking.{take, forget}
use Rattle.node_rules.specs.Step.{hear, node_step}

abbrev inc : ℕ → ℕ → Inc
inc s n = record { server = s; start = n }

abbrev item : List ℕ → List ℕ → Item
item t k = record { table = t; key = k }

abbrev group : List ℕ
group = replicate 16 0xaa

-- the session of a transaction of one statement on the line n
abbrev once : ℕ → ℕ → Item → ChangeKind → Step
once n s i k = Once s (1_000_000_000 + n) (record { item = i; what = k })

-- failover
abbrev failover : List Step
failover =
    Found group Single 10 5 0 (1 ∷ 2 ∷ 3 ∷ []) ∷
    once 2 1 (item (codes "t") (codes "a")) (Inserts (codes "1")) ∷
    once 3 1 (item (codes "t") (codes "b")) (Inserts (codes "2")) ∷
    Operate 1 Leave ∷
    Settle [] ∷
    Session 2 7 (Begin BeforeOnPrimaryFailover 100) ∷
    Session 2 8 (Begin Eventual 100) ∷
    Work 2 None ∷
    Work 2 None ∷
    []

failover_text : full failover ≡
    codes "1 1.1 state ONLINE" ∷
    codes "1 2.1 state ONLINE" ∷
    codes "1 3.1 state ONLINE" ∷
    codes "2 1.1 answer o2 begun -" ∷
    codes "2 1.1 answer o2 changed" ∷
    codes "2 1.1 answer o2 sent 1.1#1" ∷
    codes "3 1.1 answer o3 begun -" ∷
    codes "3 1.1 answer o3 changed" ∷
    codes "3 1.1 answer o3 sent 1.1#2" ∷
    codes "4 1.1 reply sent 1.1#3" ∷
    codes "5 1.1 took 1 1.1#1 txn positive aaaaaaaa-aaaa-aaaa-aaaa-aaaaaaaaaaaa:1" ∷
    codes "5 1.1 committed aaaaaaaa-aaaa-aaaa-aaaa-aaaaaaaaaaaa:1" ∷
    codes "5 1.1 answer o2 committed aaaaaaaa-aaaa-aaaa-aaaa-aaaaaaaaaaaa:1" ∷
    codes "5 1.1 took 2 1.1#2 txn positive aaaaaaaa-aaaa-aaaa-aaaa-aaaaaaaaaaaa:2" ∷
    codes "5 1.1 committed aaaaaaaa-aaaa-aaaa-aaaa-aaaaaaaaaaaa:2" ∷
    codes "5 1.1 answer o3 committed aaaaaaaa-aaaa-aaaa-aaaa-aaaaaaaaaaaa:2" ∷
    codes "5 1.1 took 3 1.1#3 remove 1.1" ∷
    codes "5 1.1 state ERROR removed" ∷
    codes "5 2.1 took 1 1.1#1 txn positive aaaaaaaa-aaaa-aaaa-aaaa-aaaaaaaaaaaa:1" ∷
    codes "5 3.1 took 1 1.1#1 txn positive aaaaaaaa-aaaa-aaaa-aaaa-aaaaaaaaaaaa:1" ∷
    codes "5 2.1 took 2 1.1#2 txn positive aaaaaaaa-aaaa-aaaa-aaaa-aaaaaaaaaaaa:2" ∷
    codes "5 3.1 took 2 1.1#2 txn positive aaaaaaaa-aaaa-aaaa-aaaa-aaaaaaaaaaaa:2" ∷
    codes "5 2.1 took 3 1.1#3 remove 1.1" ∷
    codes "5 3.1 took 3 1.1#3 remove 1.1" ∷
    codes "6 2.1 answer 7 held" ∷
    codes "7 2.1 answer 8 begun -" ∷
    codes "8 2.1 done 1" ∷
    codes "8 2.1 committed aaaaaaaa-aaaa-aaaa-aaaa-aaaaaaaaaaaa:1" ∷
    codes "9 2.1 done 2" ∷
    codes "9 2.1 committed aaaaaaaa-aaaa-aaaa-aaaa-aaaaaaaaaaaa:2" ∷
    codes "9 2.1 answer 7 begun aaaaaaaa-aaaa-aaaa-aaaa-aaaaaaaaaaaa:1-2" ∷
    []
unfolding digits number number_of field word begins_number number_in elements next_inc next_gtid next_interval_after next_source_above next_set next_item_after next_kind next_change next_body next_txn next_mode next_part by_index full run apply plays move settle drain step found start call point settle_slots read turn node_step hear hear_prepare hear_accept hear_learn hear_promise hear_accepted propose_one own_value hear_offer campaign hear_alive tick take hear_welcome forget
failover_text = refl

-- failover-hold-timeout
abbrev failover_hold_timeout : List Step
failover_hold_timeout =
    Found group Single 10 5 0 (1 ∷ 2 ∷ 3 ∷ []) ∷
    once 2 1 (item (codes "t") (codes "a")) (Inserts (codes "1")) ∷
    once 3 1 (item (codes "t") (codes "b")) (Inserts (codes "2")) ∷
    Operate 1 Leave ∷
    Settle [] ∷
    Session 2 7 (Begin BeforeOnPrimaryFailover 2) ∷
    Tick 2 1 ∷
    Tick 2 1 ∷
    []

failover_hold_timeout_text : full failover_hold_timeout ≡
    codes "1 1.1 state ONLINE" ∷
    codes "1 2.1 state ONLINE" ∷
    codes "1 3.1 state ONLINE" ∷
    codes "2 1.1 answer o2 begun -" ∷
    codes "2 1.1 answer o2 changed" ∷
    codes "2 1.1 answer o2 sent 1.1#1" ∷
    codes "3 1.1 answer o3 begun -" ∷
    codes "3 1.1 answer o3 changed" ∷
    codes "3 1.1 answer o3 sent 1.1#2" ∷
    codes "4 1.1 reply sent 1.1#3" ∷
    codes "5 1.1 took 1 1.1#1 txn positive aaaaaaaa-aaaa-aaaa-aaaa-aaaaaaaaaaaa:1" ∷
    codes "5 1.1 committed aaaaaaaa-aaaa-aaaa-aaaa-aaaaaaaaaaaa:1" ∷
    codes "5 1.1 answer o2 committed aaaaaaaa-aaaa-aaaa-aaaa-aaaaaaaaaaaa:1" ∷
    codes "5 1.1 took 2 1.1#2 txn positive aaaaaaaa-aaaa-aaaa-aaaa-aaaaaaaaaaaa:2" ∷
    codes "5 1.1 committed aaaaaaaa-aaaa-aaaa-aaaa-aaaaaaaaaaaa:2" ∷
    codes "5 1.1 answer o3 committed aaaaaaaa-aaaa-aaaa-aaaa-aaaaaaaaaaaa:2" ∷
    codes "5 1.1 took 3 1.1#3 remove 1.1" ∷
    codes "5 1.1 state ERROR removed" ∷
    codes "5 2.1 took 1 1.1#1 txn positive aaaaaaaa-aaaa-aaaa-aaaa-aaaaaaaaaaaa:1" ∷
    codes "5 3.1 took 1 1.1#1 txn positive aaaaaaaa-aaaa-aaaa-aaaa-aaaaaaaaaaaa:1" ∷
    codes "5 2.1 took 2 1.1#2 txn positive aaaaaaaa-aaaa-aaaa-aaaa-aaaaaaaaaaaa:2" ∷
    codes "5 3.1 took 2 1.1#2 txn positive aaaaaaaa-aaaa-aaaa-aaaa-aaaaaaaaaaaa:2" ∷
    codes "5 2.1 took 3 1.1#3 remove 1.1" ∷
    codes "5 3.1 took 3 1.1#3 remove 1.1" ∷
    codes "6 2.1 answer 7 held" ∷
    codes "7 ok" ∷
    codes "8 2.1 answer 7 hold timeout 2" ∷
    []
unfolding number number_of field word begins_number number_in elements next_inc next_gtid next_interval_after next_source_above next_set next_item_after next_kind next_change next_body next_txn next_mode next_part by_index full run apply plays move settle drain step found start call point settle_slots read turn node_step hear hear_prepare hear_accept hear_learn hear_promise hear_accepted propose_one own_value hear_offer campaign hear_alive tick take hear_welcome forget
failover_hold_timeout_text = refl

-- primary-moved
abbrev primary_moved : List Step
primary_moved =
    Found group Single 10 5 0 (1 ∷ 2 ∷ 3 ∷ []) ∷
    once 2 2 (item (codes "t") (codes "a")) (Inserts (codes "1")) ∷
    Operate 1 (SetPrimary (inc 2 1)) ∷
    Settle [] ∷
    once 5 1 (item (codes "t") (codes "a")) (Inserts (codes "1")) ∷
    ShowMembers 3 ∷
    []

primary_moved_text : full primary_moved ≡
    codes "1 1.1 state ONLINE" ∷
    codes "1 2.1 state ONLINE" ∷
    codes "1 3.1 state ONLINE" ∷
    codes "2 2.1 answer o2 begun -" ∷
    codes "2 2.1 answer o2 read only 1.1" ∷
    codes "2 2.1 answer o2 rolled back" ∷
    codes "3 1.1 reply sent 1.1#1" ∷
    codes "4 1.1 took 1 1.1#1 primary 2.1" ∷
    codes "4 2.1 took 1 1.1#1 primary 2.1" ∷
    codes "4 3.1 took 1 1.1#1 primary 2.1" ∷
    codes "5 1.1 answer o5 begun -" ∷
    codes "5 1.1 answer o5 read only 2.1" ∷
    codes "5 1.1 answer o5 rolled back" ∷
    codes "6 3.1 member 1.1 ONLINE" ∷
    codes "6 3.1 member 2.1 ONLINE primary" ∷
    codes "6 3.1 member 3.1 ONLINE" ∷
    codes "6 3.1 view 1 single" ∷
    []
unfolding number number_of field word begins_number number_in elements next_inc next_gtid next_interval_after next_source_above next_set next_item_after next_kind next_change next_body next_txn next_mode next_part by_index full run apply plays move settle drain step found start call point settle_slots read turn node_step hear hear_prepare hear_accept hear_learn hear_promise hear_accepted propose_one own_value hear_offer campaign hear_alive tick take hear_welcome forget
primary_moved_text = refl

-- expelled-unaware
abbrev expelled_unaware : List Step
expelled_unaware =
    Found group Multi 10 5 0 (1 ∷ 2 ∷ 3 ∷ []) ∷
    once 2 1 (item (codes "t") (codes "a")) (Inserts (codes "1")) ∷
    Settle [] ∷
    once 4 3 (item (codes "t") (codes "b")) (Inserts (codes "1")) ∷
    Lose 7 ∷
    Tick 1 6 ∷
    Tick 2 1 ∷
    Settle (1 ∷ 2 ∷ []) ∷
    Tick 1 4 ∷
    Settle (1 ∷ 2 ∷ []) ∷
    once 11 1 (item (codes "t") (codes "a")) (Updates (codes "2")) ∷
    Settle (1 ∷ 2 ∷ []) ∷
    Work 3 None ∷
    Session 3 8 (Begin Eventual 100) ∷
    Session 3 8 (Get (item (codes "t") (codes "a"))) ∷
    Tick 3 1 ∷
    Deliver 41 ∷
    Deliver 43 ∷
    Session 3 8 (Get (item (codes "t") (codes "a"))) ∷
    []

expelled_unaware_text : full expelled_unaware ≡
    codes "1 1.1 state ONLINE" ∷
    codes "1 2.1 state ONLINE" ∷
    codes "1 3.1 state ONLINE" ∷
    codes "2 1.1 answer o2 begun -" ∷
    codes "2 1.1 answer o2 changed" ∷
    codes "2 1.1 answer o2 sent 1.1#1" ∷
    codes "3 1.1 took 1 1.1#1 txn positive aaaaaaaa-aaaa-aaaa-aaaa-aaaaaaaaaaaa:1" ∷
    codes "3 1.1 committed aaaaaaaa-aaaa-aaaa-aaaa-aaaaaaaaaaaa:1" ∷
    codes "3 1.1 answer o2 committed aaaaaaaa-aaaa-aaaa-aaaa-aaaaaaaaaaaa:1" ∷
    codes "3 2.1 took 1 1.1#1 txn positive aaaaaaaa-aaaa-aaaa-aaaa-aaaaaaaaaaaa:1" ∷
    codes "3 3.1 took 1 1.1#1 txn positive aaaaaaaa-aaaa-aaaa-aaaa-aaaaaaaaaaaa:1" ∷
    codes "4 3.1 answer o4 begun -" ∷
    codes "4 3.1 answer o4 changed" ∷
    codes "4 3.1 answer o4 sent 3.1#1" ∷
    codes "5 ok" ∷
    codes "6 ok" ∷
    codes "7 ok" ∷
    codes "8 ok" ∷
    codes "9 ok" ∷
    codes "10 1.1 took 2 1.1#2 remove 3.1" ∷
    codes "10 2.1 took 2 1.1#2 remove 3.1" ∷
    codes "11 1.1 answer o11 begun aaaaaaaa-aaaa-aaaa-aaaa-aaaaaaaaaaaa:1" ∷
    codes "11 1.1 answer o11 changed" ∷
    codes "11 1.1 answer o11 sent 1.1#3" ∷
    codes "12 1.1 took 3 1.1#3 txn positive aaaaaaaa-aaaa-aaaa-aaaa-aaaaaaaaaaaa:2" ∷
    codes "12 1.1 committed aaaaaaaa-aaaa-aaaa-aaaa-aaaaaaaaaaaa:2" ∷
    codes "12 1.1 answer o11 committed aaaaaaaa-aaaa-aaaa-aaaa-aaaaaaaaaaaa:2" ∷
    codes "12 2.1 took 3 1.1#3 txn positive aaaaaaaa-aaaa-aaaa-aaaa-aaaaaaaaaaaa:2" ∷
    codes "13 3.1 done 1" ∷
    codes "13 3.1 committed aaaaaaaa-aaaa-aaaa-aaaa-aaaaaaaaaaaa:1" ∷
    codes "14 3.1 answer 8 begun aaaaaaaa-aaaa-aaaa-aaaa-aaaaaaaaaaaa:1" ∷
    codes "15 3.1 answer 8 row 1" ∷
    codes "16 ok" ∷
    codes "17 ok" ∷
    codes "18 3.1 state ERROR gone" ∷
    codes "18 3.1 answer o4 undecided 3.1#1" ∷
    codes "19 3.1 answer 8 member left" ∷
    []
unfolding digits number number_of field word begins_number number_in elements next_inc next_gtid next_interval_after next_source_above next_set next_item_after next_kind next_change next_body next_txn next_mode next_part by_index full run apply plays move settle drain step found start call point settle_slots read turn node_step hear hear_prepare hear_accept hear_learn hear_promise hear_accepted propose_one own_value hear_offer campaign hear_alive tick take hear_welcome forget
expelled_unaware_text = refl

-- majority-lost
abbrev majority_lost : List Step
majority_lost =
    Found group Multi 10 5 2 (1 ∷ 2 ∷ 3 ∷ []) ∷
    Stop 2 ∷
    Stop 3 ∷
    Tick 1 5 ∷
    Tick 1 1 ∷
    once 6 1 (item (codes "t") (codes "a")) (Inserts (codes "1")) ∷
    []

majority_lost_text : full majority_lost ≡
    codes "1 1.1 state ONLINE" ∷
    codes "1 2.1 state ONLINE" ∷
    codes "1 3.1 state ONLINE" ∷
    codes "2 ok" ∷
    codes "3 ok" ∷
    codes "4 ok" ∷
    codes "5 1.1 state ERROR majority" ∷
    codes "6 1.1 answer o6 begun -" ∷
    codes "6 1.1 answer o6 not online ERROR" ∷
    codes "6 1.1 answer o6 rolled back" ∷
    []
unfolding number number_of field word begins_number number_in elements next_inc next_gtid next_interval_after next_source_above next_set next_item_after next_kind next_change next_body next_txn next_mode next_part by_index full run apply plays move settle drain step found start call point settle_slots read turn node_step hear hear_prepare hear_accept hear_learn hear_promise hear_accepted propose_one own_value hear_offer campaign hear_alive tick take hear_welcome forget
majority_lost_text = refl

-- removed-with-queue
abbrev removed_with_queue : List Step
removed_with_queue =
    Found group Multi 10 5 0 (1 ∷ 2 ∷ 3 ∷ []) ∷
    once 2 1 (item (codes "t") (codes "a")) (Inserts (codes "1")) ∷
    Settle [] ∷
    Operate 3 Leave ∷
    Settle [] ∷
    Drain ∷
    Work 3 None ∷
    []

removed_with_queue_text : full removed_with_queue ≡
    codes "1 1.1 state ONLINE" ∷
    codes "1 2.1 state ONLINE" ∷
    codes "1 3.1 state ONLINE" ∷
    codes "2 1.1 answer o2 begun -" ∷
    codes "2 1.1 answer o2 changed" ∷
    codes "2 1.1 answer o2 sent 1.1#1" ∷
    codes "3 1.1 took 1 1.1#1 txn positive aaaaaaaa-aaaa-aaaa-aaaa-aaaaaaaaaaaa:1" ∷
    codes "3 1.1 committed aaaaaaaa-aaaa-aaaa-aaaa-aaaaaaaaaaaa:1" ∷
    codes "3 1.1 answer o2 committed aaaaaaaa-aaaa-aaaa-aaaa-aaaaaaaaaaaa:1" ∷
    codes "3 2.1 took 1 1.1#1 txn positive aaaaaaaa-aaaa-aaaa-aaaa-aaaaaaaaaaaa:1" ∷
    codes "3 3.1 took 1 1.1#1 txn positive aaaaaaaa-aaaa-aaaa-aaaa-aaaaaaaaaaaa:1" ∷
    codes "4 3.1 reply sent 3.1#1" ∷
    codes "5 1.1 took 2 3.1#1 remove 3.1" ∷
    codes "5 2.1 took 2 3.1#1 remove 3.1" ∷
    codes "5 3.1 took 2 3.1#1 remove 3.1" ∷
    codes "5 3.1 state ERROR removed" ∷
    codes "6 2.1 done 1" ∷
    codes "6 2.1 committed aaaaaaaa-aaaa-aaaa-aaaa-aaaaaaaaaaaa:1" ∷
    codes "7 3.1 reply idle" ∷
    []
unfolding number number_of field word begins_number number_in elements next_inc next_gtid next_interval_after next_source_above next_set next_item_after next_kind next_change next_body next_txn next_mode next_part by_index full run apply plays move settle drain step found start call point settle_slots read turn node_step hear hear_prepare hear_accept hear_learn hear_promise hear_accepted propose_one own_value hear_offer campaign hear_alive tick take hear_welcome forget
removed_with_queue_text = refl
