-- Worked rows, computed: the text of every line of each script.
use Rattle.std.proofs.Common.{◌≡◌, ℕ, true, false, Option, Some, None, List, [], ◌∷◌, refl}
use Rattle.std.specs.Prelude.{replicate, codes, ◌+◌}
use Rattle.std.specs.Fmt.{digits}
use Rattle.gr_ids.specs.declared.names.Inc.{Inc}
use Rattle.gr_ids.specs.declared.levels.Level.TheVariants.{Eventual, BeforeOnPrimaryFailover, Before, After, BeforeAndAfter}
use Rattle.gr_ids.specs.declared.levels.Mode.TheVariants.{Single, Multi}
use Rattle.key_items.specs.declared.item.Item.{Item}
use Rattle.key_items.specs.declared.change.ChangeKind.{ChangeKind}
use Rattle.key_items.specs.declared.change.ChangeKind.TheVariants.{Insert as Inserts, Update as Updates, Delete as Deletes}
use Rattle.group_rules.specs.declared.requests.Request.TheVariants.{Begin, Get, Insert, Update, Delete, Commit, Rollback}
use Rattle.group_rules.specs.declared.requests.Operator.TheVariants.{Campaign, Tell, Leave, SetPrimary, Single as SetSingle, Multi as SetMulti, AskDonor, DonorFailed}
use Rattle.group_rules.specs.declared.steps.Step.{Step}
use Rattle.group_rules.specs.declared.steps.Step.TheVariants.{Server, Block, Found, Session, Once, Operate, Deliver, Lose, Settle, Work, Drain, Tick, Start, Stop, Offline, ShowMembers, ShowSlots, ShowConfig, ShowGtids, ShowRows, ShowQueue, ShowCertifier, ShowKept, ShowWire}
use Rattle.group_rules.specs.World.{default_uuid, move}
use Rattle.group_rules.specs.Script.{apply, plays, settle, drain, run}
use Rattle.group_rules.specs.Texts.{full}
use Rattle.group_rules.specs.Calls.{call}
use Rattle.group_rules.specs.Points.{point}
use Rattle.group_rules.specs.Taking.{settle_slots}
use Rattle.group_rules.specs.Steps.{step, found, start}
use Rattle.uuid.specs.Text.{by_index}
use Rattle.byte_forms.specs.Numbers.{number, number_of}
use Rattle.byte_forms.specs.Fields.{field, word, begins_number, number_in}
use Rattle.byte_forms.specs.Lists.{elements}
use Rattle.name_forms.specs.Incs.{next_inc}
use Rattle.name_forms.specs.Gtids.{next_gtid}
use Rattle.gtid_sets.specs.Spelling.{next_interval_after, next_source_above, next_set}
use Rattle.key_items.specs.Spelling.{next_item_after}
use Rattle.txn_forms.specs.Changes.{next_kind, next_change}
use Rattle.txn_forms.specs.Bodies.{next_body, next_txn, next_mode, next_part}
use Rattle.slot_values.specs.Log.{read, turn}
use Rattle.node_rules.specs.Voting.{hear_prepare, hear_accept}
use Rattle.node_rules.specs.Learning.{hear_learn, hear_accepted, hear_alive}
use Rattle.node_rules.specs.Proposing.{hear_promise, propose_one, own_value, hear_offer, campaign}
use Rattle.node_rules.specs.Welcoming.{hear_welcome}
use Rattle.node_rules.specs.Ticks.{tick}
use Rattle.node_rules.specs.Taking.{take, forget}
use Rattle.node_rules.specs.Step.{hear, node_step}

abbrev inc : ℕ → ℕ → Inc
inc s n = record { server = s; start = n }

abbrev item : List ℕ → List ℕ → Item
item t k = record { table = t; key = k }

abbrev group : List ℕ
group = replicate 16 0xaa

-- the session of a transaction of one statement on the line n
abbrev once : ℕ → ℕ → Item → ChangeKind → Step
once n s i k = Once s (1_000_000_000 + n) (record { item = i; what = k })

-- before-waits-for-backlog
abbrev before_waits_for_backlog : List Step
before_waits_for_backlog =
    Found group Multi 10 5 0 (1 ∷ 2 ∷ 3 ∷ []) ∷
    once 2 1 (item (codes "t") (codes "a")) (Inserts (codes "1")) ∷
    once 3 1 (item (codes "t") (codes "b")) (Inserts (codes "2")) ∷
    Settle [] ∷
    Session 3 7 (Begin Before 100) ∷
    Settle [] ∷
    Work 3 None ∷
    Work 3 None ∷
    Session 3 7 (Get (item (codes "t") (codes "b"))) ∷
    []

before_waits_for_backlog_text : full before_waits_for_backlog ≡
    codes "1 1.1 state ONLINE" ∷
    codes "1 2.1 state ONLINE" ∷
    codes "1 3.1 state ONLINE" ∷
    codes "2 1.1 answer o2 begun -" ∷
    codes "2 1.1 answer o2 changed" ∷
    codes "2 1.1 answer o2 sent 1.1#1" ∷
    codes "3 1.1 answer o3 begun -" ∷
    codes "3 1.1 answer o3 changed" ∷
    codes "3 1.1 answer o3 sent 1.1#2" ∷
    codes "4 1.1 took 1 1.1#1 txn positive aaaaaaaa-aaaa-aaaa-aaaa-aaaaaaaaaaaa:1" ∷
    codes "4 1.1 committed aaaaaaaa-aaaa-aaaa-aaaa-aaaaaaaaaaaa:1" ∷
    codes "4 1.1 answer o2 committed aaaaaaaa-aaaa-aaaa-aaaa-aaaaaaaaaaaa:1" ∷
    codes "4 1.1 took 2 1.1#2 txn positive aaaaaaaa-aaaa-aaaa-aaaa-aaaaaaaaaaaa:2" ∷
    codes "4 1.1 committed aaaaaaaa-aaaa-aaaa-aaaa-aaaaaaaaaaaa:2" ∷
    codes "4 1.1 answer o3 committed aaaaaaaa-aaaa-aaaa-aaaa-aaaaaaaaaaaa:2" ∷
    codes "4 2.1 took 1 1.1#1 txn positive aaaaaaaa-aaaa-aaaa-aaaa-aaaaaaaaaaaa:1" ∷
    codes "4 3.1 took 1 1.1#1 txn positive aaaaaaaa-aaaa-aaaa-aaaa-aaaaaaaaaaaa:1" ∷
    codes "4 2.1 took 2 1.1#2 txn positive aaaaaaaa-aaaa-aaaa-aaaa-aaaaaaaaaaaa:2" ∷
    codes "4 3.1 took 2 1.1#2 txn positive aaaaaaaa-aaaa-aaaa-aaaa-aaaaaaaaaaaa:2" ∷
    codes "5 3.1 answer 7 held" ∷
    codes "6 1.1 took 3 3.1#1 sync" ∷
    codes "6 2.1 took 3 3.1#1 sync" ∷
    codes "6 3.1 took 3 3.1#1 sync" ∷
    codes "7 3.1 done 1" ∷
    codes "7 3.1 committed aaaaaaaa-aaaa-aaaa-aaaa-aaaaaaaaaaaa:1" ∷
    codes "8 3.1 done 2" ∷
    codes "8 3.1 committed aaaaaaaa-aaaa-aaaa-aaaa-aaaaaaaaaaaa:2" ∷
    codes "8 3.1 answer 7 begun aaaaaaaa-aaaa-aaaa-aaaa-aaaaaaaaaaaa:1-2 sync 3" ∷
    codes "9 3.1 answer 7 row 2" ∷
    []
unfolding digits number number_of field word begins_number number_in elements next_inc next_gtid next_interval_after next_source_above next_set next_item_after next_kind next_change next_body next_txn next_mode next_part by_index full run apply plays move settle drain step found start call point settle_slots read turn node_step hear hear_prepare hear_accept hear_learn hear_promise hear_accepted propose_one own_value hear_offer campaign hear_alive tick take hear_welcome forget
before_waits_for_backlog_text = refl

-- after-with-silent-member
abbrev after_with_silent_member : List Step
after_with_silent_member =
    Found group Multi 10 5 0 (1 ∷ 2 ∷ 3 ∷ []) ∷
    Session 1 7 (Begin After 100) ∷
    Session 1 7 (Insert (item (codes "t") (codes "a")) (codes "1")) ∷
    Session 1 7 Commit ∷
    Stop 3 ∷
    Settle [] ∷
    Work 2 None ∷
    Settle [] ∷
    Tick 1 6 ∷
    Tick 2 1 ∷
    Settle [] ∷
    Tick 1 4 ∷
    Settle [] ∷
    []

after_with_silent_member_text : full after_with_silent_member ≡
    codes "1 1.1 state ONLINE" ∷
    codes "1 2.1 state ONLINE" ∷
    codes "1 3.1 state ONLINE" ∷
    codes "2 1.1 answer 7 begun -" ∷
    codes "3 1.1 answer 7 changed" ∷
    codes "4 1.1 answer 7 sent 1.1#1" ∷
    codes "5 ok" ∷
    codes "6 1.1 took 1 1.1#1 txn positive aaaaaaaa-aaaa-aaaa-aaaa-aaaaaaaaaaaa:1" ∷
    codes "6 2.1 took 1 1.1#1 txn positive aaaaaaaa-aaaa-aaaa-aaaa-aaaaaaaaaaaa:1" ∷
    codes "7 2.1 done 1" ∷
    codes "8 1.1 took 2 2.1#1 prepared aaaaaaaa-aaaa-aaaa-aaaa-aaaaaaaaaaaa:1" ∷
    codes "8 2.1 took 2 2.1#1 prepared aaaaaaaa-aaaa-aaaa-aaaa-aaaaaaaaaaaa:1" ∷
    codes "9 ok" ∷
    codes "10 ok" ∷
    codes "11 ok" ∷
    codes "12 ok" ∷
    codes "13 1.1 took 3 1.1#2 remove 3.1" ∷
    codes "13 1.1 committed aaaaaaaa-aaaa-aaaa-aaaa-aaaaaaaaaaaa:1" ∷
    codes "13 1.1 answer 7 committed aaaaaaaa-aaaa-aaaa-aaaa-aaaaaaaaaaaa:1" ∷
    codes "13 2.1 took 3 1.1#2 remove 3.1" ∷
    codes "13 2.1 committed aaaaaaaa-aaaa-aaaa-aaaa-aaaaaaaaaaaa:1" ∷
    []
unfolding number number_of field word begins_number number_in elements next_inc next_gtid next_interval_after next_source_above next_set next_item_after next_kind next_change next_body next_txn next_mode next_part by_index full run apply plays move settle drain step found start call point settle_slots read turn node_step hear hear_prepare hear_accept hear_learn hear_promise hear_accepted propose_one own_value hear_offer campaign hear_alive tick take hear_welcome forget
after_with_silent_member_text = refl

-- begin-held-by-after
abbrev begin_held_by_after : List Step
begin_held_by_after =
    Found group Multi 10 5 0 (1 ∷ 2 ∷ 3 ∷ []) ∷
    Session 1 7 (Begin After 100) ∷
    Session 1 7 (Insert (item (codes "t") (codes "a")) (codes "1")) ∷
    Session 1 7 Commit ∷
    Stop 3 ∷
    Settle [] ∷
    Work 2 None ∷
    Settle [] ∷
    Session 2 8 (Begin Eventual 100) ∷
    Tick 1 6 ∷
    Tick 2 1 ∷
    Settle [] ∷
    Tick 1 4 ∷
    Settle [] ∷
    []

begin_held_by_after_text : full begin_held_by_after ≡
    codes "1 1.1 state ONLINE" ∷
    codes "1 2.1 state ONLINE" ∷
    codes "1 3.1 state ONLINE" ∷
    codes "2 1.1 answer 7 begun -" ∷
    codes "3 1.1 answer 7 changed" ∷
    codes "4 1.1 answer 7 sent 1.1#1" ∷
    codes "5 ok" ∷
    codes "6 1.1 took 1 1.1#1 txn positive aaaaaaaa-aaaa-aaaa-aaaa-aaaaaaaaaaaa:1" ∷
    codes "6 2.1 took 1 1.1#1 txn positive aaaaaaaa-aaaa-aaaa-aaaa-aaaaaaaaaaaa:1" ∷
    codes "7 2.1 done 1" ∷
    codes "8 1.1 took 2 2.1#1 prepared aaaaaaaa-aaaa-aaaa-aaaa-aaaaaaaaaaaa:1" ∷
    codes "8 2.1 took 2 2.1#1 prepared aaaaaaaa-aaaa-aaaa-aaaa-aaaaaaaaaaaa:1" ∷
    codes "9 2.1 answer 8 held" ∷
    codes "10 ok" ∷
    codes "11 ok" ∷
    codes "12 ok" ∷
    codes "13 ok" ∷
    codes "14 1.1 took 3 1.1#2 remove 3.1" ∷
    codes "14 1.1 committed aaaaaaaa-aaaa-aaaa-aaaa-aaaaaaaaaaaa:1" ∷
    codes "14 1.1 answer 7 committed aaaaaaaa-aaaa-aaaa-aaaa-aaaaaaaaaaaa:1" ∷
    codes "14 2.1 took 3 1.1#2 remove 3.1" ∷
    codes "14 2.1 committed aaaaaaaa-aaaa-aaaa-aaaa-aaaaaaaaaaaa:1" ∷
    codes "14 2.1 answer 8 begun aaaaaaaa-aaaa-aaaa-aaaa-aaaaaaaaaaaa:1" ∷
    []
unfolding digits number number_of field word begins_number number_in elements next_inc next_gtid next_interval_after next_source_above next_set next_item_after next_kind next_change next_body next_txn next_mode next_part by_index full run apply plays move settle drain step found start call point settle_slots read turn node_step hear hear_prepare hear_accept hear_learn hear_promise hear_accepted propose_one own_value hear_offer campaign hear_alive tick take hear_welcome forget
begin_held_by_after_text = refl

-- hold-limit
abbrev hold_limit : List Step
hold_limit =
    Found group Multi 10 5 0 (1 ∷ 2 ∷ 3 ∷ []) ∷
    Session 2 7 (Begin Before 3) ∷
    Tick 2 2 ∷
    Tick 2 1 ∷
    []

hold_limit_text : full hold_limit ≡
    codes "1 1.1 state ONLINE" ∷
    codes "1 2.1 state ONLINE" ∷
    codes "1 3.1 state ONLINE" ∷
    codes "2 2.1 answer 7 held" ∷
    codes "3 ok" ∷
    codes "4 2.1 answer 7 hold timeout 3" ∷
    []
unfolding number number_of field word begins_number number_in elements next_inc next_gtid next_interval_after next_source_above next_set next_item_after next_kind next_change next_body next_txn next_mode next_part by_index full run apply plays move settle drain step found start call point settle_slots read turn node_step hear hear_prepare hear_accept hear_learn hear_promise hear_accepted propose_one own_value hear_offer campaign hear_alive tick take hear_welcome forget
hold_limit_text = refl

-- work-out-of-order
abbrev work_out_of_order : List Step
work_out_of_order =
    Found group Multi 10 5 0 (1 ∷ 2 ∷ 3 ∷ []) ∷
    once 2 1 (item (codes "t") (codes "a")) (Inserts (codes "1")) ∷
    once 3 1 (item (codes "t") (codes "b")) (Inserts (codes "1")) ∷
    Settle [] ∷
    Work 2 (Some 2) ∷
    Work 2 (Some 2) ∷
    Work 2 (Some 9) ∷
    ShowQueue 2 ∷
    Work 2 None ∷
    []

work_out_of_order_text : full work_out_of_order ≡
    codes "1 1.1 state ONLINE" ∷
    codes "1 2.1 state ONLINE" ∷
    codes "1 3.1 state ONLINE" ∷
    codes "2 1.1 answer o2 begun -" ∷
    codes "2 1.1 answer o2 changed" ∷
    codes "2 1.1 answer o2 sent 1.1#1" ∷
    codes "3 1.1 answer o3 begun -" ∷
    codes "3 1.1 answer o3 changed" ∷
    codes "3 1.1 answer o3 sent 1.1#2" ∷
    codes "4 1.1 took 1 1.1#1 txn positive aaaaaaaa-aaaa-aaaa-aaaa-aaaaaaaaaaaa:1" ∷
    codes "4 1.1 committed aaaaaaaa-aaaa-aaaa-aaaa-aaaaaaaaaaaa:1" ∷
    codes "4 1.1 answer o2 committed aaaaaaaa-aaaa-aaaa-aaaa-aaaaaaaaaaaa:1" ∷
    codes "4 1.1 took 2 1.1#2 txn positive aaaaaaaa-aaaa-aaaa-aaaa-aaaaaaaaaaaa:2" ∷
    codes "4 1.1 committed aaaaaaaa-aaaa-aaaa-aaaa-aaaaaaaaaaaa:2" ∷
    codes "4 1.1 answer o3 committed aaaaaaaa-aaaa-aaaa-aaaa-aaaaaaaaaaaa:2" ∷
    codes "4 2.1 took 1 1.1#1 txn positive aaaaaaaa-aaaa-aaaa-aaaa-aaaaaaaaaaaa:1" ∷
    codes "4 3.1 took 1 1.1#1 txn positive aaaaaaaa-aaaa-aaaa-aaaa-aaaaaaaaaaaa:1" ∷
    codes "4 2.1 took 2 1.1#2 txn positive aaaaaaaa-aaaa-aaaa-aaaa-aaaaaaaaaaaa:2" ∷
    codes "4 3.1 took 2 1.1#2 txn positive aaaaaaaa-aaaa-aaaa-aaaa-aaaaaaaaaaaa:2" ∷
    codes "5 2.1 done 2" ∷
    codes "6 2.1 reply already done 2" ∷
    codes "7 2.1 reply not queued 9" ∷
    codes "8 2.1 queued 1 waiting" ∷
    codes "8 2.1 queued 2 done" ∷
    codes "8 2.1 queue 2" ∷
    codes "9 2.1 done 1" ∷
    codes "9 2.1 committed aaaaaaaa-aaaa-aaaa-aaaa-aaaaaaaaaaaa:1" ∷
    codes "9 2.1 committed aaaaaaaa-aaaa-aaaa-aaaa-aaaaaaaaaaaa:2" ∷
    []
unfolding number number_of field word begins_number number_in elements next_inc next_gtid next_interval_after next_source_above next_set next_item_after next_kind next_change next_body next_txn next_mode next_part by_index full run apply plays move settle drain step found start call point settle_slots read turn node_step hear hear_prepare hear_accept hear_learn hear_promise hear_accepted propose_one own_value hear_offer campaign hear_alive tick take hear_welcome forget
work_out_of_order_text = refl

-- not-acknowledged
abbrev not_acknowledged : List Step
not_acknowledged =
    Found group Multi 10 5 1 (1 ∷ 2 ∷ 3 ∷ []) ∷
    Session 1 7 (Begin After 9) ∷
    Session 1 7 (Insert (item (codes "t") (codes "a")) (codes "1")) ∷
    Session 1 7 Commit ∷
    Settle [] ∷
    Stop 2 ∷
    Stop 3 ∷
    Tick 1 4 ∷
    Tick 1 1 ∷
    []

not_acknowledged_text : full not_acknowledged ≡
    codes "1 1.1 state ONLINE" ∷
    codes "1 2.1 state ONLINE" ∷
    codes "1 3.1 state ONLINE" ∷
    codes "2 1.1 answer 7 begun -" ∷
    codes "3 1.1 answer 7 changed" ∷
    codes "4 1.1 answer 7 sent 1.1#1" ∷
    codes "5 1.1 took 1 1.1#1 txn positive aaaaaaaa-aaaa-aaaa-aaaa-aaaaaaaaaaaa:1" ∷
    codes "5 2.1 took 1 1.1#1 txn positive aaaaaaaa-aaaa-aaaa-aaaa-aaaaaaaaaaaa:1" ∷
    codes "5 3.1 took 1 1.1#1 txn positive aaaaaaaa-aaaa-aaaa-aaaa-aaaaaaaaaaaa:1" ∷
    codes "6 ok" ∷
    codes "7 ok" ∷
    codes "8 ok" ∷
    codes "9 1.1 state ERROR majority" ∷
    codes "9 1.1 answer 7 not acknowledged aaaaaaaa-aaaa-aaaa-aaaa-aaaaaaaaaaaa:1" ∷
    []
unfolding number number_of field word begins_number number_in elements next_inc next_gtid next_interval_after next_source_above next_set next_item_after next_kind next_change next_body next_txn next_mode next_part by_index full run apply plays move settle drain step found start call point settle_slots read turn node_step hear hear_prepare hear_accept hear_learn hear_promise hear_accepted propose_one own_value hear_offer campaign hear_alive tick take hear_welcome forget
not_acknowledged_text = refl

-- begin-in-error
abbrev begin_in_error : List Step
begin_in_error =
    Found group Multi 10 5 2 (1 ∷ 2 ∷ 3 ∷ []) ∷
    Stop 2 ∷
    Stop 3 ∷
    Tick 1 5 ∷
    Tick 1 1 ∷
    once 6 1 (item (codes "t") (codes "a")) (Inserts (codes "1")) ∷
    Session 1 7 (Begin Before 9) ∷
    []

begin_in_error_text : full begin_in_error ≡
    codes "1 1.1 state ONLINE" ∷
    codes "1 2.1 state ONLINE" ∷
    codes "1 3.1 state ONLINE" ∷
    codes "2 ok" ∷
    codes "3 ok" ∷
    codes "4 ok" ∷
    codes "5 1.1 state ERROR majority" ∷
    codes "6 1.1 answer o6 begun -" ∷
    codes "6 1.1 answer o6 not online ERROR" ∷
    codes "6 1.1 answer o6 rolled back" ∷
    codes "7 1.1 answer 7 not online ERROR" ∷
    []
unfolding number number_of field word begins_number number_in elements next_inc next_gtid next_interval_after next_source_above next_set next_item_after next_kind next_change next_body next_txn next_mode next_part by_index full run apply plays move settle drain step found start call point settle_slots read turn node_step hear hear_prepare hear_accept hear_learn hear_promise hear_accepted propose_one own_value hear_offer campaign hear_alive tick take hear_welcome forget
begin_in_error_text = refl
