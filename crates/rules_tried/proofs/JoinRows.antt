-- Worked rows, computed: the text of every line of each script.
use Rattle.std.proofs.Common.{◌≡◌, ℕ, true, false, Option, Some, None, List, [], ◌∷◌, refl}
use Rattle.std.specs.Prelude.{replicate, codes, ◌+◌}
use Rattle.std.specs.Fmt.{digits}
use Rattle.gr_ids.specs.declared.names.Inc.{Inc}
use Rattle.gr_ids.specs.declared.levels.Level.TheVariants.{Eventual, BeforeOnPrimaryFailover, Before, After, BeforeAndAfter}
use Rattle.gr_ids.specs.declared.levels.Mode.TheVariants.{Single, Multi}
use Rattle.key_items.specs.declared.item.Item.{Item}
use Rattle.key_items.specs.declared.change.ChangeKind.{ChangeKind}
use Rattle.key_items.specs.declared.change.ChangeKind.TheVariants.{Insert as Inserts, Update as Updates, Delete as Deletes}
use Rattle.group_rules.specs.declared.requests.Request.TheVariants.{Begin, Get, Insert, Update, Delete, Commit, Rollback}
use Rattle.group_rules.specs.declared.requests.Operator.TheVariants.{Campaign, Tell, Leave, SetPrimary, Single as SetSingle, Multi as SetMulti, AskDonor, DonorFailed}
use Rattle.group_rules.specs.declared.steps.Step.{Step}
use Rattle.group_rules.specs.declared.steps.Step.TheVariants.{Server, Block, Found, Session, Once, Operate, Deliver, Lose, Settle, Work, Drain, Tick, Start, Stop, Offline, ShowMembers, ShowSlots, ShowConfig, ShowGtids, ShowRows, ShowQueue, ShowCertifier, ShowKept, ShowWire}
use Rattle.group_rules.specs.World.{default_uuid, move}
use Rattle.group_rules.specs.Script.{apply, plays, settle, drain, run}
use Rattle.group_rules.specs.Texts.{full}
use Rattle.group_rules.specs.Calls.{call}
use Rattle.group_rules.specs.Points.{point}
use Rattle.group_rules.specs.Taking.{settle_slots}
use Rattle.group_rules.specs.Steps.{step, found, start}
use Rattle.uuid.specs.Text.{by_index}
use Rattle.byte_forms.specs.Numbers.{number, number_of}
use Rattle.byte_forms.specs.Fields.{field, word, begins_number, number_in}
use Rattle.byte_forms.specs.Lists.{elements}
use Rattle.name_forms.specs.Incs.{next_inc}
use Rattle.name_forms.specs.Gtids.{next_gtid}
use Rattle.gtid_sets.specs.Spelling.{next_interval_after, next_source_above, next_set}
use Rattle.key_items.specs.Spelling.{next_item_after}
use Rattle.txn_forms.specs.Changes.{next_kind, next_change}
use Rattle.txn_forms.specs.Bodies.{next_body, next_txn, next_mode, next_part}
use Rattle.slot_values.specs.Log.{read, turn}
use Rattle.node_rules.specs.Voting.{hear_prepare, hear_accept}
use Rattle.node_rules.specs.Learning.{hear_learn, hear_accepted, hear_alive}
use Rattle.node_rules.specs.Proposing.{hear_promise, propose_one, own_value, hear_offer, campaign}
use Rattle.node_rules.specs.Welcoming.{hear_welcome}
use Rattle.node_rules.specs.Ticks.{tick}
use Rattle.node_rules.specs.Taking.{take, forget}
use Rattle.node_rules.specs.Step.{hear, node_step}

abbrev inc : ℕ → ℕ → Inc
inc s n = record { server = s; start = n }

abbrev item : List ℕ → List ℕ → Item
item t k = record { table = t; key = k }

abbrev group : List ℕ
group = replicate 16 0xaa

-- the session of a transaction of one statement on the line n
abbrev once : ℕ → ℕ → Item → ChangeKind → Step
once n s i k = Once s (1_000_000_000 + n) (record { item = i; what = k })

-- joiner-online-inside-after
abbrev joiner_online_inside_after : List Step
joiner_online_inside_after =
    Found group Multi 10 5 0 (1 ∷ 2 ∷ []) ∷
    Server 3 (default_uuid 3) (8 ∷ 0 ∷ 36 ∷ []) 50 ∷
    Start 3 1 ∷
    Settle [] ∷
    Operate 3 (AskDonor (inc 2 1)) ∷
    Session 1 7 (Begin After 100) ∷
    Session 1 7 (Insert (item (codes "t") (codes "a")) (codes "1")) ∷
    Deliver 7 ∷
    Deliver 8 ∷
    Session 1 7 Commit ∷
    Settle [] ∷
    Work 2 None ∷
    Settle [] ∷
    Session 3 9 (Begin Eventual 100) ∷
    Work 3 None ∷
    Session 3 9 (Get (item (codes "t") (codes "a"))) ∷
    []

joiner_online_inside_after_text : full joiner_online_inside_after ≡
    codes "1 1.1 state ONLINE" ∷
    codes "1 2.1 state ONLINE" ∷
    codes "2 ok" ∷
    codes "3 3.1 state OFFLINE" ∷
    codes "4 1.1 took 1 1.1#1 add 3.1" ∷
    codes "4 2.1 took 1 1.1#1 add 3.1" ∷
    codes "4 3.1 state RECOVERING" ∷
    codes "5 3.1 reply asked 2.1" ∷
    codes "6 1.1 answer 7 begun -" ∷
    codes "7 1.1 answer 7 changed" ∷
    codes "8 ok" ∷
    codes "9 3.1 given 1 0" ∷
    codes "10 1.1 answer 7 sent 1.1#2" ∷
    codes "11 1.1 took 2 1.1#2 txn positive aaaaaaaa-aaaa-aaaa-aaaa-aaaaaaaaaaaa:1" ∷
    codes "11 1.1 took 3 3.1#1 online -" ∷
    codes "11 2.1 took 2 1.1#2 txn positive aaaaaaaa-aaaa-aaaa-aaaa-aaaaaaaaaaaa:1" ∷
    codes "11 3.1 took 2 1.1#2 txn positive aaaaaaaa-aaaa-aaaa-aaaa-aaaaaaaaaaaa:1" ∷
    codes "11 2.1 took 3 3.1#1 online -" ∷
    codes "11 3.1 took 3 3.1#1 online -" ∷
    codes "11 3.1 state ONLINE" ∷
    codes "12 2.1 done 2" ∷
    codes "13 1.1 took 4 2.1#1 prepared aaaaaaaa-aaaa-aaaa-aaaa-aaaaaaaaaaaa:1" ∷
    codes "13 1.1 committed aaaaaaaa-aaaa-aaaa-aaaa-aaaaaaaaaaaa:1" ∷
    codes "13 1.1 answer 7 committed aaaaaaaa-aaaa-aaaa-aaaa-aaaaaaaaaaaa:1" ∷
    codes "13 2.1 took 4 2.1#1 prepared aaaaaaaa-aaaa-aaaa-aaaa-aaaaaaaaaaaa:1" ∷
    codes "13 2.1 committed aaaaaaaa-aaaa-aaaa-aaaa-aaaaaaaaaaaa:1" ∷
    codes "13 3.1 took 4 2.1#1 prepared aaaaaaaa-aaaa-aaaa-aaaa-aaaaaaaaaaaa:1" ∷
    codes "14 3.1 answer 9 held" ∷
    codes "15 3.1 done 2" ∷
    codes "15 3.1 committed aaaaaaaa-aaaa-aaaa-aaaa-aaaaaaaaaaaa:1" ∷
    codes "15 3.1 answer 9 begun aaaaaaaa-aaaa-aaaa-aaaa-aaaaaaaaaaaa:1" ∷
    codes "16 3.1 answer 9 row 1" ∷
    []
unfolding digits number number_of field word begins_number number_in elements next_inc next_gtid next_interval_after next_source_above next_set next_item_after next_kind next_change next_body next_txn next_mode next_part by_index full run apply plays move settle drain step found start call point settle_slots read turn node_step hear hear_prepare hear_accept hear_learn hear_promise hear_accepted propose_one own_value hear_offer campaign hear_alive tick take hear_welcome forget
joiner_online_inside_after_text = refl

-- ten-failed-asks
abbrev ten_failed_asks : List Step
ten_failed_asks =
    Found group Multi 10 5 0 (1 ∷ 2 ∷ []) ∷
    Server 3 (default_uuid 3) (8 ∷ 0 ∷ 36 ∷ []) 50 ∷
    Start 3 1 ∷
    Settle [] ∷
    Operate 3 (AskDonor (inc 1 1)) ∷
    Operate 3 DonorFailed ∷
    Operate 3 (AskDonor (inc 1 1)) ∷
    Operate 3 DonorFailed ∷
    Operate 3 (AskDonor (inc 1 1)) ∷
    Operate 3 DonorFailed ∷
    Operate 3 (AskDonor (inc 1 1)) ∷
    Operate 3 DonorFailed ∷
    Operate 3 (AskDonor (inc 1 1)) ∷
    Operate 3 DonorFailed ∷
    Operate 3 (AskDonor (inc 1 1)) ∷
    Operate 3 DonorFailed ∷
    Operate 3 (AskDonor (inc 1 1)) ∷
    Operate 3 DonorFailed ∷
    Operate 3 (AskDonor (inc 1 1)) ∷
    Operate 3 DonorFailed ∷
    Operate 3 (AskDonor (inc 1 1)) ∷
    Operate 3 DonorFailed ∷
    Operate 3 (AskDonor (inc 1 1)) ∷
    Operate 3 DonorFailed ∷
    Operate 3 (AskDonor (inc 1 1)) ∷
    Operate 3 DonorFailed ∷
    []

ten_failed_asks_text : full ten_failed_asks ≡
    codes "1 1.1 state ONLINE" ∷
    codes "1 2.1 state ONLINE" ∷
    codes "2 ok" ∷
    codes "3 3.1 state OFFLINE" ∷
    codes "4 1.1 took 1 1.1#1 add 3.1" ∷
    codes "4 2.1 took 1 1.1#1 add 3.1" ∷
    codes "4 3.1 state RECOVERING" ∷
    codes "5 3.1 reply asked 1.1" ∷
    codes "6 3.1 reply failed" ∷
    codes "7 3.1 reply asked 1.1" ∷
    codes "8 3.1 reply failed" ∷
    codes "9 3.1 reply asked 1.1" ∷
    codes "10 3.1 reply failed" ∷
    codes "11 3.1 reply asked 1.1" ∷
    codes "12 3.1 reply failed" ∷
    codes "13 3.1 reply asked 1.1" ∷
    codes "14 3.1 reply failed" ∷
    codes "15 3.1 reply asked 1.1" ∷
    codes "16 3.1 reply failed" ∷
    codes "17 3.1 reply asked 1.1" ∷
    codes "18 3.1 reply failed" ∷
    codes "19 3.1 reply asked 1.1" ∷
    codes "20 3.1 reply failed" ∷
    codes "21 3.1 reply asked 1.1" ∷
    codes "22 3.1 reply failed" ∷
    codes "23 3.1 reply asked 1.1" ∷
    codes "24 3.1 reply failed" ∷
    codes "24 3.1 state ERROR nodonor 10" ∷
    codes "25 3.1 reply no ask due" ∷
    codes "26 3.1 reply no ask pending" ∷
    []
unfolding number number_of field word begins_number number_in elements next_inc next_gtid next_interval_after next_source_above next_set next_item_after next_kind next_change next_body next_txn next_mode next_part by_index full run apply plays move settle drain step found start call point settle_slots read turn node_step hear hear_prepare hear_accept hear_learn hear_promise hear_accepted propose_one own_value hear_offer campaign hear_alive tick take hear_welcome forget
ten_failed_asks_text = refl

-- give-of-the-add
abbrev give_of_the_add : List Step
give_of_the_add =
    Found group Multi 10 5 0 (1 ∷ 2 ∷ []) ∷
    Server 3 (default_uuid 3) (8 ∷ 0 ∷ 36 ∷ []) 50 ∷
    Start 3 1 ∷
    Settle [] ∷
    once 5 1 (item (codes "t") (codes "a")) (Inserts (codes "1")) ∷
    Settle [] ∷
    Operate 3 (AskDonor (inc 1 1)) ∷
    Settle [] ∷
    ShowCertifier 3 ∷
    []

give_of_the_add_text : full give_of_the_add ≡
    codes "1 1.1 state ONLINE" ∷
    codes "1 2.1 state ONLINE" ∷
    codes "2 ok" ∷
    codes "3 3.1 state OFFLINE" ∷
    codes "4 1.1 took 1 1.1#1 add 3.1" ∷
    codes "4 2.1 took 1 1.1#1 add 3.1" ∷
    codes "4 3.1 state RECOVERING" ∷
    codes "5 1.1 answer o5 begun -" ∷
    codes "5 1.1 answer o5 changed" ∷
    codes "5 1.1 answer o5 sent 1.1#2" ∷
    codes "6 1.1 took 2 1.1#2 txn positive aaaaaaaa-aaaa-aaaa-aaaa-aaaaaaaaaaaa:1" ∷
    codes "6 1.1 committed aaaaaaaa-aaaa-aaaa-aaaa-aaaaaaaaaaaa:1" ∷
    codes "6 1.1 answer o5 committed aaaaaaaa-aaaa-aaaa-aaaa-aaaaaaaaaaaa:1" ∷
    codes "6 2.1 took 2 1.1#2 txn positive aaaaaaaa-aaaa-aaaa-aaaa-aaaaaaaaaaaa:1" ∷
    codes "7 3.1 reply asked 1.1" ∷
    codes "8 3.1 given 1 0" ∷
    codes "8 3.1 took 2 1.1#2 txn positive aaaaaaaa-aaaa-aaaa-aaaa-aaaaaaaaaaaa:1" ∷
    codes "8 1.1 took 3 3.1#1 online -" ∷
    codes "8 2.1 took 3 3.1#1 online -" ∷
    codes "8 3.1 took 3 3.1#1 online -" ∷
    codes "8 3.1 state ONLINE" ∷
    codes "9 3.1 item t a aaaaaaaa-aaaa-aaaa-aaaa-aaaaaaaaaaaa:1" ∷
    codes "9 3.1 items 1" ∷
    []
unfolding number number_of field word begins_number number_in elements next_inc next_gtid next_interval_after next_source_above next_set next_item_after next_kind next_change next_body next_txn next_mode next_part by_index full run apply plays move settle drain step found start call point settle_slots read turn node_step hear hear_prepare hear_accept hear_learn hear_promise hear_accepted propose_one own_value hear_offer campaign hear_alive tick take hear_welcome forget
give_of_the_add_text = refl
