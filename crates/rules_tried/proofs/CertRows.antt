-- Worked rows, computed: the text of every line of each script.
use Rattle.std.proofs.Common.{◌≡◌, ℕ, true, false, Option, Some, None, List, [], ◌∷◌, refl}
use Rattle.std.specs.Prelude.{replicate, codes, ◌+◌}
use Rattle.std.specs.Fmt.{digits}
use Rattle.gr_ids.specs.declared.names.Inc.{Inc}
use Rattle.gr_ids.specs.declared.levels.Level.TheVariants.{Eventual, BeforeOnPrimaryFailover, Before, After, BeforeAndAfter}
use Rattle.gr_ids.specs.declared.levels.Mode.TheVariants.{Single, Multi}
use Rattle.key_items.specs.declared.item.Item.{Item}
use Rattle.key_items.specs.declared.change.ChangeKind.{ChangeKind}
use Rattle.key_items.specs.declared.change.ChangeKind.TheVariants.{Insert as Inserts, Update as Updates, Delete as Deletes}
use Rattle.group_rules.specs.declared.requests.Request.TheVariants.{Begin, Get, Insert, Update, Delete, Commit, Rollback}
use Rattle.group_rules.specs.declared.requests.Operator.TheVariants.{Campaign, Tell, Leave, SetPrimary, Single as SetSingle, Multi as SetMulti, AskDonor, DonorFailed}
use Rattle.group_rules.specs.declared.steps.Step.{Step}
use Rattle.group_rules.specs.declared.steps.Step.TheVariants.{Server, Block, Found, Session, Once, Operate, Deliver, Lose, Settle, Work, Drain, Tick, Start, Stop, Offline, ShowMembers, ShowSlots, ShowConfig, ShowGtids, ShowRows, ShowQueue, ShowCertifier, ShowKept, ShowWire}
use Rattle.group_rules.specs.World.{default_uuid, move}
use Rattle.group_rules.specs.Script.{apply, plays, settle, drain, run}
use Rattle.group_rules.specs.Texts.{full}
use Rattle.group_rules.specs.Calls.{call}
use Rattle.group_rules.specs.Points.{point}
use Rattle.group_rules.specs.Taking.{settle_slots}
use Rattle.group_rules.specs.Steps.{step, found, start}
use Rattle.uuid.specs.Text.{by_index}
use Rattle.byte_forms.specs.Numbers.{number, number_of}
use Rattle.byte_forms.specs.Fields.{field, word, begins_number, number_in}
use Rattle.byte_forms.specs.Lists.{elements}
use Rattle.name_forms.specs.Incs.{next_inc}
use Rattle.name_forms.specs.Gtids.{next_gtid}
use Rattle.gtid_sets.specs.Spelling.{next_interval_after, next_source_above, next_set}
use Rattle.key_items.specs.Spelling.{next_item_after}
use Rattle.txn_forms.specs.Changes.{next_kind, next_change}
use Rattle.txn_forms.specs.Bodies.{next_body, next_txn, next_mode, next_part}
use Rattle.slot_values.specs.Log.{read, turn}
use Rattle.node_rules.specs.Voting.{hear_prepare, hear_accept}
use Rattle.node_rules.specs.Learning.{hear_learn, hear_accepted, hear_alive}
use Rattle.node_rules.specs.Proposing.{hear_promise, propose_one, own_value, hear_offer, campaign}
use Rattle.node_rules.specs.Welcoming.{hear_welcome}
use Rattle.node_rules.specs.Ticks.{tick}
use Rattle.node_rules.specs.Taking.{take, forget}
use Rattle.node_rules.specs.Step.{hear, node_step}

abbrev inc : ℕ → ℕ → Inc
inc s n = record { server = s; start = n }

abbrev item : List ℕ → List ℕ → Item
item t k = record { table = t; key = k }

abbrev group : List ℕ
group = replicate 16 0xaa

-- the session of a transaction of one statement on the line n
abbrev once : ℕ → ℕ → Item → ChangeKind → Step
once n s i k = Once s (1_000_000_000 + n) (record { item = i; what = k })

-- forgetting-items
abbrev forgetting_items : List Step
forgetting_items =
    Found group Multi 10 5 0 (1 ∷ 2 ∷ 3 ∷ []) ∷
    once 2 1 (item (codes "t") (codes "a")) (Inserts (codes "1")) ∷
    Settle [] ∷
    Work 2 None ∷
    Work 3 None ∷
    ShowCertifier 1 ∷
    Operate 1 Tell ∷
    Operate 2 Tell ∷
    Operate 3 Tell ∷
    Settle [] ∷
    ShowCertifier 1 ∷
    []

forgetting_items_text : full forgetting_items ≡
    codes "1 1.1 state ONLINE" ∷
    codes "1 2.1 state ONLINE" ∷
    codes "1 3.1 state ONLINE" ∷
    codes "2 1.1 answer o2 begun -" ∷
    codes "2 1.1 answer o2 changed" ∷
    codes "2 1.1 answer o2 sent 1.1#1" ∷
    codes "3 1.1 took 1 1.1#1 txn positive aaaaaaaa-aaaa-aaaa-aaaa-aaaaaaaaaaaa:1" ∷
    codes "3 1.1 committed aaaaaaaa-aaaa-aaaa-aaaa-aaaaaaaaaaaa:1" ∷
    codes "3 1.1 answer o2 committed aaaaaaaa-aaaa-aaaa-aaaa-aaaaaaaaaaaa:1" ∷
    codes "3 2.1 took 1 1.1#1 txn positive aaaaaaaa-aaaa-aaaa-aaaa-aaaaaaaaaaaa:1" ∷
    codes "3 3.1 took 1 1.1#1 txn positive aaaaaaaa-aaaa-aaaa-aaaa-aaaaaaaaaaaa:1" ∷
    codes "4 2.1 done 1" ∷
    codes "4 2.1 committed aaaaaaaa-aaaa-aaaa-aaaa-aaaaaaaaaaaa:1" ∷
    codes "5 3.1 done 1" ∷
    codes "5 3.1 committed aaaaaaaa-aaaa-aaaa-aaaa-aaaaaaaaaaaa:1" ∷
    codes "6 1.1 item t a aaaaaaaa-aaaa-aaaa-aaaa-aaaaaaaaaaaa:1" ∷
    codes "6 1.1 items 1" ∷
    codes "7 1.1 reply sent 1.1#2" ∷
    codes "8 2.1 reply sent 2.1#1" ∷
    codes "9 3.1 reply sent 3.1#1" ∷
    codes "10 1.1 took 2 1.1#2 executed aaaaaaaa-aaaa-aaaa-aaaa-aaaaaaaaaaaa:1" ∷
    codes "10 2.1 took 2 1.1#2 executed aaaaaaaa-aaaa-aaaa-aaaa-aaaaaaaaaaaa:1" ∷
    codes "10 3.1 took 2 1.1#2 executed aaaaaaaa-aaaa-aaaa-aaaa-aaaaaaaaaaaa:1" ∷
    codes "10 1.1 took 3 2.1#1 executed aaaaaaaa-aaaa-aaaa-aaaa-aaaaaaaaaaaa:1" ∷
    codes "10 1.1 took 4 3.1#1 executed aaaaaaaa-aaaa-aaaa-aaaa-aaaaaaaaaaaa:1" ∷
    codes "10 2.1 took 3 2.1#1 executed aaaaaaaa-aaaa-aaaa-aaaa-aaaaaaaaaaaa:1" ∷
    codes "10 3.1 took 3 2.1#1 executed aaaaaaaa-aaaa-aaaa-aaaa-aaaaaaaaaaaa:1" ∷
    codes "10 2.1 took 4 3.1#1 executed aaaaaaaa-aaaa-aaaa-aaaa-aaaaaaaaaaaa:1" ∷
    codes "10 3.1 took 4 3.1#1 executed aaaaaaaa-aaaa-aaaa-aaaa-aaaaaaaaaaaa:1" ∷
    codes "11 1.1 items 0" ∷
    []
unfolding digits number number_of field word begins_number number_in elements next_inc next_gtid next_interval_after next_source_above next_set next_item_after next_kind next_change next_body next_txn next_mode next_part by_index full run apply plays move settle drain step found start call point settle_slots read turn node_step hear hear_prepare hear_accept hear_learn hear_promise hear_accepted propose_one own_value hear_offer campaign hear_alive tick take hear_welcome forget
forgetting_items_text = refl

-- blocks-of-five
abbrev blocks_of_five : List Step
blocks_of_five =
    Block 5 ∷
    Found group Multi 10 5 0 (1 ∷ 2 ∷ 3 ∷ []) ∷
    once 3 1 (item (codes "t") (codes "a")) (Inserts (codes "1")) ∷
    once 4 2 (item (codes "t") (codes "b")) (Inserts (codes "1")) ∷
    once 5 1 (item (codes "t") (codes "c")) (Inserts (codes "1")) ∷
    Drain ∷
    ShowGtids 3 ∷
    []

blocks_of_five_text : full blocks_of_five ≡
    codes "1 ok" ∷
    codes "2 1.1 state ONLINE" ∷
    codes "2 2.1 state ONLINE" ∷
    codes "2 3.1 state ONLINE" ∷
    codes "3 1.1 answer o3 begun -" ∷
    codes "3 1.1 answer o3 changed" ∷
    codes "3 1.1 answer o3 sent 1.1#1" ∷
    codes "4 2.1 answer o4 begun -" ∷
    codes "4 2.1 answer o4 changed" ∷
    codes "4 2.1 answer o4 sent 2.1#1" ∷
    codes "5 1.1 answer o5 begun -" ∷
    codes "5 1.1 answer o5 changed" ∷
    codes "5 1.1 answer o5 sent 1.1#2" ∷
    codes "6 1.1 took 1 1.1#1 txn positive aaaaaaaa-aaaa-aaaa-aaaa-aaaaaaaaaaaa:1" ∷
    codes "6 1.1 committed aaaaaaaa-aaaa-aaaa-aaaa-aaaaaaaaaaaa:1" ∷
    codes "6 1.1 answer o3 committed aaaaaaaa-aaaa-aaaa-aaaa-aaaaaaaaaaaa:1" ∷
    codes "6 1.1 took 2 1.1#2 txn positive aaaaaaaa-aaaa-aaaa-aaaa-aaaaaaaaaaaa:2" ∷
    codes "6 1.1 committed aaaaaaaa-aaaa-aaaa-aaaa-aaaaaaaaaaaa:2" ∷
    codes "6 1.1 answer o5 committed aaaaaaaa-aaaa-aaaa-aaaa-aaaaaaaaaaaa:2" ∷
    codes "6 2.1 took 1 1.1#1 txn positive aaaaaaaa-aaaa-aaaa-aaaa-aaaaaaaaaaaa:1" ∷
    codes "6 3.1 took 1 1.1#1 txn positive aaaaaaaa-aaaa-aaaa-aaaa-aaaaaaaaaaaa:1" ∷
    codes "6 1.1 took 3 2.1#1 txn positive aaaaaaaa-aaaa-aaaa-aaaa-aaaaaaaaaaaa:6" ∷
    codes "6 2.1 took 2 1.1#2 txn positive aaaaaaaa-aaaa-aaaa-aaaa-aaaaaaaaaaaa:2" ∷
    codes "6 3.1 took 2 1.1#2 txn positive aaaaaaaa-aaaa-aaaa-aaaa-aaaaaaaaaaaa:2" ∷
    codes "6 2.1 took 3 2.1#1 txn positive aaaaaaaa-aaaa-aaaa-aaaa-aaaaaaaaaaaa:6" ∷
    codes "6 2.1 committed aaaaaaaa-aaaa-aaaa-aaaa-aaaaaaaaaaaa:6" ∷
    codes "6 2.1 answer o4 committed aaaaaaaa-aaaa-aaaa-aaaa-aaaaaaaaaaaa:6" ∷
    codes "6 3.1 took 3 2.1#1 txn positive aaaaaaaa-aaaa-aaaa-aaaa-aaaaaaaaaaaa:6" ∷
    codes "6 1.1 done 3" ∷
    codes "6 1.1 committed aaaaaaaa-aaaa-aaaa-aaaa-aaaaaaaaaaaa:6" ∷
    codes "6 2.1 done 1" ∷
    codes "6 2.1 committed aaaaaaaa-aaaa-aaaa-aaaa-aaaaaaaaaaaa:1" ∷
    codes "6 2.1 done 2" ∷
    codes "6 2.1 committed aaaaaaaa-aaaa-aaaa-aaaa-aaaaaaaaaaaa:2" ∷
    codes "6 3.1 done 1" ∷
    codes "6 3.1 committed aaaaaaaa-aaaa-aaaa-aaaa-aaaaaaaaaaaa:1" ∷
    codes "6 3.1 done 2" ∷
    codes "6 3.1 committed aaaaaaaa-aaaa-aaaa-aaaa-aaaaaaaaaaaa:2" ∷
    codes "6 3.1 done 3" ∷
    codes "6 3.1 committed aaaaaaaa-aaaa-aaaa-aaaa-aaaaaaaaaaaa:6" ∷
    codes "7 3.1 gtids aaaaaaaa-aaaa-aaaa-aaaa-aaaaaaaaaaaa:1-2:6" ∷
    []
unfolding digits number number_of field word begins_number number_in elements next_inc next_gtid next_interval_after next_source_above next_set next_item_after next_kind next_change next_body next_txn next_mode next_part by_index full run apply plays move settle drain step found start call point settle_slots read turn node_step hear hear_prepare hear_accept hear_learn hear_promise hear_accepted propose_one own_value hear_offer campaign hear_alive tick take hear_welcome forget
blocks_of_five_text = refl

-- conflict-named-by-place
abbrev conflict_named_by_place : List Step
conflict_named_by_place =
    Block 5 ∷
    Found group Multi 10 5 0 (1 ∷ 2 ∷ 3 ∷ []) ∷
    Session 3 9 (Begin Eventual 9) ∷
    Session 3 9 (Insert (item (codes "t") (codes "b")) (codes "0")) ∷
    Session 3 9 (Insert (item (codes "t") (codes "c")) (codes "0")) ∷
    once 6 1 (item (codes "t") (codes "a")) (Inserts (codes "1")) ∷
    Settle [] ∷
    once 8 2 (item (codes "t") (codes "b")) (Inserts (codes "1")) ∷
    Settle [] ∷
    once 10 1 (item (codes "t") (codes "c")) (Inserts (codes "1")) ∷
    Settle [] ∷
    Session 3 9 Commit ∷
    Settle [] ∷
    []

conflict_named_by_place_text : full conflict_named_by_place ≡
    codes "1 ok" ∷
    codes "2 1.1 state ONLINE" ∷
    codes "2 2.1 state ONLINE" ∷
    codes "2 3.1 state ONLINE" ∷
    codes "3 3.1 answer 9 begun -" ∷
    codes "4 3.1 answer 9 changed" ∷
    codes "5 3.1 answer 9 changed" ∷
    codes "6 1.1 answer o6 begun -" ∷
    codes "6 1.1 answer o6 changed" ∷
    codes "6 1.1 answer o6 sent 1.1#1" ∷
    codes "7 1.1 took 1 1.1#1 txn positive aaaaaaaa-aaaa-aaaa-aaaa-aaaaaaaaaaaa:1" ∷
    codes "7 1.1 committed aaaaaaaa-aaaa-aaaa-aaaa-aaaaaaaaaaaa:1" ∷
    codes "7 1.1 answer o6 committed aaaaaaaa-aaaa-aaaa-aaaa-aaaaaaaaaaaa:1" ∷
    codes "7 2.1 took 1 1.1#1 txn positive aaaaaaaa-aaaa-aaaa-aaaa-aaaaaaaaaaaa:1" ∷
    codes "7 3.1 took 1 1.1#1 txn positive aaaaaaaa-aaaa-aaaa-aaaa-aaaaaaaaaaaa:1" ∷
    codes "8 2.1 answer o8 begun -" ∷
    codes "8 2.1 answer o8 changed" ∷
    codes "8 2.1 answer o8 sent 2.1#1" ∷
    codes "9 1.1 took 2 2.1#1 txn positive aaaaaaaa-aaaa-aaaa-aaaa-aaaaaaaaaaaa:6" ∷
    codes "9 2.1 took 2 2.1#1 txn positive aaaaaaaa-aaaa-aaaa-aaaa-aaaaaaaaaaaa:6" ∷
    codes "9 2.1 committed aaaaaaaa-aaaa-aaaa-aaaa-aaaaaaaaaaaa:6" ∷
    codes "9 2.1 answer o8 committed aaaaaaaa-aaaa-aaaa-aaaa-aaaaaaaaaaaa:6" ∷
    codes "9 3.1 took 2 2.1#1 txn positive aaaaaaaa-aaaa-aaaa-aaaa-aaaaaaaaaaaa:6" ∷
    codes "10 1.1 answer o10 begun aaaaaaaa-aaaa-aaaa-aaaa-aaaaaaaaaaaa:1" ∷
    codes "10 1.1 answer o10 changed" ∷
    codes "10 1.1 answer o10 sent 1.1#2" ∷
    codes "11 1.1 took 3 1.1#2 txn positive aaaaaaaa-aaaa-aaaa-aaaa-aaaaaaaaaaaa:2" ∷
    codes "11 1.1 committed aaaaaaaa-aaaa-aaaa-aaaa-aaaaaaaaaaaa:2" ∷
    codes "11 1.1 answer o10 committed aaaaaaaa-aaaa-aaaa-aaaa-aaaaaaaaaaaa:2" ∷
    codes "11 2.1 took 3 1.1#2 txn positive aaaaaaaa-aaaa-aaaa-aaaa-aaaaaaaaaaaa:2" ∷
    codes "11 3.1 took 3 1.1#2 txn positive aaaaaaaa-aaaa-aaaa-aaaa-aaaaaaaaaaaa:2" ∷
    codes "12 3.1 answer 9 sent 3.1#1" ∷
    codes "13 1.1 took 4 3.1#1 txn conflict aaaaaaaa-aaaa-aaaa-aaaa-aaaaaaaaaaaa:2" ∷
    codes "13 2.1 took 4 3.1#1 txn conflict aaaaaaaa-aaaa-aaaa-aaaa-aaaaaaaaaaaa:2" ∷
    codes "13 3.1 took 4 3.1#1 txn conflict aaaaaaaa-aaaa-aaaa-aaaa-aaaaaaaaaaaa:2" ∷
    codes "13 3.1 answer 9 conflict aaaaaaaa-aaaa-aaaa-aaaa-aaaaaaaaaaaa:2" ∷
    []
unfolding digits number number_of field word begins_number number_in elements next_inc next_gtid next_interval_after next_source_above next_set next_item_after next_kind next_change next_body next_txn next_mode next_part by_index full run apply plays move settle drain step found start call point settle_slots read turn node_step hear hear_prepare hear_accept hear_learn hear_promise hear_accepted propose_one own_value hear_offer campaign hear_alive tick take hear_welcome forget
conflict_named_by_place_text = refl

-- a conflict names the last writer of the item, not the first
abbrev conflict_with_the_last_writer : List Step
conflict_with_the_last_writer =
    Found group Multi 10 5 0 (1 ∷ 2 ∷ 3 ∷ []) ∷
    Session 3 9 (Begin Eventual 9) ∷
    Session 3 9 (Insert (item (codes "t") (codes "a")) (codes "0")) ∷
    once 4 1 (item (codes "t") (codes "a")) (Inserts (codes "1")) ∷
    Settle [] ∷
    once 6 1 (item (codes "t") (codes "a")) (Updates (codes "2")) ∷
    Settle [] ∷
    Session 3 9 Commit ∷
    Settle [] ∷
    []

conflict_with_the_last_writer_text : full conflict_with_the_last_writer ≡
    codes "1 1.1 state ONLINE" ∷
    codes "1 2.1 state ONLINE" ∷
    codes "1 3.1 state ONLINE" ∷
    codes "2 3.1 answer 9 begun -" ∷
    codes "3 3.1 answer 9 changed" ∷
    codes "4 1.1 answer o4 begun -" ∷
    codes "4 1.1 answer o4 changed" ∷
    codes "4 1.1 answer o4 sent 1.1#1" ∷
    codes "5 1.1 took 1 1.1#1 txn positive aaaaaaaa-aaaa-aaaa-aaaa-aaaaaaaaaaaa:1" ∷
    codes "5 1.1 committed aaaaaaaa-aaaa-aaaa-aaaa-aaaaaaaaaaaa:1" ∷
    codes "5 1.1 answer o4 committed aaaaaaaa-aaaa-aaaa-aaaa-aaaaaaaaaaaa:1" ∷
    codes "5 2.1 took 1 1.1#1 txn positive aaaaaaaa-aaaa-aaaa-aaaa-aaaaaaaaaaaa:1" ∷
    codes "5 3.1 took 1 1.1#1 txn positive aaaaaaaa-aaaa-aaaa-aaaa-aaaaaaaaaaaa:1" ∷
    codes "6 1.1 answer o6 begun aaaaaaaa-aaaa-aaaa-aaaa-aaaaaaaaaaaa:1" ∷
    codes "6 1.1 answer o6 changed" ∷
    codes "6 1.1 answer o6 sent 1.1#2" ∷
    codes "7 1.1 took 2 1.1#2 txn positive aaaaaaaa-aaaa-aaaa-aaaa-aaaaaaaaaaaa:2" ∷
    codes "7 1.1 committed aaaaaaaa-aaaa-aaaa-aaaa-aaaaaaaaaaaa:2" ∷
    codes "7 1.1 answer o6 committed aaaaaaaa-aaaa-aaaa-aaaa-aaaaaaaaaaaa:2" ∷
    codes "7 2.1 took 2 1.1#2 txn positive aaaaaaaa-aaaa-aaaa-aaaa-aaaaaaaaaaaa:2" ∷
    codes "7 3.1 took 2 1.1#2 txn positive aaaaaaaa-aaaa-aaaa-aaaa-aaaaaaaaaaaa:2" ∷
    codes "8 3.1 answer 9 sent 3.1#1" ∷
    codes "9 1.1 took 3 3.1#1 txn conflict aaaaaaaa-aaaa-aaaa-aaaa-aaaaaaaaaaaa:2" ∷
    codes "9 2.1 took 3 3.1#1 txn conflict aaaaaaaa-aaaa-aaaa-aaaa-aaaaaaaaaaaa:2" ∷
    codes "9 3.1 took 3 3.1#1 txn conflict aaaaaaaa-aaaa-aaaa-aaaa-aaaaaaaaaaaa:2" ∷
    codes "9 3.1 answer 9 conflict aaaaaaaa-aaaa-aaaa-aaaa-aaaaaaaaaaaa:2" ∷
    []
unfolding digits number number_of field word begins_number number_in elements next_inc next_gtid next_interval_after next_source_above next_set next_item_after next_kind next_change next_body next_txn next_mode next_part by_index full run apply plays move settle drain step found start call point settle_slots read turn node_step hear hear_prepare hear_accept hear_learn hear_promise hear_accepted propose_one own_value hear_offer campaign hear_alive tick take hear_welcome forget
conflict_with_the_last_writer_text = refl

-- an item is kept until all members have told its writer
abbrev kept_until_all_have_told : List Step
kept_until_all_have_told =
    Found group Multi 10 5 0 (1 ∷ 2 ∷ 3 ∷ []) ∷
    once 2 1 (item (codes "t") (codes "a")) (Inserts (codes "1")) ∷
    Settle [] ∷
    Operate 1 Tell ∷
    Settle [] ∷
    ShowCertifier 1 ∷
    []

kept_until_all_have_told_text : full kept_until_all_have_told ≡
    codes "1 1.1 state ONLINE" ∷
    codes "1 2.1 state ONLINE" ∷
    codes "1 3.1 state ONLINE" ∷
    codes "2 1.1 answer o2 begun -" ∷
    codes "2 1.1 answer o2 changed" ∷
    codes "2 1.1 answer o2 sent 1.1#1" ∷
    codes "3 1.1 took 1 1.1#1 txn positive aaaaaaaa-aaaa-aaaa-aaaa-aaaaaaaaaaaa:1" ∷
    codes "3 1.1 committed aaaaaaaa-aaaa-aaaa-aaaa-aaaaaaaaaaaa:1" ∷
    codes "3 1.1 answer o2 committed aaaaaaaa-aaaa-aaaa-aaaa-aaaaaaaaaaaa:1" ∷
    codes "3 2.1 took 1 1.1#1 txn positive aaaaaaaa-aaaa-aaaa-aaaa-aaaaaaaaaaaa:1" ∷
    codes "3 3.1 took 1 1.1#1 txn positive aaaaaaaa-aaaa-aaaa-aaaa-aaaaaaaaaaaa:1" ∷
    codes "4 1.1 reply sent 1.1#2" ∷
    codes "5 1.1 took 2 1.1#2 executed aaaaaaaa-aaaa-aaaa-aaaa-aaaaaaaaaaaa:1" ∷
    codes "5 2.1 took 2 1.1#2 executed aaaaaaaa-aaaa-aaaa-aaaa-aaaaaaaaaaaa:1" ∷
    codes "5 3.1 took 2 1.1#2 executed aaaaaaaa-aaaa-aaaa-aaaa-aaaaaaaaaaaa:1" ∷
    codes "6 1.1 item t a aaaaaaaa-aaaa-aaaa-aaaa-aaaaaaaaaaaa:1" ∷
    codes "6 1.1 items 1" ∷
    []
unfolding digits number number_of field word begins_number number_in elements next_inc next_gtid next_interval_after next_source_above next_set next_item_after next_kind next_change next_body next_txn next_mode next_part by_index full run apply plays move settle drain step found start call point settle_slots read turn node_step hear hear_prepare hear_accept hear_learn hear_promise hear_accepted propose_one own_value hear_offer campaign hear_alive tick take hear_welcome forget
kept_until_all_have_told_text = refl
