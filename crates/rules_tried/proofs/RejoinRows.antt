-- Worked rows, computed: the text of every line of each script.
use Rattle.std.proofs.Common.{◌≡◌, ℕ, true, false, Option, Some, None, List, [], ◌∷◌, refl}
use Rattle.std.specs.Prelude.{replicate, codes, ◌+◌}
use Rattle.std.specs.Fmt.{digits}
use Rattle.gr_ids.specs.declared.names.Inc.{Inc}
use Rattle.gr_ids.specs.declared.levels.Level.TheVariants.{Eventual, BeforeOnPrimaryFailover, Before, After, BeforeAndAfter}
use Rattle.gr_ids.specs.declared.levels.Mode.TheVariants.{Single, Multi}
use Rattle.key_items.specs.declared.item.Item.{Item}
use Rattle.key_items.specs.declared.change.ChangeKind.{ChangeKind}
use Rattle.key_items.specs.declared.change.ChangeKind.TheVariants.{Insert as Inserts, Update as Updates, Delete as Deletes}
use Rattle.group_rules.specs.declared.requests.Request.TheVariants.{Begin, Get, Insert, Update, Delete, Commit, Rollback}
use Rattle.group_rules.specs.declared.requests.Operator.TheVariants.{Campaign, Tell, Leave, SetPrimary, Single as SetSingle, Multi as SetMulti, AskDonor, DonorFailed}
use Rattle.group_rules.specs.declared.steps.Step.{Step}
use Rattle.group_rules.specs.declared.steps.Step.TheVariants.{Server, Block, Found, Session, Once, Operate, Deliver, Lose, Settle, Work, Drain, Tick, Start, Stop, Offline, ShowMembers, ShowSlots, ShowConfig, ShowGtids, ShowRows, ShowQueue, ShowCertifier, ShowKept, ShowWire}
use Rattle.group_rules.specs.World.{default_uuid, move}
use Rattle.group_rules.specs.Script.{apply, plays, settle, drain, run}
use Rattle.group_rules.specs.Texts.{full}
use Rattle.group_rules.specs.Calls.{call}
use Rattle.group_rules.specs.Points.{point}
use Rattle.group_rules.specs.Taking.{settle_slots}
use Rattle.group_rules.specs.Steps.{step, found, start}
use Rattle.uuid.specs.Text.{by_index}
use Rattle.byte_forms.specs.Numbers.{number, number_of}
use Rattle.byte_forms.specs.Fields.{field, word, begins_number, number_in}
use Rattle.byte_forms.specs.Lists.{elements}
use Rattle.name_forms.specs.Incs.{next_inc}
use Rattle.name_forms.specs.Gtids.{next_gtid}
use Rattle.gtid_sets.specs.Spelling.{next_interval_after, next_source_above, next_set}
use Rattle.key_items.specs.Spelling.{next_item_after}
use Rattle.txn_forms.specs.Changes.{next_kind, next_change}
use Rattle.txn_forms.specs.Bodies.{next_body, next_txn, next_mode, next_part}
use Rattle.slot_values.specs.Log.{read, turn}
use Rattle.node_rules.specs.Voting.{hear_prepare, hear_accept}
use Rattle.node_rules.specs.Learning.{hear_learn, hear_accepted, hear_alive}
use Rattle.node_rules.specs.Proposing.{hear_promise, propose_one, own_value, hear_offer, campaign}
use Rattle.node_rules.specs.Welcoming.{hear_welcome}
use Rattle.node_rules.specs.Ticks.{tick}
use Rattle.node_rules.specs.Taking.{take, forget}
use Rattle.node_rules.specs.Step.{hear, node_step}

abbrev inc : ℕ → ℕ → Inc
inc s n = record { server = s; start = n }

abbrev item : List ℕ → List ℕ → Item
item t k = record { table = t; key = k }

abbrev group : List ℕ
group = replicate 16 0xaa

-- the session of a transaction of one statement on the line n
abbrev once : ℕ → ℕ → Item → ChangeKind → Step
once n s i k = Once s (1_000_000_000 + n) (record { item = i; what = k })

-- rejoin-with-gap
abbrev rejoin_with_gap : List Step
rejoin_with_gap =
    Found group Multi 10 5 0 (1 ∷ 2 ∷ 3 ∷ []) ∷
    once 2 1 (item (codes "t") (codes "a")) (Inserts (codes "1")) ∷
    Settle [] ∷
    Work 2 None ∷
    once 5 1 (item (codes "t") (codes "b")) (Inserts (codes "1")) ∷
    Settle [] ∷
    once 7 2 (item (codes "t") (codes "c")) (Inserts (codes "1")) ∷
    Settle [] ∷
    Stop 2 ∷
    Tick 1 6 ∷
    Tick 3 1 ∷
    Settle [] ∷
    Tick 1 4 ∷
    Settle [] ∷
    Start 2 1 ∷
    Settle [] ∷
    Operate 2 (AskDonor (inc 3 1)) ∷
    Settle [] ∷
    Work 2 None ∷
    Settle [] ∷
    ShowGtids 2 ∷
    Server 4 (default_uuid 4) (8 ∷ 0 ∷ 36 ∷ []) 50 ∷
    Offline 4 (item (codes "t") (codes "z")) (codes "9") ∷
    Start 4 1 ∷
    Settle [] ∷
    Operate 4 (AskDonor (inc 1 1)) ∷
    Settle [] ∷
    []

rejoin_with_gap_text : full rejoin_with_gap ≡
    codes "1 1.1 state ONLINE" ∷
    codes "1 2.1 state ONLINE" ∷
    codes "1 3.1 state ONLINE" ∷
    codes "2 1.1 answer o2 begun -" ∷
    codes "2 1.1 answer o2 changed" ∷
    codes "2 1.1 answer o2 sent 1.1#1" ∷
    codes "3 1.1 took 1 1.1#1 txn positive aaaaaaaa-aaaa-aaaa-aaaa-aaaaaaaaaaaa:1" ∷
    codes "3 1.1 committed aaaaaaaa-aaaa-aaaa-aaaa-aaaaaaaaaaaa:1" ∷
    codes "3 1.1 answer o2 committed aaaaaaaa-aaaa-aaaa-aaaa-aaaaaaaaaaaa:1" ∷
    codes "3 2.1 took 1 1.1#1 txn positive aaaaaaaa-aaaa-aaaa-aaaa-aaaaaaaaaaaa:1" ∷
    codes "3 3.1 took 1 1.1#1 txn positive aaaaaaaa-aaaa-aaaa-aaaa-aaaaaaaaaaaa:1" ∷
    codes "4 2.1 done 1" ∷
    codes "4 2.1 committed aaaaaaaa-aaaa-aaaa-aaaa-aaaaaaaaaaaa:1" ∷
    codes "5 1.1 answer o5 begun aaaaaaaa-aaaa-aaaa-aaaa-aaaaaaaaaaaa:1" ∷
    codes "5 1.1 answer o5 changed" ∷
    codes "5 1.1 answer o5 sent 1.1#2" ∷
    codes "6 1.1 took 2 1.1#2 txn positive aaaaaaaa-aaaa-aaaa-aaaa-aaaaaaaaaaaa:2" ∷
    codes "6 1.1 committed aaaaaaaa-aaaa-aaaa-aaaa-aaaaaaaaaaaa:2" ∷
    codes "6 1.1 answer o5 committed aaaaaaaa-aaaa-aaaa-aaaa-aaaaaaaaaaaa:2" ∷
    codes "6 2.1 took 2 1.1#2 txn positive aaaaaaaa-aaaa-aaaa-aaaa-aaaaaaaaaaaa:2" ∷
    codes "6 3.1 took 2 1.1#2 txn positive aaaaaaaa-aaaa-aaaa-aaaa-aaaaaaaaaaaa:2" ∷
    codes "7 2.1 answer o7 begun aaaaaaaa-aaaa-aaaa-aaaa-aaaaaaaaaaaa:1" ∷
    codes "7 2.1 answer o7 changed" ∷
    codes "7 2.1 answer o7 sent 2.1#1" ∷
    codes "8 1.1 took 3 2.1#1 txn positive aaaaaaaa-aaaa-aaaa-aaaa-aaaaaaaaaaaa:3" ∷
    codes "8 2.1 took 3 2.1#1 txn positive aaaaaaaa-aaaa-aaaa-aaaa-aaaaaaaaaaaa:3" ∷
    codes "8 2.1 committed aaaaaaaa-aaaa-aaaa-aaaa-aaaaaaaaaaaa:3" ∷
    codes "8 2.1 answer o7 committed aaaaaaaa-aaaa-aaaa-aaaa-aaaaaaaaaaaa:3" ∷
    codes "8 3.1 took 3 2.1#1 txn positive aaaaaaaa-aaaa-aaaa-aaaa-aaaaaaaaaaaa:3" ∷
    codes "9 ok" ∷
    codes "10 ok" ∷
    codes "11 ok" ∷
    codes "12 ok" ∷
    codes "13 ok" ∷
    codes "14 1.1 took 4 1.1#3 remove 2.1" ∷
    codes "14 3.1 took 4 1.1#3 remove 2.1" ∷
    codes "15 2.2 state OFFLINE" ∷
    codes "16 1.1 took 5 1.1#4 add 2.2" ∷
    codes "16 2.2 state RECOVERING" ∷
    codes "16 3.1 took 5 1.1#4 add 2.2" ∷
    codes "17 2.2 reply asked 3.1" ∷
    codes "18 2.2 given 5 1" ∷
    codes "19 2.2 done 2" ∷
    codes "19 2.2 committed aaaaaaaa-aaaa-aaaa-aaaa-aaaaaaaaaaaa:2" ∷
    codes "20 1.1 took 6 2.2#1 online aaaaaaaa-aaaa-aaaa-aaaa-aaaaaaaaaaaa:1-3" ∷
    codes "20 2.2 took 6 2.2#1 online aaaaaaaa-aaaa-aaaa-aaaa-aaaaaaaaaaaa:1-3" ∷
    codes "20 2.2 state ONLINE" ∷
    codes "20 3.1 took 6 2.2#1 online aaaaaaaa-aaaa-aaaa-aaaa-aaaaaaaaaaaa:1-3" ∷
    codes "21 2.2 gtids aaaaaaaa-aaaa-aaaa-aaaa-aaaaaaaaaaaa:1-3" ∷
    codes "22 ok" ∷
    codes "23 offline 00000000-0000-0000-0000-000000000004:1" ∷
    codes "24 4.1 state OFFLINE" ∷
    codes "25 1.1 took 7 1.1#5 add 4.1" ∷
    codes "25 2.2 took 7 1.1#5 add 4.1" ∷
    codes "25 3.1 took 7 1.1#5 add 4.1" ∷
    codes "25 4.1 state RECOVERING" ∷
    codes "26 4.1 reply asked 1.1" ∷
    codes "27 4.1 given 7 3" ∷
    codes "27 4.1 state ERROR extra 00000000-0000-0000-0000-000000000004:1" ∷
    []
unfolding digits number number_of field word begins_number number_in elements next_inc next_gtid next_interval_after next_source_above next_set next_item_after next_kind next_change next_body next_txn next_mode next_part by_index full run apply plays move settle drain step found start call point settle_slots read turn node_step hear hear_prepare hear_accept hear_learn hear_promise hear_accepted propose_one own_value hear_offer campaign hear_alive tick take hear_welcome forget
rejoin_with_gap_text = refl
