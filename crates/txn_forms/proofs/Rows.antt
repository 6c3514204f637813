-- Worked bodies: what is spelled, what is read, and where a fault stands.
use Rattle.std.proofs.Common.{◌≡◌, ℕ, zero, suc, true, List, [], ◌∷◌, ◌++◌, Some, None, refl}
use Rattle.byte_forms.specs.Numbers.{number, number_of}
use Rattle.byte_forms.specs.Reads.{Got, Fault, whole}
use Rattle.byte_forms.specs.Fields.{field, word, begins_number, number_in}
use Rattle.byte_forms.specs.Lists.{elements}
use Rattle.name_forms.specs.Incs.{next_inc}
use Rattle.name_forms.specs.Gtids.{next_gtid}
use Rattle.gtid_sets.specs.Spelling.{next_interval_after, next_source_above, next_set}
use Rattle.key_items.specs.Spelling.{next_item_after}
use Rattle.key_items.specs.declared.change.ChangeKind.TheVariants.{Insert, Delete}
use Rattle.txn_forms.specs.Changes.{next_kind, next_change}
use Rattle.txn_forms.specs.Bodies.{Body, body_bytes, next_body, next_txn, next_mode, next_part, read_body}
use Rattle.txn_forms.specs.declared.body.Body.TheVariants as body

-- the body Sync is the one byte 3
sync_bytes : body_bytes body.Sync ≡ 3 ∷ []
unfolding number
sync_bytes = refl

sync_is_read : read_body (3 ∷ []) ≡ Some body.Sync
unfolding next_body number_in field begins_number number_of
sync_is_read = refl

a_byte_behind : whole next_body (3 ∷ 0 ∷ []) ≡ Fault 1
unfolding next_body number_in field begins_number number_of
a_byte_behind = refl

-- a write set in which the key a stands behind b: the fault is at its byte, the last of 18
out_of_order : whole next_body (1 ∷ 0 ∷ 0 ∷ 0 ∷ 0 ∷ 0 ∷ 0 ∷ 0 ∷ 0 ∷ 2 ∷ 1 ∷ 116 ∷ 1 ∷ 98 ∷ 1 ∷ 116 ∷ 1 ∷ 97 ∷ []) ≡ Fault 1
unfolding next_body next_txn next_set elements next_item_after number_in field begins_number number_of
out_of_order = refl

-- two runs of one source, an item, and its insert and delete
txn : Body
txn = body.Txn (record {
  after = true;
  snapshot = record { source = uuid; first = 1; last = 3 } ∷ record { source = uuid; first = 7; last = 7 } ∷ [];
  items = record { table = 116 ∷ []; key = 97 ∷ [] } ∷ [];
  changes = record { item = record { table = 116 ∷ []; key = 97 ∷ [] }; what = Insert (49 ∷ []) } ∷ record { item = record { table = 116 ∷ []; key = 97 ∷ [] }; what = Delete } ∷ [];
})
  where
    uuid : List ℕ
    uuid = 1 ∷ 2 ∷ 3 ∷ 4 ∷ 5 ∷ 6 ∷ 7 ∷ 8 ∷ 9 ∷ 10 ∷ 11 ∷ 12 ∷ 13 ∷ 14 ∷ 15 ∷ 16 ∷ []

txn_is_read : read_body (body_bytes txn) ≡ Some txn
unfolding txn next_body next_txn next_set next_source_above next_interval_after elements next_item_after next_change next_kind number_in field begins_number number_of number word
txn_is_read = refl
