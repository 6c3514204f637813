-- Asks and Gives as bytes.
use Rattle.std.specs.Prelude.{◌≡◌, ℕ, suc, ◌+◌, ◌-◌, ◌*◌, ◌≤◌, ◌<◌, Option, Some, None, List, [], ◌∷◌, ◌++◌, length}
use Rattle.std.specs.List.{AllByRecursion}
use Rattle.byte_forms.specs.Numbers.{number}
use Rattle.byte_forms.specs.Reads.{Reader, ◌>>=◌, pure}
use Rattle.byte_forms.specs.Fields.{number_in}
use Rattle.byte_forms.specs.Lists.{several, counted, list_of, bytes_in, IsChain}
use Rattle.gr_ids.specs.declared.names.Inc.{Inc}
use Rattle.gr_ids.specs.declared.names.LastNumber.{LastNumber}
use Rattle.name_forms.specs.Incs.{IsInc, IsIncAfter, inc_bytes, next_inc, next_inc_after}
use Rattle.name_forms.specs.Gtids.{IsGtid, gtid_bytes, next_gtid}
use Rattle.name_forms.specs.Ids.{last_u64}
use Rattle.name_forms.specs.OpenParts.{OpenParts, IsOpenAfter, inc_of_parts, part_size, most_parts}
use Rattle.gtid_sets.specs.Canonical.{IsCanonical}
use Rattle.gtid_sets.specs.Spelling.{set_bytes, next_set, HasCounts}
use Rattle.gtid_sets.specs.declared.told.ToldSet.{ToldSet}
use Rattle.key_items.specs.declared.item.Item.{Item}
use Rattle.key_items.specs.declared.item.KeptItem.{KeptItem}
use Rattle.key_items.specs.Spelling.{IsItemAfter, AreBytes, item_bytes, next_item_after}
use Rattle.slot_values.specs.Slots.{last_slot}
use Rattle.slot_values.specs.Spelling.{last_u32}
pub use Rattle.paxos_forms.specs.declared.recovery.Ask.{Ask}
pub use Rattle.paxos_forms.specs.declared.recovery.Given.{Given}
pub use Rattle.paxos_forms.specs.declared.recovery.Give.{Give}

-- ---- an Ask: the place, and the executed set

pub record IsAsk (a : Ask) : Type 0 where
  pub place_above : 1 ≤ a.place
  pub place_below : a.place ≤ last_slot
  pub executed : IsCanonical a.executed

abbrev pub ask_bytes : Ask → List ℕ
ask_bytes a = number 8 a.place ++ set_bytes a.executed

unfoldable pub next_ask : Reader Ask
next_ask = do
  place ← number_in 8 1 last_slot
  executed ← next_set
  pure (record { place = place; executed = executed })

-- ---- last numbers, strictly ascending by incarnation

abbrev pub inc_of_last : Option LastNumber → Option Inc
inc_of_last None = None
inc_of_last (Some b) = Some b.inc

pub record IsLastAfter (before : Option LastNumber) (x : LastNumber) : Type 0 where
  pub inc : IsIncAfter (inc_of_last before) x.inc
  pub small : x.number ≤ last_u64

abbrev pub last_bytes : LastNumber → List ℕ
last_bytes x = inc_bytes x.inc ++ number 8 x.number

unfoldable pub next_last_after : Option LastNumber → Reader LastNumber
next_last_after before = do
  inc ← next_inc_after (inc_of_last before)
  n ← number_in 8 0 last_u64
  pure (record { inc = inc; number = n })

-- ---- kept items, strictly ascending by item, each with its writer's GTID and place, at most the Give's

abbrev pub item_of_kept : Option KeptItem → Option Item
item_of_kept None = None
item_of_kept (Some b) = Some b.item

pub record IsKeptAfter (place : ℕ) (before : Option KeptItem) (x : KeptItem) : Type 0 where
  pub item : IsItemAfter (item_of_kept before) x.item
  pub gtid : IsGtid x.gtid
  pub place_above : 1 ≤ x.place
  pub place_below : x.place ≤ place

abbrev pub kept_bytes : KeptItem → List ℕ
kept_bytes x = item_bytes x.item ++ (gtid_bytes x.gtid ++ number 8 x.place)

unfoldable pub next_kept_after : ℕ → Option KeptItem → Reader KeptItem
next_kept_after place before = do
  item ← next_item_after (item_of_kept before)
  gtid ← next_gtid
  writer ← number_in 8 1 place
  pure (record { item = item; gtid = gtid; place = writer })

-- ---- told sets, strictly ascending by incarnation

abbrev pub inc_of_told : Option ToldSet → Option Inc
inc_of_told None = None
inc_of_told (Some b) = Some b.inc

pub record IsToldAfter (before : Option ToldSet) (x : ToldSet) : Type 0 where
  pub inc : IsIncAfter (inc_of_told before) x.inc
  pub set : IsCanonical x.set

abbrev pub told_bytes : ToldSet → List ℕ
told_bytes x = inc_bytes x.inc ++ set_bytes x.set

unfoldable pub next_told_after : Option ToldSet → Reader ToldSet
next_told_after before = do
  inc ← next_inc_after (inc_of_told before)
  set ← next_set
  pure (record { inc = inc; set = set })

-- ---- transactions, strictly ascending by place, at most the Give's: place, origin, GTID, and the body's bytes

abbrev pub place_above : Option Given → ℕ
place_above None = 1
place_above (Some b) = suc b.place

pub record IsGivenAfter (place : ℕ) (before : Option Given) (x : Given) : Type 0 where
  pub above : place_above before ≤ x.place
  pub below : x.place ≤ place
  pub origin : IsInc x.origin
  pub gtid : IsGtid x.gtid
  pub body : length x.body ≤ last_u32

abbrev pub given_bytes : Given → List ℕ
given_bytes x = number 8 x.place ++ (inc_bytes x.origin ++ (gtid_bytes x.gtid ++ counted x.body))

unfoldable pub next_given_after : ℕ → Option Given → Reader Given
next_given_after place before = do
  at ← number_in 8 (place_above before) place
  origin ← next_inc
  gtid ← next_gtid
  bytes ← bytes_in 0 last_u32
  pure (record { place = at; origin = origin; gtid = gtid; body = bytes })

-- ---- open parts, strictly ascending by origin: how many there are, how many of them are held, and their bytes

abbrev pub parts_bytes : OpenParts → List ℕ
parts_bytes x = inc_bytes x.origin ++ (number 4 x.count ++ (number 4 x.held ++ counted x.bytes))

unfoldable pub next_parts_after : Option OpenParts → Reader OpenParts
next_parts_after before = do
  origin ← next_inc_after (inc_of_parts before)
  count ← number_in 4 2 most_parts
  held ← number_in 4 1 (count - 1)
  bytes ← bytes_in (part_size * held) (part_size * held)
  pure (record { origin = origin; count = count; held = held; bytes = bytes })

-- ---- a Give: the place, the blocks taken, at most the place, the last numbers, the kept items, the told sets, the GTIDs of all certified
-- transactions, those that the joiner lacks, and the open parts

pub record IsGive (g : Give) : Type 0 where
  pub place_above : 1 ≤ g.place
  pub place_below : g.place ≤ last_slot
  pub blocks : g.blocks ≤ g.place
  pub last : IsChain IsLastAfter None g.last
  pub few_last : length g.last ≤ last_u32
  pub items : IsChain (IsKeptAfter g.place) None g.items
  pub few_items : length g.items ≤ last_u32
  pub told : IsChain IsToldAfter None g.told
  pub few_told : length g.told ≤ last_u32
  pub certified : IsCanonical g.certified
  pub txns : IsChain (IsGivenAfter g.place) None g.txns
  pub few_txns : length g.txns ≤ last_u32
  pub parts : IsChain IsOpenAfter None g.parts
  pub few_parts : length g.parts ≤ last_u32

abbrev pub give_bytes : Give → List ℕ
give_bytes g =
    number 8 g.place
    ++ (number 8 g.blocks
    ++ (several last_bytes g.last
    ++ (several kept_bytes g.items
    ++ (several told_bytes g.told
    ++ (set_bytes g.certified
    ++ (several given_bytes g.txns
    ++ several parts_bytes g.parts))))))

unfoldable pub next_give : Reader Give
next_give = do
  place ← number_in 8 1 last_slot
  blocks ← number_in 8 0 place
  last ← list_of 0 next_last_after
  items ← list_of 0 (next_kept_after place)
  told ← list_of 0 next_told_after
  certified ← next_set
  txns ← list_of 0 (next_given_after place)
  parts ← list_of 0 next_parts_after
  pure (record { place = place; blocks = blocks; last = last; items = items; told = told; certified = certified; txns = txns; parts = parts })

-- ---- what memory holds: bytes below 256, and sets whose counts fit four bytes

pub record IsHeldGive (g : Give) : Type 0 where
  pub items : AllByRecursion (λ x. AreBytes x.item) g.items
  pub told : AllByRecursion (λ x. HasCounts x.set) g.told
  pub certified : HasCounts g.certified
