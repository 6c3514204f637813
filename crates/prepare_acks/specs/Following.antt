-- How those who are awaited stand for a history; and so two sets of GTIDs of AFTER transactions: those that require this member, and those for which
-- it sent a Prepared entry.
use Rattle.std.specs.Prelude.{◌≡◌, ◌≤◌, ◌<◌, Bool, true, false, ◌&&◌, ◌||◌, not, Option, Some, List, [], ◌∷◌, filter, if◌then◌else◌}
use Rattle.gr_ids.specs.declared.names.Inc.{Inc}
use Rattle.gr_ids.specs.declared.names.Gtid.{Gtid}
use Rattle.gr_ids.specs.Names.{inc_eq, has_inc, gtid_eq}
use Rattle.gtid_sets.specs.Canonical.{IsCanonical, IsNumber, IsUuid}
use Rattle.gtid_sets.specs.Sets.{Gtids, has, with_gtid}
use Rattle.slot_values.specs.declared.value.Joiner.{Joiner}
use Rattle.slot_values.specs.declared.value.What.{What}
use Rattle.slot_values.specs.declared.value.What.TheVariants.{Add, Remove}
use Rattle.txn_forms.specs.declared.body.Body.{Body}
use Rattle.txn_forms.specs.declared.body.Body.TheVariants.{Prepared}
use Rattle.node_rules.specs.Lists.{In}
use Rattle.group_rules.specs.declared.marks.Effect.{Effect}
use Rattle.group_rules.specs.declared.marks.Effect.TheVariants.{Plain}
use Rattle.group_rules.specs.View.{View, is_seated, online_incs}
use Rattle.group_rules.specs.Events.{Cert, Did, Enters, Entry, Founds, Life, Made, Restores, Setup, Took}
use Rattle.group_rules.specs.Life.{cert_of, certs, taken, view}
use Rattle.group_rules.specs.Commit.{has_prepared, has_sent_prepared, required}
use Rattle.prepare_acks.specs.Awaited.{Waiting, awaited, left_by, prepared_by, requiring}

-- ---- who is awaited by the rules

-- those that it requires, but for its origin, those that have prepared it, and those that are members no more
abbrev pub awaited_by : Setup → Life → Cert → List Inc
awaited_by s l c = filter (λ m. not (inc_eq m c.id.origin || (has_prepared l m c.gtid || not (is_seated (view s l) m)))) (required s l c)

-- no certified transaction has a place above the last one taken
abbrev pub ArePlaced : Life → Type 0
ArePlaced l = (c : Cert) → In c (certs l) → c.place ≤ taken l

-- no certified AFTER transaction has this GTID
abbrev pub HasNone : Life → Gtid → Type 0
HasNone l g = (c : Cert) → In c (certs l) → c.txn.after ≡ true → gtid_eq c.gtid g ≡ false

-- who is awaited for each certified AFTER transaction is awaited by the rules, and nobody is awaited for any other GTID
pub record AwaitedOf (s : Setup) (l : Life) (xs : List Waiting) : Type 0 where
  pub placed : ArePlaced l
  pub each : (c : Cert) → In c (certs l) → c.txn.after ≡ true → awaited xs c.gtid ≡ awaited_by s l c
  pub none : (g : Gtid) → HasNone l g → awaited xs g ≡ []

-- ---- what an entry does

abbrev pub with_cert : List Cert → List Inc → (Gtid → List Inc) → Gtid → List Inc
with_cert [] online was = was
with_cert (c ∷ cs) online was = if c.txn.after then requiring c.gtid c.id.origin online was else was

abbrev pub with_prepared : Option Body → Inc → (Gtid → List Inc) → Gtid → List Inc
with_prepared (Some (Prepared g)) i was = prepared_by g i was
with_prepared b i was = was

abbrev pub with_removed : Effect → What → (Gtid → List Inc) → Gtid → List Inc
with_removed Plain (Remove i) was = left_by i was
with_removed f w was = was

-- after an entry that is taken, by the view after it: a certified AFTER transaction requires the members that are ONLINE, a Prepared entry
-- acknowledges, and for one who is removed nothing waits
abbrev pub acks_after : View → Entry → (Gtid → List Inc) → Gtid → List Inc
acks_after v e was = with_removed e.effect e.value.what (with_prepared e.holds e.value.id.origin (with_cert (cert_of e) (online_incs v) was))

-- ---- what is asked of an entry

-- its place is above those taken, and an AFTER transaction has a GTID of its own
pub record IsNew (l : Life) (e : Entry) : Type 0 where
  pub place : taken l < e.place
  pub gtid : (c : Cert) → In c (cert_of e) → c.txn.after ≡ true → HasNone l c.gtid

-- nobody has prepared an AFTER transaction before it is taken
abbrev pub IsUnprepared : Life → Entry → Type 0
IsUnprepared l e = (c : Cert) (m : Inc) → In c (cert_of e) → c.txn.after ≡ true → has_prepared l m c.gtid ≡ false

-- one who joins was required by none
abbrev pub IsOfNewcomer : Setup → Life → Entry → Type 0
IsOfNewcomer s l e = (j : Joiner) (c : Cert) → e.value.what ≡ Add j → e.effect ≡ Plain → In c (certs l) → c.txn.after ≡ true → has_inc (required s l c) j.inc ≡ false

abbrev pub IsGtid : Gtid → Type 0
IsGtid g = IsUuid g.source × IsNumber g.number

-- the founding, a Welcome, a Give and an entry change who is required or awaited
abbrev pub is_of_acks : Did → Bool
is_of_acks Founds = true
is_of_acks (Enters w) = true
is_of_acks (Restores g cs) = true
is_of_acks (Took e) = true
is_of_acks d = false

abbrev pub is_entry : Did → Bool
is_entry (Took e) = true
is_entry d = false

-- ---- the AFTER transactions that require this member

-- of the certified AFTER transactions the set has those that require it, and it has no other GTID
pub record RequiredOf (s : Setup) (me : Inc) (l : Life) (set : Gtids) : Type 0 where
  pub placed : ArePlaced l
  pub canonical : IsCanonical set
  pub each : (c : Cert) → In c (certs l) → c.txn.after ≡ true → has set c.gtid ≡ has_inc (required s l c) me
  pub none : (g : Gtid) → HasNone l g → has set g ≡ false

-- after an entry: an AFTER transaction requires this member where it is among those that are ONLINE
abbrev pub with_required : Inc → List Inc → List Cert → Gtids → Gtids
with_required me online [] set = set
with_required me online (c ∷ cs) set = if c.txn.after && has_inc online me then with_gtid set c.gtid else set

-- ---- the Prepared entries that it sent

pub record SentOf (l : Life) (set : Gtids) : Type 0 where
  pub canonical : IsCanonical set
  pub each : (g : Gtid) → has set g ≡ has_sent_prepared l g

-- after an own value is made that holds this
abbrev pub with_sent : Option Body → Gtids → Gtids
with_sent (Some (Prepared g)) set = with_gtid set g
with_sent b set = set

abbrev pub is_making : Did → Bool
is_making (Made v x) = true
is_making d = false
