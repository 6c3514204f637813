-- What an entry does to the parts of a member, by what is answered of it.
use Rattle.std.specs.Prelude.{◌≡◌, ℕ, Some, List, [], ◌∷◌, fold}
use Rattle.gr_ids.specs.declared.names.Gtid.{Gtid}
use Rattle.gr_ids.specs.declared.names.Inc.{Inc}
use Rattle.gr_ids.specs.declared.names.ValueId.{ValueId}
use Rattle.gtid_sets.specs.Canonical.{IsUuid}
use Rattle.gtid_sets.specs.Sets.{Gtids}
use Rattle.paxos_forms.specs.declared.recovery.Given.{Given}
use Rattle.txn_forms.specs.Bodies.{body_bytes, read_body}
use Rattle.txn_forms.specs.declared.body.Body.TheVariants as body
use Rattle.group_rules.specs.declared.marks.Effect.{Effect}
use Rattle.group_rules.specs.declared.marks.Effect.TheVariants.{Positive}
use Rattle.group_rules.specs.Events.{Cert}
use Rattle.donor_recovery.specs.Donating.{Donating, with_given}
use Rattle.list_state.specs.declared.held.Held.{Held}
use Rattle.list_state.specs.declared.held.Held.TheVariants.{Txn, Other}
use Rattle.member_backlog.specs.declared.uncommitted.Uncommitted.{Uncommitted}
use Rattle.member_backlog.specs.Waiting.{with_certified}
use Rattle.prepare_acks.specs.Awaited.{prepared_by}

-- a certified transaction is kept, with its bytes
abbrev pub given_by : ℕ → Inc → Effect → Held → Donating → Donating
given_by p m (Positive g) (Txn t b) d = record d { certified = with_given d.certified (record { place = p; origin = m; gtid = g; body = b }) }
given_by p m f h d = d

-- transactions that a Give brought, one after another
abbrev pub with_all : List Given → List Given → List Given
with_all gs xs = fold with_given gs xs

-- transactions that were committed before, the last one first
abbrev pub all_back : List Given → List Given → List Given
all_back gs [] = gs
all_back gs (x ∷ xs) = with_given (all_back gs xs) x

-- a certified transaction waits to be committed, unless it is so already
abbrev pub waiting_by : Gtids → ℕ → ValueId → Effect → Held → List Uncommitted → List Uncommitted
waiting_by e p i (Positive g) (Txn t b) us = with_certified e us (record { place = p; id = i; gtid = g; after = t.after })
waiting_by e p i f h us = us

-- the transaction that is certified
abbrev pub cert_held : ℕ → ValueId → Effect → Held → List Cert
cert_held p i (Positive g) (Txn t b) = record { place = p; id = i; gtid = g; txn = t } ∷ []
cert_held p i f h = []

-- a transaction is held with its bytes, which are read as it
abbrev pub IsSpelt : Held → Type 0
IsSpelt (Txn t b) = (b ≡ body_bytes (body.Txn t)) × (read_body b ≡ Some (body.Txn t))
IsSpelt h = Unit {0}

-- the GTID that is given has a UUID
abbrev pub HasUuid : Effect → Type 0
HasUuid (Positive g) = IsUuid g.source
HasUuid e = Unit {0}

-- a Prepared entry of this member acknowledges a transaction
abbrev pub acknowledged_by : Inc → Held → (Gtid → List Inc) → Gtid → List Inc
acknowledged_by i (Other (body.Prepared g)) was = prepared_by g i was
acknowledged_by i h was = was
