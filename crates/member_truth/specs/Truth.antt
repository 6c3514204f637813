-- What is true of the history of a member in every run of the group, beyond what the member tests itself: the messages that it takes come from members that
-- keep the same rules.
use Rattle.std.specs.Prelude.{◌≡◌, ◌<◌, ◌≤◌, suc, true, false, List, [], ◌∷◌}
use Rattle.gr_ids.specs.declared.names.Inc.{Inc}
use Rattle.gr_ids.specs.declared.names.Gtid.{Gtid}
use Rattle.gr_ids.specs.Names.{gtid_eq, has_inc, inc_eq}
use Rattle.gtid_sets.specs.Canonical.{IsNumber, IsUuid}
use Rattle.gtid_sets.specs.Sets.{has}
use Rattle.key_items.specs.declared.change.Change.{Change}
use Rattle.key_items.specs.Items.{item_eq}
use Rattle.node_rules.specs.Lists.{In}
use Rattle.slot_values.specs.declared.value.Joiner.{Joiner}
use Rattle.slot_values.specs.declared.value.What.TheVariants.{Add}
use Rattle.group_rules.specs.declared.marks.Effect.TheVariants.{Plain}
use Rattle.group_rules.specs.Events.{Did, Took, Committed, Restores, Life, Setup, Entry, Cert}
use Rattle.group_rules.specs.Life.{certs, cert_of, executed, last_made, stored, taken}
use Rattle.group_rules.specs.Commit.{has_prepared, required}
use Rattle.group_rules.specs.Queue.{is_own}
use Rattle.group_rules.specs.Rows.{known}

-- Nobody has its GTID, nobody has prepared it.
pub record IsNew (l : Life) (c : Cert) : Type 0 where
  pub unexecuted : has (executed l) c.gtid ≡ false
  pub unknown : (d : Cert) → In d (known l) → gtid_eq d.gtid c.gtid ≡ false
  pub unprepared : (m : Inc) → has_prepared l m c.gtid ≡ false

-- An entry is taken: it has the next place, what it certifies is new, with a GTID in its range, an incarnation that it adds was required by nothing before, and an
-- own value was made.
pub record IsTrueEntry (s : Setup) (me : Inc) (l : Life) (e : Entry) : Type 0 where
  pub next : e.place ≡ suc (taken l)
  pub certified : (c : Cert) → In c (cert_of e) → IsNew l c
  pub numbers : (c : Cert) → In c (cert_of e) → IsUuid c.gtid.source × IsNumber c.gtid.number
  pub joins : (j : Joiner) → e.value.what ≡ Add j → e.effect ≡ Plain → (c : Cert) → In c (certs l) → has_inc (required s l c) j.inc ≡ false
  pub made : inc_eq e.value.id.origin me ≡ true → e.value.id.number ≤ last_made l

-- no change of the one changes a row that the other changes
abbrev pub AreApart : List Change → List Change → Type 0
AreApart xs ys = (x y : Change) → In x xs → In y ys → item_eq x.item y.item ≡ false

-- A transaction is committed: those behind it that are committed already share no row with it, and no row was written while the server didn't run.
pub record IsInOrder (l : Life) (g : Gtid) : Type 0 where
  pub ahead : (c d : Cert) → In c (known l) → In d (known l) → gtid_eq c.gtid g ≡ true → has (executed l) d.gtid ≡ true → c.place < d.place
      → AreApart c.txn.changes d.txn.changes
  pub unwritten : (stored l).writes ≡ []

-- each has a place above those before it
abbrev pub Rise : List Cert → Type 0
Rise [] = Unit {0}
Rise (c ∷ cs) = ((d : Cert) → In d cs → c.place < d.place) × Rise cs

-- no two have one GTID
abbrev pub AreDistinct : List Cert → Type 0
AreDistinct [] = Unit {0}
AreDistinct (c ∷ cs) = ((d : Cert) → In d cs → gtid_eq d.gtid c.gtid ≡ false) × AreDistinct cs

-- A Give is taken up: it is the first one, and its transactions are new, by ascending place, of others, and not above the place of the joiner's Add.
pub record IsTrueGive (me : Inc) (l : Life) (cs : List Cert) : Type 0 where
  pub first : certs l ≡ []
  pub rise : Rise cs
  pub distinct : AreDistinct cs
  pub given : (c : Cert) → In c cs → IsNew l c
  pub others : (c : Cert) → In c cs → is_own me c ≡ false
  pub numbers : (c : Cert) → In c cs → IsUuid c.gtid.source × IsNumber c.gtid.number
  pub places : (c : Cert) → In c cs → c.place ≤ taken l

abbrev pub IsTrueDid : Setup → Inc → Did → Life → Type 0
IsTrueDid s me (Took e) l = IsTrueEntry s me l e
IsTrueDid s me (Committed g) l = IsInOrder l g
IsTrueDid s me (Restores g cs) l = IsTrueGive me l cs
IsTrueDid s me d l = Unit {0}

-- Each thing that happened is true of what was before it, and then the certified transactions that it knows stand by place, each once.
abbrev pub IsTrue : Setup → Inc → Life → Type 0
IsTrue s me [] = Unit {0}
IsTrue s me (d ∷ l) = IsTrueDid s me d l × IsTrue s me l × Rise (known (d ∷ l))
