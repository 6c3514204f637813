-- A run of the whole group, newest first, and its one ordered list.
use Rattle.std.specs.Prelude.{◌≡◌, ℕ, suc, ◌<◌, Bool, true, false, cond, ◌&&◌, ◌||◌, List, [], ◌∷◌, Option, Some, None, ◌==◌}
use Rattle.group_rules.specs.Events.{Setup}
use Rattle.group_laws.specs.Lists.{IsPast, newest}
use Rattle.group_laws.specs.Names.{Inc, inc_eq, bytes_eq, Gtid, gtid_eq, has, Item}
use Rattle.group_laws.specs.Entries.{Value, Cert, certified, as_made}
use Rattle.group_laws.specs.Table.{Rows, no_rows, put, applied}
use Rattle.group_laws.specs.View.{member, last_kept}
use Rattle.group_laws.specs.Life.{Did, Started, Given, Made, Took, Committed, Life, marked, taken, founder}
use Rattle.group_laws.specs.Lawful.{LawfulDid}

pub data Happening : Type 0 where
  Does : (who : Inc) (did : Did) → Happening
  Writes : (server : ℕ) (gtid : Gtid) (item : Item) (row : List ℕ) → Happening  -- an offline write

abbrev pub World : Type 0
World = List Happening

-- the life of one incarnation
abbrev pub life : World → Inc → Life
life [] m = []
life (Does i d ∷ w) m = cond (inc_eq i m) (d ∷ life w m) (life w m)
life (Writes s g i x ∷ w) m = life w m

abbrev pub adds : Did → Gtid → Bool
adds (Committed g) h = gtid_eq g h
adds _ h = false

-- what a server has: all that its incarnations committed, and its offline writes
abbrev pub owned : World → ℕ → Gtid → Bool
owned [] s g = false
owned (Does i d ∷ w) s g = ((i.server == s) && adds d g) || owned w s g
owned (Writes t h i x ∷ w) s g = ((t == s) && gtid_eq h g) || owned w s g

-- each incarnation keeps the rules of a member
abbrev pub Lawful : Setup → World → Type 0
Lawful r [] = Unit {0}
Lawful r (Does i d ∷ w) = LawfulDid r i (life w i) d × Lawful r w
Lawful r (Writes s g i x ∷ w) = Lawful r w

-- its origin made it, and this had happened before; whether an Add or a Remove has effect is known at its place alone
abbrev pub MadeAt : World → Value → World → Type 0
MadeAt w v past = IsPast (Does v.origin (Made (as_made v)) ∷ past) w

abbrev pub MadeBy : World → Value → Type 0
MadeBy w v = (past : World) × MadeAt w v past

-- what an incarnation's mark asks of the others; `k` is the one list
abbrev pub JointDid : List Value → World → Inc → Did → Type 0
-- the executed set that its server has
JointDid k w m (Started s) = (g : Gtid) → has s g ≡ owned w m.server g
-- a Give tells what its donor had taken, up to the Add
JointDid k w m (Given base) = (donor : Inc) × IsPast base (marked (life w donor))
-- the next entry of the list, which its origin made before
JointDid k w m (Took e) = IsPast (e.value ∷ taken (life w m)) k × MadeBy w e.value
JointDid k w m _ = Unit {0}

abbrev pub Joint : Setup → List Value → World → Type 0
Joint r k [] = Unit {0}
Joint r k (Does i d ∷ w) = JointDid k w i d × Joint r k w
-- an offline write has a GTID of the server's own
Joint r k (Writes s g i x ∷ w) = (bytes_eq g.source r.limits.group ≡ false) × Joint r k w

-- the incarnation is its server's last, and nothing was written offline since
abbrev pub runs : Setup → World → Inc → Bool
runs r [] m = founder r m
runs r (Does i d ∷ w) m = cond ((i.server == m.server)) (inc_eq i m) (runs r w m)
runs r (Writes s g i x ∷ w) m = cond ((s == m.server)) false (runs r w m)

abbrev pub AliveDid : Setup → World → Inc → Did → Type 0
AliveDid r w m (Started s) = Unit {0}
AliveDid r w m _ = runs r w m ≡ true

-- only running incarnations do anything
abbrev pub Alive : Setup → World → Type 0
Alive r [] = Unit {0}
Alive r (Does i d ∷ w) = AliveDid r w i d × Alive r w
Alive r (Writes s g i x ∷ w) = Alive r w

-- the origin of each value is then a member, and the number is its next
abbrev pub IsKeptList : Setup → List Value → Type 0
IsKeptList r [] = Unit {0}
IsKeptList r (v ∷ p) = ((v.number ≡ suc (last_kept p v.origin)) × (member r p v.origin ≡ true)) × IsKeptList r p

-- what a founding gives
pub record Founding (r : Setup) : Type 0 where
  pub block : 0 < r.limits.block

-- a run of a group, its one list being `k`
pub record IsRun (r : Setup) (k : List Value) (w : World) : Type 0 where
  pub founding : Founding r
  pub lawful : Lawful r w
  pub joint : Joint r k w
  pub alive : Alive r w
  pub kept : IsKeptList r k

abbrev pub InEveryRun : (Setup → List Value → World → Type 0) → Type 0
InEveryRun Law = (r : Setup) (k : List Value) (w : World) → IsRun r k w → Law r k w

-- ---- rows

-- the certified transaction of a GTID
abbrev pub cert_named : Gtid → List Cert → Option Cert
cert_named g cs = newest (λ c. gtid_eq c.gtid g) cs

abbrev pub applied_some : Option Cert → Rows → Rows
applied_some None was = was
applied_some (Some c) was = applied c.txn.changes was

abbrev pub stored_did : Setup → Life → Did → Rows → Rows
stored_did r l (Committed g) was = applied_some (cert_named g (certified r (marked l))) was
stored_did r l _ was = was

-- the rows of a server: what it did, in the order done
abbrev pub stored : Setup → World → ℕ → Rows
stored r [] s = no_rows
stored r (Does i d ∷ w) s = λ j. cond ((i.server == s)) (stored_did r (life w i) d (stored r w s) j) (stored r w s j)
stored r (Writes t g i x ∷ w) s = λ j. cond ((t == s)) (put i (Some x) (stored r w s) j) (stored r w s j)

-- the server's own offline writes, in the order written, over these rows
abbrev pub offline_over : World → ℕ → Rows → Rows
offline_over [] s was = was
offline_over (Does i d ∷ w) s was = offline_over w s was
offline_over (Writes t g i x ∷ w) s was = λ j. cond ((t == s)) (put i (Some x) (offline_over w s was) j) (offline_over w s was j)
