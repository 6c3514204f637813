-- AFTER transactions: which members they require, when they are prepared and complete; and what may be committed.
-- (MySQL 8.0 Reference Manual, Group Replication: Transaction Consistency Guarantees, AFTER.)
use Rattle.std.specs.Prelude.{Bool, true, false, ◌&&◌, ◌||◌, not, Option, Some, List, [], ◌∷◌, nat_lt}
use Rattle.std.specs.List.{list_any, list_all}
use Rattle.gr_ids.specs.Names.{inc_eq, has_inc, gtid_eq}
use Rattle.gtid_sets.specs.Sets.{Gtids, has}
use Rattle.group_rules.specs.Names.{Inc, Gtid, Body, Prepared}
use Rattle.group_rules.specs.View.{online_incs, is_seated}
use Rattle.group_rules.specs.Events.{Took, Life, Setup, Cert}
use Rattle.group_rules.specs.Life.{executed, view, upto, certs, made}
use Rattle.group_rules.specs.Queue.{is_done, is_own, all_below}

-- ---- required and complete

-- the members that it requires: those ONLINE at its place; none where a Give brought it
abbrev pub required : Setup → Life → Cert → List Inc
required s l c = online_incs (view s (upto l c.place))

abbrev pub prepares : Option Body → Gtid → Bool
prepares (Some (Prepared h)) g = gtid_eq h g
prepares b g = false

-- the member has a Prepared entry for it, among those taken
abbrev pub has_prepared : Life → Inc → Gtid → Bool
has_prepared [] m g = false
has_prepared (Took e ∷ l) m g = elim (inc_eq e.value.id.origin m && prepares e.holds g) [ true ↦ true | false ↦ has_prepared l m g ]
has_prepared (_ ∷ l) m g = has_prepared l m g

-- each of these members is the origin, or has prepared, or is a member no more
abbrev pub complete_by : Inc → (Inc → Bool) → (Inc → Bool) → List Inc → Bool
complete_by origin prepared is_member ms = list_all (λ m. inc_eq m origin || (prepared m || not (is_member m))) ms

abbrev pub complete : Setup → Life → Cert → Bool
complete s l c = let now = view s l in complete_by c.id.origin (λ m. has_prepared l m c.gtid) (is_seated now) (required s l c)

-- ---- prepared

-- Done, local or committed
abbrev pub is_settled : Life → Inc → Gtids → Cert → Bool
is_settled l me e c = is_own me c || (has e c.gtid || is_done l c.place)

-- prepared here: a local one once it is taken; a remote one once it and all earlier ones are settled
abbrev pub is_prepared : Life → Inc → Cert → Bool
is_prepared l me c = elim (is_own me c) [ true ↦ true | false ↦ let e = executed l in list_all (λ d. nat_lt c.place d.place || is_settled l me e d) (certs l) ]

-- it sent a Prepared entry for it
abbrev pub has_sent_prepared : Life → Gtid → Bool
has_sent_prepared l g = list_any (λ b. prepares b g) (made l)

-- it owes one: the transaction is AFTER and of another origin, requires this member, is prepared here, and none was sent
abbrev pub owes_prepared : Setup → Life → Inc → Cert → Bool
owes_prepared s l me c = elim (c.txn.after && not (is_own me c)) [ false ↦ false | true ↦ has_inc (required s l c) me && (not (has_sent_prepared l c.gtid) && is_prepared l me c) ]

-- ---- commit

-- a local transaction is committed when it is taken, an AFTER one when it is complete
abbrev pub may_commit_own : Setup → Life → Cert → Bool
may_commit_own s l c = elim (c.txn.after) [ false ↦ true | true ↦ complete s l c ]

-- an AFTER transaction that requires this member waits until it is complete
abbrev pub unless_incomplete : Setup → Life → Inc → Cert → Bool
unless_incomplete s l me c = elim (c.txn.after) [ false ↦ true | true ↦ not (has_inc (required s l c) me) || complete s l c ]

-- a remote one is committed when it is Done, every earlier certified one is committed here, and it doesn't wait as AFTER
abbrev pub may_commit_other : Setup → Life → Inc → Cert → Bool
may_commit_other s l me c = elim (is_done l c.place) [ false ↦ false | true ↦ all_below (executed l) (certs l) c.place && unless_incomplete s l me c ]

-- a pending transaction may be committed now
abbrev pub may_commit : Setup → Life → Inc → Cert → Bool
may_commit s l me c = elim (is_own me c) [ true ↦ may_commit_own s l c | false ↦ may_commit_other s l me c ]
