-- Recovery: the ask for a donor and its failures, and the Give.
-- (MySQL 8.0 Reference Manual, Group Replication: Distributed Recovery, Connection Attempts for Distributed Recovery.)
use Rattle.std.specs.Prelude.{ℕ, suc, ◌*◌, Bool, true, false, ◌&&◌, not, Option, Some, None, List, [], ◌∷◌, length, map, nat_lt, nat_le, ◌==◌, filter, is_some}
use Rattle.std.specs.List.{list_all}
use Rattle.gr_ids.specs.Names.{inc_eq, is_inc}
use Rattle.gtid_sets.specs.Sets.{Gtids, has, with_gtid, minus}
use Rattle.group_rules.specs.Names.{Inc, LastNumber, OpenParts, What, Add, Txn, Body, Writes, Effect, Plain, Wire, Asks, Gives, Welcome, Give, Given, Asked, Failed, NoAskDue, NoAskPending, Extra, NoDonor}
use Rattle.txn_forms.specs.Bodies.{body_bytes}
use Rattle.txn_forms.specs.Bodies.{read_body}
use Rattle.group_rules.specs.View.{View, seated, online_incs}
use Rattle.node_rules.specs.Learner.{learnt_remove}
use Rattle.group_rules.specs.Events.{Restores, Gave, AskFails, Replied, Life, Setup, Entry, Cert}
use Rattle.group_rules.specs.Life.{state, is_recovering, executed, view, upto, entry_at, entered, has_give}
use Rattle.group_rules.specs.Told.{told, sets_of}
use Rattle.group_rules.specs.Certifier.{Certifier, certifier, numbers_of}
use Rattle.group_rules.specs.Parts.{open_parts}
use Rattle.group_rules.specs.Rows.{known}
use Rattle.group_rules.specs.Member.{Member, push, send, fall}

-- ---- the ask

-- the donor that is asked
abbrev pub pending_ask : Life → Option Inc
pending_ask [] = None
pending_ask (Replied (Asked d) ∷ l) = Some d
pending_ask (AskFails ∷ l) = None
pending_ask (Restores g cs ∷ l) = None
pending_ask (_ ∷ l) = pending_ask l

abbrev pub failures : Life → ℕ
failures [] = 0
failures (AskFails ∷ l) = suc (failures l)
failures (_ ∷ l) = failures l

-- the tenth failure gives ERROR
abbrev pub fail_ask : Member → Member
fail_ask a = let b : Member = push AskFails a in elim (nat_le 10 (failures b.life)) [ true ↦ fall (NoDonor 10) b | false ↦ b ]

-- the place of its Add
abbrev pub add_place : Option Welcome → ℕ
add_place None = 0
add_place (Some w) = w.place

-- a Remove of the donor is decided in a slot above that of the Add (no slot was taken since)
abbrev pub check_donor : Option Inc → Member → Member
check_donor None a = a
check_donor (Some d) a = elim (learnt_remove a.node.learner d) [ true ↦ fail_ask a | false ↦ a ]

-- a pending ask fails where its donor's Remove is learnt
abbrev pub check_ask : Member → Member
check_ask a = elim (is_recovering (state a.life)) [ true ↦ check_donor (pending_ask a.life) a | false ↦ a ]

-- it is RECOVERING, no ask is pending, no Give was taken up, and fewer than ten asks failed
abbrev pub is_ask_due : Member → Bool
is_ask_due a = is_recovering (state a.life) && (not (is_some (pending_ask a.life)) && (not (has_give a.life) && nat_lt (failures a.life) 10))

-- (itself it asks without a message, and in vain: it hasn't taken its Add)
abbrev pub unless_self : Inc → Wire → Member → Member
unless_self d x a = elim (inc_eq d a.me.inc) [ true ↦ a | false ↦ send d x a ]

abbrev pub ask_wire : Member → Wire
ask_wire a = Asks (record { place = add_place (entered a.life); executed = executed a.life })

abbrev pub ask_donor : Inc → Member → Member
ask_donor d a = elim (is_ask_due a) [
  | false ↦ push (Replied NoAskDue) a
  | true ↦ check_ask (unless_self d (ask_wire a) (push (Replied (Asked d)) a))
]

abbrev pub donor_failed : Member → Member
donor_failed a = elim (is_recovering (state a.life) && is_some (pending_ask a.life)) [
  | false ↦ push (Replied NoAskPending) a
  | true ↦ fail_ask (push (Replied Failed) a)
]

-- ---- the Give, out

abbrev pub all_parts : Life → List Inc → List OpenParts
all_parts l [] = []
all_parts l (i ∷ is) = elim (open_parts l i) [ None ↦ all_parts l is | Some p ↦ p ∷ all_parts l is ]

abbrev pub gtids_of : List Cert → Gtids
gtids_of [] = []
gtids_of (c ∷ cs) = with_gtid (gtids_of cs) c.gtid

abbrev pub given_of : Cert → Given
given_of c = record { place = c.place; origin = c.id.origin; gtid = c.gtid; body = body_bytes (Writes c.txn) }

-- What a member that took the Add at v gives one that has this set: `l` is its history up to the taking of v, `cs` the certified transactions at or before v.
abbrev pub give_of : Setup → Life → List Cert → ℕ → Gtids → Give
give_of s l cs v e =
    let w : View = view s l in
    let c : Certifier = certifier s l in
    record {
      place = v;
      blocks = c.blocks;
      last = numbers_of c.last (seated w.seats);
      items = c.items;
      told = sets_of (told l) (online_incs w);
      certified = gtids_of cs;
      txns = map given_of (filter (λ x. not (has e x.gtid)) cs);
      parts = all_parts l (seated w.seats);
    }

abbrev pub is_add : What → Effect → Bool
is_add (Add j) Plain = true
is_add w e = false

abbrev pub give_at : Inc → Gtids → Option Entry → Member → Member
give_at i set None a = a
give_at i set (Some e) a = elim (is_add e.value.what e.effect) [ true ↦ send i (Gives (give_of a.setup (upto a.life e.place) (filter (λ c. nat_le c.place e.place) (known a.life)) e.place set)) a | false ↦ a ]

-- a member that took the Add of the asked place answers with a Give
abbrev pub hear_ask : Inc → ℕ → Gtids → Member → Member
hear_ask i v set a = give_at i set (entry_at a.life v) a

-- ---- the Give, in

abbrev pub cert_given : Given → Txn → Cert
cert_given g t = record { place = g.place; id = record { origin = g.origin; number = 0 }; gtid = g.gtid; txn = t }

abbrev pub cert_read : Given → Option Body → List Cert
cert_read g (Some (Writes t)) = cert_given g t ∷ []
cert_read g b = []

-- the transactions of those bodies that spell one
abbrev pub certs_given : List Given → List Cert
certs_given [] = []
certs_given (g ∷ gs) = elim (cert_read g (read_body g.body)) [ [] ↦ certs_given gs | c ∷ cs ↦ c ∷ certs_given gs ]

-- each body spells a transaction, and no last number is above those of the blocks taken
abbrev pub is_possible : Setup → Give → List Cert → Bool
is_possible s g cs = (length cs == length g.txns) && list_all {X = LastNumber} (λ x. nat_le x.number (g.blocks * s.limits.block)) g.last

-- it counts only for the ask that is pending, from its donor, for its place
abbrev pub is_awaited : Inc → Give → Member → Bool
is_awaited i g a = (is_recovering (state a.life) && is_inc (pending_ask a.life) i) && (g.place == add_place (entered a.life))

-- a joiner that has transactions which the group hasn't takes ERROR
abbrev pub restore : Give → List Cert → Gtids → Member → Member
restore g cs [] a = push (Restores g cs) a
restore g cs (x ∷ xs) a = fall (Extra (x ∷ xs)) a

abbrev pub take_give : Give → List Cert → Member → Member
take_give g cs a = elim (is_possible a.setup g cs) [
  | false ↦ a
  | true ↦ restore g cs (minus (executed a.life) g.certified) (push (Gave g.place (length g.txns)) a)
]

abbrev pub hear_give : Inc → Give → Member → Member
hear_give i g a = elim (is_awaited i g a) [ false ↦ a | true ↦ take_give g (certs_given g.txns) a ]
