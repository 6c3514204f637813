-- Row locks: which keys a session holds, which Done places took them over, and who was killed by that.
use Rattle.std.specs.Prelude.{ℕ, Bool, true, false, ◌&&◌, ◌||◌, not, Option, Some, None, List, [], ◌∷◌, ◌==◌, is_some}
use Rattle.std.specs.List.{list_any}
use Rattle.key_items.specs.Items.{item_eq, has_item}
use Rattle.group_rules.specs.Names.{Inc, Gtid, Item, Error, Holder, BySession, ByPlace}
use Rattle.group_rules.specs.Events.{Called, Changed, Ends, Done, Is, Life, Cert}
use Rattle.group_rules.specs.Life.{certs}
use Rattle.group_rules.specs.Queue.{at_place, queue, is_done}
use Rattle.group_rules.specs.Sessions.{phase, is_begun, is_active, is_asking, sessions}

abbrev pub writes_key : Option Cert → Item → Bool
writes_key None i = false
writes_key (Some c) i = has_item c.txn.items i

-- the session changed the row, and no Done place took the key over since
abbrev pub keeps_key : Life → ℕ → Item → Bool
keeps_key [] s i = false
keeps_key (Called t v w ∷ l) s i = elim (t == s) [ true ↦ false | false ↦ keeps_key l s i ]
keeps_key (Changed t c ∷ l) s i = elim ((t == s) && item_eq c.item i) [ true ↦ true | false ↦ keeps_key l s i ]
keeps_key (Done p ∷ l) s i = elim (writes_key (at_place (certs l) p) i) [ true ↦ false | false ↦ keeps_key l s i ]
keeps_key (_ ∷ l) s i = keeps_key l s i

abbrev pub hit_by : Life → ℕ → Option Cert → Option Gtid
hit_by l s None = None
hit_by l s (Some c) = elim (is_active (phase l s) && list_any (keeps_key l s) c.txn.items) [ true ↦ Some c.gtid | false ↦ None ]

-- Its active transaction was killed: by the first place that became Done and shared a key that the transaction then held.
abbrev pub killed : Life → ℕ → Option Gtid
killed [] s = None
killed (Called t v w ∷ l) s = elim (t == s) [ true ↦ None | false ↦ killed l s ]
killed (Ends t ∷ l) s = elim (t == s) [ true ↦ None | false ↦ killed l s ]
killed (Done p ∷ l) s = elim (killed l s) [ Some g ↦ Some g | None ↦ hit_by l s (at_place (certs l) p) ]
killed (_ ∷ l) s = killed l s

-- it had a transaction when this member took ERROR (a hold, and a transaction whose commit was asked, end there at once)
abbrev pub was_left : Life → ℕ → Bool
was_left [] s = false
was_left (Is Error c ∷ l) s = is_begun (phase l s)
was_left (Called t v w ∷ l) s = elim (t == s) [ true ↦ false | false ↦ was_left l s ]
was_left (Ends t ∷ l) s = elim (t == s) [ true ↦ false | false ↦ was_left l s ]
was_left (_ ∷ l) s = was_left l s

-- an active transaction that wasn't killed, or one whose commit is asked, holds the keys that it keeps
abbrev pub holds_key : Life → Item → ℕ → Bool
holds_key l i s = (is_asking (phase l s) || (is_active (phase l s) && not (is_some (killed l s)))) && keeps_key l s i

abbrev pub session_holder : Life → Item → ℕ → List ℕ → Option Holder
session_holder l i s [] = None
session_holder l i s (t ∷ ts) = elim (not (t == s) && holds_key l i t) [ true ↦ Some (BySession t) | false ↦ session_holder l i s ts ]

-- the least Done place among those queued that writes the key
abbrev pub place_holder : Life → Item → List Cert → Option Holder
place_holder l i [] = None
place_holder l i (c ∷ cs) = elim (has_item c.txn.items i && is_done l c.place) [ true ↦ Some (ByPlace c.place c.gtid) | false ↦ place_holder l i cs ]

abbrev pub or_holder : Option Holder → Option Holder → Option Holder
or_holder None h = h
or_holder (Some x) h = Some x

-- the holder of a key, other than this session
abbrev pub holder : Life → Inc → ℕ → Item → Option Holder
holder l me s i = or_holder (place_holder l i (queue l me)) (session_holder l i s (sessions l))
