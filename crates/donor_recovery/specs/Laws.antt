-- How a donor and a joiner stand for the histories of the group.
use Rattle.std.specs.Prelude.{◌≡◌, ℕ, Bool, true, false, Option, Some, None, List, [], ◌∷◌, map}
use Rattle.paxos_forms.specs.declared.recovery.Given.{Given}
use Rattle.group_rules.specs.View.{seated, online_incs}
use Rattle.group_rules.specs.Events.{Cert, Did, Entry, Life, Restores, Setup, Starts, Took}
use Rattle.group_rules.specs.Life.{cert_of, entry_at, executed, has_give, upto, view}
use Rattle.group_rules.specs.Told.{told, sets_of}
use Rattle.group_rules.specs.Certifier.{certifier, numbers_of}
use Rattle.group_rules.specs.Recovery.{all_parts, failures, given_of, is_add, pending_ask}
use Rattle.group_rules.specs.Rows.{known}
use Rattle.donor_recovery.specs.declared.at_add.AtAdd.{AtAdd}
use Rattle.donor_recovery.specs.Asking.{Asking}
use Rattle.donor_recovery.specs.Donating.{Donating, at_place, marked, with_given}

-- the joiner's asks are those of its history
pub record Follows (r : Asking) (l : Life) : Type 0 where
  pub executed : r.executed ≡ executed l
  pub pending : r.pending ≡ pending_ask l
  pub failures : r.failures ≡ failures l
  pub has_give : r.has_give ≡ has_give l

-- what stands at the place of an Add, `l` being the history up to its taking
abbrev pub add_of : Setup → Life → ℕ → AtAdd
add_of s l v = record { place = v; blocks = (certifier s l).blocks; last = numbers_of (certifier s l).last (seated (view s l).seats); items = (certifier s l).items; told = sets_of (told l) (online_incs (view s l)); parts = all_parts l (seated (view s l).seats) }

-- ---- a donor

-- what is kept of an entry: of an Add with effect what stood at its place
abbrev pub add_kept : Setup → Life → ℕ → Option Entry → Option AtAdd
add_kept s l p None = None
add_kept s l p (Some e) = elim (is_add e.value.what e.effect) [ true ↦ Some (add_of s (upto l p) p) | false ↦ None ]

-- it keeps all certified transactions that its history knows, and what stood at the place of each Add that it took
pub record Donates (s : Setup) (l : Life) (d : Donating) : Type 0 where
  pub certified : d.certified ≡ map given_of (known l)
  pub adds : (p : ℕ) → at_place d.adds p ≡ add_kept s l p (entry_at l p)

-- an entry is certified, or is not
abbrev pub with_cert_given : List Cert → Donating → Donating
with_cert_given [] d = d
with_cert_given (c ∷ cs) d = record d { certified = with_given d.certified (given_of c) }

-- an Add with effect is marked
abbrev pub marked_if : Bool → AtAdd → Donating → Donating
marked_if true a d = marked a d
marked_if false a d = d

-- after an entry, by what stands at its place
abbrev pub after_entry : Entry → AtAdd → Donating → Donating
after_entry e a d = marked_if (is_add e.value.what e.effect) a (with_cert_given (cert_of e) d)

-- a start, an entry and a Give change what is known
abbrev pub is_of_donor : Did → Bool
is_of_donor (Starts x) = true
is_of_donor (Took e) = true
is_of_donor (Restores g cs) = true
is_of_donor d = false

-- those that a Give brought, one after another
abbrev pub with_certs : List Given → List Cert → List Given
with_certs gs [] = gs
with_certs gs (c ∷ cs) = with_certs (with_given gs (given_of c)) cs
