-- A row that is written while no incarnation of its server runs.
use Rattle.std.specs.Prelude.{◌≡◌, ℕ, true, Option, Some, None, List, is_some}
use Rattle.gr_ids.specs.declared.names.Gtid.{Gtid}
use Rattle.gtid_sets.specs.Canonical.{IsNumber}
use Rattle.key_items.specs.declared.item.Item.{Item}
use Rattle.group_rules.specs.World.{Server, with_server}
use Rattle.group_promises.specs.Promises.{IsApart}
use Rattle.row_store.specs.Following.{with_write}
use Rattle.kept_server.specs.Keeping.{offline_write}
use Rattle.group_world.specs.Changing.{is_busy}
use Rattle.group_world.specs.Sites.{AreSites, IsSite, at_number}
use Rattle.group_world.specs.declared.site.Site.{Site}

abbrev pub after_write : Item → List ℕ → Server → Server
after_write i r s = record s { stored = with_write s.stored (offline_write s.uuid i r s.stored) }

-- under the next GTID of the server
pub record IsWritten (i : Item) (r : List ℕ) (s : Server) (g : Gtid) : Type 0 where
  pub stopped : s.running ≡ None
  pub number : IsNumber g.number
  pub gtid : g ≡ (offline_write s.uuid i r s.stored).gtid

abbrev pub HasWritten : Item → List ℕ → Server → Option Gtid → Site → Type 0
HasWritten i r s None z = (is_some s.running ≡ true) × IsSite s z
HasWritten i r s (Some g) z = IsWritten i r s g × (IsApart s.uuid s.stored → IsSite (after_write i r s) z)

pub record WritesAt (n : ℕ) (i : Item) (r : List ℕ) (ss : List Server) (g : Gtid) (zs : List Site) : Type 0 where
  pub server : Server
  pub at_it : at_number n ss ≡ Some server
  pub written : IsWritten i r server g
  pub after : IsApart server.uuid server.stored → AreSites (with_server ss (after_write i r server)) zs

abbrev pub HaveWritten : ℕ → Item → List ℕ → List Server → Option Gtid → List Site → Type 0
HaveWritten n i r ss None zs = (is_busy (at_number n ss) ≡ true) × AreSites ss zs
HaveWritten n i r ss (Some g) zs = WritesAt n i r ss g zs
