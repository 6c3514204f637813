-- The sites after a row was written at one of them.
use Rattle.std.proofs.Common.{◌≡◌, ℕ, ◌<◌, Option, Some, None, List, get_or, length, slice_get, sym, ap, subst, ◌∙◌}
use Rattle.std.specs.Prelude.{slice_set, Result, Ok, Err, IfOk}
use Rattle.gr_ids.specs.declared.memory.Memory.{Memory}
use Rattle.gr_ids.specs.declared.names.Gtid.{Gtid}
use Rattle.key_items.specs.declared.item.Item.{Item}
use Rattle.group_rules.specs.World.{Server}
use Rattle.world_servers.specs.declared.servers.DeclaredServer.{DeclaredServer}
use Rattle.group_world.specs.Changing.{Tells, is_busy}
use Rattle.group_world.specs.Sites.{AreSites, IsSite, Rises, before}
use Rattle.group_world.specs.Writing.{HasWritten, HaveWritten, after_write}
use Rattle.group_world.specs.declared.site.Site.{Site}
use Rattle.group_world.proofs.Altered.{there}
use Rattle.group_world.proofs.Finding.{at_in, found, keep, put}

abbrev pub SiteWrites : Item → List ℕ → DeclaredServer → Site → Site → Option Gtid → Type 0
SiteWrites i v d z y o = (s : Server) → IsSite s z → s.uuid ≡ d.uuid → HasWritten i v s o y

abbrev pub AllWrite : Item → List ℕ → DeclaredServer → List Site → List Site → Option Gtid → Type 0
AllWrite i v d zs ys o = (ss : List Server) → Rises ss → AreSites ss zs → Tells d ss → HaveWritten d.number i v ss o ys

writes_at : (i : Item) (v : List ℕ) (d : DeclaredServer) (zs : List Site) (z y : Site) (o : Option Gtid) → slice_get zs (before d.number zs) ≡ Some z → SiteWrites i v d z y o → AllWrite i v d zs (slice_set zs (before d.number zs) y) o
writes_at i v d zs z y None g h ss r a k =
    let f = found d.number ss zs z a g in
    let b = h f.0 f.2 (ap (λ x. x.uuid) (k f.0 f.1)) in
    (ap is_busy f.1 ∙ b.0, keep d.number ss zs f.0 z y a g f.1 b.1)
writes_at i v d zs z y (Some x) g h ss r a k =
    let f = found d.number ss zs z a g in
    let b = h f.0 f.2 (ap (λ x. x.uuid) (k f.0 f.1)) in
    record {
      server = f.0;
      at_it = f.1;
      written = b.0;
      after = λ p. put d.number ss zs f.0 z (after_write i v f.0) y r a g f.1 (at_in d.number ss f.0 f.1).1 (b.1 p);
    }

pub writes : (i : Item) (v : List ℕ) (d : DeclaredServer) (at : ℕ) (zs : List Site) (z y : Site) (r : Result (Option Gtid) Memory) → at ≡ before d.number zs → at < length zs → z ≡ get_or zs at z
    → IfOk r (SiteWrites i v d z y) → IfOk r (AllWrite i v d zs (slice_set zs at y))
writes i v d at zs z y (Err m) e h g k = tt
writes i v d at zs z y (Ok o) e h g k = λ ss r a p. subst (λ j. HaveWritten d.number i v ss o (slice_set zs j y)) (sym e) (writes_at i v d zs z y o (there d.number at zs z e h g) k ss r a p)
