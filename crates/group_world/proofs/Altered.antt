-- The sites after a change of one of them.
use Rattle.std.proofs.Common.{◌≡◌, ℕ, ◌<◌, ◌≤◌, suc, Bool, true, false, Option, Some, None, List, [], ◌∷◌, get_or, length, slice_get, refl, sym, ap, subst, ◌∙◌, arith}
use Rattle.std.specs.Prelude.{◌==◌, nat_lt, slice_set, Result, Ok, Err, IfOk, OnOk}
use Rattle.std.specs.List.{insert}
use Rattle.std.proofs.lemmas.Option.{slice_get-get_or, slice_get_past}
use Rattle.gr_ids.specs.declared.memory.Memory.{Memory}
use Rattle.gr_ids.specs.declared.names.Inc.{Inc}
use Rattle.group_rules.specs.Events.{Setup}
use Rattle.group_rules.specs.World.{Server, with_server}
use Rattle.world_servers.specs.Naming.{declared_of}
use Rattle.world_servers.specs.declared.servers.DeclaredServer.{DeclaredServer}
use Rattle.group_world.specs.Changing.{HasBegun, HaveBegun, Tells, begun, is_busy, with_change}
use Rattle.group_world.specs.Sites.{AreSites, IsSite, Rises, at_number, before, under}
use Rattle.group_world.specs.declared.site.Site.{Site}
use Rattle.group_world.specs.declared.site.Turn.{Turn}
use Rattle.group_world.proofs.Finding.{absent, at_in, found, keep, put}

-- the site that stands at the index
pub there : (n at : ℕ) (zs : List Site) (z : Site) → at ≡ before n zs → at < length zs → z ≡ get_or zs at z → slice_get zs (before n zs) ≡ Some z
there n at zs z e h g = subst (λ k. slice_get zs k ≡ Some z) e (slice_get-get_or zs at z h ∙ ap Some (sym g))

-- or none does
pub missing : (n at : ℕ) (ss : List Server) (zs : List Site) → at ≡ before n zs → length zs ≤ at → AreSites ss zs → at_number n ss ≡ None
missing n at ss zs e h a = absent n ss zs a (subst (λ k. slice_get zs k ≡ None) e (slice_get_past zs at h))

-- ---- one that is put among the others

-- in place of the one of its number
pub put_at : (at : ℕ) (zs : List Site) (z y : Site) (t : Server) (ss : List Server) → slice_get zs (before y.number zs) ≡ Some z → at ≡ before y.number zs → Rises ss → AreSites ss zs → IsSite t y → AreSites (with_server ss t) (slice_set zs at y)
put_at at zs z y t ss g e r a k =
    let f = found y.number ss zs z a g in
    subst (λ i. AreSites (with_server ss t) (slice_set zs i y)) (sym e) (put y.number ss zs f.0 z t y r a g f.1 (sym k.number) k)

-- behind those of lower numbers
inserted : (ss : List Server) (zs : List Site) (t : Server) (y : Site) → AreSites ss zs → IsSite t y → at_number t.number ss ≡ None → AreSites (with_server ss t) (insert zs (under t.number zs) y)
inserted [] [] t y a k n = (k, tt)
inserted [] (z ∷ zs) t y a k n = absurd a
inserted (s ∷ ss) [] t y a k n = absurd a
inserted (s ∷ ss) (z ∷ zs) t y a k n = go (s.number == t.number) refl (nat_lt t.number s.number) refl (inserted ss zs t y a.1 k)
  where
    go : (b : Bool) → (s.number == t.number) ≡ b → (c : Bool) → nat_lt t.number s.number ≡ c → (at_number t.number ss ≡ None → AreSites (with_server ss t) (insert zs (under t.number zs) y))
        → AreSites (with_server (s ∷ ss) t) (insert (z ∷ zs) (under t.number (z ∷ zs)) y)
    go true q c f r = let is : Some s ≡ None = rw q at n in absurd (cc is)
    go false q true f r =
        let same : nat_lt t.number z.number ≡ true = subst (λ m. nat_lt t.number m ≡ true) (sym a.0.number) f in
        let first : under t.number (z ∷ zs) ≡ 0 = rw same refl in
        rw (q, f, with_server) (rw first (k, (a.0, a.1)))
    go false q false f r =
        let same : nat_lt t.number z.number ≡ false = subst (λ m. nat_lt t.number m ≡ false) (sym a.0.number) f in
        let later : under t.number (z ∷ zs) ≡ suc (under t.number zs) = rw same (omega arith) in
        let none : at_number t.number ss ≡ None = rw q at n in
        rw (q, f, with_server) (rw later (a.0, r none))

pub insert_at : (at : ℕ) (zs : List Site) (y : Site) (t : Server) (ss : List Server) → at_number y.number ss ≡ None → at ≡ under y.number zs → AreSites ss zs → IsSite t y → AreSites (with_server ss t) (insert zs at y)
insert_at at zs y t ss n e a k =
    let m : t.number ≡ y.number = sym k.number in
    subst (λ i. AreSites (with_server ss t) (insert zs i y)) (sym (e ∙ ap (λ j. under j zs) (sym m))) (inserted ss zs t y a k (ap (λ j. at_number j ss) m ∙ n))

-- ---- a change that every server can undergo

abbrev pub Changes : (Server → Server) → Site → Site → Type 0
Changes f z y = (s : Server) → IsSite s z → IsSite (f s) y

abbrev pub AllChange : (Server → Server) → ℕ → List Site → List Site → Type 0
AllChange f n zs ys = (ss : List Server) → Rises ss → AreSites ss zs → AreSites (with_change f (at_number n ss) ss) ys

pub none_changes : (f : Server → Server) (n at : ℕ) (zs : List Site) → at ≡ before n zs → length zs ≤ at → AllChange f n zs zs
none_changes f n at zs e h ss r a = subst (λ o. AreSites (with_change f o ss) zs) (sym (missing n at ss zs e h a)) a

pub changed : (f : Server → Server) → ((s : Server) → (f s).number ≡ s.number) → (n at : ℕ) (zs : List Site) (z y : Site) (r : Result Unit Memory) → at ≡ before n zs → at < length zs → z ≡ get_or zs at z
    → OnOk r (Changes f z y) → OnOk r (AllChange f n zs (slice_set zs at y))
changed f same n at zs z y (Err m) e h g k = tt
changed f same n at zs z y (Ok u) e h g k = λ ss r a.
    let q = there n at zs z e h g in
    let p = found n ss zs z a q in
    let is = put n ss zs p.0 z (f p.0) y r a q p.1 (same p.0 ∙ (at_in n ss p.0 p.1).1) (k p.0 p.2) in
    subst (λ i. AreSites (with_change f (at_number n ss) ss) (slice_set zs i y)) (sym e) (subst (λ o. AreSites (with_change f o ss) (slice_set zs (before n zs) y)) (sym p.1) is)

-- ---- an incarnation that starts

abbrev pub SiteBegins : Setup → Inc → DeclaredServer → Site → Site → Option Turn → Type 0
SiteBegins t via d z y o = (s : Server) → IsSite s z → declared_of s ≡ d → HasBegun t via s o y

abbrev pub AllBegin : Setup → Inc → DeclaredServer → List Site → List Site → Option Turn → Type 0
AllBegin t via d zs ys o = (ss : List Server) → Rises ss → AreSites ss zs → Tells d ss → HaveBegun d.number t via ss o ys

begins_at : (t : Setup) (via : Inc) (d : DeclaredServer) (zs : List Site) (z y : Site) (o : Option Turn) → slice_get zs (before d.number zs) ≡ Some z → SiteBegins t via d z y o → AllBegin t via d zs (slice_set zs (before d.number zs) y) o
begins_at t via d zs z y None g h ss r a k =
    let f = found d.number ss zs z a g in
    let b = h f.0 f.2 (k f.0 f.1) in
    (ap is_busy f.1 ∙ b.0, keep d.number ss zs f.0 z y a g f.1 b.1)
begins_at t via d zs z y (Some x) g h ss r a k =
    let f = found d.number ss zs z a g in
    let b = h f.0 f.2 (k f.0 f.1) in
    record {
      server = f.0;
      at_it = f.1;
      stopped = b.0;
      turn = b.1;
      after = put d.number ss zs f.0 z (begun t via f.0) y r a g f.1 (at_in d.number ss f.0 f.1).1 b.2;
    }

pub begins : (t : Setup) (via : Inc) (d : DeclaredServer) (at : ℕ) (zs : List Site) (z y : Site) (r : Result (Option Turn) Memory) → at ≡ before d.number zs → at < length zs → z ≡ get_or zs at z
    → IfOk r (SiteBegins t via d z y) → IfOk r (AllBegin t via d zs (slice_set zs at y))
begins t via d at zs z y (Err m) e h g k = tt
begins t via d at zs z y (Ok o) e h g k = λ ss r a p. subst (λ i. HaveBegun d.number t via ss o (slice_set zs i y)) (sym e) (begins_at t via d zs z y o (there d.number at zs z e h g) k ss r a p)
