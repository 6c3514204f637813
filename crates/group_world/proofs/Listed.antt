-- What is declared of the servers of a world.
use Rattle.std.proofs.Common.{◌≡◌, ℕ, Bool, true, false, Option, Some, None, List, [], ◌∷◌, refl, sym, ap, subst, ◌∙◌}
use Rattle.std.specs.Prelude.{◌==◌, ◌&&◌, map}
use Rattle.std.specs.List.{find}
use Rattle.std.proofs.lemmas.Bool.{and_parts, eqb-true}
use Rattle.std.proofs.lemmas.Slice.Eq.{bytes_eq-Decides}
use Rattle.gr_ids.specs.Names.{bytes_eq}
use Rattle.group_rules.specs.World.{Server, World, with_server}
use Rattle.world_servers.specs.Naming.{AreOf, declared_of, has_number, is_there, with_declared}
use Rattle.world_servers.specs.declared.servers.DeclaredServer.{DeclaredServer}
use Rattle.world_servers.proofs.Tabled.{found_is, option_of, put_is}
use Rattle.group_world.specs.Changing.{Tells}
use Rattle.group_world.specs.Sites.{Rises, at_number}
use Rattle.group_world.proofs.Servers.{map_with}

-- one that isn't found isn't there
pub not_there : (n : ℕ) (xs : List DeclaredServer) → find (has_number n) xs ≡ None → is_there xs n ≡ false
not_there n [] h = refl
not_there n (x ∷ xs) h = go (x.number == n) refl (not_there n xs)
  where
    go : (b : Bool) → (x.number == n) ≡ b → (find (has_number n) xs ≡ None → is_there xs n ≡ false) → is_there (x ∷ xs) n ≡ false
    go true q r = let is : Some x ≡ None = rw q at h in absurd (cc is)
    go false q r = let none : find (has_number n) xs ≡ None = rw q at h in rw q (r none)

pub number_of : (n : ℕ) (xs : List DeclaredServer) (d : DeclaredServer) → find (has_number n) xs ≡ Some d → d.number ≡ n
number_of n [] d h = absurd (cc h)
number_of n (x ∷ xs) d h = go (x.number == n) refl (number_of n xs d)
  where
    go : (b : Bool) → (x.number == n) ≡ b → (find (has_number n) xs ≡ Some d → d.number ≡ n) → d.number ≡ n
    go true q r =
        let is : Some x ≡ Some d = rw q at h in
        let same : x ≡ d = cc in
        subst (λ y. y.number ≡ n) same (eqb-true x.number n q)
    go false q r = let later : find (has_number n) xs ≡ Some d = rw q at h in r later

-- what its test finds equal is one
pub same_server : (x y : DeclaredServer) → ((x.number == y.number) && (bytes_eq x.uuid y.uuid && (bytes_eq x.version y.version && (x.weight == y.weight)))) ≡ true → x ≡ y
same_server x y h =
    let p = and_parts (x.number == y.number) (bytes_eq x.uuid y.uuid && (bytes_eq x.version y.version && (x.weight == y.weight))) h in
    let q = and_parts (bytes_eq x.uuid y.uuid) (bytes_eq x.version y.version && (x.weight == y.weight)) p.1 in
    let r = and_parts (bytes_eq x.version y.version) (x.weight == y.weight) q.1 in
    let number : x.number ≡ y.number = eqb-true x.number y.number p.0 in
    let uuid : x.uuid ≡ y.uuid = (bytes_eq-Decides x.uuid y.uuid).0 q.0 in
    let version : x.version ≡ y.version = (bytes_eq-Decides x.version y.version).0 r.0 in
    let weight : x.weight ≡ y.weight = eqb-true x.weight y.weight r.1 in
    λ k. record { number = number k; uuid = uuid k; version = version k; weight = weight k }

-- ---- those of the world

looked : (w : World) (xs : List DeclaredServer) (n : ℕ) → AreOf w xs → find (has_number n) xs ≡ option_of (at_number n w.servers)
looked w xs n h = ap (find (has_number n)) h ∙ found_is w.servers n

pub unlisted : (w : World) (xs : List DeclaredServer) (n : ℕ) → AreOf w xs → find (has_number n) xs ≡ None → at_number n w.servers ≡ None
unlisted w xs n h e = go (at_number n w.servers) (sym (looked w xs n h) ∙ e)
  where
    go : (o : Option Server) → option_of o ≡ None → o ≡ None
    go None q = refl
    go (Some s) q = absurd (cc q)

pub tells : (w : World) (xs : List DeclaredServer) (n : ℕ) (d : DeclaredServer) → AreOf w xs → find (has_number n) xs ≡ Some d → Tells d w.servers
tells w xs n d h e s k =
    let m : d.number ≡ n = number_of n xs d e in
    let at : at_number n w.servers ≡ Some s = subst (λ i. at_number i w.servers ≡ Some s) m k in
    let is : Some (declared_of s) ≡ Some d = sym (looked w xs n h ∙ ap option_of at) ∙ e in
    cc

-- ---- one more, or one again

pub lists_new : (ss : List Server) (xs : List DeclaredServer) (s : Server) (d : DeclaredServer) → xs ≡ map declared_of ss → declared_of s ≡ d → with_declared xs d ≡ map declared_of (with_server ss s)
lists_new ss xs s d h e = ap (λ l. with_declared l d) h ∙ (ap (with_declared (map declared_of ss)) (sym e) ∙ put_is ss s)

pub lists_again : (ss : List Server) (xs : List DeclaredServer) (s : Server) (d : DeclaredServer) → Rises ss → xs ≡ map declared_of ss → declared_of s ≡ d → find (has_number d.number) xs ≡ Some d → xs ≡ map declared_of (with_server ss s)
lists_again ss xs s d r h e f = h ∙ sym (go (at_number d.number ss) refl (sym (ap (find (has_number d.number)) h ∙ found_is ss d.number) ∙ f))
  where
    go : (o : Option Server) → at_number d.number ss ≡ o → option_of o ≡ Some d → map declared_of (with_server ss s) ≡ map declared_of ss
    go None q k = absurd (cc k)
    go (Some t) q k =
        let is : declared_of t ≡ d = cc in
        map_with declared_of d.number ss t s r q (ap (λ y. y.number) e) (e ∙ sym is)
