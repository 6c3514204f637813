-- The servers are those of the world.
use Rattle.std.proofs.Common.{◌≡◌, ◌&&◌, ◌||◌, ◌==◌, not, if◌then◌else◌, ℕ, zero, suc, ◌<◌, ◌-◌, arith, Bool, true, false, Option, Some, None, List, [], ◌∷◌, map, nat_lt, refl, sym, ap, ◌∙◌}
use Rattle.std.specs.List.{list_any, find, insert, prefix_len}
use Rattle.std.proofs.lemmas.Bool.{false≢true}
use Rattle.gr_ids.specs.Names.{bytes_eq}
use Rattle.slot_values.specs.declared.value.Joiner.{Joiner}
use Rattle.group_rules.specs.Script.{founder_by, founders, with_joiner}
use Rattle.group_rules.specs.World.{Server, World, declare, default_uuid, has_uuid as world_has, is_declared, is_default_of_other, is_group, is_group_taken, is_taken, server_at, with_server}
use Rattle.world_servers.specs.declared.servers.DeclaredServer.{DeclaredServer}
use Rattle.world_servers.specs.Naming.{AreOf, declared_of, declared_or, joiner_as, founder_in, founders_in, has_number, has_uuid, is_group_taken_in, is_taken_in, is_there, with_declared}

-- one more server
pub put_is : (ss : List Server) (s : Server) → with_declared (map declared_of ss) (declared_of s) ≡ map declared_of (with_server ss s)
put_is [] s = refl
put_is (x ∷ xs) s = go (x.number == s.number) (nat_lt s.number x.number) (put_is xs s)
  where
    go : (a b : Bool) → with_declared (map declared_of xs) (declared_of s) ≡ map declared_of (with_server xs s)
        → (if a then declared_of s ∷ map declared_of xs else (if b then declared_of s ∷ declared_of x ∷ map declared_of xs else declared_of x ∷ with_declared (map declared_of xs) (declared_of s)))
        ≡ map declared_of (elim a [ true ↦ s ∷ xs | false ↦ elim b [ true ↦ s ∷ x ∷ xs | false ↦ x ∷ with_server xs s ] ])
    go true b h = refl
    go false true h = refl
    go false false h = ap (λ l. declared_of x ∷ l) h

pub declares : (w : World) (xs : List DeclaredServer) (n : ℕ) (u v : List ℕ) (g : ℕ) → AreOf w xs
    → AreOf (declare n u v g w) (with_declared xs (record { number = n; uuid = u; version = v; weight = g }))
declares w xs n u v g h = ap (λ l. with_declared l (record { number = n; uuid = u; version = v; weight = g })) h ∙ put_is w.servers _

there_is : (ss : List Server) (n : ℕ) → is_there (map declared_of ss) n ≡ list_any (λ s. s.number == n) ss
there_is [] n = refl
there_is (x ∷ xs) n = ap (λ b. (x.number == n) || b) (there_is xs n)

pub there : (w : World) (xs : List DeclaredServer) (n : ℕ) → AreOf w xs → is_there xs n ≡ is_declared w n
there w xs n h = ap (λ l. is_there l n) h ∙ there_is w.servers n

uuid_is : (ss : List Server) (u : List ℕ) → has_uuid (map declared_of ss) u ≡ list_any (λ s. bytes_eq s.uuid u) ss
uuid_is [] u = refl
uuid_is (x ∷ xs) u = ap (λ b. bytes_eq x.uuid u || b) (uuid_is xs u)

uuid_there : (w : World) (xs : List DeclaredServer) (u : List ℕ) → AreOf w xs → has_uuid xs u ≡ world_has w u
uuid_there w xs u h = ap (λ l. has_uuid l u) h ∙ uuid_is w.servers u

or_last : (a b c d : Bool) → ((a || (b || c)) || d) ≡ (a || (b || (d || c)))
or_last true b c d = refl
or_last false true c d = refl
or_last false false true true = refl
or_last false false true false = refl
or_last false false false true = refl
or_last false false false false = refl

pub taken : (w : World) (xs : List DeclaredServer) (n : ℕ) (u : List ℕ) → AreOf w xs → (is_taken_in xs n u || is_group w.setup u) ≡ is_taken n u w
taken w xs n u h = or_last (is_there xs n) (has_uuid xs u) (is_default_of_other u n 32) (is_group w.setup u)
    ∙ (ap (λ b. b || (has_uuid xs u || (is_group w.setup u || is_default_of_other u n 32))) (there w xs n h)
    ∙ ap (λ b. is_declared w n || (b || (is_group w.setup u || is_default_of_other u n 32))) (uuid_there w xs u h))

pub group_taken : (w : World) (xs : List DeclaredServer) (g : List ℕ) → AreOf w xs → is_group_taken_in xs g ≡ is_group_taken g w
group_taken w xs g h = ap (λ b. b || is_default_of_other g 0 32) (uuid_there w xs g h)

abbrev pub option_of : Option Server → Option DeclaredServer
option_of None = None
option_of (Some s) = Some (declared_of s)

pub found_is : (ss : List Server) (n : ℕ) → find (has_number n) (map declared_of ss) ≡ option_of (find (λ s. s.number == n) ss)
found_is [] n = refl
found_is (x ∷ xs) n = go (x.number == n) (found_is xs n)
  where
    go : (b : Bool) → find (has_number n) (map declared_of xs) ≡ option_of (find (λ s. s.number == n) xs)
        → (if b then Some (declared_of x) else find (has_number n) (map declared_of xs)) ≡ option_of (if b then Some x else find (λ s. s.number == n) xs)
    go true h = refl
    go false h = h

founder_is : (o : Option Server) (n : ℕ) → joiner_as 1 (declared_or n (option_of o)) ≡ founder_by n o
founder_is None n = refl
founder_is (Some s) n = refl

founder_there : (w : World) (xs : List DeclaredServer) (n : ℕ) → AreOf w xs → founder_in xs n ≡ founder_by n (server_at w n)
founder_there w xs n h = ap (λ o. joiner_as 1 (declared_or n o)) (ap (find (has_number n)) h ∙ found_is w.servers n) ∙ founder_is (server_at w n) n

pub all_founders : (w : World) (xs : List DeclaredServer) (ns : List ℕ) → AreOf w xs → founders_in xs ns ≡ founders w ns
all_founders w xs [] h = refl
all_founders w xs (n ∷ ns) h = ap (λ js. with_joiner js (founder_in xs n)) (all_founders w xs ns h) ∙ ap (λ j. with_joiner (founders w ns) j) (founder_there w xs n h)

-- ---- where one is put

abbrev pub below : ℕ → List DeclaredServer → ℕ
below n xs = prefix_len (λ (x : DeclaredServer). not (nat_lt n x.number)) xs

-- one whose number isn't there goes behind those below it
pub inserts : (xs : List DeclaredServer) (s : DeclaredServer) (k : ℕ) → is_there xs s.number ≡ false → k ≡ below s.number xs → with_declared xs s ≡ insert xs k s
inserts [] s k n e = let z : k ≡ 0 = e in rw z refl
inserts (y ∷ ys) s k n e = go (y.number == s.number) refl (nat_lt s.number y.number) refl (λ h. inserts ys s (below s.number ys) h refl)
  where
    go : (a : Bool) → (y.number == s.number) ≡ a → (u : Bool) → nat_lt s.number y.number ≡ u → (is_there ys s.number ≡ false → with_declared ys s ≡ insert ys (below s.number ys) s) → with_declared (y ∷ ys) s ≡ insert (y ∷ ys) k s
    go true q u f r = absurd (false≢true (sym n ∙ ap (λ b. b || is_there ys s.number) q))
    go false q true f r = let z : k ≡ 0 = e ∙ (rw f refl) in rw (q, f, z) refl
    go false q false f r = let z : k ≡ suc (below s.number ys) = e ∙ (rw f (omega arith)) in rw (q, f, z) (ap (λ l. y ∷ l) (r (ap (λ b. b || is_there ys s.number) (sym q) ∙ n)))

abbrev pub before : ℕ → List Joiner → ℕ
before n js = prefix_len (λ (x : Joiner). not (nat_lt n x.inc.server)) js

pub joins : (js : List Joiner) (j : Joiner) (k : ℕ) → k ≡ before j.inc.server js → with_joiner js j ≡ insert js k j
joins [] j k e = let z : k ≡ 0 = e in rw z refl
joins (y ∷ ys) j k e = go (nat_lt j.inc.server y.inc.server) refl (joins ys j (before j.inc.server ys) refl)
  where
    go : (u : Bool) → nat_lt j.inc.server y.inc.server ≡ u → with_joiner ys j ≡ insert ys (before j.inc.server ys) j → with_joiner (y ∷ ys) j ≡ insert (y ∷ ys) k j
    go true f r = let z : k ≡ 0 = e ∙ (rw f refl) in rw (with_joiner, f, z) refl
    go false f r = let z : k ≡ suc (before j.inc.server ys) = e ∙ (rw f (omega arith)) in rw (with_joiner, f, z) (ap (λ l. y ∷ l) r)

-- ---- defaults, from the greatest number on

pub found_default : (u : List ℕ) (n k : ℕ) (b : Bool) → 0 < k → b ≡ (not (k == n) && bytes_eq (default_uuid k) u) → b ≡ true → is_default_of_other u n k ≡ true
found_default u n zero b h e t = absurd (omega (arith, h))
found_default u n (suc k) b h e t = ap (λ x. x || is_default_of_other u n k) (sym e ∙ t)

pub other_default : (u : List ℕ) (n k : ℕ) (b : Bool) → 0 < k → b ≡ (not (k == n) && bytes_eq (default_uuid k) u) → b ≡ false → is_default_of_other u n k ≡ is_default_of_other u n (k - 1)
other_default u n zero b h e t = absurd (omega (arith, h))
other_default u n (suc k) b h e t = ap (λ x. x || is_default_of_other u n k) (sym e ∙ t) ∙ ap (λ j. is_default_of_other u n j) (less k)
  where
    less : (j : ℕ) → j ≡ suc j - 1
    less j = omega arith

-- ---- tests one after another

pub first_true : (a b : Bool) → true ≡ a → true ≡ (a || b)
first_true a b h = ap (λ x. x || b) h

pub second_true : (a b c : Bool) → false ≡ a → true ≡ b → true ≡ (a || (b || c))
second_true a b c f t = ap (λ x. x || c) t ∙ ap (λ x. x || (b || c)) f

pub neither : (a b x y : Bool) → false ≡ a → false ≡ b → x ≡ y → x ≡ (a || (b || y))
neither a b x y f g e = e ∙ (ap (λ z. z || y) g ∙ ap (λ z. z || (b || y)) f)
