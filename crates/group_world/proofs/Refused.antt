-- Why a step is refused.
use Rattle.std.proofs.Common.{◌≡◌, ℕ, Bool, true, false, Some, None, Option, List, [], ◌∷◌, refl, sym, ap, ◌∙◌}
use Rattle.std.specs.Prelude.{◌&&◌, option_map}
use Rattle.std.specs.List.{list_all}
use Rattle.gr_ids.specs.declared.levels.Mode.{Mode}
use Rattle.group_rules.specs.declared.steps.Step.{Step}
use Rattle.group_rules.specs.declared.steps.Step.TheVariants.{Server, Block, Found, Session, Once, Operate, Deliver, Lose, Settle, Work, Drain, Tick, Start, Stop, Offline, ShowMembers, ShowSlots, ShowConfig, ShowGtids, ShowRows, ShowQueue, ShowCertifier, ShowKept, ShowWire, Finish}
use Rattle.group_rules.specs.Script.{Play, Refusal, Declared, NoServer, AlreadyRunning, NoMember, all_run, is_in_use, meets_declared, names, refusal, wire_refusal}
use Rattle.group_rules.specs.World.{World, is_declared}
use Rattle.report_text.specs.declared.fault.WorldFault.{WorldFault}
use Rattle.world_servers.specs.Naming.{is_there}
use Rattle.world_servers.specs.declared.servers.DeclaredServer.{DeclaredServer}
use Rattle.group_world.specs.Refusing.{fault_for, others_of, passes, server_of}

-- ---- the servers that are named

pub names_are : (p : ℕ → Bool) (x : Step) → list_all p (names x) ≡ (passes p (server_of x) && list_all p (others_of x))
names_are p (Server n u v g) = refl
names_are p (Block k) = refl
names_are p (Found g m h e q ns) = refl
names_are p (Session n s r) = refl
names_are p (Once n s c) = refl
names_are p (Operate n o) = refl
names_are p (Deliver k) = refl
names_are p (Lose k) = refl
names_are p (Settle ns) = refl
names_are p (Work n q) = refl
names_are p Drain = refl
names_are p (Tick n k) = refl
names_are p (Start n via) = refl
names_are p (Stop n) = refl
names_are p (Offline n i r) = refl
names_are p (ShowMembers n) = refl
names_are p (ShowSlots n) = refl
names_are p (ShowConfig n t) = refl
names_are p (ShowGtids n) = refl
names_are p (ShowRows n) = refl
names_are p (ShowQueue n) = refl
names_are p (ShowCertifier n) = refl
names_are p (ShowKept n) = refl
names_are p ShowWire = refl
names_are p (Finish n) = refl

-- a step that declares no server and founds no group meets nothing that is declared
pub declares_nothing : (x : Step) (w : World) → ((n : ℕ) (u v : List ℕ) (g : ℕ) → x ≡ Server n u v g → ⊥) → ((g : List ℕ) (m : Mode) (h e q : ℕ) (ns : List ℕ) → x ≡ Found g m h e q ns → ⊥) → false ≡ meets_declared x w
declares_nothing (Server n u v g) w a b = absurd (a n u v g refl)
declares_nothing (Block k) w a b = refl
declares_nothing (Found g m h e q ns) w a b = absurd (b g m h e q ns refl)
declares_nothing (Session n s r) w a b = refl
declares_nothing (Once n s c) w a b = refl
declares_nothing (Operate n o) w a b = refl
declares_nothing (Deliver k) w a b = refl
declares_nothing (Lose k) w a b = refl
declares_nothing (Settle ns) w a b = refl
declares_nothing (Work n q) w a b = refl
declares_nothing Drain w a b = refl
declares_nothing (Tick n k) w a b = refl
declares_nothing (Start n via) w a b = refl
declares_nothing (Stop n) w a b = refl
declares_nothing (Offline n i r) w a b = refl
declares_nothing (ShowMembers n) w a b = refl
declares_nothing (ShowSlots n) w a b = refl
declares_nothing (ShowConfig n t) w a b = refl
declares_nothing (ShowGtids n) w a b = refl
declares_nothing (ShowRows n) w a b = refl
declares_nothing (ShowQueue n) w a b = refl
declares_nothing (ShowCertifier n) w a b = refl
declares_nothing (ShowKept n) w a b = refl
declares_nothing ShowWire w a b = refl
declares_nothing (Finish n) w a b = refl

all_as : (p q : ℕ → Bool) → ((n : ℕ) → p n ≡ q n) → (ns : List ℕ) → list_all p ns ≡ list_all q ns
all_as p q h [] = refl
all_as p q h (n ∷ ns) = ap (λ b. b && list_all p ns) (h n) ∙ ap (λ b. q n && b) (all_as p q h ns)

-- all are declared where the one is, and the others are
pub declared_all : (xs : List DeclaredServer) (w : World) → ((n : ℕ) → is_there xs n ≡ is_declared w n) → (x : Step) → list_all (is_declared w) (names x) ≡ (passes (is_there xs) (server_of x) && list_all (is_there xs) (others_of x))
declared_all xs w h x = sym (all_as (is_there xs) (is_declared w) h (names x)) ∙ names_are (is_there xs) x

pub first_fails : (b c d e : Bool) → b ≡ false → c ≡ (d && e) → d ≡ b → false ≡ c
first_fails b c d e h p q = sym (p ∙ ap (λ x. x && e) (q ∙ h))

pub first_passes : (b c d e f : Bool) → b ≡ true → c ≡ (d && e) → d ≡ b → f ≡ e → f ≡ c
first_passes b c d e f h p q r = r ∙ sym (p ∙ ap (λ x. x && e) (q ∙ h))

-- ---- the first reason

-- (it gives `rw` the type of its goal)
as_told : (x : Step) (y : Play) (o : Option Refusal) → refusal x y ≡ o → refusal x y ≡ o
as_told x y o e = e

abbrev pub Told : Step → Play → Option WorldFault → Type 0
Told x y o = o ≡ option_map fault_for (refusal x y)

pub at_declared : (x : Step) (y : Play) → meets_declared x y.world ≡ true → Told x y (Some (fault_for Declared))
at_declared x y h = sym (ap (option_map fault_for) (as_told x y (Some Declared) (rw (h, refusal) refl)))

module _ (x : Step) (y : Play) (undeclared : meets_declared x y.world ≡ false) where
  pub at_server : list_all (is_declared y.world) (names x) ≡ false → Told x y (Some (fault_for NoServer))
  at_server h = sym (ap (option_map fault_for) (as_told x y (Some NoServer) (rw (undeclared, h, refusal) refl)))

  module _ (there : list_all (is_declared y.world) (names x) ≡ true) where
    pub at_running : is_in_use x y.world ≡ true → Told x y (Some (fault_for AlreadyRunning))
    at_running h = sym (ap (option_map fault_for) (as_told x y (Some AlreadyRunning) (rw (undeclared, there, h, refusal) refl)))

    module _ (unused : is_in_use x y.world ≡ false) where
      pub at_wire : (o : Option WorldFault) (f : WorldFault) → o ≡ option_map fault_for (wire_refusal x y) → o ≡ Some f → Told x y (Some f)
      at_wire o f h e = go (wire_refusal x y) refl (sym e ∙ h)
        where
          go : (r : Option Refusal) → wire_refusal x y ≡ r → Some f ≡ option_map fault_for r → Told x y (Some f)
          go None q k = absurd (cc k)
          go (Some r) q k = k ∙ sym (ap (option_map fault_for) (as_told x y (Some r) (rw (undeclared, there, unused, q, refusal) refl)))

      unsent : (o : Option WorldFault) → o ≡ option_map fault_for (wire_refusal x y) → o ≡ None → wire_refusal x y ≡ None
      unsent o h e = go (wire_refusal x y) (sym e ∙ h)
        where
          go : (r : Option Refusal) → None ≡ option_map fault_for r → r ≡ None
          go None k = refl
          go (Some r) k = absurd (cc k)

      pub at_member : (o : Option WorldFault) → o ≡ option_map fault_for (wire_refusal x y) → o ≡ None → all_run x y ≡ false → Told x y (Some (fault_for NoMember))
      at_member o h e k = let none = unsent o h e in sym (ap (option_map fault_for) (as_told x y (Some NoMember) (rw (undeclared, there, unused, none, k, refusal) refl)))

      pub at_none : (o : Option WorldFault) → o ≡ option_map fault_for (wire_refusal x y) → o ≡ None → all_run x y ≡ true → Told x y None
      at_none o h e k = let none = unsent o h e in sym (ap (option_map fault_for) (as_told x y None (rw (undeclared, there, unused, none, k, refusal) refl)))
