-- A step of another form changes nothing.
use Rattle.std.proofs.Common.{◌≡◌, ℕ, Option, List, refl}
use Rattle.gr_ids.specs.declared.levels.Mode.{Mode}
use Rattle.key_items.specs.declared.change.Change.{Change}
use Rattle.key_items.specs.declared.item.Item.{Item}
use Rattle.group_rules.specs.declared.requests.Operator.{Operator}
use Rattle.group_rules.specs.declared.requests.Request.{Request}
use Rattle.group_rules.specs.declared.steps.Step.{Step}
use Rattle.group_rules.specs.declared.steps.Step.TheVariants.{Server, Block, Found, Session, Once, Operate, Deliver, Lose, Settle, Work, Drain, Tick, Start, Stop, Offline, ShowMembers, ShowSlots, ShowConfig, ShowGtids, ShowRows, ShowQueue, ShowCertifier, ShowKept, ShowWire, Finish}
use Rattle.group_rules.specs.Script.{Play}
use Rattle.group_world.specs.Applying.{moves, sets}

pub moves_not : (x : Step) (y : Play) → ((n : ℕ) (s : ℕ) (r : Request) → x ≡ Session n s r → ⊥) → ((n : ℕ) (s : ℕ) (c : Change) → x ≡ Once n s c → ⊥) → ((n : ℕ) (o : Operator) → x ≡ Operate n o → ⊥) → ((k : ℕ) → x ≡ Deliver k → ⊥) → ((k : ℕ) → x ≡ Lose k → ⊥) → ((ns : List ℕ) → x ≡ Settle ns → ⊥) → ((n : ℕ) (p : Option ℕ) → x ≡ Work n p → ⊥) → (x ≡ Drain → ⊥) → ((n : ℕ) (k : ℕ) → x ≡ Tick n k → ⊥) → ((n : ℕ) → x ≡ Finish n → ⊥) → moves x y ≡ y
moves_not (Server n u v g) y h0 h1 h2 h3 h4 h5 h6 h7 h8 h9 = refl
moves_not (Block k) y h0 h1 h2 h3 h4 h5 h6 h7 h8 h9 = refl
moves_not (Found g m h e q ns) y h0 h1 h2 h3 h4 h5 h6 h7 h8 h9 = refl
moves_not (Session n s r) y h0 h1 h2 h3 h4 h5 h6 h7 h8 h9 = absurd (h0 n s r refl)
moves_not (Once n s c) y h0 h1 h2 h3 h4 h5 h6 h7 h8 h9 = absurd (h1 n s c refl)
moves_not (Operate n o) y h0 h1 h2 h3 h4 h5 h6 h7 h8 h9 = absurd (h2 n o refl)
moves_not (Deliver k) y h0 h1 h2 h3 h4 h5 h6 h7 h8 h9 = absurd (h3 k refl)
moves_not (Lose k) y h0 h1 h2 h3 h4 h5 h6 h7 h8 h9 = absurd (h4 k refl)
moves_not (Settle ns) y h0 h1 h2 h3 h4 h5 h6 h7 h8 h9 = absurd (h5 ns refl)
moves_not (Work n p) y h0 h1 h2 h3 h4 h5 h6 h7 h8 h9 = absurd (h6 n p refl)
moves_not Drain y h0 h1 h2 h3 h4 h5 h6 h7 h8 h9 = absurd (h7 refl)
moves_not (Tick n k) y h0 h1 h2 h3 h4 h5 h6 h7 h8 h9 = absurd (h8 n k refl)
moves_not (Start n via) y h0 h1 h2 h3 h4 h5 h6 h7 h8 h9 = refl
moves_not (Stop n) y h0 h1 h2 h3 h4 h5 h6 h7 h8 h9 = refl
moves_not (Offline n i r) y h0 h1 h2 h3 h4 h5 h6 h7 h8 h9 = refl
moves_not (ShowMembers n) y h0 h1 h2 h3 h4 h5 h6 h7 h8 h9 = refl
moves_not (ShowSlots n) y h0 h1 h2 h3 h4 h5 h6 h7 h8 h9 = refl
moves_not (ShowConfig n t) y h0 h1 h2 h3 h4 h5 h6 h7 h8 h9 = refl
moves_not (ShowGtids n) y h0 h1 h2 h3 h4 h5 h6 h7 h8 h9 = refl
moves_not (ShowRows n) y h0 h1 h2 h3 h4 h5 h6 h7 h8 h9 = refl
moves_not (ShowQueue n) y h0 h1 h2 h3 h4 h5 h6 h7 h8 h9 = refl
moves_not (ShowCertifier n) y h0 h1 h2 h3 h4 h5 h6 h7 h8 h9 = refl
moves_not (ShowKept n) y h0 h1 h2 h3 h4 h5 h6 h7 h8 h9 = refl
moves_not ShowWire y h0 h1 h2 h3 h4 h5 h6 h7 h8 h9 = refl
moves_not (Finish n) y h0 h1 h2 h3 h4 h5 h6 h7 h8 h9 = absurd (h9 n refl)

pub sets_not : (x : Step) (y : Play) → ((n : ℕ) (u : List ℕ) (v : List ℕ) (g : ℕ) → x ≡ Server n u v g → ⊥) → ((k : ℕ) → x ≡ Block k → ⊥) → ((g : List ℕ) (m : Mode) (h : ℕ) (e : ℕ) (q : ℕ) (ns : List ℕ) → x ≡ Found g m h e q ns → ⊥) → ((n : ℕ) (via : ℕ) → x ≡ Start n via → ⊥) → ((n : ℕ) → x ≡ Stop n → ⊥) → ((n : ℕ) (i : Item) (r : List ℕ) → x ≡ Offline n i r → ⊥) → sets x y ≡ y
sets_not (Server n u v g) y h0 h1 h2 h3 h4 h5 = absurd (h0 n u v g refl)
sets_not (Block k) y h0 h1 h2 h3 h4 h5 = absurd (h1 k refl)
sets_not (Found g m h e q ns) y h0 h1 h2 h3 h4 h5 = absurd (h2 g m h e q ns refl)
sets_not (Session n s r) y h0 h1 h2 h3 h4 h5 = refl
sets_not (Once n s c) y h0 h1 h2 h3 h4 h5 = refl
sets_not (Operate n o) y h0 h1 h2 h3 h4 h5 = refl
sets_not (Deliver k) y h0 h1 h2 h3 h4 h5 = refl
sets_not (Lose k) y h0 h1 h2 h3 h4 h5 = refl
sets_not (Settle ns) y h0 h1 h2 h3 h4 h5 = refl
sets_not (Work n p) y h0 h1 h2 h3 h4 h5 = refl
sets_not Drain y h0 h1 h2 h3 h4 h5 = refl
sets_not (Tick n k) y h0 h1 h2 h3 h4 h5 = refl
sets_not (Start n via) y h0 h1 h2 h3 h4 h5 = absurd (h3 n via refl)
sets_not (Stop n) y h0 h1 h2 h3 h4 h5 = absurd (h4 n refl)
sets_not (Offline n i r) y h0 h1 h2 h3 h4 h5 = absurd (h5 n i r refl)
sets_not (ShowMembers n) y h0 h1 h2 h3 h4 h5 = refl
sets_not (ShowSlots n) y h0 h1 h2 h3 h4 h5 = refl
sets_not (ShowConfig n t) y h0 h1 h2 h3 h4 h5 = refl
sets_not (ShowGtids n) y h0 h1 h2 h3 h4 h5 = refl
sets_not (ShowRows n) y h0 h1 h2 h3 h4 h5 = refl
sets_not (ShowQueue n) y h0 h1 h2 h3 h4 h5 = refl
sets_not (ShowCertifier n) y h0 h1 h2 h3 h4 h5 = refl
sets_not (ShowKept n) y h0 h1 h2 h3 h4 h5 = refl
sets_not ShowWire y h0 h1 h2 h3 h4 h5 = refl
sets_not (Finish n) y h0 h1 h2 h3 h4 h5 = refl
