-- A place that is done takes keys over: who is killed by that, and who holds which key then.
use Rattle.std.proofs.Common.{◌≡◌, subst, ℕ, Bool, true, false, ◌&&◌, ◌||◌, not, Option, Some, None, List, [], ◌∷◌, fold, map, refl, sym, ap, ◌∙◌}
use Rattle.std.specs.Prelude.{◌==◌, is_some, if◌then◌else◌}
use Rattle.std.specs.Option.{option_map}
use Rattle.std.specs.List.{list_any}
use Rattle.std.proofs.lemmas.Bool.{and_parts, eqb-true, true≢false}
use Rattle.gr_ids.specs.declared.names.Gtid.{Gtid}
use Rattle.key_items.specs.declared.item.Item.{Item}
use Rattle.key_items.specs.Items.{has_item}
use Rattle.group_rules.specs.Events.{Cert, Done, Life}
use Rattle.group_rules.specs.Life.{certs}
use Rattle.group_rules.specs.Queue.{at_place}
use Rattle.group_rules.specs.Sessions.{Phase, Free as IsFree, Holding as IsHolding, Active as IsActive, Asking as IsAsking, is_active, is_asking, is_holding, phase}
use Rattle.group_rules.specs.Keys.{hit_by, holds_key, keeps_key, killed}
use Rattle.row_locks.specs.Locking.{Locked, SessionKey, holders_of, session_at, taken_over, with_loser}
use Rattle.local_sessions.specs.Standing.{Session, Stage, Active, WasKilled, at_stage, session_in, stage_of}
use Rattle.local_sessions.specs.Others.{can_lose, has_session, killed_by, loses, unless_killed}
use Rattle.local_sessions.specs.Following.{Follows, LocksOf, StandFor, is_holder, is_left, stage_from, stage_in}
use Rattle.local_sessions.proofs.Active.{found_is}
use Rattle.local_sessions.proofs.Finding.{map_in}
use Rattle.local_sessions.proofs.Order.{killed_keeps}
use Rattle.local_sessions.proofs.KeyHolders.{active_phase, has_number, left_is_active}

and_false : (b : Bool) → (b && false) ≡ false
and_false true = refl
and_false false = refl

and_true : (b : Bool) → (b && true) ≡ b
and_true true = refl
and_true false = refl

chosen : (b : Bool) (g : Gtid) → (elim b as (λ z. Option Gtid) [ true ↦ Some g | false ↦ None ]) ≡ (if b then Some g else None)
chosen true g = refl
chosen false g = refl

-- ---- those that lose a key

loser_more : (ss : List ℕ) (o : Option ℕ) (t : ℕ) → has_session (with_loser ss o) t ≡ (is_holder o t || has_session ss t)
loser_more ss None t = refl
loser_more ss (Some u) t = has_number ss u t

folded : (ks : List SessionKey) (ss : List ℕ) (is : List Item) (t : ℕ) → has_session (fold (λ rs i. with_loser rs (session_at ks i)) ss is) t ≡ (has_session ss t || list_any (λ i. is_holder (session_at ks i) t) is)
folded ks ss [] t = sym (or_false (has_session ss t))
  where
    or_false : (b : Bool) → (b || false) ≡ b
    or_false true = refl
    or_false false = refl
folded ks ss (i ∷ is) t =
    folded ks (with_loser ss (session_at ks i)) is t
    ∙ (ap (λ b. b || list_any (λ j. is_holder (session_at ks j) t) is) (loser_more ss (session_at ks i) t) ∙ turn (is_holder (session_at ks i) t) (has_session ss t) (list_any (λ j. is_holder (session_at ks j) t) is))
  where
    turn : (a b c : Bool) → ((a || b) || c) ≡ (b || (a || c))
    turn true true c = refl
    turn true false c = refl
    turn false true c = refl
    turn false false c = refl

any_same : (p q : Item → Bool) (is : List Item) → ((i : Item) → p i ≡ q i) → list_any p is ≡ list_any q is
any_same p q [] h = refl
any_same p q (i ∷ is) h = rw (h i) (ap (λ b. q i || b) (any_same p q is h))

-- ---- whose keys can be lost

abbrev can_lose_at : Option Stage → Bool
can_lose_at None = false
can_lose_at (Some g) = can_lose g

module _ (xs : List Session) (k : Locked) (l : Life) (p : ℕ) (c : Cert) (f : StandFor xs l) (o : LocksOf k l) (e : at_place (certs l) p ≡ Some c) where
  -- the losers
  abbrev ss : List ℕ
  ss = holders_of k.keys c.txn.items

  -- a session is killed
  abbrev hit : ℕ → Bool
  hit t = has_session ss t && loses xs t

  loses_is : (t : ℕ) → loses xs t ≡ (is_active (phase l t) && not (is_some (killed l t)))
  loses_is t = read (session_in xs t) ∙ (ap can_lose_at (f t).stage ∙ go (killed l t) (is_left l t) (phase l t) refl refl refl)
    where
      read : (q : Option Session) → (elim q [ None ↦ false | Some x ↦ can_lose x.stage ]) ≡ can_lose_at (stage_of q)
      read None = refl
      read (Some x) = refl

      go : (z : Option Gtid) (w : Bool) (q : Phase) → killed l t ≡ z → is_left l t ≡ w → phase l t ≡ q → can_lose_at (stage_in l t) ≡ (is_active (phase l t) && not (is_some (killed l t)))
      go (Some g) w q a b d = rw (stage_in, a) (sym (and_false (is_active (phase l t))))
      go None true q a b d = rw (stage_in, a, b) (rw (left_is_active l t b) refl)
      go None false IsFree a b d = rw (stage_in, a, b, d) refl
      go None false IsHolding a b d = rw (stage_in, a, b, d) refl
      go None false IsActive a b d = rw (stage_in, a, b, d) refl
      go None false (IsAsking i) a b d = rw (stage_in, a, b, d) refl

  -- of an active one that wasn't killed, it is a loser where it keeps one of the keys
  is_loser : (t : ℕ) → is_active (phase l t) ≡ true → killed l t ≡ None → has_session ss t ≡ list_any (keeps_key l t) c.txn.items
  is_loser t a b =
      let active : phase l t ≡ IsActive = active_phase (phase l t) a in
      folded k.keys [] c.txn.items t ∙ any_same (λ i. is_holder (session_at k.keys i) t) (keeps_key l t) c.txn.items (λ i. o.keys i t ∙ rw (holds_key, active, b) refl)

  killed_then : (t : ℕ) → killed (Done p ∷ l) t ≡ (if hit t then Some c.gtid else killed l t)
  killed_then t = go (killed l t) (is_active (phase l t)) refl refl
    where
      go : (z : Option Gtid) (a : Bool) → killed l t ≡ z → is_active (phase l t) ≡ a → killed (Done p ∷ l) t ≡ (if hit t then Some c.gtid else killed l t)
      go (Some g) a x y = rw (loses_is t, killed, x, and_false (is_active (phase l t)), and_false (has_session ss t)) refl
      go None false x y = rw (loses_is t, killed, x, hit_by, e, y, and_false (has_session ss t)) refl
      go None true x y =
          let taken : (has_session ss t && (is_active (phase l t) && not (is_some (killed l t)))) ≡ list_any (keeps_key l t) c.txn.items = rw (y, x) (and_true (has_session ss t) ∙ is_loser t y x) in
          rw (loses_is t, taken, killed, x, hit_by, e, y) (chosen (list_any (keeps_key l t) c.txn.items) c.gtid)

  -- where its transaction stands then
  stage_hit : (t : ℕ) → hit t ≡ true → stage_in (Done p ∷ l) t ≡ Some (WasKilled c.gtid)
  stage_hit t h = let z : killed (Done p ∷ l) t ≡ Some c.gtid = killed_then t ∙ rw h refl in rw (stage_in, z) refl

  stage_missed : (t : ℕ) → hit t ≡ false → stage_in (Done p ∷ l) t ≡ stage_in l t
  stage_missed t h = let z : killed (Done p ∷ l) t ≡ killed l t = killed_then t ∙ rw h refl in ap (λ q. stage_from q (is_left l t) (phase l t)) z

  missed : (t : ℕ) → hit t ≡ false → (q : Option Session) → Follows q l t → Follows q (Done p ∷ l) t
  missed t h None g = record { stage = g.stage ∙ sym (stage_missed t h); after = tt; state = tt; set = tt; changes = tt }
  missed t h (Some x) g = record { stage = g.stage ∙ sym (stage_missed t h); after = g.after; state = g.state; set = g.set; changes = g.changes }

  one : (t : ℕ) (q : Option Session) → session_in xs t ≡ q → Follows q l t → Follows (option_map (killed_by c.gtid ss) q) (Done p ∷ l) t
  one t None a g = missed t (rw (loses, a) (and_false (has_session ss t))) None g
  one t (Some x) a g = go (hit t) refl
    where
      same : (has_session ss x.session && can_lose x.stage) ≡ hit t
      same = let n : x.session ≡ t = found_is xs t x a in rw (loses, a, n) refl

      go : (b : Bool) → hit t ≡ b → Follows (Some (killed_by c.gtid ss x)) (Done p ∷ l) t
      go false h = let z : killed_by c.gtid ss x ≡ x = rw (killed_by, same, h) refl in subst (λ y. Follows (Some y) (Done p ∷ l) t) (sym z) (missed t h (Some x) g)
      go true h =
          let z : killed_by c.gtid ss x ≡ at_stage (WasKilled c.gtid) x = rw (killed_by, same, h) refl in
          subst (λ y. Follows (Some y) (Done p ∷ l) t) (sym z)
          (record {
            stage = sym (stage_hit t h);
            after = g.after;
            state = g.state;
            set = λ y. absurd (let w : WasKilled c.gtid ≡ Active = y in cc);
            changes = λ y. absurd (true≢false (sym y));
          })

  pub done : StandFor (map (killed_by c.gtid ss) xs) (Done p ∷ l)
  done t = subst (λ q. Follows q (Done p ∷ l) t) (sym (map_in (killed_by c.gtid ss) xs t (killed_keeps c.gtid ss))) (one t (session_in xs t) refl (f t))

  -- ---- who holds which key then

  -- a session that is killed holds nothing, and the others what they held
  kept : (z : Option ℕ) (t : ℕ) → is_holder (unless_killed xs ss z) t ≡ (not (hit t) && is_holder z t)
  kept None t = sym (and_false (not (hit t)))
  kept (Some u) t = go (u == t) (hit u) refl refl
    where
      go : (b h : Bool) → (u == t) ≡ b → hit u ≡ h → is_holder (unless_killed xs ss (Some u)) t ≡ (not (hit t) && (u == t))
      go false true a g = rw (unless_killed, g, a) (sym (and_false (not (hit t))))
      go false false a g = rw (unless_killed, g, a) (sym (and_false (not (hit t))))
      go true true a g = let w : hit t ≡ true = ap hit (sym (eqb-true u t a)) ∙ g in rw (unless_killed, g, w) refl
      go true false a g = let w : hit t ≡ false = ap hit (sym (eqb-true u t a)) ∙ g in rw (unless_killed, g, w) refl

  -- a key that the place didn't take over
  holds_then : (i : Item) (t : ℕ) → has_item c.txn.items i ≡ false → holds_key (Done p ∷ l) i t ≡ (not (hit t) && holds_key l i t)
  holds_then i t n = go (hit t) refl
    where
      keeps : keeps_key (Done p ∷ l) t i ≡ keeps_key l t i
      keeps = rw (keeps_key, e, n) refl

      go : (h : Bool) → hit t ≡ h → holds_key (Done p ∷ l) i t ≡ (not (hit t) && holds_key l i t)
      go false h = let z : killed (Done p ∷ l) t ≡ killed l t = killed_then t ∙ rw h refl in rw (holds_key, z, keeps, h) refl
      go true h =
          let z : killed (Done p ∷ l) t ≡ Some c.gtid = killed_then t ∙ rw h refl in
          let lost = and_parts (is_active (phase l t)) (not (is_some (killed l t))) (sym (loses_is t) ∙ (and_parts (has_session ss t) (loses xs t) h).1) in
          let active : phase l t ≡ IsActive = active_phase (phase l t) lost.0 in
          rw (holds_key, z, keeps, h, active) refl

  pub freed : (now : Locked) → ((j : Item) → session_at now.keys j ≡ unless_killed xs ss (taken_over c.txn.items (session_at k.keys) j)) → LocksOf now (Done p ∷ l)
  freed now d = record {
    keys = λ i t. ap (λ z. is_holder z t) (d i) ∙ key i t (has_item c.txn.items i) refl;
    called = o.called;
    dead = λ t z. dies t z (hit t) refl;
    held = λ t i z. waits t i z (has_item c.txn.items i) refl;
  }
    where
      dies : (t : ℕ) → is_some (killed (Done p ∷ l) t) ≡ true → (b : Bool) → hit t ≡ b → is_active (phase l t) ≡ true
      dies t z true n = (and_parts (is_active (phase l t)) (not (is_some (killed l t))) (sym (loses_is t) ∙ (and_parts (has_session ss t) (loses xs t) n).1)).0
      dies t z false n = let same : killed (Done p ∷ l) t ≡ killed l t = killed_then t ∙ rw n refl in o.dead t (ap is_some (sym same) ∙ z)

      key : (i : Item) (t : ℕ) (b : Bool) → has_item c.txn.items i ≡ b → is_holder (unless_killed xs ss (taken_over c.txn.items (session_at k.keys) i)) t ≡ holds_key (Done p ∷ l) i t
      key i t true n =
          let over : holds_key (Done p ∷ l) i t ≡ false = rw (holds_key, keeps_key, e, n) (and_false (is_asking (phase l t) || (is_active (phase l t) && not (is_some (killed (Done p ∷ l) t))))) in
          rw (taken_over, n) (sym over)
      key i t false n = rw (taken_over, n) (kept (session_at k.keys i) t ∙ (ap (λ z. not (hit t) && z) (o.keys i t) ∙ sym (holds_then i t n)))

      waits : (t : ℕ) (i : Item) → is_holding (phase l t) ≡ true → (b : Bool) → has_item c.txn.items i ≡ b → keeps_key (Done p ∷ l) t i ≡ false
      waits t i z true n = rw (keeps_key, e, n) refl
      waits t i z false n = rw (keeps_key, e, n) (o.held t i z)
