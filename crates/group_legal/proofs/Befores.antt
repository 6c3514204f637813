-- The third law of a legal run: a BEFORE transaction reads all that is certified before the place of its Sync, which is above all that was taken at its call.
use Rattle.std.proofs.Common.{◌≡◌, ◌⊎◌, inl, inr, ℕ, suc, ◌≤◌, ◌<◌, Bool, true, false, not, ◌&&◌, Option, Some, None, List, [], ◌∷◌, ◌++◌, refl, sym, ap, subst, ◌∙◌, length, arith}
use Rattle.std.specs.Prelude.{◌==◌}
use Rattle.std.specs.List.{list_all}
use Rattle.std.proofs.lemmas.Bool.{false≢true, cases_Bool, and_parts, eqb-true}
use Rattle.gr_ids.specs.declared.names.Inc.{Inc}
use Rattle.gr_ids.specs.declared.levels.Level.{Level}
use Rattle.gr_ids.specs.Names.{inc_eq}
use Rattle.gtid_sets.specs.Sets.{Gtids}
use Rattle.node_rules.proofs.Incs.{inc_is}
use Rattle.paxos_forms.specs.declared.welcome.Welcome.{Welcome}
use Rattle.group_rules.specs.Events.{Did, Founds, Starts, Came, Made, Took, Skips, Done, Committed, Is, Gave, Answered, Begun, Changed, Replied, Called, AsksCommit, Ends, Enters, Restores, AskFails, Life, Setup, Entry}
use Rattle.group_rules.specs.Life.{taken, own_place, entered, has_give, last_made}
use Rattle.group_rules.specs.declared.holds.Conditions.{Conditions}
use Rattle.group_rules.specs.declared.holds.Pending.{Pending}
use Rattle.group_rules.specs.Holds.{has_sync, sync_then, sync_place, standing, is_synced, is_met, is_pending, is_clear_at, conditions}
use Rattle.group_rules.specs.OneList.{listed}
use Rattle.group_rules.specs.Sessions.{Call}
use Rattle.group_rules.specs.Legal.{IsPast, BegunAt, ReadsAll, IsAboveAll, BeforeLaw}
use Rattle.group_rules.specs.World.{Past, Does, life_in}
use Rattle.group_bridge.specs.Left as left
use Rattle.group_bridge.specs.Left.{IsBegun}
use Rattle.group_bridge.specs.Moves.{slots_in}
use Rattle.group_runs.specs.Runs.{is_founder, AllDid, IsDone}
use Rattle.group_order.specs.OneLog.{IsReady, LogOver}
use Rattle.group_order.proofs.Nexts.{did_past}
use Rattle.group_order.proofs.Shapes.{Shape, shapes}
use Rattle.group_laws.specs.Lists as listing
use Rattle.group_laws.specs.Entries as law
use Rattle.group_laws.specs.View as seen
use Rattle.group_laws.specs.Life as lives
use Rattle.group_laws.specs.World as run
use Rattle.group_laws.specs.World.{IsKeptList}
use Rattle.group_laws.specs.Laws.{ReadsBefore}
use Rattle.group_laws.proofs.Lists.{IsPast-trans, IsPast-mem, IsPast-length, pasts_compare}
use Rattle.group_laws.proofs.Worlds.{kept_number, kept_past}
use Rattle.group_laws.proofs.Begins as begins
use Rattle.group_laws.proofs.Acks.{values_past}
use Rattle.group_lives.specs.Lives.{placed, law_cert, life_of, run_of}
use Rattle.group_lives.proofs.Runs.{lives_agree}
use Rattle.group_lives.proofs.Taking.{places_agree}
use Rattle.group_lawful.specs.Knows.{Sound}
use Rattle.group_lawful.proofs.Marks.{lived_past, sound_past}
use Rattle.group_lawful.proofs.Known.{sound_took}
use Rattle.group_lawful.proofs.Changes.{marked_stays}
use Rattle.group_legal.specs.Bases.{list_of, base_in}
use Rattle.group_legal.specs.LawRun.{MomentOf, IsLawRun}
use Rattle.group_legal.proofs.Points.{point, values_length, sound_at, history_past, did_here, called_past, begun_past, called_level, was_begun, sync_is, is_begun, has_read, certified_there}
use Rattle.group_legal.proofs.Greetings.{welcomed_at}

-- ---- the own value of a number

record OwnAt (l : Life) (i : Inc) (n p : ℕ) : Type 0 where
  entry : Entry
  before : Life
  past : left.IsPast (Took entry ∷ before) l
  place : entry.place ≡ p
  origin : entry.value.id.origin ≡ i
  number : entry.value.id.number ≡ n

own_before : (d : Did) (l : Life) (i : Inc) (n p : ℕ) → OwnAt l i n p → OwnAt (d ∷ l) i n p
own_before d l i n p k = record { entry = k.entry; before = k.before; past = inr k.past; place = k.place; origin = k.origin; number = k.number }

own_at : (l : Life) (i : Inc) (n p : ℕ) → own_place l i n ≡ Some p → OwnAt l i n p
own_at [] i n p h = absurd (cc h)
own_at (Took e ∷ l) i n p h = go (inc_eq e.value.id.origin i && (e.value.id.number == n)) refl h (own_at l i n p)
  where
    go : (b : Bool) → (inc_eq e.value.id.origin i && (e.value.id.number == n)) ≡ b → ◌≡◌ {A = Option ℕ} (elim b [ true ↦ Some e.place | false ↦ own_place l i n ]) (Some p)
        → (own_place l i n ≡ Some p → OwnAt l i n p) → OwnAt (Took e ∷ l) i n p
    go true q z k =
        let x = and_parts (inc_eq e.value.id.origin i) (e.value.id.number == n) q in
        let y : e.place ≡ p = cc z in
        record { entry = e; before = l; past = inl refl; place = y; origin = inc_is e.value.id.origin i x.0; number = eqb-true e.value.id.number n x.1 }
    go false q z k = own_before (Took e) l i n p (k z)
own_at (Founds ∷ l) i n p h = own_before Founds l i n p (own_at l i n p h)
own_at (Starts x ∷ l) i n p h = own_before (Starts x) l i n p (own_at l i n p h)
own_at (Came x ∷ l) i n p h = own_before (Came x) l i n p (own_at l i n p h)
own_at (Made v y ∷ l) i n p h = own_before (Made v y) l i n p (own_at l i n p h)
own_at (Skips s v ∷ l) i n p h = own_before (Skips s v) l i n p (own_at l i n p h)
own_at (Done q ∷ l) i n p h = own_before (Done q) l i n p (own_at l i n p h)
own_at (Committed g ∷ l) i n p h = own_before (Committed g) l i n p (own_at l i n p h)
own_at (Is x c ∷ l) i n p h = own_before (Is x c) l i n p (own_at l i n p h)
own_at (Gave a b ∷ l) i n p h = own_before (Gave a b) l i n p (own_at l i n p h)
own_at (Answered s a ∷ l) i n p h = own_before (Answered s a) l i n p (own_at l i n p h)
own_at (Begun s a b ∷ l) i n p h = own_before (Begun s a b) l i n p (own_at l i n p h)
own_at (Changed s c ∷ l) i n p h = own_before (Changed s c) l i n p (own_at l i n p h)
own_at (Replied x ∷ l) i n p h = own_before (Replied x) l i n p (own_at l i n p h)
own_at (Called s v x ∷ l) i n p h = own_before (Called s v x) l i n p (own_at l i n p h)
own_at (AsksCommit s x ∷ l) i n p h = own_before (AsksCommit s x) l i n p (own_at l i n p h)
own_at (Ends s ∷ l) i n p h = own_before (Ends s) l i n p (own_at l i n p h)
own_at (Enters u ∷ l) i n p h = own_before (Enters u) l i n p (own_at l i n p h)
own_at (Restores g cs ∷ l) i n p h = own_before (Restores g cs) l i n p (own_at l i n p h)
own_at (AskFails ∷ l) i n p h = own_before AskFails l i n p (own_at l i n p h)

-- what is met has its Sync taken
met_synced : (x : Conditions) (p : Option ℕ) (xs : List Pending) → is_met x p xs ≡ true → is_synced xs x.sync p ≡ true
met_synced x p xs h =
    let k = and_parts (list_all (λ g. not (is_pending xs g)) x.after && is_synced xs x.sync p) (is_clear_at xs x.elected && is_clear_at xs x.online) h in
    (and_parts (list_all (λ g. not (is_pending xs g)) x.after) (is_synced xs x.sync p) k.0).1

-- ---- a list has one value of each number of an incarnation

not_before : (t : Setup) (x y : law.Value) (p q k : List law.Value) → IsKeptList t k → listing.IsPast (y ∷ q) k
    → x.origin ≡ y.origin → x.number ≡ y.number → listing.IsPast (x ∷ p) q → ⊥
not_before t x y p q k kept there o n h =
    let front = kept_past t (y ∷ q) k there kept in
    let low : x.number ≤ seen.last_kept q x.origin = kept_number t q x front.1 (IsPast-mem (x ∷ p) q x h (inl refl)) in
    let high : y.number ≡ suc (seen.last_kept q y.origin) = front.0.0 in
    let same : seen.last_kept q x.origin ≡ seen.last_kept q y.origin = ap (seen.last_kept q) o in
    omega (arith, low, high, same, n)

one_number : (t : Setup) (x y : law.Value) (p q k : List law.Value) → IsKeptList t k → listing.IsPast (x ∷ p) k → listing.IsPast (y ∷ q) k
    → x.origin ≡ y.origin → x.number ≡ y.number → length p ≡ length q
one_number t x y p q k kept a b o n = by (pasts_compare (x ∷ p) (y ∷ q) k a b)
  where
    same : (x y : law.Value) (p q : List law.Value) → x ∷ p ≡ y ∷ q → length p ≡ length q
    same x y p q e = let z : p ≡ q = cc e in ap length z

    by : listing.IsPast (x ∷ p) (y ∷ q) ⊎ listing.IsPast (y ∷ q) (x ∷ p) → length p ≡ length q
    by (inl (inl e)) = same x y p q e
    by (inr (inl e)) = sym (same y x q p e)
    by (inl (inr h)) = absurd (not_before t x y p q k kept b o n h)
    by (inr (inr h)) = absurd (not_before t y x q p k kept a (sym o) (sym n) h)

-- ---- one that wasn't welcomed has taken nothing

end_none : (xs : List ℕ) (x : ℕ) → xs ++ x ∷ [] ≡ [] → ⊥
end_none [] x e = absurd (cc e)
end_none (y ∷ xs) x e = absurd (cc e)

none_taken : (l : Life) → slots_in l ≡ [] → entered l ≡ None → taken l ≡ 0
none_taken [] h e = refl
none_taken (Took x ∷ l) h e = absurd (end_none (slots_in l) x.slot h)
none_taken (Founds ∷ l) h e = none_taken l h e
none_taken (Starts x ∷ l) h e = none_taken l h e
none_taken (Came x ∷ l) h e = none_taken l h e
none_taken (Made v y ∷ l) h e = none_taken l h e
none_taken (Skips s v ∷ l) h e = absurd (end_none (slots_in l) s h)
none_taken (Done q ∷ l) h e = none_taken l h e
none_taken (Committed g ∷ l) h e = none_taken l h e
none_taken (Is x c ∷ l) h e = none_taken l h e
none_taken (Gave a b ∷ l) h e = none_taken l h e
none_taken (Answered s a ∷ l) h e = none_taken l h e
none_taken (Begun s a b ∷ l) h e = none_taken l h e
none_taken (Changed s c ∷ l) h e = none_taken l h e
none_taken (Replied x ∷ l) h e = none_taken l h e
none_taken (Called s v x ∷ l) h e = none_taken l h e
none_taken (AsksCommit s x ∷ l) h e = none_taken l h e
none_taken (Ends s ∷ l) h e = none_taken l h e
none_taken (Enters u ∷ l) h e = absurd (cc e)
none_taken (Restores g cs ∷ l) h e = none_taken l h e
none_taken (AskFails ∷ l) h e = none_taken l h e

-- ---- the law

module _ (t : Setup) (w : Past) (one : LogOver t w) (done : AllDid (IsDone t) w) (r : IsLawRun t one.log w) where
  abbrev given : Inc → List law.Placed
  given = base_in t one.log w

  abbrev values : List law.Value
  values = law.values (list_of t one.log)

  -- how much a history has taken by its life in the run
  long : (p : Past) (i : Inc) → length (lives.taken (run.life (run_of given p) i)) ≡ length (lives.marked (life_of (given i) (life_in p i)))
  long p i = ap (λ l. length (lives.taken l)) (lives_agree given p i) ∙ values_length (lives.marked (life_of (given i) (life_in p i)))

  -- an entry that was taken at an earlier moment is counted
  counted : (p : Past) → IsPast p w → (i : Inc) (e : Entry) (l : Life) → left.IsPast (Took e ∷ l) (life_in p i)
      → Sound t i (given i) (Took e ∷ l) × (e.place ≤ length (lives.taken (run.life (run_of given p) i)))
  counted p h i e l k =
      let m = r.moments p h i in
      let s : Sound t i (given i) (Took e ∷ l) =
      sound_took t i (given i) e l (lived_past t i (Took e ∷ l) (life_in p i) k m.lived) (sound_past t i (given i) (Took e ∷ l) (life_in p i) k m.always) in
      let here = places_agree t (given i) (Took e ∷ l) s.taking in
      let up = IsPast-length (lives.marked (life_of (given i) (Took e ∷ l))) (lives.marked (life_of (given i) (life_in p i)))
      (marked_stays t i (given i) (life_in p i) (Took e ∷ l) k m.lived m.always) in
      let all = long p i in
      (s, omega (arith, here, up, all))

  -- what is above all that lives had taken is above all that histories had
  above_all : (c : Past) → IsPast c w → (n : ℕ) → ((i : Inc) → length (lives.taken (run.life (run_of given c) i)) ≤ n) → IsAboveAll c (suc n)
  above_all c h n f j = by (cases_Bool (is_founder t j)) (cases_Bool (has_give (life_in c j)))
    where
      shape : Shape t j (life_in c j)
      shape = shapes t c (did_past (IsDone t) w c done h) j

      ready : IsReady t j (life_in c j) → (l : Life) → life_in c j ≡ l → taken (life_in c j) < suc n
      ready k [] e = let z : taken (life_in c j) ≡ 0 = ap taken e in omega (arith, z)
      ready k (d ∷ l) e =
          let some : length (life_in c j) ≡ suc (length l) = ap length e in
          let s = sound_at t j (given j) (life_in c j) (r.moments c h j).always k (omega (arith, some)) in
          let here = places_agree t (given j) (life_in c j) s.taking in
          let all = long c j in
          let up = f j in
          omega (arith, here, all, up)

      welcomed : is_founder t j ≡ false → has_give (life_in c j) ≡ false → (o : Option Welcome) → entered (life_in c j) ≡ o → taken (life_in c j) < suc n
      welcomed a b None e = let z = none_taken (life_in c j) (((shape.joiner a).unentered e).slots) e in omega (arith, z)
      welcomed a b (Some u) e =
          let k = welcomed_at t w one done c h j u e a b in
          let was : left.IsPast (Took k.add ∷ life_in k.before k.who) (life_in c k.who) =
          subst (λ y. left.IsPast y (life_in c k.who)) (did_here k.before k.who (Took k.add)) (history_past (Does k.who (Took k.add) ∷ k.before) c k.who k.earlier) in
          let x = (counted c h k.who k.add (life_in k.before k.who) was).1 in
          let y = k.place in
          let up = f k.who in
          omega (arith, x, y, up)

      by : (is_founder t j ≡ true) ⊎ (is_founder t j ≡ false) → (has_give (life_in c j) ≡ true) ⊎ (has_give (life_in c j) ≡ false) → taken (life_in c j) < suc n
      by (inl a) b = ready (inl a) (life_in c j) refl
      by (inr a) (inl b) = ready (inr b) (life_in c j) refl
      by (inr a) (inr b) = welcomed a b (entered (life_in c j)) refl

  -- ---- a begin at a BEFORE level

  module _ (i : Inc) (b c : Past) (v : Level) (set : Gtids) (sync : Option ℕ) (h : BegunAt w i b c v set sync) (y : has_sync v ≡ true) where
    at_b : IsPast b w
    at_b = begun_past t w one done r i b c v set sync h

    at_c : IsPast c w
    at_c = called_past t w one done r i b c v set sync h

    x : IsBegun t i (life_in b i) h.session set sync
    x = is_begun t w one done r i b c v set sync h

    abbrev number : ℕ
    number = suc (last_made (life_in c i))

    same_call : (f g : Call) → Some f ≡ Some g → f ≡ g
    same_call f g e = cc e

    call_is : x.call ≡ h.last.0
    call_is = same_call x.call h.last.0 (sym x.is_call ∙ h.last.1)

    -- the conditions of the begin name the Sync
    named : sync_then i (x.call).level (x.call).past ≡ Some (record { origin = i; number = number })
    named =
        ap (λ (f : Call). sync_then i f.level f.past) call_is
        ∙ (λ j. sync_then i (called_level t w one done r i b c v set sync h j) (h.last.2 j))
        ∙ ap (λ z. elim z [ true ↦ Some (record { origin = i; number = suc (last_made (life_in c i)) }) | false ↦ None ]) y

    is_place : sync ≡ own_place (life_in b i) i number
    is_place = x.sync ∙ ap (λ o. sync_place i o (life_in b i)) named

    synced : is_synced (standing (life_in b i)) (Some (record { origin = i; number = number })) (own_place (life_in b i) i number) ≡ true
    synced =
        subst (λ o. is_synced (standing (life_in b i)) o (sync_place i o (life_in b i)) ≡ true) named
        (met_synced (conditions t i (x.call).level (x.call).past) (sync_place i (sync_then i (x.call).level (x.call).past) (life_in b i)) (standing (life_in b i)) x.released)

    -- it was taken
    taken_at : (o : Option ℕ) → is_synced (standing (life_in b i)) (Some (record { origin = i; number = number })) o ≡ true → (p : ℕ) × (o ≡ Some p)
    taken_at None z = absurd (false≢true z)
    taken_at (Some p) z = (p, refl)

    reads : ReadsBefore t values i (run_of given b) (run_of given c) (was_begun t w one done r i b c v set sync h).sync
    reads = begins.before_law t values (run_of given w) r.run i (run_of given b) (run_of given c) v (was_begun t w one done r i b c v set sync h) y

    place : (p : ℕ) → own_place (life_in b i) i number ≡ Some p → p ≡ suc (length reads.front)
    place p e = sym o.place ∙ s.taking.0.0 ∙ ap suc (sym (values_length (lives.marked (life_of (given i) o.before)) ∙ places_agree t (given i) o.before s.taking.1) ∙ lengths)
      where
        o : OwnAt (life_in b i) i number p
        o = own_at (life_in b i) i number p e

        s : Sound t i (given i) (Took o.entry ∷ o.before)
        s = (counted b at_b i o.entry o.before o.past).0

        m : MomentOf t one.log (given i) i (life_in b i)
        m = r.moments b at_b i

        there : listing.IsPast ((placed o.entry).value ∷ lives.taken (life_of (given i) o.before)) values
        there = IsPast-trans ((placed o.entry).value ∷ lives.taken (life_of (given i) o.before)) (lives.taken (life_of (given i) (life_in b i))) values
            (values_past (lives.marked (life_of (given i) (Took o.entry ∷ o.before))) (lives.marked (life_of (given i) (life_in b i)))
            (marked_stays t i (given i) (life_in b i) (Took o.entry ∷ o.before) o.past m.lived m.always))
            (subst (λ l. listing.IsPast (lives.taken l) values) (lives_agree given b i)
            ((begins.inv_at t values (run_of given w) r.run (run_of given b) (point given b w at_b)).past i))

        lengths : length (lives.taken (life_of (given i) o.before)) ≡ length reads.front
        lengths =
            one_number t (placed o.entry).value reads.sync (lives.taken (life_of (given i) o.before)) reads.front values r.run.kept there reads.placed
            (o.origin ∙ sym reads.origin)
            (o.number ∙ sym (reads.number ∙ sync_is t w one done r i b c v set sync h ∙ ap (λ z. elim z [ true ↦ suc (last_made (life_in c i)) | false ↦ 0 ]) y))

    has_place : sync ≡ Some (suc (length reads.front))
    has_place = let k = taken_at (own_place (life_in b i) i number) synced in is_place ∙ k.1 ∙ ap Some (place k.0 k.1)

    reads_all : ReadsAll (listed t one.log) set (suc (length reads.front))
    reads_all d m lt = has_read t w one done r i b c v set sync h d.gtid (reads.reads (law_cert d) (certified_there t w one done r d m) (omega (arith, lt)))

  pub before_law : BeforeLaw (listed t one.log) w
  before_law i b c v set sync h y = (
    suc (length (reads i b c v set sync h y).front),
    has_place i b c v set sync h y,
    reads_all i b c v set sync h y,
    above_all c (at_c i b c v set sync h y) (length (reads i b c v set sync h y).front) (reads i b c v set sync h y).new,
  )
