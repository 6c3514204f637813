-- Sessions: their begin calls, and what became of their transactions.
use Rattle.std.proofs.Common.{◌≡◌, inl, inr, ℕ, Bool, true, false, cond, ◌&&◌, ◌||◌, Option, Some, None, List, [], ◌∷◌, refl, sym, ap, ◌∙◌}
use Rattle.std.specs.Prelude.{◌==◌}
use Rattle.std.specs.List.{list_any}
use Rattle.std.proofs.lemmas.Bool.{false≢true, eqb-true}
use Rattle.gr_ids.specs.declared.names.Inc.{Inc}
use Rattle.gr_ids.specs.declared.names.Gtid.{Gtid}
use Rattle.gr_ids.specs.declared.levels.MemberState.{MemberState}
use Rattle.gr_ids.specs.declared.levels.MemberState.TheVariants.{Offline, Recovering, Online, Error}
use Rattle.txn_forms.specs.declared.body.Body.{Body}
use Rattle.txn_forms.specs.declared.body.Body.TheVariants.{Txn as Writes}
use Rattle.group_rules.specs.declared.answers.Answer.{Answer}
use Rattle.group_rules.specs.declared.answers.Answer.TheVariants.{Committed as CommittedAs}
use Rattle.group_rules.specs.declared.marks.Cause.{Cause}
use Rattle.group_rules.specs.Events.{Founds, Starts, Came, Made, Took, Skips, Done, Committed, Is, Gave, Answered, Begun, Changed, Replied, Called, AsksCommit, Ends, Enters, Restores, AskFails, Hears, Ticks, Works, Calls, Operates, Life, Setup, Cert}
use Rattle.group_rules.specs.Life.{state, is_error, certs}
use Rattle.group_rules.specs.Queue.{at_place}
use Rattle.group_rules.specs.Sessions.{Phase, Free, Holding, Active, Asking, is_begun, is_active, is_asking, phase, Call, one_tick, last_call}
use Rattle.group_rules.specs.Keys.{killed, hit_by, keeps_key, was_left}
use Rattle.group_rules.specs.Calls.{state_then}
use Rattle.group_bridge.specs.Left as left
use Rattle.group_bridge.specs.Left.{IsOpen, IsBegun}
use Rattle.group_laws.specs.Entries as law
use Rattle.group_laws.specs.Life as lives
use Rattle.group_lives.specs.Lives.{sync_number, life_of}
use Rattle.group_lawful.specs.Lived.{Lived}
use Rattle.group_lawful.proofs.States.{has_fallen, fallen_is}

past_itself : (l : Life) → left.IsPast l l
past_itself [] = refl
past_itself (d ∷ l) = inl refl

some_none : {A : Type 0} {x : A} → Some x ≡ None → ⊥
some_none e = absurd (cc e)

module _ (t : Setup) (i : Inc) (base : List law.Placed) where
  -- ---- the begin call

  abbrev pub law_call : Call → lives.Call
  law_call c = record { level = c.level; sync = sync_number c.level c.past; past = life_of base c.past }

  abbrev pub calls : Option Call → Option lives.Call
  calls None = None
  calls (Some c) = Some (law_call c)

  pub ticked : (o : Option Call) → calls (one_tick o) ≡ calls o
  ticked None = refl
  ticked (Some c) = refl

  pub call_as : (l : Life) (s : ℕ) → lives.last_call (life_of base l) s ≡ calls (last_call l s)
  call_as [] s = refl
  call_as (Called u v w ∷ l) s = go (u == s) (call_as l s)
    where
      go : (b : Bool) → lives.last_call (life_of base l) s ≡ calls (last_call l s)
          → cond b (Some (record { level = v; sync = sync_number v l; past = life_of base l })) (lives.last_call (life_of base l) s) ≡ calls (elim b [ true ↦ Some (record { level = v; limit = w; past = l; ticks = 0 }) | false ↦ last_call l s ])
      go true k = refl
      go false k = k
  call_as (Came Ticks ∷ l) s = call_as l s ∙ sym (ticked (last_call l s))
  call_as (Made v y ∷ l) s = made y ∙ call_as l s
    where
      made : (y : Option Body) → lives.last_call (life_of base (Made v y ∷ l)) s ≡ lives.last_call (life_of base l) s
      made (Some (Writes x)) = refl
      made y = refl
  call_as (Answered u a ∷ l) s = answered a ∙ call_as l s
    where
      answered : (a : Answer) → lives.last_call (life_of base (Answered u a ∷ l)) s ≡ lives.last_call (life_of base l) s
      answered (CommittedAs g) = refl
      answered a = refl
  call_as (Is x c ∷ l) s = is x ∙ call_as l s
    where
      is : (x : MemberState) → lives.last_call (life_of base (Is x c ∷ l)) s ≡ lives.last_call (life_of base l) s
      is Error = refl
      is x = refl
  call_as (Came (Hears m) ∷ l) s = call_as l s
  call_as (Came (Works a b) ∷ l) s = call_as l s
  call_as (Came (Calls a b) ∷ l) s = call_as l s
  call_as (Came (Operates a) ∷ l) s = call_as l s
  call_as (Skips u v ∷ l) s = call_as l s
  call_as (Done n ∷ l) s = call_as l s
  call_as (Committed g ∷ l) s = call_as l s
  call_as (Gave n m ∷ l) s = call_as l s
  call_as (Changed u c ∷ l) s = call_as l s
  call_as (Replied r ∷ l) s = call_as l s
  call_as (AskFails ∷ l) s = call_as l s
  call_as (Founds ∷ l) s = call_as l s
  call_as (Starts x ∷ l) s = call_as l s
  call_as (Took e ∷ l) s = call_as l s
  call_as (Enters w ∷ l) s = call_as l s
  call_as (Restores g cs ∷ l) s = call_as l s
  call_as (Begun u a b ∷ l) s = call_as l s
  call_as (AsksCommit u y ∷ l) s = call_as l s
  call_as (Ends u ∷ l) s = call_as l s

  -- ---- killed and left

  killed_by : (l : Life) (s : ℕ) (o : Option Cert) (g : Gtid) → hit_by l s o ≡ Some g → phase l s ≡ Active
  killed_by l s None g h = absurd (cc h)
  killed_by l s (Some c) g h = go (is_active (phase l s)) refl (list_any (keeps_key l s) c.txn.items) h
    where
      active : (p : Phase) → is_active p ≡ true → p ≡ Active
      active Active e = refl
      active Free e = absurd (false≢true e)
      active Holding e = absurd (false≢true e)
      active (Asking i) e = absurd (false≢true e)

      go : (b : Bool) → is_active (phase l s) ≡ b → (d : Bool) → elim (b && d) [ true ↦ Some c.gtid | false ↦ None ] ≡ Some g → phase l s ≡ Active
      go true e d q = active (phase l s) e
      go false e d q = absurd (cc q)

  pub killed_active : (l : Life) (s : ℕ) (g : Gtid) → Lived t i l → killed l s ≡ Some g → phase l s ≡ Active
  killed_active [] s g h k = absurd (cc k)
  killed_active (Called u v w ∷ l) s g h k = go (u == s) k (killed_active l s g h.1)
    where
      go : (b : Bool) → elim b [ true ↦ None | false ↦ killed l s ] ≡ Some g → (killed l s ≡ Some g → phase l s ≡ Active) → elim b [ true ↦ Holding | false ↦ phase l s ] ≡ Active
      go true q f = absurd (cc q)
      go false q f = f q
  killed_active (Ends u ∷ l) s g h k = go (u == s) k (killed_active l s g h.1)
    where
      go : (b : Bool) → elim b [ true ↦ None | false ↦ killed l s ] ≡ Some g → (killed l s ≡ Some g → phase l s ≡ Active) → elim b [ true ↦ Free | false ↦ phase l s ] ≡ Active
      go true q f = absurd (cc q)
      go false q f = f q
  killed_active (Done p ∷ l) s g h k = go (killed l s) refl (λ y. killed_active l s y h.1) k
    where
      go : (o : Option Gtid) → killed l s ≡ o → ((y : Gtid) → killed l s ≡ Some y → phase l s ≡ Active) → elim o [ Some y ↦ Some y | None ↦ hit_by l s (at_place (certs l) p) ] ≡ Some g → phase l s ≡ Active
      go (Some y) e f q = f y e
      go None e f q = killed_by l s (at_place (certs l) p) g q
  killed_active (Begun u a b ∷ l) s g h k = go (u == s) refl (killed_active l s g h.1 k)
    where
      go : (c : Bool) → (u == s) ≡ c → phase l s ≡ Active → elim c [ true ↦ Active | false ↦ phase l s ] ≡ Active
      go true e f = refl
      go false e f = f
  killed_active (AsksCommit u y ∷ l) s g h k = go (u == s) refl (killed_active l s g h.1 k)
    where
      go : (c : Bool) → (u == s) ≡ c → phase l s ≡ Active → elim c [ true ↦ Asking y | false ↦ phase l s ] ≡ Active
      go true e f = absurd (some_none (sym k ∙ ap (killed l) (sym (eqb-true u s e)) ∙ h.0.allowed.unkilled))
      go false e f = f
  killed_active (Came (Hears m) ∷ l) s g h k = killed_active l s g h.1 k
  killed_active (Came (Works a y) ∷ l) s g h k = killed_active l s g h.1 k
  killed_active (Came (Calls a y) ∷ l) s g h k = killed_active l s g h.1 k
  killed_active (Came (Operates a) ∷ l) s g h k = killed_active l s g h.1 k
  killed_active (Skips u v ∷ l) s g h k = killed_active l s g h.1 k
  killed_active (Committed y ∷ l) s g h k = killed_active l s g h.1 k
  killed_active (Gave n m ∷ l) s g h k = killed_active l s g h.1 k
  killed_active (Changed u c ∷ l) s g h k = killed_active l s g h.1 k
  killed_active (Replied r ∷ l) s g h k = killed_active l s g h.1 k
  killed_active (AskFails ∷ l) s g h k = killed_active l s g h.1 k
  killed_active (Founds ∷ l) s g h k = killed_active l s g h.1 k
  killed_active (Starts x ∷ l) s g h k = killed_active l s g h.1 k
  killed_active (Took e ∷ l) s g h k = killed_active l s g h.1 k
  killed_active (Enters w ∷ l) s g h k = killed_active l s g h.1 k
  killed_active (Restores y cs ∷ l) s g h k = killed_active l s g h.1 k
  killed_active (Came Ticks ∷ l) s g h k = killed_active l s g h.1 k
  killed_active (Made v y ∷ l) s g h k = killed_active l s g h.1 k
  killed_active (Answered u a ∷ l) s g h k = killed_active l s g h.1 k
  killed_active (Is x c ∷ l) s g h k = killed_active l s g h.1 k

  -- ERROR stays
  pub error_stays : (x : MemberState) (c : Cause) (l : Life) → Lived t i (Is x c ∷ l) → (x ≡ Error → ⊥) → is_error x ≡ is_error (state l)
  error_stays x c l h n = sym (fallen_is t i base (Is x c ∷ l) h) ∙ same x n ∙ fallen_is t i base l h.1
    where
      same : (x : MemberState) → (x ≡ Error → ⊥) → has_fallen base (Is x c ∷ l) ≡ has_fallen base l
      same Error n = absurd (n refl)
      same Offline n = refl
      same Recovering n = refl
      same Online n = refl

  pub left_fallen : (l : Life) (s : ℕ) → Lived t i l → was_left l s ≡ true → is_error (state l) ≡ true
  left_fallen [] s h k = absurd (false≢true k)
  left_fallen (Called u v w ∷ l) s h k = go (u == s) k (left_fallen l s h.1)
    where
      go : (b : Bool) → elim b [ true ↦ false | false ↦ was_left l s ] ≡ true → (was_left l s ≡ true → is_error (state l) ≡ true) → is_error (state l) ≡ true
      go true q f = absurd (false≢true q)
      go false q f = f q
  left_fallen (Ends u ∷ l) s h k = go (u == s) k (left_fallen l s h.1)
    where
      go : (b : Bool) → elim b [ true ↦ false | false ↦ was_left l s ] ≡ true → (was_left l s ≡ true → is_error (state l) ≡ true) → is_error (state l) ≡ true
      go true q f = absurd (false≢true q)
      go false q f = f q
  left_fallen (Is Error c ∷ l) s h k = refl
  left_fallen (Is Offline c ∷ l) s h k = error_stays Offline c l h (λ q. absurd (cc q)) ∙ left_fallen l s h.1 k
  left_fallen (Is Recovering c ∷ l) s h k = error_stays Recovering c l h (λ q. absurd (cc q)) ∙ left_fallen l s h.1 k
  left_fallen (Is Online c ∷ l) s h k = error_stays Online c l h (λ q. absurd (cc q)) ∙ left_fallen l s h.1 k
  left_fallen (Came (Hears m) ∷ l) s h k = left_fallen l s h.1 k
  left_fallen (Came (Works a y) ∷ l) s h k = left_fallen l s h.1 k
  left_fallen (Came (Calls a y) ∷ l) s h k = left_fallen l s h.1 k
  left_fallen (Came (Operates a) ∷ l) s h k = left_fallen l s h.1 k
  left_fallen (Skips u v ∷ l) s h k = left_fallen l s h.1 k
  left_fallen (Done n ∷ l) s h k = left_fallen l s h.1 k
  left_fallen (Committed y ∷ l) s h k = left_fallen l s h.1 k
  left_fallen (Gave n m ∷ l) s h k = left_fallen l s h.1 k
  left_fallen (Changed u c ∷ l) s h k = left_fallen l s h.1 k
  left_fallen (Replied r ∷ l) s h k = left_fallen l s h.1 k
  left_fallen (AskFails ∷ l) s h k = left_fallen l s h.1 k
  left_fallen (Founds ∷ l) s h k = left_fallen l s h.1 k
  left_fallen (Starts x ∷ l) s h k = left_fallen l s h.1 k
  left_fallen (Took e ∷ l) s h k = left_fallen l s h.1 k
  left_fallen (Enters w ∷ l) s h k = left_fallen l s h.1 k
  left_fallen (Restores y cs ∷ l) s h k = left_fallen l s h.1 k
  left_fallen (Came Ticks ∷ l) s h k = left_fallen l s h.1 k
  left_fallen (Made v y ∷ l) s h k = left_fallen l s h.1 k
  left_fallen (Answered u a ∷ l) s h k = left_fallen l s h.1 k
  left_fallen (Begun u a b ∷ l) s h k = left_fallen l s h.1 k
  left_fallen (AsksCommit u y ∷ l) s h k = left_fallen l s h.1 k

  then_ticked : (o : Option Call) → state_then (one_tick o) ≡ state_then o
  then_ticked None = refl
  then_ticked (Some c) = refl

  -- a transaction that was begun and not left is of before any fall
  pub unfallen : (l : Life) (s : ℕ) → Lived t i l → is_begun (phase l s) ≡ true → was_left l s ≡ false → is_error (state_then (last_call l s)) ≡ is_error (state l)
  unfallen [] s h b w = absurd (false≢true b)
  unfallen (Called u v x ∷ l) s h b w = go (u == s) b w (unfallen l s h.1)
    where
      go : (d : Bool) → is_begun (elim d [ true ↦ Holding | false ↦ phase l s ]) ≡ true → elim d [ true ↦ false | false ↦ was_left l s ] ≡ false → (is_begun (phase l s) ≡ true → was_left l s ≡ false → is_error (state_then (last_call l s)) ≡ is_error (state l))
          → is_error (state_then (elim d [ true ↦ Some (record { level = v; limit = x; past = l; ticks = 0 }) | false ↦ last_call l s ])) ≡ is_error (state l)
      go true p q f = refl
      go false p q f = f p q
  unfallen (Ends u ∷ l) s h b w = go (u == s) b w (unfallen l s h.1)
    where
      go : (d : Bool) → is_begun (elim d [ true ↦ Free | false ↦ phase l s ]) ≡ true → elim d [ true ↦ false | false ↦ was_left l s ] ≡ false → (is_begun (phase l s) ≡ true → was_left l s ≡ false → is_error (state_then (last_call l s)) ≡ is_error (state l))
          → is_error (state_then (last_call l s)) ≡ is_error (state l)
      go true p q f = absurd (false≢true p)
      go false p q f = f p q
  unfallen (Begun u a c ∷ l) s h b w = go (u == s) refl b (λ p. unfallen l s h.1 p w)
    where
      go : (d : Bool) → (u == s) ≡ d → is_begun (elim d [ true ↦ Active | false ↦ phase l s ]) ≡ true → (is_begun (phase l s) ≡ true → is_error (state_then (last_call l s)) ≡ is_error (state l)) → is_error (state_then (last_call l s)) ≡ is_error (state l)
      go true e p f = f (ap is_begun (ap (phase l) (sym (eqb-true u s e)) ∙ h.0.allowed.held))
      go false e p f = f p
  unfallen (AsksCommit u y ∷ l) s h b w = go (u == s) refl b (λ p. unfallen l s h.1 p w)
    where
      go : (d : Bool) → (u == s) ≡ d → is_begun (elim d [ true ↦ Asking y | false ↦ phase l s ]) ≡ true → (is_begun (phase l s) ≡ true → is_error (state_then (last_call l s)) ≡ is_error (state l)) → is_error (state_then (last_call l s)) ≡ is_error (state l)
      go true e p f = f (ap is_begun (ap (phase l) (sym (eqb-true u s e)) ∙ h.0.allowed.active))
      go false e p f = f p
  unfallen (Is Error c ∷ l) s h b w = absurd (false≢true (sym w ∙ b))
  unfallen (Is Offline c ∷ l) s h b w = unfallen l s h.1 b w ∙ sym (error_stays Offline c l h (λ q. absurd (cc q)))
  unfallen (Is Recovering c ∷ l) s h b w = unfallen l s h.1 b w ∙ sym (error_stays Recovering c l h (λ q. absurd (cc q)))
  unfallen (Is Online c ∷ l) s h b w = unfallen l s h.1 b w ∙ sym (error_stays Online c l h (λ q. absurd (cc q)))
  unfallen (Came Ticks ∷ l) s h b w = ap is_error (then_ticked (last_call l s)) ∙ unfallen l s h.1 b w
  unfallen (Came (Hears m) ∷ l) s h b w = unfallen l s h.1 b w
  unfallen (Came (Works a y) ∷ l) s h b w = unfallen l s h.1 b w
  unfallen (Came (Calls a y) ∷ l) s h b w = unfallen l s h.1 b w
  unfallen (Came (Operates a) ∷ l) s h b w = unfallen l s h.1 b w
  unfallen (Skips u v ∷ l) s h b w = unfallen l s h.1 b w
  unfallen (Done n ∷ l) s h b w = unfallen l s h.1 b w
  unfallen (Committed y ∷ l) s h b w = unfallen l s h.1 b w
  unfallen (Gave n m ∷ l) s h b w = unfallen l s h.1 b w
  unfallen (Changed u c ∷ l) s h b w = unfallen l s h.1 b w
  unfallen (Replied r ∷ l) s h b w = unfallen l s h.1 b w
  unfallen (AskFails ∷ l) s h b w = unfallen l s h.1 b w
  unfallen (Founds ∷ l) s h b w = unfallen l s h.1 b w
  unfallen (Starts x ∷ l) s h b w = unfallen l s h.1 b w
  unfallen (Took e ∷ l) s h b w = unfallen l s h.1 b w
  unfallen (Enters z ∷ l) s h b w = unfallen l s h.1 b w
  unfallen (Restores y cs ∷ l) s h b w = unfallen l s h.1 b w
  unfallen (Made v y ∷ l) s h b w = unfallen l s h.1 b w
  unfallen (Answered u a ∷ l) s h b w = unfallen l s h.1 b w

  -- ---- the begin that was answered

  -- the history before the session's present begin was answered, and its call
  pub record BegunAs (l : Life) (s : ℕ) : Type 0 where
    pub past : Life
    pub call : Call
    pub begun : lives.last_begun (life_of base l) s ≡ Some (life_of base past)
    pub was : last_call past s ≡ Some call
    pub now : calls (last_call l s) ≡ Some (law_call call)
    pub then : state_then (last_call l s) ≡ state call.past
    pub earlier : left.IsPast past l

  abbrev pub is_going : Phase → Bool
  is_going p = is_active p || is_asking p

  pub begun_as : (l : Life) (s : ℕ) → Lived t i l → is_going (phase l s) ≡ true → BegunAs l s
  begun_as [] s h b = absurd (false≢true b)
  begun_as (Called u v x ∷ l) s h b = go (u == s) refl b (begun_as l s h.1)
    where
      go : (d : Bool) → (u == s) ≡ d → is_going (elim d [ true ↦ Holding | false ↦ phase l s ]) ≡ true → (is_going (phase l s) ≡ true → BegunAs l s) → BegunAs (Called u v x ∷ l) s
      go true e p f = absurd (false≢true p)
      go false e p f = let k = f p in record { past = k.past; call = k.call; begun = rw e k.begun; was = k.was; now = ap (λ y. calls (elim y [ true ↦ Some (record { level = v; limit = x; past = l; ticks = 0 }) | false ↦ last_call l s ])) e ∙ k.now; then = ap (λ y. state_then (elim y [ true ↦ Some (record { level = v; limit = x; past = l; ticks = 0 }) | false ↦ last_call l s ])) e ∙ k.then; earlier = inr k.earlier }
  begun_as (Ends u ∷ l) s h b = go (u == s) refl b (begun_as l s h.1)
    where
      go : (d : Bool) → (u == s) ≡ d → is_going (elim d [ true ↦ Free | false ↦ phase l s ]) ≡ true → (is_going (phase l s) ≡ true → BegunAs l s) → BegunAs (Ends u ∷ l) s
      go true e p f = absurd (false≢true p)
      go false e p f = let k = f p in record { past = k.past; call = k.call; begun = k.begun; was = k.was; now = k.now; then = k.then; earlier = inr k.earlier }
  begun_as (Begun u a c ∷ l) s h b = go (u == s) refl b (begun_as l s h.1)
    where
      go : (d : Bool) → (u == s) ≡ d → is_going (elim d [ true ↦ Active | false ↦ phase l s ]) ≡ true → (is_going (phase l s) ≡ true → BegunAs l s) → BegunAs (Begun u a c ∷ l) s
      go true e p f =
          let z = h.0.allowed in
          let q : last_call l s ≡ Some z.call = ap (last_call l) (sym (eqb-true u s e)) ∙ z.is_call in
          record { past = l; call = z.call; begun = rw e refl; was = q; now = ap calls q; then = ap state_then q; earlier = inr (past_itself l) }
      go false e p f = let k = f p in record { past = k.past; call = k.call; begun = rw e k.begun; was = k.was; now = k.now; then = k.then; earlier = inr k.earlier }
  begun_as (AsksCommit u y ∷ l) s h b = go (u == s) refl b (begun_as l s h.1)
    where
      still : BegunAs l s → BegunAs (AsksCommit u y ∷ l) s
      still k = record { past = k.past; call = k.call; begun = k.begun; was = k.was; now = k.now; then = k.then; earlier = inr k.earlier }

      go : (d : Bool) → (u == s) ≡ d → is_going (elim d [ true ↦ Asking y | false ↦ phase l s ]) ≡ true → (is_going (phase l s) ≡ true → BegunAs l s) → BegunAs (AsksCommit u y ∷ l) s
      go true e p f = still (f (ap is_going (ap (phase l) (sym (eqb-true u s e)) ∙ h.0.allowed.active)))
      go false e p f = still (f p)
  begun_as (Came Ticks ∷ l) s h b = let k = begun_as l s h.1 b in record { past = k.past; call = k.call; begun = k.begun; was = k.was; now = ticked (last_call l s) ∙ k.now; then = then_ticked (last_call l s) ∙ k.then; earlier = inr k.earlier }
  begun_as (Made v y ∷ l) s h b = let k = begun_as l s h.1 b in record { past = k.past; call = k.call; begun = made y ∙ k.begun; was = k.was; now = k.now; then = k.then; earlier = inr k.earlier }
    where
      made : (y : Option Body) → lives.last_begun (life_of base (Made v y ∷ l)) s ≡ lives.last_begun (life_of base l) s
      made (Some (Writes x)) = refl
      made y = refl
  begun_as (Answered u a ∷ l) s h b = let k = begun_as l s h.1 b in record { past = k.past; call = k.call; begun = answered a ∙ k.begun; was = k.was; now = k.now; then = k.then; earlier = inr k.earlier }
    where
      answered : (a : Answer) → lives.last_begun (life_of base (Answered u a ∷ l)) s ≡ lives.last_begun (life_of base l) s
      answered (CommittedAs g) = refl
      answered a = refl
  begun_as (Is x c ∷ l) s h b = let k = begun_as l s h.1 b in record { past = k.past; call = k.call; begun = is x ∙ k.begun; was = k.was; now = k.now; then = k.then; earlier = inr k.earlier }
    where
      is : (x : MemberState) → lives.last_begun (life_of base (Is x c ∷ l)) s ≡ lives.last_begun (life_of base l) s
      is Error = refl
      is x = refl
  begun_as (Came (Hears m) ∷ l) s h b = let k = begun_as l s h.1 b in record { past = k.past; call = k.call; begun = k.begun; was = k.was; now = k.now; then = k.then; earlier = inr k.earlier }
  begun_as (Came (Works a y) ∷ l) s h b = let k = begun_as l s h.1 b in record { past = k.past; call = k.call; begun = k.begun; was = k.was; now = k.now; then = k.then; earlier = inr k.earlier }
  begun_as (Came (Calls a y) ∷ l) s h b = let k = begun_as l s h.1 b in record { past = k.past; call = k.call; begun = k.begun; was = k.was; now = k.now; then = k.then; earlier = inr k.earlier }
  begun_as (Came (Operates a) ∷ l) s h b = let k = begun_as l s h.1 b in record { past = k.past; call = k.call; begun = k.begun; was = k.was; now = k.now; then = k.then; earlier = inr k.earlier }
  begun_as (Skips u v ∷ l) s h b = let k = begun_as l s h.1 b in record { past = k.past; call = k.call; begun = k.begun; was = k.was; now = k.now; then = k.then; earlier = inr k.earlier }
  begun_as (Done n ∷ l) s h b = let k = begun_as l s h.1 b in record { past = k.past; call = k.call; begun = k.begun; was = k.was; now = k.now; then = k.then; earlier = inr k.earlier }
  begun_as (Committed y ∷ l) s h b = let k = begun_as l s h.1 b in record { past = k.past; call = k.call; begun = k.begun; was = k.was; now = k.now; then = k.then; earlier = inr k.earlier }
  begun_as (Gave n m ∷ l) s h b = let k = begun_as l s h.1 b in record { past = k.past; call = k.call; begun = k.begun; was = k.was; now = k.now; then = k.then; earlier = inr k.earlier }
  begun_as (Changed u c ∷ l) s h b = let k = begun_as l s h.1 b in record { past = k.past; call = k.call; begun = k.begun; was = k.was; now = k.now; then = k.then; earlier = inr k.earlier }
  begun_as (Replied r ∷ l) s h b = let k = begun_as l s h.1 b in record { past = k.past; call = k.call; begun = k.begun; was = k.was; now = k.now; then = k.then; earlier = inr k.earlier }
  begun_as (AskFails ∷ l) s h b = let k = begun_as l s h.1 b in record { past = k.past; call = k.call; begun = k.begun; was = k.was; now = k.now; then = k.then; earlier = inr k.earlier }
  begun_as (Founds ∷ l) s h b = let k = begun_as l s h.1 b in record { past = k.past; call = k.call; begun = k.begun; was = k.was; now = k.now; then = k.then; earlier = inr k.earlier }
  begun_as (Starts x ∷ l) s h b = let k = begun_as l s h.1 b in record { past = k.past; call = k.call; begun = k.begun; was = k.was; now = k.now; then = k.then; earlier = inr k.earlier }
  begun_as (Took e ∷ l) s h b = let k = begun_as l s h.1 b in record { past = k.past; call = k.call; begun = k.begun; was = k.was; now = k.now; then = k.then; earlier = inr k.earlier }
  begun_as (Enters w ∷ l) s h b = let k = begun_as l s h.1 b in record { past = k.past; call = k.call; begun = k.begun; was = k.was; now = k.now; then = k.then; earlier = inr k.earlier }
  begun_as (Restores y cs ∷ l) s h b = let k = begun_as l s h.1 b in record { past = k.past; call = k.call; begun = k.begun; was = k.was; now = k.now; then = k.then; earlier = inr k.earlier }
