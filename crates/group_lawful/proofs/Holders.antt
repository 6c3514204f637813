-- Who holds a key: what a life has open, the history keeps.
use Rattle.std.proofs.Common.{◌≡◌, ◌⊎◌, inl, inr, ℕ, Bool, true, false, cond, not, ◌&&◌, ◌||◌, Option, Some, None, List, [], ◌∷◌, refl, sym, ap, subst, ◌∙◌, eqb}
use Rattle.std.specs.Prelude.{◌==◌, is_some, nat_lt}
use Rattle.std.specs.List.{list_any}
use Rattle.std.proofs.lemmas.Bool.{false≢true, cases_Bool, eqb-true}
use Rattle.gr_ids.specs.declared.names.Inc.{Inc}
use Rattle.gr_ids.specs.declared.names.Gtid.{Gtid}
use Rattle.gr_ids.specs.declared.names.ValueId.{ValueId}
use Rattle.gr_ids.specs.declared.levels.MemberState.{MemberState}
use Rattle.gr_ids.specs.declared.levels.MemberState.TheVariants.{Error}
use Rattle.key_items.specs.declared.item.Item.{Item}
use Rattle.key_items.specs.declared.change.Change.{Change}
use Rattle.key_items.specs.Items.{item_eq, has_item}
use Rattle.txn_forms.specs.declared.body.Txn.{Txn}
use Rattle.txn_forms.specs.declared.body.Body.{Body}
use Rattle.txn_forms.specs.declared.body.Body.TheVariants.{Txn as Writes}
use Rattle.node_rules.specs.Lists.{In}
use Rattle.group_rules.specs.declared.answers.Answer.{Answer}
use Rattle.group_rules.specs.declared.answers.Answer.TheVariants.{Committed as CommittedAs}
use Rattle.group_rules.specs.declared.answers.Holder.{Holder}
use Rattle.group_rules.specs.declared.answers.Holder.TheVariants.{Session as BySession}
use Rattle.group_rules.specs.Events.{Did, Founds, Starts, Came, Made, Took, Skips, Done, Committed, Is, Gave, Answered, Begun, Changed, Replied, Called, AsksCommit, Ends, Enters, Restores, AskFails, Hears, Ticks, Works, Calls, Operates, Life, Setup}
use Rattle.group_rules.specs.Life.{certs}
use Rattle.group_rules.specs.Queue.{at_place}
use Rattle.group_rules.specs.Sessions.{Free, Holding, Active, Asking, is_begun, is_active, is_asking, phase, changes, sessions, with_session}
use Rattle.group_rules.specs.Keys.{killed, hit_by, keeps_key, writes_key, holds_key, session_holder}
use Rattle.group_laws.specs.Entries as law
use Rattle.group_laws.specs.Life as lives
use Rattle.group_lives.specs.Lives.{asking, life_of}
use Rattle.group_lawful.specs.Lived.{Lived}
use Rattle.group_lawful.specs.Knows.{AlwaysSound}
use Rattle.group_lawful.proofs.Sessions.{killed_active}
use Rattle.group_lawful.proofs.Opened.{Opened, opened, done_place, is_open}
use Rattle.group_lawful.proofs.Opens.{any_item, none_hit, hit_kept, any_same, AtPlace}

some_none : {A : Type 0} {x : A} → Some x ≡ None → ⊥
some_none e = absurd (cc e)

some_is : {A : Type 0} {x y : A} → Some x ≡ Some y → x ≡ y
some_is {x = x} {y = y} e = cc

-- ---- sessions that have begun are listed

with_has : (ns : List ℕ) (n : ℕ) → In n (with_session ns n)
with_has [] n = inl refl
with_has (x ∷ xs) n = go (nat_lt n x) (n == x) refl (with_has xs n)
  where
    go : (b c : Bool) → (n == x) ≡ c → In n (with_session xs n) → In n (elim b [ true ↦ n ∷ x ∷ xs | false ↦ elim c [ true ↦ x ∷ xs | false ↦ x ∷ with_session xs n ] ])
    go true c e k = inl refl
    go false true e k = inl (sym (eqb-true n x e))
    go false false e k = inr k

with_keeps : (ns : List ℕ) (n m : ℕ) → In m ns → In m (with_session ns n)
with_keeps [] n m h = absurd h
with_keeps (x ∷ xs) n m h = go (nat_lt n x) (n == x) h (λ k. with_keeps xs n m k)
  where
    go : (b c : Bool) → (x ≡ m) ⊎ In m xs → (In m xs → In m (with_session xs n)) → In m (elim b [ true ↦ n ∷ x ∷ xs | false ↦ elim c [ true ↦ x ∷ xs | false ↦ x ∷ with_session xs n ] ])
    go true c k f = inr k
    go false true k f = k
    go false false (inl q) f = inl q
    go false false (inr k) f = inr (f k)

module _ (t : Setup) (i : Inc) (base : List law.Placed) where
  pub in_sessions : (l : Life) (s : ℕ) → Lived t i l → is_begun (phase l s) ≡ true → In s (sessions l)
  in_sessions [] s h b = absurd (false≢true b)
  in_sessions (Called u v w ∷ l) s h b = go (u == s) refl b (in_sessions l s h.1)
    where
      go : (d : Bool) → (u == s) ≡ d → is_begun (elim d [ true ↦ Holding | false ↦ phase l s ]) ≡ true → (is_begun (phase l s) ≡ true → In s (sessions l)) → In s (with_session (sessions l) u)
      go true e p f = subst (λ n. In n (with_session (sessions l) u)) (eqb-true u s e) (with_has (sessions l) u)
      go false e p f = with_keeps (sessions l) u s (f p)
  in_sessions (Ends u ∷ l) s h b = go (u == s) b (in_sessions l s h.1)
    where
      go : (d : Bool) → is_begun (elim d [ true ↦ Free | false ↦ phase l s ]) ≡ true → (is_begun (phase l s) ≡ true → In s (sessions l)) → In s (sessions l)
      go true p f = absurd (false≢true p)
      go false p f = f p
  in_sessions (Begun u y c ∷ l) s h b = go (u == s) refl b (in_sessions l s h.1)
    where
      go : (d : Bool) → (u == s) ≡ d → is_begun (elim d [ true ↦ Active | false ↦ phase l s ]) ≡ true → (is_begun (phase l s) ≡ true → In s (sessions l)) → In s (sessions l)
      go true e p f = f (ap is_begun (ap (phase l) (sym (eqb-true u s e)) ∙ h.0.allowed.held))
      go false e p f = f p
  in_sessions (AsksCommit u y ∷ l) s h b = go (u == s) refl b (in_sessions l s h.1)
    where
      go : (d : Bool) → (u == s) ≡ d → is_begun (elim d [ true ↦ Asking y | false ↦ phase l s ]) ≡ true → (is_begun (phase l s) ≡ true → In s (sessions l)) → In s (sessions l)
      go true e p f = f (ap is_begun (ap (phase l) (sym (eqb-true u s e)) ∙ h.0.allowed.active))
      go false e p f = f p
  in_sessions (Came (Hears m) ∷ l) s h b = in_sessions l s h.1 b
  in_sessions (Came Ticks ∷ l) s h b = in_sessions l s h.1 b
  in_sessions (Came (Works z y) ∷ l) s h b = in_sessions l s h.1 b
  in_sessions (Came (Calls z y) ∷ l) s h b = in_sessions l s h.1 b
  in_sessions (Came (Operates z) ∷ l) s h b = in_sessions l s h.1 b
  in_sessions (Skips u v ∷ l) s h b = in_sessions l s h.1 b
  in_sessions (Committed y ∷ l) s h b = in_sessions l s h.1 b
  in_sessions (Gave n m ∷ l) s h b = in_sessions l s h.1 b
  in_sessions (Replied r ∷ l) s h b = in_sessions l s h.1 b
  in_sessions (AskFails ∷ l) s h b = in_sessions l s h.1 b
  in_sessions (Founds ∷ l) s h b = in_sessions l s h.1 b
  in_sessions (Starts x ∷ l) s h b = in_sessions l s h.1 b
  in_sessions (Took z ∷ l) s h b = in_sessions l s h.1 b
  in_sessions (Enters z ∷ l) s h b = in_sessions l s h.1 b
  in_sessions (Restores y cs ∷ l) s h b = in_sessions l s h.1 b
  in_sessions (Made v y ∷ l) s h b = in_sessions l s h.1 b
  in_sessions (Answered u y ∷ l) s h b = in_sessions l s h.1 b
  in_sessions (Is y c ∷ l) s h b = in_sessions l s h.1 b
  in_sessions (Changed u c ∷ l) s h b = in_sessions l s h.1 b
  in_sessions (Done p ∷ l) s h b = in_sessions l s h.1 b

  -- ---- what a life has open

  -- it isn't answered yet, or it is active and wasn't killed, or its commit is asked and it keeps all its keys
  pub data OpenAs (l : Life) (s : ℕ) (ds : List Change) : Type 0 where
    Waiting : phase l s ≡ Holding → OpenAs l s ds
    Going : phase l s ≡ Active → killed l s ≡ None → OpenAs l s ds
    Sent : (id : ValueId) → phase l s ≡ Asking id → ((x : Item) → any_item ds x ≡ true → keeps_key l s x ≡ true) → OpenAs l s ds

  carries : (d : Did) (l : Life) (s : ℕ) (ds : List Change) → phase (d ∷ l) s ≡ phase l s → killed (d ∷ l) s ≡ killed l s → ((x : Item) → keeps_key (d ∷ l) s x ≡ keeps_key l s x) → OpenAs l s ds → OpenAs (d ∷ l) s ds
  carries d l s ds a b c (Waiting h) = Waiting (a ∙ h)
  carries d l s ds a b c (Going h k) = Going (a ∙ h) (b ∙ k)
  carries d l s ds a b c (Sent id h k) = Sent id (a ∙ h) (λ x q. c x ∙ k x q)

  -- its changes are those of the history
  open_changes : (l : Life) (s : ℕ) (ds : List Change) → Opened t i base l s → lives.open_of t (life_of base l) s ≡ Some ds → changes l s ≡ ds
  open_changes l s ds o e = some_is (sym o.has ∙ e)

  unless_hit_is : (d : law.Cert) (o : Option (List Change)) (ds : List Change) → lives.unless_hit (Some d) o ≡ Some ds → (o ≡ Some ds) × (lives.hits (Some d) ds ≡ false)
  unless_hit_is d None ds e = absurd (some_none (sym e))
  unless_hit_is d (Some cs) ds e = go (lives.hits (Some d) cs) refl e
    where
      go : (b : Bool) → lives.hits (Some d) cs ≡ b → cond b None (Some cs) ≡ Some ds → (Some cs ≡ Some ds) × (lives.hits (Some d) ds ≡ false)
      go true q k = absurd (some_none (sym k))
      go false q k = (k, ap (lives.hits (Some d)) (sym (some_is k)) ∙ q)

  -- a place that misses the changes kills nobody and takes no key of theirs
  after_done : (l : Life) (s p : ℕ) (ds : List Change) → (a : AtPlace t i base l p) → lives.hits (Some a.listed) ds ≡ false → OpenAs l s ds → (is_open (phase l s) ≡ true → killed l s ≡ None → ((x : Item) → keeps_key l s x ≡ any_item (changes l s) x) × (changes l s ≡ ds)) → OpenAs (Done p ∷ l) s ds
  after_done l s p ds a m (Waiting h) f = Waiting h
  after_done l s p ds a m (Going h k) f = Going h (ap (λ o. elim o [ Some y ↦ Some y | None ↦ hit_by l s (at_place (certs l) p) ]) k ∙ ap (hit_by l s) a.found ∙ unkilled)
    where
      z : ((x : Item) → keeps_key l s x ≡ any_item (changes l s) x) × (changes l s ≡ ds)
      z = f (ap is_open h) k

      none : list_any (keeps_key l s) (a.cert).txn.items ≡ false
      none =
          any_same (keeps_key l s) (any_item ds) (λ x. z.0 x ∙ ap (λ c. any_item c x) z.1) (a.cert).txn.items
          ∙ ap (λ (y : Txn). list_any (any_item ds) y.items) (a.alike).txn
          ∙ hit_kept a.listed ds m

      unkilled : hit_by l s (Some a.cert) ≡ None
      unkilled = by (is_active (phase l s)) (list_any (keeps_key l s) (a.cert).txn.items) none
        where
          by : (b d : Bool) → d ≡ false → ◌≡◌ {A = Option Gtid} (elim (b && d) [ true ↦ Some (a.cert).gtid | false ↦ None ]) None
          by true d q = ap (λ x. elim x [ true ↦ Some (a.cert).gtid | false ↦ None ]) q
          by false d q = refl
  after_done l s p ds a m (Sent id h k) f = Sent id h (λ x q. keeps x q (writes_key (at_place (certs l) p) x) refl)
    where
      keeps : (x : Item) → any_item ds x ≡ true → (b : Bool) → writes_key (at_place (certs l) p) x ≡ b → elim b [ true ↦ false | false ↦ keeps_key l s x ] ≡ true
      keeps x q false e = k x q
      keeps x q true e =
          let w : has_item (a.listed).txn.items x ≡ true = ap (λ (y : Txn). has_item y.items x) (sym (a.alike).txn) ∙ ap (λ y. writes_key y x) (sym a.found) ∙ e in
          absurd (false≢true (sym (none_hit a.listed ds x m w) ∙ q))

  pub open_as : (l : Life) (s : ℕ) (ds : List Change) → Lived t i l → AlwaysSound t i base l → lives.open_of t (life_of base l) s ≡ Some ds → OpenAs l s ds
  open_as [] s ds h o e = absurd (some_none (sym e))
  open_as (Called u v w ∷ l) s ds h o e = go (u == s) refl e (open_as l s ds h.1 o.1)
    where
      go : (b : Bool) → (u == s) ≡ b → cond b (Some []) (lives.open_of t (life_of base l) s) ≡ Some ds → (lives.open_of t (life_of base l) s ≡ Some ds → OpenAs l s ds) → OpenAs (Called u v w ∷ l) s ds
      go true q k f = Waiting (ap (λ b. elim b [ true ↦ Holding | false ↦ phase l s ]) q)
      go false q k f = carries (Called u v w) l s ds (ap (λ b. elim b [ true ↦ Holding | false ↦ phase l s ]) q) (ap (λ b. elim b [ true ↦ None | false ↦ killed l s ]) q) (λ x. ap (λ b. elim b [ true ↦ false | false ↦ keeps_key l s x ]) q) (f k)
  open_as (Ends u ∷ l) s ds h o e = go (u == s) refl e (open_as l s ds h.1 o.1)
    where
      go : (b : Bool) → (u == s) ≡ b → cond b None (lives.open_of t (life_of base l) s) ≡ Some ds → (lives.open_of t (life_of base l) s ≡ Some ds → OpenAs l s ds) → OpenAs (Ends u ∷ l) s ds
      go true q k f = absurd (some_none (sym k))
      go false q k f = carries (Ends u) l s ds (ap (λ b. elim b [ true ↦ Free | false ↦ phase l s ]) q) (ap (λ b. elim b [ true ↦ None | false ↦ killed l s ]) q) (λ x. refl) (f k)
  open_as (Begun u y c ∷ l) s ds h o e = go (u == s) refl (open_as l s ds h.1 o.1 e)
    where
      unkilled : phase l s ≡ Holding → (g : Option Gtid) → killed l s ≡ g → g ≡ None
      unkilled p None q = refl
      unkilled p (Some g) q = let n : Holding ≡ Active = sym p ∙ killed_active t i base l s g h.1 q in absurd (cc n)

      go : (b : Bool) → (u == s) ≡ b → OpenAs l s ds → OpenAs (Begun u y c ∷ l) s ds
      go true q k = Going (ap (λ b. elim b [ true ↦ Active | false ↦ phase l s ]) q) (unkilled (ap (phase l) (sym (eqb-true u s q)) ∙ h.0.allowed.held) (killed l s) refl)
      go false q k = carries (Begun u y c) l s ds (ap (λ b. elim b [ true ↦ Active | false ↦ phase l s ]) q) refl (λ x. refl) k
  open_as (AsksCommit u y ∷ l) s ds h o e = go (u == s) refl (open_as l s ds h.1 o.1 e)
    where
      go : (b : Bool) → (u == s) ≡ b → OpenAs l s ds → OpenAs (AsksCommit u y ∷ l) s ds
      go true q k =
          let n : u ≡ s = eqb-true u s q in
          let act : phase l s ≡ Active = ap (phase l) (sym n) ∙ h.0.allowed.active in
          let un : killed l s ≡ None = ap (killed l) (sym n) ∙ h.0.allowed.unkilled in
          let z = opened t i base l s h.1 o.1 (ap is_open act) un in
          Sent y (ap (λ b. elim b [ true ↦ Asking y | false ↦ phase l s ]) q) (λ x a. z.keeps x ∙ ap (λ c. any_item c x) (open_changes l s ds z e) ∙ a)
      go false q k = carries (AsksCommit u y) l s ds (ap (λ b. elim b [ true ↦ Asking y | false ↦ phase l s ]) q) refl (λ x. refl) k
  open_as (Changed u c ∷ l) s ds h o e = go (u == s) refl e (open_as l s ds h.1 o.1)
    where
      go : (b : Bool) → (u == s) ≡ b → cond b (lives.one_more c (lives.open_of t (life_of base l) s)) (lives.open_of t (life_of base l) s) ≡ Some ds → (lives.open_of t (life_of base l) s ≡ Some ds → OpenAs l s ds) → OpenAs (Changed u c ∷ l) s ds
      go true q k f = let n : u ≡ s = eqb-true u s q in Going (ap (phase l) (sym n) ∙ h.0.allowed.is_open.active) (ap (killed l) (sym n) ∙ h.0.allowed.is_open.unkilled)
      go false q k f = carries (Changed u c) l s ds refl refl (λ x. ap (λ b. elim (b && item_eq c.item x) [ true ↦ true | false ↦ keeps_key l s x ]) q) (f k)
  open_as (Done p ∷ l) s ds h o e =
      let a = done_place t i base l p h.0 o.1 in
      let q = unless_hit_is a.listed (lives.open_of t (life_of base l) s) ds (ap (λ y. lives.unless_hit y (lives.open_of t (life_of base l) s)) (sym a.newest) ∙ e) in
      after_done l s p ds a q.1 (open_as l s ds h.1 o.1 q.0) (λ act un. let z = opened t i base l s h.1 o.1 act un in (z.keeps, open_changes l s ds z q.0))
  open_as (Made v y ∷ l) s ds h o e = made y e (open_as l s ds h.1 o.1)
    where
      asked : (b : Bool) → cond b None (lives.open_of t (life_of base l) s) ≡ Some ds → lives.open_of t (life_of base l) s ≡ Some ds
      asked true q = absurd (some_none (sym q))
      asked false q = q

      made : (y : Option Body) → lives.open_of t (life_of base (Made v y ∷ l)) s ≡ Some ds → (lives.open_of t (life_of base l) s ≡ Some ds → OpenAs l s ds) → OpenAs (Made v y ∷ l) s ds
      made (Some (Writes x)) q f = carries (Made v (Some (Writes x))) l s ds refl refl (λ x. refl) (f (asked (asking l == s) q))
      made y q f = carries (Made v y) l s ds refl refl (λ x. refl) (f q)
  open_as (Answered u a ∷ l) s ds h o e = answered a e (open_as l s ds h.1 o.1)
    where
      answered : (a : Answer) → lives.open_of t (life_of base (Answered u a ∷ l)) s ≡ Some ds → (lives.open_of t (life_of base l) s ≡ Some ds → OpenAs l s ds) → OpenAs (Answered u a ∷ l) s ds
      answered (CommittedAs g) q f = carries (Answered u (CommittedAs g)) l s ds refl refl (λ x. refl) (f q)
      answered a q f = carries (Answered u a) l s ds refl refl (λ x. refl) (f q)
  open_as (Is x c ∷ l) s ds h o e = is x e (open_as l s ds h.1 o.1)
    where
      is : (x : MemberState) → lives.open_of t (life_of base (Is x c ∷ l)) s ≡ Some ds → (lives.open_of t (life_of base l) s ≡ Some ds → OpenAs l s ds) → OpenAs (Is x c ∷ l) s ds
      is Error q f = carries (Is Error c) l s ds refl refl (λ x. refl) (f q)
      is x q f = carries (Is x c) l s ds refl refl (λ x. refl) (f q)
  open_as (Came (Hears m) ∷ l) s ds h o e = carries (Came (Hears m)) l s ds refl refl (λ x. refl) (open_as l s ds h.1 o.1 e)
  open_as (Came Ticks ∷ l) s ds h o e = carries (Came Ticks) l s ds refl refl (λ x. refl) (open_as l s ds h.1 o.1 e)
  open_as (Came (Works z y) ∷ l) s ds h o e = carries (Came (Works z y)) l s ds refl refl (λ x. refl) (open_as l s ds h.1 o.1 e)
  open_as (Came (Calls z y) ∷ l) s ds h o e = carries (Came (Calls z y)) l s ds refl refl (λ x. refl) (open_as l s ds h.1 o.1 e)
  open_as (Came (Operates z) ∷ l) s ds h o e = carries (Came (Operates z)) l s ds refl refl (λ x. refl) (open_as l s ds h.1 o.1 e)
  open_as (Skips u v ∷ l) s ds h o e = carries (Skips u v) l s ds refl refl (λ x. refl) (open_as l s ds h.1 o.1 e)
  open_as (Committed y ∷ l) s ds h o e = carries (Committed y) l s ds refl refl (λ x. refl) (open_as l s ds h.1 o.1 e)
  open_as (Gave n m ∷ l) s ds h o e = carries (Gave n m) l s ds refl refl (λ x. refl) (open_as l s ds h.1 o.1 e)
  open_as (Replied r ∷ l) s ds h o e = carries (Replied r) l s ds refl refl (λ x. refl) (open_as l s ds h.1 o.1 e)
  open_as (AskFails ∷ l) s ds h o e = carries AskFails l s ds refl refl (λ x. refl) (open_as l s ds h.1 o.1 e)
  open_as (Founds ∷ l) s ds h o e = carries Founds l s ds refl refl (λ x. refl) (open_as l s ds h.1 o.1 e)
  open_as (Starts x ∷ l) s ds h o e = carries (Starts x) l s ds refl refl (λ x. refl) (open_as l s ds h.1 o.1 e)
  open_as (Took z ∷ l) s ds h o e = carries (Took z) l s ds refl refl (λ x. refl) (open_as l s ds h.1 o.1 e)
  open_as (Enters z ∷ l) s ds h o e = carries (Enters z) l s ds refl refl (λ x. refl) (open_as l s ds h.1 o.1 e)
  open_as (Restores y cs ∷ l) s ds h o e = carries (Restores y cs) l s ds refl refl (λ x. refl) (open_as l s ds h.1 o.1 e)

  -- ---- a key without a holder

  pub free_of : (l : Life) (x : Item) (s : ℕ) (ts : List ℕ) (u : ℕ) → session_holder l x s ts ≡ None → In u ts → (u == s) ≡ false → holds_key l x u ≡ false
  free_of l x s [] u h m n = absurd m
  free_of l x s (y ∷ ts) u h m n = go (not (y == s) && holds_key l x y) refl h m (λ k z. free_of l x s ts u k z n)
    where
      not_held : (a b : Bool) → (not a && b) ≡ false → a ≡ false → b ≡ false
      not_held true b e q = absurd (false≢true (sym q))
      not_held false b e q = e

      go : (b : Bool) → (not (y == s) && holds_key l x y) ≡ b → ◌≡◌ {A = Option Holder} (elim b [ true ↦ Some (BySession y) | false ↦ session_holder l x s ts ]) None → (y ≡ u) ⊎ In u ts → (session_holder l x s ts ≡ None → In u ts → holds_key l x u ≡ false) → holds_key l x u ≡ false
      go true e q k f = absurd (some_none q)
      go false e q (inl z) f = not_held (u == s) (holds_key l x u) (ap (λ n. not (n == s) && holds_key l x n) (sym z) ∙ e) n
      go false e q (inr z) f = f q z

  -- where no session holds it but this one, no other open transaction changes it
  pub none_open : (l : Life) (s : ℕ) (x : Item) → Lived t i l → AlwaysSound t i base l → session_holder l x s (sessions l) ≡ None →
      (u : ℕ) (ds : List Change) → (u ≡ s → ⊥) → lives.open_of t (life_of base l) u ≡ Some ds → any_item ds x ≡ false
  none_open l s x h o n u ds ne e = go (open_as l u ds h o e)
    where
      other : (u == s) ≡ false
      other = elim (cases_Bool (eqb u s)) [ inl q ↦ absurd (ne (eqb-true u s q)) | inr q ↦ q ]

      free : is_begun (phase l u) ≡ true → holds_key l x u ≡ false
      free b = free_of l x s (sessions l) u n (in_sessions l u h b) other

      not_kept : (b : Bool) → any_item ds x ≡ b → (any_item ds x ≡ true → ⊥) → b ≡ false
      not_kept true q f = absurd (f q)
      not_kept false q f = refl

      go : OpenAs l u ds → any_item ds x ≡ false
      go (Waiting p) =
          let z = opened t i base l u h o (ap is_open p) (unkilled p (killed l u) refl) in
          ap (λ c. any_item c x) (sym (open_changes l u ds z e) ∙ z.none_yet p)
        where
          unkilled : phase l u ≡ Holding → (g : Option Gtid) → killed l u ≡ g → killed l u ≡ None
          unkilled p None q = q
          unkilled p (Some g) q = let n : Holding ≡ Active = sym p ∙ killed_active t i base l u g h q in absurd (cc n)
      go (Going p k) =
          let z = opened t i base l u h o (ap is_open p) k in
          sym (z.keeps x ∙ ap (λ c. any_item c x) (open_changes l u ds z e)) ∙ held (keeps_key l u x) (free (ap is_begun p))
        where
          held : (b : Bool) → ((is_asking (phase l u) || (is_active (phase l u) && not (is_some (killed l u)))) && b) ≡ false → b ≡ false
          held b q = by b (ap (λ y. (is_asking y || (is_active y && not (is_some (killed l u)))) && b) (sym p) ∙ q)
            where
              by : (b : Bool) → (not (is_some (killed l u)) && b) ≡ false → b ≡ false
              by b q = sym (ap (λ y. not (is_some y) && b) k) ∙ q
      go (Sent id p k) = not_kept (any_item ds x) refl (λ q. absurd (false≢true (sym (free (ap is_begun p)) ∙ (ap (λ y. (is_asking y || (is_active y && not (is_some (killed l u)))) && keeps_key l u x) p ∙ k x q))))
