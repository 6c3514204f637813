-- The keys that sessions hold: the changes of an open transaction.
use Rattle.std.proofs.Common.{◌≡◌, ℕ, Bool, true, false, cond, ◌&&◌, ◌||◌, Option, Some, None, List, [], ◌∷◌, ◌++◌, refl, sym, ap, ◌∙◌, eq-eqb}
use Rattle.std.specs.Prelude.{◌==◌}
use Rattle.std.specs.List.{list_any}
use Rattle.std.proofs.lemmas.Bool.{false≢true, eqb-true}
use Rattle.gr_ids.specs.declared.names.Inc.{Inc}
use Rattle.gr_ids.specs.declared.names.Gtid.{Gtid}
use Rattle.gr_ids.specs.declared.names.ValueId.{ValueId}
use Rattle.gr_ids.specs.declared.levels.MemberState.{MemberState}
use Rattle.gr_ids.specs.declared.levels.MemberState.TheVariants.{Error}
use Rattle.key_items.specs.declared.item.Item.{Item}
use Rattle.key_items.specs.Items.{item_eq, has_item}
use Rattle.slot_values.specs.declared.value.Value.{Value}
use Rattle.txn_forms.specs.declared.body.Txn.{Txn}
use Rattle.txn_forms.specs.declared.body.Part.{Part}
use Rattle.txn_forms.specs.declared.body.Body.{Body}
use Rattle.txn_forms.specs.declared.body.Body.TheVariants.{Txn as Writes, Prepared, Sync, Executed, Online as Arrives, Mode as Switches, Primary as Appoints, Part as PartOf}
use Rattle.node_rules.specs.Lists.{In}
use Rattle.group_rules.specs.declared.answers.Answer.{Answer}
use Rattle.group_rules.specs.declared.answers.Answer.TheVariants.{Committed as CommittedAs}
use Rattle.group_rules.specs.Events.{Did, Founds, Starts, Came, Made, Took, Skips, Done, Committed, Is, Gave, Answered, Begun, Changed, Replied, Called, AsksCommit, Ends, Enters, Restores, AskFails, Hears, Ticks, Works, Calls, Operates, Life, Setup, Cert}
use Rattle.group_rules.specs.Life.{certs}
use Rattle.group_rules.specs.Queue.{at_place, queue}
use Rattle.group_rules.specs.Sessions.{Phase, Free, Holding, Active, Asking, is_holding, is_active, phase, changes}
use Rattle.group_rules.specs.Keys.{killed, hit_by, keeps_key, writes_key}
use Rattle.group_bridge.specs.Left.{MadeParts, AsksFor}
use Rattle.group_laws.specs.Entries as law
use Rattle.group_laws.specs.Life as lives
use Rattle.group_lives.specs.Lives.{asking, life_of}
use Rattle.group_lawful.specs.Lived.{LivedDid, Lived}
use Rattle.group_lawful.specs.Knows.{AlwaysSound}
use Rattle.group_lawful.proofs.Opens.{any_item, any_more, none_hit, kept_hit, any_same, find_is, in_pending, in_queue, AtPlace, at_place_as, sound_where}

some_none : {A : Type 0} {x : A} → Some x ≡ None → ⊥
some_none e = absurd (cc e)

some_is : {A : Type 0} {x y : A} → Some x ≡ Some y → x ≡ y
some_is {x = x} {y = y} e = cc

abbrev pub is_open : Phase → Bool
is_open p = is_holding p || is_active p

holding_is : (p : Phase) → is_holding p ≡ true → p ≡ Holding
holding_is Free e = absurd (false≢true e)
holding_is Holding e = refl
holding_is Active e = absurd (false≢true e)
holding_is (Asking i) e = absurd (false≢true e)

module _ (t : Setup) (i : Inc) (base : List law.Placed) where
  -- an open transaction has its changes, and keeps their keys
  pub record Opened (l : Life) (s : ℕ) : Type 0 where
    pub has : lives.open_of t (life_of base l) s ≡ Some (changes l s)
    pub keeps : (x : Item) → keeps_key l s x ≡ any_item (changes l s) x
    pub none_yet : phase l s ≡ Holding → changes l s ≡ []

  same_open : (d : Did) (l : Life) (s : ℕ) → lives.open_of t (life_of base (d ∷ l)) s ≡ lives.open_of t (life_of base l) s → changes (d ∷ l) s ≡ changes l s → ((x : Item) → keeps_key (d ∷ l) s x ≡ keeps_key l s x) → (phase (d ∷ l) s ≡ Holding → phase l s ≡ Holding) → Opened l s → Opened (d ∷ l) s
  same_open d l s a b c e o = record { has = a ∙ o.has ∙ ap Some (sym b); keeps = λ x. c x ∙ o.keeps x ∙ ap (λ ds. any_item ds x) (sym b); none_yet = λ h. b ∙ o.none_yet (e h) }

  -- where a place is done that hits no key that is kept
  still_none : (l : Life) (s p : ℕ) → killed (Done p ∷ l) s ≡ None → (killed l s ≡ None) × (hit_by l s (at_place (certs l) p) ≡ None)
  still_none l s p h = go (killed l s) h
    where
      go : (o : Option Gtid) → ◌≡◌ {A = Option Gtid} (elim o [ Some y ↦ Some y | None ↦ hit_by l s (at_place (certs l) p) ]) None → (o ≡ None) × (hit_by l s (at_place (certs l) p) ≡ None)
      go (Some y) q = absurd (cc q)
      go None q = (refl, q)

  -- the certified transaction of a place that is done
  pub done_place : (l : Life) (p : ℕ) → LivedDid t i (Done p) l → AlwaysSound t i base l → AtPlace t i base l p
  done_place l p h o =
      let z = h.allowed in
      let f = queue_has l p z.0 z.1 in
      at_place_as t i base l (sound_where t i base l o z.0 f.0).knows z.0 p f.0 f.1
    where
      queue_has : (l : Life) (p : ℕ) (c : Cert) → at_place (queue l i) p ≡ Some c → In c (certs l) × (c.place ≡ p)
      queue_has l p c h = let f = find_is p (queue l i) c h in let q = in_queue l i c f.0 in ((in_pending l c q.1).0, f.1)

  -- whether it hits the changes
  done_misses : (l : Life) (s p : ℕ) → (a : AtPlace t i base l p) → Opened l s → is_active (phase l s) ≡ true → hit_by l s (at_place (certs l) p) ≡ None → lives.hits (Some a.listed) (changes l s) ≡ false
  done_misses l s p a o act h =
      let q : ◌≡◌ {A = Option Gtid} (elim (is_active (phase l s) && list_any (keeps_key l s) (a.cert).txn.items) [ true ↦ Some (a.cert).gtid | false ↦ None ]) None = ap (hit_by l s) (sym a.found) ∙ h in
      kept_hit a.listed (changes l s) (ap (λ (y : Txn). list_any (any_item (changes l s)) y.items) (sym (a.alike).txn) ∙ sym (any_same (keeps_key l s) (any_item (changes l s)) o.keeps (a.cert).txn.items) ∙ none (is_active (phase l s)) (list_any (keeps_key l s) (a.cert).txn.items) act q)
    where
      none : (b d : Bool) → b ≡ true → ◌≡◌ {A = Option Gtid} (elim (b && d) [ true ↦ Some (a.cert).gtid | false ↦ None ]) None → d ≡ false
      none b false e q = refl
      none true true e q = absurd (some_none q)
      none false true e q = absurd (false≢true e)

  -- after a place that misses them
  done_open : (l : Life) (s p : ℕ) → (a : AtPlace t i base l p) → Opened l s → lives.hits (Some a.listed) (changes l s) ≡ false → Opened (Done p ∷ l) s
  done_open l s p a o m = record {
    has =
        ap (λ y. lives.unless_hit y (lives.open_of t (life_of base l) s)) a.newest
        ∙ ap (lives.unless_hit (Some a.listed)) o.has
        ∙ ap (λ b. cond b None (Some (changes l s))) m;
    keeps = λ x. keeps x (writes_key (at_place (certs l) p) x) refl;
    none_yet = o.none_yet;
  }
    where
      keeps : (x : Item) (b : Bool) → writes_key (at_place (certs l) p) x ≡ b → elim b [ true ↦ false | false ↦ keeps_key l s x ] ≡ any_item (changes l s) x
      keeps x false e = o.keeps x
      keeps x true e =
          let w : has_item (a.listed).txn.items x ≡ true = ap (λ (y : Txn). has_item y.items x) (sym (a.alike).txn) ∙ ap (λ y. writes_key y x) (sym a.found) ∙ e in
          sym (none_hit a.listed (changes l s) x m w)

  none_hits : (o : Option law.Cert) → lives.hits o [] ≡ false
  none_hits None = refl
  none_hits (Some c) = refl

  -- ---- what asks a commit

  -- the parts were made right after the commit was asked
  pub parts_asked : (ps : List Part) (l before : Life) (u : ℕ) (id : ValueId) → MadeParts ps l (AsksCommit u id ∷ before) → (asking l ≡ u) × (phase l u ≡ Asking id)
  parts_asked [] l before u id h = (ap asking h, ap (λ y. phase y u) h ∙ ap (λ b. elim b [ true ↦ Asking id | false ↦ phase before u ]) (eq-eqb u u refl))
  parts_asked (p ∷ ps) l before u id h = let k = parts_asked ps h.1 before u id h.3 in (ap asking h.2 ∙ k.0, ap (λ y. phase y u) h.2 ∙ k.1)

  made_open : (v : Value) (y : Option Body) (l : Life) (s : ℕ) → LivedDid t i (Made v y) l → is_open (phase l s) ≡ true → lives.open_of t (life_of base (Made v y ∷ l)) s ≡ lives.open_of t (life_of base l) s
  made_open v (Some (Writes x)) l s h o = go (asking l == s) refl
    where
      a : AsksFor l v x
      a = h.allowed.rightly

      go : (b : Bool) → (asking l == s) ≡ b → cond b None (lives.open_of t (life_of base l) s) ≡ lives.open_of t (life_of base l) s
      go false e = refl
      go true e =
          let k = parts_asked a.parts l a.past a.session a.id a.since in
          let same : a.session ≡ s = sym k.0 ∙ eqb-true (asking l) s e in
          absurd (false≢true (ap is_open (sym k.1) ∙ ap (λ n. is_open (phase l n)) same ∙ o))
  made_open v None l s h o = refl
  made_open v (Some (Prepared x)) l s h o = refl
  made_open v (Some Sync) l s h o = refl
  made_open v (Some (Executed x)) l s h o = refl
  made_open v (Some (Arrives x)) l s h o = refl
  made_open v (Some (Switches x)) l s h o = refl
  made_open v (Some (Appoints x)) l s h o = refl
  made_open v (Some (PartOf x)) l s h o = refl

  pub opened : (l : Life) (s : ℕ) → Lived t i l → AlwaysSound t i base l → is_open (phase l s) ≡ true → killed l s ≡ None → Opened l s
  opened [] s h o a k = absurd (false≢true a)
  opened (Called u v w ∷ l) s h o a k = go (u == s) refl a k (opened l s h.1 o.1)
    where
      open_is : (b : Bool) → (u == s) ≡ b → lives.open_of t (life_of base (Called u v w ∷ l)) s ≡ cond b (Some []) (lives.open_of t (life_of base l) s)
      open_is b e = ap (λ b. cond b (Some []) (lives.open_of t (life_of base l) s)) e

      changes_are : (b : Bool) → (u == s) ≡ b → changes (Called u v w ∷ l) s ≡ elim b [ true ↦ [] | false ↦ changes l s ]
      changes_are b e = ap (λ b. elim b [ true ↦ [] | false ↦ changes l s ]) e

      keeps_are : (b : Bool) → (u == s) ≡ b → (x : Item) → keeps_key (Called u v w ∷ l) s x ≡ elim b [ true ↦ false | false ↦ keeps_key l s x ]
      keeps_are b e x = ap (λ b. elim b [ true ↦ false | false ↦ keeps_key l s x ]) e

      go : (b : Bool) → (u == s) ≡ b → is_open (elim b [ true ↦ Holding | false ↦ phase l s ]) ≡ true → ◌≡◌ {A = Option Gtid} (elim b [ true ↦ None | false ↦ killed l s ]) None → (is_open (phase l s) ≡ true → killed l s ≡ None → Opened l s) → Opened (Called u v w ∷ l) s
      go true e p q f = record { has = open_is true e ∙ ap Some (sym (changes_are true e)); keeps = λ x. keeps_are true e x ∙ ap (λ ds. any_item ds x) (sym (changes_are true e)); none_yet = λ z. changes_are true e }
      go false e p q f = same_open (Called u v w) l s (open_is false e) (changes_are false e) (keeps_are false e) (λ z. ap (λ b. elim b [ true ↦ Holding | false ↦ phase l s ]) (sym e) ∙ z) (f p q)
  opened (Ends u ∷ l) s h o a k = go (u == s) refl a k (opened l s h.1 o.1)
    where
      go : (b : Bool) → (u == s) ≡ b → is_open (elim b [ true ↦ Free | false ↦ phase l s ]) ≡ true → ◌≡◌ {A = Option Gtid} (elim b [ true ↦ None | false ↦ killed l s ]) None → (is_open (phase l s) ≡ true → killed l s ≡ None → Opened l s) → Opened (Ends u ∷ l) s
      go true e p q f = absurd (false≢true p)
      go false e p q f = same_open (Ends u) l s (ap (λ b. cond b None (lives.open_of t (life_of base l) s)) e) refl (λ x. refl) (λ z. ap (λ b. elim b [ true ↦ Free | false ↦ phase l s ]) (sym e) ∙ z) (f p q)
  opened (Begun u y c ∷ l) s h o a k = go (u == s) refl a (opened l s h.1 o.1)
    where
      go : (b : Bool) → (u == s) ≡ b → is_open (elim b [ true ↦ Active | false ↦ phase l s ]) ≡ true → (is_open (phase l s) ≡ true → killed l s ≡ None → Opened l s) → Opened (Begun u y c ∷ l) s
      go true e p f = same_open (Begun u y c) l s refl refl (λ x. refl) (λ z. let n : Active ≡ Holding = ap (λ b. elim b [ true ↦ Active | false ↦ phase l s ]) (sym e) ∙ z in absurd (cc n)) (f (ap is_open (ap (phase l) (sym (eqb-true u s e)) ∙ h.0.allowed.held)) k)
      go false e p f = same_open (Begun u y c) l s refl refl (λ x. refl) (λ z. ap (λ b. elim b [ true ↦ Active | false ↦ phase l s ]) (sym e) ∙ z) (f p k)
  opened (AsksCommit u y ∷ l) s h o a k = go (u == s) refl a (opened l s h.1 o.1)
    where
      go : (b : Bool) → (u == s) ≡ b → is_open (elim b [ true ↦ Asking y | false ↦ phase l s ]) ≡ true → (is_open (phase l s) ≡ true → killed l s ≡ None → Opened l s) → Opened (AsksCommit u y ∷ l) s
      go true e p f = absurd (false≢true p)
      go false e p f = same_open (AsksCommit u y) l s refl refl (λ x. refl) (λ z. ap (λ b. elim b [ true ↦ Asking y | false ↦ phase l s ]) (sym e) ∙ z) (f p k)
  opened (Changed u c ∷ l) s h o a k = go (u == s) refl (opened l s h.1 o.1 a k)
    where
      go : (b : Bool) → (u == s) ≡ b → Opened l s → Opened (Changed u c ∷ l) s
      go true e f = record {
        has = ap (λ b. cond b (lives.one_more c (lives.open_of t (life_of base l) s)) (lives.open_of t (life_of base l) s)) e ∙ ap (lives.one_more c) f.has ∙ ap (λ b. Some (elim b [ true ↦ changes l s ++ c ∷ [] | false ↦ changes l s ])) (sym e);
        keeps = λ x. keeps x (item_eq c.item x) refl;
        none_yet = λ z. let n : Active ≡ Holding = sym (ap (phase l) (sym (eqb-true u s e)) ∙ h.0.allowed.is_open.active) ∙ z in absurd (cc n);
      }
        where
          more : changes (Changed u c ∷ l) s ≡ changes l s ++ c ∷ []
          more = ap (λ b. elim b [ true ↦ changes l s ++ c ∷ [] | false ↦ changes l s ]) e

          keeps : (x : Item) (d : Bool) → item_eq c.item x ≡ d → keeps_key (Changed u c ∷ l) s x ≡ any_item (changes (Changed u c ∷ l) s) x
          keeps x d q =
              (λ k. elim (e k && q k) [ true ↦ true | false ↦ keeps_key l s x ])
              ∙ by d (keeps_key l s x) (any_item (changes l s) x) (f.keeps x)
              ∙ ap (λ b. any_item (changes l s) x || b) (sym q)
              ∙ sym (ap (λ ds. any_item ds x) more ∙ any_more (changes l s) c x)
            where
              by : (d a b : Bool) → a ≡ b → elim (true && d) [ true ↦ true | false ↦ a ] ≡ (b || d)
              by true a true e = refl
              by true a false e = refl
              by false a true e = e
              by false a false e = e
      go false e f = same_open (Changed u c) l s (ap (λ b. cond b (lives.one_more c (lives.open_of t (life_of base l) s)) (lives.open_of t (life_of base l) s)) e) (ap (λ b. elim b [ true ↦ changes l s ++ c ∷ [] | false ↦ changes l s ]) e) (λ x. keeps x) (λ z. z) f
        where
          keeps : (x : Item) → keeps_key (Changed u c ∷ l) s x ≡ keeps_key l s x
          keeps x = ap (λ b. elim (b && item_eq c.item x) [ true ↦ true | false ↦ keeps_key l s x ]) e
  opened (Done p ∷ l) s h o a k =
      let n = still_none l s p k in
      let f = opened l s h.1 o.1 a n.0 in
      let z = done_place l p h.0 o.1 in
      done_open l s p z f (misses z f n.1 (phase l s) refl)
    where
      misses : (z : AtPlace t i base l p) → Opened l s → hit_by l s (at_place (certs l) p) ≡ None → (q : Phase) → phase l s ≡ q → lives.hits (Some z.listed) (changes l s) ≡ false
      misses z f n Active e = done_misses l s p z f (ap is_active e) n
      misses z f n Holding e = ap (lives.hits (Some z.listed)) (f.none_yet e)
      misses z f n Free e = absurd (false≢true (ap is_open (sym e) ∙ a))
      misses z f n (Asking y) e = absurd (false≢true (ap is_open (sym e) ∙ a))
  opened (Made v y ∷ l) s h o a k = same_open (Made v y) l s (made_open v y l s h.0 a) refl (λ x. refl) (λ z. z) (opened l s h.1 o.1 a k)
  opened (Answered u x ∷ l) s h o a k = same_open (Answered u x) l s (answered x) refl (λ y. refl) (λ z. z) (opened l s h.1 o.1 a k)
    where
      answered : (x : Answer) → lives.open_of t (life_of base (Answered u x ∷ l)) s ≡ lives.open_of t (life_of base l) s
      answered (CommittedAs g) = refl
      answered x = refl
  opened (Is x c ∷ l) s h o a k = same_open (Is x c) l s (is x) refl (λ y. refl) (λ z. z) (opened l s h.1 o.1 a k)
    where
      is : (x : MemberState) → lives.open_of t (life_of base (Is x c ∷ l)) s ≡ lives.open_of t (life_of base l) s
      is Error = refl
      is x = refl
  opened (Came (Hears m) ∷ l) s h o a k = same_open (Came (Hears m)) l s refl refl (λ x. refl) (λ z. z) (opened l s h.1 o.1 a k)
  opened (Came Ticks ∷ l) s h o a k = same_open (Came Ticks) l s refl refl (λ x. refl) (λ z. z) (opened l s h.1 o.1 a k)
  opened (Came (Works z y) ∷ l) s h o a k = same_open (Came (Works z y)) l s refl refl (λ x. refl) (λ z. z) (opened l s h.1 o.1 a k)
  opened (Came (Calls z y) ∷ l) s h o a k = same_open (Came (Calls z y)) l s refl refl (λ x. refl) (λ z. z) (opened l s h.1 o.1 a k)
  opened (Came (Operates z) ∷ l) s h o a k = same_open (Came (Operates z)) l s refl refl (λ x. refl) (λ z. z) (opened l s h.1 o.1 a k)
  opened (Skips u v ∷ l) s h o a k = same_open (Skips u v) l s refl refl (λ x. refl) (λ z. z) (opened l s h.1 o.1 a k)
  opened (Committed y ∷ l) s h o a k = same_open (Committed y) l s refl refl (λ x. refl) (λ z. z) (opened l s h.1 o.1 a k)
  opened (Gave n m ∷ l) s h o a k = same_open (Gave n m) l s refl refl (λ x. refl) (λ z. z) (opened l s h.1 o.1 a k)
  opened (Replied r ∷ l) s h o a k = same_open (Replied r) l s refl refl (λ x. refl) (λ z. z) (opened l s h.1 o.1 a k)
  opened (AskFails ∷ l) s h o a k = same_open AskFails l s refl refl (λ x. refl) (λ z. z) (opened l s h.1 o.1 a k)
  opened (Founds ∷ l) s h o a k = same_open Founds l s refl refl (λ x. refl) (λ z. z) (opened l s h.1 o.1 a k)
  opened (Starts x ∷ l) s h o a k = same_open (Starts x) l s refl refl (λ x. refl) (λ z. z) (opened l s h.1 o.1 a k)
  opened (Took z ∷ l) s h o a k = same_open (Took z) l s refl refl (λ x. refl) (λ z. z) (opened l s h.1 o.1 a k)
  opened (Enters z ∷ l) s h o a k = same_open (Enters z) l s refl refl (λ x. refl) (λ z. z) (opened l s h.1 o.1 a k)
  opened (Restores y cs ∷ l) s h o a k = same_open (Restores y cs) l s refl refl (λ x. refl) (λ z. z) (opened l s h.1 o.1 a k)
