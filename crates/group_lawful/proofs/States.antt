-- The own state of a history and how its incarnation stands in the list that it takes.
use Rattle.std.proofs.Common.{◌≡◌, ◌⊎◌, inl, inr, ℕ, ◌<◌, Bool, true, false, cond, not, ◌&&◌, ◌||◌, Option, Some, None, List, [], ◌∷◌, refl, sym, ap, subst, ◌∙◌, length, arith}
use Rattle.std.specs.List.{list_any}
use Rattle.std.proofs.lemmas.Bool.{false≢true, cases_Bool, and_parts}
use Rattle.gr_ids.specs.Names.{inc_eq}
use Rattle.gr_ids.specs.declared.names.Inc.{Inc}
use Rattle.gr_ids.specs.declared.levels.MemberState.{MemberState}
use Rattle.gr_ids.specs.declared.levels.MemberState.TheVariants.{Offline, Recovering, Online, Error}
use Rattle.slot_values.specs.declared.value.Value.{Value}
use Rattle.slot_values.specs.declared.value.What.{What}
use Rattle.slot_values.specs.declared.value.What.TheVariants.{Noop, Add, Remove, Body as Says}
use Rattle.txn_forms.specs.declared.body.Body.{Body}
use Rattle.txn_forms.specs.declared.body.Body.TheVariants.{Txn as Writes, Prepared, Sync, Executed, Online as Arrives, Mode as Switches, Primary as Appoints, Part as PartOf}
use Rattle.group_rules.specs.declared.answers.Answer.{Answer}
use Rattle.group_rules.specs.declared.answers.Answer.TheVariants.{Committed as CommittedAs}
use Rattle.group_rules.specs.declared.marks.Cause.{Cause}
use Rattle.group_rules.specs.declared.marks.Effect.{Effect}
use Rattle.group_rules.specs.declared.marks.Effect.TheVariants.{Plain, Void, Unread, Positive, Conflict}
use Rattle.group_rules.specs.Events.{Founds, Starts, Came, Made, Took, Skips, Done, Committed, Is, Gave, Answered, Begun, Changed, Replied, Called, AsksCommit, Ends, Enters, Restores, AskFails, Hears, Ticks, Works, Calls, Operates, Life, Setup, Entry, Cert}
use Rattle.group_rules.specs.Names.{Give}
use Rattle.group_rules.specs.View.{View}
use Rattle.group_rules.specs.Life.{state, is_up, is_error, is_offline, is_recovering, is_arrival, has_give, view}
use Rattle.group_rules.specs.Taking.{takes_slots}
use Rattle.group_bridge.specs.Left.{is_arrival_of, is_exit, is_exit_of, is_settled}
use Rattle.group_runs.specs.Runs.{is_founder, IsFirst}
use Rattle.group_order.specs.OneLog.{IsReady}
use Rattle.group_order.proofs.Shapes.{Shape, takes_after}
use Rattle.group_lives.specs.Sound.{IsEffect, IsTaking, IsNew, AddsNew}
use Rattle.group_laws.specs.Entries as law
use Rattle.group_laws.specs.View as seen
use Rattle.group_laws.specs.Life as lives
use Rattle.node_rules.proofs.Incs.{inc_same}
use Rattle.group_lives.specs.Lives.{does_body, does_entry, life_of}
use Rattle.group_lives.proofs.Taking.{skip_answer, skip_state, skip_made}
use Rattle.group_lawful.specs.Lived.{LivedDid, Lived}
use Rattle.group_lawful.specs.Knows.{Sound, SoundAt, AlwaysSound}

-- ---- ERROR

-- a fall leaves ERROR, and ERROR is left by a fall
abbrev pub has_fallen : List law.Placed → Life → Bool
has_fallen base l = list_any lives.is_fall (life_of base l)

module _ (t : Setup) (i : Inc) (base : List law.Placed) where
  fall_first : (x : MemberState) (l : Life) → IsFirst l x → has_fallen base l ≡ false
  fall_first x l (inl h) = ap (has_fallen base) h.0
  fall_first x l (inr h) = ap (has_fallen base) h.1

  not_error : (l : Life) → takes_slots l ≡ true → is_error (state l) ≡ false
  not_error l h = go (state l) (has_give l) h
    where
      go : (x : MemberState) (b : Bool) → (is_up x || (is_recovering x && b)) ≡ true → is_error x ≡ false
      go Offline b q = refl
      go Recovering b q = refl
      go Online b q = refl
      go Error b q = absurd (false≢true q)

  offline_not_error : (x : MemberState) → is_offline x ≡ true → is_error x ≡ false
  offline_not_error Offline q = refl
  offline_not_error Recovering q = refl
  offline_not_error Online q = refl
  offline_not_error Error q = absurd (false≢true q)

  -- the last thing but one wasn't left in ERROR
  TailUp : Life → Type 0
  TailUp [] = Unit {0}
  TailUp (Took e ∷ l) = is_error (state l) ≡ false
  TailUp (Enters w ∷ l) = is_error (state l) ≡ false
  TailUp (d ∷ l) = Unit {0}

  tail_up : (l : Life) → Lived t i l → TailUp l
  unfolding TailUp
  tail_up [] h = tt
  tail_up (Took e ∷ l) h = not_error l h.0.allowed
  tail_up (Enters w ∷ l) h = let n = h.0.allowed in subst (λ y. is_error (state y) ≡ false) (sym n.heard) (offline_not_error (state n.past) n.offline)
  tail_up (Founds ∷ l) h = tt
  tail_up (Starts x ∷ l) h = tt
  tail_up (Made v y ∷ l) h = tt
  tail_up (Answered s a ∷ l) h = tt
  tail_up (Is x c ∷ l) h = tt
  tail_up (Restores g cs ∷ l) h = tt
  tail_up (Came (Hears m) ∷ l) h = tt
  tail_up (Came Ticks ∷ l) h = tt
  tail_up (Came (Works a b) ∷ l) h = tt
  tail_up (Came (Calls a b) ∷ l) h = tt
  tail_up (Came (Operates a) ∷ l) h = tt
  tail_up (Skips s v ∷ l) h = tt
  tail_up (Done n ∷ l) h = tt
  tail_up (Committed g ∷ l) h = tt
  tail_up (Gave n m ∷ l) h = tt
  tail_up (Begun s a b ∷ l) h = tt
  tail_up (Changed s c ∷ l) h = tt
  tail_up (Replied r ∷ l) h = tt
  tail_up (Called s v w ∷ l) h = tt
  tail_up (AsksCommit s y ∷ l) h = tt
  tail_up (Ends s ∷ l) h = tt
  tail_up (AskFails ∷ l) h = tt

  made_skip : (v : Value) (y : Option Body) (l : Life) → has_fallen base (Made v y ∷ l) ≡ has_fallen base l
  made_skip v (Some (Writes x)) l = refl
  made_skip v y l = refl

  answer_skip : (s : ℕ) (a : Answer) (l : Life) → has_fallen base (Answered s a ∷ l) ≡ has_fallen base l
  answer_skip s (CommittedAs g) l = refl
  answer_skip s a l = refl

  state_is : (x : MemberState) (c : Cause) (l : Life) → Lived t i (Is x c ∷ l) → has_fallen base l ≡ is_error (state l) → has_fallen base (Is x c ∷ l) ≡ is_error x
  unfolding TailUp
  state_is Error c l h k = refl
  state_is Offline c l (inl f, h) k = fall_first Offline l f
  state_is Recovering c l (inl f, h) k = fall_first Recovering l f
  state_is Online c l (inl f, h) k = fall_first Online l f
  state_is Offline c l (inr f, h) k = absurd f.allowed
  state_is Recovering c l (inr f, h) k = let z = f.allowed in k ∙ ap (λ y. is_error (state y)) z.2 ∙ subst TailUp z.2 (tail_up l h)
  state_is Online c l (inr f, h) k = let z = f.allowed in k ∙ ap (λ y. is_error (state y)) z.2 ∙ subst TailUp z.2 (tail_up l h)

  pub fallen_is : (l : Life) → Lived t i l → has_fallen base l ≡ is_error (state l)
  unfolding TailUp
  fallen_is [] h = refl
  fallen_is (Founds ∷ l) h = fallen_is l h.1
  fallen_is (Starts x ∷ l) h = fallen_is l h.1
  fallen_is (Took e ∷ l) h = fallen_is l h.1
  fallen_is (Enters w ∷ l) h = fallen_is l h.1
  fallen_is (Restores g cs ∷ l) h = fallen_is l h.1
  fallen_is (Made v y ∷ l) h = made_skip v y l ∙ fallen_is l h.1
  fallen_is (Answered s a ∷ l) h = answer_skip s a l ∙ fallen_is l h.1
  fallen_is (Is x c ∷ l) h = state_is x c l h (fallen_is l h.1)
  fallen_is (Came (Hears m) ∷ l) h = fallen_is l h.1
  fallen_is (Came Ticks ∷ l) h = fallen_is l h.1
  fallen_is (Came (Works a b) ∷ l) h = fallen_is l h.1
  fallen_is (Came (Calls a b) ∷ l) h = fallen_is l h.1
  fallen_is (Came (Operates a) ∷ l) h = fallen_is l h.1
  fallen_is (Skips s v ∷ l) h = fallen_is l h.1
  fallen_is (Done n ∷ l) h = fallen_is l h.1
  fallen_is (Committed g ∷ l) h = fallen_is l h.1
  fallen_is (Gave n m ∷ l) h = fallen_is l h.1
  fallen_is (Begun s a b ∷ l) h = fallen_is l h.1
  fallen_is (Changed s c ∷ l) h = fallen_is l h.1
  fallen_is (Replied r ∷ l) h = fallen_is l h.1
  fallen_is (Called s v w ∷ l) h = fallen_is l h.1
  fallen_is (AsksCommit s y ∷ l) h = fallen_is l h.1
  fallen_is (Ends s ∷ l) h = fallen_is l h.1
  fallen_is (AskFails ∷ l) h = fallen_is l h.1

  -- ---- how it stands

  abbrev pub stand : Life → seen.Standing
  stand l = seen.standing t (lives.taken (life_of base l)) i

  abbrev pub StateAs : MemberState → seen.Standing → Type 0
  StateAs Online x = x ≡ seen.Active
  StateAs Recovering x = x ≡ seen.Recovering
  StateAs Error x = Unit {0}
  StateAs Offline x = ⊥

  -- one that takes slots stands as its state says
  abbrev pub StandsSo : Life → Type 0
  StandsSo l = IsReady t i l → 1 < length l → is_settled i l ≡ true → StateAs (state l) (stand l)

  abbrev TailStands : Life → Type 0
  TailStands [] = Unit {0}
  TailStands (d ∷ l) = StandsSo l

  -- one that is in stays as it is
  pub IsIn : seen.Standing → Type 0
  IsIn x = (x ≡ seen.Active) ⊎ (x ≡ seen.Recovering)

  is_in : (x : MemberState) (b : Bool) (y : seen.Standing) → (is_up x || (is_recovering x && b)) ≡ true → StateAs x y → IsIn y
  unfolding IsIn
  is_in Offline b y h k = absurd k
  is_in Recovering b y h k = inr k
  is_in Online b y h k = inl k
  is_in Error b y h k = absurd (false≢true h)

  join_stays : (b : Bool) (y : seen.Standing) → IsIn y → cond b (seen.on_join y) y ≡ y
  unfolding IsIn
  join_stays false y h = refl
  join_stays true y (inl h) = ap seen.on_join h ∙ sym h
  join_stays true y (inr h) = ap seen.on_join h ∙ sym h

  body_stays : (o : Inc) (b : Option Body) (y : seen.Standing) → (inc_eq o i && is_arrival b) ≡ false → seen.stands_after i o (does_body b) y ≡ y
  body_stays o None y h = refl
  body_stays o (Some (Writes x)) y h = refl
  body_stays o (Some (Prepared x)) y h = refl
  body_stays o (Some Sync) y h = refl
  body_stays o (Some (Executed x)) y h = refl
  body_stays o (Some (Switches x)) y h = refl
  body_stays o (Some (Appoints x)) y h = refl
  body_stays o (Some (PartOf x)) y h = refl
  body_stays o (Some (Arrives x)) y h = rw (sym (and_one (inc_eq o i)) ∙ h) refl
    where
      and_one : (b : Bool) → (b && true) ≡ b
      and_one true = refl
      and_one false = refl

  pub entry_stays : (o : Inc) (w : What) (f : Effect) (b : Option Body) (y : seen.Standing) → IsIn y → (inc_eq o i && is_arrival b) ≡ false → is_exit i w f ≡ false → seen.stands_after i o (does_entry w f b) y ≡ y
  entry_stays o (Says z) f b y n h e = body_stays o b y h
  entry_stays o Noop f b y n h e = refl
  entry_stays o (Add j) Plain b y n h e = join_stays (inc_eq j.inc i) y n
  entry_stays o (Add j) Void b y n h e = refl
  entry_stays o (Add j) Unread b y n h e = refl
  entry_stays o (Add j) (Positive g) b y n h e = refl
  entry_stays o (Add j) (Conflict g) b y n h e = refl
  entry_stays o (Remove j) Plain b y n h e = rw e refl
  entry_stays o (Remove j) Void b y n h e = refl
  entry_stays o (Remove j) Unread b y n h e = refl
  entry_stays o (Remove j) (Positive g) b y n h e = refl
  entry_stays o (Remove j) (Conflict g) b y n h e = refl

  or_none : (a b : Bool) → not (a || b) ≡ true → (a ≡ false) × (b ≡ false)
  or_none false false h = (refl, refl)
  or_none true b h = absurd (false≢true h)
  or_none false true h = absurd (false≢true h)

  -- one that takes slots is ready
  pub ready_by : (l : Life) → Shape t i l → takes_slots l ≡ true → IsReady t i l
  ready_by l s h = elim (cases_Bool (is_founder t i)) [ inl f ↦ inl f | inr f ↦ inr (takes_after t i l s h f).2 ]

  pub in_before : (e : Entry) (l : Life) → LivedDid t i (Took e) l → Shape t i l → StandsSo l → IsIn (stand l)
  in_before e l h s k = is_in (state l) (has_give l) (stand l) h.allowed (k (ready_by l s h.allowed) h.goes_on.begun h.goes_on.settled)

  took_stays : (e : Entry) (l : Life) → LivedDid t i (Took e) l → Shape t i l → StandsSo l → is_settled i (Took e ∷ l) ≡ true → StateAs (state l) (stand (Took e ∷ l))
  took_stays e l h s k z =
      let n = or_none (is_arrival_of i e) (is_exit_of i e) z in
      subst (StateAs (state l)) (sym (entry_stays e.value.id.origin e.value.what e.effect e.holds (stand l) (in_before e l h s k) n.0 n.1))
      (k (ready_by l s h.allowed) h.goes_on.begun h.goes_on.settled)

  -- its own Online entry
  arrives_body : (o : Inc) (w : What) (f : Effect) (b : Option Body) (v : View) → IsEffect t v w b f → (inc_eq o i && is_arrival b) ≡ true → (y : seen.Standing) → IsIn y → seen.stands_after i o (does_entry w f b) y ≡ seen.Active
  unfolding IsIn
  arrives_body o (Says z) f (Some (Arrives x)) v e h y n = rw (and_parts (inc_eq o i) true h).0 (rises n)
    where
      rises : (y ≡ seen.Active) ⊎ (y ≡ seen.Recovering) → seen.on_online y ≡ seen.Active
      rises (inl q) = ap seen.on_online q
      rises (inr q) = ap seen.on_online q
  arrives_body o w f None v e h y n = absurd (false≢true (and_parts (inc_eq o i) false h).1)
  arrives_body o Noop f (Some b) v e h y n = absurd e
  arrives_body o (Add j) f (Some b) v e h y n = absurd e
  arrives_body o (Remove j) f (Some b) v e h y n = absurd e
  arrives_body o (Says z) f (Some (Writes x)) v e h y n = absurd (false≢true (and_parts (inc_eq o i) false h).1)
  arrives_body o (Says z) f (Some (Prepared x)) v e h y n = absurd (false≢true (and_parts (inc_eq o i) false h).1)
  arrives_body o (Says z) f (Some Sync) v e h y n = absurd (false≢true (and_parts (inc_eq o i) false h).1)
  arrives_body o (Says z) f (Some (Executed x)) v e h y n = absurd (false≢true (and_parts (inc_eq o i) false h).1)
  arrives_body o (Says z) f (Some (Switches x)) v e h y n = absurd (false≢true (and_parts (inc_eq o i) false h).1)
  arrives_body o (Says z) f (Some (Appoints x)) v e h y n = absurd (false≢true (and_parts (inc_eq o i) false h).1)
  arrives_body o (Says z) f (Some (PartOf x)) v e h y n = absurd (false≢true (and_parts (inc_eq o i) false h).1)

  arrived : (e : Entry) (l : Life) → LivedDid t i (Took e) l → Shape t i l → StandsSo l → IsTaking t base (Took e ∷ l) → is_arrival_of i e ≡ true → stand (Took e ∷ l) ≡ seen.Active
  arrived e l h s k z a = arrives_body e.value.id.origin e.value.what e.effect e.holds (view t l) z.0.1 a (stand l) (in_before e l h s k)

  first_stands : (x : MemberState) (c : Cause) (l : Life) → IsFirst l x → Lived t i l → IsReady t i l → StateAs x (stand l)
  first_stands x c l (inl f) h (inl r) =
      subst (λ y. StateAs y (stand l)) (sym f.1) (ap stand f.0 ∙ ap (λ b. cond b seen.Active seen.Absent) r)
  first_stands x c l (inl f) h (inr g) = absurd (false≢true (ap has_give (sym f.0) ∙ g))
  first_stands x c l (inr f) h (inr g) = absurd (false≢true (ap has_give (sym f.1) ∙ g))
  first_stands x c l (inr f) h (inl r) = let z = subst (Lived t i) f.1 h in absurd (false≢true (sym z.0.1 ∙ r))

  -- what a joiner is given says that it has joined
  pub given_stands : (l : Life) (g : Give) (cs : List Cert) → Sound t i base (Restores g cs ∷ l) → is_founder t i ≡ false → seen.standing t (law.values base) i ≡ seen.Recovering
  given_stands l g cs o f =
      let n = o.joined f in
      let a : AddsNew t (n.add.value ∷ law.values n.rest) = subst (λ y. AddsNew t (law.values y)) n.is_base o.adds in
      let new : seen.standing t (law.values n.rest) (n.joiner).inc ≡ seen.Absent = subst (IsNew t (law.values n.rest)) n.joins a.0 in
      ap (λ y. seen.standing t (law.values y) i) n.is_base
      ∙ ap (λ b. seen.stands_after i n.add.value.origin b (seen.standing t (law.values n.rest) i)) n.joins
      ∙ ap (λ b. cond b (seen.on_join (seen.standing t (law.values n.rest) i)) (seen.standing t (law.values n.rest) i)) (ap (λ y. inc_eq y i) n.inc ∙ inc_same i)
      ∙ ap seen.on_join (ap (seen.standing t (law.values n.rest)) (sym n.inc) ∙ new)

  recovering_as : (x : MemberState) (y : seen.Standing) → is_recovering x ≡ true → y ≡ seen.Recovering → StateAs x y
  recovering_as Recovering y h k = k
  recovering_as Offline y h k = absurd (false≢true h)
  recovering_as Online y h k = absurd (false≢true h)
  recovering_as Error y h k = absurd (false≢true h)

  offline_none : (x : MemberState) (y : seen.Standing) → is_offline x ≡ true → StateAs x y → ⊥
  offline_none Offline y h k = k
  offline_none Recovering y h k = absurd (false≢true h)
  offline_none Online y h k = absurd (false≢true h)
  offline_none Error y h k = absurd (false≢true h)

  pub shape_of : (p : Life) → AlwaysSound t i base p → 1 < length p → Shape t i p
  shape_of [] q b = absurd (omega (arith, b))
  shape_of (d ∷ p) q b = q.0.0.0

  state_stands : (x : MemberState) (c : Cause) (l : Life) → Lived t i (Is x c ∷ l) → AlwaysSound t i base (Is x c ∷ l) → StandsSo l × TailStands l → StandsSo (Is x c ∷ l)
  state_stands x c l (inl f, h) o k r n z = subst (StateAs x) (sym (ap (λ y. seen.standing t (law.values y) i) (skip_state base x c l (life_of base l)))) (first_stands x c l f h r)
  state_stands Error c l (inr f, h) o k r n z = tt
  state_stands Offline c l (inr f, h) o k r n z = absurd f.allowed
  state_stands Recovering c l (inr f, h) o k r n z =
      let a = f.allowed in
      let y : LivedDid t i (Enters a.0) a.1 × Lived t i a.1 = subst (Lived t i) a.2 h in
      let w = y.0.allowed in
      let tail : StandsSo a.1 = subst TailStands a.2 k.1 in
      absurd (offline_none (state a.1) (stand a.1) (subst (λ u. is_offline (state u) ≡ true) (sym w.heard) w.offline) (tail (subst (IsReady t i) a.2 r) y.0.goes_on.begun y.0.goes_on.settled))
  state_stands Online c l (inr f, h) o k r n z =
      let a = f.allowed in
      let y : LivedDid t i (Took a.0) a.1 × Lived t i a.1 = subst (Lived t i) a.2 h in
      let tail : StandsSo a.1 = subst TailStands a.2 k.1 in
      let u : ((Shape t i (Took a.0 ∷ a.1) × SoundAt t i base (Took a.0 ∷ a.1)) × Unit {0}) × AlwaysSound t i base a.1 = subst (AlwaysSound t i base) a.2 o.1 in
      let s : Shape t i a.1 = shape_of a.1 u.1 y.0.goes_on.begun in
      let m : IsReady t i (Took a.0 ∷ a.1) = subst (IsReady t i) a.2 r in
      ap stand a.2 ∙ arrived a.0 a.1 y.0 s tail (u.0.0.1 m (omega arith)).taking a.3

  pub stands_so : (l : Life) → Lived t i l → AlwaysSound t i base l → StandsSo l × TailStands l
  stands_so [] h o = ((λ r n z. absurd (omega (arith, n))), tt)
  stands_so (Founds ∷ l) h o = let k = stands_so l h.1 o.1 in ((λ r n z. let e : length l ≡ 0 = ap length h.0.0 in absurd (omega (arith, n, e))), k.0)
  stands_so (Starts x ∷ l) h o = let k = stands_so l h.1 o.1 in ((λ r n z. let e : length l ≡ 0 = ap length h.0.0 in absurd (omega (arith, n, e))), k.0)
  stands_so (Took e ∷ l) h o = let k = stands_so l h.1 o.1 in ((λ r n z. took_stays e l h.0 (shape_of l o.1 h.0.goes_on.begun) k.0 z), k.0)
  stands_so (Enters w ∷ l) h o = let k = stands_so l h.1 o.1 in ((λ r n z. absurd (false≢true z)), k.0)
  stands_so (Restores g cs ∷ l) h o =
      let k = stands_so l h.1 o.1 in
      let w = h.0.allowed in
      let up : is_recovering (state l) ≡ true = subst (λ y. is_recovering (state y) ≡ true) (sym w.heard) w.recovering in
      ((λ r n z. recovering_as (state l) (seen.standing t (law.values base) i) up (given_stands l g cs (o.0.0.1 r (omega arith)) (joined l (shape_of l o.1 h.0.goes_on.begun) up))), k.0)
    where
      joined : (l : Life) → Shape t i l → is_recovering (state l) ≡ true → is_founder t i ≡ false
      joined l s u = elim (cases_Bool (is_founder t i)) [ inl f ↦ absurd (false≢true (sym (s.founder f).joined ∙ u)) | inr f ↦ f ]
  stands_so (Is x c ∷ l) h o = let k = stands_so l h.1 o.1 in (state_stands x c l h o k, k.0)
  stands_so (Made v y ∷ l) h o =
      let k = stands_so l h.1 o.1 in
      ((λ r n z. subst (StateAs (state l)) (sym (ap (λ u. seen.standing t (law.values u) i) (skip_made v y l (life_of base l)))) (k.0 r h.0.goes_on.begun h.0.goes_on.settled)), k.0)
  stands_so (Answered s a ∷ l) h o =
      let k = stands_so l h.1 o.1 in
      ((λ r n z. subst (StateAs (state l)) (sym (ap (λ u. seen.standing t (law.values u) i) (skip_answer base s a l (life_of base l)))) (k.0 r h.0.goes_on.begun h.0.goes_on.settled)), k.0)
  stands_so (Came (Hears m) ∷ l) h o = let k = stands_so l h.1 o.1 in ((λ r n z. k.0 r h.0.begun h.0.settled), k.0)
  stands_so (Came Ticks ∷ l) h o = let k = stands_so l h.1 o.1 in ((λ r n z. k.0 r h.0.goes_on.begun h.0.goes_on.settled), k.0)
  stands_so (Came (Works a b) ∷ l) h o = let k = stands_so l h.1 o.1 in ((λ r n z. k.0 r h.0.goes_on.begun h.0.goes_on.settled), k.0)
  stands_so (Came (Calls a b) ∷ l) h o = let k = stands_so l h.1 o.1 in ((λ r n z. k.0 r h.0.goes_on.begun h.0.goes_on.settled), k.0)
  stands_so (Came (Operates a) ∷ l) h o = let k = stands_so l h.1 o.1 in ((λ r n z. k.0 r h.0.goes_on.begun h.0.goes_on.settled), k.0)
  stands_so (Skips s v ∷ l) h o = let k = stands_so l h.1 o.1 in ((λ r n z. k.0 r h.0.goes_on.begun h.0.goes_on.settled), k.0)
  stands_so (Done n ∷ l) h o = let k = stands_so l h.1 o.1 in ((λ r n z. k.0 r h.0.goes_on.begun h.0.goes_on.settled), k.0)
  stands_so (Committed g ∷ l) h o = let k = stands_so l h.1 o.1 in ((λ r n z. k.0 r h.0.goes_on.begun h.0.goes_on.settled), k.0)
  stands_so (Gave n m ∷ l) h o = let k = stands_so l h.1 o.1 in ((λ r n z. k.0 r h.0.goes_on.begun h.0.goes_on.settled), k.0)
  stands_so (Begun s a b ∷ l) h o = let k = stands_so l h.1 o.1 in ((λ r n z. k.0 r h.0.goes_on.begun h.0.goes_on.settled), k.0)
  stands_so (Changed s c ∷ l) h o = let k = stands_so l h.1 o.1 in ((λ r n z. k.0 r h.0.goes_on.begun h.0.goes_on.settled), k.0)
  stands_so (Replied r ∷ l) h o = let k = stands_so l h.1 o.1 in ((λ r n z. k.0 r h.0.goes_on.begun h.0.goes_on.settled), k.0)
  stands_so (Called s v w ∷ l) h o = let k = stands_so l h.1 o.1 in ((λ r n z. k.0 r h.0.goes_on.begun h.0.goes_on.settled), k.0)
  stands_so (AsksCommit s y ∷ l) h o = let k = stands_so l h.1 o.1 in ((λ r n z. k.0 r h.0.goes_on.begun h.0.goes_on.settled), k.0)
  stands_so (Ends s ∷ l) h o = let k = stands_so l h.1 o.1 in ((λ r n z. k.0 r h.0.goes_on.begun h.0.goes_on.settled), k.0)
  stands_so (AskFails ∷ l) h o = let k = stands_so l h.1 o.1 in ((λ r n z. k.0 r h.0.goes_on.begun h.0.goes_on.settled), k.0)
