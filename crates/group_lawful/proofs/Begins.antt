-- A begin that is answered: what it waited for holds.
use Rattle.std.proofs.Common.{◌≡◌, ◌⊎◌, inl, inr, ℕ, suc, ◌≤◌, ◌<◌, Bool, true, false, cond, not, ◌&&◌, ◌||◌, Option, Some, None, List, [], ◌∷◌, ◌++◌, refl, sym, ap, subst, ◌∙◌, length, arith}
use Rattle.std.specs.Prelude.{◌==◌, if◌then◌else◌, nat_lt, filter, map}
use Rattle.std.specs.List.{list_any, list_all}
use Rattle.std.proofs.lemmas.Bool.{false≢true, cases_Bool, or_left, or_right, and_parts, and_from, not-true, le-leb, eqb-true}
use Rattle.gr_ids.specs.Names.{inc_eq, gtid_eq}
use Rattle.gr_ids.specs.declared.names.Inc.{Inc}
use Rattle.gr_ids.specs.declared.names.Gtid.{Gtid}
use Rattle.gtid_sets.specs.Sets.{Gtids, has}
use Rattle.slot_values.specs.declared.value.What.{What}
use Rattle.slot_values.specs.declared.value.What.TheVariants.{Noop, Add, Remove, Body as Says}
use Rattle.txn_forms.specs.declared.body.Body.{Body}
use Rattle.txn_forms.specs.declared.body.Body.TheVariants.{Online as Arrives, Mode as Switches, Primary as Appoints}
use Rattle.txn_forms.specs.declared.body.Txn.{Txn}
use Rattle.node_rules.specs.Lists.{In}
use Rattle.node_rules.proofs.Incs.{inc_is, inc_same}
use Rattle.group_rules.specs.declared.marks.Effect.{Effect}
use Rattle.group_rules.specs.declared.marks.Effect.TheVariants.{Plain, Void, Unread, Positive, Conflict}
use Rattle.group_rules.specs.Events.{Did, Founds, Starts, Came, Made, Took, Skips, Done, Committed, Is, Gave, Answered, Begun, Changed, Replied, Called, AsksCommit, Ends, Enters, Restores, AskFails, Hears, Ticks, Works, Calls, Operates, Life, Setup, Entry, Cert}
use Rattle.group_bridge.specs.Moves.{slots_in}
use Rattle.group_rules.specs.Life.{state, is_up, is_error, is_recovering, executed, certs, view, taken, last_made, own_place, online_place, has_give}
use Rattle.group_rules.specs.View.{View, online_seats, is_online}
use Rattle.group_rules.specs.Queue.{pending}
use Rattle.group_rules.specs.Commit.{is_prepared}
use Rattle.group_bridge.specs.Left as left
use Rattle.group_bridge.specs.Left.{IsBegun, is_arrival_of, is_exit, is_settled}
use Rattle.group_runs.specs.Runs.{is_founder}
use Rattle.group_order.specs.OneLog.{IsReady}
use Rattle.group_order.proofs.Shapes.{Shape}
use Rattle.group_rules.specs.Sessions.{Call, one_tick, last_call}
use Rattle.group_rules.specs.Holds.{is_eventual, has_sync, after_then, sync_then, elected_in, elected_then, online_then, standing_of, standing, is_pending as is_waiting, is_clear, is_clear_at, is_synced, sync_place}
use Rattle.group_rules.specs.declared.holds.Pending.{Pending}
use Rattle.gr_ids.specs.declared.levels.Level.{Level}
use Rattle.gr_ids.specs.declared.names.ValueId.{ValueId}
use Rattle.gr_ids.specs.declared.levels.MemberState.{MemberState}
use Rattle.gr_ids.specs.declared.levels.MemberState.TheVariants.{Offline, Recovering, Online, Error}
use Rattle.gr_ids.specs.Names.{is_inc}
use Rattle.group_rules.specs.View.{is_single, has_primary, elect, joiners, with_primary, settled, with_named, changed_view, next_view, void_if}
use Rattle.gr_ids.specs.declared.levels.Mode.TheVariants.{Single as IsSingle, Multi}
use Rattle.txn_forms.specs.declared.body.ModeChange.TheVariants.{Multi as ToMulti, Single as ToSingle}
use Rattle.slot_values.specs.declared.value.Joiner.{Joiner}
use Rattle.group_laws.specs.Lists as listing
use Rattle.group_laws.specs.Lists.{Mem}
use Rattle.group_laws.specs.Entries as law
use Rattle.group_laws.specs.View as seen
use Rattle.group_laws.specs.Primary as primary
use Rattle.group_laws.specs.Life as lives
use Rattle.group_laws.proofs.Lists.{IsPast-nil}
use Rattle.group_laws.specs.Lawful.{IsPrepared, HasAll, Synced, Holds}
use Rattle.group_laws.proofs.Names.{gtid_eq_itself}
use Rattle.group_laws.proofs.Views.{before_online_le, online_place as same_before}
use Rattle.group_lives.specs.Lives.{does_entry, placed, life_of}
use Rattle.group_lives.specs.Sound.{HasSets}
use Rattle.group_lives.proofs.Sets.{executed_agrees}
use Rattle.group_lives.proofs.Taking.{places_agree, views_agree, skip_made, skip_answer, skip_state}
use Rattle.group_lawful.specs.Lived.{LivedDid, Lived}
use Rattle.group_lawful.specs.Knows.{certified_of, Sound, AlwaysSound}
use Rattle.group_lawful.proofs.Opens.{ready_or, unready}
use Rattle.group_lawful.proofs.Marks.{lived_past, sound_past, past_tail}
use Rattle.group_lawful.proofs.Known.{sets_past, executed_stays, certs_stay, is_pending, sound_took, empty_before}
use Rattle.group_lawful.proofs.Commits.{all_in, SameSets, prepared_back}
use Rattle.group_lawful.proofs.Sessions.{law_call, calls, call_as}
use Rattle.group_lawful.proofs.States.{stand, StateAs, StandsSo, stands_so, fallen_is, entry_stays, in_before, shape_of, given_stands}
use Rattle.group_lawful.proofs.Given.{cert_place}

end_none : (xs : List ℕ) (x : ℕ) → xs ++ x ∷ [] ≡ [] → ⊥
end_none [] x e = absurd (cc e)
end_none (y ∷ xs) x e = absurd (cc e)

some_none : {A : Type 0} {x : A} → Some x ≡ None → ⊥
some_none e = absurd (cc e)

some_is : {A : Type 0} {x y : A} → Some x ≡ Some y → x ≡ y
some_is {x = x} {y = y} e = cc

in_map : {A B : Type 0} (f : A → B) (x : A) (xs : List A) → In x xs → In (f x) (map f xs)
in_map f x [] h = absurd h
in_map f x (y ∷ ys) (inl e) = inl (ap f e)
in_map f x (y ∷ ys) (inr h) = inr (in_map f x ys h)

any_in : {A : Type 0} (test : A → Bool) (xs : List A) (x : A) → In x xs → test x ≡ true → list_any test xs ≡ true
any_in test [] x h e = absurd h
any_in test (y ∷ ys) x (inl q) e = or_left (test y) (list_any test ys) (ap test q ∙ e)
any_in test (y ∷ ys) x (inr h) e = or_right (test y) (list_any test ys) (any_in test ys x h e)

filter_in : (test : Cert → Bool) (c : Cert) (xs : List Cert) → In c xs → test c ≡ true → In c (filter test xs)
filter_in test c [] h q = absurd h
filter_in test c (x ∷ xs) h q = go (test x) refl h (λ k. filter_in test c xs k q)
  where
    go : (b : Bool) → test x ≡ b → (x ≡ c) ⊎ In c xs → (In c xs → In c (filter test xs)) → In c (if b then x ∷ filter test xs else filter test xs)
    go true e (inl z) f = inl z
    go true e (inr z) f = inr (f z)
    go false e (inl z) f = absurd (false≢true (sym e ∙ ap test z ∙ q))
    go false e (inr z) f = f z

-- ---- one that has a primary has a single one

Single : View → Type 0
Single v = (m : Inc) → v.primary ≡ Some m → is_single v.mode ≡ true

settled_single : (n : ℕ) (v : View) → Single v → Single (settled n v)
unfolding Single
settled_single n v h m e = go (is_single v.mode) (not (has_primary v v.primary)) refl (elect (joiners (online_seats v))) e
  where
    if_elected : Option Joiner → Bool → View
    if_elected o b = elim b [ true ↦ with_primary n o v | false ↦ v ]

    mode : (o : Option Joiner) → (with_primary n o v).mode ≡ v.mode
    mode None = refl
    mode (Some j) = refl

    go : (b c : Bool) → is_single v.mode ≡ b → (o : Option Joiner) → (if_elected o (b && c)).primary ≡ Some m → is_single (if_elected o (b && c)).mode ≡ true
    go true true q o z = ap is_single (mode o) ∙ q
    go true false q o z = q
    go false c q o z = absurd (false≢true (sym q ∙ h m z))

after_single : (n : ℕ) (o : Inc) (b : law.Body) (v : View) → Single v → Single (primary.view_after n o b v)
unfolding Single
after_single n o (law.Joins j) v h = settled_single n (changed_view n o (Add j) None v) h
after_single n o (law.Leaves j) v h = settled_single n (changed_view n o (Remove j) None v) h
after_single n o (law.Online x) v h = settled_single n (changed_view n o (Says []) (Some (Arrives x)) v) h
after_single n o (law.Write x) v h = settled_single n v h
after_single n o (law.Executed x) v h = settled_single n v h
after_single n o (law.Prepared x) v h = settled_single n v h
after_single n o law.Plain v h = settled_single n v h
after_single n o (law.Switches ToMulti) v h = go (not (is_single v.mode))
  where
    go : (b : Bool) → Single (next_view n o (Says []) (Some (Switches ToMulti)) (void_if b) v)
    go true = settled_single n v h
    go false = settled_single n (record v { mode = Multi; primary = None; elected = 0 }) (λ m e. absurd (some_none (sym e)))
after_single n o (law.Switches (ToSingle i)) v h = go (is_single v.mode)
  where
    named : (i : Option Inc) → (with_named n i (record v { mode = IsSingle; primary = None })).mode ≡ IsSingle
    named None = refl
    named (Some i) = by (is_online v i)
      where
        by : (b : Bool) → (if b then record v { mode = IsSingle; primary = Some i; elected = n } else record v { mode = IsSingle; primary = None }).mode ≡ IsSingle
        by true = refl
        by false = refl

    go : (b : Bool) → Single (next_view n o (Says []) (Some (Switches (ToSingle i))) (void_if b) v)
    go true = settled_single n v h
    go false = settled_single n (with_named n i (record v { mode = IsSingle; primary = None })) (λ m e. ap is_single (named i))
after_single n o (law.Appoints i) v h = go (is_single v.mode) (is_online v i && not (is_inc v.primary i)) refl
  where
    go : (b c : Bool) → is_single v.mode ≡ b → Single (next_view n o (Says []) (Some (Appoints i)) (void_if (not (b && c))) v)
    go true true e = settled_single n (record v { primary = Some i; elected = n }) (λ m z. e)
    go true false e = settled_single n v h
    go false c e = settled_single n v h

pub primary_single : (t : Setup) (p : List law.Value) (m : Inc) → (primary.view t p).primary ≡ Some m → is_single (primary.view t p).mode ≡ true
unfolding Single
primary_single t [] m e = settled_single 0 (record { number = 1; mode = t.mode; primary = None; elected = 0; seats = map {A = Joiner} (λ j. record { joiner = j; state = Online }) t.founders }) (λ k z. absurd (some_none (sym z))) m e
primary_single t (v ∷ p) m e = after_single (suc (length p)) v.origin v.body (primary.view t p) (primary_single t p) m e

-- ---- the call

pub call_past : (l : Life) (s : ℕ) (c : Call) → last_call l s ≡ Some c → (w : ℕ) × left.IsPast (Called s c.level w ∷ c.past) l
call_past [] s c h = absurd (some_none (sym h))
call_past (Called u v w ∷ l) s c h = go (u == s) refl h (call_past l s c)
  where
    go : (b : Bool) → (u == s) ≡ b → ◌≡◌ {A = Option Call} (elim b [ true ↦ Some (record { level = v; limit = w; past = l; ticks = 0 }) | false ↦ last_call l s ]) (Some c) → (last_call l s ≡ Some c → (w : ℕ) × left.IsPast (Called s c.level w ∷ c.past) l) → (y : ℕ) × left.IsPast (Called s c.level y ∷ c.past) (Called u v w ∷ l)
    go true e q f =
        let z = some_is q in
        let n : u ≡ s = eqb-true u s e in
        (w, inl (sym (λ k. Called (n k) (z k).level w ∷ (z k).past)))
    go false e q f = let r = f q in (r.0, inr r.1)
call_past (Came Ticks ∷ l) s c h = go (last_call l s) refl h (call_past l s)
  where
    go : (o : Option Call) → last_call l s ≡ o → one_tick o ≡ Some c → ((d : Call) → last_call l s ≡ Some d → (w : ℕ) × left.IsPast (Called s d.level w ∷ d.past) l) → (w : ℕ) × left.IsPast (Called s c.level w ∷ c.past) (Came Ticks ∷ l)
    go None e q f = absurd (some_none (sym q))
    go (Some d) e q f = let r = f d e in let z = some_is q in (r.0, inr (subst (λ (y : Call). left.IsPast (Called s y.level r.0 ∷ y.past) l) z r.1))
call_past (Came (Hears m) ∷ l) s c h = let r = call_past l s c h in (r.0, inr r.1)
call_past (Came (Works z y) ∷ l) s c h = let r = call_past l s c h in (r.0, inr r.1)
call_past (Came (Calls z y) ∷ l) s c h = let r = call_past l s c h in (r.0, inr r.1)
call_past (Came (Operates z) ∷ l) s c h = let r = call_past l s c h in (r.0, inr r.1)
call_past (Skips u v ∷ l) s c h = let r = call_past l s c h in (r.0, inr r.1)
call_past (Gave n j ∷ l) s c h = let r = call_past l s c h in (r.0, inr r.1)
call_past (Replied r ∷ l) s c h = let r = call_past l s c h in (r.0, inr r.1)
call_past (AskFails ∷ l) s c h = let r = call_past l s c h in (r.0, inr r.1)
call_past (Founds ∷ l) s c h = let r = call_past l s c h in (r.0, inr r.1)
call_past (Enters z ∷ l) s c h = let r = call_past l s c h in (r.0, inr r.1)
call_past (Starts x ∷ l) s c h = let r = call_past l s c h in (r.0, inr r.1)
call_past (Committed y ∷ l) s c h = let r = call_past l s c h in (r.0, inr r.1)
call_past (Done p ∷ l) s c h = let r = call_past l s c h in (r.0, inr r.1)
call_past (Begun u y z ∷ l) s c h = let r = call_past l s c h in (r.0, inr r.1)
call_past (Changed u z ∷ l) s c h = let r = call_past l s c h in (r.0, inr r.1)
call_past (AsksCommit u y ∷ l) s c h = let r = call_past l s c h in (r.0, inr r.1)
call_past (Ends u ∷ l) s c h = let r = call_past l s c h in (r.0, inr r.1)
call_past (Took e ∷ l) s c h = let r = call_past l s c h in (r.0, inr r.1)
call_past (Made v y ∷ l) s c h = let r = call_past l s c h in (r.0, inr r.1)
call_past (Answered u y ∷ l) s c h = let r = call_past l s c h in (r.0, inr r.1)
call_past (Is y z ∷ l) s c h = let r = call_past l s c h in (r.0, inr r.1)
call_past (Restores y cs ∷ l) s c h = let r = call_past l s c h in (r.0, inr r.1)

-- ---- what is pending

module _ (t : Setup) (i : Inc) (base : List law.Placed) where
  -- of the certified ones all below a place are executed where none of them is pending
  clear_has : (l : Life) (p : ℕ) (c : Cert) → is_clear (standing l) p ≡ true → In c (certs l) → c.place < p → has (executed l) c.gtid ≡ true
  clear_has l p c h m n = elim (cases_Bool (has (executed l) c.gtid)) [
    | inl q ↦ q
    | inr q ↦ (let z = all_in (λ (x : Pending). not (nat_lt x.place p)) (standing l) (standing_of c) h (in_map standing_of c (pending l) (is_pending t i base l c m q)) in
        absurd (false≢true (sym (ap not (le-leb (suc c.place) p n)) ∙ z)))
  ]

  waits_no_more : (l : Life) (c : Cert) → is_waiting (standing l) c.gtid ≡ false → In c (certs l) → has (executed l) c.gtid ≡ true
  waits_no_more l c h m = elim (cases_Bool (has (executed l) c.gtid)) [
    | inl q ↦ q
    | inr q ↦ absurd (false≢true (sym h ∙ any_in (λ (x : Pending). gtid_eq x.gtid c.gtid) (standing l) (standing_of c) (in_map standing_of c (pending l) (is_pending t i base l c m q)) (gtid_eq_itself c.gtid)))
  ]

  -- ---- moments

  abbrev MomentOf : Life → Type 0
  MomentOf l = (Lived t i l × AlwaysSound t i base l) × HasSets l

  abbrev Same : Life → Type 0
  Same l = SameSets t i base l

  same_at : (l : Life) → HasSets l → SameSets t i base l
  same_at l h g = executed_agrees base l g h

  -- what was certified at an earlier moment and below a place is executed now, where nothing is pending below it
  all_below_now : (p l : Life) → left.IsPast p l → MomentOf l → Sound t i base p → (n : ℕ) → is_clear (standing l) n ≡ true → (d : law.Cert) → Mem d (certified_of t base p) → d.place < n → lives.executed (life_of base l) d.gtid ≡ true
  all_below_now p l h m s n c d e le = same_at l m.1 d.gtid ∙ elim (s.knows.all d e) [
    | inr q ↦ executed_stays t i base l p d.gtid h m.0.0 m.1 q
    | inl q ↦ (let a = q.2.place in ap (has (executed l)) (sym q.2.gtid) ∙ clear_has l n q.0 c (certs_stay t i base l p q.0 h m.0.0 m.0.1 q.1) (omega (arith, a, le)))
  ]

  -- one that knows a certified transaction by its life is ready
  pub sound_listed : (l : Life) → AlwaysSound t i base l → (d : law.Cert) → Mem d (certified_of t base l) → Sound t i base l
  sound_listed [] o d m = absurd m
  sound_listed (y ∷ l) o d m = elim (ready_or t i base (y ∷ l) o.0.0.0) [
    | inl r ↦ o.0.0.1 r (omega arith)
    | inr e ↦ (let k = unready t i base (y ∷ l) e.0 e.1 in absurd (subst (λ x. Mem d (law.certified t x)) k.1 m))
  ]

  -- ---- the states of one that takes part

  -- a call comes at a moment when nothing is missing
  record AtCall (p : Life) : Type 0 where
    begun : 1 < length p
    settled : is_settled i p ≡ true

  at_call : (p : Life) (s : ℕ) (v : Level) (w : ℕ) → LivedDid t i (Called s v w) p → AtCall p
  at_call p s v w h = let z = h.allowed.1 in record { begun = h.goes_on.begun; settled = subst (λ y. is_settled i y ≡ true) (sym z.1) refl }

  not_offline : (x : MemberState) (y : seen.Standing) → StateAs t i base x y → is_error x ≡ false → (is_up x || is_recovering x) ≡ true
  not_offline Offline y h e = absurd h
  not_offline Recovering y h e = refl
  not_offline Online y h e = refl
  not_offline Error y h e = absurd (false≢true (sym e))

  active_up : (x : MemberState) (y : seen.Standing) → StateAs t i base x y → is_error x ≡ false → seen.is_active y ≡ true → is_up x ≡ true
  active_up Offline y h e a = absurd h
  active_up Recovering y h e a = absurd (false≢true (sym (ap seen.is_active h) ∙ a))
  active_up Online y h e a = refl
  active_up Error y h e a = absurd (false≢true (sym e))

  unfallen : (p : Life) → Lived t i p → list_any lives.is_fall (life_of base p) ≡ false → is_error (state p) ≡ false
  unfallen p k h = sym (fallen_is t i base p k) ∙ h

  -- ONLINE by the life is ONLINE by the own state
  pub online_up : (p : Life) → MomentOf p → 1 < length p → is_settled i p ≡ true → lives.online t i (life_of base p) ≡ true → (is_up (state p) ≡ true) × Sound t i base p
  online_up p m b z h = elim (cases_Bool (is_founder t i)) [
    | inl f ↦ ready (inl f)
    | inr f ↦ elim (ready_or t i base p (shape_of t i base p m.0.1 b)) [ inl r ↦ ready r | inr e ↦ absurd (not_active f e) ]
  ]
    where
      n : (not (list_any lives.is_fall (life_of base p)) ≡ true) × (seen.active t (lives.taken (life_of base p)) i ≡ true)
      n = and_parts (not (list_any lives.is_fall (life_of base p))) (seen.active t (lives.taken (life_of base p)) i) h

      not_active : is_founder t i ≡ false → (slots_in p ≡ []) × (has_give p ≡ false) → ⊥
      not_active f e = absurd (false≢true (sym (ap (λ b. seen.is_active (cond b seen.Active seen.Absent)) f) ∙ sym (ap (λ y. seen.active t (law.values y) i) (unready t i base p e.0 e.1).1) ∙ n.1))

      sound_at : (p : Life) → AlwaysSound t i base p → IsReady t i p → 1 < length p → Sound t i base p
      sound_at [] o r b = absurd (omega (arith, b))
      sound_at (d ∷ p) o r b = o.0.0.1 r (omega arith)

      ready : IsReady t i p → (is_up (state p) ≡ true) × Sound t i base p
      ready r =
          let q = (stands_so t i base p m.0.0 m.0.1).0 r b z in
          (active_up (state p) (stand t i base p) q (unfallen p m.0.0 (not-true (list_any lives.is_fall (life_of base p)) n.0)) n.1, sound_at p m.0.1 r b)

  -- ---- AFTER transactions that were prepared

  -- those that the begin waits for
  waited_after : (p : Life) (c : Cert) → (is_up (state p) || is_recovering (state p)) ≡ true → In c (pending p) → c.txn.after ≡ true → is_prepared p i c ≡ true → In c.gtid (after_then i p)
  waited_after p c u m a h =
      subst (λ b. In c.gtid (elim b [ false ↦ [] | true ↦ map {A = Cert} (λ y. y.gtid) (filter (λ y. y.txn.after && is_prepared p i y) (pending p)) ])) (sym u)
      (in_map (λ (y : Cert). y.gtid) c (filter (λ y. y.txn.after && is_prepared p i y) (pending p)) (filter_in (λ (y : Cert). y.txn.after && is_prepared p i y) c (pending p) m (and_from c.txn.after (is_prepared p i c) a h)))

  after_held : (p l : Life) → left.IsPast p l → MomentOf l → 1 < length p → is_settled i p ≡ true → list_all (λ g. not (is_waiting (standing l) g)) (after_then i p) ≡ true → list_any lives.is_fall (life_of base p) ≡ false
      → (d : law.Cert) → d.txn.after ≡ true → IsPrepared t (life_of base p) i d → lives.executed (life_of base l) d.gtid ≡ true
  after_held p l h m b z w f d a pr = same_at l m.1 d.gtid ∙ elim (sound.knows.all d pr.0) [
    | inr q ↦ executed_stays t i base l p d.gtid h m.0.0 m.1 q
    | inl q ↦ ap (has (executed l)) (sym q.2.gtid) ∙ elim (cases_Bool (has (executed p) (q.0).gtid)) [
      | inl y ↦ executed_stays t i base l p (q.0).gtid h m.0.0 m.1 y
      | inr y ↦ (let pend = is_pending t i base p q.0 q.1 y in
          let n = waited_after p q.0 up pend (ap (λ (u : Txn). u.after) q.2.txn ∙ a) (prepared_back t i base p sound (same_at p sets) q.0 d q.2 pr) in
          waits_no_more l q.0 (not-true (is_waiting (standing l) (q.0).gtid) (all_in (λ (g : Gtid). not (is_waiting (standing l) g)) (after_then i p) (q.0).gtid w n)) (certs_stay t i base l p q.0 h m.0.0 m.0.1 q.1))
    ]
  ]
    where
      sets : HasSets p
      sets = sets_past p l h m.1

      lived : Lived t i p
      lived = lived_past t i p l h m.0.0

      sounds : AlwaysSound t i base p
      sounds = sound_past t i base p l h m.0.1

      sound : Sound t i base p
      sound = sound_listed p sounds d pr.0

      is_ready : (r : IsReady t i p ⊎ ((slots_in p ≡ []) × (has_give p ≡ false))) → IsReady t i p
      is_ready (inl r) = r
      is_ready (inr e) = absurd (subst (λ x. Mem d (law.certified t x)) (unready t i base p e.0 e.1).1 pr.0)

      up : (is_up (state p) || is_recovering (state p)) ≡ true
      up = not_offline (state p) (stand t i base p) ((stands_so t i base p lived sounds).0 (is_ready (ready_or t i base p (shape_of t i base p sounds b))) b z) (unfallen p lived f)

  -- ---- the Sync

  -- the own value of this number, with the list before it
  record OwnEntry (l : Life) (n p : ℕ) : Type 0 where
    value : law.Value
    front : List law.Value
    there : listing.IsPast (value ∷ front) (lives.taken (life_of base l))
    origin : value.origin ≡ i
    number : value.number ≡ n
    place : p ≡ suc (length front)

  more_entries : (d : Did) (l : Life) (n p : ℕ) → lives.marked (life_of base (d ∷ l)) ≡ lives.marked (life_of base l) → OwnEntry l n p → OwnEntry (d ∷ l) n p
  more_entries d l n p e o = record { value = o.value; front = o.front; there = subst (λ x. listing.IsPast (o.value ∷ o.front) (law.values x)) (sym e) o.there; origin = o.origin; number = o.number; place = o.place }

  none_own : (l : Life) (n : ℕ) → slots_in l ≡ [] → own_place l i n ≡ None
  none_own [] n h = refl
  none_own (Took e ∷ l) n h = absurd (end_none (slots_in l) e.slot h)
  none_own (Skips u v ∷ l) n h = absurd (end_none (slots_in l) u h)
  none_own (Came (Hears m) ∷ l) n h = none_own l n h
  none_own (Came Ticks ∷ l) n h = none_own l n h
  none_own (Came (Works z y) ∷ l) n h = none_own l n h
  none_own (Came (Calls z y) ∷ l) n h = none_own l n h
  none_own (Came (Operates z) ∷ l) n h = none_own l n h
  none_own (Gave m j ∷ l) n h = none_own l n h
  none_own (Replied r ∷ l) n h = none_own l n h
  none_own (AskFails ∷ l) n h = none_own l n h
  none_own (Founds ∷ l) n h = none_own l n h
  none_own (Enters z ∷ l) n h = none_own l n h
  none_own (Starts x ∷ l) n h = none_own l n h
  none_own (Committed y ∷ l) n h = none_own l n h
  none_own (Done q ∷ l) n h = none_own l n h
  none_own (Begun u y z ∷ l) n h = none_own l n h
  none_own (Changed u z ∷ l) n h = none_own l n h
  none_own (Called u v w ∷ l) n h = none_own l n h
  none_own (AsksCommit u y ∷ l) n h = none_own l n h
  none_own (Ends u ∷ l) n h = none_own l n h
  none_own (Made v y ∷ l) n h = none_own l n h
  none_own (Answered u y ∷ l) n h = none_own l n h
  none_own (Is y z ∷ l) n h = none_own l n h
  none_own (Restores y cs ∷ l) n h = none_own l n h

  values_long : (xs : List law.Placed) → length (law.values xs) ≡ length xs
  values_long [] = refl
  values_long (x ∷ xs) = ap suc (values_long xs)

  own_entry : (l : Life) (n p : ℕ) → Lived t i l → AlwaysSound t i base l → own_place l i n ≡ Some p → OwnEntry l n p
  own_entry [] n p k o h = absurd (some_none (sym h))
  own_entry (Took e ∷ l) n p k o h = go (inc_eq e.value.id.origin i && (e.value.id.number == n)) refl h (own_entry l n p k.1 o.1)
    where
      go : (b : Bool) → (inc_eq e.value.id.origin i && (e.value.id.number == n)) ≡ b → ◌≡◌ {A = Option ℕ} (elim b [ true ↦ Some e.place | false ↦ own_place l i n ]) (Some p) → (own_place l i n ≡ Some p → OwnEntry l n p) → OwnEntry (Took e ∷ l) n p
      go true q z f =
          let x = and_parts (inc_eq e.value.id.origin i) (e.value.id.number == n) q in
          let s = sound_took t i base e l k o in
          let a = s.taking.0.0 in
          let long : length (lives.taken (life_of base l)) ≡ taken l = values_long (lives.marked (life_of base l)) ∙ places_agree t base l s.taking.1 in
          let y : e.place ≡ p = some_is z in
          record { value = (placed e).value; front = lives.taken (life_of base l); there = inl refl; origin = inc_is e.value.id.origin i x.0; number = eqb-true e.value.id.number n x.1; place = sym y ∙ a ∙ ap suc (sym long) }
      go false q z f = let r = f z in record { value = r.value; front = r.front; there = inr r.there; origin = r.origin; number = r.number; place = r.place }
  own_entry (Restores y cs ∷ l) n p k o h = absurd (some_none (sym h ∙ none_own l n (empty_before t i base y cs l k.0 o.1 o.0.1).0))
  own_entry (Made v y ∷ l) n p k o h = more_entries (Made v y) l n p (skip_made v y l (life_of base l)) (own_entry l n p k.1 o.1 h)
  own_entry (Answered u y ∷ l) n p k o h = more_entries (Answered u y) l n p (skip_answer base u y l (life_of base l)) (own_entry l n p k.1 o.1 h)
  own_entry (Is y z ∷ l) n p k o h = more_entries (Is y z) l n p (skip_state base y z l (life_of base l)) (own_entry l n p k.1 o.1 h)
  own_entry (Came (Hears m) ∷ l) n p k o h = more_entries (Came (Hears m)) l n p refl (own_entry l n p k.1 o.1 h)
  own_entry (Came Ticks ∷ l) n p k o h = more_entries (Came Ticks) l n p refl (own_entry l n p k.1 o.1 h)
  own_entry (Came (Works z y) ∷ l) n p k o h = more_entries (Came (Works z y)) l n p refl (own_entry l n p k.1 o.1 h)
  own_entry (Came (Calls z y) ∷ l) n p k o h = more_entries (Came (Calls z y)) l n p refl (own_entry l n p k.1 o.1 h)
  own_entry (Came (Operates z) ∷ l) n p k o h = more_entries (Came (Operates z)) l n p refl (own_entry l n p k.1 o.1 h)
  own_entry (Skips u v ∷ l) n p k o h = more_entries (Skips u v) l n p refl (own_entry l n p k.1 o.1 h)
  own_entry (Gave m j ∷ l) n p k o h = more_entries (Gave m j) l n p refl (own_entry l n p k.1 o.1 h)
  own_entry (Replied r ∷ l) n p k o h = more_entries (Replied r) l n p refl (own_entry l n p k.1 o.1 h)
  own_entry (AskFails ∷ l) n p k o h = more_entries AskFails l n p refl (own_entry l n p k.1 o.1 h)
  own_entry (Founds ∷ l) n p k o h = more_entries Founds l n p refl (own_entry l n p k.1 o.1 h)
  own_entry (Enters z ∷ l) n p k o h = more_entries (Enters z) l n p refl (own_entry l n p k.1 o.1 h)
  own_entry (Starts x ∷ l) n p k o h = more_entries (Starts x) l n p refl (own_entry l n p k.1 o.1 h)
  own_entry (Committed y ∷ l) n p k o h = more_entries (Committed y) l n p refl (own_entry l n p k.1 o.1 h)
  own_entry (Done q ∷ l) n p k o h = more_entries (Done q) l n p refl (own_entry l n p k.1 o.1 h)
  own_entry (Begun u y z ∷ l) n p k o h = more_entries (Begun u y z) l n p refl (own_entry l n p k.1 o.1 h)
  own_entry (Changed u z ∷ l) n p k o h = more_entries (Changed u z) l n p refl (own_entry l n p k.1 o.1 h)
  own_entry (Called u v w ∷ l) n p k o h = more_entries (Called u v w) l n p refl (own_entry l n p k.1 o.1 h)
  own_entry (AsksCommit u y ∷ l) n p k o h = more_entries (AsksCommit u y) l n p refl (own_entry l n p k.1 o.1 h)
  own_entry (Ends u ∷ l) n p k o h = more_entries (Ends u) l n p refl (own_entry l n p k.1 o.1 h)

  past_here : (l : Life) → left.IsPast l l
  past_here [] = refl
  past_here (d ∷ l) = inl refl

  synced : (l : Life) → MomentOf l → (v : Level) (p : Life) → has_sync v ≡ true → is_synced (standing l) (sync_then i v p) (sync_place i (sync_then i v p) l) ≡ true → Synced t (life_of base l) i (law_call t i base (record { level = v; limit = 0; past = p; ticks = 0 }))
  synced l m v p y h = go (own_place l i (suc (last_made p))) refl (by_sync y h)
    where
      by_sync : has_sync v ≡ true → is_synced (standing l) (sync_then i v p) (sync_place i (sync_then i v p) l) ≡ true → is_synced (standing l) (Some (record { origin = i; number = suc (last_made p) })) (own_place l i (suc (last_made p))) ≡ true
      by_sync y h = subst (λ (o : Option ValueId). is_synced (standing l) o (sync_place i o l) ≡ true) (ap (λ b. elim b [ true ↦ Some (record { origin = i; number = suc (last_made p) }) | false ↦ None ]) y) h

      go : (o : Option ℕ) → own_place l i (suc (last_made p)) ≡ o → is_synced (standing l) (Some (record { origin = i; number = suc (last_made p) })) o ≡ true → Synced t (life_of base l) i (law_call t i base (record { level = v; limit = 0; past = p; ticks = 0 }))
      go None e q = absurd (false≢true q)
      go (Some n) e q =
          let r = own_entry l (suc (last_made p)) n m.0.0 m.0.1 e in
          record {
            value = r.value;
            front = r.front;
            there = r.there;
            origin = r.origin;
            number = r.number ∙ sym (ap (λ b. elim b [ true ↦ suc (last_made p) | false ↦ 0 ]) y);
            all = λ d z le. let a = r.place in all_below_now l l (past_here l) m (sound_listed l m.0.1 d z) n q d z (omega (arith, a, le));
          }

  -- ---- the election, and the own Online entry

  primary_held : (p l : Life) → left.IsPast p l → MomentOf l → 1 < length p → is_settled i p ≡ true → (v : Level) → is_clear_at (standing l) (elected_then t i v p) ≡ true → lives.online t i (life_of base p) ≡ true → is_eventual v ≡ false
      → (primary.view t (lives.taken (life_of base p))).primary ≡ Some i → (d : law.Cert) → Mem d (certified_of t base p) → d.place < (primary.view t (lives.taken (life_of base p))).elected → lives.executed (life_of base l) d.gtid ≡ true
  primary_held p l h m b z v c u e q d n le =
      let o = online_up p ((lived_past t i p l h m.0.0, sound_past t i base p l h m.0.1), sets_past p l h m.1) b z u in
      let same : primary.view t (lives.taken (life_of base p)) ≡ view t p = views_agree t base p o.1.taking in
      let single : is_single (view t p).mode ≡ true = ap (λ (w : View). is_single w.mode) (sym same) ∙ primary_single t (lives.taken (life_of base p)) i q in
      let named : is_inc (view t p).primary i ≡ true = ap (λ y. is_inc y i) (ap (λ (w : View). w.primary) (sym same) ∙ q) ∙ inc_same i in
      let elected : elected_then t i v p ≡ Some (view t p).elected =
      ap (λ y. elim y [ true ↦ elected_in (view t p) i | false ↦ None ]) (and_from (is_up (state p)) (not (is_eventual v)) o.0 (ap not e))
      ∙ ap (λ y. elim y [ true ↦ Some (view t p).elected | false ↦ None ]) (and_from (is_single (view t p).mode) (is_inc (view t p).primary i) single named) in
      let clear : is_clear (standing l) (view t p).elected ≡ true = ap (is_clear_at (standing l)) (sym elected) ∙ c in
      all_below_now p l h m o.1 (view t p).elected clear d n (subst (λ (w : View). d.place < w.elected) same le)

  -- a founder has no place before its Online entry
  founder_before : (p : Life) → is_founder t i ≡ true → seen.active t (lives.taken (life_of base p)) i ≡ true → seen.before_online t (lives.taken (life_of base p)) i ≡ 0
  founder_before p f a = same_before t [] (lives.taken (life_of base p)) i (IsPast-nil (lives.taken (life_of base p))) (ap (λ b. seen.is_active (cond b seen.Active seen.Absent)) f) a

  -- a joiner has its own Online entry at a place behind those
  pub record OwnOnline (l : Life) : Type 0 where
    pub place : ℕ
    pub there : online_place l i ≡ Some place
    pub behind : seen.before_online t (lives.taken (life_of base l)) i < place

  more_online : (d : Did) (l : Life) → lives.marked (life_of base (d ∷ l)) ≡ lives.marked (life_of base l) → online_place (d ∷ l) i ≡ online_place l i → OwnOnline l → OwnOnline (d ∷ l)
  more_online d l e f o = record { place = o.place; there = f ∙ o.there; behind = subst (λ x. seen.before_online t (law.values x) i < o.place) (sym e) o.behind }

  -- only its own Online entry makes it ONLINE
  rises : (e : Entry) (l : Life) → LivedDid t i (Took e) l → Shape t i l → StandsSo t i base l → seen.active t (lives.taken (life_of base l)) i ≡ false → seen.active t (lives.taken (life_of base (Took e ∷ l))) i ≡ true → is_arrival_of i e ≡ true
  rises e l h s k a b = elim (cases_Bool (is_arrival_of i e)) [
    | inl q ↦ q
    | inr q ↦ elim (cases_Bool (is_exit i e.value.what e.effect)) [
      | inr z ↦ (let same = entry_stays t i base e.value.id.origin e.value.what e.effect e.holds (stand t i base l) (in_before t i base e l h s k) q z in absurd (false≢true (sym a ∙ sym (ap seen.is_active same) ∙ b)))
      | inl z ↦ absurd (leaves e.value.what e.effect e.holds z b)
    ]
  ]
    where
      left_inactive : (x : seen.Standing) → seen.is_active (seen.on_leave x) ≡ true → ⊥
      left_inactive seen.Absent q = absurd (false≢true q)
      left_inactive seen.Recovering q = absurd (false≢true q)
      left_inactive seen.Active q = absurd (false≢true q)
      left_inactive seen.Gone q = absurd (false≢true q)

      leaves : (w : What) (f : Effect) (y : Option Body) → is_exit i w f ≡ true → seen.is_active (seen.stands_after i e.value.id.origin (does_entry w f y) (stand t i base l)) ≡ true → ⊥
      leaves (Remove j) Plain y z q = left_inactive (stand t i base l) (subst (λ c. seen.is_active (cond c (seen.on_leave (stand t i base l)) (stand t i base l)) ≡ true) z q)
      leaves (Remove j) Void y z q = absurd (false≢true z)
      leaves (Remove j) Unread y z q = absurd (false≢true z)
      leaves (Remove j) (Positive g) y z q = absurd (false≢true z)
      leaves (Remove j) (Conflict g) y z q = absurd (false≢true z)
      leaves Noop f y z q = absurd (false≢true z)
      leaves (Add j) f y z q = absurd (false≢true z)
      leaves (Says x) f y z q = absurd (false≢true z)

  pub own_online : (l : Life) → Lived t i l → AlwaysSound t i base l → IsReady t i l → is_founder t i ≡ false → seen.active t (lives.taken (life_of base l)) i ≡ true → OwnOnline l
  own_online [] k o r f a = absurd (false≢true (sym (ap (λ b. seen.is_active (cond b seen.Active seen.Absent)) f) ∙ a))
  own_online (Took e ∷ l) k o r f a = go (cases_Bool (seen.active t (lives.taken (life_of base l)) i)) (own_online l k.1 o.1 r f)
    where
      s : Sound t i base (Took e ∷ l)
      s = sound_took t i base e l k o

      long : length (lives.taken (life_of base l)) ≡ taken l
      long = values_long (lives.marked (life_of base l)) ∙ places_agree t base l s.taking.1

      here : is_arrival_of i e ≡ true → online_place (Took e ∷ l) i ≡ Some e.place
      here q = ap (λ b. elim b [ true ↦ Some e.place | false ↦ online_place l i ]) q

      before : seen.before_online t (lives.taken (life_of base l)) i ≤ length (lives.taken (life_of base l))
      before = before_online_le t (lives.taken (life_of base l)) i

      now : seen.before_online t (lives.taken (life_of base (Took e ∷ l))) i ≡ seen.before_online t (lives.taken (life_of base l)) i
      now = ap (λ b. cond b (seen.before_online t (lives.taken (life_of base l)) i) (suc (length (lives.taken (life_of base l))))) a

      at_end : is_arrival_of i e ≡ true → OwnOnline (Took e ∷ l)
      at_end q = record { place = e.place; there = here q; behind = (let p = s.taking.0.0 in omega (arith, before, now, long, p)) }

      still : OwnOnline l → (b : Bool) → is_arrival_of i e ≡ b → OwnOnline (Took e ∷ l)
      still n true q = at_end q
      still n false q = record { place = n.place; there = ap (λ b. elim b [ true ↦ Some e.place | false ↦ online_place l i ]) q ∙ n.there; behind = (let b = n.behind in omega (arith, b, now)) }

      go : (seen.active t (lives.taken (life_of base l)) i ≡ true) ⊎ (seen.active t (lives.taken (life_of base l)) i ≡ false) → (seen.active t (lives.taken (life_of base l)) i ≡ true → OwnOnline l) → OwnOnline (Took e ∷ l)
      go (inl q) g = still (g q) (is_arrival_of i e) refl
      go (inr q) g = at_end (rises e l k.0 (shape_of t i base l o.1 k.0.goes_on.begun) (stands_so t i base l k.1 o.1).0 q a)
  own_online (Restores y cs ∷ l) k o r f a =
      let z = given_stands t i base l y cs (o.0.0.1 r (omega arith)) f in
      absurd (false≢true (sym (ap seen.is_active z) ∙ a))
  own_online (Made v y ∷ l) k o r f a = more_online (Made v y) l (skip_made v y l (life_of base l)) refl (own_online l k.1 o.1 r f (ap (λ x. seen.active t (law.values x) i) (sym (skip_made v y l (life_of base l))) ∙ a))
  own_online (Answered u y ∷ l) k o r f a = more_online (Answered u y) l (skip_answer base u y l (life_of base l)) refl (own_online l k.1 o.1 r f (ap (λ x. seen.active t (law.values x) i) (sym (skip_answer base u y l (life_of base l))) ∙ a))
  own_online (Is y z ∷ l) k o r f a = more_online (Is y z) l (skip_state base y z l (life_of base l)) refl (own_online l k.1 o.1 r f (ap (λ x. seen.active t (law.values x) i) (sym (skip_state base y z l (life_of base l))) ∙ a))
  own_online (Came (Hears m) ∷ l) k o r f a = more_online (Came (Hears m)) l refl refl (own_online l k.1 o.1 r f a)
  own_online (Came Ticks ∷ l) k o r f a = more_online (Came Ticks) l refl refl (own_online l k.1 o.1 r f a)
  own_online (Came (Works z y) ∷ l) k o r f a = more_online (Came (Works z y)) l refl refl (own_online l k.1 o.1 r f a)
  own_online (Came (Calls z y) ∷ l) k o r f a = more_online (Came (Calls z y)) l refl refl (own_online l k.1 o.1 r f a)
  own_online (Came (Operates z) ∷ l) k o r f a = more_online (Came (Operates z)) l refl refl (own_online l k.1 o.1 r f a)
  own_online (Skips u v ∷ l) k o r f a = more_online (Skips u v) l refl refl (own_online l k.1 o.1 r f a)
  own_online (Gave m j ∷ l) k o r f a = more_online (Gave m j) l refl refl (own_online l k.1 o.1 r f a)
  own_online (Replied q ∷ l) k o r f a = more_online (Replied q) l refl refl (own_online l k.1 o.1 r f a)
  own_online (AskFails ∷ l) k o r f a = more_online AskFails l refl refl (own_online l k.1 o.1 r f a)
  own_online (Founds ∷ l) k o r f a = more_online Founds l refl refl (own_online l k.1 o.1 r f a)
  own_online (Enters z ∷ l) k o r f a = more_online (Enters z) l refl refl (own_online l k.1 o.1 r f a)
  own_online (Starts x ∷ l) k o r f a = more_online (Starts x) l refl refl (own_online l k.1 o.1 r f a)
  own_online (Committed y ∷ l) k o r f a = more_online (Committed y) l refl refl (own_online l k.1 o.1 r f a)
  own_online (Done q ∷ l) k o r f a = more_online (Done q) l refl refl (own_online l k.1 o.1 r f a)
  own_online (Begun u y z ∷ l) k o r f a = more_online (Begun u y z) l refl refl (own_online l k.1 o.1 r f a)
  own_online (Changed u z ∷ l) k o r f a = more_online (Changed u z) l refl refl (own_online l k.1 o.1 r f a)
  own_online (Called u v w ∷ l) k o r f a = more_online (Called u v w) l refl refl (own_online l k.1 o.1 r f a)
  own_online (AsksCommit u y ∷ l) k o r f a = more_online (AsksCommit u y) l refl refl (own_online l k.1 o.1 r f a)
  own_online (Ends u ∷ l) k o r f a = more_online (Ends u) l refl refl (own_online l k.1 o.1 r f a)

  joined_held : (p l : Life) → left.IsPast p l → MomentOf l → 1 < length p → is_settled i p ≡ true → is_clear_at (standing l) (online_then i p) ≡ true → lives.online t i (life_of base p) ≡ true → HasAll t (lives.marked (life_of base p)) (seen.before_online t (lives.taken (life_of base p)) i) (life_of base l)
  joined_held p l h m b z c u d n le = elim (cases_Bool (is_founder t i)) [
    | inl f ↦ (let e = founder_before p f active in let y = cert_place t (lives.marked (life_of base p)) d n in absurd (omega (arith, e, y, le)))
    | inr f ↦ (let w = own_online p mp.0.0 mp.0.1 ready f active in
        let clear : is_clear (standing l) w.place ≡ true = ap (is_clear_at (standing l)) (sym (ap (λ y. elim y [ true ↦ online_place p i | false ↦ None ]) o.0 ∙ w.there)) ∙ c in
        let y = w.behind in
        all_below_now p l h m o.1 w.place clear d n (omega (arith, le, y)))
  ]
    where
      mp : MomentOf p
      mp = ((lived_past t i p l h m.0.0, sound_past t i base p l h m.0.1), sets_past p l h m.1)

      o : (is_up (state p) ≡ true) × Sound t i base p
      o = online_up p mp b z u

      active : seen.active t (lives.taken (life_of base p)) i ≡ true
      active = (and_parts (not (list_any lives.is_fall (life_of base p))) (seen.active t (lives.taken (life_of base p)) i) u).1

      ready : IsReady t i p
      ready = elim (ready_or t i base p (shape_of t i base p mp.0.1 b)) [
        | inl r ↦ r
        | inr e ↦ absurd (subst (λ x. Mem d (law.certified t x)) (unready t i base p e.0 e.1).1 n)
      ]

  -- ---- all of it

  pub lawful_begun : (l : Life) (s : ℕ) (read : Gtids) (place : Option ℕ) → IsBegun t i l s read place → Lived t i l → AlwaysSound t i base l → HasSets l → (c : lives.Call) × (lives.last_call (life_of base l) s ≡ Some c) × Holds t (life_of base l) i c
  lawful_begun l s read place x k o sets = (
    law_call t i base x.call,
    call_as t i base l s ∙ ap (calls t i base) x.is_call,
    record {
      after = λ f d a p. after_held past l at_past m at.begun at.settled parts.0.0 f d a p;
      before = λ y. synced l m (x.call).level past y parts.0.1;
      primary = λ u e q d n le. primary_held past l at_past m at.begun at.settled (x.call).level parts.1.0 u e q d n le;
      joined = λ u. joined_held past l at_past m at.begun at.settled parts.1.1 u;
    },
  )
    where
      past : Life
      past = (x.call).past

      m : MomentOf l
      m = ((k, o), sets)

      called : (w : ℕ) × left.IsPast (Called s (x.call).level w ∷ (x.call).past) l
      called = call_past l s x.call x.is_call

      at_past : left.IsPast (x.call).past l
      at_past = past_tail (Called s (x.call).level called.0) (x.call).past l called.1

      at : AtCall (x.call).past
      at = at_call (x.call).past s (x.call).level called.0 (lived_past t i (Called s (x.call).level called.0 ∷ (x.call).past) l called.1 k).0

      parts : ((list_all (λ g. not (is_waiting (standing l) g)) (after_then i (x.call).past) ≡ true) × (is_synced (standing l) (sync_then i (x.call).level (x.call).past) (sync_place i (sync_then i (x.call).level (x.call).past) l) ≡ true))
          × ((is_clear_at (standing l) (elected_then t i (x.call).level (x.call).past) ≡ true) × (is_clear_at (standing l) (online_then i (x.call).past) ≡ true))
      parts =
          let y = and_parts (list_all (λ g. not (is_waiting (standing l) g)) (after_then i (x.call).past) && is_synced (standing l) (sync_then i (x.call).level (x.call).past) (sync_place i (sync_then i (x.call).level (x.call).past) l)) (is_clear_at (standing l) (elected_then t i (x.call).level (x.call).past) && is_clear_at (standing l) (online_then i (x.call).past)) x.released in
          (and_parts _ _ y.0, and_parts _ _ y.1)
