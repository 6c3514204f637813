-- What the histories look like: a founder is never OFFLINE nor RECOVERING; a joiner takes nothing before its Welcome and its Give.
use Rattle.std.proofs.Common.{◌≡◌, ◌⊎◌, inl, inr, ℕ, suc, ◌<◌, Bool, true, false, Option, Some, None, List, [], ◌∷◌, ◌++◌, refl, sym, ap, subst, ◌∙◌, length, arith}
use Rattle.std.specs.Prelude.{◌&&◌, ◌||◌}
use Rattle.std.proofs.lemmas.Bool.{false≢true, cases_Bool}
use Rattle.gr_ids.specs.Names.{inc_eq}
use Rattle.gr_ids.specs.declared.names.Inc.{Inc}
use Rattle.gr_ids.specs.declared.levels.MemberState.{MemberState}
use Rattle.gr_ids.specs.declared.levels.MemberState.TheVariants.{Offline, Recovering, Online, Error}
use Rattle.paxos_forms.specs.declared.welcome.Welcome.{Welcome}
use Rattle.paxos_forms.specs.declared.recovery.Give.{Give}
use Rattle.group_rules.specs.declared.marks.Cause.{Cause}
use Rattle.group_rules.specs.Events.{Did, Founds, Starts, Came, Made, Took, Skips, Done, Committed, Is, Gave, Answered, Begun, Changed, Replied, Called, AsksCommit, Ends, Enters, Restores, AskFails, Hears, Ticks, Works, Calls, Operates, Life, Setup, Stored, Entry, Cert}
use Rattle.group_rules.specs.Life.{state, is_up, is_offline, is_recovering, entered, has_give, taken}
use Rattle.group_rules.specs.Legal.{last_slot}
use Rattle.group_rules.specs.Taking.{takes_slots}
use Rattle.group_rules.specs.World.{Past, Does, Writes, Halts, life_in}
use Rattle.group_bridge.specs.Left.{is_settled}
use Rattle.group_bridge.specs.Moves.{slots_in}
use Rattle.group_runs.specs.Runs.{is_founder, AllDid, ByRules, IsFirst, IsDone}
use Rattle.node_rules.proofs.Incs.{inc_is}

pub record FounderLife (l : Life) : Type 0 where
  pub entered : entered l ≡ None
  pub give : has_give l ≡ false
  pub joined : is_recovering (state l) ≡ false
  pub begun : 1 < length l → is_offline (state l) ≡ false
  pub not_started : (y : Stored) → l ≡ Starts y ∷ [] → ⊥

abbrev pub EntersLast : Life → Type 0
EntersLast l = (w : Welcome) × (past : Life) × (l ≡ Enters w ∷ past)

-- before its Welcome
pub record Waits (l : Life) : Type 0 where
  pub slots : slots_in l ≡ []
  pub give : has_give l ≡ false
  pub joined : is_recovering (state l) ≡ false
  pub up : is_up (state l) ≡ false

-- before its Give
pub record Asks (l : Life) (w : Welcome) : Type 0 where
  pub slots : slots_in l ≡ []
  pub up : is_up (state l) ≡ false
  pub slot : last_slot l ≡ w.slot
  pub place : taken l ≡ w.place

pub record JoinerLife (l : Life) : Type 0 where
  pub offline : is_offline (state l) ≡ true → (entered l ≡ None) ⊎ EntersLast l
  pub unentered : entered l ≡ None → Waits l
  pub ungiven : (w : Welcome) → entered l ≡ Some w → has_give l ≡ false → Asks l w
  pub not_founded : l ≡ Founds ∷ [] → ⊥

pub record Shape (t : Setup) (i : Inc) (l : Life) : Type 0 where
  pub founder : is_founder t i ≡ true → FounderLife l
  pub joiner : is_founder t i ≡ false → JoinerLife l

some_none : {A : Type 0} (x : A) → Some x ≡ None → ⊥
some_none x e = absurd (cc e)

some_is : {A : Type 0} {x y : A} → Some x ≡ Some y → x ≡ y
some_is {x = x} {y = y} e = cc

-- a history of one thing
one_thing : (d e : Did) (l : Life) → 1 < length l → d ∷ l ≡ e ∷ [] → ⊥
one_thing d e l h q = let z : suc (length l) ≡ 1 = ap length q in absurd (omega (arith, h, z))

-- a settled one doesn't end with a Welcome
pub not_entering : (i : Inc) (l : Life) → is_settled i l ≡ true → EntersLast l → ⊥
not_entering i l h e = absurd (false≢true (subst (λ x. is_settled i x ≡ true) e.2 h))

-- ---- things that change nothing of this

-- what a history is read for here
pub record Same (l m : Life) : Type 0 where
  pub state : state m ≡ state l
  pub entered : entered m ≡ entered l
  pub give : has_give m ≡ has_give l
  pub slots : slots_in m ≡ slots_in l
  pub slot : last_slot m ≡ last_slot l
  pub place : taken m ≡ taken l

keeps : (t : Setup) (i : Inc) (d : Did) (l : Life) → Same l (d ∷ l) → 1 < length l → is_settled i l ≡ true → Shape t i l → Shape t i (d ∷ l)
keeps t i d l s b z x = record { founder = founder; joiner = joiner }
  where
    founder : is_founder t i ≡ true → FounderLife (d ∷ l)
    founder f = let o = x.founder f in record { entered = s.entered ∙ o.entered; give = s.give ∙ o.give; joined = ap is_recovering s.state ∙ o.joined; begun = λ h. ap is_offline s.state ∙ o.begun b; not_started = λ y q. one_thing d (Starts y) l b q }

    joiner : is_founder t i ≡ false → JoinerLife (d ∷ l)
    joiner f =
        let o = x.joiner f in
        record {
          offline = λ h. elim (o.offline (sym (ap is_offline s.state) ∙ h)) [ inl q ↦ inl (s.entered ∙ q) | inr q ↦ absurd (not_entering i l z q) ];
          unentered = λ h. let w = o.unentered (sym s.entered ∙ h) in record { slots = s.slots ∙ w.slots; give = s.give ∙ w.give; joined = ap is_recovering s.state ∙ w.joined; up = ap is_up s.state ∙ w.up };
          ungiven = λ w h g. let a = o.ungiven w (sym s.entered ∙ h) (sym s.give ∙ g) in record { slots = s.slots ∙ a.slots; up = ap is_up s.state ∙ a.up; slot = s.slot ∙ a.slot; place = s.place ∙ a.place };
          not_founded = λ q. one_thing d Founds l b q;
        }

same : (l m : Life) → state m ≡ state l → entered m ≡ entered l → has_give m ≡ has_give l → slots_in m ≡ slots_in l → last_slot m ≡ last_slot l → taken m ≡ taken l → Same l m
same l m a b c d e f = record { state = a; entered = b; give = c; slots = d; slot = e; place = f }

-- ---- a slot

-- one that takes slots has its Welcome and its Give
pub takes_after : (t : Setup) (i : Inc) (l : Life) → Shape t i l → takes_slots l ≡ true → is_founder t i ≡ false → (w : Welcome) × (entered l ≡ Some w) × (has_give l ≡ true)
takes_after t i l x h f = go (entered l) refl
  where
    o : JoinerLife l
    o = x.joiner f

    either : (a b c : Bool) → (a || (b && c)) ≡ true → (a ≡ true) ⊎ ((b ≡ true) × (c ≡ true))
    either true b c q = inl refl
    either false true true q = inr (refl, refl)
    either false true false q = absurd (false≢true q)
    either false false c q = absurd (false≢true q)

    ready : (is_up (state l) ≡ true) ⊎ ((is_recovering (state l) ≡ true) × (has_give l ≡ true))
    ready = either (is_up (state l)) (is_recovering (state l)) (has_give l) h

    given : (w : Welcome) → entered l ≡ Some w → has_give l ≡ true
    given w q = elim (cases_Bool (has_give l)) [
      | inl g ↦ g
      | inr g ↦ elim ready [ inl u ↦ absurd (false≢true (sym (o.ungiven w q g).up ∙ u)) | inr u ↦ u.1 ]
    ]

    go : (z : Option Welcome) → entered l ≡ z → (w : Welcome) × (entered l ≡ Some w) × (has_give l ≡ true)
    go (Some w) q = (w, q, given w q)
    go None q = elim ready [ inl u ↦ absurd (false≢true (sym (o.unentered q).up ∙ u)) | inr u ↦ absurd (false≢true (sym (o.unentered q).joined ∙ u.0)) ]

not_offline : (l : Life) → takes_slots l ≡ true → is_offline (state l) ≡ false
not_offline l h = go (state l) (has_give l) h
  where
    go : (s : MemberState) (g : Bool) → (is_up s || (is_recovering s && g)) ≡ true → is_offline s ≡ false
    go Offline g q = absurd (false≢true q)
    go Recovering g q = refl
    go Online g q = refl
    go Error g q = refl

slot_keeps : (t : Setup) (i : Inc) (d : Did) (l : Life) → state (d ∷ l) ≡ state l → entered (d ∷ l) ≡ entered l → has_give (d ∷ l) ≡ has_give l → takes_slots l ≡ true → 1 < length l → Shape t i l → Shape t i (d ∷ l)
slot_keeps t i d l a b c h n x = record { founder = founder; joiner = joiner }
  where
    founder : is_founder t i ≡ true → FounderLife (d ∷ l)
    founder f = let o = x.founder f in record { entered = b ∙ o.entered; give = c ∙ o.give; joined = ap is_recovering a ∙ o.joined; begun = λ k. ap is_offline a ∙ o.begun n; not_started = λ y q. one_thing d (Starts y) l n q }

    joiner : is_founder t i ≡ false → JoinerLife (d ∷ l)
    joiner f =
        let r = takes_after t i l x h f in
        record {
          offline = λ q. absurd (false≢true (sym (not_offline l h) ∙ (sym (ap is_offline a) ∙ q)));
          unentered = λ q. absurd (some_none r.0 (sym r.1 ∙ (sym b ∙ q)));
          ungiven = λ w q g. absurd (false≢true (sym g ∙ (c ∙ r.2)));
          not_founded = λ q. one_thing d Founds l n q;
        }

-- ---- its own state

has_slot : (z : Entry) (past : Life) → slots_in (Took z ∷ past) ≡ [] → ⊥
has_slot z past e = go (slots_in past) e
  where
    go : (xs : List ℕ) → xs ++ z.slot ∷ [] ≡ [] → ⊥
    go [] q = absurd (cc q)
    go (x ∷ xs) q = absurd (cc q)

founder_is : (x : MemberState) (c : Cause) (l : Life) → FounderLife l → is_recovering x ≡ false → is_offline x ≡ false → FounderLife (Is x c ∷ l)
founder_is x c l o a b = record { entered = o.entered; give = o.give; joined = a; begun = λ h. b; not_started = λ y q. absurd (cc q) }

-- the first one
first_is : (t : Setup) (i : Inc) (l : Life) (x : MemberState) (c : Cause) → IsFirst l x → Shape t i l → Shape t i (Is x c ∷ l)
first_is t i l x c (inl h) o = subst (λ z. Shape t i (Is z c ∷ l)) (sym h.1) (record {
  founder = λ f. founder_is Online c l (o.founder f) refl refl;
  joiner = λ f. absurd ((o.joiner f).not_founded h.0);
})
first_is t i l x c (inr h) o = subst (λ z. Shape t i (Is z c ∷ l)) (sym h.2) (record {
  founder = λ f. absurd ((o.founder f).not_started h.0 h.1);
  joiner = λ f. record {
    offline = λ k. inl (ap entered h.1);
    unentered = λ k. record { slots = ap slots_in h.1; give = ap has_give h.1; joined = refl; up = refl };
    ungiven = λ w k g. absurd (some_none w (sym k ∙ ap entered h.1));
    not_founded = λ q. absurd (cc q);
  };
})

online_is : (t : Setup) (i : Inc) (l : Life) (c : Cause) (z : Entry) (past : Life) → l ≡ Took z ∷ past → Shape t i l → Shape t i (Is Online c ∷ l)
online_is t i l c z past h o = record {
  founder = λ f. founder_is Online c l (o.founder f) refl refl;
  joiner = λ f. record {
    offline = λ k. absurd (false≢true k);
    unentered = λ k. absurd (has_slot z past (sym (ap slots_in h) ∙ ((o.joiner f).unentered k).slots));
    ungiven = λ w k g. absurd (has_slot z past (sym (ap slots_in h) ∙ ((o.joiner f).ungiven w k g).slots));
    not_founded = λ q. absurd (cc q);
  };
}

recovering_is : (t : Setup) (i : Inc) (l : Life) (c : Cause) (w : Welcome) (past : Life) → l ≡ Enters w ∷ past → Shape t i l → Shape t i (Is Recovering c ∷ l)
recovering_is t i l c w past h o = record {
  founder = λ f. absurd (some_none w (sym (ap entered h) ∙ (o.founder f).entered));
  joiner = λ f. record {
    offline = λ k. absurd (false≢true k);
    unentered = λ k. absurd (some_none w (sym (ap entered h) ∙ k));
    ungiven = λ u k g. let a = (o.joiner f).ungiven u k g in record { slots = a.slots; up = refl; slot = a.slot; place = a.place };
    not_founded = λ q. absurd (cc q);
  };
}

error_is : (t : Setup) (i : Inc) (l : Life) (c : Cause) → Shape t i l → Shape t i (Is Error c ∷ l)
error_is t i l c o = record {
  founder = λ f. founder_is Error c l (o.founder f) refl refl;
  joiner = λ f. record {
    offline = λ k. absurd (false≢true k);
    unentered = λ k. let a = (o.joiner f).unentered k in record { slots = a.slots; give = a.give; joined = refl; up = refl };
    ungiven = λ u k g. let a = (o.joiner f).ungiven u k g in record { slots = a.slots; up = refl; slot = a.slot; place = a.place };
    not_founded = λ q. absurd (cc q);
  };
}

-- ---- joining

enters_shape : (t : Setup) (i : Inc) (l : Life) (w : Welcome) → is_offline (state l) ≡ true → 1 < length l → is_settled i l ≡ true → Shape t i l → Shape t i (Enters w ∷ l)
enters_shape t i l w off b z o = record {
  founder = λ f. absurd (false≢true (sym ((o.founder f).begun b) ∙ off));
  joiner = λ f. record {
    offline = λ k. inr (w, l, refl);
    unentered = λ k. absurd (some_none w k);
    ungiven = λ u k g. let a = waits f in let same : w ≡ u = some_is k in record { slots = a.slots; up = a.up; slot = ap (λ y. y.slot) same; place = ap (λ y. y.place) same };
    not_founded = λ q. one_thing (Enters w) Founds l b q;
  };
}
  where
    waits : is_founder t i ≡ false → Waits l
    waits f = elim ((o.joiner f).offline off) [ inl q ↦ (o.joiner f).unentered q | inr q ↦ absurd (not_entering i l z q) ]

recovering_not_offline : (s : MemberState) → is_recovering s ≡ true → is_offline s ≡ false
recovering_not_offline Offline h = absurd (false≢true h)
recovering_not_offline Recovering h = refl
recovering_not_offline Online h = refl
recovering_not_offline Error h = refl

restores_shape : (t : Setup) (i : Inc) (l : Life) (g : Give) (cs : List Cert) → is_recovering (state l) ≡ true → 1 < length l → Shape t i l → Shape t i (Restores g cs ∷ l)
restores_shape t i l g cs r b o = record {
  founder = λ f. absurd (false≢true (sym (o.founder f).joined ∙ r));
  joiner = λ f. record {
    offline = λ k. absurd (false≢true (sym (recovering_not_offline (state l) r) ∙ k));
    unentered = λ k. absurd (false≢true (sym ((o.joiner f).unentered k).joined ∙ r));
    ungiven = λ u k h. absurd (false≢true (sym h));
    not_founded = λ q. one_thing (Restores g cs) Founds l b q;
  };
}

-- ---- the begin

founds_shape : (t : Setup) (i : Inc) → is_founder t i ≡ true → Shape t i (Founds ∷ [])
founds_shape t i f = record {
  founder = λ k. record { entered = refl; give = refl; joined = refl; begun = λ h. absurd (omega (arith, h)); not_started = λ y q. absurd (cc q) };
  joiner = λ k. absurd (false≢true (sym k ∙ f));
}

starts_shape : (t : Setup) (i : Inc) (x : Stored) → is_founder t i ≡ false → Shape t i (Starts x ∷ [])
starts_shape t i x f = record {
  founder = λ k. absurd (false≢true (sym f ∙ k));
  joiner = λ k. record {
    offline = λ h. inl refl;
    unentered = λ h. record { slots = refl; give = refl; joined = refl; up = refl };
    ungiven = λ w h g. absurd (some_none w (sym h));
    not_founded = λ q. absurd (cc q);
  };
}

nothing_shape : (t : Setup) (i : Inc) → Shape t i []
nothing_shape t i = record {
  founder = λ k. record { entered = refl; give = refl; joined = refl; begun = λ h. absurd (omega (arith, h)); not_started = λ y q. absurd (cc q) };
  joiner = λ k. record {
    offline = λ h. inl refl;
    unentered = λ h. record { slots = refl; give = refl; joined = refl; up = refl };
    ungiven = λ w h g. absurd (some_none w (sym h));
    not_founded = λ q. absurd (cc q);
  };
}

-- ---- one thing more

is_shape : (t : Setup) (p : Past) (i : Inc) (x : MemberState) (c : Cause) → ByRules t p i (Is x c) → Shape t i (life_in p i) → Shape t i (Is x c ∷ life_in p i)
is_shape t p i Offline c h o = absurd h.1.1
is_shape t p i Recovering c h o = let z = h.1.1 in recovering_is t i (life_in p i) c z.0 z.1 z.2 o
is_shape t p i Online c h o = let z = h.1.1 in online_is t i (life_in p i) c z.0 z.1 z.2 o
is_shape t p i Error c h o = error_is t i (life_in p i) c o

pub one_more : (t : Setup) (p : Past) (i : Inc) (d : Did) → IsDone t p i d → Shape t i (life_in p i) → Shape t i (d ∷ life_in p i)
one_more t p i Founds h o = subst (λ l. Shape t i (Founds ∷ l)) (sym h.1) (founds_shape t i h.2)
one_more t p i (Starts x) h o = subst (λ l. Shape t i (Starts x ∷ l)) (sym h.1) (starts_shape t i x h.2)
one_more t p i (Is x c) h o = elim h [ inl k ↦ first_is t i (life_in p i) x c k.1 o | inr k ↦ is_shape t p i x c k o ]
one_more t p i (Enters w) h o = let a = h.0 in let k = h.1.1 in enters_shape t i (life_in p i) w (subst (λ l. is_offline (state l) ≡ true) (sym k.heard) k.offline) a.begun a.settled o
one_more t p i (Restores g cs) h o = let a = h.0 in let k = h.1.1 in restores_shape t i (life_in p i) g cs (subst (λ l. is_recovering (state l) ≡ true) (sym k.heard) k.recovering) a.begun o
one_more t p i (Took e) h o = let a = h.0 in slot_keeps t i (Took e) (life_in p i) refl refl refl h.1.1 a.begun o
one_more t p i (Skips s v) h o = let a = h.0 in slot_keeps t i (Skips s v) (life_in p i) refl refl refl h.1.1 a.begun o
one_more t p i (Came (Hears m)) h o = let a = h.0 in keeps t i (Came (Hears m)) (life_in p i) (same _ _ refl refl refl refl refl refl) a.begun a.settled o
one_more t p i (Came Ticks) h o = let a = h.0 in keeps t i (Came Ticks) (life_in p i) (same _ _ refl refl refl refl refl refl) a.begun a.settled o
one_more t p i (Came (Works x y)) h o = let a = h.0 in keeps t i (Came (Works x y)) (life_in p i) (same _ _ refl refl refl refl refl refl) a.begun a.settled o
one_more t p i (Came (Calls x y)) h o = let a = h.0 in keeps t i (Came (Calls x y)) (life_in p i) (same _ _ refl refl refl refl refl refl) a.begun a.settled o
one_more t p i (Came (Operates x)) h o = let a = h.0 in keeps t i (Came (Operates x)) (life_in p i) (same _ _ refl refl refl refl refl refl) a.begun a.settled o
one_more t p i (Made v k) h o = let a = h.0 in keeps t i (Made v k) (life_in p i) (same _ _ refl refl refl refl refl refl) a.begun a.settled o
one_more t p i (Done n) h o = let a = h.0 in keeps t i (Done n) (life_in p i) (same _ _ refl refl refl refl refl refl) a.begun a.settled o
one_more t p i (Committed g) h o = let a = h.0 in keeps t i (Committed g) (life_in p i) (same _ _ refl refl refl refl refl refl) a.begun a.settled o
one_more t p i (Gave n m) h o = let a = h.0 in keeps t i (Gave n m) (life_in p i) (same _ _ refl refl refl refl refl refl) a.begun a.settled o
one_more t p i (Answered s x) h o = let a = h.0 in keeps t i (Answered s x) (life_in p i) (same _ _ refl refl refl refl refl refl) a.begun a.settled o
one_more t p i (Begun s x y) h o = let a = h.0 in keeps t i (Begun s x y) (life_in p i) (same _ _ refl refl refl refl refl refl) a.begun a.settled o
one_more t p i (Changed s c) h o = let a = h.0 in keeps t i (Changed s c) (life_in p i) (same _ _ refl refl refl refl refl refl) a.begun a.settled o
one_more t p i (Replied r) h o = let a = h.0 in keeps t i (Replied r) (life_in p i) (same _ _ refl refl refl refl refl refl) a.begun a.settled o
one_more t p i (Called s v w) h o = let a = h.0 in keeps t i (Called s v w) (life_in p i) (same _ _ refl refl refl refl refl refl) a.begun a.settled o
one_more t p i (AsksCommit s j) h o = let a = h.0 in keeps t i (AsksCommit s j) (life_in p i) (same _ _ refl refl refl refl refl refl) a.begun a.settled o
one_more t p i (Ends s) h o = let a = h.0 in keeps t i (Ends s) (life_in p i) (same _ _ refl refl refl refl refl refl) a.begun a.settled o
one_more t p i AskFails h o = let a = h.0 in keeps t i AskFails (life_in p i) (same _ _ refl refl refl refl refl refl) a.begun a.settled o

pub shapes : (t : Setup) (p : Past) → AllDid (IsDone t) p → (i : Inc) → Shape t i (life_in p i)
shapes t [] h i = nothing_shape t i
shapes t (Writes n x ∷ p) h i = shapes t p h i
shapes t (Halts n ∷ p) h i = shapes t p h i
shapes t (Does j d ∷ p) h i = go (inc_eq j i) refl (shapes t p h.1 i)
  where
    go : (b : Bool) → inc_eq j i ≡ b → Shape t i (life_in p i) → Shape t i (elim b [ true ↦ d ∷ life_in p i | false ↦ life_in p i ])
    go true q o = one_more t p i d (subst (λ k. IsDone t p k d) (inc_is j i q) h.0) o
    go false q o = o
