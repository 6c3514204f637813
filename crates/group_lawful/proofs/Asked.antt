-- A transaction whose commit was asked: until its value waits no more it holds its keys, but for those that a place took over.
use Rattle.std.proofs.Common.{◌≡◌, ◌⊎◌, inl, inr, ℕ, Bool, true, false, ◌&&◌, Some, None, List, [], ◌∷◌, refl, sym, ap, subst, ◌∙◌, eqb}
use Rattle.std.specs.Prelude.{◌==◌}
use Rattle.std.proofs.lemmas.Bool.{false≢true, cases_Bool, eqb-true}
use Rattle.gr_ids.specs.declared.names.Inc.{Inc}
use Rattle.gr_ids.specs.declared.names.ValueId.{ValueId}
use Rattle.gr_ids.specs.declared.levels.MemberState.{MemberState}
use Rattle.gr_ids.specs.declared.levels.MemberState.TheVariants.{Error}
use Rattle.key_items.specs.declared.item.Item.{Item}
use Rattle.key_items.specs.Items.{item_eq}
use Rattle.slot_values.specs.declared.value.Value.{Value}
use Rattle.txn_forms.specs.declared.body.Txn.{Txn}
use Rattle.txn_forms.specs.declared.body.Part.{Part}
use Rattle.txn_forms.specs.declared.body.Body.TheVariants.{Txn as Writes, Prepared, Sync, Executed, Online as Arrives, Mode as Switches, Primary as Appoints, Part as PartOf}
use Rattle.group_rules.specs.declared.answers.Answer.{Answer}
use Rattle.group_rules.specs.declared.answers.Answer.TheVariants.{Committed as CommittedAs}
use Rattle.group_rules.specs.Events.{Did, Founds, Starts, Came, Made, Took, Skips, Done, Committed, Is, Gave, Answered, Begun, Changed, Replied, Called, AsksCommit, Ends, Enters, Restores, AskFails, Hears, Ticks, Works, Calls, Operates, Life, Setup}
use Rattle.group_rules.specs.Life.{certs}
use Rattle.group_rules.specs.Queue.{at_place}
use Rattle.group_rules.specs.Sessions.{Phase, Free, Holding, Active, Asking, is_asking, phase}
use Rattle.group_rules.specs.Keys.{keeps_key, writes_key}
use Rattle.group_bridge.specs.Left as left
use Rattle.group_bridge.specs.Left.{IsOpen, MadeParts, AsksFor, IsOver, Fallen, Refused, Settled, IsEnded, Unasked, WasKilled, WasLeft, Over}
use Rattle.group_laws.specs.Lists.{Mem, newest}
use Rattle.group_laws.specs.Lists as listing
use Rattle.group_laws.specs.Entries as law
use Rattle.group_laws.specs.Life as lives
use Rattle.group_lives.specs.Lives.{asking, made_as, placed, sync_number, life_of}
use Rattle.group_lawful.specs.Lived.{Lived}
use Rattle.group_lawful.specs.Knows.{AlwaysSound}
use Rattle.group_lawful.proofs.Sessions.{killed_active, left_fallen}
use Rattle.group_lawful.proofs.Opened.{opened, is_open, parts_asked}
use Rattle.group_lawful.proofs.Marks.{past_itself, past_tail, lived_past, sound_past}
use Rattle.group_lawful.proofs.Opens.{any_item}

some_none : {A : Type 0} {x : A} → Some x ≡ None → ⊥
some_none e = absurd (cc e)

module _ (t : Setup) (i : Inc) (base : List law.Placed) where
  -- ---- the keys at the call

  parts_keep : (ps : List Part) (l before : Life) (u : ℕ) (id : ValueId) (s : ℕ) (x : Item) → MadeParts ps l (AsksCommit u id ∷ before) → keeps_key l s x ≡ keeps_key before s x
  parts_keep [] l before u id s x h = ap (λ y. keeps_key y s x) h
  parts_keep (p ∷ ps) l before u id s x h = ap (λ y. keeps_key y s x) h.2 ∙ parts_keep ps h.1 before u id s x h.3

  -- the history right after the value was made
  module _ (v : Value) (tx : Txn) (l0 : Life) (s0 : ℕ) (x : Item) where
    abbrev made_life : Life
    made_life = Made v (Some (Writes tx)) ∷ l0

    -- a place took the key over since
    pub record LostSince (l : Life) : Type 0 where
      pub place : ℕ
      pub before : Life
      pub done : left.IsPast (Done place ∷ before) l
      pub after : left.IsPast l0 before
      pub takes : writes_key (at_place (certs before) place) x ≡ true

    pub data AskedAs (l : Life) : Type 0 where
      Keeps : phase l s0 ≡ Asking v.id → (keeps_key l s0 x ≡ true) ⊎ LostSince l → AskedAs l
      IsDone : (q : Life) → left.IsPast q l → IsOver q v.id → AskedAs l

    lost_more : (d : Did) (l : Life) → LostSince l → LostSince (d ∷ l)
    lost_more d l k = record { place = k.place; before = k.before; done = inr k.done; after = k.after; takes = k.takes }

    same_asked : (d : Did) (l : Life) → phase (d ∷ l) s0 ≡ phase l s0 → keeps_key (d ∷ l) s0 x ≡ keeps_key l s0 x → AskedAs l → AskedAs (d ∷ l)
    same_asked d l a b (IsDone q h o) = IsDone q (inr h) o
    same_asked d l a b (Keeps h (inl k)) = Keeps (a ∙ h) (inl (b ∙ k))
    same_asked d l a b (Keeps h (inr k)) = Keeps (a ∙ h) (inr (lost_more d l k))

    asking_is : (l : Life) (p : Phase) → phase l s0 ≡ Asking v.id → phase l s0 ≡ p → is_asking p ≡ true
    asking_is l p h e = ap is_asking (sym e ∙ h)

    not_asking : (l : Life) (u : ℕ) (p : Phase) → (u == s0) ≡ true → phase l u ≡ p → is_asking p ≡ false → phase l s0 ≡ Asking v.id → ⊥
    not_asking l u p e f n h = false≢true (sym n ∙ ap is_asking (sym f ∙ ap (phase l) (eqb-true u s0 e) ∙ h))

    -- a step of its own session
    other_asked : (d : Did) (l : Life) (u : ℕ) (p : Phase) → phase l u ≡ p → is_asking p ≡ false → ((u == s0) ≡ false → phase (d ∷ l) s0 ≡ phase l s0) → ((u == s0) ≡ false → keeps_key (d ∷ l) s0 x ≡ keeps_key l s0 x) → AskedAs l → AskedAs (d ∷ l)
    other_asked d l u p f n a b (IsDone q h o) = IsDone q (inr h) o
    other_asked d l u p f n a b (Keeps h k) = elim (cases_Bool (eqb u s0)) [
      | inl e ↦ absurd (not_asking l u p e f n h)
      | inr e ↦ same_asked d l (a e) (b e) (Keeps h k)
    ]

    ended_asked : (l : Life) (u : ℕ) → Lived t i l → IsEnded l u → AskedAs l → AskedAs (Ends u ∷ l)
    ended_asked l u k n (IsDone q h o) = IsDone q (inr h) o
    ended_asked l u k n (Keeps h z) = elim (cases_Bool (eqb u s0)) [
      | inr e ↦ same_asked (Ends u) l (ap (λ b. elim b [ true ↦ Free | false ↦ phase l s0 ]) e) refl (Keeps h z)
      | inl e ↦ IsDone l (inr (past_itself l)) (over n (eqb-true u s0 e))
    ]
      where
        over : IsEnded l u → u ≡ s0 → IsOver l v.id
        over (Unasked q) e = absurd (false≢true (sym q ∙ ap is_asking (ap (phase l) e ∙ h)))
        over (WasKilled g q) e = let y : Asking v.id ≡ Active = sym (ap (phase l) e ∙ h) ∙ killed_active t i base l u g k q in absurd (cc y)
        over (WasLeft q) e = Fallen (left_fallen t i base l u k q)
        over (Over id q o) e = let y : id ≡ v.id = cc_id (sym q ∙ ap (phase l) e ∙ h) in subst (IsOver l) y o
          where
            cc_id : Asking id ≡ Asking v.id → id ≡ v.id
            cc_id q = cc

    done_asked : (l : Life) (p : ℕ) → left.IsPast l0 l → AskedAs l → AskedAs (Done p ∷ l)
    done_asked l p h (IsDone q k o) = IsDone q (inr k) o
    done_asked l p h (Keeps a (inr k)) = Keeps a (inr (lost_more (Done p) l k))
    done_asked l p h (Keeps a (inl k)) = Keeps a (go (writes_key (at_place (certs l) p) x) refl)
      where
        go : (b : Bool) → writes_key (at_place (certs l) p) x ≡ b → (keeps_key (Done p ∷ l) s0 x ≡ true) ⊎ LostSince (Done p ∷ l)
        go true e = inr (record { place = p; before = l; done = inl refl; after = h; takes = e })
        go false e = inl (ap (λ b. elim b [ true ↦ false | false ↦ keeps_key l s0 x ]) e ∙ k)

    pub asked_as : (l : Life) → left.IsPast made_life l → Lived t i l → AskedAs made_life → AskedAs l
    asked_as [] h k o = absurd (cc h)
    asked_as (d ∷ l) (inl e) k o = subst AskedAs e o
    asked_as (Called u y w ∷ l) (inr h) k o = other_asked (Called u y w) l u Free k.0.allowed.0 refl (λ e. ap (λ b. elim b [ true ↦ Holding | false ↦ phase l s0 ]) e) (λ e. ap (λ b. elim b [ true ↦ false | false ↦ keeps_key l s0 x ]) e) (asked_as l h k.1 o)
    asked_as (Begun u y c ∷ l) (inr h) k o = other_asked (Begun u y c) l u Holding k.0.allowed.held refl (λ e. ap (λ b. elim b [ true ↦ Active | false ↦ phase l s0 ]) e) (λ e. refl) (asked_as l h k.1 o)
    asked_as (AsksCommit u y ∷ l) (inr h) k o = other_asked (AsksCommit u y) l u Active k.0.allowed.active refl (λ e. ap (λ b. elim b [ true ↦ Asking y | false ↦ phase l s0 ]) e) (λ e. refl) (asked_as l h k.1 o)
    asked_as (Changed u c ∷ l) (inr h) k o = other_asked (Changed u c) l u Active k.0.allowed.is_open.active refl (λ e. refl) (λ e. ap (λ b. elim (b && item_eq c.item x) [ true ↦ true | false ↦ keeps_key l s0 x ]) e) (asked_as l h k.1 o)
    asked_as (Ends u ∷ l) (inr h) k o = ended_asked l u k.1 k.0.allowed (asked_as l h k.1 o)
    asked_as (Done p ∷ l) (inr h) k o = done_asked l p (past_tail (Made v (Some (Writes tx))) l0 l h) (asked_as l h k.1 o)
    asked_as (Made y z ∷ l) (inr h) k o = same_asked (Made y z) l refl refl (asked_as l h k.1 o)
    asked_as (Answered u y ∷ l) (inr h) k o = same_asked (Answered u y) l refl refl (asked_as l h k.1 o)
    asked_as (Is y z ∷ l) (inr h) k o = same_asked (Is y z) l refl refl (asked_as l h k.1 o)
    asked_as (Came (Hears m) ∷ l) (inr h) k o = same_asked (Came (Hears m)) l refl refl (asked_as l h k.1 o)
    asked_as (Came Ticks ∷ l) (inr h) k o = same_asked (Came Ticks) l refl refl (asked_as l h k.1 o)
    asked_as (Came (Works z y) ∷ l) (inr h) k o = same_asked (Came (Works z y)) l refl refl (asked_as l h k.1 o)
    asked_as (Came (Calls z y) ∷ l) (inr h) k o = same_asked (Came (Calls z y)) l refl refl (asked_as l h k.1 o)
    asked_as (Came (Operates z) ∷ l) (inr h) k o = same_asked (Came (Operates z)) l refl refl (asked_as l h k.1 o)
    asked_as (Skips u v ∷ l) (inr h) k o = same_asked (Skips u v) l refl refl (asked_as l h k.1 o)
    asked_as (Gave n j ∷ l) (inr h) k o = same_asked (Gave n j) l refl refl (asked_as l h k.1 o)
    asked_as (Replied r ∷ l) (inr h) k o = same_asked (Replied r) l refl refl (asked_as l h k.1 o)
    asked_as (AskFails ∷ l) (inr h) k o = same_asked AskFails l refl refl (asked_as l h k.1 o)
    asked_as (Founds ∷ l) (inr h) k o = same_asked Founds l refl refl (asked_as l h k.1 o)
    asked_as (Enters z ∷ l) (inr h) k o = same_asked (Enters z) l refl refl (asked_as l h k.1 o)
    asked_as (Starts z ∷ l) (inr h) k o = same_asked (Starts z) l refl refl (asked_as l h k.1 o)
    asked_as (Took z ∷ l) (inr h) k o = same_asked (Took z) l refl refl (asked_as l h k.1 o)
    asked_as (Restores y cs ∷ l) (inr h) k o = same_asked (Restores y cs) l refl refl (asked_as l h k.1 o)
    asked_as (Committed y ∷ l) (inr h) k o = same_asked (Committed y) l refl refl (asked_as l h k.1 o)

    -- right after it was made, it keeps the keys of its changes
    pub asked_first : AsksFor l0 v tx → Lived t i l0 → AlwaysSound t i base l0 → asking l0 ≡ s0 → any_item tx.changes x ≡ true → AskedAs made_life
    asked_first a k o e m =
        let y = parts_asked t i base a.parts l0 a.past a.session a.id a.since in
        let same : a.session ≡ s0 = sym y.0 ∙ e in
        let past = before_parts a.parts l0 a.past a.session a.id a.since in
        let z = opened t i base a.past a.session (lived_past t i a.past l0 past k) (sound_past t i base a.past l0 past o) (ap is_open a.is_open.active) a.is_open.unkilled in
        Keeps (ap (phase l0) (sym same) ∙ y.1 ∙ ap Asking a.asked_as)
        (inl (ap (λ n. keeps_key l0 n x) (sym same) ∙ parts_keep a.parts l0 a.past a.session a.id a.session x a.since ∙ z.keeps x ∙ ap (λ (w : Txn). any_item w.changes x) (sym a.txn) ∙ m))
      where
        before_parts : (ps : List Part) (l before : Life) (u : ℕ) (id : ValueId) → MadeParts ps l (AsksCommit u id ∷ before) → left.IsPast before l
        before_parts [] l before u id h = subst (left.IsPast before) (sym h) (inr (past_itself before))
        before_parts (p ∷ ps) l before u id h = subst (left.IsPast before) (sym h.2) (inr (before_parts ps h.1 before u id h.3))

-- ---- from a life back to its history

-- an own transaction in a life was made in the history
pub record MadeAs (base : List law.Placed) (v : law.Value) (past : lives.Life) (tx : Txn) (l : Life) : Type 0 where
  pub value : Value
  pub before : Life
  pub there : left.IsPast (Made value (Some (Writes tx)) ∷ before) l
  pub origin : v.origin ≡ value.id.origin
  pub number : v.number ≡ value.id.number
  pub past_is : past ≡ lives.Asked (asking before) ∷ life_of base before

made_more : (base : List law.Placed) (v : law.Value) (past : lives.Life) (tx : Txn) (d : Did) (l : Life) → MadeAs base v past tx l → MadeAs base v past tx (d ∷ l)
made_more base v past tx d l k = record { value = k.value; before = k.before; there = inr k.there; origin = k.origin; number = k.number; past_is = k.past_is }

-- what isn't of an own transaction
NotMade : lives.Did → Type 0
NotMade (lives.Made v) = (tx : Txn) → v.body ≡ law.Write tx → ⊥
NotMade d = Unit {0}

skip_one : (d : lives.Did) (v : law.Value) (past ys : lives.Life) (tx : Txn) → NotMade d → v.body ≡ law.Write tx → listing.IsPast (lives.Made v ∷ past) (d ∷ ys) → listing.IsPast (lives.Made v ∷ past) ys
unfolding NotMade
skip_one d v past ys tx n b (inr h) = h
skip_one (lives.Made u) v past ys tx n b (inl e) = let z : v ≡ u = cc in absurd (n tx (ap (λ (y : law.Value). y.body) (sym z) ∙ b))
skip_one (lives.Started x) v past ys tx n b (inl e) = absurd (cc e)
skip_one (lives.Given x) v past ys tx n b (inl e) = absurd (cc e)
skip_one (lives.Took x) v past ys tx n b (inl e) = absurd (cc e)
skip_one (lives.Finished x) v past ys tx n b (inl e) = absurd (cc e)
skip_one (lives.Committed x) v past ys tx n b (inl e) = absurd (cc e)
skip_one (lives.Called x y z) v past ys tx n b (inl e) = absurd (cc e)
skip_one (lives.Begun x) v past ys tx n b (inl e) = absurd (cc e)
skip_one (lives.Changed x y) v past ys tx n b (inl e) = absurd (cc e)
skip_one (lives.Asked x) v past ys tx n b (inl e) = absurd (cc e)
skip_one (lives.Ended x) v past ys tx n b (inl e) = absurd (cc e)
skip_one (lives.Acked x) v past ys tx n b (inl e) = absurd (cc e)
skip_one lives.Fell v past ys tx n b (inl e) = absurd (cc e)

pub made_back : (base : List law.Placed) (v : law.Value) (past : lives.Life) (tx : Txn) (l : Life) → v.body ≡ law.Write tx → listing.IsPast (lives.Made v ∷ past) (life_of base l) → MadeAs base v past tx l
unfolding NotMade
made_back base v past tx [] b h = absurd (cc h)
made_back base v past tx (Made w (Some (Writes y)) ∷ l) b h = go h (made_back base v past tx l b)
  where
    go : listing.IsPast (lives.Made v ∷ past) (lives.Made (made_as w (Some (Writes y))) ∷ lives.Asked (asking l) ∷ life_of base l) → (listing.IsPast (lives.Made v ∷ past) (life_of base l) → MadeAs base v past tx l) → MadeAs base v past tx (Made w (Some (Writes y)) ∷ l)
    go (inr (inr k)) f = made_more base v past tx (Made w (Some (Writes y))) l (f k)
    go (inr (inl e)) f = absurd (cc e)
    go (inl e) f =
        let a : v ≡ made_as w (Some (Writes y)) = cc in
        let p : past ≡ lives.Asked (asking l) ∷ life_of base l = cc in
        let c : law.Write y ≡ law.Write tx = sym (ap (λ (z : law.Value). z.body) a) ∙ b in
        let same : y ≡ tx = cc in
        record { value = w; before = l; there = inl (ap (λ z. Made w (Some (Writes z)) ∷ l) (sym same)); origin = ap (λ (z : law.Value). z.origin) a; number = ap (λ (z : law.Value). z.number) a; past_is = p }
made_back base v past tx (Made w None ∷ l) b h = made_more base v past tx (Made w None) l (made_back base v past tx l b (skip_one (lives.Made (made_as w None)) v past (life_of base l) tx (λ z e. absurd (cc e)) b h))
made_back base v past tx (Made w (Some (Prepared y)) ∷ l) b h = made_more base v past tx (Made w (Some (Prepared y))) l (made_back base v past tx l b (skip_one (lives.Made (made_as w (Some (Prepared y)))) v past (life_of base l) tx (λ z e. absurd (cc e)) b h))
made_back base v past tx (Made w (Some Sync) ∷ l) b h = made_more base v past tx (Made w (Some Sync)) l (made_back base v past tx l b (skip_one (lives.Made (made_as w (Some Sync))) v past (life_of base l) tx (λ z e. absurd (cc e)) b h))
made_back base v past tx (Made w (Some (Executed y)) ∷ l) b h = made_more base v past tx (Made w (Some (Executed y))) l (made_back base v past tx l b (skip_one (lives.Made (made_as w (Some (Executed y)))) v past (life_of base l) tx (λ z e. absurd (cc e)) b h))
made_back base v past tx (Made w (Some (Arrives y)) ∷ l) b h = made_more base v past tx (Made w (Some (Arrives y))) l (made_back base v past tx l b (skip_one (lives.Made (made_as w (Some (Arrives y)))) v past (life_of base l) tx (λ z e. absurd (cc e)) b h))
made_back base v past tx (Made w (Some (Switches y)) ∷ l) b h = made_more base v past tx (Made w (Some (Switches y))) l (made_back base v past tx l b (skip_one (lives.Made (made_as w (Some (Switches y)))) v past (life_of base l) tx (λ z e. absurd (cc e)) b h))
made_back base v past tx (Made w (Some (Appoints y)) ∷ l) b h = made_more base v past tx (Made w (Some (Appoints y))) l (made_back base v past tx l b (skip_one (lives.Made (made_as w (Some (Appoints y)))) v past (life_of base l) tx (λ z e. absurd (cc e)) b h))
made_back base v past tx (Made w (Some (PartOf y)) ∷ l) b h = made_more base v past tx (Made w (Some (PartOf y))) l (made_back base v past tx l b (skip_one (lives.Made (made_as w (Some (PartOf y)))) v past (life_of base l) tx (λ z e. absurd (cc e)) b h))
made_back base v past tx (Starts z ∷ l) b h = made_more base v past tx (Starts z) l (made_back base v past tx l b (skip_one (lives.Started z.executed) v past (life_of base l) tx tt b h))
made_back base v past tx (Restores y cs ∷ l) b h = made_more base v past tx (Restores y cs) l (made_back base v past tx l b (skip_one (lives.Given base) v past (life_of base l) tx tt b h))
made_back base v past tx (Took z ∷ l) b h = made_more base v past tx (Took z) l (made_back base v past tx l b (skip_one (lives.Took (placed z)) v past (life_of base l) tx tt b h))
made_back base v past tx (Done p ∷ l) b h = made_more base v past tx (Done p) l (made_back base v past tx l b (skip_one (lives.Finished p) v past (life_of base l) tx tt b h))
made_back base v past tx (Committed y ∷ l) b h = made_more base v past tx (Committed y) l (made_back base v past tx l b (skip_one (lives.Committed y) v past (life_of base l) tx tt b h))
made_back base v past tx (Called u y w ∷ l) b h = made_more base v past tx (Called u y w) l (made_back base v past tx l b (skip_one (lives.Called u y (sync_number y l)) v past (life_of base l) tx tt b h))
made_back base v past tx (Begun u y c ∷ l) b h = made_more base v past tx (Begun u y c) l (made_back base v past tx l b (skip_one (lives.Begun u) v past (life_of base l) tx tt b h))
made_back base v past tx (Changed u c ∷ l) b h = made_more base v past tx (Changed u c) l (made_back base v past tx l b (skip_one (lives.Changed u c) v past (life_of base l) tx tt b h))
made_back base v past tx (Ends u ∷ l) b h = made_more base v past tx (Ends u) l (made_back base v past tx l b (skip_one (lives.Ended u) v past (life_of base l) tx tt b h))
made_back base v past tx (Came (Hears m) ∷ l) b h = made_more base v past tx (Came (Hears m)) l (made_back base v past tx l b h)
made_back base v past tx (Came Ticks ∷ l) b h = made_more base v past tx (Came Ticks) l (made_back base v past tx l b h)
made_back base v past tx (Came (Works z y) ∷ l) b h = made_more base v past tx (Came (Works z y)) l (made_back base v past tx l b h)
made_back base v past tx (Came (Calls z y) ∷ l) b h = made_more base v past tx (Came (Calls z y)) l (made_back base v past tx l b h)
made_back base v past tx (Came (Operates z) ∷ l) b h = made_more base v past tx (Came (Operates z)) l (made_back base v past tx l b h)
made_back base v past tx (Skips u z ∷ l) b h = made_more base v past tx (Skips u z) l (made_back base v past tx l b h)
made_back base v past tx (Gave n j ∷ l) b h = made_more base v past tx (Gave n j) l (made_back base v past tx l b h)
made_back base v past tx (Replied r ∷ l) b h = made_more base v past tx (Replied r) l (made_back base v past tx l b h)
made_back base v past tx (AskFails ∷ l) b h = made_more base v past tx AskFails l (made_back base v past tx l b h)
made_back base v past tx (Founds ∷ l) b h = made_more base v past tx Founds l (made_back base v past tx l b h)
made_back base v past tx (Enters z ∷ l) b h = made_more base v past tx (Enters z) l (made_back base v past tx l b h)
made_back base v past tx (AsksCommit u y ∷ l) b h = made_more base v past tx (AsksCommit u y) l (made_back base v past tx l b h)
made_back base v past tx (Answered u a ∷ l) b h = go a h (made_back base v past tx l b)
  where
    go : (a : Answer) → listing.IsPast (lives.Made v ∷ past) (life_of base (Answered u a ∷ l)) → (listing.IsPast (lives.Made v ∷ past) (life_of base l) → MadeAs base v past tx l) → MadeAs base v past tx (Answered u a ∷ l)
    go (CommittedAs g) k f = made_more base v past tx (Answered u (CommittedAs g)) l (f (skip_one (lives.Acked g) v past (life_of base l) tx tt b k))
    go a k f = made_more base v past tx (Answered u a) l (f k)
made_back base v past tx (Is x c ∷ l) b h = go x h (made_back base v past tx l b)
  where
    go : (x : MemberState) → listing.IsPast (lives.Made v ∷ past) (life_of base (Is x c ∷ l)) → (listing.IsPast (lives.Made v ∷ past) (life_of base l) → MadeAs base v past tx l) → MadeAs base v past tx (Is x c ∷ l)
    go Error k f = made_more base v past tx (Is Error c) l (f (skip_one lives.Fell v past (life_of base l) tx tt b k))
    go x k f = made_more base v past tx (Is x c) l (f k)
