-- Who is awaited, thing by thing.
use Rattle.std.proofs.Common.{◌≡◌, ◌⊎◌, inl, inr, ◌<◌, ◌≤◌, Bool, true, false, ◌&&◌, ◌||◌, not, Option, Some, None, List, [], ◌∷◌, refl, sym, ap, subst, ◌∙◌, arith}
use Rattle.std.specs.Prelude.{filter, if◌then◌else◌}
use Rattle.std.proofs.lemmas.Bool.{true≢false}
use Rattle.gr_ids.specs.declared.names.Inc.{Inc}
use Rattle.gr_ids.specs.declared.names.Gtid.{Gtid}
use Rattle.gr_ids.specs.Names.{gtid_eq, has_inc, inc_eq}
use Rattle.slot_values.specs.declared.value.Joiner.{Joiner}
use Rattle.slot_values.specs.declared.value.What.{What}
use Rattle.slot_values.specs.declared.value.What.TheVariants.{Noop, Add, Remove, Body as Says}
use Rattle.txn_forms.specs.declared.body.Body.{Body}
use Rattle.txn_forms.specs.declared.body.Body.TheVariants.{Txn as Writes, Prepared, Sync, Executed, Online as Arrives, Mode as Switches, Primary as Appoints, Part as PartOf}
use Rattle.paxos_forms.specs.declared.recovery.Give.{Give}
use Rattle.paxos_forms.specs.declared.welcome.Welcome.{Welcome}
use Rattle.node_rules.specs.Lists.{In}
use Rattle.node_rules.proofs.Incs.{inc_back}
use Rattle.group_rules.specs.declared.marks.Effect.{Effect}
use Rattle.group_rules.specs.declared.marks.Effect.TheVariants.{Plain, Void, Unread, Positive, Conflict}
use Rattle.group_rules.specs.Commit.{complete, complete_by, has_prepared, prepares, required}
use Rattle.group_rules.specs.Events.{AskFails, AsksCommit, Answered, Begun, Called, Came, Cert, Changed, Committed, Did, Done, Ends, Enters, Entry, Founds, Gave, Is, Life, Made, Replied, Restores, Setup, Skips, Starts, Stored, Took}
use Rattle.group_rules.specs.Life.{cert_of, certs, entry_at, taken, view}
use Rattle.group_rules.specs.View.{View, is_seated, online_incs}
use Rattle.prepare_acks.specs.Awaited.{Waiting, awaited, is_complete, is_none, requiring, without}
use Rattle.prepare_acks.specs.Following.{ArePlaced, AwaitedOf, HasNone, IsNew, IsOfNewcomer, IsUnprepared, acks_after, awaited_by, is_of_acks, with_cert, with_prepared, with_removed}
use Rattle.prepare_acks.proofs.Entries.{certifies, gtid_other, gtid_same, none_required, only_one, place_is, required_here, required_later, unprepared_after}
use Rattle.prepare_acks.proofs.Lists.{filter_all, filter_as, filter_both, in_either, in_left, in_reverse, in_right, none_is}
use Rattle.prepare_acks.proofs.Seats.{joins_as, leaves_as, online_seated, seated_after}

-- ---- the begin

pub founds : (s : Setup) → AwaitedOf s (Founds ∷ []) []
founds s = record { placed = λ c h. absurd h; each = λ c h a. absurd h; none = λ g h. refl }

pub starts : (s : Setup) (x : Stored) → AwaitedOf s (Starts x ∷ []) []
starts s x = record { placed = λ c h. absurd h; each = λ c h a. absurd h; none = λ g h. refl }

-- where none is certified, nobody is awaited
nobody_yet : (s : Setup) (l : Life) (us : List Waiting) (g : Gtid) → AwaitedOf s l us → certs l ≡ [] → awaited us g ≡ []
nobody_yet s l us g f n = f.none g (λ c h a. absurd (subst (λ (cs : List Cert). In c cs) n h))

pub enters : (s : Setup) (l : Life) (w : Welcome) (us : List Waiting) → AwaitedOf s l us → certs l ≡ [] → AwaitedOf s (Enters w ∷ l) us
enters s l w us f n = record {
  placed = λ c h. absurd (subst (λ (cs : List Cert). In c cs) n h);
  each = λ c h a. absurd (subst (λ (cs : List Cert). In c cs) n h);
  none = λ g h. nobody_yet s l us g f n;
}

pub restores : (s : Setup) (l : Life) (g : Give) (cs : List Cert) (us : List Waiting) → AwaitedOf s l us → certs l ≡ []
    → ((c : Cert) → In c cs → c.place ≤ taken l) → ((c : Cert) → In c cs → c.txn.after ≡ true → entry_at l c.place ≡ None)
    → AwaitedOf s (Restores g cs ∷ l) us
restores s l g cs us f n p q = record {
  placed = λ c h. p c (in_reverse c cs h);
  each = λ c h a. nobody_yet s l us c.gtid f n ∙ sym (by c (none_required s l c (q c (in_reverse c cs h) a)));
  none = λ k h. nobody_yet s l us k f n;
}
  where
    by : (c : Cert) → required s l c ≡ [] → awaited_by s (Restores g cs ∷ l) c ≡ []
    by c e = ap (filter (λ m. not (inc_eq m c.id.origin || (has_prepared l m c.gtid || not (is_seated (view s l) m))))) e

-- ---- an entry, and who was awaited before

removed_is : (f : Effect) (w : What) (was : Gtid → List Inc) (g : Gtid) → with_removed f w was g ≡ filter (λ m. not (leaves_as f w m)) (was g)
removed_is Plain (Remove i) was g = refl
removed_is Plain (Add j) was g = sym (filter_all (was g))
removed_is Plain (Says b) was g = sym (filter_all (was g))
removed_is Plain Noop was g = sym (filter_all (was g))
removed_is Void w was g = sym (filter_all (was g))
removed_is Unread w was g = sym (filter_all (was g))
removed_is (Positive h) w was g = sym (filter_all (was g))
removed_is (Conflict h) w was g = sym (filter_all (was g))

abbrev acknowledges : Option Body → Inc → Gtid → Inc → Bool
acknowledges x o g m = inc_eq o m && prepares x g

none_acknowledges : (x : Option Body) (o : Inc) (g : Gtid) (ms : List Inc) → prepares x g ≡ false → ms ≡ filter (λ m. not (acknowledges x o g m)) ms
none_acknowledges x o g ms e = sym (filter_as (λ m. not (acknowledges x o g m)) (λ m. true) ms (λ m h. rw e (go (inc_eq o m))) ∙ filter_all ms)
  where
    go : (b : Bool) → not (b && false) ≡ true
    go true = refl
    go false = refl

acknowledged_is : (h : Gtid) (o : Inc) (was : Gtid → List Inc) (g : Gtid) → with_prepared (Some (Prepared h)) o was g ≡ filter (λ m. not (acknowledges (Some (Prepared h)) o g m)) (was g)
acknowledged_is h o was g = go (gtid_eq h g) refl
  where
    both : (b : Bool) → not b ≡ not (b && true)
    both true = refl
    both false = refl

    go : (b : Bool) → gtid_eq h g ≡ b → (if gtid_eq h g then without o (was g) else was g) ≡ filter (λ m. not (inc_eq o m && gtid_eq h g)) (was g)
    go true e = rw e (filter_as (λ m. not (inc_eq m o)) (λ m. not (inc_eq o m && true)) (was g) (λ m k. ap not (inc_back m o) ∙ both (inc_eq o m)))
    go false e = ap (λ (b : Bool). if b then without o (was g) else was g) e ∙ none_acknowledges (Some (Prepared h)) o g (was g) e

prepared_is : (x : Option Body) (o : Inc) (was : Gtid → List Inc) (g : Gtid) → with_prepared x o was g ≡ filter (λ m. not (acknowledges x o g m)) (was g)
prepared_is (Some (Prepared h)) o was g = acknowledged_is h o was g
prepared_is None o was g = none_acknowledges None o g (was g) refl
prepared_is (Some (Writes t)) o was g = none_acknowledges (Some (Writes t)) o g (was g) refl
prepared_is (Some Sync) o was g = none_acknowledges (Some Sync) o g (was g) refl
prepared_is (Some (Executed e)) o was g = none_acknowledges (Some (Executed e)) o g (was g) refl
prepared_is (Some (Arrives e)) o was g = none_acknowledges (Some (Arrives e)) o g (was g) refl
prepared_is (Some (Switches k)) o was g = none_acknowledges (Some (Switches k)) o g (was g) refl
prepared_is (Some (Appoints i)) o was g = none_acknowledges (Some (Appoints i)) o g (was g) refl
prepared_is (Some (PartOf p)) o was g = none_acknowledges (Some (PartOf p)) o g (was g) refl

-- a certified transaction leaves those that are awaited for other GTIDs
other_cert : (cs : List Cert) (online : List Inc) (was : Gtid → List Inc) (g : Gtid) → ((c : Cert) → In c cs → c.txn.after ≡ true → gtid_eq c.gtid g ≡ false) → with_cert cs online was g ≡ was g
other_cert [] online was g h = refl
other_cert (c ∷ cs) online was g h = go c.txn.after refl
  where
    go : (b : Bool) → c.txn.after ≡ b → with_cert (c ∷ cs) online was g ≡ was g
    go true a = ap (λ (b : Bool). (if b then requiring c.gtid c.id.origin online was else was) g) a ∙ ap (λ (b : Bool). if b then without c.id.origin online else was g) (h c (inl refl) a)
    go false a = ap (λ (b : Bool). (if b then requiring c.gtid c.id.origin online was else was) g) a

-- an entry takes out those who acknowledge by it, and one who is removed
other_after : (v : View) (e : Entry) (was : Gtid → List Inc) (g : Gtid) → ((c : Cert) → In c (cert_of e) → c.txn.after ≡ true → gtid_eq c.gtid g ≡ false)
    → acks_after v e was g ≡ filter (λ m. not (leaves_as e.effect e.value.what m)) (filter (λ m. not (acknowledges e.holds e.value.id.origin g m)) (was g))
other_after v e was g h =
    let certified = with_cert (cert_of e) (online_incs v) was in
    let prepared = with_prepared e.holds e.value.id.origin certified in
    removed_is e.effect e.value.what prepared g
    ∙ ap (filter (λ m. not (leaves_as e.effect e.value.what m))) (prepared_is e.holds e.value.id.origin certified g ∙ ap (filter (λ m. not (acknowledges e.holds e.value.id.origin g m))) (other_cert (cert_of e) (online_incs v) was g h))

-- origin, acknowledges now, has prepared, has a seat, leaves now
one_kept : (o a p s v : Bool) → not (o || (elim a [ true ↦ true | false ↦ p ] || not (not v && s))) ≡ (not v && (not a && not (o || (p || not s))))
one_kept true a p s true = refl
one_kept true true p s false = refl
one_kept true false p s false = refl
one_kept false true p s true = refl
one_kept false true p s false = refl
one_kept false false true s true = refl
one_kept false false true s false = refl
one_kept false false false s true = refl
one_kept false false false s false = refl

not_joining : (f : Effect) (w : What) (ms : List Inc) (m : Inc) → ((j : Joiner) → w ≡ Add j → f ≡ Plain → has_inc ms j.inc ≡ false) → In m ms → joins_as f w m ≡ false
not_joining Plain (Add j) ms m h k = inc_back j.inc m ∙ none_is ms m j.inc k (h j refl refl)
not_joining Plain (Remove i) ms m h k = refl
not_joining Plain (Says b) ms m h k = refl
not_joining Plain Noop ms m h k = refl
not_joining Void w ms m h k = refl
not_joining Unread w ms m h k = refl
not_joining (Positive g) w ms m h k = refl
not_joining (Conflict g) w ms m h k = refl

module _ (s : Setup) (l : Life) (e : Entry) (c : Cert) where
  abbrev leaves : Inc → Bool
  leaves m = not (leaves_as e.effect e.value.what m)

  abbrev silent : Inc → Bool
  silent m = not (acknowledges e.holds e.value.id.origin c.gtid m)

  abbrev kept : Inc → Bool
  kept m = not (inc_eq m c.id.origin || (has_prepared l m c.gtid || not (is_seated (view s l) m)))

  abbrev kept_after : Inc → Bool
  kept_after m = not (inc_eq m c.id.origin || (has_prepared (Took e ∷ l) m c.gtid || not (is_seated (view s (Took e ∷ l)) m)))

  each_kept : (m : Inc) → joins_as e.effect e.value.what m ≡ false → kept_after m ≡ (leaves m && (silent m && kept m))
  each_kept m j =
      let seat : is_seated (view s (Took e ∷ l)) m ≡ (leaves m && is_seated (view s l) m) =
      seated_after e.place e.value.id.origin e.value.what e.holds e.effect (view s l) m ∙ ap (λ b. leaves m && (b || is_seated (view s l) m)) j in
      ap (λ b. not (inc_eq m c.id.origin || (has_prepared (Took e ∷ l) m c.gtid || not b))) seat
      ∙ one_kept (inc_eq m c.id.origin) (acknowledges e.holds e.value.id.origin c.gtid m) (has_prepared l m c.gtid) (is_seated (view s l) m) (leaves_as e.effect e.value.what m)

  pub awaited_later : c.place < e.place → ((j : Joiner) → e.value.what ≡ Add j → e.effect ≡ Plain → has_inc (required s l c) j.inc ≡ false)
      → awaited_by s (Took e ∷ l) c ≡ filter leaves (filter silent (awaited_by s l c))
  awaited_later p n =
      ap (filter kept_after) (required_later s l e c p)
      ∙ (filter_as kept_after (λ m. leaves m && (silent m && kept m)) (required s l c) (λ m h. each_kept m (not_joining e.effect e.value.what (required s l c) m n h))
      ∙ sym (ap (filter leaves) (filter_both silent kept (required s l c)) ∙ filter_both leaves (λ m. silent m && kept m) (required s l c)))

-- ---- an entry that is certified

certified_after : (v : View) (e : Entry) (was : Gtid → List Inc) (c : Cert) → In c (cert_of e) → c.txn.after ≡ true → acks_after v e was c.gtid ≡ without c.id.origin (online_incs v)
certified_after v e was c h a =
    let k = certifies e c h in
    ap (λ (f : Effect). with_removed f e.value.what (with_prepared e.holds e.value.id.origin (with_cert (cert_of e) (online_incs v) was)) c.gtid) k.effect
    ∙ (ap (λ (b : Option Body). with_prepared b e.value.id.origin (with_cert (cert_of e) (online_incs v) was) c.gtid) k.holds
    ∙ (ap (λ (cs : List Cert). with_cert cs (online_incs v) was c.gtid) (only_one e c h)
    ∙ (ap (λ (b : Bool). (if b then requiring c.gtid c.id.origin (online_incs v) was else was) c.gtid) a
    ∙ ap (λ (b : Bool). if b then without c.id.origin (online_incs v) else was c.gtid) (gtid_same c.gtid))))

awaited_first : (s : Setup) (l : Life) (e : Entry) (c : Cert) → In c (cert_of e) → ((m : Inc) → has_prepared l m c.gtid ≡ false)
    → awaited_by s (Took e ∷ l) c ≡ without c.id.origin (online_incs (view s (Took e ∷ l)))
awaited_first s l e c h n =
    ap (filter (λ m. not (inc_eq m c.id.origin || (has_prepared (Took e ∷ l) m c.gtid || not (is_seated (view s (Took e ∷ l)) m))))) (required_here s l e c h)
    ∙ filter_as (λ m. not (inc_eq m c.id.origin || (has_prepared (Took e ∷ l) m c.gtid || not (is_seated (view s (Took e ∷ l)) m)))) (λ m. not (inc_eq m c.id.origin)) (online_incs (view s (Took e ∷ l))) each
  where
    no_more : (b : Bool) → (b || false) ≡ b
    no_more true = refl
    no_more false = refl

    each : (m : Inc) → In m (online_incs (view s (Took e ∷ l))) → not (inc_eq m c.id.origin || (has_prepared (Took e ∷ l) m c.gtid || not (is_seated (view s (Took e ∷ l)) m))) ≡ not (inc_eq m c.id.origin)
    each m k =
        ap (λ b. not (inc_eq m c.id.origin || (b || not (is_seated (view s (Took e ∷ l)) m)))) (unprepared_after l e c m c.gtid h ∙ n m)
        ∙ (ap (λ b. not (inc_eq m c.id.origin || not b)) (online_seated (view s (Took e ∷ l)) m k) ∙ ap not (no_more (inc_eq m c.id.origin)))

-- ---- an entry

-- places stay at most the last one taken
pub placed_after : (l : Life) (e : Entry) → ArePlaced l → taken l < e.place → ArePlaced (Took e ∷ l)
placed_after l e f p c h = go (in_either c (cert_of e) (certs l) h)
  where
    go : In c (cert_of e) ⊎ In c (certs l) → c.place ≤ e.place
    go (inl k) = let q : c.place ≡ e.place = place_is e c k in omega (arith, q)
    go (inr k) = let q : c.place ≤ taken l = f c k in omega (arith, p, q)

pub none_before : (l : Life) (e : Entry) (g : Gtid) → HasNone (Took e ∷ l) g → HasNone l g
none_before l e g h c k = h c (in_right c (cert_of e) (certs l) k)

pub none_here : (l : Life) (e : Entry) (g : Gtid) → HasNone (Took e ∷ l) g → (c : Cert) → In c (cert_of e) → c.txn.after ≡ true → gtid_eq c.gtid g ≡ false
none_here l e g h c k = h c (in_left c (cert_of e) (certs l) k)

pub takes : (s : Setup) (l : Life) (e : Entry) (us ys : List Waiting) → AwaitedOf s l us → IsNew l e → IsUnprepared l e → IsOfNewcomer s l e
    → ((g : Gtid) → awaited ys g ≡ acks_after (view s (Took e ∷ l)) e (awaited us) g) → AwaitedOf s (Took e ∷ l) ys
takes s l e us ys f new unprepared newcomer says = record {
  placed = placed_after l e f.placed new.place;
  each = λ c h a. by c a (in_either c (cert_of e) (certs l) h);
  none = λ g h. says g ∙ (other_after (view s (Took e ∷ l)) e (awaited us) g (none_here l e g h) ∙ ap (λ (ms : List Inc). filter (λ m. not (leaves_as e.effect e.value.what m)) (filter (λ m. not (acknowledges e.holds e.value.id.origin g m)) ms)) (f.none g (none_before l e g h)));
}
  where
    by : (c : Cert) → c.txn.after ≡ true → In c (cert_of e) ⊎ In c (certs l) → awaited ys c.gtid ≡ awaited_by s (Took e ∷ l) c
    by c a (inl k) = says c.gtid ∙ (certified_after (view s (Took e ∷ l)) e (awaited us) c k a ∙ sym (awaited_first s l e c k (λ m. unprepared c m k a)))
    by c a (inr k) =
        let q : c.place ≤ taken l = f.placed c k in
        let p : taken l < e.place = new.place in
        says c.gtid
        ∙ (other_after (view s (Took e ∷ l)) e (awaited us) c.gtid (λ d i b. gtid_other c.gtid d.gtid (new.gtid d i b c k a))
        ∙ (ap (λ (ms : List Inc). filter (λ m. not (leaves_as e.effect e.value.what m)) (filter (λ m. not (acknowledges e.holds e.value.id.origin c.gtid m)) ms)) (f.each c k a)
        ∙ sym (awaited_later s l e c (omega (arith, p, q)) (λ j w x. newcomer j c w x k a))))

-- ---- what is told

-- each of those that are required is the origin, or has prepared, or is a member no more
pub nobody_left : (origin : Inc) (prepared is_member : Inc → Bool) (ms : List Inc) → complete_by origin prepared is_member ms ≡ is_none (filter (λ m. not (inc_eq m origin || (prepared m || not (is_member m)))) ms)
nobody_left origin prepared is_member [] = refl
nobody_left origin prepared is_member (m ∷ ms) = go (inc_eq m origin || (prepared m || not (is_member m))) refl (nobody_left origin prepared is_member ms)
  where
    settled : Inc → Bool
    settled i = inc_eq i origin || (prepared i || not (is_member i))

    go : (b : Bool) → settled m ≡ b → complete_by origin prepared is_member ms ≡ is_none (filter (λ i. not (settled i)) ms)
        → complete_by origin prepared is_member (m ∷ ms) ≡ is_none (filter (λ i. not (settled i)) (m ∷ ms))
    go true e r = rw e r
    go false e r = rw e refl

pub tells_complete : (s : Setup) (l : Life) (c : Cert) (us : List Waiting) → AwaitedOf s l us → In c (certs l) → c.txn.after ≡ true → is_complete us c.gtid ≡ complete s l c
tells_complete s l c us f h a = ap is_none (f.each c h a) ∙ sym (nobody_left c.id.origin (λ m. has_prepared l m c.gtid) (is_seated (view s l)) (required s l c))

pub tells_nobody : (s : Setup) (l : Life) (g : Gtid) (us : List Waiting) → AwaitedOf s l us → HasNone l g → is_complete us g ≡ true
tells_nobody s l g us f h = ap is_none (f.none g h)

-- ---- what else happens

pub passes_awaited : (s : Setup) (l : Life) (d : Did) (us : List Waiting) → is_of_acks d ≡ false → AwaitedOf s l us → AwaitedOf s (d ∷ l) us
passes_awaited s l Founds us h f = absurd (true≢false h)
passes_awaited s l (Starts x) us h f = record { placed = f.placed; each = f.each; none = f.none }
passes_awaited s l (Came x) us h f = record { placed = f.placed; each = f.each; none = f.none }
passes_awaited s l (Made v x) us h f = record { placed = f.placed; each = f.each; none = f.none }
passes_awaited s l (Took e) us h f = absurd (true≢false h)
passes_awaited s l (Skips t v) us h f = record { placed = f.placed; each = f.each; none = f.none }
passes_awaited s l (Done q) us h f = record { placed = f.placed; each = f.each; none = f.none }
passes_awaited s l (Committed g) us h f = record { placed = f.placed; each = f.each; none = f.none }
passes_awaited s l (Is u x) us h f = record { placed = f.placed; each = f.each; none = f.none }
passes_awaited s l (Gave q n) us h f = record { placed = f.placed; each = f.each; none = f.none }
passes_awaited s l (Answered u x) us h f = record { placed = f.placed; each = f.each; none = f.none }
passes_awaited s l (Begun u x y) us h f = record { placed = f.placed; each = f.each; none = f.none }
passes_awaited s l (Changed u x) us h f = record { placed = f.placed; each = f.each; none = f.none }
passes_awaited s l (Replied x) us h f = record { placed = f.placed; each = f.each; none = f.none }
passes_awaited s l (Called u v w) us h f = record { placed = f.placed; each = f.each; none = f.none }
passes_awaited s l (AsksCommit u i) us h f = record { placed = f.placed; each = f.each; none = f.none }
passes_awaited s l (Ends u) us h f = record { placed = f.placed; each = f.each; none = f.none }
passes_awaited s l (Enters w) us h f = absurd (true≢false h)
passes_awaited s l (Restores g cs) us h f = absurd (true≢false h)
passes_awaited s l AskFails us h f = record { placed = f.placed; each = f.each; none = f.none }
