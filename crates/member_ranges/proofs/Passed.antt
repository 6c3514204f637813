-- What happens besides, what the node does, and states, keep a member in range.
use Rattle.std.proofs.Common.{◌≡◌, Bool, true, false, ◌||◌, ◌&&◌, Option, Some, None, List, ◌∷◌, refl, sym, ap, subst, ◌∙◌, ℕ, []}
use Rattle.std.proofs.lemmas.Bool.{false≢true}
use Rattle.gr_ids.specs.declared.levels.MemberState.{MemberState}
use Rattle.gr_ids.specs.declared.levels.MemberState.TheVariants.{Offline, Recovering, Online, Error}
use Rattle.slot_values.specs.Log.{Reading}
use Rattle.paxos_forms.specs.Gives.{IsGive}
use Rattle.paxos_forms.specs.declared.message.Message.{Message}
use Rattle.paxos_forms.specs.declared.recovery.Give.{Give}
use Rattle.node_rules.specs.Node.{Node}
use Rattle.node_rules.specs.Step.{node_step}
use Rattle.node_rules.specs.declared.event.PaxosEvent.{PaxosEvent}
use Rattle.paxos_ranges.specs.Ranges.{IsGiven, IsInRange}
use Rattle.paxos_ranges.proofs.Rows.{step_in_range}
use Rattle.group_rules.specs.declared.marks.Cause.{Cause}
use Rattle.group_rules.specs.Events.{AskFails, AsksCommit, Answered, Begun, Called, Calls, Came, Cert, Changed, Committed, Did, Done, Ends, Enters, Founds, Gave, Hears, Is, Life, Made, Operates, Replied, Restores, Skips, Starts, Ticks, Took, Works}
use Rattle.group_rules.specs.Life.{certs, entered, entry_at, has_give, is_error, is_offline, is_recovering, is_up, state, taken, view}
use Rattle.group_rules.specs.Member.{Member, at_node, push}
use Rattle.group_rules.specs.Queue.{is_done}
use Rattle.group_rules.specs.World.{committed_of}
use Rattle.gr_ids.specs.declared.names.Gtid.{Gtid}
use Rattle.group_rules.specs.Recovery.{add_place, certs_given}
use Rattle.group_rules.specs.Taking.{takes_slots}
use Rattle.member_ranges.specs.Hearing.{is_welcome}
use Rattle.member_ranges.specs.Lives.{IsFitting}
use Rattle.member_ranges.specs.Ranges.{InRange, IsUntouched, IsWaiting, Shows, is_of_range, is_outside}
use Rattle.member_ranges.proofs.Steps.{Logged, Same, reading_by, step_logged, step_same, turns_of, unread}

-- ---- the node

-- the same log at a later node
pub moved : (n : Node) (ms : List Message) (a : Member) → Same a.node n → IsInRange n → Logged n → InRange a → InRange (record a { node = n; sent = ms })
moved n ms a s r l k = record {
  setup = k.setup;
  joiner = k.joiner;
  contact = k.contact;
  me = s.me ∙ k.me;
  horizon = s.horizon ∙ k.horizon;
  node = r;
  log = l;
  shown = λ e w h. let o = turns_of a.node.turns w.reading (sym s.reading ∙ ap reading_by h) in subst (λ (z : Reading). Shows (taken a.life) (view a.setup a.life) z) o.2 (k.shown e o.0 o.1);
  outside = λ h. k.outside (unread a.node.turns (sym s.reading ∙ ap reading_by h));
  offline = λ h. unread n.turns (s.reading ∙ ap reading_by (k.offline h));
  before = k.before;
  welcomed = k.welcomed;
  waits = k.waits;
  life = k.life;
}

pub steps : (e : PaxosEvent) (a : Member) → is_welcome e ≡ false → IsGiven e → InRange a → InRange (at_node e a)
steps e a h g k = moved (node_step e a.node).node (at_node e a).sent a (step_same e a.node h) (step_in_range e a.node g k.node) (step_logged e a.node h k.log) k

pub sends_others : (ms : List Message) (a : Member) → InRange a → InRange (record a { sent = ms })
sends_others ms a k = moved a.node ms a (record { me = refl; horizon = refl; reading = refl }) k.node k.log k

-- ---- what happens

-- whatever leaves what was taken, certified, done and committed
pub record IsTouchless (d : Did) (l : Life) : Type 0 where
  pub certified : certs (d ∷ l) ≡ certs l
  pub taken : (p : ℕ) → entry_at (d ∷ l) p ≡ entry_at l p
  pub done : (p : ℕ) → is_done (d ∷ l) p ≡ is_done l p
  pub committed : (cs : List Cert) → committed_of (d ∷ l) cs ≡ committed_of l cs

pub untouched : (d : Did) (l : Life) → IsTouchless d l → IsUntouched l → IsUntouched (d ∷ l)
untouched d l t u = record { certified = t.certified ∙ u.certified; untaken = λ p. t.taken p ∙ u.untaken p; undone = λ p. t.done p ∙ u.undone p; uncommitted = λ cs. t.committed cs ∙ u.uncommitted cs }

-- whatever leaves the state, the view, the place and how it joined
passes : (d : Did) (a : Member) → (IsUntouched a.life → IsUntouched (d ∷ a.life)) → state (d ∷ a.life) ≡ state a.life → view a.setup (d ∷ a.life) ≡ view a.setup a.life → taken (d ∷ a.life) ≡ taken a.life
    → entered (d ∷ a.life) ≡ entered a.life → has_give (d ∷ a.life) ≡ has_give a.life → IsFitting a.setup d a.life → InRange a → InRange (push d a)
passes d a n s v t e g f k = record {
  setup = k.setup;
  joiner = k.joiner;
  contact = k.contact;
  me = k.me;
  horizon = k.horizon;
  node = k.node;
  log = k.log;
  shown = λ q w h. subst (λ z. Shows (taken (d ∷ a.life)) z w.reading) (sym v) (subst (λ p. Shows p (view a.setup a.life) w.reading) (sym t) (k.shown (sym (ap is_error s) ∙ q) w h));
  outside = λ h. ap is_outside s ∙ k.outside h;
  offline = λ h. k.offline (sym (ap is_offline s) ∙ h);
  before = λ h. let z = k.before (sym (ap is_offline s) ∙ h) in (t ∙ z.0, n z.1);
  welcomed = λ h. let z = k.welcomed (sym (ap is_recovering s) ∙ h) in (z.0, e ∙ z.1, z.2);
  waits = λ q w h. let z = k.waits (sym g ∙ q) w (sym e ∙ h) in (subst (λ y. IsWaiting (taken (d ∷ a.life)) y w) (sym s) (subst (λ p. IsWaiting p (state a.life) w) (sym t) z.0), n z.1);
  life = (f, k.life);
}

fails : (c : Cause) (a : Member) → InRange a → InRange (push (Is Error c) a)
fails c a k = record {
  setup = k.setup;
  joiner = k.joiner;
  contact = k.contact;
  me = k.me;
  horizon = k.horizon;
  node = k.node;
  log = k.log;
  shown = λ q w h. absurd (false≢true (sym q));
  outside = λ h. refl;
  offline = λ h. absurd (false≢true h);
  before = λ h. absurd (false≢true h);
  welcomed = λ h. absurd (false≢true h);
  waits = λ q w h. let z = k.waits q w h in (record { place = (z.0).place; down = refl }, untouched (Is Error c) a.life (record { certified = refl; taken = λ p. refl; done = λ p. refl; committed = λ cs. refl }) z.1);
  life = (tt, k.life);
}

stated : (s : MemberState) (c : Cause) (a : Member) → is_of_range (Is s c) ≡ false → InRange a → InRange (push (Is s c) a)
stated Error c a h k = fails c a k
stated Offline c a h k = absurd (false≢true (sym h))
stated Recovering c a h k = absurd (false≢true (sym h))
stated Online c a h k = absurd (false≢true (sym h))

pub passed : (d : Did) (a : Member) → is_of_range d ≡ false → InRange a → InRange (push d a)
passed Founds a h k = absurd (false≢true (sym h))
passed (Starts x) a h k = absurd (false≢true (sym h))
passed (Took e) a h k = absurd (false≢true (sym h))
passed (Enters w) a h k = absurd (false≢true (sym h))
passed (Restores g cs) a h k = absurd (false≢true (sym h))
passed (Done p) a h k = absurd (false≢true (sym h))
passed (Committed g) a h k = absurd (false≢true (sym h))
passed (Is s c) a h k = stated s c a h k
passed (Came (Hears m)) a h k = passes (Came (Hears m)) a (untouched (Came (Hears m)) a.life (record { certified = refl; taken = λ p'. refl; done = λ p'. refl; committed = λ cs'. refl })) refl refl refl refl refl tt k
passed (Came Ticks) a h k = passes (Came Ticks) a (untouched (Came Ticks) a.life (record { certified = refl; taken = λ p'. refl; done = λ p'. refl; committed = λ cs'. refl })) refl refl refl refl refl tt k
passed (Came (Works p b)) a h k = passes (Came (Works p b)) a (untouched (Came (Works p b)) a.life (record { certified = refl; taken = λ p'. refl; done = λ p'. refl; committed = λ cs'. refl })) refl refl refl refl refl tt k
passed (Came (Calls s r)) a h k = passes (Came (Calls s r)) a (untouched (Came (Calls s r)) a.life (record { certified = refl; taken = λ p'. refl; done = λ p'. refl; committed = λ cs'. refl })) refl refl refl refl refl tt k
passed (Came (Operates o)) a h k = passes (Came (Operates o)) a (untouched (Came (Operates o)) a.life (record { certified = refl; taken = λ p'. refl; done = λ p'. refl; committed = λ cs'. refl })) refl refl refl refl refl tt k
passed (Made v x) a h k = passes (Made v x) a (untouched (Made v x) a.life (record { certified = refl; taken = λ p'. refl; done = λ p'. refl; committed = λ cs'. refl })) refl refl refl refl refl tt k
passed (Skips t v) a h k = passes (Skips t v) a (untouched (Skips t v) a.life (record { certified = refl; taken = λ p'. refl; done = λ p'. refl; committed = λ cs'. refl })) refl refl refl refl refl tt k
passed (Gave p n) a h k = passes (Gave p n) a (untouched (Gave p n) a.life (record { certified = refl; taken = λ p'. refl; done = λ p'. refl; committed = λ cs'. refl })) refl refl refl refl refl tt k
passed (Answered s x) a h k = passes (Answered s x) a (untouched (Answered s x) a.life (record { certified = refl; taken = λ p'. refl; done = λ p'. refl; committed = λ cs'. refl })) refl refl refl refl refl tt k
passed (Begun s e y) a h k = passes (Begun s e y) a (untouched (Begun s e y) a.life (record { certified = refl; taken = λ p'. refl; done = λ p'. refl; committed = λ cs'. refl })) refl refl refl refl refl tt k
passed (Changed s y) a h k = passes (Changed s y) a (untouched (Changed s y) a.life (record { certified = refl; taken = λ p'. refl; done = λ p'. refl; committed = λ cs'. refl })) refl refl refl refl refl tt k
passed (Replied r) a h k = passes (Replied r) a (untouched (Replied r) a.life (record { certified = refl; taken = λ p'. refl; done = λ p'. refl; committed = λ cs'. refl })) refl refl refl refl refl tt k
passed (Called s v y) a h k = passes (Called s v y) a (untouched (Called s v y) a.life (record { certified = refl; taken = λ p'. refl; done = λ p'. refl; committed = λ cs'. refl })) refl refl refl refl refl tt k
passed (AsksCommit s i) a h k = passes (AsksCommit s i) a (untouched (AsksCommit s i) a.life (record { certified = refl; taken = λ p'. refl; done = λ p'. refl; committed = λ cs'. refl })) refl refl refl refl refl tt k
passed (Ends s) a h k = passes (Ends s) a (untouched (Ends s) a.life (record { certified = refl; taken = λ p'. refl; done = λ p'. refl; committed = λ cs'. refl })) refl refl refl refl refl tt k
passed AskFails a h k = passes AskFails a (untouched AskFails a.life (record { certified = refl; taken = λ p'. refl; done = λ p'. refl; committed = λ cs'. refl })) refl refl refl refl refl tt k

-- ---- work

-- what is done or committed was certified
touched : (d : Did) (l : Life) → (certs l ≡ [] → ⊥) → IsUntouched l → IsUntouched (d ∷ l)
touched d l n u = absurd (n u.certified)

pub done_in_range : (p : ℕ) (a : Member) → (certs a.life ≡ [] → ⊥) → InRange a → InRange (push (Done p) a)
done_in_range p a n k = passes (Done p) a (touched (Done p) a.life n) refl refl refl refl refl tt k

pub committed_in_range : (g : Gtid) (a : Member) → (certs a.life ≡ [] → ⊥) → InRange a → InRange (push (Committed g) a)
committed_in_range g a n k = passes (Committed g) a (touched (Committed g) a.life n) refl refl refl refl refl tt k

-- ---- ONLINE

-- one that takes slots isn't OFFLINE or in ERROR, and has its Give if it is RECOVERING
pub ready : (s : MemberState) (b : Bool) → (is_up s || (is_recovering s && b)) ≡ true → (is_error s ≡ false) × (is_outside s ≡ false) × (is_up s ≡ false → b ≡ true)
ready Online b h = (refl, refl, λ e. absurd (false≢true (sym e)))
ready Recovering b h = (refl, refl, λ e. h)
ready Offline b h = absurd (false≢true h)
ready Error b h = absurd (false≢true h)

some_not_none : {A : Type 0} (o : Option A) (x : A) → o ≡ Some x → o ≡ None → ⊥
some_not_none o x e f = absurd (cc (sym e ∙ f))

pub arrives : (c : Cause) (a : Member) → takes_slots a.life ≡ true → InRange a → InRange (push (Is Online c) a)
arrives c a h k =
    let r = ready (state a.life) (has_give a.life) h in
    record {
      setup = k.setup;
      joiner = k.joiner;
      contact = k.contact;
      me = k.me;
      horizon = k.horizon;
      node = k.node;
      log = k.log;
      shown = λ q w z. k.shown r.0 w z;
      outside = λ z. absurd (false≢true (sym r.1 ∙ k.outside z));
      offline = λ z. absurd (false≢true z);
      before = λ z. absurd (false≢true z);
      welcomed = λ z. absurd (false≢true z);
      waits = λ q w z. absurd (false≢true (sym q ∙ r.2 ((k.waits q w z).0).down));
      life = (tt, k.life);
    }

-- ---- a Give

both_stages : (s : MemberState) → is_recovering s ≡ true → is_offline s ≡ true → ⊥
both_stages Offline x y = absurd (false≢true x)
both_stages Recovering x y = absurd (false≢true y)
both_stages Online x y = absurd (false≢true x)
both_stages Error x y = absurd (false≢true x)

pub restored : (g : Give) (cs : List Cert) (a : Member) → IsGive g → g.place ≡ add_place (entered a.life) → cs ≡ certs_given g.txns
    → is_recovering (state a.life) ≡ true → has_give a.life ≡ false → InRange a → InRange (push (Restores g cs) a)
restored g cs a i p c r n k =
    let w = k.welcomed r in
    record {
      setup = k.setup;
      joiner = k.joiner;
      contact = k.contact;
      me = k.me;
      horizon = k.horizon;
      node = k.node;
      log = k.log;
      shown = k.shown;
      outside = k.outside;
      offline = k.offline;
      before = λ z. absurd (both_stages (state a.life) r z);
      welcomed = k.welcomed;
      waits = λ q u z. absurd (false≢true (sym q));
      life = (record { give = i; place = p ∙ (ap add_place w.1 ∙ sym ((k.waits n w.0 w.1).0).place); certs = c }, k.life);
    }
