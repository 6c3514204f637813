-- What a begin waits for is what the rules read from the history.
use Rattle.std.proofs.Common.{◌≡◌, ℕ, Bool, true, false, ◌&&◌, ◌||◌, Option, List, [], ◌∷◌, map, refl, sym, ap, ◌∙◌, true≢false}
use Rattle.std.specs.Prelude.{filter}
use Rattle.std.specs.List.{list_all}
use Rattle.gr_ids.specs.declared.levels.Level.{Level}
use Rattle.gr_ids.specs.declared.levels.MemberState.{MemberState}
use Rattle.gr_ids.specs.declared.levels.MemberState.TheVariants.{Offline, Recovering, Online, Error}
use Rattle.gr_ids.specs.declared.names.Gtid.{Gtid}
use Rattle.gr_ids.specs.declared.names.Inc.{Inc}
use Rattle.gr_ids.specs.declared.names.ValueId.{ValueId}
use Rattle.gr_ids.specs.Names.{inc_eq}
use Rattle.group_rules.specs.declared.holds.Conditions.{Conditions}
use Rattle.group_rules.specs.Commit.{is_prepared}
use Rattle.group_rules.specs.Events.{Cert, Life, Setup}
use Rattle.group_rules.specs.Holds.{after_then, conditions, elected_in, elected_then, online_then, sync_then}
use Rattle.group_rules.specs.Life.{certs, is_error, is_recovering, is_up, last_made, online_place, state}
use Rattle.group_rules.specs.Queue.{pending}
use Rattle.group_rules.specs.View.{View}
use Rattle.apply_queue.specs.Queues.{shown}
use Rattle.consistency_waits.specs.declared.calling.AtCall.{AtCall}
use Rattle.consistency_waits.specs.Calling.{after_by, conditions_by, elected_by, online_by, sync_by}
use Rattle.member_backlog.specs.declared.uncommitted.Uncommitted.{Uncommitted}
use Rattle.member_backlog.specs.Standing.{uncommitted_of}
use Rattle.member_backlog.specs.Waiting.{after_below, is_below}
use Rattle.member_parts.specs.declared.parts.MemberParts.{MemberParts}
use Rattle.member_parts.specs.Committing.{are_done_to}
use Rattle.member_parts.specs.Standing.{StandsFor}
use Rattle.member_parts.proofs.Told.{prepared_tells, settled_to}

-- ---- the AFTER transactions that are prepared

chosen : (p : Uncommitted → Bool) (q : Cert → Bool) (cs : List Cert) → ((c : Cert) → p (uncommitted_of c) ≡ q c) → map (λ (u : Uncommitted). u.gtid) (filter p (map uncommitted_of cs)) ≡ map (λ (c : Cert). c.gtid) (filter q cs)
chosen p q [] h = refl
chosen p q (c ∷ cs) h = go (q c) refl (chosen p q cs h)
  where
    go : (b : Bool) → q c ≡ b → map (λ (u : Uncommitted). u.gtid) (filter p (map uncommitted_of cs)) ≡ map (λ (d : Cert). d.gtid) (filter q cs)
        → map (λ (u : Uncommitted). u.gtid) (filter p (map uncommitted_of (c ∷ cs))) ≡ map (λ (d : Cert). d.gtid) (filter q (c ∷ cs))
    go true e r = let k : p (uncommitted_of c) ≡ true = h c ∙ e in rw (k, e) (ap (λ (gs : List Gtid). c.gtid ∷ gs) r)
    go false e r = let k : p (uncommitted_of c) ≡ false = h c ∙ e in rw (k, e) r

own_or : (own x y : Bool) → x ≡ y → (own || x) ≡ (elim own [ true ↦ true | false ↦ y ])
own_or true x y e = refl
own_or false x y e = e

-- the places up to which all is done are those below this one
abbrev pub IsUndone : Option ℕ → MemberParts → Type 0
IsUndone b x = (p : ℕ) → are_done_to p (map shown x.remotes.queue) ≡ is_below b p

prepared_is : (s : Setup) (me : Inc) (l : Life) (c : Cert) (b : Option ℕ) (x : MemberParts) → IsUndone b x → is_error (state l) ≡ false → StandsFor s me l x → (inc_eq c.id.origin me || is_below b c.place) ≡ is_prepared l me c
prepared_is s me l c b x h w f = own_or (inc_eq c.id.origin me) (is_below b c.place) (list_all (settled_to l me c.place) (certs l)) (sym (h c.place) ∙ prepared_tells s me l c.place x w f)

is_well : (t : MemberState) → (is_up t || is_recovering t) ≡ true → is_error t ≡ false
is_well Offline e = refl
is_well Recovering e = refl
is_well Online e = refl
is_well Error e = absurd (true≢false (sym e))

after_is : (s : Setup) (me : Inc) (l : Life) (b : Option ℕ) (x : MemberParts) → IsUndone b x → StandsFor s me l x → after_by (state l) (after_below me b x.backlog) ≡ after_then me l
after_is s me l b x h f = go (is_up (state l) || is_recovering (state l)) refl
  where
    go : (t : Bool) → (is_up (state l) || is_recovering (state l)) ≡ t
        → elim t as (λ (u : Bool). List Gtid) [ false ↦ [] | true ↦ after_below me b x.backlog ]
        ≡ elim t as (λ (u : Bool). List Gtid) [ false ↦ [] | true ↦ map {A = Cert} (λ c. c.gtid) (filter (λ c. c.txn.after && is_prepared l me c) (pending l)) ]
    go false e = refl
    go true e =
        ap (after_below me b) f.backlog.waiting
        ∙ chosen (λ (u : Uncommitted). u.after && (inc_eq u.id.origin me || is_below b u.place)) (λ (c : Cert). c.txn.after && is_prepared l me c) (pending l)
        (λ c. ap (λ (t : Bool). c.txn.after && t) (prepared_is s me l c b x h (is_well (state l) e) f))

-- ---- the conditions

-- what is known is read from the parts and the history
pub record IsRead (me : Inc) (l : Life) (b : Option ℕ) (x : MemberParts) (k : AtCall) : Type 0 where
  pub at : k.state ≡ state l
  pub number : k.last ≡ last_made l
  pub entry : k.online ≡ online_place l me
  pub waits : k.after ≡ after_below me b x.backlog
  pub primary : k.elected ≡ elected_in x.list.view me

pub conditions_are : (s : Setup) (me : Inc) (v : Level) (l : Life) (b : Option ℕ) (x : MemberParts) (k : AtCall) → IsRead me l b x k → IsUndone b x → StandsFor s me l x → conditions_by me v k ≡ conditions s me v l
conditions_are s me v l b x k r h f =
    let after : after_by k.state k.after ≡ after_then me l = ap (λ (z : MemberState). after_by z k.after) r.at ∙ (ap (after_by (state l)) r.waits ∙ after_is s me l b x h f) in
    let sync : sync_by me v k.last ≡ sync_then me v l = ap (sync_by me v) r.number in
    let elected : elected_by v k.state k.elected ≡ elected_then s me v l =
    ap (λ (z : MemberState). elected_by v z k.elected) r.at ∙ ap (elected_by v (state l)) (r.primary ∙ ap (λ (w : View). elected_in w me) f.list.view) in
    let online : online_by k.state k.online ≡ online_then me l = ap (λ (z : MemberState). online_by z k.online) r.at ∙ ap (online_by (state l)) r.entry in
    same (conditions_by me v k) after sync elected online
  where
    same : (c : Conditions) → c.after ≡ after_then me l → c.sync ≡ sync_then me v l → c.elected ≡ elected_then s me v l → c.online ≡ online_then me l → c ≡ conditions s me v l
    same c p q e z =
        ap (λ (gs : List Gtid). let y : Conditions = record { after = gs; sync = c.sync; elected = c.elected; online = c.online } in y) p
        ∙ (ap (λ (i : Option ValueId). let y : Conditions = record { after = after_then me l; sync = i; elected = c.elected; online = c.online } in y) q
        ∙ (ap (λ (g : Option ℕ). let y : Conditions = record { after = after_then me l; sync = sync_then me v l; elected = g; online = c.online } in y) e
        ∙ ap (λ (g : Option ℕ). let y : Conditions = record { after = after_then me l; sync = sync_then me v l; elected = elected_then s me v l; online = g } in y) z))
