-- Who is answered where a value is decided: the one that the rules of the group answer.
use Rattle.std.proofs.Common.{◌≡◌, ℕ, Bool, true, false, Option, Some, None, List, ◌∷◌, refl, sym, ap, ◌∙◌, subst}
use Rattle.std.specs.Prelude.{option_to_list}
use Rattle.std.specs.Option.{option_map}
use Rattle.gr_ids.specs.declared.names.Gtid.{Gtid}
use Rattle.gr_ids.specs.declared.names.Inc.{Inc}
use Rattle.gr_ids.specs.declared.names.ValueId.{ValueId}
use Rattle.key_items.specs.declared.change.Change.{Change}
use Rattle.group_rules.specs.declared.answers.Answer.TheVariants.{Committed as CommittedAs, Conflict as ConflictWith}
use Rattle.group_rules.specs.Events.{Cert, Committed}
use Rattle.group_rules.specs.Member.{Member, push}
use Rattle.group_rules.specs.Points.{answer_own}
use Rattle.group_rules.specs.Queue.{is_own}
use Rattle.group_rules.specs.Taking.{on_conflict}
use Rattle.local_sessions.specs.declared.tables.Tables.{Tables}
use Rattle.local_sessions.specs.declared.told.Answered.{Answered}
use Rattle.local_sessions.specs.Acting.{tell, told_to}
use Rattle.local_sessions.specs.Others.{answered, asking}
use Rattle.local_sessions.specs.Standing.{ascend}
use Rattle.local_sessions.proofs.Deciding.{committed, conflicted}
use Rattle.member_tables.specs.declared.tables.MemberTables.{MemberTables}
use Rattle.member_tables.specs.Committing.{IsNext, IsOf, Settles, own_id}
use Rattle.member_tables.specs.Standing.{Stands, TablesFor}
use Rattle.member_tables.proofs.Decided.{tells}
use Rattle.member_tables.proofs.Settled.{settled}

pub conflicts : (a : Member) (x : MemberTables) (i : ValueId) (g : Gtid) → ascend x.sessions ≡ true → TablesFor a x → on_conflict i g a ≡ told_to (asking x.sessions i) (ConflictWith g) a
conflicts a x i g up f = conflicted x.sessions x.tables.locks a i g up f.sessions f.locks (λ s t p q. f.once.one i s t p q)

own_answers : (b : Member) (x : MemberTables) (c : Cert) → is_own b.me.inc c ≡ true → ascend x.sessions ≡ true → TablesFor b x → answer_own c b ≡ told_to (asking x.sessions c.id) (CommittedAs c.gtid) b
own_answers b x c e up f = rw (answer_own, e) (committed x.sessions x.tables.locks b c up f.sessions f.locks (λ s t p q. f.once.one c.id s t p q))

none_of : (me : Inc) (c : Cert) → None ≡ own_id me c → is_own me c ≡ false
none_of me c e = go (is_own me c) refl
  where
    go : (b : Bool) → is_own me c ≡ b → is_own me c ≡ false
    go true h = absurd (let z : None ≡ Some c.id = e ∙ rw (own_id, h) refl in cc)
    go false h = h

some_of : (me : Inc) (c : Cert) (i : ValueId) → Some i ≡ own_id me c → (is_own me c ≡ true) × (i ≡ c.id)
some_of me c i e = go (is_own me c) refl
  where
    go : (b : Bool) → is_own me c ≡ b → (is_own me c ≡ true) × (i ≡ c.id)
    go true h = let z : Some i ≡ Some c.id = e ∙ rw (own_id, h) refl in (h, cc)
    go false h = absurd (let z : Some i ≡ None = e ∙ rw (own_id, h) refl in cc)

settles_of : (me : Inc) (c : Cert) (p : ℕ) (g : Gtid) (o : Option ValueId) (xs : List Change) (at now : Tables) → IsOf me c p g o xs → Settles p g xs at now → Settles c.place c.gtid c.txn.changes at now
settles_of me c p g o xs at now k z =
    subst (λ q. Settles q c.gtid c.txn.changes at now) k.at
    (subst (λ h. Settles p h c.txn.changes at now) k.named (subst (λ ys. Settles p g ys at now) k.writes z))

-- one of another origin
pub other_commit : (a : Member) (x : MemberTables) (at : Tables) (c : Cert) (p : ℕ) (g : Gtid) (xs : List Change) → Settles p g xs x.tables at → IsNext a.life c → IsOf a.me.inc c p g None xs → TablesFor a x
    → (answer_own c (push (Committed c.gtid) a) ≡ push (Committed c.gtid) a) × TablesFor (answer_own c (push (Committed c.gtid) a)) (record x { tables = at })
other_commit a x at c p g xs z n k f =
    let b : Member = push (Committed c.gtid) a in
    let same : answer_own c b ≡ b = rw (answer_own, none_of a.me.inc c k.sent) refl in
    let s : Stands a.setup a.me.inc (Committed c.gtid ∷ a.life) (record x { tables = at }) = settled a.setup a.me.inc a.life c x at n (settles_of a.me.inc c p g None xs x.tables at k z) f in
    (same, subst (λ (m : Member). TablesFor m (record x { tables = at })) (sym same) s)

-- an own one
pub own_commit : (a : Member) (x : MemberTables) (at : Tables) (y : MemberTables) (c : Cert) (p : ℕ) (g : Gtid) (i : ValueId) (xs : List Change) (r : Option Answered) → ascend x.sessions ≡ true → Settles p g xs x.tables at
    → r ≡ option_map (answered (CommittedAs g)) (asking x.sessions i) → ((b : Member) → TablesFor b (record x { tables = at }) → TablesFor (told_to (asking x.sessions i) (CommittedAs g) b) y)
    → IsNext a.life c → IsOf a.me.inc c p g (Some i) xs → TablesFor a x
    → (answer_own c (push (Committed c.gtid) a) ≡ tell (option_to_list r) (push (Committed c.gtid) a)) × TablesFor (answer_own c (push (Committed c.gtid) a)) y
own_commit a x at y c p g i xs r up z er d n k f =
    let b : Member = push (Committed c.gtid) a in
    let mid : MemberTables = record x { tables = at } in
    let s : TablesFor b mid = settled a.setup a.me.inc a.life c x at n (settles_of a.me.inc c p g (Some i) xs x.tables at k z) f in
    let o : (is_own a.me.inc c ≡ true) × (i ≡ c.id) = some_of a.me.inc c i k.sent in
    let same : answer_own c b ≡ told_to (asking x.sessions i) (CommittedAs g) b =
    own_answers b mid c o.0 up s
    ∙ (ap (λ j. told_to (asking x.sessions j) (CommittedAs c.gtid) b) (sym o.1) ∙ ap (λ h. told_to (asking x.sessions i) (CommittedAs h) b) (sym k.named)) in
    (same ∙ (tells b (CommittedAs g) (asking x.sessions i) ∙ ap (λ q. tell (option_to_list q) b) (sym er)), subst (λ (m : Member). TablesFor m y) (sym same) (d b s))
