-- Each value is waited for by one session at most, whatever happens.
use Rattle.std.proofs.Common.{◌≡◌, ◌≤◌, ◌<◌, ℕ, zero, suc, ◌+◌, ◌-◌, ◌/◌, Bool, true, false, Option, Some, List, [], ◌∷◌, drop, length, refl, sym, ap, ◌∙◌, arith}
use Rattle.std.specs.Prelude.{◌==◌, nat_le}
use Rattle.std.proofs.lemmas.Bool.{and_parts, eqb-true, eq-eqb, true≢false, leb-false}
use Rattle.std.proofs.lemmas.Nat.{le-div}
use Rattle.gr_ids.specs.Names.{id_eq, inc_eq}
use Rattle.gr_ids.specs.declared.levels.Level.{Level}
use Rattle.gr_ids.specs.declared.levels.MemberState.TheVariants.{Error, Offline, Online, Recovering}
use Rattle.gr_ids.specs.declared.names.ValueId.{ValueId}
use Rattle.gtid_sets.specs.Sets.{Gtids}
use Rattle.name_forms.specs.OpenParts.{part_size}
use Rattle.slot_values.specs.declared.value.What.{What}
use Rattle.slot_values.specs.declared.value.What.TheVariants.{Body as Says}
use Rattle.txn_forms.specs.declared.body.Body.{Body}
use Rattle.txn_forms.specs.declared.body.Body.TheVariants.{Txn as Writes, Part as PartOf, Sync}
use Rattle.txn_forms.specs.declared.body.Part.{Part}
use Rattle.txn_forms.specs.declared.body.Txn.{Txn}
use Rattle.txn_forms.specs.Bodies.{body_bytes}
use Rattle.txn_forms.specs.Parts.{whole_bytes}
use Rattle.group_rules.specs.declared.answers.Answer.{Answer}
use Rattle.group_rules.specs.declared.answers.Answer.TheVariants.{Sent}
use Rattle.group_rules.specs.declared.requests.Request.{Request}
use Rattle.group_rules.specs.declared.requests.Request.TheVariants.{Begin, Get, Insert, Update, Delete, Commit, Rollback}
use Rattle.group_rules.specs.Events.{AskFails, AsksCommit, Answered, Begun, Called, Came, Changed, Committed, Did, Done, Ends, Enters, Founds, Gave, Is, Life, Made, Replied, Restores, Skips, Starts, Took}
use Rattle.group_rules.specs.Holds.{has_sync}
use Rattle.group_rules.specs.Life.{last_made}
use Rattle.group_rules.specs.Parts.{cut, cut_from}
use Rattle.group_rules.specs.Calls.{own_part, send_sync, send_txn, txn_of as txn_in}
use Rattle.group_rules.specs.Member.{Member, for_each, next_id, own, push}
use Rattle.group_rules.specs.Sessions.{phase}
use Rattle.local_sessions.specs.declared.commit_step.CommitStep.{CommitStep}
use Rattle.local_sessions.specs.declared.commit_step.CommitStep.TheVariants.{Said, Ready}
use Rattle.local_sessions.specs.Replies.{Asks, Deed, Ends as EndsIt, Holds, Nothing, Reply, Writing}
use Rattle.local_sessions.specs.Following.{AsksOnce, asks_as, touches}
use Rattle.local_sessions.specs.Acting.{after_reply, done_by, held_by}
use Rattle.local_sessions.proofs.KeyHolders.{split}

-- ---- those that wait, each for a value up to this number

record Below (n : ℕ) (l : Life) : Type 0 where
  one : (i : ValueId) (s t : ℕ) → asks_as i (phase l s) ≡ true → asks_as i (phase l t) ≡ true → t ≡ s
  made : (i : ValueId) (s : ℕ) → asks_as i (phase l s) ≡ true → i.number ≤ n

-- nobody more waits
kept : (n : ℕ) (l m : Life) → ((i : ValueId) (s : ℕ) → asks_as i (phase m s) ≡ true → asks_as i (phase l s) ≡ true) → Below n l → Below n m
kept n l m e o = record { one = λ i s t h k. o.one i s t (e i s h) (e i t k); made = λ i s h. o.made i s (e i s h) }

opens : (l : Life) → AsksOnce l → Below (last_made l) l
opens l o = record { one = o.one; made = o.made }

closes : (n : ℕ) (l : Life) → n ≤ last_made l → Below n l → AsksOnce l
closes n l h o = record { one = o.one; made = λ i s k. let b = o.made i s k in omega (arith, h, b) }

fewer : (l m : Life) → ((i : ValueId) (s : ℕ) → asks_as i (phase m s) ≡ true → asks_as i (phase l s) ≡ true) → last_made l ≤ last_made m → AsksOnce l → AsksOnce m
fewer l m e n o = closes (last_made l) m n (kept (last_made l) l m e (opens l o))

-- ---- one thing more

pub none : AsksOnce []
none = record { one = λ i s t h k. absurd (true≢false (sym h)); made = λ i s h. absurd (true≢false (sym h)) }

pub passed : (l : Life) (d : Did) → touches d ≡ false → last_made l ≤ last_made (d ∷ l) → AsksOnce l → AsksOnce (d ∷ l)
passed l Founds h n o = fewer l (Founds ∷ l) (λ i s f. f) n o
passed l (Starts d) h n o = fewer l (Starts d ∷ l) (λ i s f. f) n o
passed l (Came e) h n o = fewer l (Came e ∷ l) (λ i s f. f) n o
passed l (Made v b) h n o = fewer l (Made v b ∷ l) (λ i s f. f) n o
passed l (Took e) h n o = fewer l (Took e ∷ l) (λ i s f. f) n o
passed l (Skips t v) h n o = fewer l (Skips t v ∷ l) (λ i s f. f) n o
passed l (Done p) h n o = absurd (true≢false h)
passed l (Committed g) h n o = fewer l (Committed g ∷ l) (λ i s f. f) n o
passed l (Is Offline c) h n o = fewer l (Is Offline c ∷ l) (λ i s f. f) n o
passed l (Is Recovering c) h n o = fewer l (Is Recovering c ∷ l) (λ i s f. f) n o
passed l (Is Online c) h n o = fewer l (Is Online c ∷ l) (λ i s f. f) n o
passed l (Is Error c) h n o = absurd (true≢false h)
passed l (Gave p k) h n o = fewer l (Gave p k ∷ l) (λ i s f. f) n o
passed l (Answered t x) h n o = fewer l (Answered t x ∷ l) (λ i s f. f) n o
passed l (Begun t e y) h n o = absurd (true≢false h)
passed l (Changed t c) h n o = absurd (true≢false h)
passed l (Replied r) h n o = fewer l (Replied r ∷ l) (λ i s f. f) n o
passed l (Called t v w) h n o = absurd (true≢false h)
passed l (AsksCommit t i) h n o = absurd (true≢false h)
passed l (Ends t) h n o = absurd (true≢false h)
passed l (Enters w) h n o = fewer l (Enters w ∷ l) (λ i s f. f) n o
passed l (Restores g cs) h n o = fewer l (Restores g cs ∷ l) (λ i s f. f) n o
passed l AskFails h n o = fewer l (AskFails ∷ l) (λ i s f. f) n o

pub called : (l : Life) (s : ℕ) (v : Level) (w : ℕ) → AsksOnce l → AsksOnce (Called s v w ∷ l)
called l s v w o = fewer l (Called s v w ∷ l) (λ i t. split s t (λ u. asks_as i (phase (Called s v w ∷ l) u) ≡ true → asks_as i (phase l u) ≡ true) (λ h. absurd (true≢false (sym h ∙ rw (phase, eq-eqb s s refl) refl))) (λ n h. rw (phase, n) at h)) (omega arith) o

pub begun : (l : Life) (s : ℕ) (e : Gtids) (y : Option ℕ) → AsksOnce l → AsksOnce (Begun s e y ∷ l)
begun l s e y o = fewer l (Begun s e y ∷ l) (λ i t. split s t (λ u. asks_as i (phase (Begun s e y ∷ l) u) ≡ true → asks_as i (phase l u) ≡ true) (λ h. absurd (true≢false (sym h ∙ rw (phase, eq-eqb s s refl) refl))) (λ n h. rw (phase, n) at h)) (omega arith) o

pub ended : (l : Life) (s : ℕ) → AsksOnce l → AsksOnce (Ends s ∷ l)
ended l s o = fewer l (Ends s ∷ l) (λ i t. split s t (λ u. asks_as i (phase (Ends s ∷ l) u) ≡ true → asks_as i (phase l u) ≡ true) (λ h. absurd (true≢false (sym h ∙ rw (phase, eq-eqb s s refl) refl))) (λ n h. rw (phase, n) at h)) (omega arith) o

-- its history says the same of phases and numbers
pub alike : (l m : Life) → ((s : ℕ) → phase m s ≡ phase l s) → last_made m ≡ last_made l → AsksOnce l → AsksOnce m
alike l m e n o = fewer l m (λ i s h. ap (asks_as i) (sym (e s)) ∙ h) (omega (arith, n)) o

-- ---- a commit is asked

asked : (n : ℕ) (l : Life) (s : ℕ) (i : ValueId) → n < i.number → Below n l → Below i.number (AsksCommit s i ∷ l)
asked n l s i more o = record { one = λ j u v h k. one j u v (s == u) (s == v) refl refl h k; made = λ j u h. made j u (s == u) refl h }
  where
    same : (j : ValueId) → id_eq i j ≡ true → i.number ≡ j.number
    same j h = eqb-true i.number j.number (and_parts (inc_eq i.origin j.origin) (i.number == j.number) h).1

    mine : (j : ValueId) (u : ℕ) → (s == u) ≡ true → asks_as j (phase (AsksCommit s i ∷ l) u) ≡ true → i.number ≡ j.number
    mine j u e h = same j (rw (phase, e) at h)

    theirs : (j : ValueId) (u : ℕ) → (s == u) ≡ false → asks_as j (phase (AsksCommit s i ∷ l) u) ≡ true → asks_as j (phase l u) ≡ true
    theirs j u e h = rw (phase, e) at h

    made : (j : ValueId) (u : ℕ) (b : Bool) → (s == u) ≡ b → asks_as j (phase (AsksCommit s i ∷ l) u) ≡ true → j.number ≤ i.number
    made j u true e h = let q = mine j u e h in omega (arith, q)
    made j u false e h = let q = o.made j u (theirs j u e h) in omega (arith, q, more)

    one : (j : ValueId) (u v : ℕ) (b d : Bool) → (s == u) ≡ b → (s == v) ≡ d → asks_as j (phase (AsksCommit s i ∷ l) u) ≡ true → asks_as j (phase (AsksCommit s i ∷ l) v) ≡ true → v ≡ u
    one j u v true true e f h k = sym (eqb-true s v f) ∙ eqb-true s u e
    one j u v true false e f h k = absurd (let q = mine j u e h in let p = o.made j v (theirs j v f k) in omega (arith, q, p, more))
    one j u v false true e f h k = absurd (let q = mine j v f k in let p = o.made j u (theirs j u e h) in omega (arith, q, p, more))
    one j u v false false e f h k = o.one j u v (theirs j u e h) (theirs j v f k)

-- ---- its values are made

owned : (n : ℕ) (w : What) (h : Option Body) (m : Member) → Below n m.life → Below n (own w h m).life
owned n w h m o = kept n m.life (Made (record { id = next_id m; what = w }) h ∷ m.life) (λ i s f. f) o

parts : (n : ℕ) (t : Txn) (ps : List Part) (m : Member) → Below n m.life → Below n (for_each (own_part t) ps m).life
parts n t [] m o = o
parts n t (p ∷ ps) m o = parts n t ps (own_part t p m) (owned n (Says (body_bytes (PartOf p))) (Some (elim (p.index == p.count) [ true ↦ Writes t | false ↦ PartOf p ])) m o)

pub last_part : (t : Txn) (ps : List Part) (m : Member) → last_made (for_each (own_part t) ps m).life ≡ last_made m.life + length ps
last_part t [] m = omega arith
last_part t (p ∷ ps) m = last_part t ps (own_part t p m) ∙ more (last_made m.life) (length ps)
  where
    more : (a b : ℕ) → suc a + b ≡ a + suc b
    more a b = omega arith

cut_length : (k c : ℕ) (b : List ℕ) → length (cut_from k c b) ≡ k
cut_length zero c b = refl
cut_length (suc k) c b = ap suc (cut_length k c (drop part_size b))

some_parts : (b : List ℕ) → 0 < length b → 0 < length (cut b)
some_parts b h =
    let c : ℕ = (length b + part_size - 1) / part_size in
    let n : length (cut b) ≡ c = cut_length c c b in
    let q : 1 ≤ c = le-div 1 (length b + part_size - 1) part_size (omega arith) (omega (arith, h)) in
    omega (arith, n, q)

sent : (s : ℕ) (t : Txn) (b : List ℕ) (a : Member) → AsksOnce a.life → AsksOnce (send_txn s t b a).life
sent s t b a o = go (nat_le (length b) whole_bytes) refl
  where
    go : (z : Bool) → nat_le (length b) whole_bytes ≡ z → AsksOnce (send_txn s t b a).life
    go true h =
        let i : ValueId = record { origin = a.me.inc; number = last_made a.life + 1 } in
        let m : Member = push (AsksCommit s i) a in
        let x : Member = own (Says b) (Some (Writes t)) m in
        rw (send_txn, h)
        (closes i.number (Answered s (Sent i) ∷ x.life) (omega arith)
        (kept i.number x.life (Answered s (Sent i) ∷ x.life) (λ j u f. f) (owned i.number (Says b) (Some (Writes t)) m (asked (last_made a.life) a.life s i (omega arith) (opens a.life o)))))
    go false h =
        let i : ValueId = record { origin = a.me.inc; number = last_made a.life + length (cut b) } in
        let m : Member = push (AsksCommit s i) a in
        let x : Member = for_each (own_part t) (cut b) m in
        let large : whole_bytes < length b = leb-false (length b) whole_bytes h in
        let some : 0 < length (cut b) = some_parts b (omega (arith, large)) in
        let last : last_made x.life ≡ last_made a.life + length (cut b) = last_part t (cut b) m in
        rw (send_txn, h)
        (closes i.number (Answered s (Sent i) ∷ x.life) (omega (arith, last))
        (kept i.number x.life (Answered s (Sent i) ∷ x.life) (λ j u f. f) (parts i.number t (cut b) m (asked (last_made a.life) a.life s i (omega (arith, some)) (opens a.life o)))))

-- ---- a reply

synced : (v : Level) (m : Member) → AsksOnce m.life → AsksOnce (send_sync v m).life
synced v m o = go (has_sync v) refl
  where
    go : (b : Bool) → has_sync v ≡ b → AsksOnce (send_sync v m).life
    go true e = rw (send_sync, e) (passed m.life (Made (record { id = next_id m; what = Says (body_bytes Sync) }) (Some Sync)) refl (omega arith) o)
    go false e = rw (send_sync, e) o

pub replied : (s : ℕ) (r : Request) (q : Reply) (a : Member) → AsksOnce a.life → AsksOnce (after_reply s r q a).life
replied s r q a o = did q.answer q.deed
  where
    held : (r : Request) → AsksOnce (held_by s r a).life
    held (Begin v w) = synced v (push (Called s v w) a) (called a.life s v w o)
    held (Get i) = o
    held (Insert i y) = o
    held (Update i y) = o
    held (Delete i) = o
    held Commit = o
    held Rollback = o

    said : (x : Answer) → AsksOnce (Answered s x ∷ a.life)
    said x = passed a.life (Answered s x) refl (omega arith) o

    did : (w : CommitStep) (d : Deed) → AsksOnce (done_by s r w d a).life
    did (Ready b) Nothing = sent s (txn_in s a) b a o
    did (Ready b) EndsIt = sent s (txn_in s a) b a o
    did (Ready b) (Holds f t) = sent s (txn_in s a) b a o
    did (Ready b) (Writing c) = sent s (txn_in s a) b a o
    did (Ready b) Asks = sent s (txn_in s a) b a o
    did (Said x) Nothing = said x
    did (Said x) EndsIt = ended (Answered s x ∷ a.life) s (said x)
    did (Said x) (Holds f t) = held r
    did (Said x) (Writing c) = alike a.life (Changed s c ∷ a.life) (λ u. refl) refl o
    did (Said x) Asks = o
