-- The change that was made last is taken back.
use Rattle.std.proofs.Common.{◌≡◌, ◌≤◌, ◌<◌, ℕ, List, ◌∷◌, ◌++◌, [], length, get_or, arith, ◌∙◌}
use Rattle.std.specs.Prelude.{slice_set}
use Rattle.key_items.specs.declared.change.Change.{Change}
use Rattle.local_sessions.specs.Standing.{Session, changed_at, with_change}
use Rattle.local_sessions.proofs.InList.{before, undone, never_made}
use Rattle.local_sessions.proofs.listing.drop_change.Goals as goal

-- the same of any list that was made so
takes_back : (s : ℕ) (x : Change) (xs now : List Session) (k : ℕ) (d : Session) (y : List Change) → now ≡ changed_at s (with_change x) xs → k ≡ before s now → k < length now
    → ((cs : List Change) (e : Change) → (get_or now k d).changes ≡ cs ++ e ∷ [] → y ≡ cs) → slice_set now k (record (get_or now k d) { changes = y }) ≡ xs
takes_back s x xs now k d y e a h p = rw e (undone s x xs k d y (rw e at a) (rw e at h) (rw e at p))

stays : (s : ℕ) (x : Change) (xs now : List Session) → now ≡ changed_at s (with_change x) xs → length now ≤ before s now → now ≡ xs
stays s x xs now e h = e ∙ never_made s x xs (rw e at h)

pub returns-then-at-list : goal.returns-then-at-list
returns-then-at-list c xs x e = takes_back c.args.session x xs c.args.list.now c.index_of-at.result c.index-list-at.result c.pop.new.self e c.index_of-at.ensures c.if-at-list.true c.pop.ensures

pub returns-else-at-list : goal.returns-else-at-list
returns-else-at-list c xs x e = stays c.args.session x xs c.args.list.now e (omega (arith, c.index_of-at.ensures, c.if-at-list.false))
