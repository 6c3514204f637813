-- A commit that hands out a body has asked it.
use Rattle.std.proofs.Common.{◌≡◌, ℕ, Bool, true, false, Option, Some, None, List, [], ◌∷◌, length, refl, sym, ap, ◌∙◌, Ok, Err}
use Rattle.std.specs.Prelude.{IfOk, OnOk, Result, nat_lt}
use Rattle.std.specs.Option.{option_map}
use Rattle.gr_ids.specs.declared.memory.Memory.{Memory}
use Rattle.key_items.specs.declared.change.Change.{Change}
use Rattle.txn_forms.specs.declared.body.Body.TheVariants.{Txn as Writes}
use Rattle.txn_forms.specs.Bodies.{body_bytes}
use Rattle.txn_forms.specs.Parts.{most_bytes}
use Rattle.group_rules.specs.declared.requests.Request.TheVariants.{Commit}
use Rattle.local_sessions.specs.declared.commit_step.CommitStep.{CommitStep}
use Rattle.local_sessions.specs.declared.commit_step.CommitStep.TheVariants.{Ready, Said}
use Rattle.local_sessions.specs.declared.session.Session.{Session}
use Rattle.local_sessions.specs.declared.session.Stage.{Stage}
use Rattle.local_sessions.specs.declared.session.Stage.TheVariants.{Active, Asked, Asking, Holding, Killed as WasKilled, Left as WasLeft}
use Rattle.local_sessions.specs.declared.tables.Tables.{Tables}
use Rattle.local_sessions.specs.Acting.{reply_to}
use Rattle.local_sessions.specs.Replies.{Asks, Deed, Does, commit_bytes, commit_changes, is_read_only, sessions_after, txn_of}
use Rattle.local_sessions.specs.Standing.{asks, changed_at, is_asked, session_in}
use Rattle.local_sessions.proofs.Finding.{changed_same}
use Rattle.member_tables.specs.declared.tables.MemberTables.{MemberTables}
use Rattle.member_tables.specs.Calling.{AsksIfReady}

asks_bytes : (c b : List ℕ) → (commit_bytes c).answer ≡ Ready b → (commit_bytes c).deed ≡ Asks
asks_bytes c b e = go (nat_lt most_bytes (length c)) refl
  where
    go : (z : Bool) → nat_lt most_bytes (length c) ≡ z → (commit_bytes c).deed ≡ Asks
    go true h = absurd (let q = rw (commit_bytes, h) at e in cc)
    go false h = rw (commit_bytes, h) refl

asks_changes : (at : Tables) (x : Session) (cs : List Change) (b : List ℕ) → (commit_changes at x cs).answer ≡ Ready b → (commit_changes at x cs).deed ≡ Asks
asks_changes at x [] b e = absurd cc
asks_changes at x (c ∷ cs) b e = go (is_read_only at) refl
  where
    go : (z : Bool) → is_read_only at ≡ z → (commit_changes at x (c ∷ cs)).deed ≡ Asks
    go true h = absurd (let q = rw (commit_changes, h) at e in cc)
    go false h = let q : commit_changes at x (c ∷ cs) ≡ commit_bytes (body_bytes (Writes (txn_of at x))) = rw (commit_changes, h) refl in
        ap (λ r. r.deed) q ∙ asks_bytes (body_bytes (Writes (txn_of at x))) b (sym (ap (λ r. r.answer) q) ∙ e)

ready : (at : Tables) (o : Option Session) (b : List ℕ) → (reply_to at o Commit).answer ≡ Ready b → ((reply_to at o Commit).deed ≡ Asks) × ((x : Session) × (o ≡ Some x))
ready at None b e = absurd cc
ready at (Some x) b e = go x.stage refl
  where
    go : (g : Stage) → x.stage ≡ g → ((reply_to at (Some x) Commit).deed ≡ Asks) × ((y : Session) × (Some x ≡ Some y))
    go Active h = let q : reply_to at (Some x) Commit ≡ commit_changes at x x.changes = rw h refl in
        (ap (λ r. r.deed) q ∙ asks_changes at x x.changes b (sym (ap (λ r. r.answer) q) ∙ e), (x, refl))
    go Holding h = absurd (let q = rw h at e in cc)
    go (WasKilled g) h = absurd (let q = rw h at e in cc)
    go WasLeft h = absurd (let q = rw h at e in cc)
    go Asked h = absurd (let q = rw h at e in cc)
    go (Asking i) h = absurd (let q = rw h at e in cc)

waits : (at now : Tables) (xs ys : List Session) (s : ℕ) (b : List ℕ) → (reply_to at (session_in xs s) Commit).answer ≡ Ready b → Does (reply_to at (session_in xs s) Commit).deed s xs ys at now → is_asked (session_in ys s) ≡ true
waits at now xs ys s b e d =
    let k = ready at (session_in xs s) b e in
    let put : ys ≡ changed_at s asks xs = d.sessions ∙ ap (λ (z : Deed). sessions_after z s xs) k.0 in
    let here : session_in ys s ≡ Some (asks k.1.0) = ap (λ zs. session_in zs s) put ∙ (changed_same s asks xs (λ x. refl) ∙ ap (option_map asks) k.1.1) in
    ap is_asked here

pub by_step_asked : (x y : MemberTables) (s : ℕ) (o : Result CommitStep Memory) → IfOk o (λ w. (reply_to x.tables (session_in x.sessions s) Commit).answer ≡ w)
    → OnOk o (Does (reply_to x.tables (session_in x.sessions s) Commit).deed s x.sessions y.sessions x.tables y.tables) → IfOk o (λ w. AsksIfReady w s y)
by_step_asked x y s (Ok (Said w)) e d = tt
by_step_asked x y s (Ok (Ready b)) e d = waits x.tables y.tables x.sessions y.sessions s b e d
by_step_asked x y s (Err m) e d = tt
