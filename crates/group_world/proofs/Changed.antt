-- That a statement was answered Changed is known by what was said.
use Rattle.std.proofs.Common.{◌≡◌, ◌≤◌, ◌+◌, ◌-◌, ℕ, Bool, true, false, Option, Some, None, List, [], ◌∷◌, ◌++◌, length, drop, take, refl, sym, ap, subst, ◌∙◌, arith}
use Rattle.std.specs.Prelude.{◌||◌}
use Rattle.std.specs.List.{list_any}
use Rattle.std.proofs.lemmas.List.Folds.{list_any-append}
use Rattle.std.proofs.lemmas.List.{length-append}
use Rattle.std.proofs.Math.Seq.{drop-append_seam}
use Rattle.gr_ids.specs.declared.names.Inc.{Inc}
use Rattle.group_rules.specs.declared.requests.Request.{Request}
use Rattle.group_rules.specs.declared.answers.Answer.{Answer}
use Rattle.group_rules.specs.declared.answers.Answer.TheVariants.{Begun as AnBegun, Held as AnHeld, Got as AnGot, Changed as AnChanged, Sent as AnSent, CommittedEmpty as AnCommittedEmpty, Committed as AnCommitted, RolledBack as AnRolledBack, Busy as AnBusy, NoTransaction as AnNoTransaction, NotOnline as AnNotOnline, ReadOnly as AnReadOnly, RowLocked as AnRowLocked, DuplicateKey as AnDuplicateKey, NoRow as AnNoRow, Killed as AnKilled, Conflict as AnConflict, HoldTimeout as AnHoldTimeout, MemberLeft as AnMemberLeft, Undecided as AnUndecided, NotAcknowledged as AnNotAcknowledged, TooLarge as AnTooLarge}
use Rattle.group_rules.specs.declared.marks.Mark.{Mark}
use Rattle.group_rules.specs.declared.said.Said.{Said}
use Rattle.group_rules.specs.declared.said.Said.TheVariants.{Marked}
use Rattle.group_rules.specs.Events.{Calls, Did, Event, Life, Founds, Starts, Came, Made, Took, Skips, Done, Committed, Is, Gave, Answered, Begun, Changed, Replied, Called, AsksCommit, Ends, Enters, Restores, AskFails, mark_of}
use Rattle.group_rules.specs.Member.{Member}
use Rattle.group_rules.specs.Script.{Letter, Play, event, has_changed, is_full, moved_to, said_mark, said_of, total, with_letters}
use Rattle.group_rules.specs.Steps.{step}
use Rattle.group_rules.specs.World.{Does, Happens, Past, Server, World, dids, event_at, event_by, move, server_at}
use Rattle.plain_steps.specs.Plain.{ArePlain, IsPlain, IsPlainAnswer}
use Rattle.group_world.specs.Changes.{answers_changed, marks_changed, said_changed}
use Rattle.group_world.specs.Standing.{Along}
use Rattle.group_world.specs.declared.stage.Stage.{Stage}
use Rattle.group_world.proofs.Moving.{open_plays}

plain_not : (x : Answer) → IsPlainAnswer x → answers_changed x ≡ false
plain_not (AnBegun a b) h = refl
plain_not AnHeld h = refl
plain_not (AnGot a) h = refl
plain_not AnChanged h = absurd h
plain_not (AnSent a) h = refl
plain_not AnCommittedEmpty h = refl
plain_not (AnCommitted a) h = refl
plain_not AnRolledBack h = refl
plain_not AnBusy h = refl
plain_not AnNoTransaction h = refl
plain_not (AnNotOnline a) h = refl
plain_not (AnReadOnly a) h = refl
plain_not (AnRowLocked a) h = refl
plain_not AnDuplicateKey h = refl
plain_not AnNoRow h = refl
plain_not (AnKilled a) h = refl
plain_not (AnConflict a) h = refl
plain_not (AnHoldTimeout a) h = refl
plain_not AnMemberLeft h = refl
plain_not (AnUndecided a) h = refl
plain_not (AnNotAcknowledged a) h = refl
plain_not (AnTooLarge a) h = refl

or_false : (b : Bool) → (b || false) ≡ b
or_false true = refl
or_false false = refl

or_true : (b : Bool) → (b || true) ≡ true
or_true true = refl
or_true false = refl

-- one mark more
one_more : (i : Inc) (m : Mark) (xs : List Said) → list_any said_changed (xs ++ Marked i m ∷ []) ≡ (list_any said_changed xs || marks_changed m)
one_more i m xs = list_any-append said_changed xs (Marked i m ∷ []) ∙ ap (λ b. list_any said_changed xs || b) (or_false (marks_changed m))

silent : (i : Inc) (m : Mark) (xs : List Said) → marks_changed m ≡ false → list_any said_changed (xs ++ Marked i m ∷ []) ≡ list_any said_changed xs
silent i m xs h = one_more i m xs ∙ (ap (λ b. list_any said_changed xs || b) h ∙ or_false (list_any said_changed xs))

-- one thing more that was done
step_said : (i : Inc) (d : Did) (xs : List Said) (ps : Past) → IsPlain d → list_any said_changed xs ≡ has_changed ps → list_any said_changed (said_mark i (mark_of d) xs) ≡ has_changed (Does i d ∷ ps)
step_said i Founds xs ps h e = absurd h
step_said i (Starts x) xs ps h q = absurd h
step_said i (Came e) xs ps h q = q
step_said i (Made v b) xs ps h q = q
step_said i (Took e) xs ps h q = silent i _ xs refl ∙ q
step_said i (Skips t v) xs ps h q = silent i _ xs refl ∙ q
step_said i (Done p) xs ps h q = silent i _ xs refl ∙ q
step_said i (Committed g) xs ps h q = silent i _ xs refl ∙ q
step_said i (Is s c) xs ps h q = silent i _ xs refl ∙ q
step_said i (Gave p n) xs ps h q = silent i _ xs refl ∙ q
step_said i (Answered s x) xs ps h q = silent i _ xs (plain_not x h) ∙ q
step_said i (Begun s e y) xs ps h q = silent i _ xs refl ∙ q
step_said i (Changed s c) xs ps h q = one_more i _ xs ∙ or_true (list_any said_changed xs)
step_said i (Replied r) xs ps h q = silent i _ xs refl ∙ q
step_said i (Called s v k) xs ps h q = q
step_said i (AsksCommit s v) xs ps h q = q
step_said i (Ends s) xs ps h q = q
step_said i (Enters w) xs ps h q = q
step_said i (Restores g ts) xs ps h q = q
step_said i AskFails xs ps h e = e

-- what an incarnation left in a step
pub left_said : (i : Inc) (l : Life) → ArePlain l → list_any said_changed (said_of (dids i l)) ≡ has_changed (dids i l)
left_said i [] h = refl
left_said i (d ∷ l) h = step_said i d (said_of (dids i l)) (dids i l) h.0 (left_said i l h.1)

-- ---- an event

abbrev pub AllPlain : Type 0
AllPlain = (e : Event) (a : Member) → ArePlain (take (length (step e a).life - length a.life) (step e a).life)

event_said : AllPlain → (n s : ℕ) (r : Request) (w : World) → list_any said_changed (said_of (move (Happens n (Calls s r)) w).left) ≡ has_changed (move (Happens n (Calls s r)) w).left
unfolding move
event_said plain n s r w = go (server_at w n)
  where
    by : (v : Server) (o : Option Member) → list_any said_changed (said_of (event_by (Calls s r) v o w).left) ≡ has_changed (event_by (Calls s r) v o w).left
    by v None = refl
    by v (Some a) = left_said a.me.inc (take (length (step (Calls s r) a).life - length a.life) (step (Calls s r) a).life) (plain (Calls s r) a)

    go : (o : Option Server) → list_any said_changed (said_of (event_at (Calls s r) o w).left) ≡ has_changed (event_at (Calls s r) o w).left
    go None = refl
    go (Some v) = by v v.running

record HasSaid (y z : Play) (w : World) : Type 0 where
  pub world : z.world ≡ w
  pub said : z.said ≡ y.said ++ said_of w.left

abbrev room_at : World → List Letter → Play → Bool → Play
room_at w xs y b = elim b [ false ↦ record y { world = w; wire = xs; said = y.said ++ said_of w.left } | true ↦ record y { closed = Some (record { messages = length xs; bytes = total xs }) } ]

-- what a move says that the wire has room for
said_on : (w : World) (xs : List Letter) (y : Play) → (moved_to w xs y).closed ≡ None → HasSaid y (moved_to w xs y) w
said_on w xs y h = go (is_full xs) h
  where
    go : (b : Bool) → (room_at w xs y b).closed ≡ None → HasSaid y (room_at w xs y b) w
    go false e = record { world = refl; said = refl }
    go true e = absurd (cc e)

-- what is said by it
pub behind : AllPlain → (n s : ℕ) (r : Request) (y : Play) (x z : Stage) → Along y x → Along (event n (Calls s r) y) z
    → (length x.said.items ≤ length z.said.items) × (list_any said_changed (drop (length x.said.items) z.said.items) ≡ has_changed (event n (Calls s r) y).world.left)
behind plain n s r y x z a b =
    let m = Happens n (Calls s r) in
    let is = open_plays m y a.unclosed in
    let k = said_on (move m y.world) (with_letters y.wire (move m y.world).sent) y (ap (λ p. p.closed) (sym is) ∙ b.unclosed) in
    let left = (move m y.world).left in
    let all : z.said.items ≡ x.said.items ++ said_of left = b.said ∙ (ap (λ p. p.said) is ∙ (k.said ∙ ap (λ l. l ++ said_of left) (sym a.said))) in
    let world : (event n (Calls s r) y).world ≡ move m y.world = ap (λ p. p.world) is ∙ k.world in
    let long : length z.said.items ≡ length x.said.items + length (said_of left) = ap length all ∙ length-append x.said.items (said_of left) in
    (omega (arith, long), ap (λ l. list_any said_changed (drop (length x.said.items) l)) all ∙ (ap (list_any said_changed) (drop-append_seam x.said.items (said_of left)) ∙ (event_said plain n s r y.world ∙ ap (λ w. has_changed w.left) (sym world))))

-- an answer read off what was said since
pub tells : AllPlain → (n s : ℕ) (r : Request) (y : Play) (x z : Stage) → Along y x → Along (event n (Calls s r) y) z → (before : ℕ) (said : List Said) (b : Bool)
    → before ≡ length x.said.items → said ≡ z.said.items → (before ≤ length said → b ≡ list_any said_changed (drop before said)) → b ≡ has_changed (event n (Calls s r) y).world.left
tells plain n s r y x z a c before said b e f h =
    let k = behind plain n s r y x z a c in
    let long : before ≤ length said = subst (λ m. m ≤ length said) (sym e) (subst (λ (l : List Said). length x.said.items ≤ length l) (sym f) k.0) in
    h long ∙ (ap (λ m. list_any said_changed (drop m said)) e ∙ (ap (λ l. list_any said_changed (drop (length x.said.items) l)) f ∙ k.1))
