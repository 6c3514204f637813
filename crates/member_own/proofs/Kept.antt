-- What is kept follows the history.
use Rattle.std.proofs.Common.{◌≡◌, if◌then◌else◌, ◌||◌, ℕ, suc, Bool, true, false, Option, Some, ◌∷◌, refl, sym, ap, ◌∙◌}
use Rattle.std.specs.List.{list_any}
use Rattle.gr_ids.specs.declared.names.Inc.{Inc}
use Rattle.slot_values.specs.declared.value.Value.{Value}
use Rattle.txn_forms.specs.declared.body.Body.{Body}
use Rattle.group_rules.specs.Events.{AskFails, AsksCommit, Answered, Begun, Called, Calls, Came, Changed, Committed, Did, Done, Ends, Enters, Entry, Founds, Gave, Hears, Is, Life, Made, Operates, Replied, Restores, Skips, Starts, Ticks, Took, Works}
use Rattle.group_rules.specs.Life.{is_arrival, last_made, made, online_place, ticks}
use Rattle.member_own.specs.Keeping.{Keeps, Kept, is_of_own, is_own_arrival, with_place, with_tick, with_value}

or_is : (a b c : Bool) → b ≡ c → (if a then true else b) ≡ (a || c)
or_is true b c h = refl
or_is false b c h = h

pub makes : (me : Inc) (l : Life) (k : Kept) (v : Value) (holds : Option Body) → Keeps me l k → Keeps me (Made v holds ∷ l) (with_value v.id.number (is_arrival holds) k)
makes me l k v holds h = record { number = refl; arrival = or_is (is_arrival holds) k.arrived (list_any is_arrival (made l)) h.arrival; count = h.count; place = h.place }

pub ticks_once : (me : Inc) (l : Life) (k : Kept) → Keeps me l k → Keeps me (Came Ticks ∷ l) (with_tick k)
ticks_once me l k h = record { number = h.number; arrival = h.arrival; count = ap suc h.count; place = h.place }

place_is : (b : Bool) (p : ℕ) (x y : Option ℕ) → x ≡ y → (if b then Some p else x) ≡ elim b [ true ↦ Some p | false ↦ y ]
place_is true p x y h = refl
place_is false p x y h = h

pub takes : (me : Inc) (l : Life) (k : Kept) (e : Entry) → Keeps me l k → Keeps me (Took e ∷ l) (with_place e.place (is_own_arrival me e) k)
takes me l k e h = record { number = h.number; arrival = h.arrival; count = h.count; place = place_is (is_own_arrival me e) e.place k.online (online_place l me) h.place }

keep : (me : Inc) (l : Life) (d : Did) (k : Kept) → Keeps me l k → last_made (d ∷ l) ≡ last_made l → made (d ∷ l) ≡ made l → ticks (d ∷ l) ≡ ticks l → online_place (d ∷ l) me ≡ online_place l me → Keeps me (d ∷ l) k
keep me l d k h a b t o = record { number = h.number ∙ sym a; arrival = h.arrival ∙ ap (list_any is_arrival) (sym b); count = h.count ∙ sym t; place = h.place ∙ sym o }

pub passes : (me : Inc) (l : Life) (k : Kept) (d : Did) → is_of_own d ≡ false → Keeps me l k → Keeps me (d ∷ l) k
passes me l k Founds q h = keep me l Founds k h refl refl refl refl
passes me l k (Starts x) q h = keep me l (Starts x) k h refl refl refl refl
passes me l k (Came (Hears m)) q h = keep me l (Came (Hears m)) k h refl refl refl refl
passes me l k (Came Ticks) q h = absurd (cc q)
passes me l k (Came (Works p b)) q h = keep me l (Came (Works p b)) k h refl refl refl refl
passes me l k (Came (Calls s r)) q h = keep me l (Came (Calls s r)) k h refl refl refl refl
passes me l k (Came (Operates o)) q h = keep me l (Came (Operates o)) k h refl refl refl refl
passes me l k (Made v b) q h = absurd (cc q)
passes me l k (Took e) q h = absurd (cc q)
passes me l k (Skips t v) q h = keep me l (Skips t v) k h refl refl refl refl
passes me l k (Done p) q h = keep me l (Done p) k h refl refl refl refl
passes me l k (Committed g) q h = keep me l (Committed g) k h refl refl refl refl
passes me l k (Is x c) q h = keep me l (Is x c) k h refl refl refl refl
passes me l k (Gave p n) q h = keep me l (Gave p n) k h refl refl refl refl
passes me l k (Answered s x) q h = keep me l (Answered s x) k h refl refl refl refl
passes me l k (Begun s e y) q h = keep me l (Begun s e y) k h refl refl refl refl
passes me l k (Changed s c) q h = keep me l (Changed s c) k h refl refl refl refl
passes me l k (Replied r) q h = keep me l (Replied r) k h refl refl refl refl
passes me l k (Called s v w) q h = keep me l (Called s v w) k h refl refl refl refl
passes me l k (AsksCommit s i) q h = keep me l (AsksCommit s i) k h refl refl refl refl
passes me l k (Ends s) q h = keep me l (Ends s) k h refl refl refl refl
passes me l k (Enters w) q h = keep me l (Enters w) k h refl refl refl refl
passes me l k (Restores g cs) q h = keep me l (Restores g cs) k h refl refl refl refl
passes me l k AskFails q h = keep me l AskFails k h refl refl refl refl
