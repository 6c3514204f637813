-- What the words of a line stand for is within its range.
use Rattle.std.proofs.Common.{◌≡◌, ◌==◌, ◌≤◌, ◌+◌, ◌-◌, ◌^◌, ◌&&◌, cond, true, false, Bool, ℕ, List, [], ◌∷◌, length, Option, Some, None, refl, subst, arith, codes}
use Rattle.std.specs.Prelude.{option_and_then, slice_index, unwrap_or}
use Rattle.std.specs.Option.{option_map}
use Rattle.std.specs.List.{list_all, position_or_len}
use Rattle.std.specs.Str.{bytes_eq}
use Rattle.std.proofs.Common.{take, drop, nat_le, nat_lt}
use Rattle.std.specs.Str.Parse.{digits_value}
use Rattle.std.proofs.lemmas.Bool.Decides.{nat_tests}
use Rattle.std.proofs.lemmas.Option.{cond_some, same_Some}
use Rattle.gr_ids.specs.Uuids.{uuid_of}
use Rattle.primary_election.specs.Texts.{version_of, weight_of, is_number}
use Rattle.key_items.specs.Spelling.{IsItem}
use Rattle.gr_ids.specs.declared.names.Inc.{Inc}
use Rattle.key_items.specs.declared.item.Item.{Item}
use Rattle.key_items.specs.declared.change.Change.{Change}
use Rattle.key_items.specs.declared.change.ChangeKind.TheVariants.{Insert as Inserts, Update as Updates, Delete as Deletes}
use Rattle.group_rules.specs.declared.said.Row.{Row}
use Rattle.group_rules.specs.declared.requests.Operator.{Operator}
use Rattle.group_rules.specs.declared.requests.Operator.TheVariants.{Campaign, Tell, Leave, SetPrimary, Single, Multi, AskDonor, DonorFailed}
use Rattle.group_rules.specs.declared.requests.Request.{Request}
use Rattle.group_rules.specs.declared.requests.Request.TheVariants.{Get, Insert, Update, Delete, Commit, Rollback}
use Rattle.group_rules.specs.declared.steps.Step.{Step}
use Rattle.group_rules.specs.declared.steps.Step.TheVariants.{Deliver, Lose, Settle, Drain, Stop}
use Rattle.group_rules.specs.declared.steps.Step.TheVariants.{ShowMembers, ShowSlots, ShowGtids, ShowRows, ShowQueue, ShowCertifier, ShowKept, ShowWire}
use Rattle.script_text.specs.declared.line.Line.{Line}
use Rattle.script_text.specs.Words.{Text, ◌<|>◌, no_words, has_none, one_word, two_words, three_words, four_words, named_words, first_word}
use Rattle.script_text.specs.Numbers.{number_of, number_in, first_number, only_number, number_or_none}
use Rattle.script_text.specs.Names.{inc_of, only_inc, inc_or_none, is_lower, is_table, is_table_byte, is_text, is_visible, level_of}
use Rattle.script_text.specs.Servers.{server_of, first_server, only_server, all_servers, are_distinct}
use Rattle.script_text.specs.Rows.{item_of, row_of, change_of}
use Rattle.script_text.specs.Sessions.{begin_of, request_of, session_of, once_of}
use Rattle.script_text.specs.Operators.{action_of, donor_of, operator_of}
use Rattle.script_text.specs.Founding.{declared_of, block_of, is_founding, founders_of, first_group, first_limits, found_of, setting_of}
use Rattle.script_text.specs.Moves.{wire_of, worked_of, ticked_of, pace_of, started_of, offline_of, power_of}
use Rattle.script_text.specs.Looks.{config_of, at_server, shown_of, look_of}
use Rattle.script_text.specs.Grammar.{call_of, step_of, line_by, line_of}
use Rattle.script_text.specs.Ranges.{IsIn, IsServer, AreServers, IsNamed, IsValue, IsRequest, IsChange, IsOperator, IsPlace, IsStep, IsInRange}

-- ---- what was read before

bind_some : {A B : Type 0} (f : A → Option B) (o : Option A) (b : B) → option_and_then f o ≡ Some b → (a : A) × (o ≡ Some a) × (f a ≡ Some b)
bind_some f (Some a) b e = (a, refl, e)
bind_some f None b e = cc e

carry : {A : Type 0} (P : A → Type 0) {x y : A} → Some x ≡ Some y → P x → P y
carry P {x} {y} e p = subst P (same_Some x y e) p

map_some : {A B : Type 0} (f : A → B) (o : Option A) (b : B) → option_map f o ≡ Some b → (a : A) × (o ≡ Some a) × (f a ≡ b)
map_some f (Some a) b e = (a, refl, cc e)
map_some f None b e = cc e

-- by its name
named : {A : Type 0} (t : Bool) (p q : Option A) (P : A → Type 0) → ((x : A) → p ≡ Some x → P x) → ((x : A) → q ≡ Some x → P x) → (x : A) → cond t p q ≡ Some x → P x
named true p q P f g = f
named false p q P f g = g

other : {A : Type 0} (p q : Option A) (P : A → Type 0) → ((x : A) → p ≡ Some x → P x) → ((x : A) → q ≡ Some x → P x) → (x : A) → (p <|> q) ≡ Some x → P x
other (Some y) q P f g = f
other None q P f g = g

nothing : {A : Type 0} (P : A → Type 0) (x : A) → None ≡ Some x → P x
nothing P x e = cc e

lone : {A : Type 0} (y : A) (P : A → Type 0) → P y → (x : A) (ws : List Text) → no_words y ws ≡ Some x → P x
lone y P p x ws e = subst P (cond_some (has_none ws) y x e).1 p

-- ---- numbers

both : (s t : Bool) → (s && t) ≡ true → (s ≡ true) × (t ≡ true)
both true true e = (refl, refl)
both true false e = cc e
both false t e = cc e

in_range : (low high : ℕ) (w : Text) (n : ℕ) → number_in low high w ≡ Some n → IsIn low high n
unfolding number_in
in_range low high w n e =
    let a = bind_some _ (number_of w) n e in
    let c = cond_some (nat_le low a.0 && nat_le a.0 high) a.0 n a.2 in
    let t = both (nat_le low a.0) (nat_le a.0 high) c.0 in
    subst (λ (k : ℕ). IsIn low high k) c.1 (grind (arith, nat_tests, t), grind (arith, nat_tests, t))

first_in_range : (low high : ℕ) (ws : List Text) (x : ℕ × List Text) → first_number low high ws ≡ Some x → IsIn low high x.0
unfolding first_number
first_in_range low high ws x e =
    let w = bind_some _ (first_word ws) x e in
    let n = bind_some _ (number_in low high w.0.0) x w.2 in
    carry (λ (y : ℕ × List Text). IsIn low high y.0) n.2 (in_range low high w.0.0 n.0 n.1)

only_in_range : (low high : ℕ) (ws : List Text) (n : ℕ) → only_number low high ws ≡ Some n → IsIn low high n
unfolding only_number
only_in_range low high ws n e = let w = bind_some _ (one_word ws) n e in in_range low high w.0 n w.2

-- P holds of the number, if there is one
maybe_in_range : (low high : ℕ) (ws : List Text) (P : Option ℕ → Type 0) → P None → ((n : ℕ) → IsIn low high n → P (Some n)) → (o : Option ℕ) → number_or_none low high ws ≡ Some o → P o
unfolding number_or_none
maybe_in_range low high [] P none some o e = carry P e none
maybe_in_range low high (w ∷ ws) P none some o e =
    let n = map_some _ (only_number low high (w ∷ ws)) o e in
    subst P n.2 (some n.0 (only_in_range low high (w ∷ ws) n.0 n.1))

-- ---- names

inc_in_range : (w : Text) (i : Inc) → inc_of w ≡ Some i → IsNamed i
unfolding inc_of
inc_in_range w i e =
    let dot = position_or_len (λ b. b == 46) w in
    let s = bind_some _ (number_in 1 32 (take dot w)) i e in
    let n = bind_some _ (number_in 1 (2 ^ 32 - 1) (drop (dot + 1) w)) i s.2 in
    carry IsNamed n.2 (in_range 1 32 (take dot w) s.0 s.1, in_range 1 (2 ^ 32 - 1) (drop (dot + 1) w) n.0 n.1)

only_inc_in_range : (ws : List Text) (i : Inc) → only_inc ws ≡ Some i → IsNamed i
unfolding only_inc
only_inc_in_range ws i e = let w = bind_some _ (one_word ws) i e in inc_in_range w.0 i w.2

inc_or_none_in_range : (ws : List Text) (o : Option Inc) → inc_or_none ws ≡ Some o → IsOperator (Single o)
unfolding inc_or_none
inc_or_none_in_range [] o e = carry (λ (x : Option Inc). IsOperator (Single x)) e tt
inc_or_none_in_range (w ∷ ws) o e =
    let i = map_some _ (only_inc (w ∷ ws)) o e in
    subst (λ (x : Option Inc). IsOperator (Single x)) i.2 (only_inc_in_range (w ∷ ws) i.0 i.1)

text_in_range : (most : ℕ) (w : Text) → is_text most w ≡ true → IsIn 1 most (length w)
text_in_range most w e =
    let t = both (nat_lt 0 (length w)) (nat_le (length w) most) (both (nat_lt 0 (length w) && nat_le (length w) most) (list_all is_visible w) e).0 in
    (grind (arith, nat_tests, t), grind (arith, nat_tests, t))

table_in_range : (w : Text) → is_table w ≡ true → IsIn 1 64 (length w)
table_in_range w e =
    let sized = nat_lt 0 (length w) && nat_le (length w) 64 in
    let t = both (nat_lt 0 (length w)) (nat_le (length w) 64) (both sized (is_lower (slice_index w 0)) (both (sized && is_lower (slice_index w 0)) (list_all is_table_byte w) e).0).0 in
    (grind (arith, nat_tests, t), grind (arith, nat_tests, t))

-- ---- servers

all_in_range : (ws : List Text) (ns : List ℕ) → all_servers ws ≡ Some ns → AreServers ns
all_in_range [] ns e = carry AreServers e tt
all_in_range (w ∷ ws) ns e =
    let n = bind_some _ (server_of w) ns e in
    let others = bind_some _ (all_servers ws) ns n.2 in
    carry AreServers others.2 (in_range 1 32 w n.0 n.1, all_in_range ws others.0 others.1)

-- ---- rows

item_is : (table key : Text) → IsIn 1 64 (length table) → IsIn 1 255 (length key) → IsItem (record { table = table; key = key })
item_is table key t k = record { table_above = t.0; table_below = t.1; key_above = k.0; key_below = k.1 }

item_in_range : (ws : List Text) (i : Item) → item_of ws ≡ Some i → IsItem i
unfolding item_of
item_in_range ws i e =
    let w = bind_some _ (two_words ws) i e in
    let c = cond_some (is_table w.0.0 && is_text 255 w.0.1) _ i w.2 in
    let t = both (is_table w.0.0) (is_text 255 w.0.1) c.0 in
    subst IsItem c.1 (item_is w.0.0 w.0.1 (table_in_range w.0.0 t.0) (text_in_range 255 w.0.1 t.1))

row_in_range : (ws : List Text) (r : Row) → row_of ws ≡ Some r → IsItem r.item × IsValue r.value
unfolding row_of
row_in_range ws r e =
    let w = bind_some _ (three_words ws) r e in
    let c = cond_some (is_table w.0.0 && is_text 255 w.0.1 && is_text 60000 w.0.2) _ r w.2 in
    let t = both (is_table w.0.0 && is_text 255 w.0.1) (is_text 60000 w.0.2) c.0 in
    let u = both (is_table w.0.0) (is_text 255 w.0.1) t.0 in
    subst (λ (x : Row). IsItem x.item × IsValue x.value) c.1 (item_is w.0.0 w.0.1 (table_in_range w.0.0 u.0) (text_in_range 255 w.0.1 u.1), text_in_range 60000 w.0.2 t.1)

change_in_range : (name : Text) (ws : List Text) (c : Change) → change_of name ws ≡ Some c → IsChange c
unfolding change_of
change_in_range name ws =
    named (bytes_eq name (codes "insert")) _ _ IsChange inserts
    (named (bytes_eq name (codes "update")) _ _ IsChange updates
    (named (bytes_eq name (codes "delete")) _ _ IsChange deletes (nothing IsChange)))
  where
    inserts : (c : Change) → option_map (λ r. record { item = r.item; what = Inserts r.value }) (row_of ws) ≡ Some c → IsChange c
    inserts c e = let r = map_some _ (row_of ws) c e in subst IsChange r.2 (row_in_range ws r.0 r.1)

    updates : (c : Change) → option_map (λ r. record { item = r.item; what = Updates r.value }) (row_of ws) ≡ Some c → IsChange c
    updates c e = let r = map_some _ (row_of ws) c e in subst IsChange r.2 (row_in_range ws r.0 r.1)

    deletes : (c : Change) → option_map (λ i. record { item = i; what = Deletes }) (item_of ws) ≡ Some c → IsChange c
    deletes c e = let i = map_some _ (item_of ws) c e in subst IsChange i.2 (item_in_range ws i.0 i.1, tt)

-- ---- sessions

begin_in_range : (ws : List Text) (r : Request) → begin_of ws ≡ Some r → IsRequest r
unfolding begin_of
begin_in_range ws r e =
    let w = bind_some _ (two_words ws) r e in
    let level = bind_some _ (level_of w.0.0) r w.2 in
    let wait = bind_some _ (number_in 1 1000000 w.0.1) r level.2 in
    carry IsRequest wait.2 (in_range 1 1000000 w.0.1 wait.0 wait.1)

request_in_range : (name : Text) (ws : List Text) (r : Request) → request_of name ws ≡ Some r → IsRequest r
unfolding request_of
request_in_range name ws =
    named (bytes_eq name (codes "begin")) _ _ IsRequest (begin_in_range ws)
    (named (bytes_eq name (codes "get")) _ _ IsRequest gets
    (named (bytes_eq name (codes "insert")) _ _ IsRequest inserts
    (named (bytes_eq name (codes "update")) _ _ IsRequest updates
    (named (bytes_eq name (codes "delete")) _ _ IsRequest deletes
    (named (bytes_eq name (codes "commit")) _ _ IsRequest (λ r e. lone Commit IsRequest tt r ws e)
    (named (bytes_eq name (codes "rollback")) _ _ IsRequest (λ r e. lone Rollback IsRequest tt r ws e) (nothing IsRequest)))))))
  where
    gets : (r : Request) → option_map Get (item_of ws) ≡ Some r → IsRequest r
    gets r e = let i = map_some _ (item_of ws) r e in subst IsRequest i.2 (item_in_range ws i.0 i.1)

    inserts : (r : Request) → option_map (λ x. Insert x.item x.value) (row_of ws) ≡ Some r → IsRequest r
    inserts r e = let x = map_some _ (row_of ws) r e in subst IsRequest x.2 (row_in_range ws x.0 x.1)

    updates : (r : Request) → option_map (λ x. Update x.item x.value) (row_of ws) ≡ Some r → IsRequest r
    updates r e = let x = map_some _ (row_of ws) r e in subst IsRequest x.2 (row_in_range ws x.0 x.1)

    deletes : (r : Request) → option_map Delete (item_of ws) ≡ Some r → IsRequest r
    deletes r e = let i = map_some _ (item_of ws) r e in subst IsRequest i.2 (item_in_range ws i.0 i.1)

session_in_range : (name : Text) (ws : List Text) (s : Step) → session_of name ws ≡ Some s → IsStep s
unfolding session_of IsStep
session_in_range name ws s e =
    let n = bind_some _ (first_server ws) s e in
    let m = bind_some _ (first_number 1 999999999 n.0.1) s n.2 in
    let r = bind_some _ (request_of name m.0.1) s m.2 in
    carry IsStep r.2 (first_in_range 1 32 ws n.0 n.1, first_in_range 1 999999999 n.0.1 m.0 m.1, request_in_range name m.0.1 r.0 r.1)

once_in_range : (number : ℕ) (ws : List Text) (s : Step) → 1 ≤ number → number ≤ 1000000 → once_of number ws ≡ Some s → IsStep s
unfolding once_of IsStep
once_in_range number ws s low high e =
    let n = bind_some _ (first_server ws) s e in
    let w = bind_some _ (first_word n.0.1) s n.2 in
    let c = bind_some _ (change_of w.0.0 w.0.1) s w.2 in
    carry IsStep c.2 (first_in_range 1 32 ws n.0 n.1, (omega arith, omega arith), change_in_range w.0.0 w.0.1 c.0 c.1)

-- ---- operators

action_in_range : (name : Text) (ws : List Text) (o : Operator) → action_of name ws ≡ Some o → IsOperator o
unfolding action_of
action_in_range name ws =
    named (bytes_eq name (codes "campaign")) _ _ IsOperator (λ o e. lone Campaign IsOperator tt o ws e)
    (named (bytes_eq name (codes "tell")) _ _ IsOperator (λ o e. lone Tell IsOperator tt o ws e)
    (named (bytes_eq name (codes "leave")) _ _ IsOperator (λ o e. lone Leave IsOperator tt o ws e)
    (named (bytes_eq name (codes "primary")) _ _ IsOperator appoints
    (named (bytes_eq name (codes "single")) _ _ IsOperator singles
    (named (bytes_eq name (codes "multi")) _ _ IsOperator (λ o e. lone Multi IsOperator tt o ws e) (nothing IsOperator))))))
  where
    appoints : (o : Operator) → option_map SetPrimary (only_inc ws) ≡ Some o → IsOperator o
    appoints o e = let i = map_some _ (only_inc ws) o e in subst IsOperator i.2 (only_inc_in_range ws i.0 i.1)

    singles : (o : Operator) → option_map Single (inc_or_none ws) ≡ Some o → IsOperator o
    singles o e = let i = map_some _ (inc_or_none ws) o e in subst IsOperator i.2 (inc_or_none_in_range ws i.0 i.1)

donor_in_range : (name : Text) (ws : List Text) (o : Operator) → donor_of name ws ≡ Some o → IsOperator o
unfolding donor_of
donor_in_range name ws =
    named (bytes_eq name (codes "donor")) _ _ IsOperator asks
    (named (bytes_eq name (codes "nodonor")) _ _ IsOperator (λ o e. lone DonorFailed IsOperator tt o ws e) (nothing IsOperator))
  where
    asks : (o : Operator) → option_map AskDonor (only_inc ws) ≡ Some o → IsOperator o
    asks o e = let i = map_some _ (only_inc ws) o e in subst IsOperator i.2 (only_inc_in_range ws i.0 i.1)

operator_in_range : (name : Text) (ws : List Text) (s : Step) → operator_of name ws ≡ Some s → IsStep s
unfolding operator_of IsStep
operator_in_range name ws s e =
    let n = bind_some _ (first_server ws) s e in
    let o = bind_some _ (action_of name n.0.1 <|> donor_of name n.0.1) s n.2 in
    carry IsStep o.2 (first_in_range 1 32 ws n.0 n.1, other (action_of name n.0.1) (donor_of name n.0.1) IsOperator (action_in_range name n.0.1) (donor_in_range name n.0.1) o.0 o.1)

-- ---- the founding

declared_in_range : (ws : List Text) (s : Step) → declared_of ws ≡ Some s → IsStep s
unfolding declared_of weight_of IsStep
declared_in_range ws s e =
    let w = bind_some _ (four_words ws) s e in
    let n = bind_some _ (server_of w.0.0) s w.2 in
    let u = bind_some _ (uuid_of w.0.1) s n.2 in
    let v = bind_some _ (version_of w.0.2) s u.2 in
    let g = bind_some _ (weight_of w.0.3) s v.2 in
    let c = cond_some (is_number w.0.3 && nat_le (digits_value 10 w.0.3) 100) (digits_value 10 w.0.3) g.0 g.1 in
    let t = both (is_number w.0.3) (nat_le (digits_value 10 w.0.3) 100) c.0 in
    let light : digits_value 10 w.0.3 ≤ 100 = grind (arith, nat_tests, t.1) in
    carry IsStep g.2 (in_range 1 32 w.0.0 n.0 n.1, subst (λ (k : ℕ). k ≤ 100) c.1 light)

block_in_range : (ws : List Text) (s : Step) → block_of ws ≡ Some s → IsStep s
unfolding block_of IsStep
block_in_range ws s e = let k = map_some _ (only_number 1 1000000 ws) s e in subst IsStep k.2 (only_in_range 1 1000000 ws k.0 k.1)

founders_in_range : (ws : List Text) (ns : List ℕ) → founders_of ws ≡ Some ns → IsIn 1 9 (length ns) × (are_distinct ns ≡ true) × AreServers ns
unfolding founders_of
founders_in_range ws ns e =
    let all = bind_some _ (all_servers ws) ns e in
    let c = cond_some (is_founding all.0) all.0 ns all.2 in
    let t = both (nat_lt 0 (length all.0) && nat_le (length all.0) 9) (are_distinct all.0) c.0 in
    let u = both (nat_lt 0 (length all.0)) (nat_le (length all.0) 9) t.0 in
    subst (λ (xs : List ℕ). IsIn 1 9 (length xs) × (are_distinct xs ≡ true) × AreServers xs) c.1
    ((grind (arith, nat_tests, u), grind (arith, nat_tests, u)), t.1, all_in_range ws all.0 all.1)

limits_in_range : (ws : List Text) (x : ℕ × ℕ × ℕ × List Text) → first_limits ws ≡ Some x → IsIn 10 200 x.0 × (x.1 ≤ 3600) × (x.2 ≤ 1000000)
unfolding first_limits
limits_in_range ws x e =
    let h = bind_some _ (first_number 10 200 ws) x e in
    let k = bind_some _ (first_number 0 3600 h.0.1) x h.2 in
    let m = bind_some _ (first_number 0 1000000 k.0.1) x k.2 in
    carry (λ (y : ℕ × ℕ × ℕ × List Text). IsIn 10 200 y.0 × (y.1 ≤ 3600) × (y.2 ≤ 1000000)) m.2
    (first_in_range 10 200 ws h.0 h.1, (first_in_range 0 3600 h.0.1 k.0 k.1).1, (first_in_range 0 1000000 k.0.1 m.0 m.1).1)

found_in_range : (ws : List Text) (s : Step) → found_of ws ≡ Some s → IsStep s
unfolding found_of IsStep
found_in_range ws s e =
    let g = bind_some _ (first_group ws) s e in
    let l = bind_some _ (first_limits g.0.2) s g.2 in
    let f = bind_some _ (founders_of l.0.3) s l.2 in
    let limits = limits_in_range g.0.2 l.0 l.1 in
    let servers = founders_in_range l.0.3 f.0 f.1 in
    carry IsStep f.2 (record { horizon = limits.0; expel = limits.1; majority = limits.2; count = servers.0; distinct = servers.1; servers = servers.2 })

setting_in_range : (name : Text) (ws : List Text) (s : Step) → setting_of name ws ≡ Some s → IsStep s
unfolding setting_of
setting_in_range name ws =
    named (bytes_eq name (codes "server")) _ _ IsStep (declared_in_range ws)
    (named (bytes_eq name (codes "block")) _ _ IsStep (block_in_range ws)
    (named (bytes_eq name (codes "found")) _ _ IsStep (found_in_range ws) (nothing IsStep)))

-- ---- moves

wire_in_range : (name : Text) (ws : List Text) (s : Step) → wire_of name ws ≡ Some s → IsStep s
unfolding wire_of IsStep
wire_in_range name ws =
    named (bytes_eq name (codes "deliver")) _ _ IsStep delivers
    (named (bytes_eq name (codes "lose")) _ _ IsStep loses
    (named (bytes_eq name (codes "settle")) _ _ IsStep settles (nothing IsStep)))
  where
    delivers : (s : Step) → option_map Deliver (only_number 1 (2 ^ 64 - 1) ws) ≡ Some s → IsStep s
    delivers s e = let k = map_some _ (only_number 1 (2 ^ 64 - 1) ws) s e in subst IsStep k.2 (only_in_range 1 (2 ^ 64 - 1) ws k.0 k.1).0

    loses : (s : Step) → option_map Lose (only_number 1 (2 ^ 64 - 1) ws) ≡ Some s → IsStep s
    loses s e = let k = map_some _ (only_number 1 (2 ^ 64 - 1) ws) s e in subst IsStep k.2 (only_in_range 1 (2 ^ 64 - 1) ws k.0 k.1).0

    settles : (s : Step) → option_map Settle (all_servers ws) ≡ Some s → IsStep s
    settles s e = let ns = map_some _ (all_servers ws) s e in subst IsStep ns.2 (all_in_range ws ns.0 ns.1)

worked_in_range : (ws : List Text) (s : Step) → worked_of ws ≡ Some s → IsStep s
unfolding worked_of IsStep
worked_in_range ws s e =
    let n = bind_some _ (first_server ws) s e in
    let p = bind_some _ (number_or_none 1 (2 ^ 64 - 1) n.0.1) s n.2 in
    carry IsStep p.2 (first_in_range 1 32 ws n.0 n.1, maybe_in_range 1 (2 ^ 64 - 1) n.0.1 IsPlace tt (λ k r. r.0) p.0 p.1)

ticked_in_range : (ws : List Text) (s : Step) → ticked_of ws ≡ Some s → IsStep s
unfolding ticked_of IsStep
ticked_in_range ws s e =
    let n = bind_some _ (first_server ws) s e in
    let k = bind_some _ (number_or_none 1 10000 n.0.1) s n.2 in
    carry IsStep k.2 (first_in_range 1 32 ws n.0 n.1, maybe_in_range 1 10000 n.0.1 (λ o. IsIn 1 10000 (unwrap_or o 1)) (omega arith, omega arith) (λ m r. r) k.0 k.1)

pace_in_range : (name : Text) (ws : List Text) (s : Step) → pace_of name ws ≡ Some s → IsStep s
unfolding pace_of IsStep
pace_in_range name ws =
    named (bytes_eq name (codes "work")) _ _ IsStep (worked_in_range ws)
    (named (bytes_eq name (codes "drain")) _ _ IsStep (λ s e. lone Drain IsStep tt s ws e)
    (named (bytes_eq name (codes "tick")) _ _ IsStep (ticked_in_range ws) (nothing IsStep)))

started_in_range : (ws : List Text) (s : Step) → started_of ws ≡ Some s → IsStep s
unfolding started_of IsStep
started_in_range ws s e =
    let n = bind_some _ (first_server ws) s e in
    let via = bind_some _ (only_server n.0.1) s n.2 in
    carry IsStep via.2 (first_in_range 1 32 ws n.0 n.1, only_in_range 1 32 n.0.1 via.0 via.1)

offline_in_range : (ws : List Text) (s : Step) → offline_of ws ≡ Some s → IsStep s
unfolding offline_of IsStep
offline_in_range ws s e =
    let n = bind_some _ (first_server ws) s e in
    let r = bind_some _ (row_of n.0.1) s n.2 in
    let row = row_in_range n.0.1 r.0 r.1 in
    carry IsStep r.2 (first_in_range 1 32 ws n.0 n.1, row.0, row.1)

power_in_range : (name : Text) (ws : List Text) (s : Step) → power_of name ws ≡ Some s → IsStep s
unfolding power_of IsStep
power_in_range name ws =
    named (bytes_eq name (codes "start")) _ _ IsStep (started_in_range ws)
    (named (bytes_eq name (codes "stop")) _ _ IsStep stops
    (named (bytes_eq name (codes "offline")) _ _ IsStep (offline_in_range ws) (nothing IsStep)))
  where
    stops : (s : Step) → option_map Stop (only_server ws) ≡ Some s → IsStep s
    stops s e = let n = map_some _ (only_server ws) s e in subst IsStep n.2 (only_in_range 1 32 ws n.0 n.1)

-- ---- looks

config_in_range : (ws : List Text) (s : Step) → config_of ws ≡ Some s → IsStep s
unfolding config_of IsStep
config_in_range ws s e =
    let n = bind_some _ (first_server ws) s e in
    let t = bind_some _ (only_number 1 (2 ^ 64 - 1) n.0.1) s n.2 in
    carry IsStep t.2 (first_in_range 1 32 ws n.0 n.1, (only_in_range 1 (2 ^ 64 - 1) n.0.1 t.0 t.1).0)

at_server_in_range : (name : Text) (n : ℕ) → IsServer n → (s : Step) → at_server name n ≡ Some s → IsStep s
unfolding at_server IsStep
at_server_in_range name n r =
    named (bytes_eq name (codes "members")) _ _ IsStep (λ s e. subst IsStep (same (ShowMembers n) s e) r)
    (named (bytes_eq name (codes "slots")) _ _ IsStep (λ s e. subst IsStep (same (ShowSlots n) s e) r)
    (named (bytes_eq name (codes "gtids")) _ _ IsStep (λ s e. subst IsStep (same (ShowGtids n) s e) r)
    (named (bytes_eq name (codes "rows")) _ _ IsStep (λ s e. subst IsStep (same (ShowRows n) s e) r)
    (named (bytes_eq name (codes "queue")) _ _ IsStep (λ s e. subst IsStep (same (ShowQueue n) s e) r)
    (named (bytes_eq name (codes "certifier")) _ _ IsStep (λ s e. subst IsStep (same (ShowCertifier n) s e) r)
    (named (bytes_eq name (codes "kept")) _ _ IsStep (λ s e. subst IsStep (same (ShowKept n) s e) r) (nothing IsStep)))))))
  where
    same : (x s : Step) → Some x ≡ Some s → x ≡ s
    same x s e = cc e

shown_in_range : (name : Text) (ws : List Text) (s : Step) → shown_of name ws ≡ Some s → IsStep s
unfolding shown_of IsStep
shown_in_range name ws =
    named (bytes_eq name (codes "config")) _ _ IsStep (config_in_range ws)
    (named (bytes_eq name (codes "wire")) _ _ IsStep (λ s e. lone ShowWire IsStep tt s ws e) at_one)
  where
    at_one : (s : Step) → option_and_then (at_server name) (only_server ws) ≡ Some s → IsStep s
    at_one s e = let n = bind_some _ (only_server ws) s e in at_server_in_range name n.0 (only_in_range 1 32 ws n.0 n.1) s n.2

look_in_range : (name : Text) (ws : List Text) (s : Step) → look_of name ws ≡ Some s → IsStep s
unfolding look_of
look_in_range name ws = named (bytes_eq name (codes "show")) _ _ IsStep looks (nothing IsStep)
  where
    looks : (s : Step) → option_and_then (λ (what, args). shown_of what args) (first_word ws) ≡ Some s → IsStep s
    looks s e = let w = bind_some _ (first_word ws) s e in shown_in_range w.0.0 w.0.1 s w.2

-- ---- lines

call_in_range : (number : ℕ) (name : Text) (ws : List Text) → 1 ≤ number → number ≤ 1000000 → (s : Step) → call_of number name ws ≡ Some s → IsStep s
unfolding call_of
call_in_range number name ws low high = named (bytes_eq name (codes "once")) _ _ IsStep (λ s e. once_in_range number ws s low high e) (session_in_range name ws)

step_in_range : (number : ℕ) (name : Text) (ws : List Text) → 1 ≤ number → number ≤ 1000000 → (s : Step) → step_of number name ws ≡ Some s → IsStep s
unfolding step_of
step_in_range number name ws low high =
    other _ _ IsStep
    (other _ _ IsStep
    (other _ _ IsStep
    (other _ _ IsStep
    (other _ _ IsStep
    (other _ _ IsStep (call_in_range number name ws low high) (setting_in_range name ws))
    (operator_in_range name ws))
    (wire_in_range name ws))
    (pace_in_range name ws))
    (power_in_range name ws))
    (look_in_range name ws)

pub line_in_range : (number : ℕ) (line : Text) (l : Line) → 1 ≤ number → number ≤ 1000000 → line_of number line ≡ Some l → IsInRange l
unfolding line_of
line_in_range number line l low high e = by_words (named_words line) e
  where
    by_words : (w : Option (Text × List Text)) → line_by number w ≡ Some l → IsInRange l
    by_words None e = carry IsInRange e tt
    by_words (Some w) e = let x = map_some _ (step_of number w.0 w.1) l e in subst IsInRange x.2 (step_in_range number w.0 w.1 low high x.0 x.1)
