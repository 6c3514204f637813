-- The list of a log: its entries have their effects, and its verdicts are those of the scan of the laws.
use Rattle.std.proofs.Common.{◌≡◌, ℕ, suc, ◌+◌, Bool, true, false, cond, not, ◌&&◌, ◌||◌, Option, Some, None, List, [], ◌∷◌, refl, sym, ap, subst, ◌∙◌, length, map, arith}
use Rattle.std.specs.Prelude.{filter, if◌then◌else◌}
use Rattle.std.specs.List.{list_any, find}
use Rattle.gr_ids.specs.declared.names.Inc.{Inc}
use Rattle.gr_ids.specs.declared.names.OpenParts.{OpenParts}
use Rattle.gr_ids.specs.Names.{inc_eq}
use Rattle.gtid_sets.specs.Sets.{has}
use Rattle.key_items.specs.declared.item.Item.{Item}
use Rattle.key_items.specs.Items.{item_eq, has_item}
use Rattle.key_items.proofs.Order.{Stands, Below, Same, Above, stands}
use Rattle.slot_values.specs.declared.value.Joiner.{Joiner}
use Rattle.slot_values.specs.declared.value.Value.{Value}
use Rattle.slot_values.specs.declared.value.What.{What}
use Rattle.slot_values.specs.declared.value.What.TheVariants.{Noop, Add, Remove, Body as Says}
use Rattle.slot_values.specs.declared.kept.Kept.TheVariants.{At as KeptAt, Skipped as IsSkipped}
use Rattle.slot_values.specs.Log.{is_kept, has_effect}
use Rattle.txn_forms.specs.declared.body.Txn.{Txn}
use Rattle.txn_forms.specs.declared.body.Body.{Body}
use Rattle.txn_forms.specs.declared.body.Body.TheVariants.{Txn as Writes, Part as PartOf}
use Rattle.group_rules.specs.declared.marks.Effect.{Effect}
use Rattle.group_rules.specs.declared.marks.Effect.TheVariants.{Plain, Void}
use Rattle.group_rules.specs.Events.{Life, Setup, Cert, Entry}
use Rattle.group_rules.specs.Life.{view, certs, has_give}
use Rattle.group_rules.specs.View.{effect_in, void_if, is_idle}
use Rattle.group_rules.specs.Parts.{open_parts, held, is_void_part}
use Rattle.group_rules.specs.Certifier.{number_after, opens_block}
use Rattle.group_rules.specs.OneList.{reading_of, scan, scan_by, scan_number, blocks_taken, number_in, scan_effect, scan_entry, stands_in_way, listed_by, listed}
use Rattle.group_laws.specs.Lists.{newest}
use Rattle.group_laws.specs.Entries as law
use Rattle.group_laws.specs.Verdict as decided
use Rattle.group_laws.specs.Life as lives
use Rattle.group_lives.specs.Lives.{does_entry, outcome_of, law_cert, placed, life_of}
use Rattle.group_lives.specs.Sound.{IsEffect, IsTaking}
use Rattle.group_lives.proofs.Taking.{certs_agree}
use Rattle.group_order.proofs.Listed.{listed_place}

-- ---- effects

said_effect : (s : Setup) (l : Life) (h : Bool) (v : Value) (o : Option OpenParts) (x : List ℕ) (b : Option Body) → v.what ≡ Says x → IsEffect s (view s l) (Says x) b (scan_effect s l h v o b)
said_effect s l h v o x None e = (h, ap (λ (w : What). effect_in (view s l) h w None) e)
said_effect s l h v o x (Some (Writes t)) e = go (find (stands_in_way t) (certs l))
  where
    go : (c : Option Cert) → IsEffect s (view s l) (Says x) (Some (Writes t)) (scan_by (record { source = s.limits.group; number = scan_number s.limits.block (certs l) v.id.origin }) c)
    go None = refl
    go (Some c) = tt
said_effect s l h v o x (Some (PartOf p)) e = (is_void_part o (Some (PartOf p)), refl)
said_effect s l h v o x (Some b) e = (h, ap (λ (w : What). effect_in (view s l) h w (Some b)) e)

entry_effect : (s : Setup) (l : Life) (h : Bool) (v : Value) (o : Option OpenParts) → IsEffect s (view s l) v.what (held o v.what) (scan_effect s l h v o (held o v.what))
entry_effect s l h v o = go v.what refl
  where
    go : (w : What) → v.what ≡ w → IsEffect s (view s l) w (held o w) (scan_effect s l h v o (held o w))
    go (Says x) e = said_effect s l h v o x (held o (Says x)) e
    go Noop e = (h, ap (λ (w : What). effect_in (view s l) h w None) e)
    go (Add j) e = (h, ap (λ (w : What). effect_in (view s l) h w None) e)
    go (Remove i) e = (h, ap (λ (w : What). effect_in (view s l) h w None) e)

pub takes : (t : Setup) (base : List law.Placed) (log : List Value) → IsTaking t base (listed t log)
takes t base [] = refl
takes t base (v ∷ log) = go (is_kept (reading_of t log) v) (takes t base log)
  where
    place : (n : ℕ) → n + 1 ≡ suc n
    place n = omega arith

    go : (b : Bool) → IsTaking t base (listed t log)
        → IsTaking t base (listed_by t (listed t log) (suc (length log)) v (if b then KeptAt ((reading_of t log).place + 1) (has_effect (reading_of t log) v.what) else IsSkipped))
    go true k = ((place (reading_of t log).place ∙ ap suc (sym (listed_place t log)), entry_effect t (listed t log) (has_effect (reading_of t log) v.what) v (open_parts (listed t log) v.id.origin)), k)
    go false k = k

-- ---- the scan of the rules is that of the laws

-- a certified transaction as the laws have it
abbrev map_cert : Option Cert → Option law.Cert
map_cert None = None
map_cert (Some c) = Some (law_cert c)

newest_map : (p : law.Cert → Bool) (cs : List Cert) → newest p (map law_cert cs) ≡ map_cert (find (λ c. p (law_cert c)) cs)
newest_map p [] = refl
newest_map p (c ∷ cs) = go (p (law_cert c)) (newest_map p cs)
  where
    go : (b : Bool) → newest p (map law_cert cs) ≡ map_cert (find (λ c. p (law_cert c)) cs) → cond b (Some (law_cert c)) (newest p (map law_cert cs)) ≡ map_cert (cond b (Some c) (find (λ c. p (law_cert c)) cs))
    go true k = refl
    go false k = k

find_same : (p q : Cert → Bool) → ((c : Cert) → p c ≡ q c) → (cs : List Cert) → find p cs ≡ find q cs
find_same p q e [] = refl
find_same p q e (c ∷ cs) = λ k. cond (e c k) (Some c) (find_same p q e cs k)

-- two lists share an item, from either side
any_or : (f g : Item → Bool) (xs : List Item) → list_any (λ x. f x || g x) xs ≡ (list_any f xs || list_any g xs)
any_or f g [] = refl
any_or f g (x ∷ xs) = ap (λ (z : Bool). (f x || g x) || z) (any_or f g xs) ∙ four (f x) (g x) (list_any f xs) (list_any g xs)
  where
    four : (a b c d : Bool) → ((a || b) || (c || d)) ≡ ((a || c) || (b || d))
    four true b c d = refl
    four false true true d = refl
    four false true false d = refl
    four false false c d = refl

any_none : (xs : List Item) → list_any (λ x. false) xs ≡ false
any_none [] = refl
any_none (x ∷ xs) = any_none xs

any_same : (f g : Item → Bool) → ((x : Item) → f x ≡ g x) → (xs : List Item) → list_any f xs ≡ list_any g xs
any_same f g e [] = refl
any_same f g e (x ∷ xs) = λ k. e x k || any_same f g e xs k

eq_back : (a b : Item) → item_eq a b ≡ item_eq b a
eq_back a b = go (stands a b)
  where
    go : Stands a b → item_eq a b ≡ item_eq b a
    go (Below p q r s) = q ∙ sym s
    go (Same p q r s) = q ∙ sym s
    go (Above p q r s) = q ∙ sym s

shared_back : (xs ys : List Item) → list_any (has_item ys) xs ≡ list_any (has_item xs) ys
shared_back xs [] = any_none xs
shared_back xs (y ∷ ys) =
    any_or (λ x. item_eq x y) (has_item ys) xs
    ∙ (λ k. any_same (λ x. item_eq x y) (item_eq y) (λ x. eq_back x y) xs k || shared_back xs ys k)

in_way : (t : Txn) (c : Cert) → stands_in_way t c ≡ decided.blocks t (law_cert c)
in_way t c = ap (λ (b : Bool). b && not (has t.snapshot c.gtid)) (shared_back c.txn.items t.items)

blocks_same : (b : ℕ) (cs : List Cert) → blocks_taken b cs ≡ decided.blocks_taken b (map law_cert cs)
blocks_same b [] = refl
blocks_same b (c ∷ cs) = go (opens_block b c.gtid.number) (blocks_same b cs)
  where
    go : (o : Bool) → blocks_taken b cs ≡ decided.blocks_taken b (map law_cert cs)
        → length (cond o (c ∷ filter (λ c. opens_block b c.gtid.number) cs) (filter (λ c. opens_block b c.gtid.number) cs)) ≡ cond o (suc (decided.blocks_taken b (map law_cert cs))) (decided.blocks_taken b (map law_cert cs))
    go true k = ap suc k
    go false k = k

number_same : (b : ℕ) (cs : List Cert) (m : Inc) → number_in (find (λ c. inc_eq c.id.origin m) cs) ≡ decided.number_in (decided.last_of m (map law_cert cs))
number_same b cs m = go (find (λ c. inc_eq c.id.origin m) cs) ∙ ap decided.number_in (sym (newest_map (λ c. inc_eq c.origin m) cs))
  where
    go : (o : Option Cert) → number_in o ≡ decided.number_in (map_cert o)
    go None = refl
    go (Some c) = refl

scan_same : (s : Setup) (cs : List Cert) (m : Inc) (t : Txn) → outcome_of (scan s.limits cs m t) ≡ decided.scan_parts s (map law_cert cs) m (law.Write t)
scan_same s cs m t =
    go (find (stands_in_way t) cs)
    ∙ ap (λ (o : Option law.Cert). decided.decided (scan_number s.limits.block cs m) o) (ap map_cert (find_same (stands_in_way t) (λ c. decided.blocks t (law_cert c)) (in_way t) cs) ∙ sym (newest_map (decided.blocks t) cs))
    ∙ (λ k. decided.decided (number_after s.limits.block (blocks_same s.limits.block cs k) (number_same s.limits.block cs m k)) (newest (decided.blocks t) (map law_cert cs)))
  where
    go : (o : Option Cert) → outcome_of (scan_by (record { source = s.limits.group; number = scan_number s.limits.block cs m }) o) ≡ decided.decided (scan_number s.limits.block cs m) (map_cert o)
    go None = refl
    go (Some c) = refl

-- ---- the outcomes of the list

idle_outcome : (b : Bool) → outcome_of (void_if b) ≡ law.NoTxn
idle_outcome true = refl
idle_outcome false = refl

-- what is no transaction has no outcome
abbrev HasNone : Setup → List law.Cert → Inc → What → Effect → Option Body → Type 0
HasNone s cs m w e b = outcome_of e ≡ decided.scan_parts s cs m (does_entry w e b)

added_none : (s : Setup) (cs : List law.Cert) (m : Inc) (w : What) (b : Bool) → ((e : Effect) → decided.scan_parts s cs m (does_entry w e None) ≡ law.NoTxn) → HasNone s cs m w (void_if b) None
added_none s cs m w true f = sym (f Void)
added_none s cs m w false f = sym (f Plain)

add_plain : (s : Setup) (cs : List law.Cert) (m : Inc) (j : Joiner) (e : Effect) → decided.scan_parts s cs m (does_entry (Add j) e None) ≡ law.NoTxn
add_plain s cs m j Plain = refl
add_plain s cs m j e = refl

remove_plain : (s : Setup) (cs : List law.Cert) (m i : Inc) (e : Effect) → decided.scan_parts s cs m (does_entry (Remove i) e None) ≡ law.NoTxn
remove_plain s cs m i Plain = refl
remove_plain s cs m i e = refl

said_outcome : (s : Setup) (l : Life) (h : Bool) (v : Value) (o : Option OpenParts) (x : List ℕ) (b : Option Body) → v.what ≡ Says x
    → outcome_of (scan_effect s l h v o b) ≡ decided.scan_parts s (map law_cert (certs l)) v.id.origin (does_entry (Says x) (scan_effect s l h v o b) b)
said_outcome s l h v o x None e = ap (λ (w : What). outcome_of (effect_in (view s l) h w None)) e
said_outcome s l h v o x (Some (Writes t)) e = scan_same s (certs l) v.id.origin t
said_outcome s l h v o x (Some (PartOf p)) e = idle_outcome (is_void_part o (Some (PartOf p)))
said_outcome s l h v o x (Some b) e = ap (λ (w : What). outcome_of (effect_in (view s l) h w (Some b))) e ∙ idle_outcome (is_idle (view s l) b)

entry_outcome : (s : Setup) (l : Life) (h : Bool) (v : Value) (o : Option OpenParts)
    → outcome_of (scan_effect s l h v o (held o v.what)) ≡ decided.scan_parts s (map law_cert (certs l)) v.id.origin (does_entry v.what (scan_effect s l h v o (held o v.what)) (held o v.what))
entry_outcome s l h v o = go v.what refl
  where
    cs : List law.Cert
    cs = map law_cert (certs l)

    here : (w : What) → v.what ≡ w → HasNone s cs v.id.origin w (effect_in (view s l) h w None) None → HasNone s cs v.id.origin w (effect_in (view s l) h v.what None) None
    here w e k = subst (λ (y : What). HasNone s cs v.id.origin w (effect_in (view s l) h y None) None) (sym e) k

    go : (w : What) → v.what ≡ w → outcome_of (scan_effect s l h v o (held o w)) ≡ decided.scan_parts s (map law_cert (certs l)) v.id.origin (does_entry w (scan_effect s l h v o (held o w)) (held o w))
    go (Says x) e = said_outcome s l h v o x (held o (Says x)) e
    go Noop e = here Noop e refl
    go (Add j) e = here (Add j) e (added_none s cs v.id.origin (Add j) (not h) (add_plain s cs v.id.origin j))
    go (Remove i) e = here (Remove i) e (added_none s cs v.id.origin (Remove i) (not h) (remove_plain s cs v.id.origin i))

pub no_give : (t : Setup) (log : List Value) → has_give (listed t log) ≡ false
no_give t [] = refl
no_give t (v ∷ log) = go (is_kept (reading_of t log) v) (no_give t log)
  where
    go : (b : Bool) → has_give (listed t log) ≡ false → has_give (listed_by t (listed t log) (suc (length log)) v (if b then KeptAt ((reading_of t log).place + 1) (has_effect (reading_of t log) v.what) else IsSkipped)) ≡ false
    go true k = k
    go false k = k

abbrev pub old_list : Setup → List law.Placed → List Value → List law.Placed
old_list t base log = lives.marked (life_of base (listed t log))

abbrev pub new_entry : Setup → Value → List Value → Entry
new_entry t v log = scan_entry t (listed t log) (suc (length log)) ((reading_of t log).place + 1) (has_effect (reading_of t log) v.what) v

new_outcome : (t : Setup) (base : List law.Placed) (v : Value) (log : List Value)
    → (placed (new_entry t v log)).outcome ≡ decided.scan_parts t (law.certified t (old_list t base log)) v.id.origin (placed (new_entry t v log)).value.body
new_outcome t base v log =
    entry_outcome t (listed t log) (has_effect (reading_of t log) v.what) v (open_parts (listed t log) v.id.origin)
    ∙ ap (λ cs. decided.scan_parts t cs v.id.origin (placed (new_entry t v log)).value.body) (sym (certs_agree t base (listed t log) (takes t base log) (no_give t log)))

pub scanned : (t : Setup) (base : List law.Placed) (log : List Value) → lives.marked (life_of base (listed t log)) ≡ decided.scan t (lives.taken (life_of base (listed t log)))
scanned t base [] = refl
scanned t base (v ∷ log) = go (is_kept (reading_of t log) v) (scanned t base log)
  where
    go : (b : Bool) → old_list t base log ≡ decided.scan t (law.values (old_list t base log))
        → let l : Life = listed_by t (listed t log) (suc (length log)) v (if b then KeptAt ((reading_of t log).place + 1) (has_effect (reading_of t log) v.what) else IsSkipped) in
        lives.marked (life_of base l) ≡ decided.scan t (lives.taken (life_of base l))
    go true k =
        let o = new_outcome t base v log ∙ ap (λ (m : List law.Placed). decided.scan_parts t (law.certified t m) v.id.origin (placed (new_entry t v log)).value.body) k in
        λ j. record { value = (placed (new_entry t v log)).value; outcome = o j } ∷ k j
    go false k = k
