-- What a place holds can be spelt.
use Rattle.std.proofs.Common.{◌≡◌, ℕ, ◌≤◌, Bool, true, false, Option, Some, None, List, [], ◌∷◌, ◌++◌, ltb, leb, refl, subst, ◌∙◌, arith, length}
use Rattle.std.proofs.lemmas.Bool.{and_parts, leb-true}
use Rattle.std.proofs.lemmas.List.{append-nil}
use Rattle.byte_forms.specs.Reads.{Read, Got, Fault, at_end, go_on, value_of}
use Rattle.gr_ids.specs.declared.names.OpenParts.{OpenParts}
use Rattle.slot_values.specs.Spelling.{IsWhat, last_u32}
use Rattle.slot_values.specs.declared.value.What.{What}
use Rattle.slot_values.specs.declared.value.What.TheVariants.{Noop, Add, Remove, Body as Says}
use Rattle.txn_forms.specs.declared.body.Body.{Body}
use Rattle.txn_forms.specs.declared.body.Part.{Part}
use Rattle.txn_forms.specs.declared.body.Body.TheVariants as body
use Rattle.txn_forms.specs.Bodies.{IsBody, body_bytes, next_body, read_body}
use Rattle.txn_forms.specs.Parts.{bytes_before, if_txn, is_large, is_last, joined, most_bytes, whole_bytes}
use Rattle.txn_forms.proofs.BodyForms.{body_spelled}
use Rattle.group_rules.specs.Parts.{held, held_body, held_part, joined_or}
use Rattle.member_ranges.specs.Lives.{IsHolding}

read_whole : (r : Read Body) (b : Body) → value_of (go_on r at_end) ≡ Some b → r ≡ Got b []
read_whole (Got x []) b e = cc
read_whole (Got x (y ∷ ys)) b e = cc
read_whole (Fault n) b e = cc

spelt_by : (bytes : List ℕ) (b : Body) → read_body bytes ≡ Some b → IsBody b × (bytes ≡ body_bytes b)
spelt_by bytes b e = let r = body_spelled.spells bytes [] b (read_whole (next_body bytes) b e) in (r.0, r.1 ∙ append-nil (body_bytes b))

pub read_holding : (bytes : List ℕ) (b : Body) → length bytes ≤ last_u32 → read_body bytes ≡ Some b → IsBody b × (length (body_bytes b) ≤ last_u32)
read_holding bytes b h e = let r = spelt_by bytes b e in (r.0, subst (λ l. length l ≤ last_u32) r.1 h)

txn_holding : (bytes : List ℕ) → length bytes ≤ last_u32 → (o : Option Body) → read_body bytes ≡ o → IsHolding (if_txn o)
txn_holding bytes h (Some (body.Txn t)) e = read_holding bytes (body.Txn t) h e
txn_holding bytes h None e = tt
txn_holding bytes h (Some (body.Prepared g)) e = tt
txn_holding bytes h (Some body.Sync) e = tt
txn_holding bytes h (Some (body.Executed s)) e = tt
txn_holding bytes h (Some (body.Online s)) e = tt
txn_holding bytes h (Some (body.Mode m)) e = tt
txn_holding bytes h (Some (body.Primary i)) e = tt
txn_holding bytes h (Some (body.Part p)) e = tt

joined_holding : (bytes : List ℕ) → IsHolding (joined bytes)
joined_holding bytes = go (is_large (length bytes)) refl
  where
    small : is_large (length bytes) ≡ true → length bytes ≤ last_u32
    small e = let a = leb-true (length bytes) most_bytes (and_parts (ltb whole_bytes (length bytes)) (leb (length bytes) most_bytes) e).1 in omega (arith, a)

    go : (u : Bool) → is_large (length bytes) ≡ u → IsHolding (joined bytes)
    go true e = rw (e, joined) (txn_holding bytes (small e) (read_body bytes) refl)
    go false e = rw (e, joined) tt

or_holding : (x : Part) (o : Option Body) → IsHolding (Some (body.Part x)) → IsHolding o → IsHolding (joined_or (body.Part x) o)
or_holding x None h k = h
or_holding x (Some t) h k = k

part_holding : (o : Option OpenParts) (x : Part) → IsHolding (Some (body.Part x)) → IsHolding (held_part o x)
part_holding o x h = go (is_last o x) refl
  where
    go : (u : Bool) → is_last o x ≡ u → IsHolding (held_part o x)
    go true e = rw (e, held_part) (or_holding x (joined (bytes_before o ++ x.bytes)) h (joined_holding (bytes_before o ++ x.bytes)))
    go false e = rw (e, held_part) h

body_holding : (o : Option OpenParts) (bytes : List ℕ) → length bytes ≤ last_u32 → (y : Option Body) → read_body bytes ≡ y → IsHolding (held_body o y)
body_holding o bytes h (Some (body.Part x)) e = part_holding o x (read_holding bytes (body.Part x) h e)
body_holding o bytes h None e = tt
body_holding o bytes h (Some (body.Txn t)) e = read_holding bytes (body.Txn t) h e
body_holding o bytes h (Some (body.Prepared g)) e = read_holding bytes (body.Prepared g) h e
body_holding o bytes h (Some body.Sync) e = read_holding bytes body.Sync h e
body_holding o bytes h (Some (body.Executed s)) e = read_holding bytes (body.Executed s) h e
body_holding o bytes h (Some (body.Online s)) e = read_holding bytes (body.Online s) h e
body_holding o bytes h (Some (body.Mode m)) e = read_holding bytes (body.Mode m) h e
body_holding o bytes h (Some (body.Primary i)) e = read_holding bytes (body.Primary i) h e

pub held_holding : (o : Option OpenParts) (n : ℕ) (w : What) → IsWhat n w → IsHolding (held o w)
held_holding o n (Says b) h = body_holding o b h.1 (read_body b) refl
held_holding o n Noop h = tt
held_holding o n (Add j) h = tt
held_holding o n (Remove i) h = tt
