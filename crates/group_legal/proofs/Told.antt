-- The sets that members tell are canonical, since they are read from bytes.
use Rattle.std.proofs.Common.{◌≡◌, ℕ, Bool, true, false, Option, Some, None, List, [], ◌∷◌, ◌++◌, refl, sym, ap, subst, ◌∙◌, length}
use Rattle.gr_ids.specs.declared.names.Inc.{Inc}
use Rattle.gr_ids.specs.declared.names.OpenParts.{OpenParts}
use Rattle.gr_ids.specs.Names.{inc_eq}
use Rattle.byte_forms.specs.Reads.{Read, Got, Fault, at_end, whole, value_of}
use Rattle.byte_forms.specs.Forms.{IsSpelled}
use Rattle.slot_values.specs.declared.value.What.{What}
use Rattle.slot_values.specs.declared.value.What.TheVariants.{Noop, Add, Remove, Body as Says}
use Rattle.txn_forms.specs.declared.body.Body.{Body}
use Rattle.txn_forms.specs.declared.body.Body.TheVariants.{Txn as Writes, Prepared, Sync, Executed, Online as Arrives, Mode as Switches, Primary as Appoints, Part as PartOf}
use Rattle.txn_forms.specs.declared.body.Part.{Part}
use Rattle.txn_forms.specs.Bodies.{IsBody, body_bytes, next_body, read_body}
use Rattle.txn_forms.specs.Parts.{is_last, is_large, if_txn, joined, bytes_before}
use Rattle.group_rules.specs.Events.{Did, Founds, Starts, Came, Made, Took, Skips, Done, Committed, Is, Gave, Answered, Begun, Changed, Replied, Called, AsksCommit, Ends, Enters, Restores, AskFails, Setup}
use Rattle.group_rules.specs.Parts.{open_parts, joined_or, held_part, held_body, held}
use Rattle.group_rules.specs.Told.{tells}
use Rattle.group_rules.specs.World.{Past, Does, Writes as WritesOffline, Halts, life_in}
use Rattle.slot_values.specs.declared.value.Value.{Value}
use Rattle.group_runs.specs.Runs.{AllDid}
use Rattle.group_order.specs.OneLog.{Follows}
use Rattle.node_rules.proofs.Incs.{inc_is}
use Rattle.group_lives.specs.Given.{IsToldSet}
use Rattle.group_lives.specs.Sound.{HasToldSets}

-- what the bytes of a body are
abbrev pub Spelled : Type 0
Spelled = IsSpelled IsBody body_bytes next_body

module _ (spelled : Spelled) where
  -- a body that is read is one in its ranges, of which these are the bytes
  pub body_read : (b : List ℕ) (x : Body) → read_body b ≡ Some x → IsBody x × (b ≡ body_bytes x)
  body_read b x h = go (next_body b) refl h
    where
      rest_none : (u : Body) (rest : List ℕ) → value_of (at_end u rest) ≡ Some x → (rest ≡ []) × (u ≡ x)
      rest_none u [] q = let e : u ≡ x = cc in (refl, e)
      rest_none u (y ∷ rest) q = absurd (cc q)

      go : (r : Read Body) → next_body b ≡ r → value_of (whole next_body b) ≡ Some x → IsBody x × (b ≡ body_bytes x)
      go (Fault n) e q = let z : None ≡ Some x = rw (e, whole) at q in absurd (cc z)
      go (Got u rest) e q =
          let z : value_of (at_end u rest) ≡ Some x = rw (e, whole) at q in
          let k = rest_none u rest z in
          let s = spelled.spells b rest u e in
          let c : b ≡ body_bytes u = s.1 ∙ ap (λ r. body_bytes u ++ r) k.0 ∙ append_nil (body_bytes u) in
          (subst IsBody k.1 s.0, c ∙ ap body_bytes k.1)
        where
          append_nil : (xs : List ℕ) → xs ++ [] ≡ xs
          append_nil [] = refl
          append_nil (y ∷ ys) = ap (λ l. y ∷ l) (append_nil ys)

  told_body : (b : List ℕ) (y : Option Body) → read_body b ≡ y → IsToldSet (tells y)
  told_body b None e = tt
  told_body b (Some (Executed s)) e = (body_read b (Executed s) e).0
  told_body b (Some (Arrives s)) e = (body_read b (Arrives s) e).0
  told_body b (Some (Writes t)) e = tt
  told_body b (Some (Prepared g)) e = tt
  told_body b (Some Sync) e = tt
  told_body b (Some (Switches m)) e = tt
  told_body b (Some (Appoints i)) e = tt
  told_body b (Some (PartOf p)) e = tt

-- joined bytes tell no set
joined_tells : (p : Part) (b : List ℕ) → tells (joined_or (PartOf p) (joined b)) ≡ None
joined_tells p b = go (is_large (length b)) (read_body b)
  where
    txn : (y : Option Body) → tells (joined_or (PartOf p) (if_txn y)) ≡ None
    txn None = refl
    txn (Some (Writes t)) = refl
    txn (Some (Prepared g)) = refl
    txn (Some Sync) = refl
    txn (Some (Executed s)) = refl
    txn (Some (Arrives s)) = refl
    txn (Some (Switches m)) = refl
    txn (Some (Appoints i)) = refl
    txn (Some (PartOf q)) = refl

    go : (l : Bool) (y : Option Body) → tells (joined_or (PartOf p) (elim l [ true ↦ if_txn y | false ↦ None ])) ≡ None
    go true y = txn y
    go false y = refl

part_tells : (o : Option OpenParts) (p : Part) → tells (held_part o p) ≡ None
part_tells o p = go (is_last o p)
  where
    go : (b : Bool) → tells (elim b [ true ↦ joined_or (PartOf p) (joined (bytes_before o ++ p.bytes)) | false ↦ Some (PartOf p) ]) ≡ None
    go true = joined_tells p (bytes_before o ++ p.bytes)
    go false = refl

module _ (spelled : Spelled) where
  held_tells : (o : Option OpenParts) (w : What) → IsToldSet (tells (held o w))
  held_tells o Noop = tt
  held_tells o (Add j) = tt
  held_tells o (Remove i) = tt
  held_tells o (Says b) = go (read_body b) refl
    where
      go : (y : Option Body) → read_body b ≡ y → IsToldSet (tells (held_body o y))
      go (Some (PartOf p)) e = subst IsToldSet (sym (part_tells o p)) tt
      go None e = tt
      go (Some (Executed s)) e = told_body spelled b (Some (Executed s)) e
      go (Some (Arrives s)) e = told_body spelled b (Some (Arrives s)) e
      go (Some (Writes t)) e = tt
      go (Some (Prepared g)) e = tt
      go (Some Sync) e = tt
      go (Some (Switches m)) e = tt
      go (Some (Appoints i)) e = tt

  -- the sets that the members of a history told are canonical
  pub told_sets : (t : Setup) (log : List Value) (p : Past) → AllDid (Follows t log) p → (i : Inc) → HasToldSets (life_in p i)
  told_sets t log [] h i = tt
  told_sets t log (WritesOffline n y ∷ p) h i = told_sets t log p h i
  told_sets t log (Halts n ∷ p) h i = told_sets t log p h i
  told_sets t log (Does j d ∷ p) h i = go (inc_eq j i) refl (told_sets t log p h.1 i)
    where
      by : (c : Did) → Follows t log p j c → j ≡ i → HasToldSets (life_in p i) → HasToldSets (c ∷ life_in p i)
      by (Took e) f q k = (subst (λ y. IsToldSet (tells y.holds)) (sym f.is_it) (held_tells (open_parts (life_in p j) e.value.id.origin) e.value.what), k)
      by Founds f q k = k
      by (Starts y) f q k = k
      by (Came y) f q k = k
      by (Made v y) f q k = k
      by (Skips s v) f q k = k
      by (Done n) f q k = k
      by (Committed g) f q k = k
      by (Is y c) f q k = k
      by (Gave n m) f q k = k
      by (Answered s y) f q k = k
      by (Begun s y z) f q k = k
      by (Changed s c) f q k = k
      by (Replied r) f q k = k
      by (Called s v b) f q k = k
      by (AsksCommit s y) f q k = k
      by (Ends s) f q k = k
      by (Enters u) f q k = k
      by (Restores g cs) f q k = k
      by AskFails f q k = k

      go : (b : Bool) → inc_eq j i ≡ b → HasToldSets (life_in p i) → HasToldSets (elim b [ true ↦ d ∷ life_in p i | false ↦ life_in p i ])
      go true e k = by d h.0 (inc_is j i e) k
      go false e k = k
