-- A commit. The changes of its transaction, put behind those of later places that share no row with it, leave what they leave in the order of places.
use Rattle.std.proofs.Common.{◌≡◌, ◌⊎◌, inl, inr, ℕ, ◌≤◌, Bool, true, false, Option, None, List, [], ◌∷◌, refl, sym, ap, ◌∙◌, arith}
use Rattle.std.proofs.lemmas.Bool.{false≢true, cases_order}
use Rattle.gr_ids.specs.declared.names.Gtid.{Gtid}
use Rattle.gr_ids.specs.Names.{gtid_eq}
use Rattle.key_items.specs.declared.item.Item.{Item}
use Rattle.key_items.specs.declared.change.Change.{Change}
use Rattle.gtid_sets.specs.Canonical.{IsCanonical, IsNumber, IsUuid}
use Rattle.gtid_sets.specs.Sets.{Gtids, has, with_gtid}
use Rattle.node_rules.specs.Lists.{In}
use Rattle.group_rules.specs.Events.{Cert, Committed, Life}
use Rattle.group_rules.specs.Life.{certs, executed, stored}
use Rattle.group_rules.specs.Rows.{all_in, changed_row, known, offline_row, row_by, row_of}
use Rattle.row_store.specs.Chains.{Chain, IsApplied, row_at, row_now}
use Rattle.row_store.specs.Following.{IsCommit, IsWithin, RowsOf}
use Rattle.row_store.proofs.Versions.{gtid_itself, same_gtid}
use Rattle.row_store.proofs.Members.{has_both, new_or_old}
use Rattle.row_store.proofs.Known.{all_rises, apart_item, ends, has_item, same_by, touched, untouched}
use Rattle.row_store.proofs.Followed.{applied_alone, applied_now, inside, sees_inside, with_seen, with_unseen}

module _ (l : Life) (g : Gtid) (c : Cert) (cs ds : List Chain) (h : RowsOf l cs) (k : IsCommit l g c) (s : IsCanonical (executed l)) (u : IsUuid g.source) (n : IsNumber g.number) (a : IsApplied cs ds g c.txn.changes) where
  abbrev xs : List Change
  xs = c.txn.changes

  -- no offline writes: the rows are those of the certified transactions
  plain : (e : Gtids) (i : Item) → row_of l e i ≡ row_by i e None (known l)
  plain e i = ap (offline_row i e (row_by i e None (known l))) k.unwritten

  -- within the history with the commit, a set has this transaction and such as were executed before
  this_or_old : (e : Gtids) → IsWithin e (Committed g ∷ l) → (d : Cert) → In d (known l) → has e d.gtid ≡ true → (d ≡ c) ⊎ (has (executed l) d.gtid ≡ true)
  this_or_old e w d m t = elim (new_or_old (executed l) g d.gtid s u n (w.certified d m t)) [
    | inl q ↦ inl (k.only d m (ap (λ x. gtid_eq x g) (sym q) ∙ gtid_itself g))
    | inr q ↦ inr q
  ]

  -- a set without it was within the history before
  before : (e : Gtids) → IsWithin e (Committed g ∷ l) → has e g ≡ false → IsWithin e l
  before e w f = record {
    certified = λ d m t. old d.gtid (w.certified d m t) t;
    written = λ x m t. old x.gtid (w.written x m t) t;
  }
    where
      old : (m : Gtid) → has (with_gtid (executed l) g) m ≡ true → has e m ≡ true → has (executed l) m ≡ true
      old m t q = elim (new_or_old (executed l) g m s u n t) [ inl z ↦ absurd (false≢true (sym f ∙ ap (has e) z ∙ q)) | inr z ↦ z ]

  -- a row that it doesn't change
  other_row : (e : Gtids) (i : Item) → IsWithin e (Committed g ∷ l) → has_item i xs ≡ false → changed_row i (row_at cs i e) xs ≡ row_of l e i
  other_row e i w f =
      untouched i xs (row_at cs i e) f
      ∙ (sees_inside l cs i e h
      ∙ (plain (inside e l) i
      ∙ (sym (same_by i e (inside e l) None (known l) alike) ∙ sym (plain e i))))
    where
      alike : (d : Cert) → In d (known l) → (has e d.gtid ≡ has (inside e l) d.gtid) ⊎ ((v : Option (List ℕ)) → changed_row i v d.txn.changes ≡ v)
      alike d m = go (has e d.gtid) refl
        where
          both : (b : Bool) → has e d.gtid ≡ b → (b ≡ true → has (executed l) d.gtid ≡ true) → has e d.gtid ≡ has (inside e l) d.gtid
          both true t q = t ∙ sym (has_both e (executed l) d.gtid ∙ rw (t, q refl) refl)
          both false t q = t ∙ sym (has_both e (executed l) d.gtid ∙ rw t refl)

          go : (b : Bool) → has e d.gtid ≡ b → (has e d.gtid ≡ has (inside e l) d.gtid) ⊎ ((v : Option (List ℕ)) → changed_row i v d.txn.changes ≡ v)
          go true t = elim (this_or_old e w d m t) [
            | inl q ↦ inr (λ v. ap (λ (y : Cert). changed_row i v y.txn.changes) q ∙ untouched i xs v f)
            | inr q ↦ inl (both true t (λ z. q))
          ]
          go false t = inl (both false t (λ z. absurd (false≢true z)))

  -- a row that it changes is as it leaves it
  own_row : (e : Gtids) (i : Item) → IsWithin e (Committed g ∷ l) → has e g ≡ true → has_item i xs ≡ true → changed_row i (row_at cs i e) xs ≡ row_of l e i
  own_row e i w t f =
      touched i xs (row_at cs i e) None f
      ∙ (sym (ends i e (changed_row i None xs) None c (known l) (all_rises (all_in [] (stored l).committed) (certs l) (all_rises [] (stored l).committed tt)) k.certified here (λ v. touched i xs v None f) later) ∙ sym (plain e i))
    where
      here : has e c.gtid ≡ true
      here = ap (has e) (same_gtid c.gtid g k.named) ∙ t

      later : (d : Cert) → In d (known l) → has e d.gtid ≡ true → c.place ≤ d.place → changed_row i (changed_row i None xs) d.txn.changes ≡ changed_row i None xs
      later d m q le = elim (this_or_old e w d m q) [
        | inl z ↦ itself d z
        | inr z ↦ elim (cases_order c.place d.place) [
          | inl p ↦ itself d (k.placed d m (sym p))
          | inr (inl p) ↦ untouched i d.txn.changes (changed_row i None xs) (apart_item i xs d.txn.changes (k.ahead d m z p) f)
          | inr (inr p) ↦ absurd (omega (arith, p, le))
        ]
      ]
        where
          itself : (y : Cert) → y ≡ c → changed_row i (changed_row i None xs) y.txn.changes ≡ changed_row i None xs
          itself y z = ap (λ (x : Cert). changed_row i (changed_row i None xs) x.txn.changes) z ∙ touched i xs (changed_row i None xs) None f

  pub commits : ((i : Item) → row_now ds i ≡ changed_row i (row_now cs i) c.txn.changes) → RowsOf (Committed g ∷ l) ds
  commits b = record {
    seen = λ i e w. seen i e w;
    alone = applied_alone (executed l) g xs cs ds a h.alone;
    now = applied_now (executed l) g xs cs ds a h.alone h.now b;
  }
    where
      seen : (i : Item) (e : Gtids) → IsWithin e (Committed g ∷ l) → row_at ds i e ≡ row_of l e i
      seen i e w = go (has e g) (has_item i xs) refl refl
        where
          go : (p q : Bool) → has e g ≡ p → has_item i xs ≡ q → row_at ds i e ≡ row_of l e i
          go false q x y = a i e ∙ (with_unseen g xs e i (row_at cs i e) x ∙ h.seen i e (before e w x))
          go true false x y = a i e ∙ (with_seen g xs e i (row_at cs i e) x ∙ other_row e i w y)
          go true true x y = a i e ∙ (with_seen g xs e i (row_at cs i e) x ∙ own_row e i w x y)
