-- A row is written while no incarnation runs.
use Rattle.std.proofs.Common.{◌≡◌, ◌≤◌, ◌⊎◌, inl, inr, ◌∙◌, ℕ, suc, false, List, [], ◌∷◌, ◌++◌, length, sym, ap, subst, arith, length-append}
use Rattle.gr_ids.specs.Names.{bytes_eq}
use Rattle.gr_ids.specs.declared.names.Gtid.{Gtid}
use Rattle.gtid_sets.specs.Canonical.{IsCanonical, IsNumber, IsUuid}
use Rattle.gtid_sets.specs.Sets.{with_gtid}
use Rattle.gtid_sets.proofs.PutLemmas.{canonical_with_gtid}
use Rattle.key_items.specs.declared.item.Item.{Item}
use Rattle.node_rules.specs.Lists.{In}
use Rattle.group_rules.specs.Events.{Cert, Life, OfflineWrite, Starts, Stored}
use Rattle.group_rules.specs.Life.{executed}
use Rattle.group_rules.specs.Rows.{changed_row}
use Rattle.row_store.specs.Chains.{Chain, IsApplied, last_row, row_now, seen_in, versions_of}
use Rattle.row_store.specs.Following.{IsFree, RowsOf, with_write, write_change}
use Rattle.row_store.proofs.Known.{in_either}
use Rattle.kept_server.specs.declared.kept.KeptServer.{KeptServer}
use Rattle.kept_server.specs.Keeping.{KeptFor, offline_write}
use Rattle.kept_server.proofs.Free.{free}

-- rows for which there is room for more are the same rows
pub roomed : (l : Life) (old mid : List Chain) → ((i : Item) → versions_of mid i ≡ versions_of old i) → RowsOf l old → RowsOf l mid
roomed l old mid same h = record {
  seen = λ i e w. ap (seen_in e) (same i) ∙ h.seen i e w;
  alone = λ i e f a. ap (seen_in e) (same i) ∙ (h.alone i e f a ∙ sym (ap (seen_in f) (same i)));
  now = λ i. ap last_row (same i) ∙ (h.now i ∙ sym (ap (seen_in (executed l)) (same i)));
}

pub unwritten : (y : Stored) (k z : KeptServer) → z.executed ≡ k.executed → ((i : Item) → versions_of z.store i ≡ versions_of k.store i) → z.earlier ≡ k.earlier → KeptFor y k → KeptFor y z
unwritten y k z set same earlier h = record {
  stored = record {
    executed = set ∙ h.stored.executed;
    canonical = h.stored.canonical;
    rows = roomed (Starts y ∷ []) k.store z.store same h.stored.rows;
    gtids = h.stored.gtids;
    places = h.stored.places;
    committed = ap (λ x. x.committed.items) earlier ∙ h.stored.committed;
  };
  earlier = record {
    committed = ap (λ x. x.committed.items) earlier ∙ h.earlier.committed;
    written = ap (λ x. x.written) earlier ∙ h.earlier.written;
    numbers = h.earlier.numbers;
  };
}

-- the row can be written under this name
abbrev IsLaw : Type 0
IsLaw = (y : Stored) (w : OfflineWrite) (old new : List Chain) → RowsOf (Starts y ∷ []) old → IsFree (Starts y ∷ []) w.gtid → IsCanonical y.executed → IsUuid w.gtid.source → IsNumber w.gtid.number
    → IsApplied old new w.gtid (write_change w ∷ []) → ((i : Item) → row_now new i ≡ changed_row i (row_now old i) (write_change w ∷ [])) → RowsOf (Starts (with_write y w) ∷ []) new

module _ (law : IsLaw) (y : Stored) (u : List ℕ) (item : Item) (r : List ℕ) (k z : KeptServer) (mid : List Chain) (h : KeptFor y k) (uuid : IsUuid u) (apart : (c : Cert) → In c y.committed → bytes_eq u c.gtid.source ≡ false) where
  abbrev w : OfflineWrite
  w = offline_write u item r y

  abbrev g : Gtid
  g = record { source = u; number = suc k.earlier.written }

  named : g ≡ w.gtid
  named = ap (λ n. record { source = u; number = suc n }) h.earlier.written

  longer : length (y.writes ++ w ∷ []) ≡ suc (length y.writes)
  longer = let e = length-append y.writes (w ∷ []) in omega (arith, e)

  numbers : (v : OfflineWrite) → In v (y.writes ++ w ∷ []) → v.gtid.number ≤ length (y.writes ++ w ∷ [])
  numbers v m = go (in_either v y.writes (w ∷ []) m)
    where
      go : In v y.writes ⊎ In v (w ∷ []) → v.gtid.number ≤ length (y.writes ++ w ∷ [])
      go (inl n) = let b = h.earlier.numbers v n in omega (arith, b, longer)
      go (inr (inl e)) = let b : suc (length y.writes) ≡ v.gtid.number = ap (λ x. x.gtid.number) e in omega (arith, b, longer)
      go (inr (inr n)) = absurd n

  pub wrote : IsNumber (suc k.earlier.written) → z.executed ≡ with_gtid k.executed g → ((i : Item) → versions_of mid i ≡ versions_of k.store i) → IsApplied mid z.store g (write_change w ∷ [])
      → ((i : Item) → row_now z.store i ≡ changed_row i (row_now mid i) (write_change w ∷ [])) → z.earlier.committed.items ≡ k.earlier.committed.items → z.earlier.written ≡ suc k.earlier.written → KeptFor (with_write y w) z
  wrote number set same at now cs ws = record {
    stored = record {
      executed = set ∙ (ap (λ e. with_gtid e g) h.stored.executed ∙ ap (with_gtid y.executed) named);
      canonical = canonical_with_gtid y.executed w.gtid uuid numbered h.stored.canonical;
      rows = law y w mid z.store (roomed (Starts y ∷ []) k.store mid same h.stored.rows) (free y u h.earlier.numbers apart) h.stored.canonical uuid numbered (subst (λ x. IsApplied mid z.store x (write_change w ∷ [])) named at) now;
      gtids = h.stored.gtids;
      places = h.stored.places;
      committed = cs ∙ h.stored.committed;
    };
    earlier = record { committed = cs ∙ h.earlier.committed; written = ws ∙ (ap suc h.earlier.written ∙ sym longer); numbers = numbers };
  }
    where
      numbered : IsNumber w.gtid.number
      numbered = subst (λ n. IsNumber (suc n)) h.earlier.written number
