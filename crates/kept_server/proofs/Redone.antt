-- A transaction is committed again over what is kept.
use Rattle.std.proofs.Common.{◌≡◌, ◌⊎◌, inl, inr, false, List, [], ◌∷◌, ◌++◌, map, refl, sym, ap, subst, ◌∙◌, arith}
use Rattle.std.proofs.lemmas.List.{map-append}
use Rattle.gr_ids.specs.Names.{gtid_eq}
use Rattle.gr_ids.specs.declared.names.Inc.{Inc}
use Rattle.gr_ids.specs.declared.levels.Mode.TheVariants.{Multi}
use Rattle.gtid_sets.specs.Canonical.{IsCanonical}
use Rattle.gtid_sets.specs.Sets.{has, with_gtid}
use Rattle.gtid_sets.proofs.PutLemmas.{canonical_with_gtid}
use Rattle.key_items.specs.declared.item.Item.{Item}
use Rattle.slot_values.specs.declared.value.Joiner.{Joiner}
use Rattle.paxos_forms.specs.declared.recovery.Give.{Give}
use Rattle.paxos_forms.specs.declared.recovery.Given.{Given}
use Rattle.node_rules.specs.Lists.{In}
use Rattle.group_rules.specs.Events.{Cert, Committed, Life, Restores, Setup, Starts, Stored}
use Rattle.group_rules.specs.Member.{Member}
use Rattle.group_rules.specs.Recovery.{given_of}
use Rattle.group_rules.specs.Rows.{all_in, changed_row, known}
use Rattle.group_rules.specs.Steps.{start}
use Rattle.group_rules.specs.World.{committed_of}
use Rattle.row_store.specs.Chains.{Chain, IsApplied, row_now, versions_of}
use Rattle.row_store.specs.Following.{HasCommitted, HasPlaces, IsCommit, RowsOf}
use Rattle.row_store.proofs.Commits.{commits}
use Rattle.row_store.proofs.Followed.{restores}
use Rattle.row_store.proofs.Kept.{keeps_committing, keeps_restoring}
use Rattle.row_store.proofs.Known.{all_second, in_all, in_either}
use Rattle.row_store.proofs.Servers.{keeps}
use Rattle.row_store.proofs.Versions.{gtid_itself, same_gtid}
use Rattle.member_tables.specs.Standing.{HasGtids}
use Rattle.kept_server.specs.declared.kept.KeptServer.{KeptServer}
use Rattle.kept_server.specs.Keeping.{KeptFor}
use Rattle.kept_server.specs.Redoing.{MayCommit, committing}
use Rattle.kept_server.proofs.Written.{roomed}

-- a Give in thought, which brings the transaction
a_give : Give
a_give = record { place = 0; blocks = 0; last = []; items = []; told = []; certified = []; txns = []; parts = [] }

-- whoever it is
abbrev someone : Life → Member
someone l =
    let i : Inc = record { server = 1; start = 1 } in
    let j : Joiner = record { inc = i; uuid = []; version = []; weight = 0 } in
    let s : Setup = record { limits = record { group = []; horizon = 10; expel = 0; majority = 0; block = 1 }; mode = Multi; founders = [] } in
    record (start s j (record { executed = []; committed = []; writes = [] }) i) { life = l }

module _ (y : Stored) (c : Cert) (may : MayCommit y c) where
  abbrev begun : Life
  begun = Starts y ∷ []

  abbrev given : Life
  given = Restores a_give (c ∷ []) ∷ begun

  abbrev done : Life
  done = Committed c.gtid ∷ given

  abbrev after : Stored
  after = committing y c

  known_of : (d : Cert) → In d (known given) → In d y.committed ⊎ (c ≡ d)
  known_of d m = elim (in_all (all_in [] y.committed) (c ∷ []) d m) [
    | inl n ↦ elim (in_all [] y.committed d n) [ inl k ↦ absurd k | inr k ↦ inl k ]
    | inr n ↦ elim n [ inl q ↦ inr q | inr k ↦ absurd k ]
  ]

  new : (d : Cert) → In d (c ∷ []) → has y.executed d.gtid ≡ false
  new d (inl q) = ap (λ (x : Cert). has y.executed x.gtid) (sym q) ∙ may.unexecuted
  new d (inr k) = absurd k

  is_commit : IsCommit given c.gtid c
  is_commit = record {
    certified = all_second (all_in [] y.committed) (c ∷ []) c (inl refl);
    named = gtid_itself c.gtid;
    only = λ d m e. elim (known_of d m) [ inl k ↦ may.only d k e | inr q ↦ sym q ];
    placed = λ d m e. elim (known_of d m) [ inl k ↦ may.placed d k e | inr q ↦ sym q ];
    ahead = λ d m t p. elim (known_of d m) [ inl k ↦ may.ahead d k t p | inr q ↦ let z = ap (λ (x : Cert). x.place) q in absurd (omega (arith, p, z)) ];
    unwritten = may.unwritten;
  }

  places : HasPlaces begun → HasPlaces done
  places h d e m n p = go (known_of d m) (known_of e n)
    where
      go : In d y.committed ⊎ (c ≡ d) → In e y.committed ⊎ (c ≡ e) → d ≡ e
      go (inl k) (inl j) = h d e (all_second [] y.committed d k) (all_second [] y.committed e j) p
      go (inl k) (inr q) = may.placed d k (p ∙ ap (λ (x : Cert). x.place) (sym q)) ∙ q
      go (inr q) (inl j) = sym (may.placed e j (sym p ∙ ap (λ (x : Cert). x.place) (sym q)) ∙ q)
      go (inr q) (inr r) = sym q ∙ r

  only_it : committed_of done (c ∷ []) ≡ c ∷ []
  only_it = rw (gtid_itself c.gtid) refl

  pub rows_with : (old fresh : List Chain) → RowsOf begun old → IsCanonical y.executed → HasPlaces begun → IsApplied old fresh c.gtid c.txn.changes
      → ((i : Item) → row_now fresh i ≡ changed_row i (row_now old i) c.txn.changes) → RowsOf (Starts after ∷ []) fresh
  rows_with old fresh h canonical p at now =
      let there : RowsOf given old = restores begun a_give (c ∷ []) old h refl new in
      let on : RowsOf done fresh = commits given c.gtid c old fresh there is_commit canonical may.source may.number at now in
      let all : HasCommitted done = keeps_committing given c.gtid (keeps_restoring begun a_give (c ∷ []) new) canonical may.source may.number in
      subst (λ (cs : List Cert). RowsOf (Starts (record after { committed = y.committed ++ cs }) ∷ []) fresh) only_it (keeps y (someone done) fresh on refl (places p) all)

  -- ---- what is kept

  known_after : (d : Cert) → In d (known (Starts after ∷ [])) → In d y.committed ⊎ (c ≡ d)
  known_after d m = elim (in_all [] (y.committed ++ c ∷ []) d m) [
    | inl n ↦ absurd n
    | inr n ↦ elim (in_either d y.committed (c ∷ []) n) [ inl k ↦ inl k | inr k ↦ elim k [ inl q ↦ inr q | inr z ↦ absurd z ] ]
  ]

  places_after : HasPlaces begun → HasPlaces (Starts after ∷ [])
  places_after h d e m n p = go (known_after d m) (known_after e n)
    where
      go : In d y.committed ⊎ (c ≡ d) → In e y.committed ⊎ (c ≡ e) → d ≡ e
      go (inl k) (inl j) = h d e (all_second [] y.committed d k) (all_second [] y.committed e j) p
      go (inl k) (inr q) = may.placed d k (p ∙ ap (λ (x : Cert). x.place) (sym q)) ∙ q
      go (inr q) (inl j) = sym (may.placed e j (sym p ∙ ap (λ (x : Cert). x.place) (sym q)) ∙ q)
      go (inr q) (inr r) = sym q ∙ r

  gtids_after : HasGtids begun → HasGtids (Starts after ∷ [])
  gtids_after h d e m n g = go (known_after d m) (known_after e n)
    where
      go : In d y.committed ⊎ (c ≡ d) → In e y.committed ⊎ (c ≡ e) → d ≡ e
      go (inl k) (inl j) = h d e (all_second [] y.committed d k) (all_second [] y.committed e j) g
      go (inl k) (inr q) = may.only d k (ap (λ (x : Cert). gtid_eq d.gtid x.gtid) q ∙ g) ∙ q
      go (inr q) (inl j) = sym (may.only e j (ap (λ z. gtid_eq z c.gtid) (sym (same_gtid d.gtid e.gtid g)) ∙ (ap (λ (x : Cert). gtid_eq x.gtid c.gtid) (sym q) ∙ gtid_itself c.gtid)) ∙ q)
      go (inr q) (inr r) = sym q ∙ r

  module _ (k z : KeptServer) (mid : List Chain) (one : Given) (is : one ≡ given_of c) (h : KeptFor y k) where
    pub kept_with : z.executed ≡ with_gtid k.executed one.gtid → ((i : Item) → versions_of mid i ≡ versions_of k.store i) → IsApplied mid z.store c.gtid c.txn.changes
        → ((i : Item) → row_now z.store i ≡ changed_row i (row_now mid i) c.txn.changes) → z.earlier.committed.items ≡ k.earlier.committed.items ++ one ∷ [] → z.earlier.written ≡ k.earlier.written → KeptFor after z
    kept_with set same at now cs ws = record {
      stored = record {
        executed = set ∙ (ap (λ e. with_gtid e one.gtid) h.stored.executed ∙ ap (λ (g : Given). with_gtid y.executed g.gtid) is);
        canonical = canonical_with_gtid y.executed c.gtid may.source may.number h.stored.canonical;
        rows = rows_with mid z.store (roomed begun k.store mid same h.stored.rows) h.stored.canonical h.stored.places at now;
        gtids = gtids_after h.stored.gtids;
        places = places_after h.stored.places;
        committed = committed;
      };
      earlier = record { committed = committed; written = ws ∙ h.earlier.written; numbers = h.earlier.numbers };
    }
      where
        committed : z.earlier.committed.items ≡ map given_of after.committed
        committed = cs ∙ (ap (λ gs. gs ++ one ∷ []) h.stored.committed ∙ (ap (λ g. map given_of y.committed ++ g ∷ []) is ∙ sym (map-append given_of y.committed (c ∷ []))))
