-- What a server keeps of its rows from one incarnation to the next, and its offline writes.
use Rattle.std.proofs.Common.{◌≡◌, inl, inr, ℕ, Bool, true, false, ◌&&◌, Option, Some, None, List, [], ◌∷◌, ◌++◌, refl, sym, ap, ◌∙◌}
use Rattle.std.proofs.lemmas.Bool.{false≢true}
use Rattle.gr_ids.specs.declared.names.Gtid.{Gtid}
use Rattle.gr_ids.specs.Names.{gtid_eq}
use Rattle.key_items.specs.declared.item.Item.{Item}
use Rattle.key_items.specs.declared.change.Change.{Change}
use Rattle.key_items.specs.Items.{item_eq}
use Rattle.gtid_sets.specs.Canonical.{IsCanonical, IsNumber, IsUuid}
use Rattle.gtid_sets.specs.Sets.{Gtids, has, with_gtid}
use Rattle.node_rules.specs.Lists.{In}
use Rattle.group_rules.specs.Events.{Cert, Life, OfflineWrite, Starts, Stored}
use Rattle.group_rules.specs.Life.{certs, executed, stored}
use Rattle.group_rules.specs.Member.{Member}
use Rattle.group_rules.specs.Rows.{all_in, changed_row, known, offline_row, row_by, row_of}
use Rattle.group_rules.specs.World.{committed_of, stored_by}
use Rattle.row_store.specs.Chains.{Chain, IsApplied, row_at, row_now, row_with}
use Rattle.row_store.specs.Following.{HasCommitted, HasPlaces, IsFree, IsWithin, RowsOf, with_write, write_change}
use Rattle.row_store.proofs.Versions.{gtid_itself}
use Rattle.row_store.proofs.Members.{has_both, new_or_old}
use Rattle.row_store.proofs.Known.{all_first, all_rises, all_second, in_all, in_back, in_either, in_front, same_by}
use Rattle.row_store.proofs.LastRows.{same_rows}
use Rattle.row_store.proofs.Kept.{committed_in}
use Rattle.row_store.proofs.Followed.{applied_alone, applied_now, inside, inside_part, sees_inside, with_seen, with_unseen}

-- ---- the next incarnation

-- two sets with the same of these writes
same_writes : (i : Item) (e f : Gtids) (r : Option (List ℕ)) (ws : List OfflineWrite) → ((w : OfflineWrite) → In w ws → has e w.gtid ≡ has f w.gtid) → offline_row i e r ws ≡ offline_row i f r ws
same_writes i e f r [] h = refl
same_writes i e f r (w ∷ ws) h =
    ap (λ b. elim (item_eq w.item i && b) [ true ↦ offline_row i e (Some w.row) ws | false ↦ offline_row i e r ws ]) (h w (inl refl))
    ∙ step (item_eq w.item i && has f w.gtid) (λ v. same_writes i e f v ws (λ y m. h y (inr m)))
  where
    step : (b : Bool) → ((v : Option (List ℕ)) → offline_row i e v ws ≡ offline_row i f v ws)
        → ◌≡◌ {A = Option (List ℕ)} (elim b [ true ↦ offline_row i e (Some w.row) ws | false ↦ offline_row i e r ws ]) (elim b [ true ↦ offline_row i f (Some w.row) ws | false ↦ offline_row i f r ws ])
    step true k = k (Some w.row)
    step false k = k r

module _ (x : Stored) (a : Member) (cs : List Chain) (h : RowsOf a.life cs) (ws : x.writes ≡ (stored a.life).writes) (places : HasPlaces a.life) (commits : HasCommitted a.life) where
  abbrev l : Life
  l = a.life

  abbrev next : Life
  next = Starts (stored_by x (Some a)) ∷ []

  abbrev had : List Cert
  had = (stored l).committed

  abbrev more : List Cert
  more = committed_of l (certs l)

  -- what the next one knows was known
  known_before : (c : Cert) → In c (known next) → In c (known l)
  known_before c m = elim (in_all [] (had ++ more) c m) [
    | inl n ↦ absurd n
    | inr n ↦ elim (in_either c had more n) [
      | inl k ↦ all_first (all_in [] had) (certs l) c (all_second [] had c k)
      | inr k ↦ all_second (all_in [] had) (certs l) c (committed_in l (certs l) c k)
    ]
  ]

  -- what was known and executed, the next one knows
  known_after : (c : Cert) → In c (known l) → has (executed l) c.gtid ≡ true → In c (known next)
  known_after c m t = all_second [] (had ++ more) c (elim (in_all (all_in [] had) (certs l) c m) [
    | inl n ↦ elim (in_all [] had c n) [ inl k ↦ absurd k | inr k ↦ in_front c had more k ]
    | inr n ↦ in_back c had more (commits c n t)
  ])

  agree : (e : Gtids) (m : Gtid) → (has e m ≡ true → has (executed l) m ≡ true) → has (inside e l) m ≡ has e m
  agree e m k = has_both e (executed l) m ∙ go (has e m) (has (executed l) m) k
    where
      go : (s t : Bool) → (s ≡ true → t ≡ true) → (s && t) ≡ s
      go true t f = f refl
      go false t f = refl

  pub keeps : RowsOf (Starts (stored_by x (Some a)) ∷ []) cs
  keeps = record { seen = λ i e w. seen i e w; alone = h.alone; now = h.now }
    where
      seen : (i : Item) (e : Gtids) → IsWithin e next → row_at cs i e ≡ row_of next e i
      seen i e w =
          sees_inside l cs i e h
          ∙ (ap (offline_row i f (row_by i f None (known l))) (sym ws)
          ∙ (same_writes i f e (row_by i f None (known l)) x.writes (λ y m. agree e y.gtid (w.written y m))
          ∙ ap (λ r. offline_row i e r x.writes) (certified ∙ same_by i f e None (known next) (λ c m. inl (agree e c.gtid (w.certified c m))))))
        where
          f : Gtids
          f = inside e l

          certified : row_by i f None (known l) ≡ row_by i f None (known next)
          certified = same_rows i f (known l) (known next) (all_rises (all_in [] had) (certs l) (all_rises [] had tt)) (all_rises [] (had ++ more) tt)
              (λ c m t. known_after c m (inside_part e l c.gtid t)) (λ c m t. known_before c m) places

-- ---- an offline write

-- one write more
last_write : (i : Item) (e : Gtids) (r : Option (List ℕ)) (ws : List OfflineWrite) (w : OfflineWrite) → offline_row i e r (ws ++ w ∷ []) ≡ elim (item_eq w.item i && has e w.gtid) [ true ↦ Some w.row | false ↦ offline_row i e r ws ]
last_write i e r [] w = refl
last_write i e r (x ∷ xs) w = step (item_eq x.item i && has e x.gtid) (λ v. last_write i e v xs w)
  where
    step : (b : Bool) → ((v : Option (List ℕ)) → offline_row i e v (xs ++ w ∷ []) ≡ elim (item_eq w.item i && has e w.gtid) [ true ↦ Some w.row | false ↦ offline_row i e v xs ])
        → ◌≡◌ {A = Option (List ℕ)} (elim b [ true ↦ offline_row i e (Some x.row) (xs ++ w ∷ []) | false ↦ offline_row i e r (xs ++ w ∷ []) ])
        (elim (item_eq w.item i && has e w.gtid) [ true ↦ Some w.row | false ↦ elim b [ true ↦ offline_row i e (Some x.row) xs | false ↦ offline_row i e r xs ] ])
    step true k = k (Some x.row)
    step false k = k r

module _ (y : Stored) (w : OfflineWrite) (cs ds : List Chain) (h : RowsOf (Starts y ∷ []) cs) (free : IsFree (Starts y ∷ []) w.gtid) (s : IsCanonical y.executed) (u : IsUuid w.gtid.source) (n : IsNumber w.gtid.number)
    (a : IsApplied cs ds w.gtid (write_change w ∷ [])) where
  abbrev xs : List Change
  xs = write_change w ∷ []

  abbrev after : Stored
  after = with_write y w

  before : (e : Gtids) → IsWithin e (Starts after ∷ []) → IsWithin e (Starts y ∷ [])
  before e k = record {
    certified = λ c m t. old c.gtid (free.uncertified c m) (k.certified c m t);
    written = λ v m t. old v.gtid (free.unwritten v m) (k.written v (in_front v y.writes (w ∷ []) m) t);
  }
    where
      old : (m : Gtid) → gtid_eq w.gtid m ≡ false → has (with_gtid y.executed w.gtid) m ≡ true → has y.executed m ≡ true
      old m f t = elim (new_or_old y.executed w.gtid m s u n t) [ inl z ↦ absurd (false≢true (sym f ∙ ap (gtid_eq w.gtid) (sym z) ∙ gtid_itself w.gtid)) | inr z ↦ z ]

  pub writes : ((i : Item) → row_now ds i ≡ changed_row i (row_now cs i) (write_change w ∷ []))
      → RowsOf (Starts (with_write y w) ∷ []) ds
  writes b = record {
    seen = λ i e k. seen i e k;
    alone = applied_alone y.executed w.gtid xs cs ds a h.alone;
    now = applied_now y.executed w.gtid xs cs ds a h.alone h.now b;
  }
    where
      seen : (i : Item) (e : Gtids) → IsWithin e (Starts after ∷ []) → row_at ds i e ≡ row_of (Starts after ∷ []) e i
      seen i e k = a i e ∙ (ap (row_with w.gtid xs e i) (h.seen i e (before e k)) ∙ (go (has e w.gtid) (item_eq w.item i) refl refl ∙ sym (last_write i e (row_by i e None (known (Starts y ∷ []))) y.writes w)))
        where
          was : Option (List ℕ)
          was = row_of (Starts y ∷ []) e i

          go : (p q : Bool) → has e w.gtid ≡ p → item_eq w.item i ≡ q → row_with w.gtid xs e i was ≡ elim (item_eq w.item i && has e w.gtid) [ true ↦ Some w.row | false ↦ was ]
          go true true e1 e2 = with_seen w.gtid xs e i was e1 ∙ rw (e1, e2, changed_row) refl
          go true false e1 e2 = with_seen w.gtid xs e i was e1 ∙ rw (e1, e2, changed_row) refl
          go false true e1 e2 = with_unseen w.gtid xs e i was e1 ∙ rw (e1, e2, changed_row) refl
          go false false e1 e2 = with_unseen w.gtid xs e i was e1 ∙ rw (e1, e2, changed_row) refl
