-- The tables are those that the sessions read, and a Give leaves them so.
use Rattle.std.proofs.Common.{◌≡◌, ◌⊎◌, inl, inr, ℕ, arith, false, List, [], ◌∷◌, refl, sym, ap, ◌∙◌, reverse}
use Rattle.node_rules.specs.Lists.{In}
use Rattle.paxos_forms.specs.declared.recovery.Give.{Give}
use Rattle.group_rules.specs.Events.{Cert, Restores}
use Rattle.gtid_sets.specs.Sets.{has}
use Rattle.group_rules.specs.Life.{certs, executed, stored}
use Rattle.group_rules.specs.Sessions.{begun_set}
use Rattle.group_rules.specs.Member.{Member}
use Rattle.group_rules.specs.Queue.{is_done, queue}
use Rattle.group_rules.specs.Rows.{all_in, known}
use Rattle.row_locks.specs.declared.done.DonePlace.{DonePlace}
use Rattle.row_locks.specs.Locking.{place_at}
use Rattle.row_store.proofs.Followed.{now_told, restores as rows_restore, set_told}
use Rattle.row_store.proofs.Kept.{keeps_restoring}
use Rattle.row_store.proofs.Known.{all_first, in_all, in_reverse}
use Rattle.local_sessions.specs.Following.{TablesOf}
use Rattle.local_sessions.proofs.Queued.{named, none}
use Rattle.member_truth.specs.Truth.{IsTrueGive}
use Rattle.member_tables.specs.declared.tables.MemberTables.{MemberTables}
use Rattle.member_tables.specs.Standing.{Keeps, Stands, TablesFor}
use Rattle.member_tables.proofs.Gtids.{more_gtids}
use Rattle.member_tables.proofs.Kept.{stands_with}

pub reads : (a : Member) (x : MemberTables) → TablesFor a x → TablesOf x.tables a
reads a x f = record {
  me = f.tables.is_me;
  set = f.tables.set;
  own_state = f.tables.own_state;
  mode = f.tables.mode;
  primary = f.tables.primary;
  rows_now = λ i. now_told a.life x.tables.store i f.tables.rows;
  rows_seen = λ t i h. set_told a.life x.tables.store i (begun_set a.life t) f.tables.rows (f.tables.reads t h);
  places = λ i. ap (λ (ds : List DonePlace). place_at ds i) f.tables.places ∙ named a.life i (queue a.life a.me.inc);
  locks = f.locks;
}

-- ---- a Give

pub restored : (a : Member) (x : MemberTables) (g : Give) (cs : List Cert) → IsTrueGive a.me.inc a.life cs → ((p : ℕ) → is_done a.life p ≡ false) → TablesFor a x → Stands a.setup a.me.inc (Restores g cs ∷ a.life) x
restored a x g cs k n f = stands_with a.setup a.me.inc a.life x x.tables (Restores g cs) refl (omega arith) refl tables f
  where
    unexecuted : (c : Cert) → In c cs → has (executed a.life) c.gtid ≡ false
    unexecuted c m = (k.given c m).unexecuted

    apart : (y : Cert) → In y (known (Restores g cs ∷ a.life)) → In y (known a.life) ⊎ In y cs
    apart y z = elim (in_all (all_in [] (stored a.life).committed) (reverse cs) y z) [
      | inl p ↦ inl (all_first (all_in [] (stored a.life).committed) (certs a.life) y p)
      | inr p ↦ inr (in_reverse y cs p)
    ]

    tables : Keeps a.setup a.me.inc (Restores g cs ∷ a.life) x.tables
    tables = record {
      is_me = f.tables.is_me;
      set = f.tables.set;
      own_state = f.tables.own_state;
      mode = f.tables.mode;
      primary = f.tables.primary;
      rows = rows_restore a.life g cs x.tables.store f.tables.rows k.first unexecuted;
      places = f.tables.places ∙ (none a.life (queue a.life a.me.inc) n ∙ sym (none (Restores g cs ∷ a.life) (queue (Restores g cs ∷ a.life) a.me.inc) n));
      reads = f.tables.reads;
      canonical = f.tables.canonical;
      kept = keeps_restoring a.life g cs unexecuted;
      gtids = more_gtids a.life (Restores g cs ∷ a.life) cs apart k.distinct (λ c m. (k.given c m).unknown) f.tables.gtids;
    }
