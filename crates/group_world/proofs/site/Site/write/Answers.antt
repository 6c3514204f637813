-- The row is written under the next number of what is kept.
use Rattle.std.proofs.Common.{◌≡◌, false, sym, ap, subst, ◌∙◌}
use Rattle.gr_ids.specs.Names.{bytes_eq}
use Rattle.row_store.specs.Following.{with_write}
use Rattle.kept_server.specs.Keeping.{KeptFor, offline_write}
use Rattle.group_world.specs.Sites.{IsStay}
use Rattle.group_world.proofs.site.Site.write.Goals as goal

pub returns-in_ok-write-in-Stopped : goal.returns-in_ok-write-in-Stopped
returns-in_ok-write-in-Stopped c s h u =
    let k = subst (IsStay s) c.in-Stopped.is h.stay in (
      record {
        stopped = k.0;
        number = c.in_ok-write-in-Stopped.ensures.number;
        gtid = c.in_ok-write-in-Stopped.ensures.gtid s.stored k.1 ∙ ap (λ v. (offline_write v c.args.item c.args.value s.stored).gtid) (sym u);
      },
      λ apart. record {
        number = h.number;
        starts = h.starts;
        stay = (
          k.0,
          subst (λ v. KeptFor (with_write s.stored (offline_write v c.args.item c.args.value s.stored)) c.write.new.self) (sym u)
              (c.in_ok-write-in-Stopped.ensures.kept s.stored k.1 c.uuid_fits.ensures (λ d m. subst (λ v. bytes_eq v d.gtid.source ≡ false) u (apart d m))),
        );
      },
    )
