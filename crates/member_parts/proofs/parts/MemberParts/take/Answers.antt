-- The entry, and what each part makes of it.
use Rattle.std.proofs.Common.{refl}
use Rattle.member_parts.specs.declared.parts.MemberParts.{MemberParts}
use Rattle.member_parts.proofs.Answered.{spelt_is}
use Rattle.member_parts.proofs.Entered.{entered_is, stands_on}
use Rattle.member_parts.proofs.parts.MemberParts.take.Goals as goal

pub queue_certified-requires : goal.queue_certified-requires
queue_certified-requires c = spelt_is _ _ c.in_ok-entered.entered.held (c.in_ok-entered.ensures.entered 0).held

pub keep_own-requires : goal.keep_own-requires
keep_own-requires c = spelt_is _ _ c.in_ok-entered.entered.held (c.in_ok-entered.ensures.entered 0).held

pub returns-clause-entered : goal.returns-clause-entered
returns-clause-entered c = λ s l t f. entered_is s c.args.me l t c.args.has_effect c.args.value.now c.args.self.now c.in_ok-entered.entered f (c.in_ok-entered.ensures.entered t)

pub returns-clause-taken : goal.returns-clause-taken
returns-clause-taken c = λ s l t ez w u f.
    (let y : MemberParts = record {
      list = c.take.new.self;
      watch = c.watch_entry.new.watch;
      donor = c.mark_add.new.donor;
      backlog = c.await_certified.new.backlog;
      remotes = c.queue_certified.new.remotes;
      own = c.keep_own.new.own;
      acks = c.release_removed.new.acks;
      required = c.note_required.new.required;
      sent = c.args.self.now.sent;
      waits = c.place_sync.new.waits;
    } in
    stands_on s c.args.me l t c.args.has_effect c.args.value.now c.args.executed.now c.args.self.now y c.in_ok-entered.entered c.give_certified.new.donor c.require_certified.new.acks c.acknowledge.new.acks
    (record { entered = c.in_ok-entered.ensures.entered t; list = c.in_ok-entered.ensures.made t })
    (record {
      number = c.in_ok-entered.ensures.number;
      uuid = c.effect_fits.ensures;
      watch = c.in_ok-watch_entry.ensures;
      given = c.in_ok-give_certified.ensures;
      donor = c.in_ok-mark_add.ensures;
      backlog = c.in_ok-await_certified.ensures;
      remotes = c.in_ok-queue_certified.ensures;
      own = c.in_ok-keep_own.ensures;
      first = c.in_ok-require_certified.ensures;
      second = c.acknowledge.ensures;
      acks = c.release_removed.ensures;
      required = c.in_ok-note_required.ensures;
      sent = refl;
      waits = c.place_sync.ensures;
    })
    c.requires.origin ez w u f)
