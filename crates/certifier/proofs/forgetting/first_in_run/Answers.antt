-- What lies in the range is in the run.
use Rattle.std.proofs.Common.{◌≡◌, sym, ◌∙◌}
use Rattle.std.specs.Prelude.{filter}
use Rattle.certifier.proofs.Ranges.{first_between, forward, is_between, none_between}
use Rattle.certifier.proofs.forgetting.first_in_run.Goals as goal

pub range-requires : goal.range-requires
range-requires c = rw (c.new.ensures.start, c.new.ensures.end) (forward c.args.run.now c.requires.ordered)

pub returns-in_err-gtid : goal.returns-in_err-gtid
returns-in_err-gtid c =
    let all : c.range.result ≡ filter (λ e. is_between c.args.run.now e.0) c.args.written.now.entries = rw (c.new.ensures.start, c.new.ensures.end) at (c.range.ensures.between c.new.ensures.exhausted) in
    rw c.from_residual.ensures (none_between c.args.written.now.entries c.args.run.now (sym c.in_err-gtid.ensures.steps.0 ∙ all))

pub returns : goal.returns
returns c =
    let all : c.range.result ≡ filter (λ e. is_between c.args.run.now e.0) c.args.written.now.entries = rw (c.new.ensures.start, c.new.ensures.end) at (c.range.ensures.between c.new.ensures.exhausted) in
    first_between c.args.written.now.entries _ c.args.run.now c.in_ok-gtid.gtid.now _ (sym c.in_ok-gtid.ensures.steps ∙ all)
