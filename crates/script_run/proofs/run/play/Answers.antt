use Rattle.std.proofs.Common.{◌≡◌, sym, ap, subst, ◌⊎◌, inl, inr, ◌∙◌, refl, Err, arith, ℕ, List, take, drop}
use Rattle.std.specs.Io.KnownBytes.{append_known}
use Rattle.script_run.specs.Play.{line_step, start}
use Rattle.script_run.specs.Run.{IsEnded}
use Rattle.script_run.proofs.Playing.{Along, along_start, along_takes}
use Rattle.script_run.proofs.Steps.{line_step_plain, line_step_within}
use Rattle.script_run.proofs.Exits.{all_done, along_find, along_held, begins_at, ended_not, exit_done, exit_memory, exit_read, exit_stop, exit_write, last_done, legal_after, put_cut, put_no_fault, put_no_idle, put_whole, with_status, write_from}
use Rattle.script_run.proofs.run.play.Goals as goal

pub loop-number-init : goal.loop-number-init
loop-number-init g c = record {
  state = start;
  stands = c.new-player.ensures.stands;
  along = subst (λ (h : List ℕ). Along (g.S.Source.left c.args.source.now) (g.S.Source.left c.args.source.now) (g.K.Sink.written c.args.sink.now) (g.K.Sink.written c.args.sink.now) start 1 h) (sym c.new-reader.ensures) (along_start _ _);
  faults = omega arith;
  failures = omega arith;
  idle = refl;
  bound = omega arith;
  steps = omega (arith, c.new-player.ensures.steps);
}

pub returns-in-Ok-None-clause-played : goal.returns-in-Ok-None-clause-played
returns-in-Ok-None-clause-played g c = λ script told.
    let i = c.loop-number.invariant in
    let along = along_find {l2 = g.S.Source.left c.find.new.source} i.along c.find.ensures.reads in
    let found = rw c.in-Ok-None.field-0-is at c.in-Ok-None.ensures.found in
    let ended = c.conclude.ensures in
    exit_done {w2 = g.K.Sink.written c.conclude.new.sink} _ c.conclude.result (all_done along found.0 found.1 script told) (omega (arith, c.loop-number.auto.number)) (ended.concluded i.state i.stands) ended.known i.stands.legal

pub returns-in-Err-Failed-clause-played : goal.returns-in-Err-Failed-clause-played
returns-in-Err-Failed-clause-played g c = λ script told.
    let i = c.loop-number.invariant in
    let failed = c.in-Err-Failed.is ∙ ap Err c.in-Err-Failed.field-0-is in
    with_status _ _ c.new.ensures (exit_read (along_find {l2 = g.S.Source.left c.find.new.source} i.along c.find.ensures.reads) (c.find.ensures.failed failed) i.stands.legal script told)

pub returns-in-Err-Memory-clause-played : goal.returns-in-Err-Memory-clause-played
returns-in-Err-Memory-clause-played g c = λ script told.
    let i = c.loop-number.invariant in
    with_status _ _ c.new-in-Err-Memory.ensures (exit_memory (along_find {l2 = g.S.Source.left c.find.new.source} i.along c.find.ensures.reads) i.stands.legal script told)

pub returns-in-Err-clause-played : goal.returns-in-Err-clause-played
returns-in-Err-clause-played g c = λ script told.
    let i = c.loop-number.invariant in
    with_status _ _ c.new-in-Err.ensures (exit_memory (along_find {l2 = g.S.Source.left c.find.new.source} i.along c.find.ensures.reads) i.stands.legal script told)

pub returns-then-is_err-clause-played : goal.returns-then-is_err-clause-played
returns-then-is_err-clause-played g c = λ script told.
    let i = c.loop-number.invariant in
    let along = along_find {l2 = g.S.Source.left c.find.new.source} i.along c.find.ensures.reads in
    let found = rw c.in-Ok-Some.field-0-is at c.in-Ok-Some.ensures.found in
    let said = rw c.held.ensures at (c.in-Ok.ensures.said i.state i.stands) in
    let cut = put_cut c.put_all.result c.as_slice.result.now (sym c.is_err.ensures.value ∙ c.if-is_err.true) in
    with_status _ _ c.new-then-is_err.ensures
    (exit_write {w2 = g.K.Sink.written c.put_all.new.sink} c.in-Ok-Some.found.kind c.in-Ok-Some.found.len c.in-Ok-Some.found.taken cut.0 along found.2
    (c.put_all.ensures.content ∙ ap (append_known (g.K.Sink.written c.loop-number.sink)) (cut.1 ∙ ap (take cut.0) (c.as_slice.ensures ∙ said.text)))
    (legal_after i.state c.loop-number.number _ i.stands.legal (λ e. (said.stands e).legal)) script told)

pub returns-then-code-ne-DONE-clause-played : goal.returns-then-code-ne-DONE-clause-played
returns-then-code-ne-DONE-clause-played g c = λ script told.
    let i = c.loop-number.invariant in
    let along = along_find {l2 = g.S.Source.left c.find.new.source} i.along c.find.ensures.reads in
    let found = rw c.in-Ok-Some.field-0-is at c.in-Ok-Some.ensures.found in
    let said = rw c.held.ensures at (c.in-Ok.ensures.said i.state i.stands) in
    let whole = put_whole c.put_all.result c.as_slice.result.now (sym c.is_err.ensures.value ∙ c.if-is_err.false) in
    exit_stop {w2 = g.K.Sink.written c.put_all.new.sink} c.in-Ok-Some.found.kind c.in-Ok-Some.found.len c.in-Ok-Some.found.taken c.in-Ok.said.status along found.2 said.status (λ e. c.if-code-ne-DONE.true (c.code.ensures ∙ e))
    (subst IsEnded (sym said.status) (line_step_plain _ _ _).ended)
    (c.put_all.ensures.content ∙ ap (append_known (g.K.Sink.written c.loop-number.sink)) (whole ∙ c.as_slice.ensures ∙ said.text)) i.stands.legal script told

pub returns-then-code-ne-DONE-clause-read : goal.returns-then-code-ne-DONE-clause-read
returns-then-code-ne-DONE-clause-read g c = λ e.
    let i = c.loop-number.invariant in
    let said = c.in-Ok.ensures.said i.state i.stands in
    absurd (ended_not _ _ (line_step_plain _ _ _).ended (sym said.status ∙ e) (inl refl))

pub returns-then-code-ne-DONE-clause-write : goal.returns-then-code-ne-DONE-clause-write
returns-then-code-ne-DONE-clause-write g c = λ e.
    let i = c.loop-number.invariant in
    let said = c.in-Ok.ensures.said i.state i.stands in
    absurd (ended_not _ _ (line_step_plain _ _ _).ended (sym said.status ∙ e) (inr (inl refl)))

pub returns-then-code-ne-DONE-clause-known : goal.returns-then-code-ne-DONE-clause-known
returns-then-code-ne-DONE-clause-known g c =
    let i = c.loop-number.invariant in
    let said = c.in-Ok.ensures.said i.state i.stands in
    inl (subst IsEnded (sym said.status) (line_step_plain _ _ _).ended)

pub returns-in-Last-clause-played : goal.returns-in-Last-clause-played
returns-in-Last-clause-played g c = λ script told.
    let i = c.loop-number.invariant in
    let along = along_find {l2 = g.S.Source.left c.find.new.source} i.along c.find.ensures.reads in
    let found = rw c.in-Ok-Some.field-0-is at c.in-Ok-Some.ensures.found in
    let said = rw c.held.ensures at (c.in-Ok.ensures.said i.state i.stands) in
    let whole = put_whole c.put_all.result c.as_slice.result.now (sym c.is_err.ensures.value ∙ c.if-is_err.false) in
    let goes = sym said.status ∙ sym c.code.ensures ∙ c.if-code-ne-DONE.false in
    let done_ = last_done {w2 = g.K.Sink.written c.put_all.new.sink} c.in-Ok-Some.found.kind c.in-Ok-Some.found.len c.in-Ok-Some.found.taken (λ e. elim c.in-Last.is [ inl l ↦ cc (e, l) | inr l ↦ cc (e, l) ]) along found.2 goes
    (c.put_all.ensures.content ∙ ap (append_known (g.K.Sink.written c.loop-number.sink)) (whole ∙ c.as_slice.ensures ∙ said.text)) script told in
    let ended = c.conclude-in-Last.ensures in
    exit_done {w2 = g.K.Sink.written c.conclude-in-Last.new.sink} c.loop-number.number c.conclude-in-Last.result done_ refl (ended.concluded _ (said.stands goes)) ended.known (said.stands goes).legal

pub returns-in-Last-clause-read : goal.returns-in-Last-clause-read
returns-in-Last-clause-read g c = λ e. absurd (not_read c.conclude-in-Last.result e c.conclude-in-Last.ensures.known)
  where
    not_read : (s : ℕ) → s ≡ 3 → (s ≡ 0) ⊎ (s ≡ 4) ⊎ (s ≡ 6) → ⊥
    not_read s e k = grind arith

pub returns-in-Last-clause-write : goal.returns-in-Last-clause-write
returns-in-Last-clause-write g c = λ e.
    let i = c.loop-number.invariant in
    let whole = sym c.is_err.ensures.value ∙ c.if-is_err.false in
    let put = c.put_all.ensures in
    write_from _ _ _ _ _ _ (omega (arith, i.failures, put_no_fault c.put_all.result _ _ whole put.cause)) (i.idle ∙ sym (put_no_idle c.put_all.result _ _ whole put.idle)) (c.conclude-in-Last.ensures.write e)

pub returns-in-Last-clause-known : goal.returns-in-Last-clause-known
returns-in-Last-clause-known g c = elim c.conclude-in-Last.ensures.known [ inl e ↦ inl (inl e) | inr e ↦ elim e [ inl e ↦ inr (inr (inl e)) | inr e ↦ inr (inr (inr e)) ] ]

pub loop-number-preserved : goal.loop-number-preserved
loop-number-preserved g c =
    let i = c.loop-number.invariant in
    let along = along_find {l2 = g.S.Source.left c.find.new.source} i.along c.find.ensures.reads in
    let found = rw c.in-Ok-Some.field-0-is at c.in-Ok-Some.ensures.found in
    let said = rw c.held.ensures at (c.in-Ok.ensures.said i.state i.stands) in
    let none = sym c.is_err.ensures.value ∙ c.if-is_err.false in
    let whole = put_whole c.put_all.result c.as_slice.result.now none in
    let goes = sym said.status ∙ sym c.code.ensures ∙ c.if-code-ne-DONE.false in
    let kind = rw c.in-Whole.is at found.2 in
    let line = take c.in-Ok-Some.found.len c.find.new.self in
    let taken = along_takes {w2 = g.K.Sink.written c.put_all.new.sink} line (drop c.in-Ok-Some.found.taken c.find.new.self) along
    (begins_at c.find.new.self c.in-Ok-Some.found.len c.in-Ok-Some.found.taken (g.S.Source.left c.find.new.source) kind) goes
    (c.put_all.ensures.content ∙ ap (append_known (g.K.Sink.written c.loop-number.sink)) (whole ∙ c.as_slice.ensures ∙ said.text)) in
    let within = line_step_within i.state c.loop-number.number line goes in
    record {
      state = (line_step i.state c.loop-number.number line).state;
      stands = said.stands goes;
      along = along_held taken (sym c.skip.ensures);
      faults = omega (arith, i.faults, c.in-Ok-Some.ensures.cause);
      failures = omega (arith, i.failures, put_no_fault c.put_all.result _ _ none c.put_all.ensures.cause);
      idle = i.idle ∙ sym (put_no_idle c.put_all.result _ _ none c.put_all.ensures.idle);
      bound = omega arith;
      steps = omega (arith, i.steps, c.in-Ok.ensures.steps);
    }
