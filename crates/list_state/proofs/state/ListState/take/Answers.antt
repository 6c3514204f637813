-- What is held decides the rest; the numbers grow by one at most.
use Rattle.std.proofs.Common.{◌+◌, ◌≤◌, Option, arith, add-one, sym, ◌∙◌}
use Rattle.std.specs.Option.{option_map}
use Rattle.txn_forms.specs.declared.body.Body.{Body}
use Rattle.txn_forms.specs.Parts.{parts_of}
use Rattle.group_rules.specs.View.{effect_in, online_incs}
use Rattle.group_rules.specs.Told.{stable_of}
use Rattle.list_state.specs.Listing.{Listed}
use Rattle.list_state.proofs.Entries.{entered_is, made_is}
use Rattle.list_state.proofs.Bounds.{blocks_kept, blocks_within, number_within, same_blocks}
use Rattle.list_state.proofs.Quiet.{nothing_to_forget, settles, unsettled}
use Rattle.list_state.proofs.state.ListState.take.Goals as goal

pub invariant_of-self-in_err-effect : goal.invariant_of-self-in_err-effect
invariant_of-self-in_err-effect c =
    let n = c.self.inside.taken in
    let v = c.args.value.now in
    let w = c.self.inside.view in
    let y : Option Body = option_map (λ b. b.now) c.news.result in
    let number : c.take.new.self.number ≤ n + 1 + 1 = number_within w c.take.new.self (n + 1) v.id.origin v.what y (effect_in w c.args.has_effect v.what y) (n + 1) c.in_ok-seen.ensures.ok c.self.invariant.numbered in
    record { least = c.self.invariant.least; most = c.self.invariant.most; numbered = number; drawn = same_blocks c.self.inside.certifier c.certify_held.new.certifier (n + 1) c.in_err-effect.ensures.err (omega (arith, c.self.invariant.drawn)); kept = unsettled }

pub invariant_of-self-in_err-note_told : goal.invariant_of-self-in_err-note_told
invariant_of-self-in_err-note_told c =
    let n = c.self.inside.taken in
    let v = c.args.value.now in
    let w = c.self.inside.view in
    let y : Option Body = option_map (λ b. b.now) c.news.result in
    let number : c.take.new.self.number ≤ n + 1 + 1 = number_within w c.take.new.self (n + 1) v.id.origin v.what y (effect_in w c.args.has_effect v.what y) (n + 1) c.in_ok-seen.ensures.ok c.self.invariant.numbered in
    let blocks : c.certify_held.new.certifier.certified.blocks ≤ n + 1 = blocks_within c.self.inside.certifier c.certify_held.new.certifier (n + 1) v.id.origin c.in_ok-held.held n c.in_ok-effect.ensures.ok c.self.invariant.drawn in
    record { least = c.self.invariant.least; most = c.self.invariant.most; numbered = number; drawn = blocks; kept = unsettled }

pub invariant_of-self-in_err-settle : goal.invariant_of-self-in_err-settle
invariant_of-self-in_err-settle c =
    let n = c.self.inside.taken in
    let v = c.args.value.now in
    let w = c.self.inside.view in
    let y : Option Body = option_map (λ b. b.now) c.news.result in
    let number : c.take.new.self.number ≤ n + 1 + 1 = number_within w c.take.new.self (n + 1) v.id.origin v.what y (effect_in w c.args.has_effect v.what y) (n + 1) c.in_ok-seen.ensures.ok c.self.invariant.numbered in
    let blocks : c.certify_held.new.certifier.certified.blocks ≤ n + 1 = blocks_within c.self.inside.certifier c.certify_held.new.certifier (n + 1) v.id.origin c.in_ok-held.held n c.in_ok-effect.ensures.ok c.self.invariant.drawn in
    record { least = c.self.invariant.least; most = c.self.invariant.most; numbered = number; drawn = same_blocks c.certify_held.new.certifier c.settle.new.certifier (n + 1) c.in_err-settle.ensures.err blocks; kept = unsettled }

pub invariant_of-self-2 : goal.invariant_of-self-2
invariant_of-self-2 c =
    let n = c.self.inside.taken in
    let v = c.args.value.now in
    let w = c.self.inside.view in
    let y : Option Body = option_map (λ b. b.now) c.news.result in
    let number : c.take.new.self.number ≤ n + 1 + 1 = number_within w c.take.new.self (n + 1) v.id.origin v.what y (effect_in w c.args.has_effect v.what y) (n + 1) c.in_ok-seen.ensures.ok c.self.invariant.numbered in
    let blocks : c.certify_held.new.certifier.certified.blocks ≤ n + 1 = blocks_within c.self.inside.certifier c.certify_held.new.certifier (n + 1) v.id.origin c.in_ok-held.held n c.in_ok-effect.ensures.ok c.self.invariant.drawn in
    record { least = c.self.invariant.least; most = c.self.invariant.most; numbered = number; drawn = blocks_kept c.certify_held.new.certifier c.settle.new.certifier (stable_of c.note_told.new.told (online_incs c.take.new.self)) (n + 1) c.in_ok-settle.ensures.ok blocks; kept = λ e. settles (stable_of c.note_told.new.told (online_incs c.take.new.self)) c.certify_held.new.certifier c.settle.new.certifier c.in_ok-settle.ensures.ok }

pub settle-requires : goal.settle-requires
settle-requires c = λ e.
    (let v = c.args.value.now in
    nothing_to_forget c.self.inside.settled (c.self.inside.taken + 1) v.id.origin v.what (parts_of c.self.inside.parts v.id.origin) c.args.has_effect c.in_ok-held.held (option_map (λ b. b.now) c.news.result) c.self.inside.view c.take.new.self c.self.inside.told c.note_told.new.told c.self.inside.certifier c.certify_held.new.certifier c.in_ok-seen.seen c.in_ok-effect.effect
    c.news.ensures c.in_ok-held.ensures.held c.in_ok-seen.ensures.ok c.in_ok-effect.ensures.ok c.in_ok-note_told.ensures c.in_ok-effect.ensures.effect c.self.invariant.kept (sym c.still_settled-is_settled.ensures ∙ e))

pub returns-clause-entered : goal.returns-clause-entered
returns-clause-entered c = λ t.
    (let x : Listed = record { limits = c.self.inside.limits; taken = c.self.inside.taken; view = c.self.inside.view; told = c.self.inside.told; certifier = c.self.inside.certifier; parts = c.self.inside.parts } in
    rw (← c.self.view_is)
    (entered_is x c.args.value.now t c.args.has_effect c.in_ok-held.held (c.self.inside.taken + 1) (option_map (λ b. b.now) c.news.result) c.in_ok-seen.seen c.in_ok-effect.effect (add-one c.self.inside.taken) c.news.ensures c.in_ok-held.ensures.held c.in_ok-seen.ensures.effect c.in_ok-effect.ensures.effect))

pub returns-clause-made : goal.returns-clause-made
returns-clause-made c = λ t.
    (let x : Listed = record { limits = c.self.inside.limits; taken = c.self.inside.taken; view = c.self.inside.view; told = c.self.inside.told; certifier = c.self.inside.certifier; parts = c.self.inside.parts } in
    rw (← c.self.view_is)
    (made_is x c.args.value.now t c.args.has_effect c.in_ok-held.held (c.self.inside.taken + 1) (option_map (λ b. b.now) c.news.result) c.take.new.self c.note_told.new.told c.certify_held.new.certifier c.settle.new.certifier c.hold.new.parts
    (add-one c.self.inside.taken) c.news.ensures c.in_ok-held.ensures.held c.in_ok-seen.ensures.ok c.in_ok-effect.ensures.ok c.in_ok-note_told.ensures c.in_ok-settle.ensures.ok c.in_ok-held.ensures.parts))
