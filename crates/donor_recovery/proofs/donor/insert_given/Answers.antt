-- It goes to its place.
use Rattle.std.proofs.Common.{◌≡◌, not, arith, sym, ◌∙◌, ap}
use Rattle.std.specs.Prelude.{nat_lt}
use Rattle.std.proofs.lemmas.List.Sums.{prefix_len-le-length}
use Rattle.paxos_forms.specs.declared.recovery.Given.{Given}
use Rattle.donor_recovery.proofs.Places.{before, given_inserts}
use Rattle.donor_recovery.proofs.donor.insert_given.Goals as goal

pub insert-requires : goal.insert-requires
insert-requires c =
    let at : c.place_behind-at.result ≡ before c.args.given.place c.args.certified.now.items = c.place_behind-at.ensures ∙ ap (λ l. before c.args.given.place l) c.deref.ensures.value in
    omega (arith, prefix_len-le-length (λ (x : Given). not (nat_lt c.args.given.place x.place)) c.args.certified.now.items, c.args.certified.now.ok.0)

pub returns-clause-ok : goal.returns-clause-ok
returns-clause-ok c =
    let at : c.place_behind-at.result ≡ before c.args.given.place c.args.certified.now.items = c.place_behind-at.ensures ∙ ap (λ l. before c.args.given.place l) c.deref.ensures.value in
    c.in_ok-insert.ensures.items ∙ sym (given_inserts c.args.certified.now.items c.args.given c.place_behind-at.result at)
