-- The chain of the item, if there is one.
use Rattle.std.proofs.Common.{ap, sym, ◌∙◌}
use Rattle.std.specs.Prelude.{option_copied}
use Rattle.row_store.specs.Chains.{seen_in}
use Rattle.row_store.proofs.ChainReads.{versions_in, reads}
use Rattle.row_store.proofs.store.Store.get_at.Goals as goal

pub returns-in_err-get : goal.returns-in_err-get
returns-in_err-get c =
    rw (← c.self.view_is) (ap option_copied c.from_residual.ensures ∙ (ap (λ o. seen_in c.args.view.now (versions_in o)) c.in_err-get.ensures.value ∙ sym (ap (seen_in c.args.view.now) (reads c.self.inside.chains.entries c.args.item.now))))

pub returns : goal.returns
returns c =
    rw (← c.self.view_is) (c.newest_in.ensures ∙ (ap (seen_in c.args.view.now) c.deref.ensures.value ∙ (ap (λ o. seen_in c.args.view.now (versions_in o)) c.in_ok-get.ensures.value ∙ sym (ap (seen_in c.args.view.now) (reads c.self.inside.chains.entries c.args.item.now)))))
