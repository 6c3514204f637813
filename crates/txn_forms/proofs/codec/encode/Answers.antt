use Rattle.std.proofs.Common.{◌≡◌, ◌++◌, ap, ◌∙◌}
use Rattle.byte_forms.specs.Reads.{whole}
use Rattle.byte_forms.proofs.FormLemmas.{whole_read}
use Rattle.txn_forms.specs.Bodies.{body_bytes, next_body}
use Rattle.txn_forms.proofs.BodyForms.{body_read}
use Rattle.txn_forms.proofs.codec.encode.Goals as goal

pub returns-clause-back : goal.returns-clause-back
returns-clause-back c =
    let spelled : c.from_vec.result ≡ body_bytes c.args.body.now = c.from_vec.ensures ∙ c.finish.ensures ∙ c.in_ok-put_body.ensures.ok ∙ ap (λ xs. xs ++ body_bytes c.args.body.now) c.new-to.ensures in
    ap (whole next_body) spelled ∙ whole_read body_read c.args.body.now (c.requires, c.in_ok-put_body.ensures.held)
