use Rattle.std.proofs.Common.{◌≡◌, ◌++◌, ap, ◌∙◌}
use Rattle.byte_forms.specs.Reads.{whole}
use Rattle.byte_forms.proofs.FormLemmas.{whole_read}
use Rattle.paxos_forms.specs.Messages.{message_bytes, next_message}
use Rattle.paxos_forms.proofs.MessageForms.{message_read}
use Rattle.paxos_forms.proofs.codec.encode.Goals as goal

pub returns-clause-back : goal.returns-clause-back
returns-clause-back c =
    let spelled : c.from_vec.result ≡ message_bytes c.args.message.now = c.from_vec.ensures ∙ c.finish.ensures ∙ c.in_ok-put_message.ensures.ok ∙ ap (λ xs. xs ++ message_bytes c.args.message.now) c.new-to.ensures in
    ap (whole next_message) spelled ∙ whole_read message_read c.args.message.now (c.requires, c.in_ok-put_message.ensures.held)
