use Rattle.report_text.proofs.Limits.{messages_named, bytes_named}
use Rattle.report_text.proofs.faults.limit_name.Goals as goal

pub returns-then-messages-gt-MESSAGES_LIMIT : goal.returns-then-messages-gt-MESSAGES_LIMIT
returns-then-messages-gt-MESSAGES_LIMIT c = messages_named c.args.messages c.args.bytes c.if-messages-gt-MESSAGES_LIMIT.true

pub returns-else-messages-gt-MESSAGES_LIMIT : goal.returns-else-messages-gt-MESSAGES_LIMIT
returns-else-messages-gt-MESSAGES_LIMIT c = bytes_named c.args.messages c.args.bytes c.if-messages-gt-MESSAGES_LIMIT.false
