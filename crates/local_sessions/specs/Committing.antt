-- What a commit is checked for.
use Rattle.std.specs.Prelude.{◌≡◌, Option, Some, None}
use Rattle.txn_forms.specs.declared.body.Body.TheVariants.{Txn as Writes}
use Rattle.txn_forms.specs.Bodies.{IsHeldTxn, IsTxn, body_bytes}
use Rattle.group_rules.specs.Calls.{items_of}
use Rattle.local_sessions.specs.declared.tables.Tables.{Tables}
use Rattle.local_sessions.specs.declared.committing.CommitCheck.{CommitCheck}
use Rattle.local_sessions.specs.declared.committing.CommitCheck.TheVariants.{Ends as EndsAs, Fits}
use Rattle.local_sessions.specs.declared.commit_step.CommitStep.{CommitStep}
use Rattle.local_sessions.specs.declared.commit_step.CommitStep.TheVariants.{Ready, Said}
use Rattle.local_sessions.specs.Standing.{Session}
use Rattle.local_sessions.specs.Replies.{Asks, commit_changes, ends, txn_of}

-- it ends the transaction with this answer; or the transaction is sent, and has a spelling
abbrev pub IsChecked : Tables → Session → CommitCheck → Type 0
IsChecked at x (EndsAs a) = commit_changes at x x.changes ≡ ends a
IsChecked at x (Fits items) =
    (commit_changes at x x.changes ≡ record { answer = Ready (body_bytes (Writes (txn_of at x))); deed = Asks })
    × (items ≡ items_of x.changes)
    × IsTxn (txn_of at x)

-- the body that is handed out is of a transaction that can be spelt and read back
abbrev pub IsSpeltIn : Tables → Option Session → CommitStep → Type 0
IsSpeltIn at o (Said w) = Unit {0}
IsSpeltIn at None (Ready b) = ⊥
IsSpeltIn at (Some x) (Ready b) = IsTxn (txn_of at x) × IsHeldTxn (txn_of at x)
