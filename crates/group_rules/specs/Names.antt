-- The words of the rules: the types of the code, with a name of its own for each case of each of them.
pub use Rattle.gr_ids.specs.declared.names.Inc.{Inc}
pub use Rattle.gr_ids.specs.declared.names.ValueId.{ValueId}
pub use Rattle.gr_ids.specs.declared.names.Gtid.{Gtid}
pub use Rattle.gr_ids.specs.declared.names.Ballot.{Ballot}
pub use Rattle.gr_ids.specs.declared.names.OpenParts.{OpenParts}
pub use Rattle.gr_ids.specs.declared.names.LastNumber.{LastNumber}
pub use Rattle.gr_ids.specs.declared.limits.Limits.{Limits}
pub use Rattle.gr_ids.specs.declared.levels.Level.{Level}
pub use Rattle.gr_ids.specs.declared.levels.Level.TheVariants.{Eventual, BeforeOnPrimaryFailover, Before, After, BeforeAndAfter}
pub use Rattle.gr_ids.specs.declared.levels.MemberState.{MemberState}
pub use Rattle.gr_ids.specs.declared.levels.MemberState.TheVariants.{Offline, Recovering, Online, Error}
pub use Rattle.gr_ids.specs.declared.levels.Mode.{Mode}
pub use Rattle.gr_ids.specs.declared.levels.Mode.TheVariants.{Single, Multi}
-- sets of GTIDs, rows and their changes
pub use Rattle.gtid_sets.specs.declared.run.Run.{Run}
pub use Rattle.gtid_sets.specs.declared.told.ToldSet.{ToldSet}
pub use Rattle.key_items.specs.declared.item.Item.{Item}
pub use Rattle.key_items.specs.declared.item.KeptItem.{KeptItem}
pub use Rattle.key_items.specs.declared.change.Change.{Change}
pub use Rattle.key_items.specs.declared.change.ChangeKind.{ChangeKind}
pub use Rattle.key_items.specs.declared.change.ChangeKind.TheVariants.{Insert as Inserts, Update as Updates, Delete as Deletes}
-- values and bodies
pub use Rattle.slot_values.specs.declared.value.Joiner.{Joiner}
pub use Rattle.slot_values.specs.declared.value.Value.{Value}
pub use Rattle.slot_values.specs.declared.value.Vote.{Vote}
pub use Rattle.slot_values.specs.declared.value.What.{What}
pub use Rattle.slot_values.specs.declared.value.What.TheVariants.{Noop, Add, Remove, Body as Says}
pub use Rattle.txn_forms.specs.declared.body.Txn.{Txn}
pub use Rattle.txn_forms.specs.declared.body.Part.{Part}
pub use Rattle.txn_forms.specs.declared.body.ModeChange.{ModeChange}
pub use Rattle.txn_forms.specs.declared.body.ModeChange.TheVariants.{Multi as ToMulti, Single as ToSingle}
pub use Rattle.txn_forms.specs.declared.body.Body.{Body}
pub use Rattle.txn_forms.specs.declared.body.Body.TheVariants.{Txn as Writes, Prepared, Sync, Executed, Online as Arrives, Mode as Switches, Primary as Appoints, Part as PartOf}
-- messages
pub use Rattle.paxos_forms.specs.declared.message.Message.{Message}
pub use Rattle.paxos_forms.specs.declared.message.Wire.{Wire}
pub use Rattle.paxos_forms.specs.declared.message.Wire.TheVariants.{Prepare, Promise, Accept, Accepted, Learn, Offer, Welcome as Greet, Ask as Asks, Give as Gives, Alive, Gone}
pub use Rattle.paxos_forms.specs.declared.welcome.Welcome.{Welcome}
pub use Rattle.paxos_forms.specs.declared.welcome.WelcomeMember.{WelcomeMember}
pub use Rattle.paxos_forms.specs.declared.recovery.Ask.{Ask}
pub use Rattle.paxos_forms.specs.declared.recovery.Give.{Give}
pub use Rattle.paxos_forms.specs.declared.recovery.Given.{Given}
-- what sessions and operators ask, and what they are answered
pub use Rattle.group_rules.specs.declared.requests.Request.{Request}
pub use Rattle.group_rules.specs.declared.requests.Request.TheVariants.{Begin, Get, Insert, Update, Delete, Commit, Rollback}
pub use Rattle.group_rules.specs.declared.requests.Operator.{Operator}
pub use Rattle.group_rules.specs.declared.requests.Operator.TheVariants.{Campaign, Tell, Leave, SetPrimary, Single as SetSingle, Multi as SetMulti, AskDonor, DonorFailed, Finish}
pub use Rattle.group_rules.specs.declared.answers.Holder.{Holder}
pub use Rattle.group_rules.specs.declared.answers.Holder.TheVariants.{Session as BySession, Place as ByPlace}
pub use Rattle.group_rules.specs.declared.answers.Answer.{Answer}
pub use Rattle.group_rules.specs.declared.answers.Answer.TheVariants.{Begun as BegunWith, Held, Got, Changed as IsChanged, Sent, CommittedEmpty, Committed as CommittedAs, RolledBack, Busy, NoTransaction, NotOnline, ReadOnly, RowLocked, DuplicateKey, NoRow, Killed, Conflict as ConflictWith, HoldTimeout, MemberLeft, Undecided, NotAcknowledged, TooLarge}
pub use Rattle.group_rules.specs.declared.marks.Reply.{Reply}
pub use Rattle.group_rules.specs.declared.marks.Reply.TheVariants.{Sent as SentAs, Ballot as AtBallot, Asked, Failed, Finished, NotOnline as IsNotOnline, NoAskDue, NoAskPending, NotQueued, AlreadyDone}
-- what a step leaves
pub use Rattle.group_rules.specs.declared.marks.Cause.{Cause}
pub use Rattle.group_rules.specs.declared.marks.Cause.TheVariants.{Founded, Started, Welcomed, OwnOnline, Removed, Gone as WasGone, Majority as NoMajority, Extra, NoDonor}
pub use Rattle.group_rules.specs.declared.marks.Effect.{Effect}
pub use Rattle.group_rules.specs.declared.marks.Effect.TheVariants.{Plain, Void, Unread, Positive, Conflict}
pub use Rattle.group_rules.specs.declared.marks.Mark.{Mark}
pub use Rattle.group_rules.specs.declared.marks.Mark.TheVariants.{Took as TookMark, Skipped as SkippedMark, Done as DoneMark, Committed as CommittedMark, State as StateMark, Given as GivenMark, Answered as AnsweredMark, Replied as RepliedMark}
