use Rattle.std.proofs.lemmas.Result.{on_ok_weaker}
use Rattle.group_rules.specs.declared.requests.Operator.TheVariants.{AskDonor, Campaign, DonorFailed, Finish, Leave, Multi as SetMulti, SetPrimary, Single as SetSingle, Tell}
use Rattle.member_core.proofs.Operated.{asked_so}
use Rattle.member_core.proofs.operating.operate.Goals as goal

pub returns-in-Campaign : goal.returns-in-Campaign
returns-in-Campaign c = on_ok_weaker c.campaign.result (λ d. asked_so c.args.operator Campaign c.args.moment.now c.campaign.new.moment c.in-Campaign.is d) c.campaign.ensures

pub returns-in-Tell : goal.returns-in-Tell
returns-in-Tell c = on_ok_weaker c.tell.result (λ d. asked_so c.args.operator Tell c.args.moment.now c.tell.new.moment c.in-Tell.is d) c.tell.ensures

pub returns-in-Leave : goal.returns-in-Leave
returns-in-Leave c = on_ok_weaker c.leave.result (λ d. asked_so c.args.operator Leave c.args.moment.now c.leave.new.moment c.in-Leave.is d) c.leave.ensures

pub returns-in-SetPrimary : goal.returns-in-SetPrimary
returns-in-SetPrimary c = on_ok_weaker c.send.result (λ d. asked_so c.args.operator (SetPrimary c.in-SetPrimary.inc) c.args.moment.now c.send.new.moment c.in-SetPrimary.is d) c.send.ensures

pub returns-in-Single : goal.returns-in-Single
returns-in-Single c = on_ok_weaker c.send-in-Single.result (λ d. asked_so c.args.operator (SetSingle c.in-Single.inc) c.args.moment.now c.send-in-Single.new.moment c.in-Single.is d) c.send-in-Single.ensures

pub returns-in-Multi : goal.returns-in-Multi
returns-in-Multi c = on_ok_weaker c.send-in-Multi.result (λ d. asked_so c.args.operator SetMulti c.args.moment.now c.send-in-Multi.new.moment c.in-Multi.is d) c.send-in-Multi.ensures

pub returns-in-AskDonor : goal.returns-in-AskDonor
returns-in-AskDonor c = on_ok_weaker c.ask_donor.result (λ d. asked_so c.args.operator (AskDonor c.in-AskDonor.donor) c.args.moment.now c.ask_donor.new.moment c.in-AskDonor.is d) c.ask_donor.ensures

pub returns-in-DonorFailed : goal.returns-in-DonorFailed
returns-in-DonorFailed c = on_ok_weaker c.donor_failed.result (λ d. asked_so c.args.operator DonorFailed c.args.moment.now c.donor_failed.new.moment c.in-DonorFailed.is d) c.donor_failed.ensures

pub returns-in-Finish : goal.returns-in-Finish
returns-in-Finish c = on_ok_weaker c.reply.result (λ d. asked_so c.args.operator Finish c.args.moment.now c.reply.new.self c.in-Finish.is d) c.reply.ensures
