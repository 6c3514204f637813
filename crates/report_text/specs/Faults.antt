-- Why a step isn't done, as text.
use Rattle.std.specs.Prelude.{ℕ, [], ◌++◌, codes}
use Rattle.group_rules.specs.Script.{Refusal, Declared, NoServer, AlreadyRunning, NoMessage, MessageLost, NoMember}
use Rattle.group_rules.specs.Texts.{Text, decimal, refusal_text, limit_text}
use Rattle.report_text.specs.Lines.{output_line}
use Rattle.report_text.specs.declared.fault.WorldFault.{WorldFault}
use Rattle.report_text.specs.declared.fault.WorldFault.TheVariants.{Declared as NumberTaken, NoServer as ServerMissing, AlreadyRunning as ServerRuns}
use Rattle.report_text.specs.declared.fault.WorldFault.TheVariants.{NoMessage as MessageMissing, MessageLost as MessageGone}
use Rattle.report_text.specs.declared.fault.WorldFault.TheVariants.{NoMember as MemberMissing, WireFull, Spent, Memory}

abbrev pub refused : Refusal → Text
refused r = codes "refused " ++ refusal_text r

abbrev pub fault_words : WorldFault → Text
fault_words NumberTaken = refused Declared
fault_words ServerMissing = refused NoServer
fault_words ServerRuns = refused AlreadyRunning
fault_words (MessageMissing k) = refused (NoMessage k)
fault_words (MessageGone k) = refused (MessageLost k)
fault_words MemberMissing = refused NoMember
fault_words (WireFull messages bytes) = limit_text (record { messages = messages; bytes = bytes })
fault_words (Spent steps) = codes "refused Spent " ++ decimal steps
fault_words Memory = []

-- the output line of the script's line with this number; for want of memory there is none
abbrev pub fault_line : ℕ → WorldFault → Text
fault_line number Memory = []
fault_line number f = output_line number (fault_words f)
