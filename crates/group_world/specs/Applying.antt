-- What the steps of some forms do; the others are done elsewhere.
use Rattle.group_rules.specs.declared.steps.Step.{Step}
use Rattle.group_rules.specs.declared.steps.Step.TheVariants.{Block, Deliver, Drain, Finish, Found, Lose, Offline, Once, Operate, Server, Session, Settle, ShowCertifier, ShowConfig, ShowGtids, ShowKept, ShowMembers, ShowQueue, ShowRows, ShowSlots, ShowWire, Start, Stop, Tick, Work}
use Rattle.group_rules.specs.Script.{Play, does}

-- servers, and the founding
abbrev pub sets : Step → Play → Play
sets (Server n u v g) y = does (Server n u v g) y
sets (Block k) y = does (Block k) y
sets (Found g m h e q ns) y = does (Found g m h e q ns) y
sets (Start n via) y = does (Start n via) y
sets (Stop n) y = does (Stop n) y
sets (Offline n i r) y = does (Offline n i r) y
sets x y = y

-- looks
abbrev pub looks : Step → Play → Play
looks (ShowMembers n) y = does (ShowMembers n) y
looks (ShowSlots n) y = does (ShowSlots n) y
looks (ShowConfig n t) y = does (ShowConfig n t) y
looks (ShowGtids n) y = does (ShowGtids n) y
looks (ShowRows n) y = does (ShowRows n) y
looks (ShowQueue n) y = does (ShowQueue n) y
looks (ShowCertifier n) y = does (ShowCertifier n) y
looks (ShowKept n) y = does (ShowKept n) y
looks ShowWire y = does ShowWire y
looks x y = y

-- what members do, and their messages
abbrev pub moves : Step → Play → Play
moves (Session n s r) y = does (Session n s r) y
moves (Once n s c) y = does (Once n s c) y
moves (Operate n o) y = does (Operate n o) y
moves (Deliver k) y = does (Deliver k) y
moves (Lose k) y = does (Lose k) y
moves (Settle ns) y = does (Settle ns) y
moves (Work n p) y = does (Work n p) y
moves Drain y = does Drain y
moves (Tick n k) y = does (Tick n k) y
moves (Finish n) y = does (Finish n) y
moves x y = y
