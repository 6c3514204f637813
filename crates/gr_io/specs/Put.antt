-- What `put_all` leaves.
use Rattle.std.specs.Prelude.{◌≡◌, ℕ, ◌≤◌, List, take, Result, Ok, Err}
use Rattle.gr_io.specs.Causes.{Rose}
use Rattle.gr_io.specs.declared.put.PutFault.{PutFault}
use Rattle.gr_io.specs.declared.put.PutFault.TheVariants.{Failed, TookNothing}

-- the bytes that a whole put appended
abbrev pub put_bytes : {T : Type 0} → Result T PutFault → List ℕ → List ℕ
put_bytes (Ok x) bytes = bytes
put_bytes (Err (Failed taken)) bytes = take taken bytes
put_bytes (Err (TookNothing taken)) bytes = take taken bytes

-- the number in a fault
abbrev pub taken_of : PutFault → ℕ
taken_of (Failed taken) = taken
taken_of (TookNothing taken) = taken

-- the count of faults doesn't fall, and `Failed` comes only where it rose
abbrev pub FailsBy : {T : Type 0} → Result T PutFault → ℕ → ℕ → Type 0
FailsBy (Ok x) before now = before ≤ now
FailsBy (Err (Failed taken)) before now = Rose before now
FailsBy (Err (TookNothing taken)) before now = before ≤ now

-- `TookNothing` comes exactly where a push was idle
abbrev pub IdlesBy : {T : Type 0} → Result T PutFault → ℕ → ℕ → Type 0
IdlesBy (Ok x) before now = now ≡ before
IdlesBy (Err (Failed taken)) before now = now ≡ before
IdlesBy (Err (TookNothing taken)) before now = Rose before now
