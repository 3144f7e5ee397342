-- Which faults a step of a load may answer.
use Rattle.std.specs.Prelude.{◌≡◌, ◌≤◌, zero, suc, Result, Ok, Err}
use Rattle.load_stream.specs.declared.fault.LoadFault.{LoadFault}
use Rattle.load_stream.specs.declared.fault.LoadFault.TheVariants as why

-- a step that fails does so for a device alone
abbrev pub IsDeviceFault : {T : Type 0} → Result T LoadFault → Type 0
IsDeviceFault (Ok x) = Unit {0}
IsDeviceFault (Err (why.Line n)) = ⊥
IsDeviceFault (Err (why.TooMany n)) = ⊥
IsDeviceFault (Err why.NoMemory) = ⊥
IsDeviceFault (Err why.Disk) = Unit {0}
IsDeviceFault (Err why.Source) = Unit {0}

-- a step that fails does so at an object of the input, counted from 1, or for a device
abbrev pub IsLineOrDevice : {T : Type 0} → Result T LoadFault → Type 0
IsLineOrDevice (Ok x) = Unit {0}
IsLineOrDevice (Err (why.Line n)) = 1 ≤ n
IsLineOrDevice (Err (why.TooMany n)) = ⊥
IsLineOrDevice (Err why.NoMemory) = ⊥
IsLineOrDevice (Err why.Disk) = Unit {0}
IsLineOrDevice (Err why.Source) = Unit {0}

-- a step that fails does so at the first line, or for the source
abbrev pub IsFirstFault : {T : Type 0} → Result T LoadFault → Type 0
IsFirstFault (Ok x) = Unit {0}
IsFirstFault (Err (why.Line n)) = n ≡ 0
IsFirstFault (Err (why.TooMany n)) = Unit {0}
IsFirstFault (Err why.NoMemory) = ⊥
IsFirstFault (Err why.Disk) = ⊥
IsFirstFault (Err why.Source) = Unit {0}

-- the refusals of a load that come before the file is formatted
abbrev pub IsEarly : {T : Type 0} → Result T LoadFault → Type 0
IsEarly (Ok x) = ⊥
IsEarly (Err (why.Line zero)) = Unit {0}
IsEarly (Err (why.Line (suc n))) = ⊥
IsEarly (Err (why.TooMany n)) = Unit {0}
IsEarly (Err why.NoMemory) = Unit {0}
IsEarly (Err why.Disk) = ⊥
IsEarly (Err why.Source) = ⊥
