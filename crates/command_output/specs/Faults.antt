-- Faults: their texts and their exit status, and the exit status of a command that none ends.
use Rattle.std.specs.Prelude.{ℕ, List, [], ◌∷◌, ◌++◌, codes}
use Rattle.command_output.specs.declared.ended.Ended.{Ended}
use Rattle.command_output.specs.declared.ended.Ended.TheVariants.{Done, Refused}
use Rattle.command_output.specs.declared.fault.Fault.{Fault}
use Rattle.command_output.specs.declared.fault.Fault.TheVariants.{Usage, Op, Words, Script, ChangeTooLong, NodeCount, DeviceLength, DeviceFile, FileExists, DeviceInUse, NotFormatted, LayoutNotKnown, Damaged, Device, Memory, NoThread, Internal, Worn, AlreadyIn, NoNode, Output, TableFile}

-- what is told of a fault
abbrev pub fault_text : Fault → List ℕ
fault_text Usage = codes "usage"
fault_text Op = codes "op not understood"
fault_text Words = codes "words not understood"
fault_text Script = codes "script not understood"
fault_text ChangeTooLong = codes "change too long"
fault_text NodeCount = codes "node count out of range"
fault_text DeviceLength = codes "device length is wrong"
fault_text DeviceFile = codes "device file cannot be used"
fault_text FileExists = codes "file exists"
fault_text DeviceInUse = codes "device in use"
fault_text NotFormatted = codes "not formatted"
fault_text LayoutNotKnown = codes "layout not known"
fault_text Damaged = codes "damaged"
fault_text Device = codes "device failed"
fault_text Memory = codes "out of memory"
fault_text NoThread = codes "out of memory"
fault_text Internal = codes "input or output failed"
fault_text Worn = codes "worn out"
fault_text AlreadyIn = codes "already in"
fault_text NoNode = codes "no node"
fault_text Output = codes "input or output failed"
fault_text TableFile = codes "table file cannot be written"

-- the line that tells it
abbrev pub told_text : Fault → List ℕ
told_text fault = (codes "tznode: " ++ fault_text fault) ++ 10 ∷ []

-- the faults by which words are not understood
abbrev pub IsNotUnderstood : Fault → Type 0
IsNotUnderstood Usage = Unit {0}
IsNotUnderstood Op = Unit {0}
IsNotUnderstood Words = Unit {0}
IsNotUnderstood Script = Unit {0}
IsNotUnderstood fault = ⊥

-- the exit status: 2 where the words are not understood, else 1
abbrev pub status_of : Fault → ℕ
status_of Usage = 2
status_of Op = 2
status_of Words = 2
status_of Script = 2
status_of ChangeTooLong = 1
status_of NodeCount = 1
status_of DeviceLength = 1
status_of DeviceFile = 1
status_of FileExists = 1
status_of DeviceInUse = 1
status_of NotFormatted = 1
status_of LayoutNotKnown = 1
status_of Damaged = 1
status_of Device = 1
status_of Memory = 1
status_of NoThread = 1
status_of Internal = 1
status_of Worn = 1
status_of AlreadyIn = 1
status_of NoNode = 1
status_of Output = 1
status_of TableFile = 1

-- the exit status of a command that ends so
abbrev pub status_at : Ended → ℕ
status_at Done = 0
status_at Refused = 1
