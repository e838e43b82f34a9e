-- Why a device of layout 1 isn't brought over.
use Rattle.std.specs.Prelude.{ℕ, List}
use Rattle.layout_1.specs.Fronts.{HasOtherVersion, HasThisVersion, LacksMagic}
use Rattle.layout_1.specs.Standing.{StandsForNone}
use Rattle.migrate.specs.declared.refusals.MigrateRefused.{MigrateRefused}
use Rattle.migrate.specs.declared.refusals.MigrateRefused.TheVariants as why
use Rattle.command_output.specs.declared.fault.Fault.{Fault}
use Rattle.command_output.specs.declared.fault.Fault.TheVariants.{DeviceLength, NotFormatted, LayoutNotKnown, Damaged, Device, Memory}

-- what is told where it isn't
abbrev pub move_fault : MigrateRefused → Fault
move_fault why.NotFormatted = NotFormatted
move_fault why.BadVersion = LayoutNotKnown
move_fault why.Damaged = Damaged
move_fault why.OldDevice = Device
move_fault why.Memory = Memory
move_fault why.BadLength = DeviceLength
move_fault why.NewDevice = Device

-- what a fault tells of the old device's content: by these three that it stands for no state of layout 1, and which front it has
abbrev pub TellsOfOld : Fault → List ℕ → Type 0
TellsOfOld NotFormatted content = LacksMagic content × StandsForNone content
TellsOfOld LayoutNotKnown content = HasOtherVersion content × StandsForNone content
TellsOfOld Damaged content = HasThisVersion content × StandsForNone content
TellsOfOld fault content = Unit {0}

-- the faults of bringing a device over
abbrev pub IsMoveFault : Fault → Type 0
IsMoveFault NotFormatted = Unit {0}
IsMoveFault LayoutNotKnown = Unit {0}
IsMoveFault Damaged = Unit {0}
IsMoveFault Device = Unit {0}
IsMoveFault Memory = Unit {0}
IsMoveFault DeviceLength = Unit {0}
IsMoveFault fault = ⊥
