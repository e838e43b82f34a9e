-- What a refusal tells of the two devices.
use Rattle.std.specs.Prelude.{◌≡◌, ◌<◌, ℕ, List, IsErrOf, IsTrue, Result}
use Rattle.disk_trait.specs.Disk.{DiskView}
use Rattle.layout_1.specs.Fronts.{HasOtherVersion, HasThisVersion, LacksMagic}
use Rattle.layout_1.specs.Standing.{StandsForNone}
use Rattle.migrate.specs.declared.refusals.MigrateRefused.{MigrateRefused}
use Rattle.migrate.specs.declared.refusals.MigrateRefused.TheVariants.{NotFormatted, BadVersion, Damaged, OldDevice, Memory, BadLength, NewDevice}

-- what a refusal tells of the old content: by the first three it stands for nothing, and each has its own front
abbrev pub TellsOfContent : MigrateRefused → List ℕ → Type 0
TellsOfContent NotFormatted content = LacksMagic content × StandsForNone content
TellsOfContent BadVersion content = HasOtherVersion content × StandsForNone content
TellsOfContent Damaged content = HasThisVersion content × StandsForNone content
TellsOfContent OldDevice content = Unit {0}
TellsOfContent Memory content = HasThisVersion content
TellsOfContent BadLength content = Unit {0}
TellsOfContent NewDevice content = Unit {0}

-- what it tells of the calls of the old device: one failed, or none
abbrev pub TellsOfCalls : MigrateRefused → ℕ → ℕ → Type 0
TellsOfCalls OldDevice before after = before < after
TellsOfCalls refusal before after = after ≡ before

-- What a refusal tells of the old device, as it was and as it is.
pub record TellsOfOld (refusal : MigrateRefused) (before after : DiskView) : Type 0 where
  -- of one that keeps the model
  pub content : IsTrue before.keeps_model → TellsOfContent refusal before.content
  -- of any
  pub calls : TellsOfCalls refusal before.failures after.failures

-- by this refusal a call of the new device failed
abbrev pub TellsOfNew : {T : Type 0} → Result T MigrateRefused → DiskView → DiskView → Type 0
TellsOfNew result before after = IsErrOf result NewDevice → before.failures < after.failures

-- no call of the two devices failed
abbrev pub NoneFailed : DiskView → DiskView → DiskView → DiskView → Type 0
NoneFailed old_before old_after new_before new_after = (old_after.failures ≡ old_before.failures) × (new_after.failures ≡ new_before.failures)
