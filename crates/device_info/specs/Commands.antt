-- What `info` and `journal` print of a device.
use Rattle.std.specs.Prelude.{◌≡◌, ◌↔◌, ℕ, List, [], ◌∷◌, ◌++◌, Bool, true, false, Option, IsTrue, codes, decimal, option_map, flat_map}
use Rattle.clap.specs.Simple.{App}
use Rattle.clap.specs.Walk.{Row, first_of}
use Rattle.disk_trait.specs.Disk.{DiskView}
use Rattle.layout_2.specs.Loading.{IsNotLoaded, IsNotRead, IsRead}
use Rattle.device_suspects.specs.declared.suspect.Suspect.{Suspect}
use Rattle.device_suspects.specs.declared.suspect.Suspects.{Suspects}
use Rattle.device_suspects.specs.Suspects.{AreSuspects}
use Rattle.lab_parts.specs.Devices.{OfDevice}
use Rattle.lab_parts.specs.Grammar.{app_with, flag_rule, value_rule, word_rule}
use Rattle.lab_parts.specs.Places.{OutputStep, Place, Prints}
use Rattle.lab_parts.specs.Words.{IsFlag}
use Rattle.device_info.specs.declared.changes.RecentChanges.{RecentChanges}
use Rattle.device_info.specs.declared.figures.DeviceInfo.{DeviceInfo}
use Rattle.device_info.specs.declared.refused.InfoRefused.{InfoRefused}
use Rattle.device_info.specs.declared.refused.InfoRefused.TheVariants.{Device, Suspects as NoSuspects, Print}
use Rattle.device_info.specs.Changes.{AreChangesOf, last_lines}
use Rattle.device_info.specs.Info.{IsInfoOf}
use Rattle.device_info.specs.Json.{json_line}
use Rattle.device_info.specs.Lines.{info_lines}
use Rattle.device_info.specs.Present.{present, suspect_line}

-- ---- words

-- `info DEVICE [--json]`
abbrev pub info_app : App
info_app = app_with (codes "info") (word_rule (codes "device") ∷ flag_rule (codes "json") ∷ [])

-- `journal DEVICE [--last N]`
abbrev pub journal_app : App
journal_app = app_with (codes "journal") (word_rule (codes "device") ∷ value_rule (codes "last") ∷ [])

-- ---- figures

-- the figures and the suspects as JSON, or as lines
abbrev pub text_of_info : Bool → DeviceInfo → List Suspect → List ℕ
text_of_info true info suspects = json_line info suspects
text_of_info false info suspects = info_lines info ++ flat_map suspect_line suspects

-- Figures were printed of a device that was only read, and what is on it that no crash leaves; where it keeps the model, they are its own. It is
-- answered whether there is none of these.
pub record PrintsInfo (as_json is_sound : Bool) (disk left : DiskView) {W : Type 0} (out : OutputStep W) : Type 0 where
  pub info : DeviceInfo
  pub suspects : Suspects
  pub own : IsTrue disk.keeps_model → IsInfoOf info disk.content
  pub seen : IsTrue disk.keeps_model → AreSuspects suspects disk.content
  pub sound : IsTrue is_sound ↔ (present suspects ≡ [])
  pub printed : Prints out (text_of_info as_json info (present suspects))
  pub read : IsRead disk left

-- they were printed of a device without suspects, as an object of JSON where that is asked for
abbrev pub PrintsInfoFor : List Row → DiskView → DiskView → {W : Type 0} → OutputStep W → Type 0
PrintsInfoFor rows disk left out = (as_json : Bool) × IsFlag rows (codes "json") as_json × PrintsInfo as_json true disk left out

-- what the command does where it ends with status 0: it prints the figures of the device that the words name
abbrev pub DoesInfo : {D : Type 0} → Place D → List Row → {W : Type 0} → OutputStep W → Type 0
DoesInfo place rows out =
    OfDevice place.opened place.closed rows (λ path disk left. PrintsInfoFor rows (place.model.view disk) (place.model.view left) out)

-- why nothing is printed: the device is refused, or what an opening passes over can't be read, or the output is refused
abbrev pub IsInfoRefused : DiskView → DiskView → InfoRefused → Type 0
IsInfoRefused disk left (Device refused) = IsNotLoaded disk left refused
IsInfoRefused disk left (NoSuspects refused) = IsNotRead disk left refused
IsInfoRefused disk left (Print refused) = IsRead disk left

-- why it isn't seen what no crash leaves
abbrev pub IsUnseen : DiskView → DiskView → InfoRefused → Type 0
IsUnseen disk left (NoSuspects refused) = IsNotRead disk left refused
IsUnseen disk left other = ⊥

-- ---- changes

-- The lines of changes were printed, of as many last ones as were asked for, of a device that was only read; where it keeps the model,
-- they are the changes behind its checkpoint.
pub record PrintsChanges (last : Option ℕ) (disk left : DiskView) {W : Type 0} (out : OutputStep W) : Type 0 where
  pub changes : RecentChanges
  pub own : IsTrue disk.keeps_model → AreChangesOf changes disk.content
  pub printed : Prints out (last_lines last changes)
  pub read : IsRead disk left

-- as many as are asked for
abbrev pub PrintsChangesFor : List Row → DiskView → DiskView → {W : Type 0} → OutputStep W → Type 0
PrintsChangesFor rows disk left out = (last : Option ℕ) × (first_of (codes "last") rows ≡ option_map decimal last) × PrintsChanges last disk left out

-- what the command does where it ends with status 0: it prints the changes of the device that the words name
abbrev pub DoesJournal : {D : Type 0} → Place D → List Row → {W : Type 0} → OutputStep W → Type 0
DoesJournal place rows out =
    OfDevice place.opened place.closed rows (λ path disk left. PrintsChangesFor rows (place.model.view disk) (place.model.view left) out)
