-- What a device that is refused tells.
use Rattle.std.proofs.Common.{◌≡◌, refl, Some}
use Rattle.disk_trait.specs.declared.disk.Disk.{Ghosts}
use Rattle.disk_trait.specs.Disk.{DiskView}
use Rattle.value_syntax.specs.declared.words.LandmarkWords.{LandmarkWords}
use Rattle.command_output.specs.declared.fault.Fault.{Fault}
use Rattle.command_output.specs.declared.fault.Fault.TheVariants as told
use Rattle.device_commands.specs.Openings.{IsOpenFault, TellsNotOpened}
use Rattle.live_service.specs.ServeEnds.{IsRefusedFor, IsServeEnd, IsServeFault, IsStartFault}

-- what holds of each fault of an opening
open_each : (P : Fault → Type 0) (f : Fault) → IsOpenFault f → P told.NotFormatted → P told.LayoutNotKnown → P told.Damaged → P told.Device → P told.Memory → P f
open_each P told.NotFormatted is front layout damaged device memory = front
open_each P told.LayoutNotKnown is front layout damaged device memory = layout
open_each P told.Damaged is front layout damaged device memory = damaged
open_each P told.Device is front layout damaged device memory = device
open_each P told.Memory is front layout damaged device memory = memory
open_each P _ is front layout damaged device memory = absurd is

-- and of each by which a service doesn't begin
start_each : (P : Fault → Type 0) (f : Fault) → IsStartFault f → P told.NotFormatted → P told.LayoutNotKnown → P told.Damaged → P told.Device → P told.Memory → P told.Words → P f
start_each P told.NotFormatted is front layout damaged device memory words = front
start_each P told.LayoutNotKnown is front layout damaged device memory words = layout
start_each P told.Damaged is front layout damaged device memory words = damaged
start_each P told.Device is front layout damaged device memory words = device
start_each P told.Memory is front layout damaged device memory words = memory
start_each P told.Words is front layout damaged device memory words = words
start_each P _ is front layout damaged device memory words = absurd is

-- none of an opening is that of the words
not_words : (f : Fault) → IsOpenFault f → f ≡ told.Words → ⊥
not_words f is = open_each (λ (e : Fault). e ≡ told.Words → ⊥) f is (λ same. cc) (λ same. cc) (λ same. cc) (λ same. cc) (λ same. cc)

-- so it says of the device what the opening says
pub not_opened : (words : LandmarkWords) (disk left : DiskView) (f : Fault) → TellsNotOpened disk left f → IsRefusedFor words disk left f
not_opened words disk left f is = record {
  named = open_each IsStartFault f is.fault tt tt tt tt tt;
  tells = is.tells;
  words = λ model state stands same. absurd (not_words f is.fault same);
  of_one = λ same. absurd (not_words f is.fault same);
  device = is.device;
  reads = is.reads;
  ran = is.ran;
}

-- none by which a service doesn't begin is the output's
pub start_other : (f : Fault) → IsStartFault f → f ≡ told.Output → ⊥
start_other f is = start_each (λ (e : Fault). e ≡ told.Output → ⊥) f is (λ same. cc) (λ same. cc) (λ same. cc) (λ same. cc) (λ same. cc) (λ same. cc)

-- a service whose device was refused ended so
pub refused_end : {D : Type 0} (model : Ghosts D) (disk back : D) (asked : LandmarkWords) (f : Fault) → IsRefusedFor asked (model.view disk) (model.view back) f → IsServeEnd model disk asked (Some back) f
refused_end model disk back asked f is = record {
  named = start_each IsServeFault f is.named tt tt tt tt tt tt;
  given_back = refl;
  tells = is.tells;
  not_within = is.words;
  of_one = is.of_one;
  refused = λ keeps opening. is.reads keeps;
  device = is.device;
}
