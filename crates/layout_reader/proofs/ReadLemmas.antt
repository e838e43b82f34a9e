-- Reads after reads, and what the front of a device tells.
use Rattle.std.proofs.Common.{Result, IsTrue, ◌≡◌, ◌<◌, ◌≤◌, ℕ, List, length, take, drop, sym, ◌∙◌, ap, subst, arith}
use Rattle.std.proofs.lemmas.List.{take-take, drop-take}
use Rattle.disk_trait.specs.declared.disk.DeviceFault.{DeviceFault}
use Rattle.disk_trait.specs.Disk.{DiskView, IsSameDevice, IsSettled, OnlyRead, IsDeviceCall, only_read, ran_on, read_on, bytes_at}
use Rattle.layout_reader.specs.declared.refusals.OpenRefused.{OpenRefused}
use Rattle.layout_reader.specs.declared.refusals.OpenRefused.TheVariants.{NotFormatted, BadVersion, Damaged, Device, Memory}
use Rattle.layout_reader.specs.Reading.{IsRead, IsNotRead}
use Rattle.layout_reader.specs.Refusals.{HasMagic, TellsOfLayout}

pub still : (a b : DiskView) → IsSameDevice a b → IsTrue a.keeps_model → IsTrue b.keeps_model
still a b same model = subst IsTrue (sym same.model) model

pub read_twice : (a b c : DiskView) → IsSameDevice a b → IsTrue a.keeps_model → (IsTrue a.keeps_model → OnlyRead a b) → (IsTrue b.keeps_model → OnlyRead b c) → OnlyRead a c
read_twice a b c same model first second = read_on a b c (first model) (second (still a b same model))

-- the same, with what else is said of a device that was read
pub is_read_on : (a b c : DiskView) → IsRead a b → IsRead b c → IsRead a c
is_read_on a b c first second = record {
  ran = ran_on a b c first.ran second.ran;
  no_failure = second.no_failure ∙ first.no_failure;
  reads = λ model. read_twice a b c first.ran model first.reads second.reads;
}

-- a read was refused after others
pub not_read_on : (a b c : DiskView) (why : OpenRefused) → IsRead a b → IsNotRead b c why → IsNotRead a c why
not_read_on a b c why first second = record {
  ran = ran_on a b c first.ran second.ran;
  device = λ is. subst (λ n. n < c.failures) first.no_failure (second.device is);
  served = λ no_fault. second.served no_fault ∙ first.no_failure;
  reads = λ model. read_twice a b c first.ran model first.reads second.reads;
}

-- a sync that was served is a read
pub synced : (a b : DiskView) (result : Result (Unit {0}) DeviceFault) → IsDeviceCall 0 0 a b result → b.failures ≡ a.failures → IsRead a b
synced a b result call served = record { ran = call.ran; no_failure = served; reads = only_read a b result call }

-- what was read is refused for another reason than the device
pub read_refused : (a b : DiskView) (why : OpenRefused) → IsRead a b → (why ≡ Device → ⊥) → IsNotRead a b why
read_refused a b why read other = record { ran = read.ran; device = λ is. absurd (other is); served = λ no_fault. read.no_failure; reads = read.reads }

-- what is settled stays so
pub settled_on : (a b : DiskView) → OnlyRead a b → IsSettled a → IsSettled b
settled_on a b read settled image left = settled image (read.left image left) ∙ sym read.content

-- the first ten bytes tell what the content tells
module _ (content front : List ℕ) (long : 10 ≤ length content) (wide : length front ≡ 10) (is : front ≡ bytes_at content 0 10) where
  same_magic : bytes_at front 0 6 ≡ bytes_at content 0 6
  same_magic = ap (λ (l : List ℕ). bytes_at l 0 6) is ∙ take-take 6 10 content (omega arith)

  same_version : bytes_at front 6 2 ≡ bytes_at content 6 2
  same_version = ap (λ (l : List ℕ). bytes_at l 6 2) is ∙ ap (take 2) (drop-take 6 4 content) ∙ take-take 2 4 (drop 6 content) (omega arith)

  magic_on : HasMagic content → HasMagic front
  magic_on has = (omega (arith, wide), same_magic ∙ has.1)

  magic_back : HasMagic front → HasMagic content
  magic_back has = (long, sym (same_magic) ∙ has.1)

  pub tells_on : (version : List ℕ) (e : OpenRefused) → TellsOfLayout version e front → TellsOfLayout version e content
  tells_on version NotFormatted tells = λ has. tells (magic_on has)
  tells_on version BadVersion tells = (magic_back tells.0, λ is. tells.1 (same_version ∙ is))
  tells_on version Damaged tells = (magic_back tells.0, sym (same_version) ∙ tells.1)
  tells_on version Device tells = tt
  tells_on version Memory tells = (magic_back tells.0, sym (same_version) ∙ tells.1)
